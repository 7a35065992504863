-- Entries by name.
use Rattle.std.proofs.Common.{◌≡◌, ℕ, Bool, true, false, cond, refl, List, [], ◌∷◌, ◌++◌, Option, Some, None, sym, ap, ◌∙◌, subst, append_assoc, Bor}
use Rattle.std.specs.Prelude.{All, IfSome, bytes_eq}
use Rattle.std.specs.List.{IsDistinct}
use Rattle.std.specs.Map.{keys_of, lookup}
use Rattle.std.specs.Cmp.Lexicographic.{nat_list_eq_equiv}
use Rattle.std.proofs.lemmas.List.Elements.{All-cons, All-head, All-tail}
use Rattle.std.proofs.lemmas.Slice.Eq.{bytes_eq-Decides}
use Rattle.indexmap.specs.IndexMap.{insert_entry}
use Rattle.std.specs.Option.{option_copied}
use Rattle.cv_props.specs.declared.entry.Entry.{Entry}
use Rattle.cv_props.specs.Registered.{IsEntry, IsRegistered, Registered, entry_of}
use Rattle.indexmap.proofs.MapLemmas.{absent_before, absent_from_lookup, insert_entry-absent}

equal_names : (a b : List ℕ) → bytes_eq a b ≡ true → a ≡ b
equal_names a b same = (bytes_eq-Decides a b).0 same

module _ {X : Type 0} (P : List ℕ × X → Type 0) where
  -- what holds of each entry and of a new one holds of each once that is put
  pub All-insert_name : (es : List (List ℕ × X)) (name : List ℕ) (x : X) → All P es → P (name, x) → All P (insert_entry bytes_eq es name x)
  All-insert_name [] name x all new = All-cons P (name, x) [] new all
  All-insert_name (e ∷ es) name x all new = by (All-insert_name es name x (All-tail P e es all) new) (bytes_eq name e.0) refl
    where
      by : All P (insert_entry bytes_eq es name x) → (b : Bool) → bytes_eq name e.0 ≡ b → All P (cond b ((e.0, x) ∷ es) (e ∷ insert_entry bytes_eq es name x))
      by rest true same = All-cons P (e.0, x) es (subst (λ k. P (k, x)) (equal_names name e.0 same) new) (All-tail P e es all)
      by rest false other = All-cons P e _ (All-head P e es all) rest

  -- what holds of each entry holds of what is found for a name
  pub lookup_name : (es : List (List ℕ × X)) (name : List ℕ) (x : X) → All P es → lookup (bytes_eq name) es ≡ Some x → P (name, x)
  lookup_name [] name x all found = cc
  lookup_name (e ∷ es) name x all found = by (lookup_name es name x (All-tail P e es all)) (bytes_eq name e.0) refl found
    where
      by : (lookup (bytes_eq name) es ≡ Some x → P (name, x)) → (b : Bool) → bytes_eq name e.0 ≡ b → cond b (Some e.1) (lookup (bytes_eq name) es) ≡ Some x → P (name, x)
      by rest true same found =
          let is : e.1 ≡ x = cc in
          subst (λ y. P (name, y)) is (subst (λ k. P (k, e.1)) (sym (equal_names name e.0 same)) (All-head P e es all))
      by rest false other found = rest found

-- where no two names are equal, the next entry goes last
pub next_name : {X : Type 0} (done rest entries : List (List ℕ × X)) (e : List ℕ × X) → IsDistinct bytes_eq (keys_of entries) → done ++ e ∷ rest ≡ entries → insert_entry bytes_eq done e.0 e.1 ++ rest ≡ entries
next_name done rest entries e distinct all =
    let apart = absent_before nat_list_eq_equiv done rest e (subst (λ l. IsDistinct bytes_eq (keys_of l)) (sym all) distinct) in
    ap (λ l. l ++ rest) (insert_entry-absent bytes_eq e.0 e.1 done (absent_from_lookup (bytes_eq e.0) done apart))
    ∙ append_assoc done (e ∷ []) rest
    ∙ all

pub kept_found : (registered : Registered) (name : List ℕ) (found : Option (Bor Entry)) → All IsRegistered registered
    → option_copied found ≡ entry_of registered name → IfSome found (λ entry. IsEntry name entry.now)
kept_found registered name None all is = tt
kept_found registered name (Some entry) all is = lookup_name IsRegistered registered name entry.now all (sym is)
