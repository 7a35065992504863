-- Entries by name: what holds of each.
use Rattle.std.proofs.Common.{◌≡◌, ℕ, Bool, true, false, cond, List, [], ◌∷◌, Some, refl, sym, subst}
use Rattle.std.specs.Prelude.{All, bytes_eq}
use Rattle.std.specs.Map.{lookup}
use Rattle.std.proofs.lemmas.List.Elements.{All-cons, All-head, All-tail}
use Rattle.std.proofs.lemmas.Slice.Eq.{bytes_eq-Decides}
use Rattle.indexmap.specs.IndexMap.{insert_entry}

equal_names : (a b : List ℕ) → bytes_eq a b ≡ true → a ≡ b
equal_names a b same = (bytes_eq-Decides a b).0 same

module _ {X : Type 0} (P : List ℕ × X → Type 0) where
  -- what holds of each entry and of a new one holds of each once that is put
  pub all_with_entry : (es : List (List ℕ × X)) (name : List ℕ) (x : X) → All P es → P (name, x) → All P (insert_entry bytes_eq es name x)
  all_with_entry [] name x all new = All-cons P (name, x) [] new all
  all_with_entry (e ∷ es) name x all new = by (all_with_entry es name x (All-tail P e es all) new) (bytes_eq name e.0) refl
    where
      by : All P (insert_entry bytes_eq es name x) → (b : Bool) → bytes_eq name e.0 ≡ b → All P (cond b ((e.0, x) ∷ es) (e ∷ insert_entry bytes_eq es name x))
      by rest true same = All-cons P (e.0, x) es (subst (λ k. P (k, x)) (equal_names name e.0 same) new) (All-tail P e es all)
      by rest false other = All-cons P e _ (All-head P e es all) rest

  -- what holds of each entry holds of what is found for a name
  pub of_found : (es : List (List ℕ × X)) (name : List ℕ) (x : X) → All P es → lookup (bytes_eq name) es ≡ Some x → P (name, x)
  of_found [] name x all found = cc
  of_found (e ∷ es) name x all found = by (of_found es name x (All-tail P e es all)) (bytes_eq name e.0) refl found
    where
      by : (lookup (bytes_eq name) es ≡ Some x → P (name, x)) → (b : Bool) → bytes_eq name e.0 ≡ b → cond b (Some e.1) (lookup (bytes_eq name) es) ≡ Some x → P (name, x)
      by rest true same found =
          let is : e.1 ≡ x = cc in
          subst (λ y. P (name, y)) is (subst (λ k. P (k, e.1)) (sym (equal_names name e.0 same)) (All-head P e es all))
      by rest false other found = rest found
