-- Entries of a map by key.
use Rattle.std.proofs.Common.{◌≡◌, Bool, true, false, cond, refl, List, [], ◌∷◌, ◌++◌, sym, ap, ◌∙◌, subst, append_assoc}
use Rattle.std.specs.Prelude.{All}
use Rattle.std.specs.List.{IsDistinct}
use Rattle.std.specs.Map.{keys_of, remove_entry}
use Rattle.std.proofs.lemmas.List.Elements.{All-cons, All-head, All-tail}
use Rattle.indexmap.specs.IndexMap.{insert_entry}
use Rattle.indexmap.proofs.MapLemmas.{absent_before, absent_from_lookup, insert_entry-absent}
use Rattle.cv_valuation.specs.declared.key.Key.{Key}
use Rattle.cv_valuation.specs.Keys.{same_key}
use Rattle.cv_valuation.specs.KeyLaws.{same_key_equiv}
use Rattle.cv_valuation.proofs.KeyOrder.{equal_keys}

-- where no two keys are equal, the next entry goes last
pub next_entry : {X : Type 0} (done rest entries : List (Key × X)) (e : Key × X) → IsDistinct same_key (keys_of entries) → done ++ e ∷ rest ≡ entries → insert_entry same_key done e.0 e.1 ++ rest ≡ entries
next_entry done rest entries e distinct all =
    let apart = absent_before same_key_equiv done rest e (subst (λ l. IsDistinct same_key (keys_of l)) (sym all) distinct) in
    ap (λ l. l ++ rest) (insert_entry-absent same_key e.0 e.1 done (absent_from_lookup (same_key e.0) done apart))
    ∙ append_assoc done (e ∷ []) rest
    ∙ all

module _ {X : Type 0} (P : Key × X → Type 0) where
  -- what holds of each entry and of a new one holds of each once that is put
  pub All-insert_entry : (es : List (Key × X)) (key : Key) (x : X) → All P es → P (key, x) → All P (insert_entry same_key es key x)
  All-insert_entry [] key x all new = All-cons P (key, x) [] new all
  All-insert_entry (e ∷ es) key x all new = by (All-insert_entry es key x (All-tail P e es all) new) (same_key key e.0) refl
    where
      by : All P (insert_entry same_key es key x) → (b : Bool) → same_key key e.0 ≡ b → All P (cond b ((e.0, x) ∷ es) (e ∷ insert_entry same_key es key x))
      by rest true same = All-cons P (e.0, x) es (subst (λ k. P (k, x)) (equal_keys key e.0 same) new) (All-tail P e es all)
      by rest false other = All-cons P e _ (All-head P e es all) rest

  -- what holds of each entry holds of those that are left
  pub All-remove_entry : (test : Key → Bool) (es : List (Key × X)) → All P es → All P (remove_entry test es)
  All-remove_entry test [] all = all
  All-remove_entry test (e ∷ es) all = by (All-remove_entry test es (All-tail P e es all)) (test e.0)
    where
      by : All P (remove_entry test es) → (b : Bool) → All P (cond b es (e ∷ remove_entry test es))
      by rest true = All-tail P e es all
      by rest false = All-cons P e _ (All-head P e es all) rest
