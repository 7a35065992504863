-- Rows of numbers of one unit, and of numbers of which one has a unit.
use Rattle.std.specs.Prelude.{Bool, true, List, [], ◌∷◌, fold, Some}
use Rattle.std.proofs.Common.{◌≡◌, refl, ◌∙◌, ap, ap₂}
use Rattle.cv_spec_ratio.specs.Ratio.{Ratio, add, neg, reciprocal}
use Rattle.cv_spec_ratio.specs.Order.{lesser, greater}
use Rattle.cv_calc.specs.declared.unit.Unit as units
use Rattle.cv_calc.specs.declared.unit.Unit.TheVariants.{Number}
use Rattle.cv_calc.specs.declared.calc.Calc.{Calc}
use Rattle.cv_calc.specs.declared.calc.Calc.TheVariants as tree
use Rattle.cv_calc.specs.declared.calc.Calc.TheOpen as layer
use Rattle.cv_calc.specs.Tree.{out-Num}
use Rattle.cv_simplify.specs.Simplified.{joined_as, joined_by, join_first, with_child, one_or, any_unit, terms_as, with_terms_of, sum_row, summed, may_compare, choice_row, number_clamped_as, number_clamped, clamped_as, clamped, negated_as, negated, inverse_or, inverted_as, inverted}
use Rattle.cv_calc_laws.proofs.Lists.{Every}
use Rattle.cv_calc_laws.proofs.Named.{same_unit-refl}

-- it is a number of the unit
abbrev pub IsNum : units.Unit → Calc → Type 0
IsNum u c = (v : Ratio) × (c ≡ tree.Num v u)

-- ---- numbers of one unit

module _ (u : units.Unit) where
  -- the row is one number of the unit
  abbrev pub IsOne : List Calc → Type 0
  IsOne row = (v : Ratio) × (row ≡ tree.Num v u ∷ [])

  pub joined_one : (may : units.Unit → Bool) (f : Ratio → Ratio → Ratio) → may u ≡ true → (v w : Ratio) → joined_by may f (tree.Num v u) (tree.Num w u) ≡ Some (tree.Num (f v w) u)
  joined_one may f ok v w = ap₂ (joined_as may f) (out-Num v u) (out-Num w u) ∙ rw (same_unit-refl u, ok) refl

  -- numbers that are joined from the left, by steps that join numbers of the unit
  module _ (step : List Calc → Calc → List Calc) (f : Ratio → Ratio → Ratio)
      (first : (w : Ratio) → step [] (tree.Num w u) ≡ tree.Num w u ∷ [])
      (next : (v w : Ratio) → step (tree.Num v u ∷ []) (tree.Num w u) ≡ tree.Num (f v w) u ∷ []) where
    more_one : (row ds : List Calc) → IsOne row → Every (IsNum u) ds → IsOne (fold step row ds)
    more_one row [] h k = h
    more_one row (d ∷ ds) h k = more_one (step row d) ds (f h.0 k.0.0, ap₂ step h.1 k.0.1 ∙ next h.0 k.0.0) k.1

    pub row_one : (d : Calc) (ds : List Calc) → Every (IsNum u) (d ∷ ds) → IsOne (fold step [] (d ∷ ds))
    row_one d ds k = more_one (step [] d) ds (k.0.0, ap (step []) k.0.1 ∙ first k.0.0) k.1

  pub one_or_one : (node : List Calc → Calc) (row : List Calc) → IsOne row → IsNum u (one_or node row)
  one_or_one node row h = (h.0, ap (one_or node) h.1)

  pub added_one : (v w : Ratio) → with_terms_of (tree.Num v u ∷ []) (tree.Num w u) ≡ tree.Num (add v w) u ∷ []
  added_one v w =
      ap (λ l. fold (with_child (joined_by any_unit add)) (tree.Num v u ∷ []) (terms_as (tree.Num w u) l)) (out-Num w u)
      ∙ ap (λ o. join_first o (tree.Num v u) [] (tree.Num w u ∷ [])) (joined_one any_unit add refl v w)

  pub summed_one : (d : Calc) (ds : List Calc) → Every (IsNum u) (d ∷ ds) → IsNum u (summed (d ∷ ds))
  summed_one d ds k =
      one_or_one tree.Sum (sum_row (d ∷ ds))
      (row_one with_terms_of add (λ w. ap (λ l. fold (with_child (joined_by any_unit add)) [] (terms_as (tree.Num w u) l)) (out-Num w u)) added_one d ds k)

  pub chosen_one : (b : Bool) (f : Ratio → Ratio → Ratio) (node : List Calc → Calc) → may_compare b u ≡ true → (d : Calc) (ds : List Calc) → Every (IsNum u) (d ∷ ds) → IsNum u (one_or node (choice_row b f (d ∷ ds)))
  chosen_one b f node ok d ds k =
      one_or_one node (choice_row b f (d ∷ ds))
      (row_one (with_child (joined_by (may_compare b) f)) f (λ w. refl) (λ v w. ap (λ o. join_first o (tree.Num v u) [] (tree.Num w u ∷ [])) (joined_one (may_compare b) f ok v w)) d ds k)

  pub clamped_one : (b : Bool) → may_compare b u ≡ true → (l m h : Calc) → IsNum u l → IsNum u m → IsNum u h → IsNum u (clamped b l m h)
  clamped_one b ok l m h (v, p) (w, q) (z, r) =
      let opened : number_clamped b (tree.Num v u) (tree.Num w u) (tree.Num z u) ≡ number_clamped_as b (layer.Num v u) (layer.Num w u) (layer.Num z u)
      = λ i. number_clamped_as b (out-Num v u i) (out-Num w u i) (out-Num z u i) in
      let is : number_clamped_as b (layer.Num v u) (layer.Num w u) (layer.Num z u) ≡ Some (greater v (lesser w z), u) = rw (same_unit-refl u, ok) refl in (
        greater v (lesser w z),
        (λ i. clamped b (p i) (q i) (r i)) ∙ ap (λ o. clamped_as o (tree.Num v u) (tree.Num w u) (tree.Num z u)) (opened ∙ is),
      )

  pub negated_one : (d : Calc) → IsNum u d → IsNum u (negated d)
  negated_one d (v, p) = (neg v, ap negated p ∙ ap (negated_as (tree.Num v u)) (out-Num v u))

-- the inverse of a number that has one
pub inverted_one : (d : Calc) (v r : Ratio) → d ≡ tree.Num v Number → reciprocal v ≡ Some r → IsNum Number (inverted d)
inverted_one d v r p is = (r, ap inverted p ∙ ap (inverted_as (tree.Num v Number)) (out-Num v Number) ∙ ap (inverse_or (tree.Num v Number)) is)
