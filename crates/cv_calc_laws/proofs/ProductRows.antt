-- The row of a product of numbers, of which one may have a unit.
use Rattle.std.specs.Prelude.{Bool, true, false, ◌&&◌, List, [], ◌∷◌, fold, Option, Some, None, if◌then◌else◌}
use Rattle.std.proofs.Common.{inl, inr, ◌≡◌, refl, sym, ◌∙◌, ap, ap₂, subst}
use Rattle.cv_spec_ratio.specs.Ratio.{Ratio, mul}
use Rattle.cv_calc.specs.declared.unit.Unit as units
use Rattle.cv_calc.specs.declared.unit.Unit.TheVariants.{Number}
use Rattle.cv_calc.specs.declared.calc.Calc.{Calc}
use Rattle.cv_calc.specs.declared.calc.Calc.TheVariants as tree
use Rattle.cv_calc.specs.Tree.{out-Num}
use Rattle.cv_calc.specs.Unit.{same_unit}
use Rattle.cv_simplify.specs.Simplified.{joined_as, joined_by, join_first, with_child, factors_as, is_number, with_factors_of, product_row, number_as, number_of, scaled_as, scaled, scaled_pair, or_else, product_as, multiplied}
use Rattle.cv_calc_laws.proofs.Lists.{Every, AllButOne}
use Rattle.cv_calc_laws.proofs.Rows.{IsNum, row_one}

abbrev number : Ratio → Calc
number v = tree.Num v Number

abbrev join : Calc → Calc → Option Calc
join = joined_by is_number mul

-- a number is a factor by itself
single : (row : List Calc) (w : Ratio) (t : units.Unit) → with_factors_of row (tree.Num w t) ≡ with_child join row (tree.Num w t)
single row w t = ap (λ l. fold (with_child join) row (factors_as (tree.Num w t) l)) (out-Num w t)

numbers_join : (v w : Ratio) → join (number v) (number w) ≡ Some (number (mul v w))
numbers_join v w = ap₂ (joined_as is_number mul) (out-Num v Number) (out-Num w Number)

number_next : (v w : Ratio) → with_factors_of (number v ∷ []) (number w) ≡ number (mul v w) ∷ []
number_next v w = single (number v ∷ []) w Number ∙ ap (λ o. join_first o (number v) [] (number w ∷ [])) (numbers_join v w)

-- ---- plain numbers alone

pub multiplied_numbers : (d : Calc) (ds : List Calc) → Every (IsNum Number) (d ∷ ds) → IsNum Number (multiplied (d ∷ ds))
multiplied_numbers d ds k =
    let (v, is) = row_one Number with_factors_of mul (λ w. single [] w Number) number_next d ds k in
    (v, ap product_as is)

-- ---- one number with a unit among them

module _ (u : units.Unit) (other : is_number u ≡ false) where
  abbrev measure : Ratio → Calc
  measure w = tree.Num w u

  -- the row has the number with the unit, alone or beside a plain one
  data IsMixed : List Calc → Type 0 where
    alone : (w : Ratio) → IsMixed (measure w ∷ [])
    before : (n w : Ratio) → IsMixed (number n ∷ measure w ∷ [])
    behind : (w n : Ratio) → IsMixed (measure w ∷ number n ∷ [])

  number_measure : (n w : Ratio) → join (number n) (measure w) ≡ None
  number_measure n w = ap₂ (joined_as is_number mul) (out-Num n Number) (out-Num w u) ∙ ap (λ b. if b && true then Some (tree.Num (mul n w) Number) else None) other

  measure_number : (w n : Ratio) → join (measure w) (number n) ≡ None
  measure_number w n = ap₂ (joined_as is_number mul) (out-Num w u) (out-Num n Number) ∙ go (same_unit u Number)
    where
      go : (b : Bool) → (if b && is_number u then Some (tree.Num (mul w n) u) else None) ≡ None
      go true = ap (λ c. if c then Some (tree.Num (mul w n) u) else None) other
      go false = refl

  -- a plain factor more
  mixed_next : (row : List Calc) (n : Ratio) → IsMixed row → IsMixed (with_factors_of row (number n))
  mixed_next row n h = subst IsMixed (sym (single row n Number)) (go row h)
    where
      go : (row : List Calc) → IsMixed row → IsMixed (with_child join row (number n))
      go _ (alone w) = subst IsMixed (sym (ap (λ o. join_first o (measure w) [] (number n ∷ [])) (measure_number w n))) (behind w n)
      go _ (before m w) = subst IsMixed (sym (ap (λ o. join_first o (number m) (measure w ∷ []) (with_child join (measure w ∷ []) (number n))) (numbers_join m n))) (before (mul m n) w)
      go _ (behind w m) =
          subst IsMixed
          (sym (ap₂ (λ o p. join_first o (measure w) (number m ∷ []) (join_first p (number m) [] (number n ∷ []))) (measure_number w n) (numbers_join m n)))
          (behind w (mul m n))

  mixed_rest : (row ds : List Calc) → IsMixed row → Every (IsNum Number) ds → IsMixed (fold with_factors_of row ds)
  mixed_rest row [] h k = h
  mixed_rest row (d ∷ ds) h k =
      mixed_rest (with_factors_of row d) ds (subst IsMixed (ap (with_factors_of row) (sym k.0.1)) (mixed_next row k.0.0 h)) k.1

  -- plain numbers so far, or none
  data IsNumbers : List Calc → Type 0 where
    nothing : IsNumbers []
    one : (n : Ratio) → IsNumbers (number n ∷ [])

  numbers_next : (row : List Calc) (n : Ratio) → IsNumbers row → IsNumbers (with_factors_of row (number n))
  numbers_next _ n nothing = subst IsNumbers (sym (single [] n Number)) (one n)
  numbers_next _ n (one m) = subst IsNumbers (sym (number_next m n)) (one (mul m n))

  measure_next : (row : List Calc) (w : Ratio) → IsNumbers row → IsMixed (with_factors_of row (measure w))
  measure_next _ w nothing = subst IsMixed (sym (single [] w u)) (alone w)
  measure_next _ w (one n) =
      subst IsMixed (sym (single (number n ∷ []) w u ∙ ap (λ o. join_first o (number n) [] (measure w ∷ [])) (number_measure n w))) (before n w)

  mixed_row : (row ds : List Calc) → IsNumbers row → AllButOne (IsNum Number) (IsNum u) ds → IsMixed (fold with_factors_of row ds)
  mixed_row row [] h k = absurd k
  mixed_row row (d ∷ ds) h (inl k) =
      mixed_row (with_factors_of row d) ds (subst IsNumbers (ap (with_factors_of row) (sym k.0.1)) (numbers_next row k.0.0 h)) k.1
  mixed_row row (d ∷ ds) h (inr k) =
      mixed_rest (with_factors_of row d) ds (subst IsMixed (ap (with_factors_of row) (sym k.0.1)) (measure_next row k.0.0 h)) k.1

  number_of_number : (n : Ratio) → number_of (number n) ≡ Some n
  number_of_number n = ap number_as (out-Num n Number)

  number_of_measure : (w : Ratio) → number_of (measure w) ≡ None
  number_of_measure w = ap number_as (out-Num w u) ∙ ap (λ b. if b then Some w else None) other

  scaled_measure : (n w : Ratio) → scaled n (measure w) ≡ Some (measure (mul n w))
  scaled_measure n w = ap (scaled_as n) (out-Num w u)

  mixed_product : (row : List Calc) → IsMixed row → IsNum u (product_as row)
  mixed_product _ (alone w) = (w, refl)
  mixed_product _ (before n w) = (
    mul n w,
    ap₂ (λ o p. or_else (scaled_pair o p (number n) (measure w)) (tree.Product (number n ∷ measure w ∷ []))) (number_of_number n) (number_of_measure w)
        ∙ ap (λ o. or_else o (tree.Product (number n ∷ measure w ∷ []))) (scaled_measure n w),
  )
  mixed_product _ (behind w n) = (
    mul n w,
    ap₂ (λ o p. or_else (scaled_pair o p (measure w) (number n)) (tree.Product (measure w ∷ number n ∷ []))) (number_of_measure w) (number_of_number n)
        ∙ ap (λ o. or_else o (tree.Product (measure w ∷ number n ∷ []))) (scaled_measure n w),
  )

  pub multiplied_mixed : (ds : List Calc) → AllButOne (IsNum Number) (IsNum u) ds → IsNum u (multiplied ds)
  multiplied_mixed ds k = mixed_product (product_row ds) (mixed_row [] ds nothing k)
