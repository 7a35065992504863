-- A product of numbers and one simplified calculation has the form of a product, or is that calculation with a number multiplied into it.
use Rattle.std.specs.Prelude.{Bool, true, false, ◌&&◌, not, List, [], ◌∷◌, map, fold, Option, Some, None, option_map, if◌then◌else◌}
use Rattle.std.proofs.Common.{◌≡◌, refl, sym, ◌∙◌, ap, ap₂, subst, inl, inr}
use Rattle.cv_spec_ratio.specs.Ratio.{Ratio, mul}
use Rattle.cv_calc.specs.declared.unit.Unit as units
use Rattle.cv_calc.specs.declared.unit.Unit.TheVariants.{Number, Px, Percent}
use Rattle.cv_calc.specs.declared.calc.Calc.{Calc}
use Rattle.cv_calc.specs.declared.calc.Calc.TheVariants as tree
use Rattle.cv_calc.specs.declared.calc.Calc.TheOpen.{Calc-F, Num, Sum, Product, Negate, Invert, Min, Max, Clamp}
use Rattle.cv_calc.specs.declared.calc.Calc.TheViews.{out-Calc}
use Rattle.cv_calc.specs.Tree.{out-Num, out-Sum, out-Product}
use Rattle.cv_calc.specs.Unit.{same_unit}
use Rattle.cv_simplify.specs.Simplified.{joined_as, joined_by, join_first, with_child, factors_as, is_number, with_factors_of, product_row, number_as, number_of, scaled_as, scaled, scaled_pair, or_else, product_as, multiplied}
use Rattle.cv_calc_laws.proofs.Lists.{Every, AllButOne}
use Rattle.cv_calc_laws.proofs.Rows.{IsNum}
use Rattle.cv_calc_roundtrip.proofs.Forms.{IsForm, measure, sum, product, turned, least, greatest, limited, AreTerms}
use Rattle.cv_calc_roundtrip.proofs.Heads.{Head, number, head, head_as, head-Num, head-Sum, head-Product, head-Min, head-Max, head-Clamp, is_negate, is_sum, is_num, nums_alone, joinable, joined_none}
use Rattle.cv_calc_roundtrip.proofs.Heads as heads
use Rattle.cv_calc_roundtrip.proofs.Negatives.{Measure, px, percent}
use Rattle.cv_calc_roundtrip.proofs.Products.{times_head, scaled_none}
use Rattle.cv_calc_roundtrip.proofs.RowOrders.{IsRow}
use Rattle.cv_calc_roundtrip.proofs.ScaledSums.{times_calc, terms_scaled, scaled_row, scaled_are}

abbrev plain : Ratio → Calc
plain v = tree.Num v Number

abbrev join : Calc → Calc → Option Calc
join = joined_by is_number mul

-- ---- a factor that is no plain number and no product

abbrev other_head : Head → Bool
other_head (number v u) = not (is_number u)
other_head (heads.sum b) = true
other_head heads.product = false
other_head heads.negate = false
other_head heads.invert = false
other_head heads.least = true
other_head heads.greatest = true
other_head heads.clamp = true

record Other (z : Calc) : Type 0 where
  form : IsForm z
  kind : other_head (head z) ≡ true

number_apart : (m : Ratio) (h : Head) → other_head h ≡ true → joinable is_number (number m Number) h ≡ false
number_apart m (number v u) e = go (is_number u) e
  where
    go : (b : Bool) → not b ≡ true → (b && true) ≡ false
    go true e = cc
    go false e = refl
number_apart m (heads.sum b) e = refl
number_apart m heads.product e = refl
number_apart m heads.negate e = refl
number_apart m heads.invert e = refl
number_apart m heads.least e = refl
number_apart m heads.greatest e = refl
number_apart m heads.clamp e = refl

apart_number : (m : Ratio) (h : Head) → other_head h ≡ true → joinable is_number h (number m Number) ≡ false
apart_number m (number v u) e = go (same_unit u Number) (is_number u) e
  where
    go : (a b : Bool) → not b ≡ true → (a && b) ≡ false
    go a true e = cc
    go true false e = refl
    go false false e = refl
apart_number m (heads.sum b) e = refl
apart_number m heads.product e = refl
apart_number m heads.negate e = refl
apart_number m heads.invert e = refl
apart_number m heads.least e = refl
apart_number m heads.greatest e = refl
apart_number m heads.clamp e = refl

number_other : (m : Ratio) (z : Calc) → Other z → join (plain m) z ≡ None
number_other m z o = joined_none is_number mul (plain m) z (ap (λ h. joinable is_number h (head z)) (head-Num m Number) ∙ number_apart m (head z) o.kind)

other_number : (z : Calc) (m : Ratio) → Other z → join z (plain m) ≡ None
other_number z m o = joined_none is_number mul z (plain m) (ap (joinable is_number (head z)) (head-Num m Number) ∙ apart_number m (head z) o.kind)

numbers_join : (v w : Ratio) → join (plain v) (plain w) ≡ Some (plain (mul v w))
numbers_join v w = ap₂ (joined_as is_number mul) (out-Num v Number) (out-Num w Number)

-- ---- rows

-- plain numbers alone
data Plains : List Calc → Type 0 where
  nothing : Plains []
  one : (n : Ratio) → Plains (plain n ∷ [])

-- and with another factor
data Mixed : List Calc → Type 0 where
  alone : (z : Calc) → Other z → Mixed (z ∷ [])
  before : (n : Ratio) (z : Calc) → Other z → Mixed (plain n ∷ z ∷ [])
  behind : (z : Calc) (n : Ratio) → Other z → Mixed (z ∷ plain n ∷ [])

single : (row : List Calc) (w : Ratio) → with_factors_of row (plain w) ≡ with_child join row (plain w)
single row w = ap (λ l. fold (with_child join) row (factors_as (plain w) l)) (out-Num w Number)

plains_child : (row : List Calc) (n : Ratio) → Plains row → Plains (with_child join row (plain n))
plains_child _ n nothing = one n
plains_child _ n (one m) = subst Plains (sym (ap (λ o. join_first o (plain m) [] (plain n ∷ [])) (numbers_join m n))) (one (mul m n))

mixed_child : (row : List Calc) (n : Ratio) → Mixed row → Mixed (with_child join row (plain n))
mixed_child _ n (alone z o) = subst Mixed (sym (ap (λ p. join_first p z [] (plain n ∷ [])) (other_number z n o))) (behind z n o)
mixed_child _ n (before m z o) = subst Mixed (sym (ap (λ p. join_first p (plain m) (z ∷ []) (with_child join (z ∷ []) (plain n))) (numbers_join m n))) (before (mul m n) z o)
mixed_child _ n (behind z m o) =
    subst Mixed (sym (ap₂ (λ p q. join_first p z (plain m ∷ []) (join_first q (plain m) [] (plain n ∷ []))) (other_number z n o) (numbers_join m n))) (behind z (mul m n) o)

other_child : (row : List Calc) (z : Calc) → Plains row → Other z → Mixed (with_child join row z)
other_child _ z nothing o = alone z o
other_child _ z (one n) o = subst Mixed (sym (ap (λ p. join_first p (plain n) [] (z ∷ [])) (number_other n z o))) (before n z o)

mixed_rest : (row ds : List Calc) → Mixed row → Every (IsNum Number) ds → Mixed (fold with_factors_of row ds)
mixed_rest row [] h k = h
mixed_rest row (d ∷ ds) h k =
    mixed_rest (with_factors_of row d) ds (subst Mixed (sym (single row k.0.0) ∙ ap (with_factors_of row) (sym k.0.1)) (mixed_child row k.0.0 h)) k.1

-- ---- the factors of a form

times_other : {z : Calc} → IsForm z → times_head (head z) ≡ true → Other z
times_other {z} f h = record { form = f; kind = go (head z) h }
  where
    go : (k : Head) → times_head k ≡ true → other_head k ≡ true
    go (number v u) e = cc
    go (heads.sum b) e = refl
    go heads.product e = cc
    go heads.negate e = cc
    go heads.invert e = cc
    go heads.least e = refl
    go heads.greatest e = refl
    go heads.clamp e = refl

measure_other : {u : units.Unit} (v : Ratio) → Measure u → Other (tree.Num v u)
measure_other v px = record { form = measure v px; kind = ap other_head (head-Num v Px) }
measure_other v percent = record { form = measure v percent; kind = ap other_head (head-Num v Percent) }

factors_alone_as : (c : Calc) (l : Calc-F Calc) → other_head (head_as l) ≡ true → factors_as c l ≡ c ∷ []
factors_alone_as c (Num v u) h = refl
factors_alone_as c (Sum cs) h = refl
factors_alone_as c (Product cs) h = cc
factors_alone_as c (Negate d) h = refl
factors_alone_as c (Invert d) h = refl
factors_alone_as c (Min cs) h = refl
factors_alone_as c (Max cs) h = refl
factors_alone_as c (Clamp a b d) h = refl

other_row : (row : List Calc) (z : Calc) → Plains row → Other z → Mixed (with_factors_of row z)
other_row row z p o = subst Mixed (sym (ap (fold (with_child join) row) (factors_alone_as z (out-Calc z) o.kind))) (other_child row z p o)

form_row : {z : Calc} → IsForm z → (row : List Calc) → Plains row → Mixed (with_factors_of row z)
form_row (measure {u} v m) row p = other_row row (tree.Num v u) p (measure_other v m)
form_row (sum {cs} t r) row p = other_row row (tree.Sum cs) p (record { form = sum t r; kind = ap other_head (head-Sum cs) })
form_row (product n {x} t f) row p =
    subst Mixed (sym (ap (λ l. fold (with_child join) row (factors_as (tree.Product (plain n ∷ x ∷ [])) l)) (out-Product (plain n ∷ x ∷ []))))
    (other_child (with_child join row (plain n)) x (plains_child row n p) (times_other f t))
form_row (turned n {x} t f) row p =
    subst Mixed (sym (ap (λ l. fold (with_child join) row (factors_as (tree.Product (x ∷ plain n ∷ [])) l)) (out-Product (x ∷ plain n ∷ []))))
    (mixed_child (with_child join row x) n (other_child row x p (times_other f t)))
form_row (least {c} {d} {cs} f a) row p = other_row row (tree.Min (c ∷ d ∷ cs)) p (record { form = least f a; kind = ap other_head (head-Min (c ∷ d ∷ cs)) })
form_row (greatest {c} {d} {cs} f a) row p = other_row row (tree.Max (c ∷ d ∷ cs)) p (record { form = greatest f a; kind = ap other_head (head-Max (c ∷ d ∷ cs)) })
form_row (limited {a} {b} {c} f g i j) row p = other_row row (tree.Clamp a b c) p (record { form = limited f g i j; kind = ap other_head (head-Clamp a b c) })

mixed_row : (row ds : List Calc) → Plains row → AllButOne (IsNum Number) IsForm ds → Mixed (fold with_factors_of row ds)
mixed_row row [] p k = absurd k
mixed_row row (d ∷ ds) p (inl k) =
    mixed_row (with_factors_of row d) ds (subst Plains (sym (single row k.0.0) ∙ ap (with_factors_of row) (sym k.0.1)) (plains_child row k.0.0 p)) k.1
mixed_row row (d ∷ ds) p (inr k) = mixed_rest (with_factors_of row d) ds (form_row k.0 row p) k.1

-- ---- the product

-- a number times a calculation is a form, or isn't multiplied
data Scaled (n : Ratio) (z : Calc) : Type 0 where
  made : (e : Calc) → scaled n z ≡ Some e → IsForm e → Scaled n z
  left : scaled n z ≡ None → times_head (head z) ≡ true → Scaled n z

left_as : (n : Ratio) (z : Calc) → times_head (head z) ≡ true → Scaled n z
left_as n z h = left (scaled_none n (out-Calc z) h) h

not_other : {A : Type 0} (z : Calc) → head z ≡ heads.product → other_head (head z) ≡ true → A
not_other z e h = absurd (apart (sym (ap other_head e) ∙ h))
  where
    apart : ◌≡◌ {A = Bool} false true → ⊥
    apart e = cc

sum_scaled : (n : Ratio) (cs : List Calc) → AreTerms cs → IsRow (map head cs) → (b : Bool) → nums_alone cs ≡ b → Scaled n (tree.Sum cs)
sum_scaled n cs t r true e =
    made (tree.Sum (map (times_calc n) cs)) (ap (scaled_as n) (out-Sum cs) ∙ ap (option_map tree.Sum) (terms_scaled n cs e)) (sum (scaled_are n cs t) (scaled_row n cs r))
sum_scaled n cs t r false e = left_as n (tree.Sum cs) (ap times_head (head-Sum cs) ∙ ap not e)

scaled_form : (n : Ratio) {z : Calc} → IsForm z → other_head (head z) ≡ true → Scaled n z
scaled_form n (measure {u} v m) h = made (tree.Num (mul n v) u) (ap (scaled_as n) (out-Num v u)) (measure (mul n v) m)
scaled_form n (sum {cs} t r) h = sum_scaled n cs t r (nums_alone cs) refl
scaled_form n (product k {x} t f) h = not_other (tree.Product (plain k ∷ x ∷ [])) (head-Product (plain k ∷ x ∷ [])) h
scaled_form n (turned k {x} t f) h = not_other (tree.Product (x ∷ plain k ∷ [])) (head-Product (x ∷ plain k ∷ [])) h
scaled_form n (least {c} {d} {cs} f a) h = left_as n (tree.Min (c ∷ d ∷ cs)) (ap times_head (head-Min (c ∷ d ∷ cs)))
scaled_form n (greatest {c} {d} {cs} f a) h = left_as n (tree.Max (c ∷ d ∷ cs)) (ap times_head (head-Max (c ∷ d ∷ cs)))
scaled_form n (limited {a} {b} {c} f g i j) h = left_as n (tree.Clamp a b c) (ap times_head (head-Clamp a b c))

number_of_plain : (n : Ratio) → number_of (plain n) ≡ Some n
number_of_plain n = ap number_as (out-Num n Number)

number_of_other : (l : Calc-F Calc) → other_head (head_as l) ≡ true → number_as l ≡ None
number_of_other (Num v u) h = go (is_number u) h
  where
    go : (b : Bool) → not b ≡ true → (if b then Some v else None) ≡ None
    go true h = cc
    go false h = refl
number_of_other (Sum cs) h = refl
number_of_other (Product cs) h = refl
number_of_other (Negate d) h = refl
number_of_other (Invert d) h = refl
number_of_other (Min cs) h = refl
number_of_other (Max cs) h = refl
number_of_other (Clamp a b d) h = refl

before_form : (n : Ratio) (z : Calc) → Other z → Scaled n z → IsForm (or_else (scaled n z) (tree.Product (plain n ∷ z ∷ [])))
before_form n z o (made e is f) = subst (λ (p : Option Calc). IsForm (or_else p (tree.Product (plain n ∷ z ∷ [])))) (sym is) f
before_form n z o (left is h) = subst (λ (p : Option Calc). IsForm (or_else p (tree.Product (plain n ∷ z ∷ [])))) (sym is) (product n h o.form)

behind_form : (n : Ratio) (z : Calc) → Other z → Scaled n z → IsForm (or_else (scaled n z) (tree.Product (z ∷ plain n ∷ [])))
behind_form n z o (made e is f) = subst (λ (p : Option Calc). IsForm (or_else p (tree.Product (z ∷ plain n ∷ [])))) (sym is) f
behind_form n z o (left is h) = subst (λ (p : Option Calc). IsForm (or_else p (tree.Product (z ∷ plain n ∷ [])))) (sym is) (turned n h o.form)

mixed_form : (row : List Calc) → Mixed row → IsForm (product_as row)
mixed_form _ (alone z o) = o.form
mixed_form _ (before n z o) =
    subst (λ (p : Option Ratio). IsForm (or_else (scaled_pair p (number_of z) (plain n) z) (tree.Product (plain n ∷ z ∷ [])))) (sym (number_of_plain n)) (before_form n z o (scaled_form n o.form o.kind))
mixed_form _ (behind z n o) =
    subst (λ (p : Option Ratio). IsForm (or_else (scaled_pair p (number_of (plain n)) z (plain n)) (tree.Product (z ∷ plain n ∷ [])))) (sym (number_of_other (out-Calc z) o.kind))
    (subst (λ (p : Option Ratio). IsForm (or_else (scaled_pair None p z (plain n)) (tree.Product (z ∷ plain n ∷ [])))) (sym (number_of_plain n)) (behind_form n z o (scaled_form n o.form o.kind)))

pub multiplied_form : (ds : List Calc) → AllButOne (IsNum Number) IsForm ds → IsForm (multiplied ds)
multiplied_form ds k = mixed_form (product_row ds) (mixed_row [] ds nothing k)
