-- The simplified form of a calculation in a context, by recursion on the tree, in fractions of any size (CSS Values and Units 4,
-- "Simplification"). A percentage is compared only where it stands for itself, and a factor is multiplied into a sum of numbers alone.
-- That the terms which are left keep their order, each number at the place of the first of its unit, is this project's own.
use Rattle.std.specs.Prelude.{Bool, true, false, ◌&&◌, not, List, [], ◌∷◌, fold, Option, Some, None, option_map, if◌then◌else◌}
use Rattle.cv_spec_ratio.specs.Ratio.{Ratio, add, mul, neg, reciprocal}
use Rattle.cv_calc.specs.declared.unit.Unit.TheVariants.{Number, Percent, Px}
use Rattle.cv_calc.specs.declared.unit.Unit as units
use Rattle.cv_calc.specs.declared.context.Basis.{Basis}
use Rattle.cv_calc.specs.declared.context.Basis.TheVariants.{Plain, Of}
use Rattle.cv_calc.specs.declared.context.Context.{Context}
use Rattle.cv_calc.specs.declared.calc.Calc.{Calc}
use Rattle.cv_calc.specs.declared.calc.Calc.TheVariants as tree
use Rattle.cv_calc.specs.declared.calc.Calc.TheOpen.{Calc-F, Num, Sum, Product, Negate, Invert, Min, Max, Clamp}
use Rattle.cv_calc.specs.declared.calc.Calc.TheViews.{out-Calc}
use Rattle.cv_calc.specs.declared.calc.Calc.TheFolds.{fold-Calc}
use Rattle.cv_calc.specs.Factor.{canonical, factor, hundredth, sizes_of}
use Rattle.cv_calc.specs.Unit.{same_unit}
use Rattle.cv_spec_ratio.specs.Order.{lesser, greater}

-- ---- a number

abbrev pub percent_in : Basis → Ratio → Calc
percent_in (Of f) v = tree.Num (mul v (mul f hundredth)) Px
percent_in _ v = tree.Num v Percent

abbrev pub number_in : Context → Ratio → units.Unit → Calc
number_in x v Percent = percent_in x.basis v
number_in x v u = tree.Num (mul v (factor (sizes_of x) u)) (canonical u)

-- ---- a sign, and an inverse

abbrev pub negated_as : Calc → Calc-F Calc → Calc
negated_as c (Num v u) = tree.Num (neg v) u
negated_as c (Negate d) = d
negated_as c _ = tree.Negate c

abbrev pub negated : Calc → Calc
negated c = negated_as c (out-Calc c)

abbrev pub inverse_or : Calc → Option Ratio → Calc
inverse_or c (Some r) = tree.Num r Number
inverse_or c None = tree.Invert c

abbrev pub inverted_as : Calc → Calc-F Calc → Calc
inverted_as c (Num v Number) = inverse_or c (reciprocal v)
inverted_as c (Invert d) = d
inverted_as c _ = tree.Invert c

abbrev pub inverted : Calc → Calc
inverted c = inverted_as c (out-Calc c)

-- ---- rows of children, in which numbers of one unit are joined

-- two numbers of one unit, joined where numbers of that unit may be
abbrev pub joined_as : (units.Unit → Bool) → (Ratio → Ratio → Ratio) → Calc-F Calc → Calc-F Calc → Option Calc
joined_as may f (Num v u) (Num w t) = if same_unit u t && may u then Some (tree.Num (f v w) u) else None
joined_as may f _ _ = None

abbrev pub joined_by : (units.Unit → Bool) → (Ratio → Ratio → Ratio) → Calc → Calc → Option Calc
joined_by may f c d = joined_as may f (out-Calc c) (out-Calc d)

-- the first child, joined or as it was, and the others, the further one among them or not
abbrev pub join_first : Option Calc → Calc → List Calc → List Calc → List Calc
join_first (Some e) c cs more = e ∷ cs
join_first None c cs more = c ∷ more

-- a further child is joined to the first with which it can be, or goes to the end
abbrev pub with_child : (Calc → Calc → Option Calc) → List Calc → Calc → List Calc
with_child join [] d = d ∷ []
with_child join (c ∷ cs) d = join_first (join c d) c cs (with_child join cs d)

abbrev pub one_or : (List Calc → Calc) → List Calc → Calc
one_or f (c ∷ []) = c
one_or f cs = f cs

abbrev pub any_unit : units.Unit → Bool
any_unit u = true

-- ---- a sum

-- the terms that a child gives
abbrev pub terms_as : Calc → Calc-F Calc → List Calc
terms_as c (Sum ds) = ds
terms_as c _ = c ∷ []

abbrev pub terms_of : Calc → List Calc
terms_of c = terms_as c (out-Calc c)

abbrev pub with_terms_of : List Calc → Calc → List Calc
with_terms_of row c = fold (with_child (joined_by any_unit add)) row (terms_of c)

abbrev pub sum_row : List Calc → List Calc
sum_row = fold with_terms_of []

abbrev pub summed : List Calc → Calc
summed cs = one_or tree.Sum (sum_row cs)

-- ---- a product

-- the factors that a child gives
abbrev pub factors_as : Calc → Calc-F Calc → List Calc
factors_as c (Product ds) = ds
factors_as c _ = c ∷ []

abbrev pub factors_of : Calc → List Calc
factors_of c = factors_as c (out-Calc c)

abbrev pub is_number : units.Unit → Bool
is_number = same_unit Number

abbrev pub with_factors_of : List Calc → Calc → List Calc
with_factors_of row c = fold (with_child (joined_by is_number mul)) row (factors_of c)

abbrev pub product_row : List Calc → List Calc
product_row = fold with_factors_of []

-- the terms times a number, where each is a number
abbrev pub scaled_term : Ratio → Calc-F Calc → Option Calc
scaled_term v (Num w u) = Some (tree.Num (mul v w) u)
scaled_term v _ = None

abbrev pub both_terms : Option Calc → Option (List Calc) → Option (List Calc)
both_terms (Some c) (Some cs) = Some (c ∷ cs)
both_terms _ _ = None

abbrev pub scaled_terms : Ratio → List Calc → Option (List Calc)
scaled_terms v [] = Some []
scaled_terms v (c ∷ cs) = both_terms (scaled_term v (out-Calc c)) (scaled_terms v cs)

-- a number times a number with a unit or a sum of numbers
abbrev pub scaled_as : Ratio → Calc-F Calc → Option Calc
scaled_as v (Num w u) = Some (tree.Num (mul v w) u)
scaled_as v (Sum cs) = option_map tree.Sum (scaled_terms v cs)
scaled_as v _ = None

abbrev pub scaled : Ratio → Calc → Option Calc
scaled v c = scaled_as v (out-Calc c)

-- the number that a calculation is, where it is one without a unit
abbrev pub number_as : Calc-F Calc → Option Ratio
number_as (Num v u) = if is_number u then Some v else None
number_as _ = None

abbrev pub number_of : Calc → Option Ratio
number_of c = number_as (out-Calc c)

-- the other factor, where one of two is a number
abbrev pub scaled_pair : Option Ratio → Option Ratio → Calc → Calc → Option Calc
scaled_pair (Some v) o c d = scaled v d
scaled_pair None (Some v) c d = scaled v c
scaled_pair None None c d = None

abbrev pub or_else : Option Calc → Calc → Calc
or_else (Some c) d = c
or_else None d = d

abbrev pub product_as : List Calc → Calc
product_as (c ∷ []) = c
product_as (c ∷ d ∷ []) = or_else (scaled_pair (number_of c) (number_of d) c d) (tree.Product (c ∷ d ∷ []))
product_as cs = tree.Product cs

abbrev pub multiplied : List Calc → Calc
multiplied cs = product_as (product_row cs)

-- ---- the least, the greatest, and a number within limits

-- percentages are compared only where they stand for themselves
abbrev pub compares_percent : Basis → Bool
compares_percent Plain = true
compares_percent _ = false

abbrev pub may_compare : Bool → units.Unit → Bool
may_compare percents u = if percents then true else not (same_unit u Percent)

abbrev pub choice_row : Bool → (Ratio → Ratio → Ratio) → List Calc → List Calc
choice_row percents f = fold (with_child (joined_by (may_compare percents) f)) []

abbrev pub number_clamped_as : Bool → Calc-F Calc → Calc-F Calc → Calc-F Calc → Option (Ratio × units.Unit)
number_clamped_as b (Num v u) (Num w t) (Num z s) =
    if same_unit u t && same_unit u s && may_compare b u then Some (greater v (lesser w z), u) else None
number_clamped_as b _ _ _ = None

-- the number that three numbers of one unit give
abbrev pub number_clamped : Bool → Calc → Calc → Calc → Option (Ratio × units.Unit)
number_clamped b l m h = number_clamped_as b (out-Calc l) (out-Calc m) (out-Calc h)

abbrev pub clamped_as : Option (Ratio × units.Unit) → Calc → Calc → Calc → Calc
clamped_as (Some r) l m h = tree.Num r.0 r.1
clamped_as None l m h = tree.Clamp l m h

abbrev pub clamped : Bool → Calc → Calc → Calc → Calc
clamped b l m h = clamped_as (number_clamped b l m h) l m h

-- ---- the whole

abbrev pub simp_step : Context → Calc-F Calc → Calc
simp_step x (Num v u) = number_in x v u
simp_step x (Sum cs) = summed cs
simp_step x (Product cs) = multiplied cs
simp_step x (Negate c) = negated c
simp_step x (Invert c) = inverted c
simp_step x (Min cs) = one_or tree.Min (choice_row (compares_percent x.basis) lesser cs)
simp_step x (Max cs) = one_or tree.Max (choice_row (compares_percent x.basis) greater cs)
simp_step x (Clamp l m h) = clamped (compares_percent x.basis) l m h

unfoldable pub simp : Context → Calc → Calc
simp x = fold-Calc Calc (simp_step x)
