-- The simplified form as it is made step by step: nothing where a fraction that is counted is out of bounds. `only_in_range` of the
-- proofs says that this is the simplified form exactly where the calculation is in range.
use Rattle.std.specs.Prelude.{Bool, true, false, ◌&&◌, List, [], ◌∷◌, ◌++◌, fold, Option, Some, None, option_map, if◌then◌else◌}
use Rattle.std.specs.Option.{option_and_then}
use Rattle.cv_spec_ratio.specs.Ratio.{Ratio, add, mul}
use Rattle.cv_spec_ratio.specs.Order.{lesser, greater}
use Rattle.cv_frac.specs.Bounded.{in_bounds}
use Rattle.cv_calc.specs.declared.unit.Unit.TheVariants.{Number, Percent, Px}
use Rattle.cv_calc.specs.declared.unit.Unit as units
use Rattle.cv_calc.specs.declared.context.Basis.{Basis}
use Rattle.cv_calc.specs.declared.context.Basis.TheVariants.{Of}
use Rattle.cv_calc.specs.declared.context.Context.{Context}
use Rattle.cv_calc.specs.declared.calc.Calc.{Calc}
use Rattle.cv_calc.specs.declared.calc.Calc.TheVariants as tree
use Rattle.cv_calc.specs.declared.calc.Calc.TheOpen.{Calc-F, Num, Sum, Product, Negate, Invert, Min, Max, Clamp}
use Rattle.cv_calc.specs.declared.calc.Calc.TheViews.{out-Calc}
use Rattle.cv_calc.specs.declared.calc.Calc.TheFolds.{fold-Calc}
use Rattle.cv_calc.specs.Factor.{canonical, factor, hundredth, sizes_of}
use Rattle.cv_calc.specs.Unit.{same_unit}
use Rattle.cv_simplify.specs.declared.joining.Joining.{Joining}
use Rattle.cv_simplify.specs.declared.joining.Joining.TheVariants as joining
use Rattle.cv_simplify.specs.declared.joining.Joined.{Joined}
use Rattle.cv_simplify.specs.declared.joining.Joined.TheVariants.{Apart, Outside, One}
use Rattle.cv_simplify.specs.declared.factors.Factors.{Factors}
use Rattle.cv_simplify.specs.declared.factors.Factors.TheVariants.{Plain, Numbered}
use Rattle.cv_simplify.specs.Simplified.{any_unit, compares_percent, may_compare, one_or, terms_of, factors_of, number_as, negated, inverted, clamped}

abbrev pub only_if : {A : Type 0} → Bool → A → Option A
only_if b a = if b then Some a else None

-- a fraction, where it is in bounds
abbrev pub within : Ratio → Option Ratio
within r = only_if (in_bounds r) r

-- ---- a number

abbrev pub length_within : Ratio → Option Calc
length_within v = option_map (λ r. tree.Num r Px) (within v)

abbrev pub percent_within : Basis → Ratio → Option Calc
percent_within (Of f) v = length_within (mul v (mul f hundredth))
percent_within _ v = Some (tree.Num v Percent)

abbrev pub number_within : Context → Ratio → units.Unit → Option Calc
number_within x v Percent = percent_within x.basis v
number_within x v u = option_map (λ r. tree.Num r (canonical u)) (within (mul v (factor (sizes_of x) u)))

abbrev pub literal_within : Context → Ratio → units.Unit → Option Calc
literal_within x v u = if in_bounds v then number_within x v u else None

-- ---- rows of children, in which numbers of one unit are joined

abbrev pub may_join : Joining → units.Unit → Bool
may_join joining.Sum u = any_unit u
may_join (joining.Least b) u = may_compare b u
may_join (joining.Greatest b) u = may_compare b u

-- what two numbers of one unit become
abbrev pub joined_number : Joining → Ratio → Ratio → Ratio
joined_number joining.Sum v w = add v w
joined_number (joining.Least b) v w = lesser v w
joined_number (joining.Greatest b) v w = greater v w

abbrev pub number_joined : Joining → Ratio → Ratio → Option Ratio
number_joined joining.Sum v w = within (add v w)
number_joined (joining.Least b) v w = Some (lesser v w)
number_joined (joining.Greatest b) v w = Some (greater v w)

abbrev pub one_number : units.Unit → Option Ratio → Joined
one_number u (Some r) = One (tree.Num r u)
one_number u None = Outside

-- the number that two calculations become, where they are joined
abbrev pub joined_as_within : Joining → Calc-F Calc → Calc-F Calc → Joined
joined_as_within how (Num v u) (Num w t) = if same_unit u t && may_join how u then one_number u (number_joined how v w) else Apart
joined_as_within how _ _ = Apart

abbrev pub joined_within : Joining → Calc → Calc → Joined
joined_within how c d = joined_as_within how (out-Calc c) (out-Calc d)

-- what becomes of them: nothing, or one calculation, which is nothing where it is out of bounds
abbrev pub outcome : Joined → Option (Option Calc)
outcome Apart = None
outcome Outside = Some None
outcome (One c) = Some (Some c)

abbrev pub term_first : Joined → Calc → List Calc → Option (List Calc) → Option (List Calc)
term_first (One e) c cs more = Some (e ∷ cs)
term_first Outside c cs more = None
term_first Apart c cs more = option_map (λ ds. c ∷ ds) more

-- a further child is joined to the first with which it can be, or goes to the end
unfoldable pub with_term : Joining → List Calc → Calc → Option (List Calc)
with_term how [] d = Some (d ∷ [])
with_term how (c ∷ cs) d = term_first (joined_within how c d) c cs (with_term how cs d)

abbrev pub with_further : Option (List Calc) → Calc → Option (List Calc)
with_further None t = None
with_further (Some row) t = with_term joining.Sum row t

abbrev pub with_terms : List Calc → List Calc → Option (List Calc)
with_terms row ts = fold with_further (Some row) ts

-- a further child, of which a sum takes the terms
abbrev pub with_simple : Joining → List Calc → Calc → Option (List Calc)
with_simple joining.Sum row c = with_terms row (terms_of c)
with_simple (joining.Least b) row c = with_term (joining.Least b) row c
with_simple (joining.Greatest b) row c = with_term (joining.Greatest b) row c

-- the next step, where there is all that it needs
abbrev pub further : {S A : Type 0} → (S → A → Option S) → Option S → Option A → Option S
further f (Some s) (Some a) = f s a
further f (Some s) None = None
further f None o = None

abbrev pub row_within : Joining → List (Option Calc) → Option (List Calc)
row_within how os = fold (further (with_simple how)) (Some []) os

-- ---- a product

abbrev pub number_factor : Factors → Ratio → Factors
number_factor (Plain others) v = Numbered others v []
number_factor (Numbered before n after) v = Numbered before (mul n v) after

abbrev pub other_factor : Factors → Calc → Factors
other_factor (Plain others) c = Plain (others ++ c ∷ [])
other_factor (Numbered before n after) c = Numbered before n (after ++ c ∷ [])

abbrev pub factor_as : Factors → Calc → Option Ratio → Factors
factor_as fs c (Some v) = number_factor fs v
factor_as fs c None = other_factor fs c

abbrev pub with_factor : Factors → Calc → Factors
with_factor fs c = factor_as fs c (number_as (out-Calc c))

-- a number times each term, where each is a number, and where each product is in bounds
abbrev pub term_scaled_as : Ratio → Calc-F Calc → Option Calc
term_scaled_as n (Num w u) = option_map (λ r. tree.Num r u) (within (mul n w))
term_scaled_as n _ = None

abbrev pub term_scaled : Ratio → Calc → Option Calc
term_scaled n c = term_scaled_as n (out-Calc c)

abbrev pub with_scaled : Ratio → Option (List Calc) → Calc → Option (List Calc)
with_scaled n o c = further (λ row e. Some (row ++ e ∷ [])) o (term_scaled n c)

abbrev pub is_num : Calc-F Calc → Bool
is_num (Num w u) = true
is_num _ = false

abbrev pub and_num : Bool → Calc → Bool
and_num b c = b && is_num (out-Calc c)

abbrev pub all_nums : List Calc → Bool
all_nums cs = fold and_num true cs

-- where a number is multiplied into the other factor, what this gives
abbrev pub scaled_as_within : Ratio → Calc-F Calc → Option (Option Calc)
scaled_as_within n (Num w u) = Some (option_map (λ r. tree.Num r u) (within (mul n w)))
scaled_as_within n (Sum cs) = if all_nums cs then Some (option_map tree.Sum (fold (with_scaled n) (Some []) cs)) else None
scaled_as_within n _ = None

abbrev pub scaled_within : Ratio → Calc → Option (Option Calc)
scaled_within n c = scaled_as_within n (out-Calc c)

-- a number times the other factor, where there is one alone
abbrev pub other_scaled : List Calc → Ratio → List Calc → Option (Option Calc)
other_scaled (d ∷ []) n [] = scaled_within n d
other_scaled [] n (d ∷ []) = scaled_within n d
other_scaled before n after = None

abbrev pub product_with : List Calc → Ratio → List Calc → Option (Option Calc) → Option Calc
product_with before n after (Some o) = o
product_with before n after None = option_map (λ v. one_or tree.Product (before ++ tree.Num v Number ∷ after)) (within n)

-- what the factors show
abbrev pub shown : Factors → Option Calc
shown (Plain others) = Some (one_or tree.Product others)
shown (Numbered before n after) = product_with before n after (other_scaled before n after)

abbrev pub is_shown : Option Calc → Bool
is_shown None = false
is_shown (Some c) = true

-- a further child, where what the factors then show is in bounds
abbrev pub with_child : Factors → Calc → Option Factors
with_child fs c = only_if (is_shown (shown (fold with_factor fs (factors_of c)))) (fold with_factor fs (factors_of c))

abbrev pub factors_within : List (Option Calc) → Option Factors
factors_within os = fold (further with_child) (Some (Plain [])) os

-- ---- a number within limits

abbrev pub clamped_within : Bool → Option Calc → Option Calc → Option Calc → Option Calc
clamped_within b (Some l) (Some m) (Some h) = Some (clamped b l m h)
clamped_within b (Some l) (Some m) None = None
clamped_within b (Some l) None o = None
clamped_within b None o p = None

-- ---- the whole

abbrev pub checked_step : Context → Calc-F (Option Calc) → Option Calc
checked_step x (Num v u) = literal_within x v u
checked_step x (Sum os) = option_map (one_or tree.Sum) (row_within joining.Sum os)
checked_step x (Product os) = option_and_then shown (factors_within os)
checked_step x (Negate o) = option_map negated o
checked_step x (Invert o) = option_map inverted o
checked_step x (Min os) = option_map (one_or tree.Min) (row_within (joining.Least (compares_percent x.basis)) os)
checked_step x (Max os) = option_map (one_or tree.Max) (row_within (joining.Greatest (compares_percent x.basis)) os)
checked_step x (Clamp l m h) = clamped_within (compares_percent x.basis) l m h

unfoldable pub checked : Context → Calc → Option Calc
checked x = fold-Calc (Option Calc) (checked_step x)
