-- A list that holds a number out of range, or a divisor, is no number within range, whatever is wanted.
use Rattle.std.specs.Prelude.{ℕ, ℤ, encode_utf8_all, map, Bool, true, false, not, ◌||◌, ◌&&◌, List, [], ◌∷◌, Option, Some, None, Result, Ok, Err, if◌then◌else◌}
use Rattle.std.specs.List.{list_any}
use Rattle.std.proofs.Common.{◌≡◌, ◌+◌, refl, sym, ◌∙◌, ap, subst}
use Rattle.cv_spec_text.specs.declared.token.Token.{Token}
use Rattle.cv_spec_text.specs.declared.token.Token.TheVariants as token
use Rattle.cv_calc.specs.declared.unit.Unit as units
use Rattle.cv_calc.specs.declared.unit.Unit.TheVariants as unit
use Rattle.cv_calc.specs.declared.unit.NumType.{NumType}
use Rattle.cv_calc.specs.declared.context.Context.{Context}
use Rattle.cv_calc.specs.declared.calc.Calc.{Calc}
use Rattle.cv_calc.specs.declared.calc.Calc.TheVariants as tree
use Rattle.cv_calc.specs.Types.{type_of, unit_type}
use Rattle.cv_calc.specs.Linear.{is_linear}
use Rattle.cv_calc.specs.Names.{unit_with_name}
use Rattle.cv_calcread.specs.declared.error.CalcErr.{CalcErr}
use Rattle.cv_calcread.specs.declared.error.CalcErr.TheVariants as refusal
use Rattle.cv_calcread.specs.Literals.{exact_number, is_in_range}
use Rattle.cv_calcread.specs.Reading.{read}
use Rattle.cv_calcread.specs.Answer.{answer, is_wide, wide_place, after_tree, typed, after_type}
use Rattle.cv_numeric.specs.declared.matched.Matched.{Matched}
use Rattle.cv_numeric.specs.declared.matched.Matched.TheVariants.{No, Out, Fit}
use Rattle.cv_numeric.specs.declared.quantity.Quantity.{Quantity}
use Rattle.cv_numeric.specs.declared.quantity.Quantity.TheVariants as quantity
use Rattle.cv_numeric.specs.declared.quantity.Range.{Range}
use Rattle.cv_numeric.specs.declared.quantity.Range.TheVariants.{All}
use Rattle.cv_numeric.specs.Quantities.{takes}
use Rattle.cv_numeric.specs.Calculations.{simplified, is_within, literal, plain, plain_of, read_as, function, alone, calculation}
use Rattle.cv_numeric.specs.Numeric.{with_basis, value_of, number, percentage, measured, zero_length, length, length_percentage_in, is_whole, whole_number, integer}
use Rattle.cv_numeric.specs.Matched.{first_of}
use Rattle.cv_calc.specs.declared.context.Basis.TheVariants as basis
use Rattle.cv_spec_ratio.specs.Ratio.{Ratio, zero_ratio}
use Rattle.cv_exact.specs.Zero.{is_zero}
use Rattle.cv_frac.specs.Rounded.{half_up}
use Rattle.cv_spec_text.specs.Characters.{hyphen, begins_with}
use Rattle.cv_value.specs.declared.typed.Item.TheVariants as item_of
use Rattle.cv_value.specs.Items.{mixed_item}
use Rattle.cv_property.specs.declared.grammar.Alternative.{Alternative}
use Rattle.cv_property.specs.declared.grammar.Alternative.TheVariants as grammar
use Rattle.cv_property.specs.Keywords.{keyword_text}
use Rattle.cv_property.specs.Grammar.{alternative, keyword_of, counted_portion, at_least_one, from_one, positive_integer_of}
use Rattle.cv_reify.specs.Arguments.{is_out_of_range, is_wide_function, is_wide_argument}
use Rattle.cv_reify.specs.DeclaredStyle.{is_color}
use Rattle.cv_reify_laws.proofs.NoFit.{NoFit, mapped_is, or_else_is}

-- ---- math functions

wide_somewhere : (n : ℕ) (ts : List Token) → wide_place n ts ≡ None → list_any is_wide ts ≡ false
unfolding wide_place
wide_somewhere n [] h = refl
wide_somewhere n (t ∷ ts) h = go (λ none. wide_somewhere (n + 1) ts none) (is_wide t) refl
  where
    go : (wide_place (n + 1) ts ≡ None → list_any is_wide ts ≡ false) → (b : Bool) → is_wide t ≡ b → (is_wide t || list_any is_wide ts) ≡ false
    go rest true e = let no : Some n ≡ None = sym (ap (λ (c : Bool). if c then Some n else wide_place (n + 1) ts) e) ∙ h in cc
    go rest false e = ap (λ c. c || list_any is_wide ts) e ∙ rest (sym (ap (λ (c : Bool). if c then Some n else wide_place (n + 1) ts) e) ∙ h)

by_place : (ts : List Token) (c d : Calc) (t : NumType) (o : Option ℕ) → wide_place 0 ts ≡ o → after_type ts c t o ≡ Ok d → list_any is_wide ts ≡ false
by_place ts c d t None place h = wide_somewhere 0 ts place
by_place ts c d t (Some n) place h = cc

by_type : (ts : List Token) (c d : Calc) (o : Option NumType) → typed ts c o ≡ Ok d → list_any is_wide ts ≡ false
by_type ts c d None h = cc
by_type ts c d (Some t) h = by_place ts c d t (wide_place 0 ts) refl h

by_tree : (ts : List Token) (d : Calc) (o : Option Calc) → after_tree ts o ≡ Ok d → list_any is_wide ts ≡ false
by_tree ts d None h = cc
by_tree ts d (Some c) h = by_type ts c d (type_of c) h

-- the numbers of what is read are in range
none_wide : (ts : List Token) (d : Calc) → answer ts ≡ Ok d → list_any is_wide ts ≡ false
unfolding answer
none_wide ts d h = by_tree ts d (read exact_number ts) h

either_false : (a b : Bool) → a ≡ false → b ≡ false → (a || b) ≡ true → ⊥
either_false true b h k e = cc
either_false false true h k e = cc
either_false false false h k e = cc

pub chosen : {A : Type 0} (b : Bool) (m n : Matched A) → NoFit m → NoFit n → NoFit (if b then m else n)
chosen true m n h k = h
chosen false m n h k = k

function_is : (q : Quantity) (r : Range) (x : Context) (ts : List Token) → is_wide_argument ts ≡ true → NoFit (function q r x ts)
function_is q r x ts wide = go (answer ts) refl
  where
    go : (a : Result Calc CalcErr) → answer ts ≡ a → NoFit (read_as q r x a)
    go (Ok c) e = absurd (either_false (list_any is_wide ts) (is_wide_function ts) (none_wide ts c e) (ap is_out_of_range e) wide)
    go (Err refusal.NoCalc) e = tt
    go (Err refusal.NoType) e = tt
    go (Err (refusal.Range place t linear)) e = chosen {A = Calc} (takes q t && linear) Out No tt tt
    go (Err (refusal.DivZero n)) e = tt
    go (Err refusal.Memory) e = tt

-- ---- one token

-- what begins with no function is no math function
no_function : (t : Token) → read exact_number (t ∷ []) ≡ None → is_wide_function (t ∷ []) ≡ false
unfolding answer
no_function t e = ap (λ o. is_out_of_range (after_tree (t ∷ []) o)) e

not_in : (b c : Bool) → c ≡ false → ((not b || false) || c) ≡ true → b ≡ false
not_in true c h e = cc
not_in false c h e = refl

number_is : (n : List ℕ) → is_wide_argument (token.Number n ∷ []) ≡ true → is_in_range n ≡ false
number_is n wide = not_in (is_in_range n) (is_wide_function (token.Number n ∷ [])) (no_function (token.Number n) refl) wide

percentage_is : (n : List ℕ) → is_wide_argument (token.Percentage n ∷ []) ≡ true → is_in_range n ≡ false
percentage_is n wide = not_in (is_in_range n) (is_wide_function (token.Percentage n ∷ [])) (no_function (token.Percentage n) refl) wide

dimension_is : (n name : List ℕ) → is_wide_argument (token.Dimension n name ∷ []) ≡ true → is_in_range n ≡ false
dimension_is n name wide = not_in (is_in_range n) (is_wide_function (token.Dimension n name ∷ [])) (no_function (token.Dimension n name) refl) wide

plain_is : (q : Quantity) (r : Range) (x : Context) (n : List ℕ) (u : units.Unit) → is_in_range n ≡ false → NoFit (plain q r x n u)
plain_is q r x n u out = chosen (takes q (unit_type u) && is_within r n) (literal x n u) No (subst (λ b. NoFit (if b then simplified x (tree.Num (exact_number n) u) else Out)) (sym out) tt) tt

plain_of_is : (q : Quantity) (r : Range) (x : Context) (n : List ℕ) (u : Option units.Unit) → is_in_range n ≡ false → NoFit (plain_of q r x n u)
plain_of_is q r x n None out = tt
plain_of_is q r x n (Some u) out = plain_is q r x n u out

alone_is : (q : Quantity) (r : Range) (x : Context) (t : Token) → is_wide_argument (t ∷ []) ≡ true → NoFit (alone q r x t)
alone_is q r x (token.Number n) wide = plain_is q r x n unit.Number (number_is n wide)
alone_is q r x (token.Percentage n) wide = plain_is q r x n unit.Percent (percentage_is n wide)
alone_is q r x (token.Dimension n name) wide = plain_of_is q r x n (unit_with_name name) (dimension_is n name wide)
alone_is q r x t wide = function_is q r x (t ∷ []) wide

pub calculation_is : (q : Quantity) (r : Range) (x : Context) (ts : List Token) → is_wide_argument ts ≡ true → NoFit (calculation q r x ts)
unfolding calculation
calculation_is q r x [] wide = function_is q r x [] wide
calculation_is q r x (t ∷ []) wide = alone_is q r x t wide
calculation_is q r x (t ∷ second ∷ rest) wide = function_is q r x (t ∷ second ∷ rest) wide

-- ---- numbers, lengths and whole numbers

measured_is : (q : Quantity) (r : Range) (x : Context) (ts : List Token) → is_wide_argument ts ≡ true → NoFit (measured q r x ts)
measured_is q r x ts wide = mapped_is value_of (calculation q r (with_basis basis.Plain x) ts) (calculation_is q r (with_basis basis.Plain x) ts wide)

pub number_no_fit : (r : Range) (x : Context) (ts : List Token) → is_wide_argument ts ≡ true → NoFit (number r x ts)
number_no_fit r x ts wide = measured_is quantity.Number r x ts wide

pub percentage_no_fit : (x : Context) (ts : List Token) → is_wide_argument ts ≡ true → NoFit (percentage x ts)
percentage_no_fit x ts wide = measured_is quantity.Percentage All x ts wide

zero_is : (n : List ℕ) → is_in_range n ≡ false → NoFit (zero_length n)
zero_is n out = subst (λ b. NoFit (if b && is_zero (exact_number n) then Fit zero_ratio else No)) (sym out) tt

pub length_no_fit : (x : Context) (ts : List Token) → is_wide_argument ts ≡ true → NoFit (length x ts)
length_no_fit x (token.Number n ∷ []) wide = zero_is n (number_is n wide)
length_no_fit x ts wide = measured_is quantity.Length All x ts wide

pub size_no_fit : (r : Range) (x : Context) (ts : List Token) → is_wide_argument ts ≡ true → NoFit (length_percentage_in r x ts)
size_no_fit r x (token.Number n ∷ []) wide = mapped_is (λ v. tree.Num v unit.Px) (zero_length n) (zero_is n (number_is n wide))
size_no_fit r x ts wide = calculation_is quantity.LengthPercentage r x ts wide

whole_is : (n : List ℕ) → is_in_range n ≡ false → NoFit (whole_number n)
whole_is n out = chosen (is_whole n) (if is_in_range n then Fit (half_up (exact_number n)) else Out) No (subst (λ b. NoFit (if b then Fit (half_up (exact_number n)) else Out)) (sym out) tt) tt

pub integer_no_fit : (x : Context) (ts : List Token) → is_wide_argument ts ≡ true → NoFit (integer x ts)
integer_no_fit x (token.Number n ∷ []) wide = whole_is n (number_is n wide)
integer_no_fit x ts wide = mapped_is half_up (measured quantity.Number All x ts) (measured_is quantity.Number All x ts wide)

from_one_is : (n : List ℕ) (m : Matched ℤ) → NoFit m → NoFit (from_one n m)
from_one_is n No h = tt
from_one_is n Out h = chosen {A = ℤ} (begins_with hyphen (encode_utf8_all n)) No Out tt tt
from_one_is n (Fit z) h = absurd h

positive_no_fit : (x : Context) (ts : List Token) → is_wide_argument ts ≡ true → NoFit (positive_integer_of x ts)
positive_no_fit x (token.Number n ∷ []) wide = from_one_is n (whole_number n) (whole_is n (number_is n wide))
positive_no_fit x ts wide = mapped_is at_least_one (integer x ts) (integer_no_fit x ts wide)

portion_is : (m : Matched Ratio) → NoFit m → NoFit (counted_portion m)
portion_is No h = tt
portion_is Out h = tt
portion_is (Fit v) h = absurd h

-- ---- alternatives

-- an ident is no number out of range
not_ident : (name : List ℕ) → is_wide_argument (token.Ident name ∷ []) ≡ true → ⊥
not_ident name wide = either_false false (is_wide_function (token.Ident name ∷ [])) refl (no_function (token.Ident name) refl) wide

keyword_no_fit : (word : List ℕ) (ts : List Token) → is_wide_argument ts ≡ true → NoFit (keyword_of word ts)
keyword_no_fit word (token.Ident name ∷ []) wide = absurd (not_ident name wide)
keyword_no_fit word ts wide = tt

alternative_no_fit : (x : Context) (ts : List Token) (a : Alternative) → is_color a ≡ false → is_wide_argument ts ≡ true → NoFit (alternative x ts a)
alternative_no_fit x ts (grammar.Keyword k) h wide = keyword_no_fit (keyword_text k) ts wide
alternative_no_fit x ts (grammar.Number r) h wide = mapped_is item_of.Number (number r x ts) (number_no_fit r x ts wide)
alternative_no_fit x ts grammar.Portion h wide = portion_is (percentage x ts) (percentage_no_fit x ts wide)
alternative_no_fit x ts grammar.Integer h wide = mapped_is item_of.Integer (integer x ts) (integer_no_fit x ts wide)
alternative_no_fit x ts grammar.PositiveInteger h wide = mapped_is item_of.Integer (positive_integer_of x ts) (positive_no_fit x ts wide)
alternative_no_fit x ts grammar.Length h wide = mapped_is item_of.Length (length x ts) (length_no_fit x ts wide)
alternative_no_fit x ts (grammar.LengthPercentage r) h wide = mapped_is mixed_item (length_percentage_in r x ts) (size_no_fit r x ts wide)
alternative_no_fit x ts grammar.Color h wide = absurd cc

first_false : (a b : Bool) → (a || b) ≡ false → a ≡ false
first_false true b h = cc
first_false false b h = refl

second_false : (a b : Bool) → (a || b) ≡ false → b ≡ false
second_false true b h = cc
second_false false b h = h

pub grammar_no_fit : (x : Context) (ts : List Token) (alternatives : List Alternative) → list_any is_color alternatives ≡ false → is_wide_argument ts ≡ true → NoFit (first_of (map (alternative x ts) alternatives))
grammar_no_fit x ts [] h wide = tt
grammar_no_fit x ts (a ∷ rest) h wide =
    or_else_is (alternative x ts a) (first_of (map (alternative x ts) rest)) (alternative_no_fit x ts a (first_false (is_color a) (list_any is_color rest) h) wide) (grammar_no_fit x ts rest (second_false (is_color a) (list_any is_color rest) h) wide)
