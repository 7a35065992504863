-- Each token of the text of a calculation is one of a text.
use Rattle.std.specs.Prelude.{ℕ, zero, suc, Bool, true, false, ◌==◌, ◌-◌, ◌*◌, ◌/◌, ◌%◌, ◌^◌, if◌then◌else◌, List, [], ◌∷◌, ◌++◌, map, fold, length, replicate, ℤ, pos, negsuc, int_lt, unsigned_abs, decimal, codes, Option, Some, None, All}
use Rattle.std.specs.Fmt.{signed_decimal}
use Rattle.std.specs.List.{AllByRecursion}
use Rattle.std.proofs.Common.{◌≡◌, refl, sym, ◌∙◌, ap, subst, arith, length-append, append_assoc}
use Rattle.std.proofs.lemmas.List.Elements.{All-from_recursion}
use Rattle.cv_spec_ratio.specs.Ratio.{Ratio, neg}
use Rattle.cv_spec_text.specs.declared.token.Token.{Token}
use Rattle.cv_spec_text.specs.declared.token.Token.TheVariants as tokens
use Rattle.cv_spec_text.specs.declared.token.Bracket.TheVariants.{Round}
use Rattle.cv_spec_text.specs.Splits.{IsSpelt}
use Rattle.cv_spec_text.specs.Characters.{full_stop}
use Rattle.cv_spec_text.specs.Tokens.{single}
use Rattle.cv_frac.specs.Places.{decimal_places}
use Rattle.cv_frac.specs.Text.{padded, decimal_text, text_with, frac_text}
use Rattle.cv_calc.specs.declared.unit.Unit as units
use Rattle.cv_calc.specs.declared.unit.Unit.TheVariants.{Number, Percent}
use Rattle.cv_calc.specs.declared.calc.Calc.{Calc}
use Rattle.cv_calc.specs.declared.calc.Calc.TheVariants as tree
use Rattle.cv_calc.specs.declared.calc.Calc.TheOpen.{Calc-F, Num, Sum, Product, Negate, Invert, Min, Max, Clamp}
use Rattle.cv_calc.specs.declared.calc.Calc.TheViews.{out-Calc}
use Rattle.cv_calc.specs.Names.{unit_text}
use Rattle.cv_calc.specs.Tree.{Each, by_cases, fold-Num, fold-Sum, fold-Product, fold-Negate, fold-Invert, fold-Min, fold-Max, fold-Clamp}
use Rattle.cv_tokser.proofs.WellFormed.{is_nameable, AreAll, IsName, IsSpelling, IsDelimiter}
use Rattle.cv_simplify.specs.declared.place.Place.{Place}
use Rattle.cv_simplify.specs.declared.place.Place.TheVariants.{Operand, Whole, Added, Multiplied, Argument}
use Rattle.cv_simplify.specs.Text.{closing, operator, call, numeric, has_decimal_as, has_decimal, decimal_tokens, quotient_tokens, bracketed, number_tokens, number_alone, prefix, has_brackets, placed, number_added, number_placed, negative_placed, inverse_placed, Written, Line, no_line, with_child, with_rank, with_ranked, ranked, line_of, arguments_of, written, written_step, calc_text_as, calc_text, ranks}
use Rattle.cv_simplify.proofs.Spelt.{token_spelt, decimal_digits, decimal_some, zeros_digits, digits_append, of_digits, of_point, IsMantissa, positive, negative}

-- ---- lists

abbrev AreSpelt : List Token → Type 0
AreSpelt ts = AllByRecursion IsSpelt ts

joined_spelt : (ts more : List Token) → AreSpelt ts → AreSpelt more → AreSpelt (ts ++ more)
joined_spelt [] more h k = k
joined_spelt (t ∷ ts) more h k = (h.0, joined_spelt ts more h.1 k)

-- ---- names

abbrev all_nameable : List ℕ → Bool
all_nameable [] = true
all_nameable (c ∷ cs) = if is_nameable c then all_nameable cs else false

each_nameable : (cs : List ℕ) → all_nameable cs ≡ true → AreAll is_nameable cs
each_nameable [] e = tt
each_nameable (c ∷ cs) e = go (is_nameable c) refl e (λ e. each_nameable cs e)
  where
    go : (b : Bool) → is_nameable c ≡ b → (if b then all_nameable cs else false) ≡ true → (all_nameable cs ≡ true → AreAll is_nameable cs) → (is_nameable c ≡ true) × AreAll is_nameable cs
    go true is e rest = (is, rest e)
    go false is e rest = cc

name_by : (c : ℕ) (cs : List ℕ) → all_nameable (c ∷ cs) ≡ true → IsName (c ∷ cs)
name_by c cs e = record { some = omega arith; nameable = each_nameable (c ∷ cs) e }

unit_name : (u : units.Unit) → IsName (unit_text u)
unit_name Number = name_by _ _ refl
unit_name _ = name_by _ _ refl

-- ---- numbers

decimal_mantissa : (n : ℕ) → IsMantissa (decimal n)
decimal_mantissa n = of_digits (decimal n) (decimal_digits n) (decimal_some n)

signed_spelling : (z : ℤ) → IsSpelling (signed_decimal z)
signed_spelling (pos n) = positive (decimal n) (decimal_mantissa n)
signed_spelling (negsuc n) = negative (decimal (suc n)) (decimal_mantissa (suc n))

point_before : (l : List ℕ) → full_stop ∷ l ≡ codes "." ++ l
point_before l = refl

pointed_spelling : (top : ℤ) (bottom places : ℕ) → IsSpelling (decimal_text top bottom places)
unfolding decimal_text
pointed_spelling top bottom places = go (int_lt top (pos 0))
  where
    mantissa : (w n : ℕ) → IsMantissa (decimal w ++ codes "." ++ padded places n)
    mantissa w n =
        subst IsMantissa (ap (λ (l : List ℕ). decimal w ++ l) (point_before (padded places n)) ∙ sym (append_assoc (decimal w) (codes ".") (padded places n)))
        (of_point (decimal w) (padded places n) (decimal_digits w) (decimal_some w)
        (digits_append (replicate (places - length (decimal n)) 0x30) (decimal n) (zeros_digits (places - length (decimal n))) (decimal_digits n))
        (omega (arith, length-append (replicate (places - length (decimal n)) 0x30) (decimal n), decimal_some n)))

    go : (b : Bool) → IsSpelling ((if b then codes "-" else []) ++ decimal (unsigned_abs top / bottom) ++ codes "." ++ padded places (unsigned_abs top % bottom * 10 ^ places / bottom))
    go true = negative _ (mantissa (unsigned_abs top / bottom) (unsigned_abs top % bottom * 10 ^ places / bottom))
    go false = positive _ (mantissa (unsigned_abs top / bottom) (unsigned_abs top % bottom * 10 ^ places / bottom))

places_spelling : (r : Ratio) (n : ℕ) → IsSpelling (text_with r.top r.bottom (Some n))
places_spelling r zero = signed_spelling r.top
places_spelling r (suc n) = pointed_spelling r.top r.bottom (suc n)

numeric_spelt : (spelling : List ℕ) → IsSpelling spelling → (u : units.Unit) → IsSpelt (numeric spelling u)
numeric_spelt spelling is Number = token_spelt (tokens.Number spelling) refl refl is
numeric_spelt spelling is Percent = token_spelt (tokens.Percentage spelling) refl refl is
numeric_spelt spelling is u = token_spelt (tokens.Dimension spelling (unit_text u)) refl refl (is, unit_name u)

-- ---- punctuation and functions

sign_spelt : (c : ℕ) → IsDelimiter c → IsSpelt (tokens.Delim c) → AreSpelt (operator c)
sign_spelt c is spelt = (token_spelt tokens.White refl refl tt, (spelt, (token_spelt tokens.White refl refl tt, tt)))

plus_spelt : AreSpelt (operator 0x2b)
unfolding single
plus_spelt = let is : IsDelimiter 0x2b = record { kept = refl; plain = refl; single = refl } in sign_spelt 0x2b is (token_spelt (tokens.Delim 0x2b) refl refl is)

minus_spelt : AreSpelt (operator 0x2d)
unfolding single
minus_spelt = let is : IsDelimiter 0x2d = record { kept = refl; plain = refl; single = refl } in sign_spelt 0x2d is (token_spelt (tokens.Delim 0x2d) refl refl is)

times_spelt : AreSpelt (operator 0x2a)
unfolding single
times_spelt = let is : IsDelimiter 0x2a = record { kept = refl; plain = refl; single = refl } in sign_spelt 0x2a is (token_spelt (tokens.Delim 0x2a) refl refl is)

over_spelt : AreSpelt (operator 0x2f)
unfolding single
over_spelt = let is : IsDelimiter 0x2f = record { kept = refl; plain = refl; single = refl } in sign_spelt 0x2f is (token_spelt (tokens.Delim 0x2f) refl refl is)

closing_spelt : AreSpelt closing
closing_spelt = (token_spelt (tokens.Close Round) refl refl tt, tt)

call_spelt : (name : List ℕ) (inner : List Token) → IsSpelt (tokens.Function name) → AreSpelt inner → AreSpelt (call name inner)
call_spelt name inner is h = (is, joined_spelt inner closing h closing_spelt)

calc_spelt : IsSpelt (tokens.Function (codes "calc"))
calc_spelt = token_spelt (tokens.Function (codes "calc")) refl refl (name_by _ _ refl)

bracketed_spelt : (b : Bool) (inner : List Token) → AreSpelt inner → AreSpelt (bracketed b inner)
bracketed_spelt true inner h = (token_spelt (tokens.Open Round) refl refl tt, joined_spelt inner closing h closing_spelt)
bracketed_spelt false inner h = h

prefix_spelt : (place : Place) → AreSpelt (prefix place)
prefix_spelt Operand = tt
prefix_spelt Whole = tt
prefix_spelt Added = plus_spelt
prefix_spelt Multiplied = times_spelt
prefix_spelt Argument = (token_spelt tokens.Comma refl refl tt, (token_spelt tokens.White refl refl tt, tt))

placed_spelt : (place : Place) (inner : List Token) → AreSpelt inner → AreSpelt (placed place inner)
placed_spelt place inner h = joined_spelt (prefix place) (bracketed (has_brackets place) inner) (prefix_spelt place) (bracketed_spelt (has_brackets place) inner h)

quotient_spelt : (v : Ratio) (u : units.Unit) → AreSpelt (quotient_tokens v u)
quotient_spelt v u = (
  numeric_spelt (signed_decimal v.top) (signed_spelling v.top) u,
  joined_spelt (operator 0x2f) (tokens.Number (decimal v.bottom) ∷ []) over_spelt
      (token_spelt (tokens.Number (decimal v.bottom)) refl refl (positive (decimal v.bottom) (decimal_mantissa v.bottom)), tt),
)

decimal_spelt : (v : Ratio) (u : units.Unit) (n : ℕ) → decimal_places v ≡ Some n → AreSpelt (decimal_tokens v u)
decimal_spelt v u n e = (numeric_spelt (frac_text v) (subst IsSpelling (sym (ap (text_with v.top v.bottom) e)) (places_spelling v n)) u, tt)

either_spelt : (v : Ratio) (u : units.Unit) (other : List Token) → AreSpelt other → AreSpelt (if has_decimal v then decimal_tokens v u else other)
either_spelt v u other h = go (decimal_places v) refl
  where
    go : (o : Option ℕ) → decimal_places v ≡ o → AreSpelt (if has_decimal_as o then decimal_tokens v u else other)
    go None e = h
    go (Some n) e = decimal_spelt v u n e

number_spelt : (b : Bool) (v : Ratio) (u : units.Unit) → AreSpelt (number_tokens b v u)
number_spelt b v u = either_spelt v u (bracketed b (quotient_tokens v u)) (bracketed_spelt b (quotient_tokens v u) (quotient_spelt v u))

number_alone_spelt : (v : Ratio) (u : units.Unit) → AreSpelt (number_alone v u)
number_alone_spelt v u = either_spelt v u (call (codes "calc") (quotient_tokens v u)) (call_spelt (codes "calc") (quotient_tokens v u) calc_spelt (quotient_spelt v u))

added_spelt : (v : Ratio) (u : units.Unit) → AreSpelt (number_added v u)
added_spelt v u = go (int_lt v.top (pos 0))
  where
    go : (b : Bool) → AreSpelt (if b then operator 0x2d ++ number_tokens true (neg v) u else operator 0x2b ++ number_tokens true v u)
    go true = joined_spelt (operator 0x2d) (number_tokens true (neg v) u) minus_spelt (number_spelt true (neg v) u)
    go false = joined_spelt (operator 0x2b) (number_tokens true v u) plus_spelt (number_spelt true v u)

number_placed_spelt : (place : Place) (v : Ratio) (u : units.Unit) → AreSpelt (number_placed place v u)
number_placed_spelt Added v u = added_spelt v u
number_placed_spelt place v u = joined_spelt (prefix place) (number_tokens (has_brackets place) v u) (prefix_spelt place) (number_spelt (has_brackets place) v u)

-- ---- trees

abbrev AllPlaces : Written → Type 0
AllPlaces w = (place : Place) → AreSpelt (w.at_place place)

abbrev EachPlaces : List Written → Type 0
EachPlaces [] = Unit {0}
EachPlaces (w ∷ ws) = AllPlaces w × EachPlaces ws

negative_spelt : (place : Place) (child : List Token) → AreSpelt child → AreSpelt (negative_placed place child)
negative_spelt Added child h = joined_spelt (operator 0x2d) child minus_spelt h
negative_spelt place child h =
    placed_spelt place (tokens.Number (codes "-1") ∷ operator 0x2a ++ child)
    (token_spelt (tokens.Number (codes "-1")) refl refl (negative (codes "1") (of_digits (codes "1") (refl, tt) (omega arith))), joined_spelt (operator 0x2a) child times_spelt h)

inverse_spelt : (place : Place) (child : List Token) → AreSpelt child → AreSpelt (inverse_placed place child)
inverse_spelt Multiplied child h = joined_spelt (operator 0x2f) child over_spelt h
inverse_spelt place child h =
    placed_spelt place (tokens.Number (codes "1") ∷ operator 0x2f ++ child)
    (token_spelt (tokens.Number (codes "1")) refl refl (positive (codes "1") (of_digits (codes "1") (refl, tt) (omega arith))), joined_spelt (operator 0x2f) child over_spelt h)

child_spelt : (first further : Place) (l : Line) (w : Written) → AreSpelt l.line → AllPlaces w → AreSpelt (with_child first further l w).line
child_spelt first further l w h k = joined_spelt l.line (w.at_place (if l.started then further else first)) h (k (if l.started then further else first))

ranked_child_spelt : (further : Place) (r : ℕ) (l : Line) (w : Written) → AreSpelt l.line → AllPlaces w → AreSpelt (with_rank further r l w).line
ranked_child_spelt further r l w h k = go (w.rank == r)
  where
    go : (b : Bool) → AreSpelt (if b then with_child Operand further l w else l).line
    go true = child_spelt Operand further l w h k
    go false = h

rank_spelt : (further : Place) (ws : List Written) (l : Line) (r : ℕ) → AreSpelt l.line → EachPlaces ws → AreSpelt (with_ranked further ws l r).line
rank_spelt further [] l r h k = h
rank_spelt further (w ∷ ws) l r h k = rank_spelt further ws (with_rank further r l w) r (ranked_child_spelt further r l w h k.0) k.1

ranks_spelt : (further : Place) (ws : List Written) (n : ℕ) → EachPlaces ws → AreSpelt (ranked further ws n).line
unfolding ranked
ranks_spelt further ws zero k = tt
ranks_spelt further ws (suc n) k = rank_spelt further ws (ranked further ws n) n (ranks_spelt further ws n k) k

line_spelt : (further : Place) (ws : List Written) → EachPlaces ws → AreSpelt (line_of further ws)
line_spelt further ws k = ranks_spelt further ws ranks k

arguments_spelt : (ws : List Written) (l : Line) → AreSpelt l.line → EachPlaces ws → AreSpelt (fold (with_child Whole Argument) l ws).line
arguments_spelt [] l h k = h
arguments_spelt (w ∷ ws) l h k = arguments_spelt ws (with_child Whole Argument l w) (child_spelt Whole Argument l w h k.0) k.1

function_spelt : (name : List ℕ) (ws : List Written) → IsSpelt (tokens.Function name) → EachPlaces ws → (place : Place) → AreSpelt (prefix place ++ call name (arguments_of ws))
function_spelt name ws is k place =
    joined_spelt (prefix place) (call name (arguments_of ws)) (prefix_spelt place) (call_spelt name (arguments_of ws) is (arguments_spelt ws no_line tt k))

-- what is known of the children of a node
abbrev StepGiven : Calc-F Written → Type 0
StepGiven (Num v u) = Unit {0}
StepGiven (Sum ws) = EachPlaces ws
StepGiven (Product ws) = EachPlaces ws
StepGiven (Negate w) = AllPlaces w
StepGiven (Invert w) = AllPlaces w
StepGiven (Min ws) = EachPlaces ws
StepGiven (Max ws) = EachPlaces ws
StepGiven (Clamp a b c) = EachPlaces (a ∷ b ∷ c ∷ [])

step_spelt : (l : Calc-F Written) → StepGiven l → AllPlaces (written_step l)
step_spelt (Num v u) h = λ place. number_placed_spelt place v u
step_spelt (Sum ws) h = λ place. placed_spelt place (line_of Added ws) (line_spelt Added ws h)
step_spelt (Product ws) h = λ place. placed_spelt place (line_of Multiplied ws) (line_spelt Multiplied ws h)
step_spelt (Negate w) h = λ place. negative_spelt place (w.at_place Operand) (h Operand)
step_spelt (Invert w) h = λ place. inverse_spelt place (w.at_place Operand) (h Operand)
step_spelt (Min ws) h = λ place. function_spelt (codes "min") ws (token_spelt (tokens.Function (codes "min")) refl refl (name_by _ _ refl)) h place
step_spelt (Max ws) h = λ place. function_spelt (codes "max") ws (token_spelt (tokens.Function (codes "max")) refl refl (name_by _ _ refl)) h place
step_spelt (Clamp a b c) h = λ place. function_spelt (codes "clamp") (a ∷ b ∷ c ∷ []) (token_spelt (tokens.Function (codes "clamp")) refl refl (name_by _ _ refl)) h place

abbrev IsWritten : Calc → Type 0
IsWritten c = AllPlaces (written c)

each_written : (cs : List Calc) → Each IsWritten cs → EachPlaces (map written cs)
each_written [] h = tt
each_written (c ∷ cs) h = (h.0, each_written cs h.1)

handed : (c : Calc) (w : Written) → written c ≡ w → AllPlaces w → IsWritten c
handed c w e h = subst AllPlaces (sym e) h

every_written : (c : Calc) → IsWritten c
unfolding written
every_written = by_cases IsWritten (record {
  num = λ v u. handed (tree.Num v u) _ (fold-Num written_step v u) (step_spelt (Num v u) tt);
  sum = λ cs h. handed (tree.Sum cs) _ (fold-Sum written_step cs) (step_spelt (Sum (map written cs)) (each_written cs h));
  product = λ cs h. handed (tree.Product cs) _ (fold-Product written_step cs) (step_spelt (Product (map written cs)) (each_written cs h));
  negate = λ c h. handed (tree.Negate c) _ (fold-Negate written_step c) (step_spelt (Negate (written c)) h);
  invert = λ c h. handed (tree.Invert c) _ (fold-Invert written_step c) (step_spelt (Invert (written c)) h);
  min = λ cs h. handed (tree.Min cs) _ (fold-Min written_step cs) (step_spelt (Min (map written cs)) (each_written cs h));
  max = λ cs h. handed (tree.Max cs) _ (fold-Max written_step cs) (step_spelt (Max (map written cs)) (each_written cs h));
  clamp = λ a b c h i j. handed (tree.Clamp a b c) _ (fold-Clamp written_step a b c) (step_spelt (Clamp (written a) (written b) (written c)) (h, (i, (j, tt))));
})

text_spelt_as : (c : Calc) (l : Calc-F Calc) → AreSpelt (calc_text_as c l)
text_spelt_as c (Num v u) = number_alone_spelt v u
text_spelt_as c (Min cs) = every_written c Whole
text_spelt_as c (Max cs) = every_written c Whole
text_spelt_as c (Clamp a b d) = every_written c Whole
text_spelt_as c _ = call_spelt (codes "calc") ((written c).at_place Whole) calc_spelt (every_written c Whole)

pub text_spelt : (c : Calc) → All IsSpelt (calc_text c)
unfolding calc_text
text_spelt c = All-from_recursion IsSpelt (calc_text c) (text_spelt_as c (out-Calc c))
