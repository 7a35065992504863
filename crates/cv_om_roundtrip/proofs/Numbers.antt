-- The text of a number: its tokens, and as what they read.
use Rattle.std.specs.Prelude.{ℕ, Bool, true, false, ℤ, pos, negsuc, List, [], ◌∷◌, ◌++◌, codes, decimal, Option, Some, None, Result, Ok, All}
use Rattle.std.specs.Fmt.{signed_decimal, digits}
use Rattle.std.proofs.Common.{◌≡◌, refl, ◌∙◌, ap, subst, arith}
use Rattle.std.proofs.lemmas.List.Elements.{All-head, All-tail}
use Rattle.cv_spec_text.specs.declared.token.Token.{Token}
use Rattle.cv_spec_text.specs.declared.token.Token.TheVariants as tokens
use Rattle.cv_spec_text.specs.declared.token.Bracket.TheVariants.{Round}
use Rattle.cv_spec_text.specs.Splits.{IsSpelt}
use Rattle.cv_tokser.specs.Clean.{is_bad, is_url_function}
use Rattle.cv_spec_text.specs.Printing.{is_white}
use Rattle.cv_spec_ratio.specs.Ratio.{Ratio, ratio}
use Rattle.cv_frac.specs.Bounded.{in_bounds}
use Rattle.cv_frac.specs.Places.{decimal_places}
use Rattle.cv_frac.specs.Text.{frac_text}
use Rattle.cv_calc.specs.declared.unit.Unit as units
use Rattle.cv_calc.specs.declared.unit.Unit.TheVariants.{Number, Percent}
use Rattle.cv_calc.specs.declared.calc.Calc.{Calc}
use Rattle.cv_calc.specs.declared.calc.Calc.TheVariants as tree
use Rattle.cv_calc.specs.Names.{unit_text}
use Rattle.cv_calc.specs.Tree.{out-Num}
use Rattle.cv_calc.proofs.Units.{name_found}
use Rattle.cv_calcread.specs.Grammar.{none, white, ReadsValue, literal, percent, measure, brackets, factor, over, ReadsTerms, term, argument}
use Rattle.cv_calcread.specs.Literals.{exact_number, is_in_range}
use Rattle.cv_calcread.specs.Reading.{one_or}
use Rattle.cv_simplify.specs.Text.{numeric, operator, has_decimal_as, has_decimal, quotient_tokens, number_tokens, number_alone, calc_text, calc_text_as}
use Rattle.cv_simplify.proofs.Spelt.{token_spelt, of_digits, positive, negative}
use Rattle.cv_simplify.proofs.SpeltTexts.{text_spelt}
use Rattle.cv_calc_roundtrip.proofs.Decimals.{frac_spelt, small_numbers}
use Rattle.cv_calc_roundtrip.proofs.Numerals.{Means, decimal_means, whole_means, numeral_narrow}
use Rattle.cv_calc_roundtrip.proofs.Quotients.{quotient}
use Rattle.cv_om.specs.declared.error.OmErr.{OmErr}
use Rattle.cv_om.specs.Parsed.{single, measured, lone}
use Rattle.cv_om_roundtrip.proofs.Pieces.{IsPiece, IsSolid, after_solid, one_solid, open_piece, over_piece, signed_tail, wrapped}
use Rattle.cv_om_roundtrip.proofs.Sames.{Same, same_self}
use Rattle.cv_om_roundtrip.proofs.Shown.{minus_one, quotient_same}

-- ---- one numeral

pub numeral_value : (v : Ratio) (u : units.Unit) (n : List ℕ) → exact_number n ≡ v → (rest : List Token) → ReadsValue exact_number (numeric n u ∷ rest) rest (tree.Num v u)
numeral_value v u n e rest = subst (λ (w : Ratio). ReadsValue exact_number (numeric n u ∷ rest) rest (tree.Num w u)) e (go u)
  where
    go : (u : units.Unit) → ReadsValue exact_number (numeric n u ∷ rest) rest (tree.Num (exact_number n) u)
    go Number = literal n
    go Percent = percent n
    go t = measure n (unit_text t) t (name_found t refl)

numeral_piece : (n : List ℕ) (u : units.Unit) → IsSpelt (numeric n u) → is_in_range n ≡ true → IsPiece (numeric n u)
numeral_piece n u s r = record { spelt = s; good = good u; other = other u; narrow = numeral_narrow u n r }
  where
    good : (u : units.Unit) → is_bad (numeric n u) ≡ false
    good Number = refl
    good Percent = refl
    good t = refl

    other : (u : units.Unit) → is_url_function (numeric n u) ≡ false
    other Number = refl
    other Percent = refl
    other t = refl

no_white : (n : List ℕ) (u : units.Unit) → is_white (numeric n u) ≡ false
no_white n Number = refl
no_white n Percent = refl
no_white n t = refl

-- ---- its spelling is one of a text

alone_spelt : (v : Ratio) (u : units.Unit) → All IsSpelt (number_alone v u)
unfolding calc_text
alone_spelt v u = subst (λ (ts : List Token). All IsSpelt ts) (ap (calc_text_as (tree.Num v u)) (out-Num v u)) (text_spelt (tree.Num v u))

decimal_spelt : (v : Ratio) (u : units.Unit) → has_decimal v ≡ true → IsSpelt (numeric (frac_text v) u)
decimal_spelt v u e = All-head IsSpelt (numeric (frac_text v) u) [] (subst (λ (ts : List Token). All IsSpelt ts) (text e) (alone_spelt v u))
  where
    text : has_decimal v ≡ true → number_alone v u ≡ numeric (frac_text v) u ∷ []
    text e = rw e refl

abbrev quotient_call : Ratio → units.Unit → List Token
quotient_call v u = tokens.Function (codes "calc") ∷ numeric (signed_decimal v.top) u ∷ tokens.White ∷ tokens.Delim 0x2f ∷ tokens.White ∷ tokens.Number (decimal v.bottom) ∷ tokens.Close Round ∷ []

quotient_text : (v : Ratio) (u : units.Unit) → has_decimal v ≡ false → number_alone v u ≡ quotient_call v u
quotient_text v u e = rw e refl

-- a token among others
among : (before : List Token) (t : Token) (after : List Token) → All IsSpelt (before ++ t ∷ after) → IsSpelt t
among [] t after h = All-head IsSpelt t after h
among (b ∷ before) t after h = among before t after (All-tail IsSpelt b (before ++ t ∷ after) h)

quotient_spelt : (v : Ratio) (u : units.Unit) → has_decimal v ≡ false → All IsSpelt (quotient_call v u)
quotient_spelt v u e = subst (λ (ts : List Token). All IsSpelt ts) (quotient_text v u e) (alone_spelt v u)

top_spelt : (v : Ratio) (u : units.Unit) → has_decimal v ≡ false → IsSpelt (numeric (signed_decimal v.top) u)
top_spelt v u e =
    among (tokens.Function (codes "calc") ∷ []) (numeric (signed_decimal v.top) u) (tokens.White ∷ tokens.Delim 0x2f ∷ tokens.White ∷ tokens.Number (decimal v.bottom) ∷ tokens.Close Round ∷ []) (quotient_spelt v u e)

bottom_spelt : (v : Ratio) → has_decimal v ≡ false → IsSpelt (tokens.Number (decimal v.bottom))
bottom_spelt v e =
    among (tokens.Function (codes "calc") ∷ numeric (signed_decimal v.top) Number ∷ tokens.White ∷ tokens.Delim 0x2f ∷ tokens.White ∷ []) (tokens.Number (decimal v.bottom)) (tokens.Close Round ∷ []) (quotient_spelt v Number e)

-- ---- the tokens

-- how the tokens of a number read, in brackets where it is a quotient and without
pub record Numeral (v : Ratio) (u : units.Unit) : Type 0 where
  pub read : Calc
  pub same : Same (tree.Num v u) read
  pub operand : (rest : List Token) → ReadsValue exact_number (number_tokens true v u ++ rest) rest read
  pub terms : List Calc
  pub whole : (rest : List Token) → ReadsTerms exact_number (number_tokens false v u ++ rest) rest terms
  pub joined : one_or tree.Sum terms ≡ read
  pub bracketed : IsSolid (number_tokens true v u)
  pub plain : IsSolid (number_tokens false v u)

decimal_numeral : (v : Ratio) (u : units.Unit) → in_bounds v ≡ true → has_decimal v ≡ true → Numeral v u
decimal_numeral v u within e =
    let m : Means (frac_text v) v = decimal_means v within e in
    let solid : IsSolid (numeric (frac_text v) u ∷ []) = one_solid (numeric (frac_text v) u) (numeral_piece (frac_text v) u (decimal_spelt v u e) m.in_range) (no_white (frac_text v) u) in
    record {
      read = tree.Num v u;
      same = same_self (tree.Num v u);
      operand = λ rest. rw e (numeral_value v u (frac_text v) m.exact rest);
      terms = tree.Num v u ∷ [];
      whole = λ rest. rw e (term (factor none (numeral_value v u (frac_text v) m.exact rest)));
      joined = refl;
      bracketed = rw e solid;
      plain = rw e solid;
    }

quotient_whole : (p : ℤ) (q : ℕ) (u : units.Unit) → exact_number (signed_decimal p) ≡ ratio p 1 → exact_number (decimal q) ≡ ratio (pos q) 1 → (rest : List Token) →
    ReadsTerms exact_number (numeric (signed_decimal p) u ∷ tokens.White ∷ tokens.Delim 0x2f ∷ tokens.White ∷ tokens.Number (decimal q) ∷ rest) rest (quotient p q u ∷ [])
quotient_whole p q u e f rest =
    term (over (factor none (numeral_value (ratio p 1) u (signed_decimal p) e _)) (white none) (white none) (numeral_value (ratio (pos q) 1) Number (decimal q) f rest))

quotient_numeral : (v : Ratio) (u : units.Unit) → in_bounds v ≡ true → has_decimal v ≡ false → Numeral v u
quotient_numeral v u within e =
    let small = small_numbers v within in
    let m : Means (signed_decimal v.top) (ratio v.top 1) = whole_means v.top small.0 in
    let n : Means (decimal v.bottom) (ratio (pos v.bottom) 1) = whole_means (pos v.bottom) small.1 in
    let first : IsSolid (numeric (signed_decimal v.top) u ∷ []) = one_solid (numeric (signed_decimal v.top) u) (numeral_piece (signed_decimal v.top) u (top_spelt v u e) m.in_range) (no_white (signed_decimal v.top) u) in
    let last : IsSolid (tokens.Number (decimal v.bottom) ∷ []) = one_solid (tokens.Number (decimal v.bottom)) (numeral_piece (decimal v.bottom) Number (bottom_spelt v e) n.in_range) refl in
    let solid : IsSolid (quotient_tokens v u) = after_solid (numeric (signed_decimal v.top) u ∷ []) (operator 0x2f ++ tokens.Number (decimal v.bottom) ∷ []) first (signed_tail 0x2f (tokens.Number (decimal v.bottom) ∷ []) over_piece last) in
    record {
      read = quotient v.top v.bottom u;
      same = quotient_same v u within small.0;
      operand = λ rest. rw e (brackets (argument (quotient_whole v.top v.bottom u m.exact n.exact (tokens.Close Round ∷ rest)) none) refl);
      terms = quotient v.top v.bottom u ∷ [];
      whole = λ rest. rw e (quotient_whole v.top v.bottom u m.exact n.exact rest);
      joined = refl;
      bracketed = rw e (wrapped (tokens.Open Round) (quotient_tokens v u) open_piece refl solid);
      plain = rw e solid;
    }

pub numeral : (v : Ratio) (u : units.Unit) → in_bounds v ≡ true → Numeral v u
numeral v u within = go (has_decimal v) refl
  where
    go : (b : Bool) → has_decimal v ≡ b → Numeral v u
    go true e = decimal_numeral v u within e
    go false e = quotient_numeral v u within e

-- ---- the numbers in front of a negative and an inverse

pub minus_means : Means (codes "-1") minus_one
unfolding digits
minus_means = whole_means (negsuc 0) (omega arith)

pub one_means : Means (codes "1") (ratio (pos 1) 1)
unfolding digits
one_means = whole_means (pos 1) (omega arith)

pub minus_one_piece : IsPiece (tokens.Number (codes "-1"))
minus_one_piece = numeral_piece (codes "-1") Number (token_spelt (tokens.Number (codes "-1")) refl refl (negative (codes "1") (of_digits (codes "1") (refl, tt) (omega arith)))) minus_means.in_range

pub one_piece : IsPiece (tokens.Number (codes "1"))
one_piece = numeral_piece (codes "1") Number (token_spelt (tokens.Number (codes "1")) refl refl (positive (codes "1") (of_digits (codes "1") (refl, tt) (omega arith)))) one_means.in_range

-- ---- a numeral alone

pub lone_numeral : (v : Ratio) (u : units.Unit) (other : Result Calc OmErr) → in_bounds v ≡ true → has_decimal v ≡ true → lone (numeric (frac_text v) u) other ≡ Ok (tree.Num v u)
lone_numeral v u other within e = kind u ∙ read
  where
    kind : (u : units.Unit) → lone (numeric (frac_text v) u) other ≡ single (frac_text v) u
    kind Number = refl
    kind Percent = refl
    kind t = ap (λ o. measured (frac_text v) o) (name_found t refl)

    read : single (frac_text v) u ≡ Ok (tree.Num v u)
    read = go (decimal_places v) refl e
      where
        go : (o : Option ℕ) → decimal_places v ≡ o → has_decimal_as o ≡ true → single (frac_text v) u ≡ Ok (tree.Num v u)
        go None f k = absurd cc
        go (Some n) f k = let s = frac_spelt v n within f in rw (s.bytes, s.number, s.short, s.means, within) refl
