-- The tokens of a number, and how they read.
use Rattle.std.specs.Prelude.{ℕ, Bool, true, false, ◌&&◌, not, nat_lt, ◌<◌, ◌^◌, ℤ, unsigned_abs, List, [], ◌∷◌, ◌++◌, Option, Some, None}
use Rattle.std.specs.Fmt.{signed_decimal}
use Rattle.std.proofs.Common.{◌≡◌, refl, ◌∙◌, ap, arith}
use Rattle.std.proofs.lemmas.Bool.Decides.{nat_tests}
use Rattle.cv_spec_text.specs.declared.token.Token.{Token}
use Rattle.cv_spec_ratio.specs.Ratio.{Ratio, ratio}
use Rattle.cv_spec_ratio.proofs.Whole.{whole_top, whole_bottom}
use Rattle.cv_frac.specs.Bounded.{in_bounds}
use Rattle.cv_frac.specs.Literal.{exact, literal_of}
use Rattle.cv_frac.specs.Places.{decimal_places}
use Rattle.cv_frac.specs.Text.{frac_text}
use Rattle.cv_calc.specs.declared.unit.Unit as units
use Rattle.cv_calc.specs.declared.unit.Unit.TheVariants.{Number, Percent, Px, Deg, S, Hz, Dppx, Fr}
use Rattle.cv_calc.specs.declared.calc.Calc.TheVariants as tree
use Rattle.cv_calc.specs.Names.{unit_with_name, first_named, unit_text}
use Rattle.cv_calcread.specs.Literals.{exact_number, is_in_range, is_read}
use Rattle.cv_calcread.specs.Grammar.{ReadsValue, literal, percent, measure}
use Rattle.cv_calcread.specs.Answer.{is_wide}
use Rattle.cv_simplify.specs.Canonical.{is_canonical}
use Rattle.cv_simplify.specs.Text.{numeric, has_decimal_as, has_decimal}
use Rattle.cv_calc_roundtrip.proofs.Digits.{Spells, and_true, both_true}
use Rattle.cv_calc_roundtrip.proofs.Decimals.{frac_spelt, whole_spelt}

-- ---- spellings

-- the spelling means the number, and is in range
pub record Means (spelling : List ℕ) (v : Ratio) : Type 0 where
  pub exact : exact_number spelling ≡ v
  pub in_range : is_in_range spelling ≡ true

pub spelt_means : (spelling : List ℕ) (v : Ratio) → in_bounds v ≡ true → Spells spelling v → Means spelling v
unfolding exact_number is_in_range
spelt_means spelling v h s = record { exact = ap exact s.bytes ∙ s.means; in_range = ap (λ t. is_read (literal_of t)) s.bytes ∙ within }
  where
    within : is_read (literal_of spelling) ≡ true
    within = rw (s.number, s.short, s.means, h) refl

pub decimal_means : (v : Ratio) → in_bounds v ≡ true → has_decimal v ≡ true → Means (frac_text v) v
decimal_means v h e = go (decimal_places v) refl e
  where
    go : (o : Option ℕ) → decimal_places v ≡ o → has_decimal_as o ≡ true → Means (frac_text v) v
    go None is e = absurd cc
    go (Some n) is e = spelt_means (frac_text v) v h (frac_spelt v n h is)

-- a whole number, and its bounds
one_below : (m : ℕ) → m < 2 ^ 63 → nat_lt m (2 ^ 63) ≡ true
one_below m h = grind (arith, nat_tests)

pub whole_inside : (z : ℤ) → unsigned_abs z < 2 ^ 63 → in_bounds (ratio z 1) ≡ true
whole_inside z h = let e : nat_lt (unsigned_abs z) (2 ^ 63) ≡ true = one_below (unsigned_abs z) h in rw (whole_top z, whole_bottom z, e) refl

pub whole_means : (z : ℤ) → unsigned_abs z < 2 ^ 63 → Means (signed_decimal z) (ratio z 1)
whole_means z h = spelt_means (signed_decimal z) (ratio z 1) (whole_inside z h) (whole_spelt z (ratio z 1) h refl)

-- ---- tokens

-- no token is out of range
abbrev pub narrow : List Token → Bool
narrow [] = true
narrow (t ∷ ts) = not (is_wide t) && narrow ts

pub narrow_append : (ts us : List Token) → narrow ts ≡ true → narrow us ≡ true → narrow (ts ++ us) ≡ true
narrow_append [] us h k = k
narrow_append (t ∷ ts) us h k = let p = and_true (not (is_wide t)) (narrow ts) h in both_true (not (is_wide t)) (narrow (ts ++ us)) p.0 (narrow_append ts us p.1 k)

-- a numeral of a canonical unit reads as a number
pub numeral_read : (u : units.Unit) (n : List ℕ) (rest : List Token) → is_canonical u ≡ true → ReadsValue exact_number (numeric n u ∷ rest) rest (tree.Num (exact_number n) u)
unfolding unit_with_name first_named
numeral_read Number n rest h = literal n
numeral_read Percent n rest h = percent n
numeral_read Px n rest h = measure n (unit_text Px) Px refl
numeral_read Deg n rest h = measure n (unit_text Deg) Deg refl
numeral_read S n rest h = measure n (unit_text S) S refl
numeral_read Hz n rest h = measure n (unit_text Hz) Hz refl
numeral_read Dppx n rest h = measure n (unit_text Dppx) Dppx refl
numeral_read Fr n rest h = measure n (unit_text Fr) Fr refl
numeral_read _ n rest h = absurd cc

pub numeral_narrow : (u : units.Unit) (n : List ℕ) → is_in_range n ≡ true → is_wide (numeric n u) ≡ false
numeral_narrow Number n h = rw h refl
numeral_narrow Percent n h = rw h refl
numeral_narrow _ n h = rw h refl
