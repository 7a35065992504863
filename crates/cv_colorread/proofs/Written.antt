-- Bytes as channels: the text of a byte is that of the number, and the channel of the number is the byte, by a test that computes over all.
use Rattle.std.specs.Prelude.{ℕ, zero, suc, Bool, true, false, ◌==◌, ◌&&◌, ◌<◌, List, [], ◌∷◌, decimal, bytes_eq, pos, if◌then◌else◌}
use Rattle.std.specs.Fmt.{digits}
use Rattle.std.proofs.Common.{◌≡◌, refl, sym, ◌∙◌, ap, subst, arith}
use Rattle.std.proofs.lemmas.Bool.Decides.{nat_tests}
use Rattle.std.proofs.lemmas.Slice.Eq.{bytes_eq-Decides}
use Rattle.cv_spec_ratio.specs.Gcd.{gcd, gcd_steps}
use Rattle.cv_spec_ratio.specs.Ratio.{Ratio, ratio}
use Rattle.cv_frac.specs.Bounded.{in_bounds}
use Rattle.cv_frac.specs.Places.{decimal_places, first_from}
use Rattle.cv_frac.specs.Rounded.{half_up}
use Rattle.cv_frac.specs.Text.{frac_text}
use Rattle.cv_spec_text.specs.declared.token.Token.{Token}
use Rattle.cv_spec_text.specs.declared.token.Token.TheVariants.{Number}
use Rattle.cv_calc.specs.declared.unit.Unit.TheVariants as units
use Rattle.cv_simplify.specs.Text.{number_alone, has_decimal, decimal_tokens}
use Rattle.cv_color.specs.Channels.{channel}
use Rattle.cv_color.specs.Text.{channel_text}

abbrev pub whole : ℕ → Ratio
whole n = ratio (pos n) 1

abbrev passes : ℕ → Bool
passes n = (channel (whole n) == n) && (in_bounds (whole n) && (has_decimal (whole n) && bytes_eq (frac_text (whole n)) (decimal n)))

all_below : ℕ → Bool
all_below zero = true
all_below (suc n) = passes n && all_below n

both : (a b : Bool) → (a && b) ≡ true → (a ≡ true) × (b ≡ true)
both true b h = (refl, h)
both false b h = cc

same_below : (m n : ℕ) → (m == n) ≡ true → m ≡ n
same_below m n e = grind (arith, nat_tests)

less_below : (m n : ℕ) → (m == n) ≡ false → m < suc n → m < n
less_below m n e h = grind (arith, nat_tests)

below : (m n : ℕ) → all_below n ≡ true → m < n → passes m ≡ true
unfolding all_below
below m zero h within = absurd (omega (arith, within))
below m (suc n) h within = by (m == n) refl (both (passes n) (all_below n) h).0 (below m n (both (passes n) (all_below n) h).1)
  where
    by : (b : Bool) → (m == n) ≡ b → passes n ≡ true → (m < n → passes m ≡ true) → passes m ≡ true
    by true e here others = subst (λ k. passes k ≡ true) (sym (same_below m n e)) here
    by false e here others = others (less_below m n e within)

all_pass : all_below 256 ≡ true
unfolding all_below digits half_up ratio gcd gcd_steps decimal_places first_from
all_pass = refl

same_text : (xs ys : List ℕ) → bytes_eq xs ys ≡ true → xs ≡ ys
same_text xs ys t = grind (arith, bytes_eq-Decides xs ys, t)

module _ (n : ℕ) (byte : n < 256) where
  found : passes n ≡ true
  found = below n 256 all_pass byte

  behind : (in_bounds (whole n) && (has_decimal (whole n) && bytes_eq (frac_text (whole n)) (decimal n))) ≡ true
  behind = (both (channel (whole n) == n) _ found).1

  written : (has_decimal (whole n) && bytes_eq (frac_text (whole n)) (decimal n)) ≡ true
  written = (both (in_bounds (whole n)) _ behind).1

  pub channel_back : channel (whole n) ≡ n
  channel_back = same_below (channel (whole n)) n (both (channel (whole n) == n) _ found).0

  pub bounded_byte : in_bounds (whole n) ≡ true
  bounded_byte = (both (in_bounds (whole n)) _ behind).0

  pub byte_text : number_alone (whole n) units.Number ≡ channel_text n
  byte_text =
      rw ((both (has_decimal (whole n)) _ written).0)
      (ap (λ (s : List ℕ). Number s ∷ []) (same_text (frac_text (whole n)) (decimal n) (both (has_decimal (whole n)) _ written).1))
