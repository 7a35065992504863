-- The text of a colour is clean, by a test that computes.
use Rattle.std.specs.Prelude.{ℕ, Bool, true, false, not, ◌&&◌, ◌||◌, List, [], ◌∷◌, ◌++◌, codes, if◌then◌else◌}
use Rattle.std.proofs.Common.{◌≡◌, refl, sym, ap, subst}
use Rattle.cv_spec_ratio.specs.Ratio.{Ratio}
use Rattle.cv_spec_text.specs.Printing.{is_white}
use Rattle.cv_spec_text.specs.declared.token.Token.{Token}
use Rattle.cv_spec_text.specs.declared.token.Token.TheVariants.{Function}
use Rattle.cv_tokser.specs.Clean.{IsClean, is_bad, begins_white, begins_string, is_url_function}
use Rattle.cv_calc.specs.declared.unit.Unit.TheVariants as units
use Rattle.cv_calc.specs.declared.calc.Calc.TheVariants.{Num}
use Rattle.cv_calc.specs.Tree.{out-Num}
use Rattle.cv_simplify.specs.Text.{calc_text, calc_text_as, number_alone, has_decimal, decimal_tokens, quotient_tokens, call}
use Rattle.cv_color.specs.declared.color.Color.TheVariants.{Current}
use Rattle.cv_color.specs.Text.{color_text, channels_text, alpha_text, separated, closing}

is_clean : List Token → Bool
is_clean [] = true
is_clean (a ∷ rest) = not (is_bad a) && (not (is_white a && begins_white rest) && ((not (is_url_function a) || begins_string rest) && is_clean rest))

both : (a b : Bool) → (a && b) ≡ true → (a ≡ true) × (b ≡ true)
both true b h = (refl, h)
both false b h = cc

negated : (a : Bool) → not a ≡ true → a ≡ false
negated true h = cc
negated false h = refl

implied : (a b : Bool) → (not a || b) ≡ true → a ≡ true → b ≡ true
implied true b h e = h
implied false b h e = cc

clean_by : (list : List Token) → is_clean list ≡ true → IsClean list
unfolding is_clean
clean_by [] h = tt
clean_by (a ∷ rest) h =
    let (good, more) = both (not (is_bad a)) _ h in
    let (apart, others) = both (not (is_white a && begins_white rest)) _ more in
    let (filled, behind) = both (not (is_url_function a) || begins_string rest) _ others in
    (negated (is_bad a) good, negated (is_white a && begins_white rest) apart, implied (is_url_function a) (begins_string rest) filled, clean_by rest behind)

-- the text of an alpha
pub alpha_is : (a : Ratio) → alpha_text a ≡ number_alone a units.Number
unfolding calc_text
alpha_is a = ap (calc_text_as (Num a units.Number)) (out-Num a units.Number)

abbrev pub rgb_list : ℕ → ℕ → ℕ → List Token
rgb_list r g n = Function (codes "rgb") ∷ channels_text r g n ++ closing

abbrev pub rgba_list : ℕ → ℕ → ℕ → List Token → List Token
rgba_list r g n alpha = Function (codes "rgba") ∷ channels_text r g n ++ separated alpha ++ closing

alpha_by : (b : Bool) (r g n : ℕ) (a : Ratio) → IsClean (rgba_list r g n (if b then decimal_tokens a units.Number else call (codes "calc") (quotient_tokens a units.Number)))
unfolding is_clean
alpha_by true r g n a = clean_by (rgba_list r g n (decimal_tokens a units.Number)) refl
alpha_by false r g n a = clean_by (rgba_list r g n (call (codes "calc") (quotient_tokens a units.Number))) refl

pub clean_alpha : (r g n : ℕ) (a : Ratio) → IsClean (rgba_list r g n (alpha_text a))
clean_alpha r g n a = subst (λ (ts : List Token). IsClean (rgba_list r g n ts)) (sym (alpha_is a)) (alpha_by (has_decimal a) r g n a)

pub clean_opaque : (r g n : ℕ) → IsClean (rgb_list r g n)
unfolding is_clean
clean_opaque r g n = clean_by (rgb_list r g n) refl

pub clean_current : IsClean (color_text Current)
unfolding is_clean
clean_current = clean_by (color_text Current) refl
