-- A calculation without font units is simplified alike in contexts that differ in these alone.
use Rattle.std.specs.Prelude.{Bool, true, false, not, pos}
use Rattle.std.proofs.Common.{◌≡◌, refl, ap, ap₂}
use Rattle.cv_spec_ratio.specs.Ratio.{Ratio, ratio, mul}
use Rattle.cv_spec_ratio.specs.Order.{lesser, greater}
use Rattle.cv_calc.specs.declared.unit.Unit as units
use Rattle.cv_calc.specs.declared.unit.Unit.TheVariants.{Percent, Em, Rem, Ex, Ch, Ic, Vw, Vh, Vmin, Vmax}
use Rattle.cv_calc.specs.declared.context.Context.{Context}
use Rattle.cv_calc.specs.declared.calc.Calc.TheVariants as tree
use Rattle.cv_calc.specs.Factor.{canonical, factor, hundredth, sizes_of}
use Rattle.cv_simplify.specs.Simplified.{number_in, percent_in}
use Rattle.cv_calc_laws.specs.Fonts.{is_other_unit, DifferInFonts, SimplifiesAlike}
use Rattle.cv_calc_laws.proofs.Lists.{false_true}
use Rattle.cv_calc_laws.proofs.NumbersAlike.{NumbersAgree, simple_alike, in_range_alike}

module _ (root : Bool) (x y : Context) (alike : DifferInFonts root x y) where
  -- a factor that isn't of a font unit
  same_factor : (u : units.Unit) → is_other_unit root u ≡ true → factor (sizes_of x) u ≡ factor (sizes_of y) u
  same_factor Em h = absurd (false_true h)
  same_factor Ex h = absurd (false_true h)
  same_factor Ch h = absurd (false_true h)
  same_factor Ic h = absurd (false_true h)
  same_factor Rem h = alike.rem (not_true root h)
    where
      not_true : (b : Bool) → not b ≡ true → b ≡ false
      not_true true e = absurd (false_true e)
      not_true false e = refl
  same_factor Vw h = ap (λ n. mul (ratio (pos n) 1) hundredth) alike.width
  same_factor Vh h = ap (λ n. mul (ratio (pos n) 1) hundredth) alike.height
  same_factor Vmin h = ap₂ (λ n k. mul (lesser (ratio (pos n) 1) (ratio (pos k) 1)) hundredth) alike.width alike.height
  same_factor Vmax h = ap₂ (λ n k. mul (greater (ratio (pos n) 1) (ratio (pos k) 1)) hundredth) alike.width alike.height
  same_factor u h = refl

  same_number : (v : Ratio) (u : units.Unit) → is_other_unit root u ≡ true → number_in x v u ≡ number_in y v u
  same_number v Percent h = ap (λ b. percent_in b v) alike.basis
  same_number v u h = ap (λ f. tree.Num (mul v f) (canonical u)) (same_factor u h)

  numbers_agree : NumbersAgree (is_other_unit root) x y
  numbers_agree = record { number = same_number; basis = alike.basis }

pub simplifies_alike : SimplifiesAlike
simplifies_alike = record {
  simple = λ root x y alike c h. simple_alike (is_other_unit root) x y (numbers_agree root x y alike) c h;
  in_range = λ root x y alike c h. in_range_alike (is_other_unit root) x y (numbers_agree root x y alike) c h;
}
