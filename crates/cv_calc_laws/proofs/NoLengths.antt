-- A calculation that is no length is simplified alike in every two contexts in which percentages stand for the same.
use Rattle.std.specs.Prelude.{Bool, true, false, ◌||◌}
use Rattle.std.proofs.Common.{◌≡◌, refl, sym, ap}
use Rattle.cv_spec_ratio.specs.Ratio.{Ratio, mul}
use Rattle.cv_calc.specs.declared.unit.Unit as units
use Rattle.cv_calc.specs.declared.unit.Unit.TheVariants.{Percent, Em, Rem, Ex, Ch, Ic, Vw, Vh, Vmin, Vmax}
use Rattle.cv_calc.specs.declared.context.Context.{Context}
use Rattle.cv_calc.specs.declared.calc.Calc.TheVariants as tree
use Rattle.cv_calc.specs.Factor.{canonical, factor, sizes_of}
use Rattle.cv_simplify.specs.Simplified.{number_in, percent_in}
use Rattle.cv_calc_laws.specs.OfType.{is_of_type, is_length, ContextsAreIgnored}
use Rattle.cv_calc_laws.proofs.HeldUnits.{units_are_of_type}
use Rattle.cv_calc_laws.proofs.Lists.{false_true}
use Rattle.cv_calc_laws.proofs.NumbersAlike.{NumbersAgree, simple_alike, in_range_alike}

neither : (b : Bool) → b ≡ false → (b || false) ≡ true → ⊥
neither true h k = false_true (sym h)
neither false h k = false_true k

module _ (u : units.Unit) (other : is_length u ≡ false) (x y : Context) where
  -- a factor that isn't of a length
  same_factor : (t : units.Unit) → is_of_type u t ≡ true → factor (sizes_of x) t ≡ factor (sizes_of y) t
  same_factor Em h = absurd (neither (is_length u) other h)
  same_factor Rem h = absurd (neither (is_length u) other h)
  same_factor Ex h = absurd (neither (is_length u) other h)
  same_factor Ch h = absurd (neither (is_length u) other h)
  same_factor Ic h = absurd (neither (is_length u) other h)
  same_factor Vw h = absurd (neither (is_length u) other h)
  same_factor Vh h = absurd (neither (is_length u) other h)
  same_factor Vmin h = absurd (neither (is_length u) other h)
  same_factor Vmax h = absurd (neither (is_length u) other h)
  same_factor t h = refl

  module _ (basis : x.basis ≡ y.basis) where
    same_number : (v : Ratio) (t : units.Unit) → is_of_type u t ≡ true → number_in x v t ≡ number_in y v t
    same_number v Percent h = ap (λ b. percent_in b v) basis
    same_number v t h = ap (λ f. tree.Num (mul v f) (canonical t)) (same_factor t h)

    numbers_agree : NumbersAgree (is_of_type u) x y
    numbers_agree = record { number = same_number; basis = basis }

pub contexts_are_ignored : ContextsAreIgnored
contexts_are_ignored = record {
  simple = λ u other x y basis c h. simple_alike (is_of_type u) x y (numbers_agree u other x y basis) c (units_are_of_type.of_tree u c h);
  in_range = λ u other x y basis c h. in_range_alike (is_of_type u) x y (numbers_agree u other x y basis) c (units_are_of_type.of_tree u c h);
}
