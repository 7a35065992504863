-- A fraction that is refused is out of bounds, and one that is given is in bounds.
use Rattle.std.specs.Prelude.{Bool, true, false, Result, Ok, Err, if◌then◌else◌}
use Rattle.std.proofs.Common.{◌≡◌, refl, sym, ◌∙◌, ap}
use Rattle.cv_spec_ratio.specs.Ratio.{Ratio}
use Rattle.cv_frac.specs.declared.error.FracErr.{FracErr}
use Rattle.cv_frac.specs.declared.error.FracErr.TheVariants.{Range}
use Rattle.cv_frac.specs.Bounded.{bounded, in_bounds}
use Rattle.cv_calc.specs.Numbers.{figure_of, inside, outside}

pub given_inside : (r v : Ratio) → Ok v ≡ bounded r → inside v ≡ figure_of r
given_inside r v e = go (in_bounds r) refl e
  where
    go : (b : Bool) → in_bounds r ≡ b → Ok v ≡ (if b then Ok r else Err Range) → inside v ≡ figure_of r
    go true h k = ap inside (same k) ∙ sym (rw h refl)
      where
        same : ◌≡◌ {A = Result Ratio FracErr} (Ok v) (Ok r) → v ≡ r
        same k = cc
    go false h k = cc

pub refused_outside : (r v : Ratio) (e : FracErr) → Err e ≡ bounded r → v ≡ r → outside v ≡ figure_of r
refused_outside r v e h k = go (in_bounds r) refl h
  where
    go : (b : Bool) → in_bounds r ≡ b → Err e ≡ (if b then Ok r else Err Range) → outside v ≡ figure_of r
    go true f g = cc
    go false f g = ap outside k ∙ sym (rw f refl)

pub ruleset bounds = (given_inside, refused_outside)
