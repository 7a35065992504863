-- What the fields of a fraction mean.
use Rattle.std.specs.Prelude.{◌≡◌, ◌<◌, ◌^◌, unsigned_abs}
use Rattle.std.proofs.Common.{ap}
use Rattle.cv_spec_ratio.specs.Gcd.{gcd}
use Rattle.cv_spec_ratio.specs.Ratio.{Ratio, ratio}
use Rattle.cv_spec_ratio.specs.Code.{ratio_self}
use Rattle.cv_frac.specs.declared.frac.Frac.TheInside.{Inside}

-- the fraction of the two numbers
abbrev pub frac_view : Inside → Ratio
frac_view f = ratio f.top f.bottom

-- the bottom is positive, both numbers are in bounds, and they have no common divisor
pub record IsFrac (f : Inside) : Type 0 where
  pub positive : 0 < f.bottom
  pub small_top : unsigned_abs f.top < 2 ^ 63
  pub small_bottom : f.bottom < 2 ^ 63
  pub lowest : gcd (unsigned_abs f.top) f.bottom ≡ 1

abbrev pub frac_inverse : Ratio → Inside
frac_inverse r = record { top = r.top; bottom = r.bottom }

-- the fields are the fraction's numbers
pub view-top : (f : Inside) → IsFrac f → (frac_view f).top ≡ f.top
view-top f h = let r : Ratio = record { top = f.top; bottom = f.bottom; positive = h.positive; lowest = h.lowest } in ap (λ (s : Ratio). s.top) (ratio_self r)

pub view-bottom : (f : Inside) → IsFrac f → (frac_view f).bottom ≡ f.bottom
view-bottom f h = let r : Ratio = record { top = f.top; bottom = f.bottom; positive = h.positive; lowest = h.lowest } in ap (λ (s : Ratio). s.bottom) (ratio_self r)

pub frac_inverse_ok : (f : Inside) → IsFrac f → frac_inverse (frac_view f) ≡ f
frac_inverse_ok f h = λ i. record { top = view-top f h i; bottom = view-bottom f h i }
