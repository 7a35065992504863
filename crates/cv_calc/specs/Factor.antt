-- What one of a unit is in its canonical unit (CSS Values and Units 4, "Relative Lengths", "Absolute Lengths", "Angle Units", "Duration
-- Units", "Frequency Units", "Resolution Units"). Half an em stands for `ex` and `ch`, and an em for `ic`, as it says where no font
-- is at hand.
use Rattle.std.specs.Prelude.{pos, Result, Ok, Err}
use Rattle.cv_spec_ratio.specs.Order.{lesser, greater}
use Rattle.cv_spec_ratio.specs.Ratio.{Ratio, ratio, mul, one_ratio}
use Rattle.cv_frac.specs.declared.error.FracErr.{FracErr}
use Rattle.cv_frac.specs.Bounded.{bounded}
use Rattle.cv_calc.specs.declared.context.Context.{Context}
use Rattle.cv_calc.specs.declared.unit.Unit.{Unit}
use Rattle.cv_calc.specs.declared.unit.Unit.TheVariants.{Number, Percent, Px, Cm, Mm, Q, Inch, Pt, Pc, Em, Rem, Ex, Ch, Ic, Vw, Vh, Vmin, Vmax, Deg, Grad, Turn, S, Ms, Hz, Khz, Dppx, X, Dpi, Dpcm, Fr}

-- the lengths in px of which the relative units of length are parts: the fonts' sizes, and the sizes of the viewport
pub record Sizes : Type 0 where
  pub em : Ratio
  pub rem : Ratio
  pub width : Ratio
  pub height : Ratio

abbrev pub canonical : Unit → Unit
canonical Number = Number
canonical Percent = Percent
canonical Deg = Deg
canonical Grad = Deg
canonical Turn = Deg
canonical S = S
canonical Ms = S
canonical Hz = Hz
canonical Khz = Hz
canonical Dppx = Dppx
canonical X = Dppx
canonical Dpi = Dppx
canonical Dpcm = Dppx
canonical Fr = Fr
canonical Px = Px
canonical Cm = Px
canonical Mm = Px
canonical Q = Px
canonical Inch = Px
canonical Pt = Px
canonical Pc = Px
canonical Em = Px
canonical Rem = Px
canonical Ex = Px
canonical Ch = Px
canonical Ic = Px
canonical Vw = Px
canonical Vh = Px
canonical Vmin = Px
canonical Vmax = Px

-- one hundredth, and one half
abbrev pub hundredth : Ratio
hundredth = ratio (pos 1) 100

abbrev pub half : Ratio
half = ratio (pos 1) 2

abbrev pub factor : Sizes → Unit → Ratio
factor s Cm = ratio (pos 4800) 127
factor s Mm = ratio (pos 480) 127
factor s Q = ratio (pos 120) 127
factor s Inch = ratio (pos 96) 1
factor s Pt = ratio (pos 4) 3
factor s Pc = ratio (pos 16) 1
factor s Em = s.em
factor s Rem = s.rem
factor s Ex = mul s.em half
factor s Ch = mul s.em half
factor s Ic = s.em
factor s Vw = mul s.width hundredth
factor s Vh = mul s.height hundredth
factor s Vmin = mul (lesser s.width s.height) hundredth
factor s Vmax = mul (greater s.width s.height) hundredth
factor s Grad = ratio (pos 9) 10
factor s Turn = ratio (pos 360) 1
factor s Ms = ratio (pos 1) 1000
factor s Khz = ratio (pos 1000) 1
factor s Dpi = ratio (pos 1) 96
factor s Dpcm = ratio (pos 127) 4800
factor s Number = one_ratio
factor s Percent = one_ratio
factor s Px = one_ratio
factor s Deg = one_ratio
factor s S = one_ratio
factor s Hz = one_ratio
factor s Dppx = one_ratio
factor s X = one_ratio
factor s Fr = one_ratio

-- a viewport's sizes, and the lengths of the fonts
abbrev pub sizes_of : Context → Sizes
sizes_of x = record {
  em = x.em;
  rem = x.rem;
  width = ratio (pos x.width) 1;
  height = ratio (pos x.height) 1;
}

abbrev pub with_unit : Unit → Result Ratio FracErr → Result (Ratio × Unit) FracErr
with_unit u (Ok v) = Ok (v, u)
with_unit u (Err e) = Err e

-- a number of a unit in its canonical unit
abbrev pub canonical_of : Context → Ratio → Unit → Result (Ratio × Unit) FracErr
canonical_of x v u = with_unit (canonical u) (bounded (mul v (factor (sizes_of x) u)))
