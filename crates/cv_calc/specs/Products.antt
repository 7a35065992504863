-- The type of a product in one pass over its children: what it is under each hint, of which one is chosen at the end.
use Rattle.std.specs.Prelude.{true, false, ◌&&◌, ◌||◌, not, Option, Some, None}
use Rattle.cv_calc.specs.declared.unit.NumType.{NumType}
use Rattle.cv_calc.specs.declared.unit.Base.{Base}
use Rattle.cv_calc.specs.declared.unit.Base.TheVariants.{Length, Angle, Time, Frequency, Resolution, Flex}
use Rattle.cv_calc.specs.declared.shape.Shape.{Shape}
use Rattle.cv_calc.specs.declared.product.Hinted.{Hinted}
use Rattle.cv_calc.specs.declared.product.Factors.{Factors}
use Rattle.cv_calc.specs.Types.{no_powers, multiplied_next, shared_next}
use Rattle.cv_calc.specs.Linear.{is_measured}

abbrev pub no_factor : Hinted
no_factor = record {
  plain = Some (no_powers None);
  length = Some (no_powers (Some Length));
  angle = Some (no_powers (Some Angle));
  time = Some (no_powers (Some Time));
  frequency = Some (no_powers (Some Frequency));
  resolution = Some (no_powers (Some Resolution));
  flex = Some (no_powers (Some Flex));
}

-- one more child
abbrev pub with_factor : Hinted → Option NumType → Hinted
with_factor p t = record {
  plain = multiplied_next None p.plain t;
  length = multiplied_next (Some Length) p.length t;
  angle = multiplied_next (Some Angle) p.angle t;
  time = multiplied_next (Some Time) p.time t;
  frequency = multiplied_next (Some Frequency) p.frequency t;
  resolution = multiplied_next (Some Resolution) p.resolution t;
  flex = multiplied_next (Some Flex) p.flex t;
}

-- the type under the children's hint, where they have one or none
abbrev pub chosen : Hinted → Option (Option Base) → Option NumType
chosen p None = None
chosen p (Some None) = p.plain
chosen p (Some (Some Length)) = p.length
chosen p (Some (Some Angle)) = p.angle
chosen p (Some (Some Time)) = p.time
chosen p (Some (Some Frequency)) = p.frequency
chosen p (Some (Some Resolution)) = p.resolution
chosen p (Some (Some Flex)) = p.flex

-- ---- with what is asked of a linear product

abbrev pub no_factors : Factors
no_factors = record { kinds = no_factor; hint = Some None; fits = true; numbers = true; measured = false }

abbrev pub with_child : Factors → Shape → Factors
with_child f s = record {
  kinds = with_factor f.kinds s.kind;
  hint = shared_next f.hint s.kind;
  fits = f.fits && s.fits && not (f.measured && is_measured s);
  numbers = f.numbers && s.numbers;
  measured = f.measured || is_measured s;
}

abbrev pub factors_shape : Factors → Shape
factors_shape f = record { kind = chosen f.kinds f.hint; fits = f.fits; numbers = f.numbers }
