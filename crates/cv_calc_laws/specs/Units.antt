-- Whether each unit of a calculation, or of a list of tokens, passes a test (this project's own).
use Rattle.std.specs.Prelude.{◌≡◌, Bool, true, ◌&&◌, List, [], ◌∷◌, Option, Some, None, ◌⊎◌}
use Rattle.std.specs.List.{list_all}
use Rattle.cv_spec_text.specs.declared.token.Token.{Token}
use Rattle.cv_spec_text.specs.declared.token.Token.TheVariants.{Dimension}
use Rattle.cv_calc.specs.declared.unit.Unit as units
use Rattle.cv_calc.specs.declared.calc.Calc.{Calc}
use Rattle.cv_calc.specs.declared.calc.Calc.TheOpen.{Calc-F, Num, Sum, Product, Negate, Invert, Min, Max, Clamp}
use Rattle.cv_calc.specs.declared.calc.Calc.TheFolds.{fold-Calc}
use Rattle.cv_calc.specs.Names.{unit_with_name}

-- the unit of a token, where it is a dimension with the name of a unit
abbrev pub token_unit : Token → Option units.Unit
token_unit (Dimension n name) = unit_with_name name
token_unit t = None

-- a token of the list has the unit
abbrev pub HoldsUnit : List Token → units.Unit → Type 0
HoldsUnit [] u = ⊥
HoldsUnit (t ∷ ts) u = (token_unit t ≡ Some u) ⊎ HoldsUnit ts u

module _ (test : units.Unit → Bool) where
  abbrev pub units_step : Calc-F Bool → Bool
  units_step (Num v u) = test u
  units_step (Sum bs) = list_all (λ b. b) bs
  units_step (Product bs) = list_all (λ b. b) bs
  units_step (Negate b) = b
  units_step (Invert b) = b
  units_step (Min bs) = list_all (λ b. b) bs
  units_step (Max bs) = list_all (λ b. b) bs
  units_step (Clamp a b c) = a && b && c

  -- each unit of the calculation passes
  unfoldable pub all_units : Calc → Bool
  all_units = fold-Calc Bool units_step

  abbrev pub passes_if : Option units.Unit → Bool
  passes_if None = true
  passes_if (Some u) = test u

  -- the unit of the token passes, where it has one
  abbrev pub token_passes : Token → Bool
  token_passes t = passes_if (token_unit t)
