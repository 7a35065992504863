-- Of which tokens texts of calculations are made (CSS Values and Units 4, "Serialization").
use Rattle.std.specs.Prelude.{◌≡◌, ℕ, Bool, true, List, codes}
use Rattle.std.specs.List.{list_all}
use Rattle.cv_spec_ratio.specs.Ratio.{Ratio}
use Rattle.cv_spec_text.specs.declared.token.Bracket.TheVariants.{Round}
use Rattle.cv_spec_text.specs.declared.token.Token.{Token}
use Rattle.cv_spec_text.specs.declared.token.Token.TheVariants.{White, Comma, Open, Close, Function, Delim, Number, Percentage, Dimension}
use Rattle.cv_calc.specs.declared.unit.Unit as units
use Rattle.cv_calc.specs.declared.calc.Calc.{Calc}
use Rattle.cv_calc.specs.Names.{unit_text}
use Rattle.cv_simplify.specs.Text.{number_alone, calc_text}
use Rattle.cv_calc_laws.specs.Units.{all_units}

-- the test takes the tokens of which texts are made: functions with the names of math functions alone, and dimensions of units that
-- pass alone
pub record TakesTexts (takes : Token → Bool) (test : units.Unit → Bool) : Type 0 where
  pub white : takes White ≡ true
  pub comma : takes Comma ≡ true
  pub open_bracket : takes (Open Round) ≡ true
  pub close_bracket : takes (Close Round) ≡ true
  pub calc : takes (Function (codes "calc")) ≡ true
  pub min : takes (Function (codes "min")) ≡ true
  pub max : takes (Function (codes "max")) ≡ true
  pub clamp : takes (Function (codes "clamp")) ≡ true
  pub delim : (c : ℕ) → takes (Delim c) ≡ true
  pub number : (spelling : List ℕ) → takes (Number spelling) ≡ true
  pub percentage : (spelling : List ℕ) → takes (Percentage spelling) ≡ true
  pub dimension : (spelling : List ℕ) (u : units.Unit) → test u ≡ true → takes (Dimension spelling (unit_text u)) ≡ true

-- such a test takes each token of the text of a calculation whose units pass
pub record TextsAreTaken : Type 0 where
  pub calculation : (takes : Token → Bool) (test : units.Unit → Bool) → TakesTexts takes test → (c : Calc) → all_units test c ≡ true → list_all takes (calc_text c) ≡ true
  pub number : (takes : Token → Bool) (test : units.Unit → Bool) → TakesTexts takes test → (v : Ratio) (u : units.Unit) → test u ≡ true → list_all takes (number_alone v u) ≡ true
  pub any_unit : (c : Calc) → all_units (λ u. true) c ≡ true
