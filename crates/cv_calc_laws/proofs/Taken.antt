-- The tests of tokens that take the texts of calculations.
use Rattle.std.specs.Prelude.{Bool, true, ◌&&◌, List, [], ◌∷◌, map}
use Rattle.std.specs.List.{list_all}
use Rattle.std.proofs.Common.{◌≡◌, refl, ◌∙◌}
use Rattle.cv_calc.specs.declared.unit.Unit as units
use Rattle.cv_calc.specs.declared.calc.Calc.{Calc}
use Rattle.cv_calc.specs.Tree.{Each, by_cases}
use Rattle.cv_calc_laws.specs.Pieces.{TextsAreTaken}
use Rattle.cv_calc_laws.specs.Units.{all_units}
use Rattle.cv_calc_laws.proofs.Folding.{all-Num, all-Sum, all-Product, all-Negate, all-Invert, all-Min, all-Max, all-Clamp}
use Rattle.cv_calc_laws.proofs.Lists.{both_are}
use Rattle.cv_calc_laws.proofs.Written.{alone_fine, text_fine}

-- each unit passes
abbrev pub any : units.Unit → Bool
any u = true

abbrev HoldsAny : Calc → Type 0
HoldsAny c = all_units any c ≡ true

each_any : (cs : List Calc) → Each HoldsAny cs → list_all (λ b. b) (map (all_units any) cs) ≡ true
each_any [] h = refl
each_any (c ∷ cs) h = both_are (all_units any c) (list_all (λ b. b) (map (all_units any) cs)) h.0 (each_any cs h.1)

pub holds_any : (c : Calc) → HoldsAny c
holds_any = by_cases HoldsAny record {
  num = λ v u. all-Num any v u;
  sum = λ cs h. all-Sum any cs ∙ each_any cs h;
  product = λ cs h. all-Product any cs ∙ each_any cs h;
  negate = λ c h. all-Negate any c ∙ h;
  invert = λ c h. all-Invert any c ∙ h;
  min = λ cs h. all-Min any cs ∙ each_any cs h;
  max = λ cs h. all-Max any cs ∙ each_any cs h;
  clamp = λ a b c h k l. all-Clamp any a b c ∙ both_are (all_units any a && all_units any b) (all_units any c) (both_are (all_units any a) (all_units any b) h k) l;
}

pub texts_are_taken : TextsAreTaken
texts_are_taken = record { calculation = text_fine; number = alone_fine; any_unit = holds_any }
