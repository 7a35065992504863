-- Texts of calculations hold no ident, and those in canonical units no font unit.
use Rattle.std.specs.Prelude.{Bool, true, ◌&&◌, List, [], ◌∷◌}
use Rattle.std.specs.List.{list_all}
use Rattle.std.proofs.Common.{◌≡◌, refl, sym, ◌∙◌, ap}
use Rattle.cv_calc.specs.declared.unit.Unit as units
use Rattle.cv_calc.specs.declared.unit.Unit.TheVariants.{Em, Rem, Ex, Ch, Ic}
use Rattle.cv_calc.specs.declared.calc.Calc.{Calc}
use Rattle.cv_calc.specs.Names.{named}
use Rattle.cv_calc.proofs.Units.{name_back}
use Rattle.cv_simplify.specs.Canonical.{is_canonical, all_canonical, canonical_step, holds_canonical}
use Rattle.cv_simplify.specs.Simplified.{simp}
use Rattle.cv_simplify.specs.Text.{calc_text}
use Rattle.cv_simplify.proofs.Canonical.{simp_canonical}
use Rattle.cv_calc_laws.specs.Fonts.{is_other_unit, is_no_ident, holds_no_font_unit, TextsAreFree}
use Rattle.cv_calc_laws.specs.Pieces.{TakesTexts}
use Rattle.cv_calc_laws.specs.Units.{units_step, all_units, passes_if, token_passes}
use Rattle.cv_calc_laws.proofs.Folding.{StepsAgree, folds_alike}
use Rattle.cv_calc_laws.proofs.Lists.{false_true}
use Rattle.cv_calc_laws.proofs.Taken.{any, holds_any, texts_are_taken}

-- ---- canonical units

same_all : (bs : List Bool) → all_canonical bs ≡ list_all (λ b. b) bs
same_all [] = refl
same_all (b ∷ bs) = ap (λ d. b && d) (same_all bs)

canonical_steps : StepsAgree any canonical_step (units_step is_canonical)
canonical_steps = record {
  num = λ v u h. refl;
  sum = λ bs. same_all bs;
  product = λ bs. same_all bs;
  negate = λ b. refl;
  invert = λ b. refl;
  min = λ bs. same_all bs;
  max = λ bs. same_all bs;
  clamp = λ a b c. refl;
}

canonical_units : (c : Calc) → holds_canonical c ≡ all_units is_canonical c
unfolding holds_canonical all_units
canonical_units c = folds_alike any canonical_step (units_step is_canonical) canonical_steps c (holds_any c)

-- ---- the texts

canonical_passes : (root : Bool) (u : units.Unit) → is_canonical u ≡ true → passes_if (is_other_unit root) (named u) ≡ true
canonical_passes root Em h = absurd (false_true h)
canonical_passes root Rem h = absurd (false_true h)
canonical_passes root Ex h = absurd (false_true h)
canonical_passes root Ch h = absurd (false_true h)
canonical_passes root Ic h = absurd (false_true h)
canonical_passes root u h = refl

takes_canonical : (root : Bool) → TakesTexts (token_passes (is_other_unit root)) is_canonical
takes_canonical root = record {
  white = refl;
  comma = refl;
  open_bracket = refl;
  close_bracket = refl;
  calc = refl;
  min = refl;
  max = refl;
  clamp = refl;
  delim = λ c. refl;
  number = λ spelling. refl;
  percentage = λ spelling. refl;
  dimension = λ spelling u h. ap (passes_if (is_other_unit root)) (name_back u) ∙ canonical_passes root u h;
}

takes_any : TakesTexts is_no_ident any
takes_any = record {
  white = refl;
  comma = refl;
  open_bracket = refl;
  close_bracket = refl;
  calc = refl;
  min = refl;
  max = refl;
  clamp = refl;
  delim = λ c. refl;
  number = λ spelling. refl;
  percentage = λ spelling. refl;
  dimension = λ spelling u h. refl;
}

canonical_free : (root : Bool) (c : Calc) → holds_canonical c ≡ true → holds_no_font_unit root (calc_text c) ≡ true
canonical_free root c h = texts_are_taken.calculation (token_passes (is_other_unit root)) is_canonical (takes_canonical root) c (sym (canonical_units c) ∙ h)

pub texts_are_free : TextsAreFree
texts_are_free = record {
  canonical = canonical_free;
  simplified = λ root x c. canonical_free root (simp x c) (simp_canonical x c);
  number = λ root v u h. texts_are_taken.number (token_passes (is_other_unit root)) is_canonical (takes_canonical root) v u h;
  number_no_ident = λ v u. texts_are_taken.number is_no_ident any takes_any v u refl;
  no_ident = λ c. texts_are_taken.calculation is_no_ident any takes_any c (holds_any c);
}
