-- Whether a token of a list has a font unit.
use Rattle.std.specs.Prelude.{Bool, true, false, not, List, [], ◌∷◌, Option, Some, None}
use Rattle.std.proofs.Common.{inl, inr, ◌≡◌, refl, sym, ◌∙◌, ap}
use Rattle.cv_spec_text.specs.declared.token.Token.{Token}
use Rattle.cv_calc.specs.declared.unit.Unit as units
use Rattle.cv_calc_laws.specs.Fonts.{is_font_unit, is_other_unit, holds_no_font_unit, FontUnitsAreTold}
use Rattle.cv_calc_laws.specs.Units.{token_unit, HoldsUnit, passes_if, token_passes}
use Rattle.cv_calc_laws.proofs.Lists.{false_true, and_both, both_are}

module _ (root : Bool) where
  none : (ts : List Token) → holds_no_font_unit root ts ≡ true → (u : units.Unit) → is_font_unit root u ≡ true → HoldsUnit ts u → ⊥
  none [] h u font has = has
  none (t ∷ ts) h u font (inl is) =
      let first : token_passes (is_other_unit root) t ≡ true = (and_both (token_passes (is_other_unit root) t) (holds_no_font_unit root ts) h).0 in
      false_true (sym (ap not font) ∙ ap (passes_if (is_other_unit root)) (sym is) ∙ first)
  none (t ∷ ts) h u font (inr has) = none ts (and_both (token_passes (is_other_unit root) t) (holds_no_font_unit root ts) h).1 u font has

  other : (u : units.Unit) (b : Bool) → is_font_unit root u ≡ b → (is_font_unit root u ≡ true → ⊥) → is_other_unit root u ≡ true
  other u true font h = absurd (h font)
  other u false font h = ap not font

  token_other : (o : Option units.Unit) → ((u : units.Unit) → is_font_unit root u ≡ true → o ≡ Some u → ⊥) → passes_if (is_other_unit root) o ≡ true
  token_other None h = refl
  token_other (Some u) h = other u (is_font_unit root u) refl (λ font. h u font refl)

  absent : (ts : List Token) → ((u : units.Unit) → is_font_unit root u ≡ true → HoldsUnit ts u → ⊥) → holds_no_font_unit root ts ≡ true
  absent [] h = refl
  absent (t ∷ ts) h =
      both_are (token_passes (is_other_unit root) t) (holds_no_font_unit root ts)
      (token_other (token_unit t) (λ u font is. h u font (inl is))) (absent ts (λ u font has. h u font (inr has)))

pub font_units_are_told : FontUnitsAreTold
font_units_are_told = record { none = none; absent = absent }
