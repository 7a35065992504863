-- What the text of a matched value doesn't hold: a unit relative to a font, since lengths are absolute (Properties and Values API 1,
-- "Calculation of Computed Values"), or a CSS-wide keyword alone (CSS Values and Units 4, "CSS-wide keywords").
use Rattle.std.specs.Prelude.{◌≡◌, Bool, true, false, List, [], ◌∷◌}
use Rattle.cv_spec_text.specs.Keywords.{is_css_wide_keyword}
use Rattle.cv_spec_text.specs.declared.token.Token.{Token}
use Rattle.cv_spec_text.specs.declared.token.Token.TheVariants.{Ident}
use Rattle.cv_calc.specs.declared.context.Context.{Context}
use Rattle.cv_calc.specs.declared.calc.Calc.{Calc}
use Rattle.cv_numeric.specs.declared.matched.Matched.TheVariants.{Fit}
use Rattle.cv_numeric.specs.declared.quantity.Range.{Range}
use Rattle.cv_numeric.specs.Numeric.{length_percentage_in}
use Rattle.cv_value.specs.Items.{mixed_item}
use Rattle.cv_syntax.specs.declared.syntax.Syntax.{Syntax}
use Rattle.cv_syntax.specs.Told.{has_no_keyword}
use Rattle.cv_value.specs.declared.typed.Typed.{Typed}
use Rattle.cv_value.specs.Kept.{OfItems, IsCanonical, NoKeyword}
use Rattle.cv_value.specs.Matching.{matching}
use Rattle.cv_value.specs.Text.{typed_text}
use Rattle.cv_calc_laws.specs.Fonts.{holds_no_font_unit}

-- the list is one CSS-wide keyword
abbrev pub is_keyword : List Token → Bool
is_keyword (Ident name ∷ []) = is_css_wide_keyword name
is_keyword ts = false

-- the text of a matched value holds no font unit, and is no CSS-wide keyword where no literal of the syntax is one
pub record ValuesAreFree : Type 0 where
  pub no_font_unit : (root : Bool) (s : Syntax) (x : Context) (ts : List Token) (v : Typed) → matching s x ts ≡ Fit v → holds_no_font_unit root (typed_text v) ≡ true
  pub no_keyword : (s : Syntax) → has_no_keyword s ≡ true → (x : Context) (ts : List Token) (v : Typed) → matching s x ts ≡ Fit v → is_keyword (typed_text v) ≡ false

-- ---- values, whatever gave them

-- a matched value has such items, and the text of a value of such items holds no font unit, and is no CSS-wide keyword
pub record ItemsAreFree : Type 0 where
  pub are_canonical : (s : Syntax) (x : Context) (ts : List Token) (v : Typed) → matching s x ts ≡ Fit v → OfItems IsCanonical v
  pub are_no_keyword : (s : Syntax) → has_no_keyword s ≡ true → (x : Context) (ts : List Token) (v : Typed) → matching s x ts ≡ Fit v → OfItems NoKeyword v
  -- so is what a length or percentage within a range is, with any basis of percentages
  pub sizes_are_canonical : (r : Range) (x : Context) (ts : List Token) (c : Calc) → length_percentage_in r x ts ≡ Fit c → IsCanonical (mixed_item c)
  pub no_font_unit : (root : Bool) (v : Typed) → OfItems IsCanonical v → holds_no_font_unit root (typed_text v) ≡ true
  pub no_keyword : (v : Typed) → OfItems NoKeyword v → is_keyword (typed_text v) ≡ false
