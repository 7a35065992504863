-- Units that are relative to the font of an element, and what calculations without them are alike in (CSS Values and Units 4,
-- "Font-relative Lengths"; that contexts are compared is this project's own).
use Rattle.std.specs.Prelude.{◌≡◌, ℕ, Bool, true, false, not, List, Ok, Some}
use Rattle.std.specs.List.{list_all}
use Rattle.cv_spec_ratio.specs.Ratio.{Ratio}
use Rattle.cv_spec_text.specs.declared.token.Token.{Token}
use Rattle.cv_spec_text.specs.declared.token.Token.TheVariants.{Ident}
use Rattle.cv_calc.specs.declared.unit.Unit as units
use Rattle.cv_calc.specs.declared.unit.Unit.TheVariants.{Number, Percent, Px, Cm, Mm, Q, Inch, Pt, Pc, Em, Rem, Ex, Ch, Ic, Vw, Vh, Vmin, Vmax, Deg, Grad, Turn, S, Ms, Hz, Khz, Dppx, X, Dpi, Dpcm, Fr}
use Rattle.cv_calc.specs.declared.context.Context.{Context}
use Rattle.cv_calc.specs.declared.calc.Calc.{Calc}
use Rattle.cv_calc.specs.declared.calc.Calc.TheVariants.{Num}
use Rattle.cv_calcread.specs.Answer.{answer}
use Rattle.cv_calcread.specs.Reading.{read}
use Rattle.cv_simplify.specs.Canonical.{is_canonical, holds_canonical}
use Rattle.cv_simplify.specs.Counted.{is_in_range}
use Rattle.cv_simplify.specs.Simplified.{simp}
use Rattle.cv_simplify.specs.Text.{number_alone, calc_text}
use Rattle.cv_calc_laws.specs.Units.{HoldsUnit, all_units, token_passes}

-- the unit is relative to the font of the element itself; on the root, which the first argument tells, `rem` is one
abbrev pub is_font_unit : Bool → units.Unit → Bool
is_font_unit root Em = true
is_font_unit root Ex = true
is_font_unit root Ch = true
is_font_unit root Ic = true
is_font_unit root Rem = root
is_font_unit root Number = false
is_font_unit root Percent = false
is_font_unit root Px = false
is_font_unit root Cm = false
is_font_unit root Mm = false
is_font_unit root Q = false
is_font_unit root Inch = false
is_font_unit root Pt = false
is_font_unit root Pc = false
is_font_unit root Vw = false
is_font_unit root Vh = false
is_font_unit root Vmin = false
is_font_unit root Vmax = false
is_font_unit root Deg = false
is_font_unit root Grad = false
is_font_unit root Turn = false
is_font_unit root S = false
is_font_unit root Ms = false
is_font_unit root Hz = false
is_font_unit root Khz = false
is_font_unit root Dppx = false
is_font_unit root X = false
is_font_unit root Dpi = false
is_font_unit root Dpcm = false
is_font_unit root Fr = false

abbrev pub is_other_unit : Bool → units.Unit → Bool
is_other_unit root u = not (is_font_unit root u)

-- no number of the calculation, and no dimension of the list, has a font unit
abbrev pub has_no_font_unit : Bool → Calc → Bool
has_no_font_unit root = all_units (is_other_unit root)

abbrev pub holds_no_font_unit : Bool → List Token → Bool
holds_no_font_unit root ts = list_all (token_passes (is_other_unit root)) ts

-- the test of a list tells whether a token of it has a font unit
pub record FontUnitsAreTold : Type 0 where
  pub none : (root : Bool) (ts : List Token) → holds_no_font_unit root ts ≡ true → (u : units.Unit) → is_font_unit root u ≡ true → HoldsUnit ts u → ⊥
  pub absent : (root : Bool) (ts : List Token) → ((u : units.Unit) → is_font_unit root u ≡ true → HoldsUnit ts u → ⊥) → holds_no_font_unit root ts ≡ true

-- the contexts differ in what font units stand for, and in nothing else
pub record DifferInFonts (root : Bool) (x y : Context) : Type 0 where
  pub rem : root ≡ false → x.rem ≡ y.rem
  pub width : x.width ≡ y.width
  pub height : x.height ≡ y.height
  pub basis : x.basis ≡ y.basis

-- a number of another unit has no font unit, and what is read of a list without them has none
pub record UnitsAreRead : Type 0 where
  pub of_number : (root : Bool) (v : Ratio) (u : units.Unit) → is_font_unit root u ≡ false → has_no_font_unit root (Num v u) ≡ true
  pub of_tree : (root : Bool) (number : List ℕ → Ratio) (tokens : List Token) (c : Calc) → holds_no_font_unit root tokens ≡ true → read number tokens ≡ Some c → has_no_font_unit root c ≡ true
  pub of_answer : (root : Bool) (tokens : List Token) (c : Calc) → holds_no_font_unit root tokens ≡ true → answer tokens ≡ Ok c → has_no_font_unit root c ≡ true

-- a calculation without font units is simplified alike, and is in range alike
pub record SimplifiesAlike : Type 0 where
  pub simple : (root : Bool) (x y : Context) → DifferInFonts root x y → (c : Calc) → has_no_font_unit root c ≡ true → simp x c ≡ simp y c
  pub in_range : (root : Bool) (x y : Context) → DifferInFonts root x y → (c : Calc) → has_no_font_unit root c ≡ true → is_in_range x c ≡ is_in_range y c

-- ---- texts

abbrev pub is_no_ident : Token → Bool
is_no_ident (Ident name) = false
is_no_ident t = true

-- the text of a calculation in canonical units, as a simplified one is, and that of a number in one, holds no font unit; no text holds
-- an ident
pub record TextsAreFree : Type 0 where
  pub canonical : (root : Bool) (c : Calc) → holds_canonical c ≡ true → holds_no_font_unit root (calc_text c) ≡ true
  pub simplified : (root : Bool) (x : Context) (c : Calc) → holds_no_font_unit root (calc_text (simp x c)) ≡ true
  pub number : (root : Bool) (v : Ratio) (u : units.Unit) → is_canonical u ≡ true → holds_no_font_unit root (number_alone v u) ≡ true
  pub no_ident : (c : Calc) → list_all is_no_ident (calc_text c) ≡ true
  pub number_no_ident : (v : Ratio) (u : units.Unit) → list_all is_no_ident (number_alone v u) ≡ true
