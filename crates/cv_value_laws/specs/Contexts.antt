-- What of matching doesn't depend on a context (this project's own; which units are relative to a font: CSS Values and Units 4,
-- "Font-relative Lengths").
use Rattle.std.specs.Prelude.{◌≡◌, Bool, true, List}
use Rattle.cv_spec_text.specs.declared.token.Token.{Token}
use Rattle.cv_calc.specs.declared.context.Context.{Context}
use Rattle.cv_numeric.specs.declared.matched.Matched.{Matched}
use Rattle.cv_numeric.specs.declared.quantity.Range.{Range}
use Rattle.cv_numeric.specs.Numeric.{number, percentage, angle, time, resolution, length, length_percentage, integer}
use Rattle.cv_syntax.specs.declared.syntax.Kind.{Kind}
use Rattle.cv_syntax.specs.declared.syntax.Component.{Component}
use Rattle.cv_syntax.specs.declared.syntax.Syntax.{Syntax}
use Rattle.cv_syntax.specs.Told.{is_no_length, has_no_length}
use Rattle.cv_value.specs.Items.{item}
use Rattle.cv_value.specs.Matching.{component, matching}
use Rattle.cv_calc_laws.specs.Fonts.{holds_no_font_unit, DifferInFonts}

-- a list without font units is read alike in contexts that differ in what font units stand for alone
abbrev pub ReadsAlike : {A : Type 0} → (Context → List Token → Matched A) → Type 0
ReadsAlike f = (root : Bool) (x y : Context) → DifferInFonts root x y → (ts : List Token) → holds_no_font_unit root ts ≡ true → f x ts ≡ f y ts

pub record NumbersReadAlike : Type 0 where
  pub number_is : (r : Range) → ReadsAlike (number r)
  pub percentage_is : ReadsAlike percentage
  pub angle_is : ReadsAlike angle
  pub time_is : ReadsAlike time
  pub resolution_is : ReadsAlike resolution
  pub length_is : ReadsAlike length
  pub length_percentage_is : (r : Range) → ReadsAlike (length_percentage r)
  pub integer_is : ReadsAlike integer

-- ---- typed values

pub record MatchesAlike : Type 0 where
  pub item_is : (k : Kind) → ReadsAlike (item k)
  pub component_is : (c : Component) → ReadsAlike (λ x ts. component x ts c)
  pub matching_is : (s : Syntax) → ReadsAlike (matching s)

-- ---- without lengths

-- each list, whatever units it holds, is read alike in every two contexts
abbrev pub IgnoresContext : {A : Type 0} → (Context → List Token → Matched A) → Type 0
IgnoresContext f = (x y : Context) (ts : List Token) → f x ts ≡ f y ts

pub record NumbersIgnoreContexts : Type 0 where
  pub number_is : (r : Range) → IgnoresContext (number r)
  pub percentage_is : IgnoresContext percentage
  pub angle_is : IgnoresContext angle
  pub time_is : IgnoresContext time
  pub resolution_is : IgnoresContext resolution
  pub integer_is : IgnoresContext integer

pub record MatchesIgnoreContexts : Type 0 where
  pub item_is : (k : Kind) → is_no_length k ≡ true → IgnoresContext (item k)
  pub component_is : (c : Component) → is_no_length c.kind ≡ true → IgnoresContext (λ x ts. component x ts c)
  pub matching_is : (s : Syntax) → has_no_length s ≡ true → IgnoresContext (matching s)
