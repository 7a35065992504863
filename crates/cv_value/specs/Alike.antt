-- Whether a list is no match doesn't depend on the context.
use Rattle.std.specs.Prelude.{List}
use Rattle.cv_spec_text.specs.declared.token.Token.{Token}
use Rattle.cv_calc.specs.declared.context.Context.{Context}
use Rattle.cv_numeric.specs.Matched.{IsAlike}
use Rattle.cv_syntax.specs.declared.syntax.Kind.{Kind}
use Rattle.cv_syntax.specs.declared.syntax.Component.{Component}
use Rattle.cv_syntax.specs.declared.syntax.Syntax.{Syntax}
use Rattle.cv_value.specs.Items.{item}
use Rattle.cv_value.specs.Matching.{component, matching}

pub record IsMismatchAlike : Type 0 where
  pub item_is : (k : Kind) (x y : Context) (ts : List Token) → IsAlike (item k x ts) (item k y ts)
  pub component_is : (c : Component) (x y : Context) (ts : List Token) → IsAlike (component x ts c) (component y ts c)
  pub matching_is : (s : Syntax) (x y : Context) (ts : List Token) → IsAlike (matching s x ts) (matching s y ts)
