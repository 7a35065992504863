-- A declaration that may be kept and has no object is one of an ordinary property, without references, that is out of range as a value of
-- the property, in each context (CSS Typed OM 1, "Reification"; that numbers can be out of range is this project's own).
use Rattle.std.specs.Prelude.{◌≡◌, ℕ, false, List, Err, None}
use Rattle.cv_spec_text.specs.declared.token.Token.{Token}
use Rattle.cv_component.specs.Parts.{trim}
use Rattle.cv_var.specs.References.{has_var}
use Rattle.cv_calc.specs.declared.context.Context.{Context}
use Rattle.cv_numeric.specs.declared.matched.Matched.TheVariants.{Out}
use Rattle.cv_property.specs.declared.property.Property.{Property}
use Rattle.cv_property.specs.Grammar.{matching_property}
use Rattle.cv_value_laws.specs.Values.{is_keyword}
use Rattle.cv_valuation.specs.declared.key.Key.TheVariants.{Custom, Table}
use Rattle.cv_props.specs.declared.decls.Decl.{Decl}
use Rattle.cv_props.specs.Declaring.{MayDeclare}
use Rattle.cv_reify.specs.declared.error.ReifyErr.{ReifyErr}
use Rattle.cv_reify.specs.DeclaredStyle.{declared_style}

-- the list is a value of the property, with no reference and no CSS-wide keyword, that is out of range
pub record IsOut (p : Property) (ts : List Token) : Type 0 where
  pub no_var : has_var ts ≡ false
  pub no_keyword : is_keyword (trim ts) ≡ false
  pub out : (x : Context) → matching_property p x ts ≡ Out

pub record RangesAreOut : Type 0 where
  pub custom : (name : List ℕ) (d : Decl) (e : ReifyErr) → declared_style (Custom name) d ≡ Err e → ⊥
  pub ordinary : (p : Property) (d : Decl) (e : ReifyErr) → MayDeclare (Table p) d → declared_style (Table p) d ≡ Err e → IsOut p d.value
