-- Declarations as an element has them (Cascading Variables 1, "Custom Property Value Syntax" and "Using Cascading Variables").
use Rattle.std.specs.Prelude.{◌≡◌, true, All, Some}
use Rattle.cv_spec_text.specs.Splits.{IsSpelt}
use Rattle.cv_var.specs.Checked.{IsChecked}
use Rattle.cv_valuation.specs.declared.key.Key.{Key}
use Rattle.cv_valuation.specs.Keys.{is_key}
use Rattle.cv_props.specs.declared.decls.Decl.{Decl}
use Rattle.cv_props.specs.Winners.{Declarations, declaration_of}

-- the key is a custom name or an ordinary property, and the value a checked list of tokens of texts
pub record IsDeclared (key : Key) (declaration : Decl) : Type 0 where
  pub key_is : is_key key ≡ true
  pub checked : IsChecked declaration.value
  pub spelt : All IsSpelt declaration.value

-- each declaration is such a one
abbrev pub AreDeclared : Declarations → Type 0
AreDeclared decls = (key : Key) (declaration : Decl) → declaration_of decls key ≡ Some declaration → IsDeclared key declaration
