-- Of which tokens texts of typed values are made (CSSOM, "Serializing CSS Values"). None of their functions is `var()`
-- (Cascading Variables 1, "Using Cascading Variables: the var() notation").
use Rattle.std.specs.Prelude.{◌≡◌, ℕ, Bool, true, false, List, codes}
use Rattle.std.specs.List.{list_all}
use Rattle.cv_spec_text.specs.declared.token.Token.{Token}
use Rattle.cv_spec_text.specs.declared.token.Token.TheVariants.{Function, Str, Ident}
use Rattle.cv_var.specs.References.{has_var}
use Rattle.cv_value.specs.declared.typed.Item.{Item}
use Rattle.cv_value.specs.declared.typed.Typed.{Typed}
use Rattle.cv_value.specs.Text.{item_text, typed_text}
use Rattle.cv_calc_laws.specs.Pieces.{TakesTexts}

-- the test takes the tokens of which texts are made: of functions, math functions, colours and urls alone
pub record TakesValues (takes : Token → Bool) : Type 0 where
  pub calculations : TakesTexts takes (λ u. true)
  pub rgb : takes (Function (codes "rgb")) ≡ true
  pub rgba : takes (Function (codes "rgba")) ≡ true
  pub url : takes (Function (codes "url")) ≡ true
  pub str : (text : List ℕ) → takes (Str text) ≡ true
  pub ident : (name : List ℕ) → takes (Ident name) ≡ true

-- such a test takes each token of the text of a value, so that no token begins a `var()`
pub record ValuesAreTaken : Type 0 where
  pub item : (takes : Token → Bool) → TakesValues takes → (i : Item) → list_all takes (item_text i) ≡ true
  pub typed : (takes : Token → Bool) → TakesValues takes → (v : Typed) → list_all takes (typed_text v) ≡ true
  pub no_var : (v : Typed) → has_var (typed_text v) ≡ false
