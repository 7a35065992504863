-- Component values (CSS Syntax 3, "Parsing", "Consume a component value"), and those that can be entries of a list.
use Rattle.std.specs.Prelude.{◌≡◌, false, List, [], ◌∷◌, Some, None}
use Rattle.cv_spec_text.specs.declared.token.Bracket.{Bracket}
use Rattle.cv_spec_text.specs.declared.token.Token.{Token}
use Rattle.cv_component.specs.Nesting.{opened}
use Rattle.cv_component.specs.TopLevel.{begins}
use Rattle.cv_component.specs.Balance.{IsBlock}
use Rattle.cv_component.specs.Parts.{is_white, is_comma}

-- one token that opens no bracket, or a block or function up to its closing bracket
pub data IsComponentValue : List Token → Type 0 where
  preserved : (token : Token) → opened token ≡ None → IsComponentValue (token ∷ [])
  block : (bracket : Bracket) (token : Token) (inside : List Token) → opened token ≡ Some bracket → IsBlock bracket inside → IsComponentValue (token ∷ inside)

-- it is neither whitespace nor a comma
pub record IsEntry (ts : List Token) : Type 0 where
  pub value : IsComponentValue ts
  pub not_white : begins is_white ts ≡ false
  pub not_comma : begins is_comma ts ≡ false
