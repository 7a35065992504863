-- The syntax that a block says.
use Rattle.std.proofs.Common.{◌≡◌, true, List, [], ◌∷◌, Option, Some, None, Result, Ok, Err, refl, ap, ◌∙◌}
use Rattle.cv_spec_text.specs.declared.token.Token.{Token}
use Rattle.cv_spec_text.specs.declared.token.Token.TheVariants.{Str}
use Rattle.cv_component.specs.declared.items.Piece.{Piece}
use Rattle.cv_syntax.specs.declared.syntax.Syntax.{Syntax}
use Rattle.cv_syntax.specs.declared.syntax.SyntaxErr.{SyntaxErr}
use Rattle.cv_syntax.specs.Strings.{syntax}
use Rattle.cv_syntax.specs.Told.{has_no_keyword, SyntaxesHaveNoKeyword}
use Rattle.std.specs.Prelude.{codes}
use Rattle.cv_props.specs.Registration.{and_then, descriptor, first_or, last_said, right, said_syntax, syntax_in}

-- what holds of all that is said holds of what is said last
last_is : {A B : Type 0} (P : B → Type 0) (f : A → Option B) → ((x : A) (y : B) → f x ≡ Some y → P y) → (xs : List A) (y : B) → last_said f xs ≡ Some y → P y
last_is P f each [] y is = cc
last_is P f each (x ∷ xs) y is = by (last_said f xs) is (last_is P f each xs y)
  where
    by : (o : Option _) → first_or o (f x) ≡ Some y → (o ≡ Some y → P y) → P y
    by None is rest = each x y is
    by (Some z) is rest = rest is

module _ (law : SyntaxesHaveNoKeyword) where
  of_list : (value : List Token) (s : Syntax) → said_syntax value ≡ Some s → has_no_keyword s ≡ true
  of_list (Str text ∷ []) s is = by (syntax text) refl is
    where
      by : (r : Result Syntax SyntaxErr) → syntax text ≡ r → right r ≡ Some s → has_no_keyword s ≡ true
      by (Ok found) ok is = let same : found ≡ s = cc in law text s (ok ∙ ap Ok same)
      by (Err e) err is = cc
  of_list [] s is = cc
  of_list (_ ∷ rest) s is = cc

  of_piece : (piece : Piece) (s : Syntax) → syntax_in piece ≡ Some s → has_no_keyword s ≡ true
  of_piece piece s is = by (descriptor (codes "syntax") piece) is
    where
      by : (o : Option (List Token)) → and_then said_syntax o ≡ Some s → has_no_keyword s ≡ true
      by None is = cc
      by (Some value) is = of_list value s is

  -- no literal of it is a CSS-wide keyword
  pub of_block : (block : List Piece) (s : Syntax) → last_said syntax_in block ≡ Some s → has_no_keyword s ≡ true
  of_block block s is = last_is (λ s. has_no_keyword s ≡ true) syntax_in of_piece block s is
