-- What is told of a syntax by its components.
use Rattle.std.specs.Prelude.{◌≡◌, ℕ, Bool, true, false, not, List, Ok}
use Rattle.std.specs.List.{list_all}
use Rattle.cv_spec_text.specs.Keywords.{is_css_wide_keyword}
use Rattle.cv_syntax.specs.declared.syntax.Kind.{Kind}
use Rattle.cv_syntax.specs.declared.syntax.Kind.TheVariants.{Length, LengthPercentage, Literal}
use Rattle.cv_syntax.specs.declared.syntax.Component.{Component}
use Rattle.cv_syntax.specs.declared.syntax.Syntax.{Syntax}
use Rattle.cv_syntax.specs.declared.syntax.Syntax.TheVariants.{Any, Of}
use Rattle.cv_syntax.specs.Strings.{syntax}

-- no item of the kind is a length, and no component of the syntax has lengths (Properties and Values API 1, "Supported Names")
abbrev pub is_no_length : Kind → Bool
is_no_length Length = false
is_no_length LengthPercentage = false
is_no_length k = true

abbrev pub has_no_length : Syntax → Bool
has_no_length Any = true
has_no_length (Of cs) = list_all (λ (c : Component). is_no_length c.kind) cs

-- no literal of the syntax is a CSS-wide keyword (Properties and Values API 1, "Syntax Strings")
abbrev pub is_no_keyword : Kind → Bool
is_no_keyword (Literal word) = not (is_css_wide_keyword word)
is_no_keyword k = true

abbrev pub has_no_keyword : Syntax → Bool
has_no_keyword Any = true
has_no_keyword (Of cs) = list_all (λ (c : Component). is_no_keyword c.kind) cs

-- no literal of a syntax that a syntax string says is a CSS-wide keyword
abbrev pub SyntaxesHaveNoKeyword : Type 0
SyntaxesHaveNoKeyword = (text : List ℕ) (s : Syntax) → syntax text ≡ Ok s → has_no_keyword s ≡ true
