-- Syntax strings by their grammar, without reading the text from the left (Properties and Values API 1, "Syntax Strings"): the text is a
-- concatenation of the parts of the grammar.
use Rattle.std.specs.Prelude.{◌≡◌, ◌⊎◌, ℕ, true, false, List, [], ◌∷◌, ◌++◌, Ok, Some}
use Rattle.std.specs.Char.{is_ascii_whitespace}
use Rattle.std.specs.List.{list_all}
use Rattle.cv_spec_text.specs.Characters.{number_sign, plus_sign, asterisk, less_than_sign, greater_than_sign, is_ident_code_point}
use Rattle.cv_syntax.specs.Words.{named, is_forbidden, begins_ident}
use Rattle.cv_syntax.specs.Strings.{vertical_line, syntax}
use Rattle.cv_syntax.specs.declared.syntax.Kind.{Kind}
use Rattle.cv_syntax.specs.declared.syntax.Kind.TheVariants.{Literal}
use Rattle.cv_syntax.specs.declared.syntax.Many.{Many}
use Rattle.cv_syntax.specs.declared.syntax.Many.TheVariants.{One, Spaces, Commas}
use Rattle.cv_syntax.specs.declared.syntax.Component.{Component}
use Rattle.cv_syntax.specs.declared.syntax.Syntax.{Syntax}
use Rattle.cv_syntax.specs.declared.syntax.Syntax.TheVariants.{Any, Of}

-- whitespace or nothing
abbrev pub IsBlank : List ℕ → Type 0
IsBlank text = list_all is_ascii_whitespace text ≡ true

-- a supported name in angle brackets ("Supported Names")
pub record IsName (k : Kind) (text : List ℕ) : Type 0 where
  pub name : List ℕ
  pub named_so : named name ≡ Some k
  pub whole : text ≡ less_than_sign ∷ (name ++ greater_than_sign ∷ [])

-- an ident without escapes, which is no CSS-wide keyword and not `default`
pub record IsIdent (text : List ℕ) : Type 0 where
  pub begins : begins_ident text ≡ true
  pub goes_on : list_all is_ident_code_point text ≡ true
  pub free : is_forbidden text ≡ false

abbrev pub IsKind : Kind → List ℕ → Type 0
IsKind k text = IsName k text ⊎ (k ≡ Literal text) × IsIdent text

-- `+`, `#` or nothing ("The '+' and '#' multipliers")
abbrev pub IsMultiplier : Many → List ℕ → Type 0
IsMultiplier One text = text ≡ []
IsMultiplier Spaces text = text ≡ plus_sign ∷ []
IsMultiplier Commas text = text ≡ number_sign ∷ []

pub record IsComponent (c : Component) (text : List ℕ) : Type 0 where
  pub front : List ℕ
  pub kind : List ℕ
  pub many : List ℕ
  pub back : List ℕ
  pub whole : text ≡ front ++ (kind ++ (many ++ back))
  pub blank_front : IsBlank front
  pub is_kind : IsKind c.kind kind
  pub is_many : IsMultiplier c.many many
  pub blank_back : IsBlank back

-- one component or more, with `|` between them ("The '|' combinator")
abbrev pub AreComponents : List Component → List ℕ → Type 0
AreComponents [] text = ⊥
AreComponents (c ∷ []) text = IsComponent c text
AreComponents (c ∷ d ∷ cs) text = (first : List ℕ) × (rest : List ℕ) × (text ≡ first ++ vertical_line ∷ rest) × IsComponent c first × AreComponents (d ∷ cs) rest

-- "The universal syntax definition"
pub record IsUniversal (text : List ℕ) : Type 0 where
  pub front : List ℕ
  pub back : List ℕ
  pub whole : text ≡ front ++ asterisk ∷ back
  pub blank_front : IsBlank front
  pub blank_back : IsBlank back

abbrev pub IsSyntaxString : Syntax → List ℕ → Type 0
IsSyntaxString Any text = IsUniversal text
IsSyntaxString (Of cs) text = AreComponents cs text

-- what a text says, its grammar says
pub record SyntaxStringsAreSaid : Type 0 where
  pub said : (text : List ℕ) (s : Syntax) → syntax text ≡ Ok s → IsSyntaxString s text
  pub only : (text : List ℕ) (s : Syntax) → IsSyntaxString s text → syntax text ≡ Ok s
