-- Syntax strings, or their first fault with its place, counted in code points (Properties and Values API 1, "Syntax Strings"). That a
-- fault has a place, and which of several counts, is this project's own: the standard says only that the string is invalid.
use Rattle.std.specs.Prelude.{◌≡◌, ◌<◌, ℕ, ◌+◌, Bool, not, ◌==◌, ◌&&◌, nat_lt, List, [], ◌∷◌, length, take, drop, Result, Ok, Err, Option, Some, None, if◌then◌else◌}
use Rattle.std.specs.List.{prefix_len}
use Rattle.std.specs.Char.{is_ascii_whitespace}
use Rattle.cv_spec_text.specs.Characters.{number_sign, plus_sign, asterisk, less_than_sign, greater_than_sign, is_ident_code_point, begins_with}
use Rattle.cv_syntax.specs.Words.{named, is_left_out, is_forbidden, begins_ident}
use Rattle.cv_syntax.specs.declared.syntax.Kind.{Kind}
use Rattle.cv_syntax.specs.declared.syntax.Kind.TheVariants.{Literal}
use Rattle.cv_syntax.specs.declared.syntax.Many.{Many}
use Rattle.cv_syntax.specs.declared.syntax.Many.TheVariants.{One, Spaces, Commas}
use Rattle.cv_syntax.specs.declared.syntax.Component.{Component}
use Rattle.cv_syntax.specs.declared.syntax.Syntax.{Syntax}
use Rattle.cv_syntax.specs.declared.syntax.Syntax.TheVariants.{Any, Of}
use Rattle.cv_syntax.specs.declared.syntax.SyntaxErr.{SyntaxErr}
use Rattle.cv_syntax.specs.declared.syntax.SyntaxErr.TheVariants.{Memory, Empty, Unsupported, BadName, BadChar}

abbrev pub vertical_line : ℕ
vertical_line = 0x7C

-- How much whitespace stands at the front. A line break of any kind and a form feed are whitespace too, as in a style sheet before it
-- is preprocessed (CSS Syntax 3, "Preprocessing the input stream").
abbrev pub blank_length : List ℕ → ℕ
blank_length text = prefix_len is_ascii_whitespace text

-- ---- one component, whose text begins at the place

-- nothing but whitespace may follow
unfoldable pub ended : Kind → Many → ℕ → List ℕ → Result Component SyntaxErr
ended kind many place rest =
    if nat_lt (blank_length rest) (length rest) then Err (BadChar (place + blank_length rest))
    else Ok (record { kind = kind; many = many })

-- a multiplier or none, and the end
abbrev pub many_at : Kind → ℕ → List ℕ → Result Component SyntaxErr
many_at kind place [] = Ok (record { kind = kind; many = One })
many_at kind place (c ∷ cs) =
    if c == plus_sign then ended kind Spaces (place + 1) cs
    else if c == number_sign then ended kind Commas (place + 1) cs
    else ended kind One place (c ∷ cs)

abbrev pub kind_at : ℕ → Option Kind → ℕ → List ℕ → Result Component SyntaxErr
kind_at place None after rest = Err (BadName place)
kind_at place (Some kind) after rest = many_at kind after rest

abbrev pub name_at : ℕ → List ℕ → ℕ → List ℕ → Result Component SyntaxErr
name_at place name after rest = if is_left_out name then Err (Unsupported name) else kind_at place (named name) after rest

-- how long a name is, which ends at `>`
abbrev pub name_length : List ℕ → ℕ
name_length text = prefix_len (λ c. not (c == greater_than_sign)) text

-- behind a `<` at the place
unfoldable pub bracketed : ℕ → List ℕ → Result Component SyntaxErr
bracketed place text =
    if nat_lt (name_length text) (length text) then name_at place (take (name_length text) text) (place + name_length text + 2) (drop (name_length text + 1) text)
    else Err (BadName place)

abbrev pub word_length : List ℕ → ℕ
word_length text = prefix_len is_ident_code_point text

unfoldable pub worded : ℕ → List ℕ → Result Component SyntaxErr
worded place text =
    if is_forbidden (take (word_length text) text) then Err (BadName place)
    else many_at (Literal (take (word_length text) text)) (place + word_length text) (drop (word_length text) text)

unfoldable pub begun : ℕ → List ℕ → Result Component SyntaxErr
begun place [] = Err (BadChar place)
begun place (c ∷ cs) =
    if c == less_than_sign then bracketed place cs
    else if begins_ident (c ∷ cs) then worded place (c ∷ cs)
    else Err (BadChar place)

unfoldable pub component_at : ℕ → List ℕ → Result Component SyntaxErr
component_at place text = begun (place + blank_length text) (drop (blank_length text) text)

-- ---- all components

-- the texts between the lines
abbrev pub longer : ℕ → List (List ℕ) → List (List ℕ)
longer c [] = []
longer c (t ∷ ts) = (c ∷ t) ∷ ts

abbrev pub parts : List ℕ → List (List ℕ)
parts [] = [] ∷ []
parts (c ∷ cs) = if c == vertical_line then [] ∷ parts cs else longer c (parts cs)

-- how long the text before the next line is
abbrev pub part_length : List ℕ → ℕ
part_length text = prefix_len (λ c. not (c == vertical_line)) text

-- the first fault from the left
abbrev pub before : Result Component SyntaxErr → Result (List Component) SyntaxErr → Result (List Component) SyntaxErr
before (Err e) rest = Err e
before (Ok c) (Err e) = Err e
before (Ok c) (Ok cs) = Ok (c ∷ cs)

abbrev pub components_of : ℕ → List (List ℕ) → Result (List Component) SyntaxErr
components_of place [] = Ok []
components_of place (t ∷ ts) = before (component_at place t) (components_of (place + length t + 1) ts)

-- nothing but whitespace
abbrev pub is_blank : List ℕ → Bool
is_blank text = not (nat_lt (blank_length text) (length text))

-- `*` alone
abbrev pub is_star : List ℕ → Bool
is_star text = begins_with asterisk (drop (blank_length text) text) && is_blank (drop (blank_length text + 1) text)

abbrev pub of_components : Result (List Component) SyntaxErr → Result Syntax SyntaxErr
of_components (Err e) = Err e
of_components (Ok cs) = Ok (Of cs)

unfoldable pub syntax : List ℕ → Result Syntax SyntaxErr
syntax text =
    if is_blank text then Err Empty
    else if is_star text then Ok Any
    else of_components (components_of 0 (parts text))

-- a universal syntax, or one component at least
abbrev pub IsFilled : Syntax → Type 0
IsFilled Any = Unit {0}
IsFilled (Of components) = 0 < length components

-- the error is the fault, or memory was wanting
abbrev pub IsFault : {A : Type 0} → Result A SyntaxErr → SyntaxErr → Type 0
IsFault answer Memory = Unit {0}
IsFault answer e = answer ≡ Err e
