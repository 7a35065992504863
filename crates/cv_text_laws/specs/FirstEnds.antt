-- Where a string, a url and a comment end: at their first end (CSS Syntax 3, "Consume a string token", "Consume a url token",
-- "Consume the remnants of a bad url" and "Consume comments").
use Rattle.std.specs.Prelude.{ℕ, Bool, true, false, ◌≡◌, ◌+◌, ◌==◌, ◌&&◌, ◌||◌, ◌⊎◌, if◌then◌else◌, List, [], ◌∷◌, ◌++◌, length, take, drop}
use Rattle.cv_spec_text.specs.Characters.{line_feed, asterisk, solidus, reverse_solidus, is_quote, begins_with}
use Rattle.cv_spec_text.specs.Names.{begins_escape}
use Rattle.cv_spec_text.specs.Strings.{comment_rest_length, string_length}
use Rattle.cv_spec_text.specs.Urls.{bad_url_length, closing_length, is_closed}
use Rattle.cv_spec_text.specs.Tokens.{string_row, url_body_row}
use Rattle.cv_text_laws.specs.Fronts.{IsLongest, EndsFirst}
use Rattle.cv_text_laws.specs.EscapeSpellings.{IsEscape}

-- in a string: a code point but `\`, `\` and an LF, or an escape as long as one stands there
abbrev pub IsStringPart : List ℕ → List ℕ → Type 0
IsStringPart piece rest =
    ((c : ℕ) × (piece ≡ c ∷ []) × ((c == reverse_solidus) ≡ false)) ⊎ ((piece ≡ reverse_solidus ∷ line_feed ∷ []) ⊎ IsLongest IsEscape piece rest)

-- the quote, an LF or the end of the text
abbrev pub ends_string : ℕ → List ℕ → Bool
ends_string quote [] = true
ends_string quote (c ∷ cs) = c == quote || c == line_feed

-- A string that a quote begins ends at its first end behind that.
abbrev pub StringsEndFirst : Type 0
StringsEndFirst =
    (quote : ℕ) (text : List ℕ) → is_quote quote ≡ true
    → EndsFirst IsStringPart (ends_string quote) (take (string_length quote text) text) (drop (string_length quote text) text)

-- It takes both quotes and what stands between them; an LF that ends it is left.
abbrev pub StringsTakeQuotes : Type 0
StringsTakeQuotes =
    (quote : ℕ) (text : List ℕ) → (string_row quote text).0 ≡ 1 + string_length quote text + (if begins_with quote (drop (string_length quote text) text) then 1 else 0)

-- in a url: a code point that begins no escape, or an escape as long as one stands there
abbrev pub IsUrlPart : List ℕ → List ℕ → Type 0
IsUrlPart piece rest = ((c : ℕ) × (piece ≡ c ∷ []) × (begins_escape (c ∷ rest) ≡ false)) ⊎ IsLongest IsEscape piece rest

-- A url, bad or not, ends at the first `)` that isn't escaped or at the end of the text.
abbrev pub UrlsEndFirst : Type 0
UrlsEndFirst = (text : List ℕ) → EndsFirst IsUrlPart is_closed (take (bad_url_length text) text) (drop (bad_url_length text) text)

-- It takes all before its end, and the `)`.
abbrev pub UrlsTakeClosing : Type 0
UrlsTakeClosing = (text : List ℕ) → (url_body_row text).0 ≡ bad_url_length text + closing_length (drop (bad_url_length text) text)

-- in a comment: any code point
abbrev pub IsCodePoint : List ℕ → List ℕ → Type 0
IsCodePoint piece rest = (c : ℕ) × (piece ≡ c ∷ [])

-- `*/` or the end of the text
abbrev pub ends_comment : List ℕ → Bool
ends_comment [] = true
ends_comment (c ∷ cs) = c == asterisk && begins_with solidus cs

-- Each text behind `/*` has a first end.
abbrev pub CommentsEndFirst : Type 0
CommentsEndFirst = (text : List ℕ) → (front : List ℕ) × (rest : List ℕ) × (text ≡ front ++ rest) × EndsFirst IsCodePoint ends_comment front rest

-- A comment takes all before its first end, and the `*/`.
abbrev pub CommentsTakeClosing : Type 0
CommentsTakeClosing = (front rest : List ℕ) → EndsFirst IsCodePoint ends_comment front rest → comment_rest_length (front ++ rest) ≡ length front + length (take 2 rest)
