-- A clean list of well formed tokens is read again.
use Rattle.std.proofs.Common.{◌≡◌, ℕ, ◌<◌, List, [], ◌∷◌, ◌++◌, length, drop, refl, sym, ◌∙◌, ap, subst, arith, append_assoc, length-append}
use Rattle.std.specs.Prelude.{Bool, true, false, ◌&&◌, ◌||◌, ◌==◌, Some, codes}
use Rattle.std.specs.Option.{option_to_list}
use Rattle.std.proofs.Math.Seq.{drop-append_seam}
use Rattle.cv_spec_text.specs.declared.token.Token.{Token}
use Rattle.cv_spec_text.specs.declared.token.Token.TheVariants.{Ident, Function, Str, Delim, Number, White, Comma}
use Rattle.cv_spec_text.specs.Characters.{number_sign, hyphen, plus_sign, full_stop, commercial_at, solidus, asterisk, less_than_sign, is_quote, begins_by}
use Rattle.cv_spec_text.specs.Urls.{whitespace_length}
use Rattle.cv_spec_text.specs.Tokens.{Row, first_row, row_length, row_tokens, tokens_of}
use Rattle.cv_spec_text.specs.Joins.{joins}
use Rattle.cv_spec_text.specs.Printing.{printed, is_white, between, written}
use Rattle.cv_spec_text.proofs.Runs.{run_values-more, run_values-nil}
use Rattle.cv_text_laws.proofs.Tests.{bool_cases, contrary}
use Rattle.cv_text_laws.proofs.Digits.{one_more}
use Rattle.cv_tokser.specs.Clean.{is_bad, begins_white, begins_string, is_url_function, IsClean}
use Rattle.cv_tokser.proofs.WellFormed.{IsWellFormed, AreWellFormed}
use Rattle.cv_tokser.proofs.Fronts.{harmless_front, end_front}
use Rattle.cv_tokser.proofs.Ends.{Ends, ends_by_front}
use Rattle.cv_tokser.proofs.TokenFronts.{token_front}
use Rattle.cv_tokser.proofs.TokensBack.{reads_back}

-- a token that is read in front is the first
token_back : (token : Token) (word rest : List ℕ) → first_row (word ++ rest) ≡ (length word, Some token) → 0 < length word
    → tokens_of (word ++ rest) ≡ token ∷ tokens_of rest
token_back token word rest found some =
    let size : row_length (word ++ rest) ≡ length word = ap (λ (row : Row). row.0) found in
    let here : row_tokens (word ++ rest) ≡ token ∷ [] = ap (λ (row : Row). option_to_list row.1) found in
    run_values-more row_length row_tokens (length word) (word ++ rest) size some (omega (arith, length-append word rest))
    ∙ ap (λ (l : List Token). l ++ tokens_of (drop (length word) (word ++ rest))) here
    ∙ ap (λ (l : List ℕ). token ∷ tokens_of l) (drop-append_seam word rest)

-- an empty comment gives no token
comment_back : (rest : List ℕ) → tokens_of (codes "/**/" ++ rest) ≡ tokens_of rest
unfolding first_row
comment_back rest = run_values-more row_length row_tokens 4 (codes "/**/" ++ rest) refl (omega arith) (omega arith)

-- what is printed behind a token
abbrev after : Token → List Token → List ℕ
after a [] = []
after a (b ∷ rest) = between a b ++ written (b ∷ rest)

written_as : (a : Token) (rest : List Token) → (is_white a && begins_white rest) ≡ false → written (a ∷ rest) ≡ printed a ++ after a rest
written_as a [] other = refl
written_as a (b ∷ rest) other = rw other (append_assoc (printed a) (between a b) (written (b ∷ rest)))

never : (b : Bool) → (b && false) ≡ false
never true = refl
never false = refl

-- nothing is put in front of a comma
joins_comma : (a : Token) → joins a Comma ≡ false
joins_comma (Delim c) =
    rw (never (c == number_sign), never (c == hyphen), never (c == plus_sign || c == full_stop), never (c == commercial_at), never (c == solidus), never (c == less_than_sign)) refl
joins_comma (Ident name) = refl
joins_comma (Number number) = refl
joins_comma _ = refl

-- nothing is put behind a function
joins_function : {A : Type 0} (a b : Token) → joins a b ≡ true → is_url_function a ≡ true → A
joins_function (Function name) b joined url = cc
joins_function _ b joined url = cc

-- a string, maybe behind whitespace, stands in front
abbrev StartsString : List ℕ → Type 0
StartsString text = begins_by is_quote (drop (whitespace_length text) text) ≡ true

string_in_front : (rest : List Token) → IsClean rest → begins_string rest ≡ true → StartsString (written rest)
string_in_front [] clean begins = cc
string_in_front (White ∷ []) clean begins = cc
string_in_front (White ∷ b ∷ rest) clean begins =
    rw (written_as White (b ∷ rest) clean.1) (rw (one_more (whitespace_length (written (b ∷ rest)))) (string_in_front (b ∷ rest) clean.3 begins))
string_in_front (Str text ∷ rest) clean begins = rw (written_as (Str text) rest clean.1) refl
string_in_front (a ∷ rest) clean begins = cc

-- a comment ends each token
ends_at_comment : (a : Token) (text : List ℕ) → IsWellFormed a → is_bad a ≡ false → is_url_function a ≡ false → Ends a (codes "/**/" ++ text)
ends_at_comment a text well clean other =
    ends_by_front a Comma (codes "/**/" ++ text) well clean (joins_comma a) (never (is_white a)) (λ url. contrary (is_url_function a) url other)
    (harmless_front Comma solidus (asterisk ∷ asterisk ∷ solidus ∷ text) refl)

-- what is printed behind a token ends it
ends : (a : Token) (rest : List Token) → IsClean (a ∷ rest) → AreWellFormed (a ∷ rest) → Ends a (after a rest)
ends a [] clean well =
    ends_by_front a Comma [] well.0 clean.0 (joins_comma a) (never (is_white a)) (λ url. let begins : false ≡ true = clean.2 url in cc) (end_front Comma)
ends a (b ∷ rest) clean well =
    bool_cases (joins a b)
    (λ joined. rw joined (ends_at_comment a (written (b ∷ rest)) well.0 clean.0
    (bool_cases (is_url_function a) (λ url. joins_function a b joined url) (λ other. other))))
    (λ apart. rw apart (subst (λ (text : List ℕ). Ends a text) (sym (written_as b rest clean.3.1))
    (ends_by_front a b (printed b ++ after b rest) well.0 clean.0 apart clean.1
    (λ url. subst StartsString (written_as b rest clean.3.1) (string_in_front (b ∷ rest) clean.3 (clean.2 url)))
    (token_front b (after b rest) well.1.0 clean.3.0 (ends b rest clean.3 well.1)))))

after_back : (a : Token) (rest : List Token) → tokens_of (after a rest) ≡ tokens_of (written rest)
after_back a [] = refl
after_back a (b ∷ rest) = bool_cases (joins a b) (λ joined. rw joined (comment_back (written (b ∷ rest)))) (λ apart. rw apart refl)

pub lists_back : (list : List Token) → IsClean list → AreWellFormed list → tokens_of (written list) ≡ list
lists_back [] clean well = run_values-nil row_length row_tokens
lists_back (a ∷ rest) clean well =
    let reads = reads_back a (after a rest) well.0 clean.0 (ends a rest clean well) in
    ap tokens_of (written_as a rest clean.1)
    ∙ token_back a (printed a) (after a rest) reads.row reads.some
    ∙ ap (λ (l : List Token). a ∷ l) (after_back a rest ∙ lists_back rest clean.3 well.1)
