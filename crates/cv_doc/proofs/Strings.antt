-- A string among the tokens of a JSON text is no longer than the text.
use Rattle.std.proofs.Common.{ℕ, ◌+◌, ◌-◌, ◌≤◌, Bool, true, false, cond, ◌&&◌, ◌==◌, nat_lt, List, [], ◌∷◌, length, take, drop, Option, Some, None, option_and_then, arith, length-append}
use Rattle.std.specs.Prelude.{⊤, IfSome, nat_eq}
use Rattle.std.specs.List.{starts_with}
use Rattle.std.specs.Char.{encode_utf8}
use Rattle.json.specs.Ascii as ascii
use Rattle.json.specs.Token.{Token, begin_object, end_object, begin_array, end_array, key, string, number, boolean, null, bad}
use Rattle.json.specs.Text.{code_unit, short_escape, is_high_surrogate, is_low_surrogate, surrogate_pair, Within, plain, after_backslash, after_u, after_high, prepend, content}
use Rattle.json.specs.Word.{ends_word, head, after_number, literal, number_before, word}
use Rattle.json.specs.Lex.{Lexeme, token, comma, colon, Class, quote, backslash, operator, space, other, class, operator_lexeme, string_token, Mode, between, in_word, in_string, in_escape, lex_byte, lex}
use Rattle.json.specs.Lex.{Place, fresh, after_value, after_comma, after_key, begins_colon, may_begin, may_close, if_allowed, place_token, punctuate, tokens}

-- ---- what a string is read from

abbrev AtMost : ℕ → Option (List ℕ) → Type 0
AtMost n found = IfSome found (λ s. length s ≤ n)

either : (n : ℕ) (b : Bool) (x y : Option (List ℕ)) → AtMost n x → AtMost n y → AtMost n (cond b x y)
either n true x y first second = first
either n false x y first second = second

found : (n : ℕ) (f : ℕ → Option (List ℕ)) (o : Option ℕ) → ((u : ℕ) → AtMost n (f u)) → AtMost n (option_and_then f o)
found n f None each = tt
found n f (Some u) each = each u

more : (n m : ℕ) (o : Option (List ℕ)) → AtMost m o → m ≤ n → AtMost n o
more n m None within le = tt
more n m (Some s) within le = omega arith

longer : (n m : ℕ) (front : List ℕ) (o : Option (List ℕ)) → AtMost m o → length front + m ≤ n → AtMost n (prepend front o)
longer n m front None within le = tt
longer n m front (Some s) within le = omega (arith, length-append front s)

length-encode_utf8 : (c : ℕ) → length (encode_utf8 c) ≤ 4
unfolding encode_utf8
length-encode_utf8 c = grind arith

-- the content of a string is no longer than what it is read from
content-le : (within : Within) (xs : List ℕ) → AtMost (length xs) (content within xs)
unfolding content
content-le plain [] = tt
content-le plain (x ∷ xs) =
    let n = length (x ∷ xs) in
    let rest = prepend (x ∷ []) (content plain xs) in
    either n (x == ascii.quote) (Some []) _ (omega arith)
    (either n (x == ascii.backslash) _ (cond (nat_lt x ascii.space) None rest) (more n (length xs) _ (content-le after_backslash xs) (omega arith))
    (either n (nat_lt x ascii.space) None rest tt (longer n (length xs) (x ∷ []) _ (content-le plain xs) (omega arith))))
content-le after_backslash [] = tt
content-le after_backslash (x ∷ xs) =
    let n = length (x ∷ xs) in
    either n (x == ascii.lower_u) _ _ (more n (length xs) _ (content-le after_u xs) (omega arith))
    (found n _ (short_escape x) (λ c. longer n (length xs) (c ∷ []) _ (content-le plain xs) (omega arith)))
content-le after_u [] = tt
content-le after_u (a ∷ []) = tt
content-le after_u (a ∷ b ∷ []) = tt
content-le after_u (a ∷ b ∷ c ∷ []) = tt
content-le after_u (a ∷ b ∷ c ∷ d ∷ xs) =
    let n = length (a ∷ b ∷ c ∷ d ∷ xs) in
    found n _ (code_unit a b c d) (λ u.
    either n (is_high_surrogate u) _ _ (more n (length xs) _ (content-le (after_high u) xs) (omega arith))
    (either n (is_low_surrogate u) None _ tt (longer n (length xs) (encode_utf8 u) _ (content-le plain xs) (omega (arith, length-encode_utf8 u)))))
content-le (after_high high) [] = tt
content-le (after_high high) (s ∷ []) = tt
content-le (after_high high) (s ∷ u ∷ []) = tt
content-le (after_high high) (s ∷ u ∷ a ∷ []) = tt
content-le (after_high high) (s ∷ u ∷ a ∷ b ∷ []) = tt
content-le (after_high high) (s ∷ u ∷ a ∷ b ∷ c ∷ []) = tt
content-le (after_high high) (s ∷ u ∷ a ∷ b ∷ c ∷ d ∷ xs) =
    let n = length (s ∷ u ∷ a ∷ b ∷ c ∷ d ∷ xs) in
    either n (s == ascii.backslash && u == ascii.lower_u) _ None
    (found n _ (code_unit a b c d) (λ low.
    either n (is_low_surrogate low) _ None
    (longer n (length xs) (encode_utf8 (surrogate_pair high low)) _ (content-le plain xs) (omega (arith, length-encode_utf8 (surrogate_pair high low)))) tt)) tt

-- ---- tokens

-- a string has at most so many bytes
abbrev IsWithin : ℕ → Token → Type 0
IsWithin n begin_object = ⊤
IsWithin n end_object = ⊤
IsWithin n begin_array = ⊤
IsWithin n end_array = ⊤
IsWithin n (key s) = ⊤
IsWithin n (string s) = length s ≤ n
IsWithin n (number s) = ⊤
IsWithin n (boolean b) = ⊤
IsWithin n null = ⊤
IsWithin n bad = ⊤

abbrev IsLexedWithin : ℕ → Lexeme → Type 0
IsLexedWithin n (token t) = IsWithin n t
IsLexedWithin n comma = ⊤
IsLexedWithin n colon = ⊤

abbrev pub AreWithin : ℕ → List Token → Type 0
AreWithin n [] = ⊤
AreWithin n (t ∷ ts) = IsWithin n t × AreWithin n ts

abbrev AreLexedWithin : ℕ → List Lexeme → Type 0
AreLexedWithin n [] = ⊤
AreLexedWithin n (l ∷ ls) = IsLexedWithin n l × AreLexedWithin n ls

operator_within : (n x : ℕ) → IsLexedWithin n (operator_lexeme x)
operator_within n x = by (x == ascii.open_brace) (x == ascii.close_brace) (x == ascii.open_bracket) (x == ascii.close_bracket) (x == ascii.comma)
  where
    by : (a b c d e : Bool) → IsLexedWithin n (cond a (token begin_object) (cond b (token end_object) (cond c (token begin_array) (cond d (token end_array) (cond e comma colon)))))
    by true b c d e = tt
    by false true c d e = tt
    by false false true d e = tt
    by false false false true e = tt
    by false false false false true = tt
    by false false false false false = tt

either_token : (n : ℕ) (b : Bool) (x y : Token) → IsWithin n x → IsWithin n y → IsWithin n (cond b x y)
either_token n true x y first second = first
either_token n false x y first second = second

literal_within : (n : ℕ) (name : List ℕ) (t : Token) (text : List ℕ) → IsWithin n t → IsWithin n (literal name t text)
literal_within n name t text here = either_token n (starts_with nat_eq text name && ends_word (drop (length name) text)) t bad here tt

word_within : (n : ℕ) (text : List ℕ) → IsWithin n (word text)
unfolding word
word_within n text = by (head text == ascii.lower_t) (head text == ascii.lower_f) (head text == ascii.lower_n) (after_number text)
  where
    by : (a b c : Bool) (rest : Option (List ℕ))
        → IsWithin n (cond a (literal ascii.true_text (boolean true) text) (cond b (literal ascii.false_text (boolean false) text) (cond c (literal ascii.null_text null text) (number_before text rest))))
    by true b c rest = literal_within n ascii.true_text (boolean true) text tt
    by false true c rest = literal_within n ascii.false_text (boolean false) text tt
    by false false true rest = literal_within n ascii.null_text null text tt
    by false false false None = tt
    by false false false (Some rest) = either_token n (ends_word rest) (number (take (length text - length rest) text)) bad tt tt

string_within : (n : ℕ) (xs : List ℕ) → length xs ≤ n → IsWithin n (string_token (content plain xs))
string_within n xs short = by (content plain xs) (content-le plain xs)
  where
    by : (found : Option (List ℕ)) → AtMost (length xs) found → IsWithin n (string_token found)
    by None within = tt
    by (Some s) within = omega arith

lex_byte_within : (n : ℕ) (mode : Mode) (kind : Class) (x : ℕ) (xs : List ℕ) (rest : Mode → List Lexeme) → length xs ≤ n → ((next : Mode) → AreLexedWithin n (rest next))
    → AreLexedWithin n (lex_byte mode kind x xs rest)
lex_byte_within n between quote x xs rest short each = (string_within n xs short, each in_string)
lex_byte_within n between backslash x xs rest short each = (tt, each in_word)
lex_byte_within n between operator x xs rest short each = (operator_within n x, each between)
lex_byte_within n between space x xs rest short each = each between
lex_byte_within n between other x xs rest short each = (word_within n (x ∷ xs), each in_word)
lex_byte_within n in_word quote x xs rest short each = each in_word
lex_byte_within n in_word backslash x xs rest short each = each in_word
lex_byte_within n in_word operator x xs rest short each = (operator_within n x, each between)
lex_byte_within n in_word space x xs rest short each = each between
lex_byte_within n in_word other x xs rest short each = each in_word
lex_byte_within n in_string quote x xs rest short each = each between
lex_byte_within n in_string backslash x xs rest short each = each in_escape
lex_byte_within n in_string operator x xs rest short each = each in_string
lex_byte_within n in_string space x xs rest short each = each in_string
lex_byte_within n in_string other x xs rest short each = each in_string
lex_byte_within n in_escape kind x xs rest short each = each in_string

lex_within : (n : ℕ) (mode : Mode) (text : List ℕ) → length text ≤ n → AreLexedWithin n (lex mode text)
unfolding lex
lex_within n mode [] short = tt
lex_within n mode (x ∷ xs) short = lex_byte_within n mode (class x) x xs (λ next. lex next xs) (omega arith) (λ next. lex_within n next xs (omega arith))

allowed_within : (n : ℕ) (b : Bool) (t : Token) (rest : Place → List Token) (next : Place) → IsWithin n t → AreWithin n (rest next) → AreWithin n (if_allowed b t rest next)
allowed_within n true t rest next here after = (here, after)
allowed_within n false t rest next here after = (tt, tt)

place_token_within : (n : ℕ) (p : Place) (t : Token) (before_colon : Bool) (rest : Place → List Token) → IsWithin n t → ((next : Place) → AreWithin n (rest next))
    → AreWithin n (place_token p t before_colon rest)
place_token_within n p begin_object before_colon rest here each = allowed_within n (may_begin p) begin_object rest fresh tt (each fresh)
place_token_within n p end_object before_colon rest here each = allowed_within n (may_close p) end_object rest after_value tt (each after_value)
place_token_within n p begin_array before_colon rest here each = allowed_within n (may_begin p) begin_array rest fresh tt (each fresh)
place_token_within n p end_array before_colon rest here each = allowed_within n (may_close p) end_array rest after_value tt (each after_value)
place_token_within n p (key s) before_colon rest here each = (tt, tt)
place_token_within n p (string s) true rest here each = allowed_within n (may_begin p) (key s) rest after_key tt (each after_key)
place_token_within n p (string s) false rest here each = allowed_within n (may_begin p) (string s) rest after_value here (each after_value)
place_token_within n p (number s) before_colon rest here each = allowed_within n (may_begin p) (number s) rest after_value tt (each after_value)
place_token_within n p (boolean b) before_colon rest here each = allowed_within n (may_begin p) (boolean b) rest after_value tt (each after_value)
place_token_within n p null before_colon rest here each = allowed_within n (may_begin p) null rest after_value tt (each after_value)
place_token_within n p bad before_colon rest here each = (tt, tt)

punctuate_within : (n : ℕ) (p : Place) (ls : List Lexeme) → AreLexedWithin n ls → AreWithin n (punctuate p ls)
unfolding punctuate
punctuate_within n fresh [] all = tt
punctuate_within n after_value [] all = tt
punctuate_within n after_comma [] all = (tt, tt)
punctuate_within n after_key [] all = (tt, tt)
punctuate_within n fresh (token t ∷ ls) all = place_token_within n fresh t (begins_colon ls) (λ next. punctuate next ls) all.0 (λ next. punctuate_within n next ls all.1)
punctuate_within n after_value (token t ∷ ls) all = place_token_within n after_value t (begins_colon ls) (λ next. punctuate next ls) all.0 (λ next. punctuate_within n next ls all.1)
punctuate_within n after_comma (token t ∷ ls) all = place_token_within n after_comma t (begins_colon ls) (λ next. punctuate next ls) all.0 (λ next. punctuate_within n next ls all.1)
punctuate_within n after_key (token t ∷ ls) all = place_token_within n after_key t (begins_colon ls) (λ next. punctuate next ls) all.0 (λ next. punctuate_within n next ls all.1)
punctuate_within n fresh (comma ∷ ls) all = (tt, tt)
punctuate_within n after_value (comma ∷ ls) all = punctuate_within n after_comma ls all.1
punctuate_within n after_comma (comma ∷ ls) all = (tt, tt)
punctuate_within n after_key (comma ∷ ls) all = (tt, tt)
punctuate_within n fresh (colon ∷ ls) all = (tt, tt)
punctuate_within n after_value (colon ∷ ls) all = (tt, tt)
punctuate_within n after_comma (colon ∷ ls) all = (tt, tt)
punctuate_within n after_key (colon ∷ ls) all = punctuate_within n fresh ls all.1

-- each string among the tokens of a text is no longer than the text
pub tokens_within : (text : List ℕ) → AreWithin (length text) (tokens text)
tokens_within text = punctuate_within (length text) fresh (lex between text) (lex_within (length text) between text (omega arith))
