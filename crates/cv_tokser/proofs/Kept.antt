-- What is printed of well formed tokens is kept by preprocessing.
use Rattle.std.proofs.Common.{◌≡◌, ℕ, ◌/◌, ◌%◌, ◌<◌, List, [], ◌∷◌, ◌++◌, refl, arith}
use Rattle.std.specs.Prelude.{Bool, true, false, not, ◌||◌, ◌&&◌, ◌==◌, nat_lt, if◌then◌else◌}
use Rattle.std.specs.List.{flat_map}
use Rattle.std.specs.Char.{is_ascii_digit, digit_char}
use Rattle.std.proofs.Math.Utf8.{scalar, scalars}
use Rattle.std.proofs.lemmas.Bool.Decides.{nat_tests}
use Rattle.cv_spec_text.specs.declared.token.Bracket.TheVariants.{Round, Square, Curly}
use Rattle.cv_spec_text.specs.declared.token.Token.{Token}
use Rattle.cv_spec_text.specs.declared.token.Token.TheVariants.{Ident, Function, At, Hash, Str, BadStr, Url, BadUrl, Delim, Number, Percentage, Dimension, White, Cdo, Cdc, Colon, Semicolon, Comma, Open, Close}
use Rattle.cv_spec_text.specs.Characters.{form_feed, carriage_return, space, quotation_mark, percent_sign, left_parenthesis, right_parenthesis, hyphen, reverse_solidus, is_ident_code_point, is_quote}
use Rattle.cv_spec_text.specs.Text.{preprocessed}
use Rattle.cv_spec_text.specs.Numbers.{is_exponent_sign}
use Rattle.cv_spec_text.specs.Printing.{is_control, hex_escape, name_code_point, name_rest, with_no_digit_first, identifier, looks_like_exponent, unit, string_code_point, url_code_point, printed, is_white, between, added, written}
use Rattle.cv_spec_text.specs.Joins.{joins}
use Rattle.cv_spec_text.proofs.Rows.{if_case}
use Rattle.cv_text_laws.proofs.Tests.{both}
use Rattle.cv_tokser.proofs.WellFormed.{is_nameable, is_kept, AreAll, AreAll-append, IsWellFormed, AreWellFormed}

-- kept texts
abbrev pub AreKept : List ℕ → Type 0
AreKept text = AreAll is_kept text

append-kept : (xs ys : List ℕ) → AreKept xs → AreKept ys → AreKept (xs ++ ys)
append-kept xs ys are are' = AreAll-append is_kept xs ys are are'

digit-kept : (d : ℕ) → d < 16 → is_kept (digit_char d) ≡ true
digit-kept d small = grind (arith, nat_tests)

-- an ASCII code point in hex
hex_escape-kept : (c : ℕ) → c < 128 → AreKept (hex_escape c)
unfolding hex_escape
hex_escape-kept c small =
    if_case AreKept (nat_lt c 16)
    (λ below. (refl, (digit-kept c (grind (arith, nat_tests)), (refl, tt))))
    (λ _. (refl, (digit-kept (c / 16) (omega arith), (digit-kept (c % 16) (omega arith), (refl, tt)))))

kept_by_tests : (s z f r : Bool) → (s && not z) ≡ true → f ≡ false → r ≡ false → (s && not (z || f || r)) ≡ true
kept_by_tests true true f r ok f' r' = cc
kept_by_tests true false true r ok f' r' = cc
kept_by_tests true false false true ok f' r' = cc
kept_by_tests true false false false ok f' r' = refl
kept_by_tests false z f r ok f' r' = cc

-- a code point that a name may hold and that is no control is kept
printable-kept : (c : ℕ) → is_nameable c ≡ true → is_control c ≡ false → is_kept c ≡ true
printable-kept c ok printable =
    let feed : (c == form_feed) ≡ false = grind (arith, nat_tests) in
    let return : (c == carriage_return) ≡ false = grind (arith, nat_tests) in
    kept_by_tests (scalar c) (c == 0) (c == form_feed) (c == carriage_return) ok feed return

control-small : (c : ℕ) → is_control c ≡ true → c < 128
control-small c control = grind (arith, nat_tests)

name_code_point-kept : (c : ℕ) → is_nameable c ≡ true → AreKept (name_code_point c)
unfolding name_code_point
name_code_point-kept c ok =
    if_case AreKept (is_control c) (λ control. hex_escape-kept c (control-small c control))
    (λ printable. if_case AreKept (is_ident_code_point c) (λ _. (printable-kept c ok printable, tt)) (λ _. (refl, (printable-kept c ok printable, tt))))

string_code_point-kept : (c : ℕ) → is_nameable c ≡ true → AreKept (string_code_point c)
unfolding string_code_point
string_code_point-kept c ok =
    if_case AreKept (c == quotation_mark || c == reverse_solidus) (λ special. let printable : is_control c ≡ false = grind (arith, nat_tests) in (refl, (printable-kept c ok printable, tt)))
    (λ _. if_case AreKept (is_control c) (λ control. hex_escape-kept c (control-small c control)) (λ printable. (printable-kept c ok printable, tt)))

url_code_point-kept : (c : ℕ) → is_nameable c ≡ true → AreKept (url_code_point c)
unfolding url_code_point
url_code_point-kept c ok =
    if_case AreKept (is_control c || is_quote c || c == left_parenthesis || c == right_parenthesis || c == reverse_solidus || c == space)
    (λ special. hex_escape-kept c (grind (arith, nat_tests)))
    (λ plain. let printable : is_control c ≡ false = grind (arith, nat_tests) in (printable-kept c ok printable, tt))

each-kept : (write : ℕ → List ℕ) → ((c : ℕ) → is_nameable c ≡ true → AreKept (write c)) → (cs : List ℕ) → AreAll is_nameable cs → AreKept (flat_map write cs)
each-kept write each [] all = tt
each-kept write each (c ∷ cs) all = append-kept (write c) (flat_map write cs) (each c all.0) (each-kept write each cs all.1)

name_rest-kept : (cs : List ℕ) → AreAll is_nameable cs → AreKept (name_rest cs)
name_rest-kept cs all = each-kept name_code_point name_code_point-kept cs all

undigited-kept : (cs : List ℕ) → AreAll is_nameable cs → AreKept (with_no_digit_first cs)
undigited-kept [] all = tt
undigited-kept (c ∷ cs) all =
    append-kept (if is_ascii_digit c then hex_escape c else name_code_point c) (name_rest cs)
    (if_case AreKept (is_ascii_digit c) (λ digit. hex_escape-kept c (grind (arith, nat_tests))) (λ _. name_code_point-kept c all.0))
    (name_rest-kept cs all.1)

identifier-kept : (cs : List ℕ) → AreAll is_nameable cs → AreKept (identifier cs)
unfolding identifier
identifier-kept [] all = tt
identifier-kept (c ∷ []) all = if_case AreKept (c == hyphen) (λ _. (refl, (refl, tt))) (λ _. undigited-kept (c ∷ []) all)
identifier-kept (c ∷ d ∷ cs) all = if_case AreKept (c == hyphen) (λ _. (refl, undigited-kept (d ∷ cs) all.1)) (λ _. undigited-kept (c ∷ d ∷ cs) all)

exponent-small : (c : ℕ) (cs : List ℕ) → looks_like_exponent (c ∷ cs) ≡ true → c < 128
exponent-small c cs looks = let mark : is_exponent_sign c ≡ true = (both (is_exponent_sign c) _ looks).0 in grind (arith, nat_tests)

unit-kept : (cs : List ℕ) → AreAll is_nameable cs → AreKept (unit cs)
unit-kept [] all = identifier-kept [] all
unit-kept (c ∷ cs) all =
    if_case AreKept (looks_like_exponent (c ∷ cs))
    (λ looks. append-kept (hex_escape c) (name_rest cs) (hex_escape-kept c (exponent-small c cs looks)) (name_rest-kept cs all.1))
    (λ _. identifier-kept (c ∷ cs) all)

printed-kept : (token : Token) → IsWellFormed token → AreKept (printed token)
printed-kept (Ident name) well = identifier-kept name well.nameable
printed-kept (Function name) well = append-kept (identifier name) (left_parenthesis ∷ []) (identifier-kept name well.nameable) (refl, tt)
printed-kept (At name) well = (refl, identifier-kept name well.nameable)
printed-kept (Hash name true) well = (refl, identifier-kept name well.nameable)
printed-kept (Hash name false) well = (refl, name_rest-kept name well.0.nameable)
printed-kept (Str text) well =
    (refl, append-kept (flat_map string_code_point text) (quotation_mark ∷ []) (each-kept string_code_point string_code_point-kept text well) (refl, tt))
printed-kept BadStr well = (refl, (refl, tt))
printed-kept (Url text) well =
    (refl, (refl, (refl, (refl, append-kept (flat_map url_code_point text) (right_parenthesis ∷ []) (each-kept url_code_point url_code_point-kept text well) (refl, tt)))))
printed-kept BadUrl well = (refl, (refl, (refl, (refl, (refl, (refl, tt))))))
printed-kept (Delim c) well = if_case AreKept (c == reverse_solidus) (λ _. (refl, (refl, tt))) (λ _. (well.kept, tt))
printed-kept (Number number) well = well.kept
printed-kept (Percentage number) well = append-kept number (percent_sign ∷ []) well.kept (refl, tt)
printed-kept (Dimension number name) well = append-kept number (unit name) well.0.kept (unit-kept name well.1.nameable)
printed-kept White well = (refl, tt)
printed-kept Cdo well = (refl, (refl, (refl, (refl, tt))))
printed-kept Cdc well = (refl, (refl, (refl, tt)))
printed-kept Colon well = (refl, tt)
printed-kept Semicolon well = (refl, tt)
printed-kept Comma well = (refl, tt)
printed-kept (Open Round) well = (refl, tt)
printed-kept (Open Square) well = (refl, tt)
printed-kept (Open Curly) well = (refl, tt)
printed-kept (Close Round) well = (refl, tt)
printed-kept (Close Square) well = (refl, tt)
printed-kept (Close Curly) well = (refl, tt)

between-kept : (a b : Token) → AreKept (between a b)
between-kept a b = if_case AreKept (joins a b) (λ _. (refl, (refl, (refl, (refl, tt))))) (λ _. tt)

added-kept : (a : Token) (rest : List Token) → IsWellFormed a → AreKept (added a rest)
added-kept a [] well = printed-kept a well
added-kept a (b ∷ rest) well =
    if_case AreKept (is_white a && is_white b) (λ _. tt) (λ _. append-kept (printed a) (between a b) (printed-kept a well) (between-kept a b))

pub written-kept : (list : List Token) → AreWellFormed list → AreKept (written list)
written-kept [] well = tt
written-kept (a ∷ rest) well = append-kept (added a rest) (written rest) (added-kept a rest well.0) (written-kept rest well.1)

-- kept code points are as they were
parts_by_tests : (s z f r : Bool) → (s && not (z || f || r)) ≡ true → (s ≡ true) × (z ≡ false) × (f ≡ false) × (r ≡ false)
parts_by_tests true true f r kept = cc
parts_by_tests true false true r kept = cc
parts_by_tests true false false true kept = cc
parts_by_tests true false false false kept = (refl, refl, refl, refl)
parts_by_tests false z f r kept = cc

kept_parts : (c : ℕ) → is_kept c ≡ true → (scalar c ≡ true) × ((c == 0) ≡ false) × ((c == form_feed) ≡ false) × ((c == carriage_return) ≡ false)
kept_parts c kept = parts_by_tests (scalar c) (c == 0) (c == form_feed) (c == carriage_return) kept

pub kept-scalars : (cs : List ℕ) → AreKept cs → scalars cs ≡ true
kept-scalars [] kept = refl
kept-scalars (c ∷ cs) kept = rw ((kept_parts c kept.0).0, kept-scalars cs kept.1) refl

pub kept-preprocessed : (cs : List ℕ) → AreKept cs → preprocessed cs ≡ cs
kept-preprocessed [] kept = refl
kept-preprocessed (c ∷ cs) kept =
    let parts = kept_parts c kept.0 in
    rw (parts.3, parts.2, parts.1, kept-preprocessed cs kept.1) refl
