-- The steps of the walk over rules.
use Rattle.std.proofs.Common.{◌≡◌, ℕ, ◌<◌, ◌≤◌, List, [], ◌∷◌, ◌++◌, length, drop, take, refl, sym, ◌∙◌, ap, append-nil, arith}
use Rattle.std.specs.Prelude.{true, false}
use Rattle.cv_spec_text.proofs.Runs.{run_values-nil}
use Rattle.cv_spec_text.specs.declared.token.Token.{Token}
use Rattle.cv_spec_text.specs.declared.token.Token.TheVariants.{Ident, Function, At, Hash, Str, BadStr, Url, BadUrl, Delim, Number, Percentage, Dimension, White, Cdo, Cdc, Colon, Semicolon, Comma, Open, Close}
use Rattle.cv_spec_text.specs.declared.token.Bracket.TheVariants.{Round, Square, Curly}
use Rattle.cv_component.specs.declared.sheet.Rule.{Rule}
use Rattle.cv_component.specs.TopLevel.{top_length}
use Rattle.cv_component.specs.Rules.{rule, rule_length, rule_size, rule_at, rules, separates_rules}
use Rattle.cv_component.proofs.Pieces.{run_read}

-- a rule takes something
pub rule_length-positive : (token : Token) (rest : List Token) → separates_rules token ≡ false → 0 < rule_length (token ∷ rest)
unfolding rule_length top_length
rule_length-positive (Ident name) rest is = omega arith
rule_length-positive (Function name) rest is = omega arith
rule_length-positive (At name) rest is = omega arith
rule_length-positive (Hash name id) rest is = omega arith
rule_length-positive (Str name) rest is = omega arith
rule_length-positive BadStr rest is = omega arith
rule_length-positive (Url name) rest is = omega arith
rule_length-positive BadUrl rest is = omega arith
rule_length-positive (Delim c) rest is = omega arith
rule_length-positive (Number name) rest is = omega arith
rule_length-positive (Percentage name) rest is = omega arith
rule_length-positive (Dimension number name) rest is = omega arith
rule_length-positive White rest is = cc
rule_length-positive Cdo rest is = cc
rule_length-positive Cdc rest is = cc
rule_length-positive Colon rest is = omega arith
rule_length-positive Semicolon rest is = omega arith
rule_length-positive Comma rest is = omega arith
rule_length-positive (Open Round) rest is = omega arith
rule_length-positive (Open Square) rest is = omega arith
rule_length-positive (Open Curly) rest is = omega arith
rule_length-positive (Close bracket) rest is = omega arith

-- a token between rules
pub rules_skipped : (whole read : List Rule) (rest : List Token) (token : Token) → read ++ rules rest ≡ whole → rest ≡ token ∷ drop 1 rest
    → true ≡ separates_rules token → read ++ rules (drop 1 rest) ≡ whole
rules_skipped whole read rest token was is skips =
    let one : rule_size (token ∷ drop 1 rest) ≡ 1 = rw (sym skips) refl in
    let nothing : rule_at (token ∷ drop 1 rest) ≡ [] = rw (sym skips) refl in
    ap (λ ps. ps ++ rules (drop 1 rest)) (sym (append-nil read))
    ∙ run_read rule_size rule_at whole read [] rest 1 was (ap rule_size is ∙ one) (omega arith) (omega (arith, ap length is)) (ap rule_at is ∙ nothing)

-- a rule
pub rules_read : (whole read : List Rule) (rest : List Token) (token : Token) (n : ℕ) (found : Rule) → read ++ rules rest ≡ whole → rest ≡ token ∷ drop 1 rest
    → false ≡ separates_rules token → n ≡ rule_length rest → n ≤ length rest → found ≡ rule (take n rest) → (read ++ found ∷ []) ++ rules (drop n rest) ≡ whole
rules_read whole read rest token n found was is begins size fits value =
    let length_is : rule_length (token ∷ drop 1 rest) ≡ n = ap rule_length (sym is) ∙ sym size in
    let size_is : rule_size (token ∷ drop 1 rest) ≡ n = rw (sym begins) length_is in
    let some : 0 < n = rw (sym length_is) (rule_length-positive token (drop 1 rest) (sym begins)) in
    let value_is : rule_at (token ∷ drop 1 rest) ≡ found ∷ [] =
    rw (sym begins) (ap (λ p. p ∷ []) (ap (λ k. rule (take k (token ∷ drop 1 rest))) length_is ∙ ap (λ ts. rule (take n ts)) (sym is) ∙ sym value)) in
    run_read rule_size rule_at whole read (found ∷ []) rest n was (ap rule_size is ∙ size_is) some fits (ap rule_at is ∙ value_is)

pub rules_end : (whole read : List Rule) (rest : List Token) → read ++ rules rest ≡ whole → length rest < 1 → read ≡ whole
rules_end whole read [] was none = sym (append-nil read) ∙ ap (λ ps. read ++ ps) (sym (run_values-nil rule_size rule_at)) ∙ was
rules_end whole read (token ∷ rest) was none = absurd (omega arith)
