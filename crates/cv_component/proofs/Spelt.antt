-- The brackets that close a list are tokens of some text.
use Rattle.std.proofs.Common.{◌≡◌, ℕ, zero, suc, ◌<◌, List, [], ◌∷◌, map, refl, sym, ap, ◌∙◌, subst, lit<}
use Rattle.std.specs.Prelude.{All, Contains, IsAscii}
use Rattle.std.proofs.lemmas.List.Elements.{All-append, All-map}
use Rattle.std.proofs.lemmas.Str.{chars-IsAscii, IsUtf8-from_ascii}
use Rattle.cv_spec_text.specs.Characters.{right_parenthesis, right_square_bracket, right_curly_bracket}
use Rattle.cv_spec_text.specs.Text.{preprocessed}
use Rattle.cv_spec_text.specs.Tokens.{first_row, single, tokens, tokens_of}
use Rattle.cv_spec_text.specs.Names.{begins_name}
use Rattle.cv_spec_text.specs.Numbers.{number_length, mantissa_length, fraction_length}
use Rattle.cv_spec_text.specs.Runs.{run_values}
use Rattle.cv_spec_text.specs.Splits.{IsSpelt}
use Rattle.cv_spec_text.specs.declared.token.Bracket.{Bracket}
use Rattle.cv_spec_text.specs.declared.token.Bracket.TheVariants.{Round, Square, Curly}
use Rattle.cv_spec_text.specs.declared.token.Token.{Token}
use Rattle.cv_spec_text.specs.declared.token.Token.TheVariants.{Close}
use Rattle.cv_component.specs.Nesting.{completed, nesting_past}

tokens_of_ascii : (text : List ℕ) → IsAscii text → tokens text ≡ tokens_of (preprocessed text)
tokens_of_ascii text ascii = ap (λ cs. tokens_of (preprocessed cs)) (chars-IsAscii text ascii)

one_ascii : (c : ℕ) → c < 128 → IsAscii (c ∷ [])
one_ascii c small zero = small
one_ascii c small (suc i) = lit< tt

-- a closing bracket is the token of a text
one_close : (c : ℕ) (bracket : Bracket) → c < 128 → tokens_of (preprocessed (c ∷ [])) ≡ Close bracket ∷ [] → IsSpelt (Close bracket)
one_close c bracket small is =
    let only : Contains (Close bracket ∷ []) (Close bracket) = (0, lit< tt, refl) in
    (c ∷ [], IsUtf8-from_ascii (c ∷ []) (one_ascii c small), subst (λ ts. Contains ts (Close bracket)) (sym (tokens_of_ascii (c ∷ []) (one_ascii c small) ∙ is)) only)

pub spelt_close : (bracket : Bracket) → IsSpelt (Close bracket)
unfolding run_values first_row begins_name single number_length mantissa_length fraction_length
spelt_close Round = one_close right_parenthesis Round (lit< tt) refl
spelt_close Square = one_close right_square_bracket Square (lit< tt) refl
spelt_close Curly = one_close right_curly_bracket Curly (lit< tt) refl

pub all_completed : (tokens : List Token) → All IsSpelt tokens → All IsSpelt (completed tokens)
all_completed tokens holds =
    All-append IsSpelt tokens (map Close (nesting_past [] tokens)) holds (All-map IsSpelt Close (nesting_past [] tokens) (λ k d h. spelt_close _))
