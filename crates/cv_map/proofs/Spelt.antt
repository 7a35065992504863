-- What is put between the items of a list are tokens of texts.
use Rattle.std.proofs.Common.{◌≡◌, ℕ, zero, suc, ◌<◌, List, [], ◌∷◌, ◌++◌, refl, sym, ap, ◌∙◌, subst, lit<}
use Rattle.std.specs.Prelude.{All, Contains, IsAscii}
use Rattle.std.proofs.lemmas.List.Elements.{All-append, All-cons, All-nil}
use Rattle.std.proofs.lemmas.Str.{chars-IsAscii, IsUtf8-from_ascii}
use Rattle.cv_spec_text.specs.Characters.{comma, space}
use Rattle.cv_spec_text.specs.Text.{preprocessed}
use Rattle.cv_spec_text.specs.Tokens.{first_row, single, tokens, tokens_of}
use Rattle.cv_spec_text.specs.Names.{begins_name}
use Rattle.cv_spec_text.specs.Numbers.{number_length, mantissa_length, fraction_length}
use Rattle.cv_spec_text.specs.Runs.{run_values, run_length}
use Rattle.cv_spec_text.specs.Splits.{IsSpelt}
use Rattle.cv_spec_text.specs.declared.token.Token.{Token}
use Rattle.cv_spec_text.specs.declared.token.Token.TheVariants as token
use Rattle.cv_map.specs.Lists.{between_tokens}
use Rattle.cv_map.specs.declared.between.Between.{Between}
use Rattle.cv_map.specs.declared.between.Between.TheVariants.{White, Comma}

tokens_of_ascii : (text : List ℕ) → IsAscii text → tokens text ≡ tokens_of (preprocessed text)
tokens_of_ascii text ascii = ap (λ cs. tokens_of (preprocessed cs)) (chars-IsAscii text ascii)

one_ascii : (c : ℕ) → c < 128 → IsAscii (c ∷ [])
one_ascii c small zero = small
one_ascii c small (suc i) = lit< tt

-- the token of a text of one character
one_spelt : (c : ℕ) (t : Token) → c < 128 → tokens_of (preprocessed (c ∷ [])) ≡ t ∷ [] → IsSpelt t
one_spelt c t small is =
    let only : Contains (t ∷ []) t = (0, lit< tt, refl) in
    (c ∷ [], IsUtf8-from_ascii (c ∷ []) (one_ascii c small), subst (λ ts. Contains ts t) (sym (tokens_of_ascii (c ∷ []) (one_ascii c small) ∙ is)) only)

white_spelt : IsSpelt token.White
unfolding run_values run_length first_row
white_spelt = one_spelt space token.White (lit< tt) refl

comma_spelt : IsSpelt token.Comma
unfolding run_values first_row begins_name single number_length mantissa_length fraction_length
comma_spelt = one_spelt comma token.Comma (lit< tt) refl

between_spelt : (between : Between) → All IsSpelt (between_tokens between)
between_spelt White = All-cons IsSpelt token.White [] white_spelt (All-nil IsSpelt)
between_spelt Comma = All-cons IsSpelt token.Comma (token.White ∷ []) comma_spelt (All-cons IsSpelt token.White [] white_spelt (All-nil IsSpelt))

pub all_joined : (between : Between) (old value : List Token) → All IsSpelt old → All IsSpelt value → All IsSpelt (old ++ between_tokens between ++ value)
all_joined between old value first last =
    All-append IsSpelt (old ++ between_tokens between) value (All-append IsSpelt old (between_tokens between) first (between_spelt between)) last
