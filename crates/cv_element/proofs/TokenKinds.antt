-- What kinds of tokens there are to a keyword and to whitespace.
use Rattle.std.proofs.Common.{◌≡◌, ℕ, false, List, [], ◌∷◌, None, ◌⊎◌, inl, inr, refl}
use Rattle.cv_spec_text.specs.declared.token.Token.{Token}
use Rattle.cv_spec_text.specs.declared.token.Token.TheVariants.{Ident, Function, At, Hash, Str, BadStr, Url, BadUrl, Delim, Number, Percentage, Dimension, White, Cdo, Cdc, Colon, Semicolon, Comma, Open, Close}
use Rattle.cv_component.specs.TopLevel.{trim_front}
use Rattle.cv_value_laws.specs.Values.{is_keyword}
use Rattle.cv_component.specs.Parts.{is_white}
use Rattle.cv_spec_valuation.specs.Element.{keyword}

-- a token that isn't whitespace stays at the front
pub record Stays (t : Token) : Type 0 where
  pub is : is_white t ≡ false
  pub front : (rest : List Token) → trim_front (t ∷ rest) ≡ t ∷ rest

pub white_or_not : (t : Token) → (t ≡ White) ⊎ Stays t
white_or_not (Ident name) = inr (record { is = refl; front = λ rest. refl })
white_or_not (Function name) = inr (record { is = refl; front = λ rest. refl })
white_or_not (At name) = inr (record { is = refl; front = λ rest. refl })
white_or_not (Hash name id) = inr (record { is = refl; front = λ rest. refl })
white_or_not (Str text) = inr (record { is = refl; front = λ rest. refl })
white_or_not BadStr = inr (record { is = refl; front = λ rest. refl })
white_or_not (Url text) = inr (record { is = refl; front = λ rest. refl })
white_or_not BadUrl = inr (record { is = refl; front = λ rest. refl })
white_or_not (Delim c) = inr (record { is = refl; front = λ rest. refl })
white_or_not (Number number) = inr (record { is = refl; front = λ rest. refl })
white_or_not (Percentage number) = inr (record { is = refl; front = λ rest. refl })
white_or_not (Dimension number unit) = inr (record { is = refl; front = λ rest. refl })
white_or_not White = inl refl
white_or_not Cdo = inr (record { is = refl; front = λ rest. refl })
white_or_not Cdc = inr (record { is = refl; front = λ rest. refl })
white_or_not Colon = inr (record { is = refl; front = λ rest. refl })
white_or_not Semicolon = inr (record { is = refl; front = λ rest. refl })
white_or_not Comma = inr (record { is = refl; front = λ rest. refl })
white_or_not (Open bracket) = inr (record { is = refl; front = λ rest. refl })
white_or_not (Close bracket) = inr (record { is = refl; front = λ rest. refl })

-- a token that is no ident is no keyword
pub record IsNoKeyword (t : Token) : Type 0 where
  pub keyword_is : keyword t ≡ None
  pub alone : is_keyword (t ∷ []) ≡ false

pub ident_or_not : (t : Token) → ((name : List ℕ) × (t ≡ Ident name)) ⊎ IsNoKeyword t
ident_or_not (Ident name) = inl (name, refl)
ident_or_not (Function name) = inr (record { keyword_is = refl; alone = refl })
ident_or_not (At name) = inr (record { keyword_is = refl; alone = refl })
ident_or_not (Hash name id) = inr (record { keyword_is = refl; alone = refl })
ident_or_not (Str text) = inr (record { keyword_is = refl; alone = refl })
ident_or_not BadStr = inr (record { keyword_is = refl; alone = refl })
ident_or_not (Url text) = inr (record { keyword_is = refl; alone = refl })
ident_or_not BadUrl = inr (record { keyword_is = refl; alone = refl })
ident_or_not (Delim c) = inr (record { keyword_is = refl; alone = refl })
ident_or_not (Number number) = inr (record { keyword_is = refl; alone = refl })
ident_or_not (Percentage number) = inr (record { keyword_is = refl; alone = refl })
ident_or_not (Dimension number unit) = inr (record { keyword_is = refl; alone = refl })
ident_or_not White = inr (record { keyword_is = refl; alone = refl })
ident_or_not Cdo = inr (record { keyword_is = refl; alone = refl })
ident_or_not Cdc = inr (record { keyword_is = refl; alone = refl })
ident_or_not Colon = inr (record { keyword_is = refl; alone = refl })
ident_or_not Semicolon = inr (record { keyword_is = refl; alone = refl })
ident_or_not Comma = inr (record { keyword_is = refl; alone = refl })
ident_or_not (Open bracket) = inr (record { keyword_is = refl; alone = refl })
ident_or_not (Close bracket) = inr (record { keyword_is = refl; alone = refl })

-- two tokens are no keyword
pub two_no_keyword : (t second : Token) (rest : List Token) → is_keyword (t ∷ second ∷ rest) ≡ false
two_no_keyword (Ident name) second rest = refl
two_no_keyword (Function name) second rest = refl
two_no_keyword (At name) second rest = refl
two_no_keyword (Hash name id) second rest = refl
two_no_keyword (Str text) second rest = refl
two_no_keyword BadStr second rest = refl
two_no_keyword (Url text) second rest = refl
two_no_keyword BadUrl second rest = refl
two_no_keyword (Delim c) second rest = refl
two_no_keyword (Number number) second rest = refl
two_no_keyword (Percentage number) second rest = refl
two_no_keyword (Dimension number unit) second rest = refl
two_no_keyword White second rest = refl
two_no_keyword Cdo second rest = refl
two_no_keyword Cdc second rest = refl
two_no_keyword Colon second rest = refl
two_no_keyword Semicolon second rest = refl
two_no_keyword Comma second rest = refl
two_no_keyword (Open bracket) second rest = refl
two_no_keyword (Close bracket) second rest = refl
