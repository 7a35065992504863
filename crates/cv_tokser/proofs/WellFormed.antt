-- What is known of each token of a text.
use Rattle.std.proofs.Common.{◌≡◌, ℕ, ◌<◌, List, [], ◌∷◌, ◌++◌, length, take, drop, suc, zero}
use Rattle.std.specs.Prelude.{Bool, true, false, not, ◌||◌, ◌&&◌, ◌==◌, ⊤}
use Rattle.std.specs.Char.{is_ascii_digit}
use Rattle.std.proofs.Math.Utf8.{scalar}
use Rattle.cv_spec_text.specs.declared.token.Token.{Token}
use Rattle.cv_spec_text.specs.declared.token.Token.TheVariants.{Ident, Function, At, Hash, Str, Url, Delim, Number, Percentage, Dimension}
use Rattle.cv_spec_text.specs.Characters.{form_feed, carriage_return, is_whitespace, is_quote, is_ident_start}
use Rattle.cv_spec_text.specs.Tokens.{single}
use Rattle.cv_tokser.proofs.NumbersBack.{IsNumber}
use Rattle.cv_tokser.proofs.IdentsBack.{is_no_identifier}

-- a code point that a name may hold
abbrev pub is_nameable : ℕ → Bool
is_nameable c = scalar c && not (c == 0)

-- a code point that preprocessing keeps
abbrev pub is_kept : ℕ → Bool
is_kept c = scalar c && not (c == 0 || c == form_feed || c == carriage_return)

-- each code point passes
abbrev pub AreAll : (ℕ → Bool) → List ℕ → Type 0
AreAll p [] = ⊤
AreAll p (c ∷ cs) = (p c ≡ true) × AreAll p cs

-- a name with a code point at least
pub record IsName (name : List ℕ) : Type 0 where
  pub some : 0 < length name
  pub nameable : AreAll is_nameable name

-- a number, as a text gives it
pub record IsSpelling (spelling : List ℕ) : Type 0 where
  pub number : IsNumber spelling
  pub kept : AreAll is_kept spelling

-- a code point that is a token by itself, and no bracket, comma, colon or semicolon
pub record IsDelimiter (c : ℕ) : Type 0 where
  pub kept : is_kept c ≡ true
  pub plain : (is_whitespace c || is_quote c || is_ascii_digit c || is_ident_start c) ≡ false
  pub single : single c ≡ Delim c

abbrev pub IsWellFormed : Token → Type 0
IsWellFormed (Ident name) = IsName name
IsWellFormed (Function name) = IsName name
IsWellFormed (At name) = IsName name
IsWellFormed (Hash name true) = IsName name
IsWellFormed (Hash name false) = IsName name × (is_no_identifier name ≡ true)
IsWellFormed (Str text) = AreAll is_nameable text
IsWellFormed (Url text) = AreAll is_nameable text
IsWellFormed (Delim c) = IsDelimiter c
IsWellFormed (Number number) = IsSpelling number
IsWellFormed (Percentage number) = IsSpelling number
IsWellFormed (Dimension number name) = IsSpelling number × IsName name
IsWellFormed _ = ⊤

-- each is well formed
abbrev pub AreWellFormed : List Token → Type 0
AreWellFormed [] = ⊤
AreWellFormed (token ∷ tokens) = IsWellFormed token × AreWellFormed tokens

pub AreAll-append : (p : ℕ → Bool) (xs ys : List ℕ) → AreAll p xs → AreAll p ys → AreAll p (xs ++ ys)
AreAll-append p [] ys all all' = all'
AreAll-append p (x ∷ xs) ys all all' = (all.0, AreAll-append p xs ys all.1 all')

pub AreAll-drop : (p : ℕ → Bool) (n : ℕ) (xs : List ℕ) → AreAll p xs → AreAll p (drop n xs)
AreAll-drop p zero xs all = all
AreAll-drop p (suc n) [] all = tt
AreAll-drop p (suc n) (x ∷ xs) all = AreAll-drop p n xs all.1

pub AreAll-take : (p : ℕ → Bool) (n : ℕ) (xs : List ℕ) → AreAll p xs → AreAll p (take n xs)
AreAll-take p zero xs all = tt
AreAll-take p (suc n) [] all = tt
AreAll-take p (suc n) (x ∷ xs) all = (all.0, AreAll-take p n xs all.1)
