-- The top level of a list, the brackets that close it, and its depth, with no brackets kept beside: a list is plain tokens and
-- whole blocks, and at its end there may be a block that isn't closed (CSS Syntax 3, "Consume a simple block").
use Rattle.std.specs.Prelude.{◌≡◌, ℕ, Bool, true, false, max, List, [], ◌∷◌, ◌++◌, length, take, Some, None}
use Rattle.std.proofs.Common.{suc}
use Rattle.cv_spec_text.specs.declared.token.Bracket.{Bracket}
use Rattle.cv_spec_text.specs.declared.token.Token.{Token}
use Rattle.cv_spec_text.specs.declared.token.Token.TheVariants.{Close}
use Rattle.cv_component.specs.Nesting.{opened, is_kind, depth, completed}
use Rattle.cv_component.specs.TopLevel.{top_length}
use Rattle.cv_component.specs.Balance.{IsBlock}

-- no front of the tokens closes a bracket of this kind
abbrev pub IsOpen : Bracket → List Token → Type 0
IsOpen kind tokens = (n : ℕ) → IsBlock kind (take n tokens) → ⊥

-- plain tokens and whole blocks, none of which begins with a token that stops
pub data AreWhole (stops : Token → Bool) : List Token → Type 0 where
  nothing : AreWhole stops []
  plain : (token : Token) (rest : List Token) → stops token ≡ false → opened token ≡ None → AreWhole stops rest → AreWhole stops (token ∷ rest)
  whole : (kind : Bracket) (token : Token) (inner rest : List Token) → stops token ≡ false → opened token ≡ Some kind → IsBlock kind inner → AreWhole stops rest → AreWhole stops (token ∷ inner ++ rest)

-- so many tokens stand before the first at the top level that stops: all, where none does
pub data StopsAfter (stops : Token → Bool) : List Token → ℕ → Type 0 where
  nowhere : (tokens : List Token) → AreWhole stops tokens → StopsAfter stops tokens (length tokens)
  within : (kind : Bracket) (front inner : List Token) (token : Token) → AreWhole stops front → stops token ≡ false → opened token ≡ Some kind → IsOpen kind inner → StopsAfter stops (front ++ token ∷ inner) (length (front ++ token ∷ inner))
  before : (front rest : List Token) (token : Token) → AreWhole stops front → stops token ≡ true → StopsAfter stops (front ++ token ∷ rest) (length front)

-- the token closes a bracket of this kind
abbrev pub closes : Bracket → Token → Bool
closes kind (Close bracket) = is_kind kind bracket
closes kind _ = false

abbrev pub never : Token → Bool
never token = false

-- the brackets that close what is open at the end of a list, the innermost first; at its top level no token stops
pub data AreClosedBy : (Token → Bool) → List Token → List Token → Type 0 where
  closed : (stops : Token → Bool) (tokens : List Token) → AreWhole stops tokens → AreClosedBy stops tokens []
  open_in : (stops : Token → Bool) (kind : Bracket) (front inner closers : List Token) (token : Token) → AreWhole stops front → stops token ≡ false → opened token ≡ Some kind → AreClosedBy (closes kind) inner closers
      → AreClosedBy stops (front ++ token ∷ inner) (closers ++ Close kind ∷ [])

-- one block deeper than what stands in the deepest block
pub data IsDeep : List Token → ℕ → Type 0 where
  flat : IsDeep [] 0
  past : (token : Token) (rest : List Token) (n : ℕ) → opened token ≡ None → IsDeep rest n → IsDeep (token ∷ rest) n
  in_block : (kind : Bracket) (token : Token) (inner rest : List Token) (m n : ℕ) → opened token ≡ Some kind → IsBlock kind inner → IsDeep inner m → IsDeep rest n → IsDeep (token ∷ inner ++ rest) (max (suc m) n)
  in_open : (kind : Bracket) (token : Token) (inner : List Token) (m : ℕ) → opened token ≡ Some kind → IsOpen kind inner → IsDeep inner m → IsDeep (token ∷ inner) (suc m)

-- Where the top level stops, what closes a list, and how deep it is, as the kept brackets say and by these definitions.
pub record TopLevelsAreBalanced : Type 0 where
  pub stops_after : (stops : Token → Bool) (tokens : List Token) → StopsAfter stops tokens (top_length stops tokens)
  pub stops_there : (stops : Token → Bool) (tokens : List Token) (n : ℕ) → StopsAfter stops tokens n → top_length stops tokens ≡ n
  pub closers : (tokens : List Token) → (closers : List Token) × (completed tokens ≡ tokens ++ closers) × AreClosedBy never tokens closers
  pub closed_by : (tokens closers : List Token) → AreClosedBy never tokens closers → completed tokens ≡ tokens ++ closers
  pub deep : (tokens : List Token) → IsDeep tokens (depth tokens)
  pub depth_is : (tokens : List Token) (n : ℕ) → IsDeep tokens n → depth tokens ≡ n
