-- References, `var()`, in a list of tokens (Cascading Variables 1, "Using Cascading Variables: the var() notation").
use Rattle.std.specs.Prelude.{◌≡◌, ℕ, ◌+◌, ◌-◌, Bool, false, ◌&&◌, ◌||◌, if◌then◌else◌, List, [], ◌∷◌, length, take, drop, codes, Option, Some, None, Ok, option_map, is_none}
use Rattle.std.proofs.Common.{suc, zero}
use Rattle.cv_spec_text.specs.Keywords.{is_custom, is_word}
use Rattle.cv_spec_text.specs.declared.token.Token.{Token}
use Rattle.cv_spec_text.specs.declared.token.Token.TheVariants.{Ident, Function, Comma}
use Rattle.cv_spec_element.specs.Pieces.{Pieces, finish, token, reference, reference_or, sub}
use Rattle.cv_component.specs.Blocks.{matching}
use Rattle.cv_component.specs.TopLevel.{trim_front, trim_end}
use Rattle.cv_var.specs.Values.{is_value}

abbrev pub is_var : Token → Bool
is_var (Function name) = is_word (codes "var") name
is_var _ = false

-- a name, and the fallback if there is one
abbrev pub Reference : Type 0
Reference = List ℕ × Option (List Token)

-- the custom name at the front, and what comes behind it and whitespace
abbrev pub name_in : List Token → Option (List ℕ × List Token)
name_in (Ident name ∷ rest) = if is_custom name then Some (name, trim_front rest) else None
name_in _ = None

-- behind the name comes nothing, or a comma and a declaration value
abbrev pub fallback_in : List ℕ → List Token → Option Reference
fallback_in name [] = Some (name, None)
fallback_in name (Comma ∷ rest) = if is_value rest then Some (name, Some (trim_end (trim_front rest))) else None
fallback_in name _ = None

abbrev pub named_fallback_in : Option (List ℕ × List Token) → Option Reference
named_fallback_in None = None
named_fallback_in (Some (name, rest)) = fallback_in name rest

-- what stands between the brackets of `var()`
unfoldable pub reference_in : List Token → Option Reference
reference_in inner = named_fallback_in (name_in (trim_front inner))

-- the tokens of a function up to its closing bracket, given its place
abbrev pub inner_to : List Token → Option ℕ → List Token
inner_to tokens None = drop 1 tokens
inner_to tokens (Some end) = take (end - 1) (drop 1 tokens)

-- how many tokens a function takes
abbrev pub size_to : List Token → Option ℕ → ℕ
size_to tokens None = length tokens
size_to tokens (Some end) = end + 1

abbrev pub function_size : List Token → ℕ
function_size tokens = size_to tokens (matching tokens 0)

abbrev pub begins_var : List Token → Bool
begins_var [] = false
begins_var (first ∷ rest) = is_var first

-- the reference that begins here, if one does
abbrev pub reference_at : List Token → Option Reference
reference_at tokens = if begins_var tokens then reference_in (inner_to tokens (matching tokens 0)) else None

-- a `var()` begins here that is no reference
abbrev pub is_bad_var : List Token → Bool
is_bad_var tokens = begins_var tokens && is_none (reference_at tokens)

-- the place of the first `var()` that is no reference
abbrev pub bad_var : List Token → Option ℕ
bad_var [] = None
bad_var (first ∷ rest) = if is_bad_var (first ∷ rest) then Some 0 else option_map suc (bad_var rest)

-- there is a `var()`, at any depth
abbrev pub has_var : List Token → Bool
has_var [] = false
has_var (first ∷ rest) = is_var first || has_var rest

-- the first piece and the others, given how the pieces of a shorter list come: behind the token, or behind the reference
abbrev pub first_piece : Option Reference → Token → (List Token → Pieces (List ℕ) Token) → List Token → List Token → Pieces (List ℕ) Token
first_piece None t pieces rest behind = token t (pieces rest)
first_piece (Some (name, None)) t pieces rest behind = reference name (pieces behind)
first_piece (Some (name, Some fallback)) t pieces rest behind = reference_or name (pieces fallback) (pieces behind)

-- the pieces of a list of at most so many tokens
abbrev pub pieces_within : ℕ → List Token → Pieces (List ℕ) Token
pieces_within zero tokens = finish
pieces_within (suc most) [] = finish
pieces_within (suc most) (t ∷ rest) =
    first_piece (reference_at (t ∷ rest)) t (pieces_within most) rest (drop (function_size (t ∷ rest)) (t ∷ rest))

-- the pieces of a list: its references, each with those of its fallback, and its other tokens
unfoldable pub pieces_of : List Token → Pieces (List ℕ) Token
pieces_of tokens = pieces_within (length tokens) tokens

-- no token of the pieces is a `var(`: each of these is a reference
abbrev pub HoldNoVar : Pieces (List ℕ) Token → Type 0
HoldNoVar finish = Unit {0}
HoldNoVar (token t rest) = (is_var t ≡ false) × HoldNoVar rest
HoldNoVar (reference n rest) = HoldNoVar rest
HoldNoVar (reference_or n fallback rest) = HoldNoVar fallback × HoldNoVar rest

-- what the pieces of a list are, with no bound on its length; a list without `var()` is what substitution makes of it
pub record PiecesAreRead : Type 0 where
  pub none : pieces_of [] ≡ finish
  pub first : (t : Token) (rest : List Token) → pieces_of (t ∷ rest) ≡ first_piece (reference_at (t ∷ rest)) t pieces_of rest (drop (function_size (t ∷ rest)) (t ∷ rest))
  pub plain : (tokens : List Token) → has_var tokens ≡ false → (values : List ℕ → Option (List Token)) → sub values (pieces_of tokens) ≡ Ok tokens
