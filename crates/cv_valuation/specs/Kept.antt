-- What a property stands for where it isn't invalid.
use Rattle.std.proofs.Common.{refl}
use Rattle.std.specs.Prelude.{◌≡◌, List, ◌⊎◌}
use mathlib.Core.Logic.{inl, inr}
use Rattle.std.specs.Coded.{Coded, coded_list, coded⊎, code_by}
use Rattle.cv_spec_text.specs.declared.token.Token.{Token}
use Rattle.cv_spec_text.specs.contracts.token.Token as of_token
use Rattle.cv_value.specs.declared.typed.Typed.{Typed}
use Rattle.cv_value.specs.contracts.typed.Typed as of_typed

-- a list of tokens, or a typed value
pub data Kept : Type 0 where
  tokens : List Token → Kept
  typed : Typed → Kept

abbrev split : Kept → List Token ⊎ Typed
split (tokens list) = inl list
split (typed value) = inr value

abbrev join : List Token ⊎ Typed → Kept
join (inl list) = tokens list
join (inr value) = typed value

pub join-split : (kept : Kept) → join (split kept) ≡ kept
join-split (tokens list) = refl
join-split (typed value) = refl

abbrev pub code_of_kept : Coded Kept
code_of_kept = code_by (List Token ⊎ Typed) (coded⊎ (coded_list of_token.the_row.coded) of_typed.the_row.coded) split join join-split
