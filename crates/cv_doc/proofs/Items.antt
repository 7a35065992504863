-- Reading the items of an array: what is read so far, and what is still to be read.
use Rattle.std.proofs.Common.{◌≡◌, ℕ, ◌+◌, List, [], ◌∷◌, ◌++◌, Ok, Result, length, arith, refl}
use Rattle.serde_json.specs.Data.{Data}
use Rattle.serde_json.specs.View.{items_view}
use Rattle.serde_json.specs.declared.value.Value.{Value}
use Rattle.cv_doc.specs.Members.{count_of}
use Rattle.cv_doc.specs.Refusals.{Refusal, all_from, and_then}

-- What is read of the whole is what was read so far and what is read of the rest, from its number on.
pub record IsReadUpTo {T : Type 0} (read : ℕ → Data → Result T Refusal) (whole : List Value) (index : ℕ) (rest : List Value) (done : List T) : Type 0 where
  pub count : index + length rest ≡ length whole
  pub goes_on : all_from read 0 (items_view whole) ≡ and_then (all_from read index (items_view rest)) (λ more. Ok (done ++ more))

-- as many items as values
pub count_of_items : (vs : List Value) → count_of (items_view vs) ≡ length vs
count_of_items [] = refl
count_of_items (v ∷ vs) = grind (arith, count_of_items vs)
