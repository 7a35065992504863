-- A walk under way.
use Rattle.std.proofs.Common.{◌≡◌, ℕ, ◌+◌, List, Result, length}
use Rattle.std.specs.Prelude.{⊤}
use Rattle.cv_doc.specs.declared.elements.Elem.{Elem}
use Rattle.cv_doc.specs.Walks.{AreReady, Gives, Reaches, Ready}

-- From the first state the walk came to this one, at this index: the elements that are left are ready, and what is reached over
-- them is reached over all.
pub record IsUnderWay {S E : Type 0} (ready : Ready S) (gives : Gives S E) (elements : List Elem) (first : S) (index : ℕ) (rest : List Elem) (now : S) : Type 0 where
  pub count : index + length rest ≡ length elements
  pub left : AreReady ready gives index rest now
  pub reached : (answer : Result ⊤ E) (last : S) → Reaches gives index rest now answer last → Reaches gives 0 elements first answer last
