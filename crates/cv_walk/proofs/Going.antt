-- A walk under way.
use Rattle.std.proofs.Common.{◌≡◌, ℕ, ◌+◌, List, Bool, Result, length}
use Rattle.std.specs.Prelude.{⊤}
use Rattle.cv_doc.specs.declared.elements.Elem.{Elem}
use Rattle.cv_doc.specs.Walks.{Gives, Ready}
use Rattle.cv_walk.specs.Subtrees.{stepped}
use Rattle.cv_walk.specs.Walks.{AreReadyOver, ReachesOver}

-- From the first state the walk came to this one, at this index: the elements that are left are ready, and what is reached over them is
-- reached over all.
pub record IsGoing {S E : Type 0} (ready : Ready S) (gives : Gives S E) (start : ℕ) (elements : List Elem) (marks : List Bool) (first : S) (index : ℕ) (rest : List Elem) (left : List Bool) (now : S) : Type 0 where
  pub count : index + length rest ≡ start + length elements
  pub ready_left : AreReadyOver ready gives (stepped index rest left) now
  pub reached : (answer : Result ⊤ E) (last : S) → ReachesOver gives (stepped index rest left) now answer last → ReachesOver gives (stepped start elements marks) first answer last
