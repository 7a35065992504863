-- A walk over some elements in order: each is stepped once, until one says to stop.
use Rattle.std.specs.Prelude.{◌≡◌, ◌⊎◌, ℕ, List, [], ◌∷◌, Option, Result, Ok, Err, ⊤}
use Rattle.cv_doc.specs.Walks.{Gives, Ready}
use Rattle.cv_walk.specs.declared.walking.WalkErr.{WalkErr}
use Rattle.cv_walk.specs.declared.walking.WalkErr.TheVariants.{Stop, Memory}

-- Each element is ready: the first in this state, and each later one in every state that may be reached there.
abbrev pub AreReadyOver : {S E : Type 0} → Ready S → Gives S E → List (ℕ × Option ℕ) → S → Type 0
AreReadyOver ready gives [] s = ⊤
AreReadyOver ready gives ((i, parent) ∷ rest) s = ready s i parent × ((t : _) → gives s i parent (Ok tt) t → AreReadyOver ready gives rest t)

-- The answer and the last state are reached by steps over the elements, in order: each is stepped once, and the first that says to stop is
-- the last that is stepped.
abbrev pub ReachesOver : {S E : Type 0} → Gives S E → List (ℕ × Option ℕ) → S → Result ⊤ E → S → Type 0
ReachesOver gives [] s answer last = (answer ≡ Ok tt) × (last ≡ s)
ReachesOver {S} {E} gives ((i, parent) ∷ rest) s answer last =
    ((stop : E) × (answer ≡ Err stop) × gives s i parent (Err stop) last)
    ⊎ ((t : S) × gives s i parent (Ok tt) t × ReachesOver gives rest t answer last)

-- How a walk ends: where memory was wanted, no step was made.
abbrev pub Walked : {S E : Type 0} → Gives S E → List (ℕ × Option ℕ) → S → Result ⊤ (WalkErr E) → S → Type 0
Walked gives elements first (Ok done) last = ReachesOver gives elements first (Ok tt) last
Walked gives elements first (Err (Stop stop)) last = ReachesOver gives elements first (Err stop) last
Walked gives elements first (Err Memory) last = last ≡ first
