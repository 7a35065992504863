-- A walk over the elements in order: each is stepped once, by index, until one says to stop.
use Rattle.std.specs.Prelude.{◌≡◌, ◌⊎◌, ℕ, ◌+◌, List, [], ◌∷◌, Option, Result, Ok, Err, ⊤}
use Rattle.cv_doc.specs.declared.elements.Elem.{Elem}

-- a test of the state before a step, and the index and the parent of its element
abbrev pub Ready : Type 0 → Type 1
Ready S = S → ℕ → Option ℕ → Type 0

-- what a step does: the state before it, the index and the parent of its element, its answer and the state after it
abbrev pub Gives : Type 0 → Type 0 → Type 1
Gives S E = S → ℕ → Option ℕ → Result ⊤ E → S → Type 0

-- From index i on each element is ready: the first in this state, and each later one in every state that may be reached there.
abbrev pub AreReady : {S E : Type 0} → Ready S → Gives S E → ℕ → List Elem → S → Type 0
AreReady ready gives i [] s = ⊤
AreReady ready gives i (element ∷ elements) s =
    ready s i element.parent
    × ((t : _) → gives s i element.parent (Ok tt) t → AreReady ready gives (i + 1) elements t)

-- The answer and the last state are reached by steps over the elements from index i on, in order: each is stepped once, and
-- the first that says to stop is the last that is stepped.
abbrev pub Reaches : {S E : Type 0} → Gives S E → ℕ → List Elem → S → Result ⊤ E → S → Type 0
Reaches gives i [] s answer last = (answer ≡ Ok tt) × (last ≡ s)
Reaches {S} {E} gives i (element ∷ elements) s answer last =
    ((stop : E) × (answer ≡ Err stop) × gives s i element.parent (Err stop) last)
    ⊎ ((t : S) × gives s i element.parent (Ok tt) t × Reaches gives (i + 1) elements t answer last)
