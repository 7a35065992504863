-- Induction along a walk over a tree: a fact that holds at the start and is kept by each step that goes on.
use Rattle.std.proofs.Common.{◌≡◌, ◌<◌, ◌+◌, ℕ, suc, List, [], ◌∷◌, length, Option, Ok, sym, subst, inl, inr, arith}
use Rattle.std.specs.List.{slice_index_or}
use Rattle.cv_doc.specs.declared.elements.Elem.{Elem}
use Rattle.cv_doc.specs.Kept.{IsParentOf, IsTree}
use Rattle.cv_doc.specs.Walks.{AreReady, Gives, Reaches, Ready}

-- the elements from index i on, where each has a parent as its index wants it
abbrev pub IsTreeFrom : ℕ → List Elem → Type 0
IsTreeFrom i elements = (k : ℕ) (e : Elem) → k < length elements → IsParentOf (i + k) (slice_index_or elements k e).parent

-- each step that goes on keeps the fact
abbrev pub IsKept : {S E : Type 0} → Gives S E → (ℕ → S → Type 0) → Type 0
IsKept {S} {E} gives fact = (i : ℕ) (parent : Option ℕ) (s t : S) → IsParentOf i parent → fact i s → gives s i parent (Ok tt) t → fact (i + 1) t

-- the fact makes an element ready
abbrev pub Readies : {S : Type 0} → Ready S → (ℕ → S → Type 0) → Type 0
Readies {S} ready fact = (i : ℕ) (parent : Option ℕ) (s : S) → IsParentOf i parent → fact i s → ready s i parent

tail : (i : ℕ) (element : Elem) (elements : List Elem) → IsTreeFrom i (element ∷ elements) → IsTreeFrom (i + 1) elements
tail i element elements tree k e lt =
    let next : i + suc k ≡ i + 1 + k = omega arith in
    subst (λ (j : ℕ). IsParentOf j (slice_index_or elements k e).parent) next (tree (suc k) e (omega arith))

head : (i : ℕ) (element : Elem) (elements : List Elem) → IsTreeFrom i (element ∷ elements) → IsParentOf i element.parent
head i element elements tree =
    let here : i + 0 ≡ i = omega arith in
    subst (λ (j : ℕ). IsParentOf j element.parent) here (tree 0 element (omega arith))

ready_from : {S E : Type 0} (ready : Ready S) (gives : Gives S E) (fact : ℕ → S → Type 0) → Readies ready fact → IsKept gives fact
    → (i : ℕ) (elements : List Elem) (s : S) → IsTreeFrom i elements → fact i s → AreReady ready gives i elements s
ready_from ready gives fact readies kept i [] s tree holds = tt
ready_from ready gives fact readies kept i (element ∷ elements) s tree holds =
    let parent = head i element elements tree in (
      readies i element.parent s parent holds,
      λ t given. ready_from ready gives fact readies kept (i + 1) elements t (tail i element elements tree) (kept i element.parent s t parent holds given),
    )

from_start : (elements : List Elem) → IsTree elements → IsTreeFrom 0 elements
from_start elements tree k e lt =
    let same : k ≡ 0 + k = omega arith in
    subst (λ (j : ℕ). IsParentOf j (slice_index_or elements k e).parent) same (tree k e lt)

-- what holds at the start, makes elements ready and is kept makes a whole tree ready
pub ready_along : {S E : Type 0} (ready : Ready S) (gives : Gives S E) (fact : ℕ → S → Type 0) → Readies ready fact → IsKept gives fact
    → (elements : List Elem) (s : S) → IsTree elements → fact 0 s → AreReady ready gives 0 elements s
ready_along ready gives fact readies kept elements s tree holds =
    ready_from ready gives fact readies kept 0 elements s (from_start elements tree) holds

kept_from : {S E : Type 0} (gives : Gives S E) (fact : ℕ → S → Type 0) → IsKept gives fact
    → (i : ℕ) (elements : List Elem) (s last : S) → IsTreeFrom i elements → fact i s → Reaches gives i elements s (Ok tt) last
    → fact (i + length elements) last
kept_from gives fact kept i [] s last tree holds reached =
    let same : i ≡ i + 0 = omega arith in
    subst (λ j. fact j last) same (subst (fact i) (sym reached.1) holds)
kept_from gives fact kept i (element ∷ elements) s last tree holds (inl stopped) = let no = stopped.1 in cc
kept_from gives fact kept i (element ∷ elements) s last tree holds (inr went) =
    let next = kept i element.parent s went.0 (head i element elements tree) holds went.1 in
    let more = kept_from gives fact kept (i + 1) elements went.0 last (tail i element elements tree) next went.2 in
    let same : i + 1 + length elements ≡ i + suc (length elements) = omega arith in
    subst (λ j. fact j last) same more

-- and holds at the end of a walk that no step stopped
pub kept_along : {S E : Type 0} (gives : Gives S E) (fact : ℕ → S → Type 0) → IsKept gives fact
    → (elements : List Elem) (s last : S) → IsTree elements → fact 0 s → Reaches gives 0 elements s (Ok tt) last
    → fact (length elements) last
kept_along gives fact kept elements s last tree holds reached =
    let same : 0 + length elements ≡ length elements = omega arith in
    subst (λ j. fact j last) same (kept_from gives fact kept 0 elements s last (from_start elements tree) holds reached)
