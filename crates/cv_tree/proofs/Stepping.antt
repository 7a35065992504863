-- Styles that are read one after another.
use Rattle.std.proofs.Common.{◌≡◌, ℕ, ◌+◌, List, ◌∷◌, ◌++◌, refl}
use Rattle.cv_doc.specs.declared.elements.Elem.{Elem}
use Rattle.cv_props.specs.Kept.{notes_on}
use Rattle.cv_tree.specs.Styles.{elements_notes, items_in}

-- the notes on one more element
pub notes_next : (n : ℕ) (e : Elem) (es : List Elem) → elements_notes n (e ∷ es) ≡ notes_on n (items_in e.style) ++ elements_notes (n + 1) es
notes_next n e es = refl
