-- Styles that were read, and are found again by their texts.
use Rattle.std.specs.Prelude.{ℕ, ◌≡◌, ◌++◌, ◌∷◌, [], List, Option, Some}
use Rattle.std.specs.List.{slice_get}
use Rattle.cv_props.specs.declared.note.Note.{Note}
use Rattle.cv_props.specs.Kept.{notes_on}
use Rattle.cv_props.specs.Winners.{Declarations}
use Rattle.cv_tree.specs.Contents.{AreFew}
use Rattle.cv_tree.specs.Styles.{declarations_in, items_in}

-- there is no note on the items of the style, whatever the number of its element
abbrev pub IsQuiet : List ℕ → Type 0
IsQuiet style = (number : ℕ) → notes_on number (items_in style) ≡ []

-- the declarations of a style without notes
pub record IsReadOf (style : List ℕ) (read : Declarations) : Type 0 where
  pub declarations : read ≡ declarations_in style
  pub few : AreFew read
  pub quiet : IsQuiet style

-- the declarations of the style stand at the place
pub record HasRead (all : List Declarations) (style : List ℕ) (place : ℕ) : Type 0 where
  pub declarations : Declarations
  pub at : slice_get all place ≡ Some declarations
  pub read : IsReadOf style declarations

-- where a style has a place, its declarations stand there
abbrev pub AreRead : (List ℕ → Option ℕ) → List Declarations → Type 0
AreRead place_of all = (style : List ℕ) (place : ℕ) → place_of style ≡ Some place → HasRead all style place

-- the declarations of one more element are added, with the notes on them
pub record IsAdded (number : ℕ) (style : List ℕ) (all : List Declarations) (before : List Note) (place_of : List ℕ → Option ℕ) (more : List Declarations) (noted : List Note) : Type 0 where
  pub declarations : more ≡ all ++ declarations_in style ∷ []
  pub few : AreFew (declarations_in style)
  pub notes : noted ≡ before ++ notes_on number (items_in style)
  pub read : AreRead place_of more
