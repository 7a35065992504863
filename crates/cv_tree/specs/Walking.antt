-- One step of the walk over the tree.
use Rattle.std.specs.Prelude.{ℕ, ◌≡◌, ◌<◌, ◌≤◌, ◌++◌, All, [], ◌∷◌, length, List, Option, Some, Ok, Err, IfSome, Result, ⊤}
use Rattle.std.specs.List.{slice_get}
use Rattle.cv_valuation.specs.declared.computed.Computed.{Computed}
use Rattle.cv_valuation.specs.declared.key.Key.{Key}
use Rattle.cv_valuation.specs.Valuations.{Values}
use Rattle.cv_props.specs.Registered.{AreEntries}
use Rattle.cv_props.specs.Winners.{Declarations}
use Rattle.cv_spec_valuation.specs.declared.place.Place.{Place}
use Rattle.cv_spec_valuation.specs.Computed.{IsComputed, IsOutOfRange, StandUnder}
use Rattle.cv_tree.specs.Contents.{AreFew}
use Rattle.cv_tree.specs.Tree.{AllStand, Tree, the_tree, parent_in, place_in, values_in}
use Rattle.cv_tree.specs.declared.tree.Computing.{Computing}
use Rattle.cv_tree.specs.declared.tree.Stop.{Stop}
use Rattle.cv_tree.specs.declared.tree.Stop.TheVariants as stop

-- the tree that is walked, where these are the parents of its elements
abbrev pub tree_in : Computing → List (Option ℕ) → Tree
tree_in computing parents = the_tree computing.registry.now parents computing.declarations.now computing.width computing.height

-- The limit is one that an element may have, the element has declarations, not too many, and all elements before it, its parent
-- among them, are computed.
pub record IsReady (computing : Computing) (index : ℕ) (parent : Option ℕ) : Type 0 where
  pub least : 1 ≤ computing.limit
  pub most : computing.limit ≤ 32768
  pub declared : index < length computing.declarations.now
  pub few : All AreFew computing.declarations.now
  pub before : length computing.all.items ≡ index
  pub stand : AllStand computing.registry.now computing.all.items
  pub earlier : IfSome parent (λ at. at < length computing.all.items)

abbrev pub values_before : Computing → List Values
values_before computing = values_in computing.all.items

abbrev pub place_for : Computing → Option ℕ → Place
place_for computing parent = place_in computing.width computing.height (values_before computing) parent

-- what is computed of the next element, by its declarations and its parent's values
pub record IsNextOf (computing : Computing) (index : ℕ) (parent : Option ℕ) (computed : Computed) : Type 0 where
  pub decls : Declarations
  pub declares : slice_get computing.declarations.now index ≡ Some decls
  pub next : IsComputed computing.registry.now decls (parent_in (values_before computing) parent) (place_for computing parent) computing.limit computed
  pub stand : StandUnder computing.registry.now computed.values

-- the property is out of range on the next element
pub record IsNextOut (computing : Computing) (index : ℕ) (parent : Option ℕ) (property : Key) : Type 0 where
  pub decls : Declarations
  pub declares : slice_get computing.declarations.now index ≡ Some decls
  pub out : IsOutOfRange computing.registry.now decls (parent_in (values_before computing) parent) (place_for computing parent) computing.limit property

-- what is computed of one more element is kept, and the rest stays
pub record IsKept (old : Computing) (computed : Computed) (new : Computing) : Type 0 where
  pub all : new.all.items ≡ old.all.items ++ computed ∷ []
  pub declarations : new.declarations.now ≡ old.declarations.now
  pub registry : new.registry.now ≡ old.registry.now
  pub width : new.width ≡ old.width
  pub height : new.height ≡ old.height
  pub limit : new.limit ≡ old.limit

-- one more element is computed
pub record IsOneMore (old : Computing) (index : ℕ) (parent : Option ℕ) (new : Computing) : Type 0 where
  pub computed : Computed
  pub next : IsNextOf old index parent computed
  pub kept : IsKept old computed new

-- what a step does
abbrev pub Stepped : Computing → ℕ → Option ℕ → Result ⊤ Stop → Computing → Type 0
Stepped old index parent (Ok done) new = IsOneMore old index parent new
Stepped old index parent (Err stop.Memory) new = Unit {0}
Stepped old index parent (Err (stop.Range element property)) new = (element ≡ index) × IsNextOut old index parent property
