-- A tree once one of its elements has other declarations, and what is computed of it: anew of that element and its descendants, and as
-- before of each other (this project's own).
use Rattle.std.specs.Prelude.{ℕ, zero, suc, ◌+◌, ◌<◌, ◌≤◌, All, List, [], ◌∷◌, length, map, Option, Some, None, slice_set}
use Rattle.cv_valuation.specs.declared.computed.Computed.{Computed}
use Rattle.cv_props.specs.Winners.{Declarations}
use Rattle.cv_tree.specs.Contents.{AreFew}
use Rattle.cv_tree.specs.Tree.{AllStand, AreComputed, IsTree, Tree, parent_of, the_tree}
use Rattle.cv_walk.specs.Extents.{AreExtents}
use Rattle.cv_update.specs.declared.fresh.Fresh.{Fresh}
use Rattle.cv_update.specs.declared.renewal.Renewal.{Renewal}

-- the tree in which the element with this index has these declarations
abbrev pub with_declarations : Tree → ℕ → Declarations → Tree
with_declarations tree at decls = record tree { declarations = slice_set tree.declarations at decls }

-- the list with others in their places, from this place on; where the others have nothing, and past them, it is as it was
abbrev pub put_from : List Computed → ℕ → List (Option Computed) → List Computed
put_from [] start fresh = []
put_from (c ∷ cs) (suc start) fresh = c ∷ put_from cs start fresh
put_from (c ∷ cs) zero [] = c ∷ cs
put_from (c ∷ cs) zero (None ∷ fresh) = c ∷ put_from cs zero fresh
put_from (c ∷ cs) zero (Some computed ∷ fresh) = computed ∷ put_from cs zero fresh

-- what is computed of all elements, where this is what was, and some of it is computed anew
abbrev pub with_fresh : List Computed → Fresh → List Computed
with_fresh all fresh = put_from all fresh.start fresh.all.items

-- no more is computed anew than there was
abbrev pub IsWithin : Fresh → List Computed → Type 0
IsWithin fresh all = fresh.start + length fresh.all.items ≤ length all

-- the tree before the renewal, and after it
abbrev pub tree_before : Renewal → Tree
tree_before r = the_tree r.registry.now (map parent_of r.elements.now.items) r.maps.now r.width r.height

abbrev pub declared_after : Renewal → List Declarations
declared_after r = slice_set r.maps.now r.at r.declared.now

abbrev pub tree_after : Renewal → Tree
tree_after r = with_declarations (tree_before r) r.at r.declared.now

-- All of the tree was computed, and the element is there.
pub record IsRenewable (r : Renewal) : Type 0 where
  pub least : 1 ≤ r.limit
  pub most : r.limit ≤ 32768
  pub few_elements : length r.elements.now.items ≤ 16384
  pub extents : AreExtents r.elements.now.items r.extents.now
  pub tree : IsTree (tree_before r)
  pub few : All AreFew r.maps.now
  pub computed : AreComputed (tree_before r) r.limit (length r.elements.now.items) r.all.now
  pub stand : AllStand r.registry.now r.all.now
  pub there : r.at < length r.elements.now.items
  pub few_declared : AreFew r.declared.now
