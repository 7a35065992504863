-- What a session keeps beside its watchers, and how it answers.
use Rattle.std.specs.Prelude.{ℕ, ◌≡◌, ◌≤◌, ◌<◌, true, All, List, length, map, Option, Some, None, IfSome, codes, slice_get, slice_set}
use Rattle.std.specs.Map.{keys_of}
use Rattle.std.specs.Set.{is_member}
use Rattle.cv_doc.specs.declared.command.Command.{Command}
use Rattle.cv_doc.specs.Reading.{Shape}
use Rattle.cv_valuation.specs.declared.computed.Computed.{Computed}
use Rattle.cv_valuation.specs.declared.key.Key.{Key}
use Rattle.cv_valuation.specs.Keys.{key_named, same_key}
use Rattle.cv_props.specs.Winners.{Declarations}
use Rattle.cv_tree.specs.Contents.{AreFew}
use Rattle.cv_tree.specs.Names.{counted_names, name_of_command}
use Rattle.cv_tree.specs.Styles.{declarations_of, notes_of}
use Rattle.cv_tree.specs.Tree.{AllStand, IsOutOfRange, IsTree, parent_of}
use Rattle.cv_update.specs.Changes.{changes}
use Rattle.cv_update.specs.Names.{AreTold, IsNamed, key_of}
use Rattle.cv_update.specs.Renewed.{IsWithin, with_fresh}
use Rattle.cv_walk.specs.Extents.{AreExtents}
use Rattle.cv_session.specs.declared.answer.Altered.{Altered}
use Rattle.cv_session.specs.declared.answer.Answer.{Answer}
use Rattle.cv_session.specs.declared.answer.Answer.TheVariants.{Text, Changed, Unwatch}
use Rattle.cv_session.specs.declared.scene.Scene.{Scene}
use Rattle.cv_session.specs.Asking.{Asked, declare, drop, on_element, text}
use Rattle.cv_session.specs.Fold.{AreComputedBy, Setting, tree_with}
use Rattle.cv_session.specs.Opening.{setting_of}
use Rattle.cv_session.specs.Texts.{range_text}

-- ---- the scene

abbrev pub keys_in : Scene → List Key
keys_in scene = map key_of scene.names.items

abbrev pub setting_in : Scene → Setting
setting_in scene = record {
  registered = scene.registry;
  parents = map parent_of scene.elements.items;
  width = scene.width;
  height = scene.height;
  limit = scene.limit;
  keys = keys_in scene;
}

-- the key is among these
abbrev pub IsAmong : List Key → Key → Type 0
IsAmong keys key = is_member same_key keys key ≡ true

-- only such keys are declared
abbrev pub AreAmong : List Key → Declarations → Type 0
AreAmong keys declarations = (key : Key) → IsAmong (keys_of declarations) key → IsAmong keys key

-- All of the tree is computed, by the declarations as they stand, and no more properties are declared than are told of.
pub record IsSound (scene : Scene) : Type 0 where
  pub least : 1 ≤ scene.limit
  pub most : scene.limit ≤ 32768
  pub few_elements : length scene.elements.items ≤ 16384
  pub extents : AreExtents scene.elements.items scene.extents
  pub tree : IsTree (tree_with (setting_in scene) scene.maps.items)
  pub computed : AreComputedBy (setting_in scene) scene.maps.items scene.all.items
  pub stand : AllStand scene.registry scene.all.items
  pub named : All IsNamed scene.names.items
  pub few_names : length scene.names.items ≤ 2083
  pub few : All AreFew scene.maps.items
  pub among : All (AreAmong (keys_in scene)) scene.maps.items

-- the key of the name that the command speaks of, if it speaks of one
abbrev pub key_of_command : Command → Option Key
key_of_command command = by (name_of_command command)
  where
    by : Option (List ℕ) → Option Key
    by None = None
    by (Some name) = key_named name

-- the command speaks of no property but these
abbrev pub IsOfThese : List Key → Command → Type 0
IsOfThese keys command = IfSome (key_of_command command) (IsAmong keys)

-- ---- answers

-- the element is to have these declarations, this is computed anew by them, and this is what changes by that
pub record IsAltered (scene : Scene) (at : ℕ) (declarations : Declarations) (altered : Altered) : Type 0 where
  pub element : altered.at ≡ at
  pub there : at < length scene.maps.items
  pub declared : altered.map ≡ declarations
  pub few : AreFew altered.map
  pub among : AreAmong (keys_in scene) altered.map
  pub within : IsWithin altered.fresh scene.all.items
  pub computed : AreComputedBy (setting_in scene) (slice_set scene.maps.items at declarations) (with_fresh scene.all.items altered.fresh)
  pub stand : AllStand scene.registry (with_fresh scene.all.items altered.fresh)
  pub changes_are : altered.changes.items ≡ changes (keys_in scene) scene.all.items (with_fresh scene.all.items altered.fresh)

-- with these declarations a property is out of range: the text tells it, and the first element on which one is
pub record IsOut (scene : Scene) (at : ℕ) (declarations : Declarations) (told : List ℕ) : Type 0 where
  pub element : ℕ
  pub property : Key
  pub out : IsOutOfRange (tree_with (setting_in scene) (slice_set scene.maps.items at declarations)) scene.limit element property
  pub text_is : told ≡ range_text element property

-- this answers what is asked for
abbrev pub IsAnswer : Scene → Asked → Answer → Type 0
IsAnswer scene (text told) (Text bytes) = bytes.items ≡ told
IsAnswer scene (text told) (Changed altered) = ⊥
IsAnswer scene (text told) (Unwatch watcher) = ⊥
IsAnswer scene (declare at declarations) (Text bytes) = IsOut scene at declarations bytes.items
IsAnswer scene (declare at declarations) (Changed altered) = IsAltered scene at declarations altered
IsAnswer scene (declare at declarations) (Unwatch watcher) = ⊥
IsAnswer scene (drop number) (Text bytes) = ⊥
IsAnswer scene (drop number) (Changed altered) = ⊥
IsAnswer scene (drop number) (Unwatch watcher) = watcher ≡ number

-- ---- opening

-- the scene of a document before any command
pub record IsOpened (document : Shape) (limit : ℕ) (scene : Scene) : Type 0 where
  pub sound : IsSound scene
  pub told : AreTold (counted_names document) (keys_in scene)
  pub setting : setting_in scene ≡ setting_of document limit (keys_in scene)
  pub declared : scene.maps.items ≡ map declarations_of document.elements
  pub noted : scene.notes.items ≡ notes_of document

-- what stays as it was where an element has other declarations
pub record KeepsRest (old new : Scene) : Type 0 where
  pub setting : setting_in new ≡ setting_in old
  pub notes : new.notes.items ≡ old.notes.items

-- the element is there, with these declarations and what is computed of it
abbrev pub IsFound : Scene → ℕ → Declarations → Computed → Type 0
IsFound scene at declared computed = (slice_get scene.maps.items at ≡ Some declared) × (slice_get scene.all.items at ≡ Some computed)

-- the element isn't there: whatever is asked of it is refused
abbrev pub HasNone : Scene → ℕ → Type 0
HasNone scene at = (asked : Declarations → Computed → Asked) → on_element scene.maps.items scene.all.items at asked ≡ text (codes "refused NoElement")
