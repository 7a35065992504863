-- The scene of a document is sound, and is that of the document.
use Rattle.std.proofs.Common.{◌≡◌, ℕ, zero, suc, ◌<◌, ◌≤◌, All, List, [], ◌∷◌, length, map, refl, sym, ◌∙◌, ap, subst, arith}
use Rattle.std.specs.Prelude.{Option, Some}
use Rattle.std.specs.List.{slice_get, slice_index_or}
use Rattle.std.proofs.lemmas.List.{length-map, length-append}
use Rattle.std.proofs.lemmas.List.Sorted.{length_permutation}
use Rattle.cv_doc.specs.declared.elements.Elem.{Elem}
use Rattle.cv_doc.specs.Kept as kept
use Rattle.cv_doc.specs.Reading.{Shape}
use Rattle.cv_property.specs.Table.{properties}
use Rattle.cv_valuation.specs.declared.computed.Computed.{Computed}
use Rattle.cv_valuation.specs.declared.key.Key.{Key}
use Rattle.cv_valuation.specs.declared.key.Key.TheVariants.{Custom, Table}
use Rattle.cv_props.specs.Registered.{AreEntries, Registered}
use Rattle.cv_props.specs.WinnerLaws.{WinnersAreByKey}
use Rattle.cv_props.specs.Winners.{Declarations}
use Rattle.cv_tree.specs.Contents.{AreFew, HasContents}
use Rattle.cv_tree.specs.Names.{counted, counted_names}
use Rattle.cv_tree.specs.Styles.{declarations_of}
use Rattle.cv_tree.specs.Tree.{AllStand, AreComputed, AreEarlier, IsTree, Tree, parent_of, the_tree, tree_of}
use Rattle.cv_tree.specs.declared.contents.Contents.{Contents}
use Rattle.cv_update.specs.Names.{AreTold, IsNamed, key_of, told_keys}
use Rattle.cv_walk.specs.Extents.{AreExtents}
use Rattle.cv_session.specs.declared.scene.Scene.{Scene}
use Rattle.cv_session.specs.Fold.{Setting, tree_with}
use Rattle.cv_session.specs.Opening.{setting_of}
use Rattle.cv_session.specs.Scenes.{AreAmong, IsOfThese, IsOpened, IsSound, keys_in, setting_in}
use Rattle.cv_session.proofs.Told.{commands_among, declared_among}

-- the parents of a tree's elements
parents_earlier : (elements : List Elem) → kept.IsTree elements → AreEarlier (map parent_of elements)
parents_earlier elements tree i parent at = by elements i (tree i) at
  where
    by : (es : List Elem) (k : ℕ) → ((e : Elem) → k < length es → kept.IsParentOf i (slice_index_or es k e).parent) → slice_get (map parent_of es) k ≡ Some parent → kept.IsParentOf i parent
    by [] k is at = cc
    by (e ∷ es) zero is at =
        let both : Some e.parent ≡ Some parent = at in
        let same : e.parent ≡ parent = cc in
        subst (λ (p : Option ℕ). kept.IsParentOf i p) same (is e (omega arith))
    by (e ∷ es) (suc k) is at = by es k (λ x lt. is x (omega (arith, lt))) at

-- no more properties are told of than there may be custom names and are ordinary ones
few_told : (custom : List (List ℕ)) (keys : List Key) → AreTold custom keys → length custom ≤ 2048 → length keys ≤ 2083
few_told custom keys told few =
    omega (arith, length_permutation (told_keys custom) keys told.all, length-append (map Custom custom) (map Table properties), length-map custom Custom, ordinary, few)
  where
    ordinary : length (map Table properties) ≡ 35
    ordinary = refl

-- what a scene is made of, where it is the scene of a document with these contents
pub record IsMadeOf (document : Shape) (contents : Contents) (limit : ℕ) (scene : Scene) : Type 0 where
  pub registry : scene.registry ≡ contents.registry
  pub elements : scene.elements.items ≡ document.elements
  pub notes : scene.notes.items ≡ contents.notes.items
  pub maps : scene.maps.items ≡ contents.declarations.items
  pub width : scene.width ≡ document.width
  pub height : scene.height ≡ document.height
  pub limit_is : scene.limit ≡ limit

module _ (document : Shape) (contents : Contents) (limit : ℕ) (scene : Scene) (made : IsMadeOf document contents limit scene) (has : HasContents document contents) where
  registered_is : scene.registry ≡ (tree_of document).registered
  registered_is = made.registry ∙ has.registry

  declared_is : scene.maps.items ≡ map declarations_of document.elements
  declared_is = made.maps ∙ has.declarations

  parents_are : map parent_of scene.elements.items ≡ map parent_of document.elements
  parents_are = ap (map parent_of) made.elements

  setting_is : setting_in scene ≡ setting_of document limit (keys_in scene)
  setting_is =
      let registered = registered_is in
      let parents = parents_are in
      let width = made.width in
      let height = made.height in
      let most = made.limit_is in
      cc

  tree_is : tree_with (setting_in scene) scene.maps.items ≡ tree_of document
  tree_is =
      ap (λ (s : Setting). tree_with s scene.maps.items) setting_is
      ∙ ap (λ (d : List Declarations). the_tree (tree_of document).registered (map parent_of document.elements) d document.width document.height) declared_is

  document_tree : kept.IsSound document → IsTree (tree_of document)
  document_tree sound = record {
    earlier = parents_earlier document.elements sound.tree;
    declared = length-map document.elements declarations_of ∙ sym (length-map document.elements parent_of);
    entries = subst AreEntries has.registry has.entries;
  }

  computed_is : AreComputed (tree_of document) limit (length document.elements) scene.all.items
      → AreComputed (tree_with (setting_in scene) scene.maps.items) scene.limit (length (map parent_of scene.elements.items)) scene.all.items
  computed_is computed =
      let long : length document.elements ≡ length (map parent_of scene.elements.items) = sym (ap length parents_are ∙ length-map document.elements parent_of) in
      subst (λ (t : Tree). AreComputed t scene.limit (length (map parent_of scene.elements.items)) scene.all.items) (sym tree_is)
      (subst (λ (n : ℕ). AreComputed (tree_of document) scene.limit n scene.all.items) long
      (subst (λ (n : ℕ). AreComputed (tree_of document) n (length document.elements) scene.all.items) (sym made.limit_is) computed))

  pub scene_opened : (custom : List (List ℕ)) → custom ≡ counted_names document → WinnersAreByKey → kept.IsSound document → AreExtents document.elements scene.extents → 1 ≤ limit → limit ≤ 32768
      → AreComputed (tree_of document) limit (length document.elements) scene.all.items → AllStand (tree_of document).registered scene.all.items
      → All IsNamed scene.names.items → AreTold custom (keys_in scene) → counted document ≤ 2048
      → IsOpened document limit scene
  scene_opened custom same by_key sound extents least most computed stand named told_of few =
      let told : AreTold (counted_names document) (keys_in scene) = subst (λ (names : List (List ℕ)). AreTold names (keys_in scene)) same told_of in
      record {
        sound = record {
          least = subst (λ (n : ℕ). 1 ≤ n) (sym made.limit_is) least;
          most = subst (λ (n : ℕ). n ≤ 32768) (sym made.limit_is) most;
          few_elements = subst (λ (l : List Elem). length l ≤ 16384) (sym made.elements) sound.few_elements;
          extents = subst (λ (l : List Elem). AreExtents l scene.extents) (sym made.elements) extents;
          tree = subst IsTree (sym tree_is) (document_tree sound);
          computed = computed_is computed;
          stand = subst (λ (r : Registered). AllStand r scene.all.items) (sym registered_is) stand;
          named = named;
          few_names = omega (arith, sym (length-map scene.names.items key_of), few_told (counted_names document) (keys_in scene) told few);
          few = subst (All AreFew) (sym made.maps) has.few;
          among = subst (All (AreAmong (keys_in scene))) (sym declared_is) (declared_among by_key document (keys_in scene) told);
        };
        told = told;
        setting = setting_is;
        declared = declared_is;
        noted = made.notes ∙ has.notes;
      }

-- the document's commands speak of no property but those that are told of
pub told_commands : WinnersAreByKey → (document : Shape) (custom : List (List ℕ)) (keys : List Key) → custom ≡ counted_names document → AreTold custom keys → All (IsOfThese keys) document.commands
told_commands by_key document custom keys same told = commands_among by_key document keys (subst (λ (names : List (List ℕ)). AreTold names keys) same told)
