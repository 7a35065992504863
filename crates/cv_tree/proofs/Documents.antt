-- What is computed of the tree that is read of a document is computed of the document.
use Rattle.std.proofs.Common.{◌≡◌, ◌≤◌, ℕ, List, [], length, refl, sym, ◌∙◌, ap, subst, arith}
use Rattle.std.specs.Prelude.{IfOk, Result, Ok, Err, map}
use Rattle.std.proofs.lemmas.List.{length-map}
use Rattle.cv_doc.specs.Kept.{IsSound}
use Rattle.cv_doc.specs.Reading.{Shape}
use Rattle.cv_doc.specs.declared.command.Command.{Command}
use Rattle.cv_valuation.specs.declared.computed.Computed.{Computed}
use Rattle.cv_valuation.specs.declared.key.Key.{Key}
use Rattle.cv_props.specs.Registered.{Registered, AreEntries}
use Rattle.cv_props.specs.Winners.{Declarations}
use Rattle.cv_tree.specs.Contents.{HasContents}
use Rattle.cv_tree.specs.Names.{counted_names, names_in, with_names}
use Rattle.cv_tree.specs.Single.{HaveOneResult}
use Rattle.cv_tree.specs.Styles.{declarations_of}
use Rattle.cv_tree.specs.Tree.{AllStand, AreComputed, IsOutOfRange, IsTree, Tree, parent_of, the_tree, tree_of}
use Rattle.cv_tree.specs.declared.contents.Contents.{Contents}
use Rattle.cv_tree.proofs.Walked.{parents_earlier}

count_parents : (document : Shape) → length (tree_of document).parents ≡ length document.elements
count_parents document = length-map document.elements parent_of

module _ (document : Shape) (limit : ℕ) (contents : Contents) (sound : IsSound document) (has : HasContents document contents) where
  -- the tree that is read of the document
  abbrev read : Tree
  read = the_tree contents.registry (map parent_of document.elements) contents.declarations.items document.width document.height

  tree_read : read ≡ tree_of document
  tree_read =
      ap (λ (r : Registered). the_tree r (map parent_of document.elements) contents.declarations.items document.width document.height) has.registry
      ∙ ap (λ (d : List Declarations). the_tree (tree_of document).registered (map parent_of document.elements) d document.width document.height) has.declarations

  tree_is : IsTree (tree_of document)
  tree_is = record {
    earlier = parents_earlier document.elements sound.tree;
    declared = length-map document.elements declarations_of ∙ sym (length-map document.elements parent_of);
    entries = subst AreEntries has.registry has.entries;
  }

  pub computed_is : (all : List Computed) → AreComputed read limit (length document.elements) all → AreComputed (tree_of document) limit (length document.elements) all
  computed_is all is = subst (λ (t : Tree). AreComputed t limit (length document.elements) all) tree_read is

  pub stand_is : (all : List Computed) → AllStand contents.registry all → AllStand (tree_of document).registered all
  stand_is all stand = subst (λ (r : Registered). AllStand r all) has.registry stand

  pub single_is : (all : List Computed) → AreComputed read limit (length document.elements) all → AllStand contents.registry all
      → (IsTree (tree_of document) → (others : List Computed) → AreComputed (tree_of document) limit (length (tree_of document).parents) others → AllStand (tree_of document).registered others → HaveOneResult (tree_of document) limit)
      → HaveOneResult (tree_of document) limit
  single_is all is stand one =
      one tree_is all (subst (λ (n : ℕ). AreComputed (tree_of document) limit n all) (sym (count_parents document)) (computed_is all is)) (stand_is all stand)

  -- the same of an answer
  pub single_result : {A E : Type 0} (items : A → List Computed) (result : Result A E)
      → IfOk result (λ all. AreComputed read limit (length document.elements) (items all)) → IfOk result (λ all. AllStand contents.registry (items all))
      → (IsTree (tree_of document) → (others : List Computed) → AreComputed (tree_of document) limit (length (tree_of document).parents) others → AllStand (tree_of document).registered others → HaveOneResult (tree_of document) limit)
      → IfOk result (λ all. HaveOneResult (tree_of document) limit)
  single_result items (Ok all) is stand one = single_is (items all) is stand one
  single_result items (Err error) is stand one = tt

  pub few_are : (all : List Computed) → AreComputed read limit (length document.elements) all → length all ≤ 16384
  few_are all is = omega (arith, is.count, sound.few_elements)

  pub out_is : (element : ℕ) (property : Key) → IsOutOfRange read limit element property → IsOutOfRange (tree_of document) limit element property
  out_is element property out = subst (λ (t : Tree). IsOutOfRange t limit element property) tree_read out

  -- the names of what is read of the document are those of the document
  pub names_are : with_names [] (names_in contents.registry contents.declarations.items document.show document.commands) ≡ counted_names document
  names_are =
      ap (λ (r : Registered). with_names [] (names_in r contents.declarations.items document.show document.commands)) has.registry
      ∙ ap (λ (d : List Declarations). with_names [] (names_in (tree_of document).registered d document.show document.commands)) has.declarations
