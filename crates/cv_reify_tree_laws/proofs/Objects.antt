-- In a tree that has a result no declaration is out of range as it stands.
use Rattle.std.proofs.Common.{◌≡◌, ℕ, zero, suc, ◌<◌, List, [], ◌∷◌, length, Some, Err, refl, sym, ◌∙◌, ap, subst, arith}
use Rattle.std.specs.Prelude.{map, slice_get}
use Rattle.std.proofs.lemmas.List.{length-map}
use Rattle.std.proofs.lemmas.Option.{slice_get_within}
use Rattle.cv_doc.specs.declared.elements.Elem.{Elem}
use Rattle.cv_doc.specs.Reading.{Shape}
use Rattle.cv_var.specs.References.{PiecesAreRead}
use Rattle.cv_property.specs.declared.property.Property.{Property}
use Rattle.cv_valuation.specs.declared.key.Key.{Key}
use Rattle.cv_valuation.specs.declared.key.Key.TheVariants.{Custom, Table}
use Rattle.cv_valuation.specs.TableLaws.{PropertiesAreFound}
use Rattle.cv_props.specs.declared.decls.Decl.{Decl}
use Rattle.cv_props.specs.Winners.{Declarations, declaration_of}
use Rattle.cv_props.specs.WinnerLaws.{WinnersAreByKey}
use Rattle.cv_spec_valuation.specs.Element.{values_of}
use Rattle.cv_tree.specs.Single.{HaveOneResult}
use Rattle.cv_tree.specs.Styles.{declarations_of, tokens_in}
use Rattle.cv_tree.specs.Tree.{parent_in, parent_of, place_in, tree_of, values_in}
use Rattle.cv_tree.proofs.Trees.{item_at}
use Rattle.cv_reify.specs.declared.error.ReifyErr.{ReifyErr}
use Rattle.cv_reify.specs.DeclaredStyle.{declared_style}
use Rattle.cv_reify_laws.specs.Ranges.{IsOut, RangesAreOut}
use Rattle.cv_reify_report.specs.Report.{AreInRange}
use Rattle.cv_reify_tree_laws.proofs.Plain.{is_out_of_range}
use Rattle.cv_reify_tree_laws.proofs.Styles.{IsStyled, style_styled}

-- what is told of each element of a list
of_mapped : (elements : List Elem) (i : ℕ) (declared : Declarations) → slice_get (map declarations_of elements) i ≡ Some declared → (element : Elem) × (declarations_of element ≡ declared)
of_mapped [] i declared is = cc
of_mapped (element ∷ elements) zero declared is = (element, cc)
of_mapped (element ∷ elements) (suc i) declared is = of_mapped elements i declared is

module _ (ranges : RangesAreOut) (found : PropertiesAreFound) (winners : WinnersAreByKey) (pieces : PiecesAreRead) (document : Shape) (limit : ℕ) (single : HaveOneResult (tree_of document) limit) where
  styled : (i : ℕ) (declared : Declarations) (key : Key) (d : Decl) → slice_get (map declarations_of document.elements) i ≡ Some declared → declaration_of declared key ≡ Some d → IsStyled key d
  styled i declared key d at is =
      let element = of_mapped document.elements i declared at in
      style_styled found winners (tokens_in element.0.style) key d (subst (λ (all : Declarations). declaration_of all key ≡ Some d) (sym element.1) is)

  ordinary : (i : ℕ) (declared : Declarations) (p : Property) (d : Decl) → slice_get (map declarations_of document.elements) i ≡ Some declared → declaration_of declared (Table p) ≡ Some d → IsOut p d.value → ⊥
  ordinary i declared p d at is out =
      let tree = tree_of document in
      let count = single.are_computed.count in
      let below : i < length (map declarations_of document.elements) = slice_get_within (map declarations_of document.elements) i declared at in
      let many : i < length tree.parents = omega (arith, below, length-map document.elements declarations_of, length-map document.elements parent_of) in
      let parent = item_at tree.parents i many in
      let computed = item_at single.all i (omega (arith, many, count)) in
      let element = single.are_computed.each i parent.0 declared computed.0 (record { under = parent.1; declares = at }) computed.1 in
      let above = parent_in (values_in single.all) parent.0 in
      let place = place_in tree.width tree.height (values_in single.all) parent.0 in
      element.in_range (Table p)
      (values_of computed.0.values, element.solves, is_out_of_range pieces tree.registered declared above place limit p d is (styled i declared (Table p) d at is) out (values_of computed.0.values))

  pub in_range : AreInRange (map declarations_of document.elements)
  in_range = record { objects = objects }
    where
      objects : (i : ℕ) (declared : Declarations) (key : Key) (d : Decl) → slice_get (map declarations_of document.elements) i ≡ Some declared → declaration_of declared key ≡ Some d → (e : ReifyErr) → declared_style key d ≡ Err e → ⊥
      objects i declared (Custom name) d at is e err = ranges.custom name d e err
      objects i declared (Table p) d at is e err = ordinary i declared p d at is (ranges.ordinary p d e (styled i declared (Table p) d at is).may err)
