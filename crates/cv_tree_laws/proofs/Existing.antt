-- Something is computed of each element of a tree that is in range, one after another.
use Rattle.std.proofs.Common.{◌≡◌, ℕ, zero, suc, ◌+◌, ◌<◌, ◌≤◌, List, [], ◌∷◌, ◌++◌, All, length, Option, Some, None, refl, sym, subst, arith}
use Rattle.std.proofs.lemmas.List.Elements.{All-push}
use Rattle.cv_doc.specs.Kept.{IsParentOf}
use Rattle.cv_valuation.specs.declared.computed.Computed.{Computed}
use Rattle.cv_valuation.specs.Valuations.{Values}
use Rattle.cv_props.specs.Registered.{Registered, AreEntries}
use Rattle.cv_props.specs.Winners.{Declarations}
use Rattle.cv_spec_valuation.specs.declared.place.Place.{Place}
use Rattle.cv_spec_valuation.specs.Computed.{IsComputed, IsInRange, ParentStandsUnder, StandUnder}
use Rattle.cv_spec_valuation.specs.Single.{HasOneResult}
use Rattle.cv_element_laws.specs.Declared.{AreDeclared}
use Rattle.cv_tree.specs.Single.{HaveOneResult}
use Rattle.cv_tree.specs.Tree.{AllStand, AreComputed, AreInRange, IsTree, Tree, StandsAt, parent_in, place_in, values_in}
use Rattle.cv_tree.proofs.Growing.{first_next}
use Rattle.cv_tree.proofs.Trees.{holds_at, item_at, stands_at, values_get}

-- of each element something is computed where it is in range, and it stands under the registry
pub record ElementsAreComputed : Type 0 where
  pub one_result : (registered : Registered) (decls : Declarations) (parent : Option Values) (place : Place) (most : ℕ) → AreEntries registered → ParentStandsUnder registered parent → HasOneResult registered decls parent place most
  pub stands : (registered : Registered) (decls : Declarations) (parent : Option Values) (place : Place) (most : ℕ) → AreEntries registered → AreDeclared decls → ParentStandsUnder registered parent → (computed : Computed) → IsComputed registered decls parent place most computed → StandUnder registered computed.values

module _ (elements : ElementsAreComputed) (tree : Tree) (most : ℕ) (is_tree : IsTree tree) (declared : All AreDeclared tree.declarations) (in_range : AreInRange tree most) where
  -- what is computed of the first so many elements
  record Begun (n : ℕ) : Type 0 where
    all : List Computed
    computed : AreComputed tree most n all
    stand : AllStand tree.registered all

  none : Begun 0
  none = record {
    all = [];
    computed = record { count = refl; each = λ i parent decls computed at is_at. let no : None ≡ Some computed = is_at in cc };
    stand = λ k d lt. absurd (omega (arith, lt));
  }

  parent_stands : (n : ℕ) (begun : Begun n) (parent : Option ℕ) → IsParentOf n parent → ParentStandsUnder tree.registered (parent_in (values_in begun.all) parent)
  parent_stands n begun None is_parent = tt
  parent_stands n begun (Some at) is_parent =
      let c = item_at begun.all at (omega (arith, begun.computed.count, is_parent)) in
      subst (ParentStandsUnder tree.registered) (sym (values_get begun.all at c.0 c.1)) (holds_at (λ x. StandUnder tree.registered x.values) begun.all at c.0 begun.stand c.1)

  one_more : (n : ℕ) → n < length tree.parents → Begun n → Begun (n + 1)
  one_more n below begun =
      let e = stands_at tree is_tree n below in
      let parent = parent_in (values_in begun.all) e.0 in
      let place = place_in tree.width tree.height (values_in begun.all) e.0 in
      let stands = parent_stands n begun e.0 (is_tree.earlier n e.0 e.2.under) in
      let ranged : IsInRange tree.registered e.1 parent place most = λ key out.
      in_range n key (record { before = begun.all; computed = begun.computed; stand = begun.stand; parent = e.0; decls = e.1; stands = e.2; out = out }) in
      let next = (elements.one_result tree.registered e.1 parent place most is_tree.entries stands).some ranged in
      let of_text : AreDeclared e.1 = holds_at AreDeclared tree.declarations n e.1 declared e.2.declares in
      record {
        all = begun.all ++ next.0 ∷ [];
        computed = subst (λ (m : ℕ). AreComputed tree most (m + 1) (begun.all ++ next.0 ∷ [])) begun.computed.count
            (first_next tree most begun.all e.0 e.1 next.0 is_tree.earlier
            (subst (λ (m : ℕ). StandsAt tree m e.0 e.1) (sym begun.computed.count) e.2) next.1
            (subst (λ (m : ℕ). AreComputed tree most m begun.all) (sym begun.computed.count) begun.computed));
        stand = All-push (λ computed. StandUnder tree.registered computed.values) begun.all next.0 begun.stand
            (elements.stands tree.registered e.1 parent place most is_tree.entries of_text stands next.0 next.1);
      }

  begin : (n : ℕ) → n ≤ length tree.parents → Begun n
  begin zero within = none
  begin (suc n) within = subst Begun (let e : n + 1 ≡ suc n = omega arith in e) (one_more n (omega (arith, within)) (begin n (omega (arith, within))))

  pub result : ((all : List Computed) → AreComputed tree most (length tree.parents) all → AllStand tree.registered all → HaveOneResult tree most) → HaveOneResult tree most
  result one =
      let whole = begin (length tree.parents) (omega arith) in
      one whole.all whole.computed whole.stand
