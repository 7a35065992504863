-- What is computed of a tree is single.
use Rattle.std.proofs.Common.{◌≡◌, ℕ, zero, suc, ◌+◌, ◌<◌, ◌≤◌, List, [], ◌∷◌, ◌++◌, length, Option, Some, None, inl, inr, ◌⊎◌, refl, sym, ◌∙◌, ap, subst, arith, length-append}
use Rattle.std.specs.List.{All, AllZip, slice_get, slice_index_or}
use Rattle.std.proofs.lemmas.Option.{slice_get_within}
use Rattle.cv_spec_text.specs.declared.token.Token.{Token}
use Rattle.cv_spec_ratio.specs.Ratio.{Ratio}
use Rattle.cv_value.specs.declared.typed.Typed.{Typed}
use Rattle.cv_doc.specs.Kept.{IsParentOf}
use Rattle.cv_spec_element.specs.Element.{Outcome}
use Rattle.cv_spec_element.specs.Valuation.{IsInvalid, IsValuation}
use Rattle.cv_valuation.specs.declared.computed.Computed.{Computed}
use Rattle.cv_valuation.specs.declared.key.Key.{Key}
use Rattle.cv_valuation.specs.declared.outcome.Outcome.{Outcome as Kept}
use Rattle.cv_valuation.specs.declared.outcome.Outcome.TheVariants as kept
use Rattle.cv_valuation.specs.ValuationLaws.{OutcomesAreByKey}
use Rattle.cv_valuation.specs.Valuations.{Values, outcome_at}
use Rattle.cv_props.specs.Registered.{AreEntries, Registered}
use Rattle.cv_props.specs.Winners.{Declarations}
use Rattle.cv_spec_valuation.specs.declared.place.Place.{Place}
use Rattle.cv_spec_valuation.specs.Computed.{IsComputed, ParentStandsUnder, StandUnder, cause_of}
use Rattle.cv_spec_valuation.specs.Computed as alone
use Rattle.cv_spec_valuation.specs.Contexts.{size_above}
use Rattle.cv_spec_valuation.specs.Element.{the_element, values_of}
use Rattle.cv_spec_valuation.specs.Registered.{as_read}
use Rattle.cv_spec_valuation.specs.Single.{TellsTheSame}
use Rattle.cv_tree.specs.Single.{HaveOneResult}
use Rattle.cv_tree.specs.Tree.{Tree, AllStand, IsTree, StandsAt, AreComputed, AreInRange, AreOfElement, AreSolved, AreValuations, IsOfElement, IsOutOfRange, parent_in, place_in, root_size, values_in}
use Rattle.cv_tree.proofs.Growing.{count_values}

-- ---- lists

-- an item that stands there
pub item_at : {X : Type 0} (xs : List X) (i : ℕ) → i < length xs → (x : X) × (slice_get xs i ≡ Some x)
item_at [] i below = absurd (omega (arith, below))
item_at (x ∷ xs) zero below = (x, refl)
item_at (x ∷ xs) (suc i) below = item_at xs i (omega (arith, below))

-- pair by pair, by their places
pub zipped : {X : Type 0} (R : X → X → Type 0) (xs ys : List X) → length ys ≡ length xs → ((i : ℕ) (x y : X) → slice_get xs i ≡ Some x → slice_get ys i ≡ Some y → R x y) → AllZip R xs ys
zipped R [] [] long each = tt
zipped R [] (y ∷ ys) long each = absurd (omega (arith, long))
zipped R (x ∷ xs) [] long each = absurd (omega (arith, long))
zipped R (x ∷ xs) (y ∷ ys) long each = (each 0 x y refl refl, zipped R xs ys (omega (arith, long)) (λ i a b at_a at_b. each (suc i) a b at_a at_b))

-- lists with the same items
same_list : {X : Type 0} (xs ys : List X) → length ys ≡ length xs → ((i : ℕ) → i < length xs → slice_get ys i ≡ slice_get xs i) → ys ≡ xs
same_list [] [] long each = refl
same_list [] (y ∷ ys) long each = absurd (omega (arith, long))
same_list (x ∷ xs) [] long each = absurd (omega (arith, long))
same_list (x ∷ xs) (y ∷ ys) long each =
    let first : Some y ≡ Some x = each 0 (omega arith) in
    let head : y ≡ x = cc in
    let tail : ys ≡ xs = same_list xs ys (omega (arith, long)) (λ i lt. each (suc i) (omega (arith, lt))) in
    ap (λ z. z ∷ ys) head ∙ ap (λ zs. x ∷ zs) tail

pub values_get : (all : List Computed) (i : ℕ) (c : Computed) → slice_get all i ≡ Some c → slice_get (values_in all) i ≡ Some c.values
values_get [] i c at = cc
values_get (x ∷ xs) zero c at = cc
values_get (x ∷ xs) (suc i) c at = values_get xs i c at

-- the element that stands there
pub stands_at : (tree : Tree) → IsTree tree → (i : ℕ) → i < length tree.parents → (parent : Option ℕ) × (decls : Declarations) × StandsAt tree i parent decls
stands_at tree is_tree i below =
    let parent = item_at tree.parents i below in
    let decls = item_at tree.declarations i (omega (arith, below, is_tree.declared)) in
    (parent.0, decls.0, record { under = parent.1; declares = decls.1 })

-- what is read of an outcome tells which it is
as_read_one : (one other : Kept) → as_read other ≡ as_read one → other ≡ one
as_read_one (kept.Tokens a) (kept.Tokens b) is = cc
as_read_one (kept.Tokens a) (kept.Value b) is = cc
as_read_one (kept.Tokens a) kept.Invalid is = cc
as_read_one (kept.Value a) (kept.Tokens b) is = cc
as_read_one (kept.Value a) (kept.Value b) is = cc
as_read_one (kept.Value a) kept.Invalid is = cc
as_read_one kept.Invalid (kept.Tokens b) is = cc
as_read_one kept.Invalid (kept.Value b) is = cc
as_read_one kept.Invalid kept.Invalid is = refl

-- an item of a list of which something holds
pub holds_at : {X : Type 0} (P : X → Type 0) (xs : List X) (i : ℕ) (x : X) → All P xs → slice_get xs i ≡ Some x → P x
holds_at P xs i x all at = subst P (there xs i at) (all i x (slice_get_within xs i x at))
  where
    there : (ys : List _) (k : ℕ) → slice_get ys k ≡ Some x → slice_index_or ys k x ≡ x
    there [] k is = cc
    there (y ∷ ys) zero is = cc
    there (y ∷ ys) (suc k) is = there ys k is

-- An element has one valuation at most.
pub record ElementsAreSingle : Type 0 where
  pub one_valuation : (registered : Registered) (decls : Declarations) (parent : Option Values) (place : Place) (most : ℕ) → AreEntries registered → ParentStandsUnder registered parent → (one other : Key → Outcome Token Typed) → IsValuation (the_element registered decls parent place most) one → IsValuation (the_element registered decls parent place most) other → (key : Key) → one key ≡ other key

-- what is computed of an element, where the values are the same
tells : (registered : Registered) (decls : Declarations) (parent : Option Values) (place : Place) (most : ℕ) (one other : Computed) → other.values ≡ one.values → IsComputed registered decls parent place most one → IsComputed registered decls parent place most other → TellsTheSame one other
tells registered decls parent place most one other same is is_other = record {
  values = same;
  faults = λ key cause. (
    (λ held. (is.faults key cause).1 (subst (λ (v : Values). IsInvalid (the_element registered decls parent place most) (values_of v) key (cause_of cause)) same ((is_other.faults key cause).0 held))),
    (λ held. (is_other.faults key cause).1 (subst (λ (v : Values). IsInvalid (the_element registered decls parent place most) (values_of v) key (cause_of cause)) (sym same) ((is.faults key cause).0 held))),
  );
}

module _ (single : ElementsAreSingle) (by_key : OutcomesAreByKey) (tree : Tree) (most : ℕ) (is_tree : IsTree tree) where
  parent_stands : (all : List Computed) → AllStand tree.registered all → (i : ℕ) → i < length all → (parent : Option ℕ) → IsParentOf i parent → ParentStandsUnder tree.registered (parent_in (values_in all) parent)
  parent_stands all stand i below None is_parent = tt
  parent_stands all stand i below (Some at) is_parent =
      let c = item_at all at (omega (arith, below, is_parent)) in
      subst (ParentStandsUnder tree.registered) (sym (values_get all at c.0 c.1)) (holds_at (λ x. StandUnder tree.registered x.values) all at c.0 stand c.1)

  -- ---- no other values

  -- computed elements are solved
  pub solved : (n : ℕ) (all : List Computed) → AreComputed tree most n all → AreSolved tree most n (values_in all)
  solved n all is = record {
    count = count_values all ∙ is.count;
    each = λ i parent decls values stands at. each i parent decls values stands at;
  }
    where
      each : (i : ℕ) (parent : Option ℕ) (decls : Declarations) (values : Values) → StandsAt tree i parent decls → slice_get (values_in all) i ≡ Some values → AreOfElement tree most (values_in all) parent decls values
      each i parent decls values stands at =
          let below : i < length all = omega (arith, slice_get_within (values_in all) i values at, count_values all) in
          let c = item_at all i below in
          let both : Some c.0.values ≡ Some values = sym (values_get all i c.0 c.1) ∙ at in
          let same : c.0.values ≡ values = cc in
          subst (λ (v : Values). AreOfElement tree most (values_in all) parent decls v) same (is.each i parent decls c.0 stands c.1).solves

  abbrev SameAt : List Values → List Values → ℕ → Type 0
  SameAt all others i = slice_get others i ≡ slice_get all i

  same_parent : (all others : List Values) (i : ℕ) → ((j : ℕ) → j < i → SameAt all others j) → (parent : Option ℕ) → IsParentOf i parent → parent_in others parent ≡ parent_in all parent
  same_parent all others i before None is_parent = refl
  same_parent all others i before (Some at) is_parent = before at is_parent

  same_root : (all others : List Values) (i : ℕ) → ((j : ℕ) → j < i → SameAt all others j) → (parent : Option ℕ) → IsParentOf i parent → root_size others parent ≡ root_size all parent
  same_root all others i before None is_parent = refl
  same_root all others i before (Some at) is_parent = ap (λ (x : Option Values). Some (size_above x)) (before 0 (omega (arith, is_parent)))

  abbrev with_root : Option Ratio → Place
  with_root root = record { width = tree.width; height = tree.height; root = root }

  values_alike : (all others : List Values) (parent : Option ℕ) (decls : Declarations) (values : Values) → parent_in others parent ≡ parent_in all parent → root_size others parent ≡ root_size all parent
      → AreOfElement tree most others parent decls values → AreOfElement tree most all parent decls values
  values_alike all others parent decls values same root is =
      subst (λ (r : Option Ratio). IsValuation (the_element tree.registered decls (parent_in all parent) (with_root r) most) (values_of values)) root
      (subst (λ (v : Option Values). IsValuation (the_element tree.registered decls v (place_in tree.width tree.height others parent) most) (values_of values)) same is)

  module _ (n m : ℕ) (all : List Computed) (others : List Values) (is : AreComputed tree most n all) (stand : AllStand tree.registered all) (is_other : AreSolved tree most m others) (le : n ≤ length tree.parents) where
    same_at : (i : ℕ) → i < n → i < m → ((j : ℕ) → j < i → SameAt (values_in all) others j) → SameAt (values_in all) others i
    same_at i lt_n lt_m before =
        let e = stands_at tree is_tree i (omega (arith, lt_n, le)) in
        let above : IsParentOf i e.0 = is_tree.earlier i e.0 e.2.under in
        let c = item_at all i (omega (arith, lt_n, is.count)) in
        let other = item_at others i (omega (arith, lt_m, is_other.count)) in
        let mine : IsComputed tree.registered e.1 (parent_in (values_in all) e.0) (place_in tree.width tree.height (values_in all) e.0) most c.0 = is.each i e.0 e.1 c.0 e.2 c.1 in
        let theirs : AreOfElement tree most (values_in all) e.0 e.1 other.0 =
        values_alike (values_in all) others e.0 e.1 other.0 (same_parent (values_in all) others i before e.0 above) (same_root (values_in all) others i before e.0 above) (is_other.each i e.0 e.1 other.0 e.2 other.1) in
        let parent = parent_stands all stand i (omega (arith, lt_n, is.count)) e.0 above in
        let keys : (key : Key) → outcome_at other.0 key ≡ outcome_at c.0.values key =
        λ key. as_read_one (outcome_at c.0.values key) (outcome_at other.0 key)
        (single.one_valuation tree.registered e.1 (parent_in (values_in all) e.0) (place_in tree.width tree.height (values_in all) e.0) most is_tree.entries parent (values_of other.0) (values_of c.0.values) theirs mine.solves key) in
        other.1 ∙ ap Some (by_key.same other.0 c.0.values keys) ∙ sym (values_get all i c.0 c.1)

    pub all_same : (k i : ℕ) → i < k → i < n → i < m → SameAt (values_in all) others i
    all_same zero i lt lt_n lt_m = absurd (omega (arith, lt))
    all_same (suc k) i lt lt_n lt_m = same_at i lt_n lt_m (λ j lower. all_same k j (omega (arith, lt, lower)) (omega (arith, lower, lt_n)) (omega (arith, lower, lt_m)))

  pub only_values : (all : List Computed) (others : List Values) → AreComputed tree most (length tree.parents) all → AllStand tree.registered all → AreValuations tree most others → others ≡ values_in all
  only_values all others is stand is_other =
      same_list (values_in all) others (is_other.count ∙ sym (count_values all ∙ is.count))
      (λ i lt. all_same (length tree.parents) (length tree.parents) all others is stand is_other (omega arith) (suc i) i (omega arith) (omega (arith, lt, count_values all, is.count)) (omega (arith, lt, count_values all, is.count)))

  -- ---- nothing else is computed

  module _ (all others : List Computed) (is : AreComputed tree most (length tree.parents) all) (stand : AllStand tree.registered all) (is_other : AreComputed tree most (length tree.parents) others) where
    same_values : values_in others ≡ values_in all
    same_values = only_values all (values_in others) is stand (solved (length tree.parents) others is_other)

    pub same_told : (i : ℕ) (one other : Computed) → slice_get all i ≡ Some one → slice_get others i ≡ Some other → TellsTheSame one other
    same_told i one other at_one at_other =
        let below : i < length all = slice_get_within all i one at_one in
        let e = stands_at tree is_tree i (omega (arith, below, is.count)) in
        let theirs : IsOfElement tree most (values_in all) e.0 e.1 other = subst (λ (vs : List Values). IsOfElement tree most vs e.0 e.1 other) same_values (is_other.each i e.0 e.1 other e.2 at_other) in
        let both : Some other.values ≡ Some one.values = sym (values_get others i other at_other) ∙ ap (λ vs. slice_get vs i) same_values ∙ values_get all i one at_one in
        let same : other.values ≡ one.values = cc in
        tells tree.registered e.1 (parent_in (values_in all) e.0) (place_in tree.width tree.height (values_in all) e.0) most one other same (is.each i e.0 e.1 one e.2 at_one) theirs

    pub same_count : length others ≡ length all
    same_count = is_other.count ∙ sym is.count

    pub all_the_same : AllZip TellsTheSame all others
    all_the_same = zipped TellsTheSame all others same_count same_told

  -- ---- what is computed is in range

  -- where so many elements are computed, none of them has a property that is out of range
  out_is_past : (n : ℕ) (all : List Computed) → AreComputed tree most n all → AllStand tree.registered all → n ≤ length tree.parents → (i : ℕ) (property : Key) → i < n → IsOutOfRange tree most i property → ⊥
  out_is_past n all is stand le i property lt out =
      let c = item_at all i (omega (arith, lt, is.count)) in
      let above : IsParentOf i out.parent = is_tree.earlier i out.parent out.stands.under in
      let same : (j : ℕ) → j < i → SameAt (values_in all) (values_in out.before) j =
      λ j lower. all_same n i all (values_in out.before) is stand (solved i out.before out.computed) le (suc j) j (omega arith) (omega (arith, lower, lt)) lower in
      let here : alone.IsOutOfRange tree.registered out.decls (parent_in (values_in all) out.parent) (place_in tree.width tree.height (values_in all) out.parent) most property =
      subst (λ (r : Option Ratio). alone.IsOutOfRange tree.registered out.decls (parent_in (values_in all) out.parent) (with_root r) most property) (same_root (values_in all) (values_in out.before) i same out.parent above)
      (subst (λ (v : Option Values). alone.IsOutOfRange tree.registered out.decls v (place_in tree.width tree.height (values_in out.before) out.parent) most property) (same_parent (values_in all) (values_in out.before) i same out.parent above) out.out) in
      (is.each i out.parent out.decls c.0 out.stands c.1).in_range property here

  pub in_range : (all : List Computed) → AreComputed tree most (length tree.parents) all → AllStand tree.registered all → AreInRange tree most
  in_range all is stand i property out = out_is_past (length tree.parents) all is stand (omega arith) i property (slice_get_within tree.parents i out.parent out.stands.under) out

  pub least : (one other : ℕ) (property more : Key) → IsOutOfRange tree most one property → IsOutOfRange tree most other more → other ≡ one
  least one other property more out out_other =
      let here : one < length tree.parents = slice_get_within tree.parents one out.parent out.stands.under in
      let there : other < length tree.parents = slice_get_within tree.parents other out_other.parent out_other.stands.under in
      let not_lower : ¬ (other < one) = λ lt. out_is_past one out.before out.computed out.stand (omega (arith, here)) other more lt out_other in
      let not_higher : ¬ (one < other) = λ lt. out_is_past other out_other.before out_other.computed out_other.stand (omega (arith, there)) one property lt out in
      omega (arith, not_lower, not_higher)

  -- ---- what there is

  pub one_result : (all : List Computed) → AreComputed tree most (length tree.parents) all → AllStand tree.registered all → HaveOneResult tree most
  one_result all is stand = record {
    all = all;
    are_computed = is;
    stand = stand;
    only_values = λ others is_other. only_values all others is stand is_other;
    only = λ others is_other. all_the_same all others is stand is_other;
    in_range = in_range all is stand;
  }
