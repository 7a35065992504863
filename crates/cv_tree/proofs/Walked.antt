-- A walk over a tree: each element is ready, and at the end all are computed, or a property of the first element on which one is out of range is told.
use Rattle.std.proofs.Common.{◌≡◌, ℕ, zero, suc, ◌+◌, ◌<◌, ◌≤◌, List, [], ◌∷◌, ◌++◌, All, length, refl, sym, ap, ◌∙◌, subst, arith, inl, inr, append-nil, length-append}
use Rattle.std.specs.Prelude.{Option, Some, None, Ok, Err, IfSome, map, option_map}
use Rattle.std.specs.List.{slice_get, slice_index_or}
use Rattle.std.proofs.lemmas.List.{append_assoc}
use Rattle.std.proofs.lemmas.List.Elements.{All-push}
use Rattle.std.proofs.lemmas.Option.{slice_get-map, slice_get_within}
use Rattle.cv_doc.specs.declared.elements.Elem.{Elem}
use Rattle.cv_doc.specs.Kept.{IsParentOf, IsTree}
use Rattle.cv_doc.specs.Walks.{AreReady, Reaches}
use Rattle.cv_valuation.specs.declared.key.Key.{Key}
use Rattle.cv_props.specs.Registered.{Registered}
use Rattle.cv_props.specs.Winners.{Declarations}
use Rattle.cv_spec_valuation.specs.Computed.{StandUnder}
use Rattle.cv_spec_valuation.specs.Computed as alone
use Rattle.cv_tree.specs.Contents.{AreFew}
use Rattle.cv_tree.specs.Tree.{AllStand, AreEarlier, Tree, the_tree, StandsAt, AreComputed, IsOfElement, IsOutOfRange, parent_in, parent_of, place_in, values_in}
use Rattle.cv_tree.specs.Walking.{IsNextOut, IsOneMore, IsReady, Stepped, tree_in, values_before}
use Rattle.cv_tree.specs.declared.tree.Computing.{Computing}
use Rattle.cv_tree.specs.declared.tree.Stop.{Stop}
use Rattle.cv_tree.specs.declared.tree.Stop.TheVariants as stop
use Rattle.cv_tree.proofs.Growing.{first_next, get_last}

-- ---- each element is ready

-- the elements from index i on, where each has a parent as its index wants it
IsTreeFrom : ℕ → List Elem → Type 0
IsTreeFrom i elements = (k : ℕ) (e : Elem) → k < length elements → IsParentOf (i + k) (slice_index_or elements k e).parent

tail : (i : ℕ) (element : Elem) (elements : List Elem) → IsTreeFrom i (element ∷ elements) → IsTreeFrom (i + 1) elements
unfolding IsTreeFrom
tail i element elements tree k e lt =
    let next : i + suc k ≡ i + 1 + k = omega arith in
    subst (λ (j : ℕ). IsParentOf j (slice_index_or elements k e).parent) next (tree (suc k) e (omega (arith, lt)))

head : (i : ℕ) (element : Elem) (elements : List Elem) → IsTreeFrom i (element ∷ elements) → IsParentOf i element.parent
unfolding IsTreeFrom
head i element elements tree =
    let here : i + 0 ≡ i = omega arith in
    subst (λ (j : ℕ). IsParentOf j element.parent) here (tree 0 element (omega arith))

from_start : (elements : List Elem) → IsTree elements → IsTreeFrom 0 elements
unfolding IsTreeFrom
from_start elements tree k e lt =
    let same : k ≡ 0 + k = omega arith in
    subst (λ (j : ℕ). IsParentOf j (slice_index_or elements k e).parent) same (tree k e lt)

-- the parents of a tree's elements
pub parents_earlier : (elements : List Elem) → IsTree elements → AreEarlier (map parent_of elements)
parents_earlier elements tree i parent at = by elements i (tree i) at
  where
    by : (es : List Elem) (k : ℕ) → ((e : Elem) → k < length es → IsParentOf i (slice_index_or es k e).parent) → slice_get (map parent_of es) k ≡ Some parent → IsParentOf i parent
    by [] k is at = cc
    by (e ∷ es) zero is at =
        let both : Some e.parent ≡ Some parent = at in
        let same : e.parent ≡ parent = cc in
        subst (λ (p : Option ℕ). IsParentOf i p) same (is e (omega arith))
    by (e ∷ es) (suc k) is at = by es k (λ x lt. is x (omega (arith, lt))) at

-- so many elements are computed, and so many are left
record IsBegun (i count : ℕ) (s : Computing) : Type 0 where
  least : 1 ≤ s.limit
  most : s.limit ≤ 32768
  declared : i + count ≡ length s.declarations.now
  few : All AreFew s.declarations.now
  before : length s.all.items ≡ i
  stand : AllStand s.registry.now s.all.items

earlier : (i n : ℕ) (parent : Option ℕ) → n ≡ i → IsParentOf i parent → IfSome parent (λ at. at < n)
earlier i n None same is = tt
earlier i n (Some at) same is = omega (arith, same, is)

ready_at : (i count : ℕ) (s : Computing) (parent : Option ℕ) → IsBegun i (suc count) s → IsParentOf i parent → IsReady s i parent
ready_at i count s parent b is = record {
  least = b.least;
  most = b.most;
  declared = omega (arith, b.declared);
  few = b.few;
  before = b.before;
  stand = b.stand;
  earlier = earlier i (length s.all.items) parent b.before is;
}

begun_next : (i count : ℕ) (s t : Computing) (parent : Option ℕ) → IsBegun i (suc count) s → IsOneMore s i parent t → IsBegun (i + 1) count t
begun_next i count s t parent b m =
    let same : length t.declarations.now ≡ length s.declarations.now = ap length m.kept.declarations in
    let grown : length t.all.items ≡ length (s.all.items ++ m.computed ∷ []) = ap length m.kept.all in
    record {
      least = subst (λ (l : ℕ). 1 ≤ l) (sym m.kept.limit) b.least;
      most = subst (λ (l : ℕ). l ≤ 32768) (sym m.kept.limit) b.most;
      declared = omega (arith, b.declared, same);
      few = subst (All AreFew) (sym m.kept.declarations) b.few;
      before = omega (arith, grown, length-append s.all.items (m.computed ∷ []), b.before);
      stand = subst (λ (r : Registered). All (λ computed. StandUnder r computed.values) t.all.items) (sym m.kept.registry)
          (subst (All (λ computed. StandUnder s.registry.now computed.values)) (sym m.kept.all) (All-push (λ computed. StandUnder s.registry.now computed.values) s.all.items m.computed b.stand m.next.stand));
    }

ready_from : (i : ℕ) (elements : List Elem) (s : Computing) → IsTreeFrom i elements → IsBegun i (length elements) s → AreReady IsReady Stepped i elements s
ready_from i [] s tree b = tt
ready_from i (e ∷ es) s tree b = (
  ready_at i (length es) s e.parent b (head i e es tree),
  λ t gave. ready_from (i + 1) es t (tail i e es tree) (begun_next i (length es) s t e.parent b gave),
)

pub ready_all : (elements : List Elem) (s : Computing) → IsTree elements → 1 ≤ s.limit → s.limit ≤ 32768 → length s.declarations.now ≡ length elements
    → All AreFew s.declarations.now → s.all.items ≡ [] → AreReady IsReady Stepped 0 elements s
ready_all elements s tree least most declared few none = ready_from 0 elements s (from_start elements tree) (record {
  least = least;
  most = most;
  declared = omega (arith, declared);
  few = few;
  before = ap length none;
  stand = subst (All (λ computed. StandUnder s.registry.now computed.values)) (sym none) (λ k d lt. absurd (omega (arith, lt)));
})

-- ---- what the walk comes to

-- the first so many elements of the tree are computed
record IsDone (most : ℕ) (tree : Tree) (i : ℕ) (s : Computing) : Type 0 where
  tree_is : tree_in s tree.parents ≡ tree
  limit : s.limit ≡ most
  computed : AreComputed tree most i s.all.items
  stand : AllStand tree.registered s.all.items

tree_same : (s t : Computing) (parents : List (Option ℕ)) (i : ℕ) (parent : Option ℕ) → IsOneMore s i parent t → tree_in t parents ≡ tree_in s parents
tree_same s t parents i parent m =
    ap (λ (r : Registered). the_tree r parents t.declarations.now t.width t.height) m.kept.registry
    ∙ ap (λ (d : List Declarations). the_tree s.registry.now parents d t.width t.height) m.kept.declarations
    ∙ ap (λ (w : ℕ). the_tree s.registry.now parents s.declarations.now w t.height) m.kept.width
    ∙ ap (λ (h : ℕ). the_tree s.registry.now parents s.declarations.now s.width h) m.kept.height

stands : (most : ℕ) (tree : Tree) (i : ℕ) (parent : Option ℕ) (decls : Declarations) (s : Computing) → IsDone most tree i s → slice_get tree.parents i ≡ Some parent → slice_get s.declarations.now i ≡ Some decls → StandsAt tree i parent decls
stands most tree i parent decls s d at declared = record { under = at; declares = subst (λ (x : Tree). slice_get x.declarations i ≡ Some decls) d.tree_is declared }

done_next : (most : ℕ) (tree : Tree) (i : ℕ) (parent : Option ℕ) (s t : Computing) → AreEarlier tree.parents → slice_get tree.parents i ≡ Some parent → IsDone most tree i s → IsOneMore s i parent t → IsDone most tree (i + 1) t
done_next most tree i parent s t parents at d m = record {
  tree_is = tree_same s t tree.parents i parent m ∙ d.tree_is;
  limit = m.kept.limit ∙ d.limit;
  computed = subst (AreComputed tree most (i + 1)) (sym m.kept.all)
      (subst (λ (n : ℕ). AreComputed tree most (n + 1) (s.all.items ++ m.computed ∷ [])) d.computed.count
      (first_next tree most s.all.items parent m.next.decls m.computed parents
      (subst (λ (n : ℕ). StandsAt tree n parent m.next.decls) (sym d.computed.count) (stands most tree i parent m.next.decls s d at m.next.declares))
      fresh
      (subst (λ (n : ℕ). AreComputed tree most n s.all.items) (sym d.computed.count) d.computed)));
  stand = subst (AllStand tree.registered) (sym m.kept.all)
      (All-push (λ computed. StandUnder tree.registered computed.values) s.all.items m.computed d.stand (subst (λ (x : Tree). StandUnder x.registered m.computed.values) d.tree_is m.next.stand));
}
  where
    fresh : IsOfElement tree most (values_in s.all.items) parent m.next.decls m.computed
    fresh =
        subst (λ (l : ℕ). IsOfElement tree l (values_in s.all.items) parent m.next.decls m.computed) d.limit
        (subst (λ (x : Tree). IsOfElement x s.limit (values_in s.all.items) parent m.next.decls m.computed) d.tree_is m.next.next)

out_next : (most : ℕ) (tree : Tree) (i : ℕ) (parent : Option ℕ) (property : Key) (s : Computing) → slice_get tree.parents i ≡ Some parent → IsDone most tree i s → IsNextOut s i parent property → IsOutOfRange tree most i property
out_next most tree i parent property s at d o = record {
  before = s.all.items;
  computed = d.computed;
  stand = d.stand;
  parent = parent;
  decls = o.decls;
  stands = stands most tree i parent o.decls s d at o.declares;
  out = subst (λ (l : ℕ). alone.IsOutOfRange tree.registered o.decls (parent_in (values_in s.all.items) parent) (place_in tree.width tree.height (values_in s.all.items) parent) l property) d.limit
      (subst (λ (x : Tree). alone.IsOutOfRange x.registered o.decls (parent_in (values_in s.all.items) parent) (place_in x.width x.height (values_in s.all.items) parent) s.limit property) d.tree_is o.out);
}

parent_there : (tree : Tree) (whole done : List Elem) (e : Elem) (es : List Elem) → tree.parents ≡ map parent_of whole → whole ≡ done ++ e ∷ es → slice_get tree.parents (length done) ≡ Some e.parent
parent_there tree whole done e es parents same =
    ap (λ l. slice_get l (length done)) parents ∙ slice_get-map parent_of whole (length done)
    ∙ ap (option_map parent_of) (ap (λ l. slice_get l (length done)) same ∙ get_last done e es)

module _ (most : ℕ) (tree : Tree) (whole : List Elem) (earlier_all : AreEarlier tree.parents) (parents : tree.parents ≡ map parent_of whole) where
  walked : (done rest : List Elem) (s last : Computing) → whole ≡ done ++ rest → IsDone most tree (length done) s
      → Reaches Stepped (length done) rest s (Ok tt) last → AreComputed tree most (length whole) last.all.items × AllStand tree.registered last.all.items
  walked done [] s last same d reached =
      let count : length done ≡ length whole = ap length (sym (append-nil done)) ∙ ap length (sym same) in
      subst (λ (x : Computing). AreComputed tree most (length whole) x.all.items × AllStand tree.registered x.all.items) (sym reached.1) (subst (λ (n : ℕ). AreComputed tree most n s.all.items) count d.computed, d.stand)
  walked done (e ∷ es) s last same d (inl stopped) = let no = stopped.1 in cc
  walked done (e ∷ es) s last same d (inr went) =
      let longer : whole ≡ (done ++ e ∷ []) ++ es = same ∙ sym (append_assoc done (e ∷ []) es) in
      let count : length done + 1 ≡ length (done ++ e ∷ []) = omega (arith, length-append done (e ∷ [])) in
      let next = done_next most tree (length done) e.parent s went.0 earlier_all (parent_there tree whole done e es parents same) d went.1 in
      walked (done ++ e ∷ []) es went.0 last longer (subst (λ (n : ℕ). IsDone most tree n went.0) count next) (subst (λ (n : ℕ). Reaches Stepped n es went.0 (Ok tt) last) count went.2)

  walked_out : (number : ℕ) (property : Key) (done rest : List Elem) (s last : Computing) → whole ≡ done ++ rest → IsDone most tree (length done) s
      → Reaches Stepped (length done) rest s (Err (stop.Range number property)) last → IsOutOfRange tree most number property
  walked_out number property done [] s last same d reached = let no = reached.0 in cc
  walked_out number property done (e ∷ es) s last same d (inl stopped) =
      let is : stopped.0 ≡ stop.Range number property = let no = stopped.1 in cc in
      let gave : (number ≡ length done) × IsNextOut s (length done) e.parent property = subst (λ (x : Stop). Stepped s (length done) e.parent (Err x) last) is stopped.2 in
      subst (λ (n : ℕ). IsOutOfRange tree most n property) (sym gave.0) (out_next most tree (length done) e.parent property s (parent_there tree whole done e es parents same) d gave.1)
  walked_out number property done (e ∷ es) s last same d (inr went) =
      let longer : whole ≡ (done ++ e ∷ []) ++ es = same ∙ sym (append_assoc done (e ∷ []) es) in
      let count : length done + 1 ≡ length (done ++ e ∷ []) = omega (arith, length-append done (e ∷ [])) in
      let next = done_next most tree (length done) e.parent s went.0 earlier_all (parent_there tree whole done e es parents same) d went.1 in
      walked_out number property (done ++ e ∷ []) es went.0 last longer (subst (λ (n : ℕ). IsDone most tree n went.0) count next) (subst (λ (n : ℕ). Reaches Stepped n es went.0 (Err (stop.Range number property)) last) count went.2)

begun : (elements : List Elem) (s : Computing) → s.all.items ≡ [] → IsDone s.limit (tree_in s (map parent_of elements)) 0 s
begun elements s none = record {
  tree_is = refl;
  limit = refl;
  computed = record { count = ap length none; each = λ i parent decls computed at is_at. let no : None ≡ Some computed = ap (λ l. slice_get l i) (sym none) ∙ is_at in cc };
  stand = subst (AllStand s.registry.now) (sym none) (λ k d lt. absurd (omega (arith, lt)));
}

pub computed_all : (elements : List Elem) (s last : Computing) → IsTree elements → s.all.items ≡ [] → Reaches Stepped 0 elements s (Ok tt) last
    → AreComputed (tree_in s (map parent_of elements)) s.limit (length elements) last.all.items × AllStand s.registry.now last.all.items
computed_all elements s last tree none reached =
    walked s.limit (tree_in s (map parent_of elements)) elements (parents_earlier elements tree) refl [] elements s last refl (begun elements s none) reached

pub computed_out : (number : ℕ) (property : Key) (elements : List Elem) (s last : Computing) → IsTree elements → s.all.items ≡ [] → Reaches Stepped 0 elements s (Err (stop.Range number property)) last
    → IsOutOfRange (tree_in s (map parent_of elements)) s.limit number property
computed_out number property elements s last tree none reached =
    walked_out s.limit (tree_in s (map parent_of elements)) elements (parents_earlier elements tree) refl number property [] elements s last refl (begun elements s none) reached
