-- A walk over an element and its descendants: each is ready, and at the end all of the tree is computed, or a property of the first
-- element on which one is out of range is told.
use Rattle.std.proofs.Common.{◌≡◌, ◌≢◌, ◌⊎◌, inl, inr, ℕ, zero, suc, ◌+◌, ◌<◌, ◌≤◌, Bool, true, false, List, [], ◌∷◌, ◌++◌, All, length, take, refl, sym, ap, ◌∙◌, subst, arith, append-nil, length-append, append_assoc}
use Rattle.std.specs.Prelude.{Option, Some, None, Ok, Err, IfSome, map, option_map, slice_set}
use Rattle.std.specs.List.{slice_get}
use Rattle.std.proofs.lemmas.List.{length-map, take_all}
use Rattle.std.proofs.lemmas.List.Elements.{All-set, All-take}
use Rattle.std.proofs.lemmas.Option.{slice_get-map, slice_get_within}
use Rattle.cv_doc.specs.declared.elements.Elem.{Elem}
use Rattle.cv_doc.specs.Kept.{IsParentOf}
use Rattle.cv_spec_ratio.specs.Ratio.{Ratio}
use Rattle.cv_valuation.specs.declared.computed.Computed.{Computed}
use Rattle.cv_valuation.specs.declared.key.Key.{Key}
use Rattle.cv_valuation.specs.Valuations.{Values}
use Rattle.cv_props.specs.Winners.{Declarations}
use Rattle.cv_spec_valuation.specs.Computed.{IsComputed, StandUnder}
use Rattle.cv_spec_valuation.specs.Computed as alone
use Rattle.cv_spec_valuation.specs.Contexts.{size_above}
use Rattle.cv_tree.specs.Contents.{AreFew}
use Rattle.cv_tree.specs.Tree.{AllStand, AreComputed, IsOfElement, IsOutOfRange, StandsAt, parent_in, parent_of, place_in, root_size, values_in}
use Rattle.cv_tree.specs.declared.tree.Stop.{Stop}
use Rattle.cv_tree.specs.declared.tree.Stop.TheVariants as stop
use Rattle.cv_walk.proofs.Inside.{get_last, length_marks}
use Rattle.cv_walk.specs.Subtrees.{marks, stepped, subtree}
use Rattle.cv_walk.specs.Walks.{AreReadyOver, ReachesOver}
use Rattle.cv_update.specs.declared.renewal.Renewal.{Renewal}
use Rattle.cv_update.specs.declared.renewing.Renewing.{Renewing}
use Rattle.cv_update.specs.Renewed.{IsRenewable, IsWithin, declared_after, put_from, tree_after, tree_before, with_fresh}
use Rattle.cv_update.specs.Walking.{IsNextOut, IsOneMore, IsReady, Stepped}
use Rattle.cv_update.proofs.Alike.{element_alike, first_next}
use Rattle.cv_update.proofs.Putting.{length_put, put_none}
use Rattle.cv_update.proofs.Subtrees.{marked_from, unmarked_other, unmarked_parent, unmarked_root}

-- ---- lists

get_take : {X : Type 0} (n : ℕ) (xs : List X) (i : ℕ) → i < n → slice_get (take n xs) i ≡ slice_get xs i
get_take zero xs i lt = absurd (omega (arith, lt))
get_take (suc n) [] i lt = refl
get_take (suc n) (x ∷ xs) zero lt = refl
get_take (suc n) (x ∷ xs) (suc i) lt = get_take n xs i (omega (arith, lt))

take_more : {X : Type 0} (i n : ℕ) (xs : List X) (x : X) → n ≡ suc i → slice_get xs i ≡ Some x → take n xs ≡ take i xs ++ x ∷ []
take_more i zero xs x same at = absurd (omega (arith, same))
take_more i (suc n) [] x same at = cc
take_more zero (suc zero) (y ∷ ys) x same at = let one : y ≡ x = let both : Some y ≡ Some x = at in cc in ap (λ z. z ∷ []) one
take_more zero (suc (suc n)) (y ∷ ys) x same at = absurd (omega (arith, same))
take_more (suc i) (suc n) (y ∷ ys) x same at = ap (λ rest. y ∷ rest) (take_more i n ys x (omega (arith, same)) at)

take_set : {X : Type 0} (i n : ℕ) (xs : List X) (x : X) → n ≡ suc i → i < length xs → take n (slice_set xs i x) ≡ take i xs ++ x ∷ []
take_set i zero xs x same lt = absurd (omega (arith, same))
take_set i (suc n) [] x same lt = absurd (omega (arith, lt))
take_set zero (suc zero) (y ∷ ys) x same lt = refl
take_set zero (suc (suc n)) (y ∷ ys) x same lt = absurd (omega (arith, same))
take_set (suc i) (suc n) (y ∷ ys) x same lt = ap (λ rest. y ∷ rest) (take_set i n ys x (omega (arith, same)) (omega (arith, lt)))

get_set_there : {X : Type 0} (xs : List X) (i j : ℕ) (x : X) → j ≢ i → slice_get (slice_set xs i x) j ≡ slice_get xs j
get_set_there [] i j x other = refl
get_set_there (y ∷ ys) zero zero x other = absurd (other refl)
get_set_there (y ∷ ys) zero (suc j) x other = refl
get_set_there (y ∷ ys) (suc i) zero x other = refl
get_set_there (y ∷ ys) (suc i) (suc j) x other = get_set_there ys i j x (λ same. other (ap suc same))

item_at : {X : Type 0} (xs : List X) (i : ℕ) → i < length xs → (x : X) × (slice_get xs i ≡ Some x)
item_at [] i lt = absurd (omega (arith, lt))
item_at (x ∷ xs) zero lt = (x, refl)
item_at (x ∷ xs) (suc i) lt = item_at xs i (omega (arith, lt))

-- the values at a place are those of what stands there
values_same : (one other : List Computed) (i : ℕ) → slice_get one i ≡ slice_get other i → slice_get (values_in one) i ≡ slice_get (values_in other) i
values_same one other i same = slice_get-map (λ (c : Computed). c.values) one i ∙ ap (option_map (λ (c : Computed). c.values)) same ∙ sym (slice_get-map (λ (c : Computed). c.values) other i)

-- what an element with this parent sees of others is the same among lists that have the same root and the same parent
parents_same : (one other : List Computed) (parent : Option ℕ) → IfSome parent (λ p. slice_get one p ≡ slice_get other p) → parent_in (values_in one) parent ≡ parent_in (values_in other) parent
parents_same one other None same = refl
parents_same one other (Some p) same = values_same one other p same

roots_same : (one other : List Computed) (parent : Option ℕ) → IfSome parent (λ p. slice_get one 0 ≡ slice_get other 0) → root_size (values_in one) parent ≡ root_size (values_in other) parent
roots_same one other None same = refl
roots_same one other (Some p) same = ap (λ (x : Option Values). Some (size_above x)) (values_same one other 0 same)

-- a front of a list has the same parent and the same root for an element behind it
front_parent : (xs : List Computed) (i : ℕ) (parent : Option ℕ) → IsParentOf i parent → IfSome parent (λ p. slice_get (take i xs) p ≡ slice_get xs p)
front_parent xs i None is = tt
front_parent xs i (Some p) is = get_take i xs p is

front_root : (xs : List Computed) (i : ℕ) (parent : Option ℕ) → IsParentOf i parent → IfSome parent (λ p. slice_get (take i xs) 0 ≡ slice_get xs 0)
front_root xs i None is = tt
front_root xs i (Some p) is = get_take i xs 0 (omega (arith, is))

-- ---- what the walk came to

-- the elements below this index are computed, and each one that is behind it or isn't stepped is as it was
record IsDone (r : Renewal) (i : ℕ) (s : Renewing) : Type 0 where
  renewal : s.renewal.now ≡ r
  start : s.fresh.start ≡ r.at
  behind : (s.fresh.all.items ≡ []) ⊎ (s.fresh.start + length s.fresh.all.items ≤ i)
  computed : AreComputed (tree_after r) r.limit i (take i (with_fresh r.all.now s.fresh))
  stand : AllStand r.registry.now (with_fresh r.all.now s.fresh)
  rest : (j : ℕ) → i ≤ j → slice_get (with_fresh r.all.now s.fresh) j ≡ slice_get r.all.now j
  kept : (j : ℕ) → slice_get (marks r.at [] r.elements.now.items) j ≡ Some false → slice_get (with_fresh r.all.now s.fresh) j ≡ slice_get r.all.now j

module _ (r : Renewal) (able : IsRenewable r) where
  abbrev elements : List Elem
  elements = r.elements.now.items

  abbrev old : List Computed
  old = r.all.now

  abbrev mark_list : List Bool
  mark_list = marks r.at [] elements

  count_old : length old ≡ length elements
  count_old = able.computed.count

  count_maps : length r.maps.now ≡ length elements
  count_maps = able.tree.declared ∙ length-map elements parent_of

  within_elements : (i : ℕ) (parent : Option ℕ) → slice_get (map parent_of elements) i ≡ Some parent → i < length elements
  within_elements i parent under = omega (arith, slice_get_within (map parent_of elements) i parent under, length-map elements parent_of)

  -- ---- each element is ready

  earlier_still : (i : ℕ) (parent : Option ℕ) → i < length old → IsParentOf i parent → IfSome parent (λ above. above < length old)
  earlier_still i None lt is = tt
  earlier_still i (Some p) lt is = omega (arith, lt, is)

  behind_at : (i : ℕ) (s : Renewing) → IsDone r i s → slice_get mark_list i ≡ Some true → s.fresh.start + length s.fresh.all.items ≤ i
  behind_at i s d marked = by d.behind
    where
      from : r.at ≤ i
      from = marked_from r.at elements able.tree.earlier (suc i) i (omega arith) marked

      by : (s.fresh.all.items ≡ []) ⊎ (s.fresh.start + length s.fresh.all.items ≤ i) → s.fresh.start + length s.fresh.all.items ≤ i
      by (inl none) = omega (arith, from, d.start, ap length none)
      by (inr le) = le

  ready_at : (i : ℕ) (s : Renewing) (parent : Option ℕ) → IsDone r i s → slice_get (map parent_of elements) i ≡ Some parent → slice_get mark_list i ≡ Some true → IsReady s i parent
  ready_at i s parent d under marked = record {
    least = subst (λ (x : Renewal). 1 ≤ x.limit) (sym d.renewal) able.least;
    most = subst (λ (x : Renewal). x.limit ≤ 32768) (sym d.renewal) able.most;
    declared = subst (λ (x : Renewal). i < length x.maps.now) (sym d.renewal) (omega (arith, within_elements i parent under, count_maps));
    few = subst (λ (x : Renewal). All AreFew x.maps.now) (sym d.renewal) able.few;
    few_declared = subst (λ (x : Renewal). AreFew x.declared.now) (sym d.renewal) able.few_declared;
    behind = behind_at i s d marked;
    stand = subst (λ (x : Renewal). AllStand x.registry.now (with_fresh x.all.now s.fresh)) (sym d.renewal) d.stand;
    earlier = subst (λ (x : Renewal). IfSome parent (λ above. above < length x.all.now)) (sym d.renewal) (earlier_still i parent (omega (arith, within_elements i parent under, count_old)) (able.tree.earlier i parent under));
  }

  -- ---- one element more

  module _ (i : ℕ) (s : Renewing) (parent : Option ℕ) (d : IsDone r i s) (under : slice_get (map parent_of elements) i ≡ Some parent) where
    abbrev now : List Computed
    now = with_fresh old s.fresh

    above : IsParentOf i parent
    above = able.tree.earlier i parent under

    count_now : length now ≡ length elements
    count_now = length_put old s.fresh.start s.fresh.all.items ∙ count_old

    -- the elements before this one, and this one
    first_one : (c : Computed) (decls : Declarations) → slice_get (declared_after r) i ≡ Some decls → IsOfElement (tree_after r) r.limit (values_in (take i now)) parent decls c
        → AreComputed (tree_after r) r.limit (i + 1) (take i now ++ c ∷ [])
    first_one c decls declares is =
        let stands : StandsAt (tree_after r) (length (take i now)) parent decls = record {
          under = ap (slice_get (map parent_of elements)) d.computed.count ∙ under;
          declares = ap (slice_get (declared_after r)) d.computed.count ∙ declares;
        } in
        subst (λ n. AreComputed (tree_after r) r.limit (n + 1) (take i now ++ c ∷ [])) d.computed.count
        (first_next (tree_after r) r.limit (take i now) parent decls c able.tree.earlier stands is
        (subst (λ n. AreComputed (tree_after r) r.limit n (take i now)) (sym d.computed.count) d.computed))

    done_new : (t : Renewing) → slice_get mark_list i ≡ Some true → IsOneMore s i parent t → IsDone r (i + 1) t
    done_new t marked m = record {
      renewal = m.kept.renewal ∙ d.renewal;
      start = m.kept.start ∙ d.start;
      behind = inr (omega (arith, m.kept.until));
      computed = subst (AreComputed (tree_after r) r.limit (i + 1)) (sym front) (first_one m.computed m.next.decls declares here);
      stand = subst (AllStand r.registry.now) (sym is) (All-set (λ (c : Computed). StandUnder r.registry.now c.values) now i m.computed stands d.stand);
      rest = λ j le. ap (λ l. slice_get l j) is ∙ get_set_there now i j m.computed (λ same. absurd (omega (arith, le, same))) ∙ d.rest j (omega (arith, le));
      kept = λ j unmarked. ap (λ l. slice_get l j) is ∙ get_set_there now i j m.computed (other j unmarked) ∙ d.kept j unmarked;
    }
      where
        is : with_fresh old t.fresh ≡ slice_set now i m.computed
        is = subst (λ (x : Renewal). with_fresh x.all.now t.fresh ≡ slice_set (with_fresh x.all.now s.fresh) i m.computed) d.renewal m.kept.now

        front : take (i + 1) (with_fresh old t.fresh) ≡ take i now ++ m.computed ∷ []
        front = ap (take (i + 1)) is ∙ take_set i (i + 1) now m.computed (omega arith) (omega (arith, count_now, within_elements i parent under))

        declares : slice_get (declared_after r) i ≡ Some m.next.decls
        declares = subst (λ (x : Renewal). slice_get (declared_after x) i ≡ Some m.next.decls) d.renewal m.next.declares

        stands : StandUnder r.registry.now m.computed.values
        stands = subst (λ (x : Renewal). StandUnder x.registry.now m.computed.values) d.renewal m.next.stand

        there : IsOfElement (tree_after r) r.limit (values_in now) parent m.next.decls m.computed
        there = subst (λ (x : Renewal). IsComputed x.registry.now m.next.decls (parent_in (values_in (with_fresh x.all.now s.fresh)) parent) (place_in x.width x.height (values_in (with_fresh x.all.now s.fresh)) parent) x.limit m.computed) d.renewal m.next.next

        here : IsOfElement (tree_after r) r.limit (values_in (take i now)) parent m.next.decls m.computed
        here = element_alike (tree_after r) r.limit (values_in now) (values_in (take i now)) parent m.next.decls m.computed
            (parents_same (take i now) now parent (front_parent now i parent above)) (roots_same (take i now) now parent (front_root now i parent above)) there

        other : (j : ℕ) → slice_get mark_list j ≡ Some false → j ≢ i
        other j unmarked same = let no : Some false ≡ Some true = sym unmarked ∙ ap (slice_get mark_list) same ∙ marked in cc

    done_old : slice_get mark_list i ≡ Some false → IsDone r (i + 1) s
    done_old unmarked = record {
      renewal = d.renewal;
      start = d.start;
      behind = by d.behind;
      computed = subst (AreComputed (tree_after r) r.limit (i + 1)) (sym front) (first_one c.0 decls.0 declares here);
      stand = d.stand;
      rest = λ j le. d.rest j (omega (arith, le));
      kept = d.kept;
    }
      where
        by : (s.fresh.all.items ≡ []) ⊎ (s.fresh.start + length s.fresh.all.items ≤ i) → (s.fresh.all.items ≡ []) ⊎ (s.fresh.start + length s.fresh.all.items ≤ i + 1)
        by (inl none) = inl none
        by (inr le) = inr (omega (arith, le))

        c : (x : Computed) × (slice_get old i ≡ Some x)
        c = item_at old i (omega (arith, count_old, within_elements i parent under))

        decls : (x : Declarations) × (slice_get r.maps.now i ≡ Some x)
        decls = item_at r.maps.now i (omega (arith, count_maps, within_elements i parent under))

        declares : slice_get (declared_after r) i ≡ Some decls.0
        declares = get_set_there r.maps.now r.at i r.declared.now (unmarked_other r.at elements able.tree.earlier i unmarked) ∙ decls.1

        front : take (i + 1) now ≡ take i now ++ c.0 ∷ []
        front = take_more i (i + 1) now c.0 (omega arith) (d.kept i unmarked ∙ c.1)

        before : IsOfElement (tree_before r) r.limit (values_in old) parent decls.0 c.0
        before = able.computed.each i parent decls.0 c.0 (record { under = under; declares = decls.1 }) c.1

        same_parent : (p : Option ℕ) → slice_get (map parent_of elements) i ≡ Some p → IfSome p (λ a. slice_get now a ≡ slice_get old a)
        same_parent None at = tt
        same_parent (Some a) at = d.kept a (unmarked_parent r.at elements able.tree.earlier i a at unmarked)

        same_root : (p : Option ℕ) → IfSome p (λ a. slice_get now 0 ≡ slice_get old 0)
        same_root None = tt
        same_root (Some a) = d.kept 0 (unmarked_root r.at elements able.tree.earlier (suc i) i (omega arith) unmarked)

        there : IsOfElement (tree_after r) r.limit (values_in now) parent decls.0 c.0
        there = element_alike (tree_after r) r.limit (values_in old) (values_in now) parent decls.0 c.0
            (parents_same now old parent (same_parent parent under)) (roots_same now old parent (same_root parent)) before

        here : IsOfElement (tree_after r) r.limit (values_in (take i now)) parent decls.0 c.0
        here = element_alike (tree_after r) r.limit (values_in now) (values_in (take i now)) parent decls.0 c.0
            (parents_same (take i now) now parent (front_parent now i parent above)) (roots_same (take i now) now parent (front_root now i parent above)) there

    out_at : (property : Key) → IsNextOut s i parent property → IsOutOfRange (tree_after r) r.limit i property
    out_at property o = record {
      before = take i now;
      computed = d.computed;
      stand = All-take (λ (c : Computed). StandUnder r.registry.now c.values) i now d.stand;
      parent = parent;
      decls = o.decls;
      stands = record { under = under; declares = subst (λ (x : Renewal). slice_get (declared_after x) i ≡ Some o.decls) d.renewal o.declares };
      out =
          subst (λ (z : Option Ratio). alone.IsOutOfRange r.registry.now o.decls (parent_in (values_in (take i now)) parent) (record { width = r.width; height = r.height; root = z }) r.limit property) (sym (roots_same (take i now) now parent (front_root now i parent above)))
          (subst (λ (v : Option Values). alone.IsOutOfRange r.registry.now o.decls v (place_in r.width r.height (values_in now) parent) r.limit property) (sym (parents_same (take i now) now parent (front_parent now i parent above)))
          (subst (λ (x : Renewal). alone.IsOutOfRange x.registry.now o.decls (parent_in (values_in (with_fresh x.all.now s.fresh)) parent) (place_in x.width x.height (values_in (with_fresh x.all.now s.fresh)) parent) x.limit property) d.renewal o.out));
    }

  -- ---- the whole walk

  -- a list of elements with their marks, behind others
  record IsRest (done : List Elem) (known : List Bool) (rest : List Elem) (left : List Bool) : Type 0 where
    all : elements ≡ done ++ rest
    marked : mark_list ≡ known ++ left
    same : length known ≡ length done

  count_left : (done : List Elem) (known : List Bool) (rest : List Elem) (left : List Bool) → IsRest done known rest left → length left ≡ length rest
  count_left done known rest left is =
      omega (arith, is.same, length-append done rest, length-append known left, ap length is.all, ap length is.marked, length_marks r.at [] elements)

  next_rest : (done : List Elem) (known : List Bool) (e : Elem) (rest : List Elem) (mark : Bool) (left : List Bool) → IsRest done known (e ∷ rest) (mark ∷ left) → IsRest (done ++ e ∷ []) (known ++ mark ∷ []) rest left
  next_rest done known e rest mark left is = record {
    all = is.all ∙ sym (append_assoc done (e ∷ []) rest);
    marked = is.marked ∙ sym (append_assoc known (mark ∷ []) left);
    same = omega (arith, is.same, length-append done (e ∷ []), length-append known (mark ∷ []));
  }

  parent_there : (done : List Elem) (known : List Bool) (e : Elem) (rest : List Elem) (left : List Bool) → IsRest done known (e ∷ rest) left → slice_get (map parent_of elements) (length done) ≡ Some e.parent
  parent_there done known e rest left is =
      slice_get-map parent_of elements (length done) ∙ ap (option_map parent_of) (ap (λ l. slice_get l (length done)) is.all ∙ get_last done e rest)

  mark_there : (done : List Elem) (known : List Bool) (rest : List Elem) (mark : Bool) (left : List Bool) → IsRest done known rest (mark ∷ left) → slice_get mark_list (length done) ≡ Some mark
  mark_there done known rest mark left is =
      ap (λ n. slice_get mark_list n) (sym is.same) ∙ ap (λ l. slice_get l (length known)) is.marked ∙ get_last known mark left

  longer : (done : List Elem) (e : Elem) → length done + 1 ≡ length (done ++ e ∷ [])
  longer done e = omega (arith, length-append done (e ∷ []))

  ready_over : (done : List Elem) (known : List Bool) (rest : List Elem) (left : List Bool) (s : Renewing) → IsRest done known rest left → IsDone r (length done) s → AreReadyOver IsReady Stepped (stepped (length done) rest left) s
  ready_over done known [] left s is d = tt
  ready_over done known (e ∷ rest) [] s is d = tt
  ready_over done known (e ∷ rest) (true ∷ left) s is d =
      let under = parent_there done known e rest (true ∷ left) is in
      let marked = mark_there done known (e ∷ rest) true left is in (
        ready_at (length done) s e.parent d under marked,
        λ t gave. subst (λ (n : ℕ). AreReadyOver IsReady Stepped (stepped n rest left) t) (sym (longer done e))
            (ready_over (done ++ e ∷ []) (known ++ true ∷ []) rest left t (next_rest done known e rest true left is)
            (subst (λ (n : ℕ). IsDone r n t) (longer done e) (done_new (length done) s e.parent d under t marked gave))),
      )
  ready_over done known (e ∷ rest) (false ∷ left) s is d =
      subst (λ (n : ℕ). AreReadyOver IsReady Stepped (stepped n rest left) s) (sym (longer done e))
      (ready_over (done ++ e ∷ []) (known ++ false ∷ []) rest left s (next_rest done known e rest false left is)
      (subst (λ (n : ℕ). IsDone r n s) (longer done e)
      (done_old (length done) s e.parent d (parent_there done known e rest (false ∷ left) is) (mark_there done known (e ∷ rest) false left is))))

  walked : (done : List Elem) (known : List Bool) (rest : List Elem) (left : List Bool) (s last : Renewing) → IsRest done known rest left → IsDone r (length done) s
      → ReachesOver Stepped (stepped (length done) rest left) s (Ok tt) last → IsDone r (length elements) last
  walked done known [] left s last is d reached =
      subst (λ (x : Renewing). IsDone r (length elements) x) (sym reached.1)
      (subst (λ (n : ℕ). IsDone r n s) (ap length (sym (append-nil done)) ∙ ap length (sym is.all)) d)
  walked done known (e ∷ rest) [] s last is d reached = absurd (omega (arith, count_left done known (e ∷ rest) [] is))
  walked done known (e ∷ rest) (true ∷ left) s last is d (inl stopped) = let no = stopped.1 in cc
  walked done known (e ∷ rest) (true ∷ left) s last is d (inr went) =
      walked (done ++ e ∷ []) (known ++ true ∷ []) rest left went.0 last (next_rest done known e rest true left is)
      (subst (λ (n : ℕ). IsDone r n went.0) (longer done e) (done_new (length done) s e.parent d (parent_there done known e rest (true ∷ left) is) went.0 (mark_there done known (e ∷ rest) true left is) went.1))
      (subst (λ (n : ℕ). ReachesOver Stepped (stepped n rest left) went.0 (Ok tt) last) (longer done e) went.2)
  walked done known (e ∷ rest) (false ∷ left) s last is d reached =
      walked (done ++ e ∷ []) (known ++ false ∷ []) rest left s last (next_rest done known e rest false left is)
      (subst (λ (n : ℕ). IsDone r n s) (longer done e) (done_old (length done) s e.parent d (parent_there done known e rest (false ∷ left) is) (mark_there done known (e ∷ rest) false left is)))
      (subst (λ (n : ℕ). ReachesOver Stepped (stepped n rest left) s (Ok tt) last) (longer done e) reached)

  walked_out : (number : ℕ) (property : Key) (done : List Elem) (known : List Bool) (rest : List Elem) (left : List Bool) (s last : Renewing) → IsRest done known rest left → IsDone r (length done) s
      → ReachesOver Stepped (stepped (length done) rest left) s (Err (stop.Range number property)) last → IsOutOfRange (tree_after r) r.limit number property
  walked_out number property done known [] left s last is d reached = let no = reached.0 in cc
  walked_out number property done known (e ∷ rest) [] s last is d reached = let no = reached.0 in cc
  walked_out number property done known (e ∷ rest) (true ∷ left) s last is d (inl stopped) =
      let same : stopped.0 ≡ stop.Range number property = let no = stopped.1 in cc in
      let gave : (number ≡ length done) × IsNextOut s (length done) e.parent property = subst (λ (x : Stop). Stepped s (length done) e.parent (Err x) last) same stopped.2 in
      subst (λ (n : ℕ). IsOutOfRange (tree_after r) r.limit n property) (sym gave.0) (out_at (length done) s e.parent d (parent_there done known e rest (true ∷ left) is) property gave.1)
  walked_out number property done known (e ∷ rest) (true ∷ left) s last is d (inr went) =
      walked_out number property (done ++ e ∷ []) (known ++ true ∷ []) rest left went.0 last (next_rest done known e rest true left is)
      (subst (λ (n : ℕ). IsDone r n went.0) (longer done e) (done_new (length done) s e.parent d (parent_there done known e rest (true ∷ left) is) went.0 (mark_there done known (e ∷ rest) true left is) went.1))
      (subst (λ (n : ℕ). ReachesOver Stepped (stepped n rest left) went.0 (Err (stop.Range number property)) last) (longer done e) went.2)
  walked_out number property done known (e ∷ rest) (false ∷ left) s last is d reached =
      walked_out number property (done ++ e ∷ []) (known ++ false ∷ []) rest left s last (next_rest done known e rest false left is)
      (subst (λ (n : ℕ). IsDone r n s) (longer done e) (done_old (length done) s e.parent d (parent_there done known e rest (false ∷ left) is) (mark_there done known (e ∷ rest) false left is)))
      (subst (λ (n : ℕ). ReachesOver Stepped (stepped n rest left) s (Err (stop.Range number property)) last) (longer done e) reached)

  -- ---- from its beginning to its end

  pub record IsFirst (s : Renewing) : Type 0 where
    pub renewal : s.renewal.now ≡ r
    pub start : s.fresh.start ≡ r.at
    pub none : s.fresh.all.items ≡ []

  nothing_new : (s : Renewing) → IsFirst s → with_fresh old s.fresh ≡ old
  nothing_new s f = ap (put_from old s.fresh.start) f.none ∙ put_none old s.fresh.start

  begun : (s : Renewing) → IsFirst s → IsDone r 0 s
  begun s f = record {
    renewal = f.renewal;
    start = f.start;
    behind = inl f.none;
    computed = record { count = refl; each = λ i parent decls computed at is_at. cc };
    stand = subst (AllStand r.registry.now) (sym (nothing_new s f)) able.stand;
    rest = λ j le. ap (λ l. slice_get l j) (nothing_new s f);
    kept = λ j unmarked. ap (λ l. slice_get l j) (nothing_new s f);
  }

  whole : IsRest [] [] elements mark_list
  whole = record { all = refl; marked = refl; same = refl }

  pub ready_all : (s : Renewing) → IsFirst s → AreReadyOver IsReady Stepped (subtree r.at elements) s
  ready_all s f = ready_over [] [] elements mark_list s whole (begun s f)

  -- All of the tree is computed.
  pub record IsRenewed (s : Renewing) : Type 0 where
    pub within : IsWithin s.fresh old
    pub computed : AreComputed (tree_after r) r.limit (length elements) (with_fresh old s.fresh)
    pub stand : AllStand r.registry.now (with_fresh old s.fresh)

  pub renewed_all : (s last : Renewing) → IsFirst s → ReachesOver Stepped (subtree r.at elements) s (Ok tt) last → IsRenewed last
  renewed_all s last f reached = record {
    within = by d.behind;
    computed = subst (AreComputed (tree_after r) r.limit (length elements)) (take_all (length elements) (with_fresh old last.fresh) (omega (arith, length_put old last.fresh.start last.fresh.all.items, count_old))) d.computed;
    stand = d.stand;
  }
    where
      d : IsDone r (length elements) last
      d = walked [] [] elements mark_list s last whole (begun s f) reached

      by : (last.fresh.all.items ≡ []) ⊎ (last.fresh.start + length last.fresh.all.items ≤ length elements) → last.fresh.start + length last.fresh.all.items ≤ length old
      by (inl none) = omega (arith, ap length none, d.start, able.there, count_old)
      by (inr le) = omega (arith, le, count_old)

  pub renewed_out : (number : ℕ) (property : Key) (s last : Renewing) → IsFirst s → ReachesOver Stepped (subtree r.at elements) s (Err (stop.Range number property)) last → IsOutOfRange (tree_after r) r.limit number property
  renewed_out number property s last f reached = walked_out number property [] [] elements mark_list s last whole (begun s f) reached
