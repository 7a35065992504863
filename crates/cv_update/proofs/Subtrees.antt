-- Which elements are stepped: the first has no stepped parent, each other one has, and each other element has none.
use Rattle.std.proofs.Common.{◌≡◌, ◌≢◌, ◌⊎◌, inl, inr, ℕ, zero, suc, ◌+◌, ◌<◌, ◌≤◌, ◌==◌, ◌||◌, Bool, true, false, List, [], ◌∷◌, ◌++◌, length, length-append, refl, sym, ap, ◌∙◌, subst, arith}
use Rattle.std.specs.Prelude.{Option, Some, None, map, option_map}
use Rattle.std.specs.List.{slice_get}
use Rattle.std.proofs.lemmas.Bool.{eqb-false}
use Rattle.std.proofs.lemmas.Option.{slice_get-map, slice_get_within}
use Rattle.cv_doc.specs.declared.elements.Elem.{Elem}
use Rattle.cv_doc.specs.Kept.{IsParentOf}
use Rattle.cv_tree.specs.Tree.{AreEarlier, parent_of}
use Rattle.cv_walk.specs.Subtrees.{is_marked, is_stepped, mark_at, marks}
use Rattle.cv_walk.proofs.Inside.{length_marks, marked_known, marks_front, marks_here}

neither : (a b : Bool) → (a || b) ≡ false → (a ≡ false) × (b ≡ false)
neither true b is = cc
neither false b is = (refl, is)

some_false : (xs : List Bool) (i : ℕ) → i < length xs → mark_at (slice_get xs i) ≡ false → slice_get xs i ≡ Some false
some_false [] i lt is = absurd (omega (arith, lt))
some_false (x ∷ xs) zero lt is = ap Some is
some_false (x ∷ xs) (suc i) lt is = some_false xs i (omega (arith, lt)) is

-- an element that isn't stepped isn't the first, and its parent isn't stepped
unmarked_known : (start : ℕ) (known : List Bool) (es : List Elem) (k i : ℕ) (e : Elem) → slice_get es k ≡ Some e → i ≡ length known + k → slice_get (marks start known es) i ≡ Some false
    → (i ≢ start) × ((p : ℕ) → e.parent ≡ Some p → p < i → slice_get (marks start known es) p ≡ Some false)
unmarked_known start known [] k i e at same is = cc
unmarked_known start known (x ∷ es) zero i e at same is = (
  subst (λ (n : ℕ). n ≢ start) (sym here) (eqb-false (length known) start parts.0),
  λ p under lt. marks_front start known (x ∷ es) p (omega (arith, lt, here)) ∙ some_false known p (omega (arith, lt, here)) (subst (λ (parent : Option ℕ). is_marked known parent ≡ false) (ap (λ (y : Elem). y.parent) one ∙ under) parts.1),
)
  where
    one : x ≡ e
    one = let both : Some x ≡ Some e = at in cc

    here : i ≡ length known
    here = omega (arith, same)

    not_stepped : is_stepped start known x.parent ≡ false
    not_stepped = let both : Some (is_stepped start known x.parent) ≡ Some false = sym (marks_here start known x es) ∙ ap (slice_get (marks start known (x ∷ es))) (sym here) ∙ is in cc

    parts : ((length known == start) ≡ false) × (is_marked known x.parent ≡ false)
    parts = neither (length known == start) (is_marked known x.parent) not_stepped
unmarked_known start known (x ∷ es) (suc k) i e at same is =
    unmarked_known start (known ++ is_stepped start known x.parent ∷ []) es k i e at (omega (arith, same, length-append known (is_stepped start known x.parent ∷ []))) is

module _ (start : ℕ) (elements : List Elem) (earlier : AreEarlier (map parent_of elements)) where
  parent_at : (i : ℕ) (e : Elem) → slice_get elements i ≡ Some e → IsParentOf i e.parent
  parent_at i e at = earlier i e.parent (slice_get-map parent_of elements i ∙ ap (option_map parent_of) at)

  element_at : (es : List Elem) (i : ℕ) → i < length es → (e : Elem) × (slice_get es i ≡ Some e)
  element_at [] i lt = absurd (omega (arith, lt))
  element_at (e ∷ es) zero lt = (e, refl)
  element_at (e ∷ es) (suc i) lt = element_at es i (omega (arith, lt))

  there : (i : ℕ) (b : Bool) → slice_get (marks start [] elements) i ≡ Some b → (e : Elem) × (slice_get elements i ≡ Some e)
  there i b is = element_at elements i (omega (arith, slice_get_within (marks start [] elements) i b is, length_marks start [] elements))

  -- no element before the first is stepped
  pub marked_from : (n i : ℕ) → i < n → slice_get (marks start [] elements) i ≡ Some true → start ≤ i
  marked_from zero i lt is = absurd (omega (arith, lt))
  marked_from (suc n) i lt is = by (λ p less marked. marked_from n p less marked) (marked_known start [] elements i i e.0 e.1 (omega arith) is)
    where
      e : (x : Elem) × (slice_get elements i ≡ Some x)
      e = there i true is

      by : ((p : ℕ) → p < n → slice_get (marks start [] elements) p ≡ Some true → start ≤ p) → (i ≡ start) ⊎ ((p : ℕ) × (e.0.parent ≡ Some p) × (slice_get (marks start [] elements) p ≡ Some true)) → start ≤ i
      by before (inl same) = omega (arith, same)
      by before (inr under) =
          let less : under.0 < i = subst (IsParentOf i) under.1 (parent_at i e.0 e.1) in
          omega (arith, less, before under.0 (omega (arith, less, lt)) under.2)

  -- an element that isn't stepped isn't the first
  pub unmarked_other : (i : ℕ) → slice_get (marks start [] elements) i ≡ Some false → i ≢ start
  unmarked_other i is = let e = there i false is in (unmarked_known start [] elements i i e.0 e.1 (omega arith) is).0

  -- and its parent isn't stepped
  pub unmarked_parent : (i p : ℕ) → slice_get (map parent_of elements) i ≡ Some (Some p) → slice_get (marks start [] elements) i ≡ Some false → slice_get (marks start [] elements) p ≡ Some false
  unmarked_parent i p under is =
      let e = there i false is in
      let parents : Some e.0.parent ≡ Some (Some p) = sym (slice_get-map parent_of elements i ∙ ap (option_map parent_of) e.1) ∙ under in
      let same : e.0.parent ≡ Some p = cc in
      let less : p < i = subst (IsParentOf i) same (parent_at i e.0 e.1) in
      (unmarked_known start [] elements i i e.0 e.1 (omega arith) is).1 p same less

  -- nor is the root
  pub unmarked_root : (n i : ℕ) → i < n → slice_get (marks start [] elements) i ≡ Some false → slice_get (marks start [] elements) 0 ≡ Some false
  unmarked_root zero i lt is = absurd (omega (arith, lt))
  unmarked_root (suc n) i lt is = by (λ p less unmarked. unmarked_root n p less unmarked) e.0.parent refl
    where
      e : (x : Elem) × (slice_get elements i ≡ Some x)
      e = there i false is

      by : ((p : ℕ) → p < n → slice_get (marks start [] elements) p ≡ Some false → slice_get (marks start [] elements) 0 ≡ Some false) → (parent : Option ℕ) → e.0.parent ≡ parent → slice_get (marks start [] elements) 0 ≡ Some false
      by before None same =
          let first : i ≡ 0 = subst (IsParentOf i) same (parent_at i e.0 e.1) in
          subst (λ (j : ℕ). slice_get (marks start [] elements) j ≡ Some false) first is
      by before (Some p) same =
          let less : p < i = subst (IsParentOf i) same (parent_at i e.0 e.1) in
          before p (omega (arith, less, lt)) ((unmarked_known start [] elements i i e.0 e.1 (omega arith) is).1 p same less)
