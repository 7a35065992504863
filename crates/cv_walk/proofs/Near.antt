-- What stands below an element is what stands below it among the elements before its end.
use Rattle.std.proofs.Common.{◌≡◌, ◌≢◌, ℕ, zero, suc, ◌+◌, ◌<◌, ◌≤◌, Bool, true, false, List, [], ◌∷◌, ◌++◌, drop, take, length, length-append, append-nil, append_assoc, refl, sym, ap, ◌∙◌, arith}
use Rattle.std.specs.Prelude.{Some}
use Rattle.std.specs.List.{slice_get}
use Rattle.std.proofs.lemmas.List.{length-take}
use Rattle.std.proofs.lemmas.Option.{slice_get_within}
use Rattle.cv_doc.specs.declared.elements.Elem.{Elem}
use Rattle.cv_walk.specs.Extents.{EndsAt}
use Rattle.cv_walk.specs.Marked.{unmarked}
use Rattle.cv_walk.specs.Subtrees.{is_stepped, marks, stepped, subtree}
use Rattle.cv_walk.proofs.Marking.{stepped_before}
use Rattle.cv_walk.proofs.Inside.{first_marked, length_marks, marks_here}

-- the marks of some elements, and then those of the rest
marks_parts : (start n : ℕ) (known : List Bool) (es : List Elem) → marks start known es ≡ marks start (marks start known (take n es)) (drop n es)
marks_parts start zero known [] = refl
marks_parts start zero known (e ∷ es) = refl
marks_parts start (suc n) known [] = refl
marks_parts start (suc n) known (e ∷ es) = marks_parts start n (known ++ is_stepped start known e.parent ∷ []) es

-- where none of the rest is marked
none_marked : (start : ℕ) (known : List Bool) (es : List Elem) → ((i : ℕ) → length known ≤ i → slice_get (marks start known es) i ≢ Some true) → marks start known es ≡ known ++ unmarked (length es)
none_marked start known [] none = sym (append-nil known)
none_marked start known (e ∷ es) none =
    none_marked start (known ++ is_stepped start known e.parent ∷ []) es (λ i le. none i (omega (arith, le, length-append known (is_stepped start known e.parent ∷ []))))
    ∙ append_assoc known (is_stepped start known e.parent ∷ []) (unmarked (length es))
    ∙ ap (λ b. known ++ b ∷ unmarked (length es)) (by (is_stepped start known e.parent) refl)
  where
    by : (b : Bool) → is_stepped start known e.parent ≡ b → is_stepped start known e.parent ≡ false
    by true is = absurd (none (length known) (omega arith) (marks_here start known e es ∙ ap Some is))
    by false is = is

-- no element behind the marks is stepped
stepped_take : (i n : ℕ) (es : List Elem) (xs : List Bool) → length xs ≤ n → stepped i (take n es) xs ≡ stepped i es xs
stepped_take i zero [] xs le = refl
stepped_take i zero (e ∷ es) [] le = refl
stepped_take i zero (e ∷ es) (x ∷ xs) le = absurd (omega (arith, le))
stepped_take i (suc n) [] xs le = refl
stepped_take i (suc n) (e ∷ es) [] le = refl
stepped_take i (suc n) (e ∷ es) (true ∷ xs) le = ap (λ rest. (i, e.parent) ∷ rest) (stepped_take (i + 1) n es xs (omega (arith, le)))
stepped_take i (suc n) (e ∷ es) (false ∷ xs) le = stepped_take (i + 1) n es xs (omega (arith, le))

pub subtree_near : (start end : ℕ) (elements : List Elem) → end ≤ length elements → EndsAt elements start end → subtree start (take end elements) ≡ subtree start elements
subtree_near start end elements le ends =
    stepped_take 0 end elements near (omega (arith, count))
    ∙ sym (stepped_before 0 (length (drop end elements)) elements near)
    ∙ ap (stepped 0 elements) (sym (marks_parts start end [] elements ∙ none_marked start near (drop end elements) none))
  where
    near : List Bool
    near = marks start [] (take end elements)

    count : length near ≡ end
    count = omega (arith, length_marks start [] (take end elements), length-take end elements, le)

    none : (i : ℕ) → length near ≤ i → slice_get (marks start near (drop end elements)) i ≢ Some true
    none i past is = absurd (omega (arith, past, count, ends.behind, ends.none_later i (ap (λ l. slice_get l i) (marks_parts start end [] elements) ∙ is)))

pub end_within : (start end : ℕ) (elements : List Elem) → EndsAt elements start end → end ≤ length elements
end_within start end elements ends = omega (arith, ends.behind, slice_get_within (marks start [] elements) ends.last true ends.inside, length_marks start [] elements)

pub start_within : (start end : ℕ) (elements : List Elem) → start < length elements → EndsAt elements start end → start < end
start_within start end elements lt ends = omega (arith, ends.behind, ends.none_later start (first_marked start [] elements start (omega arith) lt))
