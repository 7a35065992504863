-- The marks of a walk's elements, from its first on and as far as one is marked.
use Rattle.std.proofs.Common.{◌≡◌, ℕ, zero, suc, ◌+◌, ◌-◌, ◌<◌, ◌≤◌, ◌==◌, ◌||◌, Bool, true, false, List, [], ◌∷◌, ◌++◌, drop, take, length, length-append, append_assoc, append-nil, refl, sym, ap, ◌∙◌, subst, arith}
use Rattle.std.specs.Prelude.{Option, Some, None, nat_lt, if◌then◌else◌}
use Rattle.std.specs.List.{slice_get}
use Rattle.std.proofs.lemmas.Bool.{eq-eqb, ltb-false, ltb-true, ne_eqb}
use Rattle.std.proofs.lemmas.List.{length-drop, take_all}
use Rattle.cv_doc.specs.declared.elements.Elem.{Elem}
use Rattle.cv_walk.specs.Marked.{is_below, unmarked}
use Rattle.cv_walk.specs.Subtrees.{is_marked, is_stepped, mark_at, marks, stepped, subtree}

-- ---- unmarked elements

pub unmarked_more : (n : ℕ) → unmarked n ++ false ∷ [] ≡ unmarked (suc n)
unmarked_more zero = refl
unmarked_more (suc n) = ap (λ l. false ∷ l) (unmarked_more n)

pub length-unmarked : (n : ℕ) → length (unmarked n) ≡ n
length-unmarked zero = refl
length-unmarked (suc n) = ap suc (length-unmarked n)

mark_none : (n p : ℕ) → mark_at (slice_get (unmarked n) p) ≡ false
mark_none zero p = refl
mark_none (suc n) zero = refl
mark_none (suc n) (suc p) = mark_none n p

mark_before : (xs : List Bool) (n p : ℕ) → mark_at (slice_get (xs ++ unmarked n) p) ≡ mark_at (slice_get xs p)
mark_before [] n p = mark_none n p
mark_before (x ∷ xs) n zero = refl
mark_before (x ∷ xs) n (suc p) = mark_before xs n p

-- the marks behind so many unmarked elements
mark_behind : (n : ℕ) (xs : List Bool) (p : ℕ) → mark_at (slice_get (unmarked n ++ xs) p) ≡ (if nat_lt p n then false else mark_at (slice_get xs (p - n)))
mark_behind n xs p = by (nat_lt p n) refl
  where
    front : (m q : ℕ) → q < m → mark_at (slice_get (unmarked m ++ xs) q) ≡ false
    front zero q lt = absurd (omega (arith, lt))
    front (suc m) zero lt = refl
    front (suc m) (suc q) lt = front m q (omega (arith, lt))

    rest : (m q r : ℕ) → q ≡ m + r → slice_get (unmarked m ++ xs) q ≡ slice_get xs r
    rest zero q r same = ap (slice_get xs) (omega (arith, same))
    rest (suc m) zero r same = absurd (omega (arith, same))
    rest (suc m) (suc q) r same = rest m q r (omega (arith, same))

    by : (b : Bool) → nat_lt p n ≡ b → mark_at (slice_get (unmarked n ++ xs) p) ≡ (if nat_lt p n then false else mark_at (slice_get xs (p - n)))
    by true is = front n p (ltb-true p n is) ∙ sym (ap (λ b. if b then false else mark_at (slice_get xs (p - n))) is)
    by false is = ap mark_at (rest n p (p - n) (omega (arith, ltb-false p n is))) ∙ sym (ap (λ b. if b then false else mark_at (slice_get xs (p - n))) is)

below_is : (start : ℕ) (known : List Bool) (k : ℕ) (parent : Option ℕ) → is_marked (unmarked start ++ (known ++ unmarked k)) parent ≡ is_below start known parent
below_is start known k None = refl
below_is start known k (Some p) = mark_behind start (known ++ unmarked k) p ∙ ap (λ b. if nat_lt p start then false else b) (mark_before known k (p - start))

-- ---- no element before the first is marked

before_first : (start k m : ℕ) (es : List Elem) → k + m ≤ start → m ≤ length es → marks start (unmarked k) es ≡ marks start (unmarked (k + m)) (drop m es)
before_first start k zero es le within = ap (λ n. marks start (unmarked n) es) {x = k} {y = k + zero} (omega arith)
before_first start k (suc m) [] le within = absurd (omega (arith, within))
before_first start k (suc m) (e ∷ es) le within =
    ap (λ (b : Bool). marks start (unmarked k ++ b ∷ []) es) no
    ∙ ap (λ known. marks start known es) (unmarked_more k)
    ∙ before_first start (suc k) m es (omega (arith, le)) (omega (arith, within))
    ∙ ap (λ n. marks start (unmarked n) (drop m es)) {x = suc k + m} {y = k + suc m} (omega arith)
  where
    unmarked_parent : (parent : Option ℕ) → is_marked (unmarked k) parent ≡ false
    unmarked_parent None = refl
    unmarked_parent (Some p) = mark_none k p

    other : (length (unmarked k) == start) ≡ false
    other = ne_eqb (length (unmarked k)) start (λ same. absurd (omega (arith, same, length-unmarked k, le)))

    no : is_stepped start (unmarked k) e.parent ≡ false
    no = ap (λ b. b || is_marked (unmarked k) e.parent) other ∙ unmarked_parent e.parent

-- ---- the elements that are stepped

stepped_none : (i n : ℕ) (es : List Elem) → stepped i es (unmarked n) ≡ []
stepped_none i zero [] = refl
stepped_none i zero (e ∷ es) = refl
stepped_none i (suc n) [] = refl
stepped_none i (suc n) (e ∷ es) = stepped_none (i + 1) n es

pub stepped_before : (i n : ℕ) (es : List Elem) (xs : List Bool) → stepped i es (xs ++ unmarked n) ≡ stepped i es xs
stepped_before i n [] xs = refl
stepped_before i n (e ∷ es) [] = stepped_none i n (e ∷ es)
stepped_before i n (e ∷ es) (true ∷ xs) = ap (λ rest. (i, e.parent) ∷ rest) (stepped_before (i + 1) n es xs)
stepped_before i n (e ∷ es) (false ∷ xs) = stepped_before (i + 1) n es xs

stepped_behind : (i n : ℕ) (es : List Elem) (xs : List Bool) → n ≤ length es → stepped i es (unmarked n ++ xs) ≡ stepped (i + n) (drop n es) xs
stepped_behind i zero es xs le = ap (λ j. stepped j es xs) {x = i} {y = i + zero} (omega arith)
stepped_behind i (suc n) [] xs le = absurd (omega (arith, le))
stepped_behind i (suc n) (e ∷ es) xs le = stepped_behind (i + 1) n es xs (omega (arith, le)) ∙ ap (λ j. stepped j (drop n es) xs) {x = i + 1 + n} {y = i + suc n} (omega arith)

-- ---- marks that are filled up

pub filled_next : (xs ys : List Bool) (place : ℕ) → length xs < place → ys ≡ xs ++ false ∷ [] → (length ys ≤ place) × (ys ++ unmarked (place - length ys) ≡ xs ++ unmarked (place - length xs))
filled_next xs ys place less same = (
  omega (arith, less, count),
  ap (λ l. l ++ unmarked (place - length ys)) same
      ∙ append_assoc xs (false ∷ []) (unmarked (place - length ys))
      ∙ ap (λ n. xs ++ unmarked n) {x = suc (place - length ys)} {y = place - length xs} (omega (arith, less, count)),
)
  where
    count : length ys ≡ length xs + 1
    count = ap length same ∙ length-append xs (false ∷ [])

-- ---- the loop

-- of each element the mark, where these are the marks of the first ones from this one on
abbrev pub all_marks : ℕ → List Bool → ℕ → List Bool
all_marks start known place = unmarked start ++ (known ++ unmarked (place - length known))

-- So many elements behind the first are looked at; what is marked of all is what is marked of these, and then of the rest.
pub record IsMarking (start : ℕ) (elements : List Elem) (known : List Bool) (place : ℕ) (rest : List Elem) : Type 0 where
  pub some : 1 ≤ place
  pub most : length known ≤ place
  pub there : start < length elements
  pub count : start + place + length rest ≡ length elements
  pub same : marks start (all_marks start known place) rest ≡ marks start [] elements

drop_parts : (n : ℕ) (es : List Elem) → n < length es → (e : Elem) × (drop n es ≡ e ∷ drop (n + 1) es)
drop_parts zero [] lt = absurd (omega (arith, lt))
drop_parts zero (e ∷ es) lt = (e, refl)
drop_parts (suc n) [] lt = absurd (omega (arith, lt))
drop_parts (suc n) (e ∷ es) lt = let rest = drop_parts n es (omega (arith, lt)) in (rest.0, rest.1 ∙ ap (λ m. rest.0 ∷ drop m (e ∷ es)) {x = suc (n + 1)} {y = suc n + 1} (omega arith))

begun : (start : ℕ) (elements : List Elem) → start < length elements → IsMarking start elements (true ∷ []) 1 (drop (start + 1) elements)
begun start elements there = record {
  some = omega arith;
  most = omega arith;
  there = there;
  count = omega (arith, length-drop (start + 1) elements, there);
  same =
      ap (λ (b : Bool). marks start (unmarked start ++ b ∷ []) (drop (start + 1) elements)) (sym yes)
      ∙ ap (marks start (unmarked start)) (sym first.1)
      ∙ ap (λ n. marks start (unmarked n) (drop start elements)) {x = start} {y = 0 + start} (omega arith)
      ∙ sym (before_first start 0 start elements (omega arith) (omega (arith, there)));
}
  where
    first : (e : Elem) × (drop start elements ≡ e ∷ drop (start + 1) elements)
    first = drop_parts start elements there

    yes : is_stepped start (unmarked start) first.0.parent ≡ true
    yes = ap (λ b. b || is_marked (unmarked start) first.0.parent) (eq-eqb (length (unmarked start)) start (length-unmarked start))

pub begun_marking : (start : ℕ) (elements : List Elem) (none known : List Bool) → none ≡ [] → known ≡ none ++ true ∷ [] → start < length elements
    → IsMarking start elements known 1 (take (length elements - (start + 1)) (drop (start + 1) elements))
begun_marking start elements none known empty one there =
    subst (IsMarking start elements known 1) (sym (take_all (length elements - (start + 1)) (drop (start + 1) elements) (omega (arith, length-drop (start + 1) elements))))
    (subst (λ l. IsMarking start elements l 1 (drop (start + 1) elements)) (sym (one ∙ ap (λ l. l ++ true ∷ []) empty)) (begun start elements there))

module _ (start : ℕ) (elements : List Elem) (known : List Bool) (place : ℕ) (e : Elem) (rest : List Elem) (now : IsMarking start elements known place (e ∷ rest)) where
  count_known : length (known ++ unmarked (place - length known)) ≡ place
  count_known = length-append known (unmarked (place - length known)) ∙ omega (arith, length-unmarked (place - length known), now.most)

  count_all : length (all_marks start known place) ≡ start + place
  count_all = length-append (unmarked start) (known ++ unmarked (place - length known)) ∙ omega (arith, count_known, length-unmarked start)

  mark_is : is_stepped start (all_marks start known place) e.parent ≡ is_below start known e.parent
  mark_is =
      ap (λ b. b || is_marked (all_marks start known place) e.parent) (ne_eqb (length (all_marks start known place)) start (λ same. absurd (omega (arith, same, count_all, now.some))))
      ∙ below_is start known (place - length known) e.parent

  moved : (b : Bool) → is_below start known e.parent ≡ b → marks start (all_marks start known place ++ b ∷ []) rest ≡ marks start [] elements
  moved b is = ap (λ (x : Bool). marks start (all_marks start known place ++ x ∷ []) rest) (sym (mark_is ∙ is)) ∙ now.same

  none_more : all_marks start known place ++ false ∷ [] ≡ all_marks start known (place + 1)
  none_more =
      append_assoc (unmarked start) (known ++ unmarked (place - length known)) (false ∷ [])
      ∙ ap (λ l. unmarked start ++ l) (append_assoc known (unmarked (place - length known)) (false ∷ []) ∙ ap (λ l. known ++ l) (unmarked_more (place - length known)))
      ∙ ap (λ n. unmarked start ++ (known ++ unmarked n)) {x = suc (place - length known)} {y = place + 1 - length known} (omega (arith, now.most))

  unmarked_next : is_below start known e.parent ≡ false → IsMarking start elements known (place + 1) rest
  unmarked_next is = record {
    some = omega arith;
    most = omega (arith, now.most);
    there = now.there;
    count = omega (arith, now.count);
    same = ap (λ l. marks start l rest) (sym none_more) ∙ moved false is;
  }

  module _ (longer : List Bool) (is_longer : longer ≡ known ++ unmarked (place - length known) ++ true ∷ []) where
    count_longer : length longer ≡ place + 1
    count_longer = ap length is_longer ∙ length-append (known ++ unmarked (place - length known)) (true ∷ []) ∙ omega (arith, count_known)

    one_more : all_marks start known place ++ true ∷ [] ≡ all_marks start longer (place + 1)
    one_more =
        append_assoc (unmarked start) (known ++ unmarked (place - length known)) (true ∷ [])
        ∙ ap (λ l. unmarked start ++ l) (sym is_longer ∙ sym (append-nil longer))
        ∙ ap (λ n. unmarked start ++ (longer ++ unmarked n)) {x = 0} {y = place + 1 - length longer} (omega (arith, count_longer))

    marked_next : is_below start known e.parent ≡ true → IsMarking start elements longer (place + 1) rest
    marked_next is = record {
      some = omega arith;
      most = omega (arith, count_longer);
      there = now.there;
      count = omega (arith, now.count);
      same = ap (λ l. marks start l rest) (sym one_more) ∙ moved true is;
    }

-- one more element is looked at
module _ (start : ℕ) (elements : List Elem) (known : List Bool) (place : ℕ) (e : Elem) (both rest : List Elem) (now : IsMarking start elements known place both) (split : both ≡ e ∷ rest) where
  here : IsMarking start elements known place (e ∷ rest)
  here = subst (IsMarking start elements known place) split now

  pub next_unmarked : (b : Bool) (read later : List Bool) → read ≡ known → b ≡ is_below start read e.parent → b ≡ false → later ≡ known → IsMarking start elements later (place + 1) rest
  next_unmarked b read later same below is kept =
      subst (λ l. IsMarking start elements l (place + 1) rest) (sym kept)
      (unmarked_next start elements known place e rest here (ap (λ l. is_below start l e.parent) (sym same) ∙ sym below ∙ is))

  pub next_marked : (b : Bool) (read later : List Bool) → read ≡ known → b ≡ is_below start read e.parent → b ≡ true → later ≡ known ++ unmarked (place - length known) ++ true ∷ [] → IsMarking start elements later (place + 1) rest
  next_marked b read later same below is longer =
      marked_next start elements known place e rest here later longer (ap (λ l. is_below start l e.parent) (sym same) ∙ sym below ∙ is)

pub ended_marking : (start : ℕ) (elements : List Elem) (known : List Bool) (place : ℕ) (rest : List Elem) → IsMarking start elements known place rest → length rest ≡ 0 → stepped start (drop start elements) known ≡ subtree start elements
ended_marking start elements known place [] now none =
    sym (stepped_before start (place - length known) (drop start elements) known)
    ∙ ap (λ i. stepped i (drop start elements) (known ++ unmarked (place - length known))) {x = start} {y = 0 + start} (omega arith)
    ∙ sym (stepped_behind 0 start elements (known ++ unmarked (place - length known)) (omega (arith, now.there)))
    ∙ ap (stepped 0 elements) now.same
ended_marking start elements known place (e ∷ rest) now none = absurd (omega (arith, none))
