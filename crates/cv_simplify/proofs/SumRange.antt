-- A sum's row goes out of bounds at a term exactly where it is out of bounds with all terms of that child.
use Rattle.std.specs.Prelude.{Bool, true, false, ◌&&◌, not, List, [], ◌∷◌, ◌++◌, fold, Option, Some, None, if◌then◌else◌}
use Rattle.std.proofs.Common.{◌≡◌, refl, sym, ◌∙◌, ap, ap₂}
use Rattle.cv_spec_ratio.specs.Ratio.{add}
use Rattle.cv_calc.specs.declared.unit.Unit as units
use Rattle.cv_calc.specs.declared.calc.Calc.{Calc}
use Rattle.cv_calc.specs.declared.calc.Calc.TheVariants as tree
use Rattle.cv_calc.specs.declared.calc.Calc.TheOpen.{Calc-F, Num, Sum}
use Rattle.cv_calc.specs.declared.calc.Calc.TheViews.{out-Calc, roll-Calc, roll-out-Calc}
use Rattle.cv_calc.specs.Unit.{same_unit, same_unit-true}
use Rattle.cv_simplify.specs.declared.joining.Joining.TheVariants as joining
use Rattle.cv_simplify.specs.Counted.{inside, all_inside, longer_inside, prefixes_inside}
use Rattle.cv_simplify.specs.Simplified.{joined_as, join_first, with_child, any_unit, terms_as, terms_of, with_terms_of, sum_row, summed, one_or}
use Rattle.cv_simplify.specs.Checked.{only_if, with_further, with_terms, with_simple}
use Rattle.cv_simplify.proofs.Folds.{stays}
use Rattle.cv_simplify.proofs.InRange.{inside-roll, inside-Sum, and_true, both_true, term_checked}
use Rattle.cv_simplify.proofs.Apart.{known, Known, known-roll, kind, kinds_of, same_kind, none_of, differ, joined_is, joins, settled}
use Rattle.cv_simplify.proofs.Settled.{terms_settled}

-- an item is out of bounds and has the unit
abbrev spoils : Option units.Unit → Calc → Bool
spoils k c = same_kind (kind c) k && not (inside c)

abbrev spoilt : Option units.Unit → List Calc → Bool
spoilt k [] = false
spoilt k (c ∷ cs) = if spoils k c then true else spoilt k cs

outside : (k : Option units.Unit) (row : List Calc) → spoilt k row ≡ true → all_inside row ≡ false
outside k [] h = cc
outside k (c ∷ cs) h = go (same_kind (kind c) k) (inside c) refl h (outside k cs)
  where
    go : (s b : Bool) → inside c ≡ b → (if s && not b then true else spoilt k cs) ≡ true → (spoilt k cs ≡ true → all_inside cs ≡ false) → (inside c && all_inside cs) ≡ false
    go s false is h ih = ap (λ a. a && all_inside cs) is
    go true true is h ih = ap₂ (λ a b. a && b) is (ih h)
    go false true is h ih = ap₂ (λ a b. a && b) is (ih h)

-- numbers that are joined have one unit
joined_kinds : (c d e : Calc) (k l : Calc-F Calc) → roll-Calc k ≡ c → roll-Calc l ≡ d → joined_as any_unit add k l ≡ Some e → same_kind (kind c) (kind d) ≡ true
joined_kinds c d e (Num v u) (Num w t) p q h =
    ap₂ (λ (x y : Known). same_kind x.kind y.kind) (ap known (sym p) ∙ known-roll (Num v u)) (ap known (sym q) ∙ known-roll (Num w t)) ∙ by (same_unit u t) h
  where
    by : (b : Bool) → (if b && true then Some (tree.Num (add v w) u) else None) ≡ Some e → b ≡ true
    by true h = refl
    by false h = cc
joined_kinds c d e (Num v u) _ p q h = cc
joined_kinds c d e _ _ p q h = cc

kinds_joined : (c d e : Calc) → joins c d ≡ Some e → same_kind (kind c) (kind d) ≡ true
kinds_joined c d e h = joined_kinds c d e (out-Calc c) (out-Calc d) (roll-out-Calc c) (roll-out-Calc d) h

-- one unit is another's where a third is both
kind_trans : (k l m : Option units.Unit) → same_kind k l ≡ true → same_kind k m ≡ true → same_kind l m ≡ true
kind_trans None l m h e = cc
kind_trans (Some u) None m h e = cc
kind_trans (Some u) (Some t) None h e = cc
kind_trans (Some u) (Some t) (Some s) h e = ap (λ r. same_unit r s) (sym (same_unit-true u t h)) ∙ e

-- the term that takes a row out of bounds has left an item of its unit there
spoilt_by : (row : List Calc) (d : Calc) → all_inside row ≡ true → inside d ≡ true → all_inside (with_child joins row d) ≡ false → spoilt (kind d) (with_child joins row d) ≡ true
spoilt_by [] d h k out = absurd (no (inside d) k out)
  where
    no : (b : Bool) → b ≡ true → (b && true) ≡ false → ⊥
    no true k out = cc
    no false k out = cc
spoilt_by (c ∷ cs) d h k out =
    let parts = and_true (inside c) (all_inside cs) h in
    go (joins c d) refl parts.0 parts.1 out (spoilt_by cs d parts.1 k)
  where
    later : (b : Bool) → spoilt (kind d) (with_child joins cs d) ≡ true → (if b then true else spoilt (kind d) (with_child joins cs d)) ≡ true
    later true s = refl
    later false s = s

    rest_out : (a b : Bool) → a ≡ true → (a && b) ≡ false → b ≡ false
    rest_out true b h k = k
    rest_out false b h k = cc

    first_out : (a b : Bool) → b ≡ true → (a && b) ≡ false → a ≡ false
    first_out true b h k = sym h ∙ k
    first_out false b h k = refl

    here : (e : Calc) → joins c d ≡ Some e → inside e ≡ false → (if spoils (kind d) e then true else spoilt (kind d) cs) ≡ true
    here e is out =
        ap₂ (λ a b. if a && not b then true else spoilt (kind d) cs)
        (ap (λ (x : Known). same_kind x.kind (kind d)) (joined_is any_unit add c d e is) ∙ kinds_joined c d e is) out

    go : (o : Option Calc) → joins c d ≡ o → inside c ≡ true → all_inside cs ≡ true → all_inside (join_first o c cs (with_child joins cs d)) ≡ false →
        (all_inside (with_child joins cs d) ≡ false → spoilt (kind d) (with_child joins cs d) ≡ true) →
        spoilt (kind d) (join_first o c cs (with_child joins cs d)) ≡ true
    go None is first rest out ih = later (spoils (kind d) c) (ih (rest_out (inside c) _ first out))
    go (Some e) is first rest out ih = here e is (first_out (inside e) (all_inside cs) rest out)

-- a term of another unit leaves it there
still_spoilt : (k : Option units.Unit) (row : List Calc) (t : Calc) → spoilt k row ≡ true → same_kind k (kind t) ≡ false → spoilt k (with_child joins row t) ≡ true
still_spoilt k [] t h apart = cc
still_spoilt k (c ∷ cs) t h apart = go (joins c t) refl (same_kind (kind c) k) refl (inside c) h (λ s. still_spoilt k cs t s apart)
  where
    later : (b : Bool) (row : List Calc) → spoilt k row ≡ true → (if b then true else spoilt k row) ≡ true
    later true row s = refl
    later false row s = s

    impossible : (e : Calc) → joins c t ≡ Some e → same_kind (kind c) k ≡ true → ⊥
    impossible e is same = no (kind_trans (kind c) k (kind t) same (kinds_joined c t e is))
      where
        no : same_kind k (kind t) ≡ true → ⊥
        no e = cc

    go : (o : Option Calc) → joins c t ≡ o → (s : Bool) → same_kind (kind c) k ≡ s → (b : Bool) → (if same_kind (kind c) k && not (inside c) then true else spoilt k cs) ≡ true →
        (spoilt k cs ≡ true → spoilt k (with_child joins cs t) ≡ true) → spoilt k (join_first o c cs (with_child joins cs t)) ≡ true
    go (Some e) is true same b h ih = absurd (impossible e is same)
    go (Some e) is false same b h ih = later (spoils k e) cs (sym (ap (λ a. if a && not (inside c) then true else spoilt k cs) same) ∙ h)
    go None is s same b h ih = keep (same_kind (kind c) k && not (inside c)) h
      where
        keep : (a : Bool) → (if a then true else spoilt k cs) ≡ true → (if a then true else spoilt k (with_child joins cs t)) ≡ true
        keep true h = refl
        keep false h = ih h

none_of_first : (k l : Option units.Unit) (ls : List (Option units.Unit)) → none_of k (l ∷ ls) ≡ true → (same_kind k l ≡ false) × (none_of k ls ≡ true)
none_of_first k l ls h = go (same_kind k l) h
  where
    go : (b : Bool) → (if b then false else none_of k ls) ≡ true → (b ≡ false) × (none_of k ls ≡ true)
    go true h = cc
    go false h = (refl, h)

rows_spoilt : (k : Option units.Unit) (row ts : List Calc) → spoilt k row ≡ true → none_of k (kinds_of ts) ≡ true → spoilt k (fold (with_child joins) row ts) ≡ true
rows_spoilt k row [] h apart = h
rows_spoilt k row (t ∷ ts) h apart =
    let parts = none_of_first k (kind t) (kinds_of ts) apart in
    rows_spoilt k (with_child joins row t) ts (still_spoilt k row t h parts.0) parts.1

-- ---- the terms of a child

terms_checked : (row ts : List Calc) → all_inside row ≡ true → all_inside ts ≡ true → differ (kinds_of ts) ≡ true →
    with_terms row ts ≡ only_if (all_inside (fold (with_child joins) row ts)) (fold (with_child joins) row ts)
terms_checked row [] h k apart = sym (ap (λ b. only_if b row) h)
terms_checked row (t ∷ ts) h k apart =
    let inner = and_true (inside t) (all_inside ts) k in
    let kinds = and_true (none_of (kind t) (kinds_of ts)) (differ (kinds_of ts)) apart in
    ap (λ o. fold with_further o ts) (term_checked joining.Sum row t h inner.0)
    ∙ go (all_inside (with_child joins row t)) refl (λ is. terms_checked (with_child joins row t) ts is inner.1 kinds.1)
    (λ out. outside (kind t) _ (rows_spoilt (kind t) (with_child joins row t) ts (spoilt_by row t h inner.0 out) kinds.0))
  where
    go : (b : Bool) → all_inside (with_child joins row t) ≡ b →
        (all_inside (with_child joins row t) ≡ true → with_terms (with_child joins row t) ts ≡ only_if (all_inside (fold (with_child joins) (with_child joins row t) ts)) (fold (with_child joins) (with_child joins row t) ts)) →
        (all_inside (with_child joins row t) ≡ false → all_inside (fold (with_child joins) (with_child joins row t) ts) ≡ false) →
        fold with_further (only_if b (with_child joins row t)) ts ≡ only_if (all_inside (fold (with_child joins) (with_child joins row t) ts)) (fold (with_child joins) (with_child joins row t) ts)
    go true is ih out = ih is
    go false is ih out = stays with_further None (λ a. refl) ts ∙ sym (ap (λ b. only_if b (fold (with_child joins) (with_child joins row t) ts)) (out is))

terms_inside_as : (c : Calc) (l : Calc-F Calc) → roll-Calc l ≡ c → inside c ≡ true → all_inside (terms_as c l) ≡ true
terms_inside_as c (Sum ds) p h = sym (inside-roll (Sum ds)) ∙ ap inside p ∙ h
terms_inside_as c _ p h = both_true (inside c) true h refl

pub child_checked : (row : List Calc) (c : Calc) → all_inside row ≡ true → inside c ≡ true → settled c ≡ true →
    with_simple joining.Sum row c ≡ only_if (all_inside (with_terms_of row c)) (with_terms_of row c)
child_checked row c h k is = terms_checked row (terms_of c) h (terms_inside_as c (out-Calc c) (roll-out-Calc c) k) (terms_settled c is).1

-- ---- prefixes

abbrev pub rows_inside : List Calc → List Calc → Bool
rows_inside row [] = true
rows_inside row (c ∷ cs) = all_inside (with_terms_of row c) && rows_inside (with_terms_of row c) cs

inside_one_or : (row : List Calc) → inside (one_or tree.Sum row) ≡ all_inside row
inside_one_or [] = inside-Sum []
inside_one_or (c ∷ []) = last (inside c)
  where
    last : (b : Bool) → b ≡ (b && true)
    last true = refl
    last false = refl
inside_one_or (c ∷ d ∷ cs) = inside-Sum (c ∷ d ∷ cs)

pub inside_summed : (cs : List Calc) → inside (summed cs) ≡ all_inside (sum_row cs)
inside_summed cs = inside_one_or (sum_row cs)

row-push : (row cs : List Calc) (c : Calc) → fold with_terms_of row (cs ++ c ∷ []) ≡ with_terms_of (fold with_terms_of row cs) c
row-push row [] c = refl
row-push row (d ∷ cs) c = row-push (with_terms_of row d) cs c

longer_rows : (before cs : List Calc) → longer_inside summed before cs ≡ rows_inside (sum_row before) cs
longer_rows before [] = refl
longer_rows before (c ∷ cs) =
    ap₂ (λ a b. a && b) (inside_summed (before ++ c ∷ []) ∙ ap all_inside (row-push [] before c))
    (longer_rows (before ++ c ∷ []) cs ∙ ap (λ row. rows_inside row cs) (row-push [] before c))

pub sum_prefixes : (cs : List Calc) → prefixes_inside summed cs ≡ rows_inside [] cs
sum_prefixes cs = ap₂ (λ a b. a && b) (inside_summed []) (longer_rows [] cs)

pub last_inside : (row cs : List Calc) → all_inside row ≡ true → rows_inside row cs ≡ true → all_inside (fold with_terms_of row cs) ≡ true
last_inside row [] h k = h
last_inside row (c ∷ cs) h k = let parts = and_true (all_inside (with_terms_of row c)) _ k in last_inside (with_terms_of row c) cs parts.0 parts.1
