-- The first number of a unit in a row.
use Rattle.std.specs.Prelude.{Bool, true, false, ◌&&◌, List, [], ◌∷◌, ◌++◌, Option, Some, None, option_map, is_some, slice_set, if◌then◌else◌}
use Rattle.std.proofs.Common.{◌≡◌, ◌≢◌, ℕ, zero, suc, ◌<◌, length, take, drop, replicate, get_or, refl, sym, ◌∙◌, ap, ap₂, subst, arith}
use Rattle.std.proofs.lemmas.Bool.{true≢false}
use Rattle.std.proofs.lemmas.List.{get_or-set_same, get_or-set_other, length-set}
use Rattle.cv_spec_ratio.specs.Ratio.{Ratio}
use Rattle.cv_calc.specs.declared.unit.Unit as units
use Rattle.cv_calc.specs.declared.calc.Calc.{Calc}
use Rattle.cv_calc.specs.declared.calc.Calc.TheVariants as tree
use Rattle.cv_calc.specs.declared.calc.Calc.TheOpen.{Calc-F, Num}
use Rattle.cv_calc.specs.declared.calc.Calc.TheViews.{out-Calc}
use Rattle.cv_calc.specs.Unit.{same_unit, same_unit-true}
use Rattle.cv_simplify.specs.declared.joining.Joining.{Joining}
use Rattle.cv_simplify.specs.declared.joining.Joined.TheVariants.{Apart, Outside, One}
use Rattle.cv_simplify.specs.Checked.{may_join, number_joined, one_number, joined_as_within, joined_within, with_term, term_first}
use Rattle.cv_simplify.specs.Firsts.{unit_as, is_unit, is_in, first_in, HoldsFirsts, KeepsFirsts}
use Rattle.cv_simplify.specs.Text.{unit_rank, last_rank}
use Rattle.cv_simplify.proofs.Rows.{passed, passed-zero, passed-set, passed-outside, option_cons}
use Rattle.cv_simplify.proofs.UnitRanks.{same_rank, same_self, rank_below}

-- ---- a further term

abbrev pub or_last : Option ℕ → Bool → ℕ → Option ℕ
or_last (Some i) b n = Some i
or_last None b n = if b then Some n else None

or_last_false : (o : Option ℕ) (n : ℕ) → or_last o false n ≡ o
or_last_false None n = refl
or_last_false (Some i) n = refl

or_last_suc : (o : Option ℕ) (b : Bool) (n : ℕ) → option_map suc (or_last o b n) ≡ or_last (option_map suc o) b (suc n)
or_last_suc None true n = refl
or_last_suc None false n = refl
or_last_suc (Some i) b n = refl

first_push : (u : units.Unit) (row : List Calc) (c : Calc) → first_in u (row ++ c ∷ []) ≡ or_last (first_in u row) (is_in u c) (length row)
unfolding first_in
first_push u [] c = refl
first_push u (x ∷ xs) c = go (is_in u x) (first_push u xs c)
  where
    go : (b : Bool) → first_in u (xs ++ c ∷ []) ≡ or_last (first_in u xs) (is_in u c) (length xs) → (if b then Some zero else option_map suc (first_in u (xs ++ c ∷ []))) ≡ or_last (if b then Some zero else option_map suc (first_in u xs)) (is_in u c) (suc (length xs))
    go true more = refl
    go false more = ap (option_map suc) more ∙ or_last_suc (first_in u xs) (is_in u c) (length xs)

-- no number stands in no row
pub firsts_none : HoldsFirsts [] (replicate last_rank None)
unfolding first_in
firsts_none = (refl, λ u. go last_rank (unit_rank u))
  where
    no_place : Option ℕ
    no_place = None

    go : (n i : ℕ) → get_or (replicate n no_place) i no_place ≡ no_place
    go zero i = refl
    go (suc n) zero = refl
    go (suc n) (suc i) = go n i

-- a further term that isn't a number, or whose unit has a first number already
pub firsts_past : (row : List Calc) (firsts : List (Option ℕ)) (c : Calc) → HoldsFirsts row firsts → unit_as (out-Calc c) ≡ None → HoldsFirsts (row ++ c ∷ []) firsts
firsts_past row firsts c holds none = (
  holds.0,
  λ u. holds.1 u ∙ sym (first_push u row c ∙ ap (λ o. or_last (first_in u row) (is_unit u o) (length row)) none ∙ or_last_false (first_in u row) (length row)),
)

pub firsts_kept : (row : List Calc) (firsts : List (Option ℕ)) (c : Calc) (t : units.Unit) → HoldsFirsts row firsts →
    unit_as (out-Calc c) ≡ Some t → is_some (get_or firsts (unit_rank t) None) ≡ true → HoldsFirsts (row ++ c ∷ []) firsts
firsts_kept row firsts c t holds is some = (
  holds.0,
  λ u. holds.1 u ∙ sym (first_push u row c ∙ ap (λ o. or_last (first_in u row) (is_unit u o) (length row)) is ∙ go u (same_unit t u) refl),
)
  where
    go : (u : units.Unit) (b : Bool) → same_unit t u ≡ b → or_last (first_in u row) b (length row) ≡ first_in u row
    go u false e = or_last_false (first_in u row) (length row)
    go u true e = kept (first_in u row) (ap is_some (sym (holds.1 u) ∙ ap (λ s. get_or firsts (unit_rank s) None) (sym (same_unit-true t u e))) ∙ some)
      where
        kept : (o : Option ℕ) → is_some o ≡ true → or_last o true (length row) ≡ o
        kept (Some i) h = refl
        kept None h = cc

-- a further number, the first of its unit
pub firsts_set : (row : List Calc) (firsts : List (Option ℕ)) (c : Calc) (t : units.Unit) → HoldsFirsts row firsts →
    unit_as (out-Calc c) ≡ Some t → is_some (get_or firsts (unit_rank t) None) ≡ false → HoldsFirsts (row ++ c ∷ []) (slice_set firsts (unit_rank t) (Some (length row)))
firsts_set row firsts c t holds is none = (
  length-set firsts (unit_rank t) (Some (length row)) ∙ holds.0,
  λ u. go u (same_unit t u) refl ∙ sym (first_push u row c ∙ ap (λ o. or_last (first_in u row) (is_unit u o) (length row)) is),
)
  where
    inside : unit_rank t < length firsts
    inside = subst (λ (n : ℕ). unit_rank t < n) (sym holds.0) (rank_below t)

    other : (u : units.Unit) → same_unit t u ≡ false → unit_rank u ≢ unit_rank t
    other u e same =
        let self : same_unit t t ≡ false = ap (same_unit t) (sym (same_rank u t same)) ∙ e in
        absurd (true≢false (sym (same_self t) ∙ self))

    go : (u : units.Unit) (b : Bool) → same_unit t u ≡ b →
        get_or (slice_set firsts (unit_rank t) (Some (length row))) (unit_rank u) None ≡ or_last (first_in u row) (same_unit t u) (length row)
    go u false e =
        get_or-set_other firsts (unit_rank t) (unit_rank u) (Some (length row)) None (other u e)
        ∙ holds.1 u ∙ sym (ap (λ b. or_last (first_in u row) b (length row)) e ∙ or_last_false (first_in u row) (length row))
    go u true e =
        ap (λ s. get_or (slice_set firsts (unit_rank t) (Some (length row))) (unit_rank s) None) (sym (same_unit-true t u e))
        ∙ get_or-set_same firsts (unit_rank t) (Some (length row)) None inside
        ∙ sym (put (first_in u row) (ap is_some (sym (holds.1 u) ∙ ap (λ s. get_or firsts (unit_rank s) None) (sym (same_unit-true t u e))) ∙ none))
      where
        put : (o : Option ℕ) → is_some o ≡ false → or_last o (same_unit t u) (length row) ≡ Some (length row)
        put (Some i) h = cc
        put None h = ap (λ b. or_last None b (length row)) e

-- ---- where a first number stands

at_found : (P : ℕ → Type 0) (b : Bool) (o : Option ℕ) (i : ℕ) → (b ≡ true → P zero) → (b ≡ false → (k : ℕ) → o ≡ Some k → P (suc k)) →
    (if b then Some zero else option_map suc o) ≡ Some i → P i
at_found P true o i here later e = subst P (one zero i e) (here refl)
  where
    one : (k i : ℕ) → Some k ≡ Some i → k ≡ i
    one k i e = cc
at_found P false (Some k) i here later e = subst P (one (suc k) i e) (later refl k refl)
  where
    one : (k i : ℕ) → Some k ≡ Some i → k ≡ i
    one k i e = cc
at_found P false None i here later e = cc

pub first_below : (u : units.Unit) (row : List Calc) (i : ℕ) → first_in u row ≡ Some i → i < length row
unfolding first_in
first_below u [] i e = cc
first_below u (x ∷ xs) i e =
    at_found (λ k. k < suc (length xs)) (is_in u x) (first_in u xs) i (λ _. omega arith) (λ _ k later. let below : k < length xs = first_below u xs k later in omega arith) e

pub first_is : (u : units.Unit) (row : List Calc) (i : ℕ) (c : Calc) → first_in u row ≡ Some i → is_in u (get_or row i c) ≡ true
unfolding first_in
first_is u [] i c e = cc
first_is u (x ∷ xs) i c e = at_found (λ k. is_in u (get_or (x ∷ xs) k c) ≡ true) (is_in u x) (first_in u xs) i (λ here. here) (λ _ k later. first_is u xs k c later) e

-- ---- a number in the place of another of its unit

first_put : (u : units.Unit) (row : List Calc) (i : ℕ) (c e : Calc) → is_in u e ≡ is_in u (get_or row i c) → first_in u (slice_set row i e) ≡ first_in u row
unfolding first_in
first_put u [] i c e same = refl
first_put u (x ∷ xs) zero c e same = ap (λ b. if b then Some zero else option_map suc (first_in u xs)) same
first_put u (x ∷ xs) (suc i) c e same = ap (λ o. if is_in u x then Some zero else option_map suc o) (first_put u xs i c e same)

-- what two calculations become is of the unit of the first
joined_unit : (how : Joining) (c d e : Calc) → joined_within how c d ≡ One e → unit_as (out-Calc e) ≡ unit_as (out-Calc c)
unfolding out-Calc denote.Hole.Carrier.out
joined_unit how c d e is = go (out-Calc c) (out-Calc d) is
  where
    one : (u : units.Unit) (o : Option Ratio) → one_number u o ≡ One e → unit_as (out-Calc e) ≡ Some u
    one u (Some r) is = let made : tree.Num r u ≡ e = cc in ap (λ f. unit_as (out-Calc f)) (sym made)
    one u None is = cc

    joins : (b : Bool) (u : units.Unit) (o : Option Ratio) → (if b then one_number u o else Apart) ≡ One e → unit_as (out-Calc e) ≡ Some u
    joins true u o is = one u o is
    joins false u o is = cc

    go : (l k : Calc-F Calc) → joined_as_within how l k ≡ One e → unit_as (out-Calc e) ≡ unit_as l
    go (Num v u) (Num w t) is = joins (same_unit u t && may_join how u) u (number_joined how v w) is
    go _ _ is = cc

module _ (how : Joining) (d : Calc) where
  -- ---- terms that aren't joined

  at_end : (row : List Calc) → ((c : Calc) → joined_within how c d ≡ Apart) → with_term how row d ≡ Some (row ++ d ∷ [])
  unfolding with_term
  at_end [] apart = refl
  at_end (x ∷ xs) apart = ap (λ o. term_first o x xs (with_term how xs d)) (apart x) ∙ ap (option_map (λ ds. x ∷ ds)) (at_end xs apart)

  -- a term that isn't a number
  pub end_other : (row : List Calc) → unit_as (out-Calc d) ≡ None → with_term how row d ≡ Some (row ++ d ∷ [])
  end_other row none = at_end row (λ c. go (out-Calc c) (out-Calc d) none)
    where
      go : (l k : Calc-F Calc) → unit_as k ≡ None → joined_as_within how l k ≡ Apart
      go l (Num w t) none = cc
      go (Num v u) _ none = refl
      go _ _ none = refl

  module _ (u : units.Unit) (is : unit_as (out-Calc d) ≡ Some u) where
    apart_other : (c : Calc) → is_in u c ≡ false → joined_within how c d ≡ Apart
    apart_other c other = go (out-Calc c) (out-Calc d) is other
      where
        go : (l k : Calc-F Calc) → unit_as k ≡ Some u → is_unit u (unit_as l) ≡ false → joined_as_within how l k ≡ Apart
        go (Num v s) (Num w t) is other =
            let same : u ≡ t = cc in
            ap (λ b. if b && may_join how s then one_number s (number_joined how v w) else Apart) (ap (same_unit s) (sym same) ∙ other)
        go _ _ is other = refl

    apart_here : (c : Calc) → is_in u c ≡ true → joined_within how c d ≡ Apart → may_join how u ≡ false
    apart_here c here apart = go (out-Calc c) (out-Calc d) is here apart
      where
        never : (s : units.Unit) (o : Option Ratio) → one_number s o ≡ Apart → may_join how u ≡ false
        never s (Some r) e = cc
        never s None e = cc

        by : (b : Bool) (s : units.Unit) (o : Option Ratio) → may_join how u ≡ b → (if b then one_number s o else Apart) ≡ Apart → may_join how u ≡ false
        by true s o is e = never s o e
        by false s o is e = is

        go : (l k : Calc-F Calc) → unit_as k ≡ Some u → is_unit u (unit_as l) ≡ true → joined_as_within how l k ≡ Apart → may_join how u ≡ false
        go (Num v s) (Num w t) is here apart =
            let same : t ≡ u = cc in
            by (may_join how u) s (number_joined how v w) refl
            (sym (ap₂ (λ a b. if a && b then one_number s (number_joined how v w) else Apart) (ap (same_unit s) same ∙ here) (ap (may_join how) (same_unit-true s u here))) ∙ apart)
        go _ _ is here apart = cc

    apart_unjoined : may_join how u ≡ false → (c : Calc) → joined_within how c d ≡ Apart
    apart_unjoined never c = go (is_in u c) refl
      where
        held : (l k : Calc-F Calc) → unit_as k ≡ Some u → is_unit u (unit_as l) ≡ true → joined_as_within how l k ≡ Apart
        held (Num v s) (Num w t) is here =
            let same : t ≡ u = cc in
            ap₂ (λ a b. if a && b then one_number s (number_joined how v w) else Apart) (ap (same_unit s) same ∙ here) (ap (may_join how) (same_unit-true s u here) ∙ never)
        held _ _ is here = cc

        go : (b : Bool) → is_in u c ≡ b → joined_within how c d ≡ Apart
        go true e = held (out-Calc c) (out-Calc d) is e
        go false e = apart_other c e

    -- ---- a number

    -- there is none of its unit
    pub end_none : (row : List Calc) → first_in u row ≡ None → with_term how row d ≡ Some (row ++ d ∷ [])
    unfolding first_in with_term
    end_none [] none = refl
    end_none (x ∷ xs) none = go (is_in u x) (first_in u xs) (end_none xs) refl refl none
      where
        go : (b : Bool) (o : Option ℕ) → (first_in u xs ≡ None → with_term how xs d ≡ Some (xs ++ d ∷ [])) → is_in u x ≡ b → first_in u xs ≡ o → (if b then Some zero else option_map suc o) ≡ None → with_term how (x ∷ xs) d ≡ Some (x ∷ xs ++ d ∷ [])
        go true o more e f none = cc
        go false (Some k) more e f none = cc
        go false None more e f none =
            ap (λ j. term_first j x xs (with_term how xs d)) (apart_other x e) ∙ ap (option_map (λ ds. x ∷ ds)) (more f)

    passed_first : (row : List Calc) (i : ℕ) → first_in u row ≡ Some i → with_term how row d ≡ passed how d i row
    unfolding first_in with_term
    passed_first [] i e = cc
    passed_first (x ∷ xs) i e =
        at_found (λ k. with_term how (x ∷ xs) d ≡ passed how d k (x ∷ xs)) (is_in u x) (first_in u xs) i (λ _. passed-zero how d (x ∷ xs))
        (λ past k later.
        ap (λ j. term_first j x xs (with_term how xs d)) (apart_other x past) ∙ ap (option_map (λ ds. x ∷ ds)) (passed_first xs k later)
        ∙ sym (option_cons how d x (take k xs) (with_term how (drop k xs) d))) e

    -- the first number of its unit isn't joined to it, and so none is
    pub end_apart : (row : List Calc) (i : ℕ) (c : Calc) → first_in u row ≡ Some i → joined_within how (get_or row i c) d ≡ Apart → with_term how row d ≡ Some (row ++ d ∷ [])
    end_apart row i c first apart = at_end row (apart_unjoined (apart_here (get_or row i c) (first_is u row i c first) apart))

    pub at_first : (row : List Calc) (i : ℕ) (c e : Calc) → first_in u row ≡ Some i → joined_within how (get_or row i c) d ≡ One e →
        (i < length row) × (with_term how row d ≡ Some (slice_set row i e)) × KeepsFirsts row (slice_set row i e)
    at_first row i c e first one = (
      first_below u row i first,
      passed_first row i first ∙ passed-set how d i row c e (first_below u row i first) one,
      λ t. first_put t row i c e (ap (is_unit t) (joined_unit how (get_or row i c) d e one)),
    )

    pub outside_first : (row : List Calc) (i : ℕ) (c : Calc) → first_in u row ≡ Some i → joined_within how (get_or row i c) d ≡ Outside → with_term how row d ≡ None
    outside_first row i c first outside = passed_first row i first ∙ passed-outside how d i row c (first_below u row i first) outside
