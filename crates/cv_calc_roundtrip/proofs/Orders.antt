-- The terms of a sum in the order of their text: what is asked of a row doesn't depend on its order.
use Rattle.std.specs.Prelude.{ℕ, zero, suc, ◌==◌, nat_lt, Bool, true, false, ◌&&◌, not, List, [], ◌∷◌, ◌++◌, map}
use Rattle.std.specs.List.{filter}
use Rattle.std.proofs.Common.{◌≡◌, refl, sym, ◌∙◌, ap, ap₂, arith}
use Rattle.std.proofs.lemmas.Bool.Decides.{nat_tests}
use Rattle.cv_spec_ratio.specs.Ratio.{Ratio}
use Rattle.cv_calc.specs.declared.unit.Unit as units
use Rattle.cv_calc.specs.declared.unit.Unit.TheVariants as unit
use Rattle.cv_calc.specs.declared.calc.Calc.{Calc}
use Rattle.cv_calc.specs.declared.calc.Calc.TheVariants as tree
use Rattle.cv_calc.specs.declared.calc.Calc.TheVariants.{rolls-Num, rolls-Sum, rolls-Product, rolls-Negate, rolls-Invert, rolls-Min, rolls-Max, rolls-Clamp}
use Rattle.cv_calc.specs.declared.calc.Calc.TheOpen.{Calc-F, Num, Sum, Product, Negate, Invert, Min, Max, Clamp}
use Rattle.cv_calc.specs.declared.calc.Calc.TheViews.{out-Calc, roll-Calc, roll-out-Calc}
use Rattle.cv_calc.specs.Unit.{same_unit, same_unit-true}
use Rattle.cv_simplify.specs.Simplified.{any_unit}
use Rattle.cv_simplify.specs.Text.{Written, written, unit_rank, last_rank, ranks}
use Rattle.cv_simplify.proofs.Texts.{written-Num, written-Sum, written-Product, written-Negate, written-Invert, written-Min, written-Max, written-Clamp}
use Rattle.cv_calc_roundtrip.proofs.Digits.{and_true, both_true}
use Rattle.cv_calc_roundtrip.proofs.Heads.{Head, number, sum, product, negate, invert, least, greatest, clamp, head, head_as, is_number, joinable, none_joins, apart, map_append}
use Rattle.cv_calc_roundtrip.proofs.Ranks.{has_rank, in_ranks}

-- ---- no two of some heads are joined

abbrev pub none_after : (units.Unit → Bool) → Head → List Head → Bool
none_after may h [] = true
none_after may h (k ∷ ks) = not (joinable may h k) && none_after may h ks

abbrev pub pairs_apart : (units.Unit → Bool) → List Head → Bool
pairs_apart may [] = true
pairs_apart may (h ∷ hs) = none_after may h hs && pairs_apart may hs

module _ (may : units.Unit → Bool) where
  abbrev cross : List Head → List Head → Bool
  cross before [] = true
  cross before (k ∷ ks) = none_joins may before k && cross before ks

  cross_none : (hs : List Head) → cross [] hs ≡ true
  cross_none [] = refl
  cross_none (h ∷ hs) = cross_none hs

  joins_push : (before : List Head) (h k : Head) → none_joins may before k ≡ true → not (joinable may h k) ≡ true → none_joins may (before ++ h ∷ []) k ≡ true
  joins_push [] h k e f = both_true (not (joinable may h k)) true f refl
  joins_push (g ∷ gs) h k e f = let p = and_true (not (joinable may g k)) (none_joins may gs k) e in both_true (not (joinable may g k)) (none_joins may (gs ++ h ∷ []) k) p.0 (joins_push gs h k p.1 f)

  cross_push : (before : List Head) (h : Head) (hs : List Head) → cross before hs ≡ true → none_after may h hs ≡ true → cross (before ++ h ∷ []) hs ≡ true
  cross_push before h [] e f = refl
  cross_push before h (k ∷ ks) e f =
      let p = and_true (none_joins may before k) (cross before ks) e in
      let q = and_true (not (joinable may h k)) (none_after may h ks) f in
      both_true (none_joins may (before ++ h ∷ []) k) (cross (before ++ h ∷ []) ks) (joins_push before h k p.0 q.0) (cross_push before h ks p.1 q.1)

  apart_by_pairs : (before hs : List Head) → cross before hs ≡ true → pairs_apart may hs ≡ true → apart may before hs ≡ true
  apart_by_pairs before [] e f = refl
  apart_by_pairs before (h ∷ hs) e f =
      let p = and_true (none_joins may before h) (cross before hs) e in
      let q = and_true (none_after may h hs) (pairs_apart may hs) f in
      both_true (none_joins may before h) (apart may (before ++ h ∷ []) hs) p.0 (apart_by_pairs (before ++ h ∷ []) hs (cross_push before h hs p.1 q.0) q.1)

  pub apart_pairs : (hs : List Head) → pairs_apart may hs ≡ true → apart may [] hs ≡ true
  apart_pairs hs f = apart_by_pairs [] hs (cross_none hs) f

  -- each of some heads with each of others
  abbrev between : List Head → List Head → Bool
  between [] ks = true
  between (h ∷ hs) ks = none_after may h ks && between hs ks

  none_append : (h : Head) (ks ls : List Head) → none_after may h ks ≡ true → none_after may h ls ≡ true → none_after may h (ks ++ ls) ≡ true
  none_append h [] ls e f = f
  none_append h (k ∷ ks) ls e f = let p = and_true (not (joinable may h k)) (none_after may h ks) e in both_true (not (joinable may h k)) (none_after may h (ks ++ ls)) p.0 (none_append h ks ls p.1 f)

  pairs_append : (hs ks : List Head) → pairs_apart may hs ≡ true → pairs_apart may ks ≡ true → between hs ks ≡ true → pairs_apart may (hs ++ ks) ≡ true
  pairs_append [] ks e f g = f
  pairs_append (h ∷ hs) ks e f g =
      let p = and_true (none_after may h hs) (pairs_apart may hs) e in
      let q = and_true (none_after may h ks) (between hs ks) g in
      both_true (none_after may h (hs ++ ks)) (pairs_apart may (hs ++ ks)) (none_append h hs ks p.0 q.0) (pairs_append hs ks p.1 f q.1)

  none_filter : (t : Calc → Bool) (h : Head) (cs : List Calc) → none_after may h (map head cs) ≡ true → none_after may h (map head (filter t cs)) ≡ true
  none_filter t h [] e = refl
  none_filter t h (c ∷ cs) e = let p = and_true (not (joinable may h (head c))) (none_after may h (map head cs)) e in go (t c) refl p.0 (none_filter t h cs p.1)
    where
      go : (b : Bool) → t c ≡ b → not (joinable may h (head c)) ≡ true → none_after may h (map head (filter t cs)) ≡ true → none_after may h (map head (filter t (c ∷ cs))) ≡ true
      go true is first more = rw is (both_true (not (joinable may h (head c))) (none_after may h (map head (filter t cs))) first more)
      go false is first more = rw is more

  pairs_filter : (t : Calc → Bool) (cs : List Calc) → pairs_apart may (map head cs) ≡ true → pairs_apart may (map head (filter t cs)) ≡ true
  pairs_filter t [] e = refl
  pairs_filter t (c ∷ cs) e = let p = and_true (none_after may (head c) (map head cs)) (pairs_apart may (map head cs)) e in go (t c) refl (none_filter t (head c) cs p.0) (pairs_filter t cs p.1)
    where
      go : (b : Bool) → t c ≡ b → none_after may (head c) (map head (filter t cs)) ≡ true → pairs_apart may (map head (filter t cs)) ≡ true → pairs_apart may (map head (filter t (c ∷ cs))) ≡ true
      go true is first more = rw is (both_true (none_after may (head c) (map head (filter t cs))) (pairs_apart may (map head (filter t cs))) first more)
      go false is first more = rw is more

-- ---- ranks

abbrev pub text_rank : Calc → ℕ
text_rank c = (written c).rank

-- the children in the order of their text
abbrev pub in_text_order : List Calc → List Calc
in_text_order cs = in_ranks text_rank ranks cs

number_as : (c : Calc) (l : Calc-F Calc) (v : Ratio) (u : units.Unit) → roll-Calc l ≡ c → head_as l ≡ number v u → c ≡ tree.Num v u
number_as c (Num w t) v u e h = let first : w ≡ v = cc in let second : t ≡ u = cc in sym e ∙ rolls-Num w t ∙ ap₂ tree.Num first second
number_as c (Sum cs) v u e h = cc
number_as c (Product cs) v u e h = cc
number_as c (Negate d) v u e h = cc
number_as c (Invert d) v u e h = cc
number_as c (Min cs) v u e h = cc
number_as c (Max cs) v u e h = cc
number_as c (Clamp a b d) v u e h = cc

-- a calculation with the head of a number is the number
pub number_is : (c : Calc) (v : Ratio) (u : units.Unit) → head c ≡ number v u → c ≡ tree.Num v u
number_is c v u h = number_as c (out-Calc c) v u (roll-out-Calc c) h

number_rank : (c : Calc) (v : Ratio) (u : units.Unit) → head c ≡ number v u → text_rank c ≡ unit_rank u
number_rank c v u h = ap text_rank (number_is c v u h) ∙ ap (λ (w : Written). w.rank) (written-Num v u)

unit_low : (u : units.Unit) → nat_lt (unit_rank u) last_rank ≡ true
unit_low unit.Number = refl
unit_low _ = refl

-- of different ranks, no two are joined
rank_apart : (c d : Calc) → (text_rank c == text_rank d) ≡ false → joinable any_unit (head c) (head d) ≡ false
rank_apart c d e = go (head c) (head d) refl refl
  where
    differs : (m : ℕ) → (m == m) ≡ false → ⊥
    differs m e = grind (arith, nat_tests)

    numbers : (u t : units.Unit) → text_rank c ≡ unit_rank u → text_rank d ≡ unit_rank t → (b : Bool) → same_unit u t ≡ b → (b && true) ≡ false
    numbers u t f g true is = absurd (differs (unit_rank t) (ap₂ (λ m n. m == n) (sym (ap unit_rank (same_unit-true u t is)) ∙ sym f) (sym g) ∙ e))
    numbers u t f g false is = refl

    go : (h k : Head) → head c ≡ h → head d ≡ k → joinable any_unit h k ≡ false
    go (number v u) (number w t) f g = numbers u t (number_rank c v u f) (number_rank d w t g) (same_unit u t) refl
    go (number v u) (sum b) f g = refl
    go (number v u) product f g = refl
    go (number v u) negate f g = refl
    go (number v u) invert f g = refl
    go (number v u) least f g = refl
    go (number v u) greatest f g = refl
    go (number v u) clamp f g = refl
    go (sum b) k f g = refl
    go product k f g = refl
    go negate k f g = refl
    go invert k f g = refl
    go least k f g = refl
    go greatest k f g = refl
    go clamp k f g = refl

-- a calculation of a rank below the last is a number, and one that is a number has such a rank
low_as : (c : Calc) (l : Calc-F Calc) → roll-Calc l ≡ c → nat_lt (text_rank c) last_rank ≡ is_number (head_as l)
low_as c (Num v u) e = ap (λ d. nat_lt (text_rank d) last_rank) (sym e ∙ rolls-Num v u) ∙ ap (λ (w : Written). nat_lt w.rank last_rank) (written-Num v u) ∙ unit_low u
low_as c (Sum cs) e = ap (λ d. nat_lt (text_rank d) last_rank) (sym e ∙ rolls-Sum cs) ∙ ap (λ (w : Written). nat_lt w.rank last_rank) (written-Sum cs)
low_as c (Product cs) e = ap (λ d. nat_lt (text_rank d) last_rank) (sym e ∙ rolls-Product cs) ∙ ap (λ (w : Written). nat_lt w.rank last_rank) (written-Product cs)
low_as c (Negate d) e = ap (λ d. nat_lt (text_rank d) last_rank) (sym e ∙ rolls-Negate d) ∙ ap (λ (w : Written). nat_lt w.rank last_rank) (written-Negate d)
low_as c (Invert d) e = ap (λ d. nat_lt (text_rank d) last_rank) (sym e ∙ rolls-Invert d) ∙ ap (λ (w : Written). nat_lt w.rank last_rank) (written-Invert d)
low_as c (Min cs) e = ap (λ d. nat_lt (text_rank d) last_rank) (sym e ∙ rolls-Min cs) ∙ ap (λ (w : Written). nat_lt w.rank last_rank) (written-Min cs)
low_as c (Max cs) e = ap (λ d. nat_lt (text_rank d) last_rank) (sym e ∙ rolls-Max cs) ∙ ap (λ (w : Written). nat_lt w.rank last_rank) (written-Max cs)
low_as c (Clamp a b d) e = ap (λ d. nat_lt (text_rank d) last_rank) (sym e ∙ rolls-Clamp a b d) ∙ ap (λ (w : Written). nat_lt w.rank last_rank) (written-Clamp a b d)

pub low_number : (c : Calc) → nat_lt (text_rank c) last_rank ≡ is_number (head c)
low_number c = low_as c (out-Calc c) (roll-out-Calc c)

-- ---- a list in the order of ranks

abbrev pub all_low : ℕ → List Calc → Bool
all_low n [] = true
all_low n (c ∷ cs) = nat_lt (text_rank c) n && all_low n cs

low_append : (n : ℕ) (cs ds : List Calc) → all_low n cs ≡ true → all_low n ds ≡ true → all_low n (cs ++ ds) ≡ true
low_append n [] ds e f = f
low_append n (c ∷ cs) ds e f = let p = and_true (nat_lt (text_rank c) n) (all_low n cs) e in both_true (nat_lt (text_rank c) n) (all_low n (cs ++ ds)) p.0 (low_append n cs ds p.1 f)

low_more : (r : ℕ) (cs : List Calc) → all_low r cs ≡ true → all_low (suc r) cs ≡ true
low_more r [] e = refl
low_more r (c ∷ cs) e = let p = and_true (nat_lt (text_rank c) r) (all_low r cs) e in both_true (nat_lt (text_rank c) (suc r)) (all_low (suc r) cs) (more (text_rank c) r p.0) (low_more r cs p.1)
  where
    more : (m r : ℕ) → nat_lt m r ≡ true → nat_lt m (suc r) ≡ true
    more m r h = grind (arith, nat_tests)

low_rank : (r : ℕ) (cs : List Calc) → all_low (suc r) (filter (has_rank text_rank r) cs) ≡ true
low_rank r [] = refl
low_rank r (c ∷ cs) = go (text_rank c == r) refl (low_rank r cs)
  where
    here : (m r : ℕ) → (m == r) ≡ true → nat_lt m (suc r) ≡ true
    here m r h = grind (arith, nat_tests)

    go : (b : Bool) → (text_rank c == r) ≡ b → all_low (suc r) (filter (has_rank text_rank r) cs) ≡ true → all_low (suc r) (filter (has_rank text_rank r) (c ∷ cs)) ≡ true
    go true is more = rw is (both_true (nat_lt (text_rank c) (suc r)) (all_low (suc r) (filter (has_rank text_rank r) cs)) (here (text_rank c) r is) more)
    go false is more = rw is more

pub ranks_low : (n : ℕ) (cs : List Calc) → all_low n (in_ranks text_rank n cs) ≡ true
ranks_low zero cs = refl
ranks_low (suc r) cs = low_append (suc r) (in_ranks text_rank r cs) (filter (has_rank text_rank r) cs) (low_more r (in_ranks text_rank r cs) (ranks_low r cs)) (low_rank r cs)

rank_none : (c : Calc) (r : ℕ) (cs : List Calc) → nat_lt (text_rank c) r ≡ true → none_after any_unit (head c) (map head (filter (has_rank text_rank r) cs)) ≡ true
rank_none c r [] h = refl
rank_none c r (d ∷ cs) h = go (text_rank d == r) refl (rank_none c r cs h)
  where
    differ : (m n r : ℕ) → nat_lt m r ≡ true → (n == r) ≡ true → (m == n) ≡ false
    differ m n r h k = grind (arith, nat_tests)

    go : (b : Bool) → (text_rank d == r) ≡ b → none_after any_unit (head c) (map head (filter (has_rank text_rank r) cs)) ≡ true → none_after any_unit (head c) (map head (filter (has_rank text_rank r) (d ∷ cs))) ≡ true
    go true is more =
        let off : joinable any_unit (head c) (head d) ≡ false = rank_apart c d (differ (text_rank c) (text_rank d) r h is) in
        rw is (both_true (not (joinable any_unit (head c) (head d))) (none_after any_unit (head c) (map head (filter (has_rank text_rank r) cs))) (ap not off) more)
    go false is more = rw is more

ranks_between : (r : ℕ) (bs cs : List Calc) → all_low r bs ≡ true → between any_unit (map head bs) (map head (filter (has_rank text_rank r) cs)) ≡ true
ranks_between r [] cs e = refl
ranks_between r (a ∷ bs) cs e =
    let p = and_true (nat_lt (text_rank a) r) (all_low r bs) e in
    both_true (none_after any_unit (head a) (map head (filter (has_rank text_rank r) cs))) (between any_unit (map head bs) (map head (filter (has_rank text_rank r) cs))) (rank_none a r cs p.0) (ranks_between r bs cs p.1)

pub pairs_ranks : (n : ℕ) (cs : List Calc) → pairs_apart any_unit (map head cs) ≡ true → pairs_apart any_unit (map head (in_ranks text_rank n cs)) ≡ true
pairs_ranks zero cs e = refl
pairs_ranks (suc r) cs e =
    ap (pairs_apart any_unit) (map_append head (in_ranks text_rank r cs) (filter (has_rank text_rank r) cs))
    ∙ pairs_append any_unit (map head (in_ranks text_rank r cs)) (map head (filter (has_rank text_rank r) cs)) (pairs_ranks r cs e) (pairs_filter any_unit (has_rank text_rank r) cs e)
    (ranks_between r (in_ranks text_rank r cs) cs (ranks_low r cs))
