-- What is asked of the terms of a sum, and what follows of them in the order of their text.
use Rattle.std.specs.Prelude.{ℕ, suc, ◌+◌, ◌==◌, nat_lt, ◌≤◌, Bool, true, false, ◌&&◌, ◌||◌, not, List, [], ◌∷◌, ◌++◌, map, length}
use Rattle.std.specs.List.{filter}
use Rattle.std.proofs.Common.{◌≡◌, refl, sym, ◌∙◌, ap, arith}
use Rattle.std.proofs.lemmas.Bool.Decides.{nat_tests}
use Rattle.cv_calc.specs.declared.calc.Calc.{Calc}
use Rattle.cv_simplify.specs.Text.{last_rank, ranks}
use Rattle.cv_simplify.specs.Simplified.{any_unit}
use Rattle.cv_calc_roundtrip.proofs.Digits.{and_true}
use Rattle.cv_calc_roundtrip.proofs.Heads.{Head, number, sum, product, negate, invert, least, greatest, clamp, head, is_negate, is_number, is_sum, apart, not_true}
use Rattle.cv_calc_roundtrip.proofs.Orders.{pairs_apart, apart_pairs, text_rank, in_text_order, low_number, all_low, ranks_low, pairs_ranks}
use Rattle.cv_calc_roundtrip.proofs.Ranks.{has_rank, in_ranks, total, total_in_ranks}
use Rattle.cv_calc_roundtrip.proofs.Sums.{no_sums, rank_bound, both_and, and_comm, and_assoc, and_unit}

abbrev pub has_number : List Head → Bool
has_number [] = false
has_number (h ∷ hs) = is_number h || has_number hs

-- a number is among the terms, or the first is no negative
abbrev pub starts : List Head → Bool
starts [] = false
starts (h ∷ hs) = has_number (h ∷ hs) || not (is_negate h)

-- two terms or more, of which none is a sum, and no two are numbers of one unit; and in their text none but a later one is a negative
pub record IsRow (hs : List Head) : Type 0 where
  pub two : 2 ≤ length hs
  pub differ : pairs_apart any_unit hs ≡ true
  pub flat : no_sums hs ≡ true
  pub begins : starts hs ≡ true

-- the terms in the order of their text
pub record Ordered (cs : List Calc) : Type 0 where
  pub first : Calc
  pub second : Calc
  pub rest : List Calc
  pub order : in_text_order cs ≡ first ∷ second ∷ rest
  pub begins : is_negate (head first) ≡ false
  pub differ : apart any_unit [] (map head (first ∷ second ∷ rest)) ≡ true
  pub flat : no_sums (map head (first ∷ second ∷ rest)) ≡ true

-- ---- what doesn't depend on the order

plus : ℕ → ℕ → ℕ
plus m n = m + n

plus_comm : (a b : ℕ) → plus a b ≡ plus b a
unfolding plus
plus_comm a b = omega arith

plus_assoc : (a b c : ℕ) → plus (plus a b) c ≡ plus a (plus b c)
unfolding plus
plus_assoc a b c = omega arith

plus_zero : (a : ℕ) → plus a 0 ≡ a
unfolding plus
plus_zero a = omega arith

length_order : (cs : List Calc) → length (in_text_order cs) ≡ length cs
unfolding plus
length_order cs = sym (all (in_text_order cs)) ∙ total_in_ranks text_rank (λ (c : Calc). 1) 0 plus plus_comm plus_assoc plus_zero ranks rank_bound cs ∙ all cs
  where
    one_more : (n : ℕ) → 1 + n ≡ suc n
    one_more n = omega arith

    all : (cs : List Calc) → total text_rank (λ (c : Calc). 1) 0 plus plus_comm plus_assoc plus_zero cs ≡ length cs
    all [] = refl
    all (c ∷ cs) = ap (λ n. 1 + n) (all cs) ∙ one_more (length cs)

flat_order : (cs : List Calc) → no_sums (map head (in_text_order cs)) ≡ no_sums (map head cs)
flat_order cs = sym (all (in_text_order cs)) ∙ total_in_ranks text_rank (λ (c : Calc). not (is_sum (head c))) true both_and and_comm and_assoc and_unit ranks rank_bound cs ∙ all cs
  where
    all : (cs : List Calc) → total text_rank (λ (c : Calc). not (is_sum (head c))) true both_and and_comm and_assoc and_unit cs ≡ no_sums (map head cs)
    all [] = refl
    all (c ∷ cs) = ap (λ b. not (is_sum (head c)) && b) (all cs)

abbrev either : Bool → Bool → Bool
either a b = a || b

either_comm : (a b : Bool) → either a b ≡ either b a
either_comm true true = refl
either_comm true false = refl
either_comm false true = refl
either_comm false false = refl

either_assoc : (a b c : Bool) → either (either a b) c ≡ either a (either b c)
either_assoc true b c = refl
either_assoc false b c = refl

either_false : (a : Bool) → either a false ≡ a
either_false true = refl
either_false false = refl

number_order : (cs : List Calc) → has_number (map head (in_text_order cs)) ≡ has_number (map head cs)
number_order cs = sym (all (in_text_order cs)) ∙ total_in_ranks text_rank (λ (c : Calc). is_number (head c)) false either either_comm either_assoc either_false ranks rank_bound cs ∙ all cs
  where
    all : (cs : List Calc) → total text_rank (λ (c : Calc). is_number (head c)) false either either_comm either_assoc either_false cs ≡ has_number (map head cs)
    all [] = refl
    all (c ∷ cs) = ap (λ b. is_number (head c) || b) (all cs)

-- ---- the first

number_no_negate : (h : Head) → is_number h ≡ true → is_negate h ≡ false
number_no_negate (number v u) e = refl
number_no_negate (sum b) e = refl
number_no_negate product e = refl
number_no_negate negate e = cc
number_no_negate invert e = refl
number_no_negate least e = refl
number_no_negate greatest e = refl
number_no_negate clamp e = refl

-- those of the last rank are no numbers
last_numbers : (cs : List Calc) → has_number (map head (filter (has_rank text_rank last_rank) cs)) ≡ false
last_numbers [] = refl
last_numbers (c ∷ cs) = go (text_rank c == last_rank) refl (last_numbers cs)
  where
    high : (m : ℕ) → (m == last_rank) ≡ true → nat_lt m last_rank ≡ false
    high m h = grind (arith, nat_tests)

    go : (b : Bool) → (text_rank c == last_rank) ≡ b → has_number (map head (filter (has_rank text_rank last_rank) cs)) ≡ false → has_number (map head (filter (has_rank text_rank last_rank) (c ∷ cs))) ≡ false
    go true is more = let off : is_number (head c) ≡ false = sym (low_number c) ∙ high (text_rank c) is in rw (is, off) more
    go false is more = rw is more

either_parts : (a b : Bool) → (a || b) ≡ false → (a ≡ false) × (b ≡ false)
either_parts true b h = cc
either_parts false b h = (refl, h)

not_first : (c : Calc) (cs : List Calc) → starts (map head (c ∷ cs)) ≡ true → has_number (map head (c ∷ cs)) ≡ false → is_negate (head c) ≡ false
not_first c cs h k = not_true (is_negate (head c)) (sym (ap (λ b. b || not (is_negate (head c))) k) ∙ h)

last_rank_is : (m : ℕ) → nat_lt m last_rank ≡ false → nat_lt m ranks ≡ true → (m == last_rank) ≡ true
last_rank_is m h k = grind (arith, nat_tests)

module _ (x : Calc) (xs : List Calc) where
  -- where there are numbers, one is first
  first_low : (bs cs : List Calc) → in_ranks text_rank last_rank cs ≡ bs → in_ranks text_rank last_rank cs ++ filter (has_rank text_rank last_rank) cs ≡ x ∷ xs → starts (map head cs) ≡ true → is_negate (head x) ≡ false
  first_low (a ∷ bs) cs e order h =
      let low : all_low last_rank (a ∷ bs) ≡ true = ap (all_low last_rank) (sym e) ∙ ranks_low last_rank cs in
      let joined : (a ∷ bs) ++ filter (has_rank text_rank last_rank) cs ≡ x ∷ xs = ap (λ ys. ys ++ filter (has_rank text_rank last_rank) cs) (sym e) ∙ order in
      let same : a ≡ x = cc in
      ap (λ c. is_negate (head c)) (sym same) ∙ number_no_negate (head a) (sym (low_number a) ∙ (and_true (nat_lt (text_rank a) last_rank) (all_low last_rank bs) low).0)
  first_low [] [] e order h = cc
  first_low [] (c ∷ cs) e order h =
      let last : filter (has_rank text_rank last_rank) (c ∷ cs) ≡ x ∷ xs = ap (λ ys. ys ++ filter (has_rank text_rank last_rank) (c ∷ cs)) (sym e) ∙ order in
      let none : has_number (map head (c ∷ cs)) ≡ false = sym (number_order (c ∷ cs)) ∙ ap (λ ys. has_number (map head (ys ++ filter (has_rank text_rank last_rank) (c ∷ cs)))) e ∙ last_numbers (c ∷ cs) in
      let here : (text_rank c == last_rank) ≡ true = last_rank_is (text_rank c) (low_number c ∙ (either_parts (is_number (head c)) (has_number (map head cs)) none).0) (rank_bound c) in
      let front : c ∷ filter (has_rank text_rank last_rank) cs ≡ x ∷ xs = sym (kept here) ∙ last in
      let same : c ≡ x = cc in
      ap (λ d. is_negate (head d)) (sym same) ∙ not_first c cs h none
    where
      kept : (text_rank c == last_rank) ≡ true → filter (has_rank text_rank last_rank) (c ∷ cs) ≡ c ∷ filter (has_rank text_rank last_rank) cs
      kept e = rw e refl

-- ---- in the order of the text

pub row_ordered : (cs : List Calc) → IsRow (map head cs) → Ordered cs
row_ordered cs r = go (in_text_order cs) refl
  where
    length_map : (cs : List Calc) → length (map head cs) ≡ length cs
    length_map [] = refl
    length_map (c ∷ cs) = ap suc (length_map cs)

    go : (ds : List Calc) → in_text_order cs ≡ ds → Ordered cs
    go [] e = absurd (omega (arith, r.two, length_map cs, length_order cs, ap (λ (ds : List Calc). length ds) e))
    go (x ∷ []) e = absurd (omega (arith, r.two, length_map cs, length_order cs, ap (λ (ds : List Calc). length ds) e))
    go (x ∷ y ∷ zs) e = record {
      first = x;
      second = y;
      rest = zs;
      order = e;
      begins = first_low x (y ∷ zs) (in_ranks text_rank last_rank cs) cs refl e r.begins;
      differ = apart_pairs any_unit (map head (x ∷ y ∷ zs)) (ap (λ (ds : List Calc). pairs_apart any_unit (map head ds)) (sym e) ∙ pairs_ranks ranks cs r.differ);
      flat = ap (λ (ds : List Calc). no_sums (map head ds)) (sym e) ∙ flat_order cs ∙ r.flat;
    }
