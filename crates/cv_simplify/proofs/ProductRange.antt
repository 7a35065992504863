-- The factors of a product stand for its row, and what they show is what the row gives, where it is in bounds.
use Rattle.std.specs.Prelude.{Bool, true, false, ◌&&◌, List, [], ◌∷◌, ◌++◌, fold, Option, Some, None, option_map, if◌then◌else◌}
use Rattle.std.proofs.Common.{◌≡◌, refl, sym, ◌∙◌, ap, ap₂}
use Rattle.cv_spec_ratio.specs.Ratio.{Ratio, mul}
use Rattle.cv_frac.specs.Bounded.{in_bounds}
use Rattle.cv_calc.specs.declared.unit.Unit as units
use Rattle.cv_calc.specs.declared.unit.Unit.TheVariants.{Number}
use Rattle.cv_calc.specs.declared.calc.Calc.{Calc}
use Rattle.cv_calc.specs.declared.calc.Calc.TheVariants as tree
use Rattle.cv_calc.specs.declared.calc.Calc.TheOpen.{Calc-F, Num, Sum, Product, Negate, Invert, Min, Max, Clamp}
use Rattle.cv_calc.specs.declared.calc.Calc.TheViews.{out-Calc, roll-Calc, roll-out-Calc}
use Rattle.cv_calc.specs.declared.calc.Calc.TheVariants.{rolls-Num}
use Rattle.cv_calc.specs.Tree.{out-Num}
use Rattle.cv_calc.specs.Unit.{same_unit, same_unit-true}
use Rattle.cv_simplify.specs.declared.factors.Factors.{Factors}
use Rattle.cv_simplify.specs.declared.factors.Factors.TheVariants.{Plain, Numbered}
use Rattle.cv_simplify.specs.Counted.{inside, all_inside, longer_inside, prefixes_inside}
use Rattle.cv_simplify.specs.Simplified.{joined_as, joined_by, join_first, with_child, one_or, is_number, factors_as, factors_of, with_factors_of, product_row, number_as, number_of, scaled_term, both_terms, scaled_terms, scaled_as, scaled, scaled_pair, or_else, product_as, multiplied}
use Rattle.cv_simplify.specs.Checked.{only_if, within, factor_as, with_factor, term_scaled_as, with_scaled, further, is_num, and_num, all_nums, scaled_as_within, scaled_within, product_with, shown, is_shown}
use Rattle.cv_simplify.proofs.Folds.{stays}
use Rattle.cv_simplify.proofs.InRange.{inside-roll, inside-Num, inside-Sum, inside-Product, and_true, both_true, option_only_if}

abbrev join : Calc → Calc → Option Calc
join = joined_by is_number mul

abbrev pub row_of : Factors → List Calc
row_of (Plain others) = others
row_of (Numbered before n after) = before ++ tree.Num n Number ∷ after

-- none of some factors is a number
abbrev pub NoNumbers : List Calc → Type 0
NoNumbers [] = Unit {0}
NoNumbers (c ∷ cs) = (number_of c ≡ None) × NoNumbers cs

abbrev pub IsGood : Factors → Type 0
IsGood (Plain others) = NoNumbers others × (all_inside others ≡ true)
IsGood (Numbered before n after) = NoNumbers before × (all_inside before ≡ true) × (all_inside after ≡ true)

-- ---- a further factor

number_unit : (l : Calc-F Calc) (v : Ratio) → number_as l ≡ Some v → l ≡ Num v Number
number_unit (Num w u) v h = go (is_number u) refl h
  where
    node : Ratio → units.Unit → Calc-F Calc
    node r t = Num r t

    go : (b : Bool) → is_number u ≡ b → (if b then Some w else None) ≡ Some v → node w u ≡ node v Number
    go true is h = let same : w ≡ v = cc in ap₂ node same (sym (same_unit-true Number u is))
    go false is h = cc
number_unit (Sum cs) v h = cc
number_unit (Product cs) v h = cc
number_unit (Negate c) v h = cc
number_unit (Invert c) v h = cc
number_unit (Min cs) v h = cc
number_unit (Max cs) v h = cc
number_unit (Clamp a b c) v h = cc

pub number_is : (d : Calc) (v : Ratio) → number_of d ≡ Some v → d ≡ tree.Num v Number
number_is d v h = sym (roll-out-Calc d) ∙ ap roll-Calc (number_unit (out-Calc d) v h) ∙ rolls-Num v Number

-- numbers of two units, or of one that isn't that of plain numbers, aren't joined
not_joined : (b : Bool) (u t : units.Unit) (e : Calc) → same_unit u t ≡ b → (is_number u ≡ false) → (if b && is_number u then Some e else None) ≡ None
not_joined true u t e same h = ap (λ a. if a then Some e else None) h
not_joined false u t e same h = refl

unit_of_none : (w : Ratio) (t : units.Unit) → number_as (Num w t) ≡ None → is_number t ≡ false
unit_of_none w t h = go (is_number t) h
  where
    go : (b : Bool) → (if b then Some w else None) ≡ None → b ≡ false
    go true h = cc
    go false h = refl

other_second : (k l : Calc-F Calc) → number_as l ≡ None → joined_as is_number mul k l ≡ None
other_second (Num v u) (Num w t) h = go (same_unit u t) refl
  where
    go : (b : Bool) → same_unit u t ≡ b → (if b && is_number u then Some (tree.Num (mul v w) u) else None) ≡ None
    go true same = ap (λ a. if a then Some (tree.Num (mul v w) u) else None) (ap is_number (same_unit-true u t same) ∙ unit_of_none w t h)
    go false same = refl
other_second (Num v u) (Sum cs) h = refl
other_second (Num v u) (Product cs) h = refl
other_second (Num v u) (Negate c) h = refl
other_second (Num v u) (Invert c) h = refl
other_second (Num v u) (Min cs) h = refl
other_second (Num v u) (Max cs) h = refl
other_second (Num v u) (Clamp a b c) h = refl
other_second (Sum cs) l h = refl
other_second (Product cs) l h = refl
other_second (Negate c) l h = refl
other_second (Invert c) l h = refl
other_second (Min cs) l h = refl
other_second (Max cs) l h = refl
other_second (Clamp a b c) l h = refl

other_first : (k l : Calc-F Calc) → number_as k ≡ None → joined_as is_number mul k l ≡ None
other_first (Num v u) (Num w t) h = not_joined (same_unit u t) u t (tree.Num (mul v w) u) refl (unit_of_none v u h)
other_first (Num v u) (Sum cs) h = refl
other_first (Num v u) (Product cs) h = refl
other_first (Num v u) (Negate c) h = refl
other_first (Num v u) (Invert c) h = refl
other_first (Num v u) (Min cs) h = refl
other_first (Num v u) (Max cs) h = refl
other_first (Num v u) (Clamp a b c) h = refl
other_first (Sum cs) l h = refl
other_first (Product cs) l h = refl
other_first (Negate c) l h = refl
other_first (Invert c) l h = refl
other_first (Min cs) l h = refl
other_first (Max cs) l h = refl
other_first (Clamp a b c) l h = refl

other_last : (row : List Calc) (d : Calc) → number_of d ≡ None → with_child join row d ≡ row ++ d ∷ []
other_last [] d h = refl
other_last (c ∷ cs) d h = ap (λ o. join_first o c cs (with_child join cs d)) (other_second (out-Calc c) (out-Calc d) h) ∙ ap (λ ds. c ∷ ds) (other_last cs d h)

number_last : (row : List Calc) (d : Calc) → NoNumbers row → with_child join row d ≡ row ++ d ∷ []
number_last [] d h = refl
number_last (c ∷ cs) d h = ap (λ o. join_first o c cs (with_child join cs d)) (other_first (out-Calc c) (out-Calc d) h.0) ∙ ap (λ ds. c ∷ ds) (number_last cs d h.1)

number_there : (before after : List Calc) (n v : Ratio) → NoNumbers before →
    with_child join (before ++ tree.Num n Number ∷ after) (tree.Num v Number) ≡ before ++ tree.Num (mul n v) Number ∷ after
number_there [] after n v h =
    ap (λ o. join_first o (tree.Num n Number) after (with_child join after (tree.Num v Number))) (ap₂ (joined_as is_number mul) (out-Num n Number) (out-Num v Number))
number_there (c ∷ cs) after n v h =
    ap (λ o. join_first o c (cs ++ tree.Num n Number ∷ after) (with_child join (cs ++ tree.Num n Number ∷ after) (tree.Num v Number))) (other_first (out-Calc c) (out-Calc (tree.Num v Number)) h.0)
    ∙ ap (λ ds. c ∷ ds) (number_there cs after n v h.1)

append_cons : (before after : List Calc) (c d : Calc) → (before ++ c ∷ after) ++ d ∷ [] ≡ before ++ c ∷ (after ++ d ∷ [])
append_cons [] after c d = refl
append_cons (b ∷ before) after c d = ap (λ cs. b ∷ cs) (append_cons before after c d)

inside_push : (row : List Calc) (d : Calc) → all_inside row ≡ true → inside d ≡ true → all_inside (row ++ d ∷ []) ≡ true
inside_push [] d h k = both_true (inside d) true k refl
inside_push (c ∷ cs) d h k = let parts = and_true (inside c) (all_inside cs) h in both_true (inside c) _ parts.0 (inside_push cs d parts.1 k)

numbers_push : (row : List Calc) (d : Calc) → NoNumbers row → number_of d ≡ None → NoNumbers (row ++ d ∷ [])
numbers_push [] d h k = (k, tt)
numbers_push (c ∷ cs) d h k = (h.0, numbers_push cs d h.1 k)

-- the factors with one more stand for the row with it
module _ (d : Calc) (in_d : inside d ≡ true) where
  factor_row_as : (fs : Factors) (o : Option Ratio) → number_of d ≡ o → IsGood fs → (row_of (factor_as fs d o) ≡ with_child join (row_of fs) d) × IsGood (factor_as fs d o)
  factor_row_as (Plain others) (Some v) is good =
      (ap (λ c. others ++ c ∷ []) (sym (number_is d v is)) ∙ sym (number_last others d good.0), (good.0, good.1, refl))
  factor_row_as (Plain others) None is good = (sym (other_last others d is), (numbers_push others d good.0 is, inside_push others d good.1 in_d))
  factor_row_as (Numbered before n after) (Some v) is good =
      (sym (ap (with_child join (before ++ tree.Num n Number ∷ after)) (number_is d v is) ∙ number_there before after n v good.0), (good.0, good.1, good.2))
  factor_row_as (Numbered before n after) None is good =
      (sym (other_last (before ++ tree.Num n Number ∷ after) d is ∙ append_cons before after (tree.Num n Number) d), (good.0, good.1, inside_push after d good.2 in_d))

  factor_row : (fs : Factors) → IsGood fs → (row_of (with_factor fs d) ≡ with_child join (row_of fs) d) × IsGood (with_factor fs d)
  factor_row fs good = factor_row_as fs (number_of d) refl good

factor_rows : (fs : Factors) (ds : List Calc) → all_inside ds ≡ true → IsGood fs → (row_of (fold with_factor fs ds) ≡ fold (with_child join) (row_of fs) ds) × IsGood (fold with_factor fs ds)
factor_rows fs [] h good = (refl, good)
factor_rows fs (d ∷ ds) h good =
    let parts = and_true (inside d) (all_inside ds) h in
    let one = factor_row d parts.0 fs good in
    let more = factor_rows (with_factor fs d) ds parts.1 one.1 in
    (more.0 ∙ ap (λ row. fold (with_child join) row ds) one.0, more.1)

factors_inside_as : (c : Calc) (l : Calc-F Calc) → roll-Calc l ≡ c → inside c ≡ true → all_inside (factors_as c l) ≡ true
factors_inside_as c (Product ds) p h = sym (inside-roll (Product ds)) ∙ ap inside p ∙ h
factors_inside_as c _ p h = both_true (inside c) true h refl

pub child_row : (fs : Factors) (c : Calc) → inside c ≡ true → IsGood fs →
    (row_of (fold with_factor fs (factors_of c)) ≡ with_factors_of (row_of fs) c) × IsGood (fold with_factor fs (factors_of c))
child_row fs c h good = factor_rows fs (factors_of c) (factors_inside_as c (out-Calc c) (roll-out-Calc c) h) good

-- ---- a number times the other factor

abbrev inside_only : Calc → Option Calc
inside_only e = only_if (inside e) e

abbrev option_and_inside : Option Calc → Option Calc
option_and_inside None = None
option_and_inside (Some e) = only_if (inside e) e

term_is : (n : Ratio) (l : Calc-F Calc) → term_scaled_as n l ≡ option_and_inside (scaled_term n l)
term_is n (Num w u) =
    option_only_if (λ r. tree.Num r u) (in_bounds (mul n w)) (mul n w) ∙ ap (λ b. only_if b (tree.Num (mul n w) u)) (sym (inside-Num (mul n w) u))
term_is n (Sum cs) = refl
term_is n (Product cs) = refl
term_is n (Negate c) = refl
term_is n (Invert c) = refl
term_is n (Min cs) = refl
term_is n (Max cs) = refl
term_is n (Clamp a b c) = refl

nums_stay : (cs : List Calc) → fold and_num false cs ≡ false
nums_stay = stays and_num false (λ c. refl)

num_scaled : (n : Ratio) (l : Calc-F Calc) → is_shown (scaled_term n l) ≡ is_num l
num_scaled n (Num w u) = refl
num_scaled n (Sum cs) = refl
num_scaled n (Product cs) = refl
num_scaled n (Negate c) = refl
num_scaled n (Invert c) = refl
num_scaled n (Min cs) = refl
num_scaled n (Max cs) = refl
num_scaled n (Clamp a b c) = refl

abbrev has_terms : Option (List Calc) → Bool
has_terms None = false
has_terms (Some es) = true

nums_scaled : (n : Ratio) (cs : List Calc) → all_nums cs ≡ has_terms (scaled_terms n cs)
nums_scaled n [] = refl
nums_scaled n (c ∷ cs) = ap (λ b. fold and_num b cs) (sym (num_scaled n (out-Calc c))) ∙ go (scaled_term n (out-Calc c)) (scaled_terms n cs) (nums_scaled n cs)
  where
    go : (o : Option Calc) (p : Option (List Calc)) → all_nums cs ≡ has_terms p → fold and_num (is_shown o) cs ≡ has_terms (both_terms o p)
    go None p ih = nums_stay cs
    go (Some e) None ih = ih
    go (Some e) (Some es) ih = ih

no_more : (cs : List Calc) → cs ++ [] ≡ cs
no_more [] = refl
no_more (c ∷ cs) = ap (λ ds. c ∷ ds) (no_more cs)

push_append : (row : List Calc) (e : Calc) (fs : List Calc) → (row ++ e ∷ []) ++ fs ≡ row ++ e ∷ fs
push_append [] e fs = refl
push_append (c ∷ row) e fs = ap (λ ds. c ∷ ds) (push_append row e fs)

terms_are : (n : Ratio) (row cs es : List Calc) → scaled_terms n cs ≡ Some es → fold (with_scaled n) (Some row) cs ≡ only_if (all_inside es) (row ++ es)
terms_are n row [] es h = let made : [] ≡ es = cc in ap Some (sym (no_more row)) ∙ ap (λ ds. only_if (all_inside ds) (row ++ ds)) made
terms_are n row (c ∷ cs) es h =
    ap (λ o. fold (with_scaled n) (further (λ r e. Some (r ++ e ∷ [])) (Some row) o) cs) (term_is n (out-Calc c))
    ∙ go (scaled_term n (out-Calc c)) (scaled_terms n cs) refl (λ e fs is. terms_are n (row ++ e ∷ []) cs fs is) h
  where
    one : (b : Bool) (e : Calc) (fs : List Calc) → fold (with_scaled n) (Some (row ++ e ∷ [])) cs ≡ only_if (all_inside fs) ((row ++ e ∷ []) ++ fs) →
        fold (with_scaled n) (further (λ r e. Some (r ++ e ∷ [])) (Some row) (only_if b e)) cs ≡ only_if (b && all_inside fs) (row ++ e ∷ fs)
    one true e fs ih = ih ∙ ap (only_if (all_inside fs)) (push_append row e fs)
    one false e fs ih = stays (with_scaled n) None (λ a. refl) cs

    go : (o : Option Calc) (p : Option (List Calc)) → scaled_terms n cs ≡ p →
        ((e : Calc) (fs : List Calc) → scaled_terms n cs ≡ Some fs → fold (with_scaled n) (Some (row ++ e ∷ [])) cs ≡ only_if (all_inside fs) ((row ++ e ∷ []) ++ fs)) →
        both_terms o p ≡ Some es →
        fold (with_scaled n) (further (λ r e. Some (r ++ e ∷ [])) (Some row) (option_and_inside o)) cs ≡ only_if (all_inside es) (row ++ es)
    go None p is ih h = cc
    go (Some e) None is ih h = cc
    go (Some e) (Some fs) is ih h =
        let made : e ∷ fs ≡ es = cc in
        one (inside e) e fs (ih e fs is) ∙ ap (λ ds. only_if (all_inside ds) (row ++ ds)) made

abbrev scaled_or_not : Option Calc → Option (Option Calc)
scaled_or_not None = None
scaled_or_not (Some e) = Some (only_if (inside e) e)

scaled_is_as : (n : Ratio) (l : Calc-F Calc) → scaled_as_within n l ≡ scaled_or_not (scaled_as n l)
scaled_is_as n (Num w u) = ap Some (term_is n (Num w u))
scaled_is_as n (Sum cs) = ap (λ b. if b then Some (option_map tree.Sum (fold (with_scaled n) (Some []) cs)) else None) (nums_scaled n cs) ∙ go (scaled_terms n cs) refl
  where
    go : (o : Option (List Calc)) → scaled_terms n cs ≡ o →
        (if has_terms o then Some (option_map tree.Sum (fold (with_scaled n) (Some []) cs)) else None) ≡ scaled_or_not (option_map tree.Sum o)
    go None is = refl
    go (Some es) is =
        ap (λ o. Some (option_map tree.Sum o)) (terms_are n [] cs es is)
        ∙ ap Some (option_only_if tree.Sum (all_inside es) es ∙ ap (λ b. only_if b (tree.Sum es)) (sym (inside-Sum es)))
scaled_is_as n (Product cs) = refl
scaled_is_as n (Negate c) = refl
scaled_is_as n (Invert c) = refl
scaled_is_as n (Min cs) = refl
scaled_is_as n (Max cs) = refl
scaled_is_as n (Clamp a b c) = refl

scaled_is : (n : Ratio) (d : Calc) → scaled_within n d ≡ scaled_or_not (scaled n d)
scaled_is n d = scaled_is_as n (out-Calc d)

-- ---- what the factors show

abbrev answer : Calc → Option Calc
answer c = only_if (inside c) c

true_and : (b : Bool) → b ≡ (b && true)
true_and true = refl
true_and false = refl

number_of_number : (n : Ratio) → number_of (tree.Num n Number) ≡ Some n
number_of_number n = ap number_as (out-Num n Number)

-- a product with a number is in bounds where the number is
inside_with : (before after : List Calc) (n : Ratio) → all_inside before ≡ true → all_inside after ≡ true → all_inside (before ++ tree.Num n Number ∷ after) ≡ in_bounds n
inside_with [] after n h k = ap₂ (λ a b. a && b) (inside-Num n Number) k ∙ sym (true_and (in_bounds n))
inside_with (c ∷ cs) after n h k =
    let parts = and_true (inside c) (all_inside cs) h in
    ap (λ a. a && all_inside (cs ++ tree.Num n Number ∷ after)) parts.0 ∙ inside_with cs after n parts.1 k

whole_with : (before after : List Calc) (n : Ratio) → all_inside before ≡ true → all_inside after ≡ true →
    option_map (λ v. tree.Product (before ++ tree.Num v Number ∷ after)) (within n) ≡ answer (tree.Product (before ++ tree.Num n Number ∷ after))
whole_with before after n h k =
    option_only_if (λ v. tree.Product (before ++ tree.Num v Number ∷ after)) (in_bounds n) n
    ∙ ap (λ b. only_if b (tree.Product (before ++ tree.Num n Number ∷ after))) (sym (inside-Product (before ++ tree.Num n Number ∷ after) ∙ inside_with before after n h k))

-- with one other factor, into which the number is multiplied or not
pair_with : (before after : List Calc) (n : Ratio) (o : Option Calc) (whole : Calc) → product_with before n after None ≡ answer whole →
    product_with before n after (scaled_or_not o) ≡ answer (or_else o whole)
pair_with before after n None whole h = h
pair_with before after n (Some e) whole h = refl

shown_plain : (others : List Calc) → NoNumbers others → all_inside others ≡ true → Some (one_or tree.Product others) ≡ answer (product_as others)
shown_plain [] none h = sym (ap (λ b. only_if b (tree.Product [])) (inside-Product []))
shown_plain (c ∷ []) none h = sym (ap (λ b. only_if b c) (and_true (inside c) true h).0)
shown_plain (c ∷ d ∷ []) none h =
    sym (ap (λ b. only_if b (tree.Product (c ∷ d ∷ []))) (inside-Product (c ∷ d ∷ []) ∙ h))
    ∙ ap₂ (λ o p. answer (or_else (scaled_pair o p c d) (tree.Product (c ∷ d ∷ [])))) (sym none.0) (sym none.1.0)
shown_plain (c ∷ d ∷ e ∷ cs) none h = sym (ap (λ b. only_if b (tree.Product (c ∷ d ∷ e ∷ cs))) (inside-Product (c ∷ d ∷ e ∷ cs) ∙ h))

shown_numbered : (before after : List Calc) (n : Ratio) → NoNumbers before → all_inside before ≡ true → all_inside after ≡ true →
    shown (Numbered before n after) ≡ answer (product_as (before ++ tree.Num n Number ∷ after))
shown_numbered [] [] n none h k =
    option_only_if (λ v. tree.Num v Number) (in_bounds n) n ∙ ap (λ b. only_if b (tree.Num n Number)) (sym (inside-Num n Number))
shown_numbered [] (d ∷ []) n none h k =
    ap (product_with [] n (d ∷ [])) (scaled_is n d)
    ∙ pair_with [] (d ∷ []) n (scaled n d) (tree.Product (tree.Num n Number ∷ d ∷ [])) (whole_with [] (d ∷ []) n h k)
    ∙ ap (λ o. answer (or_else (scaled_pair o (number_of d) (tree.Num n Number) d) (tree.Product (tree.Num n Number ∷ d ∷ [])))) (sym (number_of_number n))
shown_numbered [] (d ∷ e ∷ cs) n none h k = whole_with [] (d ∷ e ∷ cs) n h k
shown_numbered (c ∷ []) [] n none h k =
    ap (product_with (c ∷ []) n []) (scaled_is n c)
    ∙ pair_with (c ∷ []) [] n (scaled n c) (tree.Product (c ∷ tree.Num n Number ∷ [])) (whole_with (c ∷ []) [] n h k)
    ∙ ap₂ (λ o p. answer (or_else (scaled_pair o p c (tree.Num n Number)) (tree.Product (c ∷ tree.Num n Number ∷ [])))) (sym none.0) (sym (number_of_number n))
shown_numbered (c ∷ []) (d ∷ cs) n none h k = whole_with (c ∷ []) (d ∷ cs) n h k
shown_numbered (c ∷ b ∷ []) after n none h k = whole_with (c ∷ b ∷ []) after n h k
shown_numbered (c ∷ b ∷ a ∷ before) after n none h k = whole_with (c ∷ b ∷ a ∷ before) after n h k

pub shown_is : (fs : Factors) → IsGood fs → shown fs ≡ answer (product_as (row_of fs))
shown_is (Plain others) good = shown_plain others good.0 good.1
shown_is (Numbered before n after) good = shown_numbered before after n good.0 good.1 good.2

pub is_shown_if : (b : Bool) (c : Calc) → is_shown (only_if b c) ≡ b
is_shown_if true c = refl
is_shown_if false c = refl

-- ---- prefixes

abbrev pub products_inside : List Calc → List Calc → Bool
products_inside row [] = true
products_inside row (c ∷ cs) = inside (product_as (with_factors_of row c)) && products_inside (with_factors_of row c) cs

row-push : (row cs : List Calc) (c : Calc) → fold with_factors_of row (cs ++ c ∷ []) ≡ with_factors_of (fold with_factors_of row cs) c
row-push row [] c = refl
row-push row (d ∷ cs) c = row-push (with_factors_of row d) cs c

longer_products : (before cs : List Calc) → longer_inside multiplied before cs ≡ products_inside (product_row before) cs
longer_products before [] = refl
longer_products before (c ∷ cs) =
    ap₂ (λ a b. a && b) (ap (λ row. inside (product_as row)) (row-push [] before c))
    (longer_products (before ++ c ∷ []) cs ∙ ap (λ row. products_inside row cs) (row-push [] before c))

pub product_prefixes : (cs : List Calc) → prefixes_inside multiplied cs ≡ products_inside [] cs
product_prefixes cs = ap₂ (λ a b. a && b) (inside-Product []) (longer_products [] cs)
