-- What node a calculation is, and rows of calculations in which nothing is joined.
use Rattle.std.specs.Prelude.{Bool, true, false, ◌&&◌, not, List, [], ◌∷◌, ◌++◌, map, fold, None}
use Rattle.std.proofs.Common.{◌≡◌, refl, sym, ◌∙◌, ap, append_assoc}
use Rattle.std.proofs.lemmas.List.{append-nil}
use Rattle.cv_spec_ratio.specs.Ratio.{Ratio}
use Rattle.cv_calc.specs.declared.unit.Unit as units
use Rattle.cv_calc.specs.declared.calc.Calc.{Calc}
use Rattle.cv_calc.specs.declared.calc.Calc.TheVariants as tree
use Rattle.cv_calc.specs.declared.calc.Calc.TheOpen.{Calc-F, Num, Sum, Product, Negate, Invert, Min, Max, Clamp}
use Rattle.cv_calc.specs.declared.calc.Calc.TheViews.{out-Calc}
use Rattle.cv_calc.specs.Tree.{out-Num, out-Sum, out-Product, out-Negate, out-Min, out-Max, out-Clamp}
use Rattle.cv_calc.specs.Unit.{same_unit}
use Rattle.cv_simplify.specs.Simplified.{joined_as, joined_by, join_first, with_child, terms_as, terms_of}
use Rattle.cv_calc_roundtrip.proofs.Digits.{and_true}

-- ---- the node

-- a sum is of numbers alone or not
pub data Head : Type 0 where
  number : Ratio → units.Unit → Head
  sum : Bool → Head
  product : Head
  negate : Head
  invert : Head
  least : Head
  greatest : Head
  clamp : Head

abbrev pub is_num : Calc-F Calc → Bool
is_num (Num v u) = true
is_num _ = false

abbrev pub nums_alone : List Calc → Bool
nums_alone [] = true
nums_alone (c ∷ cs) = is_num (out-Calc c) && nums_alone cs

abbrev pub head_as : Calc-F Calc → Head
head_as (Num v u) = number v u
head_as (Sum cs) = sum (nums_alone cs)
head_as (Product cs) = product
head_as (Negate c) = negate
head_as (Invert c) = invert
head_as (Min cs) = least
head_as (Max cs) = greatest
head_as (Clamp a b c) = clamp

abbrev pub head : Calc → Head
head c = head_as (out-Calc c)

pub head-Num : (v : Ratio) (u : units.Unit) → head (tree.Num v u) ≡ number v u
head-Num v u = ap head_as (out-Num v u)

pub head-Sum : (cs : List Calc) → head (tree.Sum cs) ≡ sum (nums_alone cs)
head-Sum cs = ap head_as (out-Sum cs)

pub head-Product : (cs : List Calc) → head (tree.Product cs) ≡ product
head-Product cs = ap head_as (out-Product cs)

pub head-Negate : (c : Calc) → head (tree.Negate c) ≡ negate
head-Negate c = ap head_as (out-Negate c)

pub head-Min : (cs : List Calc) → head (tree.Min cs) ≡ least
head-Min cs = ap head_as (out-Min cs)

pub head-Max : (cs : List Calc) → head (tree.Max cs) ≡ greatest
head-Max cs = ap head_as (out-Max cs)

pub head-Clamp : (a b c : Calc) → head (tree.Clamp a b c) ≡ clamp
head-Clamp a b c = ap head_as (out-Clamp a b c)

abbrev pub is_number : Head → Bool
is_number (number v u) = true
is_number _ = false

abbrev pub is_sum : Head → Bool
is_sum (sum b) = true
is_sum _ = false

abbrev pub is_negate : Head → Bool
is_negate negate = true
is_negate _ = false

num_is : (l : Calc-F Calc) → is_num l ≡ is_number (head_as l)
num_is (Num v u) = refl
num_is (Sum cs) = refl
num_is (Product cs) = refl
num_is (Negate c) = refl
num_is (Invert c) = refl
num_is (Min cs) = refl
num_is (Max cs) = refl
num_is (Clamp a b c) = refl

abbrev pub numbers_alone : List Head → Bool
numbers_alone [] = true
numbers_alone (h ∷ hs) = is_number h && numbers_alone hs

pub nums_are : (cs : List Calc) → nums_alone cs ≡ numbers_alone (map head cs)
nums_are [] = refl
nums_are (c ∷ cs) = ap (λ b. b && nums_alone cs) (num_is (out-Calc c)) ∙ ap (λ b. is_number (head c) && b) (nums_are cs)

-- a calculation that is no sum is its own only term
terms_alone_as : (c : Calc) (l : Calc-F Calc) → is_sum (head_as l) ≡ false → terms_as c l ≡ c ∷ []
terms_alone_as c (Sum cs) h = cc
terms_alone_as c (Num v u) h = refl
terms_alone_as c (Product cs) h = refl
terms_alone_as c (Negate d) h = refl
terms_alone_as c (Invert d) h = refl
terms_alone_as c (Min cs) h = refl
terms_alone_as c (Max cs) h = refl
terms_alone_as c (Clamp a b d) h = refl

pub terms_alone : (c : Calc) → is_sum (head c) ≡ false → terms_of c ≡ c ∷ []
terms_alone c h = terms_alone_as c (out-Calc c) h

-- ---- what is joined

-- two numbers of one unit, of a unit of which numbers may be joined
abbrev pub joinable : (units.Unit → Bool) → Head → Head → Bool
joinable may (number v u) (number w t) = same_unit u t && may u
joinable may _ _ = false

module _ (may : units.Unit → Bool) (f : Ratio → Ratio → Ratio) where
  joined_none_as : (k l : Calc-F Calc) → joinable may (head_as k) (head_as l) ≡ false → joined_as may f k l ≡ None
  joined_none_as (Num v u) (Num w t) h = rw h refl
  joined_none_as (Num v u) (Sum cs) h = refl
  joined_none_as (Num v u) (Product cs) h = refl
  joined_none_as (Num v u) (Negate c) h = refl
  joined_none_as (Num v u) (Invert c) h = refl
  joined_none_as (Num v u) (Min cs) h = refl
  joined_none_as (Num v u) (Max cs) h = refl
  joined_none_as (Num v u) (Clamp a b c) h = refl
  joined_none_as (Sum cs) l h = refl
  joined_none_as (Product cs) l h = refl
  joined_none_as (Negate c) l h = refl
  joined_none_as (Invert c) l h = refl
  joined_none_as (Min cs) l h = refl
  joined_none_as (Max cs) l h = refl
  joined_none_as (Clamp a b c) l h = refl

  pub joined_none : (c d : Calc) → joinable may (head c) (head d) ≡ false → joined_by may f c d ≡ None
  joined_none c d h = joined_none_as (out-Calc c) (out-Calc d) h

-- ---- rows

abbrev pub none_joins : (units.Unit → Bool) → List Head → Head → Bool
none_joins may [] h = true
none_joins may (g ∷ gs) h = not (joinable may g h) && none_joins may gs h

-- no two of the heads are joined, where some stand before them
abbrev pub apart : (units.Unit → Bool) → List Head → List Head → Bool
apart may before [] = true
apart may before (h ∷ hs) = none_joins may before h && apart may (before ++ h ∷ []) hs

pub map_append : {A B : Type 0} (f : A → B) (xs ys : List A) → map f (xs ++ ys) ≡ map f xs ++ map f ys
map_append f [] ys = refl
map_append f (x ∷ xs) ys = ap (λ zs. f x ∷ zs) (map_append f xs ys)

pub not_true : (b : Bool) → not b ≡ true → b ≡ false
not_true true h = cc
not_true false h = refl

module _ (may : units.Unit → Bool) (f : Ratio → Ratio → Ratio) where
  pub with_none : (row : List Calc) (d : Calc) → none_joins may (map head row) (head d) ≡ true → with_child (joined_by may f) row d ≡ row ++ d ∷ []
  with_none [] d h = refl
  with_none (c ∷ cs) d h =
      let p = and_true (not (joinable may (head c) (head d))) (none_joins may (map head cs) (head d)) h in
      ap (λ o. join_first o c cs (with_child (joined_by may f) cs d)) (joined_none may f c d (not_true (joinable may (head c) (head d)) p.0))
      ∙ ap (λ ds. c ∷ ds) (with_none cs d p.1)

  pub row_apart : (row cs : List Calc) → apart may (map head row) (map head cs) ≡ true → fold (with_child (joined_by may f)) row cs ≡ row ++ cs
  row_apart row [] h = sym (append-nil row)
  row_apart row (d ∷ cs) h =
      let p = and_true (none_joins may (map head row) (head d)) (apart may (map head row ++ head d ∷ []) (map head cs)) h in
      ap (λ r. fold (with_child (joined_by may f)) r cs) (with_none row d p.0)
      ∙ row_apart (row ++ d ∷ []) cs (ap (λ hs. apart may hs (map head cs)) (map_append head row (d ∷ [])) ∙ p.1)
      ∙ append_assoc row (d ∷ []) cs
