-- What the figures of some numbers tell of their row, their product and what is chosen of them.
use Rattle.std.specs.Prelude.{Bool, true, false, List, [], ◌∷◌, fold, Option, Some, None, option_map, if◌then◌else◌}
use Rattle.std.specs.Option.{option_and_then}
use Rattle.std.proofs.Common.{◌≡◌, refl, sym, ◌∙◌, ap, ap₂, subst}
use Rattle.cv_spec_ratio.specs.Ratio.{Ratio, add, mul, neg, reciprocal, zero_ratio, one_ratio}
use Rattle.cv_spec_ratio.specs.Order.{lesser, greater}
use Rattle.cv_spec_ratio.proofs.Laws.{add_comm, add_zero, mul_comm_ratio, mul_one}
use Rattle.cv_frac.specs.Bounded.{in_bounds}
use Rattle.cv_calc.specs.declared.unit.Unit.TheVariants.{Number}
use Rattle.cv_calc.specs.declared.calc.Calc.{Calc}
use Rattle.cv_calc.specs.declared.calc.Calc.TheVariants.{Num, Sum, Product, Min, Max}
use Rattle.cv_calc.specs.declared.calc.Calc.TheOpen as layer
use Rattle.cv_calc.specs.declared.calc.Calc.TheOpen.{Calc-F}
use Rattle.cv_calc.specs.declared.calc.Calc.TheViews.{out-Calc}
use Rattle.cv_calc.specs.Numbers as numbers
use Rattle.cv_calc.specs.Numbers.{Figure, figure, figure_step, measured, undefined, figure_of, joined, unit_figure, chosen, inside_or, outside_or}
use Rattle.cv_calc.specs.Tree.{out-Num}
use Rattle.cv_simplify.specs.declared.factors.Factors.{Factors}
use Rattle.cv_simplify.specs.declared.factors.Factors.TheVariants.{Plain, Numbered}
use Rattle.cv_simplify.specs.declared.joining.Joining.{Joining}
use Rattle.cv_simplify.specs.declared.joining.Joining.TheVariants as joining
use Rattle.cv_simplify.specs.Counted.{inside}
use Rattle.cv_simplify.specs.Checked.{within, only_if, one_number, term_first, joined_as_within, with_term, with_terms, with_simple, further, row_within, number_factor, factor_as, with_factor, with_child, factors_within, shown, is_shown, clamped_within}
use Rattle.cv_simplify.specs.Simplified.{one_or, terms_as, factors_as, number_as, negated, negated_as, inverted, inverted_as, inverse_or, number_clamped_as, clamped_as, clamped}
use Rattle.cv_simplify.proofs.Bounds.{lesser_in, greater_in, inside_negated, inside_inverted}
use Rattle.cv_simplify.proofs.InRange.{inside-Num}

-- ---- what a figure tells

-- of a state of a fold: what stands where the figure is in bounds, and nothing where it is out of bounds
abbrev pub Tells : {A : Type 0} → (Ratio → A) → Figure → Option A → Type 0
Tells made measured o = Unit {0}
Tells made undefined o = Unit {0}
Tells made (numbers.inside r) o = (o ≡ Some (made r)) × (in_bounds r ≡ true)
Tells made (numbers.outside r) o = o ≡ None

abbrev pub number : Ratio → Calc
number r = Num r Number

abbrev one : Ratio → List Calc
one r = number r ∷ []

abbrev factor_alone : Ratio → Factors
factor_alone r = Numbered [] r []

-- a value, in bounds or not
told_of : {A : Type 0} (made : Ratio → A) (r : Ratio) (o : Option A) → o ≡ option_map made (within r) → Tells made (figure_of r) o
told_of made r o e = go (in_bounds r) refl e
  where
    go : (b : Bool) → in_bounds r ≡ b → o ≡ option_map made (only_if b r) → Tells made (if b then numbers.inside r else numbers.outside r) o
    go true is e = (e, is)
    go false is e = e

-- a further part
next_told : {A : Type 0} (made : Ratio → A) (step : A → Calc → Option A) (give : Ratio → Figure) (f : Ratio → Ratio → Ratio) →
    ((a b : Ratio) → in_bounds a ≡ true → in_bounds b ≡ true → Tells made (give (f a b)) (step (made a) (number b))) →
    (g h : Figure) (o : Option A) (p : Option Calc) → Tells made g o → Tells number h p → Tells made (joined give f g h) (further step o p)
next_told made step give f both measured h o p k l = tt
next_told made step give f both undefined measured o p k l = tt
next_told made step give f both undefined undefined o p k l = tt
next_told made step give f both undefined (numbers.inside b) o p k l = tt
next_told made step give f both undefined (numbers.outside b) o p k l = tt
next_told made step give f both (numbers.inside a) measured o p k l = tt
next_told made step give f both (numbers.inside a) undefined o p k l = tt
next_told made step give f both (numbers.inside a) (numbers.inside b) o p k l = subst (λ q. Tells made (give (f a b)) q) (sym (ap₂ (further step) k.0 l.0)) (both a b k.1 l.1)
next_told made step give f both (numbers.inside a) (numbers.outside b) o p k l = ap₂ (further step) k.0 l
next_told made step give f both (numbers.outside a) measured o p k l = tt
next_told made step give f both (numbers.outside a) undefined o p k l = tt
next_told made step give f both (numbers.outside a) (numbers.inside b) o p k l = ap₂ (further step) k l.0
next_told made step give f both (numbers.outside a) (numbers.outside b) o p k l = ap₂ (further step) k l

-- figures and what is made, part by part
abbrev pub Told : List Figure → List (Option Calc) → Type 0
Told [] [] = Unit {0}
Told [] (o ∷ os) = ⊥
Told (g ∷ gs) [] = ⊥
Told (g ∷ gs) (o ∷ os) = Tells number g o × Told gs os

row_told : {A : Type 0} (made : Ratio → A) (step : A → Calc → Option A) (give : Ratio → Figure) (f : Ratio → Ratio → Ratio) →
    ((a b : Ratio) → in_bounds a ≡ true → in_bounds b ≡ true → Tells made (give (f a b)) (step (made a) (number b))) →
    (gs : List Figure) (os : List (Option Calc)) (g : Figure) (o : Option A) → Tells made g o → Told gs os → Tells made (fold (joined give f) g gs) (fold (further step) o os)
row_told made step give f both [] [] g o k l = k
row_told made step give f both [] (p ∷ os) g o k l = absurd l
row_told made step give f both (h ∷ gs) [] g o k l = absurd l
row_told made step give f both (h ∷ gs) (p ∷ os) g o k l =
    row_told made step give f both gs os (joined give f g h) (further step o p) (next_told made step give f both g h o p k l.0) l.1

-- ---- the first part

pub within_in : (r : Ratio) → in_bounds r ≡ true → within r ≡ Some r
within_in r h = ap (λ b. only_if b r) h

first_told : {A : Type 0} (made : Ratio → A) (step : A → Calc → Option A) (start : A) (f : Ratio → Ratio → Ratio) (z : Ratio) → ((b : Ratio) → f z b ≡ b) →
    ((b : Ratio) → in_bounds b ≡ true → step start (number b) ≡ Some (made b)) → (h : Figure) (p : Option Calc) → Tells number h p → Tells made (joined figure_of f (numbers.inside z) h) (further step (Some start) p)
first_told made step start f z same begins measured p k = tt
first_told made step start f z same begins undefined p k = tt
first_told made step start f z same begins (numbers.inside b) p k =
    told_of made (f z b) _ (ap (further step (Some start)) k.0 ∙ begins b k.1 ∙ sym (ap (λ r. option_map made (within r)) (same b) ∙ ap (option_map made) (within_in b k.1)))
first_told made step start f z same begins (numbers.outside b) p k = ap (further step (Some start)) k

-- ---- two numbers

module _ (how : Joining) where
  number_with : (a b : Ratio) → with_term how (one a) (number b) ≡ term_first (joined_as_within how (layer.Num a Number) (layer.Num b Number)) (number a) [] (Some (one b))
  unfolding with_term
  number_with a b = ap₂ (λ l k. term_first (joined_as_within how l k) (number a) [] (Some (one b))) (out-Num a Number) (out-Num b Number)

  number_first : (b : Ratio) → with_term how [] (number b) ≡ Some (one b)
  unfolding with_term
  number_first b = refl

sum_begins : (b : Ratio) → with_simple joining.Sum [] (number b) ≡ Some (one b)
sum_begins b = ap (λ l. with_terms [] (terms_as (number b) l)) (out-Num b Number) ∙ number_first joining.Sum b

sum_both : (a b : Ratio) → in_bounds a ≡ true → in_bounds b ≡ true → Tells one (figure_of (add a b)) (with_simple joining.Sum (one a) (number b))
sum_both a b h k = told_of one (add a b) _ (ap (λ l. with_terms (one a) (terms_as (number b) l)) (out-Num b Number) ∙ number_with joining.Sum a b ∙ go (within (add a b)))
  where
    go : (o : Option Ratio) → term_first (one_number Number o) (number a) [] (Some (one b)) ≡ option_map one o
    go None = refl
    go (Some r) = refl

least_both : (p : Bool) (a b : Ratio) → in_bounds a ≡ true → in_bounds b ≡ true → Tells one (numbers.inside (lesser a b)) (with_simple (joining.Least p) (one a) (number b))
least_both p a b h k = (number_with (joining.Least p) a b ∙ go p, lesser_in a b h k)
  where
    go : (p : Bool) → term_first (joined_as_within (joining.Least p) (layer.Num a Number) (layer.Num b Number)) (number a) [] (Some (one b)) ≡ Some (one (lesser a b))
    go true = refl
    go false = refl

greatest_both : (p : Bool) (a b : Ratio) → in_bounds a ≡ true → in_bounds b ≡ true → Tells one (numbers.inside (greater a b)) (with_simple (joining.Greatest p) (one a) (number b))
greatest_both p a b h k = (number_with (joining.Greatest p) a b ∙ go p, greater_in a b h k)
  where
    go : (p : Bool) → term_first (joined_as_within (joining.Greatest p) (layer.Num a Number) (layer.Num b Number)) (number a) [] (Some (one b)) ≡ Some (one (greater a b))
    go true = refl
    go false = refl

-- ---- factors

kept_alone : (fs : Factors) → Option Factors
kept_alone fs = only_if (is_shown (shown fs)) fs

factor_next : (fs : Factors) (b : Ratio) → with_child fs (number b) ≡ kept_alone (number_factor fs b)
unfolding kept_alone
factor_next fs b =
    ap (λ l. kept_alone (fold with_factor fs (factors_as (number b) l))) (out-Num b Number)
    ∙ ap (λ l. kept_alone (factor_as fs (number b) (number_as l))) (out-Num b Number)

alone_kept : (n : Ratio) → kept_alone (factor_alone n) ≡ option_map factor_alone (within n)
unfolding kept_alone
alone_kept n = go (in_bounds n)
  where
    go : (b : Bool) → only_if (is_shown (option_map (λ v. one_or Product (number v ∷ [])) (only_if b n))) (factor_alone n) ≡ option_map factor_alone (only_if b n)
    go true = refl
    go false = refl

product_both : (a b : Ratio) → in_bounds a ≡ true → in_bounds b ≡ true → Tells factor_alone (figure_of (mul a b)) (with_child (factor_alone a) (number b))
product_both a b h k = told_of factor_alone (mul a b) _ (factor_next (factor_alone a) b ∙ alone_kept (mul a b))

product_begins : (b : Ratio) → in_bounds b ≡ true → with_child (Plain []) (number b) ≡ Some (factor_alone b)
product_begins b h = factor_next (Plain []) b ∙ alone_kept b ∙ ap (option_map factor_alone) (within_in b h)

-- ---- what is made at the end

one_told : (node : List Calc → Calc) (g : Figure) (o : Option (List Calc)) → Tells one g o → Tells number g (option_map (one_or node) o)
one_told node measured o h = tt
one_told node undefined o h = tt
one_told node (numbers.inside r) o h = (ap (option_map (one_or node)) h.0, h.1)
one_told node (numbers.outside r) o h = ap (option_map (one_or node)) h

alone_told : (g : Figure) (o : Option Factors) → Tells factor_alone g o → Tells number g (option_and_then shown o)
alone_told measured o h = tt
alone_told undefined o h = tt
alone_told (numbers.inside r) o h = (ap (option_and_then shown) h.0 ∙ ap (option_map (λ v. one_or Product (number v ∷ []))) (within_in r h.1), h.1)
alone_told (numbers.outside r) o h = ap (option_and_then shown) h

negated_number : (r : Ratio) → negated (number r) ≡ number (neg r)
negated_number r = ap (negated_as (number r)) (out-Num r Number)

inverted_number : (r : Ratio) → inverted (number r) ≡ inverse_or (number r) (reciprocal r)
inverted_number r = ap (inverted_as (number r)) (out-Num r Number)

pub negated_told : (g : Figure) (o : Option Calc) → Tells number g o → Tells number (numbers.negated g) (option_map negated o)
negated_told measured o h = tt
negated_told undefined o h = tt
negated_told (numbers.inside r) o h = (
  ap (option_map negated) h.0 ∙ ap Some (negated_number r),
  sym (inside-Num (neg r) Number) ∙ ap inside (sym (negated_number r)) ∙ inside_negated (number r) (inside-Num r Number ∙ h.1),
)
negated_told (numbers.outside r) o h = ap (option_map negated) h

pub inverted_told : (g : Figure) (o : Option Calc) → Tells number g o → Tells number (numbers.inverted g) (option_map inverted o)
inverted_told measured o h = tt
inverted_told undefined o h = tt
inverted_told (numbers.inside r) o h = go (reciprocal r) refl
  where
    go : (s : Option Ratio) → reciprocal r ≡ s → Tells number (inside_or s) (option_map inverted o)
    go None is = tt
    go (Some s) is =
        let made : inverted (number r) ≡ number s = inverted_number r ∙ ap (inverse_or (number r)) is in (
          ap (option_map inverted) h.0 ∙ ap Some made,
          sym (inside-Num s Number) ∙ ap inside (sym made) ∙ inside_inverted (number r) (inside-Num r Number ∙ h.1),
        )
inverted_told (numbers.outside r) o h = go (reciprocal r)
  where
    go : (s : Option Ratio) → Tells number (outside_or s) (option_map inverted o)
    go None = tt
    go (Some s) = ap (option_map inverted) h

clamped_number : (p : Bool) (a b c : Ratio) → clamped p (number a) (number b) (number c) ≡ number (greater a (lesser b c))
clamped_number p a b c =
    ap (λ l. clamped_as (number_clamped_as p l (out-Calc (number b)) (out-Calc (number c))) (number a) (number b) (number c)) (out-Num a Number)
    ∙ ap₂ (λ m h. clamped_as (number_clamped_as p (layer.Num a Number) m h) (number a) (number b) (number c)) (out-Num b Number) (out-Num c Number)
    ∙ go p
  where
    go : (p : Bool) → clamped_as (number_clamped_as p (layer.Num a Number) (layer.Num b Number) (layer.Num c Number)) (number a) (number b) (number c) ≡ number (greater a (lesser b c))
    go true = refl
    go false = refl

pub clamp_told : (p : Bool) (l m h : Figure) (o q r : Option Calc) → Tells number l o → Tells number m q → Tells number h r → Tells number (numbers.greatest l (numbers.least m h)) (clamped_within p o q r)
clamp_told p measured m h o q r i j k = tt
clamp_told p undefined m h o q r i j k = go (numbers.least m h)
  where
    go : (g : Figure) → Tells number (numbers.greatest undefined g) (clamped_within p o q r)
    go measured = tt
    go undefined = tt
    go (numbers.inside a) = tt
    go (numbers.outside a) = tt
clamp_told p (numbers.inside a) measured h o q r i j k = tt
clamp_told p (numbers.inside a) undefined measured o q r i j k = tt
clamp_told p (numbers.inside a) undefined undefined o q r i j k = tt
clamp_told p (numbers.inside a) undefined (numbers.inside c) o q r i j k = tt
clamp_told p (numbers.inside a) undefined (numbers.outside c) o q r i j k = tt
clamp_told p (numbers.inside a) (numbers.inside b) measured o q r i j k = tt
clamp_told p (numbers.inside a) (numbers.inside b) undefined o q r i j k = tt
clamp_told p (numbers.inside a) (numbers.inside b) (numbers.inside c) o q r i j k =
    (rw (i.0, j.0, k.0) (ap Some (clamped_number p a b c)), greater_in a (lesser b c) i.1 (lesser_in b c j.1 k.1))
clamp_told p (numbers.inside a) (numbers.inside b) (numbers.outside c) o q r i j k = rw (i.0, j.0, k) refl
clamp_told p (numbers.inside a) (numbers.outside b) measured o q r i j k = tt
clamp_told p (numbers.inside a) (numbers.outside b) undefined o q r i j k = tt
clamp_told p (numbers.inside a) (numbers.outside b) (numbers.inside c) o q r i j k = rw (i.0, j) refl
clamp_told p (numbers.inside a) (numbers.outside b) (numbers.outside c) o q r i j k = rw (i.0, j) refl
clamp_told p (numbers.outside a) measured h o q r i j k = tt
clamp_told p (numbers.outside a) undefined measured o q r i j k = tt
clamp_told p (numbers.outside a) undefined undefined o q r i j k = tt
clamp_told p (numbers.outside a) undefined (numbers.inside c) o q r i j k = tt
clamp_told p (numbers.outside a) undefined (numbers.outside c) o q r i j k = tt
clamp_told p (numbers.outside a) (numbers.inside b) measured o q r i j k = tt
clamp_told p (numbers.outside a) (numbers.inside b) undefined o q r i j k = tt
clamp_told p (numbers.outside a) (numbers.inside b) (numbers.inside c) o q r i j k = rw i refl
clamp_told p (numbers.outside a) (numbers.inside b) (numbers.outside c) o q r i j k = rw i refl
clamp_told p (numbers.outside a) (numbers.outside b) measured o q r i j k = tt
clamp_told p (numbers.outside a) (numbers.outside b) undefined o q r i j k = tt
clamp_told p (numbers.outside a) (numbers.outside b) (numbers.inside c) o q r i j k = rw i refl
clamp_told p (numbers.outside a) (numbers.outside b) (numbers.outside c) o q r i j k = rw i refl

-- ---- rows

pub sum_told : (g : Figure) (gs : List Figure) (o : Option Calc) (os : List (Option Calc)) → Told (g ∷ gs) (o ∷ os) → Tells number (fold numbers.added (numbers.inside zero_ratio) (g ∷ gs)) (option_map (one_or Sum) (row_within joining.Sum (o ∷ os)))
sum_told g gs o os h =
    one_told Sum _ _ (row_told one (with_simple joining.Sum) figure_of add sum_both gs os _ _
    (first_told one (with_simple joining.Sum) [] add zero_ratio (λ b. add_comm zero_ratio b ∙ add_zero b) (λ b k. sum_begins b) g o h.0) h.1)

pub product_told : (g : Figure) (gs : List Figure) (o : Option Calc) (os : List (Option Calc)) → Told (g ∷ gs) (o ∷ os) → Tells number (fold numbers.multiplied (numbers.inside one_ratio) (g ∷ gs)) (option_and_then shown (factors_within (o ∷ os)))
product_told g gs o os h =
    alone_told _ _ (row_told factor_alone with_child figure_of mul product_both gs os _ _
    (first_told factor_alone with_child (Plain []) mul one_ratio (λ b. mul_comm_ratio one_ratio b ∙ mul_one b) product_begins g o h.0) h.1)

chosen_first : (how : Joining) (step : List Calc → Calc → Option (List Calc)) → ((b : Ratio) → step [] (number b) ≡ Some (one b)) → (g : Figure) (o : Option Calc) → Tells number g o → Tells one g (further step (Some []) o)
chosen_first how step begins measured o h = tt
chosen_first how step begins undefined o h = tt
chosen_first how step begins (numbers.inside b) o h = (ap (further step (Some [])) h.0 ∙ begins b, h.1)
chosen_first how step begins (numbers.outside b) o h = ap (further step (Some [])) h

pub min_told : (p : Bool) (gs : List Figure) (os : List (Option Calc)) → Told gs os → Tells number (chosen numbers.least gs) (option_map (one_or Min) (row_within (joining.Least p) os))
min_told p [] os h = tt
min_told p (g ∷ gs) [] h = absurd h
min_told p (g ∷ gs) (o ∷ os) h =
    one_told Min _ _ (row_told one (with_simple (joining.Least p)) numbers.inside lesser (least_both p) gs os _ _
    (chosen_first (joining.Least p) (with_simple (joining.Least p)) (number_first (joining.Least p)) g o h.0) h.1)

pub max_told : (p : Bool) (gs : List Figure) (os : List (Option Calc)) → Told gs os → Tells number (chosen numbers.greatest gs) (option_map (one_or Max) (row_within (joining.Greatest p) os))
max_told p [] os h = tt
max_told p (g ∷ gs) [] h = absurd h
max_told p (g ∷ gs) (o ∷ os) h =
    one_told Max _ _ (row_told one (with_simple (joining.Greatest p)) numbers.inside greater (greatest_both p) gs os _ _
    (chosen_first (joining.Greatest p) (with_simple (joining.Greatest p)) (number_first (joining.Greatest p)) g o h.0) h.1)
