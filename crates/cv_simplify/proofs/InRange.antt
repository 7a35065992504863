-- What is made step by step is the simplified form exactly where the calculation is in range.
use Rattle.std.specs.Prelude.{Bool, true, false, ◌&&◌, List, [], ◌∷◌, Option, Some, None, option_map, if◌then◌else◌}
use Rattle.std.proofs.Common.{◌≡◌, refl, sym, ◌∙◌, ap}
use Rattle.cv_spec_ratio.specs.Ratio.{Ratio}
use Rattle.cv_spec_ratio.specs.Order.{lesser, greater, at_most}
use Rattle.cv_frac.specs.Bounded.{in_bounds}
use Rattle.cv_calc.specs.declared.unit.Unit as units
use Rattle.cv_calc.specs.declared.calc.Calc.{Calc}
use Rattle.cv_calc.specs.declared.calc.Calc.TheVariants as tree
use Rattle.cv_calc.specs.declared.calc.Calc.TheOpen.{Calc-F, Num, Sum, Product, Negate, Invert, Min, Max, Clamp}
use Rattle.cv_calc.specs.declared.calc.Calc.TheViews.{out-Calc, roll-Calc, roll-out-Calc}
use Rattle.cv_calc.specs.declared.calc.Calc.TheFolds.{fold-roll-Calc, map-Calc}
use Rattle.cv_calc.specs.Tree.{fold-Num, fold-Sum, fold-Product, fold-Negate, fold-Invert, fold-Min, fold-Max, fold-Clamp}
use Rattle.cv_calc.specs.Unit.{same_unit}
use Rattle.cv_simplify.specs.declared.joining.Joining.{Joining}
use Rattle.cv_simplify.specs.declared.joining.Joining.TheVariants as joining
use Rattle.cv_simplify.specs.declared.joining.Joined.{Joined}
use Rattle.cv_simplify.specs.declared.joining.Joined.TheVariants.{Apart, Outside, One}
use Rattle.cv_simplify.specs.Counted.{inside, inside_step, all_inside}
use Rattle.cv_simplify.specs.Simplified.{joined_as, joined_by, join_first, with_child}
use Rattle.cv_simplify.specs.Checked.{only_if, within, may_join, joined_number, number_joined, one_number, joined_as_within, joined_within, term_first, with_term}

-- ---- the fractions of a tree

pub inside-roll : (l : Calc-F Calc) → inside (roll-Calc l) ≡ inside_step (map-Calc Calc Bool inside l)
unfolding inside
inside-roll l = fold-roll-Calc Bool inside_step l

pub inside-Num : (v : Ratio) (u : units.Unit) → inside (tree.Num v u) ≡ in_bounds v
unfolding inside
inside-Num v u = fold-Num inside_step v u

pub inside-Sum : (cs : List Calc) → inside (tree.Sum cs) ≡ all_inside cs
unfolding inside
inside-Sum cs = fold-Sum inside_step cs

pub inside-Product : (cs : List Calc) → inside (tree.Product cs) ≡ all_inside cs
unfolding inside
inside-Product cs = fold-Product inside_step cs

pub inside-Negate : (c : Calc) → inside (tree.Negate c) ≡ inside c
unfolding inside
inside-Negate c = fold-Negate inside_step c

pub inside-Invert : (c : Calc) → inside (tree.Invert c) ≡ inside c
unfolding inside
inside-Invert c = fold-Invert inside_step c

pub inside-Min : (cs : List Calc) → inside (tree.Min cs) ≡ all_inside cs
unfolding inside
inside-Min cs = fold-Min inside_step cs

pub inside-Max : (cs : List Calc) → inside (tree.Max cs) ≡ all_inside cs
unfolding inside
inside-Max cs = fold-Max inside_step cs

pub inside-Clamp : (a b c : Calc) → inside (tree.Clamp a b c) ≡ (inside a && inside b && inside c)
unfolding inside
inside-Clamp a b c = fold-Clamp inside_step a b c

-- ---- tests

pub and_true : (b d : Bool) → (b && d) ≡ true → (b ≡ true) × (d ≡ true)
and_true true d h = (refl, h)
and_true false d h = cc

pub both_true : (b d : Bool) → b ≡ true → d ≡ true → (b && d) ≡ true
both_true true d h k = k
both_true false d h k = cc

pub option_only_if : {A B : Type 0} (f : A → B) (b : Bool) (a : A) → option_map f (only_if b a) ≡ only_if b (f a)
option_only_if f true a = refl
option_only_if f false a = refl

-- ---- two calculations that are joined

abbrev pub join_of : Joining → Calc → Calc → Option Calc
join_of how = joined_by (may_join how) (joined_number how)

abbrev checked_join : Option Calc → Joined
checked_join None = Apart
checked_join (Some e) = if inside e then One e else Outside

chosen_in : (b : Bool) (v w : Ratio) → in_bounds v ≡ true → in_bounds w ≡ true → in_bounds (if b then v else w) ≡ true
chosen_in true v w h k = h
chosen_in false v w h k = k

joined_in : (how : Joining) (v w : Ratio) → in_bounds v ≡ true → in_bounds w ≡ true → number_joined how v w ≡ within (joined_number how v w)
joined_in joining.Sum v w h k = refl
joined_in (joining.Least p) v w h k = sym (ap (λ b. only_if b (lesser v w)) (chosen_in (at_most v w) v w h k))
joined_in (joining.Greatest p) v w h k = sym (ap (λ b. only_if b (greater v w)) (chosen_in (at_most v w) w v k h))

joined_checked_as : (how : Joining) (k l : Calc-F Calc) → inside (roll-Calc k) ≡ true → inside (roll-Calc l) ≡ true →
    joined_as_within how k l ≡ checked_join (joined_as (may_join how) (joined_number how) k l)
joined_checked_as how (Num v u) (Num w t) h k = go (same_unit u t && may_join how u)
  where
    z : Ratio
    z = joined_number how v w

    one : (b : Bool) → in_bounds z ≡ b → one_number u (only_if b z) ≡ (if b then One (tree.Num z u) else Outside)
    one true is = refl
    one false is = refl

    go : (b : Bool) → (if b then one_number u (number_joined how v w) else Apart) ≡ checked_join (if b then Some (tree.Num z u) else None)
    go true =
        ap (one_number u) (joined_in how v w (sym (inside-roll (Num v u)) ∙ h) (sym (inside-roll (Num w t)) ∙ k))
        ∙ one (in_bounds z) refl ∙ sym (ap (λ b. if b then One (tree.Num z u) else Outside) (inside-Num z u))
    go false = refl
joined_checked_as how (Num v u) (Sum cs) h k = refl
joined_checked_as how (Num v u) (Product cs) h k = refl
joined_checked_as how (Num v u) (Negate c) h k = refl
joined_checked_as how (Num v u) (Invert c) h k = refl
joined_checked_as how (Num v u) (Min cs) h k = refl
joined_checked_as how (Num v u) (Max cs) h k = refl
joined_checked_as how (Num v u) (Clamp a b c) h k = refl
joined_checked_as how (Sum cs) l h k = refl
joined_checked_as how (Product cs) l h k = refl
joined_checked_as how (Negate c) l h k = refl
joined_checked_as how (Invert c) l h k = refl
joined_checked_as how (Min cs) l h k = refl
joined_checked_as how (Max cs) l h k = refl
joined_checked_as how (Clamp a b c) l h k = refl

joined_checked : (how : Joining) (c d : Calc) → inside c ≡ true → inside d ≡ true → joined_within how c d ≡ checked_join (join_of how c d)
joined_checked how c d h k =
    joined_checked_as how (out-Calc c) (out-Calc d) (ap inside (roll-out-Calc c) ∙ h) (ap inside (roll-out-Calc d) ∙ k)

-- ---- a term and a row

module _ (how : Joining) where
  abbrev pub further_row : List Calc → Calc → List Calc
  further_row = with_child (join_of how)

  pub term_checked : (row : List Calc) (d : Calc) → all_inside row ≡ true → inside d ≡ true → with_term how row d ≡ only_if (all_inside (further_row row d)) (further_row row d)
  unfolding with_term
  term_checked [] d h k = sym (ap (λ b. only_if (b && true) (d ∷ [])) k)
  term_checked (c ∷ cs) d h k =
      let parts = and_true (inside c) (all_inside cs) h in
      ap (λ j. term_first j c cs (with_term how cs d)) (joined_checked how c d parts.0 k)
      ∙ go (join_of how c d) parts.0 parts.1 (term_checked cs d parts.1 k)
    where
      last : (b : Bool) (ds : List Calc) → inside c ≡ true → option_map (λ es. c ∷ es) (only_if b ds) ≡ only_if (inside c && b) (c ∷ ds)
      last b ds first = option_only_if (λ es. c ∷ es) b ds ∙ ap (λ a. only_if (a && b) (c ∷ ds)) (sym first)

      one : (b : Bool) (e : Calc) → all_inside cs ≡ true → term_first (if b then One e else Outside) c cs (with_term how cs d) ≡ only_if (b && all_inside cs) (e ∷ cs)
      one true e rest = sym (ap (λ b. only_if b (e ∷ cs)) rest)
      one false e rest = refl

      go : (o : Option Calc) → inside c ≡ true → all_inside cs ≡ true → with_term how cs d ≡ only_if (all_inside (further_row cs d)) (further_row cs d) →
          term_first (checked_join o) c cs (with_term how cs d) ≡ only_if (all_inside (join_first o c cs (further_row cs d))) (join_first o c cs (further_row cs d))
      go None first rest ih = ap (option_map (λ es. c ∷ es)) ih ∙ last (all_inside (further_row cs d)) (further_row cs d) first
      go (Some e) first rest ih = one (inside e) e rest
