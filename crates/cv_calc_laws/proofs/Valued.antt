-- A linear calculation of which no divisor is refused has a value.
use Rattle.std.specs.Prelude.{Bool, true, false, ◌&&◌, pos, negsuc, ℤ, List, [], ◌∷◌, ◌++◌, map, fold, length, Option, Some, None, option_map, if◌then◌else◌}
use Rattle.std.specs.Option.{option_and_then}
use Rattle.std.specs.Ordering.{int_eq}
use Rattle.std.proofs.Common.{◌≡◌, ◌≤◌, refl, sym, ◌∙◌, ap, ap₂, subst, ℕ, zero, suc, arith}
use Rattle.cv_spec_ratio.specs.Ratio.{Ratio, add, mul, neg, reciprocal, reciprocal_by, zero_ratio, one_ratio}
use Rattle.cv_spec_ratio.specs.Order.{lesser, greater}
use Rattle.cv_exact.specs.Zero.{is_zero}
use Rattle.cv_calc.specs.declared.unit.Base.{Base}
use Rattle.cv_calc.specs.declared.unit.NumType.{NumType}
use Rattle.cv_calc.specs.declared.calc.Calc.{Calc}
use Rattle.cv_calc.specs.declared.calc.Calc.TheVariants.{Invert, Clamp}
use Rattle.cv_calc.specs.Linear.{shape, added_shape, sum_shape, product_shape, inverted_shape, kinds, all_fit, one_measured, is_plain}
use Rattle.cv_calc.specs.Numbers.{Figure, measured, undefined, inside, outside, figure}
use Rattle.cv_calc.specs.Tree.{Each, by_cases}
use Rattle.cv_calc.specs.Types.{added_next, multiplied_next, no_powers, shared_hint, product_type, product_under, negated}
use Rattle.cv_calc.specs.Value.{Meaning, unit_value, value, both, sum_of, product_of, chosen_of, inverse_of}
use Rattle.cv_calc.proofs.Shapes.{shape-Sum, shape-Product, shape-Negate, shape-Invert, shape-Min, shape-Max, shape-Clamp}
use Rattle.cv_calc.proofs.Told.{figures_are_values}
use Rattle.cv_calc.proofs.Values.{value-Num, value-Sum, value-Negate, value-Invert}
use Rattle.cv_calcread.specs.Answer.{divisor_place, is_marked}
use Rattle.cv_calcread.specs.Figures.{Evaluated, evaluated, mark_of, with_part, begun_with, chosen_next, or_undefined, chosen_of as evaluated_choice, divided}
use Rattle.cv_calcread.specs.declared.figure.Joining.{Joining}
use Rattle.cv_calcread.specs.declared.figure.Joining.TheVariants.{Add, Multiply, Least, Greatest}
use Rattle.cv_calcread.specs.declared.figure.Mark.{Mark}
use Rattle.cv_calcread.specs.declared.figure.Mark.TheVariants.{Fine, Far, Null}
use Rattle.cv_calcread.proofs.Evaluations.{evaluated-Sum, evaluated-Product, evaluated-Negate, evaluated-Invert, evaluated-Min, evaluated-Max, evaluated-Clamp}
use Rattle.cv_calcread.proofs.Judged.{divisors_are_judged}
use Rattle.cv_calc_laws.proofs.Lists.{Every, none_some, false_true, and_both, from_bound}
use Rattle.cv_calc_laws.proofs.UnitTypes.{plain_is}
use Rattle.cv_calc_laws.proofs.Factors.{Shape, plain}
use Rattle.cv_calc_laws.proofs.Defined.{HasValue, value-Product, value-Min, value-Max, value-Clamp}
use Rattle.cv_calc_laws.proofs.Measured.{not_measured, IsFigured}

-- ---- divisors that aren't refused

abbrev IsFine : Mark → Type 0
IsFine m = m ≡ Fine

pub fine_mark : (m : Mark) → is_marked Null m ≡ false → is_marked Far m ≡ false → IsFine m
fine_mark Fine h k = refl
fine_mark Far h k = absurd (false_true (sym k))
fine_mark Null h k = absurd (false_true (sym h))

none_passes : (passes : Mark → Bool) (ms : List Mark) (places : List ℕ) → length ms ≤ length places → divisor_place passes ms places ≡ None → Every (λ m. passes m ≡ false) ms
unfolding divisor_place
none_passes passes [] places h e = tt
none_passes passes (m ∷ ms) [] h e = absurd (omega arith)
none_passes passes (m ∷ ms) (n ∷ ns) h e = go (passes m) refl e (λ f. none_passes passes ms ns (omega arith) f)
  where
    go : (b : Bool) → passes m ≡ b → (if b then Some n else divisor_place passes ms ns) ≡ None → (divisor_place passes ms ns ≡ None → Every (λ m. passes m ≡ false) ms) → Every (λ m. passes m ≡ false) (m ∷ ms)
    go true is e more = absurd (none_some n (sym e))
    go false is e more = (is, more e)

fine_marks : (ms : List Mark) → Every (λ m. is_marked Null m ≡ false) ms → Every (λ m. is_marked Far m ≡ false) ms → Every IsFine ms
fine_marks [] h k = tt
fine_marks (m ∷ ms) h k = (fine_mark m h.0 k.0, fine_marks ms h.1 k.1)

pub all_fine : (ms : List Mark) (places : List ℕ) → length ms ≤ length places → divisor_place (is_marked Null) ms places ≡ None → divisor_place (is_marked Far) ms places ≡ None → Every IsFine ms
all_fine ms places h null far = fine_marks ms (none_passes (is_marked Null) ms places h null) (none_passes (is_marked Far) ms places h far)

abbrev AreFine : Evaluated → Type 0
AreFine e = Every IsFine e.marks

parted : (ms ns : List Mark) → Every IsFine (ms ++ ns) → Every IsFine ms × Every IsFine ns
parted [] ns h = (tt, h)
parted (m ∷ ms) ns h = let (first, rest) = parted ms ns h.1 in ((h.0, first), rest)

parts_fine : (j : Joining) (a : Evaluated) (es : List Evaluated) → AreFine (fold (with_part j) a es) → AreFine a × Every AreFine es
parts_fine j a [] h = (h, tt)
parts_fine j a (e ∷ es) h =
    let (both, rest) = parts_fine j (with_part j a e) es h in
    let (first, second) = parted a.marks e.marks both in
    (first, (second, rest))

chosen_is : (j : Joining) (e : Evaluated) (es : List Evaluated) → fold (chosen_next j) (Some e) es ≡ Some (fold (with_part j) e es)
chosen_is j e [] = refl
chosen_is j e (d ∷ es) = chosen_is j (with_part j e d) es

chosen_fine : (j : Joining) (es : List Evaluated) → AreFine (evaluated_choice j es) → Every AreFine es
chosen_fine j [] h = tt
chosen_fine j (e ∷ es) h = parts_fine j e es (subst (λ o. AreFine (or_undefined o)) (chosen_is j e es) h)

-- ---- parts that have a type and fit

abbrev pub HasKind : Option NumType → Type 0
HasKind o = (t : NumType) × (o ≡ Some t)

abbrev pub Fits : Shape → Type 0
Fits s = HasKind s.kind × (s.fits ≡ true)

added_kinds : (o p : Option NumType) → HasKind (added_next o p) → HasKind o × HasKind p
added_kinds None p h = absurd (none_some h.0 h.1)
added_kinds (Some s) None h = absurd (none_some h.0 h.1)
added_kinds (Some s) (Some t) h = ((s, refl), (t, refl))

pub terms_fit : (s : Shape) (ss : List Shape) → Fits (fold added_shape s ss) → Fits s × Every Fits ss
terms_fit s [] h = (h, tt)
terms_fit s (t ∷ ts) h =
    let (both, rest) = terms_fit (added_shape s t) ts h in
    let (first, second) = added_kinds s.kind t.kind both.0 in
    let (a, b) = and_both s.fits t.fits both.1 in
    ((first, a), ((second, b), rest))

pub sum_fits : (ss : List Shape) → Fits (sum_shape ss) → Every Fits ss
unfolding sum_shape
sum_fits [] h = tt
sum_fits (s ∷ ss) h = let (first, rest) = terms_fit s ss h in (first, rest)

multiplied_kinds : (h : Option Base) (o p : Option NumType) (w : NumType) → multiplied_next h o p ≡ Some w → HasKind o × HasKind p
multiplied_kinds h None p w e = absurd (none_some w e)
multiplied_kinds h (Some s) None w e = absurd (none_some w e)
multiplied_kinds h (Some s) (Some t) w e = ((s, refl), (t, refl))

factor_kinds : (h : Option Base) (o : Option NumType) (ts : List (Option NumType)) (w : NumType) → fold (multiplied_next h) o ts ≡ Some w → HasKind o × Every HasKind ts
factor_kinds h o [] w e = ((w, e), tt)
factor_kinds h o (t ∷ ts) w e =
    let (next, rest) = factor_kinds h (multiplied_next h o t) ts w e in
    let (first, here) = multiplied_kinds h o t next.0 next.1 in
    (first, (here, rest))

all_parts : (ss : List Shape) → Every HasKind (kinds ss) → all_fit ss ≡ true → Every Fits ss
unfolding all_fit
all_parts [] h k = tt
all_parts (s ∷ ss) h k = let (first, rest) = and_both s.fits (all_fit ss) k in ((h.0, first), all_parts ss h.1 rest)

pub product_fits : (ss : List Shape) → Fits (product_shape ss) → Every Fits ss
unfolding product_shape product_type product_under
product_fits [] h = tt
product_fits (s ∷ ss) h =
    let (hint, first, next) = from_bound (product_under (kinds (s ∷ ss))) (shared_hint (kinds (s ∷ ss))) h.0.0 h.0.1 in
    let (start, rest) = factor_kinds hint (Some (no_powers hint)) (kinds (s ∷ ss)) h.0.0 next in
    all_parts (s ∷ ss) rest (and_both (all_fit (s ∷ ss)) (one_measured (s ∷ ss)) h.1).0

negated_kind : (o : Option NumType) → HasKind (option_and_then negated o) → HasKind o
negated_kind None h = absurd (none_some h.0 h.1)
negated_kind (Some t) h = (t, refl)

-- ---- values that are there

both_valued : (f : Ratio → Ratio → Ratio) (o p : Option Ratio) → HasValue o → HasValue p → HasValue (both f o p)
both_valued f o p (a, h) (b, k) = (f a b, ap₂ (both f) h k)

sum_valued : (os : List (Option Ratio)) → Every HasValue os → HasValue (sum_of os)
sum_valued [] h = (zero_ratio, refl)
sum_valued (o ∷ os) h = both_valued add o (sum_of os) h.0 (sum_valued os h.1)

product_valued : (os : List (Option Ratio)) → Every HasValue os → HasValue (product_of os)
product_valued [] h = (one_ratio, refl)
product_valued (o ∷ os) h = both_valued mul o (product_of os) h.0 (product_valued os h.1)

chosen_valued : (f : Ratio → Ratio → Ratio) (o : Option Ratio) (os : List (Option Ratio)) → Every HasValue (o ∷ os) → HasValue (chosen_of f (o ∷ os))
chosen_valued f o [] h = h.0
chosen_valued f o (p ∷ os) h = both_valued f o (chosen_of f (p ∷ os)) h.0 (chosen_valued f p os h.1)

reciprocal_valued : (t : ℤ) (q : ℕ) → int_eq t (pos 0) ≡ false → HasValue (reciprocal_by t q)
unfolding reciprocal_by
reciprocal_valued (pos zero) q h = absurd (false_true (sym h))
reciprocal_valued (pos (suc p)) q h = (_, refl)
reciprocal_valued (negsuc p) q h = (_, refl)

fine_not_zero : (r : Ratio) → IsFine (mark_of (inside r)) → is_zero r ≡ false
fine_not_zero r e = go (is_zero r) e
  where
    go : (b : Bool) → IsFine (if b then Null else Fine) → b ≡ false
    go true e = cc
    go false e = refl

far_not_fine : (r : Ratio) → IsFine (mark_of (outside r)) → ⊥
far_not_fine r e = cc

inverse_valued : (m : Meaning) (c : Calc) (g : Figure) → figure c ≡ g → IsFigured g → HasValue (value m c) → IsFine (mark_of g) → HasValue (inverse_of (value m c))
unfolding reciprocal
inverse_valued m c measured e k h f = absurd k
inverse_valued m c undefined e k h f = absurd (none_some h.0 (sym (figures_are_values.undefined_is c e m) ∙ h.1))
inverse_valued m c (inside r) e k h f = subst (λ o. HasValue (inverse_of o)) (sym (figures_are_values.inside_is c r e m)) (reciprocal_valued r.top r.bottom (fine_not_zero r f))
inverse_valued m c (outside r) e k h f = absurd (far_not_fine r f)

-- ---- a tree

module _ (m : Meaning) where
  abbrev IsValued : Calc → Type 0
  IsValued c = Fits (shape c) → AreFine (evaluated c) → HasValue (value m c)

  each_valued : (cs : List Calc) → Each IsValued cs → Every Fits (map shape cs) → Every AreFine (map evaluated cs) → Every HasValue (map (value m) cs)
  each_valued [] h k l = tt
  each_valued (c ∷ cs) h k l = (h.0 k.0 l.0, each_valued cs h.1 k.1 l.1)

  no_choice : Fits (sum_shape []) → ⊥
  unfolding sum_shape
  no_choice h = none_some h.0.0 h.0.1

  choice_valued : (f : Ratio → Ratio → Ratio) (j : Joining) (cs : List Calc) → Each IsValued cs → Fits (sum_shape (map shape cs)) → AreFine (evaluated_choice j (map evaluated cs)) → HasValue (chosen_of f (map (value m) cs))
  choice_valued f j [] h k l = absurd (no_choice k)
  choice_valued f j (c ∷ cs) h k l =
      chosen_valued f (value m c) (map (value m) cs) (each_valued (c ∷ cs) h (sum_fits (map shape (c ∷ cs)) k) (chosen_fine j (map evaluated (c ∷ cs)) l))

  invert_valued : (c : Calc) → IsValued c → IsValued (Invert c)
  invert_valued c h k l =
      let inverse : Fits (inverted_shape (shape c)) = subst Fits (shape-Invert c) k in
      let marks : AreFine (divided (evaluated c)) = subst AreFine (evaluated-Invert c) l in
      let (front, numbers) = and_both ((shape c).fits && is_plain (shape c).kind) (shape c).numbers inverse.1 in
      let (fits, is) = and_both (shape c).fits (is_plain (shape c).kind) front in
      let has : HasValue (value m c) = h ((plain, plain_is (shape c).kind is), fits) marks.1 in
      subst HasValue (sym (value-Invert m c))
      (inverse_valued m c (figure c) refl (not_measured c numbers) has (subst (λ g. IsFine (mark_of g)) (divisors_are_judged.figure_is c) marks.0))

  clamp_valued : (a b c : Calc) → IsValued a → IsValued b → IsValued c → IsValued (Clamp a b c)
  clamp_valued a b c h k l fits fine =
      let (first, rest) = terms_fit (shape a) (shape b ∷ shape c ∷ []) (subst Fits (shape-Clamp a b c) fits) in
      let (low, others) = parted (evaluated a).marks ((evaluated b).marks ++ (evaluated c).marks) (subst AreFine (evaluated-Clamp a b c) fine) in
      let (middle, high) = parted (evaluated b).marks (evaluated c).marks others in
      subst HasValue (sym (value-Clamp m a b c))
      (both_valued greater (value m a) (both lesser (value m b) (value m c)) (h first low) (both_valued lesser (value m b) (value m c) (k rest.0 middle) (l rest.1.0 high)))

  pub every_valued : (c : Calc) → IsValued c
  every_valued = by_cases IsValued record {
    num = λ v u k l. (mul v (unit_value m u), value-Num m v u);
    sum = λ cs h k l. subst HasValue (sym (value-Sum m cs)) (sum_valued (map (value m) cs) (each_valued cs h (sum_fits (map shape cs) (subst Fits (shape-Sum cs) k)) (parts_fine Add (begun_with zero_ratio) (map evaluated cs) (subst AreFine (evaluated-Sum cs) l)).1));
    product = λ cs h k l. subst HasValue (sym (value-Product m cs)) (product_valued (map (value m) cs) (each_valued cs h (product_fits (map shape cs) (subst Fits (shape-Product cs) k)) (parts_fine Multiply (begun_with one_ratio) (map evaluated cs) (subst AreFine (evaluated-Product cs) l)).1));
    negate = λ c h k l. let has : HasValue (value m c) = h (subst Fits (shape-Negate c) k) (subst AreFine (evaluated-Negate c) l) in (neg has.0, value-Negate m c ∙ ap (option_map neg) has.1);
    invert = invert_valued;
    min = λ cs h k l. subst HasValue (sym (value-Min m cs)) (choice_valued lesser Least cs h (subst Fits (shape-Min cs) k) (subst AreFine (evaluated-Min cs) l));
    max = λ cs h k l. subst HasValue (sym (value-Max m cs)) (choice_valued greater Greatest cs h (subst Fits (shape-Max cs) k) (subst AreFine (evaluated-Max cs) l));
    clamp = clamp_valued;
  }
