-- What has its fractions in bounds has them in bounds when it is negated, inverted, compared or clamped.
use Rattle.std.specs.Prelude.{Bool, true, false, ◌&&◌, nat_lt, neg_ℤ, unsigned_abs, List, [], ◌∷◌, Option, Some, None, if◌then◌else◌}
use Rattle.std.proofs.Common.{◌≡◌, ℕ, zero, suc, ◌<◌, ◌^◌, ℤ, pos, negsuc, refl, sym, ◌∙◌, ap, ap₂, arith}
use Rattle.cv_spec_ratio.specs.Gcd.{gcd}
use Rattle.cv_spec_ratio.specs.Ratio.{Ratio, ratio, neg, reciprocal, reciprocal_by}
use Rattle.cv_spec_ratio.specs.Order.{lesser, greater, at_most}
use Rattle.cv_spec_ratio.specs.Code.{top_kept, bottom_kept}
use Rattle.cv_spec_ratio.proofs.Gcd.{gcd_comm}
use Rattle.cv_frac.specs.Bounded.{in_bounds}
use Rattle.cv_calc.specs.declared.unit.Unit as units
use Rattle.cv_calc.specs.declared.unit.Unit.TheVariants.{Number}
use Rattle.cv_calc.specs.declared.calc.Calc.{Calc}
use Rattle.cv_calc.specs.declared.calc.Calc.TheVariants as tree
use Rattle.cv_calc.specs.declared.calc.Calc.TheOpen.{Calc-F, Num, Negate, Invert}
use Rattle.cv_calc.specs.declared.calc.Calc.TheViews.{out-Calc, roll-Calc, roll-out-Calc}
use Rattle.cv_calc.specs.Unit.{same_unit}
use Rattle.cv_simplify.specs.Counted.{inside, all_inside}
use Rattle.cv_simplify.specs.Simplified.{joined_as, joined_by, join_first, with_child, negated, negated_as, inverse_or, inverted, inverted_as, may_compare, number_clamped_as, number_clamped, clamped_as, clamped}
use Rattle.cv_simplify.proofs.InRange.{inside-roll, inside-Num, inside-Negate, inside-Invert, inside-Clamp, and_true, both_true}

-- ---- fractions

negative_size : (t : ℤ) → unsigned_abs (neg_ℤ t) ≡ unsigned_abs t
negative_size (pos zero) = refl
negative_size (pos (suc n)) = refl
negative_size (negsuc n) = refl

abbrev small : ℕ → Bool
small n = nat_lt n (2 ^ 63)

negative_in : (v : Ratio) → in_bounds (neg v) ≡ in_bounds v
unfolding neg
negative_in v =
    let low : gcd (unsigned_abs (neg_ℤ v.top)) v.bottom ≡ 1 = ap (λ n. gcd n v.bottom) (negative_size v.top) ∙ v.lowest in
    ap₂ (λ t b. small (unsigned_abs t) && small b) (top_kept (neg_ℤ v.top) v.bottom v.positive low) (bottom_kept (neg_ℤ v.top) v.bottom v.positive low)
    ∙ ap (λ n. small n && small v.bottom) (negative_size v.top)

swapped : (a b : Bool) → (a && b) ≡ true → (b && a) ≡ true
swapped true b h = both_true b true h refl
swapped false b h = cc

turned_in : (t : ℤ) (q p : ℕ) → unsigned_abs t ≡ q → 0 < p → gcd p q ≡ 1 → (small p && small q) ≡ true → in_bounds (ratio t p) ≡ true
turned_in t q p size above low h =
    let turned : gcd (unsigned_abs t) p ≡ 1 = ap (λ n. gcd n p) size ∙ gcd_comm q p ∙ low in
    ap₂ (λ s b. small (unsigned_abs s) && small b) (top_kept t p above turned) (bottom_kept t p above turned)
    ∙ ap (λ n. small n && small p) size ∙ swapped (small p) (small q) h

reciprocal_in : (t : ℤ) (q : ℕ) → gcd (unsigned_abs t) q ≡ 1 → (small (unsigned_abs t) && small q) ≡ true → (s : Ratio) → reciprocal_by t q ≡ Some s → in_bounds s ≡ true
unfolding reciprocal_by
reciprocal_in (pos zero) q low h s is = cc
reciprocal_in (pos (suc p)) q low h s is =
    let made : ratio (pos q) (suc p) ≡ s = cc in
    ap in_bounds (sym made) ∙ turned_in (pos q) q (suc p) refl (omega arith) low h
reciprocal_in (negsuc p) q low h s is =
    let made : ratio (neg_ℤ (pos q)) (suc p) ≡ s = cc in
    ap in_bounds (sym made) ∙ turned_in (neg_ℤ (pos q)) q (suc p) (negative_size (pos q)) (omega arith) low h

inverse_in : (v s : Ratio) → in_bounds v ≡ true → reciprocal v ≡ Some s → in_bounds s ≡ true
unfolding reciprocal
inverse_in v s h is = reciprocal_in v.top v.bottom v.lowest h s is

pub chosen_in : (b : Bool) (v w : Ratio) → in_bounds v ≡ true → in_bounds w ≡ true → in_bounds (if b then v else w) ≡ true
chosen_in true v w h k = h
chosen_in false v w h k = k

pub lesser_in : (v w : Ratio) → in_bounds v ≡ true → in_bounds w ≡ true → in_bounds (lesser v w) ≡ true
lesser_in v w h k = chosen_in (at_most v w) v w h k

pub greater_in : (v w : Ratio) → in_bounds v ≡ true → in_bounds w ≡ true → in_bounds (greater v w) ≡ true
greater_in v w h k = chosen_in (at_most v w) w v k h

-- ---- a sign and an inverse

number_in_bounds : (v : Ratio) (u : units.Unit) (d : Calc) → roll-Calc (Num v u) ≡ d → inside d ≡ true → in_bounds v ≡ true
number_in_bounds v u d p h = sym (inside-roll (Num v u)) ∙ ap inside p ∙ h

negated_inside_as : (d : Calc) (l : Calc-F Calc) → roll-Calc l ≡ d → inside d ≡ true → inside (negated_as d l) ≡ true
negated_inside_as d (Num v u) p h = inside-Num (neg v) u ∙ negative_in v ∙ number_in_bounds v u d p h
negated_inside_as d (Negate c) p h = sym (inside-roll (Negate c)) ∙ ap inside p ∙ h
negated_inside_as d _ p h = inside-Negate d ∙ h

pub inside_negated : (c : Calc) → inside c ≡ true → inside (negated c) ≡ true
inside_negated c h = negated_inside_as c (out-Calc c) (roll-out-Calc c) h

inverse_inside : (d : Calc) (v : Ratio) (o : Option Ratio) → reciprocal v ≡ o → in_bounds v ≡ true → inside d ≡ true → inside (inverse_or d o) ≡ true
inverse_inside d v (Some r) is k h = inside-Num r Number ∙ inverse_in v r k is
inverse_inside d v None is k h = inside-Invert d ∙ h

inverted_inside_as : (d : Calc) (l : Calc-F Calc) → roll-Calc l ≡ d → inside d ≡ true → inside (inverted_as d l) ≡ true
inverted_inside_as d (Num v Number) p h = inverse_inside d v (reciprocal v) refl (number_in_bounds v Number d p h) h
inverted_inside_as d (Invert c) p h = sym (inside-roll (Invert c)) ∙ ap inside p ∙ h
inverted_inside_as d _ p h = inside-Invert d ∙ h

pub inside_inverted : (c : Calc) → inside c ≡ true → inside (inverted c) ≡ true
inside_inverted c h = inverted_inside_as c (out-Calc c) (roll-out-Calc c) h

-- ---- limits

number_clamped_in : (p : Bool) (a b c : Calc) (k l m : Calc-F Calc) → roll-Calc k ≡ a → roll-Calc l ≡ b → roll-Calc m ≡ c →
    inside a ≡ true → inside b ≡ true → inside c ≡ true → (r : Ratio × units.Unit) → number_clamped_as p k l m ≡ Some r → in_bounds r.0 ≡ true
number_clamped_in p a b c (Num v u) (Num w t) (Num z s) ka lb mc ha hb hc r is = go (same_unit u t && same_unit u s && may_compare p u) is
  where
    go : (q : Bool) → (if q then Some (greater v (lesser w z), u) else None) ≡ Some r → in_bounds r.0 ≡ true
    go true is =
        let made : (greater v (lesser w z), u) ≡ r = cc in
        ap (λ (s : Ratio × units.Unit). in_bounds s.0) (sym made)
        ∙ greater_in v (lesser w z) (number_in_bounds v u a ka ha) (lesser_in w z (number_in_bounds w t b lb hb) (number_in_bounds z s c mc hc))
    go false is = cc
number_clamped_in p a b c (Num v u) (Num w t) _ ka lb mc ha hb hc r is = cc
number_clamped_in p a b c (Num v u) _ m ka lb mc ha hb hc r is = cc
number_clamped_in p a b c _ l m ka lb mc ha hb hc r is = cc

pub inside_clamped : (p : Bool) (a b c : Calc) → inside a ≡ true → inside b ≡ true → inside c ≡ true → inside (clamped p a b c) ≡ true
inside_clamped p a b c ha hb hc = go (number_clamped p a b c) refl
  where
    go : (o : Option (Ratio × units.Unit)) → number_clamped p a b c ≡ o → inside (clamped_as o a b c) ≡ true
    go (Some r) is = inside-Num r.0 r.1 ∙ number_clamped_in p a b c (out-Calc a) (out-Calc b) (out-Calc c) (roll-out-Calc a) (roll-out-Calc b) (roll-out-Calc c) ha hb hc r is
    go None is = inside-Clamp a b c ∙ both_true (inside a && inside b) (inside c) (both_true (inside a) (inside b) ha hb) hc

-- ---- rows in which one of two numbers stays

module _ (may : units.Unit → Bool) (f : Ratio → Ratio → Ratio) (keeps : (v w : Ratio) → in_bounds v ≡ true → in_bounds w ≡ true → in_bounds (f v w) ≡ true) where
  joined_inside : (c d e : Calc) (k l : Calc-F Calc) → roll-Calc k ≡ c → roll-Calc l ≡ d → inside c ≡ true → inside d ≡ true → joined_as may f k l ≡ Some e → inside e ≡ true
  joined_inside c d e (Num v u) (Num w t) p q h k is = go (same_unit u t && may u) is
    where
      go : (b : Bool) → (if b then Some (tree.Num (f v w) u) else None) ≡ Some e → inside e ≡ true
      go true is =
          let made : tree.Num (f v w) u ≡ e = cc in
          ap inside (sym made) ∙ inside-Num (f v w) u ∙ keeps v w (number_in_bounds v u c p h) (number_in_bounds w t d q k)
      go false is = cc
  joined_inside c d e (Num v u) _ p q h k is = cc
  joined_inside c d e _ _ p q h k is = cc

  pub chosen_row : (row : List Calc) (d : Calc) → all_inside row ≡ true → inside d ≡ true → all_inside (with_child (joined_by may f) row d) ≡ true
  chosen_row [] d h k = both_true (inside d) true k refl
  chosen_row (c ∷ cs) d h k =
      let parts = and_true (inside c) (all_inside cs) h in
      go (joined_by may f c d) refl parts.0 parts.1 (chosen_row cs d parts.1 k)
    where
      go : (o : Option Calc) → joined_by may f c d ≡ o → inside c ≡ true → all_inside cs ≡ true → all_inside (with_child (joined_by may f) cs d) ≡ true →
          all_inside (join_first o c cs (with_child (joined_by may f) cs d)) ≡ true
      go (Some e) is first rest more = both_true (inside e) (all_inside cs) (joined_inside c d e (out-Calc c) (out-Calc d) (roll-out-Calc c) (roll-out-Calc d) first k is) rest
      go None is first rest more = both_true (inside c) _ first more
