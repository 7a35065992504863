-- A simplified calculation holds numbers, percentages and canonical units alone.
use Rattle.std.specs.Prelude.{Bool, true, false, ◌&&◌, List, [], ◌∷◌, fold, map, Option, Some, None, option_map, if◌then◌else◌}
use Rattle.std.proofs.Common.{◌≡◌, refl, sym, ◌∙◌, ap}
use Rattle.cv_spec_ratio.specs.Ratio.{Ratio, add, mul, neg, reciprocal}
use Rattle.cv_spec_ratio.specs.Order.{lesser, greater}
use Rattle.cv_calc.specs.declared.unit.Unit as units
use Rattle.cv_calc.specs.declared.unit.Unit.TheVariants.{Number, Percent, Px}
use Rattle.cv_calc.specs.declared.context.Basis.{Basis}
use Rattle.cv_calc.specs.declared.context.Basis.TheVariants.{Plain, Length, Of}
use Rattle.cv_calc.specs.declared.context.Context.{Context}
use Rattle.cv_calc.specs.declared.calc.Calc.{Calc}
use Rattle.cv_calc.specs.declared.calc.Calc.TheVariants as tree
use Rattle.cv_calc.specs.declared.calc.Calc.TheOpen.{Calc-F, Num, Sum, Product, Negate, Invert}
use Rattle.cv_calc.specs.declared.calc.Calc.TheViews.{out-Calc, roll-Calc, roll-out-Calc}
use Rattle.cv_calc.specs.declared.calc.Calc.TheFolds.{fold-roll-Calc, map-Calc}
use Rattle.cv_calc.specs.Factor.{canonical}
use Rattle.cv_calc.specs.Unit.{same_unit}
use Rattle.cv_calc.specs.Tree.{Each, by_cases, fold-Num, fold-Sum, fold-Product, fold-Negate, fold-Invert, fold-Min, fold-Max, fold-Clamp}
use Rattle.cv_simplify.specs.Canonical.{is_canonical, all_canonical, canonical_step, holds_canonical}
use Rattle.cv_simplify.specs.Simplified.{percent_in, number_in, negated_as, inverse_or, inverted_as, joined_as, joined_by, join_first, with_child, one_or, any_unit, terms_as, terms_of, with_terms_of, factors_as, factors_of, is_number, with_factors_of, scaled_term, both_terms, scaled_terms, scaled_as, number_of, scaled_pair, or_else, product_as, compares_percent, may_compare, number_clamped_as, number_clamped, clamped_as, simp, simp_step}
use Rattle.cv_simplify.proofs.InRange.{and_true, both_true}

pub canonical-roll : (l : Calc-F Calc) → holds_canonical (roll-Calc l) ≡ canonical_step (map-Calc Calc Bool holds_canonical l)
unfolding holds_canonical
canonical-roll l = fold-roll-Calc Bool canonical_step l

pub canonical-Num : (v : Ratio) (u : units.Unit) → holds_canonical (tree.Num v u) ≡ is_canonical u
unfolding holds_canonical
canonical-Num v u = fold-Num canonical_step v u

canonical-Sum : (cs : List Calc) → holds_canonical (tree.Sum cs) ≡ all_canonical (map holds_canonical cs)
unfolding holds_canonical
canonical-Sum cs = fold-Sum canonical_step cs

canonical-Product : (cs : List Calc) → holds_canonical (tree.Product cs) ≡ all_canonical (map holds_canonical cs)
unfolding holds_canonical
canonical-Product cs = fold-Product canonical_step cs

canonical-Negate : (c : Calc) → holds_canonical (tree.Negate c) ≡ holds_canonical c
unfolding holds_canonical
canonical-Negate c = fold-Negate canonical_step c

canonical-Invert : (c : Calc) → holds_canonical (tree.Invert c) ≡ holds_canonical c
unfolding holds_canonical
canonical-Invert c = fold-Invert canonical_step c

canonical-Min : (cs : List Calc) → holds_canonical (tree.Min cs) ≡ all_canonical (map holds_canonical cs)
unfolding holds_canonical
canonical-Min cs = fold-Min canonical_step cs

canonical-Max : (cs : List Calc) → holds_canonical (tree.Max cs) ≡ all_canonical (map holds_canonical cs)
unfolding holds_canonical
canonical-Max cs = fold-Max canonical_step cs

canonical-Clamp : (a b c : Calc) → holds_canonical (tree.Clamp a b c) ≡ (holds_canonical a && holds_canonical b && holds_canonical c)
unfolding holds_canonical
canonical-Clamp a b c = fold-Clamp canonical_step a b c

abbrev pub all_hold : List Calc → Bool
all_hold cs = all_canonical (map holds_canonical cs)

-- ---- rows

joined_canonical : (may : units.Unit → Bool) (f : Ratio → Ratio → Ratio) (c d e : Calc) (k l : Calc-F Calc) → roll-Calc k ≡ c → roll-Calc l ≡ d →
    holds_canonical c ≡ true → joined_as may f k l ≡ Some e → holds_canonical e ≡ true
joined_canonical may f c d e (Num v u) (Num w t) p q h is = go (same_unit u t && may u) is
  where
    go : (b : Bool) → (if b then Some (tree.Num (f v w) u) else None) ≡ Some e → holds_canonical e ≡ true
    go true is =
        let made : tree.Num (f v w) u ≡ e = cc in
        ap holds_canonical (sym made) ∙ canonical-Num (f v w) u ∙ sym (canonical-roll (Num v u)) ∙ ap holds_canonical p ∙ h
    go false is = cc
joined_canonical may f c d e (Num v u) _ p q h is = cc
joined_canonical may f c d e _ _ p q h is = cc

module _ (may : units.Unit → Bool) (f : Ratio → Ratio → Ratio) where
  row_canonical : (row : List Calc) (d : Calc) → all_hold row ≡ true → holds_canonical d ≡ true → all_hold (with_child (joined_by may f) row d) ≡ true
  row_canonical [] d h k = both_true (holds_canonical d) true k refl
  row_canonical (c ∷ cs) d h k =
      let parts = and_true (holds_canonical c) (all_hold cs) h in
      go (joined_by may f c d) refl parts.0 parts.1 (row_canonical cs d parts.1 k)
    where
      go : (o : Option Calc) → joined_by may f c d ≡ o → holds_canonical c ≡ true → all_hold cs ≡ true → all_hold (with_child (joined_by may f) cs d) ≡ true →
          all_hold (join_first o c cs (with_child (joined_by may f) cs d)) ≡ true
      go (Some e) is first rest more = both_true (holds_canonical e) (all_hold cs) (joined_canonical may f c d e (out-Calc c) (out-Calc d) (roll-out-Calc c) (roll-out-Calc d) first is) rest
      go None is first rest more = both_true (holds_canonical c) _ first more

  pub rows_canonical : (row ts : List Calc) → all_hold row ≡ true → all_hold ts ≡ true → all_hold (fold (with_child (joined_by may f)) row ts) ≡ true
  rows_canonical row [] h k = h
  rows_canonical row (t ∷ ts) h k =
      let parts = and_true (holds_canonical t) (all_hold ts) k in
      rows_canonical (with_child (joined_by may f) row t) ts (row_canonical row t h parts.0) parts.1

one_or_canonical : (node : List Calc → Calc) → ((cs : List Calc) → holds_canonical (node cs) ≡ all_hold cs) → (row : List Calc) → all_hold row ≡ true → holds_canonical (one_or node row) ≡ true
one_or_canonical node is [] h = is [] ∙ h
one_or_canonical node is (c ∷ []) h = (and_true (holds_canonical c) true h).0
one_or_canonical node is (c ∷ d ∷ cs) h = is (c ∷ d ∷ cs) ∙ h

terms_canonical : (c : Calc) (l : Calc-F Calc) → roll-Calc l ≡ c → holds_canonical c ≡ true → all_hold (terms_as c l) ≡ true
terms_canonical c (Sum ds) p h = sym (canonical-roll (Sum ds)) ∙ ap holds_canonical p ∙ h
terms_canonical c _ p h = both_true (holds_canonical c) true h refl

factors_canonical : (c : Calc) (l : Calc-F Calc) → roll-Calc l ≡ c → holds_canonical c ≡ true → all_hold (factors_as c l) ≡ true
factors_canonical c (Product ds) p h = sym (canonical-roll (Product ds)) ∙ ap holds_canonical p ∙ h
factors_canonical c _ p h = both_true (holds_canonical c) true h refl

sum_canonical : (row cs : List Calc) → all_hold row ≡ true → all_hold cs ≡ true → all_hold (fold with_terms_of row cs) ≡ true
sum_canonical row [] h k = h
sum_canonical row (c ∷ cs) h k =
    let parts = and_true (holds_canonical c) (all_hold cs) k in
    sum_canonical (with_terms_of row c) cs (rows_canonical any_unit add row (terms_of c) h (terms_canonical c (out-Calc c) (roll-out-Calc c) parts.0)) parts.1

pub products_canonical : (row cs : List Calc) → all_hold row ≡ true → all_hold cs ≡ true → all_hold (fold with_factors_of row cs) ≡ true
products_canonical row [] h k = h
products_canonical row (c ∷ cs) h k =
    let parts = and_true (holds_canonical c) (all_hold cs) k in
    products_canonical (with_factors_of row c) cs (rows_canonical is_number mul row (factors_of c) h (factors_canonical c (out-Calc c) (roll-out-Calc c) parts.0)) parts.1

-- ---- a product

term_canonical : (v : Ratio) (c e : Calc) (l : Calc-F Calc) → roll-Calc l ≡ c → holds_canonical c ≡ true → scaled_term v l ≡ Some e → holds_canonical e ≡ true
term_canonical v c e (Num w u) p h is =
    let made : tree.Num (mul v w) u ≡ e = cc in
    ap holds_canonical (sym made) ∙ canonical-Num (mul v w) u ∙ sym (canonical-roll (Num w u)) ∙ ap holds_canonical p ∙ h
term_canonical v c e _ p h is = cc

terms_scaled_canonical : (v : Ratio) (cs es : List Calc) → all_hold cs ≡ true → scaled_terms v cs ≡ Some es → all_hold es ≡ true
terms_scaled_canonical v [] es h is = let made : [] ≡ es = cc in ap all_hold (sym made)
terms_scaled_canonical v (c ∷ cs) es h is =
    let parts = and_true (holds_canonical c) (all_hold cs) h in
    go (scaled_term v (out-Calc c)) refl (scaled_terms v cs) refl parts.0 (λ fs are. terms_scaled_canonical v cs fs parts.1 are) is
  where
    go : (o : Option Calc) → scaled_term v (out-Calc c) ≡ o → (p : Option (List Calc)) → scaled_terms v cs ≡ p → holds_canonical c ≡ true →
        ((fs : List Calc) → scaled_terms v cs ≡ Some fs → all_hold fs ≡ true) → both_terms o p ≡ Some es → all_hold es ≡ true
    go None term p are h ih is = cc
    go (Some e) term None are h ih is = cc
    go (Some e) term (Some fs) are h ih is =
        let made : e ∷ fs ≡ es = cc in
        ap all_hold (sym made) ∙ both_true (holds_canonical e) (all_hold fs) (term_canonical v c e (out-Calc c) (roll-out-Calc c) h term) (ih fs are)

scaled_canonical_as : (v : Ratio) (d e : Calc) (l : Calc-F Calc) → roll-Calc l ≡ d → holds_canonical d ≡ true → scaled_as v l ≡ Some e → holds_canonical e ≡ true
scaled_canonical_as v d e (Num w u) p h is =
    let made : tree.Num (mul v w) u ≡ e = cc in
    ap holds_canonical (sym made) ∙ canonical-Num (mul v w) u ∙ sym (canonical-roll (Num w u)) ∙ ap holds_canonical p ∙ h
scaled_canonical_as v d e (Sum cs) p h is = go (scaled_terms v cs) refl is
  where
    go : (o : Option (List Calc)) → scaled_terms v cs ≡ o → option_map tree.Sum o ≡ Some e → holds_canonical e ≡ true
    go None are is = cc
    go (Some es) are is =
        let made : tree.Sum es ≡ e = cc in
        ap holds_canonical (sym made) ∙ canonical-Sum es ∙ terms_scaled_canonical v cs es (sym (canonical-roll (Sum cs)) ∙ ap holds_canonical p ∙ h) are
scaled_canonical_as v d e _ p h is = cc

pair_canonical : (c d : Calc) (o p : Option Ratio) → holds_canonical c ≡ true → holds_canonical d ≡ true → holds_canonical (or_else (scaled_pair o p c d) (tree.Product (c ∷ d ∷ []))) ≡ true
pair_canonical c d o p h k = go o p (scaled_pair o p c d) refl
  where
    made : (o p : Option Ratio) (e : Calc) → scaled_pair o p c d ≡ Some e → holds_canonical e ≡ true
    made (Some v) p e is = scaled_canonical_as v d e (out-Calc d) (roll-out-Calc d) k is
    made None (Some v) e is = scaled_canonical_as v c e (out-Calc c) (roll-out-Calc c) h is
    made None None e is = cc

    go : (o p : Option Ratio) (q : Option Calc) → scaled_pair o p c d ≡ q → holds_canonical (or_else q (tree.Product (c ∷ d ∷ []))) ≡ true
    go o p (Some e) is = made o p e is
    go o p None is = canonical-Product (c ∷ d ∷ []) ∙ both_true (holds_canonical c) _ h (both_true (holds_canonical d) true k refl)

product_as_canonical : (row : List Calc) → all_hold row ≡ true → holds_canonical (product_as row) ≡ true
product_as_canonical [] h = canonical-Product []
product_as_canonical (c ∷ []) h = (and_true (holds_canonical c) true h).0
product_as_canonical (c ∷ d ∷ []) h =
    let parts = and_true (holds_canonical c) (holds_canonical d && true) h in
    pair_canonical c d (number_of c) (number_of d) parts.0 (and_true (holds_canonical d) true parts.1).0
product_as_canonical (c ∷ d ∷ e ∷ cs) h = canonical-Product (c ∷ d ∷ e ∷ cs) ∙ h

-- ---- the other nodes

negated_canonical : (d : Calc) (l : Calc-F Calc) → roll-Calc l ≡ d → holds_canonical d ≡ true → holds_canonical (negated_as d l) ≡ true
negated_canonical d (Num v u) p h = canonical-Num (neg v) u ∙ sym (canonical-roll (Num v u)) ∙ ap holds_canonical p ∙ h
negated_canonical d (Negate c) p h = sym (canonical-roll (Negate c)) ∙ ap holds_canonical p ∙ h
negated_canonical d _ p h = canonical-Negate d ∙ h

inverse_canonical : (d : Calc) (o : Option Ratio) → holds_canonical d ≡ true → holds_canonical (inverse_or d o) ≡ true
inverse_canonical d (Some r) h = canonical-Num r Number
inverse_canonical d None h = canonical-Invert d ∙ h

inverted_canonical : (d : Calc) (l : Calc-F Calc) → roll-Calc l ≡ d → holds_canonical d ≡ true → holds_canonical (inverted_as d l) ≡ true
inverted_canonical d (Num v Number) p h = inverse_canonical d (reciprocal v) h
inverted_canonical d (Invert c) p h = sym (canonical-roll (Invert c)) ∙ ap holds_canonical p ∙ h
inverted_canonical d _ p h = canonical-Invert d ∙ h

percent_canonical : (b : Basis) (v : Ratio) → holds_canonical (percent_in b v) ≡ true
percent_canonical Plain v = canonical-Num v Percent
percent_canonical Length v = canonical-Num v Percent
percent_canonical (Of f) v = canonical-Num _ Px

number_canonical : (x : Context) (v : Ratio) (u : units.Unit) → holds_canonical (number_in x v u) ≡ true
number_canonical x v Percent = percent_canonical x.basis v
number_canonical x v u = canonical-Num _ (canonical u)

limits_canonical : (p : Bool) (a b c : Calc) (k l m : Calc-F Calc) → roll-Calc k ≡ a → holds_canonical a ≡ true → (r : Ratio × units.Unit) →
    number_clamped_as p k l m ≡ Some r → is_canonical r.1 ≡ true
limits_canonical p a b c (Num v u) (Num w t) (Num z s) q h r is = go (same_unit u t && same_unit u s && may_compare p u) is
  where
    go : (b : Bool) → (if b then Some (greater v (lesser w z), u) else None) ≡ Some r → is_canonical r.1 ≡ true
    go true is =
        let made : (greater v (lesser w z), u) ≡ r = cc in
        ap (λ (s : Ratio × units.Unit). is_canonical s.1) (sym made) ∙ sym (canonical-roll (Num v u)) ∙ ap holds_canonical q ∙ h
    go false is = cc
limits_canonical p a b c (Num v u) (Num w t) _ q h r is = cc
limits_canonical p a b c (Num v u) _ m q h r is = cc
limits_canonical p a b c _ l m q h r is = cc

clamped_canonical : (p : Bool) (a b c : Calc) (o : Option (Ratio × units.Unit)) → number_clamped p a b c ≡ o →
    holds_canonical a ≡ true → holds_canonical b ≡ true → holds_canonical c ≡ true → holds_canonical (clamped_as o a b c) ≡ true
clamped_canonical p a b c (Some r) is h k l = canonical-Num r.0 r.1 ∙ limits_canonical p a b c (out-Calc a) (out-Calc b) (out-Calc c) (roll-out-Calc a) h r is
clamped_canonical p a b c None is h k l = canonical-Clamp a b c ∙ both_true (holds_canonical a && holds_canonical b) (holds_canonical c) (both_true (holds_canonical a) (holds_canonical b) h k) l

-- ---- the whole

module _ (x : Context) where
  abbrev IsCanonical : Calc → Type 0
  IsCanonical c = holds_canonical (simp x c) ≡ true

  pub every_canonical : (cs : List Calc) → Each IsCanonical cs → all_hold (map (simp x) cs) ≡ true
  every_canonical [] h = refl
  every_canonical (c ∷ cs) h = both_true (holds_canonical (simp x c)) _ h.0 (every_canonical cs h.1)

  pub simp_canonical : (c : Calc) → holds_canonical (simp x c) ≡ true
  unfolding simp
  simp_canonical = by_cases IsCanonical (record {
    num = λ v u. ap holds_canonical (fold-Num (simp_step x) v u) ∙ number_canonical x v u;
    sum = λ cs h. ap holds_canonical (fold-Sum (simp_step x) cs) ∙ one_or_canonical tree.Sum canonical-Sum _ (sum_canonical [] (map (simp x) cs) refl (every_canonical cs h));
    product = λ cs h. ap holds_canonical (fold-Product (simp_step x) cs) ∙ product_as_canonical _ (products_canonical [] (map (simp x) cs) refl (every_canonical cs h));
    negate = λ c h. ap holds_canonical (fold-Negate (simp_step x) c) ∙ negated_canonical (simp x c) (out-Calc (simp x c)) (roll-out-Calc (simp x c)) h;
    invert = λ c h. ap holds_canonical (fold-Invert (simp_step x) c) ∙ inverted_canonical (simp x c) (out-Calc (simp x c)) (roll-out-Calc (simp x c)) h;
    min = λ cs h. ap holds_canonical (fold-Min (simp_step x) cs)
        ∙ one_or_canonical tree.Min canonical-Min _ (rows_canonical (may_compare (compares_percent x.basis)) lesser [] (map (simp x) cs) refl (every_canonical cs h));
    max = λ cs h. ap holds_canonical (fold-Max (simp_step x) cs)
        ∙ one_or_canonical tree.Max canonical-Max _ (rows_canonical (may_compare (compares_percent x.basis)) greater [] (map (simp x) cs) refl (every_canonical cs h));
    clamp = λ a b c h k l. ap holds_canonical (fold-Clamp (simp_step x) a b c)
        ∙ clamped_canonical (compares_percent x.basis) (simp x a) (simp x b) (simp x c) (number_clamped (compares_percent x.basis) (simp x a) (simp x b) (simp x c)) refl h k l;
  })
