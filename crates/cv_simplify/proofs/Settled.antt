-- In a simplified calculation the numbers of each sum have units that differ in pairs.
use Rattle.std.specs.Prelude.{true, ◌&&◌, List, [], ◌∷◌, fold, map, Option, Some, None, option_map}
use Rattle.std.proofs.Common.{◌≡◌, refl, sym, ◌∙◌, ap, ap₂}
use Rattle.cv_spec_ratio.specs.Ratio.{Ratio, add, mul, neg, reciprocal}
use Rattle.cv_spec_ratio.specs.Order.{lesser, greater}
use Rattle.cv_calc.specs.declared.unit.Unit as units
use Rattle.cv_calc.specs.declared.unit.Unit.TheVariants.{Number, Percent, Px}
use Rattle.cv_calc.specs.declared.context.Basis.{Basis}
use Rattle.cv_calc.specs.declared.context.Basis.TheVariants.{Plain, Length, Of}
use Rattle.cv_calc.specs.declared.context.Context.{Context}
use Rattle.cv_calc.specs.declared.calc.Calc.{Calc}
use Rattle.cv_calc.specs.declared.calc.Calc.TheVariants as tree
use Rattle.cv_calc.specs.declared.calc.Calc.TheOpen.{Calc-F, Num, Sum, Product, Negate, Invert}
use Rattle.cv_calc.specs.declared.calc.Calc.TheViews.{out-Calc, roll-Calc, roll-out-Calc}
use Rattle.cv_calc.specs.Tree.{Each, by_cases, fold-Num, fold-Sum, fold-Product, fold-Negate, fold-Invert, fold-Min, fold-Max, fold-Clamp}
use Rattle.cv_simplify.specs.Simplified.{percent_in, number_in, negated_as, inverse_or, inverted_as, one_or, any_unit, terms_as, terms_of, with_terms_of, sum_row, summed, factors_as, factors_of, is_number, with_factors_of, product_row, scaled_term, both_terms, scaled_terms, scaled_as, scaled, number_of, scaled_pair, or_else, product_as, multiplied, compares_percent, may_compare, clamped_as, simp, simp_step}
use Rattle.cv_simplify.proofs.Apart.{differ, Known, all_apart, kinds, known, known-roll, known-Num, kinds_of, settled, all_settled, kinds-map, all-map, settled-Num, settled-Sum, settled-Product, settled-Negate, settled-Invert, settled-Min, settled-Max, settled-Clamp, and_true, both_true, settled_rows, differ_rows}

-- ---- a sum

terms_settled_as : (c : Calc) (l : Calc-F Calc) → roll-Calc l ≡ c → settled c ≡ true → (all_settled (terms_as c l) ≡ true) × (differ (kinds_of (terms_as c l)) ≡ true)
terms_settled_as c (Sum ds) p h =
    let parts = and_true (differ (kinds (map known ds))) (all_apart (map known ds)) (sym (ap (λ (k : Known). k.apart) (known-roll (Sum ds))) ∙ ap settled p ∙ h) in
    (sym (all-map ds) ∙ parts.1, ap differ (sym (kinds-map ds)) ∙ parts.0)
terms_settled_as c _ p h = (both_true (settled c) true h refl, refl)

pub terms_settled : (c : Calc) → settled c ≡ true → (all_settled (terms_of c) ≡ true) × (differ (kinds_of (terms_of c)) ≡ true)
terms_settled c h = terms_settled_as c (out-Calc c) (roll-out-Calc c) h

sum_rows : (row cs : List Calc) → all_settled row ≡ true → differ (kinds_of row) ≡ true → all_settled cs ≡ true →
    (all_settled (fold with_terms_of row cs) ≡ true) × (differ (kinds_of (fold with_terms_of row cs)) ≡ true)
sum_rows row [] h k all = (h, k)
sum_rows row (c ∷ cs) h k all =
    let parts = and_true (settled c) (all_settled cs) all in
    sum_rows (with_terms_of row c) cs (settled_rows any_unit add row (terms_of c) h (terms_settled c parts.0).0) (differ_rows row (terms_of c) k) parts.1

one_or_sum : (row : List Calc) → all_settled row ≡ true → differ (kinds_of row) ≡ true → settled (one_or tree.Sum row) ≡ true
one_or_sum [] h k = settled-Sum []
one_or_sum (c ∷ []) h k = (and_true (settled c) true h).0
one_or_sum (c ∷ d ∷ cs) h k = settled-Sum (c ∷ d ∷ cs) ∙ both_true (differ (kinds_of (c ∷ d ∷ cs))) (all_settled (c ∷ d ∷ cs)) k h

pub summed_settled : (cs : List Calc) → all_settled cs ≡ true → settled (summed cs) ≡ true
summed_settled cs h = let rows = sum_rows [] cs refl refl h in one_or_sum (sum_row cs) rows.0 rows.1

-- ---- other rows

one_or_settled : (node : List Calc → Calc) → ((cs : List Calc) → settled (node cs) ≡ all_settled cs) → (row : List Calc) → all_settled row ≡ true → settled (one_or node row) ≡ true
one_or_settled node is [] h = is [] ∙ h
one_or_settled node is (c ∷ []) h = (and_true (settled c) true h).0
one_or_settled node is (c ∷ d ∷ cs) h = is (c ∷ d ∷ cs) ∙ h

factors_settled_as : (c : Calc) (l : Calc-F Calc) → roll-Calc l ≡ c → settled c ≡ true → all_settled (factors_as c l) ≡ true
factors_settled_as c (Product ds) p h = sym (all-map ds) ∙ sym (ap (λ (k : Known). k.apart) (known-roll (Product ds))) ∙ ap settled p ∙ h
factors_settled_as c _ p h = both_true (settled c) true h refl

pub factors_settled : (c : Calc) → settled c ≡ true → all_settled (factors_of c) ≡ true
factors_settled c h = factors_settled_as c (out-Calc c) (roll-out-Calc c) h

product_rows : (row cs : List Calc) → all_settled row ≡ true → all_settled cs ≡ true → all_settled (fold with_factors_of row cs) ≡ true
product_rows row [] h all = h
product_rows row (c ∷ cs) h all =
    let parts = and_true (settled c) (all_settled cs) all in
    product_rows (with_factors_of row c) cs (settled_rows is_number mul row (factors_of c) h (factors_settled c parts.0)) parts.1

-- terms that are scaled keep their units
scaled_known : (v : Ratio) (c e : Calc) (l : Calc-F Calc) → roll-Calc l ≡ c → scaled_term v l ≡ Some e → known e ≡ known c
scaled_known v c e (Num w u) p h =
    let made : tree.Num (mul v w) u ≡ e = cc in
    ap known (sym made) ∙ known-Num (mul v w) u ∙ sym (known-roll (Num w u)) ∙ ap known p
scaled_known v c e _ p h = cc

scaled_rows : (v : Ratio) (cs es : List Calc) → scaled_terms v cs ≡ Some es → (kinds_of es ≡ kinds_of cs) × (all_settled es ≡ all_settled cs)
scaled_rows v [] es h = let made : [] ≡ es = cc in (ap kinds_of (sym made), ap all_settled (sym made))
scaled_rows v (c ∷ cs) es h = go (scaled_term v (out-Calc c)) refl (scaled_terms v cs) refl (λ fs is. scaled_rows v cs fs is) h
  where
    go : (o : Option Calc) → scaled_term v (out-Calc c) ≡ o → (p : Option (List Calc)) → scaled_terms v cs ≡ p →
        ((fs : List Calc) → scaled_terms v cs ≡ Some fs → (kinds_of fs ≡ kinds_of cs) × (all_settled fs ≡ all_settled cs)) →
        both_terms o p ≡ Some es → (kinds_of es ≡ kinds_of (c ∷ cs)) × (all_settled es ≡ all_settled (c ∷ cs))
    go None is p are ih h = cc
    go (Some e) is None are ih h = cc
    go (Some e) is (Some fs) are ih h =
        let made : e ∷ fs ≡ es = cc in
        let same = scaled_known v c e (out-Calc c) (roll-out-Calc c) is in
        (ap kinds_of (sym made) ∙ ap₂ (λ (k : Known) ks. k.kind ∷ ks) same (ih fs are).0, ap all_settled (sym made) ∙ ap₂ (λ (k : Known) b. k.apart && b) same (ih fs are).1)

scaled_settled_as : (v : Ratio) (d e : Calc) (l : Calc-F Calc) → roll-Calc l ≡ d → settled d ≡ true → scaled_as v l ≡ Some e → settled e ≡ true
scaled_settled_as v d e (Num w u) p h is = let made : tree.Num (mul v w) u ≡ e = cc in ap settled (sym made) ∙ settled-Num (mul v w) u
scaled_settled_as v d e (Sum cs) p h is = go (scaled_terms v cs) refl is
  where
    before : (differ (kinds_of cs) && all_settled cs) ≡ true
    before = sym (ap₂ (λ ks b. differ ks && b) (kinds-map cs) (all-map cs)) ∙ sym (ap (λ (k : Known). k.apart) (known-roll (Sum cs))) ∙ ap settled p ∙ h

    go : (o : Option (List Calc)) → scaled_terms v cs ≡ o → option_map tree.Sum o ≡ Some e → settled e ≡ true
    go None are h = cc
    go (Some es) are h =
        let made : tree.Sum es ≡ e = cc in
        let same = scaled_rows v cs es are in
        ap settled (sym made) ∙ settled-Sum es ∙ ap₂ (λ ks b. differ ks && b) same.0 same.1 ∙ before
scaled_settled_as v d e _ p h is = cc

scaled_settled : (v : Ratio) (d e : Calc) → settled d ≡ true → scaled v d ≡ Some e → settled e ≡ true
scaled_settled v d e h is = scaled_settled_as v d e (out-Calc d) (roll-out-Calc d) h is

pair_settled : (c d : Calc) (o p : Option Ratio) → settled c ≡ true → settled d ≡ true → settled (or_else (scaled_pair o p c d) (tree.Product (c ∷ d ∷ []))) ≡ true
pair_settled c d o p h k = go o p (scaled_pair o p c d) refl
  where
    whole : settled (tree.Product (c ∷ d ∷ [])) ≡ true
    whole = settled-Product (c ∷ d ∷ []) ∙ both_true (settled c) _ h (both_true (settled d) true k refl)

    made : (o p : Option Ratio) (e : Calc) → scaled_pair o p c d ≡ Some e → settled e ≡ true
    made (Some v) p e is = scaled_settled v d e k is
    made None (Some v) e is = scaled_settled v c e h is
    made None None e is = cc

    go : (o p : Option Ratio) (q : Option Calc) → scaled_pair o p c d ≡ q → settled (or_else q (tree.Product (c ∷ d ∷ []))) ≡ true
    go o p (Some e) is = made o p e is
    go o p None is = whole

product_as_settled : (row : List Calc) → all_settled row ≡ true → settled (product_as row) ≡ true
product_as_settled [] h = settled-Product []
product_as_settled (c ∷ []) h = (and_true (settled c) true h).0
product_as_settled (c ∷ d ∷ []) h =
    let parts = and_true (settled c) (settled d && true) h in
    pair_settled c d (number_of c) (number_of d) parts.0 (and_true (settled d) true parts.1).0
product_as_settled (c ∷ d ∷ e ∷ cs) h = settled-Product (c ∷ d ∷ e ∷ cs) ∙ h

pub multiplied_settled : (cs : List Calc) → all_settled cs ≡ true → settled (multiplied cs) ≡ true
multiplied_settled cs h = product_as_settled (product_row cs) (product_rows [] cs refl h)

-- ---- the other nodes

negated_settled_as : (d : Calc) (l : Calc-F Calc) → roll-Calc l ≡ d → settled d ≡ true → settled (negated_as d l) ≡ true
negated_settled_as d (Num v u) p h = settled-Num (neg v) u
negated_settled_as d (Negate c) p h = sym (ap (λ (k : Known). k.apart) (known-roll (Negate c))) ∙ ap settled p ∙ h
negated_settled_as d _ p h = settled-Negate d ∙ h

inverse_settled : (d : Calc) (o : Option Ratio) → settled d ≡ true → settled (inverse_or d o) ≡ true
inverse_settled d (Some r) h = settled-Num r Number
inverse_settled d None h = settled-Invert d ∙ h

inverted_settled_as : (d : Calc) (l : Calc-F Calc) → roll-Calc l ≡ d → settled d ≡ true → settled (inverted_as d l) ≡ true
inverted_settled_as d (Num v Number) p h = inverse_settled d (reciprocal v) h
inverted_settled_as d (Invert c) p h = sym (ap (λ (k : Known). k.apart) (known-roll (Invert c))) ∙ ap settled p ∙ h
inverted_settled_as d _ p h = settled-Invert d ∙ h

percent_settled : (b : Basis) (v : Ratio) → settled (percent_in b v) ≡ true
percent_settled Plain v = settled-Num v Percent
percent_settled Length v = settled-Num v Percent
percent_settled (Of f) v = settled-Num _ Px

number_settled : (x : Context) (v : Ratio) (u : units.Unit) → settled (number_in x v u) ≡ true
number_settled x v Percent = percent_settled x.basis v
number_settled x v _ = settled-Num _ _

clamped_settled : (o : Option (Ratio × units.Unit)) (a b c : Calc) → settled a ≡ true → settled b ≡ true → settled c ≡ true → settled (clamped_as o a b c) ≡ true
clamped_settled (Some r) a b c h k l = settled-Num r.0 r.1
clamped_settled None a b c h k l = settled-Clamp a b c ∙ both_true (settled a && settled b) (settled c) (both_true (settled a) (settled b) h k) l

-- ---- the whole

module _ (x : Context) where
  abbrev IsSettled : Calc → Type 0
  IsSettled c = settled (simp x c) ≡ true

  all_of : (cs : List Calc) → Each IsSettled cs → all_settled (map (simp x) cs) ≡ true
  all_of [] h = refl
  all_of (c ∷ cs) h = both_true (settled (simp x c)) _ h.0 (all_of cs h.1)

  pub simp_settled : (c : Calc) → settled (simp x c) ≡ true
  unfolding simp
  simp_settled = by_cases IsSettled (record {
    num = λ v u. ap settled (fold-Num (simp_step x) v u) ∙ number_settled x v u;
    sum = λ cs h. ap settled (fold-Sum (simp_step x) cs) ∙ summed_settled (map (simp x) cs) (all_of cs h);
    product = λ cs h. ap settled (fold-Product (simp_step x) cs) ∙ multiplied_settled (map (simp x) cs) (all_of cs h);
    negate = λ c h. ap settled (fold-Negate (simp_step x) c) ∙ negated_settled_as (simp x c) (out-Calc (simp x c)) (roll-out-Calc (simp x c)) h;
    invert = λ c h. ap settled (fold-Invert (simp_step x) c) ∙ inverted_settled_as (simp x c) (out-Calc (simp x c)) (roll-out-Calc (simp x c)) h;
    min = λ cs h. ap settled (fold-Min (simp_step x) cs)
        ∙ one_or_settled tree.Min settled-Min _ (settled_rows (may_compare (compares_percent x.basis)) lesser [] (map (simp x) cs) refl (all_of cs h));
    max = λ cs h. ap settled (fold-Max (simp_step x) cs)
        ∙ one_or_settled tree.Max settled-Max _ (settled_rows (may_compare (compares_percent x.basis)) greater [] (map (simp x) cs) refl (all_of cs h));
    clamp = λ a b c h k l. ap settled (fold-Clamp (simp_step x) a b c) ∙ clamped_settled _ (simp x a) (simp x b) (simp x c) h k l;
  })
