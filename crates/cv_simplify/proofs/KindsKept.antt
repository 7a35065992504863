-- Simplification keeps the kind.
use Rattle.std.specs.Prelude.{Bool, true, false, ◌&&◌, List, [], ◌∷◌, fold, map, Option, Some, None, option_map, if◌then◌else◌}
use Rattle.std.proofs.Common.{◌≡◌, refl, sym, ◌∙◌, ap}
use Rattle.std.proofs.Math.Path.{ap₂}
use Rattle.cv_spec_ratio.specs.Ratio.{Ratio, mul, neg, reciprocal}
use Rattle.cv_spec_ratio.specs.Order.{lesser, greater}
use Rattle.cv_calc.specs.declared.unit.Unit as units
use Rattle.cv_calc.specs.declared.unit.Unit.TheVariants.{Number, Percent, Px}
use Rattle.cv_calc.specs.declared.context.Basis.{Basis}
use Rattle.cv_calc.specs.declared.context.Basis.TheVariants.{Plain, Length, Of}
use Rattle.cv_calc.specs.declared.context.Context.{Context}
use Rattle.cv_calc.specs.declared.calc.Calc.{Calc}
use Rattle.cv_calc.specs.declared.calc.Calc.TheVariants as tree
use Rattle.cv_calc.specs.declared.calc.Calc.TheOpen.{Calc-F, Num, Sum, Product, Negate, Invert}
use Rattle.cv_calc.specs.declared.calc.Calc.TheViews.{out-Calc, roll-Calc, roll-out-Calc}
use Rattle.cv_calc.specs.Factor.{canonical}
use Rattle.cv_calc.specs.Tree.{Each, by_cases, fold-Num, fold-Sum, fold-Product, fold-Negate, fold-Invert, fold-Min, fold-Max, fold-Clamp}
use Rattle.cv_calc.specs.Unit.{same_unit, same_unit-true}
use Rattle.cv_simplify.specs.Simplified.{percent_in, number_in, negated_as, inverse_or, inverted_as, joined_as, joined_by, join_first, with_child, one_or, is_number, factors_as, factors_of, with_factors_of, product_row, number_of, scaled_term, both_terms, scaled_terms, scaled_as, scaled, scaled_pair, or_else, product_as, multiplied, compares_percent, may_compare, number_clamped_as, number_clamped, clamped_as, simp, simp_step}
use Rattle.cv_simplify.proofs.Measures.{Kind, nothing, plain, measured, added_kind, multiplied_kind, lifted, added_none, multiplied_comm, multiplied_assoc, multiplied_none}
use Rattle.cv_simplify.proofs.TreeKinds.{added_kinds, multiplied_kinds, closed, inverse_kind, closed_is, closed_twice, kind, kind-roll, kind-Num, kind-Sum, kind-Product, kind-Negate, kind-Invert, kind-Min, kind-Max, kind-Clamp, kind_closed}
use Rattle.cv_simplify.proofs.UnitKinds.{unit_kind, unit_kind_in, canonical_kind}
use Rattle.cv_simplify.proofs.ProductRange.{number_is}
use Rattle.cv_simplify.proofs.SumKinds.{Covers, covers_same, covers_trans, covers_both, covers_closed, nothing_added, nothing_multiplied, added_self, kind_of, total, times, opened, total-fold, kind-one_or, alone, summed_kind}

-- ---- a product

number_kind : (v : Ratio) → kind_of (tree.Num v Number) ≡ Some plain
number_kind v = kind-Num unit_kind v Number

times_joined : (c d e : Calc) (k l : Calc-F Calc) → roll-Calc k ≡ c → roll-Calc l ≡ d → joined_as is_number mul k l ≡ Some e → kind_of e ≡ lifted multiplied_kind (kind_of c) (kind_of d)
times_joined c d e (Num v u) (Num w t) p q is = go (same_unit u t) (is_number u) refl refl is
  where
    is_plain : (r : Ratio) (s : units.Unit) (b : Calc) → Number ≡ s → roll-Calc (Num r s) ≡ b → kind_of b ≡ Some plain
    is_plain r s b same p = opened b r s p ∙ ap (λ t. closed (Some (unit_kind t))) (sym same)

    go : (a b : Bool) → same_unit u t ≡ a → is_number u ≡ b → (if a && b then Some (tree.Num (mul v w) u) else None) ≡ Some e → kind_of e ≡ lifted multiplied_kind (kind_of c) (kind_of d)
    go true true same number is =
        let made : tree.Num (mul v w) u ≡ e = cc in
        let first = same_unit-true Number u number in
        ap kind_of (sym made) ∙ ap (λ s. kind_of (tree.Num (mul v w) s)) (sym first) ∙ number_kind (mul v w)
        ∙ sym (ap₂ (lifted multiplied_kind) (is_plain v u c first p) (is_plain w t d (first ∙ same_unit-true u t same) q))
    go true false same number is = cc
    go false b same number is = cc
times_joined c d e (Num v u) _ p q is = cc
times_joined c d e _ _ p q is = cc

times-join_first : (c d : Calc) (cs more : List Calc) (o : Option Calc) → joined_by is_number mul c d ≡ o → times more ≡ lifted multiplied_kind (times cs) (kind_of d) →
    times (join_first o c cs more) ≡ lifted multiplied_kind (times (c ∷ cs)) (kind_of d)
times-join_first c d cs more (Some e) is ih =
    ap (λ o. lifted multiplied_kind o (times cs)) (times_joined c d e (out-Calc c) (out-Calc d) (roll-out-Calc c) (roll-out-Calc d) is)
    ∙ multiplied_assoc (kind_of c) (kind_of d) (times cs)
    ∙ ap (lifted multiplied_kind (kind_of c)) (multiplied_comm (kind_of d) (times cs))
    ∙ sym (multiplied_assoc (kind_of c) (times cs) (kind_of d))
times-join_first c d cs more None is ih = ap (lifted multiplied_kind (kind_of c)) ih ∙ sym (multiplied_assoc (kind_of c) (times cs) (kind_of d))

times-with_child : (row : List Calc) (d : Calc) → times (with_child (joined_by is_number mul) row d) ≡ lifted multiplied_kind (times row) (kind_of d)
times-with_child [] d = multiplied_comm (kind_of d) (Some nothing)
times-with_child (c ∷ cs) d = times-join_first c d cs _ (joined_by is_number mul c d) refl (times-with_child cs d)

times-fold : (row ts : List Calc) → times (fold (with_child (joined_by is_number mul)) row ts) ≡ lifted multiplied_kind (times row) (times ts)
times-fold row [] = sym (multiplied_none (times row))
times-fold row (t ∷ ts) =
    times-fold (with_child (joined_by is_number mul) row t) ts ∙ ap (λ o. lifted multiplied_kind o (times ts)) (times-with_child row t)
    ∙ multiplied_assoc (times row) (kind_of t) (times ts)

times-factors : (c : Calc) (l : Calc-F Calc) → roll-Calc l ≡ c → Covers (kind_of c) (times (factors_as c l))
times-factors c (Product ds) e = record { same = λ k h. (closed_is (times ds) k (sym (ap kind_of (sym e) ∙ kind-roll unit_kind (Product ds)) ∙ h)).0 }
times-factors c _ e = covers_same _ _ (sym (multiplied_none (kind_of c)))

times-rows : (row cs : List Calc) → Covers (lifted multiplied_kind (times row) (times cs)) (times (fold with_factors_of row cs))
times-rows row [] = covers_same _ _ (multiplied_none (times row))
times-rows row (c ∷ cs) =
    covers_trans _ _ _ (covers_same _ _ (sym (multiplied_assoc (times row) (kind_of c) (times cs))))
    (covers_trans _ _ _
    (covers_both multiplied_kind _ _ _ _
    (covers_trans _ _ _ (covers_both multiplied_kind _ _ _ _ (covers_same (times row) _ refl) (times-factors c (out-Calc c) (roll-out-Calc c)))
    (covers_same _ _ (sym (times-fold row (factors_of c)))))
    (covers_same (times cs) _ refl))
    (times-rows (with_factors_of row c) cs))

term_kind : (v : Ratio) (c e : Calc) (l : Calc-F Calc) → roll-Calc l ≡ c → scaled_term v l ≡ Some e → kind_of e ≡ kind_of c
term_kind v c e (Num w u) p is =
    let made : tree.Num (mul v w) u ≡ e = cc in
    ap kind_of (sym made) ∙ kind-Num unit_kind (mul v w) u ∙ sym (opened c w u p)
term_kind v c e _ p is = cc

terms_kinds : (v : Ratio) (cs es : List Calc) → scaled_terms v cs ≡ Some es → total es ≡ total cs
terms_kinds v [] es is = let made : [] ≡ es = cc in ap total (sym made)
terms_kinds v (c ∷ cs) es is = go (scaled_term v (out-Calc c)) refl (scaled_terms v cs) refl (λ fs are. terms_kinds v cs fs are) is
  where
    go : (o : Option Calc) → scaled_term v (out-Calc c) ≡ o → (p : Option (List Calc)) → scaled_terms v cs ≡ p →
        ((fs : List Calc) → scaled_terms v cs ≡ Some fs → total fs ≡ total cs) → both_terms o p ≡ Some es → total es ≡ total (c ∷ cs)
    go None term p are ih is = cc
    go (Some e) term None are ih is = cc
    go (Some e) term (Some fs) are ih is =
        let made : e ∷ fs ≡ es = cc in
        ap total (sym made) ∙ ap₂ (lifted added_kind) (term_kind v c e (out-Calc c) (roll-out-Calc c) term) (ih fs are)

scaled_kind_as : (v : Ratio) (d e : Calc) (l : Calc-F Calc) → roll-Calc l ≡ d → scaled_as v l ≡ Some e → kind_of e ≡ kind_of d
scaled_kind_as v d e (Num w u) p is = term_kind v d e (Num w u) p is
scaled_kind_as v d e (Sum cs) p is = go (scaled_terms v cs) refl is
  where
    go : (o : Option (List Calc)) → scaled_terms v cs ≡ o → option_map tree.Sum o ≡ Some e → kind_of e ≡ kind_of d
    go None are is = cc
    go (Some es) are is =
        let made : tree.Sum es ≡ e = cc in
        ap kind_of (sym made) ∙ kind-Sum unit_kind es ∙ ap closed (terms_kinds v cs es are) ∙ sym (ap kind_of (sym p) ∙ kind-roll unit_kind (Sum cs))
scaled_kind_as v d e _ p is = cc

scaled_kind : (v : Ratio) (d e : Calc) → scaled v d ≡ Some e → kind_of e ≡ kind_of d
scaled_kind v d e is = scaled_kind_as v d e (out-Calc d) (roll-out-Calc d) is

plain_times : (o : Option Kind) → closed o ≡ o → closed (lifted multiplied_kind (Some plain) o) ≡ o
plain_times None e = refl
plain_times (Some nothing) e = cc
plain_times (Some plain) e = refl
plain_times (Some (measured m)) e = refl

pair_kind : (c d : Calc) (o p : Option Ratio) → number_of c ≡ o → number_of d ≡ p → kind_of (or_else (scaled_pair o p c d) (tree.Product (c ∷ d ∷ []))) ≡ closed (times (c ∷ d ∷ []))
pair_kind c d o p first second = go o p first second (scaled_pair o p c d) refl
  where
    plain_number : (c : Calc) (v : Ratio) → number_of c ≡ Some v → kind_of c ≡ Some plain
    plain_number c v h = ap kind_of (number_is c v h) ∙ number_kind v

    made : (o p : Option Ratio) → number_of c ≡ o → number_of d ≡ p → (e : Calc) → scaled_pair o p c d ≡ Some e → kind_of e ≡ closed (times (c ∷ d ∷ []))
    made (Some v) p first second e is =
        scaled_kind v d e is
        ∙ sym (ap closed (ap₂ (lifted multiplied_kind) (plain_number c v first) (multiplied_none (kind_of d))) ∙ plain_times (kind_of d) (kind_closed unit_kind d))
    made None (Some v) first second e is =
        scaled_kind v c e is
        ∙ sym (ap closed (ap (lifted multiplied_kind (kind_of c)) (multiplied_none (kind_of d) ∙ plain_number d v second) ∙ multiplied_comm (kind_of c) (Some plain))
        ∙ plain_times (kind_of c) (kind_closed unit_kind c))
    made None None first second e is = cc

    go : (o p : Option Ratio) → number_of c ≡ o → number_of d ≡ p → (q : Option Calc) → scaled_pair o p c d ≡ q → kind_of (or_else q (tree.Product (c ∷ d ∷ []))) ≡ closed (times (c ∷ d ∷ []))
    go o p first second (Some e) is = made o p first second e is
    go o p first second None is = kind-Product unit_kind (c ∷ d ∷ [])

product_kind : (row : List Calc) → kind_of (product_as row) ≡ closed (times row)
product_kind [] = kind-Product unit_kind []
product_kind (c ∷ []) = sym (ap closed (multiplied_none (kind_of c)) ∙ kind_closed unit_kind c)
product_kind (c ∷ d ∷ []) = pair_kind c d (number_of c) (number_of d) refl refl
product_kind (c ∷ d ∷ e ∷ cs) = kind-Product unit_kind (c ∷ d ∷ e ∷ cs)

multiplied_covers : (cs : List Calc) → Covers (closed (times cs)) (kind_of (multiplied cs))
multiplied_covers cs =
    covers_trans _ _ _ (covers_closed _ _ (covers_trans _ _ _ (covers_same _ _ (sym (nothing_multiplied (times cs)))) (times-rows [] cs)))
    (covers_same _ _ (sym (product_kind (product_row cs))))

-- ---- a sign, an inverse, limits

negated_kind : (d : Calc) (l : Calc-F Calc) → roll-Calc l ≡ d → kind_of (negated_as d l) ≡ kind_of d
negated_kind d (Num v u) p = kind-Num unit_kind (neg v) u ∙ sym (opened d v u p)
negated_kind d (Negate c) p = sym (ap kind_of (sym p) ∙ kind-roll unit_kind (Negate c) ∙ kind_closed unit_kind c)
negated_kind d _ p = kind-Negate unit_kind d ∙ kind_closed unit_kind d

inverse_or_kind : (d : Calc) (o : Option Ratio) → Covers (closed (inverse_kind (kind_of d))) (kind_of (inverse_or d o))
inverse_or_kind d (Some r) = record { same = λ k h. number_kind r ∙ go (kind_of d) k h }
  where
    go : (o : Option Kind) (k : Kind) → closed (inverse_kind o) ≡ Some k → Some plain ≡ Some k
    go None k h = cc
    go (Some nothing) k h = cc
    go (Some plain) k h = h
    go (Some (measured m)) k h = cc
inverse_or_kind d None = covers_same _ _ (sym (kind-Invert unit_kind d))

inverse_again : (o : Option Kind) → Covers (closed (inverse_kind (closed (inverse_kind o)))) o
inverse_again None = record { same = λ k h. h }
inverse_again (Some nothing) = record { same = λ k h. cc }
inverse_again (Some plain) = record { same = λ k h. h }
inverse_again (Some (measured m)) = record { same = λ k h. cc }

inverted_kind : (d : Calc) (l : Calc-F Calc) → roll-Calc l ≡ d → Covers (closed (inverse_kind (kind_of d))) (kind_of (inverted_as d l))
inverted_kind d (Num v Number) p = inverse_or_kind d (reciprocal v)
inverted_kind d (Invert c) p =
    covers_trans _ _ _ (covers_same _ _ (ap (λ o. closed (inverse_kind o)) (ap kind_of (sym p) ∙ kind-roll unit_kind (Invert c)))) (inverse_again (kind_of c))
inverted_kind d _ p = covers_same _ _ (sym (kind-Invert unit_kind d))

limits_kind : (b : Bool) (l m h : Calc) (i j k : Calc-F Calc) → roll-Calc i ≡ l → roll-Calc j ≡ m → roll-Calc k ≡ h → (r : Ratio × units.Unit) → number_clamped_as b i j k ≡ Some r →
    kind_of (tree.Num r.0 r.1) ≡ closed (total (l ∷ m ∷ h ∷ []))
limits_kind b l m h (Num v u) (Num w t) (Num z s) p q o r is = go (same_unit u t) (same_unit u s) (may_compare b u) refl refl is
  where
    three : (k : Kind) → closed (Some k) ≡ closed (lifted added_kind (closed (Some k)) (lifted added_kind (closed (Some k)) (lifted added_kind (closed (Some k)) (Some nothing))))
    three k =
        sym (ap closed (ap (lifted added_kind (closed (Some k))) (ap (lifted added_kind (closed (Some k))) (added_none (closed (Some k))) ∙ added_self k) ∙ added_self k)
        ∙ closed_twice (Some k))

    go : (x y g : Bool) → same_unit u t ≡ x → same_unit u s ≡ y → (if x && y && g then Some (greater v (lesser w z), u) else None) ≡ Some r →
        kind_of (tree.Num r.0 r.1) ≡ closed (total (l ∷ m ∷ h ∷ []))
    go true true true first second is =
        let made : (greater v (lesser w z), u) ≡ r = cc in
        ap (λ (y : Ratio × units.Unit). kind_of (tree.Num y.0 y.1)) (sym made) ∙ kind-Num unit_kind (greater v (lesser w z)) u ∙ three (unit_kind u)
        ∙ sym (ap (λ os. closed (added_kinds os))
        (ap₂ (λ o os. o ∷ os) (opened l v u p)
        (ap₂ (λ o os. o ∷ os) (opened m w t q ∙ ap (λ e. closed (Some (unit_kind e))) (sym (same_unit-true u t first)))
        (ap (λ o. o ∷ []) (opened h z s o ∙ ap (λ e. closed (Some (unit_kind e))) (sym (same_unit-true u s second)))))))
    go true true false first second is = cc
    go true false g first second is = cc
    go false y g first second is = cc
limits_kind b l m h (Num v u) (Num w t) _ p q o r is = cc
limits_kind b l m h (Num v u) _ k p q o r is = cc
limits_kind b l m h _ j k p q o r is = cc

clamped_kind : (b : Bool) (l m h : Calc) (o : Option (Ratio × units.Unit)) → number_clamped b l m h ≡ o → kind_of (clamped_as o l m h) ≡ closed (total (l ∷ m ∷ h ∷ []))
clamped_kind b l m h (Some r) is = limits_kind b l m h (out-Calc l) (out-Calc m) (out-Calc h) (roll-out-Calc l) (roll-out-Calc m) (roll-out-Calc h) r is
clamped_kind b l m h None is = kind-Clamp unit_kind l m h

-- ---- the whole

module _ (x : Context) where
  abbrev kind_in : Calc → Option Kind
  kind_in = kind (unit_kind_in x.basis)

  abbrev IsKept : Calc → Type 0
  IsKept c = Covers (kind_in c) (kind_of (simp x c))

  percent_kind : (b : Basis) (v : Ratio) → kind_of (percent_in b v) ≡ closed (Some (unit_kind_in b Percent))
  percent_kind Plain v = kind-Num unit_kind v Percent
  percent_kind Length v = kind-Num unit_kind v Percent
  percent_kind (Of f) v = kind-Num unit_kind _ Px

  unit_in : (b : Basis) (u : units.Unit) → unit_kind_in b u ≡ unit_kind u → closed (Some (unit_kind (canonical u))) ≡ closed (Some (unit_kind_in b u))
  unit_in b u e = ap (λ k. closed (Some k)) (canonical_kind u ∙ sym e)

  number_in_kind : (v : Ratio) (u : units.Unit) → kind_of (number_in x v u) ≡ closed (Some (unit_kind_in x.basis u))
  number_in_kind v Percent = percent_kind x.basis v
  number_in_kind v u = kind-Num unit_kind _ (canonical u) ∙ unit_in x.basis u (own x.basis)
    where
      own : (b : Basis) → unit_kind_in b u ≡ unit_kind u
      own Plain = refl
      own Length = refl
      own (Of f) = refl

  totals_cover : (cs : List Calc) → Each IsKept cs → Covers (added_kinds (map kind_in cs)) (total (map (simp x) cs))
  totals_cover [] h = covers_same _ _ refl
  totals_cover (c ∷ cs) h = covers_both added_kind _ _ _ _ h.0 (totals_cover cs h.1)

  times_cover : (cs : List Calc) → Each IsKept cs → Covers (multiplied_kinds (map kind_in cs)) (times (map (simp x) cs))
  times_cover [] h = covers_same _ _ refl
  times_cover (c ∷ cs) h = covers_both multiplied_kind _ _ _ _ h.0 (times_cover cs h.1)

  sum_kept : (cs : List Calc) → Each IsKept cs → IsKept (tree.Sum cs)
  unfolding simp
  sum_kept cs h =
      covers_trans _ _ _ (covers_same _ _ (kind-Sum (unit_kind_in x.basis) cs))
      (covers_trans _ _ _ (covers_closed _ _ (totals_cover cs h))
      (covers_trans _ _ _ (summed_kind (map (simp x) cs)) (covers_same _ _ (sym (ap kind_of (fold-Sum (simp_step x) cs))))))

  product_kept : (cs : List Calc) → Each IsKept cs → IsKept (tree.Product cs)
  unfolding simp
  product_kept cs h =
      covers_trans _ _ _ (covers_same _ _ (kind-Product (unit_kind_in x.basis) cs))
      (covers_trans _ _ _ (covers_closed _ _ (times_cover cs h))
      (covers_trans _ _ _ (multiplied_covers (map (simp x) cs)) (covers_same _ _ (sym (ap kind_of (fold-Product (simp_step x) cs))))))

  chosen_kept : (node : List Calc → Calc) (f : Ratio → Ratio → Ratio) (cs : List Calc) → ((ds : List Calc) → kind_of (node ds) ≡ closed (total ds)) → Each IsKept cs →
      Covers (closed (added_kinds (map kind_in cs))) (kind_of (one_or node (fold (with_child (joined_by (may_compare (compares_percent x.basis)) f)) [] (map (simp x) cs))))
  chosen_kept node f cs is h =
      covers_trans _ _ _ (covers_closed _ _ (totals_cover cs h))
      (covers_same _ _ (sym (kind-one_or node total alone is _ ∙ ap closed (total-fold (may_compare (compares_percent x.basis)) f [] (map (simp x) cs) ∙ nothing_added (total (map (simp x) cs))))))

  min_kept : (cs : List Calc) → Each IsKept cs → IsKept (tree.Min cs)
  unfolding simp
  min_kept cs h =
      covers_trans _ _ _ (covers_same _ _ (kind-Min (unit_kind_in x.basis) cs))
      (covers_trans _ _ _ (chosen_kept tree.Min lesser cs (kind-Min unit_kind) h) (covers_same _ _ (sym (ap kind_of (fold-Min (simp_step x) cs)))))

  max_kept : (cs : List Calc) → Each IsKept cs → IsKept (tree.Max cs)
  unfolding simp
  max_kept cs h =
      covers_trans _ _ _ (covers_same _ _ (kind-Max (unit_kind_in x.basis) cs))
      (covers_trans _ _ _ (chosen_kept tree.Max greater cs (kind-Max unit_kind) h) (covers_same _ _ (sym (ap kind_of (fold-Max (simp_step x) cs)))))

  num_kept : (v : Ratio) (u : units.Unit) → IsKept (tree.Num v u)
  unfolding simp
  num_kept v u = covers_same _ _ (kind-Num (unit_kind_in x.basis) v u ∙ sym (ap kind_of (fold-Num (simp_step x) v u) ∙ number_in_kind v u))

  negate_kept : (c : Calc) → IsKept c → IsKept (tree.Negate c)
  unfolding simp
  negate_kept c h =
      covers_trans _ _ _ (covers_same _ _ (kind-Negate (unit_kind_in x.basis) c ∙ kind_closed (unit_kind_in x.basis) c))
      (covers_trans _ _ _ h (covers_same _ _ (sym (ap kind_of (fold-Negate (simp_step x) c) ∙ negated_kind (simp x c) (out-Calc (simp x c)) (roll-out-Calc (simp x c))))))

  covers_inverse : (o p : Option Kind) → Covers o p → Covers (inverse_kind o) (inverse_kind p)
  covers_inverse None p h = record { same = λ k e. cc }
  covers_inverse (Some a) p h = record { same = λ k e. rw (h.same a refl) e }

  invert_kept : (c : Calc) → IsKept c → IsKept (tree.Invert c)
  unfolding simp
  invert_kept c h =
      covers_trans _ _ _ (covers_same _ _ (kind-Invert (unit_kind_in x.basis) c))
      (covers_trans _ _ _ (covers_closed _ _ (covers_inverse _ _ h))
      (covers_trans _ _ _ (inverted_kind (simp x c) (out-Calc (simp x c)) (roll-out-Calc (simp x c)))
      (covers_same _ _ (sym (ap kind_of (fold-Invert (simp_step x) c))))))

  clamp_kept : (a b c : Calc) → IsKept a → IsKept b → IsKept c → IsKept (tree.Clamp a b c)
  unfolding simp
  clamp_kept a b c h k l =
      covers_trans _ _ _ (covers_same _ _ (kind-Clamp (unit_kind_in x.basis) a b c))
      (covers_trans _ _ _ (covers_closed _ _ (totals_cover (a ∷ b ∷ c ∷ []) (h, (k, (l, tt)))))
      (covers_same _ _ (sym (ap kind_of (fold-Clamp (simp_step x) a b c) ∙ clamped_kind (compares_percent x.basis) (simp x a) (simp x b) (simp x c) _ refl))))

  every_kept : (c : Calc) → IsKept c
  every_kept = by_cases IsKept (record {
    num = num_kept;
    sum = sum_kept;
    product = product_kept;
    negate = negate_kept;
    invert = invert_kept;
    min = min_kept;
    max = max_kept;
    clamp = clamp_kept;
  })

  pub kind_kept : (c : Calc) (k : Kind) → kind (unit_kind_in x.basis) c ≡ Some k → kind unit_kind (simp x c) ≡ Some k
  kind_kept c k e = (every_kept c).same k e
