-- The factors of a linear product of a type without a hint: each is a plain number, or one has the product's type and each other is a
-- plain number.
use Rattle.std.specs.Prelude.{Bool, true, false, not, List, [], ◌∷◌, fold, Option, Some, None, if◌then◌else◌, ◌⊎◌}
use Rattle.std.specs.Option.{option_and_then}
use Rattle.std.proofs.Common.{inl, inr, ◌≡◌, refl, sym, ◌∙◌, ap}
use Rattle.cv_calc.specs.declared.unit.Base.{Base}
use Rattle.cv_calc.specs.declared.unit.NumType.{NumType}
use Rattle.cv_calc.specs.Linear.{shape, added_shape, is_measured, is_plain, kinds, none_measured, one_measured, product_shape, sum_shape, all_fit}
use Rattle.cv_calc.specs.Types.{no_powers, multiplied, multiplied_next, shared_next, shared_hint, product_under, product_type, with_hint}
use Rattle.cv_calc_laws.proofs.Lists.{Every, AllButOne, none_some, some_same, false_true, and_both, from_bound}
use Rattle.cv_calc_laws.proofs.UnitTypes.{plain_is, added_next_same, times_plain, plain_times, product_has, shared_next_none}

abbrev Result : {A B : Type 0} → (A → B) → Type 0
Result {A} {B} f = B

-- what is found of a calculation
abbrev pub Shape : Type 0
Shape = Result shape

-- a part of a linear calculation, of a type
abbrev pub IsPart : NumType → Shape → Type 0
IsPart w s = (s.kind ≡ Some w) × (s.fits ≡ true)

abbrev pub plain : NumType
plain = no_powers None

-- ---- terms

pub terms_are : (w : NumType) → w.hint ≡ None → (s : Shape) (ss : List Shape) → IsPart w (fold added_shape s ss) → IsPart w s × Every (IsPart w) ss
terms_are w k s [] e = (e, tt)
terms_are w k s (t ∷ ts) e =
    let (both, rest) = terms_are w k (added_shape s t) ts e in
    let (first, second) = added_next_same s.kind t.kind w k both.0 in
    let (a, b) = and_both s.fits t.fits both.1 in
    ((first, a), ((second, b), rest))

pub sum_parts : (w : NumType) → w.hint ≡ None → (ss : List Shape) → IsPart w (sum_shape ss) → Every (IsPart w) ss
unfolding sum_shape
sum_parts w k [] e = absurd (none_some w e.0)
sum_parts w k (s ∷ ss) e = let (first, rest) = terms_are w k s ss e in (first, rest)

-- ---- factors

abbrev NoHint : Option NumType → Type 0
NoHint o = (t : NumType) → o ≡ Some t → t.hint ≡ None

no_hints : (o : Option (Option Base)) (ts : List (Option NumType)) → fold shared_next o ts ≡ Some None → (o ≡ Some None) × Every NoHint ts
no_hints o [] e = (e, tt)
no_hints o (t ∷ ts) e =
    let (next, rest) = no_hints (shared_next o t) ts e in
    let (first, here) = shared_next_none o t next in
    (first, (here, rest))

-- a product that comes to nothing stays so
pub stays_none : (h : Option Base) (ts : List (Option NumType)) (w : NumType) → fold (multiplied_next h) None ts ≡ Some w → ⊥
stays_none h [] w e = none_some w e
stays_none h (t ∷ ts) w e = stays_none h ts w e

-- the kind of the first of some factors, and what the product is with it
record First (s : NumType) (t : Option NumType) (ts : List (Option NumType)) (w : NumType) : Type 0 where
  kind : NumType
  product : NumType
  is : t ≡ Some kind
  gives : multiplied s kind ≡ Some product
  rest : fold (multiplied_next None) (Some product) ts ≡ Some w

first_of_them : (s : NumType) (t : Option NumType) (ts : List (Option NumType)) (w : NumType) → fold (multiplied_next None) (multiplied_next None (Some s) t) ts ≡ Some w → First s t ts w
first_of_them s None ts w e = absurd (stays_none None ts w e)
first_of_them s (Some t) ts w e = go (multiplied s t) refl e
  where
    go : (o : Option NumType) → multiplied s t ≡ o → fold (multiplied_next None) o ts ≡ Some w → First s (Some t) ts w
    go None is e = absurd (stays_none None ts w e)
    go (Some u) is e = record { kind = t; product = u; is = refl; gives = is; rest = e }

not_false : (b : Bool) → not b ≡ false → b ≡ true
not_false true e = refl
not_false false e = absurd (false_true (sym e))

not_true : (b : Bool) → not b ≡ true → b ≡ false
not_true true e = absurd (false_true e)
not_true false e = refl

pub plain_kind : (s : Shape) → is_measured s ≡ false → s.kind ≡ Some plain
plain_kind s e = plain_is s.kind (not_false (is_plain s.kind) e)

-- behind a factor, plain ones leave the type
plain_factors : (s w : NumType) (ss : List Shape) → none_measured ss ≡ true → all_fit ss ≡ true → fold (multiplied_next None) (Some s) (kinds ss) ≡ Some w → (w ≡ s) × Every (IsPart plain) ss
unfolding none_measured all_fit
plain_factors s w [] n f e = (sym (some_same s w e), tt)
plain_factors s w (t ∷ ts) n f e = go (is_measured t) refl n (λ p m b g. plain_factors p w ts m b g)
  where
    go : (b : Bool) → is_measured t ≡ b → (if b then false else none_measured ts) ≡ true →
        ((p : NumType) → none_measured ts ≡ true → all_fit ts ≡ true → fold (multiplied_next None) (Some p) (kinds ts) ≡ Some w → (w ≡ p) × Every (IsPart plain) ts) → (w ≡ s) × Every (IsPart plain) (t ∷ ts)
    go true is n more = absurd (false_true n)
    go false is n more =
        let h : First s t.kind (kinds ts) w = first_of_them s t.kind (kinds ts) w e in
        let kind : t.kind ≡ Some plain = plain_kind t is in
        let same : h.kind ≡ plain = some_same h.kind plain (sym h.is ∙ kind) in
        let here : h.product ≡ s = times_plain None s h.product (ap (multiplied s) (sym same) ∙ h.gives) in
        let (a, b) = and_both t.fits (all_fit ts) f in
        let (rest, parts) = more h.product n b h.rest in
        (rest ∙ here, ((kind, a), parts))

-- the parts of a product of type w
abbrev pub FactorsAre : NumType → List Shape → Type 0
FactorsAre w ss = ((w ≡ plain) × Every (IsPart plain) ss) ⊎ ((is_plain (Some w) ≡ false) × AllButOne (IsPart plain) (IsPart w) ss)

one_more : (w : NumType) (s : Shape) (ss : List Shape) → IsPart plain s → FactorsAre w ss → FactorsAre w (s ∷ ss)
one_more w s ss h (inl e) = inl (e.0, (h, e.1))
one_more w s ss h (inr e) = inr (e.0, inl (h, e.1))

factors : (w : NumType) (ss : List Shape) → one_measured ss ≡ true → all_fit ss ≡ true → Every NoHint (kinds ss) → fold (multiplied_next None) (Some plain) (kinds ss) ≡ Some w → FactorsAre w ss
unfolding one_measured all_fit
factors w [] n f k e = inl (sym (some_same plain w e), tt)
factors w (t ∷ ts) n f k e = go (is_measured t) refl n (λ m b g. factors w ts m b k.1 g)
  where
    go : (b : Bool) → is_measured t ≡ b → (if b then none_measured ts else one_measured ts) ≡ true →
        (one_measured ts ≡ true → all_fit ts ≡ true → fold (multiplied_next None) (Some plain) (kinds ts) ≡ Some w → FactorsAre w ts) → FactorsAre w (t ∷ ts)
    go true is n more =
        let h : First plain t.kind (kinds ts) w = first_of_them plain t.kind (kinds ts) w e in
        let here : h.product ≡ h.kind = plain_times None h.kind h.product (k.0 h.kind h.is) h.gives in
        let (a, b) = and_both t.fits (all_fit ts) f in
        let (rest, parts) = plain_factors h.product w ts n b h.rest in
        let kind : t.kind ≡ Some w = h.is ∙ ap Some (sym (rest ∙ here)) in
        inr (ap is_plain (sym kind) ∙ not_true (is_plain t.kind) is, inr ((kind, a), parts))
    go false is n more =
        let h : First plain t.kind (kinds ts) w = first_of_them plain t.kind (kinds ts) w e in
        let kind : t.kind ≡ Some plain = plain_kind t is in
        let same : h.kind ≡ plain = some_same h.kind plain (sym h.is ∙ kind) in
        let here : h.product ≡ plain = times_plain None plain h.product (ap (multiplied plain) (sym same) ∙ h.gives) in
        let (a, b) = and_both t.fits (all_fit ts) f in
        one_more w t ts (kind, a) (more n b (ap (λ s. fold (multiplied_next None) (Some s) (kinds ts)) (sym here) ∙ h.rest))

-- the product's type has the hint that its factors share
next_hint : (h : Option Base) (s : NumType) (t : Option NumType) (u : NumType) → multiplied_next h (Some s) t ≡ Some u → u.hint ≡ s.hint
next_hint h s t u e =
    let (v, first, next) = from_bound (λ v. option_and_then (λ w. multiplied s w) (with_hint h v)) t u e in
    let (w, second, last) = from_bound (λ w. multiplied s w) (with_hint h v) u next in
    product_has s w u last

product_hint : (h : Option Base) (s : NumType) (ts : List (Option NumType)) (w : NumType) → s.hint ≡ h → fold (multiplied_next h) (Some s) ts ≡ Some w → w.hint ≡ h
product_hint h s [] w k e = ap (λ (t : NumType). t.hint) (sym (some_same s w e)) ∙ k
product_hint h s (t ∷ ts) w k e = go (multiplied_next h (Some s) t) refl e (λ u same f. product_hint h u ts w same f)
  where
    go : (o : Option NumType) → multiplied_next h (Some s) t ≡ o → fold (multiplied_next h) o ts ≡ Some w →
        ((u : NumType) → u.hint ≡ h → fold (multiplied_next h) (Some u) ts ≡ Some w → w.hint ≡ h) → w.hint ≡ h
    go None is e more = absurd (stays_none h ts w e)
    go (Some u) is e more = more u (next_hint h s t u is ∙ k) e

pub product_parts : (w : NumType) → w.hint ≡ None → (ss : List Shape) → IsPart w (product_shape ss) → FactorsAre w ss
unfolding product_shape product_type product_under shared_hint
product_parts w k [] e = absurd (none_some w e.0)
product_parts w k (s ∷ ss) e =
    let (h, first, next) = from_bound (product_under (kinds (s ∷ ss))) (shared_hint (kinds (s ∷ ss))) w e.0 in
    let none : h ≡ None = sym (product_hint h (no_powers h) (kinds (s ∷ ss)) w refl next) ∙ k in
    let (start, hints) = no_hints (Some None) (kinds (s ∷ ss)) (first ∙ ap Some none) in
    let (fit, one) = and_both (all_fit (s ∷ ss)) (one_measured (s ∷ ss)) e.1 in
    factors w (s ∷ ss) one fit hints (ap (product_under (kinds (s ∷ ss))) (sym none) ∙ next)
