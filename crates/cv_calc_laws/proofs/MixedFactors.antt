-- The factors of a linear product: each is a plain number, or one has the product's type and each other is a plain number.
use Rattle.std.specs.Prelude.{Bool, true, false, List, [], ◌∷◌, fold, Option, Some, None, if◌then◌else◌, ◌⊎◌}
use Rattle.std.specs.Option.{option_and_then}
use Rattle.std.proofs.Common.{inl, inr, ◌≡◌, refl, sym, ◌∙◌, ap}
use Rattle.cv_calc.specs.declared.unit.Base.{Base}
use Rattle.cv_calc.specs.declared.unit.Base.TheVariants.{Length, Angle, Time, Frequency, Resolution, Flex}
use Rattle.cv_calc.specs.declared.unit.NumType.{NumType}
use Rattle.cv_calc.specs.Linear.{is_measured, kinds, none_measured, one_measured, product_shape, all_fit}
use Rattle.cv_calc.specs.Types.{no_powers, multiplied, multiplied_next, shared, shared_next, shared_hint, product_under, product_type, with_hint}
use Rattle.cv_calc_laws.proofs.Lists.{Every, AllButOne, none_some, some_same, false_true, and_both, from_bound}
use Rattle.cv_calc_laws.proofs.UnitTypes.{times_plain, plain_times}
use Rattle.cv_calc_laws.proofs.Factors.{Shape, plain, plain_kind, stays_none}

abbrev pub IsPlainKind : Shape → Type 0
IsPlainKind s = s.kind ≡ Some plain

-- it has a type, which is kept under its own hint
abbrev pub IsStable : Shape → Type 0
IsStable s = (t : NumType) × (s.kind ≡ Some t) × (with_hint t.hint t ≡ Some t)

abbrev pub IsOf : NumType → Shape → Type 0
IsOf w s = s.kind ≡ Some w

-- ---- which of the factors is measured

none_split : (ss : List Shape) → none_measured ss ≡ true → Every IsPlainKind ss
unfolding none_measured
none_split [] h = tt
none_split (s ∷ ss) h = go (is_measured s) refl h (λ k. none_split ss k)
  where
    go : (b : Bool) → is_measured s ≡ b → (if b then false else none_measured ss) ≡ true → (none_measured ss ≡ true → Every IsPlainKind ss) → Every IsPlainKind (s ∷ ss)
    go true is h more = absurd (false_true h)
    go false is h more = (plain_kind s is, more h)

one_split : (ss : List Shape) → one_measured ss ≡ true → Every IsStable ss → Every IsPlainKind ss ⊎ AllButOne IsPlainKind IsStable ss
unfolding one_measured
one_split [] h k = inl tt
one_split (s ∷ ss) h k = go (is_measured s) refl h (λ l. one_split ss l k.1)
  where
    further : IsPlainKind s → Every IsPlainKind ss ⊎ AllButOne IsPlainKind IsStable ss → Every IsPlainKind (s ∷ ss) ⊎ AllButOne IsPlainKind IsStable (s ∷ ss)
    further p (inl e) = inl (p, e)
    further p (inr e) = inr (inl (p, e))

    go : (b : Bool) → is_measured s ≡ b → (if b then none_measured ss else one_measured ss) ≡ true →
        (one_measured ss ≡ true → Every IsPlainKind ss ⊎ AllButOne IsPlainKind IsStable ss) → Every IsPlainKind (s ∷ ss) ⊎ AllButOne IsPlainKind IsStable (s ∷ ss)
    go true is h more = inr (inr (k.0, none_split ss h))
    go false is h more = further (plain_kind s is) (more h)

-- ---- the hint and the type

shared_plain : (g : Option Base) → shared g None ≡ Some g
shared_plain None = refl
shared_plain (Some b) = refl

hint_rest : (g : Option Base) (ss : List Shape) → Every IsPlainKind ss → fold shared_next (Some g) (kinds ss) ≡ Some g
hint_rest g [] h = refl
hint_rest g (s ∷ ss) h =
    ap (λ k. fold shared_next (shared_next (Some g) k) (kinds ss)) h.0 ∙ ap (λ o. fold shared_next o (kinds ss)) (shared_plain g) ∙ hint_rest g ss h.1

plain_under : (h : Option Base) → with_hint h plain ≡ Some (no_powers h)
plain_under None = refl
plain_under (Some Length) = refl
plain_under (Some Angle) = refl
plain_under (Some Time) = refl
plain_under (Some Frequency) = refl
plain_under (Some Resolution) = refl
plain_under (Some Flex) = refl

-- the product with a factor, and with the rest
abbrev Next : Option Base → NumType → NumType → List Shape → NumType → Type 0
Next h s u ss w = (p : NumType) × (multiplied s u ≡ Some p) × (fold (multiplied_next h) (Some p) (kinds ss) ≡ Some w)

next : (h : Option Base) (s u : NumType) (t : Shape) (v : NumType) (ss : List Shape) (w : NumType) → t.kind ≡ Some v → with_hint h v ≡ Some u →
    fold (multiplied_next h) (multiplied_next h (Some s) t.kind) (kinds ss) ≡ Some w → Next h s u ss w
next h s u t v ss w is under e =
    go (multiplied s u) refl
    (ap (λ o. fold (multiplied_next h) (option_and_then (λ u. multiplied s u) o) (kinds ss)) (sym under)
    ∙ ap (λ k. fold (multiplied_next h) (multiplied_next h (Some s) k) (kinds ss)) (sym is) ∙ e)
  where
    go : (o : Option NumType) → multiplied s u ≡ o → fold (multiplied_next h) o (kinds ss) ≡ Some w → Next h s u ss w
    go None made e = absurd (stays_none h (kinds ss) w e)
    go (Some p) made e = (p, made, e)

plain_rest : (h : Option Base) (s w : NumType) (ss : List Shape) → Every IsPlainKind ss → fold (multiplied_next h) (Some s) (kinds ss) ≡ Some w → w ≡ s
plain_rest h s w [] k e = sym (some_same s w e)
plain_rest h s w (t ∷ ts) k e =
    let (p, made, rest) = next h s (no_powers h) t plain ts w k.0 (plain_under h) e in
    plain_rest h p w ts k.1 rest ∙ times_plain h s p made

one_product : (h : Option Base) (w : NumType) (ss : List Shape) → AllButOne IsPlainKind IsStable ss → fold shared_next (Some None) (kinds ss) ≡ Some h →
    fold (multiplied_next h) (Some (no_powers h)) (kinds ss) ≡ Some w → AllButOne IsPlainKind (IsOf w) ss
one_product h w [] k hint e = absurd k
one_product h w (t ∷ ts) (inl k) hint e =
    let (p, made, rest) = next h (no_powers h) (no_powers h) t plain ts w k.0 (plain_under h) e in
    let same : p ≡ no_powers h = times_plain h (no_powers h) p made in
    inl (
      k.0,
      one_product h w ts k.1 (ap (λ o. fold shared_next (shared_next (Some None) o) (kinds ts)) (sym k.0) ∙ hint)
          (ap (λ s. fold (multiplied_next h) (Some s) (kinds ts)) (sym same) ∙ rest),
    )
one_product h w (t ∷ ts) (inr k) hint e =
    let v : NumType = k.0.0 in
    let under : v.hint ≡ h =
    some_same v.hint h (sym (ap (λ o. fold shared_next (shared_next (Some None) o) (kinds ts)) k.0.1 ∙ hint_rest v.hint ts k.1) ∙ hint) in
    let (p, made, rest) = next h (no_powers h) v t v ts w k.0.1 (ap (λ g. with_hint g v) (sym under) ∙ k.0.2) e in
    let same : w ≡ v = plain_rest h p w ts k.1 rest ∙ plain_times h v p under made in
    inr (k.0.1 ∙ ap Some (sym same), k.1)

-- ---- a product

abbrev pub ProductParts : NumType → List Shape → Type 0
ProductParts w ss = ((w ≡ plain) × Every IsPlainKind ss) ⊎ AllButOne IsPlainKind (IsOf w) ss

pub typed_parts : (w : NumType) (ss : List Shape) → Every IsStable ss → (product_shape ss).kind ≡ Some w → (product_shape ss).fits ≡ true → ProductParts w ss
unfolding product_shape product_type product_under shared_hint
typed_parts w [] k e fits = absurd (none_some w e)
typed_parts w (s ∷ ss) k e fits =
    let (h, first, made) = from_bound (product_under (kinds (s ∷ ss))) (shared_hint (kinds (s ∷ ss))) w e in
    go h first made (one_split (s ∷ ss) (and_both (all_fit (s ∷ ss)) (one_measured (s ∷ ss)) fits).1 k)
  where
    go : (h : Option Base) → fold shared_next (Some None) (kinds (s ∷ ss)) ≡ Some h → fold (multiplied_next h) (Some (no_powers h)) (kinds (s ∷ ss)) ≡ Some w →
        Every IsPlainKind (s ∷ ss) ⊎ AllButOne IsPlainKind IsStable (s ∷ ss) → ProductParts w (s ∷ ss)
    go h hint made (inl p) =
        let none : None ≡ h = some_same None h (sym (hint_rest None (s ∷ ss) p) ∙ hint) in
        inl (plain_rest h (no_powers h) w (s ∷ ss) p made ∙ ap no_powers (sym none), p)
    go h hint made (inr p) = inr (one_product h w (s ∷ ss) p hint made)
