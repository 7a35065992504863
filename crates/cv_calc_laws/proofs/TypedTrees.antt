-- Each linear calculation has one of the linear types, and a sum is a length only where its terms are.
use Rattle.std.specs.Prelude.{true, ◌&&◌, List, [], ◌∷◌, map, fold, Some}
use Rattle.std.specs.Option.{option_and_then}
use Rattle.std.proofs.Common.{inl, inr, ◌≡◌, refl, sym, ◌∙◌, ap, ap₂, subst}
use Rattle.cv_calc.specs.declared.unit.NumType.{NumType}
use Rattle.cv_calc.specs.declared.unit.Unit.TheVariants.{Number}
use Rattle.cv_calc.specs.declared.calc.Calc.{Calc}
use Rattle.cv_calc.specs.Linear.{shape, added_shape, sum_shape, product_shape, inverted_shape, is_plain}
use Rattle.cv_calc.specs.Tree.{Each, by_cases}
use Rattle.cv_calc.specs.Types.{added_next, negated, unit_type}
use Rattle.cv_calc.proofs.Shapes.{shape-Num, shape-Sum, shape-Product, shape-Negate, shape-Invert, shape-Min, shape-Max, shape-Clamp}
use Rattle.cv_calc_laws.specs.Single.{is_length_percentage}
use Rattle.cv_calc_laws.proofs.Lists.{Every, AllButOne, none_some, some_same, and_both}
use Rattle.cv_calc_laws.proofs.UnitTypes.{plain_is}
use Rattle.cv_calc_laws.proofs.Factors.{Shape, plain}
use Rattle.cv_calc_laws.proofs.LinearTypes.{IsLinearType, unit_among, own_hint, sum_is_linear}
use Rattle.cv_calc_laws.proofs.MixedFactors.{IsPlainKind, IsStable, IsOf, ProductParts, typed_parts}
use Rattle.cv_calc_laws.proofs.Valued.{Fits, terms_fit, sum_fits, product_fits}

abbrev pub Typed : Shape → Type 0
Typed s = (t : NumType) × (s.kind ≡ Some t) × IsLinearType t

abbrev pub IsLength : Shape → Type 0
IsLength s = (t : NumType) × (s.kind ≡ Some t) × (is_length_percentage t ≡ true)

-- ---- terms

abbrev Ends : Shape → Shape → List Shape → Type 0
Ends end s ss = Typed end × (IsLength end → IsLength s × Every IsLength ss)

two_typed : (s t : Shape) → Typed s → Typed t → Fits (added_shape s t) → Ends (added_shape s t) s (t ∷ [])
two_typed s t (a, s_is, s_linear) (b, t_is, t_linear) fits =
    let v : NumType = fits.0.0 in
    let (linear, back) = sum_is_linear a b v s_linear t_linear (ap₂ added_next (sym s_is) (sym t_is) ∙ fits.0.1) in (
      (v, fits.0.1, linear),
      λ l.
          let (first, second) = back (ap is_length_percentage (some_same v l.0 (sym fits.0.1 ∙ l.1)) ∙ l.2) in
          ((a, s_is, first), ((b, t_is, second), tt)),
    )

terms_typed : (s : Shape) (ss : List Shape) → Typed s → Every Typed ss → Fits (fold added_shape s ss) → Ends (fold added_shape s ss) s ss
terms_typed s [] h k fits = (h, λ l. (l, tt))
terms_typed s (t ∷ ts) h k fits =
    let two : Ends (added_shape s t) s (t ∷ []) = two_typed s t h k.0 (terms_fit (added_shape s t) ts fits).0 in
    let (typed, back) = terms_typed (added_shape s t) ts two.0 k.1 fits in (
      typed,
      λ l.
          let (front, rest) = back l in
          let (first, second) = two.1 front in
          (first, (second.0, rest)),
    )

abbrev SumEnds : List Shape → Type 0
SumEnds ss = Typed (sum_shape ss) × (IsLength (sum_shape ss) → Every IsLength ss)

pub sum_typed : (ss : List Shape) → Every Typed ss → Fits (sum_shape ss) → SumEnds ss
unfolding sum_shape
sum_typed [] h fits = absurd (none_some fits.0.0 fits.0.1)
sum_typed (s ∷ ss) h fits = let (typed, back) = terms_typed s ss h.0 h.1 fits in (typed, λ l. let (first, rest) = back l in (first, rest))

-- ---- factors

stable : (ss : List Shape) → Every Typed ss → Every IsStable ss
stable [] h = tt
stable (s ∷ ss) h = ((h.0.0, h.0.1, own_hint h.0.0 h.0.2), stable ss h.1)

pub product_typed : (w : NumType) (ss : List Shape) → Every Typed ss → (product_shape ss).kind ≡ Some w → (product_shape ss).fits ≡ true → ProductParts w ss
product_typed w ss h = typed_parts w ss (stable ss h)

one_type : (w : NumType) (ss : List Shape) → AllButOne IsPlainKind (IsOf w) ss → Every Typed ss → IsLinearType w
one_type w [] h k = absurd h
one_type w (s ∷ ss) (inl h) k = one_type w ss h.1 k.1
one_type w (s ∷ ss) (inr h) k = subst IsLinearType (some_same k.0.0 w (sym k.0.1 ∙ h.0)) k.0.2

parts_type : (w : NumType) (ss : List Shape) → Every Typed ss → ProductParts w ss → IsLinearType w
parts_type w ss k (inl h) = subst IsLinearType (sym h.0) (unit_among Number)
parts_type w ss k (inr h) = one_type w ss h k

-- ---- a tree

abbrev IsTyped : Calc → Type 0
IsTyped c = Fits (shape c) → Typed (shape c)

each_typed : (cs : List Calc) → Each IsTyped cs → Every Fits (map shape cs) → Every Typed (map shape cs)
each_typed [] h k = tt
each_typed (c ∷ cs) h k = (h.0 k.0, each_typed cs h.1 k.1)

sums_typed : (cs : List Calc) → Each IsTyped cs → Fits (sum_shape (map shape cs)) → Typed (sum_shape (map shape cs))
sums_typed cs h k = (sum_typed (map shape cs) (each_typed cs h (sum_fits (map shape cs) k)) k).0

products_typed : (cs : List Calc) → Each IsTyped cs → Fits (product_shape (map shape cs)) → Typed (product_shape (map shape cs))
products_typed cs h k =
    let parts : Every Typed (map shape cs) = each_typed cs h (product_fits (map shape cs) k) in
    (k.0.0, k.0.1, parts_type k.0.0 (map shape cs) parts (product_typed k.0.0 (map shape cs) parts k.0.1 k.1))

inverse_typed : (s : Shape) → Fits (inverted_shape s) → Typed (inverted_shape s)
inverse_typed s k =
    let (front, numbers) = and_both (s.fits && is_plain s.kind) s.numbers k.1 in
    let (fits, is) = and_both s.fits (is_plain s.kind) front in
    (plain, ap (option_and_then negated) (plain_is s.kind is), unit_among Number)

pub every_typed : (c : Calc) → IsTyped c
every_typed = by_cases IsTyped record {
  num = λ v u k. subst Typed (sym (shape-Num v u)) (unit_type u, refl, unit_among u);
  sum = λ cs h k. subst Typed (sym (shape-Sum cs)) (sums_typed cs h (subst Fits (shape-Sum cs) k));
  product = λ cs h k. subst Typed (sym (shape-Product cs)) (products_typed cs h (subst Fits (shape-Product cs) k));
  negate = λ c h k. subst Typed (sym (shape-Negate c)) (h (subst Fits (shape-Negate c) k));
  invert = λ c h k. subst Typed (sym (shape-Invert c)) (inverse_typed (shape c) (subst Fits (shape-Invert c) k));
  min = λ cs h k. subst Typed (sym (shape-Min cs)) (sums_typed cs h (subst Fits (shape-Min cs) k));
  max = λ cs h k. subst Typed (sym (shape-Max cs)) (sums_typed cs h (subst Fits (shape-Max cs) k));
  clamp = λ a b c h k l q.
      let fits : Fits (fold added_shape (shape a) (shape b ∷ shape c ∷ [])) = subst Fits (shape-Clamp a b c) q in
      let (first, rest) = terms_fit (shape a) (shape b ∷ shape c ∷ []) fits in
      subst Typed (sym (shape-Clamp a b c)) (terms_typed (shape a) (shape b ∷ shape c ∷ []) (h first) (k rest.0, (l rest.1.0, tt)) fits).0;
}

pub all_typed : (cs : List Calc) → Every Fits (map shape cs) → Every Typed (map shape cs)
all_typed [] k = tt
all_typed (c ∷ cs) k = (every_typed c k.0, all_typed cs k.1)

-- three terms
pub clamp_lengths : (a b c : Calc) → Fits (fold added_shape (shape a) (shape b ∷ shape c ∷ [])) → IsLength (fold added_shape (shape a) (shape b ∷ shape c ∷ [])) → IsLength (shape a) × IsLength (shape b) × IsLength (shape c)
clamp_lengths a b c fits l =
    let (first, rest) = terms_fit (shape a) (shape b ∷ shape c ∷ []) fits in
    let (low, others) = (terms_typed (shape a) (shape b ∷ shape c ∷ []) (every_typed a first) (every_typed b rest.0, (every_typed c rest.1.0, tt)) fits).1 l in
    (low, others.0, others.1.0)
