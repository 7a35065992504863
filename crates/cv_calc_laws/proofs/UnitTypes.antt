-- The types of units, and types without a hint.
use Rattle.std.specs.Prelude.{Bool, true, false, ◌||◌, ℤ, pos, ◌+ℤ◌, Option, Some, None, if◌then◌else◌}
use Rattle.std.specs.Option.{option_and_then}
use Rattle.std.specs.Ordering.{int_eq}
use Rattle.std.proofs.Common.{◌≡◌, refl, sym, ◌∙◌, ap}
use Rattle.std.proofs.lemmas.Bool.Decides.{Decides-int_eq}
use Rattle.std.proofs.Math.IntN.{+ℤ_idl, +ℤ_idr}
use denote.Enum.Bare.{sameb}
use Rattle.cv_calc.specs.contracts.unit.Base.{the_type}
use Rattle.cv_calc.specs.declared.unit.Base.{Base}
use Rattle.cv_calc.specs.declared.unit.Base.TheVariants.{Length, Angle, Time, Frequency, Resolution, Flex}
use Rattle.cv_calc.specs.declared.unit.NumType.{NumType}
use Rattle.cv_calc.specs.declared.unit.Unit as units
use Rattle.cv_calc.specs.declared.unit.Unit.TheVariants.{Number, Percent, Px, Deg, S, Hz, Dppx, Fr}
use Rattle.cv_calc.specs.Factor.{canonical}
use Rattle.cv_calc.specs.Linear.{no_hint, is_plain}
use Rattle.cv_calc.specs.Types.{power_fits, if_fits, within, powers, no_powers, unit_type, moved, hinted, with_hint, shared, if_equal, same_powers, has_percent, if_same, tried, else_tried, tried_all, added_alike, added, added_next, multiplied, shared_next}
use Rattle.cv_simplify.specs.Simplified.{is_number}
use Rattle.cv_calc_laws.specs.Single.{TypesAreTold}
use Rattle.cv_calc_laws.proofs.Lists.{none_some, some_same, false_true, and_both, from_bound}

-- ---- the canonical unit that a type is of

unit_of : NumType → units.Unit
unit_of t =
    if int_eq t.length (pos 1) then Px
    else if int_eq t.angle (pos 1) then Deg
    else if int_eq t.time (pos 1) then S
    else if int_eq t.frequency (pos 1) then Hz
    else if int_eq t.resolution (pos 1) then Dppx
    else if int_eq t.flex (pos 1) then Fr
    else if int_eq t.percent (pos 1) then Percent
    else Number

unit_of_type : (u : units.Unit) → unit_of (unit_type u) ≡ canonical u
unfolding unit_of
unit_of_type Number = refl
unit_of_type _ = refl

-- units of one type have one canonical unit
pub same_canonical : (u t : units.Unit) → unit_type u ≡ unit_type t → canonical u ≡ canonical t
same_canonical u t e = sym (unit_of_type u) ∙ ap unit_of e ∙ unit_of_type t

pub unit_hint : (u : units.Unit) → (unit_type u).hint ≡ None
unit_hint Number = refl
unit_hint _ = refl

pub plain_unit : (u : units.Unit) → is_plain (Some (unit_type u)) ≡ is_number (canonical u)
plain_unit Number = refl
plain_unit _ = refl

-- ---- types that are the same

equal_is : (a b : ℤ) (rest : Bool) → if_equal a b rest ≡ true → (a ≡ b) × (rest ≡ true)
equal_is a b rest e = go (int_eq a b) refl e
  where
    go : (c : Bool) → int_eq a b ≡ c → (if c then rest else false) ≡ true → (a ≡ b) × (rest ≡ true)
    go true is e = ((Decides-int_eq a b).0 is, e)
    go false is e = absurd (false_true e)

pub same_type : (s t : NumType) → same_powers s t ≡ true → s.hint ≡ t.hint → s ≡ t
same_type s t e h =
    let (a, e1) = equal_is s.length t.length _ e in
    let (b, e2) = equal_is s.angle t.angle _ e1 in
    let (c, e3) = equal_is s.time t.time _ e2 in
    let (d, e4) = equal_is s.frequency t.frequency _ e3 in
    let (f, e5) = equal_is s.resolution t.resolution _ e4 in
    let (g, e6) = equal_is s.flex t.flex _ e5 in
    let (k, e7) = equal_is s.percent t.percent _ e6 in
    λ i. powers (a i) (b i) (c i) (d i) (f i) (g i) (k i) (h i)

no_hint_is : (o : Option Base) → no_hint o ≡ true → o ≡ None
no_hint_is None e = refl
no_hint_is (Some b) e = absurd (false_true e)

pub types_are_told : TypesAreTold
types_are_told t u e h = same_type t (unit_type u) e (no_hint_is t.hint h ∙ sym (unit_hint u))

pub plain_is : (o : Option NumType) → is_plain o ≡ true → o ≡ Some (no_powers None)
plain_is None e = absurd (false_true e)
plain_is (Some t) e =
    let (a, b) = and_both (same_powers t (no_powers None)) (no_hint t.hint) e in
    ap Some (same_type t (no_powers None) a (no_hint_is t.hint b))

-- ---- types within bounds

if_fits_is : (z : ℤ) (o : Option NumType) (w : NumType) → if_fits z o ≡ Some w → o ≡ Some w
if_fits_is z o w e = go (power_fits z) e
  where
    go : (b : Bool) → (if b then o else None) ≡ Some w → o ≡ Some w
    go true e = e
    go false e = absurd (none_some w e)

pub within_is : (t w : NumType) → within t ≡ Some w → t ≡ w
within_is t w e =
    some_same t w (if_fits_is t.percent _ w (if_fits_is t.flex _ w (if_fits_is t.resolution _ w (if_fits_is t.frequency _ w (if_fits_is t.time _ w (if_fits_is t.angle _ w (if_fits_is t.length _ w e)))))))

moved_hint : (base : Base) (t : NumType) → (moved base t).hint ≡ Some base
moved_hint Length t = refl
moved_hint Angle t = refl
moved_hint Time t = refl
moved_hint Frequency t = refl
moved_hint Resolution t = refl
moved_hint Flex t = refl

-- a type under a hint has this hint
hinted_hint : (base : Base) (t w : NumType) → hinted base t ≡ Some w → w.hint ≡ Some base
hinted_hint base t w e = ap (λ (s : NumType). s.hint) (sym (within_is (moved base t) w e)) ∙ moved_hint base t

abbrev HasHint : NumType → Type 0
HasHint w = w.hint ≡ None → ⊥

hinted_has : (base : Base) (t w : NumType) → hinted base t ≡ Some w → HasHint w
hinted_has base t w e h = none_some base (sym h ∙ hinted_hint base t w e)

-- ---- sums

same_has : (u v w : NumType) → HasHint u → if_same u v ≡ Some w → HasHint w
same_has u v w h e = go (same_powers u v) e
  where
    go : (b : Bool) → (if b then Some u else None) ≡ Some w → HasHint w
    go true e = λ k. h (ap (λ (s : NumType). s.hint) (some_same u w e) ∙ k)
    go false e = absurd (none_some w e)

tried_has : (base : Base) (s t w : NumType) → tried base s t ≡ Some w → HasHint w
tried_has base s t w e =
    let (u, first, next) = from_bound (λ u. option_and_then (λ v. if_same u v) (hinted base t)) (hinted base s) w e in
    let (v, second, last) = from_bound (λ v. if_same u v) (hinted base t) w next in
    same_has u v w (hinted_has base s u first) last

else_has : (o : Option NumType) (base : Base) (s t w : NumType) → (o ≡ Some w → HasHint w) → else_tried o base s t ≡ Some w → HasHint w
else_has (Some u) base s t w h e = h e
else_has None base s t w h e = tried_has base s t w e

tried_all_has : (s t w : NumType) → tried_all s t ≡ Some w → HasHint w
unfolding tried_all
tried_all_has s t w =
    else_has _ Flex s t w (else_has _ Resolution s t w (else_has _ Frequency s t w (else_has _ Time s t w (else_has _ Angle s t w (tried_has Length s t w)))))

hinted_apart : (s t w : NumType) (b : Bool) → (if b then tried_all s t else None) ≡ Some w → HasHint w
hinted_apart s t w true e = tried_all_has s t w e
hinted_apart s t w false e = absurd (none_some w e)

alike_has : (s t w : NumType) → HasHint s → added_alike s t ≡ Some w → HasHint w
alike_has s t w h e = go (same_powers s t) e
  where
    go : (b : Bool) → (if b then Some s else if has_percent s || has_percent t then tried_all s t else None) ≡ Some w → HasHint w
    go true e = λ k. h (ap (λ (s : NumType). s.hint) (some_same s w e) ∙ k)
    go false e = hinted_apart s t w (has_percent s || has_percent t) e

alike_same : (s t w : NumType) → s.hint ≡ t.hint → w.hint ≡ None → added_alike s t ≡ Some w → (s ≡ w) × (t ≡ w)
alike_same s t w h k e = go (same_powers s t) refl e
  where
    go : (b : Bool) → same_powers s t ≡ b → (if b then Some s else if has_percent s || has_percent t then tried_all s t else None) ≡ Some w → (s ≡ w) × (t ≡ w)
    go true is e = (some_same s w e, sym (same_type s t is h) ∙ some_same s w e)
    go false is e = absurd (hinted_apart s t w (has_percent s || has_percent t) e k)

shared_none : (a b : Option Base) → shared a b ≡ Some None → (a ≡ None) × (b ≡ None)
shared_none None b e = (refl, some_same b None e)
shared_none (Some a) None e = absurd (none_some a (sym (some_same (Some a) None e)))
shared_none (Some a) (Some b) e = absurd (go (sameb the_type a b) e)
  where
    go : (c : Bool) → (if c then Some (Some a) else None) ≡ Some None → ⊥
    go true e = none_some a (sym (some_same (Some a) None e))
    go false e = none_some None e

-- what two types add up to
abbrev sum_under : NumType → NumType → Option Base → Option NumType
sum_under s t h = option_and_then (λ u. option_and_then (λ v. added_alike u v) (with_hint h t)) (with_hint h s)

under_has : (s t w : NumType) (base : Base) → sum_under s t (Some base) ≡ Some w → HasHint w
under_has s t w base e =
    let (u, first, next) = from_bound (λ u. option_and_then (λ v. added_alike u v) (hinted base t)) (hinted base s) w e in
    let (v, second, last) = from_bound (λ v. added_alike u v) (hinted base t) w next in
    alike_has u v w (hinted_has base s u first) last

added_same : (s t w : NumType) → w.hint ≡ None → added s t ≡ Some w → (s ≡ w) × (t ≡ w)
unfolding added
added_same s t w k e =
    let (h, first, next) = from_bound (sum_under s t) (shared s.hint t.hint) w e in
    go h first next
  where
    go : (h : Option Base) → shared s.hint t.hint ≡ Some h → sum_under s t h ≡ Some w → (s ≡ w) × (t ≡ w)
    go None first next = let (a, b) = shared_none s.hint t.hint first in alike_same s t w (a ∙ sym b) k next
    go (Some base) first next = absurd (under_has s t w base next k)

-- types that add up to one without a hint are this one
pub added_next_same : (o p : Option NumType) (w : NumType) → w.hint ≡ None → added_next o p ≡ Some w → (o ≡ Some w) × (p ≡ Some w)
added_next_same None p w k e = absurd (none_some w e)
added_next_same (Some s) None w k e = absurd (none_some w e)
added_next_same (Some s) (Some t) w k e = let (a, b) = added_same s t w k e in (ap Some a, ap Some b)

-- ---- products

-- a product has the hint of its first factor
pub product_has : (s t w : NumType) → multiplied s t ≡ Some w → w.hint ≡ s.hint
unfolding multiplied
product_has s t w e =
    let whole : NumType = powers (s.length +ℤ t.length) (s.angle +ℤ t.angle) (s.time +ℤ t.time) (s.frequency +ℤ t.frequency) (s.resolution +ℤ t.resolution) (s.flex +ℤ t.flex) (s.percent +ℤ t.percent) s.hint in
    ap (λ (u : NumType). u.hint) (sym (within_is whole w e))

-- a plain factor leaves the type
pub times_plain : (h : Option Base) (s w : NumType) → multiplied s (no_powers h) ≡ Some w → w ≡ s
unfolding multiplied
times_plain h s w e =
    sym (within_is _ w e)
    ∙ (λ i. powers (+ℤ_idr s.length i) (+ℤ_idr s.angle i) (+ℤ_idr s.time i) (+ℤ_idr s.frequency i) (+ℤ_idr s.resolution i) (+ℤ_idr s.flex i) (+ℤ_idr s.percent i) s.hint)

-- a factor on plain ones gives its type
pub plain_times : (g : Option Base) (t w : NumType) → t.hint ≡ g → multiplied (no_powers g) t ≡ Some w → w ≡ t
unfolding multiplied
plain_times g t w h e =
    sym (within_is _ w e)
    ∙ (λ i. powers (+ℤ_idl t.length i) (+ℤ_idl t.angle i) (+ℤ_idl t.time i) (+ℤ_idl t.frequency i) (+ℤ_idl t.resolution i) (+ℤ_idl t.flex i) (+ℤ_idl t.percent i) (sym h i))

-- a product without a hint has factors without one
pub shared_next_none : (o : Option (Option Base)) (p : Option NumType) → shared_next o p ≡ Some None → (o ≡ Some None) × ((t : NumType) → p ≡ Some t → t.hint ≡ None)
shared_next_none None p e = absurd (none_some None e)
shared_next_none (Some h) None e = absurd (none_some None e)
shared_next_none (Some h) (Some u) e =
    let (a, b) = shared_none h u.hint e in
    (ap Some a, λ t is. ap (λ (s : NumType). s.hint) (sym (some_same u t is)) ∙ b)
