-- A type that has a hint has no power of the percentage, so its own hint leaves it as it is, and a plain factor too.
use Rattle.std.specs.Prelude.{Bool, true, false, ◌||◌, pos, neg_ℤ, ◌+ℤ◌, List, [], ◌∷◌, map, fold, Option, Some, None, if◌then◌else◌}
use Rattle.std.specs.Option.{option_and_then}
use Rattle.std.proofs.Common.{◌≡◌, ◌⊎◌, inl, inr, refl, sym, ◌∙◌, ap, ap₂, subst}
use Rattle.std.proofs.Math.IntN.{+ℤ_idl, +ℤ_idr}
use Rattle.cv_calc.specs.declared.unit.Base.{Base}
use Rattle.cv_calc.specs.declared.unit.Base.TheVariants.{Length, Angle, Time, Frequency, Resolution, Flex}
use Rattle.cv_calc.specs.declared.unit.NumType.{NumType}
use Rattle.cv_calc.specs.declared.unit.Unit as units
use Rattle.cv_calc.specs.declared.unit.Unit.TheVariants.{Number}
use Rattle.cv_calc.specs.declared.calc.Calc.{Calc}
use Rattle.cv_calc.specs.Tree.{Each, by_cases, fold-Num, fold-Sum, fold-Product, fold-Negate, fold-Invert, fold-Min, fold-Max, fold-Clamp}
use Rattle.cv_calc.specs.Types.{within, powers, no_powers, unit_type, moved, hinted, with_hint, shared, same_powers, has_percent, if_same, tried, else_tried, tried_all, added_alike, added, added_next, multiplied, multiplied_next, sum_type, shared_hint, product_under, product_type, negated, type_of, type_step}
use Rattle.cv_calc_laws.proofs.Lists.{none_some, some_same, from_bound}
use Rattle.cv_calc_laws.proofs.UnitTypes.{unit_hint, within_is, product_has}
use Rattle.cv_om.proofs.Powers.{types_kept}

-- no hint, or no power of the percentage
abbrev IsSettled : NumType → Type 0
IsSettled t = t.hint ≡ None ⊎ t.percent ≡ pos 0

abbrev AreSettled : Option NumType → Type 0
AreSettled o = (t : NumType) → o ≡ Some t → IsSettled t

moved_percent : (base : Base) (t : NumType) → (moved base t).percent ≡ pos 0
moved_percent Length t = refl
moved_percent Angle t = refl
moved_percent Time t = refl
moved_percent Frequency t = refl
moved_percent Resolution t = refl
moved_percent Flex t = refl

hinted_percent : (base : Base) (t w : NumType) → hinted base t ≡ Some w → w.percent ≡ pos 0
hinted_percent base t w e = ap (λ (s : NumType). s.percent) (sym (within_is (moved base t) w e)) ∙ moved_percent base t

under_settled : (h : Option Base) (t w : NumType) → IsSettled t → with_hint h t ≡ Some w → IsSettled w
under_settled None t w k e = subst IsSettled (some_same t w e) k
under_settled (Some base) t w k e = inr (hinted_percent base t w e)

-- ---- sums

same_settled : (u v w : NumType) → IsSettled u → if_same u v ≡ Some w → IsSettled w
same_settled u v w k e = go (same_powers u v) e
  where
    go : (b : Bool) → (if b then Some u else None) ≡ Some w → IsSettled w
    go true e = subst IsSettled (some_same u w e) k
    go false e = absurd (none_some w e)

tried_settled : (base : Base) (s t : NumType) → AreSettled (tried base s t)
tried_settled base s t w e =
    let (u, first, next) = from_bound (λ u. option_and_then (λ v. if_same u v) (hinted base t)) (hinted base s) w e in
    let (v, second, last) = from_bound (λ v. if_same u v) (hinted base t) w next in
    same_settled u v w (inr (hinted_percent base s u first)) last

else_settled : (o : Option NumType) (base : Base) (s t : NumType) → AreSettled o → AreSettled (else_tried o base s t)
else_settled (Some u) base s t h = h
else_settled None base s t h = tried_settled base s t

all_tried_settled : (s t : NumType) → AreSettled (tried_all s t)
unfolding tried_all
all_tried_settled s t =
    else_settled _ Flex s t (else_settled _ Resolution s t (else_settled _ Frequency s t (else_settled _ Time s t (else_settled _ Angle s t (tried_settled Length s t)))))

alike_settled : (s t w : NumType) → IsSettled s → added_alike s t ≡ Some w → IsSettled w
alike_settled s t w k e = go (same_powers s t) (has_percent s || has_percent t) e
  where
    go : (b c : Bool) → (if b then Some s else if c then tried_all s t else None) ≡ Some w → IsSettled w
    go true c e = subst IsSettled (some_same s w e) k
    go false true e = all_tried_settled s t w e
    go false false e = absurd (none_some w e)

abbrev sum_under : NumType → NumType → Option Base → Option NumType
sum_under s t h = option_and_then (λ u. option_and_then (λ v. added_alike u v) (with_hint h t)) (with_hint h s)

added_settled : (s t w : NumType) → IsSettled s → added s t ≡ Some w → IsSettled w
unfolding added
added_settled s t w k e =
    let (h, first, next) = from_bound (sum_under s t) (shared s.hint t.hint) w e in
    let (u, second, more) = from_bound (λ u. option_and_then (λ v. added_alike u v) (with_hint h t)) (with_hint h s) w next in
    let (v, third, last) = from_bound (λ v. added_alike u v) (with_hint h t) w more in
    alike_settled u v w (under_settled h s u k second) last

next_settled : (o p : Option NumType) → AreSettled o → AreSettled (added_next o p)
next_settled o p k w e =
    let (u, first, next) = from_bound (λ u. option_and_then (λ v. added u v) p) o w e in
    let (v, second, last) = from_bound (λ v. added u v) p w next in
    added_settled u v w (k u first) last

none_settled : AreSettled None
none_settled t e = absurd (none_some t e)

sums_settled : (o : Option NumType) (ts : List (Option NumType)) → AreSettled o → AreSettled (fold added_next o ts)
sums_settled o [] k = k
sums_settled o (t ∷ ts) k = sums_settled (added_next o t) ts (next_settled o t k)

abbrev AllSettled : List (Option NumType) → Type 0
AllSettled [] = Unit {0}
AllSettled (o ∷ os) = AreSettled o × AllSettled os

sum_settled : (ts : List (Option NumType)) → AllSettled ts → AreSettled (sum_type ts)
unfolding sum_type
sum_settled [] h = none_settled
sum_settled (t ∷ ts) h = sums_settled t ts h.0

-- ---- products

-- of a hint, and settled
abbrev IsUnder : Option Base → NumType → Type 0
IsUnder h t = (t.hint ≡ h) × (h ≡ None ⊎ t.percent ≡ pos 0)

abbrev AreUnder : Option Base → Option NumType → Type 0
AreUnder h o = (t : NumType) → o ≡ Some t → IsUnder h t

product_percent : (s t w : NumType) → multiplied s t ≡ Some w → w.percent ≡ s.percent +ℤ t.percent
unfolding multiplied
product_percent s t w e =
    let whole : NumType = powers (s.length +ℤ t.length) (s.angle +ℤ t.angle) (s.time +ℤ t.time) (s.frequency +ℤ t.frequency) (s.resolution +ℤ t.resolution) (s.flex +ℤ t.flex) (s.percent +ℤ t.percent) s.hint in
    ap (λ (u : NumType). u.percent) (sym (within_is whole w e))

times_under : (h : Option Base) (u v w : NumType) → IsUnder h u → with_hint h v ≡ Some w → (x : NumType) → multiplied u w ≡ Some x → IsUnder h x
times_under None u v w k e x f = (product_has u w x f ∙ k.0, inl refl)
times_under (Some base) u v w k e x f = (product_has u w x f ∙ k.0, inr (product_percent u w x f ∙ ap₂ (λ a b. a +ℤ b) (free k.1) (hinted_percent base v w e)))
  where
    free : ◌≡◌ {A = Option Base} (Some base) None ⊎ u.percent ≡ pos 0 → u.percent ≡ pos 0
    free (inl e) = absurd (none_some base (sym e))
    free (inr e) = e

next_under : (h : Option Base) (o p : Option NumType) → AreUnder h o → AreUnder h (multiplied_next h o p)
next_under h o p k x e =
    let (u, first, next) = from_bound (λ u. option_and_then (λ v. option_and_then (λ w. multiplied u w) (with_hint h v)) p) o x e in
    let (v, second, more) = from_bound (λ v. option_and_then (λ w. multiplied u w) (with_hint h v)) p x next in
    let (w, third, last) = from_bound (λ w. multiplied u w) (with_hint h v) x more in
    times_under h u v w (k u first) third x last

products_under : (h : Option Base) (o : Option NumType) (ts : List (Option NumType)) → AreUnder h o → AreUnder h (fold (multiplied_next h) o ts)
products_under h o [] k = k
products_under h o (t ∷ ts) k = products_under h (multiplied_next h o t) ts (next_under h o t k)

plain_under : (h : Option Base) → AreUnder h (Some (no_powers h))
plain_under h t e = subst (IsUnder h) (some_same (no_powers h) t e) (refl, inr refl)

under_is_settled : (h : Option Base) (t : NumType) → IsUnder h t → IsSettled t
under_is_settled h t k = go k.1
  where
    go : h ≡ None ⊎ t.percent ≡ pos 0 → IsSettled t
    go (inl e) = inl (k.0 ∙ e)
    go (inr e) = inr e

product_settled : (ts : List (Option NumType)) → AreSettled (product_type ts)
unfolding product_type product_under
product_settled [] = none_settled
product_settled (t ∷ ts) = λ w e.
    let (h, first, next) = from_bound (product_under (t ∷ ts)) (shared_hint (t ∷ ts)) w e in
    under_is_settled h w (products_under h (Some (no_powers h)) (t ∷ ts) (plain_under h) w next)

negated_settled : (t w : NumType) → IsSettled t → negated t ≡ Some w → IsSettled w
negated_settled t w k e = go k
  where
    same : powers (neg_ℤ t.length) (neg_ℤ t.angle) (neg_ℤ t.time) (neg_ℤ t.frequency) (neg_ℤ t.resolution) (neg_ℤ t.flex) (neg_ℤ t.percent) t.hint ≡ w
    same = within_is _ w e

    go : IsSettled t → IsSettled w
    go (inl h) = inl (ap (λ (s : NumType). s.hint) (sym same) ∙ h)
    go (inr h) = inr (ap (λ (s : NumType). s.percent) (sym same) ∙ ap neg_ℤ h)

inverse_settled : (o : Option NumType) → AreSettled o → AreSettled (option_and_then negated o)
inverse_settled o k w e = let (t, first, next) = from_bound negated o w e in negated_settled t w (k t first) next

-- ---- trees

abbrev IsTyped : Calc → Type 0
IsTyped c = AreSettled (type_of c)

along : (o p : Option NumType) → o ≡ p → AreSettled p → AreSettled o
along o p e k t f = k t (sym e ∙ f)

each_settled : (cs : List Calc) → Each IsTyped cs → AllSettled (map type_of cs)
each_settled [] h = tt
each_settled (c ∷ cs) h = (h.0, each_settled cs h.1)

unit_settled : (u : units.Unit) → AreSettled (Some (unit_type u))
unit_settled u t e = subst IsSettled (some_same (unit_type u) t e) (inl (unit_hint u))

types_settled : (c : Calc) → IsTyped c
unfolding type_of
types_settled = by_cases IsTyped record {
  num = λ v u. along _ _ (fold-Num type_step v u) (unit_settled u);
  sum = λ cs h. along _ _ (fold-Sum type_step cs) (sum_settled (map type_of cs) (each_settled cs h));
  product = λ cs h. along _ _ (fold-Product type_step cs) (product_settled (map type_of cs));
  negate = λ c h. along _ _ (fold-Negate type_step c) h;
  invert = λ c h. along _ _ (fold-Invert type_step c) (inverse_settled (type_of c) h);
  min = λ cs h. along _ _ (fold-Min type_step cs) (sum_settled (map type_of cs) (each_settled cs h));
  max = λ cs h. along _ _ (fold-Max type_step cs) (sum_settled (map type_of cs) (each_settled cs h));
  clamp = λ a b c h k l. along _ _ (fold-Clamp type_step a b c) (next_settled _ (type_of c) (next_settled _ (type_of b) h));
}

-- ---- a type under its own hint

moved_same : (base : Base) (t : NumType) → t.hint ≡ Some base → t.percent ≡ pos 0 → moved base t ≡ t
moved_same Length t h e = λ i. powers ((ap (λ z. t.length +ℤ z) e ∙ +ℤ_idr t.length) i) t.angle t.time t.frequency t.resolution t.flex (sym e i) (sym h i)
moved_same Angle t h e = λ i. powers t.length ((ap (λ z. t.angle +ℤ z) e ∙ +ℤ_idr t.angle) i) t.time t.frequency t.resolution t.flex (sym e i) (sym h i)
moved_same Time t h e = λ i. powers t.length t.angle ((ap (λ z. t.time +ℤ z) e ∙ +ℤ_idr t.time) i) t.frequency t.resolution t.flex (sym e i) (sym h i)
moved_same Frequency t h e = λ i. powers t.length t.angle t.time ((ap (λ z. t.frequency +ℤ z) e ∙ +ℤ_idr t.frequency) i) t.resolution t.flex (sym e i) (sym h i)
moved_same Resolution t h e = λ i. powers t.length t.angle t.time t.frequency ((ap (λ z. t.resolution +ℤ z) e ∙ +ℤ_idr t.resolution) i) t.flex (sym e i) (sym h i)
moved_same Flex t h e = λ i. powers t.length t.angle t.time t.frequency t.resolution ((ap (λ z. t.flex +ℤ z) e ∙ +ℤ_idr t.flex) i) (sym e i) (sym h i)

own_hint : (t : NumType) → IsSettled t → within t ≡ Some t → with_hint t.hint t ≡ Some t
own_hint t k w = go t.hint refl
  where
    free : (base : Base) → t.hint ≡ Some base → IsSettled t → t.percent ≡ pos 0
    free base e (inl h) = absurd (none_some base (sym h ∙ e))
    free base e (inr h) = h

    go : (h : Option Base) → t.hint ≡ h → with_hint h t ≡ Some t
    go None e = refl
    go (Some base) e = ap within (moved_same base t e (free base e k)) ∙ w

-- what is added to plain powers stays
plain_times : (t : NumType) → within t ≡ Some t → multiplied (no_powers t.hint) t ≡ Some t
unfolding multiplied
plain_times t w =
    ap within (λ i. powers (+ℤ_idl t.length i) (+ℤ_idl t.angle i) (+ℤ_idl t.time i) (+ℤ_idl t.frequency i) (+ℤ_idl t.resolution i) (+ℤ_idl t.flex i) (+ℤ_idl t.percent i) t.hint) ∙ w

-- a product of one factor has its type
single_type : (t : NumType) → IsSettled t → within t ≡ Some t → product_type (Some t ∷ []) ≡ Some t
unfolding product_type shared_hint product_under
single_type t k w = ap (λ o. option_and_then (λ x. multiplied (no_powers t.hint) x) o) (own_hint t k w) ∙ plain_times t w

-- and so has one behind a plain number
plain_step : (h : Option Base) → multiplied_next h (Some (no_powers h)) (Some (no_powers None)) ≡ Some (no_powers h)
unfolding multiplied
plain_step None = refl
plain_step (Some Length) = refl
plain_step (Some Angle) = refl
plain_step (Some Time) = refl
plain_step (Some Frequency) = refl
plain_step (Some Resolution) = refl
plain_step (Some Flex) = refl

behind_plain : (t : NumType) → product_type (Some (no_powers None) ∷ Some t ∷ []) ≡ product_type (Some t ∷ [])
unfolding product_type shared_hint product_under
behind_plain t = ap (λ o. multiplied_next t.hint o (Some t)) (plain_step t.hint)

module _ (c : Calc) (t : NumType) (e : type_of c ≡ Some t) where
  pub single_product : product_type (type_of c ∷ []) ≡ type_of c
  single_product = ap (λ o. product_type (o ∷ [])) e ∙ single_type t (types_settled c t e) (types_kept c t e) ∙ sym e

  pub behind_number : product_type (Some (unit_type Number) ∷ type_of c ∷ []) ≡ type_of c
  behind_number =
      ap (λ o. product_type (Some (no_powers None) ∷ o ∷ [])) e ∙ behind_plain t ∙ single_type t (types_settled c t e) (types_kept c t e) ∙ sym e

-- the quotient of a number of a unit and a plain one
pub quotient_type : (u : units.Unit) → product_type (Some (unit_type u) ∷ option_and_then negated (Some (unit_type Number)) ∷ []) ≡ Some (unit_type u)
unfolding product_type shared_hint product_under multiplied
quotient_type Number = refl
quotient_type _ = refl
