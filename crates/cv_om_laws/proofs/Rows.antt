-- The values of rows of items.
use Rattle.std.specs.Prelude.{Bool, true, false, ◌&&◌, pos, [], ◌∷◌, fold, Result, Ok, Err, if◌then◌else◌}
use Rattle.std.specs.Ordering.{int_eq}
use lib.Pointwise.{pointwise}
use Rattle.std.proofs.Common.{◌≡◌, refl, sym, ◌∙◌, ap, ap₂, subst}
use Rattle.std.proofs.lemmas.Bool.Decides.{Decides-int_eq}
use Rattle.cv_spec_ratio.specs.Ratio.{Ratio, add, mul, zero_ratio, one_ratio}
use Rattle.cv_spec_ratio.proofs.Laws.{add_comm, add_assoc, add_zero, mul-assoc, mul_one, mul-add_right}
use Rattle.cv_frac.specs.declared.error.FracErr.TheVariants as fraction
use Rattle.cv_frac.specs.Bounded.{in_bounds, bounded}
use Rattle.cv_calc.specs.declared.unit.Unit.{Unit}
use Rattle.cv_calc.specs.declared.unit.Unit.TheVariants.{Number, Percent, Em, Rem, Ex, Ch, Ic, Vw, Vh, Vmin, Vmax}
use Rattle.cv_calc.specs.Unit.{same_unit, same_unit-true}
use Rattle.cv_calc.specs.Value.{Meaning, unit_value}
use Rattle.cv_om.specs.declared.error.OmErr.{OmErr}
use Rattle.cv_om.specs.declared.item.SumItem.{SumItem}
use Rattle.cv_om.specs.Refusal.{answer_map, in_range}
use Rattle.cv_om.specs.UnitMap.{Powers, power_in, same_power, same_powers, sum_unit, sum_factor, unit_powers}
use Rattle.cv_om.specs.SumValue.{Row, item, number_row, added_item, with_item, with_next, with_row}
use Rattle.cv_om_laws.specs.Valued.{HasPositiveUnits}
use Rattle.cv_om_laws.specs.Powers.{raised, units_value, item_value, row_value}
use Rattle.cv_om_laws.proofs.Raised.{one_mul}
use Rattle.cv_om_laws.proofs.Maps.{IsListed}

pub bounded_same : (r v : Ratio) → in_range (bounded r) ≡ Ok v → r ≡ v
bounded_same r v e = go (in_bounds r) e
  where
    go : (b : Bool) → in_range (if b then Ok r else Err fraction.Range) ≡ Ok v → r ≡ v
    go true e = cc
    go false e = cc

both_hold : (a b : Bool) → (a && b) ≡ true → (a ≡ true) × (b ≡ true)
both_hold true b e = (refl, e)
both_hold false b e = cc

pub maps_same : (a b : Powers) → same_powers a b ≡ true → a ≡ b
maps_same [] [] e = refl
maps_same [] (q ∷ qs) e = cc
maps_same (p ∷ ps) [] e = cc
maps_same (p ∷ ps) (q ∷ qs) e =
    let parts = both_hold (same_power p q) (pointwise same_power ps qs) e in
    let both = both_hold (same_unit p.0 q.0) (int_eq p.1 q.1) parts.0 in
    ap₂ (λ x xs. x ∷ xs) (ap₂ (λ u z. (u, z)) (same_unit-true p.0 q.0 both.0) ((Decides-int_eq p.1 q.1).0 both.1)) (maps_same ps qs parts.1)

abbrev pub AllListed : Row → Type 0
AllListed [] = Prim.Unit {0}
AllListed (s ∷ ss) = IsListed s.units × AllListed ss

unit_listed : (u : Unit) → IsListed (unit_powers u)
unfolding power_in
unit_listed Number = refl
unit_listed _ = refl

module _ (m : Meaning) (h : HasPositiveUnits m) where
  pub record Right (x : Ratio) (row : Row) : Type 0 where
    pub listed : AllListed row
    pub total : row_value m row ≡ x

  -- ---- a number

  pub one_unit_value : (u : Unit) → units_value m ((u, pos 1) ∷ []) ≡ unit_value m u
  unfolding units_value raised
  one_unit_value u = mul_one (mul (unit_value m u) one_ratio) ∙ mul_one (unit_value m u)

  pub factor_is : (u : Unit) → mul (sum_factor u) (units_value m (unit_powers u)) ≡ unit_value m u
  unfolding units_value
  factor_is Number = mul_one one_ratio
  factor_is Percent = ap (mul one_ratio) (one_unit_value Percent) ∙ one_mul m.percent
  factor_is Em = ap (mul one_ratio) (one_unit_value Em) ∙ one_mul (unit_value m Em)
  factor_is Rem = ap (mul one_ratio) (one_unit_value Rem) ∙ one_mul (unit_value m Rem)
  factor_is Ex = ap (mul one_ratio) (one_unit_value Ex) ∙ one_mul (unit_value m Ex)
  factor_is Ch = ap (mul one_ratio) (one_unit_value Ch) ∙ one_mul (unit_value m Ch)
  factor_is Ic = ap (mul one_ratio) (one_unit_value Ic) ∙ one_mul (unit_value m Ic)
  factor_is Vw = ap (mul one_ratio) (one_unit_value Vw) ∙ one_mul (unit_value m Vw)
  factor_is Vh = ap (mul one_ratio) (one_unit_value Vh) ∙ one_mul (unit_value m Vh)
  factor_is Vmin = ap (mul one_ratio) (one_unit_value Vmin) ∙ one_mul (unit_value m Vmin)
  factor_is Vmax = ap (mul one_ratio) (one_unit_value Vmax) ∙ one_mul (unit_value m Vmax)
  factor_is u = ap (mul (sum_factor u)) (one_unit_value (sum_unit u)) ∙ mul_one (sum_factor u)

  one_row : (s : SumItem) → row_value m (s ∷ []) ≡ item_value m s
  unfolding row_value
  one_row s = add_zero (item_value m s)

  pub number_right : (v : Ratio) (u : Unit) (row : Row) → number_row v u ≡ Ok row → Right (mul v (unit_value m u)) row
  number_right v u row e = go (in_range (bounded (mul v (sum_factor u)))) refl e
    where
      go : (r : Result Ratio OmErr) → in_range (bounded (mul v (sum_factor u))) ≡ r → answer_map (λ w. item w (unit_powers u) ∷ []) r ≡ Ok row → Right (mul v (unit_value m u)) row
      go (Ok w) f e =
          let same : item w (unit_powers u) ∷ [] ≡ row = cc in
          let P : Row → Type 0 = λ r. Right (mul v (unit_value m u)) r in
          subst P same record {
            listed = (unit_listed u, tt);
            total = one_row (item w (unit_powers u)) ∙ ap (λ r. mul r (units_value m (unit_powers u))) (sym (bounded_same (mul v (sum_factor u)) w f)) ∙ mul-assoc v (sum_factor u) (units_value m (unit_powers u)) ∙ ap (mul v) (factor_is u);
          }
      go (Err z) f e = cc

  -- ---- a sum

  swapped : (a b c : Ratio) → add (add a b) c ≡ add (add a c) b
  swapped a b c = add_assoc a b c ∙ ap (add a) (add_comm b c) ∙ sym (add_assoc a c b)

  item_right : (row new : Row) (t : SumItem) → with_item row t ≡ Ok new → AllListed row → IsListed t.units → Right (add (row_value m row) (item_value m t)) new
  unfolding with_item row_value
  item_right [] new t e l k =
      let same : t ∷ [] ≡ new = cc in
      let P : Row → Type 0 = λ r. Right (add zero_ratio (item_value m t)) r in
      subst P same record { listed = (k, tt); total = add_comm (item_value m t) zero_ratio }
  item_right (s ∷ ss) new t e l k = go (same_powers t.units s.units) refl e (item_right ss)
    where
      joined : (r : Result Ratio OmErr) → in_range (bounded (add s.value t.value)) ≡ r → t.units ≡ s.units → answer_map (λ sum. sum ∷ ss) (answer_map (λ v. item v s.units) r) ≡ Ok new → Right (add (add (item_value m s) (row_value m ss)) (item_value m t)) new
      joined (Ok r) f u e =
          let same : item r s.units ∷ ss ≡ new = cc in
          let P : Row → Type 0 = λ x. Right (add (add (item_value m s) (row_value m ss)) (item_value m t)) x in
          subst P same record {
            listed = l;
            total =
                ap (λ x. add (mul x (units_value m s.units)) (row_value m ss)) (sym (bounded_same (add s.value t.value) r f))
                ∙ ap (λ x. add x (row_value m ss)) (mul-add_right s.value t.value (units_value m s.units) ∙ ap (λ us. add (item_value m s) (mul t.value (units_value m us))) (sym u))
                ∙ swapped (item_value m s) (item_value m t) (row_value m ss);
          }
      joined (Err z) f u e = cc

      later : (r : Result Row OmErr) → with_item ss t ≡ r → answer_map (λ rest. s ∷ rest) r ≡ Ok new → ((new : Row) (t : SumItem) → with_item ss t ≡ Ok new → AllListed ss → IsListed t.units → Right (add (row_value m ss) (item_value m t)) new) →
          Right (add (add (item_value m s) (row_value m ss)) (item_value m t)) new
      later (Ok rest) f e ih =
          let right = ih rest t f l.1 k in
          let same : s ∷ rest ≡ new = cc in
          let P : Row → Type 0 = λ x. Right (add (add (item_value m s) (row_value m ss)) (item_value m t)) x in
          subst P same record { listed = (l.0, right.listed); total = ap (add (item_value m s)) right.total ∙ sym (add_assoc (item_value m s) (row_value m ss) (item_value m t)) }
      later (Err z) f e ih = cc

      go : (b : Bool) → same_powers t.units s.units ≡ b → (if b then answer_map (λ sum. sum ∷ ss) (added_item s t) else answer_map (λ rest. s ∷ rest) (with_item ss t)) ≡ Ok new →
          ((new : Row) (t : SumItem) → with_item ss t ≡ Ok new → AllListed ss → IsListed t.units → Right (add (row_value m ss) (item_value m t)) new) → Right (add (add (item_value m s) (row_value m ss)) (item_value m t)) new
      go true b e ih = joined (in_range (bounded (add s.value t.value))) refl (maps_same t.units s.units b) e
      go false b e ih = later (with_item ss t) refl e ih

  next_refused : (z : OmErr) (ts : Row) → fold with_next (Err z) ts ≡ Err z
  next_refused z [] = refl
  next_refused z (t ∷ ts) = next_refused z ts

  pub row_right : (row ts new : Row) → with_row (Ok row) ts ≡ Ok new → AllListed row → AllListed ts → Right (add (row_value m row) (row_value m ts)) new
  unfolding row_value
  row_right row [] new e l k =
      let same : row ≡ new = cc in
      let P : Row → Type 0 = λ x. Right (add (row_value m row) zero_ratio) x in
      subst P same record { listed = l; total = sym (add_zero (row_value m row)) }
  row_right row (t ∷ ts) new e l k = go (with_item row t) refl e (λ next f a. row_right next ts new f a k.1)
    where
      go : (r : Result Row OmErr) → with_item row t ≡ r → fold with_next r ts ≡ Ok new → ((next : Row) → with_row (Ok next) ts ≡ Ok new → AllListed next → Right (add (row_value m next) (row_value m ts)) new) → Right (add (row_value m row) (add (item_value m t) (row_value m ts))) new
      go (Ok next) f e ih =
          let first = item_right row next t f l k.0 in
          let rest = ih next e first.listed in
          record { listed = rest.listed; total = rest.total ∙ ap (λ x. add x (row_value m ts)) first.total ∙ add_assoc (row_value m row) (item_value m t) (row_value m ts) }
      go (Err z) f e ih = absurd (no (sym (next_refused z ts) ∙ e))
        where
          no : ◌≡◌ {A = Result Row OmErr} (Err z) (Ok new) → ⊥
          no e = cc
