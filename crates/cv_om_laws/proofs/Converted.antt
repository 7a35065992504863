-- A conversion to a unit keeps the value.
use Rattle.std.specs.Prelude.{Bool, true, false, Option, Some, None, Result, Ok, Err, if◌then◌else◌}
use Rattle.std.proofs.Common.{◌≡◌, refl, sym, ◌∙◌, ap}
use Rattle.cv_spec_ratio.specs.Ratio.{Ratio, mul, reciprocal, one_ratio}
use Rattle.cv_spec_ratio.proofs.Laws.{mul_one, mul_comm_ratio}
use Rattle.cv_frac.specs.Bounded.{bounded_product, quotient_of}
use Rattle.cv_calc.specs.declared.unit.Unit.{Unit}
use Rattle.cv_calc.specs.declared.calc.Calc.{Calc}
use Rattle.cv_calc.specs.declared.calc.Calc.TheVariants.{Num}
use Rattle.cv_calc.specs.Value.{Meaning, unit_value, value}
use Rattle.cv_om.specs.declared.error.OmErr.{OmErr}
use Rattle.cv_om.specs.declared.error.OmErr.TheVariants.{BadType}
use Rattle.cv_om.specs.declared.item.SumItem.{SumItem}
use Rattle.cv_om.specs.Refusal.{and_then, answer_map, in_range}
use Rattle.cv_om.specs.UnitMap.{sum_factor, unit_powers}
use Rattle.cv_om.specs.SumValue.{Row, one_item, sum_value}
use Rattle.cv_om.specs.Conversion.{converts, in_unit, converted_item, converted_row, converted}
use Rattle.cv_om_laws.specs.Valued.{HasPositiveUnits}
use Rattle.cv_om_laws.specs.Powers.{units_value, item_value, ConversionsAreKept}
use Rattle.cv_om_laws.proofs.Raised.{crossed, reciprocal_product}
use Rattle.cv_om_laws.proofs.Rows.{bounded_same, maps_same, factor_is}
use Rattle.cv_om_laws.proofs.Kept.{all_kept, one_fits}
use Rattle.cv_om_laws.proofs.Values.{value-Num}

module _ (m : Meaning) (h : HasPositiveUnits m) where
  number_kept : (v w f g k : Ratio) → mul f g ≡ one_ratio → mul v g ≡ w → mul w (mul f k) ≡ mul v k
  number_kept v w f g k a b = ap (λ z. mul z (mul f k)) (sym b) ∙ ap (λ z. mul (mul v g) z) (mul_comm_ratio f k) ∙ crossed v g k f ∙ ap (mul (mul v k)) (mul_comm_ratio g f ∙ a) ∙ mul_one (mul v k)

  pub quotient_kept : (u : Unit) (v w : Ratio) → in_range (quotient_of v (sum_factor u)) ≡ Ok w → mul w (unit_value m u) ≡ mul v (units_value m (unit_powers u))
  quotient_kept u v w e = go (reciprocal (sum_factor u)) refl e
    where
      go : (o : Option Ratio) → reciprocal (sum_factor u) ≡ o → in_range (bounded_product v o) ≡ Ok w → mul w (unit_value m u) ≡ mul v (units_value m (unit_powers u))
      go None r e = cc
      go (Some g) r e =
          ap (mul w) (sym (factor_is m h u)) ∙ number_kept v w (sum_factor u) g (units_value m (unit_powers u)) (reciprocal_product (sum_factor u) g r) (bounded_same (mul v g) w e)

  item_kept : (u : Unit) (s : SumItem) (c : Calc) → converted_item u s ≡ Ok c → value m c ≡ Some (item_value m s)
  item_kept u s c e = go (converts u s) refl e
    where
      number : (q : Result Ratio OmErr) → in_unit u s ≡ q → s.units ≡ unit_powers u → answer_map (λ v. Num v u) q ≡ Ok c → value m c ≡ Some (item_value m s)
      number (Ok w) i p e =
          let same : c ≡ Num w u = cc in
          ap (value m) same ∙ value-Num m w u ∙ ap Some (quotient_kept u s.value w i ∙ ap (λ us. mul s.value (units_value m us)) (sym p))
      number (Err z) i p e = cc

      go : (b : Bool) → converts u s ≡ b → (if b then answer_map (λ v. Num v u) (in_unit u s) else Err BadType) ≡ Ok c → value m c ≡ Some (item_value m s)
      go true b e = number (in_unit u s) refl (maps_same s.units (unit_powers u) b) e
      go false b e = cc

  kept : (u : Unit) (c d : Calc) (x : Ratio) → value m c ≡ Some x → converted u c ≡ Ok d → value m d ≡ Some x
  unfolding converted
  kept u c d x e f = go (sum_value c) refl f
    where
      item_of : (row : Row) → sum_value c ≡ Ok row → (q : Result SumItem OmErr) → one_item row ≡ q → and_then q (converted_item u) ≡ Ok d → value m d ≡ Some x
      item_of row r (Ok s) i f = item_kept u s d f ∙ ap Some (one_fits m h x row s (all_kept m h c x row e r) i).1
      item_of row r (Err z) i f = cc

      go : (q : Result Row OmErr) → sum_value c ≡ q → and_then q (converted_row u) ≡ Ok d → value m d ≡ Some x
      go (Ok row) r f = item_of row r (one_item row) refl f
      go (Err z) r f = cc

pub conversions_are_kept : ConversionsAreKept
conversions_are_kept m h u c d x e f = kept m h u c d x e f
