-- The sum of an item's own units has the value of the items.
use Rattle.std.specs.Prelude.{Bool, true, false, ◌&&◌, pos, List, [], ◌∷◌, map, filter, Option, Some, None, Ok, Err, if◌then◌else◌}
use Rattle.std.specs.List.{flat_map, list_all}
use Rattle.std.specs.Ordering.{int_eq}
use Rattle.std.proofs.Common.{◌≡◌, refl, sym, ◌∙◌, ap, ap₂}
use Rattle.std.proofs.lemmas.List.{map-append}
use Rattle.std.proofs.lemmas.Bool.Decides.{Decides-int_eq}
use Rattle.cv_spec_ratio.specs.Ratio.{Ratio, add, mul, zero_ratio}
use Rattle.cv_calc.specs.declared.unit.Unit.{Unit}
use Rattle.cv_calc.specs.declared.unit.Unit.TheVariants.{Number}
use Rattle.cv_calc.specs.declared.calc.Calc.{Calc}
use Rattle.cv_calc.specs.declared.calc.Calc.TheVariants.{Num, Sum}
use Rattle.cv_calc.specs.Unit.{same_unit, same_unit-true}
use Rattle.cv_calc.specs.Types.{type_of}
use Rattle.cv_calc.specs.Linear.{has_type}
use Rattle.cv_calc.specs.Value.{Meaning, unit_value, value, both, sum_of}
use Rattle.cv_om.specs.declared.error.OmErr.TheVariants.{BadType}
use Rattle.cv_om.specs.declared.item.SumItem.{SumItem}
use Rattle.cv_om.specs.UnitMap.{Powers}
use Rattle.cv_om.specs.SumValue.{Row}
use Rattle.cv_om.specs.Arithmetic.{typed}
use Rattle.cv_om.specs.Conversion.{units_by_name, item_unit, is_unit, has_unit, numbers_of, own_row}
use Rattle.cv_om_laws.specs.Valued.{HasPositiveUnits}
use Rattle.cv_om_laws.specs.Powers.{units_value, item_value, row_value}
use Rattle.cv_om_laws.proofs.Totals.{zero_add, total, totals_swapped, counted_once, sum_append}
use Rattle.cv_om_laws.proofs.Rows.{one_unit_value}
use Rattle.cv_om_laws.proofs.Values.{value-Num, value-Sum}
use Rattle.cv_om_laws.proofs.Wholes.{tables_are_whole}

module _ (m : Meaning) (h : HasPositiveUnits m) where
  unit_is : (ps : Powers) (t : Unit) → item_unit ps ≡ Some t → units_value m ps ≡ unit_value m t
  unfolding units_value
  unit_is [] t e = let same : Number ≡ t = cc in ap (unit_value m) same
  unit_is (p ∷ []) t e = go (int_eq p.1 (pos 1)) refl e
    where
      go : (b : Bool) → int_eq p.1 (pos 1) ≡ b → (if b then Some p.0 else None) ≡ Some t → units_value m (p ∷ []) ≡ unit_value m t
      go true b e =
          let same : p.0 ≡ t = cc in
          ap₂ (λ u z. units_value m ((u, z) ∷ [])) same ((Decides-int_eq p.1 (pos 1)).0 b) ∙ one_unit_value m h t
      go false b e = cc
  unit_is (p ∷ q ∷ ps) t e = cc

  -- what an item counts in a unit
  abbrev here : Unit → SumItem → Ratio
  here u s = if is_unit (item_unit s.units) u then item_value m s else zero_ratio

  number_value : (s : SumItem) (u : Unit) → is_unit (item_unit s.units) u ≡ true → value m (Num s.value u) ≡ Some (item_value m s)
  number_value s u e = go (item_unit s.units) refl e
    where
      go : (o : Option Unit) → item_unit s.units ≡ o → is_unit o u ≡ true → value m (Num s.value u) ≡ Some (item_value m s)
      go (Some t) f e = value-Num m s.value u ∙ ap (λ k. Some (mul s.value k)) (ap (unit_value m) (sym (same_unit-true t u e)) ∙ sym (unit_is s.units t f))
      go None f e = cc

  abbrev of_unit : Unit → Row → Row
  of_unit u row = filter (λ s. is_unit (item_unit s.units) u) row

  numbers_value : (u : Unit) (row : Row) → sum_of (map (value m) (numbers_of row u)) ≡ Some (total (here u) row)
  numbers_value u [] = refl
  numbers_value u (s ∷ row) = go (is_unit (item_unit s.units) u) refl (numbers_value u row)
    where
      go : (b : Bool) → is_unit (item_unit s.units) u ≡ b → sum_of (map (value m) (numbers_of row u)) ≡ Some (total (here u) row) →
          sum_of (map (value m) (map (λ s. Num s.value u) (if b then s ∷ of_unit u row else of_unit u row))) ≡ Some (add (if b then item_value m s else zero_ratio) (total (here u) row))
      go true b ih = ap₂ (both add) (number_value s u b) ih
      go false b ih = ih ∙ ap Some (sym (zero_add (total (here u) row)))

  all_numbers_value : (row : Row) (us : List Unit) → sum_of (map (value m) (flat_map (numbers_of row) us)) ≡ Some (total (λ u. total (here u) row) us)
  all_numbers_value row [] = refl
  all_numbers_value row (u ∷ us) =
      ap sum_of (map-append (value m) (numbers_of row u) (flat_map (numbers_of row) us))
      ∙ sum_append (map (value m) (numbers_of row u)) (map (value m) (flat_map (numbers_of row) us)) (total (here u) row) (total (λ u. total (here u) row) us) (numbers_value u row) (all_numbers_value row us)

  -- ---- each item counts in its unit, which stands in the table once

  item_counts : (s : SumItem) → has_unit (item_unit s.units) ≡ true → total (λ u. here u s) units_by_name ≡ item_value m s
  item_counts s e = go (item_unit s.units) e
    where
      go : (o : Option Unit) → has_unit o ≡ true → total (λ u. if is_unit o u then item_value m s else zero_ratio) units_by_name ≡ item_value m s
      go (Some t) e = counted_once (same_unit t) (item_value m s) units_by_name (tables_are_whole.named_once t)
      go None e = cc

  both_hold : (a b : Bool) → (a && b) ≡ true → (a ≡ true) × (b ≡ true)
  both_hold true b e = (refl, e)
  both_hold false b e = cc

  items_count : (row : Row) → list_all (λ s. has_unit (item_unit s.units)) row ≡ true → total (λ s. total (λ u. here u s) units_by_name) row ≡ row_value m row
  unfolding row_value
  items_count [] e = refl
  items_count (s ∷ row) e =
      let parts = both_hold (has_unit (item_unit s.units)) (list_all (λ s. has_unit (item_unit s.units)) row) e in
      ap₂ add (item_counts s parts.0) (items_count row parts.1)

  abbrev numbers : Row → List Calc
  numbers row = flat_map (numbers_of row) units_by_name

  pub own_kept : (row : Row) (d : Calc) → own_row row ≡ Ok d → value m d ≡ Some (row_value m row)
  own_kept row d e = go (list_all (λ s. has_unit (item_unit s.units)) row) refl e
    where
      with_type : list_all (λ s. has_unit (item_unit s.units)) row ≡ true → (b : Bool) → (if b then Ok (Sum (numbers row)) else Err BadType) ≡ Ok d → value m d ≡ Some (row_value m row)
      with_type k true e =
          let same : d ≡ Sum (numbers row) = cc in
          ap (value m) same ∙ value-Sum m (numbers row) ∙ all_numbers_value row units_by_name ∙ ap Some (totals_swapped here units_by_name row ∙ items_count row k)
      with_type k false e = cc

      go : (b : Bool) → list_all (λ s. has_unit (item_unit s.units)) row ≡ b → (if b then typed (Sum (numbers row)) else Err BadType) ≡ Ok d → value m d ≡ Some (row_value m row)
      go true k e = with_type k (has_type (type_of (Sum (numbers row)))) e
      go false k e = cc
