-- What the given units of a sum collect has the value of the items.
use Rattle.std.specs.Prelude.{Bool, true, false, ◌==◌, List, [], ◌∷◌, map, fold, Option, Some, None, Result, Ok, Err, if◌then◌else◌}
use Rattle.std.specs.List.{enumerate_from, position_from}
use Rattle.std.proofs.Common.{◌≡◌, ℕ, ◌+◌, ◌<◌, ◌≤◌, refl, sym, ◌∙◌, ap, ap₂, arith}
use Rattle.std.proofs.lemmas.Bool.Decides.{Decides-eqb}
use Rattle.std.proofs.lemmas.Iterator.Adapters.{position_from-zero}
use Rattle.cv_spec_ratio.specs.Ratio.{Ratio, add, mul, zero_ratio}
use Rattle.cv_spec_ratio.proofs.Laws.{add_assoc, add_zero, mul_comm_ratio, mul-add_right}
use Rattle.cv_frac.specs.Bounded.{bounded, quotient_of}
use Rattle.cv_calc.specs.declared.unit.Unit.{Unit}
use Rattle.cv_calc.specs.declared.calc.Calc.{Calc}
use Rattle.cv_calc.specs.declared.calc.Calc.TheVariants.{Num, Sum}
use Rattle.cv_calc.specs.Value.{Meaning, unit_value, value, both, sum_of}
use Rattle.cv_om.specs.declared.error.OmErr.{OmErr}
use Rattle.cv_om.specs.declared.error.OmErr.TheVariants.{BadType}
use Rattle.cv_om.specs.declared.item.SumItem.{SumItem}
use Rattle.cv_om.specs.Refusal.{and_then, answer_map, all_of, in_range}
use Rattle.cv_om.specs.UnitMap.{sum_factor, unit_powers}
use Rattle.cv_om.specs.SumValue.{Row}
use Rattle.cv_om.specs.Conversion.{converts, placed_value, placed_item, collected_next, collected, has_sum_type, collected_sum, units_row}
use Rattle.cv_om.proofs.Collections.{collected_refused}
use Rattle.cv_om.proofs.Refusals.{fold_refused}
use Rattle.cv_om_laws.specs.Valued.{HasPositiveUnits}
use Rattle.cv_om_laws.specs.Powers.{units_value, item_value, row_value}
use Rattle.cv_om_laws.proofs.Totals.{zero_add, total, totals_swapped}
use Rattle.cv_om_laws.proofs.SumValues.{mul_zero, parts_of}
use Rattle.cv_om_laws.proofs.Rows.{bounded_same, maps_same}
use Rattle.cv_om_laws.proofs.Converted.{quotient_kept}
use Rattle.cv_om_laws.proofs.Values.{value-Num, value-Sum}

-- a first place is not below where the places begin
place_above : {A : Type 0} (p : A → Bool) (k i : ℕ) (xs : List A) → position_from p k xs ≡ Some i → k ≤ i
place_above p k i [] e = cc
place_above p k i (a ∷ xs) e = go (p a) e (place_above p (k + 1) i xs)
  where
    go : (b : Bool) → (if b then Some k else position_from p (k + 1) xs) ≡ Some i → (position_from p (k + 1) xs ≡ Some i → k + 1 ≤ i) → k ≤ i
    go true e ih = let same : k ≡ i = cc in omega (arith, same)
    go false e ih = let below = ih e in omega (arith, below)

same_place : (k : ℕ) → (k == k) ≡ true
same_place k = (Decides-eqb k k).1 refl

other_place : (j k : ℕ) → (j ≡ k → ⊥) → (j == k) ≡ false
other_place j k h = go (j == k) refl
  where
    go : (b : Bool) → (j == k) ≡ b → b ≡ false
    go true e = absurd (h ((Decides-eqb j k).0 e))
    go false e = refl

module _ (m : Meaning) (h : HasPositiveUnits m) where
  -- ---- the values that a unit collects

  abbrev worth : Unit → Ratio
  worth u = units_value m (unit_powers u)

  -- what a value counts at a place
  abbrev here : ℕ × Ratio → ℕ × Unit → Ratio
  here p e = if p.0 == e.0 then mul p.1 (worth e.1) else zero_ratio

  abbrev Collects : ℕ → Unit → List (ℕ × Ratio) → Type 0
  Collects i u ps = (v r : Ratio) → fold (collected_next i u) (Ok v) ps ≡ Ok r → mul r (unit_value m u) ≡ add (mul v (unit_value m u)) (total (λ p. here p (i, u)) ps)

  collected_value : (i : ℕ) (u : Unit) (ps : List (ℕ × Ratio)) → Collects i u ps
  collected_value i u [] v r e = let same : v ≡ r = cc in ap (λ z. mul z (unit_value m u)) (sym same) ∙ sym (add_zero (mul v (unit_value m u)))
  collected_value i u (p ∷ ps) v r e = go (p.0 == i) e (collected_value i u ps)
    where
      refused : (z : OmErr) → fold (collected_next i u) (Err z) ps ≡ Ok r → ⊥
      refused z e = no (sym (fold_refused (collected_next i u) (collected_refused i u) z ps) ∙ e)
        where
          no : ◌≡◌ {A = Result Ratio OmErr} (Err z) (Ok r) → ⊥
          no e = cc

      added : (w : Ratio) → in_range (quotient_of p.1 (sum_factor u)) ≡ Ok w → (q : Result Ratio OmErr) → in_range (bounded (add v w)) ≡ q → fold (collected_next i u) q ps ≡ Ok r → Collects i u ps →
          mul r (unit_value m u) ≡ add (mul v (unit_value m u)) (add (mul p.1 (worth u)) (total (λ p. here p (i, u)) ps))
      added w f (Ok s) k e ih =
          ih s r e
          ∙ ap (λ z. add z (total (λ p. here p (i, u)) ps)) (ap (λ z. mul z (unit_value m u)) (sym (bounded_same (add v w) s k)) ∙ mul-add_right v w (unit_value m u) ∙ ap (add (mul v (unit_value m u))) (quotient_kept m h u p.1 w f))
          ∙ add_assoc (mul v (unit_value m u)) (mul p.1 (worth u)) (total (λ p. here p (i, u)) ps)
      added w f (Err z) k e ih = absurd (refused z e)

      scaled : (q : Result Ratio OmErr) → in_range (quotient_of p.1 (sum_factor u)) ≡ q → fold (collected_next i u) (and_then q (λ w. in_range (bounded (add v w)))) ps ≡ Ok r → Collects i u ps →
          mul r (unit_value m u) ≡ add (mul v (unit_value m u)) (add (mul p.1 (worth u)) (total (λ p. here p (i, u)) ps))
      scaled (Ok w) f e ih = added w f (in_range (bounded (add v w))) refl e ih
      scaled (Err z) f e ih = absurd (refused z e)

      go : (b : Bool) → fold (collected_next i u) (if b then and_then (in_range (quotient_of p.1 (sum_factor u))) (λ w. in_range (bounded (add v w))) else Ok v) ps ≡ Ok r → Collects i u ps →
          mul r (unit_value m u) ≡ add (mul v (unit_value m u)) (add (if b then mul p.1 (worth u) else zero_ratio) (total (λ p. here p (i, u)) ps))
      go true e ih = scaled (in_range (quotient_of p.1 (sum_factor u))) refl e ih
      go false e ih = ih v r e ∙ ap (add (mul v (unit_value m u))) (sym (zero_add (total (λ p. here p (i, u)) ps)))

  unit_collected : (ps : List (ℕ × Ratio)) (e : ℕ × Unit) (c : Calc) → collected ps e ≡ Ok c → value m c ≡ Some (total (λ p. here p e) ps)
  unit_collected ps e c k = go (fold (collected_next e.0 e.1) (Ok zero_ratio) ps) refl k
    where
      nothing : mul zero_ratio (unit_value m e.1) ≡ zero_ratio
      nothing = mul_comm_ratio zero_ratio (unit_value m e.1) ∙ mul_zero (unit_value m e.1)

      go : (q : Result Ratio OmErr) → fold (collected_next e.0 e.1) (Ok zero_ratio) ps ≡ q → answer_map (λ v. Num v e.1) q ≡ Ok c → value m c ≡ Some (total (λ p. here p e) ps)
      go (Ok r) f k =
          let same : c ≡ Num r e.1 = cc in
          ap (value m) same ∙ value-Num m r e.1
          ∙ ap Some (collected_value e.0 e.1 ps zero_ratio r f ∙ ap (λ z. add z (total (λ p. here p e) ps)) nothing ∙ zero_add (total (λ p. here p e) ps))
      go (Err z) f k = cc

  all_collected : (ps : List (ℕ × Ratio)) (es : List (ℕ × Unit)) (cs : List Calc) → all_of (map (collected ps) es) ≡ Ok cs → sum_of (map (value m) cs) ≡ Some (total (λ e. total (λ p. here p e) ps) es)
  unfolding all_of
  all_collected ps [] cs k = let none : cs ≡ [] = cc in ap (λ ds. sum_of (map (value m) ds)) none
  all_collected ps (e ∷ es) cs k =
      let parts = parts_of (collected ps e) (all_of (map (collected ps) es)) cs k in
      ap (λ ds. sum_of (map (value m) ds)) (sym parts.1.1.2) ∙ ap₂ (both add) (unit_collected ps e parts.0 parts.1.1.0) (all_collected ps es parts.1.0 parts.1.1.1)

  -- ---- each item counts at its place, and nowhere else

  later_zero : (p : ℕ × Ratio) (k : ℕ) (us : List Unit) → p.0 < k → total (here p) (enumerate_from k us) ≡ zero_ratio
  later_zero p k [] b = refl
  later_zero p k (u ∷ us) b =
      ap₂ add (ap (λ t. if t then mul p.1 (worth u) else zero_ratio) (other_place p.0 k (apart p.0 k b))) (later_zero p (k + 1) us (omega (arith, b))) ∙ add_zero zero_ratio
    where
      apart : (j k : ℕ) → j < k → j ≡ k → ⊥
      apart j k b e = omega (arith, b, e)

  item_placed : (s : SumItem) (p : ℕ × Ratio) (k : ℕ) (us : List Unit) → placed_value s.value (position_from (λ u. converts u s) k us) ≡ Ok p → total (here p) (enumerate_from k us) ≡ item_value m s
  item_placed s p k [] e = cc
  item_placed s p k (u ∷ us) e = go (converts u s) refl e (item_placed s p (k + 1) us)
    where
      apart : (j k : ℕ) → k + 1 ≤ j → j ≡ k → ⊥
      apart j k b e = omega (arith, b, e)

      at_first : (k, s.value) ≡ p → s.units ≡ unit_powers u → total (here p) (enumerate_from k (u ∷ us)) ≡ item_value m s
      at_first e f =
          ap (λ q. total (here q) (enumerate_from k (u ∷ us))) (sym e)
          ∙ ap₂ add (ap (λ t. if t then mul s.value (worth u) else zero_ratio) (same_place k)) (later_zero (k, s.value) (k + 1) us (below k))
          ∙ add_zero (mul s.value (worth u)) ∙ ap (λ us. mul s.value (units_value m us)) (sym f)
        where
          below : (k : ℕ) → k < k + 1
          below k = omega arith

      later : (o : Option ℕ) → position_from (λ u. converts u s) (k + 1) us ≡ o → placed_value s.value o ≡ Ok p → total (here p) (enumerate_from (k + 1) us) ≡ item_value m s → total (here p) (enumerate_from k (u ∷ us)) ≡ item_value m s
      later (Some i) f e ih =
          let same : i ≡ p.0 = place_is i e in
          let above = place_above (λ u. converts u s) (k + 1) i us f in
          ap (λ t. add (if t then mul p.1 (worth u) else zero_ratio) (total (here p) (enumerate_from (k + 1) us))) (ap (λ j. j == k) (sym same) ∙ other_place i k (apart i k above))
          ∙ zero_add (total (here p) (enumerate_from (k + 1) us)) ∙ ih
        where
          place_is : (i : ℕ) → placed_value s.value (Some i) ≡ Ok p → i ≡ p.0
          place_is i e = let same : (i, s.value) ≡ p = cc in ap (λ (q : ℕ × Ratio). q.0) same
      later None f e ih = cc

      go : (b : Bool) → converts u s ≡ b → placed_value s.value (if b then Some k else position_from (λ u. converts u s) (k + 1) us) ≡ Ok p →
          (placed_value s.value (position_from (λ u. converts u s) (k + 1) us) ≡ Ok p → total (here p) (enumerate_from (k + 1) us) ≡ item_value m s) → total (here p) (enumerate_from k (u ∷ us)) ≡ item_value m s
      go true b e ih = let same : (k, s.value) ≡ p = cc in at_first same (maps_same s.units (unit_powers u) b)
      go false b e ih = later (position_from (λ u. converts u s) (k + 1) us) refl e (ih e)

  all_placed : (us : List Unit) (row : Row) (ps : List (ℕ × Ratio)) → all_of (map (placed_item us) row) ≡ Ok ps → total (λ p. total (here p) (enumerate_from 0 us)) ps ≡ row_value m row
  unfolding all_of row_value
  all_placed us [] ps e = let none : ps ≡ [] = cc in ap (total (λ p. total (here p) (enumerate_from 0 us))) none
  all_placed us (s ∷ row) ps e =
      let parts = parts_of (placed_item us s) (all_of (map (placed_item us) row)) ps e in
      ap (total (λ p. total (here p) (enumerate_from 0 us))) (sym parts.1.1.2)
      ∙ ap₂ add (item_placed s parts.0 0 us (ap (placed_value s.value) (sym (position_from-zero (λ u. converts u s) us)) ∙ parts.1.1.0)) (all_placed us row parts.1.0 parts.1.1.1)

  -- ---- the sum

  sum_collected : (us : List Unit) (row : Row) (ps : List (ℕ × Ratio)) (d : Calc) → all_of (map (placed_item us) row) ≡ Ok ps → collected_sum us ps ≡ Ok d → value m d ≡ Some (row_value m row)
  sum_collected us row ps d e f = go (has_sum_type us) f
    where
      made : (q : Result (List Calc) OmErr) → all_of (map (collected ps) (enumerate_from 0 us)) ≡ q → answer_map Sum q ≡ Ok d → value m d ≡ Some (row_value m row)
      made (Ok cs) k f =
          let same : d ≡ Sum cs = cc in
          ap (value m) same ∙ value-Sum m cs ∙ all_collected ps (enumerate_from 0 us) cs k
          ∙ ap Some (sym (totals_swapped here ps (enumerate_from 0 us)) ∙ all_placed us row ps e)
      made (Err z) k f = cc

      go : (b : Bool) → (if b then answer_map Sum (all_of (map (collected ps) (enumerate_from 0 us))) else Err BadType) ≡ Ok d → value m d ≡ Some (row_value m row)
      go true f = made (all_of (map (collected ps) (enumerate_from 0 us))) refl f
      go false f = cc

  pub given_kept : (us : List Unit) (row : Row) (d : Calc) → units_row us row ≡ Ok d → value m d ≡ Some (row_value m row)
  given_kept us row d e = go (all_of (map (placed_item us) row)) refl e
    where
      go : (q : Result (List (ℕ × Ratio)) OmErr) → all_of (map (placed_item us) row) ≡ q → and_then q (collected_sum us) ≡ Ok d → value m d ≡ Some (row_value m row)
      go (Ok ps) f e = sum_collected us row ps d f e
      go (Err z) f e = cc
