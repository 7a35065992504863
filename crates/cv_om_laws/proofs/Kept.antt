-- The sum value of each calculation is its value.
use Rattle.std.specs.Prelude.{Bool, true, false, List, [], ◌∷◌, map, fold, Option, Some, None, option_map, Result, Ok, Err, if◌then◌else◌}
use Rattle.std.proofs.Common.{◌≡◌, refl, sym, ◌∙◌, ap, ap₂, subst}
use Rattle.cv_spec_ratio.specs.Ratio.{Ratio, add, mul, neg, reciprocal, zero_ratio, one_ratio}
use Rattle.cv_spec_ratio.specs.Order.{lesser, greater}
use Rattle.cv_spec_ratio.proofs.Laws.{add_comm, add_zero, mul-assoc, mul_one, mul_comm_ratio, neg-mul}
use Rattle.cv_calc.specs.declared.calc.Calc.{Calc}
use Rattle.cv_calc.specs.declared.calc.Calc.TheVariants.{Sum, Product, Negate, Invert, Min, Max, Clamp}
use Rattle.cv_calc.specs.Tree.{Each, by_cases, fold-Clamp}
use Rattle.cv_calc.specs.Value.{Meaning, unit_value, value, value_step, both, inverse_of}
use Rattle.cv_om.specs.declared.error.OmErr.{OmErr}
use Rattle.cv_om.specs.declared.error.OmErr.TheVariants.{BadType}
use Rattle.cv_om.specs.declared.item.SumItem.{SumItem}
use Rattle.cv_om.specs.declared.joining.Joining.TheVariants as joining
use Rattle.cv_om.specs.Refusal.{and_then, answer_map, all_of}
use Rattle.cv_om.specs.UnitMap.{Powers, inverse_powers, same_powers}
use Rattle.cv_om.specs.SumValue.{Row, item, with_row, sum_row, item_products, times_row, product_row, negated_item, one_item, inverse_item, inverse_row, chosen_item, chosen_next, row_of, chosen_row, limited_item, limited, sum_value}
use Rattle.cv_om.proofs.SumValues as sums
use Rattle.cv_om_laws.specs.Valued.{IsPositive, HasPositiveUnits}
use Rattle.cv_om_laws.specs.Powers.{units_value, item_value, row_value, SumValuesAreKept}
use Rattle.cv_om_laws.proofs.Raised.{crossed, one_mul, reciprocal_product}
use Rattle.cv_om_laws.proofs.Positive.{units_positive}
use Rattle.cv_om_laws.proofs.Scaled.{lesser_scaled, greater_scaled}
use Rattle.cv_om_laws.proofs.Maps.{IsListed, none_listed, inverse_value, inverse_listed}
use Rattle.cv_om_laws.proofs.Joined.{from_left}
use Rattle.cv_om_laws.proofs.Rows.{maps_same, AllListed, number_right, row_right}
use Rattle.cv_om_laws.proofs.Values.{value-Num, value-Sum, value-Product, value-Negate, value-Invert, value-Min, value-Max}
use Rattle.cv_om_laws.proofs.SumValues.{Good, along, alone, empty, rows_times, parts_of, fold_some, mul_zero, spread}

clamp_value : (m : Meaning) (l c u : Calc) → value m (Clamp l c u) ≡ both greater (value m l) (both lesser (value m c) (value m u))
unfolding value
clamp_value m l c u = fold-Clamp (value_step m) l c u

module _ (m : Meaning) (h : HasPositiveUnits m) where
  abbrev pub Fits : Ratio → Row → Type 0
  Fits x row = Good m h x row

  -- rows that have values, one each
  abbrev AllFit : List Ratio → List Row → Type 0
  AllFit [] [] = Prim.Unit {0}
  AllFit [] (r ∷ rs) = ⊥
  AllFit (x ∷ xs) [] = ⊥
  AllFit (x ∷ xs) (r ∷ rs) = Fits x r × AllFit xs rs

  -- ---- sums

  rows_refused : (z : OmErr) (rs : List Row) → fold with_row (Err z) rs ≡ Err z
  rows_refused z [] = refl
  rows_refused z (r ∷ rs) = ap (λ q. fold with_row q rs) (sums.row_refused z r) ∙ rows_refused z rs

  sum_fits : (row : Row) (y : Ratio) (xs : List Ratio) (rs : List Row) (new : Row) → Fits y row → AllFit xs rs → fold with_row (Ok row) rs ≡ Ok new → Fits (fold add y xs) new
  sum_fits row y [] [] new g a e = let same : row ≡ new = cc in let P : Row → Type 0 = λ r. Fits y r in subst P same g
  sum_fits row y [] (r ∷ rs) new g a e = absurd a
  sum_fits row y (x ∷ xs) [] new g a e = absurd a
  sum_fits row y (x ∷ xs) (r ∷ rs) new g a e = go (with_row (Ok row) r) refl e (λ next k f. sum_fits next (add y x) xs rs new k a.1 f)
    where
      go : (q : Result Row OmErr) → with_row (Ok row) r ≡ q → fold with_row q rs ≡ Ok new → ((next : Row) → Fits (add y x) next → fold with_row (Ok next) rs ≡ Ok new → Fits (fold add (add y x) xs) new) → Fits (fold add (add y x) xs) new
      go (Ok next) f e ih =
          let right = row_right m h row r next f g.listed a.0.listed in
          ih next (along m h (add (row_value m row) (row_value m r)) (add y x) next (ap₂ add g.total a.0.total) right) e
      go (Err z) f e ih = absurd (no (sym (rows_refused z rs) ∙ e))
        where
          no : ◌≡◌ {A = Result Row OmErr} (Err z) (Ok new) → ⊥
          no e = cc

  -- ---- products

  times_refused : (z : OmErr) (rs : List Row) → fold times_row (Err z) rs ≡ Err z
  times_refused z [] = refl
  times_refused z (r ∷ rs) = times_refused z rs

  product_fits : (row : Row) (y : Ratio) (xs : List Ratio) (rs : List Row) (new : Row) → Fits y row → AllFit xs rs → fold times_row (Ok row) rs ≡ Ok new → Fits (fold mul y xs) new
  product_fits row y [] [] new g a e = let same : row ≡ new = cc in let P : Row → Type 0 = λ r. Fits y r in subst P same g
  product_fits row y [] (r ∷ rs) new g a e = absurd a
  product_fits row y (x ∷ xs) [] new g a e = absurd a
  product_fits row y (x ∷ xs) (r ∷ rs) new g a e = go (all_of (item_products row r)) refl e (λ next k f. product_fits next (mul y x) xs rs new k a.1 f)
    where
      go : (q : Result Row OmErr) → all_of (item_products row r) ≡ q → fold times_row q rs ≡ Ok new → ((next : Row) → Fits (mul y x) next → fold times_row (Ok next) rs ≡ Ok new → Fits (fold mul (mul y x) xs) new) → Fits (fold mul (mul y x) xs) new
      go (Ok next) f e ih =
          let right = rows_times m h row r next f g.listed a.0.listed in
          ih next (along m h (mul (row_value m row) (row_value m r)) (mul y x) next (ap₂ mul g.total a.0.total) right) e
      go (Err z) f e ih = absurd (no (sym (times_refused z rs) ∙ e))
        where
          no : ◌≡◌ {A = Result Row OmErr} (Err z) (Ok new) → ⊥
          no e = cc

  -- ---- rows of one item

  abbrev pub ItemFits : Ratio → SumItem → Type 0
  ItemFits x s = IsListed s.units × (item_value m s ≡ x)

  pub one_fits : (x : Ratio) (row : Row) (s : SumItem) → Fits x row → one_item row ≡ Ok s → ItemFits x s
  one_fits x [] s g e = cc
  one_fits x (t ∷ []) s g e =
      let same : t ≡ s = cc in
      let P : SumItem → Type 0 = λ i. ItemFits x i in
      subst P same (g.listed.0, sym (alone m h t) ∙ g.total)
  one_fits x (t ∷ u ∷ us) s g e = cc

  row_fits : (x : Ratio) (s : SumItem) → ItemFits x s → Fits x (s ∷ [])
  row_fits x s g = record { listed = (g.0, tt); total = alone m h s ∙ g.1 }

  -- ---- reciprocals

  reciprocal_fits : (x y : Ratio) (row new : Row) → Fits x row → reciprocal x ≡ Some y → inverse_row row ≡ Ok new → Fits y new
  reciprocal_fits x y row new g r e = go (one_item row) refl e
    where
      value_is : (v k w j : Ratio) → mul v w ≡ one_ratio → mul k j ≡ one_ratio → mul v k ≡ x → mul w j ≡ y
      value_is v k w j a b c =
          sym (mul_one (mul w j)) ∙ ap (mul (mul w j)) (sym (reciprocal_product x y r)) ∙ sym (mul-assoc (mul w j) x y)
          ∙ ap (λ z. mul (mul (mul w j) z) y) (sym c) ∙ ap (λ z. mul z y) (crossed w j v k ∙ ap₂ mul (mul_comm_ratio w v ∙ a) (mul_comm_ratio j k ∙ b) ∙ mul_one one_ratio) ∙ one_mul y

      maps : (s : SumItem) (w : Ratio) → ItemFits x s → reciprocal s.value ≡ Some w → (q : Result Powers OmErr) → inverse_powers s.units ≡ q → answer_map (λ inverse. item w inverse ∷ []) q ≡ Ok new → Fits y new
      maps s w i f (Ok us) k e =
          let same : item w us ∷ [] ≡ new = cc in
          let P : Row → Type 0 = λ z. Fits y z in
          subst P same (row_fits y (item w us) (inverse_listed s.units us i.0 k, value_is s.value (units_value m s.units) w (units_value m us) (reciprocal_product s.value w f) (inverse_value m h s.units us k) i.1))
      maps s w i f (Err z) k e = cc

      numbers : (s : SumItem) → ItemFits x s → (o : Option Ratio) → reciprocal s.value ≡ o → inverse_item s.units o ≡ Ok new → Fits y new
      numbers s i (Some w) f e = maps s w i f (inverse_powers s.units) refl e
      numbers s i None f e = cc

      go : (q : Result SumItem OmErr) → one_item row ≡ q → and_then q (λ s. inverse_item s.units (reciprocal s.value)) ≡ Ok new → Fits y new
      go (Ok s) f e = numbers s (one_fits x row s g f) (reciprocal s.value) refl e
      go (Err z) f e = cc

  -- ---- the least and the greatest

  module _ (f : Ratio → Ratio → Ratio) (scaled : (v w k : Ratio) → IsPositive k → f (mul v k) (mul w k) ≡ mul (f v w) k) where
    chosen_fits : (x y : Ratio) (s t new : SumItem) → ItemFits x s → ItemFits y t → chosen_item f s t ≡ Ok new → ItemFits (f x y) new
    chosen_fits x y s t new g k e = go (same_powers s.units t.units) refl e
      where
        go : (b : Bool) → same_powers s.units t.units ≡ b → (if b then Ok (item (f s.value t.value) s.units) else Err BadType) ≡ Ok new → ItemFits (f x y) new
        go true b e =
            let same : item (f s.value t.value) s.units ≡ new = cc in
            let P : SumItem → Type 0 = λ i. ItemFits (f x y) i in
            subst P same (
              g.0,
              sym (scaled s.value t.value (units_value m s.units) (units_positive m h s.units))
                  ∙ ap₂ f g.1 (ap (λ us. mul t.value (units_value m us)) (maps_same s.units t.units b) ∙ k.1),
            )
        go false b e = cc

    next_fits : (x y : Ratio) (s new : SumItem) (row : Row) → ItemFits x s → Fits y row → chosen_next f (Ok s) row ≡ Ok new → ItemFits (f x y) new
    next_fits x y s new row g k e = go (one_item row) refl e
      where
        go : (q : Result SumItem OmErr) → one_item row ≡ q → and_then q (chosen_item f s) ≡ Ok new → ItemFits (f x y) new
        go (Ok t) j e = chosen_fits x y s t new g (one_fits y row t k j) e
        go (Err z) j e = cc

    chosen_refused : (z : OmErr) (rs : List Row) → fold (chosen_next f) (Err z) rs ≡ Err z
    chosen_refused z [] = refl
    chosen_refused z (r ∷ rs) = chosen_refused z rs

    all_fit : (s : SumItem) (y : Ratio) (xs : List Ratio) (rs : List Row) (new : SumItem) → ItemFits y s → AllFit xs rs → fold (chosen_next f) (Ok s) rs ≡ Ok new → ItemFits (fold f y xs) new
    all_fit s y [] [] new g a e = let same : s ≡ new = cc in let P : SumItem → Type 0 = λ i. ItemFits y i in subst P same g
    all_fit s y [] (r ∷ rs) new g a e = absurd a
    all_fit s y (x ∷ xs) [] new g a e = absurd a
    all_fit s y (x ∷ xs) (r ∷ rs) new g a e = go (chosen_next f (Ok s) r) refl e (λ next k j. all_fit next (f y x) xs rs new k a.1 j)
      where
        go : (q : Result SumItem OmErr) → chosen_next f (Ok s) r ≡ q → fold (chosen_next f) q rs ≡ Ok new → ((next : SumItem) → ItemFits (f y x) next → fold (chosen_next f) (Ok next) rs ≡ Ok new → ItemFits (fold f (f y x) xs) new) → ItemFits (fold f (f y x) xs) new
        go (Ok next) j e ih = ih next (next_fits y x s next r g a.0 j) e
        go (Err z) j e ih = absurd (no (sym (chosen_refused z rs) ∙ e))
          where
            no : ◌≡◌ {A = Result SumItem OmErr} (Err z) (Ok new) → ⊥
            no e = cc

    item_row : (x : Ratio) (q : Result SumItem OmErr) (new : Row) → ((s : SumItem) → q ≡ Ok s → ItemFits x s) → row_of q ≡ Ok new → Fits x new
    item_row x (Ok s) new k e = let same : s ∷ [] ≡ new = cc in let P : Row → Type 0 = λ r. Fits x r in subst P same (row_fits x s (k s refl))
    item_row x (Err z) new k e = cc

    chosen_row_fits : (y : Ratio) (xs : List Ratio) (rs : List Row) (new : Row) → AllFit (y ∷ xs) rs → chosen_row f rs ≡ Ok new → Fits (fold f y xs) new
    chosen_row_fits y xs [] new a e = absurd a
    chosen_row_fits y xs (r ∷ rs) new a e = item_row (fold f y xs) (fold (chosen_next f) (one_item r) rs) new (λ s j. go (one_item r) refl s j) e
      where
        go : (q : Result SumItem OmErr) → one_item r ≡ q → (s : SumItem) → fold (chosen_next f) q rs ≡ Ok s → ItemFits (fold f y xs) s
        go (Ok t) j s e = all_fit t y xs rs s (one_fits y r t a.0 j) a.1 e
        go (Err z) j s e = absurd (no (sym (chosen_refused z rs) ∙ e))
          where
            no : ◌≡◌ {A = Result SumItem OmErr} (Err z) (Ok s) → ⊥
            no e = cc

  -- ---- calculations

  abbrev pub IsKept : Calc → Type 0
  IsKept c = (x : Ratio) (row : Row) → value m c ≡ Some x → sum_value c ≡ Ok row → Fits x row

  kids : (cs : List Calc) → Each IsKept cs → (xs : List Ratio) (rows : List Row) → map (value m) cs ≡ map Some xs → all_of (map sum_value cs) ≡ Ok rows → AllFit xs rows
  unfolding all_of
  kids [] k [] [] e f = tt
  kids [] k [] (r ∷ rs) e f = cc
  kids [] k (x ∷ xs) rows e f = cc
  kids (c ∷ cs) k [] rows e f = cc
  kids (c ∷ cs) k (x ∷ xs) rows e f =
      let parts = parts_of (sum_value c) (all_of (map sum_value cs)) rows f in
      let first : value m c ≡ Some x = cc in
      let rest : map (value m) cs ≡ map Some xs = cc in
      let P : List Row → Type 0 = λ rs. AllFit (x ∷ xs) rs in
      subst P parts.1.1.2 (k.0 x parts.0 first parts.1.1.0, kids cs k.1 xs parts.1.0 rest parts.1.1.1)

  all_then : (F : List Row → Result Row OmErr) (q : Result (List Row) OmErr) (row : Row) → and_then q F ≡ Ok row → (rows : List Row) × (q ≡ Ok rows) × (F rows ≡ Ok row)
  all_then F (Ok rows) row e = (rows, refl, e)
  all_then F (Err z) row e = cc

  zero_fits : Fits zero_ratio []
  zero_fits = record { listed = tt; total = empty m h }

  zero_first : (y : Ratio) → add zero_ratio y ≡ y
  zero_first y = add_comm zero_ratio y ∙ add_zero y

  no_children : (rows : List Row) → all_of {A = Row} [] ≡ Ok rows → [] ≡ rows
  unfolding all_of
  no_children rows e = cc

  sum_kept : (cs : List Calc) → Each IsKept cs → IsKept (Sum cs)
  sum_kept [] k x row e f =
      let found = all_then sum_row (all_of (map sum_value [])) row (sym (sums.value-Sum []) ∙ f) in
      let none = no_children found.0 found.1 in
      let zero_is : ◌≡◌ {A = Option Ratio} (Some zero_ratio) (Some x) = sym (value-Sum m []) ∙ e in
      let row_is : ◌≡◌ {A = Result Row OmErr} (Ok []) (Ok row) = ap sum_row none ∙ found.2 in
      nothing zero_is row_is
    where
      nothing : ◌≡◌ {A = Option Ratio} (Some zero_ratio) (Some x) → ◌≡◌ {A = Result Row OmErr} (Ok []) (Ok row) → Fits x row
      nothing a b =
          let same : zero_ratio ≡ x = cc in
          let rows : [] ≡ row = cc in
          let P : Row → Type 0 = λ r. Fits x r in
          subst P rows (along m h zero_ratio x [] same zero_fits)
  sum_kept (c ∷ cs) k x row e f =
      let found = all_then sum_row (all_of (map sum_value (c ∷ cs))) row (sym (sums.value-Sum (c ∷ cs)) ∙ f) in
      let some = fold_some add (value m c) (map (value m) cs) x (from_left joining.Sum (value m c) (map (value m) cs) ∙ sym (value-Sum m (c ∷ cs)) ∙ e) in
      let all = kids (c ∷ cs) k (some.0 ∷ some.1.0) found.0 (ap₂ (λ o os. o ∷ os) some.1.1.0 some.1.1.1) found.1 in
      along m h (fold add (add zero_ratio some.0) some.1.0) x row (ap (λ y. fold add y some.1.0) (zero_first some.0) ∙ some.1.1.2)
      (sum_fits [] zero_ratio (some.0 ∷ some.1.0) found.0 row zero_fits all found.2)

  product_rows : (y : Ratio) (ys : List Ratio) (rows : List Row) (row : Row) → AllFit (y ∷ ys) rows → product_row rows ≡ Ok row → Fits (fold mul y ys) row
  product_rows y ys [] row a e = absurd a
  product_rows y ys (r ∷ rs) row a e = product_fits r y ys rs row a.0 a.1 e

  one_item_fits : Fits one_ratio (item one_ratio [] ∷ [])
  unfolding units_value
  one_item_fits = row_fits one_ratio (item one_ratio []) (none_listed, mul_one one_ratio)

  product_kept : (cs : List Calc) → Each IsKept cs → IsKept (Product cs)
  product_kept [] k x row e f =
      let found = all_then product_row (all_of (map sum_value [])) row (sym (sums.value-Product []) ∙ f) in
      let none = no_children found.0 found.1 in
      let one_is : ◌≡◌ {A = Option Ratio} (Some one_ratio) (Some x) = sym (value-Product m []) ∙ e in
      let row_is : ◌≡◌ {A = Result Row OmErr} (Ok (item one_ratio [] ∷ [])) (Ok row) = ap product_row none ∙ found.2 in
      nothing one_is row_is
    where
      nothing : ◌≡◌ {A = Option Ratio} (Some one_ratio) (Some x) → ◌≡◌ {A = Result Row OmErr} (Ok (item one_ratio [] ∷ [])) (Ok row) → Fits x row
      nothing a b =
          let same : one_ratio ≡ x = cc in
          let rows : item one_ratio [] ∷ [] ≡ row = cc in
          let P : Row → Type 0 = λ r. Fits x r in
          subst P rows (along m h one_ratio x (item one_ratio [] ∷ []) same one_item_fits)
  product_kept (c ∷ cs) k x row e f =
      let found = all_then product_row (all_of (map sum_value (c ∷ cs))) row (sym (sums.value-Product (c ∷ cs)) ∙ f) in
      let some = fold_some mul (value m c) (map (value m) cs) x (from_left joining.Product (value m c) (map (value m) cs) ∙ sym (value-Product m (c ∷ cs)) ∙ e) in
      let all = kids (c ∷ cs) k (some.0 ∷ some.1.0) found.0 (ap₂ (λ o os. o ∷ os) some.1.1.0 some.1.1.1) found.1 in
      along m h (fold mul some.0 some.1.0) x row some.1.1.2 (product_rows some.0 some.1.0 found.0 row all found.2)

  least_kept : (cs : List Calc) → Each IsKept cs → IsKept (Min cs)
  least_kept [] k x row e f = absurd (no (sym (value-Min m []) ∙ e))
    where
      no : ◌≡◌ {A = Option Ratio} None (Some x) → ⊥
      no e = cc
  least_kept (c ∷ cs) k x row e f =
      let found = all_then (chosen_row lesser) (all_of (map sum_value (c ∷ cs))) row (sym (sums.value-Min (c ∷ cs)) ∙ f) in
      let some = fold_some lesser (value m c) (map (value m) cs) x (from_left joining.Least (value m c) (map (value m) cs) ∙ sym (value-Min m (c ∷ cs)) ∙ e) in
      let all = kids (c ∷ cs) k (some.0 ∷ some.1.0) found.0 (ap₂ (λ o os. o ∷ os) some.1.1.0 some.1.1.1) found.1 in
      along m h (fold lesser some.0 some.1.0) x row some.1.1.2 (chosen_row_fits lesser (λ v w. lesser_scaled v w) some.0 some.1.0 found.0 row all found.2)

  greatest_kept : (cs : List Calc) → Each IsKept cs → IsKept (Max cs)
  greatest_kept [] k x row e f = absurd (no (sym (value-Max m []) ∙ e))
    where
      no : ◌≡◌ {A = Option Ratio} None (Some x) → ⊥
      no e = cc
  greatest_kept (c ∷ cs) k x row e f =
      let found = all_then (chosen_row greater) (all_of (map sum_value (c ∷ cs))) row (sym (sums.value-Max (c ∷ cs)) ∙ f) in
      let some = fold_some greater (value m c) (map (value m) cs) x (from_left joining.Greatest (value m c) (map (value m) cs) ∙ sym (value-Max m (c ∷ cs)) ∙ e) in
      let all = kids (c ∷ cs) k (some.0 ∷ some.1.0) found.0 (ap₂ (λ o os. o ∷ os) some.1.1.0 some.1.1.1) found.1 in
      along m h (fold greater some.0 some.1.0) x row some.1.1.2 (chosen_row_fits greater (λ v w. greater_scaled v w) some.0 some.1.0 found.0 row all found.2)

  as_times : (a : Ratio) → neg a ≡ mul (neg one_ratio) a
  as_times a = sym (neg-mul one_ratio a ∙ ap neg (one_mul a))

  negative_sum : (a b : Ratio) → add (neg a) (neg b) ≡ neg (add a b)
  negative_sum a b = ap₂ add (as_times a) (as_times b) ∙ sym (as_times (add a b) ∙ spread m h (neg one_ratio) a b)

  negative_zero : zero_ratio ≡ neg zero_ratio
  negative_zero = sym (as_times zero_ratio ∙ mul_zero (neg one_ratio))

  negated_rows : (row : Row) → AllListed row → AllListed (map negated_item row) × (row_value m (map negated_item row) ≡ neg (row_value m row))
  unfolding row_value
  negated_rows [] l = (tt, negative_zero)
  negated_rows (s ∷ ss) l =
      let rest = negated_rows ss l.1 in
      ((l.0, rest.0), ap₂ add (neg-mul s.value (units_value m s.units)) rest.1 ∙ negative_sum (item_value m s) (row_value m ss))

  negate_kept : (c : Calc) → IsKept c → IsKept (Negate c)
  negate_kept c k x row e f = go (value m c) refl (sum_value c) refl (sym (value-Negate m c) ∙ e) (sym (sums.value-Negate c) ∙ f)
    where
      go : (o : Option Ratio) → value m c ≡ o → (q : Result Row OmErr) → sum_value c ≡ q → option_map neg o ≡ Some x → answer_map (map negated_item) q ≡ Ok row → Fits x row
      go (Some y) a (Ok r) b e f =
          let fits = k y r a b in
          let turned = negated_rows r fits.listed in
          let number : neg y ≡ x = cc in
          let same : map negated_item r ≡ row = cc in
          let P : Row → Type 0 = λ z. Fits x z in
          subst P same record { listed = turned.0; total = turned.1 ∙ ap neg fits.total ∙ number }
      go (Some y) a (Err z) b e f = cc
      go None a q b e f = cc

  invert_kept : (c : Calc) → IsKept c → IsKept (Invert c)
  invert_kept c k x row e f = go (value m c) refl (sum_value c) refl (sym (value-Invert m c) ∙ e) (sym (sums.value-Invert c) ∙ f)
    where
      go : (o : Option Ratio) → value m c ≡ o → (q : Result Row OmErr) → sum_value c ≡ q → inverse_of o ≡ Some x → and_then q inverse_row ≡ Ok row → Fits x row
      go (Some y) a (Ok r) b e f = reciprocal_fits y x r row (k y r a b) e f
      go (Some y) a (Err z) b e f = cc
      go None a q b e f = cc

  limited_fits : (x y z : Ratio) (l c u : Row) (new : SumItem) → Fits x l → Fits y c → Fits z u → limited_item l c u ≡ Ok new → ItemFits (greater x (lesser y z)) new
  limited_fits x y z l c u new gl gc gu e = first (one_item l) refl e
    where
      second : (s : SumItem) → ItemFits x s → (q : Result SumItem OmErr) → chosen_next lesser (one_item c) u ≡ q → and_then q (chosen_item greater s) ≡ Ok new → ItemFits (greater x (lesser y z)) new
      second s i (Ok t) j e = chosen_fits greater (λ v w. greater_scaled v w) x (lesser y z) s t new i (inner (one_item c) refl j) e
        where
          inner : (q : Result SumItem OmErr) → one_item c ≡ q → chosen_next lesser q u ≡ Ok t → ItemFits (lesser y z) t
          inner (Ok w) a b = next_fits lesser (λ v w. lesser_scaled v w) y z w t u (one_fits y c w gc a) gu b
          inner (Err o) a b = cc
      second s i (Err o) j e = cc

      first : (q : Result SumItem OmErr) → one_item l ≡ q → and_then q (λ s. and_then (chosen_next lesser (one_item c) u) (chosen_item greater s)) ≡ Ok new → ItemFits (greater x (lesser y z)) new
      first (Ok s) a e = second s (one_fits x l s gl a) (chosen_next lesser (one_item c) u) refl e
      first (Err o) a e = cc

  clamp_kept : (l c u : Calc) → IsKept l → IsKept c → IsKept u → IsKept (Clamp l c u)
  clamp_kept l c u kl kc ku x row e f =
      go (value m l) refl (value m c) refl (value m u) refl (sum_value l) refl (sum_value c) refl (sum_value u) refl (sym (clamp_value m l c u) ∙ e) (sym (sums.value-Clamp l c u) ∙ f)
    where
      go : (ol : Option Ratio) → value m l ≡ ol → (oc : Option Ratio) → value m c ≡ oc → (ou : Option Ratio) → value m u ≡ ou →
          (ql : Result Row OmErr) → sum_value l ≡ ql → (qc : Result Row OmErr) → sum_value c ≡ qc → (qu : Result Row OmErr) → sum_value u ≡ qu →
          both greater ol (both lesser oc ou) ≡ Some x → limited ql qc qu ≡ Ok row → Fits x row
      go (Some a) va (Some b) vb (Some d) vd (Ok ra) sa (Ok rb) sb (Ok rd) sd e f =
          let same : greater a (lesser b d) ≡ x = cc in
          along m h (greater a (lesser b d)) x row same
          (item_row greater (λ v w. greater_scaled v w) (greater a (lesser b d)) (limited_item ra rb rd) row (λ s j. limited_fits a b d ra rb rd s (kl a ra va sa) (kc b rb vb sb) (ku d rd vd sd) j) f)
      go (Some a) va (Some b) vb (Some d) vd (Ok ra) sa (Ok rb) sb (Err z) sd e f = cc
      go (Some a) va (Some b) vb (Some d) vd (Ok ra) sa (Err z) sb qu sd e f = cc
      go (Some a) va (Some b) vb (Some d) vd (Err z) sa qc sb qu sd e f = cc
      go (Some a) va (Some b) vb None vd ql sa qc sb qu sd e f = cc
      go (Some a) va None vb ou vd ql sa qc sb qu sd e f = cc
      go None va oc vb ou vd ql sa qc sb qu sd e f = absurd (none (both lesser oc ou) e)
        where
          none : (o : Option Ratio) → both greater None o ≡ Some x → ⊥
          none o e = cc

  pub all_kept : (c : Calc) → IsKept c
  all_kept = by_cases IsKept record {
    num = λ v u x row e f.
        let same : ◌≡◌ {A = Option Ratio} (Some (mul v (unit_value m u))) (Some x) = sym (value-Num m v u) ∙ e in
        let number : mul v (unit_value m u) ≡ x = cc in
        along m h (mul v (unit_value m u)) x row number (number_right m h v u row (sym (sums.value-Num v u) ∙ f));
    sum = sum_kept;
    product = product_kept;
    negate = negate_kept;
    invert = invert_kept;
    min = least_kept;
    max = greatest_kept;
    clamp = clamp_kept;
  }

pub sum_values_are_kept : SumValuesAreKept
sum_values_are_kept m h c x row e f = (all_kept m h c x row e f).total
