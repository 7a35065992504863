-- The value of a sum value is the value of the calculation.
use Rattle.std.specs.Prelude.{ℕ, ℤ, pos, ◌*ℤ◌, List, [], ◌∷◌, ◌++◌, map, fold, Option, Some, None, Result, Ok, Err}
use Rattle.std.proofs.Common.{◌≡◌, refl, sym, ◌∙◌, ap, ap₂, subst, arith, ◌*◌}
use Rattle.std.proofs.lemmas.Int.{ints}
use Rattle.cv_spec_ratio.specs.Ratio.{Ratio, ratio, add, mul, zero_ratio}
use Rattle.cv_spec_ratio.proofs.Laws.{add_comm, add_assoc, add_zero, mul_comm_ratio, mul-add_right, mul_stands, same_by}
use Rattle.cv_spec_ratio.proofs.LowestTerms.{ratio_stands, stands_self}
use Rattle.cv_frac.specs.Bounded.{bounded}
use Rattle.cv_calc.specs.Value.{Meaning, both}
use Rattle.cv_om.specs.declared.error.OmErr.{OmErr}
use Rattle.cv_om.specs.declared.item.SumItem.{SumItem}
use Rattle.cv_om.specs.Refusal.{and_then, answer_map, all_of, in_range}
use Rattle.cv_om.specs.UnitMap.{Powers, product_powers}
use Rattle.cv_om.specs.SumValue.{Row, item, item_product, item_products}
use Rattle.cv_om.proofs.Refusals.{all_append}
use Rattle.cv_om_laws.specs.Valued.{HasPositiveUnits}
use Rattle.cv_om_laws.specs.Powers.{units_value, item_value, row_value}
use Rattle.cv_om_laws.proofs.Raised.{crossed}
use Rattle.cv_om_laws.proofs.Maps.{IsListed, product_value, product_is_listed}
use Rattle.cv_om_laws.proofs.Rows.{bounded_same, AllListed, Right}

pub mul_zero : (r : Ratio) → mul r zero_ratio ≡ zero_ratio
unfolding zero_ratio
mul_zero r =
    same_by (mul r (ratio (pos 0) 1)) (ratio (pos 0) 1) (r.top *ℤ pos 0) (pos 0) (r.bottom * 1) 1
    (mul_stands r (ratio (pos 0) 1) r.top (pos 0) r.bottom 1 (stands_self r) (ratio_stands (pos 0) 1 (omega arith))) (ratio_stands (pos 0) 1 (omega arith)) (nothing r.top (r.bottom * 1))
  where
    nothing : (t : ℤ) (n : ℕ) → pos 0 *ℤ pos n ≡ (t *ℤ pos 0) *ℤ pos 1
    nothing t n = omega (arith, ints)

pub parts_of : {A : Type 0} (r : Result A OmErr) (q : Result (List A) OmErr) (all : List A) → and_then r (λ a. answer_map (λ rest. a ∷ rest) q) ≡ Ok all → (a : A) × ((rest : List A) × ((r ≡ Ok a) × (q ≡ Ok rest) × (a ∷ rest ≡ all)))
parts_of (Ok a) (Ok rest) all e = (a, (rest, (refl, refl, cc)))
parts_of (Ok a) (Err z) all e = cc
parts_of (Err z) q all e = cc

halves_of : {A : Type 0} (r q : Result (List A) OmErr) (all : List A) → and_then r (λ cs. answer_map (λ rest. cs ++ rest) q) ≡ Ok all → (a : List A) × ((b : List A) × ((r ≡ Ok a) × (q ≡ Ok b) × (a ++ b ≡ all)))
halves_of (Ok a) (Ok b) all e = (a, (b, (refl, refl, cc)))
halves_of (Ok a) (Err z) all e = cc
halves_of (Err z) q all e = cc

-- values that are joined from the left are all there
pub fold_some : (f : Ratio → Ratio → Ratio) (o : Option Ratio) (os : List (Option Ratio)) (x : Ratio) → fold (both f) o os ≡ Some x → (y : Ratio) × ((ys : List Ratio) × ((o ≡ Some y) × (os ≡ map Some ys) × (fold f y ys ≡ x)))
fold_some f o [] x e = (x, ([], (e, refl, refl)))
fold_some f o (p ∷ os) x e = let rest = fold_some f (both f o p) os x e in go o p refl refl rest.0 rest.1.0 rest.1.1.0 rest.1.1.1 rest.1.1.2
  where
    go : (q r : Option Ratio) → o ≡ q → p ≡ r → (y : Ratio) (ys : List Ratio) → both f o p ≡ Some y → os ≡ map Some ys → fold f y ys ≡ x → (z : Ratio) × ((zs : List Ratio) × ((o ≡ Some z) × ((p ∷ os) ≡ map Some zs) × (fold f z zs ≡ x)))
    go None r eo er y ys b s t = absurd (no (sym (ap (λ q. both f q p) eo) ∙ b))
      where
        no : ◌≡◌ {A = Option Ratio} (both f None p) (Some y) → ⊥
        no e = cc
    go (Some a) None eo er y ys b s t = absurd (no (sym (ap₂ (both f) eo er) ∙ b))
      where
        no : ◌≡◌ {A = Option Ratio} None (Some y) → ⊥
        no e = cc
    go (Some a) (Some c) eo er y ys b s t =
        let made : ◌≡◌ {A = Option Ratio} (Some (f a c)) (Some y) = sym (ap₂ (both f) eo er) ∙ b in
        let same : f a c ≡ y = cc in
        (a, (c ∷ ys, (eo, ap₂ (λ q qs. q ∷ qs) er s, ap (λ w. fold f w ys) same ∙ t)))

module _ (m : Meaning) (h : HasPositiveUnits m) where
  abbrev pub Good : Ratio → Row → Type 0
  Good x row = Right m h x row

  pub along : (x y : Ratio) (row : Row) → x ≡ y → Good x row → Good y row
  along x y row e g = let P : Ratio → Type 0 = λ z. Good z row in subst P e g

  pub alone : (s : SumItem) → row_value m (s ∷ []) ≡ item_value m s
  unfolding row_value
  alone s = add_zero (item_value m s)

  pub empty : row_value m [] ≡ zero_ratio
  unfolding row_value
  empty = refl

  more : (s : SumItem) (ss : Row) → row_value m (s ∷ ss) ≡ add (item_value m s) (row_value m ss)
  unfolding row_value
  more s ss = refl

  -- ---- products

  item_times : (s t p : SumItem) → item_product s t ≡ Ok p → IsListed s.units → IsListed t.units → IsListed p.units × (item_value m p ≡ mul (item_value m s) (item_value m t))
  item_times s t p e k l = go (in_range (bounded (mul s.value t.value))) refl (product_powers s.units t.units) refl e
    where
      go : (r : Result Ratio OmErr) → in_range (bounded (mul s.value t.value)) ≡ r → (q : Result Powers OmErr) → product_powers s.units t.units ≡ q → and_then r (λ v. answer_map (item v) q) ≡ Ok p → IsListed p.units × (item_value m p ≡ mul (item_value m s) (item_value m t))
      go (Ok v) f (Ok us) g e =
          let same : item v us ≡ p = cc in
          let P : SumItem → Type 0 = λ i. IsListed i.units × (item_value m i ≡ mul (item_value m s) (item_value m t)) in
          subst P same (
            product_is_listed s.units t.units us g,
            ap₂ mul (sym (bounded_same (mul s.value t.value) v f)) (product_value m h s.units t.units us k l g) ∙ crossed s.value t.value (units_value m s.units) (units_value m t.units),
          )
      go (Ok v) f (Err z) g e = cc
      go (Err z) f q g e = cc

  pub spread : (a b c : Ratio) → mul a (add b c) ≡ add (mul a b) (mul a c)
  spread a b c = mul_comm_ratio a (add b c) ∙ mul-add_right b c a ∙ ap₂ add (mul_comm_ratio b a) (mul_comm_ratio c a)

  item_times_row : (s : SumItem) (ts row : Row) → all_of (map (item_product s) ts) ≡ Ok row → IsListed s.units → AllListed ts → Good (mul (item_value m s) (row_value m ts)) row
  unfolding all_of
  item_times_row s [] row e k l =
      let same : [] ≡ row = cc in
      let P : Row → Type 0 = λ r. Good (mul (item_value m s) (row_value m [])) r in
      subst P same record { listed = tt; total = empty ∙ sym (ap (mul (item_value m s)) empty ∙ mul_zero (item_value m s)) }
  item_times_row s (t ∷ ts) row e k l =
      let parts = parts_of (item_product s t) (all_of (map (item_product s) ts)) row e in
      let first = item_times s t parts.0 parts.1.1.0 k l.0 in
      let rest = item_times_row s ts parts.1.0 parts.1.1.1 k l.1 in
      let P : Row → Type 0 = λ r. Good (mul (item_value m s) (row_value m (t ∷ ts))) r in
      subst P parts.1.1.2 record {
        listed = (first.0, rest.listed);
        total = more parts.0 parts.1.0 ∙ ap₂ add first.1 rest.total ∙ sym (ap (mul (item_value m s)) (more t ts) ∙ spread (item_value m s) (item_value m t) (row_value m ts));
      }

  listed_append : (a b : Row) → AllListed a → AllListed b → AllListed (a ++ b)
  listed_append [] b k l = l
  listed_append (s ∷ a) b k l = (k.0, listed_append a b k.1 l)

  value_append : (a b : Row) → row_value m (a ++ b) ≡ add (row_value m a) (row_value m b)
  value_append [] b = sym (ap (λ r. add r (row_value m b)) empty ∙ add_comm zero_ratio (row_value m b) ∙ add_zero (row_value m b))
  value_append (s ∷ a) b = more s (a ++ b) ∙ ap (add (item_value m s)) (value_append a b) ∙ sym (ap (λ r. add r (row_value m b)) (more s a) ∙ add_assoc (item_value m s) (row_value m a) (row_value m b))

  pub rows_times : (ss ts row : Row) → all_of (item_products ss ts) ≡ Ok row → AllListed ss → AllListed ts → Good (mul (row_value m ss) (row_value m ts)) row
  unfolding all_of
  rows_times [] ts row e k l =
      let same : [] ≡ row = cc in
      let P : Row → Type 0 = λ r. Good (mul (row_value m []) (row_value m ts)) r in
      subst P same record { listed = tt; total = empty ∙ sym (ap (λ r. mul r (row_value m ts)) empty ∙ mul_comm_ratio zero_ratio (row_value m ts) ∙ mul_zero (row_value m ts)) }
  rows_times (s ∷ ss) ts row e k l =
      let parts = halves_of (all_of (map (item_product s) ts)) (all_of (item_products ss ts)) row (sym (all_append (map (item_product s) ts) (item_products ss ts)) ∙ e) in
      let first = item_times_row s ts parts.0 parts.1.1.0 k.0 l in
      let rest = rows_times ss ts parts.1.0 parts.1.1.1 k.1 l in
      let P : Row → Type 0 = λ r. Good (mul (row_value m (s ∷ ss)) (row_value m ts)) r in
      subst P parts.1.1.2 record {
        listed = listed_append parts.0 parts.1.0 first.listed rest.listed;
        total = value_append parts.0 parts.1.0 ∙ ap₂ add first.total rest.total ∙ sym (ap (λ r. mul r (row_value m ts)) (more s ss) ∙ mul-add_right (item_value m s) (row_value m ss) (row_value m ts));
      }
