-- The values of unit maps.
use Rattle.std.specs.Prelude.{Bool, true, false, not, ◌&&◌, ◌||◌, ℤ, pos, negsuc, zero, suc, neg_ℤ, ◌+ℤ◌, List, [], ◌∷◌, ◌++◌, map, Option, Some, None, option_map, Result, Ok, Err, if◌then◌else◌}
use Rattle.std.specs.List.{list_all, list_any}
use Rattle.std.specs.Ordering.{int_eq}
use Rattle.std.proofs.Common.{◌≡◌, ℕ, refl, sym, ◌∙◌, ap, ap₂}
use Rattle.std.proofs.lemmas.Bool.Decides.{Decides-int_eq}
use Rattle.cv_spec_ratio.specs.Ratio.{Ratio, mul, reciprocal, one_ratio}
use Rattle.cv_spec_ratio.proofs.Laws.{mul-assoc, mul_one}
use Rattle.cv_calc.specs.declared.unit.Unit.{Unit}
use Rattle.cv_calc.specs.declared.unit.Unit.TheVariants.{Number}
use Rattle.cv_calc.specs.Unit.{same_unit, same_unit-true}
use Rattle.cv_calc.specs.Types.{power_fits}
use Rattle.cv_calc.specs.Value.{Meaning, unit_value}
use Rattle.cv_om.specs.declared.error.OmErr.{OmErr}
use Rattle.cv_om.specs.declared.error.OmErr.TheVariants.{Range}
use Rattle.cv_om.specs.UnitMap.{Powers, all_units, power_in, entry, powers_listed, power_sum, product_powers, negative_entry, all_entries, within_bounds, inverse_powers}
use Rattle.cv_om_laws.specs.Valued.{HasPositiveUnits}
use Rattle.cv_om_laws.specs.Powers.{or_one, to_power, units_value}
use Rattle.cv_om_laws.proofs.Raised.{crossed, power, power_sum as sum_of_powers, power_negative, no_power, one_mul}
use Rattle.cv_om_laws.proofs.Positive.{flipped_inverse}

-- a map lists the units in their order, each with its power, which isn't 0
abbrev pub IsListed : Powers → Type 0
IsListed a = powers_listed (power_in a) all_units ≡ a

-- ---- which maps are listed

-- the unit stands among some
abbrev among : Unit → List Unit → Bool
among u us = list_any (λ t. same_unit t u) us

abbrev distinct : List Unit → Bool
distinct [] = true
distinct (u ∷ us) = not (among u us) && distinct us

or_false : (a b : Bool) → (a || b) ≡ false → (a ≡ false) × (b ≡ false)
or_false true b e = cc
or_false false b e = (refl, e)

and_parts : (a b : Bool) → (not a && b) ≡ true → (a ≡ false) × (b ≡ true)
and_parts true b e = cc
and_parts false b e = (refl, e)

abbrev behind : Bool → Unit → ℤ → Powers → Powers
behind b t z rest = (if b then [] else (t, z) ∷ []) ++ rest

absent : (g : Unit → ℤ) (us : List Unit) (u : Unit) → among u us ≡ false → power_in (powers_listed g us) u ≡ pos 0
unfolding power_in
absent g [] u e = refl
absent g (t ∷ us) u e = let parts = or_false (same_unit t u) (among u us) e in go (int_eq (g t) (pos 0)) parts.0 (absent g us u parts.1)
  where
    go : (b : Bool) → same_unit t u ≡ false → power_in (powers_listed g us) u ≡ pos 0 → power_in (behind b t (g t) (powers_listed g us)) u ≡ pos 0
    go true e k = k
    go false e k = ap (λ b. if b then g t else power_in (powers_listed g us) u) e ∙ k

present : (g : Unit → ℤ) (us : List Unit) (u : Unit) → distinct us ≡ true → among u us ≡ true → power_in (powers_listed g us) u ≡ g u
unfolding power_in
present g [] u d e = cc
present g (t ∷ us) u d e =
    let parts = and_parts (among t us) (distinct us) d in
    go (same_unit t u) refl (int_eq (g t) (pos 0)) refl (present g us u parts.1) parts.0 e
  where
    here : (b : Bool) → int_eq (g t) (pos 0) ≡ b → t ≡ u → among t us ≡ false → same_unit t u ≡ true → power_in (behind b t (g t) (powers_listed g us)) u ≡ g u
    here true z s n k = absent g us u (ap (λ w. among w us) (sym s) ∙ n) ∙ sym ((Decides-int_eq (g t) (pos 0)).0 z) ∙ ap g s
    here false z s n k = ap (λ b. if b then g t else power_in (powers_listed g us) u) k ∙ ap g s

    later : (b : Bool) → same_unit t u ≡ false → power_in (powers_listed g us) u ≡ g u → power_in (behind b t (g t) (powers_listed g us)) u ≡ g u
    later true k r = r
    later false k r = ap (λ b. if b then g t else power_in (powers_listed g us) u) k ∙ r

    go : (s : Bool) → same_unit t u ≡ s → (b : Bool) → int_eq (g t) (pos 0) ≡ b → (among u us ≡ true → power_in (powers_listed g us) u ≡ g u) → among t us ≡ false → (s || among u us) ≡ true →
        power_in (behind b t (g t) (powers_listed g us)) u ≡ g u
    go true k b z r n e = here b z (same_unit-true t u k) n k
    go false k b z r n e = later b k (r e)

every_unit : (u : Unit) → among u all_units ≡ true
every_unit Number = refl
every_unit _ = refl

same_listed : (g k : Unit → ℤ) (us : List Unit) → ((u : Unit) → g u ≡ k u) → powers_listed g us ≡ powers_listed k us
same_listed g k [] e = refl
same_listed g k (u ∷ us) e = ap₂ (λ ps qs. ps ++ qs) (ap (entry u) (e u)) (same_listed g k us e)

pub listed_is_listed : (g : Unit → ℤ) → IsListed (powers_listed g all_units)
listed_is_listed g = same_listed (power_in (powers_listed g all_units)) g all_units (λ u. present g all_units u refl (every_unit u))

pub along_listed : (a b : Powers) → a ≡ b → IsListed a → IsListed b
along_listed a b e h = ap (λ ps. powers_listed (power_in ps) all_units) (sym e) ∙ h ∙ e

-- ---- reciprocals

abbrev turned_entry : Unit × ℤ → Unit × ℤ
turned_entry p = (p.0, neg_ℤ p.1)

some_map : (p : Unit × ℤ) (o : Option Powers) (b : Powers) → option_map (λ ps. p ∷ ps) o ≡ Some b → (ps : Powers) × (o ≡ Some ps) × (p ∷ ps ≡ b)
some_map p None b e = cc
some_map p (Some ps) b e = (ps, refl, cc)

entries_are : (a b : Powers) → all_entries (map negative_entry a) ≡ Some b → map turned_entry a ≡ b
entries_are [] b e = cc
entries_are (p ∷ a) b e = go (power_fits (neg_ℤ p.1)) e (entries_are a)
  where
    go : (c : Bool) → all_entries (option_map (λ z. (p.0, z)) (if c then Some (neg_ℤ p.1) else None) ∷ map negative_entry a) ≡ Some b → ((b : Powers) → all_entries (map negative_entry a) ≡ Some b → map turned_entry a ≡ b) → map turned_entry (p ∷ a) ≡ b
    go true e r = let parts = some_map (turned_entry p) (all_entries (map negative_entry a)) b e in ap (λ ps. turned_entry p ∷ ps) (r parts.0 parts.1) ∙ parts.2
    go false e r = cc

inverse_is : (a b : Powers) → inverse_powers a ≡ Ok b → map turned_entry a ≡ b
unfolding inverse_powers
inverse_is a b e = go (all_entries (map negative_entry a)) refl e
  where
    go : (o : Option Powers) → all_entries (map negative_entry a) ≡ o → within_bounds o ≡ Ok b → map turned_entry a ≡ b
    go None f e = cc
    go (Some ps) f e = let same : ps ≡ b = cc in entries_are a b (f ∙ ap Some same)

turned_power : (a : Powers) (u : Unit) → power_in (map turned_entry a) u ≡ neg_ℤ (power_in a u)
unfolding power_in
turned_power [] u = refl
turned_power (p ∷ a) u = go (same_unit p.0 u) (turned_power a u)
  where
    go : (b : Bool) → power_in (map turned_entry a) u ≡ neg_ℤ (power_in a u) → (if b then neg_ℤ p.1 else power_in (map turned_entry a) u) ≡ neg_ℤ (if b then p.1 else power_in a u)
    go true e = refl
    go false e = e

not_zero : (n : ℕ) → int_eq (pos (suc n)) (pos 0) ≡ false
not_zero n = go (int_eq (pos (suc n)) (pos 0)) refl
  where
    apart : pos (suc n) ≡ pos 0 → ⊥
    apart e = cc

    go : (b : Bool) → int_eq (pos (suc n)) (pos 0) ≡ b → b ≡ false
    go true e = absurd (apart ((Decides-int_eq (pos (suc n)) (pos 0)).0 e))
    go false e = refl

still_zero : (z : ℤ) → int_eq (neg_ℤ z) (pos 0) ≡ int_eq z (pos 0)
still_zero (pos zero) = refl
still_zero (pos (suc n)) = sym (not_zero n)
still_zero (negsuc n) = not_zero n

turned_listed : (g : Unit → ℤ) (us : List Unit) → powers_listed (λ u. neg_ℤ (g u)) us ≡ map turned_entry (powers_listed g us)
turned_listed g [] = refl
turned_listed g (u ∷ us) =
    ap (λ b. behind b u (neg_ℤ (g u)) (powers_listed (λ t. neg_ℤ (g t)) us)) (still_zero (g u)) ∙ go (int_eq (g u) (pos 0)) (turned_listed g us)
  where
    go : (b : Bool) → powers_listed (λ t. neg_ℤ (g t)) us ≡ map turned_entry (powers_listed g us) → behind b u (neg_ℤ (g u)) (powers_listed (λ t. neg_ℤ (g t)) us) ≡ map turned_entry (behind b u (g u) (powers_listed g us))
    go true e = e
    go false e = ap (λ ps. (u, neg_ℤ (g u)) ∷ ps) e

pub inverse_listed : (a b : Powers) → IsListed a → inverse_powers a ≡ Ok b → IsListed b
inverse_listed a b h e =
    along_listed (map turned_entry a) b (inverse_is a b e)
    (same_listed (power_in (map turned_entry a)) (λ u. neg_ℤ (power_in a u)) all_units (turned_power a) ∙ turned_listed (power_in a) all_units ∙ ap (map turned_entry) h)

ok_is : (a b : Powers) → ◌≡◌ {A = Result Powers OmErr} (Ok a) (Ok b) → a ≡ b
ok_is a b e = cc

product_listed : (a b ps : Powers) → product_powers a b ≡ Ok ps → powers_listed (power_sum a b) all_units ≡ ps
unfolding product_powers
product_listed a b ps e = go (list_all (λ u. power_fits (power_sum a b u)) all_units) e
  where
    go : (c : Bool) → (if c then Ok (powers_listed (power_sum a b) all_units) else Err Range) ≡ Ok ps → powers_listed (power_sum a b) all_units ≡ ps
    go true e = ok_is (powers_listed (power_sum a b) all_units) ps e
    go false e = cc

pub product_is_listed : (a b ps : Powers) → product_powers a b ≡ Ok ps → IsListed ps
product_is_listed a b ps e = along_listed (powers_listed (power_sum a b) all_units) ps (product_listed a b ps e) (listed_is_listed (power_sum a b))

module _ (m : Meaning) (h : HasPositiveUnits m) where
  abbrev of : Unit → ℤ → Ratio
  of u z = to_power (unit_value m u) z

  same_power : (u : Unit) (z : ℤ) → power (unit_value m u) (or_one (reciprocal (unit_value m u))) (flipped_inverse (unit_value m u) (h u)) z ≡ to_power (unit_value m u) z
  same_power u (pos n) = refl
  same_power u (negsuc n) = refl

  sum_power : (u : Unit) (p q : ℤ) → of u (p +ℤ q) ≡ mul (of u p) (of u q)
  sum_power u p q =
      let f = unit_value m u in
      sym (same_power u (p +ℤ q)) ∙ sum_of_powers f (or_one (reciprocal f)) (flipped_inverse f (h u)) p q ∙ ap₂ mul (same_power u p) (same_power u q)

  opposite_power : (u : Unit) (p : ℤ) → mul (of u p) (of u (neg_ℤ p)) ≡ one_ratio
  opposite_power u p =
      let f = unit_value m u in
      sym (ap₂ mul (same_power u p) (same_power u (neg_ℤ p))) ∙ power_negative f (or_one (reciprocal f)) (flipped_inverse f (h u)) p

  -- ---- maps one after the other

  value_append : (a b : Powers) → units_value m (a ++ b) ≡ mul (units_value m a) (units_value m b)
  unfolding units_value
  value_append [] b = sym (one_mul (units_value m b))
  value_append (p ∷ a) b = ap (mul (of p.0 p.1)) (value_append a b) ∙ sym (mul-assoc (of p.0 p.1) (units_value m a) (units_value m b))

  entry_value : (u : Unit) (z : ℤ) → units_value m (entry u z) ≡ of u z
  unfolding units_value
  entry_value u z = go (int_eq z (pos 0)) refl
    where
      go : (b : Bool) → int_eq z (pos 0) ≡ b → units_value m (if b then [] else (u, z) ∷ []) ≡ of u z
      go true e = sym (ap (of u) ((Decides-int_eq z (pos 0)).0 e) ∙ no_power (unit_value m u))
      go false e = mul_one (of u z)

  abbrev total : (Unit → ℤ) → List Unit → Ratio
  total g us = units_value m (powers_listed g us)

  total_next : (g : Unit → ℤ) (u : Unit) (us : List Unit) → total g (u ∷ us) ≡ mul (of u (g u)) (total g us)
  total_next g u us = value_append (entry u (g u)) (powers_listed g us) ∙ ap (λ r. mul r (total g us)) (entry_value u (g u))

  total_none : (g : Unit → ℤ) → total g [] ≡ one_ratio
  unfolding units_value
  total_none g = refl

  total_sum : (g k : Unit → ℤ) (us : List Unit) → total (λ u. g u +ℤ k u) us ≡ mul (total g us) (total k us)
  total_sum g k [] = total_none (λ u. g u +ℤ k u) ∙ sym (ap₂ mul (total_none g) (total_none k) ∙ mul_one one_ratio)
  total_sum g k (u ∷ us) =
      total_next (λ t. g t +ℤ k t) u us ∙ ap₂ mul (sum_power u (g u) (k u)) (total_sum g k us) ∙ crossed (of u (g u)) (of u (k u)) (total g us) (total k us)
      ∙ sym (ap₂ mul (total_next g u us) (total_next k u us))

  pub product_value : (a b ps : Powers) → IsListed a → IsListed b → product_powers a b ≡ Ok ps → units_value m ps ≡ mul (units_value m a) (units_value m b)
  product_value a b ps la lb e =
      ap (units_value m) (sym (product_listed a b ps e)) ∙ total_sum (power_in a) (power_in b) all_units ∙ ap₂ mul (ap (units_value m) la) (ap (units_value m) lb)

  turned_value : (a : Powers) → mul (units_value m a) (units_value m (map turned_entry a)) ≡ one_ratio
  unfolding units_value
  turned_value [] = mul_one one_ratio
  turned_value (p ∷ a) = crossed (of p.0 p.1) (units_value m a) (of p.0 (neg_ℤ p.1)) (units_value m (map turned_entry a)) ∙ ap₂ mul (opposite_power p.0 p.1) (turned_value a) ∙ mul_one one_ratio

  pub inverse_value : (a b : Powers) → inverse_powers a ≡ Ok b → mul (units_value m a) (units_value m b) ≡ one_ratio
  inverse_value a b e = ap (λ ps. mul (units_value m a) (units_value m ps)) (sym (inverse_is a b e)) ∙ turned_value a

pub none_listed : IsListed []
unfolding power_in
none_listed = refl
