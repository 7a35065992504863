-- Powers of a fraction that isn't 0.
use Rattle.std.specs.Prelude.{ℤ, pos, negsuc, zero, suc, neg_ℤ, ◌+ℤ◌, ◌*ℤ◌, Some}
use Rattle.std.proofs.Common.{◌≡◌, ℕ, ◌+◌, ◌*◌, ◌<◌, refl, sym, ◌∙◌, ap, ap₂, subst, arith, mul_comm}
use Rattle.std.proofs.lemmas.Int.{ints}
use borrow.Author.Differences.{up, down}
use Rattle.cv_spec_ratio.specs.Ratio.{Ratio, ratio, mul, reciprocal, reciprocal_by, one_ratio}
use Rattle.cv_spec_ratio.proofs.Difference.{dif, as_dif, same_dif, pos-dif, dif-neg, dif-add}
use Rattle.cv_spec_ratio.proofs.Laws.{mul-assoc, mul_one, mul_comm_ratio, mul_stands, same_by}
use Rattle.cv_spec_ratio.proofs.LowestTerms.{StandsFor, ratio_stands, stands_self}
use Rattle.cv_om_laws.specs.Powers.{raised}

pub one_mul : (r : Ratio) → mul one_ratio r ≡ r
one_mul r = mul_comm_ratio one_ratio r ∙ mul_one r

-- two products, crossed
pub crossed : (a b c d : Ratio) → mul (mul a b) (mul c d) ≡ mul (mul a c) (mul b d)
crossed a b c d =
    mul-assoc a b (mul c d) ∙ ap (mul a) (sym (mul-assoc b c d) ∙ ap (λ r. mul r d) (mul_comm_ratio b c) ∙ mul-assoc c b d) ∙ sym (mul-assoc a c (mul b d))

pub add_powers : (f : Ratio) (a b : ℕ) → raised f (a + b) ≡ mul (raised f a) (raised f b)
unfolding raised
add_powers f zero b = ap (raised f) (zero_plus b) ∙ sym (one_mul (raised f b))
  where
    zero_plus : (n : ℕ) → zero + n ≡ n
    zero_plus n = omega arith
add_powers f (suc a) b = ap (raised f) (suc_plus a b) ∙ ap (mul f) (add_powers f a b) ∙ sym (mul-assoc f (raised f a) (raised f b))
  where
    suc_plus : (a b : ℕ) → suc a + b ≡ suc (a + b)
    suc_plus a b = omega arith

pub no_power : (f : Ratio) → raised f 0 ≡ one_ratio
unfolding raised
no_power f = refl

module _ (f g : Ratio) (inverse : mul f g ≡ one_ratio) where
  cancelled : (n : ℕ) → mul (raised f n) (raised g n) ≡ one_ratio
  unfolding raised
  cancelled zero = mul_one one_ratio
  cancelled (suc n) = crossed f (raised f n) g (raised g n) ∙ ap₂ mul inverse (cancelled n) ∙ mul_one one_ratio

  abbrev pair : ℕ → ℕ → Ratio
  pair a b = mul (raised f a) (raised g b)

  shifted : (a b n : ℕ) → pair (a + n) (b + n) ≡ pair a b
  shifted a b n =
      ap₂ mul (add_powers f a n) (add_powers g b n) ∙ crossed (raised f a) (raised f n) (raised g b) (raised g n) ∙ ap (mul (pair a b)) (cancelled n) ∙ mul_one (pair a b)

  -- a power that is positive or not
  abbrev pub power : ℤ → Ratio
  power (pos n) = raised f n
  power (negsuc n) = raised g (suc n)

  power_is : (z : ℤ) (a b : ℕ) → z ≡ dif a b → power z ≡ pair a b
  power_is (pos n) a b e =
      let count : n + b ≡ a + 0 = same_dif n 0 a b (sym (pos-dif n) ∙ e) in
      sym (mul_one (raised f n)) ∙ ap (mul (raised f n)) (sym (no_power g)) ∙ sym (shifted n 0 b) ∙ ap₂ pair (first n a b count) (second b)
    where
      first : (n a b : ℕ) → n + b ≡ a + 0 → n + b ≡ a
      first n a b h = omega (arith, h)

      second : (b : ℕ) → 0 + b ≡ b
      second b = omega arith
  power_is (negsuc n) a b e =
      let count : 0 + b ≡ a + suc n = same_dif 0 (suc n) a b (sym (dif-neg (suc n) 0) ∙ ap neg_ℤ (sym (pos-dif (suc n))) ∙ e) in
      sym (one_mul (raised g (suc n))) ∙ ap (λ r. mul r (raised g (suc n))) (sym (no_power f)) ∙ sym (shifted 0 (suc n) a) ∙ ap₂ pair (first a) (second n a b count)
    where
      first : (a : ℕ) → 0 + a ≡ a
      first a = omega arith

      second : (n a b : ℕ) → 0 + b ≡ a + suc n → suc n + a ≡ b
      second n a b h = omega (arith, h)

  pub power_sum : (p q : ℤ) → power (p +ℤ q) ≡ mul (power p) (power q)
  power_sum p q =
      power_is (p +ℤ q) (up p + up q) (down p + down q) (ap₂ (λ x y. x +ℤ y) (as_dif p) (as_dif q) ∙ dif-add (up p) (down p) (up q) (down q))
      ∙ ap₂ mul (add_powers f (up p) (up q)) (add_powers g (down p) (down q)) ∙ crossed (raised f (up p)) (raised f (up q)) (raised g (down p)) (raised g (down q))
      ∙ sym (ap₂ mul (power_is p (up p) (down p) (as_dif p)) (power_is q (up q) (down q) (as_dif q)))

  pub power_negative : (p : ℤ) → mul (power p) (power (neg_ℤ p)) ≡ one_ratio
  power_negative p =
      let a = up p in
      let b = down p in
      ap₂ mul (power_is p a b (as_dif p)) (power_is (neg_ℤ p) b a (ap neg_ℤ (as_dif p) ∙ dif-neg a b) ∙ mul_comm_ratio (raised f b) (raised g a))
      ∙ crossed (raised f a) (raised g b) (raised g a) (raised f b) ∙ ap₂ mul (cancelled a) (mul_comm_ratio (raised g b) (raised f b) ∙ cancelled b) ∙ mul_one one_ratio

-- ---- a fraction and its reciprocal

pub reciprocal_product : (r s : Ratio) → reciprocal r ≡ Some s → mul r s ≡ one_ratio
unfolding reciprocal reciprocal_by one_ratio
reciprocal_product r s e = go r.top r.bottom refl refl e
  where
    crossing : (p q : ℕ) → pos 1 *ℤ pos (q * suc p) ≡ (pos (suc p) *ℤ pos q) *ℤ pos 1
    crossing p q = omega (arith, ints, mul_comm q (suc p))

    by_numbers : (t u : ℤ) (b d : ℕ) → r.top ≡ t → r.bottom ≡ b → 0 < d → s ≡ ratio u d → pos 1 *ℤ pos (b * d) ≡ (t *ℤ u) *ℤ pos 1 → mul r s ≡ ratio (pos 1) 1
    by_numbers t u b d et eb h es cross =
        same_by (mul r s) (ratio (pos 1) 1) (r.top *ℤ u) (pos 1) (r.bottom * d) 1 (mul_stands r s r.top u r.bottom d (stands_self r) (stands_of u d h es)) (ratio_stands (pos 1) 1 (omega arith))
        (ap (λ n. pos 1 *ℤ pos (n * d)) eb ∙ cross ∙ ap (λ z. (z *ℤ u) *ℤ pos 1) (sym et))
      where
        stands_of : (u : ℤ) (d : ℕ) → 0 < d → s ≡ ratio u d → StandsFor s u d
        stands_of u d h es = let P : Ratio → Type 0 = λ x. StandsFor x u d in subst P (sym es) (ratio_stands u d h)

    go : (t : ℤ) (q : ℕ) → r.top ≡ t → r.bottom ≡ q → reciprocal_by t q ≡ Some s → mul r s ≡ ratio (pos 1) 1
    go (pos zero) q et eq h = cc
    go (pos (suc p)) q et eq h = let same : s ≡ ratio (pos q) (suc p) = cc in by_numbers (pos (suc p)) (pos q) q (suc p) et eq (omega arith) same (crossing p q)
    go (negsuc p) zero et eq h = absurd (omega (arith, eq, r.positive))
    go (negsuc p) (suc q) et eq h = let same : s ≡ ratio (negsuc q) (suc p) = cc in by_numbers (negsuc p) (negsuc q) (suc q) (suc p) et eq (omega arith) same (ap pos (omega (arith, mul_comm (suc q) (suc p))))
