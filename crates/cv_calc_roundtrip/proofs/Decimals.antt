-- The text of a fraction that has a decimal means the fraction.
use Rattle.std.specs.Prelude.{ℕ, zero, suc, Bool, true, false, ◌==◌, nat_lt, ◌+◌, ◌-◌, ◌*◌, ◌/◌, ◌%◌, ◌<◌, ◌≤◌, ◌^◌, ℤ, pos, negsuc, unsigned_abs, List, [], ◌∷◌, ◌++◌, length, replicate, codes, decimal, Option, Some, if◌then◌else◌}
use Rattle.std.specs.Char.{digit_value}
use Rattle.std.specs.Fmt.{signed_decimal}
use Rattle.std.specs.Str.Parse.{digits_value, digits_value_after}
use Rattle.std.proofs.Common.{◌≡◌, refl, sym, ◌∙◌, ap, ap₂, subst, arith, length-append, append_assoc, ◌⊎◌, inl, inr}
use Rattle.std.proofs.Math.Nat.{mul-div_cancel, div-lt_iff_lt-mul, mul-lt-mul_of_pos_right}
use Rattle.std.proofs.lemmas.Nat.{mod_below, div-add-mod'}
use Rattle.std.proofs.lemmas.List.{length-replicate}
use Rattle.std.proofs.lemmas.Bool.Decides.{nat_tests}
use Rattle.std.proofs.lemmas.Str.Parse.{IsNumeralModel, numerals_by_value, tells_all_ascii_digits}
use Rattle.std.proofs.lemmas.Fmt.{digits_decimal, digits_value-decimal, length-decimal-le, decimal_nonempty}
use Rattle.cv_spec_text.specs.Characters.{hyphen, full_stop}
use Rattle.cv_spec_ratio.specs.Ratio.{Ratio, ratio, signed, is_negative}
use Rattle.cv_spec_ratio.specs.Code.{ratio_self}
use Rattle.cv_spec_ratio.proofs.Laws.{ratio_cancel}
use Rattle.cv_frac.specs.Bounded.{in_bounds}
use Rattle.cv_frac.specs.Places.{first_from, has_places, decimal_places}
use Rattle.cv_frac.specs.Text.{padded, decimal_text, text_with, frac_text}
use Rattle.cv_frac.proofs.Tens.{ten_pos, ten_mono}
use Rattle.cv_frac.proofs.Found.{places_small}
use Rattle.cv_frac.proofs.Significant.{after_split}
use Rattle.cv_frac.proofs.Reciprocal.{below_zero}
use Rattle.cv_calc_roundtrip.proofs.Digits.{AreDigits, and_true, Unsigned, unsigned_whole, unsigned_point, Spells, spells_plain, spells_minus}

-- ---- the digits of a number

own : IsNumeralModel AreDigits (digits_value 10)
own = numerals_by_value AreDigits tells_all_ascii_digits

pub decimal_digits : (n : ℕ) → n < 2 ^ 64 → AreDigits (decimal n)
decimal_digits n h = digits_decimal own n h

pub decimal_value : (n : ℕ) → n < 2 ^ 64 → digits_value 10 (decimal n) ≡ n
decimal_value n h = digits_value-decimal own n h

-- ---- padded with zeros

zeros_digits : (k : ℕ) (ds : List ℕ) → AreDigits ds → AreDigits (replicate k 0x30 ++ ds)
zeros_digits zero ds h = h
zeros_digits (suc k) ds h = zeros_digits k ds h

zeros_value : (k : ℕ) (ds : List ℕ) → digits_value 10 (replicate k 0x30 ++ ds) ≡ digits_value 10 ds
zeros_value zero ds = refl
zeros_value (suc k) ds = zeros_value k ds

pub record Padded (places n : ℕ) : Type 0 where
  pub digits : AreDigits (padded places n)
  pub value : digits_value 10 (padded places n) ≡ n
  pub size : length (padded places n) ≡ places

pub padded_is : (places n : ℕ) → 0 < places → n < 10 ^ places → n < 2 ^ 64 → Padded places n
padded_is places n some small fits = record {
  digits = zeros_digits (places - length (decimal n)) (decimal n) (decimal_digits n fits);
  value = zeros_value (places - length (decimal n)) (decimal n) ∙ decimal_value n fits;
  size = length-append (replicate (places - length (decimal n)) 0x30) (decimal n)
      ∙ omega (arith, length-replicate {A = ℕ} (places - length (decimal n)) 0x30, length-decimal-le places n some small fits);
}

-- ---- digits before and behind the point

after_append : (n : ℕ) (ds es : List ℕ) → digits_value_after 10 n (ds ++ es) ≡ digits_value_after 10 (digits_value_after 10 n ds) es
after_append n [] es = refl
after_append n (d ∷ ds) es = after_append (n * 10 + digit_value d) ds es

pub value_append : (ds es : List ℕ) → digits_value 10 (ds ++ es) ≡ digits_value 10 ds * 10 ^ length es + digits_value 10 es
value_append ds es = after_append 0 ds es ∙ after_split (digits_value 10 ds) es

-- a quotient and what is left, of a number times a power that the divisor divides
scaled_parts : (s b p : ℕ) → 0 < b → p % b ≡ 0 → (s / b) * p + s % b * p / b ≡ s * (p / b)
scaled_parts s b p some whole =
    let k = p / b in
    let power : p ≡ k * b = omega (arith, div-add-mod' p b) in
    let part : s % b * p / b ≡ s % b * k = ap (λ (m : ℕ). m / b) (ap (λ (m : ℕ). s % b * m) power ∙ regroup (s % b) k b) ∙ mul-div_cancel (s % b * k) some in
    ap₂ (λ (x y : ℕ). (s / b) * x + y) power part ∙ joined (s / b) (s % b) k b ∙ ap (λ (m : ℕ). m * k) (div-add-mod' s b)
  where
    regroup : (m k b : ℕ) → m * (k * b) ≡ m * k * b
    regroup m k b = omega arith

    joined : (q r k b : ℕ) → q * (k * b) + r * k ≡ (q * b + r) * k
    joined q r k b = omega arith

part_below : (s b p : ℕ) → 0 < b → 0 < p → s % b * p / b < p
part_below s b p some above = (div-lt_iff_lt-mul some).1 (omega (arith, mul-lt-mul_of_pos_right (mod_below s b some) above, swap b p))
  where
    swap : (a b : ℕ) → a * b ≡ b * a
    swap a b = omega arith

-- ---- the number of places

first_passes : (p : ℕ → Bool) (k n m : ℕ) → first_from p k n ≡ Some m → p m ≡ true
unfolding first_from
first_passes p zero n m e = absurd cc
first_passes p (suc k) n m e = go (first_passes p k (n + 1) m) (p n) refl e
  where
    go : (first_from p k (n + 1) ≡ Some m → p m ≡ true) → (b : Bool) → p n ≡ b → (if b then Some n else first_from p k (n + 1)) ≡ Some m → p m ≡ true
    go more true f e = let same : n ≡ m = cc in ap p (sym same) ∙ f
    go more false f e = more e

none_before : (p : ℕ → Bool) (k n m j : ℕ) → first_from p k n ≡ Some m → n ≤ j → j < m → p j ≡ false
unfolding first_from
none_before p zero n m j e low high = absurd cc
none_before p (suc k) n m j e low high = go (none_before p k (n + 1) m j) (p n) refl e
  where
    ends : (n m j : ℕ) → Some n ≡ Some m → n ≤ j → j < m → ⊥
    ends n m j e low high = let same : n ≡ m = cc in omega arith

    here_or_later : (n j : ℕ) → n ≤ j → (n ≡ j) ⊎ (n + 1 ≤ j)
    here_or_later n j h = grind arith

    go : (first_from p k (n + 1) ≡ Some m → n + 1 ≤ j → j < m → p j ≡ false) → (b : Bool) → p n ≡ b → (if b then Some n else first_from p k (n + 1)) ≡ Some m → p j ≡ false
    go more true f e = absurd (ends n m j e low high)
    go more false f e = elim (here_or_later n j low) [
      | inl same ↦ ap p (sym same) ∙ f
      | inr later ↦ more e later high
    ]

passes_at : (v : Ratio) (n : ℕ) → decimal_places v ≡ Some n → has_places v.bottom n ≡ true
unfolding decimal_places
passes_at v n e = first_passes (has_places v.bottom) 19 0 n e

none_at : (v : Ratio) (n j : ℕ) → decimal_places v ≡ Some n → j < n → has_places v.bottom j ≡ false
unfolding decimal_places
none_at v n j e h = none_before (has_places v.bottom) 19 0 n j e (omega arith) h

not_small : (b : ℕ) → 0 < b → has_places b 17 ≡ false → has_places b 18 ≡ true → 10 ≤ b
not_small zero h e f = absurd (omega arith)
not_small (suc zero) h e f = absurd cc
not_small (suc (suc zero)) h e f = absurd cc
not_small (suc (suc (suc zero))) h e f = absurd cc
not_small (suc (suc (suc (suc zero)))) h e f = absurd cc
not_small (suc (suc (suc (suc (suc zero))))) h e f = absurd cc
not_small (suc (suc (suc (suc (suc (suc zero)))))) h e f = absurd cc
not_small (suc (suc (suc (suc (suc (suc (suc zero))))))) h e f = absurd cc
not_small (suc (suc (suc (suc (suc (suc (suc (suc zero)))))))) h e f = absurd cc
not_small (suc (suc (suc (suc (suc (suc (suc (suc (suc zero))))))))) h e f = absurd cc
not_small (suc (suc (suc (suc (suc (suc (suc (suc (suc (suc n)))))))))) h e f = omega arith

whole_size : (s b n : ℕ) → s < 2 ^ 63 → 0 < b → n ≤ 18 → (n ≡ 18 → 10 ≤ b) → length (decimal (s / b)) + n ≤ 36
whole_size s b n small some few large = go (cases n few)
  where
    cases : (n : ℕ) → n ≤ 18 → (n ≡ 18) ⊎ (n ≤ 17)
    cases n h = grind arith

    at_most : (s b : ℕ) → 0 < b → s < 2 ^ 63 → s / b < 2 ^ 63
    at_most s b some small = (div-lt_iff_lt-mul some).1 (above s b some small)
      where
        above : (s b : ℕ) → 0 < b → s < 2 ^ 63 → s < 2 ^ 63 * b
        above s (suc b) some small = omega arith
        above s zero some small = absurd (omega arith)

    tenth : (s b : ℕ) → 0 < b → 10 ≤ b → s < 2 ^ 63 → s / b < 10 ^ 18
    tenth s b some large small = (div-lt_iff_lt-mul some).1 (above s b large small)
      where
        above : (s b : ℕ) → 10 ≤ b → s < 2 ^ 63 → s < 10 ^ 18 * b
        above s b large small = omega arith

    go : (n ≡ 18) ⊎ (n ≤ 17) → length (decimal (s / b)) + n ≤ 36
    go (inl e) = omega (arith, length-decimal-le 18 (s / b) (omega arith) (tenth s b some (large e) small) (omega (arith, at_most s b some small)))
    go (inr h) = omega (arith, length-decimal-le 19 (s / b) (omega arith) (omega (arith, at_most s b some small)) (omega (arith, at_most s b some small)))

-- ---- the text of a fraction

pub small_numbers : (v : Ratio) → in_bounds v ≡ true → (unsigned_abs v.top < 2 ^ 63) × (v.bottom < 2 ^ 63)
small_numbers v h = let p = and_true (nat_lt (unsigned_abs v.top) (2 ^ 63)) (nat_lt v.bottom (2 ^ 63)) h in (below (unsigned_abs v.top) p.0, below v.bottom p.1)
  where
    below : (m : ℕ) → nat_lt m (2 ^ 63) ≡ true → m < 2 ^ 63
    below m h = grind (arith, nat_tests)

one_bottom : (b : ℕ) → 0 < b → has_places b 0 ≡ true → b ≡ 1
one_bottom zero h e = absurd (omega arith)
one_bottom (suc zero) h e = refl
one_bottom (suc (suc n)) h e = absurd (other (suc (suc n)) (omega arith) e)
  where
    tested : (m : ℕ) → (m == 0) ≡ true → m ≡ 0
    tested m e = grind (arith, nat_tests)

    other : (b : ℕ) → 2 ≤ b → (1 % b == 0) ≡ true → ⊥
    other b h e =
        let some : 0 < b = omega arith in
        let none : 1 / b ≡ 0 = omega (arith, (div-lt_iff_lt-mul some).1 (only b h)) in
        let left : 0 * b + 1 % b ≡ 1 = ap (λ q. q * b + 1 % b) (sym none) ∙ div-add-mod' 1 b in
        omega (arith, left, tested (1 % b) e)
      where
        only : (b : ℕ) → 2 ≤ b → 1 < 1 * b
        only b h = omega arith

divides : (b n : ℕ) → has_places b n ≡ true → 10 ^ n % b ≡ 0
divides b n e = grind (arith, nat_tests)

pub whole_spelt : (top : ℤ) (v : Ratio) → unsigned_abs top < 2 ^ 63 → ratio top 1 ≡ v → Spells (signed_decimal top) v
whole_spelt (pos m) v small is =
    let fits : m < 2 ^ 64 = omega (arith, small) in
    spells_plain (decimal m) (decimal m) 0 v (unsigned_whole (decimal m) (decimal_nonempty m fits) (decimal_digits m fits)) (few m small)
    (ap (λ n. ratio (pos n) 1) (decimal_value m fits) ∙ is)
  where
    few : (m : ℕ) → m < 2 ^ 63 → length (decimal m) ≤ 36
    few m h = omega (arith, length-decimal-le 19 m (omega arith) (omega (arith, h)) (omega (arith, h)))
whole_spelt (negsuc m) v small is =
    let fits : suc m < 2 ^ 64 = omega (arith, small) in
    spells_minus (decimal (suc m)) (decimal (suc m)) 0 v (unsigned_whole (decimal (suc m)) (decimal_nonempty (suc m) fits) (decimal_digits (suc m) fits)) (few (suc m) small)
    (ap (λ n. ratio (signed true n) 1) (decimal_value (suc m) fits) ∙ is)
  where
    few : (m : ℕ) → m < 2 ^ 63 → length (decimal m) ≤ 36
    few m h = omega (arith, length-decimal-le 19 m (omega arith) (omega (arith, h)) (omega (arith, h)))

-- a part of a power of ten, with its sign
abbrev part_text : ℕ → ℕ → ℕ → List ℕ
part_text s b n = decimal (s / b) ++ full_stop ∷ padded n (s % b * 10 ^ n / b)

record PartSpelt (s b n : ℕ) : Type 0 where
  digits : List ℕ
  unsigned : Unsigned (part_text s b n) digits n
  short : length digits ≤ 36
  value : (negative : Bool) → ratio (signed negative (digits_value 10 digits)) (10 ^ n) ≡ ratio (signed negative s) b

part_spelt : (s b n : ℕ) → s < 2 ^ 63 → 0 < b → 0 < n → n ≤ 18 → 10 ^ n % b ≡ 0 → (n ≡ 18 → 10 ≤ b) → PartSpelt s b n
part_spelt s b n small some places few whole large =
    let part = s % b * 10 ^ n / b in
    let below : part < 10 ^ n = part_below s b (10 ^ n) some (ten_pos n) in
    let fits : part < 2 ^ 64 = omega (arith, below, ten_mono n 18 few) in
    let p : Padded n part = padded_is n part places below fits in
    let front : s / b < 2 ^ 64 = quotient_fits s b some small in
    record {
      digits = decimal (s / b) ++ padded n part;
      unsigned = subst (λ (m : ℕ). Unsigned (part_text s b n) (decimal (s / b) ++ padded n part) m) p.size
          (unsigned_point (decimal (s / b)) (padded n part) (decimal_nonempty (s / b) front) (omega (arith, p.size, places)) (decimal_digits (s / b) front) p.digits);
      short = omega (arith, length-append (decimal (s / b)) (padded n part), p.size, whole_size s b n small some few large);
      value = λ negative.
          ap (λ m. ratio (signed negative m) (10 ^ n))
          (value_append (decimal (s / b)) (padded n part) ∙ ap₂ (λ x y. x * 10 ^ length (padded n part) + y) (decimal_value (s / b) front) p.value ∙ ap (λ m. s / b * 10 ^ m + part) p.size
          ∙ scaled_parts s b (10 ^ n) some whole)
          ∙ ap (λ m. ratio (signed negative (s * (10 ^ n / b))) m) (power (10 ^ n) b whole)
          ∙ ratio_cancel negative s b (10 ^ n / b) some (above (10 ^ n) (10 ^ n / b) b (power (10 ^ n) b whole) (ten_pos n));
    }
  where
    quotient_fits : (s b : ℕ) → 0 < b → s < 2 ^ 63 → s / b < 2 ^ 64
    quotient_fits s b some small = (div-lt_iff_lt-mul some).1 (times s b some small)
      where
        times : (s b : ℕ) → 0 < b → s < 2 ^ 63 → s < 2 ^ 64 * b
        times s (suc b) some small = omega arith
        times s zero some small = absurd (omega arith)

    power : (p b : ℕ) → p % b ≡ 0 → p ≡ b * (p / b)
    power p b e = omega (arith, e, div-add-mod' p b)

    above : (p k b : ℕ) → p ≡ b * k → 0 < p → 0 < k
    above p zero b e h = absurd (omega (arith, e, h))
    above p (suc k) b e h = omega arith

-- the text as it is written, behind its sign or without one
with_sign : (negative : Bool) (ds es : List ℕ) → (if negative then codes "-" else []) ++ ds ++ codes "." ++ es ≡ (if negative then hyphen ∷ (ds ++ full_stop ∷ es) else ds ++ full_stop ∷ es)
with_sign true ds es = ap (λ (xs : List ℕ). hyphen ∷ xs) (append_assoc ds (codes ".") es)
with_sign false ds es = append_assoc ds (codes ".") es

text_is : (top : ℤ) (b n : ℕ) → decimal_text top b n ≡ (if is_negative top then hyphen ∷ part_text (unsigned_abs top) b n else part_text (unsigned_abs top) b n)
unfolding decimal_text
text_is top b n =
    let part = padded n (unsigned_abs top % b * 10 ^ n / b) in
    ap (λ (c : Bool). (if c then codes "-" else []) ++ decimal (unsigned_abs top / b) ++ codes "." ++ part) (below_zero top) ∙ with_sign (is_negative top) (decimal (unsigned_abs top / b)) part

point_spelt : (top : ℤ) (b n : ℕ) (v : Ratio) → unsigned_abs top < 2 ^ 63 → 0 < b → 0 < n → n ≤ 18 → 10 ^ n % b ≡ 0 → (n ≡ 18 → 10 ≤ b) → ratio top b ≡ v → Spells (decimal_text top b n) v
point_spelt (pos m) b n v small some places few whole large is =
    let p : PartSpelt m b n = part_spelt m b n small some places few whole large in
    subst (λ (t : List ℕ). Spells t v) (sym (text_is (pos m) b n)) (spells_plain (part_text m b n) p.digits n v p.unsigned p.short (p.value false ∙ is))
point_spelt (negsuc m) b n v small some places few whole large is =
    let p : PartSpelt (suc m) b n = part_spelt (suc m) b n small some places few whole large in
    subst (λ (t : List ℕ). Spells t v) (sym (text_is (negsuc m) b n)) (spells_minus (part_text (suc m) b n) p.digits n v p.unsigned p.short (p.value true ∙ is))

pub frac_spelt : (v : Ratio) (n : ℕ) → in_bounds v ≡ true → decimal_places v ≡ Some n → Spells (frac_text v) v
frac_spelt v n h e = subst (λ (o : Option ℕ). Spells (text_with v.top v.bottom o) v) (sym e) (go n e (small_numbers v h).0)
  where
    passes : (n : ℕ) → decimal_places v ≡ Some n → has_places v.bottom n ≡ true
    passes n e = passes_at v n e

    go : (n : ℕ) → decimal_places v ≡ Some n → unsigned_abs v.top < 2 ^ 63 → Spells (text_with v.top v.bottom (Some n)) v
    go zero e small = whole_spelt v.top v small (ap (ratio v.top) (sym (one_bottom v.bottom v.positive (passes zero e))) ∙ ratio_self v)
    go (suc n) e small =
        point_spelt v.top v.bottom (suc n) v small v.positive (omega arith) (places_small v (suc n) e) (divides v.bottom (suc n) (passes (suc n) e))
        (λ last. not_small v.bottom v.positive (none_at v (suc n) 17 e (omega (arith, last))) (ap (has_places v.bottom) (sym last) ∙ passes (suc n) e)) (ratio_self v)
