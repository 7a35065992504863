-- The least and the greatest of fractions, in any order.
use Rattle.std.specs.Prelude.{Bool, true, false, int_lt, if◌then◌else◌}
use Rattle.std.specs.Ordering.{int_cmp, is_le, is_gt}
use Rattle.std.specs.declared.cmp.Ordering.{Ordering}
use Rattle.std.specs.declared.cmp.Ordering.TheVariants.{Less, Equal, Greater}
use Rattle.std.specs.Ordering.{ordering_reverse}
use Rattle.std.proofs.Common.{◌≡◌, ℤ, refl, sym, ◌∙◌, ap, arith, cond}
use Rattle.std.proofs.lemmas.Int.{ints}
use Rattle.std.proofs.lemmas.Cmp.{upto}
use Rattle.cv_spec_ratio.specs.Ratio.{Ratio}
use Rattle.cv_spec_ratio.specs.Order.{ratio_cmp, at_most, lesser, greater}
use Rattle.cv_spec_ratio.proofs.LowestTerms.{same_ratio}
use Rattle.cv_spec_ratio.proofs.Order.{ratio_cmp_total}

cmp_equal : (a b : ℤ) → int_cmp a b ≡ Equal → a ≡ b
cmp_equal a b e = go (int_lt a b) (int_lt b a) refl refl e
  where
    go : (s t : Bool) → int_lt a b ≡ s → int_lt b a ≡ t → cond s Less (cond t Greater Equal) ≡ Equal → a ≡ b
    go true t f g h = cc
    go false true f g h = cc
    go false false f g h = omega (arith, ints)

total : (r s : Ratio) → at_most r s ≡ false → at_most s r ≡ true
total r s h = ap is_le (ratio_cmp_total.antisymm s r) ∙ go (ratio_cmp r s) h
  where
    go : (o : Ordering) → is_le o ≡ false → is_le (ordering_reverse o) ≡ true
    go Less h = cc
    go Equal h = cc
    go Greater h = refl

both_at_most : (r s : Ratio) → at_most r s ≡ true → at_most s r ≡ true → r ≡ s
both_at_most r s h k = go (ratio_cmp r s) refl h (sym (ap is_le (ratio_cmp_total.antisymm s r)) ∙ k)
  where
    go : (o : Ordering) → ratio_cmp r s ≡ o → is_le o ≡ true → is_le (ordering_reverse (ratio_cmp r s)) ≡ true → r ≡ s
    go Less is h k = absurd (no (sym (ap (λ p. is_le (ordering_reverse p)) is) ∙ k))
      where
        no : is_le (ordering_reverse Less) ≡ true → ⊥
        no e = cc
    go Equal is h k = same_ratio r s (cmp_equal _ _ is)
    go Greater is h k = cc

at_most-trans : (a b c : Ratio) → at_most a b ≡ true → at_most b c ≡ true → at_most a c ≡ true
at_most-trans a b c h k = back (ratio_cmp a c) (upto ratio_cmp_total a b c (there (ratio_cmp a b) h) (there (ratio_cmp b c) k))
  where
    there : (o : Ordering) → is_le o ≡ true → is_gt o ≡ false
    there Less h = refl
    there Equal h = refl
    there Greater h = cc

    back : (o : Ordering) → is_gt o ≡ false → is_le o ≡ true
    back Less h = refl
    back Equal h = refl
    back Greater h = cc

-- a test that would be true against another can't be
no_circle : (a b c : Ratio) → at_most a b ≡ false → at_most b c ≡ false → at_most a c ≡ false
no_circle a b c h k = go (at_most a c) refl
  where
    go : (x : Bool) → at_most a c ≡ x → x ≡ false
    go true is = sym (at_most-trans a c b is (total b c k)) ∙ h
    go false is = refl

module _ (a b : Ratio) where
  least_if : (x : Bool) → at_most a b ≡ x → lesser a b ≡ (if x then a else b)
  least_if x h = ap (λ t. if t then a else b) h

  greatest_if : (x : Bool) → at_most a b ≡ x → greater a b ≡ (if x then b else a)
  greatest_if x h = ap (λ t. if t then b else a) h

pub lesser_comm : (a b : Ratio) → lesser a b ≡ lesser b a
lesser_comm a b = go (at_most a b) (at_most b a) refl refl
  where
    go : (x y : Bool) → at_most a b ≡ x → at_most b a ≡ y → lesser a b ≡ lesser b a
    go true true h k = least_if a b true h ∙ both_at_most a b h k ∙ sym (least_if b a true k)
    go true false h k = least_if a b true h ∙ sym (least_if b a false k)
    go false true h k = least_if a b false h ∙ sym (least_if b a true k)
    go false false h k = absurd (no (sym k ∙ total a b h))
      where
        no : false ≡ true → ⊥
        no e = cc

pub greater_comm : (a b : Ratio) → greater a b ≡ greater b a
greater_comm a b = go (at_most a b) (at_most b a) refl refl
  where
    go : (x y : Bool) → at_most a b ≡ x → at_most b a ≡ y → greater a b ≡ greater b a
    go true true h k = greatest_if a b true h ∙ sym (both_at_most a b h k) ∙ sym (greatest_if b a true k)
    go true false h k = greatest_if a b true h ∙ sym (greatest_if b a false k)
    go false true h k = greatest_if a b false h ∙ sym (greatest_if b a true k)
    go false false h k = absurd (no (sym k ∙ total a b h))
      where
        no : false ≡ true → ⊥
        no e = cc

pub lesser_assoc : (a b c : Ratio) → lesser (lesser a b) c ≡ lesser a (lesser b c)
lesser_assoc a b c = go (at_most a b) (at_most b c) refl refl
  where
    go : (x y : Bool) → at_most a b ≡ x → at_most b c ≡ y → lesser (lesser a b) c ≡ lesser a (lesser b c)
    go true true h k =
        ap (λ r. lesser r c) (least_if a b true h) ∙ least_if a c true (at_most-trans a b c h k)
        ∙ sym (ap (lesser a) (least_if b c true k) ∙ least_if a b true h)
    go true false h k = ap (λ r. lesser r c) (least_if a b true h) ∙ sym (ap (lesser a) (least_if b c false k))
    go false true h k =
        ap (λ r. lesser r c) (least_if a b false h) ∙ least_if b c true k ∙ sym (ap (lesser a) (least_if b c true k) ∙ least_if a b false h)
    go false false h k =
        ap (λ r. lesser r c) (least_if a b false h) ∙ least_if b c false k
        ∙ sym (ap (lesser a) (least_if b c false k) ∙ least_if a c false (no_circle a b c h k))

pub greater_assoc : (a b c : Ratio) → greater (greater a b) c ≡ greater a (greater b c)
greater_assoc a b c = go (at_most a b) (at_most b c) refl refl
  where
    go : (x y : Bool) → at_most a b ≡ x → at_most b c ≡ y → greater (greater a b) c ≡ greater a (greater b c)
    go true true h k =
        ap (λ r. greater r c) (greatest_if a b true h) ∙ greatest_if b c true k
        ∙ sym (ap (greater a) (greatest_if b c true k) ∙ greatest_if a c true (at_most-trans a b c h k))
    go true false h k =
        ap (λ r. greater r c) (greatest_if a b true h) ∙ greatest_if b c false k
        ∙ sym (ap (greater a) (greatest_if b c false k) ∙ greatest_if a b true h)
    go false true h k = ap (λ r. greater r c) (greatest_if a b false h) ∙ sym (ap (greater a) (greatest_if b c true k))
    go false false h k =
        ap (λ r. greater r c) (greatest_if a b false h) ∙ greatest_if a c false (no_circle a b c h k)
        ∙ sym (ap (greater a) (greatest_if b c false k) ∙ greatest_if a b false h)
