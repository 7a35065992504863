-- The least and the greatest of three fractions, and values that are joined one after the other.
use Rattle.std.specs.Prelude.{Bool, true, false, List, [], ◌∷◌, fold, Option, Some, None}
use Rattle.std.proofs.Common.{◌≡◌, refl, sym, ◌∙◌, ap}
use Rattle.std.specs.Ordering.{is_le, ordering_reverse}
use Rattle.std.specs.declared.cmp.Ordering.{Ordering}
use Rattle.std.specs.declared.cmp.Ordering.TheVariants.{Less, Equal, Greater}
use Rattle.cv_spec_ratio.specs.Ratio.{Ratio, add, mul, zero_ratio, one_ratio}
use Rattle.cv_spec_ratio.specs.Order.{ratio_cmp, at_most, lesser, greater}
use Rattle.cv_spec_ratio.proofs.Order.{ratio_cmp_total}
use Rattle.cv_spec_ratio.proofs.Laws.{mul-assoc, mul_one, mul_comm_ratio}
use Rattle.cv_calc.specs.Value.{both, sum_of, product_of, chosen_of}
use Rattle.cv_calc.proofs.Values.{both_comm, both_assoc, both_zero}

at_most-trans : (a b c : Ratio) → at_most a b ≡ true → at_most b c ≡ true → at_most a c ≡ true
at_most-trans a b c h k = go (ratio_cmp a b) (ratio_cmp b c) refl refl h k
  where
    go : (o p : Ordering) → ratio_cmp a b ≡ o → ratio_cmp b c ≡ p → is_le o ≡ true → is_le p ≡ true → is_le (ratio_cmp a c) ≡ true
    go Less Less e f h k = ap is_le (ratio_cmp_total.trans a b c e f)
    go Less Equal e f h k = ap is_le (ratio_cmp_total.antisymm a c ∙ ap ordering_reverse (sym (ratio_cmp_total.congr b c a f) ∙ ratio_cmp_total.antisymm b a ∙ ap ordering_reverse e))
    go Less Greater e f h k = cc
    go Equal p e f h k = ap is_le (ratio_cmp_total.congr a b c e ∙ f) ∙ k
    go Greater p e f h k = cc

turned : (a b : Ratio) → at_most a b ≡ false → at_most b a ≡ true
turned a b h = go (ratio_cmp a b) refl h
  where
    go : (o : Ordering) → ratio_cmp a b ≡ o → is_le o ≡ false → is_le (ratio_cmp b a) ≡ true
    go Less e h = cc
    go Equal e h = cc
    go Greater e h = ap is_le (ratio_cmp_total.antisymm b a ∙ ap ordering_reverse e)

above_both : (a b c : Ratio) → at_most a b ≡ false → at_most b c ≡ false → at_most a c ≡ false
above_both a b c h k = go (at_most a c) refl
  where
    go : (s : Bool) → at_most a c ≡ s → at_most a c ≡ false
    go true e = absurd (apart (sym (at_most-trans a c b e (turned b c k)) ∙ h))
      where
        apart : ◌≡◌ {A = Bool} true false → ⊥
        apart e = cc
    go false e = e

pub lesser_assoc : (a b c : Ratio) → lesser (lesser a b) c ≡ lesser a (lesser b c)
lesser_assoc a b c = go (at_most a b) (at_most b c) refl refl
  where
    go : (s t : Bool) → at_most a b ≡ s → at_most b c ≡ t → lesser (lesser a b) c ≡ lesser a (lesser b c)
    go true true e f = rw (e, f, e, at_most-trans a b c e f) refl
    go true false e f = rw (e, f) refl
    go false true e f = rw (e, f, e) refl
    go false false e f = rw (e, f, above_both a b c e f) refl

pub greater_assoc : (a b c : Ratio) → greater (greater a b) c ≡ greater a (greater b c)
greater_assoc a b c = go (at_most a b) (at_most b c) refl refl
  where
    go : (s t : Bool) → at_most a b ≡ s → at_most b c ≡ t → greater (greater a b) c ≡ greater a (greater b c)
    go true true e f = rw (e, f, at_most-trans a b c e f) refl
    go true false e f = rw (e, f, e) refl
    go false true e f = rw (e, f) refl
    go false false e f = rw (e, f, e, above_both a b c e f) refl

-- ---- values that are joined from the left

module _ (f : Ratio → Ratio → Ratio) (assoc : (a b c : Ratio) → f (f a b) c ≡ f a (f b c)) where
  pub both-assoc : (o p q : Option Ratio) → both f (both f o p) q ≡ both f o (both f p q)
  both-assoc None p q = refl
  both-assoc (Some a) None q = refl
  both-assoc (Some a) (Some b) None = refl
  both-assoc (Some a) (Some b) (Some c) = ap Some (assoc a b c)

  pulled : (o p : Option Ratio) (ps : List (Option Ratio)) → chosen_of f (both f o p ∷ ps) ≡ both f o (chosen_of f (p ∷ ps))
  pulled o p [] = refl
  pulled o p (q ∷ qs) = both-assoc o p (chosen_of f (q ∷ qs))

  pub fold_chosen : (o : Option Ratio) (ps : List (Option Ratio)) → fold (both f) o ps ≡ chosen_of f (o ∷ ps)
  fold_chosen o [] = refl
  fold_chosen o (p ∷ ps) = fold_chosen (both f o p) ps ∙ pulled o p ps

fold_sum : (o : Option Ratio) (ps : List (Option Ratio)) → fold (both add) o ps ≡ both add o (sum_of ps)
fold_sum o [] = sym (both_zero o)
fold_sum o (p ∷ ps) = fold_sum (both add o p) ps ∙ both_assoc o p (sum_of ps)

pub sum_from_left : (ps : List (Option Ratio)) → fold (both add) (Some zero_ratio) ps ≡ sum_of ps
sum_from_left ps = fold_sum (Some zero_ratio) ps ∙ both_comm (Some zero_ratio) (sum_of ps) ∙ both_zero (sum_of ps)

both_one : (o : Option Ratio) → both mul o (Some one_ratio) ≡ o
both_one None = refl
both_one (Some a) = ap Some (mul_one a)

one_both : (o : Option Ratio) → both mul (Some one_ratio) o ≡ o
one_both None = refl
one_both (Some a) = ap Some (mul_comm_ratio one_ratio a ∙ mul_one a)

fold_product : (o : Option Ratio) (ps : List (Option Ratio)) → fold (both mul) o ps ≡ both mul o (product_of ps)
fold_product o [] = sym (both_one o)
fold_product o (p ∷ ps) = fold_product (both mul o p) ps ∙ both-assoc mul mul-assoc o p (product_of ps)

pub product_from_left : (ps : List (Option Ratio)) → fold (both mul) (Some one_ratio) ps ≡ product_of ps
product_from_left ps = fold_product (Some one_ratio) ps ∙ one_both (product_of ps)
