-- Simplification keeps the least and the greatest.
use Rattle.std.specs.Prelude.{Bool, true, false, ◌&&◌, if◌then◌else◌, List, [], ◌∷◌, Option, Some, None, map, fold}
use Rattle.std.proofs.Common.{◌≡◌, refl, sym, ◌∙◌, ap}
use Rattle.std.proofs.Math.Path.{ap₂}
use Rattle.cv_spec_ratio.specs.Ratio.{Ratio, mul, one_ratio}
use Rattle.cv_spec_ratio.proofs.Laws.{mul_one}
use Rattle.cv_calc.specs.declared.unit.Unit as units
use Rattle.cv_calc.specs.declared.unit.Unit.TheVariants.{Number, Percent, Px, Deg, S, Hz, Dppx, Fr}
use Rattle.cv_calc.specs.declared.context.Basis.{Basis}
use Rattle.cv_calc.specs.declared.context.Basis.TheVariants.{Plain, Length, Of}
use Rattle.cv_calc.specs.declared.context.Context.{Context}
use Rattle.cv_calc.specs.declared.calc.Calc.{Calc}
use Rattle.cv_calc.specs.declared.calc.Calc.TheVariants as tree
use Rattle.cv_calc.specs.declared.calc.Calc.TheOpen.{Calc-F, Num}
use Rattle.cv_calc.specs.declared.calc.Calc.TheViews.{out-Calc, roll-Calc, roll-out-Calc}
use Rattle.cv_calc.specs.Unit.{same_unit, same_unit-true}
use Rattle.cv_calc.specs.Value.{Meaning, unit_value, value, both, chosen_of}
use Rattle.cv_calc.proofs.Values.{value-roll, value-Num}
use Rattle.cv_simplify.specs.Simplified.{joined_as, joined_by, join_first, with_child, one_or, compares_percent, may_compare}
use Rattle.cv_simplify.specs.Agrees.{Agrees, AgreesPercent}
use Rattle.cv_simplify.specs.Canonical.{is_canonical, holds_canonical}
use Rattle.cv_simplify.proofs.Canonical.{all_hold, canonical-roll, rows_canonical}
use Rattle.cv_simplify.proofs.InRange.{and_true, both_true}

module _ (m : Meaning) (x : Context) (ag : Agrees m x) where
  percents_one : (b : Basis) → AgreesPercent b m.percent → may_compare (compares_percent b) Percent ≡ true → m.percent ≡ one_ratio
  percents_one Plain h k = h
  percents_one Length h k = cc
  percents_one (Of f) h k = cc

  -- numbers of one unit are compared where this unit stands for itself
  pub compared_one : (u : units.Unit) → is_canonical u ≡ true → may_compare (compares_percent x.basis) u ≡ true → unit_value m u ≡ one_ratio
  compared_one Percent h k = percents_one x.basis ag.percent k
  compared_one Number h k = refl
  compared_one Px h k = refl
  compared_one Deg h k = refl
  compared_one S h k = refl
  compared_one Hz h k = refl
  compared_one Dppx h k = refl
  compared_one Fr h k = refl
  compared_one _ h k = cc

module _ (m : Meaning) (f : Ratio → Ratio → Ratio) (comm : (a b : Ratio) → f a b ≡ f b a) (assoc : (a b c : Ratio) → f (f a b) c ≡ f a (f b c))
    (may : units.Unit → Bool) (ones : (u : units.Unit) → is_canonical u ≡ true → may u ≡ true → unit_value m u ≡ one_ratio) where
  either_comm : (o p : Option Ratio) → both f o p ≡ both f p o
  either_comm None None = refl
  either_comm None (Some b) = refl
  either_comm (Some a) None = refl
  either_comm (Some a) (Some b) = ap Some (comm a b)

  either_assoc : (o p q : Option Ratio) → both f (both f o p) q ≡ both f o (both f p q)
  either_assoc None p q = refl
  either_assoc (Some a) None q = refl
  either_assoc (Some a) (Some b) None = refl
  either_assoc (Some a) (Some b) (Some c) = ap Some (assoc a b c)

  either_swap : (o p q : Option Ratio) → both f (both f o p) q ≡ both f (both f o q) p
  either_swap o p q = either_assoc o p q ∙ ap (both f o) (either_comm p q) ∙ sym (either_assoc o q p)

  abbrev chosen : List Calc → Option Ratio
  chosen cs = chosen_of f (map (value m) cs)

  -- a joined number is the least or the greatest of the two
  chosen_joined : (c d e : Calc) (k l : Calc-F Calc) → roll-Calc k ≡ c → roll-Calc l ≡ d → holds_canonical c ≡ true → joined_as may f k l ≡ Some e →
      value m e ≡ both f (value m c) (value m d)
  chosen_joined c d e (Num v u) (Num w t) p q h is = go (same_unit u t) (may u) refl refl is
    where
      canonical_u : is_canonical u ≡ true
      canonical_u = sym (canonical-roll (Num v u)) ∙ ap holds_canonical p ∙ h

      one_value : (r : Ratio) (s : units.Unit) → unit_value m s ≡ one_ratio → mul r (unit_value m s) ≡ r
      one_value r s one = ap (mul r) one ∙ mul_one r

      go : (a b : Bool) → same_unit u t ≡ a → may u ≡ b → (if a && b then Some (tree.Num (f v w) u) else None) ≡ Some e → value m e ≡ both f (value m c) (value m d)
      go true true same allowed is =
          let made : tree.Num (f v w) u ≡ e = cc in
          let one = ones u canonical_u allowed in
          let other : unit_value m t ≡ one_ratio = ap (unit_value m) (sym (same_unit-true u t same)) ∙ one in
          ap (value m) (sym made) ∙ value-Num m (f v w) u ∙ ap Some (one_value (f v w) u one)
          ∙ sym (ap₂ (both f) (sym (ap (value m) p) ∙ value-roll m (Num v u) ∙ ap Some (one_value v u one)) (sym (ap (value m) q) ∙ value-roll m (Num w t) ∙ ap Some (one_value w t other)))
      go true false same allowed is = cc
      go false b same allowed is = cc
  chosen_joined c d e (Num v u) _ p q h is = cc
  chosen_joined c d e _ _ p q h is = cc

  -- the least or greatest of a row that begins with one
  chosen_first : (o : Option Calc) (c : Calc) (cs more : List Calc) (r : Option Ratio) →
      chosen_of f (r ∷ map (value m) (join_first o c cs more)) ≡ both f r (chosen (join_first o c cs more))
  chosen_first (Some e) c cs more r = refl
  chosen_first None c cs more r = refl

  chosen_row : (c : Calc) (cs : List Calc) (d : Calc) → all_hold (c ∷ cs) ≡ true → chosen (with_child (joined_by may f) (c ∷ cs) d) ≡ both f (chosen (c ∷ cs)) (value m d)
  chosen_row c [] d h = go (joined_by may f c d) refl
    where
      go : (o : Option Calc) → joined_by may f c d ≡ o → chosen (join_first o c [] (d ∷ [])) ≡ both f (value m c) (value m d)
      go (Some e) is = chosen_joined c d e (out-Calc c) (out-Calc d) (roll-out-Calc c) (roll-out-Calc d) (and_true (holds_canonical c) true h).0 is
      go None is = refl
  chosen_row c (b ∷ cs) d h =
      let parts = and_true (holds_canonical c) (all_hold (b ∷ cs)) h in
      go (joined_by may f c d) refl parts.0 (chosen_row b cs d parts.1)
    where
      go : (o : Option Calc) → joined_by may f c d ≡ o → holds_canonical c ≡ true → chosen (with_child (joined_by may f) (b ∷ cs) d) ≡ both f (chosen (b ∷ cs)) (value m d) →
          chosen (join_first o c (b ∷ cs) (with_child (joined_by may f) (b ∷ cs) d)) ≡ both f (both f (value m c) (chosen (b ∷ cs))) (value m d)
      go (Some e) is first ih =
          ap (λ o. both f o (chosen (b ∷ cs))) (chosen_joined c d e (out-Calc c) (out-Calc d) (roll-out-Calc c) (roll-out-Calc d) first is)
          ∙ either_swap (value m c) (value m d) (chosen (b ∷ cs))
      go None is first ih =
          chosen_first (joined_by may f b d) b cs (with_child (joined_by may f) cs d) (value m c)
          ∙ ap (both f (value m c)) ih ∙ sym (either_assoc (value m c) (chosen (b ∷ cs)) (value m d))

  nonempty : (c : Calc) (cs : List Calc) (d : Calc) → (b : Calc) × (bs : List Calc) × (with_child (joined_by may f) (c ∷ cs) d ≡ b ∷ bs)
  nonempty c cs d = go (joined_by may f c d) refl
    where
      go : (o : Option Calc) → joined_by may f c d ≡ o → (b : Calc) × (bs : List Calc) × (join_first (joined_by may f c d) c cs (with_child (joined_by may f) cs d) ≡ b ∷ bs)
      go (Some e) is = (e, cs, ap (λ o. join_first o c cs (with_child (joined_by may f) cs d)) is)
      go None is = (c, with_child (joined_by may f) cs d, ap (λ o. join_first o c cs (with_child (joined_by may f) cs d)) is)

  -- a list's least or greatest from the left
  from_first : (r : Option Ratio) (rs : List (Option Ratio)) → chosen_of f (r ∷ rs) ≡ fold (both f) r rs
  from_first r [] = refl
  from_first r (s ∷ rs) = ap (both f r) (from_first s rs) ∙ pushed r s rs
    where
      pushed : (r s : Option Ratio) (rs : List (Option Ratio)) → both f r (fold (both f) s rs) ≡ fold (both f) (both f r s) rs
      pushed r s [] = refl
      pushed r s (t ∷ rs) = pushed r (both f s t) rs ∙ ap (λ o. fold (both f) o rs) (sym (either_assoc r s t))

  chosen_rows : (row cs : List Calc) (c : Calc) (bs : List Calc) → row ≡ c ∷ bs → all_hold row ≡ true → all_hold cs ≡ true →
      chosen (fold (with_child (joined_by may f)) row cs) ≡ fold (both f) (chosen row) (map (value m) cs)
  chosen_rows row [] c bs is h k = refl
  chosen_rows row (d ∷ cs) c bs is h k =
      let parts = and_true (holds_canonical d) (all_hold cs) k in
      let next = nonempty c bs d in
      chosen_rows (with_child (joined_by may f) row d) cs next.0 next.1 (ap (λ r. with_child (joined_by may f) r d) is ∙ next.2)
      (rows_canonical may f row (d ∷ []) h (both_true (holds_canonical d) true parts.0 refl)) parts.1
      ∙ ap (λ o. fold (both f) o (map (value m) cs))
      (ap (λ r. chosen (with_child (joined_by may f) r d)) is ∙ chosen_row c bs d (ap all_hold (sym is) ∙ h) ∙ ap (λ r. both f (chosen r) (value m d)) (sym is))

  pub chosen_kept : (cs : List Calc) → all_hold cs ≡ true → chosen (fold (with_child (joined_by may f)) [] cs) ≡ chosen cs
  chosen_kept [] h = refl
  chosen_kept (c ∷ cs) h =
      let parts = and_true (holds_canonical c) (all_hold cs) h in
      chosen_rows (c ∷ []) cs c [] refl (both_true (holds_canonical c) true parts.0 refl) parts.1
      ∙ sym (from_first (value m c) (map (value m) cs))

  pub one_or_chosen : (node : List Calc → Calc) → ((cs : List Calc) → value m (node cs) ≡ chosen cs) → (row : List Calc) → value m (one_or node row) ≡ chosen row
  one_or_chosen node is [] = is []
  one_or_chosen node is (c ∷ []) = refl
  one_or_chosen node is (c ∷ d ∷ cs) = is (c ∷ d ∷ cs)
