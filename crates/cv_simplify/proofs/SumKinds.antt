-- The kinds of rows whose numbers of one unit are joined, and of a sum.
use Rattle.std.specs.Prelude.{Bool, true, false, ◌&&◌, List, [], ◌∷◌, fold, map, Option, Some, None, if◌then◌else◌}
use Rattle.std.proofs.Common.{◌≡◌, refl, sym, ◌∙◌, ap}
use Rattle.std.proofs.Math.Path.{ap₂}
use Rattle.cv_spec_ratio.specs.Ratio.{Ratio, add}
use Rattle.cv_calc.specs.declared.unit.Unit as units
use Rattle.cv_calc.specs.declared.calc.Calc.{Calc}
use Rattle.cv_calc.specs.declared.calc.Calc.TheVariants as tree
use Rattle.cv_calc.specs.declared.calc.Calc.TheOpen.{Calc-F, Num, Sum}
use Rattle.cv_calc.specs.declared.calc.Calc.TheViews.{out-Calc, roll-Calc, roll-out-Calc}
use Rattle.cv_calc.specs.Unit.{same_unit, same_unit-true}
use Rattle.cv_simplify.specs.Simplified.{joined_as, joined_by, join_first, with_child, any_unit, one_or, terms_as, terms_of, with_terms_of, sum_row, summed}
use Rattle.cv_simplify.proofs.Measures.{Kind, nothing, plain, measured, met_self, added_kind, multiplied_kind, lifted, added_comm, added_assoc, added_none}
use Rattle.cv_simplify.proofs.TreeKinds.{added_kinds, multiplied_kinds, closed, closed_is, closed_real, kind, kind-roll, kind-Num, kind-Sum, kind_closed}
use Rattle.cv_simplify.proofs.UnitKinds.{unit_kind}

-- ---- a kind that is another's wherever that is there

pub record Covers (o p : Option Kind) : Type 0 where
  pub same : (k : Kind) → o ≡ Some k → p ≡ Some k

pub covers_same : (o p : Option Kind) → o ≡ p → Covers o p
covers_same o p e = record { same = λ k h. sym e ∙ h }

pub covers_trans : (o p q : Option Kind) → Covers o p → Covers p q → Covers o q
covers_trans o p q h i = record { same = λ k e. i.same k (h.same k e) }

pub covers_both : (f : Kind → Kind → Option Kind) (o o' p p' : Option Kind) → Covers o o' → Covers p p' → Covers (lifted f o p) (lifted f o' p')
covers_both f None o' p p' h i = record { same = λ k e. cc }
covers_both f (Some a) o' None p' h i = record { same = λ k e. cc }
covers_both f (Some a) o' (Some b) p' h i = record { same = λ k e. rw (h.same a refl, i.same b refl) e }

pub covers_closed : (o p : Option Kind) → Covers o p → Covers (closed o) (closed p)
covers_closed o p h = record { same = λ k e. let parts = closed_is o k e in ap closed (h.same k parts.0) ∙ closed_real k parts.1 }

pub nothing_added : (o : Option Kind) → lifted added_kind (Some nothing) o ≡ o
nothing_added None = refl
nothing_added (Some k) = refl

pub nothing_multiplied : (o : Option Kind) → lifted multiplied_kind (Some nothing) o ≡ o
nothing_multiplied None = refl
nothing_multiplied (Some k) = refl

pub added_self : (k : Kind) → lifted added_kind (closed (Some k)) (closed (Some k)) ≡ closed (Some k)
added_self nothing = refl
added_self plain = refl
added_self (measured m) = ap (λ n. Some (measured n)) (met_self m)

abbrev pub kind_of : Calc → Option Kind
kind_of = kind unit_kind

abbrev pub total : List Calc → Option Kind
total cs = added_kinds (map kind_of cs)

abbrev pub times : List Calc → Option Kind
times cs = multiplied_kinds (map kind_of cs)

-- the kind of a number that is opened
pub opened : (c : Calc) (v : Ratio) (u : units.Unit) → roll-Calc (Num v u) ≡ c → kind_of c ≡ closed (Some (unit_kind u))
opened c v u p = ap kind_of (sym p) ∙ kind-roll unit_kind (Num v u)

-- ---- rows whose numbers of one unit are joined

module _ (may : units.Unit → Bool) (f : Ratio → Ratio → Ratio) where
  joined_kind : (c d e : Calc) (k l : Calc-F Calc) → roll-Calc k ≡ c → roll-Calc l ≡ d → joined_as may f k l ≡ Some e → kind_of e ≡ lifted added_kind (kind_of c) (kind_of d)
  joined_kind c d e (Num v u) (Num w t) p q is = go (same_unit u t) (may u) refl is
    where
      go : (a b : Bool) → same_unit u t ≡ a → (if a && b then Some (tree.Num (f v w) u) else None) ≡ Some e → kind_of e ≡ lifted added_kind (kind_of c) (kind_of d)
      go true true same is =
          let made : tree.Num (f v w) u ≡ e = cc in
          ap kind_of (sym made) ∙ kind-Num unit_kind (f v w) u ∙ sym (added_self (unit_kind u))
          ∙ sym (ap₂ (lifted added_kind) (opened c v u p) (opened d w t q ∙ ap (λ s. closed (Some (unit_kind s))) (sym (same_unit-true u t same))))
      go true false same is = cc
      go false b same is = cc
  joined_kind c d e (Num v u) _ p q is = cc
  joined_kind c d e _ _ p q is = cc

  total-join_first : (c d : Calc) (cs more : List Calc) (o : Option Calc) → joined_by may f c d ≡ o → total more ≡ lifted added_kind (total cs) (kind_of d) →
      total (join_first o c cs more) ≡ lifted added_kind (total (c ∷ cs)) (kind_of d)
  total-join_first c d cs more (Some e) is ih =
      ap (λ o. lifted added_kind o (total cs)) (joined_kind c d e (out-Calc c) (out-Calc d) (roll-out-Calc c) (roll-out-Calc d) is)
      ∙ added_assoc (kind_of c) (kind_of d) (total cs)
      ∙ ap (lifted added_kind (kind_of c)) (added_comm (kind_of d) (total cs))
      ∙ sym (added_assoc (kind_of c) (total cs) (kind_of d))
  total-join_first c d cs more None is ih = ap (lifted added_kind (kind_of c)) ih ∙ sym (added_assoc (kind_of c) (total cs) (kind_of d))

  total-with_child : (row : List Calc) (d : Calc) → total (with_child (joined_by may f) row d) ≡ lifted added_kind (total row) (kind_of d)
  total-with_child [] d = added_comm (kind_of d) (Some nothing)
  total-with_child (c ∷ cs) d = total-join_first c d cs _ (joined_by may f c d) refl (total-with_child cs d)

  pub total-fold : (row ts : List Calc) → total (fold (with_child (joined_by may f)) row ts) ≡ lifted added_kind (total row) (total ts)
  total-fold row [] = sym (added_none (total row))
  total-fold row (t ∷ ts) =
      total-fold (with_child (joined_by may f) row t) ts ∙ ap (λ o. lifted added_kind o (total ts)) (total-with_child row t) ∙ added_assoc (total row) (kind_of t) (total ts)

-- one child alone has the kind of the row
pub kind-one_or : (node : List Calc → Calc) (all : List Calc → Option Kind) → ((c : Calc) → all (c ∷ []) ≡ kind_of c) → ((cs : List Calc) → kind_of (node cs) ≡ closed (all cs)) → (cs : List Calc) →
    kind_of (one_or node cs) ≡ closed (all cs)
kind-one_or node all one is [] = is []
kind-one_or node all one is (c ∷ []) = sym (ap closed (one c) ∙ kind_closed unit_kind c)
kind-one_or node all one is (c ∷ d ∷ cs) = is (c ∷ d ∷ cs)

pub alone : (c : Calc) → total (c ∷ []) ≡ kind_of c
alone c = added_none (kind_of c)

-- ---- a sum

total-terms : (c : Calc) (l : Calc-F Calc) → roll-Calc l ≡ c → Covers (kind_of c) (total (terms_as c l))
total-terms c (Sum ds) e = record { same = λ k h. (closed_is (total ds) k (sym (ap kind_of (sym e) ∙ kind-roll unit_kind (Sum ds)) ∙ h)).0 }
total-terms c _ e = covers_same _ _ (sym (alone c))

total-rows : (row cs : List Calc) → Covers (lifted added_kind (total row) (total cs)) (total (fold with_terms_of row cs))
total-rows row [] = covers_same _ _ (added_none (total row))
total-rows row (c ∷ cs) =
    covers_trans _ _ _ (covers_same _ _ (sym (added_assoc (total row) (kind_of c) (total cs))))
    (covers_trans _ _ _
    (covers_both added_kind _ _ _ _
    (covers_trans _ _ _ (covers_both added_kind _ _ _ _ (covers_same (total row) _ refl) (total-terms c (out-Calc c) (roll-out-Calc c)))
    (covers_same _ _ (sym (total-fold any_unit add row (terms_of c)))))
    (covers_same (total cs) _ refl))
    (total-rows (with_terms_of row c) cs))

pub summed_kind : (cs : List Calc) → Covers (closed (total cs)) (kind_of (summed cs))
summed_kind cs =
    covers_trans _ _ _ (covers_closed _ _ (covers_trans _ _ _ (covers_same _ _ (sym (nothing_added (total cs)))) (total-rows [] cs)))
    (covers_same _ _ (sym (kind-one_or tree.Sum total alone (kind-Sum unit_kind) (sum_row cs))))
