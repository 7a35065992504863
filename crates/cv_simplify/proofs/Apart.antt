-- Rows of calculations whose numbers have units that differ in pairs.
use Rattle.std.specs.Prelude.{Bool, true, false, ◌&&◌, List, [], ◌∷◌, fold, map, Option, Some, None, if◌then◌else◌}
use Rattle.std.proofs.Common.{◌≡◌, refl, sym, ◌∙◌, ap, ap₂}
use Rattle.cv_spec_ratio.specs.Ratio.{Ratio, add}
use Rattle.cv_calc.specs.declared.unit.Unit as units
use Rattle.cv_calc.specs.declared.calc.Calc.{Calc}
use Rattle.cv_calc.specs.declared.calc.Calc.TheVariants as tree
use Rattle.cv_calc.specs.declared.calc.Calc.TheOpen.{Calc-F, Num, Sum, Product, Negate, Invert, Min, Max, Clamp}
use Rattle.cv_calc.specs.declared.calc.Calc.TheViews.{out-Calc, roll-Calc, roll-out-Calc}
use Rattle.cv_calc.specs.declared.calc.Calc.TheFolds.{fold-Calc, fold-roll-Calc, map-Calc}
use Rattle.cv_calc.specs.Tree.{fold-Num, fold-Sum, fold-Product, fold-Negate, fold-Invert, fold-Min, fold-Max, fold-Clamp}
use Rattle.cv_calc.specs.Unit.{same_unit}
use Rattle.cv_simplify.specs.Simplified.{joined_as, joined_by, join_first, with_child, any_unit}

-- ---- the unit of a number, and whether two are numbers of one unit

abbrev pub unit_as : Calc-F Calc → Option units.Unit
unit_as (Num v u) = Some u
unit_as _ = None

abbrev pub same_kind : Option units.Unit → Option units.Unit → Bool
same_kind (Some u) (Some t) = same_unit u t
same_kind _ _ = false

abbrev pub none_of : Option units.Unit → List (Option units.Unit) → Bool
none_of k [] = true
none_of k (l ∷ ls) = if same_kind k l then false else none_of k ls

abbrev pub differ : List (Option units.Unit) → Bool
differ [] = true
differ (k ∷ ks) = none_of k ks && differ ks

pub record Known : Type 0 where
  pub kind : Option units.Unit
  pub apart : Bool

abbrev pub all_apart : List Known → Bool
all_apart [] = true
all_apart (k ∷ ks) = k.apart && all_apart ks

abbrev pub kinds : List Known → List (Option units.Unit)
kinds [] = []
kinds (k ∷ ks) = k.kind ∷ kinds ks

abbrev pub known_step : Calc-F Known → Known
known_step (Num v u) = record { kind = Some u; apart = true }
known_step (Sum ks) = record { kind = None; apart = differ (kinds ks) && all_apart ks }
known_step (Product ks) = record { kind = None; apart = all_apart ks }
known_step (Negate k) = record { kind = None; apart = k.apart }
known_step (Invert k) = record { kind = None; apart = k.apart }
known_step (Min ks) = record { kind = None; apart = all_apart ks }
known_step (Max ks) = record { kind = None; apart = all_apart ks }
known_step (Clamp a b c) = record { kind = None; apart = a.apart && b.apart && c.apart }

unfoldable pub known : Calc → Known
known = fold-Calc Known known_step

pub known-roll : (l : Calc-F Calc) → known (roll-Calc l) ≡ known_step (map-Calc Calc Known known l)
unfolding known
known-roll l = fold-roll-Calc Known known_step l

pub known-Num : (v : Ratio) (u : units.Unit) → known (tree.Num v u) ≡ record { kind = Some u; apart = true }
unfolding known
known-Num v u = fold-Num known_step v u

known-Sum : (cs : List Calc) → known (tree.Sum cs) ≡ record { kind = None; apart = differ (kinds (map known cs)) && all_apart (map known cs) }
unfolding known
known-Sum cs = fold-Sum known_step cs

known-Product : (cs : List Calc) → known (tree.Product cs) ≡ record { kind = None; apart = all_apart (map known cs) }
unfolding known
known-Product cs = fold-Product known_step cs

known-Negate : (c : Calc) → known (tree.Negate c) ≡ record { kind = None; apart = (known c).apart }
unfolding known
known-Negate c = fold-Negate known_step c

known-Invert : (c : Calc) → known (tree.Invert c) ≡ record { kind = None; apart = (known c).apart }
unfolding known
known-Invert c = fold-Invert known_step c

known-Min : (cs : List Calc) → known (tree.Min cs) ≡ record { kind = None; apart = all_apart (map known cs) }
unfolding known
known-Min cs = fold-Min known_step cs

known-Max : (cs : List Calc) → known (tree.Max cs) ≡ record { kind = None; apart = all_apart (map known cs) }
unfolding known
known-Max cs = fold-Max known_step cs

known-Clamp : (a b c : Calc) → known (tree.Clamp a b c) ≡ record { kind = None; apart = (known a).apart && (known b).apart && (known c).apart }
unfolding known
known-Clamp a b c = fold-Clamp known_step a b c

abbrev pub kind : Calc → Option units.Unit
kind c = (known c).kind

abbrev pub kinds_of : List Calc → List (Option units.Unit)
kinds_of cs = map kind cs

abbrev pub settled : Calc → Bool
settled c = (known c).apart

abbrev pub all_settled : List Calc → Bool
all_settled [] = true
all_settled (c ∷ cs) = settled c && all_settled cs

pub kinds-map : (cs : List Calc) → kinds (map known cs) ≡ kinds_of cs
kinds-map [] = refl
kinds-map (c ∷ cs) = ap (λ ks. kind c ∷ ks) (kinds-map cs)

pub all-map : (cs : List Calc) → all_apart (map known cs) ≡ all_settled cs
all-map [] = refl
all-map (c ∷ cs) = ap (λ b. settled c && b) (all-map cs)

pub settled-Num : (v : Ratio) (u : units.Unit) → settled (tree.Num v u) ≡ true
settled-Num v u = ap (λ (k : Known). k.apart) (known-Num v u)

pub settled-Sum : (cs : List Calc) → settled (tree.Sum cs) ≡ (differ (kinds_of cs) && all_settled cs)
settled-Sum cs = ap (λ (k : Known). k.apart) (known-Sum cs) ∙ ap₂ (λ ks b. differ ks && b) (kinds-map cs) (all-map cs)

pub settled-Product : (cs : List Calc) → settled (tree.Product cs) ≡ all_settled cs
settled-Product cs = ap (λ (k : Known). k.apart) (known-Product cs) ∙ all-map cs

pub settled-Negate : (c : Calc) → settled (tree.Negate c) ≡ settled c
settled-Negate c = ap (λ (k : Known). k.apart) (known-Negate c)

pub settled-Invert : (c : Calc) → settled (tree.Invert c) ≡ settled c
settled-Invert c = ap (λ (k : Known). k.apart) (known-Invert c)

pub settled-Min : (cs : List Calc) → settled (tree.Min cs) ≡ all_settled cs
settled-Min cs = ap (λ (k : Known). k.apart) (known-Min cs) ∙ all-map cs

pub settled-Max : (cs : List Calc) → settled (tree.Max cs) ≡ all_settled cs
settled-Max cs = ap (λ (k : Known). k.apart) (known-Max cs) ∙ all-map cs

pub settled-Clamp : (a b c : Calc) → settled (tree.Clamp a b c) ≡ (settled a && settled b && settled c)
settled-Clamp a b c = ap (λ (k : Known). k.apart) (known-Clamp a b c)

-- ---- tests

pub and_true : (b d : Bool) → (b && d) ≡ true → (b ≡ true) × (d ≡ true)
and_true true d h = (refl, h)
and_true false d h = cc

pub both_true : (b d : Bool) → b ≡ true → d ≡ true → (b && d) ≡ true
both_true true d h k = k
both_true false d h k = cc

-- ---- rows

-- a joined number is settled, and has the unit of the first
joined_known : (may : units.Unit → Bool) (f : Ratio → Ratio → Ratio) (c d e : Calc) (k l : Calc-F Calc) → roll-Calc k ≡ c → roll-Calc l ≡ d → joined_as may f k l ≡ Some e → known e ≡ known c
joined_known may f c d e (Num v u) (Num w t) p q h = go (same_unit u t && may u) h
  where
    go : (b : Bool) → (if b then Some (tree.Num (f v w) u) else None) ≡ Some e → known e ≡ known c
    go true h =
        let made : tree.Num (f v w) u ≡ e = cc in
        ap known (sym made) ∙ known-Num (f v w) u ∙ sym (known-roll (Num v u)) ∙ ap known p
    go false h = cc
joined_known may f c d e (Num v u) _ p q h = cc
joined_known may f c d e _ _ p q h = cc

pub joined_is : (may : units.Unit → Bool) (f : Ratio → Ratio → Ratio) (c d e : Calc) → joined_by may f c d ≡ Some e → known e ≡ known c
joined_is may f c d e h = joined_known may f c d e (out-Calc c) (out-Calc d) (roll-out-Calc c) (roll-out-Calc d) h

-- numbers that aren't joined in a sum have different units
apart_known : (f : Ratio → Ratio → Ratio) (c d : Calc) (k l : Calc-F Calc) → roll-Calc k ≡ c → roll-Calc l ≡ d → joined_as any_unit f k l ≡ None → same_kind (kind c) (kind d) ≡ false
apart_known f c d k l p q h =
    ap₂ (λ (x y : Known). same_kind x.kind y.kind) (ap known (sym p) ∙ known-roll k) (ap known (sym q) ∙ known-roll l) ∙ go k l h
  where
    by : (b : Bool) (e : Calc) → (if b && true then Some e else None) ≡ None → b ≡ false
    by true e h = cc
    by false e h = refl

    go : (k l : Calc-F Calc) → joined_as any_unit f k l ≡ None → same_kind (known_step (map-Calc Calc Known known k)).kind (known_step (map-Calc Calc Known known l)).kind ≡ false
    go (Num v u) (Num w t) h = by (same_unit u t) (tree.Num (f v w) u) h
    go (Num v u) (Sum cs) h = refl
    go (Num v u) (Product cs) h = refl
    go (Num v u) (Negate c) h = refl
    go (Num v u) (Invert c) h = refl
    go (Num v u) (Min cs) h = refl
    go (Num v u) (Max cs) h = refl
    go (Num v u) (Clamp a b c) h = refl
    go (Sum cs) l h = refl
    go (Product cs) l h = refl
    go (Negate c) l h = refl
    go (Invert c) l h = refl
    go (Min cs) l h = refl
    go (Max cs) l h = refl
    go (Clamp a b c) l h = refl

module _ (may : units.Unit → Bool) (f : Ratio → Ratio → Ratio) where
  settled_row : (row : List Calc) (d : Calc) → all_settled row ≡ true → settled d ≡ true → all_settled (with_child (joined_by may f) row d) ≡ true
  settled_row [] d h k = both_true (settled d) true k refl
  settled_row (c ∷ cs) d h k = go (joined_by may f c d) refl (and_true (settled c) (all_settled cs) h).0 (and_true (settled c) (all_settled cs) h).1 (settled_row cs d (and_true (settled c) (all_settled cs) h).1 k)
    where
      go : (o : Option Calc) → joined_by may f c d ≡ o → settled c ≡ true → all_settled cs ≡ true → all_settled (with_child (joined_by may f) cs d) ≡ true → all_settled (join_first o c cs (with_child (joined_by may f) cs d)) ≡ true
      go (Some e) is first rest more = both_true (settled e) (all_settled cs) (ap (λ (x : Known). x.apart) (joined_is may f c d e is) ∙ first) rest
      go None is first rest more = both_true (settled c) _ first more

  pub settled_rows : (row ts : List Calc) → all_settled row ≡ true → all_settled ts ≡ true → all_settled (fold (with_child (joined_by may f)) row ts) ≡ true
  settled_rows row [] h k = h
  settled_rows row (t ∷ ts) h k =
      let parts = and_true (settled t) (all_settled ts) k in
      settled_rows (with_child (joined_by may f) row t) ts (settled_row row t h parts.0) parts.1

abbrev pub joins : Calc → Calc → Option Calc
joins = joined_by any_unit add

none_with : (k : Option units.Unit) (row : List Calc) (d : Calc) → none_of k (kinds_of row) ≡ true → same_kind k (kind d) ≡ false → none_of k (kinds_of (with_child joins row d)) ≡ true
none_with k [] d h e = ap (λ b. if b then false else true) e
none_with k (c ∷ cs) d h e = go (same_kind k (kind c)) refl h (joins c d) refl (none_with k cs d)
  where
    go : (b : Bool) → same_kind k (kind c) ≡ b → (if b then false else none_of k (kinds_of cs)) ≡ true → (o : Option Calc) → joins c d ≡ o →
        (none_of k (kinds_of cs) ≡ true → same_kind k (kind d) ≡ false → none_of k (kinds_of (with_child joins cs d)) ≡ true) →
        none_of k (kinds_of (join_first o c cs (with_child joins cs d))) ≡ true
    go true is h o j ih = cc
    go false is h (Some g) j ih = ap (λ b. if b then false else none_of k (kinds_of cs)) (ap (λ (x : Known). same_kind k x.kind) (joined_is any_unit add c d g j) ∙ is) ∙ h
    go false is h None j ih = ap (λ b. if b then false else none_of k (kinds_of (with_child joins cs d))) is ∙ ih h e

differ_row : (row : List Calc) (d : Calc) → differ (kinds_of row) ≡ true → differ (kinds_of (with_child joins row d)) ≡ true
differ_row [] d h = refl
differ_row (c ∷ cs) d h = go (joins c d) refl (and_true (none_of (kind c) (kinds_of cs)) _ h).0 (and_true (none_of (kind c) (kinds_of cs)) _ h).1 (differ_row cs d)
  where
    go : (o : Option Calc) → joins c d ≡ o → none_of (kind c) (kinds_of cs) ≡ true → differ (kinds_of cs) ≡ true → (differ (kinds_of cs) ≡ true → differ (kinds_of (with_child joins cs d)) ≡ true) →
        differ (kinds_of (join_first o c cs (with_child joins cs d))) ≡ true
    go (Some e) is first rest ih = both_true _ (differ (kinds_of cs)) (ap (λ (x : Known). none_of x.kind (kinds_of cs)) (joined_is any_unit add c d e is) ∙ first) rest
    go None is first rest ih =
        both_true (none_of (kind c) (kinds_of (with_child joins cs d))) _ (none_with (kind c) cs d first (apart_known add c d (out-Calc c) (out-Calc d) (roll-out-Calc c) (roll-out-Calc d) is)) (ih rest)

pub differ_rows : (row ts : List Calc) → differ (kinds_of row) ≡ true → differ (kinds_of (fold (with_child joins) row ts)) ≡ true
differ_rows row [] h = h
differ_rows row (t ∷ ts) h = differ_rows (with_child joins row t) ts (differ_row row t h)
