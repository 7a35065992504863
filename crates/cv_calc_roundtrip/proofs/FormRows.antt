-- Rows of simplified children: what is joined in them, and that they keep the form of terms and arguments.
use Rattle.std.specs.Prelude.{Bool, true, false, ◌&&◌, ◌||◌, not, List, [], ◌∷◌, map, fold, Option, Some, None, if◌then◌else◌}
use Rattle.std.proofs.Common.{◌≡◌, refl, sym, ◌∙◌, ap, ap₂, subst}
use Rattle.cv_spec_ratio.specs.Ratio.{Ratio, add}
use Rattle.cv_calc.specs.declared.unit.Unit as units
use Rattle.cv_calc.specs.declared.calc.Calc.{Calc}
use Rattle.cv_calc.specs.declared.calc.Calc.TheVariants as tree
use Rattle.cv_calc.specs.declared.calc.Calc.TheOpen.{Calc-F, Num, Sum, Product, Negate, Invert, Min, Max, Clamp}
use Rattle.cv_calc.specs.declared.calc.Calc.TheViews.{out-Calc}
use Rattle.cv_calc.specs.Unit.{same_unit}
use Rattle.cv_calc.specs.declared.unit.Unit.TheVariants.{Number}
use Rattle.cv_simplify.specs.Simplified.{any_unit, joined_as, joined_by, join_first, with_child, one_or, choice_row}
use Rattle.cv_calc_roundtrip.proofs.Digits.{and_true, both_true}
use Rattle.cv_calc_roundtrip.proofs.Forms.{IsForm, measure, sum, product, turned, least, greatest, limited, IsTerm, plus, minus, AreTerms, no_terms, terms, AreForms, no_forms, forms}
use Rattle.cv_calc_roundtrip.proofs.Heads.{Head, number, head, head_as, head-Num, head-Sum, head-Product, head-Negate, head-Min, head-Max, head-Clamp, is_negate, is_number, is_sum, joinable, row_apart, terms_alone, not_true}
use Rattle.cv_calc_roundtrip.proofs.Heads as heads
use Rattle.cv_calc_roundtrip.proofs.Limits.{compared}
use Rattle.cv_calc_roundtrip.proofs.Negatives.{Measure}
use Rattle.cv_calc_roundtrip.proofs.Orders.{none_after, pairs_apart}
use Rattle.cv_calc_roundtrip.proofs.RowOrders.{has_number}
use Rattle.cv_calc_roundtrip.proofs.Sums.{no_sums}

-- ---- what is joined

pub record Joins (may : units.Unit → Bool) (f : Ratio → Ratio → Ratio) (c d e : Calc) : Type 0 where
  pub left : Ratio
  pub right : Ratio
  pub common : units.Unit
  pub first : head c ≡ number left common
  pub made : e ≡ tree.Num (f left right) common

module _ (may : units.Unit → Bool) (f : Ratio → Ratio → Ratio) where
  joins_as : (c d e : Calc) (k l : Calc-F Calc) → head c ≡ head_as k → joined_as may f k l ≡ Some e → Joins may f c d e
  joins_as c d e (Num v u) (Num w t) h s = go (same_unit u t && may u) s
    where
      go : (b : Bool) → (if b then Some (tree.Num (f v w) u) else None) ≡ Some e → Joins may f c d e
      go true s = let same : tree.Num (f v w) u ≡ e = cc in record { left = v; right = w; common = u; first = h; made = sym same }
      go false s = absurd cc
  joins_as c d e (Num v u) _ h s = absurd cc
  joins_as c d e _ _ h s = absurd cc

  pub joins : (c d e : Calc) → joined_by may f c d ≡ Some e → Joins may f c d e
  joins c d e s = joins_as c d e (out-Calc c) (out-Calc d) refl s

  apart_as : (k l : Calc-F Calc) → joined_as may f k l ≡ None → joinable may (head_as k) (head_as l) ≡ false
  apart_as (Num v u) (Num w t) h = go (same_unit u t && may u) h
    where
      go : (b : Bool) → (if b then Some (tree.Num (f v w) u) else None) ≡ None → b ≡ false
      go true h = cc
      go false h = refl
  apart_as (Num v u) (Sum cs) h = refl
  apart_as (Num v u) (Product cs) h = refl
  apart_as (Num v u) (Negate c) h = refl
  apart_as (Num v u) (Invert c) h = refl
  apart_as (Num v u) (Min cs) h = refl
  apart_as (Num v u) (Max cs) h = refl
  apart_as (Num v u) (Clamp a b c) h = refl
  apart_as (Sum cs) l h = refl
  apart_as (Product cs) l h = refl
  apart_as (Negate c) l h = refl
  apart_as (Invert c) l h = refl
  apart_as (Min cs) l h = refl
  apart_as (Max cs) l h = refl
  apart_as (Clamp a b c) l h = refl

  pub not_joined : (c d : Calc) → joined_by may f c d ≡ None → joinable may (head c) (head d) ≡ false
  not_joined c d h = apart_as (out-Calc c) (out-Calc d) h

-- ---- only the units count

module _ (may : units.Unit → Bool) where
  same_left : (v w : Ratio) (u : units.Unit) (h : Head) → joinable may (number v u) h ≡ joinable may (number w u) h
  same_left v w u (number z t) = refl
  same_left v w u (heads.sum b) = refl
  same_left v w u heads.product = refl
  same_left v w u heads.negate = refl
  same_left v w u heads.invert = refl
  same_left v w u heads.least = refl
  same_left v w u heads.greatest = refl
  same_left v w u heads.clamp = refl

  same_right : (v w : Ratio) (u : units.Unit) (h : Head) → joinable may h (number v u) ≡ joinable may h (number w u)
  same_right v w u (number z t) = refl
  same_right v w u (heads.sum b) = refl
  same_right v w u heads.product = refl
  same_right v w u heads.negate = refl
  same_right v w u heads.invert = refl
  same_right v w u heads.least = refl
  same_right v w u heads.greatest = refl
  same_right v w u heads.clamp = refl

  same_after : (v w : Ratio) (u : units.Unit) (hs : List Head) → none_after may (number v u) hs ≡ none_after may (number w u) hs
  same_after v w u [] = refl
  same_after v w u (h ∷ hs) = ap₂ (λ a b. not a && b) (same_left v w u h) (same_after v w u hs)

  -- ---- rows

  module _ (f : Ratio → Ratio → Ratio) where
    made_head : (c d e : Calc) → Joins may f c d e → (v : Ratio) × (u : units.Unit) × (w : Ratio) × (head c ≡ number v u) × (head e ≡ number w u)
    made_head c d e j = (j.left, j.common, f j.left j.right, j.first, ap head j.made ∙ head-Num (f j.left j.right) j.common)

    none_with : (h : Head) (row : List Calc) (d : Calc) → none_after may h (map head row) ≡ true → joinable may h (head d) ≡ false → none_after may h (map head (with_child (joined_by may f) row d)) ≡ true
    none_with h [] d e n = ap (λ b. not b && true) n
    none_with h (c ∷ cs) d e n = let p = and_true (not (joinable may h (head c))) (none_after may h (map head cs)) e in go (joined_by may f c d) refl p.0 p.1 (none_with h cs d p.1 n)
      where
        go : (o : Option Calc) → joined_by may f c d ≡ o → not (joinable may h (head c)) ≡ true → none_after may h (map head cs) ≡ true → none_after may h (map head (with_child (joined_by may f) cs d)) ≡ true →
            none_after may h (map head (join_first o c cs (with_child (joined_by may f) cs d))) ≡ true
        go (Some e) is first rest more =
            let j : Joins may f c d e = joins may f c d e is in
            let same : joinable may h (head e) ≡ joinable may h (head c) =
            ap (joinable may h) (ap head j.made ∙ head-Num (f j.left j.right) j.common) ∙ same_right (f j.left j.right) j.left j.common h ∙ ap (joinable may h) (sym j.first) in
            both_true (not (joinable may h (head e))) (none_after may h (map head cs)) (ap not same ∙ first) rest
        go None is first rest more = both_true (not (joinable may h (head c))) (none_after may h (map head (with_child (joined_by may f) cs d))) first more

    pub row_pairs : (row : List Calc) (d : Calc) → pairs_apart may (map head row) ≡ true → pairs_apart may (map head (with_child (joined_by may f) row d)) ≡ true
    row_pairs [] d e = refl
    row_pairs (c ∷ cs) d e = let p = and_true (none_after may (head c) (map head cs)) (pairs_apart may (map head cs)) e in go (joined_by may f c d) refl p.0 p.1 (row_pairs cs d p.1)
      where
        go : (o : Option Calc) → joined_by may f c d ≡ o → none_after may (head c) (map head cs) ≡ true → pairs_apart may (map head cs) ≡ true → pairs_apart may (map head (with_child (joined_by may f) cs d)) ≡ true →
            pairs_apart may (map head (join_first o c cs (with_child (joined_by may f) cs d))) ≡ true
        go (Some e) is first rest more =
            let j : Joins may f c d e = joins may f c d e is in
            let same : none_after may (head e) (map head cs) ≡ none_after may (head c) (map head cs) =
            ap (λ h. none_after may h (map head cs)) (ap head j.made ∙ head-Num (f j.left j.right) j.common) ∙ same_after (f j.left j.right) j.left j.common (map head cs) ∙ ap (λ h. none_after may h (map head cs)) (sym j.first) in
            both_true (none_after may (head e) (map head cs)) (pairs_apart may (map head cs)) (same ∙ first) rest
        go None is first rest more =
            both_true (none_after may (head c) (map head (with_child (joined_by may f) cs d))) (pairs_apart may (map head (with_child (joined_by may f) cs d))) (none_with (head c) cs d first (not_joined may f c d is)) more

-- ---- the unit of a number among terms

pub same_measure : (v w : Ratio) (u t : units.Unit) → number v u ≡ number w t → Measure u → Measure t
same_measure v w u t e m = let same : u ≡ t = cc in subst Measure same m

pub form_measure : {c : Calc} → IsForm c → (v : Ratio) (u : units.Unit) → head c ≡ number v u → Measure u
form_measure (measure {u = t} w m) v u e = same_measure w v t u (sym (head-Num w t) ∙ e) m
form_measure (sum {cs} t r) v u e = let no : heads.sum (heads.nums_alone cs) ≡ number v u = sym (head-Sum cs) ∙ e in absurd cc
form_measure (product n {x} t f) v u e = let no : heads.product ≡ number v u = sym (head-Product (tree.Num n Number ∷ x ∷ [])) ∙ e in absurd cc
form_measure (turned n {x} t f) v u e = let no : heads.product ≡ number v u = sym (head-Product (x ∷ tree.Num n Number ∷ [])) ∙ e in absurd cc
form_measure (least {c} {d} {cs} f a) v u e = let no : heads.least ≡ number v u = sym (head-Min (c ∷ d ∷ cs)) ∙ e in absurd cc
form_measure (greatest {c} {d} {cs} f a) v u e = let no : heads.greatest ≡ number v u = sym (head-Max (c ∷ d ∷ cs)) ∙ e in absurd cc
form_measure (limited {a} {b} {c} f g i j) v u e = let no : heads.clamp ≡ number v u = sym (head-Clamp a b c) ∙ e in absurd cc

pub term_measure : {c : Calc} → IsTerm c → (v : Ratio) (u : units.Unit) → head c ≡ number v u → Measure u
term_measure (plus f) v u e = form_measure f v u e
term_measure (minus {c} f h) v u e = let no : heads.negate ≡ number v u = sym (head-Negate c) ∙ e in absurd cc

-- ---- rows of arguments

forms_row : (may : units.Unit → Bool) (f : Ratio → Ratio → Ratio) (row : List Calc) (d : Calc) → AreForms row → IsForm d → AreForms (with_child (joined_by may f) row d)
forms_row may f [] d fs g = forms g no_forms
forms_row may f (c ∷ cs) d (forms h hs) g = go (joined_by may f c d) refl (forms_row may f cs d hs g)
  where
    go : (o : Option Calc) → joined_by may f c d ≡ o → AreForms (with_child (joined_by may f) cs d) → AreForms (join_first o c cs (with_child (joined_by may f) cs d))
    go (Some e) is more =
        let j : Joins may f c d e = joins may f c d e is in
        forms (subst IsForm (sym j.made) (measure (f j.left j.right) (form_measure h j.left j.common j.first))) hs
    go None is more = forms h more

-- a row of arguments that isn't empty
pub record ChoiceRow (row : List Calc) : Type 0 where
  pub first : Calc
  pub rest : List Calc
  pub same : row ≡ first ∷ rest
  pub are : AreForms row
  pub differ : pairs_apart compared (map head row) ≡ true

pub with_some : (join : Calc → Calc → Option Calc) (c : Calc) (cs : List Calc) (d : Calc) → (e : Calc) × (es : List Calc) × (with_child join (c ∷ cs) d ≡ e ∷ es)
with_some join c cs d = go (join c d)
  where
    go : (o : Option Calc) → (e : Calc) × (es : List Calc) × (join_first o c cs (with_child join cs d) ≡ e ∷ es)
    go (Some e) = (e, cs, refl)
    go None = (c, with_child join cs d, refl)

choice_more : (f : Ratio → Ratio → Ratio) (row : List Calc) (d : Calc) → ChoiceRow row → IsForm d → ChoiceRow (with_child (joined_by compared f) row d)
choice_more f row d r g =
    let next = with_some (joined_by compared f) r.first r.rest d in
    record {
      first = next.0;
      rest = next.1;
      same = ap (λ cs. with_child (joined_by compared f) cs d) r.same ∙ next.2;
      are = forms_row compared f row d r.are g;
      differ = row_pairs compared f row d r.differ;
    }

choice_rest : (f : Ratio → Ratio → Ratio) (row ds : List Calc) → ChoiceRow row → AreForms ds → ChoiceRow (fold (with_child (joined_by compared f)) row ds)
choice_rest f row [] r no_forms = r
choice_rest f row (d ∷ ds) r (forms g gs) = choice_rest f (with_child (joined_by compared f) row d) ds (choice_more f row d r g) gs

pub choice_of : (f : Ratio → Ratio → Ratio) (d : Calc) (ds : List Calc) → AreForms (d ∷ ds) → ChoiceRow (choice_row false f (d ∷ ds))
choice_of f d ds (forms g gs) = choice_rest f (d ∷ []) ds (record { first = d; rest = []; same = refl; are = forms g no_forms; differ = refl }) gs

pub chosen_form : (node : List Calc → Calc) → ((c d : Calc) (cs : List Calc) → AreForms (c ∷ d ∷ cs) → pairs_apart compared (map head (c ∷ d ∷ cs)) ≡ true → IsForm (node (c ∷ d ∷ cs))) →
    (row : List Calc) → ChoiceRow row → IsForm (one_or node row)
chosen_form node made row r = subst (λ (cs : List Calc). IsForm (one_or node cs)) (sym r.same) (go r.rest (subst AreForms r.same r.are) (ap (λ (cs : List Calc). pairs_apart compared (map head cs)) (sym r.same) ∙ r.differ))
  where
    go : (cs : List Calc) → AreForms (r.first ∷ cs) → pairs_apart compared (map head (r.first ∷ cs)) ≡ true → IsForm (one_or node (r.first ∷ cs))
    go [] (forms f fs) h = f
    go (d ∷ cs) fs h = made r.first d cs fs h

-- ---- rows of terms

pub terms_row : (row : List Calc) (d : Calc) → AreTerms row → IsTerm d → AreTerms (with_child (joined_by any_unit add) row d)
terms_row [] d ts g = terms g no_terms
terms_row (c ∷ cs) d (terms h hs) g = go (joined_by any_unit add c d) refl (terms_row cs d hs g)
  where
    go : (o : Option Calc) → joined_by any_unit add c d ≡ o → AreTerms (with_child (joined_by any_unit add) cs d) → AreTerms (join_first o c cs (with_child (joined_by any_unit add) cs d))
    go (Some e) is more =
        let j : Joins any_unit add c d e = joins any_unit add c d e is in
        terms (subst IsTerm (sym j.made) (plus (measure (add j.left j.right) (term_measure h j.left j.common j.first)))) hs
    go None is more = terms h more

pub flat_row : (row : List Calc) (d : Calc) → no_sums (map head row) ≡ true → is_sum (head d) ≡ false → no_sums (map head (with_child (joined_by any_unit add) row d)) ≡ true
flat_row [] d h k = ap (λ b. not b && true) k
flat_row (c ∷ cs) d h k = let p = and_true (not (is_sum (head c))) (no_sums (map head cs)) h in go (joined_by any_unit add c d) refl p.0 p.1 (flat_row cs d p.1 k)
  where
    go : (o : Option Calc) → joined_by any_unit add c d ≡ o → not (is_sum (head c)) ≡ true → no_sums (map head cs) ≡ true → no_sums (map head (with_child (joined_by any_unit add) cs d)) ≡ true →
        no_sums (map head (join_first o c cs (with_child (joined_by any_unit add) cs d))) ≡ true
    go (Some e) is first rest more =
        let j : Joins any_unit add c d e = joins any_unit add c d e is in
        both_true (not (is_sum (head e))) (no_sums (map head cs)) (ap (λ h. not (is_sum h)) (ap head j.made ∙ head-Num (add j.left j.right) j.common)) rest
    go None is first rest more = both_true (not (is_sum (head c))) (no_sums (map head (with_child (joined_by any_unit add) cs d))) first more

pub either_true : (a b : Bool) → b ≡ true → (a || b) ≡ true
either_true true b h = refl
either_true false b h = h

pub numbers_row : (row : List Calc) (d : Calc) → has_number (map head row) ≡ true → has_number (map head (with_child (joined_by any_unit add) row d)) ≡ true
numbers_row [] d h = cc
numbers_row (c ∷ cs) d h = go (joined_by any_unit add c d) refl (is_number (head c)) refl h (λ k. numbers_row cs d k)
  where
    go : (o : Option Calc) → joined_by any_unit add c d ≡ o → (b : Bool) → is_number (head c) ≡ b → (is_number (head c) || has_number (map head cs)) ≡ true →
        (has_number (map head cs) ≡ true → has_number (map head (with_child (joined_by any_unit add) cs d)) ≡ true) →
        has_number (map head (join_first o c cs (with_child (joined_by any_unit add) cs d))) ≡ true
    go (Some e) is b n h more =
        let j : Joins any_unit add c d e = joins any_unit add c d e is in
        ap (λ k. is_number k || has_number (map head cs)) (ap head j.made ∙ head-Num (add j.left j.right) j.common)
    go None is true n h more = ap (λ b. b || has_number (map head (with_child (joined_by any_unit add) cs d))) n
    go None is false n h more = either_true (is_number (head c)) _ (more (sym (ap (λ b. b || has_number (map head cs)) n) ∙ h))
