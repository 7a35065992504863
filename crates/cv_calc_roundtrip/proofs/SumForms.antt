-- A sum of simplified terms has the form of a sum, or is its one term.
use Rattle.std.specs.Prelude.{Bool, true, false, ◌&&◌, ◌||◌, not, List, [], ◌∷◌, map, fold, Option, Some, None}
use Rattle.std.proofs.Common.{◌≡◌, refl, sym, ◌∙◌, ap, subst, arith}
use Rattle.cv_spec_ratio.specs.Ratio.{add}
use Rattle.cv_calc.specs.declared.unit.Unit.TheVariants.{Number}
use Rattle.cv_calc.specs.declared.calc.Calc.{Calc}
use Rattle.cv_calc.specs.declared.calc.Calc.TheVariants as tree
use Rattle.cv_calc.specs.Tree.{out-Sum}
use Rattle.cv_simplify.specs.Simplified.{any_unit, joined_by, join_first, with_child, one_or, terms_as, terms_of, with_terms_of, sum_row, summed}
use Rattle.cv_calc_roundtrip.proofs.Digits.{and_true}
use Rattle.cv_calc_roundtrip.proofs.FormRows.{Joins, joins, row_pairs, terms_row, flat_row, numbers_row, either_true}
use Rattle.cv_calc_roundtrip.proofs.Forms.{IsForm, measure, sum, product, turned, least, greatest, limited, IsTerm, plus, minus, AreTerms, no_terms, terms}
use Rattle.cv_calc_roundtrip.proofs.Heads.{Head, head, head-Num, head-Product, head-Negate, head-Min, head-Max, head-Clamp, is_negate, is_sum, row_apart, terms_alone, not_true}
use Rattle.cv_calc_roundtrip.proofs.Orders.{pairs_apart, apart_pairs}
use Rattle.cv_calc_roundtrip.proofs.RowOrders.{IsRow, starts, has_number}
use Rattle.cv_calc_roundtrip.proofs.Sums.{no_sums}

-- terms, of which none is a sum
record Flat (ts : List Calc) : Type 0 where
  are : AreTerms ts
  flat : no_sums (map head ts) ≡ true

-- a row of terms that isn't empty, as the terms of a sum are
record Row (row : List Calc) : Type 0 where
  first : Calc
  rest : List Calc
  same : row ≡ first ∷ rest
  are : AreTerms row
  differ : pairs_apart any_unit (map head row) ≡ true
  flat : no_sums (map head row) ≡ true
  begins : starts (map head row) ≡ true

abbrev joined_row : List Calc → Calc → List Calc
joined_row row d = with_child (joined_by any_unit add) row d

-- ---- one term more

starts_row : (c : Calc) (cs : List Calc) (d : Calc) → starts (map head (c ∷ cs)) ≡ true → starts (map head (joined_row (c ∷ cs) d)) ≡ true
starts_row c cs d h = go (has_number (map head (c ∷ cs))) refl
  where
    first_kept : (o : Option Calc) → joined_by any_unit add c d ≡ o → not (is_negate (head c)) ≡ true → starts (map head (join_first o c cs (joined_row cs d))) ≡ true
    first_kept (Some e) is k =
        let j : Joins any_unit add c d e = joins any_unit add c d e is in
        ap (λ h. starts (h ∷ map head cs)) (ap head j.made ∙ head-Num (add j.left j.right) j.common)
    first_kept None is k = either_true (has_number (map head (c ∷ joined_row cs d))) (not (is_negate (head c))) k

    some_starts : (hs : List Head) → has_number hs ≡ true → starts hs ≡ true
    some_starts [] h = cc
    some_starts (k ∷ ks) h = ap (λ b. b || not (is_negate k)) h

    go : (b : Bool) → has_number (map head (c ∷ cs)) ≡ b → starts (map head (joined_row (c ∷ cs) d)) ≡ true
    go true e = some_starts (map head (joined_row (c ∷ cs) d)) (numbers_row (c ∷ cs) d e)
    go false e = first_kept (joined_by any_unit add c d) refl (sym (ap (λ b. b || not (is_negate (head c))) e) ∙ h)

-- a row that isn't empty
record Filled (row : List Calc) : Type 0 where
  first : Calc
  rest : List Calc
  same : row ≡ first ∷ rest

row_some : (c : Calc) (cs : List Calc) (d : Calc) → Filled (joined_row (c ∷ cs) d)
row_some c cs d = go (joined_by any_unit add c d)
  where
    go : (o : Option Calc) → Filled (join_first o c cs (joined_row cs d))
    go (Some e) = record { first = e; rest = cs; same = refl }
    go None = record { first = c; rest = joined_row cs d; same = refl }

row_more : (row : List Calc) (d : Calc) → Row row → IsTerm d → is_sum (head d) ≡ false → Row (joined_row row d)
row_more row d r t s =
    let n : Filled (joined_row (r.first ∷ r.rest) d) = row_some r.first r.rest d in
    record {
      first = n.first;
      rest = n.rest;
      same = ap (λ cs. joined_row cs d) r.same ∙ n.same;
      are = terms_row row d r.are t;
      differ = row_pairs any_unit add row d r.differ;
      flat = flat_row row d r.flat s;
      begins = ap (λ cs. starts (map head (joined_row cs d))) r.same ∙ starts_row r.first r.rest d (ap (λ (cs : List Calc). starts (map head cs)) (sym r.same) ∙ r.begins);
    }

rows_more : (row ts : List Calc) → Row row → AreTerms ts → no_sums (map head ts) ≡ true → Row (fold joined_row row ts)
rows_more row [] r no_terms f = r
rows_more row (t ∷ ts) r (terms g gs) f =
    let p = and_true (not (is_sum (head t))) (no_sums (map head ts)) f in
    rows_more (joined_row row t) ts (row_more row t r g (not_true (is_sum (head t)) p.0)) gs p.1

-- ---- the terms of a child

alone : (c : Calc) → IsTerm c → is_sum (head c) ≡ false → Flat (terms_of c)
alone c t s = subst Flat (sym (terms_alone c s)) (record { are = terms t no_terms; flat = ap (λ b. not b && true) s })

form_terms : {c : Calc} → IsForm c → Flat (terms_of c)
form_terms (measure {u} v m) = alone (tree.Num v u) (plus (measure v m)) (ap is_sum (head-Num v u))
form_terms (sum {cs} t r) = subst Flat (sym (ap (terms_as (tree.Sum cs)) (out-Sum cs))) (record { are = t; flat = r.flat })
form_terms (product n {x} t f) = alone (tree.Product (tree.Num n Number ∷ x ∷ [])) (plus (product n t f)) (ap is_sum (head-Product (tree.Num n Number ∷ x ∷ [])))
form_terms (turned n {x} t f) = alone (tree.Product (x ∷ tree.Num n Number ∷ [])) (plus (turned n t f)) (ap is_sum (head-Product (x ∷ tree.Num n Number ∷ [])))
form_terms (least {c} {d} {cs} f a) = alone (tree.Min (c ∷ d ∷ cs)) (plus (least f a)) (ap is_sum (head-Min (c ∷ d ∷ cs)))
form_terms (greatest {c} {d} {cs} f a) = alone (tree.Max (c ∷ d ∷ cs)) (plus (greatest f a)) (ap is_sum (head-Max (c ∷ d ∷ cs)))
form_terms (limited {a} {b} {c} f g i j) = alone (tree.Clamp a b c) (plus (limited f g i j)) (ap is_sum (head-Clamp a b c))

term_terms : {c : Calc} → IsTerm c → Flat (terms_of c)
term_terms (plus f) = form_terms f
term_terms (minus {c} f h) = alone (tree.Negate c) (minus f h) (ap is_sum (head-Negate c))

-- the first child's are a row
one_row : (c : Calc) → IsForm c → is_sum (head c) ≡ false → is_negate (head c) ≡ false → Row (with_terms_of [] c)
one_row c f s n =
    subst Row (sym (ap (fold joined_row []) (terms_alone c s))) (record {
      first = c;
      rest = [];
      same = refl;
      are = terms (plus f) no_terms;
      differ = refl;
      flat = ap (λ b. not b && true) s;
      begins = either_true (has_number (head c ∷ [])) (not (is_negate (head c))) (ap not n);
    })

sum_first : (cs : List Calc) → AreTerms cs → IsRow (map head cs) → Row (with_terms_of [] (tree.Sum cs))
sum_first [] t r = absurd (omega (arith, r.two))
sum_first (c ∷ cs) t r =
    subst Row (sym (ap (fold joined_row []) (ap (terms_as (tree.Sum (c ∷ cs))) (out-Sum (c ∷ cs))) ∙ row_apart any_unit add [] (c ∷ cs) (apart_pairs any_unit (map head (c ∷ cs)) r.differ))) (record {
      first = c;
      rest = cs;
      same = refl;
      are = t;
      differ = r.differ;
      flat = r.flat;
      begins = r.begins;
    })

first_row : {c : Calc} → IsForm c → Row (with_terms_of [] c)
first_row (measure {u} v m) = one_row (tree.Num v u) (measure v m) (ap is_sum (head-Num v u)) (ap is_negate (head-Num v u))
first_row (sum {cs} t r) = sum_first cs t r
first_row (product n {x} t f) = one_row (tree.Product (tree.Num n Number ∷ x ∷ [])) (product n t f) (ap is_sum (head-Product (tree.Num n Number ∷ x ∷ []))) (ap is_negate (head-Product (tree.Num n Number ∷ x ∷ [])))
first_row (turned n {x} t f) = one_row (tree.Product (x ∷ tree.Num n Number ∷ [])) (turned n t f) (ap is_sum (head-Product (x ∷ tree.Num n Number ∷ []))) (ap is_negate (head-Product (x ∷ tree.Num n Number ∷ [])))
first_row (least {c} {d} {cs} f a) = one_row (tree.Min (c ∷ d ∷ cs)) (least f a) (ap is_sum (head-Min (c ∷ d ∷ cs))) (ap is_negate (head-Min (c ∷ d ∷ cs)))
first_row (greatest {c} {d} {cs} f a) = one_row (tree.Max (c ∷ d ∷ cs)) (greatest f a) (ap is_sum (head-Max (c ∷ d ∷ cs))) (ap is_negate (head-Max (c ∷ d ∷ cs)))
first_row (limited {a} {b} {c} f g i j) = one_row (tree.Clamp a b c) (limited f g i j) (ap is_sum (head-Clamp a b c)) (ap is_negate (head-Clamp a b c))

-- ---- the sum

children_row : (row cs : List Calc) → Row row → AreTerms cs → Row (fold with_terms_of row cs)
children_row row [] r no_terms = r
children_row row (c ∷ cs) r (terms t ts) = children_row (with_terms_of row c) cs (rows_more row (terms_of c) r (term_terms t).are (term_terms t).flat) ts

-- a term that may stand alone is a form
only_form : {c : Calc} → IsTerm c → starts (head c ∷ []) ≡ true → IsForm c
only_form (plus f) h = f
only_form (minus {c} f k) h = absurd (apart (sym (ap (λ g. starts (g ∷ [])) (head-Negate c)) ∙ h))
  where
    apart : ◌≡◌ {A = Bool} false true → ⊥
    apart e = cc

row_form : (row : List Calc) → Row row → IsForm (one_or tree.Sum row)
row_form row r = subst (λ (cs : List Calc). IsForm (one_or tree.Sum cs)) (sym r.same)
    (go r.rest (subst AreTerms r.same r.are) (ap (λ (cs : List Calc). pairs_apart any_unit (map head cs)) (sym r.same) ∙ r.differ) (ap (λ (cs : List Calc). no_sums (map head cs)) (sym r.same) ∙ r.flat) (ap (λ (cs : List Calc). starts (map head cs)) (sym r.same) ∙ r.begins))
  where
    go : (cs : List Calc) → AreTerms (r.first ∷ cs) → pairs_apart any_unit (map head (r.first ∷ cs)) ≡ true → no_sums (map head (r.first ∷ cs)) ≡ true → starts (map head (r.first ∷ cs)) ≡ true → IsForm (one_or tree.Sum (r.first ∷ cs))
    go [] (terms t ts) p f b = only_form t b
    go (d ∷ cs) ts p f b = sum ts (record { two = omega arith; differ = p; flat = f; begins = b })

pub summed_form : (c : Calc) (cs : List Calc) → IsForm c → AreTerms cs → IsForm (summed (c ∷ cs))
summed_form c cs f ts = row_form (sum_row (c ∷ cs)) (children_row (with_terms_of [] c) cs (first_row f) ts)
