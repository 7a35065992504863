-- The form of a simplified calculation of lengths and percentages, where a percentage is a part of a length that isn't known.
use Rattle.std.specs.Prelude.{Bool, true, false, ◌&&◌, List, [], ◌∷◌, map}
use Rattle.std.proofs.Common.{◌≡◌, refl, sym, ◌∙◌, ap, subst}
use Rattle.cv_spec_ratio.specs.Ratio.{Ratio}
use Rattle.cv_calc.specs.declared.unit.Unit as units
use Rattle.cv_calc.specs.declared.unit.Unit.TheVariants.{Number}
use Rattle.cv_calc.specs.declared.calc.Calc.{Calc}
use Rattle.cv_calc.specs.declared.calc.Calc.TheVariants.{Num, Sum, Product, Negate, Min, Max, Clamp}
use Rattle.cv_simplify.specs.Simplified.{any_unit}
use Rattle.cv_simplify.specs.Counted.{inside, all_inside}
use Rattle.cv_simplify.specs.Text.{written, ranks}
use Rattle.cv_calc_roundtrip.proofs.Digits.{and_true}
use Rattle.cv_calc_roundtrip.proofs.Equations.{inside-Num, inside-Sum, inside-Product, inside-Negate, inside-Min, inside-Max, inside-Clamp}
use Rattle.cv_calc_roundtrip.proofs.Orders.{pairs_apart, apart_pairs, text_rank, in_text_order}
use Rattle.cv_calc_roundtrip.proofs.RowOrders.{IsRow, Ordered, row_ordered}
use Rattle.cv_calc_roundtrip.proofs.Heads.{head, head-Num, is_negate, apart}
use Rattle.cv_calc_roundtrip.proofs.Choices.{Given}
use Rattle.cv_calc_roundtrip.proofs.Choices as choices
use Rattle.cv_calc_roundtrip.proofs.Composites.{Composite, composite-Sum, composite-Product, composite-Min, composite-Max, composite-Clamp, composite_term}
use Rattle.cv_calc_roundtrip.proofs.Limits.{compared, clampable, min_known, max_known, clamp_known}
use Rattle.cv_calc_roundtrip.proofs.Negatives.{Measure, may_be_taken, measure_known, measure_term, negative_term}
use Rattle.cv_calc_roundtrip.proofs.Products.{times_head, product_known, turned_known}
use Rattle.cv_calc_roundtrip.proofs.Ranks.{in_ranks_map}
use Rattle.cv_calc_roundtrip.proofs.Sums.{no_sums, rank, sorted, heads, sum_known}
use Rattle.cv_calc_roundtrip.proofs.Terms.{Known, Term, Entry, calcs}

mutual
  pub data IsForm : Calc → Type 0 where
    measure : {u : units.Unit} (v : Ratio) → Measure u → IsForm (Num v u)
    sum : {cs : List Calc} → AreTerms cs → IsRow (map head cs) → IsForm (Sum cs)
    product : (n : Ratio) {x : Calc} → times_head (head x) ≡ true → IsForm x → IsForm (Product (Num n Number ∷ x ∷ []))
    turned : (n : Ratio) {x : Calc} → times_head (head x) ≡ true → IsForm x → IsForm (Product (x ∷ Num n Number ∷ []))
    least : {c d : Calc} {cs : List Calc} → AreForms (c ∷ d ∷ cs) → pairs_apart compared (map head (c ∷ d ∷ cs)) ≡ true → IsForm (Min (c ∷ d ∷ cs))
    greatest : {c d : Calc} {cs : List Calc} → AreForms (c ∷ d ∷ cs) → pairs_apart compared (map head (c ∷ d ∷ cs)) ≡ true → IsForm (Max (c ∷ d ∷ cs))
    limited : {a b c : Calc} → IsForm a → IsForm b → IsForm c → clampable (head a) (head b) (head c) ≡ false → IsForm (Clamp a b c)

  pub data IsTerm : Calc → Type 0 where
    plus : {c : Calc} → IsForm c → IsTerm c
    minus : {c : Calc} → IsForm c → may_be_taken (head c) ≡ true → IsTerm (Negate c)

  pub data AreTerms : List Calc → Type 0 where
    no_terms : AreTerms []
    terms : {c : Calc} {cs : List Calc} → IsTerm c → AreTerms cs → AreTerms (c ∷ cs)

  pub data AreForms : List Calc → Type 0 where
    no_forms : AreForms []
    forms : {c : Calc} {cs : List Calc} → IsForm c → AreForms cs → AreForms (c ∷ cs)

-- ---- what is known of each

record Entries (cs : List Calc) : Type 0 where
  entries : List Entry
  same : calcs entries ≡ cs

-- two entries or more
record Split (es : List Entry) : Type 0 where
  first : Entry
  second : Entry
  rest : List Entry
  order : es ≡ first ∷ second ∷ rest

split_entries : (es : List Entry) (c d : Calc) (cs : List Calc) → calcs es ≡ c ∷ d ∷ cs → Split es
split_entries [] c d cs h = absurd cc
split_entries (e ∷ []) c d cs h = absurd cc
split_entries (e ∷ f ∷ es) c d cs h = record { first = e; second = f; rest = es; order = refl }

heads_of : (es : List Entry) → heads es ≡ map head (calcs es)
heads_of [] = refl
heads_of (e ∷ es) = ap (λ hs. head e.calc ∷ hs) (heads_of es)

sum_of_row : (cs : List Calc) → Entries cs → Ordered cs → Known (Sum cs)
sum_of_row cs n r =
    let es = n.entries in
    let sorted_calcs : calcs (sorted es) ≡ r.first ∷ r.second ∷ r.rest = in_ranks_map rank text_rank (λ (e : Entry). e.calc) (λ e. refl) ranks es ∙ ap in_text_order n.same ∙ r.order in
    let s : Split (sorted es) = split_entries (sorted es) r.first r.second r.rest sorted_calcs in
    let same_calcs : calcs (s.first ∷ s.second ∷ s.rest) ≡ r.first ∷ r.second ∷ r.rest = ap calcs (sym s.order) ∙ sorted_calcs in
    let same_heads : heads (s.first ∷ s.second ∷ s.rest) ≡ map head (r.first ∷ r.second ∷ r.rest) = heads_of (s.first ∷ s.second ∷ s.rest) ∙ ap (map head) same_calcs in
    let first_is : s.first.calc ≡ r.first = cc in
    subst (λ (ds : List Calc). Known (Sum ds)) n.same
    (sum_known es s.first s.second s.rest s.order (ap (λ c. is_negate (head c)) first_is ∙ r.begins) (ap (apart any_unit []) same_heads ∙ r.differ) (ap no_sums same_heads ∙ r.flat))

times_composite : {x : Calc} → IsForm x → times_head (head x) ≡ true → Composite (written x)
times_composite (measure {u} v m) h = absurd (apart (sym (ap times_head (head-Num v u)) ∙ h))
  where
    apart : ◌≡◌ {A = Bool} false true → ⊥
    apart e = cc
times_composite (sum {cs} t r) h = composite-Sum cs
times_composite (product n {x} t f) h = composite-Product (Num n Number ∷ x ∷ [])
times_composite (turned n {x} t f) h = composite-Product (x ∷ Num n Number ∷ [])
times_composite (least {c} {d} {cs} f a) h = composite-Min (c ∷ d ∷ cs)
times_composite (greatest {c} {d} {cs} f a) h = composite-Max (c ∷ d ∷ cs)
times_composite (limited {a} {b} {c} f g i j) h = composite-Clamp a b c

-- a form among terms
form_term : {s : Calc} → IsForm s → inside s ≡ true → Known s → Term s
form_term (measure {u} v m) b k = measure_term m v (sym (inside-Num v u) ∙ b)
form_term (sum {cs} t r) b k = composite_term _ (composite-Sum cs) k
form_term (product n {x} t f) w k = composite_term _ (composite-Product (Num n Number ∷ x ∷ [])) k
form_term (turned n {x} t f) w k = composite_term _ (composite-Product (x ∷ Num n Number ∷ [])) k
form_term (least {c} {d} {cs} f a) w k = composite_term _ (composite-Min (c ∷ d ∷ cs)) k
form_term (greatest {c} {d} {cs} f a) w k = composite_term _ (composite-Max (c ∷ d ∷ cs)) k
form_term (limited {a} {b} {c} f g i j) w k = composite_term _ (composite-Clamp a b c) k

record Givens (cs : List Calc) : Type 0 where
  givens : List Given
  same : choices.calcs givens ≡ cs

given_heads : (gs : List Given) → choices.heads gs ≡ map head (choices.calcs gs)
given_heads [] = refl
given_heads (g ∷ gs) = ap (λ hs. head g.calc ∷ hs) (given_heads gs)

two_known : (node : List Calc → Calc) → ((g d : Given) (gs : List Given) → apart compared [] (choices.heads (g ∷ d ∷ gs)) ≡ true → Known (node (choices.calcs (g ∷ d ∷ gs)))) →
    (cs : List Calc) → Givens cs → (c d : Calc) (ds : List Calc) → cs ≡ c ∷ d ∷ ds → apart compared [] (map head cs) ≡ true → Known (node cs)
two_known node known cs g c d ds two h = go g.givens g.same
  where
    go : (gs : List Given) → choices.calcs gs ≡ cs → Known (node cs)
    go [] e = absurd cc
    go (g ∷ []) e = absurd cc
    go (g ∷ f ∷ gs) e = subst (λ (xs : List Calc). Known (node xs)) e (known g f gs (ap (apart compared []) (given_heads (g ∷ f ∷ gs) ∙ ap (map head) e) ∙ h))

pair_inside : (c d : Calc) → inside (Product (c ∷ d ∷ [])) ≡ true → (inside c ≡ true) × (inside d ≡ true)
pair_inside c d h =
    let p = and_true (inside c) (inside d && true) (sym (inside-Product (c ∷ d ∷ [])) ∙ h) in
    (p.0, (and_true (inside d) true p.1).0)

three_inside : (a b c : Calc) → inside (Clamp a b c) ≡ true → (inside a ≡ true) × (inside b ≡ true) × (inside c ≡ true)
three_inside a b c h = go (inside a) (inside b) (inside c) (sym (inside-Clamp a b c) ∙ h)
  where
    go : (p q r : Bool) → (p && q && r) ≡ true → (p ≡ true) × (q ≡ true) × (r ≡ true)
    go true true true h = (refl, refl, refl)
    go true true false h = cc
    go true false r h = cc
    go false q r h = cc

mutual
  pub form_known : {s : Calc} → IsForm s → inside s ≡ true → Known s
  form_known (measure {u} v m) w = measure_known m v (sym (inside-Num v u) ∙ w)
  form_known (sum {cs} t r) w = sum_of_row cs (terms_known t (sym (inside-Sum cs) ∙ w)) (row_ordered cs r)
  form_known (product n {x} t f) w =
      let p = pair_inside (Num n Number) x w in
      product_known n x (sym (inside-Num n Number) ∙ p.0) t (times_composite f t) (form_known f p.1)
  form_known (turned n {x} t f) w =
      let p = pair_inside x (Num n Number) w in
      turned_known n x (sym (inside-Num n Number) ∙ p.1) t (times_composite f t) (form_known f p.0)
  form_known (least {c} {d} {cs} f a) w = two_known Min min_known (c ∷ d ∷ cs) (forms_known f (sym (inside-Min (c ∷ d ∷ cs)) ∙ w)) c d cs refl (apart_pairs compared (map head (c ∷ d ∷ cs)) a)
  form_known (greatest {c} {d} {cs} f a) w = two_known Max max_known (c ∷ d ∷ cs) (forms_known f (sym (inside-Max (c ∷ d ∷ cs)) ∙ w)) c d cs refl (apart_pairs compared (map head (c ∷ d ∷ cs)) a)
  form_known (limited {a} {b} {c} f g i j) w =
      let p = three_inside a b c w in
      clamp_known (record { calc = a; known = form_known f p.0 }) (record { calc = b; known = form_known g p.1 }) (record { calc = c; known = form_known i p.2 }) j

  term_known : {s : Calc} → IsTerm s → inside s ≡ true → Term s
  term_known (plus f) w = form_term f w (form_known f w)
  term_known (minus {c} f h) w = negative_term c h (form_known f (sym (inside-Negate c) ∙ w))

  terms_known : {cs : List Calc} → AreTerms cs → all_inside cs ≡ true → Entries cs
  terms_known no_terms w = record { entries = []; same = refl }
  terms_known (terms {c} {cs} t ts) w =
      let p = and_true (inside c) (all_inside cs) w in
      let n : Entries cs = terms_known ts p.1 in
      record { entries = record { calc = c; term = term_known t p.0 } ∷ n.entries; same = ap (λ ds. c ∷ ds) n.same }

  forms_known : {cs : List Calc} → AreForms cs → all_inside cs ≡ true → Givens cs
  forms_known no_forms w = record { givens = []; same = refl }
  forms_known (forms {c} {cs} f fs) w =
      let p = and_true (inside c) (all_inside cs) w in
      let n : Givens cs = forms_known fs p.1 in
      record { givens = record { calc = c; known = form_known f p.0 } ∷ n.givens; same = ap (λ ds. c ∷ ds) n.same }
