-- A linear calculation has a kind, however percentages are read.
use Rattle.std.specs.Prelude.{Bool, true, false, ◌&&◌, not, List, [], ◌∷◌, fold, map, Option, Some, None, if◌then◌else◌}
use Rattle.std.specs.Option.{option_and_then}
use Rattle.std.proofs.Common.{◌≡◌, refl, sym, ◌∙◌, ap, subst}
use Rattle.cv_calc.specs.declared.unit.NumType.{NumType}
use Rattle.cv_calc.specs.declared.unit.Base.{Base}
use Rattle.cv_calc.specs.declared.unit.Unit as units
use Rattle.cv_calc.specs.declared.calc.Calc.{Calc}
use Rattle.cv_calc.specs.declared.calc.Calc.TheVariants as tree
use Rattle.cv_calc.specs.declared.context.Basis.{Basis}
use Rattle.cv_calc.specs.Tree.{Each, by_cases, fold-Num, fold-Sum, fold-Product, fold-Negate, fold-Invert, fold-Min, fold-Max, fold-Clamp}
use Rattle.cv_calc.specs.Types.{unit_type, type_of, type_step, sum_type, product_type, product_under, shared_hint, added_next, shared_next, negated}
use Rattle.cv_calc.specs.Linear.{is_plain, added_shape, sum_shape, product_shape, inverted_shape, all_fit, none_measured, one_measured, kinds, shape, has_type, is_linear}
use Rattle.cv_calc.proofs.Shapes.{shape-Sum, shape-Product, shape-Negate, shape-Invert, shape-Min, shape-Max, shape-Clamp}
use Rattle.cv_calc.proofs.FoundTypes.{kind_is_type}
use Rattle.cv_simplify.proofs.InRange.{and_true}
use Rattle.cv_simplify.proofs.Measures.{Measure, Kind, nothing, plain, measured, met, added_kind, multiplied_kind, lifted}
use Rattle.cv_simplify.proofs.KindTypes.{kind_type, IsReal, added_step, not_added}
use Rattle.cv_simplify.proofs.KindProducts.{is_plain_kind, plain_type, multiplied_real}
use Rattle.cv_simplify.proofs.TreeKinds.{added_kinds, multiplied_kinds, closed, closed_real, inverse_kind, missing, added_from_left, kind, kind-Num, kind-Sum, kind-Product, kind-Negate, kind-Invert, kind-Min, kind-Max, kind-Clamp, kind_real, typed}
use Rattle.cv_simplify.proofs.UnitKinds.{unit_kind, unit_kind_in, unit_typed, units_real}
use Rattle.cv_simplify.proofs.KindReadings.{every_read}

-- ---- a linear calculation

pub kind_typed : (c : Calc) (k : Kind) → kind unit_kind c ≡ Some k → type_of c ≡ kind_type k
unfolding type_of
kind_typed c k e = typed unit_kind unit_type unit_typed c k e

abbrev kind_of : Calc → Option Kind
kind_of = kind unit_kind

abbrev HasKind : Option Kind → Type 0
HasKind o = (k : Kind) × (o ≡ Some k)

abbrev IsFound : Calc → Type 0
IsFound c = (shape c).fits ≡ true → (t : NumType) → type_of c ≡ Some t → HasKind (kind_of c)

abbrev Fits : Calc → Type 0
Fits c = (shape c).fits ≡ true

-- what holds of a row that is joined holds of each part
all_joined : {S : Type 0} (join : S → S → S) (fits : S → Bool) (found : Calc → S) → ((s t : S) → fits (join s t) ≡ true → (fits s ≡ true) × (fits t ≡ true)) →
    (s : S) (cs : List Calc) → fits (fold join s (map found cs)) ≡ true → (fits s ≡ true) × Each (λ c. fits (found c) ≡ true) cs
all_joined join fits found is s [] e = (e, tt)
all_joined join fits found is s (c ∷ cs) e =
    let rest = all_joined join fits found is (join s (found c)) cs e in
    let parts = is s (found c) rest.0 in
    (parts.0, (parts.1, rest.1))

no_type_stays : (ts : List (Option NumType)) → fold added_next None ts ≡ None
no_type_stays [] = refl
no_type_stays (t ∷ ts) = no_type_stays ts

nothing_to_add : (t : Option NumType) → added_next t None ≡ None
nothing_to_add None = refl
nothing_to_add (Some t) = refl

row_found : (cs : List Calc) → Each IsFound cs → Each Fits cs → (k : Kind) (s : Option NumType) (t : NumType) → IsReal k → s ≡ kind_type k → fold added_next s (map type_of cs) ≡ Some t →
    HasKind (fold (lifted added_kind) (Some k) (map kind_of cs))
row_found [] h f k s t r is e = (k, refl)
row_found (c ∷ cs) h f k s t r is e = go (type_of c) refl (λ m u r is e. row_found cs h.1 f.1 m u t r is e)
  where
    next : ((m : Kind) (u : Option NumType) → IsReal m → u ≡ kind_type m → fold added_next u (map type_of cs) ≡ Some t → HasKind (fold (lifted added_kind) (Some m) (map kind_of cs))) →
        (l : Kind) → kind_of c ≡ Some l → (o : Option Kind) → added_kind k l ≡ o → HasKind (fold (lifted added_kind) o (map kind_of cs))
    next rest l has None added =
        let none : added_next s (type_of c) ≡ None =
        ap (λ u. added_next u (type_of c)) is ∙ ap (added_next (kind_type k)) (kind_typed c l has) ∙ not_added k l r (kind_real unit_kind c l has) added in
        let stays : fold added_next (added_next s (type_of c)) (map type_of cs) ≡ None = ap (λ u. fold added_next u (map type_of cs)) none ∙ no_type_stays (map type_of cs) in
        cc
    next rest l has (Some m) added =
        let step = added_step k l m r (kind_real unit_kind c l has) added in
        rest m (added_next s (type_of c)) step.1 (ap (λ u. added_next u (type_of c)) is ∙ ap (added_next (kind_type k)) (kind_typed c l has) ∙ step.0) e

    child : ((m : Kind) (u : Option NumType) → IsReal m → u ≡ kind_type m → fold added_next u (map type_of cs) ≡ Some t → HasKind (fold (lifted added_kind) (Some m) (map kind_of cs))) →
        HasKind (kind_of c) → HasKind (fold (lifted added_kind) (lifted added_kind (Some k) (kind_of c)) (map kind_of cs))
    child rest found =
        subst (λ (o : Option Kind). HasKind (fold (lifted added_kind) (lifted added_kind (Some k) o) (map kind_of cs))) (sym found.1) (next rest found.0 found.1 (added_kind k found.0) refl)

    go : (o : Option NumType) → type_of c ≡ o →
        ((m : Kind) (u : Option NumType) → IsReal m → u ≡ kind_type m → fold added_next u (map type_of cs) ≡ Some t → HasKind (fold (lifted added_kind) (Some m) (map kind_of cs))) →
        HasKind (fold (lifted added_kind) (lifted added_kind (Some k) (kind_of c)) (map kind_of cs))
    go None has rest =
        let stays : fold added_next (added_next s (type_of c)) (map type_of cs) ≡ None =
        ap (λ u. fold added_next (added_next s u) (map type_of cs)) has ∙ ap (λ u. fold added_next u (map type_of cs)) (nothing_to_add s) ∙ no_type_stays (map type_of cs) in
        cc
    go (Some u) has rest = child rest (h.0 f.0 u has)

added_real : (k l n : Kind) → IsReal k → added_kind k l ≡ Some n → IsReal n
added_real nothing l n r e = absurd r
added_real plain nothing n r e = let same : plain ≡ n = cc in subst IsReal same tt
added_real plain plain n r e = let same : plain ≡ n = cc in subst IsReal same tt
added_real plain (measured o) n r e = cc
added_real (measured m) nothing n r e = let same : measured m ≡ n = cc in subst IsReal same tt
added_real (measured m) plain n r e = cc
added_real (measured m) (measured o) n r e = let same : measured (met m o) ≡ n = cc in subst IsReal same tt

row_real : (os : List (Option Kind)) (k n : Kind) → IsReal k → fold (lifted added_kind) (Some k) os ≡ Some n → IsReal n
row_real [] k n r e = let same : k ≡ n = cc in subst IsReal same r
row_real (None ∷ os) k n r e = let none = missing added_kind os in cc
row_real (Some l ∷ os) k n r e = go (added_kind k l) refl e (λ m r e. row_real os m n r e)
  where
    go : (o : Option Kind) → added_kind k l ≡ o → fold (lifted added_kind) o os ≡ Some n → ((m : Kind) → IsReal m → fold (lifted added_kind) (Some m) os ≡ Some n → IsReal n) → IsReal n
    go None is e rest = let none = missing added_kind os in cc
    go (Some m) is e rest = rest m (added_real k l m r is) e

sum_found : (cs : List Calc) → Each IsFound cs → (sum_shape (map shape cs)).fits ≡ true → (t : NumType) → sum_type (map type_of cs) ≡ Some t → HasKind (closed (added_kinds (map kind_of cs)))
unfolding sum_shape sum_type
sum_found [] h f t e = cc
sum_found (c ∷ cs) h f t e = go (type_of c) refl
  where
    fits : Fits c × Each Fits cs
    fits = all_joined added_shape (λ s. s.fits) shape (λ s t e. and_true s.fits t.fits e) (shape c) cs f

    child : HasKind (kind_of c) → HasKind (closed (added_kinds (map kind_of (c ∷ cs))))
    child found =
        let real = kind_real unit_kind c found.0 found.1 in
        let row = row_found cs h.1 fits.1 found.0 (type_of c) t real (kind_typed c found.0 found.1) e in
        let whole : added_kinds (map kind_of (c ∷ cs)) ≡ Some row.0 =
        sym (added_from_left (kind_of c) (map kind_of cs)) ∙ ap (λ o. fold (lifted added_kind) o (map kind_of cs)) found.1 ∙ row.1 in
        (row.0, ap closed whole ∙ closed_real row.0 (row_real (map kind_of cs) found.0 row.0 real row.1))

    go : (o : Option NumType) → type_of c ≡ o → HasKind (closed (added_kinds (map kind_of (c ∷ cs))))
    go None has = let stays : fold added_next (type_of c) (map type_of cs) ≡ None = ap (λ u. fold added_next u (map type_of cs)) has ∙ no_type_stays (map type_of cs) in cc
    go (Some u) has = child (h.0 fits.0 u has)

-- ---- a linear product

all_fit_each : (cs : List Calc) → all_fit (map shape cs) ≡ true → Each Fits cs
unfolding all_fit
all_fit_each [] e = tt
all_fit_each (c ∷ cs) e = let parts = and_true (shape c).fits (all_fit (map shape cs)) e in (parts.0, all_fit_each cs parts.1)

abbrev HasType : Calc → Type 0
HasType c = (t : NumType) × (type_of c ≡ Some t)

no_hint_stays : (ts : List (Option NumType)) → fold shared_next None ts ≡ None
no_hint_stays [] = refl
no_hint_stays (t ∷ ts) = no_hint_stays ts

no_hint_of : (h : Option (Option Base)) → shared_next h None ≡ None
no_hint_of None = refl
no_hint_of (Some g) = refl

hints_typed : (cs : List Calc) (h : Option (Option Base)) (g : Option Base) → fold shared_next h (map type_of cs) ≡ Some g → Each HasType cs
hints_typed [] h g e = tt
hints_typed (c ∷ cs) h g e = go (type_of c) refl (hints_typed cs (shared_next h (type_of c)) g e)
  where
    go : (o : Option NumType) → type_of c ≡ o → Each HasType cs → HasType c × Each HasType cs
    go None has rest =
        let stays : fold shared_next (shared_next h (type_of c)) (map type_of cs) ≡ None =
        ap (λ u. fold shared_next (shared_next h u) (map type_of cs)) has ∙ ap (λ u. fold shared_next u (map type_of cs)) (no_hint_of h) ∙ no_hint_stays (map type_of cs) in
        cc
    go (Some t) has rest = ((t, has), rest)

each_kind : (cs : List Calc) → Each IsFound cs → Each Fits cs → Each HasType cs → Each (λ c. HasKind (kind_of c)) cs
each_kind [] h f t = tt
each_kind (c ∷ cs) h f t = (h.0 f.0 t.0.0 t.0.1, each_kind cs h.1 f.1 t.1)

plain_is : (c : Calc) (k : Kind) → kind_of c ≡ Some k → is_plain (shape c).kind ≡ is_plain_kind k
plain_is c k has = ap is_plain (kind_is_type c ∙ kind_typed c k has) ∙ plain_type k

abbrev IsLow : Kind → Type 0
IsLow nothing = Unit {0}
IsLow plain = Unit {0}
IsLow (measured m) = ⊥

none_found : (cs : List Calc) → Each (λ c. HasKind (kind_of c)) cs → none_measured (map shape cs) ≡ true → (n : Kind) × (multiplied_kinds (map kind_of cs) ≡ Some n) × IsLow n
unfolding none_measured
none_found [] h e = (nothing, refl, tt)
none_found (c ∷ cs) h e = go h.0.0 h.0.1 (λ e. none_found cs h.1 e)
  where
    low : (n : Kind) → IsLow n → (o : Kind) × (multiplied_kind plain n ≡ Some o) × IsLow o
    low nothing l = (plain, refl, tt)
    low plain l = (plain, refl, tt)
    low (measured m) l = absurd l

    go : (k : Kind) → kind_of c ≡ Some k → (none_measured (map shape cs) ≡ true → (n : Kind) × (multiplied_kinds (map kind_of cs) ≡ Some n) × IsLow n) →
        (n : Kind) × (multiplied_kinds (map kind_of (c ∷ cs)) ≡ Some n) × IsLow n
    go nothing has ih = absurd (kind_real unit_kind c nothing has)
    go plain has ih =
        let rest = ih (sym (ap (λ b. if not b then false else none_measured (map shape cs)) (plain_is c plain has)) ∙ e) in
        let all = low rest.0 rest.2 in
        (all.0, ap (λ o. lifted multiplied_kind o (multiplied_kinds (map kind_of cs))) has ∙ ap (lifted multiplied_kind (Some plain)) rest.1 ∙ all.1, all.2)
    go (measured m) has ih = let never : false ≡ true = sym (ap (λ b. if not b then false else none_measured (map shape cs)) (plain_is c (measured m) has)) ∙ e in cc

one_found : (cs : List Calc) → Each (λ c. HasKind (kind_of c)) cs → one_measured (map shape cs) ≡ true → HasKind (multiplied_kinds (map kind_of cs))
unfolding one_measured
one_found [] h e = (nothing, refl)
one_found (c ∷ cs) h e = go h.0.0 h.0.1 (λ e. one_found cs h.1 e)
  where
    with_plain : (n : Kind) → HasKind (multiplied_kind plain n)
    with_plain nothing = (plain, refl)
    with_plain plain = (plain, refl)
    with_plain (measured m) = (measured m, refl)

    with_low : (m : Measure) (n : Kind) → IsLow n → multiplied_kind (measured m) n ≡ Some (measured m)
    with_low m nothing l = refl
    with_low m plain l = refl
    with_low m (measured o) l = absurd l

    go : (k : Kind) → kind_of c ≡ Some k → (one_measured (map shape cs) ≡ true → HasKind (multiplied_kinds (map kind_of cs))) → HasKind (multiplied_kinds (map kind_of (c ∷ cs)))
    go nothing has ih = absurd (kind_real unit_kind c nothing has)
    go plain has ih =
        let rest = ih (sym (ap (λ b. if not b then none_measured (map shape cs) else one_measured (map shape cs)) (plain_is c plain has)) ∙ e) in
        let all = with_plain rest.0 in
        (all.0, ap (λ o. lifted multiplied_kind o (multiplied_kinds (map kind_of cs))) has ∙ ap (lifted multiplied_kind (Some plain)) rest.1 ∙ all.1)
    go (measured m) has ih =
        let rest = none_found cs h.1 (sym (ap (λ b. if not b then none_measured (map shape cs) else one_measured (map shape cs)) (plain_is c (measured m) has)) ∙ e) in
        (measured m, ap (λ o. lifted multiplied_kind o (multiplied_kinds (map kind_of cs))) has ∙ ap (lifted multiplied_kind (Some (measured m))) rest.1 ∙ with_low m rest.0 rest.2)

hint_found : (ts : List (Option NumType)) (o : Option (Option Base)) (t : NumType) → option_and_then (product_under ts) o ≡ Some t → (g : Option Base) × (o ≡ Some g)
hint_found ts None t e = cc
hint_found ts (Some g) t e = (g, refl)

product_found : (cs : List Calc) → Each IsFound cs → (product_shape (map shape cs)).fits ≡ true → (t : NumType) → product_type (map type_of cs) ≡ Some t → HasKind (closed (multiplied_kinds (map kind_of cs)))
unfolding product_shape product_type shared_hint
product_found [] h f t e = cc
product_found (c ∷ cs) h f t e =
    let parts = and_true (all_fit (map shape (c ∷ cs))) (one_measured (map shape (c ∷ cs))) f in
    let hint = hint_found (map type_of (c ∷ cs)) (shared_hint (map type_of (c ∷ cs))) t e in
    let has = each_kind (c ∷ cs) h (all_fit_each (c ∷ cs) parts.0) (hints_typed (c ∷ cs) (Some None) hint.0 hint.1) in
    let all = one_found (c ∷ cs) has parts.1 in
    (all.0, ap closed all.1 ∙ closed_real all.0 (go has.0.0 (multiplied_kinds (map kind_of cs)) has.0.1 refl all.0 all.1))
  where
    go : (k : Kind) (o : Option Kind) → kind_of c ≡ Some k → multiplied_kinds (map kind_of cs) ≡ o → (n : Kind) → multiplied_kinds (map kind_of (c ∷ cs)) ≡ Some n → IsReal n
    go k None first rest n e =
        let none : multiplied_kinds (map kind_of (c ∷ cs)) ≡ None = ap (λ o. lifted multiplied_kind o (multiplied_kinds (map kind_of cs))) first ∙ ap (lifted multiplied_kind (Some k)) rest in
        cc
    go k (Some l) first rest n e =
        multiplied_real k l n (kind_real unit_kind c k first)
        (sym (ap (λ o. lifted multiplied_kind o (multiplied_kinds (map kind_of cs))) first ∙ ap (lifted multiplied_kind (Some k)) rest) ∙ e)

-- ---- a linear divisor

invert_found : (c : Calc) → IsFound c → (inverted_shape (shape c)).fits ≡ true → (t : NumType) → option_and_then negated (type_of c) ≡ Some t → HasKind (closed (inverse_kind (kind_of c)))
invert_found c h f t e = go (type_of c) refl
  where
    parts : ((shape c).fits ≡ true) × (is_plain (shape c).kind ≡ true)
    parts = let first = and_true ((shape c).fits && is_plain (shape c).kind) (shape c).numbers f in and_true (shape c).fits (is_plain (shape c).kind) first.0

    by_kind : (k : Kind) → kind_of c ≡ Some k → HasKind (closed (inverse_kind (kind_of c)))
    by_kind nothing has = absurd (kind_real unit_kind c nothing has)
    by_kind plain has = (plain, ap (λ o. closed (inverse_kind o)) has)
    by_kind (measured m) has = let never : false ≡ true = sym (plain_is c (measured m) has) ∙ parts.1 in cc

    child : HasKind (kind_of c) → HasKind (closed (inverse_kind (kind_of c)))
    child found = by_kind found.0 found.1

    go : (o : Option NumType) → type_of c ≡ o → HasKind (closed (inverse_kind (kind_of c)))
    go None has = let none : option_and_then negated (type_of c) ≡ None = ap (option_and_then negated) has in cc
    go (Some u) has = child (h parts.0 u has)

-- ---- the whole

handed : (c : Calc) (y : Option NumType) (o : Option Kind) → type_of c ≡ y → kind_of c ≡ o → (Fits c → (t : NumType) → y ≡ Some t → HasKind o) → IsFound c
handed c y o types kinds h = λ f t e. let found = h f t (sym types ∙ e) in (found.0, kinds ∙ found.1)

closed_found : (c : Calc) → HasKind (kind_of c) → HasKind (closed (kind_of c))
closed_found c found = (found.0, ap closed found.1 ∙ closed_real found.0 (kind_real unit_kind c found.0 found.1))

unit_found : (u : units.Unit) → HasKind (closed (Some (unit_kind u)))
unit_found u = (unit_kind u, closed_real (unit_kind u) (units_real u))

three_found : (a b c : Calc) → IsFound a → IsFound b → IsFound c → (added_shape (added_shape (shape a) (shape b)) (shape c)).fits ≡ true →
    (t : NumType) → added_next (added_next (type_of a) (type_of b)) (type_of c) ≡ Some t → HasKind (closed (added_kinds (map kind_of (a ∷ b ∷ c ∷ []))))
unfolding sum_type sum_shape
three_found a b c h i j f t e = sum_found (a ∷ b ∷ c ∷ []) (h, (i, (j, tt))) f t e

every_found : (c : Calc) → IsFound c
unfolding type_of
every_found = by_cases IsFound (record {
  num = λ v u. handed (tree.Num v u) _ _ (fold-Num type_step v u) (kind-Num unit_kind v u) (λ f t e. unit_found u);
  sum = λ cs h. handed (tree.Sum cs) _ _ (fold-Sum type_step cs) (kind-Sum unit_kind cs) (λ f t e. sum_found cs h (rw (shape-Sum cs) at f) t e);
  product = λ cs h. handed (tree.Product cs) _ _ (fold-Product type_step cs) (kind-Product unit_kind cs) (λ f t e. product_found cs h (rw (shape-Product cs) at f) t e);
  negate = λ c h. handed (tree.Negate c) _ _ (fold-Negate type_step c) (kind-Negate unit_kind c) (λ f t e. closed_found c (h (rw (shape-Negate c) at f) t e));
  invert = λ c h. handed (tree.Invert c) _ _ (fold-Invert type_step c) (kind-Invert unit_kind c) (λ f t e. invert_found c h (rw (shape-Invert c) at f) t e);
  min = λ cs h. handed (tree.Min cs) _ _ (fold-Min type_step cs) (kind-Min unit_kind cs) (λ f t e. sum_found cs h (rw (shape-Min cs) at f) t e);
  max = λ cs h. handed (tree.Max cs) _ _ (fold-Max type_step cs) (kind-Max unit_kind cs) (λ f t e. sum_found cs h (rw (shape-Max cs) at f) t e);
  clamp = λ a b c h i j. handed (tree.Clamp a b c) _ _ (fold-Clamp type_step a b c) (kind-Clamp unit_kind a b c) (λ f t e. three_found a b c h i j (rw (shape-Clamp a b c) at f) t e);
})

-- a linear calculation has a kind, in each reading of percentages
pub linear_kind : (b : Basis) (c : Calc) → is_linear c ≡ true → (k : Kind) × (kind (unit_kind_in b) c ≡ Some k)
unfolding is_linear
linear_kind b c h =
    let parts = and_true (has_type (shape c).kind) (shape c).fits h in
    let type = has_one (shape c).kind parts.0 in
    let found = every_found c parts.1 type.0 (sym (kind_is_type c) ∙ type.1) in
    let read = every_read b c found.0 found.1 in
    (read.other, read.is)
  where
    has_one : (o : Option NumType) → has_type o ≡ true → (t : NumType) × (o ≡ Some t)
    has_one None e = cc
    has_one (Some t) e = (t, refl)
