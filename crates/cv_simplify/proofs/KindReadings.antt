-- A calculation that has a kind has one in each reading of the units.
use Rattle.std.specs.Prelude.{List, [], ◌∷◌, map, Option, Some, None}
use Rattle.std.proofs.Common.{◌≡◌, refl, sym, ◌∙◌, ap, subst}
use Rattle.cv_calc.specs.declared.unit.Unit as units
use Rattle.cv_calc.specs.declared.calc.Calc.{Calc}
use Rattle.cv_calc.specs.declared.calc.Calc.TheVariants as tree
use Rattle.cv_calc.specs.declared.context.Basis.{Basis}
use Rattle.cv_calc.specs.Tree.{Each, by_cases}
use Rattle.cv_simplify.proofs.Measures.{Kind, nothing, plain, measured, met, added_kind, multiplied_kind, lifted}
use Rattle.cv_simplify.proofs.KindTypes.{IsReal}
use Rattle.cv_simplify.proofs.TreeKinds.{kinds_by, closed, closed_is, closed_real, inverse_kind, inverse_is, kind, kind-Num, kind-Sum, kind-Product, kind-Negate, kind-Invert, kind-Min, kind-Max, kind-Clamp}
use Rattle.cv_simplify.proofs.UnitKinds.{unit_kind, unit_kind_in, IsSort, units_sort}

-- ---- another reading of the units

pub record Reads (k : Kind) (o : Option Kind) : Type 0 where
  pub other : Kind
  pub is : o ≡ Some other
  pub sort : IsSort k other

added_sort : (k l n j i : Kind) → IsSort k j → IsSort l i → added_kind k l ≡ Some n → Reads n (added_kind j i)
added_sort nothing l n nothing i h g e = let same : l ≡ n = cc in record { other = i; is = refl; sort = subst (λ (m : Kind). IsSort m i) same g }
added_sort plain nothing n plain nothing h g e = let same : plain ≡ n = cc in record { other = plain; is = refl; sort = subst (λ (m : Kind). IsSort m plain) same tt }
added_sort plain plain n plain plain h g e = let same : plain ≡ n = cc in record { other = plain; is = refl; sort = subst (λ (m : Kind). IsSort m plain) same tt }
added_sort plain (measured m) n j i h g e = cc
added_sort (measured m) plain n j i h g e = cc
added_sort (measured m) nothing n (measured o) nothing h g e = let same : measured m ≡ n = cc in record { other = measured o; is = refl; sort = subst (λ (q : Kind). IsSort q (measured o)) same tt }
added_sort (measured m) (measured p) n (measured o) (measured q) h g e =
    let same : measured (met m p) ≡ n = cc in record { other = measured (met o q); is = refl; sort = subst (λ (r : Kind). IsSort r (measured (met o q))) same tt }
added_sort nothing l n plain i h g e = absurd h
added_sort nothing l n (measured o) i h g e = absurd h
added_sort plain l n nothing i h g e = absurd h
added_sort plain l n (measured o) i h g e = absurd h
added_sort (measured m) l n nothing i h g e = absurd h
added_sort (measured m) l n plain i h g e = absurd h
added_sort plain nothing n plain plain h g e = absurd g
added_sort plain nothing n plain (measured q) h g e = absurd g
added_sort plain plain n plain nothing h g e = absurd g
added_sort plain plain n plain (measured q) h g e = absurd g
added_sort (measured m) nothing n (measured o) plain h g e = absurd g
added_sort (measured m) nothing n (measured o) (measured q) h g e = absurd g
added_sort (measured m) (measured p) n (measured o) nothing h g e = absurd g
added_sort (measured m) (measured p) n (measured o) plain h g e = absurd g

multiplied_sort : (k l n j i : Kind) → IsSort k j → IsSort l i → multiplied_kind k l ≡ Some n → Reads n (multiplied_kind j i)
multiplied_sort nothing l n nothing i h g e = let same : l ≡ n = cc in record { other = i; is = refl; sort = subst (λ (m : Kind). IsSort m i) same g }
multiplied_sort plain nothing n plain nothing h g e = let same : plain ≡ n = cc in record { other = plain; is = refl; sort = subst (λ (m : Kind). IsSort m plain) same tt }
multiplied_sort plain plain n plain plain h g e = let same : plain ≡ n = cc in record { other = plain; is = refl; sort = subst (λ (m : Kind). IsSort m plain) same tt }
multiplied_sort plain (measured m) n plain (measured q) h g e = let same : measured m ≡ n = cc in record { other = measured q; is = refl; sort = subst (λ (r : Kind). IsSort r (measured q)) same tt }
multiplied_sort (measured m) nothing n (measured o) nothing h g e = let same : measured m ≡ n = cc in record { other = measured o; is = refl; sort = subst (λ (q : Kind). IsSort q (measured o)) same tt }
multiplied_sort (measured m) plain n (measured o) plain h g e = let same : measured m ≡ n = cc in record { other = measured o; is = refl; sort = subst (λ (q : Kind). IsSort q (measured o)) same tt }
multiplied_sort (measured m) (measured p) n j i h g e = cc
multiplied_sort nothing l n plain i h g e = absurd h
multiplied_sort nothing l n (measured o) i h g e = absurd h
multiplied_sort plain l n nothing i h g e = absurd h
multiplied_sort plain l n (measured o) i h g e = absurd h
multiplied_sort (measured m) l n nothing i h g e = absurd h
multiplied_sort (measured m) l n plain i h g e = absurd h
multiplied_sort plain nothing n plain plain h g e = absurd g
multiplied_sort plain nothing n plain (measured q) h g e = absurd g
multiplied_sort plain plain n plain nothing h g e = absurd g
multiplied_sort plain plain n plain (measured q) h g e = absurd g
multiplied_sort plain (measured m) n plain nothing h g e = absurd g
multiplied_sort plain (measured m) n plain plain h g e = absurd g
multiplied_sort (measured m) nothing n (measured o) plain h g e = absurd g
multiplied_sort (measured m) nothing n (measured o) (measured q) h g e = absurd g
multiplied_sort (measured m) plain n (measured o) nothing h g e = absurd g
multiplied_sort (measured m) plain n (measured o) (measured q) h g e = absurd g

sort_real : (k j : Kind) → IsReal k → IsSort k j → IsReal j
sort_real nothing j r h = absurd r
sort_real plain nothing r h = absurd h
sort_real plain plain r h = tt
sort_real plain (measured n) r h = absurd h
sort_real (measured m) nothing r h = absurd h
sort_real (measured m) plain r h = absurd h
sort_real (measured m) (measured n) r h = tt

plain_sort : (j : Kind) → IsSort plain j → plain ≡ j
plain_sort nothing h = absurd h
plain_sort plain h = refl
plain_sort (measured n) h = absurd h

-- the same of a node, where there is something of what its children give
closed_read : (o p : Option Kind) → ((k : Kind) → o ≡ Some k → Reads k p) → (k : Kind) → closed o ≡ Some k → Reads k (closed p)
closed_read o p h k e =
    let parts = closed_is o k e in
    let found = h k parts.0 in
    record { other = found.other; is = ap closed found.is ∙ closed_real found.other (sort_real k found.other parts.1 found.sort); sort = found.sort }

module _ (b : Basis) where
  abbrev kind_in : Calc → Option Kind
  kind_in = kind (unit_kind_in b)

  abbrev IsRead : Calc → Type 0
  IsRead c = (k : Kind) → kind unit_kind c ≡ Some k → Reads k (kind_in c)

  moved : (c : Calc) (k : Kind) (o p : Option Kind) → kind unit_kind c ≡ o → kind_in c ≡ p → ((k : Kind) → o ≡ Some k → Reads k p) → kind unit_kind c ≡ Some k → Reads k (kind_in c)
  moved c k o p first second h e = let found = h k (sym first ∙ e) in record { other = found.other; is = second ∙ found.is; sort = found.sort }

  lists_read : (f : Kind → Kind → Option Kind) → ((k l n j i : Kind) → IsSort k j → IsSort l i → f k l ≡ Some n → Reads n (f j i)) →
      (cs : List Calc) → Each IsRead cs → (k : Kind) → kinds_by f (map (kind unit_kind) cs) ≡ Some k → Reads k (kinds_by f (map kind_in cs))
  lists_read f step [] h k e = let same : nothing ≡ k = cc in record { other = nothing; is = refl; sort = subst (λ (m : Kind). IsSort m nothing) same tt }
  lists_read f step (c ∷ cs) h k e = go (kind unit_kind c) (kinds_by f (map (kind unit_kind) cs)) refl refl e (λ d e. lists_read f step cs h.1 d e)
    where
      go : (o p : Option Kind) → kind unit_kind c ≡ o → kinds_by f (map (kind unit_kind) cs) ≡ p → lifted f o p ≡ Some k →
          ((d : Kind) → kinds_by f (map (kind unit_kind) cs) ≡ Some d → Reads d (kinds_by f (map kind_in cs))) → Reads k (lifted f (kind_in c) (kinds_by f (map kind_in cs)))
      go None p first rest e ih = cc
      go (Some a) None first rest e ih = cc
      go (Some a) (Some d) first rest e ih =
          let one = h.0 a first in
          let others = ih d rest in
          let both = step a d k one.other others.other one.sort others.sort e in
          record { other = both.other; is = ap (λ o. lifted f o (kinds_by f (map kind_in cs))) one.is ∙ ap (lifted f (Some one.other)) others.is ∙ both.is; sort = both.sort }

  inverse_read : (c : Calc) → IsRead c → (k : Kind) → inverse_kind (kind unit_kind c) ≡ Some k → Reads k (inverse_kind (kind_in c))
  inverse_read c h k e =
      let parts = inverse_is (kind unit_kind c) k e in
      let found = h plain parts.0 in
      record { other = plain; is = ap inverse_kind (found.is ∙ ap Some (sym (plain_sort found.other found.sort))); sort = subst (λ (m : Kind). IsSort m plain) parts.1 tt }

  unit_read : (u : units.Unit) (k : Kind) → Some (unit_kind u) ≡ Some k → Reads k (Some (unit_kind_in b u))
  unit_read u k e = let same : unit_kind u ≡ k = cc in record { other = unit_kind_in b u; is = refl; sort = subst (λ (m : Kind). IsSort m (unit_kind_in b u)) same (units_sort b u) }

  pub every_read : (c : Calc) → IsRead c
  every_read = by_cases IsRead (record {
    num = λ v u k. moved (tree.Num v u) k _ _ (kind-Num unit_kind v u) (kind-Num (unit_kind_in b) v u) (closed_read _ _ (unit_read u));
    sum = λ cs h k. moved (tree.Sum cs) k _ _ (kind-Sum unit_kind cs) (kind-Sum (unit_kind_in b) cs) (closed_read _ _ (lists_read added_kind added_sort cs h));
    product = λ cs h k. moved (tree.Product cs) k _ _ (kind-Product unit_kind cs) (kind-Product (unit_kind_in b) cs) (closed_read _ _ (lists_read multiplied_kind multiplied_sort cs h));
    negate = λ c h k. moved (tree.Negate c) k _ _ (kind-Negate unit_kind c) (kind-Negate (unit_kind_in b) c) (closed_read _ _ h);
    invert = λ c h k. moved (tree.Invert c) k _ _ (kind-Invert unit_kind c) (kind-Invert (unit_kind_in b) c) (closed_read _ _ (inverse_read c h));
    min = λ cs h k. moved (tree.Min cs) k _ _ (kind-Min unit_kind cs) (kind-Min (unit_kind_in b) cs) (closed_read _ _ (lists_read added_kind added_sort cs h));
    max = λ cs h k. moved (tree.Max cs) k _ _ (kind-Max unit_kind cs) (kind-Max (unit_kind_in b) cs) (closed_read _ _ (lists_read added_kind added_sort cs h));
    clamp = λ l m n h i j k. moved (tree.Clamp l m n) k _ _ (kind-Clamp unit_kind l m n) (kind-Clamp (unit_kind_in b) l m n)
        (closed_read _ _ (lists_read added_kind added_sort (l ∷ m ∷ n ∷ []) (h, (i, (j, tt)))));
  })
