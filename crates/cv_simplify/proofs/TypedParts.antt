-- The parts of a calculation that has a type have types.
use Rattle.std.specs.Prelude.{List, [], ◌∷◌, fold, Option, Some, None}
use Rattle.std.specs.Option.{option_and_then}
use Rattle.std.proofs.Common.{◌≡◌, refl}
use Rattle.cv_calc.specs.declared.unit.Base.{Base}
use Rattle.cv_calc.specs.declared.unit.NumType.{NumType}
use Rattle.cv_calc.specs.Types.{added_next, multiplied_next, no_powers, shared_hint, sum_type, product_type, product_under, negated as negated_type}

abbrev pub HasKind : Option NumType → Type 0
HasKind o = (t : NumType) × (o ≡ Some t)

abbrev pub Every : {A : Type 0} → (A → Type 0) → List A → Type 0
Every P [] = Unit {0}
Every P (a ∷ rest) = P a × Every P rest

none_some : {A : Type 0} (a : A) → ◌≡◌ {A = Option A} None (Some a) → ⊥
none_some a e = cc

from_bound : {A B : Type 0} (f : A → Option B) (o : Option A) (b : B) → option_and_then f o ≡ Some b → (a : A) × (o ≡ Some a) × (f a ≡ Some b)
from_bound f None b e = absurd (none_some b e)
from_bound f (Some a) b e = (a, refl, e)

-- ---- parts that have a type

pub added_kinds : (o p : Option NumType) → HasKind (added_next o p) → HasKind o × HasKind p
added_kinds None p h = absurd (none_some h.0 h.1)
added_kinds (Some s) None h = absurd (none_some h.0 h.1)
added_kinds (Some s) (Some t) h = ((s, refl), (t, refl))

terms_kinds : (o : Option NumType) (ts : List (Option NumType)) → HasKind (fold added_next o ts) → HasKind o × Every HasKind ts
terms_kinds o [] h = (h, tt)
terms_kinds o (t ∷ ts) h =
    let (both, rest) = terms_kinds (added_next o t) ts h in
    let (first, second) = added_kinds o t both in
    (first, (second, rest))

pub sum_kinds : (ts : List (Option NumType)) → HasKind (sum_type ts) → Every HasKind ts
unfolding sum_type
sum_kinds [] h = tt
sum_kinds (t ∷ ts) h = terms_kinds t ts h

pub no_sum : HasKind (sum_type []) → ⊥
unfolding sum_type
no_sum h = none_some h.0 h.1

multiplied_kinds : (h : Option Base) (o p : Option NumType) (w : NumType) → multiplied_next h o p ≡ Some w → HasKind o × HasKind p
multiplied_kinds h None p w e = absurd (none_some w e)
multiplied_kinds h (Some s) None w e = absurd (none_some w e)
multiplied_kinds h (Some s) (Some t) w e = ((s, refl), (t, refl))

factor_kinds : (h : Option Base) (o : Option NumType) (ts : List (Option NumType)) (w : NumType) → fold (multiplied_next h) o ts ≡ Some w → HasKind o × Every HasKind ts
factor_kinds h o [] w e = ((w, e), tt)
factor_kinds h o (t ∷ ts) w e =
    let (next, rest) = factor_kinds h (multiplied_next h o t) ts w e in
    let (first, here) = multiplied_kinds h o t next.0 next.1 in
    (first, (here, rest))

pub product_kinds : (ts : List (Option NumType)) → HasKind (product_type ts) → Every HasKind ts
unfolding product_type product_under
product_kinds [] h = tt
product_kinds (t ∷ ts) h =
    let (hint, first, next) = from_bound (product_under (t ∷ ts)) (shared_hint (t ∷ ts)) h.0 h.1 in
    (factor_kinds hint (Some (no_powers hint)) (t ∷ ts) h.0 next).1

pub no_product : HasKind (product_type []) → ⊥
unfolding product_type
no_product h = none_some h.0 h.1

pub negated_kind : (o : Option NumType) → HasKind (option_and_then negated_type o) → HasKind o
negated_kind None h = absurd (none_some h.0 h.1)
negated_kind (Some t) h = (t, refl)
