-- The children of a tree that has a type have types, and their numbers are in bounds where all are.
use Rattle.std.specs.Prelude.{true, ◌&&◌, List, [], ◌∷◌, map, fold, Option, Some}
use Rattle.std.specs.Option.{option_and_then}
use Rattle.std.proofs.Common.{◌≡◌, sym, ◌∙◌}
use Rattle.cv_calc.specs.declared.unit.Base.{Base}
use Rattle.cv_calc.specs.declared.unit.NumType.{NumType}
use Rattle.cv_calc.specs.declared.calc.Calc.{Calc}
use Rattle.cv_calc.specs.declared.calc.Calc.TheVariants.{Sum, Product, Negate, Invert, Min, Max, Clamp}
use Rattle.cv_calc.specs.Tree.{Each}
use Rattle.cv_calc.specs.Types.{no_powers, with_hint, added, added_next, multiplied, multiplied_next, sum_type, shared_hint, product_under, product_type, negated, type_of}
use Rattle.cv_calc_laws.proofs.Lists.{none_some, from_bound}
use Rattle.cv_simplify.specs.Counted.{inside, all_inside}
use Rattle.cv_simplify.proofs.InRange.{inside-Sum, inside-Product, inside-Negate, inside-Invert, inside-Min, inside-Max, inside-Clamp, and_true}
use Rattle.cv_om_roundtrip.proofs.Sames.{type-Sum, type-Product, type-Negate, type-Invert, type-Min, type-Max, type-Clamp}

-- it has a type, and its numbers are in bounds
pub record IsGiven (c : Calc) : Type 0 where
  pub kind : NumType
  pub typed : type_of c ≡ Some kind
  pub within : inside c ≡ true

abbrev IsSome : Option NumType → Type 0
IsSome o = (t : NumType) × (o ≡ Some t)

abbrev AllSome : List (Option NumType) → Type 0
AllSome [] = Unit {0}
AllSome (o ∷ os) = IsSome o × AllSome os

next_some : (o p : Option NumType) (w : NumType) → added_next o p ≡ Some w → IsSome o × IsSome p
next_some o p w e =
    let (u, first, next) = from_bound (λ u. option_and_then (λ v. added u v) p) o w e in
    let (v, second, last) = from_bound (λ v. added u v) p w next in
    ((u, first), (v, second))

sums_some : (o : Option NumType) (os : List (Option NumType)) (w : NumType) → fold added_next o os ≡ Some w → IsSome o × AllSome os
sums_some o [] w e = ((w, e), tt)
sums_some o (p ∷ os) w e =
    let rest = sums_some (added_next o p) os w e in
    let both = next_some o p rest.0.0 rest.0.1 in
    (both.0, (both.1, rest.1))

sum_some : (os : List (Option NumType)) (w : NumType) → sum_type os ≡ Some w → AllSome os
unfolding sum_type
sum_some [] w e = absurd (none_some w e)
sum_some (o ∷ os) w e = let all = sums_some o os w e in (all.0, all.1)

pub no_sum : {A : Type 0} (w : NumType) → sum_type [] ≡ Some w → A
unfolding sum_type
no_sum w e = absurd (none_some w e)

times_some : (h : Option Base) (o p : Option NumType) (w : NumType) → multiplied_next h o p ≡ Some w → IsSome o × IsSome p
times_some h o p w e =
    let (u, first, next) = from_bound (λ u. option_and_then (λ v. option_and_then (λ x. multiplied u x) (with_hint h v)) p) o w e in
    let (v, second, last) = from_bound (λ v. option_and_then (λ x. multiplied u x) (with_hint h v)) p w next in
    ((u, first), (v, second))

products_some : (h : Option Base) (o : Option NumType) (os : List (Option NumType)) (w : NumType) → fold (multiplied_next h) o os ≡ Some w → IsSome o × AllSome os
products_some h o [] w e = ((w, e), tt)
products_some h o (p ∷ os) w e =
    let rest = products_some h (multiplied_next h o p) os w e in
    let both = times_some h o p rest.0.0 rest.0.1 in
    (both.0, (both.1, rest.1))

product_some : (os : List (Option NumType)) (w : NumType) → product_type os ≡ Some w → AllSome os
unfolding product_type product_under
product_some [] w e = absurd (none_some w e)
product_some (o ∷ os) w e =
    let (h, first, next) = from_bound (product_under (o ∷ os)) (shared_hint (o ∷ os)) w e in
    (products_some h (Some (no_powers h)) (o ∷ os) w next).1

pub no_product : {A : Type 0} (w : NumType) → product_type [] ≡ Some w → A
unfolding product_type
no_product w e = absurd (none_some w e)

-- ---- children

each_given : (cs : List Calc) → AllSome (map type_of cs) → all_inside cs ≡ true → Each IsGiven cs
each_given [] s h = tt
each_given (c ∷ cs) s h =
    let p = and_true (inside c) (all_inside cs) h in
    (record { kind = s.0.0; typed = s.0.1; within = p.0 }, each_given cs s.1 p.1)

pub sum_given : (cs : List Calc) → IsGiven (Sum cs) → Each IsGiven cs
sum_given cs g = each_given cs (sum_some (map type_of cs) g.kind (sym (type-Sum cs) ∙ g.typed)) (sym (inside-Sum cs) ∙ g.within)

pub product_given : (cs : List Calc) → IsGiven (Product cs) → Each IsGiven cs
product_given cs g = each_given cs (product_some (map type_of cs) g.kind (sym (type-Product cs) ∙ g.typed)) (sym (inside-Product cs) ∙ g.within)

pub least_given : (cs : List Calc) → IsGiven (Min cs) → Each IsGiven cs
least_given cs g = each_given cs (sum_some (map type_of cs) g.kind (sym (type-Min cs) ∙ g.typed)) (sym (inside-Min cs) ∙ g.within)

pub greatest_given : (cs : List Calc) → IsGiven (Max cs) → Each IsGiven cs
greatest_given cs g = each_given cs (sum_some (map type_of cs) g.kind (sym (type-Max cs) ∙ g.typed)) (sym (inside-Max cs) ∙ g.within)

pub negative_given : (c : Calc) → IsGiven (Negate c) → IsGiven c
negative_given c g = record { kind = g.kind; typed = sym (type-Negate c) ∙ g.typed; within = sym (inside-Negate c) ∙ g.within }

pub inverse_given : (c : Calc) → IsGiven (Invert c) → IsGiven c
inverse_given c g =
    let (t, first, next) = from_bound negated (type_of c) g.kind (sym (type-Invert c) ∙ g.typed) in
    record { kind = t; typed = first; within = sym (inside-Invert c) ∙ g.within }

pub limits_given : (a b c : Calc) → IsGiven (Clamp a b c) → IsGiven a × IsGiven b × IsGiven c
limits_given a b c g =
    let outer = next_some (added_next (type_of a) (type_of b)) (type_of c) g.kind (sym (type-Clamp a b c) ∙ g.typed) in
    let inner = next_some (type_of a) (type_of b) outer.0.0 outer.0.1 in
    let p = and_true (inside a && inside b) (inside c) (sym (inside-Clamp a b c) ∙ g.within) in
    let q = and_true (inside a) (inside b) p.0 in (
      record { kind = inner.0.0; typed = inner.0.1; within = q.0 },
      record { kind = inner.1.0; typed = inner.1.1; within = q.1 },
      record { kind = outer.1.0; typed = outer.1.1; within = p.1 },
    )
