-- What holds of each item that an alternative gives holds of what the grammar gives.
use Rattle.std.proofs.Common.{◌≡◌, Bool, true, false, List, [], ◌∷◌, refl, subst}
use Rattle.std.specs.Prelude.{nat_lt, if◌then◌else◌}
use Rattle.std.specs.List.{AllByRecursion as Every}
use Rattle.cv_spec_text.specs.declared.token.Token.{Token}
use Rattle.cv_component.specs.Nesting.{depth}
use Rattle.cv_calc.specs.declared.context.Context.{Context}
use Rattle.cv_numeric.specs.declared.matched.Matched.{Matched}
use Rattle.cv_numeric.specs.declared.matched.Matched.TheVariants.{No, Out, Fit}
use Rattle.cv_numeric.specs.Matched.{mapped, or_else, IfFit}
use Rattle.cv_numeric.specs.Numeric.{with_basis}
use Rattle.cv_value.specs.declared.typed.Item.{Item}
use Rattle.cv_value.specs.declared.typed.Typed.{Typed}
use Rattle.cv_value.specs.declared.typed.Typed.TheVariants.{One}
use Rattle.cv_property.specs.declared.property.Property.{Property}
use Rattle.cv_property.specs.declared.grammar.Alternative.{Alternative}
use Rattle.cv_property.specs.Table.{row}
use Rattle.cv_property.specs.Grammar.{alternative, basis_of, by_grammar, matching_property}

pub if_mapped : {A B : Type 0} (Q : B → Type 0) (f : A → B) (m : Matched A) → ((a : A) → Q (f a)) → IfFit Q (mapped f m)
if_mapped Q f No h = tt
if_mapped Q f Out h = tt
if_mapped Q f (Fit a) h = h a

-- what each match gives
pub if_each : {A B : Type 0} (Q : B → Type 0) (f : A → B) (m : Matched A) → ((a : A) → m ≡ Fit a → Q (f a)) → IfFit Q (mapped f m)
if_each Q f No h = tt
if_each Q f Out h = tt
if_each Q f (Fit a) h = h a refl

if_else : {A : Type 0} (Q : A → Type 0) (m n : Matched A) → IfFit Q m → IfFit Q n → IfFit Q (or_else m n)
if_else Q No n h k = k
if_else Q Out n h k = tt
if_else Q (Fit a) n h k = h

if_deep : {A : Type 0} (Q : A → Type 0) (b : Bool) (m : Matched A) → IfFit Q m → IfFit Q (if b then No else m)
if_deep Q true m h = tt
if_deep Q false m h = h

if_one : (P : Item → Type 0) (Q : Typed → Type 0) → ((i : Item) → P i → Q (One i)) → (m : Matched Item) → IfFit P m → IfFit Q (mapped One m)
if_one P Q h No k = tt
if_one P Q h Out k = tt
if_one P Q h (Fit i) k = h i k

pub fit_is : {A : Type 0} (Q : A → Type 0) (m : Matched A) (a : A) → m ≡ Fit a → IfFit Q m → Q a
fit_is Q m a is h = subst (IfFit Q) is h

-- the context in which the alternatives of a property are read
abbrev pub own : Property → Context → Context
own p x = with_basis (basis_of (row p).percentages x) x

module _ (P : Item → Type 0) where
  if_grammar : (x : Context) (ts : List Token) (all : List Alternative) → Every (λ a. IfFit P (alternative x ts a)) all → IfFit P (by_grammar all x ts)
  if_grammar x ts [] h = tt
  if_grammar x ts (a ∷ all) (h, k) = if_else P (alternative x ts a) (by_grammar all x ts) h (if_grammar x ts all k)

  if_any : (x : Context) (ts : List Token) → ((a : Alternative) → IfFit P (alternative x ts a)) → (all : List Alternative) → IfFit P (by_grammar all x ts)
  if_any x ts h [] = tt
  if_any x ts h (a ∷ all) = if_else P (alternative x ts a) (by_grammar all x ts) (h a) (if_any x ts h all)

  module _ (Q : Typed → Type 0) (made : (i : Item) → P i → Q (One i)) where
    pub if_matching : (p : Property) (x : Context) (ts : List Token) → Every (λ a. IfFit P (alternative (own p x) ts a)) (row p).grammar → IfFit Q (matching_property p x ts)
    unfolding matching_property
    if_matching p x ts h =
        let found : Matched Item = by_grammar (row p).grammar (own p x) ts in
        if_deep Q (nat_lt 128 (depth ts)) (mapped One found) (if_one P Q made found (if_grammar (own p x) ts (row p).grammar h))

    pub if_any_matching : (p : Property) (x : Context) (ts : List Token) → ((a : Alternative) → IfFit P (alternative (own p x) ts a)) → IfFit Q (matching_property p x ts)
    unfolding matching_property
    if_any_matching p x ts h =
        let found : Matched Item = by_grammar (row p).grammar (own p x) ts in
        if_deep Q (nat_lt 128 (depth ts)) (mapped One found) (if_one P Q made found (if_any (own p x) ts h (row p).grammar))
