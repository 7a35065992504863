-- What holds of each item that an alternative gives holds of what the grammar gives.
use Rattle.std.proofs.Common.{◌≡◌, Bool, true, false, List, [], ◌∷◌, subst}
use Rattle.std.specs.Prelude.{nat_lt, if◌then◌else◌}
use Rattle.std.specs.List.{AllByRecursion as Every}
use Rattle.cv_spec_text.specs.declared.token.Token.{Token}
use Rattle.cv_component.specs.Nesting.{depth}
use Rattle.cv_calc.specs.declared.context.Context.{Context}
use Rattle.cv_numeric.specs.declared.matched.Matched.{Matched}
use Rattle.cv_numeric.specs.declared.matched.Matched.TheVariants.{No, Out, Fit}
use Rattle.cv_numeric.specs.Matched.{mapped, or_else, IfFit}
use Rattle.cv_numeric.specs.Numeric.{with_basis}
use Rattle.cv_value.specs.declared.typed.Item.{Item}
use Rattle.cv_value.specs.declared.typed.Typed.{Typed}
use Rattle.cv_value.specs.declared.typed.Typed.TheVariants.{One}
use Rattle.cv_property.specs.declared.property.Property.{Property}
use Rattle.cv_property.specs.declared.grammar.Alternative.{Alternative}
use Rattle.cv_property.specs.Table.{row}
use Rattle.cv_property.specs.Grammar.{alternative, basis_of, by_grammar, matching_property}

pub if_mapped : {A B : Type 0} (Q : B → Type 0) (f : A → B) (m : Matched A) → ((a : A) → Q (f a)) → IfFit Q (mapped f m)
if_mapped Q f No h = tt
if_mapped Q f Out h = tt
if_mapped Q f (Fit a) h = h a

pub if_made : {A B : Type 0} (P : A → Type 0) (Q : B → Type 0) (f : A → B) (m : Matched A) → IfFit P m → ((a : A) → P a → Q (f a)) → IfFit Q (mapped f m)
if_made P Q f No h k = tt
if_made P Q f Out h k = tt
if_made P Q f (Fit a) h k = k a h

if_else : {A : Type 0} (Q : A → Type 0) (m n : Matched A) → IfFit Q m → IfFit Q n → IfFit Q (or_else m n)
if_else Q No n h k = k
if_else Q Out n h k = tt
if_else Q (Fit a) n h k = h

pub if_deep : {A : Type 0} (Q : A → Type 0) (b : Bool) (m : Matched A) → IfFit Q m → IfFit Q (if b then No else m)
if_deep Q true m h = tt
if_deep Q false m h = h

pub fit_is : {A : Type 0} (Q : A → Type 0) (m : Matched A) (a : A) → m ≡ Fit a → IfFit Q m → Q a
fit_is Q m a is h = subst (IfFit Q) is h

-- it holds of the item of the value
abbrev pub OfItem : (Item → Type 0) → Typed → Type 0
OfItem Q (One i) = Q i
OfItem Q v = ⊥

module _ (Q : Item → Type 0) where
  if_grammar : (x : Context) (ts : List Token) (all : List Alternative) → Every (λ a. IfFit Q (alternative x ts a)) all → IfFit Q (by_grammar all x ts)
  if_grammar x ts [] h = tt
  if_grammar x ts (a ∷ all) (h, k) = if_else Q (alternative x ts a) (by_grammar all x ts) h (if_grammar x ts all k)

  -- the context in which the alternatives of a property are read
  pub if_matching : (p : Property) (x : Context) (ts : List Token) → Every (λ a. IfFit Q (alternative (with_basis (basis_of (row p).percentages x) x) ts a)) (row p).grammar → IfFit (OfItem Q) (matching_property p x ts)
  unfolding matching_property
  if_matching p x ts h =
      let y : Context = with_basis (basis_of (row p).percentages x) x in
      let found : Matched Item = by_grammar (row p).grammar y ts in
      if_deep (OfItem Q) (nat_lt 128 (depth ts)) (mapped One found) (if_made Q (OfItem Q) One found (if_grammar y ts (row p).grammar h) (λ i q. q))
