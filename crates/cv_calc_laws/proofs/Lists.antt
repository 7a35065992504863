-- Facts of each item of a list, and of options.
use Rattle.std.specs.Prelude.{Bool, true, false, ◌&&◌, List, [], ◌∷◌, Option, Some, None, ◌⊎◌}
use Rattle.std.proofs.Common.{◌≡◌, refl}
use Rattle.std.specs.Option.{option_and_then}

-- each item has the property
abbrev pub Every : {A : Type 0} → (A → Type 0) → List A → Type 0
Every P [] = Unit {0}
Every P (a ∷ rest) = P a × Every P rest

-- one item has the second property, and each other has the first
abbrev pub AllButOne : {A : Type 0} → (A → Type 0) → (A → Type 0) → List A → Type 0
AllButOne P Q [] = ⊥
AllButOne P Q (a ∷ rest) = (P a × AllButOne P Q rest) ⊎ (Q a × Every P rest)

pub none_some : {A : Type 0} (a : A) → ◌≡◌ {A = Option A} None (Some a) → ⊥
none_some a e = cc

pub some_same : {A : Type 0} (a b : A) → ◌≡◌ {A = Option A} (Some a) (Some b) → a ≡ b
some_same a b e = cc

pub false_true : ◌≡◌ {A = Bool} false true → ⊥
false_true e = cc

pub and_both : (b d : Bool) → (b && d) ≡ true → (b ≡ true) × (d ≡ true)
and_both true d e = (refl, e)
and_both false d e = absurd (false_true e)

-- what comes before, where there is a result
pub from_bound : {A B : Type 0} (f : A → Option B) (o : Option A) (b : B) → option_and_then f o ≡ Some b → (a : A) × (o ≡ Some a) × (f a ≡ Some b)
from_bound f None b e = absurd (none_some b e)
from_bound f (Some a) b e = (a, refl, e)

pub both_are : (b d : Bool) → b ≡ true → d ≡ true → (b && d) ≡ true
both_are b d e f = rw (e, f) refl
