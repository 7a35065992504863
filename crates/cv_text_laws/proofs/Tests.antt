-- Steps by a test.
use Rattle.std.proofs.Common.{◌≡◌, refl}
use Rattle.std.specs.Prelude.{Bool, true, false, not, ◌&&◌, ◌||◌, if◌then◌else◌}

pub if_false : {A : Type 0} (b : Bool) (x y : A) → b ≡ false → (if b then x else y) ≡ y
if_false true x y fails = cc
if_false false x y fails = refl

pub if_true : {A : Type 0} (b : Bool) (x y : A) → b ≡ true → (if b then x else y) ≡ x
if_true true x y holds = refl
if_true false x y holds = cc

pub bool_cases : {A : Type 0} (b : Bool) → (b ≡ true → A) → (b ≡ false → A) → A
bool_cases true holds fails = holds refl
bool_cases false holds fails = fails refl

pub both : (a b : Bool) → (a && b) ≡ true → (a ≡ true) × (b ≡ true)
both true b holds = (refl, holds)
both false b holds = cc

pub neither : (a b : Bool) → (a || b) ≡ false → (a ≡ false) × (b ≡ false)
neither true b fails = cc
neither false b fails = (refl, fails)

-- a test has one answer
pub contrary : {A : Type 0} (a : Bool) → a ≡ true → a ≡ false → A
contrary true holds fails = cc
contrary false holds fails = cc

pub not_true : (a : Bool) → not a ≡ true → a ≡ false
not_true true holds = cc
not_true false holds = refl
