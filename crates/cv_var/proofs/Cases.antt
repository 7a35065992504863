-- A fact of an `if` follows from the fact of each of its arms.
use Rattle.std.proofs.Common.{◌≡◌, refl}
use Rattle.std.specs.Prelude.{Bool, true, false, if◌then◌else◌, Result, Ok, Err, IfOk}

pub if_case : {A : Type 0} (P : A → Type 0) (b : Bool) {x y : A} → (b ≡ true → P x) → (b ≡ false → P y) → P (if b then x else y)
if_case P true then_case else_case = then_case refl
if_case P false then_case else_case = else_case refl

-- what follows from a fact of what `Ok` holds is one of it
pub if_ok : {A E : Type 0} (P Q : A → Type 0) (result : Result A E) → ((x : A) → P x → Q x) → IfOk result P → IfOk result Q
if_ok P Q (Ok x) follows is = follows x is
if_ok P Q (Err e) follows is = is
