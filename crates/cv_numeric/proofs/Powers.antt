-- Powers that are passed to a function.
use Rattle.std.specs.Prelude.{Bool, ℤ, FitsSigned}
use Rattle.std.proofs.Common.{◌≡◌, ap, ◌∙◌, w64, to_z, of_z}
use Rattle.std.proofs.lemmas.Int.{to_z-of_z}
use Rattle.cv_calc.specs.Types.{if_equal}

pub passed : (result rest wanted : Bool) (a b : ℤ) → FitsSigned w64 a → FitsSigned w64 b → rest ≡ wanted → result ≡ if_equal (to_z w64 (of_z w64 a)) (to_z w64 (of_z w64 b)) rest → result ≡ if_equal a b wanted
passed result rest wanted a b e f g h =
    h ∙ ap (λ z. if_equal z (to_z w64 (of_z w64 b)) rest) (to_z-of_z w64 a e) ∙ ap (λ z. if_equal a z rest) (to_z-of_z w64 b f) ∙ ap (if_equal a b) g
