-- What is made of the text of a keyword.
use Rattle.std.proofs.Common.{◌≡◌, ℕ, List, ◌∙◌, Result, Ok, Err}
use Rattle.std.specs.Prelude.{IfOk, IsAscii, chars}
use Rattle.std.proofs.lemmas.Str.{chars-IsAscii}

pub made : {E : Type 0} (r : Result (List ℕ) E) (text word : List ℕ) → text ≡ word → IsAscii text → IfOk r (λ name. name ≡ chars text) → IfOk r (λ name. name ≡ word)
made (Ok name) text word same ascii is = is ∙ chars-IsAscii text ascii ∙ same
made (Err e) text word same ascii is = is
