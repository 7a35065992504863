-- Elements with their numbers.
use Rattle.std.proofs.Common.{◌≡◌, ℕ, ◌+◌, List, [], ◌∷◌, ◌++◌, length, ap, ◌∙◌, append-nil, arith}
use Rattle.std.specs.List.{enumerate_from, flat_map}
use Rattle.std.proofs.lemmas.Grind.{flat_map-append}
use Rattle.cv_component.specs.declared.sheet.Rule.{Rule}
use Rattle.cv_calc.specs.declared.context.Context.{Context}
use Rattle.cv_props.specs.Registration.{registration}
use Rattle.cv_props.specs.Sheets.{ignored, notes_on_rules}

-- one more element has the next number
pub enumerate_from-push : {X : Type 0} (n : ℕ) (xs : List X) (x : X) → enumerate_from n (xs ++ x ∷ []) ≡ enumerate_from n xs ++ (n + length xs, x) ∷ []
enumerate_from-push n [] x = let same : n ≡ n + 0 = omega arith in ap (λ k. (k, x) ∷ []) same
enumerate_from-push n (y ∷ xs) x =
    ap (λ l. (n, y) ∷ l) (enumerate_from-push (n + 1) xs x
    ∙ (let same : (n + 1) + length xs ≡ n + length (y ∷ xs) = omega arith in ap (λ k. enumerate_from (n + 1) xs ++ (k, x) ∷ []) same))

-- the notes once one more rule is read
pub notes_on_rules-push : (x : Context) (all : List Rule) (rule : Rule) → notes_on_rules x (all ++ rule ∷ []) ≡ notes_on_rules x all ++ ignored (length all) (registration x rule)
notes_on_rules-push x all rule =
    let note = λ (numbered : ℕ × Rule). ignored numbered.0 (registration x numbered.1) in
    ap (flat_map note) (enumerate_from-push 0 all rule)
    ∙ flat_map-append note (enumerate_from 0 all) ((0 + length all, rule) ∷ [])
    ∙ ap (λ l. notes_on_rules x all ++ l) (append-nil (note (0 + length all, rule)) ∙ (let same : 0 + length all ≡ length all = omega arith in ap (λ k. note (k, rule)) same))
