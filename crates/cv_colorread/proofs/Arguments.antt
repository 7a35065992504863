-- The arguments between commas, by how many there are.
use Rattle.std.specs.Prelude.{List, [], ◌∷◌, length, map}
use Rattle.std.proofs.Common.{◌≡◌, ℕ, get_or, refl, arith, Bor}
use Rattle.cv_spec_text.specs.declared.token.Token.{Token}
use Rattle.cv_calc.specs.declared.context.Context.{Context}
use Rattle.cv_numeric.specs.Matched.{both}
use Rattle.cv_colorread.specs.Colors.{legacy, alike, alpha, with_alpha, without_alpha}

abbrev pub Entries : Type 0
Entries = List (Bor (List Token))

abbrev pub lists : Entries → List (List Token)
lists entries = map (λ entry. entry.now) entries

pub legacy_other : (x : Context) (entries : Entries) → (length entries ≡ 4 → ⊥) → legacy x (lists entries) ≡ without_alpha (alike x (lists entries))
legacy_other x [] other = refl
legacy_other x (r ∷ []) other = refl
legacy_other x (r ∷ g ∷ []) other = refl
legacy_other x (r ∷ g ∷ b ∷ []) other = refl
legacy_other x (r ∷ g ∷ b ∷ a ∷ []) other = absurd (other refl)
legacy_other x (r ∷ g ∷ b ∷ a ∷ e ∷ more) other = refl

pub legacy_four : (x : Context) (entries : Entries) (d : Bor (List Token)) → length entries ≡ 4 →
    legacy x (lists entries) ≡ both with_alpha (alike x ((get_or entries 0 d).now ∷ (get_or entries 1 d).now ∷ (get_or entries 2 d).now ∷ [])) (alpha x (get_or entries 3 d).now)
legacy_four x [] d four = absurd (omega (arith, four))
legacy_four x (r ∷ []) d four = absurd (omega (arith, four))
legacy_four x (r ∷ g ∷ []) d four = absurd (omega (arith, four))
legacy_four x (r ∷ g ∷ b ∷ []) d four = absurd (omega (arith, four))
legacy_four x (r ∷ g ∷ b ∷ a ∷ []) d four = refl
legacy_four x (r ∷ g ∷ b ∷ a ∷ e ∷ more) d four = absurd (omega (arith, four))
