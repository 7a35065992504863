-- What references stand for is loaded, one name after another.
use Rattle.std.proofs.Common.{◌≡◌, ◌≢◌, ℕ, ◌+◌, ◌<◌, Bool, true, false, List, [], length, get_or, Option, Some, ◌⊎◌, inl, inr, refl, sym, ◌∙◌, ap, arith}
use Rattle.std.specs.Prelude.{bytes_eq}
use Rattle.std.proofs.lemmas.Bool.{cases_eq}
use Rattle.std.proofs.lemmas.List.{get_or_default}
use Rattle.std.proofs.lemmas.Slice.Eq.{bytes_eq-Decides}
use Rattle.cv_spec_text.specs.declared.token.Token.{Token}

pub same_name : (a b : List ℕ) → (a ≡ b) ⊎ (a ≢ b)
same_name a b = by (bytes_eq a b) refl
  where
    by : (x : Bool) → bytes_eq a b ≡ x → (a ≡ b) ⊎ (a ≢ b)
    by true is = inl ((bytes_eq-Decides a b).0 is)
    by false is = inr (λ same. let clash : true ≡ false = sym ((bytes_eq-Decides a b).1 same) ∙ is in cc)

module _ (v v' value : List ℕ → Option (List Token)) (n : List ℕ) (here : v' n ≡ value n) (others : (other : List ℕ) → other ≢ n → v' other ≡ v other) where
  pub loaded-step : ((name : List ℕ) (list : List Token) → v name ≡ Some list → value name ≡ Some list) → (name : List ℕ) (list : List Token) → v' name ≡ Some list → value name ≡ Some list
  loaded-step old name list is =
      elim (same_name name n) [
        | inl same ↦ ap value same ∙ sym here ∙ ap v' (sym same) ∙ is
        | inr apart ↦ old name list (sym (others name apart) ∙ is)
      ]

  module _ (names : List (List ℕ)) (place : ℕ) (n_is : n ≡ get_or names place []) where
    pub here-step : ((i : ℕ) → i < place → v (get_or names i []) ≡ value (get_or names i [])) → (i : ℕ) → i < place + 1 → v' (get_or names i []) ≡ value (get_or names i [])
    here-step old i below =
        elim (same_name (get_or names i []) n) [
          | inl same ↦ ap v' same ∙ here ∙ ap value (sym same)
          | inr apart ↦ others (get_or names i []) apart ∙ elim (cases_eq i place) [
            | inl last ↦ absurd (apart (ap (λ j. get_or names j []) last ∙ sym n_is))
            | inr lower ↦ old i (omega (arith, below, lower))
          ]
        ]

    pub more-step : (first : List ℕ → Option (List Token)) → ((name : List ℕ) → (v name ≡ first name) ⊎ ((i : ℕ) × (i < place) × (get_or names i [] ≡ name))) → (name : List ℕ) → (v' name ≡ first name) ⊎ ((i : ℕ) × (i < place + 1) × (get_or names i [] ≡ name))
    more-step first old name =
        elim (same_name name n) [
          | inl same ↦ inr (place, omega arith, sym n_is ∙ sym same)
          | inr apart ↦ elim (old name) [
            | inl is ↦ inl (others name apart ∙ is)
            | inr among ↦ inr (among.0, omega (arith, among.1), among.2)
          ]
        ]

pub index_is : (names : List (List ℕ)) (i : ℕ) (name : List ℕ) → name ≡ get_or names i name → i < length names → name ≡ get_or names i []
index_is names i name is below = is ∙ get_or_default names i name [] below

-- what stands at a place of the list is what the list contains
pub at_place : (names : List (List ℕ)) (i : ℕ) (name : List ℕ) → i < length names → get_or names i [] ≡ name → get_or names i name ≡ name
at_place names i name below is = get_or_default names i name [] below ∙ is

pub in_place : (names : List (List ℕ)) (i : ℕ) (name : List ℕ) → i < length names → get_or names i name ≡ name → get_or names i [] ≡ name
in_place names i name below is = get_or_default names i [] name below ∙ is
