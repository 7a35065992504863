-- The small element meets the premises, and its typed name depends on the font size.
use Rattle.std.proofs.Common.{◌≡◌, ℕ, true, List, [], ◌∷◌, Some, inl, inr, refl, subst, arith}
use Rattle.std.specs.Prelude.{IsSome, Contains}
use Rattle.std.specs.Bool.{Decides}
use Rattle.cv_spec_element.specs.Pieces.{Pieces, finish, token, reference, RefersTo}
use Rattle.cv_spec_element.specs.Words.{HasUnit}
use Rattle.cv_spec_element.specs.Dependencies.{declares, Refers, Edge}
use Rattle.cv_spec_element.specs.Premises.{IsKept, IsPlainValue, IsLawful}
use Rattle.cv_spec_element.specs.Small.{SmallName, size, length, loose, SmallToken, px, em, SmallUnit, absolute, relative, same_name, small_declaration, read_length, first_value, small_element}

same_decides : (p q : SmallName) → Decides (same_name p q) (p ≡ q)
same_decides size size = ((λ _. refl), (λ _. refl))
same_decides length length = ((λ _. refl), (λ _. refl))
same_decides loose loose = ((λ _. refl), (λ _. refl))
same_decides size length = ((λ h. cc), (λ h. cc))
same_decides size loose = ((λ h. cc), (λ h. cc))
same_decides length size = ((λ h. cc), (λ h. cc))
same_decides length loose = ((λ h. cc), (λ h. cc))
same_decides loose size = ((λ h. cc), (λ h. cc))
same_decides loose length = ((λ h. cc), (λ h. cc))

listed : (p : SmallName) → IsSome (small_declaration p) → Contains (length ∷ loose ∷ []) p
listed size declared = absurd (cc)
listed length declared = (0, omega arith, refl)
listed loose declared = (1, omega arith, refl)

refers_custom : (p q : SmallName) → Refers small_element p q → small_element.properties.is_custom q ≡ true
refers_custom p size refers = absurd (by_name p refers.0 refers.1 refers.2)
  where
    by_name : (p : SmallName) (pieces : Pieces SmallName SmallToken) → small_declaration p ≡ Some pieces → RefersTo pieces size → ⊥
    by_name size pieces is to = cc
    by_name length pieces is to =
        let same : pieces ≡ reference loose finish = cc in
        elim (subst (λ x. RefersTo x size) same to) [ inl here ↦ (let clash : loose ≡ size = here in cc) | inr later ↦ later ]
    by_name loose pieces is to =
        let same : pieces ≡ token (em 2) finish = cc in
        subst (λ x. RefersTo x size) same to
refers_custom p length refers = refl
refers_custom p loose refers = refl

plain : (value : ℕ) → IsPlainValue small_element value
plain value = record {
  no_keyword = refl;
  no_font_unit = λ u font has. by_unit u font has;
}
  where
    by_unit : (u : SmallUnit) → small_element.words.is_font_unit u ≡ true → HasUnit small_element.words (px value ∷ []) u → ⊥
    by_unit absolute font has = cc
    by_unit relative font (inl here) = cc
    by_unit relative font (inr later) = later

kept : (p : SmallName) → IsKept small_element p (first_value p)
kept size = (refl, λ custom. plain 16)
kept length = (refl, λ custom. plain 0)
kept loose = refl

reads_alike : (m n : ℕ) (list : List SmallToken) → ((u : SmallUnit) → small_element.words.is_font_unit u ≡ true → ¬ HasUnit small_element.words list u) → read_length m list ≡ read_length n list
reads_alike m n [] none = refl
reads_alike m n (px k ∷ []) none = refl
reads_alike m n (em k ∷ []) none = absurd (none relative refl (inl refl))
reads_alike m n (t ∷ second ∷ rest) none = refl

pub small_lawful : IsLawful small_element
small_lawful = record {
  named = record { same = same_decides; listed = listed; refers_custom = refers_custom };
  inherited = record { initial_kept = kept; parent_kept = λ p value is. absurd (cc) };
  matching = record {
    plain_value = λ p m list value firm custom is. plain value;
    reads_alike = λ p m n list firm custom none. reads_alike m n list none;
    reads_plain = λ p m n list firm custom short. absurd (cc);
  };
}

-- the unit of the loose name is held by the typed one
pub small_edge : Edge small_element length size
small_edge = inr (
  refl,
  record {
    declared = refl;
    is_typed = refl;
    custom = refl;
    has_lengths = refl;
    unit = relative;
    relative = refl;
    held = inr (loose, ([], ((reference loose finish, refl, inl refl), refl)), declares (token (em 2) finish) refl (inl refl));
  },
)
