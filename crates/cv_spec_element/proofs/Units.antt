-- Whether a list, an outcome or a declaration has a font unit can be told.
use Rattle.std.proofs.Common.{◌≡◌, Bool, true, false, List, [], ◌∷◌, Option, Some, None, ◌⊎◌, inl, inr, refl, sym, ◌∙◌, ap, subst}
use Rattle.cv_spec_element.specs.Pieces.{Pieces, finish, token, reference, reference_or}
use Rattle.cv_spec_element.specs.Keywords.{Keyword}
use Rattle.cv_spec_element.specs.Words.{Words, HasUnit}
use Rattle.cv_spec_element.specs.Element.{Outcome, Element}
use Rattle.cv_spec_element.specs.Dependencies.{DeclaresUnit, DeclaresKeyword, tokens_of, OutcomeHasUnit}

-- some font unit has the property, or none has
abbrev pub SomeFontUnit : {T U : Type 0} → Words T U → (U → Type 0) → Type 0
SomeFontUnit {T} {U} words P = (u : U) × (words.is_font_unit u ≡ true) × P u

abbrev pub NoFontUnit : {T U : Type 0} → Words T U → (U → Type 0) → Type 0
NoFontUnit {T} {U} words P = (u : U) → words.is_font_unit u ≡ true → ¬ P u

module _ {T U : Type 0} (words : Words T U) where
  unit_or_none : (o : Option U) → SomeFontUnit words (λ u. o ≡ Some u) ⊎ NoFontUnit words (λ u. o ≡ Some u)
  unit_or_none None = inr (λ u font is. cc)
  unit_or_none (Some u) = by_font (words.is_font_unit u) refl
    where
      by_font : (b : Bool) → words.is_font_unit u ≡ b → SomeFontUnit words (λ v. Some u ≡ Some v) ⊎ NoFontUnit words (λ v. Some u ≡ Some v)
      by_font true font = inl (u, font, refl)
      by_font false font = inr (λ v font_v is. let same : u ≡ v = cc in let clash : true ≡ false = sym font_v ∙ ap words.is_font_unit (sym same) ∙ font in cc)

  -- of one kind or the other
  either_or_none : (P Q : U → Type 0) → SomeFontUnit words P ⊎ NoFontUnit words P → SomeFontUnit words Q ⊎ NoFontUnit words Q → SomeFontUnit words (λ u. P u ⊎ Q u) ⊎ NoFontUnit words (λ u. P u ⊎ Q u)
  either_or_none P Q (inl some) second = inl (some.0, some.1, inl some.2)
  either_or_none P Q (inr none) (inl some) = inl (some.0, some.1, inr some.2)
  either_or_none P Q (inr none) (inr none_either) = inr (λ u font has. elim has [ inl first ↦ none u font first | inr second ↦ none_either u font second ])

  pub list_font_unit : (list : List T) → SomeFontUnit words (HasUnit words list) ⊎ NoFontUnit words (HasUnit words list)
  list_font_unit [] = inr (λ u font has. has)
  list_font_unit (t ∷ rest) = either_or_none (λ u. words.unit t ≡ Some u) (HasUnit words rest) (unit_or_none (words.unit t)) (list_font_unit rest)

  pub declared_font_unit : {K : Type 0} (pieces : Pieces K T) → SomeFontUnit words (DeclaresUnit words pieces) ⊎ NoFontUnit words (DeclaresUnit words pieces)
  declared_font_unit finish = inr (λ u font has. has)
  declared_font_unit (token t rest) = either_or_none (λ u. words.unit t ≡ Some u) (DeclaresUnit words rest) (unit_or_none (words.unit t)) (declared_font_unit rest)
  declared_font_unit (reference n rest) = declared_font_unit rest
  declared_font_unit (reference_or n fallback rest) = either_or_none (DeclaresUnit words fallback) (DeclaresUnit words rest) (declared_font_unit fallback) (declared_font_unit rest)

  pub declared_keyword : {K : Type 0} (pieces : Pieces K T) → DeclaresKeyword words pieces ⊎ (¬ DeclaresKeyword words pieces)
  declared_keyword finish = inr (λ has. has)
  declared_keyword (token t rest) =
      elim (declared_keyword rest) [
        | inl later ↦ inl (inr later)
        | inr none ↦ by_word (words.keyword t) refl none
      ]
    where
      by_word : (o : Option Keyword) → words.keyword t ≡ o → ¬ DeclaresKeyword words rest → (((w : Keyword) × (words.keyword t ≡ Some w)) ⊎ DeclaresKeyword words rest) ⊎ (¬ (((w : Keyword) × (words.keyword t ≡ Some w)) ⊎ DeclaresKeyword words rest))
      by_word None is none = inr (λ has. elim has [ inl here ↦ let clash : None ≡ Some here.0 = sym is ∙ here.1 in cc | inr later ↦ none later ])
      by_word (Some w) is none = inl (inl (w, is))
  declared_keyword (reference n rest) = declared_keyword rest
  declared_keyword (reference_or n fallback rest) =
      elim (declared_keyword fallback) [
        | inl within ↦ inl (inl within)
        | inr none_within ↦ elim (declared_keyword rest) [
          | inl later ↦ inl (inr later)
          | inr none ↦ inr (λ has. elim has [ inl within ↦ none_within within | inr later ↦ none later ])
        ]
      ]

module _ {K T V U M : Type 0} (e : Element K T V U M) where
  pub outcome_font_unit : (outcome : Outcome T V) → SomeFontUnit e.words (OutcomeHasUnit e outcome) ⊎ NoFontUnit e.words (OutcomeHasUnit e outcome)
  outcome_font_unit outcome = by_tokens (tokens_of e outcome) refl
    where
      by_tokens : (o : Option (List T)) → tokens_of e outcome ≡ o → SomeFontUnit e.words (OutcomeHasUnit e outcome) ⊎ NoFontUnit e.words (OutcomeHasUnit e outcome)
      by_tokens None is = inr (λ u font has. let clash : None ≡ Some has.0 = sym is ∙ has.1 in cc)
      by_tokens (Some list) is =
          elim (list_font_unit e.words list) [
            | inl some ↦ inl (some.0, some.1, (list, is, some.2))
            | inr none ↦ inr (λ u font has.
                let both : Some list ≡ Some has.0 = sym is ∙ has.1 in
                let same : has.0 ≡ list = cc in
                none u font (subst (λ l. HasUnit e.words l u) same has.2))
          ]
