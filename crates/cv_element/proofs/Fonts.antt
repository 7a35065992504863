-- The tests of lists and declarations tell whether they have a font unit.
use Rattle.std.proofs.Common.{◌≡◌, ℕ, Bool, true, false, not, List, [], ◌∷◌, ◌++◌, length, Option, Some, None, is_some, ◌⊎◌, ◌↔◌, inl, inr, refl, sym, ◌∙◌, ap, subst}
use Rattle.std.specs.Prelude.{◌&&◌, ◌||◌}
use Rattle.std.specs.List.{list_any}
use Rattle.std.proofs.lemmas.List.Folds.{list_any-append}
use Rattle.cv_spec_text.specs.declared.token.Token.{Token}
use Rattle.cv_calc.specs.declared.unit.Unit.{Unit as Measure}
use Rattle.cv_calc_laws.specs.Units.{HoldsUnit, token_unit, token_passes, passes_if}
use Rattle.cv_calc_laws.specs.Fonts.{is_font_unit, is_other_unit, holds_no_font_unit, FontUnitsAreTold}
use Rattle.cv_spec_element.specs.Keywords.{Keyword}
use Rattle.cv_spec_element.specs.Pieces.{Pieces, finish, token, reference, reference_or}
use Rattle.cv_spec_element.specs.Words.{Words, HasUnit}
use Rattle.cv_spec_element.specs.Dependencies.{DeclaresUnit, DeclaresKeyword}
use Rattle.cv_var.specs.Flat.{FlatPiece, flat_token, flat_reference, flattened}
use Rattle.cv_spec_valuation.specs.declared.place.Place.{Place}
use Rattle.cv_spec_valuation.specs.Element.{keyed, keyword, words_at}
use Rattle.std.specs.Prelude.{is_none}
use Rattle.cv_element.specs.Holding.{has_font, piece_has_font, piece_is_keyword}
use Rattle.cv_element.proofs.Lawful.{has_unit, holds_unit}

-- ---- tests

pub or_cases : (a b : Bool) → (a || b) ≡ true → (a ≡ true) ⊎ (b ≡ true)
or_cases true b is = inl refl
or_cases false b is = inr is

pub or_left : (a b : Bool) → a ≡ true → (a || b) ≡ true
or_left true b is = refl
or_left false b is = cc

pub or_right : (a b : Bool) → b ≡ true → (a || b) ≡ true
or_right true b is = refl
or_right false b is = is

pub and_cases : (a b : Bool) → (a && b) ≡ true → (a ≡ true) × (b ≡ true)
and_cases true b is = (refl, is)
and_cases false b is = cc

pub and_both : (a b : Bool) → a ≡ true → b ≡ true → (a && b) ≡ true
and_both true b first second = second
and_both false b first second = cc

not_true : (b : Bool) → not b ≡ true → b ≡ false
not_true true is = cc
not_true false is = refl

not_false : (b : Bool) → not b ≡ false → b ≡ true
not_false true is = refl
not_false false is = cc

false_not : (b : Bool) → b ≡ false → not b ≡ true
false_not true is = cc
false_not false is = refl

-- one test or the other
either : (a b : Bool) (P Q : Type 0) → (a ≡ true) ↔ P → (b ≡ true) ↔ Q → ((a || b) ≡ true) ↔ (P ⊎ Q)
either a b P Q first second = (
  (λ is. elim (or_cases a b is) [ inl one ↦ inl (first.0 one) | inr other ↦ inr (second.0 other) ]),
  (λ holds. elim holds [ inl one ↦ or_left a b (first.1 one) | inr other ↦ or_right a b (second.1 other) ]),
)

-- ---- lists

abbrev pub SomeFont : Place → (Measure → Type 0) → Type 0
SomeFont place P = (u : Measure) × (is_font_unit (is_none place.root) u ≡ true) × P u

either_font : (place : Place) (a b : Bool) (P Q : Measure → Type 0) → (a ≡ true) ↔ SomeFont place P → (b ≡ true) ↔ SomeFont place Q → ((a || b) ≡ true) ↔ SomeFont place (λ u. P u ⊎ Q u)
either_font place a b P Q first second = (
  (λ is. elim (or_cases a b is) [
    | inl one ↦ let some = first.0 one in (some.0, some.1, inl some.2)
    | inr other ↦ let some = second.0 other in (some.0, some.1, inr some.2)
  ]),
  (λ some. elim some.2 [
    | inl one ↦ or_left a b (first.1 (some.0, some.1, one))
    | inr other ↦ or_right a b (second.1 (some.0, some.1, other))
  ]),
)

module _ (fonts : FontUnitsAreTold) (place : Place) where
  abbrev root : Bool
  root = is_none place.root

  -- a token that doesn't pass has a font unit
  token_found : (o : Option Measure) → passes_if (is_other_unit root) o ≡ false → SomeFont place (λ u. o ≡ Some u)
  token_found None is = let clash : true ≡ false = is in absurd cc
  token_found (Some u) is = (u, not_false (is_font_unit root u) is, refl)

  found : (list : List Token) → holds_no_font_unit root list ≡ false → SomeFont place (HoldsUnit list)
  found [] is = let clash : true ≡ false = is in absurd cc
  found (t ∷ rest) is = by (found rest) (token_passes (is_other_unit root) t) refl is
    where
      by : (holds_no_font_unit root rest ≡ false → SomeFont place (HoldsUnit rest)) → (b : Bool) → token_passes (is_other_unit root) t ≡ b → (b && holds_no_font_unit root rest) ≡ false → SomeFont place (HoldsUnit (t ∷ rest))
      by later true passes is = let more = later is in (more.0, more.1, inr more.2)
      by later false fails is = let here = token_found (token_unit t) fails in (here.0, here.1, inl here.2)

  pub list_font : (list : List Token) → (has_font root list ≡ true) ↔ SomeFont place (HasUnit (words_at place) list)
  list_font list = (
    (λ is. let some = found list (not_true (holds_no_font_unit root list) is) in (some.0, some.1, has_unit place list some.0 some.2)),
    (λ some. by (holds_no_font_unit root list) refl some),
  )
    where
      by : (b : Bool) → holds_no_font_unit root list ≡ b → SomeFont place (HasUnit (words_at place) list) → has_font root list ≡ true
      by true none some = absurd (fonts.none root list none some.0 some.1 (holds_unit place list some.0 some.2))
      by false is some = false_not (holds_no_font_unit root list) is

  token_font : (t : Token) → (has_font root (t ∷ []) ≡ true) ↔ SomeFont place (λ u. token_unit t ≡ Some u)
  token_font t = (
    (λ is. let some = (list_font (t ∷ [])).0 is in (some.0, some.1, elim some.2 [ inl here ↦ here | inr none ↦ absurd none ])),
    (λ some. (list_font (t ∷ [])).1 (some.0, some.1, inl some.2)),
  )

  -- ---- declarations

  pub pieces_font : (pieces : Pieces (List ℕ) Token) → (list_any (piece_has_font root) (flattened pieces) ≡ true) ↔ SomeFont place (DeclaresUnit (words_at place) (keyed pieces))
  pieces_font finish = ((λ is. let clash : false ≡ true = is in absurd cc), (λ some. absurd some.2))
  pieces_font (token t rest) =
      either_font place (has_font root (t ∷ [])) (list_any (piece_has_font root) (flattened rest)) (λ u. token_unit t ≡ Some u) (DeclaresUnit (words_at place) (keyed rest)) (token_font t) (pieces_font rest)
  pieces_font (reference n rest) = pieces_font rest
  pieces_font (reference_or n fallback rest) =
      subst (λ b. (b ≡ true) ↔ SomeFont place (DeclaresUnit (words_at place) (keyed (reference_or n fallback rest)))) (sym (list_any-append (piece_has_font root) (flattened fallback) (flattened rest)))
      (either_font place (list_any (piece_has_font root) (flattened fallback)) (list_any (piece_has_font root) (flattened rest)) (DeclaresUnit (words_at place) (keyed fallback)) (DeclaresUnit (words_at place) (keyed rest)) (pieces_font fallback) (pieces_font rest))

  some_word : (o : Option Keyword) → (is_some o ≡ true) ↔ ((w : Keyword) × (o ≡ Some w))
  some_word None = ((λ is. let clash : false ≡ true = is in absurd cc), (λ some. let clash : None ≡ Some some.0 = some.1 in absurd cc))
  some_word (Some w) = ((λ is. (w, refl)), (λ some. refl))

  pub pieces_keyword : (pieces : Pieces (List ℕ) Token) → (list_any piece_is_keyword (flattened pieces) ≡ true) ↔ DeclaresKeyword (words_at place) (keyed pieces)
  pieces_keyword finish = ((λ is. let clash : false ≡ true = is in absurd cc), (λ none. absurd none))
  pieces_keyword (token t rest) =
      either (is_some (keyword t)) (list_any piece_is_keyword (flattened rest)) ((w : Keyword) × (keyword t ≡ Some w)) (DeclaresKeyword (words_at place) (keyed rest)) (some_word (keyword t)) (pieces_keyword rest)
  pieces_keyword (reference n rest) = pieces_keyword rest
  pieces_keyword (reference_or n fallback rest) =
      subst (λ b. (b ≡ true) ↔ DeclaresKeyword (words_at place) (keyed (reference_or n fallback rest))) (sym (list_any-append piece_is_keyword (flattened fallback) (flattened rest)))
      (either (list_any piece_is_keyword (flattened fallback)) (list_any piece_is_keyword (flattened rest)) (DeclaresKeyword (words_at place) (keyed fallback)) (DeclaresKeyword (words_at place) (keyed rest)) (pieces_keyword fallback) (pieces_keyword rest))
