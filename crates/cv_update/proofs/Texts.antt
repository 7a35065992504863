-- What the report writes of an outcome is text.
use Rattle.std.proofs.Common.{ℕ, zero, suc, List, [], ◌∷◌, refl, lit<}
use Rattle.std.specs.Prelude.{All, IsAscii, IsUtf8, codes}
use Rattle.std.proofs.lemmas.Str.{IsUtf8-append, IsUtf8-from_ascii, IsUtf8-nil}
use Rattle.cv_spec_text.specs.Characters.{space}
use Rattle.cv_spec_text.specs.Printing.{bytes, written}
use Rattle.cv_spec_text.specs.Splits.{IsSpelt}
use Rattle.cv_spec_text.specs.declared.token.Token.{Token}
use Rattle.cv_tokser.proofs.Kept.{kept-scalars, written-kept}
use Rattle.cv_tokser.proofs.Spelt.{are_well_formed}
use Rattle.cv_value.specs.Text.{typed_text}
use Rattle.cv_valuation.specs.declared.key.Key.{Key}
use Rattle.cv_valuation.specs.declared.outcome.Outcome.{Outcome}
use Rattle.cv_valuation.specs.declared.outcome.Outcome.TheVariants.{Tokens, Value, Invalid}
use Rattle.cv_valuation.specs.Valuations.{MayKeep, outcome_text, spaced}
use Rattle.cv_value_laws.specs.Keeping.{ValuesMayBeKept}

spelt_text : (list : List Token) → All IsSpelt list → IsUtf8 (bytes list)
spelt_text list spelt = (written list, (kept-scalars (written list) (written-kept list (are_well_formed list spelt)), refl))

spaced_text : (text : List ℕ) → IsUtf8 text → IsUtf8 (spaced text)
spaced_text [] is = IsUtf8-nil
spaced_text (byte ∷ text) is = IsUtf8-append (space ∷ []) (byte ∷ text) (IsUtf8-from_ascii (space ∷ []) one) is
  where
    one : IsAscii (space ∷ [])
    one zero = lit< tt
    one (suc i) = lit< tt

equals_text : IsUtf8 (codes "=")
equals_text = IsUtf8-from_ascii (codes "=") one
  where
    one : IsAscii (codes "=")
    one zero = lit< tt
    one (suc i) = lit< tt

invalid_text : IsUtf8 (codes "invalid")
invalid_text = IsUtf8-from_ascii (codes "invalid") each
  where
    each : IsAscii (codes "invalid")
    each zero = lit< tt
    each (suc zero) = lit< tt
    each (suc (suc zero)) = lit< tt
    each (suc (suc (suc zero))) = lit< tt
    each (suc (suc (suc (suc zero)))) = lit< tt
    each (suc (suc (suc (suc (suc zero))))) = lit< tt
    each (suc (suc (suc (suc (suc (suc zero)))))) = lit< tt
    each (suc (suc (suc (suc (suc (suc (suc i))))))) = lit< tt

pub written_text : ValuesMayBeKept → (key : Key) (outcome : Outcome) → MayKeep key outcome → IsUtf8 (outcome_text outcome)
written_text laws key (Tokens list) may = IsUtf8-append (codes "=") (spaced (bytes list)) equals_text (spaced_text (bytes list) (spelt_text list may.spelt))
written_text laws key (Value value) may = IsUtf8-append (codes "=") (spaced (bytes (typed_text value))) equals_text (spaced_text (bytes (typed_text value)) (spelt_text (typed_text value) (laws.spelt value may.1)))
written_text laws key Invalid may = invalid_text
