-- Outcomes and causes as the equations read them, and back.
use Rattle.std.proofs.Common.{◌≡◌, ℕ, List, Option, Some, None, Result, Ok, Err, refl, sym, ◌∙◌, ap}
use Rattle.cv_spec_text.specs.declared.token.Token.{Token}
use Rattle.cv_value.specs.declared.typed.Typed.{Typed}
use Rattle.cv_spec_element.specs.Pieces.{Pieces, sub}
use Rattle.cv_spec_element.specs.Element.{Outcome, tokens, typed, invalid}
use Rattle.cv_spec_element.specs.Dependencies.{tokens_of}
use Rattle.cv_spec_element.specs.Valuation.{Cause, cycle, missing, limit, mismatch, IsInvalid}
use Rattle.cv_var.specs.References.{pieces_of}
use Rattle.cv_valuation.specs.declared.computed.Cause.{Cause as Reported}
use Rattle.cv_valuation.specs.declared.computed.Cause.TheVariants as reported
use Rattle.cv_valuation.specs.declared.key.Key.{Key}
use Rattle.cv_valuation.specs.declared.key.Key.TheVariants.{Custom}
use Rattle.cv_valuation.specs.declared.outcome.Outcome.{Outcome as Kept}
use Rattle.cv_valuation.specs.declared.outcome.Outcome.TheVariants as kept
use Rattle.cv_valuation.specs.Valuations.{Values}
use Rattle.cv_props.specs.declared.decls.Decl.{Decl}
use Rattle.cv_props.specs.Registered.{Registered}
use Rattle.cv_props.specs.Winners.{Declarations, declaration_of}
use Rattle.cv_spec_valuation.specs.declared.place.Place.{Place}
use Rattle.cv_spec_valuation.specs.Registered.{as_read}
use Rattle.cv_spec_valuation.specs.Element.{keyed, pieces_in, the_element}
use Rattle.cv_spec_valuation.specs.Computed.{cause_of}
use Rattle.cv_element.specs.Values.{AnElement}
use Rattle.cv_element.proofs.Keying.{with_key, sub-keyed}

-- ---- outcomes

abbrev pub kept_as : Outcome Token Typed → Kept
kept_as (tokens list) = kept.Tokens list
kept_as (typed value) = kept.Value value
kept_as invalid = kept.Invalid

pub kept_as_read : (o : Outcome Token Typed) → as_read (kept_as o) ≡ o
kept_as_read (tokens list) = refl
kept_as_read (typed value) = refl
kept_as_read invalid = refl

read_back : (o : Kept) → kept_as (as_read o) ≡ o
read_back (kept.Tokens list) = refl
read_back (kept.Value value) = refl
read_back kept.Invalid = refl

pub as_read-injective : (a b : Kept) → as_read a ≡ as_read b → a ≡ b
as_read-injective a b same = sym (read_back a) ∙ ap kept_as same ∙ read_back b

-- ---- causes

-- the pieces of a declaration come from one
pub pieces_in-some : (o : Option Decl) (pieces : Pieces Key Token) → pieces_in o ≡ Some pieces → (d : Decl) × (o ≡ Some d) × (keyed (pieces_of d.value) ≡ pieces)
pieces_in-some None pieces is = absurd (let clash : None ≡ Some pieces = is in cc)
pieces_in-some (Some d) pieces is = (d, refl, let both : Some (keyed (pieces_of d.value)) ≡ Some pieces = is in cc)

-- a key that is missing is a name of a custom property
missing_name : (outcome : Result (List Token) (List ℕ)) (key : Key) → with_key outcome ≡ Err key → (name : List ℕ) × (Custom name ≡ key)
missing_name (Ok list) key is = absurd (let clash : Ok list ≡ Err key = is in cc)
missing_name (Err name) key is = (name, let both : Err (Custom name) ≡ Err key = is in cc)

module _ (registered : Registered) (decls : Declarations) (parent : Option Values) (place : Place) (most : ℕ) (values : Key → Outcome Token Typed) where
  abbrev e : AnElement
  e = the_element registered decls parent place most

  -- each cause is one that the report has
  pub reported_cause : (p : Key) (cause : Cause Key) → IsInvalid e values p cause → (told : Reported) × (cause_of told ≡ cause)
  reported_cause p cycle is = (reported.Cycle, refl)
  reported_cause p (missing key) is =
      let declared = pieces_in-some (declaration_of decls p) is.1.0 is.1.1 in
      let value : Key → Option (List Token) = λ q. tokens_of e (values q) in
      let named = missing_name (sub (λ name. value (Custom name)) (pieces_of declared.0.value)) key (sym (sub-keyed value (pieces_of declared.0.value)) ∙ ap (sub value) declared.2 ∙ is.1.2) in
      (reported.Missing named.0, ap missing named.1)
  reported_cause p (limit count) is = (reported.Limit count, refl)
  reported_cause p mismatch is = (reported.Mismatch, refl)
