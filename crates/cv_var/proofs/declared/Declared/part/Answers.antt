use Rattle.std.proofs.Common.{◌≡◌, sym, ◌∙◌, ap, subst, map, Some, List, Option, None}
use Rattle.std.specs.Prelude.{All, slice_get, option_map, false}
use Rattle.std.specs.Rc.{rc_slice_items}
use Rattle.cv_spec_text.specs.Splits.{IsSpelt}
use Rattle.cv_spec_text.specs.declared.token.Token.{Token as CssToken}
use Rattle.cv_var.specs.Flat.{flat_token, flattened}
use Rattle.cv_var.specs.Places.{flat_at, AreParts}
use Rattle.cv_var.specs.References.{pieces_of, has_var}
use Rattle.cv_var.specs.declared.place.Place.{Place}
use Rattle.cv_var.proofs.Ends.{part-ends_within}
use Rattle.cv_var.proofs.Plain.{plain_part}
use Rattle.cv_var.proofs.declared.Declared.part.Goals as goal

kept : (tokens : List CssToken) (parts : Option (List Place)) (places : List Place) → parts ≡ Some places → AreParts tokens parts → map (flat_at tokens) places ≡ map Some (flattened (pieces_of tokens))
kept tokens None places is h = absurd cc
kept tokens (Some these) places is h = let same : these ≡ places = cc in subst (λ ps. map (flat_at tokens) ps ≡ map Some (flattened (pieces_of tokens))) same h.1

nothing : (tokens : List CssToken) (parts : Option (List Place)) → parts ≡ None → AreParts tokens parts → has_var tokens ≡ false
nothing tokens None is h = h
nothing tokens (Some places) is h = absurd cc

listed : goal.returns-in-Some-clause-part
listed c =
    let tokens = c.self.inside.list in
    let spell = kept tokens (option_map (λ parts. rc_slice_items parts) c.self.inside.parts) (rc_slice_items c.in-Some.parts) (ap (option_map (λ parts. rc_slice_items parts)) c.in-Some.is) c.self.invariant.1 in
    let here = subst (λ ts. map (flat_at ts) (rc_slice_items c.in-Some.parts) ≡ map Some (flattened (pieces_of tokens))) (sym c.tokens-tokens.ensures.tokens) spell in
    c.part_at.ensures.part (flattened (pieces_of tokens)) (subst (λ ps. map (flat_at c.tokens-tokens.result.now) ps ≡ map Some (flattened (pieces_of tokens))) (sym c.as_slice.ensures.value) here)
    ∙ ap (λ list. slice_get (flattened (pieces_of list)) c.args.number) c.self.view_is

plain : goal.returns-in-None-clause-part
plain c =
    let tokens = c.self.inside.list in
    let none = nothing tokens (option_map (λ parts. rc_slice_items parts) c.self.inside.parts) (ap (option_map (λ parts. rc_slice_items parts)) c.in-None.is) c.self.invariant.1 in
    c.lent.ensures.flat
    ∙ ap (λ list. option_map flat_token (slice_get list c.args.number)) c.tokens-tokens.ensures.tokens
    ∙ plain_part tokens none c.args.number
    ∙ ap (λ list. slice_get (flattened (pieces_of list)) c.args.number) c.self.view_is

pub returns-in-Some-clause-part : goal.returns-in-Some-clause-part
returns-in-Some-clause-part c = listed c

pub returns-in-Some-clause-within : goal.returns-in-Some-clause-within
returns-in-Some-clause-within c = part-ends_within (pieces_of c.args.self.now) c.args.number c.part_at.result (listed c)

pub returns-in-Some-clause-spelt : goal.returns-in-Some-clause-spelt
returns-in-Some-clause-spelt c = c.part_at.ensures.spelt (subst (All IsSpelt) (sym c.tokens-tokens.ensures.tokens) c.tokens-tokens.ensures.spelt)

pub returns-in-None-clause-part : goal.returns-in-None-clause-part
returns-in-None-clause-part c = plain c

pub returns-in-None-clause-within : goal.returns-in-None-clause-within
returns-in-None-clause-within c = part-ends_within (pieces_of c.args.self.now) c.args.number c.lent.result (plain c)

pub returns-in-None-clause-spelt : goal.returns-in-None-clause-spelt
returns-in-None-clause-spelt c = c.lent.ensures.spelt (subst (All IsSpelt) (sym c.tokens-tokens.ensures.tokens) c.tokens-tokens.ensures.spelt)
