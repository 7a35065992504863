use Rattle.std.proofs.Common.{length, sym, ◌∙◌, ap, subst, Err, arith}
use Rattle.std.specs.Prelude.{All}
use Rattle.std.proofs.lemmas.Option.{slice_get_within}
use Rattle.std.proofs.lemmas.List.Elements.{All-append}
use Rattle.cv_spec_text.specs.Splits.{IsSpelt}
use Rattle.cv_var.specs.Flat.{flat, flattened}
use Rattle.cv_var.specs.References.{pieces_of}
use Rattle.cv_subst.specs.Values.{value_in}
use Rattle.cv_subst.proofs.Joining.{sub-flat, stepped, missed, done}
use Rattle.cv_subst.proofs.walk.tokens_of.Goals as goal

pub overflow_add-number : goal.overflow_add-number
overflow_add-number c =
    let here = slice_get_within (flattened (pieces_of c.args.declared.now)) c.parts.number (flat c.in-Some.part) (sym c.in-Some.ensures.part) in
    let ahead = c.in-Ok.ensures.within (length (flattened (pieces_of c.args.declared.now))) c.parts.number c.in-Some.ensures.within here in
    omega (arith, ahead, c.part.ensures.fits)

pub overflow_add-number-in-Ok : goal.overflow_add-number-in-Ok
overflow_add-number-in-Ok c =
    let here = slice_get_within (flattened (pieces_of c.args.declared.now)) c.parts.number (flat c.in-Some.part) (sym c.in-Some.ensures.part) in
    let ahead = c.in-Ok.ensures.within (length (flattened (pieces_of c.args.declared.now))) c.parts.number c.in-Some.ensures.within here in
    omega (arith, ahead, c.part.ensures.fits)

pub parts-smaller : goal.parts-smaller
parts-smaller c =
    let here = slice_get_within (flattened (pieces_of c.args.declared.now)) c.parts.number (flat c.in-Some.part) (sym c.in-Some.ensures.part) in
    omega (arith, here)

pub parts-preserved : goal.parts-preserved
parts-preserved c =
    let here = slice_get_within (flattened (pieces_of c.args.declared.now)) c.parts.number (flat c.in-Some.part) (sym c.in-Some.ensures.part) in
    let ahead = c.in-Ok.ensures.within (length (flattened (pieces_of c.args.declared.now))) c.parts.number c.in-Some.ensures.within here in
    record {
      within = omega (arith, ahead);
      spelt = subst (All IsSpelt) (sym c.in_ok-push_tokens-in-Ok.ensures) (All-append IsSpelt c.parts.all.items c.in-Ok.tokens.now c.parts.invariant.spelt (c.in-Ok.ensures.spelt c.in-Some.ensures.spelt));
      front =
          rw c.in_ok-push_tokens-in-Ok.ensures
          (stepped (value_in c.args.values.now) (flattened (pieces_of c.args.declared.now)) c.parts.number c.in-Ok.skip (flat c.in-Some.part) c.parts.all.items c.in-Ok.tokens.now c.parts.invariant.front (sym c.in-Some.ensures.part) c.in-Ok.ensures.ok);
    }

pub returns-in-Err-clause-err : goal.returns-in-Err-clause-err
returns-in-Err-clause-err c =
    sub-flat (value_in c.args.values.now) (pieces_of c.args.declared.now)
    ∙ missed (value_in c.args.values.now) (flattened (pieces_of c.args.declared.now)) c.parts.number (flat c.in-Some.part) c.parts.all.items c.in-Err.name.now c.parts.invariant.front (sym c.in-Some.ensures.part) c.in-Err.ensures.err
    ∙ ap Err (sym c.in_ok-copy-in-Err.ensures)

pub returns-clause-ok : goal.returns-clause-ok
returns-clause-ok c =
    sub-flat (value_in c.args.values.now) (pieces_of c.args.declared.now)
    ∙ done (value_in c.args.values.now) (flattened (pieces_of c.args.declared.now)) c.parts.number c.parts.all.items c.parts.invariant.front c.in_default.ensures.part
