use Rattle.std.proofs.Common.{◌++◌, length, length-append, sym, ◌∙◌, ap, Err, arith}
use Rattle.std.proofs.lemmas.Option.{slice_get_within}
use Rattle.cv_var.specs.Flat.{flat, flattened}
use Rattle.cv_var.specs.References.{pieces_of}
use Rattle.cv_subst.specs.Values.{value_in}
use Rattle.cv_subst.proofs.Joining.{sub-flat, stepped, missed, done}
use Rattle.cv_subst.proofs.walk.length_of.Goals as goal

pub overflow_add-number : goal.overflow_add-number
overflow_add-number c =
    let here = slice_get_within (flattened (pieces_of c.args.declared.now)) c.parts.number (flat c.in-Some.part) (sym c.in-Some.ensures.part) in
    let ahead = c.in-Ok.ensures.within (length (flattened (pieces_of c.args.declared.now))) c.parts.number c.in-Some.ensures.within here in
    omega (arith, ahead, c.part.ensures.fits)

pub overflow_add-number-in-Ok : goal.overflow_add-number-in-Ok
overflow_add-number-in-Ok c =
    let here = slice_get_within (flattened (pieces_of c.args.declared.now)) c.parts.number (flat c.in-Some.part) (sym c.in-Some.ensures.part) in
    let ahead = c.in-Ok.ensures.within (length (flattened (pieces_of c.args.declared.now))) c.parts.number c.in-Some.ensures.within here in
    omega (arith, ahead, c.part.ensures.fits)

pub parts-smaller : goal.parts-smaller
parts-smaller c =
    let here = slice_get_within (flattened (pieces_of c.args.declared.now)) c.parts.number (flat c.in-Some.part) (sym c.in-Some.ensures.part) in
    omega (arith, here)

pub parts-preserved : goal.parts-preserved
parts-preserved c =
    let here = slice_get_within (flattened (pieces_of c.args.declared.now)) c.parts.number (flat c.in-Some.part) (sym c.in-Some.ensures.part) in
    let ahead = c.in-Ok.ensures.within (length (flattened (pieces_of c.args.declared.now))) c.parts.number c.in-Some.ensures.within here in
    let now = c.parts.invariant.front in
    record {
      within = omega (arith, ahead);
      bound = omega (arith, c.parts.invariant.bound, c.count.ensures.count, c.count.ensures.fits);
      front = (
        now.0 ++ c.in-Ok.tokens.now,
        omega (arith, now.1, c.count.ensures.count, length-append now.0 c.in-Ok.tokens.now),
        stepped (value_in c.args.values.now) (flattened (pieces_of c.args.declared.now)) c.parts.number c.in-Ok.skip (flat c.in-Some.part) now.0 c.in-Ok.tokens.now now.2 (sym c.in-Some.ensures.part) c.in-Ok.ensures.ok,
      );
    }

pub returns-in-Err-clause-err : goal.returns-in-Err-clause-err
returns-in-Err-clause-err c =
    let now = c.parts.invariant.front in
    sub-flat (value_in c.args.values.now) (pieces_of c.args.declared.now)
    ∙ missed (value_in c.args.values.now) (flattened (pieces_of c.args.declared.now)) c.parts.number (flat c.in-Some.part) now.0 c.in-Err.name.now now.2 (sym c.in-Some.ensures.part) c.in-Err.ensures.err
    ∙ ap Err (sym c.in_ok-copy-in-Err.ensures)

pub returns-clause-ok : goal.returns-clause-ok
returns-clause-ok c =
    let now = c.parts.invariant.front in (
      now.0,
      sub-flat (value_in c.args.values.now) (pieces_of c.args.declared.now)
          ∙ done (value_in c.args.values.now) (flattened (pieces_of c.args.declared.now)) c.parts.number now.0 now.2 c.in_default.ensures.part,
      now.1,
    )
