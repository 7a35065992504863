use Rattle.std.proofs.Common.{sym, ◌∙◌, ap, arith}
use Rattle.std.specs.Prelude.{fold}
use Rattle.cv_var.specs.Flat.{flat, flattened}
use Rattle.cv_var.specs.Names.{with_name, names_in, firsts}
use Rattle.cv_var.specs.References.{pieces_of}
use Rattle.cv_var.proofs.Naming.{names_read, none_past, drop_all, names_in-flattened}
use Rattle.cv_var.proofs.names.firsts.Goals as goal
use Rattle.cv_var.proofs.names.firsts.Goals.{in-Some+in_ok-add_name, in_default}

pub loop-number-preserved : goal.loop-number-preserved
loop-number-preserved c =
    elim c.match-part.branch [
      | in-Some+in_ok-add_name w ↦
          rw (w.names-is, w.in_ok-add_name.ensures)
          (sym (names_read (flattened (pieces_of c.args.declared.now)) c.loop-number.number (flat w.in-Some.part) c.loop-number.names.keys (sym w.in-Some.ensures.part)) ∙ c.loop-number.invariant)
      | in_default w ↦ absurd (omega (arith, none_past (flattened (pieces_of c.args.declared.now)) c.loop-number.number (sym w.in_default.ensures.part), c.loop-number-test.true, c.part_count-number-end.ensures))
    ]

pub returns : goal.returns
returns c =
    ap (λ ps. fold with_name c.loop-number.names.keys (names_in ps)) (sym (drop_all (flattened (pieces_of c.args.declared.now)) c.loop-number.number (omega (arith, c.loop-number-test.false, c.part_count-number-end.ensures))))
    ∙ c.loop-number.invariant
    ∙ ap firsts (names_in-flattened (pieces_of c.args.declared.now))
