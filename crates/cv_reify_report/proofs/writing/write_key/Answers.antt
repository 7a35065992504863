use Rattle.std.proofs.Common.{subst, Option}
use Rattle.std.specs.Io.KnownBytes.{Appends}
use Rattle.cv_props.specs.declared.decls.Decl.{Decl}
use Rattle.cv_props.specs.Winners.{declaration_of}
use Rattle.cv_reify_report.specs.Report.{declared_lines}
use Rattle.cv_reify_report.proofs.Took.{TookText-behind}
use Rattle.cv_reify_report.proofs.writing.write_key.Goals as goal

pub returns-clause-taken : goal.returns-clause-taken
returns-clause-taken g c =
    TookText-behind (g.O.Sink.taken c.args.out.now) (g.O.Sink.taken c.write_declared.new.out) (g.O.Sink.taken c.write_computed.new.out) (declared_lines c.args.element c.args.key.now (declaration_of c.args.declared.now c.args.key.now)) _ c.write_computed.result
    (subst (λ (d : Option Decl). Appends (g.O.Sink.taken c.args.out.now) (g.O.Sink.taken c.write_declared.new.out) (declared_lines c.args.element c.args.key.now d)) c.get.ensures c.in-Ok.ensures.taken.whole)
    c.write_computed.ensures.taken
