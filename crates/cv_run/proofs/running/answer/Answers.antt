use Rattle.std.proofs.Common.{ap, Err}
use Rattle.cv_words.specs.Words.{texts_of}
use Rattle.cv_run.specs.Telling.{text_of}
use Rattle.cv_run.proofs.Ending.{ends_early_as, ends_refused, ends_wanting, writes_as}
use Rattle.cv_run.proofs.running.answer.Goals as goal

pub returns-in-Err : goal.returns-in-Err
returns-in-Err g c =
    ends_early_as (texts_of c.args.words.now) c.in-Ok.read c.in-Ok.ensures.read (c.words_say_one_thing.ensures.single (texts_of c.args.words.now)) (g.S.Source.left c.args.src.now) _ (g.S.Source.left c.prepare.new.src) (g.O.Sink.taken c.args.out.now) _ c.in-Err.status
    c.in-Err.ensures.early c.in-Err.ensures.refused c.in-Err.ensures.ungenerated c.in-Err.ensures.parts c.in-Err.ensures.read_before c.in-Err.ensures.unread

pub returns-in-Err-Refused : goal.returns-in-Err-Refused
returns-in-Err-Refused g c =
    ends_refused (texts_of c.args.words.now) (g.S.Source.left c.args.src.now) _ (g.O.Sink.taken c.args.out.now) _ (c.in-Err-Refused.ensures.refused (ap Err c.in-Err-Refused.field-0-is))

pub returns-in-Err-Memory : goal.returns-in-Err-Memory
returns-in-Err-Memory g c = ends_wanting (texts_of c.args.words.now) (g.S.Source.left c.args.src.now) _ (g.O.Sink.taken c.args.out.now) _

pub returns-in-Ok-prepare : goal.returns-in-Ok-prepare
returns-in-Ok-prepare g c =
    writes_as (texts_of c.args.words.now) c.in-Ok.read c.in-Ok.ensures.read (c.words_say_one_thing.ensures.single (texts_of c.args.words.now)) (g.S.Source.left c.args.src.now) _
    (text_of c.in-Ok-prepare.writing) c.in-Ok-prepare.ensures.tells c.in-Ok-prepare.ensures.generated
    (g.S.Source.left c.prepare.new.src) (g.O.Sink.taken c.args.out.now) (g.O.Sink.taken c.write.new.out) _ c.write.result
    c.in-Ok-prepare.ensures.read_whole c.in-Ok-prepare.ensures.unread
    c.write.ensures.done c.write.ensures.cut_short c.write.ensures.no_memory c.write.ensures.write_fault c.write.ensures.others
