use Rattle.std.proofs.Common.{sym, ◌∙◌}
use Rattle.cv_color.proofs.Heads.{same_as, found, passed, words_behind}
use Rattle.cv_color.proofs.names.lookup.Goals as goal

pub returns-then-is_word : goal.returns-then-is_word
returns-then-is_word c =
    sym (found c.args.entries.now c.loop-entry.entry-index _ c.loop-entry-test.true c.args.name.now (same_as c.args.name.now _ c.is_word.result _ c.if-is_word.true c.is_word.ensures))
    ∙ c.loop-entry.invariant.same

pub loop-entry-preserved : goal.loop-entry-preserved
loop-entry-preserved c = record {
  same =
      passed c.args.entries.now c.loop-entry.entry-index _ c.loop-entry-test.true c.args.name.now (same_as c.args.name.now _ c.is_word.result _ c.if-is_word.false c.is_word.ensures)
      ∙ c.loop-entry.invariant.same;
  words = words_behind c.args.entries.now c.loop-entry.entry-index c.loop-entry-test.true c.loop-entry.invariant.words;
}
