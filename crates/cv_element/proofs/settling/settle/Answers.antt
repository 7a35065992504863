use Rattle.std.proofs.Common.{◌≡◌, false, ◌⊎◌, sym, ◌∙◌, ap, subst}
use Rattle.std.specs.Option.{option_copied}
use Rattle.cv_spec_element.specs.Pieces.{RefersTo}
use Rattle.cv_subst.specs.Values.{value_in}
use Rattle.cv_var.specs.References.{pieces_of}
use Rattle.cv_valuation.specs.Valuations.{with_outcome}
use Rattle.cv_element.specs.Settling.{value_for, faults_after, range_after, IsLoaded}
use Rattle.cv_element.proofs.Keeping.{answers_plain}
use Rattle.cv_element.proofs.settling.settle.Goals as goal

pub judge_answer-requires-clause-plain : goal.judge_answer-requires-clause-plain
judge_answer-requires-clause-plain c =
    answers_plain c.values_are_taken.ensures c.args.registry.now c.args.settling.now.values c.requires.stand (pieces_of c.args.declared.now) c.tokens.ensures.plain _ _ _ c.in_ok-answer.answer c.in_ok-answer.ensures.answer

pub returns-clause-settles : goal.returns-clause-settles
returns-clause-settles c =
    let verdict = c.in_ok-verdict.ensures.verdict in
    record {
      checked = c.tokens.ensures.checked;
      loaded = subst (λ r. IsLoaded r c.args.settling.now.values) (sym c.in_ok-keep.ensures.runs) c.in_ok-answer.ensures.loaded;
      more = λ other. subst (λ r. (value_in r other ≡ value_in c.args.settling.now.runs other) ⊎ ((c.args.is_cyclic ≡ false) × RefersTo (pieces_of c.args.declared.now) other)) (sym c.in_ok-keep.ensures.runs) (c.in_ok-answer.ensures.more other);
      answer = c.in_ok-answer.answer;
      is_answer = c.in_ok-answer.ensures.answer;
      values = c.in_ok-keep.ensures.values ∙ ap (λ v. with_outcome c.args.settling.now.values c.args.key.now (value_for c.args.registry.now (option_copied c.args.parent) c.args.key.now v)) verdict;
      faults = c.in_ok-keep.ensures.faults ∙ ap (faults_after c.args.settling.now.faults c.args.key.now) verdict;
      range = c.in_ok-keep.ensures.range ∙ ap (range_after c.args.settling.now.range c.args.key.now) verdict;
    }
