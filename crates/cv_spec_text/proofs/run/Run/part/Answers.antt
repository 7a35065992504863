use Rattle.std.proofs.Common.{◌≤◌, ◌+◌, List, subst, sym, ◌∙◌, ap, length, arith}
use Rattle.std.specs.Prelude.{All}
use Rattle.std.specs.Rc.{rc_slice_items}
use Rattle.cv_spec_text.specs.declared.token.Token.{Token}
use Rattle.cv_spec_text.specs.Splits.{IsSpelt}
use Rattle.cv_spec_text.specs.Stretch.{stretch}
use Rattle.cv_spec_text.proofs.Stretches.{length-stretch, stretch-stretch}
use Rattle.cv_spec_text.proofs.run.Run.part.Goals as goal

pub invariant_of-result : goal.invariant_of-result
invariant_of-result c =
    let size = length-stretch (rc_slice_items c.self.inside.shared) c.self.inside.from c.self.inside.to c.self.invariant.1 c.self.invariant.2 in
    let view = ap length c.self.view_is in (
      subst (λ (tokens : List Token). All IsSpelt tokens) (sym c.in_ok-clone.ensures.cases) c.self.invariant.0,
      omega (arith, c.requires.ordered),
      omega (arith, c.requires.within, size, view, ap length c.in_ok-clone.ensures.cases, c.self.invariant.1, c.self.invariant.2),
    )

pub returns : goal.returns
returns c =
    let items = rc_slice_items c.self.inside.shared in
    ap (λ tokens. stretch tokens (c.self.inside.from + c.args.start) (c.self.inside.from + c.args.end)) c.in_ok-clone.ensures.cases
    ∙ sym (stretch-stretch items c.self.inside.from c.self.inside.to c.args.start c.args.end c.self.invariant.1 c.self.invariant.2 c.requires.ordered (subst (λ (tokens : List Token). c.args.end ≤ length tokens) (sym c.self.view_is) c.requires.within))
    ∙ ap (λ tokens. stretch tokens c.args.start c.args.end) c.self.view_is
