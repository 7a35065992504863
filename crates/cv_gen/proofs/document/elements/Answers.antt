use Rattle.std.proofs.Common.{arith}
use Rattle.std.proofs.lemmas.List.FromFn.{map-range_with_len_more}
use Rattle.cv_gen.specs.Generated.{element_of}
use Rattle.cv_gen.proofs.document.elements.Goals as goal

pub loop-index-preserved : goal.loop-index-preserved
loop-index-preserved c =
    let i = c.loop-index.index in
    let more = map-range_with_len_more element_of 0 i i (omega arith) in
    let made = c.in_ok-element.ensures in
    cc (more, made, c.loop-index.invariant, c.in_ok-push.ensures.items)
