use Rattle.std.proofs.Common.{[], ap, ◌∙◌, arith}
use Rattle.std.specs.Option.{option_copied}
use Rattle.cv_element.specs.Holding.{lends_font}
use Rattle.cv_element.proofs.Loading.{index_is}
use Rattle.cv_element.proofs.Looping.{any_next, any_end}
use Rattle.cv_element.proofs.held.some_lends.Goals as goal

pub loop-place-preserved : goal.loop-place-preserved
loop-place-preserved c =
    any_next (lends_font c.args.root c.args.registry.now c.args.decls.now (option_copied c.args.parent)) c.args.names.now c.loop-place.place [] (omega arith) c.loop-place.has c.in_ok-lends.lends c.either-has.result c.loop-place.invariant
    (c.in_ok-lends.ensures ∙ ap (lends_font c.args.root c.args.registry.now c.args.decls.now (option_copied c.args.parent)) (index_is c.args.names.now c.loop-place.place c.index-names-place.result c.index-names-place.is (omega arith)))
    c.either-has.ensures

pub returns : goal.returns
returns c = any_end (lends_font c.args.root c.args.registry.now c.args.decls.now (option_copied c.args.parent)) c.args.names.now c.loop-place.place (omega arith) c.loop-place.has c.loop-place.invariant
