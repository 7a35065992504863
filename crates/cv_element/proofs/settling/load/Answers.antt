use Rattle.std.proofs.Common.{◌≡◌, inl, inr, arith, subst}
use Rattle.cv_subst.specs.Values.{value_in}
use Rattle.cv_element.specs.Settling.{value_at}
use Rattle.cv_element.proofs.Loading.{loaded-step, here-step, more-step, index_is, at_place, in_place}
use Rattle.cv_element.proofs.settling.load.Goals as goal

pub loop-place-preserved : goal.loop-place-preserved
loop-place-preserved c = record {
  loaded = loaded-step (value_in c.loop-place.runs) (value_in c.load_one.new.runs) (value_at c.args.values.now) c.index-names-place.result c.in_ok-load_one.ensures.here c.in_ok-load_one.ensures.others c.loop-place.invariant.loaded;
  here = here-step (value_in c.loop-place.runs) (value_in c.load_one.new.runs) (value_at c.args.values.now) c.index-names-place.result c.in_ok-load_one.ensures.here c.in_ok-load_one.ensures.others c.args.names.now c.loop-place.place (index_is c.args.names.now c.loop-place.place c.index-names-place.result c.index-names-place.is (omega arith)) c.loop-place.invariant.here;
  more = more-step (value_in c.loop-place.runs) (value_in c.load_one.new.runs) (value_at c.args.values.now) c.index-names-place.result c.in_ok-load_one.ensures.here c.in_ok-load_one.ensures.others c.args.names.now c.loop-place.place (index_is c.args.names.now c.loop-place.place c.index-names-place.result c.index-names-place.is (omega arith)) (value_in c.args.runs.now) c.loop-place.invariant.more;
}

pub returns-clause-here : goal.returns-clause-here
returns-clause-here c = λ name has. subst (λ x. value_in c.loop-place.runs x ≡ value_at c.args.values.now x) (in_place c.args.names.now has.0 name has.1 has.2) (c.loop-place.invariant.here has.0 (omega (arith, has.1)))

pub returns-clause-more : goal.returns-clause-more
returns-clause-more c = λ name. elim (c.loop-place.invariant.more name) [ inl same ↦ inl same | inr among ↦ inr (among.0, omega (arith, among.1), at_place c.args.names.now among.0 name (omega (arith, among.1)) among.2) ]
