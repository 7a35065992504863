use Rattle.std.proofs.Common.{◌-◌, ◌<◌, arith, ap, get_or, length, refl, subst, sym, ◌∙◌}
use Rattle.cv_doc.specs.declared.elements.Elem.{Elem}
use Rattle.std.proofs.lemmas.Option.{slice_get_read}
use Rattle.cv_doc.specs.Kept.{IsParentOf}
use Rattle.cv_walk.specs.Extents.{raised}
use Rattle.cv_walk.proofs.Ends.{IsEnding, ended, next_ending, written_back}
use Rattle.cv_walk.proofs.ending.extents.Goals as goal

pub loop-index-preserved : goal.loop-index-preserved
loop-index-preserved c =
    let next = c.loop-index.index - 1 in
    let e = c.index-elements-index.result in
    let new = c.raise.new.ends in
    let lt : next < length c.args.elements.now = omega (arith, c.loop-index.invariant.within, c.loop-index-test.true) in
    let one = sym c.index-elements-index.is in
    let done : IsEnding c.args.elements.now new next =
    next_ending c.args.elements.now c.loop-index.ends.items new c.loop-index.index next e c.loop-index.invariant (omega (arith, c.loop-index-test.true))
    (slice_get_read c.args.elements.now (length c.args.elements.now) next e refl lt c.index-elements-index.is)
    (subst (λ (x : Elem). IsParentOf next x.parent) one (c.requires next e lt))
    (c.raise.ensures ∙ ap (λ l. raised l next (get_or c.args.elements.now next e).parent) c.deref_mut.ensures.value ∙ ap (λ (x : Elem). raised c.loop-index.ends.items next x.parent) one) in
    subst (λ l. IsEnding c.args.elements.now l next)
    (sym (written_back c.loop-index.ends.items new c.loop-index.ends.len (done.count ∙ sym c.loop-index.invariant.count)
    (sym c.deref_mut.ensures.len ∙ ap length c.deref_mut.ensures.value ∙ c.loop-index.invariant.count ∙ sym done.count)))
    done

pub returns : goal.returns
returns c = record {
  count = c.loop-index.invariant.count;
  ends = ended c.args.elements.now c.requires c.loop-index.ends.items (subst (IsEnding c.args.elements.now c.loop-index.ends.items) (omega (arith, c.loop-index-test.false)) c.loop-index.invariant);
}
