use Rattle.std.proofs.Common.{◌≡◌, ◌<◌, ℕ, List, Bool, true, false, length, slice_index_or, sym, ◌∙◌, ap, arith}
use Rattle.std.specs.Option.{option_copied}
use Rattle.cv_element.proofs.Looping.{marked_below}
use Rattle.cv_element.proofs.Reaching.{reached_holds, holds_reached}
use Rattle.cv_element.proofs.held.held.Goals as goal

pub returns-clause-held : goal.returns-clause-held
returns-clause-held g c = λ place below most. (
  (λ marked. reached_holds c.args.registry.now c.args.decls.now (option_copied c.args.parent) c.args.at.now most c.properties_are_found.ensures c.len.ensures.once c.args.graph.now c.requires.nodes c.requires.edges c.deref.result.now c.deref-2.result.now
      (λ i within. ((λ is. sym (ap (λ (l : List Bool). slice_index_or l i false) c.deref.ensures.value ∙ c.in_ok-loose.ensures.flags i within) ∙ is), (λ is. (ap (λ (l : List Bool). slice_index_or l i false) c.deref.ensures.value ∙ c.in_ok-loose.ensures.flags i within) ∙ is)))
      (λ i within. ((λ is. (c.in_ok-starts.ensures.flags i within most).0 (sym (ap (λ (l : List Bool). slice_index_or l i false) c.deref-2.ensures.value) ∙ is)), (λ begins. ap (λ (l : List Bool). slice_index_or l i false) c.deref-2.ensures.value ∙ (c.in_ok-starts.ensures.flags i within most).1 begins)))
      (λ i is. let inside = marked_below c.deref-2.result.now i is in omega (arith, inside, ap (λ (l : List Bool). length l) c.deref-2.ensures.value, c.in_ok-starts.ensures.count))
      place below ((c.in_ok-marks.ensures.reaching place).0 marked)),
  (λ holds. (c.in_ok-marks.ensures.reaching place).1 (holds_reached c.args.registry.now c.args.decls.now (option_copied c.args.parent) c.args.at.now most c.properties_are_found.ensures c.len.ensures.once c.args.graph.now c.requires.nodes c.requires.edges c.deref.result.now c.deref-2.result.now
      (λ i within. ((λ is. sym (ap (λ (l : List Bool). slice_index_or l i false) c.deref.ensures.value ∙ c.in_ok-loose.ensures.flags i within) ∙ is), (λ is. (ap (λ (l : List Bool). slice_index_or l i false) c.deref.ensures.value ∙ c.in_ok-loose.ensures.flags i within) ∙ is)))
      (λ i within. ((λ is. (c.in_ok-starts.ensures.flags i within most).0 (sym (ap (λ (l : List Bool). slice_index_or l i false) c.deref-2.ensures.value) ∙ is)), (λ begins. ap (λ (l : List Bool). slice_index_or l i false) c.deref-2.ensures.value ∙ (c.in_ok-starts.ensures.flags i within most).1 begins)))
      (λ i is. let inside = marked_below c.deref-2.result.now i is in omega (arith, inside, ap (λ (l : List Bool). length l) c.deref-2.ensures.value, c.in_ok-starts.ensures.count))
      place below holds)),
)
