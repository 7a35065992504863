use Rattle.std.proofs.Common.{ℕ, List, ◌↔◌, sym, subst, ◌∙◌, ap}
use Rattle.std.specs.Prelude.{Contains}
use Rattle.std.specs.List.{list_any}
use Rattle.std.specs.Option.{option_copied}
use Rattle.cv_spec_element.specs.Pieces.{RefersTo}
use Rattle.cv_var.specs.References.{pieces_of}
use Rattle.cv_element.specs.Holding.{lends_font}
use Rattle.cv_element.proofs.Beginning.{begins_here}
use Rattle.cv_element.proofs.held.begins_font.Goals as goal

pub returns : goal.returns
returns c = λ most.
    begins_here (record {
      found = c.properties_are_found.ensures;
      tables = c.properties_may_be_kept.ensures;
      items = c.items_are_free.ensures;
      alike = c.matches_alike.ensures;
      ignore = c.matches_ignore_contexts.ensures;
      split = c.texts_are_split.ensures;
      fonts = c.font_units_are_told.ensures;
    }) c.args.registry.now c.len.ensures.entries c.args.decls.now c.len-2.ensures.once (option_copied c.args.parent) c.requires.parent c.args.at.now most c.args.place c.at.result.0.now c.at.result.1.now c.at.ensures.entry c.is_root-root.result c.owns_font-owns.result c.in_ok-lends.lends c.either.result c.is_root-root.ensures c.owns_font-owns.ensures c.deref.result.now
    (λ name. subst (λ (l : List (List ℕ)). Contains l name ↔ RefersTo (pieces_of c.at.result.1.now.value) name) (sym c.deref.ensures.value) (c.in_ok-names.ensures.refers name))
    c.in_ok-lends.ensures c.either.ensures
