use Rattle.std.proofs.Common.{ap, ◌∙◌, sym, [], ◌∷◌}
use Rattle.std.specs.List.{filter_map}
use Rattle.cv_tree.specs.Names.{name_of_key, with_names}
use Rattle.cv_tree.proofs.Naming.{with_key_next}
use Rattle.cv_tree.proofs.names.add_declared.Goals as goal

pub loop-place-preserved : goal.loop-place-preserved
loop-place-preserved c =
    c.in_ok-add_key.ensures ∙ ap (λ names. with_names names (filter_map name_of_key (c.at.result.0.now ∷ []))) c.loop-place.invariant
    ∙ sym (with_key_next c.args.names.now.keys c.args.declarations.now c.loop-place.place c.at.result.0.now c.at.result.1.now c.at.ensures.entry)
