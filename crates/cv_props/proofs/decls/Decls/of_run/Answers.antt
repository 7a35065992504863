use Rattle.std.proofs.Common.{ap, sym, ◌∙◌, length, arith, rules}
use Rattle.std.proofs.lemmas.List.{length-map}
use Rattle.cv_component.specs.Shared.{piece_of}
use Rattle.cv_props.proofs.Few.{few_of_style}
use Rattle.cv_props.proofs.Split.{few_items}
use Rattle.cv_props.proofs.decls.Decls.of_run.Goals as goal

pub of_items-requires : goal.of_items-requires
of_items-requires c =
    let same = sym (length-map c.in_ok-pieces.pieces.items piece_of) ∙ ap length c.in_ok-pieces.ensures in
    omega (arith, same, ap length c.deref.ensures.value, few_items c.args.style.now, c.requires)

pub returns-clause-few : goal.returns-clause-few
returns-clause-few c = few_of_style c.args.style.now c.of_items.result (search rules)
