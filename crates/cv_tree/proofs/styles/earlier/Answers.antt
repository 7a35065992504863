use Rattle.std.proofs.Common.{◌≡◌, sym, ◌∙◌, subst}
use Rattle.std.proofs.lemmas.Option.{get_or_from_slice_get}
use Rattle.cv_props.specs.Winners.{Declarations}
use Rattle.cv_tree.specs.Again.{IsReadOf}
use Rattle.cv_tree.proofs.styles.earlier.Goals as goal

pub returns-in_ok-copy-in-Some-get : goal.returns-in_ok-copy-in-Some-get
returns-in_ok-copy-in-Some-get c =
    let read = c.requires c.args.style.now c.in-Some.place.now (sym c.in-Some.ensures.value) in
    let here = get_or_from_slice_get c.args.all.now c.in-Some.place.now read.declarations c.in-Some-get.declarations.now read.at in
    subst (λ (d : Declarations). IsReadOf c.args.style.now d) (sym here ∙ sym c.in-Some-get.ensures.lookup.1 ∙ sym c.in_ok-copy-in-Some-get.ensures) read.read
