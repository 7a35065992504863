use Rattle.std.proofs.Common.{◌≡◌, List, ◌++◌, ◌∷◌, [], sym, ◌∙◌, ap, subst}
use Rattle.std.specs.Prelude.{IfSome, bytes_eq}
use Rattle.indexmap.specs.IndexMap.{get}
use Rattle.cv_props.specs.Winners.{Declarations}
use Rattle.cv_tree.specs.Again.{AreRead, IsAdded, IsReadOf}
use Rattle.cv_tree.proofs.Again.{found_again}
use Rattle.cv_tree.proofs.styles.add_declarations.Goals as goal

pub earlier-requires : goal.earlier-requires
earlier-requires c = subst (AreRead (get bytes_eq c.args.places.now)) (sym c.deref.ensures.value) c.requires.read

pub returns-in_ok-push-in-Some : goal.returns-in_ok-push-in-Some
returns-in_ok-push-in-Some c =
    let found = get bytes_eq c.args.places.now in
    let notes = c.args.notes.now.items in
    let is = subst (λ o. IfSome o (IsReadOf c.args.style.now)) c.in-Some.is c.in_ok-declarations.ensures in
    subst (λ (more : List Declarations). IsAdded c.args.number c.args.style.now c.args.all.now.items notes found more notes) (sym c.in_ok-push-in-Some.ensures.items)
    (found_again c.args.all.now.items found c.requires.read c.args.number c.args.style.now c.in-Some.declarations notes is)
