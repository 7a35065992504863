use Rattle.std.proofs.Common.{◌≡◌, ℕ, List, cond, length, sym, ap, ◌∙◌, subst, arith}
use Rattle.std.specs.Prelude.{Some, bytes_eq}
use Rattle.indexmap.specs.IndexMap.{get}
use Rattle.cv_props.specs.Winners.{Declarations}
use Rattle.cv_tree.specs.Again.{IsAdded}
use Rattle.cv_tree.proofs.Again.{added_quietly, added_with_notes}
use Rattle.cv_tree.proofs.styles.add_read.Goals as goal

pub returns-then-noted-len : goal.returns-then-noted-len
returns-then-noted-len c =
    let all = c.args.all.now.items in
    let style = c.args.style.now in
    let notes = c.args.notes.now.items in
    let noted = c.declarations_in.new.notes.items in
    let found = get bytes_eq c.args.places.now in
    let read = c.in_ok-declarations.ensures in
    subst (λ (more : List Declarations). IsAdded c.args.number style all notes found more noted) (sym c.in_ok-push.ensures.items)
    (added_with_notes all found c.requires.read c.args.number style c.in_ok-declarations.declarations notes noted read.declarations read.few read.notes)

pub returns : goal.returns
returns c =
    let all = c.args.all.now.items in
    let style = c.args.style.now in
    let notes = c.args.notes.now.items in
    let noted = c.declarations_in.new.notes.items in
    let before = get bytes_eq c.args.places.now in
    let found = get bytes_eq c.insert.new.self in
    let read = c.in_ok-declarations.ensures in
    let found_is = λ (q : List ℕ).
    c.in_ok-insert.ensures.updates.0 q
    ∙ ap (λ (key : List ℕ). cond (bytes_eq key q) (Some c.len-place.result) (before q)) c.in_ok-copy.ensures
    ∙ ap (λ (place : ℕ). cond (bytes_eq style q) (Some place) (before q)) (c.len-place.ensures ∙ c.args.all.now.ok.0) in
    subst (λ (more : List Declarations). IsAdded c.args.number style all notes found more noted) (sym c.in_ok-push.ensures.items)
    (added_quietly all before c.requires.read c.args.number style c.in_ok-declarations.declarations notes noted read.declarations read.few read.notes
    (omega (arith, c.if-noted-len.false, c.len-noted.ensures, c.len.ensures, c.args.notes.now.ok.0, c.declarations_in.new.notes.ok.0)) found found_is)
