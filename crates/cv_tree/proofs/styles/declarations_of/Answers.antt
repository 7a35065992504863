use Rattle.std.proofs.Common.{sym, ap, ◌∙◌, subst, List, [], ◌∷◌, ◌≡◌, ◌++◌, ◌+◌, ◌≤◌, length, arith}
use Rattle.std.specs.Prelude.{All, map}
use Rattle.std.proofs.lemmas.List.{append_assoc}
use Rattle.std.proofs.lemmas.List.Elements.{All-push, All-rest}
use Rattle.cv_props.specs.Kept.{notes_on}
use Rattle.cv_props.specs.Winners.{Declarations}
use Rattle.cv_tree.specs.Contents.{most_bytes}
use Rattle.cv_tree.specs.Styles.{declarations_in, declarations_of, elements_notes, items_in}
use Rattle.cv_tree.specs.Contents.{AreFew}
use Rattle.cv_tree.proofs.Stepping.{notes_next}
use Rattle.cv_tree.proofs.styles.declarations_of.Goals as goal

pub loop-element-preserved : goal.loop-element-preserved
loop-element-preserved c =
    let e = c.in-Some.element.now in
    let es = c.in-Some.after.now in
    let number = c.loop-element.number in
    let rest_is = c.in-Some.ensures.cases in
    let added = c.in_ok-add_declarations.ensures in
    let d = declarations_in e.style in
    record {
      count = omega (arith, c.loop-element.invariant.count, rest_is.1);
      short = All-rest (λ element. length element.style ≤ most_bytes) e es c.loop-element.rest.now rest_is.0 c.loop-element.invariant.short;
      few = subst (All AreFew) (sym added.declarations) (All-push AreFew c.loop-element.all.items d c.loop-element.invariant.few added.few);
      declarations = ap (λ (done : List Declarations). done ++ map declarations_of es) added.declarations
          ∙ append_assoc c.loop-element.all.items (d ∷ []) (map declarations_of es)
          ∙ ap (λ l. c.loop-element.all.items ++ map declarations_of l) (sym rest_is.0)
          ∙ c.loop-element.invariant.declarations;
      notes = ap (λ n. n ++ elements_notes (number + 1) es) added.notes
          ∙ append_assoc c.loop-element.notes.items (notes_on number (items_in e.style)) (elements_notes (number + 1) es)
          ∙ ap (λ n. c.loop-element.notes.items ++ n) (sym (notes_next number e es))
          ∙ ap (λ l. c.loop-element.notes.items ++ elements_notes number l) (sym rest_is.0)
          ∙ c.loop-element.invariant.notes;
      read = added.read;
    }
