use Rattle.std.proofs.Common.{ap, ◌∙◌, ◌++◌}
use Rattle.std.specs.Prelude.{map, option_map}
use Rattle.cv_doc.specs.Reading.{shape_of}
use Rattle.cv_component.specs.Rules.{rules}
use Rattle.cv_props.specs.Registration.{viewport}
use Rattle.cv_props.specs.Sheets.{notes_on_rules, registry_of}
use Rattle.cv_tree.specs.Names.{keys_in, keys_shown}
use Rattle.cv_tree.specs.Styles.{declarations_of, elements_notes, rules_in}
use Rattle.cv_tree.proofs.contents.contents_of.Goals as goal

pub returns : goal.returns
returns c =
    let document = c.args.document.now in
    let x = viewport document.width document.height in
    let show = option_map (λ names. names.items) document.show in
    let tokens = c.deref.ensures.value ∙ c.in_ok-sheet.ensures.tokens in
    record {
      registry = c.in_ok-registry.ensures.registry ∙ ap (λ t. registry_of x (rules t)) tokens;
      entries = c.in_ok-registry.ensures.valid;
      notes = c.in_ok-declarations.ensures.notes
          ∙ ap (λ n. n ++ elements_notes 0 c.deref-2.result.now) (c.in_ok-registry.ensures.notes ∙ ap (λ t. notes_on_rules x (rules t)) tokens)
          ∙ ap (λ l. notes_on_rules x (rules_in document.sheet) ++ elements_notes 0 l) c.deref-2.ensures.value;
      declarations = c.in_ok-declarations.ensures.declarations ∙ ap (map declarations_of) c.deref-2.ensures.value;
      few = c.in_ok-declarations.ensures.few;
      shown = c.in_ok-shown.ensures ∙ ap (λ l. keys_shown show (keys_in l)) (c.deref-3.ensures.value ∙ c.in_ok-declarations.ensures.declarations ∙ ap (map declarations_of) c.deref-2.ensures.value);
    }
