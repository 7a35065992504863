use Rattle.std.proofs.Common.{◌≡◌, ◌∙◌, ◌+◌, ◌++◌, ◌∷◌, [], ℕ, List, length, take, ap, sym, subst, arith}
use Rattle.std.specs.Map.{keys_of}
use Rattle.std.proofs.lemmas.List.{take_more, length-take-le}
use Rattle.std.proofs.lemmas.List.Sums.{fold-append}
use Rattle.cv_props.specs.Registered.{IsRegistered, entry_of}
use Rattle.cv_props.proofs.Naming.{lookup_name}
use Rattle.cv_props.specs.Registration.{registration}
use Rattle.cv_props.specs.Sheets.{ignored, notes_on_rules, registered, registered_names, registry_of, with_registration}
use Rattle.cv_props.proofs.Numbered.{notes_on_rules-push}
use Rattle.cv_props.proofs.Registering.{names-push, registered-push}
use Rattle.cv_props.proofs.registry.of_rules.Goals as goal

pub loop-number-preserved : goal.loop-number-preserved
loop-number-preserved c =
    let x = c.args.x.now in
    let all = c.args.all.now in
    let number = c.loop-number.number in
    let rule = c.index-all-number.result in
    let next : take (number + 1) all ≡ take number all ++ rule ∷ [] =
    take_more all number rule c.loop-number-test.true ∙ ap (λ r. take number all ++ r ∷ []) (sym c.index-all-number.is) in
    let count : length (take number all) ≡ number = length-take-le number all (omega arith) in
    record {
      kept = c.in_ok-add_rule.ensures.kept c.loop-number.invariant.kept;
      entries = λ name. ap (λ es. entry_of es name) c.in_ok-add_rule.ensures.entries
          ∙ registered-push x (take number all) (take (number + 1) all) rule next c.loop-number.entries.entries c.loop-number.invariant.entries name;
      order = ap keys_of c.in_ok-add_rule.ensures.entries
          ∙ names-push x (take number all) (take (number + 1) all) rule next c.loop-number.entries.entries c.loop-number.invariant.order;
      registry = c.in_ok-add_rule.ensures.entries
          ∙ ap (λ es. with_registration es (registration x rule)) c.loop-number.invariant.registry
          ∙ sym (ap (registry_of x) next ∙ fold-append (λ some r. with_registration some (registration x r)) [] (take number all) (rule ∷ []));
      notes = c.in_ok-add_rule.ensures.notes
          ∙ ap (λ l. l ++ ignored number (registration x rule)) c.loop-number.invariant.notes
          ∙ sym (ap (notes_on_rules x) next ∙ notes_on_rules-push x (take number all) rule
          ∙ ap (λ n. notes_on_rules x (take number all) ++ ignored n (registration x rule)) count);
    }

pub returns-clause-valid : goal.returns-clause-valid
returns-clause-valid c name entry found = lookup_name IsRegistered c.loop-number.entries.entries name entry c.loop-number.invariant.kept found
