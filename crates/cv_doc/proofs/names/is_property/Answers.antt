-- The table of the code is that of the definition, and its words are ASCII.
use Rattle.std.proofs.Common.{◌≡◌, ◌∙◌, ℕ, List, true, ap, rules}
use Rattle.std.specs.Borrow.{Bor}
use Rattle.std.specs.List.{list_any}
use Rattle.cv_doc.specs.PropertyNames.{is_property, property_names, same_word}
use Rattle.cv_doc.proofs.Words.{all_ascii, are_ascii}
use Rattle.cv_doc.proofs.names.is_property.Goals as goal

pub is_among-requires : goal.is_among-requires
is_among-requires c =
    let tested : are_ascii c.as_slice.result.now ≡ true = search rules in
    all_ascii c.as_slice.result.now tested

pub returns : goal.returns
unfolding is_property property_names
returns c =
    c.is_among.ensures
    ∙ ap (λ (words : List (Bor (List ℕ))). list_any (λ word. same_word c.args.name.now word.now) words) c.as_slice.ensures
