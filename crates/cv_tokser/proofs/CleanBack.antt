-- A clean list of spelt tokens is read again as it was printed.
use Rattle.std.proofs.Common.{ℕ, List, ◌∙◌, ap}
use Rattle.std.proofs.lemmas.Str.{chars-encodes}
use Rattle.cv_spec_text.specs.Text.{preprocessed}
use Rattle.cv_spec_text.specs.Tokens.{tokens_of}
use Rattle.cv_spec_text.specs.Printing.{written}
use Rattle.cv_tokser.specs.Clean.{CleanListsReadBack}
use Rattle.cv_tokser.proofs.ListsBack.{lists_back}
use Rattle.cv_tokser.proofs.Spelt.{are_well_formed}
use Rattle.cv_tokser.proofs.Kept.{written-kept, kept-scalars, kept-preprocessed}

pub clean_back : CleanListsReadBack
clean_back list clean spelt =
    let well = are_well_formed list spelt in
    let kept = written-kept list well in
    ap (λ (l : List ℕ). tokens_of (preprocessed l)) (chars-encodes (written list) (kept-scalars (written list) kept))
    ∙ ap tokens_of (kept-preprocessed (written list) kept) ∙ lists_back list clean well
