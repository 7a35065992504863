use Rattle.std.proofs.Common.{◌≡◌, ◌∙◌, ap, sym, take, ◌+◌, ◌++◌, ◌∷◌, []}
use Rattle.std.proofs.lemmas.List.{take_more}
use Rattle.cv_component.specs.Shared.{piece_of}
use Rattle.cv_props.specs.Registration.{first_or, syntax_in}
use Rattle.cv_props.proofs.Said.{last_said-piece}
use Rattle.cv_props.proofs.descriptors.last_syntax.Goals as goal

pub loop-piece-preserved : goal.loop-piece-preserved
loop-piece-preserved c =
    let block = c.args.block.now in
    let number = c.loop-piece.piece-index in
    let piece = c.piece-item.result in
    let next : take (number + 1) block ≡ take number block ++ piece ∷ [] =
    take_more block number piece c.loop-piece-test.true ∙ ap (λ p. take number block ++ p ∷ []) (sym c.piece-item.is) in
    c.later-last.ensures
    ∙ ap (λ said. first_or said c.loop-piece.last) c.in_ok-syntax_in.ensures
    ∙ ap (first_or (syntax_in (piece_of piece))) c.loop-piece.invariant
    ∙ sym (last_said-piece syntax_in (take number block) (take (number + 1) block) piece next)
