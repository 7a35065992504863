-- The stretches that are items, and the steps of the walk over them.
use Rattle.std.proofs.Common.{◌≡◌, ℕ, suc, zero, ◌+◌, ◌-◌, ◌<◌, ◌≤◌, List, [], ◌∷◌, ◌++◌, length, drop, take, map, sym, ◌∙◌, ap, subst, append-nil, arith, length-drop}
use Rattle.std.specs.Prelude.{false, true, get_or}
use Rattle.std.proofs.lemmas.List.{map-append, drop-drop}
use Rattle.cv_spec_text.specs.Stretch.{stretch}
use Rattle.cv_spec_text.proofs.Stretches.{stretch_on}
use Rattle.cv_spec_text.specs.declared.token.Token.{Token}
use Rattle.cv_spec_text.specs.declared.token.Token.TheVariants.{Close}
use Rattle.cv_component.specs.declared.shared.SharedPiece.{SharedPiece}
use Rattle.cv_component.specs.Items.{item, item_length, items, separates}
use Rattle.cv_component.specs.Nesting.{completed, nesting_past}
use Rattle.cv_component.specs.TopLevel.{trim_front}
use Rattle.cv_component.specs.Shared.{piece_of}
use Rattle.cv_component.proofs.ItemSteps.{items_skipped, items_read, items_end}

-- the end of a list, and a front of that, as a stretch
pub trimmed_stretch : (tokens front : List Token) (start end size : ℕ) → front ≡ drop (length tokens - length front) tokens → length front ≤ length tokens
    → start ≡ length tokens - length front → end ≡ start + size → size ≤ length front → stretch tokens start end ≡ take size front
trimmed_stretch tokens front start end size is within start_is end_is fits =
    let count : end - start ≡ size = omega arith in
    ap (λ n. take n (drop start tokens)) count ∙ ap (λ k. take size (drop k tokens)) start_is ∙ ap (take size) (sym is)

-- where no bracket is open there is nothing to close
pub completed_none : (tokens : List Token) → nesting_past [] tokens ≡ [] → tokens ≡ completed tokens
completed_none tokens none = sym (append-nil tokens) ∙ ap (λ nesting. tokens ++ map Close nesting) (sym none)

-- a place of a list: the token there, and what comes behind it
pub token_at : (tokens : List Token) (start : ℕ) (token d : Token) → start < length tokens → token ≡ get_or tokens start d → drop start tokens ≡ token ∷ drop 1 (drop start tokens)
token_at [] start token d within is = absurd (omega arith)
token_at (t ∷ tokens) zero token d within is = ap (λ x. x ∷ tokens) (sym is)
token_at (t ∷ tokens) (suc start) token d within is = token_at tokens start token d (omega arith) is

pub shared_skipped : (tokens : List Token) (all : List SharedPiece) (start : ℕ) (token : Token) → map piece_of all ++ items (drop start tokens) ≡ items tokens
    → drop start tokens ≡ token ∷ drop 1 (drop start tokens) → true ≡ separates token → map piece_of all ++ items (drop (start + 1) tokens) ≡ items tokens
shared_skipped tokens all start token was is skips =
    ap (λ rest. map piece_of all ++ items rest) (sym (drop-drop 1 start tokens))
    ∙ items_skipped (items tokens) (map piece_of all) (drop start tokens) token was is skips

pub shared_read : (tokens : List Token) (all : List SharedPiece) (start size end : ℕ) (token : Token) (piece : SharedPiece) → map piece_of all ++ items (drop start tokens) ≡ items tokens
    → drop start tokens ≡ token ∷ drop 1 (drop start tokens) → false ≡ separates token → size ≡ item_length (drop start tokens) → size ≤ length (drop start tokens) → end ≡ start + size
    → piece_of piece ≡ item (stretch tokens start end) → map piece_of (all ++ piece ∷ []) ++ items (drop end tokens) ≡ items tokens
shared_read tokens all start size end token piece was is begins size_is fits end_is value =
    let count : end - start ≡ size = omega arith in
    let here : piece_of piece ≡ item (take size (drop start tokens)) = value ∙ ap (λ n. item (take n (drop start tokens))) count in
    ap (λ ps. ps ++ items (drop end tokens)) (map-append piece_of all (piece ∷ []))
    ∙ ap (λ k. (map piece_of all ++ piece_of piece ∷ []) ++ items (drop k tokens)) end_is
    ∙ ap (λ rest. (map piece_of all ++ piece_of piece ∷ []) ++ items rest) (sym (drop-drop size start tokens))
    ∙ items_read (items tokens) (map piece_of all) (drop start tokens) token size (piece_of piece) was is begins size_is fits here

pub shared_end : (tokens : List Token) (all : List SharedPiece) (start : ℕ) → map piece_of all ++ items (drop start tokens) ≡ items tokens → length tokens ≤ start → map piece_of all ≡ items tokens
shared_end tokens all start was past = items_end (items tokens) (map piece_of all) (drop start tokens) was (omega (arith, length-drop start tokens))

behind_first : (tokens front : List Token) (start size : ℕ) → 1 ≤ length tokens → front ≡ drop (length (drop 1 tokens) - length front) (drop 1 tokens) → length front ≤ length (drop 1 tokens)
    → start ≡ length tokens - length front → size ≡ length tokens → stretch tokens start size ≡ front
behind_first [] front start size some end within start_is size_is = absurd (omega arith)
behind_first (t ∷ rest) front start size some end within start_is size_is =
    let place : start ≡ suc (length rest - length front) = omega arith in
    stretch_on (t ∷ rest) start size size_is
    ∙ ap (λ k. drop k (t ∷ rest)) place
    ∙ sym end

-- what stands behind the first token and whitespace
pub behind_name : (list tokens front rest : List Token) (start size : ℕ) → tokens ≡ list → rest ≡ drop 1 tokens → 1 ≤ length list → front ≡ trim_front rest → front ≡ drop (length rest - length front) rest → length front ≤ length rest
    → start ≡ length tokens - length front → size ≡ length tokens → stretch list start size ≡ trim_front (drop 1 list)
behind_name list tokens front rest start size same rest_is some trimmed end within start_is size_is =
    let behind : rest ≡ drop 1 list = rest_is ∙ ap (drop 1) same in
    behind_first list front start size some
    (subst (λ (r : List Token). front ≡ drop (length r - length front) r) behind end)
    (subst (λ (r : List Token). length front ≤ length r) behind within)
    (subst (λ (ts : List Token). start ≡ length ts - length front) same start_is)
    (subst (λ (ts : List Token). size ≡ length ts) same size_is)
    ∙ trimmed ∙ ap trim_front behind
