-- The steps of the walk over items.
use Rattle.std.proofs.Common.{◌≡◌, ℕ, ◌<◌, ◌≤◌, List, [], ◌∷◌, ◌++◌, length, drop, take, refl, sym, ◌∙◌, ap, append-nil, arith}
use Rattle.std.specs.Prelude.{true, false}
use Rattle.cv_spec_text.proofs.Runs.{run_values-nil}
use Rattle.cv_spec_text.specs.declared.token.Token.{Token}
use Rattle.cv_spec_text.specs.declared.token.Token.TheVariants.{Ident, Function, At, Hash, Str, BadStr, Url, BadUrl, Delim, Number, Percentage, Dimension, White, Cdo, Cdc, Colon, Semicolon, Comma, Open, Close}
use Rattle.cv_component.specs.declared.items.Piece.{Piece}
use Rattle.cv_component.specs.TopLevel.{top_length}
use Rattle.cv_component.specs.Items.{item, item_length, item_size, item_at, items, separates}
use Rattle.cv_component.proofs.Pieces.{run_read}

-- an item takes something
pub item_length-positive : (token : Token) (rest : List Token) → separates token ≡ false → 0 < item_length (token ∷ rest)
unfolding item_length top_length
item_length-positive (Ident name) rest is = omega arith
item_length-positive (Function name) rest is = omega arith
item_length-positive (At name) rest is = omega arith
item_length-positive (Hash name id) rest is = omega arith
item_length-positive (Str name) rest is = omega arith
item_length-positive BadStr rest is = omega arith
item_length-positive (Url name) rest is = omega arith
item_length-positive BadUrl rest is = omega arith
item_length-positive (Delim c) rest is = omega arith
item_length-positive (Number name) rest is = omega arith
item_length-positive (Percentage name) rest is = omega arith
item_length-positive (Dimension number name) rest is = omega arith
item_length-positive White rest is = cc
item_length-positive Cdo rest is = omega arith
item_length-positive Cdc rest is = omega arith
item_length-positive Colon rest is = omega arith
item_length-positive Semicolon rest is = cc
item_length-positive Comma rest is = omega arith
item_length-positive (Open bracket) rest is = omega arith
item_length-positive (Close bracket) rest is = omega arith

-- a token between items
pub items_skipped : (whole read : List Piece) (rest : List Token) (token : Token) → read ++ items rest ≡ whole → rest ≡ token ∷ drop 1 rest
    → true ≡ separates token → read ++ items (drop 1 rest) ≡ whole
items_skipped whole read rest token was is skips =
    let one : item_size (token ∷ drop 1 rest) ≡ 1 = rw (sym skips) refl in
    let nothing : item_at (token ∷ drop 1 rest) ≡ [] = rw (sym skips) refl in
    ap (λ ps. ps ++ items (drop 1 rest)) (sym (append-nil read))
    ∙ run_read item_size item_at whole read [] rest 1 was (ap item_size is ∙ one) (omega arith) (omega (arith, ap length is)) (ap item_at is ∙ nothing)

-- an item
pub items_read : (whole read : List Piece) (rest : List Token) (token : Token) (n : ℕ) (piece : Piece) → read ++ items rest ≡ whole → rest ≡ token ∷ drop 1 rest
    → false ≡ separates token → n ≡ item_length rest → n ≤ length rest → piece ≡ item (take n rest) → (read ++ piece ∷ []) ++ items (drop n rest) ≡ whole
items_read whole read rest token n piece was is begins size fits value =
    let length_is : item_length (token ∷ drop 1 rest) ≡ n = ap item_length (sym is) ∙ sym size in
    let size_is : item_size (token ∷ drop 1 rest) ≡ n = rw (sym begins) length_is in
    let some : 0 < n = rw (sym length_is) (item_length-positive token (drop 1 rest) (sym begins)) in
    let value_is : item_at (token ∷ drop 1 rest) ≡ piece ∷ [] =
    rw (sym begins) (ap (λ p. p ∷ []) (ap (λ k. item (take k (token ∷ drop 1 rest))) length_is ∙ ap (λ ts. item (take n ts)) (sym is) ∙ sym value)) in
    run_read item_size item_at whole read (piece ∷ []) rest n was (ap item_size is ∙ size_is) some fits (ap item_at is ∙ value_is)

pub items_end : (whole read : List Piece) (rest : List Token) → read ++ items rest ≡ whole → length rest < 1 → read ≡ whole
items_end whole read [] was none = sym (append-nil read) ∙ ap (λ ps. read ++ ps) (sym (run_values-nil item_size item_at)) ∙ was
items_end whole read (token ∷ rest) was none = absurd (omega arith)
