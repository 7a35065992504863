-- The texts of declared properties, one after the other.
use Rattle.std.proofs.Common.{◌≡◌, ℕ, suc, ◌+◌, ◌<◌, List, ◌∷◌, ◌++◌, length, drop, map, Some, codes, sym, ◌∙◌, ap, append_assoc, add-one, drop-cons}
use Rattle.std.specs.List.{slice_get}
use Rattle.std.proofs.lemmas.Option.{get_or_from_slice_get, slice_get_within}
use Rattle.cv_valuation.specs.declared.key.Key.{Key}
use Rattle.cv_props.specs.declared.decls.Decl.{Decl}
use Rattle.cv_props.specs.Winners.{Declarations}
use Rattle.cv_reify.specs.Text.{separated}
use Rattle.cv_session.specs.Texts.{entry_text}

-- a list from the place of an element on
from_place : {X : Type 0} (xs : List X) (place : ℕ) (x : X) → slice_get xs place ≡ Some x → drop place xs ≡ x ∷ drop (place + 1) xs
from_place xs place x found =
    let within : place < length xs = slice_get_within xs place x found in
    rw add-one (drop-cons xs place x within ∙ ap (λ first. first ∷ drop (suc place) xs) (get_or_from_slice_get xs place x x found))

-- one more entry is written, behind what is to stand before it
pub entry_pushed : (ds : Declarations) (place : ℕ) (key : Key) (declaration : Decl) (whole text text1 text2 separator : List ℕ)
    → slice_get ds place ≡ Some (key, declaration) → text1 ≡ text ++ separator → text2 ≡ text1 ++ entry_text (key, declaration)
    → text ++ separated separator (map entry_text (drop place ds)) ≡ whole → text2 ++ separated (codes ", ") (map entry_text (drop (place + 1) ds)) ≡ whole
entry_pushed ds place key declaration whole text text1 text2 separator found first second old =
    let rest = separated (codes ", ") (map entry_text (drop (place + 1) ds)) in
    let entry = entry_text (key, declaration) in
    ap (λ t. t ++ rest) (second ∙ ap (λ t. t ++ entry) first)
    ∙ append_assoc (text ++ separator) entry rest
    ∙ append_assoc text separator (entry ++ rest)
    ∙ ap (λ t. text ++ t) (sym (append_assoc separator entry rest))
    ∙ ap (λ es. text ++ separated separator (map entry_text es)) (sym (from_place ds place (key, declaration) found))
    ∙ old
