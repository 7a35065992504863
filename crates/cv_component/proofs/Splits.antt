-- The first part of a list, and the parts behind it.
use Rattle.std.proofs.Common.{◌≡◌, ◌<◌, ◌≤◌, ◌-◌, Bool, true, false, List, [], ◌∷◌, ◌++◌, length, take, drop, suc, refl, sym, ◌∙◌, ap, append_assoc, arith}
use Rattle.std.proofs.lemmas.List.{take_all}
use Rattle.std.specs.Prelude.{if◌then◌else◌}
use Rattle.cv_spec_text.specs.declared.token.Bracket.{Bracket}
use Rattle.cv_spec_text.specs.declared.token.Token.{Token}
use Rattle.cv_component.specs.Nesting.{nesting_after}
use Rattle.cv_component.specs.TopLevel.{top_length_within, top_length}
use Rattle.cv_component.specs.Parts.{longer, parts_within, parts}

-- the parts behind the first one
abbrev pub behind : (Token → Bool) → List Token → List (List Token)
behind ends [] = []
behind ends (t ∷ ts) = parts_within ends [] ts

module _ (ends : Token → Bool) where
  within : (nesting : List Bracket) (ts : List Token) → parts_within ends nesting ts ≡ take (top_length_within ends nesting ts) ts ∷ behind ends (drop (top_length_within ends nesting ts) ts)
  within [] [] = refl
  within (inner ∷ outer) [] = refl
  within [] (t ∷ ts) =
      elim (ends t) as (λ b. (if b then [] ∷ parts_within ends [] ts else longer t (parts_within ends (nesting_after [] t) ts)) ≡ take (if b then 0 else suc (top_length_within ends (nesting_after [] t) ts)) (t ∷ ts) ∷ behind ends (drop (if b then 0 else suc (top_length_within ends (nesting_after [] t) ts)) (t ∷ ts))) [
        | true ↦ refl
        | false ↦ ap (longer t) (within (nesting_after [] t) ts)
      ]
  within (inner ∷ outer) (t ∷ ts) = ap (longer t) (within (nesting_after (inner ∷ outer) t) ts)

pub first_part : (ends : Token → Bool) (ts : List Token) → parts ends ts ≡ take (top_length ends ts) ts ∷ behind ends (drop (top_length ends ts) ts)
unfolding parts top_length
first_part ends ts = within ends [] ts

-- ---- in the loop: what is pushed, and what is left

-- behind the last part there is none
pub last_part : (ends : Token → Bool) (rest front back : List Token) (before : List (List Token)) → front ≡ take (top_length ends rest) rest → back ≡ drop (top_length ends rest) rest → length back < 1 → before ++ parts ends rest ≡ before ++ front ∷ []
last_part ends rest front back before f b short =
    ap (λ ps. before ++ ps) (first_part ends rest ∙ ap (λ (ts : List Token). take (top_length ends rest) rest ∷ behind ends ts) (sym b ∙ nothing back short) ∙ ap (λ (ts : List Token). ts ∷ []) (sym f))
  where
    nothing : (ts : List Token) → length ts < 1 → ts ≡ []
    nothing [] short = refl
    nothing (t ∷ ts) short = absurd (omega arith)

behind_is : (ends : Token → Bool) (back : List Token) → 1 ≤ length back → behind ends back ≡ parts ends (take (length back - 1) (drop 1 back))
unfolding parts
behind_is ends [] some = absurd (omega arith)
behind_is ends (t ∷ ts) some = ap (parts_within ends []) (sym (take_all (length (t ∷ ts) - 1) ts (omega arith)))

pub further_part : (ends : Token → Bool) (rest front back : List Token) (before : List (List Token)) → front ≡ take (top_length ends rest) rest → back ≡ drop (top_length ends rest) rest → 1 ≤ length back → before ++ parts ends rest ≡ (before ++ front ∷ []) ++ parts ends (take (length back - 1) (drop 1 back))
further_part ends rest front back before f b some =
    ap (λ ps. before ++ ps) (first_part ends rest ∙ ap (λ (ts : List Token). ts ∷ behind ends (drop (top_length ends rest) rest)) (sym f) ∙ ap (λ (ts : List Token). front ∷ behind ends ts) (sym b) ∙ ap (λ ps. front ∷ ps) (behind_is ends back some))
    ∙ sym (append_assoc before (front ∷ []) (parts ends (take (length back - 1) (drop 1 back))))
