-- Whitespace at the end of a list whose open brackets are closed.
use Rattle.std.proofs.Common.{◌≡◌, ◌↔◌, Bool, true, false, List, [], ◌∷◌, ◌++◌, reverse, map, refl, sym, ◌∙◌, ap, ap₂, append-nil, append_assoc}
use Rattle.std.proofs.lemmas.List.{reverse-append}
use Rattle.std.specs.Prelude.{◌||◌, IsTrue}
use Rattle.cv_spec_text.specs.declared.token.Bracket.{Bracket}
use Rattle.cv_spec_text.specs.declared.token.Token.{Token}
use Rattle.cv_spec_text.specs.declared.token.Token.TheVariants.{Close}
use Rattle.cv_component.specs.Nesting.{nesting_past}
use Rattle.cv_component.specs.TopLevel.{begins}
use Rattle.cv_component.specs.Parts.{is_white, has_white_end}

-- closing brackets, the last first, begin with one
closing_front : (inner : Bracket) (outer : List Bracket) (ts : List Token) → begins is_white (reverse (map Close (inner ∷ outer)) ++ ts) ≡ false
closing_front inner [] ts = refl
closing_front inner (next ∷ outer) ts =
    ap (λ (us : List Token). begins is_white (us ++ ts)) (reverse-append (Close inner ∷ []) (map Close (next ∷ outer)))
    ∙ ap (begins is_white) (append_assoc (reverse (map Close (next ∷ outer))) (Close inner ∷ []) ts)
    ∙ closing_front next outer (Close inner ∷ ts)

end_open : (ts : List Token) (inner : Bracket) (outer : List Bracket) → begins is_white (reverse (ts ++ map Close (inner ∷ outer))) ≡ false
end_open ts inner outer = ap (begins is_white) (reverse-append ts (map Close (inner ∷ outer))) ∙ closing_front inner outer (reverse ts)

end_closed : (ts : List Token) → begins is_white (reverse (ts ++ [])) ≡ begins is_white (reverse ts)
end_closed ts = ap (λ (us : List Token). begins is_white (reverse us)) (append-nil ts)

white_as : (ts : List Token) (nesting : List Bracket) (closed : Bool) → begins is_white (reverse ts) ≡ true → IsTrue closed ↔ (nesting ≡ []) → begins is_white (reverse (ts ++ map Close nesting)) ≡ closed
white_as ts [] true end h = end_closed ts ∙ end
white_as ts [] false end h = let wrong : false ≡ true = h.1 refl in cc
white_as ts (inner ∷ outer) true end h = let wrong : inner ∷ outer ≡ [] = h.0 refl in cc
white_as ts (inner ∷ outer) false end h = end_open ts inner outer

full_as : (ts : List Token) (nesting : List Bracket) → begins is_white (reverse ts) ≡ false → begins is_white (reverse (ts ++ map Close nesting)) ≡ false
full_as ts [] end = end_closed ts ∙ end
full_as ts (inner ∷ outer) end = end_open ts inner outer

-- a list that ends with whitespace, and one that doesn't

pub white_end : (ts : List Token) (closed : Bool) → begins is_white ts ≡ false → begins is_white (reverse ts) ≡ true → IsTrue closed ↔ (nesting_past [] ts ≡ []) → closed ≡ has_white_end ts
white_end ts closed front end h = sym (ap₂ (λ (a b : Bool). a || b) front (white_as ts (nesting_past [] ts) closed end h))

pub full_end : (ts : List Token) → begins is_white ts ≡ false → begins is_white (reverse ts) ≡ false → false ≡ has_white_end ts
full_end ts front end = sym (ap₂ (λ (a b : Bool). a || b) front (full_as ts (nesting_past [] ts) end))
