-- Trimmed lists: the two definitions agree, a trimmed list stays as it is, and what holds of each token of a list holds of those
-- of the trimmed one.
use Rattle.std.proofs.Common.{◌≡◌, Bool, true, false, cond, List, [], ◌∷◌, ◌++◌, None, reverse, ◌⊎◌, inl, inr, refl, sym, ◌∙◌, ap, subst}
use Rattle.std.specs.Prelude.{◌||◌, All}
use Rattle.std.specs.List.{AllByRecursion}
use Rattle.std.proofs.lemmas.List.Elements.{All-from_recursion, recursion_from_All}
use Rattle.cv_spec_text.specs.Splits.{IsSpelt}
use Rattle.std.proofs.lemmas.List.{reverse-reverse, reverse-append}
use Rattle.cv_spec_text.specs.declared.token.Token.{Token}
use Rattle.cv_spec_text.specs.declared.token.Token.TheVariants.{White}
use Rattle.cv_spec_element.specs.Words as words
use Rattle.cv_component.specs.TopLevel.{trim_front, trim_end}
use Rattle.cv_var.specs.References.{is_var, has_var}
use Rattle.cv_component.specs.Parts.{trim}
use Rattle.cv_spec_valuation.specs.declared.place.Place.{Place}
use Rattle.cv_spec_valuation.specs.Element.{words_at}
use Rattle.cv_element.proofs.TokenKinds.{Stays, white_or_not}

module _ (place : Place) where
  pub front_same : (list : List Token) → words.trim_front (words_at place) list ≡ trim_front list
  front_same [] = refl
  front_same (t ∷ rest) = by (front_same rest) (white_or_not t)
    where
      by : words.trim_front (words_at place) rest ≡ trim_front rest → (t ≡ White) ⊎ Stays t → words.trim_front (words_at place) (t ∷ rest) ≡ trim_front (t ∷ rest)
      by same (inl white) = subst (λ x. words.trim_front (words_at place) (x ∷ rest) ≡ trim_front (x ∷ rest)) (sym white) same
      by same (inr stays) = ap (λ b. cond b (words.trim_front (words_at place) rest) (t ∷ rest)) stays.is ∙ sym (stays.front rest)

  pub trim_same : (list : List Token) → words.trim (words_at place) list ≡ trim list
  trim_same list =
      ap (λ x. reverse (words.trim_front (words_at place) (reverse x))) (front_same list)
      ∙ ap reverse (front_same (reverse (trim_front list)))

-- a list that begins with no whitespace
abbrev Begins : List Token → Type 0
Begins [] = Unit {0}
Begins (t ∷ rest) = Stays t

front_begins : (list : List Token) → Begins (trim_front list)
front_begins [] = tt
front_begins (t ∷ rest) = by (front_begins rest) (white_or_not t)
  where
    by : Begins (trim_front rest) → (t ≡ White) ⊎ Stays t → Begins (trim_front (t ∷ rest))
    by before (inl white) = subst (λ x. Begins (trim_front (x ∷ rest))) (sym white) before
    by before (inr stays) = subst Begins (sym (stays.front rest)) stays

begins_front : (list : List Token) → Begins list → trim_front list ≡ list
begins_front [] begins = refl
begins_front (t ∷ rest) stays = stays.front rest

-- whitespace before a last token that stays is taken off, and the token is kept
front_push : (list : List Token) (t : Token) → Stays t → (kept : List Token) × (trim_front (list ++ t ∷ []) ≡ kept ++ t ∷ [])
front_push [] t stays = ([], stays.front [])
front_push (first ∷ rest) t stays = by (front_push rest t stays) (white_or_not first)
  where
    by : ((kept : List Token) × (trim_front (rest ++ t ∷ []) ≡ kept ++ t ∷ [])) → (first ≡ White) ⊎ Stays first → (kept : List Token) × (trim_front ((first ∷ rest) ++ t ∷ []) ≡ kept ++ t ∷ [])
    by before (inl white) = (before.0, subst (λ x. trim_front ((x ∷ rest) ++ t ∷ []) ≡ before.0 ++ t ∷ []) (sym white) before.1)
    by before (inr first_stays) = (first ∷ rest, first_stays.front (rest ++ t ∷ []))

-- taking whitespace off the end leaves the front
end_begins : (list : List Token) → Begins list → Begins (trim_end list)
end_begins [] begins = tt
end_begins (t ∷ rest) stays =
    let kept = front_push (reverse rest) t stays in
    let turned : reverse (t ∷ rest) ≡ reverse rest ++ t ∷ [] = reverse-append (t ∷ []) rest in
    let is : trim_end (t ∷ rest) ≡ t ∷ reverse kept.0 = ap (λ x. reverse (trim_front x)) turned ∙ ap reverse kept.1 ∙ reverse-append kept.0 (t ∷ []) in
    subst Begins (sym is) stays

end_twice : (list : List Token) → trim_end (trim_end list) ≡ trim_end list
end_twice list =
    ap (λ x. reverse (trim_front x)) (reverse-reverse (trim_front (reverse list)))
    ∙ ap reverse (begins_front (trim_front (reverse list)) (front_begins (reverse list)))

pub trim_twice : (list : List Token) → trim (trim list) ≡ trim list
trim_twice list =
    ap trim_end (begins_front (trim list) (end_begins (trim_front list) (front_begins list)))
    ∙ end_twice (trim_front list)

-- what holds of each token of a list holds of those of the trimmed one
module _ (P : Token → Type 0) where
  abbrev Each : List Token → Type 0
  Each list = AllByRecursion P list

  each-append : (list more : List Token) → Each list → Each more → Each (list ++ more)
  each-append [] more each each_more = each_more
  each-append (t ∷ rest) more each each_more = (each.0, each-append rest more each.1 each_more)

  each-reverse : (list : List Token) → Each list → Each (reverse list)
  each-reverse [] each = tt
  each-reverse (t ∷ rest) each =
      subst Each (sym (reverse-append (t ∷ []) rest)) (each-append (reverse rest) (t ∷ []) (each-reverse rest each.1) (each.0, tt))

  each-front : (list : List Token) → Each list → Each (trim_front list)
  each-front [] each = tt
  each-front (t ∷ rest) each = by (each-front rest each.1) (white_or_not t)
    where
      by : Each (trim_front rest) → (t ≡ White) ⊎ Stays t → Each (trim_front (t ∷ rest))
      by before (inl white) = subst (λ x. Each (trim_front (x ∷ rest))) (sym white) before
      by before (inr stays) = subst Each (sym (stays.front rest)) each

  each-trim : (list : List Token) → Each list → Each (trim list)
  each-trim list each =
      each-reverse (trim_front (reverse (trim_front list))) (each-front (reverse (trim_front list)) (each-reverse (trim_front list) (each-front list each)))

pub spelt-trim : (list : List Token) → All IsSpelt list → All IsSpelt (trim list)
spelt-trim list all = All-from_recursion IsSpelt (trim list) (each-trim IsSpelt list (recursion_from_All IsSpelt list all))

abbrev IsPlain : Token → Type 0
IsPlain t = is_var t ≡ false

neither : (a b : Bool) → (a || b) ≡ false → (a ≡ false) × (b ≡ false)
neither false b none = (refl, none)
neither true b none = absurd (let clash : true ≡ false = none in cc)

either : (a b : Bool) → a ≡ false → b ≡ false → (a || b) ≡ false
either a b none_a none_b = ap (λ x. x || b) none_a ∙ none_b

no_var : (list : List Token) → has_var list ≡ false → Each IsPlain list
no_var [] none = tt
no_var (t ∷ rest) none = let both = neither (is_var t) (has_var rest) none in (both.0, no_var rest both.1)

has_no_var : (list : List Token) → Each IsPlain list → has_var list ≡ false
has_no_var [] none = refl
has_no_var (t ∷ rest) none = either (is_var t) (has_var rest) none.0 (has_no_var rest none.1)

pub has_var-one : (t : Token) → is_var t ≡ false → has_var (t ∷ []) ≡ false
has_var-one t none = either (is_var t) false none refl

pub has_var-append : (list more : List Token) → has_var list ≡ false → has_var more ≡ false → has_var (list ++ more) ≡ false
has_var-append list more none none_more = has_no_var (list ++ more) (each-append IsPlain list more (no_var list none) (no_var more none_more))

pub has_var-trim : (list : List Token) → has_var list ≡ false → has_var (trim list) ≡ false
has_var-trim list none = has_no_var (trim list) (each-trim IsPlain list (no_var list none))
