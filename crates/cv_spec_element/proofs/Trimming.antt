-- The CSS-wide keyword that a list is, told by its tokens other than whitespace.
use Rattle.std.proofs.Common.{◌≡◌, Bool, true, false, cond, List, [], ◌∷◌, ◌++◌, reverse, Some, ◌⊎◌, inl, inr, refl, sym, ◌∙◌, ap, subst}
use Rattle.std.proofs.lemmas.List.{reverse-reverse, reverse-append}
use Rattle.cv_spec_element.specs.Keywords.{Keyword}
use Rattle.cv_spec_element.specs.Words.{Words, trim_front, trim, lone_keyword, keyword_of, HasUnit}

module _ {T U : Type 0} (words : Words T U) where
  -- the tokens other than whitespace
  abbrev kept : Bool → T → List T → List T
  kept true t rest = rest
  kept false t rest = t ∷ rest

  abbrev dense : List T → List T
  dense [] = []
  dense (t ∷ rest) = kept (words.is_white t) t (dense rest)

  kept-append : (b : Bool) (t : T) (front back : List T) → kept b t (front ++ back) ≡ kept b t front ++ back
  kept-append true t front back = refl
  kept-append false t front back = refl

  dense-append : (front back : List T) → dense (front ++ back) ≡ dense front ++ dense back
  dense-append [] back = refl
  dense-append (t ∷ front) back = ap (kept (words.is_white t) t) (dense-append front back) ∙ kept-append (words.is_white t) t (dense front) (dense back)

  dense-trim_front : (list : List T) → dense (trim_front words list) ≡ dense list
  dense-trim_front [] = refl
  dense-trim_front (t ∷ rest) = by_white (dense-trim_front rest) (words.is_white t) refl
    where
      by_white : dense (trim_front words rest) ≡ dense rest → (b : Bool) → words.is_white t ≡ b → dense (cond b (trim_front words rest) (t ∷ rest)) ≡ kept b t (dense rest)
      by_white shorter true is = shorter
      by_white shorter false is = ap (λ c. kept c t (dense rest)) is

  reverse-first : (t : T) (rest : List T) → reverse (t ∷ rest) ≡ reverse rest ++ t ∷ []
  reverse-first t rest = reverse-append (t ∷ []) rest

  dense-reverse : (list : List T) → dense (reverse list) ≡ reverse (dense list)
  dense-reverse [] = refl
  dense-reverse (t ∷ rest) =
      ap dense (reverse-first t rest) ∙ dense-append (reverse rest) (t ∷ []) ∙ ap (λ l. l ++ dense (t ∷ [])) (dense-reverse rest) ∙ by_white (words.is_white t)
    where
      append-nil : (l : List T) → l ++ [] ≡ l
      append-nil [] = refl
      append-nil (x ∷ l) = ap (λ m. x ∷ m) (append-nil l)

      by_white : (b : Bool) → reverse (dense rest) ++ kept b t [] ≡ reverse (kept b t (dense rest))
      by_white true = append-nil (reverse (dense rest))
      by_white false = sym (reverse-first t (dense rest))

  dense-trim : (list : List T) → dense (trim words list) ≡ dense list
  dense-trim list =
      dense-reverse (trim_front words (reverse (trim_front words list))) ∙ ap reverse (dense-trim_front (reverse (trim_front words list)) ∙ dense-reverse (trim_front words list)) ∙ reverse-reverse (dense (trim_front words list)) ∙ dense-trim_front list

  -- the first token, and the last one, is no whitespace
  abbrev BeginsDense : List T → Type 0
  BeginsDense [] = Unit {0}
  BeginsDense (t ∷ rest) = words.is_white t ≡ false

  abbrev EndsDense : List T → Type 0
  EndsDense [] = Unit {0}
  EndsDense (t ∷ []) = words.is_white t ≡ false
  EndsDense (t ∷ second ∷ rest) = EndsDense (second ∷ rest)

  trim_front-BeginsDense : (list : List T) → BeginsDense (trim_front words list)
  trim_front-BeginsDense [] = tt
  trim_front-BeginsDense (t ∷ rest) = by_white (trim_front-BeginsDense rest) (words.is_white t) refl
    where
      by_white : BeginsDense (trim_front words rest) → (b : Bool) → words.is_white t ≡ b → BeginsDense (cond b (trim_front words rest) (t ∷ rest))
      by_white shorter true is = shorter
      by_white shorter false is = is

  EndsDense-rest : (t : T) (rest : List T) → EndsDense (t ∷ rest) → EndsDense rest
  EndsDense-rest t [] ends = tt
  EndsDense-rest t (second ∷ rest) ends = ends

  trim_front-EndsDense : (list : List T) → EndsDense list → EndsDense (trim_front words list)
  trim_front-EndsDense [] ends = tt
  trim_front-EndsDense (t ∷ rest) ends = by_white (trim_front-EndsDense rest (EndsDense-rest t rest ends)) (words.is_white t)
    where
      by_white : EndsDense (trim_front words rest) → (b : Bool) → EndsDense (cond b (trim_front words rest) (t ∷ rest))
      by_white shorter true = shorter
      by_white shorter false = ends

  EndsDense-last : (list : List T) (t : T) → words.is_white t ≡ false → EndsDense (list ++ t ∷ [])
  EndsDense-last [] t is = is
  EndsDense-last (x ∷ []) t is = is
  EndsDense-last (x ∷ y ∷ list) t is = EndsDense-last (y ∷ list) t is

  reverse-EndsDense : (list : List T) → BeginsDense list → EndsDense (reverse list)
  reverse-EndsDense [] begins = tt
  reverse-EndsDense (t ∷ rest) begins = subst EndsDense (sym (reverse-first t rest)) (EndsDense-last (reverse rest) t begins)

  -- a list that isn't empty begins with its last token when it is turned round
  reverse-BeginsDense : (list : List T) → EndsDense list → BeginsDense (reverse list)
  reverse-BeginsDense [] ends = tt
  reverse-BeginsDense (t ∷ []) ends = ends
  reverse-BeginsDense (t ∷ second ∷ rest) ends =
      subst BeginsDense (sym (reverse-first t (second ∷ rest))) (longer (reverse (second ∷ rest)) (reverse-first second rest) (reverse-BeginsDense (second ∷ rest) ends))
    where
      longer : (list : List T) → list ≡ reverse rest ++ second ∷ [] → BeginsDense list → BeginsDense (list ++ t ∷ [])
      longer [] is begins = absurd (not_empty (reverse rest) is)
        where
          not_empty : (l : List T) → [] ≡ l ++ second ∷ [] → ⊥
          not_empty [] e = cc
          not_empty (x ∷ l) e = cc
      longer (x ∷ list) is begins = begins

  trim-BeginsDense : (list : List T) → BeginsDense (trim words list)
  trim-BeginsDense list =
      reverse-BeginsDense (trim_front words (reverse (trim_front words list))) (trim_front-EndsDense (reverse (trim_front words list)) (reverse-EndsDense (trim_front words list) (trim_front-BeginsDense list)))

  trim-EndsDense : (list : List T) → EndsDense (trim words list)
  trim-EndsDense list = reverse-EndsDense (trim_front words (reverse (trim_front words list))) (trim_front-BeginsDense (reverse (trim_front words list)))

  -- a list that ends with a token other than whitespace has one
  dense_some : (t : T) (rest : List T) → EndsDense (t ∷ rest) → (first : T) × (more : List T) × (dense (t ∷ rest) ≡ first ∷ more)
  dense_some t [] ends = (t, [], ap (λ b. kept b t []) ends)
  dense_some t (second ∷ rest) ends = by_white (words.is_white t) (dense_some second rest ends)
    where
      by_white : (b : Bool) → (first : T) × (more : List T) × (dense (second ∷ rest) ≡ first ∷ more) → (first : T) × (more : List T) × (kept b t (dense (second ∷ rest)) ≡ first ∷ more)
      by_white true some = some
      by_white false some = (t, dense (second ∷ rest), refl)

  lone_keyword-dense : (list : List T) → BeginsDense list → EndsDense list → lone_keyword words list ≡ lone_keyword words (dense list)
  lone_keyword-dense [] begins ends = refl
  lone_keyword-dense (t ∷ []) begins ends = sym (ap (λ b. lone_keyword words (kept b t [])) begins)
  lone_keyword-dense (t ∷ second ∷ rest) begins ends =
      let some = dense_some second rest ends in
      sym (ap (λ b. lone_keyword words (kept b t (dense (second ∷ rest)))) begins ∙ ap (λ l. lone_keyword words (t ∷ l)) some.2)

  keyword_of-dense : (list : List T) → keyword_of words list ≡ lone_keyword words (dense list)
  keyword_of-dense list = lone_keyword-dense (trim words list) (trim-BeginsDense list) (trim-EndsDense list) ∙ ap (lone_keyword words) (dense-trim list)

  pub keyword_of-trim : (list : List T) → keyword_of words (trim words list) ≡ keyword_of words list
  keyword_of-trim list = keyword_of-dense (trim words list) ∙ ap (lone_keyword words) (dense-trim list) ∙ sym (keyword_of-dense list)

  -- a lone keyword is one, and beside it stands nothing
  lone_keyword-append : (front back : List T) (w : Keyword) → lone_keyword words (front ++ back) ≡ Some w → (lone_keyword words front ≡ Some w) ⊎ (lone_keyword words back ≡ Some w)
  lone_keyword-append [] back w is = inr is
  lone_keyword-append (t ∷ []) [] w is = inl is
  lone_keyword-append (t ∷ []) (second ∷ back) w is = absurd (cc)
  lone_keyword-append (t ∷ second ∷ front) back w is = absurd (cc)

  -- a list that is a keyword is one on one side of each cut
  pub keyword_of-append : (front back : List T) (w : Keyword) → keyword_of words (front ++ back) ≡ Some w → (keyword_of words front ≡ Some w) ⊎ (keyword_of words back ≡ Some w)
  keyword_of-append front back w is =
      elim (lone_keyword-append (dense front) (dense back) w (ap (lone_keyword words) (sym (dense-append front back)) ∙ sym (keyword_of-dense (front ++ back)) ∙ is)) [
        | inl early ↦ inl (keyword_of-dense front ∙ early)
        | inr late ↦ inr (keyword_of-dense back ∙ late)
      ]

  -- a token that is a keyword by itself is one
  pub keyword_of-one : (t : T) (w : Keyword) → keyword_of words (t ∷ []) ≡ Some w → words.keyword t ≡ Some w
  keyword_of-one t w is = by_white (words.is_white t) (sym (keyword_of-dense (t ∷ [])) ∙ is)
    where
      by_white : (b : Bool) → lone_keyword words (kept b t []) ≡ Some w → words.keyword t ≡ Some w
      by_white true e = absurd (cc)
      by_white false e = e

  pub HasUnit-append : (front back : List T) (u : U) → HasUnit words (front ++ back) u → HasUnit words front u ⊎ HasUnit words back u
  HasUnit-append [] back u has = inr has
  HasUnit-append (t ∷ front) back u (inl here) = inl (inl here)
  HasUnit-append (t ∷ front) back u (inr later) =
      elim (HasUnit-append front back u later) [ inl early ↦ inl (inr early) | inr late ↦ inr late ]

  HasUnit-reverse : (list : List T) (u : U) → HasUnit words (reverse list) u → HasUnit words list u
  HasUnit-reverse [] u has = has
  HasUnit-reverse (t ∷ rest) u has =
      elim (HasUnit-append (reverse rest) (t ∷ []) u (subst (λ l. HasUnit words l u) (reverse-first t rest) has)) [
        | inl early ↦ inr (HasUnit-reverse rest u early)
        | inr late ↦ elim late [ inl here ↦ inl here | inr none ↦ absurd none ]
      ]

  HasUnit-trim_front : (list : List T) (u : U) → HasUnit words (trim_front words list) u → HasUnit words list u
  HasUnit-trim_front [] u has = has
  HasUnit-trim_front (t ∷ rest) u has = by_white (HasUnit-trim_front rest u) (words.is_white t) has
    where
      by_white : (HasUnit words (trim_front words rest) u → HasUnit words rest u) → (b : Bool) → HasUnit words (cond b (trim_front words rest) (t ∷ rest)) u → HasUnit words (t ∷ rest) u
      by_white shorter true h = inr (shorter h)
      by_white shorter false h = h

  pub HasUnit-trim : (list : List T) (u : U) → HasUnit words (trim words list) u → HasUnit words list u
  HasUnit-trim list u has =
      HasUnit-trim_front list u (HasUnit-reverse (trim_front words list) u (HasUnit-trim_front (reverse (trim_front words list)) u (HasUnit-reverse (trim_front words (reverse (trim_front words list))) u has)))
