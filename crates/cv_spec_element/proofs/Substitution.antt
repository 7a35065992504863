-- What substitution reads, and what comes of it.
use Rattle.std.proofs.Common.{◌≡◌, List, [], ◌∷◌, ◌++◌, Option, Some, None, Result, Ok, Err, ◌⊎◌, inl, inr, refl, sym, ◌∙◌, ap, subst}
use Rattle.cv_spec_element.specs.Pieces.{Pieces, finish, token, reference, reference_or, RefersTo, value_or, joined, sub}
use Rattle.cv_spec_element.specs.Keywords.{Keyword}
use Rattle.cv_spec_element.specs.Words.{Words, keyword_of, HasUnit}
use Rattle.cv_spec_element.specs.Dependencies.{DeclaresUnit, DeclaresKeyword}
use Rattle.cv_spec_element.proofs.Trimming.{keyword_of-append, keyword_of-one, HasUnit-append}

-- substitution reads the values of the names that the list refers to, and no others
pub sub-agree : {N T : Type 0} (v w : N → Option (List T)) (pieces : Pieces N T) → ((q : N) → RefersTo pieces q → v q ≡ w q) → sub v pieces ≡ sub w pieces
sub-agree v w finish same = refl
sub-agree v w (token t rest) same = ap (joined (Ok (t ∷ []))) (sub-agree v w rest same)
sub-agree v w (reference n rest) same =
    let front : value_or (v n) (Err n) ≡ value_or (w n) (Err n) = ap (λ x. value_or x (Err n)) (same n (inl refl)) in
    let back : sub v rest ≡ sub w rest = sub-agree v w rest (λ q r. same q (inr r)) in
    cc
sub-agree v w (reference_or n fallback rest) same =
    let value : v n ≡ w n = same n (inl refl) in
    let other : sub v fallback ≡ sub w fallback = sub-agree v w fallback (λ q r. same q (inr (inl r))) in
    let back : sub v rest ≡ sub w rest = sub-agree v w rest (λ q r. same q (inr (inr r))) in
    cc

-- some name that the list refers to is of the kind, or none is
pub refers_to_some : {N T : Type 0} → (P : N → Type 0) → ((q : N) → P q ⊎ (¬ P q)) → (pieces : Pieces N T) → ((q : N) × RefersTo pieces q × P q) ⊎ ((q : N) → RefersTo pieces q → ¬ P q)
refers_to_some P choose finish = inr (λ q refers. absurd refers)
refers_to_some P choose (token t rest) = refers_to_some P choose rest
refers_to_some P choose (reference n rest) =
    elim (choose n) [
      | inl holds ↦ inl (n, inl refl, holds)
      | inr fails ↦ elim (refers_to_some P choose rest) [
        | inl some ↦ inl (some.0, inr some.1, some.2)
        | inr none ↦ inr (λ q refers. elim refers [ inl same ↦ λ h. fails (subst P (sym same) h) | inr later ↦ none q later ])
      ]
    ]
refers_to_some P choose (reference_or n fallback rest) =
    elim (choose n) [
      | inl holds ↦ inl (n, inl refl, holds)
      | inr fails ↦ elim (refers_to_some P choose fallback) [
        | inl some ↦ inl (some.0, inr (inl some.1), some.2)
        | inr none_within ↦ elim (refers_to_some P choose rest) [
          | inl some ↦ inl (some.0, inr (inr some.1), some.2)
          | inr none ↦ inr (λ q refers. elim refers [
            | inl same ↦ λ h. fails (subst P (sym same) h)
            | inr other ↦ elim other [ inl within ↦ none_within q within | inr later ↦ none q later ]
          ])
        ]
      ]
    ]

-- two lists joined
joined-Ok : {N T : Type 0} (a b : Result (List T) N) (list : List T) → joined a b ≡ Ok list → (front : List T) × (back : List T) × (a ≡ Ok front) × (b ≡ Ok back) × (list ≡ front ++ back)
joined-Ok (Err n) b list is = cc
joined-Ok (Ok front) (Err n) list is = cc
joined-Ok (Ok front) (Ok back) list is = (front, back, refl, refl, cc)

-- a value that is there is what it stands for
used_or_fallback : {N T : Type 0} (value : Option (List T)) (other : Result (List T) N) (list : List T) → value_or value other ≡ Ok list → (value ≡ Some list) ⊎ (other ≡ Ok list)
used_or_fallback None other list is = inr is
used_or_fallback (Some used) other list is = let same : used ≡ list = cc in inl (ap Some same)

module _ {K T U : Type 0} (words : Words T U) where
  -- a unit that came through a reference
  pub Arrives : (K → Option (List T)) → Pieces K T → U → Type 0
  Arrives values pieces u = (q : K) × RefersTo pieces q × ((list : List T) × (values q ≡ Some list) × HasUnit words list u)

  -- each unit after substitution was declared, or came through a reference
  pub sub_units : (values : K → Option (List T)) (pieces : Pieces K T) (list : List T) (u : U) → sub values pieces ≡ Ok list → HasUnit words list u → DeclaresUnit words pieces u ⊎ Arrives values pieces u
  unfolding Arrives
  sub_units values finish list u is has = absurd (let empty : [] ≡ list = cc in subst (λ x. HasUnit words x u) (sym empty) has)
  sub_units values (token t rest) list u is has =
      let parts = joined-Ok (Ok (t ∷ [])) (sub values rest) list is in
      let front : parts.0 ≡ t ∷ [] = let h = parts.2 in cc in
      elim (HasUnit-append words parts.0 parts.1 u (subst (λ x. HasUnit words x u) parts.4 has)) [
        | inl early ↦ elim (subst (λ x. HasUnit words x u) front early) [ inl here ↦ inl (inl here) | inr none ↦ absurd none ]
        | inr late ↦ elim (sub_units values rest parts.1 u parts.3 late) [
          | inl declared ↦ inl (inr declared)
          | inr arrives ↦ inr (arrives.0, arrives.1, arrives.2)
        ]
      ]
  sub_units values (reference n rest) list u is has =
      let parts = joined-Ok (value_or (values n) (Err n)) (sub values rest) list is in
      elim (HasUnit-append words parts.0 parts.1 u (subst (λ x. HasUnit words x u) parts.4 has)) [
        | inl early ↦ elim (used_or_fallback (values n) (Err n) parts.0 parts.2) [
          | inl used ↦ inr (n, inl refl, (parts.0, used, early))
          | inr clash ↦ absurd (cc)
        ]
        | inr late ↦ elim (sub_units values rest parts.1 u parts.3 late) [
          | inl declared ↦ inl declared
          | inr arrives ↦ inr (arrives.0, inr arrives.1, arrives.2)
        ]
      ]
  sub_units values (reference_or n fallback rest) list u is has =
      let parts = joined-Ok (value_or (values n) (sub values fallback)) (sub values rest) list is in
      elim (HasUnit-append words parts.0 parts.1 u (subst (λ x. HasUnit words x u) parts.4 has)) [
        | inl early ↦ elim (used_or_fallback (values n) (sub values fallback) parts.0 parts.2) [
          | inl used ↦ inr (n, inl refl, (parts.0, used, early))
          | inr other ↦ elim (sub_units values fallback parts.0 u other early) [
            | inl declared ↦ inl (inl declared)
            | inr arrives ↦ inr (arrives.0, inr (inl arrives.1), arrives.2)
          ]
        ]
        | inr late ↦ elim (sub_units values rest parts.1 u parts.3 late) [
          | inl declared ↦ inl (inr declared)
          | inr arrives ↦ inr (arrives.0, inr (inr arrives.1), arrives.2)
        ]
      ]

  pub arrival : (values : K → Option (List T)) (pieces : Pieces K T) (u : U) → Arrives values pieces u → (q : K) × RefersTo pieces q × ((list : List T) × (values q ≡ Some list) × HasUnit words list u)
  unfolding Arrives
  arrival values pieces u arrives = arrives

  -- a keyword after substitution was declared, where no value is one
  pub sub_keyword : (values : K → Option (List T)) (pieces : Pieces K T) (list : List T) (w : Keyword) → sub values pieces ≡ Ok list → keyword_of words list ≡ Some w → ((q : K) (used : List T) → RefersTo pieces q → values q ≡ Some used → keyword_of words used ≡ None) → DeclaresKeyword words pieces
  sub_keyword values finish list w is word plain = absurd (let empty : [] ≡ list = cc in let none : keyword_of words list ≡ None = ap (keyword_of words) (sym empty) in cc)
  sub_keyword values (token t rest) list w is word plain =
      let parts = joined-Ok (Ok (t ∷ [])) (sub values rest) list is in
      let front : parts.0 ≡ t ∷ [] = let h = parts.2 in cc in
      elim (keyword_of-append words parts.0 parts.1 w (ap (keyword_of words) (sym parts.4) ∙ word)) [
        | inl early ↦ inl (w, keyword_of-one words t w (ap (keyword_of words) (sym front) ∙ early))
        | inr late ↦ inr (sub_keyword values rest parts.1 w parts.3 late plain)
      ]
  sub_keyword values (reference n rest) list w is word plain =
      let parts = joined-Ok (value_or (values n) (Err n)) (sub values rest) list is in
      elim (keyword_of-append words parts.0 parts.1 w (ap (keyword_of words) (sym parts.4) ∙ word)) [
        | inl early ↦ elim (used_or_fallback (values n) (Err n) parts.0 parts.2) [
          | inl used ↦ absurd (let none = plain n parts.0 (inl refl) used in cc)
          | inr clash ↦ absurd (cc)
        ]
        | inr late ↦ sub_keyword values rest parts.1 w parts.3 late (λ q used refers. plain q used (inr refers))
      ]
  sub_keyword values (reference_or n fallback rest) list w is word plain =
      let parts = joined-Ok (value_or (values n) (sub values fallback)) (sub values rest) list is in
      elim (keyword_of-append words parts.0 parts.1 w (ap (keyword_of words) (sym parts.4) ∙ word)) [
        | inl early ↦ elim (used_or_fallback (values n) (sub values fallback) parts.0 parts.2) [
          | inl used ↦ absurd (let none = plain n parts.0 (inl refl) used in cc)
          | inr other ↦ inl (sub_keyword values fallback parts.0 w other early (λ q used refers. plain q used (inr (inl refers))))
        ]
        | inr late ↦ inr (sub_keyword values rest parts.1 w parts.3 late (λ q used refers. plain q used (inr (inr refers))))
      ]
