-- The right side of an equation as a function of the values that it reads.
use Rattle.std.proofs.Common.{◌≡◌, ◌<◌, ◌≤◌, Bool, true, false, leb, List, [], ◌∷◌, length, Option, Some, None, Result, Ok, Err, ◌⊎◌, inl, inr, refl, sym, ◌∙◌, ap, arith}
use Rattle.std.proofs.lemmas.Bool.{leb-true, leb-false, le-leb, lt-leb}
use Rattle.cv_spec_element.specs.Pieces.{Pieces, sub}
use Rattle.cv_spec_element.specs.Walks.{Walk}
use Rattle.cv_spec_element.specs.Keywords.{Keyword}
use Rattle.cv_spec_element.specs.Words.{trim, keyword_of}
use Rattle.cv_spec_element.specs.Element.{Matched, no, out, fit, Outcome, tokens, typed, Element}
use Rattle.cv_spec_element.specs.Dependencies.{tokens_of, keyword_value, undeclared_value, Edge, DependsOnItself}
use Rattle.cv_spec_element.specs.Valuation.{Cause, cycle, missing, limit, mismatch, is_counted, font_size_for, SubIs, IsSubstituted, IsMatched, IsInvalid, invalid_value, Gives, undeclared, refused, by_keyword, trimmed, out_of_range, computed}

-- the one answer where the fact holds, and the other where it doesn't
abbrev pub pick : {A X : Type 0} → A ⊎ (¬ A) → X → X → X
pick (inl holds) x y = x
pick (inr fails) x y = y

pick-holds : {A X : Type 0} → (choice : A ⊎ (¬ A)) (x y : X) → A → pick choice x y ≡ x
pick-holds (inl holds) x y h = refl
pick-holds (inr fails) x y h = absurd (fails h)

pick-fails : {A X : Type 0} → (choice : A ⊎ (¬ A)) (x y : X) → (¬ A) → pick choice x y ≡ y
pick-fails (inl holds) x y h = absurd (h holds)
pick-fails (inr fails) x y h = refl

abbrev pub fits_where : Bool → Bool → Bool
fits_where true short = short
fits_where false short = true

module _ {K T V U M : Type 0} (e : Element K T V U M) where
  abbrev pub of_match : K → Matched V → Outcome T V
  of_match p no = invalid_value e p
  of_match p out = undeclared_value e p
  of_match p (fit value) = typed value

  abbrev pub read_plainly : K → M → List T → Bool → Outcome T V
  read_plainly p m list true = tokens (trim e.words list)
  read_plainly p m list false = of_match p (e.values.reads p m (trim e.words list))

  abbrev pub read_list : K → M → List T → Option Keyword → Outcome T V
  read_list p m list (Some w) = keyword_value e p w
  read_list p m list None = read_plainly p m list (e.properties.is_loose p)

  abbrev pub within : K → M → List T → Bool → Outcome T V
  within p m list true = read_list p m list (keyword_of e.words list)
  within p m list false = invalid_value e p

  abbrev pub fits_limit : K → List T → Bool
  fits_limit p list = fits_where (is_counted e p) (leb (length list) e.declarations.limit)

  abbrev pub given_list : K → M → Result (List T) K → Outcome T V
  given_list p m (Err n) = invalid_value e p
  given_list p m (Ok list) = within p m list (fits_limit p list)

  abbrev pub substituted : (K → Outcome T V) → Pieces K T → Result (List T) K
  substituted values pieces = sub (λ q. tokens_of e (values q)) pieces

  fits_at : (list : List T) (b : Bool) → (b ≡ true → length list ≤ e.declarations.limit) → fits_where b (leb (length list) e.declarations.limit) ≡ true
  fits_at list true short = le-leb _ _ (short refl)
  fits_at list false short = refl

  edge_declared : (p q : K) → Edge e p q → (o : Option (Pieces K T)) → e.declarations.pieces p ≡ o → (pieces : Pieces K T) × (e.declarations.pieces p ≡ Some pieces)
  edge_declared p q (inl refers) o is = (refers.0, refers.1)
  edge_declared p q (inr size) None is = absurd (let declared = size.1.declared in cc)
  edge_declared p q (inr size) (Some pieces) is = (pieces, is)

  -- a property on a cycle is declared
  pub cyclic_declared : (p : K) → DependsOnItself e p → (pieces : Pieces K T) × (e.declarations.pieces p ≡ Some pieces)
  cyclic_declared p (via, walk) = by_first via walk
    where
      by_first : (via : List K) → Walk (Edge e) p via p → (pieces : Pieces K T) × (e.declarations.pieces p ≡ Some pieces)
      by_first [] edge = edge_declared p p edge (e.declarations.pieces p) refl
      by_first (c ∷ via) walk = edge_declared p c walk.0 (e.declarations.pieces p) refl

module _ {K T V U M : Type 0} (e : Element K T V U M) (decide : (p : K) → DependsOnItself e p ⊎ (¬ DependsOnItself e p)) where
  abbrev pub value_by_declaration : (K → Outcome T V) → K → Option (Pieces K T) → Outcome T V
  value_by_declaration values p None = undeclared_value e p
  value_by_declaration values p (Some pieces) =
      pick (decide p) (invalid_value e p) (given_list e p (font_size_for e values p) (substituted e values pieces))

  abbrev pub next_outcome : (K → Outcome T V) → K → Outcome T V
  next_outcome values p = value_by_declaration values p (e.declarations.pieces p)

  module _ (values : K → Outcome T V) (p : K) where
    declared_next : (outcome : Result (List T) K) → ¬ DependsOnItself e p → SubIs e values p outcome → next_outcome values p ≡ given_list e p (font_size_for e values p) outcome
    declared_next outcome loopless sub_is =
        ap (value_by_declaration values p) sub_is.1 ∙ pick-fails (decide p) _ _ loopless ∙ ap (given_list e p (font_size_for e values p)) sub_is.2

    read_next : (list : List T) → IsSubstituted e values p list → next_outcome values p ≡ read_list e p (font_size_for e values p) list (keyword_of e.words list)
    read_next list ok = declared_next (Ok list) ok.loopless ok.sub_is ∙ ap (within e p (font_size_for e values p) list) (fits_at e list (is_counted e p) ok.within)

    matched_next : (list : List T) (answer : Matched V) → IsMatched e values p list answer → next_outcome values p ≡ of_match e p answer
    matched_next list answer h =
        read_next list h.substituted ∙ ap (read_list e p (font_size_for e values p) list) h.no_keyword ∙ ap (read_plainly e p (font_size_for e values p) list) h.is_typed ∙ ap (of_match e p) h.matched_is

    invalid_next : (cause : Cause K) → IsInvalid e values p cause → next_outcome values p ≡ invalid_value e p
    invalid_next cycle loops = ap (value_by_declaration values p) (cyclic_declared e p loops).1 ∙ pick-holds (decide p) _ _ loops
    invalid_next (missing n) h = declared_next (Err n) h.0 h.1
    invalid_next (limit count) h =
        let long : e.declarations.limit < length h.1.list = omega (arith, h.1.count_is, h.1.over) in
        declared_next (Ok h.1.list) h.0 h.1.sub_is ∙ ap (within e p (font_size_for e values p) h.1.list) (ap (λ b. fits_where b (leb (length h.1.list) e.declarations.limit)) h.1.counted ∙ lt-leb _ _ long)
    invalid_next mismatch h = matched_next h.0 no h.1

    -- what the equations give is the right side
    pub gives_next : (outcome : Outcome T V) → Gives e values p outcome → outcome ≡ next_outcome values p
    gives_next outcome (undeclared none is) = is ∙ sym (ap (value_by_declaration values p) none)
    gives_next outcome (refused cause h is) = is ∙ sym (invalid_next cause h)
    gives_next outcome (by_keyword list w ok word is) = is ∙ sym (read_next list ok ∙ ap (read_list e p (font_size_for e values p) list) word)
    gives_next outcome (trimmed list ok none loose is) =
        is ∙ sym (read_next list ok ∙ ap (read_list e p (font_size_for e values p) list) none ∙ ap (read_plainly e p (font_size_for e values p) list) loose)
    gives_next outcome (out_of_range list h is) = is ∙ sym (matched_next list out h)
    gives_next outcome (computed list value h is) = is ∙ sym (matched_next list (fit value) h)

    -- and the right side is what the equations give
    pub next_gives : Gives e values p (next_outcome values p)
    next_gives = by_declaration (e.declarations.pieces p) refl
      where
        by_match : (list : List T) (answer : Matched V) → IsMatched e values p list answer → Gives e values p (of_match e p answer)
        by_match list no h = refused mismatch (list, h) refl
        by_match list out h = out_of_range list h refl
        by_match list (fit value) h = computed list value h refl

        by_loose : (list : List T) → IsSubstituted e values p list → keyword_of e.words list ≡ None → (b : Bool) → e.properties.is_loose p ≡ b → Gives e values p (read_plainly e p (font_size_for e values p) list b)
        by_loose list ok none true loose = trimmed list ok none loose refl
        by_loose list ok none false firm =
            by_match list (e.values.reads p (font_size_for e values p) (trim e.words list)) (record { substituted = ok; no_keyword = none; is_typed = firm; matched_is = refl })

        by_word : (list : List T) → IsSubstituted e values p list → (o : Option Keyword) → keyword_of e.words list ≡ o → Gives e values p (read_list e p (font_size_for e values p) list o)
        by_word list ok (Some w) is = by_keyword list w ok is refl
        by_word list ok None is = by_loose list ok is (e.properties.is_loose p) refl

        by_length : (list : List T) → ¬ DependsOnItself e p → SubIs e values p (Ok list) → (counted b : Bool) → is_counted e p ≡ counted → leb (length list) e.declarations.limit ≡ b → Gives e values p (within e p (font_size_for e values p) list (fits_where counted b))
        by_length list loopless sub_is true true on short =
            by_word list (record { loopless = loopless; sub_is = sub_is; within = λ _. leb-true _ _ short }) (keyword_of e.words list) refl
        by_length list loopless sub_is true false on long =
            refused (limit (length list)) (loopless, record { list = list; sub_is = sub_is; count_is = refl; counted = on; over = leb-false _ _ long }) refl
        by_length list loopless sub_is false b off _ =
            by_word list (record { loopless = loopless; sub_is = sub_is; within = λ on. absurd (let clash : true ≡ false = sym on ∙ off in cc) }) (keyword_of e.words list) refl

        by_sub : ¬ DependsOnItself e p → (outcome : Result (List T) K) → SubIs e values p outcome → Gives e values p (given_list e p (font_size_for e values p) outcome)
        by_sub loopless (Err n) sub_is = refused (missing n) (loopless, sub_is) refl
        by_sub loopless (Ok list) sub_is = by_length list loopless sub_is (is_counted e p) (leb (length list) e.declarations.limit) refl refl

        by_choice : (pieces : Pieces K T) → e.declarations.pieces p ≡ Some pieces → (choice : DependsOnItself e p ⊎ (¬ DependsOnItself e p)) → Gives e values p (pick choice (invalid_value e p) (given_list e p (font_size_for e values p) (substituted e values pieces)))
        by_choice pieces is (inl loops) = refused cycle loops refl
        by_choice pieces is (inr loopless) = by_sub loopless (substituted e values pieces) (pieces, is, refl)

        by_declaration : (o : Option (Pieces K T)) → e.declarations.pieces p ≡ o → Gives e values p (value_by_declaration values p o)
        by_declaration None is = undeclared is refl
        by_declaration (Some pieces) is = by_choice pieces is (decide p)
