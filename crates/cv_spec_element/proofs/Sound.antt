-- The right side of a property depends on what it reads alone, as long as no value has a font unit that isn't held.
use Rattle.std.proofs.Common.{◌≡◌, Bool, true, false, cond, List, [], ◌∷◌, Option, Some, None, Result, Ok, Err, ◌⊎◌, inl, inr, refl, sym, ◌∙◌, ap, subst}
use Rattle.std.specs.Prelude.{IsSome}
use Rattle.cv_spec_element.specs.Pieces.{Pieces, RefersTo}
use Rattle.cv_spec_element.specs.Walks.{Walk, Reaches}
use Rattle.cv_spec_element.specs.Keywords.{Keyword, initial, inherit, unset, revert, revert_layer, inherited, defaulted}
use Rattle.cv_spec_element.specs.Keywords as keywords
use Rattle.cv_spec_element.specs.Words.{trim, keyword_of, HasUnit}
use Rattle.cv_spec_element.specs.Element.{Matched, no, out, fit, Outcome, tokens, typed, invalid, Element}
use Rattle.cv_spec_element.specs.Dependencies.{tokens_of, keyword_value, undeclared_value, OutcomeHasUnit, declares, takes_undeclared, takes_initial, takes_parent, HoldsKeyword, RefersLoosely, Holds, Edge, DependsOnItself, Reads}
use Rattle.cv_spec_element.specs.Valuation.{font_size_for, invalid_value}
use Rattle.cv_spec_element.specs.Premises.{IsKept, IsPlainValue, IsLawful}
use Rattle.cv_spec_element.proofs.Members.{In}
use Rattle.cv_spec_element.proofs.Solutions as solutions
use Rattle.cv_spec_element.proofs.Trimming.{keyword_of-trim, HasUnit-trim}
use Rattle.cv_spec_element.proofs.Substitution.{sub-agree, sub_units, sub_keyword, arrival}
use Rattle.cv_spec_element.proofs.Units.{list_font_unit}
use Rattle.cv_spec_element.proofs.Deciding.{depends_or_not, edge_from, some_declared}
use Rattle.cv_spec_element.proofs.RightSide.{pick, of_match, read_plainly, read_list, within, fits_limit, given_list, substituted, value_by_declaration, next_outcome}

-- a keyword gives the initial value or the parent's
by_keyword_cases : {O : Type 0} (first : O) (parent : Option O) (inherits : Bool) (w : Keyword) → (keywords.by_keyword first parent inherits w ≡ first) ⊎ ((value : O) × (parent ≡ Some value) × (keywords.by_keyword first parent inherits w ≡ value))
by_keyword_cases {O} first parent inherits w = by_word w
  where
    of_inherited : (o : Option O) → (inherited first o ≡ first) ⊎ ((value : O) × (o ≡ Some value) × (inherited first o ≡ value))
    of_inherited None = inl refl
    of_inherited (Some value) = inr (value, refl, refl)

    of_defaulted : (b : Bool) → (defaulted first parent b ≡ first) ⊎ ((value : O) × (parent ≡ Some value) × (defaulted first parent b ≡ value))
    of_defaulted true = of_inherited parent
    of_defaulted false = inl refl

    by_word : (w : Keyword) → (keywords.by_keyword first parent inherits w ≡ first) ⊎ ((value : O) × (parent ≡ Some value) × (keywords.by_keyword first parent inherits w ≡ value))
    by_word initial = inl refl
    by_word inherit = of_inherited parent
    by_word unset = of_defaulted inherits
    by_word revert = of_defaulted inherits
    by_word revert_layer = of_defaulted inherits

module _ {K T V U M : Type 0} (e : Element K T V U M) (laws : IsLawful e) where
  -- the tokens of a custom property's outcome are no CSS-wide keyword, and have no font unit but those that a loose
  -- property holds
  abbrev pub IsSound : K → Outcome T V → Type 0
  IsSound p outcome = e.properties.is_custom p ≡ true → (list : List T) → tokens_of e outcome ≡ Some list → (keyword_of e.words list ≡ None) × ((u : U) → e.words.is_font_unit u ≡ true → HasUnit e.words list u → (e.properties.is_loose p ≡ true) × Holds e p u)

  -- what is kept is sound where a loose property holds its units
  kept_sound : (p : K) (outcome : Outcome T V) → IsKept e p outcome → (e.properties.is_loose p ≡ true → (u : U) → e.words.is_font_unit u ≡ true → OutcomeHasUnit e outcome u → Holds e p u) → IsSound p outcome
  kept_sound p (tokens own) kept holds custom list is =
      let same : own ≡ list = cc in
      (ap (keyword_of e.words) (sym same) ∙ kept.1, λ u font has. (kept.0, holds kept.0 u font (list, is, has)))
  kept_sound p (typed value) kept holds custom list is =
      let same : e.values.text value ≡ list = cc in
      (ap (keyword_of e.words) (sym same) ∙ (kept.1 custom).no_keyword, λ u font has. absurd ((kept.1 custom).no_font_unit u font (subst (λ x. HasUnit e.words x u) (sym same) has)))
  kept_sound p invalid kept holds custom list is = absurd (cc)

  keyword_cases : (p : K) (w : Keyword) → (keyword_value e p w ≡ e.values.initial p) ⊎ ((value : Outcome T V) × (e.values.parent p ≡ Some value) × (keyword_value e p w ≡ value))
  keyword_cases p w = by_keyword_cases (e.values.initial p) (e.values.parent p) (e.properties.inherits p) w

  keyword_kept : (p : K) (w : Keyword) → IsKept e p (keyword_value e p w)
  keyword_kept p w =
      elim (keyword_cases p w) [
        | inl first ↦ subst (λ o. IsKept e p o) (sym first) (laws.inherited.initial_kept p)
        | inr parent ↦ subst (λ o. IsKept e p o) (sym parent.2) (laws.inherited.parent_kept p parent.0 parent.1)
      ]

  -- what a declared keyword brings is held
  keyword_held : (p : K) (w : Keyword) (u : U) → e.properties.is_loose p ≡ true → HoldsKeyword e p → OutcomeHasUnit e (keyword_value e p w) u → Holds e p u
  keyword_held p w u loose keyword has =
      elim (keyword_cases p w) [
        | inl first ↦ inl (takes_initial loose keyword (subst (λ o. OutcomeHasUnit e o u) first has))
        | inr parent ↦ inl (takes_parent loose keyword parent.0 parent.1 (subst (λ o. OutcomeHasUnit e o u) parent.2 has))
      ]

  clash : (b : Bool) → b ≡ true → b ≡ false → ⊥
  clash b first second = let both : true ≡ false = sym first ∙ second in cc

  undeclared_sound : (p : K) → (e.properties.is_loose p ≡ true → e.declarations.pieces p ≡ None) → IsSound p (undeclared_value e p)
  undeclared_sound p undeclared = kept_sound p (undeclared_value e p) (keyword_kept p unset) (λ loose u font has. inl (takes_undeclared loose (undeclared loose) has))

  invalid_sound_at : (p : K) (b : Bool) → e.properties.is_loose p ≡ b → IsSound p (cond b invalid (undeclared_value e p))
  invalid_sound_at p true loose = kept_sound p invalid loose (λ l u font has. absurd (let none : None ≡ Some has.0 = has.1 in cc))
  invalid_sound_at p false firm = undeclared_sound p (λ loose. absurd (clash (e.properties.is_loose p) loose firm))

  invalid_sound : (p : K) → IsSound p (invalid_value e p)
  invalid_sound p = invalid_sound_at p (e.properties.is_loose p) refl

  -- what a property holds is held by each that refers to it, if it is loose
  Holds-through : (p q : K) (u : U) → RefersLoosely e p q → Holds e q u → Holds e p u
  Holds-through p q u edge (inl owns) = inr (q, ([], edge), owns)
  Holds-through p q u edge (inr far) = inr (far.0, (q ∷ far.1.0, (edge, far.1.1)), far.2)

  -- a font unit after substitution is held, where the values that the declaration refers to are sound
  pub unit_held : (v : K → Outcome T V) (p : K) (pieces : Pieces K T) → e.declarations.pieces p ≡ Some pieces → ((q : K) → RefersTo pieces q → IsSound q (v q)) → (list : List T) (u : U) → substituted e v pieces ≡ Ok list → e.words.is_font_unit u ≡ true → HasUnit e.words list u → Holds e p u
  unit_held v p pieces is sound list u sub_is font has =
      elim (sub_units e.words (λ q. tokens_of e (v q)) pieces list u sub_is has) [
        | inl declared ↦ inl (declares pieces is declared)
        | inr arrives ↦ through (arrival e.words (λ q. tokens_of e (v q)) pieces u arrives)
      ]
    where
      through : (q : K) × RefersTo pieces q × ((used : List T) × (tokens_of e (v q) ≡ Some used) × HasUnit e.words used u) → Holds e p u
      through (q, refers, (used, used_is, used_has)) =
          let held = (sound q refers (laws.named.refers_custom p q (pieces, is, refers)) used used_is).1 u font used_has in
          Holds-through p q u ((pieces, is, refers), held.0) held.1

  -- what an edge of the graph of reads leads to
  abbrev IsEntered : K → Type 0
  IsEntered p = (e.properties.is_custom p ≡ true) ⊎ (p ≡ e.properties.font_size)

  abbrev LooplessEdge : K → K → Type 0
  LooplessEdge p q = (¬ DependsOnItself e p) × Edge e p q

  edge_enters : (p q : K) → Reads e p q → IsEntered q
  edge_enters p q (inl (loopless, inl refers)) = inl (laws.named.refers_custom p q refers)
  edge_enters p q (inl (loopless, inr size)) = inr size.0
  edge_enters p q (inr size) = inr size.0

  entered_edge : (p q : K) → IsEntered p → Reads e p q → LooplessEdge p q
  entered_edge p q entered (inl edge) = edge
  entered_edge p q (inl custom) (inr size) = absurd (clash (e.properties.is_custom p) custom size.1.ordinary)
  entered_edge p q (inr is) (inr size) = absurd (size.1.other is)

  walk_enters : (p : K) (via : List K) (q : K) → Walk (Reads e) p via q → IsEntered q
  walk_enters p [] q walk = edge_enters p q walk
  walk_enters p (c ∷ via) q walk = walk_enters c via q walk.1

  entered_walk : (p : K) (via : List K) (q : K) → IsEntered p → Walk (Reads e) p via q → Walk LooplessEdge p via q
  entered_walk p [] q entered walk = entered_edge p q entered walk
  entered_walk p (c ∷ via) q entered walk = (entered_edge p c entered walk.0, entered_walk c via q (edge_enters p c walk.0) walk.1)

  loopless_walk : (p : K) (via : List K) (q : K) → Walk LooplessEdge p via q → Walk (Edge e) p via q
  loopless_walk p [] q walk = walk.1
  loopless_walk p (c ∷ via) q walk = (walk.0.1, loopless_walk c via q walk.1)

  no_loop : (p : K) → ¬ Reaches LooplessEdge p p
  no_loop p ([], walk) = walk.0 ([], walk.1)
  no_loop p (c ∷ via, walk) = walk.0.0 (c ∷ via, loopless_walk p (c ∷ via) p walk)

  -- no property reads itself, be it through others
  no_read_loop : (p : K) → ¬ Reaches (Reads e) p p
  no_read_loop p (via, walk) = no_loop p (via, entered_walk p via p (walk_enters p via p walk) walk)

  read_from : (p q : K) → Reads e p q → In p e.declarations.names
  read_from p q (inl (loopless, edge)) = edge_from e laws.named p q edge
  read_from p q (inr size) = some_declared e laws.named p size.1.declared

  module _ (v w : K → Outcome T V) (p : K) (same : (q : K) → Reads e p q → (v q ≡ w q) × IsSound q (v q)) (pieces : Pieces K T) (is : e.declarations.pieces p ≡ Some pieces) (loopless : ¬ DependsOnItself e p) where
    sound_there : (q : K) → RefersTo pieces q → IsSound q (v q)
    sound_there q refers = (same q (inl (loopless, inl (pieces, is, refers)))).1

    held : (list : List T) (u : U) → substituted e v pieces ≡ Ok list → e.words.is_font_unit u ≡ true → HasUnit e.words list u → Holds e p u
    held = unit_held v p pieces is sound_there

    is_declared : IsSome (e.declarations.pieces p)
    is_declared = subst (λ o. IsSome o) (sym is) refl

    -- the list reads alike, at the one font size and at the other
    pub reads_same : (list : List T) → substituted e v pieces ≡ Ok list → e.properties.is_loose p ≡ false → e.values.reads p (font_size_for e v p) (trim e.words list) ≡ e.values.reads p (font_size_for e w p) (trim e.words list)
    reads_same list sub_is firm = by_size (e.properties.is_same p e.properties.font_size) refl
      where
        at_custom : e.properties.is_custom p ≡ true → (long : Bool) → e.properties.has_lengths p ≡ long → e.values.reads p (e.values.font_size_of (v e.properties.font_size)) (trim e.words list) ≡ e.values.reads p (e.values.font_size_of (w e.properties.font_size)) (trim e.words list)
        at_custom custom false long = laws.matching.reads_plain p (e.values.font_size_of (v e.properties.font_size)) (e.values.font_size_of (w e.properties.font_size)) (trim e.words list) firm custom long
        at_custom custom true long =
            elim (list_font_unit e.words (trim e.words list)) [
              | inl some ↦ ap (λ o. e.values.reads p (e.values.font_size_of o) (trim e.words list)) (same e.properties.font_size (inl (
                loopless,
                inr (
                  refl,
                  record {
                    declared = is_declared;
                    is_typed = firm;
                    custom = custom;
                    has_lengths = long;
                    unit = some.0;
                    relative = some.1;
                    held = held list some.0 sub_is some.1 (HasUnit-trim e.words list some.0 some.2);
                  },
                ),
              ))).0
              | inr none ↦ laws.matching.reads_alike p (e.values.font_size_of (v e.properties.font_size)) (e.values.font_size_of (w e.properties.font_size)) (trim e.words list) firm custom none
            ]

        by_custom : ¬ (p ≡ e.properties.font_size) → (b : Bool) → e.properties.is_custom p ≡ b → e.values.reads p (e.values.font_size_of (v e.properties.font_size)) (trim e.words list) ≡ e.values.reads p (e.values.font_size_of (w e.properties.font_size)) (trim e.words list)
        by_custom other true custom = at_custom custom (e.properties.has_lengths p) refl
        by_custom other false table =
            ap (λ o. e.values.reads p (e.values.font_size_of o) (trim e.words list)) (same e.properties.font_size (inr (refl, record { ordinary = table; other = other; declared = is_declared }))).0

        by_size : (b : Bool) → e.properties.is_same p e.properties.font_size ≡ b → e.values.reads p (cond (e.properties.is_same p e.properties.font_size) e.values.parent_font_size (e.values.font_size_of (v e.properties.font_size))) (trim e.words list) ≡ e.values.reads p (cond (e.properties.is_same p e.properties.font_size) e.values.parent_font_size (e.values.font_size_of (w e.properties.font_size))) (trim e.words list)
        by_size true is_size = rw is_size refl
        by_size false other = rw other (by_custom (λ h. clash (e.properties.is_same p e.properties.font_size) ((laws.named.same p e.properties.font_size).1 h) other) (e.properties.is_custom p) refl)

    matched_sound : e.properties.is_loose p ≡ false → (m : Matched V) → ((value : V) → m ≡ fit value → e.properties.is_custom p ≡ true → IsPlainValue e value) → IsSound p (of_match e p m)
    matched_sound firm no _ = invalid_sound p
    matched_sound firm out _ = undeclared_sound p (λ loose. absurd (clash (e.properties.is_loose p) loose firm))
    matched_sound firm (fit value) plain = kept_sound p (typed value) (firm, plain value refl) (λ loose u font has. absurd (clash (e.properties.is_loose p) loose firm))

    trimmed_sound : (list : List T) → substituted e v pieces ≡ Ok list → keyword_of e.words list ≡ None → e.properties.is_loose p ≡ true → IsSound p (tokens (trim e.words list))
    trimmed_sound list sub_is plain loose =
        kept_sound p (tokens (trim e.words list)) (loose, keyword_of-trim e.words list ∙ plain) (λ _ u font has.
        let own : trim e.words list ≡ has.0 = let h = has.1 in cc in
        held list u sub_is font (HasUnit-trim e.words list u (subst (λ x. HasUnit e.words x u) (sym own) has.2)))

    -- both right sides are equal, and sound
    list_step : (list : List T) → substituted e v pieces ≡ Ok list → (read_list e p (font_size_for e v p) list (keyword_of e.words list) ≡ read_list e p (font_size_for e w p) list (keyword_of e.words list)) × IsSound p (read_list e p (font_size_for e v p) list (keyword_of e.words list))
    list_step list sub_is = by_word (keyword_of e.words list) refl
      where
        by_loose : keyword_of e.words list ≡ None → (b : Bool) → e.properties.is_loose p ≡ b → (read_plainly e p (font_size_for e v p) list b ≡ read_plainly e p (font_size_for e w p) list b) × IsSound p (read_plainly e p (font_size_for e v p) list b)
        by_loose plain true loose = (refl, trimmed_sound list sub_is plain loose)
        by_loose plain false firm = (ap (of_match e p) (reads_same list sub_is firm), matched_sound firm (e.values.reads p (font_size_for e v p) (trim e.words list)) (λ value value_is custom. laws.matching.plain_value p (font_size_for e v p) (trim e.words list) value firm custom value_is))

        declared_word : (word : Keyword) → keyword_of e.words list ≡ Some word → HoldsKeyword e p
        declared_word word word_is = (pieces, is, sub_keyword e.words (λ q. tokens_of e (v q)) pieces list word sub_is word_is (λ q used refers used_is. (sound_there q refers (laws.named.refers_custom p q (pieces, is, refers)) used used_is).0))

        by_word : (o : Option Keyword) → keyword_of e.words list ≡ o → (read_list e p (font_size_for e v p) list o ≡ read_list e p (font_size_for e w p) list o) × IsSound p (read_list e p (font_size_for e v p) list o)
        by_word (Some word) word_is =
            (refl, kept_sound p (keyword_value e p word) (keyword_kept p word) (λ loose u font has. keyword_held p word u loose (declared_word word word_is) has))
        by_word None plain = by_loose plain (e.properties.is_loose p) refl

    sub_step : (outcome : Result (List T) K) → substituted e v pieces ≡ outcome → (given_list e p (font_size_for e v p) outcome ≡ given_list e p (font_size_for e w p) outcome) × IsSound p (given_list e p (font_size_for e v p) outcome)
    sub_step (Err n) sub_is = (refl, invalid_sound p)
    sub_step (Ok list) sub_is = by_length (fits_limit e p list)
      where
        by_length : (b : Bool) → (within e p (font_size_for e v p) list b ≡ within e p (font_size_for e w p) list b) × IsSound p (within e p (font_size_for e v p) list b)
        by_length true = list_step list sub_is
        by_length false = (refl, invalid_sound p)

    declared_step : (given_list e p (font_size_for e v p) (substituted e v pieces) ≡ given_list e p (font_size_for e w p) (substituted e w pieces)) × IsSound p (given_list e p (font_size_for e v p) (substituted e v pieces))
    declared_step =
        let here = sub_step (substituted e v pieces) refl in
        (here.0 ∙ ap (given_list e p (font_size_for e w p)) (sub-agree (λ q. tokens_of e (v q)) (λ q. tokens_of e (w q)) pieces (λ q refers. ap (tokens_of e) (same q (inl (loopless, inl (pieces, is, refers)))).0)), here.1)

  abbrev pub decide : (p : K) → DependsOnItself e p ⊎ (¬ DependsOnItself e p)
  decide p = depends_or_not e laws.named p

  next_step : (v w : K → Outcome T V) (p : K) → ((q : K) → Reads e p q → (v q ≡ w q) × IsSound q (v q)) → (next_outcome e decide v p ≡ next_outcome e decide w p) × IsSound p (next_outcome e decide v p)
  next_step v w p same = by_declaration (e.declarations.pieces p) refl
    where
      by_choice : (pieces : Pieces K T) → e.declarations.pieces p ≡ Some pieces → (choice : DependsOnItself e p ⊎ (¬ DependsOnItself e p)) → (pick choice (invalid_value e p) (given_list e p (font_size_for e v p) (substituted e v pieces)) ≡ pick choice (invalid_value e p) (given_list e p (font_size_for e w p) (substituted e w pieces))) × IsSound p (pick choice (invalid_value e p) (given_list e p (font_size_for e v p) (substituted e v pieces)))
      by_choice pieces is (inl loops) = (refl, invalid_sound p)
      by_choice pieces is (inr loopless) = declared_step v w p same pieces is loopless

      by_declaration : (o : Option (Pieces K T)) → e.declarations.pieces p ≡ o → (value_by_declaration e decide v p o ≡ value_by_declaration e decide w p o) × IsSound p (value_by_declaration e decide v p o)
      by_declaration None is = (refl, undeclared_sound p (λ loose. is))
      by_declaration (Some pieces) is = by_choice pieces is (decide p)

  -- the equations read along a graph without loops
  pub equations_read : solutions.Reads e.declarations.names (Reads e) (next_outcome e decide) IsSound
  equations_read = record { begins = read_from; loopless = no_read_loop; step = next_step }
