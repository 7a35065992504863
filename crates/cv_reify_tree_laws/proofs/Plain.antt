-- A declaration of an ordinary property without references is what is asked against the grammar.
use Rattle.std.proofs.Common.{◌≡◌, ℕ, ◌≤◌, Bool, true, false, List, [], ◌∷◌, ◌++◌, length, Option, Some, None, Result, Ok, Err, ◌⊎◌, inl, inr, refl, sym, ◌∙◌, ap, subst}
use Rattle.std.specs.Prelude.{◌||◌}
use Rattle.cv_spec_text.specs.declared.token.Token.{Token}
use Rattle.cv_calc.specs.declared.context.Context.{Context}
use Rattle.cv_calc.specs.declared.unit.Unit.{Unit as Measure}
use Rattle.cv_spec_ratio.specs.Ratio.{Ratio}
use Rattle.cv_component.specs.Parts.{trim}
use Rattle.cv_spec_element.specs.Pieces.{Pieces, finish, token, reference, reference_or, RefersTo, joined, sub}
use Rattle.cv_spec_element.specs.Walks.{Walk}
use Rattle.cv_spec_element.specs.Words.{keyword_of, lone_keyword}
use Rattle.cv_spec_element.specs.Element.{Element, Outcome, out}
use Rattle.cv_spec_element.specs.Dependencies.{DependsOnItself, Edge, ReadsFontSize, Refers, tokens_of}
use Rattle.cv_spec_element.specs.Valuation.{IsMatched, IsSubstituted, SubIs, has_reference, is_counted, is_substituted, font_size_for}
use Rattle.cv_spec_element.specs.Valuation as valuation
use Rattle.cv_var.specs.References.{PiecesAreRead, bad_var, has_var, pieces_of}
use Rattle.cv_value.specs.declared.typed.Typed.{Typed}
use Rattle.cv_numeric.specs.declared.matched.Matched.{Matched}
use Rattle.cv_numeric.specs.declared.matched.Matched.TheVariants as answer
use Rattle.cv_numeric.specs.Matched.{mapped}
use Rattle.cv_property.specs.declared.property.Property.{Property}
use Rattle.cv_property.specs.Computed.{computed_of}
use Rattle.cv_property.specs.Grammar.{matching_property}
use Rattle.cv_valuation.specs.declared.key.Key.{Key}
use Rattle.cv_valuation.specs.declared.key.Key.TheVariants.{Table}
use Rattle.cv_valuation.specs.Valuations.{Values}
use Rattle.cv_props.specs.declared.decls.Decl.{Decl}
use Rattle.cv_props.specs.Registered.{Registered}
use Rattle.cv_props.specs.Winners.{Declarations, declaration_of}
use Rattle.cv_spec_valuation.specs.declared.place.Place.{Place}
use Rattle.cv_spec_valuation.specs.Contexts.{context_of, inherited_from, told}
use Rattle.cv_spec_valuation.specs.Element.{keyed, pieces_in, the_element, words_at}
use Rattle.cv_element.proofs.Judged.{lone_alone}
use Rattle.cv_element.proofs.Keeping.{alone_none}
use Rattle.cv_element.proofs.Referring.{reference_var}
use Rattle.cv_element.proofs.Trimming.{trim_same}
use Rattle.cv_reify_laws.specs.Ranges.{IsOut}
use Rattle.cv_reify_tree_laws.proofs.Styles.{IsStyled}
use Rattle.cv_reify_tree_laws.proofs.Trimmed.{IsTrimmed}

-- ---- pieces without references

refers_nowhere : {N : Type 0} → (pieces : Pieces N Token) (q : N) → has_reference pieces ≡ false → RefersTo pieces q → ⊥
refers_nowhere finish q none refers = refers
refers_nowhere (token t rest) q none refers = refers_nowhere rest q none refers
refers_nowhere (reference n rest) q none refers = cc
refers_nowhere (reference_or n fallback rest) q none refers = cc

joined_back : {N : Type 0} → (t : Token) (back : Result (List Token) N) (list : List Token) → joined (Ok (t ∷ [])) back ≡ Ok list → (rest : List Token) × (back ≡ Ok rest) × (t ∷ rest ≡ list)
joined_back t (Ok rest) list is = (rest, refl, cc)
joined_back t (Err n) list is = cc

-- what substitution makes of them is the same, whatever the names are
keyed_sub : (pieces : Pieces (List ℕ) Token) → has_reference (keyed pieces) ≡ false → (values : List ℕ → Option (List Token)) (others : Key → Option (List Token)) (list : List Token)
    → sub values pieces ≡ Ok list → sub others (keyed pieces) ≡ Ok list
keyed_sub finish none values others list is = cc
keyed_sub (token t rest) none values others list is =
    let back = joined_back t (sub values rest) list is in
    ap (joined (Ok (t ∷ []))) (keyed_sub rest none values others back.0 back.1) ∙ ap Ok back.2
keyed_sub (reference n rest) none values others list is = cc
keyed_sub (reference_or n fallback rest) none values others list is = cc

-- ---- the element

module _ (laws : PiecesAreRead) (registered : Registered) (decls : Declarations) (parent : Option Values) (place : Place) (most : ℕ) (p : Property) (d : Decl) (declared : declaration_of decls (Table p) ≡ Some d) (styled : IsStyled (Table p) d) (is : IsOut p d.value) where
  abbrev e : Element Key Token Typed Measure Ratio
  e = the_element registered decls parent place most

  no_reference : has_reference (keyed (pieces_of d.value)) ≡ false
  no_reference = reference_var laws d.value styled.references ∙ is.no_var

  pieces_are : pieces_in (declaration_of decls (Table p)) ≡ Some (keyed (pieces_of d.value))
  pieces_are = ap pieces_in declared

  no_refers : (q : Key) → Refers e (Table p) q → ⊥
  no_refers q (pieces, pieces_is, refers) =
      let both : Some pieces ≡ Some (keyed (pieces_of d.value)) = sym pieces_is ∙ pieces_are in
      let same : pieces ≡ keyed (pieces_of d.value) = cc in
      refers_nowhere (keyed (pieces_of d.value)) q no_reference (subst (λ x. RefersTo x q) same refers)

  no_edge : (q : Key) → Edge e (Table p) q → ⊥
  no_edge q (inl refers) = no_refers q refers
  no_edge q (inr (size, reads)) = let clash : false ≡ true = reads.custom in cc

  loopless : ¬ DependsOnItself e (Table p)
  loopless ([], walk) = no_edge (Table p) walk
  loopless (c ∷ via, walk) = no_edge c walk.0

  uncounted : is_counted e (Table p) ≡ false
  uncounted = ap is_substituted pieces_are ∙ no_reference

  module _ (values : Key → Outcome Token Typed) where
    sub_is : SubIs e values (Table p) (Ok d.value)
    sub_is = (keyed (pieces_of d.value), pieces_are, keyed_sub (pieces_of d.value) no_reference (λ n. None) (λ q. tokens_of e (values q)) d.value (laws.plain d.value is.no_var (λ n. None)))

    substituted : IsSubstituted e values (Table p) d.value
    substituted = record {
      loopless = loopless;
      sub_is = sub_is;
      within = λ counted. absurd (let clash : true ≡ false = sym counted ∙ uncounted in cc);
    }

    no_keyword : keyword_of (words_at place) d.value ≡ None
    no_keyword = ap (lone_keyword (words_at place)) (trim_same place d.value) ∙ lone_alone place (trim d.value) ∙ alone_none (trim d.value) is.no_keyword

    told_out : (m : Matched Typed) → m ≡ answer.Out → told (mapped (computed_of p (inherited_from parent p)) m) ≡ out
    told_out m same = ap (λ x. told (mapped (computed_of p (inherited_from parent p)) x)) same

    matched_out : valuation.matched e values (Table p) d.value ≡ out
    matched_out =
        ap (λ list. told (mapped (computed_of p (inherited_from parent p)) (matching_property p (context_of place (font_size_for e values (Table p))) list))) (trim_same place d.value ∙ styled.trimmed)
        ∙ told_out (matching_property p (context_of place (font_size_for e values (Table p))) d.value) (is.out (context_of place (font_size_for e values (Table p))))

    pub is_out_of_range : valuation.IsOutOfRange e values (Table p)
    is_out_of_range = (d.value, record { substituted = substituted; no_keyword = no_keyword; is_typed = refl; matched_is = matched_out })
