-- What the code comes to of a declaration is what the equations say of it.
use Rattle.std.proofs.Common.{◌≡◌, ℕ, ◌<◌, ◌≤◌, ◌↔◌, Bool, true, false, cond, List, [], ◌∷◌, length, Option, Some, None, Result, Ok, Err, refl, sym, ◌∙◌, ap, subst}
use Rattle.std.specs.Prelude.{◌||◌, option_map}
use Rattle.cv_spec_text.specs.declared.token.Token.{Token}
use Rattle.cv_component.specs.Parts.{trim}
use Rattle.cv_calc.specs.declared.unit.Unit.{Unit as Measure}
use Rattle.cv_numeric.specs.declared.matched.Matched.{Matched as Answer}
use Rattle.cv_numeric.specs.declared.matched.Matched.TheVariants as answer
use Rattle.cv_value.specs.declared.typed.Typed.{Typed}
use Rattle.cv_property.specs.declared.property.Property.TheVariants.{FontSize}
use Rattle.cv_spec_element.specs.Keywords.{Keyword, initial, inherit, unset, revert, revert_layer, inherited, defaulted, by_keyword}
use Rattle.cv_spec_element.specs.Pieces.{Pieces, sub}
use Rattle.cv_spec_element.specs.Words.{lone_keyword, keyword_of}
use Rattle.cv_spec_element.specs.Words as words
use Rattle.cv_spec_element.specs.Element.{Element, Outcome, Matched, no, out, fit, tokens}
use Rattle.cv_spec_element.specs.Dependencies.{tokens_of, DependsOnItself, keyword_value, undeclared_value}
use Rattle.cv_spec_element.specs.Valuation.{font_size_for, matched, SubIs, IsSubstituted, IsMatched, IsInvalid, IsOutOfRange, invalid_value, Uses, uses_keyword, uses_list, uses_value}
use Rattle.cv_spec_element.specs.Valuation as valuation
use Rattle.cv_var.specs.Checked.{IsChecked}
use Rattle.cv_var.specs.References.{pieces_of, has_var, PiecesAreRead}
use Rattle.cv_valuation.specs.declared.computed.Cause.{Cause}
use Rattle.cv_valuation.specs.declared.computed.Cause.TheVariants as reported
use Rattle.cv_valuation.specs.declared.key.Key.{Key}
use Rattle.cv_valuation.specs.declared.key.Key.TheVariants.{Custom, Table}
use Rattle.cv_valuation.specs.declared.outcome.Outcome.{Outcome as Kept}
use Rattle.cv_valuation.specs.declared.outcome.Outcome.TheVariants as kept
use Rattle.cv_valuation.specs.Keys.{same_key}
use Rattle.cv_valuation.specs.Valuations.{Values, outcome_at, outcome_tokens}
use Rattle.cv_props.specs.declared.decls.Decl.{Decl}
use Rattle.cv_props.specs.Registered.{Registered}
use Rattle.cv_props.specs.Winners.{Declarations, declaration_of}
use Rattle.cv_spec_valuation.specs.declared.place.Place.{Place}
use Rattle.cv_spec_valuation.specs.Registered.{as_read, is_loose, inherits, initial_at}
use Rattle.cv_spec_valuation.specs.Contexts.{told, size_of, size_above, reads_at}
use Rattle.cv_spec_valuation.specs.Element.{keyed, pieces_in, words_at, values_of, parent_in, font_size_of, the_element}
use Rattle.cv_spec_valuation.specs.Computed.{cause_of}
use Rattle.cv_element.specs.declared.judging.Verdict.{Verdict}
use Rattle.cv_element.specs.declared.judging.Verdict.TheVariants.{Used, Refused, OutOfRange}
use Rattle.cv_element.specs.Answers.{is_counted, IsAnswer}
use Rattle.cv_element.specs.Judging.{em_for, verdict_of, plain_verdict, word_verdict, verdict_on, verdict_after}
use Rattle.cv_element.specs.Keywords.{alone}
use Rattle.cv_element.specs.Settling.{value_at, value_for}
use Rattle.cv_element.specs.Values.{AnElement, held_by, start_at, invalid_at}
use Rattle.cv_element.proofs.Keying.{with_key, sub-keyed, sub-agrees}
use Rattle.cv_element.proofs.Referring.{reference_var}
use Rattle.cv_element.proofs.Stepping.{IsJudged, judged_value}
use Rattle.cv_element.proofs.Trimming.{trim_same}

-- ---- values by keyword

inherited_read : (first : Kept) (parent : Option Kept) → as_read (inherited first parent) ≡ inherited (as_read first) (option_map as_read parent)
inherited_read first None = refl
inherited_read first (Some value) = refl

defaulted_read : (first : Kept) (parent : Option Kept) (b : Bool) → as_read (defaulted first parent b) ≡ defaulted (as_read first) (option_map as_read parent) b
defaulted_read first parent true = inherited_read first parent
defaulted_read first parent false = refl

keyword_read : (first : Kept) (parent : Option Kept) (b : Bool) (w : Keyword) → as_read (by_keyword first parent b w) ≡ by_keyword (as_read first) (option_map as_read parent) b w
keyword_read first parent b initial = refl
keyword_read first parent b inherit = inherited_read first parent
keyword_read first parent b unset = defaulted_read first parent b
keyword_read first parent b revert = defaulted_read first parent b
keyword_read first parent b revert_layer = defaulted_read first parent b

parent_read : (parent : Option Values) (key : Key) → option_map as_read (held_by parent key) ≡ parent_in parent key
parent_read None key = refl
parent_read (Some values) key = refl

size_read : (o : Kept) → font_size_of (as_read o) ≡ size_of o
size_read (kept.Tokens list) = refl
size_read (kept.Value value) = refl
size_read kept.Invalid = refl

pub lone_alone : (place : Place) (list : List Token) → lone_keyword (words_at place) list ≡ alone list
lone_alone place [] = refl
lone_alone place (t ∷ []) = refl
lone_alone place (t ∷ second ∷ rest) = refl

module _ (registered : Registered) (decls : Declarations) (parent : Option Values) (place : Place) (most : ℕ) where
  abbrev e : AnElement
  e = the_element registered decls parent place most

  pub keyword_value_read : (key : Key) (w : Keyword) → as_read (by_keyword (initial_at registered key) (held_by parent key) (inherits registered key) w) ≡ keyword_value e key w
  keyword_value_read key w =
      keyword_read (initial_at registered key) (held_by parent key) (inherits registered key) w
      ∙ ap (λ p. by_keyword (as_read (initial_at registered key)) p (inherits registered key) w) (parent_read parent key)

  pub start_read : (key : Key) → as_read (start_at registered parent key) ≡ undeclared_value e key
  start_read key = keyword_value_read key unset

  invalid_read : (key : Key) → as_read (invalid_at registered parent key) ≡ invalid_value e key
  invalid_read key = by (is_loose registered key)
    where
      by : (b : Bool) → as_read (cond b kept.Invalid (start_at registered parent key)) ≡ cond b (as_read kept.Invalid) (undeclared_value e key)
      by true = refl
      by false = start_read key

  pub value_read : (key : Key) (v : Verdict) → as_read (value_for registered parent key v) ≡ judged_value e key v
  value_read key (Used outcome) = refl
  value_read key (Refused cause) = invalid_read key
  value_read key OutOfRange = start_read key

  -- ---- what is read of the values

  read_one : (o : Kept) → tokens_of e (as_read o) ≡ outcome_tokens o
  read_one (kept.Tokens list) = refl
  read_one (kept.Value value) = refl
  read_one kept.Invalid = refl

  sub_read : (values : Values) (pieces : Pieces (List ℕ) Token) → sub (λ q. tokens_of e (values_of values q)) (keyed pieces) ≡ with_key (sub (value_at values) pieces)
  sub_read values pieces =
      sub-keyed (λ q. tokens_of e (values_of values q)) pieces
      ∙ ap with_key (sub-agrees (λ name. tokens_of e (values_of values (Custom name))) (value_at values) pieces (λ name refers. read_one (outcome_at values (Custom name))))

  size_for : (values : Values) (key : Key) → font_size_for e (values_of values) key ≡ em_for parent values key
  size_for values key = ap (λ size. cond (same_key key (Table FontSize)) (size_above parent) size) (size_read (outcome_at values (Table FontSize)))

  module _ (laws : PiecesAreRead) (key : Key) (d : Decl) (checked : IsChecked d.value) (declared : declaration_of decls key ≡ Some d) (values : Values) (cyclic : Bool) (flag : (cyclic ≡ true) ↔ DependsOnItself e key) where
    abbrev earlier : Key → Outcome Token Typed
    earlier = values_of values

    substituted_is : valuation.is_substituted (pieces_in (declaration_of decls key)) ≡ has_var d.value
    substituted_is = ap (λ o. valuation.is_substituted (pieces_in o)) declared ∙ reference_var laws d.value checked.references

    counted_as : (k : Key) → valuation.is_substituted (pieces_in (declaration_of decls k)) ≡ has_var d.value → valuation.is_counted e k ≡ is_counted k d.value
    counted_as (Custom name) is = refl
    counted_as (Table property) is = is

    counted_is : valuation.is_counted e key ≡ is_counted key d.value
    counted_is = counted_as key substituted_is

    SubIs-read : (outcome : Result (List Token) (List ℕ)) → sub (value_at values) (pieces_of d.value) ≡ outcome → SubIs e earlier key (with_key outcome)
    SubIs-read outcome is = (keyed (pieces_of d.value), ap pieces_in declared, sub_read values (pieces_of d.value) ∙ ap with_key is)

    loopless : cyclic ≡ false → ¬ DependsOnItself e key
    loopless none depends = let yes : cyclic ≡ true = flag.1 depends in let clash : true ≡ false = sym yes ∙ none in cc

    module _ (list : List Token) (is_answer : IsAnswer (is_counted key d.value) cyclic (sub (value_at values) (pieces_of d.value)) most (Ok list)) where
      substituted : IsSubstituted e earlier key list
      substituted = record { loopless = loopless is_answer.0; sub_is = SubIs-read (Ok list) is_answer.1; within = λ counted. is_answer.2 (sym counted_is ∙ counted) }

      word_is : keyword_of e.words list ≡ alone (trim list)
      word_is = lone_alone place (words.trim (words_at place) list) ∙ ap alone (trim_same place list)

      matched_is : matched e earlier key list ≡ told (reads_at registered parent place key (em_for parent values key) (trim list))
      matched_is =
          ap (λ size. told (reads_at registered parent place key size (words.trim (words_at place) list))) (size_for values key)
          ∙ ap (λ l. told (reads_at registered parent place key (em_for parent values key) l)) (trim_same place list)

      by_answer : keyword_of e.words list ≡ None → is_loose registered key ≡ false → (a : Answer Typed) → matched e earlier key list ≡ told a → IsJudged e earlier key (verdict_of a)
      by_answer none firm answer.No is = (list, record { substituted = substituted; no_keyword = none; is_typed = firm; matched_is = is })
      by_answer none firm answer.Out is = (list, record { substituted = substituted; no_keyword = none; is_typed = firm; matched_is = is })
      by_answer none firm (answer.Fit value) is = uses_value list value (record { substituted = substituted; no_keyword = none; is_typed = firm; matched_is = is }) refl

      by_loose : keyword_of e.words list ≡ None → (b : Bool) → is_loose registered key ≡ b → IsJudged e earlier key (plain_verdict registered parent place values key (trim list) b)
      by_loose none true loose = uses_list list substituted none loose (ap tokens (sym (trim_same place list)))
      by_loose none false firm = by_answer none firm (reads_at registered parent place key (em_for parent values key) (trim list)) matched_is

      by_word : (o : Option Keyword) → keyword_of e.words list ≡ o → IsJudged e earlier key (word_verdict registered parent place values key (trim list) o)
      by_word None none = by_loose none (is_loose registered key) refl
      by_word (Some w) word = uses_keyword list w substituted word (keyword_value_read key w)

      judged_list : IsJudged e earlier key (verdict_on registered parent place values key list)
      judged_list = by_word (alone (trim list)) word_is

    -- a refusal is the cause
    invalid_for : (cause : Cause) → IsAnswer (is_counted key d.value) cyclic (sub (value_at values) (pieces_of d.value)) most (Err cause) → IsInvalid e earlier key (cause_of cause)
    invalid_for reported.Cycle is_answer = flag.0 is_answer
    invalid_for (reported.Missing n) is_answer = (loopless is_answer.0, SubIs-read (Err n) is_answer.1)
    invalid_for (reported.Limit k) is_answer = (
      loopless is_answer.0,
      record {
        list = is_answer.1.0;
        sub_is = SubIs-read (Ok is_answer.1.0) is_answer.1.1;
        count_is = is_answer.1.2;
        counted = counted_is ∙ is_answer.1.4;
        over = is_answer.1.3;
      },
    )
    invalid_for reported.Mismatch is_answer = absurd is_answer

    pub judged : (answer : Result (List Token) Cause) → IsAnswer (is_counted key d.value) cyclic (sub (value_at values) (pieces_of d.value)) most answer → IsJudged e earlier key (verdict_after registered parent place values key answer)
    judged (Ok list) is_answer = judged_list list is_answer
    judged (Err cause) is_answer = invalid_for cause is_answer
