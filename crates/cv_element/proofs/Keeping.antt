-- What is settled may stand under the registry, and no token of a substituted list begins a `var()`.
use Rattle.std.proofs.Common.{◌≡◌, ℕ, Bool, true, false, cond, List, [], ◌∷◌, ◌++◌, Option, Some, None, is_some, Result, Ok, Err, ◌⊎◌, inl, inr, refl, sym, ◌∙◌, ap, subst}
use Rattle.std.specs.Prelude.{All, codes, ◌||◌, IfOk, OnOk}
use Rattle.cv_spec_text.specs.Keywords.{is_word, is_css_wide_keyword, is_custom}
use Rattle.cv_spec_text.specs.Splits.{IsSpelt}
use Rattle.cv_spec_text.specs.declared.token.Token.{Token}
use Rattle.cv_spec_text.specs.declared.token.Token.TheVariants.{Ident}
use Rattle.cv_component.specs.Parts.{trim}
use Rattle.cv_value_laws.specs.Values.{is_keyword}
use Rattle.cv_value.specs.Text.{typed_text}
use Rattle.cv_value_laws.specs.Functions.{ValuesAreTaken}
use Rattle.cv_spec_element.specs.Keywords.{Keyword, initial, inherit, unset, revert, revert_layer}
use Rattle.cv_spec_element.specs.Pieces.{Pieces, finish, token, reference, reference_or, value_or, joined, sub}
use Rattle.cv_var.specs.References.{has_var, HoldNoVar}
use Rattle.cv_valuation.specs.declared.key.Key.{Key}
use Rattle.cv_valuation.specs.declared.key.Key.TheVariants.{Custom, Table}
use Rattle.cv_valuation.specs.declared.outcome.Outcome.{Outcome}
use Rattle.cv_valuation.specs.declared.outcome.Outcome.TheVariants.{Tokens, Value, Invalid}
use Rattle.cv_valuation.specs.Keys.{is_key}
use Rattle.cv_valuation.specs.TableLaws.{PropertiesAreFound}
use Rattle.cv_valuation.specs.Valuations.{Values, outcome_at, outcome_tokens, with_outcome, MayKeep}
use Rattle.cv_valuation.specs.ValuationLaws.{OutcomesAreByKey}
use Rattle.cv_props.specs.Registered.{Registered}
use Rattle.cv_spec_valuation.specs.Registered.{is_loose}
use Rattle.cv_spec_valuation.specs.Computed.{MayStand, StandUnder}
use Rattle.cv_spec_valuation.specs.Element.{keyword, keyword_named}
use Rattle.cv_valuation.specs.declared.computed.Cause.{Cause}
use Rattle.cv_element.specs.Answers.{IsAnswer}
use Rattle.cv_element.specs.Keywords.{alone}
use Rattle.cv_element.specs.Settling.{value_at}
use Rattle.cv_element.proofs.SameKeys.{same_or_not}
use Rattle.cv_element.proofs.TokenKinds.{ident_or_not, IsNoKeyword, two_no_keyword}
use Rattle.cv_element.proofs.Trimming.{trim_twice, spelt-trim, has_var-one, has_var-append, has_var-trim}

-- ---- keywords

named_some : (a b c d e : Bool) → (a || b || c || d || e) ≡ is_some (cond a (Some initial) (cond b (Some inherit) (cond c (Some unset) (cond d (Some revert) (cond e (Some revert_layer) None)))))
named_some true b c d e = refl
named_some false true c d e = refl
named_some false false true d e = refl
named_some false false false true e = refl
named_some false false false false true = refl
named_some false false false false false = refl

pub named-is : (name : List ℕ) → is_css_wide_keyword name ≡ is_some (keyword_named name)
named-is name = named_some (is_word (codes "initial") name) (is_word (codes "inherit") name) (is_word (codes "unset") name) (is_word (codes "revert") name) (is_word (codes "revert-layer") name)

-- a list is a keyword to both definitions or to neither
pub is_keyword-alone : (list : List Token) → is_keyword list ≡ is_some (alone list)
is_keyword-alone [] = refl
is_keyword-alone (t ∷ second ∷ rest) = two_no_keyword t second rest
is_keyword-alone (t ∷ []) = by (ident_or_not t)
  where
    by : ((name : List ℕ) × (t ≡ Ident name)) ⊎ IsNoKeyword t → is_keyword (t ∷ []) ≡ is_some (alone (t ∷ []))
    by (inl (name, is)) = subst (λ x. is_keyword (x ∷ []) ≡ is_some (alone (x ∷ []))) (sym is) (named-is name)
    by (inr none) = none.alone ∙ sym (ap is_some none.keyword_is)

none_is : (o : Option Keyword) → is_some o ≡ false → o ≡ None
none_is None is = refl
none_is (Some w) is = cc

pub alone_none : (list : List Token) → is_keyword list ≡ false → alone list ≡ None
alone_none list none = none_is (alone list) (sym (is_keyword-alone list) ∙ none)

-- ---- what stands

custom_of : (registered : Registered) (key : Key) → is_key key ≡ true → is_loose registered key ≡ true → (name : List ℕ) × (key ≡ Custom name) × (is_custom name ≡ true)
custom_of registered (Custom name) is loose = (name, refl, is)
custom_of registered (Table p) is loose = cc

pub tokens_stand : (registered : Registered) (key : Key) (list trimmed : List Token) → trimmed ≡ trim list → is_key key ≡ true → is_loose registered key ≡ true → All IsSpelt trimmed → has_var list ≡ false → alone trimmed ≡ None → MayStand registered key (Tokens trimmed)
tokens_stand registered key list trimmed made is loose spelt plain none =
    let custom = custom_of registered key is loose in (
      subst (λ k. MayKeep k (Tokens trimmed)) (sym custom.1) (record {
        custom = custom.2;
        spelt = spelt;
        without_var = subst (λ l. has_var l ≡ false) (sym made) (has_var-trim list plain);
        no_keyword = ap (λ l. is_keyword (trim l)) made ∙ ap is_keyword (trim_twice list ∙ sym made) ∙ is_keyword-alone trimmed ∙ ap is_some none;
      }),
      loose,
    )

-- values with one more outcome that may stand
pub stand-with : OutcomesAreByKey → PropertiesAreFound → (registered : Registered) (values : Values) → StandUnder registered values → (key : Key) (outcome : Outcome) → MayStand registered key outcome → StandUnder registered (with_outcome values key outcome)
stand-with by_key found registered values stand key outcome may q =
    elim (same_or_not found q key) [
      | inl same ↦ subst (λ k. MayStand registered k (outcome_at (with_outcome values key outcome) k)) (sym same) (subst (MayStand registered key) (sym (by_key.here values key outcome)) may)
      | inr apart ↦ subst (MayStand registered q) (sym (by_key.elsewhere values key outcome q apart)) (stand q)
    ]

-- ---- no `var()` comes in

plain_outcome : ValuesAreTaken → (key : Key) (outcome : Outcome) → MayKeep key outcome → (list : List Token) → outcome_tokens outcome ≡ Some list → has_var list ≡ false
plain_outcome taken key (Tokens first) may list is = let same : first ≡ list = cc in subst (λ x. has_var x ≡ false) same may.without_var
plain_outcome taken key (Value value) may list is = let same : typed_text value ≡ list = cc in subst (λ x. has_var x ≡ false) same (taken.no_var value)
plain_outcome taken key Invalid may list is = let clash : None ≡ Some list = is in absurd cc

-- no token of a substituted list is a `var(`
abbrev IsPlain : Result (List Token) (List ℕ) → Type 0
IsPlain (Ok list) = has_var list ≡ false
IsPlain (Err name) = Unit {0}

joined-plain : (front back : Result (List Token) (List ℕ)) → IsPlain front → IsPlain back → IsPlain (joined front back)
joined-plain (Err n) back plain_front plain_back = tt
joined-plain (Ok front) (Err n) plain_front plain_back = tt
joined-plain (Ok front) (Ok back) plain_front plain_back = has_var-append front back plain_front plain_back

module _ (values : List ℕ → Option (List Token)) (plain : (name : List ℕ) (list : List Token) → values name ≡ Some list → has_var list ≡ false) where
  value-plain : (name : List ℕ) (other : Result (List Token) (List ℕ)) → IsPlain other → IsPlain (value_or (values name) other)
  value-plain name other plain_other = by (values name) refl
    where
      by : (o : Option (List Token)) → values name ≡ o → IsPlain (value_or o other)
      by None is = plain_other
      by (Some list) is = plain name list is

  sub-plain : (pieces : Pieces (List ℕ) Token) → HoldNoVar pieces → IsPlain (sub values pieces)
  sub-plain finish none = refl
  sub-plain (token t rest) none = joined-plain (Ok (t ∷ [])) (sub values rest) (has_var-one t none.0) (sub-plain rest none.1)
  sub-plain (reference n rest) none = joined-plain (value_or (values n) (Err n)) (sub values rest) (value-plain n (Err n) tt) (sub-plain rest none)
  sub-plain (reference_or n fallback rest) none =
      joined-plain (value_or (values n) (sub values fallback)) (sub values rest) (value-plain n (sub values fallback) (sub-plain fallback none.0)) (sub-plain rest none.1)

pub answer_plain : ValuesAreTaken → (registered : Registered) (values : Values) → StandUnder registered values → (pieces : Pieces (List ℕ) Token) → HoldNoVar pieces → (list : List Token) → sub (value_at values) pieces ≡ Ok list → has_var list ≡ false
answer_plain taken registered values stand pieces none list is =
    subst IsPlain is (sub-plain (value_at values) (λ name first value. plain_outcome taken (Custom name) (outcome_at values (Custom name)) (stand (Custom name)).0 first value) pieces none)

-- what holds of the values that an answer promises holds of the answer's
pub ok_values : {A E X : Type 0} (r : Result A E) (values made : X) (P : X → Type 0) → OnOk r (values ≡ made) → P made → OnOk r (P values)
ok_values (Ok a) values made P is holds = subst P (sym is) holds
ok_values (Err error) values made P is holds = tt

pub answers_plain : ValuesAreTaken → (registered : Registered) (values : Values) → StandUnder registered values → (pieces : Pieces (List ℕ) Token) → HoldNoVar pieces → (counted cyclic : Bool) (limit : ℕ) (answer : Result (List Token) Cause) → IsAnswer counted cyclic (sub (value_at values) pieces) limit answer → IfOk answer (λ list. has_var list ≡ false)
answers_plain taken registered values stand pieces none counted cyclic limit (Ok list) is = answer_plain taken registered values stand pieces none list is.1
answers_plain taken registered values stand pieces none counted cyclic limit (Err cause) is = tt
