-- The tokens of a substituted list are those of texts, and none of them begins a `var()`.
use Rattle.std.proofs.Common.{◌≡◌, ℕ, Bool, true, false, List, [], ◌∷◌, Option, Some, None, Result, Ok, Err, inl, inr, refl, ◌∙◌, ap, subst}
use Rattle.std.specs.Prelude.{All, ◌||◌}
use Rattle.std.proofs.lemmas.List.Elements.{All-from_recursion, recursion_from_All}
use Rattle.cv_spec_text.specs.Splits.{IsSpelt}
use Rattle.cv_spec_text.specs.declared.token.Token.{Token}
use Rattle.cv_value.specs.Text.{typed_text}
use Rattle.cv_value_laws.specs.Functions.{ValuesAreTaken}
use Rattle.cv_value_laws.specs.Keeping.{ValuesMayBeKept}
use Rattle.cv_spec_element.specs.Pieces.{Pieces, finish, token, reference, reference_or, RefersTo, value_or, joined, sub}
use Rattle.cv_var.specs.References.{is_var, has_var, HoldNoVar}
use Rattle.cv_valuation.specs.declared.key.Key.{Key}
use Rattle.cv_valuation.specs.declared.outcome.Outcome.{Outcome}
use Rattle.cv_valuation.specs.declared.outcome.Outcome.TheVariants.{Tokens, Value, Invalid}
use Rattle.cv_valuation.specs.Valuations.{MayKeep, outcome_tokens}
use Rattle.cv_spec_valuation.specs.Element.{keyed}
use Rattle.cv_element_laws.proofs.Pieces.{EachPiece, Each, each-append}

-- a token of a text that begins no `var()`
abbrev pub IsPlain : Token → Type 0
IsPlain t = IsSpelt t × (is_var t ≡ false)

neither : (a b : Bool) → (a || b) ≡ false → (a ≡ false) × (b ≡ false)
neither false b none = (refl, none)
neither true b none = absurd (let clash : true ≡ false = none in cc)

either : (a b : Bool) → a ≡ false → b ≡ false → (a || b) ≡ false
either a b none_a none_b = ap (λ x. x || b) none_a ∙ none_b

plain_by : (list : List Token) → Each IsSpelt list → has_var list ≡ false → Each IsPlain list
plain_by [] spelt none = tt
plain_by (t ∷ rest) spelt none = let both = neither (is_var t) (has_var rest) none in ((spelt.0, both.0), plain_by rest spelt.1 both.1)

pub plain_list : (list : List Token) → All IsSpelt list → has_var list ≡ false → Each IsPlain list
plain_list list spelt none = plain_by list (recursion_from_All IsSpelt list spelt) none

spelt_by : (list : List Token) → Each IsPlain list → Each IsSpelt list
spelt_by [] plain = tt
spelt_by (t ∷ rest) plain = (plain.0.0, spelt_by rest plain.1)

pub list_spelt : (list : List Token) → Each IsPlain list → All IsSpelt list
list_spelt list plain = All-from_recursion IsSpelt list (spelt_by list plain)

pub list_no_var : (list : List Token) → Each IsPlain list → has_var list ≡ false
list_no_var [] plain = refl
list_no_var (t ∷ rest) plain = either (is_var t) (has_var rest) plain.0.1 (list_no_var rest plain.1)

-- the pieces of a list of such tokens, in which each `var()` is a reference
pub plain_pieces : (pieces : Pieces (List ℕ) Token) → EachPiece IsSpelt pieces → HoldNoVar pieces → EachPiece IsPlain pieces
plain_pieces finish spelt none = tt
plain_pieces (token t rest) spelt none = ((spelt.0, none.0), plain_pieces rest spelt.1 none.1)
plain_pieces (reference n rest) spelt none = plain_pieces rest spelt none
plain_pieces (reference_or n fallback rest) spelt none = (plain_pieces fallback spelt.0 none.0, plain_pieces rest spelt.1 none.1)

pub keyed_pieces : (pieces : Pieces (List ℕ) Token) → EachPiece IsPlain pieces → EachPiece IsPlain (keyed pieces)
keyed_pieces finish plain = tt
keyed_pieces (token t rest) plain = (plain.0, keyed_pieces rest plain.1)
keyed_pieces (reference n rest) plain = keyed_pieces rest plain
keyed_pieces (reference_or n fallback rest) plain = (keyed_pieces fallback plain.0, keyed_pieces rest plain.1)

-- ---- what stands for a reference

pub plain_outcome : ValuesAreTaken → ValuesMayBeKept → (key : Key) (outcome : Outcome) → MayKeep key outcome → (list : List Token) → outcome_tokens outcome ≡ Some list → Each IsPlain list
plain_outcome taken may_keep key (Tokens first) may list is =
    let same : first ≡ list = cc in subst (λ x. Each IsPlain x) same (plain_list first may.spelt may.without_var)
plain_outcome taken may_keep key (Value value) may list is =
    let same : typed_text value ≡ list = cc in subst (λ x. Each IsPlain x) same (plain_list (typed_text value) (may_keep.spelt value may.1) (taken.no_var value))
plain_outcome taken may_keep key Invalid may list is = absurd (let clash : None ≡ Some list = is in cc)

-- ---- substitution

abbrev OfList : {N : Type 0} → Result (List Token) N → Type 0
OfList (Ok list) = Each IsPlain list
OfList (Err name) = Unit {0}

of_joined : {N : Type 0} → (front back : Result (List Token) N) → OfList front → OfList back → OfList (joined front back)
of_joined (Err n) back plain_front plain_back = tt
of_joined (Ok front) (Err n) plain_front plain_back = tt
of_joined (Ok front) (Ok back) plain_front plain_back = each-append IsPlain front back plain_front plain_back

of_value : {N : Type 0} → (value : Option (List Token)) (other : Result (List Token) N) → ((list : List Token) → value ≡ Some list → Each IsPlain list) → OfList other → OfList (value_or value other)
of_value None other plain plain_other = plain_other
of_value (Some list) other plain plain_other = plain list refl

of_sub : {N : Type 0} → (values : N → Option (List Token)) (pieces : Pieces N Token) → EachPiece IsPlain pieces → ((q : N) → RefersTo pieces q → (list : List Token) → values q ≡ Some list → Each IsPlain list) → OfList (sub values pieces)
of_sub values finish each plain = tt
of_sub values (token t rest) each plain = of_joined (Ok (t ∷ [])) (sub values rest) (each.0, tt) (of_sub values rest each.1 plain)
of_sub values (reference n rest) each plain =
    of_joined (value_or (values n) (Err n)) (sub values rest) (of_value (values n) (Err n) (plain n (inl refl)) tt) (of_sub values rest each (λ q refers. plain q (inr refers)))
of_sub values (reference_or n fallback rest) each plain =
    of_joined (value_or (values n) (sub values fallback)) (sub values rest) (of_value (values n) (sub values fallback) (plain n (inl refl)) (of_sub values fallback each.0 (λ q refers. plain q (inr (inl refers)))))
    (of_sub values rest each.1 (λ q refers. plain q (inr (inr refers))))

pub plain_substituted : {N : Type 0} → (values : N → Option (List Token)) (pieces : Pieces N Token) → EachPiece IsPlain pieces → ((q : N) → RefersTo pieces q → (list : List Token) → values q ≡ Some list → Each IsPlain list) → (list : List Token) → sub values pieces ≡ Ok list → Each IsPlain list
plain_substituted values pieces each plain list is = subst OfList is (of_sub values pieces each plain)
