-- Whether a list is a value of a property doesn't depend on the context.
use Rattle.std.proofs.Common.{◌≡◌, Bool, true, false, List, [], ◌∷◌, map, refl, sym, ap, ◌∙◌}
use Rattle.std.specs.Prelude.{nat_lt, if◌then◌else◌}
use Rattle.cv_spec_text.specs.declared.token.Token.{Token}
use Rattle.cv_spec_text.specs.declared.token.Token.TheVariants as token
use Rattle.cv_component.specs.Nesting.{depth}
use Rattle.cv_calc.specs.declared.context.Context.{Context}
use Rattle.cv_frac.specs.Bounded.{in_bounds}
use Rattle.cv_spec_ratio.specs.Ratio.{Ratio}
use Rattle.cv_numeric.specs.declared.matched.Matched.{Matched}
use Rattle.cv_numeric.specs.declared.matched.Matched.TheVariants.{No, Out, Fit}
use Rattle.cv_numeric.specs.Matched.{mapped, first_of, or_else, IsAlike}
use Rattle.cv_numeric.specs.Numeric as numeric
use Rattle.cv_numeric.specs.Numeric.{with_basis}
use Rattle.cv_numeric.specs.Alike.{IsMismatchAlike as IsNumericAlike}
use Rattle.cv_colorread.specs.Channels.{hundredths}
use Rattle.cv_colorread.specs.Colors.{color}
use Rattle.cv_colorread.specs.Alike.{IsMismatchAlike as IsColorAlike}
use Rattle.cv_value.specs.declared.typed.Item.{Item}
use Rattle.cv_value.specs.declared.typed.Item.TheVariants as item_of
use Rattle.cv_value.specs.declared.typed.Typed.TheVariants.{One}
use Rattle.cv_value.specs.Items.{mixed_item}
use Rattle.cv_property.specs.declared.grammar.Alternative.{Alternative}
use Rattle.cv_property.specs.declared.grammar.Alternative.TheVariants.{Keyword, Number, Portion, Integer, PositiveInteger, Length, LengthPercentage, Color}
use Rattle.cv_property.specs.Table.{row}
use Rattle.cv_property.specs.Grammar.{counted_portion, at_least_one, positive_integer_of, alternative, basis_of, by_grammar, matching_property, is_match}
use Rattle.cv_property.specs.Alike.{MatchesAreAlike}

told : {A : Type 0} (m n : Matched A) → IsAlike m n → is_match m ≡ is_match n
told No No alike = refl
told No Out alike = absurd alike
told No (Fit b) alike = absurd alike
told Out No alike = absurd alike
told (Fit a) No alike = absurd alike
told Out Out alike = refl
told Out (Fit b) alike = refl
told (Fit a) Out alike = refl
told (Fit a) (Fit b) alike = refl

of_mapped : {A B : Type 0} (f : A → B) (m : Matched A) → is_match (mapped f m) ≡ is_match m
of_mapped f No = refl
of_mapped f Out = refl
of_mapped f (Fit a) = refl

mapped_alike : {A B : Type 0} (f : A → B) (m n : Matched A) → IsAlike m n → is_match (mapped f m) ≡ is_match (mapped f n)
mapped_alike f m n alike = of_mapped f m ∙ told m n alike ∙ sym (of_mapped f n)

either_match : (b : Bool) (i : Item) → is_match (if b then Fit i else Out) ≡ true
either_match true i = refl
either_match false i = refl

of_portion : (m : Matched Ratio) → is_match (counted_portion m) ≡ is_match m
of_portion No = refl
of_portion Out = refl
of_portion (Fit v) = either_match (in_bounds (hundredths 1 v)) (item_of.Percentage v)

of_either : {A : Type 0} (m n : Matched A) → is_match (or_else m n) ≡ (if is_match m then true else is_match n)
of_either No n = refl
of_either Out n = refl
of_either (Fit a) n = refl

first_alike : {A B : Type 0} (f g : B → Matched A) → ((b : B) → is_match (f b) ≡ is_match (g b)) → (bs : List B) → is_match (first_of (map f bs)) ≡ is_match (first_of (map g bs))
first_alike f g alike [] = refl
first_alike f g alike (b ∷ bs) =
    of_either (f b) (first_of (map f bs))
    ∙ ap (λ t. if t then true else is_match (first_of (map f bs))) (alike b)
    ∙ ap (λ t. if is_match (g b) then true else t) (first_alike f g alike bs)
    ∙ sym (of_either (g b) (first_of (map g bs)))

module _ (numbers : IsNumericAlike) (colors : IsColorAlike) (x y : Context) where
  positive_alike : (ts : List Token) → is_match (positive_integer_of x ts) ≡ is_match (positive_integer_of y ts)
  positive_alike (token.Number n ∷ []) = refl
  positive_alike ts = mapped_alike at_least_one (numeric.integer x ts) (numeric.integer y ts) (numbers.integer_is x y ts)

  alternative_alike : (ts : List Token) (a : Alternative) → is_match (alternative x ts a) ≡ is_match (alternative y ts a)
  alternative_alike ts (Keyword k) = refl
  alternative_alike ts (Number r) = mapped_alike item_of.Number (numeric.number r x ts) (numeric.number r y ts) (numbers.number_is r x y ts)
  alternative_alike ts Portion = of_portion (numeric.percentage x ts) ∙ told (numeric.percentage x ts) (numeric.percentage y ts) (numbers.percentage_is x y ts) ∙ sym (of_portion (numeric.percentage y ts))
  alternative_alike ts Integer = mapped_alike item_of.Integer (numeric.integer x ts) (numeric.integer y ts) (numbers.integer_is x y ts)
  alternative_alike ts PositiveInteger = of_mapped item_of.Integer (positive_integer_of x ts) ∙ positive_alike ts ∙ sym (of_mapped item_of.Integer (positive_integer_of y ts))
  alternative_alike ts Length = mapped_alike item_of.Length (numeric.length x ts) (numeric.length y ts) (numbers.length_is x y ts)
  alternative_alike ts (LengthPercentage r) = mapped_alike mixed_item (numeric.length_percentage_in r x ts) (numeric.length_percentage_in r y ts) (numbers.length_percentage_in_is r x y ts)
  alternative_alike ts Color = mapped_alike item_of.Color (color x ts) (color y ts) (colors x y ts)

  grammar_alike : (all : List Alternative) (ts : List Token) → is_match (by_grammar all x ts) ≡ is_match (by_grammar all y ts)
  grammar_alike all ts = first_alike (alternative x ts) (alternative y ts) (alternative_alike ts) all

deep_or : {A : Type 0} (b : Bool) (m n : Matched A) → is_match m ≡ is_match n → is_match (if b then No else m) ≡ is_match (if b then No else n)
deep_or true m n alike = refl
deep_or false m n alike = alike

pub alike : IsNumericAlike → IsColorAlike → MatchesAreAlike
unfolding matching_property
alike numbers colors p x y ts =
    let xs : Matched Item = by_grammar (row p).grammar (with_basis (basis_of (row p).percentages x) x) ts in
    let ys : Matched Item = by_grammar (row p).grammar (with_basis (basis_of (row p).percentages y) y) ts in
    deep_or (nat_lt 128 (depth ts)) (mapped One xs) (mapped One ys)
    (
    of_mapped One xs
    ∙ grammar_alike numbers colors (with_basis (basis_of (row p).percentages x) x) (with_basis (basis_of (row p).percentages y) y) (row p).grammar ts
    ∙ sym (of_mapped One ys)
    )
