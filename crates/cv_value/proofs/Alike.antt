-- Whether a list is no match doesn't depend on the context.
use Rattle.std.proofs.Common.{◌≡◌, List, [], ◌∷◌, map, refl}
use Rattle.std.specs.Prelude.{nat_lt}
use Rattle.cv_spec_text.specs.declared.token.Token.{Token}
use Rattle.cv_component.specs.Nesting.{depth}
use Rattle.cv_component.specs.Parts.{is_white, is_comma, parts, filled, trim, has_white_end}
use Rattle.cv_calc.specs.declared.context.Context.{Context}
use Rattle.cv_numeric.specs.declared.matched.Matched.TheVariants.{No}
use Rattle.cv_numeric.specs.declared.quantity.Range.TheVariants.{All}
use Rattle.cv_numeric.specs.Numeric as numeric
use Rattle.cv_numeric.specs.Alike.{IsMismatchAlike as IsNumericAlike}
use Rattle.cv_colorread.specs.Colors.{color}
use Rattle.cv_colorread.specs.Alike.{IsMismatchAlike as IsColorAlike}
use Rattle.cv_syntax.specs.declared.syntax.Kind.{Kind}
use Rattle.cv_syntax.specs.declared.syntax.Kind.TheVariants as kinds
use Rattle.cv_syntax.specs.declared.syntax.Many.{Many}
use Rattle.cv_syntax.specs.declared.syntax.Many.TheVariants.{One, Spaces, Commas}
use Rattle.cv_syntax.specs.declared.syntax.Component.{Component}
use Rattle.cv_syntax.specs.declared.syntax.Syntax.{Syntax}
use Rattle.cv_syntax.specs.declared.syntax.Syntax.TheVariants.{Any, Of}
use Rattle.cv_value.specs.declared.typed.Item.TheVariants as item_of
use Rattle.cv_value.specs.declared.typed.Typed.TheVariants as typed
use Rattle.cv_value.specs.Items.{mixed_item, item}
use Rattle.cv_value.specs.Matching.{each, listed, as_many, component, of_syntax, matching}
use Rattle.cv_value.specs.Alike.{IsMismatchAlike}
use Rattle.cv_value.proofs.NoMatch.{is_no, same_no, alike_no, mapped_alike, if_alike, all_alike, first_alike}

module _ (numbers : IsNumericAlike) (colors : IsColorAlike) (x y : Context) where
  item_alike : (k : Kind) (ts : List Token) → is_no (item k x ts) ≡ is_no (item k y ts)
  item_alike kinds.Length ts = mapped_alike item_of.Length (numeric.length x ts) (numeric.length y ts) (same_no (numeric.length x ts) (numeric.length y ts) (numbers.length_is x y ts))
  item_alike kinds.Number ts = mapped_alike item_of.Number (numeric.number All x ts) (numeric.number All y ts) (same_no (numeric.number All x ts) (numeric.number All y ts) (numbers.number_is All x y ts))
  item_alike kinds.Percentage ts = mapped_alike item_of.Percentage (numeric.percentage x ts) (numeric.percentage y ts) (same_no (numeric.percentage x ts) (numeric.percentage y ts) (numbers.percentage_is x y ts))
  item_alike kinds.LengthPercentage ts = mapped_alike mixed_item (numeric.length_percentage All x ts) (numeric.length_percentage All y ts) (same_no (numeric.length_percentage All x ts) (numeric.length_percentage All y ts) (numbers.length_percentage_is All x y ts))
  item_alike kinds.Color ts = mapped_alike item_of.Color (color x ts) (color y ts) (same_no (color x ts) (color y ts) (colors x y ts))
  item_alike kinds.Url ts = refl
  item_alike kinds.Integer ts = mapped_alike item_of.Integer (numeric.integer x ts) (numeric.integer y ts) (same_no (numeric.integer x ts) (numeric.integer y ts) (numbers.integer_is x y ts))
  item_alike kinds.Angle ts = mapped_alike item_of.Angle (numeric.angle x ts) (numeric.angle y ts) (same_no (numeric.angle x ts) (numeric.angle y ts) (numbers.angle_is x y ts))
  item_alike kinds.Time ts = mapped_alike item_of.Time (numeric.time x ts) (numeric.time y ts) (same_no (numeric.time x ts) (numeric.time y ts) (numbers.time_is x y ts))
  item_alike kinds.Resolution ts = mapped_alike item_of.Resolution (numeric.resolution x ts) (numeric.resolution y ts) (same_no (numeric.resolution x ts) (numeric.resolution y ts) (numbers.resolution_is x y ts))
  item_alike kinds.Str ts = refl
  item_alike kinds.CustomIdent ts = refl
  item_alike (kinds.Literal word) ts = refl

  each_alike : (k : Kind) (ps : List (List Token)) → is_no (each k x ps) ≡ is_no (each k y ps)
  each_alike k [] = refl
  each_alike k (p ∷ ps) = all_alike (item k x) (item k y) (item_alike k) (p ∷ ps)

  listed_alike : (k : Kind) (ts : List Token) (ps : List (List Token)) → is_no (listed k x ts ps) ≡ is_no (listed k y ts ps)
  listed_alike k ts ps = if_alike (has_white_end ts) No No (each k x ps) (each k y ps) refl (each_alike k ps)

  many_alike : (m : Many) (k : Kind) (ts : List Token) → is_no (as_many m k x ts) ≡ is_no (as_many m k y ts)
  many_alike One k ts = mapped_alike typed.One (item k x ts) (item k y ts) (item_alike k ts)
  many_alike Spaces k ts =
      let ps : List (List Token) = filled (parts is_white ts) in
      mapped_alike typed.Spaces (listed k x ts ps) (listed k y ts ps) (listed_alike k ts ps)
  many_alike Commas k ts =
      let ps : List (List Token) = map trim (parts is_comma ts) in
      mapped_alike typed.Commas (listed k x ts ps) (listed k y ts ps) (listed_alike k ts ps)

  component_alike : (ts : List Token) (c : Component) → is_no (component x ts c) ≡ is_no (component y ts c)
  component_alike ts c = many_alike c.many c.kind ts

  syntax_alike : (s : Syntax) (ts : List Token) → is_no (of_syntax s x ts) ≡ is_no (of_syntax s y ts)
  syntax_alike Any ts = refl
  syntax_alike (Of cs) ts = first_alike (component x ts) (component y ts) (component_alike ts) cs

  matching_alike : (s : Syntax) (ts : List Token) → is_no (matching s x ts) ≡ is_no (matching s y ts)
  unfolding matching
  matching_alike s ts = if_alike (nat_lt 128 (depth ts)) No No (of_syntax s x ts) (of_syntax s y ts) refl (syntax_alike s ts)

pub alike : IsNumericAlike → IsColorAlike → IsMismatchAlike
alike numbers colors = record {
  item_is = λ k x y ts. alike_no (item k x ts) (item k y ts) (item_alike numbers colors x y k ts);
  component_is = λ c x y ts. alike_no (component x ts c) (component y ts c) (component_alike numbers colors x y ts c);
  matching_is = λ s x y ts. alike_no (matching s x ts) (matching s y ts) (matching_alike numbers colors x y s ts);
}
