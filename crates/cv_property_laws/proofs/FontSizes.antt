-- The computed value of `font-size` is one number of px.
use Rattle.std.proofs.Common.{◌≡◌, ℕ, pos, true, false, Bool, List, [], ◌∷◌, refl, subst, sym, ap}
use Rattle.std.specs.Prelude.{if◌then◌else◌}
use Rattle.cv_spec_ratio.specs.Gcd.{gcd, gcd_steps}
use Rattle.cv_spec_ratio.specs.Ratio.{Ratio, ratio}
use Rattle.cv_spec_text.specs.Keywords.{is_word}
use Rattle.cv_spec_text.specs.declared.token.Token.{Token}
use Rattle.cv_spec_text.specs.declared.token.Token.TheVariants as token
use Rattle.cv_calc.specs.declared.unit.Unit.TheVariants.{Px}
use Rattle.cv_calc.specs.declared.context.Context.{Context}
use Rattle.cv_calc.specs.declared.calc.Calc.{Calc}
use Rattle.cv_calc.specs.declared.calc.Calc.TheVariants.{Num}
use Rattle.cv_calc.specs.Tree.{out-Num}
use Rattle.cv_numeric.specs.declared.matched.Matched.TheVariants.{No, Fit}
use Rattle.cv_numeric.specs.declared.quantity.Range.TheVariants.{NotNegative}
use Rattle.cv_numeric.specs.Matched.{mapped, IfFit}
use Rattle.cv_numeric.specs.Numeric.{length_percentage_in}
use Rattle.cv_value.specs.declared.typed.Item.{Item}
use Rattle.cv_value.specs.declared.typed.Item.TheVariants.{Ident, Length}
use Rattle.cv_value.specs.declared.typed.Typed.{Typed}
use Rattle.cv_value.specs.declared.typed.Typed.TheVariants.{One}
use Rattle.cv_value.specs.Items.{mixed_as, mixed_item}
use Rattle.cv_value_laws.specs.Sizes.{IsNotNegative, SizesAreNumbers}
use Rattle.cv_property.specs.declared.property.Property.TheVariants.{FontSize}
use Rattle.cv_property.specs.declared.grammar.Keyword.TheVariants.{Medium}
use Rattle.cv_property.specs.Keywords.{keyword_text}
use Rattle.cv_property.specs.Grammar.{keyword_of, matching_property}
use Rattle.cv_property.specs.Computed.{font_size_of, computed_of}
use Rattle.cv_property_laws.specs.Sizes.{IsSize, FontSizesAreNumbers}
use Rattle.cv_property_laws.proofs.Values.{own, fit_is, if_each, if_matching}

-- 16 is no negative number
sixteen : IsNotNegative (ratio (pos 16) 1)
unfolding ratio gcd gcd_steps
sixteen = refl

medium : IsSize (One (Length (ratio (pos 16) 1)))
medium = (ratio (pos 16) 1, refl, sixteen)

module _ (P : Ratio → Type 0) (sixteen_is : P (ratio (pos 16) 1)) where
  -- the computed value is one number of px with this property
  abbrev HasSize : Typed → Type 0
  HasSize v = (size : Ratio) × (v ≡ One (Length size)) × P size

  abbrev IsFit : Item → Type 0
  IsFit i = HasSize (font_size_of i)

  of_word : (b : Bool) (word : List ℕ) → IfFit IsFit (if b then Fit (Ident word) else No)
  of_word true word = (ratio (pos 16) 1, refl, sixteen_is)
  of_word false word = tt

  of_keyword : (word : List ℕ) (ts : List Token) → IfFit IsFit (keyword_of word ts)
  of_keyword word [] = tt
  of_keyword word (token.Ident name ∷ []) = of_word (is_word word name) word
  of_keyword word (t ∷ ts) = tt

  of_number : (c : Calc) (v : Ratio) → c ≡ Num v Px → P v → IsFit (mixed_item c)
  of_number c v is holds = subst (λ d. IsFit (mixed_item d)) (sym is) (v, ap (λ l. font_size_of (mixed_as (Num v Px) l)) (out-Num v Px), holds)

  module _ (x : Context) (ts : List Token) (sized : (c : Calc) → length_percentage_in NotNegative (own FontSize x) ts ≡ Fit c → (v : Ratio) × (c ≡ Num v Px) × P v) where
    of_list : IfFit IsFit (mapped mixed_item (length_percentage_in NotNegative (own FontSize x) ts))
    of_list = if_each IsFit mixed_item (length_percentage_in NotNegative (own FontSize x) ts) (λ c e. let (v, is, holds) = sized c e in of_number c v is holds)

    has_size : (inherited v : Typed) → matching_property FontSize x ts ≡ Fit v → HasSize (computed_of FontSize inherited v)
    unfolding computed_of
    has_size inherited v fits =
        let Q : Typed → Type 0 = λ w. HasSize (computed_of FontSize inherited w) in
        fit_is Q (matching_property FontSize x ts) v fits (if_matching IsFit Q (λ i h. h) FontSize x ts (of_keyword (keyword_text Medium) ts, (of_list, tt)))

abbrev IsAny : Ratio → Type 0
IsAny v = Unit {0}

pub font_sizes_are_numbers : SizesAreNumbers → FontSizesAreNumbers
font_sizes_are_numbers sizes = record {
  number = λ x ts inherited v fits. (
      let (size, is, any) = has_size IsAny tt x ts (λ c e. let (r, same) = sizes.number NotNegative (own FontSize x) x.em refl ts c e in (r, same, tt)) inherited v fits in (size, is)
      );
  not_negative = λ x em rem ts inherited v fits.
      has_size IsNotNegative sixteen x ts (sizes.not_negative (own FontSize x) x.em (record { part = refl; whole_is = em; em_is = em; rem_is = rem }) ts) inherited v fits;
  initial = medium;
}
