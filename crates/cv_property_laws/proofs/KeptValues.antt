-- What a valuation may keep of the value of an ordinary property.
use Rattle.std.proofs.Common.{◌≡◌, ℕ, suc, zero, ◌<◌, Bool, true, false, ◌&&◌, List, [], ◌∷◌, refl, sym, ap, subst, ◌∙◌, arith, lit<}
use Rattle.std.specs.Prelude.{nat_lt, Contains, IsAscii, if◌then◌else◌}
use Rattle.std.proofs.lemmas.Bool.Decides.{nat_tests}
use Rattle.std.proofs.lemmas.Str.{chars-IsAscii, IsUtf8-from_ascii}
use Rattle.cv_spec_ratio.specs.Ratio.{Ratio}
use Rattle.cv_frac.specs.Bounded.{in_bounds}
use Rattle.cv_spec_text.specs.Keywords.{is_word, is_css_wide_keyword}
use Rattle.cv_spec_text.specs.Splits.{IsSpelt}
use Rattle.cv_spec_text.specs.Text.{preprocessed}
use Rattle.cv_spec_text.specs.Tokens.{first_row, number_row, name_row, single, tokens, tokens_of}
use Rattle.cv_spec_text.specs.Names.{begins_name, name_piece_length, name_piece_value}
use Rattle.cv_spec_text.specs.Numbers.{number_length, mantissa_length, fraction_length, exponent_length}
use Rattle.cv_spec_text.specs.Runs.{run_values, run_length}
use Rattle.cv_spec_text.specs.declared.token.Token.{Token}
use Rattle.cv_spec_text.specs.declared.token.Token.TheVariants as token
use Rattle.cv_calc.specs.declared.context.Context.{Context}
use Rattle.cv_calc.specs.declared.unit.Unit.TheVariants as units
use Rattle.cv_calc.specs.declared.calc.Calc.{Calc}
use Rattle.cv_calc.specs.declared.calc.Calc.TheOpen as layer
use Rattle.cv_calc.specs.declared.calc.Calc.TheViews.{out-Calc}
use Rattle.cv_color.specs.declared.color.Color.TheVariants.{Current, Rgb}
use Rattle.cv_numeric.specs.declared.matched.Matched.{Matched}
use Rattle.cv_numeric.specs.declared.matched.Matched.TheVariants.{No, Out, Fit}
use Rattle.cv_numeric.specs.Matched.{IfFit}
use Rattle.cv_numeric.specs.Numeric as numeric
use Rattle.cv_colorread.specs.Channels.{hundredths}
use Rattle.cv_colorread.specs.Colors.{color}
use Rattle.cv_value.specs.declared.typed.Item.{Item}
use Rattle.cv_value.specs.declared.typed.Item.TheVariants as item_of
use Rattle.cv_value.specs.declared.typed.Typed.{Typed}
use Rattle.cv_value.specs.declared.typed.Typed.TheVariants.{One, Spaces, Commas}
use Rattle.cv_value.specs.Items.{mixed_as, mixed_item}
use Rattle.cv_value.specs.Kept.{IsCanonical, NoKeyword, HasSpeltNames, MayBeKept}
use Rattle.cv_value_laws.specs.Values.{ItemsAreFree}
use Rattle.cv_property.specs.declared.property.Property.{Property}
use Rattle.cv_property.specs.declared.property.Property.TheVariants as of
use Rattle.cv_property.specs.declared.grammar.Keyword.{Keyword as Word}
use Rattle.cv_property.specs.declared.grammar.Keyword.TheVariants.{Medium, Normal, Visible, Hidden, Collapse, Inline, Block, InlineBlock, Flex, Grid, Contents, None, Auto}
use Rattle.cv_property.specs.declared.grammar.Alternative.{Alternative}
use Rattle.cv_property.specs.declared.grammar.Alternative.TheVariants.{Keyword, Number, Portion, Integer, PositiveInteger, Length, LengthPercentage, Color}
use Rattle.cv_property.specs.declared.table.Initial.{Initial}
use Rattle.cv_property.specs.declared.table.Initial.TheVariants as initials
use Rattle.cv_property.specs.Keywords.{keyword_text}
use Rattle.cv_property.specs.Initial.{initial_value}
use Rattle.cv_property.specs.Table.{row}
use Rattle.cv_property.specs.Grammar.{keyword_of, counted_portion, positive_integer_of, alternative, matching_property}
use Rattle.cv_property.specs.Computed.{font_size_of, color_of, opacity_of, computed_item, computed_of}
use Rattle.cv_property_laws.specs.Keeping.{PropertiesMayBeKept}
use Rattle.cv_property_laws.proofs.Values.{own, fit_is, if_mapped, if_each, if_any_matching}

-- ---- keywords

abbrev are_small : List ℕ → Bool
are_small [] = true
are_small (c ∷ cs) = nat_lt c 128 && are_small cs

both : (a b : Bool) → (a && b) ≡ true → (a ≡ true) × (b ≡ true)
both true b h = (refl, h)
both false b h = cc

small : (n : ℕ) → nat_lt n 128 ≡ true → n < 128
small n h = grind (arith, nat_tests)

by_test : (cs : List ℕ) → are_small cs ≡ true → IsAscii cs
by_test [] h i = omega arith
by_test (c ∷ cs) h zero = small c (both (nat_lt c 128) (are_small cs) h).0
by_test (c ∷ cs) h (suc i) = by_test cs (both (nat_lt c 128) (are_small cs) h).1 i

-- the one token of an ASCII text is spelt
spelt_by : (text : List ℕ) (t : Token) → are_small text ≡ true → tokens_of (preprocessed text) ≡ t ∷ [] → IsSpelt t
spelt_by text t small_text is =
    let ascii : IsAscii text = by_test text small_text in
    let read : tokens text ≡ t ∷ [] = ap (λ cs. tokens_of (preprocessed cs)) (chars-IsAscii text ascii) ∙ is in
    let only : Contains (t ∷ []) t = (0, lit< tt, refl) in
    (text, IsUtf8-from_ascii text ascii, subst (λ ts. Contains ts t) (sym read) only)

small_word : (k : Word) → are_small (keyword_text k) ≡ true
small_word k =
    elim k as (λ k. are_small (keyword_text k) ≡ true) [ Medium ↦ refl | Normal ↦ refl | Visible ↦ refl | Hidden ↦ refl | Collapse ↦ refl | Inline ↦ refl | Block ↦ refl | InlineBlock ↦ refl | Flex ↦ refl | Grid ↦ refl | Contents ↦ refl | None ↦ refl | Auto ↦ refl ]

one_word : (k : Word) → tokens_of (preprocessed (keyword_text k)) ≡ token.Ident (keyword_text k) ∷ []
unfolding first_row number_row name_row single begins_name name_piece_length name_piece_value number_length mantissa_length fraction_length exponent_length run_values run_length
one_word k =
    elim k as (λ k. tokens_of (preprocessed (keyword_text k)) ≡ token.Ident (keyword_text k) ∷ []) [ Medium ↦ refl | Normal ↦ refl | Visible ↦ refl | Hidden ↦ refl | Collapse ↦ refl | Inline ↦ refl | Block ↦ refl | InlineBlock ↦ refl | Flex ↦ refl | Grid ↦ refl | Contents ↦ refl | None ↦ refl | Auto ↦ refl ]

spelt_word : (k : Word) → IsSpelt (token.Ident (keyword_text k))
spelt_word k = spelt_by (keyword_text k) (token.Ident (keyword_text k)) (small_word k) (one_word k)

plain_word : (k : Word) → is_css_wide_keyword (keyword_text k) ≡ false
plain_word k =
    elim k as (λ k. is_css_wide_keyword (keyword_text k) ≡ false) [ Medium ↦ refl | Normal ↦ refl | Visible ↦ refl | Hidden ↦ refl | Collapse ↦ refl | Inline ↦ refl | Block ↦ refl | InlineBlock ↦ refl | Flex ↦ refl | Grid ↦ refl | Contents ↦ refl | None ↦ refl | Auto ↦ refl ]

-- ---- items

record MayBe (i : Item) : Type 0 where
  canonical : IsCanonical i
  no_keyword : NoKeyword i
  spelt : HasSpeltNames i

kept : (i : Item) → MayBe i → MayBeKept (One i)
kept i may = record { canonical = may.canonical; no_keyword = may.no_keyword; spelt = may.spelt }

word_may : (k : Word) → MayBe (item_of.Ident (keyword_text k))
word_may k = record { canonical = tt; no_keyword = plain_word k; spelt = spelt_word k }

keyword_may : (k : Word) (ts : List Token) → IfFit MayBe (keyword_of (keyword_text k) ts)
keyword_may k [] = tt
keyword_may k (token.Ident name ∷ []) = by (is_word (keyword_text k) name)
  where
    by : (b : Bool) → IfFit MayBe (if b then Fit (item_of.Ident (keyword_text k)) else No)
    by true = word_may k
    by false = tt
keyword_may k (t ∷ ts) = tt

portion_may : (m : Matched Ratio) → IfFit MayBe (counted_portion m)
portion_may No = tt
portion_may Out = tt
portion_may (Fit v) = by (in_bounds (hundredths 1 v))
  where
    by : (b : Bool) → IfFit MayBe (if b then Fit (item_of.Percentage v) else Out)
    by true = record { canonical = tt; no_keyword = tt; spelt = tt }
    by false = tt

mixed_no_keyword : (c : Calc) (l : layer.Calc-F Calc) → NoKeyword (mixed_as c l)
mixed_no_keyword c (layer.Num v units.Px) = tt
mixed_no_keyword c (layer.Num v units.Percent) = tt
mixed_no_keyword c (layer.Num v u) = tt
mixed_no_keyword c l = tt

mixed_spelt : (c : Calc) (l : layer.Calc-F Calc) → HasSpeltNames (mixed_as c l)
mixed_spelt c (layer.Num v units.Px) = tt
mixed_spelt c (layer.Num v units.Percent) = tt
mixed_spelt c (layer.Num v u) = tt
mixed_spelt c l = tt

mixed_may : (c : Calc) → IsCanonical (mixed_item c) → MayBe (mixed_item c)
mixed_may c h = record { canonical = h; no_keyword = mixed_no_keyword c (out-Calc c); spelt = mixed_spelt c (out-Calc c) }

module _ (free : ItemsAreFree) (x : Context) (ts : List Token) where
  alternative_may : (a : Alternative) → IfFit MayBe (alternative x ts a)
  alternative_may (Keyword k) = keyword_may k ts
  alternative_may (Number r) = if_mapped MayBe item_of.Number (numeric.number r x ts) (λ v. record { canonical = tt; no_keyword = tt; spelt = tt })
  alternative_may Portion = portion_may (numeric.percentage x ts)
  alternative_may Integer = if_mapped MayBe item_of.Integer (numeric.integer x ts) (λ v. record { canonical = tt; no_keyword = tt; spelt = tt })
  alternative_may PositiveInteger = if_mapped MayBe item_of.Integer (positive_integer_of x ts) (λ v. record { canonical = tt; no_keyword = tt; spelt = tt })
  alternative_may Length = if_mapped MayBe item_of.Length (numeric.length x ts) (λ v. record { canonical = tt; no_keyword = tt; spelt = tt })
  alternative_may (LengthPercentage r) = if_each MayBe mixed_item (numeric.length_percentage_in r x ts) (λ c e. mixed_may c (free.sizes_are_canonical r x ts c e))
  alternative_may Color = if_mapped MayBe item_of.Color (color x ts) (λ v. record { canonical = tt; no_keyword = tt; spelt = tt })

-- ---- values

read : ItemsAreFree → (p : Property) (x : Context) (ts : List Token) (v : Typed) → matching_property p x ts ≡ Fit v → MayBeKept v
read free p x ts v fits = fit_is MayBeKept (matching_property p x ts) v fits (if_any_matching MayBe MayBeKept kept p x ts (alternative_may free (own p x) ts))

font_size_may : (i : Item) → MayBeKept (One i) → MayBeKept (font_size_of i)
font_size_may (item_of.Ident name) h = record { canonical = tt; no_keyword = tt; spelt = tt }
font_size_may i h = h

color_may : (inherited : Typed) (i : Item) → MayBeKept inherited → MayBeKept (One i) → MayBeKept (color_of inherited i)
color_may inherited (item_of.Color Current) h k = h
color_may inherited (item_of.Color (Rgb r g b a)) h k = k
color_may inherited i h k = k

opacity_may : (i : Item) → MayBeKept (One i) → MayBeKept (opacity_of i)
opacity_may (item_of.Number v) h = record { canonical = tt; no_keyword = tt; spelt = tt }
opacity_may (item_of.Percentage v) h = record { canonical = tt; no_keyword = tt; spelt = tt }
opacity_may i h = h

item_may : (p : Property) (inherited : Typed) (i : Item) → MayBeKept inherited → MayBeKept (One i) → MayBeKept (computed_item p inherited i)
item_may of.FontSize inherited i h k = font_size_may i k
item_may of.Color inherited i h k = color_may inherited i h k
item_may of.Opacity inherited i h k = opacity_may i k
item_may p inherited i h k = k

computed_may : (p : Property) (inherited v : Typed) → MayBeKept inherited → MayBeKept v → MayBeKept (computed_of p inherited v)
unfolding computed_of
computed_may p inherited (One i) h k = item_may p inherited i h k
computed_may p inherited (Spaces is) h k = k
computed_may p inherited (Commas is) h k = k

value_may : (i : Initial) → MayBeKept (initial_value i)
value_may (initials.Keyword k) = kept (item_of.Ident (keyword_text k)) (word_may k)
value_may (initials.Px n) = record { canonical = tt; no_keyword = tt; spelt = tt }
value_may (initials.Number n) = record { canonical = tt; no_keyword = tt; spelt = tt }
value_may (initials.Integer n) = record { canonical = tt; no_keyword = tt; spelt = tt }
value_may initials.Black = record { canonical = tt; no_keyword = tt; spelt = tt }
value_may initials.Transparent = record { canonical = tt; no_keyword = tt; spelt = tt }

pub properties_may_be_kept : ItemsAreFree → PropertiesMayBeKept
properties_may_be_kept free = record {
  read = read free;
  computed = λ p x ts inherited v h fits. computed_may p inherited v h (read free p x ts v fits);
  initial = λ p. value_may (row p).initial;
}
