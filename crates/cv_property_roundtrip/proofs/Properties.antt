-- The text of a value of each property reads back.
use Rattle.std.proofs.Common.{◌≡◌, ◌≤◌, ℕ, pos, Bool, true, false, List, [], ◌∷◌, refl, ap, sym, subst, ◌∙◌, arith, cond}
use Rattle.std.specs.Prelude.{nat_lt, if◌then◌else◌}
use Rattle.std.specs.Ordering.{is_lt}
use Rattle.std.proofs.lemmas.Bool.Decides.{nat_tests}
use Rattle.cv_spec_ratio.specs.Gcd.{gcd, gcd_steps}
use Rattle.cv_spec_ratio.specs.Ratio.{Ratio, ratio}
use Rattle.cv_spec_ratio.specs.Order.{ratio_cmp}
use Rattle.cv_frac.specs.Bounded.{in_bounds}
use Rattle.cv_spec_text.specs.declared.token.Token.{Token}
use Rattle.cv_component.specs.Nesting.{depth}
use Rattle.cv_calc.specs.declared.unit.Unit.TheVariants as units
use Rattle.cv_calc.specs.declared.context.Basis.TheVariants as basis
use Rattle.cv_calc.specs.declared.context.Context.{Context}
use Rattle.cv_calc.specs.Tree.{out-Num}
use Rattle.cv_color.specs.declared.color.Color.TheVariants.{Current, Rgb}
use Rattle.cv_color.specs.Channels.{clamped}
use Rattle.cv_colorread.specs.Channels.{hundredths}
use Rattle.cv_simplify.specs.Text.{number_alone}
use Rattle.cv_numeric.specs.declared.matched.Matched.{Matched}
use Rattle.cv_numeric.specs.declared.matched.Matched.TheVariants.{No, Out, Fit}
use Rattle.cv_numeric.specs.declared.quantity.Quantity.TheVariants as quantity
use Rattle.cv_numeric.specs.declared.quantity.Range.TheVariants.{All, NotNegative}
use Rattle.cv_numeric.specs.Matched.{mapped, or_else}
use Rattle.cv_numeric.specs.Numeric as numeric
use Rattle.cv_numeric.specs.Numeric.{with_basis, value_as, value_of}
use Rattle.cv_value.specs.declared.typed.Item.{Item}
use Rattle.cv_value.specs.declared.typed.Item.TheVariants as item_of
use Rattle.cv_value.specs.declared.typed.Typed.{Typed}
use Rattle.cv_value.specs.declared.typed.Typed.TheVariants.{One}
use Rattle.cv_value.specs.Text.{item_text, typed_text}
use Rattle.cv_value_laws.specs.Sizes.{IsNotNegative}
use Rattle.cv_value_roundtrip.specs.ReadsBack.{itself}
use Rattle.cv_property.specs.declared.property.Property.{Property}
use Rattle.cv_property.specs.declared.property.Property.TheVariants as of
use Rattle.cv_property.specs.declared.grammar.Keyword.TheVariants.{Normal, Medium, Visible, Hidden, Collapse, Inline, Block, InlineBlock, Flex, Grid, Contents, None, Auto}
use Rattle.cv_property.specs.declared.grammar.Alternative.TheVariants.{Keyword, Number, Portion, Integer, PositiveInteger, Length, LengthPercentage, Color}
use Rattle.cv_property.specs.Table.{row}
use Rattle.cv_property.specs.Grammar.{basis_of, alternative, by_grammar, matching_property}
use Rattle.cv_property.specs.Computed.{font_size_of, color_of, opacity_of, computed_item, computed_of}
use Rattle.cv_property_roundtrip.specs.ReadsBack.{TextReadsBack, PropertiesReadBack}
use Rattle.cv_property_roundtrip.proofs.Premises.{Laws}
use Rattle.cv_property_roundtrip.proofs.Skipping.{number_skipped}
use Rattle.cv_property_roundtrip.proofs.Backs.{Backs, counted_is, mapped_fits, positive_back, integer_back, length_back, color_back, number_back, size_back, px_given, px_back, px_read}
use Rattle.cv_property_roundtrip.proofs.Grammars.{Good, GrammarBacks, good_back, good_one, good_word, good_number, good_portion}

-- the context in which the alternatives of a property are read
abbrev own : Property → Context → Context
own p x = with_basis (basis_of (row p).percentages x) x

module _ (laws : Laws) (x y : Context) (em : IsNotNegative x.em) (rem : IsNotNegative x.rem) (ts : List Token) where
  good : (p : Property) → Good laws (own p x) (own p y) ts (row p).grammar
  good of.FontSize = good_word laws (own of.FontSize x) (own of.FontSize y) ts Medium (LengthPercentage NotNegative ∷ []) refl (good_one laws (own of.FontSize x) (own of.FontSize y) ts (LengthPercentage NotNegative) ((λ i e. px_back laws (own of.FontSize y) i (px_given laws x em rem ts i e))))
  good of.Color = good_one laws (own of.Color x) (own of.Color y) ts Color (λ i. color_back laws (own of.Color x) (own of.Color y) ts i)
  good of.LineHeight = good_word laws (own of.LineHeight x) (own of.LineHeight y) ts Normal (Number NotNegative ∷ LengthPercentage NotNegative ∷ []) refl (good_number laws (own of.LineHeight x) (own of.LineHeight y) ts NotNegative (LengthPercentage NotNegative) (px_given laws x em rem ts) (λ i e. px_back laws (own of.LineHeight y) i (px_given laws x em rem ts i e)))
  good of.LetterSpacing = good_word laws (own of.LetterSpacing x) (own of.LetterSpacing y) ts Normal (Length ∷ []) refl (good_one laws (own of.LetterSpacing x) (own of.LetterSpacing y) ts Length (λ i. length_back laws (own of.LetterSpacing x) (own of.LetterSpacing y) ts i))
  good of.TextIndent = good_one laws (own of.TextIndent x) (own of.TextIndent y) ts (LengthPercentage All) (size_back laws x y em rem All ts)
  good of.Visibility = good_word laws (own of.Visibility x) (own of.Visibility y) ts Visible (Keyword Hidden ∷ Keyword Collapse ∷ []) refl (good_word laws (own of.Visibility x) (own of.Visibility y) ts Hidden (Keyword Collapse ∷ []) refl (good_word laws (own of.Visibility x) (own of.Visibility y) ts Collapse ([]) refl (tt)))
  good of.Orphans = good_one laws (own of.Orphans x) (own of.Orphans y) ts PositiveInteger (positive_back laws (own of.Orphans x) (own of.Orphans y) ts)
  good of.Display = good_word laws (own of.Display x) (own of.Display y) ts Inline (Keyword Block ∷ Keyword InlineBlock ∷ Keyword Flex ∷ Keyword Grid ∷ Keyword Contents ∷ Keyword None ∷ []) refl (good_word laws (own of.Display x) (own of.Display y) ts Block (Keyword InlineBlock ∷ Keyword Flex ∷ Keyword Grid ∷ Keyword Contents ∷ Keyword None ∷ []) refl (good_word laws (own of.Display x) (own of.Display y) ts InlineBlock (Keyword Flex ∷ Keyword Grid ∷ Keyword Contents ∷ Keyword None ∷ []) refl (good_word laws (own of.Display x) (own of.Display y) ts Flex (Keyword Grid ∷ Keyword Contents ∷ Keyword None ∷ []) refl (good_word laws (own of.Display x) (own of.Display y) ts Grid (Keyword Contents ∷ Keyword None ∷ []) refl (good_word laws (own of.Display x) (own of.Display y) ts Contents (Keyword None ∷ []) refl (good_word laws (own of.Display x) (own of.Display y) ts None ([]) refl (tt)))))))
  good of.Width = good_word laws (own of.Width x) (own of.Width y) ts Auto (LengthPercentage NotNegative ∷ []) refl (good_one laws (own of.Width x) (own of.Width y) ts (LengthPercentage NotNegative) (size_back laws x y em rem NotNegative ts))
  good of.Height = good_word laws (own of.Height x) (own of.Height y) ts Auto (LengthPercentage NotNegative ∷ []) refl (good_one laws (own of.Height x) (own of.Height y) ts (LengthPercentage NotNegative) (size_back laws x y em rem NotNegative ts))
  good of.MinWidth = good_word laws (own of.MinWidth x) (own of.MinWidth y) ts Auto (LengthPercentage NotNegative ∷ []) refl (good_one laws (own of.MinWidth x) (own of.MinWidth y) ts (LengthPercentage NotNegative) (size_back laws x y em rem NotNegative ts))
  good of.MinHeight = good_word laws (own of.MinHeight x) (own of.MinHeight y) ts Auto (LengthPercentage NotNegative ∷ []) refl (good_one laws (own of.MinHeight x) (own of.MinHeight y) ts (LengthPercentage NotNegative) (size_back laws x y em rem NotNegative ts))
  good of.MaxWidth = good_word laws (own of.MaxWidth x) (own of.MaxWidth y) ts None (LengthPercentage NotNegative ∷ []) refl (good_one laws (own of.MaxWidth x) (own of.MaxWidth y) ts (LengthPercentage NotNegative) (size_back laws x y em rem NotNegative ts))
  good of.MaxHeight = good_word laws (own of.MaxHeight x) (own of.MaxHeight y) ts None (LengthPercentage NotNegative ∷ []) refl (good_one laws (own of.MaxHeight x) (own of.MaxHeight y) ts (LengthPercentage NotNegative) (size_back laws x y em rem NotNegative ts))
  good of.MarginTop = good_word laws (own of.MarginTop x) (own of.MarginTop y) ts Auto (LengthPercentage All ∷ []) refl (good_one laws (own of.MarginTop x) (own of.MarginTop y) ts (LengthPercentage All) (size_back laws x y em rem All ts))
  good of.MarginRight = good_word laws (own of.MarginRight x) (own of.MarginRight y) ts Auto (LengthPercentage All ∷ []) refl (good_one laws (own of.MarginRight x) (own of.MarginRight y) ts (LengthPercentage All) (size_back laws x y em rem All ts))
  good of.MarginBottom = good_word laws (own of.MarginBottom x) (own of.MarginBottom y) ts Auto (LengthPercentage All ∷ []) refl (good_one laws (own of.MarginBottom x) (own of.MarginBottom y) ts (LengthPercentage All) (size_back laws x y em rem All ts))
  good of.MarginLeft = good_word laws (own of.MarginLeft x) (own of.MarginLeft y) ts Auto (LengthPercentage All ∷ []) refl (good_one laws (own of.MarginLeft x) (own of.MarginLeft y) ts (LengthPercentage All) (size_back laws x y em rem All ts))
  good of.PaddingTop = good_one laws (own of.PaddingTop x) (own of.PaddingTop y) ts (LengthPercentage NotNegative) (size_back laws x y em rem NotNegative ts)
  good of.PaddingRight = good_one laws (own of.PaddingRight x) (own of.PaddingRight y) ts (LengthPercentage NotNegative) (size_back laws x y em rem NotNegative ts)
  good of.PaddingBottom = good_one laws (own of.PaddingBottom x) (own of.PaddingBottom y) ts (LengthPercentage NotNegative) (size_back laws x y em rem NotNegative ts)
  good of.PaddingLeft = good_one laws (own of.PaddingLeft x) (own of.PaddingLeft y) ts (LengthPercentage NotNegative) (size_back laws x y em rem NotNegative ts)
  good of.Top = good_word laws (own of.Top x) (own of.Top y) ts Auto (LengthPercentage All ∷ []) refl (good_one laws (own of.Top x) (own of.Top y) ts (LengthPercentage All) (size_back laws x y em rem All ts))
  good of.Right = good_word laws (own of.Right x) (own of.Right y) ts Auto (LengthPercentage All ∷ []) refl (good_one laws (own of.Right x) (own of.Right y) ts (LengthPercentage All) (size_back laws x y em rem All ts))
  good of.Bottom = good_word laws (own of.Bottom x) (own of.Bottom y) ts Auto (LengthPercentage All ∷ []) refl (good_one laws (own of.Bottom x) (own of.Bottom y) ts (LengthPercentage All) (size_back laws x y em rem All ts))
  good of.Left = good_word laws (own of.Left x) (own of.Left y) ts Auto (LengthPercentage All ∷ []) refl (good_one laws (own of.Left x) (own of.Left y) ts (LengthPercentage All) (size_back laws x y em rem All ts))
  good of.RowGap = good_word laws (own of.RowGap x) (own of.RowGap y) ts Normal (LengthPercentage NotNegative ∷ []) refl (good_one laws (own of.RowGap x) (own of.RowGap y) ts (LengthPercentage NotNegative) (size_back laws x y em rem NotNegative ts))
  good of.ColumnGap = good_word laws (own of.ColumnGap x) (own of.ColumnGap y) ts Normal (LengthPercentage NotNegative ∷ []) refl (good_one laws (own of.ColumnGap x) (own of.ColumnGap y) ts (LengthPercentage NotNegative) (size_back laws x y em rem NotNegative ts))
  good of.Opacity = good_portion laws (own of.Opacity x) (own of.Opacity y) ts
  good of.ZIndex = good_word laws (own of.ZIndex x) (own of.ZIndex y) ts Auto (Integer ∷ []) refl (good_one laws (own of.ZIndex x) (own of.ZIndex y) ts Integer (λ i. integer_back laws (own of.ZIndex x) (own of.ZIndex y) ts i))
  good of.Order = good_one laws (own of.Order x) (own of.Order y) ts Integer (λ i. integer_back laws (own of.Order x) (own of.Order y) ts i)
  good of.FlexGrow = good_one laws (own of.FlexGrow x) (own of.FlexGrow y) ts (Number NotNegative) (λ i. number_back laws (own of.FlexGrow x) (own of.FlexGrow y) ts i NotNegative)
  good of.FlexShrink = good_one laws (own of.FlexShrink x) (own of.FlexShrink y) ts (Number NotNegative) (λ i. number_back laws (own of.FlexShrink x) (own of.FlexShrink y) ts i NotNegative)
  good of.BackgroundColor = good_one laws (own of.BackgroundColor x) (own of.BackgroundColor y) ts Color (λ i. color_back laws (own of.BackgroundColor x) (own of.BackgroundColor y) ts i)
  good of.OutlineOffset = good_one laws (own of.OutlineOffset x) (own of.OutlineOffset y) ts Length (λ i. length_back laws (own of.OutlineOffset x) (own of.OutlineOffset y) ts i)

-- ---- values

shallow : (n : ℕ) → n ≤ 128 → nat_lt 128 n ≡ false
shallow n h = grind (arith, nat_tests)

not_deep : {A : Type 0} (b : Bool) (m : Matched A) (a : A) → (if b then No else m) ≡ Fit a → m ≡ Fit a
not_deep true m a h = absurd cc
not_deep false m a h = h

-- what the grammar reads of an item's text the property does
text_back : (p : Property) (y : Context) (i : Item) → GrammarBacks (own p y) (row p).grammar i → depth (typed_text (One i)) ≤ 128 → TextReadsBack p y (One i)
unfolding matching_property typed_text
text_back p y i back flat = record {
  back = One back.back;
  read =
      ap (λ b. if b then No else mapped One (by_grammar (row p).grammar (own p y) (item_text i))) (shallow (depth (item_text i)) flat)
      ∙ ap (mapped One) back.read;
  same = back.same;
}

module _ (laws : Laws) (p : Property) (x y : Context) (em : IsNotNegative x.em) (rem : IsNotNegative x.rem) (ts : List Token) where
  item_given : (v : Typed) → matching_property p x ts ≡ Fit v → (i : Item) × (by_grammar (row p).grammar (own p x) ts ≡ Fit i) × (One i ≡ v)
  unfolding matching_property
  item_given v fits = mapped_fits One (by_grammar (row p).grammar (own p x) ts) v (not_deep (nat_lt 128 (depth ts)) (mapped One (by_grammar (row p).grammar (own p x) ts)) v fits)

  item_back : (i : Item) → by_grammar (row p).grammar (own p x) ts ≡ Fit i → GrammarBacks (own p y) (row p).grammar i
  item_back i given = good_back laws (own p x) (own p y) ts (row p).grammar (good laws x y em rem ts p) i given

  value : (v : Typed) → matching_property p x ts ≡ Fit v → depth (typed_text v) ≤ 128 → TextReadsBack p y v
  value v fits flat =
      let (i, given, same) = item_given v fits in
      subst (TextReadsBack p y) same (text_back p y i (item_back i given) (subst (λ (w : Typed). depth (typed_text w) ≤ 128) (sym same) flat))

-- ---- computed values

sixteen_small : in_bounds (ratio (pos 16) 1) ≡ true
unfolding ratio gcd gcd_steps
sixteen_small = refl

sixteen_natural : IsNotNegative (ratio (pos 16) 1)
unfolding ratio gcd gcd_steps
sixteen_natural = refl

zero_small : in_bounds (ratio (pos 0) 1) ≡ true
unfolding ratio gcd gcd_steps
zero_small = refl

one_small : in_bounds (ratio (pos 1) 1) ≡ true
unfolding ratio gcd gcd_steps
one_small = refl

either_small : (b : Bool) (v w : Ratio) → in_bounds v ≡ true → in_bounds w ≡ true → in_bounds (cond b v w) ≡ true
either_small true v w h k = h
either_small false v w h k = k

clamped_small : (v : Ratio) → in_bounds v ≡ true → in_bounds (clamped 1 v) ≡ true
clamped_small v h =
    let w : Ratio = cond (is_lt (ratio_cmp (ratio (pos 0) 1) v)) v (ratio (pos 0) 1) in
    either_small (is_lt (ratio_cmp (ratio (pos 1) 1) w)) (ratio (pos 1) 1) w one_small
    (either_small (is_lt (ratio_cmp (ratio (pos 0) 1) v)) v (ratio (pos 0) 1) h zero_small)

module _ (laws : Laws) (y : Context) where
  -- a number in bounds is an opacity
  opacity_back : (v : Ratio) → in_bounds v ≡ true → GrammarBacks (own of.Opacity y) (row of.Opacity).grammar (item_of.Number v)
  opacity_back v small = record {
    back = item_of.Number v;
    read = ap (λ m. or_else (mapped item_of.Number (mapped value_of m)) (by_grammar (Portion ∷ []) (own of.Opacity y) (number_alone v units.Number)))
        (laws.read.read quantity.Number All (with_basis basis.Plain y) v units.Number (record { small = small; canonical = refl; keeps = tt; taken = refl; inside = tt }))
        ∙ ap (λ w. Fit (item_of.Number w)) (ap value_as (out-Num v units.Number));
    same = itself refl;
  }

  -- so many px are a font size
  px_size : (v : Ratio) → in_bounds v ≡ true → IsNotNegative v → GrammarBacks (own of.FontSize y) (row of.FontSize).grammar (item_of.Length v)
  px_size v small natural =
      let back : Backs (own of.FontSize y) (LengthPercentage NotNegative) (item_of.Length v) = px_read laws (own of.FontSize y) v small natural in
      record {
        back = back.back;
        read =
            ap (λ m. or_else m (by_grammar (LengthPercentage NotNegative ∷ []) (own of.FontSize y) (number_alone v units.Px))) (number_skipped laws.free Medium v units.Px)
            ∙ ap (λ m. or_else m No) back.read;
        same = back.same;
      }

-- the number or the part of 1 is in bounds
abbrev IsSmall : Item → Type 0
IsSmall (item_of.Number v) = in_bounds v ≡ true
IsSmall (item_of.Percentage v) = in_bounds (hundredths 1 v) ≡ true
IsSmall i = Unit {0}

opacity_small : (laws : Laws) (z : Context) (ts : List Token) (i : Item) → by_grammar (row of.Opacity).grammar z ts ≡ Fit i → IsSmall i
opacity_small laws z ts i e = by (alternative z ts (Number All)) refl e
  where
    by_portion : (m : Matched Item) → alternative z ts Portion ≡ m → or_else m No ≡ Fit i → IsSmall i
    by_portion No is e = absurd cc
    by_portion Out is e = absurd cc
    by_portion (Fit j) is e = let (v, found, small, same) = counted_is (numeric.percentage z ts) i (is ∙ e) in subst IsSmall same small

    by : (m : Matched Item) → alternative z ts (Number All) ≡ m → or_else m (by_grammar (Portion ∷ []) z ts) ≡ Fit i → IsSmall i
    by No is e = by_portion (alternative z ts Portion) refl e
    by Out is e = absurd cc
    by (Fit j) is e = let (v, found, same) = mapped_fits item_of.Number (numeric.number All z ts) i (is ∙ e) in subst IsSmall same (laws.kept.number All z z ts v found).0

module _ (laws : Laws) (y : Context) where
  -- the item reads back as it stands, where its text isn't nested too deep
  abbrev Stays : Property → Item → Type 0
  Stays p i = depth (typed_text (One i)) ≤ 128 → TextReadsBack p y (One i)

  size_back_computed : (i : Item) → Stays of.FontSize i → depth (typed_text (font_size_of i)) ≤ 128 → TextReadsBack of.FontSize y (font_size_of i)
  size_back_computed (item_of.Ident name) stays flat = text_back of.FontSize y (item_of.Length (ratio (pos 16) 1)) (px_size laws y (ratio (pos 16) 1) sixteen_small sixteen_natural) flat
  size_back_computed i stays flat = stays flat

  color_back_computed : (inherited : Typed) (i : Item) → TextReadsBack of.Color y inherited → Stays of.Color i → depth (typed_text (color_of inherited i)) ≤ 128 → TextReadsBack of.Color y (color_of inherited i)
  color_back_computed inherited (item_of.Color Current) back stays flat = back
  color_back_computed inherited (item_of.Color (Rgb r g b a)) back stays flat = stays flat
  color_back_computed inherited i back stays flat = stays flat

  opacity_back_computed : (i : Item) → IsSmall i → Stays of.Opacity i → depth (typed_text (opacity_of i)) ≤ 128 → TextReadsBack of.Opacity y (opacity_of i)
  opacity_back_computed (item_of.Number v) small stays flat = text_back of.Opacity y (item_of.Number (clamped 1 v)) (opacity_back laws y (clamped 1 v) (clamped_small v small)) flat
  opacity_back_computed (item_of.Percentage v) small stays flat =
      text_back of.Opacity y (item_of.Number (clamped 1 (hundredths 1 v))) (opacity_back laws y (clamped 1 (hundredths 1 v)) (clamped_small (hundredths 1 v) small)) flat
  opacity_back_computed i small stays flat = stays flat

  item_computed : (x : Context) (ts : List Token) (p : Property) (inherited : Typed) (i : Item) → by_grammar (row p).grammar (own p x) ts ≡ Fit i → TextReadsBack p y inherited → Stays p i →
      depth (typed_text (computed_item p inherited i)) ≤ 128 → TextReadsBack p y (computed_item p inherited i)
  item_computed x ts of.FontSize inherited i given back stays flat = size_back_computed i stays flat
  item_computed x ts of.Color inherited i given back stays flat = color_back_computed inherited i back stays flat
  item_computed x ts of.Opacity inherited i given back stays flat = opacity_back_computed i (opacity_small laws (own of.Opacity x) ts i given) stays flat
  item_computed x ts p inherited i given back stays flat = stays flat

module _ (laws : Laws) (x y : Context) (em : IsNotNegative x.em) (rem : IsNotNegative x.rem) (ts : List Token) (inherited : Typed) where
  computed : (p : Property) (v : Typed) → TextReadsBack p y inherited → matching_property p x ts ≡ Fit v → depth (typed_text (computed_of p inherited v)) ≤ 128 → TextReadsBack p y (computed_of p inherited v)
  unfolding computed_of
  computed p v back fits flat =
      let (i, given, same) = item_given laws p x y em rem ts v fits in
      let stays : Stays laws y p i = λ deep. text_back p y i (item_back laws p x y em rem ts i given) deep in
      subst (λ (w : Typed). TextReadsBack p y (computed_of p inherited w)) same
      (item_computed laws y x ts p inherited i given back stays (subst (λ (w : Typed). depth (typed_text (computed_of p inherited w)) ≤ 128) (sym same) flat))

pub properties_read_back : Laws → PropertiesReadBack
properties_read_back laws = record {
  value = λ p x y em rem ts v fits flat. value laws p x y em rem ts v fits flat;
  computed = λ p x y em rem ts inherited v own_back fits flat. computed laws x y em rem ts inherited p v own_back fits flat;
}
