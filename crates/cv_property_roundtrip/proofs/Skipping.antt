-- A keyword skips the texts of other items.
use Rattle.std.proofs.Common.{◌≡◌, ℕ, Bool, true, false, List, [], ◌∷◌, refl}
use Rattle.std.specs.Prelude.{not, ◌&&◌, if◌then◌else◌}
use Rattle.std.specs.List.{list_all}
use Rattle.cv_spec_ratio.specs.Ratio.{Ratio}
use Rattle.cv_frac.specs.Bounded.{in_bounds}
use Rattle.cv_spec_text.specs.Keywords.{is_word}
use Rattle.cv_spec_text.specs.declared.token.Token.{Token}
use Rattle.cv_spec_text.specs.declared.token.Token.TheVariants as token
use Rattle.cv_calc.specs.declared.unit.Unit as calc_units
use Rattle.cv_calc.specs.declared.unit.Unit.TheVariants as units
use Rattle.cv_calc.specs.declared.context.Context.{Context}
use Rattle.cv_calc.specs.declared.calc.Calc.{Calc}
use Rattle.cv_calc.specs.declared.calc.Calc.TheVariants as tree
use Rattle.cv_calc.specs.declared.calc.Calc.TheOpen as layer
use Rattle.cv_calc.specs.declared.calc.Calc.TheViews.{out-Calc}
use Rattle.cv_calc_laws.specs.Fonts.{is_no_ident, TextsAreFree}
use Rattle.cv_simplify.specs.Text.{number_alone, calc_text}
use Rattle.cv_numeric.specs.declared.matched.Matched.{Matched}
use Rattle.cv_numeric.specs.declared.matched.Matched.TheVariants.{No, Out, Fit}
use Rattle.cv_numeric.specs.Matched.{mapped, or_else, IfFit}
use Rattle.cv_numeric.specs.Numeric as numeric
use Rattle.cv_colorread.specs.Channels.{hundredths}
use Rattle.cv_value.specs.declared.typed.Item.{Item}
use Rattle.cv_value.specs.declared.typed.Item.TheVariants as item_of
use Rattle.cv_value.specs.Items.{mixed_as, mixed_item}
use Rattle.cv_value.specs.Text.{item_text}
use Rattle.cv_property.specs.declared.grammar.Keyword.{Keyword as Word}
use Rattle.cv_property.specs.declared.grammar.Alternative.{Alternative}
use Rattle.cv_property.specs.declared.grammar.Alternative.TheVariants.{Keyword, Number, Portion, Integer, PositiveInteger, Length, LengthPercentage, Color}
use Rattle.cv_property.specs.Keywords.{keyword_text}
use Rattle.cv_property.specs.Grammar.{keyword_of, counted_portion, positive_integer_of, alternative, by_grammar}

-- the keyword is no match for the item's text
abbrev pub Skips : Word → Item → Type 0
Skips k i = keyword_of (keyword_text k) (item_text i) ≡ No

both : (a b : Bool) → (a && b) ≡ true → (a ≡ true) × (b ≡ true)
both true b h = (refl, h)
both false b h = cc

-- a list without idents is no keyword
no_keyword : (w : List ℕ) (ts : List Token) → list_all is_no_ident ts ≡ true → keyword_of w ts ≡ No
no_keyword w [] h = refl
no_keyword w (token.Ident name ∷ []) h = cc
no_keyword w (t ∷ ts) h = refl

-- the alternative gives no text that is the keyword
abbrev pub is_other : Word → Alternative → Bool
is_other k (Keyword l) = not (is_word (keyword_text k) (keyword_text l))
is_other k Color = false
is_other k a = true

if_mapped : {A B : Type 0} (Q : B → Type 0) (f : A → B) (m : Matched A) → ((a : A) → Q (f a)) → IfFit Q (mapped f m)
if_mapped Q f No h = tt
if_mapped Q f Out h = tt
if_mapped Q f (Fit a) h = h a

module _ (free : TextsAreFree) (k : Word) where
  pub number_skipped : (v : Ratio) (u : calc_units.Unit) → keyword_of (keyword_text k) (number_alone v u) ≡ No
  number_skipped v u = no_keyword (keyword_text k) (number_alone v u) (free.number_no_ident v u)

  calc_skipped : (c : Calc) → keyword_of (keyword_text k) (calc_text c) ≡ No
  calc_skipped c = no_keyword (keyword_text k) (calc_text c) (free.no_ident c)

  mixed_skipped : (c : Calc) (l : layer.Calc-F Calc) → Skips k (mixed_as c l)
  mixed_skipped c (layer.Num v units.Px) = number_skipped v units.Px
  mixed_skipped c (layer.Num v units.Percent) = number_skipped v units.Percent
  mixed_skipped c (layer.Num v u) = calc_skipped (tree.Num v u)
  mixed_skipped c l = calc_skipped c

  word_skipped : (l : Word) → not (is_word (keyword_text k) (keyword_text l)) ≡ true → Skips k (item_of.Ident (keyword_text l))
  word_skipped l h = by (is_word (keyword_text k) (keyword_text l)) h
    where
      by : (b : Bool) → not b ≡ true → (if b then Fit (item_of.Ident (keyword_text k)) else No) ≡ No
      by true h = cc
      by false h = refl

  keyword_skipped : (l : Word) → not (is_word (keyword_text k) (keyword_text l)) ≡ true → (ts : List Token) → IfFit (Skips k) (keyword_of (keyword_text l) ts)
  keyword_skipped l h [] = tt
  keyword_skipped l h (token.Ident name ∷ []) = by (is_word (keyword_text l) name)
    where
      by : (b : Bool) → IfFit (Skips k) (if b then Fit (item_of.Ident (keyword_text l)) else No)
      by true = word_skipped l h
      by false = tt
  keyword_skipped l h (t ∷ ts) = tt

  portion_skipped : (m : Matched Ratio) → IfFit (Skips k) (counted_portion m)
  portion_skipped No = tt
  portion_skipped Out = tt
  portion_skipped (Fit v) = by (in_bounds (hundredths 1 v))
    where
      by : (b : Bool) → IfFit (Skips k) (if b then Fit (item_of.Percentage v) else Out)
      by true = number_skipped v units.Percent
      by false = tt

  other_skipped : (x : Context) (ts : List Token) (a : Alternative) → is_other k a ≡ true → IfFit (Skips k) (alternative x ts a)
  other_skipped x ts (Keyword l) h = keyword_skipped l h ts
  other_skipped x ts (Number r) h = if_mapped (Skips k) item_of.Number (numeric.number r x ts) (λ v. number_skipped v units.Number)
  other_skipped x ts Portion h = portion_skipped (numeric.percentage x ts)
  other_skipped x ts Integer h = if_mapped (Skips k) item_of.Integer (numeric.integer x ts) (λ n. refl)
  other_skipped x ts PositiveInteger h = if_mapped (Skips k) item_of.Integer (positive_integer_of x ts) (λ n. refl)
  other_skipped x ts Length h = if_mapped (Skips k) item_of.Length (numeric.length x ts) (λ v. number_skipped v units.Px)
  other_skipped x ts (LengthPercentage r) h = if_mapped (Skips k) mixed_item (numeric.length_percentage_in r x ts) (λ c. mixed_skipped c (out-Calc c))
  other_skipped x ts Color h = cc

  if_else : (m n : Matched Item) → IfFit (Skips k) m → IfFit (Skips k) n → IfFit (Skips k) (or_else m n)
  if_else No n h j = j
  if_else Out n h j = tt
  if_else (Fit a) n h j = h

  -- what a grammar of other alternatives gives is skipped
  pub grammar_skipped : (x : Context) (ts : List Token) (all : List Alternative) → list_all (is_other k) all ≡ true → IfFit (Skips k) (by_grammar all x ts)
  grammar_skipped x ts [] h = tt
  grammar_skipped x ts (a ∷ all) h =
      let (here, there) = both (is_other k a) (list_all (is_other k) all) h in
      if_else (alternative x ts a) (by_grammar all x ts) (other_skipped x ts a here) (grammar_skipped x ts all there)
