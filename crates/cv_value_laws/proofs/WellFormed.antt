-- Tokens of texts of matched values are tokens of texts.
use Rattle.std.specs.Prelude.{◌≡◌, ℕ, ℤ, pos, negsuc, suc, Bool, true, false, List, [], ◌∷◌, ◌++◌, codes, decimal, bytes_eq, All, Contains, if◌then◌else◌}
use Rattle.std.specs.Fmt.{signed_decimal}
use Rattle.std.specs.List.{AllByRecursion as Every}
use Rattle.std.proofs.Common.{refl, sym, ◌∙◌, ap, subst, arith}
use Rattle.std.proofs.lemmas.List.Elements.{All-nil, All-cons, All-weaker, All-contains_itself, recursion_from_All}
use Rattle.std.proofs.lemmas.Str.{chars-encodes}
use Rattle.cv_spec_text.specs.Keywords.{is_word}
use Rattle.cv_spec_text.specs.Printing.{written, bytes}
use Rattle.cv_spec_text.specs.Splits.{IsSpelt}
use Rattle.cv_spec_text.specs.Text.{preprocessed}
use Rattle.cv_spec_text.specs.Tokens.{tokens_of, tokens as tokens_in}
use Rattle.cv_spec_text.specs.declared.token.Token.{Token}
use Rattle.cv_spec_text.specs.declared.token.Token.TheVariants as tokens
use Rattle.cv_tokser.specs.Clean.{IsClean}
use Rattle.cv_tokser.proofs.WellFormed.{is_nameable, AreAll, IsName, IsSpelling, IsWellFormed, AreWellFormed}
use Rattle.cv_tokser.proofs.CleanBack.{clean_back}
use Rattle.cv_tokser.proofs.Kept.{written-kept, kept-scalars, kept-preprocessed}
use Rattle.cv_tokser.proofs.ListsBack.{lists_back}
use Rattle.cv_tokser.proofs.Spelt.{are_well_formed}
use Rattle.cv_component.specs.TopLevel.{trim_front}
use Rattle.cv_spec_ratio.specs.Ratio.{Ratio}
use Rattle.cv_calc.specs.declared.unit.Unit.{Unit as CalcUnit}
use Rattle.cv_calc.specs.declared.unit.Unit.TheVariants as units
use Rattle.cv_calc.specs.declared.calc.Calc.{Calc}
use Rattle.cv_calc.specs.declared.calc.Calc.TheVariants as tree
use Rattle.cv_calc.specs.declared.calc.Calc.TheOpen.{Calc-F}
use Rattle.cv_calc.specs.declared.calc.Calc.TheOpen as layer
use Rattle.cv_calc.specs.declared.calc.Calc.TheViews.{out-Calc}
use Rattle.cv_calc.specs.declared.context.Context.{Context}
use Rattle.cv_calc.specs.Tree.{out-Num}
use Rattle.cv_simplify.specs.Text.{number_alone, calc_text_as, calc_text}
use Rattle.cv_simplify.proofs.Spelt.{decimal_digits, decimal_some, of_digits, IsMantissa, positive, negative}
use Rattle.cv_simplify.proofs.SpeltTexts.{text_spelt}
use Rattle.cv_color.specs.declared.color.Color.{Color}
use Rattle.cv_color.specs.declared.color.Color.TheVariants.{Current, Rgb}
use Rattle.cv_color.specs.Text.{separated, channels_text, alpha_text, is_opaque, closing, color_text}
use Rattle.cv_colorread.specs.Colors.{color}
use Rattle.cv_numeric.specs.declared.matched.Matched.TheVariants.{No, Fit}
use Rattle.cv_numeric.specs.declared.quantity.Range.TheVariants.{All as AllRange}
use Rattle.cv_numeric.specs.Numeric as numeric
use Rattle.cv_syntax.specs.declared.syntax.Kind.{Kind}
use Rattle.cv_syntax.specs.declared.syntax.Kind.TheVariants as kinds
use Rattle.cv_syntax.specs.declared.syntax.Syntax.{Syntax}
use Rattle.cv_value.specs.declared.typed.Item.{Item}
use Rattle.cv_value.specs.declared.typed.Item.TheVariants as item_of
use Rattle.cv_value.specs.declared.typed.Typed.{Typed}
use Rattle.cv_value.specs.declared.typed.Typed.TheVariants.{One, Spaces, Commas}
use Rattle.cv_value.specs.Items.{mixed_as, mixed_item, is_end, url_inside, url, string, is_reserved, custom_ident, literal, item}
use Rattle.cv_value.specs.Matching.{matching}
use Rattle.cv_value.specs.Text.{item_text, separator, further_text, list_text, typed_text}
use Rattle.cv_value.specs.Kept.{HasSpeltNames}
use Rattle.cv_value_laws.specs.Texts.{TextsAreSpelt}
use Rattle.cv_value.specs.Kept.{OfItems}
use Rattle.cv_value_laws.proofs.CleanLists.{item_clean, typed_clean}
use Rattle.cv_value_laws.proofs.Fits.{IfFit, of_fit, if_made, if_either, if_matching, each_syntax}
use Rattle.cv_value_laws.proofs.Passing.{ByTokens, joined_pass, front_pass}

by : ByTokens IsWellFormed AreWellFormed
by = record { nothing = tt; more = λ t ts h k. (h, k); apart = λ t ts h. (h.0, h.1) }

-- a clean list of well formed tokens is read again as it was printed, so its tokens are those of a text
all_spelt : (list : List Token) → IsClean list → AreWellFormed list → All IsSpelt list
all_spelt list clean well =
    let kept = written-kept list well in
    let read : tokens_in (bytes list) ≡ list =
    ap (λ (l : List ℕ). tokens_of (preprocessed l)) (chars-encodes (written list) (kept-scalars (written list) kept))
    ∙ ap tokens_of (kept-preprocessed (written list) kept) ∙ lists_back list clean well in
    All-weaker (Contains list) IsSpelt (λ t h. (bytes list, (written list, (kept-scalars (written list) kept, refl)), subst (λ (l : List Token). Contains l t) (sym read) h)) list
    (All-contains_itself list)

-- ---- items

-- what an item holds of the tokens that it was read from
abbrev IsRead : Item → Type 0
IsRead (item_of.Url text) = AreAll is_nameable text
IsRead (item_of.Str text) = AreAll is_nameable text
IsRead (item_of.Ident name) = IsName name
IsRead i = Unit {0}

mixed_read : (c : Calc) (l : Calc-F Calc) → IsRead (mixed_as c l)
mixed_read c (layer.Num v units.Px) = tt
mixed_read c (layer.Num v units.Percent) = tt
mixed_read c (layer.Num v u) = tt
mixed_read c l = tt

inside_read : (ts : List Token) → AreWellFormed ts → IfFit IsRead (url_inside ts)
inside_read [] h = tt
inside_read (tokens.Str text ∷ ts) h = if_either IsRead (is_end (trim_front ts)) (Fit (item_of.Url text)) No h.0 tt
inside_read (t ∷ ts) h = tt

url_read : (ts : List Token) → AreWellFormed ts → IfFit IsRead (url ts)
url_read [] h = tt
url_read (tokens.Url text ∷ []) h = h.0
url_read (tokens.Function name ∷ ts) h =
    if_either IsRead (is_word (codes "url") name) (url_inside (trim_front ts)) No (inside_read (trim_front ts) (front_pass IsWellFormed AreWellFormed by ts h.1)) tt
url_read (t ∷ ts) h = tt

string_read : (ts : List Token) → AreWellFormed ts → IfFit IsRead (string ts)
string_read [] h = tt
string_read (tokens.Str text ∷ []) h = h.0
string_read (t ∷ ts) h = tt

ident_read : (ts : List Token) → AreWellFormed ts → IfFit IsRead (custom_ident ts)
ident_read [] h = tt
ident_read (tokens.Ident name ∷ []) h = if_either IsRead (is_reserved name) No (Fit (item_of.Ident name)) tt h.0
ident_read (t ∷ ts) h = tt

literal_read : (word : List ℕ) (ts : List Token) → AreWellFormed ts → IfFit IsRead (literal word ts)
literal_read word [] h = tt
literal_read word (tokens.Ident name ∷ []) h = if_either IsRead (bytes_eq name word) (Fit (item_of.Ident name)) No h.0 tt
literal_read word (t ∷ ts) h = tt

item_read : (k : Kind) (x : Context) (ts : List Token) → AreWellFormed ts → IfFit IsRead (item k x ts)
item_read kinds.Length x ts h = if_made IsRead item_of.Length (λ v. tt) (numeric.length x ts)
item_read kinds.Number x ts h = if_made IsRead item_of.Number (λ v. tt) (numeric.number AllRange x ts)
item_read kinds.Percentage x ts h = if_made IsRead item_of.Percentage (λ v. tt) (numeric.percentage x ts)
item_read kinds.LengthPercentage x ts h = if_made IsRead mixed_item (λ c. mixed_read c (out-Calc c)) (numeric.length_percentage AllRange x ts)
item_read kinds.Color x ts h = if_made IsRead item_of.Color (λ v. tt) (color x ts)
item_read kinds.Url x ts h = url_read ts h
item_read kinds.Integer x ts h = if_made IsRead item_of.Integer (λ v. tt) (numeric.integer x ts)
item_read kinds.Angle x ts h = if_made IsRead item_of.Angle (λ v. tt) (numeric.angle x ts)
item_read kinds.Time x ts h = if_made IsRead item_of.Time (λ v. tt) (numeric.time x ts)
item_read kinds.Resolution x ts h = if_made IsRead item_of.Resolution (λ v. tt) (numeric.resolution x ts)
item_read kinds.Str x ts h = string_read ts h
item_read kinds.CustomIdent x ts h = ident_read ts h
item_read (kinds.Literal word) x ts h = literal_read word ts h

-- ---- texts

joined_well : (xs ys : List Token) → AreWellFormed xs → AreWellFormed ys → AreWellFormed (xs ++ ys)
joined_well xs ys h k = joined_pass IsWellFormed AreWellFormed by xs ys h k

decimal_mantissa : (n : ℕ) → IsMantissa (decimal n)
decimal_mantissa n = of_digits (decimal n) (decimal_digits n) (decimal_some n)

decimal_spelling : (n : ℕ) → IsSpelling (decimal n)
decimal_spelling n = positive (decimal n) (decimal_mantissa n)

signed_spelling : (z : ℤ) → IsSpelling (signed_decimal z)
signed_spelling (pos n) = decimal_spelling n
signed_spelling (negsuc n) = negative (decimal (suc n)) (decimal_mantissa (suc n))

calc_well : (c : Calc) → AreWellFormed (calc_text c)
calc_well c = are_well_formed (calc_text c) (text_spelt c)

number_well : (v : Ratio) (u : CalcUnit) → AreWellFormed (number_alone v u)
unfolding calc_text
number_well v u = subst AreWellFormed (ap (calc_text_as (tree.Num v u)) (out-Num v u)) (calc_well (tree.Num v u))

rgb_name : IsName (codes "rgb")
rgb_name = record { some = omega arith; nameable = (refl, (refl, (refl, tt))) }

rgba_name : IsName (codes "rgba")
rgba_name = record { some = omega arith; nameable = (refl, (refl, (refl, (refl, tt)))) }

url_name : IsName (codes "url")
url_name = record { some = omega arith; nameable = (refl, (refl, (refl, tt))) }

current_name : IsName (codes "currentcolor")
current_name = record { some = omega arith; nameable = (refl, (refl, (refl, (refl, (refl, (refl, (refl, (refl, (refl, (refl, (refl, (refl, tt)))))))))))) }

channels_well : (r g b : ℕ) → AreWellFormed (channels_text r g b)
channels_well r g b = (decimal_spelling r, (tt, (tt, (decimal_spelling g, (tt, (tt, (decimal_spelling b, tt)))))))

color_well : (c : Color) → AreWellFormed (color_text c)
color_well Current = (current_name, tt)
color_well (Rgb r g b a) = go (is_opaque a)
  where
    go : (o : Bool) →
        AreWellFormed (if o then tokens.Function (codes "rgb") ∷ channels_text r g b ++ closing else tokens.Function (codes "rgba") ∷ channels_text r g b ++ separated (alpha_text a) ++ closing)
    go true = (rgb_name, joined_well (channels_text r g b) closing (channels_well r g b) (tt, tt))
    go false = (
      rgba_name,
      joined_well (channels_text r g b ++ separated (alpha_text a)) closing
          (joined_well (channels_text r g b) (separated (alpha_text a)) (channels_well r g b) (tt, (tt, calc_well (tree.Num a units.Number)))) (tt, tt),
    )

item_well : (i : Item) → IsRead i → AreWellFormed (item_text i)
item_well (item_of.Number v) h = number_well v units.Number
item_well (item_of.Integer n) h = (signed_spelling n, tt)
item_well (item_of.Percentage v) h = number_well v units.Percent
item_well (item_of.Length v) h = number_well v units.Px
item_well (item_of.Mixed c) h = calc_well c
item_well (item_of.Angle v) h = number_well v units.Deg
item_well (item_of.Time v) h = number_well v units.S
item_well (item_of.Resolution v) h = number_well v units.Dppx
item_well (item_of.Color c) h = color_well c
item_well (item_of.Url text) h = (url_name, (h, (tt, tt)))
item_well (item_of.Str text) h = (h, tt)
item_well (item_of.Ident name) h = (h, tt)

further_well : (separator : List Token) → AreWellFormed separator → (is : List Item) → Every IsRead is → AreWellFormed (further_text separator is)
further_well separator s [] h = tt
further_well separator s (i ∷ is) h =
    joined_well (separator ++ item_text i) (further_text separator is) (joined_well separator (item_text i) s (item_well i h.0)) (further_well separator s is h.1)

list_well : (separator : List Token) → AreWellFormed separator → (is : List Item) → Every IsRead is → AreWellFormed (list_text separator is)
list_well separator s [] h = tt
list_well separator s (i ∷ is) h = joined_well (item_text i) (further_text separator is) (item_well i h.0) (further_well separator s is h.1)

typed_well : (v : Typed) → OfItems IsRead v → AreWellFormed (typed_text v)
unfolding typed_text
typed_well (One i) h = item_well i h
typed_well (Spaces is) h = list_well (separator false) (tt, tt) is h
typed_well (Commas is) h = list_well (separator true) (tt, (tt, tt)) is h

-- ---- the laws

values_read : (s : Syntax) (x : Context) (ts : List Token) (v : Typed) → All IsSpelt ts → matching s x ts ≡ Fit v → OfItems IsRead v
values_read s x ts v all e =
    of_fit (OfItems IsRead) (matching s x ts) v
    (if_matching IsWellFormed AreWellFormed by IsRead x s (each_syntax IsWellFormed AreWellFormed by IsRead x (λ k us h. item_read k x us h) s) ts (are_well_formed ts all)) e

read_spelt : (v : Typed) → OfItems IsRead v → All IsSpelt (typed_text v)
read_spelt v h = all_spelt (typed_text v) (typed_clean v) (typed_well v h)

-- a token is one of a text where it is well formed
token_well : (t : Token) → IsSpelt t → IsWellFormed t
token_well t h = (are_well_formed (t ∷ []) (All-cons IsSpelt t [] h (All-nil IsSpelt))).0

one_spelt : (t : Token) → IsClean (t ∷ []) → IsWellFormed t → IsSpelt t
one_spelt t clean h = (recursion_from_All IsSpelt (t ∷ []) (all_spelt (t ∷ []) clean (h, tt))).0

names_read : (i : Item) → HasSpeltNames i → IsRead i
names_read (item_of.Url text) h = token_well (tokens.Str text) h
names_read (item_of.Str text) h = token_well (tokens.Str text) h
names_read (item_of.Ident name) h = token_well (tokens.Ident name) h
names_read i h = tt

names_spelt : (i : Item) → IsRead i → HasSpeltNames i
names_spelt (item_of.Url text) h = one_spelt (tokens.Str text) (item_clean (item_of.Str text)) h
names_spelt (item_of.Str text) h = one_spelt (tokens.Str text) (item_clean (item_of.Str text)) h
names_spelt (item_of.Ident name) h = one_spelt (tokens.Ident name) (item_clean (item_of.Ident name)) h
names_spelt i h = tt

-- what follows of each item follows of the items of a value
module _ (P Q : Item → Type 0) (h : (i : Item) → P i → Q i) where
  each_item : (is : List Item) → Every P is → Every Q is
  each_item [] k = tt
  each_item (i ∷ is) k = (h i k.0, each_item is k.1)

  of_each : (v : Typed) → OfItems P v → OfItems Q v
  of_each (One i) k = h i k
  of_each (Spaces is) k = each_item is k
  of_each (Commas is) k = each_item is k

spelt : (s : Syntax) (x : Context) (ts : List Token) (v : Typed) → All IsSpelt ts → matching s x ts ≡ Fit v → All IsSpelt (typed_text v)
spelt s x ts v all e = read_spelt v (values_read s x ts v all e)

of_items : (v : Typed) → OfItems HasSpeltNames v → All IsSpelt (typed_text v)
of_items v h = read_spelt v (of_each HasSpeltNames IsRead names_read v h)

pub texts_are_spelt : TextsAreSpelt
texts_are_spelt = record {
  spelt = spelt;
  read = λ s x ts v all e. clean_back (typed_text v) (typed_clean v) (spelt s x ts v all e);
  are_spelt = λ s x ts v all e. of_each IsRead HasSpeltNames names_spelt v (values_read s x ts v all e);
  of_items = of_items;
  items_read = λ v h. clean_back (typed_text v) (typed_clean v) (of_items v h);
}
