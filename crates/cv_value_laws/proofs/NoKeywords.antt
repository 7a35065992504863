-- Texts of matched values aren't a CSS-wide keyword alone.
use Rattle.std.specs.Prelude.{◌≡◌, ℕ, Bool, true, false, not, ◌||◌, List, [], ◌∷◌, ◌++◌, codes, bytes_eq, if◌then◌else◌}
use Rattle.std.specs.List.{list_all, AllByRecursion as Every}
use Rattle.std.proofs.Common.{refl, ◌∙◌, ap, append-nil, arith}
use Rattle.std.proofs.lemmas.Slice.Eq.{bytes_eq-Decides}
use Rattle.cv_spec_text.specs.Keywords.{is_word, is_css_wide_keyword}
use Rattle.cv_spec_text.specs.declared.token.Token.{Token}
use Rattle.cv_spec_text.specs.declared.token.Token.TheVariants as tokens
use Rattle.cv_component.specs.TopLevel.{trim_front}
use Rattle.cv_calc.specs.declared.unit.Unit.TheVariants as units
use Rattle.cv_calc.specs.declared.unit.Unit.TheVariants.{Px, Percent}
use Rattle.cv_calc.specs.declared.context.Context.{Context}
use Rattle.cv_calc.specs.declared.calc.Calc.{Calc}
use Rattle.cv_calc.specs.declared.calc.Calc.TheOpen.{Calc-F}
use Rattle.cv_calc.specs.declared.calc.Calc.TheOpen as layer
use Rattle.cv_calc.specs.declared.calc.Calc.TheViews.{out-Calc}
use Rattle.cv_color.specs.declared.color.Color.{Color}
use Rattle.cv_color.specs.declared.color.Color.TheVariants.{Current, Rgb}
use Rattle.cv_color.specs.Text.{separated, channels_text, alpha_text, is_opaque, closing, color_text}
use Rattle.cv_colorread.specs.Colors.{color}
use Rattle.cv_numeric.specs.declared.matched.Matched.TheVariants.{No, Fit}
use Rattle.cv_numeric.specs.declared.quantity.Range.TheVariants.{All}
use Rattle.cv_numeric.specs.Numeric as numeric
use Rattle.cv_syntax.specs.declared.syntax.Kind.{Kind}
use Rattle.cv_syntax.specs.declared.syntax.Kind.TheVariants as kinds
use Rattle.cv_syntax.specs.declared.syntax.Component.{Component}
use Rattle.cv_syntax.specs.declared.syntax.Syntax.{Syntax}
use Rattle.cv_syntax.specs.declared.syntax.Syntax.TheVariants.{Any, Of}
use Rattle.cv_value.specs.declared.typed.Item.{Item}
use Rattle.cv_value.specs.declared.typed.Item.TheVariants as item_of
use Rattle.cv_value.specs.declared.typed.Typed.{Typed}
use Rattle.cv_value.specs.declared.typed.Typed.TheVariants.{One, Spaces, Commas}
use Rattle.cv_value.specs.Items.{mixed_as, mixed_item, is_end, url_inside, url, string, custom_ident, literal, item}
use Rattle.cv_value.specs.Matching.{matching}
use Rattle.cv_value.specs.Text.{item_text, further_text, list_text, typed_text}
use Rattle.cv_calc_laws.specs.Fonts.{is_no_ident}
use Rattle.cv_calc_laws.proofs.Free.{texts_are_free}
use Rattle.cv_calc_laws.proofs.Lists.{and_both, false_true}
use Rattle.cv_value_laws.specs.Entries.{IsComponentValue, preserved, block}
use Rattle.cv_syntax.specs.Told.{is_no_keyword, has_no_keyword}
use Rattle.cv_value.specs.Kept.{IsCanonical, NoKeyword, OfItems}
use Rattle.cv_value_laws.specs.Values.{is_keyword, ValuesAreFree, ItemsAreFree}
use Rattle.cv_value_laws.proofs.Fits.{AnyToken, AnyList, IfFit, OfComponents, OfSyntax, of_fit, if_made, if_either, if_matching}
use Rattle.cv_value_laws.proofs.CanonicalItems.{size_canonical}
use Rattle.cv_value_laws.proofs.FreeValues.{typed_free, values_canonical}
use Rattle.cv_value_laws.proofs.ItemEntries.{item_entry}
use Rattle.cv_value_laws.proofs.Passing.{by_any}

-- ---- items

mixed_other : (c : Calc) (l : Calc-F Calc) → NoKeyword (mixed_as c l)
mixed_other c (layer.Num v Px) = tt
mixed_other c (layer.Num v Percent) = tt
mixed_other c (layer.Num v u) = tt
mixed_other c l = tt

inside_other : (ts : List Token) → IfFit NoKeyword (url_inside ts)
inside_other [] = tt
inside_other (tokens.Str text ∷ ts) = if_either NoKeyword (is_end (trim_front ts)) (Fit (item_of.Url text)) No tt tt
inside_other (t ∷ ts) = tt

url_other : (ts : List Token) → IfFit NoKeyword (url ts)
url_other [] = tt
url_other (tokens.Url text ∷ []) = tt
url_other (tokens.Function name ∷ ts) = if_either NoKeyword (is_word (codes "url") name) (url_inside (trim_front ts)) No (inside_other (trim_front ts)) tt
url_other (t ∷ ts) = tt

string_other : (ts : List Token) → IfFit NoKeyword (string ts)
string_other [] = tt
string_other (tokens.Str text ∷ []) = tt
string_other (t ∷ ts) = tt

not_reserved : (k d : Bool) (name : List ℕ) → is_css_wide_keyword name ≡ k → IfFit NoKeyword (if k || d then No else Fit (item_of.Ident name))
not_reserved true d name e = tt
not_reserved false true name e = tt
not_reserved false false name e = e

ident_other : (ts : List Token) → IfFit NoKeyword (custom_ident ts)
ident_other [] = tt
ident_other (tokens.Ident name ∷ []) = not_reserved (is_css_wide_keyword name) (is_word (codes "default") name) name refl
ident_other (t ∷ ts) = tt

not_not : (b : Bool) → not b ≡ true → b ≡ false
not_not true e = absurd (false_true e)
not_not false e = refl

same_text : (xs ys : List ℕ) → bytes_eq xs ys ≡ true → xs ≡ ys
same_text xs ys t = grind (arith, bytes_eq-Decides xs ys, t)

same_word : (word name : List ℕ) → is_css_wide_keyword word ≡ false → (b : Bool) → bytes_eq name word ≡ b → IfFit NoKeyword (if b then Fit (item_of.Ident name) else No)
same_word word name h true e = ap is_css_wide_keyword (same_text name word e) ∙ h
same_word word name h false e = tt

literal_other : (word : List ℕ) → is_css_wide_keyword word ≡ false → (ts : List Token) → IfFit NoKeyword (literal word ts)
literal_other word h [] = tt
literal_other word h (tokens.Ident name ∷ []) = same_word word name h (bytes_eq name word) refl
literal_other word h (t ∷ ts) = tt

item_other : (k : Kind) → is_no_keyword k ≡ true → (x : Context) (ts : List Token) → IfFit NoKeyword (item k x ts)
item_other kinds.Length h x ts = if_made NoKeyword item_of.Length (λ v. tt) (numeric.length x ts)
item_other kinds.Number h x ts = if_made NoKeyword item_of.Number (λ v. tt) (numeric.number All x ts)
item_other kinds.Percentage h x ts = if_made NoKeyword item_of.Percentage (λ v. tt) (numeric.percentage x ts)
item_other kinds.LengthPercentage h x ts = if_made NoKeyword mixed_item (λ c. mixed_other c (out-Calc c)) (numeric.length_percentage All x ts)
item_other kinds.Color h x ts = if_made NoKeyword item_of.Color (λ v. tt) (color x ts)
item_other kinds.Url h x ts = url_other ts
item_other kinds.Integer h x ts = if_made NoKeyword item_of.Integer (λ v. tt) (numeric.integer x ts)
item_other kinds.Angle h x ts = if_made NoKeyword item_of.Angle (λ v. tt) (numeric.angle x ts)
item_other kinds.Time h x ts = if_made NoKeyword item_of.Time (λ v. tt) (numeric.time x ts)
item_other kinds.Resolution h x ts = if_made NoKeyword item_of.Resolution (λ v. tt) (numeric.resolution x ts)
item_other kinds.Str h x ts = string_other ts
item_other kinds.CustomIdent h x ts = ident_other ts
item_other (kinds.Literal word) h x ts = literal_other word (not_not (is_css_wide_keyword word) h) ts

components_other : (cs : List Component) → list_all (λ (c : Component). is_no_keyword c.kind) cs ≡ true → (x : Context) → OfComponents AnyToken AnyList by_any NoKeyword x cs
components_other [] h x = tt
components_other (c ∷ cs) h x =
    let (first, rest) = and_both (is_no_keyword c.kind) (list_all (λ (d : Component). is_no_keyword d.kind) cs) h in
    ((λ ts any. item_other c.kind first x ts), components_other cs rest x)

syntax_other : (s : Syntax) → has_no_keyword s ≡ true → (x : Context) → OfSyntax AnyToken AnyList by_any NoKeyword x s
syntax_other Any h x = tt
syntax_other (Of cs) h x = components_other cs h x

-- ---- texts

no_ident : (ts : List Token) → list_all is_no_ident ts ≡ true → is_keyword ts ≡ false
no_ident [] h = refl
no_ident (tokens.Ident name ∷ ts) h = absurd (false_true h)
no_ident (t ∷ ts) h = refl

color_no_keyword : (c : Color) → is_keyword (color_text c) ≡ false
color_no_keyword Current = refl
color_no_keyword (Rgb r g b a) = go (is_opaque a)
  where
    go : (o : Bool) →
        is_keyword (if o then tokens.Function (codes "rgb") ∷ channels_text r g b ++ closing else tokens.Function (codes "rgba") ∷ channels_text r g b ++ separated (alpha_text a) ++ closing) ≡ false
    go true = refl
    go false = refl

item_no_keyword : (i : Item) → NoKeyword i → is_keyword (item_text i) ≡ false
item_no_keyword (item_of.Number v) h = no_ident (item_text (item_of.Number v)) (texts_are_free.number_no_ident v units.Number)
item_no_keyword (item_of.Integer n) h = refl
item_no_keyword (item_of.Percentage v) h = no_ident (item_text (item_of.Percentage v)) (texts_are_free.number_no_ident v units.Percent)
item_no_keyword (item_of.Length v) h = no_ident (item_text (item_of.Length v)) (texts_are_free.number_no_ident v units.Px)
item_no_keyword (item_of.Mixed c) h = no_ident (item_text (item_of.Mixed c)) (texts_are_free.no_ident c)
item_no_keyword (item_of.Angle v) h = no_ident (item_text (item_of.Angle v)) (texts_are_free.number_no_ident v units.Deg)
item_no_keyword (item_of.Time v) h = no_ident (item_text (item_of.Time v)) (texts_are_free.number_no_ident v units.S)
item_no_keyword (item_of.Resolution v) h = no_ident (item_text (item_of.Resolution v)) (texts_are_free.number_no_ident v units.Dppx)
item_no_keyword (item_of.Color c) h = color_no_keyword c
item_no_keyword (item_of.Url text) h = refl
item_no_keyword (item_of.Str text) h = refl
item_no_keyword (item_of.Ident name) h = h

-- two tokens or more are no keyword
two : (t r : Token) (ts : List Token) → is_keyword (t ∷ r ∷ ts) ≡ false
two (tokens.Ident name) r ts = refl
two t r ts = refl

longer : (e : List Token) → IsComponentValue e → (r : Token) (rest : List Token) → is_keyword (e ++ r ∷ rest) ≡ false
longer _ (preserved token none) r rest = two token r rest
longer _ (block bracket token [] is inside_is) r rest = two token r rest
longer _ (block bracket token (a ∷ inside) is inside_is) r rest = two token a (inside ++ r ∷ rest)

list_no_keyword : (r : Token) (more : List Token) (is : List Item) → Every NoKeyword is → is_keyword (list_text (r ∷ more) is) ≡ false
list_no_keyword r more [] h = refl
list_no_keyword r more (i ∷ []) h = ap is_keyword (append-nil (item_text i)) ∙ item_no_keyword i h.0
list_no_keyword r more (i ∷ j ∷ is) h = longer (item_text i) (item_entry i).value r (more ++ item_text j ++ further_text (r ∷ more) is)

typed_no_keyword : (v : Typed) → OfItems NoKeyword v → is_keyword (typed_text v) ≡ false
unfolding typed_text
typed_no_keyword (One i) h = item_no_keyword i h
typed_no_keyword (Spaces is) h = list_no_keyword tokens.White [] is h
typed_no_keyword (Commas is) h = list_no_keyword tokens.Comma (tokens.White ∷ []) is h

values_no_keyword : (s : Syntax) → has_no_keyword s ≡ true → (x : Context) (ts : List Token) (v : Typed) → matching s x ts ≡ Fit v → OfItems NoKeyword v
values_no_keyword s h x ts v e = of_fit (OfItems NoKeyword) (matching s x ts) v (if_matching AnyToken AnyList by_any NoKeyword x s (syntax_other s h x) ts tt) e

pub items_are_free : ItemsAreFree
items_are_free = record {
  are_canonical = values_canonical;
  are_no_keyword = values_no_keyword;
  sizes_are_canonical = λ r x ts c e. of_fit (λ d. IsCanonical (mixed_item d)) (numeric.length_percentage_in r x ts) c (size_canonical r x ts) e;
  no_font_unit = typed_free;
  no_keyword = typed_no_keyword;
}

pub values_are_free : ValuesAreFree
values_are_free = record {
  no_font_unit = λ root s x ts v e. typed_free root v (values_canonical s x ts v e);
  no_keyword = λ s h x ts v e. typed_no_keyword v (values_no_keyword s h x ts v e);
}
