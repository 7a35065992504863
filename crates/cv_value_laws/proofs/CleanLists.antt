-- Texts of typed values are clean.
use Rattle.std.specs.Prelude.{◌≡◌, Bool, true, false, ◌&&◌, List, [], ◌∷◌, ◌++◌, codes, if◌then◌else◌}
use Rattle.std.proofs.Common.{refl, sym, ◌∙◌, ap, subst, append_assoc, append-nil}
use Rattle.cv_spec_text.specs.Printing.{is_white as is_printed_white}
use Rattle.cv_spec_text.specs.declared.token.Token.{Token}
use Rattle.cv_spec_text.specs.declared.token.Token.TheVariants as tokens
use Rattle.cv_spec_text.specs.declared.token.Token.TheVariants.{White, Str}
use Rattle.cv_tokser.specs.Clean.{begins_white, begins_string, IsClean}
use Rattle.cv_component.specs.TopLevel.{begins}
use Rattle.cv_component.specs.Parts.{is_white}
use Rattle.cv_spec_ratio.specs.Ratio.{Ratio}
use Rattle.cv_calc.specs.declared.unit.Unit.{Unit as CalcUnit}
use Rattle.cv_calc.specs.declared.unit.Unit.TheVariants as units
use Rattle.cv_calc.specs.declared.calc.Calc.TheVariants as tree
use Rattle.cv_calc.specs.Tree.{out-Num}
use Rattle.cv_simplify.specs.Text.{number_alone, calc_text_as, calc_text}
use Rattle.cv_simplify.proofs.CleanTexts.{text_clean}
use Rattle.cv_color.specs.declared.color.Color.{Color}
use Rattle.cv_color.specs.declared.color.Color.TheVariants.{Current, Rgb}
use Rattle.cv_color.specs.Text.{separated, channels_text, alpha_text, is_opaque, closing, color_text}
use Rattle.cv_color.proofs.CleanText.{clean_current, clean_opaque, clean_alpha}
use Rattle.cv_value.specs.declared.typed.Item.{Item}
use Rattle.cv_value.specs.declared.typed.Item.TheVariants as item_of
use Rattle.cv_value.specs.declared.typed.Typed.{Typed}
use Rattle.cv_value.specs.declared.typed.Typed.TheVariants.{One, Spaces, Commas}
use Rattle.cv_value.specs.Text.{item_text, separator, further_text, list_text, typed_text}
use Rattle.cv_calc_laws.proofs.Lists.{false_true}
use Rattle.cv_value_laws.specs.Entries.{IsComponentValue, preserved, block, IsEntry}
use Rattle.cv_value_laws.specs.Texts.{TextsAreClean}
use Rattle.cv_value_laws.proofs.Ends.{EndsFull, entry_ends}
use Rattle.cv_value_laws.proofs.ItemEntries.{item_entry}

white_same : (t : Token) → is_printed_white t ≡ is_white t
white_same White = refl
white_same t = refl

-- ---- clean lists together

-- the last token isn't whitespace
abbrev EndsDone : List Token → Type 0
EndsDone [] = Unit {0}
EndsDone (t ∷ []) = is_printed_white t ≡ false
EndsDone (t ∷ s ∷ ts) = EndsDone (s ∷ ts)

ends_done : (before : List Token) (t : Token) → is_printed_white t ≡ false → EndsDone (before ++ t ∷ [])
ends_done [] t h = h
ends_done (a ∷ []) t h = h
ends_done (a ∷ b ∷ rest) t h = ends_done (b ∷ rest) t h

entry_done : (e : List Token) → IsEntry e → EndsDone e
entry_done e is = let full : EndsFull e = entry_ends e is in subst EndsDone (sym full.are) (ends_done full.before full.last (white_same full.last ∙ full.full))

entry_begins : (e : List Token) → IsComponentValue e → begins is_white e ≡ false → (rest : List Token) → begins_white (e ++ rest) ≡ false
entry_begins _ (preserved token none) h rest = white_same token ∙ h
entry_begins _ (block bracket token inside is inside_is) h rest = white_same token ∙ h

string_kept : (ts us : List Token) → begins_string ts ≡ true → begins_string (ts ++ us) ≡ true
string_kept [] us h = absurd (false_true h)
string_kept (White ∷ ts) us h = string_kept ts us h
string_kept (Str text ∷ ts) us h = refl
string_kept (t ∷ ts) us h = absurd (false_true h)

joined_clean : (ts us : List Token) → IsClean ts → EndsDone ts → IsClean us → IsClean (ts ++ us)
joined_clean [] us h e k = k
joined_clean (t ∷ []) us h e k = (h.0, ap (λ (b : Bool). b && begins_white us) e, (λ url. absurd (false_true (h.2 url))), k)
joined_clean (t ∷ s ∷ ts) us h e k = (h.0, h.1, (λ url. string_kept (s ∷ ts) us (h.2 url)), joined_clean (s ∷ ts) us h.3 e k)

-- ---- items

number_clean : (v : Ratio) (u : CalcUnit) → IsClean (number_alone v u)
unfolding calc_text
number_clean v u = subst IsClean (ap (calc_text_as (tree.Num v u)) (out-Num v u)) (text_clean (tree.Num v u))

color_clean : (c : Color) → IsClean (color_text c)
color_clean Current = clean_current
color_clean (Rgb r g b a) = go (is_opaque a)
  where
    go : (o : Bool) →
        IsClean (if o then tokens.Function (codes "rgb") ∷ channels_text r g b ++ closing else tokens.Function (codes "rgba") ∷ channels_text r g b ++ separated (alpha_text a) ++ closing)
    go true = clean_opaque r g b
    go false = clean_alpha r g b a

pub item_clean : (i : Item) → IsClean (item_text i)
item_clean (item_of.Number v) = number_clean v units.Number
item_clean (item_of.Integer n) = (refl, refl, (λ url. absurd (false_true url)), tt)
item_clean (item_of.Percentage v) = number_clean v units.Percent
item_clean (item_of.Length v) = number_clean v units.Px
item_clean (item_of.Mixed c) = text_clean c
item_clean (item_of.Angle v) = number_clean v units.Deg
item_clean (item_of.Time v) = number_clean v units.S
item_clean (item_of.Resolution v) = number_clean v units.Dppx
item_clean (item_of.Color c) = color_clean c
item_clean (item_of.Url text) = (refl, refl, (λ url. refl), (refl, refl, (λ url. absurd (false_true url)), (refl, refl, (λ url. absurd (false_true url)), tt)))
item_clean (item_of.Str text) = (refl, refl, (λ url. absurd (false_true url)), tt)
item_clean (item_of.Ident name) = (refl, refl, (λ url. absurd (false_true url)), tt)

-- ---- lists

abbrev Separates : List Token → Type 0
Separates separator = (ts : List Token) → IsClean ts → begins_white ts ≡ false → IsClean (separator ++ ts)

list_clean : (separator : List Token) → Separates separator → (i : Item) (is : List Item) → IsClean (list_text separator (i ∷ is))
list_clean separator apart i [] = subst IsClean (sym (append-nil (item_text i))) (item_clean i)
list_clean separator apart i (j ∷ is) =
    let entry : IsEntry (item_text j) = item_entry j in
    joined_clean (item_text i) (further_text separator (j ∷ is)) (item_clean i) (entry_done (item_text i) (item_entry i)) (
    subst IsClean (sym (append_assoc separator (item_text j) (further_text separator is)))
    (apart (list_text separator (j ∷ is)) (list_clean separator apart j is) (entry_begins (item_text j) entry.value entry.not_white (further_text separator is)))
    )

lists_clean : (separator : List Token) → Separates separator → (is : List Item) → IsClean (list_text separator is)
lists_clean separator apart [] = tt
lists_clean separator apart (i ∷ is) = list_clean separator apart i is

spaces_apart : Separates (separator false)
spaces_apart ts h b = (refl, b, (λ url. absurd (false_true url)), h)

commas_apart : Separates (separator true)
commas_apart ts h b = (refl, refl, (λ url. absurd (false_true url)), (refl, b, (λ url. absurd (false_true url)), h))

pub typed_clean : (v : Typed) → IsClean (typed_text v)
unfolding typed_text
typed_clean (One i) = item_clean i
typed_clean (Spaces is) = lists_clean (separator false) spaces_apart is
typed_clean (Commas is) = lists_clean (separator true) commas_apart is

pub texts_are_clean : TextsAreClean
texts_are_clean = record { item = item_clean; typed = typed_clean }
