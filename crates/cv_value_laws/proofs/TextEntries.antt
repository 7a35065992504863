-- The texts of numbers, calculations and colours are entries of lists: one token or one function each.
use Rattle.std.specs.Prelude.{◌≡◌, ◌≢◌, ℕ, Bool, true, false, List, [], ◌∷◌, ◌++◌, map, codes, decimal, None, if◌then◌else◌}
use Rattle.std.proofs.Common.{refl, sym, ◌∙◌, ap, subst, append_assoc}
use Rattle.cv_spec_text.specs.declared.token.Bracket.{Bracket}
use Rattle.cv_spec_text.specs.declared.token.Bracket.TheVariants.{Round}
use Rattle.cv_spec_text.specs.declared.token.Token.{Token}
use Rattle.cv_spec_text.specs.declared.token.Token.TheVariants as tokens
use Rattle.cv_component.specs.Nesting.{opened}
use Rattle.cv_component.specs.Balance.{IsBlock, ends, plain, block}
use Rattle.cv_spec_ratio.specs.Ratio.{Ratio}
use Rattle.cv_frac.specs.Text.{frac_text}
use Rattle.cv_calc.specs.declared.unit.Unit.{Unit}
use Rattle.cv_calc.specs.declared.unit.Unit.TheVariants as units
use Rattle.cv_calc.specs.declared.calc.Calc.{Calc}
use Rattle.cv_calc.specs.declared.calc.Calc.TheVariants as tree
use Rattle.cv_calc.specs.declared.calc.Calc.TheOpen.{Calc-F, Num, Min, Max, Clamp}
use Rattle.cv_calc.specs.declared.calc.Calc.TheViews.{out-Calc, roll-Calc, roll-out-Calc}
use Rattle.cv_calc.specs.declared.calc.Calc.TheVariants.{rolls-Min, rolls-Max, rolls-Clamp}
use Rattle.cv_simplify.specs.declared.place.Place.TheVariants.{Whole}
use Rattle.cv_simplify.specs.Text.{closing, call, numeric, has_decimal, decimal_tokens, quotient_tokens, number_alone, Written, arguments_of, written, calc_text_as, calc_text}
use Rattle.cv_simplify.proofs.Texts.{written-Min, written-Max, written-Clamp}
use Rattle.cv_color.specs.declared.color.Color.{Color}
use Rattle.cv_color.specs.declared.color.Color.TheVariants.{Current, Rgb}
use Rattle.cv_color.specs.Text.{separated, channel_text, channels_text, alpha_text, is_opaque, color_text}
use Rattle.cv_value_laws.specs.Entries.{preserved, block as whole_block, IsEntry}
use Rattle.cv_value_laws.proofs.Pieces.{HoldsOfPieces, quotient_holds, arguments_hold, text_holds, all_hold, calc_text_holds}

-- a block in front of which the list stands is longer by it
abbrev pub Fills : List Token → Type 0
Fills ts = (bracket : Bracket) (rest : List Token) → IsBlock bracket rest → IsBlock bracket (ts ++ rest)

pub one_fills : (t : Token) → opened t ≡ None → ((b : Bracket) → t ≢ tokens.Close b) → Fills (t ∷ [])
one_fills t none other bracket rest is = plain bracket t rest none (other bracket) is

pub joined_fills : (xs ys : List Token) → Fills xs → Fills ys → Fills (xs ++ ys)
joined_fills xs ys h k bracket rest is = subst (IsBlock bracket) (sym (append_assoc xs ys rest)) (h bracket (ys ++ rest) (k bracket rest is))

numeric_fills : (spelling : List ℕ) (u : Unit) → Fills (numeric spelling u ∷ [])
numeric_fills spelling units.Number = one_fills (tokens.Number spelling) refl (λ b e. cc)
numeric_fills spelling units.Percent = one_fills (tokens.Percentage spelling) refl (λ b e. cc)
numeric_fills spelling u = one_fills (numeric spelling u) refl (λ b e. cc)

pub fills : HoldsOfPieces Fills
fills = record {
  nothing = λ bracket rest is. is;
  joined = joined_fills;
  white = one_fills tokens.White refl (λ b e. cc);
  comma = one_fills tokens.Comma refl (λ b e. cc);
  sign = λ c. one_fills (tokens.Delim c) refl (λ b e. cc);
  number = numeric_fills;
  brackets = λ inner h bracket rest is. block bracket Round (tokens.Open Round) (inner ++ closing) rest refl (h Round closing (ends Round)) is;
  function = λ name inner h bracket rest is. block bracket Round (tokens.Function name) (inner ++ closing) rest refl (h Round closing (ends Round)) is;
}

-- ---- entries

pub call_entry : (name : List ℕ) (inner : List Token) → Fills inner → IsEntry (call name inner)
call_entry name inner h = record {
  value = whole_block Round (tokens.Function name) (inner ++ closing) refl (h Round closing (ends Round));
  not_white = refl;
  not_comma = refl;
}

numeric_entry : (spelling : List ℕ) (u : Unit) → IsEntry (numeric spelling u ∷ [])
numeric_entry spelling units.Number = record { value = preserved (tokens.Number spelling) refl; not_white = refl; not_comma = refl }
numeric_entry spelling units.Percent = record { value = preserved (tokens.Percentage spelling) refl; not_white = refl; not_comma = refl }
numeric_entry spelling u = record { value = preserved (numeric spelling u) refl; not_white = refl; not_comma = refl }

pub number_entry : (v : Ratio) (u : Unit) → IsEntry (number_alone v u)
number_entry v u = go (has_decimal v)
  where
    go : (b : Bool) → IsEntry (if b then decimal_tokens v u else call (codes "calc") (quotient_tokens v u))
    go true = numeric_entry (frac_text v) u
    go false = call_entry (codes "calc") (quotient_tokens v u) (quotient_holds Fills fills v u)

-- ---- calculations

abbrev whole : Calc → List Token
whole c = (written c).at_place Whole

called : (name : List ℕ) (cs : List Calc) (c : Calc) → whole c ≡ call name (arguments_of (map written cs)) → IsEntry (whole c)
called name cs c e = subst IsEntry (sym e) (call_entry name (arguments_of (map written cs)) (arguments_hold Fills fills (map written cs) (all_hold Fills fills cs)))

text_entry_as : (c : Calc) (l : Calc-F Calc) → roll-Calc l ≡ c → IsEntry (calc_text_as c l)
text_entry_as c (Num v u) e = number_entry v u
text_entry_as c (Min cs) e = called (codes "min") cs c (ap whole (sym e ∙ rolls-Min cs) ∙ ap (λ (w : Written). w.at_place Whole) (written-Min cs))
text_entry_as c (Max cs) e = called (codes "max") cs c (ap whole (sym e ∙ rolls-Max cs) ∙ ap (λ (w : Written). w.at_place Whole) (written-Max cs))
text_entry_as c (Clamp l m h) e = called (codes "clamp") (l ∷ m ∷ h ∷ []) c (ap whole (sym e ∙ rolls-Clamp l m h) ∙ ap (λ (w : Written). w.at_place Whole) (written-Clamp l m h))
text_entry_as c _ e = call_entry (codes "calc") (whole c) (text_holds Fills fills c Whole)

pub text_entry : (c : Calc) → IsEntry (calc_text c)
unfolding calc_text
text_entry c = text_entry_as c (out-Calc c) (roll-out-Calc c)

-- ---- colours

channel_fills : (n : ℕ) → Fills (channel_text n)
channel_fills n = one_fills (tokens.Number (decimal n)) refl (λ b e. cc)

separated_fills : (ts : List Token) → Fills ts → Fills (separated ts)
separated_fills ts h = joined_fills (tokens.Comma ∷ tokens.White ∷ []) ts (joined_fills (tokens.Comma ∷ []) (tokens.White ∷ []) fills.comma fills.white) h

channels_fill : (r g b : ℕ) → Fills (channels_text r g b)
channels_fill r g b =
    joined_fills (channel_text r ++ separated (channel_text g)) (separated (channel_text b)) (
    joined_fills (channel_text r) (separated (channel_text g)) (channel_fills r) (separated_fills (channel_text g) (channel_fills g))
    ) (separated_fills (channel_text b) (channel_fills b))

alpha_fills : (a : Ratio) → Fills (alpha_text a)
alpha_fills a = calc_text_holds Fills fills (tree.Num a units.Number)

pub color_entry : (c : Color) → IsEntry (color_text c)
color_entry Current = record { value = preserved (tokens.Ident (codes "currentcolor")) refl; not_white = refl; not_comma = refl }
color_entry (Rgb r g b a) = go (is_opaque a)
  where
    go : (o : Bool) →
        IsEntry (if o then tokens.Function (codes "rgb") ∷ channels_text r g b ++ closing else tokens.Function (codes "rgba") ∷ channels_text r g b ++ separated (alpha_text a) ++ closing)
    go true = call_entry (codes "rgb") (channels_text r g b) (channels_fill r g b)
    go false =
        call_entry (codes "rgba") (channels_text r g b ++ separated (alpha_text a))
        (joined_fills (channels_text r g b) (separated (alpha_text a)) (channels_fill r g b) (separated_fills (alpha_text a) (alpha_fills a)))
