-- Calculations that fit are in canonical units.
use Rattle.std.specs.Prelude.{◌≡◌, ℕ, true, ◌&&◌, List, [], ◌∷◌, codes, Option, Some, None, Result, Ok, Err, bytes_eq}
use Rattle.std.proofs.Common.{sym, ◌∙◌, ap}
use Rattle.cv_spec_text.specs.Keywords.{is_word}
use Rattle.cv_spec_text.specs.declared.token.Token.{Token}
use Rattle.cv_spec_text.specs.declared.token.Token.TheVariants as token
use Rattle.cv_component.specs.TopLevel.{trim_front}
use Rattle.cv_calc.specs.declared.unit.Unit.{Unit as units}
use Rattle.cv_calc.specs.declared.unit.Unit.TheVariants.{Px, Percent, Number as NumberUnit}
use Rattle.cv_calc.specs.declared.context.Context.{Context}
use Rattle.cv_calc.specs.declared.context.Basis.TheVariants as basis
use Rattle.cv_calc.specs.declared.calc.Calc.{Calc}
use Rattle.cv_calc.specs.declared.calc.Calc.TheVariants as tree
use Rattle.cv_calc.specs.declared.calc.Calc.TheOpen.{Calc-F}
use Rattle.cv_calc.specs.declared.calc.Calc.TheOpen as layer
use Rattle.cv_calc.specs.declared.calc.Calc.TheViews.{out-Calc, roll-Calc, roll-out-Calc}
use Rattle.cv_calc.specs.Names.{unit_with_name}
use Rattle.cv_calc.specs.Types.{unit_type}
use Rattle.cv_calcread.specs.declared.error.CalcErr.{CalcErr}
use Rattle.cv_calcread.specs.declared.error.CalcErr.TheVariants.{Range as WideRange}
use Rattle.cv_calcread.specs.Literals.{exact_number, is_in_range}
use Rattle.cv_calcread.specs.Answer.{answer}
use Rattle.cv_simplify.specs.Canonical.{holds_canonical}
use Rattle.cv_simplify.specs.Counted.{is_in_range as is_counted_in_range}
use Rattle.cv_simplify.specs.Simplified.{simp}
use Rattle.cv_simplify.proofs.Canonical.{canonical-roll, canonical-Num, simp_canonical}
use Rattle.cv_numeric.specs.declared.matched.Matched.TheVariants.{No, Out, Fit}
use Rattle.cv_numeric.specs.declared.quantity.Quantity.{Quantity}
use Rattle.cv_numeric.specs.declared.quantity.Quantity.TheVariants as quantity
use Rattle.cv_numeric.specs.declared.quantity.Range.{Range}
use Rattle.cv_numeric.specs.declared.quantity.Range.TheVariants.{All}
use Rattle.cv_numeric.specs.Quantities.{takes, clamped}
use Rattle.cv_numeric.specs.Calculations.{simplified, is_within, literal, plain, plain_of, clamped_as, clamped_calc, takes_calc, taken, read_as, alone, calculation}
use Rattle.cv_numeric.specs.Numeric as numeric
use Rattle.cv_syntax.specs.declared.syntax.Kind.{Kind}
use Rattle.cv_syntax.specs.declared.syntax.Kind.TheVariants as kinds
use Rattle.cv_value.specs.declared.typed.Item.TheVariants as item_of
use Rattle.cv_value.specs.Items.{mixed_as, mixed_item, is_end, url_inside, url, string, is_reserved, custom_ident, literal as literal_item, item}
use Rattle.cv_colorread.specs.Colors.{color}
use Rattle.cv_value.specs.Kept.{IsCanonical}
use Rattle.cv_value_laws.proofs.Fits.{IfFit, if_kept, if_mapped, if_made, if_either}

abbrev IsPure : Calc → Type 0
IsPure c = holds_canonical c ≡ true

-- ---- a calculation

simplified_pure : (x : Context) (c : Calc) → IfFit IsPure (simplified x c)
simplified_pure x c = if_either IsPure (is_counted_in_range x c) (Fit (simp x c)) Out (simp_canonical x c) tt

rolled : (c : Calc) (l : Calc-F Calc) → roll-Calc l ≡ c → IsPure c → IsPure (roll-Calc l)
rolled c l e h = ap holds_canonical e ∙ h

clamped_pure : (r : Range) (c : Calc) (l : Calc-F Calc) → roll-Calc l ≡ c → IsPure c → IsPure (clamped_as r c l)
clamped_pure r c (layer.Num v u) e h = canonical-Num (clamped r v) u ∙ sym (canonical-roll (layer.Num v u)) ∙ rolled c (layer.Num v u) e h
clamped_pure r c l e h = h

module _ (q : Quantity) (r : Range) (x : Context) where
  plain_pure : (n : List ℕ) (u : units) → IfFit IsPure (plain q r x n u)
  plain_pure n u =
      if_either IsPure (takes q (unit_type u) && is_within r n) (literal x n u) No
      (if_either IsPure (is_in_range n) (simplified x (tree.Num (exact_number n) u)) Out (simplified_pure x (tree.Num (exact_number n) u)) tt) tt

  plain_of_pure : (n : List ℕ) (o : Option units) → IfFit IsPure (plain_of q r x n o)
  plain_of_pure n None = tt
  plain_of_pure n (Some u) = plain_pure n u

  taken_pure : (c : Calc) → IfFit IsPure (taken q r x c)
  taken_pure c =
      if_either IsPure (takes_calc q c) _ No
      (if_mapped IsPure IsPure (clamped_calc r) (λ d h. clamped_pure r d (out-Calc d) (roll-out-Calc d) h) (simplified x c) (simplified_pure x c)) tt

  read_pure : (a : Result Calc CalcErr) → IfFit IsPure (read_as q r x a)
  read_pure (Ok c) = taken_pure c
  read_pure (Err (WideRange place t linear)) = if_either IsPure (takes q t && linear) Out No tt tt
  read_pure (Err e) = tt

  alone_pure : (t : Token) → IfFit IsPure (alone q r x t)
  alone_pure (token.Number n) = plain_pure n NumberUnit
  alone_pure (token.Percentage n) = plain_pure n Percent
  alone_pure (token.Dimension n name) = plain_of_pure n (unit_with_name name)
  alone_pure t = read_pure (answer (t ∷ []))

  calculation_pure : (ts : List Token) → IfFit IsPure (calculation q r x ts)
  unfolding calculation
  calculation_pure [] = read_pure (answer [])
  calculation_pure (t ∷ []) = alone_pure t
  calculation_pure (t ∷ s ∷ ts) = read_pure (answer (t ∷ s ∷ ts))

mixed_length_pure : (r : Range) (x : Context) (ts : List Token) → IfFit IsPure (numeric.length_percentage_in r x ts)
mixed_length_pure r x (token.Number n ∷ []) = if_made IsPure (λ v. tree.Num v Px) (λ v. canonical-Num v Px) (numeric.zero_length n)
mixed_length_pure r x ts = calculation_pure quantity.LengthPercentage r x ts

-- ---- items

mixed_canonical : (c : Calc) (l : Calc-F Calc) → roll-Calc l ≡ c → IsPure c → IsCanonical (mixed_as c l)
mixed_canonical c (layer.Num v Px) e h = tt
mixed_canonical c (layer.Num v Percent) e h = tt
mixed_canonical c (layer.Num v u) e h = canonical-Num v u ∙ sym (canonical-roll (layer.Num v u)) ∙ rolled c (layer.Num v u) e h
mixed_canonical c l e h = h

inside_canonical : (ts : List Token) → IfFit IsCanonical (url_inside ts)
inside_canonical [] = tt
inside_canonical (token.Str text ∷ ts) = if_either IsCanonical (is_end (trim_front ts)) (Fit (item_of.Url text)) No tt tt
inside_canonical (t ∷ ts) = tt

url_canonical : (ts : List Token) → IfFit IsCanonical (url ts)
url_canonical [] = tt
url_canonical (token.Url text ∷ []) = tt
url_canonical (token.Function name ∷ ts) = if_either IsCanonical (is_word (codes "url") name) (url_inside (trim_front ts)) No (inside_canonical (trim_front ts)) tt
url_canonical (t ∷ ts) = tt

string_canonical : (ts : List Token) → IfFit IsCanonical (string ts)
string_canonical [] = tt
string_canonical (token.Str text ∷ []) = tt
string_canonical (t ∷ ts) = tt

ident_canonical : (ts : List Token) → IfFit IsCanonical (custom_ident ts)
ident_canonical [] = tt
ident_canonical (token.Ident name ∷ []) = if_either IsCanonical (is_reserved name) No (Fit (item_of.Ident name)) tt tt
ident_canonical (t ∷ ts) = tt

literal_canonical : (word : List ℕ) (ts : List Token) → IfFit IsCanonical (literal_item word ts)
literal_canonical word [] = tt
literal_canonical word (token.Ident name ∷ []) = if_either IsCanonical (bytes_eq name word) (Fit (item_of.Ident name)) No tt tt
literal_canonical word (t ∷ ts) = tt

pub size_canonical : (r : Range) (x : Context) (ts : List Token) → IfFit (λ c. IsCanonical (mixed_item c)) (numeric.length_percentage_in r x ts)
size_canonical r x ts = if_kept IsPure (λ c. IsCanonical (mixed_item c)) (λ c h. mixed_canonical c (out-Calc c) (roll-out-Calc c) h) (numeric.length_percentage_in r x ts) (mixed_length_pure r x ts)

pub item_canonical : (k : Kind) (x : Context) (ts : List Token) → IfFit IsCanonical (item k x ts)
item_canonical kinds.Length x ts = if_made IsCanonical item_of.Length (λ v. tt) (numeric.length x ts)
item_canonical kinds.Number x ts = if_made IsCanonical item_of.Number (λ v. tt) (numeric.number All x ts)
item_canonical kinds.Percentage x ts = if_made IsCanonical item_of.Percentage (λ v. tt) (numeric.percentage x ts)
item_canonical kinds.LengthPercentage x ts =
    if_mapped IsPure IsCanonical mixed_item (λ c h. mixed_canonical c (out-Calc c) (roll-out-Calc c) h) (numeric.length_percentage All x ts)
    (mixed_length_pure All (numeric.with_basis basis.Length x) ts)
item_canonical kinds.Color x ts = if_made IsCanonical item_of.Color (λ v. tt) (color x ts)
item_canonical kinds.Url x ts = url_canonical ts
item_canonical kinds.Integer x ts = if_made IsCanonical item_of.Integer (λ v. tt) (numeric.integer x ts)
item_canonical kinds.Angle x ts = if_made IsCanonical item_of.Angle (λ v. tt) (numeric.angle x ts)
item_canonical kinds.Time x ts = if_made IsCanonical item_of.Time (λ v. tt) (numeric.time x ts)
item_canonical kinds.Resolution x ts = if_made IsCanonical item_of.Resolution (λ v. tt) (numeric.resolution x ts)
item_canonical kinds.Str x ts = string_canonical ts
item_canonical kinds.CustomIdent x ts = ident_canonical ts
item_canonical (kinds.Literal word) x ts = literal_canonical word ts
