-- The summary of elements, by their values: how many they are, and the sums of their widths and of their left paddings. Its form is
-- this project's own.
use Rattle.std.specs.Prelude.{ℕ, ◌≡◌, ◌⊎◌, ◌<◌, ◌≤◌, ◌+◌, ◌^◌, true, false, List, [], ◌∷◌, ◌++◌, codes, decimal, length, map, pos, take, unsigned_abs, All}
use Rattle.std.specs.List.{fold}
use Rattle.cv_spec_text.specs.Characters.{line_feed, space}
use Rattle.cv_spec_text.specs.Printing.{bytes}
use Rattle.cv_spec_ratio.specs.Ratio.{Ratio, add, ratio}
use Rattle.cv_frac.specs.Bounded.{in_bounds}
use Rattle.cv_value.specs.declared.typed.Item.TheVariants.{Length}
use Rattle.cv_value.specs.declared.typed.Typed.TheVariants.{One}
use Rattle.cv_value.specs.Text.{typed_text}
use Rattle.cv_property.specs.declared.property.Property.{Property}
use Rattle.cv_property.specs.declared.property.Property.TheVariants.{PaddingLeft, Width}
use Rattle.cv_valuation.specs.declared.computed.Computed.{Computed}
use Rattle.cv_valuation.specs.declared.key.Key.TheVariants.{Table}
use Rattle.cv_valuation.specs.declared.outcome.Outcome.{Outcome}
use Rattle.cv_valuation.specs.declared.outcome.Outcome.TheVariants.{Value}
use Rattle.cv_valuation.specs.Valuations.{Values, outcome_at}
use Rattle.cv_gen.specs.declared.totals.SummaryErr.{SummaryErr}
use Rattle.cv_gen.specs.declared.totals.SummaryErr.TheVariants.{Range, Memory}

abbrev pub values_of : List Computed → List Values
values_of all = map (λ computed. computed.values) all

-- ---- sums

abbrev pub no_px : Ratio
no_px = ratio (pos 0) 1

-- a length, and 0px for a value that is none
abbrev pub length_of : Outcome → Ratio
length_of (Value (One (Length px))) = px
length_of outcome = no_px

abbrev pub length_at : Property → Values → Ratio
length_at property values = length_of (outcome_at values (Table property))

abbrev pub with_length : Property → Ratio → Values → Ratio
with_length property sum values = add sum (length_at property values)

-- the sum of a property's lengths over the elements
unfoldable pub sum_of : Property → List Values → Ratio
sum_of property all = fold (with_length property) no_px all

-- each sum over up to so many of the first elements is in bounds
abbrev pub AreWithin : Property → List Values → ℕ → Type 0
AreWithin property all most = (n : ℕ) → n ≤ most → in_bounds (sum_of property (take n all)) ≡ true

-- each sum over the first elements is in bounds, the whole sum with them
abbrev pub IsWithin : Property → List Values → Type 0
IsWithin property all = AreWithin property all (length all)

-- the sum up to this element, the first such, is out of bounds
pub record IsOutside (property : Property) (all : List Values) (element : ℕ) : Type 0 where
  pub there : element < length all
  pub before : AreWithin property all element
  pub outside : in_bounds (sum_of property (take (element + 1) all)) ≡ false

-- a summary tells the sum of this property
abbrev pub IsSummed : Property → Type 0
IsSummed property = (property ≡ Width) ⊎ (property ≡ PaddingLeft)

-- an error that is a refusal: a sum of the summary is out of bounds; want of memory is free
abbrev pub IsRefusal : List Values → SummaryErr → Type 0
IsRefusal all (Range element property) = IsSummed property × IsOutside property all element
IsRefusal all Memory = Unit {0}

-- whole px, no more than 2 ^ 40 of them
abbrev pub IsSmall : Ratio → Type 0
IsSmall px = (px.bottom ≡ 1) × (unsigned_abs px.top ≤ 2 ^ 40)

-- over no more elements than a document may have, the sums of such lengths are in bounds
abbrev pub SmallSumsAreWithin : Type 0
SmallSumsAreWithin = (property : Property) (all : List Values) → length all ≤ 16384 → All (λ values. IsSmall (length_at property values)) all → IsWithin property all

-- ---- text

-- a length as a computed value is written
abbrev pub length_text : Ratio → List ℕ
length_text px = bytes (typed_text (One (Length px)))

unfoldable pub line : List ℕ → List ℕ → List ℕ
line word text = word ++ space ∷ text ++ line_feed ∷ []

unfoldable pub text_with : ℕ → Ratio → Ratio → List ℕ
text_with count widths padding =
    line (codes "elements") (decimal count) ++ line (codes "widths") (length_text widths) ++ line (codes "padding") (length_text padding)

unfoldable pub summary_text : List Values → List ℕ
summary_text all = text_with (length all) (sum_of Width all) (sum_of PaddingLeft all)
