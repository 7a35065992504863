-- The text of a typed value reads back as an equal value (CSSOM, "Serializing CSS Values", whose texts have to parse to equal values;
-- that calculations are equal by what they mean is this project's own).
use Rattle.std.specs.Prelude.{◌≡◌, List}
use Rattle.cv_spec_text.specs.declared.token.Token.{Token}
use Rattle.cv_calc.specs.declared.context.Context.{Context}
use Rattle.cv_calc.specs.declared.calc.Calc.{Calc}
use Rattle.cv_calc.specs.Types.{type_of}
use Rattle.cv_calc.specs.Value.{Meaning, value}
use Rattle.cv_numeric.specs.declared.matched.Matched.TheVariants.{Fit}
use Rattle.cv_numeric.specs.declared.quantity.Range.{Range}
use Rattle.cv_numeric.specs.Matched.{mapped}
use Rattle.cv_numeric.specs.Numeric.{length_percentage}
use Rattle.cv_syntax.specs.declared.syntax.Kind.{Kind}
use Rattle.cv_value.specs.declared.typed.Item.{Item}
use Rattle.cv_value.specs.declared.typed.Item.TheVariants.{Mixed}
use Rattle.cv_value.specs.Items.{mixed_item, item}
use Rattle.cv_value.specs.Text.{item_text}
use Rattle.cv_value_roundtrip.specs.Numbers.{IsNatural}

-- the calculations have one type, and mean the same whatever a percentage is a part of
pub record SameCalc (c d : Calc) : Type 0 where
  pub types : type_of d ≡ type_of c
  pub values : (m : Meaning) → value m d ≡ value m c

-- calculations are equal by what they mean, all other items as they stand
pub data SameItem (i j : Item) : Type 0 where
  itself : i ≡ j → SameItem i j
  calculation : (c d : Calc) → i ≡ Mixed c → j ≡ Mixed d → SameCalc c d → SameItem i j

-- the text of the item is an equal item of the kind
pub record ReadsBack (k : Kind) (y : Context) (i : Item) : Type 0 where
  pub back : Item
  pub read : item k y (item_text i) ≡ Fit back
  pub same : SameItem i back

pub record ItemsReadBack : Type 0 where
  pub reads : (k : Kind) (x y : Context) (ts : List Token) (i : Item) → item k x ts ≡ Fit i → ReadsBack k y i

-- ---- lengths and percentages within a range

-- the text of the item is an equal length or percentage of the range
pub record SizeReadsBack (r : Range) (y : Context) (i : Item) : Type 0 where
  pub back : Item
  pub read : mapped mixed_item (length_percentage r y (item_text i)) ≡ Fit back
  pub same : SameItem i back

-- where no font that they are read with has a negative size
abbrev pub SizesReadBack : Type 0
SizesReadBack = (r : Range) (x y : Context) → IsNatural x.em → IsNatural x.rem → (ts : List Token) (i : Item) → mapped mixed_item (length_percentage r x ts) ≡ Fit i → SizeReadsBack r y i
