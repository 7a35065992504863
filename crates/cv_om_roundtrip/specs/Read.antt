-- The text of a numeric value is read back (CSSOM, "Serializing CSS Values", whose texts have to parse to equal values; the texts are those
-- of CSS Typed OM 1, "Serializing a CSSUnitValue" and "Serializing a CSSMathValue"). Divisors that are made of numbers alone are judged as
-- they are read: that one is out of range is this project's own, and that one is 0 makes a calculation invalid (CSS Values and Units 3,
-- "Mathematical Expressions").
use Rattle.std.specs.Prelude.{◌≡◌, true, List, Result, Ok, Err, if◌then◌else◌}
use Rattle.std.specs.List.{list_any}
use Rattle.cv_spec_text.specs.Printing.{bytes}
use Rattle.cv_calc.specs.declared.calc.Calc.{Calc}
use Rattle.cv_calc.specs.Types.{type_of}
use Rattle.cv_calc.specs.Linear.{has_type}
use Rattle.cv_calc.specs.Value.{Meaning, value}
use Rattle.cv_calcread.specs.declared.figure.Mark.{Mark}
use Rattle.cv_calcread.specs.declared.figure.Mark.TheVariants.{Fine, Far, Null}
use Rattle.cv_calcread.specs.Answer.{is_marked}
use Rattle.cv_calcread.specs.Figures.{evaluated}
use Rattle.cv_simplify.specs.Counted.{inside}
use Rattle.cv_om.specs.declared.error.OmErr.{OmErr}
use Rattle.cv_om.specs.declared.error.OmErr.TheVariants.{Syntax, Range}
use Rattle.cv_om.specs.Parsed.{parsed}
use Rattle.cv_om.specs.Text.{numeric_text}

-- one divisor is out of range, or else one is 0, or else all are fine
abbrev pub worst : List Mark → Mark
worst ms = if list_any (is_marked Far) ms then Far else if list_any (is_marked Null) ms then Null else Fine

abbrev pub divisors : Calc → Mark
divisors c = worst (evaluated c).marks

-- the trees have one type, and one value whatever units mean, or none
pub record IsEqual (c d : Calc) : Type 0 where
  pub typed : type_of d ≡ type_of c
  pub valued : (m : Meaning) → value m d ≡ value m c

-- what is read of the text
abbrev pub IsReadAs : Mark → Calc → Result Calc OmErr → Type 0
IsReadAs Fine c r = (d : Calc) × ((r ≡ Ok d) × IsEqual c d)
IsReadAs Far c r = r ≡ Err Range
IsReadAs Null c r = r ≡ Err Syntax

-- of a tree that has a type and whose numbers are in bounds, as those of a numeric value are
abbrev pub PrintedValuesAreRead : Type 0
PrintedValuesAreRead = (c : Calc) → has_type (type_of c) ≡ true → inside c ≡ true → IsReadAs (divisors c) c (parsed (bytes (numeric_text c)))
