-- How objects are written. The form is this project's own: names in front of brackets, a comma and a space between what stands in them.
use Rattle.std.specs.Prelude.{ℕ, Bool, true, false, List, [], ◌∷◌, ◌++◌, map, codes, Option, Some, None}
use Rattle.cv_spec_ratio.specs.Ratio.{Ratio}
use Rattle.cv_frac.specs.Text.{frac_text}
use Rattle.cv_spec_text.specs.Printing.{written, bytes}
use Rattle.cv_spec_text.specs.declared.token.Token.{Token}
use Rattle.cv_spec_text.specs.declared.token.Token.TheVariants.{Ident, Str}
use Rattle.cv_calc.specs.declared.unit.Unit as units
use Rattle.cv_calc.specs.Names.{unit_text}
use Rattle.cv_calc.specs.declared.calc.Calc.{Calc}
use Rattle.cv_calc.specs.declared.calc.Calc.TheOpen.{Calc-F, Num, Sum, Product, Negate, Invert, Min, Max, Clamp}
use Rattle.cv_calc.specs.declared.calc.Calc.TheFolds.{fold-Calc}
use Rattle.cv_var.specs.declared.segment.Segment.{Segment}
use Rattle.cv_var.specs.declared.segment.Segment.TheOpen.{Segment-F, Text, Ref}
use Rattle.cv_var.specs.declared.segment.Segment.TheFolds.{fold-Segment}
use Rattle.cv_reify.specs.declared.style.Style.{Style}
use Rattle.cv_reify.specs.declared.style.Style.TheOpen as layer
use Rattle.cv_reify.specs.declared.style.Style.TheFolds.{fold-Style}

-- ---- texts between brackets

-- the texts, the first behind this separator and each other behind a comma and a space
abbrev pub separated : List ℕ → List (List ℕ) → List ℕ
separated separator [] = []
separated separator (t ∷ ts) = separator ++ t ++ separated (codes ", ") ts

-- the texts with a comma and a space between them
abbrev pub joined : List (List ℕ) → List ℕ
joined ts = separated [] ts

-- a name and what stands in its brackets
abbrev pub call : List ℕ → List ℕ → List ℕ
call name inner = name ++ codes "(" ++ inner ++ codes ")"

-- the text of some tokens as a string (CSSOM, "Serialize a string")
abbrev pub string_text : List Token → List ℕ
string_text ts = bytes (Str (written ts) ∷ [])

-- a name as an identifier (CSSOM, "Serialize an identifier")
abbrev pub name_text : List ℕ → List ℕ
name_text name = bytes (Ident name ∷ [])

-- ---- lists that aren't read

abbrev pub unparsed : List (List ℕ) → List ℕ
unparsed texts = codes "unparsed[" ++ joined texts ++ codes "]"

-- what stands behind the name of a reference
abbrev pub fallback_text : Option (List (List ℕ)) → List ℕ
fallback_text None = []
fallback_text (Some texts) = codes ", " ++ unparsed texts

abbrev pub segment_step : Segment-F (List ℕ) → List ℕ
segment_step (Text ts) = string_text ts
segment_step (Ref name fallback) = call (codes "var") (name_text name ++ fallback_text fallback)

unfoldable pub segment_text : Segment → List ℕ
segment_text = fold-Segment (List ℕ) segment_step

-- ---- numbers and math functions

abbrev pub unit_call : Ratio → units.Unit → List ℕ
unit_call v u = call (codes "unit") (frac_text v ++ codes ", " ++ unit_text u)

abbrev pub tree_step : Calc-F (List ℕ) → List ℕ
tree_step (Num v u) = unit_call v u
tree_step (Sum ts) = call (codes "sum") (joined ts)
tree_step (Product ts) = call (codes "product") (joined ts)
tree_step (Negate t) = call (codes "negate") t
tree_step (Invert t) = call (codes "invert") t
tree_step (Min ts) = call (codes "min") (joined ts)
tree_step (Max ts) = call (codes "max") (joined ts)
tree_step (Clamp low middle high) = call (codes "clamp") (joined (low ∷ middle ∷ high ∷ []))

unfoldable pub tree_text : Calc → List ℕ
tree_text = fold-Calc (List ℕ) tree_step

-- ---- objects

abbrev pub style_step : layer.Style-F (List ℕ) → List ℕ
style_step (layer.Unparsed segments) = unparsed (map segment_text segments)
style_step (layer.Keyword name) = call (codes "keyword") (name_text name)
style_step (layer.Unit v u) = unit_call v u
style_step (layer.Math c) = tree_text c
style_step (layer.Opaque ts) = call (codes "opaque") (string_text ts)
style_step (layer.List texts) = codes "list[" ++ joined texts ++ codes "]"

-- the text of an object, as UTF-8
unfoldable pub style_text : Style → List ℕ
style_text = fold-Style (List ℕ) style_step

-- the text of an object, or `none` for that of the guaranteed-invalid value
abbrev pub style_text_or_none : Option Style → List ℕ
style_text_or_none None = codes "none"
style_text_or_none (Some s) = style_text s
