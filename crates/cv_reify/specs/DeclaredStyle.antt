-- What is made of a declaration (CSS Typed OM 1, "Reification"): of a custom property or of a list with a reference its texts and references,
-- else a keyword, a number of its unit as it is written, a math function as it is read, or the tokens of a colour. The table is this
-- project's own.
use Rattle.std.specs.Prelude.{ℕ, Bool, true, false, ◌&&◌, ◌||◌, not, List, [], ◌∷◌, map, codes, Option, Some, None, Result, Ok, Err, if◌then◌else◌}
use Rattle.std.specs.Char.{to_ascii_lowercase}
use Rattle.std.specs.List.{list_any}
use Rattle.cv_spec_text.specs.Keywords.{is_word, is_css_wide_keyword}
use Rattle.cv_spec_text.specs.declared.token.Token.{Token}
use Rattle.cv_spec_text.specs.declared.token.Token.TheVariants.{Ident, Number, Percentage, Dimension}
use Rattle.cv_component.specs.Parts.{trim}
use Rattle.cv_var.specs.References.{has_var, pieces_of}
use Rattle.cv_var.specs.Segments.{segments_of}
use Rattle.cv_calc.specs.declared.unit.Unit as units
use Rattle.cv_calc.specs.declared.unit.Unit.TheVariants.{Percent, Px, Number as NumberUnit}
use Rattle.cv_calc.specs.declared.calc.Calc.{Calc}
use Rattle.cv_calc.specs.Names.{unit_with_name}
use Rattle.cv_calcread.specs.declared.error.CalcErr.{CalcErr}
use Rattle.cv_calcread.specs.declared.error.CalcErr.TheVariants.{Range as WideRange}
use Rattle.cv_calcread.specs.Answer.{answer}
use Rattle.cv_calcread.specs.Literals.{exact_number, is_in_range}
use Rattle.cv_property.specs.declared.property.Property.{Property}
use Rattle.cv_property.specs.declared.grammar.Alternative.{Alternative}
use Rattle.cv_property.specs.declared.grammar.Alternative.TheVariants as grammar
use Rattle.cv_property.specs.Table.{row}
use Rattle.cv_valuation.specs.declared.key.Key.{Key}
use Rattle.cv_valuation.specs.declared.key.Key.TheVariants.{Custom, Table}
use Rattle.cv_props.specs.declared.decls.Decl.{Decl}
use Rattle.cv_reify.specs.declared.error.ReifyErr.{ReifyErr}
use Rattle.cv_reify.specs.declared.error.ReifyErr.TheVariants.{Range}
use Rattle.cv_reify.specs.declared.style.Style.{Style}
use Rattle.cv_reify.specs.declared.style.Style.TheVariants as style
use Rattle.cv_reify.specs.Calculations.{with_items}
use Rattle.cv_reify.specs.Arguments.{is_wide_color}

-- ---- what the grammar of a property takes

abbrev pub is_color : Alternative → Bool
is_color grammar.Color = true
is_color _ = false

abbrev pub takes_color : Property → Bool
takes_color p = list_any is_color (row p).grammar

abbrev pub is_number : Alternative → Bool
is_number (grammar.Number range) = true
is_number grammar.Integer = true
is_number grammar.PositiveInteger = true
is_number _ = false

abbrev pub takes_number : Property → Bool
takes_number p = list_any is_number (row p).grammar

-- the unit of a bare number: where the property takes no numbers, it is a length, 0
abbrev pub bare_unit : Property → units.Unit
bare_unit p = if takes_number p then NumberUnit else Px

-- ---- numbers and math functions ("Reifying Math Expressions")

abbrev pub measured : List ℕ → units.Unit → Result Style ReifyErr
measured spelling u = if is_in_range spelling then Ok (style.Unit (exact_number spelling) u) else Err Range

-- a number of a unit, which has to be known
abbrev pub measured_of : Token → List ℕ → Option units.Unit → Result Style ReifyErr
measured_of t spelling None = Ok (style.Opaque (t ∷ []))
measured_of t spelling (Some u) = measured spelling u

abbrev pub function_style : List Token → Result Calc CalcErr → Result Style ReifyErr
function_style ts (Ok c) = Ok (style.Math (with_items c))
function_style ts (Err (WideRange place kind linear)) = Err Range
function_style ts (Err e) = Ok (style.Opaque ts)

abbrev pub single_style : units.Unit → Token → Result Style ReifyErr
single_style bare (Number n) = measured n bare
single_style bare (Percentage n) = measured n Percent
single_style bare (Dimension n name) = measured_of (Dimension n name) n (unit_with_name name)
single_style bare t = function_style (t ∷ []) (answer (t ∷ []))

-- one numeric token or one math function
unfoldable pub numeric_style : units.Unit → List Token → Result Style ReifyErr
numeric_style bare (t ∷ []) = single_style bare t
numeric_style bare ts = function_style ts (answer ts)

-- ---- colours

-- a colour keeps its tokens
abbrev pub color_style : List Token → Result Style ReifyErr
color_style ts = if is_wide_color ts then Err Range else Ok (style.Opaque ts)

-- ---- keywords ("Reifying Identifiers")

abbrev pub keyword : List ℕ → Style
keyword name = style.Keyword (map to_ascii_lowercase name)

abbrev pub is_color_name : Property → List ℕ → Bool
is_color_name p name = takes_color p && not (is_word (codes "currentcolor") name)

-- an ident is a keyword, but the name of a colour is a colour
abbrev pub ident_style : Property → List ℕ → Style
ident_style p name = if is_color_name p name then style.Opaque (Ident name ∷ []) else keyword name

-- ---- declarations

abbrev pub read_style : Property → List Token → Result Style ReifyErr
read_style p ts = if takes_color p then color_style ts else numeric_style (bare_unit p) ts

abbrev pub token_style : Property → Token → Result Style ReifyErr
token_style p (Ident name) = Ok (ident_style p name)
token_style p t = read_style p (t ∷ [])

-- a value of an ordinary property
unfoldable pub ordinary_style : Property → List Token → Result Style ReifyErr
ordinary_style p (t ∷ []) = token_style p t
ordinary_style p ts = read_style p ts

abbrev pub unparsed : List Token → Style
unparsed ts = style.Unparsed (segments_of (pieces_of ts))

-- what is no CSS-wide keyword
abbrev pub value_style : Key → List Token → Result Style ReifyErr
value_style (Custom name) ts = Ok (unparsed ts)
value_style (Table p) ts = if has_var ts then Ok (unparsed ts) else ordinary_style p ts

-- the CSS-wide keyword that a list is
abbrev pub keyword_in : List Token → Option (List ℕ)
keyword_in (Ident name ∷ []) = if is_css_wide_keyword name then Some name else None
keyword_in _ = None

abbrev pub keyword_or : Key → List Token → Option (List ℕ) → Result Style ReifyErr
keyword_or key ts None = value_style key ts
keyword_or key ts (Some name) = Ok (keyword name)

-- the object of a declaration of the key
unfoldable pub declared_style : Key → Decl → Result Style ReifyErr
declared_style key d = keyword_or key d.value (keyword_in (trim d.value))
