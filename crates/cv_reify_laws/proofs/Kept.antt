-- A declaration that may be kept and has no object is out of range as a value.
use Rattle.std.specs.Prelude.{ℕ, Bool, true, false, not, ◌||◌, List, [], ◌∷◌, map, Option, Some, None, Result, Ok, Err, if◌then◌else◌, nat_lt}
use Rattle.std.specs.List.{list_any}
use Rattle.std.proofs.Common.{◌≡◌, refl, sym, ◌∙◌, ap, subst}
use Rattle.cv_spec_text.specs.Keywords.{is_css_wide_keyword}
use Rattle.cv_spec_text.specs.declared.token.Token.{Token}
use Rattle.cv_spec_text.specs.declared.token.Token.TheVariants as token
use Rattle.cv_component.specs.Nesting.{depth}
use Rattle.cv_component.specs.Parts.{trim}
use Rattle.cv_var.specs.References.{has_var}
use Rattle.cv_calc.specs.declared.unit.Unit as units
use Rattle.cv_calc.specs.declared.unit.Unit.TheVariants as unit
use Rattle.cv_calc.specs.declared.context.Context.{Context}
use Rattle.cv_calc.specs.declared.calc.Calc.{Calc}
use Rattle.cv_calc.specs.Names.{unit_with_name}
use Rattle.cv_calcread.specs.declared.error.CalcErr.{CalcErr}
use Rattle.cv_calcread.specs.declared.error.CalcErr.TheVariants as refusal
use Rattle.cv_calcread.specs.Literals.{exact_number, is_in_range}
use Rattle.cv_calcread.specs.Answer.{answer, is_wide}
use Rattle.cv_numeric.specs.declared.matched.Matched.{Matched}
use Rattle.cv_numeric.specs.declared.matched.Matched.TheVariants.{No, Out, Fit}
use Rattle.cv_numeric.specs.Alike.{IsMismatchAlike}
use Rattle.cv_numeric.specs.Matched.{mapped, first_of}
use Rattle.cv_numeric.specs.Numeric.{with_basis}
use Rattle.cv_colorread.specs.Colors.{color}
use Rattle.cv_value.specs.declared.typed.Item.TheVariants as item_of
use Rattle.cv_value.specs.declared.typed.Typed.TheVariants.{One}
use Rattle.cv_value_laws.specs.Values.{is_keyword}
use Rattle.cv_property.specs.declared.property.Property.{Property}
use Rattle.cv_property.specs.declared.property.Property.TheVariants as of
use Rattle.cv_property.specs.declared.grammar.Alternative.{Alternative}
use Rattle.cv_property.specs.declared.grammar.Alternative.TheVariants.{Color}
use Rattle.cv_property.specs.Alike.{MatchesAreAlike}
use Rattle.cv_property.specs.Grammar.{alternative, basis_of, by_grammar, matching_property, is_match}
use Rattle.cv_property.specs.Table.{row}
use Rattle.cv_valuation.specs.declared.key.Key.TheVariants.{Custom, Table}
use Rattle.cv_props.specs.declared.decls.Decl.{Decl}
use Rattle.cv_props.specs.Declaring.{MayDeclare}
use Rattle.cv_props.specs.Kept.{may_be_value, fits}
use Rattle.cv_props.specs.Registration.{viewport}
use Rattle.cv_reify.specs.declared.error.ReifyErr.{ReifyErr}
use Rattle.cv_reify.specs.declared.error.ReifyErr.TheVariants.{Range}
use Rattle.cv_reify.specs.declared.style.Style.{Style}
use Rattle.cv_reify.specs.declared.style.Style.TheVariants as style
use Rattle.cv_reify.specs.Arguments.{is_wide_argument, is_wide_color, is_out_of_range}
use Rattle.cv_reify.specs.DeclaredStyle.{is_color, takes_color, bare_unit, measured, measured_of, function_style, single_style, numeric_style, color_style, ident_style, read_style, token_style, ordinary_style, unparsed, value_style, keyword, keyword_in, keyword_or, declared_style}
use Rattle.cv_reify_laws.specs.Ranges.{IsOut, RangesAreOut}
use Rattle.cv_reify_laws.proofs.NoFit.{NoFit, mapped_is, or_else_is, out_is}
use Rattle.cv_reify_laws.proofs.Numbers.{chosen, grammar_no_fit}
use Rattle.cv_reify_laws.proofs.Colors.{color_no_fit}

-- ---- what has no object holds a number out of range, or a divisor

or_first : (a b : Bool) → a ≡ true → (a || b) ≡ true
or_first true b h = refl
or_first false b h = cc

or_second : (a b : Bool) → b ≡ true → (a || b) ≡ true
or_second true b h = refl
or_second false b h = h

measured_wide : (b : Bool) (s : Style) (e f : ReifyErr) → ◌≡◌ {A = Result Style ReifyErr} (if b then Ok s else Err f) (Err e) → b ≡ false
measured_wide true s e f h = cc
measured_wide false s e f h = refl

abbrev Wide : List Token → Type 0
Wide ts = is_wide_argument ts ≡ true

literal_wide : (n : List ℕ) (t : Token) → is_in_range n ≡ false → is_wide t ≡ not (is_in_range n) → Wide (t ∷ [])
literal_wide n t out is = or_first (is_wide t || false) (is_out_of_range (answer (t ∷ []))) (or_first (is_wide t) false (is ∙ ap not out))

dimension_wide : (n name : List ℕ) (u : Option units.Unit) (e : ReifyErr) → measured_of (token.Dimension n name) n u ≡ Err e → Wide (token.Dimension n name ∷ [])
dimension_wide n name None e h = cc
dimension_wide n name (Some u) e h = literal_wide n (token.Dimension n name) (measured_wide (is_in_range n) (style.Unit (exact_number n) u) e Range h) refl

function_wide : (ts : List Token) (a : Result Calc CalcErr) (e : ReifyErr) → answer ts ≡ a → function_style ts a ≡ Err e → Wide ts
function_wide ts (Ok c) e is h = cc
function_wide ts (Err refusal.NoCalc) e is h = cc
function_wide ts (Err refusal.NoType) e is h = cc
function_wide ts (Err (refusal.Range place t linear)) e is h = or_second (list_any is_wide ts) (is_out_of_range (answer ts)) (ap is_out_of_range is)
function_wide ts (Err (refusal.DivZero n)) e is h = cc
function_wide ts (Err refusal.Memory) e is h = cc

single_wide : (bare : units.Unit) (t : Token) (e : ReifyErr) → single_style bare t ≡ Err e → Wide (t ∷ [])
single_wide bare (token.Number n) e h = literal_wide n (token.Number n) (measured_wide (is_in_range n) (style.Unit (exact_number n) bare) e Range h) refl
single_wide bare (token.Percentage n) e h = literal_wide n (token.Percentage n) (measured_wide (is_in_range n) (style.Unit (exact_number n) unit.Percent) e Range h) refl
single_wide bare (token.Dimension n name) e h = dimension_wide n name (unit_with_name name) e h
single_wide bare t e h = function_wide (t ∷ []) (answer (t ∷ [])) e refl h

numeric_wide : (bare : units.Unit) (ts : List Token) (e : ReifyErr) → numeric_style bare ts ≡ Err e → Wide ts
unfolding numeric_style
numeric_wide bare [] e h = function_wide [] (answer []) e refl h
numeric_wide bare (t ∷ []) e h = single_wide bare t e h
numeric_wide bare (t ∷ second ∷ rest) e h = function_wide (t ∷ second ∷ rest) (answer (t ∷ second ∷ rest)) e refl h

color_wide : (ts : List Token) (e : ReifyErr) → color_style ts ≡ Err e → is_wide_color ts ≡ true
color_wide ts e h = go (is_wide_color ts) h
  where
    go : (b : Bool) → ◌≡◌ {A = Result Style ReifyErr} (if b then Err Range else Ok (style.Opaque ts)) (Err e) → b ≡ true
    go true h = refl
    go false h = cc

-- ---- it is no match within range

-- the grammar of a property that takes colours
color_grammar : (p : Property) → takes_color p ≡ true → (row p).grammar ≡ Color ∷ []
color_grammar of.Color h = refl
color_grammar of.BackgroundColor h = refl
color_grammar p h = cc

module _ (same : IsMismatchAlike) (x : Context) (ts : List Token) where
  colors_no_fit : (alternatives : List Alternative) → alternatives ≡ Color ∷ [] → is_wide_color ts ≡ true → NoFit (first_of (map (alternative x ts) alternatives))
  colors_no_fit alternatives is wide =
      subst (λ a. NoFit (first_of (map (alternative x ts) a))) (sym is) (or_else_is (mapped item_of.Color (color x ts)) No (mapped_is item_of.Color (color x ts) (color_no_fit same x ts wide)) tt)

  read_no_fit : (p : Property) (e : ReifyErr) → read_style p ts ≡ Err e → NoFit (by_grammar (row p).grammar x ts)
  read_no_fit p e h = go (takes_color p) refl h
    where
      go : (b : Bool) → takes_color p ≡ b → (if b then color_style ts else numeric_style (bare_unit p) ts) ≡ Err e → NoFit (by_grammar (row p).grammar x ts)
      go true is h = colors_no_fit (row p).grammar (color_grammar p is) (color_wide ts e h)
      go false is h = grammar_no_fit x ts (row p).grammar is (numeric_wide (bare_unit p) ts e h)

token_no_fit : (same : IsMismatchAlike) (x : Context) (p : Property) (t : Token) (e : ReifyErr) → token_style p t ≡ Err e → NoFit (by_grammar (row p).grammar x (t ∷ []))
token_no_fit same x p (token.Ident name) e h = absurd cc
token_no_fit same x p t e h = read_no_fit same x (t ∷ []) p e h

ordinary_no_fit : (same : IsMismatchAlike) (x : Context) (p : Property) (ts : List Token) (e : ReifyErr) → ordinary_style p ts ≡ Err e → NoFit (by_grammar (row p).grammar x ts)
unfolding ordinary_style
ordinary_no_fit same x p [] e h = read_no_fit same x [] p e h
ordinary_no_fit same x p (t ∷ []) e h = token_no_fit same x p t e h
ordinary_no_fit same x p (t ∷ second ∷ rest) e h = read_no_fit same x (t ∷ second ∷ rest) p e h

matching_no_fit : (same : IsMismatchAlike) (x : Context) (p : Property) (ts : List Token) (e : ReifyErr) → ordinary_style p ts ≡ Err e → NoFit (matching_property p x ts)
unfolding matching_property
matching_no_fit same x p ts e h =
    chosen (nat_lt 128 (depth ts)) No (mapped One (by_grammar (row p).grammar (with_basis (basis_of (row p).percentages x) x) ts)) tt (mapped_is One (by_grammar (row p).grammar (with_basis (basis_of (row p).percentages x) x) ts) (ordinary_no_fit same (with_basis (basis_of (row p).percentages x) x) p ts e h))

-- ---- declarations

no_keyword_is : (ts : List Token) → keyword_in ts ≡ None → is_keyword ts ≡ false
no_keyword_is (token.Ident name ∷ []) h = go (is_css_wide_keyword name) h
  where
    go : (b : Bool) → (if b then Some name else None) ≡ None → b ≡ false
    go true h = cc
    go false h = refl
no_keyword_is ts h = refl

kept_fits : (a b c : Bool) → a ≡ false → b ≡ false → (a || b || c) ≡ true → c ≡ true
kept_fits true b c h k e = cc
kept_fits false true c h k e = cc
kept_fits false false c h k e = e

module _ (same : IsMismatchAlike) (alike : MatchesAreAlike) where
  value_is : (p : Property) (ts : List Token) (e : ReifyErr) → may_be_value (Table p) ts ≡ true → keyword_in (trim ts) ≡ None → (b : Bool) → has_var ts ≡ b → (if b then Ok (unparsed ts) else ordinary_style p ts) ≡ Err e → IsOut p ts
  value_is p ts e may none true is h = absurd cc
  value_is p ts e may none false is h = record {
    no_var = is;
    no_keyword = no_keyword_is (trim ts) none;
    out = λ x. out_is (matching_property p x ts) (matching_no_fit same x p ts e h) (alike p x (viewport 0 0) ts ∙ kept_fits (has_var ts) (is_keyword (trim ts)) (fits p ts) is (no_keyword_is (trim ts) none) may);
  }

  ordinary_is : (p : Property) (d : Decl) (e : ReifyErr) → MayDeclare (Table p) d → (k : Option (List ℕ)) → keyword_in (trim d.value) ≡ k → keyword_or (Table p) d.value k ≡ Err e → IsOut p d.value
  ordinary_is p d e may (Some name) is h = absurd cc
  ordinary_is p d e may None is h = value_is p d.value e may.1 is (has_var d.value) refl h

  custom_is : (name : List ℕ) (d : Decl) (e : ReifyErr) → (k : Option (List ℕ)) → keyword_or (Custom name) d.value k ≡ Err e → ⊥
  custom_is name d e (Some word) h = cc
  custom_is name d e None h = cc

  pub ranges : RangesAreOut
  unfolding declared_style
  ranges = record {
    custom = λ name d e h. custom_is name d e (keyword_in (trim d.value)) h;
    ordinary = λ p d e may h. ordinary_is p d e may (keyword_in (trim d.value)) refl h;
  }
