-- What an `@property` rule registers, or why it is invalid (Properties and Values API 1, "The @property Rule"). The parts of a rule are
-- asked in this order: its name, its block, its syntax, whether it inherits, its initial value, which is this project's own; so is that an
-- initial value out of range makes the rule invalid.
use Rattle.std.specs.Prelude.{ℕ, pos, Bool, true, false, not, ◌||◌, ◌&&◌, if◌then◌else◌, codes, List, [], ◌∷◌, Option, Some, None, Result, Ok, Err}
use Rattle.cv_spec_ratio.specs.Ratio.{ratio}
use Rattle.cv_spec_text.specs.Keywords.{is_custom, is_word}
use Rattle.cv_spec_text.specs.declared.token.Token.{Token}
use Rattle.cv_spec_text.specs.declared.token.Token.TheVariants.{Ident, Str}
use Rattle.cv_component.specs.Items.{items}
use Rattle.cv_component.specs.Parts.{trim}
use Rattle.cv_component.specs.declared.items.Piece.{Piece}
use Rattle.cv_component.specs.declared.items.Piece.TheVariants as pieces
use Rattle.cv_component.specs.declared.sheet.Rule.{Rule}
use Rattle.cv_component.specs.declared.sheet.Rule.TheVariants as rules
use Rattle.cv_var.specs.Values.{is_value}
use Rattle.cv_var.specs.References.{has_var}
use Rattle.cv_calc.specs.declared.context.Basis.TheVariants.{Plain}
use Rattle.cv_calc.specs.declared.context.Context.{Context}
use Rattle.cv_calc_laws.specs.Fonts.{holds_no_font_unit}
use Rattle.cv_numeric.specs.declared.matched.Matched.{Matched}
use Rattle.cv_numeric.specs.declared.matched.Matched.TheVariants.{No, Out, Fit}
use Rattle.cv_syntax.specs.declared.syntax.Syntax.{Syntax}
use Rattle.cv_syntax.specs.declared.syntax.Syntax.TheVariants.{Any, Of}
use Rattle.cv_syntax.specs.Strings.{syntax}
use Rattle.cv_value.specs.declared.typed.Typed.{Typed}
use Rattle.cv_value.specs.Matching.{matching}
use Rattle.cv_value_laws.specs.Values.{is_keyword}
use Rattle.cv_valuation.specs.declared.outcome.Outcome.{Outcome}
use Rattle.cv_valuation.specs.declared.outcome.Outcome.TheVariants.{Tokens, Value, Invalid}
use Rattle.cv_props.specs.declared.entry.Entry.{Entry}
use Rattle.cv_props.specs.declared.note.Why.{Why}
use Rattle.cv_props.specs.declared.note.Why.TheVariants.{Skipped, RuleName, RuleBlock, RuleSyntax, RuleInherits, RuleInitial}

-- ---- the name

abbrev pub custom_name : List Token → Option (List ℕ)
custom_name (Ident name ∷ []) = if is_custom name then Some name else None
custom_name _ = None

-- the custom name that the prelude is, but for whitespace at its ends
abbrev pub prelude_name : List Token → Option (List ℕ)
prelude_name prelude = custom_name (trim prelude)

-- ---- the descriptors: of those of one name that have their form and aren't important the last one counts

abbrev pub first_or : {A : Type 0} → Option A → Option A → Option A
first_or None second = second
first_or (Some first) second = Some first

-- what the last element says that says something
abbrev pub last_said : {A B : Type 0} → (A → Option B) → List A → Option B
last_said f [] = None
last_said f (x ∷ xs) = first_or (last_said f xs) (f x)

-- the value of a declaration that isn't important, of this name without ASCII case
abbrev pub descriptor : List ℕ → Piece → Option (List Token)
descriptor word (pieces.Decl name value false) = if is_word word name then Some value else None
descriptor word _ = None

abbrev pub and_then : {A B : Type 0} → (A → Option B) → Option A → Option B
and_then f None = None
and_then f (Some x) = f x

abbrev pub right : {A E : Type 0} → Result A E → Option A
right (Ok x) = Some x
right (Err e) = None

-- a string that is a syntax string
abbrev pub said_syntax : List Token → Option Syntax
said_syntax (Str text ∷ []) = right (syntax text)
said_syntax _ = None

abbrev pub truth : List ℕ → Option Bool
truth word = if is_word (codes "true") word then Some true else (if is_word (codes "false") word then Some false else None)

-- `true` or `false`
abbrev pub said_inherits : List Token → Option Bool
said_inherits (Ident word ∷ []) = truth word
said_inherits _ = None

abbrev pub syntax_in : Piece → Option Syntax
syntax_in piece = and_then said_syntax (descriptor (codes "syntax") piece)

abbrev pub inherits_in : Piece → Option Bool
inherits_in piece = and_then said_inherits (descriptor (codes "inherits") piece)

abbrev pub initial_in : Piece → Option (List Token)
initial_in piece = descriptor (codes "initial-value") piece

-- ---- the initial value

-- what relative lengths are in a viewport of this size; no unit that is relative to a font is read in it
abbrev pub viewport : ℕ → ℕ → Context
viewport width height = record { em = ratio (pos 16) 1; rem = ratio (pos 16) 1; width = width; height = height; basis = Plain }

-- by the universal syntax: a declaration value without references that is no CSS-wide keyword
abbrev pub is_universal_value : List Token → Bool
is_universal_value value = is_value value && not (has_var value) && not (is_keyword (trim value))

abbrev pub universal_initial : List Token → Option Outcome
universal_initial value = if is_universal_value value then Some (Tokens value) else None

abbrev pub fitting : Matched Typed → Option Outcome
fitting (Fit value) = Some (Value value)
fitting Out = None
fitting No = None

-- by any other: it matches, in range, and depends on no font and no other property ("computationally independent")
abbrev pub typed_initial : Context → Syntax → List Token → Option Outcome
typed_initial x s value = if has_var value || not (holds_no_font_unit true value) then None else fitting (matching s x value)

-- the initial value, where the written one is one; the universal syntax needs none
abbrev pub initial_value : Context → Syntax → Option (List Token) → Option Outcome
initial_value x Any None = Some Invalid
initial_value x Any (Some value) = universal_initial value
initial_value x (Of components) None = None
initial_value x (Of components) (Some value) = typed_initial x (Of components) value

-- ---- the rule

abbrev pub by_initial : List ℕ → Syntax → Bool → Option Outcome → Result (List ℕ × Entry) Why
by_initial name s inherits None = Err RuleInitial
by_initial name s inherits (Some initial) = Ok (name, record { syntax = s; inherits = inherits; initial = initial })

abbrev pub by_inherits : Context → List ℕ → Syntax → Option Bool → Option (List Token) → Result (List ℕ × Entry) Why
by_inherits x name s None value = Err RuleInherits
by_inherits x name s (Some inherits) value = by_initial name s inherits (initial_value x s value)

abbrev pub by_syntax : Context → List ℕ → Option Syntax → Option Bool → Option (List Token) → Result (List ℕ × Entry) Why
by_syntax x name None inherits value = Err RuleSyntax
by_syntax x name (Some s) inherits value = by_inherits x name s inherits value

abbrev pub by_descriptors : Context → List ℕ → List Piece → Result (List ℕ × Entry) Why
by_descriptors x name block = by_syntax x name (last_said syntax_in block) (last_said inherits_in block) (last_said initial_in block)

abbrev pub by_block : Context → List ℕ → Option (List Token) → Result (List ℕ × Entry) Why
by_block x name None = Err RuleBlock
by_block x name (Some block) = by_descriptors x name (items block)

abbrev pub by_name : Context → Option (List ℕ) → Option (List Token) → Result (List ℕ × Entry) Why
by_name x None block = Err RuleName
by_name x (Some name) block = by_block x name block

-- what the rule registers, or why it is ignored
abbrev pub registration : Context → Rule → Result (List ℕ × Entry) Why
registration x (rules.At name prelude block) = if is_word (codes "property") name then by_name x (prelude_name prelude) block else Err Skipped
registration x rules.Other = Err Skipped
