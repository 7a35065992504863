-- The text of a report: notes, and the outcomes of properties. Its form is this project's own.
use Rattle.std.specs.Prelude.{ℕ, List, [], ◌∷◌, ◌++◌, codes, decimal, find, Option, Some, None, option_map}
use Rattle.std.specs.List.{flat_map, enumerate_from}
use Rattle.cv_spec_text.specs.Characters.{line_feed, space}
use Rattle.cv_valuation.specs.declared.computed.Cause.{Cause}
use Rattle.cv_valuation.specs.declared.computed.Cause.TheVariants.{Cycle, Missing, Limit, Mismatch}
use Rattle.cv_valuation.specs.declared.computed.Computed.{Computed}
use Rattle.cv_valuation.specs.declared.key.Key.{Key}
use Rattle.cv_props.specs.declared.note.Note.{Note}
use Rattle.cv_props.specs.declared.note.NotePlace.{NotePlace}
use Rattle.cv_props.specs.declared.note.NotePlace.TheVariants.{Rule, Item}
use Rattle.cv_props.specs.declared.note.Why.{Why}
use Rattle.cv_props.specs.declared.note.Why.TheVariants.{Skipped, RuleName, RuleBlock, RuleSyntax, RuleInherits, RuleInitial, AtRule, NotDeclaration, UnknownProperty, TooDeep, BadValue, BadVar}
use Rattle.cv_valuation.specs.Keys.{key_text, same_key}
use Rattle.cv_valuation.specs.Valuations.{outcome_at, outcome_text}

-- why a rule or an item is ignored
abbrev pub why_text : Why → List ℕ
why_text Skipped = codes "skipped"
why_text RuleName = codes "invalid @property (name)"
why_text RuleBlock = codes "invalid @property (block)"
why_text RuleSyntax = codes "invalid @property (syntax)"
why_text RuleInherits = codes "invalid @property (inherits)"
why_text RuleInitial = codes "invalid @property (initial-value)"
why_text AtRule = codes "at-rule"
why_text NotDeclaration = codes "not a declaration"
why_text UnknownProperty = codes "unknown property"
why_text TooDeep = codes "too deep"
why_text BadValue = codes "bad value"
why_text BadVar = codes "bad var"

-- a word and a number
unfoldable pub counted : List ℕ → ℕ → List ℕ
counted word number = word ++ decimal number

abbrev pub place_text : NotePlace → List ℕ
place_text (Rule number) = counted (codes "sheet rule ") number
place_text (Item element number) = counted (codes "element ") element ++ counted (codes " declaration ") number

-- the line of a note, as `# sheet rule 0: skipped`
abbrev pub note_line : Note → List ℕ
note_line note = codes "# " ++ place_text note.place ++ codes ": " ++ why_text note.why ++ line_feed ∷ []

abbrev pub cause_text : Cause → List ℕ
cause_text Cycle = codes "cycle"
cause_text (Missing name) = codes "missing"
cause_text (Limit tokens) = codes "limit"
cause_text Mismatch = codes "mismatch"

-- an element and a key: `0 --a `
abbrev pub subject : ℕ → Key → List ℕ
subject element key = decimal element ++ space ∷ key_text key ++ space ∷ []

-- the line of an outcome, as `0 --a = 1px`
abbrev pub outcome_line : ℕ → Key → Computed → List ℕ
outcome_line element key computed = subject element key ++ outcome_text (outcome_at computed.values key) ++ line_feed ∷ []

-- the cause for which the key is bad, if it is: that of its first entry
abbrev pub cause_of : Key → List (Key × Cause) → Option Cause
cause_of key faults = option_map (λ fault. fault.1) (find (λ fault. same_key key fault.0) faults)

-- the line of a cause, as `0 --a ! cycle`
abbrev pub cause_line : ℕ → Key → Cause → List ℕ
cause_line element key cause = subject element key ++ codes "! " ++ cause_text cause ++ line_feed ∷ []

abbrev pub cause_lines : ℕ → Key → Option Cause → List ℕ
cause_lines element key None = []
cause_lines element key (Some cause) = cause_line element key cause

-- the lines of a key on an element
abbrev pub value_lines : ℕ → Key → Computed → List ℕ
value_lines element key computed = outcome_line element key computed ++ cause_lines element key (cause_of key computed.faults)

-- the lines of the shown keys on an element
abbrev pub element_text : List Key → ℕ × Computed → List ℕ
element_text shown (element, computed) = flat_map (λ key. value_lines element key computed) shown

abbrev pub notes_text : List Note → List ℕ
notes_text notes = flat_map note_line notes

abbrev pub elements_text : List Key → List Computed → List ℕ
elements_text shown all = flat_map (element_text shown) (enumerate_from 0 all)

-- The report: the notes, and by element the shown keys in order.
abbrev pub report_text : List Note → List Key → List Computed → List ℕ
report_text notes shown all = notes_text notes ++ elements_text shown all
