-- The text of a report that shows objects: notes, and for the properties of each element the objects of declarations and of values. Its
-- form is this project's own.
use Rattle.std.specs.Prelude.{ℕ, ◌≡◌, List, [], ◌∷◌, ◌++◌, codes, Option, Some, None, Result, Ok, Err, slice_get}
use Rattle.std.specs.List.{flat_map, enumerate_from, zip}
use Rattle.cv_spec_text.specs.Characters.{line_feed, space}
use Rattle.cv_valuation.specs.declared.computed.Computed.{Computed}
use Rattle.cv_valuation.specs.declared.key.Key.{Key}
use Rattle.cv_valuation.specs.declared.outcome.Outcome.{Outcome}
use Rattle.cv_valuation.specs.Valuations.{outcome_at}
use Rattle.cv_props.specs.declared.decls.Decl.{Decl}
use Rattle.cv_props.specs.declared.note.Note.{Note}
use Rattle.cv_props.specs.Winners.{Declarations, declaration_of}
use Rattle.cv_report.specs.Report.{notes_text, subject}
use Rattle.cv_reify.specs.declared.error.ReifyErr.{ReifyErr}
use Rattle.cv_reify.specs.declared.style.Style.{Style}
use Rattle.cv_reify.specs.ComputedStyle.{computed_style}
use Rattle.cv_reify.specs.DeclaredStyle.{declared_style}
use Rattle.cv_reify.specs.Text.{style_text_or_none}

-- the line of an object behind a word, as `0 width computed unit(1, px)`
abbrev pub style_line : ℕ → Key → List ℕ → Option Style → List ℕ
style_line element key word style =
    subject element key ++ word ++ space ∷ style_text_or_none style ++ line_feed ∷ []

-- the line of what a declaration is, if it is in range
abbrev pub object_lines : ℕ → Key → Result Style ReifyErr → List ℕ
object_lines element key (Ok style) = style_line element key (codes "declared") (Some style)
object_lines element key (Err e) = []

-- the line of a declaration, if there is one
abbrev pub declared_lines : ℕ → Key → Option Decl → List ℕ
declared_lines element key None = []
declared_lines element key (Some declaration) = object_lines element key (declared_style key declaration)

-- the line of a value
abbrev pub computed_line : ℕ → Key → Outcome → List ℕ
computed_line element key outcome = style_line element key (codes "computed") (computed_style key outcome)

-- the lines of a key on an element
abbrev pub key_lines : ℕ → Key → Declarations → Computed → List ℕ
key_lines element key declared computed =
    declared_lines element key (declaration_of declared key) ++ computed_line element key (outcome_at computed.values key)

-- the lines of the shown keys on an element
abbrev pub element_text : List Key → ℕ × (Declarations × Computed) → List ℕ
element_text shown (element, (declared, computed)) = flat_map (λ key. key_lines element key declared computed) shown

abbrev pub elements_text : List Key → List Declarations → List Computed → List ℕ
elements_text shown declarations all = flat_map (element_text shown) (enumerate_from 0 (zip declarations all))

-- The report: the notes, and by element the shown keys in order.
abbrev pub reify_text : List Note → List Key → List Declarations → List Computed → List ℕ
reify_text notes shown declarations all = notes_text notes ++ elements_text shown declarations all

-- No declaration is out of range as it stands: each that is shown has its line. So it is where no property of an element is out of range.
pub record AreInRange (declarations : List Declarations) : Type 0 where
  pub objects : (element : ℕ) (declared : Declarations) (key : Key) (declaration : Decl) → slice_get declarations element ≡ Some declared → declaration_of declared key ≡ Some declaration → (e : ReifyErr) → declared_style key declaration ≡ Err e → ⊥
