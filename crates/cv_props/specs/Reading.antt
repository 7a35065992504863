-- How an item or a rule is read: what it declares or registers, or why it isn't kept.
use Rattle.std.specs.Prelude.{◌≡◌, All, Option, Some, Result, Ok, Err}
use Rattle.cv_spec_text.specs.Splits.{IsSpelt}
use Rattle.cv_component.specs.declared.items.Piece.{Piece}
use Rattle.cv_component.specs.declared.sheet.Rule.{Rule}
use Rattle.cv_component.specs.declared.sheet.Rule.TheVariants as rules
use Rattle.cv_props.specs.declared.note.Why.{Why}
use Rattle.cv_props.specs.declared.refusal.Refusal.{Refusal}
use Rattle.cv_props.specs.declared.refusal.Refusal.TheVariants.{Ignored, Memory}
use Rattle.cv_props.specs.Winners.{Declarations}
use Rattle.cv_props.specs.Declaring.{with_declaration}
use Rattle.cv_props.specs.Kept.{declared_by_item}

-- the value is refused for this reason; want of memory is free
abbrev pub IsRefused : Option Why → Refusal → Type 0
IsRefused fault (Ignored why) = fault ≡ Some why
IsRefused fault Memory = Unit {0}

-- the item or rule is ignored for this reason; want of memory is free
abbrev pub IsIgnored : {A : Type 0} → Result A Why → Refusal → Type 0
IsIgnored declared (Ignored why) = declared ≡ Err why
IsIgnored declared Memory = Unit {0}

-- the tokens of the rule's block are spelt
abbrev pub IsSpeltRule : Rule → Type 0
IsSpeltRule (rules.At name prelude (Some block)) = All IsSpelt block
IsSpeltRule _ = Unit {0}

-- the declarations once an item is read
abbrev pub with_item : Declarations → Piece → Declarations
with_item declarations piece =
    (elim (declared_by_item piece) [ Ok declared ↦ with_declaration declarations declared.0 declared.1 | Err why ↦ declarations ])
