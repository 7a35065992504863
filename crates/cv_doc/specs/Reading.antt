-- The document that bytes hold, or the first refusal. Documents are this project's own.
use Rattle.std.specs.Prelude.{ℕ, List, [], Option, is_some, Result, Ok, Err, codes, if◌then◌else◌, option_map}
use Rattle.std.specs.Option.{option_map_or}
use Rattle.serde_json.specs.Data.{Data}
use Rattle.serde_json.specs.Find.{get, as_object}
use Rattle.cv_doc.specs.declared.command.Command.{Command}
use Rattle.cv_doc.specs.declared.document.Document.{Document}
use Rattle.cv_doc.specs.declared.elements.Elem.{Elem}
use Rattle.cv_doc.specs.declared.refusal.BadDoc.TheVariants.{NotJson}
use Rattle.cv_doc.specs.Commands.{commands_in}
use Rattle.cv_doc.specs.Json.{json_of}
use Rattle.cv_doc.specs.Members.{elements_in, show_in, text_in, viewport_in}
use Rattle.cv_doc.specs.Refusals.{Refusal, malformed, field, and_then}

-- a document as plain data
pub record Shape : Type 0 where
  pub width : ℕ
  pub height : ℕ
  pub sheet : List ℕ
  pub elements : List Elem
  pub show : Option (List (List ℕ))
  pub commands : List Command

abbrev pub shape_of : Document → Shape
shape_of d = record {
  width = d.width;
  height = d.height;
  sheet = d.sheet;
  elements = d.elements.items;
  show = option_map (λ names. names.items) d.show;
  commands = d.commands.items;
}

-- the members of an object, in order
abbrev pub members_in : Data → Result Shape Refusal
members_in d =
    and_then (viewport_in (get (codes "viewport") d)) (λ size.
    and_then (text_in (codes "sheet") (get (codes "sheet") d)) (λ sheet.
    and_then (elements_in (get (codes "elements") d)) (λ elements.
    and_then (show_in (get (codes "show") d)) (λ show.
    and_then (commands_in (get (codes "commands") d)) (λ commands.
    Ok (record {
      width = size.0;
      height = size.1;
      sheet = sheet;
      elements = elements;
      show = show;
      commands = commands;
    }))))))

abbrev pub document_in : Data → Result Shape Refusal
document_in d = if is_some (as_object d) then members_in d else Err (field [])

abbrev pub document_of : List ℕ → Result Shape Refusal
document_of bytes = option_map_or document_in (json_of bytes) (Err (malformed NotJson))
