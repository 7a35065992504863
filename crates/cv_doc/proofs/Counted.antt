-- A document is refused for the size of no part but its elements, its names to show and its commands.
use Rattle.std.proofs.Common.{ℕ, ◌+◌, ◌==◌, Bool, true, false, List, [], ◌∷◌, Option, Some, None, is_some, Result, Ok, Err, if◌then◌else◌, nat_le, nat_lt}
use Rattle.std.specs.Prelude.{codes, option_and_then}
use Rattle.std.specs.Option.{option_map_or}
use Rattle.serde_json.specs.Data.{Data, Items, no_items, item}
use Rattle.serde_json.specs.Find.{get, as_array, as_null, as_object}
use Rattle.cv_doc.specs.declared.elements.Elem.{Elem}
use Rattle.cv_doc.specs.declared.refusal.BadDoc.TheVariants.{BadParent, NotJson}
use Rattle.cv_doc.specs.declared.refusal.What.{What}
use Rattle.cv_doc.specs.declared.refusal.What.TheVariants.{Elements, Show, Commands}
use Rattle.cv_doc.specs.Json.{json_of, text_of, whole_of, whole_up_to}
use Rattle.cv_doc.specs.Refusals.{Refusal, malformed, too_large, field, and_then, all_from, IsCounted, RefusesCounted}
use Rattle.cv_doc.specs.Members.{count_of, counted, element_in, element_path, elements_in, elements_of, most_elements, most_names, most_size, name_in, name_of, names_of, parent_in, show_in, show_path, sizes_of, style_path, text_in, viewport_in}
use Rattle.cv_doc.specs.Commands.{command_in, command_of, command_path, commands_in, commands_of, most_commands}
use Rattle.cv_doc.specs.Reading.{document_in, document_of, members_in}

-- ---- results

steps : {T U : Type 0} (r : Result T Refusal) (next : T → Result U Refusal) → RefusesCounted r → ((x : T) → RefusesCounted (next x)) → RefusesCounted (and_then r next)
steps (Ok x) next first more = more x
steps (Err (malformed why)) next first more = tt
steps (Err (too_large what)) next first more = first

option : {X T : Type 0} (o : Option X) (f : X → Result T Refusal) (why : Result T Refusal) → ((x : X) → RefusesCounted (f x)) → RefusesCounted why → RefusesCounted (option_map_or f o why)
option None f why some none = none
option (Some x) f why some none = some x

either : {T : Type 0} (b : Bool) (r s : Result T Refusal) → RefusesCounted r → RefusesCounted s → RefusesCounted (if b then r else s)
either true r s first second = first
either false r s first second = second

items : {T : Type 0} (read : ℕ → Data → Result T Refusal) → ((i : ℕ) (d : Data) → RefusesCounted (read i d)) → (i : ℕ) (ds : Items) → RefusesCounted (all_from read i ds)
items read each i no_items = tt
items read each i (item d ds) =
    steps (read i d) (λ first. and_then (all_from read (i + 1) ds) (λ rest. Ok (first ∷ rest))) (each i d)
    (λ first. steps (all_from read (i + 1) ds) (λ rest. Ok (first ∷ rest)) (items read each (i + 1) ds) (λ rest. tt))

array : {T : Type 0} (most : ℕ) (what : What) (ds : Items) (all : Result T Refusal) → IsCounted what → RefusesCounted all → RefusesCounted (counted most what ds all)
array most what ds all is each = either (nat_le (count_of ds) most) all (Err (too_large what)) each is

-- ---- the members

sizes : (a b : Option ℕ) → RefusesCounted (sizes_of a b)
sizes (Some width) (Some height) = tt
sizes (Some width) None = tt
sizes None height = tt

viewport : (d : Option Data) → RefusesCounted (viewport_in d)
viewport None = tt
viewport (Some d) = sizes (whole_up_to most_size (get (codes "width") d)) (whole_up_to most_size (get (codes "height") d))

text : (path : List ℕ) (d : Option Data) → RefusesCounted (text_in path d)
text path None = tt
text path (Some d) = option (text_of (Some d)) Ok (Err (field path)) (λ x. tt) tt

parent : (i : ℕ) (d : Option Data) → RefusesCounted (parent_in i d)
parent i d =
    either (i == 0) (if is_some (option_and_then as_null d) then Ok None else Err (malformed (BadParent i))) (option_map_or (λ n. if nat_lt n i then Ok (Some n) else Err (malformed (BadParent i))) (option_and_then whole_of d) (Err (malformed (BadParent i))))
    (either (is_some (option_and_then as_null d)) (Ok None) (Err (malformed (BadParent i))) tt tt)
    (option (option_and_then whole_of d) (λ n. if nat_lt n i then Ok (Some n) else Err (malformed (BadParent i))) (Err (malformed (BadParent i))) (λ n. either (nat_lt n i) (Ok (Some n)) (Err (malformed (BadParent i))) tt tt) tt)

abbrev made : Option ℕ → List ℕ → Result Elem Refusal
made at style = Ok (record { parent = at; style = style })

abbrev styled : ℕ → Data → Option ℕ → Result Elem Refusal
styled i d at = and_then (text_in (style_path i) (get (codes "style") d)) (made at)

element : (i : ℕ) (d : Data) → RefusesCounted (element_in i d)
element i d =
    either (is_some (as_object d)) (and_then (parent_in i (get (codes "parent") d)) (styled i d)) (Err (field (element_path i)))
    (steps (parent_in i (get (codes "parent") d)) (styled i d) (parent i (get (codes "parent") d)) (λ at. steps (text_in (style_path i) (get (codes "style") d)) (made at) (text (style_path i) (get (codes "style") d)) (λ style. tt)))
    tt

elements : (d : Option Data) → RefusesCounted (elements_in d)
elements d = option (option_and_then as_array d) elements_of (Err (field (codes "elements"))) some tt
  where
    some : (ds : Items) → RefusesCounted (elements_of ds)
    some ds =
        either (count_of ds == 0) (Err (field (codes "elements"))) (counted most_elements Elements ds (all_from element_in 0 ds)) tt
        (array most_elements Elements ds (all_from element_in 0 ds) tt (items element_in element 0 ds))

name : (i : ℕ) (d : Data) → RefusesCounted (name_in i d)
name i d = option (name_of (text_of (Some d))) Ok (Err (field (show_path i))) (λ x. tt) tt

names : (ds : Items) → RefusesCounted (names_of ds)
names ds = array most_names Show ds (all_from name_in 0 ds) tt (items name_in name 0 ds)

show : (d : Option Data) → RefusesCounted (show_in d)
show None = tt
show (Some d) =
    steps (option_map_or names_of (as_array d) (Err (field (codes "show")))) (λ names. Ok (Some names))
    (option (as_array d) names_of (Err (field (codes "show"))) names tt) (λ names. tt)

command : (i : ℕ) (d : Data) → RefusesCounted (command_in i d)
command i d = option (command_of d) Ok (Err (field (command_path i))) (λ x. tt) tt

commands_at : (ds : Items) → RefusesCounted (commands_of ds)
commands_at ds = array most_commands Commands ds (all_from command_in 0 ds) tt (items command_in command 0 ds)

commands : (d : Option Data) → RefusesCounted (commands_in d)
commands None = tt
commands (Some d) = option (as_array d) commands_of (Err (field (codes "commands"))) commands_at tt

-- ---- the document

members : (d : Data) → RefusesCounted (members_in d)
members d =
    steps (viewport_in (get (codes "viewport") d)) _ (viewport (get (codes "viewport") d)) (λ size.
    steps (text_in (codes "sheet") (get (codes "sheet") d)) _ (text (codes "sheet") (get (codes "sheet") d)) (λ sheet.
    steps (elements_in (get (codes "elements") d)) _ (elements (get (codes "elements") d)) (λ elems.
    steps (show_in (get (codes "show") d)) _ (show (get (codes "show") d)) (λ shown.
    steps (commands_in (get (codes "commands") d)) _ (commands (get (codes "commands") d)) (λ asked. tt)))))

object : (d : Data) → RefusesCounted (document_in d)
object d = either (is_some (as_object d)) (members_in d) (Err (field [])) (members d) tt

pub document_counted : (bytes : List ℕ) → RefusesCounted (document_of bytes)
document_counted bytes = option (json_of bytes) document_in (Err (malformed NotJson)) object tt
