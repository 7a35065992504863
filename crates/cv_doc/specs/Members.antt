-- The viewport, the elements and the names of a document.
use Rattle.std.specs.Prelude.{ℕ, suc, ◌==◌, ◌||◌, ◌++◌, List, [], Option, None, Some, Bool, is_some, Result, Ok, Err, codes, if◌then◌else◌, nat_le, nat_lt, option_and_then}
use Rattle.std.specs.Option.{option_map_or}
use Rattle.std.specs.Fmt.{decimal}
use Rattle.serde_json.specs.Data.{Data, Items, no_items, item}
use Rattle.serde_json.specs.Find.{get, as_array, as_null, as_object}
use Rattle.cv_spec_text.specs.Keywords.{is_custom}
use Rattle.cv_doc.specs.declared.elements.Elem.{Elem}
use Rattle.cv_doc.specs.declared.refusal.BadDoc.TheVariants.{BadParent, BadViewport}
use Rattle.cv_doc.specs.declared.refusal.What.{What}
use Rattle.cv_doc.specs.declared.refusal.What.TheVariants.{Elements, Show}
use Rattle.cv_doc.specs.Json.{text_of, whole_of, whole_up_to}
use Rattle.cv_doc.specs.PropertyNames.{is_property}
use Rattle.cv_doc.specs.Refusals.{Refusal, malformed, too_large, field, and_then, all_from}

-- ---- the viewport

abbrev pub most_size : ℕ
most_size = 1000000

-- a width and a height, where both are whole numbers up to the most
abbrev pub sizes_of : Option ℕ → Option ℕ → Result (ℕ × ℕ) Refusal
sizes_of (Some width) (Some height) = Ok (width, height)
sizes_of (Some width) None = Err (malformed BadViewport)
sizes_of None height = Err (malformed BadViewport)

abbrev pub viewport_in : Option Data → Result (ℕ × ℕ) Refusal
viewport_in None = Ok (1280, 720)
viewport_in (Some d) = sizes_of (whole_up_to most_size (get (codes "width") d)) (whole_up_to most_size (get (codes "height") d))

-- ---- texts

-- a text, empty where it is absent, or the refusal of its path
abbrev pub text_in : List ℕ → Option Data → Result (List ℕ) Refusal
text_in path None = Ok []
text_in path (Some d) = option_map_or Ok (text_of (Some d)) (Err (field path))

-- ---- arrays

abbrev pub count_of : Items → ℕ
count_of no_items = 0
count_of (item d ds) = suc (count_of ds)

-- an array's items, where there are no more than the most
abbrev pub counted : {T : Type 0} → ℕ → What → Items → Result T Refusal → Result T Refusal
counted most what ds items = if nat_le (count_of ds) most then items else Err (too_large what)

-- ---- elements

abbrev pub most_elements : ℕ
most_elements = 16384

abbrev pub element_path : ℕ → List ℕ
element_path i = codes "elements/" ++ decimal i

abbrev pub style_path : ℕ → List ℕ
style_path i = element_path i ++ codes "/style"

-- the parent of element 0 is null, and that of another the index of an earlier one
abbrev pub parent_in : ℕ → Option Data → Result (Option ℕ) Refusal
parent_in i d =
    if i == 0 then (if is_some (option_and_then as_null d) then Ok None else Err (malformed (BadParent i)))
    else option_map_or (λ n. if nat_lt n i then Ok (Some n) else Err (malformed (BadParent i))) (option_and_then whole_of d) (Err (malformed (BadParent i)))

-- an element is tested to be an object, then its parent is looked at, then its style
abbrev pub element_in : ℕ → Data → Result Elem Refusal
element_in i d =
    if is_some (as_object d)
    then and_then (parent_in i (get (codes "parent") d)) (λ parent.
    and_then (text_in (style_path i) (get (codes "style") d)) (λ style.
    Ok (record { parent = parent; style = style })))
    else Err (field (element_path i))

-- an array of elements that isn't empty
abbrev pub elements_of : Items → Result (List Elem) Refusal
elements_of ds =
    if count_of ds == 0 then Err (field (codes "elements"))
    else counted most_elements Elements ds (all_from element_in 0 ds)

abbrev pub elements_in : Option Data → Result (List Elem) Refusal
elements_in d = option_map_or elements_of (option_and_then as_array d) (Err (field (codes "elements")))

-- ---- names to show

abbrev pub most_names : ℕ
most_names = 2048

abbrev pub show_path : ℕ → List ℕ
show_path i = codes "show/" ++ decimal i

-- the name of a custom property, or of one in the table
abbrev pub is_name : List ℕ → Bool
is_name name = is_custom name || is_property name

-- a name that can be shown
abbrev pub name_of : Option (List ℕ) → Option (List ℕ)
name_of text = option_and_then (λ name. if is_name name then Some name else None) text

abbrev pub name_in : ℕ → Data → Result (List ℕ) Refusal
name_in i d = option_map_or Ok (name_of (text_of (Some d))) (Err (field (show_path i)))

abbrev pub names_of : Items → Result (List (List ℕ)) Refusal
names_of ds = counted most_names Show ds (all_from name_in 0 ds)

-- the names to show, none where that is left open
abbrev pub show_in : Option Data → Result (Option (List (List ℕ))) Refusal
show_in None = Ok None
show_in (Some d) = and_then (option_map_or names_of (as_array d) (Err (field (codes "show")))) (λ names. Ok (Some names))
