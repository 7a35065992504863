-- The sheet and the styles of a document are no longer than its bytes.
use Rattle.std.proofs.Common.{◌≡◌, ℕ, ◌+◌, ◌≤◌, ◌==◌, List, [], ◌∷◌, length, Option, Some, None, is_some, Result, Ok, Err, subst, arith}
use Rattle.std.specs.Prelude.{IfOk, IfSome, codes, option_and_then}
use Rattle.std.specs.List.{All}
use Rattle.std.proofs.lemmas.List.Elements.{All-nil, All-cons}
use Rattle.serde_json.specs.Data.{Data, Items, no_items, item}
use Rattle.serde_json.specs.Find.{get, as_array, as_object}
use Rattle.cv_doc.specs.declared.document.Document.{Document}
use Rattle.cv_doc.specs.declared.elements.Elem.{Elem}
use Rattle.cv_doc.specs.declared.refusal.DocErr.{DocErr}
use Rattle.cv_doc.specs.Json.{json_of, text_of}
use Rattle.cv_doc.specs.Refusals.{Answers, Refusal, and_then, all_from}
use Rattle.cv_doc.specs.Members.{count_of, element_in, elements_in, elements_of, parent_in, show_in, text_in, viewport_in}
use Rattle.cv_doc.specs.Commands.{commands_in}
use Rattle.cv_doc.specs.Reading.{Shape, document_in, document_of, members_in, shape_of}
use Rattle.cv_doc.specs.Kept.{TextsAreWithin}
use Rattle.cv_doc.proofs.Parts.{IsWithin, ItemsAreWithin, as_array_within, get_within, json_of_within, text_of_within}
use Rattle.cv_doc.proofs.Sound.{ok_parts, ok_same, some_part, test_failed, test_passed}

-- what holds of a value that is there
there : {A : Type 0} (P : A → Type 0) (o : Option A) (x : A) → o ≡ Some x → IfSome o P → P x
there P o x is holds = subst (λ (p : Option _). IfSome p P) is holds

-- what holds of each item that is read holds of all
all_read : {T : Type 0} (n : ℕ) (Q : T → Type 0) (read : ℕ → Data → Result T Refusal) → ((i : ℕ) (d : Data) (x : T) → IsWithin n d → read i d ≡ Ok x → Q x)
    → (i : ℕ) (ds : Items) → ItemsAreWithin n ds → (xs : List T) → all_from read i ds ≡ Ok xs → All Q xs
all_read n Q read each i no_items within xs e = subst (All Q) (ok_same [] xs e) (All-nil Q)
all_read n Q read each i (item d ds) within xs e =
    let first = ok_parts (read i d) (λ x. and_then (all_from read (i + 1) ds) (λ rest. Ok (x ∷ rest))) xs e in
    let rest = ok_parts (all_from read (i + 1) ds) (λ rest. Ok (first.0 ∷ rest)) xs first.2 in
    subst (All Q) (ok_same (first.0 ∷ rest.0) xs rest.2)
    (All-cons Q first.0 rest.0 (each i d first.0 within.0 first.1) (all_read n Q read each (i + 1) ds within.1 rest.0 rest.1))

module _ (n : ℕ) where
  -- a text that is absent is empty
  text_sized : (path : List ℕ) (d : Option Data) (text : List ℕ) → IfSome d (IsWithin n) → text_in path d ≡ Ok text → length text ≤ n
  text_sized path None text within e = subst (λ (s : List ℕ). length s ≤ n) (ok_same [] text e) (omega arith)
  text_sized path (Some d) text within e =
      let some = some_part (text_of (Some d)) Ok _ text e in
      subst (λ (s : List ℕ). length s ≤ n) (ok_same some.0 text some.2) (there (λ s. length s ≤ n) (text_of (Some d)) some.0 some.1 (text_of_within n d within))

  abbrev IsSized : Elem → Type 0
  IsSized element = length element.style ≤ n

  element_sized : (i : ℕ) (d : Data) (element : Elem) → IsWithin n d → element_in i d ≡ Ok element → IsSized element
  element_sized i d element within e =
      let object = test_passed (is_some (as_object d)) _ _ element e in
      let parent = ok_parts (parent_in i (get (codes "parent") d)) _ element object.1 in
      let style = ok_parts (text_in _ (get (codes "style") d)) _ element parent.2 in
      let parts : Elem = record { parent = parent.0; style = style.0 } in
      subst IsSized (ok_same parts element style.2) (text_sized _ (get (codes "style") d) style.0 (get_within n (codes "style") d within) style.1)

  array_within : (d : Option Data) → IfSome d (IsWithin n) → IfSome (option_and_then as_array d) (ItemsAreWithin n)
  array_within None within = tt
  array_within (Some d) within = as_array_within n d within

  elements_sized : (d : Option Data) (elements : List Elem) → IfSome d (IsWithin n) → elements_in d ≡ Ok elements → All IsSized elements
  elements_sized d elements within e =
      let array = some_part (option_and_then as_array d) elements_of _ elements e in
      let some = test_failed (count_of array.0 == 0) _ _ elements array.2 in
      let few = test_passed _ (all_from element_in 0 array.0) _ elements some.1 in
      all_read n IsSized element_in element_sized 0 array.0 (there (ItemsAreWithin n) (option_and_then as_array d) array.0 array.1 (array_within d within)) elements few.1

  members_sized : (d : Data) (shape : Shape) → IsWithin n d → members_in d ≡ Ok shape → TextsAreWithin n shape
  members_sized d shape within e =
      let size = ok_parts (viewport_in (get (codes "viewport") d)) _ shape e in
      let sheet = ok_parts (text_in (codes "sheet") (get (codes "sheet") d)) _ shape size.2 in
      let elements = ok_parts (elements_in (get (codes "elements") d)) _ shape sheet.2 in
      let show = ok_parts (show_in (get (codes "show") d)) _ shape elements.2 in
      let commands = ok_parts (commands_in (get (codes "commands") d)) _ shape show.2 in
      let parts : Shape = record {
        width = size.0.0;
        height = size.0.1;
        sheet = sheet.0;
        elements = elements.0;
        show = show.0;
        commands = commands.0;
      } in
      let sized : TextsAreWithin n parts = record {
        sheet = text_sized (codes "sheet") (get (codes "sheet") d) sheet.0 (get_within n (codes "sheet") d within) sheet.1;
        styles = elements_sized (get (codes "elements") d) elements.0 (get_within n (codes "elements") d within) elements.1;
      } in
      subst (TextsAreWithin n) (ok_same parts shape commands.2) sized

sized : (bytes : List ℕ) (shape : Shape) → document_of bytes ≡ Ok shape → TextsAreWithin (length bytes) shape
sized bytes shape e =
    let value = some_part (json_of bytes) document_in _ shape e in
    let object = test_passed (is_some (as_object value.0)) (members_in value.0) _ shape value.2 in
    members_sized (length bytes) value.0 shape (there (IsWithin (length bytes)) (json_of bytes) value.0 value.1 (json_of_within bytes)) object.1

pub answer_sized : (bytes : List ℕ) (answer : Result Document DocErr) → Answers shape_of (document_of bytes) answer
    → IfOk answer (λ d. TextsAreWithin (length bytes) (shape_of d))
answer_sized bytes (Ok d) exact = sized bytes (shape_of d) exact
answer_sized bytes (Err e) exact = tt
