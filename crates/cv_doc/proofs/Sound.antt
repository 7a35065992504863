-- A document that is read is sound.
use Rattle.std.proofs.Common.{◌≡◌, ◌∙◌, ℕ, zero, suc, ◌+◌, ◌<◌, ◌≤◌, ◌==◌, Bool, true, false, List, [], ◌∷◌, length, Option, Some, None, is_some, Result, Ok, Err, ap, sym, subst, refl, arith, if◌then◌else◌, nat_le, nat_lt}
use Rattle.std.specs.Prelude.{IfOk, IfSome, codes, option_and_then}
use Rattle.std.specs.Option.{option_map_or}
use Rattle.std.specs.List.{All, slice_index_or}
use Rattle.std.proofs.lemmas.Bool.Decides.{nat_tests}
use Rattle.serde_json.specs.Data.{Data, Items, no_items, item}
use Rattle.serde_json.specs.Find.{get, as_array, as_null, as_object}
use Rattle.cv_doc.specs.declared.document.Document.{Document}
use Rattle.cv_doc.specs.declared.elements.Elem.{Elem}
use Rattle.cv_doc.specs.declared.refusal.DocErr.{DocErr}
use Rattle.cv_doc.specs.declared.command.Command.{Command}
use Rattle.cv_doc.specs.declared.refusal.What.{What}
use Rattle.cv_doc.specs.Json.{json_of, text_of, whole_of, whole_up_to}
use Rattle.cv_doc.specs.Refusals.{Answers, Refusal, and_then, all_from}
use Rattle.cv_doc.specs.Members.{count_of, counted, element_in, elements_in, elements_of, is_name, most_elements, most_names, most_size, name_in, name_of, names_of, parent_in, show_in, sizes_of, text_in, viewport_in}
use Rattle.cv_doc.specs.Commands.{command_in, commands_in, commands_of, most_commands}
use Rattle.cv_doc.specs.Reading.{Shape, document_in, document_of, members_in, shape_of}
use Rattle.cv_doc.specs.Kept.{IsParentOf, IsSound, IsTree}

-- ---- results

pub ok_parts : {T U : Type 0} (r : Result T Refusal) (next : T → Result U Refusal) (y : U) → and_then r next ≡ Ok y
    → (x : T) × (r ≡ Ok x) × (next x ≡ Ok y)
ok_parts (Ok x) next y e = (x, refl, e)
ok_parts (Err why) next y e = cc

pub ok_same : {T : Type 0} (x y : T) → ◌≡◌ {A = Result T Refusal} (Ok x) (Ok y) → x ≡ y
ok_same x y e = cc

-- an option's value, or a refusal
pub some_part : {X T : Type 0} (o : Option X) (f : X → Result T Refusal) (why : Refusal) (y : T) → option_map_or f o (Err why) ≡ Ok y
    → (x : X) × (o ≡ Some x) × (f x ≡ Ok y)
some_part None f why y e = cc
some_part (Some x) f why y e = (x, refl, e)

pub test_passed : {T : Type 0} (b : Bool) (r : Result T Refusal) (why : Refusal) (y : T) → (if b then r else Err why) ≡ Ok y → (b ≡ true) × (r ≡ Ok y)
test_passed true r why y e = (refl, e)
test_passed false r why y e = cc

le_of : (m n : ℕ) → nat_le m n ≡ true → m ≤ n
le_of m n h = grind (arith, nat_tests)

lt_of : (m n : ℕ) → nat_lt m n ≡ true → m < n
lt_of m n h = grind (arith, nat_tests)

pub test_failed : {T : Type 0} (b : Bool) (r : Result T Refusal) (why : Refusal) (y : T) → (if b then Err why else r) ≡ Ok y → (b ≡ false) × (r ≡ Ok y)
test_failed true r why y e = cc
test_failed false r why y e = (refl, e)

-- a value that passed a test
filtered : {X : Type 0} (p : X → Bool) (o : Option X) (x : X) → option_and_then (λ n. if p n then Some n else None) o ≡ Some x → p x ≡ true
filtered p None x e = cc
filtered p (Some n) x e = go (p n) refl e
  where
    go : (b : Bool) → p n ≡ b → (if b then Some n else None) ≡ Some x → p x ≡ true
    go true t same = let one : n ≡ x = cc in subst (λ w. p w ≡ true) one t
    go false t same = cc

-- ---- arrays

-- each item with its number was read of some value
abbrev IsReadOf : {T : Type 0} → (ℕ → Data → Result T Refusal) → ℕ → ℕ → List T → Type 0
IsReadOf {T} read i count xs =
    (length xs ≡ count) × ((k : ℕ) (x : T) → k < length xs → (d : Data) × (read (i + k) d ≡ Ok (slice_index_or xs k x)))

first_and_rest : {T : Type 0} (read : ℕ → Data → Result T Refusal) (i : ℕ) (d : Data) (count : ℕ) (first : T) (rest : List T)
    → read i d ≡ Ok first → IsReadOf read (i + 1) count rest → IsReadOf read i (suc count) (first ∷ rest)
first_and_rest {T} read i d count first rest here more = (ap suc more.0, at_place)
  where
    at_place : (k : ℕ) (x : T) → k < length (first ∷ rest) → (d : Data) × (read (i + k) d ≡ Ok (slice_index_or (first ∷ rest) k x))
    at_place zero x lt =
        let same : i + 0 ≡ i = omega arith in
        (d, ap (λ j. read j d) same ∙ here)
    at_place (suc k) x lt =
        let got = more.1 k x (omega arith) in
        let same : i + suc k ≡ i + 1 + k = omega arith in
        (got.0, ap (λ j. read j got.0) same ∙ got.1)

each_read : {T : Type 0} (read : ℕ → Data → Result T Refusal) (i : ℕ) (ds : Items) (xs : List T) → all_from read i ds ≡ Ok xs
    → IsReadOf read i (count_of ds) xs
each_read {T} read i no_items xs e =
    let none : [] ≡ xs = cc in
    subst (IsReadOf read i 0) none (refl, λ k x lt. absurd (omega arith))
each_read {T} read i (item d ds) xs e =
    let first = ok_parts (read i d) (λ x. and_then (all_from read (i + 1) ds) (λ rest. Ok (x ∷ rest))) xs e in
    let rest = ok_parts (all_from read (i + 1) ds) (λ rest. Ok (first.0 ∷ rest)) xs first.2 in
    let list : first.0 ∷ rest.0 ≡ xs = cc in
    subst (IsReadOf read i (suc (count_of ds))) list
    (first_and_rest read i d (count_of ds) first.0 rest.0 first.1 (each_read read (i + 1) ds rest.0 rest.1))

-- an array that isn't longer than it may be
counted_read : {T : Type 0} (read : ℕ → Data → Result T Refusal) (most : ℕ) (what : What) (ds : Items) (xs : List T)
    → counted most what ds (all_from read 0 ds) ≡ Ok xs
    → (length xs ≤ most) × IsReadOf read 0 (count_of ds) xs
counted_read read most what ds xs e =
    let passed = test_passed (nat_le (count_of ds) most) (all_from read 0 ds) _ xs e in
    let each = each_read read 0 ds xs passed.1 in
    let few = le_of (count_of ds) most passed.0 in
    (omega (arith, each.0), each)

-- ---- the members

sizes_given : (a b : Option ℕ) (size : ℕ × ℕ) → sizes_of a b ≡ Ok size → (a ≡ Some size.0) × (b ≡ Some size.1)
sizes_given (Some width) (Some height) size e =
    let same : (width, height) ≡ size = cc in
    (ap (λ s. Some s.0) same, ap (λ s. Some s.1) same)
sizes_given (Some width) None size e = cc
sizes_given None height size e = cc

small : (d : Option Data) (n : ℕ) → whole_up_to most_size d ≡ Some n → n ≤ most_size
small d n e = le_of n most_size (filtered (λ (n : ℕ). nat_le n most_size) (option_and_then whole_of d) n e)

sizes : (d : Option Data) (size : ℕ × ℕ) → viewport_in d ≡ Ok size → (size.0 ≤ most_size) × (size.1 ≤ most_size)
sizes None size e =
    let P : ℕ × ℕ → Type 0 = λ s. (s.0 ≤ most_size) × (s.1 ≤ most_size) in
    let same : (1280, 720) ≡ size = cc in
    subst P same (omega arith, omega arith)
sizes (Some d) size e =
    let given = sizes_given _ _ size e in
    (small (get (codes "width") d) size.0 given.0, small (get (codes "height") d) size.1 given.1)

parent_kept : (i : ℕ) (d : Option Data) (p : Option ℕ) → parent_in i d ≡ Ok p → IsParentOf i p
parent_kept i d p e = go (i == 0) refl e
  where
    go : (b : Bool) → (i == 0) ≡ b → parent_in i d ≡ Ok p → IsParentOf i p
    go true zeroth e =
        let first : i ≡ 0 = grind (arith, nat_tests) in
        let inner = rw zeroth at e in
        let passed = test_passed (is_some (option_and_then as_null d)) (Ok None) _ p inner in
        let same : None ≡ p = cc in
        subst (IsParentOf i) same first
    go false later e =
        let inner = rw later at e in
        let whole = some_part (option_and_then whole_of d) _ _ p inner in
        let passed = test_passed (nat_lt whole.0 i) (Ok (Some whole.0)) _ p whole.2 in
        let same : Some whole.0 ≡ p = cc in
        subst (IsParentOf i) same (lt_of whole.0 i passed.0)

element_kept : (i : ℕ) (d : Data) (element : Elem) → element_in i d ≡ Ok element → IsParentOf i element.parent
element_kept i d element e =
    let object = test_passed (is_some (as_object d)) _ _ element e in
    let parent = ok_parts (parent_in i (get (codes "parent") d)) _ element object.1 in
    let style = ok_parts (text_in _ (get (codes "style") d)) _ element parent.2 in
    let parts : Elem = record { parent = parent.0; style = style.0 } in
    let one : parts ≡ element = ok_same parts element style.2 in
    subst (λ (x : Elem). IsParentOf i x.parent) one (parent_kept i _ parent.0 parent.1)

elements_kept : (d : Option Data) (elements : List Elem) → elements_in d ≡ Ok elements
    → (1 ≤ length elements) × (length elements ≤ most_elements) × IsTree elements
elements_kept d elements e =
    let array = some_part (option_and_then as_array d) elements_of _ elements e in
    let some = test_failed (count_of array.0 == 0) _ _ elements array.2 in
    let read = counted_read element_in most_elements _ array.0 elements some.1 in
    let one : 1 ≤ count_of array.0 = grind (arith, nat_tests, some.0) in (
      omega (arith, read.1.0),
      read.0,
      λ i x lt.
          let got = read.1.1 i x lt in
          let same : 0 + i ≡ i = omega arith in
          element_kept i got.0 _ (ap (λ j. element_in j got.0) (sym same) ∙ got.1),
    )

name_kept : (i : ℕ) (d : Data) (name : List ℕ) → name_in i d ≡ Ok name → is_name name ≡ true
name_kept i d name e =
    let some = some_part (name_of (text_of (Some d))) Ok _ name e in
    let same : some.0 ≡ name = cc in
    subst (λ (n : List ℕ). is_name n ≡ true) same (filtered is_name (text_of (Some d)) some.0 some.1)

show_kept : (d : Option Data) (show : Option (List (List ℕ))) → show_in d ≡ Ok show
    → IfSome show (λ names. length names ≤ most_names) × IfSome show (λ names. All (λ name. is_name name ≡ true) names)
show_kept None show e =
    let same : None ≡ show = cc in
    subst (λ (o : Option (List (List ℕ))). IfSome o (λ names. length names ≤ most_names) × IfSome o (λ names. All (λ name. is_name name ≡ true) names)) same (tt, tt)
show_kept (Some d) show e =
    let names = ok_parts (option_map_or names_of (as_array d) _) _ show e in
    let array = some_part (as_array d) names_of _ names.0 names.1 in
    let read = counted_read name_in most_names _ array.0 names.0 array.2 in
    let same : Some names.0 ≡ show = cc in
    subst (λ (o : Option (List (List ℕ))). IfSome o (λ names. length names ≤ most_names) × IfSome o (λ names. All (λ name. is_name name ≡ true) names)) same
    (read.0, λ k x lt. let got = read.1.1 k x lt in name_kept (0 + k) got.0 _ got.1)

commands_kept : (d : Option Data) (commands : List Command) → commands_in d ≡ Ok commands → length commands ≤ most_commands
commands_kept None commands e =
    let same : [] ≡ commands = ok_same [] commands e in
    subst (λ (xs : List Command). length xs ≤ most_commands) same (omega arith)
commands_kept (Some d) commands e =
    let array = some_part (as_array d) commands_of _ commands e in
    (counted_read command_in most_commands _ array.0 commands array.2).0

-- ---- the whole

members_kept : (d : Data) (shape : Shape) → members_in d ≡ Ok shape → IsSound shape
members_kept d shape e =
    let size = ok_parts (viewport_in (get (codes "viewport") d)) _ shape e in
    let sheet = ok_parts (text_in (codes "sheet") (get (codes "sheet") d)) _ shape size.2 in
    let elements = ok_parts (elements_in (get (codes "elements") d)) _ shape sheet.2 in
    let show = ok_parts (show_in (get (codes "show") d)) _ shape elements.2 in
    let commands = ok_parts (commands_in (get (codes "commands") d)) _ shape show.2 in
    let parts : Shape = record {
      width = size.0.0;
      height = size.0.1;
      sheet = sheet.0;
      elements = elements.0;
      show = show.0;
      commands = commands.0;
    } in
    let bounds = sizes (get (codes "viewport") d) size.0 size.1 in
    let tree = elements_kept (get (codes "elements") d) elements.0 elements.1 in
    let names = show_kept (get (codes "show") d) show.0 show.1 in
    let sound : IsSound parts = record {
      width = bounds.0;
      height = bounds.1;
      some_elements = tree.0;
      few_elements = tree.1;
      tree = tree.2;
      few_names = names.0;
      names = names.1;
      few_commands = commands_kept (get (codes "commands") d) commands.0 commands.1;
    } in
    subst IsSound (ok_same parts shape commands.2) sound

sound : (bytes : List ℕ) (shape : Shape) → document_of bytes ≡ Ok shape → IsSound shape
sound bytes shape e =
    let value = some_part (json_of bytes) document_in _ shape e in
    let object = test_passed (is_some (as_object value.0)) (members_in value.0) _ shape value.2 in
    members_kept value.0 shape object.1

pub answer_sound : (bytes : List ℕ) (answer : Result Document DocErr) → Answers shape_of (document_of bytes) answer
    → IfOk answer (λ d. IsSound (shape_of d))
answer_sound bytes (Ok d) exact = sound bytes (shape_of d) exact
answer_sound bytes (Err e) exact = tt
