-- The document that the job `gen` computes, by its number of elements. It is this project's own: a registered length, a chain of custom
-- properties each of which refers to the one before it, and a binary tree of elements whose font sizes grow with their depth.
use Rattle.std.specs.Prelude.{ℕ, zero, suc, ◌+◌, ◌-◌, ◌/◌, ◌%◌, ◌==◌, List, [], ◌++◌, map, codes, decimal, Option, None, Some, if◌then◌else◌}
use Rattle.std.specs.List.{range_with_len}
use Rattle.cv_doc.specs.declared.elements.Elem.{Elem}
use Rattle.cv_doc.specs.Reading.{Shape}

unfoldable pub sheet : List ℕ
sheet = codes "@property --base { syntax: \"<length>\"; inherits: true; initial-value: 4px }"

-- one px more than `--sK`, as the value of the property behind it
unfoldable pub link : ℕ → List ℕ
link k = codes "--s" ++ decimal (k + 1) ++ codes ": calc(var(--s" ++ decimal k ++ codes ") + 1px); "

-- the declarations of `--s0` up to `--sK`
unfoldable pub chain : ℕ → List ℕ
chain zero = codes "--s0: var(--base); "
chain (suc k) = chain k ++ link k

-- what the style of element i ends with
unfoldable pub style_end : ℕ → List ℕ
style_end i = codes "width: var(--s" ++ decimal (i % 41) ++ codes "); padding-left: 1em; font-size: calc(100% + 1px)"

-- only the first element declares the chain
abbrev pub style_of : ℕ → List ℕ
style_of i = if i == 0 then chain 40 ++ style_end 0 else style_end i

abbrev pub parent_of : ℕ → Option ℕ
parent_of i = if i == 0 then None else Some ((i - 1) / 2)

abbrev pub element_of : ℕ → Elem
element_of i = record { parent = parent_of i; style = style_of i }

abbrev pub gen_document : ℕ → Shape
gen_document size = record {
  width = 1000;
  height = 800;
  sheet = sheet;
  elements = map element_of (range_with_len 0 size);
  show = None;
  commands = [];
}
