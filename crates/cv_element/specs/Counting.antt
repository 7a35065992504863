-- How many edges the declarations of an element make.
use Rattle.std.specs.Prelude.{ℕ, ◌+◌, Bool, List, length, is_some, count_by, Option, Some, None, slice_get, sum_by, if◌then◌else◌}
use Rattle.cv_property.specs.declared.property.Property.TheVariants.{FontSize}
use Rattle.cv_var.specs.Names.{names_of, firsts}
use Rattle.cv_var.specs.References.{pieces_of}
use Rattle.cv_valuation.specs.declared.key.Key.{Key}
use Rattle.cv_valuation.specs.declared.key.Key.TheVariants.{Custom, Table}
use Rattle.cv_props.specs.declared.decls.Decl.{Decl}
use Rattle.cv_props.specs.Winners.{Declarations, declaration_of}

-- how many of the names are declared
abbrev pub declared_count : Declarations → List (List ℕ) → ℕ
declared_count decls names = count_by (λ name. is_some (declaration_of decls (Custom name))) names

-- how many different declared names the declaration refers to
abbrev pub references_of : Declarations → Decl → ℕ
references_of decls declaration = declared_count decls (firsts (names_of (pieces_of declaration.value)))

-- none where nothing stands
abbrev pub references_in : Declarations → Option (Key × Decl) → ℕ
references_in decls None = 0
references_in decls (Some entry) = references_of decls entry.1

abbrev pub references_at : Declarations → ℕ → ℕ
references_at decls place = references_in decls (slice_get decls place)

-- how many declared names the declarations refer to: each counts the different ones of its own
abbrev pub reference_count : Declarations → ℕ
reference_count decls = sum_by (λ entry. references_of decls entry.1) decls

-- at most one edge of each declaration leads to `font-size`, where that is declared
abbrev pub size_count : Declarations → ℕ
size_count decls = if is_some (declaration_of decls (Table FontSize)) then length decls else 0

-- how many edges there are at most
abbrev pub edge_most : Declarations → ℕ
edge_most decls = reference_count decls + size_count decls
