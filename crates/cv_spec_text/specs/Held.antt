-- The bytes of a text.
use Rattle.std.specs.Prelude.{ℕ, List, string_bytes}
use Rattle.cv_spec_text.specs.declared.name.Held.{Held}
use Rattle.cv_spec_text.specs.declared.name.Held.TheVariants.{Short, Long}

abbrev pub bytes_in : Held → List ℕ
bytes_in (Short text) = text.bytes
bytes_in (Long text) = string_bytes text.value
