use Rattle.std.specs.List.{flat_map}
use Rattle.std.proofs.Common.{◌≡◌, ◌++◌, take}
use Rattle.cv_spec_text.specs.Printing.{string_code_point}
use Rattle.cv_reify.proofs.quoted.push_all_in_string.Given as goal

abbrev pub invariant-loop-byte : goal.invariant-loop-byte
invariant-loop-byte l = l.text.items ≡ l.initial.text.items ++ flat_map string_code_point (take l.byte-index l.bytes)
