-- What the watchers of this crate write of the changes that they were told. Their form is this project's own.
use Rattle.std.specs.Prelude.{ℕ, List, [], ◌∷◌, ◌++◌, codes, decimal, encode_utf8_all, length}
use Rattle.std.specs.List.{flat_map}
use Rattle.cv_spec_text.specs.Characters.{line_feed, space}
use Rattle.cv_watch.specs.declared.change.Change.{Change}

-- the old and the new value: `= 1px -> = 2px`
unfoldable pub values_text : Change → List ℕ
values_text change = encode_utf8_all change.old ++ codes " -> " ++ encode_utf8_all change.new

-- the line of a change: `1 --b: = 1px -> = 2px`
abbrev pub change_line : Change → List ℕ
change_line change =
    decimal change.element ++ space ∷ encode_utf8_all change.name ++ codes ": " ++ values_text change ++ line_feed ∷ []

-- a line for each change
abbrev pub trail_text : List Change → List ℕ
trail_text changes = flat_map change_line changes

-- how many changes there were
abbrev pub tally_text : List Change → List ℕ
tally_text changes = codes "changes " ++ decimal (length changes) ++ line_feed ∷ []

-- how many changes were kept
abbrev pub refuser_text : List Change → List ℕ
refuser_text changes = codes "refuser " ++ decimal (length changes) ++ line_feed ∷ []
