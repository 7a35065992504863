-- Watchers as plain data, and what a change makes of those that are held.
use Rattle.std.specs.Prelude.{ℕ, Bool, List, [], ◌∷◌, ◌++◌, ◌+◌, codes, decimal, Option, None, Some, map, option_map, slice_get, if◌then◌else◌}
use Rattle.cv_spec_text.specs.Characters.{line_feed}
use Rattle.cv_watch.specs.declared.change.Change.{Change}

-- what a watcher has seen, which names it wants, and its text of a list of changes
pub record Watch : Type 0 where
  pub seen : List Change
  pub wanted : List ℕ → Bool
  pub text : List Change → List ℕ

-- the text of what was seen
abbrev pub report_of : Watch → List ℕ
report_of watch = watch.text watch.seen

-- a change is seen where its name is wanted
abbrev pub told_change : Change → Watch → Watch
told_change change watch = record {
  seen = watch.seen ++ (if watch.wanted change.name then change ∷ [] else []);
  wanted = watch.wanted;
  text = watch.text;
}

-- the watchers that are held, by number; one that was dropped leaves its place empty
abbrev pub Places : Type 0
Places = List (Option Watch)

-- each held watcher is told, by number
abbrev pub told_places : Change → Places → Places
told_places change places = map (option_map (told_change change)) places

-- the changes are told in order
abbrev pub told_all : List Change → Places → Places
told_all [] places = places
told_all (change ∷ changes) places = told_all changes (told_places change places)

-- the watcher at a place, if there is such a place and a watcher is held there
abbrev pub held_in : Option (Option Watch) → Option Watch
held_in None = None
held_in (Some place) = place

-- the watcher with this number, if it is held
abbrev pub held : Places → ℕ → Option Watch
held places number = held_in (slice_get places number)

-- ---- what is written of them

-- the lines of the watcher with this number
abbrev pub watcher_lines : ℕ → List ℕ → List ℕ
watcher_lines number text = codes "watcher " ++ decimal number ++ line_feed ∷ text

-- the lines of the watcher at a place, if one is held there
abbrev pub lines_of : ℕ → Option Watch → List ℕ
lines_of number None = []
lines_of number (Some watch) = watcher_lines number (report_of watch)

-- the lines of the watchers that are held from this number on
abbrev pub watchers_text : ℕ → Places → List ℕ
watchers_text number [] = []
watchers_text number (place ∷ places) = lines_of number place ++ watchers_text (number + 1) places

-- ---- watchers by what their members say

-- the places of some watchers, each as what its members say
abbrev pub places_of : {W : Type 0} → (W → Watch) → List (Option W) → Places
places_of watch places = map (option_map watch) places

-- the places of watchers that are all held
abbrev pub all_held : {W : Type 0} → (W → Watch) → List W → Places
all_held watch watchers = map (λ w. Some (watch w)) watchers
