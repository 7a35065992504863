-- What changes in a tree: the properties whose outcomes are written otherwise than before, by element and then in the order of the keys
-- (this project's own).
use Rattle.std.specs.Prelude.{ℕ, ◌+◌, List, [], ◌∷◌, ◌++◌, bytes_eq, chars, drop, if◌then◌else◌}
use Rattle.std.specs.List.{flat_map}
use Rattle.cv_valuation.specs.declared.computed.Computed.{Computed}
use Rattle.cv_valuation.specs.declared.key.Key.{Key}
use Rattle.cv_valuation.specs.declared.outcome.Outcome.{Outcome}
use Rattle.cv_valuation.specs.Keys.{key_text}
use Rattle.cv_valuation.specs.Valuations.{outcome_at, outcome_text}
use Rattle.cv_watch.specs.declared.change.Change.{Change}
use Rattle.cv_update.specs.declared.fresh.Fresh.{Fresh}
use Rattle.cv_update.specs.Renewed.{with_fresh}

-- the change of a key on an element, if its outcome is written otherwise than before
abbrev pub change_of : ℕ → Key → Outcome → Outcome → List Change
change_of element key old new =
    if bytes_eq (outcome_text old) (outcome_text new) then []
    else record { element = element; name = chars (key_text key); old = chars (outcome_text old); new = chars (outcome_text new) } ∷ []

-- the changes on an element
abbrev pub changes_on : List Key → ℕ → Computed → Computed → List Change
changes_on keys element old new = flat_map (λ key. change_of element key (outcome_at old.values key) (outcome_at new.values key)) keys

-- the changes on the elements from this one on
abbrev pub changes_from : List Key → ℕ → List Computed → List Computed → List Change
changes_from keys element [] news = []
changes_from keys element (old ∷ olds) [] = []
changes_from keys element (old ∷ olds) (new ∷ news) = changes_on keys element old new ++ changes_from keys (element + 1) olds news

-- the changes of these keys from what was computed of a tree to what is computed of it
abbrev pub changes : List Key → List Computed → List Computed → List Change
changes keys old new = changes_from keys 0 old new

-- those of the elements from this one on, where some are computed anew
abbrev pub left_from : List Key → List Computed → Fresh → ℕ → List Change
left_from keys all fresh n = changes_from keys n (drop n all) (drop n (with_fresh all fresh))
