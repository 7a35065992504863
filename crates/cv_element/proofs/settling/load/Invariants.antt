use Rattle.std.proofs.Common.{◌≡◌, ℕ, ◌<◌, ◌⊎◌, List, [], get_or}
use Rattle.cv_subst.specs.Values.{value_in}
use Rattle.cv_element.specs.Settling.{value_at}
use Rattle.cv_element.specs.Settling.{IsLoaded}
use Rattle.cv_element.proofs.settling.load.Given as goal

abbrev pub invariant-loop-place : goal.invariant-loop-place
invariant-loop-place l = record {
  loaded : IsLoaded l.runs l.values;
  here : (i : ℕ) → i < l.place → value_in l.runs (get_or l.names i []) ≡ value_at l.values (get_or l.names i []);
  more : (name : List ℕ) → (value_in l.runs name ≡ value_in l.initial.runs name) ⊎ ((i : ℕ) × (i < l.place) × (get_or l.names i [] ≡ name));
}
