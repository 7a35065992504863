-- One step of the walk over the elements that are computed anew.
use Rattle.std.specs.Prelude.{ℕ, ◌≡◌, ◌+◌, ◌<◌, ◌≤◌, All, List, length, Option, Some, Ok, Err, IfSome, Result, ⊤, slice_set}
use Rattle.std.specs.List.{slice_get}
use Rattle.cv_valuation.specs.declared.computed.Computed.{Computed}
use Rattle.cv_valuation.specs.declared.key.Key.{Key}
use Rattle.cv_valuation.specs.Valuations.{Values}
use Rattle.cv_props.specs.Winners.{Declarations}
use Rattle.cv_spec_valuation.specs.declared.place.Place.{Place}
use Rattle.cv_spec_valuation.specs.Computed.{IsComputed, IsOutOfRange, StandUnder}
use Rattle.cv_tree.specs.Contents.{AreFew}
use Rattle.cv_tree.specs.Tree.{AllStand, parent_in, place_in, values_in}
use Rattle.cv_tree.specs.declared.tree.Stop.{Stop}
use Rattle.cv_tree.specs.declared.tree.Stop.TheVariants as stop
use Rattle.cv_update.specs.declared.renewing.Renewing.{Renewing}
use Rattle.cv_update.specs.Renewed.{declared_after, with_fresh}

-- what is computed of all elements, so far as some are computed anew
abbrev pub now_of : Renewing → List Computed
now_of s = with_fresh s.renewal.now.all.now s.fresh

abbrev pub values_now : Renewing → List Values
values_now s = values_in (now_of s)

abbrev pub place_for : Renewing → Option ℕ → Place
place_for s parent = place_in s.renewal.now.width s.renewal.now.height (values_now s) parent

-- The element has declarations, and all that is computed anew so far is of elements before it.
pub record IsReady (s : Renewing) (index : ℕ) (parent : Option ℕ) : Type 0 where
  pub least : 1 ≤ s.renewal.now.limit
  pub most : s.renewal.now.limit ≤ 32768
  pub declared : index < length s.renewal.now.maps.now
  pub few : All AreFew s.renewal.now.maps.now
  pub few_declared : AreFew s.renewal.now.declared.now
  pub behind : s.fresh.start + length s.fresh.all.items ≤ index
  pub stand : AllStand s.renewal.now.registry.now (now_of s)
  pub earlier : IfSome parent (λ above. above < length s.renewal.now.all.now)

-- what is computed of the next element, by its declarations and its parent's values
pub record IsNextOf (s : Renewing) (index : ℕ) (parent : Option ℕ) (computed : Computed) : Type 0 where
  pub decls : Declarations
  pub declares : slice_get (declared_after s.renewal.now) index ≡ Some decls
  pub next : IsComputed s.renewal.now.registry.now decls (parent_in (values_now s) parent) (place_for s parent) s.renewal.now.limit computed
  pub stand : StandUnder s.renewal.now.registry.now computed.values

-- the property is out of range on the next element
pub record IsNextOut (s : Renewing) (index : ℕ) (parent : Option ℕ) (property : Key) : Type 0 where
  pub decls : Declarations
  pub declares : slice_get (declared_after s.renewal.now) index ≡ Some decls
  pub out : IsOutOfRange s.renewal.now.registry.now decls (parent_in (values_now s) parent) (place_for s parent) s.renewal.now.limit property

-- what is computed of one more element is kept, and the rest stays
pub record IsKept (old : Renewing) (index : ℕ) (computed : Computed) (new : Renewing) : Type 0 where
  pub renewal : new.renewal.now ≡ old.renewal.now
  pub start : new.fresh.start ≡ old.fresh.start
  pub until : new.fresh.start + length new.fresh.all.items ≡ index + 1
  pub now : with_fresh old.renewal.now.all.now new.fresh ≡ slice_set (now_of old) index computed

-- one more element is computed
pub record IsOneMore (old : Renewing) (index : ℕ) (parent : Option ℕ) (new : Renewing) : Type 0 where
  pub computed : Computed
  pub next : IsNextOf old index parent computed
  pub kept : IsKept old index computed new

-- what a step does
abbrev pub Stepped : Renewing → ℕ → Option ℕ → Result ⊤ Stop → Renewing → Type 0
Stepped old index parent (Ok done) new = IsOneMore old index parent new
Stepped old index parent (Err stop.Memory) new = ⊤
Stepped old index parent (Err (stop.Range element property)) new = (element ≡ index) × IsNextOut old index parent property
