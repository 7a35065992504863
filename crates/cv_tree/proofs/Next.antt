-- What is computed of the next element of a walk.
use Rattle.std.proofs.Common.{◌≡◌, ℕ, List, sym, subst}
use Rattle.std.specs.Prelude.{Option, Some, Result, Ok, Err, IfErr, IfOk, OnOk, ⊤}
use Rattle.std.specs.List.{slice_get}
use Rattle.cv_element.specs.declared.refusal.ElemErr.{ElemErr}
use Rattle.cv_element.specs.declared.refusal.ElemErr.TheVariants.{Range}
use Rattle.cv_valuation.specs.declared.computed.Computed.{Computed}
use Rattle.cv_valuation.specs.declared.key.Key.{Key}
use Rattle.cv_valuation.specs.Valuations.{Values}
use Rattle.cv_props.specs.Winners.{Declarations}
use Rattle.cv_spec_valuation.specs.declared.place.Place.{Place}
use Rattle.cv_spec_valuation.specs.Computed.{IsComputed, IsOutOfRange, StandUnder}
use Rattle.cv_tree.specs.Tree.{parent_in}
use Rattle.cv_tree.specs.Walking.{IsKept, IsNextOf, IsNextOut, Stepped, place_for, values_before}
use Rattle.cv_tree.specs.declared.tree.Computing.{Computing}
use Rattle.cv_tree.specs.declared.tree.Stop.{Stop}
use Rattle.cv_tree.specs.declared.tree.Stop.TheVariants as stop

pub next_of : (s : Computing) (index : ℕ) (parent : Option ℕ) (decls : Declarations) (place : Place) (values : Option Values) (result : Result Computed ElemErr)
    → slice_get s.declarations.now index ≡ Some decls → values ≡ parent_in (values_before s) parent → place ≡ place_for s parent
    → IfOk result (IsComputed s.registry.now decls values place s.limit) → IfOk result (λ computed. StandUnder s.registry.now computed.values) → IfOk result (IsNextOf s index parent)
next_of s index parent decls place values (Err e) declares same at is stand = tt
next_of s index parent decls place values (Ok computed) declares same at is stand = record {
  decls = decls;
  declares = declares;
  next = subst (λ (p : Place). IsComputed s.registry.now decls (parent_in (values_before s) parent) p s.limit computed) at
      (subst (λ (v : Option Values). IsComputed s.registry.now decls v place s.limit computed) same is);
  stand = stand;
}

pub next_out : (s : Computing) (index : ℕ) (parent : Option ℕ) (decls : Declarations) (place : Place) (values : Option Values) (result : Result Computed ElemErr)
    → slice_get s.declarations.now index ≡ Some decls → values ≡ parent_in (values_before s) parent → place ≡ place_for s parent
    → ((key : Key) → result ≡ Err (Range key) → IsOutOfRange s.registry.now decls values place s.limit key) → (key : Key) → result ≡ Err (Range key) → IsNextOut s index parent key
next_out s index parent decls place values result declares same at out key is = record {
  decls = decls;
  declares = declares;
  out = subst (λ (p : Place). IsOutOfRange s.registry.now decls (parent_in (values_before s) parent) p s.limit key) at
      (subst (λ (v : Option Values). IsOutOfRange s.registry.now decls v place s.limit key) same (out key is));
}

pub stepped : (s t : Computing) (index : ℕ) (parent : Option ℕ) (computed : Computed) (result : Result ⊤ Stop) → IsNextOf s index parent computed → OnOk result (IsKept s computed t) → IfErr result (λ e. e ≡ stop.Memory) → Stepped s index parent result t
stepped s t index parent computed (Ok done) next kept memory = record { computed = computed; next = next; kept = kept }
stepped s t index parent computed (Err e) next kept memory = subst (λ (x : Stop). Stepped s index parent (Err x) t) (sym memory) tt
