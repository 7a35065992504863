-- What is computed of the next element of a walk.
use Rattle.std.proofs.Common.{◌≡◌, ℕ, zero, suc, ◌+◌, ◌-◌, ◌≤◌, ◌++◌, ◌∷◌, [], List, length, refl, length-append, sym, ap, ◌∙◌, subst, arith}
use Rattle.std.specs.Prelude.{Option, Some, Result, Ok, Err, IfErr, IfOk, OnOk, ⊤}
use Rattle.std.specs.List.{slice_get}
use Rattle.cv_element.specs.declared.refusal.ElemErr.{ElemErr}
use Rattle.cv_element.specs.declared.refusal.ElemErr.TheVariants.{Range}
use Rattle.cv_valuation.specs.declared.computed.Computed.{Computed}
use Rattle.cv_valuation.specs.declared.key.Key.{Key}
use Rattle.cv_valuation.specs.Valuations.{Values}
use Rattle.cv_props.specs.Registered.{Registered}
use Rattle.cv_props.specs.Winners.{Declarations}
use Rattle.cv_spec_valuation.specs.declared.place.Place.{Place}
use Rattle.cv_spec_valuation.specs.Computed.{IsComputed, IsOutOfRange, StandUnder}
use Rattle.cv_tree.specs.Tree.{AllStand, parent_in, values_in}
use Rattle.cv_tree.specs.declared.tree.Stop.{Stop}
use Rattle.cv_tree.specs.declared.tree.Stop.TheVariants as stop
use Rattle.cv_update.specs.declared.renewing.Renewing.{Renewing}
use Rattle.cv_update.specs.Fresh.{nothing}
use Rattle.cv_update.specs.Renewed.{declared_after, put_from}
use Rattle.cv_update.specs.Walking.{IsKept, IsNextOf, IsNextOut, Stepped, place_for, values_now}
use Rattle.cv_update.proofs.Putting.{put_more_new}

pub next_of : (s : Renewing) (index : ℕ) (parent : Option ℕ) (decls : Declarations) (place : Place) (values : Option Values) (result : Result Computed ElemErr)
    → slice_get (declared_after s.renewal.now) index ≡ Some decls → values ≡ parent_in (values_now s) parent → place ≡ place_for s parent
    → IfOk result (IsComputed s.renewal.now.registry.now decls values place s.renewal.now.limit) → IfOk result (λ computed. StandUnder s.renewal.now.registry.now computed.values) → IfOk result (IsNextOf s index parent)
next_of s index parent decls place values (Err e) declares same at is stand = tt
next_of s index parent decls place values (Ok computed) declares same at is stand = record {
  decls = decls;
  declares = declares;
  next = subst (λ (p : Place). IsComputed s.renewal.now.registry.now decls (parent_in (values_now s) parent) p s.renewal.now.limit computed) at
      (subst (λ (v : Option Values). IsComputed s.renewal.now.registry.now decls v place s.renewal.now.limit computed) same is);
  stand = stand;
}

pub next_out : (s : Renewing) (index : ℕ) (parent : Option ℕ) (decls : Declarations) (place : Place) (values : Option Values) (result : Result Computed ElemErr)
    → slice_get (declared_after s.renewal.now) index ≡ Some decls → values ≡ parent_in (values_now s) parent → place ≡ place_for s parent
    → ((key : Key) → result ≡ Err (Range key) → IsOutOfRange s.renewal.now.registry.now decls values place s.renewal.now.limit key) → (key : Key) → result ≡ Err (Range key) → IsNextOut s index parent key
next_out s index parent decls place values result declares same at out key is = record {
  decls = decls;
  declares = declares;
  out = subst (λ (p : Place). IsOutOfRange s.renewal.now.registry.now decls (parent_in (values_now s) parent) p s.renewal.now.limit key) at
      (subst (λ (v : Option Values). IsOutOfRange s.renewal.now.registry.now decls v place s.renewal.now.limit key) same (out key is));
}

pub stepped_is : (s t : Renewing) (index : ℕ) (parent : Option ℕ) (computed : Computed) (result : Result ⊤ Stop) → IsNextOf s index parent computed → OnOk result (IsKept s index computed t) → IfErr result (λ e. e ≡ stop.Memory) → Stepped s index parent result t
stepped_is s t index parent computed (Ok done) next kept memory = record { computed = computed; next = next; kept = kept }
stepped_is s t index parent computed (Err e) next kept memory = subst (λ (x : Stop). Stepped s index parent (Err x) t) (sym memory) tt

length_nothing : (n : ℕ) → length (nothing n) ≡ n
length_nothing zero = refl
length_nothing (suc n) = ap suc (length_nothing n)

-- what is computed of the element is kept
pub kept_new : (s t : Renewing) (index : ℕ) (computed : Computed) → s.fresh.start + length s.fresh.all.items ≤ index → t.renewal.now ≡ s.renewal.now → t.fresh.start ≡ s.fresh.start
    → t.fresh.all.items ≡ s.fresh.all.items ++ nothing (index - s.fresh.start - length s.fresh.all.items) ++ Some computed ∷ [] → IsKept s index computed t
kept_new s t index computed behind renewal start all = record {
  renewal = renewal;
  start = start;
  until = omega (arith, start, behind, ap length all, length-append (s.fresh.all.items ++ nothing gap) (Some computed ∷ []), length-append s.fresh.all.items (nothing gap), length_nothing gap);
  now =
      ap (λ n. put_from s.renewal.now.all.now n t.fresh.all.items) start ∙ ap (put_from s.renewal.now.all.now s.fresh.start) all
      ∙ put_more_new s.renewal.now.all.now s.fresh.start s.fresh.all.items gap index computed (omega (arith, behind));
}
  where
    gap : ℕ
    gap = index - s.fresh.start - length s.fresh.all.items

pub stand_at : (registered : Registered) (all : List Computed) (i : ℕ) (values : Values) → AllStand registered all → slice_get (values_in all) i ≡ Some values → StandUnder registered values
stand_at registered [] i values stand at = cc
stand_at registered (c ∷ cs) zero values stand at =
    let one : c.values ≡ values = let both : Some c.values ≡ Some values = at in cc in
    subst (StandUnder registered) one (stand 0 c (omega arith))
stand_at registered (c ∷ cs) (suc i) values stand at = stand_at registered cs i values (λ k d lt. stand (suc k) d (omega (arith, lt))) at
