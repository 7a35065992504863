-- All properties of the order are settled.
use Rattle.std.proofs.Common.{◌≡◌, ℕ, ◌+◌, ◌<◌, ◌↔◌, Bool, true, false, List, [], length, get_or, Option, Some, None, ◌⊎◌, inl, inr, refl, sym, ◌∙◌, ap, subst, arith}
use Rattle.std.specs.Prelude.{IfSome, slice_get}
use Rattle.std.specs.List.{IsDistinct}
use Rattle.std.specs.Map.{keys_of}
use Rattle.std.proofs.lemmas.List.{get_or_default}
use Rattle.cv_cycle.specs.Marks.{IsMarked}
use Rattle.cv_spec_element.specs.Pieces.{RefersTo}
use Rattle.cv_spec_element.specs.Dependencies.{DependsOnItself, Reads}
use Rattle.cv_subst.specs.Values.{value_in}
use Rattle.cv_var.specs.References.{pieces_of, PiecesAreRead}
use Rattle.cv_valuation.specs.declared.key.Key.{Key}
use Rattle.cv_valuation.specs.declared.key.Key.TheVariants.{Custom}
use Rattle.cv_valuation.specs.Keys.{same_key}
use Rattle.cv_valuation.specs.TableLaws.{PropertiesAreFound}
use Rattle.cv_valuation.specs.Valuations.{Values}
use Rattle.cv_valuation.specs.ValuationLaws.{OutcomesAreByKey}
use Rattle.cv_props.specs.declared.decls.Decl.{Decl}
use Rattle.cv_props.specs.Registered.{Registered}
use Rattle.cv_props.specs.Winners.{Declarations, declaration_of}
use Rattle.cv_spec_valuation.specs.declared.place.Place.{Place}
use Rattle.cv_spec_valuation.specs.Element.{keyed, pieces_in, the_element}
use Rattle.cv_element.specs.declared.settling.Settling.{Settling}
use Rattle.cv_element.specs.Judging.{verdict_after}
use Rattle.cv_element.specs.Settling.{key_at, key_in, value_for, Settles, IsPlan, IsSettling}
use Rattle.cv_element.specs.Values.{AnElement, start_at}
use Rattle.cv_element.proofs.Judged.{judged, value_read}
use Rattle.cv_element.proofs.Keying.{keyed-RefersTo}
use Rattle.cv_element.proofs.Placing.{distinct, entry_at, plan_below, declared_at}
use Rattle.cv_element.proofs.Stepping.{AreJudged, Steps, settling_next}

module _ (registered : Registered) (decls : Declarations) (parent : Option Values) (place : Place) (most : ℕ) (found : PropertiesAreFound) (once : IsDistinct same_key (keys_of decls)) (order : List ℕ) (flags : List Bool) (plan : IsPlan (the_element registered decls parent place most) decls order flags) (count : ℕ) (below : count < length decls) (number : ℕ) (number_is : number ≡ get_or order count number) (ordered : count < length order) where
  abbrev e : AnElement
  e = the_element registered decls parent place most

  pub number_same : number ≡ get_or order count 0
  number_same = number_is ∙ get_or_default order count number 0 ordered

  pub number_within : number < length decls
  number_within = omega (arith, plan_below e decls order flags plan count below, number_same)

  module _ (laws : AreJudged e) (pieces : PiecesAreRead) (by_key : OutcomesAreByKey) (s s' : Settling) (now : IsSettling e decls order (start_at registered parent) count s) (cyclic : Bool) (flag_is : cyclic ≡ get_or flags number cyclic) (within : number < length flags) where
    flag_same : cyclic ≡ get_or flags (get_or order count 0) false
    flag_same = flag_is ∙ get_or_default flags number cyclic false within ∙ ap (λ n. get_or flags n false) number_same

    flag : (cyclic ≡ true) ↔ DependsOnItself e (key_at decls (get_or order count 0))
    flag =
        let marked = plan.cyclic (get_or order count 0) (plan_below e decls order flags plan count below) in
        ((λ set. marked.0 (sym flag_same ∙ set)), (λ depends. flag_same ∙ marked.1 depends))

    by_entry : (k : Key) (d : Decl) → slice_get decls (get_or order count 0) ≡ Some (k, d) → Settles registered parent place k d.value cyclic most s s' → IsSettling e decls order (start_at registered parent) (count + 1) s'
    by_entry k d is settles =
        let key_is : key_at decls (get_or order count 0) ≡ k = ap key_in is in
        let declared : declaration_of decls k ≡ Some d = declared_at found decls once (get_or order count 0) k d is in
        let flag_k : (cyclic ≡ true) ↔ DependsOnItself e k = subst (λ x. (cyclic ≡ true) ↔ DependsOnItself e x) key_is flag in
        let step : Steps e k (verdict_after registered parent place s.values k settles.answer) s s' = record {
          judged = judged registered decls parent place most pieces k d settles.checked declared s.values cyclic flag_k settles.answer settles.is_answer;
          values = (value_for registered parent k (verdict_after registered parent place s.values k settles.answer), value_read registered decls parent place most k (verdict_after registered parent place s.values k settles.answer), settles.values);
          faults = settles.faults;
          range = settles.range;
        } in
        let more : (name : List ℕ) → (value_in s'.runs name ≡ value_in s.runs name) ⊎ Reads e k (Custom name) = λ name. elim (settles.more name) [
          | inl same ↦ inl same
          | inr refers ↦ inr (inl ((λ depends. let yes = flag_k.1 depends in let clash : true ≡ false = sym yes ∙ refers.0 in cc), inl (keyed (pieces_of d.value), ap pieces_in declared, keyed-RefersTo (pieces_of d.value) name refers.1)))
        ] in
        settling_next e laws decls (distinct found decls once) order flags plan by_key (start_at registered parent) count below s s' now (verdict_after registered parent place s.values k settles.answer) (subst (λ x. Steps e x (verdict_after registered parent place s.values k settles.answer) s s') (sym key_is) step) settles.loaded (λ name. elim (more name) [ inl same ↦ inl same | inr reads ↦ inr (subst (λ x. Reads e x (Custom name)) (sym key_is) reads) ])

    pub next : IfSome (slice_get decls number) (λ entry. Settles registered parent place entry.0 entry.1.value cyclic most s s') → IsSettling e decls order (start_at registered parent) (count + 1) s'
    next settles =
        let at = entry_at decls (get_or order count 0) (plan_below e decls order flags plan count below) in
        by_entry at.0 at.1 at.2 (subst (λ o. IfSome o (λ entry. Settles registered parent place entry.0 entry.1.value cyclic most s s')) (ap (slice_get decls) number_same ∙ at.2) settles)
