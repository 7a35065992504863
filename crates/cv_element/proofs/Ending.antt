-- The values before the first property is settled and after the last.
use Rattle.std.proofs.Common.{◌≡◌, ℕ, ◌<◌, ◌↔◌, Bool, true, false, List, [], length, get_or, Option, Some, None, is_some, refl, sym, ◌∙◌, ap, subst, arith}
use Rattle.std.specs.Prelude.{Contains, IsSome, slice_get}
use Rattle.std.specs.List.{IsDistinct}
use Rattle.std.specs.Map.{keys_of}
use Rattle.cv_spec_text.specs.declared.token.Token.{Token}
use Rattle.cv_value.specs.declared.typed.Typed.{Typed}
use Rattle.cv_spec_element.specs.Element.{Outcome}
use Rattle.cv_spec_element.specs.Dependencies.{Reads, undeclared_value}
use Rattle.cv_spec_element.specs.Valuation.{Cause, IsInvalid, IsOutOfRange, IsValuation, IsSettled, undeclared}
use Rattle.cv_spec_element.specs.Valuation as valuation
use Rattle.cv_subst.specs.Values.{value_in}
use Rattle.cv_valuation.specs.declared.key.Key.{Key}
use Rattle.cv_valuation.specs.Keys.{same_key}
use Rattle.cv_valuation.specs.TableLaws.{PropertiesAreFound}
use Rattle.cv_valuation.specs.Valuations.{Values, outcome_at}
use Rattle.cv_props.specs.declared.decls.Decl.{Decl}
use Rattle.cv_props.specs.Registered.{Registered}
use Rattle.cv_props.specs.Winners.{Declarations, declaration_of}
use Rattle.cv_spec_valuation.specs.declared.place.Place.{Place}
use Rattle.cv_spec_valuation.specs.Registered.{as_read}
use Rattle.cv_spec_valuation.specs.Element.{pieces_in, values_of, the_element}
use Rattle.cv_spec_valuation.specs.Computed.{IsReported}
use Rattle.cv_element.specs.declared.settling.Settling.{Settling}
use Rattle.cv_element.specs.Settling.{key_at, IsPlan, key_of, IsSettledKey, IsTold, IsSettling}
use Rattle.cv_element.specs.Values.{AnElement, start_at}
use Rattle.cv_element.proofs.Judged.{start_read}
use Rattle.cv_element.proofs.Placing.{entry_at, plan_below, declared_at, place_of}

pub some_declared : (o : Option Decl) → IsSome (pieces_in o) → IsSome o
some_declared None some = some
some_declared (Some d) some = refl

-- what is kept of causes and ranges
pub record AreCausesKept (e : AnElement) : Type 0 where
  pub causes : (values : Key → Outcome Token Typed) → IsValuation e values → (earlier : Key → Outcome Token Typed) (p : Key) → ((q : Key) → Reads e p q → earlier q ≡ values q) → (cause : Cause Key) → IsInvalid e earlier p cause ↔ IsInvalid e values p cause
  pub ranges : (values : Key → Outcome Token Typed) → IsValuation e values → (earlier : Key → Outcome Token Typed) (p : Key) → ((q : Key) → Reads e p q → earlier q ≡ values q) → IsOutOfRange e earlier p ↔ IsOutOfRange e values p

module _ (registered : Registered) (decls : Declarations) (parent : Option Values) (place : Place) (most : ℕ) (found : PropertiesAreFound) (once : IsDistinct same_key (keys_of decls)) (order : List ℕ) (flags : List Bool) (plan : IsPlan (the_element registered decls parent place most) decls order flags) where
  abbrev e : AnElement
  e = the_element registered decls parent place most

  abbrev key : ℕ → Key
  key = key_of decls order

  -- each declared key has a place in the order
  settled_key : (p : Key) (d : Decl) → declaration_of decls p ≡ Some d → (i : ℕ) × (i < length decls) × (key i ≡ p)
  settled_key p d is =
      let at = place_of found decls once p d is in
      let stands = (plan.stands at.0).0 at.1 in
      (stands.0, stands.2, ap (key_at decls) stands.3 ∙ at.2)

  key_declared : (i : ℕ) → i < length decls → (d : Decl) × (declaration_of decls (key i) ≡ Some d)
  key_declared i below =
      let at = entry_at decls (get_or order i 0) (plan_below e decls order flags plan i below) in
      (at.1, subst (λ k. declaration_of decls k ≡ Some at.1) (sym at.3) (declared_at found decls once (get_or order i 0) at.0 at.1 at.2))

  -- before the first property
  pub settling_first : (s : Settling) → ((p : Key) → outcome_at s.values p ≡ start_at registered parent p) → ((name : List ℕ) → value_in s.runs name ≡ None) → s.faults ≡ [] → s.range ≡ None → IsSettling e decls order (start_at registered parent) 0 s
  settling_first s values_are runs_are faults_are range_is = record {
    loaded = λ name list is. absurd (let clash : None ≡ Some list = sym (runs_are name) ∙ is in cc);
    closed = λ name list is opened. let clash : None ≡ Some list = sym (runs_are name) ∙ is in cc;
    untouched = λ p unsettled. values_are p;
    told = λ i lower. absurd (omega arith);
    faults = λ p cause has. absurd (let below = has.1 in omega (arith, below, ap (λ f. length f) faults_are));
    range = λ p is. absurd (let clash : None ≡ Some p = sym range_is ∙ is in cc);
    once = λ i j k one other at_i at_j. absurd (let clash : None ≡ Some (k, one) = ap (λ f. slice_get f i) (sym faults_are) ∙ at_i in cc);
  }

  module _ (s : Settling) (now : IsSettling e decls order (start_at registered parent) (length decls) s) where
    abbrev values : Key → Outcome Token Typed
    values = values_of s.values

    told_at : (p : Key) (d : Decl) → declaration_of decls p ≡ Some d → IsTold e s.values s.faults s.range p
    told_at p d is =
        let settled = settled_key p d is in
        subst (λ x. IsTold e s.values s.faults s.range x) settled.2 (now.told settled.0 settled.1)

    told_settled : (p : Key) → IsSettledKey decls order (length decls) p → IsTold e s.values s.faults s.range p
    told_settled p settled = subst (λ x. IsTold e s.values s.faults s.range x) settled.2 (now.told settled.0 settled.1)

    pub settled_is : (p : Key) → IsSettled e values p
    settled_is p = by (declaration_of decls p) refl
      where
        by : (o : Option Decl) → declaration_of decls p ≡ o → IsSettled e values p
        by (Some d) is =
            let told = told_at p d is in
            record { earlier = told.earlier; kept = told.kept; given = told.given }
        by None is =
            let unsettled : ¬ IsSettledKey decls order (length decls) p = λ settled.
            let declared = key_declared settled.0 settled.1 in
            let clash : None ≡ Some declared.0 = sym is ∙ ap (declaration_of decls) (sym settled.2) ∙ declared.1 in
            cc in
            record {
              earlier = values;
              kept = λ q reads. refl;
              given = undeclared (ap pieces_in is) (ap as_read (now.untouched p unsettled) ∙ start_read registered decls parent place most p);
            }

    module _ (solves : IsValuation e values) (keeps : AreCausesKept e) (declared : (p : Key) (cause : Cause Key) → IsInvalid e values p cause → IsSome (e.declarations.pieces p)) where
      some_is : (o : Option Decl) → IsSome o → (d : Decl) × (o ≡ Some d)
      some_is (Some d) some = (d, refl)
      some_is None some = let clash : false ≡ true = some in absurd cc

      pub faults_are : (p : Key) (cause : Cause Key) → IsReported s.faults p cause ↔ IsInvalid e values p cause
      faults_are p cause = (forth, back)
        where
          forth : IsReported s.faults p cause → IsInvalid e values p cause
          forth reported =
              let told = told_settled p (now.faults p reported.0 reported.2) in
              (keeps.causes values solves told.earlier p told.kept cause).0 ((told.told cause).0 reported)

          back : IsInvalid e values p cause → IsReported s.faults p cause
          back invalid =
              let d = some_is (declaration_of decls p) (some_declared (declaration_of decls p) (declared p cause invalid)) in
              let told = told_at p d.0 d.1 in
              (told.told cause).1 ((keeps.causes values solves told.earlier p told.kept cause).1 invalid)

      pub ranged : (p : Key) → s.range ≡ Some p → IsOutOfRange e values p
      ranged p is =
          let told = told_settled p (now.range p is) in
          (keeps.ranges values solves told.earlier p told.kept).0 (told.named is)

      range_declared : (p : Key) → IsOutOfRange e values p → (d : Decl) × (declaration_of decls p ≡ Some d)
      range_declared p out = by (declaration_of decls p) refl
        where
          by : (o : Option Decl) → declaration_of decls p ≡ o → (d : Decl) × (declaration_of decls p ≡ Some d)
          by (Some d) is = (d, is)
          by None is = absurd (let clash : None ≡ Some out.1.substituted.sub_is.0 = sym (ap pieces_in is) ∙ out.1.substituted.sub_is.1 in cc)

      pub in_range : s.range ≡ None → (p : Key) → ¬ IsOutOfRange e values p
      in_range none p out =
          let d = range_declared p out in
          let told = told_at p d.0 d.1 in
          told.in_range none ((keeps.ranges values solves told.earlier p told.kept).1 out)
