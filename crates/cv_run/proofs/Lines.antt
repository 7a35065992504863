-- Where the same is told of elements, their lines are the same.
use Rattle.std.proofs.Common.{◌≡◌, ℕ, zero, suc, ◌+◌, Bool, true, false, List, [], ◌∷◌, ◌++◌, Option, Some, None, ◌↔◌, ◌⊎◌, inl, inr, refl, sym, ◌∙◌, ap, subst, arith}
use Rattle.std.specs.Prelude.{Contains}
use Rattle.std.specs.List.{AllZip, enumerate_from, flat_map, slice_get}
use Rattle.std.proofs.Math.Path.{fun_ext}
use Rattle.std.proofs.lemmas.Option.{slice_get-get_or}
use Rattle.cv_valuation.specs.declared.computed.Cause.{Cause}
use Rattle.cv_valuation.specs.declared.computed.Computed.{Computed}
use Rattle.cv_valuation.specs.declared.key.Key.{Key}
use Rattle.cv_valuation.specs.Keys.{same_key}
use Rattle.cv_valuation.specs.TableLaws.{PropertiesAreFound}
use Rattle.cv_report.specs.Report.{cause_of, element_text, elements_text, value_lines}
use Rattle.cv_spec_valuation.specs.Computed.{Faults, IsOnce}
use Rattle.cv_spec_valuation.specs.Single.{TellsTheSame}
use Rattle.cv_run.proofs.Keys.{key_same_itself, keys_same}

held-cons : {X : Type 0} (x : X) (xs : List X) (y : X) → Contains (x ∷ xs) y → (x ≡ y) ⊎ Contains xs y
held-cons x xs y (zero, below, is) = inl is
held-cons x xs y (suc i, below, is) = inr (i, omega (arith, below), is)

held-here : {X : Type 0} (x : X) (xs : List X) → Contains (x ∷ xs) x
held-here x xs = (0, omega arith, refl)

held-later : {X : Type 0} (x : X) (xs : List X) (y : X) → Contains xs y → Contains (x ∷ xs) y
held-later x xs y (i, below, is) = (suc i, omega (arith, below), is)

-- the cause of a key is that of one of its faults, or there is none
abbrev IsCause : Key → Faults → Option Cause → Type 0
IsCause key faults None = (cause : Cause) → ¬ Contains faults (key, cause)
IsCause key faults (Some cause) = Contains faults (key, cause)

cause_is : PropertiesAreFound → (key : Key) (faults : Faults) → IsCause key faults (cause_of key faults)
cause_is found key [] = λ cause held. omega (arith, held.1)
cause_is found key ((other, why) ∷ faults) = by (cause_is found key faults) (same_key key other) refl
  where
    later : (o : Option Cause) → same_key key other ≡ false → IsCause key faults o → IsCause key ((other, why) ∷ faults) o
    later None not_so none = λ cause held. elim (held-cons (other, why) faults (key, cause) held) [
      | inl here ↦
          let same : key ≡ other = sym (ap (λ (x : Key × Cause). x.0) here) in
          let clash : true ≡ false = sym (subst (λ k. same_key key k ≡ true) same (key_same_itself key)) ∙ not_so in
          cc
      | inr there ↦ none cause there
    ]
    later (Some cause) not_so held = held-later (other, why) faults (key, cause) held

    by : IsCause key faults (cause_of key faults) → (b : Bool) → same_key key other ≡ b → IsCause key ((other, why) ∷ faults) (cause_of key ((other, why) ∷ faults))
    by rest true is =
        rw is (subst (λ k. Contains ((other, why) ∷ faults) (k, why)) (sym (keys_same found key other is)) (held-here (other, why) faults))
    by rest false is = rw is (later (cause_of key faults) is rest)

-- each key has one fault at most
one_fault : (key : Key) (faults : Faults) (one other : Cause) → IsOnce faults → Contains faults (key, one) → Contains faults (key, other) → one ≡ other
one_fault key faults one other once first second =
    let at_first : slice_get faults first.0 ≡ Some (key, one) = slice_get-get_or faults first.0 (key, one) first.1 ∙ ap Some first.2 in
    let at_second : slice_get faults second.0 ≡ Some (key, other) = slice_get-get_or faults second.0 (key, other) second.1 ∙ ap Some second.2 in
    let place : first.0 ≡ second.0 = once first.0 second.0 key one other at_first at_second in
    let both : Some (key, one) ≡ Some (key, other) = sym at_first ∙ ap (slice_get faults) place ∙ at_second in
    let same : (key, one) ≡ (key, other) = cc in
    ap (λ (x : Key × Cause). x.1) same

same_cause : (key : Key) (faults : Faults) (o p : Option Cause) → IsOnce faults → IsCause key faults o → IsCause key faults p → p ≡ o
same_cause key faults None None once first second = refl
same_cause key faults None (Some other) once first second = absurd (first other second)
same_cause key faults (Some one) None once first second = absurd (second one first)
same_cause key faults (Some one) (Some other) once first second = ap Some (one_fault key faults other one once second first)

moved : (key : Key) (faults others : Faults) (o : Option Cause) → ((cause : Cause) → Contains others (key, cause) ↔ Contains faults (key, cause)) → IsCause key others o → IsCause key faults o
moved key faults others None alike none = λ cause held. none cause ((alike cause).1 held)
moved key faults others (Some cause) alike held = (alike cause).0 held

causes_same : PropertiesAreFound → (one other : Computed) → TellsTheSame one other → IsOnce one.faults → (key : Key) → cause_of key other.faults ≡ cause_of key one.faults
causes_same found one other same once key =
    same_cause key one.faults (cause_of key one.faults) (cause_of key other.faults) once (cause_is found key one.faults)
    (moved key one.faults other.faults (cause_of key other.faults) (same.faults key) (cause_is found key other.faults))

lines_same : PropertiesAreFound → (one other : Computed) → TellsTheSame one other → IsOnce one.faults → (element : ℕ) (key : Key) → value_lines element key other ≡ value_lines element key one
lines_same found one other same once element key =
    rw (same.values, causes_same found one other same once key) refl

-- the same text is written of the two
abbrev pub IsWrittenAlike : List Key → Computed → Computed → Type 0
IsWrittenAlike shown one other = (element : ℕ) → element_text shown (element, other) ≡ element_text shown (element, one)

pub written_alike : PropertiesAreFound → (shown : List Key) (one other : Computed) → TellsTheSame one other → IsOnce one.faults → IsWrittenAlike shown one other
written_alike found shown one other same once element = ap (λ line. flat_map line shown) (fun_ext (lines_same found one other same once element))

texts_from : (shown : List Key) (element : ℕ) (all others : List Computed) → AllZip (IsWrittenAlike shown) all others
    → flat_map (element_text shown) (enumerate_from element others) ≡ flat_map (element_text shown) (enumerate_from element all)
texts_from shown element [] [] alike = refl
texts_from shown element [] (other ∷ others) alike = absurd alike
texts_from shown element (one ∷ all) [] alike = absurd alike
texts_from shown element (one ∷ all) (other ∷ others) alike =
    ap (λ text. text ++ flat_map (element_text shown) (enumerate_from (element + 1) others)) (alike.0 element)
    ∙ ap (λ text. element_text shown (element, one) ++ text) (texts_from shown (element + 1) all others alike.1)

pub texts_same : (shown : List Key) (all others : List Computed) → AllZip (IsWrittenAlike shown) all others → elements_text shown others ≡ elements_text shown all
texts_same shown all others alike = texts_from shown 0 all others alike
