-- Each cause of an invalid property is reported.
use Rattle.std.proofs.Common.{◌≡◌, List, ◌↔◌, refl, sym, ◌∙◌, ap, subst}
use Rattle.std.specs.Prelude.{Contains, Result, Err}
use Rattle.cv_spec_text.specs.declared.token.Token.{Token}
use Rattle.cv_value.specs.declared.typed.Typed.{Typed}
use Rattle.cv_spec_element.specs.Element.{Outcome}
use Rattle.cv_spec_element.specs.Valuation.{Cause, IsInvalid, IsValuation, HasOneValuation}
use Rattle.cv_valuation.specs.declared.computed.Cause.{Cause as Reported}
use Rattle.cv_valuation.specs.declared.computed.Cause.TheVariants as reported
use Rattle.cv_valuation.specs.declared.key.Key.{Key}
use Rattle.cv_spec_valuation.specs.Computed.{cause_of, Faults, IsReported}
use Rattle.cv_element.specs.declared.refusal.ElemErr.{ElemErr}
use Rattle.cv_element.specs.declared.refusal.ElemErr.TheVariants.{Range}
use Rattle.cv_element.specs.Values.{AnElement}

pub cause_of-injective : (a b : Reported) → cause_of a ≡ cause_of b → a ≡ b
cause_of-injective reported.Cycle reported.Cycle same = refl
cause_of-injective reported.Cycle (reported.Missing n) same = cc
cause_of-injective reported.Cycle (reported.Limit k) same = cc
cause_of-injective reported.Cycle reported.Mismatch same = cc
cause_of-injective (reported.Missing n) reported.Cycle same = cc
cause_of-injective (reported.Missing n) (reported.Missing m) same = let e : n ≡ m = cc in ap reported.Missing e
cause_of-injective (reported.Missing n) (reported.Limit k) same = cc
cause_of-injective (reported.Missing n) reported.Mismatch same = cc
cause_of-injective (reported.Limit k) reported.Cycle same = cc
cause_of-injective (reported.Limit k) (reported.Missing n) same = cc
cause_of-injective (reported.Limit k) (reported.Limit l) same = let e : k ≡ l = cc in ap reported.Limit e
cause_of-injective (reported.Limit k) reported.Mismatch same = cc
cause_of-injective reported.Mismatch reported.Cycle same = cc
cause_of-injective reported.Mismatch (reported.Missing n) same = cc
cause_of-injective reported.Mismatch (reported.Limit k) same = cc
cause_of-injective reported.Mismatch reported.Mismatch same = refl

module _ (e : AnElement) (values : Key → Outcome Token Typed) (faults : Faults) where
  pub faults_by_reports : ((key : Key) (cause : Cause Key) → IsReported faults key cause ↔ IsInvalid e values key cause) → (key : Key) (cause : Reported) → Contains faults (key, cause) ↔ IsInvalid e values key (cause_of cause)
  faults_by_reports told key cause = (
    (λ has. (told key (cause_of cause)).0 (cause, refl, has)),
    (λ invalid.
        let report = (told key (cause_of cause)).1 invalid in
        subst (λ r. Contains faults (key, r)) (cause_of-injective report.0 cause report.1) report.2),
  )

-- a list that has each reported cause leaves none out
pub all_told : (e : AnElement) (values : Key → Outcome Token Typed) (before faults : Faults) → ((key : Key) (cause : Cause Key) → IsReported before key cause ↔ IsInvalid e values key cause) → ((key : Key) (cause : Reported) → Contains faults (key, cause) ↔ IsInvalid e values key (cause_of cause)) → (key : Key) (cause : Cause Key) → IsInvalid e values key cause → IsReported faults key cause
all_told e values before faults told are key cause invalid =
    let report = (told key cause).1 invalid in
    (report.0, report.1, (are key report.0).1 (subst (IsInvalid e values key) (sym report.1) invalid))

-- another valuation agrees
pub only : (e : AnElement) → HasOneValuation e → (values : Key → Outcome Token Typed) → IsValuation e values → (other : Key → Outcome Token Typed) → IsValuation e other → (key : Key) → other key ≡ values key
only e one values solves other other_solves key = one.only other other_solves key ∙ sym (one.only values solves key)

pub range_same : {R : Type 0} (a b : Key) → ◌≡◌ {A = Result R ElemErr} (Err (Range a)) (Err (Range b)) → a ≡ b
range_same a b same = cc
