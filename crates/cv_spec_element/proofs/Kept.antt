-- Values that agree at what a property reads give it the same causes.
use Rattle.std.proofs.Common.{◌≡◌, false, List, Some, Result, Ok, Err, ◌↔◌, inl, sym, ◌∙◌, ap}
use Rattle.cv_spec_element.specs.Pieces.{Pieces}
use Rattle.cv_spec_element.specs.Element.{Matched, no, out, Outcome, Element}
use Rattle.cv_spec_element.specs.Dependencies.{tokens_of, DependsOnItself, Reads}
use Rattle.cv_spec_element.specs.Valuation.{Cause, cycle, missing, limit, mismatch, matched, SubIs, IsSubstituted, IsMatched, IsInvalid, IsOutOfRange}
use Rattle.cv_spec_element.specs.Premises.{IsLawful}
use Rattle.cv_spec_element.proofs.Substitution.{sub-agree}
use Rattle.cv_spec_element.proofs.RightSide.{substituted}
use Rattle.cv_spec_element.proofs.Sound.{IsSound, reads_same}

module _ {K T V U M : Type 0} (e : Element K T V U M) (laws : IsLawful e) (v w : K → Outcome T V) (p : K) (same : (q : K) → Reads e p q → (v q ≡ w q) × IsSound e laws q (v q)) where
  sub_same : (pieces : Pieces K T) → e.declarations.pieces p ≡ Some pieces → ¬ DependsOnItself e p → substituted e v pieces ≡ substituted e w pieces
  sub_same pieces is loopless =
      sub-agree (λ q. tokens_of e (v q)) (λ q. tokens_of e (w q)) pieces (λ q refers. ap (tokens_of e) (same q (inl (loopless, inl (pieces, is, refers)))).0)

  sub_to : ¬ DependsOnItself e p → (outcome : Result (List T) K) → SubIs e v p outcome → SubIs e w p outcome
  sub_to loopless outcome sub_is = (sub_is.0, sub_is.1, sym (sub_same sub_is.0 sub_is.1 loopless) ∙ sub_is.2)

  sub_from : ¬ DependsOnItself e p → (outcome : Result (List T) K) → SubIs e w p outcome → SubIs e v p outcome
  sub_from loopless outcome sub_is = (sub_is.0, sub_is.1, sub_same sub_is.0 sub_is.1 loopless ∙ sub_is.2)

  substituted_to : (list : List T) → IsSubstituted e v p list → IsSubstituted e w p list
  substituted_to list ok = record { loopless = ok.loopless; sub_is = sub_to ok.loopless (Ok list) ok.sub_is; within = ok.within }

  substituted_from : (list : List T) → IsSubstituted e w p list → IsSubstituted e v p list
  substituted_from list ok = record { loopless = ok.loopless; sub_is = sub_from ok.loopless (Ok list) ok.sub_is; within = ok.within }

  matched_same : (list : List T) → IsSubstituted e v p list → e.properties.is_loose p ≡ false → matched e v p list ≡ matched e w p list
  matched_same list ok firm = reads_same e laws v w p same ok.sub_is.0 ok.sub_is.1 ok.loopless list ok.sub_is.2 firm

  match_to : (list : List T) (answer : Matched V) → IsMatched e v p list answer → IsMatched e w p list answer
  match_to list answer h = record {
    substituted = substituted_to list h.substituted;
    no_keyword = h.no_keyword;
    is_typed = h.is_typed;
    matched_is = sym (matched_same list h.substituted h.is_typed) ∙ h.matched_is;
  }

  match_from : (list : List T) (answer : Matched V) → IsMatched e w p list answer → IsMatched e v p list answer
  match_from list answer h = record {
    substituted = substituted_from list h.substituted;
    no_keyword = h.no_keyword;
    is_typed = h.is_typed;
    matched_is = matched_same list (substituted_from list h.substituted) h.is_typed ∙ h.matched_is;
  }

  invalid_to : (cause : Cause K) → IsInvalid e v p cause → IsInvalid e w p cause
  invalid_to cycle loops = loops
  invalid_to (missing n) h = (h.0, sub_to h.0 (Err n) h.1)
  invalid_to (limit count) h =
      (h.0, record { list = h.1.list; sub_is = sub_to h.0 (Ok h.1.list) h.1.sub_is; count_is = h.1.count_is; counted = h.1.counted; over = h.1.over })
  invalid_to mismatch h = (h.0, match_to h.0 no h.1)

  invalid_from : (cause : Cause K) → IsInvalid e w p cause → IsInvalid e v p cause
  invalid_from cycle loops = loops
  invalid_from (missing n) h = (h.0, sub_from h.0 (Err n) h.1)
  invalid_from (limit count) h =
      (h.0, record { list = h.1.list; sub_is = sub_from h.0 (Ok h.1.list) h.1.sub_is; count_is = h.1.count_is; counted = h.1.counted; over = h.1.over })
  invalid_from mismatch h = (h.0, match_from h.0 no h.1)

  pub invalid_kept : (cause : Cause K) → IsInvalid e w p cause ↔ IsInvalid e v p cause
  invalid_kept cause = (invalid_from cause, invalid_to cause)

  pub out_of_range_kept : IsOutOfRange e w p ↔ IsOutOfRange e v p
  out_of_range_kept = ((λ h. (h.0, match_from h.0 out h.1)), (λ h. (h.0, match_to h.0 out h.1)))
