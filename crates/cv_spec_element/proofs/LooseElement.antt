-- An element whose properties are all loose meets the premises.
use Rattle.std.proofs.Common.{◌≡◌, true, false, Bool, List, Option, Some, None, ◌↔◌, inl, inr, refl, subst}
use Rattle.cv_spec_element.specs.Keywords.{Keyword}
use Rattle.cv_spec_element.specs.Words.{keyword_of}
use Rattle.cv_spec_element.specs.Element.{Outcome, Declarations}
use Rattle.cv_spec_element.specs.Dependencies.{Refers, Edge, DependsOnItself, Reads}
use Rattle.cv_spec_element.specs.Premises.{IsKept, IsLawful}
use Rattle.cv_spec_element.specs.Loose.{loose_outcome, loose_parent, loose_element, IsLooselyLawful}

module _ {K T : Type 0} (is_same : K → K → Bool) (font_size : K) (declarations : Declarations K T) (is_white : T → Bool) (keyword : T → Option Keyword) (parent : Option (K → Option (List T))) where
  outcome_kept : (p : K) (value : Option (List T)) → ((list : List T) → value ≡ Some list → keyword_of (loose_element is_same font_size declarations is_white keyword parent).words list ≡ None) → IsKept (loose_element is_same font_size declarations is_white keyword parent) p (loose_outcome value)
  outcome_kept p None plain = refl
  outcome_kept p (Some list) plain = (refl, plain list refl)

  parent_kept : IsLooselyLawful is_same font_size declarations is_white keyword parent → (p : K) (value : Outcome T ⊥) → (given : Option (K → Option (List T))) → parent ≡ given → loose_parent given p ≡ Some value → IsKept (loose_element is_same font_size declarations is_white keyword parent) p value
  parent_kept laws p value None is some = absurd (cc)
  parent_kept laws p value (Some values) is some =
      let same : loose_outcome (values p) ≡ value = cc in
      subst (λ o. IsKept (loose_element is_same font_size declarations is_white keyword parent) p o) same (outcome_kept p (values p) (λ list list_is. laws.parent_kept values p list is list_is))

  pub loose_lawful : IsLooselyLawful is_same font_size declarations is_white keyword parent → IsLawful (loose_element is_same font_size declarations is_white keyword parent)
  loose_lawful laws = record {
    named = record { same = laws.same; listed = laws.listed; refers_custom = λ p q refers. refl };
    inherited = record { initial_kept = λ p. refl; parent_kept = λ p value is. parent_kept laws p value parent refl is };
    matching = record {
      plain_value = λ p m list value firm custom is. absurd (let clash : true ≡ false = firm in cc);
      reads_alike = λ p m n list firm custom none. refl;
      reads_plain = λ p m n list firm custom plain. refl;
    };
  }

  pub loose_edges : (p q : K) → Edge (loose_element is_same font_size declarations is_white keyword parent) p q ↔ Refers (loose_element is_same font_size declarations is_white keyword parent) p q
  loose_edges p q = (to, λ refers. inl refers)
    where
      to : Edge (loose_element is_same font_size declarations is_white keyword parent) p q → Refers (loose_element is_same font_size declarations is_white keyword parent) p q
      to (inl refers) = refers
      to (inr size) = absurd (let clash : true ≡ false = size.1.is_typed in cc)

  pub loose_reads : (p q : K) → Reads (loose_element is_same font_size declarations is_white keyword parent) p q ↔ ((¬ DependsOnItself (loose_element is_same font_size declarations is_white keyword parent) p) × Refers (loose_element is_same font_size declarations is_white keyword parent) p q)
  loose_reads p q = (to, λ both. inl (both.0, inl both.1))
    where
      to : Reads (loose_element is_same font_size declarations is_white keyword parent) p q → (¬ DependsOnItself (loose_element is_same font_size declarations is_white keyword parent) p) × Refers (loose_element is_same font_size declarations is_white keyword parent) p q
      to (inl (loopless, edge)) = (loopless, (loose_edges p q).0 edge)
      to (inr size) = absurd (let clash : true ≡ false = size.1.ordinary in cc)
