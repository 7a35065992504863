use Rattle.std.proofs.Common.{refl}
use Rattle.cv_spec_element.specs.Dependencies.{undeclared_value}
use Rattle.cv_spec_element.specs.Valuation.{undeclared}
use Rattle.cv_spec_element.specs.Premises.{IsLawful}
use Rattle.cv_spec_valuation.specs.Element.{the_element}
use Rattle.cv_element_laws.proofs.Single.{has_one_result}
use Rattle.cv_element_laws.proofs.Standing.{valuation_stands}
use Rattle.cv_element_laws.proofs.laws.elements_have_one_result.Goals as goal

pub returns-clause-one_result : goal.returns-clause-one_result
returns-clause-one_result c = λ registered decls parent place most entries stands.
    let e = the_element registered decls parent place most in
    let lawful : IsLawful e = c.elements_are_lawful.ensures registered decls parent place most entries stands in
    let one = c.has_one_valuation.ensures.exactly_one e lawful in
    has_one_result registered decls parent place most c.outcomes_are_by_key.ensures one c.properties_are_found.ensures (record {
      solves = one.solves;
      undeclared = λ p none. c.has_one_valuation.ensures.one_value e lawful one.valuation p (undeclared_value e p) (one.valuation p) (undeclared none refl) (one.solves p);
      declared = c.has_one_cause.ensures.declared e one.valuation;
      one_or_none = c.has_one_cause.ensures.one_or_none e one.valuation one.solves;
      listed = lawful.named.listed;
    })

pub returns-clause-stands : goal.returns-clause-stands
returns-clause-stands c = λ registered decls parent place most entries declared stands computed is.
    let lawful : IsLawful (the_element registered decls parent place most) = c.elements_are_lawful.ensures registered decls parent place most entries stands in
    valuation_stands (record {
      tables = c.properties_may_be_kept.ensures;
      taken = c.values_are_taken.ensures;
      keeping = c.values_may_be_kept.ensures;
      no_var = c.checked_lists_hold_no_var.ensures;
    }) registered entries decls declared parent stands place most lawful.named.listed computed.values is.solves
