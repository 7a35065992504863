use Rattle.std.proofs.Common.{◌∙◌, sym}
use Rattle.cv_spec_valuation.specs.Element.{the_element}
use Rattle.cv_tree.proofs.Trees.{ElementsAreSingle, least, one_result}
use Rattle.cv_tree.proofs.laws.trees_have_one_result.Goals as goal

pub returns-clause-computed : goal.returns-clause-computed
returns-clause-computed c =
    let single : ElementsAreSingle = (record {
      one_valuation = λ registered decls parent place most entries stand one other is is_other key.
          let e = the_element registered decls parent place most in
          let only = (c.has_one_valuation.ensures.exactly_one e (c.elements_are_lawful.ensures registered decls parent place most entries stand)).only in
          only one is key ∙ sym (only other is_other key);
    }) in
    λ tree limit is_tree all is stand. one_result single c.outcomes_are_by_key.ensures tree limit is_tree all is stand

pub returns-clause-least : goal.returns-clause-least
returns-clause-least c =
    let single : ElementsAreSingle = (record {
      one_valuation = λ registered decls parent place most entries stand one other is is_other key.
          let e = the_element registered decls parent place most in
          let only = (c.has_one_valuation.ensures.exactly_one e (c.elements_are_lawful.ensures registered decls parent place most entries stand)).only in
          only one is key ∙ sym (only other is_other key);
    }) in
    λ tree limit is_tree one other property more out out_other. least single c.outcomes_are_by_key.ensures tree limit is_tree one other property more out out_other
