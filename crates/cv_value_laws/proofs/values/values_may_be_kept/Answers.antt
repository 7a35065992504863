use Rattle.cv_value_laws.proofs.values.values_may_be_kept.Goals as goal

pub returns : goal.returns
returns c = record {
  matched = λ s plain x ts v spelt fits. record {
    canonical = c.items_are_free.ensures.are_canonical s x ts v fits;
    no_keyword = c.items_are_free.ensures.are_no_keyword s plain x ts v fits;
    spelt = c.texts_are_spelt.ensures.are_spelt s x ts v spelt fits;
  };
  no_font_unit = λ root v kept. c.items_are_free.ensures.no_font_unit root v kept.canonical;
  no_keyword = λ v kept. c.items_are_free.ensures.no_keyword v kept.no_keyword;
  spelt = λ v kept. c.texts_are_spelt.ensures.of_items v kept.spelt;
  read = λ v kept. c.texts_are_spelt.ensures.items_read v kept.spelt;
}
