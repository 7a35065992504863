use Rattle.cv_element.proofs.Lawful.{lawful}
use Rattle.cv_element.proofs.laws.elements_are_lawful.Goals as goal

pub returns : goal.returns
returns c =
    λ registered decls parent place most entries stands. lawful (record {
      found = c.properties_are_found.ensures;
      tables = c.properties_may_be_kept.ensures;
      items = c.items_are_free.ensures;
      alike = c.matches_alike.ensures;
      ignore = c.matches_ignore_contexts.ensures;
      split = c.texts_are_split.ensures;
      fonts = c.font_units_are_told.ensures;
    }) registered entries decls parent stands place most
