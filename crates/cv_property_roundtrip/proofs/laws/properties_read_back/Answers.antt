use Rattle.cv_property_roundtrip.proofs.Properties as properties
use Rattle.cv_property_roundtrip.proofs.laws.properties_read_back.Goals as goal

pub returns : goal.returns
returns c = properties.properties_read_back (record {
  free = c.texts_are_free.ensures;
  numbers = c.sizes_are_numbers.ensures;
  items = c.items_read_back.ensures;
  read = c.numbers_are_read.ensures;
  kept = c.ranges_are_kept.ensures;
  sizes = c.sizes_read_back.ensures;
})
