use Rattle.cv_property_laws.proofs.FontSizes.{font_sizes_are_numbers}
use Rattle.cv_property_laws.proofs.sizes.font_sizes_are_numbers.Goals as goal

pub returns : goal.returns
returns c = font_sizes_are_numbers c.sizes_are_numbers.ensures
