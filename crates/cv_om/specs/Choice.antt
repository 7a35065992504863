-- Which of two numbers is chosen.
use Rattle.cv_spec_ratio.specs.Ratio.{Ratio}
use Rattle.cv_spec_ratio.specs.Order.{lesser, greater}
use Rattle.cv_om.specs.declared.choices.Choice.{Choice}
use Rattle.cv_om.specs.declared.choices.Choice.TheVariants.{Least, Greatest}

abbrev pub choice_of : Choice → Ratio → Ratio → Ratio
choice_of Least = lesser
choice_of Greatest = greater
