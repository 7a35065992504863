-- The laws that the round trip of properties rests on.
use Rattle.cv_calc_laws.specs.Fonts.{TextsAreFree}
use Rattle.cv_value_laws.specs.Sizes.{SizesAreNumbers}
use Rattle.cv_value_roundtrip.specs.Numbers.{NumbersAreRead, RangesAreKept}
use Rattle.cv_value_roundtrip.specs.ReadsBack.{ItemsReadBack, SizesReadBack}

pub record Laws : Type 0 where
  pub free : TextsAreFree
  pub numbers : SizesAreNumbers
  pub items : ItemsReadBack
  pub read : NumbersAreRead
  pub kept : RangesAreKept
  pub sizes : SizesReadBack
