use Rattle.cv_calcread.proofs.DivisorPlaces as places
use Rattle.cv_calcread.proofs.laws.divisors_have_places.Goals as goal

pub returns : goal.returns
returns c = places.divisors_have_places
