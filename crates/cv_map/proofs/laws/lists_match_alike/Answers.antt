use Rattle.std.proofs.Common.{ap}
use Rattle.std.specs.Prelude.{◌||◌}
use Rattle.cv_var.specs.References.{has_var}
use Rattle.cv_value.specs.Matching.{matching}
use Rattle.cv_props.specs.Registration.{viewport}
use Rattle.cv_map.proofs.Found.{match_alike}
use Rattle.cv_map.proofs.laws.lists_match_alike.Goals as goal

pub returns : goal.returns
returns c = λ syntax x list.
    ap (λ b. has_var list || b) (match_alike (matching syntax (viewport 0 0) list) (matching syntax x list) (c.mismatch_is_alike.ensures.matching_is syntax (viewport 0 0) x list))
