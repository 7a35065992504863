use Rattle.cv_component.proofs.TopLevels.{stops_after, stops_there}
use Rattle.cv_component.proofs.Closers.{closers, closed_by}
use Rattle.cv_component.proofs.Depths.{deep, depth_is}
use Rattle.cv_component.proofs.laws.top_levels_are_balanced.Goals as goal

pub returns : goal.returns
returns c = record { stops_after = stops_after; stops_there = stops_there; closers = closers; closed_by = closed_by; deep = deep; depth_is = depth_is }
