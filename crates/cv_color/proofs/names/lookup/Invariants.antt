use Rattle.std.proofs.Common.{◌≡◌, drop, map}
use Rattle.cv_color.specs.Names.{lookup, AreWords}
use Rattle.cv_color.proofs.names.lookup.Given as goal

abbrev pub invariant-loop-entry : goal.invariant-loop-entry
invariant-loop-entry l = record {
  same : lookup (map (λ e. (e.0.now, e.1)) (drop l.entry-index l.entries)) l.name ≡ lookup (map (λ e. (e.0.now, e.1)) l.entries) l.name;
  words : AreWords (map (λ e. (e.0.now, e.1)) (drop l.entry-index l.entries));
}
