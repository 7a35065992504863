use Rattle.std.proofs.Common.{◌≡◌, drop}
use Rattle.std.specs.List.{list_all}
use Rattle.cv_syntax.specs.declared.syntax.Component.{Component}
use Rattle.cv_syntax.specs.Told.{is_no_keyword}
use Rattle.cv_syntax.proofs.told.has_keyword.Given as goal

abbrev pub invariant-loop-component : goal.invariant-loop-component
invariant-loop-component l = list_all (λ (c : Component). is_no_keyword c.kind) (drop l.component-index l.components) ≡ list_all (λ (c : Component). is_no_keyword c.kind) l.components
