use Rattle.std.proofs.Common.{◌≡◌, ◌↔◌, ◌<◌, ℕ, length}
use Rattle.std.specs.Option.{option_copied}
use Rattle.cv_cycle.specs.Marks.{IsMarked}
use Rattle.cv_spec_valuation.specs.Element.{the_element}
use Rattle.cv_element.specs.Holding.{BeginsFont}
use Rattle.cv_element.proofs.held.beginnings.Given as goal

abbrev pub invariant-loop-place : goal.invariant-loop-place
invariant-loop-place l = record {
  count : length l.flags.items ≡ l.place;
  flags : (i : ℕ) → i < l.place → (most : ℕ) → IsMarked l.flags.items i ↔ BeginsFont (the_element l.registry l.decls (option_copied l.parent) l.at most) l.decls i;
}
