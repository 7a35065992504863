-- The valuation of a tree is single (this project's own).
use Rattle.std.specs.Prelude.{ℕ, ◌≡◌, List, length}
use Rattle.std.specs.List.{AllZip}
use Rattle.cv_valuation.specs.declared.computed.Computed.{Computed}
use Rattle.cv_valuation.specs.Valuations.{Values}
use Rattle.cv_spec_valuation.specs.Single.{TellsTheSame}
use Rattle.cv_tree.specs.Tree.{Tree, AllStand, AreComputed, AreInRange, AreValuations, values_in}

-- The elements have values that solve the equations, and no others: whatever else is said of other values. And the invalid
-- properties, with their causes, are single too.
pub record HaveOneResult (tree : Tree) (most : ℕ) : Type 0 where
  pub all : List Computed
  pub are_computed : AreComputed tree most (length tree.parents) all
  pub stand : AllStand tree.registered all
  pub only_values : (others : List Values) → AreValuations tree most others → others ≡ values_in all
  pub only : (others : List Computed) → AreComputed tree most (length tree.parents) others → AllZip TellsTheSame all others
  pub in_range : AreInRange tree most
