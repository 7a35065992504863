-- A stretch of a list: what stands from one place up to another.
use Rattle.std.specs.Prelude.{ℕ, ◌-◌, List, take, drop}

abbrev pub stretch : {X : Type 0} → List X → ℕ → ℕ → List X
stretch items start end = take (end - start) (drop start items)
