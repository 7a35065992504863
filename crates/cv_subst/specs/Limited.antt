-- What is seen of a list with a limit.
use Rattle.std.specs.Prelude.{ℕ, List}
use Rattle.cv_spec_text.specs.declared.token.Token.{Token}

pub record Limited : Type 0 where
  pub tokens : List Token
  pub limit : ℕ

abbrev pub limited : List Token → ℕ → Limited
limited tokens limit = record { tokens = tokens; limit = limit }
