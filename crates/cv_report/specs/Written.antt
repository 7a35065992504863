-- What a sink took of a text.
use Rattle.std.specs.Prelude.{ℕ, List, Option, Result, OnOk, OnErr}
use Rattle.std.specs.Io.KnownBytes.{Appends}
use Rattle.cv_io.specs.Streams.{TookPrefix}
use Rattle.cv_io.specs.declared.sink.SinkErr.{SinkErr}

-- All of the text where nothing was refused, and else a front of it.
pub record TookText {T : Type 0} (before now : Option (List ℕ)) (text : List ℕ) (result : Result T SinkErr) : Type 0 where
  pub whole : OnOk result (Appends before now text)
  pub part : OnErr result (TookPrefix before now text)
