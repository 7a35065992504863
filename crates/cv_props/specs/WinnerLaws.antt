-- What the winning declarations are, key by key.
use Rattle.std.specs.Prelude.{◌≡◌}
use Rattle.std.specs.Map.{keys_of}
use Rattle.cv_valuation.specs.declared.key.Key.{Key}
use Rattle.cv_props.specs.Winners.{Declarations, declaration_of, winner, keys_kept, winners}

-- Each kept key stands once, at the place at which it was first kept, with its winning declaration.
pub record WinnersAreByKey : Type 0 where
  pub order : (kept : Declarations) → keys_of (winners kept) ≡ keys_kept kept
  pub declaration : (kept : Declarations) (key : Key) → declaration_of (winners kept) key ≡ winner kept key
