-- The pieces of a list in which each `var()` is a reference hold no `var(` token.
use Rattle.std.proofs.Common.{◌≡◌, ℕ, suc, zero, ◌≤◌, List, [], ◌∷◌, length, drop, Option, Some, None, refl, arith}
use Rattle.std.specs.Prelude.{Bool, true, false, ◌&&◌, if◌then◌else◌, is_none}
use Rattle.cv_spec_text.specs.Keywords.{is_custom}
use Rattle.cv_spec_text.specs.declared.token.Token.{Token}
use Rattle.cv_spec_text.specs.declared.token.Token.TheVariants.{Ident, Function, At, Hash, Str, BadStr, Url, BadUrl, Delim, Number, Percentage, Dimension, White, Cdo, Cdc, Colon, Semicolon, Comma, Open, Close}
use Rattle.cv_component.specs.Balance.{BlocksAreBalanced}
use Rattle.cv_component.specs.Blocks.{matching}
use Rattle.cv_component.specs.TopLevel.{trim_front, trim_end}
use Rattle.cv_spec_element.specs.Pieces.{Pieces}
use Rattle.cv_var.specs.Checked.{IsChecked}
use Rattle.cv_var.specs.Values.{is_value}
use Rattle.cv_var.specs.References.{Reference, is_var, name_in, fallback_in, named_fallback_in, reference_in, inner_to, function_size, begins_var, reference_at, first_piece, pieces_within, pieces_of, HoldNoVar}
use Rattle.cv_var.proofs.Cases.{if_case}
use Rattle.cv_var.proofs.Unfolding.{FallbackWithin, reference_at-within, length-behind}
use Rattle.cv_var.proofs.GoodLists.{IsGood, split, good_drop, good_front}
use Rattle.cv_var.proofs.BlockFronts.{good_inner}
use Rattle.cv_var.proofs.WhiteEnds.{good_end}

-- each `var()` of the fallback is a reference
abbrev pub FallbackIsGood : Option Reference → Type 0
FallbackIsGood None = Unit {0}
FallbackIsGood (Some (name, None)) = Unit {0}
FallbackIsGood (Some (name, Some fallback)) = IsGood fallback

pub no_var : (var : Bool) (found : Option Reference) → (var && is_none found) ≡ false → found ≡ None → var ≡ false
no_var false found right none = refl
no_var true None right none = absurd cc
no_var true (Some r) right none = absurd cc

first_holds : (found : Option Reference) (t : Token) (pieces : List Token → Pieces (List ℕ) Token) (rest behind : List Token) → (found ≡ None → is_var t ≡ false) → FallbackIsGood found → FallbackWithin (length rest) found → IsGood rest → IsGood behind → length behind ≤ length rest → ((tokens : List Token) → length tokens ≤ length rest → IsGood tokens → HoldNoVar (pieces tokens)) → HoldNoVar (first_piece found t pieces rest behind)
first_holds None t pieces rest behind none fallback_good within good behind_good shorter hold = (none refl, hold rest (omega arith) good)
first_holds (Some (name, None)) t pieces rest behind none fallback_good within good behind_good shorter hold = hold behind shorter behind_good
first_holds (Some (name, Some fallback)) t pieces rest behind none fallback_good within good behind_good shorter hold = (hold fallback within fallback_good, hold behind shorter behind_good)

module _ (balanced : BlocksAreBalanced) where
  comma_good : (name : List ℕ) (rest : List Token) (value : Bool) → IsGood rest → FallbackIsGood (if value then Some (name, Some (trim_end (trim_front rest))) else None)
  comma_good name rest true good = good_end balanced (trim_front rest) (good_front rest good)
  comma_good name rest false good = tt

  fallback_good : (name : List ℕ) (tokens : List Token) → IsGood tokens → FallbackIsGood (fallback_in name tokens)
  fallback_good name [] good = tt
  fallback_good name (Ident text ∷ rest) good = tt
  fallback_good name (Function text ∷ rest) good = tt
  fallback_good name (At text ∷ rest) good = tt
  fallback_good name (Hash text id ∷ rest) good = tt
  fallback_good name (Str text ∷ rest) good = tt
  fallback_good name (BadStr ∷ rest) good = tt
  fallback_good name (Url text ∷ rest) good = tt
  fallback_good name (BadUrl ∷ rest) good = tt
  fallback_good name (Delim c ∷ rest) good = tt
  fallback_good name (Number text ∷ rest) good = tt
  fallback_good name (Percentage text ∷ rest) good = tt
  fallback_good name (Dimension number text ∷ rest) good = tt
  fallback_good name (White ∷ rest) good = tt
  fallback_good name (Cdo ∷ rest) good = tt
  fallback_good name (Cdc ∷ rest) good = tt
  fallback_good name (Colon ∷ rest) good = tt
  fallback_good name (Semicolon ∷ rest) good = tt
  fallback_good name (Comma ∷ rest) good = comma_good name rest (is_value rest) (split Comma rest good).1
  fallback_good name (Open bracket ∷ rest) good = tt
  fallback_good name (Close bracket ∷ rest) good = tt

  custom_good : (name : List ℕ) (rest : List Token) (custom : Bool) → IsGood rest → FallbackIsGood (named_fallback_in (if custom then Some (name, trim_front rest) else None))
  custom_good name rest true good = fallback_good name (trim_front rest) (good_front rest good)
  custom_good name rest false good = tt

  named_good : (tokens : List Token) → IsGood tokens → FallbackIsGood (named_fallback_in (name_in tokens))
  named_good [] good = tt
  named_good (Ident text ∷ rest) good = custom_good text rest (is_custom text) (split (Ident text) rest good).1
  named_good (Function text ∷ rest) good = tt
  named_good (At text ∷ rest) good = tt
  named_good (Hash text id ∷ rest) good = tt
  named_good (Str text ∷ rest) good = tt
  named_good (BadStr ∷ rest) good = tt
  named_good (Url text ∷ rest) good = tt
  named_good (BadUrl ∷ rest) good = tt
  named_good (Delim c ∷ rest) good = tt
  named_good (Number text ∷ rest) good = tt
  named_good (Percentage text ∷ rest) good = tt
  named_good (Dimension number text ∷ rest) good = tt
  named_good (White ∷ rest) good = tt
  named_good (Cdo ∷ rest) good = tt
  named_good (Cdc ∷ rest) good = tt
  named_good (Colon ∷ rest) good = tt
  named_good (Semicolon ∷ rest) good = tt
  named_good (Comma ∷ rest) good = tt
  named_good (Open bracket ∷ rest) good = tt
  named_good (Close bracket ∷ rest) good = tt

  reference_good : (inner : List Token) → IsGood inner → FallbackIsGood (reference_in inner)
  unfolding reference_in
  reference_good inner good = named_good (trim_front inner) (good_front inner good)

  pub reference_at-good : (t : Token) (rest : List Token) → IsGood rest → FallbackIsGood (reference_at (t ∷ rest))
  reference_at-good t rest good =
      if_case FallbackIsGood (begins_var (t ∷ rest)) (λ _. reference_good (inner_to (t ∷ rest) (matching (t ∷ rest) 0)) (good_inner balanced t rest good)) (λ _. tt)

  hold_within : (most : ℕ) (tokens : List Token) → length tokens ≤ most → IsGood tokens → HoldNoVar (pieces_within most tokens)
  hold_within zero tokens fits good = tt
  hold_within (suc most) [] fits good = tt
  hold_within (suc most) (t ∷ rest) fits good =
      let both = split t rest good in
      first_holds (reference_at (t ∷ rest)) t (pieces_within most) rest (drop (function_size (t ∷ rest)) (t ∷ rest)) (no_var (is_var t) (reference_at (t ∷ rest)) both.0) (reference_at-good t rest both.1) (reference_at-within t rest) both.1 (good_drop (function_size (t ∷ rest)) (t ∷ rest) good) (length-behind t rest)
      (λ more short more_good. hold_within most more (omega arith) more_good)

  pub checked_hold : (tokens : List Token) → IsChecked tokens → HoldNoVar (pieces_of tokens)
  unfolding pieces_of
  checked_hold tokens checked = hold_within (length tokens) tokens (omega arith) checked.references
