-- What is to be known of a simplified calculation and of the tree as which its text reads.
use Rattle.std.specs.Prelude.{true, ◌∷◌, List, [], ◌++◌}
use Rattle.std.proofs.Common.{◌≡◌}
use Rattle.cv_spec_text.specs.declared.token.Token.{Token}
use Rattle.cv_spec_text.specs.declared.token.Token.TheVariants as tokens
use Rattle.cv_calc.specs.declared.context.Context.{Context}
use Rattle.cv_calc.specs.declared.calc.Calc.{Calc}
use Rattle.cv_calc.specs.declared.calc.Calc.TheVariants as tree
use Rattle.cv_calc.specs.Linear.{shape}
use Rattle.cv_calc.specs.Value.{Meaning, value}
use Rattle.cv_calcread.specs.Figures.{evaluated}
use Rattle.cv_calcread.specs.Grammar.{ReadsValue, ReadsTerms}
use Rattle.cv_calcread.specs.Literals.{exact_number}
use Rattle.cv_calcread.specs.Reading.{one_or}
use Rattle.cv_simplify.specs.Counted.{counted, inside}
use Rattle.cv_simplify.specs.Text.{Written}
use Rattle.cv_simplify.specs.declared.place.Place.TheVariants.{Operand, Whole, Added, Argument}
use Rattle.cv_calc_roundtrip.proofs.Answered.{all_fine}
use Rattle.cv_calc_roundtrip.proofs.Heads.{head}
use Rattle.cv_calc_roundtrip.proofs.Numerals.{narrow}

-- a calculation, the tree that its text reads as, and what that simplifies to in some contexts; they are of one shape
pub record Facts (suits : Context → Type 0) (s read simple like : Calc) : Type 0 where
  pub written_shape : shape s ≡ shape like
  pub read_shape : shape read ≡ shape like
  pub simple_shape : shape simple ≡ shape like
  pub fine : all_fine (evaluated read).marks ≡ true
  pub counts : (y : Context) → suits y → counted y read ≡ record { simple = simple; in_range = true }
  pub within : inside simple ≡ true
  pub means : (m : Meaning) → value m simple ≡ value m s
  pub same : head simple ≡ head s

-- how a text reads where it stands first, and where it stands alone
pub record Opening (w : Written) (read : Calc) : Type 0 where
  pub operand : (rest : List Token) → ReadsValue exact_number (w.at_place Operand ++ rest) rest read
  pub operand_narrow : narrow (w.at_place Operand) ≡ true
  pub terms : List Calc
  pub whole : (rest : List Token) → ReadsTerms exact_number (w.at_place Whole ++ rest) rest terms
  pub whole_narrow : narrow (w.at_place Whole) ≡ true
  pub joined : one_or tree.Sum terms ≡ read
  pub argument : w.at_place Argument ≡ tokens.Comma ∷ tokens.White ∷ w.at_place Whole

-- how it reads behind other terms
pub record Adding (w : Written) (read : Calc) : Type 0 where
  pub added : {ts rest : List Token} {ds : List Calc} → ReadsTerms exact_number ts (w.at_place Added ++ rest) ds → ReadsTerms exact_number ts rest (ds ++ read ∷ [])
  pub added_narrow : narrow (w.at_place Added) ≡ true
