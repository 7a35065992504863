-- A calculation that is read has a place for each of its divisors.
use Rattle.std.specs.Prelude.{ℕ, List, length, Some}
use Rattle.std.proofs.Common.{◌≡◌, ◌≤◌, ◌∙◌, ap, arith}
use Rattle.std.proofs.lemmas.List.{length-map}
use Rattle.cv_spec_ratio.specs.Ratio.{Ratio}
use Rattle.cv_spec_text.specs.declared.token.Token.{Token}
use Rattle.cv_calc.specs.declared.calc.Calc.{Calc}
use Rattle.cv_calcread.specs.Answer.{divisor_places}
use Rattle.cv_calcread.specs.Divisors.{value_divisors}
use Rattle.cv_calcread.specs.Figures.{evaluated}
use Rattle.cv_calcread.specs.Grammar.{ReadsAs}
use Rattle.cv_calcread.specs.Reading.{read}
use Rattle.cv_calcread.proofs.DivisorPlaces.{divisors_have_places}
use Rattle.cv_calcread.proofs.Whole.{grammar_is_read}

pub read_count : (number : List ℕ → Ratio) (tokens : List Token) (c : Calc) → read number tokens ≡ Some c → length (evaluated c).marks ≤ length (divisor_places 0 tokens)
read_count number tokens c e =
    let r : ReadsAs number tokens c = grammar_is_read.only number tokens c e in
    let ds = value_divisors number r.1.1 in
    omega (arith, ap length (divisors_have_places.marks number _ _ c r.1.1) ∙ length-map ds _, ap length (divisors_have_places.places number tokens r.1.0 c r.1.1) ∙ length-map ds _)
