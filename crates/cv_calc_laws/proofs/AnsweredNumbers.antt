-- A linear calculation of the type of a unit that the reader answers simplifies to one number.
use Rattle.std.specs.Prelude.{true, Option, Some, None}
use Rattle.std.proofs.Common.{◌≡◌, refl}
use Rattle.cv_spec_ratio.specs.Ratio.{Ratio, mul, one_ratio}
use Rattle.cv_calc.specs.declared.unit.NumType.{NumType}
use Rattle.cv_calc.specs.declared.context.Basis.{Basis}
use Rattle.cv_calc.specs.declared.context.Basis.TheVariants.{Plain, Length, Of}
use Rattle.cv_calc.specs.declared.context.Context.{Context}
use Rattle.cv_calc.specs.Factor.{hundredth, sizes_of}
use Rattle.cv_calc.specs.Linear.{shape, is_linear, has_type}
use Rattle.cv_calc.specs.Value.{Meaning}
use Rattle.cv_calcread.specs.Answer.{divisor_places}
use Rattle.cv_calcread.specs.Figures.{evaluated}
use Rattle.cv_calcread.specs.Literals.{exact_number}
use Rattle.cv_simplify.specs.Agrees.{Agrees, AgreesPercent}
use Rattle.cv_calc_laws.specs.Single.{AnswersHaveValues, AnswersAreNumbers}
use Rattle.cv_calc_laws.proofs.Lists.{false_true, and_both}
use Rattle.cv_calc_laws.proofs.Answered.{Answered, answered}
use Rattle.cv_calc_laws.proofs.Counts.{read_count}
use Rattle.cv_calc_laws.proofs.OneNumber.{simplifies_to_value}
use Rattle.cv_calc_laws.proofs.Valued.{HasKind, all_fine, every_valued}

has_kind : (o : Option NumType) → has_type o ≡ true → HasKind o
has_kind None h = absurd (false_true h)
has_kind (Some t) h = (t, refl)

pub answers_have_values : AnswersHaveValues
unfolding is_linear
answers_have_values tokens c e h m =
    let a : Answered tokens c = answered tokens c e in
    let (typed, fits) = and_both (has_type (shape c).kind) (shape c).fits h in
    every_valued m c (has_kind (shape c).kind typed, fits) (all_fine (evaluated c).marks (divisor_places 0 tokens) (read_count exact_number tokens c a.tree) a.not_null a.not_far)

-- a meaning that agrees with a context
percent_of : Basis → Ratio
percent_of Plain = one_ratio
percent_of Length = one_ratio
percent_of (Of f) = mul f hundredth

percent_agrees : (b : Basis) → AgreesPercent b (percent_of b)
unfolding percent_of
percent_agrees Plain = refl
percent_agrees Length = tt
percent_agrees (Of f) = refl

pub meaning_of : Context → Meaning
meaning_of x = record { sizes = sizes_of x; percent = percent_of x.basis }

pub meaning_agrees : (x : Context) → Agrees (meaning_of x) x
unfolding meaning_of
meaning_agrees x = record { sizes = refl; percent = percent_agrees x.basis }

pub answers_are_numbers : AnswersAreNumbers
answers_are_numbers x u tokens c e h =
    let (r, is) = answers_have_values tokens c e h.linear (meaning_of x) in
    (r, simplifies_to_value x u c h (meaning_of x) (meaning_agrees x) r is)
