-- What it is that the reader answers a calculation.
use Rattle.std.specs.Prelude.{List, Result, Ok, Err, Option, Some, None}
use Rattle.std.proofs.Common.{◌≡◌, refl, sym, ◌∙◌, ap, ℕ}
use Rattle.cv_spec_text.specs.declared.token.Token.{Token}
use Rattle.cv_calc.specs.declared.unit.NumType.{NumType}
use Rattle.cv_calc.specs.declared.calc.Calc.{Calc}
use Rattle.cv_calc.specs.Types.{type_of}
use Rattle.cv_calcread.specs.Answer.{answer, after_tree, typed, after_type, after_literals, after_range, wide_place, divisor_place, divisor_places, is_marked}
use Rattle.cv_calcread.specs.Figures.{evaluated}
use Rattle.cv_calcread.specs.Literals.{exact_number}
use Rattle.cv_calcread.specs.Reading.{read}
use Rattle.cv_calcread.specs.declared.error.CalcErr.{CalcErr}
use Rattle.cv_calcread.specs.declared.figure.Mark.TheVariants.{Far, Null}

ok_same : (c d : Calc) → ◌≡◌ {A = Result Calc CalcErr} (Ok c) (Ok d) → c ≡ d
ok_same c d e = cc

err_ok : (e : CalcErr) (d : Calc) → ◌≡◌ {A = Result Calc CalcErr} (Err e) (Ok d) → ⊥
err_ok e d h = cc

-- the calculation that is answered, and that no divisor of it is refused
pub record Answered (ts : List Token) (c : Calc) : Type 0 where
  pub tree : read exact_number ts ≡ Some c
  pub not_null : divisor_place (is_marked Null) (evaluated c).marks (divisor_places 0 ts) ≡ None
  pub not_far : divisor_place (is_marked Far) (evaluated c).marks (divisor_places 0 ts) ≡ None

module _ (ts : List Token) (c d : Calc) (is : read exact_number ts ≡ Some d) where
  by_null : (o : Option ℕ) → divisor_place (is_marked Null) (evaluated d).marks (divisor_places 0 ts) ≡ o → divisor_place (is_marked Far) (evaluated d).marks (divisor_places 0 ts) ≡ None → after_range d o ≡ Ok c → Answered ts c
  by_null (Some n) null far e = absurd (err_ok _ c e)
  by_null None null far e =
      let same : d ≡ c = ok_same d c e in
      record {
        tree = is ∙ ap Some same;
        not_null = ap (λ b. divisor_place (is_marked Null) (evaluated b).marks (divisor_places 0 ts)) (sym same) ∙ null;
        not_far = ap (λ b. divisor_place (is_marked Far) (evaluated b).marks (divisor_places 0 ts)) (sym same) ∙ far;
      }

  by_far : (t : NumType) (o : Option ℕ) → divisor_place (is_marked Far) (evaluated d).marks (divisor_places 0 ts) ≡ o → after_literals (divisor_places 0 ts) (evaluated d).marks d t o ≡ Ok c → Answered ts c
  by_far t (Some n) far e = absurd (err_ok _ c e)
  by_far t None far e = by_null (divisor_place (is_marked Null) (evaluated d).marks (divisor_places 0 ts)) refl far e

  by_literal : (t : NumType) (o : Option ℕ) → after_type ts d t o ≡ Ok c → Answered ts c
  by_literal t (Some n) e = absurd (err_ok _ c e)
  by_literal t None e = by_far t (divisor_place (is_marked Far) (evaluated d).marks (divisor_places 0 ts)) refl e

  by_type : (o : Option NumType) → typed ts d o ≡ Ok c → Answered ts c
  by_type None e = absurd (err_ok _ c e)
  by_type (Some t) e = by_literal t (wide_place 0 ts) e

pub answered : (ts : List Token) (c : Calc) → answer ts ≡ Ok c → Answered ts c
unfolding answer
answered ts c e = go (read exact_number ts) refl e
  where
    go : (o : Option Calc) → read exact_number ts ≡ o → after_tree ts o ≡ Ok c → Answered ts c
    go None is e = absurd (err_ok _ c e)
    go (Some d) is e = by_type ts c d is (type_of d) e
