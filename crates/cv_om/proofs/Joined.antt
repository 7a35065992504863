-- Values in front of one more.
use Rattle.std.specs.Prelude.{List, [], ◌∷◌, ◌++◌, fold, length, Result, Ok, Err, Option}
use Rattle.std.proofs.Common.{◌≡◌, ℕ, ◌+◌, ◌<◌, get_or, drop, refl, sym, ◌∙◌, ap}
use Rattle.std.proofs.lemmas.List.Sums.{fold-append}
use Rattle.cv_om.proofs.Loops.{front_at}
use Rattle.cv_calc.specs.declared.unit.Unit.{Unit}
use Rattle.cv_calc.specs.declared.calc.Calc.{Calc}
use Rattle.cv_spec_ratio.specs.Ratio.{Ratio}
use Rattle.cv_om.specs.declared.error.OmErr.{OmErr}
use Rattle.cv_om.specs.declared.joining.Joining.{Joining}
use Rattle.cv_om.specs.Arithmetic.{unit_of, number_of, unit_next, unit_joined, number_next, number_joined, whole_unit, whole_number}

pub whole_unit_split : (how : Joining) (first last : Calc) (front rest : List Calc) (o : Option Unit) → front ≡ first ∷ rest → o ≡ fold (unit_next how) (unit_of first) rest →
    unit_joined how o (unit_of last) ≡ whole_unit how (front ++ last ∷ [])
whole_unit_split how first last front rest o e f =
    ap (λ u. unit_joined how u (unit_of last)) f ∙ sym (fold-append (unit_next how) (unit_of first) rest (last ∷ [])) ∙ ap (λ cs. whole_unit how (cs ++ last ∷ [])) (sym e)

pub whole_number_split : (how : Joining) (first last : Calc) (front rest : List Calc) (r : Result Ratio OmErr) → front ≡ first ∷ rest → r ≡ fold (number_next how) (Ok (number_of first)) rest →
    number_next how r last ≡ whole_number how (front ++ last ∷ [])
whole_number_split how first last front rest r e f =
    ap (λ q. number_next how q last) f ∙ sym (fold-append (number_next how) (Ok (number_of first)) rest (last ∷ [])) ∙ ap (λ cs. whole_number how (cs ++ last ∷ [])) (sym e)

-- a refusal stays
pub number_refused : (how : Joining) (e : OmErr) (cs : List Calc) → fold (number_next how) (Err e) cs ≡ Err e
number_refused how e [] = refl
number_refused how e (c ∷ cs) = number_refused how e cs

pub number_refused_at : (how : Joining) (cs : List Calc) (i : ℕ) (d : Calc) (v first : Ratio) (e : OmErr) → i < length cs → d ≡ get_or cs i d → number_joined how v (number_of d) ≡ Err e →
    fold (number_next how) (Ok v) (drop i cs) ≡ fold (number_next how) (Ok first) cs → Err e ≡ fold (number_next how) (Ok first) cs
number_refused_at how cs i d v first e h is refused kept =
    sym (number_refused how e (drop (i + 1) cs)) ∙ ap (λ r. fold (number_next how) r (drop (i + 1) cs)) (sym refused) ∙ ap (fold (number_next how) (Ok v)) (sym (front_at cs i d d h is)) ∙ kept
