-- The equations of the text of a calculation.
use Rattle.std.specs.Prelude.{List, [], ◌∷◌, ◌++◌, map, codes}
use Rattle.std.proofs.Common.{◌≡◌, ℕ, suc, ◌+◌, refl, sym, ◌∙◌, ap, ap₂, arith}
use Rattle.cv_spec_text.specs.declared.token.Token.{Token}
use Rattle.cv_spec_ratio.specs.Ratio.{Ratio}
use Rattle.cv_calc.specs.declared.unit.Unit as units
use Rattle.cv_calc.specs.declared.calc.Calc.{Calc}
use Rattle.cv_calc.specs.declared.calc.Calc.TheVariants.{Num, Sum, Product, Negate, Invert, Min, Max, Clamp}
use Rattle.cv_calc.specs.Tree.{fold-Num, fold-Sum, fold-Product, fold-Negate, fold-Invert, fold-Min, fold-Max, fold-Clamp}
use Rattle.cv_simplify.specs.declared.place.Place.TheVariants.{Operand, Whole, Added, Multiplied, Argument}
use Rattle.cv_simplify.specs.declared.place.Place.{Place}
use Rattle.cv_simplify.specs.Text.{Written, written, written_step, unit_rank, last_rank, prefix, placed, number_placed, negative_placed, inverse_placed, call, line_of, arguments_of, no_line, with_ranked, ranked}

pub written-Num : (v : Ratio) (u : units.Unit) → written (Num v u) ≡ record { rank = unit_rank u; at_place = λ place. number_placed place v u }
unfolding written
written-Num v u = fold-Num written_step v u

pub written-Sum : (cs : List Calc) → written (Sum cs) ≡ record { rank = last_rank; at_place = λ place. placed place (line_of Added (map written cs)) }
unfolding written
written-Sum cs = fold-Sum written_step cs

pub written-Product : (cs : List Calc) → written (Product cs) ≡ record { rank = last_rank; at_place = λ place. placed place (line_of Multiplied (map written cs)) }
unfolding written
written-Product cs = fold-Product written_step cs

pub written-Negate : (c : Calc) → written (Negate c) ≡ record { rank = last_rank; at_place = λ place. negative_placed place ((written c).at_place Operand) }
unfolding written
written-Negate c = fold-Negate written_step c

pub written-Invert : (c : Calc) → written (Invert c) ≡ record { rank = last_rank; at_place = λ place. inverse_placed place ((written c).at_place Operand) }
unfolding written
written-Invert c = fold-Invert written_step c

pub written-Min : (cs : List Calc) → written (Min cs) ≡ record { rank = last_rank; at_place = λ place. prefix place ++ call (codes "min") (arguments_of (map written cs)) }
unfolding written
written-Min cs = fold-Min written_step cs

pub written-Max : (cs : List Calc) → written (Max cs) ≡ record { rank = last_rank; at_place = λ place. prefix place ++ call (codes "max") (arguments_of (map written cs)) }
unfolding written
written-Max cs = fold-Max written_step cs

pub written-Clamp : (a b c : Calc) → written (Clamp a b c) ≡ record { rank = last_rank; at_place = λ place. prefix place ++ call (codes "clamp") (arguments_of (written a ∷ written b ∷ written c ∷ [])) }
unfolding written
written-Clamp a b c = fold-Clamp written_step a b c

pub ruleset written_equations = (written-Num, written-Sum, written-Product, written-Negate, written-Invert, written-Min, written-Max, written-Clamp)

pub ranked_none : (further : Place) (ws : List Written) → ranked further ws 0 ≡ no_line
unfolding ranked
ranked_none further ws = refl

pub ranked_next : (further : Place) (ws : List Written) (n : ℕ) → ranked further ws (n + 1) ≡ with_ranked further ws (ranked further ws n) n
unfolding ranked
ranked_next further ws n = ap (ranked further ws) (sym (next n))
  where
    next : (n : ℕ) → suc n ≡ n + 1
    next n = omega arith

pub ruleset ranks = (ranked_none, ranked_next)

-- three arguments
pub clamp_text : (c low middle high : Calc) (place : Place) (f s t : List Token) → c ≡ Clamp low middle high →
    f ≡ (written low).at_place Whole → s ≡ (written middle).at_place Argument → t ≡ (written high).at_place Argument →
    prefix place ++ call (codes "clamp") ((f ++ s) ++ t) ≡ (written c).at_place place
clamp_text c low middle high place f s t is first second third =
    ap₂ (λ a b. prefix place ++ call (codes "clamp") ((a ++ b) ++ t)) first second
    ∙ ap (λ e. prefix place ++ call (codes "clamp") (((written low).at_place Whole ++ (written middle).at_place Argument) ++ e)) third
    ∙ sym (ap (λ (w : Written). w.at_place place) (ap written is ∙ written-Clamp low middle high))
