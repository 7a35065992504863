-- The numbers of a calculation are in bounds where those of its parts are.
use Rattle.std.specs.Prelude.{ℕ, true, ◌&&◌, nat_lt, unsigned_abs, ◌^◌, List, length}
use Rattle.std.proofs.Common.{◌≡◌, ◌+◌, ◌<◌, ◌≤◌, get_or, drop, sym, ◌∙◌, ap, ap₂, arith}
use Rattle.std.proofs.lemmas.Bool.Decides.{nat_tests}
use Rattle.std.proofs.lemmas.List.{drop_all}
use Rattle.cv_spec_ratio.specs.Ratio.{Ratio}
use Rattle.cv_frac.specs.Bounded.{in_bounds}
use Rattle.cv_calc.specs.declared.calc.Calc.{Calc}
use Rattle.cv_simplify.specs.Counted.{inside, all_inside}
use Rattle.cv_simplify.proofs.InRange.{inside-Num, inside-Sum, inside-Product, inside-Negate, inside-Invert, inside-Min, inside-Max, inside-Clamp}
use Rattle.cv_om.proofs.Loops.{front_at}

below : (n : ℕ) → n < 2 ^ 63 → nat_lt n (2 ^ 63) ≡ true
below n h = grind (arith, nat_tests)

pub both_small : (v : Ratio) → unsigned_abs v.top < 2 ^ 63 → v.bottom < 2 ^ 63 → in_bounds v ≡ true
both_small v h k = ap₂ (λ a b. a && b) (below (unsigned_abs v.top) h) (below v.bottom k)

pub ruleset inside_equations = (inside-Num, inside-Sum, inside-Product, inside-Negate, inside-Invert, inside-Min, inside-Max, inside-Clamp)

-- ---- children, of which those that are left tell of all

pub next_inside : (cs : List Calc) (i : ℕ) (d c : Calc) → i < length cs → c ≡ get_or cs i d → inside c ≡ true → all_inside (drop i cs) ≡ all_inside cs → all_inside (drop (i + 1) cs) ≡ all_inside cs
next_inside cs i d c h is k e = sym (ap (λ b. b && all_inside (drop (i + 1) cs)) k) ∙ sym (ap all_inside (front_at cs i d c h is)) ∙ e

pub last_inside : (cs : List Calc) (i : ℕ) → length cs ≤ i → all_inside (drop i cs) ≡ all_inside cs → all_inside cs ≡ true
last_inside cs i h e = sym e ∙ ap all_inside (drop_all i cs h)
