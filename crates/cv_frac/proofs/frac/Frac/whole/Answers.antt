use Rattle.std.proofs.Common.{◌≡◌, subst, sym, pos, w64, to_z, of_z, arith, ℤ, ◌<◌}
use Rattle.std.specs.Prelude.{unsigned_abs, ◌^◌}
use Rattle.std.proofs.lemmas.Int.{ints}
use Rattle.cv_spec_ratio.specs.Cancelled.{gcd_one}
use Rattle.cv_frac.proofs.frac.Frac.whole.Goals as goal

pub invariant_of-result : goal.invariant_of-result
invariant_of-result c =
    let top : to_z w64 (of_z w64 c.from.result) ≡ pos c.args.n = omega (arith, ints) in
    record {
      positive = omega arith;
      small_top = subst (λ (z : ℤ). unsigned_abs z < 2 ^ 63) (sym top) (omega arith);
      small_bottom = omega arith;
      lowest = gcd_one (unsigned_abs (to_z w64 (of_z w64 c.from.result)));
    }
