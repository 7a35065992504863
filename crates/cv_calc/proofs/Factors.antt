-- A factor as a fraction and a divisor of it.
use Rattle.std.proofs.Common.{◌≡◌, ◌<◌, ℕ, pos, sym, ◌∙◌, ap}
use Rattle.std.specs.Prelude.{min, max}
use Rattle.cv_spec_ratio.specs.Order.{lesser, greater}
use Rattle.cv_spec_ratio.proofs.Whole.{lesser_whole, greater_whole}
use Rattle.cv_calc.specs.Factor.{hundredth}
use Rattle.cv_spec_ratio.specs.Ratio.{Ratio, ratio, mul, one_ratio}
use Rattle.cv_spec_ratio.proofs.Laws.{whole-part, mul_one}

pub mul-whole : (r : Ratio) → mul r (ratio (pos 1) 1) ≡ r
unfolding one_ratio
mul-whole r = mul_one r

pub whole_over : (n q : ℕ) → 0 < q → mul (ratio (pos n) 1) (ratio (pos 1) q) ≡ ratio (pos n) q
whole_over n q h = whole-part (pos n) q h

pub ruleset parts = (mul-whole, whole_over)

-- a hundredth of the smaller and of the larger of two whole numbers
pub part-min : (r : Ratio) (n a b : ℕ) → r ≡ ratio (pos n) 1 → n ≡ min a b → mul r hundredth ≡ mul (lesser (ratio (pos a) 1) (ratio (pos b) 1)) hundredth
part-min r n a b e f = ap (λ s. mul s hundredth) (e ∙ ap (λ k. ratio (pos k) 1) f ∙ sym (lesser_whole a b))

pub part-max : (r : Ratio) (n a b : ℕ) → r ≡ ratio (pos n) 1 → n ≡ max a b → mul r hundredth ≡ mul (greater (ratio (pos a) 1) (ratio (pos b) 1)) hundredth
part-max r n a b e f = ap (λ s. mul s hundredth) (e ∙ ap (λ k. ratio (pos k) 1) f ∙ sym (greater_whole a b))
