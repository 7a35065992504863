-- What is said of a number by its spelling is so of its fraction.
use Rattle.std.specs.Prelude.{◌≡◌, ℕ, pos, int_lt, true, List, encode_utf8_all}
use Rattle.cv_frac.specs.Literal.{is_number}
use Rattle.cv_exact.specs.Zero.{is_zero}
use Rattle.cv_calcread.specs.Literals.{exact_number}
use Rattle.cv_numeric.specs.Calculations.{is_null, is_negative}

pub record SignsAreTold : Type 0 where
  -- a number is 0 where its fraction is, and it isn't out of range then
  pub null_is : (n : List ℕ) → is_number (encode_utf8_all n) ≡ true → is_null n ≡ is_zero (exact_number n)
  -- a number is below 0 where its fraction is
  pub negative_is : (n : List ℕ) → is_number (encode_utf8_all n) ≡ true → is_negative n ≡ int_lt (exact_number n).top (pos 0)
