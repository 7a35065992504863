-- What is known of the calculation that a list is.
use Rattle.std.specs.Prelude.{ℕ, Bool, true, false, ◌&&◌, pos, List, [], ◌∷◌, Some, None, Ok, Err, Option, Result, if◌then◌else◌}
use Rattle.std.proofs.Common.{◌≡◌, refl, sym, ◌∙◌, ap, arith}
use Rattle.cv_spec_text.specs.declared.token.Token.{Token}
use Rattle.cv_spec_text.specs.declared.token.Token.TheVariants as tokens
use Rattle.cv_spec_ratio.specs.Ratio.{zero_ratio}
use Rattle.cv_frac.specs.Bounded.{in_bounds}
use Rattle.cv_calc.specs.declared.unit.Unit as units
use Rattle.cv_calc.specs.declared.unit.Unit.TheVariants.{Number, Percent}
use Rattle.cv_calc.specs.declared.context.Context.{Context}
use Rattle.cv_calc.specs.declared.calc.Calc.{Calc}
use Rattle.cv_calc.specs.declared.calc.Calc.TheVariants as tree
use Rattle.cv_calc.specs.declared.calc.Calc.TheOpen as layer
use Rattle.cv_calc.specs.declared.calc.Calc.TheOpen.{Calc-F}
use Rattle.cv_calc.specs.declared.calc.Calc.TheViews.{out-Calc, roll-out-Calc}
use Rattle.cv_calc.specs.declared.calc.Calc.TheFolds.{fold-roll-Calc, map-Calc}
use Rattle.cv_calc.specs.Names.{unit_with_name}
use Rattle.cv_calc.specs.Types.{unit_type}
use Rattle.cv_calcread.specs.declared.error.CalcErr.{CalcErr}
use Rattle.cv_calcread.specs.declared.error.CalcErr.TheVariants.{NoCalc, NoType, Range as WideRange, DivZero, Memory}
use Rattle.cv_calcread.specs.Literals.{exact_number, is_in_range}
use Rattle.cv_calcread.specs.Answer.{answer}
use Rattle.cv_simplify.specs.Counted.{Counted, counted, counted_step, counted_below, simple_of, inside, inside_step, is_in_range as is_counted_in_range}
use Rattle.cv_simplify.specs.Simplified.{simp, simp_step}
use Rattle.cv_simplify.proofs.InRange.{inside-roll, and_true}
use Rattle.cv_calc_roundtrip.proofs.Equations.{counted_simple}
use Rattle.cv_calc_roundtrip.proofs.Numerals.{whole_inside}
use Rattle.cv_numeric.specs.declared.matched.Matched.{Matched}
use Rattle.cv_numeric.specs.declared.matched.Matched.TheVariants.{No, Out, Fit}
use Rattle.cv_numeric.specs.declared.quantity.Quantity.{Quantity}
use Rattle.cv_numeric.specs.declared.quantity.Range.{Range}
use Rattle.cv_numeric.specs.Matched.{mapped, both, or_else}
use Rattle.cv_numeric.specs.Quantities.{takes}
use Rattle.cv_numeric.specs.Calculations.{simplified, is_within, literal, plain, plain_of, clamped_calc, takes_calc, taken, read_as, function, alone, calculation}
use Rattle.cv_numeric.specs.Numeric.{value_as, value_of}

-- ---- matches that fit

module _ {A : Type 0} where
  abbrev from_fit : A → Matched A → A
  from_fit other No = other
  from_fit other Out = other
  from_fit other (Fit a) = a

  pub fit_same : (a b : A) → Fit a ≡ Fit b → a ≡ b
  fit_same a b h = ap (from_fit a) h

  pub if_fits : (b : Bool) (o : Matched A) (a : A) → (if b then o else No) ≡ Fit a → (b ≡ true) × (o ≡ Fit a)
  if_fits true o a h = (refl, h)
  if_fits false o a h = cc

  pub if_in_range : (b : Bool) (o : Matched A) (a : A) → (if b then o else Out) ≡ Fit a → (b ≡ true) × (o ≡ Fit a)
  if_in_range true o a h = (refl, h)
  if_in_range false o a h = cc

  never_fits : (b : Bool) (a : A) → (if b then Out else No) ≡ Fit a → ⊥
  never_fits true a h = cc
  never_fits false a h = cc

pub mapped_fits : {A B : Type 0} (f : A → B) (o : Matched A) (b : B) → mapped f o ≡ Fit b → (a : A) × (o ≡ Fit a) × (f a ≡ b)
mapped_fits f No b h = cc
mapped_fits f Out b h = cc
mapped_fits f (Fit a) b h = (a, refl, fit_same (f a) b h)

pub both_fit : {A B C : Type 0} (f : A → B → C) (m : Matched A) (o : Matched B) (c : C) → both f m o ≡ Fit c → (a : A) × (b : B) × (m ≡ Fit a) × (o ≡ Fit b) × (f a b ≡ c)
both_fit f No o c h = absurd cc
both_fit f Out No c h = absurd cc
both_fit f Out Out c h = absurd cc
both_fit f Out (Fit b) c h = absurd cc
both_fit f (Fit a) No c h = absurd cc
both_fit f (Fit a) Out c h = absurd cc
both_fit f (Fit a) (Fit b) c h = (a, b, refl, refl, fit_same (f a b) c h)

-- whichever fits
pub either_fits : {A : Type 0} (P : A → Type 0) (m o : Matched A) (a : A) → (m ≡ Fit a → P a) → (o ≡ Fit a → P a) → or_else m o ≡ Fit a → P a
either_fits P No o a f g h = g h
either_fits P Out o a f g h = absurd cc
either_fits P (Fit b) o a f g h = f h

-- ---- where a calculation comes from

-- one token, or a math function
pub data Source (q : Quantity) (r : Range) (x : Context) (ts : List Token) (c : Calc) : Type 0 where
  one : (n : List ℕ) (u : units.Unit) → takes q (unit_type u) ≡ true → is_within r n ≡ true → is_in_range n ≡ true → is_counted_in_range x (tree.Num (exact_number n) u) ≡ true →
      simp x (tree.Num (exact_number n) u) ≡ c → Source q r x ts c
  call : (t : Calc) → answer ts ≡ Ok t → takes_calc q t ≡ true → is_counted_in_range x t ≡ true → clamped_calc r (simp x t) ≡ c → Source q r x ts c

simplified_is : (x : Context) (t c : Calc) → simplified x t ≡ Fit c → (is_counted_in_range x t ≡ true) × (simp x t ≡ c)
simplified_is x t c h =
    let (small, same) = if_in_range (is_counted_in_range x t) (Fit (simp x t)) c h in (small, fit_same (simp x t) c same)

module _ (q : Quantity) (r : Range) (x : Context) where
  plain_source : (ts : List Token) (n : List ℕ) (u : units.Unit) (c : Calc) → plain q r x n u ≡ Fit c → Source q r x ts c
  plain_source ts n u c h =
      let (taken_within, fits) = if_fits (takes q (unit_type u) && is_within r n) (literal x n u) c h in
      let (taken, within) = and_true (takes q (unit_type u)) (is_within r n) taken_within in
      let (small, same) = if_in_range (is_in_range n) (simplified x (tree.Num (exact_number n) u)) c fits in
      let (counted, is) = simplified_is x (tree.Num (exact_number n) u) c same in
      one n u taken within small counted is

  plain_of_source : (ts : List Token) (n : List ℕ) (u : Option units.Unit) (c : Calc) → plain_of q r x n u ≡ Fit c → Source q r x ts c
  plain_of_source ts n None c h = absurd cc
  plain_of_source ts n (Some u) c h = plain_source ts n u c h

  taken_source : (ts : List Token) (t c : Calc) → answer ts ≡ Ok t → taken q r x t ≡ Fit c → Source q r x ts c
  taken_source ts t c e h =
      let (takes, fits) = if_fits (takes_calc q t) (mapped (clamped_calc r) (simplified x t)) c h in
      let (s, is, same) = mapped_fits (clamped_calc r) (simplified x t) c fits in
      let (small, simple) = simplified_is x t s is in
      call t e takes small (ap (clamped_calc r) simple ∙ same)

  read_source : (ts : List Token) (a : Result Calc CalcErr) (c : Calc) → answer ts ≡ a → read_as q r x a ≡ Fit c → Source q r x ts c
  read_source ts (Ok t) c e h = taken_source ts t c e h
  read_source ts (Err (WideRange place t linear)) c e h = absurd (never_fits (takes q t && linear) c h)
  read_source ts (Err NoCalc) c e h = absurd cc
  read_source ts (Err NoType) c e h = absurd cc
  read_source ts (Err (DivZero place)) c e h = absurd cc
  read_source ts (Err Memory) c e h = absurd cc

  function_source : (ts : List Token) (c : Calc) → function q r x ts ≡ Fit c → Source q r x ts c
  function_source ts c h = read_source ts (answer ts) c refl h

  alone_source : (t : Token) (c : Calc) → alone q r x t ≡ Fit c → Source q r x (t ∷ []) c
  alone_source (tokens.Number n) c h = plain_source (tokens.Number n ∷ []) n Number c h
  alone_source (tokens.Percentage n) c h = plain_source (tokens.Percentage n ∷ []) n Percent c h
  alone_source (tokens.Dimension n name) c h = plain_of_source (tokens.Dimension n name ∷ []) n (unit_with_name name) c h
  alone_source t c h = function_source (t ∷ []) c h

  pub source : (ts : List Token) (c : Calc) → calculation q r x ts ≡ Fit c → Source q r x ts c
  unfolding calculation
  source [] c h = function_source [] c h
  source (t ∷ []) c h = alone_source t c h
  source (t ∷ s ∷ ts) c h = function_source (t ∷ s ∷ ts) c h

-- ---- bounds

step_inside : (x : Context) (l : Calc-F Counted) → (counted_step x l).in_range ≡ true → inside (counted_step x l).simple ≡ true
step_inside x l h = (and_true (counted_below l) (inside (simp_step x (simple_of l))) h).1

counted_inside : (x : Context) (c : Calc) → (counted x c).in_range ≡ true → inside (counted x c).simple ≡ true
unfolding counted
counted_inside x c h =
    let e : counted x c ≡ counted_step x (map-Calc Calc Counted (counted x) (out-Calc c)) = ap (counted x) (sym (roll-out-Calc c)) ∙ fold-roll-Calc Counted (counted_step x) (out-Calc c) in
    ap (λ (k : Counted). inside k.simple) e ∙ step_inside x (map-Calc Calc Counted (counted x) (out-Calc c)) (ap (λ (k : Counted). k.in_range) (sym e) ∙ h)

pub simple_inside : (x : Context) (c : Calc) → is_counted_in_range x c ≡ true → inside (simp x c) ≡ true
simple_inside x c h = ap inside (sym (counted_simple x c)) ∙ counted_inside x c h

pub zero_small : in_bounds zero_ratio ≡ true
unfolding zero_ratio
zero_small = whole_inside (pos 0) (omega arith)

layer_small : (l : Calc-F Calc) → inside_step (map-Calc Calc Bool inside l) ≡ true → in_bounds (value_as l) ≡ true
layer_small (layer.Num v u) h = h
layer_small l h = zero_small

-- the number that a calculation is
pub value_small : (c : Calc) → inside c ≡ true → in_bounds (value_of c) ≡ true
value_small c h = layer_small (out-Calc c) (sym (inside-roll (out-Calc c)) ∙ ap inside (roll-out-Calc c) ∙ h)
