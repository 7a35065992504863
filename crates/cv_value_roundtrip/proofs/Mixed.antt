-- Calculations of lengths and percentages read back.
use Rattle.std.specs.Prelude.{ℕ, Bool, true, false, ◌&&◌, ◌||◌, List, [], ◌∷◌, Some, None, Ok, Option}
use Rattle.std.proofs.Common.{◌≡◌, refl, sym, ◌∙◌, ap, subst}
use Rattle.cv_spec_text.specs.declared.token.Token.{Token}
use Rattle.cv_spec_text.specs.declared.token.Token.TheVariants as tokens
use Rattle.cv_spec_ratio.specs.Ratio.{Ratio, zero_ratio}
use Rattle.cv_frac.specs.Bounded.{in_bounds}
use Rattle.cv_calc.specs.declared.unit.Base.{Base}
use Rattle.cv_calc.specs.declared.unit.Base.TheVariants as base
use Rattle.cv_calc.specs.declared.unit.NumType.{NumType}
use Rattle.cv_calc.specs.declared.unit.Unit as units
use Rattle.cv_calc.specs.declared.unit.Unit.TheVariants.{Px, Percent}
use Rattle.cv_calc.specs.declared.context.Basis.TheVariants as basis
use Rattle.cv_calc.specs.declared.context.Context.{Context}
use Rattle.cv_calc.specs.declared.calc.Calc.{Calc}
use Rattle.cv_calc.specs.declared.calc.Calc.TheVariants as tree
use Rattle.cv_calc.specs.declared.calc.Calc.TheVariants.{rolls-Num, rolls-Min, rolls-Max, rolls-Clamp}
use Rattle.cv_calc.specs.declared.calc.Calc.TheOpen as layer
use Rattle.cv_calc.specs.declared.calc.Calc.TheOpen.{Calc-F}
use Rattle.cv_calc.specs.declared.calc.Calc.TheViews.{out-Calc, roll-Calc, roll-out-Calc}
use Rattle.cv_calc.specs.Tree.{out-Num, fold-Num}
use Rattle.cv_calc.specs.Types.{unit_type, type_of, type_step, same_powers}
use Rattle.cv_calc.specs.Linear.{is_linear, no_hint, has_type}
use Rattle.cv_calc.proofs.Shapes.{shape-Num}
use Rattle.cv_calc_laws.specs.Single.{is_length_percentage, hints_length}
use Rattle.cv_calcread.specs.Literals.{exact_number, is_in_range}
use Rattle.cv_calcread.specs.Answer.{answer}
use Rattle.cv_simplify.specs.Canonical.{is_canonical, holds_canonical}
use Rattle.cv_simplify.specs.Counted.{inside, is_in_range as is_counted_in_range}
use Rattle.cv_simplify.specs.Simplified.{number_in, simp as simp_of}
use Rattle.cv_simplify.specs.Text.{number_alone, has_decimal, calc_text_as, calc_text, written, Written}
use Rattle.cv_simplify.specs.declared.place.Place.TheVariants.{Whole}
use Rattle.cv_simplify.proofs.Canonical.{canonical-Num, simp_canonical}
use Rattle.cv_simplify.proofs.InRange.{inside-Num, and_true}
use Rattle.cv_simplify.proofs.Texts.{written-Min, written-Max, written-Clamp}
use Rattle.cv_simplify.proofs.TypesKept.{type_kept}
use Rattle.cv_calc_roundtrip.specs.ReadsBack.{ReadsAsEqual, ReadsBack, number, calculation}
use Rattle.cv_calc_roundtrip.proofs.Calculations.{calculations_read_back}
use Rattle.cv_numeric.specs.declared.matched.Matched.TheVariants.{Fit}
use Rattle.cv_numeric.specs.declared.quantity.Range.{Range}
use Rattle.cv_numeric.specs.declared.quantity.Quantity.TheVariants.{LengthPercentage}
use Rattle.cv_numeric.specs.declared.quantity.Range.TheVariants.{All}
use Rattle.cv_numeric.specs.Matched.{mapped}
use Rattle.cv_numeric.specs.Quantities as quantities
use Rattle.cv_numeric.specs.Quantities.{takes, takes_some, clamped}
use Rattle.cv_numeric.specs.Calculations.{is_null, is_within, clamped_as, clamped_calc, taken, read_as, function, calculation as calculation_of}
use Rattle.cv_numeric.specs.Numeric.{with_basis, value_of, zero_length, length_percentage_in, length_percentage}
use Rattle.cv_syntax.specs.declared.syntax.Kind.TheVariants as kinds
use Rattle.cv_value.specs.declared.typed.Item.{Item}
use Rattle.cv_value.specs.declared.typed.Item.TheVariants as item_of
use Rattle.cv_value.specs.Items.{numeral_item, mixed_as, mixed_item, item}
use Rattle.cv_value.specs.Text.{item_text}
use Rattle.cv_value_roundtrip.specs.ReadsBack.{SizeReadsBack, itself, calculation as same_calculation, ReadsBack as ItemBack}
use Rattle.cv_value_roundtrip.proofs.Numbers.{number_read, fits, contrary}
use Rattle.cv_value_roundtrip.proofs.Given.{fit_same, if_fits, mapped_fits, Source, one, call as call_source, source, simple_inside}
use Rattle.cv_value_roundtrip.proofs.Measured.{value_is, zero_inside, clamped_small, zero_given, simple_number}
use Rattle.cv_value_roundtrip.proofs.Ranges.{clamped_inside}
use Rattle.cv_value_roundtrip.specs.Numbers.{IsInside}

-- ---- a calculation that is one number, or isn't

abbrev is_number : Calc-F Calc → Bool
is_number (layer.Num v u) = true
is_number l = false

rolled : (c : Calc) (l : Calc-F Calc) → out-Calc c ≡ l → c ≡ roll-Calc l
rolled c l e = sym (roll-out-Calc c) ∙ ap roll-Calc e

rolled_number : (c : Calc) (v : Ratio) (u : units.Unit) → out-Calc c ≡ layer.Num v u → c ≡ tree.Num v u
rolled_number c v u e = rolled c (layer.Num v u) e ∙ rolls-Num v u

-- what is no number isn't clamped
clamped_other : (r : Range) (c : Calc) (l : Calc-F Calc) → is_number l ≡ false → clamped_as r c l ≡ c
clamped_other r c (layer.Num v u) h = absurd cc
clamped_other r c l h = refl

-- ---- numbers

number_item : (v : Ratio) (u : units.Unit) → mixed_item (tree.Num v u) ≡ numeral_item v u
number_item v u = ap (mixed_as (tree.Num v u)) (out-Num v u)

pub number_text : (v : Ratio) (u : units.Unit) → calc_text (tree.Num v u) ≡ number_alone v u
unfolding calc_text
number_text v u = ap (calc_text_as (tree.Num v u)) (out-Num v u)

numeral_text : (v : Ratio) (u : units.Unit) → item_text (numeral_item v u) ≡ number_alone v u
numeral_text v Px = refl
numeral_text v Percent = refl
numeral_text v u = number_text v u

-- the text of a number with a unit isn't a number without one
pub is_calculation : (r : Range) (y : Context) (v : Ratio) (u : units.Unit) → is_canonical u ≡ true → takes LengthPercentage (unit_type u) ≡ true → (b : Bool) → has_decimal v ≡ b →
    length_percentage_in r y (number_alone v u) ≡ calculation_of LengthPercentage r y (number_alone v u)
is_calculation r y v Px h t true e = rw e refl
is_calculation r y v Px h t false e = rw e refl
is_calculation r y v Percent h t true e = rw e refl
is_calculation r y v Percent h t false e = rw e refl
is_calculation r y v _ h t b e = absurd cc

abbrev pub as_length : Context → Context
as_length y = with_basis basis.Length y

number_back : (r : Range) (y : Context) (v : Ratio) (u : units.Unit) → in_bounds v ≡ true → is_canonical u ≡ true → takes LengthPercentage (unit_type u) ≡ true → IsInside r v →
    mapped mixed_item (length_percentage r y (item_text (numeral_item v u))) ≡ Fit (numeral_item v u)
number_back r y v u small h t inside =
    ap (λ ts. mapped mixed_item (length_percentage r y ts)) (numeral_text v u)
    ∙ ap (mapped mixed_item) (is_calculation r (as_length y) v u h t (has_decimal v) refl ∙ read u h t)
    ∙ ap Fit (number_item v u)
  where
    read : (u : units.Unit) → is_canonical u ≡ true → takes LengthPercentage (unit_type u) ≡ true → calculation_of LengthPercentage r (as_length y) (number_alone v u) ≡ Fit (tree.Num v u)
    read Px h t = number_read LengthPercentage r (as_length y) v Px small h tt t inside
    read Percent h t = number_read LengthPercentage r (as_length y) v Percent small h tt t inside
    read _ h t = absurd cc

-- ---- other calculations

-- the text begins with a function
record IsCall (ts : List Token) : Type 0 where
  name : List ℕ
  more : List Token
  whole : ts ≡ tokens.Function name ∷ more

called : (name : List ℕ) (more : List Token) (ts : List Token) → ts ≡ tokens.Function name ∷ more → IsCall ts
called name more ts e = record { name = name; more = more; whole = e }

text_call : (c : Calc) (l : Calc-F Calc) → out-Calc c ≡ l → is_number l ≡ false → IsCall (calc_text_as c l)
text_call c (layer.Num v u) e h = absurd cc
text_call c (layer.Sum cs) e h = called _ _ _ refl
text_call c (layer.Product cs) e h = called _ _ _ refl
text_call c (layer.Negate d) e h = called _ _ _ refl
text_call c (layer.Invert d) e h = called _ _ _ refl
text_call c (layer.Min cs) e h = called _ _ _ (ap (λ (w : Written). w.at_place Whole) (ap written (rolled c (layer.Min cs) e ∙ rolls-Min cs) ∙ written-Min cs))
text_call c (layer.Max cs) e h = called _ _ _ (ap (λ (w : Written). w.at_place Whole) (ap written (rolled c (layer.Max cs) e ∙ rolls-Max cs) ∙ written-Max cs))
text_call c (layer.Clamp a b d) e h = called _ _ _ (ap (λ (w : Written). w.at_place Whole) (ap written (rolled c (layer.Clamp a b d) e ∙ rolls-Clamp a b d) ∙ written-Clamp a b d))

calc_call : (c : Calc) → is_number (out-Calc c) ≡ false → IsCall (calc_text c)
unfolding calc_text
calc_call c h = text_call c (out-Calc c) refl h

call_is_function : (r : Range) (y : Context) (name : List ℕ) (more : List Token) → length_percentage_in r y (tokens.Function name ∷ more) ≡ function LengthPercentage r y (tokens.Function name ∷ more)
unfolding calculation_of
call_is_function r y name [] = refl
call_is_function r y name (t ∷ ts) = refl

text_is_function : (r : Range) (y : Context) (ts : List Token) → IsCall ts → length_percentage_in r y ts ≡ function LengthPercentage r y ts
text_is_function r y ts c = ap (length_percentage_in r y) c.whole ∙ call_is_function r y c.name c.more ∙ ap (function LengthPercentage r y) (sym c.whole)

other_item : (c : Calc) (l : Calc-F Calc) → is_number l ≡ false → mixed_as c l ≡ item_of.Mixed c
other_item c (layer.Num v u) h = absurd cc
other_item c l h = refl

-- ---- types

hints_same : (h : Option Base) → quantities.hints_length h ≡ hints_length h
hints_same None = refl
hints_same (Some base.Length) = refl
hints_same (Some _) = refl

takes_is : (t : NumType) → takes LengthPercentage t ≡ true → is_length_percentage t ≡ true
takes_is t h = ap (λ b. same_powers t (unit_type Px) && no_hint t.hint || same_powers t (unit_type Percent) && no_hint t.hint || same_powers t (unit_type Px) && b) (sym (hints_same t.hint)) ∙ h

is_takes : (t : NumType) → is_length_percentage t ≡ true → takes LengthPercentage t ≡ true
is_takes t h = ap (λ b. same_powers t (unit_type Px) && no_hint t.hint || same_powers t (unit_type Percent) && no_hint t.hint || same_powers t (unit_type Px) && b) (hints_same t.hint) ∙ h

type_number : (v : Ratio) (u : units.Unit) → type_of (tree.Num v u) ≡ Some (unit_type u)
unfolding type_of
type_number v u = fold-Num type_step v u

linear_number : (v : Ratio) (u : units.Unit) → is_linear (tree.Num v u) ≡ true
unfolding is_linear
linear_number v u = ap (λ s. has_type s.kind && s.fits) (shape-Num v u)

some_type : (o p : Option NumType) (t : NumType) → o ≡ Some t → p ≡ o → takes_some LengthPercentage p ≡ true → takes LengthPercentage t ≡ true
some_type o p t e f h = ap (takes_some LengthPercentage) (sym (f ∙ e)) ∙ h

-- ---- items

pub is_one : (x : Context) (v : Ratio) (u : units.Unit) → (w : Ratio) × (t : units.Unit) × (number_in (as_length x) v u ≡ tree.Num w t)
is_one x v Percent = (v, Percent, refl)
is_one x v u = (_, _, refl)

module _ (r : Range) (y : Context) where
  abbrev Back : Item → Type 0
  Back = SizeReadsBack r y

  exact_back : (v : Ratio) (u : units.Unit) → in_bounds v ≡ true → is_canonical u ≡ true → takes LengthPercentage (unit_type u) ≡ true → IsInside r v → Back (mixed_item (tree.Num v u))
  exact_back v u small h t inside = subst Back (sym (number_item v u)) (record { back = numeral_item v u; read = number_back r y v u small h t inside; same = itself refl })

  -- the calculation is in canonical units, in bounds, and of the type of a length or percentage
  record IsPlain (c : Calc) : Type 0 where
    small : inside c ≡ true
    canonical : holds_canonical c ≡ true
    taken : takes_some LengthPercentage (type_of c) ≡ true

  number_case : (c : Calc) (v w : Ratio) (u : units.Unit) → c ≡ tree.Num v u → IsPlain c → in_bounds w ≡ true → IsInside r w → Back (mixed_item (tree.Num w u))
  number_case c v w u e plain small inside =
      exact_back w u small (sym (canonical-Num v u) ∙ ap holds_canonical (sym e) ∙ plain.canonical)
      (some_type (type_of (tree.Num v u)) (type_of c) (unit_type u) (type_number v u) (ap type_of e) plain.taken) inside

  own_small : (c : Calc) (v : Ratio) (u : units.Unit) → c ≡ tree.Num v u → IsPlain c → in_bounds v ≡ true
  own_small c v u e plain = sym (inside-Num v u) ∙ ap inside (sym e) ∙ plain.small

  -- a calculation that is no number
  equal_read : (s : Calc) (n : ReadsAsEqual s (calc_text s)) → is_number (out-Calc s) ≡ false → is_number (out-Calc (simp_of (as_length y) n.tree)) ≡ false → length_percentage r y (calc_text s) ≡ Fit (simp_of (as_length y) n.tree)
  equal_read s n h other =
      text_is_function r (as_length y) (calc_text s) (calc_call s h)
      ∙ ap (read_as LengthPercentage r (as_length y)) n.read
      ∙ taken_is n.tree n.kind n.typed (is_takes n.kind n.taken) n.linear (n.in_range (as_length y) refl) other
    where
      taken_is : (t : Calc) (k : NumType) → type_of t ≡ Some k → takes LengthPercentage k ≡ true → is_linear t ≡ true → is_counted_in_range (as_length y) t ≡ true →
          is_number (out-Calc (simp_of (as_length y) t)) ≡ false → taken LengthPercentage r (as_length y) t ≡ Fit (simp_of (as_length y) t)
      taken_is t k typed takes linear small other =
          rw (typed, takes, linear)
          (ap (mapped (clamped_calc r)) (fits (as_length y) t (simp_of (as_length y) t) small refl)
          ∙ ap Fit (clamped_other r (simp_of (as_length y) t) (out-Calc (simp_of (as_length y) t)) other))

  no_number : (s : Calc) (n : ReadsAsEqual s (calc_text s)) → is_number (out-Calc s) ≡ false → (l : Calc-F Calc) → out-Calc (simp_of (as_length y) n.tree) ≡ l → is_number l ≡ false
  no_number s n h (layer.Num v u) e =
      let same : s ≡ tree.Num v u = n.simple_number (as_length y) refl v u (rolled_number (simp_of (as_length y) n.tree) v u e) in
      absurd (contrary (is_number (out-Calc s)) (ap (λ (c : Calc). is_number (out-Calc c)) same ∙ ap is_number (out-Num v u)) h)
  no_number s n h l e = refl

  equal_case : (s : Calc) → ReadsAsEqual s (calc_text s) → is_number (out-Calc s) ≡ false → Back (mixed_item s)
  equal_case s n h =
      let d : Calc = simp_of (as_length y) n.tree in
      let other : is_number (out-Calc d) ≡ false = no_number s n h (out-Calc d) refl in
      let given : mixed_item s ≡ item_of.Mixed s = other_item s (out-Calc s) h in
      let found : mixed_item d ≡ item_of.Mixed d = other_item d (out-Calc d) other in
      subst Back (sym given) (record {
        back = item_of.Mixed d;
        read = ap (mapped mixed_item) (equal_read s n h other) ∙ ap Fit found;
        same = same_calculation s d refl refl (record {
          types = n.simple_typed (as_length y) refl ∙ sym n.given_typed;
          values = n.simple_value (as_length y) refl;
        });
      })

  other_case : (s : Calc) → ReadsBack s (calc_text s) → is_number (out-Calc s) ≡ false → Back (mixed_item s)
  other_case s (number v u e m) h = absurd (contrary (is_number (out-Calc s)) (ap (λ (c : Calc). is_number (out-Calc c)) e ∙ ap is_number (out-Num v u)) h)
  other_case s (calculation n) h = equal_case s n h

  by_layer : (s : Calc) (l : Calc-F Calc) → out-Calc s ≡ l → IsPlain s → ReadsBack s (calc_text s) → Back (mixed_item (clamped_as r s l))
  by_layer s (layer.Num v u) e plain n =
      let same : s ≡ tree.Num v u = rolled_number s v u e in
      number_case s v (clamped r v) u same plain (clamped_small r v (own_small s v u same plain)) (clamped_inside r v)
  by_layer s l e plain n = other_case s n (ap is_number e)

  -- what a list gives
  call_given : (x : Context) (ts : List Token) (t : Calc) (o : Option NumType) → type_of t ≡ o → answer ts ≡ Ok t → takes_some LengthPercentage o ≡ true → is_linear t ≡ true → is_counted_in_range (as_length x) t ≡ true →
      Back (mixed_item (clamped_calc r (simp_of (as_length x) t)))
  call_given x ts t None e read takes linear small = absurd cc
  call_given x ts t (Some k) e read takes linear small =
      let s : Calc = simp_of (as_length x) t in
      let typed : type_of s ≡ Some k = type_kept (as_length x) t linear ∙ e in
      let plain : IsPlain s = record {
        small = simple_inside (as_length x) t small;
        canonical = simp_canonical (as_length x) t;
        taken = ap (takes_some LengthPercentage) typed ∙ takes;
      } in
      by_layer s (out-Calc s) refl plain
      (calculations_read_back.reads (as_length x) ts t (record { read = read; linear = linear; kind = k; typed = e; taken = takes_is k takes; basis = refl; in_range = small }))

  -- a number that is written, in the unit that stands for itself, is in the range
  abbrev IsWritten : Context → Type 0
  IsWritten x = (n : List ℕ) (u : units.Unit) → is_in_range n ≡ true → is_within r n ≡ true → IsInside r (value_of (simp_of (as_length x) (tree.Num (exact_number n) u)))

  one_given : (x : Context) (v : Ratio) (u : units.Unit) → takes LengthPercentage (unit_type u) ≡ true → is_counted_in_range (as_length x) (tree.Num v u) ≡ true → IsInside r (value_of (simp_of (as_length x) (tree.Num v u))) →
      Back (mixed_item (simp_of (as_length x) (tree.Num v u)))
  one_given x v u takes small inside =
      let s : Calc = simp_of (as_length x) (tree.Num v u) in
      let (w, t, is) = is_one x v u in
      let number : s ≡ tree.Num w t = simple_number (as_length x) v u ∙ is in
      let typed : type_of s ≡ Some (unit_type u) = type_kept (as_length x) (tree.Num v u) (linear_number v u) ∙ type_number v u in
      let plain : IsPlain s = record {
        small = simple_inside (as_length x) (tree.Num v u) small;
        canonical = simp_canonical (as_length x) (tree.Num v u);
        taken = ap (takes_some LengthPercentage) typed ∙ takes;
      } in
      let own : IsInside r w = subst (IsInside r) (ap value_of number ∙ value_is w t) inside in
      subst (λ (d : Calc). Back (mixed_item d)) (sym number) (number_case s w w t number plain (own_small s w t number plain) own)

  source_given : (x : Context) → IsWritten x → (ts : List Token) (c : Calc) → Source LengthPercentage r (as_length x) ts c → Back (mixed_item c)
  source_given x written ts c (one n u takes within small counted same) =
      subst (λ (d : Calc). Back (mixed_item d)) same (one_given x (exact_number n) u takes counted (written n u small within))
  source_given x written ts c (call_source t read takes counted same) =
      let (typed, linear) = and_true (takes_some LengthPercentage (type_of t)) (is_linear t) takes in
      subst (λ (d : Calc). Back (mixed_item d)) same (call_given x ts t (type_of t) refl read typed linear counted)

  zero_given_inside : (n : List ℕ) (v : Ratio) → zero_length n ≡ Fit v → IsInside r v
  zero_given_inside n v h =
      let (null, same) = if_fits (is_null n) (Fit zero_ratio) v h in
      subst (IsInside r) (fit_same zero_ratio v same) (zero_inside r)

  calc_given : (x : Context) → IsWritten x → (ts : List Token) (c : Calc) → length_percentage r x ts ≡ Fit c → Back (mixed_item c)
  calc_given x written (tokens.Number n ∷ []) c h =
      let (v, is, same) = mapped_fits (λ (w : Ratio). tree.Num w Px) (zero_length n) c h in
      subst (λ (d : Calc). Back (mixed_item d)) same (exact_back v Px (zero_given n v is) refl refl (zero_given_inside n v is))
  calc_given x written ts c h = source_given x written ts c (source LengthPercentage r (as_length x) ts c h)

  pub size_back : (x : Context) → IsWritten x → (ts : List Token) (i : Item) → mapped mixed_item (length_percentage r x ts) ≡ Fit i → Back i
  size_back x written ts i h =
      let (c, is, same) = mapped_fits mixed_item (length_percentage r x ts) i h in
      subst Back same (calc_given x written ts c is)

pub length_percentage_back : (y x : Context) (ts : List Token) (i : Item) → item kinds.LengthPercentage x ts ≡ Fit i → ItemBack kinds.LengthPercentage y i
length_percentage_back y x ts i h =
    let back : SizeReadsBack All y i = size_back All y x (λ n u small within. tt) ts i h in
    record { back = back.back; read = back.read; same = back.same }
