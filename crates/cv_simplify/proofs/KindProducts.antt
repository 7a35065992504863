-- The types of kinds that are multiplied.
use Rattle.std.specs.Prelude.{Bool, true, false, Option, Some, None}
use Rattle.std.specs.Option.{option_and_then}
use Rattle.std.proofs.Common.{◌≡◌, refl, sym, ◌∙◌, ap, subst}
use Rattle.cv_calc.specs.declared.unit.NumType.{NumType}
use Rattle.cv_calc.specs.declared.unit.Base.{Base}
use Rattle.cv_calc.specs.declared.unit.Base.TheVariants.{Length, Angle, Time, Frequency, Resolution, Flex}
use Rattle.cv_calc.specs.Types.{no_powers, multiplied, multiplied_next, shared_next, negated}
use Rattle.cv_calc.specs.Linear.{is_plain}
use Rattle.cv_simplify.proofs.Measures.{Measure, percents, based, mixed, Kind, nothing, plain, measured, multiplied_kind}
use Rattle.cv_simplify.proofs.KindTypes.{hint_if, measure_type, kind_type, IsReal}

-- ---- types that are multiplied

-- the hint of a kind's type
abbrev pub kind_hint : Kind → Option (Option Base)
kind_hint nothing = Some None
kind_hint plain = Some None
kind_hint (measured percents) = Some None
kind_hint (measured (based p a)) = Some (hint_if p a)
kind_hint (measured mixed) = None

-- the type of a product so far, under a hint
abbrev pub type_under : Option Base → Kind → Option NumType
type_under h nothing = Some (no_powers h)
type_under h plain = Some (no_powers h)
type_under h (measured m) = measure_type m

-- a hint is that of a kind, or the kind is one of plain numbers
abbrev pub IsHint : Option Base → Kind → Type 0
IsHint h nothing = Unit {0}
IsHint h plain = Unit {0}
IsHint h (measured percents) = h ≡ None
IsHint h (measured (based p a)) = h ≡ hint_if p a
IsHint h (measured mixed) = Unit {0}

plain_under : (h : Option Base) → multiplied_next h (Some (no_powers h)) (Some (no_powers None)) ≡ Some (no_powers h)
unfolding multiplied
plain_under None = refl
plain_under (Some Length) = refl
plain_under (Some Angle) = refl
plain_under (Some Time) = refl
plain_under (Some Frequency) = refl
plain_under (Some Resolution) = refl
plain_under (Some Flex) = refl

based_under : (p : Bool) (a : Base) → multiplied_next (hint_if p a) (Some (no_powers (hint_if p a))) (measure_type (based p a)) ≡ measure_type (based p a)
unfolding multiplied
based_under true Length = refl
based_under false Length = refl
based_under true Angle = refl
based_under false Angle = refl
based_under true Time = refl
based_under false Time = refl
based_under true Frequency = refl
based_under false Frequency = refl
based_under true Resolution = refl
based_under false Resolution = refl
based_under true Flex = refl
based_under false Flex = refl

under_based : (p : Bool) (a : Base) → multiplied_next (hint_if p a) (measure_type (based p a)) (kind_type plain) ≡ measure_type (based p a)
unfolding multiplied
under_based true Length = refl
under_based false Length = refl
under_based true Angle = refl
under_based false Angle = refl
under_based true Time = refl
under_based false Time = refl
under_based true Frequency = refl
under_based false Frequency = refl
under_based true Resolution = refl
under_based false Resolution = refl
under_based true Flex = refl
under_based false Flex = refl

percents_under : multiplied_next None (Some (no_powers None)) (measure_type percents) ≡ measure_type percents
unfolding multiplied
percents_under = refl

under_percents : multiplied_next None (measure_type percents) (kind_type plain) ≡ measure_type percents
unfolding multiplied
under_percents = refl

measured_under : (h : Option Base) (m : Measure) → IsHint h (measured m) → multiplied_next h (Some (no_powers h)) (measure_type m) ≡ measure_type m
measured_under h percents i = subst (λ (g : Option Base). multiplied_next g (Some (no_powers g)) (measure_type percents) ≡ measure_type percents) (sym i) percents_under
measured_under h (based p a) i = subst (λ (g : Option Base). multiplied_next g (Some (no_powers g)) (measure_type (based p a)) ≡ measure_type (based p a)) (sym i) (based_under p a)
measured_under h mixed i = refl

under_measured : (h : Option Base) (m : Measure) → IsHint h (measured m) → multiplied_next h (measure_type m) (kind_type plain) ≡ measure_type m
under_measured h percents i = subst (λ (g : Option Base). multiplied_next g (measure_type percents) (kind_type plain) ≡ measure_type percents) (sym i) under_percents
under_measured h (based p a) i = subst (λ (g : Option Base). multiplied_next g (measure_type (based p a)) (kind_type plain) ≡ measure_type (based p a)) (sym i) (under_based p a)
under_measured h mixed i = refl

pub hint_before : (h : Option Base) (k l n : Kind) → multiplied_kind k l ≡ Some n → IsHint h n → IsHint h k
hint_before h nothing l n e i = tt
hint_before h plain l n e i = tt
hint_before h (measured m) nothing n e i = let same : measured m ≡ n = cc in subst (IsHint h) (sym same) i
hint_before h (measured m) plain n e i = let same : measured m ≡ n = cc in subst (IsHint h) (sym same) i
hint_before h (measured m) (measured o) n e i = cc

pub multiplied_step : (h : Option Base) (k l n : Kind) → IsReal l → multiplied_kind k l ≡ Some n → IsHint h n → multiplied_next h (type_under h k) (kind_type l) ≡ type_under h n
multiplied_step h k nothing n r e i = absurd r
multiplied_step h nothing plain n r e i = let same : plain ≡ n = cc in plain_under h ∙ ap (type_under h) same
multiplied_step h nothing (measured m) n r e i = let same : measured m ≡ n = cc in measured_under h m (subst (IsHint h) (sym same) i) ∙ ap (type_under h) same
multiplied_step h plain plain n r e i = let same : plain ≡ n = cc in plain_under h ∙ ap (type_under h) same
multiplied_step h plain (measured m) n r e i = let same : measured m ≡ n = cc in measured_under h m (subst (IsHint h) (sym same) i) ∙ ap (type_under h) same
multiplied_step h (measured m) plain n r e i = let same : measured m ≡ n = cc in under_measured h m (subst (IsHint h) (sym same) i) ∙ ap (type_under h) same
multiplied_step h (measured m) (measured o) n r e i = cc

hint_first : (m : Measure) → shared_next (Some None) (measure_type m) ≡ kind_hint (measured m)
hint_first percents = refl
hint_first mixed = refl
hint_first (based true Length) = refl
hint_first (based false Length) = refl
hint_first (based true Angle) = refl
hint_first (based false Angle) = refl
hint_first (based true Time) = refl
hint_first (based false Time) = refl
hint_first (based true Frequency) = refl
hint_first (based false Frequency) = refl
hint_first (based true Resolution) = refl
hint_first (based false Resolution) = refl
hint_first (based true Flex) = refl
hint_first (based false Flex) = refl

hint_stays : (m : Measure) → shared_next (kind_hint (measured m)) (kind_type plain) ≡ kind_hint (measured m)
hint_stays percents = refl
hint_stays mixed = refl
hint_stays (based true a) = refl
hint_stays (based false a) = refl

pub shared_step : (k l n : Kind) → IsReal l → multiplied_kind k l ≡ Some n → shared_next (kind_hint k) (kind_type l) ≡ kind_hint n
shared_step k nothing n r e = absurd r
shared_step nothing plain n r e = let same : plain ≡ n = cc in ap kind_hint same
shared_step nothing (measured m) n r e = let same : measured m ≡ n = cc in hint_first m ∙ ap kind_hint same
shared_step plain plain n r e = let same : plain ≡ n = cc in ap kind_hint same
shared_step plain (measured m) n r e = let same : measured m ≡ n = cc in hint_first m ∙ ap kind_hint same
shared_step (measured m) plain n r e = let same : measured m ≡ n = cc in hint_stays m ∙ ap kind_hint same
shared_step (measured m) (measured o) n r e = cc

pub multiplied_real : (k l n : Kind) → IsReal k → multiplied_kind k l ≡ Some n → IsReal n
multiplied_real nothing l n r e = absurd r
multiplied_real plain nothing n r e = let same : plain ≡ n = cc in subst IsReal same tt
multiplied_real plain plain n r e = let same : plain ≡ n = cc in subst IsReal same tt
multiplied_real plain (measured m) n r e = let same : measured m ≡ n = cc in subst IsReal same tt
multiplied_real (measured m) nothing n r e = let same : measured m ≡ n = cc in subst IsReal same tt
multiplied_real (measured m) plain n r e = let same : measured m ≡ n = cc in subst IsReal same tt
multiplied_real (measured m) (measured o) n r e = cc

-- the type of a product, by its hint
pub type_by_hint : (k : Kind) → IsReal k → (f : Option Base → Option NumType) → ((h : Option Base) → IsHint h k → f h ≡ type_under h k) → option_and_then f (kind_hint k) ≡ kind_type k
type_by_hint nothing r f is = absurd r
type_by_hint plain r f is = is None tt
type_by_hint (measured percents) r f is = is None refl
type_by_hint (measured (based p a)) r f is = is (hint_if p a) refl
type_by_hint (measured mixed) r f is = refl

-- ---- divisors, and what is plain

pub plain_inverse : option_and_then negated (kind_type plain) ≡ kind_type plain
plain_inverse = refl

abbrev pub is_plain_kind : Kind → Bool
is_plain_kind nothing = false
is_plain_kind plain = true
is_plain_kind (measured m) = false

pub plain_type : (k : Kind) → is_plain (kind_type k) ≡ is_plain_kind k
plain_type nothing = refl
plain_type plain = refl
plain_type (measured percents) = refl
plain_type (measured mixed) = refl
plain_type (measured (based true Length)) = refl
plain_type (measured (based false Length)) = refl
plain_type (measured (based true Angle)) = refl
plain_type (measured (based false Angle)) = refl
plain_type (measured (based true Time)) = refl
plain_type (measured (based false Time)) = refl
plain_type (measured (based true Frequency)) = refl
plain_type (measured (based false Frequency)) = refl
plain_type (measured (based true Resolution)) = refl
plain_type (measured (based false Resolution)) = refl
plain_type (measured (based true Flex)) = refl
plain_type (measured (based false Flex)) = refl
