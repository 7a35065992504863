-- The types of the kinds, and what they give where they are added.
use Rattle.std.specs.Prelude.{Bool, true, false, ◌||◌, pos, Option, Some, None, if◌then◌else◌}
use Rattle.std.proofs.Common.{◌≡◌, refl, ◌∙◌, ap, subst}
use denote.Enum.Bare.{sameb}
use Rattle.cv_calc.specs.contracts.unit.Base.{the_type}
use Rattle.cv_calc.specs.declared.unit.NumType.{NumType}
use Rattle.cv_calc.specs.declared.unit.Base.{Base}
use Rattle.cv_calc.specs.declared.unit.Base.TheVariants.{Length, Angle, Time, Frequency, Resolution, Flex}
use Rattle.cv_calc.specs.Types.{powers, no_powers, added, added_next, tried_all}
use Rattle.cv_simplify.proofs.Measures.{Measure, percents, based, mixed, Kind, nothing, plain, measured, met, base_is, added_kind}

abbrev pub hint_if : Bool → Base → Option Base
hint_if true a = Some a
hint_if false a = None

abbrev pub base_powers : Option Base → Base → NumType
base_powers h Length = powers (pos 1) (pos 0) (pos 0) (pos 0) (pos 0) (pos 0) (pos 0) h
base_powers h Angle = powers (pos 0) (pos 1) (pos 0) (pos 0) (pos 0) (pos 0) (pos 0) h
base_powers h Time = powers (pos 0) (pos 0) (pos 1) (pos 0) (pos 0) (pos 0) (pos 0) h
base_powers h Frequency = powers (pos 0) (pos 0) (pos 0) (pos 1) (pos 0) (pos 0) (pos 0) h
base_powers h Resolution = powers (pos 0) (pos 0) (pos 0) (pos 0) (pos 1) (pos 0) (pos 0) h
base_powers h Flex = powers (pos 0) (pos 0) (pos 0) (pos 0) (pos 0) (pos 1) (pos 0) h

abbrev pub measure_type : Measure → Option NumType
measure_type percents = Some (powers (pos 0) (pos 0) (pos 0) (pos 0) (pos 0) (pos 0) (pos 1) None)
measure_type (based p a) = Some (base_powers (hint_if p a) a)
measure_type mixed = None

abbrev pub kind_type : Kind → Option NumType
kind_type nothing = None
kind_type plain = Some (no_powers None)
kind_type (measured m) = measure_type m

-- something of a kind
abbrev pub IsReal : Kind → Type 0
IsReal nothing = ⊥
IsReal plain = Unit {0}
IsReal (measured m) = Unit {0}

-- ---- types that are added

percents_first : (p : Bool) (a : Base) → added_next (measure_type percents) (measure_type (based p a)) ≡ measure_type (based true a)
unfolding added tried_all
percents_first true Length = refl
percents_first false Length = refl
percents_first true Angle = refl
percents_first false Angle = refl
percents_first true Time = refl
percents_first false Time = refl
percents_first true Frequency = refl
percents_first false Frequency = refl
percents_first true Resolution = refl
percents_first false Resolution = refl
percents_first true Flex = refl
percents_first false Flex = refl

percents_last : (p : Bool) (a : Base) → added_next (measure_type (based p a)) (measure_type percents) ≡ measure_type (based true a)
unfolding added tried_all
percents_last true Length = refl
percents_last false Length = refl
percents_last true Angle = refl
percents_last false Angle = refl
percents_last true Time = refl
percents_last false Time = refl
percents_last true Frequency = refl
percents_last false Frequency = refl
percents_last true Resolution = refl
percents_last false Resolution = refl
percents_last true Flex = refl
percents_last false Flex = refl

one_base : (p q : Bool) (a : Base) → added_next (measure_type (based p a)) (measure_type (based q a)) ≡ measure_type (based (p || q) a)
unfolding added tried_all
one_base true true Length = refl
one_base true false Length = refl
one_base false true Length = refl
one_base false false Length = refl
one_base true true Angle = refl
one_base true false Angle = refl
one_base false true Angle = refl
one_base false false Angle = refl
one_base true true Time = refl
one_base true false Time = refl
one_base false true Time = refl
one_base false false Time = refl
one_base true true Frequency = refl
one_base true false Frequency = refl
one_base false true Frequency = refl
one_base false false Frequency = refl
one_base true true Resolution = refl
one_base true false Resolution = refl
one_base false true Resolution = refl
one_base false false Resolution = refl
one_base true true Flex = refl
one_base true false Flex = refl
one_base false true Flex = refl
one_base false false Flex = refl

two_bases : (p q : Bool) (a b : Base) → sameb the_type a b ≡ false → added_next (measure_type (based p a)) (measure_type (based q b)) ≡ None
unfolding added tried_all
two_bases true true Length Length e = cc
two_bases true true Length _ e = refl
two_bases true true Angle Angle e = cc
two_bases true true Angle _ e = refl
two_bases true true Time Time e = cc
two_bases true true Time _ e = refl
two_bases true true Frequency Frequency e = cc
two_bases true true Frequency _ e = refl
two_bases true true Resolution Resolution e = cc
two_bases true true Resolution _ e = refl
two_bases true true Flex Flex e = cc
two_bases true true Flex _ e = refl
two_bases true false Length Length e = cc
two_bases true false Length _ e = refl
two_bases true false Angle Angle e = cc
two_bases true false Angle _ e = refl
two_bases true false Time Time e = cc
two_bases true false Time _ e = refl
two_bases true false Frequency Frequency e = cc
two_bases true false Frequency _ e = refl
two_bases true false Resolution Resolution e = cc
two_bases true false Resolution _ e = refl
two_bases true false Flex Flex e = cc
two_bases true false Flex _ e = refl
two_bases false true Length Length e = cc
two_bases false true Length _ e = refl
two_bases false true Angle Angle e = cc
two_bases false true Angle _ e = refl
two_bases false true Time Time e = cc
two_bases false true Time _ e = refl
two_bases false true Frequency Frequency e = cc
two_bases false true Frequency _ e = refl
two_bases false true Resolution Resolution e = cc
two_bases false true Resolution _ e = refl
two_bases false true Flex Flex e = cc
two_bases false true Flex _ e = refl
two_bases false false Length Length e = cc
two_bases false false Length _ e = refl
two_bases false false Angle Angle e = cc
two_bases false false Angle _ e = refl
two_bases false false Time Time e = cc
two_bases false false Time _ e = refl
two_bases false false Frequency Frequency e = cc
two_bases false false Frequency _ e = refl
two_bases false false Resolution Resolution e = cc
two_bases false false Resolution _ e = refl
two_bases false false Flex Flex e = cc
two_bases false false Flex _ e = refl

percents_twice : added_next (measure_type percents) (measure_type percents) ≡ measure_type percents
unfolding added
percents_twice = refl

added_measures : (m n : Measure) → added_next (measure_type m) (measure_type n) ≡ measure_type (met m n)
added_measures mixed n = refl
added_measures percents mixed = refl
added_measures (based p a) mixed = refl
added_measures percents percents = percents_twice
added_measures percents (based q b) = percents_first q b
added_measures (based p a) percents = percents_last p a
added_measures (based p a) (based q b) = go (sameb the_type a b) refl
  where
    go : (s : Bool) → sameb the_type a b ≡ s → added_next (measure_type (based p a)) (measure_type (based q b)) ≡ measure_type (if s then based (p || q) a else mixed)
    go true e = subst (λ (c : Base). added_next (measure_type (based p a)) (measure_type (based q c)) ≡ measure_type (based (p || q) a)) (base_is a b e) (one_base p q a)
    go false e = two_bases p q a b e

plain_and_measured : (m : Measure) → added_next (kind_type plain) (measure_type m) ≡ None
unfolding added tried_all
plain_and_measured percents = refl
plain_and_measured mixed = refl
plain_and_measured (based true Length) = refl
plain_and_measured (based false Length) = refl
plain_and_measured (based true Angle) = refl
plain_and_measured (based false Angle) = refl
plain_and_measured (based true Time) = refl
plain_and_measured (based false Time) = refl
plain_and_measured (based true Frequency) = refl
plain_and_measured (based false Frequency) = refl
plain_and_measured (based true Resolution) = refl
plain_and_measured (based false Resolution) = refl
plain_and_measured (based true Flex) = refl
plain_and_measured (based false Flex) = refl

measured_and_plain : (m : Measure) → added_next (measure_type m) (kind_type plain) ≡ None
unfolding added tried_all
measured_and_plain percents = refl
measured_and_plain mixed = refl
measured_and_plain (based true Length) = refl
measured_and_plain (based false Length) = refl
measured_and_plain (based true Angle) = refl
measured_and_plain (based false Angle) = refl
measured_and_plain (based true Time) = refl
measured_and_plain (based false Time) = refl
measured_and_plain (based true Frequency) = refl
measured_and_plain (based false Frequency) = refl
measured_and_plain (based true Resolution) = refl
measured_and_plain (based false Resolution) = refl
measured_and_plain (based true Flex) = refl
measured_and_plain (based false Flex) = refl

plain_twice : added_next (kind_type plain) (kind_type plain) ≡ kind_type plain
unfolding added
plain_twice = refl

pub added_step : (k l n : Kind) → IsReal k → IsReal l → added_kind k l ≡ Some n → (added_next (kind_type k) (kind_type l) ≡ kind_type n) × IsReal n
added_step nothing l n h i e = absurd h
added_step k nothing n h i e = absurd i
added_step plain plain n h i e =
    let same : plain ≡ n = cc in
    (plain_twice ∙ ap kind_type same, subst IsReal same tt)
added_step plain (measured m) n h i e = cc
added_step (measured m) plain n h i e = cc
added_step (measured m) (measured o) n h i e =
    let same : measured (met m o) ≡ n = cc in
    (added_measures m o ∙ ap kind_type same, subst IsReal same tt)

-- kinds that don't add have types that don't
pub not_added : (k l : Kind) → IsReal k → IsReal l → added_kind k l ≡ None → added_next (kind_type k) (kind_type l) ≡ None
not_added nothing l h i e = absurd h
not_added k nothing h i e = absurd i
not_added plain plain h i e = cc
not_added plain (measured m) h i e = plain_and_measured m
not_added (measured m) plain h i e = measured_and_plain m
not_added (measured m) (measured o) h i e = cc
