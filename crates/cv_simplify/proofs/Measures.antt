-- Kinds of calculations: what the units of a linear calculation tell of its type.
use Rattle.std.specs.Prelude.{Bool, true, false, ◌||◌, Option, Some, None, if◌then◌else◌}
use Rattle.std.proofs.Common.{◌≡◌, refl, sym, ◌∙◌, ap}
use Rattle.std.proofs.Math.Path.{ap₂}
use denote.Enum.Bare.{sameb, same_true}
use Rattle.cv_calc.specs.contracts.unit.Base.{the_type}
use Rattle.cv_calc.specs.declared.unit.Base.{Base}
use Rattle.cv_calc.specs.declared.unit.Base.TheVariants.{Length, Angle, Time, Frequency, Resolution, Flex}

-- percentages alone, one base, with percentages or without, or several bases
pub data Measure : Type 0 where
  percents : Measure
  based : Bool → Base → Measure
  mixed : Measure

-- no calculation, plain numbers, or what is measured
pub data Kind : Type 0 where
  nothing : Kind
  plain : Kind
  measured : Measure → Kind

-- ---- measures side by side

abbrev pub met : Measure → Measure → Measure
met percents percents = percents
met percents (based p a) = based true a
met percents mixed = mixed
met (based p a) percents = based true a
met (based p a) (based q b) = if sameb the_type a b then based (p || q) a else mixed
met (based p a) mixed = mixed
met mixed m = mixed

pub base_is : (a b : Base) → sameb the_type a b ≡ true → a ≡ b
base_is a b e = same_true the_type tt a b e

pub same_self : (a : Base) → sameb the_type a a ≡ true
same_self Length = refl
same_self Angle = refl
same_self Time = refl
same_self Frequency = refl
same_self Resolution = refl
same_self Flex = refl

or_comm : (p q : Bool) → (p || q) ≡ (q || p)
or_comm true true = refl
or_comm true false = refl
or_comm false true = refl
or_comm false false = refl

or_assoc : (p q r : Bool) → ((p || q) || r) ≡ (p || (q || r))
or_assoc true q r = refl
or_assoc false q r = refl

or_true : (p : Bool) → (p || true) ≡ true
or_true true = refl
or_true false = refl

or_self : (p : Bool) → (p || p) ≡ p
or_self true = refl
or_self false = refl

same_turned : (a b : Base) (s t : Bool) → sameb the_type a b ≡ s → sameb the_type b a ≡ t → s ≡ t
same_turned a b true t e f = sym (same_self a) ∙ ap (λ c. sameb the_type c a) (base_is a b e) ∙ f
same_turned a b false true e f = sym e ∙ ap (λ c. sameb the_type c b) (sym (base_is b a f)) ∙ same_self b
same_turned a b false false e f = refl

pub met_self : (m : Measure) → met m m ≡ m
met_self percents = refl
met_self (based p a) = rw (same_self a, or_self p) refl
met_self mixed = refl

pub met_comm : (m n : Measure) → met m n ≡ met n m
met_comm percents percents = refl
met_comm percents (based q b) = refl
met_comm percents mixed = refl
met_comm (based p a) percents = refl
met_comm (based p a) mixed = refl
met_comm mixed percents = refl
met_comm mixed (based q b) = refl
met_comm mixed mixed = refl
met_comm (based p a) (based q b) = go (sameb the_type a b) (sameb the_type b a) refl refl
  where
    go : (s t : Bool) → sameb the_type a b ≡ s → sameb the_type b a ≡ t → met (based p a) (based q b) ≡ met (based q b) (based p a)
    go true true e f = rw (e, f) (ap₂ based (or_comm p q) (base_is a b e))
    go false false e f = rw (e, f) refl
    go true false e f = let never : true ≡ false = same_turned a b true false e f in cc
    go false true e f = let never : false ≡ true = same_turned a b false true e f in cc

met_mixed : (m : Measure) → met m mixed ≡ mixed
met_mixed percents = refl
met_mixed (based p a) = refl
met_mixed mixed = refl

met_based : (p q r : Bool) (a b c : Base) → met (met (based p a) (based q b)) (based r c) ≡ met (based p a) (met (based q b) (based r c))
met_based p q r a b c = go (sameb the_type a b) (sameb the_type b c) refl refl
  where
    go : (s t : Bool) → sameb the_type a b ≡ s → sameb the_type b c ≡ t → met (met (based p a) (based q b)) (based r c) ≡ met (based p a) (met (based q b) (based r c))
    go true true e f =
        let third : sameb the_type a c ≡ true = ap (λ d. sameb the_type d c) (base_is a b e) ∙ f in
        rw (e, f, third, e, or_assoc p q r) refl
    go true false e f =
        let third : sameb the_type a c ≡ false = ap (λ d. sameb the_type d c) (base_is a b e) ∙ f in
        rw (e, f, third) refl
    go false true e f = rw (e, f, e) refl
    go false false e f = rw (e, f) refl

pub met_assoc : (m n o : Measure) → met (met m n) o ≡ met m (met n o)
met_assoc mixed n o = refl
met_assoc percents mixed o = refl
met_assoc (based p a) mixed o = refl
met_assoc percents percents percents = refl
met_assoc percents percents (based r c) = refl
met_assoc percents percents mixed = refl
met_assoc percents (based q b) percents = refl
met_assoc percents (based q b) mixed = refl
met_assoc (based p a) percents percents = refl
met_assoc (based p a) percents mixed = refl
met_assoc (based p a) (based q b) mixed = met_mixed (met (based p a) (based q b))
met_assoc percents (based q b) (based r c) = go (sameb the_type b c)
  where
    go : (s : Bool) → (if s then based true b else mixed) ≡ met percents (if s then based (q || r) b else mixed)
    go true = refl
    go false = refl
met_assoc (based p a) percents (based r c) = go (sameb the_type a c)
  where
    go : (s : Bool) → (if s then based true a else mixed) ≡ (if s then based (p || true) a else mixed)
    go true = ap (λ o. based o a) (sym (or_true p))
    go false = refl
met_assoc (based p a) (based q b) percents = go (sameb the_type a b)
  where
    go : (s : Bool) → met (if s then based (p || q) a else mixed) percents ≡ (if s then based (p || true) a else mixed)
    go true = ap (λ o. based o a) (sym (or_true p))
    go false = refl
met_assoc (based p a) (based q b) (based r c) = met_based p q r a b c

-- ---- kinds that are added, and kinds that are multiplied

abbrev pub added_kind : Kind → Kind → Option Kind
added_kind nothing k = Some k
added_kind plain nothing = Some plain
added_kind plain plain = Some plain
added_kind plain (measured n) = None
added_kind (measured m) nothing = Some (measured m)
added_kind (measured m) plain = None
added_kind (measured m) (measured n) = Some (measured (met m n))

-- at most one is measured
abbrev pub multiplied_kind : Kind → Kind → Option Kind
multiplied_kind nothing k = Some k
multiplied_kind plain nothing = Some plain
multiplied_kind plain plain = Some plain
multiplied_kind plain (measured n) = Some (measured n)
multiplied_kind (measured m) nothing = Some (measured m)
multiplied_kind (measured m) plain = Some (measured m)
multiplied_kind (measured m) (measured n) = None

-- both, where there are both
abbrev pub lifted : (Kind → Kind → Option Kind) → Option Kind → Option Kind → Option Kind
lifted f None o = None
lifted f (Some a) None = None
lifted f (Some a) (Some b) = f a b

pub added_comm : (o p : Option Kind) → lifted added_kind o p ≡ lifted added_kind p o
added_comm None None = refl
added_comm None (Some l) = refl
added_comm (Some k) None = refl
added_comm (Some k) (Some l) = go k l
  where
    go : (k l : Kind) → added_kind k l ≡ added_kind l k
    go nothing nothing = refl
    go nothing plain = refl
    go nothing (measured n) = refl
    go plain nothing = refl
    go plain plain = refl
    go plain (measured n) = refl
    go (measured m) nothing = refl
    go (measured m) plain = refl
    go (measured m) (measured n) = ap (λ o. Some (measured o)) (met_comm m n)

pub added_assoc : (o p q : Option Kind) → lifted added_kind (lifted added_kind o p) q ≡ lifted added_kind o (lifted added_kind p q)
added_assoc None p q = refl
added_assoc (Some k) None q = refl
added_assoc (Some k) (Some l) None = go (added_kind k l)
  where
    go : (o : Option Kind) → lifted added_kind o None ≡ None
    go None = refl
    go (Some k) = refl
added_assoc (Some k) (Some l) (Some n) = go k l n
  where
    first : (o : Option Kind) → o ≡ lifted added_kind (Some nothing) o
    first None = refl
    first (Some k) = refl

    go : (k l n : Kind) → lifted added_kind (added_kind k l) (Some n) ≡ lifted added_kind (Some k) (added_kind l n)
    go nothing l n = first (added_kind l n)
    go plain nothing n = refl
    go (measured m) nothing n = refl
    go plain plain nothing = refl
    go plain plain plain = refl
    go plain plain (measured n) = refl
    go plain (measured m) nothing = refl
    go plain (measured m) plain = refl
    go plain (measured m) (measured n) = refl
    go (measured m) plain nothing = refl
    go (measured m) plain plain = refl
    go (measured m) plain (measured n) = refl
    go (measured m) (measured n) nothing = refl
    go (measured m) (measured n) plain = refl
    go (measured m) (measured n) (measured o) = ap (λ p. Some (measured p)) (met_assoc m n o)

pub multiplied_comm : (o p : Option Kind) → lifted multiplied_kind o p ≡ lifted multiplied_kind p o
multiplied_comm None None = refl
multiplied_comm None (Some l) = refl
multiplied_comm (Some k) None = refl
multiplied_comm (Some k) (Some l) = go k l
  where
    go : (k l : Kind) → multiplied_kind k l ≡ multiplied_kind l k
    go nothing nothing = refl
    go nothing plain = refl
    go nothing (measured n) = refl
    go plain nothing = refl
    go plain plain = refl
    go plain (measured n) = refl
    go (measured m) nothing = refl
    go (measured m) plain = refl
    go (measured m) (measured n) = refl

pub multiplied_assoc : (o p q : Option Kind) → lifted multiplied_kind (lifted multiplied_kind o p) q ≡ lifted multiplied_kind o (lifted multiplied_kind p q)
multiplied_assoc None p q = refl
multiplied_assoc (Some k) None q = refl
multiplied_assoc (Some k) (Some l) None = go (multiplied_kind k l)
  where
    go : (o : Option Kind) → lifted multiplied_kind o None ≡ None
    go None = refl
    go (Some k) = refl
multiplied_assoc (Some k) (Some l) (Some n) = go k l n
  where
    first : (o : Option Kind) → o ≡ lifted multiplied_kind (Some nothing) o
    first None = refl
    first (Some k) = refl

    go : (k l n : Kind) → lifted multiplied_kind (multiplied_kind k l) (Some n) ≡ lifted multiplied_kind (Some k) (multiplied_kind l n)
    go nothing l n = first (multiplied_kind l n)
    go plain nothing n = refl
    go (measured m) nothing n = refl
    go plain plain nothing = refl
    go plain plain plain = refl
    go plain plain (measured n) = refl
    go plain (measured m) nothing = refl
    go plain (measured m) plain = refl
    go plain (measured m) (measured n) = refl
    go (measured m) plain nothing = refl
    go (measured m) plain plain = refl
    go (measured m) plain (measured n) = refl
    go (measured m) (measured n) nothing = refl
    go (measured m) (measured n) plain = refl
    go (measured m) (measured n) (measured o) = refl

pub added_none : (o : Option Kind) → lifted added_kind o (Some nothing) ≡ o
added_none None = refl
added_none (Some nothing) = refl
added_none (Some plain) = refl
added_none (Some (measured m)) = refl

pub multiplied_none : (o : Option Kind) → lifted multiplied_kind o (Some nothing) ≡ o
multiplied_none None = refl
multiplied_none (Some nothing) = refl
multiplied_none (Some plain) = refl
multiplied_none (Some (measured m)) = refl
