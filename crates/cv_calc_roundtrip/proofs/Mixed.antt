-- The types of lengths, percentages and what is mixed of them, and their sums.
use Rattle.std.specs.Prelude.{true, false, List, [], ◌∷◌, map, fold, Option, Some, None}
use Rattle.std.proofs.Common.{◌≡◌, refl, sym, ◌∙◌, ap}
use Rattle.cv_calc.specs.declared.unit.NumType.{NumType}
use Rattle.cv_spec_ratio.specs.Ratio.{zero_ratio}
use Rattle.cv_calc.specs.declared.unit.Unit.TheVariants.{Px, Percent}
use Rattle.cv_calc.specs.declared.calc.Calc.{Calc}
use Rattle.cv_calc.specs.declared.calc.Calc.TheVariants.{Num, Sum}
use Rattle.cv_calc.specs.Types.{added, tried_all}
use Rattle.cv_calc.specs.Linear.{added_shape, sum_shape, unit_shape, shape}
use Rattle.cv_calc.proofs.Shapes.{shape-Num, shape-Sum}
use Rattle.std.proofs.Math.Path.{ap₂}
use Rattle.cv_calc.specs.declared.unit.Base.TheVariants.{Length}
use Rattle.cv_calc.specs.Types.{unit_type}
use Rattle.cv_calc_laws.specs.Single.{is_length_percentage}

pub data Kind : Type 0 where
  lengths : Kind
  percents : Kind
  mixed : Kind

abbrev pub kind_type : Kind → NumType
kind_type lengths = unit_type Px
kind_type percents = unit_type Percent
kind_type mixed = record (unit_type Px) { hint = Some Length }

pub kind_taken : (k : Kind) → is_length_percentage (kind_type k) ≡ true
kind_taken lengths = refl
kind_taken percents = refl
kind_taken mixed = refl

-- a calculation of the kind
abbrev pub model : Kind → Calc
model lengths = Num zero_ratio Px
model percents = Num zero_ratio Percent
model mixed = Sum (Num zero_ratio Px ∷ Num zero_ratio Percent ∷ [])

abbrev pub join : Kind → Kind → Kind
join lengths lengths = lengths
join percents percents = percents
join _ _ = mixed

pub model_mixed : shape (model mixed) ≡ added_shape (unit_shape Px) (unit_shape Percent)
unfolding sum_shape
model_mixed = shape-Sum (Num zero_ratio Px ∷ Num zero_ratio Percent ∷ []) ∙ ap₂ added_shape (shape-Num zero_ratio Px) (shape-Num zero_ratio Percent)

pub added_kinds : (a b : Kind) → added_shape (shape (model a)) (shape (model b)) ≡ shape (model (join a b))
unfolding added tried_all
added_kinds lengths lengths = ap₂ added_shape (shape-Num zero_ratio Px) (shape-Num zero_ratio Px) ∙ sym (shape-Num zero_ratio Px)
added_kinds lengths percents = ap₂ added_shape (shape-Num zero_ratio Px) (shape-Num zero_ratio Percent) ∙ sym model_mixed
added_kinds lengths mixed = ap₂ added_shape (shape-Num zero_ratio Px) model_mixed ∙ sym model_mixed
added_kinds percents lengths = ap₂ added_shape (shape-Num zero_ratio Percent) (shape-Num zero_ratio Px) ∙ sym model_mixed
added_kinds percents percents = ap₂ added_shape (shape-Num zero_ratio Percent) (shape-Num zero_ratio Percent) ∙ sym (shape-Num zero_ratio Percent)
added_kinds percents mixed = ap₂ added_shape (shape-Num zero_ratio Percent) model_mixed ∙ sym model_mixed
added_kinds mixed lengths = ap₂ added_shape model_mixed (shape-Num zero_ratio Px) ∙ sym model_mixed
added_kinds mixed percents = ap₂ added_shape model_mixed (shape-Num zero_ratio Percent) ∙ sym model_mixed
added_kinds mixed mixed = ap₂ added_shape model_mixed model_mixed ∙ sym model_mixed

-- what is known of a calculation that is found as one of the kind is
pub model_kind : (k : Kind) → (shape (model k)).kind ≡ Some (kind_type k)
unfolding added tried_all
model_kind lengths = ap (λ s. s.kind) (shape-Num zero_ratio Px)
model_kind percents = ap (λ s. s.kind) (shape-Num zero_ratio Percent)
model_kind mixed = ap (λ s. s.kind) model_mixed

pub model_fits : (k : Kind) → (shape (model k)).fits ≡ true
model_fits lengths = ap (λ s. s.fits) (shape-Num zero_ratio Px)
model_fits percents = ap (λ s. s.fits) (shape-Num zero_ratio Percent)
model_fits mixed = ap (λ s. s.fits) model_mixed

pub model_numbers : (k : Kind) → (shape (model k)).numbers ≡ false
model_numbers lengths = ap (λ s. s.numbers) (shape-Num zero_ratio Px)
model_numbers percents = ap (λ s. s.numbers) (shape-Num zero_ratio Percent)
model_numbers mixed = ap (λ s. s.numbers) model_mixed

-- ---- of any number of kinds, in any order

abbrev pub merge : Option Kind → Option Kind → Option Kind
merge None o = o
merge (Some a) None = Some a
merge (Some a) (Some b) = Some (join a b)

pub merge_comm : (o p : Option Kind) → merge o p ≡ merge p o
merge_comm None None = refl
merge_comm None (Some b) = refl
merge_comm (Some a) None = refl
merge_comm (Some a) (Some b) = ap Some (join_comm a b)
  where
    join_comm : (a b : Kind) → join a b ≡ join b a
    join_comm lengths lengths = refl
    join_comm lengths percents = refl
    join_comm lengths mixed = refl
    join_comm percents lengths = refl
    join_comm percents percents = refl
    join_comm percents mixed = refl
    join_comm mixed lengths = refl
    join_comm mixed percents = refl
    join_comm mixed mixed = refl

join_mixed : (a : Kind) → join a mixed ≡ mixed
join_mixed lengths = refl
join_mixed percents = refl
join_mixed mixed = refl

join_assoc : (a b c : Kind) → join (join a b) c ≡ join a (join b c)
join_assoc lengths lengths lengths = refl
join_assoc lengths lengths percents = refl
join_assoc lengths lengths mixed = refl
join_assoc lengths percents lengths = refl
join_assoc lengths percents percents = refl
join_assoc lengths percents mixed = refl
join_assoc lengths mixed c = refl
join_assoc percents lengths lengths = refl
join_assoc percents lengths percents = refl
join_assoc percents lengths mixed = refl
join_assoc percents percents lengths = refl
join_assoc percents percents percents = refl
join_assoc percents percents mixed = refl
join_assoc percents mixed c = refl
join_assoc mixed b c = refl

pub merge_assoc : (o p q : Option Kind) → merge (merge o p) q ≡ merge o (merge p q)
merge_assoc None p q = refl
merge_assoc (Some a) None q = refl
merge_assoc (Some a) (Some b) None = refl
merge_assoc (Some a) (Some b) (Some c) = ap Some (join_assoc a b c)

pub merge_none : (o : Option Kind) → merge o None ≡ o
merge_none None = refl
merge_none (Some a) = refl

abbrev pub merged : List Kind → Option Kind
merged [] = None
merged (k ∷ ks) = merge (Some k) (merged ks)

merged_fold : (k : Kind) (ks : List Kind) → Some (fold join k ks) ≡ merged (k ∷ ks)
merged_fold k [] = refl
merged_fold k (l ∷ ks) = merged_fold (join k l) ks ∙ merge_assoc (Some k) (Some l) (merged ks)

added_fold : (k : Kind) (ks : List Kind) → fold added_shape (shape (model k)) (map (λ l. shape (model l)) ks) ≡ shape (model (fold join k ks))
added_fold k [] = refl
added_fold k (l ∷ ks) = ap (λ s. fold added_shape s (map (λ l. shape (model l)) ks)) (added_kinds k l) ∙ added_fold (join k l) ks

-- the shape of a sum
pub sum_kinds : (ks : List Kind) (k : Kind) → merged ks ≡ Some k → sum_shape (map (λ l. shape (model l)) ks) ≡ shape (model k)
unfolding sum_shape
sum_kinds [] k h = absurd cc
sum_kinds (l ∷ ks) k h =
    let same : Some (fold join l ks) ≡ Some k = merged_fold l ks ∙ h in
    let is : fold join l ks ≡ k = cc in
    added_fold l ks ∙ ap (λ l. shape (model l)) is

-- the kind of a sum of some kinds
pub joined_kind : Kind → List Kind → Kind
joined_kind k [] = k
joined_kind k (l ∷ ks) = join k (joined_kind l ks)

pub joined_merged : (k : Kind) (ks : List Kind) → merged (k ∷ ks) ≡ Some (joined_kind k ks)
unfolding joined_kind
joined_merged k [] = refl
joined_merged k (l ∷ ks) = ap (merge (Some k)) (joined_merged l ks)
