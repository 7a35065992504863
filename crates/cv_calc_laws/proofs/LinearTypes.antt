-- The types of linear calculations: that of a unit, or that of a percentage which stands for a base.
use Rattle.std.specs.Prelude.{Bool, true, false, ◌&&◌, List, [], ◌∷◌, Option, Some, None, if◌then◌else◌, ◌⊎◌}
use Rattle.std.specs.List.{list_all}
use Rattle.std.proofs.Common.{inl, inr, ◌≡◌, refl, sym, ◌∙◌, ap, subst}
use denote.Enum.Bare.{sameb, same_true}
use Rattle.cv_calc.specs.contracts.unit.Base.{the_type}
use Rattle.cv_calc.specs.declared.unit.Base.{Base}
use Rattle.cv_calc.specs.declared.unit.Base.TheVariants.{Length, Angle, Time, Frequency, Resolution, Flex}
use Rattle.cv_calc.specs.declared.unit.NumType.{NumType}
use Rattle.cv_calc.specs.declared.unit.Unit as units
use Rattle.cv_calc.specs.declared.unit.Unit.TheVariants.{Number, Percent, Px, Cm, Mm, Q, Inch, Pt, Pc, Em, Rem, Ex, Ch, Ic, Vw, Vh, Vmin, Vmax, Deg, Grad, Turn, S, Ms, Hz, Khz, Dppx, X, Dpi, Dpcm, Fr}
use Rattle.cv_calc.specs.Types.{added, tried_all, moved, same_powers, unit_type, with_hint}
use Rattle.cv_calc_laws.specs.Single.{is_length_percentage}
use Rattle.cv_calc_laws.proofs.Lists.{Every, false_true, and_both}
use Rattle.cv_calc_laws.proofs.UnitTypes.{same_type}

abbrev pub IsAmong : List NumType → NumType → Type 0
IsAmong [] t = ⊥
IsAmong (s ∷ ss) t = (t ≡ s) ⊎ IsAmong ss t

abbrev pub of_percent : Base → NumType
of_percent b = moved b (unit_type Percent)

abbrev pub types : List NumType
types = unit_type Number ∷ unit_type Percent ∷ unit_type Px ∷ unit_type Deg ∷ unit_type S ∷ unit_type Hz ∷ unit_type Dppx ∷ unit_type Fr
    ∷ of_percent Length ∷ of_percent Angle ∷ of_percent Time ∷ of_percent Frequency ∷ of_percent Resolution ∷ of_percent Flex ∷ []

abbrev pub IsLinearType : NumType → Type 0
IsLinearType t = IsAmong types t

pub unit_among : (u : units.Unit) → IsLinearType (unit_type u)
unit_among Number = inl refl
unit_among Percent = inr (inl refl)
unit_among Px = inr (inr (inl refl))
unit_among Cm = inr (inr (inl refl))
unit_among Mm = inr (inr (inl refl))
unit_among Q = inr (inr (inl refl))
unit_among Inch = inr (inr (inl refl))
unit_among Pt = inr (inr (inl refl))
unit_among Pc = inr (inr (inl refl))
unit_among Em = inr (inr (inl refl))
unit_among Rem = inr (inr (inl refl))
unit_among Ex = inr (inr (inl refl))
unit_among Ch = inr (inr (inl refl))
unit_among Ic = inr (inr (inl refl))
unit_among Vw = inr (inr (inl refl))
unit_among Vh = inr (inr (inl refl))
unit_among Vmin = inr (inr (inl refl))
unit_among Vmax = inr (inr (inl refl))
unit_among Deg = inr (inr (inr (inl refl)))
unit_among Grad = inr (inr (inr (inl refl)))
unit_among Turn = inr (inr (inr (inl refl)))
unit_among S = inr (inr (inr (inr (inl refl))))
unit_among Ms = inr (inr (inr (inr (inl refl))))
unit_among Hz = inr (inr (inr (inr (inr (inl refl)))))
unit_among Khz = inr (inr (inr (inr (inr (inl refl)))))
unit_among Dppx = inr (inr (inr (inr (inr (inr (inl refl))))))
unit_among X = inr (inr (inr (inr (inr (inr (inl refl))))))
unit_among Dpi = inr (inr (inr (inr (inr (inr (inl refl))))))
unit_among Dpcm = inr (inr (inr (inr (inr (inr (inl refl))))))
unit_among Fr = inr (inr (inr (inr (inr (inr (inr (inl refl)))))))

-- what holds of each of some types
of_each : (P : NumType → Type 0) (ss : List NumType) → Every P ss → (t : NumType) → IsAmong ss t → P t
of_each P [] h t k = absurd k
of_each P (s ∷ ss) h t (inl e) = subst P (sym e) h.0
of_each P (s ∷ ss) h t (inr k) = of_each P ss h.1 t k

tested : (test : NumType → Bool) (ss : List NumType) → list_all test ss ≡ true → Every (λ s. test s ≡ true) ss
tested test [] h = tt
tested test (s ∷ ss) h = let (first, rest) = and_both (test s) (list_all test ss) h in (first, tested test ss rest)

-- a type is kept under its own hint
pub own_hint : (t : NumType) → IsLinearType t → with_hint t.hint t ≡ Some t
own_hint = of_each (λ t. with_hint t.hint t ≡ Some t) types (refl, (refl, (refl, (refl, (refl, (refl, (refl, (refl, (refl, (refl, (refl, (refl, (refl, (refl, tt))))))))))))))

-- ---- sums

same_hint : Option Base → Option Base → Bool
same_hint None None = true
same_hint None (Some b) = false
same_hint (Some a) None = false
same_hint (Some a) (Some b) = sameb the_type a b

same_hint_is : (o p : Option Base) → same_hint o p ≡ true → o ≡ p
unfolding same_hint
same_hint_is None None h = refl
same_hint_is None (Some b) h = absurd (false_true h)
same_hint_is (Some a) None h = absurd (false_true h)
same_hint_is (Some a) (Some b) h = ap Some (same_true the_type tt a b h)

is_among : List NumType → NumType → Bool
is_among [] t = false
is_among (s ∷ ss) t = if same_powers t s && same_hint t.hint s.hint then true else is_among ss t

among_is : (ss : List NumType) (t : NumType) → is_among ss t ≡ true → IsAmong ss t
unfolding is_among
among_is [] t h = absurd (false_true h)
among_is (s ∷ ss) t h = go (same_powers t s && same_hint t.hint s.hint) refl h (λ k. among_is ss t k)
  where
    go : (b : Bool) → (same_powers t s && same_hint t.hint s.hint) ≡ b → (if b then true else is_among ss t) ≡ true → (is_among ss t ≡ true → IsAmong ss t) → (t ≡ s) ⊎ IsAmong ss t
    go true is h more = let (a, b) = and_both (same_powers t s) (same_hint t.hint s.hint) is in inl (same_type t s a (same_hint_is t.hint s.hint b))
    go false is h more = inr (more h)

-- what two types add up to is one again, and is a length only where both are
sum_passes : NumType → NumType → Option NumType → Bool
sum_passes s t None = true
sum_passes s t (Some w) = is_among types w && (if is_length_percentage w then is_length_percentage s && is_length_percentage t else true)

all_pass : list_all (λ s. list_all (λ t. sum_passes s t (added s t)) types) types ≡ true
unfolding added tried_all is_among same_hint sum_passes
all_pass = refl

passes : (s t : NumType) → IsLinearType s → IsLinearType t → sum_passes s t (added s t) ≡ true
passes s t h k =
    let row : list_all (λ t. sum_passes s t (added s t)) types ≡ true
    = of_each (λ s. list_all (λ t. sum_passes s t (added s t)) types ≡ true) types (tested (λ s. list_all (λ t. sum_passes s t (added s t)) types) types all_pass) s h in
    of_each (λ t. sum_passes s t (added s t) ≡ true) types (tested (λ t. sum_passes s t (added s t)) types row) t k

pub sum_is_linear : (s t w : NumType) → IsLinearType s → IsLinearType t → added s t ≡ Some w → IsLinearType w × (is_length_percentage w ≡ true → (is_length_percentage s ≡ true) × (is_length_percentage t ≡ true))
unfolding sum_passes
sum_is_linear s t w h k e =
    let pass : sum_passes s t (Some w) ≡ true = ap (sum_passes s t) (sym e) ∙ passes s t h k in
    let (first, second) = and_both (is_among types w) (if is_length_percentage w then is_length_percentage s && is_length_percentage t else true) pass in
    (among_is types w first, λ l. and_both (is_length_percentage s) (is_length_percentage t) (ap (λ b. if b then is_length_percentage s && is_length_percentage t else true) (sym l) ∙ second))
