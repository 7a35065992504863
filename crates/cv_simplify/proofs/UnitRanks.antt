-- Units of one rank are one.
use Rattle.std.specs.Prelude.{true, List, [], ◌∷◌, slice_get, Some}
use Rattle.std.proofs.Common.{◌≡◌, ◌<◌, refl, sym, ◌∙◌, ap, arith}
use Rattle.cv_calc.specs.declared.unit.Unit as units
use Rattle.cv_calc.specs.declared.unit.Unit.TheVariants.{Number, Percent, Px, Cm, Mm, Q, Inch, Pt, Pc, Em, Rem, Ex, Ch, Ic, Vw, Vh, Vmin, Vmax, Deg, Grad, Turn, S, Ms, Hz, Khz, Dppx, X, Dpi, Dpcm, Fr}
use Rattle.cv_calc.specs.Unit.{same_unit}
use Rattle.cv_simplify.specs.Text.{unit_rank, last_rank}

abbrev ranked_units : List units.Unit
ranked_units =
    Number ∷ Percent ∷ Q ∷ Ch ∷ Cm ∷ Deg ∷ Dpcm ∷ Dpi ∷ Dppx ∷ Em ∷ Ex ∷ Fr ∷ Grad ∷ Hz ∷ Ic ∷ Inch ∷ Khz ∷ Mm ∷ Ms ∷ Pc ∷ Pt ∷ Px ∷ Rem ∷ S ∷ Turn ∷ Vh ∷ Vmax ∷ Vmin ∷ Vw ∷ X ∷ []

rank_back : (u : units.Unit) → slice_get ranked_units (unit_rank u) ≡ Some u
rank_back Number = refl
rank_back _ = refl

pub same_rank : (u t : units.Unit) → unit_rank u ≡ unit_rank t → u ≡ t
same_rank u t e =
    let back : Some u ≡ Some t = sym (rank_back u) ∙ ap (slice_get ranked_units) e ∙ rank_back t in cc

pub same_self : (u : units.Unit) → same_unit u u ≡ true
same_self Number = refl
same_self _ = refl

pub rank_below : (u : units.Unit) → unit_rank u < last_rank
rank_below Number = omega arith
rank_below _ = omega arith
