-- A unit is found by its name, and what is found has the name.
use Rattle.std.specs.Prelude.{ℕ, Bool, true, false, List, [], ◌∷◌, map, Option, Some, IfSome, if◌then◌else◌}
use Rattle.std.specs.Char.{to_ascii_lowercase}
use Rattle.std.specs.Str.{bytes_eq}
use Rattle.std.proofs.Common.{◌≡◌, refl, ◌∙◌, ap}
use Rattle.std.proofs.lemmas.Slice.Eq.{bytes_eq-Decides}
use Rattle.cv_calc.specs.declared.unit.Unit as units
use Rattle.cv_calc.specs.declared.unit.Unit.TheVariants.{Number}
use Rattle.cv_calc.specs.Names.{unit_text, named, named_units, HasName, is_name_of, first_named, unit_with_name}

-- each unit's own name, and the two words that are none
pub name_back : (u : units.Unit) → unit_with_name (unit_text u) ≡ named u
unfolding unit_with_name first_named
name_back Number = refl
name_back _ = refl

pub name_found : (u : units.Unit) → HasName u → unit_with_name (unit_text u) ≡ Some u
name_found u h = name_back u ∙ h

first_is : (name : List ℕ) (us : List units.Unit) → IfSome (first_named name us) (λ u. is_name_of name u ≡ true)
unfolding first_named
first_is name [] = tt
first_is name (u ∷ us) = go (is_name_of name u) refl (first_is name us)
  where
    go : (b : Bool) → is_name_of name u ≡ b → IfSome (first_named name us) (λ u. is_name_of name u ≡ true) → IfSome (if is_name_of name u then Some u else first_named name us) (λ u. is_name_of name u ≡ true)
    go true e h = rw e e
    go false e h = rw e h

pub unit_is : (name : List ℕ) (r : Option units.Unit) → r ≡ unit_with_name name → IfSome r (λ u. is_name_of name u ≡ true)
unfolding unit_with_name
unit_is name r e = rw e (first_is name named_units)

same_first : (name text : List ℕ) (us : List units.Unit) → map to_ascii_lowercase name ≡ map to_ascii_lowercase text → first_named name us ≡ first_named text us
unfolding first_named
same_first name text [] e = refl
same_first name text (u ∷ us) e = ap (λ (low : List ℕ). if bytes_eq low (map to_ascii_lowercase (unit_text u)) then Some u else first_named name us) e ∙ ap (λ o. if is_name_of text u then Some u else o) (same_first name text us e)

pub unit_found : (name : List ℕ) (r : Option units.Unit) → r ≡ unit_with_name name → (u : units.Unit) → HasName u → is_name_of name u ≡ true → r ≡ Some u
unfolding unit_with_name
unit_found name r e u h k = e ∙ same_first name (unit_text u) named_units ((bytes_eq-Decides (map to_ascii_lowercase name) (map to_ascii_lowercase (unit_text u))).0 k) ∙ name_found u h
