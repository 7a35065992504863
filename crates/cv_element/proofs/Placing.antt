-- The places of declarations: each key has one.
use Rattle.std.proofs.Common.{◌≡◌, ℕ, zero, suc, ◌<◌, zero-le, Bool, true, false, List, [], ◌∷◌, length, get_or, Option, Some, None, ◌⊎◌, inl, inr, refl, sym, ◌∙◌, ap, subst, arith}
use Rattle.std.specs.Prelude.{IsSome, slice_get, Contains}
use Rattle.std.specs.List.{IsDistinct}
use Rattle.std.specs.Map.{keys_of}
use Rattle.std.proofs.lemmas.Bool.{cases_lt}
use Rattle.std.proofs.lemmas.Map.Entries.{place_from_lookup, lookup_from_place, length-keys_of}
use Rattle.std.proofs.lemmas.Map.Made.{AllPairs-from_IsDistinct}
use Rattle.std.proofs.lemmas.Option.{slice_get_within, slice_get-get_or}
use Rattle.cv_property.specs.declared.property.Property.TheVariants.{FontSize}
use Rattle.cv_valuation.specs.declared.key.Key.{Key}
use Rattle.cv_valuation.specs.declared.key.Key.TheVariants.{Table}
use Rattle.cv_valuation.specs.Keys.{same_key}
use Rattle.cv_valuation.specs.KeyLaws.{same_key_equiv}
use Rattle.cv_valuation.specs.TableLaws.{PropertiesAreFound}
use Rattle.cv_props.specs.declared.decls.Decl.{Decl}
use Rattle.cv_props.specs.Winners.{Declarations, declaration_of}
use Rattle.cv_element.specs.Settling.{key_in, key_at, IsPlan}
use Rattle.cv_element.specs.Values.{AnElement}
use Rattle.cv_element.proofs.SameKeys.{keys_same, same_key_same}

key_get : (decls : Declarations) (i : ℕ) → get_or (keys_of decls) i (Table FontSize) ≡ key_at decls i
key_get [] i = refl
key_get (entry ∷ rest) zero = refl
key_get (entry ∷ rest) (suc i) = key_get rest i

some_at : (decls : Declarations) (i : ℕ) → i < length decls → (entry : Key × Decl) × (slice_get decls i ≡ Some entry)
some_at [] i below = absurd (omega arith)
some_at (entry ∷ rest) zero below = (entry, refl)
some_at (entry ∷ rest) (suc i) below = some_at rest i (omega arith)

-- what stands at a place
pub entry_at : (decls : Declarations) (i : ℕ) → i < length decls → (k : Key) × (d : Decl) × (slice_get decls i ≡ Some (k, d)) × (key_at decls i ≡ k)
entry_at decls i below =
    let found = some_at decls i below in
    (found.0.0, found.0.1, found.1, ap key_in found.1)

-- the number at a place of the order is a place of the declarations
pub plan_below : (e : AnElement) (decls : Declarations) (order : List ℕ) (flags : List Bool) → IsPlan e decls order flags → (i : ℕ) → i < length decls → get_or order i 0 < length decls
plan_below e decls order flags plan i below = (plan.stands (get_or order i 0)).1 (i, zero-le, below, refl)

module _ (found : PropertiesAreFound) (decls : Declarations) (once : IsDistinct same_key (keys_of decls)) where
  pub distinct : (i j : ℕ) → i < length decls → j < length decls → key_at decls i ≡ key_at decls j → i ≡ j
  distinct i j below_i below_j same =
      let pairs = AllPairs-from_IsDistinct {eq = same_key} (λ a b. (keys_same found a b, same_key_same a b)) (keys_of decls) once in
      let equal : get_or (keys_of decls) i (Table FontSize) ≡ get_or (keys_of decls) j (Table FontSize) = key_get decls i ∙ same ∙ sym (key_get decls j) in
      let long = length-keys_of decls in
      elim (cases_lt i j) [
        | inl lower ↦ absurd (pairs i j (Table FontSize) lower (omega (arith, long, below_j)) equal)
        | inr upper ↦ elim (cases_lt j i) [
          | inl higher ↦ absurd (pairs j i (Table FontSize) higher (omega (arith, long, below_i)) (sym equal))
          | inr equals ↦ omega arith
        ]
      ]

  pub declared_at : (i : ℕ) (k : Key) (d : Decl) → slice_get decls i ≡ Some (k, d) → declaration_of decls k ≡ Some d
  declared_at i k d is = lookup_from_place same_key_equiv decls i k d once is

  pub place_of : (key : Key) (d : Decl) → declaration_of decls key ≡ Some d → (i : ℕ) × (i < length decls) × (key_at decls i ≡ key) × (slice_get decls i ≡ Some (key, d))
  place_of key d is =
      let place = place_from_lookup (same_key key) decls d is in
      let same : key ≡ place.1 = keys_same found key place.1 place.3 in
      (place.0, slice_get_within decls place.0 (place.1, d) place.2, ap key_in place.2 ∙ sym same, place.2 ∙ ap (λ k. Some (k, d)) (sym same))
