-- The place of a key among declarations.
use Rattle.std.proofs.Common.{◌≡◌, ℕ, zero, suc, ◌+◌, Bool, true, false, cond, not, nat_lt, [], ◌∷◌, length, Option, Some, None, refl, sym, ap, ◌∙◌, subst, arith}
use Rattle.std.proofs.lemmas.Bool.{lt-ltb}
use Rattle.std.proofs.lemmas.Bool.Decides.{nat_tests}
use Rattle.std.specs.Prelude.{IfSome, slice_get, option_map, if◌then◌else◌}
use Rattle.std.specs.List.{AllByRecursion, IsDistinct, position, position_or_len}
use Rattle.std.specs.Map.{keys_of}
use Rattle.cv_valuation.specs.declared.key.Key.{Key}
use Rattle.cv_valuation.specs.Keys.{same_key}
use Rattle.cv_valuation.specs.KeyLaws.{same_key_equiv}
use Rattle.cv_valuation.proofs.KeyOrder.{equal_keys}
use Rattle.cv_props.specs.declared.decls.Decl.{Decl}
use Rattle.cv_props.specs.Declaring.{IsPlaceOf}
use Rattle.cv_props.specs.Winners.{Declarations}

-- the first place of the key
abbrev place_in : Key → Declarations → Option ℕ
place_in key [] = None
place_in key (e ∷ es) = if same_key key e.0 then Some 0 else option_map (λ n. 1 + n) (place_in key es)

next : (p n : ℕ) → cond (nat_lt (1 + p) (suc n)) (Some (1 + p)) None ≡ option_map (λ n. 1 + n) (cond (nat_lt p n) (Some p) None)
next p n = by (nat_lt p n) refl
  where
    by : (b : Bool) → nat_lt p n ≡ b → cond (nat_lt (1 + p) (suc n)) (Some (1 + p)) None ≡ option_map (λ n. 1 + n) (cond b (Some p) None)
    by true less = let more : nat_lt (1 + p) (suc n) ≡ true = grind (arith, nat_tests) in ap (λ b. cond b (Some (1 + p)) None) more
    by false less = let more : nat_lt (1 + p) (suc n) ≡ false = grind (arith, nat_tests) in ap (λ b. cond b (Some (1 + p)) None) more

place_is : (key : Key) (es : Declarations) → position (same_key key) (keys_of es) ≡ place_in key es
place_is key [] = refl
place_is key (e ∷ es) = by (same_key key e.0) (place_is key es)
  where
    p : ℕ
    p = position_or_len (same_key key) (keys_of es)

    by : (b : Bool) → position (same_key key) (keys_of es) ≡ place_in key es
        → cond (nat_lt (cond (not b) (1 + p) 0) (length (keys_of (e ∷ es)))) (Some (cond (not b) (1 + p) 0)) None ≡ cond b (Some 0) (option_map (λ n. 1 + n) (place_in key es))
    by true rest = let here : nat_lt 0 (length (keys_of (e ∷ es))) ≡ true = lt-ltb 0 (length (keys_of (e ∷ es))) (omega arith) in ap (λ b. cond b (Some 0) None) here
    by false rest = next p (length (keys_of es)) ∙ ap (option_map (λ n. 1 + n)) rest

placed : (key : Key) (es : Declarations) → IfSome (place_in key es) (λ i. IsPlaceOf es key i)
placed key [] = tt
placed key (e ∷ es) = by (same_key key e.0) refl (place_in key es) (placed key es)
  where
    by : (b : Bool) → same_key key e.0 ≡ b → (found : Option ℕ) → IfSome found (λ i. IsPlaceOf es key i) → IfSome (cond b (Some 0) (option_map (λ n. 1 + n) found)) (λ i. IsPlaceOf (e ∷ es) key i)
    by true same found rest = (e.1, ap (λ k. Some (k, e.1)) (sym (equal_keys key e.0 same)))
    by false other None rest = tt
    by false other (Some i) rest = let same : suc i ≡ 1 + i = omega arith in subst (λ n. IsPlaceOf (e ∷ es) key n) same rest

-- a key stands at the place that is found
pub found_placed : (es : Declarations) (key : Key) (found : Option ℕ) → found ≡ position (same_key key) (keys_of es) → IfSome found (λ i. IsPlaceOf es key i)
found_placed es key found is = subst (λ o. IfSome o (λ i. IsPlaceOf es key i)) (sym (is ∙ place_is key es)) (placed key es)

passes_at : (P : Key → Type 0) (es : Declarations) (key : Key) (d : Decl) (i : ℕ) → AllByRecursion P (keys_of es) → slice_get es i ≡ Some (key, d) → P key
passes_at P [] key d i all at = cc
passes_at P (e ∷ es) key d zero all at = let same : e.0 ≡ key = cc in subst P same all.0
passes_at P (e ∷ es) key d (suc i) all at = passes_at P es key d i all.1 at

apart : (a b : Key) → same_key b a ≡ false → same_key a b ≡ false
apart a b other = by (same_key a b) refl
  where
    by : (t : Bool) → same_key a b ≡ t → same_key a b ≡ false
    by true same = let is : same_key b a ≡ true = subst (λ k. same_key k a ≡ true) (equal_keys a b same) (same_key_equiv.refl a) in cc
    by false other = other

found_in : (es : Declarations) (key : Key) (d : Decl) (i : ℕ) → IsDistinct same_key (keys_of es) → slice_get es i ≡ Some (key, d) → place_in key es ≡ Some i
unfolding IsDistinct
found_in [] key d i distinct at = cc
found_in (e ∷ es) key d zero distinct at =
    let same : e.0 ≡ key = cc in
    ap (λ b. cond b (Some 0) (option_map (λ n. 1 + n) (place_in key es))) (subst (λ k. same_key key k ≡ true) (sym same) (same_key_equiv.refl key))
found_in (e ∷ es) key d (suc i) distinct at =
    ap (λ b. cond b (Some 0) (option_map (λ n. 1 + n) (place_in key es))) (apart key e.0 (passes_at (λ y. same_key e.0 y ≡ false) es key d i distinct.0 at))
    ∙ ap (option_map (λ n. 1 + n)) (found_in es key d i distinct.1 at)
    ∙ (let same : 1 + i ≡ suc i = omega arith in ap Some same)

-- the place at which a key stands is found
pub placed_found : (es : Declarations) (key : Key) (i : ℕ) → IsDistinct same_key (keys_of es) → IsPlaceOf es key i → position (same_key key) (keys_of es) ≡ Some i
placed_found es key i distinct at = place_is key es ∙ found_in es key at.0 i distinct at.1
