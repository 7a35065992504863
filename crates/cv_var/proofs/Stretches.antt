-- Places in a stretch of a list are places in the list.
use Rattle.std.proofs.Common.{◌≡◌, ℕ, suc, zero, ◌+◌, ◌-◌, ◌<◌, ◌≤◌, List, [], ◌∷◌, length, take, drop, Option, Some, None, refl, sym, ◌∙◌, ap, subst, length-take, length-drop, arith}
use Rattle.std.specs.Prelude.{slice_get}
use Rattle.std.proofs.lemmas.List.{drop-drop, take_rest}
use Rattle.std.proofs.lemmas.Option.{slice_get_past, slice_get_within}
use Rattle.cv_spec_text.specs.declared.token.Token.{Token}
use Rattle.cv_var.specs.declared.place.Extent.{Extent}
use Rattle.cv_var.specs.declared.place.Found.{Found}
use Rattle.cv_var.specs.References.{Reference}
use Rattle.cv_var.specs.Places.{stretch, name_of, name_at, fallback_at, IsWithin, moved, StandsAt}

take-take : {X : Type 0} (m n : ℕ) (xs : List X) → m ≤ n → take m (take n xs) ≡ take m xs
take-take zero n xs le = refl
take-take (suc m) zero xs le = absurd (omega arith)
take-take (suc m) (suc n) [] le = refl
take-take (suc m) (suc n) (x ∷ xs) le = ap (λ ys. x ∷ ys) (take-take m n xs (omega arith))

take_drop_take : {X : Type 0} (s m n : ℕ) (xs : List X) → s + m ≤ n → take m (drop s (take n xs)) ≡ take m (drop s xs)
take_drop_take zero m n xs le = take-take m n xs (omega arith)
take_drop_take (suc s) m zero xs le = absurd (omega arith)
take_drop_take (suc s) m (suc n) [] le = refl
take_drop_take (suc s) m (suc n) (x ∷ xs) le = take_drop_take s m n xs (omega arith)

slice_get-take : {X : Type 0} (n : ℕ) (xs : List X) (k : ℕ) → k < n → slice_get (take n xs) k ≡ slice_get xs k
slice_get-take zero xs k lt = absurd (omega arith)
slice_get-take (suc n) [] k lt = refl
slice_get-take (suc n) (x ∷ xs) zero lt = refl
slice_get-take (suc n) (x ∷ xs) (suc k) lt = slice_get-take n xs k (omega arith)

start : (k : ℕ) → k ≡ 0 + k
start k = omega arith

next : (n k : ℕ) → suc (n + k) ≡ suc n + k
next n k = omega arith

pub slice_get-drop : {X : Type 0} (n : ℕ) (xs : List X) (k : ℕ) → slice_get (drop n xs) k ≡ slice_get xs (n + k)
slice_get-drop zero xs k = ap (slice_get xs) (start k)
slice_get-drop (suc n) [] k = sym (slice_get_past [] (suc n + k) (omega arith))
slice_get-drop (suc n) (x ∷ xs) k = slice_get-drop n xs k ∙ ap (slice_get (x ∷ xs)) (next n k)

name_of-within : (whole : List Token) (place : ℕ) (name : List ℕ) (found : Option Token) → slice_get whole place ≡ found → name_of found ≡ Some name → place < length whole
name_of-within whole place name None is named = absurd cc
name_of-within whole place name (Some t) is named = slice_get_within whole place t is

-- a token of a stretch is one of the list
pub slice_get-stretch : (whole : List Token) (a b k : ℕ) (t : Token) → slice_get (stretch whole a b) k ≡ Some t → slice_get whole (k + a) ≡ Some t
slice_get-stretch whole a b k t is =
    let within = slice_get_within (stretch whole a b) k t is in
    let size = length-take (b - a) (drop a whole) in
    let below : k < b - a = omega arith in
    let order : k + a ≡ a + k = omega arith in
    ap (slice_get whole) order ∙ sym (slice_get-drop a whole k) ∙ sym (slice_get-take (b - a) (drop a whole) k below) ∙ is

-- a stretch of a stretch is one of the list
pub stretch-stretch : (whole : List Token) (a b s e : ℕ) → s ≤ e → e ≤ length (stretch whole a b) → stretch (stretch whole a b) s e ≡ stretch whole (s + a) (e + a)
stretch-stretch whole a b s e ordered within =
    let size = length-take (b - a) (drop a whole) in
    let fits : s + (e - s) ≤ b - a = omega arith in
    let same : e - s ≡ (e + a) - (s + a) = omega arith in
    let place : a + s ≡ s + a = omega arith in
    take_drop_take s (e - s) (b - a) (drop a whole) fits
    ∙ ap (take (e - s)) (drop-drop s a whole)
    ∙ ap (λ k. take (e - s) (drop k whole)) place
    ∙ ap (λ n. take n (drop (s + a) whole)) same

name_of-stretch : (whole : List Token) (a b k : ℕ) (name : List ℕ) (found : Option Token) → slice_get (stretch whole a b) k ≡ found → name_of found ≡ Some name → name_at whole (k + a) ≡ Some name
name_of-stretch whole a b k name None is named = absurd cc
name_of-stretch whole a b k name (Some t) is named = ap name_of (slice_get-stretch whole a b k t is) ∙ named

pub fallback_at-stretch : (whole : List Token) (a b : ℕ) (fallback : Option Extent) → IsWithin (length (stretch whole a b)) fallback → fallback_at (stretch whole a b) fallback ≡ fallback_at whole (moved a fallback)
fallback_at-stretch whole a b None within = refl
fallback_at-stretch whole a b (Some extent) within = ap Some (stretch-stretch whole a b extent.start extent.end within.0 within.1)

pub IsWithin-moved : (whole : List Token) (a b : ℕ) (fallback : Option Extent) → a ≤ length whole → IsWithin (length (stretch whole a b)) fallback → IsWithin (length whole) (moved a fallback)
IsWithin-moved whole a b None le within = tt
IsWithin-moved whole a b (Some extent) le within =
    let ordered : extent.start + a ≤ extent.end + a = omega (arith, within.0) in
    let fits : extent.end + a ≤ length whole = omega (arith, within.1, length-take (b - a) (drop a whole), length-drop a whole) in
    (ordered, fits)

-- what stands in a stretch stands in the list
pub StandsAt-moved : (whole : List Token) (a b : ℕ) (found new : Found) (reference : Option Reference) → a ≤ length whole → new.name ≡ found.name + a → new.fallback ≡ moved a found.fallback → StandsAt (stretch whole a b) found reference → StandsAt whole new reference
StandsAt-moved whole a b found new reference le name_is fallback_is stands = record {
  name = stands.name;
  named = ap (name_at whole) name_is ∙ name_of-stretch whole a b found.name stands.name (slice_get (stretch whole a b) found.name) refl stands.named;
  is = stands.is ∙ ap (λ fallback. Some (stands.name, fallback)) (fallback_at-stretch whole a b found.fallback stands.within ∙ ap (fallback_at whole) (sym fallback_is));
  within = subst (IsWithin (length whole)) (sym fallback_is) (IsWithin-moved whole a b found.fallback le stands.within);
}

-- the tokens from a place on
pub drop-stretch : (whole : List Token) (a : ℕ) → drop a whole ≡ stretch whole a (length whole)
drop-stretch whole a = sym (take_rest whole a)

take_none : {X : Type 0} (n : ℕ) → ◌≡◌ {A = List X} (take n []) []
take_none zero = refl
take_none (suc n) = refl

drop_of_take : {X : Type 0} (k n : ℕ) (xs : List X) → drop k (take n xs) ≡ take (n - k) (drop k xs)
drop_of_take zero n xs = let same : n ≡ n - 0 = omega arith in ap (λ m. take m xs) same
drop_of_take (suc k) zero xs = let none : 0 ≡ 0 - suc k = omega arith in ap (λ m. take m (drop (suc k) xs)) none
drop_of_take (suc k) (suc n) [] = sym (take_none (suc n - suc k))
drop_of_take (suc k) (suc n) (x ∷ xs) = let same : n - k ≡ suc n - suc k = omega arith in drop_of_take k n xs ∙ ap (λ m. take m (drop k xs)) same

-- what comes behind the front of a stretch is a stretch
pub drop_of_stretch : (whole : List Token) (a b k : ℕ) → drop k (stretch whole a b) ≡ stretch whole (a + k) b
drop_of_stretch whole a b k =
    let same : b - a - k ≡ b - (a + k) = omega arith in
    drop_of_take k (b - a) (drop a whole)
    ∙ ap (take (b - a - k)) (drop-drop k a whole)
    ∙ ap (λ n. take n (drop (a + k) whole)) same

pub record BeginsWith (whole : List Token) (a b : ℕ) : Type 0 where
  pub token : Token
  pub at : slice_get whole a ≡ Some token
  pub is : stretch whole a b ≡ token ∷ stretch whole (a + 1) b

pub record Has (whole : List Token) (a : ℕ) : Type 0 where
  pub token : Token
  pub at : slice_get whole a ≡ Some token
  pub is : drop a whole ≡ token ∷ drop (suc a) whole

has : (whole : List Token) (a : ℕ) → a < length whole → Has whole a
has [] a lt = absurd (omega arith)
has (t ∷ rest) zero lt = record { token = t; at = refl; is = refl }
has (t ∷ rest) (suc a) lt = let more = has rest a (omega arith) in record { token = more.token; at = more.at; is = more.is }

-- the first token of a stretch
pub begins_with : (whole : List Token) (a b : ℕ) → a < b → b ≤ length whole → BeginsWith whole a b
begins_with whole a b lt within =
    let one = has whole a (omega arith) in
    let size : b - a ≡ suc (b - (a + 1)) = omega arith in
    let behind : suc a ≡ a + 1 = omega arith in
    record {
      token = one.token;
      at = one.at;
      is =
          ap (λ n. take n (drop a whole)) size
          ∙ ap (take (suc (b - (a + 1)))) one.is
          ∙ ap (λ k. one.token ∷ take (b - (a + 1)) (drop k whole)) behind;
    }

pub length-stretch : (whole : List Token) (a b : ℕ) → a ≤ b → b ≤ length whole → length (stretch whole a b) ≡ b - a
length-stretch whole a b ordered within = omega (arith, length-take (b - a) (drop a whole), length-drop a whole)

pub name-within : (whole : List Token) (place : ℕ) (name : List ℕ) → name_at whole place ≡ Some name → place < length whole
name-within whole place name named = name_of-within whole place name (slice_get whole place) refl named
