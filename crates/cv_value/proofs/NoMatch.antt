-- A test of being no match, and what it says of matches together.
use Rattle.std.proofs.Common.{◌≡◌, Bool, true, false, List, [], ◌∷◌, map, refl, sym, ◌∙◌, ap}
use Rattle.std.specs.Prelude.{◌||◌, ◌&&◌, if◌then◌else◌}
use Rattle.cv_numeric.specs.declared.matched.Matched.{Matched}
use Rattle.cv_numeric.specs.declared.matched.Matched.TheVariants.{No, Out, Fit}
use Rattle.cv_numeric.specs.Matched.{mapped, both, all_of, or_else, first_of, IsAlike}

abbrev pub is_no : {A : Type 0} → Matched A → Bool
is_no No = true
is_no Out = false
is_no (Fit a) = false

pub same_no : {A : Type 0} (o p : Matched A) → IsAlike o p → is_no o ≡ is_no p
same_no No No h = refl
same_no No Out h = absurd h
same_no No (Fit b) h = absurd h
same_no Out No h = absurd h
same_no Out Out h = refl
same_no Out (Fit b) h = refl
same_no (Fit a) No h = absurd h
same_no (Fit a) Out h = refl
same_no (Fit a) (Fit b) h = refl

pub alike_no : {A : Type 0} (o p : Matched A) → is_no o ≡ is_no p → IsAlike o p
alike_no No No h = tt
alike_no No Out h = cc
alike_no No (Fit b) h = cc
alike_no Out No h = cc
alike_no Out Out h = tt
alike_no Out (Fit b) h = tt
alike_no (Fit a) No h = cc
alike_no (Fit a) Out h = tt
alike_no (Fit a) (Fit b) h = tt

pub no-mapped : {A B : Type 0} (f : A → B) (o : Matched A) → is_no (mapped f o) ≡ is_no o
no-mapped f No = refl
no-mapped f Out = refl
no-mapped f (Fit a) = refl

pub no-both : {A B C : Type 0} (f : A → B → C) (o : Matched A) (p : Matched B) → is_no (both f o p) ≡ (is_no o || is_no p)
no-both f No p = refl
no-both f Out No = refl
no-both f Out Out = refl
no-both f Out (Fit b) = refl
no-both f (Fit a) No = refl
no-both f (Fit a) Out = refl
no-both f (Fit a) (Fit b) = refl

pub no-or_else : {A : Type 0} (o p : Matched A) → is_no (or_else o p) ≡ (is_no o && is_no p)
no-or_else No p = refl
no-or_else Out p = refl
no-or_else (Fit a) p = refl

-- ---- alike where what they are made of is

pub mapped_alike : {A B : Type 0} (f : A → B) (o p : Matched A) → is_no o ≡ is_no p → is_no (mapped f o) ≡ is_no (mapped f p)
mapped_alike f o p h = no-mapped f o ∙ h ∙ sym (no-mapped f p)

pub both_alike : {A B C : Type 0} (f : A → B → C) (o o' : Matched A) (p p' : Matched B) → is_no o ≡ is_no o' → is_no p ≡ is_no p' → is_no (both f o p) ≡ is_no (both f o' p')
both_alike f o o' p p' h k = no-both f o p ∙ ap (λ b. b || is_no p) h ∙ ap (λ b. is_no o' || b) k ∙ sym (no-both f o' p')

pub or_else_alike : {A : Type 0} (o o' p p' : Matched A) → is_no o ≡ is_no o' → is_no p ≡ is_no p' → is_no (or_else o p) ≡ is_no (or_else o' p')
or_else_alike o o' p p' h k = no-or_else o p ∙ ap (λ b. b && is_no p) h ∙ ap (λ b. is_no o' && b) k ∙ sym (no-or_else o' p')

pub if_alike : {A : Type 0} (b : Bool) (o o' p p' : Matched A) → is_no o ≡ is_no o' → is_no p ≡ is_no p' → is_no (if b then o else p) ≡ is_no (if b then o' else p')
if_alike true o o' p p' h k = h
if_alike false o o' p p' h k = k

module _ {A B : Type 0} (f g : A → Matched B) (h : (a : A) → is_no (f a) ≡ is_no (g a)) where
  pub all_alike : (xs : List A) → is_no (all_of (map f xs)) ≡ is_no (all_of (map g xs))
  all_alike [] = refl
  all_alike (a ∷ xs) = both_alike (λ b bs. b ∷ bs) (f a) (g a) (all_of (map f xs)) (all_of (map g xs)) (h a) (all_alike xs)

  pub first_alike : (xs : List A) → is_no (first_of (map f xs)) ≡ is_no (first_of (map g xs))
  first_alike [] = refl
  first_alike (a ∷ xs) = or_else_alike (f a) (g a) (first_of (map f xs)) (first_of (map g xs)) (h a) (first_alike xs)
