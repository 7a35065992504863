-- The search for places, one token after the other.
use Rattle.std.specs.Prelude.{ℕ, suc, Bool, true, false, ◌+◌, ◌-◌, ◌<◌, ◌≤◌, List, [], ◌∷◌, ◌++◌, length, drop, Some, None}
use Rattle.std.proofs.Common.{◌≡◌, get_or, refl, sym, ◌∙◌, ap, arith}
use Rattle.std.proofs.Math.Seq.{drop-cons}
use Rattle.std.proofs.lemmas.List.{drop_all}
use Rattle.cv_spec_text.specs.declared.token.Token.{Token}
use Rattle.cv_calcread.specs.declared.figure.Mark.{Mark}
use Rattle.cv_calcread.specs.Answer.{is_wide, wide_place, is_white, white_length, is_solidus, divisor_places, divisor_place}

front : {A : Type 0} (xs : List A) (i : ℕ) (d : A) → i < length xs → drop i xs ≡ get_or xs i d ∷ drop (i + 1) xs
front xs i d h = drop-cons xs i d h ∙ ap (λ k. get_or xs i d ∷ drop k xs) (next i)
  where
    next : (i : ℕ) → suc i ≡ i + 1
    next i = omega arith

module _ (ts : List Token) (i : ℕ) (d : Token) (h : i < length ts) where
  pub wide_here : is_wide (get_or ts i d) ≡ true → wide_place i (drop i ts) ≡ Some i
  unfolding wide_place
  wide_here e = ap (wide_place i) (front ts i d h) ∙ rw e refl

  pub wide_later : is_wide (get_or ts i d) ≡ false → wide_place i (drop i ts) ≡ wide_place (i + 1) (drop (i + 1) ts)
  unfolding wide_place
  wide_later e = ap (wide_place i) (front ts i d h) ∙ rw e refl

  pub white_here : is_white (get_or ts i d) ≡ false → white_length (drop i ts) ≡ 0
  unfolding white_length
  white_here e = ap white_length (front ts i d h) ∙ rw e refl

  pub white_later : is_white (get_or ts i d) ≡ true → white_length (drop i ts) ≡ white_length (drop (i + 1) ts) + 1
  unfolding white_length
  white_later e = ap white_length (front ts i d h) ∙ rw e refl

  pub divisor_here : is_solidus (get_or ts i d) ≡ true → divisor_places i (drop i ts) ≡ (i + 1 + white_length (drop (i + 1) ts)) ∷ divisor_places (i + 1) (drop (i + 1) ts)
  unfolding divisor_places
  divisor_here e = ap (divisor_places i) (front ts i d h) ∙ rw e refl

  pub divisor_later : is_solidus (get_or ts i d) ≡ false → divisor_places i (drop i ts) ≡ divisor_places (i + 1) (drop (i + 1) ts)
  unfolding divisor_places
  divisor_later e = ap (divisor_places i) (front ts i d h) ∙ rw e refl

module _ (ts : List Token) (i : ℕ) (h : length ts ≤ i) where
  pub wide_none : (n : ℕ) → wide_place n (drop i ts) ≡ None
  unfolding wide_place
  wide_none n = ap (wide_place n) (drop_all i ts h)

  pub white_none : white_length (drop i ts) ≡ 0
  unfolding white_length
  white_none = ap white_length (drop_all i ts h)

  pub divisors_none : (n : ℕ) → divisor_places n (drop i ts) ≡ []
  unfolding divisor_places
  divisors_none n = ap (divisor_places n) (drop_all i ts h)

module _ (passes : Mark → Bool) (ms : List Mark) (places : List ℕ) (i : ℕ) where
  pub mark_here : (d : Mark) → i < length ms → i < length places → passes (get_or ms i d) ≡ true → divisor_place passes (drop i ms) (drop i places) ≡ Some (get_or places i 0)
  unfolding divisor_place
  mark_here d h k e = rw (front ms i d h, front places i 0 k, e) refl

  pub mark_later : (d : Mark) → i < length ms → i < length places → passes (get_or ms i d) ≡ false → divisor_place passes (drop i ms) (drop i places) ≡ divisor_place passes (drop (i + 1) ms) (drop (i + 1) places)
  unfolding divisor_place
  mark_later d h k e = rw (front ms i d h, front places i 0 k, e) refl

  pub marks_none : length ms ≤ i → divisor_place passes (drop i ms) (drop i places) ≡ None
  unfolding divisor_place
  marks_none h = ap (λ (ns : List Mark). divisor_place passes ns (drop i places)) (drop_all i ms h)

  pub places_none : length places ≤ i → divisor_place passes (drop i ms) (drop i places) ≡ None
  unfolding divisor_place
  places_none h = ap (divisor_place passes (drop i ms)) (drop_all i places h) ∙ none (drop i ms)
    where
      none : (ns : List Mark) → divisor_place passes ns [] ≡ None
      none [] = refl
      none (m ∷ ns) = refl

-- ---- steps of the loops

pub white_end : (w i from rest : ℕ) → w ≡ (i - from) + rest → rest ≡ 0 → i - from ≡ w
white_end w i from rest h e = omega (arith, h, e)

pub white_more : (w i from rest next : ℕ) → from ≤ i → w ≡ (i - from) + rest → rest ≡ next + 1 → w ≡ (i + 1 - from) + next
white_more w i from rest next k h e = omega (arith, h, e)

pub white_last : (w i from rest n : ℕ) → w ≡ (i - from) + rest → rest ≡ 0 → n ≤ i → i ≤ n → n - from ≡ w
white_last w i from rest n h e k l = omega (arith, h, e)

append_one : (ps : List ℕ) (x : ℕ) (rest : List ℕ) → (ps ++ x ∷ []) ++ rest ≡ ps ++ x ∷ rest
append_one [] x rest = refl
append_one (p ∷ ps) x rest = ap (λ qs. p ∷ qs) (append_one ps x rest)

append_none : (ps : List ℕ) → ps ++ [] ≡ ps
append_none [] = refl
append_none (p ∷ ps) = ap (λ qs. p ∷ qs) (append_none ps)

pub places_more : (ps qs rest all : List ℕ) (x n : ℕ) → qs ≡ ps ++ x ∷ [] → x ≡ n → ps ++ n ∷ rest ≡ all → qs ++ rest ≡ all
places_more ps qs rest all x n e f h = ap (λ (rs : List ℕ). rs ++ rest) e ∙ append_one ps x rest ∙ ap (λ m. ps ++ m ∷ rest) f ∙ h

pub places_end : (ps rest all : List ℕ) → rest ≡ [] → ps ++ rest ≡ all → ps ≡ all
places_end ps rest all e h = sym (append_none ps) ∙ ap (λ (rs : List ℕ). ps ++ rs) (sym e) ∙ h

pub below : (i n : ℕ) → i ≤ n → ¬ (i ≡ n) → i < n
below i n h k = grind arith
