-- Runs at the front of a text.
use Rattle.std.proofs.Common.{◌≡◌, ℕ, suc, ◌+◌, Bool, true, false, cond, List, [], ◌∷◌, ◌++◌, length, take, drop, refl, sym, ap, ◌∙◌, append-nil, arith}
use Rattle.std.specs.Prelude.{◌==◌, nat_lt, ◌&&◌}
use Rattle.std.specs.List.{list_all, prefix_len}
use Rattle.std.proofs.lemmas.Bool.Decides.{nat_tests}
use Rattle.std.proofs.Math.Seq.{drop-append_seam, take-append_seam}
use Rattle.std.proofs.lemmas.List.{length-append}
use Rattle.cv_spec_text.specs.Characters.{begins_by}

pub both : (a b : Bool) → (a && b) ≡ true → (a ≡ true) × (b ≡ true)
both true b h = (refl, h)
both false b h = cc

pub same_code : (a b : ℕ) → (a == b) ≡ true → a ≡ b
same_code a b h = grind (arith, nat_tests)

-- a run that passes, with what doesn't go on with it, is the run at the front
pub run_is : (p : ℕ → Bool) (front rest : List ℕ) → list_all p front ≡ true → begins_by p rest ≡ false → prefix_len p (front ++ rest) ≡ length front
run_is p [] [] h k = refl
run_is p [] (x ∷ xs) h k = ap (λ b. cond b (1 + prefix_len p xs) 0) k
run_is p (x ∷ front) rest h k =
    let (here, there) = both (p x) (list_all p front) h in
    let more : prefix_len p (front ++ rest) ≡ length front = run_is p front rest there k in
    let one : 1 + prefix_len p (front ++ rest) ≡ suc (length front) = omega (arith, more) in
    ap (λ b. cond b (1 + prefix_len p (front ++ rest)) 0) here ∙ one

-- the run at the front of a text, and the rest
pub record Split (p : ℕ → Bool) (text : List ℕ) : Type 0 where
  pub front : List ℕ
  pub rest : List ℕ
  pub whole : text ≡ front ++ rest
  pub passes : list_all p front ≡ true
  pub stops : begins_by p rest ≡ false

pub split : (p : ℕ → Bool) (text : List ℕ) → Split p text
split p [] = record { front = []; rest = []; whole = refl; passes = refl; stops = refl }
split p (x ∷ xs) = by (p x) refl (split p xs)
  where
    by : (b : Bool) → p x ≡ b → Split p xs → Split p (x ∷ xs)
    by true is s = record {
      front = x ∷ s.front;
      rest = s.rest;
      whole = ap (λ l. x ∷ l) s.whole;
      passes = ap (λ b. b && list_all p s.front) is ∙ s.passes;
      stops = s.stops;
    }
    by false is s = record { front = []; rest = x ∷ xs; whole = refl; passes = refl; stops = is }

pub split_size : (p : ℕ → Bool) (text : List ℕ) (s : Split p text) → prefix_len p text ≡ length s.front
split_size p text s = ap (prefix_len p) s.whole ∙ run_is p s.front s.rest s.passes s.stops

pub split_front : (p : ℕ → Bool) (text : List ℕ) (s : Split p text) → take (prefix_len p text) text ≡ s.front
split_front p text s = ap (λ n. take n text) (split_size p text s) ∙ ap (take (length s.front)) s.whole ∙ take-append_seam s.front s.rest

pub split_rest : (p : ℕ → Bool) (text : List ℕ) (s : Split p text) → drop (prefix_len p text) text ≡ s.rest
split_rest p text s = ap (λ n. drop n text) (split_size p text s) ∙ ap (drop (length s.front)) s.whole ∙ drop-append_seam s.front s.rest

-- where the run is the whole text, the text passes
pub below : (m n : ℕ) → nat_lt m (m + suc n) ≡ true
below m n = grind (arith, nat_tests)

not_below : (m : ℕ) → nat_lt m m ≡ false
not_below m = grind (arith, nat_tests)

pub whole_passes : (p : ℕ → Bool) (text : List ℕ) → nat_lt (prefix_len p text) (length text) ≡ false → list_all p text ≡ true
whole_passes p text h = by (split p text)
  where
    by_rest : (s : Split p text) (rest : List ℕ) → s.rest ≡ rest → list_all p text ≡ true
    by_rest s [] is = ap (list_all p) (s.whole ∙ ap (λ l. s.front ++ l) is ∙ append-nil s.front) ∙ s.passes
    by_rest s (y ∷ ys) is =
        let size : length text ≡ length s.front + suc (length ys) = ap length s.whole ∙ length-append s.front s.rest ∙ ap (λ l. length s.front + length l) is in
        let no : nat_lt (length s.front) (length s.front + suc (length ys)) ≡ false = sym (ap (λ n. nat_lt n (length text)) (split_size p text s) ∙ ap (nat_lt (length s.front)) size) ∙ h in
        let yes : nat_lt (length s.front) (length s.front + suc (length ys)) ≡ true = below (length s.front) (length ys) in
        cc

    by : Split p text → list_all p text ≡ true
    by s = by_rest s s.rest refl

-- and the other way round
pub passes_whole : (p : ℕ → Bool) (text : List ℕ) → list_all p text ≡ true → nat_lt (prefix_len p text) (length text) ≡ false
passes_whole p text h =
    let size : prefix_len p text ≡ length text = ap (prefix_len p) (sym (append-nil text)) ∙ run_is p text [] h refl in
    ap (λ n. nat_lt n (length text)) size ∙ not_below (length text)
