-- How long a run of code points of one kind is.
use Rattle.std.proofs.Common.{◌≡◌, ℕ, zero, suc, ◌+◌, ◌<◌, ◌≤◌, List, [], ◌∷◌, ◌++◌, length, take, refl, arith}
use Rattle.std.specs.Prelude.{Bool, true, false, All}
use Rattle.std.specs.List.{prefix_len}
use Rattle.std.proofs.lemmas.List.Elements.{All-nil, All-cons, All-head, All-tail}
use Rattle.cv_spec_text.specs.Characters.{begins_by}
use Rattle.cv_text_laws.proofs.Tests.{bool_cases}

-- each code point passes, so the run goes over them all
pub prefix_len-all : (p : ℕ → Bool) (xs rest : List ℕ) → All (λ c. p c ≡ true) xs → prefix_len p (xs ++ rest) ≡ length xs + prefix_len p rest
prefix_len-all p [] rest all = omega arith
prefix_len-all p (x ∷ xs) rest all =
    let here : p x ≡ true = All-head (λ c. p c ≡ true) x xs all in
    let more = prefix_len-all p xs rest (All-tail (λ c. p c ≡ true) x xs all) in
    rw here (omega (arith, more))

-- no run where the first code point doesn't pass
pub prefix_len-none : (p : ℕ → Bool) (text : List ℕ) → begins_by p text ≡ false → prefix_len p text ≡ 0
prefix_len-none p [] other = refl
prefix_len-none p (c ∷ cs) other = rw other refl

pub prefix_len-some : (p : ℕ → Bool) (text : List ℕ) → begins_by p text ≡ true → 0 < prefix_len p text
prefix_len-some p [] begins = cc
prefix_len-some p (c ∷ cs) begins = rw begins (omega arith)

pub begins-some : (p : ℕ → Bool) (text : List ℕ) → 0 < prefix_len p text → begins_by p text ≡ true
begins-some p [] some = absurd (omega arith)
begins-some p (c ∷ cs) some = bool_cases (p c) (λ holds. holds) (λ fails. absurd (omega (arith, prefix_len-none p (c ∷ cs) fails)))

pub one_more : (n : ℕ) → 1 + n ≡ suc n
one_more n = omega arith

-- each code point of the run passes
pub take-run : (p : ℕ → Bool) (n : ℕ) (text : List ℕ) → n ≤ prefix_len p text → All (λ c. p c ≡ true) (take n text)
take-run p zero text within = All-nil (λ c. p c ≡ true)
take-run p (suc n) [] within = absurd (omega arith)
take-run p (suc n) (c ∷ cs) within =
    bool_cases (p c)
    (λ holds.
    let more : prefix_len p (c ∷ cs) ≡ 1 + prefix_len p cs = rw holds refl in
    All-cons (λ d. p d ≡ true) c (take n cs) holds (take-run p n cs (omega (arith, more, within))))
    (λ fails. absurd (omega (arith, prefix_len-none p (c ∷ cs) fails, within)))

pub take-prefix_len : (p : ℕ → Bool) (text : List ℕ) → All (λ c. p c ≡ true) (take (prefix_len p text) text)
take-prefix_len p text = take-run p (prefix_len p text) text (omega arith)

-- the first of some such code points passes
pub begins-all : (p : ℕ → Bool) (xs rest : List ℕ) → 0 < length xs → All (λ c. p c ≡ true) xs → begins_by p (xs ++ rest) ≡ true
begins-all p [] rest some all = absurd (omega arith)
begins-all p (x ∷ xs) rest some all = All-head (λ c. p c ≡ true) x xs all
