-- The names of the jobs, as they are lent: their texts, behind references of any addresses.
use Rattle.std.proofs.Common.{◌≡◌, ℕ, zero, suc, ◌+◌, Bool, cond, true, false, List, [], ◌∷◌, map, Option, Some, refl, sym, ◌∙◌, ap, subst, arith, find}
use Rattle.std.specs.Borrow.{Bor}
use Rattle.clap.specs.Simple.{Shape, built, filled, with_index}
use Rattle.clap.specs.Walk.{Rule, Text}
use Rattle.cv_words.specs.Command.{Choices, HasJobs, command_of, job_names, job_rule, limit_rule, size_rule}

abbrev Address : Type 0
Address = ℕ × ℕ

-- the addresses that the list of the names is lent from, and each name by its place
abbrev pub Lease : Type 0
Lease = Address × (ℕ → Address)

-- these texts, each lent from the address of its place
abbrev texts_from : (ℕ → Address) → ℕ → List Text → List (Bor Text)
texts_from address place [] = []
texts_from address place (text ∷ texts) = record { ref_ptr = address place; now = text } ∷ texts_from address (place + 1) texts

-- the names of the jobs, lent from these addresses
abbrev pub lent : Lease → Choices
lent at = record { ref_ptr = at.0; now = texts_from at.1 0 job_names }

-- the address of each place of a list
abbrev address_of : List (Bor Text) → ℕ → Address
address_of [] place = (0, 0)
address_of (name ∷ names) zero = name.ref_ptr
address_of (name ∷ names) (suc place) = address_of names place

-- a list is that of its texts, lent from its addresses
is_lent : (address : ℕ → Address) (place : ℕ) (list : List (Bor Text)) → ((i : ℕ) → address (place + i) ≡ address_of list i) → texts_from address place (map (λ name. name.now) list) ≡ list
is_lent address place [] same = refl
is_lent address place (name ∷ names) same =
    let here : address place ≡ name.ref_ptr = ap address (let e : place ≡ place + 0 = omega arith in e) ∙ same 0 in
    ap (λ (p : Address). record { ref_ptr = p; now = name.now } ∷ texts_from address (place + 1) (map (λ name. name.now) names)) here
    ∙ ap (λ (rest : List (Bor Text)). name ∷ rest) (is_lent address (place + 1) names (λ i. ap address (let e : place + 1 + i ≡ place + suc i = omega arith in e) ∙ same (suc i)))

-- each list of the names of the jobs is lent so
pub all_are_lent : (P : Choices → Type 0) → ((at : Lease) → P (lent at)) → (names : Choices) → HasJobs names → P names
all_are_lent P each names jobs =
    let list : texts_from (address_of names.now) 0 job_names ≡ names.now =
    ap (texts_from (address_of names.now) 0) (sym jobs) ∙ is_lent (address_of names.now) 0 names.now (λ i. ap (address_of names.now) (let e : 0 + i ≡ i = omega arith in e)) in
    subst P (ap (λ (l : List (Bor Text)). record { ref_ptr = names.ref_ptr; now = l }) list) (each (names.ref_ptr, address_of names.now))

-- the command's shape once it is built, and its rules: that of the job, and the options'
abbrev pub shape : Choices → Shape
shape names = (built (command_of names)).top

abbrev pub rules : Choices → List Rule
rules names = (shape names).rules

abbrev pub job : Choices → Rule
job names = with_index 1 (filled (job_rule names))

abbrev pub limit : Rule
limit = with_index 2 (filled limit_rule)

abbrev pub size : Rule
size = with_index 2 (filled size_rule)

abbrev pub options : List Rule
options = limit ∷ size ∷ []

module _ (one two : Lease) where
  -- what is made of the rule that a search finds, where it makes the same of the rule of the job
  pub found : {X : Type 0} (test : Rule → Bool) (made : Option Rule → X) → test (job (lent two)) ≡ test (job (lent one)) → made (Some (job (lent one))) ≡ made (Some (job (lent two)))
      → made (find test (rules (lent one))) ≡ made (find test (rules (lent two)))
  found test made same seen = ap (λ b. made (cond b (Some (job (lent one))) (find test options))) (sym same) ∙ go (test (job (lent two)))
    where
      go : (b : Bool) → made (cond b (Some (job (lent one))) (find test options)) ≡ made (cond b (Some (job (lent two))) (find test options))
      go true = seen
      go false = refl
