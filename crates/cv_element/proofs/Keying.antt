-- The pieces of a declaration with keys for names.
use Rattle.std.proofs.Common.{◌≡◌, ℕ, List, [], ◌∷◌, Option, Some, None, Result, Ok, Err, inl, inr, refl, ◌∙◌, ap}
use Rattle.cv_spec_text.specs.declared.token.Token.{Token}
use Rattle.cv_spec_element.specs.Pieces.{Pieces, finish, token, reference, reference_or, RefersTo, value_or, joined, sub}
use Rattle.cv_valuation.specs.declared.key.Key.{Key}
use Rattle.cv_valuation.specs.declared.key.Key.TheVariants.{Custom}
use Rattle.cv_spec_valuation.specs.Element.{keyed}

abbrev Outcome : Type 0
Outcome = Result (List Token) (List ℕ)

-- the missing name as a key
abbrev pub with_key : Outcome → Result (List Token) Key
with_key (Ok list) = Ok list
with_key (Err name) = Err (Custom name)

joined-keyed : (front back : Outcome) → joined (with_key front) (with_key back) ≡ with_key (joined front back)
joined-keyed (Err name) back = refl
joined-keyed (Ok front) (Err name) = refl
joined-keyed (Ok front) (Ok back) = refl

value_or-keyed : (value : Option (List Token)) (other : Outcome) → value_or value (with_key other) ≡ with_key (value_or value other)
value_or-keyed None other = refl
value_or-keyed (Some list) other = refl

-- substitution by keys is substitution by names
pub sub-keyed : (values : Key → Option (List Token)) (pieces : Pieces (List ℕ) Token) → sub values (keyed pieces) ≡ with_key (sub (λ name. values (Custom name)) pieces)
sub-keyed values finish = refl
sub-keyed values (token t rest) =
    ap (joined (Ok (t ∷ []))) (sub-keyed values rest) ∙ joined-keyed (Ok (t ∷ [])) (sub (λ name. values (Custom name)) rest)
sub-keyed values (reference n rest) =
    ap (joined (value_or (values (Custom n)) (Err (Custom n)))) (sub-keyed values rest)
    ∙ ap (λ front. joined front (with_key (sub (λ name. values (Custom name)) rest))) (value_or-keyed (values (Custom n)) (Err n))
    ∙ joined-keyed (value_or (values (Custom n)) (Err n)) (sub (λ name. values (Custom name)) rest)
sub-keyed values (reference_or n fallback rest) =
    ap (joined (value_or (values (Custom n)) (sub values (keyed fallback)))) (sub-keyed values rest)
    ∙ ap (λ other. joined (value_or (values (Custom n)) other) (with_key (sub (λ name. values (Custom name)) rest))) (sub-keyed values fallback)
    ∙ ap (λ front. joined front (with_key (sub (λ name. values (Custom name)) rest))) (value_or-keyed (values (Custom n)) (sub (λ name. values (Custom name)) fallback))
    ∙ joined-keyed (value_or (values (Custom n)) (sub (λ name. values (Custom name)) fallback)) (sub (λ name. values (Custom name)) rest)

-- a reference by key is one by name
pub RefersTo-keyed : (pieces : Pieces (List ℕ) Token) (key : Key) → RefersTo (keyed pieces) key → (name : List ℕ) × (Custom name ≡ key) × RefersTo pieces name
RefersTo-keyed finish key refers = absurd refers
RefersTo-keyed (token t rest) key refers = RefersTo-keyed rest key refers
RefersTo-keyed (reference n rest) key (inl same) = (n, same, inl refl)
RefersTo-keyed (reference n rest) key (inr refers) = let found = RefersTo-keyed rest key refers in (found.0, found.1, inr found.2)
RefersTo-keyed (reference_or n fallback rest) key (inl same) = (n, same, inl refl)
RefersTo-keyed (reference_or n fallback rest) key (inr (inl refers)) = let found = RefersTo-keyed fallback key refers in (found.0, found.1, inr (inl found.2))
RefersTo-keyed (reference_or n fallback rest) key (inr (inr refers)) = let found = RefersTo-keyed rest key refers in (found.0, found.1, inr (inr found.2))

pub keyed-RefersTo : (pieces : Pieces (List ℕ) Token) (name : List ℕ) → RefersTo pieces name → RefersTo (keyed pieces) (Custom name)
keyed-RefersTo finish name refers = absurd refers
keyed-RefersTo (token t rest) name refers = keyed-RefersTo rest name refers
keyed-RefersTo (reference n rest) name (inl same) = inl (ap Custom same)
keyed-RefersTo (reference n rest) name (inr refers) = inr (keyed-RefersTo rest name refers)
keyed-RefersTo (reference_or n fallback rest) name (inl same) = inl (ap Custom same)
keyed-RefersTo (reference_or n fallback rest) name (inr (inl refers)) = inr (inl (keyed-RefersTo fallback name refers))
keyed-RefersTo (reference_or n fallback rest) name (inr (inr refers)) = inr (inr (keyed-RefersTo rest name refers))

-- substitution reads the values of the references alone
pub sub-agrees : {N T : Type 0} (v w : N → Option (List T)) (pieces : Pieces N T) → ((q : N) → RefersTo pieces q → v q ≡ w q) → sub v pieces ≡ sub w pieces
sub-agrees v w finish same = refl
sub-agrees v w (token t rest) same = ap (joined (Ok (t ∷ []))) (sub-agrees v w rest same)
sub-agrees v w (reference n rest) same =
    ap (joined (value_or (v n) (Err n))) (sub-agrees v w rest (λ q refers. same q (inr refers)))
    ∙ ap (λ value. joined (value_or value (Err n)) (sub w rest)) (same n (inl refl))
sub-agrees v w (reference_or n fallback rest) same =
    ap (joined (value_or (v n) (sub v fallback))) (sub-agrees v w rest (λ q refers. same q (inr (inr refers))))
    ∙ ap (λ other. joined (value_or (v n) other) (sub w rest)) (sub-agrees v w fallback (λ q refers. same q (inr (inl refers))))
    ∙ ap (λ value. joined (value_or value (sub w fallback)) (sub w rest)) (same n (inl refl))
