-- What is found, and why a list is refused.
use Rattle.std.proofs.Common.{◌≡◌, ◌⊎◌, inl, inr, ℕ, suc, zero, ◌<◌, ◌≤◌, ◌++◌, Bool, true, false, List, [], ◌∷◌, take, Option, Some, None, Result, Ok, Err, refl, sym, ap, ◌∙◌, subst, arith}
use Rattle.std.specs.Prelude.{IfOk, IfSome, is_none, is_some, nat_lt, if◌then◌else◌, option_map, slice_get}
use Rattle.std.proofs.lemmas.Bool.Decides.{nat_tests}
use Rattle.cv_spec_text.specs.declared.token.Token.{Token}
use Rattle.cv_component.specs.Nesting.{depth}
use Rattle.cv_numeric.specs.declared.matched.Matched.{Matched}
use Rattle.cv_numeric.specs.declared.matched.Matched.TheVariants.{No, Out, Fit}
use Rattle.cv_numeric.specs.Matched.{IsAlike}
use Rattle.cv_property.specs.Grammar.{is_match}
use Rattle.cv_var.specs.Checked.{IsCause, IsChecked}
use Rattle.cv_var.specs.References.{bad_var}
use Rattle.cv_var.specs.Values.{bad_place}
use Rattle.cv_var.specs.declared.refusal.VarErr.{VarErr}
use Rattle.cv_var.specs.declared.refusal.VarErr.TheVariants.{TooDeep, BadValue, BadVar, Memory}
use Rattle.cv_valuation.specs.declared.key.Key.{Key}
use Rattle.cv_valuation.specs.Keys.{is_key, key_named}
use Rattle.cv_props.specs.declared.note.Why.{Why}
use Rattle.cv_props.specs.declared.note.Why.TheVariants as why
use Rattle.cv_props.specs.Kept.{value_fault}
use Rattle.cv_spec_text.specs.Keywords.{is_custom}
use Rattle.cv_property.specs.declared.property.Property.{Property}
use Rattle.cv_property.specs.Table.{property_named}
use Rattle.cv_valuation.specs.declared.key.Key.TheVariants.{Custom, Table}
use Rattle.cv_map.specs.Values.{list_if}

pub is_some_list_if : (b : Bool) (list : List Token) → is_some (list_if b list) ≡ b
is_some_list_if true list = refl
is_some_list_if false list = refl

-- both are a match, or neither is
pub match_alike : {A : Type 0} (m n : Matched A) → IsAlike m n → is_match m ≡ is_match n
match_alike No No alike = refl
match_alike No Out alike = absurd alike
match_alike No (Fit b) alike = absurd alike
match_alike Out No alike = absurd alike
match_alike Out Out alike = refl
match_alike Out (Fit b) alike = refl
match_alike (Fit a) No alike = absurd alike
match_alike (Fit a) Out alike = refl
match_alike (Fit a) (Fit b) alike = refl

-- the key of a name is one
is_key-named : (name : List ℕ) (key : Key) → key_named name ≡ Some key → is_key key ≡ true
unfolding key_named
is_key-named name key named = by (is_custom name) refl (property_named name) named
  where
    by : (b : Bool) → is_custom name ≡ b → (o : Option Property) → (if b then Some (Custom name) else option_map Table o) ≡ Some key → is_key key ≡ true
    by true is o named = let same : Custom name ≡ key = cc in ap is_key (sym same) ∙ is
    by false is (Some property) named = let same : Table property ≡ key = cc in ap is_key (sym same)
    by false is None named = cc

pub kept_named : {E : Type 0} (name : List ℕ) (found : Result (Option Key) E) → IfOk found (λ key. key ≡ key_named name) → IfOk found (λ key. IfSome key (λ k. is_key k ≡ true))
kept_named name (Ok None) is = tt
kept_named name (Ok (Some key)) is = is_key-named name key (sym is)
kept_named name (Err e) is = tt

-- one element more of a list
pub take_next : {X : Type 0} (xs : List X) (i : ℕ) (x : X) → slice_get xs i ≡ Some x → take (suc i) xs ≡ take i xs ++ x ∷ []
take_next [] i x at = cc
take_next (y ∷ ys) zero x at = let same : y ≡ x = cc in ap (λ z. z ∷ []) same
take_next (y ∷ ys) (suc i) x at = ap (λ rest. y ∷ rest) (take_next ys i x at)

-- ---- checked lists

shallow_lt : (d : ℕ) → d ≤ 128 → nat_lt 128 d ≡ false
shallow_lt d few = grind (arith, nat_tests)

deep_lt : (d : ℕ) → 128 < d → nat_lt 128 d ≡ true
deep_lt d many = grind (arith, nat_tests)

pub found_if : (list : List Token) → IsChecked list → Some list ≡ list_if (is_none (value_fault list)) list
unfolding value_fault
found_if list is = by (nat_lt 128 (depth list)) shallow (bad_place list) is.value (bad_var list) is.references
  where
    shallow : nat_lt 128 (depth list) ≡ false
    shallow = shallow_lt (depth list) is.depth_is

    by : (b : Bool) → b ≡ false → (p : Option ℕ) → p ≡ None → (v : Option ℕ) → v ≡ None
        → Some list ≡ list_if (is_none (if b then Some why.TooDeep else (if is_some p then Some why.BadValue else (if is_some v then Some why.BadVar else None)))) list
    by false e None f None g = refl
    by true e p f v g = cc
    by false e (Some x) f v g = cc
    by false e None f (Some y) g = cc

abbrev pub is_memory : VarErr → Bool
is_memory TooDeep = false
is_memory (BadValue place) = false
is_memory (BadVar place) = false
is_memory Memory = true

pub refused_if : (list : List Token) (refusal : VarErr) → is_memory refusal ≡ false → (refusal ≡ Memory) ⊎ IsCause list refusal → None ≡ list_if (is_none (value_fault list)) list
unfolding value_fault
refused_if list Memory other cause = cc
refused_if list TooDeep other (inl same) = cc
refused_if list (BadValue place) other (inl same) = cc
refused_if list (BadVar place) other (inl same) = cc
refused_if list TooDeep other (inr cause) = by (nat_lt 128 (depth list)) (deep_lt (depth list) cause)
  where
    by : (b : Bool) → b ≡ true → None ≡ list_if (is_none (if b then Some why.TooDeep else (if is_some (bad_place list) then Some why.BadValue else (if is_some (bad_var list) then Some why.BadVar else None)))) list
    by true e = refl
    by false e = cc
refused_if list (BadValue place) other (inr cause) = by (nat_lt 128 (depth list)) (bad_place list) cause.1
  where
    by : (b : Bool) (p : Option ℕ) → p ≡ Some place → None ≡ list_if (is_none (if b then Some why.TooDeep else (if is_some p then Some why.BadValue else (if is_some (bad_var list) then Some why.BadVar else None)))) list
    by true p e = refl
    by false (Some x) e = refl
    by false None e = cc
refused_if list (BadVar place) other (inr cause) = by (nat_lt 128 (depth list)) (bad_place list) (bad_var list) cause.2
  where
    by : (b : Bool) (p v : Option ℕ) → v ≡ Some place → None ≡ list_if (is_none (if b then Some why.TooDeep else (if is_some p then Some why.BadValue else (if is_some v then Some why.BadVar else None)))) list
    by true p v e = refl
    by false (Some x) v e = refl
    by false None (Some x) e = refl
    by false None None e = cc
