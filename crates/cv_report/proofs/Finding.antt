-- The first fault of a key.
use Rattle.std.proofs.Common.{◌≡◌, ℕ, Bool, true, false, cond, List, [], ◌∷◌, ◌++◌, refl, sym, ap, ◌∙◌}
use Rattle.std.specs.Prelude.{Option, Some, None, is_some, find, option_map}
use Rattle.std.specs.Map.{lookup}
use Rattle.std.specs.Option.{option_or}
use Rattle.std.proofs.lemmas.List.Folds.{find-append}
use Rattle.cv_valuation.specs.declared.computed.Cause.{Cause}
use Rattle.cv_valuation.specs.declared.computed.Computed.{Computed}
use Rattle.cv_valuation.specs.declared.key.Key.{Key}
use Rattle.cv_valuation.specs.Keys.{same_key}
use Rattle.cv_valuation.specs.KeyLaws.{same_key_equiv}
use Rattle.cv_report.specs.Report.{cause_lines, cause_of, outcome_line, value_lines}

abbrev Faults : Type 0
Faults = List (Key × Cause)

-- the cause of a key is what a look-up gives
pub cause_of-lookup : (key : Key) (faults : Faults) → cause_of key faults ≡ lookup (same_key key) faults
cause_of-lookup key [] = refl
cause_of-lookup key (fault ∷ faults) = by (same_key key fault.0) (cause_of-lookup key faults)
  where
    by : (same : Bool) → cause_of key faults ≡ lookup (same_key key) faults
        → option_map (λ f. f.1) (cond same (Some fault) (find (λ f. same_key key f.0) faults)) ≡ cond same (Some fault.1) (lookup (same_key key) faults)
    by true rest = refl
    by false rest = rest

-- the cause is found in front, or else behind
cause_of-append : (key : Key) (faults more : Faults) → cause_of key (faults ++ more) ≡ option_or (cause_of key faults) (cause_of key more)
cause_of-append key faults more =
    ap (option_map (λ f. f.1)) (find-append (λ f. same_key key f.0) faults more)
    ∙ by (find (λ f. same_key key f.0) faults) (find (λ f. same_key key f.0) more)
  where
    by : (a b : Option (Key × Cause)) → option_map (λ f. f.1) (option_or a b) ≡ option_or (option_map (λ f. f.1) a) (option_map (λ f. f.1) b)
    by (Some a) b = refl
    by None b = refl

-- where the causes are the same, they are with more faults behind
pub cause_of-more : (faults others more : Faults) → ((key : Key) → cause_of key faults ≡ cause_of key others) → (key : Key) → cause_of key (faults ++ more) ≡ cause_of key (others ++ more)
cause_of-more faults others more same key =
    cause_of-append key faults more ∙ ap (λ o. option_or o (cause_of key more)) (same key) ∙ sym (cause_of-append key others more)

-- the same key has the same cause
cause_of-same : (other key : Key) (faults : Faults) → same_key other key ≡ true → lookup (same_key other) faults ≡ lookup (same_key key) faults
cause_of-same other key [] same = refl
cause_of-same other key (fault ∷ faults) same =
    ap (λ t. cond t (Some fault.1) (lookup (same_key other) faults)) (same_key_equiv.congr other key fault.0 same)
    ∙ ap (cond (same_key key fault.0) (Some fault.1)) (cause_of-same other key faults same)

-- a fault behind another one of its key changes nothing
pub cause_of-again : (key : Key) (cause : Cause) (faults : Faults) → is_some (lookup (same_key key) faults) ≡ true → (other : Key) → cause_of other faults ≡ cause_of other (faults ++ (key, cause) ∷ [])
cause_of-again key cause faults there other = by (same_key other key) refl ∙ sym (cause_of-append other faults ((key, cause) ∷ []))
  where
    found : (o : Option Cause) (cause : Option Cause) → is_some o ≡ true → o ≡ option_or o cause
    found (Some c) cause some = refl
    found None cause some = cc

    nothing : (o : Option Cause) → o ≡ option_or o None
    nothing (Some c) = refl
    nothing None = refl

    by : (same : Bool) → same_key other key ≡ same → cause_of other faults ≡ option_or (cause_of other faults) (option_map (λ (f : Key × Cause). f.1) (cond same (Some (key, cause)) None))
    by true is =
        found (cause_of other faults) (Some cause) (ap is_some (cause_of-lookup other faults ∙ cause_of-same other key faults is) ∙ there)
    by false is = nothing (cause_of other faults)

-- no value is found
pub none_found : (o : Option Cause) → is_some o ≡ false → o ≡ None
none_found (Some c) none = cc
none_found None none = refl

-- the lines of a key with the cause that was found for it
pub lines_of_cause : (element : ℕ) (key : Key) (computed : Computed) (cause : Option Cause) → cause ≡ cause_of key computed.faults
    → outcome_line element key computed ++ cause_lines element key cause ≡ value_lines element key computed
lines_of_cause element key computed cause is = ap (λ c. outcome_line element key computed ++ cause_lines element key c) is
