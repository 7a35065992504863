-- Keys are compared exactly.
use Rattle.std.proofs.Common.{◌≡◌, ◌≢◌, Bool, true, false, Some, ◌⊎◌, inl, inr, refl, sym, ◌∙◌, ap}
use Rattle.std.proofs.lemmas.Slice.Eq.{bytes_eq-Decides}
use Rattle.cv_valuation.specs.declared.key.Key.{Key}
use Rattle.cv_valuation.specs.declared.key.Key.TheVariants.{Custom, Table}
use Rattle.cv_valuation.specs.Keys.{same_key, code_of}
use Rattle.cv_valuation.specs.KeyLaws.{same_code}
use Rattle.cv_property.specs.Table.{number_of, numbered}
use Rattle.cv_valuation.specs.TableLaws.{PropertiesAreFound}

-- keys that are the same by the test are the same
by_code : PropertiesAreFound → (a b : Key) → code_of a ≡ code_of b → a ≡ b
by_code found (Custom a) (Custom b) same = let e : a ≡ b = cc in ap Custom e
by_code found (Table a) (Table b) same =
    let numbers : number_of a ≡ number_of b = cc in
    let both : Some a ≡ Some b = sym (found.numbered_so a) ∙ ap numbered numbers ∙ found.numbered_so b in
    let e : a ≡ b = cc in
    ap Table e
by_code found (Custom a) (Table b) same = cc
by_code found (Table a) (Custom b) same = cc

pub keys_same : PropertiesAreFound → (a b : Key) → same_key a b ≡ true → a ≡ b
keys_same found a b same = by_code found a b (same_code a b same)

pub same_key_same : (a b : Key) → a ≡ b → same_key a b ≡ true
same_key_same a b same = (bytes_eq-Decides (code_of a) (code_of b)).1 (ap code_of same)

pub same_or_not : PropertiesAreFound → (a b : Key) → (a ≡ b) ⊎ (a ≢ b)
same_or_not found a b = by (same_key a b) refl
  where
    by : (x : Bool) → same_key a b ≡ x → (a ≡ b) ⊎ (a ≢ b)
    by true is = inl (keys_same found a b is)
    by false is = inr (λ same. let clash : true ≡ false = sym (same_key_same a b same) ∙ is in cc)
