-- Keys are compared exactly.
use Rattle.std.proofs.Common.{◌≡◌, true, Some, refl, sym, ◌∙◌, ap}
use Rattle.std.proofs.lemmas.Slice.Eq.{bytes_eq-Decides}
use Rattle.cv_valuation.specs.declared.key.Key.{Key}
use Rattle.cv_valuation.specs.declared.key.Key.TheVariants.{Custom, Table}
use Rattle.cv_valuation.specs.Keys.{same_key, code_of}
use Rattle.cv_valuation.specs.KeyLaws.{same_code}
use Rattle.cv_property.specs.Table.{number_of, numbered}
use Rattle.cv_valuation.specs.TableLaws.{PropertiesAreFound}

by_code : PropertiesAreFound → (a b : Key) → code_of a ≡ code_of b → a ≡ b
by_code found (Custom a) (Custom b) same = let e : a ≡ b = cc in ap Custom e
by_code found (Table a) (Table b) same =
    let numbers : number_of a ≡ number_of b = cc in
    let both : Some a ≡ Some b = sym (found.numbered_so a) ∙ ap numbered numbers ∙ found.numbered_so b in
    let e : a ≡ b = cc in
    ap Table e
by_code found (Custom a) (Table b) same = cc
by_code found (Table a) (Custom b) same = cc

-- keys that are the same by the test are the same
pub keys_same : PropertiesAreFound → (a b : Key) → same_key a b ≡ true → a ≡ b
keys_same found a b same = by_code found a b (same_code a b same)

pub key_same_itself : (a : Key) → same_key a a ≡ true
key_same_itself a = (bytes_eq-Decides (code_of a) (code_of a)).1 refl
