-- The order of keys is total, and only equal keys tie.
use Rattle.std.proofs.Common.{◌≡◌, true, ap}
use Rattle.std.specs.Cmp.{IsTotalOrder, on_total}
use Rattle.std.specs.Cmp.Lexicographic.{nat_list_cmp_total}
use Rattle.std.specs.FinMap.{IsAntisymmetric, slice_cmp-IsAntisymmetric, nat_cmp-IsAntisymmetric}
use Rattle.std.specs.Ordering.{eq_by_cmp}
use Rattle.std.proofs.lemmas.Map.Text.{is_eq-slice_cmp}
use Rattle.cv_valuation.specs.declared.key.Key.{Key}
use Rattle.cv_valuation.specs.declared.key.Key.TheVariants.{Custom, Table}
use Rattle.cv_property.specs.Table.{number_of}
use Rattle.cv_valuation.specs.Keys.{code_of, key_cmp, same_key}
use Rattle.cv_valuation.specs.KeyLaws.{same_code}
use Rattle.cv_property.specs.Numbers.{same_number}

by_code : (a b : Key) → code_of a ≡ code_of b → a ≡ b
by_code (Custom a) (Custom b) same = let e : a ≡ b = cc in ap Custom e
by_code (Table p) (Table q) same = let e : number_of p ≡ number_of q = cc in ap Table (same_number p q e)
by_code (Custom a) (Table q) same = cc
by_code (Table p) (Custom b) same = cc

-- keys that are the same are equal
pub equal_keys : (a b : Key) → same_key a b ≡ true → a ≡ b
equal_keys a b same = by_code a b (same_code a b same)

pub key_cmp_total : IsTotalOrder key_cmp
key_cmp_total = on_total code_of nat_list_cmp_total

pub key_cmp_antisymmetric : IsAntisymmetric key_cmp
key_cmp_antisymmetric a b tie = by_code a b (slice_cmp-IsAntisymmetric nat_cmp-IsAntisymmetric (code_of a) (code_of b) tie)

-- keys tie exactly where they are the same
pub tied_keys : (a b : Key) → eq_by_cmp key_cmp a b ≡ same_key a b
tied_keys a b = is_eq-slice_cmp (code_of a) (code_of b)
