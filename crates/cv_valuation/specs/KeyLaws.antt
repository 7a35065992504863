-- The laws of the comparison of keys, which its `impl` cites.
use Rattle.std.proofs.Common.{◌≡◌, ap, true, encode_utf8_all}
use Rattle.std.specs.Cmp.{IsEquivalence, on_equiv}
use Rattle.std.specs.Cmp.Lexicographic.{nat_list_eq_equiv}
use Rattle.std.specs.Hash as fed
use Rattle.std.proofs.lemmas.Slice.Eq.{bytes_eq-Decides}
use Rattle.cv_valuation.specs.declared.key.Key.{Key}
use Rattle.cv_valuation.specs.declared.key.Key.TheVariants.{Custom, Table}
use Rattle.cv_property.specs.Table.{number_of}
use Rattle.cv_valuation.specs.Keys.{code_of, same_key, key_input}

pub same_key_equiv : IsEquivalence same_key
same_key_equiv = on_equiv code_of nat_list_eq_equiv

-- keys that are the same have the same code
pub same_code : (a b : Key) → same_key a b ≡ true → code_of a ≡ code_of b
same_code a b same = (bytes_eq-Decides (code_of a) (code_of b)).0 (same)

by_code : (a b : Key) → code_of a ≡ code_of b → key_input a ≡ key_input b
by_code (Custom a) (Custom b) same = let e : a ≡ b = cc in ap (λ n. fed.str (encode_utf8_all n)) e
by_code (Table a) (Table b) same = let e : number_of a ≡ number_of b = cc in ap (λ n. fed.usize n) e
by_code (Custom a) (Table b) same = cc
by_code (Table a) (Custom b) same = cc

pub fed_alike : (a b : Key) → same_key a b ≡ true → key_input a ≡ key_input b
fed_alike a b same = by_code a b (same_code a b same)
