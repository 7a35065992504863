-- Lists in which each `var()` is a reference: their parts behind a token, and without whitespace at the front.
use Rattle.std.proofs.Common.{◌≡◌, ℕ, suc, zero, List, [], ◌∷◌, ◌++◌, drop, Option, Some, None, refl}
use Rattle.std.specs.Prelude.{Bool, true, false, if◌then◌else◌, option_map}
use Rattle.cv_spec_text.specs.declared.token.Token.{Token}
use Rattle.cv_spec_text.specs.declared.token.Token.TheVariants.{Ident, Function, At, Hash, Str, BadStr, Url, BadUrl, Delim, Number, Percentage, Dimension, White, Cdo, Cdc, Colon, Semicolon, Comma, Open, Close}
use Rattle.cv_component.specs.TopLevel.{trim_front}
use Rattle.cv_var.specs.References.{is_bad_var, bad_var}

abbrev pub IsGood : List Token → Type 0
IsGood tokens = bad_var tokens ≡ None

option_map_suc-none : (o : Option ℕ) → option_map suc o ≡ None → o ≡ None
option_map_suc-none None is = refl
option_map_suc-none (Some n) is = absurd cc

split_by : (bad : Bool) (more : Option ℕ) → (if bad then Some 0 else option_map suc more) ≡ None → (bad ≡ false) × (more ≡ None)
split_by true more is = absurd cc
split_by false more is = (refl, option_map_suc-none more is)

join_by : (bad : Bool) (more : Option ℕ) → bad ≡ false → more ≡ None → (if bad then Some 0 else option_map suc more) ≡ None
join_by true more right none = absurd cc
join_by false None right none = refl
join_by false (Some n) right none = absurd cc

pub split : (t : Token) (rest : List Token) → IsGood (t ∷ rest) → (is_bad_var (t ∷ rest) ≡ false) × IsGood rest
split t rest good = split_by (is_bad_var (t ∷ rest)) (bad_var rest) good

pub join : (t : Token) (rest : List Token) → is_bad_var (t ∷ rest) ≡ false → IsGood rest → IsGood (t ∷ rest)
join t rest right good = join_by (is_bad_var (t ∷ rest)) (bad_var rest) right good

pub good_suffix : (front rest : List Token) → IsGood (front ++ rest) → IsGood rest
good_suffix [] rest good = good
good_suffix (t ∷ front) rest good = good_suffix front rest (split t (front ++ rest) good).1

pub good_drop : (n : ℕ) (tokens : List Token) → IsGood tokens → IsGood (drop n tokens)
good_drop zero tokens good = good
good_drop (suc n) [] good = good
good_drop (suc n) (t ∷ rest) good = good_drop n rest (split t rest good).1

pub good_front : (tokens : List Token) → IsGood tokens → IsGood (trim_front tokens)
good_front [] good = good
good_front (Ident text ∷ rest) good = good
good_front (Function text ∷ rest) good = good
good_front (At text ∷ rest) good = good
good_front (Hash text id ∷ rest) good = good
good_front (Str text ∷ rest) good = good
good_front (BadStr ∷ rest) good = good
good_front (Url text ∷ rest) good = good
good_front (BadUrl ∷ rest) good = good
good_front (Delim c ∷ rest) good = good
good_front (Number text ∷ rest) good = good
good_front (Percentage text ∷ rest) good = good
good_front (Dimension number text ∷ rest) good = good
good_front (White ∷ rest) good = good_front rest (split White rest good).1
good_front (Cdo ∷ rest) good = good
good_front (Cdc ∷ rest) good = good
good_front (Colon ∷ rest) good = good
good_front (Semicolon ∷ rest) good = good
good_front (Comma ∷ rest) good = good
good_front (Open bracket ∷ rest) good = good
good_front (Close bracket ∷ rest) good = good
