-- Urls, strings and idents read back.
use Rattle.std.specs.Prelude.{ℕ, Bool, true, false, codes, bytes_eq, List, [], ◌∷◌, if◌then◌else◌}
use Rattle.std.proofs.Common.{◌≡◌, refl, subst}
use Rattle.cv_spec_text.specs.Keywords.{is_word}
use Rattle.cv_spec_text.specs.declared.token.Token.{Token}
use Rattle.cv_spec_text.specs.declared.token.Token.TheVariants as tokens
use Rattle.cv_component.specs.TopLevel.{trim_front}
use Rattle.cv_numeric.specs.declared.matched.Matched.{Matched}
use Rattle.cv_numeric.specs.declared.matched.Matched.TheVariants.{No, Fit}
use Rattle.cv_value.specs.declared.typed.Item.{Item}
use Rattle.cv_value.specs.declared.typed.Item.TheVariants as item_of
use Rattle.cv_value.specs.Items.{is_end, url_inside, url_function, url, string, is_reserved, custom_ident, literal}
use Rattle.cv_value.specs.Text.{item_text}
use Rattle.cv_value_roundtrip.proofs.Given.{fit_same, if_fits}

-- the text of the item reads as the item
abbrev pub IsRead : (List Token → Matched Item) → Item → Type 0
IsRead read i = read (item_text i) ≡ Fit i

-- ---- urls

url_text : (text : List ℕ) → IsRead url (item_of.Url text)
url_text text = refl

inside_read : (ts : List Token) (i : Item) → url_inside ts ≡ Fit i → IsRead url i
inside_read (tokens.Str text ∷ ts) i h =
    let (ends, same) = if_fits (is_end (trim_front ts)) (Fit (item_of.Url text)) i h in
    subst (IsRead url) (fit_same (item_of.Url text) i same) (url_text text)
inside_read ts i h = absurd cc

function_read : (name : List ℕ) (ts : List Token) (i : Item) → url_function name ts ≡ Fit i → IsRead url i
function_read name ts i h =
    let (word, fits) = if_fits (is_word (codes "url") name) (url_inside (trim_front ts)) i h in
    inside_read (trim_front ts) i fits

pub url_read : (ts : List Token) (i : Item) → url ts ≡ Fit i → IsRead url i
url_read (tokens.Url text ∷ []) i h = subst (IsRead url) (fit_same (item_of.Url text) i h) (url_text text)
url_read (tokens.Function name ∷ ts) i h = function_read name ts i h
url_read ts i h = absurd cc

-- ---- strings

pub string_read : (ts : List Token) (i : Item) → string ts ≡ Fit i → IsRead string i
string_read (tokens.Str text ∷ []) i h = subst (IsRead string) (fit_same (item_of.Str text) i h) refl
string_read ts i h = absurd cc

-- ---- idents

pub custom_ident_read : (ts : List Token) (i : Item) → custom_ident ts ≡ Fit i → IsRead custom_ident i
custom_ident_read (tokens.Ident name ∷ []) i h = by (is_reserved name) refl h
  where
    by : (b : Bool) → is_reserved name ≡ b → (if b then No else Fit (item_of.Ident name)) ≡ Fit i → IsRead custom_ident i
    by true e h = absurd cc
    by false e h = subst (IsRead custom_ident) (fit_same (item_of.Ident name) i h) (rw e refl)
custom_ident_read ts i h = absurd cc

pub literal_read : (word : List ℕ) (ts : List Token) (i : Item) → literal word ts ≡ Fit i → IsRead (literal word) i
literal_read word (tokens.Ident name ∷ []) i h =
    let (same, fits) = if_fits (bytes_eq name word) (Fit (item_of.Ident name)) i h in
    subst (IsRead (literal word)) (fit_same (item_of.Ident name) i fits) (rw same refl)
literal_read word ts i h = absurd cc
