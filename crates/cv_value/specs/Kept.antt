-- What a valuation may keep of a typed value, said by its items alone, whatever gave the value: its text, put into a list, brings no unit
-- relative to a font and no CSS-wide keyword with it, and is read again (this project's own; that computed lengths are absolute:
-- Properties and Values API 1, "Calculation of Computed Values").
use Rattle.std.specs.Prelude.{◌≡◌, true, false}
use Rattle.std.specs.List.{AllByRecursion as Every}
use Rattle.cv_spec_text.specs.Keywords.{is_css_wide_keyword}
use Rattle.cv_spec_text.specs.declared.token.Token.TheVariants as token
use Rattle.cv_spec_text.specs.Splits.{IsSpelt}
use Rattle.cv_simplify.specs.Canonical.{holds_canonical}
use Rattle.cv_value.specs.declared.typed.Item.{Item}
use Rattle.cv_value.specs.declared.typed.Item.TheVariants.{Mixed, Url, Str, Ident}
use Rattle.cv_value.specs.declared.typed.Typed.{Typed}
use Rattle.cv_value.specs.declared.typed.Typed.TheVariants.{One, Spaces, Commas}

-- it holds of each item of the value
abbrev pub OfItems : (Item → Type 0) → Typed → Type 0
OfItems Q (One i) = Q i
OfItems Q (Spaces is) = Every Q is
OfItems Q (Commas is) = Every Q is

-- what is written as a calculation is in canonical units
abbrev pub IsCanonical : Item → Type 0
IsCanonical (Mixed c) = holds_canonical c ≡ true
IsCanonical i = Unit {0}

-- an ident is no CSS-wide keyword (CSS Values and Units 4, "CSS-wide keywords")
abbrev pub NoKeyword : Item → Type 0
NoKeyword (Ident name) = is_css_wide_keyword name ≡ false
NoKeyword i = Unit {0}

-- the strings and idents of the item are those of texts
abbrev pub HasSpeltNames : Item → Type 0
HasSpeltNames (Url text) = IsSpelt (token.Str text)
HasSpeltNames (Str text) = IsSpelt (token.Str text)
HasSpeltNames (Ident name) = IsSpelt (token.Ident name)
HasSpeltNames i = Unit {0}

pub record MayBeKept (v : Typed) : Type 0 where
  pub canonical : OfItems IsCanonical v
  pub no_keyword : OfItems NoKeyword v
  pub spelt : OfItems HasSpeltNames v
