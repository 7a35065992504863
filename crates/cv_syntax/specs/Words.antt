-- The names and words of syntax strings (Properties and Values API 1, "Supported Names" and "Syntax Strings").
use Rattle.std.specs.Prelude.{ℕ, Bool, ◌||◌, ◌&&◌, ◌==◌, List, drop, codes, bytes_eq, Option, Some, None, if◌then◌else◌}
use Rattle.cv_spec_text.specs.Keywords.{is_word, is_css_wide_keyword}
use Rattle.cv_spec_text.specs.Characters.{hyphen, is_ident_start, begins_by, begins_with}
use Rattle.cv_syntax.specs.declared.syntax.Kind.{Kind}
use Rattle.cv_syntax.specs.declared.syntax.Kind.TheVariants.{Length, Number, Percentage, LengthPercentage, Color, Url, Integer, Angle, Time, Resolution, Str, CustomIdent}

-- the kind of a name between `<` and `>`
unfoldable pub named : List ℕ → Option Kind
named name =
    if bytes_eq name (codes "length") then Some Length
    else if bytes_eq name (codes "number") then Some Number
    else if bytes_eq name (codes "percentage") then Some Percentage
    else if bytes_eq name (codes "length-percentage") then Some LengthPercentage
    else if bytes_eq name (codes "color") then Some Color
    else if bytes_eq name (codes "url") then Some Url
    else if bytes_eq name (codes "integer") then Some Integer
    else if bytes_eq name (codes "angle") then Some Angle
    else if bytes_eq name (codes "time") then Some Time
    else if bytes_eq name (codes "resolution") then Some Resolution
    else if bytes_eq name (codes "string") then Some Str
    else if bytes_eq name (codes "custom-ident") then Some CustomIdent
    else None

-- the names of the standard's components that this project leaves out
unfoldable pub is_left_out : List ℕ → Bool
is_left_out name = bytes_eq name (codes "image") || bytes_eq name (codes "transform-function") || bytes_eq name (codes "transform-list")

-- no literal: a CSS-wide keyword, or `default`, without ASCII case
unfoldable pub is_forbidden : List ℕ → Bool
is_forbidden name = is_css_wide_keyword name || is_word (codes "default") name

-- an ident without escapes begins here (CSS Syntax 3, "Check if three code points would start an ident sequence")
unfoldable pub begins_ident : List ℕ → Bool
begins_ident text = begins_by is_ident_start text || begins_with hyphen text && begins_by (λ c. c == hyphen || is_ident_start c) (drop 1 text)
