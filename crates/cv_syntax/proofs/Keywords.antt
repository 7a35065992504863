-- No literal of a syntax string is a CSS-wide keyword.
use Rattle.std.specs.Prelude.{◌≡◌, ℕ, ◌+◌, Bool, true, false, not, ◌==◌, ◌||◌, ◌&&◌, nat_lt, List, [], ◌∷◌, length, take, drop, codes, bytes_eq, Result, Ok, Err, Option, Some, None, if◌then◌else◌}
use Rattle.std.specs.List.{list_all}
use Rattle.std.proofs.Common.{refl, ap, subst}
use Rattle.cv_spec_text.specs.Characters.{plus_sign, number_sign, less_than_sign}
use Rattle.cv_spec_text.specs.Keywords.{is_word, is_css_wide_keyword}
use Rattle.cv_syntax.specs.Strings.{blank_length, ended, many_at, kind_at, name_at, name_length, bracketed, word_length, worded, begun, component_at, parts, before, components_of, is_blank, is_star, of_components, syntax}
use Rattle.cv_syntax.specs.Words.{named, is_left_out, is_forbidden, begins_ident}
use Rattle.cv_syntax.specs.declared.syntax.Kind.{Kind}
use Rattle.cv_syntax.specs.declared.syntax.Kind.TheVariants.{Length, Number, Percentage, LengthPercentage, Color, Url, Integer, Angle, Time, Resolution, Str, CustomIdent, Literal}
use Rattle.cv_syntax.specs.declared.syntax.Many.{Many}
use Rattle.cv_syntax.specs.declared.syntax.Many.TheVariants.{One, Spaces, Commas}
use Rattle.cv_syntax.specs.declared.syntax.Component.{Component}
use Rattle.cv_syntax.specs.declared.syntax.Syntax.{Syntax}
use Rattle.cv_syntax.specs.declared.syntax.Syntax.TheVariants.{Any}
use Rattle.cv_syntax.specs.declared.syntax.SyntaxErr.{SyntaxErr}
use Rattle.cv_syntax.specs.declared.syntax.SyntaxErr.TheVariants.{Empty, Unsupported, BadName, BadChar}
use Rattle.cv_syntax.specs.Told.{is_no_keyword, has_no_keyword, SyntaxesHaveNoKeyword}

-- ---- one component

abbrev IsFine : Result Component SyntaxErr → Type 0
IsFine (Err e) = Unit {0}
IsFine (Ok c) = is_no_keyword c.kind ≡ true

either_fine : (b : Bool) (r s : Result Component SyntaxErr) → IsFine r → IsFine s → IsFine (if b then r else s)
either_fine true r s h k = h
either_fine false r s h k = k

module _ (kind : Kind) (fine : is_no_keyword kind ≡ true) where
  ended_fine : (many : Many) (place : ℕ) (rest : List ℕ) → IsFine (ended kind many place rest)
  unfolding ended
  ended_fine many place rest =
      either_fine (nat_lt (blank_length rest) (length rest)) (Err (BadChar (place + blank_length rest))) (Ok (record { kind = kind; many = many })) tt fine

  many_fine : (place : ℕ) (text : List ℕ) → IsFine (many_at kind place text)
  many_fine place [] = fine
  many_fine place (c ∷ cs) =
      either_fine (c == plus_sign) (ended kind Spaces (place + 1) cs) (if c == number_sign then ended kind Commas (place + 1) cs else ended kind One place (c ∷ cs))
      (ended_fine Spaces (place + 1) cs)
      (
      either_fine (c == number_sign) (ended kind Commas (place + 1) cs) (ended kind One place (c ∷ cs)) (ended_fine Commas (place + 1) cs)
      (ended_fine One place (c ∷ cs))
      )

abbrev IsOther : Option Kind → Type 0
IsOther None = Unit {0}
IsOther (Some k) = is_no_keyword k ≡ true

either_other : (b : Bool) (k : Kind) (o : Option Kind) → is_no_keyword k ≡ true → IsOther o → IsOther (if b then Some k else o)
either_other true k o h i = h
either_other false k o h i = i

named_other : (name : List ℕ) → IsOther (named name)
unfolding named
named_other name =
    either_other (bytes_eq name (codes "length")) Length _ refl (
    either_other (bytes_eq name (codes "number")) Number _ refl (
    either_other (bytes_eq name (codes "percentage")) Percentage _ refl (
    either_other (bytes_eq name (codes "length-percentage")) LengthPercentage _ refl (
    either_other (bytes_eq name (codes "color")) Color _ refl (
    either_other (bytes_eq name (codes "url")) Url _ refl (
    either_other (bytes_eq name (codes "integer")) Integer _ refl (
    either_other (bytes_eq name (codes "angle")) Angle _ refl (
    either_other (bytes_eq name (codes "time")) Time _ refl (
    either_other (bytes_eq name (codes "resolution")) Resolution _ refl (
    either_other (bytes_eq name (codes "string")) Str _ refl (either_other (bytes_eq name (codes "custom-ident")) CustomIdent None refl tt)
    )
    )
    )
    )
    )
    )
    )
    )
    )
    )

kind_fine : (place : ℕ) (o : Option Kind) → IsOther o → (after : ℕ) (rest : List ℕ) → IsFine (kind_at place o after rest)
kind_fine place None h after rest = tt
kind_fine place (Some kind) h after rest = many_fine kind h after rest

name_fine : (place : ℕ) (name : List ℕ) (after : ℕ) (rest : List ℕ) → IsFine (name_at place name after rest)
name_fine place name after rest = either_fine (is_left_out name) (Err (Unsupported name)) (kind_at place (named name) after rest) tt (kind_fine place (named name) (named_other name) after rest)

bracketed_fine : (place : ℕ) (text : List ℕ) → IsFine (bracketed place text)
unfolding bracketed
bracketed_fine place text =
    either_fine (nat_lt (name_length text) (length text)) (name_at place (take (name_length text) text) (place + name_length text + 2) (drop (name_length text + 1) text)) (Err (BadName place))
    (name_fine place (take (name_length text) text) (place + name_length text + 2) (drop (name_length text + 1) text)) tt

front_false : (a b : Bool) → (a || b) ≡ false → a ≡ false
front_false true b e = e
front_false false b e = refl

allowed : (word : List ℕ) → is_forbidden word ≡ false → is_no_keyword (Literal word) ≡ true
unfolding is_forbidden
allowed word e = ap not (front_false (is_css_wide_keyword word) (is_word (codes "default") word) e)

literal_fine : (place after : ℕ) (word rest : List ℕ) (b : Bool) → is_forbidden word ≡ b → IsFine (if b then Err (BadName place) else many_at (Literal word) after rest)
literal_fine place after word rest true e = tt
literal_fine place after word rest false e = many_fine (Literal word) (allowed word e) after rest

worded_fine : (place : ℕ) (text : List ℕ) → IsFine (worded place text)
unfolding worded
worded_fine place text =
    literal_fine place (place + word_length text) (take (word_length text) text) (drop (word_length text) text) (is_forbidden (take (word_length text) text)) refl

begun_fine : (place : ℕ) (text : List ℕ) → IsFine (begun place text)
unfolding begun
begun_fine place [] = tt
begun_fine place (c ∷ cs) =
    either_fine (c == less_than_sign) (bracketed place cs) (if begins_ident (c ∷ cs) then worded place (c ∷ cs) else Err (BadChar place)) (bracketed_fine place cs)
    (either_fine (begins_ident (c ∷ cs)) (worded place (c ∷ cs)) (Err (BadChar place)) (worded_fine place (c ∷ cs)) tt)

component_fine : (place : ℕ) (text : List ℕ) → IsFine (component_at place text)
unfolding component_at
component_fine place text = begun_fine (place + blank_length text) (drop (blank_length text) text)

-- ---- all components

both_are : (a b : Bool) → a ≡ true → b ≡ true → (a && b) ≡ true
both_are true b h k = k
both_are false b h k = h

abbrev AreFine : Result (List Component) SyntaxErr → Type 0
AreFine (Err e) = Unit {0}
AreFine (Ok cs) = list_all (λ (c : Component). is_no_keyword c.kind) cs ≡ true

before_fine : (r : Result Component SyntaxErr) (rest : Result (List Component) SyntaxErr) → IsFine r → AreFine rest → AreFine (before r rest)
before_fine (Err e) rest h k = tt
before_fine (Ok c) (Err e) h k = tt
before_fine (Ok c) (Ok cs) h k = both_are (is_no_keyword c.kind) (list_all (λ (d : Component). is_no_keyword d.kind) cs) h k

components_fine : (place : ℕ) (texts : List (List ℕ)) → AreFine (components_of place texts)
components_fine place [] = refl
components_fine place (t ∷ ts) =
    before_fine (component_at place t) (components_of (place + length t + 1) ts) (component_fine place t) (components_fine (place + length t + 1) ts)

abbrev HasNone : Result Syntax SyntaxErr → Type 0
HasNone (Err e) = Unit {0}
HasNone (Ok s) = has_no_keyword s ≡ true

of_fine : (r : Result (List Component) SyntaxErr) → AreFine r → HasNone (of_components r)
of_fine (Err e) h = tt
of_fine (Ok cs) h = h

either_none : (b : Bool) (r s : Result Syntax SyntaxErr) → HasNone r → HasNone s → HasNone (if b then r else s)
either_none true r s h k = h
either_none false r s h k = k

syntax_none : (text : List ℕ) → HasNone (syntax text)
unfolding syntax
syntax_none text =
    either_none (is_blank text) (Err Empty) (if is_star text then Ok Any else of_components (components_of 0 (parts text))) tt
    (either_none (is_star text) (Ok Any) (of_components (components_of 0 (parts text))) refl (of_fine (components_of 0 (parts text)) (components_fine 0 (parts text))))

pub syntaxes_have_no_keyword : SyntaxesHaveNoKeyword
syntaxes_have_no_keyword text s e = subst HasNone e (syntax_none text)
