-- Lists that begin and end with a token that isn't whitespace.
use Rattle.std.specs.Prelude.{◌≡◌, false, List, [], ◌∷◌, ◌++◌, reverse}
use Rattle.std.proofs.Common.{refl, sym, ◌∙◌, ap, append_assoc}
use Rattle.std.proofs.lemmas.List.{reverse-append, reverse-reverse}
use Rattle.cv_spec_text.specs.declared.token.Bracket.{Bracket}
use Rattle.cv_spec_text.specs.declared.token.Token.{Token}
use Rattle.cv_spec_text.specs.declared.token.Token.TheVariants.{White, Close}
use Rattle.cv_component.specs.TopLevel.{begins, trim_front}
use Rattle.cv_component.specs.Balance.{IsBlock, ends, plain, block}
use Rattle.cv_component.specs.Parts.{is_white, trim, has_white_end}
use Rattle.cv_component.proofs.Ends.{full_end}
use Rattle.cv_value_laws.specs.Entries.{IsComponentValue, preserved, block as whole_block, IsEntry}

-- the last token isn't whitespace
pub record EndsFull (ts : List Token) : Type 0 where
  pub before : List Token
  pub last : Token
  pub are : ts ≡ before ++ last ∷ []
  pub full : is_white last ≡ false

pub behind : (xs ys : List Token) → EndsFull ys → EndsFull (xs ++ ys)
behind xs ys e = record { before = xs ++ e.before; last = e.last; are = ap (λ (ts : List Token). xs ++ ts) e.are ∙ sym (append_assoc xs e.before (e.last ∷ [])); full = e.full }

pub no_white_last : (ts : List Token) → EndsFull ts → begins is_white (reverse ts) ≡ false
no_white_last ts e = ap (λ (us : List Token). begins is_white us) (ap reverse e.are ∙ reverse-append e.before (e.last ∷ [])) ∙ e.full

block_ends : (bracket : Bracket) (xs : List Token) → IsBlock bracket xs → EndsFull xs
block_ends _ _ (ends bracket) = record { before = []; last = Close bracket; are = refl; full = refl }
block_ends _ _ (plain bracket token more none other is) = behind (token ∷ []) more (block_ends bracket more is)
block_ends _ _ (block bracket kind token inner more is inner_is more_is) = behind (token ∷ inner) more (block_ends bracket more more_is)

value_ends : (xs : List Token) → IsComponentValue xs → begins is_white xs ≡ false → EndsFull xs
value_ends _ (preserved token none) h = record { before = []; last = token; are = refl; full = h }
value_ends _ (whole_block bracket token inside is inside_is) h = behind (token ∷ []) inside (block_ends bracket inside inside_is)

pub entry_ends : (xs : List Token) → IsEntry xs → EndsFull xs
entry_ends xs e = value_ends xs e.value e.not_white

-- ---- a list that begins and ends so isn't shortened

front_kept : (ts : List Token) → begins is_white ts ≡ false → trim_front ts ≡ ts
front_kept [] h = refl
front_kept (White ∷ ts) h = cc
front_kept (t ∷ ts) h = refl

pub trim_kept : (ts : List Token) → begins is_white ts ≡ false → EndsFull ts → trim ts ≡ ts
trim_kept ts h e =
    ap (λ (us : List Token). reverse (trim_front (reverse us))) (front_kept ts h) ∙ ap reverse (front_kept (reverse ts) (no_white_last ts e)) ∙ reverse-reverse ts

pub no_white_ends : (ts : List Token) → begins is_white ts ≡ false → EndsFull ts → has_white_end ts ≡ false
no_white_ends ts h e = sym (full_end ts h (no_white_last ts e))
