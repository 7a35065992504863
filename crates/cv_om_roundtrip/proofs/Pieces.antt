-- Tokens that are read back one by one, and lists of them that are: no token is bad, no function is `url`, no two White stand together, and
-- no number is out of range.
use Rattle.std.specs.Prelude.{ℕ, Bool, true, false, ◌&&◌, ◌+◌, List, [], ◌∷◌, ◌++◌, codes, Some, None, if◌then◌else◌}
use Rattle.std.specs.List.{AllByRecursion}
use Rattle.std.proofs.Common.{◌≡◌, refl, sym, ◌∙◌, ap, arith}
use Rattle.std.proofs.lemmas.List.Elements.{All-from_recursion}
use Rattle.cv_spec_text.specs.declared.token.Token.{Token}
use Rattle.cv_spec_text.specs.declared.token.Token.TheVariants as tokens
use Rattle.cv_spec_text.specs.declared.token.Bracket.TheVariants.{Round}
use Rattle.cv_spec_text.specs.Printing.{is_white, bytes}
use Rattle.cv_spec_text.specs.Splits.{IsSpelt}
use Rattle.cv_spec_text.specs.Tokens.{single, tokens as tokens_in}
use Rattle.cv_tokser.specs.Clean.{is_bad, begins_white, is_url_function, IsClean}
use Rattle.cv_tokser.proofs.CleanBack.{clean_back}
use Rattle.cv_tokser.proofs.WellFormed.{is_nameable, AreAll, IsName, IsDelimiter}
use Rattle.cv_calcread.specs.Answer.{is_wide, wide_place}
use Rattle.cv_simplify.specs.Text.{closing, operator}
use Rattle.cv_simplify.proofs.Spelt.{token_spelt}

pub record IsPiece (t : Token) : Type 0 where
  pub spelt : IsSpelt t
  pub good : is_bad t ≡ false
  pub other : is_url_function t ≡ false
  pub narrow : is_wide t ≡ false

abbrev pub IsTidy : List Token → Type 0
IsTidy [] = Unit {0}
IsTidy (t ∷ ts) = IsPiece t × ((is_white t && begins_white ts) ≡ false) × IsTidy ts

-- ---- what follows for the list

tidy_clean : (ts : List Token) → IsTidy ts → IsClean ts
tidy_clean [] h = tt
tidy_clean (t ∷ ts) h = (h.0.good, h.1, (λ url. let never : false ≡ true = sym h.0.other ∙ url in cc), tidy_clean ts h.2)

tidy_spelt : (ts : List Token) → IsTidy ts → AllByRecursion IsSpelt ts
tidy_spelt [] h = tt
tidy_spelt (t ∷ ts) h = (h.0.spelt, tidy_spelt ts h.2)

pub tidy_back : (ts : List Token) → IsTidy ts → tokens_in (bytes ts) ≡ ts
tidy_back ts h = clean_back ts (tidy_clean ts h) (All-from_recursion IsSpelt ts (tidy_spelt ts h))

pub tidy_narrow : (n : ℕ) (ts : List Token) → IsTidy ts → wide_place n ts ≡ None
unfolding wide_place
tidy_narrow n [] h = refl
tidy_narrow n (t ∷ ts) h = ap (λ b. if b then Some n else wide_place (n + 1) ts) h.0.narrow ∙ tidy_narrow (n + 1) ts h.2

-- ---- lists side by side

abbrev pub ends_white : List Token → Bool
ends_white [] = false
ends_white (t ∷ []) = is_white t
ends_white (t ∷ u ∷ ts) = ends_white (u ∷ ts)

abbrev pub is_none : List Token → Bool
is_none [] = true
is_none (t ∷ ts) = false

-- what may stand behind others
pub record IsTail (ts : List Token) : Type 0 where
  pub tidy : IsTidy ts
  pub end : ends_white ts ≡ false
  pub some : is_none ts ≡ false

-- and what may stand alone
pub record IsSolid (ts : List Token) : Type 0 where
  pub tail : IsTail ts
  pub begin : begins_white ts ≡ false

tidy_append : (ts more : List Token) → IsTidy ts → IsTidy more → (ends_white ts && begins_white more) ≡ false → IsTidy (ts ++ more)
tidy_append [] more h k e = k
tidy_append (t ∷ []) more h k e = (h.0, e, k)
tidy_append (t ∷ u ∷ ts) more h k e = (h.0, h.1, tidy_append (u ∷ ts) more h.2 k e)

ends_full : (ts more : List Token) → is_none more ≡ false → ends_white (ts ++ more) ≡ ends_white more
ends_full [] more h = refl
ends_full (t ∷ []) [] h = cc
ends_full (t ∷ []) (m ∷ more) h = refl
ends_full (t ∷ u ∷ ts) more h = ends_full (u ∷ ts) more h

begins_full : (ts more : List Token) → is_none ts ≡ false → begins_white ts ≡ false → begins_white (ts ++ more) ≡ false
begins_full [] more n h = cc
begins_full (t ∷ ts) more n h = h

none_full : (ts more : List Token) → is_none more ≡ false → is_none (ts ++ more) ≡ false
none_full [] more h = h
none_full (t ∷ ts) more h = refl

pub after_solid : (ts more : List Token) → IsSolid ts → IsTail more → IsSolid (ts ++ more)
after_solid ts more h k = record {
  tail = record {
    tidy = tidy_append ts more h.tail.tidy k.tidy (ap (λ b. b && begins_white more) h.tail.end);
    end = ends_full ts more k.some ∙ k.end;
    some = none_full ts more k.some;
  };
  begin = begins_full ts more h.tail.some h.begin;
}

-- ---- single tokens

and_no : (b : Bool) → (b && false) ≡ false
and_no true = refl
and_no false = refl

pub one_solid : (t : Token) → IsPiece t → is_white t ≡ false → IsSolid (t ∷ [])
one_solid t h w = record { tail = record { tidy = (h, and_no (is_white t), tt); end = w; some = refl }; begin = w }

abbrev all_nameable : List ℕ → Bool
all_nameable [] = true
all_nameable (c ∷ cs) = if is_nameable c then all_nameable cs else false

each_nameable : (cs : List ℕ) → all_nameable cs ≡ true → AreAll is_nameable cs
each_nameable [] e = tt
each_nameable (c ∷ cs) e = go (is_nameable c) refl e (λ e. each_nameable cs e)
  where
    go : (b : Bool) → is_nameable c ≡ b → (if b then all_nameable cs else false) ≡ true → (all_nameable cs ≡ true → AreAll is_nameable cs) → (is_nameable c ≡ true) × AreAll is_nameable cs
    go true is e rest = (is, rest e)
    go false is e rest = cc

name_by : (c : ℕ) (cs : List ℕ) → all_nameable (c ∷ cs) ≡ true → IsName (c ∷ cs)
name_by c cs e = record { some = omega arith; nameable = each_nameable (c ∷ cs) e }

pub calc_piece : IsPiece (tokens.Function (codes "calc"))
calc_piece = record { spelt = token_spelt (tokens.Function (codes "calc")) refl refl (name_by _ _ refl); good = refl; other = refl; narrow = refl }

pub min_piece : IsPiece (tokens.Function (codes "min"))
min_piece = record { spelt = token_spelt (tokens.Function (codes "min")) refl refl (name_by _ _ refl); good = refl; other = refl; narrow = refl }

pub max_piece : IsPiece (tokens.Function (codes "max"))
max_piece = record { spelt = token_spelt (tokens.Function (codes "max")) refl refl (name_by _ _ refl); good = refl; other = refl; narrow = refl }

pub clamp_piece : IsPiece (tokens.Function (codes "clamp"))
clamp_piece = record { spelt = token_spelt (tokens.Function (codes "clamp")) refl refl (name_by _ _ refl); good = refl; other = refl; narrow = refl }

white_piece : IsPiece tokens.White
white_piece = record { spelt = token_spelt tokens.White refl refl tt; good = refl; other = refl; narrow = refl }

comma_piece : IsPiece tokens.Comma
comma_piece = record { spelt = token_spelt tokens.Comma refl refl tt; good = refl; other = refl; narrow = refl }

pub open_piece : IsPiece (tokens.Open Round)
open_piece = record { spelt = token_spelt (tokens.Open Round) refl refl tt; good = refl; other = refl; narrow = refl }

close_piece : IsPiece (tokens.Close Round)
close_piece = record { spelt = token_spelt (tokens.Close Round) refl refl tt; good = refl; other = refl; narrow = refl }

delimiter_piece : (c : ℕ) → IsDelimiter c → is_bad (tokens.Delim c) ≡ false → IsPiece (tokens.Delim c)
delimiter_piece c is good = record { spelt = token_spelt (tokens.Delim c) good refl is; good = good; other = refl; narrow = refl }

pub plus_piece : IsPiece (tokens.Delim 0x2b)
unfolding single
plus_piece = delimiter_piece 0x2b (record { kept = refl; plain = refl; single = refl }) refl

pub minus_piece : IsPiece (tokens.Delim 0x2d)
unfolding single
minus_piece = delimiter_piece 0x2d (record { kept = refl; plain = refl; single = refl }) refl

pub times_piece : IsPiece (tokens.Delim 0x2a)
unfolding single
times_piece = delimiter_piece 0x2a (record { kept = refl; plain = refl; single = refl }) refl

pub over_piece : IsPiece (tokens.Delim 0x2f)
unfolding single
over_piece = delimiter_piece 0x2f (record { kept = refl; plain = refl; single = refl }) refl

-- ---- what stands behind a sign, behind a comma, and in brackets

pub signed_tail : (c : ℕ) (ts : List Token) → IsPiece (tokens.Delim c) → IsSolid ts → IsTail (operator c ++ ts)
signed_tail c ts p h = record {
  tidy = (white_piece, refl, (p, refl, (white_piece, h.begin, h.tail.tidy)));
  end = ends_full (operator c) ts h.tail.some ∙ h.tail.end;
  some = refl;
}

pub argument_tail : (ts : List Token) → IsSolid ts → IsTail (tokens.Comma ∷ tokens.White ∷ ts)
argument_tail ts h = record {
  tidy = (comma_piece, refl, (white_piece, h.begin, h.tail.tidy));
  end = ends_full (tokens.Comma ∷ tokens.White ∷ []) ts h.tail.some ∙ h.tail.end;
  some = refl;
}

-- a token before others and a closing bracket
pub wrapped : (t : Token) (inner : List Token) → IsPiece t → is_white t ≡ false → IsSolid inner → IsSolid (t ∷ inner ++ closing)
wrapped t inner p w h = after_solid (t ∷ []) (inner ++ closing) (one_solid t p w) (after_solid inner closing h (one_solid (tokens.Close Round) close_piece refl).tail).tail
