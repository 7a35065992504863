-- Preprocessing one character at a time is preprocessing.
use Rattle.std.proofs.Common.{◌≡◌, ℕ, Bool, true, false, List, [], ◌∷◌, ◌++◌, refl, sym, ◌∙◌, ap}
use Rattle.std.specs.Prelude.{◌==◌, ◌||◌, if◌then◌else◌}
use Rattle.std.proofs.lemmas.Bool.{eqb-true}
use Rattle.cv_spec_text.specs.Characters.{line_feed, form_feed, carriage_return, replacement_character, begins_with}
use Rattle.cv_spec_text.specs.Text.{preprocessed}
use Rattle.cv_token.specs.LineBreaks.{point_of, is_second, pushed, points_after}

-- whether these characters end with a CR
abbrev pub returned : Bool → List ℕ → Bool
returned after_return [] = after_return
returned after_return (c ∷ cs) = returned (c == carriage_return) cs

pushed_first : (second : Bool) (point : ℕ) (more rest : List ℕ) → (if second then more else point ∷ more) ++ rest ≡ (if second then more ++ rest else point ∷ (more ++ rest))
pushed_first true point more rest = refl
pushed_first false point more rest = refl

pub points_after-push : (after_return : Bool) (cs : List ℕ) (c : ℕ) → points_after after_return (cs ++ c ∷ []) ≡ points_after after_return cs ++ pushed (returned after_return cs) c
points_after-push after_return [] c = refl
points_after-push after_return (d ∷ cs) c =
    ap (λ (more : List ℕ). if is_second after_return d then more else point_of d ∷ more) (points_after-push (d == carriage_return) cs c)
    ∙ sym (pushed_first (is_second after_return d) (point_of d) (points_after (d == carriage_return) cs) (pushed (returned (d == carriage_return) cs) c))

pub returned-push : (after_return : Bool) (cs : List ℕ) (c : ℕ) → returned after_return (cs ++ c ∷ []) ≡ (c == carriage_return)
returned-push after_return [] c = refl
returned-push after_return (d ∷ cs) c = returned-push (d == carriage_return) cs c

-- the code points behind a CR, which gave an LF
abbrev behind_return : List ℕ → List ℕ
behind_return [] = []
behind_return (c ∷ cs) = if c == line_feed then preprocessed cs else preprocessed (c ∷ cs)

line_feed_first : (c : ℕ) (cs : List ℕ) → (c == line_feed) ≡ true → preprocessed (c ∷ cs) ≡ line_feed ∷ preprocessed cs
line_feed_first c cs is = let same : c ≡ line_feed = eqb-true c line_feed is in rw same refl

after_return-is : (cs : List ℕ) → line_feed ∷ behind_return cs ≡ (if begins_with line_feed cs then preprocessed cs else line_feed ∷ preprocessed cs)
after_return-is [] = refl
after_return-is (c ∷ cs) = by (c == line_feed) refl
  where
    by : (b : Bool) → (c == line_feed) ≡ b → line_feed ∷ (if b then preprocessed cs else preprocessed (c ∷ cs)) ≡ (if b then preprocessed (c ∷ cs) else line_feed ∷ preprocessed (c ∷ cs))
    by true is = sym (line_feed_first c cs is)
    by false is = refl

first_point : (c : ℕ) (cs : List ℕ) → point_of c ∷ (if c == carriage_return then behind_return cs else preprocessed cs) ≡ preprocessed (c ∷ cs)
first_point c cs = by (c == carriage_return) (c == form_feed)
  where
    by : (r f : Bool) → (if r || f then line_feed else (if c == 0 then replacement_character else c)) ∷ (if r then behind_return cs else preprocessed cs)
        ≡ (if r then (if begins_with line_feed cs then preprocessed cs else line_feed ∷ preprocessed cs) else (if f then line_feed ∷ preprocessed cs else (if c == 0 then replacement_character ∷ preprocessed cs else c ∷ preprocessed cs)))
    by true f = after_return-is cs
    by false true = refl
    by false false = last (c == 0)
      where
        last : (z : Bool) → (if z then replacement_character else c) ∷ preprocessed cs ≡ (if z then replacement_character ∷ preprocessed cs else c ∷ preprocessed cs)
        last true = refl
        last false = refl

abbrev behind : Bool → List ℕ → List ℕ
behind after_return cs = if after_return then behind_return cs else preprocessed cs

points_after-is : (after_return : Bool) (cs : List ℕ) → points_after after_return cs ≡ behind after_return cs
points_after-is true [] = refl
points_after-is false [] = refl
points_after-is false (c ∷ cs) = ap (λ (more : List ℕ). point_of c ∷ more) (points_after-is (c == carriage_return) cs) ∙ first_point c cs
points_after-is true (c ∷ cs) =
    ap (λ (more : List ℕ). if c == line_feed then more else point_of c ∷ more) (points_after-is (c == carriage_return) cs)
    ∙ by (c == line_feed) refl
  where
    by : (b : Bool) → (c == line_feed) ≡ b → (if b then behind (c == carriage_return) cs else point_of c ∷ behind (c == carriage_return) cs) ≡ (if b then preprocessed cs else preprocessed (c ∷ cs))
    by true is = let same : c ≡ line_feed = eqb-true c line_feed is in rw same refl
    by false is = first_point c cs

pub all_points : (cs : List ℕ) → points_after false cs ≡ preprocessed cs
all_points cs = points_after-is false cs
