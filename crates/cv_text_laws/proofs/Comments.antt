-- A comment ends at its first end.
use Rattle.std.proofs.Common.{◌≡◌, ℕ, ◌+◌, ◌≤◌, List, [], ◌∷◌, ◌++◌, length, take, drop, refl, sym, ◌∙◌, ap, arith}
use Rattle.std.specs.Prelude.{true, false, ◌==◌, ◌&&◌}
use Rattle.std.proofs.Math.Seq.{drop-append_seam}
use Rattle.cv_spec_text.specs.Characters.{asterisk, solidus, begins_with}
use Rattle.cv_spec_text.specs.Strings.{comment_rest_length}
use Rattle.cv_text_laws.specs.Fronts.{IsSequence, EndsFirst}
use Rattle.cv_text_laws.specs.FirstEnds.{IsCodePoint, ends_comment, CommentsEndFirst, CommentsTakeClosing}
use Rattle.cv_text_laws.proofs.Tests.{if_false, if_true, bool_cases, both, contrary}

-- a comment that is read
record Comment (text : List ℕ) : Type 0 where
  front : List ℕ
  rest : List ℕ
  whole : text ≡ front ++ rest
  sequence : IsSequence IsCodePoint front rest
  ends : ends_comment rest ≡ true
  first : (other rest' : List ℕ) → other ++ rest' ≡ text → ends_comment rest' ≡ true → length front ≤ length other
  size : comment_rest_length text ≡ length front + length (take 2 rest)

no_front : (rest : List ℕ) → IsSequence IsCodePoint [] rest
no_front rest = record { pieces = []; whole = refl; each = tt }

two : (c : ℕ) (cs : List ℕ) → begins_with solidus cs ≡ true → length (take 2 (c ∷ cs)) ≡ 2
two c [] closes = cc
two c (d ∷ cs) closes = refl

-- an end that stands behind the first code point stands there in what follows it
behind_first : (c : ℕ) (cs other rest : List ℕ) → other ++ rest ≡ c ∷ cs → ends_comment rest ≡ true → ends_comment (c ∷ cs) ≡ false
    → (n : ℕ) → ((other' rest' : List ℕ) → other' ++ rest' ≡ cs → ends_comment rest' ≡ true → n ≤ length other') → 1 + n ≤ length other
behind_first c cs [] rest same ends fails n least = contrary (ends_comment (c ∷ cs)) (ap ends_comment (sym same) ∙ ends) fails
behind_first c cs (d ∷ ds) rest same ends fails n least = let tails : ds ++ rest ≡ cs = cc in omega (arith, least ds rest tails ends)

read_comment : (text : List ℕ) → Comment text
read_comment [] = record {
  front = [];
  rest = [];
  whole = refl;
  sequence = no_front [];
  ends = refl;
  first = λ other rest same ends. omega arith;
  size = refl;
}
read_comment (c ∷ cs) =
    bool_cases (c == asterisk && begins_with solidus cs)
    (λ closes. record {
      front = [];
      rest = c ∷ cs;
      whole = refl;
      sequence = no_front (c ∷ cs);
      ends = closes;
      first = λ other rest same ends. omega arith;
      size = if_true (c == asterisk && begins_with solidus cs) _ _ closes ∙ omega (arith, two c cs (both _ _ closes).1);
    })
    (λ goes_on.
    let more = read_comment cs in
    record {
      front = c ∷ more.front;
      rest = more.rest;
      whole = ap (λ (l : List ℕ). c ∷ l) more.whole;
      sequence = record {
        pieces = (c ∷ []) ∷ more.sequence.pieces;
        whole = ap (λ (l : List ℕ). c ∷ l) more.sequence.whole;
        each = ((c, refl), more.sequence.each);
      };
      ends = more.ends;
      first = λ other rest same ends. omega (arith, behind_first c cs other rest same ends goes_on (length more.front) more.first);
      size = if_false (c == asterisk && begins_with solidus cs) _ _ goes_on ∙ omega (arith, more.size);
    })

first_end : (text : List ℕ) (comment : Comment text) → EndsFirst IsCodePoint ends_comment comment.front comment.rest
first_end text comment = record {
  sequence = comment.sequence;
  ends = comment.ends;
  first = λ other rest same sequence ended. comment.first other rest (same ∙ sym comment.whole) ended;
}

pub comments_end_first : CommentsEndFirst
comments_end_first text = let comment = read_comment text in (comment.front, comment.rest, comment.whole, first_end text comment)

pub comments_take_closing : CommentsTakeClosing
comments_take_closing front rest ends =
    let comment = read_comment (front ++ rest) in
    let least = comment.first front rest refl ends.ends in
    let most = ends.first comment.front comment.rest (sym comment.whole) comment.sequence comment.ends in
    let size : length comment.front ≡ length front = omega (arith, least, most) in
    let same : comment.rest ≡ rest =
    sym (drop-append_seam comment.front comment.rest) ∙ ap (drop (length comment.front)) (sym comment.whole) ∙ ap (λ (n : ℕ). drop n (front ++ rest)) size ∙ drop-append_seam front rest in
    comment.size ∙ omega (arith, size, ap (λ (l : List ℕ). length (take 2 l)) same)
