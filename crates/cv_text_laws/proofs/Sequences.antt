-- A run of pieces, each told by its length, as a sequence of pieces: the longest, or one that goes to a first end.
use Rattle.std.proofs.Common.{◌≡◌, ℕ, inl, inr, zero, suc, ◌<◌, ◌≤◌, List, [], ◌∷◌, ◌++◌, length, take, drop, refl, sym, ◌∙◌, ap, subst, arith, append_assoc, length-append, length-drop, length-take-le, take-append-drop}
use Rattle.std.specs.Prelude.{Bool, true, ◌⊎◌}
use Rattle.std.specs.List.{concat}
use Rattle.std.proofs.Math.Seq.{drop-append_seam, take-append_seam}
use Rattle.cv_spec_text.specs.Runs.{run_length}
use Rattle.cv_spec_text.proofs.Runs.{run_length-more, run_length-end}
use Rattle.cv_text_laws.specs.Fronts.{IsLongest, ArePieces, IsSequence, EndsFirst}

module _ (piece_length : List ℕ → ℕ) (Is : List ℕ → List ℕ → Type 0) where
  -- a piece that is read is of the kind
  pub record ReadsPieces : Type 0 where
    pub fits : (text : List ℕ) → piece_length text ≤ length text
    pub reads : (text : List ℕ) → 0 < piece_length text → Is (take (piece_length text) text) (drop (piece_length text) text)

  -- a run that is read, as a sequence
  pub record Read (text : List ℕ) : Type 0 where
    pub front : List ℕ
    pub rest : List ℕ
    pub whole : text ≡ front ++ rest
    pub size : length front ≡ run_length piece_length text
    pub sequence : IsSequence Is front rest
    pub stops : piece_length rest ≡ 0

  read_none : (text : List ℕ) → piece_length text ≡ 0 → Read text
  read_none text none = record {
    front = [];
    rest = text;
    whole = refl;
    size = sym (run_length-end piece_length text none);
    sequence = record { pieces = []; whole = refl; each = tt };
    stops = none;
  }

  read_more : (text : List ℕ) (n : ℕ) → ReadsPieces → piece_length text ≡ n → 0 < n → n ≤ length text → Read (drop n text) → Read text
  read_more text n pieces here some fits more =
      let piece = take n text in
      let left : drop n text ≡ concat more.sequence.pieces ++ more.rest = more.whole ∙ ap (λ (l : List ℕ). l ++ more.rest) more.sequence.whole in
      let is : Is piece (drop n text) = subst (λ (m : ℕ). Is (take m text) (drop m text)) here (pieces.reads text (omega (arith, here))) in
      record {
        front = piece ++ more.front;
        rest = more.rest;
        whole = sym (take-append-drop n text) ∙ ap (λ (l : List ℕ). piece ++ l) more.whole ∙ sym (append_assoc piece more.front more.rest);
        size = omega (arith, length-append piece more.front, length-take-le n text fits, more.size, run_length-more piece_length n text here some fits);
        sequence = record {
          pieces = piece ∷ more.sequence.pieces;
          whole = ap (λ (l : List ℕ). piece ++ l) more.sequence.whole;
          each = (subst (Is piece) left is, more.sequence.each);
        };
        stops = more.stops;
      }

  read_within : ReadsPieces → (k : ℕ) (text : List ℕ) (n : ℕ) → piece_length text ≡ n → length text ≤ k → Read text
  read_within pieces k text zero here short = read_none text here
  read_within pieces zero text (suc n) here short = absurd (omega (arith, pieces.fits text))
  read_within pieces (suc k) text (suc n) here short =
      let fits : suc n ≤ length text = omega (arith, pieces.fits text) in
      read_more text (suc n) pieces here (omega arith) fits (read_within pieces k (drop (suc n) text) _ refl (omega (arith, length-drop (suc n) text)))

  read_run : ReadsPieces → (text : List ℕ) → Read text
  read_run pieces text = read_within pieces (length text) text _ refl (omega arith)

  front_is : (text : List ℕ) (read : Read text) → (take (run_length piece_length text) text ≡ read.front) × (drop (run_length piece_length text) text ≡ read.rest)
  front_is text read = (
    ap (λ (n : ℕ). take n text) (sym read.size) ∙ ap (take (length read.front)) read.whole ∙ take-append_seam read.front read.rest,
    ap (λ (n : ℕ). drop n text) (sym read.size) ∙ ap (drop (length read.front)) read.whole ∙ drop-append_seam read.front read.rest,
  )

  -- pieces of the kind are read as long as they are
  least : ((piece rest : List ℕ) → Is piece rest → (0 < length piece) × (piece_length (piece ++ rest) ≡ length piece)) → (pieces : List (List ℕ)) (rest : List ℕ)
      → ArePieces Is pieces rest → length (concat pieces) ≤ run_length piece_length (concat pieces ++ rest)
  least tells [] rest each = omega arith
  least tells (piece ∷ pieces) rest each =
      let behind = concat pieces ++ rest in
      let told = tells piece behind each.0 in
      let regrouped = append_assoc piece (concat pieces) rest in
      let more = run_length-more piece_length (length piece) (piece ++ behind) told.1 told.0 (omega (arith, length-append piece behind)) in
      let after : run_length piece_length (drop (length piece) (piece ++ behind)) ≡ run_length piece_length behind = ap (run_length piece_length) (drop-append_seam piece behind) in
      rw regrouped (omega (arith, more, after, least tells pieces rest each.1, length-append piece (concat pieces)))

  -- A run is the longest sequence.
  pub longest_run : ReadsPieces → ((piece rest : List ℕ) → Is piece rest → (0 < length piece) × (piece_length (piece ++ rest) ≡ length piece)) → (text : List ℕ)
      → IsLongest (IsSequence Is) (take (run_length piece_length text) text) (drop (run_length piece_length text) text)
  longest_run pieces tells text =
      let read = read_run pieces text in
      let parts = front_is text read in
      rw (parts.0, parts.1) (record {
        is = read.sequence;
        longest = λ other rest' same sequence.
            let whole : concat sequence.pieces ++ rest' ≡ text = ap (λ (l : List ℕ). l ++ rest') (sym sequence.whole) ∙ same ∙ sym read.whole in
            omega (arith, least tells sequence.pieces rest' sequence.each, ap (run_length piece_length) whole, ap length sequence.whole, read.size);
      })

  -- what goes to an end at latest
  most_step : (piece behind more : List ℕ) → 0 < length piece → ((piece_length (piece ++ behind) ≡ 0) ⊎ (piece_length (piece ++ behind) ≡ length piece))
      → run_length piece_length behind ≤ length more → run_length piece_length (piece ++ behind) ≤ length (piece ++ more)
  most_step piece behind more some (inl none) within = omega (arith, run_length-end piece_length (piece ++ behind) none)
  most_step piece behind more some (inr here) within =
      let stepped = run_length-more piece_length (length piece) (piece ++ behind) here some (omega (arith, length-append piece behind)) in
      let after : run_length piece_length (drop (length piece) (piece ++ behind)) ≡ run_length piece_length behind = ap (run_length piece_length) (drop-append_seam piece behind) in
      omega (arith, stepped, after, within, length-append piece more)

  most : ((piece rest : List ℕ) → Is piece rest → (0 < length piece) × ((piece_length (piece ++ rest) ≡ 0) ⊎ (piece_length (piece ++ rest) ≡ length piece)))
      → (pieces : List (List ℕ)) (rest : List ℕ) → ArePieces Is pieces rest → piece_length rest ≡ 0 → run_length piece_length (concat pieces ++ rest) ≤ length (concat pieces)
  most tells [] rest each ends = omega (arith, run_length-end piece_length rest ends)
  most tells (piece ∷ pieces) rest each ends =
      let behind = concat pieces ++ rest in
      let told = tells piece behind each.0 in
      rw (append_assoc piece (concat pieces) rest) (most_step piece behind (concat pieces) told.0 told.1 (most tells pieces rest each.1 ends))

  -- A run goes to its first end.
  pub first_run : (is_end : List ℕ → Bool) → ReadsPieces
      → ((piece rest : List ℕ) → Is piece rest → (0 < length piece) × ((piece_length (piece ++ rest) ≡ 0) ⊎ (piece_length (piece ++ rest) ≡ length piece)))
      → ((text : List ℕ) → piece_length text ≡ 0 → is_end text ≡ true) → ((text : List ℕ) → is_end text ≡ true → piece_length text ≡ 0) → (text : List ℕ)
      → EndsFirst Is is_end (take (run_length piece_length text) text) (drop (run_length piece_length text) text)
  first_run is_end pieces tells ends at_end text =
      let read = read_run pieces text in
      let parts = front_is text read in
      rw (parts.0, parts.1) (record {
        sequence = read.sequence;
        ends = ends read.rest read.stops;
        first = λ other rest' same sequence ended.
            let whole : concat sequence.pieces ++ rest' ≡ text = ap (λ (l : List ℕ). l ++ rest') (sym sequence.whole) ∙ same ∙ sym read.whole in
            omega (arith, most tells sequence.pieces rest' sequence.each (at_end rest' ended), ap (run_length piece_length) whole, ap length sequence.whole, read.size);
      })
