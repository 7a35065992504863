-- Substitution on flat pieces is that on the pieces.
use Rattle.std.proofs.Common.{◌≡◌, ℕ, zero, suc, ◌+◌, List, [], ◌∷◌, ◌++◌, length, drop, Option, Some, None, Result, Ok, Err, refl, sym, ◌∙◌, ap, append_assoc, append-nil, arith}
use Rattle.std.specs.Prelude.{slice_get}
use Rattle.std.proofs.Math.Seq.{drop-nil}
use Rattle.std.proofs.lemmas.List.{drop-drop}
use Rattle.cv_spec_text.specs.declared.token.Token.{Token}
use Rattle.cv_spec_element.specs.Pieces.{Pieces, finish, token, reference, reference_or, value_or, joined, sub}
use Rattle.cv_var.specs.Flat.{FlatPiece, flattened}
use Rattle.cv_subst.specs.Flat.{replaced, sub_flat}

abbrev pub Outcome : Type 0
Outcome = Result (List Token) (List ℕ)

pub joined-nil : (outcome : Outcome) → joined (Ok []) outcome ≡ outcome
joined-nil (Ok tokens) = refl
joined-nil (Err name) = refl

pub joined-end : (outcome : Outcome) → joined outcome (Ok []) ≡ outcome
joined-end (Ok tokens) = ap Ok (append-nil tokens)
joined-end (Err name) = refl

pub joined_assoc : (a b c : Outcome) → joined (joined a b) c ≡ joined a (joined b c)
joined_assoc (Err n) b c = refl
joined_assoc (Ok x) (Err n) c = refl
joined_assoc (Ok x) (Ok y) (Err n) = refl
joined_assoc (Ok x) (Ok y) (Ok z) = ap Ok (append_assoc x y z)

module _ (values : List ℕ → Option (List Token)) where
  sub_flat-skip : (xs more : List FlatPiece) → sub_flat values (length xs) (xs ++ more) ≡ sub_flat values 0 more
  sub_flat-skip [] more = refl
  sub_flat-skip (x ∷ xs) more = sub_flat-skip xs more

  at_reference : (n : List ℕ) (rest : Pieces (List ℕ) Token) (more : List FlatPiece) (value : Option (List Token)) → sub_flat values 0 (flattened rest ++ more) ≡ joined (sub values rest) (sub_flat values 0 more) → replaced n None value (λ skip. sub_flat values skip (flattened rest ++ more)) ≡ joined (joined (value_or value (Err n)) (sub values rest)) (sub_flat values 0 more)
  at_reference n rest more None rest_is = refl
  at_reference n rest more (Some tokens) rest_is =
      ap (joined (Ok tokens)) rest_is
      ∙ sym (joined_assoc (Ok tokens) (sub values rest) (sub_flat values 0 more))

  regrouped : (fallback rest : Pieces (List ℕ) Token) (more : List FlatPiece) (skip : ℕ) → sub_flat values skip ((flattened fallback ++ flattened rest) ++ more) ≡ sub_flat values skip (flattened fallback ++ (flattened rest ++ more))
  regrouped fallback rest more skip = ap (sub_flat values skip) (append_assoc (flattened fallback) (flattened rest) more)

  at_fallback : (n : List ℕ) (fallback rest : Pieces (List ℕ) Token) (more : List FlatPiece) (value : Option (List Token)) → sub_flat values 0 (flattened fallback ++ (flattened rest ++ more)) ≡ joined (sub values fallback) (sub_flat values 0 (flattened rest ++ more)) → sub_flat values 0 (flattened rest ++ more) ≡ joined (sub values rest) (sub_flat values 0 more) → replaced n (Some (length (flattened fallback))) value (λ skip. sub_flat values skip ((flattened fallback ++ flattened rest) ++ more)) ≡ joined (joined (value_or value (sub values fallback)) (sub values rest)) (sub_flat values 0 more)
  at_fallback n fallback rest more None fallback_is rest_is =
      regrouped fallback rest more 0
      ∙ fallback_is
      ∙ ap (joined (sub values fallback)) rest_is
      ∙ sym (joined_assoc (sub values fallback) (sub values rest) (sub_flat values 0 more))
  at_fallback n fallback rest more (Some tokens) fallback_is rest_is =
      ap (joined (Ok tokens)) (regrouped fallback rest more (length (flattened fallback)) ∙ sub_flat-skip (flattened fallback) (flattened rest ++ more) ∙ rest_is)
      ∙ sym (joined_assoc (Ok tokens) (sub values rest) (sub_flat values 0 more))

  sub_flat-flattened : (pieces : Pieces (List ℕ) Token) (more : List FlatPiece) → sub_flat values 0 (flattened pieces ++ more) ≡ joined (sub values pieces) (sub_flat values 0 more)
  sub_flat-flattened finish more = sym (joined-nil (sub_flat values 0 more))
  sub_flat-flattened (token t rest) more =
      ap (joined (Ok (t ∷ []))) (sub_flat-flattened rest more)
      ∙ sym (joined_assoc (Ok (t ∷ [])) (sub values rest) (sub_flat values 0 more))
  sub_flat-flattened (reference n rest) more = at_reference n rest more (values n) (sub_flat-flattened rest more)
  sub_flat-flattened (reference_or n fallback rest) more =
      at_fallback n fallback rest more (values n) (sub_flat-flattened fallback (flattened rest ++ more)) (sub_flat-flattened rest more)

  -- substitution on the flat pieces is that on the pieces
  pub sub-flat : (pieces : Pieces (List ℕ) Token) → sub values pieces ≡ sub_flat values 0 (flattened pieces)
  sub-flat pieces =
      sym (joined-end (sub values pieces))
      ∙ sym (sub_flat-flattened pieces [])
      ∙ ap (sub_flat values 0) (append-nil (flattened pieces))

  skipped : (skip : ℕ) (pieces : List FlatPiece) → sub_flat values skip pieces ≡ sub_flat values 0 (drop skip pieces)
  skipped zero pieces = refl
  skipped (suc skip) [] = ap (sub_flat values 0) (sym (drop-nil (suc skip)))
  skipped (suc skip) (piece ∷ rest) = skipped skip rest

  drop-at : (xs : List FlatPiece) (n : ℕ) (x : FlatPiece) → slice_get xs n ≡ Some x → drop n xs ≡ x ∷ drop (n + 1) xs
  drop-at [] n x is = absurd cc
  drop-at (y ∷ ys) zero x is = let same : y ≡ x = cc in ap (λ z. z ∷ ys) same
  drop-at (y ∷ ys) (suc n) x is = let next : suc (n + 1) ≡ suc n + 1 = omega arith in drop-at ys n x is ∙ ap (λ k. x ∷ drop k (y ∷ ys)) next

  -- one more piece is read, and so many are passed over
  pub stepped : (whole : List FlatPiece) (number skip : ℕ) (piece : FlatPiece) (front run : List Token) → sub_flat values 0 whole ≡ joined (Ok front) (sub_flat values 0 (drop number whole)) → slice_get whole number ≡ Some piece → ((rest : List FlatPiece) → sub_flat values 0 (piece ∷ rest) ≡ joined (Ok run) (sub_flat values skip rest)) → sub_flat values 0 whole ≡ joined (Ok (front ++ run)) (sub_flat values 0 (drop (number + (1 + skip)) whole))
  stepped whole number skip piece front run was here step =
      let place : number + 1 + skip ≡ number + (1 + skip) = omega arith in
      was
      ∙ ap (λ ps. joined (Ok front) (sub_flat values 0 ps)) (drop-at whole number piece here)
      ∙ ap (joined (Ok front)) (step (drop (number + 1) whole) ∙ ap (joined (Ok run)) (skipped skip (drop (number + 1) whole) ∙ ap (sub_flat values 0) (drop-drop skip (number + 1) whole ∙ ap (λ k. drop k whole) place)))
      ∙ sym (joined_assoc (Ok front) (Ok run) (sub_flat values 0 (drop (number + (1 + skip)) whole)))

  -- a name that is missing is the outcome
  pub missed : (whole : List FlatPiece) (number : ℕ) (piece : FlatPiece) (front : List Token) (name : List ℕ) → sub_flat values 0 whole ≡ joined (Ok front) (sub_flat values 0 (drop number whole)) → slice_get whole number ≡ Some piece → ((rest : List FlatPiece) → sub_flat values 0 (piece ∷ rest) ≡ Err name) → sub_flat values 0 whole ≡ Err name
  missed whole number piece front name was here missing =
      was
      ∙ ap (λ ps. joined (Ok front) (sub_flat values 0 ps)) (drop-at whole number piece here)
      ∙ ap (joined (Ok front)) (missing (drop (number + 1) whole))

  past : (whole : List FlatPiece) (number : ℕ) → None ≡ slice_get whole number → drop number whole ≡ []
  past [] number none = drop-nil number
  past (piece ∷ rest) zero none = absurd cc
  past (piece ∷ rest) (suc number) none = past rest number none

  -- behind the last piece all is done
  pub done : (whole : List FlatPiece) (number : ℕ) (front : List Token) → sub_flat values 0 whole ≡ joined (Ok front) (sub_flat values 0 (drop number whole)) → None ≡ slice_get whole number → sub_flat values 0 whole ≡ Ok front
  done whole number front was none =
      was
      ∙ ap (λ ps. joined (Ok front) (sub_flat values 0 ps)) (past whole number none)
      ∙ ap Ok (append-nil front)
