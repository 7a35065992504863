-- What a sink took of texts one after another.
use Rattle.std.proofs.Common.{◌≡◌, ℕ, ◌+◌, ◌<◌, List, [], ◌∷◌, ◌++◌, length, take, drop, get_or, sym, ap, ◌∙◌, subst, append-nil, length-append, arith}
use Rattle.std.specs.Prelude.{Option, None, Some, Result, Ok, Err}
use Rattle.std.specs.List.{flat_map, enumerate_from, zip}
use Rattle.std.proofs.Math.Seq.{take-append-add}
use Rattle.std.proofs.lemmas.Grind.{flat_map-append}
use Rattle.std.proofs.lemmas.List.{take_more, take-append-le, take-append-drop}
use Rattle.std.proofs.lemmas.Slice.Zip.{get_or-zip, length-zip}
use Rattle.std.proofs.lemmas.List.FromFn.{length-enumerate_from, get_or-enumerate_from}
use Rattle.std.specs.Io.KnownBytes.{Appends}
use Rattle.cv_io.specs.Streams.{TookPrefix}
use Rattle.cv_io.specs.declared.sink.SinkErr.{SinkErr}
use Rattle.cv_report.specs.Written.{TookText}
use Rattle.cv_io.proofs.KnownBytes.{Appends-append}

-- nothing was taken yet
pub Appends-nothing : (a : Option (List ℕ)) → Appends a a []
Appends-nothing None = tt
Appends-nothing (Some xs) = sym (append-nil xs)

-- a front of a text is a front of a longer one
pub TookPrefix-longer : (a b : Option (List ℕ)) (xs ys : List ℕ) → TookPrefix a b xs → TookPrefix a b (xs ++ ys)
TookPrefix-longer a b xs ys front =
    let same : take front.0 (xs ++ ys) ≡ take front.0 xs = take-append-le front.0 xs ys front.1 in
    (front.0, omega (arith, length-append xs ys, front.1), subst (Appends a b) (sym same) front.2)

-- behind a whole text comes a front of the next
pub TookPrefix-behind : (a b c : Option (List ℕ)) (xs ys : List ℕ) → Appends a b xs → TookPrefix b c ys → TookPrefix a c (xs ++ ys)
TookPrefix-behind a b c xs ys first front =
    let same : take (length xs + front.0) (xs ++ ys) ≡ xs ++ take front.0 ys = take-append-add xs ys front.0 in
    (length xs + front.0, omega (arith, length-append xs ys, front.1), subst (Appends a c) (sym same) (Appends-append a b c xs (take front.0 ys) first front.2))

-- a text and then another
pub TookText-behind : {T : Type 0} (a b c : Option (List ℕ)) (xs ys : List ℕ) (result : Result T SinkErr) → Appends a b xs → TookText b c ys result → TookText a c (xs ++ ys) result
TookText-behind a b c xs ys (Ok x) first second = record { whole = Appends-append a b c xs ys first second.whole; part = tt }
TookText-behind a b c xs ys (Err e) first second = record { whole = tt; part = TookPrefix-behind a b c xs ys first second.part }

-- an element with its number
pub numbered_at : {X : Type 0} (all : List X) (i : ℕ) (x : X) → i < length all → x ≡ get_or all i x
    → (i < length (enumerate_from 0 all)) × ((i, x) ≡ get_or (enumerate_from 0 all) i (i, x))
numbered_at all i x within is =
    let zero_more : 0 + i ≡ i = omega arith in (
      omega (arith, length-enumerate_from 0 all),
      sym (get_or-enumerate_from 0 all i (i, x) within ∙ ap (λ k. (k, get_or all i x)) zero_more ∙ ap (λ y. (i, y)) (sym is)),
    )

-- an element of each of two lists
pub paired_at : {X Y : Type 0} (xs : List X) (ys : List Y) (i : ℕ) (x : X) (y : Y) → i < length xs → i < length ys → x ≡ get_or xs i x → y ≡ get_or ys i y
    → (i < length (zip xs ys)) × ((x, y) ≡ get_or (zip xs ys) i (x, y))
paired_at xs ys i x y first second is same = (
  omega (arith, length-zip xs ys, first, second),
  ap (λ a. (a, y)) is ∙ ap (λ b. (get_or xs i x, b)) same ∙ sym (get_or-zip xs ys i (x, y) first second),
)

module _ {X : Type 0} (text : X → List ℕ) (all : List X) (i : ℕ) (d x : X) (within : i < length all) (is : x ≡ get_or all i d) where
  next : take (i + 1) all ≡ take i all ++ x ∷ []
  next = take_more all i d within ∙ ap (λ y. take i all ++ y ∷ []) (sym is)

  next_text : flat_map text (take (i + 1) all) ≡ flat_map text (take i all) ++ text x
  next_text =
      ap (flat_map text) next ∙ flat_map-append text (take i all) (x ∷ []) ∙ ap (λ l. flat_map text (take i all) ++ l) (append-nil (text x))

  -- the text of one more element was taken
  pub Appends-more : (a b c : Option (List ℕ)) → Appends a b (flat_map text (take i all)) → Appends b c (text x) → Appends a c (flat_map text (take (i + 1) all))
  Appends-more a b c first second = subst (Appends a c) (sym next_text) (Appends-append a b c (flat_map text (take i all)) (text x) first second)

  -- a front of the text of one more element was taken
  pub TookPrefix-more : (a b c : Option (List ℕ)) → Appends a b (flat_map text (take i all)) → TookPrefix b c (text x) → TookPrefix a c (flat_map text all)
  TookPrefix-more a b c first second =
      let whole : flat_map text (take (i + 1) all) ++ flat_map text (drop (i + 1) all) ≡ flat_map text all =
      sym (flat_map-append text (take (i + 1) all) (drop (i + 1) all)) ∙ ap (flat_map text) (take-append-drop (i + 1) all) in
      subst (TookPrefix a c) whole (TookPrefix-longer a c (flat_map text (take (i + 1) all)) (flat_map text (drop (i + 1) all))
      (subst (TookPrefix a c) (sym next_text) (TookPrefix-behind a b c (flat_map text (take i all)) (text x) first second)))
