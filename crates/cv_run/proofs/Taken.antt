-- What a sink took of texts one after another.
use Rattle.std.proofs.Common.{◌≡◌, ℕ, ◌+◌, List, ◌++◌, length, take, sym, ap, ◌∙◌, subst, length-append, arith}
use Rattle.std.specs.Prelude.{Option, None, Some, Result, Ok, Err, IsUtf8, chars, encode_utf8_all}
use Rattle.std.proofs.lemmas.Str.{encodes-chars}
use Rattle.cv_run.specs.StatusLines.{line}
use Rattle.std.proofs.Math.Seq.{take-length, take-append-add}
use Rattle.std.proofs.lemmas.List.{take-append-le}
use Rattle.std.specs.Io.KnownBytes.{Appends}
use Rattle.cv_io.specs.Streams.{TookPrefix}
use Rattle.cv_io.specs.declared.sink.SinkErr.{SinkErr}
use Rattle.cv_report.specs.Written.{TookText}
use Rattle.cv_io.proofs.KnownBytes.{Appends-append}

-- all of a piece is a front of it
whole_prefix : (before now : Option (List ℕ)) (piece : List ℕ) → Appends before now piece → TookPrefix before now piece
whole_prefix None now piece all = (0, omega arith, tt)
whole_prefix (Some xs) None piece all = absurd all
whole_prefix (Some xs) (Some ys) piece all = (length piece, omega arith, all ∙ ap (λ (l : List ℕ). xs ++ l) (sym (take-length piece)))

-- a sink that was given a piece took a front of it
pub took_prefix : {T : Type 0} (before now : Option (List ℕ)) (piece : List ℕ) (r : Result T SinkErr) → TookText before now piece r → TookPrefix before now piece
took_prefix before now piece (Ok x) took = whole_prefix before now piece took.whole
took_prefix before now piece (Err e) took = took.part

-- a front of a text is a front of a longer one
pub TookPrefix_longer : (a b : Option (List ℕ)) (xs ys : List ℕ) → TookPrefix a b xs → TookPrefix a b (xs ++ ys)
TookPrefix_longer a b xs ys front =
    let same : take front.0 (xs ++ ys) ≡ take front.0 xs = take-append-le front.0 xs ys front.1 in
    (front.0, omega (arith, length-append xs ys, front.1), subst (Appends a b) (sym same) front.2)

-- behind a whole text comes a front of the next
pub TookPrefix_behind : (a b c : Option (List ℕ)) (xs ys : List ℕ) → Appends a b xs → TookPrefix b c ys → TookPrefix a c (xs ++ ys)
TookPrefix_behind a b c xs ys first front =
    let same : take (length xs + front.0) (xs ++ ys) ≡ xs ++ take front.0 ys = take-append-add xs ys front.0 in
    (length xs + front.0, omega (arith, length-append xs ys, front.1), subst (Appends a c) (sym same) (Appends-append a b c xs (take front.0 ys) first front.2))

-- a text and then another
pub TookText_behind : {T : Type 0} (a b c : Option (List ℕ)) (xs ys : List ℕ) (result : Result T SinkErr) → Appends a b xs → TookText b c ys result → TookText a c (xs ++ ys) result
TookText_behind a b c xs ys (Ok x) first second = record { whole = Appends-append a b c xs ys first second.whole; part = tt }
TookText_behind a b c xs ys (Err e) first second = record { whole = tt; part = TookPrefix_behind a b c xs ys first second.part }

-- the line of a path, from the bytes of its text
pub path_line : {T : Type 0} (a b : Option (List ℕ)) (r : Result T SinkErr) (front bytes text path : List ℕ) → bytes ≡ text → IsUtf8 text → chars text ≡ path
    → TookText a b (line front bytes) r → TookText a b (line front (encode_utf8_all path)) r
path_line a b r front bytes text path same utf8 spelt took =
    subst (λ (l : List ℕ). TookText a b (line front l) r) (same ∙ sym (encodes-chars text utf8) ∙ ap encode_utf8_all spelt) took
