-- What becomes of the bytes that a source gave.
use Rattle.std.proofs.Common.{◌≡◌, ℕ, ◌<◌, ◌≤◌, List, length, refl, sym, ap, ◌∙◌, subst, arith, true, false}
use Rattle.std.specs.Prelude.{Bool, Option, Some, None, Result, Ok, Err, IfOk, IfErr, IfSome, if◌then◌else◌, nat_lt}
use Rattle.std.proofs.lemmas.Bool.Decides.{nat_tests}
use Rattle.cv_io.specs.Streams.{GaveAll, HasMoreThan}
use Rattle.cv_doc.specs.Reading.{Shape, document_of}
use Rattle.cv_doc.specs.Refusals.{IsCounted, Refusal, RefusesCounted}
use Rattle.cv_doc.specs.Refusals as refusal
use Rattle.cv_doc.specs.declared.refusal.What.{What}
use Rattle.cv_doc.specs.declared.refusal.What.TheVariants.{Bytes, Elements, Show, Commands, Names}
use Rattle.cv_tree.specs.Contents.{most_bytes}
use Rattle.cv_run.specs.Fates.{Fate, IsTooLarge, computed, fate_of, fate_of_document, fate_of_reading, most_names, too_large}
use Rattle.cv_tree.specs.Names.{counted}
use Rattle.cv_words.specs.declared.words.Job.TheVariants.{Compute, Reify}
use Rattle.cv_run.specs.Telling.{EndsEarly, IsOversized, IsRefusal, IsReportOf, IsStoppedBy}
use Rattle.cv_run.specs.declared.writing.Report.{Report}
use Rattle.cv_run.specs.declared.status.Status.{Status}
use Rattle.cv_run.specs.declared.status.Status.TheVariants.{Done, Usage, ReadFault, TooLarge, Malformed, Range, WriteFault, NoMemory}

fate_of_long : (bytes : List ℕ) → most_bytes < length bytes → fate_of bytes ≡ too_large Bytes
unfolding fate_of
fate_of_long bytes long = grind (arith, nat_tests)

fate_of_short : (bytes : List ℕ) → length bytes ≤ most_bytes → fate_of bytes ≡ fate_of_reading (document_of bytes)
unfolding fate_of
fate_of_short bytes short = grind (arith, nat_tests)

pub too_long : (left : Option (List ℕ)) → HasMoreThan most_bytes left → IfSome left (λ bytes. fate_of bytes ≡ too_large Bytes)
too_long None more = tt
too_long (Some bytes) more = fate_of_long bytes more

pub gave : (left now : Option (List ℕ)) (bytes : List ℕ) → GaveAll left now bytes → length bytes ≤ most_bytes → IfSome left (λ given. fate_of given ≡ fate_of_reading (document_of bytes))
gave None now bytes all few = tt
gave (Some given) now bytes all few = ap fate_of all.0 ∙ fate_of_short bytes few

pub tells_given : (left : Option (List ℕ)) (fate : Fate) (limit : ℕ) (result : Result Report Status) → IfSome left (λ given. fate_of given ≡ fate)
    → IfOk result (IsReportOf limit fate) → IfOk result (λ report. IfSome left (λ given. IsReportOf limit (fate_of given) report))
tells_given None fate limit (Ok report) same tells = tt
tells_given (Some given) fate limit (Ok report) same tells = subst (λ (f : Fate). IsReportOf limit f report) (sym same) tells
tells_given left fate limit (Err status) same tells = tt

refused_given : (left : Option (List ℕ)) (fate : Fate) (limit : ℕ) (status : Status) → IfSome left (λ given. fate_of given ≡ fate) → IsRefusal Compute limit fate status → IfSome left (λ given. IsRefusal Compute limit (fate_of given) status)
refused_given None fate limit status same refused = tt
refused_given (Some given) fate limit status same refused = subst (λ (f : Fate). IsRefusal Compute limit f status) (sym same) refused

stopped : (left : Option (List ℕ)) (fate : Fate) (limit : ℕ) (failed : Type 0) (status : Status) → IfSome left (λ given. fate_of given ≡ fate) → IsRefusal Compute limit fate status → IsStoppedBy Compute limit fate_of left failed status
stopped left fate limit failed Done same refused = absurd refused
stopped left fate limit failed Usage same refused = absurd refused
stopped left fate limit failed ReadFault same refused = absurd refused
stopped left fate limit failed (TooLarge what) same refused = refused_given left fate limit (TooLarge what) same refused
stopped left fate limit failed (Malformed why) same refused = refused_given left fate limit (Malformed why) same refused
stopped left fate limit failed (Range element property) same refused = refused_given left fate limit (Range element property) same refused
stopped left fate limit failed WriteFault same refused = absurd refused
stopped left fate limit failed NoMemory same refused = refused_given left fate limit NoMemory same refused

pub stopped_given : (left : Option (List ℕ)) (fate : Fate) (limit : ℕ) (failed : Type 0) (result : Result Report Status) → IfSome left (λ given. fate_of given ≡ fate)
    → IfErr result (IsRefusal Compute limit fate) → IfErr result (IsStoppedBy Compute limit fate_of left failed)
stopped_given left fate limit failed (Ok report) same refused = tt
stopped_given left fate limit failed (Err status) same refused = stopped left fate limit failed status same refused

-- ---- what is refused before the values are written is refused before the objects are

objects_refused : (limit : ℕ) (fate : Fate) (status : Status) → IsRefusal Compute limit fate status → IsRefusal Reify limit fate status
objects_refused limit fate Done refused = refused
objects_refused limit fate Usage refused = refused
objects_refused limit fate ReadFault refused = refused
objects_refused limit fate (TooLarge what) refused = refused
objects_refused limit fate (Malformed why) refused = refused
objects_refused limit fate (Range element property) refused = record { document = refused.document; document_computed = refused.document_computed; out = refused.out }
objects_refused limit fate WriteFault refused = refused
objects_refused limit fate NoMemory refused = refused

objects_refused_of : (limit : ℕ) (fate : List ℕ → Fate) (left : Option (List ℕ)) (status : Status) → IfSome left (λ bytes. IsRefusal Compute limit (fate bytes) status)
    → IfSome left (λ bytes. IsRefusal Reify limit (fate bytes) status)
objects_refused_of limit fate None status refused = tt
objects_refused_of limit fate (Some bytes) status refused = objects_refused limit (fate bytes) status refused

pub objects_stopped : (limit : ℕ) (fate : List ℕ → Fate) (left : Option (List ℕ)) (failed : Type 0) (status : Status) → IsStoppedBy Compute limit fate left failed status → IsStoppedBy Reify limit fate left failed status
objects_stopped limit fate left failed Done stopped = objects_refused_of limit fate left Done stopped
objects_stopped limit fate left failed Usage stopped = objects_refused_of limit fate left Usage stopped
objects_stopped limit fate left failed ReadFault stopped = stopped
objects_stopped limit fate left failed (TooLarge what) stopped = objects_refused_of limit fate left (TooLarge what) stopped
objects_stopped limit fate left failed (Malformed why) stopped = objects_refused_of limit fate left (Malformed why) stopped
objects_stopped limit fate left failed (Range element property) stopped = objects_refused_of limit fate left (Range element property) stopped
objects_stopped limit fate left failed WriteFault stopped = objects_refused_of limit fate left WriteFault stopped
objects_stopped limit fate left failed NoMemory stopped = objects_refused_of limit fate left NoMemory stopped

-- ---- what ends early

early : (fate : Fate) (limit : ℕ) (status : Status) → IsRefusal Compute limit fate status → EndsEarly status
early fate limit Done refused = refused
early fate limit Usage refused = refused
early fate limit ReadFault refused = tt
early fate limit (TooLarge what) refused = tt
early fate limit (Malformed why) refused = tt
early fate limit (Range element property) refused = tt
early fate limit WriteFault refused = refused
early fate limit NoMemory refused = tt

pub ends_early : (fate : Fate) (limit : ℕ) (result : Result Report Status) → IfErr result (IsRefusal Compute limit fate) → IfErr result EndsEarly
ends_early fate limit (Ok report) refused = tt
ends_early fate limit (Err status) refused = early fate limit status refused

pub few_names : (document : Shape) (count : ℕ) → count ≡ counted document → count ≤ most_names → fate_of_document document ≡ computed document
few_names document count same few =
    let not_more : nat_lt most_names (counted document) ≡ false = grind (arith, nat_tests) in
    ap (λ (b : Bool). if b then too_large Names else computed document) not_more

-- ---- parts that are too large

-- the reading of a document, which isn't longer than it may be, tells that the part is too large
abbrev IsPartOf : Result Shape Refusal → What → Type 0
IsPartOf reading Bytes = ⊥
IsPartOf reading Elements = reading ≡ Err (refusal.too_large Elements)
IsPartOf reading Show = reading ≡ Err (refusal.too_large Show)
IsPartOf reading Commands = reading ≡ Err (refusal.too_large Commands)
IsPartOf reading Names = (document : Shape) × (reading ≡ Ok document) × (most_names < counted document)

document_names : (document : Shape) (what : What) → fate_of_document document ≡ too_large what → (what ≡ Names) × (most_names < counted document)
document_names document what is = by (nat_lt most_names (counted document)) refl is
  where
    by : (b : Bool) → nat_lt most_names (counted document) ≡ b → (if b then too_large Names else computed document) ≡ too_large what → (what ≡ Names) × (most_names < counted document)
    by true more is = (cc, grind (arith, nat_tests))
    by false more is = cc

abbrev refused_for : What → Result Shape Refusal
refused_for what = Err (refusal.too_large what)

document_part : (reading : Result Shape Refusal) (what : What) → RefusesCounted reading → fate_of_reading reading ≡ too_large what → IsPartOf reading what
document_part (Ok document) what counted_parts is = by what (document_names document what is).0
  where
    by : (what : What) → what ≡ Names → IsPartOf (Ok document) what
    by Bytes is_names = cc
    by Elements is_names = cc
    by Show is_names = cc
    by Commands is_names = cc
    by Names is_names = (document, refl, (document_names document what is).1)
document_part (Err (refusal.malformed why)) what counted_parts is = cc
document_part (Err (refusal.too_large part)) what counted_parts is = by part what counted_parts cc
  where
    by : (part what : What) → IsCounted part → part ≡ what → IsPartOf (Err (refusal.too_large part)) what
    by part Bytes is_counted same = absurd (subst IsCounted same is_counted)
    by part Names is_counted same = absurd (subst IsCounted same is_counted)
    by part Elements is_counted same = ap refused_for same
    by part Show is_counted same = ap refused_for same
    by part Commands is_counted same = ap refused_for same

part_given : (given : List ℕ) (what : What) → IsPartOf (document_of given) what → IsTooLarge given what
part_given given Bytes is = absurd is
part_given given Elements is = is
part_given given Show is = is
part_given given Commands is = is
part_given given Names is = is

oversized : (given : List ℕ) (limit : ℕ) (status : Status) → RefusesCounted (document_of given) → IsRefusal Compute limit (fate_of_reading (document_of given)) status → IsOversized (Some given) status
oversized given limit (TooLarge what) counted_parts is = part_given given what (document_part (document_of given) what counted_parts is)
oversized given limit Done counted_parts is = tt
oversized given limit Usage counted_parts is = tt
oversized given limit ReadFault counted_parts is = tt
oversized given limit (Malformed why) counted_parts is = tt
oversized given limit (Range element property) counted_parts is = tt
oversized given limit WriteFault counted_parts is = tt
oversized given limit NoMemory counted_parts is = tt

untold : (status : Status) → IsOversized None status
untold (TooLarge what) = tt
untold Done = tt
untold Usage = tt
untold ReadFault = tt
untold (Malformed why) = tt
untold (Range element property) = tt
untold WriteFault = tt
untold NoMemory = tt

pub oversized_given : (left now : Option (List ℕ)) (bytes : List ℕ) (limit : ℕ) (result : Result Report Status) → GaveAll left now bytes → RefusesCounted (document_of bytes)
    → IfErr result (IsRefusal Compute limit (fate_of_reading (document_of bytes))) → IfErr result (IsOversized left)
oversized_given left now bytes limit (Ok report) all counted_parts refused = tt
oversized_given None now bytes limit (Err status) all counted_parts refused = untold status
oversized_given (Some given) now bytes limit (Err status) all counted_parts refused =
    oversized given limit status (subst (λ b. RefusesCounted (document_of b)) (sym all.0) counted_parts) (subst (λ b. IsRefusal Compute limit (fate_of_reading (document_of b)) status) (sym all.0) refused)

pub too_many : (left : Option (List ℕ)) → HasMoreThan most_bytes left → IsOversized left (TooLarge Bytes)
too_many None more = tt
too_many (Some bytes) more = more
