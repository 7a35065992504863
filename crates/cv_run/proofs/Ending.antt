-- How a run ends behind its words.
use Rattle.std.proofs.Common.{◌≡◌, ℕ, ◌+◌, ◌<◌, ◌≤◌, true, false, List, [], length, Option, Some, None, ◌⊎◌, inl, inr, refl, sym, ◌∙◌, ap, subst, arith}
use Rattle.std.specs.Prelude.{IfSome, IsSomeAnd}
use Rattle.std.specs.Io.KnownBytes.{Appends, IsAtEnd, Keeps}
use Rattle.cv_io.specs.Streams.{TookPrefix}
use Rattle.std.proofs.KnownBytes.{Keeps-refl}
use Rattle.cv_doc.specs.Reading.{Shape}
use Rattle.cv_doc.specs.declared.refusal.BadDoc.{BadDoc}
use Rattle.cv_doc.specs.declared.refusal.What.{What}
use Rattle.cv_property.specs.declared.property.Property.{Property}
use Rattle.cv_property.specs.declared.property.Property.TheVariants.{PaddingLeft, Width}
use Rattle.cv_valuation.specs.declared.computed.Computed.{Computed}
use Rattle.cv_valuation.specs.declared.key.Key.{Key}
use Rattle.cv_words.specs.Words.{HasWords, IsRefused}
use Rattle.cv_words.specs.declared.words.Job.{Job}
use Rattle.cv_words.specs.declared.words.Job.TheVariants.{Compute, Reify, Gen}
use Rattle.cv_words.specs.declared.words.Words.{Words}
use Rattle.cv_gen.specs.Summary.{IsWithin}
use Rattle.cv_tree.specs.Tree.{tree_of, values_in}
use Rattle.cv_tree.specs.Tree as trees
use Rattle.cv_run.specs.Asked.{AreInRangeBy, IsGen, IsOutBy, IsSumOut, fate_for, fate_by, limit_for}
use Rattle.cv_run.specs.Fates.{Fate, computed, fate_of}
use Rattle.cv_run.specs.Fates as fate
use Rattle.cv_run.specs.Outcome.{ComesOf, EndsAs, HasAllButMemory, HasWritten, HasWrittenFront, IsComputable, IsComputed, IsOutOfRange, IsSound, TellsOfDocument, WritesNothing}
use Rattle.cv_run.specs.Telling.{EndsEarly, IsOutOf, IsOversized, IsRefusal, IsStopped, TellsOf}
use Rattle.cv_run.specs.declared.status.Status.{Status}
use Rattle.cv_run.specs.declared.status.Status.TheVariants.{Done, Usage, ReadFault, TooLarge, Malformed, Range, WriteFault, NoMemory}

comes_memory : (f : Fate) → ComesOf f NoMemory
comes_memory (fate.too_large what) = inr refl
comes_memory (fate.malformed why) = inr refl
comes_memory (computed document) = inr (inr (inr refl))

comes : (job : Job) (limit : ℕ) (f : Fate) (status : Status) → IsRefusal job limit f status → ComesOf f status
comes job limit f Done refused = absurd refused
comes job limit f Usage refused = absurd refused
comes job limit f ReadFault refused = absurd refused
comes job limit f (TooLarge what) refused = subst (λ (x : Fate). ComesOf x (TooLarge what)) (sym refused) (inl refl)
comes job limit f (Malformed why) refused = subst (λ (x : Fate). ComesOf x (Malformed why)) (sym refused) (inl refl)
comes job limit f (Range element property) refused = subst (λ (x : Fate). ComesOf x (Range element property)) (sym refused.document_computed) (inr (inr (inl tt)))
comes job limit f WriteFault refused = absurd refused
comes job limit f NoMemory refused = comes_memory f

-- ---- nothing is out of range

no_sum_out : (document : Shape) (limit element : ℕ) (key : Key) → AreInRangeBy Gen document limit → IsSumOut document limit element key → ⊥
no_sum_out document limit element key in_range is = by is.summed
  where
    within : IsWithin is.property (values_in is.all) → ⊥
    within all_within =
        let there : element + 1 ≤ length (values_in is.all) = omega (arith, is.out.there) in
        let clash : true ≡ false = sym (all_within (element + 1) there) ∙ is.out.outside in
        cc

    by : (is.property ≡ Width) ⊎ (is.property ≡ PaddingLeft) → ⊥
    by (inl width) = within (subst (λ (p : Property). IsWithin p (values_in is.all)) (sym width) (in_range.1 is.all is.computed).0)
    by (inr padding) = within (subst (λ (p : Property). IsWithin p (values_in is.all)) (sym padding) (in_range.1 is.all is.computed).1)

none_out : (job : Job) (document : Shape) (limit element : ℕ) (key : Key) → AreInRangeBy job document limit → IsOutBy job document limit element key → ⊥
none_out Compute document limit element key in_range out = in_range element key out
none_out Reify document limit element key in_range out = in_range element key out
none_out Gen document limit element key in_range (inl out) = in_range.0 element key out
none_out Gen document limit element key in_range (inr sum) = no_sum_out document limit element key in_range sum

-- a document that is computed, and in range, is refused for want of memory alone
only_memory : (read : Words) (given : List ℕ) → IsComputed read given → (status : Status) → IsRefusal read.job (limit_for read) (fate_for read given) status → status ≡ NoMemory
only_memory read given c Done refused = absurd refused
only_memory read given c Usage refused = absurd refused
only_memory read given c ReadFault refused = absurd refused
only_memory read given c (TooLarge what) refused = let clash : computed c.document ≡ fate.too_large what = sym c.document_given ∙ refused in cc
only_memory read given c (Malformed why) refused = let clash : computed c.document ≡ fate.malformed why = sym c.document_given ∙ refused in cc
only_memory read given c (Range element property) refused =
    let both : computed refused.document ≡ computed c.document = sym refused.document_computed ∙ c.document_given in
    let same : refused.document ≡ c.document = cc in
    absurd (none_out read.job c.document (limit_for read) element property c.in_range (subst (λ (d : Shape). IsOutBy read.job d (limit_for read) element property) same refused.out))
only_memory read given c WriteFault refused = absurd refused
only_memory read given c NoMemory refused = refl

-- ---- what `gen` never ends with

-- what becomes of an input by these words, where it isn't computed, becomes of it by itself
fate_is : (job : Job) (size : ℕ) (given : List ℕ) (f : Fate) → ((document : Shape) → ¬ (computed document ≡ f)) → fate_by job size given ≡ f → fate_of given ≡ f
fate_is Compute size given f not_computed is = is
fate_is Reify size given f not_computed is = is
fate_is Gen size given f not_computed is = absurd (not_computed _ is)

-- ---- words that aren't read

pub ends_refused : (words : List (List ℕ)) (given : Option (List ℕ)) (failed : Type 0) (taken : Option (List ℕ)) (sink_failed : Type 0) → IsRefused words → EndsAs words given given failed taken taken sink_failed Usage
ends_refused words given failed taken sink_failed refused = record {
  done = λ is. cc;
  generated = λ is gen. cc;
  usage = λ is. refused;
  said = inl refl;
  read_fault = λ is. cc;
  too_large = λ what is. cc;
  parts = λ what is. cc;
  malformed = λ why is. cc;
  range = λ element property is. cc;
  write_fault = λ is. cc;
  read_whole = λ tells. absurd tells;
  unread = λ gen. refl;
  untouched = λ _. Keeps-refl taken;
  cut_short = λ is. cc;
  no_memory = λ is. cc;
  refuses = λ sound read has. absurd (sound.words_taken refused);
  complete = λ all. absurd (all.sound.words_taken refused);
}

pub ends_wanting : (words : List (List ℕ)) (given : Option (List ℕ)) (failed : Type 0) (taken : Option (List ℕ)) (sink_failed : Type 0) → EndsAs words given given failed taken taken sink_failed NoMemory
ends_wanting words given failed taken sink_failed = record {
  done = λ is. cc;
  generated = λ is gen. cc;
  usage = λ is. cc;
  said = inr (inl refl);
  read_fault = λ is. cc;
  too_large = λ what is. cc;
  parts = λ what is. cc;
  malformed = λ why is. cc;
  range = λ element property is. cc;
  write_fault = λ is. cc;
  read_whole = λ tells. absurd tells;
  unread = λ gen. refl;
  untouched = λ nothing. absurd nothing;
  cut_short = λ is. cc;
  no_memory = λ is. nothing _ given;
  refuses = λ sound read has. wanting read given;
  complete = λ all. inr refl;
}
  where
    nothing : (A : List ℕ → Type 0) (g : Option (List ℕ)) → IfSome g (λ bytes. Keeps taken taken ⊎ A bytes)
    nothing A None = tt
    nothing A (Some bytes) = inl (Keeps-refl taken)

    wanting : (read : Words) (g : Option (List ℕ)) → IfSome g (λ bytes. ComesOf (fate_for read bytes) NoMemory)
    wanting read None = tt
    wanting read (Some bytes) = comes_memory (fate_for read bytes)

module _ (words : List (List ℕ)) (read : Words) (has : HasWords words read) (single : (one other : Words) → HasWords words one → HasWords words other → other ≡ one) (given : Option (List ℕ)) (failed : Type 0) where
  -- the words ask for the job that reads nothing
  is_gen : IsGen words → read.job ≡ Gen
  is_gen (other, other_has, is) = ap (λ (r : Words). r.job) (single other read other_has has) ∙ is

  asks_gen : read.job ≡ Gen → IsGen words
  asks_gen is = (read, has, is)

  by_read : (other : Words) → HasWords words other → (status : Status) → IfSome given (λ bytes. ComesOf (fate_for read bytes) status) → IfSome given (λ bytes. ComesOf (fate_for other bytes) status)
  by_read other other_has status comes_so = subst (λ (r : Words). IfSome given (λ bytes. ComesOf (fate_for r bytes) status)) (sym (single read other has other_has)) comes_so

  refused_as : (status : Status) (g : Option (List ℕ)) → IfSome g (λ bytes. IsRefusal read.job (limit_for read) (fate_for read bytes) status) → IfSome g (λ bytes. ComesOf (fate_for read bytes) status)
  refused_as status None is = tt
  refused_as status (Some bytes) is = comes read.job (limit_for read) (fate_for read bytes) status is

  refuses : (status : Status) → EndsEarly status → IsStopped given read failed status → IsSound words failed → IfSome given (λ bytes. ComesOf (fate_for read bytes) status)
  refuses Done early stopped sound = absurd early
  refuses Usage early stopped sound = absurd early
  refuses WriteFault early stopped sound = absurd early
  refuses ReadFault early stopped sound = absurd (sound.source_sound stopped)
  refuses (TooLarge what) early stopped sound = refused_as (TooLarge what) given stopped
  refuses (Malformed why) early stopped sound = refused_as (Malformed why) given stopped
  refuses (Range element property) early stopped sound = refused_as (Range element property) given stopped
  refuses NoMemory early stopped sound = refused_as NoMemory given stopped

  -- what was stopped for an input, unless it was for a fault of the source
  stopped_for : (status : Status) → IsStopped given read failed status → failed ⊎ IfSome given (λ bytes. IsRefusal read.job (limit_for read) (fate_for read bytes) status)
  stopped_for Done stopped = inr stopped
  stopped_for Usage stopped = inr stopped
  stopped_for ReadFault stopped = inl stopped
  stopped_for (TooLarge what) stopped = inr stopped
  stopped_for (Malformed why) stopped = inr stopped
  stopped_for (Range element property) stopped = inr stopped
  stopped_for WriteFault stopped = inr stopped
  stopped_for NoMemory stopped = inr stopped

  complete : (sink_failed : Type 0) (status : Status) → IsStopped given read failed status → (read.job ≡ Gen → IsRefusal read.job (limit_for read) (fate_for read []) status)
      → HasAllButMemory words given failed sink_failed → (status ≡ Done) ⊎ (status ≡ NoMemory)
  complete sink_failed status stopped ungenerated all = by all.input (stopped_for status stopped)
    where
      for : (g : Option (List ℕ)) → IsSomeAnd g (IsComputable words) → IfSome g (λ bytes. IsRefusal read.job (limit_for read) (fate_for read bytes) status) → (status ≡ Done) ⊎ (status ≡ NoMemory)
      for None input refused = absurd input
      for (Some bytes) input refused = inr (only_memory read bytes (input read has) status refused)

      by : (IsSomeAnd given (IsComputable words) ⊎ (IsGen words × IsComputable words [])) → failed ⊎ IfSome given (λ bytes. IsRefusal read.job (limit_for read) (fate_for read bytes) status) → (status ≡ Done) ⊎ (status ≡ NoMemory)
      by (inr (gen, input)) stop = inr (only_memory read [] (input read has) status (ungenerated (is_gen gen)))
      by (inl input) (inl fault) = absurd (all.sound.source_sound fault)
      by (inl input) (inr refused) = for given input refused

  out : (element : ℕ) (property : Key) → (g : Option (List ℕ)) → IfSome g (λ bytes. IsOutOf read.job (limit_for read) (fate_for read bytes) element property) → IfSome g (λ bytes. IsOutOfRange words bytes element property)
  out element property None is = tt
  out element property (Some bytes) is = record { read = read; has_words = has; out = is }

  by_itself : (f : Fate) → ((document : Shape) → ¬ (computed document ≡ f)) → (g : Option (List ℕ)) → IfSome g (λ bytes. fate_for read bytes ≡ f) → IfSome g (λ bytes. fate_of bytes ≡ f)
  by_itself f not_computed None is = tt
  by_itself f not_computed (Some bytes) is = fate_is read.job read.size bytes f not_computed is

  nothing_taken : (taken : Option (List ℕ)) (A : List ℕ → Type 0) (g : Option (List ℕ)) → IfSome g (λ bytes. Keeps taken taken ⊎ A bytes)
  nothing_taken taken A None = tt
  nothing_taken taken A (Some bytes) = inl (Keeps-refl taken)

  asked_or : {A : Type 0} → (read.job ≡ Gen) ⊎ A → IsGen words ⊎ A
  asked_or (inl is) = inl (asks_gen is)
  asked_or (inr other) = inr other

  pub ends_early_as : (left taken : Option (List ℕ)) (sink_failed : Type 0) (status : Status) → EndsEarly status → IsStopped given read failed status
      → (read.job ≡ Gen → IsRefusal read.job (limit_for read) (fate_for read []) status) → IsOversized given status
      → (TellsOfDocument status → (read.job ≡ Gen) ⊎ IsAtEnd left) → (read.job ≡ Gen → left ≡ given) → EndsAs words given left failed taken taken sink_failed status
  ends_early_as left taken sink_failed status early stopped ungenerated oversized whole unread = record {
    done = λ is. absurd (subst EndsEarly is early);
    generated = λ is gen. absurd (subst EndsEarly is early);
    usage = λ is. absurd (subst EndsEarly is early);
    said = inr (inr (read, has));
    read_fault = λ is. subst (IsStopped given read failed) is stopped;
    too_large = λ what is. by_itself (fate.too_large what) (λ document no. cc) given (subst (IsStopped given read failed) is stopped);
    parts = λ what is. subst (IsOversized given) is oversized;
    malformed = λ why is. by_itself (fate.malformed why) (λ document no. cc) given (subst (IsStopped given read failed) is stopped);
    range = λ element property is. out element property given (subst (IsStopped given read failed) is stopped);
    write_fault = λ is. absurd (subst EndsEarly is early);
    read_whole = λ tells. asked_or (whole tells);
    unread = λ gen. unread (is_gen gen);
    untouched = λ _. Keeps-refl taken;
    cut_short = λ is. absurd (subst EndsEarly is early);
    no_memory = λ is. nothing_taken taken _ given;
    refuses = λ sound other other_has. by_read other other_has status (refuses status early stopped sound);
    complete = complete sink_failed status stopped ungenerated;
  }

  -- ---- what is written

  module _ (text : List ℕ) (tells : IfSome given (λ bytes. TellsOf read.job (limit_for read) (fate_for read bytes) text)) (generated : read.job ≡ Gen → TellsOf read.job (limit_for read) (fate_for read []) text) where
    told : (P : List ℕ → Type 0) (g : Option (List ℕ)) → IfSome g (λ bytes. TellsOf read.job (limit_for read) (fate_for read bytes) text) → ((bytes : List ℕ) → TellsOf read.job (limit_for read) (fate_for read bytes) text → P bytes) → IfSome g P
    told P None is each = tt
    told P (Some bytes) is each = each bytes is

    writes : (bytes : List ℕ) (old new : Option (List ℕ)) → Appends old new text → TellsOf read.job (limit_for read) (fate_for read bytes) text → HasWritten words bytes old new
    writes bytes old new appends is = (text, record { read = read; has_words = has; tells = is }, appends)

    writes_front : (bytes : List ℕ) (old new : Option (List ℕ)) → TookPrefix old new text → TellsOf read.job (limit_for read) (fate_for read bytes) text → HasWrittenFront words bytes old new
    writes_front bytes old new took is = (text, record { read = read; has_words = has; tells = is }, took)

    abbrev ends_so : Status → Type 0
    ends_so status = (status ≡ Done) ⊎ (status ≡ WriteFault) ⊎ (status ≡ NoMemory)

    comes_so : (status : Status) → ends_so status → (bytes : List ℕ) → TellsOf read.job (limit_for read) (fate_for read bytes) text → ComesOf (fate_for read bytes) status
    comes_so status (inl is) bytes t = subst (λ (x : Fate). ComesOf x status) (sym t.document_computed) (inl is)
    comes_so status (inr (inl is)) bytes t = subst (λ (x : Fate). ComesOf x status) (sym t.document_computed) (inr (inl is))
    comes_so status (inr (inr is)) bytes t = subst (λ (x : Fate). ComesOf x status) (sym t.document_computed) (inr (inr (inr is)))

    no_other : {A : Type 0} (status other : Status) → ends_so status → status ≡ other → ¬ (Done ≡ other) → ¬ (WriteFault ≡ other) → ¬ (NoMemory ≡ other) → A
    no_other status other (inl is) same a b c = absurd (a (sym is ∙ same))
    no_other status other (inr (inl is)) same a b c = absurd (b (sym is ∙ same))
    no_other status other (inr (inr is)) same a b c = absurd (c (sym is ∙ same))

    untouched_by : (old new : Option (List ℕ)) (status : Status) → ends_so status → WritesNothing status → Keeps old new
    untouched_by old new status (inl is) nothing = absurd (subst WritesNothing is nothing)
    untouched_by old new status (inr (inl is)) nothing = absurd (subst WritesNothing is nothing)
    untouched_by old new status (inr (inr is)) nothing = absurd (subst WritesNothing is nothing)

    full : (sink_failed : Type 0) (status : Status) → ends_so status → (status ≡ WriteFault → sink_failed) → HasAllButMemory words given failed sink_failed → (status ≡ Done) ⊎ (status ≡ NoMemory)
    full sink_failed status (inl is) fault all = inl is
    full sink_failed status (inr (inl is)) fault all = absurd (all.sink_sound (fault is))
    full sink_failed status (inr (inr is)) fault all = inr is

    pub writes_as : (left old new : Option (List ℕ)) (sink_failed : Type 0) (status : Status) → (read.job ≡ Gen) ⊎ IsAtEnd left → (read.job ≡ Gen → left ≡ given)
        → (status ≡ Done → Appends old new text) → (status ≡ WriteFault → TookPrefix old new text) → (status ≡ NoMemory → TookPrefix old new text) → (status ≡ WriteFault → sink_failed)
        → (status ≡ Done) ⊎ (status ≡ WriteFault) ⊎ (status ≡ NoMemory) → EndsAs words given left failed old new sink_failed status
    writes_as left old new sink_failed status whole unread done cut no_memory fault others = record {
      done = λ is. told _ given tells (λ bytes t. writes bytes old new (done is) t);
      generated = λ is gen. writes [] old new (done is) (generated (is_gen gen));
      usage = λ is. no_other status Usage others is (λ e. cc) (λ e. cc) (λ e. cc);
      said = inr (inr (read, has));
      read_fault = λ is. no_other status ReadFault others is (λ e. cc) (λ e. cc) (λ e. cc);
      too_large = λ what is. no_other status (TooLarge what) others is (λ e. cc) (λ e. cc) (λ e. cc);
      parts = λ what is. no_other status (TooLarge what) others is (λ e. cc) (λ e. cc) (λ e. cc);
      malformed = λ why is. no_other status (Malformed why) others is (λ e. cc) (λ e. cc) (λ e. cc);
      range = λ element property is. no_other status (Range element property) others is (λ e. cc) (λ e. cc) (λ e. cc);
      write_fault = fault;
      read_whole = λ _. asked_or whole;
      unread = λ gen. unread (is_gen gen);
      untouched = untouched_by old new status others;
      cut_short = λ is. told _ given tells (λ bytes t. writes_front bytes old new (cut is) t);
      no_memory = λ is. told _ given tells (λ bytes t. inr (writes_front bytes old new (no_memory is) t));
      refuses = λ sound other other_has. by_read other other_has status (told _ given tells (λ bytes t. comes_so status others bytes t));
      complete = full sink_failed status others fault;
    }
