-- What a run comes to, by each status, and what it wrote.
use Rattle.std.specs.Prelude.{ℕ, ◌≡◌, ◌⊎◌, List, [], Option, IfSome, IsSomeAnd}
use Rattle.std.specs.Io.KnownBytes.{Appends, IsAtEnd, Keeps}
use Rattle.cv_io.specs.Streams.{TookPrefix}
use Rattle.cv_doc.specs.Reading.{Shape}
use Rattle.cv_doc.specs.declared.refusal.BadDoc.{BadDoc}
use Rattle.cv_doc.specs.declared.refusal.What.{What}
use Rattle.cv_doc.specs.declared.refusal.What.TheVariants.{Bytes}
use Rattle.cv_words.specs.Words.{HasWords, IsRefused}
use Rattle.cv_words.specs.declared.words.Words.{Words}
use Rattle.cv_valuation.specs.declared.key.Key.{Key}
use Rattle.cv_run.specs.Asked.{AreInRangeBy, IsGen, fate_for, limit_for}
use Rattle.cv_run.specs.Fates.{Fate, IsTooLarge, computed, fate_of, malformed, too_large}
use Rattle.cv_run.specs.Fates as fate
use Rattle.cv_run.specs.Telling.{IsOutOf, TellsOf}
use Rattle.cv_run.specs.declared.status.Status.{Status}
use Rattle.cv_run.specs.declared.status.Status.TheVariants.{Done, Usage, ReadFault, TooLarge, Malformed, Range, WriteFault, NoMemory}

-- The words say something: these are a job and numbers of their kinds and ranges.
abbrev pub AreRead : List (List ℕ) → Type 0
AreRead words = (read : Words) × HasWords words read

-- The text is the one that the job of the words writes of an input, under their limit: it tells of the only values that solve the
-- equations.
pub record IsText (words : List (List ℕ)) (given text : List ℕ) : Type 0 where
  pub read : Words
  pub has_words : HasWords words read
  pub tells : TellsOf read.job (limit_for read) (fate_for read given) text

-- the sink took the report and nothing else
abbrev pub HasWritten : List (List ℕ) → List ℕ → Option (List ℕ) → Option (List ℕ) → Type 0
HasWritten words given old new = (text : List ℕ) × IsText words given text × Appends old new text

-- the sink took a front of the report
abbrev pub HasWrittenFront : List (List ℕ) → List ℕ → Option (List ℕ) → Option (List ℕ) → Type 0
HasWrittenFront words given old new = (text : List ℕ) × IsText words given text × TookPrefix old new text

-- By the words and the input, the property is out of range on the element, the least on which one is.
pub record IsOutOfRange (words : List (List ℕ)) (given : List ℕ) (element : ℕ) (property : Key) : Type 0 where
  pub read : Words
  pub has_words : HasWords words read
  pub out : IsOutOf read.job (limit_for read) (fate_for read given) element property

-- the statuses with which nothing was written
abbrev pub WritesNothing : Status → Type 0
WritesNothing Done = ⊥
WritesNothing WriteFault = ⊥
WritesNothing NoMemory = ⊥
WritesNothing _ = Unit {0}

-- the statuses that tell of a document, and so come only once the input was read to its end
abbrev pub TellsOfDocument : Status → Type 0
TellsOfDocument Done = Unit {0}
TellsOfDocument (Range element property) = Unit {0}
TellsOfDocument (Malformed why) = Unit {0}
TellsOfDocument (TooLarge Bytes) = ⊥
TellsOfDocument (TooLarge _) = Unit {0}
TellsOfDocument _ = ⊥

-- the status tells of a property that is out of range
abbrev pub IsRange : Status → Type 0
IsRange (Range element property) = Unit {0}
IsRange _ = ⊥

-- the statuses that come of an input; want of memory may come of each
abbrev pub ComesOf : Fate → Status → Type 0
ComesOf (too_large what) status = (status ≡ TooLarge what) ⊎ (status ≡ NoMemory)
ComesOf (malformed why) status = (status ≡ Malformed why) ⊎ (status ≡ NoMemory)
ComesOf (computed document) status = (status ≡ Done) ⊎ (status ≡ WriteFault) ⊎ IsRange status ⊎ (status ≡ NoMemory)

-- The words are taken, and no read failed.
pub record IsSound (words : List (List ℕ)) (source_failed : Type 0) : Type 0 where
  pub words_taken : ¬ (IsRefused words)
  pub source_sound : ¬ source_failed

-- the input is computed by these words, and no property is out of range
pub record IsComputed (read : Words) (given : List ℕ) : Type 0 where
  pub document : Shape
  pub document_given : fate_for read given ≡ computed document
  pub in_range : AreInRangeBy read.job document (limit_for read)

-- by the words, whatever they say, the input is computed and no property is out of range
abbrev pub IsComputable : List (List ℕ) → List ℕ → Type 0
IsComputable words given = (read : Words) → HasWords words read → IsComputed read given

-- the bytes that are left are computable, or the words ask for the job that reads none
abbrev pub IsComputableInput : List (List ℕ) → Option (List ℕ) → Type 0
IsComputableInput words given = IsSomeAnd given (IsComputable words) ⊎ (IsGen words × IsComputable words [])

-- The words are taken, no read or write failed, and the input is computed, with no property out of range: all that a run needs but
-- memory.
pub record HasAllButMemory (words : List (List ℕ)) (given : Option (List ℕ)) (source_failed sink_failed : Type 0) : Type 0 where
  pub sound : IsSound words source_failed
  pub sink_sound : ¬ sink_failed
  pub input : IsComputableInput words given

-- How a run over these words ends, before it tells its status. The source had the bytes `given` left and has `left` after it; the
-- sink took what makes `taken` of `before`.
pub record EndsAs (words : List (List ℕ)) (given left : Option (List ℕ)) (source_failed : Type 0) (before taken : Option (List ℕ)) (sink_failed : Type 0) (status : Status) : Type 0 where
  pub done : status ≡ Done → IfSome given (λ bytes. HasWritten words bytes before taken)
  pub generated : status ≡ Done → IsGen words → HasWritten words [] before taken
  pub usage : status ≡ Usage → IsRefused words
  pub said : (status ≡ Usage) ⊎ (status ≡ NoMemory) ⊎ AreRead words
  pub read_fault : status ≡ ReadFault → source_failed
  pub too_large : (what : What) → status ≡ TooLarge what → IfSome given (λ bytes. fate_of bytes ≡ fate.too_large what)
  pub parts : (what : What) → status ≡ TooLarge what → IfSome given (λ bytes. IsTooLarge bytes what)
  pub malformed : (why : BadDoc) → status ≡ Malformed why → IfSome given (λ bytes. fate_of bytes ≡ fate.malformed why)
  pub range : (element : ℕ) (property : Key) → status ≡ Range element property → IfSome given (λ bytes. IsOutOfRange words bytes element property)
  pub write_fault : status ≡ WriteFault → sink_failed
  pub read_whole : TellsOfDocument status → IsGen words ⊎ IsAtEnd left
  pub unread : IsGen words → left ≡ given
  pub untouched : WritesNothing status → Keeps before taken
  pub cut_short : status ≡ WriteFault → IfSome given (λ bytes. HasWrittenFront words bytes before taken)
  pub no_memory : status ≡ NoMemory → IfSome given (λ bytes. Keeps before taken ⊎ HasWrittenFront words bytes before taken)
  pub refuses : IsSound words source_failed → (read : Words) → HasWords words read → IfSome given (λ bytes. ComesOf (fate_for read bytes) status)
  pub complete : HasAllButMemory words given source_failed sink_failed → (status ≡ Done) ⊎ (status ≡ NoMemory)
