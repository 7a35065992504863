-- Why a document is refused, and results that go on only where nothing is refused.
use Rattle.std.specs.Prelude.{◌≡◌, ℕ, ◌+◌, List, [], ◌∷◌, Option, None, Some, IfSome, Result, Ok, Err}
use Rattle.std.specs.Str.{chars}
use Rattle.serde_json.specs.Data.{Data, Items, no_items, item}
use Rattle.cv_doc.specs.declared.refusal.DocErr.{DocErr}
use Rattle.cv_doc.specs.declared.refusal.DocErr.TheVariants.{Bad, TooMany, Memory}
use Rattle.cv_doc.specs.declared.refusal.BadDoc.{BadDoc}
use Rattle.cv_doc.specs.declared.refusal.BadDoc.TheVariants.{Field}
use Rattle.cv_doc.specs.declared.refusal.What.{What}
use Rattle.cv_doc.specs.declared.refusal.What.TheVariants.{Bytes, Elements, Show, Commands, Names}

-- the document is malformed, or a part of it is too large
pub data Refusal : Type 0 where
  malformed : BadDoc → Refusal
  too_large : What → Refusal

-- the refusal of the member with this path
abbrev pub field : List ℕ → Refusal
field path = malformed (Field (chars path))

-- the parts that are counted while a document is read
abbrev pub IsCounted : What → Type 0
IsCounted Bytes = ⊥
IsCounted Elements = Unit {0}
IsCounted Show = Unit {0}
IsCounted Commands = Unit {0}
IsCounted Names = ⊥

-- what is refused for its size is a part that is counted
abbrev pub RefusesCounted : {T : Type 0} → Result T Refusal → Type 0
RefusesCounted (Ok x) = Unit {0}
RefusesCounted (Err (malformed why)) = Unit {0}
RefusesCounted (Err (too_large what)) = IsCounted what

-- want of memory is no refusal
abbrev pub refusal_of : DocErr → Option Refusal
refusal_of (Bad why) = Some (malformed why)
refusal_of (TooMany what) = Some (too_large what)
refusal_of Memory = None

-- What a call answers of a definition's value: that value, as `view` sees it, that refusal, or want of memory.
abbrev pub Answers : {T U : Type 0} → (T → U) → Result U Refusal → Result T DocErr → Type 0
Answers view want (Ok x) = want ≡ Ok (view x)
Answers view want (Err e) = IfSome (refusal_of e) (λ why. want ≡ Err why)

-- the error is the refusal of a path
abbrev pub IsFieldOf : List ℕ → DocErr → Type 0
IsFieldOf path e = refusal_of e ≡ Some (field path)

-- the next step where the first one refuses nothing
abbrev pub and_then : {T U : Type 0} → Result T Refusal → (T → Result U Refusal) → Result U Refusal
and_then (Ok x) next = next x
and_then (Err why) next = Err why

-- the items of an array from number i on, each read with its number, or the first refusal
abbrev pub all_from : {T : Type 0} → (ℕ → Data → Result T Refusal) → ℕ → Items → Result (List T) Refusal
all_from read i no_items = Ok []
all_from read i (item d ds) = and_then (read i d) (λ first. and_then (all_from read (i + 1) ds) (λ rest. Ok (first ∷ rest)))
