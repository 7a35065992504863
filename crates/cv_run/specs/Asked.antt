-- What the words of a run ask to be computed.
use Rattle.std.specs.Prelude.{ℕ, ◌≡◌, ◌⊎◌, List, length}
use Rattle.cv_doc.specs.Reading.{Shape}
use Rattle.cv_words.specs.Words.{HasWords}
use Rattle.cv_words.specs.declared.words.Job.{Job}
use Rattle.cv_words.specs.declared.words.Job.TheVariants.{Compute, Reify, Gen}
use Rattle.cv_words.specs.declared.words.Words.{Words}
use Rattle.cv_property.specs.declared.property.Property.{Property}
use Rattle.cv_property.specs.declared.property.Property.TheVariants.{PaddingLeft, Width}
use Rattle.cv_valuation.specs.declared.computed.Computed.{Computed}
use Rattle.cv_valuation.specs.declared.key.Key.{Key}
use Rattle.cv_valuation.specs.declared.key.Key.TheVariants.{Table}
use Rattle.cv_gen.specs.Generated.{gen_document}
use Rattle.cv_gen.specs.Summary.{IsOutside, IsSummed, IsWithin}
use Rattle.cv_tree.specs.Tree.{AreComputed, AreInRange, tree_of, values_in}
use Rattle.cv_tree.specs.Tree as trees
use Rattle.cv_run.specs.Fates.{Fate, computed, fate_of}

-- the words ask for the job that reads no input
abbrev pub IsGen : List (List ℕ) → Type 0
IsGen words = (read : Words) × HasWords words read × (read.job ≡ Gen)

-- what becomes of an input: `gen` computes the document of its size, whatever the input is
abbrev pub fate_by : Job → ℕ → List ℕ → Fate
fate_by Compute size given = fate_of given
fate_by Reify size given = fate_of given
fate_by Gen size given = computed (gen_document size)

abbrev pub fate_for : Words → List ℕ → Fate
fate_for read given = fate_by read.job read.size given

-- the limit on the tokens of a value; `gen` has one of its own
abbrev pub limit_by : Job → ℕ → ℕ
limit_by Compute limit = limit
limit_by Reify limit = limit
limit_by Gen limit = 16384

abbrev pub limit_for : Words → ℕ
limit_for read = limit_by read.job read.limit

-- the sum of this property's values up to this element, the first such, has no fraction within bounds
pub record IsSumOut (document : Shape) (limit element : ℕ) (key : Key) : Type 0 where
  pub all : List Computed
  pub computed : AreComputed (tree_of document) limit (length document.elements) all
  pub property : Property
  pub is_key : key ≡ Table property
  pub summed : IsSummed property
  pub out : IsOutside property (values_in all) element

-- On this element, the first such, the property isn't invalid and is out of range; for `gen` it may also be a sum of its summary.
abbrev pub IsOutBy : Job → Shape → ℕ → ℕ → Key → Type 0
IsOutBy Compute document limit element key = trees.IsOutOfRange (tree_of document) limit element key
IsOutBy Reify document limit element key = trees.IsOutOfRange (tree_of document) limit element key
IsOutBy Gen document limit element key = trees.IsOutOfRange (tree_of document) limit element key ⊎ IsSumOut document limit element key

-- the sums of a summary are within bounds
abbrev pub AreSumsWithin : Shape → ℕ → Type 0
AreSumsWithin document limit = (all : List Computed) → AreComputed (tree_of document) limit (length document.elements) all → IsWithin Width (values_in all) × IsWithin PaddingLeft (values_in all)

-- no property is out of range on any element, and for `gen` no sum of its summary is
abbrev pub AreInRangeBy : Job → Shape → ℕ → Type 0
AreInRangeBy Compute document limit = AreInRange (tree_of document) limit
AreInRangeBy Reify document limit = AreInRange (tree_of document) limit
AreInRangeBy Gen document limit = AreInRange (tree_of document) limit × AreSumsWithin document limit
