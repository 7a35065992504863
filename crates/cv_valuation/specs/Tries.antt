-- Trees of outcomes by key.
use Rattle.std.specs.Prelude.{ℕ, ◌≡◌, ◌/◌, ◌%◌, ◌==◌, if◌then◌else◌, List, [], ◌∷◌, ◌++◌, Option, Some, None, fold, unwrap_or}
use Rattle.std.specs.Hash.FoldHasher as folding
use Rattle.cv_valuation.specs.declared.key.Key.{Key}
use Rattle.cv_valuation.specs.declared.outcome.Outcome.{Outcome}
use Rattle.cv_valuation.specs.declared.outcome.Outcome.TheVariants.{Invalid}
use Rattle.cv_valuation.specs.declared.trie.Trie.{Trie, Leaf, Fork'}
use Rattle.cv_valuation.specs.Keys.{same_key, key_input}

-- the path of a key: its hash
unfoldable pub path_of : Key → ℕ
path_of key = folding.finish (fold folding.write folding.initial (key_input key))

-- the outcome found by a path at a fork, and in a tree
abbrev pub found : Trie → ℕ → Key → Option Outcome
found Leaf path key = None
found (Fork' p k outcome left right) path key =
    if same_key key k then Some outcome else (if path % 2 == 1 then found right (path / 2) key else found left (path / 2) key)

abbrev pub found_at : Key → Outcome → Trie → Trie → ℕ → Key → Option Outcome
found_at k outcome left right path key =
    if same_key key k then Some outcome else (if path % 2 == 1 then found right (path / 2) key else found left (path / 2) key)

-- the keys that stand in a tree
abbrev pub keys_in : Trie → List Key
keys_in Leaf = []
keys_in (Fork' p k outcome left right) = k ∷ keys_in left ++ keys_in right

abbrev pub outcome_in : Trie → Key → Outcome
outcome_in trie key = unwrap_or (found trie (path_of key) key) Invalid

-- the tree is a fork of this entry and these trees
abbrev pub IsFork : Trie → Key → Outcome → Trie → Trie → Type 0
IsFork trie k outcome left right = (path : ℕ) (key : Key) → found trie path key ≡ found_at k outcome left right path key

-- the same is found in both
abbrev pub FindsTheSame : Trie → Trie → Type 0
FindsTheSame old new = (path : ℕ) (key : Key) → found new path key ≡ found old path key

-- in the new tree this outcome is found for the key, whose path this is, and every other as in the old one
abbrev pub Sets : Trie → Trie → ℕ → Key → Outcome → Type 0
Sets old new path key outcome = (way : ℕ) (q : Key) → (q ≡ key → way ≡ path) → found new way q ≡ (if same_key q key then Some outcome else found old way q)
