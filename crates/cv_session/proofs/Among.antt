-- Keys among others: what a test finds among the keys once an entry is inserted or taken out.
use Rattle.std.proofs.Common.{◌≡◌, ℕ, ◌≤◌, Bool, true, false, ◌||◌, cond, if◌then◌else◌, List, [], ◌∷◌, ◌++◌, length, ◌⊎◌, inl, inr, refl, ◌∙◌, arith}
use Rattle.std.specs.Cmp.{IsEquivalence}
use Rattle.std.specs.List.{IsDistinct, list_any}
use Rattle.std.specs.Map.{keys_of, remove_entry}
use Rattle.std.specs.Set.{is_member}
use Rattle.std.proofs.lemmas.Map.Made.{length-le_from_is_member}
use Rattle.std.proofs.lemmas.Map.Entries.{length-keys_of}
use Rattle.std.proofs.lemmas.List.Folds.{list_any-append}
use Rattle.std.proofs.lemmas.Map.Steps.{list_any_congr}
use Rattle.indexmap.specs.IndexMap.{insert_entry}
use Rattle.indexmap.specs.IndexSet.{insert_all, insert_key}

pub or_left : (a b : Bool) → a ≡ true → (a || b) ≡ true
or_left true b is = refl
or_left false b is = absurd (let no : false ≡ true = is in cc)

pub or_right : (a b : Bool) → b ≡ true → (a || b) ≡ true
or_right true b is = refl
or_right false b is = is

pub or_cases : (a b : Bool) → (a || b) ≡ true → (a ≡ true) ⊎ (b ≡ true)
or_cases true b is = inl refl
or_cases false b is = inr is

module _ {K : Type 0} (eq : K → K → Bool) (P : K → Type 0) where
  -- what is found behind a key, where it is found among the others only if it was
  behind : (k0 : K) (old new : List K) → ((q : K) → is_member eq (k0 ∷ old) q ≡ true → P q) → (((q : K) → is_member eq old q ≡ true → P q) → (q : K) → is_member eq new q ≡ true → P q)
      → (q : K) → is_member eq (k0 ∷ new) q ≡ true → P q
  behind k0 old new whole rest q is = by (or_cases (eq q k0) (is_member eq new q) is)
    where
      by : (eq q k0 ≡ true) ⊎ (is_member eq new q ≡ true) → P q
      by (inl same) = whole q (or_left (eq q k0) (is_member eq old q) same)
      by (inr more) = rest (λ r there. whole r (or_right (eq r k0) (is_member eq old r) there)) q more

  -- what is found once an entry is inserted was found before, or is its key
  pub found_inserted : {X : Type 0} (es : List (K × X)) (k : K) (v : X) → ((q : K) → is_member eq (keys_of es) q ≡ true → P q) → ((q : K) → eq q k ≡ true → P q)
      → (q : K) → is_member eq (keys_of (insert_entry eq es k v)) q ≡ true → P q
  found_inserted [] k v old new q is = by (or_cases (eq q k) false is)
    where
      by : (eq q k ≡ true) ⊎ (false ≡ true) → P q
      by (inl same) = new q same
      by (inr never) = cc
  found_inserted ((k0, v0) ∷ es) k v old new q is =
      by (behind k0 (keys_of es) (keys_of (insert_entry eq es k v)) old (λ known. found_inserted es k v known new)) (eq k k0) is
    where
      by : ((r : K) → is_member eq (k0 ∷ keys_of (insert_entry eq es k v)) r ≡ true → P r)
          → (b : Bool) → is_member eq (keys_of (if b then (k0, v) ∷ es else (k0, v0) ∷ insert_entry eq es k v)) q ≡ true → P q
      by rest true there = old q there
      by rest false there = rest q there

  -- what is found once an entry is taken out was found before
  pub found_left : {X : Type 0} (test : K → Bool) (es : List (K × X)) → ((q : K) → is_member eq (keys_of es) q ≡ true → P q)
      → (q : K) → is_member eq (keys_of (remove_entry test es)) q ≡ true → P q
  found_left test [] old q is = old q is
  found_left test ((k0, v0) ∷ es) old q is =
      by (behind k0 (keys_of es) (keys_of (remove_entry test es)) old (λ known. found_left test es known)) (test k0) is
    where
      by : ((r : K) → is_member eq (k0 ∷ keys_of (remove_entry test es)) r ≡ true → P r)
          → (b : Bool) → is_member eq (keys_of (cond b es ((k0, v0) ∷ remove_entry test es))) q ≡ true → P q
      by rest true there = old q (or_right (eq q k0) (is_member eq (keys_of es) q) there)
      by rest false there = rest q there

module _ {K : Type 0} {eq : K → K → Bool} (laws : IsEquivalence eq) where
  -- a key is found once it is inserted, and so is what was found before
  found_key : (ks : List K) (k q : K) → (is_member eq ks q ≡ true) ⊎ (eq q k ≡ true) → is_member eq (insert_key eq ks k) q ≡ true
  found_key ks k q is = by (list_any (eq k) ks) refl is
    where
      by : (b : Bool) → list_any (eq k) ks ≡ b → (is_member eq ks q ≡ true) ⊎ (eq q k ≡ true) → is_member eq (if b then ks else ks ++ k ∷ []) q ≡ true
      by true there (inl old) = old
      by true there (inr same) = list_any_congr laws q k ks same ∙ there
      by false none (inl old) = list_any-append (eq q) ks (k ∷ []) ∙ or_left (list_any (eq q) ks) (eq q k || false) old
      by false none (inr same) = list_any-append (eq q) ks (k ∷ []) ∙ or_right (list_any (eq q) ks) (eq q k || false) (or_left (eq q k) false same)

  -- so it is for all keys of a list
  pub found_all : (xs ks : List K) (q : K) → (is_member eq ks q ≡ true) ⊎ (is_member eq xs q ≡ true) → is_member eq (insert_all eq ks xs) q ≡ true
  found_all [] ks q (inl old) = old
  found_all [] ks q (inr never) = cc
  found_all (x ∷ xs) ks q is = found_all xs (insert_key eq ks x) q (by is)
    where
      by2 : (eq q x ≡ true) ⊎ (is_member eq xs q ≡ true) → (is_member eq (insert_key eq ks x) q ≡ true) ⊎ (is_member eq xs q ≡ true)
      by2 (inl same) = inl (found_key ks x q (inr same))
      by2 (inr more) = inr more

      by : (is_member eq ks q ≡ true) ⊎ (is_member eq (x ∷ xs) q ≡ true) → (is_member eq (insert_key eq ks x) q ≡ true) ⊎ (is_member eq xs q ≡ true)
      by (inl old) = inl (found_key ks x q (inl old))
      by (inr more) = by2 (or_cases (eq q x) (is_member eq xs q) more)

-- entries with no two keys equal, all of them among these, are no more than these
pub no_more : {K X : Type 0} {eq : K → K → Bool} (laws : IsEquivalence eq) (es : List (K × X)) (keys : List K) → IsDistinct eq (keys_of es)
    → ((q : K) → is_member eq (keys_of es) q ≡ true → is_member eq keys q ≡ true) → length es ≤ length keys
no_more laws es keys distinct among = omega (arith, length-keys_of es, length-le_from_is_member laws (keys_of es) keys distinct among)
