-- A string in the value that JSON's bytes are read as is no longer than the bytes.
use Rattle.std.proofs.Common.{ℕ, zero, suc, ◌+◌, ◌-◌, ◌*◌, ◌≤◌, Bool, true, false, List, [], ◌∷◌, length, Option, Some, None, option_map, option_and_then, Ordering, Less, Equal, Greater, if◌then◌else◌, arith}
use Rattle.std.specs.Prelude.{⊤, IfSome}
use Rattle.std.specs.Ordering.{match_ordering}
use Rattle.std.specs.Str.{chars, chars_after, continuation_len, lead_bits, is_utf8}
use Rattle.json.specs.Token.{Token}
use Rattle.json.specs.Lex.{tokens}
use Rattle.json.specs.Json as json
use Rattle.json.specs.Json.{Parse, parse_map, after_end_array, read_key, items_step, members_step, value_with}
use Rattle.serde_json.specs.Data.{Data, null, boolean, number, string, array, object, Items, no_items, item, Members, no_members, member, put}
use Rattle.serde_json.specs.Find.{as_array, as_str, get, get_member}
use Rattle.serde_json.specs.Read.{number_of, of_json, of_items, of_members, max_depth, read}
use Rattle.cv_doc.specs.Json.{json_of, text_of}
use Rattle.cv_doc.proofs.Strings.{AreWithin, tokens_within}

-- ---- options

mapped : {A B : Type 0} (P : A → Type 0) (Q : B → Type 0) (f : A → B) → ((a : A) → P a → Q (f a)) → (o : Option A) → IfSome o P → IfSome (option_map f o) Q
mapped P Q f each None holds = tt
mapped P Q f each (Some a) holds = each a holds

next : {A B : Type 0} (P : A → Type 0) (Q : B → Type 0) (f : A → Option B) → ((a : A) → P a → IfSome (f a) Q) → (o : Option A) → IfSome o P → IfSome (option_and_then f o) Q
next P Q f each None holds = tt
next P Q f each (Some a) holds = each a holds

any : {A : Type 0} (o : Option A) → IfSome o (λ a. ⊤)
any None = tt
any (Some a) = tt

-- ---- characters

chars_after-le : (k c : ℕ) (bs : List ℕ) → length (chars_after k c bs) ≤ suc (length bs)
chars_after-le zero c [] = omega arith
chars_after-le zero c (b ∷ bs) = omega (arith, chars_after-le (continuation_len b) (lead_bits b) bs)
chars_after-le (suc k) c [] = omega arith
chars_after-le (suc k) c (b ∷ bs) = omega (arith, chars_after-le k (c * 64 + (b - 128)) bs)

-- no more characters than bytes
chars-le : (bs : List ℕ) → length (chars bs) ≤ length bs
unfolding chars
chars-le [] = omega arith
chars-le (b ∷ bs) = chars_after-le (continuation_len b) (lead_bits b) bs

module _ (n : ℕ) where
  -- ---- the grammar

  abbrev mutual
    JsonIsWithin : json.Json → Type 0
    JsonIsWithin json.null = ⊤
    JsonIsWithin (json.boolean b) = ⊤
    JsonIsWithin (json.number s) = ⊤
    JsonIsWithin (json.string s) = length s ≤ n
    JsonIsWithin (json.array js) = ListIsWithin js
    JsonIsWithin (json.object ms) = ObjectIsWithin ms

    ListIsWithin : json.Items → Type 0
    ListIsWithin json.no_items = ⊤
    ListIsWithin (json.item j js) = JsonIsWithin j × ListIsWithin js

    ObjectIsWithin : json.Members → Type 0
    ObjectIsWithin json.no_members = ⊤
    ObjectIsWithin (json.member k j ms) = JsonIsWithin j × ObjectIsWithin ms

  -- what is read is within, and so are the tokens that are left
  abbrev Gives : {A : Type 0} → (A → Type 0) → Option (A × List Token) → Type 0
  Gives P read = IfSome read (λ r. P r.0 × AreWithin n r.1)

  abbrev Reads : {A : Type 0} → (A → Type 0) → Parse A → Type 0
  Reads P parse = (ts : List Token) → AreWithin n ts → Gives P (parse ts)

  made : {A B : Type 0} (P : A → Type 0) (Q : B → Type 0) (f : A → B) → ((a : A) → P a → Q (f a)) → (read : Option (A × List Token)) → Gives P read → Gives Q (parse_map f read)
  made P Q f each None holds = tt
  made P Q f each (Some r) holds = (each r.0 holds.0, holds.1)

  and_more : {B : Type 0} (Q : B → Type 0) (f : json.Json → B → B) → ((j : json.Json) (b : B) → JsonIsWithin j → Q b → Q (f j b)) → (more : Parse B) → Reads Q more
      → (first : Option (json.Json × List Token)) → Gives JsonIsWithin first → Gives Q (option_and_then (λ r. parse_map (f r.0) (more r.1)) first)
  and_more Q f each more reads None holds = tt
  and_more Q f each more reads (Some r) holds = made Q Q (f r.0) (λ b. each r.0 b holds.0) (more r.1) (reads r.1 holds.1)

  after_array_within : (ts : List Token) → AreWithin n ts → IfSome (after_end_array ts) (AreWithin n)
  after_array_within [] all = tt
  after_array_within (Token.begin_object ∷ ts) all = tt
  after_array_within (Token.end_object ∷ ts) all = tt
  after_array_within (Token.begin_array ∷ ts) all = tt
  after_array_within (Token.end_array ∷ ts) all = all.1
  after_array_within (Token.key s ∷ ts) all = tt
  after_array_within (Token.string s ∷ ts) all = tt
  after_array_within (Token.number s ∷ ts) all = tt
  after_array_within (Token.boolean b ∷ ts) all = tt
  after_array_within (Token.null ∷ ts) all = tt
  after_array_within (Token.bad ∷ ts) all = tt

  key_within : Reads (λ k. ⊤) read_key
  key_within [] all = tt
  key_within (Token.begin_object ∷ ts) all = tt
  key_within (Token.end_object ∷ ts) all = (tt, all.1)
  key_within (Token.begin_array ∷ ts) all = tt
  key_within (Token.end_array ∷ ts) all = tt
  key_within (Token.key s ∷ ts) all = (tt, all.1)
  key_within (Token.string s ∷ ts) all = tt
  key_within (Token.number s ∷ ts) all = tt
  key_within (Token.boolean b ∷ ts) all = tt
  key_within (Token.null ∷ ts) all = tt
  key_within (Token.bad ∷ ts) all = tt

  module _ (value : Parse json.Json) (reads : Reads JsonIsWithin value) where
    item_turn : (more : Parse json.Items) → Reads ListIsWithin more → (ts : List Token) → AreWithin n ts → (end : Option (List Token)) → IfSome end (AreWithin n)
        → Gives ListIsWithin (items_step value more ts end)
    item_turn more again ts all (Some rest) after = (tt, after)
    item_turn more again ts all None after = and_more ListIsWithin json.item (λ j js here rest. (here, rest)) more again (value ts) (reads ts all)

    items_within : (turns : ℕ) → Reads ListIsWithin (json.items value turns)
    unfolding json.items
    items_within zero ts all = tt
    items_within (suc turns) ts all = item_turn (json.items value turns) (items_within turns) ts all (after_end_array ts) (after_array_within ts all)

    member_turn : (more : Parse json.Members) → Reads ObjectIsWithin more → (read : Option (Option (List ℕ) × List Token)) → Gives (λ k. ⊤) read
        → Gives ObjectIsWithin (option_and_then (λ r. members_step value more r.0 r.1) read)
    member_turn more again None holds = tt
    member_turn more again (Some (None, ts)) holds = (tt, holds.1)
    member_turn more again (Some (Some k, ts)) holds = and_more ObjectIsWithin (json.member k) (λ j ms here rest. (here, rest)) more again (value ts) (reads ts holds.1)

    members_within : (turns : ℕ) → Reads ObjectIsWithin (json.members value turns)
    unfolding json.members
    members_within zero ts all = tt
    members_within (suc turns) ts all = member_turn (json.members value turns) (members_within turns) (read_key ts) (key_within ts all)

  level_within : (a : Parse json.Items) (o : Parse json.Members) → Reads ListIsWithin a → Reads ObjectIsWithin o → Reads JsonIsWithin (value_with a o)
  level_within a o items members [] all = tt
  level_within a o items members (Token.begin_object ∷ ts) all = made ObjectIsWithin JsonIsWithin json.object (λ ms holds. holds) (o ts) (members ts all.1)
  level_within a o items members (Token.end_object ∷ ts) all = tt
  level_within a o items members (Token.begin_array ∷ ts) all = made ListIsWithin JsonIsWithin json.array (λ js holds. holds) (a ts) (items ts all.1)
  level_within a o items members (Token.end_array ∷ ts) all = tt
  level_within a o items members (Token.key s ∷ ts) all = tt
  level_within a o items members (Token.string s ∷ ts) all = all
  level_within a o items members (Token.number s ∷ ts) all = (tt, all.1)
  level_within a o items members (Token.boolean b ∷ ts) all = (tt, all.1)
  level_within a o items members (Token.null ∷ ts) all = (tt, all.1)
  level_within a o items members (Token.bad ∷ ts) all = tt

  value_within : (depth : ℕ) → Reads JsonIsWithin (json.value depth)
  unfolding json.value
  value_within zero = level_within (λ ts. None) (λ ts. None) (λ ts all. tt) (λ ts all. tt)
  value_within (suc depth) =
      level_within (λ ts. json.items (json.value depth) (length ts) ts) (λ ts. json.members (json.value depth) (length ts) ts)
      (λ ts. items_within (json.value depth) (value_within depth) (length ts) ts)
      (λ ts. members_within (json.value depth) (value_within depth) (length ts) ts)

  last_within : (read : Option (json.Json × List Token)) → Gives JsonIsWithin read → IfSome (option_and_then (λ r. json.if_last r.0 r.1) read) JsonIsWithin
  last_within None holds = tt
  last_within (Some (j, [])) holds = holds.0
  last_within (Some (j, t ∷ ts)) holds = tt

  -- ---- the value

  -- each string in the value, its keys aside, has at most so many bytes
  abbrev mutual
    pub IsWithin : Data → Type 0
    IsWithin null = ⊤
    IsWithin (boolean b) = ⊤
    IsWithin (number x) = ⊤
    IsWithin (string s) = length s ≤ n
    IsWithin (array ds) = ItemsAreWithin ds
    IsWithin (object ms) = MembersAreWithin ms

    pub ItemsAreWithin : Items → Type 0
    ItemsAreWithin no_items = ⊤
    ItemsAreWithin (item d ds) = IsWithin d × ItemsAreWithin ds

    pub MembersAreWithin : Members → Type 0
    MembersAreWithin no_members = ⊤
    MembersAreWithin (member k d ms) = IsWithin d × MembersAreWithin ms

  ordered : (o : Ordering) (a b c : Members) → MembersAreWithin a → MembersAreWithin b → MembersAreWithin c → MembersAreWithin (match_ordering o a b c)
  ordered Less a b c less equal greater = less
  ordered Equal a b c less equal greater = equal
  ordered Greater a b c less equal greater = greater

  put_within : (k : List ℕ) (d : Data) (ms : Members) → IsWithin d → MembersAreWithin ms → MembersAreWithin (put k d ms)
  put_within k d no_members here all = (here, tt)
  put_within k d (member l e ms) here all =
      ordered _ (member k d (member l e ms)) (member l d ms) (member l e (put k d ms)) (here, all) (here, all.1) (all.0, put_within k d ms here all.1)

  mutual
    of_json_within : (j : json.Json) → JsonIsWithin j → IfSome (of_json j) IsWithin
    of_json_within json.null holds = tt
    of_json_within (json.boolean b) holds = tt
    of_json_within (json.number s) holds = mapped (λ x. ⊤) IsWithin number (λ x held. tt) (number_of s) (any (number_of s))
    of_json_within (json.string s) holds = holds
    of_json_within (json.array js) holds = mapped ItemsAreWithin IsWithin array (λ ds held. held) (of_items js) (of_items_within js holds)
    of_json_within (json.object ms) holds =
        mapped MembersAreWithin IsWithin object (λ all held. held) (of_members ms no_members) (of_members_within ms no_members holds tt)

    of_items_within : (js : json.Items) → ListIsWithin js → IfSome (of_items js) ItemsAreWithin
    of_items_within json.no_items holds = tt
    of_items_within (json.item j js) holds =
        next IsWithin ItemsAreWithin (λ d. option_map (item d) (of_items js))
        (λ d here. mapped ItemsAreWithin ItemsAreWithin (item d) (λ ds rest. (here, rest)) (of_items js) (of_items_within js holds.1))
        (of_json j) (of_json_within j holds.0)

    of_members_within : (ms : json.Members) (found : Members) → ObjectIsWithin ms → MembersAreWithin found → IfSome (of_members ms found) MembersAreWithin
    of_members_within json.no_members found holds held = held
    of_members_within (json.member k j ms) found holds held =
        next IsWithin MembersAreWithin (λ d. of_members ms (put k d found)) (λ d here. of_members_within ms (put k d found) holds.1 (put_within k d found here held))
        (of_json j) (of_json_within j holds.0)

  -- ---- its parts

  met : (o : Ordering) (a b c : Option Data) → IfSome a IsWithin → IfSome b IsWithin → IfSome c IsWithin → IfSome (match_ordering o a b c) IsWithin
  met Less a b c less equal greater = less
  met Equal a b c less equal greater = equal
  met Greater a b c less equal greater = greater

  get_member_within : (k : List ℕ) (ms : Members) → MembersAreWithin ms → IfSome (get_member k ms) IsWithin
  get_member_within k no_members all = tt
  get_member_within k (member l e ms) all = met _ (get_member k ms) (Some e) (get_member k ms) (get_member_within k ms all.1) all.0 (get_member_within k ms all.1)

  pub get_within : (k : List ℕ) (d : Data) → IsWithin d → IfSome (get k d) IsWithin
  get_within k null all = tt
  get_within k (boolean b) all = tt
  get_within k (number x) all = tt
  get_within k (string s) all = tt
  get_within k (array ds) all = tt
  get_within k (object ms) all = get_member_within k ms all

  pub as_array_within : (d : Data) → IsWithin d → IfSome (as_array d) ItemsAreWithin
  as_array_within null all = tt
  as_array_within (boolean b) all = tt
  as_array_within (number x) all = tt
  as_array_within (string s) all = tt
  as_array_within (array ds) all = all
  as_array_within (object ms) all = tt

  as_str_within : (d : Data) → IsWithin d → IfSome (as_str d) (λ s. length s ≤ n)
  as_str_within null all = tt
  as_str_within (boolean b) all = tt
  as_str_within (number x) all = tt
  as_str_within (string s) all = all
  as_str_within (array ds) all = tt
  as_str_within (object ms) all = tt

  -- a text has no more characters than bytes
  pub text_of_within : (d : Data) → IsWithin d → IfSome (text_of (Some d)) (λ s. length s ≤ n)
  text_of_within d all = mapped (λ s. length s ≤ n) (λ s. length s ≤ n) chars (λ s short. omega (arith, chars-le s)) (as_str d) (as_str_within d all)

-- ---- the bytes

read_within : (text : List ℕ) → IfSome (read text) (IsWithin (length text))
read_within text =
    let n = length text in
    next (JsonIsWithin n) (IsWithin n) of_json (of_json_within n) (option_and_then (λ p. json.if_last p.0 p.1) (json.value max_depth (tokens text)))
    (last_within n (json.value max_depth (tokens text)) (value_within n max_depth (tokens text) (tokens_within text)))

-- each string in the value that bytes are read as is no longer than the bytes
pub json_of_within : (bytes : List ℕ) → IfSome (json_of bytes) (IsWithin (length bytes))
unfolding json_of
json_of_within bytes = by (is_utf8 bytes)
  where
    by : (b : Bool) → IfSome (if b then read bytes else None) (IsWithin (length bytes))
    by true = read_within bytes
    by false = tt
