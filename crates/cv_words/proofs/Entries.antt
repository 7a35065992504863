-- What a parse that succeeds has found for an argument that takes a value: a text that passed the argument's parser.
use Rattle.std.proofs.Common.{◌≡◌, ◌⊎◌, ◌<◌, ◌≤◌, ◌∙◌, ℕ, zero, suc, Bool, true, false, List, [], ◌∷◌, length, Option, Some, None, is_some, ap, sym, subst, refl, inl, inr, arith}
use Rattle.std.specs.Prelude.{find, option_and_then, option_map, slice_get}
use Rattle.std.specs.Borrow.{Bor}
use Rattle.std.specs.List.{All, slice_index_or}
use Rattle.std.specs.Str.{bytes_eq}
use Rattle.std.proofs.lemmas.List.Elements.{All-get_or}
use Rattle.std.proofs.lemmas.Slice.Eq.{bytes_eq-Decides}
use Rattle.clap.specs.Words.{Accepts, IsParsed, IsParsedFrom, SameRules, Text, args_of, first_value, found_of, groups_of, has_subcommand, parser_of}
use Rattle.clap.specs.Built.{IsAuto}
use Rattle.clap.specs.Facts.{Entry, EntryPasses, HasIn, IsFilledEntry, PassesArg, least_values, parser_of_value}
use Rattle.clap.specs.Matches.{matched_of}
use Rattle.clap.specs.declared.builder.action.ArgAction.TheVariants.{Count, Set}
use Rattle.clap.specs.declared.builder.arg.Arg.{Arg}
use Rattle.clap.specs.declared.builder.command.Command.{Command}
use Rattle.clap.specs.declared.builder.value_parser.ValueParser.{ValueParser}
use Rattle.clap.specs.declared.parser.matches.ArgMatches.{ArgMatches}
use Rattle.clap.specs.declared.parser.matches.MatchedArg.{MatchedArg}
use Rattle.clap.proofs.CallerLemmas.{entry_by_id, same_rules_by_id}

-- an entry that is there is found
pub found_entry : (xs : List Entry) (id : Text) → HasIn xs id
    → is_some (option_map (λ e. e.1) (find (λ e. bytes_eq e.0.now id) xs)) ≡ true
found_entry [] id has = absurd (let h = has.1 in omega arith)
found_entry (x ∷ xs) id has = go (bytes_eq x.0.now id) refl (found_entry xs id) has.0 has.1 has.2
  where
    go : (t : Bool) → bytes_eq x.0.now id ≡ t
        → (HasIn xs id → is_some (option_map (λ e. e.1) (find (λ e. bytes_eq e.0.now id) xs)) ≡ true)
        → (i : ℕ) → i < length (x ∷ xs)
        → ((d : Entry) → bytes_eq (slice_index_or (x ∷ xs) i d).0.now id ≡ true)
        → is_some (option_map (λ e. e.1) (find (λ e. bytes_eq e.0.now id) (x ∷ xs))) ≡ true
    go true t rest i lt at = rw t refl
    go false t rest zero lt at =
        let here : bytes_eq x.0.now id ≡ true = at x in
        cc
    go false t rest (suc i) lt at = rw t (rest (i, omega arith, at))

-- What is known of an argument of the caller's: it takes a value, and its id is its own.
pub record TakesOne (old : Command) (k : ℕ) (a : Arg) (q : ValueParser) : Type 0 where
  pub place : (d : Arg) → slice_index_or (args_of old) k d ≡ a
  pub within : k < length (args_of old)
  pub action : a.action ≡ Some Set
  pub delimiter : a.val_delim ≡ None
  pub least : 1 ≤ least_values a
  pub unique : (j : ℕ) (e : Arg) → j < length (args_of old) → bytes_eq (slice_index_or (args_of old) j e).id.now a.id.now ≡ true → j ≡ k
  pub named : a.id.now ≡ [] → ⊥
  pub own : IsAuto a → ⊥
  pub parser : a.value_parser ≡ Some q

-- an argument with that id in the built command has its rules
rules_of_id : (old : Command) (m : ArgMatches) (p : IsParsedFrom old m) (k : ℕ) (a : Arg) (q : ValueParser) → TakesOne old k a q
    → (j : ℕ) (x : Arg) → j < length (args_of p.built) → slice_index_or (args_of p.built) j x ≡ x → bytes_eq x.id.now a.id.now ≡ true
    → SameRules a x
rules_of_id old m p k a q takes j x lt at same =
    let place = takes.place a in
    let b = slice_index_or (args_of old) k a in
    let unique : (i : ℕ) (e : Arg) → i < length (args_of old) → bytes_eq (slice_index_or (args_of old) i e).id.now b.id.now ≡ true → i ≡ k =
    λ i e low h. takes.unique i e low (rw place at h) in
    let own : IsAuto b → ⊥ = λ auto. takes.own (subst IsAuto place auto) in
    let rules = same_rules_by_id old m p k a takes.within unique own j x lt at (rw place same) in
    subst (λ (y : Arg). SameRules y x) place rules

-- a value of that id passed its parser
passes_own : (old : Command) (m : ArgMatches) (p : IsParsedFrom old m) (k : ℕ) (a : Arg) (q : ValueParser) → TakesOne old k a q
    → (t : Text) → PassesArg p.built a.id.now t → Accepts a.ignore_case q t
passes_own old m p k a q takes t any =
    let s = rules_of_id old m p k a q takes any.0 any.1 any.2 any.3 any.4.0 in
    let is_q : parser_of any.1 ≡ q = ap parser_of_value (s.parser q takes.parser) in
    let as_q : Accepts any.1.ignore_case q t = subst (λ (w : ValueParser). Accepts any.1.ignore_case w t) is_q any.4.1 in
    subst (λ (b : Bool). Accepts b q t) s.ignore_case as_q

-- the first of the values, which there is
first_passes : (P : Bor Text → Type 0) (vs : List (Bor Text)) → 0 < length vs → All P vs
    → (v : Bor Text) × (option_map (λ s. s.now) (slice_get vs 0) ≡ Some v.now) × P v
first_passes P [] lt all = absurd (omega arith)
first_passes P (v ∷ vs) lt all = (v, refl, All-get_or P (v ∷ vs) 0 v (omega arith) all)

-- the entry of the id has values, which all passed
has_values : (old : Command) (m : ArgMatches) (p : IsParsedFrom old m) (k : ℕ) (a : Arg) (q : ValueParser) → TakesOne old k a q
    → groups_of p.built ≡ [] → (e : Entry) → e.0.now ≡ a.id.now → EntryPasses p.built e
    → (0 < length e.1.vals.items) × All (λ v. PassesArg p.built a.id.now v.now) e.1.vals.items
has_values old m p k a q takes no_groups e key passes = (filled passes.1, pass passes.0)
  where
    not_group : e.1.is_group ≡ true → ⊥
    not_group g = elim (passes.3 g) [
      | inl empty ↦ takes.named (sym key ∙ empty)
      | inr lots ↦
          let bad : 0 < 0 = rw no_groups at lots in
          omega arith
    ]

    pass : (e.1.is_group ≡ true) ⊎ All (λ v. PassesArg p.built e.0.now v.now) e.1.vals.items
        → All (λ v. PassesArg p.built a.id.now v.now) e.1.vals.items
    pass (inl g) = absurd (not_group g)
    pass (inr all) = subst (λ (w : Text). All (λ v. PassesArg p.built w v.now) e.1.vals.items) key all

    filled : IsFilledEntry p.built e → 0 < length e.1.vals.items
    filled (inl h) = absurd (not_group h.0)
    filled (inr (inl some)) = some
    filled (inr (inr (inl h))) =
        let any = h.1 in
        let s = rules_of_id old m p k a q takes any.0 any.1 any.2 any.3 (rw key at any.4.0) in
        let is_set : any.1.action ≡ Some Set = s.action Set takes.action in
        let bad : Set ≡ Count = rw is_set at any.4.1 in
        cc
    filled (inr (inr (inr h))) =
        let s = rules_of_id old m p k a q takes h.0 h.1 h.2 h.3 (rw key at h.4.0) in
        elim h.4.1 [
          | inl none ↦
              let one = s.least takes.action takes.least in
              absurd (omega arith)
          | inr has ↦
              let bad : false ≡ true = rw (s.val_delim, takes.delimiter) at has in
              cc
        ]

-- where the id has an entry, its text is there and passed its parser
pub accepted_text : (old : Command) (m : ArgMatches) (p : IsParsedFrom old m) (k : ℕ) (a : Arg) (q : ValueParser) → TakesOne old k a q
    → groups_of p.built ≡ [] → IsParsed p.built (found_of m) (has_subcommand m)
    → is_some (matched_of (found_of m) a.id.now) ≡ true
    → (t : Text) × (first_value (found_of m) a.id.now ≡ Some t) × Accepts a.ignore_case q t
accepted_text old m p k a q takes no_groups parsed has = go (matched_of (found_of m) a.id.now) refl has
  where
    value_of : Option MatchedArg → Option Text
    value_of = option_and_then (λ x. option_map (λ s. s.now) (slice_get x.vals.items 0))

    go : (o : Option MatchedArg) → matched_of (found_of m) a.id.now ≡ o → is_some (matched_of (found_of m) a.id.now) ≡ true
        → (t : Text) × (first_value (found_of m) a.id.now ≡ Some t) × Accepts a.ignore_case q t
    go None found some =
        let bad : false ≡ true = rw found at some in
        cc
    go (Some x) found some =
        let got = entry_by_id (EntryPasses p.built) (found_of m).entries.items a.id.now x parsed.values found in
        let key : got.0.0.now ≡ a.id.now = (bytes_eq-Decides got.0.0.now a.id.now).0 got.2 in
        let values = has_values old m p k a q takes no_groups got.0 key got.3 in
        let first = first_passes (λ v. PassesArg p.built a.id.now v.now) got.0.1.vals.items values.0 values.1 in
        let P : MatchedArg → Type 0 = λ y. option_map (λ s. s.now) (slice_get y.vals.items 0) ≡ Some first.0.now in
        let text = subst P got.1 first.1 in
        (first.0.now, ap value_of found ∙ text, passes_own old m p k a q takes first.0.now first.2)
