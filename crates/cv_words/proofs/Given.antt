-- A parse of the command that succeeds has a text for each argument, which passed the argument's parser.
use Rattle.std.proofs.Common.{◌≡◌, ◌<◌, ◌≤◌, ◌∙◌, ◌||◌, ℕ, zero, suc, Bool, true, false, List, [], ◌∷◌, length, map, codes, Some, None, is_some, ap, sym, subst, refl, inl, inr, arith, slice_index}
use Rattle.std.specs.Borrow.{Bor}
use Rattle.std.specs.List.{list_all, list_any, slice_index_or}
use Rattle.std.specs.Str.{bytes_eq}
use Rattle.std.proofs.lemmas.List.{length-map}
use Rattle.std.proofs.lemmas.Slice.Eq.{bytes_eq-Decides}
use Rattle.clap.specs.Words.{Accepts, App, IsParsedFrom, IsPlain, Rule, Text, app_of, args_of, first_value, found_of, rule_of, shape_of}
use Rattle.clap.specs.Facts.{HasId, WantsDefault, least_values, unwrap_or_range}
use Rattle.clap.specs.Matches.{matched_of}
use Rattle.clap.specs.Texts.{items_of}
use Rattle.clap.specs.Simple.{HasReadyLeaves, IsSimple, is_ready, is_ready_leaf}
use Rattle.clap.specs.Faults.{has_free_rules}
use Rattle.clap.specs.declared.builder.action.ArgAction.TheVariants.{Set}
use Rattle.clap.specs.declared.builder.arg.Arg.{Arg}
use Rattle.clap.specs.declared.builder.command.Command.{Command}
use Rattle.clap.specs.declared.builder.command.Command.TheViews.{out-Command}
use Rattle.clap.specs.declared.builder.value_parser.ValueParser.{ValueParser}
use Rattle.clap.specs.declared.builder.value_parser.ValueParser.TheVariants.{Names, Unsigned}
use Rattle.clap.specs.declared.parser.matches.ArgMatches.{ArgMatches}
use Rattle.clap.proofs.CallerLemmas.{default_present, present_has_entry, required_present}
use Rattle.clap.proofs.FaultLemmas.{free_args}
use Rattle.clap.proofs.SimpleLemmas.{ready_simple, simple_groups}
use Rattle.clap.proofs.WalkLemmas.{list_any-map}
use Rattle.clap.proofs.OnLiterals.{clap_on_literals}
use Rattle.cv_words.proofs.Entries.{TakesOne, accepted_text, found_entry}
use Rattle.cv_words.specs.Command.{Choices, HasJobs, command_of, job_rule, limit_rule, size_rule}
use Rattle.cv_words.specs.Words.{IsGiven, MayGiveJob, MayGiveNumber, job_named}
use Rattle.cv_words.specs.declared.words.Job.{Job}
use Rattle.cv_words.specs.declared.words.Job.TheVariants.{Compute, Reify, Gen}

-- the three elements of a list, as f sees them
record Three {X Y : Type 0} (f : X → Y) (xs : List X) (r s t : Y) : Type 0 where
  a : X
  b : X
  c : X
  list : xs ≡ a ∷ b ∷ c ∷ []
  is_a : f a ≡ r
  is_b : f b ≡ s
  is_c : f c ≡ t

three : {X Y : Type 0} (f : X → Y) (xs : List X) (r s t : Y) → map f xs ≡ r ∷ s ∷ t ∷ [] → Three f xs r s t
three f [] r s t e = cc
three f (a ∷ []) r s t e = cc
three f (a ∷ b ∷ []) r s t e = cc
three f (a ∷ b ∷ c ∷ []) r s t e = record { a = a; b = b; c = c; list = refl; is_a = cc; is_b = cc; is_c = cc }
three f (a ∷ b ∷ c ∷ d ∷ rest) r s t e = cc

-- the command is simple, and nothing in it excludes anything
record IsPlainCommand (c : Command) : Type 0 where
  simple : IsSimple c
  plain : IsPlain c

is_ready_app : (names : Choices) → is_ready (command_of names).top ≡ true
unfolding clap_on_literals
is_ready_app names = refl

ready_leaves : (names : Choices) → list_all is_ready_leaf (command_of names).subs ≡ true
ready_leaves names = refl

free_rules : (names : Choices) → has_free_rules (command_of names).top ≡ true
free_rules names = refl

all_simple_rules : (names : Choices) → list_all (λ (a : Rule). a.is_simple) (command_of names).top.rules ≡ true
all_simple_rules names = refl

plain_command : (c : Command) (names : Choices) → app_of c ≡ command_of names → IsPlainCommand c
plain_command c names same =
    let ready : is_ready (shape_of c) ≡ true = ap (λ (a : App). is_ready a.top) same ∙ is_ready_app names in
    let leaves : HasReadyLeaves c = ap (λ (a : App). list_all is_ready_leaf a.subs) same ∙ ready_leaves names in
    let simple = ready_simple c ready leaves in
    let free = free_args c simple (ap (λ (a : App). has_free_rules a.top) same ∙ free_rules names) in
    let groups = simple_groups c (ap (λ (a : App). list_all (λ (r : Rule). r.is_simple) a.top.rules) same ∙ all_simple_rules names) in
    record {
      simple = simple;
      plain = (
        λ k d lt. ((free k d lt).exclusive, (free k d lt).conflicts, (free k d lt).overrides, groups k d lt),
        simple.groups,
      );
    }

-- ---- the arguments by their rules

id_at : ℕ → Text
id_at zero = codes "job"
id_at (suc zero) = codes "limit"
id_at (suc (suc n)) = codes "size"

distinct : (j k : ℕ) → j < 3 → k < 3 → bytes_eq (id_at j) (id_at k) ≡ true → j ≡ k
unfolding id_at
distinct zero zero u v e = refl
distinct zero (suc zero) u v e = cc
distinct zero (suc (suc k)) u v e = cc
distinct (suc zero) zero u v e = cc
distinct (suc zero) (suc zero) u v e = refl
distinct (suc zero) (suc (suc k)) u v e = cc
distinct (suc (suc j)) zero u v e = cc
distinct (suc (suc j)) (suc zero) u v e = cc
distinct (suc (suc j)) (suc (suc k)) u v e = omega arith

-- no other argument has this id
record IsOwnId (id : Text) : Type 0 where
  named : id ≡ [] → ⊥
  help : id ≡ codes "help" → ⊥
  version : id ≡ codes "version" → ⊥

own_id : (k : ℕ) → IsOwnId (id_at k)
unfolding id_at
own_id zero = record {
  named = λ e. let h = ap (λ t. slice_index t 0) e in omega arith;
  help = λ e. let h = ap (λ t. slice_index t 0) e in omega arith;
  version = λ e. let h = ap (λ t. slice_index t 0) e in omega arith;
}
own_id (suc zero) = record {
  named = λ e. let h = ap (λ t. slice_index t 0) e in omega arith;
  help = λ e. let h = ap (λ t. slice_index t 0) e in omega arith;
  version = λ e. let h = ap (λ t. slice_index t 0) e in omega arith;
}
own_id (suc (suc k)) = record {
  named = λ e. let h = ap (λ t. slice_index t 0) e in omega arith;
  help = λ e. let h = ap (λ t. slice_index t 0) e in omega arith;
  version = λ e. let h = ap (λ t. slice_index t 0) e in omega arith;
}

-- the argument at place k of the command
record IsArgAt (c : Command) (k : ℕ) (a : Arg) (r : Rule) : Type 0 where
  place : (d : Arg) → slice_index_or (args_of c) k d ≡ a
  is : rule_of a ≡ r
  small : k < 3
  three : length (args_of c) ≡ 3
  ids : (j : ℕ) (e : Arg) → j < 3 → (slice_index_or (args_of c) j e).id.now ≡ id_at j

takes_one : (c : Command) (k : ℕ) (a : Arg) (r : Rule) (q : ValueParser) → IsSimple c → IsArgAt c k a r
    → r.id ≡ id_at k → r.action ≡ Some Set → r.range ≡ None → r.parser ≡ Some q → TakesOne c k a q
takes_one c k a r q simple arg id set range parser =
    let here : k < length (args_of c) = rw arg.three arg.small in
    let id_is : a.id.now ≡ id_at k = ap (λ (x : Rule). x.id) arg.is ∙ id in
    let least : least_values a ≡ 1 =
    ap (λ (x : Rule). (unwrap_or_range x.range).start_inclusive) arg.is ∙ ap (λ x. (unwrap_or_range x).start_inclusive) range in
    let own = own_id k in
    record {
      place = arg.place;
      within = here;
      action = ap (λ (x : Rule). x.action) arg.is ∙ set;
      delimiter = ap (λ (x : Arg). x.val_delim) (sym (arg.place a)) ∙ (simple.args k a here).delimiter;
      least = omega arith;
      unique = λ j e low same.
          let small : j < 3 = rw arg.three at low in
          let one : bytes_eq (id_at j) a.id.now ≡ true = rw (arg.ids j e small) at same in
          distinct j k small arg.small (rw id_is at one);
      named = λ e. own.named (sym id_is ∙ e);
      own = λ auto. elim auto [ inl h ↦ own.help (sym id_is ∙ h) | inr h ↦ own.version (sym id_is ∙ h) ];
      parser = ap (λ (x : Rule). x.parser) arg.is ∙ parser;
    }

-- the three arguments of the command, at their places
record HasArgs (c : Command) (names : Choices) : Type 0 where
  job : Arg
  limit : Arg
  size : Arg
  at_job : IsArgAt c 0 job (job_rule names)
  at_limit : IsArgAt c 1 limit limit_rule
  at_size : IsArgAt c 2 size size_rule

has_args : (c : Command) (names : Choices) → app_of c ≡ command_of names → HasArgs c names
unfolding id_at
has_args c names same =
    let rules : map rule_of (args_of c) ≡ job_rule names ∷ limit_rule ∷ size_rule ∷ [] = ap (λ (a : App). a.top.rules) same in
    let found = three rule_of (args_of c) (job_rule names) limit_rule size_rule rules in
    let one = ap length found.list in
    let ids : (j : ℕ) (e : Arg) → j < 3 → (slice_index_or (args_of c) j e).id.now ≡ id_at j =
    λ j e small. ap (λ (xs : List Arg). (slice_index_or xs j e).id.now) found.list ∙ id_in found j e small in
    record {
      job = found.a;
      limit = found.b;
      size = found.c;
      at_job = record {
        place = λ d. ap (λ (xs : List Arg). slice_index_or xs 0 d) found.list;
        is = found.is_a;
        small = omega arith;
        three = one;
        ids = ids;
      };
      at_limit = record {
        place = λ d. ap (λ (xs : List Arg). slice_index_or xs 1 d) found.list;
        is = found.is_b;
        small = omega arith;
        three = one;
        ids = ids;
      };
      at_size = record {
        place = λ d. ap (λ (xs : List Arg). slice_index_or xs 2 d) found.list;
        is = found.is_c;
        small = omega arith;
        three = one;
        ids = ids;
      };
    }
  where
    id_in : (found : Three rule_of (args_of c) (job_rule names) limit_rule size_rule) (j : ℕ) (e : Arg) → j < 3
        → (slice_index_or (found.a ∷ found.b ∷ found.c ∷ []) j e).id.now ≡ id_at j
    id_in found zero e small = ap (λ (x : Rule). x.id) found.is_a
    id_in found (suc zero) e small = ap (λ (x : Rule). x.id) found.is_b
    id_in found (suc (suc zero)) e small = ap (λ (x : Rule). x.id) found.is_c
    id_in found (suc (suc (suc j))) e small = absurd (omega arith)

-- ---- what a parse gives

negates : (c : Command) (names : Choices) → app_of c ≡ command_of names → (out-Command c).subcommand_negates_reqs ≡ false
negates c names same = ap (λ (a : App). a.top.subcommand_negates_reqs) same

-- an option with a default has a number in its range
option_given : (c : Command) (m : ArgMatches) (p : IsParsedFrom c m) (k : ℕ) (a : Arg) (r : Rule) (id : Text) (most : ℕ)
    → IsPlainCommand c → IsArgAt c k a r → TakesOne c k a (Unsigned 1 most) → r.id ≡ id → 1 ≤ length r.defaults
    → MayGiveNumber (found_of m) id most
option_given c m p k a r id most plain arg takes is_id some =
    let simple = plain.simple.args k a takes.within in
    let wants : WantsDefault (slice_index_or (args_of c) k a) = (
      simple.default_ifs,
      rw arg.place (let count = ap (λ (x : Rule). length x.defaults) arg.is in let all = length-map (items_of a.default_vals) (λ s. s.now) in omega arith),
    ) in
    let entry : HasId (found_of m) a.id.now = subst (λ (x : Arg). HasId (found_of m) x.id.now) (arg.place a) (default_present c m p plain.simple.globals k a takes.within wants) in
    let got = accepted_text c m p k a (Unsigned 1 most) takes (p.from.plain plain.plain).1 (p.parsed (p.from.globals ∙ plain.simple.globals))
    (found_entry (found_of m).entries.items a.id.now entry) in
    let named : a.id.now ≡ id = ap (λ (x : Rule). x.id) arg.is ∙ is_id in
    record {
      text = got.0;
      given = subst (λ (t : Text). first_value (found_of m) t ≡ Some got.0) named got.1;
      numeral = got.2;
    }

-- a name among those of the jobs is a job's
pub named_job : (names : Choices) (t : Text) → HasJobs names → Accepts false (Names names) t → (job : Job) × (job_named t ≡ Some job)
named_job names t jobs accepted = among (bytes_eq (codes "compute") t) (bytes_eq (codes "reify") t) (bytes_eq (codes "gen") t) refl refl refl
    (ap (list_any (λ (n : Text). bytes_eq n t)) (sym jobs) ∙ sym (list_any-map (λ (n : Text). bytes_eq n t) (λ (n : Bor Text). n.now) names.now) ∙ accepted)
  where
    is : (name : Text) (job : Job) → job_named name ≡ Some job → bytes_eq name t ≡ true → (job : Job) × (job_named t ≡ Some job)
    is name job named same = (job, subst (λ (u : Text). job_named u ≡ Some job) ((bytes_eq-Decides name t).0 same) named)

    among : (a b c : Bool) → bytes_eq (codes "compute") t ≡ a → bytes_eq (codes "reify") t ≡ b → bytes_eq (codes "gen") t ≡ c
        → bytes_eq (codes "compute") t || (bytes_eq (codes "reify") t || (bytes_eq (codes "gen") t || false)) ≡ true → (job : Job) × (job_named t ≡ Some job)
    among true b c first second third one = is (codes "compute") Compute refl first
    among false true c first second third one = is (codes "reify") Reify refl second
    among false false true first second third one = is (codes "gen") Gen refl third
    among false false false first second third one = absurd (let no : false ≡ true = sym (rw (first, second, third) refl) ∙ one in cc)

job_given : (c : Command) (names : Choices) (m : ArgMatches) (p : IsParsedFrom c m) (a : Arg)
    → HasJobs names → app_of c ≡ command_of names → IsPlainCommand c → IsArgAt c 0 a (job_rule names) → TakesOne c 0 a (Names names)
    → MayGiveJob (found_of m)
job_given c names m p a jobs same plain arg takes =
    let required : (slice_index_or (args_of c) 0 a).required ≡ true =
    ap (λ (x : Arg). x.required) (arg.place a) ∙ ap (λ (x : Rule). x.required) arg.is in
    let used = required_present c m p plain.plain plain.simple.globals (negates c names same) 0 a takes.within required in
    let entry = subst (λ (x : Arg). is_some (matched_of (found_of m) x.id.now) ≡ true) (arg.place a) (present_has_entry (found_of m) _ used) in
    let got = accepted_text c m p 0 a (Names names) takes (p.from.plain plain.plain).1 (p.parsed (p.from.globals ∙ plain.simple.globals)) entry in
    let cased : a.ignore_case ≡ false = ap (λ (x : Rule). x.ignore_case) arg.is in
    let named : a.id.now ≡ codes "job" = ap (λ (x : Rule). x.id) arg.is in
    let job = named_job names got.0 jobs (subst (λ (b : Bool). Accepts b (Names names) got.0) cased got.2) in
    (job.0, (got.0, subst (λ (t : Text). first_value (found_of m) t ≡ Some got.0) named got.1, job.1))

-- each argument has a text that its parser takes
pub given : (c : Command) (names : Choices) (m : ArgMatches) → HasJobs names → app_of c ≡ command_of names → IsParsedFrom c m
    → IsGiven (found_of m)
unfolding id_at
given c names m jobs same p =
    let plain = plain_command c names same in
    let args = has_args c names same in
    record {
      job = job_given c names m p args.job jobs same plain args.at_job
          (takes_one c 0 args.job (job_rule names) (Names names) plain.simple args.at_job refl refl refl refl);
      limit = option_given c m p 1 args.limit limit_rule (codes "limit") 32768 plain args.at_limit
          (takes_one c 1 args.limit limit_rule (Unsigned 1 32768) plain.simple args.at_limit refl refl refl refl) refl (omega arith);
      size = option_given c m p 2 args.size size_rule (codes "size") 4096 plain args.at_size
          (takes_one c 2 args.size size_rule (Unsigned 1 4096) plain.simple args.at_size refl refl refl refl) refl (omega arith);
    }
