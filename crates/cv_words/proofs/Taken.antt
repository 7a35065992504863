-- The command takes a line exactly where clap finds no fault in it.
use Rattle.std.proofs.Common.{◌≡◌, ◌≢◌, true≢false, ℕ, zero, suc, Bool, true, false, List, [], ◌∷◌, length, Option, Some, None, refl, sym, ◌∙◌, ap, ap₂, codes, arith, min}
use Rattle.std.specs.Prelude.{◌+◌, ◌&&◌, ◌||◌, not, is_some, encode_utf8, slice_get, drop, if◌then◌else◌, nat_le}
use Rattle.std.specs.Option.{option_map_or}
use Rattle.std.specs.Str.{bytes_eq, chars}
use Rattle.std.proofs.lemmas.Bool.Decides.{eqb_tells, leb_tells}
use Rattle.clap.specs.Facts.{parser_of_value, unwrap_or_range}
use Rattle.clap.specs.Faults.{action_fault, bundle_fault, bundle_step_fault, check_fault, count_fault, default_fault, defaults_fault, fault_of, flag_word_fault, flags_fault, given_default_fault, level_fault, long_fault, option_fault, other_fault, positional_fault, react_fault, repeat_fault, set_fault, settle_fault, short_fault, step_fault, stray_fault, turn_fault, use_fault, values_fault, walk_fault, word_fault}
use Rattle.clap.specs.Kinds.{Kinds, or_else, range_kinds, value_kinds}
use Rattle.clap.specs.Lexer.{long_of, short_of}
use Rattle.clap.specs.Matches.{count_text}
use Rattle.clap.specs.Simple.{Shape, built, entered}
use Rattle.clap.specs.Takes.{action_passes, bundle_passes, bundle_step_passes, count_passes, entered_passes, flag_word_passes, flags_pass, is_given, is_valid, level_passes, long_passes, option_passes, other_passes, positional_passes, react_passes, set_passes, settle_passes, short_passes, step_passes, takes, turn_passes, use_passes, value_passes, values_pass, walk_passes, word_passes}
use Rattle.clap.specs.Walk.{Held, Names, Row, Rule, Step, next, trailing, subcommand, value, Text, Waiting, Walk, action_of, arg_by_id, arg_by_index, arg_by_long, arg_by_short, attached_value, count_of, finished, has_row, is_empty, is_pending, most_values, nothing_held, reacted, settled, subcommand_met, takes_several, takes_values, values_or_missing, walk, walk_from, walked, with_default, word_met}
use Rattle.clap.specs.Values.{refused_kind}
use Rattle.clap.specs.declared.builder.action.ArgAction.{ArgAction}
use Rattle.clap.specs.declared.builder.action.ArgAction.TheVariants.{Append, Count, Help, HelpLong, HelpShort, Set, SetFalse, SetTrue, Version}
use Rattle.clap.specs.declared.error.kind.ErrorKind.{ErrorKind}
use Rattle.clap.specs.declared.error.kind.ErrorKind.TheVariants.{ArgumentConflict, DisplayHelp, InvalidSubcommand, MissingRequiredArgument, TooManyValues, UnknownArgument}
use Rattle.clap.proofs.OnLiterals.{clap_on_literals}
use Rattle.cv_words.specs.Command.{command_of}
use Rattle.cv_words.proofs.Faulted.{fault_at}
use Rattle.cv_words.proofs.Lent.{Lease, job, lent, limit, shape, size}

abbrev pub is_faultless : Kinds → Bool
is_faultless [] = true
is_faultless (k ∷ kinds) = false

pub no_fault : (kinds : Kinds) → is_faultless kinds ≡ true → kinds ≡ []
no_fault [] none = refl
no_fault (k ∷ kinds) none = absurd (true≢false (sym none))

pub has_fault : (kinds : Kinds) → kinds ≢ [] → is_faultless kinds ≡ false
has_fault [] some = absurd (some refl)
has_fault (k ∷ kinds) some = refl

pub is_fault : (kinds : Kinds) → is_faultless kinds ≡ false → kinds ≢ []
is_fault [] none = absurd (true≢false none)
is_fault (k ∷ kinds) none = λ same. cc

faultless_of_two : (one two : Kinds) → is_faultless (or_else one two) ≡ (is_faultless one && is_faultless two)
faultless_of_two [] two = refl
faultless_of_two (k ∷ one) two = refl

-- neither has a fault exactly where both pass
neither : (one two : Kinds) (p q : Bool) → is_faultless one ≡ p → is_faultless two ≡ q → is_faultless (or_else one two) ≡ (p && q)
neither one two p q first second = faultless_of_two one two ∙ ap₂ (λ x y. x && y) first second

none_unless : (test : Bool) (kind : ErrorKind) → is_faultless (if test then [] else kind ∷ []) ≡ test
none_unless true kind = refl
none_unless false kind = refl

none_or : (test : Bool) (kinds : Kinds) (p : Bool) → is_faultless kinds ≡ p → is_faultless (if test then [] else kinds) ≡ (test || p)
none_or true kinds p same = refl
none_or false kinds p same = same

none_where : (test : Bool) (x y : Kinds) (p q : Bool) → is_faultless x ≡ p → is_faultless y ≡ q → is_faultless (if test then x else y) ≡ (if test then p else q)
none_where true x y p q first second = first
none_where false x y p q first second = second

none_at : {X : Type 0} (f : X → Kinds) (g : X → Bool) → ((x : X) → is_faultless (f x) ≡ g x) → (o : Option X) → is_faultless (option_map_or f o []) ≡ option_map_or g o true
none_at f g each None = refl
none_at f g each (Some x) = each x

-- ---- one use of an argument

values_pass_where : (r : Rule) (values : List Text) → is_faultless (values_fault r values) ≡ values_pass r values
values_pass_where r [] = refl
values_pass_where r (v ∷ values) =
    neither (value_kinds r.ignore_case (parser_of_value r.parser) v) (values_fault r values) _ _
    (none_unless (value_passes r v) (refused_kind (parser_of_value r.parser))) (values_pass_where r values)

repeat_passes_where : (again : Bool) (id : Text) (rows : List Row) → is_faultless (repeat_fault again id rows) ≡ (not (has_row id rows) || again)
repeat_passes_where again id rows = go (has_row id rows) again
  where
    go : (has again : Bool) → is_faultless (if has && not again then ArgumentConflict ∷ [] else []) ≡ (not has || again)
    go true true = refl
    go true false = refl
    go false again = refl

set_passes_where : (again : Bool) (r : Rule) (values : List Text) (rows : List Row) → is_faultless (set_fault again r values rows) ≡ set_passes again r values rows
set_passes_where again r values rows =
    neither (repeat_fault again r.id rows) (values_fault r values) _ _ (repeat_passes_where again r.id rows) (values_pass_where r values)

count_passes_where : (r : Rule) (values : List Text) (rows : List Row) → is_faultless (count_fault r values rows) ≡ count_passes r values rows
count_passes_where r [] rows = none_unless (value_passes r (count_text (min (count_of r.id rows + 1) 255))) (refused_kind (parser_of_value r.parser))
count_passes_where r (v ∷ values) rows = values_pass_where r (v ∷ values)

action_passes_where : (action : ArgAction) (again : Bool) (r : Rule) (values : List Text) (rows : List Row)
    → is_faultless (action_fault action again r values rows) ≡ action_passes action again r values rows
action_passes_where Set again r values rows = set_passes_where again r values rows
action_passes_where SetTrue again r values rows = set_passes_where again r values rows
action_passes_where SetFalse again r values rows = set_passes_where again r values rows
action_passes_where Append again r values rows = values_pass_where r values
action_passes_where Count again r values rows = count_passes_where r values rows
action_passes_where Help again r values rows = refl
action_passes_where HelpShort again r values rows = refl
action_passes_where HelpLong again r values rows = refl
action_passes_where Version again r values rows = refl

range_passes_where : (least most n : ℕ) → is_faultless (range_kinds least most n) ≡ (nat_le least n && nat_le n most)
range_passes_where least most n = grind (arith, leb_tells, eqb_tells)

use_passes_where : (again : Bool) (r : Rule) (values : List Text) (rows : List Row) → is_faultless (use_fault again r values rows) ≡ use_passes again r values rows
use_passes_where again r values rows =
    let least = (unwrap_or_range r.range).start_inclusive in
    neither (range_kinds least (most_values r) (length values)) (action_fault (action_of r) again r (values_or_missing r values) rows) _ _
    (range_passes_where least (most_values r) (length values)) (action_passes_where (action_of r) again r (values_or_missing r values) rows)
    ∙ grouped (nat_le least (length values)) _ _
  where
    grouped : (p q s : Bool) → ((p && q) && s) ≡ (p && (q && s))
    grouped true q s = refl
    grouped false q s = refl

module _ (c : List Rule) (again : Bool) where
  settle_passes_where : (h : Held) → is_faultless (settle_fault c again h) ≡ settle_passes c again h
  settle_passes_where h =
      none_at (λ p. option_map_or (λ r. use_fault again r p.1 h.rows) (arg_by_id c p.0) []) (λ p. option_map_or (λ r. use_passes again r p.1 h.rows) (arg_by_id c p.0) true)
      (λ p. none_at (λ r. use_fault again r p.1 h.rows) (λ r. use_passes again r p.1 h.rows) (λ r. use_passes_where again r p.1 h.rows) (arg_by_id c p.0)) h.pending

  react_passes_where : (r : Rule) (values : List Text) (h : Held) → is_faultless (react_fault c again r values h) ≡ react_passes c again r values h
  react_passes_where r values h =
      neither (settle_fault c again h) (use_fault again r values (settled c h).rows) _ _ (settle_passes_where h) (use_passes_where again r values (settled c h).rows)

  -- ---- flags

  option_passes_where : (r : Rule) (v : Option Text) (h : Held) → is_faultless (option_fault c again r v h) ≡ option_passes c again r v h
  option_passes_where r (Some v) h = react_passes_where r (v ∷ []) h
  option_passes_where r None h = settle_passes_where h

  long_passes_where : (o : Option Rule) (v : Option Text) (h : Held) → is_faultless (long_fault c again o v h) ≡ long_passes c again o v h
  long_passes_where None v h = refl
  long_passes_where (Some r) None h =
      none_where (takes_values r) (option_fault c again r None h) (react_fault c again r [] h) _ _ (option_passes_where r None h) (react_passes_where r [] h)
  long_passes_where (Some r) (Some v) h =
      none_where (takes_values r) (option_fault c again r (Some v) h) (TooManyValues ∷ []) _ _ (option_passes_where r (Some v) h) refl

  short_passes_where : (o : Option Rule) (rest : Text) (h : Held) (f : Held → Kinds) (g : Held → Bool) → ((s : Held) → is_faultless (f s) ≡ g s)
      → is_faultless (short_fault c again o rest h f) ≡ short_passes c again o rest h g
  short_passes_where None rest h f g each = refl
  short_passes_where (Some r) rest h f g each =
      none_where (takes_values r) (option_fault c again r (attached_value rest) h) (or_else (react_fault c again r [] h) (f (reacted c r [] h))) _ _
      (option_passes_where r (attached_value rest) h)
      (neither (react_fault c again r [] h) (f (reacted c r [] h)) _ _ (react_passes_where r [] h) (each (reacted c r [] h)))

  bundle_step_passes_where : (x : Option ℕ) (flags : Text) (skip : ℕ) (h : Held) (f : Text → ℕ → Held → Kinds) (g : Text → ℕ → Held → Bool)
      → ((flags : Text) (skip : ℕ) (h : Held) → is_faultless (f flags skip h) ≡ g flags skip h)
      → is_faultless (bundle_step_fault c again x flags skip h f) ≡ bundle_step_passes c again x flags skip h g
  bundle_step_passes_where None flags skip h f g each = refl
  bundle_step_passes_where (Some x) flags zero h f g each =
      let rest = drop (length (encode_utf8 x)) flags in
      short_passes_where (arg_by_short c x) rest h (f rest 0) (g rest 0) (each rest 0)
  bundle_step_passes_where (Some x) flags (suc skip) h f g each = each (drop (length (encode_utf8 x)) flags) skip h

  flags_pass_where : (k : ℕ) (flags : Text) (skip : ℕ) (h : Held) → is_faultless (flags_fault c again k flags skip h) ≡ flags_pass c again k flags skip h
  unfolding flags_fault flags_pass
  flags_pass_where zero flags skip h = refl
  flags_pass_where (suc k) flags skip h =
      bundle_step_passes_where (slice_get (chars flags) 0) flags skip h (flags_fault c again k) (flags_pass c again k) (flags_pass_where k)

  flag_word_passes_where : (parts : Option (Text × Option Text)) (word : Text) (h : Held) → is_faultless (flag_word_fault c again parts word h) ≡ flag_word_passes c again parts word h
  flag_word_passes_where (Some p) word h = long_passes_where (arg_by_long c p.0) p.1 h
  flag_word_passes_where None word h =
      none_at (λ flags. bundle_fault c again flags h) (λ flags. bundle_passes c again flags h)
      (λ flags. flags_pass_where (length flags) flags h.skip (record h { skip = 0 })) (short_of word)

  positional_passes_where : (r : Rule) (h : Held) → is_faultless (positional_fault c again r h) ≡ positional_passes c again r h
  positional_passes_where r h = none_or (is_pending r h.pending && takes_several r) (settle_fault c again h) _ (settle_passes_where h)

-- ---- the walk

module _ (s : Shape) (names : Names) where
  other_passes_where : (name : Option Text) (word : Text) (h : Held) → is_faultless (other_fault s name word h) ≡ other_passes s name word h
  other_passes_where (Some name) word h = go (bytes_eq name (codes "help")) s.disable_help_subcommand
    where
      go : (help disabled : Bool) → is_faultless (if help && not disabled
          then DisplayHelp ∷ InvalidSubcommand ∷ [] else []) ≡ (not help || disabled)
      go true true = refl
      go true false = refl
      go false disabled = refl
  other_passes_where None word h =
      none_or (bytes_eq word (45 ∷ 45 ∷ [])) (flag_word_fault s.rules s.args_override_self (long_of word) word h) _
      (flag_word_passes_where s.rules s.args_override_self (long_of word) word h)

  word_passes_where : (is_trailing : Bool) (waiting : Waiting) (word : Text) (h : Held) → is_faultless (word_fault s names is_trailing waiting word h) ≡ word_passes s names is_trailing waiting word h
  word_passes_where is_trailing waiting word h =
      none_or is_trailing (other_fault s (subcommand_met names waiting word) word h) _ (other_passes_where (subcommand_met names waiting word) word h)

  step_passes_where : (position : ℕ) (h : Held) (step : Step) → is_faultless (step_fault s position h step) ≡ step_passes s position h step
  step_passes_where position h (next waiting) = refl
  step_passes_where position h (trailing place) = refl
  step_passes_where position h (subcommand name) = refl
  step_passes_where position h value = go (arg_by_index s.rules position)
    where
      stray : (leaf : Bool) → is_faultless (if leaf then UnknownArgument ∷ []
          else UnknownArgument ∷ InvalidSubcommand ∷ []) ≡ false
      stray true = refl
      stray false = refl

      go : (o : Option Rule) → is_faultless (option_map_or (λ r. positional_fault s.rules s.args_override_self r h) o (stray_fault s))
          ≡ option_map_or (λ r. positional_passes s.rules s.args_override_self r h) o false
      go None = stray s.is_leaf
      go (Some r) = positional_passes_where s.rules s.args_override_self r h

  turn_passes_where : (w : Walk) (word : Text) → is_faultless (turn_fault s names w word) ≡ turn_passes s names w word
  turn_passes_where w word =
      let met = word_met s.rules names w.is_trailing w.waiting w.position word w.held in
      let here = word_fault s names w.is_trailing w.waiting word w.held in
      none_or (is_some w.stopped) (or_else here (step_fault s w.position met.0 met.1)) _
      (neither here (step_fault s w.position met.0 met.1) _ _ (word_passes_where w.is_trailing w.waiting word w.held) (step_passes_where w.position met.0 met.1))

  walk_passes_where : (words : List Text) (w : Walk) → is_faultless (walk_fault s names w words) ≡ walk_passes s names w words
  unfolding walk_fault walk_passes
  walk_passes_where [] w = refl
  walk_passes_where (word ∷ words) w =
      neither (turn_fault s names w word) (walk_fault s names (walked s.rules names w word) words) _ _
      (turn_passes_where w word) (walk_passes_where words (walked s.rules names w word))

-- ---- after the walk

default_fits : (rows : List Row) (r : Rule) → is_faultless (given_default_fault r r.defaults) ≡ true → is_faultless (default_fault rows r) ≡ true
default_fits rows r fits = go (has_row r.id rows || is_empty r.defaults)
  where
    go : (test : Bool) → is_faultless (if test then [] else given_default_fault r r.defaults) ≡ true
    go true = refl
    go false = fits

required : (given : Bool) → is_faultless (if not given || false then MissingRequiredArgument ∷ [] else []) ≡ (given && true)
required true = refl
required false = refl

module _ (at : Lease) where
  abbrev s : Shape
  s = shape (lent at)

  abbrev j : Rule
  j = job (lent at)

  defaults_fit : (rows : List Row) → is_faultless (defaults_fault rows s.rules) ≡ true
  unfolding clap_on_literals
  defaults_fit rows =
      let limited = with_default rows j in
      let sized = with_default limited limit in
      neither (default_fault rows j) (or_else (default_fault limited limit) (or_else (default_fault sized size) [])) true true (default_fits rows j refl)
      (neither (default_fault limited limit) (or_else (default_fault sized size) []) true true (default_fits limited limit refl)
      (neither (default_fault sized size) [] true true (default_fits sized size refl) refl))

  check_passes_where : (rows : List Row) → is_faultless (check_fault s rows false) ≡ is_valid s rows false
  check_passes_where rows = required (is_given (codes "job") rows)

  level_passes_where : (words : List Text) → is_faultless (level_fault s [] nothing_held words false []) ≡ level_passes s [] nothing_held words false
  unfolding clap_on_literals
  level_passes_where words =
      let end = (walk s.rules [] nothing_held words).held in
      let defaults = defaults_fault (settled s.rules end).rows s.rules in
      let check = check_fault s (finished s.rules end) false in
      let settle = settle_fault s.rules false end in
      neither (walk_fault s [] (walk_from nothing_held) words) (or_else settle (or_else defaults check)) _ _ (walk_passes_where s [] words (walk_from nothing_held))
      (neither settle (or_else defaults check) _ _ (settle_passes_where s.rules false end)
      (neither defaults check true _ (defaults_fit (settled s.rules end).rows) (check_passes_where (finished s.rules end))))

  -- the command has no subcommand to enter
  pub taken_at : (words : List Text) → takes (command_of (lent at)) words ≡ level_passes s [] nothing_held words false
  unfolding clap_on_literals
  taken_at words = go (walk s.rules [] nothing_held words).stopped
    where
      level : Option (Text × List Text) → Bool
      level stop = entered_passes (built (command_of (lent at))) stop && level_passes s [] nothing_held words (is_some (entered (built (command_of (lent at))) stop))

      go : (stop : Option (Text × List Text)) → level stop ≡ level_passes s [] nothing_held words false
      go None = refl
      go (Some p) = refl

  pub taken_where : (words : List Text) → is_faultless (fault_of (command_of (lent at)) words) ≡ takes (command_of (lent at)) words
  taken_where words = ap is_faultless (fault_at at words) ∙ level_passes_where words ∙ sym (taken_at words)
