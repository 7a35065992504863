-- The faults of the words are the same, wherever the names of the jobs are lent from.
use Rattle.std.proofs.Common.{◌≡◌, ℕ, zero, suc, Bool, false, List, [], ◌∷◌, length, Option, Some, None, refl, sym, ◌∙◌, ap, ap₂, codes}
use Rattle.std.specs.Prelude.{◌==◌, ◌&&◌, is_some, encode_utf8, slice_get, drop, if◌then◌else◌}
use Rattle.std.specs.Option.{option_map_or}
use Rattle.std.specs.Str.{bytes_eq, chars}
use Rattle.clap.specs.Faults.{bundle_fault, bundle_step_fault, check_fault, defaults_fault, entered_fault, fault_of, flag_word_fault, flags_fault, level_fault, long_fault, option_fault, other_fault, positional_fault, react_fault, repeat_fault, settle_fault, short_fault, step_fault, stray_fault, turn_fault, use_fault, walk_fault}
use Rattle.clap.specs.Kinds.{Kinds, or_else, range_kinds, value_kinds, values_kinds}
use Rattle.clap.specs.Lexer.{long_of, short_of}
use Rattle.clap.specs.Simple.{Shape, built, entered}
use Rattle.clap.specs.Walk.{Held, Row, Rule, Step, next, trailing, subcommand, value, Text, Walk, arg_by_id, arg_by_index, arg_by_long, arg_by_short, attached_value, finished, is_pending, nothing_held, reacted, settled, subcommand_met, takes_several, takes_values, walk, walk_from, walked, word_met}
use Rattle.clap.specs.declared.builder.value_parser.ValueParser.TheVariants.{Names}
use Rattle.clap.specs.declared.error.kind.ErrorKind.TheVariants.{TooManyValues}
use Rattle.cv_words.specs.Command.{command_of}
use Rattle.cv_words.proofs.Lent.{Lease, found, job, lent, rules, shape}
use Rattle.cv_words.proofs.Walked.{finished_same, reacted_same, settled_same, walk_same, walked_same, word_met_same}

-- the command has no subcommand to enter
pub fault_at : (at : Lease) (words : List Text) → fault_of (command_of (lent at)) words ≡ level_fault (shape (lent at)) [] nothing_held words false []
fault_at at words = go (walk (rules (lent at)) [] nothing_held words).stopped
  where
    level : Option (Text × List Text) → Kinds
    level stop = level_fault (shape (lent at)) [] nothing_held words (is_some (entered (built (command_of (lent at))) stop)) (entered_fault (built (command_of (lent at))) stop)

    go : (stop : Option (Text × List Text)) → level stop ≡ level_fault (shape (lent at)) [] nothing_held words false []
    go None = refl
    go (Some p) = refl

module _ (one two : Lease) where
  abbrev a : List Rule
  a = rules (lent one)

  abbrev b : List Rule
  b = rules (lent two)

  -- ---- uses of the job

  values_same : (values : List Text) → values_kinds false (Names (lent one)) values ≡ values_kinds false (Names (lent two)) values
  values_same [] = refl
  values_same (v ∷ values) = ap (or_else (value_kinds false (Names (lent two)) v)) (values_same values)

  use_same : (again : Bool) (values : List Text) (rows : List Row) → use_fault again (job (lent one)) values rows ≡ use_fault again (job (lent two)) values rows
  use_same again [] rows = refl
  use_same again (v ∷ values) rows =
      ap (λ kinds. or_else (range_kinds 1 1 (length (v ∷ values))) (or_else (repeat_fault again (codes "job") rows) kinds)) (values_same (v ∷ values))

  settle_same : (again : Bool) (h : Held) → settle_fault a again h ≡ settle_fault b again h
  settle_same again h = go h.pending
    where
      by_id : (c : List Rule) → Text × List Text → Kinds
      by_id c p = option_map_or (λ r. use_fault again r p.1 h.rows) (arg_by_id c p.0) []

      go : (pending : Option (Text × List Text)) → option_map_or (by_id a) pending [] ≡ option_map_or (by_id b) pending []
      go None = refl
      go (Some p) = found one two (λ r. bytes_eq r.id p.0) (λ o. option_map_or (λ r. use_fault again r p.1 h.rows) o []) refl (use_same again p.1 h.rows)

  react_same : (again : Bool) (r : Rule) (values : List Text) (h : Held) → react_fault a again r values h ≡ react_fault b again r values h
  react_same again r values h = ap₂ or_else (settle_same again h) (ap (λ (s : Held). use_fault again r values s.rows) (settled_same one two h))

  -- ---- flags

  option_same : (again : Bool) (r : Rule) (v : Option Text) (h : Held) → option_fault a again r v h ≡ option_fault b again r v h
  option_same again r (Some v) h = react_same again r (v ∷ []) h
  option_same again r None h = settle_same again h

  long_same : (again : Bool) (o : Option Rule) (v : Option Text) (h : Held) → long_fault a again o v h ≡ long_fault b again o v h
  long_same again None v h = refl
  long_same again (Some r) v h =
      ap₂ (λ x y. if takes_values r then x else (if is_some v then TooManyValues ∷ [] else y)) (option_same again r v h) (react_same again r [] h)

  short_same : (again : Bool) (o : Option Rule) (rest : Text) (h : Held) (f g : Held → Kinds) → ((s : Held) → f s ≡ g s) → short_fault a again o rest h f ≡ short_fault b again o rest h g
  short_same again None rest h f g each = refl
  short_same again (Some r) rest h f g each =
      ap₂ (λ x y. if takes_values r then x else y) (option_same again r (attached_value rest) h)
      (ap₂ or_else (react_same again r [] h) (ap f (reacted_same one two r [] h) ∙ each (reacted b r [] h)))

  bundle_step_same : (again : Bool) (x : Option ℕ) (flags : Text) (skip : ℕ) (h : Held) (f g : Text → ℕ → Held → Kinds)
      → ((flags : Text) (skip : ℕ) (h : Held) → f flags skip h ≡ g flags skip h)
      → bundle_step_fault a again x flags skip h f ≡ bundle_step_fault b again x flags skip h g
  bundle_step_same again None flags skip h f g each = refl
  bundle_step_same again (Some x) flags zero h f g each =
      let rest = drop (length (encode_utf8 x)) flags in
      short_same again (arg_by_short b x) rest h (f rest 0) (g rest 0) (each rest 0)
  bundle_step_same again (Some x) flags (suc skip) h f g each = each (drop (length (encode_utf8 x)) flags) skip h

  flags_same : (again : Bool) (k : ℕ) (flags : Text) (skip : ℕ) (h : Held) → flags_fault a again k flags skip h ≡ flags_fault b again k flags skip h
  unfolding flags_fault
  flags_same again zero flags skip h = refl
  flags_same again (suc k) flags skip h =
      bundle_step_same again (slice_get (chars flags) 0) flags skip h (flags_fault a again k) (flags_fault b again k) (flags_same again k)

  -- ---- one word

  flag_word_same : (again : Bool) (parts : Option (Text × Option Text)) (word : Text) (h : Held) → flag_word_fault a again parts word h ≡ flag_word_fault b again parts word h
  flag_word_same again (Some p) word h = long_same again (arg_by_long b p.0) p.1 h
  flag_word_same again None word h = go (short_of word)
    where
      go : (flags : Option Text) → option_map_or (λ f. bundle_fault a again f h) flags [] ≡ option_map_or (λ f. bundle_fault b again f h) flags []
      go None = refl
      go (Some flags) = flags_same again (length flags) flags h.skip (record h { skip = 0 })

  other_same : (name : Option Text) (word : Text) (h : Held) → other_fault (shape (lent one)) name word h ≡ other_fault (shape (lent two)) name word h
  other_same (Some name) word h = refl
  other_same None word h = ap (λ x. if bytes_eq word (45 ∷ 45 ∷ []) then [] else x) (flag_word_same false (long_of word) word h)

  positional_same : (r : Rule) (h : Held) → positional_fault a false r h ≡ positional_fault b false r h
  positional_same r h = ap (λ x. if is_pending r h.pending && takes_several r then [] else x) (settle_same false h)

  step_same : (position : ℕ) (h : Held) (s : Step) → step_fault (shape (lent one)) position h s ≡ step_fault (shape (lent two)) position h s
  step_same position h (next waiting) = refl
  step_same position h (trailing place) = refl
  step_same position h (subcommand name) = refl
  step_same position h value =
      found one two (λ r. option_map_or (λ k. k == position) r.index false) (λ o. option_map_or (λ r. positional_fault a false r h) o (stray_fault (shape (lent two)))) refl refl
      ∙ go (arg_by_index b position)
    where
      go : (o : Option Rule) → option_map_or (λ r. positional_fault a false r h) o (stray_fault (shape (lent two))) ≡ option_map_or (λ r. positional_fault b false r h) o (stray_fault (shape (lent two)))
      go None = refl
      go (Some r) = positional_same r h

  -- ---- the walk

  turn_same : (w : Walk) (word : Text) → turn_fault (shape (lent one)) [] w word ≡ turn_fault (shape (lent two)) [] w word
  turn_same w word =
      let from = word_met a [] w.is_trailing w.waiting w.position word w.held in
      ap₂ (λ x y. if is_some w.stopped then [] else or_else (if w.is_trailing then [] else x) y)
      (other_same (subcommand_met [] w.waiting word) word w.held)
      (step_same w.position from.0 from.1
      ∙ ap (λ (met : Held × Step). step_fault (shape (lent two)) w.position met.0 met.1) (word_met_same one two w.is_trailing w.waiting w.position word w.held))

  walk_fault_same : (words : List Text) (w : Walk) → walk_fault (shape (lent one)) [] w words ≡ walk_fault (shape (lent two)) [] w words
  unfolding walk_fault
  walk_fault_same [] w = refl
  walk_fault_same (word ∷ words) w =
      ap₂ or_else (turn_same w word)
      (walk_fault_same words (walked a [] w word) ∙ ap (λ (v : Walk). walk_fault (shape (lent two)) [] v words) (walked_same one two w word))

  -- ---- after the walk

  defaults_same : (rows : List Row) → defaults_fault rows a ≡ defaults_fault rows b
  unfolding defaults_fault
  defaults_same rows = refl

  abbrev end_fault : Shape → Held → Kinds
  end_fault s end = or_else (settle_fault s.rules false end) (or_else (defaults_fault (settled s.rules end).rows s.rules) (check_fault s (finished s.rules end) false))

  end_same : (end : Held) → end_fault (shape (lent one)) end ≡ end_fault (shape (lent two)) end
  end_same end =
      ap₂ or_else (settle_same false end)
      (ap₂ or_else (defaults_same (settled a end).rows ∙ ap (λ (s : Held). defaults_fault s.rows b) (settled_same one two end))
      (ap (λ rows. check_fault (shape (lent two)) rows false) (finished_same one two end)))

  level_same : (words : List Text) → level_fault (shape (lent one)) [] nothing_held words false [] ≡ level_fault (shape (lent two)) [] nothing_held words false []
  level_same words =
      ap₂ or_else (walk_fault_same words (walk_from nothing_held))
      (end_same (walk a [] nothing_held words).held ∙ ap (λ (w : Walk). end_fault (shape (lent two)) w.held) (walk_same one two words))

  pub fault_same : (words : List Text) → fault_of (command_of (lent one)) words ≡ fault_of (command_of (lent two)) words
  fault_same words = fault_at one words ∙ level_same words ∙ sym (fault_at two words)
