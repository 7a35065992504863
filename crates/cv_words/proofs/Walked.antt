-- The walk over the words is the same, wherever the names of the jobs are lent from, and so are the matches.
use Rattle.std.proofs.Common.{◌≡◌, ℕ, zero, suc, Bool, false, List, [], ◌∷◌, length, Option, Some, None, refl, ◌∙◌, ap, ap₂}
use Rattle.std.specs.Prelude.{◌==◌, ◌&&◌, ◌||◌, fold, encode_utf8, slice_get, drop, if◌then◌else◌}
use Rattle.std.specs.Option.{option_map_or}
use Rattle.std.specs.Str.{bytes_eq, chars}
use Rattle.clap.specs.Lexer.{long_of, short_of}
use Rattle.clap.specs.Simple.{matches_of}
use Rattle.clap.specs.Walk.{Held, Outcome, done, waits, plain, refused, Rule, Step, next, trailing, subcommand, value, Text, Waiting, idle, option, positional, Walk, after_flag, after_step, arg_by_index, arg_by_long, arg_by_short, attached_value, bundle, bundle_met, bundle_step, finished, flag_met, is_multiple, is_pending, long_met, long_or_other, next_position, nothing_held, option_met, option_word, plain_word, pushed, reacted, settled, settled_rows, short_met, short_or_plain, subcommand_met, subcommand_or_other, takes_several, takes_values, to_positional, used, used_by_id, walk, walk_from, walked, walked_from, with_default, word_met}
use Rattle.cv_words.specs.Command.{command_of}
use Rattle.cv_words.proofs.Lent.{Lease, found, lent, rules}

module _ (one two : Lease) where
  abbrev a : List Rule
  a = rules (lent one)

  abbrev b : List Rule
  b = rules (lent two)

  -- ---- uses

  pub settled_same : (h : Held) → settled a h ≡ settled b h
  settled_same h = ap (λ rows. record h { rows = rows; pending = None }) (go h.pending)
    where
      go : (pending : Option (Text × List Text)) → settled_rows a pending h.rows ≡ settled_rows b pending h.rows
      go None = refl
      go (Some p) = found one two (λ r. bytes_eq r.id p.0) (λ o. used_by_id o p.1 h.rows) refl refl

  pub reacted_same : (r : Rule) (values : List Text) (h : Held) → reacted a r values h ≡ reacted b r values h
  reacted_same r values h = ap (λ (s : Held). record h { rows = used r values s.rows; pending = None }) (settled_same h)

  -- ---- flags

  option_met_same : (r : Rule) (v : Option Text) (h : Held) → option_met a r v h ≡ option_met b r v h
  option_met_same r (Some v) h = ap (λ (s : Held). (s, done)) (reacted_same r (v ∷ []) h)
  option_met_same r None h = ap (λ (s : Held). (record s { pending = Some (r.id, []) }, waits r.id)) (settled_same h)

  flag_met_same : (r : Rule) (v : Option Text) (h : Held) → flag_met a r v h ≡ flag_met b r v h
  flag_met_same r (Some v) h = refl
  flag_met_same r None h = ap (λ (s : Held). (s, done)) (reacted_same r [] h)

  long_met_same : (o : Option Rule) (v : Option Text) (h : Held) → long_met a o v h ≡ long_met b o v h
  long_met_same None v h = refl
  long_met_same (Some r) v h = ap₂ (λ x y. if takes_values r then x else y) (option_met_same r v h) (flag_met_same r v h)

  short_met_same : (o : Option Rule) (rest : Text) (h : Held) (f g : Held → Held × Outcome) → ((s : Held) → f s ≡ g s) → short_met a o rest h f ≡ short_met b o rest h g
  short_met_same None rest h f g each = refl
  short_met_same (Some r) rest h f g each =
      ap₂ (λ x y. if takes_values r then x else y) (option_met_same r (attached_value rest) h) (ap f (reacted_same r [] h) ∙ each (reacted b r [] h))

  bundle_step_same : (x : Option ℕ) (flags : Text) (skip : ℕ) (so_far : Outcome) (h : Held) (f g : Text → ℕ → Outcome → Held → Held × Outcome)
      → ((flags : Text) (skip : ℕ) (so_far : Outcome) (h : Held) → f flags skip so_far h ≡ g flags skip so_far h)
      → bundle_step a x flags skip so_far h f ≡ bundle_step b x flags skip so_far h g
  bundle_step_same None flags skip so_far h f g each = refl
  bundle_step_same (Some x) flags zero so_far h f g each =
      let rest = drop (length (encode_utf8 x)) flags in
      short_met_same (arg_by_short b x) rest h (f rest 0 done) (g rest 0 done) (each rest 0 done)
  bundle_step_same (Some x) flags (suc skip) so_far h f g each = each (drop (length (encode_utf8 x)) flags) skip so_far h

  bundle_met_same : (k : ℕ) (flags : Text) (skip : ℕ) (so_far : Outcome) (h : Held) → bundle_met a k flags skip so_far h ≡ bundle_met b k flags skip so_far h
  unfolding bundle_met
  bundle_met_same zero flags skip so_far h = refl
  bundle_met_same (suc k) flags skip so_far h =
      bundle_step_same (slice_get (chars flags) 0) flags skip so_far h (bundle_met a k) (bundle_met b k) (bundle_met_same k)

  -- ---- one word

  plain_word_same : (waiting : Waiting) (word : Text) (h : Held) → plain_word a waiting word h ≡ plain_word b waiting word h
  plain_word_same idle word h = refl
  plain_word_same positional word h = refl
  plain_word_same (option id) word h =
      found one two (λ r. bytes_eq r.id id) (λ o. ((option_word o id word h).0, next (option_word o id word h).1)) refl refl

  after_flag_same : (waiting : Waiting) (word : Text) (h : Held) (o : Outcome) → after_flag a waiting word h o ≡ after_flag b waiting word h o
  after_flag_same waiting word h done = refl
  after_flag_same waiting word h (waits id) = refl
  after_flag_same waiting word h plain = plain_word_same waiting word h
  after_flag_same waiting word h refused = plain_word_same waiting word h

  flag_word_same : (waiting : Waiting) (word : Text) (f g : Held × Outcome) → f ≡ g → after_flag a waiting word f.0 f.1 ≡ after_flag b waiting word g.0 g.1
  flag_word_same waiting word f g same = after_flag_same waiting word f.0 f.1 ∙ ap (λ (s : Held × Outcome). after_flag b waiting word s.0 s.1) same

  short_or_plain_same : (waiting : Waiting) (word : Text) (flags : Option Text) (h : Held) → short_or_plain a waiting word flags h ≡ short_or_plain b waiting word flags h
  short_or_plain_same waiting word None h = plain_word_same waiting word h
  short_or_plain_same waiting word (Some flags) h =
      flag_word_same waiting word (bundle a flags h) (bundle b flags h) (bundle_met_same (length flags) flags h.skip plain (record h { skip = 0 }))

  long_or_other_same : (waiting : Waiting) (word : Text) (parts : Option (Text × Option Text)) (h : Held)
      → long_or_other a waiting word parts h ≡ long_or_other b waiting word parts h
  long_or_other_same waiting word None h = short_or_plain_same waiting word (short_of word) h
  long_or_other_same waiting word (Some p) h =
      flag_word_same waiting word (long_met a (arg_by_long a p.0) p.1 h) (long_met b (arg_by_long b p.0) p.1 h) (long_met_same (arg_by_long b p.0) p.1 h)

  subcommand_or_other_same : (name : Option Text) (waiting : Waiting) (position : ℕ) (word : Text) (h : Held)
      → subcommand_or_other a name waiting position word h ≡ subcommand_or_other b name waiting position word h
  subcommand_or_other_same (Some name) waiting position word h = refl
  subcommand_or_other_same None waiting position word h =
      ap (λ x. if bytes_eq word (45 ∷ 45 ∷ []) then (h, trailing position) else x) (long_or_other_same waiting word (long_of word) h)

  pub word_met_same : (is_trailing : Bool) (waiting : Waiting) (position : ℕ) (word : Text) (h : Held)
      → word_met a [] is_trailing waiting position word h ≡ word_met b [] is_trailing waiting position word h
  word_met_same is_trailing waiting position word h =
      ap (λ x. if is_trailing then (h, value) else x) (subcommand_or_other_same (subcommand_met [] waiting word) waiting position word h)

  -- ---- the walk

  to_positional_same : (o : Option Rule) (word : Text) (w : Walk) (h : Held) → to_positional a o word w h ≡ to_positional b o word w h
  to_positional_same None word w h = refl
  to_positional_same (Some r) word w h =
      ap (λ (s : Held). record {
        held = pushed r.id word (if is_pending r h.pending && takes_several r then h else s);
        waiting = if is_multiple r then positional else idle;
        position = next_position r w.position;
        is_trailing = w.is_trailing || r.trailing_var_arg;
        stopped = None;
      }) (settled_same h)

  after_step_same : (word : Text) (w : Walk) (h : Held) (s : Step) → after_step a word w h s ≡ after_step b word w h s
  after_step_same word w h (next waiting) = refl
  after_step_same word w h (trailing position) = refl
  after_step_same word w h (subcommand name) = refl
  after_step_same word w h value =
      to_positional_same (arg_by_index a w.position) word w h
      ∙ found one two (λ r. option_map_or (λ k. k == w.position) r.index false) (λ o. to_positional b o word w h) refl refl

  pub walked_same : (w : Walk) (word : Text) → walked a [] w word ≡ walked b [] w word
  unfolding walked
  walked_same w word = go w.stopped
    where
      go : (stopped : Option (Text × List Text)) → walked_from a [] stopped w word ≡ walked_from b [] stopped w word
      go (Some p) = refl
      go None =
          let from = word_met a [] w.is_trailing w.waiting w.position word w.held in
          after_step_same word w from.0 from.1
          ∙ ap (λ (met : Held × Step). after_step b word w met.0 met.1) (word_met_same w.is_trailing w.waiting w.position word w.held)

  pub fold_same : (words : List Text) (w : Walk) → fold (walked a []) w words ≡ fold (walked b []) w words
  fold_same [] w = refl
  fold_same (word ∷ words) w = fold_same words (walked a [] w word) ∙ ap (λ (v : Walk). fold (walked b []) v words) (walked_same w word)

  pub walk_same : (words : List Text) → walk a [] nothing_held words ≡ walk b [] nothing_held words
  walk_same words = fold_same words (walk_from nothing_held)

  pub finished_same : (h : Held) → finished a h ≡ finished b h
  finished_same h = ap (λ (s : Held). fold with_default s.rows b) (settled_same h)

  pub matches_same : (words : List Text) → matches_of (command_of (lent one)) words ≡ matches_of (command_of (lent two)) words
  matches_same words = finished_same (walk a [] nothing_held words).held ∙ ap (λ (w : Walk). finished b w.held) (walk_same words)
