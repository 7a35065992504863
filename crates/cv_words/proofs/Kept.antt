-- What each use of an argument keeps of the rows, a line that the command takes keeps.
use Rattle.std.proofs.Common.{◌≡◌, ℕ, zero, suc, Bool, true, false, List, [], ◌∷◌, length, Option, Some, None}
use Rattle.std.specs.Prelude.{⊤, ◌&&◌, ◌||◌, not, is_some, find, fold, encode_utf8, slice_get, drop, if◌then◌else◌}
use Rattle.std.specs.Option.{option_map_or}
use Rattle.std.specs.Str.{bytes_eq, chars}
use Rattle.clap.specs.Lexer.{long_of, short_of}
use Rattle.clap.specs.Simple.{Shape}
use Rattle.clap.specs.Takes.{bundle_passes, bundle_step_passes, flag_word_passes, flags_pass, long_passes, option_passes, other_passes, positional_passes, react_passes, settle_passes, short_passes, step_passes, turn_passes, use_passes, walk_passes, word_passes}
use Rattle.clap.specs.Walk.{Held, Names, Outcome, done, waits, plain, refused, Row, Rule, Step, next, trailing, subcommand, value, Text, Waiting, idle, option, positional, Walk, after_flag, after_step, arg_by_id, arg_by_index, arg_by_long, arg_by_short, attached_value, bundle, bundle_met, bundle_step, flag_met, is_pending, long_met, long_or_other, option_met, option_word, plain_word, reacted, settled, settled_rows, short_met, short_or_plain, subcommand_met, subcommand_or_other, takes_several, takes_values, to_positional, used, used_by_id, walked, walked_from, word_met}
use Rattle.clap.proofs.WalkLemmas.{both}

module _ (s : Shape) (Keep : List Row → Type 0) where
  abbrev c : List Rule
  c = s.rules

  abbrev again : Bool
  again = s.args_override_self

  -- a use that passes keeps it
  abbrev pub KeepsUse : Rule → Type 0
  KeepsUse r = (values : List Text) (rows : List Row) → use_passes again r values rows ≡ true → Keep rows → Keep (used r values rows)

  abbrev pub Keeps : Option Rule → Type 0
  Keeps None = ⊤
  Keeps (Some r) = KeepsUse r

  module _ (each : (test : Rule → Bool) → Keeps (find test c)) where
    pub settled_keeps : (h : Held) → settle_passes c again h ≡ true → Keep h.rows → Keep (settled c h).rows
    settled_keeps h passes kept = go h.pending passes
      where
        by_id : (o : Option Rule) (values : List Text) → Keeps o → option_map_or (λ r. use_passes again r values h.rows) o true ≡ true → Keep (used_by_id o values h.rows)
        by_id None values keeps passes = kept
        by_id (Some r) values keeps passes = keeps values h.rows passes kept

        go : (pending : Option (Text × List Text)) → option_map_or (λ p. option_map_or (λ r. use_passes again r p.1 h.rows) (arg_by_id c p.0) true) pending true ≡ true
            → Keep (settled_rows c pending h.rows)
        go None passes = kept
        go (Some p) passes = by_id (arg_by_id c p.0) p.1 (each (λ r. bytes_eq r.id p.0)) passes

    reacted_keeps : (r : Rule) → KeepsUse r → (values : List Text) (h : Held) → react_passes c again r values h ≡ true → Keep h.rows → Keep (reacted c r values h).rows
    reacted_keeps r keeps values h passes kept =
        let two = both (settle_passes c again h) (use_passes again r values (settled c h).rows) passes in
        keeps values (settled c h).rows two.1 (settled_keeps h two.0 kept)

    -- ---- flags

    option_keeps : (r : Rule) → KeepsUse r → (v : Option Text) (h : Held) → option_passes c again r v h ≡ true → Keep h.rows → Keep (option_met c r v h).0.rows
    option_keeps r keeps (Some v) h passes kept = reacted_keeps r keeps (v ∷ []) h passes kept
    option_keeps r keeps None h passes kept = settled_keeps h passes kept

    long_keeps : (o : Option Rule) → Keeps o → (v : Option Text) (h : Held) → long_passes c again o v h ≡ true → Keep h.rows → Keep (long_met c o v h).0.rows
    long_keeps None keeps v h passes kept = kept
    long_keeps (Some r) keeps v h passes kept = go (takes_values r) v passes
      where
        go : (takes : Bool) (v : Option Text) → (if takes then option_passes c again r v h else (not (is_some v) && react_passes c again r [] h)) ≡ true
            → Keep (if takes then option_met c r v h else flag_met c r v h).0.rows
        go true v passes = option_keeps r keeps v h passes kept
        go false None passes = reacted_keeps r keeps [] h passes kept
        go false (Some v) passes = kept

    short_keeps : (o : Option Rule) → Keeps o → (rest : Text) (h : Held) (f : Held → Held × Outcome) (g : Held → Bool)
        → ((held : Held) → g held ≡ true → Keep held.rows → Keep (f held).0.rows)
        → short_passes c again o rest h g ≡ true → Keep h.rows → Keep (short_met c o rest h f).0.rows
    short_keeps None keeps rest h f g then_keeps passes kept = kept
    short_keeps (Some r) keeps rest h f g then_keeps passes kept = go (takes_values r) passes
      where
        go : (takes : Bool) → (if takes then option_passes c again r (attached_value rest) h else (react_passes c again r [] h && g (reacted c r [] h))) ≡ true
            → Keep (if takes then option_met c r (attached_value rest) h else f (reacted c r [] h)).0.rows
        go true passes = option_keeps r keeps (attached_value rest) h passes kept
        go false passes =
            let two = both (react_passes c again r [] h) (g (reacted c r [] h)) passes in
            then_keeps (reacted c r [] h) two.1 (reacted_keeps r keeps [] h two.0 kept)

    bundle_step_keeps : (x : Option ℕ) (flags : Text) (skip : ℕ) (so_far : Outcome) (h : Held) (f : Text → ℕ → Outcome → Held → Held × Outcome) (g : Text → ℕ → Held → Bool)
        → ((flags : Text) (skip : ℕ) (so_far : Outcome) (h : Held) → g flags skip h ≡ true → Keep h.rows → Keep (f flags skip so_far h).0.rows)
        → bundle_step_passes c again x flags skip h g ≡ true → Keep h.rows → Keep (bundle_step c x flags skip so_far h f).0.rows
    bundle_step_keeps None flags skip so_far h f g then_keeps passes kept = kept
    bundle_step_keeps (Some x) flags zero so_far h f g then_keeps passes kept =
        let rest = drop (length (encode_utf8 x)) flags in
        short_keeps (arg_by_short c x) (each _) rest h (f rest 0 done) (g rest 0) (then_keeps rest 0 done) passes kept
    bundle_step_keeps (Some x) flags (suc skip) so_far h f g then_keeps passes kept = then_keeps (drop (length (encode_utf8 x)) flags) skip so_far h passes kept

    bundle_keeps : (k : ℕ) (flags : Text) (skip : ℕ) (so_far : Outcome) (h : Held) → flags_pass c again k flags skip h ≡ true → Keep h.rows → Keep (bundle_met c k flags skip so_far h).0.rows
    unfolding bundle_met flags_pass
    bundle_keeps zero flags skip so_far h passes kept = kept
    bundle_keeps (suc k) flags skip so_far h passes kept =
        bundle_step_keeps (slice_get (chars flags) 0) flags skip so_far h (bundle_met c k) (flags_pass c again k) (bundle_keeps k) passes kept

    -- ---- one word

    plain_word_keeps : (waiting : Waiting) (word : Text) (h : Held) → Keep h.rows → Keep (plain_word c waiting word h).0.rows
    plain_word_keeps idle word h kept = kept
    plain_word_keeps positional word h kept = kept
    plain_word_keeps (option id) word h kept = go (arg_by_id c id)
      where
        go : (o : Option Rule) → Keep (option_word o id word h).0.rows
        go None = kept
        go (Some r) = kept

    after_flag_keeps : (waiting : Waiting) (word : Text) (h : Held) (o : Outcome) → Keep h.rows → Keep (after_flag c waiting word h o).0.rows
    after_flag_keeps waiting word h done kept = kept
    after_flag_keeps waiting word h (waits id) kept = kept
    after_flag_keeps waiting word h plain kept = plain_word_keeps waiting word h kept
    after_flag_keeps waiting word h refused kept = plain_word_keeps waiting word h kept

    short_or_plain_keeps : (waiting : Waiting) (word : Text) (flags : Option Text) (h : Held) → option_map_or (λ f. bundle_passes c again f h) flags true ≡ true → Keep h.rows
        → Keep (short_or_plain c waiting word flags h).0.rows
    short_or_plain_keeps waiting word None h passes kept = plain_word_keeps waiting word h kept
    short_or_plain_keeps waiting word (Some flags) h passes kept =
        after_flag_keeps waiting word (bundle c flags h).0 (bundle c flags h).1 (bundle_keeps (length flags) flags h.skip plain (record h { skip = 0 }) passes kept)

    long_or_other_keeps : (waiting : Waiting) (word : Text) (parts : Option (Text × Option Text)) (h : Held) → flag_word_passes c again parts word h ≡ true → Keep h.rows
        → Keep (long_or_other c waiting word parts h).0.rows
    long_or_other_keeps waiting word None h passes kept = short_or_plain_keeps waiting word (short_of word) h passes kept
    long_or_other_keeps waiting word (Some p) h passes kept =
        let met = long_met c (arg_by_long c p.0) p.1 h in
        after_flag_keeps waiting word met.0 met.1 (long_keeps (arg_by_long c p.0) (each _) p.1 h passes kept)

    other_keeps : (name : Option Text) (waiting : Waiting) (position : ℕ) (word : Text) (h : Held) → other_passes s name word h ≡ true → Keep h.rows
        → Keep (subcommand_or_other c name waiting position word h).0.rows
    other_keeps (Some name) waiting position word h passes kept = kept
    other_keeps None waiting position word h passes kept = go (bytes_eq word (45 ∷ 45 ∷ [])) passes
      where
        go : (dashes : Bool) → (dashes || flag_word_passes c again (long_of word) word h) ≡ true
            → Keep (if dashes then (h, trailing position) else long_or_other c waiting word (long_of word) h).0.rows
        go true passes = kept
        go false passes = long_or_other_keeps waiting word (long_of word) h passes kept

    word_keeps : (names : Names) (is_trailing : Bool) (waiting : Waiting) (position : ℕ) (word : Text) (h : Held) → word_passes s names is_trailing waiting word h ≡ true → Keep h.rows
        → Keep (word_met c names is_trailing waiting position word h).0.rows
    word_keeps names true waiting position word h passes kept = kept
    word_keeps names false waiting position word h passes kept = other_keeps (subcommand_met names waiting word) waiting position word h passes kept

    -- ---- the walk

    positional_keeps : (o : Option Rule) (word : Text) (w : Walk) (h : Held) → option_map_or (λ r. positional_passes c again r h) o false ≡ true → Keep h.rows
        → Keep (to_positional c o word w h).held.rows
    positional_keeps None word w h passes kept = kept
    positional_keeps (Some r) word w h passes kept = go (is_pending r h.pending && takes_several r) passes
      where
        go : (more : Bool) → (more || settle_passes c again h) ≡ true → Keep (if more then h else settled c h).rows
        go true passes = kept
        go false passes = settled_keeps h passes kept

    step_keeps : (word : Text) (w : Walk) (h : Held) (step : Step) → step_passes s w.position h step ≡ true → Keep h.rows → Keep (after_step c word w h step).held.rows
    step_keeps word w h (next waiting) passes kept = kept
    step_keeps word w h (trailing position) passes kept = kept
    step_keeps word w h (subcommand name) passes kept = kept
    step_keeps word w h value passes kept = positional_keeps (arg_by_index c w.position) word w h passes kept

    walked_keeps : (names : Names) (w : Walk) (word : Text) → turn_passes s names w word ≡ true → Keep w.held.rows → Keep (walked c names w word).held.rows
    unfolding walked
    walked_keeps names w word passes kept = go w.stopped passes
      where
        met : Held × Step
        met = word_met c names w.is_trailing w.waiting w.position word w.held

        go : (stopped : Option (Text × List Text))
            → (is_some stopped || (word_passes s names w.is_trailing w.waiting word w.held && step_passes s w.position met.0 met.1)) ≡ true
            → Keep (walked_from c names stopped w word).held.rows
        go (Some p) passes = kept
        go None passes =
            let two = both (word_passes s names w.is_trailing w.waiting word w.held) (step_passes s w.position met.0 met.1) passes in
            step_keeps word w met.0 met.1 two.1 (word_keeps names w.is_trailing w.waiting w.position word w.held two.0 kept)

    pub walk_keeps : (names : Names) (words : List Text) (w : Walk) → walk_passes s names w words ≡ true → Keep w.held.rows → Keep (fold (walked c names) w words).held.rows
    unfolding walk_passes
    walk_keeps names [] w passes kept = kept
    walk_keeps names (word ∷ words) w passes kept =
        let two = both (turn_passes s names w word) (walk_passes s names (walked c names w word) words) passes in
        walk_keeps names words (walked c names w word) two.1 (walked_keeps names w word two.0 kept)
