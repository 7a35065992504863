-- A line that the command takes has words: its matches give the job and the numbers.
use Rattle.std.proofs.Common.{◌≡◌, ◌≤◌, ◌||◌, ◌&&◌, ◌++◌, ℕ, Bool, true, false, true≢false, not, List, [], ◌∷◌, length, append-nil, Some, None, refl, sym, ◌∙◌, ap, subst, arith, codes, leb-true}
use Rattle.std.specs.Prelude.{⊤, find, nat_le, slice_get, if◌then◌else◌, option_and_then}
use Rattle.std.specs.Option.{option_map_or}
use Rattle.std.specs.Str.{bytes_eq}
use Rattle.std.specs.Str.Parse.{digits_value, without_leading_plus}
use Rattle.clap.specs.Facts.{explicit_source}
use Rattle.clap.specs.Faults.{fault_of}
use Rattle.clap.specs.Takes.{is_given, set_passes, settle_passes, takes, value_passes, values_pass, walk_passes}
use Rattle.clap.specs.Values.{Accepts}
use Rattle.clap.specs.Walk.{Row, Rule, Text, at_row, finished, first_of, has_row, more_values, nothing_held, reading_by, settled, used_as, values_or_missing, walk, walk_from, with_default, with_values, without}
use Rattle.clap.specs.Simple.{matches_of}
use Rattle.clap.specs.declared.builder.action.ArgAction.TheVariants.{Set}
use Rattle.clap.specs.declared.builder.value_parser.ValueParser.TheVariants.{Names, Unsigned}
use Rattle.clap.specs.declared.parser.matches.ValueSource.{ValueSource}
use Rattle.clap.specs.declared.parser.matches.ValueSource.TheVariants.{CommandLine, DefaultValue}
use Rattle.clap.proofs.OnLiterals.{clap_on_literals}
use Rattle.clap.proofs.ValueTestLemmas.{accepts-Accepts}
use Rattle.clap.proofs.WalkLemmas.{both}
use Rattle.cv_words.specs.Command.{command_of}
use Rattle.cv_words.specs.Words.{GivesNumber, HasWords, job_named}
use Rattle.cv_words.specs.declared.words.Job.{Job}
use Rattle.cv_words.specs.declared.words.Words.{Words}
use Rattle.cv_words.proofs.Given.{named_job}
use Rattle.cv_words.proofs.Taken.{no_fault, taken_at, taken_where}
use Rattle.cv_words.proofs.Kept.{Keeps, settled_keeps, walk_keeps}
use Rattle.cv_words.proofs.Lent.{Lease, job, lent, limit, rules, shape, size}

-- ---- rows

at_row-absent : (id : Text) (change : Row → List Row) (missing rows : List Row) → has_row id rows ≡ false → at_row id change missing rows ≡ rows ++ missing
at_row-absent id change missing [] none = refl
at_row-absent id change missing (r ∷ rows) none = go (bytes_eq r.id id) (at_row-absent id change missing rows) none
  where
    go : (same : Bool) → (has_row id rows ≡ false → at_row id change missing rows ≡ rows ++ missing) → (same || has_row id rows) ≡ false
        → (if same then change r ++ rows else r ∷ at_row id change missing rows) ≡ r ∷ (rows ++ missing)
    go true rest bad = absurd (true≢false bad)
    go false rest none = ap (λ rs. r ∷ rs) (rest none)

-- a use, or a default, of what has no row adds one
added : (id : Text) (change : Row → List Row) (row : Row) (rows : List Row) → has_row id rows ≡ false
    → at_row id change (row ∷ []) (without id rows) ≡ rows ++ row ∷ []
added id change row rows none =
    let kept : without id rows ≡ rows = at_row-absent id (λ _. []) [] rows none ∙ append-nil rows in
    ap (at_row id change (row ∷ [])) kept ∙ at_row-absent id change (row ∷ []) rows none

has-append : (id : Text) (rows more : List Row) → has_row id (rows ++ more) ≡ (has_row id rows || has_row id more)
has-append id [] more = refl
has-append id (r ∷ rows) more = go (bytes_eq r.id id) (has-append id rows more)
  where
    go : (same : Bool) → has_row id (rows ++ more) ≡ (has_row id rows || has_row id more)
        → (same || has_row id (rows ++ more)) ≡ ((same || has_row id rows) || has_row id more)
    go true rest = refl
    go false rest = rest

-- a row has one value, which passed the parser of its argument
record FitsRow (at : Lease) (r : Row) : Type 0 where
  text : Text
  one : r.values ≡ text ∷ []
  job_fits : bytes_eq r.id (codes "job") ≡ true → value_passes (job (lent at)) text ≡ true
  limit_fits : bytes_eq r.id (codes "limit") ≡ true → value_passes limit text ≡ true
  size_fits : bytes_eq r.id (codes "size") ≡ true → value_passes size text ≡ true

abbrev Fit : Lease → List Row → Type 0
Fit at [] = ⊤
Fit at (r ∷ rows) = FitsRow at r × Fit at rows

Fit-append : (at : Lease) (rows more : List Row) → Fit at rows → Fit at more → Fit at (rows ++ more)
Fit-append at [] more fit others = others
Fit-append at (r ∷ rows) more fit others = (fit.0, Fit-append at rows more fit.1 others)

-- the row of an id that has one
record RowOf (at : Lease) (rows : List Row) (id : Text) : Type 0 where
  row : Row
  fits : FitsRow at row
  named : bytes_eq row.id id ≡ true
  first : find (λ r. bytes_eq r.id id) rows ≡ Some row

row_of_id : (at : Lease) (rows : List Row) (id : Text) → Fit at rows → has_row id rows ≡ true → RowOf at rows id
row_of_id at [] id fit has = absurd (true≢false (sym has))
row_of_id at (r ∷ rows) id fit has = go (bytes_eq r.id id) refl (row_of_id at rows id fit.1) has
  where
    go : (same : Bool) → bytes_eq r.id id ≡ same → (has_row id rows ≡ true → RowOf at rows id) → (same || has_row id rows) ≡ true → RowOf at (r ∷ rows) id
    go true is rest has = record { row = r; fits = fit.0; named = is; first = rw is refl }
    go false is rest has =
        let later = rest has in
        record { row = later.row; fits = later.fits; named = later.named; first = rw is later.first }

first_text : (at : Lease) (rows : List Row) (id : Text) (of : RowOf at rows id) → first_of id rows ≡ Some of.fits.text
first_text at rows id of = ap (option_and_then (λ (r : Row). slice_get r.values 0)) of.first ∙ ap (λ (vs : List Text). slice_get vs 0) of.fits.one

given_has : (id : Text) (rows : List Row) → is_given id rows ≡ true → has_row id rows ≡ true
given_has id [] given = absurd (true≢false (sym given))
given_has id (r ∷ rows) given = go (bytes_eq r.id id) (given_has id rows) given
  where
    go : (same : Bool) → (is_given id rows ≡ true → has_row id rows ≡ true)
        → option_map_or (λ r. explicit_source r.source) (if same then Some r else find (λ r. bytes_eq r.id id) rows) false ≡ true → (same || has_row id rows) ≡ true
    go true rest given = refl
    go false rest given = rest given

-- ---- uses

-- a use has one value
record HasOneValue (test : List Text → Bool) (values : List Text) : Type 0 where
  text : Text
  one : values ≡ text ∷ []
  passes : test (text ∷ []) ≡ true

one_value : (test : List Text → Bool) (values : List Text) → (nat_le 1 (length values) && (nat_le (length values) 1 && test values)) ≡ true → HasOneValue test values
one_value test [] passes = absurd (true≢false (sym passes))
one_value test (v ∷ []) passes = record { text = v; one = refl; passes = passes }
one_value test (v ∷ w ∷ values) passes =
    let two = both (nat_le 1 (length (v ∷ w ∷ values))) _ passes in
    let few = both (nat_le (length (v ∷ w ∷ values)) 1) _ two.1 in
    let less : length (v ∷ w ∷ values) ≤ 1 = leb-true _ _ few.0 in
    absurd (omega arith)

module _ (at : Lease) where
  abbrev new_row : Rule → ValueSource → Text → Row
  new_row r source v = record { id = r.id; values = v ∷ []; count = None; source = Some source; reading = reading_by r }

  use_fits : (r : Rule) → ((v : Text) → value_passes r v ≡ true → FitsRow at (new_row r CommandLine v)) → (values : List Text) (rows : List Row)
      → (nat_le 1 (length values) && (nat_le (length values) 1 && set_passes false r (values_or_missing r values) rows)) ≡ true → Fit at rows
      → Fit at (used_as Set r.id (reading_by r) (values_or_missing r values) rows)
  use_fits r fits values rows passes fit =
      let sole = one_value (λ vs. set_passes false r (values_or_missing r vs) rows) values passes in
      let two = both (not (has_row r.id rows) || false) (values_pass r (sole.text ∷ [])) sole.passes in
      let none : has_row r.id rows ≡ false = not_there (has_row r.id rows) two.0 in
      let v_passes : value_passes r sole.text ≡ true = (both (value_passes r sole.text) true two.1).0 in
      subst (λ (vs : List Text). Fit at (used_as Set r.id (reading_by r) (values_or_missing r vs) rows)) (sym sole.one)
      (subst (Fit at) (sym (added r.id (more_values CommandLine (sole.text ∷ [])) (new_row r CommandLine sole.text) rows none))
      (Fit-append at rows (new_row r CommandLine sole.text ∷ []) fit (fits sole.text v_passes, tt)))
    where
      not_there : (has : Bool) → (not has || false) ≡ true → has ≡ false
      not_there true e = absurd (true≢false (sym e))
      not_there false e = refl

  job_row : (source : ValueSource) (v : Text) → value_passes (job (lent at)) v ≡ true → FitsRow at (new_row (job (lent at)) source v)
  job_row source v passes = record { text = v; one = refl; job_fits = λ _. passes; limit_fits = λ e. absurd (true≢false (sym e)); size_fits = λ e. absurd (true≢false (sym e)) }

  limit_row : (source : ValueSource) (v : Text) → value_passes limit v ≡ true → FitsRow at (new_row limit source v)
  limit_row source v passes = record { text = v; one = refl; job_fits = λ e. absurd (true≢false (sym e)); limit_fits = λ _. passes; size_fits = λ e. absurd (true≢false (sym e)) }

  size_row : (source : ValueSource) (v : Text) → value_passes size v ≡ true → FitsRow at (new_row size source v)
  size_row source v passes = record { text = v; one = refl; job_fits = λ e. absurd (true≢false (sym e)); limit_fits = λ e. absurd (true≢false (sym e)); size_fits = λ _. passes }

  each_keeps : (test : Rule → Bool) → Keeps (shape (lent at)) (Fit at) (find test (rules (lent at)))
  each_keeps test = go (test (job (lent at))) (test limit) (test size)
    where
      go : (one two three : Bool) → Keeps (shape (lent at)) (Fit at) (if one then Some (job (lent at)) else (if two then Some limit else (if three then Some size else None)))
      go true two three = use_fits (job (lent at)) (job_row CommandLine)
      go false true three = use_fits limit (limit_row CommandLine)
      go false false true = use_fits size (size_row CommandLine)
      go false false false = tt

  -- ---- defaults

  record Defaulted (id : Text) (before after : List Row) : Type 0 where
    fit : Fit at after
    here : has_row id after ≡ true
    kept : (other : Text) → has_row other before ≡ true → has_row other after ≡ true

  defaulted : (r : Rule) (v : Text) → FitsRow at (new_row r DefaultValue v) → bytes_eq r.id r.id ≡ true → (rows : List Row) → Fit at rows
      → Defaulted r.id rows (if has_row r.id rows then rows else with_values r.id (reading_by r) DefaultValue (v ∷ []) rows)
  defaulted r v fits same rows fit = go (has_row r.id rows) refl
    where
      go : (has : Bool) → has_row r.id rows ≡ has → Defaulted r.id rows (if has then rows else with_values r.id (reading_by r) DefaultValue (v ∷ []) rows)
      go true is = record { fit = fit; here = is; kept = λ other has. has }
      go false is =
          let row = new_row r DefaultValue v in
          subst (Defaulted r.id rows) (sym (at_row-absent r.id (more_values DefaultValue (v ∷ [])) (row ∷ []) rows is))
          (record {
            fit = Fit-append at rows (row ∷ []) fit (fits, tt);
            here = has-append r.id rows (row ∷ []) ∙ rw (is, same) refl;
            kept = λ other has. has-append other rows (row ∷ []) ∙ rw has refl;
          })

  same_either : (test : Bool) (rows : List Row) → rows ≡ (if test then rows else rows)
  same_either true rows = refl
  same_either false rows = refl

  -- ---- the end

  -- the rows have a row for each argument
  record AreWhole (rows : List Row) : Type 0 where
    pub of_job : RowOf at rows (codes "job")
    pub of_limit : RowOf at rows (codes "limit")
    pub of_size : RowOf at rows (codes "size")

  whole : (words : List Text) → takes (command_of (lent at)) words ≡ true → AreWhole (matches_of (command_of (lent at)) words)
  unfolding clap_on_literals
  whole words taken =
      let s = shape (lent at) in
      let end = (walk s.rules [] nothing_held words).held in
      let walks = both (walk_passes s [] (walk_from nothing_held) words) _ (sym (taken_at at words) ∙ taken) in
      let settles = both (settle_passes s.rules false end) _ walks.1 in
      let ends = both (is_given (codes "job") (finished s.rules end)) true settles.1 in
      let fit = settled_keeps s (Fit at) each_keeps end settles.0 (walk_keeps s (Fit at) each_keeps [] words (walk_from nothing_held) walks.0 tt) in
      let rows = (settled s.rules end).rows in
      let unchanged = same_either (has_row (codes "job") rows) rows in
      let jobs = with_default rows (job (lent at)) in
      let limits = defaulted limit (codes "16384") (limit_row DefaultValue (codes "16384") refl) refl jobs (subst (Fit at) unchanged fit) in
      let sizes = defaulted size (codes "100") (size_row DefaultValue (codes "100") refl) refl (with_default jobs limit) limits.fit in
      let all = finished s.rules end in
      record {
        of_job = row_of_id at all (codes "job") sizes.fit (given_has (codes "job") all ends.0);
        of_limit = row_of_id at all (codes "limit") sizes.fit (sizes.kept (codes "limit") limits.here);
        of_size = row_of_id at all (codes "size") sizes.fit sizes.here;
      }

  number_given : (words : List Text) (id : Text) (most : ℕ) (of : RowOf at (matches_of (command_of (lent at)) words) id) → Accepts false (Unsigned 1 most) of.fits.text
      → GivesNumber (lent at) words id most (digits_value 10 (without_leading_plus of.fits.text))
  number_given words id most of accepted = record {
    text = of.fits.text;
    given = first_text at (matches_of (command_of (lent at)) words) id of;
    value = refl;
    least = accepted.2;
    bound = accepted.3;
  }

  pub taken_has_words : (words : List Text) → takes (command_of (lent at)) words ≡ true → (read : Words) × HasWords words read
  taken_has_words words taken =
      let rows = whole words taken in
      let job_text = rows.of_job.fits.text in
      let limit_text = rows.of_limit.fits.text in
      let size_text = rows.of_size.fits.text in
      let named : (job : Job) × (job_named job_text ≡ Some job) =
      named_job (lent at) job_text refl (accepts-Accepts false (Names (lent at)) job_text (rows.of_job.fits.job_fits rows.of_job.named)) in (
        record { job = named.0; limit = digits_value 10 (without_leading_plus limit_text); size = digits_value 10 (without_leading_plus size_text) },
        record {
          names = lent at;
          jobs = refl;
          no_fault = no_fault (fault_of (command_of (lent at)) words) (taken_where at words ∙ taken);
          job = (job_text, first_text at (matches_of (command_of (lent at)) words) (codes "job") rows.of_job, named.1);
          limit = number_given words (codes "limit") 32768 rows.of_limit (accepts-Accepts false (Unsigned 1 32768) limit_text (rows.of_limit.fits.limit_fits rows.of_limit.named));
          size = number_given words (codes "size") 4096 rows.of_size (accepts-Accepts false (Unsigned 1 4096) size_text (rows.of_size.fits.size_fits rows.of_size.named));
        },
      )
