-- A sum of terms that aren't joined: how its text reads, and that it stays.
use Rattle.std.specs.Prelude.{ℕ, nat_lt, Bool, true, false, ◌&&◌, not, List, [], ◌∷◌, ◌++◌, fold, map, Some, None}
use Rattle.std.proofs.Common.{◌≡◌, refl, sym, ◌∙◌, ap, ap₂, subst, append_assoc}
use Rattle.std.proofs.lemmas.List.{append-nil}
use Rattle.std.proofs.lemmas.List.Sums.{fold-append}
use Rattle.cv_spec_text.specs.declared.token.Token.{Token}
use Rattle.cv_spec_ratio.specs.Ratio.{add, zero_ratio}
use Rattle.cv_calc.specs.declared.unit.Unit as units
use Rattle.cv_calc.specs.declared.unit.Unit.TheVariants as unit
use Rattle.cv_calc.specs.declared.context.Context.{Context}
use Rattle.cv_calc.specs.declared.calc.Calc.{Calc}
use Rattle.cv_calc.specs.declared.calc.Calc.TheVariants as tree
use Rattle.cv_calc.specs.declared.calc.Calc.TheOpen as layer
use Rattle.cv_calc.specs.Tree.{by_cases}
use Rattle.cv_calc.specs.Linear.{shape, sum_shape}
use Rattle.cv_calc.specs.Value.{Meaning, value, both, sum_of}
use Rattle.cv_calc.proofs.Shapes.{shape-Sum}
use Rattle.cv_calc.proofs.Values.{value-Sum, both_comm, both_assoc, both_zero}
use Rattle.cv_calcread.specs.Figures as figures
use Rattle.cv_calcread.specs.Figures.{Evaluated, evaluated}
use Rattle.cv_calcread.specs.declared.figure.Joining.TheVariants.{Add}
use Rattle.cv_calcread.specs.Grammar.{ReadsTerms, term, factor, none}
use Rattle.cv_calcread.specs.Literals.{exact_number}
use Rattle.cv_calcread.proofs.Evaluations.{evaluated-Sum}
use Rattle.cv_simplify.specs.Counted.{Counted, counted, counted_step, inside, all_inside, longer_inside, prefixes_inside}
use Rattle.cv_simplify.specs.Simplified.{any_unit, joined_by, with_child as with_calc, one_or, sum_row, summed, with_terms_of}
use Rattle.cv_simplify.specs.Text.{Written, with_child, no_line, written, unit_rank, line_of, ranks}
use Rattle.cv_simplify.specs.declared.place.Place.TheVariants.{Operand, Added}
use Rattle.cv_simplify.proofs.Texts.{written-Num, written-Sum, written-Product, written-Negate, written-Invert, written-Min, written-Max, written-Clamp}
use Rattle.cv_calc_roundtrip.proofs.Answered.{all_fine}
use Rattle.cv_calc_roundtrip.proofs.Digits.{and_true, both_true}
use Rattle.cv_calc_roundtrip.proofs.Equations.{counted-Sum, inside-Sum, inside_append}
use Rattle.cv_calc_roundtrip.proofs.Heads.{Head, sum, head, head-Sum, is_negate, is_number, is_sum, apart, none_joins, with_none, map_append, numbers_alone, nums_are, terms_alone, not_true}
use Rattle.cv_calc_roundtrip.proofs.Known.{Facts, Opening}
use Rattle.cv_calc_roundtrip.proofs.Lines.{rank_of, line_is, bracket_value, bracket_narrow}
use Rattle.cv_calc_roundtrip.proofs.Mixed.{Kind, model, merge, merge_comm, merge_assoc, merge_none, merged, joined_kind, joined_merged, sum_kinds}
use Rattle.cv_calc_roundtrip.proofs.Numerals.{narrow}
use Rattle.cv_calc_roundtrip.proofs.Ranks.{in_ranks, in_ranks_map, total, total_in_ranks}
use Rattle.cv_calc_roundtrip.proofs.Terms.{lp, Opened, Known, Entry, calcs, reads, simples, kinds, texts, shapes_written, shapes_read, shapes_simple, heads_same, within_all, in_range, counted_all, simple_of_all, children_all, fine_fold, fine_all, all_each, line_added, line_narrow}

-- ---- rows of terms

abbrev pub no_sums : List Head → Bool
no_sums [] = true
no_sums (h ∷ hs) = not (is_sum h) && no_sums hs

row_more : (before : List Calc) (c : Calc) → sum_row before ≡ before → is_sum (head c) ≡ false → none_joins any_unit (map head before) (head c) ≡ true → sum_row (before ++ c ∷ []) ≡ before ++ c ∷ []
row_more before c e s h =
    fold-append with_terms_of [] before (c ∷ [])
    ∙ ap (λ row. with_terms_of row c) e
    ∙ ap (fold (with_calc (joined_by any_unit add)) before) (terms_alone c s)
    ∙ with_none any_unit add before c h

inside_one : (row : List Calc) → all_inside row ≡ true → inside (one_or tree.Sum row) ≡ true
inside_one [] h = inside-Sum []
inside_one (c ∷ []) h = (and_true (inside c) true h).0
inside_one (c ∷ d ∷ cs) h = inside-Sum (c ∷ d ∷ cs) ∙ h

pub record Rows (before cs : List Calc) : Type 0 where
  pub row : sum_row (before ++ cs) ≡ before ++ cs
  pub prefixes : longer_inside summed before cs ≡ true

pub rows : (before cs : List Calc) → sum_row before ≡ before → no_sums (map head cs) ≡ true → apart any_unit (map head before) (map head cs) ≡ true → all_inside before ≡ true → all_inside cs ≡ true → Rows before cs
rows before [] e s h i j = record { row = ap sum_row (append-nil before) ∙ e ∙ sym (append-nil before); prefixes = refl }
rows before (c ∷ cs) e s h i j =
    let p = and_true (not (is_sum (head c))) (no_sums (map head cs)) s in
    let q = and_true (none_joins any_unit (map head before) (head c)) (apart any_unit (map head before ++ head c ∷ []) (map head cs)) h in
    let k = and_true (inside c) (all_inside cs) j in
    let row : sum_row (before ++ c ∷ []) ≡ before ++ c ∷ [] = row_more before c e (not_true (is_sum (head c)) p.0) q.0 in
    let within : all_inside (before ++ c ∷ []) ≡ true = inside_append before (c ∷ []) i (both_true (inside c) true k.0 refl) in
    let more : Rows (before ++ c ∷ []) cs = rows (before ++ c ∷ []) cs row p.1 (ap (λ hs. apart any_unit hs (map head cs)) (map_append head before (c ∷ [])) ∙ q.1) within k.1 in
    let shift : (before ++ c ∷ []) ++ cs ≡ before ++ c ∷ cs = append_assoc before (c ∷ []) cs in
    record {
      row = ap sum_row (sym shift) ∙ more.row ∙ shift;
      prefixes = both_true (inside (summed (before ++ c ∷ []))) (longer_inside summed (before ++ c ∷ []) cs) (ap inside (ap (one_or tree.Sum) row) ∙ inside_one (before ++ c ∷ []) within) more.prefixes;
    }

-- ---- the order of ranks

unit_bound : (u : units.Unit) → nat_lt (unit_rank u) ranks ≡ true
unit_bound unit.Number = refl
unit_bound _ = refl

pub rank_bound : (c : Calc) → nat_lt (written c).rank ranks ≡ true
rank_bound = by_cases (λ c. nat_lt (written c).rank ranks ≡ true) (record {
  num = λ v u. ap (λ (w : Written). nat_lt w.rank ranks) (written-Num v u) ∙ unit_bound u;
  sum = λ cs h. ap (λ (w : Written). nat_lt w.rank ranks) (written-Sum cs);
  product = λ cs h. ap (λ (w : Written). nat_lt w.rank ranks) (written-Product cs);
  negate = λ c h. ap (λ (w : Written). nat_lt w.rank ranks) (written-Negate c);
  invert = λ c h. ap (λ (w : Written). nat_lt w.rank ranks) (written-Invert c);
  min = λ cs h. ap (λ (w : Written). nat_lt w.rank ranks) (written-Min cs);
  max = λ cs h. ap (λ (w : Written). nat_lt w.rank ranks) (written-Max cs);
  clamp = λ a b c h k l. ap (λ (w : Written). nat_lt w.rank ranks) (written-Clamp a b c);
})

abbrev pub rank : Entry → ℕ
rank e = (written e.calc).rank

bound : (e : Entry) → nat_lt (rank e) ranks ≡ true
bound e = rank_bound e.calc

abbrev pub sorted : List Entry → List Entry
sorted es = in_ranks rank ranks es

abbrev pub heads : List Entry → List Head
heads es = map (λ (e : Entry). head e.calc) es

kinds_sorted : (es : List Entry) → merged (kinds (sorted es)) ≡ merged (kinds es)
kinds_sorted es = sym (all (sorted es)) ∙ total_in_ranks rank (λ (e : Entry). Some e.term.kind) None merge merge_comm merge_assoc merge_none ranks bound es ∙ all es
  where
    all : (es : List Entry) → total rank (λ (e : Entry). Some e.term.kind) None merge merge_comm merge_assoc merge_none es ≡ merged (kinds es)
    all [] = refl
    all (e ∷ es) = ap (merge (Some e.term.kind)) (all es)

values_sorted : (m : Meaning) (es : List Entry) → sum_of (map (value m) (calcs (sorted es))) ≡ sum_of (map (value m) (calcs es))
values_sorted m es = sym (all (sorted es)) ∙ total_in_ranks rank (λ (e : Entry). value m e.calc) (Some zero_ratio) (both add) both_comm both_assoc both_zero ranks bound es ∙ all es
  where
    all : (es : List Entry) → total rank (λ (e : Entry). value m e.calc) (Some zero_ratio) (both add) both_comm both_assoc both_zero es ≡ sum_of (map (value m) (calcs es))
    all [] = refl
    all (e ∷ es) = ap (both add (value m e.calc)) (all es)

pub and_comm : (a b : Bool) → (a && b) ≡ (b && a)
and_comm true true = refl
and_comm true false = refl
and_comm false true = refl
and_comm false false = refl

pub and_assoc : (a b c : Bool) → ((a && b) && c) ≡ (a && (b && c))
and_assoc true b c = refl
and_assoc false b c = refl

pub and_unit : (a : Bool) → (a && true) ≡ a
and_unit true = refl
and_unit false = refl

abbrev pub both_and : Bool → Bool → Bool
both_and a b = a && b

numbers_sorted : (es : List Entry) → numbers_alone (heads (sorted es)) ≡ numbers_alone (heads es)
numbers_sorted es = sym (all (sorted es)) ∙ total_in_ranks rank (λ (e : Entry). is_number (head e.calc)) true both_and and_comm and_assoc and_unit ranks bound es ∙ all es
  where
    all : (es : List Entry) → total rank (λ (e : Entry). is_number (head e.calc)) true both_and and_comm and_assoc and_unit es ≡ numbers_alone (heads es)
    all [] = refl
    all (e ∷ es) = ap (λ b. is_number (head e.calc) && b) (all es)

values_simple : (m : Meaning) (es : List Entry) → map (value m) (simples es) ≡ map (value m) (calcs es)
values_simple m [] = refl
values_simple m (e ∷ es) = ap₂ (λ r rs. r ∷ rs) (e.term.facts.means m) (values_simple m es)

heads_calcs : (es : List Entry) → map head (calcs es) ≡ heads es
heads_calcs [] = refl
heads_calcs (e ∷ es) = ap (λ hs. head e.calc ∷ hs) (heads_calcs es)

written_calcs : (es : List Entry) → map written (calcs es) ≡ texts es
written_calcs [] = refl
written_calcs (e ∷ es) = ap (λ ws. written e.calc ∷ ws) (written_calcs es)

-- ---- the sum

module _ (es : List Entry) (first second : Entry) (rest : List Entry) (order : sorted es ≡ first ∷ second ∷ rest) (begins : is_negate (head first.calc) ≡ false)
    (differ : apart any_unit [] (heads (first ∷ second ∷ rest)) ≡ true) (flat : no_sums (heads (first ∷ second ∷ rest)) ≡ true) where
  abbrev others : List Entry
  others = second ∷ rest

  abbrev all : List Entry
  all = first ∷ second ∷ rest

  abbrev o : Opened first.calc first.term.simple first.term.kind
  o = first.term.first begins

  abbrev read_all : List Calc
  read_all = o.read ∷ reads others

  kind : Kind
  kind = joined_kind first.term.kind (kinds others)

  kind_is : merged (kinds all) ≡ Some kind
  unfolding kind
  kind_is = joined_merged first.term.kind (kinds others)

  kind_written : merged (kinds es) ≡ Some kind
  kind_written = sym (kinds_sorted es) ∙ ap (λ xs. merged (kinds xs)) order ∙ kind_is

  -- ---- facts

  shapes_all : map shape read_all ≡ map (λ k. shape (model k)) (kinds all)
  shapes_all = ap₂ (λ s ss. s ∷ ss) o.facts.read_shape (shapes_read others)

  counted_read : (y : Context) → lp y → map (counted y) read_all ≡ map in_range (simples all)
  counted_read y k = ap₂ (λ (c : Counted) (cs : List Counted). c ∷ cs) (o.facts.counts y k) (counted_all y k others)

  heads_all : map head (simples all) ≡ heads all
  heads_all = heads_same all

  row_all : Rows [] (simples all)
  row_all = rows [] (simples all) refl (ap no_sums heads_all ∙ flat) (ap (apart any_unit []) heads_all ∙ differ) refl (within_all all)

  inside_sum : inside (tree.Sum (simples all)) ≡ true
  inside_sum = inside-Sum (simples all) ∙ within_all all

  sum_counts : (y : Context) → lp y → counted y (tree.Sum read_all) ≡ record { simple = tree.Sum (simples all); in_range = true }
  sum_counts y k =
      counted-Sum y read_all
      ∙ ap (λ cs. counted_step y (layer.Sum cs)) (counted_read y k)
      ∙ ap₂ (λ cs b. record { simple = summed cs; in_range = (b && prefixes_inside summed cs) && inside (summed cs) }) (simple_of_all (simples all)) (children_all (simples all))
      ∙ ap (λ row. record { simple = one_or tree.Sum row; in_range = prefixes_inside summed (simples all) && inside (one_or tree.Sum row) }) row_all.row
      ∙ ap (λ b. record { simple = tree.Sum (simples all); in_range = b })
      (both_true (prefixes_inside summed (simples all)) (inside (tree.Sum (simples all)))
      (both_true (inside (summed [])) (longer_inside summed [] (simples all)) (inside-Sum []) row_all.prefixes) inside_sum)

  sum_means : (m : Meaning) → value m (tree.Sum (simples all)) ≡ value m (tree.Sum (calcs es))
  sum_means m =
      value-Sum m (simples all) ∙ ap sum_of (values_simple m all) ∙ ap (λ xs. sum_of (map (value m) (calcs xs))) (sym order) ∙ values_sorted m es ∙ sym (value-Sum m (calcs es))

  sum_head : head (tree.Sum (simples all)) ≡ head (tree.Sum (calcs es))
  sum_head =
      head-Sum (simples all)
      ∙ ap sum (nums_are (simples all) ∙ ap numbers_alone heads_all ∙ ap (λ xs. numbers_alone (heads xs)) (sym order) ∙ numbers_sorted es ∙ ap numbers_alone (sym (heads_calcs es)) ∙ sym (nums_are (calcs es)))
      ∙ sym (head-Sum (calcs es))

  sum_facts : Facts lp (tree.Sum (calcs es)) (tree.Sum read_all) (tree.Sum (simples all)) (model kind)
  sum_facts = record {
    written_shape = shape-Sum (calcs es) ∙ ap sum_shape (shapes_written es) ∙ sum_kinds (kinds es) kind kind_written;
    read_shape = shape-Sum read_all ∙ ap sum_shape shapes_all ∙ sum_kinds (kinds all) kind kind_is;
    simple_shape = shape-Sum (simples all) ∙ ap sum_shape (shapes_simple all) ∙ sum_kinds (kinds all) kind kind_is;
    fine = ap (λ (e : Evaluated). all_fine e.marks) (evaluated-Sum read_all) ∙ fine_fold Add (figures.begun_with zero_ratio) read_all refl (both_true (all_fine (evaluated o.read).marks) (all_each (reads others)) o.facts.fine (fine_all others));
    counts = sum_counts;
    within = inside_sum;
    means = sum_means;
    same = sum_head;
  }

  -- ---- the text

  line_all : line_of Added (map written (calcs es)) ≡ (fold (with_child Operand Added) (record { line = (written first.calc).at_place Operand; started = true }) (texts others)).line
  line_all =
      line_is Added (map written (calcs es))
      ∙ ap (λ ws. (fold (with_child Operand Added) no_line ws).line)
      (ap (in_ranks rank_of ranks) (written_calcs es) ∙ sym (in_ranks_map rank rank_of (λ (e : Entry). written e.calc) (λ e. refl) ranks es) ∙ ap texts order)

  whole_all : (after : List Token) → ReadsTerms exact_number (line_of Added (map written (calcs es)) ++ after) after read_all
  whole_all after =
      subst (λ (ts : List Token). ReadsTerms exact_number (ts ++ after) after read_all) (sym line_all)
      (line_added ((written first.calc).at_place Operand) (o.read ∷ []) others (λ r. term (factor none (o.opens.operand r))) after)

  narrow_all : narrow (line_of Added (map written (calcs es))) ≡ true
  narrow_all = ap narrow line_all ∙ line_narrow ((written first.calc).at_place Operand) others o.opens.operand_narrow

  sum_opens : Opening (written (tree.Sum (calcs es))) (tree.Sum read_all)
  sum_opens = subst (λ (w : Written). Opening w (tree.Sum read_all)) (sym (written-Sum (calcs es))) (record {
    operand = bracket_value (line_of Added (map written (calcs es))) read_all (tree.Sum read_all) whole_all refl;
    operand_narrow = bracket_narrow (line_of Added (map written (calcs es))) narrow_all;
    terms = read_all;
    whole = whole_all;
    whole_narrow = narrow_all;
    joined = refl;
    argument = refl;
  })

  pub sum_known : Known (tree.Sum (calcs es))
  sum_known = record { simple = tree.Sum (simples all); kind = kind; opened = record { read = tree.Sum read_all; opens = sum_opens; facts = sum_facts } }
