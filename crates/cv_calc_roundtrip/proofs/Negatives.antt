-- A number and a negative calculation among the terms of a sum.
use Rattle.std.specs.Prelude.{Bool, true, false, ◌&&◌, not, option_map}
use Rattle.std.proofs.Common.{◌≡◌, refl, sym, ◌∙◌, ap, subst}
use Rattle.cv_spec_ratio.specs.Ratio.{Ratio, neg}
use Rattle.cv_frac.specs.Bounded.{in_bounds}
use Rattle.cv_calc.specs.declared.unit.Unit as units
use Rattle.cv_calc.specs.declared.unit.Unit.TheVariants.{Px, Percent}
use Rattle.cv_calc.specs.declared.context.Basis.{Basis}
use Rattle.cv_calc.specs.declared.context.Context.{Context}
use Rattle.cv_calc.specs.declared.calc.Calc.{Calc}
use Rattle.cv_calc.specs.declared.calc.Calc.TheVariants as tree
use Rattle.cv_calc.specs.declared.calc.Calc.TheOpen.{Calc-F, Num, Sum, Product, Negate, Invert, Min, Max, Clamp}
use Rattle.cv_calc.specs.declared.calc.Calc.TheViews.{out-Calc}
use Rattle.cv_calc.specs.Linear.{shape}
use Rattle.cv_calc.proofs.Shapes.{shape-Num, shape-Negate}
use Rattle.cv_calc.proofs.Values.{value-Negate}
use Rattle.cv_calcread.specs.Figures.{Evaluated}
use Rattle.cv_calcread.proofs.Evaluations.{evaluated-Negate}
use Rattle.cv_simplify.specs.Canonical.{is_canonical}
use Rattle.cv_simplify.specs.Counted.{Counted, counted_step, inside}
use Rattle.cv_simplify.specs.Simplified as simplified
use Rattle.cv_simplify.specs.Text.{Written, written, negative_placed, last_rank}
use Rattle.cv_simplify.specs.declared.place.Place.TheVariants.{Operand}
use Rattle.cv_simplify.proofs.Texts.{written-Negate}
use Rattle.cv_calc_roundtrip.specs.ReadsBack.{Keeps}
use Rattle.cv_calc_roundtrip.proofs.Answered.{all_fine}
use Rattle.cv_calc_roundtrip.proofs.Equations.{counted-Negate, inside-Negate}
use Rattle.cv_calc_roundtrip.proofs.Heads.{Head, head, head_as, head-Negate, is_negate, is_number}
use Rattle.cv_calc_roundtrip.proofs.Known.{Facts, Adding}
use Rattle.cv_calc_roundtrip.proofs.Lines.{taken_adding}
use Rattle.cv_calc_roundtrip.proofs.Mixed.{Kind, lengths, percents, model}
use Rattle.cv_calc_roundtrip.proofs.Numbers.{KnownNumber, number_known, number_opens, AddedNumber, number_added_known}
use Rattle.cv_calc_roundtrip.proofs.Quotients.{suits}
use Rattle.cv_calc_roundtrip.proofs.Terms.{lp, Opened, Known, Term}

-- ---- lengths and percentages

-- the kind of a number
pub data Measure : units.Unit → Type 0 where
  px : Measure Px
  percent : Measure Percent

abbrev pub measure_kind : {u : units.Unit} → Measure u → Kind
measure_kind px = lengths
measure_kind percent = percents

pub measure_canonical : {u : units.Unit} → Measure u → is_canonical u ≡ true
measure_canonical px = refl
measure_canonical percent = refl

pub measure_suits : {u : units.Unit} → Measure u → (y : Context) → lp y → suits u y
measure_suits px y k = tt
measure_suits percent y k = subst (λ (b : Basis). Keeps Percent b) (sym k) tt

measure_shape : {u : units.Unit} (c : Measure u) (v : Ratio) → shape (tree.Num v u) ≡ shape (model (measure_kind c))
measure_shape px v = shape-Num v Px ∙ sym (shape-Num _ Px)
measure_shape percent v = shape-Num v Percent ∙ sym (shape-Num _ Percent)

measured : {u : units.Unit} (c : Measure u) (v : Ratio) (read : Calc) → Facts (suits u) (tree.Num v u) read (tree.Num v u) (tree.Num v u) → Facts lp (tree.Num v u) read (tree.Num v u) (model (measure_kind c))
measured c v read f = record {
  written_shape = measure_shape c v;
  read_shape = f.read_shape ∙ measure_shape c v;
  simple_shape = measure_shape c v;
  fine = f.fine;
  counts = λ y k. f.counts y (measure_suits c y k);
  within = f.within;
  means = f.means;
  same = f.same;
}

number_opened : {u : units.Unit} (c : Measure u) (v : Ratio) → in_bounds v ≡ true → Opened (tree.Num v u) (tree.Num v u) (measure_kind c)
number_opened {u} c v within =
    let n : KnownNumber v u = number_known v u within (measure_canonical c) in
    record { read = n.read; opens = number_opens v u n.read n.tokens; facts = measured c v n.read n.facts }

pub measure_known : {u : units.Unit} (c : Measure u) (v : Ratio) → in_bounds v ≡ true → Known (tree.Num v u)
measure_known {u} c v within = record { simple = tree.Num v u; kind = measure_kind c; opened = number_opened c v within }

pub measure_term : {u : units.Unit} (c : Measure u) (v : Ratio) → in_bounds v ≡ true → Term (tree.Num v u)
measure_term {u} c v within =
    let n : AddedNumber v u = number_added_known v u within (measure_canonical c) in
    record { read = n.read; simple = tree.Num v u; kind = measure_kind c; adds = n.adding; facts = measured c v n.read n.facts; first = λ h. number_opened c v within }

-- ---- negatives

abbrev pub may_be_taken : Head → Bool
may_be_taken h = not (is_number h) && not (is_negate h)

pub negated_as_stays : (c : Calc) (l : Calc-F Calc) → may_be_taken (head_as l) ≡ true → simplified.negated_as c l ≡ tree.Negate c
negated_as_stays c (Num v u) h = cc
negated_as_stays c (Negate d) h = cc
negated_as_stays c (Sum ds) h = refl
negated_as_stays c (Product ds) h = refl
negated_as_stays c (Invert d) h = refl
negated_as_stays c (Min ds) h = refl
negated_as_stays c (Max ds) h = refl
negated_as_stays c (Clamp a b d) h = refl

pub negative_term : (s : Calc) → may_be_taken (head s) ≡ true → Known s → Term (tree.Negate s)
negative_term s h k =
    let o = k.opened in
    let stays : simplified.negated k.simple ≡ tree.Negate k.simple = negated_as_stays k.simple (out-Calc k.simple) (ap may_be_taken o.facts.same ∙ h) in
    let inner : inside (tree.Negate k.simple) ≡ true = inside-Negate k.simple ∙ o.facts.within in
    record {
      read = tree.Negate o.read;
      simple = tree.Negate k.simple;
      kind = k.kind;
      adds = subst (λ (w : Written). Adding w (tree.Negate o.read)) (sym (written-Negate s))
          (taken_adding (record { rank = last_rank; at_place = λ place. negative_placed place ((written s).at_place Operand) }) ((written s).at_place Operand) o.read refl o.opens.operand o.opens.operand_narrow);
      facts = record {
        written_shape = shape-Negate s ∙ o.facts.written_shape;
        read_shape = shape-Negate o.read ∙ o.facts.read_shape;
        simple_shape = shape-Negate k.simple ∙ o.facts.simple_shape;
        fine = ap (λ (e : Evaluated). all_fine e.marks) (evaluated-Negate o.read) ∙ o.facts.fine;
        counts = λ y b.
            counted-Negate y o.read ∙ ap (λ (n : Counted). counted_step y (Negate n)) (o.facts.counts y b)
            ∙ ap (λ (e : Calc). record { simple = e; in_range = inside e }) stays
            ∙ ap (λ (t : Bool). record { simple = tree.Negate k.simple; in_range = t }) inner;
        within = inner;
        means = λ m. value-Negate m k.simple ∙ ap (option_map neg) (o.facts.means m) ∙ sym (value-Negate m s);
        same = head-Negate k.simple ∙ sym (head-Negate s);
      };
      first = λ e. absurd (apart (sym (ap is_negate (head-Negate s)) ∙ e));
    }
  where
    apart : ◌≡◌ {A = Bool} true false → ⊥
    apart e = cc
