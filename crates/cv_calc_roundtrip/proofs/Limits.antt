-- The least, the greatest, and what lies within limits, are known where nothing in them is compared.
use Rattle.std.specs.Prelude.{Bool, true, false, ◌&&◌, List, [], ◌∷◌, ◌++◌, map, codes, None}
use Rattle.std.proofs.Common.{◌≡◌, refl, sym, ◌∙◌, ap, ap₂, subst}
use Rattle.cv_spec_ratio.specs.Ratio.{Ratio}
use Rattle.cv_spec_ratio.specs.Order.{lesser, greater}
use Rattle.cv_calc.specs.declared.unit.Unit as units
use Rattle.cv_calc.specs.declared.context.Basis.{Basis}
use Rattle.cv_calc.specs.declared.context.Context.{Context}
use Rattle.cv_calc.specs.declared.calc.Calc.{Calc}
use Rattle.cv_calc.specs.declared.calc.Calc.TheVariants as tree
use Rattle.cv_calc.specs.declared.calc.Calc.TheOpen.{Calc-F, Num, Min, Max, Clamp}
use Rattle.cv_calc.specs.declared.calc.Calc.TheViews.{out-Calc}
use Rattle.cv_calc.specs.Unit.{same_unit}
use Rattle.cv_calc.specs.Linear.{shape, sum_shape, added_shape}
use Rattle.cv_calc.specs.Value.{value, chosen_of, both}
use Rattle.cv_calc.proofs.Shapes.{shape-Min, shape-Max, shape-Clamp}
use Rattle.cv_calcread.specs.Figures.{Evaluated, evaluated}
use Rattle.cv_calcread.specs.declared.figure.Joining.TheVariants.{Least, Greatest}
use Rattle.cv_calcread.specs.declared.level.Opened.TheVariants as opening
use Rattle.cv_calcread.proofs.Evaluations.{evaluated-Min, evaluated-Max, evaluated-Clamp}
use Rattle.cv_simplify.specs.Counted.{Counted, counted, counted_step, inside}
use Rattle.cv_simplify.specs.Simplified as simplified
use Rattle.cv_simplify.specs.Text.{Written, written, arguments_of, call, prefix, last_rank}
use Rattle.cv_simplify.proofs.Texts.{written-Min, written-Max, written-Clamp}
use Rattle.cv_calc_roundtrip.proofs.Answered.{all_fine, fine_append}
use Rattle.cv_calc_roundtrip.proofs.Choices.{Given, calcs, reads, simples, kinds, heads, shapes_written, shapes_read, shapes_simple, heads_same, within_all, counted_all, values_all, fine_chosen, arguments_line, called}
use Rattle.cv_calc_roundtrip.proofs.Equations.{counted-Min, counted-Max, counted-Clamp, inside-Min, inside-Max, inside-Clamp, value-Min, value-Max, value-Clamp}
use Rattle.cv_calc_roundtrip.proofs.Heads.{Head, number, head, head_as, head-Min, head-Max, head-Clamp, apart, row_apart}
use Rattle.cv_calc_roundtrip.proofs.Known.{Opening}
use Rattle.cv_calc_roundtrip.proofs.Mixed.{Kind, model, join, joined_kind, joined_merged, sum_kinds, added_kinds}
use Rattle.cv_calc_roundtrip.proofs.Terms.{lp, Known, in_range, simple_of_all, children_all}

-- percentages aren't compared
abbrev pub compared : units.Unit → Bool
compared = simplified.may_compare false

-- what a function of some children makes of a row that stays
row_counts : (y : Context) (f : Ratio → Ratio → Ratio) (cs : List Calc) → lp y → apart compared [] (map head cs) ≡ true → simplified.choice_row (simplified.compares_percent y.basis) f cs ≡ cs
row_counts y f cs k h = ap (λ (b : Basis). simplified.choice_row (simplified.compares_percent b) f cs) k ∙ row_apart compared f [] cs h

module _ (g d : Given) (gs : List Given) (differ : apart compared [] (heads (g ∷ d ∷ gs)) ≡ true) where
  abbrev all : List Given
  all = g ∷ d ∷ gs

  abbrev kind : Kind
  kind = joined_kind g.known.kind (kinds (d ∷ gs))

  stays : apart compared [] (map head (simples all)) ≡ true
  stays = ap (apart compared []) (heads_same all) ∙ differ

  shape_of : (ss : List Calc) → map shape ss ≡ map (λ k. shape (model k)) (kinds all) → sum_shape (map shape ss) ≡ shape (model kind)
  shape_of ss e = ap sum_shape e ∙ sum_kinds (kinds all) kind (joined_merged g.known.kind (kinds (d ∷ gs)))

  -- ---- the least

  min_counts : (y : Context) → lp y → counted y (tree.Min (reads all)) ≡ record { simple = tree.Min (simples all); in_range = true }
  min_counts y k =
      counted-Min y (reads all)
      ∙ ap (λ cs. counted_step y (Min cs)) (counted_all y k all)
      ∙ ap₂ (λ cs b. record {
        simple = simplified.one_or tree.Min (simplified.choice_row (simplified.compares_percent y.basis) lesser cs);
        in_range = b && inside (simplified.one_or tree.Min (simplified.choice_row (simplified.compares_percent y.basis) lesser cs));
      }) (simple_of_all (simples all)) (children_all (simples all))
      ∙ ap (λ row. record { simple = simplified.one_or tree.Min row; in_range = inside (simplified.one_or tree.Min row) }) (row_counts y lesser (simples all) k stays)
      ∙ ap (λ b. record { simple = tree.Min (simples all); in_range = b }) (inside-Min (simples all) ∙ within_all all)

  pub min_known : Known (tree.Min (calcs all))
  min_known = record {
    simple = tree.Min (simples all);
    kind = kind;
    opened = record {
      read = tree.Min (reads all);
      opens = subst (λ (w : Written). Opening w (tree.Min (reads all))) (sym (written-Min (calcs all)))
          (called (record { rank = last_rank; at_place = λ place. prefix place ++ call (codes "min") (arguments_of (map written (calcs all))) }) (codes "min") opening.Min g (d ∷ gs) (tree.Min (reads all))
          (ap (call (codes "min")) (arguments_line g (d ∷ gs))) (ap (call (codes "min")) (arguments_line g (d ∷ gs))) refl refl refl refl);
      facts = record {
        written_shape = shape-Min (calcs all) ∙ shape_of (calcs all) (shapes_written all);
        read_shape = shape-Min (reads all) ∙ shape_of (reads all) (shapes_read all);
        simple_shape = shape-Min (simples all) ∙ shape_of (simples all) (shapes_simple all);
        fine = ap (λ (e : Evaluated). all_fine e.marks) (evaluated-Min (reads all)) ∙ fine_chosen Least g (d ∷ gs);
        counts = min_counts;
        within = inside-Min (simples all) ∙ within_all all;
        means = λ m. value-Min m (simples all) ∙ ap (chosen_of lesser) (values_all m all) ∙ sym (value-Min m (calcs all));
        same = head-Min (simples all) ∙ sym (head-Min (calcs all));
      };
    };
  }

  -- ---- the greatest

  max_counts : (y : Context) → lp y → counted y (tree.Max (reads all)) ≡ record { simple = tree.Max (simples all); in_range = true }
  max_counts y k =
      counted-Max y (reads all)
      ∙ ap (λ cs. counted_step y (Max cs)) (counted_all y k all)
      ∙ ap₂ (λ cs b. record {
        simple = simplified.one_or tree.Max (simplified.choice_row (simplified.compares_percent y.basis) greater cs);
        in_range = b && inside (simplified.one_or tree.Max (simplified.choice_row (simplified.compares_percent y.basis) greater cs));
      }) (simple_of_all (simples all)) (children_all (simples all))
      ∙ ap (λ row. record { simple = simplified.one_or tree.Max row; in_range = inside (simplified.one_or tree.Max row) }) (row_counts y greater (simples all) k stays)
      ∙ ap (λ b. record { simple = tree.Max (simples all); in_range = b }) (inside-Max (simples all) ∙ within_all all)

  pub max_known : Known (tree.Max (calcs all))
  max_known = record {
    simple = tree.Max (simples all);
    kind = kind;
    opened = record {
      read = tree.Max (reads all);
      opens = subst (λ (w : Written). Opening w (tree.Max (reads all))) (sym (written-Max (calcs all)))
          (called (record { rank = last_rank; at_place = λ place. prefix place ++ call (codes "max") (arguments_of (map written (calcs all))) }) (codes "max") opening.Max g (d ∷ gs) (tree.Max (reads all))
          (ap (call (codes "max")) (arguments_line g (d ∷ gs))) (ap (call (codes "max")) (arguments_line g (d ∷ gs))) refl refl refl refl);
      facts = record {
        written_shape = shape-Max (calcs all) ∙ shape_of (calcs all) (shapes_written all);
        read_shape = shape-Max (reads all) ∙ shape_of (reads all) (shapes_read all);
        simple_shape = shape-Max (simples all) ∙ shape_of (simples all) (shapes_simple all);
        fine = ap (λ (e : Evaluated). all_fine e.marks) (evaluated-Max (reads all)) ∙ fine_chosen Greatest g (d ∷ gs);
        counts = max_counts;
        within = inside-Max (simples all) ∙ within_all all;
        means = λ m. value-Max m (simples all) ∙ ap (chosen_of greater) (values_all m all) ∙ sym (value-Max m (calcs all));
        same = head-Max (simples all) ∙ sym (head-Max (calcs all));
      };
    };
  }

-- ---- within limits

-- three numbers of one unit, other than of percentages
abbrev pub clampable : Head → Head → Head → Bool
clampable (number v u) (number w t) (number z s) = same_unit u t && same_unit u s && compared u
clampable _ _ _ = false

clamped_as_none : (k l n : Calc-F Calc) → clampable (head_as k) (head_as l) (head_as n) ≡ false → simplified.number_clamped_as false k l n ≡ None
clamped_as_none (Num v u) (Num w t) (Num z s) h = rw h refl
clamped_as_none (Num v u) (Num w t) _ h = refl
clamped_as_none (Num v u) _ n h = refl
clamped_as_none _ l n h = refl

module _ (g d e : Given) (differ : clampable (head g.calc) (head d.calc) (head e.calc) ≡ false) where
  abbrev three : List Given
  three = g ∷ d ∷ e ∷ []

  abbrev limited : Calc
  limited = tree.Clamp g.known.opened.read d.known.opened.read e.known.opened.read

  abbrev limits : Calc
  limits = tree.Clamp g.known.simple d.known.simple e.known.simple

  abbrev clamp_kind : Kind
  clamp_kind = join (join g.known.kind d.known.kind) e.known.kind

  clamp_stays : (y : Context) → lp y → simplified.clamped (simplified.compares_percent y.basis) g.known.simple d.known.simple e.known.simple ≡ limits
  clamp_stays y k =
      ap (λ (b : Basis). simplified.clamped (simplified.compares_percent b) g.known.simple d.known.simple e.known.simple) k
      ∙ ap (λ o. simplified.clamped_as o g.known.simple d.known.simple e.known.simple)
      (clamped_as_none (out-Calc g.known.simple) (out-Calc d.known.simple) (out-Calc e.known.simple)
      (ap₂ (λ h k. clampable h k (head e.known.simple)) g.known.opened.facts.same d.known.opened.facts.same ∙ ap (clampable (head g.calc) (head d.calc)) e.known.opened.facts.same ∙ differ))

  inside_limits : inside limits ≡ true
  inside_limits = inside-Clamp g.known.simple d.known.simple e.known.simple ∙ all_three (inside g.known.simple) (inside d.known.simple) (inside e.known.simple) g.known.opened.facts.within d.known.opened.facts.within e.known.opened.facts.within
    where
      all_three : (a b c : Bool) → a ≡ true → b ≡ true → c ≡ true → (a && b && c) ≡ true
      all_three true true true h k l = refl
      all_three true true false h k l = cc
      all_three true false c h k l = cc
      all_three false b c h k l = cc

  clamp_counts : (y : Context) → lp y → counted y limited ≡ record { simple = limits; in_range = true }
  clamp_counts y k =
      counted-Clamp y g.known.opened.read d.known.opened.read e.known.opened.read
      ∙ ap₂ (λ (a b : Counted). counted_step y (Clamp a b (counted y e.known.opened.read))) (g.known.opened.facts.counts y k) (d.known.opened.facts.counts y k)
      ∙ ap (λ (c : Counted). counted_step y (Clamp (in_range g.known.simple) (in_range d.known.simple) c)) (e.known.opened.facts.counts y k)
      ∙ ap (λ (c : Calc). record { simple = c; in_range = inside c }) (clamp_stays y k)
      ∙ ap (λ (b : Bool). record { simple = limits; in_range = b }) inside_limits

  three_shapes : (a b c : Calc) → shape a ≡ shape (model g.known.kind) → shape b ≡ shape (model d.known.kind) → shape c ≡ shape (model e.known.kind) → shape (tree.Clamp a b c) ≡ shape (model clamp_kind)
  three_shapes a b c p q r =
      shape-Clamp a b c ∙ ap₂ added_shape (ap₂ added_shape p q ∙ added_kinds g.known.kind d.known.kind) r ∙ added_kinds (join g.known.kind d.known.kind) e.known.kind

  clamp_fine : all_fine (evaluated limited).marks ≡ true
  clamp_fine =
      ap (λ (v : Evaluated). all_fine v.marks) (evaluated-Clamp g.known.opened.read d.known.opened.read e.known.opened.read)
      ∙ fine_append (evaluated g.known.opened.read).marks _ g.known.opened.facts.fine
      (fine_append (evaluated d.known.opened.read).marks (evaluated e.known.opened.read).marks d.known.opened.facts.fine e.known.opened.facts.fine)

  pub clamp_known : Known (tree.Clamp g.calc d.calc e.calc)
  clamp_known = record {
    simple = limits;
    kind = clamp_kind;
    opened = record {
      read = limited;
      opens = subst (λ (w : Written). Opening w limited) (sym (written-Clamp g.calc d.calc e.calc))
          (called (record { rank = last_rank; at_place = λ place. prefix place ++ call (codes "clamp") (arguments_of (map written (calcs three))) }) (codes "clamp") opening.Clamp g (d ∷ e ∷ []) limited
          (ap (call (codes "clamp")) (arguments_line g (d ∷ e ∷ []))) (ap (call (codes "clamp")) (arguments_line g (d ∷ e ∷ []))) refl refl refl refl);
      facts = record {
        written_shape = three_shapes g.calc d.calc e.calc g.known.opened.facts.written_shape d.known.opened.facts.written_shape e.known.opened.facts.written_shape;
        read_shape = three_shapes g.known.opened.read d.known.opened.read e.known.opened.read g.known.opened.facts.read_shape d.known.opened.facts.read_shape e.known.opened.facts.read_shape;
        simple_shape = three_shapes g.known.simple d.known.simple e.known.simple g.known.opened.facts.simple_shape d.known.opened.facts.simple_shape e.known.opened.facts.simple_shape;
        fine = clamp_fine;
        counts = clamp_counts;
        within = inside_limits;
        means = λ m. value-Clamp m g.known.simple d.known.simple e.known.simple
            ∙ ap₂ (λ p q. both greater p (both lesser q (value m e.known.simple))) (g.known.opened.facts.means m) (d.known.opened.facts.means m)
            ∙ ap (λ r. both greater (value m g.calc) (both lesser (value m d.calc) r)) (e.known.opened.facts.means m)
            ∙ sym (value-Clamp m g.calc d.calc e.calc);
        same = head-Clamp g.known.simple d.known.simple e.known.simple ∙ sym (head-Clamp g.calc d.calc e.calc);
      };
    };
  }
