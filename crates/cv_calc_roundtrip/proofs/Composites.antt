-- Calculations that are no numbers: they stand last among their siblings, and with brackets or a name of their own.
use Rattle.std.specs.Prelude.{List, ◌++◌}
use Rattle.std.proofs.Common.{◌≡◌, refl, sym, subst}
use Rattle.cv_calc.specs.declared.calc.Calc.{Calc}
use Rattle.cv_calc.specs.declared.calc.Calc.TheVariants as tree
use Rattle.cv_simplify.specs.Text.{Written, written, last_rank, operator}
use Rattle.cv_simplify.specs.declared.place.Place.TheVariants.{Operand, Added, Multiplied}
use Rattle.cv_simplify.proofs.Texts.{written-Sum, written-Product, written-Min, written-Max, written-Clamp}
use Rattle.cv_calc_roundtrip.proofs.Lines.{plain_adding}
use Rattle.cv_calc_roundtrip.proofs.Terms.{Known, Term}

pub record Composite (w : Written) : Type 0 where
  pub rank : w.rank ≡ last_rank
  pub added : w.at_place Added ≡ operator 0x2b ++ w.at_place Operand
  pub multiplied : w.at_place Multiplied ≡ operator 0x2a ++ w.at_place Operand

pub composite-Sum : (cs : List Calc) → Composite (written (tree.Sum cs))
composite-Sum cs = subst Composite (sym (written-Sum cs)) (record { rank = refl; added = refl; multiplied = refl })

pub composite-Product : (cs : List Calc) → Composite (written (tree.Product cs))
composite-Product cs = subst Composite (sym (written-Product cs)) (record { rank = refl; added = refl; multiplied = refl })

pub composite-Min : (cs : List Calc) → Composite (written (tree.Min cs))
composite-Min cs = subst Composite (sym (written-Min cs)) (record { rank = refl; added = refl; multiplied = refl })

pub composite-Max : (cs : List Calc) → Composite (written (tree.Max cs))
composite-Max cs = subst Composite (sym (written-Max cs)) (record { rank = refl; added = refl; multiplied = refl })

pub composite-Clamp : (a b c : Calc) → Composite (written (tree.Clamp a b c))
composite-Clamp a b c = subst Composite (sym (written-Clamp a b c)) (record { rank = refl; added = refl; multiplied = refl })

-- among the terms of a sum
pub composite_term : (s : Calc) → Composite (written s) → Known s → Term s
composite_term s c k = record {
  read = k.opened.read;
  simple = k.simple;
  kind = k.kind;
  adds = plain_adding (written s) k.opened.read c.added k.opened.opens;
  facts = k.opened.facts;
  first = λ h. k.opened;
}
