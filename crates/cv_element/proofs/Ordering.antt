-- An order along the edges is a plan.
use Rattle.std.proofs.Common.{◌≡◌, ℕ, ◌<◌, ◌↔◌, zero-le, Bool, true, false, List, [], ◌∷◌, length, get_or, Option, Some, None, inl, inr, refl, sym, ◌∙◌, ap, subst, arith}
use Rattle.std.specs.Prelude.{IsSome, slice_index}
use Rattle.std.specs.List.{IsDistinct}
use Rattle.std.specs.Map.{keys_of}
use Rattle.std.proofs.lemmas.Bool.{cases_lt}
use Rattle.std.proofs.lemmas.List.{get_or_past}
use Rattle.cv_cycle.specs.Marks.{IsMarked, StandsIn}
use Rattle.cv_graph.specs.Edges.{HasEdge}
use Rattle.cv_spec_element.specs.Walks.{Walk, IsCyclic}
use Rattle.cv_spec_element.specs.Dependencies.{Edge, DependsOnItself, IsReadAtFontSize, Needs, Reads}
use Rattle.cv_spec_element.specs.Premises.{IsNamed}
use Rattle.cv_spec_element.specs.Numbering.{NumberEdge, IsNumbering}
use Rattle.cv_valuation.specs.declared.key.Key.{Key}
use Rattle.cv_valuation.specs.Keys.{same_key}
use Rattle.cv_valuation.specs.TableLaws.{PropertiesAreFound}
use Rattle.cv_valuation.specs.Valuations.{Values}
use Rattle.cv_props.specs.declared.decls.Decl.{Decl}
use Rattle.cv_props.specs.Registered.{Registered}
use Rattle.cv_props.specs.Winners.{Declarations, declaration_of}
use Rattle.cv_spec_valuation.specs.declared.place.Place.{Place}
use Rattle.cv_spec_valuation.specs.Element.{pieces_in, the_element}
use Rattle.cv_element.specs.Holding.{NeedsAt}
use Rattle.cv_element.specs.Settling.{key_at, IsPlan}
use Rattle.cv_element.specs.Values.{AnElement}
use Rattle.cv_element.proofs.Ending.{some_declared}
use Rattle.cv_element.proofs.Placing.{distinct, place_of}

-- an edge leads from a node alone
edge_below : (rows : List (List ℕ)) (i j : ℕ) → HasEdge rows i j → i < length rows
edge_below rows i j has =
    elim (cases_lt i (length rows)) [
      | inl below ↦ below
      | inr past ↦ absurd (omega (arith, has.1, ap (λ l. length l) (get_or_past rows i [] past)))
    ]

module _ (registered : Registered) (decls : Declarations) (parent : Option Values) (place : Place) (most : ℕ) (found : PropertiesAreFound) (once : IsDistinct same_key (keys_of decls)) (rows : List (List ℕ)) (count : length rows ≡ length decls) (edges : (from to : ℕ) → from < length rows → HasEdge rows from to ↔ NeedsAt (the_element registered decls parent place most) decls from to) where
  abbrev e : AnElement
  e = the_element registered decls parent place most

  is_some : (o : Option Decl) → IsSome o → (d : Decl) × (o ≡ Some d)
  is_some (Some d) some = (d, refl)
  is_some None some = cc

  pub numbering : IsNumbering e (key_at decls) rows
  numbering = record {
    apart = λ i j below_i below_j same. distinct found decls once i j (omega (arith, below_i, count)) (omega (arith, below_j, count)) same;
    numbered = λ p q edge some.
        let d = is_some (declaration_of decls q) (some_declared (declaration_of decls q) some) in
        let at = place_of found decls once q d.0 d.1 in
        (at.0, omega (arith, at.1, count), at.2);
    bounded = λ i j has. let needs = (edges i j (edge_below rows i j has)).0 has in omega (arith, needs.0, count);
    full = λ i j below_i below_j edge. (edges i j below_i).1 (omega (arith, below_j, count), inl edge);
    needed = λ i j below_i below_j has. ((edges i j below_i).0 has).1;
  }

  -- what is read is needed
  reads_need : (p q : Key) → Reads e p q → Needs e p q
  reads_need p q (inl (loopless, edge)) = inl edge
  reads_need p q (inr size) = inr size

  -- an edge leads to the end of each walk
  last_edge : (p : Key) (via : List Key) (q : Key) → Walk (Edge e) p via q → (r : Key) × Edge e r q
  last_edge p [] q walk = (p, walk)
  last_edge p (c ∷ via) q walk = last_edge c via q walk.1

  -- no edge leads to an ordinary property but `font-size`
  ordinary_loopless : IsNamed e → (p : Key) → IsReadAtFontSize e p → ¬ DependsOnItself e p
  ordinary_loopless named p ordinary loop =
      let last = last_edge p loop.0 p loop.1 in
      elim last.1 [
        | inl refers ↦ (let custom = named.refers_custom last.0 p refers in let clash : true ≡ false = sym custom ∙ ordinary.ordinary in cc)
        | inr size ↦ ordinary.other size.0
      ]

  reader_loopless : IsNamed e → (p q : Key) → Reads e p q → ¬ DependsOnItself e p
  reader_loopless named p q (inl (loopless, edge)) = loopless
  reader_loopless named p q (inr size) = ordinary_loopless named p size.1

  module _ (named : IsNamed e) (order : List ℕ) (flags : List Bool) (cycles : (i : ℕ) → i < length rows → IsCyclic (NumberEdge rows) i ↔ DependsOnItself e (key_at decls i)) (cyclic : (node : ℕ) → IsMarked flags node ↔ IsCyclic (HasEdge rows) node) (stands : (node : ℕ) → (node < length rows) ↔ StandsIn order 0 (length rows) node) (different : (i j : ℕ) → i < length rows → j < length rows → get_or order i 0 ≡ get_or order j 0 → i ≡ j) (earlier : (at to : ℕ) → at < length rows → ¬ IsCyclic (HasEdge rows) (get_or order at 0) → HasEdge rows (get_or order at 0) to → StandsIn order 0 at to) where
    pub plan : IsPlan e decls order flags
    plan = record {
      stands = λ node. subst (λ n. (node < n) ↔ StandsIn order 0 n node) count (stands node);
      once = λ i j below_i below_j. different i j (omega (arith, below_i, count)) (omega (arith, below_j, count));
      cyclic = λ node below. (
        (λ marked. (cycles node (omega (arith, below, count))).0 ((cyclic node).0 marked)),
        (λ depends. (cyclic node).1 ((cycles node (omega (arith, below, count))).1 depends)),
      );
      earlier = λ at to below_at below_to reads.
          let within : at < length rows = omega (arith, below_at, count) in
          let node : get_or order at 0 < length rows = (stands (get_or order at 0)).1 (at, zero-le, within, refl) in
          let loopless = reader_loopless named (key_at decls (get_or order at 0)) (key_at decls to) reads in
          earlier at to within (λ loop. loopless ((cycles (get_or order at 0) node).0 loop)) ((edges (get_or order at 0) to node).1 (below_to, reads_need (key_at decls (get_or order at 0)) (key_at decls to) reads));
    }
