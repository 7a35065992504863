-- From the walk over places to the graph: its edges, its end, and how many edges were asked for.
use Rattle.std.proofs.Common.{List, Some, [], arith, get_or, inl, inr, length, refl, set, replicate, zero, suc, sym, ℕ, ◌+◌, ◌<◌, ◌↔◌, ◌∙◌, ◌∷◌, ◌≡◌, ◌≤◌}
use Rattle.std.specs.Prelude.{sum}
use Rattle.std.proofs.lemmas.List.Sums.{sum_by-cons}
use Rattle.std.proofs.lemmas.Option.{get_or_from_slice_get, slice_get_within, slice_get_read}
use Rattle.cv_graph.specs.Edges.{targets, HasEdge, edge_count}
use Rattle.cv_spec_element.specs.Walks.{Walk, IsCyclic}
use Rattle.cv_cycle.specs.Search.{edge, IsWalk, IsTarget}

pub IsTarget-only : (rows : List (List ℕ)) (node k to other : ℕ) → IsTarget rows node k to → IsTarget rows node k other → other ≡ to
IsTarget-only rows node k to other first second = let both : Some other ≡ Some to = sym second ∙ first in cc

pub edge_from_HasEdge : (rows : List (List ℕ)) (v w : ℕ) → HasEdge rows v w → edge (IsTarget rows) v w
edge_from_HasEdge rows v w has = (has.0, slice_get_read (targets rows v) (length (targets rows v)) has.0 w refl has.1 (sym has.2))

pub HasEdge-from_edge : (rows : List (List ℕ)) (v w : ℕ) → edge (IsTarget rows) v w → HasEdge rows v w
HasEdge-from_edge rows v w step =
    (step.0, slice_get_within (targets rows v) step.0 w step.1, get_or_from_slice_get (targets rows v) step.0 w w step.1)

walk_along : (E F : ℕ → ℕ → Type 0) → ((v w : ℕ) → E v w → F v w) → (p : ℕ) (via : List ℕ) (q : ℕ) → Walk E p via q → Walk F p via q
walk_along E F step p [] q walk = step p q walk
walk_along E F step p (c ∷ via) q walk = (step p c walk.0, walk_along E F step c via q walk.1)

-- the walk's cycles are those of the graph
pub IsCyclic-IsTarget : (rows : List (List ℕ)) (node : ℕ) → IsCyclic (edge (IsTarget rows)) node ↔ IsCyclic (HasEdge rows) node
IsCyclic-IsTarget rows node = (
  (λ loop. (loop.0, walk_along (edge (IsTarget rows)) (HasEdge rows) (HasEdge-from_edge rows) node loop.0 node loop.1)),
  (λ loop. (loop.0, walk_along (HasEdge rows) (edge (IsTarget rows)) (edge_from_HasEdge rows) node loop.0 node loop.1)),
)

-- once each node belongs to a complete component, its flag is right
pub IsWalk-end : (rows : List (List ℕ)) (stack : ℕ → ℕ) (size : ℕ) (IsOnPath IsStart IsClosed IsFlagged : ℕ → Type 0) (reads : ℕ → ℕ) → IsWalk (IsTarget rows) stack size IsOnPath IsStart IsClosed IsFlagged reads → (node : ℕ) → IsClosed node → IsFlagged node ↔ IsCyclic (HasEdge rows) node
IsWalk-end rows stack size IsOnPath IsStart IsClosed IsFlagged reads now node closed = (
  (λ flagged. (IsCyclic-IsTarget rows node).0 (now.sound node flagged)),
  (λ loop. now.full node closed ((IsCyclic-IsTarget rows node).1 loop)),
)

-- other words for the same path, starts, complete components and flags
pub IsWalk-renamed : (target : ℕ → ℕ → ℕ → Type 0) (stack : ℕ → ℕ) (size : ℕ) (IsOnPath IsOnPath' IsStart IsStart' IsClosed IsClosed' IsFlagged IsFlagged' : ℕ → Type 0) (reads : ℕ → ℕ) → ((i : ℕ) → IsOnPath i ↔ IsOnPath' i) → ((i : ℕ) → IsStart i ↔ IsStart' i) → ((v : ℕ) → IsClosed v ↔ IsClosed' v) → ((v : ℕ) → IsFlagged v ↔ IsFlagged' v) → IsWalk target stack size IsOnPath IsStart IsClosed IsFlagged reads → IsWalk target stack size IsOnPath' IsStart' IsClosed' IsFlagged' reads
IsWalk-renamed target stack size IsOnPath IsOnPath' IsStart IsStart' IsClosed IsClosed' IsFlagged IsFlagged' reads path_is starts_is closed_is flags_is now = record {
  apart = now.apart;
  unclosed = λ i below closed. now.unclosed i below ((closed_is (stack i)).1 closed);
  kept = λ v w closed step. (closed_is w).0 (now.kept v w ((closed_is v).1 closed) step);
  sound = λ v flagged. now.sound v ((flags_is v).1 flagged);
  full = λ v closed loop. (flags_is v).0 (now.full v ((closed_is v).1 closed) loop);
  loops = λ i k below asked is. (flags_is (stack i)).0 (now.loops i k below asked is);
  inside = λ b i k w start from below asked is. elim (now.inside b i k w ((starts_is b).1 start) from below asked is) [ inl closed ↦ inl ((closed_is w).0 closed) | inr stands ↦ inr stands ];
  finished = λ i below. elim (now.finished i below) [ inl on ↦ inl ((path_is i).0 on) | inr done ↦ inr done ];
  forward = now.forward;
  back = λ i j lower below none. now.back i j lower below (λ b start over upto. none b ((starts_is b).0 start) over upto);
  starts = λ b start. (path_is b).0 (now.starts b ((starts_is b).1 start));
  path = λ i on. now.path i ((path_is i).1 on);
  first = λ some. (starts_is 0).0 (now.first some);
}

-- each edge is asked for once, and once more each node
pub sum-reads : (rows : List (List ℕ)) (reads : List ℕ) → length reads ≡ length rows → ((node : ℕ) → node < length rows → get_or reads node 0 ≤ length (get_or rows node []) + 1) → sum reads ≤ edge_count rows + length rows
sum-reads [] [] same few = omega arith
sum-reads [] (count ∷ reads) same few = absurd (omega arith)
sum-reads (row ∷ rows) [] same few = absurd (omega arith)
sum-reads (row ∷ rows) (count ∷ reads) same few =
    let head : count ≤ length row + 1 = few 0 (omega arith) in
    let rest : sum reads ≤ edge_count rows + length rows = sum-reads rows reads (omega arith) (λ node below. few (suc node) (omega arith)) in
    omega (arith, head, rest, sum_by-cons (λ x. x) count reads, sum_by-cons (length {A = ℕ}) row rows)

-- one more edge was asked for
pub sum-more : (reads : List ℕ) (node : ℕ) → node < length reads → sum (set reads node (get_or reads node 0 + 1)) ≡ sum reads + 1
sum-more [] node below = absurd (omega arith)
sum-more (count ∷ reads) zero below = omega (arith, sum_by-cons (λ x. x) count reads, sum_by-cons (λ x. x) (count + 1) reads)
sum-more (count ∷ reads) (suc node) below =
    let rest : sum (set reads node (get_or reads node 0 + 1)) ≡ sum reads + 1 = sum-more reads node (omega arith) in
    omega (arith, rest, sum_by-cons (λ x. x) count reads, sum_by-cons (λ x. x) count (set reads node (get_or reads node 0 + 1)))

pub sum-fresh : (nodes : ℕ) → sum (replicate nodes 0) ≡ 0
sum-fresh zero = omega arith
sum-fresh (suc nodes) = omega (arith, sum-fresh nodes, sum_by-cons (λ x. x) 0 (replicate nodes 0))
