-- What holds of a property where it holds of those that it refers to, outside of cycles, holds of every one.
use Rattle.std.proofs.Common.{List, [], ◌∷◌, is_some, inl, refl, ap}
use Rattle.std.specs.Prelude.{IsSome, Contains}
use Rattle.cv_spec_element.specs.Walks.{Walk}
use Rattle.cv_spec_element.specs.Element.{Element}
use Rattle.cv_spec_element.specs.Dependencies.{Refers, Edge, DependsOnItself}
use Rattle.cv_spec_element.proofs.Members.{In-from_Contains}
use Rattle.cv_spec_element.proofs.Solutions.{Reads, by_edges}

-- the property isn't on a cycle, and refers to the other
abbrev pub Follows : {K T V U M : Type 0} → Element K T V U M → K → K → Type 0
Follows e p q = (¬ DependsOnItself e p) × Refers e p q

module _ {K T V U M : Type 0} (e : Element K T V U M) (listed : (p : K) → IsSome (e.declarations.pieces p) → Contains e.declarations.names p) where
  first_loopless : (p q : K) (via : List K) → Walk (Follows e) p via q → ¬ DependsOnItself e p
  first_loopless p q [] walk = walk.0
  first_loopless p q (c ∷ via) walk = walk.0.0

  along_edges : (p q : K) (via : List K) → Walk (Follows e) p via q → Walk (Edge e) p via q
  along_edges p q [] walk = inl walk.1
  along_edges p q (c ∷ via) walk = (inl walk.0.1, along_edges c q via walk.1)

  abbrev nothing : (K → Unit {0}) → K → Unit {0}
  nothing v p = tt

  abbrev Nothing : K → Unit {0} → Type 0
  Nothing p u = Unit {0}

  follows_read : Reads e.declarations.names (Follows e) nothing Nothing
  follows_read = record {
    begins = λ p q follows. In-from_Contains e.declarations.names p (listed p (ap is_some follows.1.1));
    loopless = λ p reaches. first_loopless p p reaches.0 reaches.1 (reaches.0, along_edges p p reaches.0 reaches.1);
    step = λ v w p same. (refl, tt);
  }

  pub by_follows : (P : K → Type 0) → ((p : K) → ((q : K) → Follows e p q → P q) → P p) → (p : K) → P p
  by_follows P step = by_edges e.declarations.names (Follows e) nothing Nothing follows_read P step
