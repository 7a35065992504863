-- Which properties of an element depend on which, and which of them on themselves.
use Rattle.std.specs.Prelude.{◌≡◌, true, false, List, Option, Some, None, IsSome, ◌⊎◌}
use Rattle.cv_spec_element.specs.Pieces.{Pieces, finish, token, reference, reference_or, RefersTo}
use Rattle.cv_spec_element.specs.Walks.{Reaches, IsCyclic}
use Rattle.cv_spec_element.specs.Keywords.{Keyword, unset, by_keyword}
use Rattle.cv_spec_element.specs.Words.{Words, HasUnit}
use Rattle.cv_spec_element.specs.Element.{Outcome, tokens, typed, invalid, Element}

module _ {K T U : Type 0} (words : Words T U) where
  -- a token of the declaration has the unit, at any depth
  abbrev pub DeclaresUnit : Pieces K T → U → Type 0
  DeclaresUnit finish u = ⊥
  DeclaresUnit (token t rest) u = (words.unit t ≡ Some u) ⊎ DeclaresUnit rest u
  DeclaresUnit (reference n rest) u = DeclaresUnit rest u
  DeclaresUnit (reference_or n fallback rest) u = DeclaresUnit fallback u ⊎ DeclaresUnit rest u

  -- a token of the declaration is a CSS-wide keyword, at any depth
  abbrev pub DeclaresKeyword : Pieces K T → Type 0
  DeclaresKeyword finish = ⊥
  DeclaresKeyword (token t rest) = ((w : Keyword) × (words.keyword t ≡ Some w)) ⊎ DeclaresKeyword rest
  DeclaresKeyword (reference n rest) = DeclaresKeyword rest
  DeclaresKeyword (reference_or n fallback rest) = DeclaresKeyword fallback ⊎ DeclaresKeyword rest

module _ {K T V U M : Type 0} (e : Element K T V U M) where
  -- the tokens that stand for an outcome in the place of a reference (Cascading Variables 1, "Substitute a var()")
  abbrev pub tokens_of : Outcome T V → Option (List T)
  tokens_of (tokens list) = Some list
  tokens_of (typed value) = Some (e.values.text value)
  tokens_of invalid = None

  -- what a CSS-wide keyword gives the property, and what it has where it isn't declared
  abbrev pub keyword_value : K → Keyword → Outcome T V
  keyword_value p w = by_keyword (e.values.initial p) (e.values.parent p) (e.properties.inherits p) w

  abbrev pub undeclared_value : K → Outcome T V
  undeclared_value p = keyword_value p unset

  -- the tokens of the outcome have the unit
  abbrev pub OutcomeHasUnit : Outcome T V → U → Type 0
  OutcomeHasUnit outcome u = (list : List T) × (tokens_of outcome ≡ Some list) × HasUnit e.words list u

  -- the declaration refers to the property (Cascading Variables 1, "Resolving Dependency Cycles")
  abbrev pub Refers : K → K → Type 0
  Refers p q = (pieces : Pieces K T) × (e.declarations.pieces p ≡ Some pieces) × RefersTo pieces q

  -- the declaration holds a CSS-wide keyword
  abbrev pub HoldsKeyword : K → Type 0
  HoldsKeyword p = (pieces : Pieces K T) × (e.declarations.pieces p ≡ Some pieces) × DeclaresKeyword e.words pieces

  -- The units that a property holds by itself: those of its declaration; of a loose one also those of the lists
  -- that it may take in place of its own. The standard says that units of a registered property make edges
  -- (Properties and Values API 1, "Dependency Cycles via Relative Units"); what counts as held is this project's
  -- own, since a unit may arrive through other properties.
  pub data Owns (p : K) (u : U) : Type 0 where
    declares : (pieces : Pieces K T) → e.declarations.pieces p ≡ Some pieces → DeclaresUnit e.words pieces u → Owns p u
    takes_undeclared : e.properties.is_loose p ≡ true → e.declarations.pieces p ≡ None → OutcomeHasUnit (undeclared_value p) u → Owns p u
    takes_initial : e.properties.is_loose p ≡ true → HoldsKeyword p → OutcomeHasUnit (e.values.initial p) u → Owns p u
    takes_parent : e.properties.is_loose p ≡ true → HoldsKeyword p → (value : Outcome T V) → e.values.parent p ≡ Some value → OutcomeHasUnit value u → Owns p u

  -- the declaration refers to a loose property
  abbrev pub RefersLoosely : K → K → Type 0
  RefersLoosely p q = Refers p q × (e.properties.is_loose q ≡ true)

  -- the held units: those of the property itself, and those of the loose ones that it refers to through loose ones
  abbrev pub Holds : K → U → Type 0
  Holds p u = Owns p u ⊎ ((q : K) × Reaches RefersLoosely p q × Owns q u)

  -- a declared custom property of a syntax with lengths, which holds a unit that is relative to the font size
  -- (Properties and Values API 1, "Dependency Cycles via Relative Units")
  pub record ReadsFontSize (p : K) : Type 0 where
    pub declared : IsSome (e.declarations.pieces p)
    pub is_typed : e.properties.is_loose p ≡ false
    pub custom : e.properties.is_custom p ≡ true
    pub has_lengths : e.properties.has_lengths p ≡ true
    pub unit : U
    pub relative : e.words.is_font_unit unit ≡ true
    pub held : Holds p unit

  -- an edge of the dependency graph (Cascading Variables 1, "Resolving Dependency Cycles"; Properties and Values
  -- API 1, "Dependency Cycles via Relative Units")
  abbrev pub Edge : K → K → Type 0
  Edge p q = Refers p q ⊎ ((q ≡ e.properties.font_size) × ReadsFontSize p)

  -- the property is on a dependency cycle
  abbrev pub DependsOnItself : K → Type 0
  DependsOnItself p = IsCyclic Edge p

  -- an ordinary property but `font-size` itself, declared: its grammar is read at the element's font size
  pub record IsReadAtFontSize (p : K) : Type 0 where
    pub ordinary : e.properties.is_custom p ≡ false
    pub other : ¬ (p ≡ e.properties.font_size)
    pub declared : IsSome (e.declarations.pieces p)

  -- the equation of p reads the value of q: along an edge, where p isn't on a cycle, or as an ordinary property
  -- reads the font size
  abbrev pub Reads : K → K → Type 0
  Reads p q = ((¬ DependsOnItself p) × Edge p q) ⊎ ((q ≡ e.properties.font_size) × IsReadAtFontSize p)

  -- what the equation of p may read: along an edge, or as an ordinary property reads the font size
  abbrev pub Needs : K → K → Type 0
  Needs p q = Edge p q ⊎ ((q ≡ e.properties.font_size) × IsReadAtFontSize p)
