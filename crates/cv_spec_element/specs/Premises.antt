-- What the equations may rest on, so that they have one solution.
use Rattle.std.specs.Prelude.{◌≡◌, true, false, List, Some, None, IsSome, Contains}
use Rattle.std.specs.Bool.{Decides}
use Rattle.cv_spec_element.specs.Words.{HasUnit, keyword_of}
use Rattle.cv_spec_element.specs.Element.{fit, Outcome, tokens, typed, invalid, Element}
use Rattle.cv_spec_element.specs.Dependencies.{Refers}

module _ {K T V U M : Type 0} (e : Element K T V U M) where
  -- what the names are to the element
  pub record IsNamed : Type 0 where
    -- the test of properties is exact
    pub same : (p q : K) → Decides (e.properties.is_same p q) (p ≡ q)
    -- each property that has a declaration stands among the declared ones
    pub listed : (p : K) → IsSome (e.declarations.pieces p) → Contains e.declarations.names p
    -- references are to custom properties
    pub refers_custom : (p q : K) → Refers e p q → e.properties.is_custom q ≡ true

  -- the text of a typed value is no CSS-wide keyword, and has no unit that is relative to the font size
  pub record IsPlainValue (value : V) : Type 0 where
    pub no_keyword : keyword_of e.words (e.values.text value) ≡ None
    pub no_font_unit : (u : U) → e.words.is_font_unit u ≡ true → ¬ HasUnit e.words (e.values.text value) u

  -- what may be kept for a property: for a loose one tokens that are no CSS-wide keyword, or the guaranteed-invalid
  -- value, and for another a typed value; a reference may put the text of a custom one into a list
  abbrev pub IsKept : K → Outcome T V → Type 0
  IsKept p (tokens list) = (e.properties.is_loose p ≡ true) × (keyword_of e.words list ≡ None)
  IsKept p (typed value) = (e.properties.is_loose p ≡ false) × (e.properties.is_custom p ≡ true → IsPlainValue value)
  IsKept p invalid = e.properties.is_loose p ≡ true

  -- what is given before the element is computed is what may be kept
  pub record IsInherited : Type 0 where
    pub initial_kept : (p : K) → IsKept p (e.values.initial p)
    pub parent_kept : (p : K) (value : Outcome T V) → e.values.parent p ≡ Some value → IsKept p value

  -- how grammars and syntaxes read lists
  pub record IsMatching : Type 0 where
    -- a typed value of a custom property is in canonical units, and is no keyword
    pub plain_value : (p : K) (m : M) (list : List T) (value : V) → e.properties.is_loose p ≡ false → e.properties.is_custom p ≡ true → e.values.reads p m list ≡ fit value → IsPlainValue value
    -- a custom property reads a list without font units alike at every font size
    pub reads_alike : (p : K) (m n : M) (list : List T) → e.properties.is_loose p ≡ false → e.properties.is_custom p ≡ true → ((u : U) → e.words.is_font_unit u ≡ true → ¬ HasUnit e.words list u) → e.values.reads p m list ≡ e.values.reads p n list
    -- and every list, where its syntax has no lengths
    pub reads_plain : (p : K) (m n : M) (list : List T) → e.properties.is_loose p ≡ false → e.properties.is_custom p ≡ true → e.properties.has_lengths p ≡ false → e.values.reads p m list ≡ e.values.reads p n list

  pub record IsLawful : Type 0 where
    pub named : IsNamed
    pub inherited : IsInherited
    pub matching : IsMatching
