-- The tree of elements, each with its declarations, under a registry and in a viewport: the values on each, given its parent's
-- (Cascade 4, "Inheritance"), and which property is out of range.
use Rattle.std.specs.Prelude.{ℕ, ◌≡◌, List, length, map, Option, Some, None}
use Rattle.std.specs.List.{All, slice_get}
use Rattle.cv_spec_ratio.specs.Ratio.{Ratio}
use Rattle.cv_doc.specs.declared.elements.Elem.{Elem}
use Rattle.cv_doc.specs.Kept.{IsParentOf}
use Rattle.cv_doc.specs.Reading.{Shape}
use Rattle.cv_spec_element.specs.Valuation.{IsValuation}
use Rattle.cv_valuation.specs.declared.computed.Computed.{Computed}
use Rattle.cv_valuation.specs.declared.key.Key.{Key}
use Rattle.cv_valuation.specs.Valuations.{Values}
use Rattle.cv_props.specs.Registered.{AreEntries, Registered}
use Rattle.cv_props.specs.Registration.{viewport}
use Rattle.cv_props.specs.Sheets.{registry_of}
use Rattle.cv_props.specs.Winners.{Declarations}
use Rattle.cv_spec_valuation.specs.declared.place.Place.{Place}
use Rattle.cv_spec_valuation.specs.Computed.{IsComputed, StandUnder}
use Rattle.cv_spec_valuation.specs.Computed as alone
use Rattle.cv_spec_valuation.specs.Contexts.{size_above}
use Rattle.cv_spec_valuation.specs.Element.{the_element, values_of}
use Rattle.cv_tree.specs.Styles.{declarations_of, rules_in}

-- Elements by index, each with its parent and its declarations; what is registered; and the size of the viewport in px.
pub record Tree : Type 0 where
  pub registered : Registered
  pub parents : List (Option ℕ)
  pub declarations : List Declarations
  pub width : ℕ
  pub height : ℕ

-- the tree of these elements
abbrev pub the_tree : Registered → List (Option ℕ) → List Declarations → ℕ → ℕ → Tree
the_tree registered parents declarations width height = record { registered = registered; parents = parents; declarations = declarations; width = width; height = height }

-- element 0 has no parent, and each other one an earlier element
abbrev pub AreEarlier : List (Option ℕ) → Type 0
AreEarlier parents = (i : ℕ) (parent : Option ℕ) → slice_get parents i ≡ Some parent → IsParentOf i parent

-- each parent is an earlier element, each element has declarations, and what is registered is what a sheet may register
pub record IsTree (tree : Tree) : Type 0 where
  pub earlier : AreEarlier tree.parents
  pub declared : length tree.declarations ≡ length tree.parents
  pub entries : AreEntries tree.registered

-- the element with this index has this parent and these declarations
pub record StandsAt (tree : Tree) (i : ℕ) (parent : Option ℕ) (decls : Declarations) : Type 0 where
  pub under : slice_get tree.parents i ≡ Some parent
  pub declares : slice_get tree.declarations i ≡ Some decls

-- the values of a parent, none on the root
abbrev pub parent_in : List Values → Option ℕ → Option Values
parent_in all None = None
parent_in all (Some parent) = slice_get all parent

-- the root's font size, for each other element (Values and Units 4, "Relative Lengths")
abbrev pub root_size : List Values → Option ℕ → Option Ratio
root_size all None = None
root_size all (Some parent) = Some (size_above (slice_get all 0))

-- where an element with this parent stands, in a viewport of this size
abbrev pub place_in : ℕ → ℕ → List Values → Option ℕ → Place
place_in width height all parent = record { width = width; height = height; root = root_size all parent }

-- all values stand under the registry
abbrev pub AllStand : Registered → List Computed → Type 0
AllStand registered all = All (λ computed. StandUnder registered computed.values) all

abbrev pub values_in : List Computed → List Values
values_in all = map (λ computed. computed.values) all

module _ (tree : Tree) (most : ℕ) where
  -- the values solve the equations of an element with this parent and these declarations, where these are the values of all
  abbrev pub AreOfElement : List Values → Option ℕ → Declarations → Values → Type 0
  AreOfElement all parent decls values = IsValuation (the_element tree.registered decls (parent_in all parent) (place_in tree.width tree.height all parent) most) (values_of values)

  -- the same, with the causes for which properties are invalid, where no property of the element is out of range
  abbrev pub IsOfElement : List Values → Option ℕ → Declarations → Computed → Type 0
  IsOfElement all parent decls computed = IsComputed tree.registered decls (parent_in all parent) (place_in tree.width tree.height all parent) most computed

  -- On each of the first elements, so many as this, are values that solve its equations, given its parent's.
  pub record AreSolved (n : ℕ) (all : List Values) : Type 0 where
    pub count : length all ≡ n
    pub each : (i : ℕ) (parent : Option ℕ) (decls : Declarations) (values : Values) → StandsAt tree i parent decls → slice_get all i ≡ Some values → AreOfElement all parent decls values

  -- the values of the whole tree
  abbrev pub AreValuations : List Values → Type 0
  AreValuations all = AreSolved (length tree.parents) all

  -- the same, with the causes, and no property is out of range on these elements
  pub record AreComputed (n : ℕ) (all : List Computed) : Type 0 where
    pub count : length all ≡ n
    pub each : (i : ℕ) (parent : Option ℕ) (decls : Declarations) (computed : Computed) → StandsAt tree i parent decls → slice_get all i ≡ Some computed → IsOfElement (values_in all) parent decls computed

  -- On this element the property isn't invalid and is out of range, and on no earlier element one is.
  pub record IsOutOfRange (element : ℕ) (property : Key) : Type 0 where
    pub before : List Computed
    pub computed : AreComputed element before
    pub stand : AllStand tree.registered before
    pub parent : Option ℕ
    pub decls : Declarations
    pub stands : StandsAt tree element parent decls
    pub out : alone.IsOutOfRange tree.registered decls (parent_in (values_in before) parent) (place_in tree.width tree.height (values_in before) parent) most property

  -- no property is out of range on any element
  abbrev pub AreInRange : Type 0
  AreInRange = (element : ℕ) (property : Key) → ¬ IsOutOfRange element property

-- the tree of a document
abbrev pub parent_of : Elem → Option ℕ
parent_of element = element.parent

abbrev pub tree_of : Shape → Tree
tree_of document =
    the_tree (registry_of (viewport document.width document.height) (rules_in document.sheet)) (map parent_of document.elements) (map declarations_of document.elements) document.width document.height
