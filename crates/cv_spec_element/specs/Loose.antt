-- An element whose properties are all loose: unregistered custom properties.
use Rattle.std.specs.Prelude.{◌≡◌, Bool, true, false, List, [], Option, Some, None, IsSome, Contains}
use Rattle.std.specs.Bool.{Decides}
use Rattle.cv_spec_element.specs.Keywords.{Keyword}
use Rattle.cv_spec_element.specs.Words.{keyword_of}
use Rattle.cv_spec_element.specs.Element.{no, Outcome, tokens, invalid, Declarations, Element}

-- the outcome that a list is, and the guaranteed-invalid value where there is none
abbrev pub loose_outcome : {T V : Type 0} → Option (List T) → Outcome T V
loose_outcome None = invalid
loose_outcome (Some list) = tokens list

-- the parent's outcomes by its lists; none on the root
abbrev pub loose_parent : {K T V : Type 0} → Option (K → Option (List T)) → K → Option (Outcome T V)
loose_parent None p = None
loose_parent (Some values) p = Some (loose_outcome (values p))

module _ {K T : Type 0} (is_same : K → K → Bool) (font_size : K) (declarations : Declarations K T) (is_white : T → Bool) (keyword : T → Option Keyword) (parent : Option (K → Option (List T))) where
  -- no property is typed, no unit is told, and nothing is read at a font size; each inherits, and its initial
  -- value is the guaranteed-invalid one (Cascading Variables 1, "Defining Custom Properties")
  abbrev pub loose_element : Element K T ⊥ ⊥ (Unit {0})
  loose_element = record {
    declarations = declarations;
    properties = record {
      is_same = is_same;
      is_custom = λ p. true;
      is_loose = λ p. true;
      inherits = λ p. true;
      has_lengths = λ p. false;
      font_size = font_size;
    };
    words = record {
      is_white = is_white;
      keyword = keyword;
      unit = λ t. None;
      is_font_unit = λ u. false;
    };
    values = record {
      initial = λ p. invalid;
      parent = loose_parent parent;
      reads = λ p m list. no;
      text = λ value. [];
      font_size_of = λ outcome. tt;
      parent_font_size = tt;
    };
  }

  -- what the element may rest on
  pub record IsLooselyLawful : Type 0 where
    pub same : (p q : K) → Decides (is_same p q) (p ≡ q)
    pub listed : (p : K) → IsSome (declarations.pieces p) → Contains declarations.names p
    pub parent_kept : (values : K → Option (List T)) (p : K) (list : List T) → parent ≡ Some values → values p ≡ Some list → keyword_of loose_element.words list ≡ None
