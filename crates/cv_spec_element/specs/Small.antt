-- A small element with a typed property that takes a unit through a loose one: the laws speak of such elements too.
use Rattle.std.specs.Prelude.{ℕ, ◌*◌, Bool, true, false, List, [], ◌∷◌, Option, Some, None}
use Rattle.cv_spec_element.specs.Pieces.{Pieces, finish, token, reference}
use Rattle.cv_spec_element.specs.Element.{Matched, no, fit, Outcome, tokens, typed, invalid, Element}

-- `font-size`, a name with the syntax `<length>`, and an unregistered one
pub data SmallName : Type 0 where
  size : SmallName
  length : SmallName
  loose : SmallName

-- dimensions
pub data SmallToken : Type 0 where
  px : ℕ → SmallToken
  em : ℕ → SmallToken

pub data SmallUnit : Type 0 where
  absolute : SmallUnit
  relative : SmallUnit

abbrev pub same_name : SmallName → SmallName → Bool
same_name size size = true
same_name length length = true
same_name loose loose = true
same_name _ _ = false

abbrev pub is_custom_name : SmallName → Bool
is_custom_name size = false
is_custom_name length = true
is_custom_name loose = true

abbrev pub is_loose_name : SmallName → Bool
is_loose_name size = false
is_loose_name length = false
is_loose_name loose = true

abbrev pub small_unit : SmallToken → Option SmallUnit
small_unit (px n) = Some absolute
small_unit (em n) = Some relative

abbrev pub is_relative : SmallUnit → Bool
is_relative absolute = false
is_relative relative = true

-- one dimension, in px
abbrev pub read_length : ℕ → List SmallToken → Matched ℕ
read_length m [] = no
read_length m (px n ∷ []) = fit n
read_length m (em n ∷ []) = fit (n * m)
read_length m (t ∷ second ∷ rest) = no

abbrev pub first_value : SmallName → Outcome SmallToken ℕ
first_value size = typed 16
first_value length = typed 0
first_value loose = invalid

abbrev pub size_in_px : Outcome SmallToken ℕ → ℕ
size_in_px (typed n) = n
size_in_px (tokens list) = 16
size_in_px invalid = 16

-- `--length: var(--loose); --loose: 2em`
abbrev pub small_declaration : SmallName → Option (Pieces SmallName SmallToken)
small_declaration size = None
small_declaration length = Some (reference loose finish)
small_declaration loose = Some (token (em 2) finish)

abbrev pub small_element : Element SmallName SmallToken ℕ SmallUnit ℕ
small_element = record {
  declarations = record { names = length ∷ loose ∷ []; pieces = small_declaration; limit = 16384 };
  properties = record {
    is_same = same_name;
    is_custom = is_custom_name;
    is_loose = is_loose_name;
    inherits = λ p. false;
    has_lengths = λ p. true;
    font_size = size;
  };
  words = record {
    is_white = λ t. false;
    keyword = λ t. None;
    unit = small_unit;
    is_font_unit = is_relative;
  };
  values = record {
    initial = first_value;
    parent = λ p. None;
    reads = λ p m list. read_length m list;
    text = λ value. px value ∷ [];
    font_size_of = size_in_px;
    parent_font_size = 16;
  };
}
