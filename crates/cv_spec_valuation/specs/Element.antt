-- The element with these declarations, this parent and this place, as the equations read it.
use Rattle.std.specs.Prelude.{ℕ, if◌then◌else◌, List, codes, Option, Some, None, is_none}
use Rattle.std.specs.Map.{keys_of}
use Rattle.cv_spec_text.specs.Keywords.{is_word}
use Rattle.cv_spec_text.specs.declared.token.Token.{Token}
use Rattle.cv_spec_text.specs.declared.token.Token.TheVariants.{Ident}
use Rattle.cv_spec_ratio.specs.Ratio.{Ratio}
use Rattle.cv_component.specs.Parts.{is_white}
use Rattle.cv_calc.specs.declared.unit.Unit.{Unit as Measure}
use Rattle.cv_calc_laws.specs.Units.{token_unit}
use Rattle.cv_calc_laws.specs.Fonts.{is_font_unit}
use Rattle.cv_value.specs.declared.typed.Typed.{Typed}
use Rattle.cv_value.specs.Text.{typed_text}
use Rattle.cv_property.specs.declared.property.Property.TheVariants.{FontSize}
use Rattle.cv_spec_element.specs.Pieces.{Pieces, finish, token, reference, reference_or}
use Rattle.cv_spec_element.specs.Keywords.{Keyword, initial, inherit, unset, revert, revert_layer}
use Rattle.cv_spec_element.specs.Words.{Words}
use Rattle.cv_spec_element.specs.Element.{Outcome, tokens, typed, invalid, Declarations, Properties, Element}
use Rattle.cv_var.specs.References.{pieces_of}
use Rattle.cv_valuation.specs.declared.key.Key.{Key}
use Rattle.cv_valuation.specs.declared.key.Key.TheVariants.{Custom, Table}
use Rattle.cv_valuation.specs.declared.outcome.Outcome.TheVariants.{Value}
use Rattle.cv_valuation.specs.Keys.{same_key}
use Rattle.cv_valuation.specs.Valuations.{Values, outcome_at}
use Rattle.cv_props.specs.declared.decls.Decl.{Decl}
use Rattle.cv_props.specs.Registered.{Registered}
use Rattle.cv_props.specs.Winners.{declaration_of}
use Rattle.cv_props.specs.Winners as winners
use Rattle.cv_spec_valuation.specs.declared.place.Place.{Place}
use Rattle.cv_spec_valuation.specs.Registered.{as_read, is_custom, is_loose, inherits, has_lengths, initial_at}
use Rattle.cv_spec_valuation.specs.Contexts.{medium_size, told, size_of, size_above, reads_at}

-- the pieces of a list, with keys for the names of custom properties
abbrev pub keyed : Pieces (List ℕ) Token → Pieces Key Token
keyed finish = finish
keyed (token t rest) = token t (keyed rest)
keyed (reference n rest) = reference (Custom n) (keyed rest)
keyed (reference_or n fallback rest) = reference_or (Custom n) (keyed fallback) (keyed rest)

-- the pieces of a declaration, if there is one
abbrev pub pieces_in : Option Decl → Option (Pieces Key Token)
pieces_in None = None
pieces_in (Some declaration) = Some (keyed (pieces_of declaration.value))

-- the declarations that won, by key, under this limit (Cascading Variables 1, "Safely Handling Overly-Long Variables")
abbrev pub declared_in : winners.Declarations → ℕ → Declarations Key Token
declared_in decls most = record {
  names = keys_of decls;
  pieces = λ key. pieces_in (declaration_of decls key);
  limit = most;
}

-- the CSS-wide keyword of this name, without ASCII case (Values and Units 4, "CSS-wide keywords")
abbrev pub keyword_named : List ℕ → Option Keyword
keyword_named name =
    if is_word (codes "initial") name then Some initial
    else (if is_word (codes "inherit") name then Some inherit
    else (if is_word (codes "unset") name then Some unset
    else (if is_word (codes "revert") name then Some revert
    else (if is_word (codes "revert-layer") name then Some revert_layer else None))))

abbrev pub keyword : Token → Option Keyword
keyword (Ident name) = keyword_named name
keyword _ = None

-- what the equations see of a token; on the root, `rem` is relative to the element's own font size
abbrev pub words_at : Place → Words Token Measure
words_at place = record {
  is_white = is_white;
  keyword = keyword;
  unit = token_unit;
  is_font_unit = is_font_unit (is_none place.root);
}

abbrev pub properties_in : Registered → Properties Key
properties_in registered = record {
  is_same = same_key;
  is_custom = is_custom;
  is_loose = is_loose registered;
  inherits = inherits registered;
  has_lengths = has_lengths registered;
  font_size = Table FontSize;
}

-- the values as the equations read them
abbrev pub values_of : Values → Key → Outcome Token Typed
values_of values key = as_read (outcome_at values key)

-- the parent's outcomes; none on the root
abbrev pub parent_in : Option Values → Key → Option (Outcome Token Typed)
parent_in None key = None
parent_in (Some values) key = Some (values_of values key)

-- the size that the value of `font-size` is
abbrev pub font_size_of : Outcome Token Typed → Ratio
font_size_of (tokens list) = medium_size
font_size_of (typed value) = size_of (Value value)
font_size_of invalid = medium_size

-- the element (Cascading Variables 1; Properties and Values API 1)
abbrev pub the_element : Registered → winners.Declarations → Option Values → Place → ℕ → Element Key Token Typed Measure Ratio
the_element registered decls parent place most = record {
  declarations = declared_in decls most;
  properties = properties_in registered;
  words = words_at place;
  values = record {
    initial = λ key. as_read (initial_at registered key);
    parent = parent_in parent;
    reads = λ key em list. told (reads_at registered parent place key em list);
    text = typed_text;
    font_size_of = font_size_of;
    parent_font_size = size_above parent;
  };
}
