-- The texts of replies (CSS Typed OM 1, "The StylePropertyMap", for what they tell). Their form is this project's own.
use Rattle.std.specs.Prelude.{ℕ, Bool, true, false, is_some, List, [], ◌∷◌, ◌++◌, codes, decimal, length, map, Option, Some, None, Result, Ok, Err}
use Rattle.cv_spec_text.specs.Characters.{line_feed, space}
use Rattle.cv_valuation.specs.declared.computed.Computed.{Computed}
use Rattle.cv_valuation.specs.declared.key.Key.{Key}
use Rattle.cv_valuation.specs.Keys.{key_named, key_text}
use Rattle.cv_valuation.specs.Valuations.{outcome_at, outcome_text}
use Rattle.cv_props.specs.declared.decls.Decl.{Decl}
use Rattle.cv_props.specs.Winners.{Declarations, declaration_of}
use Rattle.cv_map.specs.declared.error.MapErr.{MapErr}
use Rattle.cv_map.specs.declared.error.MapErr.TheVariants.{NoProperty, BadValue, NotList, Memory}
use Rattle.cv_reify.specs.declared.error.ReifyErr.{ReifyErr}
use Rattle.cv_reify.specs.declared.style.Style.{Style}
use Rattle.cv_reify.specs.ComputedStyle.{computed_style}
use Rattle.cv_reify.specs.DeclaredStyle.{declared_style}
use Rattle.cv_reify.specs.Text.{joined, style_text, style_text_or_none}

-- the line of the reply to the command with this number
abbrev pub reply_line : ℕ → List ℕ → List ℕ
reply_line number text = decimal number ++ codes ": " ++ text ++ line_feed ∷ []

-- ---- refusals

-- why a call of a property map is refused; want of memory has no text
abbrev pub refusal_text : MapErr → List ℕ
refusal_text NoProperty = codes "refused NoProperty"
refusal_text NotList = codes "refused NotList"
refusal_text BadValue = codes "refused BadValue"
refusal_text Memory = []

-- the property is out of range on the element
abbrev pub range_text : ℕ → Key → List ℕ
range_text element property = codes "refused Range " ++ decimal element ++ space ∷ key_text property

-- what is told of the property of a name; a name of no property is refused
abbrev pub named_text : (Key → List ℕ) → List ℕ → List ℕ
named_text text name = by (key_named name)
  where
    by : Option Key → List ℕ
    by None = refusal_text NoProperty
    by (Some key) = text key

-- ---- what is declared

abbrev pub bool_text : Bool → List ℕ
bool_text true = codes "true"
bool_text false = codes "false"

abbrev pub has_text : Declarations → List ℕ → List ℕ
has_text declarations name = named_text (λ key. bool_text (is_some (declaration_of declarations key))) name

-- the text of a declaration's object; one that is out of range has none, and none such stands in a session
abbrev pub object_text : Result Style ReifyErr → List ℕ
object_text (Ok style) = style_text style
object_text (Err error) = []

abbrev pub declared_text : Key → Decl → List ℕ
declared_text key declaration = object_text (declared_style key declaration)

abbrev pub declared_or_none : Key → Option Decl → List ℕ
declared_or_none key None = codes "none"
declared_or_none key (Some declaration) = declared_text key declaration

abbrev pub get_text : Declarations → List ℕ → List ℕ
get_text declarations name = named_text (λ key. declared_or_none key (declaration_of declarations key)) name

abbrev pub in_brackets : List ℕ → List ℕ
in_brackets text = codes "[" ++ text ++ codes "]"

abbrev pub declared_if_any : Key → Option Decl → List ℕ
declared_if_any key None = []
declared_if_any key (Some declaration) = declared_text key declaration

abbrev pub get_all_text : Declarations → List ℕ → List ℕ
get_all_text declarations name = named_text (λ key. in_brackets (declared_if_any key (declaration_of declarations key))) name

-- a property with the object of its declaration
abbrev pub entry_text : Key × Decl → List ℕ
entry_text (key, declaration) = key_text key ++ codes ": " ++ declared_text key declaration

abbrev pub entries_text : Declarations → List ℕ
entries_text declarations = in_brackets (joined (map entry_text declarations))

-- ---- what is computed

abbrev pub computed_text : Computed → List ℕ → List ℕ
computed_text computed name = named_text (λ key. outcome_text (outcome_at computed.values key)) name

abbrev pub reify_text : Computed → List ℕ → List ℕ
reify_text computed name = named_text (λ key. style_text_or_none (computed_style key (outcome_at computed.values key))) name
