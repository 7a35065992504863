-- The text of a typed value reads back as an equal value, by the component that gave the value (CSSOM, "Serializing CSS Values"; CSS
-- Properties and Values API 1, "Syntax Strings"). The component alone is asked: under `<length> | <number>` the list `calc(0)` is the
-- number 0, and its text `0` would be a length. That a text is nested at most 128 deep is this project's own, as matching has it.
use Rattle.std.specs.Prelude.{◌≡◌, ◌≤◌, List, [], ◌∷◌, ◌++◌, All}
use Rattle.cv_spec_text.specs.declared.token.Token.{Token}
use Rattle.cv_component.specs.Nesting.{depth}
use Rattle.cv_calc.specs.declared.context.Context.{Context}
use Rattle.cv_numeric.specs.declared.matched.Matched.TheVariants.{No, Fit}
use Rattle.cv_syntax.specs.declared.syntax.Component.{Component}
use Rattle.cv_syntax.specs.declared.syntax.Syntax.{Syntax}
use Rattle.cv_syntax.specs.declared.syntax.Syntax.TheVariants.{Of}
use Rattle.cv_value.specs.declared.typed.Item.{Item}
use Rattle.cv_value.specs.declared.typed.Typed.{Typed}
use Rattle.cv_value.specs.declared.typed.Typed.TheVariants.{One, Spaces, Commas}
use Rattle.cv_value.specs.Matching.{component, matching}
use Rattle.cv_value.specs.Text.{typed_text}
use Rattle.cv_value_roundtrip.specs.ReadsBack.{SameItem}

-- as many items, equal in pairs
abbrev pub SameItems : List Item → List Item → Type 0
SameItems [] [] = Unit {0}
SameItems (i ∷ is) (j ∷ js) = SameItem i j × SameItems is js
SameItems [] (j ∷ js) = ⊥
SameItems (i ∷ is) [] = ⊥

abbrev pub SameTyped : Typed → Typed → Type 0
SameTyped (One i) (One j) = SameItem i j
SameTyped (Spaces is) (Spaces js) = SameItems is js
SameTyped (Commas is) (Commas js) = SameItems is js
SameTyped _ _ = ⊥

-- the syntax of a component alone
abbrev pub alone : Component → Syntax
alone k = Of (k ∷ [])

-- against a syntax, the text of the value is an equal value
pub record TextReadsBack (s : Syntax) (y : Context) (v : Typed) : Type 0 where
  pub back : Typed
  pub read : matching s y (typed_text v) ≡ Fit back
  pub same : SameTyped v back

-- a component of a syntax gives the value, and the list matches none before it
pub record Gives (cs : List Component) (x : Context) (ts : List Token) (v : Typed) : Type 0 where
  pub before : List Component
  pub by : Component
  pub after : List Component
  pub are : cs ≡ before ++ by ∷ after
  pub first : All (λ (c : Component). component x ts c ≡ No) before
  pub gives : component x ts by ≡ Fit v

pub record TypedValuesReadBack : Type 0 where
  -- what a component gives reads back by that component alone, in every context
  pub of_component : (k : Component) (x y : Context) (ts : List Token) (v : Typed) → component x ts k ≡ Fit v → depth (typed_text v) ≤ 128 → TextReadsBack (alone k) y v
  -- what matches a syntax is given by its first component that the list matches
  pub given_by : (cs : List Component) (x : Context) (ts : List Token) (v : Typed) → matching (Of cs) x ts ≡ Fit v → Gives cs x ts v
  -- so where a syntax has one component, to substitute the text of a value is to substitute its value
  pub of_syntax : (k : Component) (x y : Context) (ts : List Token) (v : Typed) → matching (alone k) x ts ≡ Fit v → depth (typed_text v) ≤ 128 → TextReadsBack (alone k) y v
