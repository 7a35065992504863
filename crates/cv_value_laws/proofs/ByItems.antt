-- A syntax matches a list alike in two contexts, where its items are read alike.
use Rattle.std.specs.Prelude.{◌≡◌, nat_lt, List, [], ◌∷◌, map, if◌then◌else◌}
use Rattle.std.specs.List.{AllByRecursion as Every}
use Rattle.std.proofs.Common.{refl, ap, ap₂}
use Rattle.cv_spec_text.specs.declared.token.Token.{Token}
use Rattle.cv_component.specs.Nesting.{depth}
use Rattle.cv_component.specs.Parts.{is_white, is_comma, parts, filled, trim, has_white_end}
use Rattle.cv_calc.specs.declared.context.Context.{Context}
use Rattle.cv_numeric.specs.declared.matched.Matched.{Matched}
use Rattle.cv_numeric.specs.declared.matched.Matched.TheVariants.{No}
use Rattle.cv_numeric.specs.Matched.{mapped, both, all_of, or_else}
use Rattle.cv_syntax.specs.declared.syntax.Kind.{Kind}
use Rattle.cv_syntax.specs.declared.syntax.Many.{Many}
use Rattle.cv_syntax.specs.declared.syntax.Many.TheVariants.{One, Spaces, Commas}
use Rattle.cv_syntax.specs.declared.syntax.Component.{Component}
use Rattle.cv_syntax.specs.declared.syntax.Syntax.{Syntax}
use Rattle.cv_syntax.specs.declared.syntax.Syntax.TheVariants.{Any, Of}
use Rattle.cv_value.specs.declared.typed.Item.{Item}
use Rattle.cv_value.specs.declared.typed.Typed.{Typed}
use Rattle.cv_value.specs.declared.typed.Typed.TheVariants as typed
use Rattle.cv_value.specs.Items.{item}
use Rattle.cv_value.specs.Matching.{each, listed, as_many, components, of_syntax, matching}
use Rattle.cv_value_laws.proofs.Passing.{ByTokens, parts_pass, filled_pass, trims_pass}

-- items of some kinds are read alike in lists whose tokens have a property
pub record ItemsAgree (G : Token → Type 0) (P : List Token → Type 0) (Fine : Kind → Type 0) (x y : Context) : Type 0 where
  pub by : ByTokens G P
  pub same_item : (k : Kind) → Fine k → (ts : List Token) → P ts → item k x ts ≡ item k y ts

-- each component of the syntax is of such a kind
abbrev pub AllFine : (Kind → Type 0) → Syntax → Type 0
AllFine Fine Any = Unit {0}
AllFine Fine (Of cs) = Every (λ (c : Component). Fine c.kind) cs

module _ (G : Token → Type 0) (P : List Token → Type 0) (Fine : Kind → Type 0) (x y : Context) (agree : ItemsAgree G P Fine x y) where
  module _ (k : Kind) (fine : Fine k) where
    same_all : (ps : List (List Token)) → Every P ps → all_of (map (item k x) ps) ≡ all_of (map (item k y) ps)
    same_all [] h = refl
    same_all (p ∷ ps) h = ap₂ (both (λ (a : Item) (rest : List Item). a ∷ rest)) (agree.same_item k fine p h.0) (same_all ps h.1)

    same_each : (ps : List (List Token)) → Every P ps → each k x ps ≡ each k y ps
    same_each [] h = refl
    same_each (p ∷ ps) h = same_all (p ∷ ps) h

    same_listed : (ts : List Token) (ps : List (List Token)) → Every P ps → listed k x ts ps ≡ listed k y ts ps
    same_listed ts ps h = ap (λ (o : Matched (List Item)). if has_white_end ts then No else o) (same_each ps h)

    pub same_many : (m : Many) (ts : List Token) → P ts → as_many m k x ts ≡ as_many m k y ts
    same_many One ts h = ap (mapped typed.One) (agree.same_item k fine ts h)
    same_many Spaces ts h = ap (mapped typed.Spaces) (same_listed ts (filled (parts is_white ts)) (filled_pass G P agree.by (parts is_white ts) (parts_pass G P agree.by is_white ts h)))
    same_many Commas ts h = ap (mapped typed.Commas) (same_listed ts (map trim (parts is_comma ts)) (trims_pass G P agree.by (parts is_comma ts) (parts_pass G P agree.by is_comma ts h)))

  same_components : (cs : List Component) → Every (λ (c : Component). Fine c.kind) cs → (ts : List Token) → P ts → components x ts cs ≡ components y ts cs
  same_components [] fine ts h = refl
  same_components (c ∷ cs) fine ts h = ap₂ or_else (same_many c.kind fine.0 c.many ts h) (same_components cs fine.1 ts h)

  same_syntax : (s : Syntax) → AllFine Fine s → (ts : List Token) → P ts → of_syntax s x ts ≡ of_syntax s y ts
  same_syntax Any fine ts h = refl
  same_syntax (Of cs) fine ts h = same_components cs fine ts h

  pub same_matching : (s : Syntax) → AllFine Fine s → (ts : List Token) → P ts → matching s x ts ≡ matching s y ts
  unfolding matching
  same_matching s fine ts h = ap (λ (o : Matched Typed). if nat_lt 128 (depth ts) then No else o) (same_syntax s fine ts h)
