-- What holds of the items of a match where it fits.
use Rattle.std.specs.Prelude.{◌≡◌, Bool, true, false, nat_lt, List, [], ◌∷◌, map, if◌then◌else◌}
use Rattle.std.specs.List.{AllByRecursion as Every}
use Rattle.std.proofs.Common.{subst}
use Rattle.cv_spec_text.specs.declared.token.Token.{Token}
use Rattle.cv_component.specs.Nesting.{depth}
use Rattle.cv_component.specs.Parts.{is_white, is_comma, parts, filled, trim, has_white_end}
use Rattle.cv_calc.specs.declared.context.Context.{Context}
use Rattle.cv_numeric.specs.declared.matched.Matched.{Matched}
use Rattle.cv_numeric.specs.declared.matched.Matched.TheVariants.{No, Out, Fit}
use Rattle.cv_numeric.specs.Matched.{mapped, both, all_of, or_else}
use Rattle.cv_syntax.specs.declared.syntax.Kind.{Kind}
use Rattle.cv_syntax.specs.declared.syntax.Many.{Many}
use Rattle.cv_syntax.specs.declared.syntax.Many.TheVariants as many
use Rattle.cv_syntax.specs.declared.syntax.Component.{Component}
use Rattle.cv_syntax.specs.declared.syntax.Syntax.{Syntax}
use Rattle.cv_syntax.specs.declared.syntax.Syntax.TheVariants.{Any, Of}
use Rattle.cv_value.specs.declared.typed.Item.{Item}
use Rattle.cv_value.specs.declared.typed.Typed.TheVariants.{One, Spaces, Commas}
use Rattle.cv_value.specs.Items.{item}
use Rattle.cv_value.specs.Matching.{each, listed, as_many, component, components, of_syntax, matching}
use Rattle.cv_value.specs.Kept.{OfItems}
use Rattle.cv_value_laws.proofs.Passing.{ByTokens, parts_pass, filled_pass, trims_pass}

-- it holds of the value, where there is a fit
abbrev pub IfFit : {A : Type 0} → (A → Type 0) → Matched A → Type 0
IfFit P No = Unit {0}
IfFit P Out = Unit {0}
IfFit P (Fit a) = P a

pub of_fit : {A : Type 0} (P : A → Type 0) (o : Matched A) (a : A) → IfFit P o → o ≡ Fit a → P a
of_fit P o a h e = subst (IfFit P) e h

pub if_each : {A : Type 0} (P : A → Type 0) → ((a : A) → P a) → (o : Matched A) → IfFit P o
if_each P h No = tt
if_each P h Out = tt
if_each P h (Fit a) = h a

pub if_kept : {A : Type 0} (P Q : A → Type 0) → ((a : A) → P a → Q a) → (o : Matched A) → IfFit P o → IfFit Q o
if_kept P Q h No k = tt
if_kept P Q h Out k = tt
if_kept P Q h (Fit a) k = h a k

pub if_mapped : {A B : Type 0} (P : A → Type 0) (Q : B → Type 0) (f : A → B) → ((a : A) → P a → Q (f a)) → (o : Matched A) → IfFit P o → IfFit Q (mapped f o)
if_mapped P Q f h No k = tt
if_mapped P Q f h Out k = tt
if_mapped P Q f h (Fit a) k = h a k

pub if_made : {A B : Type 0} (Q : B → Type 0) (f : A → B) → ((a : A) → Q (f a)) → (o : Matched A) → IfFit Q (mapped f o)
if_made Q f h No = tt
if_made Q f h Out = tt
if_made Q f h (Fit a) = h a

pub if_either : {A : Type 0} (P : A → Type 0) (b : Bool) (o p : Matched A) → IfFit P o → IfFit P p → IfFit P (if b then o else p)
if_either P true o p h k = h
if_either P false o p h k = k

if_or_else : {A : Type 0} (P : A → Type 0) (o p : Matched A) → IfFit P o → IfFit P p → IfFit P (or_else o p)
if_or_else P No p h k = k
if_or_else P Out p h k = tt
if_or_else P (Fit a) p h k = h

if_more : {A : Type 0} (P : A → Type 0) (o : Matched A) (os : Matched (List A)) → IfFit P o → IfFit (Every P) os → IfFit (Every P) (both (λ (a : A) (rest : List A). a ∷ rest) o os)
if_more P No os h k = tt
if_more P Out No h k = tt
if_more P Out Out h k = tt
if_more P Out (Fit rest) h k = tt
if_more P (Fit a) No h k = tt
if_more P (Fit a) Out h k = tt
if_more P (Fit a) (Fit rest) h k = (h, k)

-- what holds of each token, and of each list
abbrev pub AnyToken : Token → Type 0
AnyToken t = Unit {0}

abbrev pub AnyList : List Token → Type 0
AnyList ts = Unit {0}

module _ (G : Token → Type 0) (P : List Token → Type 0) (by : ByTokens G P) (Q : Item → Type 0) (x : Context) where
  -- it holds of each item of the kind
  abbrev pub OfKind : Kind → Type 0
  OfKind k = (ts : List Token) → P ts → IfFit Q (item k x ts)

  if_all : (k : Kind) → OfKind k → (ps : List (List Token)) → Every P ps → IfFit (Every Q) (all_of (map (item k x) ps))
  if_all k h [] e = tt
  if_all k h (p ∷ ps) e = if_more Q (item k x p) (all_of (map (item k x) ps)) (h p e.0) (if_all k h ps e.1)

  if_parts : (k : Kind) → OfKind k → (ps : List (List Token)) → Every P ps → IfFit (Every Q) (each k x ps)
  if_parts k h [] e = tt
  if_parts k h (p ∷ ps) e = if_all k h (p ∷ ps) e

  if_listed : (k : Kind) → OfKind k → (ts : List Token) (ps : List (List Token)) → Every P ps → IfFit (Every Q) (listed k x ts ps)
  if_listed k h ts ps e = if_either (Every Q) (has_white_end ts) No (each k x ps) tt (if_parts k h ps e)

  if_many : (m : Many) (k : Kind) → OfKind k → (ts : List Token) → P ts → IfFit (OfItems Q) (as_many m k x ts)
  if_many many.One k h ts e = if_mapped Q (OfItems Q) One (λ i q. q) (item k x ts) (h ts e)
  if_many many.Spaces k h ts e =
      if_mapped (Every Q) (OfItems Q) Spaces (λ is q. q) (listed k x ts (filled (parts is_white ts)))
      (if_listed k h ts (filled (parts is_white ts)) (filled_pass G P by (parts is_white ts) (parts_pass G P by is_white ts e)))
  if_many many.Commas k h ts e =
      if_mapped (Every Q) (OfItems Q) Commas (λ is q. q) (listed k x ts (map trim (parts is_comma ts)))
      (if_listed k h ts (map trim (parts is_comma ts)) (trims_pass G P by (parts is_comma ts) (parts_pass G P by is_comma ts e)))

  abbrev pub OfComponents : List Component → Type 0
  OfComponents [] = Unit {0}
  OfComponents (c ∷ cs) = OfKind c.kind × OfComponents cs

  if_components : (cs : List Component) → OfComponents cs → (ts : List Token) → P ts → IfFit (OfItems Q) (components x ts cs)
  if_components [] h ts e = tt
  if_components (c ∷ cs) h ts e =
      if_or_else (OfItems Q) (component x ts c) (components x ts cs) (if_many c.many c.kind h.0 ts e) (if_components cs h.1 ts e)

  abbrev pub OfSyntax : Syntax → Type 0
  OfSyntax Any = Unit {0}
  OfSyntax (Of cs) = OfComponents cs

  if_syntax : (s : Syntax) → OfSyntax s → (ts : List Token) → P ts → IfFit (OfItems Q) (of_syntax s x ts)
  if_syntax Any h ts e = tt
  if_syntax (Of cs) h ts e = if_components cs h ts e

  pub if_matching : (s : Syntax) → OfSyntax s → (ts : List Token) → P ts → IfFit (OfItems Q) (matching s x ts)
  unfolding matching
  if_matching s h ts e = if_either (OfItems Q) (nat_lt 128 (depth ts)) No (of_syntax s x ts) tt (if_syntax s h ts e)

  -- it holds of each kind
  each_component : ((k : Kind) → OfKind k) → (cs : List Component) → OfComponents cs
  each_component h [] = tt
  each_component h (c ∷ cs) = (h c.kind, each_component h cs)

  pub each_syntax : ((k : Kind) → OfKind k) → (s : Syntax) → OfSyntax s
  each_syntax h Any = tt
  each_syntax h (Of cs) = each_component h cs
