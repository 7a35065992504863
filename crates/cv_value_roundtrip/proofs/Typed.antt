-- Typed values read back, lists among them.
use Rattle.std.specs.Prelude.{ℕ, Bool, true, false, ◌≤◌, nat_lt, List, [], ◌∷◌, map, if◌then◌else◌}
use Rattle.std.proofs.Common.{◌≡◌, refl, sym, ◌∙◌, ap, ap₂, subst, arith}
use Rattle.std.proofs.lemmas.Bool.Decides.{nat_tests}
use Rattle.std.proofs.lemmas.List.Elements.{All-nil, All-cons}
use Rattle.cv_spec_text.specs.declared.token.Token.{Token}
use Rattle.cv_component.specs.Nesting.{depth}
use Rattle.cv_component.specs.Parts.{is_white, is_comma, parts, filled, trim, has_white_end}
use Rattle.cv_calc.specs.declared.context.Context.{Context}
use Rattle.cv_numeric.specs.declared.matched.Matched.{Matched}
use Rattle.cv_numeric.specs.declared.matched.Matched.TheVariants.{No, Out, Fit}
use Rattle.cv_numeric.specs.Matched.{mapped, both, all_of, or_else}
use Rattle.cv_syntax.specs.declared.syntax.Kind.{Kind}
use Rattle.cv_syntax.specs.declared.syntax.Many.{Many}
use Rattle.cv_syntax.specs.declared.syntax.Many.TheVariants.{One, Spaces, Commas}
use Rattle.cv_syntax.specs.declared.syntax.Component.{Component}
use Rattle.cv_syntax.specs.declared.syntax.Syntax.TheVariants.{Of}
use Rattle.cv_value.specs.declared.typed.Item.{Item}
use Rattle.cv_value.specs.declared.typed.Typed.{Typed}
use Rattle.cv_value.specs.declared.typed.Typed.TheVariants as typed
use Rattle.cv_value.specs.Items.{item}
use Rattle.cv_value.specs.Matching.{each, listed, as_many, component, components, matching}
use Rattle.cv_value.specs.Text.{item_text, typed_text}
use Rattle.cv_value_laws.proofs.ItemEntries.{texts_are_split}
use Rattle.cv_value_roundtrip.specs.ReadsBack.{ReadsBack}
use Rattle.cv_value_roundtrip.specs.Typed.{SameItems, SameTyped, alone, TextReadsBack, Gives, TypedValuesReadBack}
use Rattle.cv_value_roundtrip.proofs.Given.{fit_same, mapped_fits, both_fit, either_fits}
use Rattle.cv_value_roundtrip.proofs.Items.{items_read_back}

-- ---- lists of items

-- the texts of the items are equal items
record ItemsBack (k : Kind) (y : Context) (is : List Item) : Type 0 where
  backs : List Item
  read : all_of (map (item k y) (map item_text is)) ≡ Fit backs
  same : SameItems is backs

all_back : (k : Kind) (x y : Context) (ps : List (List Token)) (is : List Item) → all_of (map (item k x) ps) ≡ Fit is → ItemsBack k y is
all_back k x y [] is h = subst (ItemsBack k y) (fit_same [] is h) (record { backs = []; read = refl; same = tt })
all_back k x y (p ∷ ps) is h =
    let (i, more, here, there, same) = both_fit (λ (a : Item) (rest : List Item). a ∷ rest) (item k x p) (all_of (map (item k x) ps)) is h in
    let b : ReadsBack k y i = items_read_back.reads k x y p i here in
    let r : ItemsBack k y more = all_back k x y ps more there in
    subst (ItemsBack k y) same (record { backs = b.back ∷ r.backs; read = ap₂ (both (λ (a : Item) (rest : List Item). a ∷ rest)) b.read r.read; same = (b.same, r.same) })

-- some items
record SomeItems (k : Kind) (y : Context) (is : List Item) : Type 0 where
  first : Item
  more : List Item
  whole : is ≡ first ∷ more
  items : ItemsBack k y (first ∷ more)

each_back : (k : Kind) (x y : Context) (ps : List (List Token)) (is : List Item) → each k x ps ≡ Fit is → SomeItems k y is
each_back k x y [] is h = absurd cc
each_back k x y (p ∷ ps) is h =
    let (i, more, here, there, same) = both_fit (λ (a : Item) (rest : List Item). a ∷ rest) (item k x p) (all_of (map (item k x) ps)) is h in
    record { first = i; more = more; whole = sym same; items = subst (ItemsBack k y) (sym same) (all_back k x y (p ∷ ps) is h) }

unless_fits : {A : Type 0} (b : Bool) (o : Matched A) (a : A) → (if b then No else o) ≡ Fit a → o ≡ Fit a
unless_fits true o a h = absurd cc
unless_fits false o a h = h

listed_back : (k : Kind) (x y : Context) (ts : List Token) (ps : List (List Token)) (is : List Item) → listed k x ts ps ≡ Fit is → SomeItems k y is
listed_back k x y ts ps is h = each_back k x y ps is (unless_fits (has_white_end ts) (each k x ps) is h)

listed_read : (k : Kind) (y : Context) (ts : List Token) (ps : List (List Token)) (i : Item) (is : List Item) (b : ItemsBack k y (i ∷ is)) → has_white_end ts ≡ false → ps ≡ map item_text (i ∷ is) → listed k y ts ps ≡ Fit b.backs
listed_read k y ts ps i is b e f = ap (λ t. if t then No else each k y ps) e ∙ ap (each k y) f ∙ b.read

-- ---- components

record ManyBack (m : Many) (k : Kind) (y : Context) (v : Typed) : Type 0 where
  back : Typed
  read : as_many m k y (typed_text v) ≡ Fit back
  same : SameTyped v back

spaces_back : (k : Kind) (y : Context) (is : List Item) → SomeItems k y is → ManyBack Spaces k y (typed.Spaces is)
spaces_back k y is s = subst (λ (js : List Item). ManyBack Spaces k y (typed.Spaces js)) (sym s.whole) (record {
  back = typed.Spaces s.items.backs;
  read = ap (mapped typed.Spaces) (listed_read k y (typed_text (typed.Spaces (s.first ∷ s.more))) (filled (parts is_white (typed_text (typed.Spaces (s.first ∷ s.more))))) s.first s.more s.items
      (texts_are_split.spaces_end s.first s.more) (texts_are_split.spaced s.first s.more));
  same = s.items.same;
})

commas_back : (k : Kind) (y : Context) (is : List Item) → SomeItems k y is → ManyBack Commas k y (typed.Commas is)
commas_back k y is s = subst (λ (js : List Item). ManyBack Commas k y (typed.Commas js)) (sym s.whole) (record {
  back = typed.Commas s.items.backs;
  read = ap (mapped typed.Commas) (listed_read k y (typed_text (typed.Commas (s.first ∷ s.more))) (map trim (parts is_comma (typed_text (typed.Commas (s.first ∷ s.more))))) s.first s.more s.items
      (texts_are_split.commas_end s.first s.more) (texts_are_split.separated s.first s.more));
  same = s.items.same;
})

one_back : (k : Kind) (y : Context) (i : Item) → ReadsBack k y i → ManyBack One k y (typed.One i)
unfolding typed_text
one_back k y i b = record { back = typed.One b.back; read = ap (mapped typed.One) b.read; same = b.same }

many_back : (m : Many) (k : Kind) (x y : Context) (ts : List Token) (v : Typed) → as_many m k x ts ≡ Fit v → ManyBack m k y v
many_back One k x y ts v h =
    let (i, is, same) = mapped_fits typed.One (item k x ts) v h in
    subst (ManyBack One k y) same (one_back k y i (items_read_back.reads k x y ts i is))
many_back Spaces k x y ts v h =
    let (items, is, same) = mapped_fits typed.Spaces (listed k x ts (filled (parts is_white ts))) v h in
    subst (ManyBack Spaces k y) same (spaces_back k y items (listed_back k x y ts (filled (parts is_white ts)) items is))
many_back Commas k x y ts v h =
    let (items, is, same) = mapped_fits typed.Commas (listed k x ts (map trim (parts is_comma ts))) v h in
    subst (ManyBack Commas k y) same (commas_back k y items (listed_back k x y ts (map trim (parts is_comma ts)) items is))

-- ---- syntaxes

not_deep : (n : ℕ) → n ≤ 128 → nat_lt 128 n ≡ false
not_deep n h = grind (arith, nat_tests)

component_back : (k : Component) (x y : Context) (ts : List Token) (v : Typed) → component x ts k ≡ Fit v → depth (typed_text v) ≤ 128 → TextReadsBack (alone k) y v
unfolding matching
component_back k x y ts v h shallow =
    let b : ManyBack k.many k.kind y v = many_back k.many k.kind x y ts v h in
    record {
      back = b.back;
      read = ap (λ t. if t then No else components y (typed_text v) (k ∷ [])) (not_deep (depth (typed_text v)) shallow) ∙ ap (λ o. or_else o No) b.read;
      same = b.same;
    }

-- the first that fits, and no match before it
first_fits : {A : Type 0} (P : A → Type 0) (m o : Matched A) (a : A) → (m ≡ Fit a → P a) → (m ≡ No → o ≡ Fit a → P a) → or_else m o ≡ Fit a → P a
first_fits P No o a f g h = g refl h
first_fits P Out o a f g h = absurd cc
first_fits P (Fit b) o a f g h = f h

here : (c : Component) (cs : List Component) (x : Context) (ts : List Token) (v : Typed) → component x ts c ≡ Fit v → Gives (c ∷ cs) x ts v
here c cs x ts v h = record { before = []; by = c; after = cs; are = refl; first = All-nil (λ (d : Component). component x ts d ≡ No); gives = h }

further : (c : Component) (cs : List Component) (x : Context) (ts : List Token) (v : Typed) → component x ts c ≡ No → Gives cs x ts v → Gives (c ∷ cs) x ts v
further c cs x ts v refused g = record {
  before = c ∷ g.before;
  by = g.by;
  after = g.after;
  are = ap (λ (ds : List Component). c ∷ ds) g.are;
  first = All-cons (λ (d : Component). component x ts d ≡ No) c g.before refused g.first;
  gives = g.gives;
}

components_given : (cs : List Component) (x : Context) (ts : List Token) (v : Typed) → components x ts cs ≡ Fit v → Gives cs x ts v
components_given [] x ts v h = absurd cc
components_given (c ∷ cs) x ts v h =
    first_fits (Gives (c ∷ cs) x ts) (component x ts c) (components x ts cs) v (here c cs x ts v)
    (λ refused k. further c cs x ts v refused (components_given cs x ts v k)) h

syntax_given : (cs : List Component) (x : Context) (ts : List Token) (v : Typed) → matching (Of cs) x ts ≡ Fit v → components x ts cs ≡ Fit v
unfolding matching
syntax_given cs x ts v h = unless_fits (nat_lt 128 (depth ts)) (components x ts cs) v h

no_fit : {A : Type 0} (P : A → Type 0) (a : A) → No ≡ Fit a → P a
no_fit P a h = absurd cc

alone_given : (k : Component) (x : Context) (ts : List Token) (v : Typed) → components x ts (k ∷ []) ≡ Fit v → component x ts k ≡ Fit v
alone_given k x ts v h = either_fits (λ (w : Typed). component x ts k ≡ Fit w) (component x ts k) No v (λ e. e) (no_fit (λ (w : Typed). component x ts k ≡ Fit w) v) h

pub typed_values_read_back : TypedValuesReadBack
typed_values_read_back = record {
  of_component = component_back;
  given_by = λ cs x ts v h. components_given cs x ts v (syntax_given cs x ts v h);
  of_syntax = λ k x y ts v h shallow. component_back k x y ts v (alone_given k x ts v (syntax_given (k ∷ []) x ts v h)) shallow;
}
