-- The type that the pass finds is the type of the calculation.
use Rattle.std.specs.Prelude.{List, [], ◌∷◌, map, fold, Option}
use Rattle.std.specs.Option.{option_and_then}
use Rattle.std.proofs.Common.{◌≡◌, refl, sym, ◌∙◌, ap, ap₂}
use Rattle.cv_spec_ratio.specs.Ratio.{Ratio}
use Rattle.cv_calc.specs.declared.unit.Unit as units
use Rattle.cv_calc.specs.declared.unit.NumType.{NumType}
use Rattle.cv_calc.specs.declared.shape.Shape.{Shape}
use Rattle.cv_calc.specs.declared.calc.Calc.{Calc}
use Rattle.cv_calc.specs.declared.calc.Calc.TheVariants.{Num, Sum, Product, Negate, Invert, Min, Max, Clamp}
use Rattle.cv_calc.specs.Tree.{Each, by_cases, fold-Num, fold-Sum, fold-Product, fold-Negate, fold-Invert, fold-Min, fold-Max, fold-Clamp}
use Rattle.cv_calc.specs.Types.{type_of, type_step, sum_type, product_type, added_next, negated}
use Rattle.cv_calc.specs.Linear.{shape, kinds, sum_shape, product_shape, added_shape}
use Rattle.cv_calc.proofs.Shapes.{shape-Num, shape-Sum, shape-Product, shape-Negate, shape-Invert, shape-Min, shape-Max, shape-Clamp}

abbrev IsKind : Calc → Type 0
IsKind c = (shape c).kind ≡ type_of c

abbrev kind_of : Shape → Option NumType
kind_of s = s.kind

each_kind : (cs : List Calc) → Each IsKind cs → kinds (map shape cs) ≡ map type_of cs
each_kind [] h = refl
each_kind (c ∷ cs) h = ap₂ (λ k ks. k ∷ ks) h.0 (each_kind cs h.1)

added_kind : (s : Shape) (ss : List Shape) → (fold added_shape s ss).kind ≡ fold added_next s.kind (kinds ss)
added_kind s [] = refl
added_kind s (t ∷ ts) = added_kind (added_shape s t) ts

sum_kind : (ss : List Shape) → (sum_shape ss).kind ≡ sum_type (kinds ss)
unfolding sum_shape sum_type
sum_kind [] = refl
sum_kind (s ∷ ss) = added_kind s ss

product_kind : (ss : List Shape) → (product_shape ss).kind ≡ product_type (kinds ss)
unfolding product_shape
product_kind ss = refl

module _ where
  type-Sum : (cs : List Calc) → type_of (Sum cs) ≡ sum_type (map type_of cs)
  unfolding type_of
  type-Sum cs = fold-Sum type_step cs

  type-Min : (cs : List Calc) → type_of (Min cs) ≡ sum_type (map type_of cs)
  unfolding type_of
  type-Min cs = fold-Min type_step cs

  type-Max : (cs : List Calc) → type_of (Max cs) ≡ sum_type (map type_of cs)
  unfolding type_of
  type-Max cs = fold-Max type_step cs

  type-Product : (cs : List Calc) → type_of (Product cs) ≡ product_type (map type_of cs)
  unfolding type_of
  type-Product cs = fold-Product type_step cs

  type-Negate : (c : Calc) → type_of (Negate c) ≡ type_of c
  unfolding type_of
  type-Negate c = fold-Negate type_step c

  type-Invert : (c : Calc) → type_of (Invert c) ≡ option_and_then negated (type_of c)
  unfolding type_of
  type-Invert c = fold-Invert type_step c

  type-Clamp : (a b c : Calc) → type_of (Clamp a b c) ≡ added_next (added_next (type_of a) (type_of b)) (type_of c)
  unfolding type_of
  type-Clamp a b c = fold-Clamp type_step a b c

num_kind : (v : Ratio) (u : units.Unit) → IsKind (Num v u)
unfolding type_of
num_kind v u = ap kind_of (shape-Num v u) ∙ sym (fold-Num type_step v u)

sums : (c : Calc) (cs : List Calc) → shape c ≡ sum_shape (map shape cs) → type_of c ≡ sum_type (map type_of cs) → Each IsKind cs → IsKind c
sums c cs s t h = ap kind_of s ∙ sum_kind (map shape cs) ∙ ap sum_type (each_kind cs h) ∙ sym t

pub kind_is_type : (c : Calc) → (shape c).kind ≡ type_of c
kind_is_type = by_cases IsKind record {
  num = num_kind;
  sum = λ cs h. sums (Sum cs) cs (shape-Sum cs) (type-Sum cs) h;
  product = λ cs h. ap kind_of (shape-Product cs) ∙ product_kind (map shape cs) ∙ ap product_type (each_kind cs h) ∙ sym (type-Product cs);
  negate = λ c h. ap kind_of (shape-Negate c) ∙ h ∙ sym (type-Negate c);
  invert = λ c h. ap kind_of (shape-Invert c) ∙ ap (λ k. option_and_then negated k) h ∙ sym (type-Invert c);
  min = λ cs h. sums (Min cs) cs (shape-Min cs) (type-Min cs) h;
  max = λ cs h. sums (Max cs) cs (shape-Max cs) (type-Max cs) h;
  clamp = λ a b c h k l. ap kind_of (shape-Clamp a b c) ∙ ap₂ added_next (ap₂ added_next h k) l ∙ sym (type-Clamp a b c);
}
