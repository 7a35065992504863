-- The kind of a calculation, where it has one, and the type that it has then.
use Rattle.std.specs.Prelude.{List, [], ◌∷◌, fold, map, Option, Some, None}
use Rattle.std.specs.Option.{option_and_then}
use Rattle.std.proofs.Common.{◌≡◌, refl, sym, ◌∙◌, ap, subst}
use Rattle.cv_spec_ratio.specs.Ratio.{Ratio}
use Rattle.cv_calc.specs.declared.unit.NumType.{NumType}
use Rattle.cv_calc.specs.declared.unit.Base.{Base}
use Rattle.cv_calc.specs.declared.unit.Unit as units
use Rattle.cv_calc.specs.declared.calc.Calc.{Calc}
use Rattle.cv_calc.specs.declared.calc.Calc.TheVariants as tree
use Rattle.cv_calc.specs.declared.calc.Calc.TheOpen.{Calc-F, Num, Sum, Product, Negate, Invert, Min, Max, Clamp}
use Rattle.cv_calc.specs.declared.calc.Calc.TheFolds.{fold-Calc, map-Calc, fold-roll-Calc}
use Rattle.cv_calc.specs.declared.calc.Calc.TheViews.{out-Calc, roll-Calc, roll-out-Calc}
use Rattle.cv_calc.specs.Tree.{Each, by_cases, fold-Num, fold-Sum, fold-Product, fold-Negate, fold-Invert, fold-Min, fold-Max, fold-Clamp}
use Rattle.cv_calc.specs.Types.{sum_type, product_type, shared_hint, product_under, added_next, multiplied_next, shared_next, negated}
use Rattle.cv_simplify.proofs.Measures.{Kind, nothing, plain, measured, added_kind, multiplied_kind, lifted, added_assoc, added_none, multiplied_assoc, multiplied_none}
use Rattle.cv_simplify.proofs.KindTypes.{kind_type, IsReal, added_step}
use Rattle.cv_simplify.proofs.KindProducts.{kind_hint, type_under, IsHint, hint_before, multiplied_step, shared_step, type_by_hint, plain_inverse}

-- ---- lists of kinds

abbrev pub kinds_by : (Kind → Kind → Option Kind) → List (Option Kind) → Option Kind
kinds_by f [] = Some nothing
kinds_by f (o ∷ os) = lifted f o (kinds_by f os)

abbrev pub added_kinds : List (Option Kind) → Option Kind
added_kinds os = kinds_by added_kind os

abbrev pub multiplied_kinds : List (Option Kind) → Option Kind
multiplied_kinds os = kinds_by multiplied_kind os

-- a node without children has no kind
abbrev pub closed : Option Kind → Option Kind
closed None = None
closed (Some nothing) = None
closed (Some plain) = Some plain
closed (Some (measured m)) = Some (measured m)

abbrev pub inverse_kind : Option Kind → Option Kind
inverse_kind None = None
inverse_kind (Some nothing) = None
inverse_kind (Some plain) = Some plain
inverse_kind (Some (measured m)) = None

pub closed_is : (o : Option Kind) (k : Kind) → closed o ≡ Some k → (o ≡ Some k) × IsReal k
closed_is None k e = cc
closed_is (Some nothing) k e = cc
closed_is (Some plain) k e = let same : plain ≡ k = cc in (e, subst IsReal same tt)
closed_is (Some (measured m)) k e = let same : measured m ≡ k = cc in (e, subst IsReal same tt)

pub closed_real : (k : Kind) → IsReal k → closed (Some k) ≡ Some k
closed_real nothing r = absurd r
closed_real plain r = refl
closed_real (measured m) r = refl

pub closed_twice : (o : Option Kind) → closed (closed o) ≡ closed o
closed_twice None = refl
closed_twice (Some nothing) = refl
closed_twice (Some plain) = refl
closed_twice (Some (measured m)) = refl

pub inverse_is : (o : Option Kind) (k : Kind) → inverse_kind o ≡ Some k → (o ≡ Some plain) × (plain ≡ k)
inverse_is None k e = cc
inverse_is (Some nothing) k e = cc
inverse_is (Some plain) k e = (refl, cc)
inverse_is (Some (measured m)) k e = cc

-- what is missing stays missing
pub missing : (f : Kind → Kind → Option Kind) (os : List (Option Kind)) → fold (lifted f) None os ≡ None
missing f [] = refl
missing f (o ∷ os) = missing f os

pub added_from_left : (o : Option Kind) (os : List (Option Kind)) → fold (lifted added_kind) o os ≡ lifted added_kind o (added_kinds os)
added_from_left o [] = sym (added_none o)
added_from_left o (p ∷ os) = added_from_left (lifted added_kind o p) os ∙ added_assoc o p (added_kinds os)

pub multiplied_from_left : (o : Option Kind) (os : List (Option Kind)) → fold (lifted multiplied_kind) o os ≡ lifted multiplied_kind o (multiplied_kinds os)
multiplied_from_left o [] = sym (multiplied_none o)
multiplied_from_left o (p ∷ os) = multiplied_from_left (lifted multiplied_kind o p) os ∙ multiplied_assoc o p (multiplied_kinds os)

-- ---- trees

abbrev pub kind_step : (units.Unit → Kind) → Calc-F (Option Kind) → Option Kind
kind_step of (Num v u) = closed (Some (of u))
kind_step of (Sum os) = closed (added_kinds os)
kind_step of (Product os) = closed (multiplied_kinds os)
kind_step of (Negate o) = closed o
kind_step of (Invert o) = closed (inverse_kind o)
kind_step of (Min os) = closed (added_kinds os)
kind_step of (Max os) = closed (added_kinds os)
kind_step of (Clamp a b c) = closed (added_kinds (a ∷ b ∷ c ∷ []))

-- a type by the types of units
abbrev pub type_step_of : (units.Unit → NumType) → Calc-F (Option NumType) → Option NumType
type_step_of type (Num v u) = Some (type u)
type_step_of type (Sum ts) = sum_type ts
type_step_of type (Product ts) = product_type ts
type_step_of type (Negate t) = t
type_step_of type (Invert t) = option_and_then negated t
type_step_of type (Min ts) = sum_type ts
type_step_of type (Max ts) = sum_type ts
type_step_of type (Clamp a b c) = added_next (added_next a b) c

module _ (of : units.Unit → Kind) where
  unfoldable pub kind : Calc → Option Kind
  kind = fold-Calc (Option Kind) (kind_step of)

  pub kind-roll : (l : Calc-F Calc) → kind (roll-Calc l) ≡ kind_step of (map-Calc Calc (Option Kind) kind l)
  unfolding kind
  kind-roll l = fold-roll-Calc (Option Kind) (kind_step of) l

  pub kind-Num : (v : Ratio) (u : units.Unit) → kind (tree.Num v u) ≡ closed (Some (of u))
  unfolding kind
  kind-Num v u = fold-Num (kind_step of) v u

  pub kind-Sum : (cs : List Calc) → kind (tree.Sum cs) ≡ closed (added_kinds (map kind cs))
  unfolding kind
  kind-Sum cs = fold-Sum (kind_step of) cs

  pub kind-Product : (cs : List Calc) → kind (tree.Product cs) ≡ closed (multiplied_kinds (map kind cs))
  unfolding kind
  kind-Product cs = fold-Product (kind_step of) cs

  pub kind-Negate : (c : Calc) → kind (tree.Negate c) ≡ closed (kind c)
  unfolding kind
  kind-Negate c = fold-Negate (kind_step of) c

  pub kind-Invert : (c : Calc) → kind (tree.Invert c) ≡ closed (inverse_kind (kind c))
  unfolding kind
  kind-Invert c = fold-Invert (kind_step of) c

  pub kind-Min : (cs : List Calc) → kind (tree.Min cs) ≡ closed (added_kinds (map kind cs))
  unfolding kind
  kind-Min cs = fold-Min (kind_step of) cs

  pub kind-Max : (cs : List Calc) → kind (tree.Max cs) ≡ closed (added_kinds (map kind cs))
  unfolding kind
  kind-Max cs = fold-Max (kind_step of) cs

  pub kind-Clamp : (a b c : Calc) → kind (tree.Clamp a b c) ≡ closed (added_kinds (map kind (a ∷ b ∷ c ∷ [])))
  unfolding kind
  kind-Clamp a b c = fold-Clamp (kind_step of) a b c

  closed_step : (l : Calc-F (Option Kind)) → closed (kind_step of l) ≡ kind_step of l
  closed_step (Num v u) = closed_twice (Some (of u))
  closed_step (Sum os) = closed_twice (added_kinds os)
  closed_step (Product os) = closed_twice (multiplied_kinds os)
  closed_step (Negate o) = closed_twice o
  closed_step (Invert o) = closed_twice (inverse_kind o)
  closed_step (Min os) = closed_twice (added_kinds os)
  closed_step (Max os) = closed_twice (added_kinds os)
  closed_step (Clamp a b c) = closed_twice (added_kinds (a ∷ b ∷ c ∷ []))

  pub kind_closed : (c : Calc) → closed (kind c) ≡ kind c
  kind_closed c =
      ap (λ d. closed (kind d)) (sym (roll-out-Calc c)) ∙ ap closed (kind-roll (out-Calc c))
      ∙ closed_step (map-Calc Calc (Option Kind) kind (out-Calc c)) ∙ sym (kind-roll (out-Calc c)) ∙ ap kind (roll-out-Calc c)

  pub kind_real : (c : Calc) (k : Kind) → kind c ≡ Some k → IsReal k
  kind_real c k e = (closed_is (kind c) k (kind_closed c ∙ e)).1

-- ---- the type of a kind

module _ (of : units.Unit → Kind) (type : units.Unit → NumType) (unit_is : (u : units.Unit) → Some (type u) ≡ kind_type (of u)) where
  abbrev type_by : Calc → Option NumType
  type_by = fold-Calc (Option NumType) (type_step_of type)

  abbrev IsTyped : Calc → Type 0
  IsTyped c = (k : Kind) → kind of c ≡ Some k → type_by c ≡ kind_type k

  pub row_typed : (cs : List Calc) → Each IsTyped cs → (k n : Kind) (t : Option NumType) → IsReal k → t ≡ kind_type k →
      fold (lifted added_kind) (Some k) (map (kind of) cs) ≡ Some n → fold added_next t (map type_by cs) ≡ kind_type n
  row_typed [] h k n t r is e = let same : k ≡ n = cc in is ∙ ap kind_type same
  row_typed (c ∷ cs) h k n t r is e = go (kind of c) refl e (λ m u r is e. row_typed cs h.1 m n u r is e)
    where
      next : ((m : Kind) (u : Option NumType) → IsReal m → u ≡ kind_type m → fold (lifted added_kind) (Some m) (map (kind of) cs) ≡ Some n → fold added_next u (map type_by cs) ≡ kind_type n) →
          (l : Kind) → kind of c ≡ Some l → (o : Option Kind) → added_kind k l ≡ o → fold (lifted added_kind) o (map (kind of) cs) ≡ Some n →
          fold added_next (added_next t (type_by c)) (map type_by cs) ≡ kind_type n
      next rest l is_l None added e = let none = missing added_kind (map (kind of) cs) in cc
      next rest l is_l (Some m) added e =
          let step = added_step k l m r (kind_real of c l is_l) added in
          rest m (added_next t (type_by c)) step.1 (ap (λ s. added_next s (type_by c)) is ∙ ap (added_next (kind_type k)) (h.0 l is_l) ∙ step.0) e

      go : (o : Option Kind) → kind of c ≡ o → fold (lifted added_kind) (lifted added_kind (Some k) o) (map (kind of) cs) ≡ Some n →
          ((m : Kind) (u : Option NumType) → IsReal m → u ≡ kind_type m → fold (lifted added_kind) (Some m) (map (kind of) cs) ≡ Some n → fold added_next u (map type_by cs) ≡ kind_type n) →
          fold added_next (added_next t (type_by c)) (map type_by cs) ≡ kind_type n
      go None is_o e rest = let none = missing added_kind (map (kind of) cs) in cc
      go (Some l) is_o e rest = next rest l is_o (added_kind k l) refl e

  sum_typed : (cs : List Calc) → Each IsTyped cs → (n : Kind) → closed (added_kinds (map (kind of) cs)) ≡ Some n → sum_type (map type_by cs) ≡ kind_type n
  unfolding sum_type
  sum_typed [] h n e = cc
  sum_typed (c ∷ cs) h n e = go (kind of c) refl (added_from_left (kind of c) (map (kind of) cs) ∙ (closed_is _ n e).0)
    where
      go : (o : Option Kind) → kind of c ≡ o → fold (lifted added_kind) (kind of c) (map (kind of) cs) ≡ Some n → fold added_next (type_by c) (map type_by cs) ≡ kind_type n
      go None is e =
          let none : fold (lifted added_kind) (kind of c) (map (kind of) cs) ≡ None = ap (λ o. fold (lifted added_kind) o (map (kind of) cs)) is ∙ missing added_kind (map (kind of) cs) in
          cc
      go (Some k) is e = row_typed cs h.1 k n (type_by c) (kind_real of c k is) (h.0 k is) (ap (λ o. fold (lifted added_kind) o (map (kind of) cs)) (sym is) ∙ e)

  hints_shared : (cs : List Calc) → Each IsTyped cs → (k n : Kind) → fold (lifted multiplied_kind) (Some k) (map (kind of) cs) ≡ Some n →
      fold shared_next (kind_hint k) (map type_by cs) ≡ kind_hint n
  hints_shared [] h k n e = let same : k ≡ n = cc in ap kind_hint same
  hints_shared (c ∷ cs) h k n e = go (kind of c) refl e (λ m e. hints_shared cs h.1 m n e)
    where
      next : ((m : Kind) → fold (lifted multiplied_kind) (Some m) (map (kind of) cs) ≡ Some n → fold shared_next (kind_hint m) (map type_by cs) ≡ kind_hint n) →
          (l : Kind) → kind of c ≡ Some l → (o : Option Kind) → multiplied_kind k l ≡ o → fold (lifted multiplied_kind) o (map (kind of) cs) ≡ Some n →
          fold shared_next (shared_next (kind_hint k) (type_by c)) (map type_by cs) ≡ kind_hint n
      next rest l is_l None times e = let none = missing multiplied_kind (map (kind of) cs) in cc
      next rest l is_l (Some m) times e =
          ap (λ s. fold shared_next s (map type_by cs)) (ap (shared_next (kind_hint k)) (h.0 l is_l) ∙ shared_step k l m (kind_real of c l is_l) times) ∙ rest m e

      go : (o : Option Kind) → kind of c ≡ o → fold (lifted multiplied_kind) (lifted multiplied_kind (Some k) o) (map (kind of) cs) ≡ Some n →
          ((m : Kind) → fold (lifted multiplied_kind) (Some m) (map (kind of) cs) ≡ Some n → fold shared_next (kind_hint m) (map type_by cs) ≡ kind_hint n) →
          fold shared_next (shared_next (kind_hint k) (type_by c)) (map type_by cs) ≡ kind_hint n
      go None is_o e rest = let none = missing multiplied_kind (map (kind of) cs) in cc
      go (Some l) is_o e rest = next rest l is_o (multiplied_kind k l) refl e

  -- a hint of the last kind is one of each kind on the way
  hint_on_the_way : (h : Option Base) (os : List (Option Kind)) (k n : Kind) → fold (lifted multiplied_kind) (Some k) os ≡ Some n → IsHint h n → IsHint h k
  hint_on_the_way h [] k n e i = let same : k ≡ n = cc in subst (IsHint h) (sym same) i
  hint_on_the_way h (None ∷ os) k n e i = let none = missing multiplied_kind os in cc
  hint_on_the_way h (Some l ∷ os) k n e i = go (multiplied_kind k l) refl e (λ m e. hint_on_the_way h os m n e i)
    where
      go : (o : Option Kind) → multiplied_kind k l ≡ o → fold (lifted multiplied_kind) o os ≡ Some n →
          ((m : Kind) → fold (lifted multiplied_kind) (Some m) os ≡ Some n → IsHint h m) → IsHint h k
      go None is e rest = let none = missing multiplied_kind os in cc
      go (Some m) is e rest = hint_before h k l m is (rest m e)

  factors_typed : (h : Option Base) (cs : List Calc) → Each IsTyped cs → (k n : Kind) → fold (lifted multiplied_kind) (Some k) (map (kind of) cs) ≡ Some n → IsHint h n →
      fold (multiplied_next h) (type_under h k) (map type_by cs) ≡ type_under h n
  factors_typed h [] is k n e i = let same : k ≡ n = cc in ap (type_under h) same
  factors_typed h (c ∷ cs) is k n e i = go (kind of c) refl e (λ m e. factors_typed h cs is.1 m n e i)
    where
      next : ((m : Kind) → fold (lifted multiplied_kind) (Some m) (map (kind of) cs) ≡ Some n → fold (multiplied_next h) (type_under h m) (map type_by cs) ≡ type_under h n) →
          (l : Kind) → kind of c ≡ Some l → (o : Option Kind) → multiplied_kind k l ≡ o → fold (lifted multiplied_kind) o (map (kind of) cs) ≡ Some n →
          fold (multiplied_next h) (multiplied_next h (type_under h k) (type_by c)) (map type_by cs) ≡ type_under h n
      next rest l is_l None times e = let none = missing multiplied_kind (map (kind of) cs) in cc
      next rest l is_l (Some m) times e =
          ap (λ s. fold (multiplied_next h) s (map type_by cs))
          (ap (multiplied_next h (type_under h k)) (is.0 l is_l) ∙ multiplied_step h k l m (kind_real of c l is_l) times (hint_on_the_way h (map (kind of) cs) m n e i))
          ∙ rest m e

      go : (o : Option Kind) → kind of c ≡ o → fold (lifted multiplied_kind) (lifted multiplied_kind (Some k) o) (map (kind of) cs) ≡ Some n →
          ((m : Kind) → fold (lifted multiplied_kind) (Some m) (map (kind of) cs) ≡ Some n → fold (multiplied_next h) (type_under h m) (map type_by cs) ≡ type_under h n) →
          fold (multiplied_next h) (multiplied_next h (type_under h k) (type_by c)) (map type_by cs) ≡ type_under h n
      go None is_o e rest = let none = missing multiplied_kind (map (kind of) cs) in cc
      go (Some l) is_o e rest = next rest l is_o (multiplied_kind k l) refl e

  from_nothing : (os : List (Option Kind)) → fold (lifted multiplied_kind) (Some nothing) os ≡ multiplied_kinds os
  from_nothing os = multiplied_from_left (Some nothing) os ∙ go (multiplied_kinds os)
    where
      go : (o : Option Kind) → lifted multiplied_kind (Some nothing) o ≡ o
      go None = refl
      go (Some k) = refl

  product_typed : (cs : List Calc) → Each IsTyped cs → (n : Kind) → closed (multiplied_kinds (map (kind of) cs)) ≡ Some n → product_type (map type_by cs) ≡ kind_type n
  unfolding product_type shared_hint product_under
  product_typed [] h n e = cc
  product_typed (c ∷ cs) h n e =
      let parts = closed_is (multiplied_kinds (map (kind of) (c ∷ cs))) n e in
      let all = from_nothing (map (kind of) (c ∷ cs)) ∙ parts.0 in
      ap (option_and_then (product_under (map type_by (c ∷ cs)))) (hints_shared (c ∷ cs) h nothing n all)
      ∙ type_by_hint n parts.1 (product_under (map type_by (c ∷ cs))) (λ g i. factors_typed g (c ∷ cs) h nothing n all i)

  inverse_typed : (c : Calc) → IsTyped c → (n : Kind) → closed (inverse_kind (kind of c)) ≡ Some n → option_and_then negated (type_by c) ≡ kind_type n
  inverse_typed c h n e =
      let parts = inverse_is (kind of c) n (closed_is (inverse_kind (kind of c)) n e).0 in
      ap (option_and_then negated) (h plain parts.0) ∙ plain_inverse ∙ ap kind_type parts.1

  three_typed : (a b c : Calc) → IsTyped a → IsTyped b → IsTyped c → (n : Kind) → closed (added_kinds (map (kind of) (a ∷ b ∷ c ∷ []))) ≡ Some n →
      added_next (added_next (type_by a) (type_by b)) (type_by c) ≡ kind_type n
  unfolding sum_type
  three_typed a b c h k l n e = sum_typed (a ∷ b ∷ c ∷ []) (h, (k, (l, tt))) n e

  pub typed : (c : Calc) → IsTyped c
  typed = by_cases IsTyped (record {
    num = λ v u k e. fold-Num (type_step_of type) v u ∙ unit_is u ∙ ap kind_type (go (of u) k (sym (kind-Num of v u) ∙ e));
    sum = λ cs h k e. fold-Sum (type_step_of type) cs ∙ sum_typed cs h k (sym (kind-Sum of cs) ∙ e);
    product = λ cs h k e. fold-Product (type_step_of type) cs ∙ product_typed cs h k (sym (kind-Product of cs) ∙ e);
    negate = λ c h k e. fold-Negate (type_step_of type) c ∙ h k ((closed_is (kind of c) k (sym (kind-Negate of c) ∙ e)).0);
    invert = λ c h k e. fold-Invert (type_step_of type) c ∙ inverse_typed c h k (sym (kind-Invert of c) ∙ e);
    min = λ cs h k e. fold-Min (type_step_of type) cs ∙ sum_typed cs h k (sym (kind-Min of cs) ∙ e);
    max = λ cs h k e. fold-Max (type_step_of type) cs ∙ sum_typed cs h k (sym (kind-Max of cs) ∙ e);
    clamp = λ a b c h i j k e. fold-Clamp (type_step_of type) a b c ∙ three_typed a b c h i j k (sym (kind-Clamp of a b c) ∙ e);
  })
    where
      go : (j k : Kind) → closed (Some j) ≡ Some k → j ≡ k
      go j k e = let is = (closed_is (Some j) k e).0 in cc
