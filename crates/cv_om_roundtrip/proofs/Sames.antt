-- Trees of the same type, value and divisors.
use Rattle.std.specs.Prelude.{List, [], ◌∷◌, ◌++◌, map, fold, Some, option_map}
use Rattle.std.specs.Option.{option_and_then}
use Rattle.std.proofs.Common.{◌≡◌, refl, sym, ◌∙◌, ap, ap₂}
use Rattle.cv_spec_ratio.specs.Ratio.{Ratio, neg, zero_ratio, one_ratio}
use Rattle.cv_spec_ratio.specs.Order.{lesser, greater}
use Rattle.cv_calc.specs.declared.unit.Unit as units
use Rattle.cv_calc.specs.declared.calc.Calc.{Calc}
use Rattle.cv_calc.specs.declared.calc.Calc.TheVariants.{Num, Sum, Product, Negate, Invert, Min, Max, Clamp}
use Rattle.cv_calc.specs.Tree.{fold-Num, fold-Sum, fold-Product, fold-Negate, fold-Invert, fold-Min, fold-Max, fold-Clamp}
use Rattle.cv_calc.specs.Types.{unit_type, sum_type, product_type, negated, added_next, type_step, type_of}
use Rattle.cv_calc.specs.Value.{Meaning, both, sum_of, product_of, chosen_of, inverse_of, value_step, value}
use Rattle.cv_calc.specs.Numbers as numbers
use Rattle.cv_calc.specs.Numbers.{Figure, figure}
use Rattle.cv_calc.proofs.Values.{value-Sum, value-Negate, value-Invert}
use Rattle.cv_calcread.specs.declared.figure.Mark.{Mark}
use Rattle.cv_calcread.specs.Figures.{mark_of}
use Rattle.cv_om_roundtrip.proofs.FigureSteps.{figure-Sum, figure-Product, figure-Negate, figure-Invert, figure-Min, figure-Max, figure-Clamp}
use Rattle.cv_om_roundtrip.proofs.Marks.{grave, grave_append, marks, all_marks, marks_Sum, marks_Product, marks_Negate, marks_Invert, marks_Min, marks_Max, marks_Clamp}

-- ---- types and values of each kind

pub type-Num : (v : Ratio) (u : units.Unit) → type_of (Num v u) ≡ Some (unit_type u)
unfolding type_of
type-Num v u = fold-Num type_step v u

pub type-Sum : (cs : List Calc) → type_of (Sum cs) ≡ sum_type (map type_of cs)
unfolding type_of
type-Sum cs = fold-Sum type_step cs

pub type-Product : (cs : List Calc) → type_of (Product cs) ≡ product_type (map type_of cs)
unfolding type_of
type-Product cs = fold-Product type_step cs

pub type-Negate : (c : Calc) → type_of (Negate c) ≡ type_of c
unfolding type_of
type-Negate c = fold-Negate type_step c

pub type-Invert : (c : Calc) → type_of (Invert c) ≡ option_and_then negated (type_of c)
unfolding type_of
type-Invert c = fold-Invert type_step c

pub type-Min : (cs : List Calc) → type_of (Min cs) ≡ sum_type (map type_of cs)
unfolding type_of
type-Min cs = fold-Min type_step cs

pub type-Max : (cs : List Calc) → type_of (Max cs) ≡ sum_type (map type_of cs)
unfolding type_of
type-Max cs = fold-Max type_step cs

pub type-Clamp : (a b c : Calc) → type_of (Clamp a b c) ≡ added_next (added_next (type_of a) (type_of b)) (type_of c)
unfolding type_of
type-Clamp a b c = fold-Clamp type_step a b c

module _ (m : Meaning) where
  pub value-Product : (cs : List Calc) → value m (Product cs) ≡ product_of (map (value m) cs)
  unfolding value
  value-Product cs = fold-Product (value_step m) cs

  value-Min : (cs : List Calc) → value m (Min cs) ≡ chosen_of lesser (map (value m) cs)
  unfolding value
  value-Min cs = fold-Min (value_step m) cs

  value-Max : (cs : List Calc) → value m (Max cs) ≡ chosen_of greater (map (value m) cs)
  unfolding value
  value-Max cs = fold-Max (value_step m) cs

  value-Clamp : (a b c : Calc) → value m (Clamp a b c) ≡ both greater (value m a) (both lesser (value m b) (value m c))
  unfolding value
  value-Clamp a b c = fold-Clamp (value_step m) a b c

-- ---- two trees, and two lists of trees

pub record Same (c d : Calc) : Type 0 where
  pub typed : type_of d ≡ type_of c
  pub valued : (m : Meaning) → value m d ≡ value m c
  pub figured : figure d ≡ figure c
  pub marked : grave (marks d) ≡ grave (marks c)

pub record AllSame (cs ds : List Calc) : Type 0 where
  pub typed : map type_of ds ≡ map type_of cs
  pub valued : (m : Meaning) → map (value m) ds ≡ map (value m) cs
  pub figured : map figure ds ≡ map figure cs
  pub marked : grave (all_marks ds) ≡ grave (all_marks cs)

pub same_self : (c : Calc) → Same c c
same_self c = record { typed = refl; valued = λ m. refl; figured = refl; marked = refl }

pub same_next : (c d e : Calc) → Same c d → Same d e → Same c e
same_next c d e h k = record { typed = k.typed ∙ h.typed; valued = λ m. k.valued m ∙ h.valued m; figured = k.figured ∙ h.figured; marked = k.marked ∙ h.marked }

pub no_same : AllSame [] []
no_same = record { typed = refl; valued = λ m. refl; figured = refl; marked = refl }

pub more_same : (c d : Calc) (cs ds : List Calc) → Same c d → AllSame cs ds → AllSame (c ∷ cs) (d ∷ ds)
more_same c d cs ds h k = record {
  typed = ap₂ (λ t ts. t ∷ ts) h.typed k.typed;
  valued = λ m. ap₂ (λ o os. o ∷ os) (h.valued m) (k.valued m);
  figured = ap₂ (λ g gs. g ∷ gs) h.figured k.figured;
  marked = grave_append (marks d) (all_marks ds) ∙ ap₂ (λ ms ns. ms ++ ns) h.marked k.marked ∙ sym (grave_append (marks c) (all_marks cs));
}

-- ---- nodes over them

pub same_sums : (cs ds : List Calc) → AllSame cs ds → Same (Sum cs) (Sum ds)
same_sums cs ds h = record {
  typed = type-Sum ds ∙ ap sum_type h.typed ∙ sym (type-Sum cs);
  valued = λ m. value-Sum m ds ∙ ap sum_of (h.valued m) ∙ sym (value-Sum m cs);
  figured = figure-Sum ds ∙ ap (fold numbers.added (numbers.inside zero_ratio)) h.figured ∙ sym (figure-Sum cs);
  marked = ap grave (marks_Sum ds) ∙ h.marked ∙ sym (ap grave (marks_Sum cs));
}

pub same_products : (cs ds : List Calc) → AllSame cs ds → Same (Product cs) (Product ds)
same_products cs ds h = record {
  typed = type-Product ds ∙ ap product_type h.typed ∙ sym (type-Product cs);
  valued = λ m. value-Product m ds ∙ ap product_of (h.valued m) ∙ sym (value-Product m cs);
  figured = figure-Product ds ∙ ap (fold numbers.multiplied (numbers.inside one_ratio)) h.figured ∙ sym (figure-Product cs);
  marked = ap grave (marks_Product ds) ∙ h.marked ∙ sym (ap grave (marks_Product cs));
}

pub same_least : (cs ds : List Calc) → AllSame cs ds → Same (Min cs) (Min ds)
same_least cs ds h = record {
  typed = type-Min ds ∙ ap sum_type h.typed ∙ sym (type-Min cs);
  valued = λ m. value-Min m ds ∙ ap (λ os. chosen_of lesser os) (h.valued m) ∙ sym (value-Min m cs);
  figured = figure-Min ds ∙ ap (λ gs. numbers.chosen numbers.least gs) h.figured ∙ sym (figure-Min cs);
  marked = ap grave (marks_Min ds) ∙ h.marked ∙ sym (ap grave (marks_Min cs));
}

pub same_greatest : (cs ds : List Calc) → AllSame cs ds → Same (Max cs) (Max ds)
same_greatest cs ds h = record {
  typed = type-Max ds ∙ ap sum_type h.typed ∙ sym (type-Max cs);
  valued = λ m. value-Max m ds ∙ ap (λ os. chosen_of greater os) (h.valued m) ∙ sym (value-Max m cs);
  figured = figure-Max ds ∙ ap (λ gs. numbers.chosen numbers.greatest gs) h.figured ∙ sym (figure-Max cs);
  marked = ap grave (marks_Max ds) ∙ h.marked ∙ sym (ap grave (marks_Max cs));
}

pub same_negatives : (c d : Calc) → Same c d → Same (Negate c) (Negate d)
same_negatives c d h = record {
  typed = type-Negate d ∙ h.typed ∙ sym (type-Negate c);
  valued = λ m. value-Negate m d ∙ ap (option_map neg) (h.valued m) ∙ sym (value-Negate m c);
  figured = figure-Negate d ∙ ap (λ g. numbers.negated g) h.figured ∙ sym (figure-Negate c);
  marked = ap grave (marks_Negate d) ∙ h.marked ∙ sym (ap grave (marks_Negate c));
}

grave_behind : (m : Mark) (ms ns : List Mark) → grave ms ≡ grave ns → grave (m ∷ ms) ≡ grave (m ∷ ns)
grave_behind m ms ns e = grave_append (m ∷ []) ms ∙ ap (λ ks. grave (m ∷ []) ++ ks) e ∙ sym (grave_append (m ∷ []) ns)

pub same_inverses : (c d : Calc) → Same c d → Same (Invert c) (Invert d)
same_inverses c d h = record {
  typed = type-Invert d ∙ ap (option_and_then negated) h.typed ∙ sym (type-Invert c);
  valued = λ m. value-Invert m d ∙ ap inverse_of (h.valued m) ∙ sym (value-Invert m c);
  figured = figure-Invert d ∙ ap (λ g. numbers.inverted g) h.figured ∙ sym (figure-Invert c);
  marked = ap grave (marks_Invert d) ∙ ap (λ g. grave (mark_of g ∷ marks d)) h.figured ∙ grave_behind (mark_of (figure c)) (marks d) (marks c) h.marked ∙ sym (ap grave (marks_Invert c));
}

pub same_clamps : (a b c x y z : Calc) → Same a x → Same b y → Same c z → Same (Clamp a b c) (Clamp x y z)
same_clamps a b c x y z h k l = record {
  typed = type-Clamp x y z ∙ ap₂ added_next (ap₂ added_next h.typed k.typed) l.typed ∙ sym (type-Clamp a b c);
  valued = λ m. value-Clamp m x y z ∙ ap₂ (both greater) (h.valued m) (ap₂ (both lesser) (k.valued m) (l.valued m)) ∙ sym (value-Clamp m a b c);
  figured = figure-Clamp x y z ∙ ap₂ (λ g o. numbers.greatest g o) h.figured (ap₂ (λ o p. numbers.least o p) k.figured l.figured) ∙ sym (figure-Clamp a b c);
  marked = ap grave (marks_Clamp x y z) ∙ grave_append (marks x) (marks y ++ marks z)
      ∙ ap₂ (λ ms ns. ms ++ ns) h.marked (grave_append (marks y) (marks z) ∙ ap₂ (λ ms ns. ms ++ ns) k.marked l.marked ∙ sym (grave_append (marks b) (marks c)))
      ∙ sym (ap grave (marks_Clamp a b c) ∙ grave_append (marks a) (marks b ++ marks c));
}
