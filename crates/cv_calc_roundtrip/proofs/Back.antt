-- The text of a simplified calculation of lengths and percentages reads back.
use Rattle.std.specs.Prelude.{ℕ, map, true, ◌&&◌, List, [], ◌∷◌, ◌++◌, codes, Some}
use Rattle.std.proofs.Common.{◌≡◌, refl, sym, ◌∙◌, ap, ap₂, subst}
use Rattle.std.proofs.lemmas.List.{append-nil}
use Rattle.cv_spec_text.specs.declared.token.Token.{Token}
use Rattle.cv_spec_text.specs.declared.token.Token.TheVariants as tokens
use Rattle.cv_spec_text.specs.declared.token.Bracket.TheVariants.{Round}
use Rattle.cv_spec_ratio.specs.Ratio.{Ratio}
use Rattle.cv_frac.specs.Bounded.{in_bounds}
use Rattle.cv_calc.specs.declared.unit.Unit as units
use Rattle.cv_calc.specs.declared.unit.Unit.TheVariants.{Number}
use Rattle.cv_calc.specs.declared.context.Context.{Context}
use Rattle.cv_calc.specs.declared.calc.Calc.{Calc}
use Rattle.cv_calc.specs.declared.calc.Calc.TheVariants as tree
use Rattle.cv_calc.specs.Tree.{out-Num, out-Sum, out-Product, out-Min, out-Max, out-Clamp}
use Rattle.cv_calc.specs.Linear.{shape, is_linear, has_type}
use Rattle.cv_calc.specs.Types.{type_of, unit_type}
use Rattle.cv_calc.specs.Value.{value}
use Rattle.cv_calc.proofs.FoundTypes.{kind_is_type}
use Rattle.cv_calc.proofs.Shapes.{shape-Num}
use Rattle.cv_calcread.specs.declared.level.Opened.TheVariants as opening
use Rattle.cv_calcread.specs.Grammar.{ReadsValue, ReadsArguments, argument, none, BeginsFunction, begins}
use Rattle.cv_calcread.specs.Literals.{exact_number}
use Rattle.cv_simplify.specs.Counted.{Counted, inside}
use Rattle.cv_simplify.specs.Simplified.{simp}
use Rattle.cv_simplify.specs.Text.{Written, written, calc_text, calc_text_as, call, closing, number_alone, arguments_of}
use Rattle.cv_simplify.specs.declared.place.Place.TheVariants.{Operand, Whole}
use Rattle.cv_simplify.proofs.Texts.{written-Min, written-Max, written-Clamp}
use Rattle.cv_calc_roundtrip.specs.ReadsBack.{NumberReadsBack, numeral, quotient, ReadsBack, ReadsAsEqual, number, calculation}
use Rattle.cv_calc_roundtrip.proofs.Answered.{answered}
use Rattle.cv_calc_roundtrip.proofs.Equations.{counted_simple, inside-Num}
use Rattle.cv_calc_roundtrip.proofs.Forms.{IsForm, measure, sum, product, turned, least, greatest, limited, form_known}
use Rattle.cv_calc_roundtrip.proofs.Known.{Opening}
use Rattle.cv_calc_roundtrip.proofs.Lines.{call_value, call_narrow}
use Rattle.cv_calc_laws.specs.Single.{is_length_percentage}
use Rattle.cv_calc_roundtrip.proofs.Heads.{head, head-Num}
use Rattle.cv_calc_roundtrip.proofs.Orders.{number_is}
use Rattle.cv_calc_roundtrip.proofs.Mixed.{Kind, kind_type, kind_taken, model, model_kind, model_fits}
use Rattle.cv_calc_roundtrip.proofs.Negatives.{Measure, px, percent, measure_canonical, measure_suits}
use Rattle.cv_calc_roundtrip.proofs.Numbers.{alone_back}
use Rattle.cv_calc_roundtrip.proofs.Numerals.{narrow}
use Rattle.cv_calc_roundtrip.proofs.Terms.{lp, Known}

linear_as : (c d : Calc) → shape c ≡ shape d → is_linear d ≡ true → is_linear c ≡ true
unfolding is_linear
linear_as c d h e = ap (λ s. has_type s.kind && s.fits) h ∙ e

model_linear : (k : Kind) → is_linear (model k) ≡ true
unfolding is_linear
model_linear k = ap₂ (λ t b. has_type t && b) (model_kind k) (model_fits k)

type_as : (c : Calc) (k : Kind) → shape c ≡ shape (model k) → type_of c ≡ Some (kind_type k)
type_as c k h = sym (kind_is_type c) ∙ ap (λ s. s.kind) h ∙ model_kind k

-- the text is a function whose inside or which itself is read
record Top (s read : Calc) : Type 0 where
  begins : BeginsFunction (calc_text s)
  value : ReadsValue exact_number (calc_text s) [] read
  small : narrow (calc_text s) ≡ true

reads_as_equal : (s : Calc) (k : Known s) → Top s k.opened.read → ReadsAsEqual s (calc_text s)
reads_as_equal s k t =
    let f = k.opened.facts in
    let typed : type_of k.opened.read ≡ Some (kind_type k.kind) = type_as k.opened.read k.kind f.read_shape in
    record {
      tree = k.opened.read;
      kind = kind_type k.kind;
      read = answered (calc_text s) k.opened.read (kind_type k.kind) t.begins t.value typed t.small f.fine;
      linear = linear_as k.opened.read (model k.kind) f.read_shape (model_linear k.kind);
      taken = kind_taken k.kind;
      typed = typed;
      given_typed = type_as s k.kind f.written_shape;
      in_range = λ y b. ap (λ (c : Counted). c.in_range) (f.counts y b);
      simple_typed = λ y b. ap type_of (simple_is y b) ∙ type_as k.simple k.kind f.simple_shape;
      simple_value = λ y b m. ap (value m) (simple_is y b) ∙ f.means m;
      simple_number = λ y b v u e. number_is s v u (sym f.same ∙ ap head (sym (simple_is y b) ∙ e) ∙ head-Num v u);
    }
  where
    simple_is : (y : Context) → lp y → simp y k.opened.read ≡ k.simple
    simple_is y b = sym (counted_simple y k.opened.read) ∙ ap (λ (c : Counted). c.simple) (k.opened.facts.counts y b)

-- ---- within `calc`

within_calc : (s read : Calc) → Opening (written s) read → calc_text s ≡ call (codes "calc") ((written s).at_place Whole) → Top s read
within_calc s read o e = record {
  begins = subst BeginsFunction (sym e) (begins (codes "calc") ((written s).at_place Whole ++ closing));
  value = subst (λ (ts : List Token). ReadsValue exact_number ts [] read) (sym e)
      (subst (λ (ts : List Token). ReadsValue exact_number ts [] read) (append-nil (call (codes "calc") ((written s).at_place Whole)))
      (call_value (codes "calc") opening.Calc ((written s).at_place Whole) (read ∷ []) read refl inner refl []));
  small = ap narrow e ∙ call_narrow (codes "calc") ((written s).at_place Whole) o.whole_narrow;
}
  where
    inner : (rest : List Token) → ReadsArguments exact_number opening.Calc ((written s).at_place Whole ++ tokens.Close Round ∷ rest) (tokens.Close Round ∷ rest) (read ∷ [])
    inner rest =
        subst (λ (c : Calc). ReadsArguments exact_number opening.Calc ((written s).at_place Whole ++ tokens.Close Round ∷ rest) (tokens.Close Round ∷ rest) (c ∷ [])) o.joined
        (argument (o.whole (tokens.Close Round ∷ rest)) none)

sum_text : (cs : List Calc) → calc_text (tree.Sum cs) ≡ call (codes "calc") ((written (tree.Sum cs)).at_place Whole)
unfolding calc_text
sum_text cs = ap (calc_text_as (tree.Sum cs)) (out-Sum cs)

product_text : (cs : List Calc) → calc_text (tree.Product cs) ≡ call (codes "calc") ((written (tree.Product cs)).at_place Whole)
unfolding calc_text
product_text cs = ap (calc_text_as (tree.Product cs)) (out-Product cs)

-- ---- a function of its own

by_itself : (s read : Calc) (name : List ℕ) (inner : List Token) → Opening (written s) read → calc_text s ≡ (written s).at_place Whole →
    (written s).at_place Operand ≡ call name inner → (written s).at_place Whole ≡ call name inner → Top s read
by_itself s read name inner o e f g = record {
  begins = subst BeginsFunction (sym (e ∙ g)) (begins name (inner ++ closing));
  value = subst (λ (ts : List Token). ReadsValue exact_number ts [] read) (append-nil ((written s).at_place Operand) ∙ f ∙ sym g ∙ sym e) (o.operand []);
  small = ap narrow e ∙ o.whole_narrow;
}

min_text : (cs : List Calc) → calc_text (tree.Min cs) ≡ (written (tree.Min cs)).at_place Whole
unfolding calc_text
min_text cs = ap (calc_text_as (tree.Min cs)) (out-Min cs)

max_text : (cs : List Calc) → calc_text (tree.Max cs) ≡ (written (tree.Max cs)).at_place Whole
unfolding calc_text
max_text cs = ap (calc_text_as (tree.Max cs)) (out-Max cs)

clamp_text : (a b c : Calc) → calc_text (tree.Clamp a b c) ≡ (written (tree.Clamp a b c)).at_place Whole
unfolding calc_text
clamp_text a b c = ap (calc_text_as (tree.Clamp a b c)) (out-Clamp a b c)

min_top : (cs : List Calc) (read : Calc) → Opening (written (tree.Min cs)) read → Top (tree.Min cs) read
min_top cs read o = by_itself (tree.Min cs) read (codes "min") (arguments_of (map written cs)) o (min_text cs) (ap (λ (w : Written). w.at_place Operand) (written-Min cs)) (ap (λ (w : Written). w.at_place Whole) (written-Min cs))

max_top : (cs : List Calc) (read : Calc) → Opening (written (tree.Max cs)) read → Top (tree.Max cs) read
max_top cs read o = by_itself (tree.Max cs) read (codes "max") (arguments_of (map written cs)) o (max_text cs) (ap (λ (w : Written). w.at_place Operand) (written-Max cs)) (ap (λ (w : Written). w.at_place Whole) (written-Max cs))

clamp_top : (a b c : Calc) (read : Calc) → Opening (written (tree.Clamp a b c)) read → Top (tree.Clamp a b c) read
clamp_top a b c read o =
    by_itself (tree.Clamp a b c) read (codes "clamp") (arguments_of (written a ∷ written b ∷ written c ∷ [])) o (clamp_text a b c)
    (ap (λ (w : Written). w.at_place Operand) (written-Clamp a b c)) (ap (λ (w : Written). w.at_place Whole) (written-Clamp a b c))

-- ---- a number

number_text : (v : Ratio) (u : units.Unit) → calc_text (tree.Num v u) ≡ number_alone v u
unfolding calc_text
number_text v u = ap (calc_text_as (tree.Num v u)) (out-Num v u)

measure_type : {u : units.Unit} → Measure u → (v : Ratio) → type_of (tree.Num v u) ≡ Some (unit_type u)
measure_type {u} m v = sym (kind_is_type (tree.Num v u)) ∙ ap (λ s. s.kind) (shape-Num v u)

measure_taken : {u : units.Unit} → Measure u → is_length_percentage (unit_type u) ≡ true
measure_taken px = refl
measure_taken percent = refl

number_back : {u : units.Unit} (v : Ratio) → Measure u → in_bounds v ≡ true → ReadsBack (tree.Num v u) (calc_text (tree.Num v u))
number_back {u} v m within = subst (ReadsBack (tree.Num v u)) (sym (number_text v u)) (go (alone_back v u within (measure_canonical m)))
  where
    go : NumberReadsBack v u (number_alone v u) → ReadsBack (tree.Num v u) (number_alone v u)
    go (numeral n) = number v u refl n
    go (quotient r) = calculation (record {
      tree = r.tree;
      kind = unit_type u;
      read = r.read;
      linear = r.linear;
      taken = measure_taken m;
      typed = r.typed;
      given_typed = measure_type m v;
      in_range = λ y b. r.in_range y (measure_suits m y b);
      simple_typed = λ y b. ap type_of (r.simple y (measure_suits m y b)) ∙ measure_type m v;
      simple_value = λ y b q. ap (value q) (r.simple y (measure_suits m y b));
      simple_number = λ y b w t e. sym (r.simple y (measure_suits m y b)) ∙ e;
    })

-- ---- the whole

pub form_back : {s : Calc} → IsForm s → inside s ≡ true → ReadsBack s (calc_text s)
form_back (measure {u} v m) w = number_back v m (sym (inside-Num v u) ∙ w)
form_back (sum {cs} t r) w = let k = form_known (sum t r) w in calculation (reads_as_equal (tree.Sum cs) k (within_calc (tree.Sum cs) k.opened.read k.opened.opens (sum_text cs)))
form_back (product n {x} t f) w =
    let k = form_known (product n t f) w in
    let cs : List Calc = tree.Num n Number ∷ x ∷ [] in
    calculation (reads_as_equal (tree.Product cs) k (within_calc (tree.Product cs) k.opened.read k.opened.opens (product_text cs)))
form_back (turned n {x} t f) w =
    let k = form_known (turned n t f) w in
    let cs : List Calc = x ∷ tree.Num n Number ∷ [] in
    calculation (reads_as_equal (tree.Product cs) k (within_calc (tree.Product cs) k.opened.read k.opened.opens (product_text cs)))
form_back (least {c} {d} {cs} f a) w = let k = form_known (least f a) w in calculation (reads_as_equal (tree.Min (c ∷ d ∷ cs)) k (min_top (c ∷ d ∷ cs) k.opened.read k.opened.opens))
form_back (greatest {c} {d} {cs} f a) w = let k = form_known (greatest f a) w in calculation (reads_as_equal (tree.Max (c ∷ d ∷ cs)) k (max_top (c ∷ d ∷ cs) k.opened.read k.opened.opens))
form_back (limited {a} {b} {c} f g i j) w = let k = form_known (limited f g i j) w in calculation (reads_as_equal (tree.Clamp a b c) k (clamp_top a b c k.opened.read k.opened.opens))
