-- What is printed of a numeric value is read back.
use Rattle.std.specs.Prelude.{ℕ, Bool, true, false, List, [], ◌∷◌, codes, Option, Some, None, Result, Ok}
use Rattle.std.proofs.Common.{◌≡◌, refl, sym, ◌∙◌, ap, subst}
use Rattle.std.proofs.lemmas.List.{append-nil}
use Rattle.cv_spec_text.specs.declared.token.Token.{Token}
use Rattle.cv_spec_text.specs.declared.token.Token.TheVariants as tokens
use Rattle.cv_spec_text.specs.declared.token.Bracket.TheVariants.{Round}
use Rattle.cv_spec_text.specs.Printing.{bytes}
use Rattle.cv_spec_ratio.specs.Ratio.{Ratio}
use Rattle.cv_frac.specs.Bounded.{in_bounds}
use Rattle.cv_frac.specs.Text.{frac_text}
use Rattle.cv_calc.specs.declared.unit.Unit as units
use Rattle.cv_calc.specs.declared.unit.NumType.{NumType}
use Rattle.cv_calc.specs.declared.calc.Calc.{Calc}
use Rattle.cv_calc.specs.declared.calc.Calc.TheVariants as tree
use Rattle.cv_calc.specs.Tree.{Each, by_cases, out-Num, out-Sum, out-Product, out-Negate, out-Invert, out-Min, out-Max, out-Clamp}
use Rattle.cv_calc.specs.Types.{type_of}
use Rattle.cv_calc.specs.Linear.{has_type}
use Rattle.cv_calcread.specs.declared.figure.Mark.{Mark}
use Rattle.cv_calcread.specs.declared.figure.Mark.TheVariants.{Fine, Far, Null}
use Rattle.cv_calcread.specs.declared.level.Opened.TheVariants as opening
use Rattle.cv_calcread.specs.Answer.{answer}
use Rattle.cv_calcread.specs.Grammar.{BeginsFunction, begins, none, ReadsValue, argument}
use Rattle.cv_calcread.specs.Literals.{exact_number}
use Rattle.cv_calcread.specs.Reading.{one_or}
use Rattle.cv_simplify.specs.Text.{numeric, has_decimal, number_tokens, number_alone, call}
use Rattle.cv_simplify.proofs.InRange.{inside-Num}
use Rattle.cv_calc_roundtrip.proofs.Lines.{call_value}
use Rattle.cv_om.specs.declared.error.OmErr.{OmErr}
use Rattle.cv_om.specs.declared.place.Place.TheVariants.{Operand, Whole}
use Rattle.cv_om.specs.Parsed.{function_answer, parsed_tokens, parsed}
use Rattle.cv_om.specs.Text.{written, numeric_text_as, numeric_text}
use Rattle.cv_om.proofs.Texts.{written-Min, written-Max, written-Clamp}
use Rattle.cv_om_roundtrip.specs.Read.{worst, divisors, IsReadAs, PrintedValuesAreRead}
use Rattle.cv_om_roundtrip.proofs.Given.{IsGiven, no_sum, no_product, sum_given, product_given, least_given, greatest_given, negative_given, inverse_given, limits_given}
use Rattle.cv_om_roundtrip.proofs.Judged.{Answers, same_worst, judged}
use Rattle.cv_om_roundtrip.proofs.Marks.{marks, marks_Num}
use Rattle.cv_om_roundtrip.proofs.Nodes.{printed_sum, printed_product, printed_negative, printed_inverse, printed_least, printed_greatest, printed_limits}
use Rattle.cv_om_roundtrip.proofs.Numbers.{Numeral, numeral, lone_numeral}
use Rattle.cv_om_roundtrip.proofs.Pieces.{IsTidy, IsSolid, tidy_back, tidy_narrow, calc_piece, wrapped}
use Rattle.cv_om_roundtrip.proofs.Printed.{Opens, Printed, number_printed}
use Rattle.cv_om_roundtrip.proofs.Rows.{terms_behind, factors_behind, arguments_behind}
use Rattle.cv_om_roundtrip.proofs.Sames.{Same, type-Sum, type-Product, type-Min, type-Max}

-- ---- each tree

abbrev Goal : Calc → Type 0
Goal c = IsGiven c → Printed c

each_printed : (cs : List Calc) → Each Goal cs → Each IsGiven cs → Each Printed cs
each_printed [] h g = tt
each_printed (c ∷ cs) h g = (h.0 g.0, each_printed cs h.1 g.1)

sum_goal : (cs : List Calc) → Each Goal cs → Goal (tree.Sum cs)
sum_goal [] h g = no_sum g.kind (sym (type-Sum []) ∙ g.typed)
sum_goal (c ∷ cs) h g = let s = sum_given (c ∷ cs) g in printed_sum c cs s.0 (h.0 s.0).opens (terms_behind cs (each_printed cs h.1 s.1))

product_goal : (cs : List Calc) → Each Goal cs → Goal (tree.Product cs)
product_goal [] h g = no_product g.kind (sym (type-Product []) ∙ g.typed)
product_goal (c ∷ cs) h g = let s = product_given (c ∷ cs) g in printed_product c cs s.0 (h.0 s.0).opens (factors_behind cs (each_printed cs h.1 s.1))

least_goal : (cs : List Calc) → Each Goal cs → Goal (tree.Min cs)
least_goal [] h g = no_sum g.kind (sym (type-Min []) ∙ g.typed)
least_goal (c ∷ cs) h g = let s = least_given (c ∷ cs) g in printed_least c cs (h.0 s.0).opens (arguments_behind cs (each_printed cs h.1 s.1))

greatest_goal : (cs : List Calc) → Each Goal cs → Goal (tree.Max cs)
greatest_goal [] h g = no_sum g.kind (sym (type-Max []) ∙ g.typed)
greatest_goal (c ∷ cs) h g = let s = greatest_given (c ∷ cs) g in printed_greatest c cs (h.0 s.0).opens (arguments_behind cs (each_printed cs h.1 s.1))

printed : (c : Calc) → Goal c
printed = by_cases Goal record {
  num = λ v u g. number_printed v u (sym (inside-Num v u) ∙ g.within);
  sum = sum_goal;
  product = product_goal;
  negate = λ c k g. printed_negative c (negative_given c g) (k (negative_given c g)).opens;
  invert = λ c k g. printed_inverse c g (k (inverse_given c g)).opens;
  min = least_goal;
  max = greatest_goal;
  clamp = λ a b c k l n g. let s = limits_given a b c g in printed_limits a b c (k s.0).opens (l s.1).opens (n s.2).opens;
}

-- ---- a list that is a function

record IsFunction (c : Calc) (ts : List Token) : Type 0 where
  read : Calc
  same : Same c read
  starts : BeginsFunction ts
  value : ReadsValue exact_number ts [] read
  tidy : IsTidy ts

function_parsed : (ts : List Token) → BeginsFunction ts → parsed_tokens ts ≡ function_answer (answer ts)
function_parsed ts (begins name []) = refl
function_parsed ts (begins name (t ∷ us)) = refl

read_as : (m : Mark) (c d : Calc) (r : Result Calc OmErr) → Same c d → Answers m d r → IsReadAs m c r
read_as Fine c d r s h = (d, (h, record { typed = s.typed; valued = s.valued }))
read_as Far c d r s h = h
read_as Null c d r s h = h

function_read : (c : Calc) (ts : List Token) → IsGiven c → IsFunction c ts → IsReadAs (divisors c) c (parsed (bytes ts))
function_read c ts g f =
    let is : parsed (bytes ts) ≡ function_answer (answer ts) = ap parsed_tokens (tidy_back ts f.tidy) ∙ function_parsed ts f.starts in
    let answers : Answers (worst (marks f.read)) f.read (function_answer (answer ts)) = judged ts f.read g.kind f.starts f.value (f.same.typed ∙ g.typed) (tidy_narrow 0 ts f.tidy) in
    subst (λ (r : Result Calc OmErr). IsReadAs (divisors c) c r) (sym is)
    (subst (λ (m : Mark). IsReadAs m c (function_answer (answer ts))) (same_worst (marks f.read) (marks c) f.same.marked)
    (read_as (worst (marks f.read)) c f.read (function_answer (answer ts)) f.same answers))

-- ---- the text of each kind

called : (c : Calc) → Opens c → IsFunction c (call (codes "calc") (written c Whole))
called c o =
    let solid : IsSolid (call (codes "calc") (written c Whole)) = wrapped (tokens.Function (codes "calc")) (written c Whole) calc_piece refl o.whole_solid in
    record {
      read = o.read;
      same = o.same;
      starts = begins (codes "calc") _;
      value = subst (λ (ts : List Token). ReadsValue exact_number ts [] o.read) (append-nil (call (codes "calc") (written c Whole)))
          (call_value (codes "calc") opening.Calc (written c Whole) (one_or tree.Sum o.terms ∷ []) o.read refl (λ rest. argument (o.whole (tokens.Close Round ∷ rest)) none) (ap Some o.joined) []);
      tidy = solid.tail.tidy;
    }

-- a function of its own
plain : (c : Calc) → Opens c → written c Whole ≡ written c Operand → BeginsFunction (written c Whole) → IsFunction c (written c Whole)
plain c o e starts = record {
  read = o.read;
  same = o.same;
  starts = starts;
  value = subst (λ (ts : List Token). ReadsValue exact_number ts [] o.read) (append-nil (written c Operand) ∙ sym e) (o.operand []);
  tidy = o.whole_solid.tail.tidy;
}

starts_function : (ts us : List Token) (name : List ℕ) → ts ≡ tokens.Function name ∷ us → BeginsFunction ts
starts_function ts us name e = subst BeginsFunction (sym e) (begins name us)

-- ---- numbers

quotient_function : (v : Ratio) (u : units.Unit) → in_bounds v ≡ true → has_decimal v ≡ false → IsFunction (tree.Num v u) (number_alone v u)
quotient_function v u within e =
    let n : Numeral v u = numeral v u within in
    let text : number_alone v u ≡ call (codes "calc") (number_tokens false v u) = rw e refl in
    let solid : IsSolid (call (codes "calc") (number_tokens false v u)) = wrapped (tokens.Function (codes "calc")) (number_tokens false v u) calc_piece refl n.plain in
    record {
      read = n.read;
      same = n.same;
      starts = subst BeginsFunction (sym text) (begins (codes "calc") _);
      value = subst (λ (ts : List Token). ReadsValue exact_number ts [] n.read) (append-nil (call (codes "calc") (number_tokens false v u)) ∙ sym text)
          (call_value (codes "calc") opening.Calc (number_tokens false v u) (one_or tree.Sum n.terms ∷ []) n.read refl (λ rest. argument (n.whole (tokens.Close Round ∷ rest)) none) (ap Some n.joined) []);
      tidy = subst IsTidy (sym text) solid.tail.tidy;
    }

decimal_read : (v : Ratio) (u : units.Unit) → in_bounds v ≡ true → has_decimal v ≡ true → IsReadAs (divisors (tree.Num v u)) (tree.Num v u) (parsed (bytes (number_alone v u)))
decimal_read v u within e =
    let n : Numeral v u = numeral v u within in
    let text : number_alone v u ≡ numeric (frac_text v) u ∷ [] = rw e refl in
    let same : number_tokens true v u ≡ numeric (frac_text v) u ∷ [] = rw e refl in
    let tidy : IsTidy (numeric (frac_text v) u ∷ []) = subst IsTidy same n.bracketed.tail.tidy in
    let is : parsed (bytes (number_alone v u)) ≡ Ok (tree.Num v u) =
    ap (λ (ts : List Token). parsed (bytes ts)) text ∙ ap parsed_tokens (tidy_back (numeric (frac_text v) u ∷ []) tidy) ∙ lone_numeral v u _ within e in
    subst (λ (m : Mark). IsReadAs m (tree.Num v u) (parsed (bytes (number_alone v u)))) (sym (ap worst (marks_Num v u)))
    (tree.Num v u, (is, record { typed = refl; valued = λ m. refl }))

number_read : (v : Ratio) (u : units.Unit) → IsGiven (tree.Num v u) → IsReadAs (divisors (tree.Num v u)) (tree.Num v u) (parsed (bytes (number_alone v u)))
number_read v u g = go (has_decimal v) refl
  where
    within : in_bounds v ≡ true
    within = sym (inside-Num v u) ∙ g.within

    go : (b : Bool) → has_decimal v ≡ b → IsReadAs (divisors (tree.Num v u)) (tree.Num v u) (parsed (bytes (number_alone v u)))
    go true e = decimal_read v u within e
    go false e = function_read (tree.Num v u) (number_alone v u) g (quotient_function v u within e)

-- ---- the law

abbrev IsBack : Calc → Type 0
IsBack c = IsGiven c → IsReadAs (divisors c) c (parsed (bytes (numeric_text c)))

along : (c : Calc) (ts : List Token) → numeric_text c ≡ ts → IsReadAs (divisors c) c (parsed (bytes ts)) → IsReadAs (divisors c) c (parsed (bytes (numeric_text c)))
along c ts e h = subst (λ (us : List Token). IsReadAs (divisors c) c (parsed (bytes us))) (sym e) h

as_call : (c : Calc) → numeric_text c ≡ call (codes "calc") (written c Whole) → IsBack c
as_call c e g = along c (call (codes "calc") (written c Whole)) e (function_read c (call (codes "calc") (written c Whole)) g (called c (printed c g).opens))

as_itself : (c : Calc) → numeric_text c ≡ written c Whole → written c Whole ≡ written c Operand → BeginsFunction (written c Whole) → IsBack c
as_itself c e f s g = along c (written c Whole) e (function_read c (written c Whole) g (plain c (printed c g).opens f s))

back : (c : Calc) → IsBack c
unfolding numeric_text
back = by_cases IsBack record {
  num = λ v u g. along (tree.Num v u) (number_alone v u) (ap (numeric_text_as (tree.Num v u)) (out-Num v u)) (number_read v u g);
  sum = λ cs h. as_call (tree.Sum cs) (ap (numeric_text_as (tree.Sum cs)) (out-Sum cs));
  product = λ cs h. as_call (tree.Product cs) (ap (numeric_text_as (tree.Product cs)) (out-Product cs));
  negate = λ c h. as_call (tree.Negate c) (ap (numeric_text_as (tree.Negate c)) (out-Negate c));
  invert = λ c h. as_call (tree.Invert c) (ap (numeric_text_as (tree.Invert c)) (out-Invert c));
  min = λ cs h. as_itself (tree.Min cs) (ap (numeric_text_as (tree.Min cs)) (out-Min cs)) (written-Min cs Whole ∙ sym (written-Min cs Operand)) (starts_function _ _ (codes "min") (written-Min cs Whole));
  max = λ cs h. as_itself (tree.Max cs) (ap (numeric_text_as (tree.Max cs)) (out-Max cs)) (written-Max cs Whole ∙ sym (written-Max cs Operand)) (starts_function _ _ (codes "max") (written-Max cs Whole));
  clamp = λ a b c h k l. as_itself (tree.Clamp a b c) (ap (numeric_text_as (tree.Clamp a b c)) (out-Clamp a b c)) (written-Clamp a b c Whole ∙ sym (written-Clamp a b c Operand)) (starts_function _ _ (codes "clamp") (written-Clamp a b c Whole));
}

pub printed_values_are_read : PrintedValuesAreRead
printed_values_are_read c h within = go (type_of c) refl h
  where
    go : (o : Option NumType) → type_of c ≡ o → has_type o ≡ true → IsReadAs (divisors c) c (parsed (bytes (numeric_text c)))
    go (Some t) e h = back c (record { kind = t; typed = e; within = within })
    go None e h = absurd cc
