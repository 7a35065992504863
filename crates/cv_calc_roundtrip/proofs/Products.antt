-- A number times a calculation into which it isn't multiplied: how its text reads, and that it stays.
use Rattle.std.specs.Prelude.{ℕ, Bool, true, false, ◌&&◌, not, List, [], ◌∷◌, ◌++◌, fold, map, Option, Some, None, option_map}
use Rattle.std.proofs.Common.{◌≡◌, refl, sym, ◌∙◌, ap, ap₂, subst, append_assoc}
use Rattle.cv_spec_text.specs.declared.token.Token.{Token}
use Rattle.cv_spec_text.specs.declared.token.Token.TheVariants as tokens
use Rattle.cv_spec_ratio.specs.Ratio.{Ratio, mul, one_ratio}
use Rattle.cv_spec_ratio.proofs.Laws.{mul-assoc, mul_comm_ratio}
use Rattle.cv_frac.specs.Bounded.{in_bounds}
use Rattle.cv_calc.specs.declared.unit.Unit as units
use Rattle.cv_calc.specs.declared.unit.Unit.TheVariants.{Number}
use Rattle.cv_calc.specs.declared.context.Context.{Context}
use Rattle.cv_calc.specs.declared.calc.Calc.{Calc}
use Rattle.cv_calc.specs.declared.calc.Calc.TheVariants as tree
use Rattle.cv_calc.specs.declared.calc.Calc.TheOpen.{Calc-F, Num, Sum, Product, Negate, Invert, Min, Max, Clamp}
use Rattle.cv_calc.specs.declared.calc.Calc.TheViews.{out-Calc}
use Rattle.cv_calc.specs.Tree.{out-Num}
use Rattle.cv_calc.specs.Types.{added, tried_all, product_type, shared_hint, product_under, multiplied}
use Rattle.cv_calc.specs.Linear.{shape, unit_shape, product_shape, all_fit, one_measured, none_measured, all_numbers}
use Rattle.cv_calc.specs.Value.{Meaning, value, both, product_of}
use Rattle.cv_calc.proofs.Shapes.{shape-Num, shape-Product}
use Rattle.cv_calcread.specs.Figures as figures
use Rattle.cv_calcread.specs.Figures.{Evaluated, evaluated}
use Rattle.cv_calcread.specs.declared.figure.Joining.TheVariants.{Multiply}
use Rattle.cv_calcread.specs.Grammar.{ReadsTerms, term, factor, times, none, white}
use Rattle.cv_calcread.specs.Literals.{exact_number}
use Rattle.cv_calcread.proofs.Evaluations.{evaluated-Product}
use Rattle.cv_simplify.specs.Counted.{Counted, counted, counted_step, inside}
use Rattle.cv_simplify.specs.Simplified as simplified
use Rattle.cv_simplify.specs.Text.{Written, written, line_of, ranked, number_placed, last_rank}
use Rattle.cv_simplify.specs.declared.place.Place.{Place}
use Rattle.cv_simplify.specs.declared.place.Place.TheVariants.{Operand, Multiplied}
use Rattle.cv_simplify.proofs.Texts.{written-Num, written-Product}
use Rattle.cv_calc_roundtrip.proofs.Answered.{all_fine}
use Rattle.cv_calc_roundtrip.proofs.Composites.{Composite}
use Rattle.cv_calc_roundtrip.proofs.Digits.{both_true}
use Rattle.cv_calc_roundtrip.proofs.Equations.{counted-Product, inside-Num, inside-Product, value-Product}
use Rattle.cv_calc_roundtrip.proofs.Heads.{Head, number, sum, product, negate, invert, least, greatest, clamp, head, head_as, head-Num, head-Product, is_num, nums_alone, joinable, none_joins, with_none}
use Rattle.cv_calc_roundtrip.proofs.Known.{Opening}
use Rattle.cv_calc_roundtrip.proofs.Lines.{bracket_value, bracket_narrow}
use Rattle.cv_calc_roundtrip.proofs.Mixed.{Kind, lengths, percents, mixed, model, model_mixed}
use Rattle.cv_calc_roundtrip.proofs.Numbers.{KnownNumber, number_known}
use Rattle.cv_calc_roundtrip.proofs.Numerals.{narrow, narrow_append}
use Rattle.cv_calc_roundtrip.proofs.Terms.{lp, Known, fine_fold}

-- ---- what a number isn't multiplied into

abbrev pub times_head : Head → Bool
times_head (number v u) = false
times_head (sum b) = not b
times_head product = false
times_head negate = false
times_head invert = false
times_head least = true
times_head greatest = true
times_head clamp = true

times_apart : (may : units.Unit → Bool) (v : Ratio) (u : units.Unit) (h : Head) → times_head h ≡ true → joinable may (number v u) h ≡ false
times_apart may v u (number w t) e = cc
times_apart may v u (sum b) e = refl
times_apart may v u product e = cc
times_apart may v u negate e = cc
times_apart may v u invert e = cc
times_apart may v u least e = refl
times_apart may v u greatest e = refl
times_apart may v u clamp e = refl

factors_alone_as : (c : Calc) (l : Calc-F Calc) → times_head (head_as l) ≡ true → simplified.factors_as c l ≡ c ∷ []
factors_alone_as c (Num v u) h = refl
factors_alone_as c (Sum cs) h = refl
factors_alone_as c (Product cs) h = cc
factors_alone_as c (Negate d) h = refl
factors_alone_as c (Invert d) h = refl
factors_alone_as c (Min cs) h = refl
factors_alone_as c (Max cs) h = refl
factors_alone_as c (Clamp a b d) h = refl

both_none : (o : Option Calc) → simplified.both_terms o None ≡ None
both_none None = refl
both_none (Some c) = refl

terms_none : (n : Ratio) (cs : List Calc) → nums_alone cs ≡ false → simplified.scaled_terms n cs ≡ None
terms_none n [] h = cc
terms_none n (c ∷ cs) h = go (out-Calc c) h (terms_none n cs)
  where
    go : (l : Calc-F Calc) → (is_num l && nums_alone cs) ≡ false → (nums_alone cs ≡ false → simplified.scaled_terms n cs ≡ None) → simplified.both_terms (simplified.scaled_term n l) (simplified.scaled_terms n cs) ≡ None
    go (Num v u) h ih = ap (simplified.both_terms (Some (tree.Num (mul n v) u))) (ih h)
    go (Sum ds) h ih = refl
    go (Product ds) h ih = refl
    go (Negate d) h ih = refl
    go (Invert d) h ih = refl
    go (Min ds) h ih = refl
    go (Max ds) h ih = refl
    go (Clamp a b d) h ih = refl

pub scaled_none : (n : Ratio) (l : Calc-F Calc) → times_head (head_as l) ≡ true → simplified.scaled_as n l ≡ None
scaled_none n (Num v u) h = cc
scaled_none n (Sum cs) h = ap (option_map tree.Sum) (terms_none n cs (off (nums_alone cs) h))
  where
    off : (b : Bool) → not b ≡ true → b ≡ false
    off true h = cc
    off false h = refl
scaled_none n (Product cs) h = refl
scaled_none n (Negate d) h = refl
scaled_none n (Invert d) h = refl
scaled_none n (Min cs) h = refl
scaled_none n (Max cs) h = refl
scaled_none n (Clamp a b d) h = refl

alone_is : (n : Ratio) → simplified.multiplied (tree.Num n Number ∷ []) ≡ tree.Num n Number
alone_is n = simp out-Num refl

pub multiplied_stays : (n : Ratio) (x : Calc) → times_head (head x) ≡ true → simplified.multiplied (tree.Num n Number ∷ x ∷ []) ≡ tree.Product (tree.Num n Number ∷ x ∷ [])
multiplied_stays n x h =
    ap simplified.product_as row
    ∙ ap (λ o. simplified.or_else (simplified.scaled_pair o (simplified.number_of x) (tree.Num n Number) x) (tree.Product (tree.Num n Number ∷ x ∷ []))) number_is
    ∙ ap (λ o. simplified.or_else o (tree.Product (tree.Num n Number ∷ x ∷ []))) (scaled_none n (out-Calc x) h)
  where
    number_is : simplified.number_of (tree.Num n Number) ≡ Some n
    number_is = ap simplified.number_as (out-Num n Number)

    first : simplified.with_factors_of [] (tree.Num n Number) ≡ tree.Num n Number ∷ []
    first = ap (λ l. fold (simplified.with_child (simplified.joined_by simplified.is_number mul)) [] (simplified.factors_as (tree.Num n Number) l)) (out-Num n Number)

    apart : none_joins simplified.is_number (head (tree.Num n Number) ∷ []) (head x) ≡ true
    apart = ap (λ k. not (joinable simplified.is_number k (head x)) && true) (head-Num n Number) ∙ ap (λ b. not b && true) (times_apart simplified.is_number n Number (head x) h)

    row : simplified.product_row (tree.Num n Number ∷ x ∷ []) ≡ tree.Num n Number ∷ x ∷ []
    row =
        ap (λ r. simplified.with_factors_of r x) first
        ∙ ap (fold (simplified.with_child (simplified.joined_by simplified.is_number mul)) (tree.Num n Number ∷ [])) (factors_alone_as x (out-Calc x) h)
        ∙ with_none simplified.is_number mul (tree.Num n Number ∷ []) x apart

-- ---- shapes

number_first : (k : Kind) → product_shape (unit_shape Number ∷ shape (model k) ∷ []) ≡ shape (model k)
unfolding product_shape all_fit one_measured none_measured all_numbers product_type shared_hint product_under multiplied added tried_all
number_first lengths = rw (shape-Num _ _) refl
number_first percents = rw (shape-Num _ _) refl
number_first mixed = rw model_mixed refl

number_second : (k : Kind) → product_shape (shape (model k) ∷ unit_shape Number ∷ []) ≡ shape (model k)
unfolding product_shape all_fit one_measured none_measured all_numbers product_type shared_hint product_under multiplied added tried_all
number_second lengths = rw (shape-Num _ _) refl
number_second percents = rw (shape-Num _ _) refl
number_second mixed = rw model_mixed refl

-- ---- values

swapped : (o p : Option Ratio) → both mul o (both mul p (Some one_ratio)) ≡ both mul p (both mul o (Some one_ratio))
swapped None None = refl
swapped None (Some b) = refl
swapped (Some a) None = refl
swapped (Some a) (Some b) = ap Some (sym (mul-assoc a b one_ratio) ∙ ap (λ r. mul r one_ratio) (mul_comm_ratio a b) ∙ mul-assoc b a one_ratio)

-- ---- the text

two_texts : (p q : Place → List Token) → line_of Multiplied (record { rank = 0; at_place = p } ∷ record { rank = last_rank; at_place = q } ∷ []) ≡ p Operand ++ q Multiplied
unfolding ranked
two_texts p q = refl

two_turned : (p q : Place → List Token) → line_of Multiplied (record { rank = last_rank; at_place = q } ∷ record { rank = 0; at_place = p } ∷ []) ≡ p Operand ++ q Multiplied
unfolding ranked
two_turned p q = refl

as_last : (w : Written) → Composite w → w ≡ record { rank = last_rank; at_place = w.at_place }
as_last w c = ap (λ (r : ℕ). record { rank = r; at_place = w.at_place }) c.rank

module _ (n : Ratio) (x : Calc) (within : in_bounds n ≡ true) (h : times_head (head x) ≡ true) (composite : Composite (written x)) (k : Known x) where
  abbrev numeral : KnownNumber n Number
  numeral = number_known n Number within refl

  abbrev read : Calc
  read = tree.Product (numeral.read ∷ k.opened.read ∷ [])

  abbrev simple : Calc
  simple = tree.Product (tree.Num n Number ∷ k.simple ∷ [])

  abbrev line : List Token
  line = number_placed Operand n Number ++ (written x).at_place Multiplied

  stays : simplified.multiplied (tree.Num n Number ∷ k.simple ∷ []) ≡ simple
  stays = multiplied_stays n k.simple (ap times_head k.opened.facts.same ∙ h)

  inside_simple : inside simple ≡ true
  inside_simple =
      inside-Product (tree.Num n Number ∷ k.simple ∷ [])
      ∙ both_true (inside (tree.Num n Number)) (inside k.simple && true) (inside-Num n Number ∙ within) (both_true (inside k.simple) true k.opened.facts.within refl)

  passes : inside (tree.Num n Number) ≡ true → inside simple ≡ true → ((inside (simplified.multiplied []) && (inside (tree.Num n Number) && (inside simple && true))) && inside simple) ≡ true
  passes a b = rw (a, b, inside-Product []) refl

  product_counts : (y : Context) → lp y → counted y read ≡ record { simple = simple; in_range = true }
  product_counts y b =
      counted-Product y (numeral.read ∷ k.opened.read ∷ [])
      ∙ ap₂ (λ (a c : Counted). counted_step y (Product (a ∷ c ∷ []))) (numeral.facts.counts y tt) (k.opened.facts.counts y b)
      ∙ ap₂ (λ (c e : Calc). record { simple = c; in_range = (inside (simplified.multiplied []) && (inside e && (inside c && true))) && inside c }) stays (alone_is n)
      ∙ ap (λ (b : Bool). record { simple = simple; in_range = b }) (passes (inside-Num n Number ∙ within) inside_simple)

  line_text : (rest : List Token) → line ++ rest ≡ number_placed Operand n Number ++ (tokens.White ∷ tokens.Delim 0x2a ∷ tokens.White ∷ ((written x).at_place Operand ++ rest))
  line_text rest =
      append_assoc (number_placed Operand n Number) ((written x).at_place Multiplied) rest
      ∙ ap (λ (ts : List Token). number_placed Operand n Number ++ (ts ++ rest)) composite.multiplied

  product_whole : (rest : List Token) → ReadsTerms exact_number (line ++ rest) rest (read ∷ [])
  product_whole rest =
      subst (λ (ts : List Token). ReadsTerms exact_number ts rest (read ∷ [])) (sym (line_text rest))
      (term (times (factor none (numeral.tokens.operand (tokens.White ∷ tokens.Delim 0x2a ∷ tokens.White ∷ ((written x).at_place Operand ++ rest)))) (white none) (white none) (k.opened.opens.operand rest)))

  product_narrow : narrow line ≡ true
  product_narrow = narrow_append (number_placed Operand n Number) ((written x).at_place Multiplied) numeral.tokens.operand_narrow (ap narrow composite.multiplied ∙ k.opened.opens.operand_narrow)

  product_fine : all_fine (evaluated read).marks ≡ true
  product_fine =
      ap (λ (e : Evaluated). all_fine e.marks) (evaluated-Product (numeral.read ∷ k.opened.read ∷ []))
      ∙ fine_fold Multiply (figures.begun_with one_ratio) (numeral.read ∷ k.opened.read ∷ []) refl
      (both_true (all_fine (evaluated numeral.read).marks) (all_fine (evaluated k.opened.read).marks && true) numeral.facts.fine (both_true (all_fine (evaluated k.opened.read).marks) true k.opened.facts.fine refl))

  product_from : (cs : List Calc) → shape (tree.Product cs) ≡ shape (model k.kind) → line_of Multiplied (map written cs) ≡ line → ((m : Meaning) → value m simple ≡ value m (tree.Product cs)) → Known (tree.Product cs)
  product_from cs shaped text means = record {
    simple = simple;
    kind = k.kind;
    opened = record {
      read = read;
      opens = subst (λ (w : Written). Opening w read) (sym (written-Product cs)) (record {
        operand = bracket_value (line_of Multiplied (map written cs)) (read ∷ []) read (λ rest. subst (λ (ts : List Token). ReadsTerms exact_number (ts ++ rest) rest (read ∷ [])) (sym text) (product_whole rest)) refl;
        operand_narrow = bracket_narrow (line_of Multiplied (map written cs)) (ap narrow text ∙ product_narrow);
        terms = read ∷ [];
        whole = λ rest. subst (λ (ts : List Token). ReadsTerms exact_number (ts ++ rest) rest (read ∷ [])) (sym text) (product_whole rest);
        whole_narrow = ap narrow text ∙ product_narrow;
        joined = refl;
        argument = refl;
      });
      facts = record {
        written_shape = shaped;
        read_shape = shape-Product (numeral.read ∷ k.opened.read ∷ []) ∙ ap₂ (λ s t. product_shape (s ∷ t ∷ [])) (numeral.facts.read_shape ∙ shape-Num n Number) k.opened.facts.read_shape ∙ number_first k.kind;
        simple_shape = shape-Product (tree.Num n Number ∷ k.simple ∷ []) ∙ ap₂ (λ s t. product_shape (s ∷ t ∷ [])) (shape-Num n Number) k.opened.facts.simple_shape ∙ number_first k.kind;
        fine = product_fine;
        counts = product_counts;
        within = inside_simple;
        means = means;
        same = head-Product (tree.Num n Number ∷ k.simple ∷ []) ∙ sym (head-Product cs);
      };
    };
  }

  pub product_known : Known (tree.Product (tree.Num n Number ∷ x ∷ []))
  product_known = product_from (tree.Num n Number ∷ x ∷ [])
      (shape-Product (tree.Num n Number ∷ x ∷ []) ∙ ap₂ (λ s t. product_shape (s ∷ t ∷ [])) (shape-Num n Number) k.opened.facts.written_shape ∙ number_first k.kind)
      (ap₂ (λ (a b : Written). line_of Multiplied (a ∷ b ∷ [])) (written-Num n Number) (as_last (written x) composite) ∙ two_texts (λ place. number_placed place n Number) (written x).at_place)
      (λ m. value-Product m (tree.Num n Number ∷ k.simple ∷ []) ∙ ap (λ r. product_of (value m (tree.Num n Number) ∷ r ∷ [])) (k.opened.facts.means m) ∙ sym (value-Product m (tree.Num n Number ∷ x ∷ [])))

  pub turned_known : Known (tree.Product (x ∷ tree.Num n Number ∷ []))
  turned_known = product_from (x ∷ tree.Num n Number ∷ [])
      (shape-Product (x ∷ tree.Num n Number ∷ []) ∙ ap₂ (λ s t. product_shape (s ∷ t ∷ [])) k.opened.facts.written_shape (shape-Num n Number) ∙ number_second k.kind)
      (ap₂ (λ (a b : Written). line_of Multiplied (a ∷ b ∷ [])) (as_last (written x) composite) (written-Num n Number) ∙ two_turned (λ place. number_placed place n Number) (written x).at_place)
      (λ m. value-Product m (tree.Num n Number ∷ k.simple ∷ []) ∙ ap (λ r. product_of (value m (tree.Num n Number) ∷ r ∷ [])) (k.opened.facts.means m)
      ∙ swapped (value m (tree.Num n Number)) (value m x) ∙ sym (value-Product m (x ∷ tree.Num n Number ∷ [])))
