-- How the text of a number reads.
use Rattle.std.specs.Prelude.{ℕ, Bool, true, false, ◌&&◌, ℤ, pos, int_lt, List, [], ◌∷◌, ◌++◌, codes, decimal, Some}
use Rattle.std.specs.Fmt.{signed_decimal}
use Rattle.std.proofs.Common.{◌≡◌, refl, sym, ◌∙◌, ap, subst}
use Rattle.cv_spec_text.specs.declared.token.Token.{Token}
use Rattle.cv_spec_text.specs.declared.token.Token.TheVariants as tokens
use Rattle.cv_spec_text.specs.declared.token.Bracket.TheVariants.{Round}
use Rattle.cv_spec_ratio.specs.Ratio.{Ratio, ratio, neg}
use Rattle.cv_spec_ratio.proofs.Laws.{neg-neg}
use Rattle.cv_spec_ratio.specs.Code.{ratio_self}
use Rattle.cv_frac.specs.Bounded.{in_bounds}
use Rattle.cv_frac.specs.Text.{frac_text}
use Rattle.cv_calc.specs.declared.unit.Unit as units
use Rattle.cv_calc.specs.declared.unit.Unit.TheVariants.{Number}
use Rattle.cv_calc.specs.declared.calc.Calc.{Calc}
use Rattle.cv_calc.specs.declared.calc.Calc.TheVariants as tree
use Rattle.cv_calc.specs.declared.calc.Calc.TheOpen as layer
use Rattle.cv_calc.specs.declared.context.Context.{Context}
use Rattle.cv_calc.specs.Tree.{out-Num}
use Rattle.cv_calc.specs.Linear.{shape, is_linear, has_type}
use Rattle.cv_calc.specs.Types.{type_of, unit_type}
use Rattle.cv_calc.proofs.Shapes.{shape-Num, shape-Negate}
use Rattle.cv_calc.proofs.FoundTypes.{kind_is_type}
use Rattle.cv_calcread.specs.Figures.{Evaluated}
use Rattle.cv_calcread.proofs.Evaluations.{evaluated-Negate}
use Rattle.cv_calcread.specs.declared.level.Opened.TheVariants as opening
use Rattle.cv_calcread.specs.Grammar.{begins, none, white, ReadsValue, brackets, function, factor, over, ReadsTerms, term, added, taken, argument}
use Rattle.cv_calcread.specs.Literals.{exact_number}
use Rattle.cv_calcread.specs.Reading.{one_or}
use Rattle.cv_calcread.specs.Answer.{is_wide, answer}
use Rattle.cv_simplify.specs.Canonical.{is_canonical}
use Rattle.cv_simplify.specs.Counted.{Counted, counted, counted_step, inside, is_in_range}
use Rattle.cv_simplify.specs.Simplified as simplified
use Rattle.cv_simplify.specs.Text.{Written, numeric, number_tokens, number_placed, number_added, has_decimal, written, number_alone, operator, unit_rank}
use Rattle.cv_simplify.proofs.Bounds.{inside_negated}
use Rattle.cv_simplify.proofs.Texts.{written-Num}
use Rattle.cv_calc_roundtrip.specs.ReadsBack.{NumberReadsBack, numeral, quotient as quotient_reads, NumbersReadBack}
use Rattle.cv_calc_roundtrip.proofs.Answered.{all_fine, answered}
use Rattle.cv_calc_roundtrip.proofs.Equations.{counted-Negate, counted_simple, inside-Num}
use Rattle.cv_calc_roundtrip.proofs.Decimals.{small_numbers}
use Rattle.cv_calc_roundtrip.proofs.Known.{Facts, Opening, Adding}
use Rattle.cv_calc_roundtrip.proofs.Numerals.{Means, decimal_means, whole_means, narrow, numeral_read, numeral_narrow}
use Rattle.cv_calc_roundtrip.proofs.Quotients.{suits, quotient, quotient_facts, numeral_facts}

-- the tokens of a number within brackets and without, and as what they read
pub record Tokens (v : Ratio) (u : units.Unit) (read : Calc) : Type 0 where
  pub operand : (rest : List Token) → ReadsValue exact_number (number_tokens true v u ++ rest) rest read
  pub operand_narrow : narrow (number_tokens true v u) ≡ true
  pub terms : List Calc
  pub whole : (rest : List Token) → ReadsTerms exact_number (number_tokens false v u ++ rest) rest terms
  pub whole_narrow : narrow (number_tokens false v u) ≡ true
  pub joined : one_or tree.Sum terms ≡ read

-- with the facts of what they read as
pub record KnownNumber (v : Ratio) (u : units.Unit) : Type 0 where
  pub read : Calc
  pub tokens : Tokens v u read
  pub facts : Facts (suits u) (tree.Num v u) read (tree.Num v u) (tree.Num v u)

numeral_value : (v : Ratio) (u : units.Unit) (n : List ℕ) → is_canonical u ≡ true → exact_number n ≡ v → (rest : List Token) → ReadsValue exact_number (numeric n u ∷ rest) rest (tree.Num v u)
numeral_value v u n h e rest = subst (λ (w : Ratio). ReadsValue exact_number (numeric n u ∷ rest) rest (tree.Num w u)) e (numeral_read u n rest h)

one_narrow : (u : units.Unit) (n : List ℕ) (v : Ratio) → Means n v → narrow (numeric n u ∷ []) ≡ true
one_narrow u n v m = rw (numeral_narrow u n m.in_range) refl

numeral_tokens : (v : Ratio) (u : units.Unit) → in_bounds v ≡ true → is_canonical u ≡ true → has_decimal v ≡ true → Tokens v u (tree.Num v u)
numeral_tokens v u within h e =
    let m : Means (frac_text v) v = decimal_means v within e in
    record {
      operand = λ rest. rw e (numeral_value v u (frac_text v) h m.exact rest);
      operand_narrow = rw e (one_narrow u (frac_text v) v m);
      terms = tree.Num v u ∷ [];
      whole = λ rest. rw e (term (factor none (numeral_value v u (frac_text v) h m.exact rest)));
      whole_narrow = rw e (one_narrow u (frac_text v) v m);
      joined = refl;
    }

quotient_whole : (p : ℤ) (q : ℕ) (u : units.Unit) → is_canonical u ≡ true → exact_number (signed_decimal p) ≡ ratio p 1 → exact_number (decimal q) ≡ ratio (pos q) 1 → (rest : List Token) →
    ReadsTerms exact_number (numeric (signed_decimal p) u ∷ tokens.White ∷ tokens.Delim 0x2f ∷ tokens.White ∷ tokens.Number (decimal q) ∷ rest) rest (quotient p q u ∷ [])
quotient_whole p q u h e f rest =
    term (over (factor none (numeral_value (ratio p 1) u (signed_decimal p) h e _)) (white none) (white none) (numeral_value (ratio (pos q) 1) Number (decimal q) refl f rest))

quotient_narrow : (p : ℤ) (q : ℕ) (u : units.Unit) (rest : List Token) → Means (signed_decimal p) (ratio p 1) → Means (decimal q) (ratio (pos q) 1) → narrow rest ≡ true →
    narrow (numeric (signed_decimal p) u ∷ tokens.White ∷ tokens.Delim 0x2f ∷ tokens.White ∷ tokens.Number (decimal q) ∷ rest) ≡ true
quotient_narrow p q u rest m n h =
    let k : is_wide (tokens.Number (decimal q)) ≡ false = numeral_narrow Number (decimal q) n.in_range in
    rw (numeral_narrow u (signed_decimal p) m.in_range, k) h

quotient_tokens : (v : Ratio) (u : units.Unit) → in_bounds v ≡ true → is_canonical u ≡ true → has_decimal v ≡ false → Tokens v u (quotient v.top v.bottom u)
quotient_tokens v u within h e =
    let small = small_numbers v within in
    let m : Means (signed_decimal v.top) (ratio v.top 1) = whole_means v.top small.0 in
    let n : Means (decimal v.bottom) (ratio (pos v.bottom) 1) = whole_means (pos v.bottom) small.1 in
    record {
      operand = λ rest. rw e (brackets (argument (quotient_whole v.top v.bottom u h m.exact n.exact (tokens.Close Round ∷ rest)) none) refl);
      operand_narrow = rw e (quotient_narrow v.top v.bottom u (tokens.Close Round ∷ []) m n refl);
      terms = quotient v.top v.bottom u ∷ [];
      whole = λ rest. rw e (quotient_whole v.top v.bottom u h m.exact n.exact rest);
      whole_narrow = rw e (quotient_narrow v.top v.bottom u [] m n refl);
      joined = refl;
    }

pub number_known : (v : Ratio) (u : units.Unit) → in_bounds v ≡ true → is_canonical u ≡ true → KnownNumber v u
number_known v u within h = go (has_decimal v) refl
  where
    go : (b : Bool) → has_decimal v ≡ b → KnownNumber v u
    go true e = record { read = tree.Num v u; tokens = numeral_tokens v u within h e; facts = numeral_facts v u within h }
    go false e = record {
      read = quotient v.top v.bottom u;
      tokens = quotient_tokens v u within h e;
      facts = quotient_facts v.top v.bottom v.positive (small_numbers v within).1 v u (ratio_self v) within (small_numbers v within).0 h;
    }

-- ---- at its places

pub number_opens : (v : Ratio) (u : units.Unit) (read : Calc) → Tokens v u read → Opening (written (tree.Num v u)) read
number_opens v u read t = subst (λ (w : Written). Opening w read) (sym (written-Num v u)) (record {
  operand = t.operand;
  operand_narrow = t.operand_narrow;
  terms = t.terms;
  whole = t.whole;
  whole_narrow = t.whole_narrow;
  joined = t.joined;
  argument = refl;
})

-- a number behind other terms: as itself, or taken away where it is negative
pub record AddedNumber (v : Ratio) (u : units.Unit) : Type 0 where
  pub read : Calc
  pub adding : Adding (written (tree.Num v u)) read
  pub facts : Facts (suits u) (tree.Num v u) read (tree.Num v u) (tree.Num v u)

negated_number : (v : Ratio) (u : units.Unit) → simplified.negated (tree.Num v u) ≡ tree.Num (neg v) u
negated_number v u = simp out-Num refl

neg_inside : (v : Ratio) (u : units.Unit) → in_bounds v ≡ true → in_bounds (neg v) ≡ true
neg_inside v u h = sym (inside-Num (neg v) u) ∙ ap inside (sym (negated_number v u)) ∙ inside_negated (tree.Num v u) (inside-Num v u ∙ h)

negated_facts : (v : Ratio) (u : units.Unit) (c : Calc) → in_bounds v ≡ true → Facts (suits u) (tree.Num (neg v) u) c (tree.Num (neg v) u) (tree.Num (neg v) u) →
    Facts (suits u) (tree.Num v u) (tree.Negate c) (tree.Num v u) (tree.Num v u)
negated_facts v u c within f =
    let back : simplified.negated (tree.Num (neg v) u) ≡ tree.Num v u = negated_number (neg v) u ∙ ap (λ r. tree.Num r u) (neg-neg v) in
    let inner : inside (tree.Num v u) ≡ true = inside-Num v u ∙ within in
    record {
      written_shape = refl;
      read_shape = shape-Negate c ∙ f.read_shape ∙ shape-Num (neg v) u ∙ sym (shape-Num v u);
      simple_shape = refl;
      fine = ap (λ (e : Evaluated). all_fine e.marks) (evaluated-Negate c) ∙ f.fine;
      counts = λ y k.
          counted-Negate y c ∙ ap (λ (n : Counted). counted_step y (layer.Negate n)) (f.counts y k)
          ∙ ap (λ (e : Calc). record { simple = e; in_range = inside e }) back
          ∙ ap (λ (b : Bool). record { simple = tree.Num v u; in_range = b }) inner;
      within = inner;
      means = λ m. refl;
      same = refl;
    }

pub number_added_known : (v : Ratio) (u : units.Unit) → in_bounds v ≡ true → is_canonical u ≡ true → AddedNumber v u
number_added_known v u within h = go (int_lt v.top (pos 0)) refl
  where
    go : (b : Bool) → int_lt v.top (pos 0) ≡ b → AddedNumber v u
    go false e =
        let k : KnownNumber v u = number_known v u within h in
        record {
          read = k.read;
          adding = subst (λ (w : Written). Adding w k.read) (sym (written-Num v u)) (adds k e);
          facts = k.facts;
        }
      where
        adds : (k : KnownNumber v u) → int_lt v.top (pos 0) ≡ false → Adding (record { rank = unit_rank u; at_place = λ place. number_placed place v u }) k.read
        adds k e = record {
          added = λ {ts} {rest} {ds} r. added (subst (λ (us : List Token). ReadsTerms exact_number ts us ds) (text rest) r) none (factor none (k.tokens.operand rest));
          added_narrow = ap narrow (head_text e) ∙ k.tokens.operand_narrow;
        }
          where
            head_text : int_lt v.top (pos 0) ≡ false → number_added v u ≡ operator 0x2b ++ number_tokens true v u
            head_text e = rw e refl

            text : (rest : List Token) → number_added v u ++ rest ≡ tokens.White ∷ tokens.Delim 0x2b ∷ tokens.White ∷ (number_tokens true v u ++ rest)
            text rest = ap (λ (ts : List Token). ts ++ rest) (head_text e)
    go true e =
        let k : KnownNumber (neg v) u = number_known (neg v) u (neg_inside v u within) h in
        record {
          read = tree.Negate k.read;
          adding = subst (λ (w : Written). Adding w (tree.Negate k.read)) (sym (written-Num v u)) (adds k e);
          facts = negated_facts v u k.read within k.facts;
        }
      where
        adds : (k : KnownNumber (neg v) u) → int_lt v.top (pos 0) ≡ true → Adding (record { rank = unit_rank u; at_place = λ place. number_placed place v u }) (tree.Negate k.read)
        adds k e = record {
          added = λ {ts} {rest} {ds} r. taken (subst (λ (us : List Token). ReadsTerms exact_number ts us ds) (text rest) r) none (factor none (k.tokens.operand rest));
          added_narrow = ap narrow (head_text e) ∙ k.tokens.operand_narrow;
        }
          where
            head_text : int_lt v.top (pos 0) ≡ true → number_added v u ≡ operator 0x2d ++ number_tokens true (neg v) u
            head_text e = rw e refl

            text : (rest : List Token) → number_added v u ++ rest ≡ tokens.White ∷ tokens.Delim 0x2d ∷ tokens.White ∷ (number_tokens true (neg v) u ++ rest)
            text rest = ap (λ (ts : List Token). ts ++ rest) (head_text e)

-- ---- the law

range_of : (y : Context) (c s : Calc) → counted y c ≡ record { simple = s; in_range = true } → is_in_range y c ≡ true
range_of y c s h = ap (λ (k : Counted). k.in_range) h

quotient_linear : (c : Calc) (v : Ratio) (u : units.Unit) → shape c ≡ shape (tree.Num v u) → is_linear c ≡ true
unfolding is_linear
quotient_linear c v u h = ap (λ s. has_type s.kind && s.fits) (h ∙ shape-Num v u)

alone : (v : Ratio) (u : units.Unit) → in_bounds v ≡ true → is_canonical u ≡ true → (b : Bool) → has_decimal v ≡ b → NumberReadsBack v u (number_alone v u)
alone v u within h true e =
    let m : Means (frac_text v) v = decimal_means v within e in
    numeral (record { spelling = frac_text v; one = rw e refl; exact = m.exact; in_range = m.in_range })
alone v u within h false e =
    let small = small_numbers v within in
    let t : Tokens v u (quotient v.top v.bottom u) = quotient_tokens v u within h e in
    let f : Facts (suits u) (tree.Num v u) (quotient v.top v.bottom u) (tree.Num v u) (tree.Num v u) = quotient_facts v.top v.bottom v.positive small.1 v u (ratio_self v) within small.0 h in
    let m : Means (signed_decimal v.top) (ratio v.top 1) = whole_means v.top small.0 in
    let n : Means (decimal v.bottom) (ratio (pos v.bottom) 1) = whole_means (pos v.bottom) small.1 in
    let typed : type_of (quotient v.top v.bottom u) ≡ Some (unit_type u) = sym (kind_is_type (quotient v.top v.bottom u)) ∙ ap (λ s. s.kind) (f.read_shape ∙ shape-Num v u) in
    let text : number_alone v u ≡ tokens.Function (codes "calc") ∷ numeric (signed_decimal v.top) u ∷ tokens.White ∷ tokens.Delim 0x2f ∷ tokens.White ∷ tokens.Number (decimal v.bottom) ∷ tokens.Close Round ∷ [] = rw e refl in
    let value = function (codes "calc") opening.Calc refl (argument (quotient_whole v.top v.bottom u h m.exact n.exact (tokens.Close Round ∷ [])) none) refl in
    let small : narrow (tokens.Function (codes "calc") ∷ numeric (signed_decimal v.top) u ∷ tokens.White ∷ tokens.Delim 0x2f ∷ tokens.White ∷ tokens.Number (decimal v.bottom) ∷ tokens.Close Round ∷ []) ≡ true = quotient_narrow v.top v.bottom u (tokens.Close Round ∷ []) m n refl in
    quotient_reads (record {
      tree = quotient v.top v.bottom u;
      read = ap answer text ∙ answered _ (quotient v.top v.bottom u) (unit_type u) (begins (codes "calc") _) value typed small f.fine;
      linear = quotient_linear (quotient v.top v.bottom u) v u f.read_shape;
      typed = typed;
      in_range = λ y k. range_of y _ _ (f.counts y k);
      simple = λ y k. sym (counted_simple y (quotient v.top v.bottom u)) ∙ ap (λ (c : Counted). c.simple) (f.counts y k);
    })

pub alone_back : (v : Ratio) (u : units.Unit) → in_bounds v ≡ true → is_canonical u ≡ true → NumberReadsBack v u (number_alone v u)
alone_back v u within h = alone v u within h (has_decimal v) refl

pub numbers_read_back : NumbersReadBack
numbers_read_back = record { reads = alone_back }
