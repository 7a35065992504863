-- How the text of each node reads, by those of its children.
use Rattle.std.specs.Prelude.{ℕ, pos, List, [], ◌∷◌, ◌++◌, map, codes, Some}
use Rattle.std.proofs.Common.{◌≡◌, refl, sym, ◌∙◌, ap, subst}
use Rattle.std.proofs.lemmas.List.{append-nil}
use Rattle.cv_spec_text.specs.declared.token.Token.{Token}
use Rattle.cv_spec_text.specs.declared.token.Token.TheVariants as tokens
use Rattle.cv_spec_text.specs.declared.token.Bracket.TheVariants.{Round}
use Rattle.cv_spec_ratio.specs.Ratio.{Ratio, ratio}
use Rattle.cv_calc.specs.declared.unit.NumType.{NumType}
use Rattle.cv_calc.specs.declared.unit.Unit.TheVariants.{Number}
use Rattle.cv_calc.specs.declared.calc.Calc.{Calc}
use Rattle.cv_calc.specs.declared.calc.Calc.TheVariants as tree
use Rattle.cv_calc.specs.Types.{type_of}
use Rattle.cv_calc.specs.Numbers.{figure}
use Rattle.cv_calcread.specs.declared.level.Opened.TheVariants as opening
use Rattle.cv_calcread.specs.Grammar.{none, white, ReadsValue, literal, ReadsFactors, factor, times, over, ReadsTerms, term, taken}
use Rattle.cv_calcread.specs.Literals.{exact_number}
use Rattle.cv_calcread.specs.Reading.{one_or, made}
use Rattle.cv_simplify.specs.Text.{operator, closing, call}
use Rattle.cv_calc_roundtrip.proofs.Lines.{bracket_value, call_value}
use Rattle.cv_om.specs.declared.place.Place.{Place}
use Rattle.cv_om.specs.declared.place.Place.TheVariants.{Operand, Whole, Added, Multiplied, Argument}
use Rattle.cv_om.specs.Text.{placed, call_front, line_tokens, argument_tokens, written}
use Rattle.cv_om.proofs.Texts.{written-Sum, written-Product, written-Negate, written-Invert, written-Min, written-Max, written-Clamp}
use Rattle.cv_om_roundtrip.proofs.FigureSteps.{IsSound}
use Rattle.cv_om_roundtrip.proofs.Given.{IsGiven}
use Rattle.cv_om_roundtrip.proofs.Numbers.{minus_means, one_means, minus_one_piece, one_piece}
use Rattle.cv_om_roundtrip.proofs.Pieces.{IsPiece, IsSolid, IsTail, after_solid, one_solid, min_piece, max_piece, clamp_piece, open_piece, minus_piece, times_piece, over_piece, signed_tail, wrapped}
use Rattle.cv_om_roundtrip.proofs.Printed.{Opens, Printed, adds_plainly, multiplies_plainly}
use Rattle.cv_om_roundtrip.proofs.Rows.{TermsBehind, FactorsBehind, ArgumentsBehind, terms_read, factors_read, two_behind, two_reads, arguments_read, row_solid}
use Rattle.cv_om_roundtrip.proofs.Sames.{Same, AllSame, same_next, more_same, same_sums, same_products, same_negatives, same_inverses, same_least, same_greatest, same_clamps}
use Rattle.cv_om_roundtrip.proofs.Shown.{one_term, one_factor, minus_one, times as product_of, minus_times, one_times}
use Rattle.cv_om_roundtrip.proofs.Sound.{figure_sound}

-- ---- what is read first

module _ (c : Calc) (g : IsGiven c) (d : Calc) (s : Same c d) where
  pub read_type : type_of d ≡ Some g.kind
  read_type = s.typed ∙ g.typed

  pub read_sound : IsSound (figure d)
  read_sound = subst IsSound (sym s.figured) (figure_sound c g.within)

sum_same : (cs : List Calc) (d : Calc) (ds : List Calc) → IsSound (figure d) → AllSame cs (d ∷ ds) → Same (tree.Sum cs) (one_or tree.Sum (d ∷ ds))
sum_same cs d [] h k = same_next (tree.Sum cs) (tree.Sum (d ∷ [])) d (same_sums cs (d ∷ []) k) (one_term d h)
sum_same cs d (e ∷ ds) h k = same_sums cs (d ∷ e ∷ ds) k

product_same : (cs : List Calc) (d : Calc) (ds : List Calc) (t : NumType) → type_of d ≡ Some t → IsSound (figure d) → AllSame cs (d ∷ ds) → Same (tree.Product cs) (one_or tree.Product (d ∷ ds))
product_same cs d [] t e h k = same_next (tree.Product cs) (tree.Product (d ∷ [])) d (same_products cs (d ∷ []) k) (one_factor d t e h)
product_same cs d (x ∷ ds) t e h k = same_products cs (d ∷ x ∷ ds) k

-- ---- a text with brackets of its own

module _ (s : Calc) (inner : List Token) (read : Calc) (terms : List Calc) where
  pub opens_bracketed : written s Operand ≡ placed Operand inner → written s Whole ≡ placed Whole inner → written s Argument ≡ placed Argument inner → Same s read →
      ((rest : List Token) → ReadsTerms exact_number (inner ++ rest) rest terms) → one_or tree.Sum terms ≡ read → IsSolid inner → Opens s
  opens_bracketed first alone next same h e solid =
      let whole : written s Whole ≡ inner = alone ∙ append-nil inner in
      record {
        read = read;
        same = same;
        operand = λ rest. subst (λ (ts : List Token). ReadsValue exact_number (ts ++ rest) rest read) (sym first) (bracket_value inner terms read h e rest);
        terms = terms;
        whole = λ rest. subst (λ (ts : List Token). ReadsTerms exact_number (ts ++ rest) rest terms) (sym whole) (h rest);
        joined = e;
        argument_is = next ∙ ap (λ (ts : List Token). tokens.Comma ∷ tokens.White ∷ ts) (sym alone);
        operand_solid = subst IsSolid (sym first) (wrapped (tokens.Open Round) inner open_piece refl solid);
        whole_solid = subst IsSolid (sym whole) solid;
      }

printed_bracketed : (s : Calc) (inner : List Token) (read : Calc) (terms : List Calc) → ((place : Place) → written s place ≡ placed place inner) → Same s read →
    ((rest : List Token) → ReadsTerms exact_number (inner ++ rest) rest terms) → one_or tree.Sum terms ≡ read → IsSolid inner → Printed s
printed_bracketed s inner read terms at same h e solid =
    let o : Opens s = opens_bracketed s inner read terms (at Operand) (at Whole) (at Argument) same h e solid in
    record {
      opens = o;
      adds = adds_plainly s o (at Added ∙ ap (λ (ts : List Token). operator 0x2b ++ ts) (sym (at Operand)));
      multiplies = multiplies_plainly s o (at Multiplied ∙ ap (λ (ts : List Token). operator 0x2a ++ ts) (sym (at Operand)));
    }

-- ---- sums and products

pub printed_sum : (c : Calc) (cs : List Calc) → IsGiven c → Opens c → TermsBehind cs → Printed (tree.Sum (c ∷ cs))
printed_sum c cs g o t =
    printed_bracketed (tree.Sum (c ∷ cs)) (line_tokens Added (map written (c ∷ cs))) (one_or tree.Sum (o.read ∷ t.reads)) (o.read ∷ t.reads) (written-Sum (c ∷ cs))
    (sum_same (c ∷ cs) o.read t.reads (read_sound c g o.read o.same) (more_same c o.read cs t.reads o.same t.same))
    (terms_read c cs o t) refl (row_solid c cs o Operand Added o.operand_solid t.tail)

pub printed_product : (c : Calc) (cs : List Calc) → IsGiven c → Opens c → FactorsBehind cs → Printed (tree.Product (c ∷ cs))
printed_product c cs g o t =
    printed_bracketed (tree.Product (c ∷ cs)) (line_tokens Multiplied (map written (c ∷ cs))) (one_or tree.Product (o.read ∷ t.reads)) (one_or tree.Product (o.read ∷ t.reads) ∷ []) (written-Product (c ∷ cs))
    (product_same (c ∷ cs) o.read t.reads g.kind (read_type c g o.read o.same) (read_sound c g o.read o.same) (more_same c o.read cs t.reads o.same t.same))
    (λ rest. term (factors_read c cs o t rest)) refl (row_solid c cs o Operand Multiplied o.operand_solid t.tail)

-- ---- negatives and inverses

number_read : (n : List ℕ) (v : Ratio) → exact_number n ≡ v → (rest : List Token) → ReadsValue exact_number (tokens.Number n ∷ rest) rest (tree.Num v Number)
number_read n v e rest = subst (λ (w : Ratio). ReadsValue exact_number (tokens.Number n ∷ rest) rest (tree.Num w Number)) e (literal n)

pub printed_negative : (c : Calc) → IsGiven c → Opens c → Printed (tree.Negate c)
printed_negative c g o =
    let inner : List Token = tokens.Number (codes "-1") ∷ operator 0x2a ++ written c Operand in
    let opened : Opens (tree.Negate c) =
    opens_bracketed (tree.Negate c) inner (product_of minus_one o.read) (product_of minus_one o.read ∷ []) (written-Negate c Operand) (written-Negate c Whole) (written-Negate c Argument)
    (same_next (tree.Negate c) (tree.Negate o.read) (product_of minus_one o.read) (same_negatives c o.read o.same) (minus_times o.read g.kind (read_type c g o.read o.same) (read_sound c g o.read o.same)))
    (λ rest. term (times (factor none (number_read (codes "-1") minus_one minus_means.exact _)) (white none) (white none) (o.operand rest))) refl
    (after_solid (tokens.Number (codes "-1") ∷ []) (operator 0x2a ++ written c Operand) (one_solid (tokens.Number (codes "-1")) minus_one_piece refl) (signed_tail 0x2a (written c Operand) times_piece o.operand_solid)) in
    let text : written (tree.Negate c) Added ≡ operator 0x2d ++ written c Operand = written-Negate c Added ∙ ap (λ (ts : List Token). operator 0x2d ++ ts) (append-nil (written c Operand)) in
    record {
      opens = opened;
      adds = record {
        read = tree.Negate o.read;
        same = same_negatives c o.read o.same;
        next = λ {ts} {rest} {ds} r. taken (subst (λ (us : List Token). ReadsTerms exact_number ts us ds) (ap (λ (us : List Token). us ++ rest) text) r) none (factor none (o.operand rest));
        tail = subst IsTail (sym text) (signed_tail 0x2d (written c Operand) minus_piece o.operand_solid);
      };
      multiplies = multiplies_plainly (tree.Negate c) opened (written-Negate c Multiplied ∙ ap (λ (ts : List Token). operator 0x2a ++ ts) (sym (written-Negate c Operand)));
    }

pub printed_inverse : (c : Calc) → IsGiven (tree.Invert c) → Opens c → Printed (tree.Invert c)
printed_inverse c g o =
    let inner : List Token = tokens.Number (codes "1") ∷ operator 0x2f ++ written c Operand in
    let turned : Same (tree.Invert c) (tree.Invert o.read) = same_inverses c o.read o.same in
    let read : Calc = product_of (ratio (pos 1) 1) (tree.Invert o.read) in
    let opened : Opens (tree.Invert c) =
    opens_bracketed (tree.Invert c) inner read (read ∷ []) (written-Invert c Operand) (written-Invert c Whole) (written-Invert c Argument)
    (same_next (tree.Invert c) (tree.Invert o.read) read turned (one_times (tree.Invert o.read) g.kind (read_type (tree.Invert c) g (tree.Invert o.read) turned) (read_sound (tree.Invert c) g (tree.Invert o.read) turned)))
    (λ rest. term (over (factor none (number_read (codes "1") (ratio (pos 1) 1) one_means.exact _)) (white none) (white none) (o.operand rest))) refl
    (after_solid (tokens.Number (codes "1") ∷ []) (operator 0x2f ++ written c Operand) (one_solid (tokens.Number (codes "1")) one_piece refl) (signed_tail 0x2f (written c Operand) over_piece o.operand_solid)) in
    let text : written (tree.Invert c) Multiplied ≡ operator 0x2f ++ written c Operand = written-Invert c Multiplied ∙ ap (λ (ts : List Token). operator 0x2f ++ ts) (append-nil (written c Operand)) in
    record {
      opens = opened;
      adds = adds_plainly (tree.Invert c) opened (written-Invert c Added ∙ ap (λ (ts : List Token). operator 0x2b ++ ts) (sym (written-Invert c Operand)));
      multiplies = record {
        read = tree.Invert o.read;
        same = turned;
        next = λ {ts} {rest} {ds} r. over (subst (λ (us : List Token). ReadsFactors exact_number ts us ds) (ap (λ (us : List Token). us ++ rest) text) r) (white none) (white none) (o.operand rest);
        tail = subst IsTail (sym text) (signed_tail 0x2f (written c Operand) over_piece o.operand_solid);
      };
    }

-- ---- functions

module _ (s : Calc) (name : List ℕ) (inner : List Token) (read : Calc) (at : (place : Place) → written s place ≡ call_front place name ++ inner ++ closing) where
  printed_call : IsPiece (tokens.Function name) → IsSolid inner → Same s read → ((rest : List Token) → ReadsValue exact_number (call name inner ++ rest) rest read) → Printed s
  printed_call p solid same h =
      let o : Opens s = record {
        read = read;
        same = same;
        operand = λ rest. subst (λ (ts : List Token). ReadsValue exact_number (ts ++ rest) rest read) (sym (at Operand)) (h rest);
        terms = read ∷ [];
        whole = λ rest. subst (λ (ts : List Token). ReadsTerms exact_number (ts ++ rest) rest (read ∷ [])) (sym (at Whole)) (term (factor none (h rest)));
        joined = refl;
        argument_is = at Argument ∙ ap (λ (ts : List Token). tokens.Comma ∷ tokens.White ∷ ts) (sym (at Whole));
        operand_solid = subst IsSolid (sym (at Operand)) (wrapped (tokens.Function name) inner p refl solid);
        whole_solid = subst IsSolid (sym (at Whole)) (wrapped (tokens.Function name) inner p refl solid);
      } in
      record {
        opens = o;
        adds = adds_plainly s o (at Added ∙ ap (λ (ts : List Token). operator 0x2b ++ ts) (sym (at Operand)));
        multiplies = multiplies_plainly s o (at Multiplied ∙ ap (λ (ts : List Token). operator 0x2a ++ ts) (sym (at Operand)));
      }

pub printed_least : (c : Calc) (cs : List Calc) → Opens c → ArgumentsBehind cs → Printed (tree.Min (c ∷ cs))
printed_least c cs o t =
    printed_call (tree.Min (c ∷ cs)) (codes "min") (argument_tokens (map written (c ∷ cs))) (tree.Min (o.read ∷ t.reads)) (written-Min (c ∷ cs)) min_piece
    (row_solid c cs o Whole Argument o.whole_solid t.tail) (same_least (c ∷ cs) (o.read ∷ t.reads) (more_same c o.read cs t.reads o.same t.same))
    (call_value (codes "min") opening.Min (argument_tokens (map written (c ∷ cs))) (o.read ∷ t.reads) (tree.Min (o.read ∷ t.reads)) refl (λ rest. arguments_read c cs o t opening.Min refl (tokens.Close Round ∷ rest)) refl)

pub printed_greatest : (c : Calc) (cs : List Calc) → Opens c → ArgumentsBehind cs → Printed (tree.Max (c ∷ cs))
printed_greatest c cs o t =
    printed_call (tree.Max (c ∷ cs)) (codes "max") (argument_tokens (map written (c ∷ cs))) (tree.Max (o.read ∷ t.reads)) (written-Max (c ∷ cs)) max_piece
    (row_solid c cs o Whole Argument o.whole_solid t.tail) (same_greatest (c ∷ cs) (o.read ∷ t.reads) (more_same c o.read cs t.reads o.same t.same))
    (call_value (codes "max") opening.Max (argument_tokens (map written (c ∷ cs))) (o.read ∷ t.reads) (tree.Max (o.read ∷ t.reads)) refl (λ rest. arguments_read c cs o t opening.Max refl (tokens.Close Round ∷ rest)) refl)

pub printed_limits : (a b c : Calc) (x : Opens a) (y : Opens b) (z : Opens c) → Printed (tree.Clamp a b c)
printed_limits a b c x y z =
    let t : ArgumentsBehind (b ∷ c ∷ []) = two_behind b c y z in
    printed_call (tree.Clamp a b c) (codes "clamp") (argument_tokens (map written (a ∷ b ∷ c ∷ []))) (tree.Clamp x.read y.read z.read) (written-Clamp a b c) clamp_piece
    (row_solid a (b ∷ c ∷ []) x Whole Argument x.whole_solid t.tail) (same_clamps a b c x.read y.read z.read x.same y.same z.same)
    (call_value (codes "clamp") opening.Clamp (argument_tokens (map written (a ∷ b ∷ c ∷ []))) (x.read ∷ t.reads) (tree.Clamp x.read y.read z.read) refl
    (λ rest. arguments_read a (b ∷ c ∷ []) x t opening.Clamp refl (tokens.Close Round ∷ rest)) (ap (λ (ds : List Calc). made opening.Clamp (x.read ∷ ds)) (two_reads b c y z)))
