-- How the text of a calculation reads at its places.
use Rattle.std.specs.Prelude.{Bool, true, false, pos, int_lt, List, [], ◌∷◌, ◌++◌}
use Rattle.std.proofs.Common.{◌≡◌, refl, sym, ◌∙◌, ap, subst}
use Rattle.cv_spec_text.specs.declared.token.Token.{Token}
use Rattle.cv_spec_text.specs.declared.token.Token.TheVariants as tokens
use Rattle.cv_spec_ratio.specs.Ratio.{Ratio, neg}
use Rattle.cv_frac.specs.Bounded.{in_bounds}
use Rattle.cv_calc.specs.declared.unit.Unit as units
use Rattle.cv_calc.specs.declared.calc.Calc.{Calc}
use Rattle.cv_calc.specs.declared.calc.Calc.TheVariants as tree
use Rattle.cv_calcread.specs.Grammar.{none, white, ReadsValue, ReadsFactors, factor, times, ReadsTerms, added, taken}
use Rattle.cv_calcread.specs.Literals.{exact_number}
use Rattle.cv_calcread.specs.Reading.{one_or}
use Rattle.cv_simplify.specs.Text.{operator, number_tokens}
use Rattle.cv_om.specs.declared.place.Place.{Place}
use Rattle.cv_om.specs.declared.place.Place.TheVariants.{Operand, Whole, Added, Multiplied, Argument}
use Rattle.cv_om.specs.Text.{number_placed, written}
use Rattle.cv_om.proofs.Texts.{written-Num}
use Rattle.cv_om_roundtrip.proofs.Numbers.{Numeral, numeral}
use Rattle.cv_om_roundtrip.proofs.Pieces.{IsSolid, IsTail, plus_piece, minus_piece, times_piece, signed_tail}
use Rattle.cv_om_roundtrip.proofs.Sames.{Same, same_next, same_negatives}
use Rattle.cv_om_roundtrip.proofs.Shown.{taken_number}
use Rattle.cv_om_roundtrip.proofs.Sound.{neg_inside}

-- as the first within a sum or product, and alone or as an argument
pub record Opens (c : Calc) : Type 0 where
  pub read : Calc
  pub same : Same c read
  pub operand : (rest : List Token) → ReadsValue exact_number (written c Operand ++ rest) rest read
  pub terms : List Calc
  pub whole : (rest : List Token) → ReadsTerms exact_number (written c Whole ++ rest) rest terms
  pub joined : one_or tree.Sum terms ≡ read
  pub argument_is : written c Argument ≡ tokens.Comma ∷ tokens.White ∷ written c Whole
  pub operand_solid : IsSolid (written c Operand)
  pub whole_solid : IsSolid (written c Whole)

-- behind other terms
pub record Adds (c : Calc) : Type 0 where
  pub read : Calc
  pub same : Same c read
  pub next : {ts rest : List Token} {ds : List Calc} → ReadsTerms exact_number ts (written c Added ++ rest) ds → ReadsTerms exact_number ts rest (ds ++ read ∷ [])
  pub tail : IsTail (written c Added)

-- behind other factors
pub record Multiplies (c : Calc) : Type 0 where
  pub read : Calc
  pub same : Same c read
  pub next : {ts rest : List Token} {ds : List Calc} → ReadsFactors exact_number ts (written c Multiplied ++ rest) ds → ReadsFactors exact_number ts rest (ds ++ read ∷ [])
  pub tail : IsTail (written c Multiplied)

pub record Printed (c : Calc) : Type 0 where
  pub opens : Opens c
  pub adds : Adds c
  pub multiplies : Multiplies c

-- ---- behind a sign, with brackets of its own

pub adds_plainly : (c : Calc) → Opens c → written c Added ≡ operator 0x2b ++ written c Operand → Adds c
adds_plainly c o e = record {
  read = o.read;
  same = o.same;
  next = λ {ts} {rest} {ds} r. added (subst (λ (us : List Token). ReadsTerms exact_number ts us ds) (ap (λ (us : List Token). us ++ rest) e) r) none (factor none (o.operand rest));
  tail = subst IsTail (sym e) (signed_tail 0x2b (written c Operand) plus_piece o.operand_solid);
}

pub multiplies_plainly : (c : Calc) → Opens c → written c Multiplied ≡ operator 0x2a ++ written c Operand → Multiplies c
multiplies_plainly c o e = record {
  read = o.read;
  same = o.same;
  next = λ {ts} {rest} {ds} r. times (subst (λ (us : List Token). ReadsFactors exact_number ts us ds) (ap (λ (us : List Token). us ++ rest) e) r) (white none) (white none) (o.operand rest);
  tail = subst IsTail (sym e) (signed_tail 0x2a (written c Operand) times_piece o.operand_solid);
}

-- ---- numbers

module _ (v : Ratio) (u : units.Unit) (within : in_bounds v ≡ true) where
  abbrev c : Calc
  c = tree.Num v u

  at : (place : Place) (ts : List Token) → number_placed place v u ≡ ts → written c place ≡ ts
  at place ts e = written-Num v u place ∙ e

  number_opens : Opens c
  number_opens =
      let n : Numeral v u = numeral v u within in
      record {
        read = n.read;
        same = n.same;
        operand = λ rest. subst (λ (ts : List Token). ReadsValue exact_number (ts ++ rest) rest n.read) (sym (at Operand (number_tokens true v u) refl)) (n.operand rest);
        terms = n.terms;
        whole = λ rest. subst (λ (ts : List Token). ReadsTerms exact_number (ts ++ rest) rest n.terms) (sym (at Whole (number_tokens false v u) refl)) (n.whole rest);
        joined = n.joined;
        argument_is = at Argument (tokens.Comma ∷ tokens.White ∷ number_tokens false v u) refl ∙ ap (λ (ts : List Token). tokens.Comma ∷ tokens.White ∷ ts) (sym (at Whole (number_tokens false v u) refl));
        operand_solid = subst IsSolid (sym (at Operand (number_tokens true v u) refl)) n.bracketed;
        whole_solid = subst IsSolid (sym (at Whole (number_tokens false v u) refl)) n.plain;
      }

  -- a number that is added, or taken away where it is negative
  number_adds : Adds c
  number_adds = go (int_lt v.top (pos 0)) refl
    where
      go : (b : Bool) → int_lt v.top (pos 0) ≡ b → Adds c
      go false e =
          adds_plainly c number_opens
          (at Added (operator 0x2b ++ number_tokens true v u) (rw e refl) ∙ ap (λ (ts : List Token). operator 0x2b ++ ts) (sym (at Operand (number_tokens true v u) refl)))
      go true e =
          let n : Numeral (neg v) u = numeral (neg v) u (neg_inside v within) in
          let text : written c Added ≡ operator 0x2d ++ number_tokens true (neg v) u = at Added (operator 0x2d ++ number_tokens true (neg v) u) (rw e refl) in
          record {
            read = tree.Negate n.read;
            same = same_next c (tree.Negate (tree.Num (neg v) u)) (tree.Negate n.read) (taken_number v u) (same_negatives (tree.Num (neg v) u) n.read n.same);
            next = λ {ts} {rest} {ds} r. taken (subst (λ (us : List Token). ReadsTerms exact_number ts us ds) (ap (λ (us : List Token). us ++ rest) text) r) none (factor none (n.operand rest));
            tail = subst IsTail (sym text) (signed_tail 0x2d (number_tokens true (neg v) u) minus_piece n.bracketed);
          }

  pub number_printed : Printed c
  number_printed = record {
    opens = number_opens;
    adds = number_adds;
    multiplies = multiplies_plainly c number_opens
        (at Multiplied (operator 0x2a ++ number_tokens true v u) refl ∙ ap (λ (ts : List Token). operator 0x2a ++ ts) (sym (at Operand (number_tokens true v u) refl)));
  }
