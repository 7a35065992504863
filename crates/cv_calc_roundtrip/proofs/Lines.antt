-- The texts of children, one after the other, and of what stands in brackets.
use Rattle.std.specs.Prelude.{ℕ, zero, suc, Bool, true, false, ◌==◌, List, [], ◌∷◌, ◌++◌, fold, Some}
use Rattle.std.specs.List.{filter}
use Rattle.std.proofs.Common.{◌≡◌, refl, sym, ◌∙◌, ap, subst, append_assoc}
use Rattle.std.proofs.lemmas.List.Sums.{fold-append}
use Rattle.cv_spec_text.specs.declared.token.Token.{Token}
use Rattle.cv_spec_text.specs.declared.token.Token.TheVariants as tokens
use Rattle.cv_spec_text.specs.declared.token.Bracket.TheVariants.{Round}
use Rattle.cv_calc.specs.declared.calc.Calc.{Calc}
use Rattle.cv_calc.specs.declared.calc.Calc.TheVariants as tree
use Rattle.cv_calcread.specs.declared.level.Opened.{Opened}
use Rattle.cv_calcread.specs.Grammar.{none, white, ReadsValue, brackets, function, ReadsFactors, factor, times, over, ReadsTerms, term, added, taken, ReadsArguments, argument}
use Rattle.cv_calcread.specs.Literals.{exact_number}
use Rattle.cv_calcread.specs.Reading.{one_or, made, opened_by}
use Rattle.cv_simplify.specs.declared.place.Place.{Place}
use Rattle.cv_simplify.specs.declared.place.Place.TheVariants.{Operand, Added}
use Rattle.cv_simplify.specs.Text.{Written, Line, no_line, with_child, with_rank, with_ranked, ranked, line_of, opening, closing, call, operator, ranks}
use Rattle.cv_calc_roundtrip.proofs.Known.{Opening, Adding}
use Rattle.cv_calc_roundtrip.proofs.Numerals.{narrow, narrow_append}
use Rattle.cv_calc_roundtrip.proofs.Ranks.{has_rank, in_ranks}

-- ---- in the order of ranks

abbrev pub rank_of : Written → ℕ
rank_of w = w.rank

module _ (further : Place) where
  rank_fold : (r : ℕ) (l : Line) (ws : List Written) → fold (with_rank further r) l ws ≡ fold (with_child Operand further) l (filter (has_rank rank_of r) ws)
  rank_fold r l [] = refl
  rank_fold r l (w ∷ ws) = go (w.rank == r) refl (rank_fold r (with_child Operand further l w) ws) (rank_fold r l ws)
    where
      go : (b : Bool) → (w.rank == r) ≡ b → fold (with_rank further r) (with_child Operand further l w) ws ≡ fold (with_child Operand further) (with_child Operand further l w) (filter (has_rank rank_of r) ws) →
          fold (with_rank further r) l ws ≡ fold (with_child Operand further) l (filter (has_rank rank_of r) ws) →
          fold (with_rank further r) l (w ∷ ws) ≡ fold (with_child Operand further) l (filter (has_rank rank_of r) (w ∷ ws))
      go true e h k = rw e h
      go false e h k = rw e k

  ranked_is : (n : ℕ) (ws : List Written) → ranked further ws n ≡ fold (with_child Operand further) no_line (in_ranks rank_of n ws)
  unfolding ranked
  ranked_is zero ws = refl
  ranked_is (suc r) ws =
      ap (λ (l : Line). with_ranked further ws l r) (ranked_is r ws)
      ∙ rank_fold r (fold (with_child Operand further) no_line (in_ranks rank_of r ws)) ws
      ∙ sym (fold-append (with_child Operand further) no_line (in_ranks rank_of r ws) (filter (has_rank rank_of r) ws))

  pub line_is : (ws : List Written) → line_of further ws ≡ (fold (with_child Operand further) no_line (in_ranks rank_of ranks ws)).line
  line_is ws = ap (λ (l : Line). l.line) (ranked_is ranks ws)

-- ---- brackets

pub bracket_value : (inner : List Token) (terms : List Calc) (c : Calc) → ((rest : List Token) → ReadsTerms exact_number (inner ++ rest) rest terms) → one_or tree.Sum terms ≡ c →
    (rest : List Token) → ReadsValue exact_number ((opening ++ inner ++ closing) ++ rest) rest c
bracket_value inner terms c h e rest =
    brackets (argument (subst (λ (ts : List Token). ReadsTerms exact_number ts (tokens.Close Round ∷ rest) terms) (sym (append_assoc inner closing rest)) (h (tokens.Close Round ∷ rest))) none) (ap Some e)

pub bracket_narrow : (inner : List Token) → narrow inner ≡ true → narrow (opening ++ inner ++ closing) ≡ true
bracket_narrow inner h = narrow_append inner closing h refl

pub call_value : (name : List ℕ) (opened : Opened) (inner : List Token) (cs : List Calc) (c : Calc) → opened_by name ≡ Some opened →
    ((rest : List Token) → ReadsArguments exact_number opened (inner ++ tokens.Close Round ∷ rest) (tokens.Close Round ∷ rest) cs) → made opened cs ≡ Some c →
    (rest : List Token) → ReadsValue exact_number (call name inner ++ rest) rest c
call_value name opened inner cs c e h is rest =
    function name opened e (subst (λ (ts : List Token). ReadsArguments exact_number opened ts (tokens.Close Round ∷ rest) cs) (sym (append_assoc inner closing rest)) (h rest)) is

pub call_narrow : (name : List ℕ) (inner : List Token) → narrow inner ≡ true → narrow (call name inner) ≡ true
call_narrow name inner h = narrow_append inner closing h refl

-- ---- White before a sum

white_factors : {ts rest : List Token} {cs : List Calc} → ReadsFactors exact_number ts rest cs → ReadsFactors exact_number (tokens.White ∷ ts) rest cs
white_factors (factor k v) = factor (white k) v
white_factors (times r k j v) = times (white_factors r) k j v
white_factors (over r k j v) = over (white_factors r) k j v

pub white_terms : {ts rest : List Token} {cs : List Calc} → ReadsTerms exact_number ts rest cs → ReadsTerms exact_number (tokens.White ∷ ts) rest cs
white_terms (term r) = term (white_factors r)
white_terms (added r k f) = added (white_terms r) k f
white_terms (taken r k f) = taken (white_terms r) k f

-- ---- a term that is added with brackets of its own

pub plain_adding : (w : Written) (c : Calc) → w.at_place Added ≡ operator 0x2b ++ w.at_place Operand → Opening w c → Adding w c
plain_adding w c e o = record {
  added = λ {ts} {rest} {ds} r. added (subst (λ (us : List Token). ReadsTerms exact_number ts us ds) (ap (λ (us : List Token). us ++ rest) e) r) none (factor none (o.operand rest));
  added_narrow = ap narrow e ∙ o.operand_narrow;
}

pub taken_adding : (w : Written) (child : List Token) (c : Calc) → w.at_place Added ≡ operator 0x2d ++ child → ((rest : List Token) → ReadsValue exact_number (child ++ rest) rest c) → narrow child ≡ true → Adding w (tree.Negate c)
taken_adding w child c e o h = record {
  added = λ {ts} {rest} {ds} r. taken (subst (λ (us : List Token). ReadsTerms exact_number ts us ds) (ap (λ (us : List Token). us ++ rest) e) r) none (factor none (o rest));
  added_narrow = ap narrow e ∙ h;
}
