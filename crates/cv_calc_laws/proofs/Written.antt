-- Which tokens the text of a calculation holds.
use Rattle.std.specs.Prelude.{ℕ, zero, suc, ◌==◌, Bool, true, false, ◌&&◌, pos, int_lt, List, [], ◌∷◌, ◌++◌, fold, map, codes, decimal, if◌then◌else◌}
use Rattle.std.specs.List.{list_all}
use Rattle.std.specs.Fmt.{signed_decimal}
use Rattle.std.proofs.Common.{◌≡◌, refl, sym, ◌∙◌, ap, subst}
use Rattle.cv_spec_text.specs.declared.token.Token.{Token}
use Rattle.cv_spec_text.specs.declared.token.Token.TheVariants as tokens
use Rattle.cv_spec_text.specs.declared.token.Bracket.TheVariants.{Round}
use Rattle.cv_spec_ratio.specs.Ratio.{Ratio, neg}
use Rattle.cv_frac.specs.Text.{frac_text}
use Rattle.cv_calc.specs.declared.unit.Unit as units
use Rattle.cv_calc.specs.declared.unit.Unit.TheVariants as unit
use Rattle.cv_calc.specs.declared.calc.Calc.{Calc}
use Rattle.cv_calc.specs.declared.calc.Calc.TheVariants as tree
use Rattle.cv_calc.specs.declared.calc.Calc.TheOpen.{Calc-F, Num, Min, Max, Clamp}
use Rattle.cv_calc.specs.declared.calc.Calc.TheViews.{out-Calc, roll-Calc, roll-out-Calc}
use Rattle.cv_calc.specs.declared.calc.Calc.TheFolds.{fold-roll-Calc}
use Rattle.cv_calc.specs.Tree.{Each, by_cases}
use Rattle.cv_simplify.specs.declared.place.Place.{Place}
use Rattle.cv_simplify.specs.declared.place.Place.TheVariants.{Operand, Whole, Added, Multiplied, Argument}
use Rattle.cv_simplify.specs.Text.{operator, closing, call, numeric, has_decimal, decimal_tokens, quotient_tokens, bracketed, number_tokens, number_alone, prefix, has_brackets, placed, number_added, number_placed, negative_placed, inverse_placed, Written, Line, no_line, with_child, with_rank, with_ranked, ranked, line_of, arguments_of, written, calc_text_as, calc_text, ranks}
use Rattle.cv_simplify.proofs.Texts.{written-Num, written-Sum, written-Product, written-Negate, written-Invert, written-Min, written-Max, written-Clamp}
use Rattle.cv_calc_laws.specs.Pieces.{TakesTexts}
use Rattle.cv_calc_laws.specs.Units.{units_step, all_units}
use Rattle.cv_calc_laws.proofs.Folding.{all-Num, all-Sum, all-Product, all-Negate, all-Invert, all-Min, all-Max, all-Clamp}
use Rattle.cv_calc_laws.proofs.Lists.{Every, and_both, both_are}

module _ (fine : Token → Bool) (test : units.Unit → Bool) (takes : TakesTexts fine test) where
  abbrev AreFine : List Token → Type 0
  AreFine ts = list_all fine ts ≡ true

  then_fine : (t : Token) (ts : List Token) → fine t ≡ true → AreFine ts → AreFine (t ∷ ts)
  then_fine t ts h k = both_are (fine t) (list_all fine ts) h k

  joined_fine : (ts us : List Token) → AreFine ts → AreFine us → AreFine (ts ++ us)
  joined_fine [] us h k = k
  joined_fine (t ∷ ts) us h k = let (first, rest) = and_both (fine t) (list_all fine ts) h in then_fine t (ts ++ us) first (joined_fine ts us rest k)

  -- ---- punctuation and numbers

  one_fine : (t : Token) → fine t ≡ true → AreFine (t ∷ [])
  one_fine t h = then_fine t [] h refl

  operator_fine : (c : ℕ) → AreFine (operator c)
  operator_fine c = then_fine tokens.White (tokens.Delim c ∷ tokens.White ∷ []) takes.white (then_fine (tokens.Delim c) (tokens.White ∷ []) (takes.delim c) (one_fine tokens.White takes.white))

  call_fine : (name : List ℕ) (inner : List Token) → fine (tokens.Function name) ≡ true → AreFine inner → AreFine (call name inner)
  call_fine name inner f h = then_fine (tokens.Function name) (inner ++ closing) f (joined_fine inner closing h (one_fine (tokens.Close Round) takes.close_bracket))

  bracketed_fine : (b : Bool) (inner : List Token) → AreFine inner → AreFine (bracketed b inner)
  bracketed_fine true inner h = then_fine (tokens.Open Round) (inner ++ closing) takes.open_bracket (joined_fine inner closing h (one_fine (tokens.Close Round) takes.close_bracket))
  bracketed_fine false inner h = h

  numeric_fine : (spelling : List ℕ) (u : units.Unit) → test u ≡ true → fine (numeric spelling u) ≡ true
  numeric_fine spelling unit.Number h = takes.number spelling
  numeric_fine spelling unit.Percent h = takes.percentage spelling
  numeric_fine spelling u h = takes.dimension spelling u h

  decimal_fine : (v : Ratio) (u : units.Unit) → test u ≡ true → AreFine (decimal_tokens v u)
  decimal_fine v u h = one_fine (numeric (frac_text v) u) (numeric_fine (frac_text v) u h)

  quotient_fine : (v : Ratio) (u : units.Unit) → test u ≡ true → AreFine (quotient_tokens v u)
  quotient_fine v u h =
      then_fine (numeric (signed_decimal v.top) u) (operator 0x2f ++ tokens.Number (decimal v.bottom) ∷ []) (numeric_fine (signed_decimal v.top) u h)
      (joined_fine (operator 0x2f) (tokens.Number (decimal v.bottom) ∷ []) (operator_fine 0x2f) (one_fine (tokens.Number (decimal v.bottom)) (takes.number (decimal v.bottom))))

  either_fine : (b : Bool) (ts us : List Token) → AreFine ts → AreFine us → AreFine (if b then ts else us)
  either_fine true ts us h k = h
  either_fine false ts us h k = k

  number_fine : (b : Bool) (v : Ratio) (u : units.Unit) → test u ≡ true → AreFine (number_tokens b v u)
  number_fine b v u h = either_fine (has_decimal v) (decimal_tokens v u) (bracketed b (quotient_tokens v u)) (decimal_fine v u h) (bracketed_fine b (quotient_tokens v u) (quotient_fine v u h))

  pub alone_fine : (v : Ratio) (u : units.Unit) → test u ≡ true → AreFine (number_alone v u)
  alone_fine v u h =
      either_fine (has_decimal v) (decimal_tokens v u) (call (codes "calc") (quotient_tokens v u)) (decimal_fine v u h) (call_fine (codes "calc") (quotient_tokens v u) takes.calc (quotient_fine v u h))

  -- ---- places

  prefix_fine : (place : Place) → AreFine (prefix place)
  prefix_fine Operand = refl
  prefix_fine Whole = refl
  prefix_fine Added = operator_fine 0x2b
  prefix_fine Multiplied = operator_fine 0x2a
  prefix_fine Argument = then_fine tokens.Comma (tokens.White ∷ []) takes.comma (one_fine tokens.White takes.white)

  placed_fine : (place : Place) (inner : List Token) → AreFine inner → AreFine (placed place inner)
  placed_fine place inner h = joined_fine (prefix place) (bracketed (has_brackets place) inner) (prefix_fine place) (bracketed_fine (has_brackets place) inner h)

  added_fine : (v : Ratio) (u : units.Unit) → test u ≡ true → AreFine (number_added v u)
  added_fine v u h =
      either_fine (int_lt v.top (pos 0)) (operator 0x2d ++ number_tokens true (neg v) u) (operator 0x2b ++ number_tokens true v u)
      (joined_fine (operator 0x2d) (number_tokens true (neg v) u) (operator_fine 0x2d) (number_fine true (neg v) u h))
      (joined_fine (operator 0x2b) (number_tokens true v u) (operator_fine 0x2b) (number_fine true v u h))

  number_placed_fine : (place : Place) (v : Ratio) (u : units.Unit) → test u ≡ true → AreFine (number_placed place v u)
  number_placed_fine Added v u h = added_fine v u h
  number_placed_fine place v u h = joined_fine (prefix place) (number_tokens (has_brackets place) v u) (prefix_fine place) (number_fine (has_brackets place) v u h)

  before_fine : (spelling : List ℕ) (c : ℕ) (child : List Token) → AreFine child → AreFine (tokens.Number spelling ∷ operator c ++ child)
  before_fine spelling c child h = then_fine (tokens.Number spelling) (operator c ++ child) (takes.number spelling) (joined_fine (operator c) child (operator_fine c) h)

  negative_fine : (place : Place) (child : List Token) → AreFine child → AreFine (negative_placed place child)
  negative_fine Added child h = joined_fine (operator 0x2d) child (operator_fine 0x2d) h
  negative_fine place child h = placed_fine place (tokens.Number (codes "-1") ∷ operator 0x2a ++ child) (before_fine (codes "-1") 0x2a child h)

  inverse_fine : (place : Place) (child : List Token) → AreFine child → AreFine (inverse_placed place child)
  inverse_fine Multiplied child h = joined_fine (operator 0x2f) child (operator_fine 0x2f) h
  inverse_fine place child h = placed_fine place (tokens.Number (codes "1") ∷ operator 0x2f ++ child) (before_fine (codes "1") 0x2f child h)

  -- ---- children

  abbrev IsFine : Written → Type 0
  IsFine w = (place : Place) → AreFine (w.at_place place)

  child_fine : (first further : Place) (l : Line) (w : Written) → AreFine l.line → IsFine w → AreFine (with_child first further l w).line
  child_fine first further l w h k = joined_fine l.line (w.at_place (if l.started then further else first)) h (k (if l.started then further else first))

  rank_fine : (further : Place) (r : ℕ) (l : Line) (w : Written) → AreFine l.line → IsFine w → AreFine (with_rank further r l w).line
  rank_fine further r l w h k = go (w.rank == r)
    where
      go : (b : Bool) → AreFine (if b then with_child Operand further l w else l).line
      go true = child_fine Operand further l w h k
      go false = h

  ranks_fine : (further : Place) (ws : List Written) (l : Line) (r : ℕ) → Every IsFine ws → AreFine l.line → AreFine (with_ranked further ws l r).line
  ranks_fine further [] l r k h = h
  ranks_fine further (w ∷ ws) l r k h = ranks_fine further ws (with_rank further r l w) r k.1 (rank_fine further r l w h k.0)

  ranked_fine : (further : Place) (ws : List Written) (n : ℕ) → Every IsFine ws → AreFine (ranked further ws n).line
  unfolding ranked
  ranked_fine further ws zero k = refl
  ranked_fine further ws (suc n) k = ranks_fine further ws (ranked further ws n) n k (ranked_fine further ws n k)

  line_fine : (further : Place) (ws : List Written) → Every IsFine ws → AreFine (line_of further ws)
  line_fine further ws k = ranked_fine further ws ranks k

  children_fine : (ws : List Written) (l : Line) → Every IsFine ws → AreFine l.line → AreFine (fold (with_child Whole Argument) l ws).line
  children_fine [] l k h = h
  children_fine (w ∷ ws) l k h = children_fine ws (with_child Whole Argument l w) k.1 (child_fine Whole Argument l w h k.0)

  arguments_fine : (ws : List Written) → Every IsFine ws → AreFine (arguments_of ws)
  arguments_fine ws k = children_fine ws no_line k refl

  called_fine : (name : List ℕ) (ws : List Written) (place : Place) → fine (tokens.Function name) ≡ true → Every IsFine ws → AreFine (prefix place ++ call name (arguments_of ws))
  called_fine name ws place f k = joined_fine (prefix place) (call name (arguments_of ws)) (prefix_fine place) (call_fine name (arguments_of ws) f (arguments_fine ws k))

  -- ---- a tree

  abbrev WritesFine : Calc → Type 0
  WritesFine c = all_units test c ≡ true → IsFine (written c)

  from_written : (c : Calc) (w : Written) → written c ≡ w → IsFine w → IsFine (written c)
  from_written c w e h = subst IsFine (sym e) h

  each_fine : (cs : List Calc) → Each WritesFine cs → list_all (λ b. b) (map (all_units test) cs) ≡ true → Every IsFine (map written cs)
  each_fine [] h k = tt
  each_fine (c ∷ cs) h k =
      let (first, rest) = and_both (all_units test c) (list_all (λ b. b) (map (all_units test) cs)) k in (h.0 first, each_fine cs h.1 rest)

  clamp_fine : (a b c : Calc) → WritesFine a → WritesFine b → WritesFine c → WritesFine (tree.Clamp a b c)
  clamp_fine a b c h k l q =
      let (front, third) = and_both (all_units test a && all_units test b) (all_units test c) (sym (all-Clamp test a b c) ∙ q) in
      let (first, second) = and_both (all_units test a) (all_units test b) front in
      from_written (tree.Clamp a b c) _ (written-Clamp a b c) (λ place. called_fine (codes "clamp") (written a ∷ written b ∷ written c ∷ []) place takes.clamp (h first, (k second, (l third, tt))))

  pub writes_fine : (c : Calc) → WritesFine c
  writes_fine = by_cases WritesFine record {
    num = λ v u k. from_written (tree.Num v u) _ (written-Num v u) (λ place. number_placed_fine place v u (sym (all-Num test v u) ∙ k));
    sum = λ cs h k. from_written (tree.Sum cs) _ (written-Sum cs) (λ place. placed_fine place (line_of Added (map written cs)) (line_fine Added (map written cs) (each_fine cs h (sym (all-Sum test cs) ∙ k))));
    product = λ cs h k. from_written (tree.Product cs) _ (written-Product cs) (λ place. placed_fine place (line_of Multiplied (map written cs)) (line_fine Multiplied (map written cs) (each_fine cs h (sym (all-Product test cs) ∙ k))));
    negate = λ c h k. from_written (tree.Negate c) _ (written-Negate c) (λ place. negative_fine place ((written c).at_place Operand) (h (sym (all-Negate test c) ∙ k) Operand));
    invert = λ c h k. from_written (tree.Invert c) _ (written-Invert c) (λ place. inverse_fine place ((written c).at_place Operand) (h (sym (all-Invert test c) ∙ k) Operand));
    min = λ cs h k. from_written (tree.Min cs) _ (written-Min cs) (λ place. called_fine (codes "min") (map written cs) place takes.min (each_fine cs h (sym (all-Min test cs) ∙ k)));
    max = λ cs h k. from_written (tree.Max cs) _ (written-Max cs) (λ place. called_fine (codes "max") (map written cs) place takes.max (each_fine cs h (sym (all-Max test cs) ∙ k)));
    clamp = clamp_fine;
  }

  unit_passes : (v : Ratio) (u : units.Unit) → all_units test (roll-Calc (Num v u)) ≡ test u
  unfolding all_units
  unit_passes v u = fold-roll-Calc Bool (units_step test) (Num v u)

  text_as_fine : (c : Calc) (l : Calc-F Calc) → roll-Calc l ≡ c → all_units test c ≡ true → AreFine ((written c).at_place Whole) → AreFine (calc_text_as c l)
  text_as_fine c (Num v u) e k h = alone_fine v u (sym (unit_passes v u) ∙ ap (all_units test) e ∙ k)
  text_as_fine c (Min cs) e k h = h
  text_as_fine c (Max cs) e k h = h
  text_as_fine c (Clamp a b d) e k h = h
  text_as_fine c _ e k h = call_fine (codes "calc") ((written c).at_place Whole) takes.calc h

  pub text_fine : (c : Calc) → all_units test c ≡ true → AreFine (calc_text c)
  unfolding calc_text
  text_fine c k = text_as_fine c (out-Calc c) (roll-out-Calc c) k (writes_fine c k Whole)
