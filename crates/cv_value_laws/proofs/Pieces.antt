-- What holds of the pieces of calculations' texts, and of pieces put together, holds of these texts.
use Rattle.std.specs.Prelude.{ℕ, zero, suc, ◌==◌, Bool, true, false, pos, int_lt, List, [], ◌∷◌, ◌++◌, fold, map, codes, decimal, if◌then◌else◌}
use Rattle.std.specs.Fmt.{signed_decimal}
use Rattle.std.specs.List.{AllByRecursion as Every}
use Rattle.std.proofs.Common.{◌≡◌, sym, subst}
use Rattle.cv_spec_text.specs.declared.token.Token.{Token}
use Rattle.cv_spec_text.specs.declared.token.Token.TheVariants as tokens
use Rattle.cv_spec_text.specs.declared.token.Bracket.TheVariants.{Round}
use Rattle.cv_spec_ratio.specs.Ratio.{Ratio, neg}
use Rattle.cv_frac.specs.Text.{frac_text}
use Rattle.cv_calc.specs.declared.unit.Unit.{Unit}
use Rattle.cv_calc.specs.declared.unit.Unit.TheVariants as unit
use Rattle.cv_calc.specs.declared.calc.Calc.{Calc}
use Rattle.cv_calc.specs.declared.calc.Calc.TheVariants as tree
use Rattle.cv_calc.specs.declared.calc.Calc.TheOpen.{Calc-F, Num, Min, Max, Clamp}
use Rattle.cv_calc.specs.declared.calc.Calc.TheViews.{out-Calc}
use Rattle.cv_calc.specs.Tree.{Each, by_cases}
use Rattle.cv_simplify.specs.declared.place.Place.{Place}
use Rattle.cv_simplify.specs.declared.place.Place.TheVariants.{Operand, Whole, Added, Multiplied, Argument}
use Rattle.cv_simplify.specs.Text.{operator, closing, call, numeric, has_decimal, decimal_tokens, quotient_tokens, bracketed, number_tokens, prefix, has_brackets, placed, number_added, number_placed, negative_placed, inverse_placed, Written, Line, no_line, with_child, with_rank, with_ranked, ranked, line_of, arguments_of, written, number_alone, calc_text_as, calc_text}
use Rattle.cv_simplify.proofs.Texts.{written-Num, written-Sum, written-Product, written-Negate, written-Invert, written-Min, written-Max, written-Clamp}

-- it holds of the pieces, and of what is put together
pub record HoldsOfPieces (P : List Token → Type 0) : Type 0 where
  pub nothing : P []
  pub joined : (xs ys : List Token) → P xs → P ys → P (xs ++ ys)
  pub white : P (tokens.White ∷ [])
  pub comma : P (tokens.Comma ∷ [])
  pub sign : (c : ℕ) → P (tokens.Delim c ∷ [])
  pub number : (spelling : List ℕ) (u : Unit) → P (numeric spelling u ∷ [])
  pub brackets : (inner : List Token) → P inner → P (tokens.Open Round ∷ inner ++ closing)
  pub function : (name : List ℕ) (inner : List Token) → P inner → P (call name inner)

module _ (P : List Token → Type 0) (pieces : HoldsOfPieces P) where
  plain_number : (spelling : List ℕ) → P (tokens.Number spelling ∷ [])
  plain_number spelling = pieces.number spelling unit.Number

  operator_holds : (c : ℕ) → P (operator c)
  operator_holds c =
      pieces.joined (tokens.White ∷ []) (tokens.Delim c ∷ tokens.White ∷ []) pieces.white (pieces.joined (tokens.Delim c ∷ []) (tokens.White ∷ []) (pieces.sign c) pieces.white)

  bracketed_holds : (b : Bool) (inner : List Token) → P inner → P (bracketed b inner)
  bracketed_holds true inner h = pieces.brackets inner h
  bracketed_holds false inner h = h

  -- ---- numbers

  pub quotient_holds : (v : Ratio) (u : Unit) → P (quotient_tokens v u)
  quotient_holds v u =
      pieces.joined (numeric (signed_decimal v.top) u ∷ []) (operator 0x2f ++ tokens.Number (decimal v.bottom) ∷ []) (pieces.number (signed_decimal v.top) u)
      (pieces.joined (operator 0x2f) (tokens.Number (decimal v.bottom) ∷ []) (operator_holds 0x2f) (plain_number (decimal v.bottom)))

  number_holds : (b : Bool) (v : Ratio) (u : Unit) → P (number_tokens b v u)
  number_holds b v u = go (has_decimal v)
    where
      go : (d : Bool) → P (if d then decimal_tokens v u else bracketed b (quotient_tokens v u))
      go true = pieces.number (frac_text v) u
      go false = bracketed_holds b (quotient_tokens v u) (quotient_holds v u)

  -- ---- places

  prefix_holds : (place : Place) → P (prefix place)
  prefix_holds Operand = pieces.nothing
  prefix_holds Whole = pieces.nothing
  prefix_holds Added = operator_holds 0x2b
  prefix_holds Multiplied = operator_holds 0x2a
  prefix_holds Argument = pieces.joined (tokens.Comma ∷ []) (tokens.White ∷ []) pieces.comma pieces.white

  placed_holds : (place : Place) (inner : List Token) → P inner → P (placed place inner)
  placed_holds place inner h = pieces.joined (prefix place) (bracketed (has_brackets place) inner) (prefix_holds place) (bracketed_holds (has_brackets place) inner h)

  added_holds : (v : Ratio) (u : Unit) → P (number_added v u)
  added_holds v u = go (int_lt v.top (pos 0))
    where
      go : (b : Bool) → P (if b then operator 0x2d ++ number_tokens true (neg v) u else operator 0x2b ++ number_tokens true v u)
      go true = pieces.joined (operator 0x2d) (number_tokens true (neg v) u) (operator_holds 0x2d) (number_holds true (neg v) u)
      go false = pieces.joined (operator 0x2b) (number_tokens true v u) (operator_holds 0x2b) (number_holds true v u)

  number_placed_holds : (place : Place) (v : Ratio) (u : Unit) → P (number_placed place v u)
  number_placed_holds Added v u = added_holds v u
  number_placed_holds place v u = pieces.joined (prefix place) (number_tokens (has_brackets place) v u) (prefix_holds place) (number_holds (has_brackets place) v u)

  before_holds : (spelling : List ℕ) (c : ℕ) (child : List Token) → P child → P (tokens.Number spelling ∷ operator c ++ child)
  before_holds spelling c child h =
      pieces.joined (tokens.Number spelling ∷ []) (operator c ++ child) (plain_number spelling) (pieces.joined (operator c) child (operator_holds c) h)

  negative_holds : (place : Place) (child : List Token) → P child → P (negative_placed place child)
  negative_holds Added child h = pieces.joined (operator 0x2d) child (operator_holds 0x2d) h
  negative_holds place child h = placed_holds place (tokens.Number (codes "-1") ∷ operator 0x2a ++ child) (before_holds (codes "-1") 0x2a child h)

  inverse_holds : (place : Place) (child : List Token) → P child → P (inverse_placed place child)
  inverse_holds Multiplied child h = pieces.joined (operator 0x2f) child (operator_holds 0x2f) h
  inverse_holds place child h = placed_holds place (tokens.Number (codes "1") ∷ operator 0x2f ++ child) (before_holds (codes "1") 0x2f child h)

  -- ---- children

  abbrev Holds : Written → Type 0
  Holds w = (place : Place) → P (w.at_place place)

  child_holds : (first further : Place) (l : Line) (w : Written) → P l.line → Holds w → P (with_child first further l w).line
  child_holds first further l w h k = pieces.joined l.line (w.at_place (if l.started then further else first)) h (k (if l.started then further else first))

  rank_holds : (further : Place) (r : ℕ) (l : Line) (w : Written) → P l.line → Holds w → P (with_rank further r l w).line
  rank_holds further r l w h k = go (w.rank == r)
    where
      go : (b : Bool) → P (if b then with_child Operand further l w else l).line
      go true = child_holds Operand further l w h k
      go false = h

  ranks_hold : (further : Place) (ws : List Written) (l : Line) (r : ℕ) → Every Holds ws → P l.line → P (with_ranked further ws l r).line
  ranks_hold further [] l r k h = h
  ranks_hold further (w ∷ ws) l r k h = ranks_hold further ws (with_rank further r l w) r k.1 (rank_holds further r l w h k.0)

  ranked_holds : (further : Place) (ws : List Written) (n : ℕ) → Every Holds ws → P (ranked further ws n).line
  unfolding ranked
  ranked_holds further ws zero k = pieces.nothing
  ranked_holds further ws (suc n) k = ranks_hold further ws (ranked further ws n) n k (ranked_holds further ws n k)

  line_holds : (further : Place) (ws : List Written) → Every Holds ws → P (line_of further ws)
  line_holds further ws k = ranked_holds further ws 31 k

  children_hold : (ws : List Written) (l : Line) → Every Holds ws → P l.line → P (fold (with_child Whole Argument) l ws).line
  children_hold [] l k h = h
  children_hold (w ∷ ws) l k h = children_hold ws (with_child Whole Argument l w) k.1 (child_holds Whole Argument l w h k.0)

  pub arguments_hold : (ws : List Written) → Every Holds ws → P (arguments_of ws)
  arguments_hold ws k = children_hold ws no_line k pieces.nothing

  called_holds : (name : List ℕ) (ws : List Written) (place : Place) → Every Holds ws → P (prefix place ++ call name (arguments_of ws))
  called_holds name ws place k = pieces.joined (prefix place) (call name (arguments_of ws)) (prefix_holds place) (pieces.function name (arguments_of ws) (arguments_hold ws k))

  -- ---- a tree

  abbrev Writes : Calc → Type 0
  Writes c = Holds (written c)

  from_written : (c : Calc) (w : Written) → written c ≡ w → Holds w → Writes c
  from_written c w e h = subst Holds (sym e) h

  pub each_holds : (cs : List Calc) → Each Writes cs → Every Holds (map written cs)
  each_holds [] h = tt
  each_holds (c ∷ cs) h = (h.0, each_holds cs h.1)

  pub text_holds : (c : Calc) → Writes c
  text_holds = by_cases Writes record {
    num = λ v u. from_written (tree.Num v u) _ (written-Num v u) (λ place. number_placed_holds place v u);
    sum = λ cs h. from_written (tree.Sum cs) _ (written-Sum cs) (λ place. placed_holds place (line_of Added (map written cs)) (line_holds Added (map written cs) (each_holds cs h)));
    product = λ cs h. from_written (tree.Product cs) _ (written-Product cs) (λ place. placed_holds place (line_of Multiplied (map written cs)) (line_holds Multiplied (map written cs) (each_holds cs h)));
    negate = λ c h. from_written (tree.Negate c) _ (written-Negate c) (λ place. negative_holds place ((written c).at_place Operand) (h Operand));
    invert = λ c h. from_written (tree.Invert c) _ (written-Invert c) (λ place. inverse_holds place ((written c).at_place Operand) (h Operand));
    min = λ cs h. from_written (tree.Min cs) _ (written-Min cs) (λ place. called_holds (codes "min") (map written cs) place (each_holds cs h));
    max = λ cs h. from_written (tree.Max cs) _ (written-Max cs) (λ place. called_holds (codes "max") (map written cs) place (each_holds cs h));
    clamp = λ a b c h k l. from_written (tree.Clamp a b c) _ (written-Clamp a b c) (λ place. called_holds (codes "clamp") (written a ∷ written b ∷ written c ∷ []) place (h, (k, (l, tt))));
  }

  pub all_hold : (cs : List Calc) → Every Holds (map written cs)
  all_hold [] = tt
  all_hold (c ∷ cs) = (text_holds c, all_hold cs)

  alone_holds : (v : Ratio) (u : Unit) → P (number_alone v u)
  alone_holds v u = go (has_decimal v)
    where
      go : (d : Bool) → P (if d then decimal_tokens v u else call (codes "calc") (quotient_tokens v u))
      go true = pieces.number (frac_text v) u
      go false = pieces.function (codes "calc") (quotient_tokens v u) (quotient_holds v u)

  text_as_holds : (c : Calc) (l : Calc-F Calc) → P (calc_text_as c l)
  text_as_holds c (Num v u) = alone_holds v u
  text_as_holds c (Min cs) = text_holds c Whole
  text_as_holds c (Max cs) = text_holds c Whole
  text_as_holds c (Clamp l m h) = text_holds c Whole
  text_as_holds c _ = pieces.function (codes "calc") ((written c).at_place Whole) (text_holds c Whole)

  pub calc_text_holds : (c : Calc) → P (calc_text c)
  unfolding calc_text
  calc_text_holds c = text_as_holds c (out-Calc c)
