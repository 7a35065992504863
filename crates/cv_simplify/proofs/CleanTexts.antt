-- The text of a calculation is clean: no token is bad, no two White stand together, and no function is `url`.
use Rattle.std.specs.Prelude.{ℕ, zero, suc, Bool, true, false, ◌&&◌, ◌==◌, if◌then◌else◌, List, [], ◌∷◌, ◌++◌, map, fold, pos, int_lt, codes, decimal, ⊤}
use Rattle.std.specs.Fmt.{signed_decimal}
use Rattle.std.proofs.Common.{◌≡◌, refl, sym, ◌∙◌, ap, subst}
use Rattle.cv_spec_ratio.specs.Ratio.{Ratio, neg}
use Rattle.cv_spec_text.specs.declared.token.Token.{Token}
use Rattle.cv_spec_text.specs.declared.token.Token.TheVariants as tokens
use Rattle.cv_spec_text.specs.declared.token.Bracket.TheVariants.{Round}
use Rattle.cv_spec_text.specs.Printing.{is_white}
use Rattle.cv_frac.specs.Text.{frac_text}
use Rattle.cv_calc.specs.declared.unit.Unit as units
use Rattle.cv_calc.specs.declared.unit.Unit.TheVariants.{Number, Percent}
use Rattle.cv_calc.specs.declared.calc.Calc.{Calc}
use Rattle.cv_calc.specs.declared.calc.Calc.TheVariants as tree
use Rattle.cv_calc.specs.declared.calc.Calc.TheOpen.{Calc-F, Num, Sum, Product, Negate, Invert, Min, Max, Clamp}
use Rattle.cv_calc.specs.declared.calc.Calc.TheViews.{out-Calc}
use Rattle.cv_calc.specs.Tree.{Each, by_cases, fold-Num, fold-Sum, fold-Product, fold-Negate, fold-Invert, fold-Min, fold-Max, fold-Clamp}
use Rattle.cv_tokser.specs.Clean.{is_bad, begins_white, is_url_function, IsClean}
use Rattle.cv_simplify.specs.declared.place.Place.{Place}
use Rattle.cv_simplify.specs.declared.place.Place.TheVariants.{Operand, Whole, Added, Multiplied, Argument}
use Rattle.cv_simplify.specs.Text.{closing, operator, call, numeric, has_decimal, decimal_tokens, quotient_tokens, bracketed, number_tokens, number_alone, prefix, placed, number_added, number_placed, negative_placed, inverse_placed, Written, Line, no_line, with_child, with_rank, with_ranked, ranked, line_of, arguments_of, written, written_step, calc_text_as, calc_text, ranks}

-- ---- lists side by side

-- no token is bad or a function `url`, and no two White stand together
abbrev IsTidy : List Token → Type 0
IsTidy [] = ⊤
IsTidy (t ∷ ts) = (is_bad t ≡ false) × ((is_white t && begins_white ts) ≡ false) × (is_url_function t ≡ false) × IsTidy ts

abbrev ends_white : List Token → Bool
ends_white [] = false
ends_white (t ∷ []) = is_white t
ends_white (t ∷ u ∷ ts) = ends_white (u ∷ ts)

abbrev is_none : List Token → Bool
is_none [] = true
is_none (t ∷ ts) = false

tidy_clean : (ts : List Token) → IsTidy ts → IsClean ts
tidy_clean [] h = tt
tidy_clean (t ∷ ts) h = (h.0, h.1, (λ url. let never : false ≡ true = sym h.2 ∙ url in cc), tidy_clean ts h.3)

and_no : (b : Bool) → (b && false) ≡ false
and_no true = refl
and_no false = refl

tidy_append : (ts more : List Token) → IsTidy ts → IsTidy more → (ends_white ts && begins_white more) ≡ false → IsTidy (ts ++ more)
tidy_append [] more h k e = k
tidy_append (t ∷ []) more h k e = (h.0, e, h.2, k)
tidy_append (t ∷ u ∷ ts) more h k e = (h.0, h.1, h.2, tidy_append (u ∷ ts) more h.3 k e)

ends_full : (ts more : List Token) → is_none more ≡ false → ends_white (ts ++ more) ≡ ends_white more
ends_full [] more h = refl
ends_full (t ∷ []) [] h = cc
ends_full (t ∷ []) (m ∷ more) h = refl
ends_full (t ∷ u ∷ ts) more h = ends_full (u ∷ ts) more h

begins_either : (ts more : List Token) → begins_white ts ≡ false → begins_white more ≡ false → begins_white (ts ++ more) ≡ false
begins_either [] more h k = k
begins_either (t ∷ ts) more h k = h

begins_full : (ts more : List Token) → is_none ts ≡ false → begins_white ts ≡ false → begins_white (ts ++ more) ≡ false
begins_full [] more n h = cc
begins_full (t ∷ ts) more n h = h

none_full : (ts more : List Token) → is_none more ≡ false → is_none (ts ++ more) ≡ false
none_full [] more h = h
none_full (t ∷ ts) more h = refl

-- what begins and ends without White
record IsInner (ts : List Token) : Type 0 where
  pub tidy : IsTidy ts
  pub begin : begins_white ts ≡ false
  pub end : ends_white ts ≡ false

-- the same, with something in it
record IsSolid (ts : List Token) : Type 0 where
  pub inner : IsInner ts
  pub some : is_none ts ≡ false

-- what a place asks of the tokens there
abbrev Suits : Place → List Token → Type 0
Suits Operand ts = IsSolid ts
Suits Whole ts = IsInner ts
Suits Added ts = IsTidy ts × (ends_white ts ≡ false) × (is_none ts ≡ false)
Suits Multiplied ts = IsTidy ts × (ends_white ts ≡ false) × (is_none ts ≡ false)
Suits Argument ts = IsTidy ts × (begins_white ts ≡ false)

abbrev IsPlain : Token → Type 0
IsPlain t = (is_bad t ≡ false) × (is_white t ≡ false) × (is_url_function t ≡ false)

-- ---- pieces

wrapped : (t : Token) (inner : List Token) → IsPlain t → IsTidy inner → IsSolid (t ∷ inner ++ closing)
wrapped t inner h k = record {
  inner = record {
    tidy = (h.0, ap (λ b. b && begins_white (inner ++ closing)) h.1, h.2, tidy_append inner closing k (refl, refl, refl, tt) (and_no (ends_white inner)));
    begin = h.1;
    end = ends_full (t ∷ inner) closing refl;
  };
  some = refl;
}

signed : (c : ℕ) (child : List Token) → is_bad (tokens.Delim c) ≡ false → IsSolid child → IsTidy (operator c ++ child) × (ends_white (operator c ++ child) ≡ false) × (is_none (operator c ++ child) ≡ false)
signed c child good h = ((refl, refl, refl, (good, refl, refl, (refl, h.inner.begin, refl, h.inner.tidy))), ends_full (operator c) child h.some ∙ h.inner.end, refl)

solid_placed : (place : Place) (ts : List Token) → IsSolid ts → Suits place (prefix place ++ ts)
solid_placed Operand ts h = h
solid_placed Whole ts h = h.inner
solid_placed Added ts h = signed 0x2b ts refl h
solid_placed Multiplied ts h = signed 0x2a ts refl h
solid_placed Argument ts h = ((refl, refl, refl, (refl, h.inner.begin, refl, h.inner.tidy)), refl)

inner_placed : (place : Place) (ts : List Token) → IsInner ts → Suits place (placed place ts)
inner_placed Operand ts h = wrapped (tokens.Open Round) ts (refl, refl, refl) h.tidy
inner_placed Whole ts h = h
inner_placed Added ts h = signed 0x2b (bracketed true ts) refl (wrapped (tokens.Open Round) ts (refl, refl, refl) h.tidy)
inner_placed Multiplied ts h = signed 0x2a (bracketed true ts) refl (wrapped (tokens.Open Round) ts (refl, refl, refl) h.tidy)
inner_placed Argument ts h = ((refl, refl, refl, (refl, h.begin, refl, h.tidy)), refl)

-- ---- numbers

numeric_plain : (spelling : List ℕ) (u : units.Unit) → IsPlain (numeric spelling u)
numeric_plain spelling Number = (refl, refl, refl)
numeric_plain spelling Percent = (refl, refl, refl)
numeric_plain spelling u = (refl, refl, refl)

-- a plain token, a sign and what may stand there
operated : (t : Token) (c : ℕ) (child : List Token) → IsPlain t → is_bad (tokens.Delim c) ≡ false → IsSolid child → IsSolid (t ∷ operator c ++ child)
operated t c child h good k = record {
  inner = record {
    tidy = (h.0, ap (λ b. b && true) h.1, h.2, (signed c child good k).0);
    begin = h.1;
    end = (signed c child good k).1;
  };
  some = refl;
}

alone : (t : Token) → IsPlain t → IsSolid (t ∷ [])
alone t h = record { inner = record { tidy = (h.0, and_no (is_white t), h.2, tt); begin = h.1; end = h.1 }; some = refl }

quotient_solid : (v : Ratio) (u : units.Unit) → IsSolid (quotient_tokens v u)
quotient_solid v u = operated (numeric (signed_decimal v.top) u) 0x2f (tokens.Number (decimal v.bottom) ∷ []) (numeric_plain (signed_decimal v.top) u) refl (alone (tokens.Number (decimal v.bottom)) (refl, refl, refl))

either_solid : (v : Ratio) (u : units.Unit) (other : List Token) → IsSolid other → IsSolid (if has_decimal v then decimal_tokens v u else other)
either_solid v u other h = go (has_decimal v)
  where
    go : (b : Bool) → IsSolid (if b then decimal_tokens v u else other)
    go true = alone (numeric (frac_text v) u) (numeric_plain (frac_text v) u)
    go false = h

bracketed_solid : (b : Bool) (ts : List Token) → IsSolid ts → IsSolid (bracketed b ts)
bracketed_solid true ts h = wrapped (tokens.Open Round) ts (refl, refl, refl) h.inner.tidy
bracketed_solid false ts h = h

number_solid : (b : Bool) (v : Ratio) (u : units.Unit) → IsSolid (number_tokens b v u)
number_solid b v u = either_solid v u (bracketed b (quotient_tokens v u)) (bracketed_solid b (quotient_tokens v u) (quotient_solid v u))

calc_solid : (inner : List Token) → IsTidy inner → IsSolid (call (codes "calc") inner)
calc_solid inner h = wrapped (tokens.Function (codes "calc")) inner (refl, refl, refl) h

number_alone_solid : (v : Ratio) (u : units.Unit) → IsSolid (number_alone v u)
number_alone_solid v u = either_solid v u (call (codes "calc") (quotient_tokens v u)) (calc_solid (quotient_tokens v u) (quotient_solid v u).inner.tidy)

added_suits : (v : Ratio) (u : units.Unit) → Suits Added (number_added v u)
added_suits v u = go (int_lt v.top (pos 0))
  where
    go : (b : Bool) → Suits Added (if b then operator 0x2d ++ number_tokens true (neg v) u else operator 0x2b ++ number_tokens true v u)
    go true = signed 0x2d (number_tokens true (neg v) u) refl (number_solid true (neg v) u)
    go false = signed 0x2b (number_tokens true v u) refl (number_solid true v u)

number_suits : (place : Place) (v : Ratio) (u : units.Unit) → Suits place (number_placed place v u)
number_suits Added v u = added_suits v u
number_suits Operand v u = solid_placed Operand (number_tokens true v u) (number_solid true v u)
number_suits Whole v u = solid_placed Whole (number_tokens false v u) (number_solid false v u)
number_suits Multiplied v u = solid_placed Multiplied (number_tokens true v u) (number_solid true v u)
number_suits Argument v u = solid_placed Argument (number_tokens false v u) (number_solid false v u)

minus_one : (child : List Token) → IsSolid child → IsInner (tokens.Number (codes "-1") ∷ operator 0x2a ++ child)
minus_one child h = (operated (tokens.Number (codes "-1")) 0x2a child (refl, refl, refl) refl h).inner

negative_suits : (place : Place) (child : List Token) → IsSolid child → Suits place (negative_placed place child)
negative_suits Added child h = signed 0x2d child refl h
negative_suits Operand child h = inner_placed Operand (tokens.Number (codes "-1") ∷ operator 0x2a ++ child) (minus_one child h)
negative_suits Whole child h = inner_placed Whole (tokens.Number (codes "-1") ∷ operator 0x2a ++ child) (minus_one child h)
negative_suits Multiplied child h = inner_placed Multiplied (tokens.Number (codes "-1") ∷ operator 0x2a ++ child) (minus_one child h)
negative_suits Argument child h = inner_placed Argument (tokens.Number (codes "-1") ∷ operator 0x2a ++ child) (minus_one child h)

one_over : (child : List Token) → IsSolid child → IsInner (tokens.Number (codes "1") ∷ operator 0x2f ++ child)
one_over child h = (operated (tokens.Number (codes "1")) 0x2f child (refl, refl, refl) refl h).inner

inverse_suits : (place : Place) (child : List Token) → IsSolid child → Suits place (inverse_placed place child)
inverse_suits Multiplied child h = signed 0x2f child refl h
inverse_suits Operand child h = inner_placed Operand (tokens.Number (codes "1") ∷ operator 0x2f ++ child) (one_over child h)
inverse_suits Whole child h = inner_placed Whole (tokens.Number (codes "1") ∷ operator 0x2f ++ child) (one_over child h)
inverse_suits Added child h = inner_placed Added (tokens.Number (codes "1") ∷ operator 0x2f ++ child) (one_over child h)
inverse_suits Argument child h = inner_placed Argument (tokens.Number (codes "1") ∷ operator 0x2f ++ child) (one_over child h)

-- ---- children

abbrev AllPlaces : Written → Type 0
AllPlaces w = (place : Place) → Suits place (w.at_place place)

abbrev EachPlaces : List Written → Type 0
EachPlaces [] = Unit {0}
EachPlaces (w ∷ ws) = AllPlaces w × EachPlaces ws

-- a line of a sum or product so far
record IsLine (l : Line) : Type 0 where
  pub inner : IsInner l.line
  pub some : l.started ≡ true → is_none l.line ≡ false

started_line : (ts more : List Token) → IsInner ts → is_none ts ≡ false → IsTidy more → ends_white more ≡ false → is_none more ≡ false → IsInner (ts ++ more)
started_line ts more h n k e m = record {
  tidy = tidy_append ts more h.tidy k (ap (λ b. b && begins_white more) h.end);
  begin = begins_full ts more n h.begin;
  end = ends_full ts more m ∙ e;
}

module _ (further : Place) (suits : (ts : List Token) → Suits further ts → IsTidy ts × (ends_white ts ≡ false) × (is_none ts ≡ false)) where
  next_child : (l : Line) (w : Written) → IsLine l → AllPlaces w →
      IsInner (l.line ++ w.at_place (if l.started then further else Operand)) × (is_none (w.at_place (if l.started then further else Operand)) ≡ false)
  next_child l w h k = go l.started refl
    where
      go : (b : Bool) → l.started ≡ b → IsInner (l.line ++ w.at_place (if b then further else Operand)) × (is_none (w.at_place (if b then further else Operand)) ≡ false)
      go true is =
          let child = suits (w.at_place further) (k further) in
          (started_line l.line (w.at_place further) h.inner (h.some is) child.0 child.1 child.2, child.2)
      go false is =
          let child = k Operand in (
            record {
              tidy = tidy_append l.line (w.at_place Operand) h.inner.tidy child.inner.tidy (ap (λ b. b && begins_white (w.at_place Operand)) h.inner.end);
              begin = begins_either l.line (w.at_place Operand) h.inner.begin child.inner.begin;
              end = ends_full l.line (w.at_place Operand) child.some ∙ child.inner.end;
            },
            child.some,
          )

  child_line : (l : Line) (w : Written) → IsLine l → AllPlaces w → IsLine (with_child Operand further l w)
  child_line l w h k =
      let next = next_child l w h k in
      record { inner = next.0; some = λ e. none_full l.line (w.at_place (if l.started then further else Operand)) next.1 }

  rank_child : (r : ℕ) (l : Line) (w : Written) → IsLine l → AllPlaces w → IsLine (with_rank further r l w)
  rank_child r l w h k = go (w.rank == r)
    where
      go : (b : Bool) → IsLine (if b then with_child Operand further l w else l)
      go true = child_line l w h k
      go false = h

  rank_line : (ws : List Written) (l : Line) (r : ℕ) → IsLine l → EachPlaces ws → IsLine (with_ranked further ws l r)
  rank_line [] l r h k = h
  rank_line (w ∷ ws) l r h k = rank_line ws (with_rank further r l w) r (rank_child r l w h k.0) k.1

  ranks_line : (ws : List Written) (n : ℕ) → EachPlaces ws → IsLine (ranked further ws n)
  unfolding ranked
  ranks_line ws zero k = record { inner = record { tidy = tt; begin = refl; end = refl }; some = λ e. cc }
  ranks_line ws (suc n) k = rank_line ws (ranked further ws n) n (ranks_line ws n k) k

  line_inner : (ws : List Written) → EachPlaces ws → IsInner (line_of further ws)
  line_inner ws k = (ranks_line ws ranks k).inner

argument_tidy : (w : Written) → AllPlaces w → (b : Bool) → IsTidy (w.at_place (if b then Argument else Whole)) × (begins_white (w.at_place (if b then Argument else Whole)) ≡ false)
argument_tidy w k true = k Argument
argument_tidy w k false = ((k Whole).tidy, (k Whole).begin)

arguments_tidy : (ws : List Written) (l : Line) → IsTidy l.line → EachPlaces ws → IsTidy (fold (with_child Whole Argument) l ws).line
arguments_tidy [] l h k = h
arguments_tidy (w ∷ ws) l h k =
    let child = argument_tidy w k.0 l.started in
    arguments_tidy ws (with_child Whole Argument l w)
    (tidy_append l.line (w.at_place (if l.started then Argument else Whole)) h child.0 (ap (λ b. ends_white l.line && b) child.1 ∙ and_no (ends_white l.line))) k.1

function_suits : (name : List ℕ) (ws : List Written) → IsPlain (tokens.Function name) → EachPlaces ws → (place : Place) → Suits place (prefix place ++ call name (arguments_of ws))
function_suits name ws is k place = solid_placed place (call name (arguments_of ws)) (wrapped (tokens.Function name) (arguments_of ws) is (arguments_tidy ws no_line tt k))

-- ---- trees

-- what is known of the children of a node
abbrev StepGiven : Calc-F Written → Type 0
StepGiven (Num v u) = Unit {0}
StepGiven (Sum ws) = EachPlaces ws
StepGiven (Product ws) = EachPlaces ws
StepGiven (Negate w) = AllPlaces w
StepGiven (Invert w) = AllPlaces w
StepGiven (Min ws) = EachPlaces ws
StepGiven (Max ws) = EachPlaces ws
StepGiven (Clamp a b c) = EachPlaces (a ∷ b ∷ c ∷ [])

step_suits : (l : Calc-F Written) → StepGiven l → AllPlaces (written_step l)
step_suits (Num v u) h = λ place. number_suits place v u
step_suits (Sum ws) h = λ place. inner_placed place (line_of Added ws) (line_inner Added (λ ts h. h) ws h)
step_suits (Product ws) h = λ place. inner_placed place (line_of Multiplied ws) (line_inner Multiplied (λ ts h. h) ws h)
step_suits (Negate w) h = λ place. negative_suits place (w.at_place Operand) (h Operand)
step_suits (Invert w) h = λ place. inverse_suits place (w.at_place Operand) (h Operand)
step_suits (Min ws) h = λ place. function_suits (codes "min") ws (refl, refl, refl) h place
step_suits (Max ws) h = λ place. function_suits (codes "max") ws (refl, refl, refl) h place
step_suits (Clamp a b c) h = λ place. function_suits (codes "clamp") (a ∷ b ∷ c ∷ []) (refl, refl, refl) h place

abbrev IsWritten : Calc → Type 0
IsWritten c = AllPlaces (written c)

each_written : (cs : List Calc) → Each IsWritten cs → EachPlaces (map written cs)
each_written [] h = tt
each_written (c ∷ cs) h = (h.0, each_written cs h.1)

handed : (c : Calc) (w : Written) → written c ≡ w → AllPlaces w → IsWritten c
handed c w e h = subst AllPlaces (sym e) h

every_written : (c : Calc) → IsWritten c
unfolding written
every_written = by_cases IsWritten (record {
  num = λ v u. handed (tree.Num v u) _ (fold-Num written_step v u) (step_suits (Num v u) tt);
  sum = λ cs h. handed (tree.Sum cs) _ (fold-Sum written_step cs) (step_suits (Sum (map written cs)) (each_written cs h));
  product = λ cs h. handed (tree.Product cs) _ (fold-Product written_step cs) (step_suits (Product (map written cs)) (each_written cs h));
  negate = λ c h. handed (tree.Negate c) _ (fold-Negate written_step c) (step_suits (Negate (written c)) h);
  invert = λ c h. handed (tree.Invert c) _ (fold-Invert written_step c) (step_suits (Invert (written c)) h);
  min = λ cs h. handed (tree.Min cs) _ (fold-Min written_step cs) (step_suits (Min (map written cs)) (each_written cs h));
  max = λ cs h. handed (tree.Max cs) _ (fold-Max written_step cs) (step_suits (Max (map written cs)) (each_written cs h));
  clamp = λ a b c h i j. handed (tree.Clamp a b c) _ (fold-Clamp written_step a b c) (step_suits (Clamp (written a) (written b) (written c)) (h, (i, (j, tt))));
})

text_tidy : (c : Calc) (l : Calc-F Calc) → IsTidy (calc_text_as c l)
text_tidy c (Num v u) = (number_alone_solid v u).inner.tidy
text_tidy c (Min cs) = (every_written c Whole).tidy
text_tidy c (Max cs) = (every_written c Whole).tidy
text_tidy c (Clamp a b d) = (every_written c Whole).tidy
text_tidy c _ = (calc_solid ((written c).at_place Whole) (every_written c Whole).tidy).inner.tidy

pub text_clean : (c : Calc) → IsClean (calc_text c)
unfolding calc_text
text_clean c = tidy_clean (calc_text_as c (out-Calc c)) (text_tidy c (out-Calc c))
