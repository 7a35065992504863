-- The least, the greatest, and what lies within limits, where nothing is compared: how their texts read, and that they stay.
use Rattle.std.specs.Prelude.{ℕ, true, List, [], ◌∷◌, ◌++◌, fold, map, Option, Some}
use Rattle.std.proofs.Common.{◌≡◌, refl, sym, ◌∙◌, ap, ap₂, subst, append_assoc}
use Rattle.std.proofs.lemmas.List.{append-nil}
use Rattle.cv_spec_text.specs.declared.token.Token.{Token}
use Rattle.cv_spec_text.specs.declared.token.Token.TheVariants as tokens
use Rattle.cv_spec_text.specs.declared.token.Bracket.TheVariants.{Round}
use Rattle.cv_calc.specs.declared.context.Context.{Context}
use Rattle.cv_calc.specs.declared.calc.Calc.{Calc}
use Rattle.cv_calc.specs.Linear.{shape}
use Rattle.cv_calc.specs.Value.{Meaning, value}
use Rattle.cv_calcread.specs.Figures.{Evaluated, evaluated, with_part, chosen_next, or_undefined, chosen_of as evaluated_of}
use Rattle.cv_calcread.specs.declared.figure.Joining.{Joining}
use Rattle.cv_calcread.specs.declared.level.Opened.{Opened as Opening_by}
use Rattle.cv_calcread.specs.Grammar.{ReadsValue, ReadsTerms, ReadsArguments, argument, further, term, factor, none}
use Rattle.cv_calcread.specs.Literals.{exact_number}
use Rattle.cv_calcread.specs.Reading.{takes_comma, made, opened_by}
use Rattle.cv_simplify.specs.Counted.{Counted, counted, inside, all_inside}
use Rattle.cv_simplify.specs.Text.{Written, written, with_child, no_line, arguments_of, call}
use Rattle.cv_simplify.specs.declared.place.Place.TheVariants.{Operand, Whole, Argument}
use Rattle.cv_calc_roundtrip.proofs.Answered.{all_fine}
use Rattle.cv_calc_roundtrip.proofs.Digits.{both_true}
use Rattle.cv_calc_roundtrip.proofs.Heads.{Head, head}
use Rattle.cv_calc_roundtrip.proofs.Known.{Opening}
use Rattle.cv_calc_roundtrip.proofs.Lines.{call_value, call_narrow, white_terms}
use Rattle.cv_calc_roundtrip.proofs.Mixed.{Kind, model}
use Rattle.cv_calc_roundtrip.proofs.Numerals.{narrow, narrow_append}
use Rattle.cv_calc_roundtrip.proofs.Terms.{lp, Known, in_range, fine_fold, all_each}

-- ---- the arguments

pub record Given : Type 0 where
  pub calc : Calc
  pub known : Known calc

abbrev pub calcs : List Given → List Calc
calcs gs = map (λ (g : Given). g.calc) gs

abbrev pub reads : List Given → List Calc
reads gs = map (λ (g : Given). g.known.opened.read) gs

abbrev pub simples : List Given → List Calc
simples gs = map (λ (g : Given). g.known.simple) gs

abbrev pub kinds : List Given → List Kind
kinds gs = map (λ (g : Given). g.known.kind) gs

abbrev pub heads : List Given → List Head
heads gs = map (λ (g : Given). head g.calc) gs

abbrev pub texts : List Given → List Written
texts gs = map (λ (g : Given). written g.calc) gs

pub shapes_written : (gs : List Given) → map shape (calcs gs) ≡ map (λ k. shape (model k)) (kinds gs)
shapes_written [] = refl
shapes_written (g ∷ gs) = ap₂ (λ s ss. s ∷ ss) g.known.opened.facts.written_shape (shapes_written gs)

pub shapes_read : (gs : List Given) → map shape (reads gs) ≡ map (λ k. shape (model k)) (kinds gs)
shapes_read [] = refl
shapes_read (g ∷ gs) = ap₂ (λ s ss. s ∷ ss) g.known.opened.facts.read_shape (shapes_read gs)

pub shapes_simple : (gs : List Given) → map shape (simples gs) ≡ map (λ k. shape (model k)) (kinds gs)
shapes_simple [] = refl
shapes_simple (g ∷ gs) = ap₂ (λ s ss. s ∷ ss) g.known.opened.facts.simple_shape (shapes_simple gs)

pub heads_same : (gs : List Given) → map head (simples gs) ≡ heads gs
heads_same [] = refl
heads_same (g ∷ gs) = ap₂ (λ h hs. h ∷ hs) g.known.opened.facts.same (heads_same gs)

pub within_all : (gs : List Given) → all_inside (simples gs) ≡ true
within_all [] = refl
within_all (g ∷ gs) = both_true (inside g.known.simple) (all_inside (simples gs)) g.known.opened.facts.within (within_all gs)

pub counted_all : (y : Context) → lp y → (gs : List Given) → map (counted y) (reads gs) ≡ map in_range (simples gs)
counted_all y k [] = refl
counted_all y k (g ∷ gs) = ap₂ (λ (c : Counted) (cs : List Counted). c ∷ cs) (g.known.opened.facts.counts y k) (counted_all y k gs)

fine_all : (gs : List Given) → all_each (reads gs) ≡ true
fine_all [] = refl
fine_all (g ∷ gs) = both_true (all_fine (evaluated g.known.opened.read).marks) (all_each (reads gs)) g.known.opened.facts.fine (fine_all gs)

pub values_all : (m : Meaning) (gs : List Given) → map (value m) (simples gs) ≡ map (value m) (calcs gs)
values_all m [] = refl
values_all m (g ∷ gs) = ap₂ (λ r rs. r ∷ rs) (g.known.opened.facts.means m) (values_all m gs)

written_calcs : (gs : List Given) → map written (calcs gs) ≡ texts gs
written_calcs [] = refl
written_calcs (g ∷ gs) = ap (λ ws. written g.calc ∷ ws) (written_calcs gs)

-- the arguments chosen so far, and others
chosen_some : (joining : Joining) (a : Evaluated) (es : List Evaluated) → fold (chosen_next joining) (Some a) es ≡ Some (fold (with_part joining) a es)
chosen_some joining a [] = refl
chosen_some joining a (e ∷ es) = chosen_some joining (with_part joining a e) es

pub fine_chosen : (joining : Joining) (g : Given) (gs : List Given) → all_fine (evaluated_of joining (map evaluated (reads (g ∷ gs)))).marks ≡ true
fine_chosen joining g gs =
    ap (λ (o : Option Evaluated). all_fine (or_undefined o).marks) (chosen_some joining (evaluated g.known.opened.read) (map evaluated (reads gs)))
    ∙ fine_fold joining (evaluated g.known.opened.read) (reads gs) g.known.opened.facts.fine (fine_all gs)

-- ---- their text

abbrev pub line : Given → List Given → List Token
line g gs = (fold (with_child Whole Argument) (record { line = (written g.calc).at_place Whole; started = true }) (texts gs)).line

pub arguments_line : (g : Given) (gs : List Given) → arguments_of (map written (calcs (g ∷ gs))) ≡ line g gs
arguments_line g gs = ap (λ ws. (fold (with_child Whole Argument) no_line ws).line) (written_calcs (g ∷ gs))

module _ (opened : Opening_by) (comma : takes_comma opened ≡ true) where
  -- a text that reads as some arguments, whatever follows it
  abbrev Reads : List Token → List Calc → Type 0
  Reads text ds = (rest : List Token) → ReadsArguments exact_number opened (text ++ rest) rest ds

  first_read : (g : Given) → Reads ((written g.calc).at_place Whole) (g.known.opened.read ∷ [])
  first_read g rest =
      subst (λ (c : Calc). ReadsArguments exact_number opened ((written g.calc).at_place Whole ++ rest) rest (c ∷ [])) g.known.opened.opens.joined (argument (g.known.opened.opens.whole rest) none)

  further_read : (text : List Token) (ds : List Calc) (g : Given) → Reads text ds → Reads (text ++ (written g.calc).at_place Argument) (ds ++ g.known.opened.read ∷ [])
  further_read text ds g h rest =
      let o = g.known.opened.opens in
      let behind : List Token = tokens.Comma ∷ tokens.White ∷ ((written g.calc).at_place Whole ++ rest) in
      subst (λ (ts : List Token). ReadsArguments exact_number opened ts rest (ds ++ g.known.opened.read ∷ []))
      (sym (append_assoc text ((written g.calc).at_place Argument) rest ∙ ap (λ (ts : List Token). text ++ (ts ++ rest)) o.argument))
      (subst (λ (c : Calc). ReadsArguments exact_number opened (text ++ behind) rest (ds ++ c ∷ [])) o.joined (further comma (h behind) (white_terms (o.whole rest)) none))

  line_further : (text : List Token) (ds : List Calc) (gs : List Given) → Reads text ds → Reads (fold (with_child Whole Argument) (record { line = text; started = true }) (texts gs)).line (ds ++ reads gs)
  line_further text ds [] h rest = subst (λ (cs : List Calc). ReadsArguments exact_number opened (text ++ rest) rest cs) (sym (append-nil ds)) (h rest)
  line_further text ds (g ∷ gs) h rest =
      let at = (written g.calc).at_place Argument in
      subst (λ (cs : List Calc). ReadsArguments exact_number opened ((fold (with_child Whole Argument) (record { line = text ++ at; started = true }) (texts gs)).line ++ rest) rest cs)
      (append_assoc ds (g.known.opened.read ∷ []) (reads gs))
      (line_further (text ++ at) (ds ++ g.known.opened.read ∷ []) gs (further_read text ds g h) rest)

  arguments_read : (g : Given) (gs : List Given) → Reads (line g gs) (reads (g ∷ gs))
  arguments_read g gs = line_further ((written g.calc).at_place Whole) (g.known.opened.read ∷ []) gs (first_read g)

further_narrow : (text : List Token) (gs : List Given) → narrow text ≡ true → narrow (fold (with_child Whole Argument) (record { line = text; started = true }) (texts gs)).line ≡ true
further_narrow text [] h = h
further_narrow text (g ∷ gs) h =
    further_narrow (text ++ (written g.calc).at_place Argument) gs (narrow_append text ((written g.calc).at_place Argument) h (ap narrow g.known.opened.opens.argument ∙ g.known.opened.opens.whole_narrow))

line_narrow : (g : Given) (gs : List Given) → narrow (line g gs) ≡ true
line_narrow g gs = further_narrow ((written g.calc).at_place Whole) gs g.known.opened.opens.whole_narrow

-- how a function of the arguments reads
pub called : (w : Written) (name : List ℕ) (opened : Opening_by) (g : Given) (gs : List Given) (read : Calc) →
    w.at_place Operand ≡ call name (line g gs) → w.at_place Whole ≡ call name (line g gs) → w.at_place Argument ≡ tokens.Comma ∷ tokens.White ∷ w.at_place Whole →
    takes_comma opened ≡ true → opened_by name ≡ Some opened → made opened (reads (g ∷ gs)) ≡ Some read → Opening w read
called w name opened g gs read e f a comma is makes = record {
  operand = λ rest. subst (λ (ts : List Token). ReadsValue exact_number (ts ++ rest) rest read) (sym e) (value rest);
  operand_narrow = ap narrow e ∙ call_narrow name (line g gs) (line_narrow g gs);
  terms = read ∷ [];
  whole = λ rest. subst (λ (ts : List Token). ReadsTerms exact_number (ts ++ rest) rest (read ∷ [])) (sym f) (term (factor none (value rest)));
  whole_narrow = ap narrow f ∙ call_narrow name (line g gs) (line_narrow g gs);
  joined = refl;
  argument = a;
}
  where
    value : (rest : List Token) → ReadsValue exact_number (call name (line g gs) ++ rest) rest read
    value rest = call_value name opened (line g gs) (reads (g ∷ gs)) read is (λ rest. arguments_read opened comma g gs (tokens.Close Round ∷ rest)) makes rest
