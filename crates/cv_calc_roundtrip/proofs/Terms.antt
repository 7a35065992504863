-- The terms of a sum: each with what it reads as, what that simplifies to, and its kind.
use Rattle.std.specs.Prelude.{Bool, true, false, ◌&&◌, List, [], ◌∷◌, ◌++◌, fold, map}
use Rattle.std.proofs.Common.{◌≡◌, refl, sym, ap, ap₂, subst, append_assoc}
use Rattle.std.proofs.lemmas.List.{append-nil}
use Rattle.cv_spec_text.specs.declared.token.Token.{Token}
use Rattle.cv_calc.specs.declared.context.Basis.TheVariants.{Length}
use Rattle.cv_calc.specs.declared.context.Context.{Context}
use Rattle.cv_calc.specs.declared.calc.Calc.{Calc}
use Rattle.cv_calc.specs.Linear.{shape}
use Rattle.cv_calcread.specs.Figures.{Evaluated, evaluated, with_part}
use Rattle.cv_calcread.specs.declared.figure.Joining.{Joining}
use Rattle.cv_calcread.specs.Grammar.{ReadsTerms}
use Rattle.cv_calcread.specs.Literals.{exact_number}
use Rattle.cv_simplify.specs.Counted.{Counted, counted, inside, all_inside, children_in_range}
use Rattle.cv_simplify.specs.Text.{Written, with_child, written}
use Rattle.cv_simplify.specs.declared.place.Place.TheVariants.{Operand, Added}
use Rattle.cv_calc_roundtrip.proofs.Answered.{all_fine, fine_append}
use Rattle.cv_calc_roundtrip.proofs.Digits.{and_true, both_true}
use Rattle.cv_calc_roundtrip.proofs.Heads.{head, is_negate}
use Rattle.cv_calc_roundtrip.proofs.Known.{Facts, Opening, Adding}
use Rattle.cv_calc_roundtrip.proofs.Mixed.{Kind, model}
use Rattle.cv_calc_roundtrip.proofs.Numerals.{narrow, narrow_append}

-- the contexts in which a percentage is a part of a length that isn't known
abbrev pub lp : Context → Type 0
lp y = y.basis ≡ Length

-- a calculation, where its text stands first or alone
pub record Opened (s simple : Calc) (kind : Kind) : Type 0 where
  pub read : Calc
  pub opens : Opening (written s) read
  pub facts : Facts lp s read simple (model kind)

pub record Known (s : Calc) : Type 0 where
  pub simple : Calc
  pub kind : Kind
  pub opened : Opened s simple kind

-- a calculation among the terms of a sum
pub record Term (s : Calc) : Type 0 where
  pub read : Calc
  pub simple : Calc
  pub kind : Kind
  pub adds : Adding (written s) read
  pub facts : Facts lp s read simple (model kind)
  pub first : is_negate (head s) ≡ false → Opened s simple kind

pub record Entry : Type 0 where
  pub calc : Calc
  pub term : Term calc

abbrev pub calcs : List Entry → List Calc
calcs es = map (λ (e : Entry). e.calc) es

abbrev pub reads : List Entry → List Calc
reads es = map (λ (e : Entry). e.term.read) es

abbrev pub simples : List Entry → List Calc
simples es = map (λ (e : Entry). e.term.simple) es

abbrev pub kinds : List Entry → List Kind
kinds es = map (λ (e : Entry). e.term.kind) es

abbrev pub texts : List Entry → List Written
texts es = map (λ (e : Entry). written e.calc) es

-- ---- facts of each

pub shapes_written : (es : List Entry) → map shape (calcs es) ≡ map (λ k. shape (model k)) (kinds es)
shapes_written [] = refl
shapes_written (e ∷ es) = ap₂ (λ s ss. s ∷ ss) e.term.facts.written_shape (shapes_written es)

pub shapes_read : (es : List Entry) → map shape (reads es) ≡ map (λ k. shape (model k)) (kinds es)
shapes_read [] = refl
shapes_read (e ∷ es) = ap₂ (λ s ss. s ∷ ss) e.term.facts.read_shape (shapes_read es)

pub shapes_simple : (es : List Entry) → map shape (simples es) ≡ map (λ k. shape (model k)) (kinds es)
shapes_simple [] = refl
shapes_simple (e ∷ es) = ap₂ (λ s ss. s ∷ ss) e.term.facts.simple_shape (shapes_simple es)

pub heads_same : (es : List Entry) → map head (simples es) ≡ map (λ (e : Entry). head e.calc) es
heads_same [] = refl
heads_same (e ∷ es) = ap₂ (λ h hs. h ∷ hs) e.term.facts.same (heads_same es)

pub within_all : (es : List Entry) → all_inside (simples es) ≡ true
within_all [] = refl
within_all (e ∷ es) = both_true (inside e.term.simple) (all_inside (simples es)) e.term.facts.within (within_all es)

abbrev pub in_range : Calc → Counted
in_range s = record { simple = s; in_range = true }

pub counted_all : (y : Context) → lp y → (es : List Entry) → map (counted y) (reads es) ≡ map in_range (simples es)
counted_all y k [] = refl
counted_all y k (e ∷ es) = ap₂ (λ (c : Counted) (cs : List Counted). c ∷ cs) (e.term.facts.counts y k) (counted_all y k es)

pub simple_of_all : (cs : List Calc) → map (λ (c : Counted). c.simple) (map in_range cs) ≡ cs
simple_of_all [] = refl
simple_of_all (c ∷ cs) = ap (λ ds. c ∷ ds) (simple_of_all cs)

pub children_all : (cs : List Calc) → children_in_range (map in_range cs) ≡ true
children_all [] = refl
children_all (c ∷ cs) = children_all cs

abbrev pub all_each : List Calc → Bool
all_each [] = true
all_each (c ∷ cs) = all_fine (evaluated c).marks && all_each cs

-- the divisors in some parts, behind those of a part
pub fine_fold : (joining : Joining) (a : Evaluated) (cs : List Calc) → all_fine a.marks ≡ true → all_each cs ≡ true → all_fine (fold (with_part joining) a (map evaluated cs)).marks ≡ true
fine_fold joining a [] h k = h
fine_fold joining a (c ∷ cs) h k = let p = and_true (all_fine (evaluated c).marks) (all_each cs) k in fine_fold joining (with_part joining a (evaluated c)) cs (fine_append a.marks (evaluated c).marks h p.0) p.1

pub fine_all : (es : List Entry) → all_each (reads es) ≡ true
fine_all [] = refl
fine_all (e ∷ es) = both_true (all_fine (evaluated e.term.read).marks) (all_each (reads es)) e.term.facts.fine (fine_all es)

-- ---- the text of further terms

pub line_added : (line : List Token) (ds : List Calc) (es : List Entry) → ((rest : List Token) → ReadsTerms exact_number (line ++ rest) rest ds) →
    (rest : List Token) → ReadsTerms exact_number ((fold (with_child Operand Added) (record { line = line; started = true }) (texts es)).line ++ rest) rest (ds ++ reads es)
line_added line ds [] h rest = subst (λ (cs : List Calc). ReadsTerms exact_number (line ++ rest) rest cs) (sym (append-nil ds)) (h rest)
line_added line ds (e ∷ es) h rest =
    let at = (written e.calc).at_place Added in
    subst (λ (cs : List Calc). ReadsTerms exact_number ((fold (with_child Operand Added) (record { line = line ++ at; started = true }) (texts es)).line ++ rest) rest cs)
    (append_assoc ds (e.term.read ∷ []) (reads es))
    (line_added (line ++ at) (ds ++ e.term.read ∷ []) es (λ r. more r) rest)
  where
    more : (r : List Token) → ReadsTerms exact_number ((line ++ (written e.calc).at_place Added) ++ r) r (ds ++ e.term.read ∷ [])
    more r = e.term.adds.added (subst (λ (ts : List Token). ReadsTerms exact_number ts ((written e.calc).at_place Added ++ r) ds) (sym (append_assoc line ((written e.calc).at_place Added) r)) (h ((written e.calc).at_place Added ++ r)))

pub line_narrow : (line : List Token) (es : List Entry) → narrow line ≡ true → narrow (fold (with_child Operand Added) (record { line = line; started = true }) (texts es)).line ≡ true
line_narrow line [] h = h
line_narrow line (e ∷ es) h = line_narrow (line ++ (written e.calc).at_place Added) es (narrow_append line ((written e.calc).at_place Added) h e.term.adds.added_narrow)
