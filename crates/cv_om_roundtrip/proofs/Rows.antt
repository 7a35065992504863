-- How the texts of children read one behind the other.
use Rattle.std.specs.Prelude.{true, List, [], ◌∷◌, ◌++◌, map}
use Rattle.std.proofs.Common.{◌≡◌, refl, sym, ◌∙◌, ap, subst, append_assoc}
use Rattle.std.proofs.lemmas.List.{append-nil}
use Rattle.cv_spec_text.specs.declared.token.Token.{Token}
use Rattle.cv_calc.specs.declared.calc.Calc.{Calc}
use Rattle.cv_calc.specs.Tree.{Each}
use Rattle.cv_calcread.specs.declared.level.Opened.{Opened}
use Rattle.cv_calcread.specs.Grammar.{none, ReadsFactors, factor, ReadsTerms, term, ReadsArguments, argument, further}
use Rattle.cv_calcread.specs.Literals.{exact_number}
use Rattle.cv_calcread.specs.Reading.{takes_comma}
use Rattle.cv_calc_roundtrip.proofs.Lines.{white_terms}
use Rattle.cv_om.specs.declared.place.Place.{Place}
use Rattle.cv_om.specs.declared.place.Place.TheVariants.{Operand, Whole, Added, Multiplied, Argument}
use Rattle.cv_om.specs.Text.{row_tokens, written}
use Rattle.cv_om_roundtrip.proofs.Pieces.{IsSolid, IsTail, after_solid, argument_tail}
use Rattle.cv_om_roundtrip.proofs.Printed.{Opens, Adds, Multiplies, Printed}
use Rattle.cv_om_roundtrip.proofs.Sames.{AllSame, no_same, more_same}

-- the tokens of further children
abbrev pub behind : Place → List Calc → List Token
behind place cs = row_tokens place place (map written cs)

pub row_is : (first later : Place) (c : Calc) (cs : List Calc) → row_tokens first later (map written (c ∷ cs)) ≡ written c first ++ behind later cs
unfolding row_tokens
row_is first later c cs = refl

none_behind : (place : Place) → behind place [] ≡ []
unfolding row_tokens
none_behind place = refl

-- ---- tails

abbrev pub Follows : List Token → Type 0
Follows ts = (front : List Token) → IsSolid front → IsSolid (front ++ ts)

no_tail : (place : Place) → Follows (behind place [])
no_tail place front h = subst IsSolid (sym (ap (λ (ts : List Token). front ++ ts) (none_behind place) ∙ append-nil front)) h

more_tail : (place : Place) (c : Calc) (cs : List Calc) → IsTail (written c place) → Follows (behind place cs) → Follows (behind place (c ∷ cs))
more_tail place c cs t k front h =
    subst IsSolid (append_assoc front (written c place) (behind place cs) ∙ sym (ap (λ (ts : List Token). front ++ ts) (row_is place place c cs)))
    (k (front ++ written c place) (after_solid front (written c place) h t))

-- ---- the tokens of one more, and what stands behind the row

one_more : (place : Place) (c : Calc) (cs : List Calc) (rest : List Token) → behind place (c ∷ cs) ++ rest ≡ written c place ++ (behind place cs ++ rest)
one_more place c cs rest = ap (λ (ts : List Token). ts ++ rest) (row_is place place c cs) ∙ append_assoc (written c place) (behind place cs) rest

pushed : (ds : List Calc) (d : Calc) (reads : List Calc) → (ds ++ d ∷ []) ++ reads ≡ ds ++ d ∷ reads
pushed ds d reads = append_assoc ds (d ∷ []) reads

-- ---- terms

pub record TermsBehind (cs : List Calc) : Type 0 where
  pub reads : List Calc
  pub same : AllSame cs reads
  pub next : {ts rest : List Token} {ds : List Calc} → ReadsTerms exact_number ts (behind Added cs ++ rest) ds → ReadsTerms exact_number ts rest (ds ++ reads)
  pub tail : Follows (behind Added cs)

more_terms : (c : Calc) (cs : List Calc) → Adds c → TermsBehind cs → TermsBehind (c ∷ cs)
more_terms c cs a t = record {
  reads = a.read ∷ t.reads;
  same = more_same c a.read cs t.reads a.same t.same;
  next = λ {ts} {rest} {ds} r.
      subst (λ (es : List Calc). ReadsTerms exact_number ts rest es) (pushed ds a.read t.reads)
      (t.next (a.next (subst (λ (us : List Token). ReadsTerms exact_number ts us ds) (one_more Added c cs rest) r)));
  tail = more_tail Added c cs a.tail t.tail;
}

pub terms_behind : (cs : List Calc) → Each Printed cs → TermsBehind cs
terms_behind [] h = record {
  reads = [];
  same = no_same;
  next = λ {ts} {rest} {ds} r.
      subst (λ (es : List Calc). ReadsTerms exact_number ts rest es) (sym (append-nil ds))
      (subst (λ (us : List Token). ReadsTerms exact_number ts (us ++ rest) ds) (none_behind Added) r);
  tail = no_tail Added;
}
terms_behind (c ∷ cs) h = more_terms c cs h.0.adds (terms_behind cs h.1)

-- ---- factors

pub record FactorsBehind (cs : List Calc) : Type 0 where
  pub reads : List Calc
  pub same : AllSame cs reads
  pub next : {ts rest : List Token} {ds : List Calc} → ReadsFactors exact_number ts (behind Multiplied cs ++ rest) ds → ReadsFactors exact_number ts rest (ds ++ reads)
  pub tail : Follows (behind Multiplied cs)

more_factors : (c : Calc) (cs : List Calc) → Multiplies c → FactorsBehind cs → FactorsBehind (c ∷ cs)
more_factors c cs a t = record {
  reads = a.read ∷ t.reads;
  same = more_same c a.read cs t.reads a.same t.same;
  next = λ {ts} {rest} {ds} r.
      subst (λ (es : List Calc). ReadsFactors exact_number ts rest es) (pushed ds a.read t.reads)
      (t.next (a.next (subst (λ (us : List Token). ReadsFactors exact_number ts us ds) (one_more Multiplied c cs rest) r)));
  tail = more_tail Multiplied c cs a.tail t.tail;
}

pub factors_behind : (cs : List Calc) → Each Printed cs → FactorsBehind cs
factors_behind [] h = record {
  reads = [];
  same = no_same;
  next = λ {ts} {rest} {ds} r.
      subst (λ (es : List Calc). ReadsFactors exact_number ts rest es) (sym (append-nil ds))
      (subst (λ (us : List Token). ReadsFactors exact_number ts (us ++ rest) ds) (none_behind Multiplied) r);
  tail = no_tail Multiplied;
}
factors_behind (c ∷ cs) h = more_factors c cs h.0.multiplies (factors_behind cs h.1)

-- ---- arguments

pub record ArgumentsBehind (cs : List Calc) : Type 0 where
  pub reads : List Calc
  pub same : AllSame cs reads
  pub next : {opened : Opened} {ts rest : List Token} {ds : List Calc} → takes_comma opened ≡ true → ReadsArguments exact_number opened ts (behind Argument cs ++ rest) ds → ReadsArguments exact_number opened ts rest (ds ++ reads)
  pub tail : Follows (behind Argument cs)

-- one more argument
one_argument : (c : Calc) (o : Opens c) (opened : Opened) (ts rest : List Token) (ds : List Calc) → takes_comma opened ≡ true → ReadsArguments exact_number opened ts (written c Argument ++ rest) ds →
    ReadsArguments exact_number opened ts rest (ds ++ o.read ∷ [])
one_argument c o opened ts rest ds b r =
    subst (λ (e : Calc). ReadsArguments exact_number opened ts rest (ds ++ e ∷ [])) o.joined
    (further b (subst (λ (us : List Token). ReadsArguments exact_number opened ts (us ++ rest) ds) o.argument_is r) (white_terms (o.whole rest)) none)

more_arguments : (c : Calc) (cs : List Calc) → Opens c → ArgumentsBehind cs → ArgumentsBehind (c ∷ cs)
more_arguments c cs o t = record {
  reads = o.read ∷ t.reads;
  same = more_same c o.read cs t.reads o.same t.same;
  next = λ {opened} {ts} {rest} {ds} b r.
      subst (λ (es : List Calc). ReadsArguments exact_number opened ts rest es) (pushed ds o.read t.reads)
      (t.next b (one_argument c o opened ts (behind Argument cs ++ rest) ds b (subst (λ (us : List Token). ReadsArguments exact_number opened ts us ds) (one_more Argument c cs rest) r)));
  tail = more_tail Argument c cs (subst IsTail (sym o.argument_is) (argument_tail (written c Whole) o.whole_solid)) t.tail;
}

pub arguments_behind : (cs : List Calc) → Each Printed cs → ArgumentsBehind cs
arguments_behind [] h = record {
  reads = [];
  same = no_same;
  next = λ {opened} {ts} {rest} {ds} b r.
      subst (λ (es : List Calc). ReadsArguments exact_number opened ts rest es) (sym (append-nil ds))
      (subst (λ (us : List Token). ReadsArguments exact_number opened ts (us ++ rest) ds) (none_behind Argument) r);
  tail = no_tail Argument;
}
arguments_behind (c ∷ cs) h = more_arguments c cs h.0.opens (arguments_behind cs h.1)

pub two_behind : (b c : Calc) (y : Opens b) (z : Opens c) → ArgumentsBehind (b ∷ c ∷ [])
two_behind b c y z = more_arguments b (c ∷ []) y (more_arguments c [] z (arguments_behind [] tt))

pub two_reads : (b c : Calc) (y : Opens b) (z : Opens c) → (two_behind b c y z).reads ≡ y.read ∷ z.read ∷ []
unfolding two_behind more_arguments arguments_behind
two_reads b c y z = refl

-- ---- the first, and the others behind it

module _ (c : Calc) (cs : List Calc) (o : Opens c) where
  from_first : (first later : Place) (rest : List Token) → written c first ++ (behind later cs ++ rest) ≡ row_tokens first later (map written (c ∷ cs)) ++ rest
  from_first first later rest = sym (ap (λ (ts : List Token). ts ++ rest) (row_is first later c cs) ∙ append_assoc (written c first) (behind later cs) rest)

  pub terms_read : (t : TermsBehind cs) (rest : List Token) → ReadsTerms exact_number (row_tokens Operand Added (map written (c ∷ cs)) ++ rest) rest (o.read ∷ t.reads)
  terms_read t rest =
      subst (λ (us : List Token). ReadsTerms exact_number us rest (o.read ∷ t.reads)) (from_first Operand Added rest)
      (t.next {ds = o.read ∷ []} (term (factor none (o.operand (behind Added cs ++ rest)))))

  pub factors_read : (t : FactorsBehind cs) (rest : List Token) → ReadsFactors exact_number (row_tokens Operand Multiplied (map written (c ∷ cs)) ++ rest) rest (o.read ∷ t.reads)
  factors_read t rest =
      subst (λ (us : List Token). ReadsFactors exact_number us rest (o.read ∷ t.reads)) (from_first Operand Multiplied rest)
      (t.next {ds = o.read ∷ []} (factor none (o.operand (behind Multiplied cs ++ rest))))

  pub arguments_read : (t : ArgumentsBehind cs) (opened : Opened) → takes_comma opened ≡ true → (rest : List Token) → ReadsArguments exact_number opened (row_tokens Whole Argument (map written (c ∷ cs)) ++ rest) rest (o.read ∷ t.reads)
  arguments_read t opened b rest =
      subst (λ (us : List Token). ReadsArguments exact_number opened us rest (o.read ∷ t.reads)) (from_first Whole Argument rest)
      (t.next {ds = o.read ∷ []} b
      (subst (λ (e : Calc). ReadsArguments exact_number opened (written c Whole ++ (behind Argument cs ++ rest)) (behind Argument cs ++ rest) (e ∷ [])) o.joined
      (argument (o.whole (behind Argument cs ++ rest)) none)))

  pub row_solid : (first later : Place) → IsSolid (written c first) → Follows (behind later cs) → IsSolid (row_tokens first later (map written (c ∷ cs)))
  row_solid first later h k = subst IsSolid (sym (row_is first later c cs)) (k (written c first) h)
