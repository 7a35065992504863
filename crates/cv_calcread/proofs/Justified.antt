-- What the steps read is in the grammar: each stage stands for derivations of what was read so far.
use Rattle.std.specs.Prelude.{Bool, true, false, ◌==◌, ◌&&◌, List, [], ◌∷◌, ◌++◌, fold, Option, Some, None, if◌then◌else◌}
use Rattle.std.proofs.Common.{◌≡◌, refl, sym, subst, ℕ, arith}
use Rattle.std.proofs.lemmas.Bool.Decides.{nat_tests}
use Rattle.cv_spec_ratio.specs.Ratio.{Ratio}
use Rattle.cv_spec_text.specs.Characters.{solidus, plus_sign, hyphen, asterisk}
use Rattle.cv_spec_text.specs.declared.token.Bracket.TheVariants.{Round as RoundBracket, Square, Curly}
use Rattle.cv_spec_text.specs.declared.token.Token.{Token}
use Rattle.cv_spec_text.specs.declared.token.Token.TheVariants as token
use Rattle.cv_spec_text.specs.declared.token.Token.TheVariants.{White, Close, Comma, Delim, Function}
use Rattle.cv_calc.specs.Names.{unit_with_name}
use Rattle.cv_calc.specs.declared.unit.Unit.{Unit as Measure}
use Rattle.cv_calc.specs.declared.calc.Calc.{Calc}
use Rattle.cv_calc.specs.declared.calc.Calc.TheVariants as tree
use Rattle.cv_calcread.specs.Reading.{one_or, signed, factor_of, terms_of, arguments_of, made, takes_comma, opened_by, fresh, popped, with_value, given, given_or, entered, with_unit, begun, gapped, operated, parted, passed, step}
use Rattle.cv_calcread.specs.Grammar.{Skips, none, white, ReadsValue, literal, percent, measure, brackets, function, ReadsFactors, factor, times, over, ReadsTerms, term, added, taken, ReadsArguments, argument, further}
use Rattle.cv_calcread.specs.declared.level.Level.{Level}
use Rattle.cv_calcread.specs.declared.level.Opened.{Opened}
use Rattle.cv_calcread.specs.declared.level.Opened.TheVariants as opening
use Rattle.cv_calcread.specs.declared.level.Phase.TheVariants as phase
use Rattle.cv_calcread.specs.declared.level.Stage.{Stage}
use Rattle.cv_calcread.specs.declared.level.Stage.TheVariants.{Within, Done, Fault}
use Rattle.cv_calcread.proofs.Single.{popped-last}

skip_one : {us vs : List Token} → Skips us (White ∷ vs) → Skips us vs
skip_one none = white none
skip_one (white k) = white (skip_one k)

same_number : (m n : ℕ) → (m == n) ≡ true → m ≡ n
same_number m n e = grind (arith, nat_tests)

both_true : (a b : Bool) → (a && b) ≡ true → (a ≡ true) × (b ≡ true)
both_true true b e = (refl, e)
both_true false b e = cc

module _ (number : List ℕ → Ratio) where
  -- the arguments so far, from one list to the next argument
  data Arguments (opened : Opened) : List Token → List Token → List Calc → Type 0 where
    no_argument : {a : List Token} → Arguments opened a a []
    after_comma : {a t : List Token} {cs : List Calc} → takes_comma opened ≡ true → ReadsArguments number opened a (Comma ∷ t) cs → Arguments opened a t cs

  -- the terms so far, and the sign of the next one
  data Terms : List Token → List Token → List Calc → Bool → Type 0 where
    no_term : {t : List Token} → Terms t t [] false
    after_plus : {t us f : List Token} {ds : List Calc} → ReadsTerms number t us ds → Skips us (White ∷ Delim plus_sign ∷ White ∷ f) → Terms t f ds false
    after_minus : {t us f : List Token} {ds : List Calc} → ReadsTerms number t us ds → Skips us (White ∷ Delim hyphen ∷ White ∷ f) → Terms t f ds true

  -- the factors so far, and whether the next one is a divisor
  data Factors : List Token → List Token → List Calc → Bool → Type 0 where
    no_factor : {f : List Token} → Factors f f [] false
    after_times : {f us w : List Token} {cs : List Calc} → ReadsFactors number f us cs → Skips us (Delim asterisk ∷ w) → Factors f w cs false
    after_over : {f us w : List Token} {cs : List Calc} → ReadsFactors number f us cs → Skips us (Delim solidus ∷ w) → Factors f w cs true

  -- a value is to begin
  record ValueAt (a ts : List Token) (l : Level) : Type 0 where
    terms_from : List Token
    factors_from : List Token
    value_from : List Token
    arguments : Arguments l.opened a terms_from l.arguments
    terms : Terms terms_from factors_from l.terms l.minus
    factors : Factors factors_from value_from l.factors l.divides
    skips : Skips value_from ts

  -- a value was read, and White behind it where that is told
  record AfterAt (spaced : Bool) (a ts : List Token) (l : Level) : Type 0 where
    terms_from : List Token
    factors_from : List Token
    read_to : List Token
    arguments : Arguments l.opened a terms_from l.arguments
    terms : Terms terms_from factors_from l.terms l.minus
    factors : ReadsFactors number factors_from read_to l.factors
    skips : Skips read_to ts
    behind : spaced ≡ true → Skips read_to (White ∷ ts)

  -- a sign was read
  record GapAt (a ts : List Token) (l : Level) : Type 0 where
    terms_from : List Token
    arguments : Arguments l.opened a terms_from l.arguments
    terms : (f : List Token) → ts ≡ White ∷ f → Terms terms_from f l.terms l.minus
    factors : (f : List Token) → Factors f f l.factors l.divides

  data Opens : Token → Opened → Type 0 where
    round : Opens (token.Open RoundBracket) opening.Round
    named : (name : List ℕ) {opened : Opened} → opened_by name ≡ Some opened → Opens (Function name) opened

  -- the levels below the last one, which was opened before a list
  data Stack (whole : List Token) : List Level → List Token → Opened → Type 0 where
    bottom : (name : List ℕ) {inner : List Token} {opened : Opened} → whole ≡ Function name ∷ inner → opened_by name ≡ Some opened → Stack whole [] inner opened
    above : {below : List Level} {l : Level} {a inner : List Token} {t : Token} {opened : Opened} → Stack whole below a l.opened → ValueAt a (t ∷ inner) l → Opens t opened → Stack whole (below ++ l ∷ []) inner opened

  abbrev IsRead : List Token → Stage → List Token → Type 0
  IsRead whole (Within below l phase.Value) ts = (a : List Token) × (Stack whole below a l.opened × ValueAt a ts l)
  IsRead whole (Within below l phase.Gap) ts = (a : List Token) × (Stack whole below a l.opened × GapAt a ts l)
  IsRead whole (Within below l phase.After) ts = (a : List Token) × (Stack whole below a l.opened × AfterAt false a ts l)
  IsRead whole (Within below l phase.Spaced) ts = (a : List Token) × (Stack whole below a l.opened × AfterAt true a ts l)
  IsRead whole (Done c) ts = ReadsValue number whole ts c
  IsRead whole Fault ts = Unit {0}

  -- ---- what a value, a product, a sum adds

  one_factor : {f w us rest : List Token} {cs : List Calc} {divides : Bool} {c : Calc} → Factors f w cs divides → Skips w us → ReadsValue number us rest c → ReadsFactors number f rest (cs ++ factor_of divides c ∷ [])
  one_factor no_factor k v = factor k v
  one_factor (after_times r j) k v = times r j k v
  one_factor (after_over r j) k v = over r j k v

  one_term : {t f rest : List Token} {ds cs : List Calc} {minus : Bool} → Terms t f ds minus → ReadsFactors number f rest cs → ReadsTerms number t rest (ds ++ signed minus (one_or tree.Product cs) ∷ [])
  one_term no_term r = term r
  one_term (after_plus q k) r = added q k r
  one_term (after_minus q k) r = taken q k r

  one_argument : {opened : Opened} {a t us rest : List Token} {ds cs : List Calc} → Arguments opened a t ds → ReadsTerms number t us cs → Skips us rest → ReadsArguments number opened a rest (ds ++ one_or tree.Sum cs ∷ [])
  one_argument no_argument r k = argument r k
  one_argument (after_comma b q) r k = further b q r k

  value_read : (whole : List Token) (below : List Level) (l : Level) {a ts rest : List Token} {c : Calc} → Stack whole below a l.opened → ValueAt a ts l → ReadsValue number ts rest c → IsRead whole (with_value c below l) rest
  value_read whole below l {a} s v r = (
    a,
    (
      s,
      record {
        terms_from = v.terms_from;
        factors_from = v.factors_from;
        read_to = _;
        arguments = v.arguments;
        terms = v.terms;
        factors = one_factor v.factors v.skips r;
        skips = none;
        behind = λ e. cc;
      },
    ),
  )

  all_arguments : {spaced : Bool} (l : Level) {a rest : List Token} → AfterAt spaced a rest l → ReadsArguments number l.opened a rest (arguments_of l)
  all_arguments l v = one_argument v.arguments (one_term v.terms v.factors) v.skips

  -- ---- brackets

  opened_value : {t : Token} {opened : Opened} {inner rest : List Token} {cs : List Calc} {c : Calc} → Opens t opened → ReadsArguments number opened inner (Close RoundBracket ∷ rest) cs → made opened cs ≡ Some c → ReadsValue number (t ∷ inner) rest c
  opened_value round r h = brackets r h
  opened_value (named name {opened} e) r h = function name opened e r h

  popped_read : (whole : List Token) (below : List Level) {a rest : List Token} {opened : Opened} {cs : List Calc} {c : Calc} → Stack whole below a opened → ReadsArguments number opened a (Close RoundBracket ∷ rest) cs → made opened cs ≡ Some c → IsRead whole (given c (popped below)) rest
  popped_read whole below {a} {rest} {opened} {cs} {c} (bottom name e h) r m = subst (λ ts. ReadsValue number ts rest c) (sym e) (function name opened h r m)
  popped_read whole _ {a} {rest} {opened} {cs} {c} (above {below} {l} s v o) r m =
      subst (λ p. IsRead whole (given c p) rest) (sym (popped-last below l)) (value_read whole below l s v (opened_value o r m))

  closed_read : (whole : List Token) (below : List Level) (opened : Opened) {a rest : List Token} {cs : List Calc} (o : Option Calc) → made opened cs ≡ o → Stack whole below a opened → ReadsArguments number opened a (Close RoundBracket ∷ rest) cs → IsRead whole (given_or below o) rest
  closed_read whole below opened None m s r = tt
  closed_read whole below opened (Some c) m s r = popped_read whole below s r m

  fresh_at : (opened : Opened) (ts : List Token) → ValueAt ts ts (fresh opened [])
  fresh_at opened ts = record { terms_from = ts; factors_from = ts; value_from = ts; arguments = no_argument; terms = no_term; factors = no_factor; skips = none }

  entered_read : (whole : List Token) (below : List Level) (l : Level) {a ts : List Token} {t : Token} (o : Option Opened) → ((opened : Opened) → o ≡ Some opened → Opens t opened) → Stack whole below a l.opened → ValueAt a (t ∷ ts) l → IsRead whole (entered o below l) ts
  entered_read whole below l None f s v = tt
  entered_read whole below l {ts = ts} (Some opened) f s v = (ts, (above s v (f opened refl), fresh_at opened ts))

  unit_read : (whole : List Token) (below : List Level) (l : Level) {a ts : List Token} (n name : List ℕ) (o : Option Measure) → unit_with_name name ≡ o → Stack whole below a l.opened → ValueAt a (token.Dimension n name ∷ ts) l → IsRead whole (with_unit (number n) o below l) ts
  unit_read whole below l n name None e s v = tt
  unit_read whole below l n name (Some u) e s v = value_read whole below l s v (measure n name u e)

  -- ---- one token

  same_opened : (opened : Opened) → Some opening.Round ≡ Some opened → opening.Round ≡ opened
  same_opened opened e = cc

  value_step : (whole : List Token) (below : List Level) (l : Level) (t : Token) {a ts : List Token} → Stack whole below a l.opened → ValueAt a (t ∷ ts) l → IsRead whole (begun number t below l) ts
  value_step whole below l (token.Ident x) s v = tt
  value_step whole below l (token.Function name) s v = entered_read whole below l (opened_by name) (λ opened e. named name e) s v
  value_step whole below l (token.At x) s v = tt
  value_step whole below l (token.Hash x b) s v = tt
  value_step whole below l (token.Str x) s v = tt
  value_step whole below l token.BadStr s v = tt
  value_step whole below l (token.Url x) s v = tt
  value_step whole below l token.BadUrl s v = tt
  value_step whole below l (token.Delim x) s v = tt
  value_step whole below l (token.Number n) s v = value_read whole below l s v (literal n)
  value_step whole below l (token.Percentage n) s v = value_read whole below l s v (percent n)
  value_step whole below l (token.Dimension n name) s v = unit_read whole below l n name (unit_with_name name) refl s v
  value_step whole below l token.White {a} s v = (a, (s, record { terms_from = v.terms_from; factors_from = v.factors_from; value_from = v.value_from; arguments = v.arguments; terms = v.terms; factors = v.factors; skips = skip_one v.skips }))
  value_step whole below l token.Cdo s v = tt
  value_step whole below l token.Cdc s v = tt
  value_step whole below l token.Colon s v = tt
  value_step whole below l token.Semicolon s v = tt
  value_step whole below l token.Comma s v = tt
  value_step whole below l (token.Open RoundBracket) s v = entered_read whole below l (Some opening.Round) (λ opened e. subst (λ p. Opens (token.Open RoundBracket) p) (same_opened opened e) round) s v
  value_step whole below l (token.Open Square) s v = tt
  value_step whole below l (token.Open Curly) s v = tt
  value_step whole below l (token.Close x) s v = tt

  gap_step : (whole : List Token) (below : List Level) (l : Level) (t : Token) {a ts : List Token} → Stack whole below a l.opened → GapAt a (t ∷ ts) l → IsRead whole (gapped t below l) ts
  gap_step whole below l (token.Ident x) s v = tt
  gap_step whole below l (token.Function x) s v = tt
  gap_step whole below l (token.At x) s v = tt
  gap_step whole below l (token.Hash x b) s v = tt
  gap_step whole below l (token.Str x) s v = tt
  gap_step whole below l token.BadStr s v = tt
  gap_step whole below l (token.Url x) s v = tt
  gap_step whole below l token.BadUrl s v = tt
  gap_step whole below l (token.Delim x) s v = tt
  gap_step whole below l (token.Number x) s v = tt
  gap_step whole below l (token.Percentage x) s v = tt
  gap_step whole below l (token.Dimension x y) s v = tt
  gap_step whole below l token.White {a} {ts} s v = (a, (s, record { terms_from = v.terms_from; factors_from = ts; value_from = ts; arguments = v.arguments; terms = v.terms ts refl; factors = v.factors ts; skips = none }))
  gap_step whole below l token.Cdo s v = tt
  gap_step whole below l token.Cdc s v = tt
  gap_step whole below l token.Colon s v = tt
  gap_step whole below l token.Semicolon s v = tt
  gap_step whole below l token.Comma s v = tt
  gap_step whole below l (token.Open x) s v = tt
  gap_step whole below l (token.Close x) s v = tt

  -- a sign between factors or terms
  times_read : (whole : List Token) (below : List Level) (l : Level) {spaced : Bool} (c : ℕ) {a ts : List Token} → c ≡ asterisk → Stack whole below a l.opened → AfterAt spaced a (Delim c ∷ ts) l → IsRead whole (Within below (record l { divides = false }) phase.Value) ts
  times_read whole below l c {a} {ts} e s v = (a, (s, record { terms_from = v.terms_from; factors_from = v.factors_from; value_from = ts; arguments = v.arguments; terms = v.terms; factors = after_times v.factors (subst (λ d. Skips v.read_to (Delim d ∷ ts)) e v.skips); skips = none }))

  over_read : (whole : List Token) (below : List Level) (l : Level) {spaced : Bool} (c : ℕ) {a ts : List Token} → c ≡ solidus → Stack whole below a l.opened → AfterAt spaced a (Delim c ∷ ts) l → IsRead whole (Within below (record l { divides = true }) phase.Value) ts
  over_read whole below l c {a} {ts} e s v = (a, (s, record { terms_from = v.terms_from; factors_from = v.factors_from; value_from = ts; arguments = v.arguments; terms = v.terms; factors = after_over v.factors (subst (λ d. Skips v.read_to (Delim d ∷ ts)) e v.skips); skips = none }))

  plus_read : (whole : List Token) (below : List Level) (l : Level) {spaced : Bool} (c : ℕ) {a ts : List Token} → spaced ≡ true → c ≡ plus_sign → Stack whole below a l.opened → AfterAt spaced a (Delim c ∷ ts) l → IsRead whole (Within below (record l { terms = terms_of l; minus = false; factors = []; divides = false }) phase.Gap) ts
  plus_read whole below l c {a} {ts} b e s v = (
    a,
    (
      s,
      record {
        terms_from = v.terms_from;
        arguments = v.arguments;
        terms = λ f g. after_plus (one_term v.terms v.factors) (subst (λ us. Skips v.read_to (White ∷ Delim plus_sign ∷ us)) g (subst (λ d. Skips v.read_to (White ∷ Delim d ∷ ts)) e (v.behind b)));
        factors = λ f. no_factor;
      },
    ),
  )

  minus_read : (whole : List Token) (below : List Level) (l : Level) {spaced : Bool} (c : ℕ) {a ts : List Token} → spaced ≡ true → c ≡ hyphen → Stack whole below a l.opened → AfterAt spaced a (Delim c ∷ ts) l → IsRead whole (Within below (record l { terms = terms_of l; minus = true; factors = []; divides = false }) phase.Gap) ts
  minus_read whole below l c {a} {ts} b e s v = (
    a,
    (
      s,
      record {
        terms_from = v.terms_from;
        arguments = v.arguments;
        terms = λ f g. after_minus (one_term v.terms v.factors) (subst (λ us. Skips v.read_to (White ∷ Delim hyphen ∷ us)) g (subst (λ d. Skips v.read_to (White ∷ Delim d ∷ ts)) e (v.behind b)));
        factors = λ f. no_factor;
      },
    ),
  )

  operated_read : (whole : List Token) (below : List Level) (l : Level) (spaced : Bool) (c : ℕ) {a ts : List Token} → Stack whole below a l.opened → AfterAt spaced a (Delim c ∷ ts) l → IsRead whole (operated spaced c below l) ts
  operated_read whole below l spaced c {a} {ts} s v = go (c == asterisk) (c == solidus) (spaced && c == plus_sign) (spaced && c == hyphen) refl refl refl refl
    where
      go : (i j p m : Bool) → (c == asterisk) ≡ i → (c == solidus) ≡ j → (spaced && c == plus_sign) ≡ p → (spaced && c == hyphen) ≡ m →
          IsRead whole (if i then Within below (record l { divides = false }) phase.Value else if j then Within below (record l { divides = true }) phase.Value
          else if p then Within below (record l { terms = terms_of l; minus = false; factors = []; divides = false }) phase.Gap
          else if m then Within below (record l { terms = terms_of l; minus = true; factors = []; divides = false }) phase.Gap else Fault) ts
      go true j p m ei ej ep em = times_read whole below l c (same_number c asterisk ei) s v
      go false true p m ei ej ep em = over_read whole below l c (same_number c solidus ej) s v
      go false false true m ei ej ep em = plus_read whole below l c (both_true spaced (c == plus_sign) ep).0 (same_number c plus_sign (both_true spaced (c == plus_sign) ep).1) s v
      go false false false true ei ej ep em = minus_read whole below l c (both_true spaced (c == hyphen) em).0 (same_number c hyphen (both_true spaced (c == hyphen) em).1) s v
      go false false false false ei ej ep em = tt

  parted_read : (whole : List Token) (below : List Level) (l : Level) {spaced : Bool} {a ts : List Token} → Stack whole below a l.opened → AfterAt spaced a (Comma ∷ ts) l → IsRead whole (parted below l) ts
  parted_read whole below l {spaced} {a} {ts} s v = go (takes_comma l.opened) refl
    where
      go : (b : Bool) → takes_comma l.opened ≡ b → IsRead whole (if b then Within below (fresh l.opened (arguments_of l)) phase.Value else Fault) ts
      go true e = (a, (s, record { terms_from = ts; factors_from = ts; value_from = ts; arguments = after_comma e (all_arguments l v); terms = no_term; factors = no_factor; skips = none }))
      go false e = tt

  after_step : (whole : List Token) (below : List Level) (l : Level) (spaced : Bool) (t : Token) {a ts : List Token} → Stack whole below a l.opened → AfterAt spaced a (t ∷ ts) l → IsRead whole (passed spaced t below l) ts
  after_step whole below l spaced (token.Ident x) s v = tt
  after_step whole below l spaced (token.Function x) s v = tt
  after_step whole below l spaced (token.At x) s v = tt
  after_step whole below l spaced (token.Hash x b) s v = tt
  after_step whole below l spaced (token.Str x) s v = tt
  after_step whole below l spaced token.BadStr s v = tt
  after_step whole below l spaced (token.Url x) s v = tt
  after_step whole below l spaced token.BadUrl s v = tt
  after_step whole below l spaced (token.Delim c) s v = operated_read whole below l spaced c s v
  after_step whole below l spaced (token.Number x) s v = tt
  after_step whole below l spaced (token.Percentage x) s v = tt
  after_step whole below l spaced (token.Dimension x y) s v = tt
  after_step whole below l spaced token.White {a} s v = (a, (s, record { terms_from = v.terms_from; factors_from = v.factors_from; read_to = v.read_to; arguments = v.arguments; terms = v.terms; factors = v.factors; skips = skip_one v.skips; behind = λ e. v.skips }))
  after_step whole below l spaced token.Cdo s v = tt
  after_step whole below l spaced token.Cdc s v = tt
  after_step whole below l spaced token.Colon s v = tt
  after_step whole below l spaced token.Semicolon s v = tt
  after_step whole below l spaced token.Comma s v = parted_read whole below l s v
  after_step whole below l spaced (token.Open x) s v = tt
  after_step whole below l spaced (token.Close RoundBracket) s v = closed_read whole below l.opened (made l.opened (arguments_of l)) refl s (all_arguments l v)
  after_step whole below l spaced (token.Close Square) s v = tt
  after_step whole below l spaced (token.Close Curly) s v = tt

  one_step : (whole : List Token) (s : Stage) (t : Token) (ts : List Token) → IsRead whole s (t ∷ ts) → IsRead whole (step number s t) ts
  one_step whole (Within below l phase.Value) t ts (a, (k, v)) = value_step whole below l t k v
  one_step whole (Within below l phase.Gap) t ts (a, (k, v)) = gap_step whole below l t k v
  one_step whole (Within below l phase.After) t ts (a, (k, v)) = after_step whole below l false t k v
  one_step whole (Within below l phase.Spaced) t ts (a, (k, v)) = after_step whole below l true t k v
  one_step whole (Done c) t ts r = tt
  one_step whole Fault t ts r = tt

  all_steps : (whole : List Token) (s : Stage) (ts : List Token) → IsRead whole s ts → IsRead whole (fold (step number) s ts) []
  all_steps whole s [] r = r
  all_steps whole s (t ∷ ts) r = all_steps whole (step number s t) ts (one_step whole s t ts r)

  -- where the steps end with a tree, the whole list is read as it
  pub done_read : (name : List ℕ) (inner : List Token) (opened : Opened) (c : Calc) → opened_by name ≡ Some opened → fold (step number) (Within [] (fresh opened []) phase.Value) inner ≡ Done c → ReadsValue number (Function name ∷ inner) [] c
  done_read name inner opened c e h =
      subst (λ s. IsRead (Function name ∷ inner) s []) h
      (all_steps (Function name ∷ inner) (Within [] (fresh opened []) phase.Value) inner (inner, (bottom name refl e, fresh_at opened inner)))
