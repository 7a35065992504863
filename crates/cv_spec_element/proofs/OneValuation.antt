-- The equations have one solution, and what settles each value once is it.
use Rattle.std.proofs.Common.{◌≡◌, true, suc, List, length, Ok, ◌↔◌, sym, ◌∙◌, subst}
use Rattle.cv_spec_element.specs.Words.{HasUnit}
use Rattle.cv_spec_element.specs.Element.{Outcome, invalid, Element}
use Rattle.cv_spec_element.specs.Dependencies.{Holds, Reads}
use Rattle.cv_spec_element.specs.Valuation.{Cause, SubIs, IsInvalid, IsOutOfRange, Gives, IsValuation, HasOneValuation, IsSettled}
use Rattle.cv_spec_element.specs.Premises.{IsLawful}
use Rattle.cv_spec_element.proofs.Solutions.{after, unique, exists, sound, by_edges}
use Rattle.cv_spec_element.proofs.RightSide.{next_outcome, gives_next, next_gives}
use Rattle.cv_spec_element.proofs.Kept.{invalid_kept, out_of_range_kept}
use Rattle.cv_spec_element.proofs.Sound.{IsSound, decide, equations_read, unit_held}

module _ {K T V U M : Type 0} (e : Element K T V U M) (laws : IsLawful e) where
  abbrev next : (K → Outcome T V) → K → Outcome T V
  next = next_outcome e (decide e laws)

  valuation_next : (values : K → Outcome T V) → IsValuation e values → (p : K) → values p ≡ next values p
  valuation_next values solves p = gives_next e (decide e laws) values p (values p) (solves p)

  valuation_from_next : (values : K → Outcome T V) → ((p : K) → values p ≡ next values p) → IsValuation e values
  valuation_from_next values fixed p = subst (λ o. Gives e values p o) (sym (fixed p)) (next_gives e (decide e laws) values p)

  last : K → Outcome T V
  last = after next (λ q. invalid) (suc (length e.declarations.names))

  last_next : (p : K) → last p ≡ next last p
  unfolding last
  last_next = exists e.declarations.names (Reads e) next (IsSound e laws) (equations_read e laws) (λ q. invalid)

  pub one_valuation : HasOneValuation e
  one_valuation = record {
    valuation = last;
    solves = valuation_from_next last last_next;
    only = λ values solves. unique e.declarations.names (Reads e) next (IsSound e laws) (equations_read e laws) values last (valuation_next values solves) last_next;
  }

  -- in a solution each font unit after substitution is held
  pub units_held : (values : K → Outcome T V) → IsValuation e values → (p : K) (list : List T) (u : U) → SubIs e values p (Ok list) → e.words.is_font_unit u ≡ true → HasUnit e.words list u → Holds e p u
  units_held values solves p list u sub_is font has =
      unit_held e laws values p sub_is.0 sub_is.1 (λ q refers. sound e.declarations.names (Reads e) next (IsSound e laws) (equations_read e laws) values (valuation_next values solves) q) list u sub_is.2 font has

  -- values that were settled once are the solution's
  settled_is_last : (values : K → Outcome T V) → ((p : K) → IsSettled e values p) → (p : K) → values p ≡ last p
  settled_is_last values settled = by_edges e.declarations.names (Reads e) next (IsSound e laws) (equations_read e laws) (λ p. values p ≡ last p) step
    where
      step : (p : K) → ((q : K) → Reads e p q → values q ≡ last q) → values p ≡ last p
      step p before =
          let reads = equations_read e laws in
          let all_sound = sound e.declarations.names (Reads e) next (IsSound e laws) (equations_read e laws) last last_next in
          let alike = reads.step last (settled p).earlier p (λ q here. (sym ((settled p).kept q here ∙ before q here), all_sound q)) in
          gives_next e (decide e laws) (settled p).earlier p (values p) (settled p).given ∙ sym alike.0 ∙ sym (last_next p)

  pub settled_solves : (values : K → Outcome T V) → ((p : K) → IsSettled e values p) → IsValuation e values
  settled_solves values settled =
      valuation_from_next values (λ p. settled_is_last values settled p ∙ last_next p ∙ next_same p)
    where
      next_same : (p : K) → next last p ≡ next values p
      next_same p =
          let reads = equations_read e laws in
          let all_sound = sound e.declarations.names (Reads e) next (IsSound e laws) (equations_read e laws) last last_next in
          (reads.step last values p (λ q here. (sym (settled_is_last values settled q), all_sound q))).0

  pub one_value : (values : K → Outcome T V) (p : K) (one other : Outcome T V) → Gives e values p one → Gives e values p other → other ≡ one
  one_value values p one other first second =
      gives_next e (decide e laws) values p other second ∙ sym (gives_next e (decide e laws) values p one first)

  settled_sound : (values : K → Outcome T V) → ((p : K) → IsSettled e values p) → (q : K) → IsSound e laws q (values q)
  settled_sound values settled =
      sound e.declarations.names (Reads e) next (IsSound e laws) (equations_read e laws) values (valuation_next values (settled_solves values settled))

  -- the causes that held when a value was settled are those that hold at the end
  pub settled_causes : (values : K → Outcome T V) (settled : (p : K) → IsSettled e values p) (p : K) (cause : Cause K) → IsInvalid e (settled p).earlier p cause ↔ IsInvalid e values p cause
  settled_causes values settled p cause =
      invalid_kept e laws values (settled p).earlier p (λ q here. (sym ((settled p).kept q here), settled_sound values settled q)) cause

  pub settled_ranges : (values : K → Outcome T V) (settled : (p : K) → IsSettled e values p) (p : K) → IsOutOfRange e (settled p).earlier p ↔ IsOutOfRange e values p
  settled_ranges values settled p =
      out_of_range_kept e laws values (settled p).earlier p (λ q here. (sym ((settled p).kept q here), settled_sound values settled q))

  -- two valuations agree where a property reads, so that they have the same causes and ranges
  agrees : (values others : K → Outcome T V) → IsValuation e values → IsValuation e others → (q : K) → (others q ≡ values q) × IsSound e laws q (others q)
  agrees values others first second q =
      (one_valuation.only others second q ∙ sym (one_valuation.only values first q), sound e.declarations.names (Reads e) next (IsSound e laws) (equations_read e laws) others (valuation_next others second) q)

  pub same_causes : (values others : K → Outcome T V) → IsValuation e values → IsValuation e others → (p : K) (cause : Cause K) → IsInvalid e values p cause ↔ IsInvalid e others p cause
  same_causes values others first second p cause = invalid_kept e laws others values p (λ q here. agrees values others first second q) cause

  pub same_ranges : (values others : K → Outcome T V) → IsValuation e values → IsValuation e others → (p : K) → IsOutOfRange e values p ↔ IsOutOfRange e others p
  same_ranges values others first second p = out_of_range_kept e laws others values p (λ q here. agrees values others first second q)

  -- the causes and the range of a property follow from what it reads
  unchanged : (values : K → Outcome T V) → IsValuation e values → (earlier : K → Outcome T V) (p : K) → ((q : K) → Reads e p q → earlier q ≡ values q) → (q : K) → Reads e p q → (values q ≡ earlier q) × IsSound e laws q (values q)
  unchanged values solves earlier p kept q here =
      (sym (kept q here), sound e.declarations.names (Reads e) next (IsSound e laws) (equations_read e laws) values (valuation_next values solves) q)

  pub kept_causes : (values : K → Outcome T V) → IsValuation e values → (earlier : K → Outcome T V) (p : K) → ((q : K) → Reads e p q → earlier q ≡ values q) → (cause : Cause K) → IsInvalid e earlier p cause ↔ IsInvalid e values p cause
  kept_causes values solves earlier p kept cause = invalid_kept e laws values earlier p (unchanged values solves earlier p kept) cause

  pub kept_ranges : (values : K → Outcome T V) → IsValuation e values → (earlier : K → Outcome T V) (p : K) → ((q : K) → Reads e p q → earlier q ≡ values q) → IsOutOfRange e earlier p ↔ IsOutOfRange e values p
  kept_ranges values solves earlier p kept = out_of_range_kept e laws values earlier p (unchanged values solves earlier p kept)
