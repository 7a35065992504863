-- The equations of one element's values. No order of evaluation stands in them.
use Rattle.std.specs.Prelude.{◌≡◌, ℕ, ◌<◌, ◌≤◌, Bool, true, false, ◌||◌, if◌then◌else◌, List, length, Option, Some, None, Result, Ok, Err}
use Rattle.cv_spec_element.specs.Pieces.{Pieces, finish, token, reference, reference_or, sub}
use Rattle.cv_spec_element.specs.Keywords.{Keyword}
use Rattle.cv_spec_element.specs.Words.{trim, keyword_of}
use Rattle.cv_spec_element.specs.Element.{Matched, no, out, fit, Outcome, tokens, typed, invalid, Element}
use Rattle.cv_spec_element.specs.Dependencies.{tokens_of, keyword_value, undeclared_value, DependsOnItself, Reads}

-- the declaration holds a reference
abbrev pub has_reference : {K T : Type 0} → Pieces K T → Bool
has_reference finish = false
has_reference (token t rest) = has_reference rest
has_reference (reference n rest) = true
has_reference (reference_or n fallback rest) = true

abbrev pub is_substituted : {K T : Type 0} → Option (Pieces K T) → Bool
is_substituted None = false
is_substituted (Some pieces) = has_reference pieces

-- why a declared property is invalid at computed-value time (Cascading Variables 1, "Invalid Variables",
-- "Resolving Dependency Cycles", "Safely Handling Overly-Long Variables"; Properties and Values API 1,
-- "Calculation of Computed Values")
pub data Cause (K : Type 0) : Type 0 where
  cycle : Cause K
  missing : K → Cause K
  limit : ℕ → Cause K
  mismatch : Cause K

module _ {K T V U M : Type 0} (e : Element K T V U M) where
  -- the limit is asked of custom properties, and of ordinary ones that refer to others
  abbrev pub is_counted : K → Bool
  is_counted p = e.properties.is_custom p || is_substituted (e.declarations.pieces p)

  -- what `em` is where the property is read (Values and Units 4, "Font-relative Lengths")
  abbrev pub font_size_for : (K → Outcome T V) → K → M
  font_size_for values p =
      if e.properties.is_same p e.properties.font_size then e.values.parent_font_size else e.values.font_size_of (values e.properties.font_size)

  -- what the trimmed list gives against the property's grammar or syntax
  abbrev pub matched : (K → Outcome T V) → K → List T → Matched V
  matched values p list = e.values.reads p (font_size_for values p) (trim e.words list)

  -- the declaration's list after substitution (Cascading Variables 1, "Substitute a var()")
  abbrev pub SubIs : (K → Outcome T V) → K → Result (List T) K → Type 0
  SubIs values p outcome =
      (pieces : Pieces K T) × (e.declarations.pieces p ≡ Some pieces) × (sub (λ q. tokens_of e (values q)) pieces ≡ outcome)

  -- no cycle, no missing name and no limit stands in the way of this list
  pub record IsSubstituted (values : K → Outcome T V) (p : K) (list : List T) : Type 0 where
    pub loopless : ¬ DependsOnItself e p
    pub sub_is : SubIs values p (Ok list)
    pub within : is_counted p ≡ true → length list ≤ e.declarations.limit

  -- the list is asked against the grammar of a property that isn't loose
  pub record IsMatched (values : K → Outcome T V) (p : K) (list : List T) (answer : Matched V) : Type 0 where
    pub substituted : IsSubstituted values p list
    pub no_keyword : keyword_of e.words list ≡ None
    pub is_typed : e.properties.is_loose p ≡ false
    pub matched_is : matched values p list ≡ answer

  -- the substituted list has this many tokens, more than the limit (Cascading Variables 1, "Safely Handling
  -- Overly-Long Variables")
  pub record IsOverLimit (values : K → Outcome T V) (p : K) (count : ℕ) : Type 0 where
    pub list : List T
    pub sub_is : SubIs values p (Ok list)
    pub count_is : length list ≡ count
    pub counted : is_counted p ≡ true
    pub over : e.declarations.limit < count

  -- the declared property is invalid at computed-value time with this cause, and none that goes before it
  -- (Cascading Variables 1, "Invalid Variables")
  abbrev pub IsInvalid : (K → Outcome T V) → K → Cause K → Type 0
  IsInvalid values p cycle = DependsOnItself e p
  IsInvalid values p (missing n) = (¬ DependsOnItself e p) × SubIs values p (Err n)
  IsInvalid values p (limit count) = (¬ DependsOnItself e p) × IsOverLimit values p count
  IsInvalid values p mismatch = (list : List T) × IsMatched values p list no

  -- what a property has that is invalid at computed-value time: a loose one the guaranteed-invalid value, any other
  -- what it has undeclared (Cascading Variables 1, "Invalid Variables"; Properties and Values API 1, "Calculation of
  -- Computed Values")
  abbrev pub invalid_value : K → Outcome T V
  invalid_value p = if e.properties.is_loose p then invalid else undeclared_value e p

  -- what the equations give a property, where they read these values
  pub data Gives (values : K → Outcome T V) (p : K) (outcome : Outcome T V) : Type 0 where
    undeclared : e.declarations.pieces p ≡ None → outcome ≡ undeclared_value e p → Gives values p outcome
    refused : (cause : Cause K) → IsInvalid values p cause → outcome ≡ invalid_value p → Gives values p outcome
    by_keyword : (list : List T) (w : Keyword) → IsSubstituted values p list → keyword_of e.words list ≡ Some w → outcome ≡ keyword_value e p w → Gives values p outcome
    trimmed : (list : List T) → IsSubstituted values p list → keyword_of e.words list ≡ None → e.properties.is_loose p ≡ true → outcome ≡ tokens (trim e.words list) → Gives values p outcome
    -- only fills the place: such an element isn't in range
    out_of_range : (list : List T) → IsMatched values p list out → outcome ≡ undeclared_value e p → Gives values p outcome
    computed : (list : List T) (value : V) → IsMatched values p list (fit value) → outcome ≡ typed value → Gives values p outcome

  -- the values solve the equations, over all properties at once
  abbrev pub IsValuation : (K → Outcome T V) → Type 0
  IsValuation values = (p : K) → Gives values p (values p)

  -- a property is out of range (this project's own)
  abbrev pub IsOutOfRange : (K → Outcome T V) → K → Type 0
  IsOutOfRange values p = (list : List T) × IsMatched values p list out

  -- one valuation and no other
  pub record HasOneValuation : Type 0 where
    pub valuation : K → Outcome T V
    pub solves : IsValuation valuation
    pub only : (values : K → Outcome T V) → IsValuation values → (p : K) → values p ≡ valuation p

  -- The value was settled once: it is what the equations give, where they read the values of that moment, and those
  -- that they read are the ones that stand at the end.
  pub record IsSettled (values : K → Outcome T V) (p : K) : Type 0 where
    pub earlier : K → Outcome T V
    pub kept : (q : K) → Reads e p q → earlier q ≡ values q
    pub given : Gives earlier p (values p)

  -- the property is invalid with exactly one cause
  pub record HasOneCause (values : K → Outcome T V) (p : K) : Type 0 where
    pub cause : Cause K
    pub holds : IsInvalid values p cause
    pub only : (other : Cause K) → IsInvalid values p other → other ≡ cause

  -- what a declaration gives by its list: the value of a keyword, the trimmed list, or the value that it matches
  pub data Uses (values : K → Outcome T V) (p : K) (outcome : Outcome T V) : Type 0 where
    uses_keyword : (list : List T) (w : Keyword) → IsSubstituted values p list → keyword_of e.words list ≡ Some w → outcome ≡ keyword_value e p w → Uses values p outcome
    uses_list : (list : List T) → IsSubstituted values p list → keyword_of e.words list ≡ None → e.properties.is_loose p ≡ true → outcome ≡ tokens (trim e.words list) → Uses values p outcome
    uses_value : (list : List T) (value : V) → IsMatched values p list (fit value) → outcome ≡ typed value → Uses values p outcome

  -- the equations give a property this value, and no cause and no range stands beside it
  pub record IsUsed (values : K → Outcome T V) (p : K) (outcome : Outcome T V) : Type 0 where
    pub given : Gives values p outcome
    pub valid : (cause : Cause K) → ¬ IsInvalid values p cause
    pub in_range : ¬ IsOutOfRange values p

  -- the property is invalid with this cause alone, which gives it the value of such a property
  pub record IsRefused (values : K → Outcome T V) (p : K) (cause : Cause K) : Type 0 where
    pub given : Gives values p (invalid_value p)
    pub only : (other : Cause K) → IsInvalid values p other → other ≡ cause
    pub in_range : ¬ IsOutOfRange values p

  -- the property is out of range and not invalid, and its place is filled
  pub record IsRanged (values : K → Outcome T V) (p : K) : Type 0 where
    pub given : Gives values p (undeclared_value e p)
    pub valid : (cause : Cause K) → ¬ IsInvalid values p cause
