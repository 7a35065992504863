-- A colour that holds a number out of range, or a divisor, is no colour within range.
use Rattle.std.specs.Prelude.{ℕ, Bool, true, false, ◌&&◌, ◌||◌, List, [], ◌∷◌, ◌++◌, map, Option, Some, None, if◌then◌else◌}
use Rattle.std.specs.List.{list_any}
use Rattle.std.proofs.Common.{◌≡◌, refl, sym, ◌∙◌, ap, ap₂, subst}
use Rattle.cv_spec_ratio.specs.Ratio.{Ratio}
use Rattle.cv_frac.specs.Bounded.{in_bounds}
use Rattle.cv_spec_text.specs.declared.token.Token.{Token}
use Rattle.cv_spec_text.specs.declared.token.Token.TheVariants as token
use Rattle.cv_component.specs.Parts.{is_white, is_comma, is_solidus, parts, filled, trim}
use Rattle.cv_calc.specs.declared.context.Context.{Context}
use Rattle.cv_numeric.specs.declared.matched.Matched.{Matched}
use Rattle.cv_numeric.specs.declared.matched.Matched.TheVariants.{No, Out, Fit}
use Rattle.cv_numeric.specs.declared.quantity.Range.TheVariants.{All}
use Rattle.cv_numeric.specs.Alike.{IsMismatchAlike}
use Rattle.cv_numeric.specs.Numeric.{number, percentage}
use Rattle.cv_numeric.specs.Matched.{both, or_else}
use Rattle.cv_colorread.specs.declared.channels.Channels.{Channels}
use Rattle.cv_colorread.specs.Channels.{together, part_of, hundredths, by_number, by_percentage, by_either, three}
use Rattle.cv_colorread.specs.Colors as colors
use Rattle.cv_property.specs.Grammar.{is_match}
use Rattle.cv_props.specs.Registration.{viewport}
use Rattle.cv_reify.specs.Arguments.{is_number, is_percentage, are_numbers, are_percentages, are_channels, is_alpha, is_legacy, modern_arguments, arguments_by, arguments_in, arguments, is_wide_argument, is_wide_color}
use Rattle.cv_reify_laws.proofs.NoFit.{NoFit, both_first, both_second, or_else_is, together_first, together_second, together_third, part_is, alike_match, match_both, match_or_else, match_together, or_else_out, or_else_no}
use Rattle.cv_reify_laws.proofs.Numbers.{chosen, number_no_fit, percentage_no_fit}

-- ---- one argument

either_no_fit : (whole : ℕ) (x : Context) (ts : List Token) → is_wide_argument ts ≡ true → NoFit (by_either whole x ts)
either_no_fit whole x ts wide = or_else_is (by_number x ts) (by_percentage whole x ts) (number_no_fit All x ts wide) (part_is whole (percentage x ts) (percentage_no_fit x ts wide))

percent_no_fit : (whole : ℕ) (x : Context) (ts : List Token) → is_wide_argument ts ≡ true → NoFit (by_percentage whole x ts)
percent_no_fit whole x ts wide = part_is whole (percentage x ts) (percentage_no_fit x ts wide)

-- ---- three channels

by_one : {A : Type 0} (P : A → Bool) (a : A) (rest : List A) (Q : Type 0) → (P a ≡ true → Q) → (list_any P rest ≡ true → Q) → list_any P (a ∷ rest) ≡ true → Q
by_one P a rest Q first others h = go (P a) refl
  where
    go : (b : Bool) → P a ≡ b → Q
    go true e = first e
    go false e = others (sym (ap (λ c. c || list_any P rest) e) ∙ h)

three_no_fit : (read : List Token → Matched Ratio) → ((ts : List Token) → is_wide_argument ts ≡ true → NoFit (read ts)) → (ps : List (List Token)) → list_any is_wide_argument ps ≡ true → NoFit (three read ps)
three_no_fit read each [] wide = absurd cc
three_no_fit read each (r ∷ []) wide = tt
three_no_fit read each (r ∷ g ∷ []) wide = tt
three_no_fit read each (r ∷ g ∷ b ∷ []) wide =
    by_one is_wide_argument r (g ∷ b ∷ []) (NoFit (together (read r) (read g) (read b))) (λ h. together_first (read r) (read g) (read b) (each r h))
    (by_one is_wide_argument g (b ∷ []) (NoFit (together (read r) (read g) (read b))) (λ h. together_second (read r) (read g) (read b) (each g h))
    (by_one is_wide_argument b [] (NoFit (together (read r) (read g) (read b))) (λ h. together_third (read r) (read g) (read b) (each b h)) (λ h. absurd cc))) wide
three_no_fit read each (r ∷ g ∷ b ∷ a ∷ rest) wide = tt

alike_no_fit : (x : Context) (ps : List (List Token)) → list_any is_wide_argument ps ≡ true → NoFit (colors.alike x ps)
alike_no_fit x ps wide =
    or_else_is (three (by_number x) ps) (three (by_percentage 255 x) ps) (three_no_fit (by_number x) (number_no_fit All x) ps wide) (three_no_fit (by_percentage 255 x) (percent_no_fit 255 x) ps wide)

-- ---- both syntaxes

or_true : (a b : Bool) → b ≡ true → (a || b) ≡ true
or_true true b h = refl
or_true false b h = h

or_false : (a : Bool) → (a || false) ≡ true → a ≡ true
or_false true h = refl
or_false false h = h

by_append : {A : Type 0} (P : A → Bool) (xs ys : List A) (Q : Type 0) → (list_any P xs ≡ true → Q) → (list_any P ys ≡ true → Q) → list_any P (xs ++ ys) ≡ true → Q
by_append P [] ys Q first second h = second h
by_append P (x ∷ xs) ys Q first second h =
    by_one P x (xs ++ ys) Q (λ e. first (ap (λ c. c || list_any P xs) e)) (λ e. by_append P xs ys Q (λ k. first (or_true (P x) (list_any P xs) k)) second e) h

alpha_no_fit : (x : Context) (a : List Token) → list_any is_wide_argument (a ∷ []) ≡ true → NoFit (colors.alpha x a)
alpha_no_fit x a wide = either_no_fit 1 x a (or_false (is_wide_argument a) wide)

legacy_no_fit : (x : Context) (ps : List (List Token)) → list_any is_wide_argument ps ≡ true → NoFit (colors.legacy x ps)
legacy_no_fit x (r ∷ g ∷ b ∷ a ∷ []) wide =
    let channels = colors.alike x (r ∷ g ∷ b ∷ []) in
    by_append is_wide_argument (r ∷ g ∷ b ∷ []) (a ∷ []) (NoFit (both colors.with_alpha channels (colors.alpha x a)))
    (λ h. both_first colors.with_alpha channels (colors.alpha x a) (alike_no_fit x (r ∷ g ∷ b ∷ []) h))
    (λ h. both_second colors.with_alpha channels (colors.alpha x a) (alpha_no_fit x a h)) wide
legacy_no_fit x ps wide = both_first colors.with_alpha (colors.alike x ps) (Fit colors.opaque) (alike_no_fit x ps wide)

mixed_no_fit : (x : Context) (ts : List Token) → list_any is_wide_argument (filled (parts is_white ts)) ≡ true → NoFit (colors.mixed x ts)
mixed_no_fit x ts wide = three_no_fit (by_either 255 x) (either_no_fit 255 x) (filled (parts is_white ts)) wide

modern_no_fit : (x : Context) (ls : List (List Token)) → list_any is_wide_argument (modern_arguments ls) ≡ true → NoFit (colors.modern x ls)
modern_no_fit x [] wide = absurd cc
modern_no_fit x (channels ∷ []) wide = both_first colors.with_alpha (colors.mixed x channels) (Fit colors.opaque) (mixed_no_fit x channels wide)
modern_no_fit x (channels ∷ a ∷ []) wide =
    by_append is_wide_argument (filled (parts is_white channels)) (trim a ∷ []) (NoFit (both colors.with_alpha (colors.mixed x channels) (colors.alpha x (trim a))))
    (λ h. both_first colors.with_alpha (colors.mixed x channels) (colors.alpha x (trim a)) (mixed_no_fit x channels h))
    (λ h. both_second colors.with_alpha (colors.mixed x channels) (colors.alpha x (trim a)) (alpha_no_fit x (trim a) h)) wide
modern_no_fit x (channels ∷ a ∷ b ∷ rest) wide = tt

-- ---- which syntax is read

match_counted : (b : Bool) (v : Ratio) → is_match (if b then Fit v else Out) ≡ true
match_counted true v = refl
match_counted false v = refl

match_part : (whole : ℕ) (m : Matched Ratio) → is_match (part_of whole m) ≡ is_match m
match_part whole No = refl
match_part whole Out = refl
match_part whole (Fit v) = match_counted (in_bounds (hundredths whole v)) (hundredths whole v)

and_true : (b : Bool) → (b && true) ≡ b
and_true true = refl
and_true false = refl

module _ (same : IsMismatchAlike) (x : Context) where
  number_match : (ts : List Token) → is_match (number All x ts) ≡ is_number ts
  number_match ts = alike_match (number All x ts) (number All (viewport 0 0) ts) (same.number_is All x (viewport 0 0) ts)

  percentage_match : (whole : ℕ) (ts : List Token) → is_match (by_percentage whole x ts) ≡ is_percentage ts
  percentage_match whole ts = match_part whole (percentage x ts) ∙ alike_match (percentage x ts) (percentage (viewport 0 0) ts) (same.percentage_is x (viewport 0 0) ts)

  alpha_match : (ts : List Token) → is_match (colors.alpha x ts) ≡ is_alpha ts
  alpha_match ts = match_or_else (by_number x ts) (by_percentage 1 x ts) ∙ ap₂ (λ (a b : Bool). a || b) (number_match ts) (percentage_match 1 ts)

  all_three : (r g b r' g' b' : Bool) → r ≡ r' → g ≡ g' → b ≡ b' → (r && (g && b)) ≡ (r' && (g' && b'))
  all_three r g b r' g' b' e f h = ap₂ (λ (a c : Bool). a && c) e (ap₂ (λ (a c : Bool). a && c) f h)

  channels_match : (r g b : List Token) → is_match (colors.alike x (r ∷ g ∷ b ∷ [])) ≡ are_channels r g b
  channels_match r g b =
      match_or_else (together (by_number x r) (by_number x g) (by_number x b)) (together (by_percentage 255 x r) (by_percentage 255 x g) (by_percentage 255 x b))
      ∙ ap₂ (λ (a c : Bool). a || c)
      (match_together (by_number x r) (by_number x g) (by_number x b) ∙ all_three (is_match (by_number x r)) (is_match (by_number x g)) (is_match (by_number x b)) (is_number r) (is_number g) (is_number b) (number_match r) (number_match g) (number_match b))
      (match_together (by_percentage 255 x r) (by_percentage 255 x g) (by_percentage 255 x b) ∙ all_three (is_match (by_percentage 255 x r)) (is_match (by_percentage 255 x g)) (is_match (by_percentage 255 x b)) (is_percentage r) (is_percentage g) (is_percentage b) (percentage_match 255 r) (percentage_match 255 g) (percentage_match 255 b))

  legacy_match : (ps : List (List Token)) → is_match (colors.legacy x ps) ≡ is_legacy ps
  legacy_match [] = refl
  legacy_match (r ∷ []) = refl
  legacy_match (r ∷ g ∷ []) = refl
  legacy_match (r ∷ g ∷ b ∷ []) =
      match_both colors.with_alpha (colors.alike x (r ∷ g ∷ b ∷ [])) (Fit colors.opaque) ∙ and_true (is_match (colors.alike x (r ∷ g ∷ b ∷ []))) ∙ channels_match r g b
  legacy_match (r ∷ g ∷ b ∷ a ∷ []) =
      match_both colors.with_alpha (colors.alike x (r ∷ g ∷ b ∷ [])) (colors.alpha x a) ∙ ap₂ (λ (c d : Bool). c && d) (channels_match r g b) (alpha_match a)
  legacy_match (r ∷ g ∷ b ∷ a ∷ e ∷ rest) = refl

  arguments_no_fit : (inner : List Token) → list_any is_wide_argument (arguments_in (Some inner)) ≡ true → NoFit (colors.arguments x inner)
  arguments_no_fit inner wide = go (is_legacy (map trim (parts is_comma inner))) refl
    where
      go : (b : Bool) → is_legacy (map trim (parts is_comma inner)) ≡ b → NoFit (colors.arguments x inner)
      go true e =
          let is : arguments_in (Some inner) ≡ map trim (parts is_comma inner) = ap (λ (c : Bool). if c then map trim (parts is_comma inner) else modern_arguments (parts is_solidus inner)) e in
          or_else_out (colors.legacy x (map trim (parts is_comma inner))) (colors.modern x (parts is_solidus inner)) (legacy_no_fit x (map trim (parts is_comma inner)) (sym (ap (list_any is_wide_argument) is) ∙ wide)) (legacy_match (map trim (parts is_comma inner)) ∙ e)
      go false e =
          let is : arguments_in (Some inner) ≡ modern_arguments (parts is_solidus inner) = ap (λ (c : Bool). if c then map trim (parts is_comma inner) else modern_arguments (parts is_solidus inner)) e in
          or_else_no (colors.legacy x (map trim (parts is_comma inner))) (colors.modern x (parts is_solidus inner)) (legacy_match (map trim (parts is_comma inner)) ∙ e) (modern_no_fit x (parts is_solidus inner) (sym (ap (list_any is_wide_argument) is) ∙ wide))

  inside_no_fit : (inner : Option (List Token)) → list_any is_wide_argument (arguments_in inner) ≡ true → NoFit (colors.arguments_in x inner)
  inside_no_fit None wide = tt
  inside_no_fit (Some inner) wide = arguments_no_fit inner wide

  pub color_no_fit : (ts : List Token) → is_wide_color ts ≡ true → NoFit (colors.color x ts)
  unfolding colors.color
  color_no_fit (token.Function name ∷ ts) wide = chosen (colors.is_rgb name) (colors.arguments_in x (colors.inside (token.Function name ∷ ts))) No (inside_no_fit (colors.inside (token.Function name ∷ ts)) wide) tt
  color_no_fit ts wide = absurd cc
