-- Whether a list is no colour is told by whether its parts are no numbers and no percentages.
use Rattle.std.specs.Prelude.{ℕ, Bool, true, false, ◌&&◌, ◌||◌, List, [], ◌∷◌, map, Option, Some, None, if◌then◌else◌}
use Rattle.std.proofs.Common.{◌≡◌, refl, sym, ◌∙◌, ap, ap₂}
use Rattle.cv_spec_ratio.specs.Ratio.{Ratio}
use Rattle.cv_frac.specs.Bounded.{in_bounds}
use Rattle.cv_spec_text.specs.declared.token.Token.{Token}
use Rattle.cv_spec_text.specs.declared.token.Token.TheVariants.{Function}
use Rattle.cv_component.specs.Parts.{is_white, is_comma, is_solidus, parts, filled, trim}
use Rattle.cv_calc.specs.declared.context.Context.{Context}
use Rattle.cv_numeric.specs.declared.matched.Matched.{Matched}
use Rattle.cv_numeric.specs.declared.matched.Matched.TheVariants.{No, Out, Fit}
use Rattle.cv_numeric.specs.declared.quantity.Range.TheVariants.{All}
use Rattle.cv_numeric.specs.Matched.{both, or_else, IsAlike}
use Rattle.cv_numeric.specs.Numeric.{number, percentage}
use Rattle.cv_numeric.specs.Alike as numbers
use Rattle.cv_color.specs.declared.color.Color.{Color}
use Rattle.cv_colorread.specs.declared.channels.Channels.{Channels}
use Rattle.cv_colorread.specs.declared.channels.Form.{Form}
use Rattle.cv_colorread.specs.declared.channels.Form.TheVariants.{Number, Percentage, Either}
use Rattle.cv_colorread.specs.Channels.{counted, hundredths, part_of, by_percentage, by_either, read_as, together, three}
use Rattle.cv_colorread.specs.Colors.{with_alpha, without_alpha, opaque, alpha, alike, mixed, legacy, modern, arguments, is_rgb, inside, arguments_in, function, color}
use Rattle.cv_colorread.specs.Alike.{IsMismatchAlike}

abbrev is_no : {A : Type 0} → Matched A → Bool
is_no No = true
is_no _ = false

same_no : {A : Type 0} (m o : Matched A) → IsAlike m o → is_no m ≡ is_no o
same_no No No h = refl
same_no No Out h = absurd h
same_no No (Fit b) h = absurd h
same_no Out No h = absurd h
same_no (Fit a) No h = absurd h
same_no Out Out h = refl
same_no Out (Fit b) h = refl
same_no (Fit a) Out h = refl
same_no (Fit a) (Fit b) h = refl

alike_by : {A : Type 0} (m o : Matched A) → is_no m ≡ is_no o → IsAlike m o
alike_by No No h = tt
alike_by No Out h = cc
alike_by No (Fit b) h = cc
alike_by Out No h = cc
alike_by (Fit a) No h = cc
alike_by Out Out h = tt
alike_by Out (Fit b) h = tt
alike_by (Fit a) Out h = tt
alike_by (Fit a) (Fit b) h = tt

counted_no : (b : Bool) (v : Ratio) → is_no (if b then Fit v else Out) ≡ false
counted_no true v = refl
counted_no false v = refl

part_no : (whole : ℕ) (m : Matched Ratio) → is_no (part_of whole m) ≡ is_no m
part_no whole No = refl
part_no whole Out = refl
part_no whole (Fit v) = counted_no (in_bounds (hundredths whole v)) (hundredths whole v)

or_else_no : {A : Type 0} (m o : Matched A) → is_no (or_else m o) ≡ (is_no m && is_no o)
or_else_no No o = refl
or_else_no Out o = refl
or_else_no (Fit a) o = refl

both_no : {A B C : Type 0} (f : A → B → C) (m : Matched A) (o : Matched B) → is_no (both f m o) ≡ (is_no m || is_no o)
both_no f No o = refl
both_no f Out No = refl
both_no f Out Out = refl
both_no f Out (Fit b) = refl
both_no f (Fit a) No = refl
both_no f (Fit a) Out = refl
both_no f (Fit a) (Fit b) = refl

together_no : (r g b : Matched Ratio) → is_no (together r g b) ≡ (is_no r || (is_no g || is_no b))
together_no No g b = refl
together_no Out No b = refl
together_no (Fit r) No b = refl
together_no Out Out No = refl
together_no Out Out Out = refl
together_no Out Out (Fit b) = refl
together_no Out (Fit g) No = refl
together_no Out (Fit g) Out = refl
together_no Out (Fit g) (Fit b) = refl
together_no (Fit r) Out No = refl
together_no (Fit r) Out Out = refl
together_no (Fit r) Out (Fit b) = refl
together_no (Fit r) (Fit g) No = refl
together_no (Fit r) (Fit g) Out = refl
together_no (Fit r) (Fit g) (Fit b) = refl

module _ (law : numbers.IsMismatchAlike) (x y : Context) where
  number_same : (ts : List Token) → is_no (number All x ts) ≡ is_no (number All y ts)
  number_same ts = same_no (number All x ts) (number All y ts) (law.number_is All x y ts)

  percentage_same : (whole : ℕ) (ts : List Token) → is_no (by_percentage whole x ts) ≡ is_no (by_percentage whole y ts)
  percentage_same whole ts =
      part_no whole (percentage x ts)
      ∙ same_no (percentage x ts) (percentage y ts) (law.percentage_is x y ts)
      ∙ sym (part_no whole (percentage y ts))

  either_same : (whole : ℕ) (ts : List Token) → is_no (by_either whole x ts) ≡ is_no (by_either whole y ts)
  either_same whole ts =
      or_else_no (number All x ts) (by_percentage whole x ts)
      ∙ ap₂ (λ a b. a && b) (number_same ts) (percentage_same whole ts)
      ∙ sym (or_else_no (number All y ts) (by_percentage whole y ts))

  read_same : (form : Form) (ts : List Token) → is_no (read_as form x ts) ≡ is_no (read_as form y ts)
  read_same Number ts = number_same ts
  read_same Percentage ts = percentage_same 255 ts
  read_same Either ts = either_same 255 ts

  three_same : (form : Form) (lists : List (List Token)) → is_no (three (read_as form x) lists) ≡ is_no (three (read_as form y) lists)
  three_same form (r ∷ g ∷ b ∷ []) =
      together_no (read_as form x r) (read_as form x g) (read_as form x b)
      ∙ ap₂ (λ a c. a || c) (read_same form r) (ap₂ (λ a c. a || c) (read_same form g) (read_same form b))
      ∙ sym (together_no (read_as form y r) (read_as form y g) (read_as form y b))
  three_same form _ = refl

  alike_same : (lists : List (List Token)) → is_no (alike x lists) ≡ is_no (alike y lists)
  alike_same lists =
      or_else_no (three (read_as Number x) lists) (three (read_as Percentage x) lists)
      ∙ ap₂ (λ a b. a && b) (three_same Number lists) (three_same Percentage lists)
      ∙ sym (or_else_no (three (read_as Number y) lists) (three (read_as Percentage y) lists))

  colored_same : (m o : Matched Channels) (a b : Matched Ratio) → is_no m ≡ is_no o → is_no a ≡ is_no b → is_no (both with_alpha m a) ≡ is_no (both with_alpha o b)
  colored_same m o a b e f = both_no with_alpha m a ∙ ap₂ (λ p q. p || q) e f ∙ sym (both_no with_alpha o b)

  without_same : (m o : Matched Channels) → is_no m ≡ is_no o → is_no (without_alpha m) ≡ is_no (without_alpha o)
  without_same m o e = colored_same m o (Fit opaque) (Fit opaque) e refl

  legacy_same : (lists : List (List Token)) → is_no (legacy x lists) ≡ is_no (legacy y lists)
  legacy_same (r ∷ g ∷ b ∷ a ∷ []) =
      colored_same (alike x (r ∷ g ∷ b ∷ [])) (alike y (r ∷ g ∷ b ∷ [])) (alpha x a) (alpha y a) (alike_same (r ∷ g ∷ b ∷ [])) (either_same 1 a)
  legacy_same [] = without_same (alike x []) (alike y []) (alike_same [])
  legacy_same (r ∷ []) = without_same (alike x (r ∷ [])) (alike y (r ∷ [])) (alike_same (r ∷ []))
  legacy_same (r ∷ g ∷ []) = without_same (alike x (r ∷ g ∷ [])) (alike y (r ∷ g ∷ [])) (alike_same (r ∷ g ∷ []))
  legacy_same (r ∷ g ∷ b ∷ []) = without_same (alike x (r ∷ g ∷ b ∷ [])) (alike y (r ∷ g ∷ b ∷ [])) (alike_same (r ∷ g ∷ b ∷ []))
  legacy_same (r ∷ g ∷ b ∷ a ∷ e ∷ more) = without_same (alike x (r ∷ g ∷ b ∷ a ∷ e ∷ more)) (alike y (r ∷ g ∷ b ∷ a ∷ e ∷ more)) (alike_same (r ∷ g ∷ b ∷ a ∷ e ∷ more))

  mixed_same : (ts : List Token) → is_no (mixed x ts) ≡ is_no (mixed y ts)
  mixed_same ts = three_same Either (filled (parts is_white ts))

  modern_same : (lists : List (List Token)) → is_no (modern x lists) ≡ is_no (modern y lists)
  modern_same (channels ∷ []) = without_same (mixed x channels) (mixed y channels) (mixed_same channels)
  modern_same (channels ∷ a ∷ []) = colored_same (mixed x channels) (mixed y channels) (alpha x (trim a)) (alpha y (trim a)) (mixed_same channels) (either_same 1 (trim a))
  modern_same _ = refl

  arguments_same : (ts : List Token) → is_no (arguments x ts) ≡ is_no (arguments y ts)
  arguments_same ts =
      or_else_no (legacy x (map trim (parts is_comma ts))) (modern x (parts is_solidus ts))
      ∙ ap₂ (λ a b. a && b) (legacy_same (map trim (parts is_comma ts))) (modern_same (parts is_solidus ts))
      ∙ sym (or_else_no (legacy y (map trim (parts is_comma ts))) (modern y (parts is_solidus ts)))

  inside_same : (found : Option (List Token)) → is_no (arguments_in x found) ≡ is_no (arguments_in y found)
  inside_same None = refl
  inside_same (Some ts) = arguments_same ts

  named_same : (b : Bool) (found : Option (List Token)) → is_no (if b then arguments_in x found else No) ≡ is_no (if b then arguments_in y found else No)
  named_same true found = inside_same found
  named_same false found = refl

  color_same : (ts : List Token) → is_no (color x ts) ≡ is_no (color y ts)
  unfolding color
  color_same (Function name ∷ ts) = named_same (is_rgb name) (inside (Function name ∷ ts))
  color_same _ = refl

pub mismatch_alike : numbers.IsMismatchAlike → IsMismatchAlike
mismatch_alike law = λ x y ts. alike_by (color x ts) (color y ts) (color_same law x y ts)
