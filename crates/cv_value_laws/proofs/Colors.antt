-- Colours are read alike where their numbers and percentages are.
use Rattle.std.specs.Prelude.{◌≡◌, ℕ, Bool, true, false, ◌+◌, ◌-◌, ◌==◌, List, [], ◌∷◌, length, map, take, drop, Option, Some, None, if◌then◌else◌}
use Rattle.std.specs.List.{AllByRecursion as Every}
use Rattle.std.proofs.Common.{refl, ap, ap₂, ◌∙◌}
use Rattle.cv_spec_ratio.specs.Ratio.{Ratio}
use Rattle.cv_spec_text.specs.declared.token.Token.{Token}
use Rattle.cv_spec_text.specs.declared.token.Token.TheVariants.{Ident, Hash, Function}
use Rattle.cv_component.specs.Blocks.{matching}
use Rattle.cv_component.specs.Parts.{is_white, is_comma, is_solidus, parts, filled, trim}
use Rattle.cv_calc.specs.declared.context.Context.{Context}
use Rattle.cv_numeric.specs.declared.matched.Matched.{Matched}
use Rattle.cv_numeric.specs.declared.matched.Matched.TheVariants.{No}
use Rattle.cv_numeric.specs.declared.quantity.Range.TheVariants.{All}
use Rattle.cv_numeric.specs.Matched.{both, or_else}
use Rattle.cv_numeric.specs.Numeric.{number, percentage}
use Rattle.cv_color.specs.declared.color.Color.{Color}
use Rattle.cv_colorread.specs.Channels.{part_of, by_number, by_percentage, by_either, together, three}
use Rattle.cv_colorread.specs.Colors.{with_alpha, without_alpha, alike, mixed, legacy, modern, arguments, is_rgb, inside_by, inside, arguments_in, function, color}
use Rattle.cv_calc_laws.specs.Fonts.{is_other_unit, holds_no_font_unit}
use Rattle.cv_calc_laws.specs.Units.{token_passes}
use Rattle.cv_value_laws.specs.Contexts.{ReadsAlike, IgnoresContext}
use Rattle.cv_value_laws.proofs.Fits.{AnyToken, AnyList}
use Rattle.cv_value_laws.proofs.Numbers.{numbers_read_alike}
use Rattle.cv_value_laws.proofs.OtherNumbers.{numbers_ignore_contexts}
use Rattle.cv_value_laws.proofs.Passing.{ByTokens, by_test, by_any, take_pass, drop_pass, parts_pass, filled_pass, trim_pass, trims_pass}

-- numbers and percentages are read alike in lists whose tokens have a property
record ChannelsAgree (G : Token → Type 0) (P : List Token → Type 0) (x y : Context) : Type 0 where
  by : ByTokens G P
  number_is : (ts : List Token) → P ts → number All x ts ≡ number All y ts
  percentage_is : (ts : List Token) → P ts → percentage x ts ≡ percentage y ts

module _ (G : Token → Type 0) (P : List Token → Type 0) (x y : Context) (agree : ChannelsAgree G P x y) where
  same_percentage : (whole : ℕ) (ts : List Token) → P ts → by_percentage whole x ts ≡ by_percentage whole y ts
  same_percentage whole ts h = ap (part_of whole) (agree.percentage_is ts h)

  same_either : (whole : ℕ) (ts : List Token) → P ts → by_either whole x ts ≡ by_either whole y ts
  same_either whole ts h = ap₂ or_else (agree.number_is ts h) (same_percentage whole ts h)

  same_three : (f g : List Token → Matched Ratio) → ((ts : List Token) → P ts → f ts ≡ g ts) → (ps : List (List Token)) → Every P ps → three f ps ≡ three g ps
  same_three f g same [] h = refl
  same_three f g same (r ∷ []) h = refl
  same_three f g same (r ∷ n ∷ []) h = refl
  same_three f g same (r ∷ n ∷ b ∷ []) h =
      ap₂ (λ (p q : Matched Ratio). together p q (f b)) (same r h.0) (same n h.1.0) ∙ ap (λ (p : Matched Ratio). together (g r) (g n) p) (same b h.1.1.0)
  same_three f g same (r ∷ n ∷ b ∷ a ∷ ps) h = refl

  same_alike : (ps : List (List Token)) → Every P ps → alike x ps ≡ alike y ps
  same_alike ps h =
      ap₂ or_else (same_three (by_number x) (by_number y) agree.number_is ps h) (same_three (by_percentage 255 x) (by_percentage 255 y) (same_percentage 255) ps h)

  same_legacy : (ps : List (List Token)) → Every P ps → legacy x ps ≡ legacy y ps
  same_legacy [] h = ap without_alpha (same_alike [] h)
  same_legacy (r ∷ []) h = ap without_alpha (same_alike (r ∷ []) h)
  same_legacy (r ∷ g ∷ []) h = ap without_alpha (same_alike (r ∷ g ∷ []) h)
  same_legacy (r ∷ g ∷ b ∷ []) h = ap without_alpha (same_alike (r ∷ g ∷ b ∷ []) h)
  same_legacy (r ∷ g ∷ b ∷ a ∷ []) h = ap₂ (both with_alpha) (same_alike (r ∷ g ∷ b ∷ []) (h.0, (h.1.0, (h.1.1.0, tt)))) (same_either 1 a h.1.1.1.0)
  same_legacy (r ∷ g ∷ b ∷ a ∷ c ∷ ps) h = ap without_alpha (same_alike (r ∷ g ∷ b ∷ a ∷ c ∷ ps) h)

  same_mixed : (ts : List Token) → P ts → mixed x ts ≡ mixed y ts
  same_mixed ts h = same_three (by_either 255 x) (by_either 255 y) (same_either 255) (filled (parts is_white ts)) (filled_pass G P agree.by (parts is_white ts) (parts_pass G P agree.by is_white ts h))

  same_modern : (ps : List (List Token)) → Every P ps → modern x ps ≡ modern y ps
  same_modern [] h = refl
  same_modern (channels ∷ []) h = ap without_alpha (same_mixed channels h.0)
  same_modern (channels ∷ a ∷ []) h = ap₂ (both with_alpha) (same_mixed channels h.0) (same_either 1 (trim a) (trim_pass G P agree.by a h.1.0))
  same_modern (channels ∷ a ∷ b ∷ ps) h = refl

  same_arguments : (ts : List Token) → P ts → arguments x ts ≡ arguments y ts
  same_arguments ts h =
      ap₂ or_else (same_legacy (map trim (parts is_comma ts)) (trims_pass G P agree.by (parts is_comma ts) (parts_pass G P agree.by is_comma ts h)))
      (same_modern (parts is_solidus ts) (parts_pass G P agree.by is_solidus ts h))

  -- ---- a colour function

  abbrev PassIf : Option (List Token) → Type 0
  PassIf None = Unit {0}
  PassIf (Some ts) = P ts

  inside_pass : (ts : List Token) (end : Option ℕ) → P ts → PassIf (inside_by ts end)
  inside_pass ts None h = drop_pass G P agree.by 1 ts h
  inside_pass ts (Some end) h = go (end + 1 == length ts)
    where
      go : (b : Bool) → PassIf (if b then Some (take (end - 1) (drop 1 ts)) else None)
      go true = take_pass G P agree.by (end - 1) (drop 1 ts) (drop_pass G P agree.by 1 ts h)
      go false = tt

  same_arguments_in : (o : Option (List Token)) → PassIf o → arguments_in x o ≡ arguments_in y o
  same_arguments_in None h = refl
  same_arguments_in (Some ts) h = same_arguments ts h

  same_function : (name : List ℕ) (ts : List Token) → P ts → function x name ts ≡ function y name ts
  same_function name ts h = ap (λ (o : Matched Color). if is_rgb name then o else No) (same_arguments_in (inside ts) (inside_pass ts (matching ts 0) h))

  same_color : (ts : List Token) → P ts → color x ts ≡ color y ts
  unfolding color
  same_color (Ident name ∷ []) h = refl
  same_color (Hash digits id ∷ []) h = refl
  same_color (Function name ∷ ts) h = same_function name (Function name ∷ ts) h
  same_color [] h = refl
  same_color (t ∷ ts) h = refl

pub color_reads_alike : ReadsAlike color
color_reads_alike root x y differ =
    same_color (λ t. token_passes (is_other_unit root) t ≡ true) (λ ts. holds_no_font_unit root ts ≡ true) x y
    record {
      by = by_test (token_passes (is_other_unit root));
      number_is = numbers_read_alike.number_is All root x y differ;
      percentage_is = numbers_read_alike.percentage_is root x y differ;
    }

pub color_ignores_context : IgnoresContext color
color_ignores_context x y ts =
    same_color AnyToken AnyList x y
    record { by = by_any; number_is = λ us h. numbers_ignore_contexts.number_is All x y us; percentage_is = λ us h. numbers_ignore_contexts.percentage_is x y us } ts tt
