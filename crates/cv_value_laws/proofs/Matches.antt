-- Lists without font units match a syntax alike, and each list one without lengths.
use Rattle.std.specs.Prelude.{◌≡◌, Bool, true, List, [], ◌∷◌}
use Rattle.std.specs.List.{list_all, AllByRecursion as Every}
use Rattle.std.proofs.Common.{refl, ap}
use Rattle.cv_spec_text.specs.declared.token.Token.{Token}
use Rattle.cv_calc.specs.declared.context.Context.{Context}
use Rattle.cv_numeric.specs.declared.quantity.Range.TheVariants.{All}
use Rattle.cv_numeric.specs.Matched.{mapped}
use Rattle.cv_syntax.specs.declared.syntax.Kind.{Kind}
use Rattle.cv_syntax.specs.declared.syntax.Kind.TheVariants as kinds
use Rattle.cv_syntax.specs.declared.syntax.Component.{Component}
use Rattle.cv_syntax.specs.declared.syntax.Syntax.{Syntax}
use Rattle.cv_syntax.specs.declared.syntax.Syntax.TheVariants.{Any, Of}
use Rattle.cv_value.specs.declared.typed.Item.TheVariants as item_of
use Rattle.cv_value.specs.Items.{mixed_item, item}
use Rattle.cv_calc_laws.specs.Fonts.{is_other_unit, holds_no_font_unit, DifferInFonts}
use Rattle.cv_calc_laws.specs.Units.{token_passes}
use Rattle.cv_calc_laws.proofs.Lists.{and_both, false_true}
use Rattle.cv_syntax.specs.Told.{is_no_length, has_no_length}
use Rattle.cv_value_laws.specs.Contexts.{MatchesAlike, MatchesIgnoreContexts}
use Rattle.cv_value_laws.proofs.ByItems.{ItemsAgree, AllFine, same_many, same_matching}
use Rattle.cv_value_laws.proofs.Colors.{color_reads_alike, color_ignores_context}
use Rattle.cv_value_laws.proofs.Fits.{AnyToken, AnyList}
use Rattle.cv_value_laws.proofs.Numbers.{numbers_read_alike}
use Rattle.cv_value_laws.proofs.OtherNumbers.{numbers_ignore_contexts}
use Rattle.cv_value_laws.proofs.Passing.{by_test, by_any}

-- ---- without font units

abbrev AnyKind : Kind → Type 0
AnyKind k = Unit {0}

any_syntax : (s : Syntax) → AllFine AnyKind s
any_syntax Any = tt
any_syntax (Of cs) = each cs
  where
    each : (cs : List Component) → Every (λ (c : Component). AnyKind c.kind) cs
    each [] = tt
    each (c ∷ cs) = (tt, each cs)

module _ (root : Bool) (x y : Context) (differ : DifferInFonts root x y) where
  abbrev Other : Token → Type 0
  Other t = token_passes (is_other_unit root) t ≡ true

  abbrev Free : List Token → Type 0
  Free ts = holds_no_font_unit root ts ≡ true

  same_item : (k : Kind) (ts : List Token) → Free ts → item k x ts ≡ item k y ts
  same_item kinds.Length ts h = ap (mapped item_of.Length) (numbers_read_alike.length_is root x y differ ts h)
  same_item kinds.Number ts h = ap (mapped item_of.Number) (numbers_read_alike.number_is All root x y differ ts h)
  same_item kinds.Percentage ts h = ap (mapped item_of.Percentage) (numbers_read_alike.percentage_is root x y differ ts h)
  same_item kinds.LengthPercentage ts h = ap (mapped mixed_item) (numbers_read_alike.length_percentage_is All root x y differ ts h)
  same_item kinds.Color ts h = ap (mapped item_of.Color) (color_reads_alike root x y differ ts h)
  same_item kinds.Url ts h = refl
  same_item kinds.Integer ts h = ap (mapped item_of.Integer) (numbers_read_alike.integer_is root x y differ ts h)
  same_item kinds.Angle ts h = ap (mapped item_of.Angle) (numbers_read_alike.angle_is root x y differ ts h)
  same_item kinds.Time ts h = ap (mapped item_of.Time) (numbers_read_alike.time_is root x y differ ts h)
  same_item kinds.Resolution ts h = ap (mapped item_of.Resolution) (numbers_read_alike.resolution_is root x y differ ts h)
  same_item kinds.Str ts h = refl
  same_item kinds.CustomIdent ts h = refl
  same_item (kinds.Literal word) ts h = refl

  items_agree : ItemsAgree Other Free AnyKind x y
  items_agree = record { by = by_test (token_passes (is_other_unit root)); same_item = λ k fine ts h. same_item k ts h }

pub matches_alike : MatchesAlike
matches_alike = record {
  item_is = λ k root x y differ ts h. same_item root x y differ k ts h;
  component_is = λ c root x y differ ts h. same_many (Other root x y differ) (Free root x y differ) AnyKind x y (items_agree root x y differ) c.kind tt c.many ts h;
  matching_is = λ s root x y differ ts h. same_matching (Other root x y differ) (Free root x y differ) AnyKind x y (items_agree root x y differ) s (any_syntax s) ts h;
}

-- ---- without lengths

abbrev NoLength : Kind → Type 0
NoLength k = is_no_length k ≡ true

no_lengths : (s : Syntax) → has_no_length s ≡ true → AllFine NoLength s
no_lengths Any h = tt
no_lengths (Of cs) h = each cs h
  where
    each : (cs : List Component) → list_all (λ (c : Component). is_no_length c.kind) cs ≡ true → Every (λ (c : Component). NoLength c.kind) cs
    each [] h = tt
    each (c ∷ cs) h = let (first, rest) = and_both (is_no_length c.kind) (list_all (λ (c : Component). is_no_length c.kind) cs) h in (first, each cs rest)

other_item : (k : Kind) → NoLength k → (x y : Context) (ts : List Token) → item k x ts ≡ item k y ts
other_item kinds.Length h x y ts = absurd (false_true h)
other_item kinds.Number h x y ts = ap (mapped item_of.Number) (numbers_ignore_contexts.number_is All x y ts)
other_item kinds.Percentage h x y ts = ap (mapped item_of.Percentage) (numbers_ignore_contexts.percentage_is x y ts)
other_item kinds.LengthPercentage h x y ts = absurd (false_true h)
other_item kinds.Color h x y ts = ap (mapped item_of.Color) (color_ignores_context x y ts)
other_item kinds.Url h x y ts = refl
other_item kinds.Integer h x y ts = ap (mapped item_of.Integer) (numbers_ignore_contexts.integer_is x y ts)
other_item kinds.Angle h x y ts = ap (mapped item_of.Angle) (numbers_ignore_contexts.angle_is x y ts)
other_item kinds.Time h x y ts = ap (mapped item_of.Time) (numbers_ignore_contexts.time_is x y ts)
other_item kinds.Resolution h x y ts = ap (mapped item_of.Resolution) (numbers_ignore_contexts.resolution_is x y ts)
other_item kinds.Str h x y ts = refl
other_item kinds.CustomIdent h x y ts = refl
other_item (kinds.Literal word) h x y ts = refl

others_agree : (x y : Context) → ItemsAgree AnyToken AnyList NoLength x y
others_agree x y = record { by = by_any; same_item = λ k fine ts h. other_item k fine x y ts }

pub matches_ignore_contexts : MatchesIgnoreContexts
matches_ignore_contexts = record {
  item_is = other_item;
  component_is = λ c fine x y ts. same_many AnyToken AnyList NoLength x y (others_agree x y) c.kind fine c.many ts tt;
  matching_is = λ s fine x y ts. same_matching AnyToken AnyList NoLength x y (others_agree x y) s (no_lengths s fine) ts tt;
}
