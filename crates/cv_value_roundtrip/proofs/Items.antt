-- Items of each kind read back.
use Rattle.std.specs.Prelude.{List}
use Rattle.std.proofs.Common.{◌≡◌, refl, ap, subst}
use Rattle.cv_spec_text.specs.declared.token.Token.{Token}
use Rattle.cv_calc.specs.declared.unit.Unit.TheVariants as units
use Rattle.cv_calc.specs.declared.context.Context.{Context}
use Rattle.cv_numeric.specs.declared.matched.Matched.{Matched}
use Rattle.cv_numeric.specs.declared.matched.Matched.TheVariants.{Fit}
use Rattle.cv_numeric.specs.declared.quantity.Quantity.TheVariants as quantity
use Rattle.cv_numeric.specs.declared.quantity.Range.TheVariants.{All, NotNegative}
use Rattle.cv_numeric.specs.Matched.{mapped}
use Rattle.cv_numeric.specs.Numeric as numeric
use Rattle.cv_colorread.specs.Colors.{color}
use Rattle.cv_syntax.specs.declared.syntax.Kind.{Kind}
use Rattle.cv_syntax.specs.declared.syntax.Kind.TheVariants as kinds
use Rattle.cv_value.specs.declared.typed.Item.{Item}
use Rattle.cv_value.specs.declared.typed.Item.TheVariants as item_of
use Rattle.cv_value.specs.Items.{item}
use Rattle.cv_value.specs.Text.{item_text}
use Rattle.cv_value_roundtrip.specs.ReadsBack.{itself, ReadsBack, ItemsReadBack}
use Rattle.cv_value_roundtrip.proofs.Given.{mapped_fits}
use Rattle.cv_value_roundtrip.proofs.Measured.{whole, resolution, measured_given, measured_read, length_given, length_read}
use Rattle.cv_value_roundtrip.proofs.Whole.{integer_given, integer_read}
use Rattle.cv_value_roundtrip.proofs.Words.{url_read, string_read, custom_ident_read, literal_read}
use Rattle.cv_value_roundtrip.proofs.Mixed.{length_percentage_back}
use Rattle.cv_value_roundtrip.proofs.Colors.{color_read}

-- an item that is read as it stands
same_back : (k : Kind) (y : Context) (i : Item) → item k y (item_text i) ≡ Fit i → ReadsBack k y i
same_back k y i h = record { back = i; read = h; same = itself refl }

-- a value that reads back, made into an item
made_back : {A : Type 0} (k : Kind) (y : Context) (make : A → Item) (o : Matched A) (i : Item) →
    ((a : A) → o ≡ Fit a → item k y (item_text (make a)) ≡ Fit (make a)) → mapped make o ≡ Fit i → ReadsBack k y i
made_back k y make o i f h =
    let (a, is, same) = mapped_fits make o i h in
    subst (ReadsBack k y) same (same_back k y (make a) (f a is))

pub items_read_back : ItemsReadBack
items_read_back = record { reads = back }
  where
    back : (k : Kind) (x y : Context) (ts : List Token) (i : Item) → item k x ts ≡ Fit i → ReadsBack k y i
    back kinds.Length x y ts i h = made_back kinds.Length y item_of.Length (numeric.length x ts) i
        (λ v is. ap (mapped item_of.Length) (length_read y v (length_given x ts v is))) h
    back kinds.Number x y ts i h = made_back kinds.Number y item_of.Number (numeric.number All x ts) i
        (λ v is. ap (mapped item_of.Number) (measured_read quantity.Number All y v units.Number refl tt refl (measured_given quantity.Number All (whole refl) x ts v is))) h
    back kinds.Percentage x y ts i h = made_back kinds.Percentage y item_of.Percentage (numeric.percentage x ts) i
        (λ v is. ap (mapped item_of.Percentage) (measured_read quantity.Percentage All y v units.Percent refl tt refl (measured_given quantity.Percentage All (whole refl) x ts v is))) h
    back kinds.LengthPercentage x y ts i h = length_percentage_back y x ts i h
    back kinds.Color x y ts i h = made_back kinds.Color y item_of.Color (color x ts) i (λ c is. ap (mapped item_of.Color) (color_read x y ts c is)) h
    back kinds.Url x y ts i h = same_back kinds.Url y i (url_read ts i h)
    back kinds.Integer x y ts i h = made_back kinds.Integer y item_of.Integer (numeric.integer x ts) i
        (λ z is. ap (mapped item_of.Integer) (integer_read y z (integer_given x ts z is))) h
    back kinds.Angle x y ts i h = made_back kinds.Angle y item_of.Angle (numeric.angle x ts) i
        (λ v is. ap (mapped item_of.Angle) (measured_read quantity.Angle All y v units.Deg refl tt refl (measured_given quantity.Angle All (whole refl) x ts v is))) h
    back kinds.Time x y ts i h = made_back kinds.Time y item_of.Time (numeric.time x ts) i
        (λ v is. ap (mapped item_of.Time) (measured_read quantity.Time All y v units.S refl tt refl (measured_given quantity.Time All (whole refl) x ts v is))) h
    back kinds.Resolution x y ts i h = made_back kinds.Resolution y item_of.Resolution (numeric.resolution x ts) i
        (λ v is. ap (mapped item_of.Resolution) (measured_read quantity.Resolution NotNegative y v units.Dppx refl tt refl (measured_given quantity.Resolution NotNegative (resolution refl) x ts v is))) h
    back kinds.Str x y ts i h = same_back kinds.Str y i (string_read ts i h)
    back kinds.CustomIdent x y ts i h = same_back kinds.CustomIdent y i (custom_ident_read ts i h)
    back (kinds.Literal word) x y ts i h = same_back (kinds.Literal word) y i (literal_read word ts i h)
