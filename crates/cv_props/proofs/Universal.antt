-- A list that is an initial value of the universal syntax.
use Rattle.std.proofs.Common.{◌≡◌, Bool, true, false, refl}
use Rattle.std.specs.Prelude.{All, List, ◌&&◌, not}
use Rattle.cv_spec_text.specs.Splits.{IsSpelt}
use Rattle.cv_spec_text.specs.declared.token.Token.{Token}
use Rattle.cv_component.specs.Parts.{trim}
use Rattle.cv_var.specs.References.{has_var}
use Rattle.cv_var.specs.Values.{is_value}
use Rattle.cv_value_laws.specs.Values.{is_keyword}
use Rattle.cv_props.specs.Registered.{IsUniversal}
use Rattle.cv_props.specs.Registration.{is_universal_value}

no_var : (a b c : Bool) → (a && not b && not c) ≡ true → b ≡ false
no_var true false c is = refl
no_var true true c is = cc
no_var false b c is = cc

none : (a b c : Bool) → (a && not b && not c) ≡ true → c ≡ false
none true false false is = refl
none true false true is = cc
none true true c is = cc
none false b c is = cc

pub universal : (list : List Token) → All IsSpelt list → is_universal_value list ≡ true → IsUniversal list
universal list spelt is = record {
  spelt = spelt;
  without_var = no_var (is_value list) (has_var list) (is_keyword (trim list)) is;
  no_keyword = none (is_value list) (has_var list) (is_keyword (trim list)) is;
}
