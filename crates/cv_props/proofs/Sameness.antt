-- Parts of what is remembered that are the same.
use Rattle.std.proofs.Common.{◌≡◌, ℕ, ◌==◌, List, true, ℤ, pos, ap, sym, ◌∙◌, subst}
use Rattle.std.specs.Prelude.{Option, Some, Result, Ok, bytes_eq}
use Rattle.std.specs.Ordering.{int_eq}
use Rattle.std.specs.Cmp.{signed_Decides, unsigned_Decides}
use Rattle.cv_spec_text.specs.declared.token.Token.{Token}
use Rattle.cv_spec_ratio.specs.Ratio.{Ratio}
use Rattle.cv_frac.specs.Bounded.{of_numbers}
use Rattle.cv_frac.specs.declared.error.FracErr.{FracErr}
use Rattle.cv_calc.specs.declared.context.Context.{Context}
use Rattle.cv_value.specs.declared.typed.Typed.{Typed}
use Rattle.cv_property.specs.declared.property.Property.{Property}
use Rattle.cv_property.specs.Table.{number_of, numbered}
use Rattle.cv_property.specs.TableLaws.{TableIsFound}
use Rattle.cv_props.specs.Remembered.{IsValueOf}
use Rattle.std.proofs.lemmas.Slice.Eq.{bytes_eq-Decides}

pub same_texts : (a b : List ℕ) → bytes_eq a b ≡ true → a ≡ b
same_texts a b = (bytes_eq-Decides a b).0

pub same_fractions : (a b : Ratio) → int_eq a.top b.top ≡ true → int_eq (pos a.bottom) (pos b.bottom) ≡ true → of_numbers a.top (pos a.bottom) ≡ Ok a → of_numbers b.top (pos b.bottom) ≡ Ok b → a ≡ b
same_fractions a b tops bottoms back back' =
    let top : a.top ≡ b.top = (signed_Decides a.top b.top).0 tops in
    let bottom : pos a.bottom ≡ pos b.bottom = (signed_Decides (pos a.bottom) (pos b.bottom)).0 bottoms in
    let both : Ok a ≡ Ok b = sym back ∙ ap (λ t. of_numbers t (pos a.bottom)) top ∙ ap (of_numbers b.top) bottom ∙ back' in
    cc

pub same_properties : TableIsFound → (a b : Property) → (number_of a == number_of b) ≡ true → a ≡ b
same_properties found a b same =
    let numbers : number_of a ≡ number_of b = (unsigned_Decides (number_of a) (number_of b)).0 same in
    let both : Some a ≡ Some b = sym (found.numbered_so a) ∙ ap numbered numbers ∙ found.numbered_so b in
    cc

-- the value of a list is the value of the same list
pub same_value : (p q : Property) (x y : Context) (list other : List Token) (v : Typed) → IsValueOf p x list v → p ≡ q → x ≡ y → list ≡ other → IsValueOf q y other v
same_value p q x y list other v is properties contexts lists =
    subst (λ (r : Property). IsValueOf r y other v) properties
    (subst (λ (z : Context). IsValueOf p z other v) contexts
    (subst (λ (l : List Token). IsValueOf p x l v) lists is))
