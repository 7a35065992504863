-- The value of each answer is the operation on the values.
use Rattle.std.specs.Prelude.{Bool, true, false, List, [], ◌∷◌, ◌++◌, map, fold, Option, Some, None, Result, Ok, Err, if◌then◌else◌}
use Rattle.std.proofs.Common.{◌≡◌, refl, sym, ◌∙◌, ap, ap₂}
use Rattle.std.proofs.lemmas.List.{map-append}
use Rattle.cv_spec_ratio.specs.Ratio.{Ratio, mul, neg, reciprocal}
use Rattle.cv_calc.specs.declared.unit.Unit as units
use Rattle.cv_calc.specs.declared.calc.Calc.{Calc}
use Rattle.cv_calc.specs.declared.calc.Calc.TheVariants.{Num}
use Rattle.cv_calc.specs.Types.{type_of}
use Rattle.cv_calc.specs.Linear.{has_type}
use Rattle.cv_calc.specs.Value.{Meaning, unit_value, value, both}
use Rattle.cv_om.specs.declared.error.OmErr.{OmErr}
use Rattle.cv_om.specs.declared.error.OmErr.TheVariants.{BadType}
use Rattle.cv_om.specs.declared.joining.Joining.{Joining}
use Rattle.cv_om.specs.declared.joining.Joining.TheVariants as joining
use Rattle.cv_om.specs.Refusal.{and_then, answer_map}
use Rattle.cv_om.specs.Arithmetic.{unit_of, number_of, items, node, unit_joined, unit_next, whole_unit, number_joined, number_next, whole_number, united, joined, inverse_of, negated, product_of, quotient_of}
use Rattle.cv_om_laws.specs.Valued.{ValuesAreKept}
use Rattle.cv_om_laws.proofs.Joined.{operation, join, Suits, from_left, join_behind, node_value, items_value, single_is, step}
use Rattle.cv_om_laws.proofs.Turned.{negative_is, inverse_is}
use Rattle.cv_om_laws.proofs.Values.{value-Num}

no_unit : (how : Joining) (cs : List Calc) → fold (unit_next how) None cs ≡ None
no_unit how [] = refl
no_unit joining.Sum (c ∷ cs) = no_unit joining.Sum cs
no_unit joining.Product (c ∷ cs) = no_unit joining.Product cs
no_unit joining.Least (c ∷ cs) = no_unit joining.Least cs
no_unit joining.Greatest (c ∷ cs) = no_unit joining.Greatest cs

no_other : (how : Joining) (u : units.Unit) → unit_joined how (Some u) None ≡ None
no_other joining.Sum u = refl
no_other joining.Product u = refl
no_other joining.Least u = refl
no_other joining.Greatest u = refl

refused : (how : Joining) (z : OmErr) (cs : List Calc) → fold (number_next how) (Err z) cs ≡ Err z
refused how z [] = refl
refused how z (c ∷ cs) = refused how z cs

module _ (m : Meaning) (how : Joining) (suits : Suits how m) where
  abbrev shown : Ratio → units.Unit → Option Ratio
  shown v u = Some (mul v (unit_value m u))

  abbrev FoldIs : List Calc → Type 0
  FoldIs rest = (u w : units.Unit) (v r : Ratio) → fold (unit_next how) (Some u) rest ≡ Some w → fold (number_next how) (Ok v) rest ≡ Ok r →
      fold (both (operation how)) (shown v u) (map (value m) rest) ≡ shown r w

  folded : (rest : List Calc) → FoldIs rest
  folded [] u w v r e f = let s : u ≡ w = cc in let t : v ≡ r = cc in ap₂ (λ x y. Some (mul x (unit_value m y))) t s
  folded (c ∷ rest) u w v r e f = other (unit_of c) refl (folded rest) e f
    where
      third : (t x : units.Unit) → unit_of c ≡ Some t → unit_joined how (Some u) (Some t) ≡ Some x → (q : Result Ratio OmErr) → number_joined how v (number_of c) ≡ q → FoldIs rest →
          fold (unit_next how) (Some x) rest ≡ Some w → fold (number_next how) q rest ≡ Ok r → fold (both (operation how)) (both (operation how) (shown v u) (value m c)) (map (value m) rest) ≡ shown r w
      third t x is j (Ok y) k ih e f =
          ap (λ o. fold (both (operation how)) (both (operation how) (shown v u) o) (map (value m) rest)) (single_is m c t is)
          ∙ ap (λ z. fold (both (operation how)) (Some z) (map (value m) rest)) (step m how suits u t x v (number_of c) y j k) ∙ ih x w y r e f
      third t x is j (Err z) k ih e f = absurd (no (sym (refused how z rest) ∙ f))
        where
          no : ◌≡◌ {A = Result Ratio OmErr} (Err z) (Ok r) → ⊥
          no e = cc

      second : (t : units.Unit) → unit_of c ≡ Some t → (o : Option units.Unit) → unit_joined how (Some u) (Some t) ≡ o → FoldIs rest →
          fold (unit_next how) o rest ≡ Some w → fold (number_next how) (number_joined how v (number_of c)) rest ≡ Ok r → fold (both (operation how)) (both (operation how) (shown v u) (value m c)) (map (value m) rest) ≡ shown r w
      second t is (Some x) j ih e f = third t x is j (number_joined how v (number_of c)) refl ih e f
      second t is None j ih e f = absurd (no (sym (no_unit how rest) ∙ e))
        where
          no : ◌≡◌ {A = Option units.Unit} None (Some w) → ⊥
          no e = cc

      other : (o : Option units.Unit) → unit_of c ≡ o → FoldIs rest →
          fold (unit_next how) (unit_joined how (Some u) o) rest ≡ Some w → fold (number_next how) (number_joined how v (number_of c)) rest ≡ Ok r → fold (both (operation how)) (both (operation how) (shown v u) (value m c)) (map (value m) rest) ≡ shown r w
      other (Some t) is ih e f = second t is (unit_joined how (Some u) (Some t)) refl ih e f
      other None is ih e f = absurd (no (sym (ap (λ o. fold (unit_next how) o rest) (no_other how u) ∙ no_unit how rest) ∙ e))
        where
          no : ◌≡◌ {A = Option units.Unit} None (Some w) → ⊥
          no e = cc

  -- single values that have a unit together
  whole_value : (cs : List Calc) (u : units.Unit) (v : Ratio) → whole_unit how cs ≡ Some u → whole_number how cs ≡ Ok v → join how (map (value m) cs) ≡ shown v u
  whole_value [] u v e f = cc
  whole_value (c ∷ cs) u v e f = go (unit_of c) refl e
    where
      go : (o : Option units.Unit) → unit_of c ≡ o → fold (unit_next how) o cs ≡ Some u → join how (map (value m) (c ∷ cs)) ≡ shown v u
      go (Some t) is e =
          sym (from_left how (value m c) (map (value m) cs)) ∙ ap (λ o. fold (both (operation how)) o (map (value m) cs)) (single_is m c t is) ∙ folded cs t u (number_of c) v e f
      go None is e = absurd (no (sym (no_unit how cs) ∙ e))
        where
          no : ◌≡◌ {A = Option units.Unit} None (Some u) → ⊥
          no e = cc

  united_value : (cs : List Calc) (o : Option units.Unit) (s : Calc) → whole_unit how cs ≡ o → united how cs o ≡ Ok s → value m s ≡ join how (map (value m) cs)
  united_value cs (Some u) s is e = go (whole_number how cs) refl e
    where
      go : (r : Result Ratio OmErr) → whole_number how cs ≡ r → answer_map (λ v. Num v u) r ≡ Ok s → value m s ≡ join how (map (value m) cs)
      go (Ok v) f e = let same : s ≡ Num v u = cc in ap (value m) same ∙ value-Num m v u ∙ sym (whole_value cs u v is f)
      go (Err z) f e = cc
  united_value cs None s is e = go (has_type (type_of (node how cs))) e
    where
      go : (b : Bool) → (if b then Ok (node how cs) else Err BadType) ≡ Ok s → value m s ≡ join how (map (value m) cs)
      go true e = let same : s ≡ node how cs = cc in ap (value m) same ∙ node_value m how cs
      go false e = cc

  pub joined_value : (a b s : Calc) → joined how a b ≡ Ok s → (x y : Ratio) → value m a ≡ Some x → value m b ≡ Some y → value m s ≡ Some (operation how x y)
  unfolding joined
  joined_value a b s e x y h k =
      united_value (items how a ++ b ∷ []) (whole_unit how (items how a ++ b ∷ [])) s refl e ∙ ap (join how) (map-append (value m) (items how a) (b ∷ []))
      ∙ join_behind how (map (value m) (items how a)) x (value m b) (items_value m how a ∙ h) ∙ ap (both (operation how) (Some x)) k

quotient_value : (m : Meaning) (a b s : Calc) → quotient_of a b ≡ Ok s → (x y r : Ratio) → value m a ≡ Some x → value m b ≡ Some y → reciprocal y ≡ Some r → value m s ≡ Some (mul x r)
quotient_value m a b s e x y r h k i = go (inverse_of b) refl e
  where
    go : (o : Result Calc OmErr) → inverse_of b ≡ o → and_then o (product_of a) ≡ Ok s → value m s ≡ Some (mul x r)
    go (Ok d) f e = joined_value m joining.Product tt a d s e x r h (inverse_is m b d f y r k i)
    go (Err z) f e = cc

pub values_are_kept : ValuesAreKept
values_are_kept = record {
  sum = λ m. joined_value m joining.Sum tt;
  difference = λ m a b s e x y h k. joined_value m joining.Sum tt a (negated b) s e x (neg y) h (negative_is m b y k);
  product = λ m. joined_value m joining.Product tt;
  quotient = quotient_value;
  least = λ m h. joined_value m joining.Least h;
  greatest = λ m h. joined_value m joining.Greatest h;
  negative = negative_is;
  inverse = inverse_is;
}
