-- What is found of a node's children one after the other is what its definition says.
use Rattle.std.specs.Prelude.{Bool, true, false, ◌&&◌, ◌||◌, not, List, [], ◌∷◌, fold, length, ◌==◌, Option, Some, None}
use Rattle.std.specs.Option.{option_and_then}
use Rattle.std.proofs.Common.{◌≡◌, ℕ, suc, ◌<◌, refl, sym, ◌∙◌, ap, ap₂, arith}
use Rattle.std.proofs.lemmas.Bool.Decides.{nat_tests}
use Rattle.cv_calc.specs.declared.unit.Base.{Base}
use Rattle.cv_calc.specs.declared.unit.Base.TheVariants.{Length, Angle, Time, Frequency, Resolution, Flex}
use Rattle.cv_calc.specs.declared.unit.NumType.{NumType}
use Rattle.cv_calc.specs.declared.shape.Shape.{Shape}
use Rattle.cv_calc.specs.declared.product.Hinted.{Hinted}
use Rattle.cv_calc.specs.declared.product.Factors.{Factors}
use Rattle.cv_calc.specs.Types.{multiplied_next, shared_next, shared_hint, product_under, product_type}
use Rattle.cv_calc.specs.Linear.{kinds, all_fit, all_numbers, is_measured, added_shape, further_shape, no_child, sum_shape, none_measured, one_measured, product_shape}
use Rattle.cv_calc.specs.Products.{no_factor, with_factor, chosen, no_factors, with_child, factors_shape}

module _ where
  hint_after : (f : Factors) (ss : List Shape) → (fold with_child f ss).hint ≡ fold shared_next f.hint (kinds ss)
  hint_after f [] = refl
  hint_after f (s ∷ ss) = hint_after (with_child f s) ss

  kinds_after : (f : Factors) (ss : List Shape) → (fold with_child f ss).kinds ≡ fold with_factor f.kinds (kinds ss)
  kinds_after f [] = refl
  kinds_after f (s ∷ ss) = kinds_after (with_child f s) ss

  numbers_after : (f : Factors) (ss : List Shape) → (fold with_child f ss).numbers ≡ (f.numbers && all_numbers ss)
  unfolding all_numbers
  numbers_after f [] = and_true f.numbers
    where
      and_true : (b : Bool) → b ≡ (b && true)
      and_true true = refl
      and_true false = refl
  numbers_after f (s ∷ ss) = numbers_after (with_child f s) ss ∙ regroup f.numbers s.numbers (all_numbers ss)
    where
      regroup : (a b c : Bool) → ((a && b) && c) ≡ (a && (b && c))
      regroup true b c = refl
      regroup false b c = refl

-- the type under one hint
module _ where
  plain_after : (p : Hinted) (ts : List (Option NumType)) → (fold with_factor p ts).plain ≡ fold (multiplied_next None) p.plain ts
  plain_after p [] = refl
  plain_after p (t ∷ ts) = plain_after (with_factor p t) ts

  length_after : (p : Hinted) (ts : List (Option NumType)) → (fold with_factor p ts).length ≡ fold (multiplied_next (Some Length)) p.length ts
  length_after p [] = refl
  length_after p (t ∷ ts) = length_after (with_factor p t) ts

  angle_after : (p : Hinted) (ts : List (Option NumType)) → (fold with_factor p ts).angle ≡ fold (multiplied_next (Some Angle)) p.angle ts
  angle_after p [] = refl
  angle_after p (t ∷ ts) = angle_after (with_factor p t) ts

  time_after : (p : Hinted) (ts : List (Option NumType)) → (fold with_factor p ts).time ≡ fold (multiplied_next (Some Time)) p.time ts
  time_after p [] = refl
  time_after p (t ∷ ts) = time_after (with_factor p t) ts

  frequency_after : (p : Hinted) (ts : List (Option NumType)) → (fold with_factor p ts).frequency ≡ fold (multiplied_next (Some Frequency)) p.frequency ts
  frequency_after p [] = refl
  frequency_after p (t ∷ ts) = frequency_after (with_factor p t) ts

  resolution_after : (p : Hinted) (ts : List (Option NumType)) → (fold with_factor p ts).resolution ≡ fold (multiplied_next (Some Resolution)) p.resolution ts
  resolution_after p [] = refl
  resolution_after p (t ∷ ts) = resolution_after (with_factor p t) ts

  flex_after : (p : Hinted) (ts : List (Option NumType)) → (fold with_factor p ts).flex ≡ fold (multiplied_next (Some Flex)) p.flex ts
  flex_after p [] = refl
  flex_after p (t ∷ ts) = flex_after (with_factor p t) ts

chosen_is : (ts : List (Option NumType)) (h : Option (Option Base)) → chosen (fold with_factor no_factor ts) h ≡ option_and_then (product_under ts) h
unfolding product_under
chosen_is ts None = refl
chosen_is ts (Some None) = plain_after no_factor ts
chosen_is ts (Some (Some Length)) = length_after no_factor ts
chosen_is ts (Some (Some Angle)) = angle_after no_factor ts
chosen_is ts (Some (Some Time)) = time_after no_factor ts
chosen_is ts (Some (Some Frequency)) = frequency_after no_factor ts
chosen_is ts (Some (Some Resolution)) = resolution_after no_factor ts
chosen_is ts (Some (Some Flex)) = flex_after no_factor ts

-- how many may still be measured
abbrev room : Bool → List Shape → Bool
room true ss = none_measured ss
room false ss = one_measured ss

room_after : (m o : Bool) (s : Shape) (ss : List Shape) → is_measured s ≡ o → (not (m && o) && room (m || o) ss) ≡ room m (s ∷ ss)
unfolding none_measured one_measured
room_after true true s ss e = rw e refl
room_after true false s ss e = rw e refl
room_after false true s ss e = rw e refl
room_after false false s ss e = rw e refl

fits_after : (f : Factors) (ss : List Shape) → (fold with_child f ss).fits ≡ (f.fits && (all_fit ss && room f.measured ss))
unfolding all_fit none_measured one_measured
fits_after f [] = nothing f.fits f.measured
  where
    nothing : (b m : Bool) → b ≡ (b && room m [])
    nothing true true = refl
    nothing true false = refl
    nothing false m = refl
fits_after f (s ∷ ss) =
    fits_after (with_child f s) ss
    ∙ along f.fits s.fits (f.measured && is_measured s) (f.measured || is_measured s)
    ∙ ap (λ b. f.fits && ((s.fits && all_fit ss) && b)) (room_after f.measured (is_measured s) s ss refl)
  where
    regroup : (a b c d e : Bool) → (((a && b) && c) && (d && e)) ≡ (a && ((b && d) && (c && e)))
    regroup false b c d e = refl
    regroup true false c d e = refl
    regroup true true false true e = refl
    regroup true true false false e = refl
    regroup true true true d e = refl

    along : (a b c m : Bool) → (((a && b) && not c) && (all_fit ss && room m ss)) ≡ (a && ((b && all_fit ss) && (not c && room m ss)))
    along a b c m = regroup a b (not c) (all_fit ss) (room m ss)

no_length : (n : ℕ) → (n == 0) ≡ true → n ≡ 0
no_length n h = grind (arith, nat_tests)

some_length : (n : ℕ) → (n == 0) ≡ false → 0 < n
some_length n h = grind (arith, nat_tests)

pub product_found : (ss : List Shape) → (length ss == 0) ≡ false → factors_shape (fold with_child no_factors ss) ≡ product_shape ss
unfolding product_shape product_type shared_hint product_under
product_found [] h = absurd (omega (arith, some_length 0 h))
product_found (s ∷ ss) h =
    shapes _ _ _ _ _ _
    (ap₂ chosen (kinds_after no_factors (s ∷ ss)) (hint_after no_factors (s ∷ ss)) ∙ chosen_is (kinds (s ∷ ss)) (fold shared_next (Some None) (kinds (s ∷ ss))))
    (fits_after no_factors (s ∷ ss))
    (numbers_after no_factors (s ∷ ss))
  where
    shapes : (k k' : Option NumType) (a a' b b' : Bool) → k ≡ k' → a ≡ a' → b ≡ b' →
        ◌≡◌ {A = Shape} (record { kind = k; fits = a; numbers = b }) (record { kind = k'; fits = a'; numbers = b' })
    shapes k k' a a' b b' e f g = λ i. record { kind = e i; fits = f i; numbers = g i }

pub product_none : (ss : List Shape) → (length ss == 0) ≡ true → no_child ≡ product_shape ss
unfolding product_shape product_type all_fit all_numbers one_measured
product_none [] h = refl
product_none (s ∷ ss) h = absurd (omega (arith, no_length (suc (length ss)) h))

further_all : (s : Shape) (ss : List Shape) → fold further_shape (Some s) ss ≡ Some (fold added_shape s ss)
further_all s [] = refl
further_all s (t ∷ ts) = further_all (added_shape s t) ts

pub sum_none : (ss : List Shape) → fold further_shape None ss ≡ None → no_child ≡ sum_shape ss
unfolding sum_shape
sum_none [] h = refl
sum_none (s ∷ ss) h = absurd_some (sym (further_all s ss) ∙ h)
  where
    absurd_some : Some (fold added_shape s ss) ≡ None → no_child ≡ fold added_shape s ss
    absurd_some e = cc

pub sum_found : (ss : List Shape) (t : Shape) → fold further_shape None ss ≡ Some t → t ≡ sum_shape ss
unfolding sum_shape
sum_found [] t h = cc
sum_found (s ∷ ss) t h = same (sym h ∙ further_all s ss)
  where
    same : Some t ≡ Some (fold added_shape s ss) → t ≡ fold added_shape s ss
    same e = cc
