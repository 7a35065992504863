-- What holds of a list by its tokens holds of its parts.
use Rattle.std.specs.Prelude.{◌≡◌, ℕ, zero, suc, Bool, true, false, List, [], ◌∷◌, ◌++◌, map, take, drop, reverse, if◌then◌else◌}
use Rattle.std.specs.List.{list_all, AllByRecursion as Every}
use Rattle.std.proofs.Common.{refl, sym, subst}
use Rattle.std.proofs.lemmas.List.{reverse-append}
use Rattle.cv_spec_text.specs.declared.token.Bracket.{Bracket}
use Rattle.cv_spec_text.specs.declared.token.Token.{Token}
use Rattle.cv_spec_text.specs.declared.token.Token.TheVariants.{White}
use Rattle.cv_component.specs.Nesting.{nesting_after}
use Rattle.cv_component.specs.TopLevel.{trim_front}
use Rattle.cv_component.specs.Parts.{longer, parts_within, parts, with_filled, filled, trim}
use Rattle.cv_calc_laws.proofs.Lists.{and_both, both_are}

-- it holds of a list where each token has a property
pub record ByTokens (G : Token → Type 0) (P : List Token → Type 0) : Type 0 where
  pub nothing : P []
  pub more : (t : Token) (ts : List Token) → G t → P ts → P (t ∷ ts)
  pub apart : (t : Token) (ts : List Token) → P (t ∷ ts) → G t × P ts

pub by_test : (test : Token → Bool) → ByTokens (λ t. test t ≡ true) (λ ts. list_all test ts ≡ true)
by_test test = record {
  nothing = refl;
  more = λ t ts h k. both_are (test t) (list_all test ts) h k;
  apart = λ t ts h. and_both (test t) (list_all test ts) h;
}

pub by_any : ByTokens (λ t. Unit {0}) (λ ts. Unit {0})
by_any = record { nothing = tt; more = λ t ts h k. tt; apart = λ t ts h. (tt, tt) }

module _ (G : Token → Type 0) (P : List Token → Type 0) (by : ByTokens G P) where
  pub joined_pass : (xs ys : List Token) → P xs → P ys → P (xs ++ ys)
  joined_pass [] ys h k = k
  joined_pass (x ∷ xs) ys h k = let (first, rest) = by.apart x xs h in by.more x (xs ++ ys) first (joined_pass xs ys rest k)

  pub take_pass : (n : ℕ) (ts : List Token) → P ts → P (take n ts)
  take_pass zero ts h = by.nothing
  take_pass (suc n) [] h = by.nothing
  take_pass (suc n) (t ∷ ts) h = let (first, rest) = by.apart t ts h in by.more t (take n ts) first (take_pass n ts rest)

  pub drop_pass : (n : ℕ) (ts : List Token) → P ts → P (drop n ts)
  drop_pass zero ts h = h
  drop_pass (suc n) [] h = by.nothing
  drop_pass (suc n) (t ∷ ts) h = drop_pass n ts (by.apart t ts h).1

  -- ---- parts

  longer_pass : (t : Token) (ps : List (List Token)) → G t → Every P ps → Every P (longer t ps)
  longer_pass t [] h k = tt
  longer_pass t (p ∷ ps) h k = (by.more t p h k.0, k.1)

  within_pass : (ends : Token → Bool) (nesting : List Bracket) (ts : List Token) → P ts → Every P (parts_within ends nesting ts)
  within_pass ends [] [] h = (by.nothing, tt)
  within_pass ends (inner ∷ outer) [] h = (by.nothing, tt)
  within_pass ends [] (t ∷ ts) h =
      let (first, rest) = by.apart t ts h in
      let nested : Every P (longer t (parts_within ends (nesting_after [] t) ts)) =
      longer_pass t (parts_within ends (nesting_after [] t) ts) first (within_pass ends (nesting_after [] t) ts rest) in
      split (ends t) ([] ∷ parts_within ends [] ts) (longer t (parts_within ends (nesting_after [] t) ts)) (by.nothing, within_pass ends [] ts rest) nested
    where
      split : (b : Bool) (ps qs : List (List Token)) → Every P ps → Every P qs → Every P (if b then ps else qs)
      split true ps qs h k = h
      split false ps qs h k = k
  within_pass ends (inner ∷ outer) (t ∷ ts) h =
      let (first, rest) = by.apart t ts h in
      longer_pass t (parts_within ends (nesting_after (inner ∷ outer) t) ts) first (within_pass ends (nesting_after (inner ∷ outer) t) ts rest)

  pub parts_pass : (ends : Token → Bool) (ts : List Token) → P ts → Every P (parts ends ts)
  unfolding parts
  parts_pass ends ts h = within_pass ends [] ts h

  with_filled_pass : (p : List Token) (ps : List (List Token)) → P p → Every P ps → Every P (with_filled p ps)
  with_filled_pass [] ps h k = k
  with_filled_pass (t ∷ ts) ps h k = (h, k)

  pub filled_pass : (ps : List (List Token)) → Every P ps → Every P (filled ps)
  filled_pass [] h = tt
  filled_pass (p ∷ ps) h = with_filled_pass p (filled ps) h.0 (filled_pass ps h.1)

  -- ---- without whitespace at the ends

  pub front_pass : (ts : List Token) → P ts → P (trim_front ts)
  front_pass [] h = by.nothing
  front_pass (White ∷ ts) h = front_pass ts (by.apart White ts h).1
  front_pass (t ∷ ts) h = h

  reverse_pass : (ts : List Token) → P ts → P (reverse ts)
  reverse_pass [] h = by.nothing
  reverse_pass (t ∷ ts) h =
      let (first, rest) = by.apart t ts h in
      subst P (sym (reverse-append (t ∷ []) ts)) (joined_pass (reverse ts) (t ∷ []) (reverse_pass ts rest) (by.more t [] first by.nothing))

  pub trim_pass : (ts : List Token) → P ts → P (trim ts)
  trim_pass ts h = reverse_pass (trim_front (reverse (trim_front ts))) (front_pass (reverse (trim_front ts)) (reverse_pass (trim_front ts) (front_pass ts h)))

  pub trims_pass : (ps : List (List Token)) → Every P ps → Every P (map trim ps)
  trims_pass [] h = tt
  trims_pass (p ∷ ps) h = (trim_pass p h.0, trims_pass ps h.1)
