-- Places that are kept in the front of a list.
use Rattle.std.proofs.Common.{◌⊎◌, ap, List, arith, get_or, inl, inr, length, set, sym, zero, suc, ℕ, ◌+◌, ◌-◌, ◌<◌, ◌↔◌, ◌∙◌, ◌≡◌, ◌≢◌, ◌≤◌, subst}
use Rattle.std.proofs.lemmas.Bool.{cases_eq}
use Rattle.std.proofs.lemmas.List.{get_or-set_same, get_or-set_other}
use Rattle.std.proofs.lemmas.Grind.{get_or-set_at}
use Rattle.cv_cycle.specs.Marks.{StandsIn}
use Rattle.cv_cycle.specs.Search.{Rises}

-- the places of a stack that is kept in a list, after one more was written
pub StandsIn-push : (places : List ℕ) (height place : ℕ) → height < length places → (i : ℕ) → (StandsIn places 0 height i ⊎ (i ≡ place)) ↔ StandsIn (set places height place) 0 (height + 1) i
StandsIn-push places height place room i = (to, from)
  where
    to : StandsIn places 0 height i ⊎ (i ≡ place) → StandsIn (set places height place) 0 (height + 1) i
    to (inl stands) =
        let apart : stands.0 ≢ height = omega (arith, stands.2) in
        (stands.0, stands.1, omega (arith, stands.2), get_or-set_other places height stands.0 place 0 apart ∙ stands.3)
    to (inr same) = (height, omega arith, omega arith, get_or-set_same places height place 0 room ∙ sym same)

    from : StandsIn (set places height place) 0 (height + 1) i → StandsIn places 0 height i ⊎ (i ≡ place)
    from stands =
        elim (cases_eq stands.0 height) [
          | inl last ↦ inr (sym stands.3 ∙ get_or-set_at places height stands.0 place 0 last room)
          | inr apart ↦
              let lower : stands.0 < height = omega (arith, stands.2) in
              inl (stands.0, stands.1, lower, sym (get_or-set_other places height stands.0 place 0 apart) ∙ stands.3)
        ]

pub Rises-fewer : (places : List ℕ) (height fewer : ℕ) → fewer ≤ height → Rises places height → Rises places fewer
Rises-fewer places height fewer below rises a b order bound = rises a b order (omega arith)

pub Rises-push : (places : List ℕ) (height place : ℕ) → height < length places → Rises places height → ((a : ℕ) → a < height → get_or places a 0 < place) → Rises (set places height place) (height + 1)
Rises-push places height place room rises above a b order bound =
    elim (cases_eq b height) [
      | inl last ↦
          let value : get_or (set places height place) b 0 ≡ place = get_or-set_at places height b place 0 last room in
          let other : get_or (set places height place) a 0 ≡ get_or places a 0 = get_or-set_other places height a place 0 (omega arith) in
          let lower : get_or places a 0 < place = above a (omega arith) in
          omega (arith, value, other, lower)
      | inr apart ↦
          let first : get_or (set places height place) a 0 ≡ get_or places a 0 = get_or-set_other places height a place 0 (omega arith) in
          let second : get_or (set places height place) b 0 ≡ get_or places b 0 = get_or-set_other places height b place 0 apart in
          let lower : get_or places a 0 < get_or places b 0 = rises a b order (omega arith) in
          omega (arith, first, second, lower)
    ]

-- a place that rises so often is not below its number
pub Rises-least : (places : List ℕ) (height : ℕ) → Rises places height → (a : ℕ) → a < height → a ≤ get_or places a 0
Rises-least places height rises zero below = omega arith
Rises-least places height rises (suc a) below =
    let before : a ≤ get_or places a 0 = Rises-least places height rises a (omega arith) in
    let more : get_or places a 0 < get_or places (suc a) 0 = rises a (suc a) (omega arith) below in
    omega (arith, before, more)

pub Rises-upto : (places : List ℕ) (height : ℕ) → Rises places height → (a b : ℕ) → a ≤ b → b < height → get_or places a 0 ≤ get_or places b 0
Rises-upto places height rises a b order below =
    elim (cases_eq a b) [
      | inl same ↦ subst (λ c. get_or places a 0 ≤ get_or places c 0) same (omega arith)
      | inr apart ↦ let more : get_or places a 0 < get_or places b 0 = rises a b (omega arith) below in omega (arith, more)
    ]

-- the places after the last was taken off
pub StandsIn-shorter : (places : List ℕ) (height : ℕ) → 0 < height → Rises places height → (i : ℕ) → (StandsIn places 0 height i × (i < get_or places (height - 1) 0)) ↔ StandsIn places 0 (height - 1) i
StandsIn-shorter places height high rises i = (to, from)
  where
    to : StandsIn places 0 height i × (i < get_or places (height - 1) 0) → StandsIn places 0 (height - 1) i
    to (stands, below) =
        elim (cases_eq stands.0 (height - 1)) [
          | inl last ↦ absurd (let same : get_or places (height - 1) 0 ≡ i = ap (λ a. get_or places a 0) (sym last) ∙ stands.3 in omega arith)
          | inr apart ↦ (stands.0, stands.1, omega (arith, stands.2), stands.3)
        ]

    from : StandsIn places 0 (height - 1) i → StandsIn places 0 height i × (i < get_or places (height - 1) 0)
    from stands =
        let below : get_or places stands.0 0 < get_or places (height - 1) 0 = rises stands.0 (height - 1) stands.2 (omega arith) in
        ((stands.0, stands.1, omega (arith, stands.2), stands.3), omega (arith, below, stands.3))
