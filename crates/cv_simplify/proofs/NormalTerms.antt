-- The numbers and the other terms of a row, term after term; a simplified calculation has each unit once.
use Rattle.std.specs.Prelude.{ℕ, ◌+◌, ◌-◌, ◌≤◌, ◌≢◌, Bool, true, false, List, [], ◌∷◌, ◌++◌, length, reverse, Some, if◌then◌else◌}
use Rattle.std.specs.List.{AllByRecursion}
use Rattle.std.proofs.Common.{◌≡◌, refl, sym, ◌∙◌, ap, arith}
use Rattle.std.proofs.lemmas.List.{append_assoc, length-append, reverse-append}
use Rattle.std.proofs.lemmas.List.Elements.{All-from_recursion}
use Rattle.cv_spec_ratio.specs.Ratio.{Ratio}
use Rattle.cv_calc.specs.declared.unit.Unit as units
use Rattle.cv_calc.specs.declared.context.Context.{Context}
use Rattle.cv_calc.specs.declared.calc.Calc.{Calc}
use Rattle.cv_calc.specs.declared.calc.Calc.TheOpen.{Calc-F, Num}
use Rattle.cv_calc.specs.declared.calc.Calc.TheViews.{out-Calc, roll-Calc, roll-out-Calc}
use Rattle.cv_calc.specs.Unit.{same_unit}
use Rattle.cv_simplify.specs.Simplified.{terms_of, simp}
use Rattle.cv_simplify.specs.Normal.{Measure, with_number, numbers_among, with_other, others_among, number_terms, EachUnitOnce}
use Rattle.cv_simplify.proofs.Apart.{Known, same_kind, none_of, differ, known-roll, kind, kinds_of, and_true}
use Rattle.cv_simplify.proofs.Settled.{terms_settled, simp_settled}
use Rattle.cv_simplify.proofs.UnitRanks.{same_self}

-- ---- a further term

number_first : (l : Calc-F Calc) (ms : List Measure) → with_number l ms ≡ with_number l [] ++ ms
number_first (Num v u) ms = refl
number_first _ ms = refl

other_first : (n : ℕ) (c : Calc) (l : Calc-F Calc) (ps : List (ℕ × Calc)) → with_other n c l ps ≡ with_other n c l [] ++ ps
other_first n c (Num v u) ps = refl
other_first n c _ ps = refl

pub numbers_more : (done next : List Measure) (t : Calc) (old rest : List Calc) (all : List Measure) → old ≡ rest ++ t ∷ [] → next ≡ done ++ with_number (out-Calc t) [] →
    done ++ numbers_among (reverse old) ≡ all → next ++ numbers_among (reverse rest) ≡ all
numbers_more done next t old rest all is made before =
    ap (λ ms. ms ++ numbers_among (reverse rest)) made
    ∙ append_assoc done (with_number (out-Calc t) []) (numbers_among (reverse rest))
    ∙ ap (λ ms. done ++ ms) (sym (number_first (out-Calc t) (numbers_among (reverse rest))))
    ∙ ap (λ cs. done ++ numbers_among cs) (sym (reverse-append rest (t ∷ [])) ∙ ap (λ (cs : List Calc). reverse cs) (sym is))
    ∙ before

pub others_more : (done next : List (ℕ × Calc)) (t : Calc) (old rest : List Calc) (all : List (ℕ × Calc)) (count : ℕ) → old ≡ rest ++ t ∷ [] → length old ≤ count →
    next ≡ done ++ with_other (count - 1 - length rest) t (out-Calc t) [] →
    done ++ others_among (count - length old) (reverse old) ≡ all → next ++ others_among (count - length rest) (reverse rest) ≡ all
others_more done next t old rest all count is small made before =
    ap (λ ps. ps ++ others_among (count - length rest) (reverse rest)) made
    ∙ append_assoc done (with_other (count - 1 - length rest) t (out-Calc t) []) (others_among (count - length rest) (reverse rest))
    ∙ ap (λ ps. done ++ ps) (sym (other_first (count - 1 - length rest) t (out-Calc t) (others_among (count - length rest) (reverse rest))))
    ∙ ap (λ n. done ++ with_other (count - 1 - length rest) t (out-Calc t) (others_among n (reverse rest))) (later count (length rest) (longer is small))
    ∙ ap (λ n. done ++ others_among n (t ∷ reverse rest)) (here count (length rest) (length old) (lengths is))
    ∙ ap (λ cs. done ++ others_among (count - length old) cs) (sym (reverse-append rest (t ∷ [])) ∙ ap (λ (cs : List Calc). reverse cs) (sym is))
    ∙ before
  where
    lengths : old ≡ rest ++ t ∷ [] → length old ≡ length rest + 1
    lengths e = ap length e ∙ length-append rest (t ∷ [])

    longer : old ≡ rest ++ t ∷ [] → length old ≤ count → length rest + 1 ≤ count
    longer e h = omega (arith, lengths e, h)

    later : (n k : ℕ) → k + 1 ≤ n → n - k ≡ n - 1 - k + 1
    later n k h = omega (arith, h)

    here : (n k l : ℕ) → l ≡ k + 1 → n - 1 - k ≡ n - l
    here n k l e = omega (arith, e)

pub rest_within : (old rest : List Calc) (t : Calc) (count : ℕ) → old ≡ rest ++ t ∷ [] → length old ≤ count → length rest ≤ count
rest_within old rest t count is h = omega (arith, ap length is ∙ length-append rest (t ∷ []), h)

pub place_within : (old rest : List Calc) (t : Calc) (count : ℕ) → old ≡ rest ++ t ∷ [] → length old ≤ count → (1 ≤ count) × (length rest ≤ count - 1)
place_within old rest t count is h = (omega (arith, ap length is ∙ length-append rest (t ∷ []), h), omega (arith, ap length is ∙ length-append rest (t ∷ []), h))

-- ---- each unit once

abbrev lacks : Measure → List Measure → Type 0
lacks m ms = AllByRecursion (λ n. n.1 ≢ m.1) ms

none_lack : (v : Ratio) (u : units.Unit) (cs : List Calc) → none_of (Some u) (kinds_of cs) ≡ true → lacks (v, u) (numbers_among cs)
none_lack v u [] h = tt
none_lack v u (c ∷ cs) h = go (same_kind (Some u) (kind c)) refl (λ k. none_lack v u cs k) h
  where
    differs : (b : Bool) → b ≡ false → b ≡ true → ⊥
    differs b e f = cc

    other : (l : Calc-F Calc) → roll-Calc l ≡ c → same_kind (Some u) (kind c) ≡ false → lacks (v, u) (numbers_among cs) → lacks (v, u) (with_number l (numbers_among cs))
    other (Num w t) p is more =
        (λ e. differs (same_unit u t) (ap (same_kind (Some u)) (sym (ap (λ (k : Known). k.kind) (known-roll (Num w t))) ∙ ap kind p) ∙ is) (ap (same_unit u) e ∙ same_self u), more)
    other _ p is more = more

    go : (b : Bool) → same_kind (Some u) (kind c) ≡ b → (none_of (Some u) (kinds_of cs) ≡ true → lacks (v, u) (numbers_among cs)) → (if b then false else none_of (Some u) (kinds_of cs)) ≡ true → lacks (v, u) (with_number (out-Calc c) (numbers_among cs))
    go true is later h = cc
    go false is later h = other (out-Calc c) (roll-out-Calc c) is (later h)

once_of : (cs : List Calc) → differ (kinds_of cs) ≡ true → EachUnitOnce (numbers_among cs)
once_of [] h = tt
once_of (c ∷ cs) h =
    let parts = and_true (none_of (kind c) (kinds_of cs)) (differ (kinds_of cs)) h in
    go (out-Calc c) (roll-out-Calc c) parts.0 (once_of cs parts.1)
  where
    go : (l : Calc-F Calc) → roll-Calc l ≡ c → none_of (kind c) (kinds_of cs) ≡ true → EachUnitOnce (numbers_among cs) → EachUnitOnce (with_number l (numbers_among cs))
    go (Num v u) p h more =
        (All-from_recursion (λ n. n.1 ≢ u) (numbers_among cs) (none_lack v u cs (ap (λ k. none_of k (kinds_of cs)) (sym (ap (λ (k : Known). k.kind) (known-roll (Num v u))) ∙ ap kind p) ∙ h)), more)
    go _ p h more = more

pub simplified_once : (x : Context) (c : Calc) → EachUnitOnce (number_terms (simp x c))
simplified_once x c = once_of (terms_of (simp x c)) (terms_settled (simp x c) (simp_settled x c)).1
