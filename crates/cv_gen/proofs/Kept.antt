-- The elements of a document are a tree in order, and its texts are short.
use Rattle.std.proofs.Common.{◌≡◌, ◌∙◌, ap, ℕ, ◌-◌, ◌/◌, ◌%◌, ◌<◌, ◌≤◌, ◌==◌, Bool, true, false, ◌++◌, length, None, Some, refl, sym, subst, arith}
use Rattle.std.specs.Prelude.{codes, decimal, map, if◌then◌else◌}
use Rattle.std.specs.List.{range_with_len, slice_index_or}
use Rattle.std.proofs.lemmas.Bool.Decides.{nat_tests}
use Rattle.std.proofs.lemmas.List.FromFn.{length-map-range_with_len, get_or-map-range_with_len}
use Rattle.cv_doc.specs.declared.elements.Elem.{Elem}
use Rattle.cv_doc.specs.Kept.{IsParentOf, IsSound, IsTree, TextsAreWithin}
use Rattle.cv_gen.specs.Generated.{chain, element_of, gen_document, parent_of, style_end, style_of}
use Rattle.cv_gen.proofs.Texts.{length-sheet, length-style_of}

pub count_elements : (n : ℕ) → length (map element_of (range_with_len 0 n)) ≡ n
count_elements n = length-map-range_with_len element_of 0 n

pub element_at : (n i : ℕ) (e : Elem) → i < n → slice_index_or (map element_of (range_with_len 0 n)) i e ≡ element_of i
element_at n i e h = get_or-map-range_with_len element_of 0 n i i e h (omega arith)

-- ---- texts that come again

style_again : (i : ℕ) → 0 < i → style_of i ≡ style_end i
style_again i h = go (i == 0) refl
  where
    go : (b : Bool) → (i == 0) ≡ b → (if b then chain 40 ++ style_end 0 else style_end i) ≡ style_end i
    go true same = absurd (grind (arith, nat_tests))
    go false same = refl

pub style_before : (i : ℕ) (e : Elem) → 41 < i → (slice_index_or (map element_of (range_with_len 0 i)) (i - 41) e).style ≡ style_of i
unfolding style_end
style_before i e h =
    let same : (i - 41) % 41 ≡ i % 41 = omega arith in
    ap (λ (x : Elem). x.style) (element_at i (i - 41) e (omega arith))
    ∙ style_again (i - 41) (omega arith)
    ∙ ap (λ (k : ℕ). codes "width: var(--s" ++ decimal k ++ codes "); padding-left: 1em; font-size: calc(100% + 1px)") same
    ∙ sym (style_again i (omega arith))

-- ---- parents

parent_is : (i : ℕ) → IsParentOf i (parent_of i)
parent_is i = go (i == 0) refl
  where
    none : (i == 0) ≡ true → i ≡ 0
    none h = grind (arith, nat_tests)

    lower : (i == 0) ≡ false → (i - 1) / 2 < i
    lower h = grind (arith, nat_tests)

    go : (b : Bool) → (i == 0) ≡ b → IsParentOf i (if b then None else Some ((i - 1) / 2))
    go true h = none h
    go false h = lower h

tree : (n : ℕ) → IsTree (map element_of (range_with_len 0 n))
tree n = λ i e h. subst (λ (x : Elem). IsParentOf i x.parent) (sym (element_at n i e (omega (arith, count_elements n)))) (parent_is i)

pub gen_is_sound : (n : ℕ) → 1 ≤ n → n ≤ 4096 → IsSound (gen_document n)
gen_is_sound n least most = record {
  width = omega arith;
  height = omega arith;
  some_elements = omega (arith, count_elements n);
  few_elements = omega (arith, count_elements n);
  tree = tree n;
  few_names = tt;
  names = tt;
  few_commands = omega arith;
}

pub gen_is_short : (n : ℕ) → TextsAreWithin 16777216 (gen_document n)
gen_is_short n = record {
  sheet = omega (arith, length-sheet);
  styles = λ i e h. subst (λ (x : Elem). length x.style ≤ 16777216) (sym (element_at n i e (omega (arith, count_elements n)))) (omega (arith, length-style_of i));
}
