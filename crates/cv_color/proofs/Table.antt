-- Each name of the table is found with its own number, by a test that computes over the whole table.
use Rattle.std.specs.Prelude.{ℕ, Bool, true, false, not, ◌==◌, ◌&&◌, List, [], ◌∷◌, codes, All, Option, Some, None, option_map, if◌then◌else◌}
use Rattle.std.specs.List.{list_all}
use Rattle.std.proofs.Common.{◌≡◌, refl, ap, arith}
use Rattle.std.proofs.lemmas.List.Elements.{All-nil, All-cons}
use Rattle.std.proofs.lemmas.Bool.Decides.{nat_tests}
use Rattle.cv_spec_text.specs.Keywords.{is_word}
use Rattle.cv_color.specs.declared.color.Color.TheVariants.{Current}
use Rattle.cv_color.specs.Names.{table, coded, opaque, transparent, IsFound}

abbrev is_number : Option ℕ → ℕ → Bool
is_number None n = false
is_number (Some m) n = m == n

abbrev is_found : List ℕ × ℕ → Bool
is_found entry = not (is_word (codes "transparent") entry.0) && (not (is_word (codes "currentcolor") entry.0) && is_number (coded entry.0) entry.1)

same_number : (a b : ℕ) → (a == b) ≡ true → a ≡ b
same_number a b same = grind (arith, nat_tests)

found_by : (t u : Bool) (o : Option ℕ) (n : ℕ) → (not t && (not u && is_number o n)) ≡ true → (if t then Some transparent else (if u then Some Current else option_map opaque o)) ≡ Some (opaque n)
found_by true u o n h = cc
found_by false true o n h = cc
found_by false false None n h = cc
found_by false false (Some m) n h = ap (λ k. Some (opaque k)) (same_number m n h)

found : (entry : List ℕ × ℕ) → is_found entry ≡ true → IsFound entry
found entry h = found_by (is_word (codes "transparent") entry.0) (is_word (codes "currentcolor") entry.0) (coded entry.0) entry.1 h

both : (a b : Bool) → (a && b) ≡ true → (a ≡ true) × (b ≡ true)
both true b h = (refl, h)
both false b h = cc

all_found : (entries : List (List ℕ × ℕ)) → list_all is_found entries ≡ true → All IsFound entries
all_found [] h = All-nil IsFound
all_found (entry ∷ entries) h =
    let (here, there) = both (is_found entry) (list_all is_found entries) h in
    All-cons IsFound entry entries (found entry here) (all_found entries there)

pub table_found : All IsFound table
unfolding table coded
table_found = all_found table refl
