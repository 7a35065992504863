-- A name without escapes is its ident code points.
use Rattle.std.proofs.Common.{◌≡◌, ℕ, suc, ◌+◌, Bool, true, false, List, [], ◌∷◌, ◌++◌, drop, take, refl, sym, ◌∙◌, ap, subst, arith}
use Rattle.std.specs.Prelude.{◌==◌, if◌then◌else◌}
use Rattle.std.specs.List.{prefix_len}
use Rattle.std.proofs.lemmas.Bool.{eqb-true}
use Rattle.cv_spec_text.specs.Characters.{reverse_solidus, is_ident_code_point}
use Rattle.cv_spec_text.specs.Names.{begins_escape, name_piece_length, name_piece_value, name_length, name_value}
use Rattle.cv_spec_text.proofs.Runs.{run_length-nil, run_values-nil, run_length-more, run_values-more, run_length-end, run_values-end}

not_solidus : (c : ℕ) → is_ident_code_point c ≡ true → (c == reverse_solidus) ≡ false
not_solidus c ident = by (c == reverse_solidus) refl
  where
    by : (b : Bool) → (c == reverse_solidus) ≡ b → b ≡ false
    by false is = refl
    by true is = let same : c ≡ reverse_solidus = eqb-true c reverse_solidus is in absurd (let wrong : is_ident_code_point reverse_solidus ≡ true = subst (λ n. is_ident_code_point n ≡ true) same ident in cc)

no_escape : (c : ℕ) (cs : List ℕ) → is_ident_code_point c ≡ true → begins_escape (c ∷ cs) ≡ false
no_escape c cs ident = rw (not_solidus c ident) refl

plain_piece : (c : ℕ) (cs : List ℕ) → is_ident_code_point c ≡ true → name_piece_length (c ∷ cs) ≡ 1
unfolding name_piece_length
plain_piece c cs ident = rw ident refl

plain_value : (c : ℕ) (cs : List ℕ) → is_ident_code_point c ≡ true → name_piece_value (c ∷ cs) ≡ c ∷ []
unfolding name_piece_value
plain_value c cs ident = rw (no_escape c cs ident) refl

no_piece : (c : ℕ) (cs : List ℕ) → is_ident_code_point c ≡ false → begins_escape (c ∷ cs) ≡ false → name_piece_length (c ∷ cs) ≡ 0
unfolding name_piece_length
no_piece c cs other none = rw (other, none) refl

-- the name of these code points is those of them that stand at the front
pub record IsPlain (text : List ℕ) (size : ℕ) : Type 0 where
  pub value : take size text ≡ name_value text
  pub size_is : size ≡ name_length text

longer : (c : ℕ) (cs : List ℕ) (n : ℕ) → is_ident_code_point c ≡ true → IsPlain cs n → IsPlain (c ∷ cs) (suc n)
longer c cs n ident more = record {
  value =
      ap (λ (rest : List ℕ). c ∷ rest) more.value
      ∙ ap (λ (first : List ℕ). first ++ name_value cs) (sym (plain_value c cs ident))
      ∙ sym (run_values-more name_piece_length name_piece_value 1 (c ∷ cs) (plain_piece c cs ident) (omega arith) (omega arith));
  size_is = omega (arith, more.size_is, run_length-more name_piece_length 1 (c ∷ cs) (plain_piece c cs ident) (omega arith) (omega arith));
}

ended : (c : ℕ) (cs : List ℕ) → is_ident_code_point c ≡ false → begins_escape (c ∷ cs) ≡ false → IsPlain (c ∷ cs) 0
ended c cs other none = record {
  value = sym (run_values-end name_piece_length name_piece_value (c ∷ cs) (no_piece c cs other none));
  size_is = sym (run_length-end name_piece_length (c ∷ cs) (no_piece c cs other none));
}

one_more : (n : ℕ) → 1 + n ≡ suc n
one_more n = omega arith

pub plain_name : (text : List ℕ) → begins_escape (drop (prefix_len is_ident_code_point text) text) ≡ false → IsPlain text (prefix_len is_ident_code_point text)
plain_name [] none = record { value = sym (run_values-nil name_piece_length name_piece_value); size_is = sym (run_length-nil name_piece_length) }
plain_name (c ∷ cs) none = by (λ rest. plain_name cs rest) (is_ident_code_point c) refl none
  where
    by : (begins_escape (drop (prefix_len is_ident_code_point cs) cs) ≡ false → IsPlain cs (prefix_len is_ident_code_point cs)) → (b : Bool) → is_ident_code_point c ≡ b
        → begins_escape (drop (if b then 1 + prefix_len is_ident_code_point cs else 0) (c ∷ cs)) ≡ false → IsPlain (c ∷ cs) (if b then 1 + prefix_len is_ident_code_point cs else 0)
    by shorter true ident none =
        let n = prefix_len is_ident_code_point cs in
        let behind : begins_escape (drop n cs) ≡ false = subst (λ k. begins_escape (drop k (c ∷ cs)) ≡ false) (one_more n) none in
        subst (IsPlain (c ∷ cs)) (sym (one_more n)) (longer c cs n ident (shorter behind))
    by shorter false other none = ended c cs other none
