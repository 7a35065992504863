-- What is registered once one more rule is read.
use Rattle.std.proofs.Common.{◌≡◌, ℕ, Bool, true, false, cond, ◌||◌, List, [], ◌∷◌, ◌++◌, Option, Some, None, Result, Ok, Err, refl, sym, ap, ◌∙◌, append-nil}
use Rattle.std.specs.Prelude.{bytes_eq}
use Rattle.std.specs.List.{cons_option, list_any}
use Rattle.std.specs.Map.{keys_of, lookup}
use Rattle.std.proofs.lemmas.List.{map-append}
use Rattle.std.proofs.lemmas.List.Elements.{filter_map-append}
use Rattle.std.proofs.lemmas.List.Sums.{fold-append}
use Rattle.std.proofs.lemmas.Slice.Eq.{bytes_eq-Decides}
use Rattle.indexmap.specs.IndexMap.{insert_entry}
use Rattle.cv_component.specs.declared.sheet.Rule.{Rule}
use Rattle.cv_var.specs.Names.{firsts, with_name}
use Rattle.cv_calc.specs.declared.context.Context.{Context}
use Rattle.cv_props.specs.declared.entry.Entry.{Entry}
use Rattle.cv_props.specs.declared.note.Why.{Why}
use Rattle.cv_props.specs.Registered.{Registered, entry_of}
use Rattle.cv_props.specs.Registration.{first_or, last_said, registration, right}
use Rattle.cv_props.specs.Sheets.{entry_for, registered, registered_names, registrations, with_registration}
use Rattle.cv_props.proofs.Said.{last_said-push}

equal_names : (a b : List ℕ) → bytes_eq a b ≡ true → a ≡ b
equal_names a b same = (bytes_eq-Decides a b).0 same

same_name : (a : List ℕ) → bytes_eq a a ≡ true
same_name a = (bytes_eq-Decides a a).1 refl

-- what is found for a name once an entry is put
found_after : {X : Type 0} (es : List (List ℕ × X)) (n : List ℕ) (x : X) (name : List ℕ)
    → lookup (bytes_eq name) (insert_entry bytes_eq es n x) ≡ cond (bytes_eq name n) (Some x) (lookup (bytes_eq name) es)
found_after [] n x name = by (bytes_eq name n)
  where
    by : (b : Bool) → cond b (Some x) None ≡ cond b (Some x) None
    by b = refl
found_after (e ∷ es) n x name = by (bytes_eq n e.0) refl (found_after es n x name)
  where
    by : (b : Bool) → bytes_eq n e.0 ≡ b → lookup (bytes_eq name) (insert_entry bytes_eq es n x) ≡ cond (bytes_eq name n) (Some x) (lookup (bytes_eq name) es)
        → lookup (bytes_eq name) (cond b ((e.0, x) ∷ es) (e ∷ insert_entry bytes_eq es n x)) ≡ cond (bytes_eq name n) (Some x) (cond (bytes_eq name e.0) (Some e.1) (lookup (bytes_eq name) es))
    by true same rest =
        ap (λ k. cond (bytes_eq name k) (Some x) (lookup (bytes_eq name) es)) (sym is)
        ∙ shadowed (bytes_eq name n)
        ∙ ap (λ k. cond (bytes_eq name n) (Some x) (cond (bytes_eq name k) (Some e.1) (lookup (bytes_eq name) es))) is
      where
        is : n ≡ e.0
        is = equal_names n e.0 same

        shadowed : (b : Bool) → cond b (Some x) (lookup (bytes_eq name) es) ≡ cond b (Some x) (cond b (Some e.1) (lookup (bytes_eq name) es))
        shadowed true = refl
        shadowed false = refl
    by false other rest = ap (cond (bytes_eq name e.0) (Some e.1)) rest ∙ swapped (bytes_eq name e.0) (bytes_eq name n) refl refl
      where
        swapped : (a b : Bool) → bytes_eq name e.0 ≡ a → bytes_eq name n ≡ b
            → cond a (Some e.1) (cond b (Some x) (lookup (bytes_eq name) es)) ≡ cond b (Some x) (cond a (Some e.1) (lookup (bytes_eq name) es))
        swapped true true here there =
            let both : n ≡ e.0 = sym (equal_names name n there) ∙ equal_names name e.0 here in
            let is : bytes_eq n e.0 ≡ true = ap (bytes_eq n) (sym both) ∙ same_name n in cc
        swapped true false here there = refl
        swapped false b here there = refl

-- the names once an entry is put
names_after : {X : Type 0} (es : List (List ℕ × X)) (n : List ℕ) (x : X) → keys_of (insert_entry bytes_eq es n x) ≡ with_name (keys_of es) n
names_after [] n x = refl
names_after (e ∷ es) n x = by (bytes_eq n e.0) (list_any (bytes_eq n) (keys_of es)) (names_after es n x)
  where
    by : (b any : Bool) → keys_of (insert_entry bytes_eq es n x) ≡ cond any (keys_of es) (keys_of es ++ n ∷ [])
        → keys_of (cond b ((e.0, x) ∷ es) (e ∷ insert_entry bytes_eq es n x)) ≡ cond (b || any) (e.0 ∷ keys_of es) (e.0 ∷ (keys_of es ++ n ∷ []))
    by true any rest = refl
    by false true rest = ap (λ l. e.0 ∷ l) rest
    by false false rest = ap (λ l. e.0 ∷ l) rest

firsts-push : (names : List (List ℕ)) (n : List ℕ) → firsts (names ++ n ∷ []) ≡ with_name (firsts names) n
firsts-push names n = fold-append with_name [] names (n ∷ [])

module _ (x : Context) (before after : List Rule) (rule : Rule) (is : after ≡ before ++ rule ∷ []) where
  registrations-push : registrations x after ≡ registrations x before ++ cons_option (right (registration x rule)) []
  registrations-push = ap (registrations x) is ∙ filter_map-append (λ r. right (registration x r)) before (rule ∷ [])

  -- what is registered of each name
  pub registered-push : (old : Registered) → ((name : List ℕ) → entry_of old name ≡ registered x before name)
      → (name : List ℕ) → entry_of (with_registration old (registration x rule)) name ≡ registered x after name
  registered-push old same name = by (registration x rule) ∙ sym (ap (last_said (entry_for name)) registrations-push)
    where
      first : (b : Bool) (entry : Entry) (rest : Option Entry) → cond b (Some entry) rest ≡ first_or (cond b (Some entry) None) rest
      first true entry rest = refl
      first false entry rest = refl

      by : (r : Result (List ℕ × Entry) Why) → entry_of (with_registration old r) name ≡ last_said (entry_for name) (registrations x before ++ cons_option (right r) [])
      by (Ok (n, entry)) =
          found_after old n entry name
          ∙ ap (cond (bytes_eq name n) (Some entry)) (same name)
          ∙ first (bytes_eq name n) entry (registered x before name)
          ∙ sym (last_said-push (entry_for name) (registrations x before) (n, entry))
      by (Err why) = same name ∙ ap (last_said (entry_for name)) (sym (append-nil (registrations x before)))

  -- the names, in the order in which they were first registered
  pub names-push : (old : Registered) → keys_of old ≡ registered_names x before → keys_of (with_registration old (registration x rule)) ≡ registered_names x after
  names-push old same = by (registration x rule) ∙ sym (ap (λ l. firsts (keys_of l)) registrations-push)
    where
      by : (r : Result (List ℕ × Entry) Why) → keys_of (with_registration old r) ≡ firsts (keys_of (registrations x before ++ cons_option (right r) []))
      by (Ok (n, entry)) =
          names_after old n entry
          ∙ ap (λ names. with_name names n) same
          ∙ sym (ap firsts (map-append (λ e. e.0) (registrations x before) ((n, entry) ∷ [])) ∙ firsts-push (keys_of (registrations x before)) n)
      by (Err why) = same ∙ ap (λ l. firsts (keys_of l)) (sym (append-nil (registrations x before)))
