use Rattle.std.proofs.Common.{◌≡◌, ℕ, List, [], ◌∷◌, ◌++◌, sym, ◌∙◌, ap}
use Rattle.std.specs.Prelude.{fold, bytes_eq, true, if◌then◌else◌, Bool}
use Rattle.std.specs.List.{list_any}
use Rattle.cv_var.specs.Flat.{flat}
use Rattle.cv_var.specs.Names.{with_name, names_in}
use Rattle.cv_var.proofs.names.add_name.Goals as goal

kept : (names : List (List ℕ)) (name : List ℕ) → list_any (bytes_eq name) names ≡ true → names ≡ with_name names name
kept names name is = ap (λ (b : Bool). if b then names else names ++ name ∷ []) (sym is)

pub returns-in_ok-insert : goal.returns-in_ok-insert
returns-in_ok-insert c =
    c.in_ok-insert.ensures.keys
    ∙ ap (with_name c.args.names.now.keys) c.in_ok-copy.ensures
    ∙ ap (λ part. fold with_name c.args.names.now.keys (names_in (flat part ∷ []))) (sym c.in-Reference.is)

pub returns-else-not-contains : goal.returns-else-not-contains
returns-else-not-contains c =
    kept c.args.names.now.keys c.in-Reference.name.now (sym c.contains.ensures ∙ c.if-not-contains.false)
    ∙ ap (λ part. fold with_name c.args.names.now.keys (names_in (flat part ∷ []))) (sym c.in-Reference.is)
