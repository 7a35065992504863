use Rattle.std.proofs.Common.{◌≡◌, ℕ}
use Rattle.std.specs.Prelude.{◌↔◌, Contains, List}
use Rattle.cv_spec_element.specs.Pieces.{RefersTo}
use Rattle.cv_var.specs.Names.{names_of, firsts}
use Rattle.cv_var.specs.References.{pieces_of}
use Rattle.cv_var.proofs.Cases.{if_ok}
use Rattle.cv_var.proofs.Naming.{names_refer}
use Rattle.cv_var.proofs.declared.Declared.references.Goals as goal

pub returns-clause-refers : goal.returns-clause-refers
returns-clause-refers c =
    if_ok (λ names. names.items ≡ firsts (names_of (pieces_of c.args.self.now))) (λ names. (name : List ℕ) → Contains names.items name ↔ RefersTo (pieces_of c.args.self.now) name) c.references.result
    (λ names is. names_refer (pieces_of c.args.self.now) names.items is) c.references.ensures.names
