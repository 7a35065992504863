use Rattle.std.proofs.Common.{◌∙◌, sym, subst}
use Rattle.std.specs.Prelude.{IfSome}
use Rattle.cv_props.specs.Declaring.{IsPlaceOf}
use Rattle.cv_props.proofs.Places.{found_placed, placed_found}
use Rattle.cv_props.proofs.decls.Decls.index_of.Goals as goal

pub returns-clause-only_where : goal.returns-clause-only_where
returns-clause-only_where c =
    subst (λ es. IfSome c.get_index_of.result (λ place. IsPlaceOf es c.args.key.now place)) c.self.view_is
    (found_placed c.self.inside.declarations.entries c.args.key.now c.get_index_of.result c.get_index_of.ensures.index)

pub returns-clause-exactly_where : goal.returns-clause-exactly_where
returns-clause-exactly_where c place at =
    c.get_index_of.ensures.index
    ∙ placed_found c.self.inside.declarations.entries c.args.key.now place c.get_index_of.ensures.unique (subst (λ es. IsPlaceOf es c.args.key.now place) (sym c.self.view_is) at)
