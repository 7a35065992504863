use Rattle.std.proofs.Common.{◌≡◌, ℕ, ◌<◌, length, List, Option, Some, None, refl, sym, ◌∙◌, ap, subst}
use Rattle.std.specs.Prelude.{slice_get, IfSome}
use Rattle.std.proofs.lemmas.Option.{slice_get_within}
use Rattle.cv_valuation.specs.declared.key.Key.TheVariants.{Custom}
use Rattle.cv_props.specs.Declaring.{IsPlaceOf}
use Rattle.cv_props.specs.Winners.{Declarations}
use Rattle.cv_element.specs.Places.{IsFound}
use Rattle.cv_element.specs.Settling.{key_in, key_at}
use Rattle.cv_element.proofs.Placing.{entry_at}
use Rattle.cv_element.proofs.graph.place_of.Goals as goal

found_is : (decls : Declarations) (name : List ℕ) (o : Option ℕ) → IfSome o (λ place. IsPlaceOf decls (Custom name) place) → ((place : ℕ) → IsPlaceOf decls (Custom name) place → o ≡ Some place) → IsFound decls name o
found_is decls name (Some place) here all = (slice_get_within decls place (Custom name, here.0) here.1, ap key_in here.1)
found_is decls name None here all = λ place below same.
    let at = entry_at decls place below in
    let clash : None ≡ Some place = all place (at.1, at.2 ∙ ap (λ k. Some (k, at.1)) (sym at.3 ∙ same)) in
    cc

pub returns : goal.returns
returns c =
    subst (λ k. IfSome c.index_of.result (λ place. IsPlaceOf c.args.decls.now k place) → ((place : ℕ) → IsPlaceOf c.args.decls.now k place → c.index_of.result ≡ Some place) → IsFound c.args.decls.now c.args.name.now c.index_of.result) (ap Custom (sym c.in_ok-copy.ensures)) (found_is c.args.decls.now c.args.name.now c.index_of.result) c.index_of.ensures.only_where c.index_of.ensures.exactly_where
