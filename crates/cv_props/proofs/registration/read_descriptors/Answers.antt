use Rattle.std.proofs.Common.{sym, subst, ◌∙◌, map, true, ◌≡◌}
use Rattle.std.specs.Prelude.{IfSome}
use Rattle.cv_spec_text.specs.Keywords.{is_custom}
use Rattle.cv_component.specs.Shared.{piece_of}
use Rattle.cv_syntax.specs.Told.{has_no_keyword}
use Rattle.cv_props.specs.Registered.{IsInitial}
use Rattle.cv_props.proofs.Syntaxes.{of_block}
use Rattle.cv_props.proofs.registration.read_descriptors.Goals as goal

pub returns-in_ok-copy-in-Some-2-clause-kept : goal.returns-in_ok-copy-in-Some-2-clause-kept
returns-in_ok-copy-in-Some-2-clause-kept c =
    let syntax = c.in-Some.syntax in
    let plain : has_no_keyword syntax ≡ true = of_block c.syntaxes_have_no_keyword.ensures (map piece_of c.args.block.now) syntax (sym c.in_ok-syntax.ensures ∙ c.in-Some.is) in
    record {
      custom = subst (λ name. is_custom name ≡ true) (sym c.in_ok-copy-in-Some-2.ensures) c.requires;
      no_keyword = plain;
      initial = subst (λ found. IfSome found (IsInitial syntax)) c.in-Some-2.is (c.in_ok-initial.ensures.kept plain);
    }
