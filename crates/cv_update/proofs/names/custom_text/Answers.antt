use Rattle.std.proofs.Common.{◌≡◌, true, ap, subst, sym, ◌∙◌, ◌++◌}
use Rattle.std.specs.Prelude.{IsUtf8, encode_utf8_all}
use Rattle.std.proofs.Math.Utf8.{scalars}
use Rattle.std.proofs.lemmas.Str.{scalars-chars}
use Rattle.cv_spec_text.specs.Printing.{identifier}
use Rattle.cv_update.proofs.Written.{identifier_text}
use Rattle.cv_update.proofs.names.custom_text.Goals as goal

pub name_of-requires : goal.name_of-requires
name_of-requires c =
    let are : scalars c.args.name.now ≡ true = subst (λ cs. scalars cs ≡ true) c.text.ensures (scalars-chars c.text.result.now c.text.utf8) in
    subst IsUtf8 (sym (c.deref.ensures.value ∙ c.in_ok-print_identifier.ensures.ok ∙ ap (λ front. front ++ encode_utf8_all (identifier c.args.name.now)) c.new-bytes.ensures.items)) (identifier_text c.args.name.now are)
