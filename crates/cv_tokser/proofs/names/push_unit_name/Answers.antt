use Rattle.std.proofs.Common.{◌≡◌, ℕ, List, sym, ◌∙◌, ap, subst}
use Rattle.std.specs.Prelude.{true, chars}
use Rattle.std.proofs.lemmas.Str.{chars-IsAscii}
use Rattle.cv_spec_text.specs.Printing.{unit}
use Rattle.cv_tokser.specs.Plain.{is_plain}
use Rattle.cv_tokser.proofs.Appended.{written_as}
use Rattle.cv_tokser.proofs.Plain.{itself}
use Rattle.cv_tokser.proofs.names.push_unit_name.Goals as goal

-- a plain name is its bytes
same : (bytes name : List ℕ) → is_plain bytes ≡ true → chars bytes ≡ name → chars bytes ≡ unit name
same bytes name plain is =
    let known = itself bytes plain in
    let plain_is = chars-IsAscii bytes known.ascii in
    plain_is ∙ sym known.unit_is ∙ ap unit (sym plain_is ∙ is)

pub returns-then-is_plain : goal.returns-then-is_plain
returns-then-is_plain c =
    let plain = subst (λ bytes. is_plain bytes ≡ true) c.as_bytes.ensures.value (sym c.is_plain.ensures ∙ c.if-is_plain.true) in
    written_as c.push_text.result c.args.out.now c.push_text.new.self (chars c.text-text.result.now) (unit c.args.name.now) (same c.text-text.result.now c.args.name.now plain c.text-text.ensures) c.push_text.ensures
