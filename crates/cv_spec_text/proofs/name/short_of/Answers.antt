use Rattle.std.proofs.Common.{◌++◌, [], ◌∷◌, take, sym, subst, ◌∙◌, ap, append-nil}
use Rattle.std.specs.Prelude.{encode_utf8_all, encode_utf8, IsUtf8}
use Rattle.std.proofs.lemmas.List.{take_all}
use Rattle.std.proofs.lemmas.Grind.{take_at_read}
use Rattle.std.proofs.lemmas.Str.{chars_from_encodes, encodes-append}
use Rattle.cv_spec_text.proofs.name.short_of.Goals as goal

pub loop-character-preserved : goal.loop-character-preserved
loop-character-preserved c =
    let cs = c.args.characters.now in
    let k = c.loop-character.character-index in
    let x = c.character-item.result in
    c.in-Ok.ensures.ok
    ∙ ap (λ bytes. bytes ++ encode_utf8 x) c.loop-character.invariant
    ∙ ap (λ more. encode_utf8_all (take k cs) ++ more) (sym (append-nil (encode_utf8 x)))
    ∙ sym (encodes-append (take k cs) (x ∷ []))
    ∙ ap (λ y. encode_utf8_all (take k cs ++ y ∷ [])) c.character-item.is
    ∙ ap encode_utf8_all (sym (take_at_read cs k x c.loop-character-test.true).1)

pub returns : goal.returns
returns c =
    let cs = c.args.characters.now in
    let k = c.loop-character.character-index in
    sym (chars_from_encodes cs c.loop-character.short.bytes (subst IsUtf8 c.as_str.ensures.value c.as_str.utf8) (ap encode_utf8_all (sym (take_all k cs c.loop-character-test.false)) ∙ sym c.loop-character.invariant))
