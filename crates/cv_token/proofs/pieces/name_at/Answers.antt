use Rattle.std.proofs.Common.{◌≡◌, ℕ, List, drop, subst, sym, ◌∙◌, ap}
use Rattle.std.specs.Prelude.{false}
use Rattle.std.specs.List.{prefix_len}
use Rattle.std.proofs.lemmas.List.{take_rest}
use Rattle.cv_spec_text.specs.Characters.{is_ident_code_point}
use Rattle.cv_spec_text.specs.Names.{begins_escape}
use Rattle.cv_token.proofs.PlainNames.{IsPlain, plain_name}
use Rattle.cv_token.proofs.pieces.name_at.Goals as goal

plain : (text : List ℕ) (size : ℕ) → size ≡ prefix_len is_ident_code_point text → begins_escape (drop size text) ≡ false → IsPlain text size
plain text size is none = subst (IsPlain text) (sym is) (plain_name text (subst (λ n. begins_escape (drop n text) ≡ false) is none))

pub returns-in_ok-from_characters-clause-value : goal.returns-in_ok-from_characters-clause-value
returns-in_ok-from_characters-clause-value c =
    let text = c.args.text.now in
    let none = ap begins_escape (sym (take_rest text c.plain_length-plain.result)) ∙ sym c.begins_escape.ensures ∙ c.if-begins_escape.false in
    c.in_ok-from_characters.ensures ∙ (plain text c.plain_length-plain.result c.plain_length-plain.ensures.size none).value

pub returns-in_ok-from_characters-clause-size : goal.returns-in_ok-from_characters-clause-size
returns-in_ok-from_characters-clause-size c =
    let text = c.args.text.now in
    let none = ap begins_escape (sym (take_rest text c.plain_length-plain.result)) ∙ sym c.begins_escape.ensures ∙ c.if-begins_escape.false in
    (plain text c.plain_length-plain.result c.plain_length-plain.ensures.size none).size_is
