use Rattle.std.proofs.Common.{◌≡◌, ◌∙◌, ◌++◌, ℕ, List, [], ap}
use Rattle.std.specs.Prelude.{codes, decimal}
use Rattle.cv_gen.specs.Summary.{line, text_with}
use Rattle.cv_gen.proofs.totals.text_of.Goals as goal

-- a text behind nothing
behind_nothing : (before after text : List ℕ) → before ≡ [] → after ≡ before ++ text → after ≡ text
behind_nothing before after text none is = is ∙ ap (λ (xs : List ℕ). xs ++ text) none

pub returns : goal.returns
unfolding text_with
returns c =
    let count : c.as_bytes.result.now ≡ decimal c.args.count = cc (c.as_bytes.ensures.value, c.format.ensures.text) in
    let first : c.push_line.new.all.items ≡ line (codes "elements") (decimal c.args.count) = behind_nothing _ _ _ c.new-text.ensures.items (c.in_ok-push_line.ensures ∙ ap (λ (text : List ℕ). c.new-text.result.items ++ line (codes "elements") text) count) in
    cc (first, c.in_ok-push_line-2.ensures, c.in_ok-push_line-3.ensures, c.in_ok-length_text.ensures, c.deref.ensures.value, c.in_ok-length_text-2.ensures, c.deref-2.ensures.value)
