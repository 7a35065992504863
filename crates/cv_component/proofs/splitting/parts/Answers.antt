use Rattle.std.proofs.Common.{◌++◌, ◌-◌, length, take, drop, map, sym, ◌∙◌, ap}
use Rattle.std.proofs.lemmas.List.{map-append}
use Rattle.cv_component.specs.Parts.{separates, parts}
use Rattle.cv_component.proofs.Splits.{last_part, further_part}
use Rattle.cv_component.proofs.splitting.parts.Goals as goal

pub returns-in-empty : goal.returns-in-empty
returns-in-empty c =
    let front = c.split_at.ensures.front ∙ ap (λ n. take n c.parts.rest.now) c.in_ok-size.ensures.size in
    let back = c.split_at.ensures.back ∙ ap (λ n. drop n c.parts.rest.now) c.in_ok-size.ensures.size in
    ap (map (λ p. p.now)) (c.in_ok-push.ensures.items) ∙ map-append (λ p. p.now) c.parts.all.items _
    ∙ sym (last_part (separates c.args.separator) c.parts.rest.now c.split_at.result.0.now c.split_at.result.1.now (map (λ p. p.now) c.parts.all.items) front back c.in-empty.len_below) ∙ c.parts.invariant

pub parts-preserved : goal.parts-preserved
parts-preserved c =
    let front = c.split_at.ensures.front ∙ ap (λ n. take n c.parts.rest.now) c.in_ok-size.ensures.size in
    let back = c.split_at.ensures.back ∙ ap (λ n. drop n c.parts.rest.now) c.in_ok-size.ensures.size in
    let pushed = ap (map (λ p. p.now)) (c.in_ok-push.ensures.items) ∙ map-append (λ p. p.now) c.parts.all.items _ in
    ap (λ ps. ps ++ parts (separates c.args.separator) (take (length c.split_at.result.1.now - 1) (drop 1 c.split_at.result.1.now))) pushed
    ∙ sym (further_part (separates c.args.separator) c.parts.rest.now c.split_at.result.0.now c.split_at.result.1.now (map (λ p. p.now) c.parts.all.items) front back c.in-len1-up.len_at_least) ∙ c.parts.invariant
