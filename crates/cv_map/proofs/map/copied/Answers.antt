use Rattle.std.proofs.Common.{◌≡◌, ◌+◌, ◌++◌, ◌∷◌, [], ◌∙◌, ap, ap₂, arith, suc, sym, take}
use Rattle.cv_map.proofs.Found.{take_next}
use Rattle.cv_map.proofs.map.copied.Goals as goal

pub loop-place-preserved : goal.loop-place-preserved
loop-place-preserved c =
    let place = c.loop-place.place in
    let next : place + 1 ≡ suc place = omega arith in
    c.in_ok-push.ensures.items
    ∙ ap (λ l. l ++ (c.in_ok-copy.field-0, c.in_ok-copy-2.field-0) ∷ []) c.loop-place.invariant
    ∙ ap₂ (λ k d. take place c.args.decls.now ++ (k, d) ∷ []) c.in_ok-copy.ensures c.in_ok-copy-2.ensures
    ∙ sym (take_next c.args.decls.now place (c.at.result.0.now, c.at.result.1.now) c.at.ensures.entry)
    ∙ ap (λ n. take n c.args.decls.now) (sym next)
