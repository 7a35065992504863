use Rattle.std.proofs.Common.{◌≡◌, ◌<◌, ◌≤◌, ◌+◌, ◌∷◌, ◌++◌, map, refl, List, length, drop, subst, sym, ◌∙◌, ap, arith, length-drop}
use Rattle.std.proofs.lemmas.List.{take_rest}
use Rattle.cv_spec_text.specs.declared.token.Token.{Token}
use Rattle.cv_component.specs.Items.{item, item_length, items}
use Rattle.cv_component.specs.Shared.{piece_of}
use Rattle.cv_component.specs.declared.shared.SharedPiece.{SharedPiece}
use Rattle.cv_component.proofs.ItemSteps.{item_length-positive}
use Rattle.cv_component.proofs.Sharing.{token_at, shared_skipped, shared_read, shared_end}
use Rattle.cv_component.proofs.shared.shared_declarations.Goals as goal

pub items-preserved-then-separates : goal.items-preserved-then-separates
items-preserved-then-separates c =
    let size = ap length c.tokens-tokens.ensures.tokens in
    let here = subst (λ (ts : List Token). drop c.items.start ts ≡ c.index-tokens-start.result ∷ drop 1 (drop c.items.start ts)) c.tokens-tokens.ensures.tokens
    (token_at c.tokens-tokens.result.now c.items.start c.index-tokens-start.result c.index-tokens-start.result c.items-test.true c.index-tokens-start.is) in
    record {
      items = shared_skipped c.args.list.now c.items.all.items c.items.start c.index-tokens-start.result c.items.invariant.items here c.if-separates.ensures;
      within = omega (arith, size, c.items-test.true);
    }

pub items-smaller : goal.items-smaller
items-smaller c =
    let size = ap length c.tokens-tokens.ensures.tokens in
    let here = token_at c.tokens-tokens.result.now c.items.start c.index-tokens-start.result c.index-tokens-start.result c.items-test.true c.index-tokens-start.is in
    let some : 0 < c.in_ok-end.field-0 = rw (c.in_ok-end.ensures.size, take_rest c.tokens-tokens.result.now c.items.start, here) (item_length-positive c.index-tokens-start.result (drop 1 (drop c.items.start c.tokens-tokens.result.now)) (sym c.if-separates.ensures)) in
    omega (arith, size, c.items-test.true, some)

pub items-preserved : goal.items-preserved
items-preserved c =
    let size = ap length c.tokens-tokens.ensures.tokens in
    let rest = take_rest c.tokens-tokens.result.now c.items.start ∙ ap (drop c.items.start) c.tokens-tokens.ensures.tokens in
    let here = subst (λ (ts : List Token). drop c.items.start ts ≡ c.index-tokens-start.result ∷ drop 1 (drop c.items.start ts)) c.tokens-tokens.ensures.tokens
    (token_at c.tokens-tokens.result.now c.items.start c.index-tokens-start.result c.index-tokens-start.result c.items-test.true c.index-tokens-start.is) in
    let within = subst (λ (ts : List Token). c.in_ok-end.field-0 ≤ length ts) rest c.in_ok-end.ensures.within in
    record {
      items =
          subst (λ (more : List SharedPiece). map piece_of more ++ items (drop (c.items.start + c.in_ok-end.field-0) c.args.list.now) ≡ items c.args.list.now) (sym c.in_ok-push.ensures.items)
          (shared_read c.args.list.now c.items.all.items c.items.start c.in_ok-end.field-0 (c.items.start + c.in_ok-end.field-0) c.index-tokens-start.result c.in_ok-shared_item.field-0 c.items.invariant.items here c.if-separates.ensures
          (c.in_ok-end.ensures.size ∙ ap item_length rest) within refl (c.in_ok-shared_item.ensures ∙ ap item c.in_ok-part.ensures));
      within = omega (arith, within, length-drop c.items.start c.args.list.now);
    }

pub returns : goal.returns
returns c = shared_end c.args.list.now c.items.all.items c.items.start c.items.invariant.items (omega (arith, c.items-test.false, ap length c.tokens-tokens.ensures.tokens))
