use Rattle.std.proofs.Common.{◌≡◌, ◌%◌, ◌∙◌, refl, sym, ap, true, false}
use Rattle.std.specs.Prelude.{◌==◌}
use Rattle.cv_valuation.specs.Keys.{same_key}
use Rattle.cv_valuation.specs.Tries.{IsFork}
use Rattle.cv_valuation.proofs.Tries.{in_ok, not_one, Sets-here, Sets-left, Sets-right}
use Rattle.cv_valuation.proofs.trie.+put.Goals as goal

pub returns-in_ok-right-in-Fork : goal.returns-in_ok-right-in-Fork
returns-in_ok-right-in-Fork n c =
    let node = c.as_ref-node.result.now in
    let before : IsFork c.args.trie.now node.key node.outcome node.left node.right = rw (c.as_ref-node.ensures, c.in-Fork.is) (λ path key. refl) in
    let same : same_key c.args.key node.key ≡ true = sym c.eq.ensures ∙ c.if-eq.true in
    in_ok c.fork-then-eq.result c.fork-then-eq.ensures (λ new after.
    Sets-here c.args.trie.now new c.args.path node.key c.args.key node.outcome c.args.outcome node.left node.right _ _ before after
    c.in_ok-left-in-Fork.ensures c.in_ok-right-in-Fork.ensures same)

pub returns-in_ok-copy-in-Fork-2 : goal.returns-in_ok-copy-in-Fork-2
returns-in_ok-copy-in-Fork-2 n c =
    let node = c.as_ref-node.result.now in
    let before : IsFork c.args.trie.now node.key node.outcome node.left node.right = rw (c.as_ref-node.ensures, c.in-Fork.is) (λ path key. refl) in
    let other : same_key c.args.key node.key ≡ false = sym c.eq.ensures ∙ c.if-eq.false in
    in_ok c.fork-then-path-eq1.result c.fork-then-path-eq1.ensures (λ new after.
    Sets-right c.args.trie.now new c.args.path node.key c.args.key node.outcome c.args.outcome node.left node.right _ _ before
    (rw (c.in_ok-copy-in-Fork.ensures, c.in_ok-copy-in-Fork-2.ensures) at after) other
    c.in_ok-left-in-Fork-2.ensures c.in_ok-right-in-Fork-2.ensures (ap (λ n. n == 1) c.if-path-eq1.true))

pub returns-in_ok-copy-in-Fork-4 : goal.returns-in_ok-copy-in-Fork-4
returns-in_ok-copy-in-Fork-4 n c =
    let node = c.as_ref-node.result.now in
    let before : IsFork c.args.trie.now node.key node.outcome node.left node.right = rw (c.as_ref-node.ensures, c.in-Fork.is) (λ path key. refl) in
    let other : same_key c.args.key node.key ≡ false = sym c.eq.ensures ∙ c.if-eq.false in
    in_ok c.fork-else-path-eq1.result c.fork-else-path-eq1.ensures (λ new after.
    Sets-left c.args.trie.now new c.args.path node.key c.args.key node.outcome c.args.outcome node.left node.right _ _ before
    (rw (c.in_ok-copy-in-Fork-3.ensures, c.in_ok-copy-in-Fork-4.ensures) at after) other
    c.in_ok-left-in-Fork-3.ensures c.in_ok-right-in-Fork-3.ensures (not_one (c.args.path % 2) c.if-path-eq1.false))
