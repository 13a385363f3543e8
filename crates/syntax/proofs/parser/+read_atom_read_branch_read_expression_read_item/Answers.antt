-- `read_atom`, `read_branch`, `read_expression` and `read_item` meet their contracts. Assumes nothing.
use Rattle.std.proofs.Common.{refl, arith}
use Rattle.std.proofs.lemmas.Result.{err_from_is_err_and}
use Rattle.syntax.specs.Grammar.{branch, expression, item}
use Rattle.syntax.proofs.Atoms.{atom_none, atom_deep, atom_lost, atom_closed, atom_unclosed, atom_simple, atom_sign, item_marked, item_once, item_lost}
use Rattle.syntax.proofs.Chains.{start, lost, more, memory, end}
use Rattle.syntax.proofs.Rows.{items, branches}
use Rattle.syntax.proofs.Steps.{eaten}
use Rattle.syntax.proofs.parser.+read_atom_read_branch_read_expression_read_item.Goals as goal

pub read_atom-returns-in_err-token-clause-got : goal.read_atom-returns-in_err-token-clause-got
read_atom-returns-in_err-token-clause-got t c m = atom_none m c.args.lexer.now c.args.left _ _ c.in_err-token.ensures.found

pub read_atom-returns-then-left-eq0-clause-got : goal.read_atom-returns-then-left-eq0-clause-got
read_atom-returns-then-left-eq0-clause-got t c m = atom_deep m c.args.lexer.now c.args.left _ _ c.in_ok-token.ensures.found c.in-Open.is c.if-left-eq0.true _ c.args.lexer.now

pub read_atom-returns-in_err-inner-in-Open-clause-got : goal.read_atom-returns-in_err-inner-in-Open-clause-got
read_atom-returns-in_err-inner-in-Open-clause-got t c m =
    let p = err_from_is_err_and c.from_residual-in_err-inner-in-Open.result c.from_residual-in_err-inner-in-Open.ensures.1 in
    rw (p.1, p.2) (atom_lost m c.args.lexer.now c.args.left _ _ c.in_ok-token.ensures.found c.in-Open.is _ c.args.lexer.now (c.in_err-inner-in-Open.ensures.got m))

pub read_atom-returns-then-not-eats-clause-got : goal.read_atom-returns-then-not-eats-clause-got
read_atom-returns-then-not-eats-clause-got t c m = atom_unclosed m c.args.lexer.now c.args.left _ _ c.in_ok-token.ensures.found c.in-Open.is _ _ c.args.lexer.now (c.in_ok-inner-in-Open.ensures.got m) _ c.if-not-eats.ensures.value

pub read_atom-returns-else-not-eats-clause-got : goal.read_atom-returns-else-not-eats-clause-got
read_atom-returns-else-not-eats-clause-got t c m = atom_closed m c.args.lexer.now c.args.left _ _ c.in_ok-token.ensures.found c.in-Open.is _ _ _ (c.in_ok-inner-in-Open.ensures.got m) _ c.eats.ensures.value c.eats.ensures.read c.grouped.ensures

pub read_atom-returns-in-Close-clause-got : goal.read_atom-returns-in-Close-clause-got
read_atom-returns-in-Close-clause-got t c m = atom_sign m c.args.lexer.now c.args.left _ _ c.in_ok-token.ensures.found c.in-Close.is _ c.args.lexer.now

pub read_atom-returns-in_default-clause-got : goal.read_atom-returns-in_default-clause-got
read_atom-returns-in_default-clause-got t c m = atom_simple m c.args.lexer.now c.args.left _ _ c.in_ok-token.ensures.found c.in_default.not-Open _ c.mode-mode.result c.mode-mode.ensures c.codes-codes.ensures.table c.codes-codes.ensures.long c.single-single.ensures.value c.single-single.ensures.bound

pub read_item-returns-in_err-atom-clause-got : goal.read_item-returns-in_err-atom-clause-got
read_item-returns-in_err-atom-clause-got t c m =
    let p = err_from_is_err_and c.from_residual.result c.from_residual.ensures.1 in
    rw (p.1, p.2) (item_lost m c.args.lexer.now c.args.left _ c.args.lexer.now c.args.lexer.now (c.in_err-atom.ensures.got m))

pub read_item-returns-in-Some-clause-got : goal.read_item-returns-in-Some-clause-got
read_item-returns-in-Some-clause-got t c m = item_marked m c.args.lexer.now c.args.left _ _ _ c.in-Some.mark _ c.in-Some.ensures.read (c.in_ok-atom.ensures.got m) c.marked.ensures

pub read_item-returns-in-None-clause-got : goal.read_item-returns-in-None-clause-got
read_item-returns-in-None-clause-got t c m = item_once m c.args.lexer.now c.args.left _ _ _ c.in-None.ensures.read c.in-None.ensures.same (c.in_ok-atom.ensures.got m)

pub read_branch-returns-in_err-whole-clause-got : goal.read_branch-returns-in_err-whole-clause-got
read_branch-returns-in_err-whole-clause-got t c m =
    let p = err_from_is_err_and c.from_residual.result c.from_residual.ensures.1 in
    rw (p.1, p.2) (lost m branch item (items m) c.args.lexer.now c.args.left _ c.args.lexer.now (c.in_err-whole.ensures.got m))

pub read_branch-loop-heap-init : goal.read_branch-loop-heap-init
read_branch-loop-heap-init t c = record { ahead = c.in_ok-whole.ensures.ahead; reading = λ m. start m branch item (items m) c.args.lexer.now c.args.left _ _ (c.in_ok-whole.ensures.got m) }

pub read_branch-returns-in_err-item-clause-got : goal.read_branch-returns-in_err-item-clause-got
read_branch-returns-in_err-item-clause-got t c m =
    let p = err_from_is_err_and c.from_residual-in_err-item.result c.from_residual-in_err-item.ensures.1 in
    rw (p.1, p.2) (memory m branch item (items m) c.args.lexer.now c.args.left _ _ (c.loop-heap.invariant.reading m) c.loop-heap-test.ensures _ (λ u b. b) _ c.args.lexer.now (c.in_err-item.ensures.got m))

pub read_branch-loop-heap-preserved : goal.read_branch-loop-heap-preserved
read_branch-loop-heap-preserved t c = record {
  ahead = omega (arith, c.loop-heap.invariant.ahead, c.in_ok-item.ensures.ahead);
  reading = λ m. more m branch item (items m) c.args.lexer.now c.args.left _ _ (c.loop-heap.invariant.reading m) c.loop-heap-test.ensures _ (λ u b. b) _ _ _ (c.in_ok-item.ensures.got m) c.in_ok-whole-2.ensures;
}

pub read_branch-returns-clause-got : goal.read_branch-returns-clause-got
read_branch-returns-clause-got t c m = end m branch item (items m) c.args.lexer.now c.args.left _ _ (c.loop-heap.invariant.reading m) c.loop-heap-test.ensures _ refl

pub read_expression-returns-in_err-whole-clause-got : goal.read_expression-returns-in_err-whole-clause-got
read_expression-returns-in_err-whole-clause-got t c m =
    let p = err_from_is_err_and c.from_residual.result c.from_residual.ensures.1 in
    rw (p.1, p.2) (lost m expression branch (branches m) c.args.lexer.now c.args.left _ c.args.lexer.now (c.in_err-whole.ensures.got m))

pub read_expression-loop-heap-init : goal.read_expression-loop-heap-init
read_expression-loop-heap-init t c = record { ahead = c.in_ok-whole.ensures.ahead; reading = λ m. start m expression branch (branches m) c.args.lexer.now c.args.left _ _ (c.in_ok-whole.ensures.got m) }

pub read_expression-returns-in_err-branch-clause-got : goal.read_expression-returns-in_err-branch-clause-got
read_expression-returns-in_err-branch-clause-got t c m =
    let p = err_from_is_err_and c.from_residual-in_err-branch.result c.from_residual-in_err-branch.ensures.1 in
    rw (p.1, p.2) (memory m expression branch (branches m) c.args.lexer.now c.args.left _ _ (c.loop-heap.invariant.reading m) c.loop-heap-test.ensures.value _ (λ u b. (eaten 124 c.loop-heap-test.ensures.value c.loop-heap-test.ensures.read b).1) _ c.args.lexer.now (c.in_err-branch.ensures.got m))

pub read_expression-loop-heap-preserved : goal.read_expression-loop-heap-preserved
read_expression-loop-heap-preserved t c = record {
  ahead = omega (arith, c.loop-heap.invariant.ahead, c.in_ok-branch.ensures.ahead, c.eats.ensures.short);
  reading = λ m. more m expression branch (branches m) c.args.lexer.now c.args.left _ _ (c.loop-heap.invariant.reading m) c.loop-heap-test.ensures.value _ (λ u b. (eaten 124 c.loop-heap-test.ensures.value c.loop-heap-test.ensures.read b).1) _ _ _ (c.in_ok-branch.ensures.got m) c.in_ok-whole-2.ensures;
}

pub read_expression-returns-clause-got : goal.read_expression-returns-clause-got
read_expression-returns-clause-got t c m = end m expression branch (branches m) c.args.lexer.now c.args.left _ _ (c.loop-heap.invariant.reading m) c.loop-heap-test.ensures.value _ c.loop-heap-test.ensures.read
