-- What falls as `read_atom`, `read_branch`, `read_expression` and `read_item` are called, and what their loops keep. Assumes nothing.
use Rattle.std.proofs.Common.{◌+◌, ◌*◌, ◌<◌, length}
use Rattle.syntax.specs.declared.mode.Mode.{Mode}
use Rattle.syntax.specs.Grammar.{branch, expression, item}
use Rattle.syntax.proofs.Chains.{Reading}
use Rattle.syntax.proofs.Rows.{items, branches}
use Rattle.syntax.proofs.parser.+read_atom_read_branch_read_expression_read_item.Given as goal

abbrev pub decreases-read_atom : goal.decreases-read_atom
decreases-read_atom l = 4 * l.left

abbrev pub decreases-read_item : goal.decreases-read_item
decreases-read_item l = 4 * l.left + 1

abbrev pub decreases-read_branch : goal.decreases-read_branch
decreases-read_branch l = 4 * l.left + 2

abbrev pub decreases-read_expression : goal.decreases-read_expression
decreases-read_expression l = 4 * l.left + 3

abbrev pub invariant-read_branch-loop-heap : goal.invariant-read_branch-loop-heap
invariant-read_branch-loop-heap l = record { ahead : length l.lexer.rest.now < length l.fn.lexer.rest.now; reading : (m : Mode) → Reading m branch item (items m) l.fn.lexer l.left l.whole l.lexer }

abbrev pub decreases-read_branch-loop-heap : goal.decreases-read_branch-loop-heap
decreases-read_branch-loop-heap l = length l.lexer.rest.now

abbrev pub invariant-read_expression-loop-heap : goal.invariant-read_expression-loop-heap
invariant-read_expression-loop-heap l = record { ahead : length l.lexer.rest.now < length l.fn.lexer.rest.now; reading : (m : Mode) → Reading m expression branch (branches m) l.fn.lexer l.left l.whole l.lexer }

abbrev pub decreases-read_expression-loop-heap : goal.decreases-read_expression-loop-heap
decreases-read_expression-loop-heap l = length l.lexer.rest.now
