-- `token` meets its contract. Assumes nothing.
use Rattle.std.proofs.Common.{Some}
use Rattle.syntax.proofs.Steps.{set_found, unit_found}
use Rattle.syntax.proofs.lexer.Lexer.token.Goals as goal

pub returns-then-eats-clause-found : goal.returns-then-eats-clause-found
returns-then-eats-clause-found c m k w before = set_found k w c.set.new.self c.set.result c.refused-refused.result c.opens.result c.ok_or.ensures.value c.in_default.ensures.same c.in_default.ensures.read c.opens.ensures c.if-eats.ensures.read c.set.ensures.found before

pub returns-in-Some-value-clause-found : goal.returns-in-Some-value-clause-found
returns-in-Some-value-clause-found c m k w before = unit_found k w c.value.new.self (Some c.in-Some-value.code) c.opens.result c.in_default.ensures.same c.in_default.ensures.read c.opens.ensures c.if-eats.ensures.value c.if-eats.ensures.read c.in-Some-value.ensures before
