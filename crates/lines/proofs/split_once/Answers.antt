use Rattle.std.proofs.Common.{◌+◌, take, sym, subst}
use Rattle.std.proofs.lemmas.List.{take_rest}
use Rattle.lines.specs.Lines.{Splits}
use Rattle.lines.proofs.Feeds.{splits_at}
use Rattle.lines.proofs.split_once.Goals as goal

pub returns : goal.returns
returns c =
    let (first, is) = c.in_ok-at.ensures in
    let bytes = c.args.bytes.now in
    let at = c.in_ok-at.at in
    subst (λ rest. Splits c.args.separator bytes (take at bytes) rest) (sym (take_rest bytes (at + 1))) (splits_at c.args.separator bytes at first.before first.high is)
