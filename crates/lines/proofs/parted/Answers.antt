use Rattle.std.proofs.Common.{◌∷◌, length, refl, sym, ap, ◌∙◌, arith, length-append}
use Rattle.lines.specs.Lines.{at_feed, no_feed, line, behind}
use Rattle.lines.proofs.Feeds.{line_is, line_whole}
use Rattle.lines.proofs.parted.Goals as goal

pub returns-in-Some : goal.returns-in-Some
returns-in-Some c =
    let split = c.in-Some.ensures in
    let first = c.in-Some.parts.0.now in
    let rest = c.in-Some.parts.1.now in
    let (front, behind_is) = line_is first rest split.first in
    record {
      parts = at_feed split;
      within = omega (arith, ap length split.whole, length-append first (10 ∷ rest));
      line = front ∙ ap line (sym split.whole);
      rest = behind_is ∙ ap behind (sym split.whole);
    }

pub returns-in-None : goal.returns-in-None
returns-in-None c =
    let (front, rest) = line_whole c.args.bytes.now c.in-None.ensures in
    record { parts = no_feed c.in-None.ensures refl refl; within = omega arith; line = front; rest = rest }
