use Rattle.std.proofs.Common.{refl, arith}
use Rattle.plain_word.proofs.Plain.{moves_jump}
use Rattle.word.proofs.word.Word.new.Goals as goal

pub returns : goal.returns
returns c =
    let x = c.args.expression in record {
      same_tree = refl;
      letters = c.in_ok-letters.ensures;
      exact = λ j le. moves_jump x.tree c.in_ok-letters.letters x.few x.exact c.in_ok-letters.ensures j _ le (c.in_ok-jumps.ensures.1 j (omega (arith, c.in_ok-jumps.ensures.0)));
    }
