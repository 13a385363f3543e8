use Rattle.regular.proofs.Numbered.{every_position_means_words}
use Rattle.regular.proofs.positions_mean_words.Goals as goal

pub returns : goal.returns
returns c = every_position_means_words
