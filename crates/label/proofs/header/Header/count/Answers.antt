use Rattle.label.proofs.Entries.{length_entries}
use Rattle.label.proofs.header.Header.count.Goals as goal

pub returns : goal.returns
returns c = length_entries c.args.self.now.label.now c.args.self.now.entries.now c.args.self.now.listed
