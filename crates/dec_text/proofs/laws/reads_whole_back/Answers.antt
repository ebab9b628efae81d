use Rattle.dec_text.proofs.WholeFacts.{whole_reads_back}
use Rattle.dec_text.proofs.laws.reads_whole_back.Goals as goal

pub returns : goal.returns
returns c = whole_reads_back
