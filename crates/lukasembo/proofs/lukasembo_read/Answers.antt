-- `lukasembo::lukasembo_read` meets its contract: the parts of the reader's answer are small. Assumes nothing.
use Rattle.lukasembo.proofs.Laws.{listing-short, offset_small}
use Rattle.lukasembo.proofs.lukasembo_read.Goals as goal

pub pack_read-requires : goal.pack_read-requires
pack_read-requires c = rw c.read-answer.ensures.answers (listing-short _ _, offset_small _ _)
