use Rattle.wrapping.proofs.Words.{Reads}
use Rattle.wrapping.proofs.size_of.Given as goal

abbrev pub invariant-loop-byte : goal.invariant-loop-byte
invariant-loop-byte l = Reads l.word l.n l.byte-index
