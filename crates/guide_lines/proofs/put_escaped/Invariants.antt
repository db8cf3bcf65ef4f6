use lib.ListN.{drop}
use Rattle.guide_lines.specs.Lines.{escaped_name}
use Rattle.guide_lines.proofs.Laws.{Left}
use Rattle.guide_lines.proofs.put_escaped.Given as goal

abbrev pub invariant-loop-byte : goal.invariant-loop-byte
invariant-loop-byte l = Left (escaped_name l.name) l.initial.out (escaped_name (drop l.byte-index l.name)) l.out
