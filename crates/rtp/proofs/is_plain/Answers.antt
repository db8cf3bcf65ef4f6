-- `rtp::is_plain` meets its contract: the tests on the first byte's fields are one test of the byte. Assumes nothing.
use mathlib.Core.Path.{sym, ◌∙◌}
use borrow.Author.Tests.{eq-eqb, ne_eqb}
use Rattle.rtp.proofs.Laws.{plain-short, plain-bytes}
use Rattle.rtp.proofs.is_plain.Goals as goal

pub returns-then-packet-lt-HEADER_BYTES : goal.returns-then-packet-lt-HEADER_BYTES
returns-then-packet-lt-HEADER_BYTES c = let a = c.args in sym (plain-short a.kind a.packet.now c.if-packet-lt-HEADER_BYTES.true)

pub returns-then-packet : goal.returns-then-packet
returns-then-packet c = let a = c.args in
    sym (plain-bytes a.kind a.packet.now c.if-packet-lt-HEADER_BYTES.false ∙ simp (eq-eqb _ 128 c.if-packet.true))

pub returns-else-packet : goal.returns-else-packet
returns-else-packet c = let a = c.args in
    simp (ne_eqb _ 128 c.if-packet.false) (sym (plain-bytes a.kind a.packet.now c.if-packet-lt-HEADER_BYTES.false ∙ simp (ne_eqb _ 128 c.if-packet.false)))
