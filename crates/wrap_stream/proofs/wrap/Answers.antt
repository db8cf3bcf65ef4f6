-- `wrap_stream::wrap` meets its contract: the size is one that payloads may have, and the memory for outer packets is long enough. Assumes nothing.
use Rattle.std.proofs.Common.{arith, length, sym, ap, ◌∙◌}
use Rattle.wrapper.specs.declared.Numbers.{Numbers}
use Rattle.wrapper.proofs.Laws.{size-within}
use Rattle.wrap_stream.proofs.wrap.Goals as goal

pub print-requires-clause-ready : goal.print-requires-clause-ready
print-requires-clause-ready g c =
    let within = size-within c.args.size (sym c.is_size.ensures ∙ c.if-not-is_size.false) in
    (omega (arith, within.1, ap (λ (n : Numbers). n.size) c.fresh-program.ensures.0), omega (arith, ap length c.fresh-program.ensures.3))
