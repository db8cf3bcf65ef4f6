-- `wrapper::wrap` meets its contract: by how many payloads are full. Assumes nothing.
use mathlib.Core.Path.{refl, sym, ap, ◌∙◌}
use mathlib.Core.List.{flat_map}
use Rattle.std.proofs.Common.{Ok}
use lib.ListN.{length}
use Rattle.packets.specs.Stored.{line}
use Rattle.wrapper.specs.Wrap.{writer, outers_of, rest_of}
use Rattle.wrapper.proofs.Answers.{filled_none, filled_some, wrap_says}
use Rattle.wrapper.proofs.wrap.Goals as goal

pub keep-requires : goal.keep-requires
keep-requires c = let a = c.args in
    filled_none a.numbers a.packet.now (length a.out.now) (sym c.filled_in.ensures ∙ c.in-Ok-eq0.is ∙ ap Ok c.in-Ok-eq0.field-0-test)

pub send-requires : goal.send-requires
send-requires c = let a = c.args in
    filled_some a.numbers a.packet.now (length a.out.now) c.in-Ok.full (sym c.filled_in.ensures ∙ c.in-Ok.is) c.in-Ok.full-test.1

pub returns-in-Ok-eq0 : goal.returns-in-Ok-eq0
unfolding outers_of rest_of line flat_map
returns-in-Ok-eq0 c = let a = c.args in
    wrap_says (writer a.numbers a.bytes.now) a.out.now a.packet.now a.timestamp c.told-bytes (sym c.filled_in.ensures ∙ c.in-Ok-eq0.is ∙ ap Ok c.in-Ok-eq0.field-0-test)
    (record { answers = c.keep.ensures.0; holds = c.keep.ensures.1; leaves = refl })

pub returns-in-Ok : goal.returns-in-Ok
returns-in-Ok c = let a = c.args in
    wrap_says (writer a.numbers a.bytes.now) a.out.now a.packet.now a.timestamp c.told-bytes (sym c.filled_in.ensures ∙ c.in-Ok.is) c.send.ensures

pub returns-in-Err : goal.returns-in-Err
returns-in-Err c = let a = c.args in
    wrap_says (writer a.numbers a.bytes.now) a.out.now a.packet.now a.timestamp c.told-bytes (sym c.filled_in.ensures ∙ c.in-Err.is) (record { answers = refl; holds = refl; leaves = refl })
