-- `wrapping::Wrap::put_close` meets its contract: the last outer packet, if there is one, put as a record. Assumes nothing.
use Rattle.wrapping.proofs.Laws.{close_none, close_room, close_says}
use Rattle.wrapping.proofs.Wrap.put_close.Goals as goal

pub returns-then-v-eq0-clause-put : goal.returns-then-v-eq0-clause-put
returns-then-v-eq0-clause-put c =
    let a = c.args.self.now in
    close_none a.numbers a.bytes a.outers.now c.requires.0 c.requires.1 _ _ _ c.close-given.ensures _ c.values_of-v.ensures c.if-v-eq0.true c.args.out.now

pub put_outers-requires : goal.put_outers-requires
put_outers-requires c =
    let a = c.args.self.now in
    close_room a.numbers a.bytes a.outers.now c.requires.0 c.requires.1 _ _ _ c.close-given.ensures _ c.values_of-v.ensures c.args.out.now c.requires.2

pub returns-clause-put : goal.returns-clause-put
returns-clause-put c =
    let a = c.args.self.now in
    close_says a.numbers a.bytes a.outers.now c.requires.0 c.requires.1 _ _ _ c.close-given.ensures _ c.values_of-v.ensures c.if-v-eq0.false c.args.out.now _ _ c.put_outers.ensures
