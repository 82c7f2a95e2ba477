use Rattle.sg_call.proofs.making.add_side.Goals as goal

pub add_opening-requires-clause-next : goal.add_opening-requires-clause-next
add_opening-requires-clause-next c kind = (c.args.side.sound.next kind).1

pub add_sealing-requires-clause-next : goal.add_sealing-requires-clause-next
add_sealing-requires-clause-next c kind = (c.args.side.sound.next kind).0
