use Rattle.guest_memory.proofs.Order.{IsFound-from_place, get_gap}
use Rattle.guest_memory.proofs.place.find.Goals as goal

pub returns-in-Ok : goal.returns-in-Ok
returns-in-Ok c = IsFound-from_place c.args.pages.now c.args.number _ c.requires c.in-Ok.ensures

pub returns-in-Err : goal.returns-in-Err
returns-in-Err c = get_gap c.args.pages.now c.args.number _ c.in-Err.ensures
