use Rattle.std.proofs.Common.{sym}
use Rattle.ild_schema.specs.Indexed.{labels}
use Rattle.ild_schema.proofs.Seats.{put_kept, put_new}
use Rattle.ild_schema.proofs.by_text.put_first.Goals as goal

pub returns-in-Ok : goal.returns-in-Ok
returns-in-Ok c =
    put_kept (labels c.args.label c.args.def.now) c.args.part c.deref.result.now c.args.numbers.now.items c.in-Some.text.now c.seat.result c.in-Ok.field-0 c.requires (sym c.in-Some.ensures) c.deref.ensures.value c.seat.ensures c.in-Ok.is

pub returns-in_ok-insert-in-Err : goal.returns-in_ok-insert-in-Err
returns-in_ok-insert-in-Err c =
    put_new (labels c.args.label c.args.def.now) c.args.part c.deref.result.now c.args.numbers.now.items c.insert.new.self.items c.in-Some.text.now c.seat.result c.in-Err.i c.requires (sym c.in-Some.ensures) c.deref.ensures.value c.seat.ensures c.in-Err.is
    c.in_ok-insert-in-Err.ensures.items
