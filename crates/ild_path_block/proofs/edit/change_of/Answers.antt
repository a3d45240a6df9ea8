use Rattle.std.proofs.Common.{sym, ◌∙◌}
use Rattle.ild_path_block.proofs.Changing.{deletes, inserts, sets, told_so}
use Rattle.ild_path_block.proofs.edit.change_of.Goals as goal
use Rattle.ild_path_block.specs.declared.edit.PartEdit.TheVariants as E

pub returns-in-Set : goal.returns-in-Set
returns-in-Set c = λ rows q w view holds.
    let v = c.args.view.now in
    let piece_is = sym c.in-Some.is ∙ c.piece.ensures in
    told_so rows q v view c.schema-acc.result.now c.slot-slot.result c.in-Some.piece c.schema-acc.ensures c.slot-slot.ensures piece_is c.args.segment.now c.set_change.result c.args.edit.now (E.Set c.in-Set.new) w c.in-Set.is
    (sets rows q v view c.schema-acc.result.now c.slot-slot.result c.in-Some.piece c.schema-acc.ensures c.slot-slot.ensures piece_is c.args.segment.now c.set_change.result c.in-Set.new w c.set_change.ensures)

pub returns-in-Insert : goal.returns-in-Insert
returns-in-Insert c = λ rows q w view holds.
    let v = c.args.view.now in
    let piece_is = sym c.in-Some.is ∙ c.piece.ensures in
    told_so rows q v view c.schema-acc.result.now c.slot-slot.result c.in-Some.piece c.schema-acc.ensures c.slot-slot.ensures piece_is c.args.segment.now c.insert_change.result c.args.edit.now (E.Insert c.in-Insert.new) w c.in-Insert.is
    (inserts rows q v view c.schema-acc.result.now c.slot-slot.result c.in-Some.piece c.schema-acc.ensures c.slot-slot.ensures piece_is c.args.segment.now c.insert_change.result c.in-Insert.new w c.insert_change.ensures)

pub returns-in-Delete : goal.returns-in-Delete
returns-in-Delete c = λ rows q w view holds.
    let v = c.args.view.now in
    let piece_is = sym c.in-Some.is ∙ c.piece.ensures in
    told_so rows q v view c.schema-acc.result.now c.slot-slot.result c.in-Some.piece c.schema-acc.ensures c.slot-slot.ensures piece_is c.args.segment.now c.delete_change.result c.args.edit.now E.Delete w c.in-Delete.is
    (deletes rows q v view c.schema-acc.result.now c.slot-slot.result c.in-Some.piece c.schema-acc.ensures c.slot-slot.ensures piece_is c.args.segment.now c.delete_change.result w c.delete_change.ensures)
