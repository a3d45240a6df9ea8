use Rattle.ild_typed.specs.Schema.{IsSchema}
use Rattle.ild_view.specs.View.{table_of}
use Rattle.ild_path_room.proofs.Telling.{schema_of, walked_same, walked_tells}
use Rattle.ild_path_room.proofs.room.room_left.Goals as goal

pub returns-clause-tells : goal.returns-clause-tells
returns-clause-tells c =
    let v = c.args.root.now in
    let schema : IsSchema (table_of v) = schema_of c.schema.result.now (table_of v) c.schema.ensures c.recall.ensures.table c.recall.ensures.accepted in
    walked_tells v c.args.limit c.args.path.now c.room_at.result schema (walked_same v c.args.limit c.as_slice-segments.result.now c.args.path.now c.room_at.result c.as_slice-segments.ensures c.room_at.ensures)
