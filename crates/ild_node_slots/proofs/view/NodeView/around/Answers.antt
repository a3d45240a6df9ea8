use Rattle.std.proofs.Common.{◌≡◌, Bool, true, false, cond, refl}
use mir.Val.{bool_byte}
use Rattle.ild_node_slots.proofs.Around.{around-slot}
use Rattle.ild_node_slots.proofs.view.NodeView.around.Goals as goal

as_number : (b : Bool) → bool_byte b ≡ cond b 1 0
as_number true = refl
as_number false = refl

pub returns : goal.returns
returns c = λ p slots has lt.
    around-slot p c.args.self.now slots c.args.i c.ones_below.result _ c.map_bit-own.result c.items_around.result.0.now c.items_around.result.1.now has lt c.ones_below.ensures
    c.map_bit-own.ensures (as_number c.map_bit-own.result) c.items_around.ensures
