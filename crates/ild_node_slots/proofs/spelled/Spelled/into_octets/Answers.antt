use Rattle.std.proofs.Common.{◌∙◌, ap}
use Rattle.ild_data.specs.Spell.{spell}
use Rattle.ild_node_slots.proofs.Trees.{spelling-of}
use Rattle.ild_node_slots.proofs.spelled.Spelled.into_octets.Goals as goal

pub returns : goal.returns
returns c = (spelling-of _ c.as_slice-bytes.ensures.bytes c.self.invariant).spelled ∙ ap spell c.self.view_is
