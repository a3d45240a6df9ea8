use Rattle.std.proofs.Common.{◌∙◌, ap, subst}
use Rattle.ild_data.specs.Data.{Data}
use Rattle.ild_data.specs.Limits.{IsWithin}
use Rattle.ild_data.specs.Spell.{spell}
use Rattle.ild_node_slots.proofs.Trees.{spelling-of}
use Rattle.ild_node_slots.proofs.spelled.Spelled.as_slice.Goals as goal

pub returns-clause-spelled : goal.returns-clause-spelled
returns-clause-spelled c = c.as_slice.ensures.same ∙ (spelling-of _ c.as_slice.ensures.bytes c.self.invariant).spelled ∙ ap spell c.self.view_is

pub returns-clause-within : goal.returns-clause-within
returns-clause-within c = subst (λ (d : Data). IsWithin d) c.self.view_is (spelling-of _ c.as_slice.ensures.bytes c.self.invariant).within
