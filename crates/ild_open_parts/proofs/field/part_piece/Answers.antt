use Rattle.std.proofs.Common.{[], subst}
use Rattle.ild_struct.specs.Parts.{HasNumber}
use Rattle.ild_open_parts.proofs.Handing.{held_part, null_part}
use Rattle.ild_open_parts.proofs.Lacking.{numbered_free}
use Rattle.ild_open_parts.proofs.field.part_piece.Goals as goal

pub returns-in-Null-clause-stands : goal.returns-in-Null-clause-stands
returns-in-Null-clause-stands c = λ rows f o is. null_part rows f o c.args.part.now c.in-Null.node c.in-Null.is is

pub returns-in-Held-clause-stands : goal.returns-in-Held-clause-stands
returns-in-Held-clause-stands c = λ rows f o is. held_part rows f o c.args.part.now c.in-Held.piece c.in-Held.is is

pub returns-in-Held-clause-free : goal.returns-in-Held-clause-free
returns-in-Held-clause-free c = λ plain. numbered_free c.in-Held.piece (subst (HasNumber []) c.in-Held.is plain)
