-- Data represent one value at most that is held.
use Rattle.std.proofs.Common.{ℕ, ◌≤◌, List, Option}
use Rattle.ild_open_held.proofs.Hamts.{node_within}
use Rattle.ild_data.proofs.AllOf.{all_both}
use Rattle.ild_data.specs.Data.{Data}
use Rattle.ild_data.specs.Limits.{deepest}
use Rattle.ild_open_held.specs.Held.{IsHeld, IsHeldBlock}
use Rattle.ild_schema.proofs.Legibly.{legible}
use Rattle.ild_schema.specs.declared.number.Slot.{Slot}
use Rattle.ild_schema.specs.declared.row.Row.{Row}
use Rattle.ild_schema.specs.Spelled.{IsSpelled}
use Rattle.ild_schema.specs.Value.{Value}
use Rattle.ild_typed.proofs.TreeBlocks.{blocks_nested}
use Rattle.ild_typed.proofs.TreeKept.{kept_value}
use Rattle.ild_typed.proofs.Wholes.{whole_law}
use Rattle.ild_typed.specs.Blocks.{nodes}
use Rattle.ild_typed.specs.Known.{HeldNode, IsKept}
use Rattle.ild_typed.specs.Nested.{BlockIn}
use Rattle.ild_open_held_parts.specs.Laws.{OneIsHeld}

kept : (block : List ℕ → Option (List ℕ)) (h : List ℕ → List ℕ) (rows : List Row) → IsSpelled rows → (room : ℕ) → room ≤ deepest → (s : Slot) (t : Data) (v : Value) → IsHeld block h rows room s t v → IsKept h (HeldNode block) rows s v
kept block h rows spelled room le s t v has =
    let nested = blocks_nested h rows spelled room s v t has.fits has.tree in
    let P : List ℕ → Type 0 = λ b. BlockIn room b × IsHeldBlock block b in
    kept_value P (HeldNode block) (λ n tree b. record { within = node_within n tree room le b.0 block b.1; there = b.1.there }) h rows spelled room s v t has.fits has.tree
    (all_both (BlockIn room) (IsHeldBlock block) (nodes h rows s v) nested.1 has.held)

pub one_is_held : OneIsHeld
one_is_held = λ block h rows schema room le s t v w safe a b.
    let spelled = schema.table.texts.spelled in
    whole_law h block rows (legible rows schema.accepted).clear s safe v w t (kept block h rows spelled room le s t v a) (kept block h rows spelled room le s t w b) a.tree b.tree
