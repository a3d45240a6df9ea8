-- A row that isn't read: its key or its value is refused.
use Rattle.std.proofs.Common.{inl, inr, ℕ, [], refl}
use Rattle.std.specs.Prelude.{List, Err}
use Rattle.ild_cbor.specs.Block.{IsBlockOf}
use Rattle.ild_data.specs.Data.{Data}
use Rattle.ild_schema.specs.declared.number.Slot.{Slot}
use Rattle.ild_schema.specs.declared.number.TypeNo.{TypeNo}
use Rattle.ild_schema.specs.declared.row.Row.{Row}
use Rattle.ild_typed.specs.Spots.{key_spot}
use Rattle.ild_bulk_walker.specs.declared.row.Row.{Row as Listed}
use Rattle.ild_view_walk.specs.Checks.{Faults, PartFaults}
use Rattle.ild_view_walk.specs.declared.fault.ViewErr.{ViewErr}
use Rattle.ild_view_walk.specs.declared.fault.ViewErr.TheVariants as E
use Rattle.ild_open_parts.specs.Hamts.{RowAnswer, part_fault}

module _ (rows : List Row) (room : ℕ) (key : TypeNo) (value : Slot) (row : Listed) (tree : Data) (spelled : IsBlockOf row.value tree) where
  pub key_refused : (e : ViewErr) → PartFaults rows room (key_spot key row.key []) e → RowAnswer rows room key value row (Err (part_fault row.block e))
  key_refused (E.Shape ty why at) f = (refl, record { tree = tree; spelled = spelled; cause = why; told_is = refl; wrong = inl (ty, f) })
  key_refused E.Memory f = tt

  pub value_refused : (e : ViewErr) → Faults rows room value tree e → RowAnswer rows room key value row (Err (part_fault row.block e))
  value_refused (E.Shape ty why at) f = (refl, record { tree = tree; spelled = spelled; cause = why; told_is = refl; wrong = inr (ty, f) })
  value_refused E.Memory f = tt
