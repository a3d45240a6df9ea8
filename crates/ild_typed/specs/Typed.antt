-- Values of a slot's type (IPLD Schemas, "typed nodes"): they fit in some room, and no root of a HAMT stands for its entries.
use Rattle.std.specs.Prelude.{ℕ, IsTrue, List}
use Rattle.ild_schema.specs.declared.number.Slot.{Slot}
use Rattle.ild_schema.specs.declared.row.Row.{Row}
use Rattle.ild_schema.specs.Value.{Value}
use Rattle.ild_schema.specs.Whole.{is_whole}
use Rattle.ild_typed.specs.Fits.{Fits}

abbrev pub Typed : List Row → Slot → Value → Type 0
Typed rows s v = (room : ℕ) × Fits rows room s v × IsTrue (is_whole v)
