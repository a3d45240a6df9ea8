-- What a check of data against a slot answers (IPLD Schemas, "typed nodes"): there is a front that fits in the room, or the walk
-- refuses a piece, and which.
use Rattle.std.specs.Prelude.{◌≡◌, ℕ, Bool, true, false, List, [], Result, Ok, Err}
use Rattle.ild_data.specs.Data.{Data, text}
use Rattle.ild_cbor.specs.declared.why.Why.{Why}
use Rattle.ild_cbor.specs.declared.why.Why.TheVariants as Y
use Rattle.ild_layer_piece.specs.Answers.{told}
use Rattle.ild_schema.specs.Slots.{plainly}
use Rattle.ild_schema.specs.declared.number.Slot.{Slot}
use Rattle.ild_schema.specs.declared.number.TypeNo.{TypeNo}
use Rattle.ild_schema.specs.declared.row.Row.{Row}
use Rattle.ild_typed.specs.Fits.{Fits}
use Rattle.ild_typed.specs.Layers.{RepresentsSome}
use Rattle.ild_typed.specs.Refused.{Refusal, Refused, part_refusal}
use Rattle.ild_typed.specs.Spots.{Spot, key_spot}
use Rattle.ild_view_walk.specs.declared.fault.ViewErr.{ViewErr}
use Rattle.ild_view_walk.specs.declared.fault.ViewErr.TheVariants as E

-- the refusal of the walk
pub record IsRefusal (rows : List Row) (room : ℕ) (s : Slot) (t : Data) (ty : TypeNo) (why : Why) : Type 0 where
  pub refusal : Refusal
  pub refused : Refused rows room s t refusal
  pub ty_is : refusal.ty ≡ ty
  pub why_is : refusal.why ≡ told why

abbrev pub Faults : List Row → ℕ → Slot → Data → ViewErr → Type 0
Faults rows room s t (E.Shape ty why at) = IsRefusal rows room s t ty why
Faults rows room s t E.Memory = Unit {0}

abbrev pub Checks : List Row → ℕ → Slot → Data → Result (Unit {0}) ViewErr → Type 0
Checks rows room s t (Ok u) = RepresentsSome (Fits rows room) rows s t
Checks rows room s t (Err e) = Faults rows room s t e

-- too little room is told of a key as of any piece
abbrev pub is_depth : Why → Bool
is_depth Y.Depth = true
is_depth w = false

-- the refusal of a part, as that of the whole
pub record IsPartRefusal (rows : List Row) (room : ℕ) (p : Spot) (ty : TypeNo) (why : Why) : Type 0 where
  pub refusal : Refusal
  pub refused : Refused rows room p.slot p.tree refusal
  pub ty_is : (part_refusal p refusal).ty ≡ ty
  pub why_is : (part_refusal p refusal).why ≡ told why

abbrev pub PartFaults : List Row → ℕ → Spot → ViewErr → Type 0
PartFaults rows room p (E.Shape ty why at) = IsPartRefusal rows room p ty why
PartFaults rows room p E.Memory = Unit {0}

-- a text fits as the key of an entry, or the refusal of it as a key
abbrev pub KeyChecks : List Row → ℕ → TypeNo → List ℕ → Result (Unit {0}) ViewErr → Type 0
KeyChecks rows room n k (Ok u) = RepresentsSome (Fits rows room) rows (plainly n) (text k)
KeyChecks rows room n k (Err e) = PartFaults rows room (key_spot n k []) e
