-- Data without parts that are a value of a slot.
use Rattle.std.proofs.Common.{◌≡◌, ℕ, ◌<◌, List, [], length, true, Some, None}
use Rattle.ild_data.specs.Data.{Data}
use Rattle.ild_data.specs.Tree.{IsTree}
use Rattle.ild_schema.specs.Kinds.{meant}
use Rattle.ild_schema.specs.Legible.{IsLegible}
use Rattle.ild_schema.specs.Slots.{form_of}
use Rattle.ild_schema.specs.declared.def.TypeDef.{TypeDef}
use Rattle.ild_schema.specs.declared.number.Slot.{Slot}
use Rattle.ild_schema.specs.declared.row.Row.{Row}
use Rattle.ild_typed.specs.Fits.{Fits}
use Rattle.ild_typed.specs.Layers.{RepresentsSome}
use Rattle.ild_typed.specs.Pieces.{is_null_there, why_at}
use Rattle.ild_typed.specs.Refused.{AreParts}
use Rattle.ild_typed.specs.Schema.{IsSchema}
use Rattle.ild_typed.proofs.WalkForms.{form_there}
use Rattle.ild_typed.proofs.WalkTotal.{null_fits, plain_fits}

pub plain_checks : (rows : List Row) → IsLegible rows → (room : ℕ) (s : Slot) (t : Data) → IsTree t → (d : TypeDef) → form_of rows s ≡ Some d → (why_at room d t ≡ None) × AreParts d t [] → RepresentsSome (Fits rows room) rows s t
plain_checks rows legible room s t tree d is plain = plain_fits rows s t tree legible.clear legible.delims d is room plain.0 plain.1

pub null_checks : (rows : List Row) (room : ℕ) (s : Slot) (t : Data) → IsTree t → is_null_there s t ≡ true → RepresentsSome (Fits rows room) rows s t
null_checks rows room s t tree e = null_fits rows s t tree room e

pub form_of_slot : (rows : List Row) → IsSchema rows → (s : Slot) → s.ty.0 < length rows → (d : TypeDef) × (form_of rows s ≡ Some d)
form_of_slot rows schema s low = form_there rows schema.table.within s low

pub plain_shows : (rows : List Row) → IsSchema rows → IsLegible rows → (room : ℕ) (s : Slot) → s.ty.0 < length rows → (t : Data) → IsTree t
    → ((d : TypeDef) → meant rows s.ty.0 ≡ Some d → (why_at room d t ≡ None) × AreParts d t []) → RepresentsSome (Fits rows room) rows s t
plain_shows rows schema legible room s low t tree opens = let f = form_of_slot rows schema s low in plain_checks rows legible room s t tree f.0 f.1 (opens f.0 f.1)
