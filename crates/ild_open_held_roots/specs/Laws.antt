-- The law of roots that are entered.
use Rattle.std.specs.Prelude.{◌≡◌, ◌≤◌, ℕ, true, List, Some}
use Rattle.ild_data.specs.Data.{Data}
use Rattle.ild_data.specs.Limits.{deepest}
use Rattle.ild_data.specs.Trie.{TrieSlot}
use Rattle.ild_data.specs.declared.hamt_shape.HamtShape.{HamtShape}
use Rattle.ild_edges.specs.Store.{block_at}
use Rattle.ild_schema.specs.Slots.{form_of}
use Rattle.ild_schema.specs.declared.def.MapForm.TheVariants as MF
use Rattle.ild_schema.specs.declared.def.TypeDef.TheVariants as D
use Rattle.ild_schema.specs.declared.number.Slot.{Slot}
use Rattle.ild_schema.specs.declared.number.TypeNo.{TypeNo}
use Rattle.ild_schema.specs.declared.row.Row.{Row}
use Rattle.ild_typed.specs.At.{InSlot}
use Rattle.ild_typed.specs.Node.{IsRoot}
use Rattle.ild_typed.specs.Schema.{IsSchema}
use Rattle.ild_open_held.specs.Held.{IsHeld}
use Rattle.ild_typed_fronts.specs.Front.{is_root}
use Rattle.ild_open_held_roots.specs.Enters.{IsEntered}

-- a HAMT that is held is entered by its root
abbrev pub RootsAreEntered : Type 0
RootsAreEntered =
    (held : List (List ℕ)) (h : List ℕ → List ℕ) (rows : List Row) → IsSchema rows → (room : ℕ) → room ≤ deepest → (p : InSlot) (t : Data) (slots : List TrieSlot)
    → (key : TypeNo) (key_at : ℕ) (value : Slot) (place : ℕ) (shape : HamtShape) → form_of rows p.0 ≡ Some (D.Map key key_at value place (MF.Hamt shape))
    → IsHeld (block_at held) h rows room p.0 t p.1 → is_root rows p ≡ true → IsRoot shape slots t → IsEntered held h rows room p shape slots
