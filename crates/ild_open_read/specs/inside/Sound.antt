-- HAMTs that were found sound: their values are held, wherever their roots stand as what they were read as; and nodes beneath roots.
use Rattle.std.specs.Prelude.{◌≡◌, ◌⊎◌, ℕ, ◌+◌, ◌≤◌, ◌++◌, ◌∷◌, [], Bool, false, List, Some, Contains}
use Rattle.ild_cbor.specs.Nodes.{HasData}
use Rattle.ild_cbor.specs.declared.node.Node.{Node}
use Rattle.ild_data.specs.Data.{Data}
use Rattle.ild_data.specs.Limits.{IsWithin, deepest}
use Rattle.ild_data.specs.Spell.{spell}
use Rattle.ild_data.specs.Trie.{child}
use Rattle.ild_edges.specs.Gained.{FromBlocks}
use Rattle.ild_edges.specs.Store.{Moment, block_at}
use Rattle.ild_schema.specs.Slots.{form_of}
use Rattle.ild_schema.specs.Value.{Value}
use Rattle.ild_schema.specs.declared.def.MapForm.TheVariants as MF
use Rattle.ild_schema.specs.declared.def.TypeDef.TheVariants as D
use Rattle.ild_schema.specs.declared.number.Slot.{Slot}
use Rattle.ild_schema.specs.declared.row.Row.{Row}
use Rattle.ild_typed.specs.Pieces.{is_null_there}
use Rattle.ild_open_held.specs.Held.{IsHeld}
use Rattle.ild_open_known.specs.Covers.{IsKnown}
use Rattle.ild_open_known.specs.Roots.{known_in, nodes_in}
use Rattle.ild_open_known.specs.declared.kind.ReadAs.{ReadAs}
use Rattle.ild_open_known.specs.declared.table.Known.{Known}
use Rattle.ild_open_nodes.specs.Nodes.{SlotOwned}

-- some value that data of a slot represent is held
pub record HasHeld (held : List (List ℕ)) (h : List ℕ → List ℕ) (rows : List Row) (room : ℕ) (s : Slot) (t : Data) : Type 0 where
  pub value : Value
  pub is : IsHeld (block_at held) h rows room s t value

-- of data with these bytes, in each slot whose form is this HAMT, in this room and in each greater one: that a value is held follows
-- from blocks that gets gave until this moment
pub record IsSound (h : List ℕ → List ℕ) (rows : List Row) (n : Moment) (r : ReadAs × List ℕ) : Type 0 where
  pub holds : (s : Slot) (t : Data) (key_at place whole : ℕ) → IsWithin t → spell t ≡ r.1
      → form_of rows s ≡ Some (D.Map r.0.key key_at r.0.value place (MF.Hamt r.0.shape)) → r.0.room + 5 ≤ whole → whole ≤ deepest → is_null_there s t ≡ false
      → FromBlocks n (λ held. HasHeld held h rows whole s t)

-- of a node with this id at the end of this way, in HAMTs that are read so: that the entries beneath it belong there, and that their values
-- are held, follows from blocks that gets gave until this moment
pub record IsSoundNode (h : List ℕ → List ℕ) (rows : List Row) (n : Moment) (r : ReadAs × List ℕ × List ℕ) : Type 0 where
  pub holds : (way : List ℕ) (i : ℕ) → r.2 ≡ way ++ i ∷ [] → FromBlocks n (λ held. SlotOwned h r.0.shape rows r.0.room r.0.key r.0.value held way i (child r.1))

pub record AreSound (h : List ℕ → List ℕ) (rows : List Row) (n : Moment) (known : Known) : Type 0 where
  pub each : (r : ReadAs × List ℕ) → Contains (known_in known) r → IsSound h rows n r
  pub nodes : (r : ReadAs × List ℕ × List ℕ) → Contains (nodes_in known) r → IsSoundNode h rows n r

-- nothing is kept, and the bytes at which a root stands are known in no greater room
pub record IsPassed (keep : Bool) (known : Known) (kind : ReadAs) (root : Node) : Type 0 where
  pub off : keep ≡ false
  pub bytes : List ℕ
  pub has : IsKnown (known_in known) kind bytes
  pub tells : (t : Data) → HasData root t → bytes ≡ spell t

-- at most the bytes at which a root stands came to those that are known
pub record Remembers (old new : Known) (kind : ReadAs) (root : Node) : Type 0 where
  pub bytes : List ℕ
  pub tells : (t : Data) → HasData root t → bytes ≡ spell t
  pub added : (r : ReadAs × List ℕ) → Contains (known_in new) r → Contains (known_in old) r ⊎ (r ≡ (kind, bytes))
  pub nodes : nodes_in new ≡ nodes_in old
