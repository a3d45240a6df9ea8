-- A HAMT entered at a key, and the value of an entry viewed.
use Rattle.std.specs.Prelude.{◌≡◌, ℕ, ◌+◌, ◌≤◌, List, length, Option, Some, Result, Ok, Err}
use Rattle.ild_cbor.specs.declared.node.Node.{Node}
use Rattle.ild_cbor.specs.declared.piece.Piece.TheVariants as P
use Rattle.ild_cbor.specs.declared.why.BlockWhy.{BlockWhy}
use Rattle.ild_cbor.specs.declared.why.BlockWhy.TheVariants as B
use Rattle.ild_cbor.specs.declared.why.Why.{Why}
use Rattle.ild_hamt_climb.specs.Way.{IsRootOf}
use Rattle.ild_data.specs.Data.{Data}
use Rattle.ild_data.specs.Spell.{id_of}
use Rattle.ild_data.specs.Trie.{TrieSlot}
use Rattle.ild_data.specs.TrieShape.{trie_levels}
use Rattle.ild_data.specs.declared.hamt_shape.HamtShape.{HamtShape}
use Rattle.ild_edges.specs.Count.{Rose}
use Rattle.ild_edges.specs.Store.{Moment}
use Rattle.ild_hamt.specs.Descending.{Descends, IsTrailOf}
use Rattle.ild_hamt.specs.declared.trail.Trail.{Trail}
use Rattle.ild_node_slots.specs.declared.fault.HamtFault.{HamtFault}
use Rattle.ild_open_parts.specs.Reads.{OnlyReads}
use Rattle.ild_schema.specs.declared.def.TypeDef.{TypeDef}
use Rattle.ild_schema.specs.declared.number.Slot.{Slot}
use Rattle.ild_schema.specs.declared.number.TypeNo.{TypeNo}
use Rattle.ild_schema.specs.declared.row.Row.{Row}
use Rattle.ild_hamt_trie.specs.Way.{way}
use Rattle.ild_typed.specs.Fits.{Fits}
use Rattle.ild_typed.specs.Layers.{RepresentsSome}
use Rattle.ild_typed.specs.Slots.{element_of}
use Rattle.ild_view.specs.View.{IsViewAt}
use Rattle.ild_view.specs.declared.view.View.{View}
use Rattle.ild_view_walk.specs.Checks.{IsRefusal}
use Rattle.ild_bulk_walker.specs.Trees.{HoldsBelow}
use Rattle.ild_run_follow.specs.inside.Faults.{entered_as}
use Rattle.ild_run_follow.specs.Refuses.{RefusesBlock}
use Rattle.ild_run_follow.specs.Tells.{FailsOnly}
use Rattle.ild_run_follow.specs.declared.fault.ReadFault.{ReadFault}
use Rattle.ild_run_follow.specs.declared.fault.ReadFault.TheVariants as F

abbrev pub EnterAnswer : (List ℕ → List ℕ) → HamtShape → List ℕ → List TrieSlot → List (List ℕ × Data) → Moment → Result Trail ReadFault → Moment → Type 0
EnterAnswer h p k slots es m (Ok t) n = IsTrailOf h p k slots es t
EnterAnswer h p k slots es m (Err F.Path) n = ⊥
EnterAnswer h p k slots es m (Err (F.Block id why)) n = ⊥
EnterAnswer h p k slots es m (Err F.Store) n = Rose m.faults n.faults
EnterAnswer h p k slots es m (Err F.Memory) n = Unit {0}

-- the trie of this shape and these entries is held
pub record HoldsTrie (h : List ℕ → List ℕ) (p : HamtShape) (slots : List TrieSlot) (es : List (List ℕ × Data)) (m : Moment) : Type 0 where
  pub held : List (List ℕ)
  pub told : m.blocks ≡ Some held
  pub root : IsRootOf h p es slots
  pub holds : HoldsBelow h p held (trie_levels p) 0 es

pub record EntersTrie (h : List ℕ → List ℕ) (p : HamtShape) (k : List ℕ) (slots : List TrieSlot) (m : Moment) (result : Result Trail ReadFault) (n : Moment) : Type 0 where
  pub answer : (es : List (List ℕ × Data)) → HoldsTrie h p slots es m → EnterAnswer h p k slots es m result n
  pub gets : (es : List (List ℕ × Data)) → HoldsTrie h p slots es m → n.gets ≤ m.gets + length (way h p k (trie_levels p) 0 es)
  pub only : OnlyReads m n
  pub failed : FailsOnly m result n

-- over every store: the way beneath the root of these slots
pub record WalksTrie (h : List ℕ → List ℕ) (p : HamtShape) (k : List ℕ) (slots : List TrieSlot) (m : Moment) (result : Result Trail ReadFault) (n : Moment) : Type 0 where
  pub found : Result Trail HamtFault
  pub is : result ≡ entered_as found
  pub walk : Descends h p k slots m found n

-- data of an entry are viewed where they have a front in this room
abbrev pub ChecksEntry : List Row → ℕ → Option TypeDef → Node → Data → Result View ReadFault → Type 0
ChecksEntry rows room d node t (Ok view) = (slot : Slot) × (element_of d ≡ Some slot) × IsViewAt rows slot (P.Node node) view × RepresentsSome (Fits rows room) rows slot t
ChecksEntry rows room d node t (Err F.Path) = ⊥
ChecksEntry rows room d node t (Err (F.Block id why)) = (slot : Slot) → element_of d ≡ Some slot → RepresentsSome (Fits rows room) rows slot t → ⊥
ChecksEntry rows room d node t (Err F.Store) = ⊥
ChecksEntry rows room d node t (Err F.Memory) = Unit {0}

-- the block is refused, since the data of an entry in it are none of a HAMT's values, which may nest so many levels
pub record IsRefusedEntry (rows : List Row) (room : ℕ) (d : Option TypeDef) (block : List ℕ) (t : Data) (id : List ℕ) (why : BlockWhy) : Type 0 where
  pub named : id ≡ id_of block
  pub slot : Slot
  pub is : element_of d ≡ Some slot
  pub cause : Why
  pub told : why ≡ B.Shape cause
  pub type : TypeNo
  pub refused : IsRefusal rows room slot t type cause

abbrev pub RefusesEntry : List Row → ℕ → Option TypeDef → List ℕ → Data → Result View ReadFault → Type 0
RefusesEntry rows room d block t r = RefusesBlock (λ id why. IsRefusedEntry rows room d block t id why) r
