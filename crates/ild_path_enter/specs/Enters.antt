-- A key of a HAMT looked up: the nodes on its way, and the value there (IPLD HashMap).
use Rattle.std.specs.Option.{ForSome}
use Rattle.std.specs.Prelude.{◌≡◌, ℕ, ◌+◌, ◌≤◌, Bool, List, length, Option, Some, None, Result, Ok, Err}
use Rattle.ild_cbor.specs.declared.why.Why.{Why}
use Rattle.ild_cbor.specs.declared.why.BlockWhy.TheVariants as B
use Rattle.ild_data.specs.Data.{Data}
use Rattle.ild_data.specs.Key.{value_at}
use Rattle.ild_data.specs.Spell.{id_of}
use Rattle.ild_data.specs.Trie.{TrieSlot}
use Rattle.ild_data.specs.TrieShape.{trie_levels}
use Rattle.ild_data.specs.declared.hamt_shape.HamtShape.{HamtShape}
use Rattle.ild_edges.specs.Count.{Rose}
use Rattle.ild_edges.specs.Store.{Moment, block_at}
use Rattle.ild_schema.specs.declared.number.Slot.{Slot}
use Rattle.ild_schema.specs.declared.number.TypeNo.{TypeNo}
use Rattle.ild_schema.specs.declared.row.Row.{Row}
use Rattle.ild_schema.specs.Value.{Value, Pairs, map, pairs_list}
use Rattle.ild_node_slots.specs.declared.fault.HamtFault.{HamtFault}
use Rattle.ild_node_slots.specs.declared.fault.HamtFault.TheVariants as F
use Rattle.ild_hamt_trie.specs.Way.{way}
use Rattle.ild_typed.specs.Node.{IsRoot}
use Rattle.ild_typed.specs.OfType.{TestsKeys}
use Rattle.ild_typed.specs.Schema.{IsSchema}
use Rattle.ild_view_walk.specs.Checks.{IsRefusal}
use Rattle.ild_hamt.specs.Descending.{IsTrailOf, trail_blocks}
use Rattle.ild_open_held.specs.Held.{IsHeld}
use Rattle.ild_open_parts.specs.Sites.{HasEntry, Site}
use Rattle.ild_path_entry.specs.Entry.{IsEntry, data_in}
use Rattle.ild_path_entry.specs.declared.entry.Entry.{Entry}
use Rattle.ild_path_found.specs.Sites.{IsRefusedAt, end_block}
use Rattle.ild_path_nodes.specs.NodeLaws.{IsHamt}
use Rattle.ild_path_held.specs.Hamts.{IsTrieIn}
use Rattle.ild_path_enter.specs.declared.lookup.Entered.{Entered}

-- the item's value, or why it is none
abbrev pub EntryAnswer : List Row → Slot → ℕ → Data → Result Entry HamtFault → Type 0
EntryAnswer rows s room t (Ok e) = IsEntry rows s room t e
EntryAnswer rows s room t (Err (F.Block id why)) = (cause : Why) × (why ≡ B.Shape cause) × (ty : TypeNo) × IsRefusal rows room s t ty cause
EntryAnswer rows s room t (Err F.Memory) = Unit {0}
EntryAnswer rows s room t (Err e) = ⊥

-- the block that is refused is this one
abbrev pub NamesBlock : {A : Type 0} → List ℕ → Result A HamtFault → Type 0
NamesBlock block (Err (F.Block id why)) = id.0 ≡ id_of block
NamesBlock block r = Unit {0}

-- the map of these pairs is held in five levels more than its values have, as the HAMT of these entries with the root t
pub record CanEnter (h : List ℕ → List ℕ) (rows : List Row) (is_key : ℕ → List ℕ → Bool) (was : List (List ℕ))
    (s elem : Slot) (room : ℕ) (t : Data) (ps : Pairs) (es : List (List ℕ × Data)) : Type 0 where
  pub schema : IsSchema rows
  pub keys : TestsKeys rows is_key
  pub hamt : IsHamt rows s elem
  pub held : IsHeld (block_at was) h rows (room + 5) s t (map ps)
  pub trie : IsTrieIn h hamt.3 rows was elem ps t es

-- the value at a key, which is held, as one of its slot
pub record IsValueThere (h : List ℕ → List ℕ) (rows : List Row) (was : List (List ℕ)) (elem : Slot) (room : ℕ) (w : Value) (e : Entry) : Type 0 where
  pub tree : Data
  pub held : IsHeld (block_at was) h rows room elem tree w
  pub entry : IsEntry rows elem room tree e

abbrev pub EntryThere : (List ℕ → List ℕ) → List Row → List (List ℕ) → Slot → ℕ → Option Value → Option Entry → Type 0
EntryThere h rows was elem room None None = Unit {0}
EntryThere h rows was elem room (Some w) (Some e) = IsValueThere h rows was elem room w e
EntryThere h rows was elem room None (Some e) = ⊥
EntryThere h rows was elem room (Some w) None = ⊥

pub record IsEnteredAt (h : List ℕ → List ℕ) (p : HamtShape) (rows : List Row) (was : List (List ℕ)) (elem : Slot)
    (room : ℕ) (t : Data) (ps : Pairs) (es : List (List ℕ × Data)) (k : List ℕ) (r : Entered) : Type 0 where
  pub found : (slots : List TrieSlot) → IsRoot p slots t → IsTrailOf h p k slots es r.trail
  pub value : EntryThere h rows was elem room (value_at k (pairs_list ps)) r.entry

-- no block is refused
abbrev pub EnterAnswer : (List ℕ → List ℕ) → HamtShape → List Row → List (List ℕ) → Slot → ℕ → Data → Pairs → List (List ℕ × Data) → List ℕ → Moment → Result Entered HamtFault → Moment → Type 0
EnterAnswer h p rows was elem room t ps es k m (Ok r) n = IsEnteredAt h p rows was elem room t ps es k r
EnterAnswer h p rows was elem room t ps es k m (Err F.Store) n = Rose m.faults n.faults
EnterAnswer h p rows was elem room t ps es k m (Err F.Memory) n = Unit {0}
EnterAnswer h p rows was elem room t ps es k m (Err e) n = ⊥

pub record EntersHamt (h : List ℕ → List ℕ) (p : HamtShape) (rows : List Row) (was : List (List ℕ)) (elem : Slot) (room : ℕ) (t : Data)
    (ps : Pairs) (es : List (List ℕ × Data)) (k : List ℕ) (m : Moment) (result : Result Entered HamtFault) (n : Moment) : Type 0 where
  pub answer : EnterAnswer h p rows was elem room t ps es k m result n
  pub gets : n.gets ≤ m.gets + length (way h p k (trie_levels p) 0 es)

-- over every store: a block is refused, the store failed, which it did then, or memory is wanting; there is no other fault
abbrev pub FailsOnly : {A : Type 0} → Moment → Result A HamtFault → Moment → Type 0
FailsOnly m (Ok x) n = Unit {0}
FailsOnly m (Err (F.Block id why)) n = Unit {0}
FailsOnly m (Err F.Store) n = Rose m.faults n.faults
FailsOnly m (Err F.Memory) n = Unit {0}
FailsOnly m (Err e) n = ⊥

-- the value is that of the entry at the key, in the block of this id, and one of the values' slot
pub record MeetsEntry (rows : List Row) (told : Option (List (List ℕ))) (z : Site) (id k : List ℕ) (e : Entry) : Type 0 where
  pub there : HasEntry told z id k (data_in e)
  pub entry : IsEntry rows z.value z.room (data_in e) e

-- Over every store: the value is that of the entry at the key, in the last block on the key's way; or a block of the HAMT is refused.
abbrev pub MeetsSite : (List ℕ → List ℕ) → List Row → List ℕ → List ℕ → Site → Moment → Result Entered HamtFault → Moment → Type 0
MeetsSite h rows block k z m (Ok r) n = ForSome r.entry (λ e. MeetsEntry rows m.blocks z (id_of (end_block block (trail_blocks r.trail))) k e)
MeetsSite h rows block k z m (Err (F.Block id why)) n = IsRefusedAt h rows m.blocks m.lacks n.lacks z id.0 why
MeetsSite h rows block k z m (Err e) n = Unit {0}
