-- What an edit at a place answers, and what it leaves in a store.
use Rattle.std.specs.Prelude.{◌≡◌, ℕ, ◌+◌, ◌≤◌, ◌<◌, Bool, IfErr, IfOk, List, ◌∷◌, length, Some, Result, Ok, Err, Contains}
use Rattle.std.specs.List.{AllByRecursion}
use Rattle.ild_edges.specs.Gained.{AreIdsGiven, Clashes}
use Rattle.ild_cbor.specs.Nodes.{HasData as StandsFor}
use Rattle.ild_cbor.specs.declared.node.Node.{Node}
use Rattle.ild_data.specs.Data.{Data}
use Rattle.ild_data.specs.Limits.{deepest, longest_block}
use Rattle.ild_data.specs.Spell.{id_of, spell}
use Rattle.ild_edges.specs.Count.{Rose}
use Rattle.ild_edges.specs.Store.{Moment, Later, block_at}
use Rattle.ild_edges.specs.Told.{IfTold}
use Rattle.ild_open_held.specs.Held.{IsHeld}
use Rattle.ild_path_edits.specs.Edit.{Edit, change, del_at, ins_at, new_slot, set_at}
use Rattle.ild_path_way.specs.Way.{nodes_met}
use Rattle.ild_path_place.specs.Places.{IsPlace}
use Rattle.ild_path_place.specs.Rooted.{IsRootedAt}
use Rattle.ild_path_place.specs.Tells.{table_at}
use Rattle.ild_path_place.specs.declared.place.Place.{Place}
use Rattle.ild_path_place.specs.declared.verb.Verb.{Verb}
use Rattle.ild_path_place.specs.declared.verb.Verb.TheVariants as V
use Rattle.ild_path.specs.declared.fault.EditFault.{EditFault}
use Rattle.ild_path.specs.declared.fault.EditFault.TheVariants as F
use Rattle.ild_schema.specs.Slots.{plainly}
use Rattle.ild_schema.specs.Value.{Value}
use Rattle.ild_schema.specs.declared.number.Slot.{Slot}
use Rattle.ild_schema.specs.declared.number.TypeNo.{TypeNo}
use Rattle.ild_schema.specs.declared.row.Row.{Row}
use Rattle.ild_script_meaning.specs.Costs.{blocks_met}
use Rattle.ild_script_meaning.specs.Lines.{short}
use Rattle.ild_script_session.specs.Step.{AddsOnly, AddsWhole, Collides}
use Rattle.ild_typed.specs.At.{InSlot}
use Rattle.ild_typed.specs.Fits.{Fits}
use Rattle.ild_typed.specs.Hamt.{whole}
use Rattle.ild_typed.specs.OfType.{TestsKeys}
use Rattle.ild_typed.specs.Represented.{represented}
use Rattle.ild_typed.specs.Stands.{Stands, bare, blocks_of}
use Rattle.ild_typed_places.specs.Places.{children_in}

-- ---- what is edited

-- what comes by a verb
abbrev pub ComesBy : Verb → List (List ℕ) → Value → Edit Value → Type 0
ComesBy V.Set path w e = e ≡ set_at path w
ComesBy V.Ins path w e = e ≡ ins_at path w
ComesBy verb path w e = ⊥

-- the changed value of an edit, which nests within the limit and has data
pub record IsChanged (h : List ℕ → List ℕ) (rows : List Row) (p : InSlot) (e : Edit Value) (c : Value) (u : Data) : Type 0 where
  pub is_key : ℕ → List ℕ → Bool
  pub keys : TestsKeys rows is_key
  pub made : change rows is_key p e ≡ Ok c
  pub tree : represented (whole h) rows p.0 c ≡ Some u
  pub fits : Fits rows deepest p.0 c

-- Over a store that tells its blocks: the value v of a type is held, and the place is one in it.
pub record IsPlaceOf (h : List ℕ → List ℕ) (rows : List Row) (was : List (List ℕ)) (n : TypeNo) (v : Value) (path : List (List ℕ)) (verb : Verb) (place : Place) : Type 0 where
  pub rooted : IsRootedAt h rows was (plainly n, v) place
  pub is : IsPlace h rows was (plainly n, v) path verb place

-- the part is w, a value of the slot to which it goes, all of whose nodes are held
pub record IsHeldPart (h : List ℕ → List ℕ) (rows : List Row) (was : List (List ℕ)) (slot : Slot) (part : Node) (w : Value) : Type 0 where
  pub room : ℕ
  pub tree : Data
  pub held : IsHeld (block_at was) h rows room slot tree w
  pub stands_for : StandsFor part tree

-- ---- what is answered

-- the root block of the changed value c, all of whose blocks are held, none too long; or why not
abbrev pub ReplaceAnswer : (List ℕ → List ℕ) → List Row → TypeNo → Value → Data → Moment → Result (List ℕ) EditFault → Moment → Type 0
ReplaceAnswer h rows n c u m (Ok b) k = (b ≡ spell u) × AllByRecursion (λ y. length y ≤ longest_block) (blocks_of bare h rows n c u)
    × IfTold k.blocks (λ now. Stands bare (block_at now) h rows n (id_of b) c)
ReplaceAnswer h rows n c u m (Err F.Exhausted) k = ⊥
ReplaceAnswer h rows n c u m (Err F.NoKey) k = ⊥
ReplaceAnswer h rows n c u m (Err F.Size) k = (b : List ℕ) × Contains (blocks_of bare h rows n c u) b × (longest_block < length b)
ReplaceAnswer h rows n c u m (Err F.Store) k = Rose m.faults k.faults
ReplaceAnswer h rows n c u m (Err (F.Clash id kept new)) k = (x : Collides k (short (blocks_of bare h rows n c u))) × (x.kept ≡ kept) × (x.new ≡ new)
ReplaceAnswer h rows n c u m (Err F.Memory) k = Unit {0}

-- At every exit, blocks of the changed value that are not too long came alone, each with its children held, by as many puts as there are on
-- the way at most. After an Ok all on the way are given, the root block's id too.
pub record Replaces (h : List ℕ → List ℕ) (rows : List Row) (n : TypeNo) (path : List (List ℕ)) (c : Value) (u : Data) (m : Moment) (result : Result (List ℕ) EditFault) (k : Moment) : Type 0 where
  pub answer : ReplaceAnswer h rows n c u m result k
  pub adds : AddsOnly m k (short (blocks_of bare h rows n c u))
  pub whole : AddsWhole m k (children_in bare h rows n c)
  pub puts : k.puts ≤ m.puts + blocks_met h rows (plainly n, c) path
  pub given : IfOk result (λ b. IfTold k.given (AreIdsGiven (spell u ∷ nodes_met h rows (plainly n, c) path)))

-- where the store tells its blocks, and holds the value in which the place is, and the nodes of the part
abbrev pub Brings : (List ℕ → List ℕ) → Place → Node → Moment → Result (List ℕ) EditFault → Moment → Type 0
Brings h place part m result k =
    (held : List (List ℕ)) (n : TypeNo) (v w c : Value) (u : Data) (path : List (List ℕ)) (verb : Verb) (e : Edit Value)
    → m.blocks ≡ Some held → IsPlaceOf h (table_at place) held n v path verb place → ComesBy verb path w e
    → ((slot : Slot) → new_slot (table_at place) (plainly n, v) e ≡ Some slot → IsHeldPart h (table_at place) held slot part w) → IsChanged h (table_at place) (plainly n, v) e c u
    → Replaces h (table_at place) n path c u m result k

abbrev pub Erases : (List ℕ → List ℕ) → Place → Moment → Result (List ℕ) EditFault → Moment → Type 0
Erases h place m result k =
    (held : List (List ℕ)) (n : TypeNo) (v c : Value) (u : Data) (path : List (List ℕ)) → m.blocks ≡ Some held
    → IsPlaceOf h (table_at place) held n v path V.Del place → IsChanged h (table_at place) (plainly n, v) (del_at path) c u
    → Replaces h (table_at place) n path c u m result k

-- over every store: it failed only where faults rose, and only two byte strings with one id clash
abbrev pub EditCause : Moment → EditFault → Moment → Type 0
EditCause m F.Store k = Rose m.faults k.faults
EditCause m (F.Clash id kept new) k = Clashes k id.0 kept new
EditCause m F.Exhausted k = Unit {0}
EditCause m F.NoKey k = Unit {0}
EditCause m F.Size k = Unit {0}
EditCause m F.Memory k = Unit {0}

pub record Spares (m : Moment) (result : Result (List ℕ) EditFault) (k : Moment) : Type 0 where
  pub cause : IfErr result (λ e. EditCause m e k)
  pub later : Later m k
  pub gets : k.gets ≡ m.gets
