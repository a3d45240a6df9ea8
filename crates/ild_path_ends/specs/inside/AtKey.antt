-- An edit of an entry of a HAMT in a block.
use Rattle.std.specs.Prelude.{◌≡◌, ℕ, Bool, true, IfSome, is_some, List, [], ◌∷◌, ◌++◌, Option, Some, Result}
use Rattle.std.specs.FinMap.{put as insert}
use Rattle.ild_cbor.specs.Nodes.{HasData}
use Rattle.ild_cbor.specs.declared.node.Node.{Node}
use Rattle.ild_data.specs.ByteOrder.{bytewise, without as remove}
use Rattle.ild_data.specs.Data.{Data}
use Rattle.ild_data.specs.Key.{value_at}
use Rattle.ild_data.specs.Limits.{deepest}
use Rattle.ild_edges.specs.Store.{Moment, block_at}
use Rattle.ild_schema.specs.declared.number.Slot.{Slot}
use Rattle.ild_schema.specs.declared.row.Row.{Row}
use Rattle.ild_schema.specs.Value.{Value, pairs_list}
use Rattle.ild_node_slots.specs.declared.fault.HamtFault.{HamtFault}
use Rattle.ild_typed.specs.At.{InSlot}
use Rattle.ild_typed.specs.Fits.{Fits}
use Rattle.ild_typed.specs.Hamt.{whole}
use Rattle.ild_typed.specs.OfType.{TestsKeys}
use Rattle.ild_typed.specs.Represented.{represented}
use Rattle.ild_typed.specs.Schema.{IsSchema}
use Rattle.ild_view.specs.View.{slot_of, table_of}
use Rattle.ild_view.specs.declared.view.View.{View}
use Rattle.ild_hamt.specs.declared.trail.Trail.{Trail}
use Rattle.ild_open_held.specs.Held.{IsHeld}
use Rattle.ild_path_block.specs.Edits.{IsRootView}
use Rattle.ild_path_block.specs.declared.edit.PartEdit.{PartEdit}
use Rattle.ild_typed_fronts.specs.Front.{front as showing}
use Rattle.ild_path_entered.specs.EnteredLaws.{fits_key}
use Rattle.ild_path_entry.specs.Entry.{data_in}
use Rattle.ild_path_entry.specs.declared.entry.Entry.{Entry}
use Rattle.ild_path_outward.specs.Level.{IsLevel, SetsLevel, with_cut, with_set}
use Rattle.ild_path_hops.specs.Hops.{AreHops}
use Rattle.ild_path_hops.specs.HopLaws.{path_of_hops}
use Rattle.ild_path_hops.specs.declared.hop.Hop.{Hop}
use Rattle.ild_path_outward.specs.Outward.{SetsEnd, with_end}
use Rattle.ild_path_ends.specs.Parts.{IsChange}
use Rattle.ild_path_ends.specs.Steps.{IsKeyIn}

-- an entry with the item's data
abbrev pub MakesEntry : Node → Option Entry → Type 0
MakesEntry n result = (t : Data) → HasData n t → IfSome result (λ e. data_in e ≡ t)

-- a value of this slot in a room is held, and the path leads in its block to a HAMT
pub record IsKeyLevel (h : List ℕ → List ℕ) (is_key : ℕ → List ℕ → Bool) (rows : List Row) (s : Slot) (was : List (List ℕ)) (front : List (List ℕ)) (k : List ℕ) (found : Trail) : Type 0 where
  pub schema : IsSchema rows
  pub keys : TestsKeys rows is_key
  pub less : ℕ
  pub v : Value
  pub t : Data
  pub held : IsHeld (block_at was) h rows less s t v
  pub key : IsKeyIn h rows was (s, v) front k found

-- what the item stands for is set at the key
pub record IsKeySet (h : List ℕ → List ℕ) (is_key : ℕ → List ℕ → Bool) (rows : List Row) (s : Slot) (was : List (List ℕ)) (front : List (List ℕ)) (k : List ℕ) (found : Trail) (n : Node) : Type 0 where
  pub level : IsKeyLevel h is_key rows s was front k found
  pub fitting : fits_key is_key rows level.key.slot level.key.ps k ≡ true
  pub around : ℕ
  pub w : Value
  pub d : Data
  pub comes : IsHeld (block_at was) h rows around level.key.elem d w
  pub stands : HasData n d
  pub u : Data
  pub tree : represented (whole h) rows s (with_set rows s level.v front level.key.ps k w) ≡ Some u
  pub fits : Fits rows level.less s (with_set rows s level.v front level.key.ps k w)

abbrev pub SetsKey : (List ℕ → List ℕ) → List Row → Slot → View → List (List ℕ) → Trail → Node → Moment → Result (List ℕ) HamtFault → Moment → Type 0
SetsKey h rows s view front found n m result k =
    (is_key : ℕ → List ℕ → Bool) (was : List (List ℕ)) (key : List ℕ) → m.blocks ≡ Some was
    → (x : IsKeySet h is_key rows s was front key found n) → IsRootView view (showing h rows s x.level.v) x.level.t
    → SetsLevel h x.level.key.entered.hamt.3 rows x.level.less s (with_set rows s x.level.v front x.level.key.ps key x.w) x.u key (insert bytewise key x.d x.level.key.es) m result k

-- the entry at the key goes
pub record IsKeyCut (h : List ℕ → List ℕ) (is_key : ℕ → List ℕ → Bool) (rows : List Row) (s : Slot) (was : List (List ℕ)) (front : List (List ℕ)) (k : List ℕ) (found : Trail) : Type 0 where
  pub level : IsKeyLevel h is_key rows s was front k found
  pub there : is_some (value_at k (pairs_list level.key.ps)) ≡ true
  pub u : Data
  pub tree : represented (whole h) rows s (with_cut rows s level.v front level.key.ps k) ≡ Some u
  pub fits : Fits rows level.less s (with_cut rows s level.v front level.key.ps k)

abbrev pub CutsKey : (List ℕ → List ℕ) → List Row → Slot → View → List (List ℕ) → Trail → Moment → Result (List ℕ) HamtFault → Moment → Type 0
CutsKey h rows s view front found m result k =
    (is_key : ℕ → List ℕ → Bool) (was : List (List ℕ)) (key : List ℕ) → m.blocks ≡ Some was
    → (x : IsKeyCut h is_key rows s was front key found) → IsRootView view (showing h rows s x.level.v) x.level.t
    → SetsLevel h x.level.key.entered.hamt.3 rows x.level.less s (with_cut rows s x.level.v front x.level.key.ps key) x.u key (remove key x.level.key.es) m result k

-- ---- behind the hops

-- the innermost value becomes another, so that the whole is c; its new nodes were put, or why not
pub record MakesAtKey (h : List ℕ → List ℕ) (rows : List Row) (s : Slot) (v : Value) (hops : List Hop) (q : InSlot) (less : ℕ)
    (path : List (List ℕ)) (c : Value) (m : Moment) (result : Result (List ℕ) HamtFault) (n : Moment) : Type 0 where
  pub new : Value
  pub tree : Data
  pub made : with_end rows s v hops new ≡ c
  pub tree_is : represented (whole h) rows q.0 new ≡ Some tree
  pub fits : Fits rows less q.0 new
  pub ends : SetsEnd h rows less q.0 new tree path m result n

abbrev pub ChangesAtKey : (List ℕ → List ℕ) → View → List Hop → List (List ℕ) → Trail → PartEdit → Moment → Result (List ℕ) HamtFault → Moment → Type 0
ChangesAtKey h view hops front found edit m result n =
    (is_key : ℕ → List ℕ → Bool) (was : List (List ℕ)) (v w c : Value) (t u : Data) (q : InSlot) (less : ℕ) (k : List ℕ) → m.blocks ≡ Some was → IsLevel h is_key was deepest v t view
    → AreHops h (table_of view) was deepest (slot_of view, v) hops q less → IsKeyIn h (table_of view) was q front k found
    → IsChange h (table_of view) is_key was deepest (slot_of view, v) (path_of_hops hops ++ (front ++ (k ∷ []))) edit w c u
    → MakesAtKey h (table_of view) (slot_of view) v hops q less (front ++ (k ∷ [])) c m result n
