-- One level outward: the value at a key of a HAMT is set to another.
use Rattle.std.specs.Prelude.{◌≡◌, ℕ, Bool, true, IsUtf8, List, [], ◌∷◌, ◌++◌, Some, Result}
use Rattle.std.specs.FinMap.{put as insert}
use Rattle.ild_data.specs.ByteOrder.{bytewise}
use Rattle.ild_data.specs.Data.{Data}
use Rattle.ild_data.specs.Trie.{TrieSlot}
use Rattle.ild_edges.specs.Store.{Moment, block_at}
use Rattle.ild_schema.specs.declared.number.Slot.{Slot}
use Rattle.ild_schema.specs.declared.row.Row.{Row}
use Rattle.ild_schema.specs.Value.{Value, Pairs, map}
use Rattle.ild_node_slots.specs.declared.fault.HamtFault.{HamtFault}
use Rattle.ild_typed.specs.Fits.{Fits}
use Rattle.ild_typed.specs.Hamt.{whole}
use Rattle.ild_typed.specs.Node.{IsRoot}
use Rattle.ild_typed.specs.OfType.{TestsKeys}
use Rattle.ild_typed.specs.Represented.{represented}
use Rattle.ild_typed.specs.Schema.{IsSchema}
use Rattle.ild_view.specs.declared.view.View.{View}
use Rattle.ild_hamt.specs.Descending.{IsTrailOf}
use Rattle.ild_hamt.specs.declared.trail.Trail.{Trail}
use Rattle.ild_open_held.specs.Held.{IsHeld}
use Rattle.ild_typed_fronts.specs.Front.{front}
use Rattle.ild_path_held.specs.Hamts.{IsTrieIn}
use Rattle.ild_path_entered.specs.Entered.{IsEntered}
use Rattle.ild_path_entered.specs.EnteredLaws.{fits_key}
use Rattle.ild_path_entry.specs.Entry.{IsEntry}
use Rattle.ild_path_hop.specs.Levels.{IsRootView, SetsLevel, with_set}
use Rattle.ild_path_hops.specs.declared.hop.Hop.{Hop}

-- The path leads from a value v of this slot, in a room, to a HAMT, the trail is that of a key in it, and w comes to the key: it has the
-- data d, and is held but for its block. The level has the data u then.
pub record IsStep (h : List ℕ → List ℕ) (is_key : ℕ → List ℕ → Bool) (rows : List Row) (s : Slot) (was : List (List ℕ)) (path : List (List ℕ)) (k : List ℕ) (trail : Trail) : Type 0 where
  pub schema : IsSchema rows
  pub keys : TestsKeys rows is_key
  pub room : ℕ
  pub v : Value
  pub t : Data
  pub held : IsHeld (block_at was) h rows room s t v
  pub slot : Slot
  pub elem : Slot
  pub ps : Pairs
  pub es : List (List ℕ × Data)
  pub root : Data
  pub entered : IsEntered rows (s, v) path slot elem ps
  pub data_is : represented (whole h) rows slot (map ps) ≡ Some root
  pub trie : IsTrieIn h entered.hamt.3 rows was elem ps root es
  pub found : (slots : List TrieSlot) → IsRoot entered.hamt.3 slots root → IsTrailOf h entered.hamt.3 k slots es trail
  pub utf8 : IsUtf8 k
  pub key : fits_key is_key rows slot ps k ≡ true
  pub around : ℕ
  pub w : Value
  pub d : Data
  pub comes : IsHeld (block_at was) h rows around elem d w
  pub u : Data
  pub fits : Fits rows room s (with_set rows s v path ps k w)
  pub tree : represented (whole h) rows s (with_set rows s v path ps k w) ≡ Some u

-- so the level becomes v with w at the key
abbrev pub SetsStep : (h : List ℕ → List ℕ) (is_key : ℕ → List ℕ → Bool) (rows : List Row) (s : Slot)
    (was : List (List ℕ)) (path : List (List ℕ)) (k : List ℕ) (trail : Trail) → IsStep h is_key rows s was path k trail
    → Moment → Result (List ℕ) HamtFault → Moment → Type 0
SetsStep h is_key rows s was path k trail x m result n = SetsLevel h x.entered.hamt.3 rows x.room s (with_set rows s x.v path x.ps k x.w) x.u k (insert bytewise k x.d x.es) m result n

-- in the block of a view of v, where w is given by its data
abbrev pub SetsIn : (List ℕ → List ℕ) → List Row → Slot → View → List (List ℕ) → Trail → (Data → Type 0) → Moment → Result (List ℕ) HamtFault → Moment → Type 0
SetsIn h rows s view path trail gives m result n =
    (is_key : ℕ → List ℕ → Bool) (was : List (List ℕ)) (k : List ℕ) → m.blocks ≡ Some was → (x : IsStep h is_key rows s was path k trail) → IsRootView view (front h rows s x.v) x.t → gives x.d
    → SetsStep h is_key rows s was path k trail x m result n

-- in the block of the last hop's entry
abbrev pub SetsBelow : (List ℕ → List ℕ) → List Hop → List (List ℕ) → Trail → (Data → Type 0) → Moment → Result (List ℕ) HamtFault → Moment → Type 0
SetsBelow h hops path trail gives m result n =
    (is_key : ℕ → List ℕ → Bool) (rows : List Row) (s : Slot) (was : List (List ℕ)) (k : List ℕ) (before : List Hop) (above : Hop) → m.blocks ≡ Some was → hops ≡ before ++ above ∷ []
    → (x : IsStep h is_key rows s was path k trail) → IsEntry rows s x.room x.t above.entry → gives x.d → SetsStep h is_key rows s was path k trail x m result n
