-- The place at which a path ends in a value, and why there is none (IPLD Schemas; IPLD HashMap). The value is plain: of the HAMTs on the
-- path it has the entries.
use Rattle.std.specs.Prelude.{◌≡◌, ℕ, ◌+◌, ◌≤◌, Bool, true, false, IsUtf8, List, [], ◌∷◌, ◌++◌, Option, Some, None, Result, Ok, Err, option_map}
use Rattle.ild_data.specs.Data.{Data}
use Rattle.ild_data.specs.Key.{value_at}
use Rattle.ild_data.specs.Trie.{TrieSlot}
use Rattle.ild_edges.specs.Count.{Rose}
use Rattle.ild_edges.specs.Store.{Moment}
use Rattle.ild_hamt.specs.Descending.{IsTrailOf}
use Rattle.ild_hamt.specs.declared.trail.Trail.{Trail}
use Rattle.ild_path_edits.specs.Edit.{change, del_at, ins_at, new_slot, set_at}
use Rattle.ild_path_edits.specs.Stop.{place_fault}
use Rattle.ild_path_enter.specs.Enters.{EntryThere}
use Rattle.ild_path_entered.specs.Entered.{IsEntered}
use Rattle.ild_path_entry.specs.declared.entry.Entry.{Entry}
use Rattle.ild_path_held.specs.Hamts.{IsTrieIn}
use Rattle.ild_path_held.specs.HeldEdits.{room_at}
use Rattle.ild_path_hops.specs.Hops.{AreHops}
pub use Rattle.ild_path_inward.specs.Inwards.{through}
use Rattle.ild_path_inward.specs.Levels.{met_on}
use Rattle.ild_schema.specs.declared.number.Slot.{Slot}
use Rattle.ild_schema.specs.declared.row.Row.{Row}
use Rattle.ild_schema.specs.Value.{Pairs, map, pairs_list}
use Rattle.ild_script.specs.declared.reply.No.TheVariants as N
use Rattle.ild_typed.specs.OfType.{TestsKeys}
use Rattle.ild_path_edits.specs.Table.{key_fits}
use Rattle.std.specs.Option.{option_map_or}
use Rattle.ild_typed.specs.At.{InSlot, at, last_holder}
use Rattle.ild_typed.specs.Hamt.{whole}
use Rattle.ild_typed.specs.Holder.{Holder}
use Rattle.ild_typed.specs.Node.{IsRoot}
use Rattle.ild_typed.specs.Represented.{represented}
use Rattle.ild_typed_fronts.specs.Front.{in_one_block}
use Rattle.ild_path_place.specs.Holes.{HoleIs}
use Rattle.ild_path_place.specs.Rooms.{RoomIs}
use Rattle.ild_path_place.specs.Tells.{fits_in, hole_in, room_in, slot_in}
use Rattle.ild_path_place.specs.declared.fault.PathFault.{PathFault}
use Rattle.ild_path_place.specs.declared.fault.PathFault.TheVariants as F
use Rattle.ild_path_place.specs.declared.place.End.{End}
use Rattle.ild_path_place.specs.declared.place.End.TheVariants as D
use Rattle.ild_path_place.specs.declared.place.Place.{Place}
use Rattle.ild_path_place.specs.declared.verb.Verb.{Verb}
use Rattle.ild_path_place.specs.declared.verb.Verb.TheVariants as V

-- ---- no place

-- the segment at which there is no place for what is to be done
abbrev pub path_fault : List Row → InSlot → List (List ℕ) → Verb → Option ℕ
path_fault rows p path V.Set = place_fault rows p (set_at path (tt {0}))
path_fault rows p path V.Ins = place_fault rows p (ins_at path (tt {0}))
path_fault rows p path V.Del = place_fault {X = Unit {0}} rows p (del_at path)

-- what is there can't be deleted
abbrev pub IsKept : List Row → InSlot → List (List ℕ) → Verb → Type 0
IsKept rows p path V.Del = (is_key : ℕ → List ℕ → Bool) → change rows is_key p (del_at path) ≡ Err N.Mismatch
IsKept rows p path verb = ⊥

-- ---- how a path ends

-- with a key of a HAMT, one of these entries, all of whose nodes are held: its trail, and the value there, if there is one
pub record IsAtKey (h : List ℕ → List ℕ) (rows : List Row) (was : List (List ℕ)) (room : ℕ) (q : InSlot) (front : List (List ℕ)) (trail : Trail) (entry : Option Entry) : Type 0 where
  pub slot : Slot
  pub elem : Slot
  pub ps : Pairs
  pub es : List (List ℕ × Data)
  pub root : Data
  pub less : ℕ
  pub entered : IsEntered rows q front slot elem ps
  pub left : room_at rows room q front ≡ less + 5
  pub data_is : represented (whole h) rows slot (map ps) ≡ Some root
  pub trie : IsTrieIn h entered.hamt.3 rows was elem ps root es
  pub utf8 : IsUtf8 trail.key
  pub found : (slots : List TrieSlot) → IsRoot entered.hamt.3 slots root → IsTrailOf h entered.hamt.3 trail.key slots es trail
  pub there : EntryThere h rows was elem less (value_at trail.key (pairs_list ps)) entry

-- of the value q of the innermost block
abbrev pub EndsAt : (List ℕ → List ℕ) → List Row → List (List ℕ) → ℕ → InSlot → List (List ℕ) → End → Type 0
EndsAt h rows was room q rest D.Whole = rest ≡ []
EndsAt h rows was room q rest (D.InBlock path) = (path ≡ rest) × (in_one_block rows q rest ≡ true) × ((s : List ℕ) × (ss : List (List ℕ)) × (rest ≡ s ∷ ss))
EndsAt h rows was room q rest (D.AtKey front trail entry) = IsAtKey h rows was room q front trail entry × (rest ≡ front ++ (trail.key ∷ []))

-- ---- what a place tells

-- the slot of the part that comes, or of the one that goes
abbrev pub SlotIs : List Row → InSlot → List (List ℕ) → Verb → Slot → Type 0
SlotIs rows p path V.Set slot = new_slot rows p (set_at path (tt {0})) ≡ Some slot
SlotIs rows p path V.Ins slot = new_slot rows p (ins_at path (tt {0})) ≡ Some slot
SlotIs rows p path V.Del slot = option_map (λ q. q.0) (at rows p path) ≡ Some slot

abbrev pub holder_of_path : List Row → InSlot → List (List ℕ) → Option (Holder × List ℕ)
holder_of_path rows p [] = None
holder_of_path rows p (s ∷ ss) = last_holder rows p s ss

-- whether the last segment may be a key
abbrev pub fits_at : (ℕ → List ℕ → Bool) → List Row → InSlot → List (List ℕ) → Bool
fits_at is_key rows p path = option_map_or (λ l. key_fits is_key l.0 l.1) (holder_of_path rows p path) true

-- ---- the place

pub record IsPlace (h : List ℕ → List ℕ) (rows : List Row) (was : List (List ℕ)) (p : InSlot) (path : List (List ℕ)) (verb : Verb) (place : Place) : Type 0 where
  pub verb_is : place.verb ≡ verb
  pub allowed : path_fault rows p path verb ≡ None
  pub may_go : IsKept rows p path verb → ⊥
  pub inner : InSlot
  pub less : ℕ
  pub hops_are : AreHops h rows was 96 p place.hops.items inner less
  pub rest : List (List ℕ)
  pub split : path ≡ through place.hops.items ++ rest
  pub ends : EndsAt h rows was less inner rest place.end
  pub top : place.end ≡ D.Whole → place.hops.items ≡ []
  pub slot_is : SlotIs rows p path verb (slot_in place)
  pub key : (is_key : ℕ → List ℕ → Bool) → TestsKeys rows is_key → fits_in place ≡ fits_at is_key rows p path
  pub room_is : RoomIs rows p path (room_in place)
  pub hole_is : HoleIs rows p path verb (hole_in place)

abbrev pub LocateAnswer : (List ℕ → List ℕ) → List Row → List (List ℕ) → InSlot → List (List ℕ) → Verb → Moment → Result Place PathFault → Moment → Type 0
LocateAnswer h rows was p path verb m (Ok place) n = IsPlace h rows was p path verb place
LocateAnswer h rows was p path verb m (Err (F.Path k)) n = path_fault rows p path verb ≡ Some k
LocateAnswer h rows was p path verb m (Err F.Mismatch) n = IsKept rows p path verb
LocateAnswer h rows was p path verb m (Err (F.Block id why)) n = ⊥
LocateAnswer h rows was p path verb m (Err F.Store) n = Rose m.faults n.faults
LocateAnswer h rows was p path verb m (Err F.Memory) n = Unit {0}

-- on a store that tells and holds the value
pub record Locates (h : List ℕ → List ℕ) (rows : List Row) (was : List (List ℕ)) (p : InSlot)
    (path : List (List ℕ)) (verb : Verb) (m : Moment) (result : Result Place PathFault) (n : Moment) : Type 0 where
  pub answer : LocateAnswer h rows was p path verb m result n
  pub gets : n.gets ≤ m.gets + met_on h rows p path

-- with the empty path
abbrev pub LocatesWhole : Slot → Verb → Result Place PathFault → Type 0
LocatesWhole slot V.Set (Ok place) = (place.verb ≡ V.Set) × (place.hops.items ≡ []) × (place.end ≡ D.Whole)
    × (place.slot ≡ slot) × (place.key_fits ≡ true) × (place.room ≡ Some 96) × (place.hole ≡ false)
LocatesWhole slot V.Ins (Err e) = e ≡ F.Path 0
LocatesWhole slot V.Del (Err e) = e ≡ F.Mismatch
LocatesWhole slot verb r = ⊥
