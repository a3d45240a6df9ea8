-- What the place of an edit tells of the changed value: by the last holder of the path, as the edit changes it.
use Rattle.std.specs.Prelude.{◌≡◌, ℕ, List, [], ◌∷◌, Bool, false, Option, Some, None, option_and_then}
use Rattle.std.specs.Option.{option_map_or}
use Rattle.ild_schema.specs.declared.row.Row.{Row}
use Rattle.ild_schema.specs.Slots.{form_of}
use Rattle.ild_schema.specs.Value.{Value}
use Rattle.ild_typed.specs.At.{InSlot, seen}
use Rattle.ild_typed.specs.Holder.{Holder, value_of}
use Rattle.ild_typed.specs.Judged.{is_hole, is_exhausted}
use Rattle.ild_typed.specs.Segment.{part, set_part}
use Rattle.ild_path_edits.specs.Edit.{Edit, set_at, ins_at, del_at, path_of}
use Rattle.ild_path_edits.specs.Table.{insert_part, delete_part}
use Rattle.ild_path_room.specs.Room.{Coming, by_set, by_insert, TellsRoom}

-- the edit by which a part comes to the end of a path
abbrev pub bringing : Coming → List (List ℕ) → Value → Edit Value
bringing by_set path w = set_at path w
bringing by_insert path w = ins_at path w

-- what an edit makes of a holder, at a segment
abbrev pub made_by : Edit Value → Holder → List ℕ → Holder
made_by (set_at path w) k s = set_part k s w
made_by (ins_at path w) k s = insert_part k s w
made_by (del_at path) k s = delete_part k s

-- the part in which the last of the segments is sought, and that segment; of an empty path there is none
abbrev pub last_in : List Row → InSlot → List ℕ → List (List ℕ) → Option (InSlot × List ℕ)
last_in rows p s [] = Some (p, s)
last_in rows p s (t ∷ ss) = option_and_then (λ q. last_in rows q t ss) (part (seen rows p) s)

abbrev pub last_of : List Row → InSlot → List (List ℕ) → Option (InSlot × List ℕ)
last_of rows p [] = None
last_of rows p (s ∷ ss) = last_in rows p s ss

-- the last holder as it becomes
abbrev pub made_at : List Row → Edit Value → InSlot × List ℕ → Value
made_at rows e l = value_of (made_by e (seen rows l.0) l.1)

-- it has a hole then, or has no trie
abbrev pub hole_at : List Row → InSlot → Edit Value → Bool
hole_at rows p e = option_map_or (λ l. is_hole (form_of rows (l.0).0) (made_at rows e l)) (last_of rows p (path_of e)) false

abbrev pub exhausts_at : (List ℕ → List ℕ) → List Row → InSlot → Edit Value → Bool
exhausts_at h rows p e = option_map_or (λ l. is_exhausted h rows (form_of rows (l.0).0) (made_at rows e l)) (last_of rows p (path_of e)) false

-- the room that is left at the end of a path
abbrev pub IsRoomAt : List Row → ℕ → InSlot → List (List ℕ) → Option ℕ → Type 0
IsRoomAt rows limit p [] o = o ≡ Some limit
IsRoomAt rows limit p (s ∷ ss) o = TellsRoom rows limit p (s ∷ ss) o
