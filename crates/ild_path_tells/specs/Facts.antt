-- What is asked of a path for an edit: whether a place is there, and whether its last segment may be a key.
use Rattle.std.specs.Prelude.{ℕ, List, [], ◌∷◌, Bool, true, Option, Some}
use Rattle.std.specs.Option.{option_map_or}
use Rattle.ild_path_edits.specs.Edit.{ins_at, new_slot, set_at}
use Rattle.ild_path_edits.specs.Table.{key_fits, refusal_to_delete}
pub use Rattle.ild_path_edits.specs.Table.{unless_there as unless_some}
use Rattle.ild_path_place.specs.declared.verb.Verb.{Verb}
use Rattle.ild_path_place.specs.declared.verb.Verb.TheVariants as V
use Rattle.ild_path_room.specs.Room.{Coming, by_set, by_insert}
use Rattle.ild_schema.specs.declared.row.Row.{Row}
use Rattle.ild_script.specs.declared.reply.No.{No}
use Rattle.ild_script.specs.declared.reply.No.TheVariants as N
use Rattle.ild_typed.specs.At.{InSlot, last_holder}

-- why there is no place for a verb: path where the table of edits has none, and mismatch where what is there can't be deleted
abbrev pub refusal_at : List Row → InSlot → List (List ℕ) → Verb → Option No
refusal_at rows p path V.Set = unless_some (new_slot rows p (set_at path (tt {0})))
refusal_at rows p path V.Ins = unless_some (new_slot rows p (ins_at path (tt {0})))
refusal_at rows p [] V.Del = Some N.Mismatch
refusal_at rows p (s ∷ ss) V.Del = option_map_or (λ l. refusal_to_delete l.0 l.1) (last_holder rows p s ss) (Some N.Path)

-- the verb by which a part comes
abbrev pub verb_of : Coming → Verb
verb_of by_set = V.Set
verb_of by_insert = V.Ins

-- whether what stands at the end of a path is there, or a text of the key type
abbrev pub key_at : (ℕ → List ℕ → Bool) → List Row → InSlot → List (List ℕ) → Bool
key_at is_key rows p [] = true
key_at is_key rows p (s ∷ ss) = option_map_or (λ l. key_fits is_key l.0 l.1) (last_holder rows p s ss) true
