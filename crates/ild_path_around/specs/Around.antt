-- Whether an edit at a place breaks a delimiter rule (IPLD Schemas, "stringjoin", "stringpairs").
use Rattle.std.specs.Borrow.{Bor}
use Rattle.std.specs.List.{AllByRecursion}
use Rattle.std.specs.Prelude.{◌≡◌, ℕ, Bool, false, IfOk, IsUtf8, List, Option, Some, None, Result, Ok, option_map}
use Rattle.std.specs.declared.alloc.AllocError.{AllocError}
use Rattle.ild_build.specs.TextRep.{text_rep}
use Rattle.ild_data.specs.Data.{Data}
use Rattle.ild_path_delimiter.specs.TextEdits.{TextIs, edit_of}
use Rattle.ild_path_delimiter.specs.declared.delimiter.TextEdit.{TextEdit}
use Rattle.ild_path_delimiter.specs.declared.delimiter.TextEdit.TheVariants as E
use Rattle.ild_path_edits.specs.Along.{IsFree}
use Rattle.ild_path_edits.specs.Edit.{change, del_at}
use Rattle.ild_path_inward.specs.Inwards.{CanGoOn}
use Rattle.ild_path_judged.specs.Place.{bringing}
use Rattle.ild_path_place.specs.Parts.{hops_in}
use Rattle.ild_path_place.specs.Places.{IsPlace}
use Rattle.ild_path_place.specs.Rooted.{IsRootedAt}
use Rattle.ild_path_place.specs.Tells.{root_at, slot_in}
use Rattle.ild_path_place.specs.declared.place.Place.{Place}
use Rattle.ild_path_place.specs.declared.verb.Verb.{Verb}
use Rattle.ild_path_place.specs.declared.verb.Verb.TheVariants as V
use Rattle.ild_path_room.specs.Room.{Coming}
use Rattle.ild_path_tells.specs.Facts.{verb_of}
use Rattle.ild_schema.specs.Clear.{IsSafe}
use Rattle.ild_schema.specs.Value.{Value}
use Rattle.ild_schema.specs.declared.row.Row.{Row}
use Rattle.ild_typed.specs.At.{InSlot}
use Rattle.ild_typed.specs.Judged.{breaks, breaks_delimiter}
use Rattle.ild_typed.specs.OfType.{OfType, TestsKeys}
use Rattle.ild_typed_fronts.specs.Front.{front_in}

-- the edit of a text that a verb is, where a text comes or what is there goes
abbrev pub text_edit_of : Verb → Option (Bor (List ℕ)) → Option TextEdit
text_edit_of V.Set None = None
text_edit_of V.Set (Some t) = Some (E.Set t)
text_edit_of V.Ins None = None
text_edit_of V.Ins (Some t) = Some (E.Insert t)
text_edit_of V.Del text = Some E.Delete

-- whether the same edit breaks a rule in the innermost block, told at its front
abbrev pub TellsInBlock : Place → List (List ℕ) → TextEdit → Result Bool AllocError → Type 0
TellsInBlock place path edit result =
    (h : List ℕ → List ℕ) (rows : List Row) (was : List (List ℕ)) (room : ℕ) (q : InSlot) (d : Data) (w m : Value) (is_key : ℕ → List ℕ → Bool)
    → CanGoOn h rows was room q d (root_at place) (hops_in place) → TestsKeys rows is_key
    → IsFree (breaks rows) rows q.0 (front_in h rows q).1 → TextIs rows (front_in h rows q) path edit w
    → change rows is_key (front_in h rows q) (edit_of edit w path) ≡ Ok m → IfOk result (λ b. b ≡ breaks_delimiter rows q.0 m)

-- a part comes that breaks none by itself, and this is its text, where it has one
abbrev pub TellsComing : Place → Option (Bor (List ℕ)) → Result Bool AllocError → Type 0
TellsComing place text result =
    (h : List ℕ → List ℕ) (rows : List Row) (was : List (List ℕ)) (p : InSlot) (how : Coming) (path : List (List ℕ))
    (w c : Value) (is_key : ℕ → List ℕ → Bool) → IsPlace h rows was p path (verb_of how) place
    → IsRootedAt h rows was p place → TestsKeys rows is_key → AllByRecursion IsUtf8 path → IsSafe rows (slot_in place) → OfType rows (slot_in place) w → breaks_delimiter rows (slot_in place) w ≡ false
    → option_map (λ t. t.now) text ≡ text_rep rows (slot_in place) w → change rows is_key p (bringing how path w) ≡ Ok c → IfOk result (λ b. b ≡ breaks_delimiter rows p.0 c)

-- what is there goes
abbrev pub TellsGoing : Place → Result Bool AllocError → Type 0
TellsGoing place result =
    (h : List ℕ → List ℕ) (rows : List Row) (was : List (List ℕ)) (p : InSlot) (path : List (List ℕ)) (c : Value) (is_key : ℕ → List ℕ → Bool)
    → IsPlace h rows was p path V.Del place → IsRootedAt h rows was p place
    → TestsKeys rows is_key → AllByRecursion IsUtf8 path → change rows is_key p (del_at path) ≡ Ok c → IfOk result (λ b. b ≡ breaks_delimiter rows p.0 c)
