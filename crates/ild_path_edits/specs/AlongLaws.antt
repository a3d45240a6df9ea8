-- The laws of judgements along a path, for the values of a slot under the table of an accepted schema: f changes the last holder of a
-- path, l, to one of its type.
use Rattle.std.specs.Prelude.{◌≡◌, ◌↔◌, ℕ, List, Bool, Option, Some, None}
use Rattle.ild_schema.specs.declared.def.TypeDef.{TypeDef}
use Rattle.ild_schema.specs.declared.number.Slot.{Slot}
use Rattle.ild_schema.specs.declared.row.Row.{Row}
use Rattle.ild_schema.specs.Value.{Value}
use Rattle.ild_script.specs.declared.reply.No.{No}
use Rattle.ild_typed.specs.Fits.{Fits}
use Rattle.ild_typed.specs.Judged.{is_hole, breaks}
use Rattle.ild_typed.specs.Holder.{Holder, value_of}
use Rattle.ild_typed.specs.Segment.{set_part}
use Rattle.ild_typed.specs.At.{InSlot, seen, last_holder, changed_in}
use Rattle.ild_typed.specs.OfType.{OfType, TestsKeys}
use Rattle.ild_typed.specs.Schema.{IsSchema}
use Rattle.ild_path_edits.specs.Along.{IsFree, LayerPasses, IsFreeAlong, FitsAlong, IsFirst}
use Rattle.ild_path_edits.specs.Table.{slot_to_set, MayStand}

-- a changed value meets a test nowhere exactly where it doesn't along the path
abbrev pub JudgedAlong : Type 0
JudgedAlong = (rows : List Row) (is_key : ℕ → List ℕ → Bool) (test : Option TypeDef → Value → Bool) → IsSchema rows → TestsKeys rows is_key
    → (f : Holder → List ℕ → Holder) (l : Holder × List ℕ) → ((q : InSlot) → OfType rows q.0 q.1 → seen rows q ≡ l.0 → OfType rows q.0 (value_of (f l.0 l.1)))
    → (p : InSlot) (s : List ℕ) (ss : List (List ℕ)) → OfType rows p.0 p.1 → IsFree test rows p.0 p.1 → last_holder rows p s ss ≡ Some l
    → IsFree test rows p.0 (changed_in rows f p s ss) ↔ IsFreeAlong test rows f p s ss

-- At the last segment, what is set, there before or not, is judged by the test of its holder and by itself.
abbrev pub SetIsJudged : Type 0
SetIsJudged = (rows : List Row) (is_key : ℕ → List ℕ → Bool) (test : Option TypeDef → Value → Bool) → IsSchema rows → TestsKeys rows is_key
    → (p : InSlot) (s : List ℕ) (slot : Slot) (w : Value) → OfType rows p.0 p.1 → IsFree test rows p.0 p.1
    → slot_to_set (seen rows p) s ≡ Some slot → MayStand is_key (seen rows p) s → OfType rows slot w
    → IsFree test rows p.0 (value_of (set_part (seen rows p) s w)) ↔ (LayerPasses test rows p.0 (set_part (seen rows p) s w) × IsFree test rows slot w)

-- a changed value fits in a room exactly where it does along the path
abbrev pub DepthAlong : Type 0
DepthAlong = (rows : List Row) (is_key : ℕ → List ℕ → Bool) → IsSchema rows → TestsKeys rows is_key
    → (f : Holder → List ℕ → Holder) (l : Holder × List ℕ) → ((q : InSlot) → OfType rows q.0 q.1 → seen rows q ≡ l.0 → OfType rows q.0 (value_of (f l.0 l.1)))
    → (room : ℕ) (p : InSlot) (s : List ℕ) (ss : List (List ℕ)) → Fits rows room p.0 p.1 → last_holder rows p s ss ≡ Some l
    → Fits rows room p.0 (changed_in rows f p s ss) ↔ FitsAlong rows room f p s ss

-- The first of hole, delimiter and depth over a changed value is the first along the path of the change, where the value had none.
abbrev pub FirstAlong : Type 0
FirstAlong = (rows : List Row) (is_key : ℕ → List ℕ → Bool) → IsSchema rows → TestsKeys rows is_key
    → (f : Holder → List ℕ → Holder) (l : Holder × List ℕ) → ((q : InSlot) → OfType rows q.0 q.1 → seen rows q ≡ l.0 → OfType rows q.0 (value_of (f l.0 l.1)))
    → (room : ℕ) (p : InSlot) (s : List ℕ) (ss : List (List ℕ)) (o : Option No)
    → IsFirst (IsFree is_hole rows p.0 p.1) (IsFree (breaks rows) rows p.0 p.1) (Fits rows room p.0 p.1) None → last_holder rows p s ss ≡ Some l
    → IsFirst (IsFree is_hole rows p.0 (changed_in rows f p s ss)) (IsFree (breaks rows) rows p.0 (changed_in rows f p s ss)) (Fits rows room p.0 (changed_in rows f p s ss)) o
    ↔ IsFirst (IsFreeAlong is_hole rows f p s ss) (IsFreeAlong (breaks rows) rows f p s ss) (FitsAlong rows room f p s ss) o
