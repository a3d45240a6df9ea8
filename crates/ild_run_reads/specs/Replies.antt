-- What a read of the value at a view is answered: the reply due on the plain value, or a refusal for a cause that is there.
use Rattle.std.specs.Prelude.{◌≡◌, ◌⊎◌, ℕ, ◌+◌, ◌≤◌, List, [], Option, Some}
use Rattle.ild_cbor.specs.declared.why.BlockWhy.{BlockWhy}
use Rattle.ild_data.specs.Data.{Data}
use Rattle.ild_data.specs.Limits.{deepest}
use Rattle.ild_edges.specs.Count.{Rose}
use Rattle.ild_edges.specs.Store.{Moment}
use Rattle.ild_open_parts.specs.Broken.{HasBrokenBlock}
use Rattle.ild_open_parts.specs.Reads.{OnlyReads}
use Rattle.ild_script_meaning.specs.Ask as L
use Rattle.ild_script_meaning.specs.Costs.{tell_gets}
use Rattle.ild_script_meaning.specs.Lines.{Setting, in_slot, read_reply}
use Rattle.ild_schema.specs.Slots.{plainly}
use Rattle.ild_schema.specs.Value.{Value}
use Rattle.ild_schema.specs.declared.number.Slot.{Slot}
use Rattle.ild_schema.specs.declared.row.Row.{Row}
use Rattle.ild_script.specs.declared.reply.No.{No}
use Rattle.ild_script.specs.declared.reply.No.TheVariants as N
use Rattle.ild_script.specs.declared.reply.Reply.{Reply}
use Rattle.ild_script.specs.declared.reply.Reply.TheVariants as R
use Rattle.ild_script_session.specs.Step.{IsExcused}
use Rattle.ild_view.specs.View.{slot_of, table_of}
use Rattle.ild_view.specs.declared.view.View.{View}
use Rattle.ild_run_follow.specs.Tells.{ViewIsHeld}
use Rattle.ild_run_follow.specs.declared.fault.ReadFault.{ReadFault}
use Rattle.ild_run_follow.specs.declared.fault.ReadFault.TheVariants as F
use Rattle.ild_run_follow.specs.declared.kind.Tell.{Tell}
use Rattle.ild_run_follow.specs.declared.kind.Tell.TheVariants as T

-- as a line asks for it
abbrev pub asked : Tell → L.Tell
asked T.Shown = L.shown_form
asked T.Representation = L.representation
asked T.Presence = L.presence
asked T.Count = L.count
asked T.Parts = L.list_of_parts

abbrev pub refusal_of : ReadFault → No
refusal_of F.Path = N.Path
refusal_of (F.Block id why) = N.Block
refusal_of F.Store = N.Store
refusal_of F.Memory = N.Memory

-- lines about the value at the view, with this hash of keys
pub record IsAbout (h : List ℕ → List ℕ) (w : Setting) (view : View) : Type 0 where
  pub hash : w.hash ≡ h
  pub rows : w.rows ≡ table_of view
  pub slot : plainly w.ty ≡ slot_of view

-- Where the store tells what it holds, and holds the value at the view. The root's block is not asked for. Of every store: by gets alone, and that
-- it failed is told only where it did.
pub record RepliesAs (h : List ℕ → List ℕ) (view : View) (path : List (List ℕ)) (tell : Tell) (m : Moment) (reply : Reply) (n : Moment) : Type 0 where
  pub answer : (w : Setting) (t : Data) (v : Value) → IsAbout h w view → ViewIsHeld h view m t v → (reply ≡ read_reply w (asked tell) path v) ⊎ IsExcused m [] (Some reply) n n
  pub gets : (w : Setting) (t : Data) (v : Value) → IsAbout h w view → ViewIsHeld h view m t v → n.gets + 1 ≤ m.gets + tell_gets w.hash w.rows (asked tell) (in_slot w v) path
  pub only : OnlyReads m n
  pub failed : reply ≡ R.No N.Store → Rose m.faults n.faults

-- a read tells no root, and puts nothing that could clash
abbrev pub IsOfRead : Reply → Type 0
IsOfRead (R.Root id) = ⊥
IsOfRead (R.No N.Clash) = ⊥
IsOfRead reply = Unit {0}

-- of data of a slot that stand in the block `at`, one block is broken of those that hang on them
pub record IsBlamed (h : List ℕ → List ℕ) (rows : List Row) (told : Option (List (List ℕ))) (before now : ℕ) (at : List ℕ) (s : Slot) (t : Data) : Type 0 where
  pub id : List ℕ
  pub why : BlockWhy
  pub broken : HasBrokenBlock h rows told before now at deepest s t id why
