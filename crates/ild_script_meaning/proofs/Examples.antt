-- Lines by example: what the commands that read tell, and how batches go.
use Rattle.std.proofs.Common.{refl}
use Rattle.std.specs.Prelude.{◌≡◌, ℕ, pos, List, [], ◌∷◌, codes, true, false, Some, None, Ok}
use Rattle.ild_data.specs.Data as T
use Rattle.ild_data.specs.Data.{Data, items_of, members_of}
use Rattle.ild_schema.specs.Prelude.{number}
use Rattle.ild_schema.specs.Slots.{plainly}
use Rattle.ild_schema.specs.Value as V
use Rattle.ild_schema.specs.Value.{Value}
use Rattle.ild_script.specs.declared.reply.No.TheVariants as N
use Rattle.ild_script.specs.declared.reply.Reply.TheVariants as R
use Rattle.ild_edges.specs.Store.{Moment}
use Rattle.ild_path_edits.specs.Edit.{Edit, del_at}
use Rattle.ild_typed.specs.At.{InSlot, at}
use Rattle.ild_script_session.specs.Batch.{puts_at, together}
use Rattle.ild_script_session.specs.Session.{State, Stage, idle}
use Rattle.ild_script_meaning.specs.Ask.{shown_form, presence, count, list_of_parts, to_tell_root, to_begin, to_commit, to_abort, unknown}
use Rattle.ild_script_meaning.specs.Costs.{different}
use Rattle.ild_script_meaning.specs.Lines.{Setting, in_slot, told_of, edit_due, due}
use Rattle.ild_script_meaning.specs.PlainMap.{plain_rows, as_value, plain_setting}

abbrev w : Setting
w = plain_setting (λ k. k) (plain_rows (codes "N") 0 0 0) (record { is_key = λ n k. true; fits = λ room s v. true })

abbrev v : Value
v = as_value ((codes "a", pos 1) ∷ (codes "bb", pos 2) ∷ [])

abbrev there : List ℕ → Value → InSlot
there k x = (plainly (number 3), x)

abbrev pair : Data → Data → Data
pair a b = T.list (items_of (a ∷ b ∷ []))

two_entries : told_of w count (Some (in_slot w v)) ≡ Some (T.integer (pos 2))
two_entries = refl

entries_in_order : told_of w list_of_parts (Some (in_slot w v)) ≡ Some (T.list (items_of (pair (T.text (codes "a")) (T.integer (pos 1)) ∷ pair (T.text (codes "bb")) (T.integer (pos 2)) ∷ [])))
entries_in_order = refl

an_entry : told_of w shown_form (at w.rows (in_slot w v) (codes "bb" ∷ [])) ≡ Some (T.integer (pos 2))
an_entry = refl

has_one : told_of w presence (at w.rows (in_slot w v) (codes "a" ∷ [])) ≡ Some (T.boolean true)
has_one = refl

has_none : told_of w presence (at w.rows (in_slot w v) (codes "c" ∷ [])) ≡ Some (T.boolean false)
has_none = refl

no_length_of_an_integer : told_of w count (at w.rows (in_slot w v) (codes "a" ∷ [])) ≡ None
no_length_of_an_integer = refl

elements_by_number : told_of w list_of_parts (Some (plainly (number 5), V.list (V.values_of (V.any (T.boolean true) ∷ V.null ∷ []))))
    ≡ Some (T.list (items_of (pair (T.integer (pos 0)) (T.boolean true) ∷ pair (T.integer (pos 1)) T.null ∷ [])))
elements_by_number = refl

entries_of_any : told_of w list_of_parts (Some (plainly (number 0), V.any (T.map (members_of ((codes "x", T.null) ∷ []))))) ≡ Some (T.list (items_of (pair (T.text (codes "x")) T.null ∷ [])))
entries_of_any = refl

no_parts_of_a_unit : told_of w list_of_parts (Some (plainly (number 0), V.unit)) ≡ None
no_parts_of_a_unit = refl

-- ---- batches

abbrev batch : State Value
batch = record { value = v; begun = Some (as_value []) }

begun_twice : (due w to_begin batch).reply ≡ Some (R.No N.Batch)
begun_twice = refl

begun_here : (due w to_begin (idle v)).next ≡ record { value = v; begun = Some v }
begun_here = refl

nothing_to_commit : (due w to_commit (idle v)).reply ≡ Some (R.No N.Batch)
nothing_to_commit = refl

committed_value : (due w to_commit batch).next ≡ idle v
committed_value = refl

aborted_value : (due w to_abort batch).next ≡ idle (as_value [])
aborted_value = refl

no_root_in_a_batch : (due w to_tell_root batch).reply ≡ Some (R.No N.Batch)
no_root_in_a_batch = refl

outside_the_grammar : (due w unknown batch).reply ≡ Some (R.No N.Line)
outside_the_grammar = refl

-- an edit inside a batch puts nothing, and owes the root block
abbrev gone : Edit (List ℕ)
gone = del_at (codes "a" ∷ [])

edit_in_a_batch : (edit_due w batch gone (Ok v)).puts ≡ 0
edit_in_a_batch = refl

edit_owes_its_way : (edit_due w batch gone (Ok v)).owes ≡ 1
edit_owes_its_way = refl

edit_outside : (edit_due w (idle v) gone (Ok v)).puts ≡ 1
edit_outside = refl

-- a commit puts the one block of the value, where as much is owed
abbrev stage : ℕ → Stage Value
stage owed = record { state = batch; owed = owed; own = [] }

one_block_kept : puts_at (stage 2) (due w to_commit batch) ≡ 1
one_block_kept = refl

nothing_owed : puts_at (stage 0) (due w to_commit batch) ≡ 0
nothing_owed = refl

same_block_once : different ((1 ∷ []) ∷ (2 ∷ []) ∷ (1 ∷ []) ∷ []) ≡ (2 ∷ []) ∷ (1 ∷ []) ∷ []
same_block_once = refl

-- what the store and the batch hold together
abbrev moment : Moment
moment = record { blocks = Some ((1 ∷ []) ∷ []); given = None; gets = 0; puts = 0; lacks = 0; faults = 0; beneath = [] }

held_together : (together moment (record { state = batch; owed = 1; own = (2 ∷ []) ∷ [] })).blocks ≡ Some ((2 ∷ []) ∷ (1 ∷ []) ∷ [])
held_together = refl

held_alone : (together moment (record { state = idle v; owed = 1; own = (2 ∷ []) ∷ [] })).blocks ≡ Some ((1 ∷ []) ∷ [])
held_alone = refl
