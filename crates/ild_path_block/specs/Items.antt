-- The item of what a holder becomes where an edit changes one of its parts.
use Rattle.ild_schema.specs.declared.def.MapForm.{MapForm}
use Rattle.ild_schema.specs.declared.def.MapForm.TheVariants as M
use Rattle.ild_schema.specs.declared.def.StructForm.{StructForm}
use Rattle.ild_schema.specs.declared.def.StructForm.TheVariants as S
use Rattle.ild_schema.specs.declared.def.TypeDef.{TypeDef}
use Rattle.ild_schema.specs.declared.def.TypeDef.TheVariants as T
use Rattle.std.specs.Prelude.{◌≡◌, ℕ, Bool, true, false, List, Option, Some, None, Result, Ok, Err}
use Rattle.ild_data.specs.Data.{Data}
use Rattle.ild_data.specs.Spell.{spell}
use Rattle.ild_path_block.specs.Changes.{Allows, in_last}
use Rattle.ild_path_block.specs.declared.edit.PartEdit.{PartEdit}
use Rattle.ild_path_holder.specs.Along.{is_holder}
use Rattle.ild_path_last.specs.Change.{becomes}
use Rattle.ild_schema.specs.Slots.{form_of}
use Rattle.ild_schema.specs.Value.{Value}
use Rattle.ild_schema.specs.declared.row.Row.{Row}
use Rattle.ild_splice.specs.Made.{MakesBytes}
use Rattle.ild_splice.specs.declared.error.SpliceErr.{SpliceErr}
use Rattle.ild_splice.specs.declared.error.SpliceErr.TheVariants.{Memory, Size}
use Rattle.ild_typed.specs.At.{InSlot, seen}
use Rattle.ild_view.specs.View.{IsView, slot_of, table_of}
use Rattle.ild_view.specs.declared.view.View.{View}

-- ---- forms

-- maps and structs that stand as the text of their pairs
abbrev pub is_pairs_map : MapForm → Bool
is_pairs_map M.Map = false
is_pairs_map M.ListPairs = false
is_pairs_map (M.StringPairs inner entry) = true
is_pairs_map (M.Hamt shape) = false

abbrev pub is_pairs_struct : StructForm → Bool
is_pairs_struct S.Map = false
is_pairs_struct S.Tuple = false
is_pairs_struct S.ListPairs = false
is_pairs_struct (S.StringPairs inner entry) = true
is_pairs_struct (S.StringJoin delim) = false

abbrev pub are_pairs : Option TypeDef → Bool
are_pairs (Some (T.Map key key_at slot place form)) = is_pairs_map form
are_pairs (Some (T.Struct def)) = is_pairs_struct def.form
are_pairs d = false

-- forms whose rules may refuse what a holder becomes: texts that are made of texts, and unions
abbrev pub is_text_struct : StructForm → Bool
is_text_struct S.Map = false
is_text_struct S.Tuple = false
is_text_struct S.ListPairs = false
is_text_struct (S.StringPairs inner entry) = true
is_text_struct (S.StringJoin delim) = true

abbrev pub is_refusing : Option TypeDef → Bool
is_refusing (Some (T.Map key key_at slot place form)) = is_pairs_map form
is_refusing (Some (T.Struct def)) = is_text_struct def.form
is_refusing (Some (T.Union def)) = true
is_refusing d = false

-- ---- what is answered

-- the item of the data, or that it would be longer than a block may be
abbrev pub MakesItem : Data → Result (Option (List ℕ)) SpliceErr → Type 0
MakesItem u (Ok (Some b)) = MakesBytes (spell u) (Ok b)
MakesItem u (Ok None) = ⊥
MakesItem u (Err Size) = MakesBytes (spell u) (Err Size)
MakesItem u (Err Memory) = Unit {0}

-- that there is none
abbrev pub MakesNone : Result (Option (List ℕ)) SpliceErr → Type 0
MakesNone (Ok (Some b)) = ⊥
MakesNone (Ok None) = Unit {0}
MakesNone (Err Size) = ⊥
MakesNone (Err Memory) = Unit {0}

-- the data of what a holder becomes by an edit of its part at a segment, with w as the new part
abbrev pub becoming : List Row → PartEdit → Value → InSlot → List ℕ → Option Data
becoming rows edit w q s = becomes rows q.0 ((in_last edit w).made (seen rows q) s)

-- the item of that, and none exactly where a rule of the form refuses it
pub record ItemOf (rows : List Row) (edit : PartEdit) (w : Value) (q : InSlot) (s : List ℕ) (result : Result (Option (List ℕ)) SpliceErr) : Type 0 where
  pub made : (u : Data) → becoming rows edit w q s ≡ Some u → MakesItem u result
  pub refused : is_refusing (form_of rows q.0) ≡ true → becoming rows edit w q s ≡ None → MakesNone result

-- of each front for which a view stands, where the table lets the edit be done
abbrev pub AnswersItem : View → List ℕ → PartEdit → Result (Option (List ℕ)) SpliceErr → Type 0
AnswersItem v s edit result =
    (f w : Value) → IsView v f → is_holder (seen (table_of v) (slot_of v, f)) ≡ true
    → Allows (table_of v) edit (seen (table_of v) (slot_of v, f)) s w → ItemOf (table_of v) edit w (slot_of v, f) s result
