-- What calls give of a walk, piece by piece.
use Rattle.std.specs.Prelude.{◌≡◌, ◌≢◌, ℕ, List, Option, Some, None, Result, Ok, Err}
use Rattle.ild_cbor.specs.Nodes.{HasData}
use Rattle.ild_cbor.specs.declared.node.Node.{Node}
use Rattle.ild_data.specs.Data.{Data}
use Rattle.ild_data.specs.Trie.{TrieSlot}
use Rattle.ild_data.specs.declared.hamt_shape.HamtShape.{HamtShape}
use Rattle.ild_node_slots.specs.Views.{HasSlots}
use Rattle.ild_node_slots.specs.declared.view.NodeView.{NodeView}
use Rattle.ild_path_edits.specs.Along.{room_below}
use Rattle.ild_schema.specs.Value.{Value}
use Rattle.ild_schema.specs.declared.def.MapForm.{MapForm}
use Rattle.ild_schema.specs.declared.def.TypeDef.{TypeDef}
use Rattle.ild_schema.specs.declared.def.TypeDef.TheVariants as D
use Rattle.ild_schema.specs.declared.number.Slot.{Slot}
use Rattle.ild_schema.specs.declared.number.TypeNo.{TypeNo}
use Rattle.ild_schema.specs.declared.row.Row.{Row}
use Rattle.ild_typed.specs.At.{InSlot}
use Rattle.ild_view.specs.Parts.{IsPartView}
use Rattle.ild_view.specs.declared.view.View.{View}
use Rattle.ild_inclusion.specs.Says.{Goes, Outcome}
use Rattle.ild_inclusion.specs.declared.answer.Answer.{Answer}
use Rattle.ild_inclusion.specs.declared.fault.Reject.{Reject}
use Rattle.ild_inclusion.specs.declared.fault.VerifyErr.{VerifyErr}
use Rattle.ild_inclusion.specs.declared.fault.VerifyErr.TheVariants as V
use Rattle.ild_inclusion.specs.declared.stand.Stand.{Stand}
use Rattle.ild_inclusion.specs.declared.segment.Step.{Step}
use Rattle.ild_inclusion.specs.declared.segment.Step.TheVariants as S
use Rattle.ild_inclusion.specs.declared.way.Beneath.{Beneath}
use Rattle.ild_inclusion.specs.declared.end.End.{End}

-- ---- on a key's way

abbrev pub WrongGiven : {X : Type 0} → Result X Reject → Reject → Type 0
WrongGiven result r = result ≡ Err r

abbrev pub SpellingGiven : Result Node Reject → Data → Type 0
SpellingGiven (Ok n) t = HasData n t
SpellingGiven (Err r) t = ⊥

abbrev pub NodeGiven : HamtShape → Result NodeView Reject → List TrieSlot → Type 0
NodeGiven p (Ok v) slots = HasSlots p v slots
NodeGiven p (Err r) slots = ⊥

abbrev pub BeneathGiven : HamtShape → Result Beneath Reject → List TrieSlot → List (List ℕ) → Type 0
BeneathGiven p (Ok x) slots bs = HasSlots p x.node slots × (x.left.now ≡ bs)
BeneathGiven p (Err r) slots bs = ⊥

-- a node for the value, or neither
abbrev pub ValueGiven : Option Data → Option Node → Type 0
ValueGiven None None = Unit {0}
ValueGiven (Some t) (Some n) = HasData n t
ValueGiven None (Some n) = ⊥
ValueGiven (Some t) None = ⊥

pub record IsEnd (i : ℕ) (bs : List (List ℕ)) (o : Option Data) (x : End) : Type 0 where
  pub value : ValueGiven o x.value
  pub at : x.at ≡ i
  pub left : x.left.now ≡ bs

abbrev pub EndGiven : Result End Reject → ℕ → List (List ℕ) → Option Data → Type 0
EndGiven (Ok x) i bs o = IsEnd i bs o x
EndGiven (Err r) i bs o = ⊥

-- ---- along the path

abbrev pub HasMemory : {X : Type 0} → Result X VerifyErr → Type 0
HasMemory result = result ≢ Err V.Memory

abbrev pub RefusedGiven : {X : Type 0} → Result X VerifyErr → Reject → Type 0
RefusedGiven result r = result ≡ Err (V.Reject r)

abbrev pub FrontGiven : List Row → Slot → Result View VerifyErr → Value → Type 0
FrontGiven rows s (Ok v) f = IsPartView rows (s, f) v
FrontGiven rows s (Err e) f = ⊥

-- the type is a map with values of a slot
pub record IsMapOf (d : Option TypeDef) (elem : Slot) : Type 0 where
  pub key : TypeNo
  pub key_at : ℕ
  pub at : ℕ
  pub form : MapForm
  pub is : d ≡ Some (D.Map key key_at elem at form)

-- a value in block i, in this room, with these blocks left
pub record IsStand (rows : List Row) (room i : ℕ) (q : InSlot) (bs : List (List ℕ)) (x : Stand) : Type 0 where
  pub view : IsPartView rows q x.view
  pub room_is : x.room ≡ room
  pub at : x.at ≡ i
  pub left : x.left.now ≡ bs

abbrev pub OnGiven : List Row → ℕ → Result Step VerifyErr → ℕ → InSlot → List (List ℕ) → Type 0
OnGiven rows room (Ok (S.On x)) i q bs = IsStand rows room i q bs x
OnGiven rows room (Ok (S.Off x)) i q bs = ⊥
OnGiven rows room (Err e) i q bs = ⊥

abbrev pub OffGiven : Result Step VerifyErr → ℕ → List (List ℕ) → Type 0
OffGiven (Ok (S.On x)) i bs = ⊥
OffGiven (Ok (S.Off x)) i bs = (x.at ≡ i) × (x.left.now ≡ bs)
OffGiven (Err e) i bs = ⊥

-- what one segment from a value in block i gives, with these blocks left: where it leads is in the room below the value
abbrev pub GoesGiven : (List ℕ → List ℕ) → List Row → ℕ → ℕ → InSlot → List ℕ → List (List ℕ) → Result Step VerifyErr → Type 0
GoesGiven h rows room i p s bs result =
    Goes h rows room i p s bs (OnGiven rows (room_below rows room p s) result) (OffGiven result) (RefusedGiven result)

-- ---- at the end

abbrev pub Gives : Result Answer VerifyErr → Outcome → Type 0
Gives result (Ok a) = result ≡ Ok a
Gives result (Err r) = result ≡ Err (V.Reject r)
