-- What the steps to a part do to a change of the part: where it is seen in the data of the holder.
use Rattle.std.specs.Prelude.{◌≡◌, ℕ, Bool, false, List, [], ◌∷◌, Option, Some, None, slice_get, if◌then◌else◌, IsSomeAnd}
use Rattle.std.specs.Option.{option_map_or}
use Rattle.ild_splice_changes.specs.TreeChange.{nth, key, Located, part_at}
use Rattle.ild_data.specs.Data as T
use Rattle.ild_data.specs.Data.{Data}
use Rattle.ild_data.specs.Key.{put, value_at}
use Rattle.ild_path_changes.specs.Lift.{is_beside, lift, lift_in, lift_within, map_lift, struct_lift, union_lift, whole}
use Rattle.ild_path_changes.specs.Places.{field_data, field_named, field_place, left_out, place_of}
use Rattle.ild_schema.specs.Clear.{ClearStruct, KeysApart}
use Rattle.ild_schema.specs.Value.{Value}
use Rattle.ild_schema.specs.declared.def.Field.{Field}
use Rattle.ild_schema.specs.declared.def.MapForm.{MapForm}
use Rattle.ild_schema.specs.declared.def.Member.{Member}
use Rattle.ild_schema.specs.declared.def.StructDef.{StructDef}
use Rattle.ild_schema.specs.declared.def.UnionDef.{UnionDef}
use Rattle.ild_schema.specs.Slots.{form_of}
use Rattle.ild_schema.specs.declared.def.TypeDef.{TypeDef}
use Rattle.ild_schema.specs.declared.def.TypeDef.TheVariants as D
use Rattle.ild_schema.specs.declared.number.Slot.{Slot}
use Rattle.ild_schema.specs.declared.row.Row.{Row}
use Rattle.ild_typed.specs.At.{InSlot, seen}
use Rattle.ild_typed.specs.Composed.{map_form, member_form, struct_form}
use Rattle.ild_typed.specs.Hamt.{alone}
use Rattle.ild_typed.specs.Holder.{Holder, value_of}
use Rattle.ild_typed.specs.Layer as L
use Rattle.ild_typed.specs.Represented.{represented}
use Rattle.ild_typed.specs.Segment.{set_part, part}
use Rattle.ild_typed.specs.Strings.{map_data}
use Rattle.ild_path_steps.specs.declared.steps.PartSteps.{PartSteps}
use Rattle.ild_path_steps.specs.declared.steps.PartSteps.TheVariants as P
use Rattle.ild_cbor.specs.declared.piece.Piece.{Piece}
use Rattle.ild_layer_piece.specs.Pieces.{StandsFor}

-- the change in the holder's data, where those become w
abbrev pub carried : PartSteps → Option Data → Located → Located
carried P.Whole w e = whole w
carried P.Same w e = e
carried (P.Item i) w e = lift_within (nth i ∷ []) e
carried (P.Entry k) w e = lift_within (key k.now ∷ []) e
carried (P.Pair i) w e = lift_within (nth i ∷ nth 1 ∷ []) e
carried (P.Beside k) w e = if is_beside k.now e then e else whole w

-- the change of the whole, from that of the last of several holders, where all become these
abbrev pub carried_along : List PartSteps → List (Option Data) → Located → Located
carried_along [] ws e = e
carried_along (o ∷ os) [] e = e
carried_along (o ∷ os) (w ∷ ws) e = carried o w (carried_along os ws e)

-- steps were found, and each change is seen as they say
abbrev pub Lifts : (Option Data → Located → Located) → Option PartSteps → Type 0
Lifts l None = ⊥
Lifts l (Some steps) = (w : Option Data) (e : Located) → l w e ≡ carried steps w e

-- in a holder of any type, whatever the part becomes
abbrev pub LiftsAlways : Holder → List ℕ → Option PartSteps → Type 0
LiftsAlways h s result = (d : Option TypeDef) (f : Slot → Value → Option Data) (c : Value) → Lifts (λ w e. lift_in d f h s c w e) result

-- the field g of this name, with a number, whose data are a, and are written; the fields' data are ds
pub record IsField (fs : List Field) (s : List ℕ) (number : ℕ) (ds : List (Option Data)) (g : Field) (a : Data) : Type 0 where
  pub named : field_named s fs ≡ Some g
  pub place : number ≡ field_place s fs
  pub held : field_data s fs ds ≡ Some a
  pub written : left_out g a ≡ false

-- in a struct whose data has the field with a number; an absent one is none
abbrev pub LiftsField : (Data → Type 0) → StructDef → ℕ → Option PartSteps → Type 0
LiftsField Stand def number result =
    (ds : List (Option Data)) (t a x : Data) (s : List ℕ) (g : Field) → Stand t → struct_form def.form def.fields ds ≡ Some t
    → ClearStruct def.form def.fields → IsField def.fields s number ds g a → left_out g x ≡ false
    → Lifts (λ w e. struct_lift def.form s def.fields ds g (Some a) (Some x) w e) result

-- in a union that is its member with a number
abbrev pub LiftsMember : UnionDef → ℕ → Option PartSteps → Type 0
LiftsMember def number result = (m : Member) (d t : Data) → slice_get def.members number ≡ Some m → member_form def.form d m ≡ Some t → Lifts (λ w e. union_lift def.form m w e) result

-- in a map of a form with these entries
abbrev pub LiftsEntry : (Data → Type 0) → MapForm → List ℕ → Option PartSteps → Type 0
LiftsEntry Stand form s result =
    (es : List (List ℕ × Data)) (t x : Data) → Stand t → map_form alone form (L.map es) ≡ Some t → value_at s es ≡ Some x → Lifts (λ w e. map_lift form s (place_of s es) w e) result

-- ---- where the part stands

-- d is the map t but for the entry at a key, which is a text
pub record IsBut (k : List ℕ) (t d : Data) : Type 0 where
  pub name : List ℕ
  pub entries : List (List ℕ × Data)
  pub is : d ≡ map_data entries
  pub whole : t ≡ map_data (put k (T.text name) entries)
  pub none : value_at k entries ≡ None

-- the steps lead from the data t of a holder to those of a part
abbrev pub LeadsTo : PartSteps → Data → Data → Type 0
LeadsTo P.Whole t d = Unit {0}
LeadsTo P.Same t d = t ≡ d
LeadsTo (P.Item i) t d = part_at (nth i ∷ []) t ≡ Some d
LeadsTo (P.Entry k) t d = part_at (key k.now ∷ []) t ≡ Some d
LeadsTo (P.Pair i) t d = part_at (nth i ∷ nth 1 ∷ []) t ≡ Some d
LeadsTo (P.Beside k) t d = IsBut k.now t d

-- those that were found do
abbrev pub FoundLead : Option PartSteps → Data → Data → Type 0
FoundLead None t d = Unit {0}
FoundLead (Some steps) t d = LeadsTo steps t d

abbrev pub LeadsField : (Data → Type 0) → StructDef → ℕ → Option PartSteps → Type 0
LeadsField Stand def number result =
    (ds : List (Option Data)) (t a : Data) (s : List ℕ) (g : Field) → Stand t → struct_form def.form def.fields ds ≡ Some t
    → ClearStruct def.form def.fields → IsField def.fields s number ds g a → FoundLead result t a

abbrev pub LeadsMember : UnionDef → ℕ → Option PartSteps → Type 0
LeadsMember def number result = (m : Member) (d t : Data) → slice_get def.members number ≡ Some m → member_form def.form d m ≡ Some t → KeysApart def.form → FoundLead result t d

abbrev pub LeadsEntry : (Data → Type 0) → MapForm → List ℕ → Option PartSteps → Type 0
LeadsEntry Stand form s result = (es : List (List ℕ × Data)) (t x : Data) → Stand t → map_form alone form (L.map es) ≡ Some t → value_at s es ≡ Some x → FoundLead result t x

-- ---- in a value

-- what a block leaves out of a struct: a field with the data of its implicit value
abbrev pub is_left_out : Option TypeDef → List ℕ → Data → Bool
is_left_out (Some (D.Struct r)) s x = option_map_or (λ g. left_out g x) (field_named s r.fields) false
is_left_out d s x = false

-- the steps to the part q at s of p: where the part becomes what a block writes, each change of it is seen as they say
pub record StepsTo (rows : List Row) (p : InSlot) (s : List ℕ) (q : InSlot) (steps : PartSteps) : Type 0 where
  pub each : (c : Value) (x : Data) (e : Located) → represented alone rows q.0 c ≡ Some x → is_left_out (form_of rows p.0) s x ≡ false
      → lift alone rows p s c e ≡ carried steps (represented alone rows p.0 (value_of (set_part (seen rows p) s c))) e

-- whatever value of the slot stands as the piece, with data t, and whatever part q of it the segment leads to, with data d which
-- a block does not leave out
abbrev pub EachPart : List Row → Slot → Piece → List ℕ → (Value → Data → Data → InSlot → Type 0) → Type 0
EachPart rows slot piece s P =
    (f : Value) (t d : Data) (q : InSlot) → represented alone rows slot f ≡ Some t → StandsFor rows piece t → part (seen rows (slot, f)) s ≡ Some q
    → represented alone rows q.0 q.1 ≡ Some d → is_left_out (form_of rows slot) s d ≡ false → P f t d q

-- the steps to it are found, and each change is seen as they say
abbrev pub LiftsPart : List Row → Slot → Piece → List ℕ → Option PartSteps → Type 0
LiftsPart rows slot piece s result = EachPart rows slot piece s (λ f t d q. IsSomeAnd result (StepsTo rows (slot, f) s q))

-- they lead from the data of the value to those of the part
abbrev pub LeadsPart : List Row → Slot → Piece → List ℕ → Option PartSteps → Type 0
LeadsPart rows slot piece s result = EachPart rows slot piece s (λ f t d q. FoundLead result t d)
