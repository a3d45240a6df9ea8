-- What is found of data of each form by themselves.
use Rattle.std.proofs.Common.{◌≡◌, ℕ, zero, suc, ◌+◌, ◌<◌, ◌≤◌, List, [], ◌∷◌, length, map, Bool, true, false, ◌||◌, Some, None, refl, sym, ◌∙◌, ap, subst, arith, inl}
use Rattle.std.specs.Prelude.{is_some, slice_get, IfSome}
use Rattle.std.specs.List.{All, AllByRecursion}
use Rattle.std.specs.Option.{option_and_then, option_map_or}
use Rattle.std.proofs.lemmas.Option.{none-some, same_Some}
use Rattle.ild_data.proofs.AllOf.{all_at}
use Rattle.ild_data.specs.Data as T
use Rattle.ild_data.specs.Data.{Data}
use Rattle.ild_data.proofs.Lists.{items_of-items_list}
use Rattle.ild_cbor.specs.Scalar.{kind_of}
use Rattle.ild_cbor.specs.Steps.{HasItems}
use Rattle.ild_cbor.specs.declared.items.Items.{Items}
use Rattle.ild_cbor.specs.declared.kind.Kind.{Kind}
use Rattle.ild_cbor.specs.declared.kind.Kind.TheVariants as K
use Rattle.ild_cbor.specs.declared.piece.Piece.{Piece}
use Rattle.ild_cbor.specs.declared.why.Why.{Why}
use Rattle.ild_enum.specs.Forms.{IsEnumType, IsUnitType, is_enum, is_unit}
use Rattle.ild_layer_piece.specs.Answers.{Layered, Refused, told}
use Rattle.ild_layer_piece.specs.Entries.{HasLeft, Lists, Maps}
use Rattle.ild_layer_piece.specs.declared.walk.MapEntries.{MapEntries}
use Rattle.ild_layer_piece.specs.Pieces.{StandsFor, form_key, inline_key, passed_key}
use Rattle.ild_layer_piece.proofs.Stand.{piece_rises}
use Rattle.ild_schema.specs.Copies.{base}
use Rattle.ild_schema.specs.Kinds.{meant}
use Rattle.ild_schema.specs.Legible.{IsLegible}
use Rattle.ild_schema.specs.Made.{MadeMember}
use Rattle.ild_schema.specs.Parts.{IsPartOf}
use Rattle.ild_schema.specs.Rows.{def_at}
use Rattle.ild_schema.specs.Table.{IsWithin, parts_of}
use Rattle.ild_schema.specs.Slots.{plainly}
use Rattle.ild_schema.specs.declared.def.Member.{Member}
use Rattle.ild_schema.specs.declared.def.UnionDef.{UnionDef}
use Rattle.ild_schema.specs.declared.def.UnionForm.{UnionForm}
use Rattle.ild_schema.specs.declared.def.UnionForm.TheVariants as UF
use Rattle.ild_struct.proofs.Splitting.{given_some}
use Rattle.ild_schema.specs.declared.def.TypeDef.{TypeDef}
use Rattle.ild_schema.specs.declared.def.TypeDef.TheVariants as D
use Rattle.ild_schema.specs.declared.def.MapForm.{MapForm}
use Rattle.ild_schema.specs.declared.def.MapForm.TheVariants as MF
use Rattle.ild_schema.specs.declared.number.Slot.{Slot}
use Rattle.ild_schema.specs.declared.number.TypeNo.{TypeNo}
use Rattle.ild_schema.specs.declared.row.Row.{Row}
use Rattle.ild_typed.specs.Causes.{why_of}
use Rattle.ild_typed.specs.Composed.{composed}
use Rattle.ild_typed.specs.Hamt.{alone}
use Rattle.ild_typed.specs.Layer as L
use Rattle.ild_typed.specs.Layer.{Layer}
use Rattle.ild_typed.specs.Named.{items_in}
use Rattle.ild_typed.specs.Pieces.{IsWhy}
use Rattle.ild_typed.specs.Slots.{slot_of}
use Rattle.ild_typed.specs.Spots.{Spot, element_spots, entry_spots, member_spots, member_steps, value_spot}
use Rattle.ild_typed.specs.Strings.{members_in}
use Rattle.ild_typed.specs.Why as W
use Rattle.ild_data.proofs.Lists.{members_of-members_list}
use Rattle.ild_typed.proofs.CleanTypes.{layer_or_why}
use Rattle.ild_union.specs.Forms.{IsPassedBy, passes_over}
use Rattle.ild_layer_parts.specs.declared.part.Part.{Part}
use Rattle.ild_layer_places.specs.declared.way.Way.{Way}
use Rattle.ild_layer_parts.specs.Part.{IsSpotted}
use Rattle.ild_layer_parts.specs.Ready.{IsInlined, is_struct}
use Rattle.ild_layer_parts.specs.declared.parts.Parts.TheVariants as P
use Rattle.ild_view_walk.specs.inside.Opens.{HasOpened}
use Rattle.ild_layer_fields.specs.Told.{scalar_kind}
use Rattle.ild_layer_parts.proofs.Asking.{own_at, deep_at, none_at}
use Rattle.ild_layer_parts.specs.Elements.{HasElements}
use Rattle.ild_layer_parts.specs.Entries.{HasEntries}
use Rattle.ild_layer_parts.specs.declared.elements.Elements.{Elements}
use Rattle.ild_layer_parts.specs.declared.entries.Entries.{Entries}
use Rattle.ild_layer_places.specs.Places.{steps_of}
use Rattle.ild_layer_parts.proofs.Scalars.{Plain}

-- ---- lists

pub list_kind : (elem : Slot) (at : ℕ) (t : Data) → Lists (items_in t) None → why_of (D.List elem at) t ≡ Some W.Kind
list_kind elem at (T.list ds) h = absurd h
list_kind elem at t h = refl

list_own : (elem : Slot) (at : ℕ) (t : Data) (s : Items) → Lists (items_in t) (Some s) → why_of (D.List elem at) t ≡ None
list_own elem at (T.list ds) s h = refl
list_own elem at t s h = absurd h

pub list_deep : (room : ℕ) (elem : Slot) (at : ℕ) (t : Data) (s : Items) → Lists (items_in t) (Some s) → room < 1 → IsWhy room (D.List elem at) t W.Depth
list_deep room elem at t s h less = inl (deep_at room (D.List elem at) t (list_own elem at t s h) refl less)

pub list_opens : (rows : List Row) (room left : ℕ) (elem : Slot) (at : ℕ) (t : Data) (s : Items) → Lists (items_in t) (Some s) → left + 1 ≡ room
    → (x : Elements) → ((ds : T.Items) → HasItems s ds → HasElements x (element_spots elem 0 (T.items_list ds))) → HasOpened rows room (D.List elem at) t (record { parts = P.List x; room = left })
list_opens rows room left elem at (T.list ds) s h sum x has =
    let same : T.items_of (T.items_list ds) ≡ ds = items_of-items_list ds in
    record {
      none = none_at room (D.List elem at) (T.list ds) refl refl (omega (arith, sum)) refl;
      spots = element_spots elem 0 (T.items_list ds);
      parts = (L.list (T.items_list ds), ap (λ es. Some (T.list es)) same, refl);
      room_is = sum;
      left = has ds (subst (HasItems s) same h);
    }
list_opens rows room left elem at t s h sum x has = absurd h

-- ---- maps

pub map_kind : (key : TypeNo) (key_at : ℕ) (value : Slot) (at : ℕ) (t : Data) → Maps (members_in t) None → why_of (D.Map key key_at value at MF.Map) t ≡ Some W.Kind
map_kind key key_at value at (T.map ms) h = absurd h
map_kind key key_at value at t h = refl

map_own : (key : TypeNo) (key_at : ℕ) (value : Slot) (at : ℕ) (t : Data) (s : MapEntries) → Maps (members_in t) (Some s) → why_of (D.Map key key_at value at MF.Map) t ≡ None
map_own key key_at value at (T.map ms) s h = refl
map_own key key_at value at t s h = absurd h

pub map_deep : (room : ℕ) (key : TypeNo) (key_at : ℕ) (value : Slot) (at : ℕ) (t : Data) (s : MapEntries) → Maps (members_in t) (Some s) → room < 1
    → IsWhy room (D.Map key key_at value at MF.Map) t W.Depth
map_deep room key key_at value at t s h less = inl (deep_at room (D.Map key key_at value at MF.Map) t (map_own key key_at value at t s h) refl less)

pub map_opens : (rows : List Row) (room left : ℕ) (key : TypeNo) (key_at : ℕ) (value : Slot) (at : ℕ) (t : Data) (s : MapEntries) → Maps (members_in t) (Some s) → left + 1 ≡ room
    → (x : Entries) → ((es : List (List ℕ × Data)) → HasLeft s es → HasEntries x (entry_spots MF.Map key value 0 es)) → HasOpened rows room (D.Map key key_at value at MF.Map) t (record { parts = P.Map x; room = left })
map_opens rows room left key key_at value at (T.map ms) s h sum x has = record {
  none = none_at room (D.Map key key_at value at MF.Map) (T.map ms) refl refl (omega (arith, sum)) refl;
  spots = entry_spots MF.Map key value 0 (T.members_list ms);
  parts = (L.map (T.members_list ms), ap (λ es. Some (T.map es)) (members_of-members_list ms), refl);
  room_is = sum;
  left = has (T.members_list ms) h;
}
map_opens rows room left key key_at value at t s h sum x has = absurd h

-- ---- scalars

bool_kind : (t : Data) → (kind_of t ≡ K.Bool → ⊥) → why_of D.Bool t ≡ Some W.Kind
bool_kind (T.boolean b) h = absurd (h refl)
bool_kind t h = refl

text_kind : (t : Data) → (kind_of t ≡ K.Text → ⊥) → why_of D.Text t ≡ Some W.Kind
text_kind (T.text s) h = absurd (h refl)
text_kind t h = refl

bytes_kind : (t : Data) → (kind_of t ≡ K.Bytes → ⊥) → why_of D.Bytes t ≡ Some W.Kind
bytes_kind (T.bytes s) h = absurd (h refl)
bytes_kind t h = refl

int_kind : (t : Data) → (kind_of t ≡ K.Int → ⊥) → why_of D.Int t ≡ Some W.Kind
int_kind (T.integer n) h = absurd (h refl)
int_kind t h = refl

link_kind : (target : TypeNo) (t : Data) → (kind_of t ≡ K.Link → ⊥) → why_of (D.Link target) t ≡ Some W.Kind
link_kind target (T.link s) h = absurd (h refl)
link_kind target t h = refl

pub scalar_kind_why : (room : ℕ) (d : TypeDef) (t : Data) (k : Kind) → scalar_kind d ≡ Some k → (kind_of t ≡ k → ⊥) → IsWhy room d t W.Kind
scalar_kind_why room D.Bool t k e h = inl (own_at room D.Bool t W.Kind (bool_kind t (λ is. h (is ∙ same_Some K.Bool k e))))
scalar_kind_why room D.Text t k e h = inl (own_at room D.Text t W.Kind (text_kind t (λ is. h (is ∙ same_Some K.Text k e))))
scalar_kind_why room D.Bytes t k e h = inl (own_at room D.Bytes t W.Kind (bytes_kind t (λ is. h (is ∙ same_Some K.Bytes k e))))
scalar_kind_why room D.Int t k e h = inl (own_at room D.Int t W.Kind (int_kind t (λ is. h (is ∙ same_Some K.Int k e))))
scalar_kind_why room (D.Link target) t k e h = inl (own_at room (D.Link target) t W.Kind (link_kind target t (λ is. h (is ∙ same_Some K.Link k e))))
scalar_kind_why room d t k e h = absurd (none-some k e)

-- ---- what a reader of a layer answers

pub refused_why : (rows : List Row) (ty : ℕ) (room : ℕ) (d : TypeDef) (t : Data) (w : Why) → meant rows ty ≡ Some d → Refused rows ty t w → IsWhy room d t (told w)
refused_why rows ty room d t w is h = inl (own_at room d t (told w) (sym (ap (option_and_then (λ (k : TypeDef). why_of k t)) is) ∙ h))

pub layered_made : (rows : List Row) (ty : ℕ) (d : TypeDef) (t : Data) (l : Layer Data) → meant rows ty ≡ Some d → Layered rows ty t l → composed alone d l ≡ Some t
layered_made rows ty d t l is h = sym (ap (option_and_then (λ (k : TypeDef). composed alone k l)) is) ∙ h

-- the data of a layer have no cause of their own
pub layered_own : (rows : List Row) → IsLegible rows → (ty : ℕ) (d : TypeDef) (p : Piece) (t : Data) (l : Layer Data) → meant rows ty ≡ Some d → StandsFor rows p t → composed alone d l ≡ Some t
    → why_of d t ≡ None
layered_own rows legible ty d p t l is stands made =
    (layer_or_why d (legible.clear.types (base rows ty) d is) (legible.delims (base rows ty) d is) t (piece_rises rows p t stands)).1 (l, made)

-- ---- enums and units

enum_at : (room : ℕ) (d : TypeDef) (t : Data) (n : ℕ) → is_enum d ≡ true → why_of d t ≡ None → composed alone d (L.enum n) ≡ Some t → Plain room d t
enum_at room (D.Enum e) t n is own made = (none_at room (D.Enum e) t own refl (omega arith) refl, (L.enum n, made, refl))
enum_at room d t n is own made = absurd cc

pub enum_plain : (rows : List Row) → IsLegible rows → (ty room : ℕ) (d : TypeDef) (p : Piece) (t : Data) (n : ℕ) → meant rows ty ≡ Some d → IsEnumType rows ty → StandsFor rows p t
    → Layered rows ty t (L.enum n) → Plain room d t
enum_plain rows legible ty room d p t n is form stands layered =
    let made = layered_made rows ty d t (L.enum n) is layered in
    enum_at room d t n (sym (ap (λ o. option_map_or is_enum o false) is) ∙ form) (layered_own rows legible ty d p t (L.enum n) is stands made) made

unit_at : (room : ℕ) (d : TypeDef) (t : Data) → is_unit d ≡ true → 1 ≤ room → why_of d t ≡ None → composed alone d L.unit ≡ Some t → Plain room d t
unit_at room (D.Unit form) t is enough own made = (none_at room (D.Unit form) t own refl enough refl, (L.unit, made, refl))
unit_at room d t is enough own made = absurd cc

pub unit_plain : (rows : List Row) → IsLegible rows → (ty room : ℕ) (d : TypeDef) (p : Piece) (t : Data) → meant rows ty ≡ Some d → IsUnitType rows ty → StandsFor rows p t → 1 ≤ room
    → Layered rows ty t L.unit → Plain room d t
unit_plain rows legible ty room d p t is form stands enough layered =
    let made = layered_made rows ty d t L.unit is layered in
    unit_at room d t (sym (ap (λ o. option_map_or is_unit o false) is) ∙ form) enough (layered_own rows legible ty d p t L.unit is stands made) made

unit_deep_at : (room : ℕ) (d : TypeDef) (t : Data) → is_unit d ≡ true → room < 1 → why_of d t ≡ None → IsWhy room d t W.Depth
unit_deep_at room (D.Unit form) t is less own = inl (deep_at room (D.Unit form) t own refl less)
unit_deep_at room d t is less own = absurd cc

pub unit_deep : (rows : List Row) → IsLegible rows → (ty room : ℕ) (d : TypeDef) (p : Piece) (t : Data) → meant rows ty ≡ Some d → IsUnitType rows ty → StandsFor rows p t → room < 1
    → Layered rows ty t L.unit → IsWhy room d t W.Depth
unit_deep rows legible ty room d p t is form stands less layered =
    let made = layered_made rows ty d t L.unit is layered in
    unit_deep_at room d t (sym (ap (λ o. option_map_or is_unit o false) is) ∙ form) less (layered_own rows legible ty d p t L.unit is stands made)

-- ---- unions

module _ (rows : List Row) (legible : IsLegible rows) (ty room : ℕ) (u : UnionDef) (is : meant rows ty ≡ Some (D.Union u)) (p : Piece) (t : Data) (stands : StandsFor rows p t)
    (n : ℕ) (d : Data) (layered : Layered rows ty t (L.union n d)) where
  union_made : composed alone (D.Union u) (L.union n d) ≡ Some t
  union_made = layered_made rows ty (D.Union u) t (L.union n d) is layered

  pub union_deep : room < 1 → IsWhy room (D.Union u) t W.Depth
  union_deep less = inl (deep_at room (D.Union u) t (layered_own rows legible ty (D.Union u) p t (L.union n d) is stands union_made) refl less)

  pub union_opens : (left : ℕ) (m : Member) (x : Part) (part : Piece) (way : Way) → left + 1 ≡ room → slice_get u.members n ≡ Some m → StandsFor rows part d → steps_of way ≡ member_steps u.form m
      → x ≡ record { slot = plainly m.ty; piece = part; is_key = false; way = way } → HasOpened rows room (D.Union u) t (record { parts = P.Member x; room = left })
  union_opens left m x part way sum got inside leads same =
      let spot : Spot = value_spot (slot_of m) d (member_steps u.form m) in
      record {
        none = none_at room (D.Union u) t (layered_own rows legible ty (D.Union u) p t (L.union n d) is stands union_made) refl (omega (arith, sum)) refl;
        spots = spot ∷ [];
        parts = (L.union n d, union_made, sym (ap (λ o. option_map_or (member_spots u.form d) o []) got));
        room_is = sum;
        left = (record { first = spot; is = refl; spotted = subst (λ y. IsSpotted rows y spot) (sym same) (record { slot = refl; key = refl; stands = inside }) }, ap (λ (y : Part). steps_of y.way) same ∙ leads);
      }

-- the type of a member is in the table
pub member_low : (count : ℕ) (ms : List Member) (n : ℕ) (m : Member) → All (λ k. k < count) (map (λ (q : Member). q.ty.0) ms) → slice_get ms n ≡ Some m → m.ty.0 < count
member_low count [] n m all got = absurd (none-some m got)
member_low count (q ∷ ms) zero m all got = subst (λ (w : Member). w.ty.0 < count) (same_Some q m got) (all 0 0 (omega arith))
member_low count (q ∷ ms) (suc n) m all got = member_low count ms n m (λ i v less. all (suc i) v (omega (arith, less))) got

pub inline_form : (form : UnionForm) → is_some (form_key form) ≡ true → (k : List ℕ) × (form ≡ UF.Inline k)
inline_form (UF.Inline key) e = (key, refl)
inline_form form e = absurd cc

-- and where its discriminant stands inline, it is a struct
pub member_inlined : (rows : List Row) → IsLegible rows → (ty : ℕ) (u : UnionDef) → meant rows ty ≡ Some (D.Union u) → (p part : Piece) → passes_over p ≡ false → IsPassedBy rows ty p part
    → (n : ℕ) (m : Member) → slice_get u.members n ≡ Some m → IsInlined rows (plainly m.ty) part
member_inlined rows legible ty u is p part plain passed n m got over =
    let some : is_some (passed_key rows ty) ≡ true = by (is_some (passed_key rows ty)) (ap (λ b. is_some (passed_key rows ty) || b) (sym plain) ∙ passed over) in
    let form = inline_form u.form (sym (ap (λ o. is_some (option_and_then inline_key o)) is) ∙ some) in
    let all : AllByRecursion (MadeMember rows (UF.Inline form.0)) u.members = subst (λ f. AllByRecursion (MadeMember rows f) u.members) form.1 (legible.made (base rows ty) (D.Union u) is) in
    let own = (all_at (MadeMember rows (UF.Inline form.0)) u.members n m all got).1 in
    ap (λ o. option_map_or is_struct o false) own.known
  where
    by : (b : Bool) → (b || false) ≡ true → b ≡ true
    by true e = refl
    by false e = e

pub union_part : (rows : List Row) (n i : ℕ) (u : UnionDef) → def_at rows n ≡ Some (D.Union u) → IsPartOf rows n i → i < length u.members
union_part rows n i u is h = subst (λ o. IfSome o (λ d. i < parts_of d)) is h

pub under_one : (room : ℕ) → (1 ≤ room → ⊥) → room < 1
under_one zero h = omega arith
under_one (suc room) h = absurd (h (omega arith))

-- the types of a map's keys and values are in the table
pub map_low : (rows : List Row) (found : TypeDef) (key : TypeNo) (key_at : ℕ) (value : Slot) (at : ℕ) (form : MapForm) → found ≡ D.Map key key_at value at form → IsWithin (length rows) found
    → (key.0 < length rows) × (value.ty.0 < length rows)
map_low rows found key key_at value at form is within =
    let w : IsWithin (length rows) (D.Map key key_at value at form) = subst (IsWithin (length rows)) is within in
    (w.1 0 0 (omega arith), w.1 1 0 (omega arith))

-- the delimiters of pairs are given
pub pairs_given : (rows : List Row) → IsLegible rows → (ty n : ℕ) (found : TypeDef) (key : TypeNo) (key_at : ℕ) (value : Slot) (at : ℕ) (inner entry : List ℕ) → n ≡ base rows ty → def_at rows n ≡ Some found
    → found ≡ D.Map key key_at value at (MF.StringPairs inner entry) → (0 < length inner) × (0 < length entry)
pairs_given rows legible ty n found key key_at value at inner entry same there is =
    let known : def_at rows n ≡ Some (D.Map key key_at value at (MF.StringPairs inner entry)) = there ∙ ap Some is in
    (given_some inner (legible.clear.types n (D.Map key key_at value at (MF.StringPairs inner entry)) known), given_some entry (legible.delims n (D.Map key key_at value at (MF.StringPairs inner entry)) known))
