-- The whole of parts that were read, by the form of the type: what is read of the parts is read of the whole.
use Rattle.std.proofs.Common.{◌≡◌, ℕ, ◌+◌, List, [], ◌∷◌, Bool, false, Option, Some, None}
use Rattle.std.specs.Prelude.{Result, slice_get}
use Rattle.std.specs.List.{AllByRecursion}
use Rattle.ild_data.specs.Data as T
use Rattle.ild_data.specs.Data.{Data}
use Rattle.ild_edges.specs.Store.{Moment}
use Rattle.ild_schema.specs.Slots.{form_of, plainly}
use Rattle.ild_schema.specs.Value as V
use Rattle.ild_schema.specs.Value.{Value, optionals_of, pairs_of, values_of}
use Rattle.ild_schema.specs.declared.def.MapForm.{MapForm}
use Rattle.ild_schema.specs.declared.def.Member.{Member}
use Rattle.ild_schema.specs.declared.def.StructDef.{StructDef}
use Rattle.ild_schema.specs.declared.def.TypeDef.TheVariants as D
use Rattle.ild_schema.specs.declared.def.UnionDef.{UnionDef}
use Rattle.ild_schema.specs.declared.number.Slot.{Slot}
use Rattle.ild_schema.specs.declared.number.TypeNo.{TypeNo}
use Rattle.ild_schema.specs.declared.row.Row.{Row}
use Rattle.ild_schema.specs.declared.val.Val.{Val}
use Rattle.ild_typed.specs.Composed.{composed, map_form}
use Rattle.ild_typed.specs.Hamt.{alone}
use Rattle.ild_typed.specs.Layer as L
use Rattle.ild_typed.specs.Levels.{map_levels, struct_levels}
use Rattle.ild_typed.specs.Schema.{IsSchema}
use Rattle.ild_open_held.specs.Laws.{IsFronted, is_hamt}
use Rattle.ild_open_held.specs.Splits.{HasFront, Splits, element_parts, entry_parts, entry_values, field_parts, field_values, union_of}
use Rattle.ild_open_held.proofs.Splitting.{lists_split, maps_split, structs_split, unions_split}
use Rattle.ild_open_parts.specs.Reads.{Reads, ReadsParts}
use Rattle.ild_open_parts.specs.declared.fault.OpenFault.{OpenFault}
use Rattle.ild_open_parts.proofs.Containing.{list_parts, map_parts, struct_parts, union_parts}
use Rattle.ild_open_parts.proofs.Forming.{list_there, map_there, struct_there, union_there}
use Rattle.ild_open_parts.proofs.Turning.{whole_read}

module _ (h : List ℕ → List ℕ) (at : List ℕ) (rows : List Row) (schema : IsSchema rows) (room less : ℕ) (keep : Bool) (s : Slot) (t : Data) (front : IsFronted rows room s t) (m n : Moment) (r : Result Val OpenFault) where
  pub list_whole : (elem : Slot) (place : ℕ) → form_of rows s ≡ Some (D.List elem place) → room ≡ less + 1
      → ((ds : List Data) → t ≡ T.list (T.items_of ds) → AllByRecursion (HasFront rows less) (element_parts elem ds) → ReadsParts h at rows less (element_parts elem ds) keep (λ vs. V.list (values_of vs)) m r n)
      → Reads h at rows room (s, t) keep m r n
  list_whole elem place is left read =
      let x = list_there rows room s t elem place is front in
      let split : (block : List ℕ → Option (List ℕ)) → Splits block h rows room s t less (element_parts elem x.items) (λ vs. V.list (values_of vs)) =
      λ block. lists_split block h rows schema room less s t front elem place x.items is x.made left in
      whole_read h at rows room less keep s t (element_parts elem x.items) (λ vs. V.list (values_of vs)) m n r split (list_parts rows room less s t elem place x.items is x.made left) (read x.items x.is (split (λ b. None)).fronts)

  pub map_whole : (key : TypeNo) (key_at : ℕ) (value : Slot) (place : ℕ) (form : MapForm) → is_hamt form ≡ false → form_of rows s ≡ Some (D.Map key key_at value place form) → room ≡ less + map_levels form
      → ((es : List (List ℕ × Data)) → map_form alone form (L.map es) ≡ Some t → AllByRecursion (HasFront rows less) (entry_parts value es)
      → ReadsParts h at rows less (entry_parts value es) keep (λ vs. V.map (pairs_of (entry_values es vs))) m r n)
      → Reads h at rows room (s, t) keep m r n
  map_whole key key_at value place form plain is left read =
      let x = map_there rows room s t key key_at value place form plain is front in
      let make : List Value → Value = λ vs. V.map (pairs_of (entry_values x.entries vs)) in
      let split : (block : List ℕ → Option (List ℕ)) → Splits block h rows room s t less (entry_parts value x.entries) make =
      λ block. maps_split block h rows schema room less s t front key key_at value place form x.entries plain is x.made left in
      whole_read h at rows room less keep s t (entry_parts value x.entries) make m n r split (map_parts rows room less s t key key_at value place form x.entries is x.made left) (read x.entries x.made (split (λ b. None)).fronts)

  pub struct_whole : (def : StructDef) → form_of rows s ≡ Some (D.Struct def) → room ≡ less + struct_levels def.form
      → ((os : List (Option Data)) → composed alone (D.Struct def) (L.struct os) ≡ Some t → AllByRecursion (HasFront rows less) (field_parts def.fields os)
      → ReadsParts h at rows less (field_parts def.fields os) keep (λ vs. V.struct (optionals_of (field_values os vs))) m r n)
      → Reads h at rows room (s, t) keep m r n
  struct_whole def is left read =
      let x = struct_there rows room s t def is front in
      let make : List Value → Value = λ vs. V.struct (optionals_of (field_values x.parts vs)) in
      let split : (block : List ℕ → Option (List ℕ)) → Splits block h rows room s t less (field_parts def.fields x.parts) make =
      λ block. structs_split block h rows schema room less s t front def x.parts is x.made left in
      whole_read h at rows room less keep s t (field_parts def.fields x.parts) make m n r split (struct_parts rows room less s t def x.parts is x.made left) (read x.parts x.made (split (λ b. None)).fronts)

  pub union_whole : (def : UnionDef) → form_of rows s ≡ Some (D.Union def) → room ≡ less + 1
      → ((k : ℕ) (member : Member) (c : Data) → slice_get def.members k ≡ Some member → composed alone (D.Union def) (L.union k c) ≡ Some t → HasFront rows less (plainly member.ty, c)
      → ReadsParts h at rows less ((plainly member.ty, c) ∷ []) keep (union_of k) m r n)
      → Reads h at rows room (s, t) keep m r n
  union_whole def is left read =
      let x = union_there rows room s t def is front in
      let split : (block : List ℕ → Option (List ℕ)) → Splits block h rows room s t less ((plainly x.member.ty, x.tree) ∷ []) (union_of x.number) =
      λ block. unions_split block h rows schema room less s t front def x.number x.member x.tree is x.there x.made left in
      whole_read h at rows room less keep s t ((plainly x.member.ty, x.tree) ∷ []) (union_of x.number) m n r split (union_parts rows room less s t def x.number x.member x.tree is x.there x.made left) (read x.number x.member x.tree x.there x.made (split (λ b. None)).fronts.0)
