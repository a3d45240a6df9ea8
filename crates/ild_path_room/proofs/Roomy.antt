-- To fit in a room, by holders: the levels of the form are there, and the parts, the keys too, fit in what it leaves.
use Rattle.std.proofs.Common.{◌≡◌, ℕ, true, ◌+◌, ◌-◌, ◌≤◌, List, [], ◌∷◌, Option, Some, None, slice_get, refl, sym, ◌∙◌, ap, subst, arith}
use Rattle.std.specs.Prelude.{IsUtf8, IsSomeAnd}
use Rattle.std.specs.List.{AllByRecursion}
use Rattle.std.proofs.lemmas.Option.{none-some}
use Rattle.ild_data.specs.Data as D
use Rattle.ild_data.specs.Data.{Data, depth, items_depth, items_list, members_depth, members_list}
use Rattle.ild_schema.specs.declared.def.Field.{Field}
use Rattle.ild_schema.specs.declared.def.MapForm.{MapForm}
use Rattle.ild_schema.specs.declared.def.TypeDef.{TypeDef}
use Rattle.ild_schema.specs.declared.def.TypeDef.TheVariants as T
use Rattle.ild_schema.specs.declared.number.Slot.{Slot}
use Rattle.ild_schema.specs.declared.number.TypeNo.{TypeNo}
use Rattle.ild_schema.specs.declared.row.Row.{Row}
use Rattle.ild_schema.specs.Slots.{form_of, plainly}
use Rattle.ild_schema.specs.Value.{Value, null, boolean, integer, text, bytes, link, list, map, struct, union, enum, unit, any, hamt, values_list, pairs_list, optionals_list}
use Rattle.ild_typed.specs.Layer as L
use Rattle.ild_typed.specs.Layer.{Layer}
use Rattle.ild_typed.specs.Layers.{layer_of, RepresentsSome, FieldsFit, EntriesFit, LayerFits}
use Rattle.ild_typed.specs.Levels.{levels_of}
use Rattle.ild_typed.specs.Fits.{Fits}
use Rattle.ild_typed.specs.Holder.{Holder, fields, member, entries, elements, any_entries, any_elements, nothing, list_holder, map_holder, struct_holder, union_holder, holder_of, data_in}
use Rattle.ild_typed.specs.OfType.{OfType}
use Rattle.ild_typed.proofs.FormOf.{there_entries, entries_there, list_form, map_form, struct_form, union_form, any_form}
use Rattle.ild_typed.proofs.OneLayer.{in_layer}
use Rattle.ild_typed.proofs.Rooms.{all_more}
use Rattle.ild_path_edits.specs.Along.{taken}
use Rattle.ild_build.proofs.RoomParts.{in_room, to_room}
use Rattle.ild_path_room.specs.Room.{KeyFits}
use Rattle.ild_path_room.proofs.Depths.{Shallow, ShallowEntry, items_each, each_items, members_each, each_members, one_more, one_less}

-- a part that is there
abbrev pub PresentFits : (Slot → Value → Type 0) → Field → Option Value → Type 0
PresentFits P f None = Unit {0}
PresentFits P f (Some v) = P f.slot v

abbrev pub EachPresent : (Slot → Value → Type 0) → List Field → List (Option Value) → Type 0
EachPresent P [] os = Unit {0}
EachPresent P (f ∷ fs) [] = Unit {0}
EachPresent P (f ∷ fs) (o ∷ os) = PresentFits P f o × EachPresent P fs os

present_each : (P : Slot → Value → Type 0) (fs : List Field) (os : List (Option Value)) → FieldsFit P fs os → EachPresent P fs os
present_each P [] os h = tt
present_each P (f ∷ fs) [] h = tt
present_each P (f ∷ fs) (None ∷ os) h = (tt, present_each P fs os h.1)
present_each P (f ∷ fs) (Some v ∷ os) h = (h.0, present_each P fs os h.1)

each_present : (Q P : Slot → Value → Type 0) (fs : List Field) (os : List (Option Value)) → FieldsFit Q fs os → EachPresent P fs os → FieldsFit P fs os
each_present Q P [] [] h g = tt
each_present Q P [] (o ∷ os) h g = absurd h
each_present Q P (f ∷ fs) [] h g = absurd h
each_present Q P (f ∷ fs) (None ∷ os) h g = (h.0, each_present Q P fs os h.1 g.1)
each_present Q P (f ∷ fs) (Some v ∷ os) h g = (g.0, each_present Q P fs os h.1 g.1)

module _ (rows : List Row) where
  -- what fits in what a holder in this slot leaves of a room
  abbrev pub Left : ℕ → Slot → Slot → Value → Type 0
  Left i slot s w = Fits rows (i - taken (form_of rows slot)) s w

  abbrev pub EntryLeft : ℕ → Slot → ℕ → Slot → List ℕ × Value → Type 0
  EntryLeft i slot key elem p = KeyFits rows (i - taken (form_of rows slot)) (entries key elem true []) p.0 × Left i slot elem p.1

  abbrev pub Takes : ℕ → Slot → Type 0
  Takes i slot = taken (form_of rows slot) ≤ i

  abbrev pub IsRoomy : ℕ → Slot → Holder → Type 0
  IsRoomy i slot (fields fs os) = Takes i slot × EachPresent (Left i slot) fs os
  IsRoomy i slot (member ms n v) = Takes i slot × IsSomeAnd (slice_get ms n) (λ m. Left i slot (plainly m.ty) v)
  IsRoomy i slot (entries key elem paired ps) = Takes i slot × AllByRecursion (EntryLeft i slot key elem) ps
  IsRoomy i slot (elements elem vs) = Takes i slot × AllByRecursion (Left i slot elem) vs
  IsRoomy i slot (any_entries ms) = Takes i slot × AllByRecursion (ShallowEntry (i - taken (form_of rows slot))) ms
  IsRoomy i slot (any_elements ds) = Takes i slot × AllByRecursion (Shallow (i - taken (form_of rows slot))) ds
  IsRoomy i slot (nothing v) = Fits rows i slot v

  module _ (i : ℕ) (slot : Slot) (v : Value) (l : Layer Value) (d : TypeDef) (layer : layer_of v ≡ Some l) (form : form_of rows slot ≡ Some d) (levels : taken (Some d) ≡ levels_of d v) where
    opened : Fits rows i slot v → Takes i slot × LayerFits (Left i slot) rows d l
    opened h = subst (λ n. (n ≤ i) × LayerFits (λ t w. Fits rows (i - n) t w) rows d l) (sym (ap taken form ∙ levels)) (in_room rows i slot v l d layer form h)

    closed : Takes i slot → LayerFits (Left i slot) rows d l → Fits rows i slot v
    closed le h =
        let e : taken (form_of rows slot) ≡ levels_of d v = ap taken form ∙ levels in
        to_room rows i slot v l d layer form (subst (λ n. n ≤ i) e le) (subst (λ n. LayerFits (λ t w. Fits rows (i - n) t w) rows d l) e h)

  -- ---- data inside an Any

  record IsAny (slot : Slot) (d : Data) : Type 0 where
    form : form_of rows slot ≡ Some T.Any
    layer : LayerFits (OfType rows) rows T.Any (L.any d)

  any_is : (slot : Slot) (d : Data) → OfType rows slot (any d) → IsAny slot d
  any_is slot d h =
      let x = in_layer rows slot (any d) (L.any d) refl h in
      let k = any_form rows (OfType rows) x.ty d x.holds in
      record { form = x.form ∙ ap Some k.0; layer = (k.1, k.2) }

  any_depth : (i : ℕ) (slot : Slot) (d : Data) → Fits rows i slot (any d) → depth d ≤ i
  any_depth i slot d h = (in_room rows i slot (any d) (L.any d) T.Any refl (any_is slot d (i, h)).form h).0

  pub any_fits : (i : ℕ) (slot : Slot) (d : Data) → OfType rows slot (any d) → depth d ≤ i → Fits rows i slot (any d)
  any_fits i slot d h le = let x = any_is slot d h in to_room rows i slot (any d) (L.any d) T.Any refl x.form le x.layer

  inside : (i : ℕ) (slot : Slot) (d : Data) (n : ℕ) → depth d ≡ n + 1 → Fits rows i slot (any d) → Takes i slot × (n ≤ i - taken (form_of rows slot))
  inside i slot d n e h =
      subst (λ t. (t ≤ i) × (n ≤ i - t)) (sym (ap taken (any_is slot d (i, h)).form)) (one_more n i (subst (λ m. m ≤ i) e (any_depth i slot d h)))

  outside : (i : ℕ) (slot : Slot) (d : Data) (n : ℕ) → depth d ≡ n + 1 → OfType rows slot (any d) → Takes i slot → n ≤ i - taken (form_of rows slot) → Fits rows i slot (any d)
  outside i slot d n e h le less =
      let t : taken (form_of rows slot) ≡ 1 = ap taken (any_is slot d h).form in
      any_fits i slot d h (subst (λ m. m ≤ i) (sym e) (one_less n i (subst (λ k. k ≤ i) t le) (subst (λ k. n ≤ i - k) t less)))

  -- how deep data inside an Any nest, as a value of any slot
  pub depth_in : (n : ℕ) (r : Slot) (v : Value) → Fits rows n r v → depth (data_in v) ≤ n
  depth_in n r (any d) h = any_depth n r d h
  depth_in n r null h = omega (arith)
  depth_in n r (boolean b) h = omega (arith)
  depth_in n r (integer x) h = omega (arith)
  depth_in n r (text x) h = omega (arith)
  depth_in n r (bytes x) h = omega (arith)
  depth_in n r (link x) h = omega (arith)
  depth_in n r (list vs) h = omega (arith)
  depth_in n r (map ps) h = omega (arith)
  depth_in n r (struct os) h = omega (arith)
  depth_in n r (union k v) h = omega (arith)
  depth_in n r (enum k) h = omega (arith)
  depth_in n r unit h = omega (arith)
  depth_in n r (hamt d) h = omega (arith)

  -- ---- a value that fits, as a holder

  pub roomy : (i : ℕ) (slot : Slot) (v : Value) → Fits rows i slot v → IsRoomy i slot (holder_of rows slot v)
  roomy i slot null h = h
  roomy i slot (boolean b) h = h
  roomy i slot (integer n) h = h
  roomy i slot (text x) h = h
  roomy i slot (bytes x) h = h
  roomy i slot (link x) h = h
  roomy i slot (enum n) h = h
  roomy i slot unit h = h
  roomy i slot (hamt d) h = h
  roomy i slot (any D.null) h = h
  roomy i slot (any (D.boolean b)) h = h
  roomy i slot (any (D.integer n)) h = h
  roomy i slot (any (D.text x)) h = h
  roomy i slot (any (D.bytes x)) h = h
  roomy i slot (any (D.link x)) h = h
  roomy i slot (any (D.list ds)) h = let x = inside i slot (D.list ds) (items_depth ds) refl h in (x.0, items_each ds (i - taken (form_of rows slot)) x.1)
  roomy i slot (any (D.map ms)) h = let x = inside i slot (D.map ms) (members_depth ms) refl h in (x.0, members_each ms (i - taken (form_of rows slot)) x.1)
  roomy i slot (list vs) h =
      let t = in_layer rows slot (list vs) (L.list (values_list vs)) refl (i, h) in
      let k = list_form rows (OfType rows) t.ty (values_list vs) t.holds in
      let f = t.form ∙ ap Some k.2 in
      subst (λ g. IsRoomy i slot (list_holder g vs)) (sym f) (opened i slot (list vs) (L.list (values_list vs)) (T.List k.0 k.1) refl f refl h)
  roomy i slot (map ps) h =
      let t = in_layer rows slot (map ps) (L.map (pairs_list ps)) refl (i, h) in
      let k = map_form rows (OfType rows) t.ty (pairs_list ps) t.holds in
      let f = t.form ∙ ap Some k.5 in
      let o = opened i slot (map ps) (L.map (pairs_list ps)) (T.Map k.0 k.1 k.2 k.3 k.4) refl f refl h in
      let all : EntriesFit (Left i slot) rows k.0 k.2 k.4 (pairs_list ps) = entries_there rows (Left i slot) k.0 k.2 k.4 (pairs_list ps) o.1 in
      subst (λ g. IsRoomy i slot (map_holder g ps)) (sym f)
      (o.0, all_more (λ p. IsUtf8 p.0 × RepresentsSome (Left i slot) rows (plainly k.0) (D.text p.0) × Left i slot k.2 p.1) (EntryLeft i slot (k.0).0 k.2) (λ p e. (e.1, e.2)) (pairs_list ps) all.1)
  roomy i slot (struct os) h =
      let t = in_layer rows slot (struct os) (L.struct (optionals_list os)) refl (i, h) in
      let k = struct_form rows (OfType rows) t.ty (optionals_list os) t.holds in
      let f = t.form ∙ ap Some k.1 in
      let o = opened i slot (struct os) (L.struct (optionals_list os)) (T.Struct k.0) refl f refl h in
      subst (λ g. IsRoomy i slot (struct_holder g os)) (sym f) (o.0, present_each (Left i slot) (k.0).fields (optionals_list os) o.1)
  roomy i slot (union n v) h =
      let t = in_layer rows slot (union n v) (L.union n v) refl (i, h) in
      let k = union_form rows (OfType rows) t.ty n v t.holds in
      let f = t.form ∙ ap Some k.2 in
      subst (λ g. IsRoomy i slot (union_holder g n v)) (sym f) (opened i slot (union n v) (L.union n v) (T.Union k.0) refl f refl h)

  -- ---- and back

  entry_fits : (i : ℕ) (slot : Slot) (key : TypeNo) (elem : Slot) (ps : List (List ℕ × Value)) → AllByRecursion (λ p. IsUtf8 p.0 × RepresentsSome (OfType rows) rows (plainly key) (D.text p.0) × OfType rows elem p.1) ps
      → AllByRecursion (EntryLeft i slot key.0 elem) ps → AllByRecursion (λ p. IsUtf8 p.0 × RepresentsSome (Left i slot) rows (plainly key) (D.text p.0) × Left i slot elem p.1) ps
  entry_fits i slot key elem [] h g = tt
  entry_fits i slot key elem (p ∷ ps) h g = (((h.0).0, (g.0).0, (g.0).1), entry_fits i slot key elem ps h.1 g.1)

  pub roomy_fits : (i : ℕ) (slot : Slot) (v : Value) → OfType rows slot v → IsRoomy i slot (holder_of rows slot v) → Fits rows i slot v
  roomy_fits i slot null t h = h
  roomy_fits i slot (boolean b) t h = h
  roomy_fits i slot (integer n) t h = h
  roomy_fits i slot (text x) t h = h
  roomy_fits i slot (bytes x) t h = h
  roomy_fits i slot (link x) t h = h
  roomy_fits i slot (enum n) t h = h
  roomy_fits i slot unit t h = h
  roomy_fits i slot (hamt d) t h = h
  roomy_fits i slot (any D.null) t h = h
  roomy_fits i slot (any (D.boolean b)) t h = h
  roomy_fits i slot (any (D.integer n)) t h = h
  roomy_fits i slot (any (D.text x)) t h = h
  roomy_fits i slot (any (D.bytes x)) t h = h
  roomy_fits i slot (any (D.link x)) t h = h
  roomy_fits i slot (any (D.list ds)) t h = outside i slot (D.list ds) (items_depth ds) refl t h.0 (each_items ds (i - taken (form_of rows slot)) h.1)
  roomy_fits i slot (any (D.map ms)) t h = outside i slot (D.map ms) (members_depth ms) refl t h.0 (each_members ms (i - taken (form_of rows slot)) h.1)
  roomy_fits i slot (list vs) t h =
      let x = in_layer rows slot (list vs) (L.list (values_list vs)) refl t in
      let k = list_form rows (OfType rows) x.ty (values_list vs) x.holds in
      let f = x.form ∙ ap Some k.2 in
      let g : IsRoomy i slot (elements k.0 (values_list vs)) = subst (λ g. IsRoomy i slot (list_holder g vs)) f h in
      closed i slot (list vs) (L.list (values_list vs)) (T.List k.0 k.1) refl f refl g.0 g.1
  roomy_fits i slot (map ps) t h =
      let x = in_layer rows slot (map ps) (L.map (pairs_list ps)) refl t in
      let k = map_form rows (OfType rows) x.ty (pairs_list ps) x.holds in
      let f = x.form ∙ ap Some k.5 in
      let all : EntriesFit (OfType rows) rows k.0 k.2 k.4 (pairs_list ps) = k.6 in
      let g = subst (λ g. IsRoomy i slot (map_holder g ps)) f h in
      closed i slot (map ps) (L.map (pairs_list ps)) (T.Map k.0 k.1 k.2 k.3 k.4) refl f refl g.0
      (there_entries rows (Left i slot) k.0 k.2 k.4 (pairs_list ps) (all.0, entry_fits i slot k.0 k.2 (pairs_list ps) all.1 g.1))
  roomy_fits i slot (struct os) t h =
      let x = in_layer rows slot (struct os) (L.struct (optionals_list os)) refl t in
      let k = struct_form rows (OfType rows) x.ty (optionals_list os) x.holds in
      let f = x.form ∙ ap Some k.1 in
      let g = subst (λ g. IsRoomy i slot (struct_holder g os)) f h in
      closed i slot (struct os) (L.struct (optionals_list os)) (T.Struct k.0) refl f refl g.0 (each_present (OfType rows) (Left i slot) (k.0).fields (optionals_list os) k.2 g.1)
  roomy_fits i slot (union n v) t h =
      let x = in_layer rows slot (union n v) (L.union n v) refl t in
      let k = union_form rows (OfType rows) x.ty n v x.holds in
      let f = x.form ∙ ap Some k.2 in
      let g = subst (λ g. IsRoomy i slot (union_holder g n v)) f h in
      closed i slot (union n v) (L.union n v) (T.Union k.0) refl f refl g.0 g.1
