-- A value is represented as null, or by a layer whose parts are represented.
use Rattle.std.proofs.Common.{◌≡◌, ℕ, List, [], ◌∷◌, cond, Option, Some, None, option_map, map, refl, sym, ◌∙◌, ap, inl, inr}
use Rattle.std.specs.Prelude.{◌⊎◌, option_and_then}
use Rattle.std.specs.List.{AllByRecursion}
use Rattle.std.proofs.lemmas.Option.{same_Some, none-some}
use Rattle.ild_data.specs.Data as T
use Rattle.ild_data.specs.Data.{Data}
use Rattle.ild_schema.specs.declared.number.Slot.{Slot}
use Rattle.ild_schema.specs.declared.def.TypeDef.{TypeDef}
use Rattle.ild_schema.specs.declared.def.TypeDef.TheVariants as D
use Rattle.ild_schema.specs.declared.def.Field.{Field}
use Rattle.ild_schema.specs.declared.row.Row.{Row}
use Rattle.ild_schema.specs.Value as V
use Rattle.ild_schema.specs.Value.{Value, Values, Pairs, Optionals, values_list, pairs_list, optionals_list}
use Rattle.ild_typed.specs.Layer as L
use Rattle.ild_typed.specs.Layer.{Layer, as_list, as_map, as_struct, as_union}
use Rattle.ild_typed.specs.Strings.{cons_both}
use Rattle.ild_schema.specs.Slots.{form_of}
use Rattle.ild_typed.specs.Slots.{element_of, fields_of, member_of}
use Rattle.ild_typed.specs.Composed.{Hamts, composed}
use Rattle.ild_typed.specs.Represented.{layered, represented, represented_values, represented_pairs, represented_fields}
use Rattle.ild_typed.specs.Layers.{layer_of}
use Rattle.ild_typed.specs.Parts.{Part, layer_map, present, FieldSlots, AreSlots, AreRepresented, ByNull, ByLayer, InLayers}
use Rattle.ild_typed.proofs.Basics.{then_from, map_from}
use Rattle.ild_typed.proofs.PartData.{values_data, pairs_data, member_data}
use Rattle.ild_typed.proofs.Entries.{both_from}
use Rattle.ild_typed.proofs.OneValue.{Way, as_null, as_layer, way_of, layer_data}

module _ (at : Hamts) (rows : List Row) where
  abbrev IsRep : Part → Type 0
  IsRep p = represented at rows p.slot p.value ≡ Some p.tree

  slots_up : {A : Type 0} (f : A → Slot) (o : Option Slot) (s : Slot) → o ≡ Some s → (xs : List A) → AllByRecursion (λ x. f x ≡ s) xs → AllByRecursion (λ x. o ≡ Some (f x)) xs
  slots_up f o s is [] all = tt
  slots_up f o s is (x ∷ xs) all = (is ∙ ap Some (sym all.0), slots_up f o s is xs all.1)

  slots_down : {A : Type 0} (f : A → Slot) (o : Option Slot) (s : Slot) → o ≡ Some s → (xs : List A) → AllByRecursion (λ x. o ≡ Some (f x)) xs → AllByRecursion (λ x. f x ≡ s) xs
  slots_down f o s is [] all = tt
  slots_down f o s is (x ∷ xs) all = (same_Some (f x) s (sym all.0 ∙ is), slots_down f o s is xs all.1)

  -- ---- from values to parts

  record ListParts (s : Slot) (vs : Values) (ds : List Data) : Type 0 where
    parts : List Part
    values : values_list vs ≡ map (λ p. p.value) parts
    trees : map (λ p. p.tree) parts ≡ ds
    slots : AllByRecursion (λ p. p.slot ≡ s) parts
    reps : AllByRecursion IsRep parts

  list_parts : (s : Slot) (vs : Values) (ds : List Data) → represented_values at rows s vs ≡ Some ds → ListParts s vs ds
  list_parts s V.no_values ds e = record { parts = []; values = refl; trees = same_Some [] ds e; slots = tt; reps = tt }
  list_parts s (V.value v vs) ds e =
      let b = both_from (represented at rows s v) (represented_values at rows s vs) ds e in
      let rest = list_parts s vs b.items b.rest in
      record {
        parts = record { slot = s; value = v; tree = b.item } ∷ rest.parts;
        values = ap (λ xs. v ∷ xs) rest.values;
        trees = ap (λ xs. b.item ∷ xs) rest.trees ∙ b.all;
        slots = (refl, rest.slots);
        reps = (b.first, rest.reps);
      }

  record MapParts (s : Slot) (vs : Pairs) (ds : List (List ℕ × Data)) : Type 0 where
    parts : List (List ℕ × Part)
    values : pairs_list vs ≡ map (λ p. (p.0, p.1.value)) parts
    trees : map (λ p. (p.0, p.1.tree)) parts ≡ ds
    slots : AllByRecursion (λ p. p.1.slot ≡ s) parts
    reps : AllByRecursion IsRep (map (λ p. p.1) parts)

  map_parts : (s : Slot) (vs : Pairs) (ds : List (List ℕ × Data)) → represented_pairs at rows s vs ≡ Some ds → MapParts s vs ds
  map_parts s V.no_pairs ds e = record { parts = []; values = refl; trees = same_Some [] ds e; slots = tt; reps = tt }
  map_parts s (V.pair k v vs) ds e =
      let b = both_from (option_map {U = List ℕ × Data} (λ d. (k, d)) (represented at rows s v)) (represented_pairs at rows s vs) ds e in
      let x = map_from {B = List ℕ × Data} (λ d. (k, d)) (represented at rows s v) b.item b.first in
      let rest = map_parts s vs b.items b.rest in
      record {
        parts = (k, record { slot = s; value = v; tree = x.item }) ∷ rest.parts;
        values = ap (λ xs. (k, v) ∷ xs) rest.values;
        trees = ap (λ xs. (k, x.item) ∷ xs) rest.trees ∙ ap (λ p. p ∷ b.items) (same_Some (k, x.item) b.item x.made) ∙ b.all;
        slots = (refl, rest.slots);
        reps = (x.there, rest.reps);
      }

  record FieldParts (fs : List Field) (os : Optionals) (ds : List (Option Data)) : Type 0 where
    parts : List (Option Part)
    values : optionals_list os ≡ map (option_map (λ p. p.value)) parts
    trees : map (option_map (λ p. p.tree)) parts ≡ ds
    slots : FieldSlots fs parts
    reps : AllByRecursion IsRep (present parts)

  field_parts : (fs : List Field) (os : Optionals) (ds : List (Option Data)) → represented_fields at rows fs os ≡ Some ds → FieldParts fs os ds
  field_parts fs V.no_optionals ds e = record { parts = []; values = refl; trees = same_Some [] ds e; slots = tt; reps = tt }
  field_parts [] (V.absent os) ds e = absurd (none-some ds e)
  field_parts [] (V.present v os) ds e = absurd (none-some ds e)
  field_parts (f ∷ fs) (V.absent os) ds e =
      let b = map_from (λ xs. None ∷ xs) (represented_fields at rows fs os) ds e in
      let rest = field_parts fs os b.item b.there in
      record {
        parts = None ∷ rest.parts;
        values = ap (λ xs. None ∷ xs) rest.values;
        trees = ap (λ xs. None ∷ xs) rest.trees ∙ same_Some (None ∷ b.item) ds b.made;
        slots = rest.slots;
        reps = rest.reps;
      }
  field_parts (f ∷ fs) (V.present v os) ds e =
      let b = both_from (option_map Some (represented at rows f.slot v)) (represented_fields at rows fs os) ds e in
      let x = map_from Some (represented at rows f.slot v) b.item b.first in
      let rest = field_parts fs os b.items b.rest in
      record {
        parts = Some (record { slot = f.slot; value = v; tree = x.item }) ∷ rest.parts;
        values = ap (λ xs. Some v ∷ xs) rest.values;
        trees = ap (λ xs. Some x.item ∷ xs) rest.trees ∙ ap (λ o. o ∷ b.items) (same_Some (Some x.item) b.item x.made) ∙ b.all;
        slots = (refl, rest.slots);
        reps = (x.there, rest.reps);
      }

  down : (s : Slot) (v : Value) (t : Data) → Way at rows s v t → ByNull s v t ⊎ ByLayer at rows s v t
  down s v t (as_null a b c) = inl (a, b, c)
  down s V.null t (as_layer d l is there made) = absurd (none-some l there)
  down s (V.boolean b) t (as_layer d l is there made) = inr (d, L.boolean b, is, record { value = refl; tree = ap (composed at d) (same_Some (L.boolean b) l there) ∙ made; slots = tt }, tt)
  down s (V.integer n) t (as_layer d l is there made) = inr (d, L.integer n, is, record { value = refl; tree = ap (composed at d) (same_Some (L.integer n) l there) ∙ made; slots = tt }, tt)
  down s (V.text x) t (as_layer d l is there made) = inr (d, L.text x, is, record { value = refl; tree = ap (composed at d) (same_Some (L.text x) l there) ∙ made; slots = tt }, tt)
  down s (V.bytes x) t (as_layer d l is there made) = inr (d, L.bytes x, is, record { value = refl; tree = ap (composed at d) (same_Some (L.bytes x) l there) ∙ made; slots = tt }, tt)
  down s (V.link x) t (as_layer d l is there made) = inr (d, L.link x, is, record { value = refl; tree = ap (composed at d) (same_Some (L.link x) l there) ∙ made; slots = tt }, tt)
  down s (V.any x) t (as_layer d l is there made) = inr (d, L.any x, is, record { value = refl; tree = ap (composed at d) (same_Some (L.any x) l there) ∙ made; slots = tt }, tt)
  down s V.unit t (as_layer d l is there made) = inr (d, L.unit, is, record { value = refl; tree = ap (composed at d) (same_Some L.unit l there) ∙ made; slots = tt }, tt)
  down s (V.enum n) t (as_layer d l is there made) = inr (d, L.enum n, is, record { value = refl; tree = ap (composed at d) (same_Some (L.enum n) l there) ∙ made; slots = tt }, tt)
  down s (V.hamt x) t (as_layer d l is there made) = inr (d, L.hamt x, is, record { value = refl; tree = ap (composed at d) (same_Some (L.hamt x) l there) ∙ made; slots = tt }, tt)
  down s (V.list vs) t (as_layer d l is there made) =
      let x = map_from L.list (values_data at rows (element_of (Some d)) vs) l there in
      let z = then_from (λ u. represented_values at rows u vs) (element_of (Some d)) x.item x.there in
      let p = list_parts z.item vs x.item z.made in
      inr (d, L.list p.parts, is, record { value = ap (λ xs. Some (L.list xs)) p.values; tree = ap (λ xs. composed at d (L.list xs)) p.trees ∙ ap (composed at d) (same_Some (L.list x.item) l x.made) ∙ made; slots = slots_up (λ p. p.slot) (element_of (Some d)) z.item z.there p.parts p.slots }, p.reps)
  down s (V.map vs) t (as_layer d l is there made) =
      let x = map_from L.map (pairs_data at rows (element_of (Some d)) vs) l there in
      let z = then_from (λ u. represented_pairs at rows u vs) (element_of (Some d)) x.item x.there in
      let p = map_parts z.item vs x.item z.made in
      inr (d, L.map p.parts, is, record { value = ap (λ xs. Some (L.map xs)) p.values; tree = ap (λ xs. composed at d (L.map xs)) p.trees ∙ ap (composed at d) (same_Some (L.map x.item) l x.made) ∙ made; slots = slots_up (λ (p : List ℕ × Part). p.1.slot) (element_of (Some d)) z.item z.there p.parts p.slots }, p.reps)
  down s (V.struct os) t (as_layer d l is there made) =
      let x = map_from L.struct (represented_fields at rows (fields_of (Some d)) os) l there in
      let p = field_parts (fields_of (Some d)) os x.item x.there in
      inr (d, L.struct p.parts, is, record { value = ap (λ xs. Some (L.struct xs)) p.values; tree = ap (λ xs. composed at d (L.struct xs)) p.trees ∙ ap (composed at d) (same_Some (L.struct x.item) l x.made) ∙ made; slots = p.slots }, p.reps)
  down s (V.union n v) t (as_layer d l is there made) =
      let x = map_from (L.union n) (member_data at rows (member_of (Some d) n) v) l there in
      let z = then_from (λ u. represented at rows u v) (member_of (Some d) n) x.item x.there in
      inr (
        d,
        L.union n (record { slot = z.item; value = v; tree = x.item }),
        is,
        record { value = refl; tree = ap (composed at d) (same_Some (L.union n x.item) l x.made) ∙ made; slots = z.there },
        (z.made, tt),
      )

  -- ---- from parts to values

  values_back : (s : Slot) (ps : List Part) (vs : Values) → values_list vs ≡ map (λ p. p.value) ps → AllByRecursion (λ p. p.slot ≡ s) ps → AllByRecursion IsRep ps
      → represented_values at rows s vs ≡ Some (map (λ p. p.tree) ps)
  values_back s [] V.no_values e slots reps = refl
  values_back s [] (V.value v vs) e slots reps = absurd cc
  values_back s (p ∷ ps) V.no_values e slots reps = absurd cc
  values_back s (p ∷ ps) (V.value v vs) e slots reps =
      let same : v ≡ p.value = ap (head_or v) e in
      let first : represented at rows s v ≡ Some p.tree = ap (represented at rows s) same ∙ ap (λ u. represented at rows u p.value) (sym slots.0) ∙ reps.0 in
      ap (λ o. cons_both o (represented_values at rows s vs)) first ∙ ap (cons_both (Some p.tree)) (values_back s ps vs (ap tail_of e) slots.1 reps.1)
    where
      head_or : Value → List Value → Value
      head_or z [] = z
      head_or z (x ∷ xs) = x

      tail_of : List Value → List Value
      tail_of [] = []
      tail_of (x ∷ xs) = xs

  pairs_back : (s : Slot) (ps : List (List ℕ × Part)) (vs : Pairs) → pairs_list vs ≡ map (λ p. (p.0, p.1.value)) ps → AllByRecursion (λ p. p.1.slot ≡ s) ps → AllByRecursion IsRep (map (λ p. p.1) ps)
      → represented_pairs at rows s vs ≡ Some (map (λ p. (p.0, p.1.tree)) ps)
  pairs_back s [] V.no_pairs e slots reps = refl
  pairs_back s [] (V.pair k v vs) e slots reps = absurd cc
  pairs_back s (p ∷ ps) V.no_pairs e slots reps = absurd cc
  pairs_back s (p ∷ ps) (V.pair k v vs) e slots reps =
      let both : (k, v) ≡ (p.0, p.1.value) = ap (head_or (k, v)) e in
      let same : v ≡ p.1.value = ap (λ (q : List ℕ × Value). q.1) both in
      let key : k ≡ p.0 = ap (λ (q : List ℕ × Value). q.0) both in
      let first : represented at rows s v ≡ Some p.1.tree = ap (represented at rows s) same ∙ ap (λ u. represented at rows u p.1.value) (sym slots.0) ∙ reps.0 in
      ap (λ o. cons_both (option_map {U = List ℕ × Data} (λ d. (k, d)) o) (represented_pairs at rows s vs)) first
      ∙ ap (λ q. cons_both (Some (q, p.1.tree)) (represented_pairs at rows s vs)) key
      ∙ ap (cons_both (Some (p.0, p.1.tree))) (pairs_back s ps vs (ap tail_of e) slots.1 reps.1)
    where
      head_or : List ℕ × Value → List (List ℕ × Value) → List ℕ × Value
      head_or z [] = z
      head_or z (x ∷ xs) = x

      tail_of : List (List ℕ × Value) → List (List ℕ × Value)
      tail_of [] = []
      tail_of (x ∷ xs) = xs

  fields_back : (fs : List Field) (ps : List (Option Part)) (os : Optionals) → optionals_list os ≡ map (option_map (λ p. p.value)) ps → FieldSlots fs ps → AllByRecursion IsRep (present ps)
      → represented_fields at rows fs os ≡ Some (map (option_map (λ p. p.tree)) ps)
  fields_back fs [] V.no_optionals e slots reps = refl
  fields_back fs [] (V.absent os) e slots reps = absurd cc
  fields_back fs [] (V.present v os) e slots reps = absurd cc
  fields_back fs (p ∷ ps) V.no_optionals e slots reps = absurd cc
  fields_back [] (p ∷ ps) os e slots reps = absurd slots
  fields_back (f ∷ fs) (None ∷ ps) (V.absent os) e slots reps = ap (option_map (λ xs. None ∷ xs)) (fields_back fs ps os (ap tail_of e) slots reps) where
    tail_of : List (Option Value) → List (Option Value)
    tail_of [] = []
    tail_of (x ∷ xs) = xs
  fields_back (f ∷ fs) (None ∷ ps) (V.present v os) e slots reps = absurd cc
  fields_back (f ∷ fs) (Some p ∷ ps) (V.absent os) e slots reps = absurd cc
  fields_back (f ∷ fs) (Some p ∷ ps) (V.present v os) e slots reps =
      let same : v ≡ p.value = same_Some v p.value (ap (head_or (Some v)) e) in
      let first : represented at rows f.slot v ≡ Some p.tree = ap (represented at rows f.slot) same ∙ ap (λ u. represented at rows u p.value) (sym slots.0) ∙ reps.0 in
      ap (λ o. cons_both (option_map Some o) (represented_fields at rows fs os)) first ∙ ap (cons_both (Some (Some p.tree))) (fields_back fs ps os (ap tail_of e) slots.1 reps.1)
    where
      head_or : Option Value → List (Option Value) → Option Value
      head_or z [] = z
      head_or z (x ∷ xs) = x

      tail_of : List (Option Value) → List (Option Value)
      tail_of [] = []
      tail_of (x ∷ xs) = xs

  -- a layer without parts is the same with any
  abbrev plain : {X : Type 0} → Layer X → Option (Layer Data)
  plain (L.boolean b) = Some (L.boolean b)
  plain (L.integer n) = Some (L.integer n)
  plain (L.text x) = Some (L.text x)
  plain (L.bytes x) = Some (L.bytes x)
  plain (L.link x) = Some (L.link x)
  plain (L.any x) = Some (L.any x)
  plain L.unit = Some L.unit
  plain (L.enum n) = Some (L.enum n)
  plain (L.hamt x) = Some (L.hamt x)
  plain l = None

  plain_back : (parts : Layer Part) (m : Layer Data) → plain (layer_map (λ p. p.value) parts) ≡ Some m → layer_map (λ p. p.tree) parts ≡ m
  plain_back (L.list ps) m e = absurd (none-some m e)
  plain_back (L.map ps) m e = absurd (none-some m e)
  plain_back (L.struct ps) m e = absurd (none-some m e)
  plain_back (L.union n p) m e = absurd (none-some m e)
  plain_back (L.boolean b) m e = same_Some (L.boolean b) m e
  plain_back (L.integer b) m e = same_Some (L.integer b) m e
  plain_back (L.text b) m e = same_Some (L.text b) m e
  plain_back (L.bytes b) m e = same_Some (L.bytes b) m e
  plain_back (L.link b) m e = same_Some (L.link b) m e
  plain_back (L.any b) m e = same_Some (L.any b) m e
  plain_back L.unit m e = same_Some L.unit m e
  plain_back (L.enum b) m e = same_Some (L.enum b) m e
  plain_back (L.hamt b) m e = same_Some (L.hamt b) m e

  -- the layer of the data is that of the parts
  record HasElement (d : TypeDef) : Type 0 where
    slot : Slot
    is : element_of (Some d) ≡ Some slot

  list_element : (d : TypeDef) (ds : List Data) (t : Data) → composed at d (L.list ds) ≡ Some t → HasElement d
  list_element (D.List elem place) ds t e = record { slot = elem; is = refl }
  list_element (D.Map key key_at value place form) ds t e = record { slot = value; is = refl }
  list_element d ds t e = absurd (none-some t e)

  map_element : (d : TypeDef) (ds : List (List ℕ × Data)) (t : Data) → composed at d (L.map ds) ≡ Some t → HasElement d
  map_element (D.List elem place) ds t e = record { slot = elem; is = refl }
  map_element (D.Map key key_at value place form) ds t e = record { slot = value; is = refl }
  map_element d ds t e = absurd (none-some t e)

  layer_back : (d : TypeDef) (v : Value) (parts : Layer Part) (t : Data) → composed at d (layer_map (λ p. p.tree) parts) ≡ Some t
      → layer_of v ≡ Some (layer_map (λ p. p.value) parts) → AreSlots d parts → AreRepresented at rows parts
      → layer_data at rows (Some d) v ≡ Some (layer_map (λ p. p.tree) parts)
  layer_back d V.null parts t made e slots reps = absurd (none-some (layer_map (λ p. p.value) parts) e)
  layer_back d (V.list vs) (L.list ps) t made e slots reps =
      let z = list_element d (map (λ p. p.tree) ps) t made in
      ap (λ o. option_map L.list (values_data at rows o vs)) z.is
      ∙ ap (option_map L.list) (values_back z.slot ps vs (by (same_Some (L.list (values_list vs)) (L.list (map (λ p. p.value) ps)) e)) (slots_down (λ p. p.slot) (element_of (Some d)) z.slot z.is ps slots) reps)
    where
      inside : Layer Value → List Value
      inside (L.list xs) = xs
      inside l = []

      by : L.list (values_list vs) ≡ L.list (map (λ p. p.value) ps) → values_list vs ≡ map (λ p. p.value) ps
      by k = ap inside k
  layer_back d (V.map vs) (L.map ps) t made e slots reps =
      let z = map_element d (map (λ p. (p.0, p.1.tree)) ps) t made in
      ap (λ o. option_map L.map (pairs_data at rows o vs)) z.is
      ∙ ap (option_map L.map) (pairs_back z.slot ps vs (by (same_Some (L.map (pairs_list vs)) (L.map (map (λ p. (p.0, p.1.value)) ps)) e)) (slots_down (λ (p : List ℕ × Part). p.1.slot) (element_of (Some d)) z.slot z.is ps slots) reps)
    where
      inside : Layer Value → List (List ℕ × Value)
      inside (L.map xs) = xs
      inside l = []

      by : L.map (pairs_list vs) ≡ L.map (map (λ p. (p.0, p.1.value)) ps) → pairs_list vs ≡ map (λ p. (p.0, p.1.value)) ps
      by k = ap inside k
  layer_back d (V.struct vs) (L.struct ps) t made e slots reps =
      ap (option_map L.struct) (fields_back (fields_of (Some d)) ps vs (by (same_Some (L.struct (optionals_list vs)) (L.struct (map (option_map (λ p. p.value)) ps)) e)) slots reps) where
        inside : Layer Value → List (Option Value)
        inside (L.struct xs) = xs
        inside l = []

        by : L.struct (optionals_list vs) ≡ L.struct (map (option_map (λ p. p.value)) ps) → optionals_list vs ≡ map (option_map (λ p. p.value)) ps
        by k = ap inside k
  layer_back d (V.union n v) (L.union m p) t made e slots reps =
      let whole : L.union n v ≡ L.union m p.value = same_Some (L.union n v) (L.union m p.value) e in
      let number : n ≡ m = ap number_in whole in
      let same : v ≡ p.value = ap (part_in v) whole in
      ap (λ k. option_map (L.union k) (member_data at rows (member_of (Some d) k) v)) number
      ∙ ap (λ w. option_map (L.union m) (member_data at rows (member_of (Some d) m) w)) same
      ∙ ap (λ o. option_map (L.union m) (member_data at rows o p.value)) slots
      ∙ ap (option_map (L.union m)) reps.0
    where
      number_in : Layer Value → ℕ
      number_in (L.union k x) = k
      number_in l = 0

      part_in : Value → Layer Value → Value
      part_in z (L.union k x) = x
      part_in z l = z
  layer_back d (V.list vs) parts t made e slots reps = absurd (none-some (values_list vs) (sym (ap (option_and_then as_list) e)))
  layer_back d (V.map vs) parts t made e slots reps = absurd (none-some (pairs_list vs) (sym (ap (option_and_then as_map) e)))
  layer_back d (V.struct vs) parts t made e slots reps = absurd (none-some (optionals_list vs) (sym (ap (option_and_then as_struct) e)))
  layer_back d (V.union n v) parts t made e slots reps = absurd (none-some (n, v) (sym (ap (option_and_then as_union) e)))
  layer_back d (V.boolean b) parts t made e slots reps = ap Some (sym (plain_back parts (L.boolean b) (ap plain (sym (same_Some (L.boolean b) (layer_map (λ p. p.value) parts) e)))))
  layer_back d (V.integer n) parts t made e slots reps = ap Some (sym (plain_back parts (L.integer n) (ap plain (sym (same_Some (L.integer n) (layer_map (λ p. p.value) parts) e)))))
  layer_back d (V.text x) parts t made e slots reps = ap Some (sym (plain_back parts (L.text x) (ap plain (sym (same_Some (L.text x) (layer_map (λ p. p.value) parts) e)))))
  layer_back d (V.bytes x) parts t made e slots reps = ap Some (sym (plain_back parts (L.bytes x) (ap plain (sym (same_Some (L.bytes x) (layer_map (λ p. p.value) parts) e)))))
  layer_back d (V.link x) parts t made e slots reps = ap Some (sym (plain_back parts (L.link x) (ap plain (sym (same_Some (L.link x) (layer_map (λ p. p.value) parts) e)))))
  layer_back d (V.any x) parts t made e slots reps = ap Some (sym (plain_back parts (L.any x) (ap plain (sym (same_Some (L.any x) (layer_map (λ p. p.value) parts) e)))))
  layer_back d V.unit parts t made e slots reps = ap Some (sym (plain_back parts L.unit (ap plain (sym (same_Some L.unit (layer_map (λ p. p.value) parts) e)))))
  layer_back d (V.enum n) parts t made e slots reps = ap Some (sym (plain_back parts (L.enum n) (ap plain (sym (same_Some (L.enum n) (layer_map (λ p. p.value) parts) e)))))
  layer_back d (V.hamt x) parts t made e slots reps = ap Some (sym (plain_back parts (L.hamt x) (ap plain (sym (same_Some (L.hamt x) (layer_map (λ p. p.value) parts) e)))))

  -- all but null is represented by its layer
  pub by_layer : (s : Slot) (d : TypeDef) (v : Value) (m : Layer Data) → form_of rows s ≡ Some d → layer_data at rows (Some d) v ≡ Some m → represented at rows s v ≡ composed at d m
  by_layer s d V.null m is e = absurd (none-some m e)
  by_layer s d v m is e = ap (λ o. layered at o (layer_data at rows o v)) is ∙ ap (λ o. option_and_then (composed at d) o) e

  up : (s : Slot) (v : Value) (t : Data) → ByNull s v t ⊎ ByLayer at rows s v t → represented at rows s v ≡ Some t
  up s v t (inl (v_null, nullable, is_null)) =
      ap (represented at rows s) v_null ∙ ap (λ b. cond b (Some T.null) None) nullable ∙ ap Some (sym is_null)
  up s v t (inr (d, parts, is, layer, reps)) =
      by_layer s d v (layer_map (λ p. p.tree) parts) is (layer_back d v parts t layer.tree layer.value layer.slots reps) ∙ layer.tree

-- the two ways of saying it
pub layers_all : (at : Hamts) → InLayers at
layers_all at = λ rows s v t. (λ e. down at rows s v t (way_of at rows s v t e), up at rows s v t)
