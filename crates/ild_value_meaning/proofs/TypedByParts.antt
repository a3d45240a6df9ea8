-- Values that fit in some room are those of the type by their parts, and the other way round.
use Rattle.std.proofs.Common.{◌≡◌, ℕ, List, [], ◌∷◌, Bool, true, false, Option, Some, None, refl, ap, sym, subst, ◌∙◌, inr}
use Rattle.std.specs.Prelude.{IsSomeAnd, IsUtf8, cond}
use Rattle.std.specs.List.{AllByRecursion}
use Rattle.std.proofs.lemmas.Option.{none-some}
use Rattle.ild_data.proofs.Gets.{got_below}
use Rattle.ild_data.specs.Data as T
use Rattle.ild_data.specs.Data.{Data}
use Rattle.ild_data.specs.Key.{same_text, value_at}
use Rattle.ild_schema.specs.declared.number.Slot.{Slot}
use Rattle.ild_schema.specs.declared.number.TypeNo.{TypeNo}
use Rattle.ild_schema.specs.declared.def.TypeDef.TheVariants as D
use Rattle.ild_schema.specs.declared.def.MapForm.{MapForm}
use Rattle.ild_schema.specs.declared.def.MapForm.TheVariants as MF
use Rattle.ild_schema.specs.declared.def.Field.{Field}
use Rattle.ild_schema.specs.declared.row.Row.{Row}
use Rattle.ild_schema.specs.Value as V
use Rattle.ild_schema.specs.Value.{Value, Values, Pairs, Optionals, values_list, pairs_list, optionals_list}
use Rattle.ild_splice_changes.proofs.Maps.{own_text, other_is}
use Rattle.ild_typed.specs.Layer as L
use Rattle.ild_schema.specs.Slots.{plainly}
use Rattle.ild_typed.specs.Layers.{IsNotNull, AreKeysApart, AreKeys, RepresentsSome, FieldsFit, EntriesFit}
use Rattle.ild_typed.specs.Fits.{IsTextOf}
use Rattle.ild_typed.specs.Holder.{is_paired}
use Rattle.ild_value_meaning.specs.Meant.{is_null}
use Rattle.ild_typed.specs.OfType.{OfType, TestsKeys}
use Rattle.ild_value_meaning.proofs.ByParts.{ByParts, AreByParts, EntriesByParts, FieldsByParts, AreDistinct, AreInOrder}
use Rattle.ild_typed.proofs.FormOf.{there_entries, boolean_form, integer_form, text_form, bytes_form, link_form, any_form, unit_form, enum_form, list_form, struct_form, union_form, map_form, hamt_form}
use Rattle.ild_typed.proofs.OneLayer.{in_layer, of_layer, null_in, of_null}

-- keys that are apart
not_among : {X : Type 0} (k : List ℕ) (ps : List (List ℕ × X)) → AllByRecursion (λ q. k ≡ q.0 → ⊥) ps → value_at k ps ≡ None
not_among k [] h = refl
not_among k (p ∷ ps) h = ap (λ b. cond b (Some p.1) (value_at k ps)) (other_is k p.0 h.0) ∙ not_among k ps h.1

apart_distinct : {X : Type 0} (ps : List (List ℕ × X)) → AreKeysApart ps → AreDistinct ps
apart_distinct [] h = tt
apart_distinct (p ∷ ps) h = (not_among p.0 ps h.0, apart_distinct ps h.1)

differs : {X : Type 0} (k : List ℕ) (p : List ℕ × X) (o : Option X) (b : Bool) → b ≡ same_text k p.0 → cond b (Some p.1) o ≡ None → (k ≡ p.0 → ⊥) × (o ≡ None)
differs k p o true e h = absurd (none-some p.1 (sym h))
differs k p o false e h = (λ q. wrong (e ∙ (ap (same_text k) (sym q) ∙ own_text k)), h)
  where
    wrong : false ≡ true → ⊥
    wrong h = absurd cc

among_none : {X : Type 0} (k : List ℕ) (ps : List (List ℕ × X)) → value_at k ps ≡ None → AllByRecursion (λ q. k ≡ q.0 → ⊥) ps
among_none k [] h = tt
among_none k (p ∷ ps) h = let d = differs k p (value_at k ps) (same_text k p.0) refl h in (d.0, among_none k ps d.1)

distinct_apart : {X : Type 0} (ps : List (List ℕ × X)) → AreDistinct ps → AreKeysApart ps
distinct_apart [] h = tt
distinct_apart (p ∷ ps) h = (among_none p.0 ps h.0, distinct_apart ps h.1)

pub keys_ordered : {X : Type 0} (f : MapForm) (ps : List (List ℕ × X)) → AreKeys f ps → AreInOrder (is_paired f) ps
keys_ordered MF.Map ps h = h
keys_ordered MF.ListPairs ps h = apart_distinct ps h
keys_ordered (MF.StringPairs inner entry) ps h = apart_distinct ps h
keys_ordered (MF.Hamt p) ps h = h

pub ordered_keys : {X : Type 0} (f : MapForm) (ps : List (List ℕ × X)) → AreInOrder (is_paired f) ps → AreKeys f ps
ordered_keys MF.Map ps h = h
ordered_keys MF.ListPairs ps h = distinct_apart ps h
ordered_keys (MF.StringPairs inner entry) ps h = distinct_apart ps h
ordered_keys (MF.Hamt p) ps h = h

not_null : (d : Data) → IsNotNull d → is_null d ≡ false
not_null T.null h = absurd h
not_null (T.boolean b) h = refl
not_null (T.integer n) h = refl
not_null (T.text s) h = refl
not_null (T.bytes s) h = refl
not_null (T.list ds) h = refl
not_null (T.map ms) h = refl
not_null (T.link s) h = refl

null_not : (d : Data) → is_null d ≡ false → IsNotNull d
null_not T.null h = absurd cc
null_not (T.boolean b) h = tt
null_not (T.integer n) h = tt
null_not (T.text s) h = tt
null_not (T.bytes s) h = tt
null_not (T.list ds) h = tt
null_not (T.map ms) h = tt
null_not (T.link s) h = tt

module _ (rows : List Row) (is_key : ℕ → List ℕ → Bool) (keys : TestsKeys rows is_key) where
  abbrev Of : Slot → Value → Type 0
  Of s v = OfType rows s v

  -- keys
  key_there : (key : TypeNo) (k : List ℕ) → IsUtf8 k → RepresentsSome Of rows (plainly key) (T.text k) → is_key key.0 k ≡ true
  key_there key k u (v, fits, shows) = (keys key k).1 (u, (fits.0, (v, fits.1, shows)))

  there_key : (key : TypeNo) (k : List ℕ) → is_key key.0 k ≡ true → IsUtf8 k × RepresentsSome Of rows (plainly key) (T.text k)
  there_key key k h = let x = (keys key k).0 h in (x.0, (shown x.1))
    where
      shown : IsTextOf rows key k → RepresentsSome Of rows (plainly key) (T.text k)
      shown (room, (v, fits, shows)) = (v, (room, fits), shows)

  -- from what fits to the parts
  mutual
    pub to_parts : (v : Value) (s : Slot) → Of s v → ByParts rows is_key s v
    to_parts V.null s h = null_in rows s h
    to_parts (V.boolean b) s h = let f = in_layer rows s (V.boolean b) (L.boolean b) refl h in f.form ∙ ap Some (boolean_form rows Of f.ty b f.holds)
    to_parts (V.integer n) s h = let f = in_layer rows s (V.integer n) (L.integer n) refl h in let k = integer_form rows Of f.ty n f.holds in (f.form ∙ ap Some k.0, k.1)
    to_parts (V.text x) s h = let f = in_layer rows s (V.text x) (L.text x) refl h in let k = text_form rows Of f.ty x f.holds in (f.form ∙ ap Some k.0, k.1)
    to_parts (V.bytes x) s h = let f = in_layer rows s (V.bytes x) (L.bytes x) refl h in let k = bytes_form rows Of f.ty x f.holds in (f.form ∙ ap Some k.0, k.1)
    to_parts (V.link x) s h = let f = in_layer rows s (V.link x) (L.link x) refl h in let k = link_form rows Of f.ty x f.holds in (k.0, f.form ∙ ap Some k.1, k.2, k.3)
    to_parts (V.list vs) s h =
        let f = in_layer rows s (V.list vs) (L.list (values_list vs)) refl h in
        let k = list_form rows Of f.ty (values_list vs) f.holds in
        (k.0, k.1, f.form ∙ ap Some k.2, values_to vs k.0 k.3)
    to_parts (V.map ps) s h =
        let f = in_layer rows s (V.map ps) (L.map (pairs_list ps)) refl h in
        let k = map_form rows Of f.ty (pairs_list ps) f.holds in
        let e : EntriesFit Of rows k.0 k.2 k.4 (pairs_list ps) = k.6 in
        (k.0, k.1, k.2, k.3, k.4, f.form ∙ ap Some k.5, pairs_to ps k.0 k.2 e.1, keys_ordered k.4 (pairs_list ps) e.0)
    to_parts (V.struct os) s h =
        let f = in_layer rows s (V.struct os) (L.struct (optionals_list os)) refl h in
        let k = struct_form rows Of f.ty (optionals_list os) f.holds in
        (k.0, f.form ∙ ap Some k.1, fields_to os (k.0).fields k.2)
    to_parts (V.union n v) s h =
        let f = in_layer rows s (V.union n v) (L.union n v) refl h in
        let k = union_form rows Of f.ty n v f.holds in
        (k.0, k.1, f.form ∙ ap Some k.2, k.3, to_parts v (plainly (k.1).ty) k.4)
    to_parts (V.enum n) s h = let f = in_layer rows s (V.enum n) (L.enum n) refl h in let k = enum_form rows Of f.ty n f.holds in (k.0, k.1, f.form ∙ ap Some k.2, k.3)
    to_parts V.unit s h = let f = in_layer rows s V.unit L.unit refl h in let k = unit_form rows Of f.ty f.holds in (k.0, f.form ∙ ap Some k.1)
    to_parts (V.any d) s h = let f = in_layer rows s (V.any d) (L.any d) refl h in let k = any_form rows Of f.ty d f.holds in (f.form ∙ ap Some k.0, not_null d k.2, k.1)
    to_parts (V.hamt d) s h = let f = in_layer rows s (V.hamt d) (L.hamt d) refl h in let k = hamt_form rows Of f.ty d f.holds in (k.0, k.1, k.2, k.3, k.4, f.form ∙ ap Some k.5, k.6)

    values_to : (vs : Values) (s : Slot) → AllByRecursion (Of s) (values_list vs) → AreByParts rows is_key s vs
    values_to V.no_values s h = tt
    values_to (V.value v vs) s h = (to_parts v s h.0, values_to vs s h.1)

    pairs_to : (ps : Pairs) (key : TypeNo) (s : Slot) → AllByRecursion (λ p. IsUtf8 p.0 × RepresentsSome Of rows (plainly key) (T.text p.0) × Of s p.1) (pairs_list ps) → EntriesByParts rows is_key key.0 s ps
    pairs_to V.no_pairs key s h = tt
    pairs_to (V.pair k v ps) key s h = (key_there key k (h.0).0 (h.0).1, to_parts v s (h.0).2, pairs_to ps key s h.1)

    fields_to : (os : Optionals) (fs : List Field) → FieldsFit Of fs (optionals_list os) → FieldsByParts rows is_key fs os
    fields_to V.no_optionals [] h = tt
    fields_to V.no_optionals (f ∷ fs) h = h
    fields_to (V.absent os) [] h = h
    fields_to (V.absent os) (f ∷ fs) h = (h.0, fields_to os fs h.1)
    fields_to (V.present v os) [] h = h
    fields_to (V.present v os) (f ∷ fs) h = (to_parts v f.slot h.0, fields_to os fs h.1)

  -- and back
  mutual
    pub from_parts : (v : Value) (s : Slot) → ByParts rows is_key s v → Of s v
    from_parts V.null s h = of_null rows s h
    from_parts (V.boolean b) s h = of_layer rows s (V.boolean b) D.Bool (L.boolean b) h refl tt
    from_parts (V.integer n) s h = of_layer rows s (V.integer n) D.Int (L.integer n) h.0 refl h.1
    from_parts (V.text x) s h = of_layer rows s (V.text x) D.Text (L.text x) h.0 refl h.1
    from_parts (V.bytes x) s h = of_layer rows s (V.bytes x) D.Bytes (L.bytes x) h.0 refl h.1
    from_parts (V.link x) s h = of_layer rows s (V.link x) (D.Link h.0) (L.link x) h.1 refl (h.2, h.3)
    from_parts (V.list vs) s h = of_layer rows s (V.list vs) (D.List h.0 h.1) (L.list (values_list vs)) h.2 refl (values_from vs h.0 h.3)
    from_parts (V.map ps) s h =
        of_layer rows s (V.map ps) (D.Map h.0 h.1 h.2 h.3 h.4) (L.map (pairs_list ps)) h.5 refl
        (there_entries rows Of h.0 h.2 h.4 (pairs_list ps) (ordered_keys h.4 (pairs_list ps) h.7, pairs_from ps h.0 h.2 h.6))
    from_parts (V.struct os) s h = of_layer rows s (V.struct os) (D.Struct h.0) (L.struct (optionals_list os)) h.1 refl (fields_from os (h.0).fields h.2)
    from_parts (V.union n v) s h =
        of_layer rows s (V.union n v) (D.Union h.0) (L.union n v) h.2 refl (subst (λ o. IsSomeAnd o (λ m. Of (plainly m.ty) v)) (sym h.3) (from_parts v (plainly (h.1).ty) h.4))
    from_parts (V.enum n) s h = of_layer rows s (V.enum n) (D.Enum h.0) (L.enum n) h.2 refl (got_below (h.0).members n h.1 h.3)
    from_parts V.unit s h = of_layer rows s V.unit (D.Unit h.0) L.unit h.1 refl tt
    from_parts (V.any d) s h = of_layer rows s (V.any d) D.Any (L.any d) h.0 refl (h.2, null_not d h.1)
    from_parts (V.hamt d) s h = of_layer rows s (V.hamt d) (D.Map h.0 h.1 h.2 h.3 (MF.Hamt h.4)) (L.hamt d) h.5 refl (inr h.6)

    values_from : (vs : Values) (s : Slot) → AreByParts rows is_key s vs → AllByRecursion (Of s) (values_list vs)
    values_from V.no_values s h = tt
    values_from (V.value v vs) s h = (from_parts v s h.0, values_from vs s h.1)

    pairs_from : (ps : Pairs) (key : TypeNo) (s : Slot) → EntriesByParts rows is_key key.0 s ps → AllByRecursion (λ p. IsUtf8 p.0 × RepresentsSome Of rows (plainly key) (T.text p.0) × Of s p.1) (pairs_list ps)
    pairs_from V.no_pairs key s h = tt
    pairs_from (V.pair k v ps) key s h = let x = there_key key k h.0 in ((x.0, x.1, from_parts v s h.1), pairs_from ps key s h.2)

    fields_from : (os : Optionals) (fs : List Field) → FieldsByParts rows is_key fs os → FieldsFit Of fs (optionals_list os)
    fields_from V.no_optionals [] h = tt
    fields_from V.no_optionals (f ∷ fs) h = h
    fields_from (V.absent os) [] h = h
    fields_from (V.absent os) (f ∷ fs) h = (h.0, fields_from os fs h.1)
    fields_from (V.present v os) [] h = h
    fields_from (V.present v os) (f ∷ fs) h = (from_parts v f.slot h.0, fields_from os fs h.1)
