-- The nodes of a part are nodes of the whole.
use Rattle.std.proofs.Common.{◌≡◌, ℕ, zero, suc, List, [], ◌∷◌, ◌++◌, slice_get, Bool, true, false, cond, Option, Some, None, refl, ap, sym, subst, ◌∙◌, option_map}
use Rattle.std.specs.Prelude.{option_and_then}
use Rattle.std.specs.List.{AllByRecursion}
use Rattle.std.specs.Option.{option_map_or}
use Rattle.std.proofs.lemmas.Option.{same_Some, none-some}
use Rattle.ild_data.proofs.AllOf.{all_first, all_second}
use Rattle.ild_data.specs.Data as D
use Rattle.ild_data.specs.Data.{Data}
use Rattle.ild_data.specs.Key.{same_text, value_at}
use Rattle.ild_path_edits.proofs.HeldTyped.{with_slot, inside_any, indexed, held_is}
use Rattle.ild_schema.specs.Prelude.{anything}
use Rattle.ild_schema.specs.Slots.{form_of}
use Rattle.ild_schema.specs.Value as V
use Rattle.ild_schema.specs.Value.{Value, Values, Pairs, Optionals, values_list, pairs_list, optionals_list}
use Rattle.ild_schema.specs.declared.def.Field.{Field}
use Rattle.ild_schema.specs.declared.def.Member.{Member}
use Rattle.ild_schema.specs.declared.def.TypeDef.{TypeDef}
use Rattle.ild_schema.specs.declared.def.TypeDef.TheVariants as T
use Rattle.ild_schema.specs.declared.number.Slot.{Slot}
use Rattle.ild_schema.specs.declared.row.Row.{Row}
use Rattle.ild_typed.specs.At.{InSlot}
use Rattle.ild_typed.specs.Blocks.{hamt_nodes, nodes, nodes_of_values, nodes_of_pairs, nodes_of_fields}
use Rattle.ild_typed.specs.Hamt.{whole}
use Rattle.ild_typed.specs.Holder.{holder_of, list_holder, map_holder, of_any, struct_holder, union_holder}
use Rattle.ild_typed.specs.Represented.{represented_pairs}
use Rattle.ild_typed.specs.Segment.{field_at, held_as, index_of, part}
use Rattle.ild_typed.specs.Slots.{element_of, fields_of, member_of, slot_of}

module _ (P : List ℕ → Type 0) (h : List ℕ → List ℕ) (rows : List Row) where
  abbrev All : InSlot → Type 0
  All q = AllByRecursion P (nodes h rows q.0 q.1)

  element_nodes : (u : Slot) (vs : Values) (i : ℕ) (w : Value) → AllByRecursion P (nodes_of_values h rows u vs) → slice_get (values_list vs) i ≡ Some w → All (u, w)
  element_nodes u V.no_values i w all e = absurd (none-some w e)
  element_nodes u (V.value v vs) zero w all e = subst (λ x. All (u, x)) (same_Some v w e) (all_first P (nodes h rows u v) (nodes_of_values h rows u vs) all)
  element_nodes u (V.value v vs) (suc i) w all e = element_nodes u vs i w (all_second P (nodes h rows u v) (nodes_of_values h rows u vs) all) e

  entry_nodes : (u : Slot) (ps : Pairs) (k : List ℕ) (w : Value) → AllByRecursion P (nodes_of_pairs h rows u ps) → value_at k (pairs_list ps) ≡ Some w → All (u, w)
  entry_nodes u V.no_pairs k w all e = absurd (none-some w e)
  entry_nodes u (V.pair l v ps) k w all e = by (same_text k l) e (entry_nodes u ps k w (all_second P (nodes h rows u v) (nodes_of_pairs h rows u ps) all)) where
    by : (b : Bool) → cond b (Some v) (value_at k (pairs_list ps)) ≡ Some w → (value_at k (pairs_list ps) ≡ Some w → All (u, w)) → All (u, w)
    by true here later = subst (λ x. All (u, x)) (same_Some v w here) (all_first P (nodes h rows u v) (nodes_of_pairs h rows u ps) all)
    by false here later = later here

  field_nodes : (k : List ℕ) (fs : List Field) (os : Optionals) (q : InSlot) → AllByRecursion P (nodes_of_fields h rows fs os) → field_at k fs (optionals_list os) ≡ Some q → All q
  field_nodes k [] V.no_optionals q all e = absurd (none-some q e)
  field_nodes k [] (V.absent os) q all e = absurd (none-some q e)
  field_nodes k [] (V.present v os) q all e = absurd (none-some q e)
  field_nodes k (f ∷ fs) V.no_optionals q all e = absurd (none-some q e)
  field_nodes k (f ∷ fs) (V.absent os) q all e = by (same_text k f.name) e (field_nodes k fs os q all) where
    by : (b : Bool) → cond b None (field_at k fs (optionals_list os)) ≡ Some q → (field_at k fs (optionals_list os) ≡ Some q → All q) → All q
    by true here later = absurd (none-some q here)
    by false here later = later here
  field_nodes k (f ∷ fs) (V.present v os) q all e = by (same_text k f.name) e (field_nodes k fs os q (all_second P (nodes h rows f.slot v) (nodes_of_fields h rows fs os) all)) where
    by : (b : Bool) → cond b (Some (f.slot, v)) (field_at k fs (optionals_list os)) ≡ Some q → (field_at k fs (optionals_list os) ≡ Some q → All q) → All q
    by true here later = subst All (same_Some (f.slot, v) q here) (all_first P (nodes h rows f.slot v) (nodes_of_fields h rows fs os) all)
    by false here later = later here

  list_nodes : (o : Option TypeDef) (vs : Values) (k : List ℕ) (q : InSlot) → part (list_holder o vs) k ≡ Some q → AllByRecursion P (option_map_or (λ u. nodes_of_values h rows u vs) (element_of o) []) → All q
  list_nodes (Some (T.List elem at)) vs k q e all =
      let y = with_slot elem (option_and_then (λ i. slice_get (values_list vs) i) (index_of k)) q e in
      let i = indexed (values_list vs) (index_of k) y.0 y.1 in
      subst All y.2 (element_nodes elem vs i.0 y.0 all i.1)
  list_nodes o vs k q e all = absurd (none-some q e)

  map_nodes : (o : Option TypeDef) (ps : Pairs) (k : List ℕ) (q : InSlot) → part (map_holder o ps) k ≡ Some q
      → AllByRecursion P (option_map_or (λ u. hamt_nodes h o (represented_pairs (whole h) rows u ps) ++ nodes_of_pairs h rows u ps) (element_of o) []) → All q
  map_nodes (Some (T.Map key key_at value at form)) ps k q e all =
      let y = with_slot value (value_at k (pairs_list ps)) q e in
      subst All y.2
      (entry_nodes value ps k y.0 (all_second P (hamt_nodes h (Some (T.Map key key_at value at form)) (represented_pairs (whole h) rows value ps)) (nodes_of_pairs h rows value ps) all) y.1)
  map_nodes o ps k q e all = absurd (none-some q e)

  struct_nodes : (o : Option TypeDef) (os : Optionals) (k : List ℕ) (q : InSlot) → part (struct_holder o os) k ≡ Some q → AllByRecursion P (nodes_of_fields h rows (fields_of o) os) → All q
  struct_nodes (Some (T.Struct s)) os k q e all = field_nodes k s.fields os q all e
  struct_nodes o os k q e all = absurd (none-some q e)

  union_nodes : (o : Option TypeDef) (n : ℕ) (v : Value) (k : List ℕ) (q : InSlot) → part (union_holder o n v) k ≡ Some q → AllByRecursion P (option_map_or (λ u. nodes h rows u v) (member_of o n) []) → All q
  union_nodes (Some (T.Union u)) n v k q e all = by (slice_get u.members n) refl where
    by : (m : Option Member) → slice_get u.members n ≡ m → All q
    by None is = absurd (none-some q (ap (held_as k v) (sym is) ∙ e))
    by (Some m) is =
        let x = held_is k v (slice_get u.members n) m q is e in
        subst All x.1 (subst (λ (o : Option Member). AllByRecursion P (option_map_or (λ t. nodes h rows t v) (option_map slot_of o) [])) is all)
  union_nodes o n v k q e all = absurd (none-some q e)

  any_nodes : (d : Data) → All (anything, of_any d)
  any_nodes D.null = tt
  any_nodes (D.boolean b) = tt
  any_nodes (D.integer n) = tt
  any_nodes (D.text s) = tt
  any_nodes (D.bytes s) = tt
  any_nodes (D.list ds) = tt
  any_nodes (D.map ms) = tt
  any_nodes (D.link s) = tt

  inside_nodes : (o : Option Data) (q : InSlot) → option_map (λ d. (anything, of_any d)) o ≡ Some q → All q
  inside_nodes o q e = let y = inside_any o q e in subst All y.2 (any_nodes y.0)

  pub part_nodes : (s : Slot) (v : Value) (k : List ℕ) (q : InSlot) → part (holder_of rows s v) k ≡ Some q → AllByRecursion P (nodes h rows s v) → All q
  part_nodes s V.null k q e all = absurd (none-some q e)
  part_nodes s (V.boolean b) k q e all = absurd (none-some q e)
  part_nodes s (V.integer n) k q e all = absurd (none-some q e)
  part_nodes s (V.text t) k q e all = absurd (none-some q e)
  part_nodes s (V.bytes t) k q e all = absurd (none-some q e)
  part_nodes s (V.link t) k q e all = absurd (none-some q e)
  part_nodes s (V.list vs) k q e all = list_nodes (form_of rows s) vs k q e all
  part_nodes s (V.map ps) k q e all = map_nodes (form_of rows s) ps k q e all
  part_nodes s (V.struct os) k q e all = struct_nodes (form_of rows s) os k q e all
  part_nodes s (V.union n v) k q e all = union_nodes (form_of rows s) n v k q e all
  part_nodes s (V.enum n) k q e all = absurd (none-some q e)
  part_nodes s V.unit k q e all = absurd (none-some q e)
  part_nodes s (V.any (D.list ds)) k q e all = inside_nodes (option_and_then (λ i. slice_get (D.items_list ds) i) (index_of k)) q e
  part_nodes s (V.any (D.map ms)) k q e all = inside_nodes (value_at k (D.members_list ms)) q e
  part_nodes s (V.any D.null) k q e all = absurd (none-some q e)
  part_nodes s (V.any (D.boolean b)) k q e all = absurd (none-some q e)
  part_nodes s (V.any (D.integer n)) k q e all = absurd (none-some q e)
  part_nodes s (V.any (D.text t)) k q e all = absurd (none-some q e)
  part_nodes s (V.any (D.bytes t)) k q e all = absurd (none-some q e)
  part_nodes s (V.any (D.link t)) k q e all = absurd (none-some q e)
  part_nodes s (V.hamt d) k q e all = absurd (none-some q e)
