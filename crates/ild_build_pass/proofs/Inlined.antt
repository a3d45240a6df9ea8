-- A member of a union that stands inline: what is written of it, with the discriminant among its fields.
use Rattle.std.proofs.Common.{◌≡◌, ℕ, ◌+◌, List, [], ◌∷◌, ◌++◌, length, take, drop, Option, Some, option_map, refl, sym, ap, ◌∙◌, subst, true, Result}
use Rattle.std.specs.Prelude.{OnOk}
use Rattle.std.specs.List.{AllByRecursion}
use Rattle.ild_data.specs.Key.{put}
use Rattle.ild_data.specs.Spell.{head, spell_text}
use Rattle.ild_schema.specs.Legible.{IsLegible}
use Rattle.ild_schema.specs.Rules.{is_map_struct}
use Rattle.ild_schema.specs.declared.def.TypeDef.{TypeDef}
use Rattle.ild_schema.specs.declared.number.Slot.{Slot}
use Rattle.ild_schema.specs.declared.def.TypeDef.TheVariants as D
use Rattle.ild_schema.specs.declared.def.StructDef.{StructDef}
use Rattle.ild_schema.specs.declared.def.StructForm.TheVariants as S
use Rattle.ild_schema.specs.declared.def.UnionForm.TheVariants as UF
use Rattle.ild_schema.specs.declared.row.Row.{Row}
use Rattle.ild_schema.specs.Clear.{AreNamesApart}
use Rattle.ild_schema.specs.Fitting.{ImplicitFits}
use Rattle.ild_schema.specs.Marks.{field_text}
use Rattle.ild_schema.specs.Slots.{form_of}
use Rattle.ild_schema.specs.Value as V
use Rattle.ild_schema.specs.Value.{Value, Optionals, optionals_list}
use Rattle.ild_typed.specs.Hamt.{whole}
use Rattle.ild_build.proofs.Turns.{fitting}
use Rattle.ild_build_leaf.specs.Kept.{count_written}
use Rattle.ild_build_entries.specs.declared.nodes.Nodes.{Nodes}
use Rattle.ild_build_entries.proofs.Marked.{on_ok}
use Rattle.ild_build_pass.specs.Fitting.{IsApartFrom}
use Rattle.ild_build_pass.specs.inside.Fronts.{SplitsAt}
use Rattle.ild_build_pass.specs.inside.Made.{both, counted, marked_made}
use Rattle.ild_build_pass.specs.inside.Places.{in_order, named, places_from, places_made, written_of}
use Rattle.ild_build_pass.specs.Weights.{Weight, places_weight, weigh}
use Rattle.ild_build_pass.specs.Writes.{Writes}
use Rattle.ild_build_pass.proofs.Flow.{from}
use Rattle.ild_build_pass.proofs.Kept.{placed_between}
use Rattle.ild_build_pass.proofs.AcceptedTables.{map_struct_is, names_apart, past}
use Rattle.ild_build_pass.proofs.Spread.{tagged_spread}
use Rattle.ild_build_pass.proofs.StructForms.{inline_made}
use Rattle.ild_build_pass.proofs.Tagged.{around, sides_count, sides_made, sides_weigh}
use Rattle.ild_build_pass.proofs.Weighing.{struct_weight}

module _ (hash : List ℕ → List ℕ) (rows : List Row) (s : Slot) (sd : StructDef) (vs : Optionals) (key name : List ℕ) where
  abbrev side : List ℕ → Option (List ℕ)
  side ps = places_made (whole hash) rows sd.fields (optionals_list vs) [] (named sd.fields [] (written_of sd.fields (optionals_list vs) ps))

  abbrev side_weight : List ℕ → Weight → ℕ
  side_weight ps μ = places_weight μ rows sd.fields (optionals_list vs) (written_of sd.fields (optionals_list vs) ps)

  abbrev sides : ℕ → List ℕ → List ℕ
  sides k ps = written_of sd.fields (optionals_list vs) (take k ps) ++ (length sd.fields ∷ written_of sd.fields (optionals_list vs) (drop k ps))

  pub inlined : AllByRecursion (ImplicitFits rows) sd.fields → form_of rows s ≡ Some (D.Struct sd) → sd.form ≡ S.Map → AreNamesApart sd.fields → AllByRecursion (λ f. key ≡ field_text f → ⊥) sd.fields
      → (before behind : List ℕ) → SplitsAt sd.fields key before behind → (old one two three new : List ℕ) (was mid now : Nodes) → one ≡ old ++ head 5 (count_written sd.fields (optionals_list vs) + 1)
      → Writes hash rows (side before) (side_weight before) one two was mid → three ≡ two ++ (spell_text key ++ spell_text name) → Writes hash rows (side behind) (side_weight behind) three new mid now
      → Writes hash rows (marked_made (whole hash) rows (UF.Inline key) s (V.struct vs) name) (λ μ. weigh μ rows s (V.struct vs)) old new was now
  inlined fit is form apart other before behind at old one two three new was mid now head_is first tag_is last =
      from hash rows (marked_made (whole hash) rows (UF.Inline key) s (V.struct vs) name) (option_map (λ t. head 5 (count_written sd.fields (optionals_list vs) + 1) ++ t) (both (side (take at.count at.places)) (both (Some (spell_text key ++ spell_text name)) (side (drop at.count at.places)))))
      (λ μ. weigh μ rows s (V.struct vs)) (λ μ. side_weight (take at.count at.places) μ + side_weight (drop at.count at.places) μ) old new was now bytes weight
      (around hash rows (side (take at.count at.places)) (side (drop at.count at.places)) (head 5 (count_written sd.fields (optionals_list vs) + 1)) (spell_text key ++ spell_text name) (side_weight (take at.count at.places)) (side_weight (drop at.count at.places)) old one two three new was mid now head_is
      (subst (λ xs. Writes hash rows (side xs) (side_weight xs) one two was mid) at.front first) tag_is (subst (λ xs. Writes hash rows (side xs) (side_weight xs) three new mid now) at.back last))
    where
      placed : named sd.fields key (sides at.count at.places) ≡ put key (length sd.fields) (in_order (named sd.fields key (places_from 0 sd.fields (optionals_list vs))))
      placed = placed_between sd.fields (optionals_list vs) key apart other (length sd.fields) (past sd.fields (length sd.fields) refl) at.count at.places at.order at.less at.next

      bytes : (t : List ℕ) → marked_made (whole hash) rows (UF.Inline key) s (V.struct vs) name ≡ Some t
          → option_map (λ x. head 5 (count_written sd.fields (optionals_list vs) + 1) ++ x) (both (side (take at.count at.places)) (both (Some (spell_text key ++ spell_text name)) (side (drop at.count at.places)))) ≡ Some t
      bytes t e =
          ap (counted 5 (count_written sd.fields (optionals_list vs) + 1)) (sides_made hash rows sd.fields (optionals_list vs) key name (length sd.fields) (past sd.fields (length sd.fields) refl) (take at.count at.places) (drop at.count at.places))
          ∙ ap (λ m. counted 5 m (places_made (whole hash) rows sd.fields (optionals_list vs) name (named sd.fields key (sides at.count at.places)))) (sym (sides_count hash rows sd.fields (optionals_list vs) apart key (length sd.fields) at.count at.places at.order))
          ∙ inline_made hash rows s sd vs key name fit is form (named sd.fields key (sides at.count at.places)) placed t e

      weight : (μ : Weight) → weigh μ rows s (V.struct vs) ≡ side_weight (take at.count at.places) μ + side_weight (drop at.count at.places) μ
      weight μ =
          struct_weight rows μ s sd vs is ∙ sym (tagged_spread rows μ sd.fields (optionals_list vs) key apart other (length sd.fields) (past sd.fields (length sd.fields) refl) (sides at.count at.places) placed)
          ∙ sides_weigh hash rows sd.fields (optionals_list vs) μ (length sd.fields) (past sd.fields (length sd.fields) refl) (written_of sd.fields (optionals_list vs) (take at.count at.places)) (written_of sd.fields (optionals_list vs) (drop at.count at.places))

  -- a value that is a struct, by what was learnt of its type
  pub inline_layer : {T E : Type 0} (r : Result T E) (v : Value) (d : TypeDef) → IsLegible rows → form_of rows s ≡ Some d → d ≡ D.Struct sd → v ≡ V.struct vs → is_map_struct (form_of rows s) ≡ true → IsApartFrom rows key s
      → (before behind : List ℕ) → SplitsAt sd.fields key before behind → (old one two three new : List ℕ) (was mid now : Nodes) → one ≡ old ++ head 5 (count_written sd.fields (optionals_list vs) + 1)
      → Writes hash rows (side before) (side_weight before) one two was mid → three ≡ two ++ (spell_text key ++ spell_text name) → OnOk r (Writes hash rows (side behind) (side_weight behind) three new mid now)
      → OnOk r (Writes hash rows (marked_made (whole hash) rows (UF.Inline key) s v name) (λ μ. weigh μ rows s v) old new was now)
  inline_layer r v d legible known is same map apart before behind at old one two three new was mid now head_is first tag_is =
      let form = known ∙ ap Some is in
      let kind = map_struct_is rows s sd form map in
      on_ok r (Writes hash rows (side behind) (side_weight behind) three new mid now) (Writes hash rows (marked_made (whole hash) rows (UF.Inline key) s v name) (λ μ. weigh μ rows s v) old new was now)
      (λ w. subst (λ u. Writes hash rows (marked_made (whole hash) rows (UF.Inline key) s u name) (λ μ. weigh μ rows s u) old new was now) (sym same)
      (inlined (fitting rows legible s sd form) form kind (names_apart rows legible s sd form kind) (apart sd form) before behind at old one two three new was mid now head_is first tag_is w))
