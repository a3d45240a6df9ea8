-- Two tables that are alike: a path leads to the same part by both, a change makes the same value, and a value is shown alike.
use Rattle.std.proofs.Common.{◌≡◌, ℕ, suc, ◌<◌, Bool, true, false, List, [], ◌∷◌, Option, Some, None, refl, ap, ap₂, ◌∙◌, subst, arith}
use Rattle.std.specs.Prelude.{option_map, option_and_then, slice_get, if◌then◌else◌}
use Rattle.std.specs.List.{AllByRecursion}
use Rattle.std.specs.Option.{option_map_or}
use Rattle.std.proofs.lemmas.Option.{none-some, same_Some}
use Rattle.ild_data.proofs.Options.{chain_some, map_some}
use Rattle.ild_data.specs.Data as T
use Rattle.ild_data.specs.Data.{Data}
use Rattle.ild_data.specs.Key.{same_text, value_at}
use Rattle.ild_schema.specs.declared.number.Slot.{Slot}
use Rattle.ild_schema.specs.declared.def.TypeDef.{TypeDef}
use Rattle.ild_schema.specs.declared.def.TypeDef.TheVariants as D
use Rattle.ild_schema.specs.declared.def.Field.{Field}
use Rattle.ild_schema.specs.declared.def.Member.{Member}
use Rattle.ild_schema.specs.declared.def.EnumMember.{EnumMember}
use Rattle.ild_schema.specs.declared.row.Row.{Row}
use Rattle.ild_schema.specs.Prelude.{anything}
use Rattle.ild_schema.specs.Slots.{form_of, plainly}
use Rattle.ild_schema.specs.Value as V
use Rattle.ild_schema.specs.Value.{Value, Values, Pairs, Optionals, values_list, pairs_list, optionals_list}
use Rattle.ild_typed.specs.At.{InSlot, seen, at, reached, or_enter, last_holder, changed_in}
use Rattle.ild_typed.specs.Holder.{Holder, list_holder, map_holder, struct_holder, union_holder, any_holder, holder_of, value_of, of_any}
use Rattle.ild_typed.specs.Segment.{index_of, field_at, held_as, part, set_part}
use Rattle.ild_typed.specs.Shown.{shown, shown_values, shown_pairs, shown_fields}
use Rattle.ild_typed.specs.Slots.{element_of, fields_of, member_at, enum_member_at, slot_of}
use Rattle.ild_typed.specs.Strings.{map_data, in_key_order}
use Rattle.ild_named_law.proofs.Alike.{AreAlike, IsLowIn, low_form, low_parts, low_fields, low_member_at}
use Rattle.ild_named_law.proofs.Standing.{element_low, form_same, or_same, then_same}

-- ---- the parts of a holder are of low types

abbrev pub IsLowSlot : ℕ → InSlot → Type 0
IsLowSlot count q = q.0.ty.0 < count

field_low : (count : ℕ) (name : List ℕ) (fs : List Field) (os : List (Option Value)) (q : InSlot) → AllByRecursion (λ (f : Field). f.slot.ty.0 < count) fs → field_at name fs os ≡ Some q → IsLowSlot count q
field_low count name [] os q low e = absurd (none-some q e)
field_low count name (f ∷ fs) [] q low e = absurd (none-some q e)
field_low count name (f ∷ fs) (o ∷ os) q low e = by (same_text name f.name) (field_low count name fs os q low.1) e
  where
    by : (b : Bool) → (field_at name fs os ≡ Some q → IsLowSlot count q) → (if b then option_map (λ v. (f.slot, v)) o else field_at name fs os) ≡ Some q → IsLowSlot count q
    by true rest e = let m = map_some (λ v. (f.slot, v)) o q e in subst (IsLowSlot count) m.2 low.0
    by false rest e = rest e

held_low : (count : ℕ) (name : List ℕ) (v : Value) (o : Option Member) (q : InSlot) → ((m : Member) → o ≡ Some m → m.ty.0 < count) → held_as name v o ≡ Some q → IsLowSlot count q
held_low count name v None q low e = absurd (none-some q e)
held_low count name v (Some m) q low e = by (same_text name m.name) e
  where
    by : (b : Bool) → (if b then Some (plainly m.ty, v) else None) ≡ Some q → IsLowSlot count q
    by true e = subst (IsLowSlot count) (same_Some (plainly m.ty, v) q e) (low m refl)
    by false e = absurd (none-some q e)

list_low : (count : ℕ) (o : Option TypeDef) (vs : Values) (s : List ℕ) (q : InSlot) → IsLowIn count o → part (list_holder o vs) s ≡ Some q → IsLowSlot count q
list_low count None vs s q low e = absurd (none-some q e)
list_low count (Some (D.List elem at)) vs s q low e =
    let m = map_some (λ v. (elem, v)) (option_and_then (λ i. slice_get (values_list vs) i) (index_of s)) q e in subst (IsLowSlot count) m.2 low.0
list_low count (Some d) vs s q low e = absurd (none-some q e)

map_low : (count : ℕ) (o : Option TypeDef) (ps : Pairs) (s : List ℕ) (q : InSlot) → IsLowIn count o → part (map_holder o ps) s ≡ Some q → IsLowSlot count q
map_low count None ps s q low e = absurd (none-some q e)
map_low count (Some (D.Map key key_at value at form)) ps s q low e = let m = map_some (λ v. (value, v)) (value_at s (pairs_list ps)) q e in subst (IsLowSlot count) m.2 low.1.0
map_low count (Some d) ps s q low e = absurd (none-some q e)

struct_low : (count : ℕ) (o : Option TypeDef) (os : Optionals) (s : List ℕ) (q : InSlot) → IsLowIn count o → part (struct_holder o os) s ≡ Some q → IsLowSlot count q
struct_low count None os s q low e = absurd (none-some q e)
struct_low count (Some (D.Struct d)) os s q low e = field_low count s d.fields (optionals_list os) q (low_parts count (λ (f : Field). f.slot.ty.0) d.fields low) e
struct_low count (Some d) os s q low e = absurd (none-some q e)

union_low : (count : ℕ) (o : Option TypeDef) (n : ℕ) (v : Value) (s : List ℕ) (q : InSlot) → IsLowIn count o → part (union_holder o n v) s ≡ Some q → IsLowSlot count q
union_low count None n v s q low e = absurd (none-some q e)
union_low count (Some (D.Union u)) n v s q low e = held_low count s v (slice_get u.members n) q (λ m there. low_member_at count (Some (D.Union u)) n m low there) e
union_low count (Some d) n v s q low e = absurd (none-some q e)

any_low : (count : ℕ) (d : Data) (s : List ℕ) (q : InSlot) → 0 < count → part (any_holder d) s ≡ Some q → IsLowSlot count q
any_low count (T.list ds) s q some e =
    let m = map_some (λ d. (anything, of_any d)) (option_and_then (λ i. slice_get (T.items_list ds) i) (index_of s)) q e in subst (IsLowSlot count) m.2 some
any_low count (T.map ms) s q some e = let m = map_some (λ d. (anything, of_any d)) (value_at s (T.members_list ms)) q e in subst (IsLowSlot count) m.2 some
any_low count d s q some e = absurd (none-some q e)

module _ (count : ℕ) (others rows : List Row) (alike : AreAlike count others rows) where
  pub forms_low : (s : Slot) → s.ty.0 < count → IsLowIn count (form_of rows s)
  forms_low s low = low_form count others rows alike s low

  pub part_low : (s : Slot) (v : Value) (t : List ℕ) (q : InSlot) → s.ty.0 < count → part (holder_of rows s v) t ≡ Some q → IsLowSlot count q
  part_low s (V.list vs) t q low e = list_low count (form_of rows s) vs t q (forms_low s low) e
  part_low s (V.map ps) t q low e = map_low count (form_of rows s) ps t q (forms_low s low) e
  part_low s (V.struct os) t q low e = struct_low count (form_of rows s) os t q (forms_low s low) e
  part_low s (V.union n v) t q low e = union_low count (form_of rows s) n v t q (forms_low s low) e
  part_low s (V.any d) t q low e = any_low count d t q (omega (arith, low)) e
  part_low s v t q low e = absurd (none-some q e)

  -- ---- paths

  pub holder_same : (s : Slot) (v : Value) → s.ty.0 < count → holder_of others s v ≡ holder_of rows s v
  holder_same s (V.list vs) low = ap (λ o. list_holder o vs) (form_same count others rows alike s low)
  holder_same s (V.map ps) low = ap (λ o. map_holder o ps) (form_same count others rows alike s low)
  holder_same s (V.struct os) low = ap (λ o. struct_holder o os) (form_same count others rows alike s low)
  holder_same s (V.union n v) low = ap (λ o. union_holder o n v) (form_same count others rows alike s low)
  holder_same s v low = refl

  pub at_same : (p : InSlot) (path : List (List ℕ)) → IsLowSlot count p → at others p path ≡ at rows p path
  at_same p [] low = refl
  at_same p (s ∷ ss) low =
      ap (λ h. option_and_then (λ q. at others q ss) (part h s)) (holder_same p.0 p.1 low)
      ∙ then_same (part (seen rows p) s) (λ q. at others q ss) (λ q. at rows q ss) (λ q e. at_same q ss (part_low p.0 p.1 s q low e))

  -- what a path leads to is of a low type
  pub at_low : (p : InSlot) (path : List (List ℕ)) (q : InSlot) → IsLowSlot count p → at rows p path ≡ Some q → IsLowSlot count q
  at_low p [] q low e = subst (IsLowSlot count) (same_Some p q e) low
  at_low p (s ∷ ss) q low e =
      let r = chain_some (λ q. at rows q ss) (part (seen rows p) s) q e in
      at_low r.0 ss q (part_low p.0 p.1 s r.0 low r.1) r.2

  pub reached_same : (k : ℕ) (p : InSlot) (path : List (List ℕ)) → IsLowSlot count p → reached others k p path ≡ reached rows k p path
  reached_same k p [] low = refl
  reached_same k p (s ∷ ss) low =
      ap (λ h. option_map_or (λ q. reached others (suc k) q ss) (part h s) (or_enter k p.0 p.1)) (holder_same p.0 p.1 low)
      ∙ or_same (part (seen rows p) s) (λ q. reached others (suc k) q ss) (λ q. reached rows (suc k) q ss) (or_enter k p.0 p.1) (λ q e. reached_same (suc k) q ss (part_low p.0 p.1 s q low e))

  pub last_same : (p : InSlot) (s : List ℕ) (path : List (List ℕ)) → IsLowSlot count p → last_holder others p s path ≡ last_holder rows p s path
  last_same p s [] low = ap (λ h. Some (h, s)) (holder_same p.0 p.1 low)
  last_same p s (t ∷ ss) low =
      ap (λ h. option_and_then (λ q. last_holder others q t ss) (part h s)) (holder_same p.0 p.1 low)
      ∙ then_same (part (seen rows p) s) (λ q. last_holder others q t ss) (λ q. last_holder rows q t ss) (λ q e. last_same q t ss (part_low p.0 p.1 s q low e))

  pub changed_same : (f : Holder → List ℕ → Holder) (p : InSlot) (s : List ℕ) (path : List (List ℕ)) → IsLowSlot count p → changed_in others f p s path ≡ changed_in rows f p s path
  changed_same f p s [] low = ap (λ h. value_of (f h s)) (holder_same p.0 p.1 low)
  changed_same f p s (t ∷ ss) low =
      ap (λ h. option_map_or (λ q. value_of (set_part h s (changed_in others f q t ss))) (part h s) p.1) (holder_same p.0 p.1 low)
      ∙ or_same (part (seen rows p) s) (λ q. value_of (set_part (seen rows p) s (changed_in others f q t ss))) (λ q. value_of (set_part (seen rows p) s (changed_in rows f q t ss))) p.1
      (λ q e. ap (λ w. value_of (set_part (seen rows p) s w)) (changed_same f q t ss (part_low p.0 p.1 s q low e)))

  -- ---- the shown form

  mutual
    pub shown_same : (s : Slot) (v : Value) → s.ty.0 < count → shown others s v ≡ shown rows s v
    shown_same s (V.enum n) low = ap (λ o. T.text (option_map_or (λ (m : EnumMember). m.name) (enum_member_at o n) [])) (form_same count others rows alike s low)
    shown_same s (V.list vs) low =
        ap (λ o. T.list (option_map_or (λ u. shown_values others u vs) (element_of o) T.no_items)) (form_same count others rows alike s low)
        ∙ ap T.list (or_same (element_of (form_of rows s)) (λ u. shown_values others u vs) (λ u. shown_values rows u vs) T.no_items
        (λ u e. values_shown u vs (element_low count others rows alike s u low e)))
    shown_same s (V.map ps) low =
        ap (λ o. map_data (option_map_or (λ u. in_key_order (shown_pairs others u ps)) (element_of o) [])) (form_same count others rows alike s low)
        ∙ ap map_data (or_same (element_of (form_of rows s)) (λ u. in_key_order (shown_pairs others u ps)) (λ u. in_key_order (shown_pairs rows u ps)) []
        (λ u e. ap in_key_order (pairs_shown u ps (element_low count others rows alike s u low e))))
    shown_same s (V.struct os) low =
        ap (λ o. map_data (in_key_order (shown_fields others (fields_of o) os))) (form_same count others rows alike s low)
        ∙ ap (λ es. map_data (in_key_order es)) (fields_shown (fields_of (form_of rows s)) os (low_fields count (form_of rows s) (forms_low s low)))
    shown_same s (V.union n v) low =
        ap (λ o. map_data (option_map_or (λ (m : Member). (m.name, shown others (slot_of m) v) ∷ []) (member_at o n) [])) (form_same count others rows alike s low)
        ∙ ap map_data (or_same (member_at (form_of rows s) n) (λ (m : Member). (m.name, shown others (slot_of m) v) ∷ []) (λ (m : Member). (m.name, shown rows (slot_of m) v) ∷ []) []
        (λ m e. ap (λ d. (m.name, d) ∷ []) (shown_same (slot_of m) v (low_member_at count (form_of rows s) n m (forms_low s low) e))))
    shown_same s v low = refl

    values_shown : (s : Slot) (vs : Values) → s.ty.0 < count → shown_values others s vs ≡ shown_values rows s vs
    values_shown s V.no_values low = refl
    values_shown s (V.value v vs) low = ap₂ (λ d ds. T.item d ds) (shown_same s v low) (values_shown s vs low)

    pairs_shown : (s : Slot) (ps : Pairs) → s.ty.0 < count → shown_pairs others s ps ≡ shown_pairs rows s ps
    pairs_shown s V.no_pairs low = refl
    pairs_shown s (V.pair k v ps) low = ap₂ (λ d es. (k, d) ∷ es) (shown_same s v low) (pairs_shown s ps low)

    fields_shown : (fs : List Field) (os : Optionals) → AllByRecursion (λ (f : Field). f.slot.ty.0 < count) fs → shown_fields others fs os ≡ shown_fields rows fs os
    fields_shown fs V.no_optionals low = refl
    fields_shown [] (V.absent os) low = refl
    fields_shown [] (V.present v os) low = refl
    fields_shown (f ∷ fs) (V.absent os) low = fields_shown fs os low.1
    fields_shown (f ∷ fs) (V.present v os) low = ap₂ (λ d es. (f.name, d) ∷ es) (shown_same f.slot v low.0) (fields_shown fs os low.1)
