-- Turns of the loops that write the parts of a value.
use Rattle.std.proofs.Common.{◌≡◌, ℕ, ◌+◌, ◌≤◌, List, [], ◌∷◌, ◌++◌, length, drop, Bool, true, false, cond, Option, Some, None, option_map, slice_get, refl, sym, ap, ◌∙◌, ⊎_elim}
use Rattle.std.specs.Prelude.{option_and_then}
use Rattle.std.specs.Option.{option_map_or}
use Rattle.ild_data.proofs.Gets.{drop_at, drop_past}
use Rattle.ild_data.specs.Spell.{spell_text}
use Rattle.ild_schema.specs.declared.number.Slot.{Slot}
use Rattle.ild_schema.specs.declared.def.Field.{Field}
use Rattle.ild_schema.specs.declared.row.Row.{Row}
use Rattle.ild_schema.specs.Marks.{field_text}
use Rattle.ild_schema.specs.Value.{Value}
use Rattle.ild_build.specs.LeftOut.{is_left_out}
use Rattle.ild_build.specs.PartAt.{field_at}
use Rattle.ild_build_leaf.specs.Made.{made}
use Rattle.ild_build_pass.specs.inside.Made.{both, items_made, entry_made, entries_made, tuple_made, fields_made}
use Rattle.ild_build_leaf.specs.Kept.{kept_at}
use Rattle.ild_build_pass.specs.inside.Places.{name_at, place_made, value_made}
use Rattle.ild_build_leaf.proofs.Turns.{kept_is, kept_none, over_none, over_some}
use Rattle.ild_typed.specs.Hamt.{whole}

module _ (hash : List ℕ → List ℕ) (rows : List Row) where
  pub item_turn : (u : Slot) (vs : List Value) (i : ℕ) (v : Value) → slice_get vs i ≡ Some v → items_made (whole hash) rows u (drop i vs) ≡ both (made (whole hash) rows u v) (items_made (whole hash) rows u (drop (i + 1) vs))
  item_turn u vs i v at = ap (items_made (whole hash) rows u) (drop_at vs i v at)

  pub items_end : (u : Slot) (vs : List Value) (i : ℕ) → length vs ≤ i → items_made (whole hash) rows u (drop i vs) ≡ Some []
  items_end u vs i h = ap (items_made (whole hash) rows u) (drop_past vs i h)

  pub entry_turn : (paired : Bool) (u : Slot) (ps : List (List ℕ × Value)) (i : ℕ) (k : List ℕ) (v : Value) → slice_get ps i ≡ Some (k, v)
      → entries_made (whole hash) rows paired u (drop i ps) ≡ both (entry_made (whole hash) rows paired k u v) (entries_made (whole hash) rows paired u (drop (i + 1) ps))
  entry_turn paired u ps i k v at = ap (entries_made (whole hash) rows paired u) (drop_at {X = List ℕ × Value} ps i (k, v) at)

  pub entries_end : (paired : Bool) (u : Slot) (ps : List (List ℕ × Value)) (i : ℕ) → length ps ≤ i → entries_made (whole hash) rows paired u (drop i ps) ≡ Some []
  entries_end paired u ps i h = ap (entries_made (whole hash) rows paired u) (drop_past ps i h)

  -- ---- tuples

  tuple_ends : (f : Field) (fs : List Field) → tuple_made (whole hash) rows (f ∷ fs) [] ≡ tuple_made (whole hash) rows fs []
  tuple_ends f [] = refl
  tuple_ends f (g ∷ fs) = refl

  pub tuple_turn : (fs : List Field) (os : List (Option Value)) (i : ℕ) (f : Field) (v : Value) → slice_get fs i ≡ Some f → field_at os i ≡ Some v
      → tuple_made (whole hash) rows (drop i fs) (drop i os) ≡ both (made (whole hash) rows f.slot v) (tuple_made (whole hash) rows (drop (i + 1) fs) (drop (i + 1) os))
  tuple_turn = over_some (tuple_made (whole hash) rows) (λ f fs os. refl) tuple_ends

  pub tuple_skip : (fs : List Field) (os : List (Option Value)) (i : ℕ) (f : Field) → slice_get fs i ≡ Some f → field_at os i ≡ None → tuple_made (whole hash) rows (drop i fs) (drop i os) ≡ tuple_made (whole hash) rows (drop (i + 1) fs) (drop (i + 1) os)
  tuple_skip = over_none (tuple_made (whole hash) rows) (λ f fs os. refl) tuple_ends

  pub tuple_end : (fs : List Field) (os : List (Option Value)) (i : ℕ) → length fs ≤ i → tuple_made (whole hash) rows (drop i fs) (drop i os) ≡ Some []
  tuple_end fs os i h = ap (λ xs. tuple_made (whole hash) rows xs (drop i os)) (drop_past fs i h)

  -- ---- fields in the order of declaration

  fields_ends : (f : Field) (fs : List Field) → fields_made (whole hash) rows true (f ∷ fs) [] ≡ fields_made (whole hash) rows true fs []
  fields_ends f [] = refl
  fields_ends f (g ∷ fs) = refl

  fields_turn : (fs : List Field) (os : List (Option Value)) (i : ℕ) (f : Field) (v : Value) (b : Bool) → slice_get fs i ≡ Some f → field_at os i ≡ Some v → is_left_out f.implicit v ≡ b
      → fields_made (whole hash) rows true (drop i fs) (drop i os)
      ≡ cond b (fields_made (whole hash) rows true (drop (i + 1) fs) (drop (i + 1) os)) (both (entry_made (whole hash) rows true (field_text f) f.slot v) (fields_made (whole hash) rows true (drop (i + 1) fs) (drop (i + 1) os)))
  fields_turn fs os i f v b at there is =
      over_some (fields_made (whole hash) rows true) (λ g gs ps. refl) fields_ends fs os i f v at there
      ∙ ap (λ c. cond c (fields_made (whole hash) rows true (drop (i + 1) fs) (drop (i + 1) os)) (both (entry_made (whole hash) rows true (field_text f) f.slot v) (fields_made (whole hash) rows true (drop (i + 1) fs) (drop (i + 1) os)))) is

  fields_skip : (fs : List Field) (os : List (Option Value)) (i : ℕ) (f : Field) → slice_get fs i ≡ Some f → field_at os i ≡ None
      → fields_made (whole hash) rows true (drop i fs) (drop i os) ≡ fields_made (whole hash) rows true (drop (i + 1) fs) (drop (i + 1) os)
  fields_skip = over_none (fields_made (whole hash) rows true) (λ f fs os. refl) fields_ends

  pub fields_kept : (fs : List Field) (os : List (Option Value)) (i : ℕ) (f : Field) (v : Value) (name : List ℕ) → slice_get fs i ≡ Some f → kept_at f os i ≡ Some v → name ≡ field_text f
      → fields_made (whole hash) rows true (drop i fs) (drop i os) ≡ both (entry_made (whole hash) rows true name f.slot v) (fields_made (whole hash) rows true (drop (i + 1) fs) (drop (i + 1) os))
  fields_kept fs os i f v name at e is =
      let x = kept_is f os i v e in
      fields_turn fs os i f v false at x.there x.stays ∙ ap (λ k. both (entry_made (whole hash) rows true k f.slot v) (fields_made (whole hash) rows true (drop (i + 1) fs) (drop (i + 1) os))) (sym is)

  pub fields_passed : (fs : List Field) (os : List (Option Value)) (i : ℕ) (f : Field) → slice_get fs i ≡ Some f → kept_at f os i ≡ None
      → fields_made (whole hash) rows true (drop i fs) (drop i os) ≡ fields_made (whole hash) rows true (drop (i + 1) fs) (drop (i + 1) os)
  fields_passed fs os i f at e = ⊎_elim (λ n. fields_skip fs os i f at n) (λ x. fields_turn fs os i f x.value true at x.there x.left) (kept_none f os i e)

  pub fields_end : (fs : List Field) (os : List (Option Value)) (i : ℕ) → length fs ≤ i → fields_made (whole hash) rows true (drop i fs) (drop i os) ≡ Some []
  fields_end fs os i h = ap (λ xs. fields_made (whole hash) rows true xs (drop i os)) (drop_past fs i h)

  -- ---- places

  pub tag_made : (fs : List Field) (os : List (Option Value)) (key tag : List ℕ) (p : ℕ) → slice_get fs p ≡ None → place_made (whole hash) rows fs os tag (name_at fs key p, p) ≡ Some (spell_text key ++ spell_text tag)
  tag_made fs os key tag p none =
      ap (λ o. option_map (λ t. spell_text (option_map_or field_text o key) ++ t) (value_made (whole hash) rows fs os tag p)) none
      ∙ ap (λ o. option_map (λ t. spell_text key ++ t) (option_map_or (λ f. option_and_then (made (whole hash) rows f.slot) (field_at os p)) o (Some (spell_text tag)))) none

  pub place_entry : (fs : List Field) (os : List (Option Value)) (key tag : List ℕ) (p : ℕ) (f : Field) (v : Value) (name : List ℕ) → slice_get fs p ≡ Some f → field_at os p ≡ Some v → name ≡ field_text f
      → entry_made (whole hash) rows false name f.slot v ≡ place_made (whole hash) rows fs os tag (name_at fs key p, p)
  place_entry fs os key tag p f v name at there is =
      ap (λ k. option_map (λ t. spell_text k ++ t) (made (whole hash) rows f.slot v)) (is ∙ sym (ap (λ o. option_map_or field_text o key) at))
      ∙ sym (ap (λ o. option_map (λ t. spell_text (name_at fs key p) ++ t) (option_map_or (λ g. option_and_then (made (whole hash) rows g.slot) (field_at os p)) o (Some (spell_text tag)))) at
      ∙ ap (λ o. option_map (λ t. spell_text (name_at fs key p) ++ t) (option_and_then (made (whole hash) rows f.slot) o)) there)
