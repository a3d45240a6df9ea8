-- The slots of the parts of a layer are of types of the table.
use Rattle.ild_schema.specs.declared.def.UnionForm.{UnionForm}
use Rattle.std.proofs.Common.{◌≡◌, ℕ, zero, suc, ◌+◌, ◌<◌, List, [], ◌∷◌, ◌++◌, length, map, Bool, true, false, cond, Option, Some, None, option_map, refl, sym, subst, arith}
use Rattle.std.specs.Prelude.{slice_get}
use Rattle.std.specs.Option.{option_map_or}
use Rattle.std.specs.List.{All, AllByRecursion}
use Rattle.std.proofs.lemmas.Option.{same_Some, none-some, slice_get_within, get_or_from_slice_get}
use Rattle.ild_schema.proofs.Ending.{target_below}
use Rattle.ild_data.specs.Data.{Data}
use Rattle.ild_schema.specs.declared.number.Slot.{Slot}
use Rattle.ild_schema.specs.declared.number.TypeNo.{TypeNo}
use Rattle.ild_schema.specs.declared.def.TypeDef.{TypeDef}
use Rattle.ild_schema.specs.declared.def.TypeDef.TheVariants as D
use Rattle.ild_schema.specs.declared.def.MapForm.{MapForm}
use Rattle.ild_schema.specs.declared.def.MapForm.TheVariants as MF
use Rattle.ild_schema.specs.declared.def.StructForm.{StructForm}
use Rattle.ild_schema.specs.declared.def.Field.{Field}
use Rattle.ild_schema.specs.declared.def.Member.{Member}
use Rattle.ild_schema.specs.declared.row.Row.{Row}
use Rattle.ild_schema.specs.Copies.{target_in, followed, base}
use Rattle.ild_schema.specs.Table.{IsWithin, numbers_of, def_at}
use Rattle.ild_schema.proofs.Legibly.{legible}
use Rattle.ild_typed.specs.Layer as L
use Rattle.ild_typed.specs.Layer.{Layer}
use Rattle.ild_schema.specs.Slots.{form_of}
use Rattle.ild_typed.specs.Fields.{is_implicit}
use Rattle.ild_typed.specs.Spots.{Spot, value_spot, element_spots, entry_spots, field_steps, field_spots, spots_of, member_spots}
use Rattle.ild_typed.specs.RootSpots.{bucket_spots, root_spots}
use Rattle.ild_typed.specs.Refused.{AreParts}
use Rattle.ild_typed.proofs.PartsTrees.{parts_trees}
use Rattle.ild_typed.specs.WhyLaws.{PartsAreTrees, HasForm, FrontOrRefused}
use Rattle.ild_data.specs.Trie as Trie
use Rattle.ild_typed.proofs.WalkTotal.{front_or_refused}

-- ---- types of the table

there_at : (rows : List Row) (n : ℕ) → n < length rows → (d : TypeDef) × (def_at rows n ≡ Some d)
there_at [] n h = absurd (omega (arith, h))
there_at (r ∷ rows) zero h = (r.def, refl)
there_at (r ∷ rows) (suc n) h = there_at rows n (omega (arith, h))

within_at : (rows : List Row) → All (λ r. IsWithin (length rows) r.def) rows → (n : ℕ) (d : TypeDef) → def_at rows n ≡ Some d → (IsWithin (length rows) d) × (n < length rows)
within_at rows within n d e = by (slice_get rows n) refl e where
  by : (o : Option Row) → slice_get rows n ≡ o → option_map (λ (r : Row). r.def) o ≡ Some d → (IsWithin (length rows) d) × (n < length rows)
  by None is h = absurd (none-some d h)
  by (Some r) is h =
      let P : Row → Type 0 = λ q. IsWithin (length rows) q.def in
      let here = slice_get_within rows n r is in
      (subst (IsWithin (length rows)) (same_Some r.def d h) (subst P (get_or_from_slice_get rows n r r is) (within n r here)), here)

target_here : (rows : List Row) → All (λ r. IsWithin (length rows) r.def) rows → (n t : ℕ) → target_in (def_at rows n) ≡ Some t → t < length rows
target_here rows within n t e = by (def_at rows n) refl e where
  by : (o : Option TypeDef) → def_at rows n ≡ o → target_in o ≡ Some t → t < length rows
  by None is h = absurd (none-some t h)
  by (Some d) is h = target_below (length rows) d t (within_at rows within n d is).0 h

-- what a type of a table leads to is in the table
followed_low : (rows : List Row) → All (λ r. IsWithin (length rows) r.def) rows → (k n : ℕ) → n < length rows → followed rows k n < length rows
followed_low rows within zero n h = h
followed_low rows within (suc k) n h = by (target_in (def_at rows n)) refl (followed_low rows within k) where
  by : (o : Option ℕ) → target_in (def_at rows n) ≡ o → ((t : ℕ) → t < length rows → followed rows k t < length rows) → option_map_or (λ target. followed rows k target) o n < length rows
  by None is more = h
  by (Some t) is more = more t (target_here rows within n t is)

pub form_there : (rows : List Row) → All (λ r. IsWithin (length rows) r.def) rows → (s : Slot) → s.ty.0 < length rows → HasForm rows s
form_there rows within s h =
    there_at rows (base rows s.ty.0) (followed_low rows within (length rows) s.ty.0 h)

-- the numbers of parts, one by one
pub each_number : {A : Type 0} (f : A → ℕ) (count : ℕ) (xs : List A) → All (λ n. n < count) (map f xs) → AllByRecursion (λ x. f x < count) xs
each_number f count [] all = tt
each_number f count (x ∷ xs) all = (all 0 0 (omega arith), each_number f count xs (λ i d h. all (suc i) d (omega (arith, h))))

-- ---- the slots of parts

module _ (rows : List Row) where
  abbrev Low : Slot → Type 0
  Low s = s.ty.0 < length rows

  abbrev AllLow : List Spot → Type 0
  AllLow ps = AllByRecursion (λ p. Low p.slot) ps

  elements_low : (elem : Slot) → Low elem → (n : ℕ) (ds : List Data) → AllLow (element_spots elem n ds)
  elements_low elem low n [] = tt
  elements_low elem low n (d ∷ ds) = (low, elements_low elem low (n + 1) ds)

  entries_low : (form : MapForm) (key : TypeNo) (value : Slot) → key.0 < length rows → Low value → (i : ℕ) (es : List (List ℕ × Data)) → AllLow (entry_spots form key value i es)
  entries_low form key value k low i [] = tt
  entries_low form key value k low i (e ∷ es) = (k, (low, entries_low form key value k low (i + 1) es))

  fields_low : (form : StructForm) (n : ℕ) (fs : List Field) → AllByRecursion (λ f. f.slot.ty.0 < length rows) fs → (os : List (Option Data)) → AllLow (field_spots form n fs os)
  fields_low form n [] low os = tt
  fields_low form n (f ∷ fs) low [] = tt
  fields_low form n (f ∷ fs) low (None ∷ os) = fields_low form n fs low.1 os
  fields_low form n (f ∷ fs) low (Some d ∷ os) = by (is_implicit f.implicit d) (λ m. fields_low form m fs low.1 os) where
    by : (b : Bool) → ((m : ℕ) → AllLow (field_spots form m fs os))
        → AllLow (cond b (value_spot f.slot d [] ∷ field_spots form n fs os) (value_spot f.slot d (field_steps form f n) ∷ field_spots form (n + 1) fs os))
    by true rest = (low.0, rest n)
    by false rest = (low.0, rest (n + 1))

  append_low : (ps qs : List Spot) → AllLow ps → AllLow qs → AllLow (ps ++ qs)
  append_low [] qs a b = b
  append_low (p ∷ ps) qs a b = (a.0, append_low ps qs a.1 b)

  bucket_low : (key : TypeNo) (value : Slot) → key.0 < length rows → Low value → (n i : ℕ) (es : List (List ℕ × Data)) → AllLow (bucket_spots key value n i es)
  bucket_low key value k low n i [] = tt
  bucket_low key value k low n i (e ∷ es) = (k, (low, bucket_low key value k low n (i + 1) es))

  root_low : (key : TypeNo) (value : Slot) → key.0 < length rows → Low value → (n : ℕ) (slots : List Trie.TrieSlot) → AllLow (root_spots key value n slots)
  root_low key value k low n [] = tt
  root_low key value k low n (Trie.empty ∷ slots) = root_low key value k low n slots
  root_low key value k low n (Trie.bucket es ∷ slots) =
      append_low (bucket_spots key value n 0 es) (root_spots key value (n + 1) slots) (bucket_low key value k low n 0 es) (root_low key value k low (n + 1) slots)
  root_low key value k low n (Trie.child id ∷ slots) = root_low key value k low (n + 1) slots

  member_low : (form : UnionForm) (d : Data) (ms : List Member) → AllByRecursion (λ m. m.ty.0 < length rows) ms → (n : ℕ) → AllLow (option_map_or (member_spots form d) (slice_get ms n) [])
  member_low form d [] all n = tt
  member_low form d (m ∷ ms) all zero = (all.0, tt)
  member_low form d (m ∷ ms) all (suc n) = member_low form d ms all.1 n

  spots_low : (d : TypeDef) (l : Layer Data) → All (λ n. n < length rows) (numbers_of d) → AllLow (spots_of d l)
  spots_low D.Bool l all = tt
  spots_low D.Text l all = tt
  spots_low D.Bytes l all = tt
  spots_low D.Int l all = tt
  spots_low D.Any l all = tt
  spots_low (D.Link target) l all = tt
  spots_low (D.Unit form) l all = tt
  spots_low (D.Enum en) l all = tt
  spots_low (D.Copy target) l all = tt
  spots_low (D.List elem at) l all = by l where
    by : (k : Layer Data) → AllLow (spots_of (D.List elem at) k)
    by (L.list ds) = elements_low elem (all 0 0 (omega arith)) 0 ds
    by k = tt
  spots_low (D.Map key key_at value at form) l all = by l where
    by : (k : Layer Data) → AllLow (spots_of (D.Map key key_at value at form) k)
    by (L.map es) = entries_low form key value (all 0 0 (omega arith)) (all 1 0 (omega arith)) 0 es
    by k = tt
  spots_low (D.Struct st) l all = by l where
    by : (k : Layer Data) → AllLow (spots_of (D.Struct st) k)
    by (L.struct os) = fields_low st.form 0 st.fields (each_number (λ (f : Field). f.slot.ty.0) (length rows) st.fields all) os
    by k = tt
  spots_low (D.Union u) l all = by l where
    by : (k : Layer Data) → AllLow (spots_of (D.Union u) k)
    by (L.union n x) = member_low u.form x u.members (each_number (λ (m : Member). m.ty.0) (length rows) u.members all) n
    by k = tt

  parts_low : (d : TypeDef) (t : Data) (ps : List Spot) → All (λ n. n < length rows) (numbers_of d) → AreParts d t ps → AllLow ps
  parts_low D.Bool t ps all (l, made, e) = subst AllLow (sym e) (spots_low D.Bool l all)
  parts_low D.Text t ps all (l, made, e) = subst AllLow (sym e) (spots_low D.Text l all)
  parts_low D.Bytes t ps all (l, made, e) = subst AllLow (sym e) (spots_low D.Bytes l all)
  parts_low D.Int t ps all (l, made, e) = subst AllLow (sym e) (spots_low D.Int l all)
  parts_low D.Any t ps all (l, made, e) = subst AllLow (sym e) (spots_low D.Any l all)
  parts_low (D.Link target) t ps all (l, made, e) = subst AllLow (sym e) (spots_low (D.Link target) l all)
  parts_low (D.Unit form) t ps all (l, made, e) = subst AllLow (sym e) (spots_low (D.Unit form) l all)
  parts_low (D.Enum en) t ps all (l, made, e) = subst AllLow (sym e) (spots_low (D.Enum en) l all)
  parts_low (D.Copy target) t ps all (l, made, e) = subst AllLow (sym e) (spots_low (D.Copy target) l all)
  parts_low (D.List elem at) t ps all (l, made, e) = subst AllLow (sym e) (spots_low (D.List elem at) l all)
  parts_low (D.Map key key_at value at MF.Map) t ps all (l, made, e) = subst AllLow (sym e) (spots_low (D.Map key key_at value at MF.Map) l all)
  parts_low (D.Map key key_at value at MF.ListPairs) t ps all (l, made, e) = subst AllLow (sym e) (spots_low (D.Map key key_at value at MF.ListPairs) l all)
  parts_low (D.Map key key_at value at (MF.StringPairs inner entry)) t ps all (l, made, e) = subst AllLow (sym e) (spots_low (D.Map key key_at value at (MF.StringPairs inner entry)) l all)
  parts_low (D.Struct st) t ps all (l, made, e) = subst AllLow (sym e) (spots_low (D.Struct st) l all)
  parts_low (D.Union u) t ps all (l, made, e) = subst AllLow (sym e) (spots_low (D.Union u) l all)
  parts_low (D.Map key key_at value at (MF.Hamt p)) t ps all (slots, root, e) = subst AllLow (sym e) (root_low key value (all 0 0 (omega arith)) (all 1 0 (omega arith)) 0 slots)

low_forms : (rows : List Row) → All (λ r. IsWithin (length rows) r.def) rows → (ps : List Spot) → AllLow rows ps → AllByRecursion (λ p. HasForm rows p.slot) ps
low_forms rows within [] all = tt
low_forms rows within (p ∷ ps) all = (form_there rows within p.slot all.0, low_forms rows within ps all.1)

part_forms : (rows : List Row) → All (λ r. IsWithin (length rows) r.def) rows → (s : Slot) (d : TypeDef) (t : Data) (ps : List Spot) → form_of rows s ≡ Some d → AreParts d t ps
    → AllByRecursion (λ p. HasForm rows p.slot) ps
part_forms rows within s d t ps is parts =
    let x = within_at rows within (base rows s.ty.0) d is in
    low_forms rows within ps (parts_low rows d t ps x.0.1 parts)

pub table_parts : PartsAreTrees
table_parts rows schema s d is t ps tree parts =
    let n = base rows s.ty.0 in
    let says = legible rows schema.accepted in
    let texts = schema.table.texts in
    parts_trees d t ps (says.clear.types n d is) (says.delims n d is) (texts.spelled n d is) (texts.implicits n d is) tree parts

pub table_walk : FrontOrRefused
table_walk rows schema room s low t tree =
    let within = schema.table.within in
    let says = legible rows schema.accepted in
    front_or_refused rows says.clear says.delims (λ u d c ps is parts whole. table_parts rows schema u d is c ps whole parts) (part_forms rows within) room s (form_there rows within s low) t tree
