-- Two tables that are alike: a value is judged alike by both, and so is the struct of a root that names its schema.
use Rattle.std.proofs.Common.{◌≡◌, ℕ, suc, ◌<◌, List, [], ◌∷◌, ◌++◌, length, Bool, true, false, not, Option, Some, None, append-nil, refl, ap, ap₂, sym, ◌∙◌, arith}
use Rattle.std.specs.Prelude.{◌||◌, ◌&&◌, nat_le, option_map, if◌then◌else◌}
use Rattle.std.specs.List.{AllByRecursion, list_all}
use Rattle.std.specs.Option.{option_map_or}
use Rattle.std.proofs.lemmas.Bool.{le-leb}
use Rattle.ild_data.specs.Data.{Data}
use Rattle.ild_data.specs.Limits.{longest_block}
use Rattle.ild_data.specs.Spell.{cid_of, id_of, spell}
use Rattle.ild_schema.specs.declared.number.Slot.{Slot}
use Rattle.ild_schema.specs.declared.number.TypeNo.{TypeNo}
use Rattle.ild_schema.specs.declared.def.TypeDef.{TypeDef}
use Rattle.ild_schema.specs.declared.def.TypeDef.TheVariants as T
use Rattle.ild_schema.specs.declared.def.Field.{Field}
use Rattle.ild_schema.specs.declared.row.Row.{Row}
use Rattle.ild_schema.specs.Slots.{form_of, plainly}
use Rattle.ild_schema.specs.Table.{IsTable}
use Rattle.ild_schema.specs.Value as V
use Rattle.ild_schema.specs.Value.{Value, Values, Pairs, Optionals}
use Rattle.ild_script.specs.declared.reply.No.{No}
use Rattle.ild_script.specs.declared.reply.No.TheVariants as N
use Rattle.ild_typed.specs.Blocks.{nodes}
use Rattle.ild_typed.specs.EachLayer.{some_layer, some_value, some_pair, some_field}
use Rattle.ild_typed.specs.Hamt.{alone, whole}
use Rattle.ild_typed.specs.Judged.{breaks, is_exhausted, is_hole, map_breaks, map_exhausts, struct_breaks}
use Rattle.ild_typed.specs.OfType.{OfType}
use Rattle.ild_typed.specs.Represented.{represented}
use Rattle.ild_typed.specs.Slots.{element_of, fields_of, member_of}
use Rattle.ild_typed.specs.Stands.{bare, blocks_of}
use Rattle.ild_typed.proofs.Rooms.{fits_more}
use Rattle.ild_path_edits.specs.Judged.{Tests, are_sized, judged}
use Rattle.ild_named.specs.Named.{AreNaming, named, named_data, schema_block}
use Rattle.ild_named_type.specs.Root.{named_rows, root_def, root_type}
use Rattle.ild_named_type.proofs.Last.{meant_last}
use Rattle.ild_named_law.specs.Law.{rooted}
use Rattle.ild_named_law.proofs.Alike.{AreAlike, IsLowIn, low_fields, low_member, low_parts}
use Rattle.ild_named_law.proofs.Known.{alike_longer}
use Rattle.ild_named_law.proofs.Pathing.{forms_low}
use Rattle.ild_named_law.proofs.Rooting.{root_fits, root_nodes, root_tree, under_root}
use Rattle.ild_named_law.proofs.Standing.{element_low, fields_same, form_same, or_same, pairs_same}
use Rattle.ild_named_replies.specs.Edits.{AreTestsOfBoth, ValuesAreJudgedAlike}
use Rattle.ild_named_replies.proofs.Meaning.{same_tests}

module _ (count : ℕ) (others rows : List Row) (alike : AreAlike count others rows) where
  -- ---- a test of every layer

  module _ (first second : Option TypeDef → Value → Bool) (tests : (s : Slot) (v : Value) → s.ty.0 < count → first (form_of rows s) v ≡ second (form_of rows s) v) where
    mutual
      pub layer_same : (s : Slot) (v : Value) → s.ty.0 < count → some_layer first others s v ≡ some_layer second rows s v
      layer_same s (V.list vs) low =
          ap (λ o. first o (V.list vs) || option_map_or (λ u. some_value first others u vs) (element_of o) false) (form_same count others rows alike s low)
          ∙ ap₂ (λ a b. a || b) (tests s (V.list vs) low)
          (or_same (element_of (form_of rows s)) (λ u. some_value first others u vs) (λ u. some_value second rows u vs) false (λ u e. value_same u vs (element_low count others rows alike s u low e)))
      layer_same s (V.map ps) low =
          ap (λ o. first o (V.map ps) || option_map_or (λ u. some_pair first others u ps) (element_of o) false) (form_same count others rows alike s low)
          ∙ ap₂ (λ a b. a || b) (tests s (V.map ps) low)
          (or_same (element_of (form_of rows s)) (λ u. some_pair first others u ps) (λ u. some_pair second rows u ps) false (λ u e. pair_same u ps (element_low count others rows alike s u low e)))
      layer_same s (V.struct os) low =
          ap (λ o. first o (V.struct os) || some_field first others (fields_of o) os) (form_same count others rows alike s low)
          ∙ ap₂ (λ a b. a || b) (tests s (V.struct os) low) (field_same (fields_of (form_of rows s)) os (low_fields count (form_of rows s) (forms_low count others rows alike s low)))
      layer_same s (V.union n v) low =
          ap (λ o. first o (V.union n v) || option_map_or (λ u. some_layer first others u v) (member_of o n) false) (form_same count others rows alike s low)
          ∙ ap₂ (λ a b. a || b) (tests s (V.union n v) low)
          (or_same (member_of (form_of rows s) n) (λ u. some_layer first others u v) (λ u. some_layer second rows u v) false
          (λ u e. layer_same u v (low_member count (form_of rows s) n u (forms_low count others rows alike s low) e)))
      layer_same s v low = refl

      value_same : (s : Slot) (vs : Values) → s.ty.0 < count → some_value first others s vs ≡ some_value second rows s vs
      value_same s V.no_values low = refl
      value_same s (V.value v vs) low = ap₂ (λ a b. a || b) (layer_same s v low) (value_same s vs low)

      pair_same : (s : Slot) (ps : Pairs) → s.ty.0 < count → some_pair first others s ps ≡ some_pair second rows s ps
      pair_same s V.no_pairs low = refl
      pair_same s (V.pair k v ps) low = ap₂ (λ a b. a || b) (layer_same s v low) (pair_same s ps low)

      field_same : (fs : List Field) (os : Optionals) → AllByRecursion (λ (f : Field). f.slot.ty.0 < count) fs → some_field first others fs os ≡ some_field second rows fs os
      field_same fs V.no_optionals low = refl
      field_same [] (V.absent os) low = refl
      field_same [] (V.present v os) low = refl
      field_same (f ∷ fs) (V.absent os) low = field_same fs os low.1
      field_same (f ∷ fs) (V.present v os) low = ap₂ (λ a b. a || b) (layer_same f.slot v low.0) (field_same fs os low.1)

  -- ---- the tests themselves

  breaks_in : (o : Option TypeDef) (v : Value) → IsLowIn count o → breaks others o v ≡ breaks rows o v
  breaks_in (Some (T.Struct s)) (V.struct os) low =
      ap (λ x. struct_breaks s.form s.fields x) (fields_same count others rows alike alone s.fields os (low_parts count (λ (f : Field). f.slot.ty.0) s.fields low))
  breaks_in (Some (T.Map key key_at value at form)) (V.map ps) low = ap (λ x. map_breaks form x) (pairs_same count others rows alike alone value ps low.1.0)
  breaks_in o v low = refl

  pub breaks_same : (s : Slot) (v : Value) → s.ty.0 < count → breaks others (form_of rows s) v ≡ breaks rows (form_of rows s) v
  breaks_same s v low = breaks_in (form_of rows s) v (forms_low count others rows alike s low)

  exhausted_in : (h : List ℕ → List ℕ) (o : Option TypeDef) (v : Value) → IsLowIn count o → is_exhausted h others o v ≡ is_exhausted h rows o v
  exhausted_in h (Some (T.Map key key_at value at form)) (V.map ps) low = ap (λ x. map_exhausts h form x) (pairs_same count others rows alike (whole h) value ps low.1.0)
  exhausted_in h o v low = refl

  pub exhausted_same : (h : List ℕ → List ℕ) (s : Slot) (v : Value) → s.ty.0 < count → is_exhausted h others (form_of rows s) v ≡ is_exhausted h rows (form_of rows s) v
  exhausted_same h s v low = exhausted_in h (form_of rows s) v (forms_low count others rows alike s low)

-- ---- the struct

or_last : (b : Bool) → (b || false) ≡ b
or_last true = refl
or_last false = refl

-- a block more that passes
pushed : (p : List ℕ → Bool) (b : List ℕ) → p b ≡ true → (bs : List (List ℕ)) → list_all p bs ≡ list_all p (bs ++ b ∷ [])
pushed p b passes [] = ap (λ r. r && true) (sym passes)
pushed p b passes (x ∷ xs) = ap (λ r. p x && r) (pushed p b passes xs)

-- the first of five tests that refuses
abbrev first_of : Bool → Bool → Bool → Bool → Bool → Option No
first_of hole delimiter fits exhausted sized =
    if hole then Some N.Hole
    else if delimiter then Some N.Delimiter
    else if not fits then Some N.Depth
    else if exhausted then Some N.Exhausted
    else if not sized then Some N.Size
    else None

module _ (h : List ℕ → List ℕ) (rows : List Row) (n : TypeNo) (table : IsTable rows) (low : n.0 < length rows) (name source : List ℕ) (v : Value) where
  abbrev longer : List Row
  longer = named_rows rows n

  abbrev root : Slot
  root = plainly (root_type rows)

  abbrev fields : Optionals
  fields = V.present (V.text name) (V.present v (V.present (V.link (cid_of (id_of (schema_block source)))) V.no_optionals))

  alike : AreAlike (length rows) longer rows
  alike = alike_longer rows table n

  -- a test that passes the struct's own layer
  struct_layers : (first second : Option TypeDef → Value → Bool) → first (Some (root_def n)) (V.struct fields) ≡ false
      → ((s : Slot) (v : Value) → s.ty.0 < length rows → first (form_of rows s) v ≡ second (form_of rows s) v)
      → some_layer first longer root (rooted name source v) ≡ some_layer second rows (plainly n) v
  struct_layers first second passes tests =
      ap (λ o. first o (V.struct fields) || some_field first longer (fields_of o) fields) (meant_last rows n)
      ∙ ap (λ b. b || (some_layer first longer (plainly n) v || false)) passes
      ∙ or_last (some_layer first longer (plainly n) v)
      ∙ layer_same (length rows) longer rows alike first second tests (plainly n) v low

  abbrev is_short : List ℕ → Bool
  is_short b = nat_le (length b) longest_block

  abbrev over : Data → Data
  over d = named_data name (id_of (schema_block source)) d

  sized_over : AreNaming name source → (o : Option Data)
      → option_map_or (λ d. list_all is_short (blocks_of bare h longer (root_type rows) (rooted name source v) d)) (option_map over o) true
      ≡ option_map_or (λ d. list_all is_short (blocks_of (named name source) h rows n v d)) o true
  sized_over naming None = refl
  sized_over naming (Some d) =
      ap (λ bs. is_short (spell (over d)) && list_all is_short bs) (append-nil (nodes h longer root (rooted name source v)) ∙ root_nodes h rows n table low name source v)
      ∙ ap (λ r. is_short (spell (over d)) && r) (pushed is_short (schema_block source) (le-leb (length (schema_block source)) longest_block naming.short) (nodes h rows (plainly n) v))

  sized_same : AreNaming name source → are_sized bare h longer (root_type rows) (rooted name source v) ≡ are_sized (named name source) h rows n v
  sized_same naming =
      ap (λ o. option_map_or (λ d. list_all is_short (blocks_of bare h longer (root_type rows) (rooted name source v) d)) o true) (root_tree h rows n table low name source v)
      ∙ sized_over naming (represented (whole h) rows (plainly n) v)

  pub root_of_type : AreNaming name source → OfType rows (plainly n) v → OfType longer root (rooted name source v)
  root_of_type naming (room, fits) =
      (suc (suc room), root_fits h rows n table low name source v room naming.name_text (fits_more rows room (suc room) (omega arith) (plainly n) v fits))

  -- judged alike where both tests of the room are one
  pub judged_by : (tests others : Tests) → AreNaming name source → others.fits 96 root (rooted name source v) ≡ tests.fits 95 (plainly n) v
      → judged bare h longer others (root_type rows) (rooted name source v) ≡ judged (named name source) h rows tests n v
  judged_by tests others naming rooms =
      let hole = some_layer is_hole rows (plainly n) v in
      let delimiter = some_layer (breaks rows) rows (plainly n) v in
      let exhausted = some_layer (is_exhausted h rows) rows (plainly n) v in
      let others_delimiter = some_layer (breaks longer) longer root (rooted name source v) in
      let others_exhausted = some_layer (is_exhausted h longer) longer root (rooted name source v) in
      let others_fit = others.fits 96 root (rooted name source v) in
      let others_sized = are_sized bare h longer (root_type rows) (rooted name source v) in
      ap (λ b. first_of b others_delimiter others_fit others_exhausted others_sized) (struct_layers is_hole is_hole refl (λ s v low. refl))
      ∙ ap (λ b. first_of hole b others_fit others_exhausted others_sized) (struct_layers (breaks longer) (breaks rows) refl (breaks_same (length rows) longer rows alike))
      ∙ ap (λ b. first_of hole delimiter b others_exhausted others_sized) rooms
      ∙ ap (λ b. first_of hole delimiter (tests.fits 95 (plainly n) v) b others_sized) (struct_layers (is_exhausted h longer) (is_exhausted h rows) refl (exhausted_same (length rows) longer rows alike h))
      ∙ ap (λ b. first_of hole delimiter (tests.fits 95 (plainly n) v) exhausted b) (sized_same naming)

  pub rooms_same : (tests others : Tests) → AreTestsOfBoth rows n tests others → AreNaming name source → OfType rows (plainly n) v → others.fits 96 root (rooted name source v) ≡ tests.fits 95 (plainly n) v
  rooms_same tests others both naming typed =
      let above = both.longer.rooms 96 root (rooted name source v) (root_of_type naming typed) in
      let below = both.own.rooms 95 (plainly n) v typed in
      same_tests (others.fits 96 root (rooted name source v)) (tests.fits 95 (plainly n) v)
      (λ passed. below.1 (under_root h rows n table low name source v 95 (above.0 passed)))
      (λ passed. above.1 (root_fits h rows n table low name source v 94 naming.name_text (below.0 passed)))

pub judged_alike : ValuesAreJudgedAlike
judged_alike h rows n table low tests others both name source naming v typed =
    judged_by h rows n table low name source v tests others naming (rooms_same h rows n table low name source v tests others both naming typed)
