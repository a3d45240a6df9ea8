-- A line's edit of a value under a root that names its schema, and of the struct that this root is.
use Rattle.std.proofs.Common.{◌≡◌, ℕ, ◌<◌, codes, List, [], ◌∷◌, length, Bool, true, false, Option, Some, None, Result, Ok, Err, refl, ap, ap₂, ◌∙◌, subst, arith}
use Rattle.std.specs.Prelude.{◌||◌, is_some, option_map, option_and_then, slice_get, if◌then◌else◌}
use Rattle.std.specs.List.{AllByRecursion}
use Rattle.std.proofs.lemmas.Option.{none-some, same_Some}
use Rattle.ild_data.proofs.Options.{chain_some, map_some}
use Rattle.ild_data.specs.Data as D
use Rattle.ild_data.specs.Data.{Data}
use Rattle.ild_data.specs.Key.{same_text, value_at}
use Rattle.ild_data.specs.Spell.{cid_of, id_of}
use Rattle.ild_schema.specs.declared.number.Slot.{Slot}
use Rattle.ild_schema.specs.declared.number.TypeNo.{TypeNo}
use Rattle.ild_schema.specs.declared.def.TypeDef.{TypeDef}
use Rattle.ild_schema.specs.declared.def.TypeDef.TheVariants as T
use Rattle.ild_schema.specs.declared.def.Field.{Field}
use Rattle.ild_schema.specs.declared.def.Member.{Member}
use Rattle.ild_schema.specs.declared.row.Row.{Row}
use Rattle.ild_schema.specs.Prelude.{anything, number}
use Rattle.ild_schema.specs.Slots.{form_of, plainly}
use Rattle.ild_schema.specs.Table.{IsTable}
use Rattle.ild_schema.specs.Value as V
use Rattle.ild_schema.specs.Value.{Value, Values, Pairs, Optionals}
use Rattle.ild_script.specs.declared.reply.No.{No}
use Rattle.ild_typed.specs.At.{InSlot, changed_in, last_holder, seen}
use Rattle.ild_typed.specs.Holder.{Holder, fields, member, entries, elements, any_entries, any_elements, nothing, any_holder, holder_of, list_holder, map_holder, struct_holder, union_holder, value_of}
use Rattle.ild_typed.specs.Segment.{index_of, member_named, part, set_part}
use Rattle.ild_typed.specs.Stands.{bare}
use Rattle.ild_path_edits.specs.Edit.{Edit, changed_by, del_at, del_in, ins_at, ins_in, line_change, meant_or, new_part, placed, read_or, set_at, set_in, unless_kept, with_part}
use Rattle.ild_path_edits.specs.Judged.{Tests, edited, judged, judged_result, unless_judged}
use Rattle.ild_path_edits.specs.Table.{declared_slot, delete_part, if_absent, insert_part, key_fits, new_index, refusal_to_delete, slot_left_out, slot_to_insert, slot_to_set}
use Rattle.ild_path_edits.proofs.KeepTyped.{lines_keep_typed}
use Rattle.ild_value_meaning.specs.MeantRead.{meant}
use Rattle.ild_named.specs.Named.{AreNaming, named, schema_block}
use Rattle.ild_named_type.specs.Root.{named_rows, root_type}
use Rattle.ild_named_type.proofs.Last.{meant_last}
use Rattle.ild_named_law.specs.Law.{rooted}
use Rattle.ild_named_law.specs.Paths.{root_in}
use Rattle.ild_named_law.proofs.Alike.{AreAlike, IsLowIn, low_parts}
use Rattle.ild_named_law.proofs.Entered.{changes_alike, holders_alike}
use Rattle.ild_named_law.proofs.Known.{alike_longer}
use Rattle.ild_named_law.proofs.Pathing.{IsLowSlot, forms_low, part_low}
use Rattle.ild_named_replies.specs.Edits.{AreTestsOfBoth, LineChangesAreAlike, EditsAreAlike, rooted_or, edit_beneath}
use Rattle.ild_named_replies.proofs.Judging.{judged_by, rooms_same}
use Rattle.ild_named_replies.proofs.Meaning.{AreKeysAlike, keys_alike, meant_same, named_low}

-- ---- holders of the first so many types

abbrev pub IsLowHolder : ℕ → Holder → Type 0
IsLowHolder count (fields fs os) = AllByRecursion (λ (f : Field). f.slot.ty.0 < count) fs
IsLowHolder count (member ms n v) = AllByRecursion (λ (m : Member). m.ty.0 < count) ms
IsLowHolder count (entries key slot paired ps) = (key < count) × (slot.ty.0 < count)
IsLowHolder count (elements slot vs) = slot.ty.0 < count
IsLowHolder count (any_entries ms) = 0 < count
IsLowHolder count (any_elements ds) = 0 < count
IsLowHolder count (nothing v) = Unit {0}

list_low : (count : ℕ) (o : Option TypeDef) (vs : Values) → IsLowIn count o → IsLowHolder count (list_holder o vs)
list_low count None vs low = tt
list_low count (Some (T.List elem at)) vs low = low.0
list_low count (Some d) vs low = tt

map_low : (count : ℕ) (o : Option TypeDef) (ps : Pairs) → IsLowIn count o → IsLowHolder count (map_holder o ps)
map_low count None ps low = tt
map_low count (Some (T.Map key key_at slot at form)) ps low = (low.0, low.1.0)
map_low count (Some d) ps low = tt

struct_low : (count : ℕ) (o : Option TypeDef) (os : Optionals) → IsLowIn count o → IsLowHolder count (struct_holder o os)
struct_low count None os low = tt
struct_low count (Some (T.Struct s)) os low = low_parts count (λ (f : Field). f.slot.ty.0) s.fields low
struct_low count (Some d) os low = tt

union_low : (count : ℕ) (o : Option TypeDef) (n : ℕ) (v : Value) → IsLowIn count o → IsLowHolder count (union_holder o n v)
union_low count None n v low = tt
union_low count (Some (T.Union u)) n v low = low_parts count (λ (m : Member). m.ty.0) u.members low
union_low count (Some d) n v low = tt

any_low : (count : ℕ) (d : Data) → 0 < count → IsLowHolder count (any_holder d)
any_low count (D.list ds) some = some
any_low count (D.map ms) some = some
any_low count d some = tt

module _ (count : ℕ) (others rows : List Row) (alike : AreAlike count others rows) where
  holder_low : (s : Slot) (v : Value) → s.ty.0 < count → IsLowHolder count (holder_of rows s v)
  holder_low s (V.list vs) low = list_low count (form_of rows s) vs (forms_low count others rows alike s low)
  holder_low s (V.map ps) low = map_low count (form_of rows s) ps (forms_low count others rows alike s low)
  holder_low s (V.struct os) low = struct_low count (form_of rows s) os (forms_low count others rows alike s low)
  holder_low s (V.union n v) low = union_low count (form_of rows s) n v (forms_low count others rows alike s low)
  holder_low s (V.any d) low = any_low count d (omega (arith, low))
  holder_low s v low = tt

  pub last_low : (p : InSlot) (s : List ℕ) (path : List (List ℕ)) (l : Holder × List ℕ) → IsLowSlot count p → last_holder rows p s path ≡ Some l → IsLowHolder count l.0
  last_low p s [] l low e = subst (λ (l : Holder × List ℕ). IsLowHolder count l.0) (same_Some (seen rows p, s) l e) (holder_low p.0 p.1 low)
  last_low p s (t ∷ ss) l low e =
      let r = chain_some (λ q. last_holder rows q t ss) (part (seen rows p) s) l e in
      last_low r.0 t ss l (part_low count others rows alike p.0 p.1 s r.0 low r.1) r.2

-- ---- the slots of new parts

declared_low : (count : ℕ) (name : List ℕ) (fs : List Field) (os : List (Option Value)) (u : Slot) → AllByRecursion (λ (f : Field). f.slot.ty.0 < count) fs → declared_slot name fs os ≡ Some u → u.ty.0 < count
declared_low count name [] os u low e = absurd (none-some u e)
declared_low count name (f ∷ fs) [] u low e = absurd (none-some u e)
declared_low count name (f ∷ fs) (o ∷ os) u low e = by (same_text name f.name) (λ there. declared_low count name fs os u low.1 there) e
  where
    by : (b : Bool) → (declared_slot name fs os ≡ Some u → u.ty.0 < count) → (if b then Some f.slot else declared_slot name fs os) ≡ Some u → u.ty.0 < count
    by true rest e = subst (λ (u : Slot). u.ty.0 < count) (same_Some f.slot u e) low.0
    by false rest e = rest e

absent_low : (count : ℕ) (slot : Slot) (optional : Bool) (o : Option Value) (u : Slot) → slot.ty.0 < count → if_absent slot optional o ≡ Some u → u.ty.0 < count
absent_low count slot optional (Some v) u low e = absurd (none-some u e)
absent_low count slot true None u low e = subst (λ (u : Slot). u.ty.0 < count) (same_Some slot u e) low
absent_low count slot false None u low e = absurd (none-some u e)

left_low : (count : ℕ) (name : List ℕ) (fs : List Field) (os : List (Option Value)) (u : Slot) → AllByRecursion (λ (f : Field). f.slot.ty.0 < count) fs → slot_left_out name fs os ≡ Some u → u.ty.0 < count
left_low count name [] os u low e = absurd (none-some u e)
left_low count name (f ∷ fs) [] u low e = absurd (none-some u e)
left_low count name (f ∷ fs) (o ∷ os) u low e = by (same_text name f.name) (λ there. left_low count name fs os u low.1 there) e
  where
    by : (b : Bool) → (slot_left_out name fs os ≡ Some u → u.ty.0 < count) → (if b then if_absent f.slot f.optional o else slot_left_out name fs os) ≡ Some u → u.ty.0 < count
    by true rest e = absent_low count f.slot f.optional o u low.0 e
    by false rest e = rest e

-- one slot, wherever there is something
constant_low : {X : Type 0} (count : ℕ) (slot : Slot) (o : Option X) (u : Slot) → slot.ty.0 < count → option_map (λ x. slot) o ≡ Some u → u.ty.0 < count
constant_low count slot o u low e = let m = map_some (λ x. slot) o u e in subst (λ (u : Slot). u.ty.0 < count) m.2 low

unless_low : (count : ℕ) (slot : Slot) (b : Bool) (u : Slot) → slot.ty.0 < count → (if b then None else Some slot) ≡ Some u → u.ty.0 < count
unless_low count slot true u low e = absurd (none-some u e)
unless_low count slot false u low e = subst (λ (u : Slot). u.ty.0 < count) (same_Some slot u e) low

pub set_low : (count : ℕ) (h : Holder) (s : List ℕ) (u : Slot) → IsLowHolder count h → slot_to_set h s ≡ Some u → u.ty.0 < count
set_low count (fields fs os) s u low e = declared_low count s fs os u low e
set_low count (member ms n v) s u low e =
    let m = map_some (λ (p : ℕ × Member). plainly (p.1).ty) (member_named s ms) u e in subst (λ (u : Slot). u.ty.0 < count) m.2 (named_low count s ms m.0 low m.1)
set_low count (entries key slot paired ps) s u low e = subst (λ (u : Slot). u.ty.0 < count) (same_Some slot u e) low.1
set_low count (elements slot vs) s u low e = constant_low count slot (option_and_then (λ i. slice_get vs i) (index_of s)) u low e
set_low count (any_entries ms) s u low e = subst (λ (u : Slot). u.ty.0 < count) (same_Some anything u e) low
set_low count (any_elements ds) s u low e = constant_low count anything (option_and_then (λ i. slice_get ds i) (index_of s)) u low e
set_low count (nothing v) s u low e = absurd (none-some u e)

pub insert_low : (count : ℕ) (h : Holder) (s : List ℕ) (u : Slot) → IsLowHolder count h → slot_to_insert h s ≡ Some u → u.ty.0 < count
insert_low count (fields fs os) s u low e = left_low count s fs os u low e
insert_low count (member ms n v) s u low e = absurd (none-some u e)
insert_low count (entries key slot paired ps) s u low e = unless_low count slot (is_some (value_at s ps)) u low.1 e
insert_low count (elements slot vs) s u low e = constant_low count slot (new_index (length vs) s) u low e
insert_low count (any_entries ms) s u low e = unless_low count anything (is_some (value_at s ms)) u low e
insert_low count (any_elements ds) s u low e = constant_low count anything (new_index (length ds) s) u low e
insert_low count (nothing v) s u low e = absurd (none-some u e)

-- ---- the change

module _ (count : ℕ) (first second : ℕ → List ℕ → Bool) (keys : AreKeysAlike count first second) where
  fits_same : (h : Holder) (s : List ℕ) → IsLowHolder count h → key_fits first h s ≡ key_fits second h s
  fits_same (entries key slot paired ps) s low = ap (λ b. is_some (value_at s ps) || b) (keys (number key) s low.0)
  fits_same (fields fs os) s low = refl
  fits_same (member ms n v) s low = refl
  fits_same (elements slot vs) s low = refl
  fits_same (any_entries ms) s low = refl
  fits_same (any_elements ds) s low = refl
  fits_same (nothing v) s low = refl

  module _ (name source : List ℕ) where
    placed_same : (fits : Bool) (c : Value) (o : Option Slot) → placed fits (rooted name source c) o ≡ rooted_or name source (placed fits c o)
    placed_same fits c None = refl
    placed_same true c (Some slot) = refl
    placed_same false c (Some slot) = refl

    set_same : (c : Value) (o : Option (Holder × List ℕ)) → ((l : Holder × List ℕ) → o ≡ Some l → IsLowHolder count l.0) → set_in first (rooted name source c) o ≡ rooted_or name source (set_in second c o)
    set_same c None low = refl
    set_same c (Some l) low =
        ap (λ b. placed b (rooted name source c) (slot_to_set l.0 l.1)) (fits_same l.0 l.1 (low l refl)) ∙ placed_same (key_fits second l.0 l.1) c (slot_to_set l.0 l.1)

    ins_same : (c : Value) (o : Option (Holder × List ℕ)) → ((l : Holder × List ℕ) → o ≡ Some l → IsLowHolder count l.0) → ins_in first (rooted name source c) o ≡ rooted_or name source (ins_in second c o)
    ins_same c None low = refl
    ins_same c (Some l) low =
        ap (λ b. placed b (rooted name source c) (slot_to_insert l.0 l.1)) (fits_same l.0 l.1 (low l refl)) ∙ placed_same (key_fits second l.0 l.1) c (slot_to_insert l.0 l.1)

    kept_same : (c : Value) (o : Option No) → unless_kept (rooted name source c) o ≡ rooted_or name source (unless_kept c o)
    kept_same c None = refl
    kept_same c (Some refusal) = refl

    del_same : (c : Value) (o : Option (Holder × List ℕ)) → del_in (rooted name source c) o ≡ rooted_or name source (del_in c o)
    del_same c None = refl
    del_same c (Some l) = kept_same c (refusal_to_delete l.0 l.1)

  -- ---- the part that a json text means

  module _ (others rows : List Row) (alike : AreAlike count others rows) (read : List ℕ → Option Data) (json : List ℕ) where
    read_same : (slot : Slot) (o : Option Data) → slot.ty.0 < count → read_or (meant others first slot) o ≡ read_or (meant rows second slot) o
    read_same slot None low = refl
    read_same slot (Some d) low = ap meant_or (meant_same count first second keys others rows alike slot d low)

    part_same : (o : Option Slot) → ((u : Slot) → o ≡ Some u → u.ty.0 < count) → new_part others first read o json ≡ new_part rows second read o json
    part_same None low = refl
    part_same (Some slot) low = read_same slot (read json) (low slot refl)

-- the slot of a new part, found by a test of the last holder
pub slot_low : (count : ℕ) (find : Holder → List ℕ → Option Slot) → ((h : Holder) (s : List ℕ) (u : Slot) → IsLowHolder count h → find h s ≡ Some u → u.ty.0 < count)
    → (o : Option (Holder × List ℕ)) → ((l : Holder × List ℕ) → o ≡ Some l → IsLowHolder count l.0) → (u : Slot) → option_and_then (λ (l : Holder × List ℕ). find l.0 l.1) o ≡ Some u → u.ty.0 < count
slot_low count find lows o low u e = let r = chain_some (λ (l : Holder × List ℕ). find l.0 l.1) o u e in lows (r.0).0 (r.0).1 u (low r.0 r.1) r.2

module _ (rows : List Row) (n : TypeNo) (table : IsTable rows) (low : n.0 < length rows) (tests others : Tests) (both : AreTestsOfBoth rows n tests others) (name source : List ℕ) (read : List ℕ → Option Data) (v : Value) where
  abbrev longer : List Row
  longer = named_rows rows n

  alike : AreAlike (length rows) longer rows
  alike = alike_longer rows table n

  keys : AreKeysAlike (length rows) others.is_key tests.is_key
  keys = keys_alike rows n table tests others both

  module _ (s : List ℕ) (ss : List (List ℕ)) where
    abbrev last : Option (Holder × List ℕ)
    last = last_holder rows (plainly n, v) s ss

    lasts_low : (l : Holder × List ℕ) → last ≡ Some l → IsLowHolder (length rows) l.0
    lasts_low l e = last_low (length rows) longer rows alike (plainly n, v) s ss l low e

    new_same : (json : List ℕ) (find : Holder → List ℕ → Option Slot) → ((h : Holder) (s : List ℕ) (u : Slot) → IsLowHolder (length rows) h → find h s ≡ Some u → u.ty.0 < length rows)
        → new_part longer others.is_key read (option_and_then (λ (l : Holder × List ℕ). find l.0 l.1) (last_holder longer (root_in rows name source v) (codes "value") (s ∷ ss))) json
        ≡ new_part rows tests.is_key read (option_and_then (λ (l : Holder × List ℕ). find l.0 l.1) last) json
    new_same json find lows =
        ap (λ o. new_part longer others.is_key read (option_and_then (λ (l : Holder × List ℕ). find l.0 l.1) o) json) (holders_alike rows n table low name source v s ss)
        ∙ part_same (length rows) others.is_key tests.is_key keys longer rows alike read json (option_and_then (λ (l : Holder × List ℕ). find l.0 l.1) last)
        (slot_low (length rows) find lows last lasts_low)

    set_change : (r : Result Value No)
        → changed_by longer others.is_key (root_in rows name source v) (with_part (set_at (codes "value" ∷ s ∷ ss)) r) ≡ rooted_or name source (changed_by rows tests.is_key (plainly n, v) (with_part (set_at (s ∷ ss)) r))
    set_change (Err refusal) = refl
    set_change (Ok w) =
        ap₂ (λ c o. set_in others.is_key c o) (changes_alike rows n table low name source v (λ h t. set_part h t w) s ss) (holders_alike rows n table low name source v s ss)
        ∙ set_same (length rows) others.is_key tests.is_key keys name source (changed_in rows (λ h t. set_part h t w) (plainly n, v) s ss) last lasts_low

    ins_change : (r : Result Value No)
        → changed_by longer others.is_key (root_in rows name source v) (with_part (ins_at (codes "value" ∷ s ∷ ss)) r) ≡ rooted_or name source (changed_by rows tests.is_key (plainly n, v) (with_part (ins_at (s ∷ ss)) r))
    ins_change (Err refusal) = refl
    ins_change (Ok w) =
        ap₂ (λ c o. ins_in others.is_key c o) (changes_alike rows n table low name source v (λ h t. insert_part h t w) s ss) (holders_alike rows n table low name source v s ss)
        ∙ ins_same (length rows) others.is_key tests.is_key keys name source (changed_in rows (λ h t. insert_part h t w) (plainly n, v) s ss) last lasts_low

    del_change : del_in (changed_in longer delete_part (root_in rows name source v) (codes "value") (s ∷ ss)) (last_holder longer (root_in rows name source v) (codes "value") (s ∷ ss))
        ≡ rooted_or name source (del_in (changed_in rows delete_part (plainly n, v) s ss) last)
    del_change =
        ap₂ (λ c o. del_in c o) (changes_alike rows n table low name source v delete_part s ss) (holders_alike rows n table low name source v s ss)
        ∙ del_same (length rows) others.is_key tests.is_key keys name source (changed_in rows delete_part (plainly n, v) s ss) last

  -- ---- the whole

  abbrev root_fields : Optionals
  root_fields = V.present (V.text name) (V.present v (V.present (V.link (cid_of (id_of (schema_block source)))) V.no_optionals))

  set_value : (r : Result Value No)
      → changed_by longer others.is_key (root_in rows name source v) (with_part (set_at (codes "value" ∷ [])) r) ≡ rooted_or name source (changed_by rows tests.is_key (plainly n, v) (with_part (set_at []) r))
  set_value (Err refusal) = refl
  set_value (Ok w) =
      ap (λ o. placed (key_fits others.is_key (struct_holder o root_fields) (codes "value")) (value_of (set_part (struct_holder o root_fields) (codes "value") w)) (slot_to_set (struct_holder o root_fields) (codes "value")))
      (meant_last rows n)

  set_whole : (json : List ℕ) → line_change longer others.is_key read (root_in rows name source v) (set_at (codes "value" ∷ []) json) ≡ rooted_or name source (line_change rows tests.is_key read (plainly n, v) (set_at [] json))
  set_whole json =
      ap (λ o. changed_by longer others.is_key (root_in rows name source v) (with_part (set_at (codes "value" ∷ [])) (new_part longer others.is_key read (slot_to_set (struct_holder o root_fields) (codes "value")) json)))
      (meant_last rows n)
      ∙ ap (λ r. changed_by longer others.is_key (root_in rows name source v) (with_part (set_at (codes "value" ∷ [])) r))
      (part_same (length rows) others.is_key tests.is_key keys longer rows alike read json (Some (plainly n)) (λ u e. subst (λ (u : Slot). u.ty.0 < length rows) (same_Some (plainly n) u e) low))
      ∙ set_value (new_part rows tests.is_key read (Some (plainly n)) json)

  ins_whole : (json : List ℕ) → line_change longer others.is_key read (root_in rows name source v) (ins_at (codes "value" ∷ []) json) ≡ rooted_or name source (line_change rows tests.is_key read (plainly n, v) (ins_at [] json))
  ins_whole json =
      ap (λ o. changed_by longer others.is_key (root_in rows name source v) (with_part (ins_at (codes "value" ∷ [])) (new_part longer others.is_key read (slot_to_insert (struct_holder o root_fields) (codes "value")) json)))
      (meant_last rows n)

  del_whole : line_change longer others.is_key read (root_in rows name source v) (del_at (codes "value" ∷ [])) ≡ rooted_or name source (line_change rows tests.is_key read (plainly n, v) (del_at []))
  del_whole = ap (λ o. del_in (changed_in longer delete_part (root_in rows name source v) (codes "value") []) (Some (struct_holder o root_fields, codes "value"))) (meant_last rows n)

pub line_changes : LineChangesAreAlike
line_changes rows n table low tests others both name source read v (set_at [] json) = set_whole rows n table low tests others both name source read v json
line_changes rows n table low tests others both name source read v (set_at (s ∷ ss) json) =
    ap (λ r. changed_by (named_rows rows n) others.is_key (root_in rows name source v) (with_part (set_at (codes "value" ∷ s ∷ ss)) r))
    (new_same rows n table low tests others both name source read v s ss json slot_to_set (set_low (length rows)))
    ∙ set_change rows n table low tests others both name source read v s ss
    (new_part rows tests.is_key read (option_and_then (λ (l : Holder × List ℕ). slot_to_set l.0 l.1) (last_holder rows (plainly n, v) s ss)) json)
line_changes rows n table low tests others both name source read v (ins_at [] json) = ins_whole rows n table low tests others both name source read v json
line_changes rows n table low tests others both name source read v (ins_at (s ∷ ss) json) =
    ap (λ r. changed_by (named_rows rows n) others.is_key (root_in rows name source v) (with_part (ins_at (codes "value" ∷ s ∷ ss)) r))
    (new_same rows n table low tests others both name source read v s ss json slot_to_insert (insert_low (length rows)))
    ∙ ins_change rows n table low tests others both name source read v s ss
    (new_part rows tests.is_key read (option_and_then (λ (l : Holder × List ℕ). slot_to_insert l.0 l.1) (last_holder rows (plainly n, v) s ss)) json)
line_changes rows n table low tests others both name source read v (del_at []) = del_whole rows n table low tests others both name source read v
line_changes rows n table low tests others both name source read v (del_at (s ∷ ss)) = del_change rows n table low tests others both name source read v s ss

-- ---- judged

judged_or : (name source : List ℕ) (c : Value) (o : Option No) → unless_judged (rooted name source c) o ≡ rooted_or name source (unless_judged c o)
judged_or name source c None = refl
judged_or name source c (Some refusal) = refl

module _ (h : List ℕ → List ℕ) (rows : List Row) (n : TypeNo) (table : IsTable rows) (low : n.0 < length rows) (tests others : Tests) (both : AreTestsOfBoth rows n tests others) (name source : List ℕ) (naming : AreNaming name source) where
  -- both tests of the room are one for this value
  abbrev pub IsRoomAlike : Value → Type 0
  IsRoomAlike c = others.fits 96 (plainly (root_type rows)) (rooted name source c) ≡ tests.fits 95 (plainly n) c

  results_same : (r : Result Value No) → ((c : Value) → r ≡ Ok c → IsRoomAlike c)
      → judged_result bare h (named_rows rows n) others (root_type rows) (rooted_or name source r) ≡ rooted_or name source (judged_result (named name source) h rows tests n r)
  results_same (Err refusal) rooms = refl
  results_same (Ok c) rooms =
      ap (λ o. unless_judged (rooted name source c) o) (judged_by h rows n table low name source c tests others naming (rooms c refl))
      ∙ judged_or name source c (judged (named name source) h rows tests n c)

  pub edits_by : (read : List ℕ → Option Data) (v : Value) (e : Edit (List ℕ)) → ((c : Value) → line_change rows tests.is_key read (plainly n, v) e ≡ Ok c → IsRoomAlike c)
      → edited bare h (named_rows rows n) others read (root_type rows) (rooted name source v) (edit_beneath e) ≡ rooted_or name source (edited (named name source) h rows tests read n v e)
  edits_by read v e rooms =
      ap (λ r. judged_result bare h (named_rows rows n) others (root_type rows) r) (line_changes rows n table low tests others both name source read v e)
      ∙ results_same (line_change rows tests.is_key read (plainly n, v) e) rooms

pub edits_alike : EditsAreAlike
edits_alike h rows n schema low tests others both name source naming read v e texts trees typed =
    edits_by h rows n schema.table low tests others both name source naming read v e
    (λ c is. let t = lines_keep_typed rows tests.is_key schema both.own.keys read (plainly n, v) e c texts trees typed is in
    rooms_same h rows n schema.table low name source c tests others both naming (t.0, t.1))
