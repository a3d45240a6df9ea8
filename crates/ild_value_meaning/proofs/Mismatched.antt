-- Where data mean nothing, some part of them breaks some rule.
use Rattle.std.proofs.Common.{cond, ◌≡◌, ◌⊎◌, inl, inr, ℕ, suc, List, [], ◌∷◌, slice_get, Bool, true, false, not, Option, Some, None, refl, ap, sym, subst, ◌∙◌}
use Rattle.std.specs.Prelude.{ℤ, ◌&&◌, is_none, map as list_map, option_map, option_and_then}
use Rattle.std.specs.List.{list_any}
use Rattle.std.specs.Cmp.Lexicographic.{same_text as text_same}
use Rattle.std.proofs.lemmas.Option.{same_Some, none-some}
use Rattle.std.proofs.lemmas.Bool.{or_left, or_right}
use Rattle.ild_data.proofs.Options.{map_none}
use Rattle.ild_data.specs.Data as D
use Rattle.ild_data.specs.Data.{Data, Items, no_items, item, items_list, Members, no_members, member, members_list}
use Rattle.ild_data.specs.Key.{same_text, value_at}
use Rattle.ild_schema.specs.declared.def.TypeDef.{TypeDef}
use Rattle.ild_schema.specs.declared.def.TypeDef.TheVariants as T
use Rattle.ild_schema.specs.declared.def.Scalar.{Scalar}
use Rattle.ild_schema.specs.declared.def.Field.{Field}
use Rattle.ild_schema.specs.declared.def.Member.{Member}
use Rattle.ild_schema.specs.declared.number.Slot.{Slot}
use Rattle.ild_schema.specs.declared.number.TypeNo.{TypeNo}
use Rattle.ild_schema.specs.declared.row.Row.{Row}
use Rattle.ild_schema.specs.Slots.{form_of, plainly}
use Rattle.ild_schema.specs.Value.{Value, Values, Pairs, Optionals, null, boolean, integer, bytes, enum, list, map, struct, union, value, pair, optional}
use Rattle.ild_splice_changes.proofs.Maps.{own_text, other_is}
use Rattle.ild_typed.specs.Segment.{member_named}
use Rattle.ild_value_meaning.specs.Names.{slot_named, are_named, enum_named}
use Rattle.ild_value_meaning.specs.MeantRead.{meant, meant_items, readings, Reading, scalar_by, text_by, link_by, list_by, map_by, and_others, and_pairs, pairs_by, and_fields, field_of, or_implicit, fields_by, if_named, member_read, member_by}
use Rattle.ild_value_meaning.specs.MeantLaws.{NothingWhereBroken}
use Rattle.ild_value_meaning.specs.Mismatch.{Rule, Kind, Name, Missing, Member as MemberRule, Key, shows_bool, shows_int, shows_text, shows_bytes, shows_link, shows_list, shows_map, breaks_name, lacks, breaks_missing, is_member, breaks_member, breaks_key, breaks, with_part, parts_named, member_slot, list_parts, map_parts, parts_of, part_by_numbers, IsMismatch}
use Rattle.ild_value_meaning.proofs.Broken.{broken_none, at_none}
use Rattle.ild_value_meaning.proofs.Meanings.{reading_at}
use Rattle.ild_value_meaning.proofs.Told.{AreProper, HasProperFields, told}

-- ---- where what is made of parts is none, a part is

others : (o : Option Value) (p : Option Values) → and_others o p ≡ None → (o ≡ None) ⊎ (p ≡ None)
others None p h = inl refl
others (Some v) p h = inr (map_none (λ vs. value v vs) p h)

pairs : (b : Bool) (k : List ℕ) (o : Option Value) (p : Option Pairs) → and_pairs b k o p ≡ None → (b ≡ false) ⊎ ((o ≡ None) ⊎ (p ≡ None))
pairs true k None p h = inr (inl refl)
pairs true k (Some v) p h = inr (inr (map_none (λ ps. pair k v ps) p h))
pairs false k o p h = inl refl

both_fields : (o : Option (Option Value)) (p : Option Optionals) → and_fields o p ≡ None → (o ≡ None) ⊎ (p ≡ None)
both_fields None p h = inl refl
both_fields (Some v) p h = inr (map_none (λ os. optional v os) p h)

left_fields : (i : Option Scalar) (b : Bool) → or_implicit i b ≡ None → (not b && is_none i) ≡ true
left_fields (Some s) b h = absurd (none-some _ (sym h))
left_fields None true h = absurd (none-some _ (sym h))
left_fields None false h = refl

-- ---- kinds

bool_kind : (b : Bool) (f : Option TypeDef) → scalar_by T.Bool (boolean b) (D.boolean b) f ≡ None → not (shows_bool f) ≡ true
bool_kind b (Some T.Bool) h = absurd (none-some _ (sym h))
bool_kind b (Some T.Any) h = absurd (none-some _ (sym h))
bool_kind b f h = refl

int_kind : (n : ℤ) (f : Option TypeDef) → scalar_by T.Int (integer n) (D.integer n) f ≡ None → not (shows_int f) ≡ true
int_kind n (Some T.Int) h = absurd (none-some _ (sym h))
int_kind n (Some T.Any) h = absurd (none-some _ (sym h))
int_kind n f h = refl

bytes_kind : (s : List ℕ) (f : Option TypeDef) → scalar_by T.Bytes (bytes s) (D.bytes s) f ≡ None → not (shows_bytes f) ≡ true
bytes_kind s (Some T.Bytes) h = absurd (none-some _ (sym h))
bytes_kind s (Some T.Any) h = absurd (none-some _ (sym h))
bytes_kind s f h = refl

link_kind : (s : List ℕ) (f : Option TypeDef) → link_by s f ≡ None → not (shows_link f) ≡ true
link_kind s (Some (T.Link target)) h = absurd (none-some _ (sym h))
link_kind s (Some T.Any) h = absurd (none-some _ (sym h))
link_kind s f h = refl

null_kind : (b : Bool) → cond b (Some null) None ≡ None → not b ≡ true
null_kind true h = absurd (none-some _ (sym h))
null_kind false h = refl

-- ---- fields that are named

-- the first field of a name is that field

abbrev pub AreFirst : List Field → List Field → Type 0
AreFirst all [] = Unit {0}
AreFirst all (f ∷ fs) = (slot_named f.name all ≡ Some f.slot) × AreFirst all fs

not_that : (k n : List ℕ) (s : Slot) (o : Option Slot) (b : Bool) → b ≡ same_text k n → cond b (Some s) o ≡ None → (k ≡ n → ⊥) × (o ≡ None)
not_that k n s o true e h = absurd (none-some s (sym h))
not_that k n s o false e h = (λ p. differ (e ∙ (ap (same_text k) (sym p) ∙ own_text k)), h)
  where
    differ : false ≡ true → ⊥
    differ h = absurd cc

first_more : (g : Field) (all fs : List Field) → slot_named g.name fs ≡ None → AreFirst all fs → AreFirst (g ∷ all) fs
first_more g all [] h a = tt
first_more g all (f ∷ fs) h a =
    let x = not_that g.name f.name f.slot (slot_named g.name fs) (same_text g.name f.name) refl h in
    (ap (λ b. cond b (Some g.slot) (slot_named f.name all)) (other_is f.name g.name (λ p. x.0 (sym p))) ∙ a.0, first_more g all fs x.1 a.1)

pub are_first : (fs : List Field) → AreProper fs → AreFirst fs fs
are_first [] h = tt
are_first (f ∷ fs) h = (ap (λ b. cond b (Some f.slot) (slot_named f.name fs)) (own_text f.name), first_more f fs fs h.0 (are_first fs h.2))

-- the place of an entry among the parts
pub found_at : (slot : List ℕ → Option Slot) (k : List ℕ) (s : Slot) (ms : Members) (d : Data) → slot k ≡ Some s → value_at k (members_list ms) ≡ Some d → (i : ℕ) × (slice_get (parts_named slot ms) i ≡ Some (s, d))
found_at slot k s no_members d e h = absurd (none-some d h)
found_at slot k s (member j c ms) d e h = by (same_text k j) refl h (slot j) refl (λ g. found_at slot k s ms d e g)
  where
    by : (b : Bool) → b ≡ same_text k j → cond b (Some c) (value_at k (members_list ms)) ≡ Some d → (o : Option Slot) → slot j ≡ o
        → (value_at k (members_list ms) ≡ Some d → (i : ℕ) × (slice_get (parts_named slot ms) i ≡ Some (s, d))) → (i : ℕ) × (slice_get (with_part o c (parts_named slot ms)) i ≡ Some (s, d))
    by true q g None f rest = absurd (none-some s (sym f ∙ ap slot (sym (text_same k j q)) ∙ e))
    by true q g (Some r) f rest =
        let same : r ≡ s = same_Some r s (sym f ∙ ap slot (sym (text_same k j q)) ∙ e) in
        (0, λ i. Some (same i, same_Some c d g i))
    by false q g None f rest = rest g
    by false q g (Some r) f rest = let x = rest g in (suc x.0, x.1)

module _ (rows : List Row) (is_key : ℕ → List ℕ → Bool) (proper : HasProperFields rows) where
  abbrev M : Slot → Data → Option Value
  M slot d = meant rows is_key slot d

  abbrev R : Members → List (List ℕ × Reading)
  R ms = readings rows is_key ms

  abbrev Mis : Slot → Data → Type 0
  Mis slot t = (ty : TypeNo) × (rule : Rule) × IsMismatch rows is_key slot t ty rule

  abbrev Told : Data → Type 0
  Told d = (slot : Slot) → M slot d ≡ None → Mis slot d

  abbrev AllTold : Members → Type 0
  AllTold no_members = Unit {0}
  AllTold (member k d ms) = Told d × AllTold ms

  abbrev ItemsTold : Items → Type 0
  ItemsTold no_items = Unit {0}
  ItemsTold (item d ds) = Told d × ItemsTold ds

  here : (slot : Slot) (t : Data) (rule : Rule) → breaks rows is_key slot t rule ≡ true → Mis slot t
  here slot t rule h = (slot.ty, rule, record { at = []; part = (slot, t); there = refl; type = refl; broken = h })

  beneath : (slot : Slot) (t : Data) (i : ℕ) (p : Slot × Data) → slice_get (parts_of rows slot t) i ≡ Some p → Mis p.0 p.1 → Mis slot t
  beneath slot t i p e m = (
    m.0,
    m.1,
    record {
      at = i ∷ (m.2).at;
      part = (m.2).part;
      there = ap (option_and_then (λ r. part_by_numbers rows r (m.2).at)) e ∙ (m.2).there;
      type = (m.2).type;
      broken = (m.2).broken;
    },
  )

  -- a part of it means nothing
  abbrev PartFails : List (Slot × Data) → Type 0
  PartFails ps = (i : ℕ) × (p : Slot × Data) × (slice_get ps i ≡ Some p) × Mis p.0 p.1

  told_at : (k : List ℕ) (ms : Members) (d : Data) → AllTold ms → value_at k (members_list ms) ≡ Some d → Told d
  told_at k no_members d all h = absurd (none-some d h)
  told_at k (member j c ms) d all h = by (same_text k j) h (λ g. told_at k ms d all.1 g)
    where
      by : (b : Bool) → cond b (Some c) (value_at k (members_list ms)) ≡ Some d → (value_at k (members_list ms) ≡ Some d → Told d) → Told d
      by true g rest = subst Told (same_Some c d g) all.0
      by false g rest = rest g

  -- lists
  items_fail : (ds : Items) (elem : Slot) → ItemsTold ds → meant_items rows is_key elem ds ≡ None → PartFails (list_map (λ d. (elem, d)) (items_list ds))
  items_fail no_items elem all h = absurd (none-some _ (sym h))
  items_fail (item d ds) elem all h = by (others (M elem d) (meant_items rows is_key elem ds) h) (λ g. items_fail ds elem all.1 g)
    where
      by : (M elem d ≡ None) ⊎ (meant_items rows is_key elem ds ≡ None) → (meant_items rows is_key elem ds ≡ None → PartFails (list_map (λ d. (elem, d)) (items_list ds)))
          → PartFails ((elem, d) ∷ list_map (λ d. (elem, d)) (items_list ds))
      by (inl n) rest = (0, (elem, d), refl, all.0 elem n)
      by (inr n) rest = let x = rest n in (suc x.0, x.1, x.2, x.3)

  list_mis : (slot : Slot) (ds : Items) (f : Option TypeDef) → form_of rows slot ≡ f → ItemsTold ds → list_by (D.list ds) (λ elem. meant_items rows is_key elem ds) f ≡ None → Mis slot (D.list ds)
  list_mis slot ds (Some (T.List elem place)) e all h =
      let x = items_fail ds elem all (map_none (λ vs. list vs) (meant_items rows is_key elem ds) h) in
      beneath slot (D.list ds) x.0 x.1 (ap (λ g. slice_get (list_parts g ds) x.0) e ∙ x.2) x.3
  list_mis slot ds (Some T.Any) e all h = absurd (none-some _ (sym h))
  list_mis slot ds f e all h = here slot (D.list ds) Kind (ap (λ g. not (shows_list g)) e)

  -- maps
  entries_fail : (key : ℕ) (elem : Slot) (ms : Members) → AllTold ms → pairs_by (is_key key) elem (R ms) ≡ None
      → (list_any (λ (m : List ℕ × Data). not (is_key key m.0)) (members_list ms) ≡ true) ⊎ PartFails (parts_named (λ k. Some elem) ms)
  entries_fail key elem no_members all h = absurd (none-some _ (sym h))
  entries_fail key elem (member k d ms) all h = by (pairs (is_key key k) k (M elem d) (pairs_by (is_key key) elem (R ms)) h) (λ g. entries_fail key elem ms all.1 g)
    where
      more : (list_any (λ (m : List ℕ × Data). not (is_key key m.0)) (members_list ms) ≡ true) ⊎ PartFails (parts_named (λ k. Some elem) ms)
          → (list_any (λ (m : List ℕ × Data). not (is_key key m.0)) (members_list (member k d ms)) ≡ true) ⊎ PartFails (parts_named (λ k. Some elem) (member k d ms))
      more (inl n) = inl (or_right (not (is_key key k)) _ n)
      more (inr x) = inr (suc x.0, x.1, x.2, x.3)

      by : (is_key key k ≡ false) ⊎ ((M elem d ≡ None) ⊎ (pairs_by (is_key key) elem (R ms) ≡ None))
          → (pairs_by (is_key key) elem (R ms) ≡ None → (list_any (λ (m : List ℕ × Data). not (is_key key m.0)) (members_list ms) ≡ true) ⊎ PartFails (parts_named (λ k. Some elem) ms))
          → (list_any (λ (m : List ℕ × Data). not (is_key key m.0)) (members_list (member k d ms)) ≡ true) ⊎ PartFails (parts_named (λ k. Some elem) (member k d ms))
      by (inl n) rest = inl (or_left (not (is_key key k)) _ (ap not n))
      by (inr (inl n)) rest = inr (0, (elem, d), refl, all.0 elem n)
      by (inr (inr n)) rest = more (rest n)

  -- structs
  field_fails : (all fs : List Field) (f : Field) (ms : Members) (o : Option Data) → value_at f.name (members_list ms) ≡ o → AllTold ms → slot_named f.name all ≡ Some f.slot
      → field_of f (option_map (λ d slot. M slot d) o) ≡ None → (lacks ms f ≡ true) ⊎ PartFails (parts_named (λ k. slot_named k all) ms)
  field_fails all fs f ms None e told named h = inl (ap (λ o. (not f.optional && is_none f.implicit) && is_none o) e ∙ and_true (not f.optional && is_none f.implicit) (left_fields f.implicit f.optional h))
    where
      and_true : (b : Bool) → b ≡ true → (b && true) ≡ true
      and_true true h = refl
      and_true false h = h
  field_fails all fs f ms (Some d) e told named h =
      let i = found_at (λ k. slot_named k all) f.name f.slot ms d named e in
      inr (i.0, (f.slot, d), i.1, told_at f.name ms d told e f.slot (map_none (λ v. Some v) (M f.slot d) h))

  fields_fail : (all fs : List Field) (ms : Members) → AllTold ms → AreFirst all fs → fields_by fs (R ms) ≡ None → (list_any (lacks ms) fs ≡ true) ⊎ PartFails (parts_named (λ k. slot_named k all) ms)
  fields_fail all [] ms told first h = absurd (none-some _ (sym h))
  fields_fail all (f ∷ fs) ms told first h = by (both_fields (field_of f (value_at f.name (R ms))) (fields_by fs (R ms)) h) (λ g. fields_fail all fs ms told first.1 g)
    where
      mine : (lacks ms f ≡ true) ⊎ PartFails (parts_named (λ k. slot_named k all) ms) → (list_any (lacks ms) (f ∷ fs) ≡ true) ⊎ PartFails (parts_named (λ k. slot_named k all) ms)
      mine (inl n) = inl (or_left (lacks ms f) (list_any (lacks ms) fs) n)
      mine (inr x) = inr x

      more : (list_any (lacks ms) fs ≡ true) ⊎ PartFails (parts_named (λ k. slot_named k all) ms) → (list_any (lacks ms) (f ∷ fs) ≡ true) ⊎ PartFails (parts_named (λ k. slot_named k all) ms)
      more (inl n) = inl (or_right (lacks ms f) (list_any (lacks ms) fs) n)
      more (inr x) = inr x

      by : (field_of f (value_at f.name (R ms)) ≡ None) ⊎ (fields_by fs (R ms) ≡ None)
          → (fields_by fs (R ms) ≡ None → (list_any (lacks ms) fs ≡ true) ⊎ PartFails (parts_named (λ k. slot_named k all) ms))
          → (list_any (lacks ms) (f ∷ fs) ≡ true) ⊎ PartFails (parts_named (λ k. slot_named k all) ms)
      by (inl n) rest = mine (field_fails all fs f ms (value_at f.name (members_list ms)) refl told first.0 (ap (field_of f) (sym (reading_at rows is_key ms f.name)) ∙ n))
      by (inr n) rest = more (rest n)

  -- unions
  union_fails : (members : List Member) (ms : Members) → AllTold ms → member_by members (R ms) ≡ None → (not (is_member members ms) ≡ true) ⊎ PartFails (parts_named (member_slot members) ms)
  union_fails members no_members all h = inl refl
  union_fails members (member k d no_members) all h = by (member_named k members) refl h
    where
      by : (o : Option (ℕ × Member)) → member_named k members ≡ o → member_read (λ slot. M slot d) o ≡ None
          → (not (not (is_none (member_named k members))) ≡ true) ⊎ PartFails (with_part (option_map (λ (p : ℕ × Member). plainly (p.1).ty) (member_named k members)) d [])
      by None e g = inl (ap (λ o. not (not (is_none o))) e)
      by (Some m) e g =
          inr (0, (plainly (m.1).ty, d), ap (λ o. slice_get (with_part (option_map (λ (p : ℕ × Member). plainly (p.1).ty) o) d []) 0) e, all.0 (plainly (m.1).ty) (map_none (λ v. union m.0 v) (M (plainly (m.1).ty) d) g))
  union_fails members (member k d (member l e ms)) all h = inl refl

  either_way : (slot : Slot) (ms : Members) (rule : Rule) (f : Option TypeDef) (b : Bool) → form_of rows slot ≡ f → breaks rows is_key slot (D.map ms) rule ≡ b → (b ≡ true) ⊎ PartFails (map_parts f ms) → Mis slot (D.map ms)
  either_way slot ms rule f b e same (inl h) = here slot (D.map ms) rule (same ∙ h)
  either_way slot ms rule f b e same (inr x) = beneath slot (D.map ms) x.0 x.1 (ap (λ g. slice_get (map_parts g ms) x.0) e ∙ x.2) x.3

  struct_mis : (slot : Slot) (s : List Field) (ms : Members) (b : Bool) → are_named s ms ≡ b → if_named b (fields_by s (R ms)) ≡ None → (not b ≡ true) ⊎ (fields_by s (R ms) ≡ None)
  struct_mis slot s ms true e h = inr (map_none (λ os. struct os) (fields_by s (R ms)) h)
  struct_mis slot s ms false e h = inl refl

  map_mis : (slot : Slot) (ms : Members) (f : Option TypeDef) → form_of rows slot ≡ f → AllTold ms → map_by is_key ms (R ms) f ≡ None → Mis slot (D.map ms)
  map_mis slot ms (Some (T.Map key key_at elem place form)) e all h =
      either_way slot ms Key (Some (T.Map key key_at elem place form)) (list_any (λ (m : List ℕ × Data). not (is_key key.0 m.0)) (members_list ms)) e (ap (λ g. breaks_key is_key g (D.map ms)) e)
      (entries_fail key.0 elem ms all (map_none (λ ps. map ps) (pairs_by (is_key key.0) elem (R ms)) h))
  map_mis slot ms (Some (T.Struct s)) e all h = by (struct_mis slot s.fields ms (are_named s.fields ms) refl h)
    where
      by : (not (are_named s.fields ms) ≡ true) ⊎ (fields_by s.fields (R ms) ≡ None) → Mis slot (D.map ms)
      by (inl n) = here slot (D.map ms) Name (ap (λ g. breaks_name g (D.map ms)) e ∙ n)
      by (inr n) =
          either_way slot ms Missing (Some (T.Struct s)) (list_any (lacks ms) s.fields) e (ap (λ g. breaks_missing g (D.map ms)) e)
          (fields_fail s.fields s.fields ms all (are_first s.fields (proper slot s e)) n)
  map_mis slot ms (Some (T.Union u)) e all h = either_way slot ms MemberRule (Some (T.Union u)) (not (is_member u.members ms)) e (ap (λ g. breaks_member g (D.map ms)) e) (union_fails u.members ms all h)
  map_mis slot no_members (Some (T.Unit form)) e all h = absurd (none-some _ (sym h))
  map_mis slot (member k d ms) (Some (T.Unit form)) e all h = here slot (D.map (member k d ms)) Name (ap (λ g. breaks_name g (D.map (member k d ms))) e)
  map_mis slot ms (Some T.Any) e all h = absurd (none-some _ (sym h))
  map_mis slot ms f e all h = here slot (D.map ms) Kind (ap (λ g. not (shows_map g)) e)

  text_mis : (slot : Slot) (s : List ℕ) (f : Option TypeDef) → form_of rows slot ≡ f → text_by s f ≡ None → Mis slot (D.text s)
  text_mis slot s (Some T.Text) e h = absurd (none-some _ (sym h))
  text_mis slot s (Some (T.Enum en)) e h =
      here slot (D.text s) MemberRule (ap (λ g. breaks_member g (D.text s)) e ∙ ap is_none (map_none (λ n. enum n) (enum_named s en.members) h))
  text_mis slot s (Some T.Any) e h = absurd (none-some _ (sym h))
  text_mis slot s f e h = here slot (D.text s) Kind (ap (λ g. not (shows_text g)) e)

  mutual
    mis : (t : Data) → Told t
    mis D.null slot h = here slot D.null Kind (null_kind slot.nullable h)
    mis (D.boolean b) slot h = here slot (D.boolean b) Kind (bool_kind b (form_of rows slot) h)
    mis (D.integer n) slot h = here slot (D.integer n) Kind (int_kind n (form_of rows slot) h)
    mis (D.text s) slot h = text_mis slot s (form_of rows slot) refl h
    mis (D.bytes s) slot h = here slot (D.bytes s) Kind (bytes_kind s (form_of rows slot) h)
    mis (D.list ds) slot h = list_mis slot ds (form_of rows slot) refl (items_mis ds) h
    mis (D.map ms) slot h = map_mis slot ms (form_of rows slot) refl (members_mis ms) h
    mis (D.link s) slot h = here slot (D.link s) Kind (link_kind s (form_of rows slot) h)

    items_mis : (ds : Items) → ItemsTold ds
    items_mis no_items = tt
    items_mis (item d ds) = (λ slot h. mis d slot h, items_mis ds)

    members_mis : (ms : Members) → AllTold ms
    members_mis no_members = tt
    members_mis (member k d ms) = (λ slot h. mis d slot h, members_mis ms)

pub nothing_where_broken : NothingWhereBroken
nothing_where_broken rows is_key schema slot t tree = (
  λ h. mis rows is_key (told rows schema).proper t slot h,
  λ m. at_none rows is_key (m.2).at (slot, t) (m.2).part tree (m.2).there (broken_none rows is_key ((m.2).part).1 ((m.2).part).0 m.1 (m.2).broken),
)
