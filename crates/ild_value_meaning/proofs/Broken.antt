-- A tree of which a part breaks a rule means nothing.
use Rattle.std.proofs.Common.{cond, ◌≡◌, ℕ, zero, suc, List, [], ◌∷◌, slice_get, Bool, true, false, ◌||◌, not, Option, Some, None, refl, ap, sym, subst, ◌∙◌}
use Rattle.std.specs.Prelude.{ℤ, ◌&&◌, is_none, map as list_map, option_map, option_and_then}
use Rattle.std.specs.List.{list_any}
use Rattle.std.specs.Cmp.Lexicographic.{same_text as text_same}
use Rattle.std.proofs.lemmas.Option.{same_Some, none-some}
use Rattle.std.proofs.lemmas.Bool.{and_parts}
use Rattle.ild_data.proofs.Options.{none_is}
use Rattle.ild_data.specs.Data as D
use Rattle.ild_data.specs.Data.{Data, Items, no_items, item, items_list, Members, no_members, member, members_list}
use Rattle.ild_data.specs.Key.{same_text, value_at, Rises}
use Rattle.ild_data.specs.Tree.{IsTree, AreTrees, AreEntries}
use Rattle.ild_schema.specs.declared.def.TypeDef.{TypeDef}
use Rattle.ild_schema.specs.declared.def.TypeDef.TheVariants as T
use Rattle.ild_schema.specs.declared.def.Field.{Field}
use Rattle.ild_schema.specs.declared.def.Member.{Member}
use Rattle.ild_schema.specs.declared.number.Slot.{Slot}
use Rattle.ild_schema.specs.declared.row.Row.{Row}
use Rattle.ild_schema.specs.Slots.{form_of, plainly}
use Rattle.ild_schema.specs.Value.{Value, Values, Pairs, null, boolean, integer, bytes, enum, list, map, union}
use Rattle.ild_splice_changes.proofs.Maps.{own_text, below_absent}
use Rattle.ild_typed.specs.Segment.{member_named}
use Rattle.ild_value_meaning.specs.Names.{slot_named, are_named, enum_named}
use Rattle.ild_value_meaning.specs.MeantRead.{meant, meant_items, readings, Reading, scalar_by, text_by, link_by, list_by, map_by, and_others, and_pairs, pairs_by, and_fields, field_of, or_implicit, fields_by, if_named, member_read, member_by}
use Rattle.ild_value_meaning.specs.Mismatch.{Rule, Kind, Name, Missing, Member as MemberRule, Key, shows_bool, shows_int, shows_text, shows_bytes, shows_link, shows_list, shows_map, is_kind, breaks_name, lacks, breaks_missing, is_member, breaks_member, breaks_key, breaks, with_part, parts_named, member_slot, list_parts, map_parts, parts_of, part_by_numbers}
use Rattle.ild_value_meaning.proofs.Meanings.{reading_at}
use Rattle.ild_value_meaning.proofs.MeantTyped.{tree_at}

pub not_false : (b : Bool) → not b ≡ true → b ≡ false
not_false true h = absurd cc
not_false false h = refl

-- what is made of two parts, where one is none
others_none : (o : Option Value) → and_others o None ≡ None
others_none None = refl
others_none (Some v) = refl

pairs_none : (b : Bool) (k : List ℕ) (o : Option Value) → and_pairs b k o None ≡ None
pairs_none true k None = refl
pairs_none true k (Some v) = refl
pairs_none false k o = refl

pair_none : (b : Bool) (k : List ℕ) (p : Option Pairs) → and_pairs b k None p ≡ None
pair_none true k p = refl
pair_none false k p = refl

fields_none : (o : Option (Option Value)) → and_fields o None ≡ None
fields_none None = refl
fields_none (Some v) = refl

unless_named : (b : Bool) → if_named b None ≡ None
unless_named true = refl
unless_named false = refl

pub entries_rise : (ms : Members) → AreEntries ms → Rises (members_list ms)
entries_rise no_members h = tt
entries_rise (member k d ms) h = (h.2, entries_rise ms h.3)

-- ---- kinds

bool_none : (b : Bool) (f : Option TypeDef) → shows_bool f ≡ false → scalar_by T.Bool (boolean b) (D.boolean b) f ≡ None
bool_none b (Some T.Bool) h = absurd cc
bool_none b (Some T.Any) h = absurd cc
bool_none b f h = refl

int_none : (n : ℤ) (f : Option TypeDef) → shows_int f ≡ false → scalar_by T.Int (integer n) (D.integer n) f ≡ None
int_none n (Some T.Int) h = absurd cc
int_none n (Some T.Any) h = absurd cc
int_none n f h = refl

bytes_none : (s : List ℕ) (f : Option TypeDef) → shows_bytes f ≡ false → scalar_by T.Bytes (bytes s) (D.bytes s) f ≡ None
bytes_none s (Some T.Bytes) h = absurd cc
bytes_none s (Some T.Any) h = absurd cc
bytes_none s f h = refl

text_none : (s : List ℕ) (f : Option TypeDef) → shows_text f ≡ false → text_by s f ≡ None
text_none s (Some T.Text) h = absurd cc
text_none s (Some (T.Enum e)) h = absurd cc
text_none s (Some T.Any) h = absurd cc
text_none s f h = refl

link_none : (s : List ℕ) (f : Option TypeDef) → shows_link f ≡ false → link_by s f ≡ None
link_none s (Some (T.Link target)) h = absurd cc
link_none s (Some T.Any) h = absurd cc
link_none s f h = refl

list_none : (d : Data) (read : Slot → Option Values) (f : Option TypeDef) → shows_list f ≡ false → list_by d read f ≡ None
list_none d read (Some (T.List elem place)) h = absurd cc
list_none d read (Some T.Any) h = absurd cc
list_none d read f h = refl

map_none : (is_key : ℕ → List ℕ → Bool) (ms : Members) (rs : List (List ℕ × Reading)) (f : Option TypeDef) → shows_map f ≡ false → map_by is_key ms rs f ≡ None
map_none is_key ms rs (Some (T.Map key key_at elem place form)) h = absurd cc
map_none is_key ms rs (Some (T.Struct s)) h = absurd cc
map_none is_key ms rs (Some (T.Union u)) h = absurd cc
map_none is_key ms rs (Some (T.Unit form)) h = absurd cc
map_none is_key ms rs (Some T.Any) h = absurd cc
map_none is_key ms rs f h = refl

module _ (rows : List Row) (is_key : ℕ → List ℕ → Bool) where
  abbrev M : Slot → Data → Option Value
  M slot d = meant rows is_key slot d

  abbrev R : Members → List (List ℕ × Reading)
  R ms = readings rows is_key ms

  kind_none : (t : Data) (slot : Slot) → is_kind rows slot t ≡ false → M slot t ≡ None
  kind_none D.null slot h = ap (λ b. cond b (Some null) None) h
  kind_none (D.boolean b) slot h = bool_none b (form_of rows slot) h
  kind_none (D.integer n) slot h = int_none n (form_of rows slot) h
  kind_none (D.text s) slot h = text_none s (form_of rows slot) h
  kind_none (D.bytes s) slot h = bytes_none s (form_of rows slot) h
  kind_none (D.list ds) slot h = list_none (D.list ds) (λ elem. meant_items rows is_key elem ds) (form_of rows slot) h
  kind_none (D.map ms) slot h = map_none is_key ms (R ms) (form_of rows slot) h
  kind_none (D.link s) slot h = link_none s (form_of rows slot) h

  -- ---- names, and fields that are missing

  name_none : (f : Option TypeDef) (ms : Members) → breaks_name f (D.map ms) ≡ true → map_by is_key ms (R ms) f ≡ None
  name_none (Some (T.Struct s)) ms h = ap (λ b. if_named b (fields_by s.fields (R ms))) (not_false (are_named s.fields ms) h)
  name_none (Some (T.Unit form)) no_members h = absurd cc
  name_none (Some (T.Unit form)) (member k d ms) h = refl
  name_none f ms h = absurd cc

  field_missing : (f : Field) (ms : Members) → lacks ms f ≡ true → field_of f (value_at f.name (R ms)) ≡ None
  field_missing f ms h =
      let a = and_parts (not f.optional && is_none f.implicit) (is_none (value_at f.name (members_list ms))) h in
      let b = and_parts (not f.optional) (is_none f.implicit) a.0 in
      let gone : value_at f.name (R ms) ≡ None = reading_at rows is_key ms f.name ∙ ap (option_map (λ d slot. M slot d)) (none_is (value_at f.name (members_list ms)) a.1) in
      ap (field_of f) gone ∙ ap (λ o. or_implicit o f.optional) (none_is f.implicit b.1) ∙ ap (or_implicit None) (not_false f.optional b.0)

  fields_missing_at : (f : Field) (fs : List Field) (ms : Members) (b : Bool) → lacks ms f ≡ b → (b || list_any (lacks ms) fs) ≡ true → (list_any (lacks ms) fs ≡ true → fields_by fs (R ms) ≡ None)
      → fields_by (f ∷ fs) (R ms) ≡ None
  fields_missing_at f fs ms true e h rest = ap (λ o. and_fields o (fields_by fs (R ms))) (field_missing f ms e)
  fields_missing_at f fs ms false e h rest = ap (and_fields (field_of f (value_at f.name (R ms)))) (rest h) ∙ fields_none (field_of f (value_at f.name (R ms)))

  fields_missing : (fs : List Field) (ms : Members) → list_any (lacks ms) fs ≡ true → fields_by fs (R ms) ≡ None
  fields_missing [] ms h = absurd cc
  fields_missing (f ∷ fs) ms h = fields_missing_at f fs ms (lacks ms f) refl h (λ g. fields_missing fs ms g)

  struct_none : (s : List Field) (ms : Members) → fields_by s (R ms) ≡ None → if_named (are_named s ms) (fields_by s (R ms)) ≡ None
  struct_none s ms h = ap (if_named (are_named s ms)) h ∙ unless_named (are_named s ms)

  missing_none : (f : Option TypeDef) (ms : Members) → breaks_missing f (D.map ms) ≡ true → map_by is_key ms (R ms) f ≡ None
  missing_none (Some (T.Struct s)) ms h = struct_none s.fields ms (fields_missing s.fields ms h)
  missing_none f ms h = absurd cc

  -- ---- members

  text_member_none : (f : Option TypeDef) (s : List ℕ) → breaks_member f (D.text s) ≡ true → text_by s f ≡ None
  text_member_none (Some (T.Enum e)) s h = ap (option_map (λ n. enum n)) (none_is (enum_named s e.members) h)
  text_member_none f s h = absurd cc

  not_not : (b : Bool) → not (not b) ≡ true → b ≡ true
  not_not true h = refl
  not_not false h = absurd cc

  one_member_none : (members : List Member) (ms : Members) → not (is_member members ms) ≡ true → member_by members (R ms) ≡ None
  one_member_none members no_members h = refl
  one_member_none members (member k d no_members) h = ap (member_read (λ slot. M slot d)) (none_is (member_named k members) (not_not (is_none (member_named k members)) h))
  one_member_none members (member k d (member l e ms)) h = refl

  member_none : (f : Option TypeDef) (ms : Members) → breaks_member f (D.map ms) ≡ true → map_by is_key ms (R ms) f ≡ None
  member_none (Some (T.Union u)) ms h = one_member_none u.members ms h
  member_none f ms h = absurd cc

  -- ---- keys

  keys_none_at : (key : ℕ) (elem : Slot) (k : List ℕ) (d : Data) (ms : Members) (b : Bool) → is_key key k ≡ b → (not b || list_any (λ (m : List ℕ × Data). not (is_key key m.0)) (members_list ms)) ≡ true
      → (list_any (λ (m : List ℕ × Data). not (is_key key m.0)) (members_list ms) ≡ true → pairs_by (is_key key) elem (R ms) ≡ None) → and_pairs b k (M elem d) (pairs_by (is_key key) elem (R ms)) ≡ None
  keys_none_at key elem k d ms true e h rest = ap (and_pairs true k (M elem d)) (rest h) ∙ pairs_none true k (M elem d)
  keys_none_at key elem k d ms false e h rest = refl

  keys_none : (key : ℕ) (elem : Slot) (ms : Members) → list_any (λ (m : List ℕ × Data). not (is_key key m.0)) (members_list ms) ≡ true → pairs_by (is_key key) elem (R ms) ≡ None
  keys_none key elem no_members h = absurd cc
  keys_none key elem (member k d ms) h = keys_none_at key elem k d ms (is_key key k) refl h (λ g. keys_none key elem ms g)

  key_none : (f : Option TypeDef) (ms : Members) → breaks_key is_key f (D.map ms) ≡ true → map_by is_key ms (R ms) f ≡ None
  key_none (Some (T.Map key key_at elem place form)) ms h = ap (option_map (λ ps. map ps)) (keys_none key.0 elem ms h)
  key_none f ms h = absurd cc

  -- ---- whatever rule is broken

  name_only : (f : Option TypeDef) (t : Data) (slot : Slot) → form_of rows slot ≡ f → breaks_name f t ≡ true → M slot t ≡ None
  name_only f (D.map ms) slot e h = ap (map_by is_key ms (R ms)) e ∙ name_none f ms h
  name_only (Some (T.Struct s)) t slot e h = absurd cc
  name_only (Some (T.Unit form)) t slot e h = absurd cc
  name_only f t slot e h = absurd cc

  missing_only : (f : Option TypeDef) (t : Data) (slot : Slot) → form_of rows slot ≡ f → breaks_missing f t ≡ true → M slot t ≡ None
  missing_only f (D.map ms) slot e h = ap (map_by is_key ms (R ms)) e ∙ missing_none f ms h
  missing_only (Some (T.Struct s)) t slot e h = absurd cc
  missing_only f t slot e h = absurd cc

  member_only : (f : Option TypeDef) (t : Data) (slot : Slot) → form_of rows slot ≡ f → breaks_member f t ≡ true → M slot t ≡ None
  member_only f (D.map ms) slot e h = ap (map_by is_key ms (R ms)) e ∙ member_none f ms h
  member_only f (D.text s) slot e h = ap (text_by s) e ∙ text_member_none f s h
  member_only (Some (T.Enum e)) t slot e' h = absurd cc
  member_only (Some (T.Union u)) t slot e h = absurd cc
  member_only f t slot e h = absurd cc

  key_only : (f : Option TypeDef) (t : Data) (slot : Slot) → form_of rows slot ≡ f → breaks_key is_key f t ≡ true → M slot t ≡ None
  key_only f (D.map ms) slot e h = ap (map_by is_key ms (R ms)) e ∙ key_none f ms h
  key_only (Some (T.Map key key_at elem place form)) t slot e h = absurd cc
  key_only f t slot e h = absurd cc

  pub broken_none : (t : Data) (slot : Slot) (r : Rule) → breaks rows is_key slot t r ≡ true → M slot t ≡ None
  broken_none t slot Kind h = kind_none t slot (not_false (is_kind rows slot t) h)
  broken_none t slot Name h = name_only (form_of rows slot) t slot refl h
  broken_none t slot Missing h = missing_only (form_of rows slot) t slot refl h
  broken_none t slot MemberRule h = member_only (form_of rows slot) t slot refl h
  broken_none t slot Key h = key_only (form_of rows slot) t slot refl h

  -- ---- a part that means nothing

  item_none : (ds : Items) (elem : Slot) (i : ℕ) (p : Slot × Data) → slice_get (list_map (λ d. (elem, d)) (items_list ds)) i ≡ Some p → M p.0 p.1 ≡ None → meant_items rows is_key elem ds ≡ None
  item_none no_items elem i p h n = absurd (none-some p h)
  item_none (item d ds) elem zero p h n =
      let same : (elem, d) ≡ p = same_Some (elem, d) p h in
      ap (λ o. and_others o (meant_items rows is_key elem ds)) ((λ i. M ((same i).0) ((same i).1)) ∙ n)
  item_none (item d ds) elem (suc i) p h n = ap (and_others (M elem d)) (item_none ds elem i p h n) ∙ others_none (M elem d)

  value_none : (key : ℕ) (ms : Members) (elem : Slot) (i : ℕ) (p : Slot × Data) → slice_get (parts_named (λ k. Some elem) ms) i ≡ Some p → M p.0 p.1 ≡ None → pairs_by (is_key key) elem (R ms) ≡ None
  value_none key no_members elem i p h n = absurd (none-some p h)
  value_none key (member k d ms) elem zero p h n =
      let same : (elem, d) ≡ p = same_Some (elem, d) p h in
      ap (λ o. and_pairs (is_key key k) k o (pairs_by (is_key key) elem (R ms))) ((λ i. M ((same i).0) ((same i).1)) ∙ n) ∙ pair_none (is_key key k) k (pairs_by (is_key key) elem (R ms))
  value_none key (member k d ms) elem (suc i) p h n =
      ap (and_pairs (is_key key k) k (M elem d)) (value_none key ms elem i p h n) ∙ pairs_none (is_key key k) k (M elem d)

  -- the entry of a part under a name
  pub record IsUnder (slot : List ℕ → Option Slot) (ms : Members) (p : Slot × Data) : Type 0 where
    pub name : List ℕ
    pub has : slot name ≡ Some p.0
    pub there : value_at name (members_list ms) ≡ Some p.1

  under_more : (slot : List ℕ → Option Slot) (j : List ℕ) (d : Data) (ms : Members) (p : Slot × Data) → AreEntries (member j d ms) → IsUnder slot ms p → IsUnder slot (member j d ms) p
  under_more slot j d ms p all u = record { name = u.name; has = u.has; there = by (same_text u.name j) refl }
    where
      by : (b : Bool) → b ≡ same_text u.name j → cond b (Some d) (value_at u.name (members_list ms)) ≡ Some p.1
      by true e = absurd (none-some p.1 (sym (below_absent j (members_list ms) all.2 (entries_rise ms all.3)) ∙ ap (λ k. value_at k (members_list ms)) (sym (text_same u.name j e)) ∙ u.there))
      by false e = u.there

  under_here : (slot : List ℕ → Option Slot) (j : List ℕ) (d : Data) (ms : Members) (p : Slot × Data) (s : Slot) → slot j ≡ Some s → (s, d) ≡ p → IsUnder slot (member j d ms) p
  under_here slot j d ms p s e same = record {
    name = j;
    has = e ∙ ap Some (λ i. (same i).0);
    there = ap (λ b. cond b (Some d) (value_at j (members_list ms))) (own_text j) ∙ ap Some (λ i. (same i).1);
  }

  under_by : (slot : List ℕ → Option Slot) (j : List ℕ) (d : Data) (ms : Members) (i : ℕ) (p : Slot × Data) (o : Option Slot) → slot j ≡ o → AreEntries (member j d ms)
      → slice_get (with_part o d (parts_named slot ms)) i ≡ Some p → ((i : ℕ) → slice_get (parts_named slot ms) i ≡ Some p → IsUnder slot ms p) → IsUnder slot (member j d ms) p
  under_by slot j d ms i p None e all h rest = under_more slot j d ms p all (rest i h)
  under_by slot j d ms zero p (Some s) e all h rest = under_here slot j d ms p s e (same_Some (s, d) p h)
  under_by slot j d ms (suc i) p (Some s) e all h rest = under_more slot j d ms p all (rest i h)

  pub under : (slot : List ℕ → Option Slot) (ms : Members) (i : ℕ) (p : Slot × Data) → AreEntries ms → slice_get (parts_named slot ms) i ≡ Some p → IsUnder slot ms p
  under slot no_members i p all h = absurd (none-some p h)
  under slot (member j d ms) i p all h = under_by slot j d ms i p (slot j) refl all h (λ k g. under slot ms k p all.3 g)

  field_none : (f : Field) (ms : Members) (d : Data) → value_at f.name (members_list ms) ≡ Some d → M f.slot d ≡ None → field_of f (value_at f.name (R ms)) ≡ None
  field_none f ms d h n = ap (field_of f) (reading_at rows is_key ms f.name ∙ ap (option_map (λ d slot. M slot d)) h) ∙ ap (option_map Some) n

  fields_none_at : (k : List ℕ) (f : Field) (fs : List Field) (ms : Members) (p : Slot × Data) (b : Bool) → b ≡ same_text k f.name → cond b (Some f.slot) (slot_named k fs) ≡ Some p.0
      → value_at k (members_list ms) ≡ Some p.1 → M p.0 p.1 ≡ None → (slot_named k fs ≡ Some p.0 → fields_by fs (R ms) ≡ None) → fields_by (f ∷ fs) (R ms) ≡ None
  fields_none_at k f fs ms p true e h there n rest =
      let slot : f.slot ≡ p.0 = same_Some f.slot p.0 h in
      ap (λ o. and_fields o (fields_by fs (R ms)))
      (field_none f ms p.1 (ap (λ j. value_at j (members_list ms)) (sym (text_same k f.name e)) ∙ there) (ap (λ s. M s p.1) slot ∙ n))
  fields_none_at k f fs ms p false e h there n rest = ap (and_fields (field_of f (value_at f.name (R ms)))) (rest h) ∙ fields_none (field_of f (value_at f.name (R ms)))

  fields_none_by : (k : List ℕ) (fs : List Field) (ms : Members) (p : Slot × Data) → slot_named k fs ≡ Some p.0 → value_at k (members_list ms) ≡ Some p.1 → M p.0 p.1 ≡ None → fields_by fs (R ms) ≡ None
  fields_none_by k [] ms p h there n = absurd (none-some p.0 h)
  fields_none_by k (f ∷ fs) ms p h there n = fields_none_at k f fs ms p (same_text k f.name) refl h there n (λ g. fields_none_by k fs ms p g there n)

  member_part_none : (members : List Member) (k : List ℕ) (d : Data) (i : ℕ) (p : Slot × Data) (o : Option (ℕ × Member)) → member_named k members ≡ o
      → slice_get (with_part (option_map (λ (p : ℕ × Member). plainly (p.1).ty) o) d []) i ≡ Some p → M p.0 p.1 ≡ None → member_read (λ slot. M slot d) o ≡ None
  member_part_none members k d i p None e h n = refl
  member_part_none members k d zero p (Some m) e h n =
      let same : (plainly (m.1).ty, d) ≡ p = same_Some (plainly (m.1).ty, d) p h in
      ap (option_map (λ v. union m.0 v)) ((λ i. M ((same i).0) ((same i).1)) ∙ n)
  member_part_none members k d (suc i) p (Some m) e h n = absurd (none-some p h)

  union_part_none : (members : List Member) (ms : Members) (i : ℕ) (p : Slot × Data) → slice_get (parts_named (member_slot members) ms) i ≡ Some p → M p.0 p.1 ≡ None → member_by members (R ms) ≡ None
  union_part_none members no_members i p h n = refl
  union_part_none members (member k d no_members) i p h n = member_part_none members k d i p (member_named k members) refl h n
  union_part_none members (member k d (member l e ms)) i p h n = refl

  list_part_none : (f : Option TypeDef) (ds : Items) (i : ℕ) (p : Slot × Data) → slice_get (list_parts f ds) i ≡ Some p → M p.0 p.1 ≡ None → list_by (D.list ds) (λ elem. meant_items rows is_key elem ds) f ≡ None
  list_part_none (Some (T.List elem place)) ds i p h n = ap (option_map (λ vs. list vs)) (item_none ds elem i p h n)
  list_part_none f ds i p h n = absurd (none-some p h)

  map_part_none : (f : Option TypeDef) (ms : Members) (i : ℕ) (p : Slot × Data) → AreEntries ms → slice_get (map_parts f ms) i ≡ Some p → M p.0 p.1 ≡ None → map_by is_key ms (R ms) f ≡ None
  map_part_none (Some (T.Map key key_at elem place form)) ms i p all h n = ap (option_map (λ ps. map ps)) (value_none key.0 ms elem i p h n)
  map_part_none (Some (T.Struct s)) ms i p all h n =
      let u = under (λ k. slot_named k s.fields) ms i p all h in
      struct_none s.fields ms (fields_none_by u.name s.fields ms p u.has u.there n)
  map_part_none (Some (T.Union u)) ms i p all h n = union_part_none u.members ms i p h n
  map_part_none f ms i p all h n = absurd (none-some p h)

  part_none : (t : Data) (slot : Slot) (i : ℕ) (p : Slot × Data) → IsTree t → slice_get (parts_of rows slot t) i ≡ Some p → M p.0 p.1 ≡ None → M slot t ≡ None
  part_none D.null slot i p tree h n = absurd (none-some p h)
  part_none (D.boolean b) slot i p tree h n = absurd (none-some p h)
  part_none (D.integer k) slot i p tree h n = absurd (none-some p h)
  part_none (D.text s) slot i p tree h n = absurd (none-some p h)
  part_none (D.bytes s) slot i p tree h n = absurd (none-some p h)
  part_none (D.list ds) slot i p tree h n = list_part_none (form_of rows slot) ds i p h n
  part_none (D.map ms) slot i p tree h n = map_part_none (form_of rows slot) ms i p tree h n
  part_none (D.link s) slot i p tree h n = absurd (none-some p h)

  -- ---- a part of a tree is a tree

  item_tree : (ds : Items) (elem : Slot) (i : ℕ) (p : Slot × Data) → AreTrees ds → slice_get (list_map (λ d. (elem, d)) (items_list ds)) i ≡ Some p → IsTree p.1
  item_tree no_items elem i p all h = absurd (none-some p h)
  item_tree (item d ds) elem zero p all h = subst IsTree (λ i. (same_Some (elem, d) p h i).1) all.0
  item_tree (item d ds) elem (suc i) p all h = item_tree ds elem i p all.1 h

  list_tree : (f : Option TypeDef) (ds : Items) (i : ℕ) (p : Slot × Data) → AreTrees ds → slice_get (list_parts f ds) i ≡ Some p → IsTree p.1
  list_tree (Some (T.List elem place)) ds i p all h = item_tree ds elem i p all h
  list_tree f ds i p all h = absurd (none-some p h)

  named_tree : (slot : List ℕ → Option Slot) (ms : Members) (i : ℕ) (p : Slot × Data) → AreEntries ms → slice_get (parts_named slot ms) i ≡ Some p → IsTree p.1
  named_tree slot ms i p all h = let u = under slot ms i p all h in tree_at u.name ms p.1 all u.there

  map_tree : (f : Option TypeDef) (ms : Members) (i : ℕ) (p : Slot × Data) → AreEntries ms → slice_get (map_parts f ms) i ≡ Some p → IsTree p.1
  map_tree (Some (T.Map key key_at elem place form)) ms i p all h = named_tree (λ k. Some elem) ms i p all h
  map_tree (Some (T.Struct s)) ms i p all h = named_tree (λ k. slot_named k s.fields) ms i p all h
  map_tree (Some (T.Union u)) ms i p all h = named_tree (member_slot u.members) ms i p all h
  map_tree f ms i p all h = absurd (none-some p h)

  part_tree : (t : Data) (slot : Slot) (i : ℕ) (p : Slot × Data) → IsTree t → slice_get (parts_of rows slot t) i ≡ Some p → IsTree p.1
  part_tree D.null slot i p tree h = absurd (none-some p h)
  part_tree (D.boolean b) slot i p tree h = absurd (none-some p h)
  part_tree (D.integer k) slot i p tree h = absurd (none-some p h)
  part_tree (D.text s) slot i p tree h = absurd (none-some p h)
  part_tree (D.bytes s) slot i p tree h = absurd (none-some p h)
  part_tree (D.list ds) slot i p tree h = list_tree (form_of rows slot) ds i p tree h
  part_tree (D.map ms) slot i p tree h = map_tree (form_of rows slot) ms i p tree h
  part_tree (D.link s) slot i p tree h = absurd (none-some p h)

  below_none : (o : Option (Slot × Data)) (q : List ℕ) (part : Slot × Data) → option_and_then (λ r. part_by_numbers rows r q) o ≡ Some part → (r : Slot × Data) × (o ≡ Some r) × (part_by_numbers rows r q ≡ Some part)
  below_none None q part h = absurd (none-some part h)
  below_none (Some r) q part h = (r, refl, h)

  pub at_none : (q : List ℕ) (p part : Slot × Data) → IsTree p.1 → part_by_numbers rows p q ≡ Some part → M part.0 part.1 ≡ None → M p.0 p.1 ≡ None
  at_none [] p part tree h n = let same : p ≡ part = same_Some p part h in (λ i. M ((same i).0) ((same i).1)) ∙ n
  at_none (i ∷ q) p part tree h n =
      let x = below_none (slice_get (parts_of rows p.0 p.1) i) q part h in
      part_none p.1 p.0 i x.0 tree x.1 (at_none q x.0 part (part_tree p.1 p.0 i x.0 tree x.1) x.2 n)
