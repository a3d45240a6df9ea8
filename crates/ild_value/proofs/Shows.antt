-- From what the parts of a tree mean to what the tree means, and from what a part breaks to what the tree breaks.
use Rattle.std.proofs.Common.{◌≡◌, ◌⊎◌, inl, inr, ℕ, zero, suc, ◌<◌, List, [], ◌∷◌, length, get_or, Bool, true, false, not, map, slice_get, Option, Some, None, refl, ap, sym, ◌∙◌, subst, arith}
use Rattle.std.specs.Prelude.{◌&&◌, ◌↔◌, IsUtf8, is_none, option_map, option_and_then}
use Rattle.std.proofs.lemmas.Option.{same_Some, none-some, slice_get-map, slice_get_read}
use Rattle.ild_data.specs.Data as D
use Rattle.ild_data.specs.Data.{Data, Items, items_of, items_list, Members, no_members, member, members_of, members_list}
use Rattle.ild_data.specs.Key.{value_at}
use Rattle.ild_data.specs.Seen.{data_of, pair_of}
use Rattle.ild_data.specs.declared.tree.Tree.{Tree}
use Rattle.ild_data.proofs.Lists.{items_of-items_list, members_of-members_list}
use Rattle.ild_schema.specs.declared.def.TypeDef.TheVariants as T
use Rattle.ild_schema.specs.declared.def.StructDef.{StructDef}
use Rattle.ild_schema.specs.declared.def.UnionDef.{UnionDef}
use Rattle.ild_schema.specs.declared.def.Field.{Field}
use Rattle.ild_schema.specs.declared.def.Member.{Member as MemberDef}
use Rattle.ild_schema.specs.declared.number.Slot.{Slot}
use Rattle.ild_schema.specs.declared.number.TypeNo.{TypeNo}
use Rattle.ild_schema.specs.declared.row.Row.{Row}
use Rattle.ild_schema.specs.Slots.{form_of, plainly}
use Rattle.ild_schema.specs.Value as V
use Rattle.ild_schema.specs.Value.{Value, Values, values_of, values_list, Pairs, pairs_of, pairs_list, Optionals, optionals_of, optionals_list}
use Rattle.ild_typed.specs.Fits.{IsTextOf}
use Rattle.ild_typed.specs.OfType.{TestsKeys}
use Rattle.ild_typed.specs.Segment.{member_named}
use Rattle.ild_typed.specs.Strings.{cons_both}
use Rattle.ild_typed.specs.StructWhy.{must_stand}
use Rattle.ild_typed.proofs.OfKinds.{any_at}
use Rattle.ild_value_meaning.specs.Names.{slot_named, are_named}
use Rattle.ild_value_meaning.specs.MeantRead.{meant, meant_items, readings, list_by, map_by, and_others, and_pairs, pairs_by, and_fields, field_of, or_implicit, fields_by, if_named, member_read}
use Rattle.ild_value_meaning.specs.Mismatch.{Rule, Name, Missing, Member, Key, breaks_name, breaks_missing, breaks_member, breaks_key, is_member, lacks, parts_named, with_part, list_parts, map_parts, parts_of, part_by_numbers}
use Rattle.ild_value_meaning.proofs.Meanings.{reading_at}
use Rattle.ild_value_meaning.proofs.Mismatched.{found_at, AreFirst}
use Rattle.ild_value.specs.declared.fault.ShownErr.{ShownErr}
use Rattle.ild_value.specs.declared.fault.ShownErr.TheVariants as E
use Rattle.ild_value.specs.declared.fault.ShownRule.TheVariants as R
use Rattle.ild_value.specs.Readings.{Breaks, IsRefused, IsListOf, IsMapOf, IsUnit, rule_of}
use Rattle.ild_value.specs.inside.Parts.{only_member, FieldMeans, IsFieldRefused, IsReadAs}
use Rattle.ild_value.proofs.AllOf.{all_of}
use Rattle.ild_value_shown.proofs.Fronts.{values_of-values_list, pairs_of-pairs_list, optionals_of-optionals_list}
use Rattle.ild_value.proofs.Leaves.{own}

-- ---- from a part to the whole

beneath : (rows : List Row) (slot : Slot) (t : Data) (i : ℕ) (p : Slot × Data) (ty : TypeNo) (rule : Rule) → slice_get (parts_of rows slot t) i ≡ Some p → Breaks rows p.0 p.1 ty rule → Breaks rows slot t ty rule
beneath rows slot t i p ty rule e b = record {
  told = λ is_key tests.
      let m = b.told is_key tests in
      record {
        at = i ∷ m.at;
        part = m.part;
        there = ap (option_and_then (λ r. part_by_numbers rows r m.at)) e ∙ m.there;
        type = m.type;
        broken = m.broken;
      };
}

pub refused_beneath : (rows : List Row) (slot : Slot) (t : Data) (i : ℕ) (p : Slot × Data) (e : ShownErr) → slice_get (parts_of rows slot t) i ≡ Some p → IsRefused rows p.0 p.1 e → IsRefused rows slot t e
refused_beneath rows slot t i p (E.Mismatch ty rule) at h = beneath rows slot t i p ty (rule_of rule) at h
refused_beneath rows slot t i p E.Memory at h = tt

refused_same : (rows : List Row) (slot : Slot) (t : Data) (e f : ShownErr) → e ≡ f → IsRefused rows slot t f → IsRefused rows slot t e
refused_same rows slot t e f same h = subst (IsRefused rows slot t) (sym same) h

-- ---- lists

abbrev pub read_item : List Row → (ℕ → List ℕ → Bool) → Slot → Tree → Option Value
read_item rows is_key elem t = meant rows is_key elem (data_of t)

others : (o : Option Value) (q : Option (List Value)) → and_others o (option_map values_of q) ≡ option_map values_of (cons_both o q)
others None q = refl
others (Some v) None = refl
others (Some v) (Some vs) = refl

items_read : (rows : List Row) (is_key : ℕ → List ℕ → Bool) (elem : Slot) (ts : List Tree) → meant_items rows is_key elem (items_of (map data_of ts)) ≡ option_map values_of (all_of (read_item rows is_key elem) ts)
items_read rows is_key elem [] = refl
items_read rows is_key elem (t ∷ ts) = ap (and_others (read_item rows is_key elem t)) (items_read rows is_key elem ts) ∙ others (read_item rows is_key elem t) (all_of (read_item rows is_key elem) ts)

pub list_means : (rows : List Row) (slot elem : Slot) (ts : List Tree) (ds : Items) (vs : Values) → IsListOf rows slot elem → map data_of ts ≡ items_list ds
    → ((is_key : ℕ → List ℕ → Bool) → TestsKeys rows is_key → all_of (read_item rows is_key elem) ts ≡ Some (values_list vs)) → IsReadAs rows slot (D.list ds) (V.list vs)
list_means rows slot elem ts ds vs l seen all = record {
  read = λ is_key tests.
      let items : ds ≡ items_of (map data_of ts) = sym (items_of-items_list ds) ∙ ap items_of (sym seen) in
      let vals = ap (meant_items rows is_key elem) items ∙ items_read rows is_key elem ts ∙ ap (option_map values_of) (all is_key tests) in
      ap (λ f. list_by (D.list ds) (λ e. meant_items rows is_key e ds) f) l.form ∙ ap (option_map V.list) vals ∙ ap (λ ws. Some (V.list ws)) (values_of-values_list vs);
}

pub list_refused : (rows : List Row) (slot elem : Slot) (ts : List Tree) (ds : Items) (i : ℕ) (t : Tree) (e : ShownErr) → IsListOf rows slot elem → map data_of ts ≡ items_list ds → i < length ts → t ≡ get_or ts i t
    → IsRefused rows elem (data_of t) e → IsRefused rows slot (D.list ds) e
list_refused rows slot elem ts ds i t e l seen low is h =
    let item = slice_get-map data_of ts i ∙ ap (option_map data_of) (slice_get_read ts (length ts) i t refl low is) in
    let there : slice_get (map (λ (d : Data). (elem, d)) (items_list ds)) i ≡ Some (elem, data_of t) =
    slice_get-map (λ (d : Data). (elem, d)) (items_list ds) i ∙ ap (option_map (λ (d : Data). (elem, d))) (ap (λ xs. slice_get xs i) (sym seen) ∙ item) in
    refused_beneath rows slot (D.list ds) i (elem, data_of t) e (ap (λ f. slice_get (list_parts f ds) i) l.form ∙ there) h

-- ---- maps

abbrev pub with_key : Bool → List ℕ → Option Value → Option (List ℕ × Value)
with_key true k o = option_map (λ v. (k, v)) o
with_key false k o = None

abbrev pub read_pair : List Row → (ℕ → List ℕ → Bool) → TypeNo → Slot → List ℕ × Tree → Option (List ℕ × Value)
read_pair rows is_key key elem p = with_key (is_key key.0 p.0) p.0 (meant rows is_key elem (data_of p.1))

entries : (b : Bool) (k : List ℕ) (o : Option Value) (q : Option (List (List ℕ × Value))) → and_pairs b k o (option_map pairs_of q) ≡ option_map pairs_of (cons_both (with_key b k o) q)
entries true k None q = refl
entries true k (Some v) None = refl
entries true k (Some v) (Some vs) = refl
entries false k o q = refl

pairs_read : (rows : List Row) (is_key : ℕ → List ℕ → Bool) (key : TypeNo) (elem : Slot) (ps : List (List ℕ × Tree))
    → pairs_by (is_key key.0) elem (readings rows is_key (members_of (map pair_of ps))) ≡ option_map pairs_of (all_of (read_pair rows is_key key elem) ps)
pairs_read rows is_key key elem [] = refl
pairs_read rows is_key key elem (p ∷ ps) =
    let v = meant rows is_key elem (data_of p.1) in
    ap (and_pairs (is_key key.0 p.0) p.0 v) (pairs_read rows is_key key elem ps) ∙ entries (is_key key.0 p.0) p.0 v (all_of (read_pair rows is_key key elem) ps)

pub map_means : (rows : List Row) (slot : Slot) (key : TypeNo) (elem : Slot) (ps : List (List ℕ × Tree)) (ms : Members) (vs : Pairs) → IsMapOf rows slot key elem → map pair_of ps ≡ members_list ms
    → ((is_key : ℕ → List ℕ → Bool) → TestsKeys rows is_key → all_of (read_pair rows is_key key elem) ps ≡ Some (pairs_list vs)) → IsReadAs rows slot (D.map ms) (V.map vs)
map_means rows slot key elem ps ms vs l seen all = record {
  read = λ is_key tests.
      let members : ms ≡ members_of (map pair_of ps) = sym (members_of-members_list ms) ∙ ap members_of (sym seen) in
      let vals = ap (λ ns. pairs_by (is_key key.0) elem (readings rows is_key ns)) members ∙ pairs_read rows is_key key elem ps ∙ ap (option_map pairs_of) (all is_key tests) in
      ap (λ f. map_by is_key ms (readings rows is_key ms) f) l.form ∙ ap (option_map V.map) vals ∙ ap (λ ws. Some (V.map ws)) (pairs_of-pairs_list vs);
}

each_value : (elem : Slot) (ms : Members) → parts_named (λ k. Some elem) ms ≡ map (λ (m : List ℕ × Data). (elem, m.1)) (members_list ms)
each_value elem no_members = refl
each_value elem (member k d ms) = ap (λ ps. (elem, d) ∷ ps) (each_value elem ms)

entry_at : (ps : List (List ℕ × Tree)) (ms : Members) (i : ℕ) (p : List ℕ × Tree) → map pair_of ps ≡ members_list ms → i < length ps → p ≡ get_or ps i p → slice_get (members_list ms) i ≡ Some (pair_of p)
entry_at ps ms i p seen low is = ap (λ xs. slice_get xs i) (sym seen) ∙ slice_get-map pair_of ps i ∙ ap (option_map pair_of) (slice_get_read ps (length ps) i p refl low is)

pub map_refused : (rows : List Row) (slot : Slot) (key : TypeNo) (elem : Slot) (ps : List (List ℕ × Tree)) (ms : Members) (i : ℕ) (p : List ℕ × Tree) (e : ShownErr) → IsMapOf rows slot key elem → map pair_of ps ≡ members_list ms → i < length ps
    → p ≡ get_or ps i p → IsRefused rows elem (data_of p.1) e → IsRefused rows slot (D.map ms) e
map_refused rows slot key elem ps ms i p e l seen low is h =
    let there : slice_get (parts_named (λ k. Some elem) ms) i ≡ Some (elem, data_of p.1) =
    ap (λ xs. slice_get xs i) (each_value elem ms) ∙ slice_get-map (λ (m : List ℕ × Data). (elem, m.1)) (members_list ms) i ∙ ap (option_map (λ (m : List ℕ × Data). (elem, m.1))) (entry_at ps ms i p seen low is) in
    refused_beneath rows slot (D.map ms) i (elem, data_of p.1) e (ap (λ f. slice_get (map_parts f ms) i) l.form ∙ there) h

-- a test of keys tells what a call told
pub key_same : (rows : List Row) (is_key : ℕ → List ℕ → Bool) → TestsKeys rows is_key → (key : TypeNo) (k : List ℕ) (b : Bool) → IsUtf8 k → (b ≡ true) ↔ IsTextOf rows key k → is_key key.0 k ≡ b
key_same rows is_key tests key k b utf8 h = by (is_key key.0 k) b refl h
  where
    by : (c b : Bool) → is_key key.0 k ≡ c → (b ≡ true) ↔ IsTextOf rows key k → c ≡ b
    by true true e h = refl
    by true false e h = sym (h.1 (((tests key k).0 e).1))
    by false true e h = sym e ∙ (tests key k).1 (utf8, h.0 refl)
    by false false e h = refl

pub key_refused : (rows : List Row) (slot : Slot) (key : TypeNo) (elem : Slot) (ps : List (List ℕ × Tree)) (ms : Members) (i : ℕ) (p : List ℕ × Tree) (b : Bool) → IsMapOf rows slot key elem → map pair_of ps ≡ members_list ms → i < length ps
    → p ≡ get_or ps i p → IsUtf8 p.0 → (b ≡ true) ↔ IsTextOf rows key p.0 → b ≡ false → Breaks rows slot (D.map ms) slot.ty Key
key_refused rows slot key elem ps ms i p b l seen low is utf8 h wrong = record {
  told = λ is_key tests. record {
    at = [];
    part = (slot, D.map ms);
    there = refl;
    type = refl;
    broken = ap (λ f. breaks_key is_key f (D.map ms)) l.form
        ∙ any_at (λ (m : List ℕ × Data). not (is_key key.0 m.0)) (members_list ms) i (pair_of p) (entry_at ps ms i p seen low is) (ap not (key_same rows is_key tests key p.0 b utf8 h ∙ wrong));
  };
}

pub key_read : (rows : List Row) (is_key : ℕ → List ℕ → Bool) → TestsKeys rows is_key → (key : TypeNo) (elem : Slot) (p : List ℕ × Tree) (v : Value) (b : Bool) → IsUtf8 p.0 → (b ≡ true) ↔ IsTextOf rows key p.0 → b ≡ true → IsReadAs rows elem (data_of p.1) v
    → read_pair rows is_key key elem p ≡ Some (p.0, v)
key_read rows is_key tests key elem p v b utf8 h right m =
    ap (λ b. with_key b p.0 (meant rows is_key elem (data_of p.1))) (key_same rows is_key tests key p.0 b utf8 h ∙ right) ∙ ap (option_map (λ v. (p.0, v))) (m.read is_key tests)

-- ---- units

pub unit_means : (rows : List Row) (slot : Slot) (ms : Members) → IsUnit rows slot → length (members_list ms) ≡ 0 → IsReadAs rows slot (D.map ms) V.unit
unit_means rows slot no_members u h = record { read = λ is_key tests. ap (λ f. map_by is_key no_members (readings rows is_key no_members) f) u.form }
unit_means rows slot (member k d ms) u h = absurd (omega (arith, h))

pub unit_refused : (rows : List Row) (slot : Slot) (ms : Members) (n : ℕ) → IsUnit rows slot → n ≡ length (members_list ms) → 0 < n → Breaks rows slot (D.map ms) slot.ty Name
unit_refused rows slot no_members n u e h = absurd (omega (arith, h, e))
unit_refused rows slot (member k d ms) n u e h = own rows slot (D.map (member k d ms)) Name (λ is_key. ap (λ f. breaks_name f (D.map (member k d ms))) u.form)

-- ---- structs

abbrev pub read_field : List Row → (ℕ → List ℕ → Bool) → Members → Field → Option (Option Value)
read_field rows is_key ms f = field_of f (value_at f.name (readings rows is_key ms))

all_fields : (o : Option (Option Value)) (q : Option (List (Option Value))) → and_fields o (option_map optionals_of q) ≡ option_map optionals_of (cons_both o q)
all_fields None q = refl
all_fields (Some v) None = refl
all_fields (Some v) (Some vs) = refl

fields_read : (rows : List Row) (is_key : ℕ → List ℕ → Bool) (ms : Members) (fs : List Field) → fields_by fs (readings rows is_key ms) ≡ option_map optionals_of (all_of (read_field rows is_key ms) fs)
fields_read rows is_key ms [] = refl
fields_read rows is_key ms (f ∷ fs) = ap (and_fields (read_field rows is_key ms f)) (fields_read rows is_key ms fs) ∙ all_fields (read_field rows is_key ms f) (all_of (read_field rows is_key ms) fs)

pub struct_means : (rows : List Row) (slot : Slot) (s : StructDef) (ms : Members) (os : Optionals) → form_of rows slot ≡ Some (T.Struct s) → are_named s.fields ms ≡ true
    → ((is_key : ℕ → List ℕ → Bool) → TestsKeys rows is_key → all_of (read_field rows is_key ms) s.fields ≡ Some (optionals_list os)) → IsReadAs rows slot (D.map ms) (V.struct os)
struct_means rows slot s ms os form named all = record {
  read = λ is_key tests.
      let vals = fields_read rows is_key ms s.fields ∙ ap (option_map optionals_of) (all is_key tests) in
      ap (λ f. map_by is_key ms (readings rows is_key ms) f) form ∙ ap (λ b. if_named b (fields_by s.fields (readings rows is_key ms))) named ∙ ap (option_map V.struct) vals
      ∙ ap (λ ws. Some (V.struct ws)) (optionals_of-optionals_list os);
}

pub name_refused : (rows : List Row) (slot : Slot) (s : StructDef) (ms : Members) → form_of rows slot ≡ Some (T.Struct s) → are_named s.fields ms ≡ false → Breaks rows slot (D.map ms) slot.ty Name
name_refused rows slot s ms form h = own rows slot (D.map ms) Name (λ is_key. ap (λ f. breaks_name f (D.map ms)) form ∙ ap not h)

first_at : (all fs : List Field) (i : ℕ) (f : Field) → AreFirst all fs → slice_get fs i ≡ Some f → slot_named f.name all ≡ Some f.slot
first_at all [] i f h e = absurd (none-some f e)
first_at all (g ∷ fs) zero f h e = subst (λ k. slot_named k.name all ≡ Some k.slot) (same_Some g f e) h.0
first_at all (g ∷ fs) (suc i) f h e = first_at all fs i f h.1 e

pub field_refused : (rows : List Row) (slot : Slot) (s : StructDef) (ms : Members) (i : ℕ) (f : Field) (e : ShownErr) → form_of rows slot ≡ Some (T.Struct s) → AreFirst s.fields s.fields → slice_get s.fields i ≡ Some f
    → IsFieldRefused rows slot.ty f ms e → IsRefused rows slot (D.map ms) e
field_refused rows slot s ms i f e form first at (inl memory) = refused_same rows slot (D.map ms) e E.Memory memory tt
field_refused rows slot s ms i f e form first at (inr (inl p)) =
    let place = found_at (λ k. slot_named k s.fields) f.name f.slot ms p.value (first_at s.fields s.fields i f first at) p.there in
    refused_beneath rows slot (D.map ms) place.0 (f.slot, p.value) e (ap (λ g. slice_get (map_parts g ms) place.0) form ∙ place.1) p.refused
field_refused rows slot s ms i f e form first at (inr (inr m)) =
    refused_same rows slot (D.map ms) e (E.Mismatch slot.ty R.Missing) m.told
    (own rows slot (D.map ms) Missing (λ is_key. ap (λ g. breaks_missing g (D.map ms)) form ∙ any_at (lacks ms) s.fields i f at m.lacked))

pub field_there : (rows : List Row) (f : Field) (ms : Members) (d : Data) (v : Value) → Some d ≡ value_at f.name (members_list ms) → IsReadAs rows f.slot d v → FieldMeans rows f ms (Some v)
field_there rows f ms d v there m = record {
  read = λ is_key tests. ap (field_of f) (reading_at rows is_key ms f.name ∙ ap (option_map (λ d slot. meant rows is_key slot d)) (sym there)) ∙ ap (option_map (λ v. Some v)) (m.read is_key tests);
}

pub field_gone : (rows : List Row) (f : Field) (ms : Members) (o : Option Value) → None ≡ value_at f.name (members_list ms) → or_implicit f.implicit f.optional ≡ Some o → FieldMeans rows f ms o
field_gone rows f ms o gone left = record {
  read = λ is_key tests. ap (field_of f) (reading_at rows is_key ms f.name ∙ ap (option_map (λ d slot. meant rows is_key slot d)) (sym gone)) ∙ left;
}

pub field_missed : (rows : List Row) (ty : TypeNo) (f : Field) (ms : Members) (e : ShownErr) → None ≡ value_at f.name (members_list ms) → (e ≡ E.Memory) ⊎ ((e ≡ E.Mismatch ty R.Missing) × (must_stand f ≡ true)) → IsFieldRefused rows ty f ms e
field_missed rows ty f ms e gone (inl memory) = inl memory
field_missed rows ty f ms e gone (inr m) = inr (inr (record { told = m.0; lacked = ap (λ b. b && is_none (value_at f.name (members_list ms))) m.1 ∙ ap is_none (sym gone) }))

-- ---- unions

only_is : (ms : Members) (k : List ℕ) (d : Data) → Some (k, d) ≡ only_member ms → ms ≡ member k d no_members
only_is no_members k d h = absurd (none-some (k, d) (sym h))
only_is (member j c no_members) k d h = let same = same_Some (k, d) (j, c) h in (λ i. member ((sym same i).0) ((sym same i).1) no_members)
only_is (member j c (member l e ms)) k d h = absurd (none-some (k, d) (sym h))

pub union_means : (rows : List Row) (slot : Slot) (u : UnionDef) (ms : Members) (k : List ℕ) (d : Data) (n : ℕ) (m : MemberDef) (v : Value) → form_of rows slot ≡ Some (T.Union u) → Some (k, d) ≡ only_member ms
    → member_named k u.members ≡ Some (n, m) → IsReadAs rows (plainly m.ty) d v → IsReadAs rows slot (D.map ms) (V.union n v)
union_means rows slot u ms k d n m v form only named means = record {
  read = λ is_key tests.
      ap (λ ns. meant rows is_key slot (D.map ns)) (only_is ms k d only) ∙ ap (λ f. map_by is_key (member k d no_members) (readings rows is_key (member k d no_members)) f) form
      ∙ ap (member_read (λ s. meant rows is_key s d)) named ∙ ap (option_map (λ v. V.union n v)) (means.read is_key tests);
}

pub union_refused : (rows : List Row) (slot : Slot) (u : UnionDef) (ms : Members) (k : List ℕ) (d : Data) (n : ℕ) (m : MemberDef) (e : ShownErr) → form_of rows slot ≡ Some (T.Union u) → Some (k, d) ≡ only_member ms
    → member_named k u.members ≡ Some (n, m) → IsRefused rows (plainly m.ty) d e → IsRefused rows slot (D.map ms) e
union_refused rows slot u ms k d n m e form only named h =
    subst (λ ns. IsRefused rows slot (D.map ns) e) (sym (only_is ms k d only))
    (refused_beneath rows slot (D.map (member k d no_members)) 0 (plainly m.ty, d) e
    (ap (λ f. slice_get (map_parts f (member k d no_members)) 0) form ∙ ap (λ o. slice_get (with_part (option_map (λ (p : ℕ × MemberDef). plainly (p.1).ty) o) d []) 0) named) h)

member_breaks : (rows : List Row) (slot : Slot) (u : UnionDef) (ms : Members) → form_of rows slot ≡ Some (T.Union u) → is_member u.members ms ≡ false → Breaks rows slot (D.map ms) slot.ty Member
member_breaks rows slot u ms form h = own rows slot (D.map ms) Member (λ is_key. ap (λ f. breaks_member f (D.map ms)) form ∙ ap not h)

not_only : (members : List MemberDef) (ms : Members) → None ≡ only_member ms → is_member members ms ≡ false
not_only members no_members h = refl
not_only members (member k d no_members) h = absurd (none-some (k, d) h)
not_only members (member k d (member l e ms)) h = refl

pub many_refused : (rows : List Row) (slot : Slot) (u : UnionDef) (ms : Members) → form_of rows slot ≡ Some (T.Union u) → None ≡ only_member ms → Breaks rows slot (D.map ms) slot.ty Member
many_refused rows slot u ms form h = member_breaks rows slot u ms form (not_only u.members ms h)

pub stranger_refused : (rows : List Row) (slot : Slot) (u : UnionDef) (ms : Members) (k : List ℕ) (d : Data) → form_of rows slot ≡ Some (T.Union u) → Some (k, d) ≡ only_member ms → member_named k u.members ≡ None → Breaks rows slot (D.map ms) slot.ty Member
stranger_refused rows slot u ms k d form only named =
    member_breaks rows slot u ms form (ap (is_member u.members) (only_is ms k d only) ∙ ap (λ o. not (is_none o)) named)
