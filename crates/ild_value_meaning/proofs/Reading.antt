-- What the reading finds is shown by the data.
use Rattle.std.proofs.Common.{cond, ◌≡◌, inl, inr, ℕ, suc, List, [], ◌∷◌, slice_get, Bool, true, false, Option, Some, None, refl, ap, sym, subst, ◌∙◌}
use Rattle.std.specs.Prelude.{ℤ, option_map}
use Rattle.std.specs.Cmp.Lexicographic.{same_text as text_same}
use Rattle.std.proofs.lemmas.Option.{same_Some, none-some}
use Rattle.ild_data.proofs.Options.{chain_some, map_some}
use Rattle.ild_data.specs.Data as D
use Rattle.ild_data.specs.Data.{Data, Items, no_items, item, Members, no_members, member, members_list}
use Rattle.ild_data.specs.Key.{same_text, value_at}
use Rattle.ild_schema.specs.declared.def.TypeDef.{TypeDef}
use Rattle.ild_schema.specs.declared.def.TypeDef.TheVariants as T
use Rattle.ild_schema.specs.declared.def.Scalar.{Scalar}
use Rattle.ild_schema.specs.declared.def.Field.{Field}
use Rattle.ild_schema.specs.declared.def.Member.{Member}
use Rattle.ild_schema.specs.declared.def.EnumMember.{EnumMember}
use Rattle.ild_schema.specs.declared.number.Slot.{Slot}
use Rattle.ild_schema.specs.declared.row.Row.{Row}
use Rattle.ild_schema.specs.Value.{Value, null, boolean, integer, text, bytes, link, list, map, struct, union, enum, unit, any, Values, no_values, value, Pairs, no_pairs, pair, Optionals, no_optionals, optional}
use Rattle.ild_schema.specs.Slots.{form_of, plainly}
use Rattle.ild_typed.specs.Segment.{member_named}
use Rattle.ild_value_meaning.specs.Meant.{Meant, AreMeant, EntriesMeant, FieldsMeant, of_scalar}
use Rattle.ild_value_meaning.specs.Names.{are_named}
use Rattle.ild_value_meaning.specs.MeantRead.{meant, meant_items, readings, Reading, scalar_by, text_by, link_by, list_by, map_by, and_pairs, pairs_by, field_of, or_implicit, fields_by, if_named, member_read}
use Rattle.ild_value_meaning.specs.MeantLaws.{ReadIsMeant}
use Rattle.ild_value_meaning.specs.Names.{enum_named}
use Rattle.ild_value_meaning.proofs.Members.{member-named}

module _ (rows : List Row) (is_key : ℕ → List ℕ → Bool) where
  abbrev Sound : Data → Type 0
  Sound d = (slot : Slot) (v : Value) → meant rows is_key slot d ≡ Some v → Meant rows is_key slot d v

  abbrev AllSound : Members → Type 0
  AllSound no_members = Unit {0}
  AllSound (member k d ms) = Sound d × AllSound ms

  abbrev ItemsSound : Items → Type 0
  ItemsSound no_items = Unit {0}
  ItemsSound (item d ds) = Sound d × ItemsSound ds

  -- scalars
  null_sound : (slot : Slot) (v : Value) (b : Bool) → slot.nullable ≡ b → cond b (Some null) None ≡ Some v → Meant rows is_key slot D.null v
  null_sound slot v true e h = subst (λ w. Meant rows is_key slot D.null w) (same_Some null v h) (e, refl)
  null_sound slot v false e h = absurd (none-some v h)

  boolean_sound : (slot : Slot) (b : Bool) (v : Value) (f : Option TypeDef) → form_of rows slot ≡ f → scalar_by T.Bool (boolean b) (D.boolean b) f ≡ Some v → Meant rows is_key slot (D.boolean b) v
  boolean_sound slot b v (Some T.Bool) e h = subst (λ w. Meant rows is_key slot (D.boolean b) w) (same_Some (boolean b) v h) (e, refl)
  boolean_sound slot b v (Some T.Any) e h = subst (λ w. Meant rows is_key slot (D.boolean b) w) (same_Some (any (D.boolean b)) v h) (e, refl, refl)
  boolean_sound slot b v f e h = absurd (none-some v h)

  integer_sound : (slot : Slot) (n : ℤ) (v : Value) (f : Option TypeDef) → form_of rows slot ≡ f → scalar_by T.Int (integer n) (D.integer n) f ≡ Some v → Meant rows is_key slot (D.integer n) v
  integer_sound slot n v (Some T.Int) e h = subst (λ w. Meant rows is_key slot (D.integer n) w) (same_Some (integer n) v h) (e, refl)
  integer_sound slot n v (Some T.Any) e h = subst (λ w. Meant rows is_key slot (D.integer n) w) (same_Some (any (D.integer n)) v h) (e, refl, refl)
  integer_sound slot n v f e h = absurd (none-some v h)

  bytes_sound : (slot : Slot) (s : List ℕ) (v : Value) (f : Option TypeDef) → form_of rows slot ≡ f → scalar_by T.Bytes (bytes s) (D.bytes s) f ≡ Some v → Meant rows is_key slot (D.bytes s) v
  bytes_sound slot s v (Some T.Bytes) e h = subst (λ w. Meant rows is_key slot (D.bytes s) w) (same_Some (bytes s) v h) (e, refl)
  bytes_sound slot s v (Some T.Any) e h = subst (λ w. Meant rows is_key slot (D.bytes s) w) (same_Some (any (D.bytes s)) v h) (e, refl, refl)
  bytes_sound slot s v f e h = absurd (none-some v h)

  link_sound : (slot : Slot) (s : List ℕ) (v : Value) (f : Option TypeDef) → form_of rows slot ≡ f → link_by s f ≡ Some v → Meant rows is_key slot (D.link s) v
  link_sound slot s v (Some (T.Link target)) e h = subst (λ w. Meant rows is_key slot (D.link s) w) (same_Some (link s) v h) (target, e, refl)
  link_sound slot s v (Some T.Any) e h = subst (λ w. Meant rows is_key slot (D.link s) w) (same_Some (any (D.link s)) v h) (e, refl, refl)
  link_sound slot s v f e h = absurd (none-some v h)

  enum_at : (s : List ℕ) (m : EnumMember) (ms : List EnumMember) (n : ℕ) (b : Bool) → b ≡ same_text s m.name → cond b (Some 0) (option_map (λ n. suc n) (enum_named s ms)) ≡ Some n
      → ((k : ℕ) → enum_named s ms ≡ Some k → (m : EnumMember) × (slice_get ms k ≡ Some m) × (s ≡ m.name)) → (l : EnumMember) × (slice_get (m ∷ ms) n ≡ Some l) × (s ≡ l.name)
  enum_at s m ms n true e h rest = (m, ap (λ k. slice_get (m ∷ ms) k) (sym (same_Some 0 n h)), text_same s m.name e)
  enum_at s m ms n false e h rest =
      let x = map_some (λ n. suc n) (enum_named s ms) n h in
      let r = rest x.0 x.1 in
      (r.0, ap (λ k. slice_get (m ∷ ms) k) (sym x.2) ∙ r.1, r.2)

  enum_found : (s : List ℕ) (ms : List EnumMember) (n : ℕ) → enum_named s ms ≡ Some n → (m : EnumMember) × (slice_get ms n ≡ Some m) × (s ≡ m.name)
  enum_found s [] n h = absurd (none-some n h)
  enum_found s (m ∷ ms) n h = enum_at s m ms n (same_text s m.name) refl h (λ k g. enum_found s ms k g)

  text_sound : (slot : Slot) (s : List ℕ) (v : Value) (f : Option TypeDef) → form_of rows slot ≡ f → text_by s f ≡ Some v → Meant rows is_key slot (D.text s) v
  text_sound slot s v (Some T.Text) e h = subst (λ w. Meant rows is_key slot (D.text s) w) (same_Some (text s) v h) (e, refl)
  text_sound slot s v (Some (T.Enum en)) e h =
      let x = map_some (λ n. enum n) (enum_named s en.members) v h in
      let m = enum_found s en.members x.0 x.1 in
      subst (λ w. Meant rows is_key slot (D.text s) w) x.2 (en, m.0, e, m.1, ap D.text m.2)
  text_sound slot s v (Some T.Any) e h = subst (λ w. Meant rows is_key slot (D.text s) w) (same_Some (any (D.text s)) v h) (e, refl, refl)
  text_sound slot s v f e h = absurd (none-some v h)

  -- lists
  items_sound : (slot : Slot) (ds : Items) (vs : Values) → ItemsSound ds → meant_items rows is_key slot ds ≡ Some vs → AreMeant rows is_key slot ds vs
  items_sound slot no_items vs all h = subst (λ ws. AreMeant rows is_key slot no_items ws) (same_Some no_values vs h) refl
  items_sound slot (item d ds) vs all h =
      let x = chain_some (λ v. option_map (λ vs. value v vs) (meant_items rows is_key slot ds)) (meant rows is_key slot d) vs h in
      let y = map_some (λ vs. value x.0 vs) (meant_items rows is_key slot ds) vs x.2 in
      subst (λ ws. AreMeant rows is_key slot (item d ds) ws) y.2 (d, ds, refl, all.0 slot x.0 x.1, items_sound slot ds y.0 all.1 y.1)

  list_sound : (slot : Slot) (ds : Items) (v : Value) (f : Option TypeDef) → form_of rows slot ≡ f → ItemsSound ds → list_by (D.list ds) (λ elem. meant_items rows is_key elem ds) f ≡ Some v → Meant rows is_key slot (D.list ds) v
  list_sound slot ds v (Some (T.List elem place)) e all h =
      let x = map_some (λ vs. list vs) (meant_items rows is_key elem ds) v h in
      subst (λ w. Meant rows is_key slot (D.list ds) w) x.2 (elem, place, ds, e, refl, items_sound elem ds x.0 all x.1)
  list_sound slot ds v (Some T.Any) e all h = subst (λ w. Meant rows is_key slot (D.list ds) w) (same_Some (any (D.list ds)) v h) (e, refl, refl)
  list_sound slot ds v f e all h = absurd (none-some v h)

  -- maps
  pair_sound : (key : ℕ) (slot : Slot) (k : List ℕ) (d : Data) (ms : Members) (ps : Pairs) (b : Bool) → is_key key k ≡ b → Sound d
      → and_pairs b k (meant rows is_key slot d) (pairs_by (is_key key) slot (readings rows is_key ms)) ≡ Some ps
      → ((qs : Pairs) → pairs_by (is_key key) slot (readings rows is_key ms) ≡ Some qs → EntriesMeant rows is_key key slot ms qs) → EntriesMeant rows is_key key slot (member k d ms) ps
  pair_sound key slot k d ms ps true e sound h rest =
      let x = chain_some (λ v. option_map (λ ps. pair k v ps) (pairs_by (is_key key) slot (readings rows is_key ms))) (meant rows is_key slot d) ps h in
      let y = map_some (λ ps. pair k x.0 ps) (pairs_by (is_key key) slot (readings rows is_key ms)) ps x.2 in
      subst (λ qs. EntriesMeant rows is_key key slot (member k d ms) qs) y.2 (d, ms, refl, e, sound slot x.0 x.1, rest y.0 y.1)
  pair_sound key slot k d ms ps false e sound h rest = absurd (none-some ps h)

  pairs_sound : (key : ℕ) (slot : Slot) (ms : Members) (ps : Pairs) → AllSound ms → pairs_by (is_key key) slot (readings rows is_key ms) ≡ Some ps → EntriesMeant rows is_key key slot ms ps
  pairs_sound key slot no_members ps all h = subst (λ qs. EntriesMeant rows is_key key slot no_members qs) (same_Some no_pairs ps h) refl
  pairs_sound key slot (member k d ms) ps all h = pair_sound key slot k d ms ps (is_key key k) refl all.0 h (λ qs g. pairs_sound key slot ms qs all.1 g)

  -- structs
  pub record IsReadAt (k : List ℕ) (ms : Members) (r : Reading) : Type 0 where
    pub held : Data
    pub there : value_at k (members_list ms) ≡ Some held
    pub sound : Sound held
    pub same : (slot : Slot) → r slot ≡ meant rows is_key slot held

  reading_first : (k j : List ℕ) (d : Data) (ms : Members) (r : Reading) (b : Bool) → b ≡ same_text k j → Sound d → cond b (Some (λ slot. meant rows is_key slot d)) (value_at k (readings rows is_key ms)) ≡ Some r
      → (value_at k (readings rows is_key ms) ≡ Some r → IsReadAt k ms r) → IsReadAt k (member j d ms) r
  reading_first k j d ms r true e sound h rest =
      record { held = d; there = ap (λ c. cond c (Some d) (value_at k (members_list ms))) (sym e); sound = sound; same = λ slot. ap (λ f. f slot) (sym (same_Some (λ slot. meant rows is_key slot d) r h)) }
  reading_first k j d ms r false e sound h rest =
      let x = rest h in
      record { held = x.held; there = ap (λ c. cond c (Some d) (value_at k (members_list ms))) (sym e) ∙ x.there; sound = x.sound; same = x.same }

  reading_there : (k : List ℕ) (ms : Members) (r : Reading) → AllSound ms → value_at k (readings rows is_key ms) ≡ Some r → IsReadAt k ms r
  reading_there k no_members r all h = absurd (none-some r h)
  reading_there k (member j d ms) r all h = reading_first k j d ms r (same_text k j) refl all.0 h (λ g. reading_there k ms r all.1 g)

  reading_gone : (k : List ℕ) (ms : Members) → value_at k (readings rows is_key ms) ≡ None → value_at k (members_list ms) ≡ None
  reading_gone k no_members h = refl
  reading_gone k (member j d ms) h = by (same_text k j) h (λ g. reading_gone k ms g)
    where
      by : (b : Bool) → cond b (Some (λ slot. meant rows is_key slot d)) (value_at k (readings rows is_key ms)) ≡ None → (value_at k (readings rows is_key ms) ≡ None → value_at k (members_list ms) ≡ None)
          → cond b (Some d) (value_at k (members_list ms)) ≡ None
      by true g rest = absurd (none-some _ (sym g))
      by false g rest = rest g

  left_sound : (f : Field) (fs : List Field) (ms : Members) (os : Optionals) (o : Option Value) (i : Option Scalar) (b : Bool) → f.implicit ≡ i → f.optional ≡ b → value_at f.name (members_list ms) ≡ None
      → or_implicit i b ≡ Some o → FieldsMeant rows is_key fs ms os → FieldsMeant rows is_key (f ∷ fs) ms (optional o os)
  left_sound f fs ms os o (Some s) b e g gone h rest =
      subst (λ x. FieldsMeant rows is_key (f ∷ fs) ms (optional x os)) (same_Some (Some (of_scalar s)) o h) (inr (record { missing = gone; scalar = s; implicit = e; same = refl }), rest)
  left_sound f fs ms os o None true e g gone h rest =
      subst (λ x. FieldsMeant rows is_key (f ∷ fs) ms (optional x os)) (same_Some None o h) (record { missing = gone; optional = g; plain = e }, rest)
  left_sound f fs ms os o None false e g gone h rest = absurd (none-some o h)

  field_sound : (f : Field) (fs : List Field) (ms : Members) (os : Optionals) (o : Option Value) (r : Option Reading) → value_at f.name (readings rows is_key ms) ≡ r → AllSound ms
      → field_of f r ≡ Some o → FieldsMeant rows is_key fs ms os → FieldsMeant rows is_key (f ∷ fs) ms (optional o os)
  field_sound f fs ms os o None e all h rest = left_sound f fs ms os o f.implicit f.optional refl refl (reading_gone f.name ms e) h rest
  field_sound f fs ms os o (Some r) e all h rest =
      let x = reading_there f.name ms r all e in
      let y = map_some (λ v. Some v) (r f.slot) o h in
      subst (λ z. FieldsMeant rows is_key (f ∷ fs) ms (optional z os)) y.2 (inl (x.held, x.there, x.sound f.slot y.0 (sym (x.same f.slot) ∙ y.1)), rest)

  fields_sound : (fs : List Field) (ms : Members) (os : Optionals) → AllSound ms → fields_by fs (readings rows is_key ms) ≡ Some os → FieldsMeant rows is_key fs ms os
  fields_sound [] ms os all h = subst (λ x. FieldsMeant rows is_key [] ms x) (same_Some no_optionals os h) tt
  fields_sound (f ∷ fs) ms os all h =
      let x = chain_some (λ v. option_map (λ os. optional v os) (fields_by fs (readings rows is_key ms))) (field_of f (value_at f.name (readings rows is_key ms))) os h in
      let y = map_some (λ os. optional x.0 os) (fields_by fs (readings rows is_key ms)) os x.2 in
      subst (λ z. FieldsMeant rows is_key (f ∷ fs) ms z) y.2 (field_sound f fs ms y.0 x.0 (value_at f.name (readings rows is_key ms)) refl all x.1 (fields_sound fs ms y.0 all y.1))

  map_sound : (slot : Slot) (ms : Members) (v : Value) (f : Option TypeDef) → form_of rows slot ≡ f → AllSound ms → map_by is_key ms (readings rows is_key ms) f ≡ Some v → Meant rows is_key slot (D.map ms) v
  map_sound slot ms v (Some (T.Map key key_at elem place mf)) e all h =
      let x = map_some (λ ps. map ps) (pairs_by (is_key key.0) elem (readings rows is_key ms)) v h in
      subst (λ w. Meant rows is_key slot (D.map ms) w) x.2 (key, key_at, elem, place, mf, ms, e, refl, pairs_sound key.0 elem ms x.0 all x.1)
  map_sound slot ms v (Some (T.Struct s)) e all h = named (are_named s.fields ms) refl h
    where
      named : (b : Bool) → are_named s.fields ms ≡ b → if_named b (fields_by s.fields (readings rows is_key ms)) ≡ Some v → Meant rows is_key slot (D.map ms) v
      named true g k =
          let x = map_some (λ os. struct os) (fields_by s.fields (readings rows is_key ms)) v k in
          subst (λ w. Meant rows is_key slot (D.map ms) w) x.2 (s, ms, e, refl, g, fields_sound s.fields ms x.0 all x.1)
      named false g k = absurd (none-some v k)
  map_sound slot no_members v (Some (T.Union u)) e all h = absurd (none-some v h)
  map_sound slot (member k d no_members) v (Some (T.Union u)) e all h = held (member_named k u.members) refl h
    where
      held : (o : Option (ℕ × Member)) → member_named k u.members ≡ o → member_read (λ slot. meant rows is_key slot d) o ≡ Some v → Meant rows is_key slot (D.map (member k d no_members)) v
      held None g q = absurd (none-some v q)
      held (Some p) g q =
          let m = member-named k u.members p g in
          let x = map_some (λ v. union p.0 v) (meant rows is_key (plainly (p.1).ty) d) v q in
          let s : k ≡ (p.1).name = text_same k (p.1).name (sym m.named) in
          subst (λ w. Meant rows is_key slot (D.map (member k d no_members)) w) x.2 (u, p.1, d, e, m.placed, ap (λ j. D.map (member j d no_members)) s, all.0 (plainly (p.1).ty) x.0 x.1)
  map_sound slot (member k d (member l c ms)) v (Some (T.Union u)) e all h = absurd (none-some v h)
  map_sound slot no_members v (Some (T.Unit f)) e all h = subst (λ w. Meant rows is_key slot (D.map no_members) w) (same_Some unit v h) (f, e, refl)
  map_sound slot (member k d ms) v (Some (T.Unit f)) e all h = absurd (none-some v h)
  map_sound slot ms v (Some T.Any) e all h = subst (λ w. Meant rows is_key slot (D.map ms) w) (same_Some (any (D.map ms)) v h) (e, refl, refl)
  map_sound slot ms v f e all h = absurd (none-some v h)

  mutual
    sound : (d : Data) → Sound d
    sound D.null slot v h = null_sound slot v slot.nullable refl h
    sound (D.boolean b) slot v h = boolean_sound slot b v (form_of rows slot) refl h
    sound (D.integer n) slot v h = integer_sound slot n v (form_of rows slot) refl h
    sound (D.text s) slot v h = text_sound slot s v (form_of rows slot) refl h
    sound (D.bytes s) slot v h = bytes_sound slot s v (form_of rows slot) refl h
    sound (D.list ds) slot v h = list_sound slot ds v (form_of rows slot) refl (sound_items ds) h
    sound (D.map ms) slot v h = map_sound slot ms v (form_of rows slot) refl (sound_members ms) h
    sound (D.link s) slot v h = link_sound slot s v (form_of rows slot) refl h

    sound_items : (ds : Items) → ItemsSound ds
    sound_items no_items = tt
    sound_items (item d ds) = (λ slot v h. sound d slot v h, sound_items ds)

    sound_members : (ms : Members) → AllSound ms
    sound_members no_members = tt
    sound_members (member k d ms) = (λ slot v h. sound d slot v h, sound_members ms)

pub read_is_meant : ReadIsMeant
read_is_meant rows is_key slot t v h = sound rows is_key t slot v h
