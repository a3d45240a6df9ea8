-- The reading finds each value that data shows, so there is one at most.
use Rattle.std.proofs.Common.{cond, ◌≡◌, ◌⊎◌, inl, inr, ℕ, List, [], ◌∷◌, Bool, true, false, Option, Some, None, refl, ap, sym, ◌∙◌}
use Rattle.std.specs.Prelude.{option_map}
use Rattle.std.proofs.lemmas.Option.{same_Some}
use Rattle.ild_data.specs.Data as D
use Rattle.ild_data.specs.Data.{Data, Items, no_items, item, Members, no_members, member, members_list}
use Rattle.ild_data.specs.Key.{same_text, value_at}
use Rattle.ild_schema.specs.declared.def.TypeDef.TheVariants as T
use Rattle.ild_schema.specs.declared.def.Field.{Field}
use Rattle.ild_schema.specs.declared.number.Slot.{Slot}
use Rattle.ild_schema.specs.declared.row.Row.{Row}
use Rattle.ild_schema.specs.Value.{Value, null, boolean, integer, text, bytes, link, list, map, struct, union, enum, unit, any, hamt, Values, no_values, value, Pairs, no_pairs, pair, Optionals, no_optionals, absent, present, optional}
use Rattle.ild_schema.specs.Slots.{form_of, plainly}
use Rattle.ild_value_meaning.specs.Meant.{Meant, AreMeant, EntriesMeant, FieldsMeant, IsLeftOut, IsAbsent, is_null}
use Rattle.ild_value_meaning.specs.MeantRead.{meant, meant_items, readings, Reading, scalar_by, text_by, link_by, list_by, map_by, and_others, and_pairs, pairs_by, and_fields, field_of, or_implicit, fields_by, if_named, member_read}
use Rattle.ild_value_meaning.proofs.Told.{AreToldApart, told}
use Rattle.ild_value_meaning.specs.MeantLaws.{OneMeant}
use Rattle.ild_value_meaning.specs.MeantLaws.{MeantIsRead}

-- the reading of the entry at a key
reading_at_first : (b : Bool) (d : Data) (r : Data → Reading) (o : Option Data) (p : Option Reading) → p ≡ option_map r o → cond b (Some (r d)) p ≡ option_map r (cond b (Some d) o)
reading_at_first true d r o p h = refl
reading_at_first false d r o p h = h

pub reading_at : (rows : List Row) (is_key : ℕ → List ℕ → Bool) (ms : Members) (k : List ℕ) → value_at k (readings rows is_key ms) ≡ option_map (λ d slot. meant rows is_key slot d) (value_at k (members_list ms))
reading_at rows is_key no_members k = refl
reading_at rows is_key (member j d ms) k =
    reading_at_first (same_text k j) d (λ d slot. meant rows is_key slot d) (value_at k (members_list ms)) (value_at k (readings rows is_key ms)) (reading_at rows is_key ms k)

any_read : (rows : List Row) (is_key : ℕ → List ℕ → Bool) (slot : Slot) (d : Data) → form_of rows slot ≡ Some T.Any → is_null d ≡ false → meant rows is_key slot d ≡ Some (any d)
any_read rows is_key slot D.null f h = absurd cc
any_read rows is_key slot (D.boolean b) f h = ap (λ g. scalar_by T.Bool (boolean b) (D.boolean b) g) f
any_read rows is_key slot (D.integer n) f h = ap (λ g. scalar_by T.Int (integer n) (D.integer n) g) f
any_read rows is_key slot (D.text s) f h = ap (λ g. text_by s g) f
any_read rows is_key slot (D.bytes s) f h = ap (λ g. scalar_by T.Bytes (bytes s) (D.bytes s) g) f
any_read rows is_key slot (D.list ds) f h = ap (λ g. list_by (D.list ds) (λ elem. meant_items rows is_key elem ds) g) f
any_read rows is_key slot (D.map ms) f h = ap (λ g. map_by is_key ms (readings rows is_key ms) g) f
any_read rows is_key slot (D.link s) f h = ap (λ g. link_by s g) f

-- a field that is left out, or absent
left_out : (f : Field) (v : Value) (ms : Members) (rs : List (List ℕ × Reading)) → value_at f.name rs ≡ None → IsLeftOut f v ms → field_of f (value_at f.name rs) ≡ Some (Some v)
left_out f v ms rs missing l = ap (λ o. field_of f o) missing ∙ ap (λ o. or_implicit o f.optional) l.implicit ∙ ap (λ x. Some (Some x)) (sym l.same)

absent_read : (f : Field) (ms : Members) (rs : List (List ℕ × Reading)) → value_at f.name rs ≡ None → IsAbsent f ms → field_of f (value_at f.name rs) ≡ Some None
absent_read f ms rs missing a = ap (λ o. field_of f o) missing ∙ ap (λ o. or_implicit o f.optional) a.plain ∙ ap (λ b. or_implicit None b) a.optional

and_both : (f : Field) (fs : List Field) (rs : List (List ℕ × Reading)) (o : Option Value) (os : Optionals) → field_of f (value_at f.name rs) ≡ Some o → fields_by fs rs ≡ Some os
    → fields_by (f ∷ fs) rs ≡ Some (optional o os)
and_both f fs rs o os p q = ap (λ x. and_fields x (fields_by fs rs)) p ∙ ap (λ y. and_fields (Some o) y) q

module _ (rows : List Row) (is_key : ℕ → List ℕ → Bool) (apart : AreToldApart rows) where
  missing : (ms : Members) (f : Field) → value_at f.name (members_list ms) ≡ None → value_at f.name (readings rows is_key ms) ≡ None
  missing ms f h = reading_at rows is_key ms f.name ∙ ap (λ o. option_map (λ d slot. meant rows is_key slot d) o) h

  read_field : (f : Field) (v : Value) (ms : Members) → ((e : Data) × (value_at f.name (members_list ms) ≡ Some e) × Meant rows is_key f.slot e v) ⊎ IsLeftOut f v ms
      → ((e : Data) → Meant rows is_key f.slot e v → meant rows is_key f.slot e ≡ Some v) → field_of f (value_at f.name (readings rows is_key ms)) ≡ Some (Some v)
  read_field f v ms (inl h) rest =
      ap (λ o. field_of f o) (reading_at rows is_key ms f.name ∙ ap (λ o. option_map (λ d slot. meant rows is_key slot d) o) h.1)
      ∙ ap (λ o. option_map (λ v. Some v) o) (rest h.0 h.2)
  read_field f v ms (inr l) rest = left_out f v ms (readings rows is_key ms) (missing ms f l.missing) l

  mutual
    pub read_value : (v : Value) (slot : Slot) (t : Data) → Meant rows is_key slot t v → meant rows is_key slot t ≡ Some v
    read_value null slot t h = ap (λ d. meant rows is_key slot d) h.1 ∙ ap (λ b. cond b (Some null) None) h.0
    read_value (boolean b) slot t h = ap (λ d. meant rows is_key slot d) h.1 ∙ ap (λ g. scalar_by T.Bool (boolean b) (D.boolean b) g) h.0
    read_value (integer n) slot t h = ap (λ d. meant rows is_key slot d) h.1 ∙ ap (λ g. scalar_by T.Int (integer n) (D.integer n) g) h.0
    read_value (text s) slot t h = ap (λ d. meant rows is_key slot d) h.1 ∙ ap (λ g. text_by s g) h.0
    read_value (bytes s) slot t h = ap (λ d. meant rows is_key slot d) h.1 ∙ ap (λ g. scalar_by T.Bytes (bytes s) (D.bytes s) g) h.0
    read_value (link s) slot t h = ap (λ d. meant rows is_key slot d) h.2 ∙ ap (λ g. link_by s g) h.1
    read_value (list vs) slot t h =
        ap (λ d. meant rows is_key slot d) h.4 ∙ ap (λ g. list_by (D.list h.2) (λ elem. meant_items rows is_key elem h.2) g) h.3
        ∙ ap (λ o. option_map (λ vs. list vs) o) (read_items vs h.0 h.2 h.5)
    read_value (map ps) slot t h =
        ap (λ d. meant rows is_key slot d) h.7 ∙ ap (λ g. map_by is_key h.5 (readings rows is_key h.5) g) h.6
        ∙ ap (λ o. option_map (λ ps. map ps) o) (read_entries ps (h.0).0 h.2 h.5 h.8)
    read_value (struct os) slot t h =
        ap (λ d. meant rows is_key slot d) h.3 ∙ ap (λ g. map_by is_key h.1 (readings rows is_key h.1) g) h.2
        ∙ ap (λ b. if_named b (fields_by (h.0).fields (readings rows is_key h.1))) h.4 ∙ ap (λ o. option_map (λ os. struct os) o) (read_fields os (h.0).fields h.1 h.5)
    read_value (union n v) slot t h =
        ap (λ d. meant rows is_key slot d) h.5 ∙ ap (λ g. map_by is_key (member (h.1).name h.2 no_members) (readings rows is_key (member (h.1).name h.2 no_members)) g) h.3
        ∙ ap (λ o. member_read (λ slot. meant rows is_key slot h.2) o) (apart.unions slot h.0 n h.1 h.3 h.4)
        ∙ ap (λ o. option_map (λ v. union n v) o) (read_value v (plainly (h.1).ty) h.2 h.6)
    read_value (enum n) slot t h =
        ap (λ d. meant rows is_key slot d) h.4 ∙ ap (λ g. text_by (h.1).name g) h.2 ∙ ap (λ o. option_map (λ n. enum n) o) (apart.enums slot h.0 n h.1 h.2 h.3)
    read_value unit slot t h = ap (λ d. meant rows is_key slot d) h.2 ∙ ap (λ g. map_by is_key no_members [] g) h.1
    read_value (any d) slot t h = ap (λ d. meant rows is_key slot d) h.1 ∙ any_read rows is_key slot d h.0 h.2
    read_value (hamt d) slot t h = absurd h

    read_items : (vs : Values) (slot : Slot) (ds : Items) → AreMeant rows is_key slot ds vs → meant_items rows is_key slot ds ≡ Some vs
    read_items no_values slot ds h = ap (λ es. meant_items rows is_key slot es) h
    read_items (value v vs) slot ds h =
        ap (λ es. meant_items rows is_key slot es) h.2
        ∙ ap (λ o. and_others o (meant_items rows is_key slot h.1)) (read_value v slot h.0 h.3) ∙ ap (λ p. and_others (Some v) p) (read_items vs slot h.1 h.4)

    read_entries : (ps : Pairs) (key : ℕ) (slot : Slot) (ms : Members) → EntriesMeant rows is_key key slot ms ps → pairs_by (is_key key) slot (readings rows is_key ms) ≡ Some ps
    read_entries no_pairs key slot ms h = ap (λ ns. pairs_by (is_key key) slot (readings rows is_key ns)) h
    read_entries (pair k v ps) key slot ms h =
        ap (λ ns. pairs_by (is_key key) slot (readings rows is_key ns)) h.2
        ∙ ap (λ b. and_pairs b k (meant rows is_key slot h.0) (pairs_by (is_key key) slot (readings rows is_key h.1))) h.3
        ∙ ap (λ o. and_pairs true k o (pairs_by (is_key key) slot (readings rows is_key h.1))) (read_value v slot h.0 h.4)
        ∙ ap (λ p. and_pairs true k (Some v) p) (read_entries ps key slot h.1 h.5)

    read_fields : (os : Optionals) (fs : List Field) (ms : Members) → FieldsMeant rows is_key fs ms os → fields_by fs (readings rows is_key ms) ≡ Some os
    read_fields no_optionals [] ms h = refl
    read_fields no_optionals (f ∷ fs) ms h = absurd h
    read_fields (absent os) [] ms h = absurd h
    read_fields (absent os) (f ∷ fs) ms h =
        and_both f fs (readings rows is_key ms) None os (absent_read f ms (readings rows is_key ms) (missing ms f (h.0).missing) h.0) (read_fields os fs ms h.1)
    read_fields (present v os) [] ms h = absurd h
    read_fields (present v os) (f ∷ fs) ms h =
        and_both f fs (readings rows is_key ms) (Some v) os (read_field f v ms h.0 (λ e g. read_value v f.slot e g)) (read_fields os fs ms h.1)

pub meant_is_read : MeantIsRead
meant_is_read rows is_key schema slot t v h = read_value rows is_key (told rows schema).apart v slot t h

pub one_meant : OneMeant
one_meant rows is_key schema slot t v w h k = same_Some v w (sym (meant_is_read rows is_key schema slot t v h) ∙ meant_is_read rows is_key schema slot t w k)
