-- The value that a tree shows is of its slot.
use Rattle.std.proofs.Common.{cond, ◌≡◌, ◌⊎◌, inl, inr, ℕ, List, [], ◌∷◌, Bool, true, false, Some, sym, subst}
use Rattle.std.proofs.lemmas.Option.{same_Some, none-some}
use Rattle.ild_data.specs.Data as D
use Rattle.ild_data.specs.Data.{Data, Items, item, Members, no_members, member, members_list}
use Rattle.ild_data.specs.Key.{same_text, value_at, IsBelow, Rises}
use Rattle.ild_data.specs.Tree.{IsTree, AreTrees, AreEntries}
use Rattle.ild_schema.specs.declared.def.Scalar.{Scalar}
use Rattle.ild_schema.specs.declared.def.Scalar.TheVariants as S
use Rattle.ild_schema.specs.declared.def.Field.{Field}
use Rattle.ild_schema.specs.declared.number.Slot.{Slot}
use Rattle.ild_schema.specs.declared.row.Row.{Row}
use Rattle.ild_schema.specs.Value.{Value, null, boolean, integer, text, bytes, link, list, map, struct, union, enum, unit, any, hamt, Values, no_values, value, Pairs, no_pairs, pair, pairs_list, Optionals, no_optionals, absent, present}
use Rattle.ild_splice_changes.proofs.Maps.{below_absent}
use Rattle.ild_schema.specs.Slots.{plainly}
use Rattle.ild_typed.specs.Holder.{is_paired}
use Rattle.ild_value_meaning.specs.Meant.{Meant, AreMeant, EntriesMeant, FieldsMeant, IsLeftOut, of_scalar}
use Rattle.ild_typed.specs.OfType.{TestsKeys}
use Rattle.ild_value_meaning.specs.MeantLaws.{MeantIsTyped}
use Rattle.ild_value_meaning.specs.Risen.{MapsRise, AllRise, EntriesRise, FieldsRise}
use Rattle.ild_value_meaning.proofs.MeantWhole.{meant_whole}
use Rattle.ild_value_meaning.proofs.Told.{ImplicitsFit, IsTold, told}
use Rattle.ild_value_meaning.proofs.TypedByParts.{to_parts, from_parts}
use Rattle.ild_value_meaning.proofs.ByParts.{ByParts, AreByParts, EntriesByParts, FieldsByParts, AreDistinct, AreInOrder}

rises_distinct : {V : Type 0} (ms : List (List ℕ × V)) → Rises ms → AreDistinct ms
rises_distinct [] up = tt
rises_distinct (m ∷ ms) up = (below_absent m.0 ms up.0 up.1, rises_distinct ms up.1)

ordered : {V : Type 0} (b : Bool) (ms : List (List ℕ × V)) → Rises ms → AreInOrder b ms
ordered true ms up = rises_distinct ms up
ordered false ms up = up

-- a value at a key of a tree is a tree
tree_first : (k j : List ℕ) (d e : Data) (ms : Members) (b : Bool) → IsTree d → cond b (Some d) (value_at k (members_list ms)) ≡ Some e → (value_at k (members_list ms) ≡ Some e → IsTree e) → IsTree e
tree_first k j d e ms true t h rest = subst IsTree (same_Some d e h) t
tree_first k j d e ms false t h rest = rest h

pub tree_at : (k : List ℕ) (ms : Members) (e : Data) → AreEntries ms → value_at k (members_list ms) ≡ Some e → IsTree e
tree_at k no_members e all h = absurd (none-some e h)
tree_at k (member j d ms) e all h = tree_first k j d e ms (same_text k j) all.1 h (λ g. tree_at k ms e all.3 g)

scalar_risen : (s : Scalar) → MapsRise (of_scalar s)
scalar_risen (S.Bool b) = tt
scalar_risen (S.Int n) = tt
scalar_risen (S.Text s) = tt

module _ (rows : List Row) (is_key : ℕ → List ℕ → Bool) (ok : IsTold rows) (keys : TestsKeys rows is_key) where
  below_pairs : (k : List ℕ) (key : ℕ) (slot : Slot) (ns : Members) (ps : Pairs) → EntriesMeant rows is_key key slot ns ps → IsBelow k (members_list ns) → IsBelow k (pairs_list ps)
  below_pairs k key slot ns no_pairs h below = tt
  below_pairs k key slot ns (pair l v ps) h below = subst (λ ms. IsBelow k (members_list ms)) h.2 below

  rising_pairs : (key : ℕ) (slot : Slot) (ms : Members) (ps : Pairs) → EntriesMeant rows is_key key slot ms ps → AreEntries ms → Rises (pairs_list ps)
  rising_pairs key slot ms no_pairs h all = tt
  rising_pairs key slot ms (pair k v ps) h all =
      let a : AreEntries (member k h.0 h.1) = subst AreEntries h.2 all in
      (below_pairs k key slot h.1 ps h.5 a.2, rising_pairs key slot h.1 ps h.5 a.3)

  field_of_type : (f : Field) (v : Value) (ms : Members) → AreEntries ms → ((s : Scalar) → f.implicit ≡ Some s → ByParts rows is_key f.slot (of_scalar s))
      → ((e : Data) × (value_at f.name (members_list ms) ≡ Some e) × Meant rows is_key f.slot e v) ⊎ IsLeftOut f v ms
      → ((e : Data) → IsTree e → Meant rows is_key f.slot e v → ByParts rows is_key f.slot v) → ByParts rows is_key f.slot v
  field_of_type f v ms all fit (inl h) rest = rest h.0 (tree_at f.name ms h.0 all h.1) h.2
  field_of_type f v ms all fit (inr l) rest = subst (λ w. ByParts rows is_key f.slot w) (sym l.same) (fit l.scalar l.implicit)

  mutual
    of_type : (v : Value) (slot : Slot) (t : Data) → IsTree t → Meant rows is_key slot t v → ByParts rows is_key slot v
    of_type null slot t tree h = h.0
    of_type (boolean b) slot t tree h = h.0
    of_type (integer n) slot t tree h = (h.0, subst IsTree h.1 tree)
    of_type (text s) slot t tree h = (h.0, subst IsTree h.1 tree)
    of_type (bytes s) slot t tree h = (h.0, subst IsTree h.1 tree)
    of_type (link s) slot t tree h = let a : IsTree (D.link s) = subst IsTree h.2 tree in (h.0, h.1, a.0, a.1)
    of_type (list vs) slot t tree h = (h.0, h.1, h.3, items_of_type vs h.0 h.2 (subst IsTree h.4 tree) h.5)
    of_type (map ps) slot t tree h =
        let a : AreEntries h.5 = subst IsTree h.7 tree in
        (h.0, h.1, h.2, h.3, h.4, h.6, entries_of_type ps (h.0).0 h.2 h.5 a h.8, ordered (is_paired h.4) (pairs_list ps) (rising_pairs (h.0).0 h.2 h.5 ps h.8 a))
    of_type (struct os) slot t tree h = (h.0, h.2, fields_of_type os (h.0).fields h.1 (subst IsTree h.3 tree) (ok.implicits slot h.0 h.2) h.5)
    of_type (union n v) slot t tree h =
        let a : AreEntries (member (h.1).name h.2 no_members) = subst IsTree h.5 tree in
        (h.0, h.1, h.3, h.4, of_type v (plainly (h.1).ty) h.2 a.1 h.6)
    of_type (enum n) slot t tree h = (h.0, h.1, h.2, h.3)
    of_type unit slot t tree h = (h.0, h.1)
    of_type (any d) slot t tree h = (h.0, h.2, subst IsTree h.1 tree)
    of_type (hamt d) slot t tree h = absurd h

    items_of_type : (vs : Values) (slot : Slot) (ds : Items) → AreTrees ds → AreMeant rows is_key slot ds vs → AreByParts rows is_key slot vs
    items_of_type no_values slot ds trees h = tt
    items_of_type (value v vs) slot ds trees h =
        let a : AreTrees (item h.0 h.1) = subst AreTrees h.2 trees in
        (of_type v slot h.0 a.0 h.3, items_of_type vs slot h.1 a.1 h.4)

    entries_of_type : (ps : Pairs) (key : ℕ) (slot : Slot) (ms : Members) → AreEntries ms → EntriesMeant rows is_key key slot ms ps → EntriesByParts rows is_key key slot ps
    entries_of_type no_pairs key slot ms all h = tt
    entries_of_type (pair k v ps) key slot ms all h =
        let a : AreEntries (member k h.0 h.1) = subst AreEntries h.2 all in
        (h.3, of_type v slot h.0 a.1 h.4, entries_of_type ps key slot h.1 a.3 h.5)

    fields_of_type : (os : Optionals) (fs : List Field) (ms : Members) → AreEntries ms → ImplicitsFit rows fs → FieldsMeant rows is_key fs ms os → FieldsByParts rows is_key fs os
    fields_of_type no_optionals [] ms all fit h = tt
    fields_of_type no_optionals (f ∷ fs) ms all fit h = h
    fields_of_type (absent os) [] ms all fit h = h
    fields_of_type (absent os) (f ∷ fs) ms all fit h = ((h.0).optional, fields_of_type os fs ms all fit.1 h.1)
    fields_of_type (present v os) [] ms all fit h = h
    fields_of_type (present v os) (f ∷ fs) ms all fit h =
        (field_of_type f v ms all (λ s e. to_parts rows is_key keys (of_scalar s) f.slot (fit.0 s e)) h.0 (λ e t g. of_type v f.slot e t g), fields_of_type os fs ms all fit.1 h.1)

  field_risen : (f : Field) (v : Value) (ms : Members) → AreEntries ms → ((e : Data) × (value_at f.name (members_list ms) ≡ Some e) × Meant rows is_key f.slot e v) ⊎ IsLeftOut f v ms
      → ((e : Data) → IsTree e → Meant rows is_key f.slot e v → MapsRise v) → MapsRise v
  field_risen f v ms all (inl h) rest = rest h.0 (tree_at f.name ms h.0 all h.1) h.2
  field_risen f v ms all (inr l) rest = subst MapsRise (sym l.same) (scalar_risen l.scalar)

  -- and its maps rise
  mutual
    risen : (v : Value) (slot : Slot) (t : Data) → IsTree t → Meant rows is_key slot t v → MapsRise v
    risen null slot t tree h = tt
    risen (boolean b) slot t tree h = tt
    risen (integer n) slot t tree h = tt
    risen (text s) slot t tree h = tt
    risen (bytes s) slot t tree h = tt
    risen (link s) slot t tree h = tt
    risen (list vs) slot t tree h = items_risen vs h.0 h.2 (subst IsTree h.4 tree) h.5
    risen (map ps) slot t tree h =
        let a : AreEntries h.5 = subst IsTree h.7 tree in
        (rising_pairs (h.0).0 h.2 h.5 ps h.8 a, entries_risen ps (h.0).0 h.2 h.5 a h.8)
    risen (struct os) slot t tree h = fields_risen os (h.0).fields h.1 (subst IsTree h.3 tree) h.5
    risen (union n v) slot t tree h =
        let a : AreEntries (member (h.1).name h.2 no_members) = subst IsTree h.5 tree in
        risen v (plainly (h.1).ty) h.2 a.1 h.6
    risen (enum n) slot t tree h = tt
    risen unit slot t tree h = tt
    risen (any d) slot t tree h = tt
    risen (hamt d) slot t tree h = h

    items_risen : (vs : Values) (slot : Slot) (ds : Items) → AreTrees ds → AreMeant rows is_key slot ds vs → AllRise vs
    items_risen no_values slot ds trees h = tt
    items_risen (value v vs) slot ds trees h =
        let a : AreTrees (item h.0 h.1) = subst AreTrees h.2 trees in
        (risen v slot h.0 a.0 h.3, items_risen vs slot h.1 a.1 h.4)

    entries_risen : (ps : Pairs) (key : ℕ) (slot : Slot) (ms : Members) → AreEntries ms → EntriesMeant rows is_key key slot ms ps → EntriesRise ps
    entries_risen no_pairs key slot ms all h = tt
    entries_risen (pair k v ps) key slot ms all h =
        let a : AreEntries (member k h.0 h.1) = subst AreEntries h.2 all in
        (risen v slot h.0 a.1 h.4, entries_risen ps key slot h.1 a.3 h.5)

    fields_risen : (os : Optionals) (fs : List Field) (ms : Members) → AreEntries ms → FieldsMeant rows is_key fs ms os → FieldsRise os
    fields_risen no_optionals fs ms all h = tt
    fields_risen (absent os) [] ms all h = absurd h
    fields_risen (absent os) (f ∷ fs) ms all h = fields_risen os fs ms all h.1
    fields_risen (present v os) [] ms all h = absurd h
    fields_risen (present v os) (f ∷ fs) ms all h = (field_risen f v ms all h.0 (λ e t g. risen v f.slot e t g), fields_risen os fs ms all h.1)

pub meant_is_typed : MeantIsTyped
meant_is_typed rows is_key schema keys slot t v tree h =
    let x = from_parts rows is_key keys v slot (of_type rows is_key (told rows schema) keys v slot t tree h) in
    record { typed = (x.0, x.1, meant_whole rows is_key v slot t h); rises = risen rows is_key (told rows schema) keys v slot t tree h }
