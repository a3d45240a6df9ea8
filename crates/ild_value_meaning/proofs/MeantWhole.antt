-- What data show is whole: no root of a HAMT stands in it for its entries.
use Rattle.std.proofs.Common.{◌≡◌, ◌⊎◌, inl, inr, ℕ, List, [], ◌∷◌, Bool, true, Some, refl, sym, subst}
use Rattle.std.proofs.lemmas.Bool.{and_from}
use Rattle.ild_data.specs.Data.{Data, Items, Members, members_list}
use Rattle.ild_data.specs.Key.{value_at}
use Rattle.ild_schema.specs.declared.def.Scalar.{Scalar}
use Rattle.ild_schema.specs.declared.def.Scalar.TheVariants as S
use Rattle.ild_schema.specs.declared.def.Field.{Field}
use Rattle.ild_schema.specs.declared.number.Slot.{Slot}
use Rattle.ild_schema.specs.declared.row.Row.{Row}
use Rattle.ild_schema.specs.Slots.{plainly}
use Rattle.ild_schema.specs.Value.{Value, null, boolean, integer, text, bytes, link, list, map, struct, union, enum, unit, any, hamt, Values, no_values, value, Pairs, no_pairs, pair, Optionals, no_optionals, absent, present}
use Rattle.ild_schema.specs.Whole.{is_whole, are_whole, pairs_whole, fields_whole}
use Rattle.ild_value_meaning.specs.Meant.{Meant, AreMeant, EntriesMeant, FieldsMeant, IsLeftOut, of_scalar}

abbrev W : Value → Type 0
W v = is_whole v ≡ true

scalar_whole : (s : Scalar) → W (of_scalar s)
scalar_whole (S.Bool b) = refl
scalar_whole (S.Int n) = refl
scalar_whole (S.Text s) = refl

module _ (rows : List Row) (is_key : ℕ → List ℕ → Bool) where
  shown_or_left : (f : Field) (v : Value) (ms : Members) → ((e : Data) × (value_at f.name (members_list ms) ≡ Some e) × Meant rows is_key f.slot e v) ⊎ IsLeftOut f v ms
      → ((e : Data) → Meant rows is_key f.slot e v → W v) → W v
  shown_or_left f v ms (inl h) rest = rest h.0 h.2
  shown_or_left f v ms (inr l) rest = subst W (sym l.same) (scalar_whole l.scalar)

  mutual
    pub meant_whole : (v : Value) (slot : Slot) (t : Data) → Meant rows is_key slot t v → W v
    meant_whole null slot t h = refl
    meant_whole (boolean b) slot t h = refl
    meant_whole (integer n) slot t h = refl
    meant_whole (text s) slot t h = refl
    meant_whole (bytes s) slot t h = refl
    meant_whole (link s) slot t h = refl
    meant_whole (list vs) slot t h = items_whole vs h.0 h.2 h.5
    meant_whole (map ps) slot t h = entries_whole ps (h.0).0 h.2 h.5 h.8
    meant_whole (struct os) slot t h = shown_fields os (h.0).fields h.1 h.5
    meant_whole (union n v) slot t h = meant_whole v (plainly (h.1).ty) h.2 h.6
    meant_whole (enum n) slot t h = refl
    meant_whole unit slot t h = refl
    meant_whole (any d) slot t h = refl
    meant_whole (hamt d) slot t h = absurd h

    items_whole : (vs : Values) (slot : Slot) (ds : Items) → AreMeant rows is_key slot ds vs → are_whole vs ≡ true
    items_whole no_values slot ds h = refl
    items_whole (value v vs) slot ds h = and_from (is_whole v) (are_whole vs) (meant_whole v slot h.0 h.3) (items_whole vs slot h.1 h.4)

    entries_whole : (ps : Pairs) (key : ℕ) (slot : Slot) (ms : Members) → EntriesMeant rows is_key key slot ms ps → pairs_whole ps ≡ true
    entries_whole no_pairs key slot ms h = refl
    entries_whole (pair k v ps) key slot ms h = and_from (is_whole v) (pairs_whole ps) (meant_whole v slot h.0 h.4) (entries_whole ps key slot h.1 h.5)

    shown_fields : (os : Optionals) (fs : List Field) (ms : Members) → FieldsMeant rows is_key fs ms os → fields_whole os ≡ true
    shown_fields no_optionals fs ms h = refl
    shown_fields (absent os) [] ms h = absurd h
    shown_fields (absent os) (f ∷ fs) ms h = shown_fields os fs ms h.1
    shown_fields (present v os) [] ms h = absurd h
    shown_fields (present v os) (f ∷ fs) ms h = and_from (is_whole v) (fields_whole os) (shown_or_left f v ms h.0 (λ e m. meant_whole v f.slot e m)) (shown_fields os fs ms h.1)
