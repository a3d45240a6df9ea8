-- Two tables that are alike: the same texts are keys by both, and data mean the same value.
use Rattle.std.proofs.Common.{◌≡◌, ℕ, ◌<◌, List, [], ◌∷◌, length, Bool, true, false, Option, Some, None, refl, ap, ap₂, sym, ◌∙◌, subst}
use Rattle.std.specs.Prelude.{option_map, if◌then◌else◌}
use Rattle.std.specs.List.{AllByRecursion}
use Rattle.std.proofs.lemmas.Option.{none-some, same_Some}
use Rattle.ild_data.proofs.Options.{map_some}
use Rattle.ild_data.specs.Data as D
use Rattle.ild_data.specs.Data.{Data, Items, no_items, item, Members, no_members, member}
use Rattle.ild_data.specs.Key.{same_text, value_at}
use Rattle.ild_schema.specs.declared.number.Slot.{Slot}
use Rattle.ild_schema.specs.declared.number.TypeNo.{TypeNo}
use Rattle.ild_schema.specs.declared.def.TypeDef.{TypeDef}
use Rattle.ild_schema.specs.declared.def.TypeDef.TheVariants as T
use Rattle.ild_schema.specs.declared.def.Field.{Field}
use Rattle.ild_schema.specs.declared.def.Member.{Member}
use Rattle.ild_schema.specs.declared.row.Row.{Row}
use Rattle.ild_schema.specs.Slots.{form_of, plainly}
use Rattle.ild_schema.specs.Value as V
use Rattle.ild_schema.specs.Value.{Value, Values}
use Rattle.ild_typed.specs.Fits.{IsTextOf}
use Rattle.ild_typed.specs.Hamt.{alone}
use Rattle.ild_typed.specs.OfType.{TestsKeys}
use Rattle.ild_typed.specs.Segment.{member_named, next_member}
use Rattle.ild_value_meaning.specs.MeantRead.{Reading, and_others, and_pairs, pairs_by, field_of, and_fields, fields_by, if_named, member_read, member_by, text_by, scalar_by, link_by, list_by, map_by, meant, meant_items, readings}
use Rattle.ild_value_meaning.specs.Names.{are_named}
use Rattle.ild_named_type.specs.Root.{named_rows}
use Rattle.ild_named_law.proofs.Alike.{AreAlike, IsLowIn, alike_back, low_parts}
use Rattle.ild_named_law.proofs.Fitting.{fits_over}
use Rattle.ild_named_law.proofs.Known.{alike_longer}
use Rattle.ild_named_law.proofs.Pathing.{forms_low}
use Rattle.ild_named_law.proofs.Standing.{form_same, tree_same}
use Rattle.ild_named_replies.specs.Edits.{DataMeanAlike, KeysAreTestedAlike}

-- two tests that pass together are one
pub same_tests : (a b : Bool) → (a ≡ true → b ≡ true) → (b ≡ true → a ≡ true) → a ≡ b
same_tests true true f g = refl
same_tests true false f g = sym (f refl)
same_tests false true f g = g refl
same_tests false false f g = refl

-- ---- keys

pub text_over : (count : ℕ) (others rows : List Row) → AreAlike count others rows → (key : TypeNo) (k : List ℕ) → key.0 < count → IsTextOf rows key k → IsTextOf others key k
text_over count others rows alike key k low (room, (v, fits, shows)) =
    (room, (v, fits_over count others rows alike room (plainly key) v low fits, tree_same count others rows alike alone (plainly key) v low ∙ shows))

-- tests of keys that are alike for the first so many types
abbrev pub AreKeysAlike : ℕ → (ℕ → List ℕ → Bool) → (ℕ → List ℕ → Bool) → Type 0
AreKeysAlike count first second = (key : TypeNo) (k : List ℕ) → key.0 < count → first key.0 k ≡ second key.0 k

keys_same : (count : ℕ) (others rows : List Row) → AreAlike count others rows → (first second : ℕ → List ℕ → Bool) → TestsKeys others first → TestsKeys rows second → AreKeysAlike count first second
keys_same count others rows alike first second these those key k low =
    same_tests (first key.0 k) (second key.0 k)
    (λ passed. let x = (these key k).0 passed in (those key k).1 (x.0, text_over count rows others (alike_back count others rows alike) key k low x.1))
    (λ passed. let x = (those key k).0 passed in (these key k).1 (x.0, text_over count others rows alike key k low x.1))

pub keys_alike : KeysAreTestedAlike
keys_alike rows n table tests others both = keys_same (length rows) (named_rows rows n) rows (alike_longer rows table n) others.is_key tests.is_key both.longer.keys both.own.keys

-- ---- what data mean

pub named_low : (count : ℕ) (name : List ℕ) (ms : List Member) (p : ℕ × Member) → AllByRecursion (λ (m : Member). m.ty.0 < count) ms → member_named name ms ≡ Some p → (p.1).ty.0 < count
named_low count name [] p low e = absurd (none-some p e)
named_low count name (m ∷ ms) p low e = by (same_text name m.name) (λ q there. named_low count name ms q low.1 there) e
  where
    by : (b : Bool) → ((q : ℕ × Member) → member_named name ms ≡ Some q → (q.1).ty.0 < count) → (if b then Some (0, m) else option_map next_member (member_named name ms)) ≡ Some p → (p.1).ty.0 < count
    by true rest e = subst (λ (p : ℕ × Member). (p.1).ty.0 < count) (same_Some (0, m) p e) low.0
    by false rest e = let q = map_some next_member (member_named name ms) p e in subst (λ (p : ℕ × Member). (p.1).ty.0 < count) q.2 (rest q.0 q.1)

module _ (count : ℕ) (first second : ℕ → List ℕ → Bool) (keys : AreKeysAlike count first second) where
  -- the same keys, and parts that are read alike in each slot of the first so many types
  abbrev AreReadAlike : List (List ℕ × Reading) → List (List ℕ × Reading) → Type 0
  AreReadAlike [] [] = Unit {0}
  AreReadAlike [] (q ∷ qs) = ⊥
  AreReadAlike (r ∷ rs) [] = ⊥
  AreReadAlike (r ∷ rs) (q ∷ qs) = (r.0 ≡ q.0) × ((s : Slot) → s.ty.0 < count → r.1 s ≡ q.1 s) × AreReadAlike rs qs

  pairs_same : (key : TypeNo) (s : Slot) (rs qs : List (List ℕ × Reading)) → key.0 < count → s.ty.0 < count → AreReadAlike rs qs → pairs_by (first key.0) s rs ≡ pairs_by (second key.0) s qs
  pairs_same key s [] [] lows low h = refl
  pairs_same key s [] (q ∷ qs) lows low h = absurd h
  pairs_same key s (r ∷ rs) [] lows low h = absurd h
  pairs_same key s (r ∷ rs) (q ∷ qs) lows low h =
      ap (λ k. and_pairs (first key.0 k) k (r.1 s) (pairs_by (first key.0) s rs)) h.0
      ∙ ap (λ b. and_pairs b q.0 (r.1 s) (pairs_by (first key.0) s rs)) (keys key q.0 lows)
      ∙ ap₂ (λ v ps. and_pairs (second key.0 q.0) q.0 v ps) (h.1 s low) (pairs_same key s rs qs lows low h.2)

  field_same : (f : Field) (rs qs : List (List ℕ × Reading)) → f.slot.ty.0 < count → AreReadAlike rs qs → field_of f (value_at f.name rs) ≡ field_of f (value_at f.name qs)
  field_same f [] [] low h = refl
  field_same f [] (q ∷ qs) low h = absurd h
  field_same f (r ∷ rs) [] low h = absurd h
  field_same f (r ∷ rs) (q ∷ qs) low h = ap (λ k. field_of f (if same_text f.name k then Some r.1 else value_at f.name rs)) h.0 ∙ by (same_text f.name q.0) (field_same f rs qs low h.2)
    where
      by : (b : Bool) → field_of f (value_at f.name rs) ≡ field_of f (value_at f.name qs) → field_of f (if b then Some r.1 else value_at f.name rs) ≡ field_of f (if b then Some q.1 else value_at f.name qs)
      by true rest = ap (λ o. option_map (λ v. Some v) o) (h.1 f.slot low)
      by false rest = rest

  fields_same : (fs : List Field) (rs qs : List (List ℕ × Reading)) → AllByRecursion (λ (f : Field). f.slot.ty.0 < count) fs → AreReadAlike rs qs → fields_by fs rs ≡ fields_by fs qs
  fields_same [] rs qs low h = refl
  fields_same (f ∷ fs) rs qs low h = ap₂ (λ a b. and_fields a b) (field_same f rs qs low.0 h) (fields_same fs rs qs low.1 h)

  read_same : (r q : Reading) (o : Option (ℕ × Member)) → ((s : Slot) → s.ty.0 < count → r s ≡ q s) → ((m : ℕ × Member) → o ≡ Some m → (m.1).ty.0 < count) → member_read r o ≡ member_read q o
  read_same r q None same low = refl
  read_same r q (Some m) same low = ap (λ o. option_map (λ v. V.union m.0 v) o) (same (plainly (m.1).ty) (low m refl))

  members_same : (ms : List Member) (rs qs : List (List ℕ × Reading)) → AllByRecursion (λ (m : Member). m.ty.0 < count) ms → AreReadAlike rs qs → member_by ms rs ≡ member_by ms qs
  members_same ms [] [] low h = refl
  members_same ms [] (q ∷ qs) low h = absurd h
  members_same ms (r ∷ rs) [] low h = absurd h
  members_same ms (r ∷ []) (q ∷ []) low h = ap (λ k. member_read r.1 (member_named k ms)) h.0 ∙ read_same r.1 q.1 (member_named q.0 ms) h.1 (λ m e. named_low count q.0 ms m low e)
  members_same ms (r ∷ []) (q ∷ y ∷ qs) low h = absurd h.2
  members_same ms (r ∷ x ∷ rs) (q ∷ []) low h = absurd h.2
  members_same ms (r ∷ x ∷ rs) (q ∷ y ∷ qs) low h = refl

  map_same : (ms : Members) (rs qs : List (List ℕ × Reading)) (o : Option TypeDef) → IsLowIn count o → AreReadAlike rs qs → map_by first ms rs o ≡ map_by second ms qs o
  map_same ms rs qs None low h = refl
  map_same ms rs qs (Some (T.Map key key_at slot place f)) low h = ap (λ o. option_map (λ ps. V.map ps) o) (pairs_same key slot rs qs low.0 low.1.0 h)
  map_same ms rs qs (Some (T.Struct s)) low h = ap (λ o. if_named (are_named s.fields ms) o) (fields_same s.fields rs qs (low_parts count (λ (f : Field). f.slot.ty.0) s.fields low) h)
  map_same ms rs qs (Some (T.Union u)) low h = members_same u.members rs qs (low_parts count (λ (m : Member). m.ty.0) u.members low) h
  map_same ms rs qs (Some d) low h = refl

  list_same : (d : Data) (read other : Slot → Option Values) (o : Option TypeDef) → ((s : Slot) → s.ty.0 < count → read s ≡ other s) → IsLowIn count o → list_by d read o ≡ list_by d other o
  list_same d read other None same low = refl
  list_same d read other (Some (T.List elem place)) same low = ap (λ o. option_map (λ vs. V.list vs) o) (same elem low.0)
  list_same d read other (Some e) same low = refl

  module _ (others rows : List Row) (alike : AreAlike count others rows) where
    mutual
      pub meant_same : (s : Slot) (d : Data) → s.ty.0 < count → meant others first s d ≡ meant rows second s d
      meant_same s D.null low = refl
      meant_same s (D.boolean b) low = ap (λ o. scalar_by T.Bool (V.boolean b) (D.boolean b) o) (form_same count others rows alike s low)
      meant_same s (D.integer n) low = ap (λ o. scalar_by T.Int (V.integer n) (D.integer n) o) (form_same count others rows alike s low)
      meant_same s (D.text t) low = ap (λ o. text_by t o) (form_same count others rows alike s low)
      meant_same s (D.bytes t) low = ap (λ o. scalar_by T.Bytes (V.bytes t) (D.bytes t) o) (form_same count others rows alike s low)
      meant_same s (D.link t) low = ap (λ o. link_by t o) (form_same count others rows alike s low)
      meant_same s (D.list ds) low =
          ap (λ o. list_by (D.list ds) (λ elem. meant_items others first elem ds) o) (form_same count others rows alike s low)
          ∙ list_same (D.list ds) (λ elem. meant_items others first elem ds) (λ elem. meant_items rows second elem ds) (form_of rows s) (λ u less. items_same u ds less) (forms_low count others rows alike s low)
      meant_same s (D.map ms) low =
          ap (λ o. map_by first ms (readings others first ms) o) (form_same count others rows alike s low)
          ∙ map_same ms (readings others first ms) (readings rows second ms) (form_of rows s) (forms_low count others rows alike s low) (readings_same ms)

      items_same : (s : Slot) (ds : Items) → s.ty.0 < count → meant_items others first s ds ≡ meant_items rows second s ds
      items_same s no_items low = refl
      items_same s (item d ds) low = ap₂ (λ a b. and_others a b) (meant_same s d low) (items_same s ds low)

      readings_same : (ms : Members) → AreReadAlike (readings others first ms) (readings rows second ms)
      readings_same no_members = tt
      readings_same (member k d ms) = (refl, (λ s low. meant_same s d low), readings_same ms)

pub meant_alike : DataMeanAlike
meant_alike rows n table tests others both slot d low =
    meant_same (length rows) others.is_key tests.is_key (keys_alike rows n table tests others both) (named_rows rows n) rows (alike_longer rows table n) slot d low
