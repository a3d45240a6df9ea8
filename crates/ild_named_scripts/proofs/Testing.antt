-- Tests by the longer table, made of those by the schema's own: they are tests of the struct too.
use Rattle.std.proofs.Common.{◌≡◌, ◌⊎◌, ℕ, zero, suc, ◌+◌, ◌<◌, ◌≤◌, List, [], ◌∷◌, length, length-append, Bool, true, false, cond, nat_lt, Option, Some, None, refl, ap, sym, ◌∙◌, subst, inl, inr, arith}
use Rattle.std.specs.Prelude.{◌↔◌, ◌&&◌, IsSomeAnd, IsUtf8, option_and_then, option_map}
use Rattle.std.proofs.lemmas.Bool.{and_from, and_parts, ltb-true, ltb-false}
use Rattle.std.proofs.lemmas.Option.{none-some, slice_get_past}
use Rattle.ild_data.specs.Data as T
use Rattle.ild_data.specs.Data.{Data}
use Rattle.ild_schema.specs.declared.number.Slot.{Slot}
use Rattle.ild_schema.specs.declared.number.TypeNo.{TypeNo}
use Rattle.ild_schema.specs.declared.def.TypeDef.{TypeDef}
use Rattle.ild_schema.specs.declared.row.Row.{Row}
use Rattle.ild_schema.specs.Copies.{base, target_in}
use Rattle.ild_schema.specs.Kinds.{meant}
use Rattle.ild_schema.specs.Prelude.{number}
use Rattle.ild_schema.specs.Slots.{form_of, plainly}
use Rattle.ild_schema.specs.Table.{IsTable, def_at}
use Rattle.ild_schema.specs.Value as V
use Rattle.ild_schema.specs.Value.{Value, Optionals, optionals_list}
use Rattle.ild_typed.specs.Fields.{field_entries}
use Rattle.ild_typed.specs.Fits.{FitsPast, Fits, FormFits, IsTextOf}
use Rattle.ild_typed.specs.Hamt.{alone}
use Rattle.ild_typed.specs.Layer as L
use Rattle.ild_typed.specs.Layer.{Layer}
use Rattle.ild_typed.specs.Layers.{FieldsFit}
use Rattle.ild_typed.specs.OfType.{OfType, TestsKeys}
use Rattle.ild_typed.specs.Represented.{layered, represented, represented_fields, represented_pairs, represented_values}
use Rattle.ild_typed.specs.Slots.{element_of, fields_of, member_of}
use Rattle.ild_typed.specs.Strings.{in_key_order, map_data}
use Rattle.ild_path_edits.specs.Judged.{Tests, AreTests}
use Rattle.ild_named_type.specs.Root.{named_rows, root_def, root_parts, root_row}
use Rattle.ild_named_type.proofs.Last.{meant_last}
use Rattle.ild_named_type.proofs.Looking.{stays_there}
use Rattle.ild_named_law.proofs.Alike.{AreAlike, alike_back}
use Rattle.ild_named_law.proofs.Fitting.{fits_over}
use Rattle.ild_named_law.proofs.Known.{alike_longer, eight_there}
use Rattle.ild_named_replies.proofs.Meaning.{text_over}
use Rattle.ild_named_scripts.specs.Tests.{StructsAreTested, struct_fits, struct_tests}

-- a map is no text
map_no_text : (o : Option (List (List ℕ × Data))) (k : List ℕ) → option_map (λ es. map_data (in_key_order es)) o ≡ Some (T.text k) → ⊥
map_no_text None k e = none-some (T.text k) e
map_no_text (Some es) k e = absurd cc

-- null, and a struct
abbrev IsStructOrNull : Value → Type 0
IsStructOrNull V.null = Unit {0}
IsStructOrNull (V.struct os) = Unit {0}
IsStructOrNull v = ⊥

-- a struct of three values, and what holds of each
abbrev three : Value → Value → Value → Optionals
three a v b = V.present a (V.present v (V.present b V.no_optionals))

pub record HasThree (P : Slot → Value → Type 0) (n : TypeNo) (os : Optionals) : Type 0 where
  a : Value
  v : Value
  b : Value
  is : os ≡ three a v b
  first : P (plainly (number 7)) a
  second : P (plainly n) v
  third : P (plainly (number 4)) b

has_three : (P : Slot → Value → Type 0) (n : TypeNo) (os : Optionals) → FieldsFit P (root_parts n) (optionals_list os) → HasThree P n os
has_three P n V.no_optionals f = absurd f
has_three P n (V.absent os) f = absurd (let bad : false ≡ true = f.0 in cc)
has_three P n (V.present a V.no_optionals) f = absurd f.1
has_three P n (V.present a (V.absent os)) f = absurd (let bad : false ≡ true = f.1.0 in cc)
has_three P n (V.present a (V.present v V.no_optionals)) f = absurd f.1.1
has_three P n (V.present a (V.present v (V.absent os))) f = absurd (let bad : false ≡ true = f.1.1.0 in cc)
has_three P n (V.present a (V.present v (V.present b V.no_optionals))) f = record { a = a; v = v; b = b; is = refl; first = f.0; second = f.1.0; third = f.1.1.0 }
has_three P n (V.present a (V.present v (V.present b (V.absent os)))) f = absurd f.1.1.1
has_three P n (V.present a (V.present v (V.present b (V.present c os)))) f = absurd f.1.1.1

-- three values that fit make a struct that fits in one level more
three_fit : (rows : List Row) (room : ℕ) (s : Slot) (n : TypeNo) (a v b : Value) → form_of rows s ≡ Some (root_def n) → Fits rows room (plainly (number 7)) a → Fits rows room (plainly n) v → Fits rows room (plainly (number 4)) b
    → Fits rows (suc room) s (V.struct (three a v b))
unfolding FitsPast
three_fit rows room s n a v b form first second third =
    subst (λ (o : Option TypeDef). IsSomeAnd o (FormFits rows (suc room) (FitsPast rows room) (V.struct (three a v b)))) (sym form) (omega arith, (first, (second, (third, tt))))

module _ (rows : List Row) (n : TypeNo) (table : IsTable rows) (low : n.0 < length rows) (t : Tests) (are : AreTests rows t) where
  abbrev longer : List Row
  longer = named_rows rows n

  abbrev others : Tests
  others = struct_tests rows n t

  alike : AreAlike (length rows) longer rows
  alike = alike_longer rows table n

  to_longer : (room : ℕ) (s : Slot) (v : Value) → s.ty.0 < length rows → Fits rows room s v → Fits longer room s v
  to_longer room s v less fits = fits_over (length rows) longer rows alike room s v less fits

  to_rows : (room : ℕ) (s : Slot) (v : Value) → s.ty.0 < length rows → Fits longer room s v → Fits rows room s v
  to_rows room s v less fits = fits_over (length rows) rows longer (alike_back (length rows) longer rows alike) room s v less fits

  -- tests by the schema's own table say it of the longer one too
  low_test : (room : ℕ) (s : Slot) (v : Value) → s.ty.0 < length rows → OfType longer s v → (t.fits room s v ≡ true) ↔ Fits longer room s v
  low_test room s v less typed =
      let own = are.rooms room s v (typed.0, to_rows typed.0 s v less typed.1) in
      ((λ passed. to_longer room s v less (own.0 passed)), (λ fits. own.1 (to_rows room s v less fits)))

  -- ---- what the longer table says behind the schema's own types

  none_past : (i : ℕ) → length longer ≤ i → meant longer i ≡ None
  none_past i past =
      let here : def_at longer i ≡ None = ap (λ o. option_map (λ r. r.def) o) (slice_get_past longer i past) in
      let same : base longer i ≡ i = stays_there longer (length longer) i (ap target_in here) in
      ap (λ k. def_at longer k) same ∙ here

  one_more : length longer ≡ length rows + 1
  one_more = length-append rows (root_row n ∷ [])

  forms_behind : (i : ℕ) → length rows ≤ i → (meant longer i ≡ None) ⊎ (meant longer i ≡ Some (root_def n))
  forms_behind i behind = by (nat_lt (length rows) i) refl
    where
      by : (b : Bool) → nat_lt (length rows) i ≡ b → (meant longer i ≡ None) ⊎ (meant longer i ≡ Some (root_def n))
      by true e = inl (none_past i (let less = ltb-true (length rows) i e in omega (arith, less, one_more)))
      by false e = inr (let same : i ≡ length rows = (let less = ltb-false (length rows) i e in omega (arith, less, behind)) in ap (λ k. meant longer k) same ∙ meant_last rows n)

  -- ---- keys

  root_no_text : (l : Option (Layer Data)) (k : List ℕ) → layered alone (Some (root_def n)) l ≡ Some (T.text k) → ⊥
  root_no_text None k e = none-some (T.text k) e
  root_no_text (Some (L.struct os)) k e = map_no_text (field_entries (root_parts n) os) k e
  root_no_text (Some l) k e = none-some (T.text k) e

  layer_no_text : (s : Slot) (l : Option (Layer Data)) (k : List ℕ) → length rows ≤ s.ty.0 → layered alone (form_of longer s) l ≡ Some (T.text k) → ⊥
  layer_no_text s l k behind e = by (forms_behind s.ty.0 behind)
    where
      by : (meant longer s.ty.0 ≡ None) ⊎ (meant longer s.ty.0 ≡ Some (root_def n)) → ⊥
      by (inl none) = none-some (T.text k) (subst (λ o. layered alone o l ≡ Some (T.text k)) none e)
      by (inr root) = root_no_text l k (subst (λ o. layered alone o l ≡ Some (T.text k)) root e)

  no_text : (key : TypeNo) (v : Value) (k : List ℕ) → length rows ≤ key.0 → represented alone longer (plainly key) v ≡ Some (T.text k) → ⊥
  no_text key V.null k behind e = none-some (T.text k) e
  no_text key (V.boolean b) k behind e = layer_no_text (plainly key) (Some (L.boolean b)) k behind e
  no_text key (V.integer i) k behind e = layer_no_text (plainly key) (Some (L.integer i)) k behind e
  no_text key (V.text s) k behind e = layer_no_text (plainly key) (Some (L.text s)) k behind e
  no_text key (V.bytes s) k behind e = layer_no_text (plainly key) (Some (L.bytes s)) k behind e
  no_text key (V.link s) k behind e = layer_no_text (plainly key) (Some (L.link s)) k behind e
  no_text key (V.any d) k behind e = layer_no_text (plainly key) (Some (L.any d)) k behind e
  no_text key V.unit k behind e = layer_no_text (plainly key) (Some L.unit) k behind e
  no_text key (V.enum i) k behind e = layer_no_text (plainly key) (Some (L.enum i)) k behind e
  no_text key (V.hamt d) k behind e = layer_no_text (plainly key) (Some (L.hamt d)) k behind e
  no_text key (V.list vs) k behind e =
      layer_no_text (plainly key) (option_map L.list (option_and_then (λ u. represented_values alone longer u vs) (element_of (form_of longer (plainly key))))) k behind e
  no_text key (V.map ps) k behind e =
      layer_no_text (plainly key) (option_map L.map (option_and_then (λ u. represented_pairs alone longer u ps) (element_of (form_of longer (plainly key))))) k behind e
  no_text key (V.struct os) k behind e = layer_no_text (plainly key) (option_map L.struct (represented_fields alone longer (fields_of (form_of longer (plainly key))) os)) k behind e
  no_text key (V.union i v) k behind e =
      layer_no_text (plainly key) (option_map (L.union i) (option_and_then (λ u. represented alone longer u v) (member_of (form_of longer (plainly key)) i))) k behind e

  keys_tested : TestsKeys longer others.is_key
  keys_tested key k = by (nat_lt key.0 (length rows)) refl
    where
      by : (b : Bool) → nat_lt key.0 (length rows) ≡ b → (cond b (t.is_key key.0 k) false ≡ true) ↔ (IsUtf8 k × IsTextOf longer key k)
      by true e =
          let less = ltb-true key.0 (length rows) e in (
            (λ passed. let x = (are.keys key k).0 passed in (x.0, text_over (length rows) longer rows alike key k less x.1)),
            (λ is. (are.keys key k).1 (is.0, text_over (length rows) rows longer (alike_back (length rows) longer rows alike) key k less is.1)),
          )
      by false e = ((λ passed. absurd cc), (λ is. let x = is.1.1 in absurd (no_text key x.0 k (ltb-false key.0 (length rows) e) x.2)))

  -- ---- values of the struct

  formed : (room : ℕ) (P : ℕ → Slot → Value → Type 0) (v : Value) → FormFits longer room P v (root_def n) → IsStructOrNull v
  formed room P V.null f = tt
  formed room P (V.struct os) f = tt
  formed room P v f = absurd f.1

  form_there : (room : ℕ) (P : ℕ → Slot → Value → Type 0) (v : Value) (o : Option TypeDef) → (o ≡ None) ⊎ (o ≡ Some (root_def n)) → IsSomeAnd o (FormFits longer room P v) → (o ≡ Some (root_def n)) × FormFits longer room P v (root_def n)
  form_there room P v o (inl none) f = absurd (subst (λ o. IsSomeAnd o (FormFits longer room P v)) none f)
  form_there room P v o (inr root) f = (root, subst (λ o. IsSomeAnd o (FormFits longer room P v)) root f)

  module _ (s : Slot) (behind : length rows ≤ s.ty.0) where
    there : (room : ℕ) (P : ℕ → Slot → Value → Type 0) (v : Value) → IsSomeAnd (form_of longer s) (FormFits longer room P v) → (form_of longer s ≡ Some (root_def n)) × FormFits longer room P v (root_def n)
    there room P v f = form_there room P v (form_of longer s) (forms_behind s.ty.0 behind) f

    shaped : (room : ℕ) (v : Value) → Fits longer room s v → IsStructOrNull v
    unfolding FitsPast
    shaped zero V.null f = tt
    shaped zero v f = formed zero (λ over u w. ⊥) v (there zero (λ over u w. ⊥) v f).1
    shaped (suc room) V.null f = tt
    shaped (suc room) v f = formed (suc room) (FitsPast longer room) v (there (suc room) (FitsPast longer room) v f).1

    -- a struct that fits has room for a level, and three parts that fit in one level less
    opened : (room : ℕ) (os : Optionals) → Fits longer room s (V.struct os) → (less : ℕ) × (room ≡ suc less) × (form_of longer s ≡ Some (root_def n)) × HasThree (Fits longer less) n os
    unfolding FitsPast
    opened zero os f = absurd (let none : 1 ≤ 0 = (there zero (λ over u w. ⊥) (V.struct os) f).1.0 in omega (arith, none))
    opened (suc room) os f = let x = there (suc room) (FitsPast longer room) (V.struct os) f in (room, refl, x.0, has_three (Fits longer room) n os x.1.1)

    null_fits : (room : ℕ) → (s.nullable ≡ true) ↔ Fits longer room s V.null
    unfolding FitsPast
    null_fits zero = ((λ p. p), (λ p. p))
    null_fits (suc room) = ((λ p. p), (λ p. p))

    module _ (form : form_of longer s ≡ Some (root_def n)) (a v b : Value) (first : OfType longer (plainly (number 7)) a) (second : OfType longer (plainly n) v) (third : OfType longer (plainly (number 4)) b) where
      seven : 7 < length rows
      seven = omega (arith, eight_there rows table)

      four : 4 < length rows
      four = omega (arith, eight_there rows table)

      fit_by : (room : ℕ) → (t.fits room (plainly (number 7)) a && (t.fits room (plainly n) v && t.fits room (plainly (number 4)) b)) ≡ true → Fits longer (suc room) s (V.struct (three a v b))
      fit_by room passed =
          let one = and_parts (t.fits room (plainly (number 7)) a) (t.fits room (plainly n) v && t.fits room (plainly (number 4)) b) passed in
          let two = and_parts (t.fits room (plainly n) v) (t.fits room (plainly (number 4)) b) one.1 in
          three_fit longer room s n a v b form ((low_test room (plainly (number 7)) a seven first).0 one.0) ((low_test room (plainly n) v low second).0 two.0)
          ((low_test room (plainly (number 4)) b four third).0 two.1)

      pass_by : (room : ℕ) → Fits longer room (plainly (number 7)) a → Fits longer room (plainly n) v → Fits longer room (plainly (number 4)) b
          → (t.fits room (plainly (number 7)) a && (t.fits room (plainly n) v && t.fits room (plainly (number 4)) b)) ≡ true
      pass_by room one two last =
          and_from (t.fits room (plainly (number 7)) a) (t.fits room (plainly n) v && t.fits room (plainly (number 4)) b) ((low_test room (plainly (number 7)) a seven first).1 one)
          (and_from (t.fits room (plainly n) v) (t.fits room (plainly (number 4)) b) ((low_test room (plainly n) v low second).1 two) ((low_test room (plainly (number 4)) b four third).1 last))

      three_tested : (room : ℕ) → (struct_fits t n room s (V.struct (three a v b)) ≡ true) ↔ Fits longer room s (V.struct (three a v b))
      three_tested zero = ((λ passed. absurd cc), (λ fits. absurd (let none = (opened zero (three a v b) fits).1 in cc)))
      three_tested (suc room) = ((λ passed. fit_by room passed), (λ fits. by (opened (suc room) (three a v b) fits)))
        where
          by : (less : ℕ) × (suc room ≡ suc less) × (form_of longer s ≡ Some (root_def n)) × HasThree (Fits longer less) n (three a v b)
              → (t.fits room (plainly (number 7)) a && (t.fits room (plainly n) v && t.fits room (plainly (number 4)) b)) ≡ true
          by (less, same, root, has) =
              let room_is : less ≡ room = (let e = same in omega (arith, e)) in
              let parts = subst (λ (r : ℕ). HasThree (Fits longer r) n (three a v b)) room_is has in
              let a_is : parts.a ≡ a = (let e = parts.is in cc) in
              let v_is : parts.v ≡ v = (let e = parts.is in cc) in
              let b_is : parts.b ≡ b = (let e = parts.is in cc) in
              pass_by room (subst (λ (w : Value). Fits longer room (plainly (number 7)) w) a_is parts.first) (subst (λ (w : Value). Fits longer room (plainly n) w) v_is parts.second)
              (subst (λ (w : Value). Fits longer room (plainly (number 4)) w) b_is parts.third)

    struct_tested : (room : ℕ) (os : Optionals) → OfType longer s (V.struct os) → (struct_fits t n room s (V.struct os) ≡ true) ↔ Fits longer room s (V.struct os)
    struct_tested room os (other, fits) =
        let x = opened other os fits in
        let has = x.3 in
        subst (λ (os : Optionals). (struct_fits t n room s (V.struct os) ≡ true) ↔ Fits longer room s (V.struct os)) (sym has.is)
        (three_tested x.2 has.a has.v has.b (x.0, has.first) (x.0, has.second) (x.0, has.third) room)

    high_test : (room : ℕ) (v : Value) → OfType longer s v → (struct_fits t n room s v ≡ true) ↔ Fits longer room s v
    high_test room V.null typed = null_fits room
    high_test room (V.struct os) typed = struct_tested room os typed
    high_test room v typed = absurd (shaped typed.0 v typed.1)

  rooms_tested : (room : ℕ) (s : Slot) (v : Value) → OfType longer s v → (others.fits room s v ≡ true) ↔ Fits longer room s v
  rooms_tested room s v typed = by (nat_lt s.ty.0 (length rows)) refl
    where
      by : (b : Bool) → nat_lt s.ty.0 (length rows) ≡ b → (cond b (t.fits room s v) (struct_fits t n room s v) ≡ true) ↔ Fits longer room s v
      by true e = low_test room s v (ltb-true s.ty.0 (length rows) e) typed
      by false e = high_test s (ltb-false s.ty.0 (length rows) e) room v typed

  pub tested : AreTests longer others
  tested = record { keys = keys_tested; rooms = rooms_tested }

pub structs_tested : StructsAreTested
structs_tested rows n table low tests are = tested rows n table low tests are
