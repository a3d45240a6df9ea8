-- How many parts a front has, beside those of its data.
use Rattle.std.proofs.Common.{◌≡◌, ℕ, suc, ◌+◌, ◌<◌, ◌≤◌, ◌^◌, List, [], ◌∷◌, length, Bool, true, false, cond, Option, Some, None, option_map, refl, sym, ◌∙◌, ap, subst, arith}
use Rattle.std.proofs.lemmas.Option.{same_Some}
use Rattle.ild_cbor.specs.Scalar.{count_of}
use Rattle.ild_cbor.specs.declared.piece.Piece.{Piece}
use Rattle.ild_data.specs.Data as T
use Rattle.ild_data.specs.Data.{Data}
use Rattle.ild_data.proofs.Lists.{length-items}
use Rattle.ild_view_entries.specs.Forms.{FormCount}
use Rattle.ild_layer_piece.specs.Answers.{Layered}
use Rattle.ild_schema.specs.Legible.{IsLegible}
use Rattle.ild_schema.specs.Slots.{form_of}
use Rattle.ild_schema.specs.Value as V
use Rattle.ild_schema.specs.Value.{Optionals, Value, optionals_list, values_list}
use Rattle.ild_schema.specs.declared.def.Field.{Field}
use Rattle.ild_schema.specs.declared.def.MapForm.{MapForm}
use Rattle.ild_schema.specs.declared.def.MapForm.TheVariants as MF
use Rattle.ild_schema.specs.declared.def.StructDef.{StructDef}
use Rattle.ild_schema.specs.declared.def.TypeDef.TheVariants as D
use Rattle.ild_schema.specs.declared.number.Slot.{Slot}
use Rattle.ild_schema.specs.declared.row.Row.{Row}
use Rattle.ild_struct.specs.Parts.{fields_of}
use Rattle.ild_struct.specs.Present.{HasPresent, IsWritten, PresentGives}
use Rattle.ild_struct.specs.declared.parts.StructParts.{StructParts}
use Rattle.ild_struct.specs.declared.present.Present.{Present}
use Rattle.ild_typed.specs.At.{seen}
use Rattle.ild_typed.specs.Fits.{Front}
use Rattle.ild_typed.specs.Hamt.{alone}
use Rattle.ild_typed.specs.Holder.{any_holder}
use Rattle.ild_typed.specs.Layer as L
use Rattle.ild_typed.specs.Layers.{FieldsFit}
use Rattle.ild_typed.specs.OfType.{OfType}
use Rattle.ild_typed.specs.Pieces.{is_null_there}
use Rattle.ild_typed.specs.Represented.{represented, represented_fields}
use Rattle.ild_typed.proofs.Basics.{map_from}
use Rattle.ild_typed.proofs.Entries.{both_from}
use Rattle.ild_view.proofs.Opening.{front_list, front_struct}
use Rattle.ild_view.proofs.Ordering.{FormKeyed, elements_beside, beside_count}
use Rattle.ild_view.proofs.Parting.{seen_by, seen_list, seen_struct}
use Rattle.ild_view.proofs.Reading.{struct_same}
use Rattle.ild_view.proofs.Tallying.{all_present, lack_length, present_most}
use Rattle.ild_view.specs.Counted.{MayLack, count_in, is_optional_at, optional_of, present_of, required_of}
use Rattle.ild_view.specs.Safe.{is_safe}

-- ---- data

any_counted : (t : Data) → count_of t ≡ count_in (any_holder t)
any_counted T.null = refl
any_counted (T.boolean b) = refl
any_counted (T.integer n) = refl
any_counted (T.text s) = refl
any_counted (T.bytes s) = refl
any_counted (T.list ds) = refl
any_counted (T.map ms) = refl
any_counted (T.link s) = refl

-- ---- fields

pub required_step : (f : Field) (fs : List Field) (b : Bool) → f.optional ≡ b → required_of (f ∷ fs) ≡ cond b (required_of fs) (suc (required_of fs))
required_step f fs b e = ap (λ c. cond c (required_of fs) (suc (required_of fs))) e

pub required_most : (fs : List Field) → required_of fs ≤ length fs
required_most [] = omega arith
required_most (f ∷ fs) = by f.optional (required_most fs) where
  by : (b : Bool) → required_of fs ≤ length fs → cond b (required_of fs) (suc (required_of fs)) ≤ suc (length fs)
  by true h = omega (arith, h)
  by false h = omega (arith, h)

-- so many of those that are left behind a front of them
pub record Tallied (fs : List Field) (whole : List (ℕ × Data)) (count : ℕ) (left : Present) : Type 0 where
  pub rest : List (ℕ × Data)
  pub has : HasPresent left rest
  pub sum : count + optional_of fs rest ≡ optional_of fs whole

pub tally_begin : (fs : List Field) (whole : List (ℕ × Data)) (s : Present) → HasPresent s whole → Tallied fs whole 0 s
tally_begin fs whole s h = record { rest = whole; has = h; sum = omega arith }

module _ (fs : List Field) (whole : List (ℕ × Data)) (count : ℕ) (s after : Present) (h : Tallied fs whole count s) where
  pub tally_on : (number : ℕ) (p : Piece) (b : Bool) → PresentGives s (Some (number, p)) after → b ≡ is_optional_at fs number → Tallied fs whole (cond b (count + 1) count) after
  tally_on number p b gives is = by h.rest h.has h.sum where
    by : (xs : List (ℕ × Data)) → HasPresent s xs → count + optional_of fs xs ≡ optional_of fs whole → Tallied fs whole (cond b (count + 1) count) after
    by [] has sum = absurd (gives [] has)
    by (x ∷ xs) has sum =
        let y = gives (x ∷ xs) has in
        let same : is_optional_at fs x.0 ≡ b = ap (is_optional_at fs) (sym y.number) ∙ sym is in
        record { rest = xs; has = y.left; sum = more b (optional_of fs xs) (ap (λ c. count + cond c (suc (optional_of fs xs)) (optional_of fs xs)) (sym same) ∙ sum) }
      where
        more : (c : Bool) (n : ℕ) → count + cond c (suc n) n ≡ optional_of fs whole → cond c (count + 1) count + n ≡ optional_of fs whole
        more true n e = omega (arith, e)
        more false n e = e

  pub tally_end : PresentGives s None after → count ≡ optional_of fs whole
  tally_end gives = by h.rest h.has h.sum where
    by : (xs : List (ℕ × Data)) → HasPresent s xs → count + optional_of fs xs ≡ optional_of fs whole → count ≡ optional_of fs whole
    by [] has sum = omega (arith, sum)
    by (x ∷ xs) has sum = absurd (gives (x ∷ xs) has)

  -- none is counted beyond the whole
  pub tally_least : count ≤ optional_of fs whole
  tally_least = let e = h.sum in omega (arith, e)

pub fields_counted : (fs : List Field) (parts : StructParts) (os : List (Option Data)) (present : Present) (required optional : ℕ) → length fs < 2 ^ 64 → fields_of parts ≡ fs → MayLack fs os
    → IsWritten (fields_of parts) os present → required ≡ required_of fs
    → ((xs : List (ℕ × Data)) → HasPresent present xs → optional_of fs xs < 2 ^ 64 → optional ≡ optional_of fs xs) → required + optional ≡ present_of os
fields_counted fs parts os present required optional few own lack written are count =
    let w = subst (λ (gs : List Field). IsWritten gs os present) own written in
    let all = all_present fs os w.parts w.present lack in
    let most = present_most os in
    let same = lack_length fs os lack in
    let is = count w.parts w.left (omega (arith, all, most, same, few)) in
    omega (arith, all, is, are)

pub counted_few : (fs : List Field) (os : List (Option Data)) → length fs < 2 ^ 64 → MayLack fs os → present_of os < 2 ^ 64
counted_few fs os few lack = let most = present_most os in let same = lack_length fs os lack in omega (arith, few, most, same)

-- ---- the parts of a struct's front

module _ (rows : List Row) where
  record Kept (fs : List Field) (os : Optionals) (ds : List (Option Data)) : Type 0 where
    lack : MayLack fs ds
    same : present_of ds ≡ present_of (optionals_list os)

  kept_of : (fs : List Field) (os : Optionals) (ds : List (Option Data)) → represented_fields alone rows fs os ≡ Some ds → FieldsFit (OfType rows) fs (optionals_list os) → Kept fs os ds
  kept_of [] V.no_optionals ds e fit = subst (Kept [] V.no_optionals) (same_Some [] ds e) (record { lack = tt; same = refl })
  kept_of [] (V.absent os) ds e fit = absurd fit
  kept_of [] (V.present v os) ds e fit = absurd fit
  kept_of (f ∷ fs) V.no_optionals ds e fit = absurd fit
  kept_of (f ∷ fs) (V.absent os) ds e fit =
      let b = map_from (λ xs. None ∷ xs) (represented_fields alone rows fs os) ds e in
      let k = kept_of fs os b.item b.there fit.1 in
      subst (Kept (f ∷ fs) (V.absent os)) (same_Some (None ∷ b.item) ds b.made) (record { lack = (fit.0, k.lack); same = k.same })
  kept_of (f ∷ fs) (V.present v os) ds e fit =
      let b = both_from (option_map Some (represented alone rows f.slot v)) (represented_fields alone rows fs os) ds e in
      let x = map_from Some (represented alone rows f.slot v) b.item b.first in
      let k = kept_of fs os b.items b.rest fit.1 in
      let all : Some x.item ∷ b.items ≡ ds = ap (λ (o : Option Data). o ∷ b.items) (same_Some (Some x.item) b.item x.made) ∙ b.all in
      subst (Kept (f ∷ fs) (V.present v os)) all (record { lack = k.lack; same = ap suc k.same })

module _ (rows : List Row) (legible : IsLegible rows) (s : Slot) (safe : is_safe rows s ≡ true) (room : ℕ) (f : Value) (t : Data) (front : Front rows room s f t) (some : is_null_there s t ≡ false) where
  pub list_count : (elem : Slot) (at : ℕ) → form_of rows s ≡ Some (D.List elem at) → count_of t ≡ count_in (seen rows (s, f))
  list_count elem at known =
      let x = front_list rows legible.clear s safe room f t front some elem at known in
      let same = beside_count rows elem (values_list x.items) x.parts (elements_beside rows elem x.items x.parts x.there x.fit) in
      ap count_of x.tree ∙ ap Some (length-items x.parts ∙ same) ∙ ap count_in (sym (seen_list rows legible.clear s safe room f t front some elem at known))

  pub any_count : form_of rows s ≡ Some D.Any → count_of t ≡ count_in (seen rows (s, f))
  any_count known = any_counted t ∙ ap count_in (sym (seen_by rows legible.clear s safe room f t front some D.Any known))

  pub struct_count : (def : StructDef) → form_of rows s ≡ Some (D.Struct def) → (os : List (Option Data)) → Layered rows s.ty.0 t (L.struct os)
      → MayLack def.fields os × (Some (present_of os) ≡ count_in (seen rows (s, f)))
  struct_count def known os layered =
      let x = front_struct rows legible.clear s safe room f t front some def known in
      let k = kept_of rows def.fields x.items x.parts x.there x.fit in
      let same : x.parts ≡ os = struct_same rows legible s safe room f t front some def known os layered in (
        subst (MayLack def.fields) same k.lack,
        ap (λ xs. Some (present_of xs)) (sym same) ∙ ap Some k.same ∙ ap count_in (sym (seen_struct rows legible.clear s safe room f t front some def known)),
      )

  pub map_counted : (form : MapForm) (es : List (List ℕ × Data)) (u : Slot) (r : Option ℕ) → FormKeyed rows u form es (seen rows (s, f)) → FormCount form es r → r ≡ count_in (seen rows (s, f))
  map_counted MF.Map es u r keyed found = found ∙ sym keyed.1
  map_counted MF.ListPairs es u r keyed found = found ∙ sym keyed.1
  map_counted (MF.StringPairs inner entry) es u r keyed found = found ∙ sym keyed.1
  map_counted (MF.Hamt p) es u r keyed found = found ∙ sym keyed.1
