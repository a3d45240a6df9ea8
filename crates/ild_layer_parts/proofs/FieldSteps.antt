-- The fields of a struct, one after another.
use Rattle.std.proofs.Common.{◌≡◌, ℕ, zero, suc, ◌+◌, ◌<◌, ◌≤◌, List, [], ◌∷◌, ◌++◌, length, drop, Bool, true, false, cond, not, Option, Some, None, refl, sym, ◌∙◌, ap, subst, arith}
use Rattle.std.specs.Prelude.{slice_get}
use Rattle.std.specs.List.{AllByRecursion}
use Rattle.std.proofs.lemmas.Option.{none-some, same_Some}
use Rattle.ild_data.proofs.Gets.{drop_past, drop_at}
use Rattle.ild_data.proofs.AllOf.{all_at}
use Rattle.ild_data.specs.Data as T
use Rattle.ild_data.specs.Data.{Data}
use Rattle.ild_data.specs.Tree.{IsTree}
use Rattle.ild_cbor.specs.declared.piece.Piece.{Piece}
use Rattle.ild_cbor.specs.declared.piece.Piece.TheVariants as Q
use Rattle.ild_layer_piece.specs.Pieces.{IsNumbered}
use Rattle.ild_schema.specs.Clear.{IsClear}
use Rattle.ild_schema.specs.Delims.{AllDelims}
use Rattle.ild_schema.specs.Fitting.{ImplicitFits}
use Rattle.ild_schema.specs.Copies.{base}
use Rattle.ild_schema.specs.Kinds.{meant}
use Rattle.ild_schema.specs.Legible.{IsLegible}
use Rattle.ild_schema.specs.Rules.{is_of}
use Rattle.ild_schema.specs.Slots.{form_of}
use Rattle.ild_schema.specs.declared.def.Field.{Field}
use Rattle.ild_schema.specs.declared.def.Scalar.{Scalar}
use Rattle.ild_schema.specs.declared.def.Scalar.TheVariants as C
use Rattle.ild_schema.specs.declared.def.StructDef.{StructDef}
use Rattle.ild_schema.specs.declared.def.TypeDef.{TypeDef}
use Rattle.ild_schema.specs.declared.def.TypeDef.TheVariants as D
use Rattle.ild_schema.specs.declared.number.Slot.{Slot}
use Rattle.ild_schema.specs.declared.row.Row.{Row}
use Rattle.ild_struct.specs.Parts.{HasParts, IsFieldOf, IsFieldPart, fields_of}
use Rattle.ild_struct.specs.declared.part.Part.{Part as Held}
use Rattle.ild_struct.specs.declared.parts.StructParts.{StructParts}
use Rattle.ild_typed.specs.Fields.{is_implicit}
use Rattle.ild_typed.specs.Fits.{Fits}
use Rattle.ild_typed.specs.Layers.{RepresentsSome}
use Rattle.ild_typed.specs.Spots.{Spot, Step, field_spots, field_steps, value_spot}
use Rattle.ild_typed.proofs.Structs.{scalar_data, scalar_same}
use Rattle.ild_typed.proofs.WalkTotal.{plain_fits}
use Rattle.ild_union.specs.Forms.{passes_over}
use Rattle.ild_layer_parts.specs.declared.part.Part.{Part}
use Rattle.ild_layer_places.specs.declared.way.Way.{Way}
use Rattle.ild_layer_parts.specs.Fields.{FieldsLeft, Handed, count_there, is_there, written_in}
use Rattle.ild_layer_parts.specs.Ways.{LeadsWay}
use Rattle.ild_layer_places.specs.Places.{steps_of}
use Rattle.ild_layer_parts.specs.Part.{FitsAnywhere, IsSpotted}
use Rattle.ild_layer_parts.proofs.Scalars.{bool_plain, int_plain, text_plain}

-- ---- a value that is left out

scalar_fits : (rows : List Row) → IsClear rows → AllDelims rows → (slot : Slot) (s : Scalar) (o : Option TypeDef) → form_of rows slot ≡ o → is_of s o ≡ true → IsTree (scalar_data s) → (room : ℕ)
    → RepresentsSome (Fits rows room) rows slot (scalar_data s)
scalar_fits rows clear delims slot (C.Bool a) (Some D.Bool) is h tree room =
    let p = bool_plain room (T.boolean a) refl in plain_fits rows slot (T.boolean a) tree clear delims D.Bool is room p.0 p.1
scalar_fits rows clear delims slot (C.Int a) (Some D.Int) is h tree room =
    let p = int_plain room (T.integer a) refl in plain_fits rows slot (T.integer a) tree clear delims D.Int is room p.0 p.1
scalar_fits rows clear delims slot (C.Text a) (Some D.Text) is h tree room =
    let p = text_plain room (T.text a) refl in plain_fits rows slot (T.text a) tree clear delims D.Text is room p.0 p.1
scalar_fits rows clear delims slot s o is h tree room = absurd cc

pub implicit_fits : (rows : List Row) → IsLegible rows → (f : Field) (d : Data) → ImplicitFits rows f → is_implicit f.implicit d ≡ true → FitsAnywhere rows (value_spot f.slot d [])
implicit_fits rows legible f d fits e = by f.implicit refl e where
  by : (o : Option Scalar) → f.implicit ≡ o → is_implicit o d ≡ true → FitsAnywhere rows (value_spot f.slot d [])
  by None is h = absurd cc
  by (Some s) is h = λ tree room.
      let same : d ≡ scalar_data s = scalar_same s d h in
      subst (λ x. RepresentsSome (Fits rows room) rows f.slot x) (sym same) (scalar_fits rows legible.clear legible.delims f.slot s (form_of rows f.slot) refl (fits s is) (subst IsTree same tree) room)

-- ---- how many fields are written

one_most : (f : Field) (o : Option Data) → count_there f o ≤ 1
one_most f o = by (is_there f o) where
  by : (b : Bool) → cond b 1 0 ≤ 1
  by true = omega arith
  by false = omega arith

pub written_low : (n : ℕ) (fs : List Field) (os : List (Option Data)) → written_in n fs os ≤ n
written_low zero fs os = omega arith
written_low (suc n) [] os = omega arith
written_low (suc n) (f ∷ fs) [] = omega arith
written_low (suc n) (f ∷ fs) (o ∷ os) = let more = written_low n fs os in let one = one_most f o in omega (arith, more, one)

pub written_more : (n : ℕ) (fs : List Field) (os : List (Option Data)) (f : Field) (o : Option Data) → slice_get fs n ≡ Some f → slice_get os n ≡ Some o
    → written_in (suc n) fs os ≡ written_in n fs os + count_there f o
written_more n [] os f o known at = absurd (none-some f known)
written_more n (g ∷ fs) [] f o known at = absurd (none-some o at)
written_more zero (g ∷ fs) (q ∷ os) f o known at =
    let same : count_there g q ≡ count_there f o = ap (λ x. count_there x q) (same_Some g f known) ∙ ap (λ x. count_there f x) (same_Some q o at) in
    omega (arith, same)
written_more (suc n) (g ∷ fs) (q ∷ os) f o known at = let more = written_more n fs os f o known at in omega (arith, more)

pub written_next : (n : ℕ) (fs : List Field) (os : List (Option Data)) (f : Field) (o : Option Data) → slice_get fs n ≡ Some f → slice_get os n ≡ Some o
    → written_in (n + 1) fs os ≡ written_in n fs os + count_there f o
written_next n fs os f o known at = let same : suc n ≡ n + 1 = omega arith in subst (λ k. written_in k fs os ≡ written_in n fs os + count_there f o) same (written_more n fs os f o known at)

-- ---- the first field

module _ (rows : List Row) (def : StructDef) (parts : StructParts) (next : ℕ) (ps : List Spot) (h : FieldsLeft rows def parts next ps) where
  pub fields_end : length def.fields ≤ next → ps ≡ []
  fields_end most =
      h.is ∙ ap (λ fs. field_spots def.form (written_in next def.fields h.held) fs (drop next h.held)) (drop_past def.fields next most) ∙ nothing (drop next h.held)
    where
      nothing : (os : List (Option Data)) → field_spots def.form (written_in next def.fields h.held) [] os ≡ []
      nothing [] = refl
      nothing (o ∷ os) = refl

  module _ (f : Field) (o : Option Data) (known : slice_get def.fields next ≡ Some f) (at : slice_get h.held next ≡ Some o) where
    abbrev Rest : ℕ → List Spot
    Rest n = field_spots def.form n (drop (next + 1) def.fields) (drop (next + 1) h.held)

    abbrev First : Option Data → List Spot
    First q = field_spots def.form (written_in next def.fields h.held) (f ∷ drop (next + 1) def.fields) (q ∷ drop (next + 1) h.held)

    all_are : ps ≡ First o
    all_are =
        h.is ∙ ap (λ fs. field_spots def.form (written_in next def.fields h.held) fs (drop next h.held)) (drop_at def.fields next f known)
        ∙ ap (λ os. field_spots def.form (written_in next def.fields h.held) (f ∷ drop (next + 1) def.fields) os) (drop_at h.held next o at)

    counted : written_in (next + 1) def.fields h.held ≡ written_in next def.fields h.held + count_there f o
    counted = written_next next def.fields h.held f o known at

    behind : (n : ℕ) → n ≡ written_in (next + 1) def.fields h.held → FieldsLeft rows def parts (next + 1) (Rest n)
    behind n same = record { legible = h.legible; fitting = h.fitting; ty = h.ty; tree = h.tree; held = h.held; are = h.are; same = h.same; is = ap (λ k. Rest k) same }

    abbrev Counts : Option Data → Type 0
    Counts q = written_in (next + 1) def.fields h.held ≡ written_in next def.fields h.held + count_there f q

    left_out : (d : Data) → Counts (Some d) → is_implicit f.implicit d ≡ true → written_in next def.fields h.held ≡ written_in (next + 1) def.fields h.held
    left_out d count e = let sum = count ∙ ap (λ b. written_in next def.fields h.held + cond (not b) 1 0) e in omega (arith, sum)

    stands_there : (d : Data) → Counts (Some d) → is_implicit f.implicit d ≡ false → written_in next def.fields h.held + 1 ≡ written_in (next + 1) def.fields h.held
    stands_there d count e = let sum = count ∙ ap (λ b. written_in next def.fields h.held + cond (not b) 1 0) e in omega (arith, sum)

    spots_left_out : (d : Data) → is_implicit f.implicit d ≡ true → First (Some d) ≡ value_spot f.slot d [] ∷ Rest (written_in next def.fields h.held)
    spots_left_out d e =
        ap (λ b. cond b (value_spot f.slot d [] ∷ Rest (written_in next def.fields h.held)) (value_spot f.slot d (field_steps def.form f (written_in next def.fields h.held)) ∷ Rest (written_in next def.fields h.held + 1))) e

    spots_there : (d : Data) → is_implicit f.implicit d ≡ false
        → First (Some d) ≡ value_spot f.slot d (field_steps def.form f (written_in next def.fields h.held)) ∷ Rest (written_in next def.fields h.held + 1)
    spots_there d e =
        ap (λ b. cond b (value_spot f.slot d [] ∷ Rest (written_in next def.fields h.held)) (value_spot f.slot d (field_steps def.form f (written_in next def.fields h.held)) ∷ Rest (written_in next def.fields h.held + 1))) e

    pub record Passed : Type 0 where
      pub taken : List Spot
      pub others : List Spot
      pub is : ps ≡ taken ++ others
      pub fit : AllByRecursion (FitsAnywhere rows) taken
      pub left : FieldsLeft rows def parts (next + 1) others

    pub field_passed : Handed rows f o None → Passed
    field_passed handed = by o all_are counted handed where
      by : (q : Option Data) → ps ≡ First q → Counts q → Handed rows f q None → Passed
      by None is count k = record { taken = []; others = Rest (written_in next def.fields h.held); is = is; fit = tt; left = behind (written_in next def.fields h.held) (omega (arith, count)) }
      by (Some d) is count k = record {
        taken = value_spot f.slot d [] ∷ [];
        others = Rest (written_in next def.fields h.held);
        is = is ∙ spots_left_out d k;
        fit = (implicit_fits rows h.legible f d (all_at (ImplicitFits rows) def.fields next f h.fitting known) k, tt);
        left = behind (written_in next def.fields h.held) (left_out d count k);
      }

    pub record Given (x : Part) : Type 0 where
      pub first : Spot
      pub others : List Spot
      pub is : ps ≡ first ∷ others
      pub spotted : IsSpotted rows x first
      pub left : FieldsLeft rows def parts (next + 1) others

    pub field_given : (p : Piece) (x : Part) (way : Way) → x ≡ record { slot = f.slot; piece = p; is_key = false; way = way } → Handed rows f o (Some p) → Given x
    field_given p x way same handed = by o all_are counted handed where
      by : (q : Option Data) → ps ≡ First q → Counts q → Handed rows f q (Some p) → Given x
      by None is count k = absurd k
      by (Some d) is count k = pick (is_implicit f.implicit d) refl where
        spotted : (steps : List Step) → IsSpotted rows x (value_spot f.slot d steps)
        spotted steps = subst (λ y. IsSpotted rows y (value_spot f.slot d steps)) (sym same) (record { slot = refl; key = refl; stands = k })

        pick : (b : Bool) → is_implicit f.implicit d ≡ b → Given x
        pick true e = record {
          first = value_spot f.slot d [];
          others = Rest (written_in next def.fields h.held);
          is = is ∙ spots_left_out d e;
          spotted = spotted [];
          left = behind (written_in next def.fields h.held) (left_out d count e);
        }
        pick false e = record {
          first = value_spot f.slot d (field_steps def.form f (written_in next def.fields h.held));
          others = Rest (written_in next def.fields h.held + 1);
          is = is ∙ spots_there d e;
          spotted = spotted (field_steps def.form f (written_in next def.fields h.held));
          left = behind (written_in next def.fields h.held + 1) (stands_there d count e);
        }

    -- where a piece is handed out, the field has data
    pub field_found : (p : Piece) → Handed rows f o (Some p) → (d : Data) × (slice_get h.held next ≡ Some (Some d))
    field_found p handed = by o at handed where
      by : (q : Option Data) → slice_get h.held next ≡ Some q → Handed rows f q (Some p) → (d : Data) × (slice_get h.held next ≡ Some (Some d))
      by None e k = absurd k
      by (Some d) e k = (d, e)

  module _ (f : Field) (d : Data) (known : slice_get def.fields next ≡ Some f) (at : slice_get h.held next ≡ Some (Some d)) where
    pub way_there : (way : Way) → is_implicit f.implicit d ≡ false → steps_of way ≡ field_steps def.form f (written_in next def.fields h.held) → LeadsWay way ps
    way_there way e leads = subst (LeadsWay way) (sym (all_are f (Some d) known at ∙ spots_there f (Some d) known at d e)) leads

    pub way_left_out : (way : Way) → is_implicit f.implicit d ≡ true → steps_of way ≡ [] → LeadsWay way ps
    way_left_out way e leads = subst (LeadsWay way) (sym (all_are f (Some d) known at ∙ spots_left_out f (Some d) known at d e)) leads

-- what stands for the field is what is handed out
pub record FieldAt (rows : List Row) (held : List (Option Data)) (next : ℕ) (f : Field) (part : Held) : Type 0 where
  pub content : Option Data
  pub at : slice_get held next ≡ Some content
  pub is : IsFieldPart rows f content part

pub field_at : (rows : List Row) (def : StructDef) (parts : StructParts) (next : ℕ) (ps : List Spot) (h : FieldsLeft rows def parts next ps) (i : ℕ) (f : Field) → slice_get def.fields i ≡ Some f
    → (part : Held) → IsFieldOf rows (fields_of parts) h.held i part → FieldAt rows h.held i f part
field_at rows def parts next ps h i f known part x =
    let there : Some f ≡ Some x.field = sym known ∙ ap (λ (fs : List Field). slice_get fs i) (sym h.same) ∙ x.there in
    record { content = x.held; at = x.at; is = subst (λ (g : Field). IsFieldPart rows g x.held part) (sym (same_Some f x.field there)) x.is }

pub field_there : (rows : List Row) (def : StructDef) (parts : StructParts) (next : ℕ) (ps : List Spot) (h : FieldsLeft rows def parts next ps) (f : Field) → slice_get def.fields next ≡ Some f
    → (part : Held) → IsFieldOf rows (fields_of parts) h.held next part → FieldAt rows h.held next f part
field_there rows def parts next ps h f known part x = field_at rows def parts next ps h next f known part x

-- a count goes on
pub count_on : (rows : List Row) (def : StructDef) (parts : StructParts) (next : ℕ) (ps : List Spot) (h : FieldsLeft rows def parts next ps) (i written more : ℕ)
    → (part : Held) → IsFieldOf rows (fields_of parts) h.held i part → ((f : Field) (o : Option Data) → IsFieldPart rows f o part → more ≡ count_there f o) → written ≡ written_in i def.fields h.held
    → written + more ≡ written_in (i + 1) def.fields h.held
count_on rows def parts next ps h i written more part x counts so_far =
    let known : slice_get def.fields i ≡ Some x.field = ap (λ (fs : List Field). slice_get fs i) (sym h.same) ∙ x.there in
    let step = written_next i def.fields h.held x.field x.held known x.at in
    let own = counts x.field x.held x.is in
    omega (arith, step, own, so_far)

pub implicit_told : (rows : List Row) (def : StructDef) (parts : StructParts) (next : ℕ) (ps : List Spot) (h : FieldsLeft rows def parts next ps) (f : Field) (d : Data) → slice_get def.fields next ≡ Some f
    → slice_get h.held next ≡ Some (Some d) → (part : Held) → IsFieldOf rows (fields_of parts) h.held next part → (b : Bool) → ((o : Option Data) → IsFieldPart rows f o part → b ≡ is_there f o) → is_implicit f.implicit d ≡ not b
implicit_told rows def parts next ps h f d known at part there b tells =
    let x = field_there rows def parts next ps h f known part there in
    let same : x.content ≡ Some d = same_Some x.content (Some d) (sym x.at ∙ at) in
    turned (is_implicit f.implicit d) b (tells x.content x.is ∙ ap (is_there f) same)
  where
    turned : (i c : Bool) → c ≡ not i → i ≡ not c
    turned true c e = sym (ap not e)
    turned false c e = sym (ap not e)

-- ---- the types of fields

pub field_low : (count : ℕ) (fs : List Field) (i : ℕ) (f : Field) → AllByRecursion (λ g. g.slot.ty.0 < count) fs → slice_get fs i ≡ Some f → f.slot.ty.0 < count
field_low count fs i f all e = all_at (λ g. g.slot.ty.0 < count) fs i f all e

pub plain_numbered : (rows : List Row) (p : Piece) → passes_over p ≡ false → IsNumbered rows p
plain_numbered rows (Q.Node n) e = tt
plain_numbered rows (Q.Text s) e = tt
plain_numbered rows (Q.Bytes s) e = tt
plain_numbered rows (Q.Inline n u) e = absurd cc

-- ---- from the first on

pub first_fields : (rows : List Row) → IsLegible rows → (ty : ℕ) (t : Data) (def : StructDef) → meant rows ty ≡ Some (D.Struct def) → (parts : StructParts) (h : HasParts rows ty t parts)
    → fields_of parts ≡ def.fields → FieldsLeft rows def parts 0 (field_spots def.form 0 def.fields h.0)
first_fields rows legible ty t def is parts h same =
    record { legible = legible; fitting = legible.fitting (base rows ty) (D.Struct def) is; ty = ty; tree = t; held = h.0; are = h.1; same = same; is = refl }
