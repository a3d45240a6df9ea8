-- The written fields of a struct in one pass, of which those in front of a number are values.
use Rattle.std.proofs.Common.{◌≡◌, ◌<◌, ◌≤◌, ℕ, zero, suc, ◌+◌, List, [], ◌∷◌, ◌++◌, drop, Bool, true, false, cond, not, Option, Some, None, refl, sym, ◌∙◌, ap, subst, arith}
use Rattle.std.specs.Prelude.{slice_get}
use Rattle.std.specs.List.{AllByRecursion}
use Rattle.ild_data.proofs.AllOf.{all_at, all_append}
use Rattle.ild_data.specs.Data.{Data}
use Rattle.ild_cbor.specs.declared.piece.Piece.{Piece}
use Rattle.ild_layer_piece.specs.Pieces.{StandsFor}
use Rattle.ild_schema.specs.Fitting.{ImplicitFits}
use Rattle.ild_schema.specs.declared.def.Field.{Field}
use Rattle.ild_schema.specs.declared.def.StructDef.{StructDef}
use Rattle.ild_schema.specs.declared.def.StructForm.{StructForm}
use Rattle.ild_schema.specs.declared.row.Row.{Row}
use Rattle.ild_struct.specs.declared.parts.StructParts.{StructParts}
use Rattle.ild_struct.specs.declared.present.Present.{Present}
use Rattle.ild_struct.specs.Parts.{fields_of}
use Rattle.ild_struct.specs.Present.{ArePresent, HasPresent, PresentGives}
use Rattle.ild_typed.specs.Fields.{is_implicit}
use Rattle.ild_typed.specs.Spots.{Spot, field_spots, field_steps, value_spot}
use Rattle.ild_layer_parts.specs.Fields.{FieldsLeft, is_there, written_in}
use Rattle.ild_layer_parts.specs.inside.Leaf.{IsFitAt, PassesOver}
use Rattle.ild_layer_parts.specs.Part.{FitsAnywhere}
use Rattle.ild_layer_parts.proofs.FieldSteps.{implicit_fits}

-- in front of a number, the fields with these data are values
abbrev pub FitBefore : List Row → List Field → ℕ → ℕ × Data → Type 0
FitBefore rows fs first x = x.0 < first → IsFitAt rows fs x.0 x.1

pub record Sweeping (rows : List Row) (fs : List Field) (all : List (ℕ × Data)) (first : ℕ) (s : Present) : Type 0 where
  pub done : List (ℕ × Data)
  pub left : List (ℕ × Data)
  pub is : all ≡ done ++ left
  pub has : HasPresent s left
  pub fit : AllByRecursion (FitBefore rows fs first) done

pub sweep_begins : (rows : List Row) (fs : List Field) (all : List (ℕ × Data)) (first : ℕ) (s : Present) → HasPresent s all → Sweeping rows fs all first s
sweep_begins rows fs all first s has = record { done = []; left = all; is = refl; has = has; fit = tt }

pub sweep_on : (rows : List Row) (fs : List Field) (all : List (ℕ × Data)) (first next : ℕ) (s t : Present) (r : ℕ × Piece) → Sweeping rows fs all first s → PresentGives s (Some r) t → next ≤ first
    → (r.0 < next → (d : Data) → StandsFor rows r.1 d → IsFitAt rows fs r.0 d) → Sweeping rows fs all next t
sweep_on rows fs all first next s t r w gives less fits = by w.left w.is w.has where
  fewer : (xs : List (ℕ × Data)) → AllByRecursion (FitBefore rows fs first) xs → AllByRecursion (FitBefore rows fs next) xs
  fewer [] h = tt
  fewer (x ∷ xs) h = ((λ low. h.0 (omega (arith, low, less))), fewer xs h.1)

  joined : (xs : List (ℕ × Data)) (y : ℕ × Data) (ys : List (ℕ × Data)) → xs ++ y ∷ ys ≡ (xs ++ y ∷ []) ++ ys
  joined [] y ys = refl
  joined (x ∷ xs) y ys = ap (λ l. x ∷ l) (joined xs y ys)

  by : (left : List (ℕ × Data)) → all ≡ w.done ++ left → HasPresent s left → Sweeping rows fs all next t
  by [] is has = absurd (gives [] has)
  by (x ∷ xs) is has =
      let k = gives (x ∷ xs) has in
      let own : FitBefore rows fs next x = λ low. subst (λ i. IsFitAt rows fs i x.1) k.number (fits (subst (λ i. i < next) (sym k.number) low) x.1 (k.stands rows)) in
      record { done = w.done ++ x ∷ []; left = xs; is = is ∙ joined w.done x xs; has = k.left; fit = all_append (FitBefore rows fs next) w.done (x ∷ []) (fewer w.done w.fit) (own, tt) }

pub sweep_ends : (rows : List Row) (fs : List Field) (all : List (ℕ × Data)) (first : ℕ) (s t : Present) → Sweeping rows fs all first s → PresentGives s None t → AllByRecursion (FitBefore rows fs first) all
sweep_ends rows fs all first s t w gives = by w.left w.is w.has where
  nothing_behind : (xs : List (ℕ × Data)) → xs ++ [] ≡ xs
  nothing_behind [] = refl
  nothing_behind (x ∷ xs) = ap (λ l. x ∷ l) (nothing_behind xs)

  by : (left : List (ℕ × Data)) → all ≡ w.done ++ left → HasPresent s left → AllByRecursion (FitBefore rows fs first) all
  by [] is has = subst (AllByRecursion (FitBefore rows fs first)) (sym (is ∙ nothing_behind w.done)) w.fit
  by (x ∷ xs) is has = absurd (gives (x ∷ xs) has)

-- ---- the spots of the fields in front of a number

pub record SpotsBehind (rows : List Row) (form : StructForm) (at : ℕ) (fs : List Field) (os : List (Option Data)) (ps : List Spot) : Type 0 where
  pub taken : List Spot
  pub is : ps ≡ taken ++ field_spots form at fs os
  pub fit : AllByRecursion (FitsAnywhere rows) taken

no_data : (form : StructForm) (at : ℕ) (fs : List Field) → field_spots form at fs [] ≡ []
no_data form at [] = refl
no_data form at (f ∷ fs) = refl

-- one more field in front
spots_one : (rows : List Row) (form : StructForm) (at n : ℕ) (f : Field) (d : Data) (fs gs : List Field) (os qs : List (Option Data)) → FitsAnywhere rows (value_spot f.slot d [])
    → SpotsBehind rows form (at + n) gs qs (field_spots form at fs os) → SpotsBehind rows form (at + 1 + n) gs qs (field_spots form (at + 1) fs os)
    → SpotsBehind rows form (at + (cond (is_there f (Some d)) 1 0 + n)) gs qs (field_spots form at (f ∷ fs) (Some d ∷ os))
spots_one rows form at n f d fs gs os qs own same more = by (is_implicit f.implicit d) refl where
  by : (b : Bool) → is_implicit f.implicit d ≡ b → SpotsBehind rows form (at + (cond (is_there f (Some d)) 1 0 + n)) gs qs (field_spots form at (f ∷ fs) (Some d ∷ os))
  by true e =
      let count : at + n ≡ at + (cond (not true) 1 0 + n) = omega arith in
      subst (λ k. SpotsBehind rows form k gs qs (field_spots form at (f ∷ fs) (Some d ∷ os))) (count ∙ ap (λ b. at + (cond (not b) 1 0 + n)) (sym e)) (record {
        taken = value_spot f.slot d [] ∷ same.taken;
        is = ap (λ b. cond b (value_spot f.slot d [] ∷ field_spots form at fs os) (value_spot f.slot d (field_steps form f at) ∷ field_spots form (at + 1) fs os)) e ∙ ap (λ ps. value_spot f.slot d [] ∷ ps) same.is;
        fit = ((λ tree room. own tree room), same.fit);
      })
  by false e =
      let count : at + 1 + n ≡ at + (cond (not false) 1 0 + n) = omega arith in
      subst (λ k. SpotsBehind rows form k gs qs (field_spots form at (f ∷ fs) (Some d ∷ os))) (count ∙ ap (λ b. at + (cond (not b) 1 0 + n)) (sym e)) (record {
        taken = value_spot f.slot d (field_steps form f at) ∷ more.taken;
        is = ap (λ b. cond b (value_spot f.slot d [] ∷ field_spots form at fs os) (value_spot f.slot d (field_steps form f at) ∷ field_spots form (at + 1) fs os)) e
            ∙ ap (λ ps. value_spot f.slot d (field_steps form f at) ∷ ps) more.is;
        fit = ((λ tree room. own tree room), more.fit);
      })

spots_behind : (rows : List Row) (form : StructForm) (at n : ℕ) (fs : List Field) (os : List (Option Data)) → ((i : ℕ) (f : Field) (d : Data) → i < n → slice_get fs i ≡ Some f → slice_get os i ≡ Some (Some d) → FitsAnywhere rows (value_spot f.slot d []))
    → SpotsBehind rows form (at + written_in n fs os) (drop n fs) (drop n os) (field_spots form at fs os)
spots_behind rows form at zero fs os all = let same : at ≡ at + 0 = omega arith in record { taken = []; is = ap (λ k. field_spots form k fs os) same; fit = tt }
spots_behind rows form at (suc n) [] os all = record { taken = []; is = refl; fit = tt }
spots_behind rows form at (suc n) (f ∷ fs) [] all = record { taken = []; is = sym (no_data form (at + 0) (drop n fs)); fit = tt }
spots_behind rows form at (suc n) (f ∷ fs) (None ∷ os) all =
    let x = spots_behind rows form at n fs os (λ i g d low known held. all (suc i) g d (omega (arith, low)) known held) in
    let same : at + written_in n fs os ≡ at + (0 + written_in n fs os) = omega arith in
    subst (λ k. SpotsBehind rows form k (drop n fs) (drop n os) (field_spots form at fs os)) same x
spots_behind rows form at (suc n) (f ∷ fs) (Some d ∷ os) all =
    let later : (i : ℕ) (g : Field) (u : Data) → i < n → slice_get fs i ≡ Some g → slice_get os i ≡ Some (Some u) → FitsAnywhere rows (value_spot g.slot u []) =
    λ i g u low known held. all (suc i) g u (omega (arith, low)) known held in
    spots_one rows form at (written_in n fs os) f d fs (drop n fs) os (drop n os) (all 0 f d (omega arith) refl refl) (spots_behind rows form at n fs os later) (spots_behind rows form (at + 1) n fs os later)

-- where all written fields in front of a number are values, all fields there are passed over
pub fields_pass : (rows : List Row) (def : StructDef) (parts : StructParts) (next : ℕ) → next ≡ 0 → (first : ℕ) (ps : List Spot) (h : FieldsLeft rows def parts next ps) (all : List (ℕ × Data)) → ArePresent (fields_of parts) h.held all
    → AllByRecursion (FitBefore rows def.fields first) all → PassesOver rows ps (FieldsLeft rows def parts first)
fields_pass rows def parts next begun first ps h all present fit =
    let x = spots_behind rows def.form 0 first def.fields h.held (λ i f d low known held. own i f d low known held (is_implicit f.implicit d) refl) in
    let begin : ps ≡ field_spots def.form 0 def.fields h.held = h.is ∙ ap (λ n. field_spots def.form (written_in n def.fields h.held) (drop n def.fields) (drop n h.held)) begun in
    let count : 0 + written_in first def.fields h.held ≡ written_in first def.fields h.held = omega arith in
    record {
      taken = x.taken;
      others = field_spots def.form (0 + written_in first def.fields h.held) (drop first def.fields) (drop first h.held);
      is = begin ∙ x.is;
      fit = x.fit;
      left = record { legible = h.legible; fitting = h.fitting; ty = h.ty; tree = h.tree; held = h.held; are = h.are; same = h.same; is = ap (λ k. field_spots def.form k (drop first def.fields) (drop first h.held)) count };
    }
  where
    own : (i : ℕ) (f : Field) (d : Data) → i < first → slice_get def.fields i ≡ Some f → slice_get h.held i ≡ Some (Some d) → (b : Bool) → is_implicit f.implicit d ≡ b → FitsAnywhere rows (value_spot f.slot d [])
    own i f d low known held true e = implicit_fits rows h.legible f d (all_at (ImplicitFits rows) def.fields i f h.fitting known) e
    own i f d low known held false e =
        let k = present.whole i f d (subst (λ fs. slice_get fs i ≡ Some f) (sym h.same) known) held e in
        all_at (FitBefore rows def.fields first) all k.0 (i, d) fit k.1 low f known
