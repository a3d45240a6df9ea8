-- What a turn of a loop over fields or entries meets.
use Rattle.std.proofs.Common.{◌≡◌, ℕ, zero, suc, ◌+◌, append_assoc, ◌<◌, List, [], ◌∷◌, ◌++◌, length, drop, Bool, true, false, cond, Option, Some, None, option_map, slice_get, get_or, refl, sym, ◌∙◌, ap, subst, arith}
use Rattle.std.specs.Prelude.{IsUtf8, option_and_then, Result, IfOk}
use Rattle.std.specs.Str.{IsCharBoundary}
use Rattle.std.proofs.Math.Seq.{drop-append_seam}
use Rattle.std.proofs.lemmas.Option.{none-some}
use Rattle.ild_data.proofs.Gets.{got_at, drop_at}
use Rattle.ild_schema.specs.declared.number.Slot.{Slot}
use Rattle.ild_schema.specs.declared.def.Field.{Field}
use Rattle.ild_schema.specs.declared.row.Row.{Row}
use Rattle.ild_schema.specs.declared.number.TypeNo.{TypeNo}
use Rattle.ild_schema.specs.declared.def.TypeDef.TheVariants as D
use Rattle.ild_schema.specs.declared.def.StructDef.{StructDef}
use Rattle.ild_schema.specs.declared.def.StructForm.TheVariants as S
use Rattle.ild_schema.specs.declared.def.MapForm.{MapForm}
use Rattle.ild_schema.specs.declared.def.MapForm.TheVariants as MF
use Rattle.ild_schema.specs.Clear.{IsGiven, ClearStruct, ClearMap}
use Rattle.ild_schema.specs.Copies.{base}
use Rattle.ild_schema.specs.Delims.{HasDelims, MapDelims}
use Rattle.ild_schema.specs.Fitting.{FittingType}
use Rattle.ild_schema.specs.Legible.{IsLegible}
use Rattle.ild_schema.specs.Slots.{form_of}
use Rattle.ild_schema.specs.Joins.{pair_text}
use Rattle.ild_schema.specs.Marks.{field_text}
use Rattle.ild_schema.specs.Value.{Value}
use Rattle.ild_typed.specs.Strings.{cons_both}
use Rattle.ild_typed.specs.Texts.{is_parted}
use Rattle.ild_build.specs.LeftOut.{is_left_out}
use Rattle.ild_build.specs.PartAt.{field_at}
use Rattle.ild_build.specs.TextRep.{text_rep, Appended, TextAnswer}
use Rattle.ild_build.specs.inside.TextParts.{field_texts, field_pairs, entry_texts, pair_added}
use Rattle.ild_build.proofs.PartTests.{field_is}
use Rattle.ild_build.proofs.Seams.{seam}

-- ---- what stands at a place

pub got : {A : Type 0} (xs ys : List A) (i : ℕ) (x : A) → xs ≡ ys → i < length xs → x ≡ get_or xs i x → slice_get ys i ≡ Some x
got xs ys i x same h e = subst (λ zs. slice_get zs i ≡ Some x) same (got_at xs i x h e)

pub value_got : (os : List (Option Value)) (i : ℕ) (v : Value) → field_at os i ≡ Some v → slice_get os i ≡ Some (Some v)
value_got os i v e = field_is os i v (slice_get os i) refl e

none_got : (os : List (Option Value)) (i : ℕ) → i < length os → field_at os i ≡ None → slice_get os i ≡ Some None
none_got [] i h e = absurd (omega (arith, h))
none_got (None ∷ os) zero h e = refl
none_got (Some v ∷ os) zero h e = absurd (none-some v (sym e))
none_got (o ∷ os) (suc i) h e = none_got os i (omega (arith, h)) e

module _ (rows : List Row) where
  pub turn_text : (fs : List Field) (os : List (Option Value)) (i : ℕ) (f : Field) (v : Value) → slice_get fs i ≡ Some f → field_at os i ≡ Some v
      → field_texts rows (drop i fs) (drop i os) ≡ cons_both (text_rep rows f.slot v) (field_texts rows (drop (i + 1) fs) (drop (i + 1) os))
  turn_text fs os i f v a b =
      ap (λ xs. field_texts rows xs (drop i os)) (drop_at fs i f a) ∙ ap (λ xs. field_texts rows (f ∷ drop (i + 1) fs) xs) (drop_at os i (Some v) (value_got os i v b))

  pub turn_no_text : (fs : List Field) (os : List (Option Value)) (i : ℕ) (f : Field) → slice_get fs i ≡ Some f → i < length os → field_at os i ≡ None → field_texts rows (drop i fs) (drop i os) ≡ None
  turn_no_text fs os i f a h b =
      ap (λ xs. field_texts rows xs (drop i os)) (drop_at fs i f a) ∙ ap (λ xs. field_texts rows (f ∷ drop (i + 1) fs) xs) (drop_at os i None (none_got os i h b))

  pub turn_pair : (fs : List Field) (os : List (Option Value)) (i : ℕ) (f : Field) (v : Value) (b : Bool) → slice_get fs i ≡ Some f → field_at os i ≡ Some v → is_left_out f.implicit v ≡ b
      → field_pairs rows (drop i fs) (drop i os)
      ≡ cond b (field_pairs rows (drop (i + 1) fs) (drop (i + 1) os)) (cons_both (option_map {U = List ℕ × List ℕ} (λ t. (field_text f, t)) (text_rep rows f.slot v)) (field_pairs rows (drop (i + 1) fs) (drop (i + 1) os)))
  turn_pair fs os i f v b at value is =
      ap (λ xs. field_pairs rows xs (drop i os)) (drop_at fs i f at) ∙ ap (λ xs. field_pairs rows (f ∷ drop (i + 1) fs) xs) (drop_at os i (Some v) (value_got os i v value))
      ∙ ap (λ c. cond c (field_pairs rows (drop (i + 1) fs) (drop (i + 1) os)) (cons_both (option_map {U = List ℕ × List ℕ} (λ t. (field_text f, t)) (text_rep rows f.slot v)) (field_pairs rows (drop (i + 1) fs) (drop (i + 1) os)))) is

  pub turn_no_pair : (fs : List Field) (os : List (Option Value)) (i : ℕ) (f : Field) (b : Bool) → slice_get fs i ≡ Some f → i < length os → field_at os i ≡ None → f.optional ≡ b
      → field_pairs rows (drop i fs) (drop i os) ≡ cond b (field_pairs rows (drop (i + 1) fs) (drop (i + 1) os)) None
  turn_no_pair fs os i f b at h none is =
      ap (λ xs. field_pairs rows xs (drop i os)) (drop_at fs i f at) ∙ ap (λ xs. field_pairs rows (f ∷ drop (i + 1) fs) xs) (drop_at os i None (none_got os i h none))
      ∙ ap (λ c. cond c (field_pairs rows (drop (i + 1) fs) (drop (i + 1) os)) None) is

  pub turn_entry : (value : Slot) (ps : List (List ℕ × Value)) (i : ℕ) (k : List ℕ) (v : Value) → slice_get ps i ≡ Some (k, v)
      → entry_texts rows value (drop i ps) ≡ cons_both (option_map {U = List ℕ × List ℕ} (λ t. (k, t)) (text_rep rows value v)) (entry_texts rows value (drop (i + 1) ps))
  turn_entry value ps i k v e = ap (entry_texts rows value) (drop_at {X = List ℕ × Value} ps i (k, v) e)

-- ---- answers

pub no_answer : (made : Option (List ℕ)) (old new : List ℕ) (b : Bool) → TextAnswer made old new b → b ≡ false → made ≡ None
no_answer made old new false a e = a
no_answer made old new true a e = absurd (apart e)
  where
    apart : true ≡ false → ⊥
    apart h = absurd cc

pub an_answer : (made : Option (List ℕ)) (old new : List ℕ) (b : Bool) → TextAnswer made old new b → b ≡ true → Appended made old new
an_answer made old new true a e = a
an_answer made old new false a e = absurd (apart e)
  where
    apart : false ≡ true → ⊥
    apart h = absurd cc

-- ---- places in texts

pub range_ok : (all now first old text : List ℕ) (n : ℕ) → all ≡ now → IsUtf8 all → first ≡ old → IsUtf8 first → now ≡ old ++ text → n ≡ length old → IsCharBoundary all n
range_ok all now first old text n same utf8 begins_with first_utf8 out len = seam all first text n utf8 first_utf8 (same ∙ out ∙ ap (λ x. x ++ text) (sym begins_with)) (len ∙ ap length (sym begins_with))

pub given : (d : List ℕ) → IsGiven d → 0 < length d
given [] h = absurd h
given (c ∷ d) h = omega arith

-- ---- pairs and members

pub pair_answer : (before inner key old new : List ℕ) (o : Option (List ℕ)) (t : List ℕ) (b : Bool) → o ≡ Some t → b ≡ is_parted inner (key, t) → new ≡ old ++ (before ++ pair_text inner (key, t))
    → TextAnswer (option_and_then (pair_added before inner key) o) old new b
pair_answer before inner key old new o t true there parted out = record {
  text = before ++ pair_text inner (key, t);
  is = ap (option_and_then (pair_added before inner key)) there ∙ ap (λ c. cond c (Some (before ++ pair_text inner (key, t))) None) (sym parted);
  out = out;
}
pair_answer before inner key old new o t false there parted out =
    ap (option_and_then (pair_added before inner key)) there ∙ ap (λ c. cond c (Some (before ++ pair_text inner (key, t))) None) (sym parted)

-- a key, a delimiter and a text in turn
pub pair_out : (old start keyed parted new before inner key t : List ℕ) → start ≡ old ++ before → keyed ≡ start ++ key → parted ≡ keyed ++ inner → new ≡ parted ++ t → new ≡ old ++ (before ++ pair_text inner (key, t))
pair_out old start keyed parted new before inner key t a b c d =
    d ∙ ap (λ x. x ++ t) (c ∙ ap (λ x. x ++ inner) (b ∙ ap (λ x. x ++ key) a)) ∙ regroup old before key inner t
  where
    regroup : (a b c d e : List ℕ) → (((a ++ b) ++ c) ++ d) ++ e ≡ a ++ (b ++ (c ++ (d ++ e)))
    regroup a b c d e = simp append_assoc

pub pair_behind : (start keyed parted new inner key t : List ℕ) → keyed ≡ start ++ key → parted ≡ keyed ++ inner → new ≡ parted ++ t → new ≡ start ++ pair_text inner (key, t)
pair_behind start keyed parted new inner key t b c d = d ∙ ap (λ x. x ++ t) (c ∙ ap (λ x. x ++ inner) b) ∙ regroup start key inner t
  where
    regroup : (a b c d : List ℕ) → ((a ++ b) ++ c) ++ d ≡ a ++ (b ++ (c ++ d))
    regroup a b c d = simp append_assoc

-- the piece behind a place
pub piece_is : (all now first old text piece : List ℕ) (n : ℕ) → piece ≡ drop n all → all ≡ now → first ≡ old → now ≡ old ++ text → n ≡ length old → piece ≡ text
piece_is all now first old text piece n is same begins out len =
    is ∙ ap (drop n) (same ∙ out) ∙ ap (λ k. drop k (old ++ text)) len ∙ drop-append_seam old text

-- the same answer of the same text
pub answered : {E : Type 0} (m k : Option (List ℕ)) (old new : List ℕ) (r : Result Bool E) → m ≡ k → IfOk r (λ done. TextAnswer k old new done) → IfOk r (λ done. TextAnswer m old new done)
answered m k old new r e h = subst (λ o. IfOk r (λ done. TextAnswer o old new done)) (sym e) h

-- ---- what acceptance says of delimiters

module _ (rows : List Row) (legible : IsLegible rows) (s : Slot) where
  pub join_given : (sd : StructDef) (delim : List ℕ) → form_of rows s ≡ Some (D.Struct sd) → sd.form ≡ S.StringJoin delim → 0 < length delim
  join_given sd delim is form = by sd.fields (subst (λ f. HasDelims f sd.fields) form (legible.delims (base rows s.ty.0) (D.Struct sd) is))
    where
      by : (fs : List Field) → HasDelims (S.StringJoin delim) fs → 0 < length delim
      by [] h = absurd h
      by (f ∷ fs) h = given delim h

  pub fields_given : (sd : StructDef) (inner entry : List ℕ) → form_of rows s ≡ Some (D.Struct sd) → sd.form ≡ S.StringPairs inner entry → (0 < length inner) × (0 < length entry)
  fields_given sd inner entry is form = (
    given inner (subst (λ f. ClearStruct f sd.fields) form (legible.clear.types (base rows s.ty.0) (D.Struct sd) is)).1,
    given entry (subst (λ f. HasDelims f sd.fields) form (legible.delims (base rows s.ty.0) (D.Struct sd) is)),
  )

  pub map_given : (key : TypeNo) (key_at : ℕ) (value : Slot) (place : ℕ) (f : MapForm) (inner entry : List ℕ) → form_of rows s ≡ Some (D.Map key key_at value place f) → f ≡ MF.StringPairs inner entry
      → (0 < length inner) × (0 < length entry)
  map_given key key_at value place f inner entry is form = (
    given inner (subst ClearMap form (legible.clear.types (base rows s.ty.0) (D.Map key key_at value place f) is)),
    given entry (subst MapDelims form (legible.delims (base rows s.ty.0) (D.Map key key_at value place f) is)),
  )

  pub fitting : (sd : StructDef) → form_of rows s ≡ Some (D.Struct sd) → FittingType rows (D.Struct sd)
  fitting sd is = legible.fitting (base rows s.ty.0) (D.Struct sd) is
