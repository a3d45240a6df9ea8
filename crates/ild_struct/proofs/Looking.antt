-- A field's data, by its name among entries and by its place among items.
use Rattle.std.proofs.Common.{◌≡◌, ℕ, zero, suc, ◌<◌, List, [], ◌∷◌, length, Bool, true, false, cond, Option, Some, None, option_map, refl, sym, ◌∙◌, ap, subst, arith}
use Rattle.std.specs.Prelude.{slice_get, option_and_then}
use Rattle.std.specs.List.{AllByRecursion}
use Rattle.std.proofs.lemmas.Option.{same_Some, none-some}
use Rattle.std.proofs.lemmas.Bool.{and_parts}
use Rattle.ild_typed.proofs.Unions.{text_same_data}
use Rattle.ild_typed.proofs.CleanStructs.{texts_count}
use Rattle.ild_data.proofs.AllOf.{all_at}
use Rattle.ild_data.specs.Data as T
use Rattle.ild_data.specs.Data.{Data}
use Rattle.ild_data.specs.Key.{value_at}
use Rattle.ild_data.proofs.Lists.{members_list-members_of}
use Rattle.ild_cbor.specs.Nodes.{HasData}
use Rattle.ild_cbor.specs.declared.node.Node.{Node}
use Rattle.ild_schema.specs.Clear.{AreNamesApart}
use Rattle.ild_schema.specs.Delims.{HasDelims}
use Rattle.ild_schema.specs.Marks.{field_text}
use Rattle.ild_schema.specs.declared.def.Field.{Field}
use Rattle.ild_schema.specs.declared.def.StructForm.TheVariants as S
use Rattle.ild_schema.specs.declared.row.Row.{Row}
use Rattle.ild_typed.specs.Composed.{struct_form}
use Rattle.ild_typed.specs.Cuts.{parted}
use Rattle.ild_typed.specs.Fields.{is_implicit, field_entries, are_absent, tuple_items, all_items}
use Rattle.ild_typed.specs.Texts.{join}
use Rattle.ild_typed.specs.Strings.{in_key_order, map_data, members_in, text_in, texts_in, stringjoin}
use Rattle.ild_typed.proofs.Basics.{map_from, then_from, true_from}
use Rattle.ild_typed.proofs.Entries.{both_from, only_text_data, value_sorted}
use Rattle.ild_typed.proofs.CleanTexts.{parted_join}
use Rattle.ild_typed.proofs.Structs.{all_count, field_from, look, past, not_there}
use Rattle.ild_layer_piece.specs.Entries.{Found}
use Rattle.ild_struct.specs.Parts.{IsFieldPart}
use Rattle.ild_struct.specs.inside.Reading.{IsLookedUp, shown}
use Rattle.ild_struct.specs.declared.part.Part.{Part}

-- ---- by its name

-- the field at a place, and what is found under its name
pub record Keyed (f : Field) (os : List (Option Data)) (i : ℕ) (found : Option Data) : Type 0 where
  pub held : Option Data
  pub at : slice_get os i ≡ Some held
  pub looked : found ≡ shown f held
  pub absent : held ≡ None → f.optional ≡ true

apart_turn : (f : Field) (gs : List Field) (i : ℕ) (g : Field) → AllByRecursion (λ h. field_text f ≡ field_text h → ⊥) gs → slice_get gs i ≡ Some g → field_text g ≡ field_text f → ⊥
apart_turn f gs i g all at same = all_at (λ h. field_text f ≡ field_text h → ⊥) gs i g all at (sym same)

pub keyed : (fs : List Field) (os : List (Option Data)) (es : List (List ℕ × Data)) (i : ℕ) (f : Field) → AreNamesApart fs → field_entries fs os ≡ Some es → slice_get fs i ≡ Some f
    → Keyed f os i (value_at (field_text f) es)
keyed [] os es i f apart made at = absurd (none-some f at)
keyed (g ∷ fs) [] es i f apart made at = absurd (none-some es made)
keyed (g ∷ fs) (o ∷ os) es zero f apart made at =
    let x = field_from g fs o os es made in
    let found : value_at (field_text g) es ≡ shown g o = ap (value_at (field_text g)) x.is ∙ look g o x.rest (not_there (field_text g) fs os x.rest apart.0 x.later) in
    subst (λ h. Keyed h (o ∷ os) zero (value_at (field_text h) es)) (same_Some g f at) (record { held = o; at = refl; looked = found; absent = x.absent })
keyed (g ∷ fs) (o ∷ os) es (suc i) f apart made at =
    let x = field_from g fs o os es made in
    let rest = keyed fs os x.rest i f apart.1 x.later at in
    record {
      held = rest.held;
      at = rest.at;
      looked = ap (value_at (field_text f)) x.is ∙ past (field_text f) g o x.rest (apart_turn g fs i f apart.0 at) ∙ rest.looked;
      absent = rest.absent;
    }

-- in a map
pub map_keyed : (fs : List Field) (os : List (Option Data)) (t : Data) (i : ℕ) (f : Field) → AreNamesApart fs → struct_form S.Map fs os ≡ Some t → slice_get fs i ≡ Some f
    → Keyed f os i (option_and_then (value_at (field_text f)) (members_in t))
map_keyed fs os t i f apart made at =
    let x = map_from (λ es. map_data (in_key_order es)) (field_entries fs os) t made in
    let same : option_and_then (value_at (field_text f)) (members_in t) ≡ value_at (field_text f) x.item =
    ap (λ u. option_and_then (value_at (field_text f)) (members_in u)) (sym (same_Some (map_data (in_key_order x.item)) t x.made))
    ∙ ap (value_at (field_text f)) (members_list-members_of (in_key_order x.item)) ∙ value_sorted (field_text f) x.item in
    subst (Keyed f os i) (sym same) (keyed fs os x.item i f apart x.there at)

-- the part of what was found
pub keyed_part : (rows : List Row) (f : Field) (n : Node) (part : Part) → ((d : Data) → HasData n d → is_implicit f.implicit d ≡ false → IsFieldPart rows f (Some d) part)
    → (o : Option Data) → IsLookedUp f o → Found (shown f o) (Some n) → IsFieldPart rows f o part
keyed_part rows f n part held None l found = absurd found
keyed_part rows f n part held (Some d) l found = by (is_implicit f.implicit d) refl found where
  by : (b : Bool) → is_implicit f.implicit d ≡ b → Found (cond b None (Some d)) (Some n) → IsFieldPart rows f (Some d) part
  by true is here = absurd here
  by false is here = held d here is

pub placed_part : (rows : List Row) (f : Field) (n : Node) (part : Part) → ((d : Data) → HasData n d → is_implicit f.implicit d ≡ false → IsFieldPart rows f (Some d) part)
    → (o : Option Data) → f.implicit ≡ None → Found o (Some n) → IsFieldPart rows f o part
placed_part rows f n part held None plain found = absurd found
placed_part rows f n part held (Some d) plain found = held d found (ap (λ v. is_implicit v d) plain)

-- ---- by its place

pub record Placed (os : List (Option Data)) (i : ℕ) (found : Option Data) : Type 0 where
  pub held : Option Data
  pub at : slice_get os i ≡ Some held
  pub same : found ≡ held

absent_at : (fs : List Field) (os : List (Option Data)) (i : ℕ) → are_absent fs os ≡ true → i < length fs → slice_get os i ≡ Some None
absent_at [] os i none less = absurd (omega arith)
absent_at (f ∷ fs) [] i none less = absurd cc
absent_at (f ∷ fs) (Some d ∷ os) i none less = absurd cc
absent_at (f ∷ fs) (None ∷ os) zero none less = refl
absent_at (f ∷ fs) (None ∷ os) (suc i) none less = absent_at fs os i (and_parts f.optional (are_absent fs os) none).1 (omega arith)

pub placed : (fs : List Field) (os : List (Option Data)) (ds : List Data) (i : ℕ) → tuple_items fs os ≡ Some ds → i < length fs → Placed os i (slice_get ds i)
placed [] os ds i made less = absurd (omega arith)
placed (f ∷ fs) [] ds i made less = absurd (none-some ds made)
placed (f ∷ fs) (Some d ∷ os) ds i made less =
    let x = map_from (λ xs. d ∷ xs) (tuple_items fs os) ds made in
    subst (λ xs. Placed (Some d ∷ os) i (slice_get xs i)) (same_Some (d ∷ x.item) ds x.made) (by i less x.item (λ j below. placed fs os x.item j x.there below))
  where
    by : (j : ℕ) → j < suc (length fs) → (xs : List Data) → ((k : ℕ) → k < length fs → Placed os k (slice_get xs k)) → Placed (Some d ∷ os) j (slice_get (d ∷ xs) j)
    by zero below xs rest = record { held = Some d; at = refl; same = refl }
    by (suc j) below xs rest = let r = rest j (omega arith) in record { held = r.held; at = r.at; same = r.same }
placed (f ∷ fs) (None ∷ os) ds i made less =
    let x = true_from (are_absent (f ∷ fs) (None ∷ os)) [] ds made in
    subst (λ xs. Placed (None ∷ os) i (slice_get xs i)) x.1 (record { held = None; at = absent_at (f ∷ fs) (None ∷ os) i x.0 less; same = refl })

-- ---- parts of a joined text

-- the part of a text
pub record PartOf (os : List (Option Data)) (i : ℕ) (found : Option Data) : Type 0 where
  pub held : Option Data
  pub at : slice_get os i ≡ Some held
  pub same : found ≡ held

whole_at : (fs : List Field) (os : List (Option Data)) (ds : List Data) (i : ℕ) → all_items fs os ≡ Some ds → i < length fs → slice_get os i ≡ Some (slice_get ds i)
whole_at [] os ds i made less = absurd (omega arith)
whole_at (f ∷ fs) [] ds i made less = absurd (none-some ds made)
whole_at (f ∷ fs) (None ∷ os) ds i made less = absurd (none-some ds made)
whole_at (f ∷ fs) (Some d ∷ os) ds zero made less =
    let x = map_from (λ xs. d ∷ xs) (all_items fs os) ds made in
    ap (λ xs. Some (slice_get xs zero)) (same_Some (d ∷ x.item) ds x.made)
whole_at (f ∷ fs) (Some d ∷ os) ds (suc i) made less =
    let x = map_from (λ xs. d ∷ xs) (all_items fs os) ds made in
    whole_at fs os x.item i x.there (omega arith) ∙ ap (λ xs. Some (slice_get xs (suc i))) (same_Some (d ∷ x.item) ds x.made)

text_at : (ds : List Data) (ps : List (List ℕ)) (i : ℕ) → texts_in ds ≡ Some ps → option_map T.text (slice_get ps i) ≡ slice_get ds i
text_at [] ps i made = ap (λ qs. option_map T.text (slice_get qs i)) (sym (same_Some [] ps made))
text_at (d ∷ ds) ps zero made =
    let b = both_from (text_in d) (texts_in ds) ps made in
    ap (λ qs. option_map T.text (slice_get qs zero)) (sym b.all) ∙ ap Some (sym (only_text_data d b.item b.first))
text_at (d ∷ ds) ps (suc i) made =
    let b = both_from (text_in d) (texts_in ds) ps made in
    ap (λ qs. option_map T.text (slice_get qs (suc i))) (sym b.all) ∙ text_at ds b.items i b.rest

parted_parts : (delim : List ℕ) (fs : List Field) (ps : List (List ℕ)) (s : List ℕ) (i : ℕ) → HasDelims (S.StringJoin delim) fs → i < length fs → length ps ≡ length fs → join delim ps ≡ Some s → parted delim s ≡ ps
parted_parts delim [] ps s i given less n made = absurd given
parted_parts delim (f ∷ fs) [] s i given less n made = absurd (omega (arith, n))
parted_parts delim (f ∷ fs) (p ∷ ps) s i given less n made = parted_join delim given p ps s made

pub joined_at : (delim s : List ℕ) (fs : List Field) (os : List (Option Data)) (i : ℕ) → HasDelims (S.StringJoin delim) fs → i < length fs → struct_form (S.StringJoin delim) fs os ≡ Some (T.text s)
    → PartOf os i (option_map T.text (slice_get (parted delim s) i))
joined_at delim s fs os i given less made =
    let x = then_from (stringjoin delim) (all_items fs os) (T.text s) made in
    let y = map_from T.text (option_and_then (join delim) (texts_in x.item)) (T.text s) x.made in
    let z = then_from (join delim) (texts_in x.item) y.item y.there in
    let text : y.item ≡ s = text_same_data y.item s (same_Some (T.text y.item) (T.text s) y.made) in
    let cuts : parted delim s ≡ z.item = parted_parts delim fs z.item s i given less (texts_count x.item z.item z.there ∙ all_count fs os x.item x.there) (z.made ∙ ap Some text) in
    record {
      held = slice_get x.item i;
      at = whole_at fs os x.item i x.there less;
      same = ap (λ ps. option_map T.text (slice_get ps i)) cuts ∙ text_at x.item z.item i z.there;
    }
