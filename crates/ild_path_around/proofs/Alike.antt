-- Fronts break the delimiters that their values break.
use Rattle.std.proofs.Common.{◌≡◌, ℕ, List, [], ◌∷◌, ◌++◌, Bool, true, false, cond, ◌||◌, Option, Some, None, refl, sym, ◌∙◌, ap, subst}
use Rattle.std.specs.Prelude.{option_and_then, option_map}
use Rattle.std.specs.Option.{option_map_or}
use Rattle.std.proofs.lemmas.Option.{none-some, same_Some}
use Rattle.std.proofs.lemmas.Bool.{or_from, or_parts}
use Rattle.ild_data.specs.Data as T
use Rattle.ild_data.specs.Data.{Data}
use Rattle.ild_path_around.specs.Alike.{FrontsBreakAlike, SoundInside, breaks_inside}
use Rattle.ild_schema.specs.Marks.{field_text}
use Rattle.ild_schema.specs.Slots.{form_of}
use Rattle.ild_schema.specs.Value as V
use Rattle.ild_schema.specs.Value.{Optionals, Pairs, Value, Values}
use Rattle.ild_schema.specs.declared.def.Field.{Field}
use Rattle.ild_schema.specs.declared.def.MapForm.{MapForm}
use Rattle.ild_schema.specs.declared.def.MapForm.TheVariants as MF
use Rattle.ild_schema.specs.declared.def.Scalar.{Scalar}
use Rattle.ild_schema.specs.declared.def.Scalar.TheVariants as C
use Rattle.ild_schema.specs.declared.def.StructForm.{StructForm}
use Rattle.ild_schema.specs.declared.def.StructForm.TheVariants as S
use Rattle.ild_schema.specs.declared.def.TypeDef.{TypeDef}
use Rattle.ild_schema.specs.declared.def.TypeDef.TheVariants as D
use Rattle.ild_schema.specs.declared.number.Slot.{Slot}
use Rattle.ild_schema.specs.declared.row.Row.{Row}
use Rattle.ild_typed.proofs.Basics.{if_from, map_from, then_from}
use Rattle.ild_typed.proofs.Entries.{both_from}
use Rattle.ild_typed.proofs.Flat.{FlatFields, FlatPairs, IsFlat, fields_same, flat_text, pairs_same}
use Rattle.ild_data.specs.declared.hamt_shape.HamtShape.{HamtShape}
use Rattle.ild_typed.specs.EachLayer.{some_field, some_layer, some_pair, some_value}
use Rattle.ild_typed.specs.Fields.{all_items, entries_of, field_entries, is_implicit, is_scalar}
use Rattle.ild_typed.specs.Hamt.{a_map, alone, root_map, whole}
use Rattle.ild_typed.specs.Judged.{breaks, is_refused, map_breaks, struct_breaks}
use Rattle.ild_typed.specs.Layer.{Layer, as_hamt, as_map}
use Rattle.ild_typed.specs.Represented.{represented, represented_fields, represented_pairs}
use Rattle.ild_typed.specs.Slots.{element_of, fields_of, member_of}
use Rattle.ild_typed.specs.Strings.{cons_both, text_in, text_pairs, texts_in}
use Rattle.ild_typed.specs.Texts.{join, join_pairs}
use Rattle.ild_data.specs.Trie.{trie}
use Rattle.ild_typed_fronts.proofs.Representing.{fronts_represent}
use Rattle.ild_typed_fronts.specs.Front.{front, fronts_of_fields, fronts_of_pairs, fronts_of_values, is_hamt, root_of, root_or_map}

either_same : (a b c d : Bool) → a ≡ c → b ≡ d → (a || b) ≡ (c || d)
either_same a b c d x y = λ i. x i || y i

same_option : {A : Type 0} (o p : Option A) → ((x : A) → o ≡ Some x → p ≡ Some x) → ((x : A) → p ≡ Some x → o ≡ Some x) → o ≡ p
same_option None None f g = refl
same_option None (Some b) f g = g b refl
same_option (Some a) p f g = sym (f a refl)

-- ---- what has texts alone has no HAMT inside

flat_pairs : (ps : List (List ℕ × Data)) (ts : List (List ℕ × List ℕ)) → text_pairs ps ≡ Some ts → FlatPairs ps
flat_pairs [] ts e = tt
flat_pairs (p ∷ ps) ts e =
    let b = both_from (option_map {U = List ℕ × List ℕ} (λ s. (p.0, s)) (text_in p.1)) (text_pairs ps) ts e in
    let x = map_from {B = List ℕ × List ℕ} (λ s. (p.0, s)) (text_in p.1) b.item b.first in
    (flat_text p.1 x.item x.there, flat_pairs ps b.items b.rest)

flat_scalar : (s : Scalar) (d : Data) → is_scalar s d ≡ true → IsFlat d
flat_scalar (C.Bool a) (T.list ds) e = let k : false ≡ true = e in absurd cc
flat_scalar (C.Int a) (T.list ds) e = let k : false ≡ true = e in absurd cc
flat_scalar (C.Text a) (T.list ds) e = let k : false ≡ true = e in absurd cc
flat_scalar (C.Bool a) (T.map ms) e = let k : false ≡ true = e in absurd cc
flat_scalar (C.Int a) (T.map ms) e = let k : false ≡ true = e in absurd cc
flat_scalar (C.Text a) (T.map ms) e = let k : false ≡ true = e in absurd cc
flat_scalar s d e = tt

flat_implicit : (o : Option Scalar) (d : Data) → is_implicit o d ≡ true → IsFlat d
flat_implicit None d e = absurd cc
flat_implicit (Some s) d e = flat_scalar s d e

flat_entries : (fs : List Field) (os : List (Option Data)) (es : List (List ℕ × Data)) → field_entries fs os ≡ Some es → FlatPairs es → FlatFields os
flat_entries [] [] es e flat = tt
flat_entries [] (o ∷ os) es e flat = absurd (none-some es e)
flat_entries (f ∷ fs) [] es e flat = absurd (none-some es e)
flat_entries (f ∷ fs) (Some d ∷ os) es e flat =
    let x = map_from (λ r. entries_of f d ++ r) (field_entries fs os) es e in
    by (is_implicit f.implicit d) refl x.item (λ more. flat_entries fs os x.item x.there more) (subst FlatPairs (sym (same_Some (entries_of f d ++ x.item) es x.made)) flat)
  where
    by : (b : Bool) → is_implicit f.implicit d ≡ b → (r : List (List ℕ × Data)) → (FlatPairs r → FlatFields os) → FlatPairs (cond b [] ((field_text f, d) ∷ []) ++ r) → IsFlat d × FlatFields os
    by true is r later all = (flat_implicit f.implicit d is, later all)
    by false is r later all = (all.0, later all.1)
flat_entries (f ∷ fs) (None ∷ os) es e flat = (tt, flat_entries fs os es (if_from f.optional (field_entries fs os) es e).1 flat)

flat_items : (fs : List Field) (os : List (Option Data)) (ds : List Data) (ts : List (List ℕ)) → all_items fs os ≡ Some ds → texts_in ds ≡ Some ts → FlatFields os
flat_items [] [] ds ts e k = tt
flat_items [] (o ∷ os) ds ts e k = absurd (none-some ds e)
flat_items (f ∷ fs) [] ds ts e k = absurd (none-some ds e)
flat_items (f ∷ fs) (Some d ∷ os) ds ts e k =
    let x = map_from (λ r. d ∷ r) (all_items fs os) ds e in
    let b = both_from (text_in d) (texts_in x.item) ts (ap texts_in (same_Some (d ∷ x.item) ds x.made) ∙ k) in
    (flat_text d b.item b.first, flat_items fs os x.item b.items x.there b.rest)
flat_items (f ∷ fs) (None ∷ os) ds ts e k = absurd (none-some ds e)

is_flat : (d t : Data) → ◌≡◌ {A = Option Data} (Some d) (Some t) → IsFlat t → IsFlat d
is_flat d t e flat = subst IsFlat (sym (same_Some d t e)) flat

whole_never : (h : List ℕ → List ℕ) (p : HamtShape) (l : Layer Data) (t : Data) → whole h p l ≡ Some t → IsFlat t → ⊥
whole_never h p l t e flat = let x = map_from (root_map p) (option_and_then (λ es. trie h p es 0) (as_map l)) t e in is_flat (root_map p x.item) t x.made flat

map_never : (d t : Data) → a_map d ≡ Some t → IsFlat t → ⊥
map_never (T.map ms) t e flat = is_flat (T.map ms) t e flat
map_never d t e flat = none-some t e

alone_never : (p : HamtShape) (l : Layer Data) (t : Data) → alone p l ≡ Some t → IsFlat t → ⊥
alone_never p l t e flat = let x = then_from a_map (as_hamt l) t e in map_never x.item t x.made flat

-- ---- one layer, of two lists of data that are the same where they are texts

abbrev AreTextsAlike : Option (List (Option Data)) → Option (List (Option Data)) → Type 0
AreTextsAlike F G = (ds : List (Option Data)) → F ≡ Some ds → FlatFields ds → G ≡ Some ds

abbrev entry_texts : List Field → Option (List (Option Data)) → Option (List (List ℕ × List ℕ))
entry_texts fs o = option_and_then text_pairs (option_and_then (field_entries fs) o)

abbrev item_texts : List Field → Option (List (Option Data)) → Option (List (List ℕ))
item_texts fs o = option_and_then texts_in (option_and_then (all_items fs) o)

entries_alike : (fs : List Field) (F G : Option (List (Option Data))) → AreTextsAlike F G → (x : List (List ℕ × List ℕ)) → entry_texts fs F ≡ Some x → entry_texts fs G ≡ Some x
entries_alike fs F G same x e =
    let a = then_from text_pairs (option_and_then (field_entries fs) F) x e in
    let b = then_from (field_entries fs) F a.item a.there in
    ap (entry_texts fs) (same b.item b.there (flat_entries fs b.item a.item b.made (flat_pairs a.item x a.made))) ∙ ap (option_and_then text_pairs) b.made ∙ a.made

items_alike : (fs : List Field) (F G : Option (List (Option Data))) → AreTextsAlike F G → (x : List (List ℕ)) → item_texts fs F ≡ Some x → item_texts fs G ≡ Some x
items_alike fs F G same x e =
    let a = then_from texts_in (option_and_then (all_items fs) F) x e in
    let b = then_from (all_items fs) F a.item a.there in
    ap (item_texts fs) (same b.item b.there (flat_items fs b.item a.item x b.made a.made)) ∙ ap (option_and_then texts_in) b.made ∙ a.made

struct_alike : (form : StructForm) (fs : List Field) (F G : Option (List (Option Data))) → AreTextsAlike F G → AreTextsAlike G F → struct_breaks form fs F ≡ struct_breaks form fs G
struct_alike S.Map fs F G there back = refl
struct_alike S.Tuple fs F G there back = refl
struct_alike S.ListPairs fs F G there back = refl
struct_alike (S.StringPairs inner entry) fs F G there back =
    ap (is_refused (join_pairs inner entry)) (same_option (entry_texts fs F) (entry_texts fs G) (entries_alike fs F G there) (entries_alike fs G F back))
struct_alike (S.StringJoin delim) fs F G there back = ap (is_refused (join delim)) (same_option (item_texts fs F) (item_texts fs G) (items_alike fs F G there) (items_alike fs G F back))

abbrev ArePairsAlike : Option (List (List ℕ × Data)) → Option (List (List ℕ × Data)) → Type 0
ArePairsAlike F G = (ds : List (List ℕ × Data)) → F ≡ Some ds → FlatPairs ds → G ≡ Some ds

pairs_alike : (F G : Option (List (List ℕ × Data))) → ArePairsAlike F G → (x : List (List ℕ × List ℕ)) → option_and_then text_pairs F ≡ Some x → option_and_then text_pairs G ≡ Some x
pairs_alike F G same x e = let a = then_from text_pairs F x e in ap (option_and_then text_pairs) (same a.item a.there (flat_pairs a.item x a.made)) ∙ a.made

map_alike : (form : MapForm) (F G : Option (List (List ℕ × Data))) → ArePairsAlike F G → ArePairsAlike G F → map_breaks form F ≡ map_breaks form G
map_alike MF.Map F G there back = refl
map_alike MF.ListPairs F G there back = refl
map_alike (MF.StringPairs inner entry) F G there back =
    ap (is_refused (join_pairs inner entry)) (same_option (option_and_then text_pairs F) (option_and_then text_pairs G) (pairs_alike F G there) (pairs_alike G F back))
map_alike (MF.Hamt p) F G there back = refl

in_each : {X : Type 0} (f g : Slot → X → Bool) (t : Slot → X → X) (o : Option Slot) (x : X) → ((u : Slot) → g u x ≡ false → f u (t u x) ≡ f u x) → option_map_or (λ u. g u x) o false ≡ false
    → option_map_or (λ u. f u (option_map_or (λ u. t u x) o x)) o false ≡ option_map_or (λ u. f u x) o false
in_each f g t None x same free = refl
in_each f g t (Some u) x same free = same u free

module _ (h : List ℕ → List ℕ) (rows : List Row) where
  abbrev Inside : Option TypeDef → Value → Bool
  Inside = breaks_inside rows

  list_quiet : (F : Option TypeDef) (vs : Values) → breaks rows F (V.list vs) ≡ false
  list_quiet None vs = refl
  list_quiet (Some (D.Struct r)) vs = refl
  list_quiet (Some (D.Map k k_at elem at form)) vs = refl
  list_quiet (Some d) vs = refl

  union_quiet : (F : Option TypeDef) (n : ℕ) (v : Value) → breaks rows F (V.union n v) ≡ false
  union_quiet None n v = refl
  union_quiet (Some (D.Struct r)) n v = refl
  union_quiet (Some (D.Map k k_at elem at form)) n v = refl
  union_quiet (Some d) n v = refl

  same_fields : (os : Optionals) (fs : List Field) → represented_fields alone rows fs (fronts_of_fields h rows fs os) ≡ represented_fields (whole h) rows fs os
  same_fields V.no_optionals fs = refl
  same_fields (V.absent os) [] = refl
  same_fields (V.present v os) [] = refl
  same_fields (V.absent os) (f ∷ fs) = ap (option_map (λ ds. None ∷ ds)) (same_fields os fs)
  same_fields (V.present v os) (f ∷ fs) = λ i. cons_both (option_map Some (fronts_represent h rows f.slot v i)) (same_fields os fs i)

  same_pairs : (ps : Pairs) (u : Slot) → represented_pairs alone rows u (fronts_of_pairs h rows u ps) ≡ represented_pairs (whole h) rows u ps
  same_pairs V.no_pairs u = refl
  same_pairs (V.pair k v ps) u = λ i. cons_both (option_map (λ d. (k, d)) (fronts_represent h rows u v i)) (same_pairs ps u i)

  struct_layer : (F : Option TypeDef) (os : Optionals) → breaks rows F (V.struct (fronts_of_fields h rows (fields_of F) os)) ≡ breaks rows F (V.struct os)
  struct_layer None os = refl
  struct_layer (Some (D.Struct r)) os =
      ap (struct_breaks r.form r.fields) (same_fields os r.fields)
      ∙ struct_alike r.form r.fields (represented_fields (whole h) rows r.fields os) (represented_fields alone rows r.fields os)
      (λ ds e flat. fields_same (whole h) alone (whole_never h) rows r.fields os ds e flat) (λ ds e flat. fields_same alone (whole h) alone_never rows r.fields os ds e flat)
  struct_layer (Some (D.Map k k_at elem at form)) os = refl
  struct_layer (Some d) os = refl

  map_layer : (F : Option TypeDef) (ps : Pairs) → breaks rows F (V.map (option_map_or (λ u. fronts_of_pairs h rows u ps) (element_of F) ps)) ≡ breaks rows F (V.map ps)
  map_layer None ps = refl
  map_layer (Some (D.Struct r)) ps = refl
  map_layer (Some (D.Map k k_at elem at form)) ps =
      ap (map_breaks form) (same_pairs ps elem)
      ∙ map_alike form (represented_pairs (whole h) rows elem ps) (represented_pairs alone rows elem ps)
      (λ ds e flat. pairs_same (whole h) alone (whole_never h) rows elem ps ds e flat) (λ ds e flat. pairs_same alone (whole h) alone_never rows elem ps ds e flat)
  map_layer (Some d) ps = refl

  -- a HAMT shows nothing
  hamt_layer : (F : Option TypeDef) (ps : Pairs) → is_hamt F ≡ true → breaks_inside rows F (V.map ps) ≡ false → (breaks rows F (V.map ps) || option_map_or (λ u. some_pair (breaks rows) rows u ps) (element_of F) false) ≡ false
  hamt_layer None ps root free = absurd cc
  hamt_layer (Some (D.Map k k_at elem at (MF.Hamt p))) ps root free = free
  hamt_layer (Some (D.Map k k_at elem at MF.Map)) ps root free = absurd cc
  hamt_layer (Some (D.Map k k_at elem at MF.ListPairs)) ps root free = absurd cc
  hamt_layer (Some (D.Map k k_at elem at (MF.StringPairs i j))) ps root free = absurd cc
  hamt_layer (Some d) ps root free = absurd cc

  root_breaks : (s : Slot) (o : Option Data) → some_layer (breaks rows) rows s (root_of o) ≡ false
  root_breaks s None = refl
  root_breaks s (Some t) = refl

  map_case : (s : Slot) (ps : Pairs) → some_layer Inside rows s (V.map ps) ≡ false → (b : Bool) → is_hamt (form_of rows s) ≡ b
      → ((u : Slot) → some_pair Inside rows u ps ≡ false → some_pair (breaks rows) rows u (fronts_of_pairs h rows u ps) ≡ some_pair (breaks rows) rows u ps)
      → some_layer (breaks rows) rows s (root_or_map b (represented (whole h) rows s (V.map ps)) (option_map_or (λ u. fronts_of_pairs h rows u ps) (element_of (form_of rows s)) ps)) ≡ some_layer (breaks rows) rows s (V.map ps)
  map_case s ps free true root same =
      let x = or_parts (Inside (form_of rows s) (V.map ps)) (option_map_or (λ u. some_pair Inside rows u ps) (element_of (form_of rows s)) false) free in
      root_breaks s (represented (whole h) rows s (V.map ps)) ∙ sym (hamt_layer (form_of rows s) ps root x.0)
  map_case s ps free false plain same =
      let x = or_parts (Inside (form_of rows s) (V.map ps)) (option_map_or (λ u. some_pair Inside rows u ps) (element_of (form_of rows s)) false) free in
      either_same _ _ _ _ (map_layer (form_of rows s) ps)
      (in_each (λ u vs. some_pair (breaks rows) rows u vs) (λ u vs. some_pair Inside rows u vs) (λ u vs. fronts_of_pairs h rows u vs) (element_of (form_of rows s)) ps same x.1)

  mutual
    pub alike : (v : Value) (s : Slot) → some_layer Inside rows s v ≡ false → some_layer (breaks rows) rows s (front h rows s v) ≡ some_layer (breaks rows) rows s v
    alike V.null s free = refl
    alike (V.boolean b) s free = refl
    alike (V.integer n) s free = refl
    alike (V.text t) s free = refl
    alike (V.bytes t) s free = refl
    alike (V.link t) s free = refl
    alike (V.any d) s free = refl
    alike V.unit s free = refl
    alike (V.enum n) s free = refl
    alike (V.hamt t) s free = refl
    alike (V.list vs) s free =
        let F = form_of rows s in
        let x = or_parts (Inside F (V.list vs)) (option_map_or (λ u. some_value Inside rows u vs) (element_of F) false) free in
        either_same _ _ _ _ (list_quiet F (option_map_or (λ u. fronts_of_values h rows u vs) (element_of F) vs) ∙ sym (list_quiet F vs))
        (in_each (λ u vs. some_value (breaks rows) rows u vs) (λ u vs. some_value Inside rows u vs) (λ u vs. fronts_of_values h rows u vs) (element_of F) vs (λ u e. alike_values vs u e) x.1)
    alike (V.map ps) s free = map_case s ps free (is_hamt (form_of rows s)) refl (λ u e. alike_pairs ps u e)
    alike (V.struct os) s free =
        let F = form_of rows s in
        let x = or_parts (Inside F (V.struct os)) (some_field Inside rows (fields_of F) os) free in
        either_same _ _ _ _ (struct_layer F os) (alike_fields os (fields_of F) x.1)
    alike (V.union n v) s free =
        let F = form_of rows s in
        let x = or_parts (Inside F (V.union n v)) (option_map_or (λ u. some_layer Inside rows u v) (member_of F n) false) free in
        either_same _ _ _ _ (union_quiet F n (option_map_or (λ u. front h rows u v) (member_of F n) v) ∙ sym (union_quiet F n v))
        (in_each (λ u v. some_layer (breaks rows) rows u v) (λ u v. some_layer Inside rows u v) (λ u v. front h rows u v) (member_of F n) v (λ u e. alike v u e) x.1)

    alike_values : (vs : Values) (u : Slot) → some_value Inside rows u vs ≡ false → some_value (breaks rows) rows u (fronts_of_values h rows u vs) ≡ some_value (breaks rows) rows u vs
    alike_values V.no_values u free = refl
    alike_values (V.value v vs) u free =
        let x = or_parts (some_layer Inside rows u v) (some_value Inside rows u vs) free in either_same _ _ _ _ (alike v u x.0) (alike_values vs u x.1)

    alike_pairs : (ps : Pairs) (u : Slot) → some_pair Inside rows u ps ≡ false → some_pair (breaks rows) rows u (fronts_of_pairs h rows u ps) ≡ some_pair (breaks rows) rows u ps
    alike_pairs V.no_pairs u free = refl
    alike_pairs (V.pair k v ps) u free =
        let x = or_parts (some_layer Inside rows u v) (some_pair Inside rows u ps) free in either_same _ _ _ _ (alike v u x.0) (alike_pairs ps u x.1)

    alike_fields : (os : Optionals) (fs : List Field) → some_field Inside rows fs os ≡ false → some_field (breaks rows) rows fs (fronts_of_fields h rows fs os) ≡ some_field (breaks rows) rows fs os
    alike_fields V.no_optionals fs free = refl
    alike_fields (V.absent os) [] free = refl
    alike_fields (V.present v os) [] free = refl
    alike_fields (V.absent os) (f ∷ fs) free = alike_fields os fs free
    alike_fields (V.present v os) (f ∷ fs) free =
        let x = or_parts (some_layer Inside rows f.slot v) (some_field Inside rows fs os) free in either_same _ _ _ _ (alike v f.slot x.0) (alike_fields os fs x.1)

-- ---- what breaks nothing has no entries that do

module _ (rows : List Row) where
  no_hamt : (F : Option TypeDef) (v : Value) → ((ps : Pairs) → v ≡ V.map ps → ⊥) → breaks_inside rows F v ≡ false
  no_hamt None v other = refl
  no_hamt (Some (D.Map k k_at elem at (MF.Hamt p))) (V.map ps) other = absurd (other ps refl)
  no_hamt (Some (D.Map k k_at elem at (MF.Hamt p))) v other = refl
  no_hamt (Some (D.Map k k_at elem at MF.Map)) v other = refl
  no_hamt (Some (D.Map k k_at elem at MF.ListPairs)) v other = refl
  no_hamt (Some (D.Map k k_at elem at (MF.StringPairs i j))) v other = refl
  no_hamt (Some d) v other = refl

  of_map : (F : Option TypeDef) (ps : Pairs) → option_map_or (λ u. some_pair (breaks rows) rows u ps) (element_of F) false ≡ false → breaks_inside rows F (V.map ps) ≡ false
  of_map None ps free = refl
  of_map (Some (D.Map k k_at elem at (MF.Hamt p))) ps free = free
  of_map (Some (D.Map k k_at elem at MF.Map)) ps free = refl
  of_map (Some (D.Map k k_at elem at MF.ListPairs)) ps free = refl
  of_map (Some (D.Map k k_at elem at (MF.StringPairs i j))) ps free = refl
  of_map (Some d) ps free = refl

  in_slot : {X : Type 0} (f g : Slot → X → Bool) (o : Option Slot) (x : X) → ((u : Slot) → g u x ≡ false → f u x ≡ false) → option_map_or (λ u. g u x) o false ≡ false → option_map_or (λ u. f u x) o false ≡ false
  in_slot f g None x same free = refl
  in_slot f g (Some u) x same free = same u free

  mutual
    pub inside : (v : Value) (s : Slot) → some_layer (breaks rows) rows s v ≡ false → some_layer (breaks_inside rows) rows s v ≡ false
    inside V.null s free = refl
    inside (V.boolean b) s free = refl
    inside (V.integer n) s free = refl
    inside (V.text t) s free = refl
    inside (V.bytes t) s free = refl
    inside (V.link t) s free = refl
    inside (V.any d) s free = refl
    inside V.unit s free = refl
    inside (V.enum n) s free = refl
    inside (V.hamt t) s free = refl
    inside (V.list vs) s free =
        let F = form_of rows s in
        let x = or_parts (breaks rows F (V.list vs)) (option_map_or (λ u. some_value (breaks rows) rows u vs) (element_of F) false) free in
        or_from (breaks_inside rows F (V.list vs)) _ (no_hamt F (V.list vs) (λ ps e. cc))
        (in_slot (λ u vs. some_value (breaks_inside rows) rows u vs) (λ u vs. some_value (breaks rows) rows u vs) (element_of F) vs (λ u e. inside_values vs u e) x.1)
    inside (V.map ps) s free =
        let F = form_of rows s in
        let x = or_parts (breaks rows F (V.map ps)) (option_map_or (λ u. some_pair (breaks rows) rows u ps) (element_of F) false) free in
        or_from (breaks_inside rows F (V.map ps)) _ (of_map F ps x.1)
        (in_slot (λ u ps. some_pair (breaks_inside rows) rows u ps) (λ u ps. some_pair (breaks rows) rows u ps) (element_of F) ps (λ u e. inside_pairs ps u e) x.1)
    inside (V.struct os) s free =
        let F = form_of rows s in
        let x = or_parts (breaks rows F (V.struct os)) (some_field (breaks rows) rows (fields_of F) os) free in
        or_from (breaks_inside rows F (V.struct os)) _ (no_hamt F (V.struct os) (λ ps e. cc)) (inside_fields os (fields_of F) x.1)
    inside (V.union n v) s free =
        let F = form_of rows s in
        let x = or_parts (breaks rows F (V.union n v)) (option_map_or (λ u. some_layer (breaks rows) rows u v) (member_of F n) false) free in
        or_from (breaks_inside rows F (V.union n v)) _ (no_hamt F (V.union n v) (λ ps e. cc))
        (in_slot (λ u v. some_layer (breaks_inside rows) rows u v) (λ u v. some_layer (breaks rows) rows u v) (member_of F n) v (λ u e. inside v u e) x.1)

    inside_values : (vs : Values) (u : Slot) → some_value (breaks rows) rows u vs ≡ false → some_value (breaks_inside rows) rows u vs ≡ false
    inside_values V.no_values u free = refl
    inside_values (V.value v vs) u free =
        let x = or_parts (some_layer (breaks rows) rows u v) (some_value (breaks rows) rows u vs) free in
        or_from (some_layer (breaks_inside rows) rows u v) (some_value (breaks_inside rows) rows u vs) (inside v u x.0) (inside_values vs u x.1)

    inside_pairs : (ps : Pairs) (u : Slot) → some_pair (breaks rows) rows u ps ≡ false → some_pair (breaks_inside rows) rows u ps ≡ false
    inside_pairs V.no_pairs u free = refl
    inside_pairs (V.pair k v ps) u free =
        let x = or_parts (some_layer (breaks rows) rows u v) (some_pair (breaks rows) rows u ps) free in
        or_from (some_layer (breaks_inside rows) rows u v) (some_pair (breaks_inside rows) rows u ps) (inside v u x.0) (inside_pairs ps u x.1)

    inside_fields : (os : Optionals) (fs : List Field) → some_field (breaks rows) rows fs os ≡ false → some_field (breaks_inside rows) rows fs os ≡ false
    inside_fields V.no_optionals fs free = refl
    inside_fields (V.absent os) [] free = refl
    inside_fields (V.present v os) [] free = refl
    inside_fields (V.absent os) (f ∷ fs) free = inside_fields os fs free
    inside_fields (V.present v os) (f ∷ fs) free =
        let x = or_parts (some_layer (breaks rows) rows f.slot v) (some_field (breaks rows) rows fs os) free in
        or_from (some_layer (breaks_inside rows) rows f.slot v) (some_field (breaks_inside rows) rows fs os) (inside v f.slot x.0) (inside_fields os fs x.1)

pub sound_inside : SoundInside
sound_inside rows s v free = inside rows v s free

pub fronts_break_alike : FrontsBreakAlike
fronts_break_alike h rows s v free = alike h rows v s free
