-- What stands for a field, in each form.
use Rattle.std.proofs.Common.{◌≡◌, ℕ, ◌<◌, List, length, map, get_or, option_map, Option, Some, None, refl, sym, ◌∙◌, ap, subst}
use Rattle.std.specs.Borrow.{Bor}
use Rattle.std.specs.Prelude.{slice_get, option_and_then}
use Rattle.ild_data.proofs.AllOf.{all_at}
use Rattle.ild_data.specs.Data as T
use Rattle.ild_data.specs.Data.{Data}
use Rattle.ild_data.specs.Key.{value_at}
use Rattle.ild_data.proofs.Lists.{items_list-items_of}
use Rattle.std.proofs.lemmas.Option.{same_Some}
use Rattle.ild_cbor.specs.Nodes.{HasData, Finds}
use Rattle.ild_cbor.specs.Span.{item_of, place_of}
use Rattle.ild_cbor.specs.Steps.{HasItems}
use Rattle.ild_cbor.specs.declared.items.Items.{Items}
use Rattle.ild_cbor.specs.declared.node.Node.{Node}
use Rattle.ild_cbor.specs.declared.piece.Piece.{Piece}
use Rattle.ild_schema.specs.Accept.{IsAccepted}
use Rattle.ild_schema.specs.Clear.{ClearStruct, IsGiven, IsRequired, AreClearFields}
use Rattle.ild_schema.specs.Delims.{HasDelims}
use Rattle.ild_schema.specs.Copies.{base}
use Rattle.ild_schema.specs.Legible.{IsLegible}
use Rattle.ild_schema.specs.Marks.{field_text}
use Rattle.ild_schema.specs.declared.def.Field.{Field}
use Rattle.ild_schema.specs.declared.def.StructDef.{StructDef}
use Rattle.ild_schema.specs.declared.def.StructForm.{StructForm}
use Rattle.ild_schema.specs.declared.def.StructForm.TheVariants as S
use Rattle.ild_schema.specs.declared.def.TypeDef.{TypeDef}
use Rattle.ild_schema.specs.declared.def.TypeDef.TheVariants as D
use Rattle.ild_schema.specs.declared.row.Row.{Row}
use Rattle.ild_typed.specs.Composed.{struct_form, composed}
use Rattle.ild_typed.specs.Fields.{field_entries, tuple_items}
use Rattle.ild_typed.specs.Hamt.{alone}
use Rattle.ild_typed.specs.Layer as L
use Rattle.ild_typed.specs.Cuts.{parted}
use Rattle.ild_typed.specs.Named.{split_entries}
use Rattle.ild_typed.specs.Strings.{members_in, pair_data, listpairs, stringpairs}
use Rattle.ild_typed.proofs.Basics.{map_from, then_from}
use Rattle.ild_typed.proofs.CleanStructs.{split_of_pairs}
use Rattle.ild_text.specs.Parts.{pairs_in, parts as joined_parts}
use Rattle.ild_text.specs.declared.parts.JoinParts.{JoinParts}
use Rattle.ild_text.specs.declared.parts.PairParts.{PairParts}
use Rattle.ild_layer_piece.specs.Answers.{Layered}
use Rattle.ild_layer_piece.specs.Entries.{Found}
use Rattle.ild_layer_piece.specs.Pieces.{StandsFor}
use Rattle.ild_struct.specs.Parts.{ArePartsOf, IsFieldOf, IsFieldPart, IsStruct}
use Rattle.ild_struct.specs.inside.Reading.{IsLookedUp, shown}
use Rattle.ild_struct.specs.Source.{FormShows}
use Rattle.ild_layer_fields.specs.Entries.{text_entries}
use Rattle.ild_struct.specs.declared.part.Part.{Part}
use Rattle.ild_struct.specs.declared.parts.StructParts.{StructParts}
use Rattle.ild_struct.specs.declared.source.Source.TheVariants as R
use Rattle.ild_struct.proofs.Looking.{joined_at, keyed, map_keyed, placed}
use Rattle.ild_struct.proofs.Plain.{join_plain, tuple_plain}
use Rattle.ild_struct.proofs.Splitting.{text_value_at}
use Rattle.ild_layer_fields.proofs.Placing.{get_at}

-- the form of the layer
pub made_of : (rows : List Row) (ty : ℕ) (t : Data) (s : StructDef) (os : List (Option Data)) → IsStruct rows ty s → Layered rows ty t (L.struct os) → struct_form s.form s.fields os ≡ Some t
made_of rows ty t s os is h = sym (ap (option_and_then (λ (d : TypeDef). composed alone d (L.struct os))) is) ∙ h

-- what acceptance says of the struct
pub clear_of : (rows : List Row) (ty : ℕ) (s : StructDef) → IsLegible rows → IsStruct rows ty s → ClearStruct s.form s.fields
clear_of rows ty s legible is = legible.clear.types (base rows ty) (D.Struct s) is

pub delims_of : (rows : List Row) (ty : ℕ) (s : StructDef) → IsLegible rows → IsStruct rows ty s → HasDelims s.form s.fields
delims_of rows ty s legible is = legible.delims (base rows ty) (D.Struct s) is

pub field_at : (fs : List Field) (i : ℕ) (f : Field) → i < length fs → f ≡ get_or fs i f → slice_get fs i ≡ Some f
field_at fs i f less is = get_at fs i f less ∙ ap Some (sym is)

-- ---- maps

pub record IsMap (rows : List Row) (form : StructForm) (p : Piece) (t : Data) : Type 0 where
  pub form_is : form ≡ S.Map
  pub stands : StandsFor rows p t

pub shown_map : (rows : List Row) (form : StructForm) (p : Piece) (t : Data) → FormShows rows form (R.Map p) t → IsMap rows form p t
shown_map rows S.Map p t h = record { form_is = refl; stands = h }
shown_map rows S.Tuple p t h = absurd h
shown_map rows S.ListPairs p t h = absurd h
shown_map rows (S.StringPairs inner entry) p t h = absurd h
shown_map rows (S.StringJoin delim) p t h = absurd h

-- ---- tuples

pub record IsTuple (form : StructForm) (n : Node) (t : Data) : Type 0 where
  pub form_is : form ≡ S.Tuple
  pub stands : HasData n t

pub shown_tuple : (rows : List Row) (form : StructForm) (n : Node) (t : Data) → FormShows rows form (R.Tuple n) t → IsTuple form n t
shown_tuple rows S.Map n t h = absurd h
shown_tuple rows S.Tuple n t h = record { form_is = refl; stands = h }
shown_tuple rows S.ListPairs n t h = absurd h
shown_tuple rows (S.StringPairs inner entry) n t h = absurd h
shown_tuple rows (S.StringJoin delim) n t h = absurd h

-- ---- pairs of a list

pub record IsListPairs (form : StructForm) (s : Items) (t : Data) : Type 0 where
  pub form_is : form ≡ S.ListPairs
  pub items : T.Items
  pub list : t ≡ T.list items
  pub left : HasItems s items

pub shown_listpairs : (rows : List Row) (form : StructForm) (s : Items) (t : Data) → FormShows rows form (R.ListPairs s) t → IsListPairs form s t
shown_listpairs rows S.Map s t h = absurd h
shown_listpairs rows S.Tuple s t h = absurd h
shown_listpairs rows S.ListPairs s t h = record { form_is = refl; items = h.0; list = h.1; left = h.2 }
shown_listpairs rows (S.StringPairs inner entry) s t h = absurd h
shown_listpairs rows (S.StringJoin delim) s t h = absurd h

items_inside : T.Items → Data → T.Items
items_inside z (T.list ds) = ds
items_inside z d = z

pub same_items : (ds es : T.Items) → T.list ds ≡ T.list es → ds ≡ es
unfolding items_inside
same_items ds es e = ap (items_inside ds) e

-- ---- texts

pub record IsTextPairs (form : StructForm) (split : PairParts) (t : Data) : Type 0 where
  pub inner : List ℕ
  pub entry : List ℕ
  pub form_is : form ≡ S.StringPairs inner entry
  pub shown_as : split_entries inner entry t ≡ Some (text_entries (pairs_in split))

pub shown_textpairs : (rows : List Row) (form : StructForm) (split : PairParts) (t : Data) → FormShows rows form (R.StringPairs split) t → IsTextPairs form split t
shown_textpairs rows S.Map split t h = absurd h
shown_textpairs rows S.Tuple split t h = absurd h
shown_textpairs rows S.ListPairs split t h = absurd h
shown_textpairs rows (S.StringPairs inner entry) split t h = record { inner = inner; entry = entry; form_is = refl; shown_as = h }
shown_textpairs rows (S.StringJoin delim) split t h = absurd h

pub record IsTextJoin (form : StructForm) (split : JoinParts) (t : Data) : Type 0 where
  pub delim : List ℕ
  pub form_is : form ≡ S.StringJoin delim
  pub text : List ℕ
  pub text_is : t ≡ T.text text
  pub cuts : parted delim text ≡ joined_parts split

pub shown_textjoin : (rows : List Row) (form : StructForm) (split : JoinParts) (t : Data) → FormShows rows form (R.StringJoin split) t → IsTextJoin form split t
shown_textjoin rows S.Map split t h = absurd h
shown_textjoin rows S.Tuple split t h = absurd h
shown_textjoin rows S.ListPairs split t h = absurd h
shown_textjoin rows (S.StringPairs inner entry) split t h = absurd h
shown_textjoin rows (S.StringJoin delim) split t h = record { delim = delim; form_is = refl; text = h.0; text_is = h.1; cuts = h.2 }

borrowed : (r : Option (Bor (List ℕ))) → option_map T.text (option_map (λ (s : Bor (List ℕ)). s.now) r) ≡ option_map (λ (s : Bor (List ℕ)). T.text s.now) r
borrowed None = refl
borrowed (Some s) = refl

-- what is found under a name in a text of pairs
text_looked : (key name : List ℕ) (es : List (List ℕ × Data)) (ps : List (List ℕ × List ℕ)) (o : Option Data) (r : Option (Bor (List ℕ))) → key ≡ name → es ≡ text_entries ps → value_at name es ≡ o
    → option_map (λ (s : Bor (List ℕ)). s.now) r ≡ value_at key ps → o ≡ option_map (λ (s : Bor (List ℕ)). T.text s.now) r
text_looked key name es ps o r same are looked found =
    let here : o ≡ value_at key (text_entries ps) = sym looked ∙ ap (value_at name) are ∙ ap (λ q. value_at q (text_entries ps)) (sym same) in
    let there : value_at key (text_entries ps) ≡ option_map (λ (s : Bor (List ℕ)). T.text s.now) r = text_value_at key ps ∙ ap (option_map T.text) (sym found) ∙ borrowed r in
    here ∙ there

-- what stands at a place in a text of parts
part_looked : (cuts ps : List (List ℕ)) (i : ℕ) (o : Option Data) (r : Option (Bor (List ℕ))) → cuts ≡ ps → option_map T.text (slice_get cuts i) ≡ o
    → option_map (λ (s : Bor (List ℕ)). s.now) r ≡ slice_get ps i → o ≡ option_map (λ (s : Bor (List ℕ)). T.text s.now) r
part_looked cuts ps i o r same looked found =
    let here : o ≡ option_map T.text (slice_get ps i) = sym looked ∙ ap (λ qs. option_map T.text (slice_get qs i)) same in
    let there : option_map T.text (slice_get ps i) ≡ option_map (λ (s : Bor (List ℕ)). T.text s.now) r = ap (option_map T.text) (sym found) ∙ borrowed r in
    here ∙ there

-- ---- the field

pub found_of : (n : Node) (place : ℕ) (o : Option Data) (r : Option Node) → Finds n place o r → Found o r
found_of n place None None h = tt
found_of n place None (Some m) h = h
found_of n place (Some d) None h = h
found_of n place (Some d) (Some m) h = h.stands

module _ (rows : List Row) (ty : ℕ) (t : Data) (os : List (Option Data)) (parts : StructParts) (legible : IsLegible parts.fields.acc.now) (i : ℕ) (f : Field)
    (less : i < length parts.fields.def.now.fields) (is : f ≡ get_or parts.fields.def.now.fields i f) (part : Part) (h : ArePartsOf rows ty t os parts)
  where
    clear : ClearStruct parts.fields.def.now.form parts.fields.def.now.fields
    clear = clear_of rows ty parts.fields.def.now (subst IsLegible h.table legible) h.struct

    delims : HasDelims parts.fields.def.now.form parts.fields.def.now.fields
    delims = delims_of rows ty parts.fields.def.now (subst IsLegible h.table legible) h.struct

    made : struct_form parts.fields.def.now.form parts.fields.def.now.fields os ≡ Some t
    made = made_of rows ty t parts.fields.def.now os h.struct h.layered

    pub map_field : (p : Piece) (key : List ℕ) (r : Option Node) → parts.source ≡ R.Map p → key ≡ field_text f
        → ((u : Data) → StandsFor parts.fields.acc.now p u → Found (option_and_then (value_at key) (members_in u)) r)
        → ((o : Option Data) → IsLookedUp f o → Found (shown f o) r → IsFieldPart rows f o part)
        → IsFieldOf rows parts.fields.def.now.fields os i part
    map_field p key r source name found told =
        let x = shown_map rows parts.fields.def.now.form p t (subst (λ s. FormShows rows parts.fields.def.now.form s t) source h.shows) in
        let fields : AreClearFields parts.fields.def.now.fields = subst (λ form. ClearStruct form parts.fields.def.now.fields) x.form_is clear in
        let made_map : struct_form S.Map parts.fields.def.now.fields os ≡ Some t = ap (λ form. struct_form form parts.fields.def.now.fields os) (sym x.form_is) ∙ made in
        let at = field_at parts.fields.def.now.fields i f less is in
        let k = map_keyed parts.fields.def.now.fields os t i f fields.apart made_map at in
        let there = found t (subst (λ rs. StandsFor rs p t) (sym h.table) x.stands) in
        let looked : option_and_then (value_at key) (members_in t) ≡ shown f k.held = ap (λ q. option_and_then (value_at q) (members_in t)) name ∙ k.looked in
        record {
          field = f;
          there = at;
          held = k.held;
          at = k.at;
          is = told k.held (record { absent = k.absent; required = all_at (λ (g : Field). IsRequired g) parts.fields.def.now.fields i f fields.required at }) (subst (λ o. Found o r) looked there);
        }

    pub tuple_field : (n : Node) (r : Option Node) → IsAccepted parts.fields.acc.now → parts.source ≡ R.Tuple n
        → ((u : Data) → HasData n u → Finds n (place_of u i) (item_of u i) r)
        → ((o : Option Data) → f.implicit ≡ None → Found o r → IsFieldPart rows f o part)
        → IsFieldOf rows parts.fields.def.now.fields os i part
    tuple_field n r accepted source found told =
        let at = field_at parts.fields.def.now.fields i f less is in
        let x = shown_tuple rows parts.fields.def.now.form n t (subst (λ s. FormShows rows parts.fields.def.now.form s t) source h.shows) in
        let made_tuple : struct_form S.Tuple parts.fields.def.now.fields os ≡ Some t = ap (λ form. struct_form form parts.fields.def.now.fields os) (sym x.form_is) ∙ made in
        let y = map_from (λ ds. T.list (T.items_of ds)) (tuple_items parts.fields.def.now.fields os) t made_tuple in
        let k = placed parts.fields.def.now.fields os y.item i y.there less in
        let there : Found (item_of t i) r = found_of n (place_of t i) (item_of t i) r (found t x.stands) in
        let looked : item_of t i ≡ k.held =
        ap (λ u. item_of u i) (sym (same_Some (T.list (T.items_of y.item)) t y.made)) ∙ ap (λ ds. slice_get ds i) (items_list-items_of y.item) ∙ k.same in
        record {
          field = f;
          there = at;
          held = k.held;
          at = k.at;
          is = told k.held (tuple_plain rows ty parts.fields.def.now (subst IsAccepted h.table accepted) h.struct i f at x.form_is) (subst (λ o. Found o r) looked there);
        }

    pub listpairs_field : (s : Items) (key : List ℕ) (r : Option Node) → parts.source ≡ R.ListPairs s → key ≡ field_text f
        → ((es : List (List ℕ × Data)) → HasItems s (T.items_of (map pair_data es)) → Found (value_at key es) r)
        → ((o : Option Data) → IsLookedUp f o → Found (shown f o) r → IsFieldPart rows f o part)
        → IsFieldOf rows parts.fields.def.now.fields os i part
    listpairs_field s key r source name found told =
        let x = shown_listpairs rows parts.fields.def.now.form s t (subst (λ u. FormShows rows parts.fields.def.now.form u t) source h.shows) in
        let fields : AreClearFields parts.fields.def.now.fields = subst (λ form. ClearStruct form parts.fields.def.now.fields) x.form_is clear in
        let made_pairs : struct_form S.ListPairs parts.fields.def.now.fields os ≡ Some t = ap (λ form. struct_form form parts.fields.def.now.fields os) (sym x.form_is) ∙ made in
        let at = field_at parts.fields.def.now.fields i f less is in
        let y = map_from listpairs (field_entries parts.fields.def.now.fields os) t made_pairs in
        let k = keyed parts.fields.def.now.fields os y.item i f fields.apart y.there at in
        let same : x.items ≡ T.items_of (map pair_data y.item) = same_items x.items (T.items_of (map pair_data y.item)) (sym x.list ∙ sym (same_Some (listpairs y.item) t y.made)) in
        let there = found y.item (subst (λ (ds : T.Items). HasItems s ds) same x.left) in
        let looked : value_at key y.item ≡ shown f k.held = ap (λ q. value_at q y.item) name ∙ k.looked in
        record {
          field = f;
          there = at;
          held = k.held;
          at = k.at;
          is = told k.held (record { absent = k.absent; required = all_at (λ (g : Field). IsRequired g) parts.fields.def.now.fields i f fields.required at }) (subst (λ o. Found o r) looked there);
        }

    pub stringpairs_field : (split : PairParts) (key : List ℕ) (r : Option (Bor (List ℕ))) → parts.source ≡ R.StringPairs split → key ≡ field_text f
        → option_map (λ (s : Bor (List ℕ)). s.now) r ≡ value_at key (pairs_in split)
        → ((o : Option Data) → IsLookedUp f o → shown f o ≡ option_map (λ (s : Bor (List ℕ)). T.text s.now) r → IsFieldPart rows f o part)
        → IsFieldOf rows parts.fields.def.now.fields os i part
    stringpairs_field split key r source name found told =
        let x = shown_textpairs rows parts.fields.def.now.form split t (subst (λ u. FormShows rows parts.fields.def.now.form u t) source h.shows) in
        let both : AreClearFields parts.fields.def.now.fields × IsGiven x.inner = subst (λ form. ClearStruct form parts.fields.def.now.fields) x.form_is clear in
        let given : IsGiven x.entry = subst (λ form. HasDelims form parts.fields.def.now.fields) x.form_is delims in
        let made_pairs : struct_form (S.StringPairs x.inner x.entry) parts.fields.def.now.fields os ≡ Some t = ap (λ form. struct_form form parts.fields.def.now.fields os) (sym x.form_is) ∙ made in
        let at = field_at parts.fields.def.now.fields i f less is in
        let y = then_from (stringpairs x.inner x.entry) (field_entries parts.fields.def.now.fields os) t made_pairs in
        let k = keyed parts.fields.def.now.fields os y.item i f both.0.apart y.there at in
        let split_is = split_of_pairs x.inner x.entry both.1 given y.item t y.made in
        let same : y.item ≡ text_entries (pairs_in split) = same_Some y.item (text_entries (pairs_in split)) (sym split_is.entries ∙ x.shown_as) in
        let looked : shown f k.held ≡ option_map (λ (s : Bor (List ℕ)). T.text s.now) r =
        text_looked key (field_text f) y.item (pairs_in split) (shown f k.held) r name same k.looked found in
        record {
          field = f;
          there = at;
          held = k.held;
          at = k.at;
          is = told k.held (record { absent = k.absent; required = all_at (λ (g : Field). IsRequired g) parts.fields.def.now.fields i f both.0.required at }) looked;
        }

    pub stringjoin_field : (split : JoinParts) (r : Option (Bor (List ℕ))) → IsAccepted parts.fields.acc.now → parts.source ≡ R.StringJoin split
        → option_map (λ (s : Bor (List ℕ)). s.now) r ≡ slice_get (joined_parts split) i
        → ((o : Option Data) → f.implicit ≡ None → o ≡ option_map (λ (s : Bor (List ℕ)). T.text s.now) r → IsFieldPart rows f o part)
        → IsFieldOf rows parts.fields.def.now.fields os i part
    stringjoin_field split r accepted source found told =
        let fs = parts.fields.def.now.fields in
        let at = field_at fs i f less is in
        let x = shown_textjoin rows parts.fields.def.now.form split t (subst (λ u. FormShows rows parts.fields.def.now.form u t) source h.shows) in
        let given : HasDelims (S.StringJoin x.delim) fs = subst (λ form. HasDelims form fs) x.form_is delims in
        let made_join : struct_form (S.StringJoin x.delim) fs os ≡ Some t = ap (λ form. struct_form form fs os) (sym x.form_is) ∙ made in
        let k = joined_at x.delim x.text fs os i given less (made_join ∙ ap Some x.text_is) in
        record {
          field = f;
          there = at;
          held = k.held;
          at = k.at;
          is = told k.held (join_plain rows ty parts.fields.def.now (subst IsAccepted h.table accepted) h.struct i f at x.delim x.form_is) (part_looked (parted x.delim x.text) (joined_parts split) i k.held r x.cuts k.same found);
        }
