-- What is written of a struct's parts, in each form.
use Rattle.std.proofs.Common.{◌≡◌, ℕ, zero, suc, ◌≤◌, List, [], ◌∷◌, length, map, Bool, true, false, not, ◌&&◌, Option, Some, None, option_map, refl, sym, ◌∙◌, ap, subst, arith}
use Rattle.std.specs.Prelude.{slice_get, option_and_then}
use Rattle.std.specs.Prelude.{nat_eq}
use Rattle.std.proofs.lemmas.Bool.{eqb-true}
use Rattle.std.proofs.lemmas.Option.{same_Some, none-some}
use Rattle.ild_layer_piece.proofs.Walking.{not_walked}
use Rattle.ild_data.specs.Data as T
use Rattle.ild_data.specs.Data.{Data}
use Rattle.ild_data.specs.Key.{Rises, value_at}
use Rattle.ild_data.proofs.Lists.{items_list-items_of}
use Rattle.ild_cbor.specs.Nodes.{HasData}
use Rattle.ild_cbor.specs.Steps.{HasItems, FindsItems, items_of as node_items}
use Rattle.ild_cbor.specs.declared.items.Items.{Items}
use Rattle.ild_cbor.specs.declared.node.Node.{Node}
use Rattle.ild_cbor.specs.declared.piece.Piece.{Piece}
use Rattle.ild_schema.specs.Clear.{ClearStruct, AreClearFields, IsGiven}
use Rattle.ild_schema.specs.Copies.{base}
use Rattle.ild_schema.specs.Delims.{HasDelims}
use Rattle.ild_schema.specs.Legible.{IsLegible}
use Rattle.ild_schema.specs.Marks.{field_text}
use Rattle.ild_schema.specs.declared.def.Field.{Field}
use Rattle.ild_schema.specs.declared.def.StructForm.{StructForm}
use Rattle.ild_schema.specs.declared.def.StructForm.TheVariants as S
use Rattle.ild_schema.specs.declared.def.TypeDef.TheVariants as D
use Rattle.ild_schema.specs.declared.row.Row.{Row}
use Rattle.ild_text.specs.Parts.{pairs_in, parts as joined_parts}
use Rattle.ild_text.specs.declared.parts.JoinParts.{JoinParts}
use Rattle.ild_text.specs.declared.parts.PairParts.{PairParts}
use Rattle.ild_typed.specs.Composed.{struct_form}
use Rattle.ild_typed.specs.Cuts.{parted, is_split}
use Rattle.ild_typed.specs.Fields.{field_entries, tuple_items}
use Rattle.ild_typed.specs.Layer as L
use Rattle.ild_typed.specs.Named.{names, has_twice, where_some}
use Rattle.ild_typed.specs.Strings.{in_key_order, text_pairs, map_data, members_in, pair_data, listpairs, stringpairs}
use Rattle.ild_typed.specs.StructWhy.{has_stranger, names_in, struct_delimiter}
use Rattle.ild_typed.specs.Texts.{join_pairs}
use Rattle.ild_typed.specs.WhyLaws.{KeysRise}
use Rattle.ild_typed.proofs.Basics.{map_from, then_from}
use Rattle.ild_typed.proofs.CleanPairs.{pairs_names}
use Rattle.ild_typed.proofs.CleanStructs.{split_of_pairs}
use Rattle.ild_typed.proofs.CleanTypes.{layer_or_why}
use Rattle.ild_typed.proofs.Cleans.{Clean, clean_of}
use Rattle.ild_layer_piece.specs.Entries.{HasLeft, Maps}
use Rattle.ild_layer_piece.specs.Pieces.{StandsFor}
use Rattle.ild_layer_piece.specs.declared.walk.MapEntries.{MapEntries}
use Rattle.ild_layer_piece.proofs.Stand.{piece_rises}
use Rattle.ild_struct.specs.Parts.{ArePartsOf}
use Rattle.ild_struct.specs.Present.{numbered}
use Rattle.ild_layer_fields.specs.Entries.{by_place}
use Rattle.ild_struct.specs.Source.{FormShows}
use Rattle.ild_layer_fields.specs.Entries.{text_entries}
use Rattle.ild_struct.specs.inside.Stepping.{Starts}
use Rattle.ild_struct.specs.declared.left.Left.TheVariants as R
use Rattle.ild_struct.specs.declared.parts.StructParts.{StructParts}
use Rattle.ild_struct.specs.declared.source.Source.TheVariants as O
use Rattle.ild_struct.proofs.Fielding.{made_of, clear_of, delims_of, same_items, shown_map, shown_tuple, shown_listpairs, shown_textpairs, shown_textjoin}
use Rattle.ild_struct.proofs.Looking.{Keyed, keyed, map_keyed, placed, joined_at}
use Rattle.ild_struct.proofs.Presenting.{keyed_written, placed_written, tuple_most}

found_entries : (t : Data) (s : MapEntries) → Maps (members_in t) (Some s) → (es : List (List ℕ × Data)) × (members_in t ≡ Some es) × HasLeft s es
found_entries (T.map ms) s h = (T.members_list ms, refl, h)
found_entries t s h = absurd h

found_items : (n : Node) (ds : List Data) (s : Items) → FindsItems n (node_items (T.list (T.items_of ds))) (Some s) → HasItems s (T.items_of ds)
found_items n ds s h = h.left

rises_map : (es : List (List ℕ × Data)) (t : Data) → members_in t ≡ Some es → KeysRise t → Rises es
rises_map es (T.map ms) is up = subst Rises (same_Some (T.members_list ms) es is) up
rises_map es t is up = absurd (none-some es is)

get_text : (ps : List (List ℕ)) (i : ℕ) → slice_get (map T.text ps) i ≡ option_map T.text (slice_get ps i)
get_text [] i = refl
get_text (p ∷ ps) zero = refl
get_text (p ∷ ps) (suc i) = get_text ps i

text_count : (ps : List (List ℕ)) → length (map T.text ps) ≡ length ps
text_count [] = refl
text_count (p ∷ ps) = ap suc (text_count ps)

joined_count : (a b : Bool) → not (a && b) ≡ false → b ≡ true
joined_count true true h = refl
joined_count true false h = absurd cc
joined_count false b h = absurd cc

module _ (rows : List Row) (ty : ℕ) (t : Data) (os : List (Option Data)) (parts : StructParts) (legible : IsLegible parts.fields.acc.now) (h : ArePartsOf rows ty t os parts) where
  abbrev pub fs : List Field
  fs = parts.fields.def.now.fields

  lawful : IsLegible rows
  lawful = subst IsLegible h.table legible

  clear : ClearStruct parts.fields.def.now.form fs
  clear = clear_of rows ty parts.fields.def.now lawful h.struct

  delims : HasDelims parts.fields.def.now.form fs
  delims = delims_of rows ty parts.fields.def.now lawful h.struct

  made : struct_form parts.fields.def.now.form fs os ≡ Some t
  made = made_of rows ty t parts.fields.def.now os h.struct h.layered

  clean : KeysRise t → Clean (D.Struct parts.fields.def.now) t
  clean up = clean_of (D.Struct parts.fields.def.now) t
      ((layer_or_why (D.Struct parts.fields.def.now) (lawful.clear.types (base rows ty) (D.Struct parts.fields.def.now) h.struct) (lawful.delims (base rows ty) (D.Struct parts.fields.def.now) h.struct) t up).1 (L.struct os, made))

  -- no name is strange, and none stands twice
  known : (form : StructForm) (es : List (List ℕ × Data)) → parts.fields.def.now.form ≡ form → KeysRise t → names_in form t ≡ Some (names es) → (has_stranger fs (names es) ≡ false) × (has_twice (names es) ≡ false)
  known form es is up shows =
      let c = clean up in
      let here : names_in parts.fields.def.now.form t ≡ Some (names es) = ap (λ f. names_in f t) is ∙ shows in
      (sym (ap (where_some (has_stranger fs)) here) ∙ c.name, sym (ap (where_some has_twice) here) ∙ c.repeat)

  pub map_starts : (p : Piece) (s : MapEntries) → parts.source ≡ O.Map p → ((u : Data) → StandsFor parts.fields.acc.now p u → Maps (members_in u) (Some s)) → Starts fs os (R.Map s 0)
  map_starts p s source found =
      let x = shown_map rows parts.fields.def.now.form p t (subst (λ o. FormShows rows parts.fields.def.now.form o t) source h.shows) in
      let clear_map : AreClearFields fs = subst (λ form. ClearStruct form fs) x.form_is clear in
      let made_map : struct_form S.Map fs os ≡ Some t = ap (λ form. struct_form form fs os) (sym x.form_is) ∙ made in
      let e = found_entries t s (found t (subst (λ rs. StandsFor rs p t) (sym h.table) x.stands)) in
      let k = known S.Map e.0 x.form_is (piece_rises rows p t x.stands) (ap (option_map names) e.1) in
      record {
        parts = by_place fs e.0;
        written = keyed_written fs os e.0 clear_map.apart (λ i f at. subst (λ o. Keyed f os i (option_and_then (value_at (field_text f)) o)) e.1 (map_keyed fs os t i f clear_map.apart made_map at)) clear_map.required k.0 k.1;
        leaves = (clear_map.apart, e.0, e.2, refl);
      }

  pub no_map : (p : Piece) → parts.source ≡ O.Map p → ((u : Data) → StandsFor parts.fields.acc.now p u → Maps (members_in u) None) → ⊥
  no_map p source found =
      let x = shown_map rows parts.fields.def.now.form p t (subst (λ o. FormShows rows parts.fields.def.now.form o t) source h.shows) in
      let made_map : struct_form S.Map fs os ≡ Some t = ap (λ form. struct_form form fs os) (sym x.form_is) ∙ made in
      let y = map_from (λ es. map_data (in_key_order es)) (field_entries fs os) t made_map in
      let none = not_walked t (found t (subst (λ rs. StandsFor rs p t) (sym h.table) x.stands)) in
      none-some _ (sym none ∙ ap members_in (sym (same_Some (map_data (in_key_order y.item)) t y.made)))

  pub tuple_starts : (n : Node) (s : Items) → parts.source ≡ O.Tuple n → ((u : Data) → HasData n u → FindsItems n (node_items u) (Some s)) → Starts fs os (R.Tuple s)
  tuple_starts n s source found =
      let x = shown_tuple rows parts.fields.def.now.form n t (subst (λ o. FormShows rows parts.fields.def.now.form o t) source h.shows) in
      let made_tuple : struct_form S.Tuple fs os ≡ Some t = ap (λ form. struct_form form fs os) (sym x.form_is) ∙ made in
      let y = map_from (λ ds. T.list (T.items_of ds)) (tuple_items fs os) t made_tuple in
      let is : t ≡ T.list (T.items_of y.item) = sym (same_Some (T.list (T.items_of y.item)) t y.made) in
      let left = found_items n y.item s (subst (λ u. FindsItems n (node_items u) (Some s)) is (found t x.stands)) in
      record {
        parts = numbered zero y.item;
        written = placed_written fs os y.item (tuple_most fs os y.item y.there) (λ i less. placed fs os y.item i y.there less);
        leaves = (T.items_of y.item, left, ap (numbered zero) (sym (items_list-items_of y.item)));
      }

  pub no_tuple : (n : Node) → parts.source ≡ O.Tuple n → ((u : Data) → HasData n u → FindsItems n (node_items u) None) → ⊥
  no_tuple n source found =
      let x = shown_tuple rows parts.fields.def.now.form n t (subst (λ o. FormShows rows parts.fields.def.now.form o t) source h.shows) in
      let made_tuple : struct_form S.Tuple fs os ≡ Some t = ap (λ form. struct_form form fs os) (sym x.form_is) ∙ made in
      let y = map_from (λ ds. T.list (T.items_of ds)) (tuple_items fs os) t made_tuple in
      subst (λ u. FindsItems n (node_items u) None) (sym (same_Some (T.list (T.items_of y.item)) t y.made)) (found t x.stands)

  pub listpairs_starts : (s : Items) → parts.source ≡ O.ListPairs s → Starts fs os (R.ListPairs s)
  listpairs_starts s source =
      let x = shown_listpairs rows parts.fields.def.now.form s t (subst (λ o. FormShows rows parts.fields.def.now.form o t) source h.shows) in
      let clear_pairs : AreClearFields fs = subst (λ form. ClearStruct form fs) x.form_is clear in
      let made_pairs : struct_form S.ListPairs fs os ≡ Some t = ap (λ form. struct_form form fs os) (sym x.form_is) ∙ made in
      let y = map_from listpairs (field_entries fs os) t made_pairs in
      let is : t ≡ listpairs y.item = sym (same_Some (listpairs y.item) t y.made) in
      let k = known S.ListPairs y.item x.form_is (subst KeysRise (sym x.list) tt) (ap (names_in S.ListPairs) is ∙ pairs_names y.item) in
      let same : x.items ≡ T.items_of (map pair_data y.item) = same_items x.items (T.items_of (map pair_data y.item)) (sym x.list ∙ is) in
      record {
        parts = by_place fs y.item;
        written = keyed_written fs os y.item clear_pairs.apart (λ i f at. keyed fs os y.item i f clear_pairs.apart y.there at) clear_pairs.required k.0 k.1;
        leaves = (clear_pairs.apart, y.item, subst (λ (ds : T.Items). HasItems s ds) same x.left, refl);
      }

  pub stringpairs_starts : (split : PairParts) → parts.source ≡ O.StringPairs split → Starts fs os (R.StringPairs split)
  stringpairs_starts split source =
      let x = shown_textpairs rows parts.fields.def.now.form split t (subst (λ o. FormShows rows parts.fields.def.now.form o t) source h.shows) in
      let both : AreClearFields fs × IsGiven x.inner = subst (λ form. ClearStruct form fs) x.form_is clear in
      let given : IsGiven x.entry = subst (λ form. HasDelims form fs) x.form_is delims in
      let made_pairs : struct_form (S.StringPairs x.inner x.entry) fs os ≡ Some t = ap (λ form. struct_form form fs os) (sym x.form_is) ∙ made in
      let y = then_from (stringpairs x.inner x.entry) (field_entries fs os) t made_pairs in
      let split_is = split_of_pairs x.inner x.entry both.1 given y.item t y.made in
      let same : y.item ≡ text_entries (pairs_in split) = same_Some y.item (text_entries (pairs_in split)) (sym split_is.entries ∙ x.shown_as) in
      let text = map_from T.text (option_and_then (join_pairs x.inner x.entry) (text_pairs y.item)) t y.made in
      let k = known (S.StringPairs x.inner x.entry) y.item x.form_is (subst KeysRise (same_Some (T.text text.item) t text.made) tt) (ap (option_map names) split_is.entries) in
      record {
        parts = by_place fs y.item;
        written = keyed_written fs os y.item both.0.apart (λ i f at. keyed fs os y.item i f both.0.apart y.there at) both.0.required k.0 k.1;
        leaves = (both.0.apart, ap (by_place fs) same);
      }

  pub stringjoin_starts : (split : JoinParts) → parts.source ≡ O.StringJoin split → Starts fs os (R.StringJoin (Some split))
  stringjoin_starts split source =
      let x = shown_textjoin rows parts.fields.def.now.form split t (subst (λ o. FormShows rows parts.fields.def.now.form o t) source h.shows) in
      let given : HasDelims (S.StringJoin x.delim) fs = subst (λ form. HasDelims form fs) x.form_is delims in
      let made_join : struct_form (S.StringJoin x.delim) fs os ≡ Some t = ap (λ form. struct_form form fs os) (sym x.form_is) ∙ made in
      let c = clean (subst KeysRise (sym x.text_is) tt) in
      let told : struct_delimiter (S.StringJoin x.delim) fs (T.text x.text) ≡ false =
      ap (λ form. struct_delimiter form fs (T.text x.text)) (sym x.form_is) ∙ ap (struct_delimiter parts.fields.def.now.form fs) (sym x.text_is) ∙ c.delimiter in
      let count : length (parted x.delim x.text) ≡ length fs =
      eqb-true (length (parted x.delim x.text)) (length fs) (joined_count (is_split x.delim x.text) (nat_eq (length (parted x.delim x.text)) (length fs)) told) in
      let most : length (map T.text (joined_parts split)) ≤ length fs = (let e = text_count (joined_parts split) ∙ ap length (sym x.cuts) ∙ count in omega (arith, e)) in
      record {
        parts = numbered zero (map T.text (joined_parts split));
        written = placed_written fs os (map T.text (joined_parts split)) most (λ i less.
            let k = joined_at x.delim x.text fs os i given less (made_join ∙ ap Some x.text_is) in
            record { held = k.held; at = k.at; same = get_text (joined_parts split) i ∙ ap (λ ps. option_map T.text (slice_get ps i)) (sym x.cuts) ∙ k.same });
        leaves = refl;
      }
