-- Where parts stand in the data of their holders, form by form.
use Rattle.std.proofs.Common.{◌≡◌, ◌⊎◌, inl, inr, ◌<◌, ◌^◌, arith, get_or, ℕ, List, [], ◌∷◌, ◌++◌, Bool, true, false, cond, slice_get, Option, Some, None, refl, sym, ◌∙◌, ap, subst}
use Rattle.std.specs.Prelude.{is_none, option_and_then}
use Rattle.std.proofs.lemmas.Option.{same_Some, none-some}
use Rattle.ild_splice_changes.proofs.Maps.{own_text, put-other}
use Rattle.ild_splice_changes.specs.TreeChange.{key, nth, part_at}
use Rattle.ild_typed.proofs.Unions.{only_map_data}
use Rattle.ild_data.proofs.Gets.{got_below}
use Rattle.ild_data.proofs.Options.{chain_some, map_some}
use Rattle.ild_data.specs.Data as T
use Rattle.ild_data.specs.Data.{Data, items_list, items_of, members_list}
use Rattle.ild_data.specs.Key.{put, value_at}
use Rattle.ild_data.proofs.Lists.{items_list-items_of}
use Rattle.ild_cbor.specs.Scalar.{kind_of as piece_kind}
use Rattle.ild_cbor.specs.declared.kind.Kind.TheVariants as K
use Rattle.ild_cbor.specs.declared.piece.Piece.{Piece}
use Rattle.ild_path_edits.proofs.HeldTyped.{inside_any}
use Rattle.ild_path_changes.proofs.Fields.{risen-at, written-at}
use Rattle.ild_path_changes.proofs.Lifting.{key_there, pair_there, tuple_item, written_is, with_mark, if_some}
use Rattle.ild_path_changes.proofs.Others.{put_lasts}
use Rattle.ild_path_changes.specs.Pairs.{pair_if}
use Rattle.ild_path_changes.specs.Places.{field_place, left_out, place_of, written}
use Rattle.ild_layer_piece.specs.Pieces.{StandsFor}
use Rattle.ild_schema.specs.Clear.{ClearStruct, KeysApart}
use Rattle.ild_schema.specs.Marks.{field_text, mark_kind, mark_text}
use Rattle.ild_schema.specs.Prelude.{anything}
use Rattle.ild_schema.specs.DataKinds.{same_kind}
use Rattle.ild_schema.specs.declared.def.Field.{Field}
use Rattle.ild_schema.specs.declared.def.KindWord.{KindWord}
use Rattle.ild_schema.specs.declared.def.MapForm.{MapForm}
use Rattle.ild_schema.specs.declared.def.MapForm.TheVariants as MF
use Rattle.ild_schema.specs.declared.def.Mark.{Mark}
use Rattle.ild_schema.specs.declared.def.Mark.TheVariants as M
use Rattle.ild_schema.specs.declared.def.Member.{Member}
use Rattle.ild_schema.specs.declared.def.StructForm.{StructForm}
use Rattle.ild_schema.specs.declared.def.StructForm.TheVariants as S
use Rattle.ild_schema.specs.declared.def.UnionForm.{UnionForm}
use Rattle.ild_schema.specs.declared.def.UnionForm.TheVariants as U
use Rattle.ild_schema.specs.declared.row.Row.{Row}
use Rattle.ild_typed.specs.At.{InSlot}
use Rattle.ild_typed.specs.Composed.{inlined, map_form, marked_form, member_form, struct_form}
use Rattle.ild_typed.specs.Fields.{field_entries, tuple_items}
use Rattle.ild_typed.specs.Hamt.{alone}
use Rattle.ild_typed.specs.Holder.{any_holder, data_in, of_any}
use Rattle.ild_typed.specs.Kinds.{kind_word_of}
use Rattle.ild_typed.specs.Layer as L
use Rattle.ild_typed.specs.Segment.{index_of, part}
use Rattle.ild_typed.specs.Strings.{in_key_order, listpairs, map_data, members_in}
use Rattle.ild_path_steps.proofs.Fielding.{got}
use Rattle.ild_path_steps.proofs.Listing.{items_few}
use Rattle.ild_path_steps.specs.Steps.{FoundLead, IsBut, IsField}
use Rattle.ild_path_steps.specs.declared.steps.PartSteps.{PartSteps}
use Rattle.ild_path_steps.specs.declared.steps.PartSteps.TheVariants as P

-- ---- inside an Any

data_back : (d : Data) → data_in (of_any d) ≡ d
data_back T.null = refl
data_back (T.boolean b) = refl
data_back (T.integer n) = refl
data_back (T.text s) = refl
data_back (T.bytes s) = refl
data_back (T.list ds) = refl
data_back (T.map ms) = refl
data_back (T.link s) = refl

same_inside : (y d : Data) (q : InSlot) → (anything, of_any y) ≡ q → q ≡ (anything, of_any d) → y ≡ d
same_inside y d q e h = sym (data_back y) ∙ ap (λ (q : InSlot). data_in q.1) e ∙ ap (λ (q : InSlot). data_in q.1) h ∙ data_back d

pub list_inside : (rows : List Row) (p : Piece) (t d : Data) (s : List ℕ) (r : Option PartSteps) → StandsFor rows p t → K.List ≡ piece_kind t → part (any_holder t) s ≡ Some (anything, of_any d)
    → ((i : ℕ) → index_of s ≡ Some i → i < 2 ^ 64 → r ≡ Some (P.Item i)) → FoundLead r t d
list_inside rows p (T.list ds) d s r stands is there found =
    let x = inside_any (option_and_then (λ i. slice_get (items_list ds) i) (index_of s)) (anything, of_any d) there in
    let y = chain_some (λ i. slice_get (items_list ds) i) (index_of s) x.0 x.1 in
    let few = items_few rows p ds stands in
    let less = got_below (items_list ds) y.0 x.0 y.2 in
    subst (λ o. FoundLead o (T.list ds) d) (sym (found y.0 y.1 (omega (arith, few, less)))) (ap (option_and_then (λ e. Some e)) y.2 ∙ ap Some (same_inside x.0 d (anything, of_any d) x.2 refl))
list_inside rows p T.null d s r stands is there found = absurd cc
list_inside rows p (T.boolean b) d s r stands is there found = absurd cc
list_inside rows p (T.integer n) d s r stands is there found = absurd cc
list_inside rows p (T.text x) d s r stands is there found = absurd cc
list_inside rows p (T.bytes x) d s r stands is there found = absurd cc
list_inside rows p (T.map ms) d s r stands is there found = absurd cc
list_inside rows p (T.link x) d s r stands is there found = absurd cc

pub entry_inside : (t d : Data) (s : List ℕ) → part (any_holder t) s ≡ Some (anything, of_any d) → (ms : T.Members) → t ≡ T.map ms → part_at (key s ∷ []) t ≡ Some d
entry_inside t d s there ms is =
    let x = inside_any (value_at s (members_list ms)) (anything, of_any d) (sym (ap (λ y. part (any_holder y) s) is) ∙ there) in
    ap (part_at (key s ∷ [])) is ∙ ap (option_and_then (λ e. Some e)) x.1 ∙ ap Some (same_inside x.0 d (anything, of_any d) x.2 refl)

-- ---- maps

pub map_leads : (es : List (List ℕ × Data)) (t x : Data) (s : List ℕ) → map_form alone MF.Map (L.map es) ≡ Some t → value_at s es ≡ Some x → part_at (key s ∷ []) t ≡ Some x
map_leads es t x s made there = ap (part_at (key s ∷ [])) (sym (same_Some (map_data es) t made)) ∙ key_there s es x there

pub pairs_lead : (es : List (List ℕ × Data)) (t x : Data) (s : List ℕ) → map_form alone MF.ListPairs (L.map es) ≡ Some t → value_at s es ≡ Some x → part_at (nth (place_of s es) ∷ nth 1 ∷ []) t ≡ Some x
pairs_lead es t x s made there =
    let l = put_lasts s x es in
    ap (part_at (nth (place_of s es) ∷ nth 1 ∷ [])) (sym (same_Some (listpairs es) t made))
    ∙ pair_there s l.front l.behind es x (place_of s es) l.placed (l.was ∙ ap (λ o. l.front ++ (pair_if s o ++ l.behind)) there)

module _ (rows : List Row) (p : Piece) (es : List (List ℕ × Data)) (t x : Data) (s : List ℕ) where
  pub entry_leads : (form : MapForm) → MF.Map ≡ form → map_form alone form (L.map es) ≡ Some t → value_at s es ≡ Some x → part_at (key s ∷ []) t ≡ Some x
  entry_leads MF.Map is made there = map_leads es t x s made there
  entry_leads MF.ListPairs is made there = absurd cc
  entry_leads (MF.StringPairs inner entry) is made there = absurd cc
  entry_leads (MF.Hamt shape) is made there = absurd cc

  pub pair_leads : (form : MapForm) (r : Option PartSteps) → MF.ListPairs ≡ form → StandsFor rows p t → map_form alone form (L.map es) ≡ Some t → value_at s es ≡ Some x
      → ((es : List (List ℕ × Data)) (y : Data) → StandsFor rows p (listpairs es) → value_at s es ≡ Some y → r ≡ Some (P.Pair (place_of s es))) → FoundLead r t x
  pair_leads MF.ListPairs r is stands made there found =
      subst (λ o. FoundLead o t x) (sym (found es x (subst (StandsFor rows p) (sym (same_Some (listpairs es) t made)) stands) there)) (pairs_lead es t x s made there)
  pair_leads MF.Map r is stands made there found = absurd cc
  pair_leads (MF.StringPairs inner entry) r is stands made there found = absurd cc
  pair_leads (MF.Hamt shape) r is stands made there found = absurd cc

-- ---- structs

module _ (fs : List Field) (ds : List (Option Data)) (t a : Data) (s : List ℕ) (number : ℕ) (g : Field) (is : IsField fs s number ds g a) where
  pub field_leads : (form : StructForm) (name : List ℕ) → S.Map ≡ form → name ≡ field_text g → struct_form form fs ds ≡ Some t → ClearStruct form fs → part_at (key name ∷ []) t ≡ Some a
  field_leads S.Map name form_is called made clear =
      let x = map_some (λ es. map_data (in_key_order es)) (field_entries fs ds) t made in
      let w = written_is fs ds x.0 x.1 in
      let there : value_at name (in_key_order x.0) ≡ Some a =
      risen-at x.0 name ∙ (λ i. value_at (called i) (w.same i)) ∙ written-at left_out s fs ds g clear.apart is.named ∙ ap (written left_out g) is.held ∙ ap (λ b. cond b None (Some a)) is.written in
      ap (part_at (key name ∷ [])) (sym x.2) ∙ key_there name (in_key_order x.0) a there
  field_leads S.ListPairs name form_is called made clear = absurd cc
  field_leads S.Tuple name form_is called made clear = absurd cc
  field_leads (S.StringPairs inner entry) name form_is called made clear = absurd cc
  field_leads (S.StringJoin delim) name form_is called made clear = absurd cc

  pub tuple_leads : (form : StructForm) → S.Tuple ≡ form → struct_form form fs ds ≡ Some t → part_at (nth number ∷ []) t ≡ Some a
  tuple_leads S.Tuple form_is made =
      let x = map_some (λ xs. T.list (items_of xs)) (tuple_items fs ds) t made in
      let i = tuple_item s fs ds x.0 a x.1 is.held in
      ap (λ (n : ℕ). part_at (nth n ∷ []) t) is.place
      ∙ ap (part_at (nth (field_place s fs) ∷ [])) (sym x.2) ∙ ap (λ o. option_and_then (λ e. part_at [] e) o) (ap (λ ys. slice_get ys (field_place s fs)) (items_list-items_of x.0) ∙ i.there)
  tuple_leads S.Map form_is made = absurd cc
  tuple_leads S.ListPairs form_is made = absurd cc
  tuple_leads (S.StringPairs inner entry) form_is made = absurd cc
  tuple_leads (S.StringJoin delim) form_is made = absurd cc

  pub field_pair_leads : (rows : List Row) (p : Piece) (form : StructForm) (name : List ℕ) (r : Option PartSteps) → S.ListPairs ≡ form → name ≡ field_text g → StandsFor rows p t → struct_form form fs ds ≡ Some t → ClearStruct form fs
      → ((es : List (List ℕ × Data)) (y : Data) → StandsFor rows p (listpairs es) → value_at name es ≡ Some y → r ≡ Some (P.Pair (place_of name es))) → FoundLead r t a
  field_pair_leads rows p S.ListPairs name r form_is called stands made clear found =
      let m = map_some listpairs (field_entries fs ds) t made in
      let k = written_is fs ds m.0 m.1 in
      let there : value_at name m.0 ≡ Some a =
      (λ i. value_at (called i) (k.same i)) ∙ written-at left_out s fs ds g clear.apart is.named ∙ ap (written left_out g) is.held ∙ ap (λ b. cond b None (Some a)) is.written in
      subst (λ o. FoundLead o t a) (sym (found m.0 a (subst (StandsFor rows p) (sym m.2) stands) there)) (pairs_lead m.0 t a name (ap Some m.2) there)
  field_pair_leads rows p S.Map name r form_is called stands made clear found = absurd cc
  field_pair_leads rows p S.Tuple name r form_is called stands made clear found = absurd cc
  field_pair_leads rows p (S.StringPairs inner entry) name r form_is called stands made clear found = absurd cc
  field_pair_leads rows p (S.StringJoin delim) name r form_is called stands made clear found = absurd cc

-- ---- unions

pub member_is : (all ms : List Member) (n : ℕ) (x m : Member) → all ≡ ms → x ≡ get_or all n x → slice_get ms n ≡ Some m → x ≡ m
member_is all ms n x m same is there = got ms n x m there (is ∙ ap (λ (xs : List Member). get_or xs n x) same)

pub no_text : (mark : Mark) → (mark ≡ M.Bare) ⊎ ((w : KindWord) × (mark ≡ M.Kind w)) → mark_text mark ≡ None
no_text mark (inl e) = ap mark_text e
no_text mark (inr (w, e)) = ap mark_text e

is_there : {A : Type 0} (b : Bool) (x y : A) → cond b (Some x) None ≡ Some y → b ≡ true
is_there true x y h = refl
is_there false x y h = absurd (none-some y h)

none_is : (o : Option Data) → is_none o ≡ true → o ≡ None
none_is None h = refl
none_is (Some d) h = absurd cc

kinded : (d t : Data) (o : Option KindWord) → option_and_then (λ k. cond (same_kind k (kind_word_of d)) (Some d) None) o ≡ Some t → t ≡ d
kinded d t None h = absurd (none-some t h)
kinded d t (Some k) h = sym (if_some (same_kind k (kind_word_of d)) d t h)

module _ (m : Member) (d t : Data) where
  pub keyed_leads : (form : UnionForm) (name : List ℕ) → form ≡ U.Keyed → mark_text m.mark ≡ Some name → member_form form d m ≡ Some t → part_at (key name ∷ []) t ≡ Some d
  keyed_leads form name is mark made =
      let made_in : member_form U.Keyed d m ≡ Some t = sym (ap (λ f. member_form f d m) is) ∙ made in
      let x = with_mark (marked_form U.Keyed d) (mark_text m.mark) name t mark made_in in
      ap (part_at (key name ∷ [])) (sym (same_Some (map_data ((name, d) ∷ [])) t x)) ∙ key_there name ((name, d) ∷ []) d (ap (λ b. cond b (Some d) None) (own_text name))

  pub no_mark : (form : UnionForm) → form ≡ U.Keyed → mark_text m.mark ≡ None → member_form form d m ≡ Some t → ⊥
  no_mark form is mark made = none-some t (sym (ap (option_and_then (marked_form U.Keyed d)) mark) ∙ sym (ap (λ f. member_form f d m) is) ∙ made)

  pub kinded_leads : (form : UnionForm) → form ≡ U.Kinded → member_form form d m ≡ Some t → t ≡ d
  kinded_leads form is made = kinded d t (mark_kind m.mark) (sym (ap (λ f. member_form f d m) is) ∙ made)

  pub envelope_leads : (form : UnionForm) (k content called : List ℕ) → form ≡ U.Envelope k content → called ≡ content → member_form form d m ≡ Some t → KeysApart form → part_at (key called ∷ []) t ≡ Some d
  envelope_leads form k content called is same made apart =
      let a = chain_some (marked_form (U.Envelope k content) d) (mark_text m.mark) t (sym (ap (λ f. member_form f d m) is) ∙ made) in
      ap (λ j. part_at (key j ∷ []) t) same
      ∙ ap (part_at (key content ∷ [])) (sym (same_Some (map_data (put k (T.text a.0) ((content, d) ∷ []))) t a.2))
      ∙ key_there content (put k (T.text a.0) ((content, d) ∷ [])) d
      (put-other k content (T.text a.0) ((content, d) ∷ []) (subst KeysApart is apart) ∙ ap (λ b. cond b (Some d) None) (own_text content))

  pub inline_leads : (form : UnionForm) (k : _) → form ≡ U.Inline k → member_form form d m ≡ Some t → IsBut k t d
  inline_leads form k is made =
      let a = chain_some (marked_form (U.Inline k) d) (mark_text m.mark) t (sym (ap (λ f. member_form f d m) is) ∙ made) in
      let b = chain_some (inlined k a.0) (members_in d) t a.2 in
      record {
        name = a.0;
        entries = b.0;
        is = only_map_data d b.0 b.1;
        whole = sym (if_some (is_none (value_at k b.0)) (map_data (put k (T.text a.0) b.0)) t b.2);
        none = none_is (value_at k b.0) (is_there (is_none (value_at k b.0)) (map_data (put k (T.text a.0) b.0)) t b.2);
      }
