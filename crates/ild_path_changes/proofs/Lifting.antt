-- The change of a part, seen in its holder: one law a holder.
use Rattle.ild_typed.proofs.Unions.{only_map_data}
use Rattle.ild_data.proofs.Options.{chain_some, map_some}
use Rattle.ild_data.specs.Data as D
use Rattle.ild_schema.specs.declared.def.MapForm.TheVariants as M
use Rattle.ild_schema.specs.declared.def.StructForm.TheVariants as S
use Rattle.ild_schema.specs.declared.def.UnionForm.TheVariants as U
use Rattle.ild_typed.specs.Layer as L
use Rattle.std.proofs.Common.{cond, ◌≡◌, ◌≢◌, ℕ, suc, List, [], ◌∷◌, ◌++◌, length, slice_get, Bool, true, false, Option, Some, None, refl, ap, sym, subst, ◌∙◌}
use Rattle.std.specs.Prelude.{slice_set, option_map, option_and_then, map as list_map, not, is_none, ◌&&◌}
use Rattle.std.specs.Option.{option_map_or}
use Rattle.std.proofs.lemmas.Option.{same_Some, none-some}
use Rattle.ild_data.specs.Data.{Data, items_list, items_of, members_list, members_of}
use Rattle.ild_data.specs.Key.{same_text, put, value_at, Rises}
use Rattle.ild_data.specs.Tree.{IsTree}
use Rattle.ild_data.proofs.Lists.{items_list-items_of, members_list-members_of}
use Rattle.ild_schema.specs.declared.def.MapForm.{MapForm}
use Rattle.ild_schema.specs.declared.def.StructForm.{StructForm}
use Rattle.ild_schema.specs.declared.def.UnionForm.{UnionForm}
use Rattle.ild_schema.specs.declared.def.KindWord.{KindWord}
use Rattle.ild_schema.specs.declared.def.Field.{Field}
use Rattle.ild_schema.specs.declared.def.Member.{Member}
use Rattle.ild_schema.specs.declared.number.Slot.{Slot}
use Rattle.ild_schema.specs.Value.{Value}
use Rattle.ild_splice_changes.specs.TreeChange.{TreeStep, nth, key, replace, part_at, changed, insert_item, insert_entry, remove_item, remove_entry, Located, unchanged, one, applied}
use Rattle.ild_typed.specs.Strings.{map_data, pair_data, listpairs as pairs_data, cons_both, in_key_order as sorted, members_in, listpairs}
use Rattle.ild_splice_changes.proofs.Shapes.{list_data, one_key, list_replaced}
use Rattle.ild_path_changes.specs.Pairs.{pair_if, at_pair}
use Rattle.ild_splice_changes.specs.Differences.{at_key}
use Rattle.ild_splice_changes.proofs.Maps.{own_text, other_is, put-other}
use Rattle.ild_path_changes.proofs.Pairs.{one_pair}
use Rattle.ild_typed.specs.Holder.{is_paired}
use Rattle.ild_typed.specs.Segment.{put_by, put_last, at_index, set_field, field_at}
use Rattle.ild_path_changes.specs.Lift.{lift_within, under_mark, map_lift, struct_lift, union_lift, whole, entry_lift, pair_lift, is_beside}
use Rattle.ild_path_changes.proofs.Datas.{each, each_pair, written_entries}
use Rattle.ild_path_changes.specs.Places.{field_each, each_field, written, field_named, field_data, place_of, left_out, field_place, written_before}
use Rattle.ild_schema.specs.Marks.{field_text as represented_name, mark_text, mark_kind}
use Rattle.ild_typed.specs.Fields.{entries_of, field_entries, are_absent, tuple_items}
use Rattle.ild_typed.specs.Kinds.{kind_word_of}
use Rattle.ild_schema.specs.DataKinds.{same_kind}
use Rattle.ild_typed.specs.Composed.{Hamts, map_form, struct_form, member_form, marked_form, inlined}
use Rattle.ild_schema.specs.Clear.{ClearStruct, KeysApart}
use Rattle.ild_value_meaning.proofs.ByParts.{AreInOrder}
use Rattle.ild_path_changes.proofs.Commuting.{within_lifts}
use Rattle.ild_path_changes.proofs.Each.{joined, each_pair-at}
use Rattle.ild_path_changes.proofs.Fields.{struct_map, written-at, risen-at, around}
use Rattle.ild_path_changes.proofs.Others.{list_set, map_set, pairs_set, put_lasts, envelope_set}
use Rattle.ild_path_edits.proofs.Typing.{entries_rise}
use Rattle.ild_path_changes.proofs.Beside.{IsBeside, entries_after, member_after, beside_lifts}

-- what replaces a part where it stands
pub placed : (q : List TreeStep) (t u d : Data) (e : Located) → part_at q t ≡ Some d → u ≡ changed q (replace (applied e d)) t → u ≡ applied (lift_within q e) t
placed q t u d e h is = is ∙ within_lifts q t d e h

-- a list
pub elements_lift : {X : Type 0} (f : X → Option Data) (vs : List X) (o : Option ℕ) (u c : X) (d t n : Data) (e : Located) → option_and_then (λ i. slice_get vs i) o ≡ Some u
    → option_and_then (λ ds. Some (list_data ds)) (each f vs) ≡ Some t → f u ≡ Some d → f c ≡ Some (applied e d)
    → option_and_then (λ ds. Some (list_data ds)) (each f (at_index (λ i xs. slice_set xs i c) o vs)) ≡ Some n
    → n ≡ applied (option_map_or (λ i. lift_within (nth i ∷ []) e) o unchanged) t
elements_lift f vs None u c d t n e h was p q now = absurd (none-some u h)
elements_lift f vs (Some i) u c d t n e h was p q now =
    let x = chain_some (λ ds. Some (list_data ds)) (each f vs) t was in
    let is : list_data x.0 ≡ t = same_Some (list_data x.0) t x.2 in
    let s = list_set f vs x.0 i u c d (applied e d) x.1 h p q in
    let there : part_at (nth i ∷ []) t ≡ Some d = ap (part_at (nth i ∷ [])) (sym is) ∙ s.2 in
    let new : n ≡ list_data (slice_set x.0 i (applied e d)) = same_Some n _ (sym now ∙ ap (λ o. option_and_then (λ ds. Some (list_data ds)) o) s.0) in
    placed (nth i ∷ []) t n d e there (new ∙ s.1 ∙ ap (changed (nth i ∷ []) (replace (applied e d))) is)

-- a map
pub key_there : (k : List ℕ) (es : List (List ℕ × Data)) (d : Data) → value_at k es ≡ Some d → part_at (key k ∷ []) (map_data es) ≡ Some d
key_there k es d h = ap (λ o. option_and_then (λ e. part_at [] e) o) (ap (value_at k) (members_list-members_of es) ∙ h)

pub pair_there : (k : List ℕ) (front behind es : List (List ℕ × Data)) (d : Data) (i : ℕ) → length front ≡ i → es ≡ front ++ (pair_if k (Some d) ++ behind) → part_at (nth i ∷ nth 1 ∷ []) (pairs_data es) ≡ Some d
pair_there k front behind es d i len is =
    subst (λ j. part_at (nth j ∷ nth 1 ∷ []) (pairs_data es) ≡ Some d) len
    (subst (λ xs. part_at (nth (length front) ∷ nth 1 ∷ []) (pairs_data xs) ≡ Some d) (sym is)
    (ap (λ o. option_and_then (λ e. part_at (nth 1 ∷ []) e) o) (ap (λ xs. slice_get xs (length front)) (items_list-items_of _) ∙ got front)))
  where
    got : (front : List (List ℕ × Data)) → slice_get (list_map pair_data (front ++ (k, d) ∷ behind)) (length front) ≡ Some (pair_data (k, d))
    got [] = refl
    got (m ∷ ms) = got ms

pub place_same : {X Y : Type 0} (f : X → Option Y) (k : List ℕ) (ps : List (List ℕ × X)) (es : List (List ℕ × Y)) → each_pair f ps ≡ Some es → place_of k es ≡ place_of k ps
place_same f k [] es h = ap (place_of k) (sym (same_Some [] es h))
place_same f k (p ∷ ps) es h =
    let j = joined (option_map (λ y. (p.0, y)) (f p.1)) (each_pair f ps) es h in
    let y = map_some (λ y. (p.0, y)) (f p.1) j.first j.is_first in
    let first : (j.first).0 ≡ p.0 = ap (λ (z : List ℕ × _). z.0) (sym y.2) in
    ap (place_of k) (sym j.whole) ∙ (λ i. cond (same_text k (first i)) 0 (suc (place_same f k ps j.rest j.is_rest i)))

pub map_form_lift : (at : Hamts) (g : MapForm) (f : Value → Option Data) (ps : List (List ℕ × Value)) (s : List ℕ) (u c : Value) (d t n : Data) (e : Located) (es : List (List ℕ × Data)) (w : Option Data)
    → each_pair f ps ≡ Some es → AreInOrder (is_paired g) ps → value_at s ps ≡ Some u → map_form at g (L.map es) ≡ Some t → f u ≡ Some d → f c ≡ Some (applied e d)
    → option_and_then (λ ds. map_form at g (L.map ds)) (each_pair f (put_by (is_paired g) s c ps)) ≡ Some n → w ≡ Some n
    → n ≡ applied (map_lift g s (place_of s ps) w e) t
map_form_lift at M.Map f ps s u c d t n e es w all order h was p q now after =
    let m = map_set f ps es s c (applied e d) all order q in
    let there : value_at s es ≡ Some d = each_pair-at f ps es s all ∙ ap (λ o. option_and_then f o) h ∙ p in
    let was_at : option_and_then f (value_at s ps) ≡ Some d = ap (λ o. option_and_then f o) h ∙ p in
    let new : n ≡ map_data (put s (applied e d) es) = same_Some n _ (sym now ∙ ap (λ o. option_and_then (λ ds. map_form at M.Map (L.map ds)) o) m.0) in
    let is : map_data es ≡ t = same_Some _ t was in
    placed (key s ∷ []) t n d e (ap (part_at (key s ∷ [])) (sym is) ∙ key_there s es d there)
    (new ∙ m.1 ∙ ap (λ o. applied (at_key s o (Some (applied e d))) (map_data es)) was_at ∙ ap (changed (key s ∷ []) (replace (applied e d))) is)
map_form_lift at M.ListPairs f ps s u c d t n e es w all order h was p q now after =
    let m = pairs_set f ps es s c (applied e d) all q in
    let there : value_at s es ≡ Some d = each_pair-at f ps es s all ∙ ap (λ o. option_and_then f o) h ∙ p in
    let l = put_lasts s (applied e d) es in
    let i : place_of s es ≡ place_of s ps = place_same f s ps es all in
    let new : n ≡ pairs_data (put_last s (applied e d) es) = same_Some n _ (sym now ∙ ap (λ o. option_and_then (λ ds. map_form at M.ListPairs (L.map ds)) o) m.0) in
    let is : pairs_data es ≡ t = same_Some _ t was in
    let part_is : part_at (nth (place_of s ps) ∷ nth 1 ∷ []) (pairs_data es) ≡ Some d =
    pair_there s l.front l.behind es d (place_of s ps) (l.placed ∙ i) (l.was ∙ ap (λ o. l.front ++ (pair_if s o ++ l.behind)) there) in
    placed (nth (place_of s ps) ∷ nth 1 ∷ []) t n d e (ap (part_at (nth (place_of s ps) ∷ nth 1 ∷ [])) (sym is) ∙ part_is)
    (new ∙ m.1 ∙ (λ k. applied (at_pair (i k) s (there k) (Some (applied e d))) (is k)))
map_form_lift at (M.StringPairs inner entry) f ps s u c d t n e es w all order h was p q now after = ap (λ o. applied (whole o) t) (sym after)
map_form_lift at (M.Hamt shape) f ps s u c d t n e es w all order h was p q now after = ap (λ o. applied (whole o) t) (sym after)

-- unions
pub keyed_lift : (k : List ℕ) (d : Data) (e : Located) → map_data ((k, applied e d) ∷ []) ≡ applied (lift_within (key k ∷ []) e) (map_data ((k, d) ∷ []))
keyed_lift k d e =
    placed (key k ∷ []) (map_data ((k, d) ∷ [])) _ d e (key_there k ((k, d) ∷ []) d (ap (λ b. cond b (Some d) None) (own_text k)))
    (one_key k ((k, d) ∷ []) ((k, applied e d) ∷ []) (Some d) (Some (applied e d)) (tt, tt) (tt, tt) (λ j a. other j a) (ap (λ b. cond b (Some d) None) (own_text k)) (ap (λ b. cond b (Some (applied e d)) None) (own_text k)))
  where
    other : (j : List ℕ) → k ≢ j → value_at j ((k, applied e d) ∷ []) ≡ value_at j ((k, d) ∷ [])
    other j a = rw (other_is j k (λ p. a (sym p))) refl

pub envelope_lift : (k content : List ℕ) (n d : Data) (e : Located) → k ≢ content
    → map_data (put k n ((content, applied e d) ∷ [])) ≡ applied (lift_within (key content ∷ []) e) (map_data (put k n ((content, d) ∷ [])))
envelope_lift k content n d e apart =
    placed (key content ∷ []) (map_data (put k n ((content, d) ∷ []))) _ d e
    (key_there content (put k n ((content, d) ∷ [])) d (put-other k content n ((content, d) ∷ []) apart ∙ ap (λ b. cond b (Some d) None) (own_text content)))
    (envelope_set k content n d (applied e d) apart)

-- beside a discriminant
beside_of : (k : List ℕ) (e : Located) → is_beside k e ≡ true → IsBeside k e
beside_of k unchanged h = tt
beside_of k (one [] (replace d)) h = absurd cc
beside_of k (one [] (insert_item i d)) h = tt
beside_of k (one [] (insert_entry j d)) h = apart_of j k h
  where
    apart_of : (j k : List ℕ) → not (same_text j k) ≡ true → j ≢ k
    apart_of j k h p = differ (sym (ap (λ b. not b) (ap (same_text j) (sym p) ∙ own_text j)) ∙ h)
      where
        differ : false ≡ true → ⊥
        differ h = absurd cc
beside_of k (one [] (remove_item i)) h = tt
beside_of k (one [] (remove_entry j)) h = apart_of j k h
  where
    apart_of : (j k : List ℕ) → not (same_text j k) ≡ true → j ≢ k
    apart_of j k h p = differ (sym (ap (λ b. not b) (ap (same_text j) (sym p) ∙ own_text j)) ∙ h)
      where
        differ : false ≡ true → ⊥
        differ h = absurd cc
beside_of k (one (nth i ∷ q) c) h = tt
beside_of k (one (key j ∷ q) c) h = apart_of j k h
  where
    apart_of : (j k : List ℕ) → not (same_text j k) ≡ true → j ≢ k
    apart_of j k h p = differ (sym (ap (λ b. not b) (ap (same_text j) (sym p) ∙ own_text j)) ∙ h)
      where
        differ : false ≡ true → ⊥
        differ h = absurd cc

pub if_some : {A : Type 0} (b : Bool) (x y : A) → cond b (Some x) None ≡ Some y → x ≡ y
if_some true x y h = same_Some x y h
if_some false x y h = absurd (none-some y h)

inline_by : (k name : List ℕ) (d t n : Data) (e : Located) → IsTree d → IsBeside k e → option_and_then (inlined k name) (members_in d) ≡ Some t
    → option_and_then (inlined k name) (members_in (applied e d)) ≡ Some n → n ≡ applied e t
inline_by k name d t n e tree beside was now =
    let a = chain_some (inlined k name) (members_in d) t was in
    let b = chain_some (inlined k name) (members_in (applied e d)) n now in
    let is : d ≡ map_data a.0 = only_map_data d a.0 a.1 in
    let up : Rises a.0 = subst Rises (members_list-members_of a.0) (entries_rise (members_of a.0) (subst IsTree is tree)) in
    let old : map_data (put k (D.text name) a.0) ≡ t = if_some (is_none (value_at k a.0)) (map_data (put k (D.text name) a.0)) t a.2 in
    let new : map_data (put k (D.text name) b.0) ≡ n = if_some (is_none (value_at k b.0)) (map_data (put k (D.text name) b.0)) n b.2 in
    let after : applied e d ≡ map_data (entries_after e a.0) = ap (applied e) is ∙ member_after k e a.0 beside in
    let same : b.0 ≡ entries_after e a.0 = same_Some b.0 (entries_after e a.0) (sym b.1 ∙ ap members_in after ∙ ap Some (members_list-members_of (entries_after e a.0))) in
    sym new ∙ ap (λ xs. map_data (put k (D.text name) xs)) same ∙ beside_lifts k (D.text name) e a.0 beside up ∙ ap (applied e) old

inline_lift : (k name : List ℕ) (d t n : Data) (e : Located) (u : Option Data) (b : Bool) → is_beside k e ≡ b → IsTree d → option_and_then (inlined k name) (members_in d) ≡ Some t
    → option_and_then (inlined k name) (members_in (applied e d)) ≡ Some n → u ≡ Some n → n ≡ applied (cond b e (whole u)) t
inline_lift k name d t n e u true h tree was now after = inline_by k name d t n e tree (beside_of k e h) was now
inline_lift k name d t n e u false h tree was now after = ap (λ o. applied (whole o) t) (sym after)

-- where a mark has a text
marked : (F : List ℕ → Option Data) (o : Option (List ℕ)) (t : Data) → option_and_then F o ≡ Some t → (name : List ℕ) × (o ≡ Some name) × (F name ≡ Some t)
marked F o t h = chain_some F o t h

pub with_mark : (F : List ℕ → Option Data) (o : Option (List ℕ)) (name : List ℕ) (t : Data) → o ≡ Some name → option_and_then F o ≡ Some t → F name ≡ Some t
with_mark F o name t e h = sym (ap (option_and_then F) e) ∙ h

pub union_form_lift : (g : UnionForm) (m : Member) (d t n : Data) (e : Located) (u : Option Data) → KeysApart g → IsTree d → member_form g d m ≡ Some t → member_form g (applied e d) m ≡ Some n → u ≡ Some n
    → n ≡ applied (union_lift g m u e) t
union_form_lift U.Keyed m d t n e u two tree was now all =
    let x = marked (marked_form U.Keyed d) (mark_text m.mark) t was in
    let y = with_mark (marked_form U.Keyed (applied e d)) (mark_text m.mark) x.0 n x.1 now in
    sym (same_Some _ n y) ∙ keyed_lift x.0 d e ∙ ap (applied (lift_within (key x.0 ∷ []) e)) (same_Some _ t x.2)
    ∙ ap (λ o. applied (under_mark (λ name. lift_within (key name ∷ []) e) o) t) (sym x.1)
union_form_lift U.Kinded m d t n e u two tree was now all =
    let x = kinded d t (mark_kind m.mark) was in
    let y = kinded (applied e d) n (mark_kind m.mark) now in
    sym y ∙ ap (applied e) x
  where
    kinded : (d t : Data) (o : Option KindWord) → option_and_then (λ k. cond (same_kind k (kind_word_of d)) (Some d) None) o ≡ Some t → d ≡ t
    kinded d t None h = absurd (none-some t h)
    kinded d t (Some k) h = if_some (same_kind k (kind_word_of d)) d t h
union_form_lift (U.Envelope k content) m d t n e u two tree was now all =
    let x = marked (marked_form (U.Envelope k content) d) (mark_text m.mark) t was in
    let y = with_mark (marked_form (U.Envelope k content) (applied e d)) (mark_text m.mark) x.0 n x.1 now in
    sym (same_Some _ n y) ∙ envelope_lift k content (D.text x.0) d e two ∙ ap (applied (lift_within (key content ∷ []) e)) (same_Some _ t x.2)
union_form_lift U.StringPrefix m d t n e u two tree was now all = ap (λ o. applied (whole o) t) (sym all)
union_form_lift U.BytesPrefix m d t n e u two tree was now all = ap (λ o. applied (whole o) t) (sym all)
union_form_lift (U.Inline k) m d t n e u two tree was now all =
    let x = marked (marked_form (U.Inline k) d) (mark_text m.mark) t was in
    let y = with_mark (marked_form (U.Inline k) (applied e d)) (mark_text m.mark) x.0 n x.1 now in
    inline_lift k x.0 d t n e u (is_beside k e) refl tree x.2 y all

field_set_at : (f : Slot → Value → Option Data) (s : List ℕ) (c : Value) (d : Data) (h : Field) (fs : List Field) (o : Option Value) (os : List (Option Value)) (y : Option Data) (rest : List (Option Data)) (g : Field) (b : Bool)
    → field_each f h o ≡ Some y → each_field f fs os ≡ Some rest → cond b (Some h) (field_named s fs) ≡ Some g → f g.slot c ≡ Some d
    → (field_named s fs ≡ Some g → each_field f fs (set_field s (Some c) fs os) ≡ Some (set_field s (Some d) fs rest))
    → each_field f (h ∷ fs) (cond b (Some c ∷ os) (o ∷ set_field s (Some c) fs os)) ≡ Some (cond b (Some d ∷ rest) (y ∷ set_field s (Some d) fs rest))
field_set_at f s c d h fs o os y rest g true a r e q more = λ i. cons_both (option_map (λ d. Some d) ((ap (λ z. f z.slot c) (same_Some h g e) ∙ q) i)) (r i)
field_set_at f s c d h fs o os y rest g false a r e q more = λ i. cons_both (a i) (more e i)

pub each_field-set : (f : Slot → Value → Option Data) (s : List ℕ) (c : Value) (d : Data) (fs : List Field) (os : List (Option Value)) (ds : List (Option Data)) (g : Field)
    → each_field f fs os ≡ Some ds → field_named s fs ≡ Some g → f g.slot c ≡ Some d → each_field f fs (set_field s (Some c) fs os) ≡ Some (set_field s (Some d) fs ds)
each_field-set f s c d [] os ds g h e q = absurd (none-some g e)
each_field-set f s c d (k ∷ fs) [] ds g h e q = subst (λ zs. Some [] ≡ Some (set_field s (Some d) (k ∷ fs) zs)) (same_Some [] ds h) refl
each_field-set f s c d (k ∷ fs) (o ∷ os) ds g h e q =
    let j = joined (field_each f k o) (each_field f fs os) ds h in
    subst (λ zs. each_field f (k ∷ fs) (set_field s (Some c) (k ∷ fs) (o ∷ os)) ≡ Some (set_field s (Some d) (k ∷ fs) zs)) j.whole
    (field_set_at f s c d k fs o os j.first j.rest g (same_text s k.name) j.is_first j.is_rest e q (λ w. each_field-set f s c d fs os j.rest g j.is_rest w q))

-- a present field: its declaration, and its value
pub record IsPresent (s : List ℕ) (fs : List Field) (os : List (Option Value)) (q : Slot × Value) : Type 0 where
  pub declared : Field
  pub named : field_named s fs ≡ Some declared
  pub slot : declared.slot ≡ q.0
  pub held : field_data s fs os ≡ Some q.1

present_at : (s : List ℕ) (f : Field) (fs : List Field) (o : Option Value) (os : List (Option Value)) (q : Slot × Value) (b : Bool) → same_text s f.name ≡ b
    → cond b (option_map (λ v. (f.slot, v)) o) (field_at s fs os) ≡ Some q → (field_at s fs os ≡ Some q → IsPresent s fs os q) → IsPresent s (f ∷ fs) (o ∷ os) q
present_at s f fs None os q true e h rest = absurd (none-some q h)
present_at s f fs (Some v) os q true e h rest =
    let p = same_Some (f.slot, v) q h in
    record { declared = f; named = rw e refl; slot = λ i. (p i).0; held = rw e (λ i. Some ((p i).1)) }
present_at s f fs o os q false e h rest =
    let r = rest h in
    record { declared = r.declared; named = rw e r.named; slot = r.slot; held = rw e r.held }

pub present_field : (s : List ℕ) (fs : List Field) (os : List (Option Value)) (q : Slot × Value) → field_at s fs os ≡ Some q → IsPresent s fs os q
present_field s [] os q h = absurd (none-some q h)
present_field s (f ∷ fs) [] q h = absurd (none-some q h)
present_field s (f ∷ fs) (o ∷ os) q h = present_at s f fs o os q (same_text s f.name) refl h (λ g. present_field s fs os q g)

data_at : (f : Slot → Value → Option Data) (s : List ℕ) (h : Field) (fs : List Field) (o : Option Value) (os : List (Option Value)) (y : Option Data) (rest : List (Option Data)) (g : Field) (u : Value) (b : Bool)
    → field_each f h o ≡ Some y → cond b (Some h) (field_named s fs) ≡ Some g → cond b o (field_data s fs os) ≡ Some u
    → (field_named s fs ≡ Some g → field_data s fs os ≡ Some u → field_data s fs rest ≡ f g.slot u) → cond b y (field_data s fs rest) ≡ f g.slot u
data_at f s h fs None os y rest g u true a e p more = absurd (none-some u p)
data_at f s h fs (Some v) os y rest g u true a e p more =
    let z = map_some (λ d. Some d) (f h.slot v) y a in
    sym z.2 ∙ sym z.1 ∙ (λ i. f ((same_Some h g e i).slot) (same_Some v u p i))
data_at f s h fs o os y rest g u false a e p more = more e p

pub field_data-each : (f : Slot → Value → Option Data) (s : List ℕ) (fs : List Field) (os : List (Option Value)) (ds : List (Option Data)) (g : Field) (u : Value)
    → each_field f fs os ≡ Some ds → field_named s fs ≡ Some g → field_data s fs os ≡ Some u → field_data s fs ds ≡ f g.slot u
field_data-each f s [] os ds g u h e p = absurd (none-some g e)
field_data-each f s (k ∷ fs) [] ds g u h e p = absurd (none-some u p)
field_data-each f s (k ∷ fs) (o ∷ os) ds g u h e p =
    let j = joined (field_each f k o) (each_field f fs os) ds h in
    ap (field_data s (k ∷ fs)) (sym j.whole) ∙ data_at f s k fs o os j.first j.rest g u (same_text s k.name) j.is_first e p (λ a b. field_data-each f s fs os j.rest g u j.is_rest a b)

-- what the entries of a struct are
pub record IsWritten (fs : List Field) (ds : List (Option Data)) (es : List (List ℕ × Data)) : Type 0 where
  pub same : es ≡ written_entries left_out fs ds
  pub count : length fs ≡ length ds

entry_if : (n : List ℕ) (d : Data) (b : Bool) → cond b [] ((n, d) ∷ []) ≡ pair_if n (cond b None (Some d))
entry_if n d true = refl
entry_if n d false = refl

if_so : (b : Bool) (o : Option (List (List ℕ × Data))) (es : List (List ℕ × Data)) → cond b o None ≡ Some es → o ≡ Some es
if_so true o es h = h
if_so false o es h = absurd (none-some es h)

pub written_is : (fs : List Field) (ds : List (Option Data)) (es : List (List ℕ × Data)) → field_entries fs ds ≡ Some es → IsWritten fs ds es
written_is [] [] es h = record { same = sym (same_Some [] es h); count = refl }
written_is [] (o ∷ os) es h = absurd (none-some es h)
written_is (f ∷ fs) [] es h = absurd (none-some es h)
written_is (f ∷ fs) (Some d ∷ os) es h =
    let x = map_some (λ ys. entries_of f d ++ ys) (field_entries fs os) es h in
    let r = written_is fs os x.0 x.1 in
    record { same = sym x.2 ∙ (λ i. entry_if (represented_name f) d (left_out f d) i ++ r.same i); count = ap (λ n. suc n) r.count }
written_is (f ∷ fs) (None ∷ os) es h =
    let r = written_is fs os es (if_so f.optional (field_entries fs os) es h) in
    record { same = r.same; count = ap (λ n. suc n) r.count }

-- a struct as a map, where the field's entry comes, goes, is changed, or is left out before and after
written_lift : (g : Field) (t n d : Data) (e : Located) (a b : Bool) → (a ≡ false → part_at (key (represented_name g) ∷ []) t ≡ Some d)
    → n ≡ applied (at_key (represented_name g) (cond a None (Some d)) (cond b None (Some (applied e d)))) t
    → n ≡ applied (entry_lift (represented_name g) (cond a None (Some d)) (cond b None (Some (applied e d))) e) t
written_lift g t n d e true true there is = is
written_lift g t n d e true false there is = is
written_lift g t n d e false true there is = is
written_lift g t n d e false false there is = placed (key (represented_name g) ∷ []) t n d e (there refl) is

paired_lift : (i : ℕ) (k : List ℕ) (t n d : Data) (e : Located) (a b : Bool) → (a ≡ false → part_at (nth i ∷ nth 1 ∷ []) t ≡ Some d)
    → n ≡ applied (at_pair i k (cond a None (Some d)) (cond b None (Some (applied e d)))) t
    → n ≡ applied (pair_lift i k (cond a None (Some d)) (cond b None (Some (applied e d))) e) t
paired_lift i k t n d e true true there is = is
paired_lift i k t n d e true false there is = is
paired_lift i k t n d e false true there is = is
paired_lift i k t n d e false false there is = placed (nth i ∷ nth 1 ∷ []) t n d e (there refl) is

-- a tuple, where the field is there before and after
none_there_at : (s : List ℕ) (f : Field) (fs : List Field) (os : List (Option Data)) (b : Bool) → field_data s fs os ≡ None → cond b None (field_data s fs os) ≡ None
none_there_at s f fs os true h = h'
  where
    h' : ◌≡◌ {A = Option Data} None None
    h' = refl
none_there_at s f fs os false h = h

both_true : (a b : Bool) → (a && b) ≡ true → b ≡ true
both_true true b h = h
both_true false b h = absurd cc

pub none_there : (s : List ℕ) (fs : List Field) (os : List (Option Data)) → are_absent fs os ≡ true → field_data s fs os ≡ None
none_there s [] os h = refl
none_there s (f ∷ fs) [] h = absurd cc
none_there s (f ∷ fs) (Some d ∷ os) h = absurd cc
none_there s (f ∷ fs) (None ∷ os) h = none_there_at s f fs os (same_text s f.name) (none_there s fs os (both_true f.optional (are_absent fs os) h))

none_first : (s : List ℕ) (f : Field) (fs : List Field) (os : List (Option Data)) (xs : List Data) (d : Data) (b : Bool) → are_absent (f ∷ fs) (None ∷ os) ≡ b → cond b (Some []) None ≡ Some xs → field_data s (f ∷ fs) (None ∷ os) ≡ Some d → ⊥
none_first s f fs os xs d true h g e = none-some d (sym (none_there s (f ∷ fs) (None ∷ os) h) ∙ e)
none_first s f fs os xs d false h g e = none-some xs g

pub record IsItem (s : List ℕ) (fs : List Field) (ds : List (Option Data)) (xs : List Data) (d : Data) : Type 0 where
  pub there : slice_get xs (field_place s fs) ≡ Some d
  pub set : (w : Data) → tuple_items fs (set_field s (Some w) fs ds) ≡ Some (slice_set xs (field_place s fs) w)

item_first : (s : List ℕ) (f : Field) (fs : List Field) (a : Data) (os : List (Option Data)) (ys : List Data) (d : Data) (b : Bool) → same_text s f.name ≡ b → tuple_items fs os ≡ Some ys
    → cond b (Some a) (field_data s fs os) ≡ Some d → (field_data s fs os ≡ Some d → IsItem s fs os ys d) → IsItem s (f ∷ fs) (Some a ∷ os) (a ∷ ys) d
item_first s f fs a os ys d true h g e rest = record { there = rw h e; set = λ w. rw h (ap (λ o. option_map (λ zs. w ∷ zs) o) g) }
item_first s f fs a os ys d false h g e rest =
    let r = rest e in
    record { there = rw h r.there; set = λ w. rw h (ap (λ o. option_map (λ zs. a ∷ zs) o) (r.set w)) }

pub tuple_item : (s : List ℕ) (fs : List Field) (ds : List (Option Data)) (xs : List Data) (d : Data) → tuple_items fs ds ≡ Some xs → field_data s fs ds ≡ Some d → IsItem s fs ds xs d
tuple_item s [] ds xs d h e = absurd (none-some d e)
tuple_item s (f ∷ fs) [] xs d h e = absurd (none-some d e)
tuple_item s (f ∷ fs) (None ∷ os) xs d h e = absurd (none_first s f fs os xs d (are_absent (f ∷ fs) (None ∷ os)) refl h e)
tuple_item s (f ∷ fs) (Some a ∷ os) xs d h e =
    let x = map_some (λ ys. a ∷ ys) (tuple_items fs os) xs h in
    subst (λ zs. IsItem s (f ∷ fs) (Some a ∷ os) zs d) x.2 (item_first s f fs a os x.0 d (same_text s f.name) refl x.1 e (λ g. tuple_item s fs os x.0 d x.1 g))

pub struct_form_lift : (m : StructForm) (fs : List Field) (ds : List (Option Data)) (s : List ℕ) (g : Field) (d t n : Data) (e : Located) (u : Option Data)
    → ClearStruct m fs → field_named s fs ≡ Some g → field_data s fs ds ≡ Some d
    → struct_form m fs ds ≡ Some t → struct_form m fs (set_field s (Some (applied e d)) fs ds) ≡ Some n → u ≡ Some n
    → n ≡ applied (struct_lift m s fs ds g (field_data s fs ds) (Some (applied e d)) u e) t
struct_form_lift S.Map fs ds s g d t n e u clear named here was now new =
    let x = map_some (λ es. map_data (sorted es)) (field_entries fs ds) t was in
    let y = map_some (λ es. map_data (sorted es)) (field_entries fs (set_field s (Some (applied e d)) fs ds)) n now in
    let a = written_is fs ds x.0 x.1 in
    let b = written_is fs (set_field s (Some (applied e d)) fs ds) y.0 y.1 in
    let law = struct_map left_out s (Some (applied e d)) fs ds g clear.apart a.count named in
    let is : map_data (sorted (written_entries left_out fs ds)) ≡ t = ap (λ es. map_data (sorted es)) (sym a.same) ∙ x.2 in
    let one_is : n ≡ applied (at_key (represented_name g) (written left_out g (Some d)) (written left_out g (Some (applied e d)))) t =
    sym y.2 ∙ ap (λ es. map_data (sorted es)) b.same ∙ law ∙ (λ i. applied (at_key (represented_name g) (written left_out g (here i)) (written left_out g (Some (applied e d)))) (is i)) in
    let at : value_at (represented_name g) (sorted (written_entries left_out fs ds)) ≡ written left_out g (Some d) =
    risen-at (written_entries left_out fs ds) (represented_name g) ∙ written-at left_out s fs ds g clear.apart named ∙ ap (written left_out g) here in
    let there : left_out g d ≡ false → part_at (key (represented_name g) ∷ []) t ≡ Some d =
    λ k. ap (part_at (key (represented_name g) ∷ [])) (sym is) ∙ key_there (represented_name g) (sorted (written_entries left_out fs ds)) d (at ∙ ap (λ b. cond b None (Some d)) k) in
    written_lift g t n d e (left_out g d) (left_out g (applied e d)) there one_is
    ∙ (λ i. applied (entry_lift (represented_name g) (written left_out g (sym here i)) (written left_out g (Some (applied e d))) e) t)
struct_form_lift S.Tuple fs ds s g d t n e u clear named here was now new =
    let x = map_some (λ xs. D.list (items_of xs)) (tuple_items fs ds) t was in
    let i = tuple_item s fs ds x.0 d x.1 here in
    let y : D.list (items_of (slice_set x.0 (field_place s fs) (applied e d))) ≡ n = same_Some _ n (sym (ap (option_map (λ xs. D.list (items_of xs))) (i.set (applied e d))) ∙ now) in
    placed (nth (field_place s fs) ∷ []) t n d e
    (ap (part_at (nth (field_place s fs) ∷ [])) (sym x.2) ∙ ap (λ o. option_and_then (λ e. part_at [] e) o) (ap (λ ys. slice_get ys (field_place s fs)) (items_list-items_of x.0) ∙ i.there))
    (sym y ∙ sym (list_replaced [] (replace (applied e d)) x.0 (field_place s fs) d i.there) ∙ ap (changed (nth (field_place s fs) ∷ []) (replace (applied e d))) x.2)
struct_form_lift S.ListPairs fs ds s g d t n e u clear named here was now new =
    let x = map_some listpairs (field_entries fs ds) t was in
    let y = map_some listpairs (field_entries fs (set_field s (Some (applied e d)) fs ds)) n now in
    let a = written_is fs ds x.0 x.1 in
    let b = written_is fs (set_field s (Some (applied e d)) fs ds) y.0 y.1 in
    let r = around left_out s fs ds g a.count named in
    let k = represented_name g in
    let is : pairs_data (written_entries left_out fs ds) ≡ t = ap pairs_data (sym a.same) ∙ x.2 in
    let split : written_entries left_out fs ds ≡ r.front ++ (pair_if k (written left_out g (Some d)) ++ r.behind) = r.now ∙ ap (λ o. r.front ++ (pair_if k (written left_out g o) ++ r.behind)) here in
    let one_is : n ≡ applied (at_pair (written_before left_out s fs ds) k (written left_out g (Some d)) (written left_out g (Some (applied e d)))) t =
    sym y.2 ∙ ap pairs_data b.same ∙ ap pairs_data (r.set (Some (applied e d))) ∙ one_pair k r.front r.behind (written left_out g (Some d)) (written left_out g (Some (applied e d)))
    ∙ (λ i. applied (at_pair (r.placed i) k (written left_out g (Some d)) (written left_out g (Some (applied e d)))) (pairs_data (sym split i)))
    ∙ ap (applied (at_pair (written_before left_out s fs ds) k (written left_out g (Some d)) (written left_out g (Some (applied e d))))) is in
    let there : left_out g d ≡ false → part_at (nth (written_before left_out s fs ds) ∷ nth 1 ∷ []) t ≡ Some d =
    λ j. ap (part_at (nth (written_before left_out s fs ds) ∷ nth 1 ∷ [])) (sym is)
    ∙ pair_there k r.front r.behind (written_entries left_out fs ds) d (written_before left_out s fs ds) r.placed (split ∙ ap (λ b. r.front ++ (pair_if k (cond b None (Some d)) ++ r.behind)) j) in
    paired_lift (written_before left_out s fs ds) k t n d e (left_out g d) (left_out g (applied e d)) there one_is
    ∙ (λ i. applied (pair_lift (written_before left_out s fs ds) k (written left_out g (sym here i)) (written left_out g (Some (applied e d))) e) t)
struct_form_lift (S.StringPairs inner entry) fs ds s g d t n e u clear named here was now new = ap (λ o. applied (whole o) t) (sym new)
struct_form_lift (S.StringJoin delim) fs ds s g d t n e u clear named here was now new = ap (λ o. applied (whole o) t) (sym new)
