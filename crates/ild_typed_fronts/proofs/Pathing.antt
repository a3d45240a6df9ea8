-- Fronts along a path in one block: where it leads, and what edits make.
use Rattle.std.proofs.Common.{◌≡◌, ℕ, List, [], ◌∷◌, Bool, true, false, Option, Some, None, option_map, refl, ap, sym, subst, ◌∙◌}
use Rattle.std.specs.Prelude.{IsUtf8, not, Result, Ok, Err, option_and_then}
use Rattle.std.specs.List.{AllByRecursion}
use Rattle.std.specs.Option.{option_map_or}
use Rattle.std.proofs.lemmas.Option.{same_Some, none-some}
use Rattle.std.proofs.lemmas.Bool.{and_parts}
use Rattle.ild_data.specs.Data as T
use Rattle.ild_data.specs.Data.{Data}
use Rattle.ild_data.proofs.Lists.{items_of-items_list, members_of-members_list}
use Rattle.ild_schema.specs.declared.def.Member.{Member}
use Rattle.ild_schema.specs.declared.def.TypeDef.{TypeDef}
use Rattle.ild_schema.specs.declared.def.TypeDef.TheVariants as D
use Rattle.ild_schema.specs.declared.number.Slot.{Slot}
use Rattle.ild_schema.specs.declared.row.Row.{Row}
use Rattle.ild_schema.specs.Slots.{form_of}
use Rattle.ild_schema.specs.Value as V
use Rattle.ild_schema.specs.Value.{Value, Values, Pairs, Optionals, values_of, values_list, pairs_of, pairs_list, optionals_of, optionals_list}
use Rattle.ild_script.specs.declared.reply.No.{No}
use Rattle.ild_typed.specs.At.{InSlot, seen, at, last_holder, changed_in}
use Rattle.ild_typed.specs.Holder.{Holder, fields, member, entries, elements, any_entries, any_elements, nothing, list_holder, map_holder, struct_holder, union_holder, any_holder, holder_of, value_of}
use Rattle.ild_typed.specs.OfType.{OfType, TestsKeys}
use Rattle.ild_typed.specs.Schema.{IsSchema}
use Rattle.ild_typed.specs.Segment.{part, set_part, member_named}
use Rattle.ild_path_edits.specs.Edit.{Edit, set_at, ins_at, del_at, HasTextPath, path_of, new_slot, placed, set_in, ins_in, unless_kept, del_in, change}
use Rattle.ild_path_edits.specs.EditLaws.{Brings}
use Rattle.ild_path_edits.specs.Table.{slot_to_set, slot_to_insert, key_fits, MayStand, insert_part, delete_part, refusal_to_delete}
use Rattle.ild_path_edits.proofs.Holders.{set_part-seen}
use Rattle.ild_path_edits.proofs.Seen.{insert_part-seen, delete_part-seen}
use Rattle.ild_path_edits.proofs.KeepTyped.{of_type_is_kept}
use Rattle.ild_path_edits.proofs.Paths.{typed_changed, set_typed, inserted_typed, deleted_typed, last_text, last_there, may_stand}
use Rattle.ild_path_within.specs.Within.{with_part}
use Rattle.ild_path_within.proofs.Splitting.{changed_with}
use Rattle.ild_typed_fronts.specs.Front.{stands_as_root, is_root, in_one_block, front, front_in, part_front as bring, edit_front}
use Rattle.ild_typed_fronts.specs.FrontLaws.{PathsOfFronts, WholesOfFronts, EditsOfFronts}
use Rattle.ild_typed_fronts.proofs.Holding.{front_of, set_front, insert_front, delete_front, set_alike, insert_alike, key_alike, delete_alike}
use Rattle.ild_typed_fronts.proofs.Seeing.{typed_seen, parts_of_fronts}

-- ---- a value from its holder

values_back : (vs : Values) → values_of (values_list vs) ≡ vs
values_back V.no_values = refl
values_back (V.value v vs) = ap (λ ws. V.value v ws) (values_back vs)

pub pairs_back : (ps : Pairs) → pairs_of (pairs_list ps) ≡ ps
pairs_back V.no_pairs = refl
pairs_back (V.pair k v ps) = ap (λ qs. V.pair k v qs) (pairs_back ps)

optionals_back : (os : Optionals) → optionals_of (optionals_list os) ≡ os
optionals_back V.no_optionals = refl
optionals_back (V.absent os) = ap (λ qs. V.absent qs) (optionals_back os)
optionals_back (V.present v os) = ap (λ qs. V.present v qs) (optionals_back os)

list_back : (G : Option TypeDef) (vs : Values) → value_of (list_holder G vs) ≡ V.list vs
list_back (Some (D.List elem place)) vs = ap V.list (values_back vs)
list_back G vs = refl

map_back : (G : Option TypeDef) (ps : Pairs) → value_of (map_holder G ps) ≡ V.map ps
map_back (Some (D.Map key key_at elem place form)) ps = ap V.map (pairs_back ps)
map_back G ps = refl

struct_back : (G : Option TypeDef) (os : Optionals) → value_of (struct_holder G os) ≡ V.struct os
struct_back (Some (D.Struct def)) os = ap V.struct (optionals_back os)
struct_back G os = refl

union_back : (G : Option TypeDef) (n : ℕ) (v : Value) → value_of (union_holder G n v) ≡ V.union n v
union_back (Some (D.Union u)) n v = refl
union_back G n v = refl

any_back : (d : Data) → value_of (any_holder d) ≡ V.any d
any_back T.null = refl
any_back (T.boolean b) = refl
any_back (T.integer n) = refl
any_back (T.text s) = refl
any_back (T.bytes s) = refl
any_back (T.list ds) = ap (λ x. V.any (T.list x)) (items_of-items_list ds)
any_back (T.map ms) = ap (λ x. V.any (T.map x)) (members_of-members_list ms)
any_back (T.link s) = refl

pub holder_back : (rows : List Row) (slot : Slot) (v : Value) → value_of (holder_of rows slot v) ≡ v
holder_back rows slot V.null = refl
holder_back rows slot (V.boolean b) = refl
holder_back rows slot (V.integer n) = refl
holder_back rows slot (V.text s) = refl
holder_back rows slot (V.bytes s) = refl
holder_back rows slot (V.link s) = refl
holder_back rows slot (V.list vs) = list_back (form_of rows slot) vs
holder_back rows slot (V.map ps) = map_back (form_of rows slot) ps
holder_back rows slot (V.struct os) = struct_back (form_of rows slot) os
holder_back rows slot (V.union n v) = union_back (form_of rows slot) n v
holder_back rows slot (V.enum n) = refl
holder_back rows slot V.unit = refl
holder_back rows slot (V.any d) = any_back d
holder_back rows slot (V.hamt d) = refl

-- an edit makes no HAMT of what is none
member_root : (G : Option TypeDef) (ms : List Member) (n : ℕ) (v w : Value) (o : Option (ℕ × Member)) → stands_as_root G (value_of (option_map_or (λ (p : ℕ × Member). member ms p.0 w) o (member ms n v))) ≡ false
member_root G ms n v w None = refl
member_root G ms n v w (Some p) = refl

pub set_root : (G : Option TypeDef) (k : Holder) (s : List ℕ) (w : Value) → stands_as_root G (value_of k) ≡ false → stands_as_root G (value_of (set_part k s w)) ≡ false
set_root G (fields fs os) s w e = refl
set_root G (member ms n v) s w e = member_root G ms n v w (member_named s ms)
set_root G (entries key slot paired ps) s w e = e
set_root G (elements slot vs) s w e = refl
set_root G (any_entries ms) s w e = refl
set_root G (any_elements ds) s w e = refl
set_root G (nothing v) s w e = e

pub insert_root : (G : Option TypeDef) (k : Holder) (s : List ℕ) (w : Value) → stands_as_root G (value_of k) ≡ false → stands_as_root G (value_of (insert_part k s w)) ≡ false
insert_root G (fields fs os) s w e = refl
insert_root G (member ms n v) s w e = member_root G ms n v w (member_named s ms)
insert_root G (entries key slot paired ps) s w e = e
insert_root G (elements slot vs) s w e = refl
insert_root G (any_entries ms) s w e = refl
insert_root G (any_elements ds) s w e = refl
insert_root G (nothing v) s w e = e

pub delete_root : (G : Option TypeDef) (k : Holder) (s : List ℕ) → stands_as_root G (value_of k) ≡ false → stands_as_root G (value_of (delete_part k s)) ≡ false
delete_root G (fields fs os) s e = refl
delete_root G (member ms n v) s e = e
delete_root G (entries key slot paired ps) s e = e
delete_root G (elements slot vs) s e = refl
delete_root G (any_entries ms) s e = refl
delete_root G (any_elements ds) s e = refl
delete_root G (nothing v) s e = e

pub not_true : (b : Bool) → not b ≡ true → b ≡ false
not_true true e = absurd cc
not_true false e = refl

abbrev last_front : (List ℕ → List ℕ) → List Row → Holder × List ℕ → Holder × List ℕ
last_front h rows l = (front_of h rows l.0, l.1)

abbrev front_result : (List ℕ → List ℕ) → List Row → Slot → Result Value No → Result Value No
front_result h rows s (Ok c) = Ok (front h rows s c)
front_result h rows s (Err refusal) = Err refusal

module _ (h : List ℕ → List ℕ) (rows : List Row) (is_key : ℕ → List ℕ → Bool) (schema : IsSchema rows) (keys : TestsKeys rows is_key) where
  abbrev Of : Slot → Value → Type 0
  Of slot v = OfType rows slot v

  abbrev F : Slot → Value → Value
  F slot v = front h rows slot v

  -- ---- one segment

  -- the first holder of a path in one block is no HAMT, and the rest is a path in one block of the part
  pub first_plain : (p : InSlot) (s : List ℕ) (ss : List (List ℕ)) → in_one_block rows p (s ∷ ss) ≡ true → is_root rows p ≡ false
  first_plain p s ss e = not_true (is_root rows p) (and_parts (not (is_root rows p)) _ e).0

  pub rest_plain : (p q : InSlot) (s : List ℕ) (ss : List (List ℕ)) → in_one_block rows p (s ∷ ss) ≡ true → part (seen rows p) s ≡ Some q → in_one_block rows q ss ≡ true
  rest_plain p q s ss e there = sym (ap (λ o. option_map_or (λ q. in_one_block rows q ss) o true) there) ∙ (and_parts (not (is_root rows p)) _ e).1

  -- the front of the value that a changed holder is
  front_back : (slot : Slot) (k : Holder) → holder_of rows slot (value_of k) ≡ k → Of slot (value_of k) → is_root rows (slot, value_of k) ≡ false → value_of (front_of h rows k) ≡ F slot (value_of k)
  front_back slot k same is plain =
      ap (λ k. value_of (front_of h rows k)) (sym same) ∙ ap value_of (sym (typed_seen h rows is_key keys (slot, value_of k) is plain)) ∙ holder_back rows slot (F slot (value_of k))

  pub plain_held : (p : InSlot) → is_root rows p ≡ false → stands_as_root (form_of rows p.0) (value_of (seen rows p)) ≡ false
  plain_held p plain = ap (stands_as_root (form_of rows p.0)) (holder_back rows p.0 p.1) ∙ plain

  set_step : (p : InSlot) (s : List ℕ) (u : Slot) (w : Value) → Of p.0 p.1 → is_root rows p ≡ false → slot_to_set (seen rows p) s ≡ Some u → Of p.0 (value_of (set_part (seen rows p) s w))
      → value_of (set_part (seen rows (front_in h rows p)) s (F u w)) ≡ F p.0 (value_of (set_part (seen rows p) s w))
  set_step p s u w is plain slot new =
      ap (λ k. value_of (set_part k s (F u w))) (typed_seen h rows is_key keys p is plain) ∙ ap value_of (set_front h rows (seen rows p) s u w slot)
      ∙ front_back p.0 (set_part (seen rows p) s w) (set_part-seen rows p.0 p.1 s w) new (set_root (form_of rows p.0) (seen rows p) s w (plain_held p plain))

  insert_step : (p : InSlot) (s : List ℕ) (u : Slot) (w : Value) → Of p.0 p.1 → is_root rows p ≡ false → slot_to_insert (seen rows p) s ≡ Some u → Of p.0 (value_of (insert_part (seen rows p) s w))
      → value_of (insert_part (seen rows (front_in h rows p)) s (F u w)) ≡ F p.0 (value_of (insert_part (seen rows p) s w))
  insert_step p s u w is plain slot new =
      ap (λ k. value_of (insert_part k s (F u w))) (typed_seen h rows is_key keys p is plain) ∙ ap value_of (insert_front h rows (seen rows p) s u w slot)
      ∙ front_back p.0 (insert_part (seen rows p) s w) (insert_part-seen rows p.0 p.1 s w) new (insert_root (form_of rows p.0) (seen rows p) s w (plain_held p plain))

  delete_step : (p : InSlot) (s : List ℕ) → Of p.0 p.1 → is_root rows p ≡ false → Of p.0 (value_of (delete_part (seen rows p) s))
      → value_of (delete_part (seen rows (front_in h rows p)) s) ≡ F p.0 (value_of (delete_part (seen rows p) s))
  delete_step p s is plain new =
      ap (λ k. value_of (delete_part k s)) (typed_seen h rows is_key keys p is plain) ∙ ap value_of (delete_front h rows (seen rows p) s)
      ∙ front_back p.0 (delete_part (seen rows p) s) (delete_part-seen rows p.0 p.1 s) new (delete_root (form_of rows p.0) (seen rows p) s (plain_held p plain))

  -- ---- along a path

  part_front : (p : InSlot) (s : List ℕ) → Of p.0 p.1 → is_root rows p ≡ false → part (seen rows (front_in h rows p)) s ≡ option_map (front_in h rows) (part (seen rows p) s)
  part_front p s is plain = parts_of_fronts h rows is_key schema keys p s is plain

  paths_step : (p : InSlot) (s : List ℕ) (ss : List (List ℕ)) (o : Option InSlot) → part (seen rows p) s ≡ o
      → ((q : InSlot) → part (seen rows p) s ≡ Some q → at rows (front_in h rows q) ss ≡ option_map (front_in h rows) (at rows q ss))
      → option_and_then (λ q. at rows q ss) (option_map (front_in h rows) o) ≡ option_map (front_in h rows) (option_and_then (λ q. at rows q ss) o)
  paths_step p s ss None e rest = refl
  paths_step p s ss (Some q) e rest = rest q e

  paths : (path : List (List ℕ)) (p : InSlot) → Of p.0 p.1 → in_one_block rows p path ≡ true → at rows (front_in h rows p) path ≡ option_map (front_in h rows) (at rows p path)
  paths [] p is one = refl
  paths (s ∷ ss) p is one =
      ap (λ o. option_and_then (λ q. at rows q ss) o) (part_front p s is (first_plain p s ss one))
      ∙ paths_step p s ss (part (seen rows p) s) refl
      (λ q e. paths ss q ((of_type_is_kept rows is_key schema keys).parts p q s is e) (rest_plain p q s ss one e))

  lasts_step : (p : InSlot) (s t : List ℕ) (ss : List (List ℕ)) (o : Option InSlot) → part (seen rows p) s ≡ o
      → ((q : InSlot) → part (seen rows p) s ≡ Some q → last_holder rows (front_in h rows q) t ss ≡ option_map (last_front h rows) (last_holder rows q t ss))
      → option_and_then (λ q. last_holder rows q t ss) (option_map (front_in h rows) o) ≡ option_map (last_front h rows) (option_and_then (λ q. last_holder rows q t ss) o)
  lasts_step p s t ss None e rest = refl
  lasts_step p s t ss (Some q) e rest = rest q e

  lasts : (ss : List (List ℕ)) (p : InSlot) (s : List ℕ) → Of p.0 p.1 → in_one_block rows p (s ∷ ss) ≡ true → last_holder rows (front_in h rows p) s ss ≡ option_map (last_front h rows) (last_holder rows p s ss)
  lasts [] p s is one = ap (λ k. Some (k, s)) (typed_seen h rows is_key keys p is (first_plain p s [] one))
  lasts (t ∷ ts) p s is one =
      ap (λ o. option_and_then (λ q. last_holder rows q t ts) o) (part_front p s is (first_plain p s (t ∷ ts) one))
      ∙ lasts_step p s t ts (part (seen rows p) s) refl
      (λ q e. lasts ts q t ((of_type_is_kept rows is_key schema keys).parts p q s is e) (rest_plain p q s (t ∷ ts) one e))

  -- what f makes of the last holder, and g of its front
  module _ (f g : Holder → List ℕ → Holder) (l : Holder × List ℕ)
      (typed : (q : InSlot) → Of q.0 q.1 → seen rows q ≡ l.0 → Of q.0 (value_of (f l.0 l.1)))
      (alike : (q : InSlot) → Of q.0 q.1 → is_root rows q ≡ false → seen rows q ≡ l.0 → value_of (g (seen rows (front_in h rows q)) l.1) ≡ F q.0 (value_of (f (seen rows q) l.1))) where
    change_step : (p : InSlot) (s t : List ℕ) (ss : List (List ℕ)) (o : Option InSlot) → part (seen rows p) s ≡ o → Of p.0 p.1 → is_root rows p ≡ false → option_and_then (λ q. last_holder rows q t ss) o ≡ Some l
        → ((q : InSlot) → part (seen rows p) s ≡ Some q → last_holder rows q t ss ≡ Some l → changed_in rows g (front_in h rows q) t ss ≡ F q.0 (changed_in rows f q t ss))
        → option_map_or (λ r. value_of (set_part (seen rows (front_in h rows p)) s (changed_in rows g r t ss))) (option_map (front_in h rows) o) (F p.0 p.1)
        ≡ F p.0 (option_map_or (λ q. value_of (set_part (seen rows p) s (changed_in rows f q t ss))) o p.1)
    change_step p s t ss None e is plain last rest = absurd (none-some l last)
    change_step p s t ss (Some q) e is plain last rest =
        let kept = of_type_is_kept rows is_key schema keys in
        let c = changed_in rows f q t ss in
        let part_is : Of q.0 q.1 = kept.parts p q s is e in
        let new : Of q.0 c = typed_changed rows is_key (λ slot v. OfType rows slot v) kept f l typed q t ss part_is last in
        let slot : slot_to_set (seen rows p) s ≡ Some q.0 = kept.slots p q s is e in
        let whole : Of p.0 (value_of (set_part (seen rows p) s c)) = kept.set p s q.0 c is slot (kept.there p q s is e) new in
        ap (λ d. value_of (set_part (seen rows (front_in h rows p)) s d)) (rest q e last) ∙ set_step p s q.0 c is plain slot whole

    changes : (ss : List (List ℕ)) (p : InSlot) (s : List ℕ) → Of p.0 p.1 → in_one_block rows p (s ∷ ss) ≡ true → last_holder rows p s ss ≡ Some l
        → changed_in rows g (front_in h rows p) s ss ≡ F p.0 (changed_in rows f p s ss)
    changes [] p s is one last =
        let e : (seen rows p, s) ≡ l = same_Some (seen rows p, s) l last in
        let b = alike p is (first_plain p s [] one) (λ i. (e i).0) in
        subst (λ t. value_of (g (seen rows (front_in h rows p)) t) ≡ F p.0 (value_of (f (seen rows p) t))) (λ i. (sym e i).1) b
    changes (t ∷ ts) p s is one last =
        let plain = first_plain p s (t ∷ ts) one in
        ap (λ o. option_map_or (λ r. value_of (set_part (seen rows (front_in h rows p)) s (changed_in rows g r t ts))) o (F p.0 p.1)) (part_front p s is plain)
        ∙ change_step p s t ts (part (seen rows p) s) refl is plain last
        (λ q e k. changes ts q t ((of_type_is_kept rows is_key schema keys).parts p q s is e) (rest_plain p q s (t ∷ ts) one e) k)

  -- ---- edits

  placed_front : (slot : Slot) (fits : Bool) (c d : Value) (o : Option Slot) → ((u : Slot) → o ≡ Some u → fits ≡ true → d ≡ F slot c) → placed fits d o ≡ front_result h rows slot (placed fits c o)
  placed_front slot fits c d None same = refl
  placed_front slot true c d (Some u) same = ap (λ x. Ok x) (same u refl refl)
  placed_front slot false c d (Some u) same = refl

  kept_front : (slot : Slot) (c d : Value) (o : Option No) → (o ≡ None → d ≡ F slot c) → unless_kept d o ≡ front_result h rows slot (unless_kept c o)
  kept_front slot c d None same = ap (λ x. Ok x) (same refl)
  kept_front slot c d (Some refusal) same = refl

  abbrev Texts : List (List ℕ) → Type 0
  Texts path = AllByRecursion IsUtf8 path

  -- what is set or inserted, and what is left where a part goes, is typed
  module _ (p : InSlot) (s : List ℕ) (ss : List (List ℕ)) (l : Holder × List ℕ) (is : Of p.0 p.1) (one : in_one_block rows p (s ∷ ss) ≡ true) (last : last_holder rows p s ss ≡ Some l) where
    set_changes : (u : Slot) (w : Value) → slot_to_set l.0 l.1 ≡ Some u → MayStand is_key l.0 l.1 → Of u w
        → changed_in rows (λ k t. set_part k t (F u w)) (front_in h rows p) s ss ≡ F p.0 (changed_in rows (λ k t. set_part k t w) p s ss)
    set_changes u w slot stands new =
        let typed = set_typed rows is_key (λ slot v. OfType rows slot v) (of_type_is_kept rows is_key schema keys) l u w slot stands new in
        changes (λ k t. set_part k t w) (λ k t. set_part k t (F u w)) l typed
        (λ q qis plain e. set_step q l.1 u w qis plain (ap (λ k. slot_to_set k l.1) e ∙ slot) (subst (λ k. Of q.0 (value_of (set_part k l.1 w))) (sym e) (typed q qis e)))
        ss p s is one last

    insert_changes : (u : Slot) (w : Value) → slot_to_insert l.0 l.1 ≡ Some u → MayStand is_key l.0 l.1 → Of u w
        → changed_in rows (λ k t. insert_part k t (F u w)) (front_in h rows p) s ss ≡ F p.0 (changed_in rows (λ k t. insert_part k t w) p s ss)
    insert_changes u w slot stands new =
        let typed = inserted_typed rows is_key (λ slot v. OfType rows slot v) (of_type_is_kept rows is_key schema keys) l u w slot stands new in
        changes (λ k t. insert_part k t w) (λ k t. insert_part k t (F u w)) l typed
        (λ q qis plain e. insert_step q l.1 u w qis plain (ap (λ k. slot_to_insert k l.1) e ∙ slot) (subst (λ k. Of q.0 (value_of (insert_part k l.1 w))) (sym e) (typed q qis e)))
        ss p s is one last

    delete_changes : refusal_to_delete l.0 l.1 ≡ None → changed_in rows delete_part (front_in h rows p) s ss ≡ F p.0 (changed_in rows delete_part p s ss)
    delete_changes free =
        let typed = deleted_typed rows is_key (λ slot v. OfType rows slot v) (of_type_is_kept rows is_key schema keys) l free in
        changes delete_part delete_part l typed
        (λ q qis plain e. delete_step q l.1 qis plain (subst (λ k. Of q.0 (value_of (delete_part k l.1))) (sym e) (typed q qis e)))
        ss p s is one last

    stands_there : Texts (s ∷ ss) → key_fits is_key l.0 l.1 ≡ true → MayStand is_key l.0 l.1
    stands_there texts fits = may_stand is_key l.0 l.1 (last_text rows is_key (λ slot v. OfType rows slot v) (of_type_is_kept rows is_key schema keys) p s ss l texts last) fits

    set_last : (w : Value) → Texts (s ∷ ss) → ((u : Slot) → slot_to_set l.0 l.1 ≡ Some u → Of u w)
        → set_in is_key (changed_in rows (λ k t. set_part k t (bring h rows (slot_to_set l.0 l.1) w)) (front_in h rows p) s ss) (Some (last_front h rows l))
        ≡ front_result h rows p.0 (set_in is_key (changed_in rows (λ k t. set_part k t w) p s ss) (Some l))
    set_last w texts new =
        let d = changed_in rows (λ k t. set_part k t (bring h rows (slot_to_set l.0 l.1) w)) (front_in h rows p) s ss in
        (λ i. placed (key_alike h rows is_key l.0 l.1 i) d (set_alike h rows l.0 l.1 i))
        ∙ placed_front p.0 (key_fits is_key l.0 l.1) (changed_in rows (λ k t. set_part k t w) p s ss) d (slot_to_set l.0 l.1)
        (λ u slot fits. ap (λ o. changed_in rows (λ k t. set_part k t (bring h rows o w)) (front_in h rows p) s ss) slot ∙ set_changes u w slot (stands_there texts fits) (new u slot))

    insert_last : (w : Value) → Texts (s ∷ ss) → ((u : Slot) → slot_to_insert l.0 l.1 ≡ Some u → Of u w)
        → ins_in is_key (changed_in rows (λ k t. insert_part k t (bring h rows (slot_to_insert l.0 l.1) w)) (front_in h rows p) s ss) (Some (last_front h rows l))
        ≡ front_result h rows p.0 (ins_in is_key (changed_in rows (λ k t. insert_part k t w) p s ss) (Some l))
    insert_last w texts new =
        let d = changed_in rows (λ k t. insert_part k t (bring h rows (slot_to_insert l.0 l.1) w)) (front_in h rows p) s ss in
        (λ i. placed (key_alike h rows is_key l.0 l.1 i) d (insert_alike h rows l.0 l.1 i))
        ∙ placed_front p.0 (key_fits is_key l.0 l.1) (changed_in rows (λ k t. insert_part k t w) p s ss) d (slot_to_insert l.0 l.1)
        (λ u slot fits. ap (λ o. changed_in rows (λ k t. insert_part k t (bring h rows o w)) (front_in h rows p) s ss) slot ∙ insert_changes u w slot (stands_there texts fits) (new u slot))

    delete_last : del_in (changed_in rows delete_part (front_in h rows p) s ss) (Some (last_front h rows l)) ≡ front_result h rows p.0 (del_in (changed_in rows delete_part p s ss) (Some l))
    delete_last =
        ap (unless_kept (changed_in rows delete_part (front_in h rows p) s ss)) (delete_alike h rows l.0 l.1)
        ∙ kept_front p.0 (changed_in rows delete_part p s ss) (changed_in rows delete_part (front_in h rows p) s ss) (refusal_to_delete l.0 l.1) delete_changes

  -- each edit of a front makes the front, or is refused as the edit of the value is
  edits : (p : InSlot) (e : Edit Value) → HasTextPath e → Brings rows (OfType rows) p e → Of p.0 p.1 → in_one_block rows p (path_of e) ≡ true
      → change rows is_key (front_in h rows p) (edit_front h rows (new_slot rows p e) e) ≡ front_result h rows p.0 (change rows is_key p e)
  edits p (set_at [] w) texts new is one = refl
  edits p (set_at (s ∷ ss) w) texts new is one = by (last_holder rows p s ss) refl new where
    by : (o : Option (Holder × List ℕ)) → last_holder rows p s ss ≡ o → ((u : Slot) → option_and_then (λ (l : Holder × List ℕ). slot_to_set l.0 l.1) (last_holder rows p s ss) ≡ Some u → Of u w)
        → change rows is_key (front_in h rows p) (set_at (s ∷ ss) (bring h rows (option_and_then (λ (l : Holder × List ℕ). slot_to_set l.0 l.1) (last_holder rows p s ss)) w)) ≡ front_result h rows p.0 (change rows is_key p (set_at (s ∷ ss) w))
    by None e new =
        ap (set_in is_key _) (lasts ss p s is one ∙ ap (option_map (last_front h rows)) e) ∙ sym (ap (λ o. front_result h rows p.0 (set_in is_key (changed_in rows (λ k t. set_part k t w) p s ss) o)) e)
    by (Some l) e new =
        let slot = ap (option_and_then (λ (l : Holder × List ℕ). slot_to_set l.0 l.1)) e in
        ap (λ o. set_in is_key (changed_in rows (λ k t. set_part k t (bring h rows o w)) (front_in h rows p) s ss) (last_holder rows (front_in h rows p) s ss)) slot
        ∙ ap (set_in is_key (changed_in rows (λ k t. set_part k t (bring h rows (slot_to_set l.0 l.1) w)) (front_in h rows p) s ss)) (lasts ss p s is one ∙ ap (option_map (last_front h rows)) e)
        ∙ set_last p s ss l is one e w texts (λ u g. new u (slot ∙ g))
        ∙ sym (ap (λ o. front_result h rows p.0 (set_in is_key (changed_in rows (λ k t. set_part k t w) p s ss) o)) e)
  edits p (ins_at [] w) texts new is one = refl
  edits p (ins_at (s ∷ ss) w) texts new is one = by (last_holder rows p s ss) refl new where
    by : (o : Option (Holder × List ℕ)) → last_holder rows p s ss ≡ o → ((u : Slot) → option_and_then (λ (l : Holder × List ℕ). slot_to_insert l.0 l.1) (last_holder rows p s ss) ≡ Some u → Of u w)
        → change rows is_key (front_in h rows p) (ins_at (s ∷ ss) (bring h rows (option_and_then (λ (l : Holder × List ℕ). slot_to_insert l.0 l.1) (last_holder rows p s ss)) w)) ≡ front_result h rows p.0 (change rows is_key p (ins_at (s ∷ ss) w))
    by None e new =
        ap (ins_in is_key _) (lasts ss p s is one ∙ ap (option_map (last_front h rows)) e) ∙ sym (ap (λ o. front_result h rows p.0 (ins_in is_key (changed_in rows (λ k t. insert_part k t w) p s ss) o)) e)
    by (Some l) e new =
        let slot = ap (option_and_then (λ (l : Holder × List ℕ). slot_to_insert l.0 l.1)) e in
        ap (λ o. ins_in is_key (changed_in rows (λ k t. insert_part k t (bring h rows o w)) (front_in h rows p) s ss) (last_holder rows (front_in h rows p) s ss)) slot
        ∙ ap (ins_in is_key (changed_in rows (λ k t. insert_part k t (bring h rows (slot_to_insert l.0 l.1) w)) (front_in h rows p) s ss)) (lasts ss p s is one ∙ ap (option_map (last_front h rows)) e)
        ∙ insert_last p s ss l is one e w texts (λ u g. new u (slot ∙ g))
        ∙ sym (ap (λ o. front_result h rows p.0 (ins_in is_key (changed_in rows (λ k t. insert_part k t w) p s ss) o)) e)
  edits p (del_at []) texts new is one = refl
  edits p (del_at (s ∷ ss)) texts new is one = by (last_holder rows p s ss) refl where
    by : (o : Option (Holder × List ℕ)) → last_holder rows p s ss ≡ o → change rows is_key (front_in h rows p) (del_at (s ∷ ss)) ≡ front_result h rows p.0 (change rows is_key p (del_at (s ∷ ss)))
    by None e = ap (del_in _) (lasts ss p s is one ∙ ap (option_map (last_front h rows)) e) ∙ sym (ap (λ o. front_result h rows p.0 (del_in (changed_in rows delete_part p s ss) o)) e)
    by (Some l) e =
        ap (del_in (changed_in rows delete_part (front_in h rows p) s ss)) (lasts ss p s is one ∙ ap (option_map (last_front h rows)) e)
        ∙ delete_last p s ss l is one e
        ∙ sym (ap (λ o. front_result h rows p.0 (del_in (changed_in rows delete_part p s ss) o)) e)

  wholes : (path : List (List ℕ)) (p q : InSlot) (m : Value) → Of p.0 p.1 → in_one_block rows p path ≡ true → at rows p path ≡ Some q → Of q.0 m
      → with_part rows (front_in h rows p) path (F q.0 m) ≡ F p.0 (with_part rows p path m)
  wholes [] p q m is one there new = ap (λ (r : InSlot). F r.0 m) (sym (same_Some p q there))
  wholes (s ∷ ss) p q m is one there new =
      let kept = of_type_is_kept rows is_key schema keys in
      let l = last_there rows is_key (λ slot v. OfType rows slot v) kept s ss p q there is in
      let front_there : at rows (front_in h rows p) (s ∷ ss) ≡ Some (front_in h rows q) = paths (s ∷ ss) p is one ∙ ap (option_map (front_in h rows)) there in
      sym (changed_with rows ss (front_in h rows p) (front_in h rows q) s (F q.0 m) front_there)
      ∙ set_changes p s ss l.0 is one l.1 q.0 m l.3 l.4 new
      ∙ ap (F p.0) (changed_with rows ss p q s m there)

pub paths_of_fronts : PathsOfFronts
paths_of_fronts = λ h rows is_key schema keys p path is one. paths h rows is_key schema keys path p is one

pub wholes_of_fronts : WholesOfFronts
wholes_of_fronts = λ h rows is_key schema keys p q path m is one there new. wholes h rows is_key schema keys path p q m is one there new

pub edits_of_fronts : EditsOfFronts
edits_of_fronts = λ h rows is_key schema keys p e c texts new is one made. edits h rows is_key schema keys p e texts new is one ∙ ap (front_result h rows p.0) made
