-- The three verbs, in holders whose parts have places, and in those whose parts have names.
use Rattle.std.proofs.Common.{◌≡◌, ◌<◌, ◌^◌, ℕ, List, [], ◌∷◌, Bool, true, false, cond, length, slice_get, Option, Some, None, refl, sym, ◌∙◌, ap, subst, arith}
use Rattle.std.specs.Prelude.{is_some, option_and_then, option_map}
use Rattle.std.proofs.lemmas.Option.{same_Some, none-some}
use Rattle.ild_cbor.specs.declared.piece.Piece.{Piece}
use Rattle.ild_splice_changes.specs.TreeChange.{nth, insert_item, remove_item, replace, one, Located}
use Rattle.ild_data.proofs.Gets.{got_below}
use Rattle.ild_data.proofs.Options.{chain_some, map_some}
use Rattle.ild_data.specs.Data as T
use Rattle.ild_data.specs.Data.{Data, items_list, items_of}
use Rattle.ild_data.specs.Key.{same_text, value_at}
use Rattle.ild_data.proofs.Lists.{items_list-items_of, items_of-items_list}
use Rattle.ild_path_edits.specs.Table.{declared_slot, if_absent, new_index, refusal_to_delete, slot_left_out, slot_to_insert, slot_to_set, unless_there}
use Rattle.ild_path_changes.proofs.Datas.{each}
use Rattle.ild_path_changes.specs.LastLift.{at_place, delete_seen, insert_seen, named_last, set_seen, with_data}
use Rattle.ild_path_changes.specs.Places.{field_named}
use Rattle.ild_layer_piece.specs.Pieces.{StandsFor}
use Rattle.ild_schema.specs.Prelude.{anything}
use Rattle.ild_schema.specs.Value.{Value}
use Rattle.ild_schema.specs.declared.def.Field.{Field}
use Rattle.ild_schema.specs.declared.def.TypeDef.{TypeDef}
use Rattle.ild_schema.specs.declared.def.TypeDef.TheVariants as D
use Rattle.ild_schema.specs.declared.number.Slot.{Slot}
use Rattle.ild_schema.specs.declared.row.Row.{Row}
use Rattle.ild_typed.specs.Hamt.{alone}
use Rattle.ild_typed.specs.Holder.{Holder, any_elements, any_entries, any_holder, elements, entries, fields, member, nothing}
use Rattle.ild_typed.specs.Represented.{represented}
use Rattle.ild_typed.specs.Segment.{index_of}
use Rattle.ild_path_steps.proofs.Holding.{Held, of_any, of_elements, of_entries, of_fields, of_member, of_nothing}
use Rattle.ild_path_steps.proofs.Leading.{each-long}
use Rattle.ild_path_steps.proofs.Listing.{items_few}
use Rattle.ild_path_steps.specs.declared.steps.PartSteps.TheVariants as P
use Rattle.ild_path_last.specs.Change.{PartBecomes, Tells, is_named, located}
use Rattle.ild_path_last.specs.declared.change.LastChange.{LastChange}
use Rattle.ild_path_last.specs.declared.change.LastChange.TheVariants as C

never : {A : Type 0} → true ≡ false → A
never p = absurd cc

pub known_form : (o : Option TypeDef) → is_some o ≡ true → (d : TypeDef) × (o ≡ Some d)
known_form (Some d) h = (d, refl)
known_form None h = never (sym h)

-- ---- which holders have places for their parts

module _ (rows : List Row) (t : Data) (def : TypeDef) (h : Holder) (held : Held rows def h t) where
  pub list_tells : (elem : Slot) (at : ℕ) → def ≡ D.List elem at → Tells true h
  list_tells elem at is = by held where
    by : Held rows def h t → Tells true h
    by (of_elements el pl vs ds e k a b) = subst (Tells true) (sym k) refl
    by (of_any e k) = let wrong : D.Any ≡ D.List elem at = sym e ∙ is in absurd cc
    by (of_fields z os ds e k a b) = let wrong : D.Struct z ≡ D.List elem at = sym e ∙ is in absurd cc
    by (of_member u n v m y e k a b g) = let wrong : D.Union u ≡ D.List elem at = sym e ∙ is in absurd cc
    by (of_entries l l_at el pl form ps es e k a b) = let wrong : D.Map l l_at el pl form ≡ D.List elem at = sym e ∙ is in absurd cc
    by (of_nothing v k) = subst (Tells true) (sym k) tt

  pub others_tell : (def ≡ D.Any → ⊥) → ((elem : Slot) (at : ℕ) → def ≡ D.List elem at → ⊥) → Tells false h
  others_tell no_any no_list = by held where
    by : Held rows def h t → Tells false h
    by (of_any e k) = absurd (no_any e)
    by (of_elements el pl vs ds e k a b) = absurd (no_list el pl e)
    by (of_fields z os ds e k a b) = subst (Tells false) (sym k) refl
    by (of_member u n v m y e k a b g) = subst (Tells false) (sym k) refl
    by (of_entries l l_at el pl form ps es e k a b) = subst (Tells false) (sym k) refl
    by (of_nothing v k) = subst (Tells false) (sym k) tt

-- ---- parts with places

-- a list in a block, whose elements these are, as values or as data
record Listed (rows : List Row) (p : Piece) {X : Type 0} (vs : List X) : Type 0 where
  ds : List Data
  stands : StandsFor rows p (T.list (items_of ds))
  long : length ds ≡ length vs
  few : length vs < 2 ^ 64

elements_listed : (rows : List Row) (p : Piece) (t : Data) (elem : Slot) (vs : List Value) (ds : List Data) → StandsFor rows p t → each (represented alone rows elem) vs ≡ Some ds → t ≡ T.list (items_of ds) → Listed rows p vs
elements_listed rows p t elem vs ds stands a b =
    let at = subst (StandsFor rows p) b stands in
    let few = items_few rows p (items_of ds) at in
    let list_long : length (items_list (items_of ds)) ≡ length ds = ap length (items_list-items_of ds) in
    let long = each-long (represented alone rows elem) vs ds a in
    record { ds = ds; stands = at; long = long; few = omega (arith, few, list_long, long) }

items_listed : (rows : List Row) (p : Piece) (ds : T.Items) → StandsFor rows p (T.list ds) → Listed rows p (items_list ds)
items_listed rows p ds stands = record { ds = items_list ds; stands = subst (StandsFor rows p) (ap T.list (sym (items_of-items_list ds))) stands; long = refl; few = items_few rows p ds stands }

-- what is asked of a holder whose parts have places
module _ (rows : List Row) (p : Piece) (t : Data) (s : List ℕ) (stands : StandsFor rows p t) (def : TypeDef) (P : Holder → Type 0)
    (of_values : (slot : Slot) (vs : List Value) → Listed rows p vs → P (elements slot vs)) (of_items : (ds : List Data) → Listed rows p ds → P (any_elements ds)) (of_none : (v : Value) → P (nothing v))
  where
    in_any : (y : Data) → StandsFor rows p y → Tells true (any_holder y) → P (any_holder y)
    in_any (T.list ds) at told = of_items (items_list ds) (items_listed rows p ds at)
    in_any (T.map ms) at told = never told
    in_any T.null at told = of_none _
    in_any (T.boolean b) at told = of_none _
    in_any (T.integer n) at told = of_none _
    in_any (T.text b) at told = of_none _
    in_any (T.bytes b) at told = of_none _
    in_any (T.link b) at told = of_none _

    by_place : (h : Holder) → Held rows def h t → Tells true h → P h
    by_place h (of_elements elem at vs ds e k a b) told = subst P (sym k) (of_values elem vs (elements_listed rows p t elem vs ds stands a b))
    by_place h (of_any e k) told = subst P (sym k) (in_any t stands (subst (Tells true) k told))
    by_place h (of_fields z os ds e k a b) told = never (subst (Tells true) k told)
    by_place h (of_member u n v m y e k a b g) told = never (subst (Tells true) k told)
    by_place h (of_entries l l_at el pl form ps es e k a b) told = never (subst (Tells true) k told)
    by_place h (of_nothing v k) told = subst P (sym k) (of_none v)

-- the place of an element that is there
record IsAt {X : Type 0} (s : List ℕ) (vs : List X) : Type 0 where
  i : ℕ
  index_is : index_of s ≡ Some i
  less : i < length vs

at_of : {X : Type 0} (s : List ℕ) (vs : List X) (v : X) → option_and_then (λ i. slice_get vs i) (index_of s) ≡ Some v → IsAt s vs
at_of s vs v h = let z = chain_some (λ i. slice_get vs i) (index_of s) v h in record { i = z.0; index_is = z.1; less = got_below vs z.0 v z.2 }

not_refused : {X : Type 0} (o : Option X) → unless_there o ≡ None → (x : X) × (o ≡ Some x)
not_refused None h = absurd (none-some _ (sym h))
not_refused (Some x) h = (x, refl)

module _ (rows : List Row) (p : Piece) (t : Data) (s : List ℕ) (stands : StandsFor rows p t) (def : TypeDef) (F : Option TypeDef) (u : Option Data) (r : LastChange) where
  module _ (w : Value) (x : Data) (part : Slot) where
    abbrev pub SetAs : Holder → Type 0
    SetAs h = slot_to_set h s ≡ Some part → represented alone rows part w ≡ Some x → set_seen F (represented alone rows) h s w u ≡ located r (Some x) u

    set_item : {X : Type 0} (vs : List X) (slot : Slot) → Listed rows p vs → ((i : ℕ) → index_of s ≡ Some i → i < 2 ^ 64 → r ≡ C.Replace (P.Item i)) → option_map (λ v. slot) (option_and_then (λ i. slice_get vs i) (index_of s)) ≡ Some part
        → represented alone rows part w ≡ Some x → at_place (λ i. with_data (λ y. one (nth i ∷ []) (replace y)) (represented alone rows slot w)) (index_of s) ≡ located r (Some x) u
    set_item vs slot listed given there new =
        let y = map_some (λ v. slot) (option_and_then (λ i. slice_get vs i) (index_of s)) part there in
        let z = at_of s vs y.0 y.1 in
        let is : represented alone rows slot w ≡ Some x = ap (λ q. represented alone rows q w) y.2 ∙ new in
        let r_is = given z.i z.index_is (omega (arith, z.less, listed.few)) in
        (λ j. at_place (λ i. with_data (λ y. one (nth i ∷ []) (replace y)) (is j)) (z.index_is j)) ∙ ap (λ c. located c (Some x) u) (sym r_is)

    pub set_listed : (h : Holder) → Held rows def h t → Tells true h → ((i : ℕ) → index_of s ≡ Some i → i < 2 ^ 64 → r ≡ C.Replace (P.Item i)) → SetAs h
    set_listed h held told given =
        by_place rows p t s stands def SetAs (λ slot vs listed there new. set_item vs slot listed given there new) (λ ds listed there new. set_item ds anything listed given there new)
        (λ v there new. absurd (none-some part there)) h held told

    abbrev pub InsertAs : Holder → Type 0
    InsertAs h = slot_to_insert h s ≡ Some part → represented alone rows part w ≡ Some x → insert_seen F (represented alone rows) h s w u ≡ located r (Some x) u

    abbrev pub Comes : Type 0
    Comes = (ds : List Data) (i : ℕ) → StandsFor rows p (T.list (items_of ds)) → new_index (length ds) s ≡ Some i → r ≡ C.InsertItem i

    insert_place : {X : Type 0} (vs : List X) (slot : Slot) → Listed rows p vs → Comes → option_map (λ i. slot) (new_index (length vs) s) ≡ Some part → represented alone rows part w ≡ Some x
        → at_place (λ i. with_data (λ y. one [] (insert_item i y)) (represented alone rows slot w)) (new_index (length vs) s) ≡ located r (Some x) u
    insert_place vs slot listed given there new =
        let y = map_some (λ i. slot) (new_index (length vs) s) part there in
        let is : represented alone rows slot w ≡ Some x = ap (λ q. represented alone rows q w) y.2 ∙ new in
        let r_is = given listed.ds y.0 listed.stands (ap (λ n. new_index n s) listed.long ∙ y.1) in
        (λ j. at_place (λ i. with_data (λ y. one [] (insert_item i y)) (is j)) (y.1 j)) ∙ ap (λ c. located c (Some x) u) (sym r_is)

    pub insert_listed : (h : Holder) → Held rows def h t → Tells true h → Comes → InsertAs h
    insert_listed h held told given =
        by_place rows p t s stands def InsertAs (λ slot vs listed there new. insert_place vs slot listed given there new) (λ ds listed there new. insert_place ds anything listed given there new)
        (λ v there new. absurd (none-some part there)) h held told

  module _ (x : Option Data) where
    abbrev pub DeleteAs : Holder → Type 0
    DeleteAs h = refusal_to_delete h s ≡ None → delete_seen F (represented alone rows) h s u ≡ located r x u

    delete_item : {X : Type 0} (vs : List X) → Listed rows p vs → ((i : ℕ) → index_of s ≡ Some i → i < 2 ^ 64 → r ≡ C.RemoveItem i) → unless_there (option_and_then (λ i. slice_get vs i) (index_of s)) ≡ None
        → at_place (λ i. one [] (remove_item i)) (index_of s) ≡ located r x u
    delete_item vs listed given there =
        let y = not_refused (option_and_then (λ i. slice_get vs i) (index_of s)) there in
        let z = at_of s vs y.0 y.1 in
        let r_is = given z.i z.index_is (omega (arith, z.less, listed.few)) in
        ap (at_place (λ i. one [] (remove_item i))) z.index_is ∙ ap (λ c. located c x u) (sym r_is)

    pub delete_listed : (h : Holder) → Held rows def h t → Tells true h → ((i : ℕ) → index_of s ≡ Some i → i < 2 ^ 64 → r ≡ C.RemoveItem i) → DeleteAs h
    delete_listed h held told given =
        by_place rows p t s stands def DeleteAs (λ slot vs listed there. delete_item vs listed given there) (λ ds listed there. delete_item ds listed given there)
        (λ v there. absurd (none-some _ (sym there))) h held told

-- ---- parts with names

declared_at : (s : List ℕ) (f : Field) (fs : List Field) (g : Field) (part : Slot) (o : Option Slot) (b : Bool) → cond b (Some f) (field_named s fs) ≡ Some g → cond b (Some f.slot) o ≡ Some part
    → (field_named s fs ≡ Some g → o ≡ Some part → g.slot ≡ part) → g.slot ≡ part
declared_at s f fs g part o true named there rest = ap (λ z. z.slot) (sym (same_Some f g named)) ∙ same_Some f.slot part there
declared_at s f fs g part o false named there rest = rest named there

pub declared_is : (s : List ℕ) (fs : List Field) (os : List (Option Value)) (g : Field) (part : Slot) → field_named s fs ≡ Some g → declared_slot s fs os ≡ Some part → g.slot ≡ part
declared_is s [] os g part named there = absurd (none-some g named)
declared_is s (f ∷ fs) [] g part named there = absurd (none-some part there)
declared_is s (f ∷ fs) (o ∷ os) g part named there = declared_at s f fs g part (declared_slot s fs os) (same_text s f.name) named there (declared_is s fs os g part)

absent_slot : (slot part : Slot) (b : Bool) (o : Option Value) → if_absent slot b o ≡ Some part → slot ≡ part
absent_slot slot part b (Some v) h = absurd (none-some part h)
absent_slot slot part true None h = same_Some slot part h
absent_slot slot part false None h = absurd (none-some part h)

left_at : (s : List ℕ) (f : Field) (fs : List Field) (v : Option Value) (g : Field) (part : Slot) (o : Option Slot) (b : Bool) → cond b (Some f) (field_named s fs) ≡ Some g → cond b (if_absent f.slot f.optional v) o ≡ Some part
    → (field_named s fs ≡ Some g → o ≡ Some part → g.slot ≡ part) → g.slot ≡ part
left_at s f fs v g part o true named there rest = ap (λ z. z.slot) (sym (same_Some f g named)) ∙ absent_slot f.slot part f.optional v there
left_at s f fs v g part o false named there rest = rest named there

pub left_is : (s : List ℕ) (fs : List Field) (os : List (Option Value)) (g : Field) (part : Slot) → field_named s fs ≡ Some g → slot_left_out s fs os ≡ Some part → g.slot ≡ part
left_is s [] os g part named there = absurd (none-some g named)
left_is s (f ∷ fs) [] g part named there = absurd (none-some part there)
left_is s (f ∷ fs) (o ∷ os) g part named there = left_at s f fs o g part (slot_left_out s fs os) (same_text s f.name) named there (left_is s fs os g part)

absent_key : {X : Type 0} (slot part : Slot) (o : Option X) → cond (is_some o) None (Some slot) ≡ Some part → slot ≡ part
absent_key slot part (Some x) h = absurd (none-some part h)
absent_key slot part None h = same_Some slot part h

-- what an edit is in such a holder
pub record ByName (F : Option TypeDef) (f : Slot → Value → Option Data) (h : Holder) (s : List ℕ) (new : Slot → Option Data) (d u : Option Data) (e : Located) : Type 0 where
  pub parts : is_named h ≡ true
  pub makes : PartBecomes h s new d
  pub same : e ≡ named_last F f h s new u

module _ (F : Option TypeDef) (f : Slot → Value → Option Data) (s : List ℕ) (u : Option Data) where
  module _ (w : Value) (x : Data) (part : Slot) (new : f part w ≡ Some x) where
    in_slot : (slot : Slot) → slot ≡ part → f slot w ≡ Some x
    in_slot slot is = ap (λ z. f z w) is ∙ new

    pub set_named : (h : Holder) → Tells false h → slot_to_set h s ≡ Some part → ByName F f h s (λ slot. f slot w) (Some x) u (set_seen F f h s w u)
    set_named (fields fs os) told there = record { parts = refl; makes = λ g named. in_slot g.slot (declared_is s fs os g part named there); same = refl }
    set_named (member ms n v) told there = record { parts = refl; makes = tt; same = refl }
    set_named (entries k slot paired ps) told there = record { parts = refl; makes = in_slot slot (same_Some slot part there); same = refl }
    set_named (elements slot vs) told there = never (sym told)
    set_named (any_entries ms) told there = record { parts = refl; makes = in_slot anything (same_Some anything part there); same = refl }
    set_named (any_elements ds) told there = never (sym told)
    set_named (nothing v) told there = absurd (none-some part there)

    pub insert_named : (h : Holder) → Tells false h → slot_to_insert h s ≡ Some part → ByName F f h s (λ slot. f slot w) (Some x) u (insert_seen F f h s w u)
    insert_named (fields fs os) told there = record { parts = refl; makes = λ g named. in_slot g.slot (left_is s fs os g part named there); same = refl }
    insert_named (member ms n v) told there = absurd (none-some part there)
    insert_named (entries k slot paired ps) told there = record { parts = refl; makes = in_slot slot (absent_key slot part (value_at s ps) there); same = refl }
    insert_named (elements slot vs) told there = never (sym told)
    insert_named (any_entries ms) told there = record { parts = refl; makes = in_slot anything (absent_key anything part (value_at s ms) there); same = refl }
    insert_named (any_elements ds) told there = never (sym told)
    insert_named (nothing v) told there = absurd (none-some part there)

  pub delete_named : (h : Holder) → Tells false h → refusal_to_delete h s ≡ None → ByName F f h s (λ slot. None) None u (delete_seen F f h s u)
  delete_named (fields fs os) told there = record { parts = refl; makes = λ g named. refl; same = refl }
  delete_named (member ms n v) told there = record { parts = refl; makes = tt; same = refl }
  delete_named (entries k slot paired ps) told there = record { parts = refl; makes = refl; same = refl }
  delete_named (elements slot vs) told there = never (sym told)
  delete_named (any_entries ms) told there = record { parts = refl; makes = refl; same = refl }
  delete_named (any_elements ds) told there = never (sym told)
  delete_named (nothing v) told there = absurd (none-some _ (sym there))
