-- Iterators over the parts of a view: the first part that is left, and those behind it.
use Rattle.std.proofs.Common.{◌≡◌, ℕ, List, [], ◌∷◌, Option, Some, None, refl, sym, ◌∙◌, subst}
use Rattle.std.specs.Borrow.{Bor}
use Rattle.ild_data.specs.Data as T
use Rattle.ild_data.specs.Data.{Data, Items, items_list}
use Rattle.ild_data.proofs.Lists.{items_list-items_of}
use Rattle.ild_cbor.specs.Nodes.{HasData}
use Rattle.ild_cbor.specs.Steps.{HasItems, ItemsGive}
use Rattle.ild_cbor.specs.declared.items.Items.{Items as ItemsLeft}
use Rattle.ild_cbor.specs.declared.node.Node.{Node}
use Rattle.ild_cbor.specs.declared.piece.Piece.{Piece}
use Rattle.ild_cbor.specs.declared.piece.Piece.TheVariants as Q
use Rattle.ild_layer_piece.specs.Entries.{Lists}
use Rattle.ild_layer_piece.specs.Pieces.{StandsFor}
use Rattle.ild_schema.specs.declared.def.MapForm.{MapForm}
use Rattle.ild_schema.specs.declared.def.MapForm.TheVariants as MF
use Rattle.ild_schema.specs.declared.number.Slot.{Slot}
use Rattle.ild_schema.specs.declared.row.Row.{Row}
use Rattle.ild_typed.specs.At.{InSlot}
use Rattle.ild_typed.specs.Fits.{Front}
use Rattle.ild_typed.specs.Holder.{Holder}
use Rattle.ild_view.proofs.Ordering.{FormKeyed, ListsBeside, MapsBeside}
use Rattle.ild_view.specs.Beside.{AreBeside, AreKeyed, IsBeside}
use Rattle.ild_view.specs.Body.{BodyStands}
use Rattle.ild_view.specs.Front.{BodyHasFront}
use Rattle.ild_view.specs.Iterates.{EntriesStep, EntryFirst, FindsEntries, FindsItems, HasEntriesLeft, HasItemsLeft, ItemFirst, ItemsStep}
use Rattle.ild_view.specs.Left.{HasElements, HasEntries, SomeElements, SomeEntries}
use Rattle.ild_view.specs.Ordered.{entries_in}
use Rattle.ild_view.specs.Parts.{IsPartView}
use Rattle.ild_view_entries.specs.Left.{AreLeft, FindsLeft, FirstStep, FormLeft}
use Rattle.ild_view.specs.View.{body_of, slot_of, table_of}
use Rattle.ild_view.specs.declared.body.Body.{Body}
use Rattle.ild_view.specs.declared.body.Body.TheVariants as B
use Rattle.ild_view.specs.declared.elements.ViewItems.{ViewItems}
use Rattle.ild_view.specs.declared.entries.ViewEntries.{ViewEntries}
use Rattle.ild_view_entries.specs.declared.left.EntriesLeft.{EntriesLeft}
use Rattle.ild_view.specs.declared.view.View.{View}

-- ---- a view of a part beside its data

beside_front : (rows : List Row) (u : Slot) (q : InSlot) (d : Data) (b : Body) → BodyStands rows b d → IsBeside rows u q d → BodyHasFront rows u b
beside_front rows u q d b stands h = record { value = q.1; room = h.room; tree = d; stands = stands; front = h.front }

beside_view : (rows : List Row) (u : Slot) (q : InSlot) (d : Data) (b : Body) (v : View) → BodyStands rows b d → IsBeside rows u q d → table_of v ≡ rows → slot_of v ≡ u → body_of v ≡ b → IsPartView rows q v
beside_view rows u q d b v stands h table slot body = record {
  table = table;
  slot = slot ∙ sym h.slot;
  view = record {
    room = h.room;
    tree = d;
    stands = subst (λ (c : Body). BodyStands (table_of v) c d) (sym body) (subst (λ (rs : List Row). BodyStands rs b d) (sym table) stands);
    front = subst (λ (s : Slot). Front (table_of v) h.room s q.1 d) (sym slot) (subst (λ (rs : List Row). Front rs h.room u q.1 d) (sym table) h.front);
  };
}

-- ---- elements

module _ (rows : List Row) (u : Slot) (s after : ItemsLeft) where
  module _ (n : Node) (gives : ItemsGive s (Some n) after) where
    record First (qs : List InSlot) : Type 0 where
      part : InSlot
      later : List InSlot
      is : qs ≡ part ∷ later
      one : Data
      stands : HasData n one
      beside : IsBeside rows u part one
      left : HasElements rows u after later

    first_of : (qs : List InSlot) → HasElements rows u s qs → First qs
    first_of qs h = by qs h.items h.left h.beside where
      by : (ps : List InSlot) (ds : Items) → HasItems s ds → AreBeside rows u ps (items_list ds) → First ps
      by ps T.no_items has beside = absurd (gives T.no_items has)
      by [] (T.item d ds) has beside = absurd beside
      by (p ∷ ps) (T.item d ds) has beside =
          let x = gives (T.item d ds) has in
          record { part = p; later = ps; is = refl; one = d; stands = x.stands; beside = beside.0; left = record { items = ds; left = x.left; beside = beside.1 } }

    pub element_first : (v : View) → table_of v ≡ rows → slot_of v ≡ u → body_of v ≡ B.Held (Q.Node n) → (qs : List InSlot) → HasElements rows u s qs → ItemFirst rows u qs (Some (v, after))
    element_first v table slot body qs h =
        let x = first_of qs h in
        subst (λ ps. ItemFirst rows u ps (Some (v, after))) (sym x.is) (beside_view rows u x.part x.one (B.Held (Q.Node n)) v x.stands x.beside table slot body, x.left)

    pub element_front : SomeElements rows u s → BodyHasFront rows u (B.Held (Q.Node n))
    element_front h = let x = first_of h.of h.has in beside_front rows u x.part x.one (B.Held (Q.Node n)) x.stands x.beside

    pub elements_behind : SomeElements rows u s → SomeElements rows u after
    elements_behind h = let x = first_of h.of h.has in record { of = x.later; has = x.left }

  pub no_element_first : ItemsGive s None after → (qs : List InSlot) → HasElements rows u s qs → ItemFirst rows u qs None
  no_element_first gives qs h = by qs h.items h.left h.beside where
    by : (ps : List InSlot) (ds : Items) → HasItems s ds → AreBeside rows u ps (items_list ds) → ItemFirst rows u ps None
    by [] ds has beside = tt
    by (p ∷ ps) T.no_items has beside = absurd beside
    by (p ∷ ps) (T.item d ds) has beside = absurd (gives (T.item d ds) has)

-- those of a list that was found
module _ (rows : List Row) (u : Slot) where
  record Begun (o : Option (List InSlot)) (s : ItemsLeft) : Type 0 where
    parts : List InSlot
    is : o ≡ Some parts
    has : HasElements rows u s parts

  begun : (ds : Option (List Data)) (o : Option (List InSlot)) (s : ItemsLeft) → ListsBeside rows u ds o → Lists ds (Some s) → Begun o s
  begun None o s beside found = absurd found
  begun (Some ds) None s beside found = absurd beside
  begun (Some ds) (Some qs) s beside found =
      record { parts = qs; is = refl; has = record { items = T.items_of ds; left = found; beside = subst (AreBeside rows u qs) (sym (items_list-items_of ds)) beside } }

  pub items_some : (ds : Option (List Data)) (o : Option (List InSlot)) (s : ItemsLeft) → ListsBeside rows u ds o → Lists ds (Some s) → SomeElements rows u s
  items_some ds o s beside found = let x = begun ds o s beside found in record { of = x.parts; has = x.has }

  pub items_found : (ds : Option (List Data)) (o : Option (List InSlot)) (t : ViewItems) → ListsBeside rows u ds o → Lists ds (Some t.items) → t.acc.now ≡ rows → t.slot ≡ u → FindsItems rows o (Some t)
  items_found ds o t beside found table slot =
      let x = begun ds o t.items beside found in
      subst (λ p. FindsItems rows p (Some t)) (sym x.is) (record { table = table; left = subst (λ (k : Slot). HasElements rows k t.items x.parts) (sym slot) x.has })

  pub items_none : (ds : Option (List Data)) (o : Option (List InSlot)) → ListsBeside rows u ds o → Lists ds None → FindsItems rows o None
  items_none None None beside found = tt
  items_none None (Some qs) beside found = absurd beside
  items_none (Some ds) o beside found = absurd found

pub items_nothing : (rows : List Row) (o : Option (List InSlot)) → o ≡ None → FindsItems rows o None
items_nothing rows o e = subst (λ p. FindsItems rows p None) (sym e) tt

-- ---- entries

module _ (rows : List Row) (u : Slot) (rest : EntriesLeft) where
  module _ (k : Bor (List ℕ)) (p : Piece) (after : EntriesLeft) (step : (es : List (List ℕ × Data)) → AreLeft rest es → FirstStep es (Some (k, p, after))) where
    record FirstKeyed (qs : List (List ℕ × InSlot)) : Type 0 where
      part : List ℕ × InSlot
      later : List (List ℕ × InSlot)
      is : qs ≡ part ∷ later
      key : k.now ≡ part.0
      one : Data
      stands : StandsFor rows p one
      beside : IsBeside rows u part.1 one
      left : HasEntries rows u after later

    first_keyed : (qs : List (List ℕ × InSlot)) → HasEntries rows u rest qs → FirstKeyed qs
    first_keyed qs h = by qs h.entries h.left h.beside where
      by : (ps : List (List ℕ × InSlot)) (es : List (List ℕ × Data)) → AreLeft rest es → AreKeyed rows u ps es → FirstKeyed ps
      by ps [] has beside = absurd (step [] has)
      by [] (e ∷ es) has beside = absurd beside
      by (q ∷ ps) (e ∷ es) has beside =
          let x = step (e ∷ es) has in
          record { part = q; later = ps; is = refl; key = x.key ∙ sym beside.0; one = e.1; stands = x.stands rows; beside = beside.1; left = record { entries = es; left = x.left; beside = beside.2 } }

    pub keyed_first : (v : View) → table_of v ≡ rows → slot_of v ≡ u → body_of v ≡ B.Held p → (qs : List (List ℕ × InSlot)) → HasEntries rows u rest qs → EntryFirst rows u qs (Some (k, v, after))
    keyed_first v table slot body qs h =
        let x = first_keyed qs h in
        subst (λ ps. EntryFirst rows u ps (Some (k, v, after))) (sym x.is) (x.key, beside_view rows u x.part.1 x.one (B.Held p) v x.stands x.beside table slot body, x.left)

    pub keyed_front : SomeEntries rows u rest → BodyHasFront rows u (B.Held p)
    keyed_front h = let x = first_keyed h.of h.has in beside_front rows u x.part.1 x.one (B.Held p) x.stands x.beside

    pub keyed_behind : SomeEntries rows u rest → SomeEntries rows u after
    keyed_behind h = let x = first_keyed h.of h.has in record { of = x.later; has = x.left }

  pub no_keyed_first : ((es : List (List ℕ × Data)) → AreLeft rest es → FirstStep es None) → (qs : List (List ℕ × InSlot)) → HasEntries rows u rest qs → EntryFirst rows u qs None
  no_keyed_first step qs h = by qs h.entries h.left h.beside where
    by : (ps : List (List ℕ × InSlot)) (es : List (List ℕ × Data)) → AreLeft rest es → AreKeyed rows u ps es → EntryFirst rows u ps None
    by [] es has beside = tt
    by (q ∷ ps) [] has beside = absurd beside
    by (q ∷ ps) (e ∷ es) has beside = absurd (step (e ∷ es) has)

-- those of a map that was found
module _ (rows : List Row) (u : Slot) where
  record KeyedBegun (o : Option (List (List ℕ × InSlot))) (r : EntriesLeft) : Type 0 where
    parts : List (List ℕ × InSlot)
    is : o ≡ Some parts
    has : HasEntries rows u r parts

  keyed_begun : (es : Option (List (List ℕ × Data))) (o : Option (List (List ℕ × InSlot))) (r : EntriesLeft) → MapsBeside rows u es o → FindsLeft es (Some r) → KeyedBegun o r
  keyed_begun None o r beside found = absurd found
  keyed_begun (Some es) None r beside found = absurd beside
  keyed_begun (Some es) (Some qs) r beside found = record { parts = qs; is = refl; has = record { entries = es; left = found; beside = beside } }

  pub entries_some : (es : Option (List (List ℕ × Data))) (o : Option (List (List ℕ × InSlot))) (r : EntriesLeft) → MapsBeside rows u es o → FindsLeft es (Some r) → SomeEntries rows u r
  entries_some es o r beside found = let x = keyed_begun es o r beside found in record { of = x.parts; has = x.has }

  pub entries_found : (es : Option (List (List ℕ × Data))) (o : Option (List (List ℕ × InSlot))) (t : ViewEntries) → MapsBeside rows u es o → FindsLeft es (Some t.rest) → t.acc.now ≡ rows → t.slot ≡ u
      → FindsEntries rows o (Some t)
  entries_found es o t beside found table slot =
      let x = keyed_begun es o t.rest beside found in
      subst (λ p. FindsEntries rows p (Some t)) (sym x.is) (record { table = table; left = subst (λ (k : Slot). HasEntries rows k t.rest x.parts) (sym slot) x.has })

  pub entries_none : (es : Option (List (List ℕ × Data))) (o : Option (List (List ℕ × InSlot))) → MapsBeside rows u es o → FindsLeft es None → FindsEntries rows o None
  entries_none None None beside found = tt
  entries_none None (Some qs) beside found = absurd beside
  entries_none (Some es) o beside found = absurd found

  -- by the form of the map
  form_keyed : (form : MapForm) (es : List (List ℕ × Data)) (h : Holder) (r : EntriesLeft) → FormKeyed rows u form es h → FormLeft form es (Some r) → KeyedBegun (entries_in h) r
  form_keyed MF.Map es h r keyed found = keyed_begun (Some es) (entries_in h) r keyed.0 found
  form_keyed MF.ListPairs es h r keyed found = keyed_begun (Some es) (entries_in h) r keyed.0 found
  form_keyed (MF.StringPairs inner entry) es h r keyed found = keyed_begun (Some es) (entries_in h) r keyed.0 found
  form_keyed (MF.Hamt p) es h r keyed found = absurd cc

  pub form_some : (form : MapForm) (es : List (List ℕ × Data)) (h : Holder) (r : EntriesLeft) → FormKeyed rows u form es h → FormLeft form es (Some r) → SomeEntries rows u r
  form_some form es h r keyed found = let x = form_keyed form es h r keyed found in record { of = x.parts; has = x.has }

  pub form_found : (form : MapForm) (es : List (List ℕ × Data)) (h : Holder) (t : ViewEntries) → FormKeyed rows u form es h → FormLeft form es (Some t.rest) → t.acc.now ≡ rows → t.slot ≡ u
      → FindsEntries rows (entries_in h) (Some t)
  form_found form es h t keyed found table slot =
      let x = form_keyed form es h t.rest keyed found in
      subst (λ p. FindsEntries rows p (Some t)) (sym x.is) (record { table = table; left = subst (λ (k : Slot). HasEntries rows k t.rest x.parts) (sym slot) x.has })

  pub form_none : (form : MapForm) (es : List (List ℕ × Data)) (h : Holder) → FormKeyed rows u form es h → FormLeft form es None → FindsEntries rows (entries_in h) None
  form_none MF.Map es h keyed found = entries_none (Some es) (entries_in h) keyed.0 found
  form_none MF.ListPairs es h keyed found = entries_none (Some es) (entries_in h) keyed.0 found
  form_none (MF.StringPairs inner entry) es h keyed found = entries_none (Some es) (entries_in h) keyed.0 found
  form_none (MF.Hamt p) es h keyed found = subst (λ p. FindsEntries rows p None) (sym keyed.0) tt

pub entries_nothing : (rows : List Row) (o : Option (List (List ℕ × InSlot))) → o ≡ None → FindsEntries rows o None
entries_nothing rows o e = subst (λ p. FindsEntries rows p None) (sym e) tt

-- ---- one step of an iterator, under any schema that it has

items_turn : (rows : List Row) (s : ViewItems) (qs : List InSlot) → HasItemsLeft rows s qs → HasElements s.acc.now s.slot s.items qs
items_turn rows s qs h = subst (λ (rs : List Row). HasElements rs s.slot s.items qs) (sym h.table) h.left

pub items_step : (rows : List Row) (s : ViewItems) (v : View) (left : ItemsLeft) (t : ViewItems) → t.acc.now ≡ s.acc.now → t.slot ≡ s.slot → t.items ≡ left → (qs : List InSlot) → HasItemsLeft rows s qs
    → ((ps : List InSlot) → HasElements s.acc.now s.slot s.items ps → ItemFirst s.acc.now s.slot ps (Some (v, left))) → ItemsStep rows qs (Some v) t
items_step rows s v left t table slot items qs h step = by qs (step qs (items_turn rows s qs h)) where
  by : (ps : List InSlot) → ItemFirst s.acc.now s.slot ps (Some (v, left)) → ItemsStep rows ps (Some v) t
  by [] x = absurd x
  by (p ∷ ps) x = (
    subst (λ (rs : List Row). IsPartView rs p v) h.table x.0,
    record {
      table = table ∙ h.table;
      left = subst (λ (rs : List Row). HasElements rs t.slot t.items ps) h.table
          (subst (λ (k : Slot). HasElements s.acc.now k t.items ps) (sym slot) (subst (λ (i : ItemsLeft). HasElements s.acc.now s.slot i ps) (sym items) x.1));
    },
  )

pub items_stop : (rows : List Row) (s : ViewItems) (qs : List InSlot) → HasItemsLeft rows s qs → ((ps : List InSlot) → HasElements s.acc.now s.slot s.items ps → ItemFirst s.acc.now s.slot ps None) → ItemsStep rows qs None s
items_stop rows s qs h step = by qs h (step qs (items_turn rows s qs h)) where
  by : (ps : List InSlot) → HasItemsLeft rows s ps → ItemFirst s.acc.now s.slot ps None → ItemsStep rows ps None s
  by [] k x = k
  by (p ∷ ps) k x = absurd x

entries_turn : (rows : List Row) (s : ViewEntries) (qs : List (List ℕ × InSlot)) → HasEntriesLeft rows s qs → HasEntries s.acc.now s.slot s.rest qs
entries_turn rows s qs h = subst (λ (rs : List Row). HasEntries rs s.slot s.rest qs) (sym h.table) h.left

pub entries_step : (rows : List Row) (s : ViewEntries) (k : Bor (List ℕ)) (v : View) (left : EntriesLeft) (t : ViewEntries) → t.acc.now ≡ s.acc.now → t.slot ≡ s.slot → t.rest ≡ left → (qs : List (List ℕ × InSlot))
    → HasEntriesLeft rows s qs → ((ps : List (List ℕ × InSlot)) → HasEntries s.acc.now s.slot s.rest ps → EntryFirst s.acc.now s.slot ps (Some (k, v, left))) → EntriesStep rows qs (Some (k, v)) t
entries_step rows s k v left t table slot rest qs h step = by qs (step qs (entries_turn rows s qs h)) where
  by : (ps : List (List ℕ × InSlot)) → EntryFirst s.acc.now s.slot ps (Some (k, v, left)) → EntriesStep rows ps (Some (k, v)) t
  by [] x = absurd x
  by (p ∷ ps) x = (
    x.0,
    subst (λ (rs : List Row). IsPartView rs p.1 v) h.table x.1,
    record {
      table = table ∙ h.table;
      left = subst (λ (rs : List Row). HasEntries rs t.slot t.rest ps) h.table
          (subst (λ (u : Slot). HasEntries s.acc.now u t.rest ps) (sym slot) (subst (λ (r : EntriesLeft). HasEntries s.acc.now s.slot r ps) (sym rest) x.2));
    },
  )

pub entries_stop : (rows : List Row) (s : ViewEntries) (qs : List (List ℕ × InSlot)) → HasEntriesLeft rows s qs → ((ps : List (List ℕ × InSlot)) → HasEntries s.acc.now s.slot s.rest ps → EntryFirst s.acc.now s.slot ps None)
    → EntriesStep rows qs None s
entries_stop rows s qs h step = by qs h (step qs (entries_turn rows s qs h)) where
  by : (ps : List (List ℕ × InSlot)) → HasEntriesLeft rows s ps → EntryFirst s.acc.now s.slot ps None → EntriesStep rows ps None s
  by [] k x = k
  by (p ∷ ps) k x = absurd x
