-- Where the segments before a path's stop lead, of each front.
use Rattle.std.proofs.Common.{◌≡◌, ℕ, ◌-◌, List, [], ◌∷◌, ◌++◌, length, take, Option, Some, None, refl, sym, ap, ◌∙◌, subst}
use Rattle.std.specs.Borrow.{Bor}
use Rattle.std.specs.List.{slice_get}
use Rattle.std.specs.Option.{option_map_or}
use Rattle.std.specs.Prelude.{Result, Ok, Err}
use Rattle.std.proofs.Math.Logic.{∥∥₁_map}
use Rattle.std.proofs.lemmas.Option.{none-some}
use Rattle.ild_data.specs.Data.{Data}
use Rattle.ild_node_slots.specs.declared.fault.HamtFault.{HamtFault}
use Rattle.ild_path_edits.specs.Along.{room_below}
use Rattle.ild_path_edits.specs.Stop.{Stop, stopped}
use Rattle.ild_path_entry.specs.Entry.{data_in, slot_in, table_in}
use Rattle.ild_path_hops.proofs.Linking.{on_last, on_top}
use Rattle.ild_path_hops.specs.Hops.{front_of}
use Rattle.ild_path_hops.specs.Links.{IsPartAt, IsRootAt}
use Rattle.ild_path_hops.specs.declared.hop.Hop.{Hop}
use Rattle.ild_path_inward.proofs.Going.{take_front}
use Rattle.ild_path_inward.specs.Halts.{HaltsAt, room_stopped}
use Rattle.ild_path_inward.specs.Levels.{FrontIs, KeyIs, LevelBehind, LevelLeads}
use Rattle.ild_path_inward.specs.declared.halt.Halt.{Halt}
use Rattle.ild_path_inward.specs.declared.level.Level.{Level}
use Rattle.ild_path_inward.specs.declared.level.Level.TheVariants as L
use Rattle.ild_path_room.specs.ValueSlot.{value_in}
use Rattle.ild_schema.specs.Slots.{form_of}
use Rattle.ild_schema.specs.Value as V
use Rattle.ild_schema.specs.Value.{Value, hamt}
use Rattle.ild_schema.specs.declared.number.Slot.{Slot}
use Rattle.ild_schema.specs.declared.row.Row.{Row}
use Rattle.ild_typed.proofs.FormOf.{hamt_form}
use Rattle.ild_typed.proofs.OneLayer.{in_layer}
use Rattle.ild_typed.specs.At.{InSlot, seen}
use Rattle.ild_typed.specs.Fits.{Fits, Front}
use Rattle.ild_typed.specs.Layer as Y
use Rattle.ild_typed.specs.OfType.{OfType}
use Rattle.ild_typed.specs.Segment.{part}
use Rattle.ild_view.specs.Roots.{root_in}
use Rattle.ild_view.specs.View.{IsView, slot_of, table_of}
use Rattle.ild_view.specs.declared.view.View.{View}

-- ---- the segments before the stop

record Led (rows : List Row) (p : InSlot) (path : List (List ℕ)) : Type 0 where
  before : List (List ℕ)
  split : path ≡ before ++ (stopped rows p path).left
  leads : stopped rows p before ≡ record { part = (stopped rows p path).part; left = [] }

led_by : (rows : List Row) (p : InSlot) (s : List ℕ) (ss : List (List ℕ)) → ((q : InSlot) → Led rows q ss) → (o : Option InSlot) → part (seen rows p) s ≡ o → Led rows p (s ∷ ss)
led_by rows p s ss rest None e =
    let stop : stopped rows p (s ∷ ss) ≡ record { part = p; left = s ∷ ss } = ap (λ o. option_map_or (λ q. stopped rows q ss) o (record { part = p; left = s ∷ ss })) e in
    record {
      before = [];
      split = sym (ap (λ (z : Stop). z.left) stop);
      leads = ap (λ (q : InSlot). record { part = q; left = [] }) (sym (ap (λ (z : Stop). z.part) stop));
    }
led_by rows p s ss rest (Some q) e =
    let x = rest q in
    let stop : stopped rows p (s ∷ ss) ≡ stopped rows q ss = ap (λ o. option_map_or (λ r. stopped rows r ss) o (record { part = p; left = s ∷ ss })) e in
    record {
      before = s ∷ x.before;
      split = ap (λ xs. s ∷ xs) x.split ∙ ap (λ (z : Stop). s ∷ (x.before ++ z.left)) (sym stop);
      leads = ap (λ o. option_map_or (λ r. stopped rows r x.before) o (record { part = p; left = s ∷ x.before })) e ∙ x.leads
          ∙ ap (λ (q : InSlot). record { part = q; left = [] }) (sym (ap (λ (z : Stop). z.part) stop));
    }

led : (rows : List Row) (path : List (List ℕ)) (p : InSlot) → Led rows p path
led rows [] p = record { before = []; split = refl; leads = refl }
led rows (s ∷ ss) p = led_by rows p s ss (λ q. led rows ss q) (part (seen rows p) s) refl

-- the room is left that the whole path leaves
led_room : (rows : List Row) (path : List (List ℕ)) (p : InSlot) (room : ℕ) → room_stopped rows room p (led rows path p).before ≡ room_stopped rows room p path
unfolding led led_by
led_room rows [] p room = refl
led_room rows (s ∷ ss) p room = by (part (seen rows p) s) refl (λ q. led_room rows ss q (room_below rows room p s)) where
  by : (o : Option InSlot) (e : part (seen rows p) s ≡ o) → ((q : InSlot) → room_stopped rows (room_below rows room p s) q (led rows ss q).before ≡ room_stopped rows (room_below rows room p s) q ss)
      → room_stopped rows room p (led_by rows p s ss (λ q. led rows ss q) o e).before ≡ option_map_or (λ q. room_stopped rows (room_below rows room p s) q ss) (part (seen rows p) s) room
  by None e rest = sym (ap (λ o. option_map_or (λ q. room_stopped rows (room_below rows room p s) q ss) o room) e)
  by (Some q) e rest =
      ap (λ o. option_map_or (λ r. room_stopped rows (room_below rows room p s) r (led rows ss q).before) o room) e
      ∙ rest q ∙ sym (ap (λ o. option_map_or (λ r. room_stopped rows (room_below rows room p s) r ss) o room) e)

-- ---- roots

pub root_of_key : (v : Value) (left : List (List ℕ)) (r : Bor (List ℕ) × Bor (List (List ℕ))) → KeyIs (root_in v) left (Some r) → (t : Data) × (v ≡ hamt t)
root_of_key (V.hamt d) left r is = (d, refl)
root_of_key V.null left r is = absurd is
root_of_key (V.boolean b) left r is = absurd is
root_of_key (V.integer n) left r is = absurd is
root_of_key (V.text s) left r is = absurd is
root_of_key (V.bytes s) left r is = absurd is
root_of_key (V.link s) left r is = absurd is
root_of_key (V.list vs) left r is = absurd is
root_of_key (V.map ps) left r is = absurd is
root_of_key (V.struct os) left r is = absurd is
root_of_key (V.union n v) left r is = absurd is
root_of_key (V.enum n) left r is = absurd is
root_of_key V.unit left r is = absurd is
root_of_key (V.any d) left r is = absurd is

-- a view at which a key is left is one of a HAMT
pub keyed_hamt : (v : View) (left : List (List ℕ)) (r : Bor (List ℕ) × Bor (List (List ℕ))) → ((f : Value) → IsView v f → KeyIs (root_in f) left (Some r)) → ∥ ((t : Data) × IsView v (hamt t)) ∥₁
keyed_hamt v left r all =
    ∥∥₁_map v.stands (λ s.
    let is : IsView v s.value = record { room = s.room; tree = s.tree; stands = s.stands; front = s.front } in
    let x = root_of_key s.value left r (all s.value is) in (x.0, subst (IsView v) x.1 is))

-- whose type says what its values are
pub hamt_valued : (rows : List Row) (v : View) → table_of v ≡ rows → (t : Data) → IsView v (hamt t) → value_in (form_of rows (slot_of v)) ≡ None → ⊥
hamt_valued rows v table t is none =
    let fits : Fits rows is.room (slot_of v) (hamt t) = subst (λ (r : List Row). Fits r is.room (slot_of v) (hamt t)) table is.front.fits in
    let x = in_layer rows (slot_of v) (hamt t) (Y.hamt t) refl (is.room, fits) in
    let y = hamt_form rows (OfType rows) x.ty t x.holds in
    none-some y.2 (sym none ∙ ap value_in x.form ∙ ap (λ d. value_in (Some d)) y.5)

-- ---- of a block

module _ (rows : List Row) (room : ℕ) (p : InSlot) (path : List (List ℕ)) (halt : Halt) (halts : HaltsAt rows room p path halt) (front : List (List ℕ)) (n : ℕ) (is : front ≡ take n path) (many : n ≡ length path - length halt.left.now) where
  abbrev Stops : Stop
  Stops = stopped rows p path

  leads : stopped rows p front ≡ record { part = Stops.part; left = [] }
  leads =
      let x = led rows path p in
      ap (stopped rows p)
      (is ∙ ap (take n) x.split
      ∙ take_front x.before Stops.left n (many ∙ (λ i. length (x.split i) - length (halts.left i))))
      ∙ x.leads

  pub rooms_led : room_stopped rows room p front ≡ halt.room
  rooms_led =
      let x = led rows path p in
      ap (room_stopped rows room p)
      (is ∙ ap (take n) x.split
      ∙ take_front x.before Stops.left n (many ∙ (λ i. length (x.split i) - length (halts.left i))))
      ∙ led_room rows path p room ∙ sym halts.room_is

  pub part_led : IsPartAt rows p front
  part_led = record { part = Stops.part; leads = leads }

  pub root_led : (r : Bor (List ℕ) × Bor (List (List ℕ))) → ((f : Value) → IsView halt.view f → KeyIs (root_in f) halt.left.now (Some r)) → IsRootAt rows p front
  root_led r all =
      let x = root_of_key Stops.part.1 halt.left.now r (all Stops.part.1 halts.view.view) in
      record { slot = Stops.part.0; tree = x.0; leads = leads ∙ ap (λ (v : Value). record { part = (Stops.part.0, v); left = [] }) x.1 }

-- of an answer with this front
pub level_leads : (rows : List Row) (p : InSlot) (front : List (List ℕ)) → IsRootAt rows p front → (r : Result Level HamtFault) → FrontIs front r → LevelLeads rows p r
level_leads rows p front root (Ok (L.Stops s)) is = record { part = (root.slot, hamt root.tree); leads = ap (stopped rows p) is ∙ root.leads }
level_leads rows p front root (Ok (L.Passes hop behind room)) is = record { slot = root.slot; tree = root.tree; leads = ap (stopped rows p) is ∙ root.leads }
level_leads rows p front root (Err e) is = tt

-- ---- behind hops

module _ (root : View) (hops : List Hop) where
  pub behind_last : (hop : Hop) → Some hop ≡ slice_get hops (length hops - 1) → (r : Result Level HamtFault)
      → ((f : Value) (room : ℕ) → Front (table_in hop.entry) room (slot_in hop.entry) f (data_in hop.entry) → LevelLeads (table_in hop.entry) (slot_in hop.entry, f) r) → LevelBehind root hops r
  behind_last hop last (Ok (L.Stops s)) all = on_last (λ rows p. IsPartAt rows p s.front) root hops hop last all
  behind_last hop last (Ok (L.Passes next behind room)) all = on_last (λ rows p. IsRootAt rows p (front_of next)) root hops hop last all
  behind_last hop last (Err e) all = tt

  pub behind_top : None ≡ slice_get hops (length hops - 1) → (r : Result Level HamtFault) → ((f : Value) → IsView root f → LevelLeads (table_of root) (slot_of root, f) r) → LevelBehind root hops r
  behind_top none (Ok (L.Stops s)) all = on_top (λ rows p. IsPartAt rows p s.front) root hops none all
  behind_top none (Ok (L.Passes next behind room)) all = on_top (λ rows p. IsRootAt rows p (front_of next)) root hops none all
  behind_top none (Err e) all = tt

-- what the view of an entry says, in the entry's terms
pub entry_leads : (rows now : List Row) (s t : Slot) (f : Value) (r : Result Level HamtFault) → rows ≡ now → s ≡ t → LevelLeads rows (s, f) r → LevelLeads now (t, f) r
entry_leads rows now s t f r table slot x = subst (λ (y : Slot). LevelLeads now (y, f) r) slot (subst (λ (y : List Row). LevelLeads y (s, f) r) table x)
