-- One level outward.
use Rattle.std.proofs.Common.{◌≡◌, ℕ, ◌-◌, Bool, true, List, [], Some, inl, refl, sym, ap, ◌∙◌, subst, arith, ◌≤◌}
use Rattle.std.specs.Prelude.{Result, Err, is_some, ◌||◌}
use Rattle.std.proofs.Math.Logic.{∥∥₁_elim, ∥∥₁_map}
use Rattle.std.proofs.Props.{props}
use Rattle.ild_cbor.specs.Block.{IsBlockOf}
use Rattle.ild_cbor.specs.Nodes.{IsRoot, HasData}
use Rattle.ild_cbor.specs.declared.node.Node.{Node}
use Rattle.ild_path_edit.proofs.Making.{item_stands}
use Rattle.ild_data.specs.Data.{Data, depth}
use Rattle.ild_data.specs.Spell.{spell}
use Rattle.ild_data.specs.Key.{value_at}
use Rattle.ild_data.specs.Tree.{IsTree}
use Rattle.ild_edges.specs.Store.{Moment}
use Rattle.ild_edges.proofs.Later.{Later-refl}
use Rattle.ild_bulk.proofs.Puts.{told-same}
use Rattle.ild_schema.specs.Clear.{IsSafe}
use Rattle.ild_schema.specs.declared.number.Slot.{Slot}
use Rattle.ild_schema.specs.declared.row.Row.{Row}
use Rattle.ild_schema.specs.Value.{Value, Pairs, pairs_list}
use Rattle.ild_node_slots.specs.declared.fault.HamtFault.{HamtFault}
use Rattle.ild_node_slots.specs.declared.fault.HamtFault.TheVariants as F
use Rattle.ild_typed.specs.Fits.{Fits, Front}
use Rattle.ild_typed.specs.Hamt.{whole}
use Rattle.ild_typed.specs.Represented.{represented}
use Rattle.ild_typed.specs.Schema.{IsSchema}
use Rattle.ild_typed.proofs.TreeValues.{whole_tree}
use Rattle.ild_path_edits.specs.Table.{key_fits}
use Rattle.ild_view.specs.Safe.{is_safe}
use Rattle.ild_view.specs.View.{IsView, slot_of, table_of}
use Rattle.ild_view.specs.Whole.{IsWholeView}
use Rattle.ild_view.specs.declared.view.View.{View}
use Rattle.ild_view.proofs.Opening.{safe_is}
use Rattle.ild_path_nodes.specs.NodeLaws.{IsHamt}
use Rattle.ild_typed_fronts.specs.Front.{front}
use Rattle.ild_typed_fronts.proofs.Representing.{fronts_are_fronts}
use Rattle.ild_path_entered.specs.EnteredLaws.{fits_key}
use Rattle.ild_path_entered.proofs.Editing.{hamt_seen}
use Rattle.ild_path_reroot.specs.Reroots.{AddsNodes}
use Rattle.ild_hamt.specs.declared.trail.Trail.{Trail}
use Rattle.ild_node.specs.Rows.{NestsIn}
use Rattle.ild_path_entry.specs.Entry.{IsEntry, data_in, room_in, slot_in, table_in}
use Rattle.ild_path_entry.specs.declared.entry.Entry.{Entry}
use Rattle.ild_path_hop.specs.Levels.{IsLevel, IsRootView, IsSetThere, LeadsToHamt, SetsEntry, with_set}
pub use Rattle.ild_path_hop.proofs.Leveling.{slot_of_path}
pub use Rattle.ild_path_hops.proofs.Linking.{last_is}
use Rattle.ild_path_hops.specs.Links.{IsRootAt, RootBehind}
use Rattle.ild_path_hops.specs.declared.hop.Hop.{Hop}
use Rattle.ild_path_outward.specs.inside.Steps.{IsStep, SetsIn, SetsStep}

-- a key that is there may stay
pub key_stays : (rows : List Row) (is_key : ℕ → List ℕ → Bool) (slot elem : Slot) (ps : Pairs) (is : IsHamt rows slot elem) (k : List ℕ) (w : Value) → value_at k (pairs_list ps) ≡ Some w → fits_key is_key rows slot ps k ≡ true
key_stays rows is_key slot elem ps is k w e =
    ap (λ h. key_fits is_key h k) (hamt_seen rows slot elem ps is) ∙ ap (λ o. is_some o || is_key is.0.0 k) e

module _ (h : List ℕ → List ℕ) (is_key : ℕ → List ℕ → Bool) (rows : List Row) (s : Slot) (was : List (List ℕ)) (path : List (List ℕ)) (k : List ℕ) (trail : Trail) (x : IsStep h is_key rows s was path k trail) where
  abbrev pub Changed : Value
  Changed = with_set rows s x.v path x.ps k x.w

  -- nothing was done
  pub step_none : (m : Moment) → SetsStep h is_key rows s was path k trail x m (Err F.Memory) m
  step_none m = record {
    hamt = x.u;
    part = record { path = []; part = (s, Changed); at = refl; tree = x.tree };
    answer = tt;
    later = Later-refl m;
    adds = told-same m.blocks m.blocks (AddsNodes h rows s Changed) refl (λ a. record { came = λ id b e. inl e });
    puts = omega arith;
    given = tt;
  }

  pub tree_d : IsTree x.d
  tree_d = (whole_tree h rows x.schema.table.texts.spelled x.around x.elem x.w x.d x.comes.fits x.comes.tree).tree

  -- the item of the new block, and of the entry that is made of it
  pub item_is : (new : List ℕ) (item : Node) (e : Data) → new ≡ spell x.d → IsBlockOf new e → IsRoot item new e → HasData item x.d
  item_is new item e spelled block root = item_stands new item e x.d block root spelled tree_d

-- the level, and what is set in it
module _ (h : List ℕ → List ℕ) (is_key : ℕ → List ℕ → Bool) (was : List (List ℕ)) (path : List (List ℕ)) (k : List ℕ) (trail : Trail) (view : View) (x : IsStep h is_key (table_of view) (slot_of view) was path k trail)
    (root : IsRootView view (front h (table_of view) (slot_of view) x.v) x.t) where
  pub step_level : IsLevel h is_key was x.room x.v x.t view
  step_level = record { schema = x.schema; keys = x.keys; held = x.held; root = root }

  abbrev pub step_set : IsSetThere h is_key was x.room x.v view path x.slot x.elem x.ps x.es k x.w x.d x.u trail
  step_set = record {
    entered = x.entered;
    root = x.root;
    data_is = x.data_is;
    trie = x.trie;
    trail = x.found;
    utf8 = x.utf8;
    key = x.key;
    less = x.around;
    new = x.comes;
    fits = x.fits;
    tree = x.tree;
  }

-- as the setting of an entry says it
pub sets_in : (h : List ℕ → List ℕ) (view : View) (path : List (List ℕ)) (trail : Trail) (item : Node) (m n : Moment) (r : Result (List ℕ) HamtFault)
    → ((is_key : ℕ → List ℕ → Bool) (was : List (List ℕ)) (room : ℕ) (v w : Value) (t d u : Data) (slot elem : Slot) (ps : Pairs) (es : List (List ℕ × Data)) (k : List ℕ) → m.blocks ≡ Some was → IsLevel h is_key was room v t view
    → (set : IsSetThere h is_key was room v view path slot elem ps es k w d u trail) → HasData item d → SetsEntry h set.entered.hamt.3 room v path ps es k w d u view m r n)
    → SetsIn h (table_of view) (slot_of view) view path trail (λ d. HasData item d) m r n
sets_in h view path trail item m n r sets = λ is_key was k told x root stands.
    sets is_key was x.room x.v x.w x.t x.d x.u x.slot x.elem x.ps x.es k told (step_level h is_key was path k trail view x root) (step_set h is_key was path k trail view x root) stands

-- ---- the view of an entry

pub entry_view : (h : List ℕ → List ℕ) (rows : List Row) (s : Slot) (room : ℕ) (v : Value) (t : Data) (e : Entry) (view : View) → IsSchema rows → Fits rows room s v → represented (whole h) rows s v ≡ Some t
    → IsEntry rows s room t e → table_of view ≡ table_in e → slot_of view ≡ slot_in e → is_safe (table_of view) (slot_of view) ≡ true → IsWholeView view (data_in e) → IsRootView view (front h rows s v) t
entry_view h rows s room v t e view schema fits tree is table slot safe whole =
    let same_rows : table_of view ≡ rows = table ∙ is.table in
    let same_slot : slot_of view ≡ s = slot ∙ is.slot in
    let safe_s : IsSafe rows s = safe_is rows s (subst (λ r. is_safe r s ≡ true) same_rows (subst (λ r. is_safe (table_of view) r ≡ true) same_slot safe)) in
    let front_is : Front rows room s (front h rows s v) t = fronts_are_fronts h rows schema room s v t safe_s fits tree in
    let w : IsWholeView view t = subst (IsWholeView view) is.tree whole in
    record {
      node = w.node;
      piece = w.piece;
      block = w.block;
      spelled = w.spelled;
      root = w.root;
      room = room;
      front = subst (λ r. Front r room (slot_of view) (front h rows s v) t) (sym same_rows) (subst (λ r. Front rows room r (front h rows s v) t) (sym same_slot) front_is);
    }

pub sets_at : (h : List ℕ → List ℕ) (rows : List Row) (s : Slot) (view : View) (path : List (List ℕ)) (trail : Trail) (gives : Data → Type 0) (m n : Moment) (r : Result (List ℕ) HamtFault) → table_of view ≡ rows → slot_of view ≡ s
    → SetsIn h (table_of view) (slot_of view) view path trail gives m r n → SetsIn h rows s view path trail gives m r n
sets_at h rows s view path trail gives m n r table slot is = subst (λ y. SetsIn h y s view path trail gives m r n) table (subst (λ y. SetsIn h (table_of view) y view path trail gives m r n) slot is)

-- ---- where a path leads

led_view : (v : View) (path : List (List ℕ)) (f : Value) → IsView v f → IsRootAt (table_of v) (slot_of v, f) path → LeadsToHamt v path
led_view v path f is x = record { front = f; is = is; slot = x.slot; tree = x.tree; leads = x.leads }

pub leads_root : (root : View) (hops : List Hop) (path : List (List ℕ)) → hops ≡ [] → RootBehind root hops path → ∥ LeadsToHamt root path ∥₁
leads_root root hops path none x =
    ∥∥₁_map root.stands (λ s.
    let is : IsView root s.value = record { room = s.room; tree = s.tree; stands = s.stands; front = s.front } in
    led_view root path s.value is (x.top none s.value is))

-- in the view of an entry
pub leads_entry : (e : Entry) (path : List (List ℕ)) (view : View) → table_of view ≡ table_in e → slot_of view ≡ slot_in e
    → ((f : Value) (room : ℕ) → Front (table_in e) room (slot_in e) f (data_in e) → IsView view f)
    → ((f : Value) (room : ℕ) → Front (table_in e) room (slot_in e) f (data_in e) → IsRootAt (table_in e) (slot_in e, f) path) → ∥ LeadsToHamt view path ∥₁
leads_entry e path view table slot stands x =
    ∥∥₁_map e.stands (λ s.
    led_view view path s.value (stands s.value e.room s.front)
    (subst (λ y. IsRootAt (table_of view) (y, s.value) path) (sym slot) (subst (λ y. IsRootAt y (slot_in e, s.value) path) (sym table) (x s.value e.room s.front))))

-- a value in the room of another
pub entry_nests : (old new : Entry) (item node : Node) (n : ℕ) → room_in old ≤ n → ((t : Data) → HasData item t → IsEntry (table_in old) (slot_in old) (room_in old) t new) → ((t : Data) → HasData node t → depth t ≤ room_in new) → NestsIn n node
entry_nests old new item node n low is nests = λ t stands.
    let same : room_in new ≡ room_in old = ∥∥₁_elim item.stands (hlevel props) (λ s. (is s.of s.spells).room_is) in
    let own = nests t stands in
    omega (arith, low, same, own)
