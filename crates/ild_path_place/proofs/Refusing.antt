-- A block that is refused on the way to a place is broken in the data from which the way begins.
use Rattle.std.proofs.Common.{◌≡◌, inl, inr, ℕ, zero, suc, ◌+◌, ◌-◌, List, Option, Some, Result, Ok, Err, refl, sym, ap, ◌∙◌, subst, arith}
use Rattle.std.proofs.Math.Logic.{∥∥₁_elim}
use Rattle.std.proofs.Props.{props}
use Rattle.std.proofs.lemmas.Option.{same_Some}
use Rattle.ild_bulk_walker.specs.Standing.{IsWrongOnTree}
use Rattle.ild_cbor.specs.Block.{IsBlockOf}
use Rattle.ild_cbor.specs.declared.why.BlockWhy.{BlockWhy}
use Rattle.ild_data.specs.Data.{Data}
use Rattle.ild_data.specs.Spell.{id_of}
use Rattle.ild_data.specs.declared.hamt_shape.HamtShape.{HamtShape}
use Rattle.ild_edges.specs.Store.{Moment}
use Rattle.ild_node_slots.specs.declared.fault.HamtFault.{HamtFault}
use Rattle.ild_node_slots.specs.declared.fault.HamtFault.TheVariants as H
use Rattle.ild_node_slots.specs.declared.view.NodeView.{NodeView}
use Rattle.ild_open_parts.proofs.Breaking.{broken_earlier}
use Rattle.ild_open_parts.specs.Broken.{HasBrokenBlock}
use Rattle.ild_open_parts.specs.Reads.{OnlyReads}
use Rattle.ild_open_parts.specs.Sites.{IsSite, Site}
use Rattle.ild_path_edits.specs.Stop.{stopped}
use Rattle.ild_path_enter.specs.Enters.{MeetsSite}
use Rattle.ild_path_found.specs.Laws.{PartsStandInData}
use Rattle.ild_path_found.specs.Sites.{IsRefusedAt, IsSiteOf, RefusesBroken as RefusesHamts, block_in}
use Rattle.ild_path_inward.proofs.Sited.{Reached, reached_site}
use Rattle.ild_path_inward.specs.Halts.{HaltsAt, room_stopped}
use Rattle.ild_path_inward.specs.Refuses.{GoesDeeper, block_behind}
use Rattle.ild_path_inward.specs.declared.halt.Halt.{Halt}
use Rattle.ild_path_inward.specs.declared.inward.Inward.{Inward}
use Rattle.ild_path_place.specs.inside.Endings.{EndsIn, fault_at}
use Rattle.ild_path_place.specs.Faults.{hamt_fault}
use Rattle.ild_path_place.specs.Places.{LocatesWhole}
use Rattle.ild_path_place.specs.Refuses.{IsHolderSite, RefusesAt, RefusesBroken}
use Rattle.ild_path_place.specs.declared.ending.Found.{Found}
use Rattle.ild_path_place.specs.declared.fault.PathFault.{PathFault}
use Rattle.ild_path_place.specs.declared.fault.PathFault.TheVariants as F
use Rattle.ild_path_place.specs.declared.place.Place.{Place}
use Rattle.ild_path_rules.specs.declared.delete.Refusal.{Refusal}
use Rattle.ild_path_rules.specs.declared.delete.Refusal.TheVariants as R
use Rattle.ild_path_place.specs.declared.verb.Verb.{Verb}
use Rattle.ild_path_place.specs.declared.verb.Verb.TheVariants as Y
use Rattle.ild_path_room.specs.ValueSlot.{IsValueSlot, value_in}
use Rattle.ild_schema.specs.Slots.{form_of}
use Rattle.ild_schema.specs.Value as V
use Rattle.ild_schema.specs.Value.{Value, hamt}
use Rattle.ild_schema.specs.declared.number.Slot.{Slot}
use Rattle.ild_schema.specs.declared.row.Row.{Row}
use Rattle.ild_typed.specs.At.{InSlot}
use Rattle.ild_typed.specs.Fits.{Front}
use Rattle.ild_typed.specs.Schema.{IsSchema}
use Rattle.ild_view.specs.Roots.{RootIs, root_in}
use Rattle.ild_view.specs.View.{IsView, piece_of, slot_of, table_of}
use Rattle.ild_view.specs.Whole.{IsWholeView}
use Rattle.ild_view.specs.declared.view.View.{View}

-- ---- at a key

pub site_at : (rows : List Row) (room : ℕ) (holder : View) (block : List ℕ) (z : Site) (x : IsHolderSite rows room holder block z) → table_of holder ≡ rows → (slot : Slot) (less : ℕ) → IsValueSlot rows (form_of rows (slot_of holder)) (Some slot)
    → less ≡ room - 5 → IsSiteOf rows slot less holder block z
site_at rows room holder block z x table slot less values below =
    let left = x.site.left in
    let same : room ≡ less + 5 = omega (arith, left, below) in
    record {
      table = table;
      tree = x.tree;
      stands = x.view;
      site = subst (λ n. IsSite rows n (slot_of holder) x.tree z) same x.site;
      value_is = same_Some z.value slot (sym (ap value_in x.site.form) ∙ values.3);
      block_is = x.at;
    }

pub refuses_at : (A : Type 0) (h : List ℕ → List ℕ) (rows : List Row) (block k : List ℕ) (z : Site) (m n : Moment) (e : HamtFault) → MeetsSite h rows block k z m (Err e) n → RefusesAt {A = A} h rows z m (Err (hamt_fault e)) n
refuses_at A h rows block k z m n (H.Block id why) x = x
refuses_at A h rows block k z m n H.Store x = tt
refuses_at A h rows block k z m n H.Memory x = tt
refuses_at A h rows block k z m n H.Exhausted x = tt
refuses_at A h rows block k z m n H.NoKey x = tt
refuses_at A h rows block k z m n H.Size x = tt
refuses_at A h rows block k z m n (H.Clash id kept new) x = tt

pub refused_at : (A : Type 0) (h : List ℕ → List ℕ) (rows : List Row) (z : Site) (m n : Moment) (k : ℕ) (r : Refusal) → RefusesAt {A = A} h rows z m (Err (fault_at k r)) n
refused_at A h rows z m n k R.Path = tt
refused_at A h rows z m n k R.Mismatch = tt

-- a view that has a root is one of a HAMT
pub root_there : (v : View) (o : Option HamtShape) (r : NodeView) (f : Value) → RootIs o (root_in f) (Some r) → (tree : Data) × (f ≡ hamt tree)
root_there v o r (V.hamt d) is = (d, refl)
root_there v o r V.null is = absurd is
root_there v o r (V.boolean b) is = absurd is
root_there v o r (V.integer n) is = absurd is
root_there v o r (V.text s) is = absurd is
root_there v o r (V.bytes s) is = absurd is
root_there v o r (V.link s) is = absurd is
root_there v o r (V.list vs) is = absurd is
root_there v o r (V.map ps) is = absurd is
root_there v o r (V.struct os) is = absurd is
root_there v o r (V.union n w) is = absurd is
root_there v o r (V.enum n) is = absurd is
root_there v o r V.unit is = absurd is
root_there v o r (V.any d) is = absurd is

-- ---- in a block

module _ (law : PartsStandInData) (h : List ℕ → List ℕ) (rows : List Row) (schema : IsSchema rows) (block : List ℕ) (less room other : ℕ) (s : Slot) (f : Value) (t : Data) (front : Front rows less s f t)
    (path : List (List ℕ)) (own : room ≡ room_stopped rows less (s, f) path) (halt : Halt) (halts : HaltsAt rows other (s, f) path halt) (there : (g : Value) → IsView halt.view g → (tree : Data) × (g ≡ hamt tree)) where
  abbrev Part : InSlot
  Part = (stopped rows (s, f) path).part

  pub own_root : (tree : Data) × (Part.1 ≡ hamt tree)
  own_root = there Part.1 halts.view.view

  pub reached : Reached rows less s t (room_stopped rows less (s, f) path) Part.0 own_root.0 (id_of block)
  reached = reached_site law rows schema own_root.0 (id_of block) path less (s, f) t front own_root.1

  pub holder_site : IsHolderSite rows room halt.view block reached.site
  holder_site = record {
    tree = own_root.0;
    view = subst (IsView halt.view) own_root.1 halts.view.view;
    site = subst (λ n. IsSite rows n (slot_of halt.view) own_root.0 reached.site) (sym own) (subst (λ (u : Slot). IsSite rows (room_stopped rows less (s, f) path) u own_root.0 reached.site) (sym halts.view.slot) reached.is);
    at = reached.here;
  }

  module _ (A : Type 0) (m n : Moment) where
    broken : (id : List ℕ) (why : BlockWhy) → IsRefusedAt h rows m.blocks m.lacks n.lacks reached.site id why → HasBrokenBlock h rows m.blocks m.lacks n.lacks (id_of block) less s t id why
    broken id why (inl w) = record {
      deep = suc zero;
      wrong = record { steps = reached.steps; site = reached.site; has = reached.has; here = reached.here; wrong = inl (subst (λ at. IsWrongOnTree h reached.site.shape m.blocks reached.site.slots at m.lacks n.lacks id why) reached.here w) };
    }
    broken id why (inr w) = record { deep = suc zero; wrong = record { steps = reached.steps; site = reached.site; has = reached.has; here = reached.here; wrong = inr (inl w) } }

    pub breaks : (r : Result A PathFault) → RefusesAt h rows reached.site m r n → RefusesBroken h rows (id_of block) less s t m r n
    breaks (Ok x) w = tt
    breaks (Err (F.Block id why)) w = broken id.0 why w
    breaks (Err F.Store) w = tt
    breaks (Err F.Memory) w = tt
    breaks (Err F.Mismatch) w = tt
    breaks (Err (F.Path k)) w = tt

-- in other terms
pub breaks_in : (A : Type 0) (h : List ℕ → List ℕ) (rows now : List Row) (a at : List ℕ) (room : ℕ) (s u : Slot) (t : Data) (m n : Moment) (r : Result A PathFault) → rows ≡ now → a ≡ at → s ≡ u → RefusesBroken h rows a room s t m r n
    → RefusesBroken h now at room u t m r n
breaks_in A h rows now a at room s u t m n r table same slot x =
    subst (λ (y : Slot). RefusesBroken h now at room y t m r n) slot (subst (λ y. RefusesBroken h now y room s t m r n) same (subst (λ (y : List Row). RefusesBroken h y a room s t m r n) table x))

-- a holder of another kind asks nothing of the store
pub none_breaks : (v : View) (front : List (List ℕ)) (x : List ℕ) (k : ℕ) (verb : Verb) (h : List ℕ → List ℕ) (rows : List Row) (at : List ℕ) (room : ℕ) (s : Slot) (t : Data) (m n : Moment) (r : Result Found PathFault)
    → ((f : Value) → IsView v f → EndsIn (table_of v) (slot_of v, f) front x k verb r) → RefusesBroken h rows at room s t m r n
none_breaks v front x k verb h rows at room s t m n (Ok a) all = tt
none_breaks v front x k verb h rows at room s t m n (Err (F.Block id why)) all =
    absurd (∥∥₁_elim v.stands (hlevel props) (λ y. absurd (all y.value (record { room = y.room; tree = y.tree; stands = y.stands; front = y.front }))))
none_breaks v front x k verb h rows at room s t m n (Err F.Store) all = tt
none_breaks v front x k verb h rows at room s t m n (Err F.Memory) all = tt
none_breaks v front x k verb h rows at room s t m n (Err F.Mismatch) all = tt
none_breaks v front x k verb h rows at room s t m n (Err (F.Path i)) all = tt

-- ---- behind hops

pub inward_breaks : (A B : Type 0) (h : List ℕ → List ℕ) (rows : List Row) (at : List ℕ) (room : ℕ) (s : Slot) (t : Data) (m n : Moment) (e : HamtFault) → RefusesHamts {A = A} h rows at room s t m (Err e) n
    → RefusesBroken {A = B} h rows at room s t m (Err (hamt_fault e)) n
inward_breaks A B h rows at room s t m n (H.Block id why) x = x
inward_breaks A B h rows at room s t m n H.Store x = tt
inward_breaks A B h rows at room s t m n H.Memory x = tt
inward_breaks A B h rows at room s t m n H.Exhausted x = tt
inward_breaks A B h rows at room s t m n H.NoKey x = tt
inward_breaks A B h rows at room s t m n H.Size x = tt
inward_breaks A B h rows at room s t m n (H.Clash id kept new) x = tt

module _ (A B : Type 0) (h : List ℕ → List ℕ) (rows : List Row) (root : View) (block at : List ℕ) (room : ℕ) (s : Slot) (t : Data) (m k n : Moment) (only : OnlyReads m k) (r : Inward) (x : GoesDeeper h rows m.blocks root block at room s t r) where
  pub end_breaks : (e : PathFault) → RefusesBroken {A = A} h rows (id_of (block_behind block r.hops.items)) x.less x.slot x.tree k (Err e) n → RefusesBroken {A = B} h rows at room s t m (Err e) n
  end_breaks (F.Block id why) w = x.carries m.lacks n.lacks id.0 why (broken_earlier h (id_of (block_behind block r.hops.items)) rows x.less (x.slot, x.tree) m k n id.0 why only w)
  end_breaks F.Store w = tt
  end_breaks F.Memory w = tt
  end_breaks F.Mismatch w = tt
  end_breaks (F.Path i) w = tt

-- ---- a root block

pub whole_block : (v : View) (b : List ℕ) (t : Data) → IsBlockOf b t → IsWholeView v t → block_in (piece_of v) ≡ b
whole_block v b t own w = ap block_in w.piece ∙ w.root.block_is ∙ w.spelled.spelled ∙ sym own.spelled

pub whole_breaks : (slot u : Slot) (verb : Verb) (h : List ℕ → List ℕ) (rows : List Row) (at : List ℕ) (room : ℕ) (t : Data) (m n : Moment) (r : Result Place PathFault) → LocatesWhole slot verb r → RefusesBroken h rows at room u t m r n
whole_breaks slot u verb h rows at room t m n (Ok place) x = tt
whole_breaks slot u Y.Ins h rows at room t m n (Err e) x = subst (λ (z : PathFault). RefusesBroken {A = Place} h rows at room u t m (Err z) n) (sym x) tt
whole_breaks slot u Y.Del h rows at room t m n (Err e) x = subst (λ (z : PathFault). RefusesBroken {A = Place} h rows at room u t m (Err z) n) (sym x) tt
whole_breaks slot u Y.Set h rows at room t m n (Err e) x = absurd x
