-- How the HAMTs of a place stand, whatever the store holds.
use Rattle.std.proofs.Common.{◌≡◌, ◌-◌, ℕ, List, [], length, Option, Some, None, refl, ap, sym, ◌∙◌, subst, true, false, true≢false}
use Rattle.std.specs.List.{slice_get}
use Rattle.std.specs.Prelude.{IfOk, Result, Ok, Err}
use Rattle.std.proofs.Math.Logic.{∥∥₁_map}
use Rattle.std.proofs.lemmas.Option.{none-some, same_Some}
use Rattle.ild_data.specs.Data.{Data}
use Rattle.ild_data.specs.declared.hamt_shape.HamtShape.{HamtShape}
use Rattle.ild_node_slots.specs.declared.view.NodeView.{NodeView}
use Rattle.ild_path_edits.specs.Stop.{Stop, stopped}
use Rattle.ild_path_entry.specs.Entry.{data_in, slot_in, table_in}
use Rattle.ild_path_hops.proofs.Linking.{at_last, linked_none, none_last, on_last, on_top}
use Rattle.ild_path_hops.specs.Links.{IsBehind, IsPartAt, IsRootAt, PartBehind}
use Rattle.ild_path_hops.specs.declared.hop.Hop.{Hop}
use Rattle.ild_path_inward.specs.Halts.{HaltsAt}
use Rattle.ild_path_inward.specs.declared.halt.Halt.{Halt}
use Rattle.ild_path_place.specs.Links.{EndBehind, EndFollows, EndLeads, IsLinked, front_at, is_whole, may_be}
use Rattle.ild_path_place.specs.declared.ending.Found.{Found}
use Rattle.ild_path_place.specs.declared.fault.PathFault.{PathFault}
use Rattle.ild_path_place.specs.declared.place.End.{End}
use Rattle.ild_path_place.specs.declared.place.End.TheVariants as D
use Rattle.ild_path_place.specs.declared.verb.Verb.{Verb}
use Rattle.ild_schema.specs.Value as V
use Rattle.ild_schema.specs.Value.{Value, hamt}
use Rattle.ild_schema.specs.declared.number.Slot.{Slot}
use Rattle.ild_schema.specs.declared.row.Row.{Row}
use Rattle.ild_typed.specs.At.{InSlot}
use Rattle.ild_typed.specs.Fits.{Front}
use Rattle.ild_view.specs.Roots.{RootIs, root_in}
use Rattle.ild_view.specs.View.{IsView, slot_of, table_of}
use Rattle.ild_view.specs.declared.view.View.{View}

-- ---- roots

root_there : (o : Option HamtShape) (v : Value) (n : NodeView) → RootIs o (root_in v) (Some n) → (t : Data) × (v ≡ hamt t)
root_there o (V.hamt d) n is = (d, refl)
root_there o V.null n is = absurd is
root_there o (V.boolean b) n is = absurd is
root_there o (V.integer i) n is = absurd is
root_there o (V.text s) n is = absurd is
root_there o (V.bytes s) n is = absurd is
root_there o (V.link s) n is = absurd is
root_there o (V.list vs) n is = absurd is
root_there o (V.map ps) n is = absurd is
root_there o (V.struct os) n is = absurd is
root_there o (V.union k v) n is = absurd is
root_there o (V.enum k) n is = absurd is
root_there o V.unit n is = absurd is
root_there o (V.any d) n is = absurd is

pub rooted_hamt : (v : View) (o : Option HamtShape) (n : NodeView) → ((f : Value) → IsView v f → RootIs o (root_in f) (Some n)) → ∥ ((t : Data) × IsView v (hamt t)) ∥₁
rooted_hamt v o n all =
    ∥∥₁_map v.stands (λ s.
    let is : IsView v s.value = record { room = s.room; tree = s.tree; stands = s.stands; front = s.front } in
    let x = root_there o s.value n (all s.value is) in (x.0, subst (IsView v) x.1 is))

-- ---- ends

-- the part to which they lead is the HAMT
root_at : (rows : List Row) (room : ℕ) (p : InSlot) (front : List (List ℕ)) (halt : Halt) → HaltsAt rows room p front halt → (o : Option HamtShape) (n : NodeView) → ((f : Value) → IsView halt.view f → RootIs o (root_in f) (Some n))
    → IsPartAt rows p front → IsRootAt rows p front
root_at rows room p front halt halts o n all x =
    let q : InSlot = (stopped rows p front).part in
    let root = root_there o q.1 n (all q.1 halts.view.view) in
    record {
      slot = q.0;
      tree = root.0;
      leads = x.leads ∙ ap (λ (z : Stop). record { part = z.part; left = [] }) (sym x.leads) ∙ ap (λ (v : Value). record { part = (q.0, v); left = [] }) root.1;
    }

leads_by : (rows : List Row) (p : InSlot) (front : List (List ℕ)) (end : End) → front_at end ≡ Some front → IsRootAt rows p front → EndLeads rows p end
leads_by rows p front D.Whole e x = tt
leads_by rows p front (D.InBlock path) e x = tt
leads_by rows p front (D.AtKey own trail entry) e x = subst (IsRootAt rows p) (sym (same_Some own front e)) x

leads_none : (rows : List Row) (p : InSlot) (end : End) → front_at end ≡ None → EndLeads rows p end
leads_none rows p D.Whole e = tt
leads_none rows p (D.InBlock path) e = tt
leads_none rows p (D.AtKey own trail entry) e = absurd (none-some own (sym e))

pub follows_key : (view : View) (room : ℕ) (front : List (List ℕ)) (halt : Halt) → ((f : Value) → IsView view f → HaltsAt (table_of view) room (slot_of view, f) front halt) → (o : Option HamtShape) (n : NodeView)
    → ((f : Value) → IsView halt.view f → RootIs o (root_in f) (Some n)) → (r : Result Found PathFault) → IfOk r (λ found. front_at found.end ≡ Some front) → IfOk r (λ found. EndFollows view front found.end)
follows_key view room front halt halts o n all (Ok found) e = λ f is x. leads_by (table_of view) (slot_of view, f) front found.end e (root_at (table_of view) room (slot_of view, f) front halt (halts f is) o n all x)
follows_key view room front halt halts o n all (Err fault) e = tt

pub follows_none : (view : View) (front : List (List ℕ)) (r : Result Found PathFault) → IfOk r (λ found. front_at found.end ≡ None) → IfOk r (λ found. EndFollows view front found.end)
follows_none view front (Ok found) e = λ f is x. leads_none (table_of view) (slot_of view, f) found.end e
follows_none view front (Err fault) e = tt

-- ---- behind hops

end_by : (end : End) (root : View) (hops : List Hop) → ((front : List (List ℕ)) → front_at end ≡ Some front → IsBehind (λ rows p. IsRootAt rows p front) root hops) → EndBehind root hops end
end_by D.Whole root hops all = tt
end_by (D.InBlock path) root hops all = tt
end_by (D.AtKey front trail entry) root hops all = all front refl

root_of : (rows : List Row) (p : InSlot) (front : List (List ℕ)) (end : End) → front_at end ≡ Some front → EndLeads rows p end → IsRootAt rows p front
root_of rows p front D.Whole e x = absurd (none-some front e)
root_of rows p front (D.InBlock path) e x = absurd (none-some front e)
root_of rows p front (D.AtKey own trail entry) e x = subst (IsRootAt rows p) (same_Some own front e) x

-- the end in the block of the last hop's entry, as the view of it says it
pub behind_last : (root : View) (hops : List Hop) (hop : Hop) → Some hop ≡ slice_get hops (length hops - 1) → (front : List (List ℕ)) (view : View) → table_of view ≡ table_in hop.entry → slot_of view ≡ slot_in hop.entry
    → ((f : Value) (room : ℕ) → Front (table_in hop.entry) room (slot_in hop.entry) f (data_in hop.entry) → IsView view f) → PartBehind root hops front → (r : Result Found PathFault)
    → IfOk r (λ found. EndFollows view front found.end) → IfOk r (λ found. EndBehind root hops found.end)
behind_last root hops hop last front view table slot stands parts (Ok found) follows =
    end_by found.end root hops (λ own e. on_last (λ rows p. IsRootAt rows p own) root hops hop last (λ f room fits.
    let is = stands f room fits in
    let part = at_last (λ rows p. IsPartAt rows p front) root hops hop last parts f room fits in
    let back : IsPartAt (table_of view) (slot_of view, f) front = subst (λ (y : Slot). IsPartAt (table_of view) (y, f) front) (sym slot) (subst (λ (y : List Row). IsPartAt y (slot_in hop.entry, f) front) (sym table) part) in
    root_of (table_in hop.entry) (slot_in hop.entry, f) own found.end e
    (subst (λ (y : Slot). EndLeads (table_in hop.entry) (y, f) found.end) slot (subst (λ (y : List Row). EndLeads y (slot_of view, f) found.end) table (follows f is back)))))
behind_last root hops hop last front view table slot stands parts (Err fault) follows = tt

pub behind_top : (root : View) (hops : List Hop) → None ≡ slice_get hops (length hops - 1) → (front : List (List ℕ)) → PartBehind root hops front → (r : Result Found PathFault)
    → IfOk r (λ found. EndFollows root front found.end) → IfOk r (λ found. EndBehind root hops found.end)
behind_top root hops none front parts (Ok found) follows =
    end_by found.end root hops (λ own e. on_top (λ rows p. IsRootAt rows p own) root hops none (λ f is. root_of (table_of root) (slot_of root, f) own found.end e (follows f is (parts.top (none_last hops none) f is))))
behind_top root hops none front parts (Err fault) follows = tt

-- ---- places

pub inside_may : (end : End) (verb : Verb) → is_whole end ≡ false → may_be end verb ≡ true
inside_may D.Whole verb e = absurd (true≢false e)
inside_may (D.InBlock path) verb e = refl
inside_may (D.AtKey front trail entry) verb e = refl

pub linked_whole : (root : View) (hops : List Hop) → hops ≡ [] → IsLinked root hops D.Whole
linked_whole root hops none = record { hops_are = linked_none root hops none; leads = tt }
