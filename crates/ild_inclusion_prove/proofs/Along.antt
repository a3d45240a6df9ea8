-- What is added to a proof along the segments of a path in one block.
use Rattle.std.proofs.Common.{◌≡◌, ℕ, List, [], ◌∷◌, Option, Some, None, Result, Ok, Err, sym, ◌∙◌, subst, arith}
use Rattle.std.proofs.lemmas.List.{append-nil}
use Rattle.std.specs.Prelude.{Bool, IfOk}
use Rattle.ild_data.specs.Data.{Data}
use Rattle.ild_edges.specs.Gained.{AreHeld}
use Rattle.ild_edges.specs.Store.{Moment}
use Rattle.ild_edges.specs.Told.{IfTold}
use Rattle.ild_inclusion_prove.proofs.Halts.{rooted, unrooted}
use Rattle.ild_inclusion_prove.proofs.Stops.{ends_here, ends_nowhere, left_nowhere, stops_as}
use Rattle.ild_inclusion_prove.specs.inside.Adds.{AddsWay, FollowsSome, RootsAre}
use Rattle.ild_node_slots.specs.declared.fault.HamtFault.{HamtFault}
use Rattle.ild_node_slots.specs.declared.view.NodeView.{NodeView}
use Rattle.ild_path_edits.specs.Stop.{stopped}
use Rattle.ild_path_inward.specs.Halts.{HaltsAt}
use Rattle.ild_path_inward.specs.declared.halt.Halt.{Halt}
use Rattle.ild_schema.specs.Value as V
use Rattle.ild_schema.specs.Value.{Value}
use Rattle.ild_schema.specs.declared.row.Row.{Row}
use Rattle.ild_typed.specs.At.{InSlot}
use Rattle.ild_view.specs.View.{IsView, slot_of, table_of}

none_held : (o : Option (List (List ℕ))) → IfTold o (AreHeld [])
none_held None = tt
none_held (Some held) = tt

-- nothing is added
pub adds_nothing : (h : List ℕ → List ℕ) (rows : List Row) (room : ℕ) (p : InSlot) (path : List (List ℕ)) (m : Moment) (old : List (List ℕ)) → FollowsSome h rows room p path [] → AddsWay h rows room p path m old old m
adds_nothing h rows room p path m old says = record { nodes = []; grown = sym (append-nil old); held = none_held m.blocks; gets = omega arith; says = says }

module _ (h : List ℕ → List ℕ) (rows : List Row) (room : ℕ) (p : InSlot) (path : List (List ℕ)) (r : Halt) (x : HaltsAt rows room p path r) where
  abbrev Part : InSlot
  Part = (stopped rows p path).part

  -- what is said of the segments that are left
  says_left : (left bs : List (List ℕ)) → r.left.now ≡ left → FollowsSome h rows r.room Part left bs → FollowsSome h rows room p path bs
  says_left left bs e says =
      stops_as h rows path room p bs
      (subst (λ (n : ℕ). FollowsSome h rows n Part (stopped rows p path).left bs) x.room_is
      (subst (λ (xs : List (List ℕ)). FollowsSome h rows r.room Part xs bs) (sym e ∙ x.left) says))

  pub adds_here : (m : Moment) (old : List (List ℕ)) → r.left.now ≡ [] → AddsWay h rows room p path m old old m
  adds_here m old none = adds_nothing h rows room p path m old (says_left [] [] none (ends_here h rows r.room Part r.view x.view))

  pub adds_nowhere : (m : Moment) (old : List (List ℕ)) (s : List ℕ) (ss : List (List ℕ)) → r.left.now ≡ s ∷ ss → RootsAre r.view None → AddsWay h rows room p path m old old m
  adds_nowhere m old s ss left roots =
      adds_nothing h rows room p path m old
      (says_left (s ∷ ss) [] left (ends_nowhere h rows r.room Part s ss (left_nowhere rows path p s ss (sym x.left ∙ left)) (unrooted _ _ (roots Part.1 x.view.view))))

  in_root : (root : NodeView) → RootsAre r.view (Some root) → (s : List ℕ) (ss : List (List ℕ)) → r.left.now ≡ s ∷ ss → (m n : Moment) (old new : List (List ℕ))
      → ((d : Data) → IsView r.view (V.hamt d) → AddsWay h (table_of r.view) r.room (slot_of r.view, V.hamt d) (s ∷ ss) m old new n) → AddsWay h rows room p path m old new n
  in_root root roots s ss left m n old new adds =
      let d = rooted _ Part.1 root (roots Part.1 x.view.view) in
      let own = adds d.0 (subst (IsView r.view) d.1 x.view.view) in
      let here : (slot_of r.view, V.hamt d.0) ≡ Part = (λ i. (x.view.slot i, sym d.1 i)) in
      record {
        nodes = own.nodes;
        grown = own.grown;
        held = own.held;
        gets = own.gets;
        says = says_left (s ∷ ss) own.nodes left
            (subst (λ (q : InSlot). FollowsSome h rows r.room q (s ∷ ss) own.nodes) here
            (subst (λ (t : List Row). FollowsSome h t r.room (slot_of r.view, V.hamt d.0) (s ∷ ss) own.nodes) x.view.table own.says));
      }

  -- into a HAMT
  pub adds_in : (root : NodeView) → RootsAre r.view (Some root) → (s : List ℕ) (ss : List (List ℕ)) → r.left.now ≡ s ∷ ss → (m n : Moment) (old new : List (List ℕ)) (result : Result Bool HamtFault)
      → ((d : Data) → IsView r.view (V.hamt d) → IfOk result (λ b. AddsWay h (table_of r.view) r.room (slot_of r.view, V.hamt d) (s ∷ ss) m old new n)) → IfOk result (λ b. AddsWay h rows room p path m old new n)
  adds_in root roots s ss left m n old new (Ok b) adds = in_root root roots s ss left m n old new adds
  adds_in root roots s ss left m n old new (Err e) adds = tt
