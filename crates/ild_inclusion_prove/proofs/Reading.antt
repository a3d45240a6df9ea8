-- What is told of a part of which a proof is made, and which block is refused, as where the part's presence is told.
use Rattle.std.proofs.Common.{◌≡◌, ℕ, ◌+◌, ◌-◌, ◌≤◌, List, [], ◌∷◌, length, true, false, Some, None, Result, Ok, Err, refl, sym, subst, arith}
use Rattle.std.proofs.Math.Logic.{∥∥₁_elim, ∥∥₁_map}
use Rattle.std.proofs.Props.{props}
use Rattle.ild_data.specs.Data.{Data}
use Rattle.ild_data.specs.Spell.{id_of}
use Rattle.ild_data.specs.Trie.{TrieSlot}
use Rattle.ild_data.specs.declared.hamt_shape.HamtShape.{HamtShape}
use Rattle.ild_edges.specs.Store.{Moment}
use Rattle.ild_hamt.specs.Descending.{Descends}
use Rattle.ild_hamt.specs.declared.trail.Trail.{Trail}
use Rattle.ild_inclusion_prove.proofs.Halts.{leaves, left_is, rooted, steps_here, steps_in, steps_none}
use Rattle.ild_inclusion_prove.specs.inside.Adds.{RootsAre}
use Rattle.ild_inclusion_prove.specs.inside.Faults.{told_as}
use Rattle.ild_node_slots.specs.Views.{HasSlots}
use Rattle.ild_node_slots.specs.declared.fault.HamtFault.{HamtFault}
use Rattle.ild_node_slots.specs.declared.fault.HamtFault.TheVariants as H
use Rattle.ild_node_slots.specs.declared.view.NodeView.{NodeView}
use Rattle.ild_open_parts.proofs.Turning.{only_refl}
use Rattle.ild_path_found.specs.Laws.{PartsStandInData}
use Rattle.ild_path_found.specs.Sites.{IsSiteOf}
use Rattle.ild_open_parts.specs.Sites.{Site}
use Rattle.ild_path_inward.specs.Halts.{HaltsAt}
use Rattle.ild_path_inward.specs.declared.halt.Halt.{Halt}
use Rattle.ild_run_follow.proofs.Leading.{tells_here, tells_in, tells_none}
use Rattle.ild_run_follow.proofs.Refusing.{refuses_entered}
use Rattle.ild_run_follow.proofs.Tracing.{enters}
use Rattle.ild_run_follow.proofs.Within.{tells_stopped}
use Rattle.ild_run_follow.specs.Refuses.{RefusesBroken, RefusesIn}
use Rattle.ild_run_follow.specs.Tells.{TellsFrom, TellsHere, TellsIn}
use Rattle.ild_run_follow.specs.declared.fault.ReadFault.TheVariants as F
use Rattle.ild_run_follow.specs.declared.kind.Tell.TheVariants.{Presence}
use Rattle.ild_run_follow.specs.inside.Enters.{EntersTrie, WalksTrie}
use Rattle.ild_run_follow.specs.inside.Faults.{entered_as}
use Rattle.ild_schema.specs.Value as V
use Rattle.ild_schema.specs.Value.{Value}
use Rattle.ild_schema.specs.declared.number.Slot.{Slot}
use Rattle.ild_typed.specs.Fits.{Front}
use Rattle.ild_typed.specs.Schema.{IsSchema}
use Rattle.ild_view.specs.View.{IsView, slot_of, table_of}
use Rattle.ild_view.specs.declared.view.View.{View}
use Rattle.std.specs.Prelude.{Bool}

-- ---- a part in the block

-- a part is there
pub presence_here : (h : List ℕ → List ℕ) (room : ℕ) (view : View) (m : Moment) → TellsHere h room view Presence m (told_as (Ok true)) m
presence_here h room view m = record { answer = λ t v x. refl; gets = λ t v x. omega arith; only = only_refl m; failed = tt }

module _ (h : List ℕ → List ℕ) (room : ℕ) (low : room ≤ 96) (view : View) (schema : IsSchema (table_of view)) (path : List (List ℕ)) (r : Halt) (halts : (f : Value) → IsView view f → HaltsAt (table_of view) room (slot_of view, f) path r) (m : Moment) where
  pub follow_here : r.left.now ≡ [] → TellsFrom h room view path Presence m (told_as (Ok true)) m
  follow_here none =
      tells_here h room low view schema 0 path Presence m m (told_as (Ok true)) r.view r.room (steps_here view room path r halts none) (leaves view room path r halts) (presence_here h r.room r.view m)

  pub follow_none : (s : List ℕ) (ss : List (List ℕ)) → r.left.now ≡ s ∷ ss → RootsAre r.view None → TellsFrom h room view path Presence m (told_as (Ok false)) m
  follow_none s ss left roots =
      tells_none h room low view schema 0 path Presence m m (told_as (Ok false)) (record { k = length path - length (s ∷ ss) }) (steps_none view room path r halts roots s ss left) refl refl

  pub follow_in : (root : NodeView) → RootsAre r.view (Some root) → (s : List ℕ) (ss : List (List ℕ)) → r.left.now ≡ s ∷ ss → (n : Moment) (result : Result Bool HamtFault) → TellsIn h r.room r.view (s ∷ ss) Presence m (told_as result) n
      → TellsFrom h room view path Presence m (told_as result) n
  follow_in root roots s ss left n result tells =
      tells_in h room low view schema 0 path Presence m n (told_as result) r.view r.room (length path - length (s ∷ ss)) path refl (steps_in view room path r halts root roots s ss left) (leaves view room path r halts)
      (subst (λ (xs : List (List ℕ)). TellsIn h r.room r.view xs Presence m (told_as result) n) (sym (left_is view room path r halts s ss left)) tells)

  -- what is refused beneath a root is broken in the whole
  pub follow_refused : PartsStandInData → (root : NodeView) → RootsAre r.view (Some root) → (s : List ℕ) (ss : List (List ℕ)) → r.left.now ≡ s ∷ ss → (block : List ℕ) (n : Moment) (result : Result Bool HamtFault)
      → ((slot : Slot) (z : Site) → IsSiteOf (table_of r.view) slot z.room r.view block z → r.room ≡ z.room + 5 → RefusesIn h (table_of r.view) z m (told_as result) n)
      → (f : Value) (t : Data) → IsView view f → Front (table_of view) room (slot_of view) f t → RefusesBroken h (table_of view) (id_of block) room (slot_of view) t m (told_as result) n
  follow_refused law root roots s ss left block n result says f t is front =
      refuses_entered law h (table_of view) schema (id_of block) room 0 (slot_of view, f) t path front m n (told_as result) r.view (length path - length (s ∷ ss)) r.room block refl (leaves view room path r halts f is)
      (steps_in view room path r halts root roots s ss left f is) says

-- ---- a HAMT

pub is_root : (view : View) (root : NodeView) → RootsAre view (Some root) → ∥ ((t : Data) × IsView view (V.hamt t)) ∥₁
is_root view root roots = ∥∥₁_map view.stands (λ s.
    let own : IsView view s.value = record { room = s.room; tree = s.tree; stands = s.stands; front = s.front } in
    let d = rooted _ s.value root (roots s.value own) in
    (d.0, subst (IsView view) d.1 own))

-- the way of a key beneath this root node, of whatever shape
abbrev pub WalksFrom : (List ℕ → List ℕ) → NodeView → Moment → Result Trail HamtFault → Moment → List ℕ → Type 0
WalksFrom h root m result n key = (p : HamtShape) (slots : List TrieSlot) → HasSlots p root slots → Descends h p key slots m result n

pub same_key : (h : List ℕ → List ℕ) (root : NodeView) (m n : Moment) (result : Result Trail HamtFault) (k key : List ℕ) → k ≡ key → WalksFrom h root m result n k → WalksFrom h root m result n key
same_key h root m n result k key same walks = subst (WalksFrom h root m result n) same walks

module _ (h : List ℕ → List ℕ) (hamt : View) (root : NodeView) (key : List ℕ) (m n : Moment) (result : Result Trail HamtFault) (descent : WalksFrom h root m result n key) where
  pub entered : (p : HamtShape) (slots : List TrieSlot) → HasSlots p root slots → EntersTrie h p key slots m (entered_as result) n
  entered p slots has = enters h p key slots m n result (descent p slots has)

  pub walked : (p : HamtShape) (slots : List TrieSlot) → HasSlots p root slots → WalksTrie h p key slots m (entered_as result) n
  walked p slots has = record { found = result; is = refl; walk = descent p slots has }

  -- as far as the nodes were read
  wanting : (p : HamtShape) (slots : List TrieSlot) → HasSlots p root slots → EntersTrie h p key slots m (Err F.Memory) n
  wanting p slots has =
      let x = entered p slots has in
      record { answer = λ es t. tt; gets = x.gets; only = x.only; failed = tt }

  -- memory is wanting behind it
  pub enter_wanting : (room : ℕ) → room ≤ 96 → IsSchema (table_of hamt) → RootsAre hamt (Some root) → (behind : List (List ℕ)) → TellsIn h room hamt (key ∷ behind) Presence m (Err F.Memory) n
  enter_wanting room low schema roots behind = tells_stopped h room low hamt schema m (key ∷ behind) 0 Presence root roots key refl (Err F.Memory) n wanting F.Memory refl
