-- A HAMT entered at a key: the nodes on the key's way are added to a proof.
use Rattle.std.proofs.Common.{◌≡◌, ◌≤◌, ℕ, ◌+◌, ◌-◌, List, [], ◌∷◌, ◌++◌, length, length-append, Option, Some, None, Result, Ok, Err, refl, sym, ap, ◌∙◌, subst, arith}
use Rattle.std.proofs.lemmas.List.{append-nil, append_assoc}
use Rattle.std.specs.FinMap.{find}
use Rattle.std.specs.Prelude.{Bool, IfOk, cond}
use Rattle.ild_cbor.specs.Nodes.{HasData}
use Rattle.ild_cbor.specs.declared.node.Node.{Node}
use Rattle.ild_cbor.specs.declared.piece.Piece.TheVariants as P
use Rattle.ild_data.proofs.AllOf.{all_append}
use Rattle.ild_data.specs.ByteOrder.{bytewise}
use Rattle.ild_data.specs.Data.{Data}
use Rattle.ild_data.specs.Spell.{id_of}
use Rattle.ild_data.specs.Trie.{TrieSlot, bucket_entries}
use Rattle.ild_data.specs.declared.hamt_shape.HamtShape.{HamtShape}
use Rattle.ild_edges.specs.Gained.{AreHeld}
use Rattle.ild_edges.specs.Store.{Moment, block_at}
use Rattle.ild_edges.specs.Told.{IfTold}
use Rattle.ild_hamt.specs.Descending.{Descends, trail_blocks}
use Rattle.ild_hamt.specs.Found.{FindsAtEnd}
use Rattle.ild_hamt.specs.declared.trail.Trail.{Trail}
use Rattle.ild_hamt_climb.specs.Seen.{ValueIs}
use Rattle.ild_hamt_climb.specs.Way.{slot_for}
use Rattle.ild_inclusion.specs.Branches.{found}
use Rattle.ild_inclusion.specs.Says.{AtKey, Ends, EntersRoot, Follows, GoesToSlot}
use Rattle.ild_inclusion.specs.declared.answer.Answer.{Answer}
use Rattle.ild_inclusion.specs.declared.answer.Answer.TheVariants as A
use Rattle.ild_inclusion_prove.proofs.Onway.{way_through}
use Rattle.ild_inclusion_prove.specs.inside.Adds.{AddsWay, FollowsSome, IsAnswer, RootsAre}
use Rattle.ild_node_slots.specs.Views.{HasSlots}
use Rattle.ild_node_slots.specs.declared.fault.HamtFault.{HamtFault}
use Rattle.ild_node_slots.specs.declared.view.NodeView.{NodeView}
use Rattle.ild_open.proofs.Carrying.{held_piece}
use Rattle.ild_path_edits.specs.Along.{room_below, taken}
use Rattle.ild_path_found.proofs.Finding.{finds_last}
use Rattle.ild_path_room.proofs.Rooting.{IsHamtRoot, hamt_of}
use Rattle.ild_run_follow.specs.inside.Enters.{ChecksEntry}
use Rattle.ild_schema.specs.Slots.{form_of}
use Rattle.ild_schema.specs.Value as V
use Rattle.ild_schema.specs.Value.{Value}
use Rattle.ild_schema.specs.declared.number.Slot.{Slot}
use Rattle.ild_schema.specs.declared.row.Row.{Row}
use Rattle.ild_typed.specs.At.{InSlot}
use Rattle.ild_typed.specs.Fits.{Front}
use Rattle.ild_view.specs.Body.{BodyStands}
use Rattle.ild_view.specs.View.{IsView, IsViewAt, body_of, slot_of, table_of}
use Rattle.ild_view.specs.declared.view.View.{View}

both_held : (o p : Option (List (List ℕ))) (xs ys : List (List ℕ)) → p ≡ o → IfTold o (AreHeld xs) → IfTold p (AreHeld ys) → IfTold o (AreHeld (xs ++ ys))
both_held None p xs ys same a b = tt
both_held (Some held) p xs ys same a b = all_append (λ c. block_at held (id_of c) ≡ Some c) xs ys a (subst (λ (q : Option (List (List ℕ))). IfTold q (AreHeld ys)) same b)

-- the value that was found
pub record IsFound (o : Option Data) (node : Node) : Type 0 where
  pub value : Data
  pub is : o ≡ Some value
  pub stands : HasData node value

is_found : (o : Option Data) (node : Node) → ValueIs o (Some node) → IsFound o node
is_found None node x = absurd x
is_found (Some d) node x = record { value = d; is = refl; stands = x }

is_absent : (o : Option Data) → ValueIs o None → o ≡ None
is_absent None x = refl
is_absent (Some d) x = absurd x

module _ (h : List ℕ → List ℕ) (hamt : View) (root : NodeView) (roots : RootsAre hamt (Some root)) (key : List ℕ) (behind : List (List ℕ)) (room : ℕ) (m n : Moment) (trail : Trail)
    (descent : (p : HamtShape) (slots : List TrieSlot) → HasSlots p root slots → Descends h p key slots m (Ok trail) n) (old mid : List (List ℕ)) (added : mid ≡ old ++ trail_blocks trail) where
  abbrev rows : List Row
  rows = table_of hamt

  abbrev Here : Data → InSlot
  Here d = (slot_of hamt, V.hamt d)

  -- what is left to the values
  abbrev Less : Data → ℕ
  Less d = room_below rows room (Here d) key

  module _ (d : Data) (is : IsView hamt (V.hamt d)) where
    top : IsHamtRoot (form_of rows (slot_of hamt)) d root
    top = hamt_of (form_of rows (slot_of hamt)) d root (roots (V.hamt d) is)

    abbrev Walk : Descends h top.shape key top.slots m (Ok trail) n
    Walk = descent top.shape top.slots top.has

    abbrev At : ℕ
    At = length Walk.bs

    abbrev There : Option Data
    There = find bytewise key (bucket_entries (slot_for top.shape (h key) At Walk.last))

    read_once : n.gets ≤ m.gets + At
    read_once = let none = ap {B = ℕ} (λ b. cond b 1 0) Walk.answer.ends in let own = Walk.reads.gets in omega (arith, none, own)

    grown : mid ≡ old ++ Walk.bs
    grown = added ∙ ap (λ (xs : List (List ℕ)). old ++ xs) Walk.answer.blocks

    abbrev On : ℕ → Answer → ℕ → InSlot → List (List ℕ) → Type 0
    On k a j q cs = Follows h rows (IsAnswer a) (Less d) (k + 1) j q behind cs

    abbrev Off : ℕ → Answer → ℕ → List (List ℕ) → Type 0
    Off k a j cs = Ends (IsAnswer a) j cs (A.Absent k)

    abbrev AtValue : ℕ → Answer → ℕ → List (List ℕ) → Data → Type 0
    AtValue k a j cs t = GoesToSlot rows (Less d) (slot_of hamt) j t (λ q. On k a j q cs) (λ r. IsAnswer a (Err r))

    enters_by : (k i : ℕ) (a : Answer) (rest : List (List ℕ)) → AtKey (AtValue k a) (Off k a) (i + At) rest There → EntersRoot rows (h key) key (Less d) (slot_of hamt) d i (Walk.bs ++ rest) (On k a) (Off k a) (λ r. IsAnswer a (Err r))
    enters_by k i a rest ends = record {
      shape = top.shape;
      named = top.named;
      slots = top.slots;
      root = top.root;
      way = way_through top.shape (h key) key (AtKey (AtValue k a) (Off k a)) (λ r. IsAnswer a (Err r)) Walk.bs 0 i At (i + At) top.slots Walk.last rest (omega arith) refl Walk.reads.short Walk.reads.leads Walk.answer.ends ends;
    }

    module _ (r : Option Node) (finds : FindsAtEnd trail root r) where
      value_is : ValueIs There r
      value_is = (finds_last h top.shape key top.slots root trail m n top.has Walk r finds).value

      -- where the key isn't there
      pub adds_absent : r ≡ None → AddsWay h rows room (Here d) (key ∷ behind) m old mid n
      adds_absent none =
          let gone : There ≡ None = is_absent There (subst (λ (o : Option Node). ValueIs There o) none value_is) in
          record {
            nodes = Walk.bs;
            grown = grown;
            held = Walk.reads.held;
            gets = read_once;
            says = λ k i. (
              A.Absent k,
              subst (λ (xs : List (List ℕ)). EntersRoot rows (h key) key (Less d) (slot_of hamt) d i xs (On k (A.Absent k)) (Off k (A.Absent k)) (λ r. IsAnswer (A.Absent k) (Err r))) (append-nil Walk.bs)
                  (enters_by k i (A.Absent k) [] (subst (λ (o : Option Data). AtKey (AtValue k (A.Absent k)) (Off k (A.Absent k)) (i + At) [] o) (sym gone) refl)),
            );
          }

      -- on from its value
      module _ (node : Node) (some : r ≡ Some node) (less : ℕ) (lower : less ≡ room - taken (form_of rows (slot_of hamt))) (part : View) (checks : (t : Data) → HasData node t → ChecksEntry rows less (form_of rows (slot_of hamt)) node t (Ok part))
          (o : Moment) (new : List (List ℕ)) (adds : (f : Value) → IsView part f → AddsWay h (table_of part) less (slot_of part, f) behind n mid new o) where
        value : IsFound There node
        value = is_found There node (subst (λ (x : Option Node). ValueIs There x) some value_is)

        on_value : AddsWay h rows room (Here d) (key ∷ behind) m old new o
        on_value =
            let y = value in
            let c = checks y.value y.stands in
            let f = c.3 in
            let at : IsViewAt rows c.0 (P.Node node) part = c.2 in
            let own : Front rows less c.0 f.0 y.value = record { fits = f.1; tree = f.2 } in
            let front : Front (table_of part) less (slot_of part) f.0 y.value =
            subst (λ (s : Slot). Front (table_of part) less s f.0 y.value) (sym at.slot) (subst (λ (t : List Row). Front t less c.0 f.0 y.value) (sym at.table) own) in
            let seen : IsView part f.0 = record { room = less; tree = y.value; stands = subst (λ b. BodyStands (table_of part) b y.value) (sym (held_piece (body_of part) (P.Node node) at.piece)) y.stands; front = front } in
            let x = adds f.0 seen in
            let says : FollowsSome h rows less (c.0, f.0) behind x.nodes =
            subst (λ (s : Slot). FollowsSome h rows less (s, f.0) behind x.nodes) at.slot (subst (λ (t : List Row). FollowsSome h t less (slot_of part, f.0) behind x.nodes) at.table x.says) in
            let there : FollowsSome h rows (Less d) (c.0, f.0) behind x.nodes = subst (λ (i : ℕ). FollowsSome h rows i (c.0, f.0) behind x.nodes) lower says in
            let fits : Front rows (Less d) c.0 f.0 y.value = subst (λ (i : ℕ). Front rows i c.0 f.0 y.value) lower own in
            record {
              nodes = Walk.bs ++ x.nodes;
              grown = x.grown ∙ ap (λ (xs : List (List ℕ)). xs ++ x.nodes) grown ∙ append_assoc old Walk.bs x.nodes;
              held = both_held m.blocks n.blocks Walk.bs x.nodes Walk.reads.blocks Walk.reads.held x.held;
              gets = (let first = read_once in let rest = x.gets in let all = length-append Walk.bs x.nodes in omega (arith, first, rest, all));
              says = λ k i.
                  let z = there (k + 1) (i + At) in (
                    z.0,
                    enters_by k i z.0 x.nodes
                        (subst (λ (u : Option Data). AtKey (AtValue k z.0) (Off k z.0) (i + At) x.nodes u) (sym y.is) (record { slot = c.0; is = c.1; fronted = found f.0 fits z.1 })),
                  );
            }

      pub adds_on : (node : Node) → r ≡ Some node → (less : ℕ) → less ≡ room - taken (form_of rows (slot_of hamt)) → (part : View) → ((t : Data) → HasData node t → ChecksEntry rows less (form_of rows (slot_of hamt)) node t (Ok part))
          → (o : Moment) (new : List (List ℕ)) (result : Result Bool HamtFault) → ((f : Value) → IsView part f → IfOk result (λ b. AddsWay h (table_of part) less (slot_of part, f) behind n mid new o))
          → IfOk result (λ b. AddsWay h rows room (Here d) (key ∷ behind) m old new o)
      adds_on node some less lower part checks o new (Ok b) adds = on_value node some less lower part checks o new adds
      adds_on node some less lower part checks o new (Err e) adds = tt
