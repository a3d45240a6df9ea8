-- A proof from the root block on.
use Rattle.std.proofs.Common.{◌≡◌, ℕ, ◌+◌, ◌≤◌, List, [], ◌∷◌, ◌++◌, true≢false, Some, Result, Ok, Err, refl, sym, ap, ◌∙◌, subst, arith}
use Rattle.std.proofs.lemmas.Option.{same_Some}
use Rattle.std.specs.Prelude.{Bool}
use Rattle.ild_cbor.specs.declared.piece.Piece.TheVariants as P
use Rattle.ild_data.specs.Data.{Data}
use Rattle.ild_data.specs.Spell.{id_of, spell}
use Rattle.ild_data.specs.declared.tree.Tree.{Tree}
use Rattle.ild_edges.specs.Gained.{AreHeld}
use Rattle.ild_edges.specs.Store.{Moment, block_at}
use Rattle.ild_edges.specs.Told.{IfTold}
use Rattle.ild_inclusion.specs.Branches.{so, found}
use Rattle.ild_inclusion.specs.Says.{BlocksSay}
use Rattle.ild_inclusion_held.specs.Laws.{ProofsHold}
use Rattle.ild_inclusion_prove.proofs.Answering.{answers}
use Rattle.ild_path_enter.specs.Enters.{FailsOnly as HamtFailsOnly}
use Rattle.ild_inclusion_prove.specs.Proves.{HeldAnswer, Proves, ProvesHeld}
use Rattle.ild_inclusion_prove.specs.inside.Adds.{AddsWay, FollowsSome}
use Rattle.ild_inclusion_prove.specs.inside.Faults.{IsAlone, told_as}
use Rattle.ild_node_slots.specs.declared.fault.HamtFault.{HamtFault}
use Rattle.ild_node_slots.specs.declared.fault.HamtFault.TheVariants as F
use Rattle.ild_open.proofs.Carrying.{held_piece}
use Rattle.ild_open_held.proofs.Roots.{standing_are_held}
use Rattle.ild_path_found.specs.Sites.{RefusesBroken}
use Rattle.ild_path_inward.specs.Levels.{counts, met_on}
use Rattle.ild_run_follow.specs.Refuses.{RefusesBroken as ReadsBroken}
use Rattle.ild_run_follow.specs.Tells.{FailsOnly, TellsFrom, ViewHolds}
use Rattle.ild_run_follow.specs.declared.kind.Tell.TheVariants.{Presence}
use Rattle.ild_run_follow.specs.inside.Faults.{hamt_fault}
use Rattle.ild_schema.specs.Clear.{IsSafe}
use Rattle.ild_schema.specs.Slots.{plainly}
use Rattle.ild_schema.specs.Value.{Value}
use Rattle.ild_schema.specs.declared.number.Slot.{Slot}
use Rattle.ild_schema.specs.declared.number.TypeNo.{TypeNo}
use Rattle.ild_schema.specs.declared.row.Row.{Row}
use Rattle.ild_typed.proofs.TreeValues.{whole_tree}
use Rattle.ild_typed.specs.At.{met}
use Rattle.ild_typed.specs.Fits.{Front}
use Rattle.ild_typed.specs.Schema.{IsSchema}
use Rattle.ild_typed.specs.Stands.{Stands, bare}
use Rattle.ild_typed_fronts.proofs.Representing.{fronts_are_fronts}
use Rattle.ild_typed_fronts.specs.Front.{front}
use Rattle.ild_open_held.specs.Held.{IsHeld}
use Rattle.ild_cbor.specs.Block.{IsBlockOf}
use Rattle.ild_view.specs.Body.{BodyStands}
use Rattle.ild_view.specs.View.{IsView, body_of, slot_of, table_of}
use Rattle.ild_view.specs.Whole.{IsWholeView}
use Rattle.ild_view.specs.declared.view.View.{View}
use Rattle.ild_view_doc.specs.Block.{IsRootBlock}

-- ---- over every store

module _ (h : List ℕ → List ℕ) (rows : List Row) (n : TypeNo) (b : List ℕ) (view : View) (table : table_of view ≡ rows) (slot : slot_of view ≡ plainly n) (f : Value) (root : IsRootBlock rows n b f) (path : List (List ℕ)) (m k : Moment)
    (old proof : List (List ℕ)) (begun : old ≡ b ∷ []) (adds : AddsWay h (table_of view) 96 (slot_of view, f) path m old proof k) where
  is_proof : proof ≡ b ∷ adds.nodes
  is_proof = adds.grown ∙ ap (λ (xs : List (List ℕ)). xs ++ adds.nodes) begun

  says_some : FollowsSome h rows 96 (plainly n, f) path adds.nodes
  says_some = subst (λ (s : Slot). FollowsSome h rows 96 (s, f) path adds.nodes) slot (subst (λ (t : List Row). FollowsSome h t 96 (slot_of view, f) path adds.nodes) table adds.says)

  pub proves : Proves h rows n b path m proof k
  proves =
      let y = says_some 0 0 in
      record {
        nodes = adds.nodes;
        is = is_proof;
        held = adds.held;
        gets = adds.gets;
        answer = y.0;
        says = subst (λ (xs : List (List ℕ)). BlocksSay h rows n (id_of b) path xs y.0) (sym is_proof) (so refl (found root.tree root.block (found f root.front y.1)));
      }

-- ---- why there is none

pub fails_alone : (A : Type 0) (m n : Moment) (e : HamtFault) → IsAlone {A = Bool} (Err e) → FailsOnly {A = Tree} m (Err (hamt_fault e)) n → HamtFailsOnly {A = A} m (Err e) n
fails_alone A m n (F.Block id why) own x = tt
fails_alone A m n F.Store own x = x
fails_alone A m n F.Memory own x = tt
fails_alone A m n F.Exhausted own x = absurd own
fails_alone A m n F.NoKey own x = absurd own
fails_alone A m n F.Size own x = absurd own
fails_alone A m n (F.Clash id kept new) own x = absurd own

breaks : (A : Type 0) (h : List ℕ → List ℕ) (rows : List Row) (at : List ℕ) (room : ℕ) (s : Slot) (t : Data) (m n : Moment) (e : HamtFault) → ReadsBroken {A = Tree} h rows at room s t m (Err (hamt_fault e)) n
    → RefusesBroken {A = A} h rows at room s t m (Err e) n
breaks A h rows at room s t m n (F.Block id why) x = x
breaks A h rows at room s t m n F.Store x = tt
breaks A h rows at room s t m n F.Memory x = tt
breaks A h rows at room s t m n F.Exhausted x = tt
breaks A h rows at room s t m n F.NoKey x = tt
breaks A h rows at room s t m n F.Size x = tt
breaks A h rows at room s t m n (F.Clash id kept new) x = tt

pub refuses : (A : Type 0) (h : List ℕ → List ℕ) (rows : List Row) (n : TypeNo) (b c : List ℕ) (view : View) → table_of view ≡ rows → slot_of view ≡ plainly n → c ≡ b → (f : Value) (root : IsRootBlock rows n b f) → IsView view f → (m k : Moment) (e : HamtFault)
    → ((g : Value) (t : Data) → IsView view g → Front (table_of view) 96 (slot_of view) g t → ReadsBroken {A = Tree} h (table_of view) (id_of c) 96 (slot_of view) t m (Err (hamt_fault e)) k)
    → RefusesBroken {A = A} h rows (id_of b) 96 (plainly n) root.tree m (Err e) k
refuses A h rows n b c view table slot same f root is m k e says =
    let own : Front (table_of view) 96 (slot_of view) f root.tree =
    subst (λ (s : Slot). Front (table_of view) 96 s f root.tree) (sym slot) (subst (λ (t : List Row). Front t 96 (plainly n) f root.tree) (sym table) root.front) in
    breaks A h rows (id_of b) 96 (plainly n) root.tree m k e
    (subst (λ (a : List ℕ). ReadsBroken {A = Tree} h rows (id_of a) 96 (plainly n) root.tree m (Err (hamt_fault e)) k) same
    (subst (λ (s : Slot). ReadsBroken {A = Tree} h rows (id_of c) 96 s root.tree m (Err (hamt_fault e)) k) slot
    (subst (λ (t : List Row). ReadsBroken {A = Tree} h t (id_of c) 96 (slot_of view) root.tree m (Err (hamt_fault e)) k) table (says f root.tree is own))))

-- ---- of a value that is held

module _ (h : List ℕ → List ℕ) (rows : List Row) (schema : IsSchema rows) (was : List (List ℕ)) (n : TypeNo) (b : List ℕ) (v : Value) (st : Stands bare (block_at was) h rows n (id_of b) v) (own : block_at was (id_of b) ≡ Some b)
    (m : Moment) (told : m.blocks ≡ Some was) where
  spelled : b ≡ spell st.tree
  spelled = same_Some b (spell st.tree) (sym own ∙ (standing_are_held (block_at was) h rows n (id_of b) v st).there)

  safe : IsSafe rows (plainly n)
  safe = λ e. absurd (true≢false (sym e))

  root : IsRootBlock rows n b (front h rows (plainly n) v)
  root =
      let has = (standing_are_held (block_at was) h rows n (id_of b) v st).held in
      let t = whole_tree h rows schema.table.texts.spelled 96 (plainly n) v st.tree has.fits has.tree in
      record {
        tree = st.tree;
        block = record { within = record { tree = t.tree; nested = t.nested; sized = st.storable.sized.0 }; spelled = spelled };
        front = fronts_are_fronts h rows schema 96 (plainly n) v st.tree safe has.fits has.tree;
      }

  module _ (view : View) (table : table_of view ≡ rows) (slot : slot_of view ≡ plainly n) (stands : (f : Value) → IsRootBlock rows n b f → IsView view f) (whole : (t : Data) → IsBlockOf b t → IsWholeView view t) where
    holds : ViewHolds h 96 view m st.tree v
    unfolding root
    holds =
        let w = whole st.tree root.block in
        let has = (standing_are_held (block_at was) h rows n (id_of b) v st).held in
        record {
          held = was;
          told = told;
          stands = subst (λ c. BodyStands (table_of view) c st.tree) (sym (held_piece (body_of view) (P.Node w.node) w.piece)) w.root.stands;
          value = subst (λ (s : Slot). IsHeld (block_at was) h (table_of view) 96 s st.tree v) (sym slot) (subst (λ (t : List Row). IsHeld (block_at was) h t 96 (plainly n) st.tree v) (sym table) has);
        }

    module _ (path : List (List ℕ)) (k : Moment) (result : Result Bool HamtFault) (tells : TellsFrom h 96 view path Presence m (told_as result) k) where
      gets_on_way : k.gets ≤ m.gets + met_on h rows (plainly n, v) path
      gets_on_way =
          let own = tells.gets st.tree v holds in
          let same : met (table_of view) (counts h (table_of view)) (slot_of view, v) path ≡ met rows (counts h rows) (plainly n, v) path = (λ i. met (table i) (counts h (table i)) (slot i, v) path) in
          omega (arith, own, same)

    held_fails : (path : List (List ℕ)) (k : Moment) (e : HamtFault) → IsAlone {A = Bool} (Err e) → TellsFrom h 96 view path Presence m (Err (hamt_fault e)) k → HeldAnswer h rows n (id_of b) v path m (Err e) k
    held_fails path k (F.Block id why) alone tells = absurd (tells.answer st.tree v holds)
    held_fails path k F.Store alone tells = tells.answer st.tree v holds
    held_fails path k F.Memory alone tells = tt
    held_fails path k F.Exhausted alone tells = absurd alone
    held_fails path k F.NoKey alone tells = absurd alone
    held_fails path k F.Size alone tells = absurd alone
    held_fails path k (F.Clash id kept new) alone tells = absurd alone

    pub held_none : (path : List (List ℕ)) (k : Moment) (e : HamtFault) → IsAlone {A = Bool} (Err e) → TellsFrom h 96 view path Presence m (Err (hamt_fault e)) k → ProvesHeld h rows n (id_of b) v path m (Err e) k
    held_none path k e alone tells = record { answer = held_fails path k e alone tells; gets = gets_on_way path k (Err e) tells }

    module _ (law : ProofsHold) (path : List (List ℕ)) (k : Moment) (there : Bool) (tells : TellsFrom h 96 view path Presence m (told_as (Ok there)) k) (old proof : List (List ℕ)) (begun : old ≡ b ∷ [])
        (adds : (f : Value) → IsView view f → AddsWay h (table_of view) 96 (slot_of view, f) path m old proof k) where
      one : Proves h rows n b path m proof k
      one = let f = front h rows (plainly n) v in proves h rows n b view table slot f root path m k old proof begun (adds f (stands f root))

      pub held_proof : ProvesHeld h rows n (id_of b) v path m (Ok proof) k
      held_proof =
          let p = one in
          let held = subst (λ o. IfTold o (AreHeld p.nodes)) told p.held in
          record {
            answer = record {
              answer = p.answer;
              is = answers law h rows schema was n b v st own path p.nodes held p.answer (subst (λ (xs : List (List ℕ)). BlocksSay h rows n (id_of b) path xs p.answer) p.is p.says);
              says = p.says;
            };
            gets = gets_on_way path k (Ok there) tells;
          }

-- at once
pub held_wanting : (h : List ℕ → List ℕ) (rows : List Row) (n : TypeNo) (id : List ℕ) (v : Value) (path : List (List ℕ)) (m : Moment) → ProvesHeld h rows n id v path m (Err F.Memory) m
held_wanting h rows n id v path m = record { answer = tt; gets = omega arith }
