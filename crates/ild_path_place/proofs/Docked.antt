-- The value of a root block that stands in a store.
use Rattle.std.proofs.Common.{◌≡◌, ℕ, List, true≢false, Some, Result, Ok, Err, sym, ◌∙◌, subst, arith}
use Rattle.std.specs.Prelude.{IfOk}
use Rattle.std.proofs.lemmas.Option.{same_Some}
use Rattle.ild_cbor.specs.Block.{IsBlockOf}
use Rattle.ild_data.specs.Data.{Data}
use Rattle.ild_data.specs.Spell.{id_of, spell}
use Rattle.ild_edges.specs.Store.{block_at}
use Rattle.ild_open_held.proofs.Roots.{standing_are_held}
use Rattle.ild_path_inward.specs.Levels.{CanGo}
use Rattle.ild_path_place.specs.Rooted.{IsRootedAt}
use Rattle.ild_path_place.specs.Tells.{root_at}
use Rattle.ild_path_place.specs.declared.fault.PathFault.{PathFault}
use Rattle.ild_path_place.specs.declared.place.Place.{Place}
use Rattle.ild_schema.specs.Clear.{IsSafe}
use Rattle.ild_schema.specs.declared.number.TypeNo.{TypeNo}
use Rattle.ild_schema.specs.declared.row.Row.{Row}
use Rattle.ild_schema.specs.Slots.{plainly}
use Rattle.ild_schema.specs.Value.{Value}
use Rattle.ild_typed.proofs.TreeValues.{whole_tree}
use Rattle.ild_typed.specs.Schema.{IsSchema}
use Rattle.ild_typed.specs.Stands.{Stands, bare}
use Rattle.ild_typed_fronts.proofs.Representing.{fronts_are_fronts}
use Rattle.ild_typed_fronts.specs.Front.{front}
use Rattle.ild_view.specs.View.{IsView, slot_of, table_of}
use Rattle.ild_view.specs.Whole.{IsWholeView}
use Rattle.ild_view.specs.declared.view.View.{View}
use Rattle.ild_view_doc.specs.Block.{IsRootBlock}

module _ (h : List ℕ → List ℕ) (rows : List Row) (schema : IsSchema rows) (was : List (List ℕ)) (n : TypeNo) (b : List ℕ) (v : Value) (st : Stands bare (block_at was) h rows n (id_of b) v) (own : block_at was (id_of b) ≡ Some b) where
  spelled : b ≡ spell st.tree
  spelled = same_Some b (spell st.tree) (sym own ∙ (standing_are_held (block_at was) h rows n (id_of b) v st).there)

  safe : IsSafe rows (plainly n)
  safe = λ e. absurd (true≢false (sym e))

  root : IsRootBlock rows n b (front h rows (plainly n) v)
  root =
      let has = (standing_are_held (block_at was) h rows n (id_of b) v st).held in
      let t = whole_tree h rows schema.table.texts.spelled 96 (plainly n) v st.tree has.fits has.tree in
      record {
        tree = st.tree;
        block = record { within = record { tree = t.tree; nested = t.nested; sized = st.storable.sized.0 }; spelled = spelled };
        front = fronts_are_fronts h rows schema 96 (plainly n) v st.tree safe has.fits has.tree;
      }

  pub can_go : (view : View) → table_of view ≡ rows → slot_of view ≡ plainly n → ((f : Value) → IsRootBlock rows n b f → IsView view f) → CanGo h rows was 96 (plainly n, v) st.tree view
  can_go view table slot stands = record {
    schema = schema;
    low = omega arith;
    held = (standing_are_held (block_at was) h rows n (id_of b) v st).held;
    stands = record { table = table; slot = slot; view = stands (front h rows (plainly n) v) root };
  }

  -- the place that has this root view
  pub rooted : (view : View) → CanGo h rows was 96 (plainly n, v) st.tree view → ((t : Data) → IsBlockOf b t → IsWholeView view t) → (r : Result Place PathFault) → IfOk r (λ place. root_at place ≡ view) → IfOk r (IsRootedAt h rows was (plainly n, v))
  unfolding root
  rooted view go whole (Ok place) is = record {
    tree = st.tree;
    goes = subst (CanGo h rows was 96 (plainly n, v) st.tree) (sym is) go;
    whole = subst (λ (w : View). IsWholeView w st.tree) (sym is) (whole st.tree root.block);
  }
  rooted view go whole (Err e) is = tt
