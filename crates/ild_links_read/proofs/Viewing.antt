-- A read of the value at which a document stands.
use Rattle.std.proofs.Common.{◌≡◌, ℕ, List, Some, refl, sym, ◌∙◌, subst, arith}
use Rattle.std.proofs.lemmas.Option.{same_Some}
use Rattle.ild_cbor.specs.Block.{IsBlockOf}
use Rattle.ild_cbor.specs.declared.piece.Piece.{Piece}
use Rattle.ild_cbor.specs.declared.piece.Piece.TheVariants as P
use Rattle.ild_data.proofs.Options.{some_there}
use Rattle.ild_data.specs.Data.{Data}
use Rattle.ild_data.specs.Limits.{deepest}
use Rattle.ild_data.specs.Spell.{id_of}
use Rattle.ild_edges.specs.Store.{Moment, block_at}
use Rattle.ild_schema.specs.Slots.{plainly}
use Rattle.ild_schema.specs.Value.{Value}
use Rattle.ild_schema.specs.declared.number.Slot.{Slot}
use Rattle.ild_schema.specs.declared.row.Row.{Row}
use Rattle.ild_script.specs.declared.reply.Reply.{Reply}
use Rattle.ild_typed.specs.Schema.{IsSchema}
use Rattle.ild_typed.specs.TreeLaws.{ValuesAreTrees}
use Rattle.ild_path_edits.specs.Judged.{Tests}
use Rattle.ild_layer_piece.specs.Pieces.{StandsFor}
use Rattle.ild_open_held.specs.Held.{IsHeld}
use Rattle.ild_open_held.specs.Roots.{StandingAreHeld}
use Rattle.ild_view.specs.Body.{BodyStands}
use Rattle.ild_view.specs.View.{body_of, piece_in, slot_of, table_of}
use Rattle.ild_view.specs.Whole.{IsWholeView}
use Rattle.ild_view.specs.declared.body.Body.{Body}
use Rattle.ild_view.specs.declared.body.Body.TheVariants as B
use Rattle.ild_view.specs.declared.view.View.{View}
use Rattle.ild_view_doc.specs.Docs.{table_in, type_in, block_in}
use Rattle.ild_view_doc.specs.declared.doc.Doc.{Doc}
use Rattle.ild_run_follow.specs.Tells.{ViewIsHeld as IsAtView}
use Rattle.ild_run_follow.specs.declared.kind.Tell.{Tell}
use Rattle.ild_links_read.specs.Reads.{Tells}
use Rattle.ild_run_reads.specs.Replies.{IsAbout, IsOfRead, RepliesAs, asked}
use Rattle.ild_run_standing.specs.Laws.{HeldAreStanding}
use Rattle.ild_run_standing.specs.Standing.{DocIsAt, IsHeldAt, setting_of}

-- the body of the view of a whole block stands for its data
body_stands : (rows : List Row) (t : Data) (b : Body) (p : Piece) → StandsFor rows p t → piece_in b ≡ Some p → BodyStands rows b t
body_stands rows t (B.Held q) p stands is = subst (λ (x : Piece). StandsFor rows x t) (sym (same_Some q p is)) stands
body_stands rows t (B.Implicit s) p stands is = absurd cc

module _ (trees : ValuesAreTrees) (roots : StandingAreHeld) (standing : HeldAreStanding)
    (h : List ℕ → List ℕ) (d : Doc) (view : View) (schema : IsSchema (table_in d)) (table : table_of view ≡ table_in d) (slot : slot_of view ≡ plainly (type_in d))
    (whole : (t : Data) → IsBlockOf (block_in d) t → IsWholeView view t) where
  is_block : (m : Moment) (v : Value) (x : DocIsAt h d m v) → IsBlockOf (block_in d) x.tree
  is_block m v x =
      let fits = trees h (table_in d) schema deepest (plainly (type_in d)) v x.tree x.storable.fits x.storable.tree in
      record { within = record { tree = fits.tree; nested = fits.nested; sized = x.storable.sized.0 }; spelled = x.block }

  at_view : (tests : Tests) (m : Moment) (v : Value) → IsHeldAt h d tests m v → (t : Data) × IsAtView h view m t v
  at_view tests m v x =
      let told = some_there m.blocks x.at.told in
      let st = standing h d tests m told.0 v told.1 x in
      let rooted = roots (block_at told.0) h (table_in d) (type_in d) (id_of (block_in d)) v st in
      let one : st.tree ≡ x.at.tree = same_Some st.tree x.at.tree (sym st.storable.tree ∙ x.at.storable.tree) in
      let held : IsHeld (block_at told.0) h (table_in d) deepest (plainly (type_in d)) x.at.tree v = subst (λ (t : Data). IsHeld (block_at told.0) h (table_in d) deepest (plainly (type_in d)) t v) one rooted.held in
      let there = whole x.at.tree (is_block m v x.at) in (
        x.at.tree,
        record {
          held = told.0;
          told = told.1;
          stands = body_stands (table_of view) x.at.tree (body_of view) (P.Node there.node) there.root.stands there.piece;
          value = subst (λ (s : Slot). IsHeld (block_at told.0) h (table_of view) deepest s x.at.tree v) (sym slot)
              (subst (λ (rows : List Row). IsHeld (block_at told.0) h rows deepest (plainly (type_in d)) x.at.tree v) (sym table) held);
        },
      )

  pub tells : (path : List (List ℕ)) (tell : Tell) (m n : Moment) (reply : Reply) → RepliesAs h view path tell m reply n → IsOfRead reply → Tells h d path (asked tell) m reply n
  tells path tell m n reply r own = record {
    only = r.only;
    own = own;
    failed = r.failed;
    told = λ tests v x.
        let at = at_view tests m v x in
        let about : IsAbout h (setting_of h d tests) view = record { hash = refl; rows = sym table; slot = sym slot } in
        let few = r.gets (setting_of h d tests) at.0 v about at.1 in record {
          answer = r.answer (setting_of h d tests) at.0 v about at.1;
          gets = omega (arith, few);
        };
  }
