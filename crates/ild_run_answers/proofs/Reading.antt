-- A read of the value at which a document stands, as the answer to a line.
use Rattle.std.proofs.Common.{◌≡◌, ℕ, List, Some, refl, sym, ◌∙◌, subst}
use Rattle.std.proofs.Math.Logic.{∥∥₁_map}
use Rattle.std.proofs.lemmas.Option.{same_Some}
use Rattle.ild_cbor.specs.Block.{IsBlockOf}
use Rattle.ild_cbor.specs.declared.piece.Piece.{Piece}
use Rattle.ild_cbor.specs.declared.piece.Piece.TheVariants as P
use Rattle.ild_data.proofs.Options.{some_there}
use Rattle.ild_data.specs.Data.{Data}
use Rattle.ild_data.specs.Limits.{deepest}
use Rattle.ild_data.specs.Spell.{id_of}
use Rattle.ild_edges.specs.Store.{Moment, block_at}
use Rattle.ild_schema.specs.Slots.{plainly}
use Rattle.ild_schema.specs.Value.{Value}
use Rattle.ild_schema.specs.declared.number.Slot.{Slot}
use Rattle.ild_schema.specs.declared.row.Row.{Row}
use Rattle.ild_script.specs.declared.reply.No.TheVariants as N
use Rattle.ild_script.specs.declared.reply.Reply.{Reply}
use Rattle.ild_script.specs.declared.reply.Reply.TheVariants as R
use Rattle.ild_typed.specs.Schema.{IsSchema}
use Rattle.ild_typed.specs.TreeLaws.{ValuesAreTrees}
use Rattle.ild_path_edits.specs.Judged.{Tests}
use Rattle.ild_layer_piece.specs.Pieces.{StandsFor}
use Rattle.ild_open_held.specs.Held.{IsHeld}
use Rattle.ild_open_held.specs.Roots.{StandingAreHeld}
use Rattle.ild_open_parts.specs.Broken.{HasBrokenBlock}
use Rattle.ild_script_meaning.specs.Ask.{to_tell}
use Rattle.ild_typed.specs.Fits.{Front}
use Rattle.ild_view.specs.Body.{BodyStands}
use Rattle.ild_view.specs.View.{IsView, body_of, piece_in, slot_of, table_of}
use Rattle.ild_view.specs.Whole.{IsWholeView}
use Rattle.ild_view.specs.declared.body.Body.{Body}
use Rattle.ild_view.specs.declared.body.Body.TheVariants as B
use Rattle.ild_view.specs.declared.view.View.{View}
use Rattle.ild_view_doc.specs.Block.{IsRootBlock}
use Rattle.ild_view_doc.specs.Docs.{table_in, type_in, block_in}
use Rattle.ild_view_doc.specs.declared.doc.Doc.{Doc}
use Rattle.ild_run_follow.specs.Tells.{ViewIsHeld as IsAtView}
use Rattle.ild_run_follow.specs.declared.kind.Tell.{Tell}
use Rattle.ild_run_reads.specs.Laws.{ReadsAreReplies}
use Rattle.ild_run_reads.specs.Replies.{IsBlamed, IsOfRead, RepliesAs, asked}
use Rattle.ild_run_standing.specs.Answers.{AnswersAs}
use Rattle.ild_run_standing.specs.Blame.{IsBroken}
use Rattle.ild_run_standing.specs.Laws.{HeldAreStanding}
use Rattle.ild_run_standing.specs.Standing.{DocIsAt, IsHeldAt, setting_of}
use Rattle.ild_run_standing.proofs.Passing.{values_pass_on}

-- the body of the view of a whole block stands for its data
body_stands : (rows : List Row) (t : Data) (b : Body) (p : Piece) → StandsFor rows p t → piece_in b ≡ Some p → BodyStands rows b t
body_stands rows t (B.Held q) p stands is = subst (λ (x : Piece). StandsFor rows x t) (sym (same_Some q p is)) stands
body_stands rows t (B.Implicit s) p stands is = absurd cc

module _ (trees : ValuesAreTrees) (roots : StandingAreHeld) (standing : HeldAreStanding) (replies : ReadsAreReplies)
    (h : List ℕ → List ℕ) (d : Doc) (view : View) (schema : IsSchema (table_in d)) (table : table_of view ≡ table_in d) (slot : slot_of view ≡ plainly (type_in d))
    (whole : (t : Data) → IsBlockOf (block_in d) t → IsWholeView view t) where
  is_block : (m : Moment) (v : Value) (x : DocIsAt h d m v) → IsBlockOf (block_in d) x.tree
  is_block m v x =
      let fits = trees h (table_in d) schema deepest (plainly (type_in d)) v x.tree x.storable.fits x.storable.tree in
      record { within = record { tree = fits.tree; nested = fits.nested; sized = x.storable.sized.0 }; spelled = x.block }

  at_view : (tests : Tests) (m : Moment) (v : Value) → IsHeldAt h d tests m v → (t : Data) × IsAtView h view m t v
  at_view tests m v x =
      let told = some_there m.blocks x.at.told in
      let st = standing h d tests m told.0 v told.1 x in
      let rooted = roots (block_at told.0) h (table_in d) (type_in d) (id_of (block_in d)) v st in
      let one : st.tree ≡ x.at.tree = same_Some st.tree x.at.tree (sym st.storable.tree ∙ x.at.storable.tree) in
      let held : IsHeld (block_at told.0) h (table_in d) deepest (plainly (type_in d)) x.at.tree v = subst (λ (t : Data). IsHeld (block_at told.0) h (table_in d) deepest (plainly (type_in d)) t v) one rooted.held in
      let there = whole x.at.tree (is_block m v x.at) in (
        x.at.tree,
        record {
          held = told.0;
          told = told.1;
          stands = body_stands (table_of view) x.at.tree (body_of view) (P.Node there.node) there.root.stands there.piece;
          value = subst (λ (s : Slot). IsHeld (block_at told.0) h (table_of view) deepest s x.at.tree v) (sym slot)
              (subst (λ (rows : List Row). IsHeld (block_at told.0) h rows deepest (plainly (type_in d)) x.at.tree v) (sym table) held);
        },
      )

  -- a block that a read blames, over the document's block
  abbrev Blames : List ℕ → Moment → Reply → Moment → Type 0
  Blames at m reply n = reply ≡ R.No N.Block → (f : Value) (t : Data) → IsView view f → Front (table_of view) deepest (slot_of view) f t → IsBlamed h (table_of view) m.blocks m.lacks n.lacks (id_of at) (slot_of view) t

  front_here : (f : Value) (root : IsRootBlock (table_in d) (type_in d) (block_in d) f) → Front (table_of view) deepest (slot_of view) f root.tree
  front_here f root =
      subst (λ (s : Slot). Front (table_of view) deepest s f root.tree) (sym slot) (subst (λ (rows : List Row). Front rows deepest (plainly (type_in d)) f root.tree) (sym table) root.front)

  blamed_here : (front : (f : Value) → IsRootBlock (table_in d) (type_in d) (block_in d) f → IsView view f) (at : List ℕ) → at ≡ block_in d → (m n : Moment) (reply : Reply) → Blames at m reply n → reply ≡ R.No N.Block → IsBroken h d m.blocks m.lacks n.lacks
  blamed_here front at same m n reply blames is = ∥∥₁_map d.stands (λ r.
      let x = blames is r.value r.root.tree (front r.value r.root) (front_here r.value r.root) in
      record {
        front = r.value;
        root = r.root;
        id = x.id;
        why = x.why;
        broken = subst (λ (b : List ℕ). HasBrokenBlock h (table_in d) m.blocks m.lacks n.lacks (id_of b) deepest (plainly (type_in d)) r.root.tree x.id x.why) same
            (subst (λ (s : Slot). HasBrokenBlock h (table_in d) m.blocks m.lacks n.lacks (id_of at) deepest s r.root.tree x.id x.why) slot
            (subst (λ (rows : List Row). HasBrokenBlock h rows m.blocks m.lacks n.lacks (id_of at) deepest (slot_of view) r.root.tree x.id x.why) table x.broken));
      })

  pub read_answers : (front : (f : Value) → IsRootBlock (table_in d) (type_in d) (block_in d) f → IsView view f) (at : List ℕ) → at ≡ block_in d → (path : List (List ℕ)) (tell : Tell) (m n : Moment) (reply : Reply) → RepliesAs h view path tell m reply n → IsOfRead reply → Blames at m reply n
      → AnswersAs h d d (to_tell (asked tell) path) m (Some reply) n
  read_answers front at same path tell m n reply r own blames = record {
    later = r.only.later;
    table = refl;
    type = refl;
    kept = λ refusal is. refl;
    told = λ t p is. refl;
    rooted = λ id told. absurd (subst (λ (x : Reply). IsOfRead x) (same_Some reply (R.Root id) told) own);
    failed = λ is. r.failed (same_Some reply (R.No N.Store) is);
    blamed = λ is. blamed_here front at same m n reply blames (same_Some reply (R.No N.Block) is);
    clashed = λ is. absurd (subst (λ (x : Reply). IsOfRead x) (same_Some reply (R.No N.Clash) is) own);
    leads = λ tests v are x.
        let at = at_view tests m v x in record {
          next = v;
          at = record { told = λ none. x.at.told (sym r.only.blocks ∙ none); tree = x.at.tree; storable = x.at.storable; block = x.at.block };
          replies = replies h (setting_of h d tests) view path tell m n reply at.0 v (record { hash = refl; rows = sym table; slot = sym slot }) at.1 r;
          passed = values_pass_on (setting_of h d tests) m n v r.only.later;
        };
  }
