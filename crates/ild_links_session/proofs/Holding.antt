-- What a store holds over which a session is ready.
use Rattle.std.proofs.Common.{◌≡◌, ◌≢◌, ℕ, List, ◌++◌, true, Option, Some, None, refl, sym, ap, ◌∙◌, subst}
use Rattle.std.proofs.Math.Logic.{∥∥₁_elim, ∥∥₁_map}
use Rattle.std.proofs.Props.{props}
use Rattle.std.proofs.lemmas.Option.{same_Some}
use Rattle.std.specs.Prelude.{is_some, option_map}
use Rattle.ild_data.specs.Spell.{id_of, spell}
use Rattle.ild_dirty.specs.Batch.{batch_moment}
use Rattle.ild_edges.specs.Store.{Moment, block_at}
use Rattle.ild_links_session.specs.Ready.{HasStage, IsReady}
use Rattle.ild_path_edits.specs.Judged.{Tests}
use Rattle.ild_run_document.specs.Document.{begun_in, doc_in, own_in}
use Rattle.ild_run_document.specs.declared.document.Document.{Document}
use Rattle.ild_run_links.specs.Moments.{HasStanding, HoldsBlock, HoldsValue}
use Rattle.ild_run_standing.proofs.Held.{held_are_standing}
use Rattle.ild_run_standing.specs.Standing.{IsHeldAt, IsInBatch, IsOutside, StandsSo, setting_of}
use Rattle.ild_schema.specs.Value.{Value}
use Rattle.ild_script_batch.proofs.Inside.{told_over}
use Rattle.ild_script_batch.specs.Inside.{CarriedOverBatch}
use Rattle.ild_script_session.specs.Session.{Stage}
use Rattle.ild_typed.specs.Stands.{Stands, bare}
use Rattle.ild_view_doc.specs.Docs.{block_in, table_in, type_in}
use Rattle.ild_view_doc.specs.declared.doc.Doc.{Doc}

-- ---- a document that stands at a value which is held

module _ (d : Doc) (tests : Tests) (m : Moment) (v : Value) (x : IsHeldAt id_of d tests m v) where
  block_held : HoldsBlock d m
  block_held held told =
      let s : Stands bare (block_at held) id_of (table_in d) (type_in d) (id_of (block_in d)) v = held_are_standing id_of d tests m held v told x in
      let tree : x.at.tree ≡ s.tree = same_Some x.at.tree s.tree (sym x.at.storable.tree ∙ s.storable.tree) in
      let block : block_in d ≡ spell s.tree = x.at.block ∙ ap spell tree in
      ap (λ b. block_at held (id_of b)) block ∙ s.all.0 ∙ ap Some (sym block)

  standing : (held : List (List ℕ)) → m.blocks ≡ Some held → HasStanding id_of d held
  standing held told = record { value = v; stands = held_are_standing id_of d tests m held v told x }

-- a store and a batch together, as the batch shows them
pub over_batch : CarriedOverBatch → (d b : Doc) (was : List (List ℕ)) (tests : Tests) (m : Moment) (s : Stage Value) (x : ℕ × ℕ) (z : IsInBatch id_of d b was tests m s) → IsHeldAt id_of d tests (batch_moment m was 0 0 x) z.value
over_batch over d b was tests m s x z = record {
  at = record { told = told_over was m.blocks z.at.told; tree = z.at.tree; storable = z.at.storable; block = z.at.block };
  carries = over (setting_of id_of d tests) m z.value z.kept z.owed was 0 0 x z.carries;
}

some_told : (o : Option (List (List ℕ))) (held : List (List ℕ)) → o ≡ Some held → o ≢ None
some_told o held e none = let x : None ≡ Some held = sym none ∙ e in absurd cc

told_under : (was : List (List ℕ)) (o : Option (List (List ℕ))) (held : List (List ℕ)) → option_map (λ bs. was ++ bs) o ≡ Some held → o ≢ None
told_under was None held e none = let x : None ≡ Some held = e in absurd cc
told_under was (Some bs) held e none = absurd cc

-- ---- outside a batch

module _ (d : Document) (m : Moment) (out : begun_in d ≡ None) (ready : IsReady d m) where
  outside : HasStage d m → (v : Value) × (tests : Tests) × IsHeldAt id_of (doc_in d) tests m v
  outside x =
      let o : IsOutside id_of (doc_in d) x.tests m x.stage = subst (λ b. StandsSo id_of (doc_in d) b (own_in d) x.tests m x.stage) out x.stands in
      (o.value, x.tests, o.held)

  pub block_outside : HoldsBlock (doc_in d) m
  block_outside held told = ∥∥₁_elim (ready (some_told m.blocks held told)) (hlevel props) (λ x. let o = outside x in block_held (doc_in d) o.1 m o.0 o.2 held told)

  pub value_outside : HoldsValue id_of (doc_in d) m
  value_outside held told = ∥∥₁_map (ready (some_told m.blocks held told)) (λ x. let o = outside x in standing (doc_in d) o.1 m o.0 o.2 held told)

-- ---- inside one

module _ (over : CarriedOverBatch) (d : Document) (m : Moment) (b : Doc) (names : ℕ × ℕ) (opened : begun_in d ≡ Some b) (ready : IsReady d m) where
  inside : HasStage d m → (v : Value) × (tests : Tests) × IsHeldAt id_of (doc_in d) tests (batch_moment m (own_in d) 0 0 names) v
  inside x =
      let z : IsInBatch id_of (doc_in d) b (own_in d) x.tests m x.stage = subst (λ o. StandsSo id_of (doc_in d) o (own_in d) x.tests m x.stage) opened x.stands in
      (z.value, x.tests, over_batch over (doc_in d) b (own_in d) x.tests m x.stage names z)

  pub block_inside : HoldsBlock (doc_in d) (batch_moment m (own_in d) 0 0 names)
  block_inside held told =
      ∥∥₁_elim (ready (told_under (own_in d) m.blocks held told)) (hlevel props) (λ x. let o = inside x in block_held (doc_in d) o.1 (batch_moment m (own_in d) 0 0 names) o.0 o.2 held told)

  pub value_inside : HoldsValue id_of (doc_in d) (batch_moment m (own_in d) 0 0 names)
  value_inside held told =
      ∥∥₁_map (ready (told_under (own_in d) m.blocks held told)) (λ x. let o = inside x in standing (doc_in d) o.1 (batch_moment m (own_in d) 0 0 names) o.0 o.2 held told)

pub begun_some : (o : Option Doc) → is_some o ≡ true → (b : Doc) × (o ≡ Some b)
begun_some None e = absurd cc
begun_some (Some b) e = (b, refl)

-- what a batch holds, by the store beneath it and its own blocks
pub block_over : (d : Doc) (m k : Moment) (was own : List (List ℕ)) (g p : ℕ) (x y : ℕ × ℕ) → k ≡ m → own ≡ was → HoldsBlock d (batch_moment m was 0 0 x) → HoldsBlock d (batch_moment k own g p y)
block_over d m k was own g p x y store blocks holds held told = holds held (sym (ap (λ (z : Moment). option_map (λ bs. was ++ bs) z.blocks) store) ∙ sym (ap (λ (z : List (List ℕ)). option_map (λ bs. z ++ bs) k.blocks) blocks) ∙ told)

pub value_over : (d : Doc) (m k : Moment) (was own : List (List ℕ)) (g p : ℕ) (x y : ℕ × ℕ) → k ≡ m → own ≡ was → HoldsValue id_of d (batch_moment m was 0 0 x) → HoldsValue id_of d (batch_moment k own g p y)
value_over d m k was own g p x y store blocks holds held told = holds held (sym (ap (λ (z : Moment). option_map (λ bs. was ++ bs) z.blocks) store) ∙ sym (ap (λ (z : List (List ℕ)). option_map (λ bs. z ++ bs) k.blocks) blocks) ∙ told)
