use Rattle.std.proofs.Common.{◌≡◌, ◌+◌, ◌-◌, ◌<◌, List, ℕ, [], length, take, drop, Ok, Err, ap, sym, subst, ◌∙◌, arith}
use Rattle.std.proofs.lemmas.List.{take_rest}
use Rattle.ild_links.specs.Stops.{IsPlaced}
use Rattle.ild_links.specs.declared.hop.Stop.{Stop}
use Rattle.ild_path_enter.proofs.Failing.{fails_read}
use Rattle.ild_path_inward.specs.Inwards.{GoesInward}
use Rattle.ild_path_inward.specs.Levels.{CanGo}
use Rattle.ild_path_inward.specs.declared.inward.Inward.{Inward}
use Rattle.ild_path_place.proofs.Docked.{can_go}
use Rattle.ild_run_links.proofs.Ending.{ends_err, ends_ok, fails_as, many_left}
use Rattle.ild_run_links.specs.inside.Ends.{FailsOnly, StopsThere}
use Rattle.ild_schema.specs.Slots.{plainly}
use Rattle.ild_schema.specs.declared.row.Row.{Row}
use Rattle.ild_typed.specs.At.{InSlot}
use Rattle.ild_typed.specs.Schema.{IsSchema}
use Rattle.ild_view_doc.specs.Docs.{block_in, table_in, type_in}
use Rattle.ild_run_links.proofs.stopping.stop_in.Goals as goal

pub returns-in-Ok : goal.returns-in-Ok
returns-in-Ok g c =
    let h = g.H.KeyHash.hash_of in
    let doc = c.args.doc.now in
    let rows = table_in doc in
    let m = g.K.Store.moment c.args.store.now in
    let k = g.K.Store.moment c.go_inward.new.store in
    let segs = c.as_slice-segments.result.now in
    let root = c.view-root.result in
    let rest = take (length segs - c.args.from) (drop c.args.from segs) in
    let rest_is : rest ≡ drop c.args.from c.args.path.now = take_rest segs c.args.from ∙ ap (drop c.args.from) c.as_slice-segments.ensures in
    let within : c.args.from < length segs = omega arith in
    let many : length c.args.path.now ≡ c.args.from + length rest = sym (ap length c.as_slice-segments.ensures) ∙ many_left segs c.args.from within in
    record {
      reads = c.go_inward.ensures.reads;
      failed = tt;
      placed = subst (λ (r : List Row). IsPlaced (length r) c.args.path.now c.args.from c.stop_inward.result.0 c.stop_inward.result.1) c.view-root.ensures.table (c.stop_inward.ensures.placed c.args.path.now many);
      told = λ was v told own st.
          let p : InSlot = (plainly (type_in doc), v) in
          let schema = subst IsSchema c.schema.ensures (record { table = c.recall.ensures.table; accepted = c.recall.ensures.accepted }) in
          let go = can_go h rows schema was (type_in doc) (block_in doc) v st own root c.view-root.ensures.table c.view-root.ensures.slot c.view-root.ensures.front in
          let same = c.schema-2.ensures in
          let goes = subst (λ (r : List Row). GoesInward h r was 96 p [] p rest m (Ok c.in-Ok.inward) k) same (c.in-Ok.ensures.told was p st.tree told (subst (λ (r : List Row). CanGo h r was 96 p st.tree root) (sym same) go)) in
          subst (λ (xs : List (List ℕ)). StopsThere h rows p xs c.args.from m (Ok c.stop_inward.result) k) rest_is
          (ends_ok h rows was p st.tree root go rest c.args.from m k c.in-Ok.inward goes c.view-root.ensures.table c.stop_inward.result.0 c.stop_inward.result.1 c.stop_inward.ensures);
    }

pub of_hamt-requires : goal.of_hamt-requires
of_hamt-requires g c = fails_read Inward (g.K.Store.moment c.args.store.now) (g.K.Store.moment c.go_inward.new.store) c.in-Err.fault c.in-Err.ensures.failed

pub returns-in-Err : goal.returns-in-Err
returns-in-Err g c =
    let h = g.H.KeyHash.hash_of in
    let doc = c.args.doc.now in
    let rows = table_in doc in
    let m = g.K.Store.moment c.args.store.now in
    let k = g.K.Store.moment c.go_inward.new.store in
    let segs = c.as_slice-segments.result.now in
    let root = c.view-root.result in
    let rest = take (length segs - c.args.from) (drop c.args.from segs) in
    let rest_is : rest ≡ drop c.args.from c.args.path.now = take_rest segs c.args.from ∙ ap (drop c.args.from) c.as_slice-segments.ensures in
    record {
      reads = c.go_inward.ensures.reads;
      failed = subst (λ e. FailsOnly {A = Stop × ℕ} m (Err e) k) (sym c.of_hamt.ensures) (fails_as (Stop × ℕ) m k c.in-Err.fault c.in-Err.ensures.failed);
      placed = tt;
      told = λ was v told own st.
          let p : InSlot = (plainly (type_in doc), v) in
          let schema = subst IsSchema c.schema.ensures (record { table = c.recall.ensures.table; accepted = c.recall.ensures.accepted }) in
          let go = can_go h rows schema was (type_in doc) (block_in doc) v st own root c.view-root.ensures.table c.view-root.ensures.slot c.view-root.ensures.front in
          let same = c.schema-2.ensures in
          let goes = subst (λ (r : List Row). GoesInward h r was 96 p [] p rest m (Err c.in-Err.fault) k) same (c.in-Err.ensures.told was p st.tree told (subst (λ (r : List Row). CanGo h r was 96 p st.tree root) (sym same) go)) in
          subst (λ (xs : List (List ℕ)). StopsThere h rows p xs c.args.from m (Err c.of_hamt.result) k) rest_is
          (subst (λ e. StopsThere h rows p rest c.args.from m (Err e) k) (sym c.of_hamt.ensures) (ends_err h rows was p st.tree root go rest c.args.from m k c.in-Err.fault goes));
    }
