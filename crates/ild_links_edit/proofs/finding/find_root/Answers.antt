use Rattle.ild_run_links.proofs.Setting.{no_block, no_shape, one_get, reads_of}
use Rattle.std.specs.Prelude.{Ok, Some}
use Rattle.ild_links_edit.proofs.finding.find_root.Goals as goal

pub returns-in-Err-Cbor : goal.returns-in-Err-Cbor
returns-in-Err-Cbor g c =
    let m = g.K.Store.moment c.args.store.now in
    let n = g.K.Store.moment c.get.new.self in
    let got = rw c.in-Ok-Some.field-0-is at c.in-Ok-Some.ensures in
    let reads = reads_of m n c.args.id.now.0 (Ok (Some c.in-Ok-Some.block)) got in
    let few = one_get m n c.args.id.now.0 (Ok (Some c.in-Ok-Some.block)) got in
    record {
      answer = no_block c.args.acc.now (record { table = c.recall.ensures.table; accepted = c.recall.ensures.accepted }) c.recall.ensures.legible c.args.ty c.args.id.now m n reads few c.in-Ok-Some.block
          (record { named = got.answer.0; held = got.answer.1 }) _ (rw c.in-Err-Cbor.field-0-is at c.in-Err-Cbor.ensures);
      reads = reads;
      gets = few;
    }

pub returns-in-Err-Shape : goal.returns-in-Err-Shape
returns-in-Err-Shape g c =
    let m = g.K.Store.moment c.args.store.now in
    let n = g.K.Store.moment c.get.new.self in
    let got = rw c.in-Ok-Some.field-0-is at c.in-Ok-Some.ensures in
    let reads = reads_of m n c.args.id.now.0 (Ok (Some c.in-Ok-Some.block)) got in
    let few = one_get m n c.args.id.now.0 (Ok (Some c.in-Ok-Some.block)) got in
    record {
      answer = no_shape c.args.acc.now (record { table = c.recall.ensures.table; accepted = c.recall.ensures.accepted }) c.recall.ensures.legible c.args.ty c.args.id.now m n reads few c.in-Ok-Some.block
          (record { named = got.answer.0; held = got.answer.1 }) _ (rw c.in-Err-Shape.field-0-is at c.in-Err-Shape.ensures);
      reads = reads;
      gets = few;
    }
