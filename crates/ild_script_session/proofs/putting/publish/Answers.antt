use Rattle.std.proofs.Common.{arith}
use Rattle.ild_script_session.proofs.Came.{put_holds, put_adds, failed_adds}
use Rattle.ild_script_session.proofs.putting.publish.Goals as goal

pub returns-in-Ok-None : goal.returns-in-Ok-None
returns-in-Ok-None g c =
    let p = rw c.in-Ok-None.field-0-is at c.in-Ok-None.ensures in
    let m = g.K.Store.moment c.args.store.now in
    let n = g.K.Store.moment c.put.new.self in
    record {
      answer = (c.block_id-id.ensures, put_holds m c.args.block.now n p.answer);
      later = p.later;
      adds = put_adds m c.args.block.now n p.answer;
      gets = omega (arith, p.gets);
      puts = omega (arith, p.puts);
    }

pub returns-in-Err-Failed : goal.returns-in-Err-Failed
returns-in-Err-Failed g c =
    let p = rw c.in-Err-Failed.field-0-is at c.in-Err-Failed.ensures in
    let m = g.K.Store.moment c.args.store.now in
    let n = g.K.Store.moment c.put.new.self in
    record {
      answer = p.answer.0;
      later = p.later;
      adds = failed_adds m c.args.block.now n p.answer;
      gets = omega (arith, p.gets);
      puts = omega (arith, p.puts);
    }
