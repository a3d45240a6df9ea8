use Rattle.std.proofs.Common.{None, Some}
use Rattle.ild_schema.specs.ValueSeen.{value_of}
use Rattle.ild_run_show.proofs.OneShown.{has_shown, is_opened}
use Rattle.ild_run_show.proofs.showing.show.Goals as goal

pub returns-in-Ok-shown_text : goal.returns-in-Ok-shown_text
returns-in-Ok-shown_text g c =
    let opened = c.in-Ok.ensures in
    let val = value_of c.in-Ok.opened.1 in
    record {
      answer = has_shown g.H.KeyHash.hash_of c.args.acc.now c.args.ty c.args.id.now.0 (g.K.Store.moment c.open_value.new.store) val (Some c.in-Ok-shown_text.text) (is_opened g.H.KeyHash.hash_of c.args.acc.now c.args.ty c.args.id.now.0 (g.K.Store.moment c.open_value.new.store) _ val opened.answer.value) c.in-Ok-shown_text.ensures.ok;
      reads = opened.only;
      gets = opened.gets;
    }

pub returns-in-Err-Reserved : goal.returns-in-Err-Reserved
returns-in-Err-Reserved g c =
    let opened = c.in-Ok.ensures in
    let val = value_of c.in-Ok.opened.1 in
    record {
      answer = has_shown g.H.KeyHash.hash_of c.args.acc.now c.args.ty c.args.id.now.0 (g.K.Store.moment c.open_value.new.store) val None (is_opened g.H.KeyHash.hash_of c.args.acc.now c.args.ty c.args.id.now.0 (g.K.Store.moment c.open_value.new.store) _ val opened.answer.value) (c.in-Err-Reserved.ensures.err c.in-Err-Reserved.field-0-is);
      reads = opened.only;
      gets = opened.gets;
    }
