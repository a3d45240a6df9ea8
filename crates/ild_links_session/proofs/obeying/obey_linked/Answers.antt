use Rattle.std.proofs.Common.{◌∙◌, None, Some, sym}
use Rattle.ild_links_session.proofs.Firsts.{along_path}
use Rattle.ild_links_session.proofs.Lining.{ready_then}
use Rattle.ild_links_session.proofs.Turned.{ends_there, looks_there}
use Rattle.ild_links_session.proofs.obeying.obey_linked.Goals as goal
use Rattle.ild_script_meaning.specs.Ask.{asked_by}

pub returns-then-not-looks_on : goal.returns-then-not-looks_on
returns-then-not-looks_on g c =
    ends_there c.args.inner.now c.obey-first.new.self (asked_by c.args.line.now.verb c.args.line.now.path c.args.json.now) (g.K.Store.moment c.args.store.now) c.obey-first.result (g.K.Store.moment c.obey-first.new.store) c.obey-first.ensures
    (sym (c.looks_on.ensures c.args.line.now.path c.args.json.now) ∙ c.if-not-looks_on.true)

pub look_behind-requires : goal.look_behind-requires
look_behind-requires g c =
    record { ready = ready_then c.args.inner.now c.obey-first.new.self (asked_by c.args.line.now.verb c.args.line.now.path c.args.json.now) (g.K.Store.moment c.args.store.now) (Some c.obey-first.result) (g.K.Store.moment c.obey-first.new.store) c.obey-first.ensures c.requires }

pub returns-in-Some : goal.returns-in-Some
returns-in-Some g c =
    let looks = sym (c.looks_on.ensures c.args.line.now.path c.args.json.now) ∙ c.if-not-looks_on.false in
    let path = along_path (asked_by c.args.line.now.verb c.args.line.now.path c.args.json.now) c.obey-first.result looks in
    looks_there c.args.inner.now c.obey-first.new.self c.look_behind.new.inner (asked_by c.args.line.now.verb c.args.line.now.path c.args.json.now) path.0 (g.K.Store.moment c.args.store.now) (g.K.Store.moment c.obey-first.new.store)
    (g.K.Store.moment c.look_behind.new.store) c.obey-first.result (Some c.in-Some.reply) path.1 looks c.obey-first.ensures (rw c.in-Some.is at c.look_behind.ensures path.0 path.1)

pub returns-in-None : goal.returns-in-None
returns-in-None g c =
    let looks = sym (c.looks_on.ensures c.args.line.now.path c.args.json.now) ∙ c.if-not-looks_on.false in
    let path = along_path (asked_by c.args.line.now.verb c.args.line.now.path c.args.json.now) c.obey-first.result looks in
    looks_there c.args.inner.now c.obey-first.new.self c.look_behind.new.inner (asked_by c.args.line.now.verb c.args.line.now.path c.args.json.now) path.0 (g.K.Store.moment c.args.store.now) (g.K.Store.moment c.obey-first.new.store)
    (g.K.Store.moment c.look_behind.new.store) c.obey-first.result None path.1 looks c.obey-first.ensures (rw c.in-None.is at c.look_behind.ensures path.0 path.1)
