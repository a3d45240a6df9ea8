use Rattle.std.proofs.Common.{sym, subst}
use Rattle.std.specs.Prelude.{Err}
use Rattle.ild_open_named.specs.Opened.{HasNamedValue}
use Rattle.ild_run_named.specs.inside.Steps.{ValueShows}
use Rattle.ild_run_show.specs.declared.fault.ShowFault.{ShowFault}
use Rattle.ild_run_named.proofs.Stepping.{value_reserved, value_shows, value_stops, value_wanting}
use Rattle.ild_run_named.proofs.showing.show_value.Goals as goal

pub returns-in-Err : goal.returns-in-Err
returns-in-Err g c =
    let h = g.H.KeyHash.hash_of in
    let m = g.K.Store.moment c.args.store.now in
    let n = g.K.Store.moment c.open_named.new.store in
    subst (λ (e : ShowFault). ValueShows h c.args.acc.now c.args.ty c.args.id.now.0 m (Err e) n) (sym c.open_fault.ensures)
    (value_stops h c.args.acc.now c.args.ty c.args.id.now.0 m n (HasNamedValue h c.args.acc.now c.args.ty c.args.id.now.0 n) c.in-Err.fault c.in-Err.ensures)

pub returns-in-Ok-shown_text : goal.returns-in-Ok-shown_text
returns-in-Ok-shown_text g c =
    value_shows g.H.KeyHash.hash_of c.args.acc.now c.args.ty c.args.id.now.0 (g.K.Store.moment c.args.store.now) (g.K.Store.moment c.open_named.new.store) c.in-Ok.opened c.in-Ok.ensures c.in-Ok-shown_text.text
    c.in-Ok-shown_text.ensures.ok

pub returns-in-Err-Reserved : goal.returns-in-Err-Reserved
returns-in-Err-Reserved g c =
    value_reserved g.H.KeyHash.hash_of c.args.acc.now c.args.ty c.args.id.now.0 (g.K.Store.moment c.args.store.now) (g.K.Store.moment c.open_named.new.store) c.in-Ok.opened c.in-Ok.ensures
    (c.in-Err-Reserved.ensures.err c.in-Err-Reserved.field-0-is)

pub returns : goal.returns
returns g c =
    value_wanting g.H.KeyHash.hash_of c.args.acc.now c.args.ty c.args.id.now.0 (g.K.Store.moment c.args.store.now) (g.K.Store.moment c.open_named.new.store) c.in-Ok.opened c.in-Ok.ensures
