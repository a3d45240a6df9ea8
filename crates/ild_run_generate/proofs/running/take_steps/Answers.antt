use Rattle.std.proofs.Common.{◌≡◌, ◌+◌, ℕ, suc, refl, sym, ap, ◌∙◌, subst, arith}
use Rattle.ild_edges.proofs.Later.{Later-refl, Later-trans}
use Rattle.ild_edges.specs.Store.{Moment}
use Rattle.ild_generator.specs.Generated.{Generated, generated, advanced}
use Rattle.ild_generator.specs.Numbers.{next}
use Rattle.ild_run_generate.specs.Runs.{IsThrough}
use Rattle.ild_run_generate.proofs.Added.{adds_same, rose_later}
use Rattle.ild_run_generate.proofs.Begun.{blames_as}
use Rattle.ild_run_generate.proofs.Through.{next_number, stopped_in, through_more}
use Rattle.ild_view_doc.specs.Docs.{table_in, type_in}
use Rattle.ild_run_generate.proofs.running.take_steps.Goals as goal

pub loop-i-init : goal.loop-i-init
loop-i-init g c = record {
  later = Later-refl (g.K.Store.moment c.args.store.now);
  table = refl;
  type = refl;
  number = refl;
  some = omega arith;
  few = omega arith;
  told = λ tests are of held. record { counts = refl; held = held; adds = adds_same (g.K.Store.moment c.args.store.now) _ };
}

pub returns-in-Err : goal.returns-in-Err
returns-in-Err g c =
    let m : Moment = g.K.Store.moment c.args.store.now in
    let k : Moment = g.K.Store.moment c.loop-i.store in
    let n : Moment = g.K.Store.moment c.take_step.new.store in
    let inv = c.loop-i.invariant in
    let takes = c.in-Err.ensures.takes in
    let s : Generated = advanced (generated c.args.seed c.loop-i.i) in record {
      later = Later-trans m k n inv.later takes.later;
      table = takes.table ∙ inv.table;
      type = takes.type ∙ inv.type;
      failed = λ e. rose_later m k n inv.later (takes.failed (let f = e in cc));
      clashed = λ id e. takes.clashed id (let f = e in cc);
      blamed = λ id why e. blames_as (table_in c.loop-i.doc) (table_in c.args.doc.now) (type_in c.loop-i.doc) (type_in c.args.doc.now) m k n id.0 why inv.table inv.type inv.later (takes.blamed id why (let f = e in cc));
      told = λ tests are of held.
          let before = inv.told tests are of held in
          stopped_in tests c.args.seed c.loop-i.i m k n c.loop-i.doc c.take_step.new.doc c.loop-i.counts before c.args.count (omega arith) c.in-Err.fault
          (takes.told tests s are (record { table = inv.table ∙ of.table; type = inv.type ∙ of.type }) (c.entries_are_plain.ensures c.args.seed c.loop-i.i (omega arith)) (ap next (sym inv.number) ∙ sym c.next-x.ensures) (sym before.counts) before.held);
    }

pub loop-i-preserved : goal.loop-i-preserved
loop-i-preserved g c =
    let m : Moment = g.K.Store.moment c.args.store.now in
    let k : Moment = g.K.Store.moment c.loop-i.store in
    let n : Moment = g.K.Store.moment c.take_step.new.store in
    let inv = c.loop-i.invariant in
    let takes = c.in-Ok.ensures.takes in
    let few = c.in-Ok.ensures.few in
    let one : suc c.loop-i.i ≡ c.loop-i.i + 1 = omega arith in
    let s : Generated = advanced (generated c.args.seed c.loop-i.i) in record {
      later = Later-trans m k n inv.later takes.later;
      table = takes.table ∙ inv.table;
      type = takes.type ∙ inv.type;
      number = subst (λ (j : ℕ). c.next-x.result ≡ (generated c.args.seed j).number) one (c.next-x.ensures ∙ ap next inv.number ∙ sym (next_number c.args.seed c.loop-i.i));
      some = omega arith;
      few = omega (arith, few);
      told = λ tests are of held.
          let before = inv.told tests are of held in
          subst (λ (j : ℕ). IsThrough tests c.args.seed j m c.take_step.new.doc c.in-Ok.more n) one
          (through_more tests c.args.seed c.loop-i.i m k n c.loop-i.doc c.take_step.new.doc c.loop-i.counts before c.in-Ok.more
          (takes.told tests s are (record { table = inv.table ∙ of.table; type = inv.type ∙ of.type }) (c.entries_are_plain.ensures c.args.seed c.loop-i.i (omega arith)) (ap next (sym inv.number) ∙ sym c.next-x.ensures) (sym before.counts) before.held));
    }

pub returns : goal.returns
returns g c =
    let m : Moment = g.K.Store.moment c.args.store.now in
    let k : Moment = g.K.Store.moment c.loop-i.store in
    let inv = c.loop-i.invariant in
    let all : c.loop-i.i ≡ c.args.count = omega arith in record {
      later = inv.later;
      table = inv.table;
      type = inv.type;
      failed = λ e. absurd cc;
      clashed = λ id e. absurd cc;
      blamed = λ id why e. absurd cc;
      told = λ tests are of held. subst (λ (j : ℕ). IsThrough tests c.args.seed j m c.loop-i.doc c.loop-i.counts k) all (inv.told tests are of held);
    }
