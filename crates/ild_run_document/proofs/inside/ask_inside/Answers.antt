use Rattle.std.proofs.Common.{◌≡◌, ◌∙◌, refl, ap, sym, ℕ}
use Rattle.ild_script_meaning.specs.Ask.{asked_by}
use Rattle.ild_run_document.proofs.Batched.{asks_over}
use Rattle.ild_run_document.proofs.inside.ask_inside.Goals as goal

pub returns-in-Some : goal.returns-in-Some
returns-in-Some g c = λ b alike.
    rw c.told_inside.ensures (asks_over c.answers_inside.ensures c.carried_over_batch.ensures c.later_beneath.ensures c.args.doc.now c.ask-asked.new.doc b c.args.own.now c.new-batch.result.own.now c.own-1.given.0 c.ask-asked.new.store.own.now
    (asked_by c.args.line.now.verb c.args.line.now.path c.args.json.now) (g.K.Store.moment c.args.store.now) (g.K.Store.moment c.new-batch.result.store.now) (g.K.Store.moment c.store-1.given.0) (g.K.Store.moment c.ask-asked.new.store.store.now)
    c.in-Some.reply c.new-batch.result.gets c.new-batch.result.puts c.ask-asked.new.store.gets c.ask-asked.new.store.puts (c.new-batch.result.store.ghost_name, c.new-batch.result.own.ghost_name) (c.ask-asked.new.store.store.ghost_name, c.ask-asked.new.store.own.ghost_name)
    (ap g.K.Store.moment c.new-batch.ensures.same_store.1) c.new-batch.ensures.same_own.1 c.new-batch.ensures.counts.0 c.new-batch.ensures.counts.1
    (λ same. ap g.K.Store.moment (c.store-1.given.1 (sym (ap (λ (z : ℕ × ℕ). z.0) same ∙ c.new-batch.ensures.same_store.0))))
    (λ same. c.own-1.given.1 (sym (ap (λ (z : ℕ × ℕ). z.1) same ∙ c.new-batch.ensures.same_own.0)))
    c.in-Some.ensures.asks.0 c.own_fit.ensures alike c.in-Some.ensures.asks.1)

pub returns-in-None : goal.returns-in-None
returns-in-None g c = λ b.
    let e = c.in-None.ensures.unasked refl in
    let store : c.ask-asked.new.store.store.now ≡ c.new-batch.result.store.now = rw e refl in
    let store_name : c.ask-asked.new.store.store.ghost_name ≡ c.new-batch.result.store.ghost_name = rw e refl in
    let own : c.ask-asked.new.store.own.now ≡ c.new-batch.result.own.now = rw e refl in
    let own_name : c.ask-asked.new.store.own.ghost_name ≡ c.new-batch.result.own.ghost_name = rw e refl in (
      c.in-None.ensures.asks.0,
      c.in-None.ensures.asks.1,
      c.own-1.given.1 (sym (own_name ∙ c.new-batch.ensures.same_own.0)) ∙ own ∙ c.new-batch.ensures.same_own.1,
      ap g.K.Store.moment (c.store-1.given.1 (sym (store_name ∙ c.new-batch.ensures.same_store.0)) ∙ store ∙ c.new-batch.ensures.same_store.1),
    )
