use Rattle.std.proofs.Common.{ap, refl, sym, true≢false, ◌∙◌}
use Rattle.ild_data.specs.CidView.{cid_bytes}
use Rattle.ild_run_links.proofs.Typing.{leads_nowhere, leads_there, link_shown, no_link}
use Rattle.ild_view.specs.View.{slot_of, table_of}
use Rattle.std.specs.Prelude.{length}
use Rattle.ild_run_links.proofs.linking.typed_link.Goals as goal

pub returns-in_default-link-clause-same : goal.returns-in_default-link-clause-same
returns-in_default-link-clause-same c = λ f x. sym (no_link (table_of c.args.view.now) (slot_of c.args.view.now) f (sym (c.in_default-link.ensures f x)))

pub returns-in-Some-block-clause-same : goal.returns-in-Some-block-clause-same
returns-in-Some-block-clause-same c = λ f x.
    let cid = cid_bytes c.in-Some-link.cid in
    let parts = c.in-Some-block.ensures.some.0 refl in
    sym (link_shown c.args.view.now f c.in-Some.target cid x c.in-Some.ensures.same (c.in-Some-link.ensures f x)
    ∙ leads_there c.in-Some.target cid c.in-Some-block.id.0 (ap length c.in-Some-block.ensures.id ∙ parts.2) c.in-Some-block.ensures.whole)

pub returns-in-None-clause-same : goal.returns-in-None-clause-same
returns-in-None-clause-same c = λ f x.
    let cid = cid_bytes c.in-Some-link.cid in
    sym (link_shown c.args.view.now f c.in-Some.target cid x c.in-Some.ensures.same (c.in-Some-link.ensures f x) ∙ leads_nowhere c.in-Some.target cid (λ id long is. true≢false (sym (c.in-None.ensures.only id long is))))
