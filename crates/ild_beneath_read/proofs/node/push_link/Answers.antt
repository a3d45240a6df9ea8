use Rattle.std.proofs.Common.{length, refl, ap, ◌∙◌}
use Rattle.ild_data.specs.CidView.{cid_bytes}
use Rattle.ild_beneath_read.proofs.Appending.{block_told, no_block}
use Rattle.ild_beneath_read.proofs.node.push_link.Goals as goal

pub returns-in_ok-push-in-Some : goal.returns-in_ok-push-in-Some
returns-in_ok-push-in-Some c = λ f.
    block_told f c.args.kind (cid_bytes c.args.cid.now) (record { id = c.in-Some.id; kind = c.args.kind }) c.args.out.now.items c.push.new.self.items c.in_ok-push-in-Some.ensures.items refl c.in-Some.ensures.whole
    (ap length c.in-Some.ensures.id ∙ (c.in-Some.ensures.some.0 refl).2)

pub returns-in-None : goal.returns-in-None
returns-in-None c = λ f. no_block f c.args.kind (cid_bytes c.args.cid.now) c.args.out.now.items c.in-None.ensures.only
