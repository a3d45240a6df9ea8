use Rattle.std.proofs.Common.{◌≡◌, sym, subst, rules}
use Rattle.ild_cbor.specs.Block.{IsBlockOf}
use Rattle.ild_data.specs.Data.{link}
use Rattle.ild_data.specs.Spell.{cid_of, spell}
use Rattle.ild_run_links.proofs.Putting.{link_block}
use Rattle.ild_run_links.proofs.relinking.link_block.Goals as goal

pub returns-clause-block : goal.returns-clause-block
returns-clause-block c =
    let id = c.args.id.now.0 in
    let same : c.finish.result ≡ spell (link (cid_of id)) = search rules in
    subst (λ b. IsBlockOf b (link (cid_of id))) (sym same) (link_block id (search rules) c.are_bytes.ensures)
