use Rattle.std.proofs.Common.{Err, refl, sym, subst, rules}
use Rattle.ild_cbor.proofs.Blocks.{block_again}
use Rattle.ild_cbor.specs.Block.{IsBlockOf}
use Rattle.ild_data.specs.Data.{link}
use Rattle.ild_data.specs.Spell.{cid_of, spell}
use Rattle.ild_run_links.proofs.Putting.{puts_err, puts_nothing, puts_ok}
use Rattle.ild_run_links.specs.declared.fault.TreeFault.{TreeFault}
use Rattle.ild_run_links.specs.inside.Faults.{AreClashBytes}
use Rattle.ild_run_links.specs.inside.Sets.{PutsLink}
use Rattle.ild_run_links.proofs.relinking.put_link.Goals as goal

pub known_root-item-requires : goal.known_root-item-requires
known_root-item-requires g c =
    let d = link (cid_of c.args.new.now.0) in
    block_again c.as_slice.result.now d (subst (λ b. IsBlockOf b d) (sym c.as_slice.ensures.same) c.in_ok-block.ensures.block)

pub returns-in_err-block : goal.returns-in_err-block
returns-in_err-block g c = puts_nothing g.H.KeyHash.hash_of c.args.place c.args.new.now.0 (g.K.Store.moment c.args.store.now) c.from_residual.result (search rules)

pub returns-in-Ok : goal.returns-in-Ok
returns-in-Ok g c =
    let d = link (cid_of c.args.new.now.0) in
    let is : IsBlockOf (spell d) d = record { within = c.in_ok-block.ensures.block.within; spelled = refl } in
    let root = c.known_root-item.ensures d (subst (λ b. IsBlockOf b d) (sym c.as_slice.ensures.same) c.in_ok-block.ensures.block) in
    puts_ok g.H.KeyHash.hash_of c.args.place c.args.new.now.0 is c.in_ok-block.ensures.long c.known_root-item.result root.stands (g.K.Store.moment c.args.store.now) (g.K.Store.moment c.replace.new.store) c.in-Ok.root c.id.result c.id.ensures
    c.in-Ok.ensures.brings c.in-Ok.ensures.spares

pub returns : goal.returns
returns g c =
    let d = link (cid_of c.args.new.now.0) in
    let m = g.K.Store.moment c.args.store.now in
    let k = g.K.Store.moment c.replace.new.store in
    let is : IsBlockOf (spell d) d = record { within = c.in_ok-block.ensures.block.within; spelled = refl } in
    let root = c.known_root-item.ensures d (subst (λ b. IsBlockOf b d) (sym c.as_slice.ensures.same) c.in_ok-block.ensures.block) in
    subst (λ (e : TreeFault). PutsLink g.H.KeyHash.hash_of c.args.place c.args.new.now.0 m (Err e) k) (sym c.of_edit.ensures.same)
    (puts_err g.H.KeyHash.hash_of c.args.place c.args.new.now.0 is c.in_ok-block.ensures.long c.known_root-item.result root.stands m k c.in-Err.fault c.in-Err.ensures.brings c.in-Err.ensures.spares
    (subst AreClashBytes c.of_edit.ensures.same c.of_edit.ensures.bytes))
