use Rattle.ild_data.proofs.Cids.{is_cid-IsCid}
use Rattle.ild_data.proofs.cid_ref.CidRef.whole.Goals as goal

pub returns-clause-form : goal.returns-clause-form
returns-clause-form c = is_cid-IsCid c.args.self.now.bytes.now c.args.self.now.form
