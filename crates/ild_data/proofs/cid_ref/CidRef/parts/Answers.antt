use Rattle.ild_data.proofs.Cids.{parts_read, is_read}
use Rattle.ild_data.proofs.cid_ref.CidRef.parts.Goals as goal

pub unreachable-requires : goal.unreachable-requires
unreachable-requires c = is_read c.args.self.now.bytes.now c.in-Err.field-0 c.args.self.now.form c.in-Err.ensures

pub returns : goal.returns
returns c = parts_read c.args.self.now.bytes.now _ c.in-Ok.ensures
