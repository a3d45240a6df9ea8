use Rattle.std.proofs.Common.{refl}
use Rattle.ild_data.proofs.Cids.{is_cid_read, is_cid-IsCid}
use Rattle.ild_data.proofs.cid_ref.CidRef.read.Goals as goal

pub invariant_of-result : goal.invariant_of-result
invariant_of-result c = record { form = is_cid_read c.args.bytes.now _ c.in_ok-read_parts.ensures }

pub returns-clause-form : goal.returns-clause-form
returns-clause-form c = (λ _. is_cid-IsCid c.args.bytes.now (is_cid_read c.args.bytes.now _ c.in_ok-read_parts.ensures), λ _. refl)
