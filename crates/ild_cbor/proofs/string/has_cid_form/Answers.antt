use Rattle.std.proofs.Common.{sym, ◌∙◌}
use Rattle.std.specs.Cmp.{both_ways}
use Rattle.ild_data.proofs.Cids.{is_cid-IsCid, IsCid-is_cid}
use Rattle.ild_cbor.proofs.string.has_cid_form.Goals as goal

pub returns : goal.returns
returns c = both_ways _ _ (λ e. IsCid-is_cid c.args.bytes.now (c.read.ensures.form.0 (sym c.is_ok.ensures.value ∙ e))) (λ e. c.is_ok.ensures.value ∙ c.read.ensures.form.1 (is_cid-IsCid c.args.bytes.now e))
