use Rattle.ild_data.proofs.Texts.{read-cid_text, cid_text-read}
use Rattle.ild_data.proofs.laws.texts_are_read.Goals as goal

pub returns : goal.returns
returns c = record { back = read-cid_text; only = cid_text-read }
