use Rattle.ild_data.proofs.Cids.{parts_read, read_cid-sound, read_cid-complete, is_cid-IsCid, IsCid-is_cid, block_is_cid}
use Rattle.ild_data.proofs.laws.cids_are_read.Goals as goal

pub returns : goal.returns
returns c = record {
  sound = read_cid-sound;
  complete = read_cid-complete;
  parts = λ s codec hash digest of. parts_read s _ (read_cid-complete s codec hash digest of);
  block = block_is_cid;
  test = λ s. (is_cid-IsCid s, IsCid-is_cid s);
}
