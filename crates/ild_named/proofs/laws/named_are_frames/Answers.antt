use Rattle.ild_named.proofs.Framing.{named_is_frame}
use Rattle.ild_named.proofs.laws.named_are_frames.Goals as goal

pub returns : goal.returns
returns c = named_is_frame
