use Rattle.ild_text.proofs.Finding.{found_next, found_none}
use Rattle.ild_path_text.proofs.Joining.{parted_found, parted_none}
use Rattle.ild_path_text.proofs.joints.is_parted.Goals as goal

pub returns-in-Some : goal.returns-in-Some
returns-in-Some c = λ p whole len.
    parted_found c.args.inner.now c.args.text.now c.in-Some.at c.requires
    (found_next c.args.inner.now c.args.text.now c.as_bytes-2.result.now c.as_bytes.result.now 0 c.in-Some.at c.requires c.as_bytes-2.ensures.value c.as_bytes.ensures.value c.in-Some.ensures) p c.args.key whole len

pub returns-in-None : goal.returns-in-None
returns-in-None c = λ p whole len.
    parted_none c.args.inner.now c.args.text.now
    (found_none c.args.inner.now c.args.text.now c.as_bytes-2.result.now c.as_bytes.result.now 0 c.requires c.as_bytes-2.ensures.value c.as_bytes.ensures.value c.in-None.ensures) p whole
