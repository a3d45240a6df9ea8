use Rattle.std.proofs.Common.{drop, ap, ◌∙◌}
use Rattle.std.proofs.lemmas.List.{take_rest}
use Rattle.ild_text.proofs.Finding.{found_next, found_none}
use Rattle.ild_text.proofs.place.next.Goals as goal

pub returns-in-Some : goal.returns-in-Some
returns-in-Some c =
    found_next c.args.delim.now c.args.text.now c.as_bytes.result.now _ c.args.from c.in-Some.i c.requires.some c.as_bytes.ensures.value
    (take_rest c.as_bytes-bytes.result.now c.args.from ∙ ap (drop c.args.from) c.as_bytes-bytes.ensures.value) c.in-Some.ensures

pub returns-in-None : goal.returns-in-None
returns-in-None c =
    found_none c.args.delim.now c.args.text.now c.as_bytes.result.now _ c.args.from c.requires.some c.as_bytes.ensures.value
    (take_rest c.as_bytes-bytes.result.now c.args.from ∙ ap (drop c.args.from) c.as_bytes-bytes.ensures.value) c.in-None.ensures
