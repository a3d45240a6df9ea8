use Rattle.ild_path_rules.proofs.Allowing.{no_key}
use Rattle.ild_typed.specs.At.{seen}
use Rattle.ild_view.specs.View.{slot_of, table_of}
use Rattle.ild_path_rules.proofs.key.key_fits.Goals as goal

pub returns-in-Some : goal.returns-in-Some
returns-in-Some c = c.is_there_or_fits.ensures c.in-Some.ensures.is

pub returns-in-None : goal.returns-in-None
returns-in-None c = λ f is_key x tests.
    let v = c.args.view.now in
    let s = c.args.segment.now in
    let h = seen (table_of v) (slot_of v, f) in
    no_key (table_of v) is_key tests s h (c.in-None.ensures.is f x)
