use Rattle.std.proofs.Common.{sym, ap, ◌∙◌}
use Rattle.ild_path_place.specs.Comes.{comes}
use Rattle.ild_path_tests.proofs.worked.block_of.Goals as goal

pub put_in-requires : goal.put_in-requires
put_in-requires c = ap comes (sym c.verb.ensures ∙ c.in-Set.is)

pub put_in-requires-in-Ins : goal.put_in-requires-in-Ins
put_in-requires-in-Ins c = ap comes (sym c.verb.ensures ∙ c.in-Ins.is)

pub erase-requires : goal.erase-requires
erase-requires c = sym c.verb.ensures ∙ c.in-Del.is
