use Rattle.std.proofs.Common.{ap, sym, ◌∙◌}
use Rattle.ild_data.specs.Seen.{data_of}
use Rattle.ild_json.specs.Printing.{json_text}
use Rattle.ild_run_prove.proofs.Printable.{never_reserved, prints}
use Rattle.ild_run_prove.proofs.printing.json_of.Goals as goal

pub returns-in-Ok : goal.returns-in-Ok
returns-in-Ok c = prints c.args.proof.now (data_of c.in_ok-tree.tree) c.in-Ok.json c.in_ok-tree.ensures c.in-Ok.ensures.ok c.in-Ok.ensures.block

pub unreachable-requires : goal.unreachable-requires
unreachable-requires c = never_reserved c.args.proof.now (sym (ap json_text c.in_ok-tree.ensures) ∙ c.in-Err-Reserved.ensures.reserved c.in-Err-Reserved.field-0-is)
