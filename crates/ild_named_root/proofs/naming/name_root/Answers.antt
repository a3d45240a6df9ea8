use Rattle.ild_view_doc.proofs.Known.{rooted_faultless}
use Rattle.ild_named_root.proofs.naming.name_root.Goals as goal

pub name_block-requires-clause-faultless : goal.name_block-requires-clause-faultless
name_block-requires-clause-faultless g c = rooted_faultless _ _ _ _ c.block-block.ensures c.args.doc.now.stands
