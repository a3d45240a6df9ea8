use Rattle.std.proofs.Common.{◌∙◌, ap, sym}
use Rattle.std.specs.Prelude.{not}
use Rattle.ild_path_delimiter.proofs.Making.{free_known, piece_there, text_known}
use Rattle.ild_path_delimiter.proofs.level.stands_free.Goals as goal

pub returns-in-Some-clause-free : goal.returns-in-Some-clause-free
returns-in-Some-clause-free c = λ free rows q view. free_known rows q c.args.view.now c.in-Some.piece c.text.result view (sym c.in-Some.is ∙ c.piece.ensures) c.text.ensures (c.is_none.ensures ∙ ap not free)

pub returns-in-Some-clause-text : goal.returns-in-Some-clause-text
returns-in-Some-clause-text c = λ text rows q view holds. text_known rows q c.args.view.now c.in-Some.piece c.text.result view (sym c.in-Some.is ∙ c.piece.ensures) c.text.ensures (c.is_none.ensures ∙ ap not text)

pub returns-in-None-clause-text : goal.returns-in-None-clause-text
returns-in-None-clause-text c = λ text rows q view holds. piece_there rows q c.args.view.now view holds (sym c.in-None.is ∙ c.piece.ensures)
