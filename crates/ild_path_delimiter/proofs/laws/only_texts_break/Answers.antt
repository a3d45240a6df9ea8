use Rattle.ild_path_delimiter.proofs.Quiet.{only_texts_break}
use Rattle.ild_path_delimiter.proofs.Texts.{texts_of_texts}
use Rattle.ild_path_delimiter.proofs.laws.only_texts_break.Goals as goal

pub returns : goal.returns
returns c = record { breaks = only_texts_break; parts = texts_of_texts }
