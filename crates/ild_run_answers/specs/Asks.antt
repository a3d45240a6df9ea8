-- What a line asks of a store: a read or an edit of the document; the other lines are the session's own.
use Rattle.std.specs.Prelude.{◌≡◌, Option, Some, None}
use Rattle.ild_data.specs.Spell.{id_of}
use Rattle.ild_edges.specs.Store.{Moment}
use Rattle.ild_script.specs.declared.reply.Reply.{Reply}
use Rattle.ild_script_batch.specs.Inside.{IsOfStore}
use Rattle.ild_script_meaning.specs.Ask.{Ask, to_tell_root, to_begin, to_commit, to_abort}
use Rattle.ild_view_doc.specs.declared.doc.Doc.{Doc}
use Rattle.ild_run_standing.specs.Answers.{AnswersAs}

abbrev pub IsOfSession : Ask → Type 0
IsOfSession to_tell_root = Unit {0}
IsOfSession to_begin = Unit {0}
IsOfSession to_commit = Unit {0}
IsOfSession to_abort = Unit {0}
IsOfSession a = ⊥

-- it is answered as outside any batch, or it is none of the store's, which isn't asked then
abbrev pub Asks : Doc → Doc → Ask → Moment → Option Reply → Moment → Type 0
Asks old new a m (Some reply) n = IsOfStore a × AnswersAs id_of old new a m (Some reply) n
Asks old new a m None n = IsOfSession a × (new ≡ old)
