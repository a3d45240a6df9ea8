-- What a line asks for along a path.
use Rattle.std.specs.Prelude.{Option, Some, None}
use Rattle.ild_path_place.specs.declared.verb.Verb.{Verb}
use Rattle.ild_path_place.specs.declared.verb.Verb.TheVariants as V
use Rattle.ild_run_follow.specs.declared.kind.Tell.{Tell}
use Rattle.ild_run_follow.specs.declared.kind.Tell.TheVariants as T
use Rattle.ild_script.specs.declared.word.Word.{Word}
use Rattle.ild_script.specs.declared.word.Word.TheVariants as W

-- what the word tells of a part
abbrev pub tell_by : Word → Option Tell
tell_by W.Get = Some T.Shown
tell_by W.Rep = Some T.Representation
tell_by W.Has = Some T.Presence
tell_by W.Len = Some T.Count
tell_by W.Walk = Some T.Parts
tell_by W.Set = None
tell_by W.Ins = None
tell_by W.Del = None
tell_by W.Root = None
tell_by W.Begin = None
tell_by W.Commit = None
tell_by W.Abort = None

-- and how it edits one
abbrev pub verb_by : Word → Option Verb
verb_by W.Set = Some V.Set
verb_by W.Ins = Some V.Ins
verb_by W.Del = Some V.Del
verb_by W.Get = None
verb_by W.Rep = None
verb_by W.Has = None
verb_by W.Len = None
verb_by W.Walk = None
verb_by W.Root = None
verb_by W.Begin = None
verb_by W.Commit = None
verb_by W.Abort = None
