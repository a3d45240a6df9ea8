-- Which replies, given in the first tree, may come of a path that goes on behind a link.
use Rattle.std.specs.Prelude.{ℕ, List, Bool, true, false, ◌&&◌, codes}
use Rattle.ild_data.specs.Key.{same_text}
use Rattle.ild_script.specs.declared.reply.No.{No}
use Rattle.ild_script.specs.declared.reply.No.TheVariants as N
use Rattle.ild_script.specs.declared.reply.Reply.{Reply}
use Rattle.ild_script.specs.declared.reply.Reply.TheVariants as R
use Rattle.ild_script_meaning.specs.Ask.{Ask, Tell, presence, shown_form, representation, count, list_of_parts, nothing, to_tell, to_edit, to_tell_root, to_begin, to_commit, to_abort, unknown}

-- a refusal for which nothing was put, and that no store gave
abbrev pub may_lead : No → Bool
may_lead N.Line = false
may_lead N.Batch = false
may_lead N.Block = false
may_lead N.Store = false
may_lead N.Clash = false
may_lead N.Memory = false
may_lead N.Exhausted = false
may_lead N.Size = false
may_lead N.Path = true
may_lead N.Json = true
may_lead N.Mismatch = true
may_lead N.Delimiter = true
may_lead N.Hole = true
may_lead N.Depth = true
may_lead N.Reserved = true

-- a line along a path
abbrev pub is_along : Ask → Bool
is_along (to_tell t path) = true
is_along (to_edit e) = true
is_along nothing = false
is_along to_tell_root = false
is_along to_begin = false
is_along to_commit = false
is_along to_abort = false
is_along unknown = false

abbrev pub is_presence : Tell → Bool
is_presence presence = true
is_presence shown_form = false
is_presence representation = false
is_presence count = false
is_presence list_of_parts = false

-- one that asks whether a part is there
abbrev pub asks_presence : Ask → Bool
asks_presence (to_tell t path) = is_presence t
asks_presence (to_edit e) = false
asks_presence nothing = false
asks_presence to_tell_root = false
asks_presence to_begin = false
asks_presence to_commit = false
asks_presence to_abort = false
asks_presence unknown = false

-- the text `false`
abbrev pub false_text : List ℕ
false_text = codes "false"

-- such a refusal, or that no part is there
abbrev pub looks_on : Ask → Reply → Bool
looks_on a (R.No refusal) = is_along a && may_lead refusal
looks_on a (R.Ok text) = asks_presence a && same_text text false_text
looks_on a (R.Root id) = false
