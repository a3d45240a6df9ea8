-- The replies to lines, and their texts.
use Rattle.std.specs.Prelude.{ℕ, List, [], ◌∷◌, ◌++◌, Bool, true, false, Option, Some, None, codes}
use Rattle.ild_data.specs.Spell.{cid_of}
use Rattle.ild_data.specs.CidText.{cid_text_of}
use Rattle.ild_script.specs.declared.reply.No.{No}
use Rattle.ild_script.specs.declared.reply.No.TheVariants as N
use Rattle.ild_script.specs.declared.reply.Reply.{Reply}
use Rattle.ild_script.specs.declared.reply.Reply.TheVariants as R

-- a refusal's number and name
abbrev pub no_text : No → List ℕ
no_text N.Line = codes "no 1 line\n"
no_text N.Path = codes "no 2 path\n"
no_text N.Json = codes "no 3 json\n"
no_text N.Mismatch = codes "no 4 mismatch\n"
no_text N.Delimiter = codes "no 5 delimiter\n"
no_text N.Hole = codes "no 6 hole\n"
no_text N.Depth = codes "no 7 depth\n"
no_text N.Exhausted = codes "no 8 exhausted\n"
no_text N.Size = codes "no 9 size\n"
no_text N.Reserved = codes "no 10 reserved\n"
no_text N.Block = codes "no 11 block\n"
no_text N.Store = codes "no 12 store\n"
no_text N.Clash = codes "no 13 clash\n"
no_text N.Memory = codes "no 14 memory\n"
no_text N.Batch = codes "no 15 batch\n"

-- the text of a reply, with its line feed
abbrev pub reply_text : Reply → List ℕ
reply_text (R.Ok json) = codes "ok " ++ (json ++ 10 ∷ [])
reply_text (R.Root id) = codes "root " ++ (cid_text_of (cid_of id.0) ++ 10 ∷ [])
reply_text (R.No refusal) = no_text refusal

-- the text that needs nothing but the reply's name: a refusal's
abbrev pub fixed_text : Reply → Option (List ℕ)
fixed_text (R.No refusal) = Some (no_text refusal)
fixed_text reply = None

abbrev pub is_no : Reply → Bool
is_no (R.Ok json) = false
is_no (R.Root id) = false
is_no (R.No refusal) = true
