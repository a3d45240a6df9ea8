-- The line that tells what a proof says of a path.
use Rattle.std.specs.Prelude.{◌≡◌, ℕ, List, Bool, true, false, Option, Some, None, codes}
use Rattle.ild_data.specs.Data.{Data}
use Rattle.ild_data.specs.Spell.{spell}
use Rattle.ild_data.specs.Tree.{IsTree}
use Rattle.ild_inclusion.specs.declared.answer.Answer.{Answer}
use Rattle.ild_inclusion.specs.declared.answer.Answer.TheVariants as A
use Rattle.ild_json.specs.Printing.{json_text}
use Rattle.ild_script.specs.Reply.{reply_text}
use Rattle.ild_script.specs.declared.reply.No.TheVariants as N
use Rattle.ild_script.specs.declared.reply.Reply.TheVariants as R

-- it tells of the part by the JSON of its representation, or that this has none; or that there is no part
pub data Line : Type 0 where
  part : Option (List ℕ) → Line
  absent : Line

-- `ok JSON`, or `no 10 reserved`, or `absent`
abbrev pub line_text : Line → List ℕ
line_text (part (Some json)) = reply_text (R.Ok json)
line_text (part None) = reply_text (R.No N.Reserved)
line_text absent = codes "absent\n"

abbrev pub is_reserved : Line → Bool
is_reserved (part (Some json)) = false
is_reserved (part None) = true
is_reserved absent = false

-- what is spelled so has this JSON, or none, since a map whose only key is `/` stands in it
pub record HasJson (b : List ℕ) (json : Option (List ℕ)) : Type 0 where
  pub tree : Data
  pub is : IsTree tree
  pub spelled : b ≡ spell tree
  pub printed : json_text tree ≡ json

-- the line of an answer
abbrev pub IsLineOf : Answer → Line → Type 0
IsLineOf (A.Here b) (part json) = HasJson b json
IsLineOf (A.Here b) absent = ⊥
IsLineOf (A.Absent k) (part json) = ⊥
IsLineOf (A.Absent k) absent = Unit {0}
