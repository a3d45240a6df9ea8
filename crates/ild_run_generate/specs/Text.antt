-- The five lines of a summary.
use Rattle.std.specs.Prelude.{ℕ, List, [], ◌∷◌, ◌++◌, codes, decimal}
use Rattle.ild_run_generate.specs.declared.summary.Summary.{Summary}
use Rattle.ild_script.specs.Reply.{reply_text}
use Rattle.ild_script.specs.declared.reply.Reply.TheVariants as R

-- a word with a space, and a number
abbrev pub count_line : List ℕ → ℕ → List ℕ
count_line word n = word ++ (decimal n ++ 10 ∷ [])

abbrev pub counts_text : Summary → List ℕ
counts_text s = count_line (codes "sets ") s.sets ++ (count_line (codes "dels ") s.dels ++ (count_line (codes "absent ") s.absent ++ count_line (codes "len ") s.len))

-- the counts, and the root as it is replied to a line
abbrev pub summary_text : Summary → List ℕ
summary_text s = counts_text s ++ reply_text (R.Root s.root)
