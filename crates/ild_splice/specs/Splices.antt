-- A change of one part of a tree, made on the block in which the part stands.
use Rattle.std.specs.Prelude.{◌≡◌, ℕ, List, Some, Result}
use Rattle.ild_cbor.specs.declared.node.Node.{Node}
use Rattle.ild_cbor.specs.Nodes.{HasData, block_of, start_of}
use Rattle.ild_cbor.specs.Span.{Span, span_of}
use Rattle.ild_splice_changes.specs.Spliced.{numbers_of}
use Rattle.ild_splice_changes.specs.TreeChange.{TreeStep, TreeChange, part_at, changed}
use Rattle.ild_data.specs.Data.{Data, item, list, no_items, text}
use Rattle.ild_data.specs.Spell.{spell}
use Rattle.ild_splice.specs.declared.error.SpliceErr.{SpliceErr}
use Rattle.ild_splice.specs.Made.{MakesBytes}

-- the node's block is the spelling of the whole tree, and the node is the part at this place: it begins where the span of that part does
pub record IsAt (n : Node) (t : Data) (q : List TreeStep) (d : Data) : Type 0 where
  pub whole : block_of n ≡ spell t
  pub part : part_at q t ≡ Some d
  pub stands : HasData n d
  pub span : Span
  pub spans : span_of t (numbers_of q t) ≡ Some span
  pub start : start_of n ≡ span.start

-- of whatever tree the node is a part: the answer is the spelling of that tree with this change of that part, or that it is too long
pub record Splices (n : Node) (c : TreeChange) (result : Result (List ℕ) SpliceErr) : Type 0 where
  pub makes : (t d : Data) (q : List TreeStep) → IsAt n t q d → MakesBytes (spell (changed q c t)) result

-- the list of two of a text and a tree
abbrev pub pair_of : List ℕ → Data → Data
pair_of k d = list (item (text k) (item d no_items))
