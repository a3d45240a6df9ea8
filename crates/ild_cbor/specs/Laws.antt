-- Laws of nodes, faults and spans.
use Rattle.std.specs.Prelude.{ℕ, ◌≡◌, ◌↔◌, List, Some, None, slice_range, ◌+◌}
use Rattle.ild_data.specs.Bytes.{AreBytes}
use Rattle.ild_data.specs.Data.{Data, Members, map}
use Rattle.ild_data.specs.Spell.{spell}
use Rattle.ild_cbor.specs.declared.node.Node.{Node}
use Rattle.ild_cbor.specs.Nodes.{HasData}
use Rattle.ild_cbor.specs.Block.{IsBlockOf}
use Rattle.ild_cbor.specs.Reading.{fault_of}
use Rattle.ild_cbor.specs.Span.{Span, tree_at, span_of, part_of, index_of, entry_of}

-- a node stands for one tree
abbrev pub OneTree : Type 0
OneTree = (n : Node) (d e : Data) → HasData n d → HasData n e → d ≡ e

-- the blocks without a fault are the spellings of trees within the limits
abbrev pub FaultlessAreSpelled : Type 0
FaultlessAreSpelled = (b : List ℕ) → AreBytes b → (fault_of b ≡ None) ↔ ((d : Data) × IsBlockOf b d)

-- the span of a part, in which its spelling stands
pub record HasSpan (t u : Data) (q : List ℕ) : Type 0 where
  pub span : Span
  pub is : span_of t q ≡ Some span
  pub spelled : slice_range (spell t) span.start (span.start + span.size) ≡ spell u

-- each part has its span
abbrev pub SpansSpell : Type 0
SpansSpell = (t u : Data) (q : List ℕ) → tree_at t q ≡ Some u → HasSpan t u q

-- what stands at a key of a map is the part of that number
abbrev pub EntriesAreParts : Type 0
EntriesAreParts = (ms : Members) (key : List ℕ) → entry_of (map ms) key ≡ part_of (map ms) (index_of key (map ms))
