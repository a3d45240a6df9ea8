use Rattle.std.proofs.Common.{◌≡◌, drop}
use Rattle.ild_beneath.specs.Parts.{has_kind}
use Rattle.ild_cbor.specs.Scalar.{kind_of as kind_in}
use Rattle.ild_data.specs.Data.{Data}
use Rattle.ild_typed.specs.Kinds.{kind_word_of}
use Rattle.ild_beneath_read.specs.inside.Opened.{slot_found}
use Rattle.ild_beneath_read.proofs.member.slot_by_kind.Given as goal

abbrev pub invariant-loop-member : goal.invariant-loop-member
invariant-loop-member l = (t : Data) → l.kind ≡ kind_in t → slot_found (has_kind (kind_word_of t)) (drop l.member-index l.members) ≡ slot_found (has_kind (kind_word_of t)) l.members
