use Rattle.std.proofs.Common.{◌≡◌, length, arith, ap, sym, ◌∙◌}
use Rattle.ild_data.specs.CidRead.{CidParts}
use Rattle.ild_data.specs.Spell.{cid_of}
use Rattle.ild_data.proofs.Cids.{is_block, block_parts}
use Rattle.ild_data.proofs.cid_ref.CidRef.block.Goals as goal
use Rattle.ild_data.proofs.cid_ref.CidRef.block.Goals.{then-codec-ne-DAG_CBOR-via-then-codec-ne-DAG_CBOR, then-codec-ne-DAG_CBOR-via-else-codec-ne-DAG_CBOR+then-hash-ne-SHA2_256, then-codec-ne-DAG_CBOR-via-else-codec-ne-DAG_CBOR+else-hash-ne-SHA2_256+then-digest-ne32}

pub returns-then-codec-ne-DAG_CBOR-clause-only : goal.returns-then-codec-ne-DAG_CBOR-clause-only
returns-then-codec-ne-DAG_CBOR-clause-only c = λ id len e.
    let p = sym c.parts-codec.ensures ∙ block_parts c.args.self.now.bytes.now id len e in
    let codec : c.parts-codec.result.0 ≡ 0x71 = ap (λ (q : CidParts). q.codec) p in
    let hash : c.parts-codec.result.1 ≡ 0x12 = ap (λ (q : CidParts). q.hash) p in
    let size : length c.parts-codec.result.2.now ≡ 32 = ap (λ (q : CidParts). length q.digest) p ∙ len in
    let no : ⊥ = elim c.then-codec-ne-DAG_CBOR.branch [
      | then-codec-ne-DAG_CBOR-via-then-codec-ne-DAG_CBOR w ↦ omega arith
      | then-codec-ne-DAG_CBOR-via-else-codec-ne-DAG_CBOR+then-hash-ne-SHA2_256 w ↦ omega arith
      | then-codec-ne-DAG_CBOR-via-else-codec-ne-DAG_CBOR+else-hash-ne-SHA2_256+then-digest-ne32 w ↦ omega arith
    ] in
    absurd no

pub returns-clause-whole : goal.returns-clause-whole
returns-clause-whole c =
    let parts = c.parts-codec.ensures in
    let codec : c.parts-codec.result.0 ≡ 0x71 = omega arith in
    let hash : c.parts-codec.result.1 ≡ 0x12 = omega arith in
    let size : length c.parts-codec.result.2.now ≡ 32 = omega arith in
    is_block c.args.self.now.bytes.now c.args.self.now.form (ap (λ (q : CidParts). q.codec) parts ∙ codec) (ap (λ (q : CidParts). q.hash) parts ∙ hash) (ap (λ (q : CidParts). length q.digest) parts ∙ size)
    ∙ ap cid_of (ap (λ (q : CidParts). q.digest) parts ∙ sym c.copy_from_slice.ensures.after)
