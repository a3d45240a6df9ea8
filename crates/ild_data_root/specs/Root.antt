-- The texts of block ids: a block's CID has the codec DAG-CBOR and a multihash of sha2-256 with 32 bytes (multiformats, CIDv1).
use Rattle.std.specs.Prelude.{◌≡◌, ℕ, List, length, ◌==◌, ◌&&◌, if◌then◌else◌, Option, Some, None, option_map, Result, Ok, Err}
use Rattle.std.specs.declared.alloc.AllocError.{AllocError}
use Rattle.ild_data.specs.CidRead.{CidParts, cid_parts}
use Rattle.ild_data.specs.CidTextRead.{read_cid_text}
use Rattle.ild_data.specs.declared.fault.TextErr.{TextErr}
use Rattle.ild_data.specs.declared.fault.TextErr.TheVariants as E
use Rattle.ild_data.specs.declared.id.BlockId.{BlockId}

-- the digest of such a CID
abbrev pub block_in : CidParts → Option (List ℕ)
block_in parts = if parts.codec == 0x71 && (parts.hash == 0x12 && length parts.digest == 32) then Some parts.digest else None

abbrev pub root_in : Result (List ℕ) TextErr → Option (List ℕ)
root_in (Ok cid) = block_in (cid_parts cid)
root_in (Err e) = None

-- the id whose text this is, where it is that of a block's CID
abbrev pub root_of_text : List ℕ → Option (List ℕ)
root_of_text text = root_in (read_cid_text text)

-- an id is answered exactly where the text is that of one; want of memory is free
abbrev pub AsksRoot : List ℕ → Result (Option BlockId) AllocError → Type 0
AsksRoot text (Ok found) = option_map (λ (id : BlockId). id.0) found ≡ root_of_text text
AsksRoot text (Err f) = Unit {0}

-- no CID's text asks for none
abbrev pub no_root : TextErr → Result (Option BlockId) AllocError → Type 0
no_root E.Memory (Err f) = Unit {0}
no_root E.Memory (Ok found) = ⊥
no_root e (Ok found) = found ≡ None
no_root e (Err f) = ⊥
