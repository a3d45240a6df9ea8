-- What a borrowed CID shows.
use Rattle.std.specs.Prelude.{ℕ, List}
use Rattle.ild_data.specs.declared.cid_ref.CidRef.{CidRef}

-- the bytes of the CID
abbrev pub cid_bytes : CidRef → List ℕ
cid_bytes c = c.bytes.now
