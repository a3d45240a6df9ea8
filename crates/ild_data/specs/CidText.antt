-- The text of a CID (multiformats, CIDv1 in multibase base32): b, and the binary CID in base32.
use Rattle.std.specs.Prelude.{ℕ, List, ◌∷◌}
use Rattle.ild_data.specs.Base32.{base32}

abbrev pub cid_text_of : List ℕ → List ℕ
cid_text_of cid = 98 ∷ base32 cid
