-- Binary CIDs (multiformats, CIDv1): varint 1, varint codec, varint hash code, varint digest length, digest.
use Rattle.std.specs.Prelude.{◌≡◌, ℕ, ◌≤◌, List, ◌∷◌, ◌++◌, length}
use Rattle.ild_data.specs.Varint.{IsVarint}

-- the bytes s are a CID with these parts
pub record CidOf (s : List ℕ) (codec hash : ℕ) (digest : List ℕ) : Type 0 where
  pub codec_form : List ℕ
  pub hash_form : List ℕ
  pub size_form : List ℕ
  pub is : s ≡ 1 ∷ codec_form ++ hash_form ++ size_form ++ digest
  pub codec_is : IsVarint codec_form codec
  pub hash_is : IsVarint hash_form hash
  pub size_is : IsVarint size_form (length digest)
  pub short : length digest ≤ 64

pub record IsCid (s : List ℕ) : Type 0 where
  pub codec : ℕ
  pub hash : ℕ
  pub digest : List ℕ
  pub parts : CidOf s codec hash digest
