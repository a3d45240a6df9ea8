-- Two byte strings with one id.
use Rattle.std.specs.Prelude.{◌≡◌, ◌≢◌, ℕ, List}
use Rattle.ild_data.specs.Bytes.{AreBytes}
use Rattle.ild_data.specs.Spell.{id_of}

-- two lists of bytes that differ and have one id
pub record Collide (kept new : List ℕ) : Type 0 where
  pub kept_bytes : AreBytes kept
  pub new_bytes : AreBytes new
  pub differ : kept ≢ new
  pub one_id : id_of kept ≡ id_of new
