-- The reserved namespace of DAG-JSON: objects whose only key is `/`.
use Rattle.std.specs.Prelude.{ℕ, List, codes, Option, None, ◌==◌, if◌then◌else◌}
use Rattle.serde_json.specs.Data as json
use Rattle.serde_json.specs.Events.{members_len}
use Rattle.serde_json.specs.Find.{get_member}

-- `/`, under which a link or bytes stand
abbrev pub slash : List ℕ
slash = codes "/"

-- `bytes`, which stands under `/` where bytes are meant
abbrev pub bytes_word : List ℕ
bytes_word = codes "bytes"

-- the value of an object's only member, where that has this key
unfoldable pub only_member : List ℕ → json.Members → Option json.Data
only_member k ms = if members_len ms == 1 then get_member k ms else None
