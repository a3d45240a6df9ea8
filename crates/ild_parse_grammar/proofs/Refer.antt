-- How references are read.
use Rattle.std.specs.Prelude.{ℕ, zero, suc, List, codes, Result, Ok, if◌then◌else◌}
use Rattle.ild_parse_grammar.specs.Reference.{Reference, refer, Refers, named, link, list, map}
use Rattle.ild_parse_grammar.proofs.Stream.{Stream, place, next_is, rest_of}
use Rattle.ild_parse_grammar.proofs.Read.{◌>>=◌, literal_at, type_name_at}

-- what is left behind a word that may stand there
abbrev pub behind_word : List ℕ → Stream → Stream
behind_word word s = if next_is word s then rest_of s else s

unfoldable pub named_at : Stream → Result (Refers × Stream) ℕ
named_at s = do
  n ← type_name_at s
  Ok (named n.0, n.1)

unfoldable pub link_at : Stream → Result (Refers × Stream) ℕ
link_at s = do
  t ← literal_at (codes "&") s
  n ← type_name_at t
  Ok (link n.0, n.1)

-- [ "nullable" ] inline
unfoldable pub ref_with : (Stream → Result (Refers × Stream) ℕ) → Stream → Result (Reference × Stream) ℕ
ref_with inline s = do
  i ← inline (behind_word (codes "nullable") s)
  Ok (refer (place s) (next_is (codes "nullable") s) (place (behind_word (codes "nullable") s)) i.0, i.1)

unfoldable pub list_with : (Stream → Result (Refers × Stream) ℕ) → Stream → Result (Refers × Stream) ℕ
list_with inline s = do
  t ← literal_at (codes "[") s
  r ← ref_with inline t
  u ← literal_at (codes "]") r.1
  Ok (list r.0, u)

unfoldable pub map_with : (Stream → Result (Refers × Stream) ℕ) → Stream → Result (Refers × Stream) ℕ
map_with inline s = do
  t ← literal_at (codes "{") s
  k ← type_name_at t
  u ← literal_at (codes ":") k.1
  v ← ref_with inline u
  w ← literal_at (codes "}") v.1
  Ok (map k.0 v.0, w)

-- an inline type, with room for so many nested ones, itself counted
unfoldable pub inline_at : ℕ → Stream → Result (Refers × Stream) ℕ
inline_at zero s = named_at s
inline_at (suc room) s =
    if next_is (codes "&") s then link_at s
    else if next_is (codes "[") s then list_with (inline_at room) s
    else if next_is (codes "{") s then map_with (inline_at room) s
    else named_at s

abbrev pub ref_at : ℕ → Stream → Result (Reference × Stream) ℕ
ref_at room = ref_with (inline_at room)
