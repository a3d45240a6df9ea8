-- What a new item is made of, and where it is none.
use Rattle.std.specs.Prelude.{ℕ, Bool, true, false, is_none, List, [], ◌∷◌, ◌++◌, Option, option_map}
use Rattle.std.specs.Option.{option_map_or, unwrap_or}
use Rattle.ild_cbor.specs.declared.kind.Kind.{Kind}
use Rattle.ild_cbor.specs.declared.kind.Kind.TheVariants as K
use Rattle.ild_data.specs.Data as T
use Rattle.ild_data.specs.Data.{Data}
use Rattle.ild_data.specs.Key.{value_at}
use Rattle.ild_data.specs.Spell.{head, spell_text}
use Rattle.ild_path_marked.specs.declared.part.Part.{Part}
use Rattle.ild_path_marked.specs.declared.part.Part.TheVariants as P
use Rattle.ild_schema.specs.DataKinds.{same_kind}
use Rattle.ild_data.specs.Hex.{bytes_of_hex}
use Rattle.ild_schema.specs.Marks.{mark_kind}
use Rattle.ild_schema.specs.declared.def.KindWord.{KindWord}
use Rattle.ild_schema.specs.declared.def.KindWord.TheVariants as W
use Rattle.ild_schema.specs.declared.def.Mark.{Mark}
use Rattle.ild_schema.specs.declared.def.UnionForm.{UnionForm}
use Rattle.ild_schema.specs.declared.def.UnionForm.TheVariants as F

-- the bytes of a text in hexadecimal, and none where it isn't
abbrev pub hex_bytes : List ℕ → List ℕ
hex_bytes s = unwrap_or (bytes_of_hex s) []

abbrev pub part_bytes : Part → List ℕ
part_bytes (P.Map n) = head 5 n
part_bytes (P.TextHead n) = head 3 n
part_bytes (P.BytesHead n) = head 2 n
part_bytes (P.Text s) = spell_text s.now
part_bytes (P.Hex s) = hex_bytes s.now
part_bytes (P.Spelled s) = s.now

-- the parts one behind the other
abbrev pub bytes_of : List Part → List ℕ
bytes_of [] = []
bytes_of (p ∷ ps) = part_bytes p ++ bytes_of ps

-- bytes behind those of a text in hexadecimal
abbrev pub behind_hex : List ℕ → List ℕ → Option Data
behind_hex name s = option_map (λ front. T.bytes (front ++ s)) (bytes_of_hex name)

-- a map without this key
abbrev pub has_place : List ℕ → Data → Bool
has_place key (T.map ms) = is_none (value_at key (T.members_list ms))
has_place key d = false

abbrev pub is_kinded : UnionForm → Bool
is_kinded F.Kinded = true
is_kinded form = false

-- the kind in the words of schemas
abbrev pub word_of : Kind → KindWord
word_of K.Null = W.Null
word_of K.Bool = W.Bool
word_of K.Int = W.Int
word_of K.Text = W.Text
word_of K.Bytes = W.Bytes
word_of K.List = W.List
word_of K.Map = W.Map
word_of K.Link = W.Link

-- the mark is a kind, and this one
abbrev pub is_kind : Mark → KindWord → Bool
is_kind mark word = option_map_or (λ k. same_kind k word) (mark_kind mark) false
