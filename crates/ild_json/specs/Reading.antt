-- What DAG-JSON means, over the value that a JSON text is (RFC 8259, as `serde_json` reads it): data, or the first fault on a
-- walk that takes lists in order, objects bytewise by key, and judges an object before its parts.
use Rattle.std.specs.Prelude.{ℕ, pos, List, [], ◌∷◌, Option, Some, None, option_and_then, Result, Ok, Err, if◌then◌else◌}
use Rattle.std.specs.Str.{is_utf8}
use Rattle.serde_json.specs.Data as json
use Rattle.serde_json.specs.Find.{as_str}
use Rattle.serde_json.specs.Read.{read}
use Rattle.base64.specs.Engines.{standard_no_pad}
use Rattle.base64.specs.GeneralPurpose.{decode_of}
use Rattle.base64.specs.declared.decode.DecodeError.{DecodeError}
use Rattle.ild_data.specs.Data.{Data, null, boolean, integer, text, bytes, list, map, link, items_of, members_of}
use Rattle.ild_data.specs.Key.{put}
use Rattle.ild_data.specs.CidTextRead.{read_cid_text}
use Rattle.ild_data.specs.declared.fault.TextErr.{TextErr}
use Rattle.ild_json.specs.declared.error.JsonErr.{JsonErr}
use Rattle.ild_json.specs.declared.error.JsonErr.TheVariants as E
use Rattle.ild_json.specs.Slash.{slash, bytes_word, only_member}

-- a number that is no integer of 64 bits is refused
abbrev pub number_read : json.Num → Result Data JsonErr
number_read (json.unsigned n) = Ok (integer (pos n))
number_read (json.negative z) = Ok (integer z)
number_read (json.float x) = Err E.Number

-- a link, by the text of its CID
abbrev pub link_or_fault : Result (List ℕ) TextErr → Result Data JsonErr
link_or_fault (Ok cid) = Ok (link cid)
link_or_fault (Err e) = Err E.Cid

unfoldable pub link_read : List ℕ → Result Data JsonErr
link_read s = link_or_fault (read_cid_text s)

-- bytes, in base64 by the standard alphabet, without padding and with no bit set behind the last byte (RFC 4648, section 4)
abbrev pub bytes_or_fault : Result (List ℕ) DecodeError → Result Data JsonErr
bytes_or_fault (Ok b) = Ok (bytes b)
bytes_or_fault (Err e) = Err E.Bytes

unfoldable pub bytes_read : List ℕ → Result Data JsonErr
bytes_read s = bytes_or_fault (decode_of standard_no_pad s)

-- bytes, where a text stands under `bytes`
abbrev pub bytes_form : Option (List ℕ) → Result Data JsonErr
bytes_form None = Err E.Reserved
bytes_form (Some s) = bytes_read s

-- what stands under `/`: a text is a link, an object with the only key `bytes` is bytes
abbrev pub reserved_read : json.Data → Result Data JsonErr
reserved_read json.null = Err E.Reserved
reserved_read (json.boolean b) = Err E.Reserved
reserved_read (json.number n) = Err E.Reserved
reserved_read (json.string s) = link_read s
reserved_read (json.array ds) = Err E.Reserved
reserved_read (json.object ms) = bytes_form (option_and_then as_str (only_member bytes_word ms))

-- one part and then the others, up to the first fault
abbrev pub and_others : {A : Type 0} → Result A JsonErr → Result (List A) JsonErr → Result (List A) JsonErr
and_others (Ok x) (Ok xs) = Ok (x ∷ xs)
and_others (Ok x) (Err e) = Err e
and_others (Err e) others = Err e

abbrev pub under_key : List ℕ → Result Data JsonErr → Result (List ℕ × Data) JsonErr
under_key k (Ok d) = Ok (k, d)
under_key k (Err e) = Err e

-- entries, put into a map one after another
abbrev pub put_all : {V : Type 0} → List (List ℕ × V) → List (List ℕ × V) → List (List ℕ × V)
put_all [] found = found
put_all (m ∷ ms) found = put_all ms (put m.0 m.1 found)

abbrev pub list_or_fault : Result (List Data) JsonErr → Result Data JsonErr
list_or_fault (Ok ds) = Ok (list (items_of ds))
list_or_fault (Err e) = Err e

abbrev pub map_or_fault : Result (List (List ℕ × Data)) JsonErr → Result Data JsonErr
map_or_fault (Ok ms) = Ok (map (members_of (put_all ms [])))
map_or_fault (Err e) = Err e

-- an object, by what stands under `/` where that is its only key, and by its entries
abbrev pub object_read : Option json.Data → Result (List (List ℕ × Data)) JsonErr → Result Data JsonErr
object_read (Some d) entries = reserved_read d
object_read None entries = map_or_fault entries

abbrev mutual
  pub data_read : json.Data → Result Data JsonErr
  data_read json.null = Ok null
  data_read (json.boolean b) = Ok (boolean b)
  data_read (json.number n) = number_read n
  data_read (json.string s) = Ok (text s)
  data_read (json.array ds) = list_or_fault (items_read ds)
  data_read (json.object ms) = object_read (only_member slash ms) (members_read ms)

  pub items_read : json.Items → Result (List Data) JsonErr
  items_read json.no_items = Ok []
  items_read (json.item d ds) = and_others (data_read d) (items_read ds)

  pub members_read : json.Members → Result (List (List ℕ × Data)) JsonErr
  members_read json.no_members = Ok []
  members_read (json.member k d ms) = and_others (under_key k (data_read d)) (members_read ms)

abbrev pub value_read : Option json.Data → Result Data JsonErr
value_read (Some d) = data_read d
value_read None = Err E.Syntax

-- the data that bytes are as DAG-JSON, or the first fault; what is no text is no JSON
unfoldable pub json_read : List ℕ → Result Data JsonErr
json_read s = value_read (if is_utf8 s then read s else None)
