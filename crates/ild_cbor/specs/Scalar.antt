-- What a tree is by itself: its kind, and its value where it is a scalar.
use Rattle.std.specs.Prelude.{ℕ, ℤ, List, length, Option, Some, None, Bool}
use Rattle.ild_data.specs.Data.{Data, null, boolean, integer, text, bytes, list, map, link, items_list, members_list}
use Rattle.ild_cbor.specs.declared.kind.Kind.{Kind}
use Rattle.ild_cbor.specs.declared.kind.Kind.TheVariants as K

abbrev pub kind_of : Data → Kind
kind_of null = K.Null
kind_of (boolean b) = K.Bool
kind_of (integer n) = K.Int
kind_of (text s) = K.Text
kind_of (bytes s) = K.Bytes
kind_of (list ds) = K.List
kind_of (map ms) = K.Map
kind_of (link s) = K.Link

abbrev pub boolean_of : Data → Option Bool
boolean_of (boolean b) = Some b
boolean_of t = None

abbrev pub int_of : Data → Option ℤ
int_of (integer n) = Some n
int_of t = None

abbrev pub text_of : Data → Option (List ℕ)
text_of (text s) = Some s
text_of t = None

abbrev pub bytes_of : Data → Option (List ℕ)
bytes_of (bytes s) = Some s
bytes_of t = None

abbrev pub link_of : Data → Option (List ℕ)
link_of (link s) = Some s
link_of t = None

-- how many parts a list or a map has
abbrev pub count_of : Data → Option ℕ
count_of (list ds) = Some (length (items_list ds))
count_of (map ms) = Some (length (members_list ms))
count_of t = None
