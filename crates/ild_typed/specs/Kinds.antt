-- The kinds of data (IPLD Data Model, "Kinds").
use Rattle.ild_data.specs.Data as T
use Rattle.ild_data.specs.Data.{Data}
use Rattle.ild_schema.specs.declared.def.KindWord.{KindWord}
use Rattle.ild_schema.specs.declared.def.KindWord.TheVariants as K

abbrev pub kind_word_of : Data → KindWord
kind_word_of T.null = K.Null
kind_word_of (T.boolean b) = K.Bool
kind_word_of (T.integer n) = K.Int
kind_word_of (T.text s) = K.Text
kind_word_of (T.bytes s) = K.Bytes
kind_word_of (T.list ds) = K.List
kind_word_of (T.map ms) = K.Map
kind_word_of (T.link s) = K.Link
