-- Data that are texts, and the data of pairs.
use Rattle.std.specs.Prelude.{ℕ, List, [], ◌∷◌, map, Option, Some, None, option_map, option_and_then}
use Rattle.ild_data.specs.Data as T
use Rattle.ild_data.specs.Data.{Data}
use Rattle.ild_data.specs.Key.{put}
use Rattle.ild_typed.specs.Texts.{join, join_pairs}

abbrev pub text_in : Data → Option (List ℕ)
text_in (T.text s) = Some s
text_in d = None

abbrev pub bytes_in : Data → Option (List ℕ)
bytes_in (T.bytes s) = Some s
bytes_in d = None

abbrev pub members_in : Data → Option (List (List ℕ × Data))
members_in (T.map ms) = Some (T.members_list ms)
members_in d = None

abbrev pub cons_both : {A : Type 0} → Option A → Option (List A) → Option (List A)
cons_both None os = None
cons_both (Some a) os = option_map (λ xs. a ∷ xs) os

-- the texts, where all are
abbrev pub texts_in : List Data → Option (List (List ℕ))
texts_in [] = Some []
texts_in (d ∷ ds) = cons_both (text_in d) (texts_in ds)

abbrev pub text_pairs : List (List ℕ × Data) → Option (List (List ℕ × List ℕ))
text_pairs [] = Some []
text_pairs (p ∷ ps) = cons_both (option_map (λ s. (p.0, s)) (text_in p.1)) (text_pairs ps)

-- in the key order
abbrev pub in_key_order : List (List ℕ × Data) → List (List ℕ × Data)
in_key_order [] = []
in_key_order (p ∷ ps) = put p.0 p.1 (in_key_order ps)

abbrev pub map_data : List (List ℕ × Data) → Data
map_data ps = T.map (T.members_of ps)

abbrev pub pair_data : List ℕ × Data → Data
pair_data p = T.list (T.item (T.text p.0) (T.item p.1 T.no_items))

abbrev pub listpairs : List (List ℕ × Data) → Data
listpairs ps = T.list (T.items_of (map pair_data ps))

abbrev pub stringpairs : List ℕ → List ℕ → List (List ℕ × Data) → Option Data
stringpairs inner entry ps = option_map T.text (option_and_then (join_pairs inner entry) (text_pairs ps))

abbrev pub stringjoin : List ℕ → List Data → Option Data
stringjoin delim ds = option_map T.text (option_and_then (join delim) (texts_in ds))
