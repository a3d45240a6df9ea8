-- Whether a key that comes to a HAMT leaves it without a trie (IPLD HashMap).
use Rattle.std.specs.Prelude.{◌≡◌, ℕ, Bool, false, not, ◌&&◌, is_some, List}
use Rattle.std.specs.FinMap.{put}
use Rattle.ild_data.specs.ByteOrder.{bytewise}
use Rattle.ild_data.specs.Data.{Data}
use Rattle.ild_data.specs.Trie.{node_of}
use Rattle.ild_data.specs.TrieShape.{trie_levels}
use Rattle.ild_path_place.specs.Comes.{comes}
use Rattle.ild_path_place.specs.Places.{IsAtKey}
use Rattle.ild_path_place.specs.declared.place.End.{End}
use Rattle.ild_path_place.specs.declared.place.End.TheVariants as D
use Rattle.ild_path_place.specs.declared.verb.Verb.{Verb}
use Rattle.ild_schema.specs.declared.row.Row.{Row}
use Rattle.ild_typed.specs.At.{InSlot}

-- whatever comes to the key
abbrev pub Exhausts : Verb → End → Bool → Type 0
Exhausts verb D.Whole b = b ≡ false
Exhausts verb (D.InBlock path) b = b ≡ false
Exhausts verb (D.AtKey front trail entry) b =
    (h : List ℕ → List ℕ) (rows : List Row) (was : List (List ℕ)) (room : ℕ) (q : InSlot) (x : IsAtKey h rows was room q front trail entry) (d : Data)
    → b ≡ (not (is_some (node_of h x.entered.hamt.3 (trie_levels x.entered.hamt.3) 0 (put bytewise trail.key d x.es))) && comes verb)
