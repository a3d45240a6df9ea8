-- Lists of pairs that differ at one place: which of the five changes of a tree leads from one to the other.
use Rattle.std.specs.Prelude.{◌≡◌, ℕ, List, [], ◌∷◌, ◌++◌, length, Option, Some, None, option_to_list, option_map}
use Rattle.ild_data.specs.Data.{Data}
use Rattle.ild_splice_changes.specs.TreeChange.{nth, replace, insert_item, remove_item, Located, unchanged, one, applied}
use Rattle.ild_typed.specs.Strings.{pair_data, listpairs}

-- from the value that is written under a name at a place before, and after
abbrev pub at_pair : ℕ → List ℕ → Option Data → Option Data → Located
at_pair i k None None = unchanged
at_pair i k None (Some d) = one [] (insert_item i (pair_data (k, d)))
at_pair i k (Some e) None = one [] (remove_item i)
at_pair i k (Some e) (Some d) = one (nth i ∷ nth 1 ∷ []) (replace d)

-- a pair, where it is written
abbrev pub pair_if : List ℕ → Option Data → List (List ℕ × Data)
pair_if k o = option_to_list (option_map (λ d. (k, d)) o)

abbrev pub OnePair : Type 0
OnePair = (k : List ℕ) (front behind : List (List ℕ × Data)) (a b : Option Data)
    → listpairs (front ++ (pair_if k b ++ behind)) ≡ applied (at_pair (length front) k a b) (listpairs (front ++ (pair_if k a ++ behind)))
