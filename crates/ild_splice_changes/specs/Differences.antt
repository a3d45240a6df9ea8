-- Which of the five changes leads from one tree to another: the entries of two maps that differ at one key, and the items of two
-- lists that differ at one place. Nothing stands for a part that is not there.
use Rattle.std.specs.Prelude.{◌≡◌, ◌≢◌, ℕ, List, [], ◌∷◌, ◌++◌, length, Option, Some, None, option_to_list}
use Rattle.ild_data.specs.Data as D
use Rattle.ild_data.specs.Data.{Data, items_of, members_of}
use Rattle.ild_data.specs.Key.{value_at, Rises}
use Rattle.ild_splice_changes.specs.TreeChange.{nth, key, replace, insert_item, insert_entry, remove_item, remove_entry, Located, unchanged, one, applied}

-- from what is at a key before, and after
abbrev pub at_key : List ℕ → Option Data → Option Data → Located
at_key k None None = unchanged
at_key k None (Some d) = one [] (insert_entry k d)
at_key k (Some e) None = one [] (remove_entry k)
at_key k (Some e) (Some d) = one (key k ∷ []) (replace d)

-- from what is at a place before, and after
abbrev pub at_item : ℕ → Option Data → Option Data → Located
at_item i None None = unchanged
at_item i None (Some d) = one [] (insert_item i d)
at_item i (Some e) None = one [] (remove_item i)
at_item i (Some e) (Some d) = one (nth i ∷ []) (replace d)

abbrev pub OneKey : Type 0
OneKey = (k : List ℕ) (xs ys : List (List ℕ × Data)) (a b : Option Data) → Rises xs → Rises ys → ((j : List ℕ) → k ≢ j → value_at j ys ≡ value_at j xs)
    → value_at k xs ≡ a → value_at k ys ≡ b → D.map (members_of ys) ≡ applied (at_key k a b) (D.map (members_of xs))

abbrev pub OneItem : Type 0
OneItem = (front behind : List Data) (a b : Option Data)
    → D.list (items_of (front ++ (option_to_list b ++ behind))) ≡ applied (at_item (length front) a b) (D.list (items_of (front ++ (option_to_list a ++ behind))))
