-- An inline union: the member's map with one entry more. A change of the member's map beside that entry is the same change of the whole.
use Rattle.std.proofs.Common.{◌≡◌, ◌≢◌, ℕ, List, [], ◌∷◌, Option, Some, None, refl, ap, sym, ◌∙◌}
use Rattle.std.specs.Option.{option_map_or}
use Rattle.ild_data.specs.Data.{Data}
use Rattle.ild_data.specs.Key.{put, value_at, without, Rises}
use Rattle.ild_data.proofs.Lists.{members_list-members_of}
use Rattle.ild_data.proofs.Rising.{rises_put, rises_without}
use Rattle.ild_splice_changes.specs.TreeChange.{TreeStep, nth, key, TreeChange, replace, insert_item, insert_entry, remove_item, remove_entry, changed, altered, change_here, child, with_child, replaced_at, Located, unchanged, one, applied}
use Rattle.ild_typed.specs.Strings.{map_data}
use Rattle.ild_splice_changes.proofs.Maps.{put-put, without-put, replaced-put, rises_replaced, put-other}

-- a change that leaves the entry at k, and the map as a whole, alone
abbrev pub IsBeside : List ℕ → Located → Type 0
IsBeside k unchanged = Unit {0}
IsBeside k (one [] (replace d)) = ⊥
IsBeside k (one [] (insert_item i d)) = Unit {0}
IsBeside k (one [] (insert_entry j d)) = j ≢ k
IsBeside k (one [] (remove_item i)) = Unit {0}
IsBeside k (one [] (remove_entry j)) = j ≢ k
IsBeside k (one (nth i ∷ q) c) = Unit {0}
IsBeside k (one (key j ∷ q) c) = j ≢ k

-- the map with the entry
abbrev pub inlined : List ℕ → Data → List (List ℕ × Data) → Data
inlined k n ms = map_data (put k n ms)

replaced_in : (ms : List (List ℕ × Data)) (j : List ℕ) (q : List TreeStep) (c : TreeChange) (o : Option Data) → value_at j ms ≡ o
    → changed (key j ∷ q) c (map_data ms) ≡ map_data (option_map_or (λ e. replaced_at j (changed q c e) ms) o ms)
replaced_in ms j q c o h =
    let g : child (key j) (map_data ms) ≡ o = ap (value_at j) (members_list-members_of ms) ∙ h in
    ap (λ x. option_map_or (λ e. with_child (key j) (altered (change_here c) q e) (map_data ms)) x (map_data ms)) g ∙ by o
  where
    by : (o : Option Data) → option_map_or (λ e. with_child (key j) (altered (change_here c) q e) (map_data ms)) o (map_data ms) ≡ map_data (option_map_or (λ e. replaced_at j (changed q c e) ms) o ms)
    by None = refl
    by (Some e) = ap (λ xs. map_data (replaced_at j (changed q c e) xs)) (members_list-members_of ms)

replaced_beside : (k j : List ℕ) (n : Data) (ms : List (List ℕ × Data)) (q : List TreeStep) (c : TreeChange) (o : Option Data) → value_at j ms ≡ o → j ≢ k → Rises ms
    → map_data (put k n (option_map_or (λ e. replaced_at j (changed q c e) ms) o ms)) ≡ map_data (option_map_or (λ e. replaced_at j (changed q c e) (put k n ms)) o (put k n ms))
replaced_beside k j n ms q c None h apart up = refl
replaced_beside k j n ms q c (Some e) h apart up =
    ap map_data (sym (replaced-put j k e (changed q c e) n ms apart h
    (rises_replaced j (changed q c e) (put k n ms) (rises_put k n ms up)) (rises_put k n (replaced_at j (changed q c e) ms) (rises_replaced j (changed q c e) ms up))))

-- The entries that a change beside k makes of a map, and the same of the map with the entry at k.
abbrev pub entries_after : Located → List (List ℕ × Data) → List (List ℕ × Data)
entries_after unchanged ms = ms
entries_after (one [] (replace d)) ms = ms
entries_after (one [] (insert_item i d)) ms = ms
entries_after (one [] (insert_entry j d)) ms = put j d ms
entries_after (one [] (remove_item i)) ms = ms
entries_after (one [] (remove_entry j)) ms = without j ms
entries_after (one (nth i ∷ q) c) ms = ms
entries_after (one (key j ∷ q) c) ms = option_map_or (λ e. replaced_at j (changed q c e) ms) (value_at j ms) ms

pub member_after : (k : List ℕ) (e : Located) (ms : List (List ℕ × Data)) → IsBeside k e → applied e (map_data ms) ≡ map_data (entries_after e ms)
member_after k unchanged ms b = refl
member_after k (one [] (replace d)) ms b = absurd b
member_after k (one [] (insert_item i d)) ms b = refl
member_after k (one [] (insert_entry j d)) ms b = ap (λ xs. map_data (put j d xs)) (members_list-members_of ms)
member_after k (one [] (remove_item i)) ms b = refl
member_after k (one [] (remove_entry j)) ms b = ap (λ xs. map_data (without j xs)) (members_list-members_of ms)
member_after k (one (nth i ∷ q) c) ms b = refl
member_after k (one (key j ∷ q) c) ms b = replaced_in ms j q c (value_at j ms) refl

pub beside_lifts : (k : List ℕ) (n : Data) (e : Located) (ms : List (List ℕ × Data)) → IsBeside k e → Rises ms → inlined k n (entries_after e ms) ≡ applied e (inlined k n ms)
beside_lifts k n unchanged ms b up = refl
beside_lifts k n (one [] (replace d)) ms b up = absurd b
beside_lifts k n (one [] (insert_item i d)) ms b up = refl
beside_lifts k n (one [] (insert_entry j d)) ms b up =
    ap map_data (sym (put-put j k d n ms b (rises_put j d (put k n ms) (rises_put k n ms up)) (rises_put k n (put j d ms) (rises_put j d ms up))))
    ∙ sym (member_after k (one [] (insert_entry j d)) (put k n ms) b)
beside_lifts k n (one [] (remove_item i)) ms b up = refl
beside_lifts k n (one [] (remove_entry j)) ms b up =
    ap map_data (sym (without-put j k n ms b up (rises_without j (put k n ms) (rises_put k n ms up)) (rises_put k n (without j ms) (rises_without j ms up)) (rises_put k n ms up)))
    ∙ sym (member_after k (one [] (remove_entry j)) (put k n ms) b)
beside_lifts k n (one (nth i ∷ q) c) ms b up = refl
beside_lifts k n (one (key j ∷ q) c) ms b up =
    replaced_beside k j n ms q c (value_at j ms) refl b up
    ∙ sym (replaced_in (put k n ms) j q c (value_at j ms) (put-other k j n ms (λ p. b (sym p))))
