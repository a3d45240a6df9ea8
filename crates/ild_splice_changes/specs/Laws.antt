-- Laws of the changes of a tree, over all trees and places.
use Rattle.std.specs.Prelude.{◌≡◌, ℕ, ◌+◌, ◌-◌, ◌<◌, ◌≤◌, List, ◌∷◌, ◌++◌, length, take, drop, Some, None}
use Rattle.ild_data.specs.Data.{Data, list, map, items_of, items_list, members_of, members_list, Items, Members}
use Rattle.ild_data.specs.Key.{value_at}
use Rattle.ild_data.specs.Spell.{head, spell, spell_text, spell_items, spell_members}
use Rattle.ild_splice_changes.specs.TreeChange.{TreeStep, TreeChange, replace, insert_item, insert_entry, remove_item, remove_entry, part_at, changed, change_here}

abbrev pub ChangesNest : Type 0
ChangesNest = (q p : List TreeStep) (c : TreeChange) (t d : Data) → part_at q t ≡ Some d → changed (q ++ p) c t ≡ changed q (replace (changed p c d)) t

-- whole is what stands in front of the part's spelling, that spelling, and what stands behind; and with another part there, that part's
pub record Around (whole : List ℕ) (part : Data) (with : Data → List ℕ) : Type 0 where
  pub front : List ℕ
  pub behind : List ℕ
  pub now : whole ≡ front ++ (spell part ++ behind)
  pub each : (e : Data) → with e ≡ front ++ (spell e ++ behind)

abbrev pub PartsAreSpans : Type 0
PartsAreSpans = (q : List TreeStep) (t d : Data) → part_at q t ≡ Some d → Around (spell t) d (λ e. spell (changed q (replace e) t))

-- so each of the five changes, at each place, changes the span of one part to the spelling of what the part becomes
pub record IsSpan (t d : Data) (q : List TreeStep) (c : TreeChange) : Type 0 where
  pub front : List ℕ
  pub behind : List ℕ
  pub now : spell t ≡ front ++ (spell d ++ behind)
  pub after : spell (changed q c t) ≡ front ++ (spell (change_here c d) ++ behind)

abbrev pub ChangesAreSpans : Type 0
ChangesAreSpans = (q : List TreeStep) (c : TreeChange) (t d : Data) → part_at q t ≡ Some d → IsSpan t d q c

abbrev pub spell_list : List Data → List ℕ
spell_list ds = spell_items (items_of ds)

abbrev pub ItemsCome : Type 0
ItemsCome = (ds : Items) (i : ℕ) (e : Data) → i ≤ length (items_list ds)
    → spell (change_here (insert_item i e) (list ds)) ≡ head 4 (length (items_list ds) + 1) ++ (spell_list (take i (items_list ds)) ++ (spell e ++ spell_list (drop i (items_list ds))))

abbrev pub ItemsGo : Type 0
ItemsGo = (ds : Items) (i : ℕ) → i < length (items_list ds)
    → spell (change_here (remove_item i) (list ds)) ≡ head 4 (length (items_list ds) - 1) ++ (spell_list (take i (items_list ds)) ++ spell_list (drop (i + 1) (items_list ds)))

abbrev pub spell_pairs : List (List ℕ × Data) → List ℕ
spell_pairs ms = spell_members (members_of ms)

-- entries, and how many there are, with one that stands between the others, and without it
pub record Splits (with without : List (List ℕ × Data)) (k : List ℕ) (d : Data) : Type 0 where
  pub front : List (List ℕ × Data)
  pub behind : List (List ℕ × Data)
  pub here : with ≡ front ++ (k, d) ∷ behind
  pub gone : without ≡ front ++ behind

-- what a map's spelling is with the entry and without it
pub record EntrySpans (with without : Data) (count : ℕ) (k : List ℕ) (d : Data) : Type 0 where
  pub front : List ℕ
  pub behind : List ℕ
  pub here : spell with ≡ head 5 (count + 1) ++ (front ++ (spell_text k ++ (spell d ++ behind)))
  pub gone : spell without ≡ head 5 count ++ (front ++ behind)

abbrev pub EntriesCome : Type 0
EntriesCome = (ms : Members) (k : List ℕ) (d : Data) → value_at k (members_list ms) ≡ None
    → EntrySpans (change_here (insert_entry k d) (map ms)) (map ms) (length (members_list ms)) k d

abbrev pub EntriesGo : Type 0
EntriesGo = (ms : Members) (k : List ℕ) (d : Data) → value_at k (members_list ms) ≡ Some d
    → EntrySpans (map ms) (change_here (remove_entry k) (map ms)) (length (members_list ms) - 1) k d
