-- Pairs of which one is changed, and their text.
use Rattle.std.specs.Prelude.{ℕ, List, [], slice_index_or, slice_set, insert, remove, ◌≡◌, IfOk, Option, Result, String, map, string_bytes}
use Rattle.ild_path_text.specs.declared.change.PairChange.{PairChange}
use Rattle.ild_path_text.specs.declared.change.PairChange.TheVariants as C
use Rattle.std.specs.List.{AllByRecursion}
use Rattle.std.specs.declared.alloc.AllocError.{AllocError}
use Rattle.std.specs.declared.alloc.Global.{Global}
use Rattle.ild_schema.specs.Joins.{IsPair, joined, pair_text}
use Rattle.ild_path_text.specs.Left.{parts_left}

-- the pair at a place has a new value
abbrev pub value_set : ℕ → List ℕ → List (List ℕ × List ℕ) → List (List ℕ × List ℕ)
value_set place new ps = slice_set ps place ((slice_index_or ps place ([], [])).0, new)

abbrev pub changed : PairChange → List (List ℕ × List ℕ) → List (List ℕ × List ℕ)
changed (C.Set place new) ps = value_set place new.now ps
changed (C.Insert place key new) ps = insert ps place (key.now, new.now)
changed (C.Delete place) ps = remove ps place

-- the answer is the text of some pairs, where there is memory
abbrev pub IsTextOf : List ℕ → List ℕ → List (List ℕ × List ℕ) → Result (String Global) AllocError → Type 0
IsTextOf inner entry pairs result = IfOk result (λ out. string_bytes out ≡ joined entry (map (pair_text inner) pairs))

-- of the pairs that are left of a text, the one at a place is given a new value: the key ends at the first inner delimiter
abbrev pub SetsValue : List ℕ → List ℕ → Option (List ℕ) → ℕ → List ℕ → Result (String Global) AllocError → Type 0
SetsValue inner entry left place new result =
    (pairs : List (List ℕ × List ℕ)) → map (pair_text inner) pairs ≡ parts_left entry left → AllByRecursion (IsPair inner) pairs → IsTextOf inner entry (value_set place new pairs) result

-- another pair is put before the one at a place
abbrev pub InsertsPair : List ℕ → List ℕ → Option (List ℕ) → ℕ → List ℕ → List ℕ → Result (String Global) AllocError → Type 0
InsertsPair inner entry left place key new result =
    (pairs : List (List ℕ × List ℕ)) → map (pair_text inner) pairs ≡ parts_left entry left → IsTextOf inner entry (insert pairs place (key, new)) result
