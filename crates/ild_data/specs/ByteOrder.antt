-- Entries of a HAMT in the bytewise order of their keys (IPLD HashMap, "Bucket": entries are sorted by key).
use Rattle.std.specs.Prelude.{ℕ, Bool, true, ◌&&◌, not, is_some, T, List, [], ◌∷◌}
use Rattle.std.specs.List.{filter}
use Rattle.std.specs.Ordering.{nat_cmp, eq_by_cmp}
use Rattle.std.specs.declared.cmp.Ordering.{Ordering}
use Rattle.std.specs.Cmp.Lexicographic.{slice_cmp}
use Rattle.std.specs.FinMap.{find, put, is_sorted}
use Rattle.ild_data.specs.Data.{Data}

abbrev pub bytewise : List ℕ → List ℕ → Ordering
bytewise = slice_cmp nat_cmp

-- the entries in that order; of a key that stands twice the first
abbrev pub in_byte_order : List (List ℕ × Data) → List (List ℕ × Data)
in_byte_order [] = []
in_byte_order (e ∷ es) = put bytewise e.0 e.1 (in_byte_order es)

abbrev pub no_key_twice : List (List ℕ × Data) → Bool
no_key_twice [] = true
no_key_twice (e ∷ es) = not (is_some (find bytewise e.0 es)) && no_key_twice es

-- in that order, no key twice
abbrev pub IsInOrder : List (List ℕ × Data) → Type 0
IsInOrder es = T (is_sorted bytewise es)

-- the entries without the key
abbrev pub without : List ℕ → List (List ℕ × Data) → List (List ℕ × Data)
without k es = filter (λ e. not (eq_by_cmp bytewise k e.0)) es
