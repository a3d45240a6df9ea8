-- Prefixes in order: each stands before the next by the first byte in which they differ.
use Rattle.std.specs.Prelude.{◌≡◌, ℕ, ◌<◌, ◌≤◌, nat_lt, if◌then◌else◌, List, [], ◌∷◌, length, slice_index_or}
use Rattle.std.specs.declared.cmp.Ordering.{Ordering}
use Rattle.std.specs.declared.cmp.Ordering.TheVariants.{Less, Equal, Greater}

-- equal where one begins with the other
abbrev pub prefix_cmp : List ℕ → List ℕ → Ordering
prefix_cmp [] b = Equal
prefix_cmp (x ∷ xs) [] = Equal
prefix_cmp (x ∷ xs) (y ∷ ys) = if nat_lt x y then Less else (if nat_lt y x then Greater else prefix_cmp xs ys)

-- each is before all that come later
pub record IsApart (seen : List (List ℕ)) : Type 0 where
  pub below : (i j : ℕ) (d e : List ℕ) → i < j → j < length seen → prefix_cmp (slice_index_or seen i d) (slice_index_or seen j e) ≡ Less

-- a place between the prefixes before another and those behind it
pub record IsBetween (prefix : List ℕ) (seen : List (List ℕ)) (i : ℕ) : Type 0 where
  pub within : i ≤ length seen
  pub before : (j : ℕ) (d : List ℕ) → j < i → prefix_cmp (slice_index_or seen j d) prefix ≡ Less
  pub behind : (j : ℕ) (d : List ℕ) → i ≤ j → j < length seen → prefix_cmp (slice_index_or seen j d) prefix ≡ Greater
