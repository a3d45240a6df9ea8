-- How deep lists and maps of data nest: as the deepest of their parts.
use Rattle.std.proofs.Common.{◌≡◌, ℕ, ◌+◌, ◌-◌, ◌≤◌, List, [], ◌∷◌, max, arith}
use Rattle.std.specs.List.{AllByRecursion}
use Rattle.ild_data.specs.Data as D
use Rattle.ild_data.specs.Data.{Data, Items, no_items, item, items_list, Members, no_members, member, members_list, depth, items_depth, members_depth}

abbrev pub ShallowEntry : ℕ → List ℕ × Data → Type 0
ShallowEntry r m = depth m.1 ≤ r

abbrev pub Shallow : ℕ → Data → Type 0
Shallow r d = depth d ≤ r

pub items_each : (ds : Items) (r : ℕ) → items_depth ds ≤ r → AllByRecursion (Shallow r) (items_list ds)
items_each no_items r h = tt
items_each (item d ds) r h = (first (depth d) (items_depth ds) r h, items_each ds r (rest (depth d) (items_depth ds) r h))
  where
    first : (a b r : ℕ) → max a b ≤ r → a ≤ r
    first a b r h = omega (arith, h)

    rest : (a b r : ℕ) → max a b ≤ r → b ≤ r
    rest a b r h = omega (arith, h)

pub each_items : (ds : Items) (r : ℕ) → AllByRecursion (Shallow r) (items_list ds) → items_depth ds ≤ r
each_items no_items r h = omega (arith)
each_items (item d ds) r h = both (depth d) (items_depth ds) r h.0 (each_items ds r h.1)
  where
    both : (a b r : ℕ) → a ≤ r → b ≤ r → max a b ≤ r
    both a b r h k = omega (arith, h, k)

pub members_each : (ms : Members) (r : ℕ) → members_depth ms ≤ r → AllByRecursion (ShallowEntry r) (members_list ms)
members_each no_members r h = tt
members_each (member k d ms) r h = (first (depth d) (members_depth ms) r h, members_each ms r (rest (depth d) (members_depth ms) r h))
  where
    first : (a b r : ℕ) → max a b ≤ r → a ≤ r
    first a b r h = omega (arith, h)

    rest : (a b r : ℕ) → max a b ≤ r → b ≤ r
    rest a b r h = omega (arith, h)

pub each_members : (ms : Members) (r : ℕ) → AllByRecursion (ShallowEntry r) (members_list ms) → members_depth ms ≤ r
each_members no_members r h = omega (arith)
each_members (member k d ms) r h = both (depth d) (members_depth ms) r h.0 (each_members ms r h.1)
  where
    both : (a b r : ℕ) → a ≤ r → b ≤ r → max a b ≤ r
    both a b r h k = omega (arith, h, k)

-- a list or a map nests one level more than its parts
pub one_more : (n i : ℕ) → n + 1 ≤ i → (1 ≤ i) × (n ≤ i - 1)
one_more n i h = (omega (arith, h), omega (arith, h))

pub one_less : (n i : ℕ) → 1 ≤ i → n ≤ i - 1 → n + 1 ≤ i
one_less n i a b = omega (arith, a, b)
