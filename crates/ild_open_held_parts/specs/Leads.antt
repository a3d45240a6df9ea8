-- Where a path leads in the front of a value that a store holds: to the front of the part, or to the root of a HAMT which has to be
-- entered, from where on the path leads as in the HAMT's value (IPLD Schemas; IPLD HashMap).
use Rattle.std.specs.Prelude.{◌≡◌, ℕ, ◌+◌, true, false, List, [], ◌∷◌, ◌++◌, length, Option, Some, None}
use Rattle.ild_data.specs.Data.{Data}
use Rattle.ild_schema.specs.declared.row.Row.{Row}
use Rattle.ild_typed.specs.At.{InSlot, Reach, here, enter, no_path, at, met}
use Rattle.ild_open_held.specs.Held.{IsHeld}
use Rattle.ild_typed_fronts.specs.Front.{front_in, is_root}

module _ (block : List ℕ → Option (List ℕ)) (h : List ℕ → List ℕ) (rows : List Row) (room : ℕ) where
  -- a value in its slot that is held, and its front
  pub record IsFrontOf (f p : InSlot) : Type 0 where
    pub tree : Data
    pub held : IsHeld block h rows room p.0 tree p.1
    pub front : f ≡ front_in h rows p

-- of all holders, HAMTs alone count anything for a segment
abbrev pub CountsHamts : List Row → (InSlot → List ℕ → ℕ) → Type 0
CountsHamts rows count = (p : InSlot) (s : List ℕ) → is_root rows p ≡ false → count p s ≡ 0

module _ (block : List ℕ → Option (List ℕ)) (h : List ℕ → List ℕ) (rows : List Row) (room : ℕ) where
  -- to this part, with no HAMT on the way
  pub record LeadsHere (f p : InSlot) (path : List (List ℕ)) : Type 0 where
    pub part : InSlot
    pub is : IsFrontOf block h rows room f part
    pub there : at rows p path ≡ Some part
    pub free : (count : InSlot → List ℕ → ℕ) → CountsHamts rows count → met rows count p path ≡ 0

  -- to this HAMT: so many segments lead to it, the next is its key, and the others lead on from there
  pub record LeadsIn (f p : InSlot) (n : ℕ) (path : List (List ℕ)) : Type 0 where
    pub hamt : InSlot
    pub is : IsFrontOf block h rows room f hamt
    pub root : is_root rows hamt ≡ true
    pub before : List (List ℕ)
    pub key : List ℕ
    pub behind : List (List ℕ)
    pub split : path ≡ before ++ key ∷ behind
    pub many : length before ≡ n
    pub goes : at rows p path ≡ at rows hamt (key ∷ behind)
    pub counts : (count : InSlot → List ℕ → ℕ) → CountsHamts rows count → met rows count p path ≡ met rows count hamt (key ∷ behind)

  -- what is reached of the front, where segments are counted from k on
  abbrev pub Leads : ℕ → InSlot → List (List ℕ) → Reach → Type 0
  Leads k p path (here f) = LeadsHere f p path
  Leads k p path (enter f j) = (n : ℕ) × (j ≡ k + n) × LeadsIn f p n path
  Leads k p path (no_path j) = at rows p path ≡ None
