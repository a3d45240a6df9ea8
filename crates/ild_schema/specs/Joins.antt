-- Texts of parts with a delimiter between them. Such a text is told apart again where the delimiter occurs in it at the
-- places between the parts alone.
use Rattle.std.specs.Prelude.{◌≡◌, ◌⊎◌, ◌↔◌, ℕ, ◌+◌, ◌<◌, ◌≤◌, List, [], ◌∷◌, ◌++◌, length, take, drop, map}
use Rattle.std.specs.List.{AllByRecursion}

-- the text from this place on begins with the delimiter
abbrev pub Occurs : List ℕ → List ℕ → ℕ → Type 0
Occurs delim text at = take (length delim) (drop at text) ≡ delim

-- two occurrences overlap: the later one begins inside the earlier one
pub record Overlap (delim text : List ℕ) : Type 0 where
  pub earlier : ℕ
  pub later : ℕ
  pub behind : earlier < later
  pub inside : later < earlier + length delim
  pub here : Occurs delim text earlier
  pub there : Occurs delim text later

-- the text of parts
abbrev pub joined : List ℕ → List (List ℕ) → List ℕ
joined delim [] = []
joined delim (part ∷ []) = part
joined delim (part ∷ next ∷ parts) = part ++ (delim ++ joined delim (next ∷ parts))

-- a joint of parts: a place at which a delimiter between them begins
abbrev pub IsJoint : List ℕ → List (List ℕ) → ℕ → Type 0
IsJoint delim [] at = ⊥
IsJoint delim (part ∷ []) at = ⊥
IsJoint delim (part ∷ next ∷ parts) at =
    (at ≡ length part) ⊎ ((further : ℕ) × IsJoint delim (next ∷ parts) further × (at ≡ length part + length delim + further))

-- the text is that of these parts, one or more, and the delimiter occurs in it at their joints and nowhere else
pub record IsJoin (delim : List ℕ) (parts : List (List ℕ)) (text : List ℕ) : Type 0 where
  pub some : 1 ≤ length parts
  pub whole : joined delim parts ≡ text
  pub joints : (at : ℕ) → Occurs delim text at ↔ IsJoint delim parts at

-- the text of a key and a value
abbrev pub pair_text : List ℕ → List ℕ × List ℕ → List ℕ
pair_text inner pair = pair.0 ++ (inner ++ pair.1)

-- the inner delimiter occurs in that text nowhere before the end of the key
abbrev pub IsPair : List ℕ → List ℕ × List ℕ → Type 0
IsPair inner pair = (at : ℕ) → Occurs inner (pair_text inner pair) at → length pair.0 ≤ at

-- the text is that of these pairs; of no pairs it is empty
abbrev pub IsPairs : List ℕ → List ℕ → List (List ℕ × List ℕ) → List ℕ → Type 0
IsPairs inner entry [] text = text ≡ []
IsPairs inner entry (pair ∷ pairs) text =
    IsJoin entry (pair_text inner pair ∷ map (pair_text inner) pairs) text × AllByRecursion (IsPair inner) (pair ∷ pairs)

-- a text has one list of parts, and one list of pairs
abbrev pub OneJoin : Type 0
OneJoin =
    (delim text : List ℕ) (parts others : List (List ℕ)) → 0 < length delim → IsJoin delim parts text → IsJoin delim others text → parts ≡ others

abbrev pub OnePairs : Type 0
OnePairs =
    (inner entry text : List ℕ) (pairs others : List (List ℕ × List ℕ)) → 0 < length inner → 0 < length entry → IsPairs inner entry pairs text → IsPairs inner entry others text → pairs ≡ others

-- in a text of parts no two occurrences overlap
abbrev pub JoinsAreApart : Type 0
JoinsAreApart =
    (delim text : List ℕ) (parts : List (List ℕ)) → IsJoin delim parts text → Overlap delim text → ⊥

-- parts of which there are as many as the text has are the parts that it has
abbrev pub JoinsByCount : Type 0
JoinsByCount =
    (delim : List ℕ) (parts others : List (List ℕ)) → 0 < length delim → IsJoin delim others (joined delim parts) → length parts ≡ length others → parts ≡ others

-- pairs whose keys are those of the pairs that their text has are the pairs that it has
abbrev pub PairsByKeys : Type 0
PairsByKeys =
    (inner entry : List ℕ) (pairs others : List (List ℕ × List ℕ)) → 0 < length entry → IsPairs inner entry others (joined entry (map (pair_text inner) pairs)) → map (λ pair. pair.0) pairs ≡ map (λ pair. pair.0) others → pairs ≡ others
