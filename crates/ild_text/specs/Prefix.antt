-- The members of a union that stand behind a prefix: the first one with whose prefix a text begins.
use Rattle.std.specs.Prelude.{◌≡◌, ℕ, ◌<◌, List, ◌++◌, Option, Some, MatchOption, length, slice_get}
use Rattle.std.specs.Option.{option_and_then}
use Rattle.ild_schema.specs.declared.def.Member.{Member}
use Rattle.ild_schema.specs.declared.def.Mark.{Mark}
use Rattle.ild_data.specs.Hex.{bytes_of_hex}
use Rattle.ild_schema.specs.Marks.{mark_text}

-- the bytes that the text of a mark stands for, if it is hexadecimal
abbrev pub bytes_mark : Mark → Option (List ℕ)
bytes_mark mark = option_and_then bytes_of_hex (mark_text mark)

-- the text begins with the prefix, and this stands behind it
pub record IsBehind (prefix : Option (List ℕ)) (text rest : List ℕ) : Type 0 where
  pub front : List ℕ
  pub known : prefix ≡ Some front
  pub whole : text ≡ front ++ rest

-- the text begins with the prefix of the member at this place
pub record IsPrefixed (prefix_of : Mark → Option (List ℕ)) (members : List Member) (text : List ℕ) (n : ℕ) (rest : List ℕ) : Type 0 where
  pub member : Member
  pub there : slice_get members n ≡ Some member
  pub behind : IsBehind (prefix_of member.mark) text rest

-- this member is the first of them, or there is none
abbrev pub IsFirstPrefixed : (Mark → Option (List ℕ)) → List Member → List ℕ → Option (ℕ × List ℕ) → Type 0
IsFirstPrefixed prefix_of members text r =
    MatchOption r
    ((n : ℕ) (rest : List ℕ) → IsPrefixed prefix_of members text n rest → ⊥)
    (λ p. IsPrefixed prefix_of members text p.0 p.1 × ((n : ℕ) (rest : List ℕ) → n < p.0 → IsPrefixed prefix_of members text n rest → ⊥))

-- what stands behind the prefix, where the text begins with it
abbrev pub Strips : Option (List ℕ) → List ℕ → Option (List ℕ) → Type 0
Strips prefix text r = MatchOption r ((rest : List ℕ) → IsBehind prefix text rest → ⊥) (IsBehind prefix text)

-- no member's prefix begins with another one's
abbrev pub AreApart : (Mark → Option (List ℕ)) → List Member → Type 0
AreApart prefix_of members =
    (i j : ℕ) (m n : Member) (p more : List ℕ) → slice_get members i ≡ Some m → slice_get members j ≡ Some n → prefix_of m.mark ≡ Some p → prefix_of n.mark ≡ Some (p ++ more) → i ≡ j

-- where that is so, at most one member stands behind its prefix in a text
abbrev pub OnePrefixed : Type 0
OnePrefixed =
    (prefix_of : Mark → Option (List ℕ)) (members : List Member) (text : List ℕ) (i j : ℕ) (rest other : List ℕ) → AreApart prefix_of members → IsPrefixed prefix_of members text i rest → IsPrefixed prefix_of members text j other → (i ≡ j) × (rest ≡ other)

-- digits and a text, and what is left of both: what stands behind the ones is what stands behind the others
pub record PassesDigits (digits text left rest : List ℕ) : Type 0 where
  pub fewer : length left < length digits
  pub same : (r : List ℕ) → (IsBehind (bytes_of_hex left) rest r → IsBehind (bytes_of_hex digits) text r) × (IsBehind (bytes_of_hex digits) text r → IsBehind (bytes_of_hex left) rest r)
