-- Why one piece of a block is refused where so much room is left, its parts apart.
use Rattle.std.specs.Prelude.{◌≡◌, ℕ, pos, codes, Bool, false, cond, not, nat_lt, ◌⊎◌, List, Option, Some, None}
use Rattle.std.specs.Option.{option_or}
use Rattle.ild_data.specs.Data as T
use Rattle.ild_data.specs.Data.{Data, depth}
use Rattle.ild_data.specs.Key.{value_at}
use Rattle.ild_schema.specs.declared.number.Slot.{Slot}
use Rattle.ild_schema.specs.declared.def.TypeDef.{TypeDef}
use Rattle.ild_schema.specs.declared.def.TypeDef.TheVariants as D
use Rattle.ild_schema.specs.declared.def.MapForm.{MapForm}
use Rattle.ild_schema.specs.declared.def.MapForm.TheVariants as MF
use Rattle.ild_schema.specs.Value as V
use Rattle.ild_typed.specs.Fields.{same_int}
use Rattle.ild_typed.specs.Strings.{members_in}
use Rattle.ild_typed.specs.Levels.{levels_of}
use Rattle.ild_typed.specs.Node.{IsRoot}
use Rattle.ild_data.specs.Trie as Trie
use Rattle.ild_data.specs.declared.hamt_shape.HamtShape.{HamtShape}
use Rattle.ild_typed.specs.Why as W
use Rattle.ild_typed.specs.Why.{Why}
use Rattle.ild_typed.specs.Named.{items_in, where_some, pair_names, split_entries, names, has_twice}
use Rattle.ild_typed.specs.Causes.{why_of}

-- null at a place where it may stand
abbrev pub is_null_there : Slot → Data → Bool
is_null_there s T.null = s.nullable
is_null_there s t = false

-- a key of pairs stands twice
abbrev pub repeats_key : MapForm → Data → Bool
repeats_key MF.ListPairs t = where_some (λ ds. has_twice (pair_names ds)) (items_in t)
repeats_key (MF.StringPairs inner entry) t = where_some (λ es. has_twice (names es)) (split_entries inner entry t)
repeats_key form t = false

abbrev pub keys_why : TypeDef → Data → Option Why
keys_why (D.Map key key_at value at form) t = cond (repeats_key form t) (Some W.Repeat) None
keys_why d t = None

-- the room is less than the levels of the form, of any data less than their depth
abbrev pub needs : TypeDef → Data → ℕ
needs D.Any t = depth t
needs d t = levels_of d V.null

abbrev pub room_why : ℕ → TypeDef → Data → Option Why
room_why room d t = cond (nat_lt room (needs d t)) (Some W.Depth) None

-- an integer stands there, and another
abbrev pub is_odd : ℕ → Data → Bool
is_odd n (T.integer i) = not (same_int (pos n) i)
is_odd n d = false

abbrev pub has_odd : List ℕ → ℕ → Data → Bool
has_odd k n t = where_some (λ ms. where_some (is_odd n) (value_at k ms)) (members_in t)

abbrev pub root_why : HamtShape → Data → Option Why
root_why p t = cond (has_odd (codes "hashAlg") 18 t) (Some W.HashAlg) (cond (has_odd (codes "bucketSize") p.bucket t) (Some W.BucketSize) None)

abbrev pub hamt_why : TypeDef → Data → Option Why
hamt_why (D.Map key key_at value at (MF.Hamt p)) t = root_why p t
hamt_why d t = None

abbrev pub why_at : ℕ → TypeDef → Data → Option Why
why_at room d t = option_or (why_of d t) (option_or (keys_why d t) (option_or (room_why room d t) (hamt_why d t)))

-- data that are no root of a HAMT of this shape
abbrev pub IsNoRoot : HamtShape → Data → Type 0
IsNoRoot p t = (slots : List Trie.TrieSlot) → IsRoot p slots t → ⊥

abbrev pub HasNoRoot : TypeDef → Data → Type 0
HasNoRoot (D.Map key key_at value at (MF.Hamt p)) t = IsNoRoot p t
HasNoRoot d t = ⊥

abbrev pub IsWhy : ℕ → TypeDef → Data → Why → Type 0
IsWhy room d t w = (why_at room d t ≡ Some w) ⊎ ((why_at room d t ≡ None) × HasNoRoot d t × (w ≡ W.Trie))
