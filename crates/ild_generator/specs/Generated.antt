-- What the generator comes to: a fold over a plain map from texts to integers, which starts empty.
use Rattle.std.specs.Prelude.{ℕ, zero, suc, ◌+◌, pos, List, [], ◌++◌, length, Option, Some, None, is_some, not, if◌then◌else◌}
use Rattle.std.specs.Option.{option_map_or}
use Rattle.ild_data.specs.Data.{Data}
use Rattle.ild_data.specs.Key.{put, value_at, without}
use Rattle.ild_data.specs.Spell.{id_of}
use Rattle.ild_path_edits.specs.Judged.{are_sized}
use Rattle.ild_script_meaning.specs.PlainValue.{Value as Entries}
use Rattle.ild_schema.specs.Slots.{plainly}
use Rattle.ild_script.specs.declared.reply.No.{No}
use Rattle.ild_script.specs.declared.reply.No.TheVariants as N
use Rattle.ild_script_meaning.specs.PlainMap.{as_value}
use Rattle.ild_typed.specs.Hamt.{whole}
use Rattle.ild_typed.specs.Judged.{exhausts}
use Rattle.ild_typed.specs.Represented.{represented}
use Rattle.ild_typed.specs.Stands.{bare, blocks_of, root_id}
use Rattle.ild_generator.specs.Numbers.{next, is_deletion, key_of}
use Rattle.ild_generator.specs.Schema.{generator_rows, generator_type}

-- the number, the entries under rising keys, and how many keys were set, were deleted, and were not there to be deleted
pub record Generated : Type 0 where
  pub number : ℕ
  pub entries : Entries
  pub sets : ℕ
  pub dels : ℕ
  pub absent : ℕ

-- ---- a map as the value of the schema's type

-- why no store can hold it, if none can: it has no trie, or a block of it is too long
abbrev pub refusal : Entries → Option No
refusal es =
    if exhausts id_of generator_rows (plainly generator_type) (as_value es) then Some N.Exhausted
    else if not (are_sized bare id_of generator_rows generator_type (as_value es)) then Some N.Size
    else None

abbrev pub tree_of : Entries → Option Data
tree_of es = represented (whole id_of) generator_rows (plainly generator_type) (as_value es)

-- its blocks, the root block first, and the id of that
abbrev pub blocks_in : Entries → List (List ℕ)
blocks_in es = option_map_or (λ d. blocks_of bare id_of generator_rows generator_type (as_value es) d) (tree_of es) []

abbrev pub root_in : Entries → List ℕ
root_in es = option_map_or (root_id bare) (tree_of es) []

-- ---- a step

-- a map that no store can hold leaves all, and isn't counted
abbrev pub with_set : Generated → Entries → Option No → Generated
with_set s es None = record s { entries = es; sets = s.sets + 1 }
with_set s es (Some cause) = s

abbrev pub with_deletion : Generated → Entries → Option No → Generated
with_deletion s es None = record s { entries = es; dels = s.dels + 1 }
with_deletion s es (Some cause) = s

-- a key that isn't there can't be deleted
abbrev pub deleted : Generated → List ℕ → Generated
deleted s k = if is_some (value_at k s.entries) then with_deletion s (without k s.entries) (refusal (without k s.entries)) else record s { absent = s.absent + 1 }

abbrev pub set_to : Generated → List ℕ → ℕ → Generated
set_to s k i = with_set s (put k (pos i) s.entries) (refusal (put k (pos i) s.entries))

-- what the number asks for in step i
abbrev pub obeyed : ℕ → Generated → Generated
obeyed i s = if is_deletion s.number then deleted s (key_of s.number) else set_to s (key_of s.number) i

abbrev pub advanced : Generated → Generated
advanced s = record s { number = next s.number }

-- ---- the fold over so many steps

abbrev pub generated : ℕ → ℕ → Generated
generated seed zero = record { number = seed; entries = []; sets = 0; dels = 0; absent = 0 }
generated seed (suc i) = obeyed i (advanced (generated seed i))

-- the map that a step asks for, whether a store can hold it or not
abbrev pub asked_map : ℕ → Generated → Entries
asked_map i s = if is_deletion s.number then without (key_of s.number) s.entries else put (key_of s.number) (pos i) s.entries

-- the blocks of the maps that the steps ask for, and of the empty one
abbrev pub blocks_through : ℕ → ℕ → List (List ℕ)
blocks_through seed zero = blocks_in []
blocks_through seed (suc i) = blocks_through seed i ++ blocks_in (asked_map i (advanced (generated seed i)))
